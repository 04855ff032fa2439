-- The loop that waits for the disk, by induction on the steps that are left, three at a time.
use Rattle.std.proofs.Common.{◌≡◌, ℕ, zero, suc, ◌+◌, ◌≤◌, true, [], ◌∷◌, refl, sym, ap, ◌∙◌, subst, arith}
use Rattle.std.specs.Prelude.{if◌then◌else◌, ◌==◌}
use Rattle.mips_table.specs.declared.inst.Inst.TheVariants.{Lw}
use Rattle.mips_table.specs.Device.{Pending, Idle, Reading, Writing, COMMAND, is_busy}
use Rattle.mips_table.specs.Code.{put, Contents, with_reg, Behind, World, Sound, at_with, settle, filled, buffer_of, Reaches, CodeAt}
use Rattle.mips_table.proofs.PutsChangeOneWord.{put_other}
use Rattle.masm.specs.Says.{Hears}
use Rattle.masm.specs.Laws.{RunsCompose, StraightRuns, LoopRuns}
use Rattle.masm.specs.Wait.{wait_code, wait_steps, words_after, behind_after, Waited, WaitRuns}

module _ (w : World) (f : Sound w) (system : w.system ≡ true) (runs : RunsCompose) (straight : StraightRuns w) (loop : LoopRuns w (Lw 1 0 0xf004 ∷ []) 1 []) (n : ℕ) (code : CodeAt w n wait_code) where
  -- the status is read
  asked : (c : Contents) (d : Behind) (v : ℕ) → (if is_busy d.pending then 1 else 0) ≡ v → Reaches w 1 (at_with n c d) (settle (n + 1) (with_reg c 1 v) d)
  asked c d v is =
      let small = f.small in
      straight.one (Lw 1 0 0xf004) (Hears COMMAND v) n c d code.0 refl (refl, omega arith, system, (λ e. absurd (omega (arith, e))), is)

  -- a turn that read 1
  turned : (c c1 c2 c3 : Contents) (d d1 d2 d3 : Behind) → is_busy d.pending ≡ true → c1.regs 1 ≡ 1 → settle (n + 1) (with_reg c 1 1) d ≡ at_with (n + 1) c1 d1 → settle (n + 1 + 1) c1 d1 ≡ at_with (n + 1 + 1) c2 d2 → settle n c2 d2 ≡ at_with n c3 d3 → Reaches w 3 (at_with n c d) (at_with n c3 d3)
  turned c c1 c2 c3 d d1 d2 d3 busy one s1 s2 s3 =
      let a = subst (λ t. Reaches w 1 (at_with n c d) t) s1 (asked c d 1 (ap (λ b. if b then 1 else 0) busy)) in
      let b = subst (λ t. Reaches w 1 (at_with (n + 1) c1 d1) t) s2 (loop.enters n c1 d1 code (λ z. absurd (omega (arith, one, z)))) in
      let e : n + 1 + 1 + 0 ≡ n + 1 + 1 = omega arith in
      let g = subst (λ t. Reaches w 1 (at_with (n + 1 + 1) c2 d2) t) s3 (subst (λ m. Reaches w 1 (at_with m c2 d2) (settle n c2 d2)) e (loop.again n c2 d2 code)) in
      runs.joined w 1 2 _ _ _ a (runs.joined w 1 1 _ _ _ b g)

  -- the loop's end is reached within m steps, with these words
  Waits : ℕ → (ℕ → ℕ) → Contents → Behind → Behind → Type 0
  Waits m words c d d' = (c' : Contents) × Waited words c c' × Reaches w m (at_with n c d) (at_with (n + 3) c' d')

  ended : (c : Contents) (d : Behind) → d.pending ≡ Idle → Waits 2 c.memory c d d
  unfolding Waits
  ended c d idle =
      let c1 = with_reg c 1 0 in
      let a = subst (λ t. Reaches w 1 (at_with n c d) t) (runs.settles (n + 1) c1 d idle) (asked c d 0 (ap (λ p. if is_busy p then 1 else 0) idle)) in
      (c1, record { words = refl; status = refl; regs = λ r ne. put_other c.regs 1 0 r ne; hi = refl; lo = refl; special = refl }, loop.ends n 1 c d c1 d code a idle refl)

  -- behind a turn that left a 1 in register 1
  behind : (m k : ℕ) (words : ℕ → ℕ) (c c3 : Contents) (d d3 d' : Behind) → c3.regs ≡ put c.regs 1 1 → c3.hi ≡ c.hi → c3.lo ≡ c.lo → c3.special ≡ c.special → 3 + m ≤ k → Reaches w 3 (at_with n c d) (at_with n c3 d3) → Waits m words c3 d3 d' → Waits k words c d d'
  unfolding Waits
  behind m k words c c3 d d3 d' e eh el es le run x = (
    x.0,
    record { words = x.1.words; status = x.1.status; regs = λ r ne. x.1.regs r ne ∙ ap (λ g. g r) e ∙ put_other c.regs 1 1 r ne; hi = x.1.hi ∙ eh; lo = x.1.lo ∙ el; special = x.1.special ∙ es },
    runs.later w (3 + m) k _ _ le (runs.joined w 3 m _ _ _ run x.2),
  )

  -- a command that counts down: k b is what is behind the ports with b steps left
  waits : (k : ℕ → Behind) (m m' : ℕ → ℕ) (end : Behind) → ((b : ℕ) → is_busy (k b).pending ≡ true) → ((b p : ℕ) (c : Contents) → settle p c (k (suc b)) ≡ at_with p c (k b)) → ((p : ℕ) (c : Contents) → c.memory ≡ m → settle p c (k 0) ≡ at_with p (record c { memory = m' }) end) → end.pending ≡ Idle → (b : ℕ) (c : Contents) → c.memory ≡ m → Waits (b + 5) m' c (k b) end
  waits k m m' end busy falls last idle zero c h =
      let c1 : Contents = record (with_reg c 1 1) { memory = m' } in
      let run = turned c c1 c1 c1 (k 0) end end end (busy 0) refl (last (n + 1) (with_reg c 1 1) h) (runs.settles (n + 1 + 1) c1 end idle) (runs.settles n c1 end idle) in
      behind 2 (0 + 5) m' c c1 (k 0) end end refl refl refl refl (omega arith) run (ended c1 end idle)
  waits k m m' end busy falls last idle (suc zero) c h =
      let c1 = with_reg c 1 1 in
      let c2 : Contents = record (with_reg c 1 1) { memory = m' } in
      let run = turned c c1 c2 c2 (k 1) (k 0) end end (busy 1) refl (falls 0 (n + 1) c1) (last (n + 1 + 1) c1 h) (runs.settles n c2 end idle) in
      behind 2 (1 + 5) m' c c2 (k 1) end end refl refl refl refl (omega arith) run (ended c2 end idle)
  waits k m m' end busy falls last idle (suc (suc zero)) c h =
      let c1 = with_reg c 1 1 in
      let c2 : Contents = record (with_reg c 1 1) { memory = m' } in
      let run = turned c c1 c1 c2 (k 2) (k 1) (k 0) end (busy 2) refl (falls 1 (n + 1) c1) (falls 0 (n + 1 + 1) c1) (last n c1 h) in
      behind 2 (2 + 5) m' c c2 (k 2) end end refl refl refl refl (omega arith) run (ended c2 end idle)
  waits k m m' end busy falls last idle (suc (suc (suc b))) c h =
      let c1 = with_reg c 1 1 in
      let run = turned c c1 c1 c1 (k (suc (suc (suc b)))) (k (suc (suc b))) (k (suc b)) (k b) (busy (suc (suc (suc b)))) refl (falls (suc (suc b)) (n + 1) c1) (falls (suc b) (n + 1 + 1) c1) (falls b n c1) in
      behind (b + 5) (suc (suc (suc b)) + 5) m' c c1 (k (suc (suc (suc b)))) (k b) end refl refl refl refl (omega arith) run (waits k m m' end busy falls last idle b c1 h)

  by_pending : (p : Pending) (c : Contents) (d : Behind) → Waits (wait_steps p) (words_after p c.memory d) c (record d { pending = p }) (behind_after p c.memory (record d { pending = p }))
  by_pending Idle c d = ended c (record d { pending = Idle }) refl
  by_pending (Reading b s) c d = waits (λ b. record d { pending = Reading b s }) c.memory (filled c.memory (d.sectors s)) (record d { pending = Idle }) (λ b. refl) (λ b p c. refl)
      (λ p c h. ap (λ g. at_with p (record c { memory = filled g (d.sectors s) }) (record d { pending = Idle })) h) refl b c refl
  by_pending (Writing b s) c d = waits (λ b. record d { pending = Writing b s }) c.memory c.memory (record d { sectors = λ k. if k == s then buffer_of c.memory else d.sectors k; pending = Idle }) (λ b. refl) (λ b p c. refl)
      (λ p c' h. ap (λ g. at_with p (record c' { memory = g }) (record d { sectors = λ k. if k == s then buffer_of g else d.sectors k; pending = Idle })) h) refl b c refl

pub wait_runs : (w : World) → Sound w → RunsCompose → StraightRuns w → LoopRuns w (Lw 1 0 0xf004 ∷ []) 1 [] → WaitRuns w
unfolding Waits
wait_runs w f runs straight loop system c0 d0 = record {
  by = λ n c d code e.
      let x = by_pending w f system runs straight loop n code d0.pending c0 d0 in
      let t = ap (λ d. at_with n c0 d) e.1 in
      let s = ap (λ c. at_with n c d) e.0 in
      let d' = behind_after d0.pending c0.memory d0 in
      (x.0, d', (x.1, refl), subst (λ s. Reaches w (wait_steps d0.pending) s (at_with (n + 3) x.0 d')) (sym (s ∙ t)) x.2);
}
