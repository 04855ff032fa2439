-- A command and the wait for it: by cases on whether the command is done in the step that gives it.
use Rattle.std.proofs.Common.{◌≡◌, ℕ, zero, suc, ◌+◌, ◌≤◌, false, ◌∷◌, length, refl, sym, ap, ◌∙◌, subst, arith, nat_lt, lt-ltb}
use Rattle.std.specs.Prelude.{if◌then◌else◌, ◌==◌, not}
use Rattle.std.proofs.lemmas.Bool.{cond-false, not_from_true}
use Rattle.mips_table.specs.declared.inst.Inst.{Inst}
use Rattle.mips_table.specs.Device.{Idle, Reading, Writing, SECTOR}
use Rattle.mips_table.specs.Code.{Contents, Behind, World, at_with, settle, commanded, filled, buffer_of, Reaches}
use Rattle.masm.specs.Laws.{RunsCompose, StraightRuns, From}
use Rattle.masm.specs.Wait.{wait_code, wait_steps, words_after, behind_after, Waited, WaitRuns, MayCommand, TransfersRun}

module _ (w : World) (runs : RunsCompose) (straight : StraightRuns w) (waits : WaitRuns w) where
  -- the command is given, and leads to a state from which the wait ends in these words and with that behind the ports
  given : (i : Inst) (v m : ℕ) (words : ℕ → ℕ) (c c1 : Contents) (d d1 end : Behind) → MayCommand w i v c d → ((n : ℕ) → settle n c (commanded w d (c.memory SECTOR) v) ≡ at_with n c1 d1)
      → c1.regs ≡ c.regs → c1.hi ≡ c.hi → c1.lo ≡ c.lo → c1.special ≡ c.special
      → 1 + wait_steps d1.pending ≤ m → words_after d1.pending c1.memory d1 ≡ words → behind_after d1.pending c1.memory d1 ≡ end
      → From w (i ∷ wait_code) m c d (λ c' d'. Waited words c c' × (d' ≡ end))
  given i v m words c c1 d d1 end may leads er eh el es le ew ee = record {
    by = λ n c0 d0 code e.
        let start = ap (λ c. at_with n c d0) e.0 ∙ ap (λ d. at_with n c d) e.1 in
        let first = subst (λ t. Reaches w 1 (at_with n c d) t) (leads (n + 1)) (straight.command i n v c d code.0 (may.stores n) may.system may.free may.idle may.sector) in
        let x = (waits may.system c1 d1).by (n + 1) c1 d1 code.1 (refl, refl) in
        let there : n + 1 + length wait_code ≡ n + length (i ∷ wait_code) = omega arith in
        let rest = subst (λ p. Reaches w (wait_steps d1.pending) (at_with (n + 1) c1 d1) (at_with p x.0 x.1)) there x.3 in
        let all = runs.later w (1 + (wait_steps d1.pending)) m _ _ (omega (arith, le)) (runs.joined w 1 (wait_steps d1.pending) _ _ _ first rest) in
        let r = x.2.0 in (
          x.0,
          x.1,
          (record { words = r.words ∙ ew; status = r.status; regs = λ q ne. r.regs q ne ∙ ap (λ g. g q) er; hi = r.hi ∙ eh; lo = r.lo ∙ el; special = r.special ∙ es }, x.2.1 ∙ ee),
          subst (λ s. Reaches w m s (at_with (n + length (i ∷ wait_code)) x.0 x.1)) (sym start) all,
        );
  }

  -- the sector is one of the disk's
  there_is : (v : ℕ) (i : Inst) (c : Contents) (d : Behind) → MayCommand w i v c d → not (nat_lt (c.memory SECTOR) w.count) ≡ false
  there_is v i c d may = not_from_true (nat_lt (c.memory SECTOR) w.count) (lt-ltb (c.memory SECTOR) w.count may.sector)

  reads : (b : ℕ) (i : Inst) (c : Contents) (d : Behind) → w.busy d.commands ≡ b → MayCommand w i 1 c d → From w (i ∷ wait_code) (b + 5) c d (λ c' d'. Waited (filled c.memory (d.sectors (c.memory SECTOR))) c c' × (d' ≡ record d { pending = Idle; commands = d.commands + 1 }))
  reads zero i c d e may = given i 1 (0 + 5) _ c (record c { memory = filled c.memory (d.sectors (c.memory SECTOR)) }) d (record d { pending = Idle; commands = d.commands + 1 }) _ may
      (λ n. ap (settle n c) (cond-false _ d _ (there_is 1 i c d may)) ∙ ap (λ b. settle n c (record d { pending = Reading b (c.memory SECTOR); commands = d.commands + 1 })) e) refl refl refl refl (omega arith) refl refl
  reads (suc b) i c d e may = given i 1 (suc b + 5) _ c c d (record d { pending = Reading b (c.memory SECTOR); commands = d.commands + 1 }) _ may
      (λ n. ap (settle n c) (cond-false _ d _ (there_is 1 i c d may)) ∙ ap (λ b. settle n c (record d { pending = Reading b (c.memory SECTOR); commands = d.commands + 1 })) e) refl refl refl refl (omega arith) refl refl

  writes : (b : ℕ) (i : Inst) (c : Contents) (d : Behind) → w.busy d.commands ≡ b → MayCommand w i 2 c d → From w (i ∷ wait_code) (b + 5) c d (λ c' d'. Waited c.memory c c' × (d' ≡ record d { pending = Idle; commands = d.commands + 1; sectors = λ k. if k == c.memory SECTOR then buffer_of c.memory else d.sectors k }))
  writes zero i c d e may = given i 2 (0 + 5) _ c c d (record d { pending = Idle; commands = d.commands + 1; sectors = λ k. if k == c.memory SECTOR then buffer_of c.memory else d.sectors k }) _ may
      (λ n. ap (settle n c) (cond-false _ d _ (there_is 2 i c d may)) ∙ ap (λ b. settle n c (record d { pending = Writing b (c.memory SECTOR); commands = d.commands + 1 })) e) refl refl refl refl (omega arith) refl refl
  writes (suc b) i c d e may = given i 2 (suc b + 5) _ c c d (record d { pending = Writing b (c.memory SECTOR); commands = d.commands + 1 }) _ may
      (λ n. ap (settle n c) (cond-false _ d _ (there_is 2 i c d may)) ∙ ap (λ b. settle n c (record d { pending = Writing b (c.memory SECTOR); commands = d.commands + 1 })) e) refl refl refl refl (omega arith) refl refl

  pub transfers : TransfersRun w
  transfers = record { read = λ i c d. reads (w.busy d.commands) i c d refl; write = λ i c d. writes (w.busy d.commands) i c d refl }
