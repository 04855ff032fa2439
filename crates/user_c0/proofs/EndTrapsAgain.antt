-- An ended program gives its own trap, again and again: it never asks the kernel any more.
use Rattle.std.specs.Prelude.{◌==◌, if◌then◌else◌, slice_index}
use Rattle.std.proofs.Common.{◌≡◌, ◌≢◌, ◌⊎◌, inl, inr, ℕ, zero, suc, ◌+◌, ◌-◌, ◌/◌, ◌≤◌, false, Some, [], ◌∷◌, ◌++◌, refl, sym, ap, ◌∙◌, subst, arith, append-nil}
use Rattle.mips_table.specs.declared.inst.Inst.TheVariants.{J, Syscall}
use Rattle.mips_table.specs.declared.cause.Cause.TheVariants as causes
use Rattle.mips_table.specs.Encoding.{encoding}
use Rattle.mips_table.specs.Processor.{advanced}
use Rattle.mips_table.specs.Flat.{Flat, Goes, Trap, vstep}
use Rattle.mips_table.specs.Code.{CodeState, at_with, Program, on_flat, Sound, Steps}
use Rattle.mips_table.specs.Simulation.{MemoryHolds, contents_of, nothing_behind, flat_configuration, FlatFits, flat_after, FlatSimulates}
use Rattle.mips_table.specs.Borders.{FlatCalls}
use Rattle.masm.specs.Laws.{RunsCompose, JumpsLead}
use Rattle.user_c0.specs.Events.{SYSCALL, CALL_CAUSE, trapping}
use Rattle.user_c0.specs.Served.{Served, serving, replied, served_next, serve, served, asked_by, other_by, others_in}
use Rattle.user_c0.specs.Host.{Here}

module _ (runs : RunsCompose) (simulates : FlatSimulates) (traps : FlatCalls) (p : Program) (sound : Sound (on_flat p)) (jumps : JumpsLead (on_flat p)) where
  -- a machine that holds the program's code
  pub record Fine (f : Flat) : Type 0 where
    pub fits : FlatFits f
    pub holds : MemoryHolds (on_flat p) f.words

  -- a jump is one step
  pub record Jumped (f : Flat) (index : ℕ) : Type 0 where
    pub after : Flat
    pub is : vstep f ≡ Goes after
    pub fine : Fine after
    pub at : after.cpu.pc / 4 ≡ index

  pub jumped : (f : Flat) (k index : ℕ) → Fine f → f.cpu.pc / 4 ≡ k → p.code k ≡ Some (J index) → k ≢ index → Jumped f index
  jumped f k index fine at code ne =
      let r = jumps.jumped (J index) k index 0 0 (contents_of f.cpu [] (slice_index f.words)) nothing_behind code refl in
      let some = runs.elsewhere (on_flat p) 1 (at_with k (contents_of f.cpu [] (slice_index f.words)) nothing_behind) (at_with index (contents_of f.cpu [] (slice_index f.words)) nothing_behind) ne r in
      let most = r.within in
      let one : r.steps ≡ 1 = omega (arith, some, most) in
      let from : at_with k (contents_of f.cpu [] (slice_index f.words)) nothing_behind ≡ flat_configuration f = ap (λ a. at_with a (contents_of f.cpu [] (slice_index f.words)) nothing_behind) (sym at) in
      let steps : Steps (on_flat p) 1 (flat_configuration f) (at_with index (contents_of f.cpu [] (slice_index f.words)) nothing_behind) =
      subst (λ s. Steps (on_flat p) 1 s (at_with index (contents_of f.cpu [] (slice_index f.words)) nothing_behind)) from
      (subst (λ n. Steps (on_flat p) n (at_with k (contents_of f.cpu [] (slice_index f.words)) nothing_behind) (at_with index (contents_of f.cpu [] (slice_index f.words)) nothing_behind)) one r.run) in
      let sim = simulates p f 1 _ sound fine.fits fine.holds steps in
      let last = sim.along 1 (omega arith) in
      record {
        after = flat_after (vstep f);
        is = (sim.instructs 0 (omega arith)).untrapped;
        fine = record { fits = last.fits; holds = last.holds };
        at = ap (λ (m : CodeState). m.at) (sim.same 1 (omega arith) ∙ steps.1);
      }

  -- a system call is one step
  record Trapping_ (f : Flat) (word k : ℕ) : Type 0 where
    pub after : Flat
    pub is : vstep f ≡ Trap after causes.Syscall word
    pub fine : Fine after
    pub at : after.cpu.pc / 4 ≡ k + 1

  trapped : (f : Flat) (k number : ℕ) → Fine f → f.cpu.pc / 4 ≡ k → p.code k ≡ Some (Syscall number) → Trapping_ f (encoding (Syscall number)) k
  trapped f k number fine at code =
      let inside = sound.inside k (Syscall number) code in
      let small = sound.small in
      let aligned = fine.fits.aligned in
      record {
        after = record f { cpu = advanced f.cpu };
        is = traps p f number sound fine.fits fine.holds (ap p.code at ∙ code);
        fine = record {
          fits = record {
            cpu = record { pc = omega (arith, at, inside, small, aligned); regs = fine.fits.cpu.regs; hi = fine.fits.cpu.hi; lo = fine.fits.cpu.lo };
            aligned = omega (arith, at, inside, small, aligned);
            words = fine.fits.words;
          };
          holds = fine.holds;
        };
        at = omega (arith, at, inside, small, aligned);
      }

  -- an exit, the two words that it leads to, and the number of their system call, which is no call of the kernel's
  pub record Exits (e loop number : ℕ) : Type 0 where
    pub exit : p.code e ≡ Some (J loop)
    pub call : p.code loop ≡ Some (Syscall number)
    pub again : p.code (loop + 1) ≡ Some (J loop)
    pub apart : e ≢ loop
    pub other : (encoding (Syscall number) == CALL_CAUSE) ≡ false

  module _ (e loop number : ℕ) (x : Exits e loop number) (first : Served) where
    -- the machine is on one of these words
    pub record Looping (f : Flat) : Type 0 where
      pub fine : Fine f
      pub at : (f.cpu.pc / 4 ≡ e) ⊎ ((f.cpu.pc / 4 ≡ loop) ⊎ (f.cpu.pc / 4 ≡ loop + 1))

    -- a step of it
    pub record Turn (s : Served) : Type 0 where
      pub asks : asked_by (vstep s.machine) ≡ []
      pub trap : (other_by (vstep s.machine) ≡ []) ⊎ (other_by (vstep s.machine) ≡ trapping SYSCALL (encoding (Syscall number)) ∷ [])
      pub next : Looping (serve s).machine

    by_jump : (s : Served) → Jumped s.machine loop → Turn s
    by_jump s j =
        let to : serve s ≡ serving s.replies j.after = ap (served_next s.replies) j.is in
        record {
          asks = ap asked_by j.is;
          trap = inl (ap other_by j.is);
          next = subst (λ t. Looping t.machine) (sym to) (record { fine = j.fine; at = inr (inl j.at) });
        }

    -- the trap on the second word
    pub gives : (f : Flat) → Fine f → f.cpu.pc / 4 ≡ loop → other_by (vstep f) ≡ trapping SYSCALL (encoding (Syscall number)) ∷ []
    gives f fine at = let t = trapped f loop number fine at x.call in ap other_by t.is ∙ ap (λ b. if b then [] else trapping SYSCALL (encoding (Syscall number)) ∷ []) x.other

    by_trap : (s : Served) → Fine s.machine → s.machine.cpu.pc / 4 ≡ loop → Turn s
    by_trap s fine at =
        let t = trapped s.machine loop number fine at x.call in
        let to : serve s ≡ serving s.replies t.after = ap (served_next s.replies) t.is ∙ ap (λ b. if b then replied s.replies t.after else serving s.replies t.after) x.other in
        record {
          asks = ap asked_by t.is ∙ ap (λ b. if b then slice_index t.after.cpu.regs 4 ∷ [] else []) x.other;
          trap = inr (gives s.machine fine at);
          next = subst (λ z. Looping z.machine) (sym to) (record { fine = t.fine; at = inr (inr t.at) });
        }

    pub turn : (s : Served) → Looping s.machine → Turn s
    turn s l = by l.at
      where
        by : (s.machine.cpu.pc / 4 ≡ e) ⊎ ((s.machine.cpu.pc / 4 ≡ loop) ⊎ (s.machine.cpu.pc / 4 ≡ loop + 1)) → Turn s
        by (inl at) = by_jump s (jumped s.machine e loop l.fine at x.exit x.apart)
        by (inr (inl at)) = by_trap s l.fine at
        by (inr (inr at)) = by_jump s (jumped s.machine (loop + 1) loop l.fine at x.again (λ q. absurd (omega (arith, q))))

    -- it stays there
    pub loops : (k n : ℕ) → Looping (served first k).machine → Looping (served first (k + n)).machine
    loops k zero l = let q : k ≡ k + 0 = omega arith in subst (λ i. Looping (served first i).machine) q l
    loops k (suc n) l = let q : suc (k + n) ≡ k + suc n = omega arith in subst (λ i. Looping (served first i).machine) q (turn (served first (k + n)) (loops k n l)).next

    -- of two steps one gives the trap
    pub repeats : (s : Served) → Looping s.machine → (other_by (vstep s.machine) ≡ trapping SYSCALL (encoding (Syscall number)) ∷ []) ⊎ (other_by (vstep (serve s).machine) ≡ trapping SYSCALL (encoding (Syscall number)) ∷ [])
    repeats s l = by l.at
      where
        behind : Jumped s.machine loop → other_by (vstep (serve s).machine) ≡ trapping SYSCALL (encoding (Syscall number)) ∷ []
        behind j = ap (λ z. other_by (vstep z.machine)) (ap (served_next s.replies) j.is) ∙ gives j.after j.fine j.at

        by : (s.machine.cpu.pc / 4 ≡ e) ⊎ ((s.machine.cpu.pc / 4 ≡ loop) ⊎ (s.machine.cpu.pc / 4 ≡ loop + 1)) → (other_by (vstep s.machine) ≡ trapping SYSCALL (encoding (Syscall number)) ∷ []) ⊎ (other_by (vstep (serve s).machine) ≡ trapping SYSCALL (encoding (Syscall number)) ∷ [])
        by (inl at) = inr (behind (jumped s.machine e loop l.fine at x.exit x.apart))
        by (inr (inl at)) = inl (gives s.machine l.fine at)
        by (inr (inr at)) = inr (behind (jumped s.machine (loop + 1) loop l.fine at x.again (λ q. absurd (omega (arith, q)))))

    -- the program has ended after k steps: it asks nothing any more, gives no other trap, and gives that trap soon and again and again
    pub record IsOver (k : ℕ) : Type 0 where
      pub asks : (n : ℕ) → k ≤ n → asked_by (vstep (served first n).machine) ≡ []
      pub trap : (n : ℕ) → k ≤ n → (other_by (vstep (served first n).machine) ≡ []) ⊎ (other_by (vstep (served first n).machine) ≡ trapping SYSCALL (encoding (Syscall number)) ∷ [])
      pub again : (n : ℕ) → k ≤ n → (other_by (vstep (served first n).machine) ≡ trapping SYSCALL (encoding (Syscall number)) ∷ []) ⊎ (other_by (vstep (served first (suc n)).machine) ≡ trapping SYSCALL (encoding (Syscall number)) ∷ [])
      pub soon : others_in first (suc (suc k)) ≡ others_in first k ++ trapping SYSCALL (encoding (Syscall number)) ∷ []

    pub over : (k : ℕ) (s : CodeState) → Here p first k s → s.at ≡ e → IsOver k
    over k s here at =
        let at_exit : (served first k).machine.cpu.pc / 4 ≡ e = ap (λ (m : CodeState). m.at) here.same ∙ at in
        let fine : Fine (served first k).machine = record { fits = here.fits; holds = here.holds } in
        let l : Looping (served first k).machine = record { fine = fine; at = inl at_exit } in
        let j = jumped (served first k).machine e loop fine at_exit x.exit x.apart in
        let to : served first (suc k) ≡ serving (served first k).replies j.after = ap (served_next (served first k).replies) j.is in
        record {
          asks = λ n le. let q : k + (n - k) ≡ n = omega (arith, le) in subst (λ i. asked_by (vstep (served first i).machine) ≡ []) q (turn (served first (k + (n - k))) (loops k (n - k) l)).asks;
          trap = λ n le. let q : k + (n - k) ≡ n = omega (arith, le) in
              subst (λ i. (other_by (vstep (served first i).machine) ≡ []) ⊎ (other_by (vstep (served first i).machine) ≡ trapping SYSCALL (encoding (Syscall number)) ∷ [])) q (turn (served first (k + (n - k))) (loops k (n - k) l)).trap;
          again = λ n le. let q : k + (n - k) ≡ n = omega (arith, le) in
              subst (λ i. (other_by (vstep (served first i).machine) ≡ trapping SYSCALL (encoding (Syscall number)) ∷ []) ⊎ (other_by (vstep (served first (suc i)).machine) ≡ trapping SYSCALL (encoding (Syscall number)) ∷ [])) q
              (repeats (served first (k + (n - k))) (loops k (n - k) l));
          soon =
              ap (λ xs. (others_in first k ++ xs) ++ other_by (vstep (served first (suc k)).machine)) (ap other_by j.is)
              ∙ ap (λ xs. xs ++ other_by (vstep (served first (suc k)).machine)) (append-nil (others_in first k))
              ∙ ap (λ z. others_in first k ++ other_by (vstep z.machine)) to
              ∙ ap (λ xs. others_in first k ++ xs) (gives j.after j.fine j.at);
        }
