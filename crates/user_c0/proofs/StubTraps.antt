-- The stub of `trap`: two steps, the trap, which the kernel answers, and the return.
use Rattle.std.specs.Prelude.{map, slice_get, slice_index, unwrap_or, ℤ, pos, FitsSigned}
use Rattle.std.specs.Int.{w32, cast_unsigned}
use Rattle.std.proofs.lemmas.Int.{to_z-of_z}
use Rattle.std.proofs.Common.{◌≡◌, ◌≢◌, ℕ, suc, ◌+◌, ◌*◌, ◌/◌, ◌^◌, ◌<◌, ◌≤◌, Some, List, [], ◌∷◌, ◌++◌, drop, refl, sym, ap, ◌∙◌, subst, arith, append-nil, append_assoc}
use Rattle.std.proofs.lemmas.List.{map-append}
use Rattle.mips_table.specs.declared.inst.Inst.TheVariants.{Addu, Jr, Syscall}
use Rattle.mips_table.specs.declared.effect.Effect.TheVariants.{Set}
use Rattle.mips_table.specs.Arith.{signed}
use Rattle.mips_table.specs.Processor.{advanced}
use Rattle.mips_table.specs.Flat.{Flat}
use Rattle.mips_table.specs.Code.{put, Contents, Behind, CodeState, at_with, Program, on_flat, Sound, CodeAt}
use Rattle.mips_table.specs.Simulation.{MemoryHolds, nothing_behind, flat_configuration, FlatFits, FlatSimulates}
use Rattle.mips_table.specs.Borders.{FlatCalls}
use Rattle.mips_table.proofs.PutsChangeOneWord.{put_other}
use Rattle.masm.specs.Says.{Gives}
use Rattle.masm.specs.Laws.{StraightRuns, JumpsLead}
use Rattle.c0_meaning.specs.World.{all_entries}
use Rattle.user_c0.specs.Image.{stub_code}
use Rattle.user_c0.specs.Events.{answer_of}
use Rattle.user_c0.specs.Served.{Served, replied, served_next, served, asked_by, asked, other_by, others_in}
use Rattle.user_c0.specs.Host.{Here, Told}
use Rattle.user_c0.proofs.ServedGoesOn.{goes_on, tells_on}
use Rattle.user_c0.proofs.RepliesInRegister.{IsReplied, replied_so}

-- one entry more
one_entry : (calls : List (List ℤ)) (entry : ℤ) → all_entries (calls ++ (entry ∷ []) ∷ []) ≡ all_entries calls ++ entry ∷ []
one_entry [] entry = refl
one_entry (entries ∷ rest) entry = ap (λ es. entries ++ es) (one_entry rest entry) ∙ sym (append_assoc entries (all_entries rest) (entry ∷ []))

-- a configuration by its parts
parts : (m : CodeState) (n : ℕ) (d : Behind) → m.at ≡ n → m.behind ≡ d → m ≡ at_with n m.contents d
parts m n d p q = ap (λ a. at_with a m.contents m.behind) p ∙ ap (λ b. at_with n m.contents b) q

module _ (simulates : FlatSimulates) (traps : FlatCalls) (p : Program) (sound : Sound (on_flat p)) (first : Served)
    (straight : StraightRuns (on_flat p)) (jumps : JumpsLead (on_flat p)) (stub : CodeAt (on_flat p) 2048 stub_code) where
  abbrev At : ℕ → CodeState → Type 0
  At k s = Here p first k s

  -- a system call of no number: the kernel's reply is set
  pub record Called (k n : ℕ) (c : Contents) : Type 0 where
    pub end : CodeState
    pub here : At (suc k) end
    pub at : end.at ≡ n + 1
    pub behind : end.behind ≡ nothing_behind
    pub answer : end.contents.regs 2 ≡ cast_unsigned w32 (unwrap_or (slice_get (map answer_of (served first k).replies) 0) (pos 0))
    pub regs : (r : ℕ) → r ≢ 2 → end.contents.regs r ≡ c.regs r
    pub memory : end.contents.memory ≡ c.memory
    pub left : map answer_of (served first (suc k)).replies ≡ drop 1 (map answer_of (served first k).replies)
    pub asks : asked first (suc k) ≡ asked first k ++ c.regs 4 ∷ []
    pub others : others_in first (suc k) ≡ others_in first k

  pub called : (k n : ℕ) (c : Contents) → At k (at_with n c nothing_behind) → p.code n ≡ Some (Syscall 0) → c.regs 2 ≡ 0 → Called k n c
  called k n c here code none =
      let f : Flat = (served first k).machine in
      let at : (served first k).machine.cpu.pc / 4 ≡ n = ap (λ (m : CodeState). m.at) here.same in
      let regs : (r : ℕ) → slice_index (served first k).machine.cpu.regs r ≡ c.regs r = λ r. ap (λ (m : CodeState). m.contents.regs r) here.same in
      let e = traps p (served first k).machine 0 sound here.fits here.holds (ap p.code at ∙ code) in
      let g : Flat = record (served first k).machine { cpu = advanced (served first k).machine.cpu } in
      let inside = sound.inside n (Syscall 0) code in
      let small = sound.small in
      let aligned = here.fits.aligned in
      let fits : FlatFits (record (served first k).machine { cpu = advanced (served first k).machine.cpu }) = record {
        cpu = record { pc = omega (arith, at, inside, small, aligned); regs = here.fits.cpu.regs; hi = here.fits.cpu.hi; lo = here.fits.cpu.lo };
        aligned = omega (arith, at, inside, small, aligned);
        words = here.fits.words;
      } in
      let r = replied_so (served first k).replies (record (served first k).machine { cpu = advanced (served first k).machine.cpu }) here.replies fits (regs 2 ∙ none) in
      let to : served first (suc k) ≡ replied (served first k).replies (record (served first k).machine { cpu = advanced (served first k).machine.cpu }) = ap (served_next (served first k).replies) e in
      let r : IsReplied (served first k).replies (record (served first k).machine { cpu = advanced (served first k).machine.cpu }) (served first (suc k)) = subst (IsReplied (served first k).replies (record (served first k).machine { cpu = advanced (served first k).machine.cpu })) (sym to) r in
      let pc = r.pc in
      record {
        end = flat_configuration (served first (suc k)).machine;
        here = record { same = refl; fits = r.fits; holds = subst (MemoryHolds (on_flat p)) (sym r.words) here.holds; replies = r.are_words };
        at = ap (λ a. a / 4) r.pc ∙ omega (arith, at, inside, small, aligned);
        behind = refl;
        answer = r.answer;
        regs = λ q ne. r.regs q ne ∙ regs q;
        memory = ap slice_index r.words ∙ ap (λ (m : CodeState). m.contents.memory) here.same;
        left = r.left;
        asks = ap (λ v. asked first k ++ asked_by v) e ∙ ap (λ a. asked first k ++ a ∷ []) (regs 4);
        others = ap (λ v. others_in first k ++ other_by v) e ∙ append-nil (others_in first k);
      }

  -- a call of the stub
  pub record Answered (k : ℕ) (s : CodeState) (to : ℕ) (a : ℤ) (v : List ℤ) (calls : List (List ℤ)) : Type 0 where
    pub steps : ℕ
    pub few : steps ≤ 4
    pub end : CodeState
    pub here : At (k + steps) end
    pub at : end.at ≡ to
    pub behind : end.behind ≡ nothing_behind
    pub answer : end.contents.regs 2 ≡ cast_unsigned w32 (unwrap_or (slice_get v 0) (pos 0))
    pub regs : (r : ℕ) → r ≢ 2 → r ≢ 4 → end.contents.regs r ≡ s.contents.regs r
    pub memory : end.contents.memory ≡ s.contents.memory
    pub told : Told first (k + steps) (drop 1 v) (calls ++ (a ∷ []) ∷ [])

  pub answers : (k : ℕ) (s : CodeState) (to : ℕ) (a : ℤ) (v : List ℤ) (calls : List (List ℤ)) → At k s → Told first k v calls → s.at ≡ 2048 → s.contents.regs 20 ≡ cast_unsigned w32 a → FitsSigned w32 a
      → s.contents.regs 31 ≡ 4 * to → Answered k s to a v calls
  answers k s to a v calls here told at argument fits return =
      let c : Contents = s.contents in
      let c1 : Contents = record s.contents { regs = put (put s.contents.regs 4 (s.contents.regs 20)) 2 0 } in
      let behind : s.behind ≡ nothing_behind = sym (ap (λ (m : CodeState). m.behind) here.same) in
      let here1 : At k (at_with 2048 s.contents nothing_behind) = subst (At k) (parts s 2048 nothing_behind at behind) here in
      let word : s.contents.regs 20 < 2 ^ 32 = subst (λ n. n < 2 ^ 32) (ap (λ (m : CodeState). m.contents.regs 20) here.same) (here.fits.cpu.regs.each 20 0 (let size = here.fits.cpu.regs.size in omega (arith, size))) in
      let r = straight.all (Addu 4 20 0 ∷ Addu 2 0 0 ∷ []) (Gives (s.contents.regs 20) ∷ Gives 0 ∷ []) 2048 s.contents nothing_behind (stub.0, (stub.1.0, tt)) refl refl (omega (arith, word), (refl, tt)) in
      let here2 : At (k + r.steps) (at_with 2050 c1 nothing_behind) = goes_on simulates p sound first k r.steps _ _ here1 r.run in
      let told2 = tells_on simulates p sound first k r.steps _ _ v calls here1 r.run told in
      let cl = called (k + r.steps) 2050 c1 here2 stub.1.1.0 refl in
      let here3 : At (suc (k + r.steps)) (at_with 2051 cl.end.contents nothing_behind) = subst (At (suc (k + r.steps))) (parts cl.end 2051 nothing_behind cl.at cl.behind) cl.here in
      let back : cl.end.contents.regs 31 ≡ 4 * to = cl.regs 31 (λ e. absurd (omega (arith, e))) ∙ return in
      let j = jumps.led (Jr 31) 2051 to 0 0 cl.end.contents nothing_behind stub.1.1.1.0 (ap (Set 0 0) back) in
      let here4 : At (suc (k + r.steps) + j.steps) (at_with to cl.end.contents nothing_behind) = goes_on simulates p sound first (suc (k + r.steps)) j.steps _ _ here3 j.run in
      let told3 : Told first (suc (k + r.steps)) (drop 1 v) (calls ++ (a ∷ []) ∷ []) = record {
        arguments = one_entry calls a ∙ ap (λ xs. xs ++ a ∷ []) told2.arguments
            ∙ ap (λ z. map signed (asked first (k + r.steps)) ++ z ∷ []) (sym (ap signed argument ∙ to_z-of_z w32 a fits))
            ∙ sym (map-append signed (asked first (k + r.steps)) (s.contents.regs 20 ∷ []))
            ∙ ap (map signed) (sym cl.asks);
        others = cl.others ∙ told2.others;
        answers = ap (drop 1) told2.answers ∙ sym cl.left;
      } in
      let told4 = tells_on simulates p sound first (suc (k + r.steps)) j.steps _ _ (drop 1 v) (calls ++ (a ∷ []) ∷ []) here3 j.run told3 in
      let same : suc (k + r.steps) + j.steps ≡ k + (r.steps + 1 + j.steps) = omega arith in
      let few = r.within in let one = j.within in
      record {
        steps = r.steps + 1 + j.steps;
        few = omega (arith, few, one);
        end = at_with to cl.end.contents nothing_behind;
        here = subst (λ n. At n (at_with to cl.end.contents nothing_behind)) same here4;
        at = refl;
        behind = refl;
        answer = cl.answer ∙ ap (λ xs. cast_unsigned w32 (unwrap_or (slice_get xs 0) (pos 0))) (sym told2.answers);
        regs = λ q ne other. cl.regs q ne ∙ put_other (put s.contents.regs 4 (s.contents.regs 20)) 2 0 q ne ∙ put_other s.contents.regs 4 (s.contents.regs 20) q other;
        memory = cl.memory;
        told = subst (λ n. Told first n (drop 1 v) (calls ++ (a ∷ []) ∷ [])) same told4;
      }
