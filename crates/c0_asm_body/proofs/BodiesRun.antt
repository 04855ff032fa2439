-- The run of an asm function's code, by induction on its words.
use Rattle.std.proofs.Common.{◌≡◌, ◌≢◌, ℕ, zero, suc, ◌+◌, ◌-◌, ◌^◌, ◌<◌, ◌≤◌, ◌==◌, Bool, true, false, Some, List, [], ◌∷◌, ◌++◌, length, replicate, refl, sym, ap, ◌∙◌, subst, ⊎_elim, ◌⊎◌, arith, eq-eqb, ne_eqb}
use Rattle.std.specs.Prelude.{◌&&◌, ◌||◌, nat_le, IsTrue, IfSome, if◌then◌else◌, slice_index, slice_set}
use Rattle.std.proofs.lemmas.Bool.{cond-true, cond-false, eqb-true, eqb-false, leb-true}
use Rattle.std.proofs.lemmas.Int.{of_z-to_z}
use Rattle.std.proofs.lemmas.List.{get_or-set_same, get_or-set_other, length-append}
use Rattle.std.proofs.lemmas.List.Elements.{All-get_or}
use Rattle.std.specs.Int.{w32}
use Rattle.mips_table.specs.declared.inst.Inst.{Inst}
use Rattle.mips_table.specs.Encoding.{InRange, encoding}
use Rattle.mips_table.specs.Decoding.{decoding}
use Rattle.mips_table.specs.Device.{Idle}
use Rattle.mips_table.specs.Processor.{write_register}
use Rattle.mips_table.specs.Fits.{IsWord, AreRegisters, CpuFits, EffectFits, KeepsWords}
use Rattle.mips_table.specs.Code.{put, reg, with_reg, Contents, Behind, World, at_with, Steps, Reaches, CodeAt, RunLaws, effect_at}
use Rattle.masm.specs.Says.{Gives, Said, register_written}
use Rattle.masm.specs.Laws.{RunsCompose, StraightRuns}
use Rattle.c0_meaning.specs.Value.{Values, count}
use Rattle.c0_meaning.specs.Asm.{may_use, is_allowed_word, are_allowed_words}
use Rattle.c0_meaning.specs.AsmBody.{argument_words, start_registers, registers_after, after_instruction, run_words}
use Rattle.c0_meaning.specs.RunLaws.{LookAtTheirs}
use Rattle.c0_asm_body.specs.Code.{arguments_code, instruction_of, asm_body_code, asm_code}
use Rattle.c0_asm_body.specs.Laws.{HoldInts, AsmRuns}
use Rattle.c0_asm_body.proofs.WordsSetRegisters.{left, right, is_not, is_of}
use Rattle.c0_asm_body.proofs.InstructionsSet.{Agree, Sets, sets}
use Rattle.c0_asm_body.proofs.ArgumentsAndZeros.{zeros_behind, whole, whole_fits, source}

-- a register of an asm body
small : (r : ℕ) → IsTrue (may_use r) → r < 8
small r ok = by_test (r == 0) refl ok
  where
    by_test : (b : Bool) → (r == 0) ≡ b → b || (nat_le 2 r && nat_le r 7) ≡ true → r < 8
    by_test true e h = omega (arith, eqb-true r 0 e)
    by_test false e h = omega (arith, leb-true r 7 (right (nat_le 2 r) (nat_le r 7) h))

-- it is 0, or not below 2
not_one : (r : ℕ) → IsTrue (may_use r) → r ≢ 0 → 2 ≤ r
not_one r ok ne = by_test (r == 0) refl ok
  where
    by_test : (b : Bool) → (r == 0) ≡ b → b || (nat_le 2 r && nat_le r 7) ≡ true → 2 ≤ r
    by_test true e h = absurd (ne (eqb-true r 0 e))
    by_test false e h = leb-true 2 r (left (nat_le 2 r) (nat_le r 7) h)

-- all but the registers of asm bodies are the same
pub record Stays (c c' : Contents) : Type 0 where
  pub regs : (r : ℕ) → (r ≤ 1) ⊎ (8 ≤ r) → c'.regs r ≡ c.regs r
  pub memory : c'.memory ≡ c.memory
  pub hi : c'.hi ≡ c.hi
  pub lo : c'.lo ≡ c.lo
  pub special : c'.special ≡ c.special

-- a register is set in both
module _ (c : Contents) (regs : List ℕ) (r v : ℕ) (ok : IsTrue (may_use r)) where
  agrees : length regs ≡ 32 → Agree c regs → Agree (with_reg c r v) (write_register regs r v)
  agrees long same k use_k = by_test (r == 0) refl
    where
      by_place : (b : Bool) → (k == r) ≡ b → r ≢ 0 → reg (put c.regs r v) k ≡ slice_index (slice_set regs r v) k
      by_place true e ne =
          let at = eqb-true k r e in
          let lt = small r ok in
          subst (λ x. reg (put c.regs r v) x ≡ slice_index (slice_set regs r v) x) (sym at)
          (cond-false _ 0 (put c.regs r v r) (ne_eqb r 0 ne) ∙ cond-true _ v (c.regs r) (eq-eqb r r refl) ∙ sym
          (get_or-set_same regs r v 0 (omega (arith, lt, long))))
      by_place false e ne = ap (λ x. if k == 0 then 0 else x) (cond-false (k == r) v (c.regs k) e) ∙ same k use_k ∙ sym
          (get_or-set_other regs r k v 0 (eqb-false k r e))

      by_test : (b : Bool) → (r == 0) ≡ b → reg (if b then c.regs else put c.regs r v) k ≡ slice_index (if b then regs else slice_set regs r v) k
      by_test true e = same k use_k
      by_test false e = by_place (k == r) refl (eqb-false r 0 e)

  stays_one : Stays c (with_reg c r v)
  stays_one = record { regs = λ k o. by_test k o (r == 0) refl; memory = refl; hi = refl; lo = refl; special = refl }
    where
      by_test : (k : ℕ) → (k ≤ 1) ⊎ (8 ≤ k) → (b : Bool) → (r == 0) ≡ b → (if b then c.regs else put c.regs r v) k ≡ c.regs k
      by_test k o true e = refl
      by_test k o false e =
          let lt = small r ok in let ge = not_one r ok (eqb-false r 0 e) in
          cond-false _ v (c.regs k) (ne_eqb k r (λ q. ⊎_elim (λ h. absurd (omega (arith, q, h, ge))) (λ h. absurd (omega (arith, q, h, lt))) o))

stays_more : (c c1 c' : Contents) → Stays c c1 → Stays c1 c' → Stays c c'
stays_more c c1 c' a b = record {
  regs = λ r o. b.regs r o ∙ a.regs r o;
  memory = b.memory ∙ a.memory;
  hi = b.hi ∙ a.hi;
  lo = b.lo
      ∙ a.lo;
  special = b.special ∙ a.special;
}

-- a run of one step at most that leads elsewhere is one step
one_step : (w : World) (runs : RunsCompose) (n m : ℕ) (c : Contents) (d : Behind) (c' : Contents) (d' : Behind) → n ≢ m →
    Reaches w 1 (at_with n c d) (at_with m c' d') → Steps w 1 (at_with n c d) (at_with m c' d')
one_step w runs n m c d c' d' ne r =
    let some = runs.elsewhere w 1 (at_with n c d) (at_with m c' d') ne r in let most = r.within in
    let one : r.steps ≡ 1 = omega (arith, some, most) in
    subst (λ k. Steps w k (at_with n c d) (at_with m c' d')) one r.run

-- what a list of registers is as a processor's
fits_cpu : (regs : List ℕ) → AreRegisters regs → CpuFits (record { pc = 0; regs = regs; hi = 0; lo = 0 })
fits_cpu regs h = record { pc = omega arith; regs = h; hi = omega arith; lo = omega arith }

-- the end of a body: contents that agree with the list, which are words, and all else as before
pub record Ends (w : World) (n : ℕ) (words regs : List ℕ) (c : Contents) (d : Behind) : Type 0 where
  pub end : Contents
  pub agree : Agree end (run_words words regs)
  pub fit : AreRegisters (run_words words regs)
  pub stay : Stays c end
  pub run : Steps w (length words) (at_with n c d) (at_with (n + length words) end d)

module _ (w : World) (decoded : (word : ℕ) → IfSome (decoding word) (λ i. InRange i × (encoding i ≡ word))) (keeps : KeepsWords) (joins : RunLaws)
    (runs : RunsCompose) (straight : StraightRuns w) (look : LookAtTheirs) where
  -- one instruction
  step : (n : ℕ) (i : Inst) (c : Contents) (d : Behind) (regs : List ℕ) → w.code n ≡ Some i → d.pending ≡ Idle → (s : Sets n c regs i) → Steps w 1
      (at_with n c d) (at_with (n + 1) (with_reg c s.register s.value) d)
  step n i c d regs at idle s =
      let said : Said w i c d (effect_at i n c) (Gives s.value) = subst (λ e. Said w i c d e (Gives s.value)) (sym s.code) refl in
      one_step w runs n (n + 1) c d (with_reg c s.register s.value) d (λ e. absurd (omega (arith, e)))
      (subst (λ e. Reaches w 1 (at_with n c d) (at_with (n + 1) (with_reg c (register_written e) s.value) d)) s.code
      (straight.next i (Gives s.value) n c d at s.straight idle said))

  written_fits : (regs : List ℕ) (i : Inst) (n : ℕ) (c : Contents) → AreRegisters regs → InRange i → (s : Sets n c regs i) → AreRegisters
      (write_register regs s.register s.value)
  written_fits regs i n c h range s =
      let effect = keeps.effects i (record { pc = 0; regs = regs; hi = 0; lo = 0 }) (fits_cpu regs h) range in
      let word = subst (λ e. EffectFits e) s.list effect in
      (keeps.loads (record { pc = 0; regs = regs; hi = 0; lo = 0 }) s.register s.value (fits_cpu regs h) word.1).regs

  pub body_runs : (words : List ℕ) (n : ℕ) (c : Contents) (d : Behind) (regs : List ℕ) → IsTrue (are_allowed_words words) → CodeAt w n
      (asm_body_code words) → d.pending ≡ Idle → AreRegisters regs → Agree c regs → Ends w n words regs c d
  body_runs [] n c d regs ok at idle fit same =
      let e : n ≡ n + 0 = omega arith in
      record {
        end = c;
        agree = same;
        fit = fit;
        stay = record { regs = λ r o. refl; memory = refl; hi = refl; lo = refl; special = refl };
        run =
            (tt, ap (λ k. at_with k c d) e);
      }
  body_runs (word ∷ words) n c d regs ok at idle fit same =
      let i = instruction_of word in
      let of = is_of decoded word (left (is_allowed_word word) (are_allowed_words words) ok) in
      let s = sets n c regs same (instruction_of word) of.allowed in
      let c1 = with_reg c s.register s.value in
      let next_regs : after_instruction regs (decoding word) ≡ write_register regs s.register s.value = ap (after_instruction regs) of.decoded ∙ ap
      (registers_after regs) s.list in
      let rest = body_runs words (n + 1) c1 d (write_register regs s.register s.value) (right (is_allowed_word word) (are_allowed_words words) ok) at.1 idle
      (written_fits regs (instruction_of word) n c fit of.range s) (agrees c regs s.register s.value s.may fit.size same) in
      let count : 1 + length words ≡ length (word ∷ words) = omega arith in
      let there : n + 1 + length words ≡ n + length (word ∷ words) = omega arith in
      let all = joins.joined w 1 (length words) (at_with n c d) (at_with (n + 1) c1 d) (at_with (n + 1 + length words) rest.end d)
      (step n (instruction_of word) c d regs at.0 idle s) rest.run in
      record {
        end = rest.end;
        agree = subst (λ x. Agree rest.end (run_words words x)) (sym next_regs) rest.agree;
        fit = subst (λ x. AreRegisters (run_words words x)) (sym next_regs) rest.fit;
        stay = stays_more c c1 rest.end (stays_one c regs s.register s.value s.may) rest.stay;
        run = subst (λ k. Steps w k (at_with n c d) (at_with (n + length (word ∷ words)) rest.end d)) count
            (subst (λ k. Steps w (1 + length words) (at_with n c d) (at_with k rest.end d)) there all);
      }

  -- the contents when the arguments are set
  abbrev set_out : Values → Contents → Contents
  set_out args c = record c {
    regs = put (put (put (put (put (put c.regs 2 0) 3 0) 4 (slice_index (argument_words args) 0)) 5
        (slice_index (argument_words args) 1)) 6 (slice_index (argument_words args) 2)) 7 (slice_index (argument_words args) 3);
  }

  -- a register that no write changes
  low_or_high : (g : ℕ → ℕ) (a v r : ℕ) → 2 ≤ a → a ≤ 7 → (r ≤ 1) ⊎ (8 ≤ r) → put g a v r ≡ g r
  low_or_high g a v r ge le o = cond-false _ v (g r) (ne_eqb r a
      (λ q. ⊎_elim (λ h. absurd (omega (arith, q, h, ge))) (λ h. absurd (omega (arith, q, h, le))) o))

  set_stays : (args : Values) (c : Contents) (r : ℕ) → (r ≤ 1) ⊎ (8 ≤ r) → (set_out args c).regs r ≡ c.regs r
  set_stays args c r o =
      low_or_high (put (put (put (put (put c.regs 2 0) 3 0) 4 (slice_index (argument_words args) 0)) 5 (slice_index (argument_words args) 1)) 6
      (slice_index (argument_words args) 2)) 7 (slice_index (argument_words args) 3) r (omega arith) (omega arith) o
      ∙ low_or_high (put (put (put (put c.regs 2 0) 3 0) 4 (slice_index (argument_words args) 0)) 5 (slice_index (argument_words args) 1)) 6
      (slice_index (argument_words args) 2) r (omega arith) (omega arith) o
      ∙ low_or_high (put (put (put c.regs 2 0) 3 0) 4 (slice_index (argument_words args) 0)) 5 (slice_index (argument_words args) 1) r (omega arith)
      (omega arith) o
      ∙ low_or_high (put (put c.regs 2 0) 3 0) 4 (slice_index (argument_words args) 0) r (omega arith) (omega arith) o
      ∙ low_or_high (put c.regs 2 0) 3 0 r (omega arith) (omega arith) o
      ∙ low_or_high c.regs 2 0 r (omega arith) (omega arith) o

  moves : (args : Values) (n : ℕ) (c : Contents) (d : Behind) → HoldInts c.regs 20 args → CodeAt w n (arguments_code (count args)) →
      d.pending ≡ Idle → Reaches w 6 (at_with n c d) (at_with (n + 6) (set_out args c) d)
  moves args n c d held at idle = straight.all (arguments_code (count args))
      (Gives 0 ∷ Gives 0 ∷ Gives (slice_index (argument_words args) 0) ∷ Gives (slice_index (argument_words args) 1) ∷ Gives
      (slice_index (argument_words args) 2) ∷ Gives (slice_index (argument_words args) 3) ∷ [])
      n c d at refl idle (
        refl,
        (
          refl,
          (
            source args c.regs (put (put c.regs 2 0) 3 0) 0 held (λ r ge. high (put c.regs 2 0) 3 0 r (omega arith) ge
                ∙ high c.regs 2 0 r (omega arith) ge),
            (
              source args c.regs (put (put (put c.regs 2 0) 3 0) 4 (slice_index (argument_words args) 0)) 1 held
                  (λ r ge. high (put (put c.regs 2 0) 3 0) 4 (slice_index (argument_words args) 0) r (omega arith) ge ∙ high (put c.regs 2 0) 3 0 r
                  (omega arith) ge ∙ high c.regs 2 0 r (omega arith) ge),
              (
                source args c.regs (put (put (put (put c.regs 2 0) 3 0) 4 (slice_index (argument_words args) 0)) 5
                    (slice_index (argument_words args) 1)) 2 held
                    (λ r ge. high (put (put (put c.regs 2 0) 3 0) 4 (slice_index (argument_words args) 0)) 5 (slice_index (argument_words args) 1) r
                    (omega arith) ge ∙ high (put (put c.regs 2 0) 3 0) 4 (slice_index (argument_words args) 0) r (omega arith) ge ∙ high
                    (put c.regs 2 0) 3 0 r (omega arith) ge ∙ high c.regs 2 0 r (omega arith) ge),
                (
                  source args c.regs (put (put (put (put (put c.regs 2 0) 3 0) 4 (slice_index (argument_words args) 0)) 5
                      (slice_index (argument_words args) 1)) 6 (slice_index (argument_words args) 2)) 3 held
                      (λ r ge. high (put (put (put (put c.regs 2 0) 3 0) 4 (slice_index (argument_words args) 0)) 5
                      (slice_index (argument_words args) 1)) 6 (slice_index (argument_words args) 2) r (omega arith) ge ∙ high
                      (put (put (put c.regs 2 0) 3 0) 4 (slice_index (argument_words args) 0)) 5 (slice_index (argument_words args) 1) r
                      (omega arith) ge ∙ high (put (put c.regs 2 0) 3 0) 4 (slice_index (argument_words args) 0) r (omega arith) ge ∙ high
                      (put c.regs 2 0) 3 0 r (omega arith) ge ∙ high c.regs 2 0 r (omega arith) ge),
                  tt,
                ),
              ),
            ),
          ),
        ),
      )
    where
      high : (g : ℕ → ℕ) (a v r : ℕ) → a ≤ 7 → 20 ≤ r → put g a v r ≡ g r
      high g a v r le ge = cond-false _ v (g r) (ne_eqb r a (λ q. absurd (omega (arith, q, le, ge))))

  -- the registers agree with the list at the start
  starts : (args : Values) (c : Contents) → Agree (set_out args c) (whole args)
  starts args c zero ok = refl
  starts args c (suc zero) ok = absurd (is_not ok)
  starts args c (suc (suc zero)) ok = refl
  starts args c (suc (suc (suc zero))) ok = refl
  starts args c (suc (suc (suc (suc zero)))) ok = sym (zeros_behind (argument_words args) (28 - count args) 0)
  starts args c (suc (suc (suc (suc (suc zero))))) ok = sym (zeros_behind (argument_words args) (28 - count args) 1)
  starts args c (suc (suc (suc (suc (suc (suc zero)))))) ok = sym (zeros_behind (argument_words args) (28 - count args) 2)
  starts args c (suc (suc (suc (suc (suc (suc (suc zero))))))) ok = sym (zeros_behind (argument_words args) (28 - count args) 3)
  starts args c (suc (suc (suc (suc (suc (suc (suc (suc k)))))))) ok = let lt = small (suc (suc (suc (suc (suc (suc (suc (suc k)))))))) ok in absurd
      (omega (arith, lt))

  -- the longer list of registers gives the same result
  same_result : (words : List ℕ) (args : Values) → IsTrue (are_allowed_words words) → length (whole args) ≡ 32 → slice_index
      (run_words words (whole args)) 2 ≡ slice_index (run_words words (start_registers args)) 2
  same_result words args ok long =
      let behind = length-append (0 ∷ 0 ∷ 0 ∷ 0 ∷ argument_words args) (replicate 4 0) in
      look words (whole args) (start_registers args) ok (omega (arith, long)) (omega (arith, behind))
      (λ r u. zeros_behind (0 ∷ 0 ∷ 0 ∷ 0 ∷ argument_words args) (28 - count args) r ∙ sym (zeros_behind (0 ∷ 0 ∷ 0 ∷ 0 ∷ argument_words args) 4 r))
      2 refl

  pub asm_runs : AsmRuns w
  asm_runs words args n c d ok few held at idle =
      let fit = whole_fits args c.regs 20 few held in
      let c1 = set_out args c in
      let first = moves args n c d held (runs.front w n (arguments_code (count args)) (asm_body_code words) at) idle in
      let body = body_runs words (n + 6) c1 d (whole args) ok (runs.back w n (arguments_code (count args)) (asm_body_code words) at) idle fit
      (starts args c) in
      let x = slice_index (run_words words (start_registers args)) 2 in
      let result : body.end.regs 2 ≡ slice_index (run_words words (start_registers args)) 2 = body.agree 2 refl
      ∙ same_result words args ok fit.size in
      let long = body.fit.size in
      let below : slice_index (run_words words (whole args)) 2 < 2 ^ 32 = All-get_or IsWord (run_words words (whole args)) 2 0
      (omega (arith, long)) body.fit.each in
      let low : slice_index (run_words words (start_registers args)) 2 < 2 ^ 32 = subst (λ v. v < 2 ^ 32)
      (same_result words args ok fit.size) below in
      let size : n + 6 + length words ≡ n + length (asm_code (count args) words) = sizes n words (arguments_code (count args)) refl in
      let run = subst (λ k. Steps w (length words) (at_with (n + 6) c1 d) (at_with k body.end d)) size body.run in (
        body.end,
        record {
          answer = result ∙ sym (of_z-to_z w32 (slice_index (run_words words (start_registers args)) 2) low);
          regs = λ r o. body.stay.regs r o ∙ set_stays args c r o;
          memory = body.stay.memory;
          hi = body.stay.hi;
          lo = body.stay.lo;
          special = body.stay.special;
        },
        record {
          steps = first.steps + length words;
          within = omega (arith, first.within);
          run = joins.joined w first.steps (length words)
              (at_with n c d) (at_with (n + 6) c1 d) (at_with (n + length (asm_code (count args) words)) body.end d) first.run run;
        },
        omega arith,
      )
    where
      lengths : (xs : List ℕ) → length (asm_body_code xs) ≡ length xs
      lengths [] = refl
      lengths (x ∷ xs) = ap suc (lengths xs)

      sizes : (m : ℕ) (xs : List ℕ) (is : List Inst) → length is ≡ 6 → m + 6 + length xs ≡ m + length (is ++ asm_body_code xs)
      sizes m xs is six = let joined = length-append is (asm_body_code xs) in let same = lengths xs in omega (arith, joined, same, six)
