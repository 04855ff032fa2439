-- The registers of an asm body at its start: the arguments, and zeros.
use Rattle.std.proofs.Common.{◌≡◌, ◌≢◌, ℕ, zero, suc, ◌+◌, ◌-◌, ◌%◌, ◌^◌, ◌<◌, ◌≤◌, Bool, true, false, nat_lt, List, [], ◌∷◌, ◌++◌, length, replicate, refl, sym, ap, ◌∙◌, subst, arith, ne_eqb}
use Rattle.std.specs.Prelude.{if◌then◌else◌, slice_index, All}
use Rattle.std.proofs.lemmas.Bool.{cond-false, ltb-true, ltb-false}
use Rattle.std.proofs.lemmas.List.{get_or_past, length-append, length-replicate}
use Rattle.std.proofs.lemmas.List.Elements.{All-append, All-cons, All-nil, All-replicate}
use Rattle.mips_table.specs.Arith.{sum}
use Rattle.mips_table.specs.Fits.{IsWord, AreRegisters}
use Rattle.mips_table.specs.Code.{reg}
use Rattle.cvm_words.specs.Words.{word_of}
use Rattle.c0_meaning.specs.Value.{Values, empty, part, int, bool, null, at, group, count}
use Rattle.c0_meaning.specs.AsmBody.{argument_words}
use Rattle.c0_asm_body.specs.Laws.{HoldInts}

-- zeros behind a list are what is read there anyhow
pub zeros_behind : (xs : List ℕ) (m i : ℕ) → slice_index (xs ++ replicate m 0) i ≡ slice_index xs i
zeros_behind [] zero i = refl
zeros_behind [] (suc m) zero = refl
zeros_behind [] (suc m) (suc i) = zeros_behind [] m i
zeros_behind (x ∷ xs) m zero = refl
zeros_behind (x ∷ xs) m (suc i) = zeros_behind xs m i

pub words_length : (args : Values) (g : ℕ → ℕ) (r : ℕ) → HoldInts g r args → length (argument_words args) ≡ count args
words_length empty g r h = refl
words_length (part (int a) vs) g r h = ap suc (words_length vs g (r + 1) h.2)
words_length (part (bool b) vs) g r h = absurd h
words_length (part null vs) g r h = absurd h
words_length (part (at l) vs) g r h = absurd h
words_length (part (group xs) vs) g r h = absurd h

words_fit : (args : Values) (g : ℕ → ℕ) (r : ℕ) → HoldInts g r args → All IsWord (argument_words args)
words_fit empty g r h = All-nil IsWord
words_fit (part (int a) vs) g r h = All-cons IsWord (word_of a) (argument_words vs) (subst (λ n. n < 2 ^ 32) h.0 h.1) (words_fit vs g (r + 1) h.2)
words_fit (part (bool b) vs) g r h = absurd h
words_fit (part null vs) g r h = absurd h
words_fit (part (at l) vs) g r h = absurd h
words_fit (part (group xs) vs) g r h = absurd h

-- 32 registers, of which the first are those at the start
abbrev pub whole : Values → List ℕ
whole args = (0 ∷ 0 ∷ 0 ∷ 0 ∷ argument_words args) ++ replicate (28 - count args) 0

pub whole_fits : (args : Values) (g : ℕ → ℕ) (r : ℕ) → count args ≤ 4 → HoldInts g r args → AreRegisters (whole args)
whole_fits args g r le h =
    let n = words_length args g r h in
    let joined = length-append (0 ∷ 0 ∷ 0 ∷ 0 ∷ argument_words args) (replicate (28 - count args) 0) in
    let behind : length (replicate {A = ℕ} (28 - count args) 0) ≡ 28 - count args = length-replicate {A = ℕ} (28 - count args) 0 in
    let few : length (0 ∷ 0 ∷ 0 ∷ 0 ∷ argument_words args) ≡ 4 + count args = omega (arith, n) in
    record {
      size = omega (arith, joined, behind, few, le);
      each = All-append IsWord (0 ∷ 0 ∷ 0 ∷ 0 ∷ argument_words args) (replicate (28 - count args) 0)
          (All-cons IsWord 0 (0 ∷ 0 ∷ 0 ∷ argument_words args) (omega arith)
          (All-cons IsWord 0 (0 ∷ 0 ∷ argument_words args) (omega arith)
          (All-cons IsWord 0 (0 ∷ argument_words args) (omega arith)
          (All-cons IsWord 0 (argument_words args) (omega arith) (words_fit args g r h)))))
          (All-replicate IsWord (28 - count args) 0 (omega arith));
      none = refl;
    }

-- an argument's word, where there is one
argument_is : (args : Values) (g : ℕ → ℕ) (r i : ℕ) → HoldInts g r args → i < count args → (g (r + i) ≡ slice_index (argument_words args) i) ×
    (g (r + i) < 2 ^ 32)
argument_is empty g r i h lt = absurd (omega (arith, lt))
argument_is (part (int a) vs) g r zero h lt = let e : r ≡ r + 0 = omega arith in (subst (λ k. g k ≡ word_of a) e h.0, subst (λ k. g k < 2 ^ 32) e h.1)
argument_is (part (int a) vs) g r (suc i) h lt =
    let rest = argument_is vs g (r + 1) i h.2 (omega (arith, lt)) in
    let e : r + 1 + i ≡ r + suc i = omega arith in
    (subst (λ k. g k ≡ slice_index (argument_words vs) i) e rest.0, subst (λ k. g k < 2 ^ 32) e rest.1)
argument_is (part (bool b) vs) g r i h lt = absurd h
argument_is (part null vs) g r i h lt = absurd h
argument_is (part (at l) vs) g r i h lt = absurd h
argument_is (part (group xs) vs) g r i h lt = absurd h

reg_above : (g : ℕ → ℕ) (r : ℕ) → r ≢ 0 → reg g r ≡ g r
reg_above g r ne = cond-false _ 0 (g r) (ne_eqb r 0 ne)

-- what the instruction for argument i gives, where the argument registers are as at the start
pub source : (args : Values) (g h : ℕ → ℕ) (i : ℕ) → HoldInts g 20 args → ((r : ℕ) → 20 ≤ r → h r ≡ g r) → sum
    (reg h (if nat_lt i (count args) then 20 + i else 0)) 0 ≡ slice_index (argument_words args) i
source args g h i held kept = by_test (nat_lt i (count args)) refl
  where
    by_test : (b : Bool) → nat_lt i (count args) ≡ b → sum (reg h (if b then 20 + i else 0)) 0 ≡ slice_index (argument_words args) i
    by_test true e =
        let a = argument_is args g 20 i held (ltb-true i (count args) e) in
        let is : reg h (20 + i) ≡ slice_index (argument_words args) i = reg_above h (20 + i) (λ z. absurd (omega (arith, z))) ∙ kept (20 + i)
        (omega arith) ∙ a.0 in
        let low : slice_index (argument_words args) i < 2 ^ 32 = subst (λ n. n < 2 ^ 32) a.0 a.1 in
        ap (λ n. (n + 0) % 2 ^ 32) is ∙ omega (arith, low)
    by_test false e =
        let n = words_length args g 20 held in let le = ltb-false i (count args) e in
        sym (get_or_past (argument_words args) i 0 (omega (arith, n, le)))
