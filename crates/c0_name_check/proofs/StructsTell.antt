-- Types by numbers and listed words are types by the structs themselves.
use Rattle.std.proofs.Common.{◌≡◌, ℕ, zero, suc, ◌*◌, ◌<◌, ◌≤◌, inl, inr, Bool, true, false, nat_lt, min, get_or, if◌then◌else◌, List, [], ◌∷◌, ◌++◌, length, Option, Some, None, refl, sym, ap, ◌∙◌, arith}
use Rattle.std.specs.Prelude.{is_some}
use Rattle.std.specs.Option.{option_map}
use Rattle.std.proofs.lemmas.Bool.{cases_lt}
use Rattle.std.proofs.lemmas.Bool.Decides.{nat_tests}
use Rattle.std.proofs.Math.Nat.{mul_comm}
use Rattle.c0_tree.specs.declared.tree.Span.{Span}
use Rattle.c0_tree.specs.declared.tree.Kind.TheVariants.{Struct}
use Rattle.c0_tree.specs.Tree.{CName, CTy, int, bool, pointer, named, array}
use Rattle.c0_meaning.specs.Ty as ty
use Rattle.c0_meaning.specs.Ty.{ty_of}
use Rattle.c0_meaning.specs.Env.{Shape, first_named, fields_of}
use Rattle.c0_meaning.specs.Fault.{fault, UNKNOWN_NAME, TYPE_TOO_LARGE, EMPTY_ARRAY}
use Rattle.c0_meaning.specs.Words.{words, struct_words, all_words_with, shape_fields, words_within, holds}
use Rattle.c0_meaning.specs.DeclaredTypes.{MAX_TYPE_WORDS, fault_if, unknown_structs, has_empty_array, type_faults}
use Rattle.c0_meaning.specs.Resolved.{looked_up, resolved_type}
use Rattle.c0_name_check.specs.Names.{number_named}
use Rattle.c0_meaning.specs.Sizes.{WORDS_CAP}
use Rattle.c0_name_check.specs.Structs.{unknown_name, unknown_by, numbered_struct, numbered_type, listed_words, capped_words, type_faults_by}

le_product : (a n : ℕ) → 0 < n → a ≤ n * a
le_product a zero h = absurd (omega arith)
le_product a (suc n) h = grind arith

-- a factor may be capped before the product is
capped_product : (a n m : ℕ) → min (min a m * n) m ≡ min (n * a) m
capped_product a zero m = grind arith
capped_product a (suc n) m =
    elim (cases_lt a m) [
      | inl below ↦ let e : min a m ≡ a = omega arith in rw e (ap (λ (k : ℕ). min k m) (mul_comm a (suc n)))
      | inr above ↦
          let e : min a m ≡ m = omega arith in
          let p : m ≤ suc n * m = le_product m (suc n) (omega arith) in
          let q : a ≤ suc n * a = le_product a (suc n) (omega arith) in
          let r : m * suc n ≡ suc n * m = mul_comm m (suc n) in
          rw e (omega arith)
    ]

-- what is too large is so up to the cap
large : (k : ℕ) → nat_lt MAX_TYPE_WORDS (min k WORDS_CAP) ≡ nat_lt MAX_TYPE_WORDS k
large k = elim (cases_lt k WORDS_CAP) [
  | inl below ↦ let e : min k WORDS_CAP ≡ k = omega arith in ap (nat_lt MAX_TYPE_WORDS) e
  | inr above ↦ let e : min k WORDS_CAP ≡ WORDS_CAP = omega arith in ap (nat_lt MAX_TYPE_WORDS) e ∙ sym (over k above)
]
  where
    over : (k : ℕ) → WORDS_CAP ≤ k → nat_lt MAX_TYPE_WORDS k ≡ true
    over k h = grind (arith, nat_tests)

-- a struct that isn't defined has no words
undefined_within : (structs : List Shape) (text : List ℕ) (depth : ℕ) → first_named (λ s. s.text) text 0 structs ≡ None → words_within depth structs text ≡ 0
undefined_within structs text zero h = refl
undefined_within structs text (suc depth) h = by_test (holds structs text text)
  where
    by_test : (b : Bool) → (if b then 0 else all_words_with (words_within depth structs) (shape_fields structs text)) ≡ 0
    by_test true = refl
    by_test false = ap (λ o. all_words_with (words_within depth structs) (fields_of o)) h

undefined : (structs : List Shape) (text : List ℕ) → first_named (λ s. s.text) text 0 structs ≡ None → words structs (ty.named text) ≡ 0
unfolding struct_words
undefined structs text h = undefined_within structs text (length structs) h

module _ (number : List ℕ → Option ℕ) (sizes : List ℕ) (structs : List Shape)
    (numbers : (text : List ℕ) → number text ≡ number_named (λ s. s.text) text 0 structs)
    (sized : (text : List ℕ) (n : ℕ) → number text ≡ Some n → get_or sizes n 0 ≡ min (words structs (ty.named text)) WORDS_CAP) where
  unknown_one : (span : Span) (o : Option (ℕ × Shape)) → unknown_name (option_map (λ found. found.0) o) span ≡ (if is_some o then [] else fault UNKNOWN_NAME span ∷ [])
  unknown_one span None = refl
  unknown_one span (Some p) = refl

  same_unknown : (t : CTy) → unknown_by number t ≡ unknown_structs structs t
  same_unknown int = refl
  same_unknown bool = refl
  same_unknown (pointer t) = same_unknown t
  same_unknown (named x) = ap (λ o. unknown_name o x.span) (numbers x.text) ∙ unknown_one x.span (first_named (λ s. s.text) x.text 0 structs)
  same_unknown (array t n) = same_unknown t

  looked_one : (x : CName) (o : Option (ℕ × Shape)) → numbered_struct x (option_map (λ found. found.0) o) ≡ looked_up Struct o x
  looked_one x None = refl
  looked_one x (Some p) = refl

  pub same_resolved : (t : CTy) → numbered_type number t ≡ resolved_type structs t
  same_resolved int = refl
  same_resolved bool = refl
  same_resolved (pointer t) = ap pointer (same_resolved t)
  same_resolved (named x) = ap named (ap (numbered_struct x) (numbers x.text) ∙ looked_one x (first_named (λ s. s.text) x.text 0 structs))
  same_resolved (array t n) = ap (λ u. array u n) (same_resolved t)

  pub same_words : (t : CTy) → capped_words number sizes t ≡ min (words structs (ty_of t)) WORDS_CAP
  same_words int = refl
  same_words bool = refl
  same_words (pointer t) = refl
  same_words (named x) = by_number (number x.text) refl
    where
      none : (o : Option (ℕ × Shape)) → option_map (λ (found : ℕ × Shape). found.0) o ≡ None → o ≡ None
      none None h = refl
      none (Some p) h = cc

      by_number : (o : Option ℕ) → number x.text ≡ o → listed_words sizes (number x.text) ≡ min (words structs (ty.named x.text)) WORDS_CAP
      by_number None e =
          ap (listed_words sizes) e
          ∙ sym (ap (λ k. min k WORDS_CAP) (undefined structs x.text (none (first_named (λ s. s.text) x.text 0 structs) (sym (numbers x.text) ∙ e))))
      by_number (Some n) e = ap (listed_words sizes) e ∙ sized x.text n e
  same_words (array t n) = ap (λ k. min (k * n) WORDS_CAP) (same_words t) ∙ capped_product (words structs (ty_of t)) n WORDS_CAP

  pub same_faults : (t : CTy) (span : Span) → type_faults_by number sizes t span ≡ type_faults structs t span
  same_faults t span =
      ap (λ l. l ++ (fault_if (has_empty_array t) EMPTY_ARRAY span ++ fault_if (nat_lt MAX_TYPE_WORDS (capped_words number sizes t)) TYPE_TOO_LARGE span)) (same_unknown t)
      ∙ ap (λ b. unknown_structs structs t ++ (fault_if (has_empty_array t) EMPTY_ARRAY span ++ fault_if b TYPE_TOO_LARGE span))
      (ap (nat_lt MAX_TYPE_WORDS) (same_words t) ∙ large (words structs (ty_of t)))
