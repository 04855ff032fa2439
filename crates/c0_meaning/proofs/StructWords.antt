-- The words of a struct don't depend on how deep structs are opened, once that is deep enough: what a struct that doesn't hold itself
-- holds, each of its parts holds less of.
use Rattle.std.proofs.Common.{◌≡◌, ◌⊎◌, inl, inr, ℕ, zero, suc, ◌+◌, ◌*◌, ◌<◌, ◌≤◌, Bool, true, false, cond, List, [], ◌∷◌, length, map, Some, refl, sym, ap, ◌∙◌, subst, arith}
use Rattle.std.proofs.lemmas.Bool.{or_left, or_right, false≢true, cond-true, cond-false, false_from_ne_true, cases_Bool}
use Rattle.std.proofs.lemmas.Slice.Eq.{bytes_eq-Decides}
use Rattle.std.specs.Str.{bytes_eq}
use Rattle.c0_meaning.specs.Ty.{Ty, int, bool, pointer, named, array}
use Rattle.c0_meaning.specs.Env.{Typed, Shape, first_named, fields_of}
use Rattle.c0_meaning.specs.Words.{is_made_of, shape_fields, have_field, has_field_of, by_field, by_part, holds, words_with, all_words_with, words_within, struct_words, words, all_words, WordsAreThose}
use Rattle.c0_meaning.proofs.StructHolding.{Among, holds_as_tested}

-- how many pass a test
abbrev count : (Shape → Bool) → List Shape → ℕ
count p [] = 0
count p (s ∷ rest) = cond (p s) 1 0 + count p rest

one_le : (b c : Bool) (m n : ℕ) → (b ≡ true → c ≡ true) → m ≤ n → cond b 1 0 + m ≤ cond c 1 0 + n
one_le true true m n h le = omega arith
one_le true false m n h le = absurd (false≢true (h refl))
one_le false true m n h le = omega arith
one_le false false m n h le = omega arith

one_lt : (b c : Bool) (m n : ℕ) → (b ≡ true → c ≡ true) → m < n → cond b 1 0 + m < cond c 1 0 + n
one_lt true true m n h le = omega arith
one_lt true false m n h le = absurd (false≢true (h refl))
one_lt false true m n h le = omega arith
one_lt false false m n h le = omega arith

none_one : (b c : Bool) (m n : ℕ) → b ≡ false → c ≡ true → m ≤ n → cond b 1 0 + m < cond c 1 0 + n
none_one b c m n p q le = subst (λ (x : Bool). cond x 1 0 + m < cond c 1 0 + n) (sym p) (subst (λ (x : Bool). 0 + m < cond x 1 0 + n) (sym q) (omega arith))

count_le : (p q : Shape → Bool) (xs : List Shape) → ((s : Shape) → p s ≡ true → q s ≡ true) → count p xs ≤ count q xs
count_le p q [] h = omega arith
count_le p q (s ∷ rest) h = one_le (p s) (q s) (count p rest) (count q rest) (h s) (count_le p q rest h)

-- where one test passes all that another does, and one element more, it passes more
count_lt : (p q : Shape → Bool) (xs : List Shape) (t : List ℕ) → ((s : Shape) → p s ≡ true → q s ≡ true) → Among (map (λ s. s.text) xs) t → ((s : Shape) → s.text ≡ t → p s ≡ false) → ((s : Shape) → s.text ≡ t → q s ≡ true) → count p xs < count q xs
count_lt p q [] t h among lacks passes = absurd among
count_lt p q (s ∷ rest) t h among lacks passes =
    elim among [
      | inl same ↦ none_one (p s) (q s) (count p rest) (count q rest) (lacks s same) (passes s same) (count_le p q rest h)
      | inr later ↦ one_lt (p s) (q s) (count p rest) (count q rest) (h s) (count_lt p q rest t h later lacks passes)
    ]

count_all : (xs : List Shape) → count (λ s. true) xs ≡ length xs
count_all [] = refl
count_all (s ∷ rest) = let e = count_all rest in omega arith

-- how many structs the struct of a name holds
pub rank : List Shape → List ℕ → ℕ
rank structs x = count (λ s. holds structs x s.text) structs

-- a part that is defined and doesn't hold itself holds fewer
pub rank_falls : (structs : List Shape) (x y : List ℕ) → has_field_of structs x y ≡ true → Among (map (λ s. s.text) structs) y → holds structs y y ≡ false → rank structs y < rank structs x
unfolding rank
rank_falls structs x y field among loose =
    count_lt (λ s. holds structs y s.text) (λ s. holds structs x s.text) structs y
    (λ s h. (holds_as_tested structs x s.text).1 (by_part field ((holds_as_tested structs y s.text).0 h)))
    among
    (λ s same. subst (λ (t : List ℕ). holds structs y t ≡ false) (sym same) loose)
    (λ s same. subst (λ (t : List ℕ). holds structs x t ≡ true) (sym same) ((holds_as_tested structs x y).1 (by_field field)))

-- a struct that is defined and doesn't hold itself holds fewer than all
pub rank_below : (structs : List Shape) (x : List ℕ) → Among (map (λ s. s.text) structs) x → holds structs x x ≡ false → rank structs x < length structs
unfolding rank
rank_below structs x among loose =
    subst (λ (n : ℕ). count (λ s. holds structs x s.text) structs < n) (count_all structs)
    (count_lt (λ s. holds structs x s.text) (λ s. true) structs x (λ s h. refl) among
    (λ s same. subst (λ (t : List ℕ). holds structs x t ≡ false) (sym same) loose) (λ s same. refl))

-- what a search finds
found_among : (structs : List Shape) (x : List ℕ) (k : ℕ) → ((fields_of (first_named (λ s. s.text) x k structs) ≡ []) ⊎ Among (map (λ s. s.text) structs) x)
found_among [] x k = inl refl
found_among (s ∷ rest) x k =
    elim (cases_Bool (bytes_eq s.text x)) [
      | inl e ↦ inr (inl ((bytes_eq-Decides s.text x).0 e))
      | inr e ↦
          elim (found_among rest x (suc k)) [
            | inl none ↦ inl (ap fields_of (cond-false (bytes_eq s.text x) (Some (k, s)) (first_named (λ s. s.text) x (suc k) rest) e) ∙ none)
            | inr later ↦ inr (inr later)
          ]
    ]

-- a struct has no fields, or it is defined
pub is_defined : (structs : List Shape) (x : List ℕ) → ((shape_fields structs x ≡ []) ⊎ Among (map (λ s. s.text) structs) x)
is_defined structs x = found_among structs x 0

-- a struct that holds itself has no words at any depth
cycle_zero : (structs : List Shape) (k : ℕ) (x : List ℕ) → holds structs x x ≡ true → words_within k structs x ≡ 0
cycle_zero structs zero x h = refl
cycle_zero structs (suc k) x h = cond-true (holds structs x x) 0 (all_words_with (words_within k structs) (shape_fields structs x)) h

-- a struct without fields has no words at any depth
empty_zero : (structs : List Shape) (k : ℕ) (x : List ℕ) → shape_fields structs x ≡ [] → words_within k structs x ≡ 0
empty_zero structs zero x h = refl
empty_zero structs (suc k) x h =
    elim (cases_Bool (holds structs x x)) [
      | inl e ↦ cond-true (holds structs x x) 0 (all_words_with (words_within k structs) (shape_fields structs x)) e
      | inr e ↦ cond-false (holds structs x x) 0 (all_words_with (words_within k structs) (shape_fields structs x)) e ∙ ap (all_words_with (words_within k structs)) h
    ]

-- a struct that doesn't hold itself, opened once
opened : (structs : List Shape) (k : ℕ) (x : List ℕ) → holds structs x x ≡ false → words_within (suc k) structs x ≡ all_words_with (words_within k structs) (shape_fields structs x)
opened structs k x h = cond-false (holds structs x x) 0 (all_words_with (words_within k structs) (shape_fields structs x)) h

-- the words of a type depend only on those of the structs that it is made of
pub words_with_same : (f g : List ℕ → ℕ) (t : Ty) → ((y : List ℕ) → is_made_of y t ≡ true → f y ≡ g y) → words_with f t ≡ words_with g t
words_with_same f g int h = refl
words_with_same f g bool h = refl
words_with_same f g (pointer t) h = refl
words_with_same f g (named x) h = h x ((bytes_eq-Decides x x).1 refl)
words_with_same f g (array t n) h = ap (λ (m : ℕ). n * m) (words_with_same f g t h)

all_words_with_same : (f g : List ℕ → ℕ) (fields : List Typed) → ((y : List ℕ) → have_field fields y ≡ true → f y ≡ g y) → all_words_with f fields ≡ all_words_with g fields
all_words_with_same f g [] h = refl
all_words_with_same f g (d ∷ rest) h =
    let here : words_with f d.ty ≡ words_with g d.ty = words_with_same f g d.ty (λ y e. h y (or_left (is_made_of y d.ty) (have_field rest y) e)) in
    let later : all_words_with f rest ≡ all_words_with g rest = all_words_with_same f g rest (λ y e. h y (or_right (is_made_of y d.ty) (have_field rest y) e)) in
    omega arith

-- beyond the number of structs that are held, depth is of no effect
deep_enough : (structs : List Shape) (k m : ℕ) (x : List ℕ) → rank structs x < k → rank structs x < m → words_within k structs x ≡ words_within m structs x
deep_enough structs zero m x p q = absurd (omega arith)
deep_enough structs (suc k) zero x p q = absurd (omega arith)
deep_enough structs (suc k) (suc m) x p q =
    elim (cases_Bool (holds structs x x)) [
      | inl e ↦ cycle_zero structs (suc k) x e ∙ sym (cycle_zero structs (suc m) x e)
      | inr e ↦ opened structs k x e ∙ (all_words_with_same (words_within k structs) (words_within m structs) (shape_fields structs x)
          (λ y field.
          elim (cases_Bool (holds structs y y)) [
            | inl c ↦ cycle_zero structs k y c ∙ sym (cycle_zero structs m y c)
            | inr c ↦
                elim (is_defined structs y) [
                  | inl none ↦ empty_zero structs k y none ∙ sym (empty_zero structs m y none)
                  | inr among ↦
                      let less : rank structs y < rank structs x = rank_falls structs x y field among c in
                      deep_enough structs k m y (omega arith) (omega arith)
                ]
          ])
          ∙ sym (opened structs m x e))
    ]

-- a part of a struct that doesn't hold itself has the same words at both depths
part_same : (structs : List Shape) (k : ℕ) (x y : List ℕ) → length structs ≡ suc k → holds structs x x ≡ false → Among (map (λ s. s.text) structs) x → has_field_of structs x y ≡ true → words_within k structs y ≡ words_within (suc k) structs y
part_same structs k x y len loose there field =
    elim (cases_Bool (holds structs y y)) [
      | inl c ↦ cycle_zero structs k y c ∙ sym (cycle_zero structs (suc k) y c)
      | inr c ↦
          elim (is_defined structs y) [
            | inl none ↦ empty_zero structs k y none ∙ sym (empty_zero structs (suc k) y none)
            | inr among ↦
                let less : rank structs y < rank structs x = rank_falls structs x y field among c in
                let few : rank structs x < length structs = rank_below structs x there loose in
                deep_enough structs k (suc k) y (omega arith) (omega arith)
          ]
    ]

fields_at : (structs : List Shape) (n : ℕ) (x : List ℕ) → length structs ≡ n → holds structs x x ≡ false → words_within n structs x ≡ all_words_with (words_within n structs) (shape_fields structs x)
fields_at structs zero x len loose =
    elim (is_defined structs x) [
      | inl none ↦ sym (ap (all_words_with (words_within zero structs)) none)
      | inr among ↦ let few : rank structs x < length structs = rank_below structs x among loose in absurd (omega arith)
    ]
fields_at structs (suc k) x len loose =
    elim (is_defined structs x) [
      | inl none ↦ empty_zero structs (suc k) x none ∙ sym (ap (all_words_with (words_within (suc k) structs)) none)
      | inr among ↦ opened structs k x loose ∙ all_words_with_same (words_within k structs) (words_within (suc k) structs) (shape_fields structs x) (λ y field. part_same structs k x y len loose among field)
    ]

-- a struct that doesn't hold itself has the words of its fields
pub fields_words : (structs : List Shape) (x : List ℕ) → holds structs x x ≡ false → words structs (named x) ≡ all_words structs (shape_fields structs x)
unfolding struct_words
fields_words structs x loose = fields_at structs (length structs) x refl loose

-- a struct that holds itself has no words
pub cycle_words : (structs : List Shape) (x : List ℕ) → holds structs x x ≡ true → words structs (named x) ≡ 0
unfolding struct_words
cycle_words structs x h = cycle_zero structs (length structs) x h

pub words_are_those : WordsAreThose
words_are_those = record {
  scalar = λ structs t. (refl, refl, refl);
  element = λ structs t n. refl;
  fields = λ structs x loose. fields_words structs x (false_from_ne_true (holds structs x x) (λ h. loose ((holds_as_tested structs x x).0 h)));
  cycle = λ structs x h. cycle_words structs x ((holds_as_tested structs x x).1 h);
}
