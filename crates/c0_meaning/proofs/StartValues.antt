-- A value at its start has a scalar for each word of its type: both are the same recursion over types and structs.
use Rattle.std.proofs.Common.{◌≡◌, ℕ, zero, suc, ◌*◌, List, [], ◌∷◌, length, Bool, true, false, refl, ap, ◌∙◌, arith}
use Rattle.std.specs.Prelude.{if◌then◌else◌}
use Rattle.c0_meaning.specs.Ty.{Ty, int, bool, pointer, named, array}
use Rattle.c0_meaning.specs.Env.{Typed, Shape}
use Rattle.c0_meaning.specs.Words.{shape_fields, holds, words_with, all_words_with, words_within, struct_words}
use Rattle.c0_meaning.specs.Value.{Value, group, Values, empty, repeated, zero_with, zeros_with, zero_within}
use Rattle.c0_meaning.specs.RunLaws.{ZeroHasWords, scalars, all_scalars}

repeats : (n : ℕ) (v : Value) → all_scalars (repeated n v) ≡ n * scalars v
repeats zero v = omega arith
repeats (suc n) v = omega (arith, repeats n v)

zero_words : (f : List ℕ → Value) (g : List ℕ → ℕ) → ((x : List ℕ) → scalars (f x) ≡ g x) → (t : Ty) → scalars (zero_with f t) ≡ words_with g t
zero_words f g same int = refl
zero_words f g same bool = refl
zero_words f g same (pointer t) = refl
zero_words f g same (named x) = same x
zero_words f g same (array t n) = repeats n (zero_with f t) ∙ ap (λ k. n * k) (zero_words f g same t)

zeros_words : (f : List ℕ → Value) (g : List ℕ → ℕ) → ((x : List ℕ) → scalars (f x) ≡ g x) → (ds : List Typed) → all_scalars (zeros_with f ds) ≡ all_words_with g ds
zeros_words f g same [] = refl
zeros_words f g same (d ∷ ds) = omega (arith, zero_words f g same d.ty, zeros_words f g same ds)

unless : (b : Bool) (vs : Values) (n : ℕ) → all_scalars vs ≡ n → scalars (if b then group empty else group vs) ≡ (if b then 0 else n)
unless true vs n e = refl
unless false vs n e = e

opened : (depth : ℕ) (structs : List Shape) (x : List ℕ) → scalars (zero_within depth structs x) ≡ words_within depth structs x
opened zero structs x = refl
opened (suc depth) structs x =
    unless (holds structs x x) _ _ (zeros_words (zero_within depth structs) (words_within depth structs) (λ y. opened depth structs y) (shape_fields structs x))

pub zero_has_words : ZeroHasWords
unfolding struct_words
zero_has_words structs t = zero_words (zero_within (length structs) structs) (struct_words structs) (λ x. opened (length structs) structs x) t
