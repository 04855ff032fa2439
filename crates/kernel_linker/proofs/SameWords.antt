-- Words compared with themselves.
use Rattle.std.proofs.Common.{ℕ, suc, ◌≡◌, ◌==◌, true, Bool, List, [], ◌∷◌, length, Result, Ok, Err, if◌then◌else◌, refl, ap, ◌∙◌, arith}
use Rattle.std.proofs.lemmas.Bool.Decides.{nat_tests}
use Rattle.kernel_linker.specs.Difference.{words_compared, compared}
use Rattle.kernel_linker.specs.declared.difference.Difference.TheVariants.{Count, Word}

-- a number is found to be itself
eq_true : (a b : ℕ) → a ≡ b → (a == b) ≡ true
eq_true a b e = grind (arith, nat_tests)

-- words are those that they are
pub same_words : (position : ℕ) (words : List ℕ) → words_compared position words words ≡ Ok tt
same_words position [] = refl
same_words position (w ∷ words) =
    ap (λ (b : Bool). if b then words_compared (suc position) words words else Err (Word position w w)) (eq_true w w refl) ∙ same_words (suc position) words

-- a list of words is the same as itself
pub same_all : (words : List ℕ) → compared words words ≡ Ok tt
unfolding compared
same_all words =
    ap (λ (b : Bool). if b then words_compared 0 words words else Err (Count (length words) (length words))) (eq_true (length words) (length words) refl) ∙ same_words 0 words
