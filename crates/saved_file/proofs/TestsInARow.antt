-- Tests in a row: the first of them and then the others, as a loop over their numbers looks at them; and two rows, one behind the other.
use Rattle.std.proofs.Common.{◌≡◌, ℕ, suc, ◌+◌, ◌-◌, ◌≤◌, ◌<◌, List, [], ◌∷◌, ◌++◌, Result, Ok, Err, refl, ap, ◌∙◌, arith}
use Rattle.cvm_words.specs.Reading.{◌>>=◌}
use Rattle.saved_file.specs.Tests.{Test, tried, all_tried, each}
use Rattle.saved_file.specs.declared.fault.SaveFault.{SaveFault}

-- the test of this number, and then those from the next one on
pub walk_more : (n : ℕ) (f : ℕ → Test) (i end : ℕ) (r : Result (Unit {0}) SaveFault) → i < end → tried n (f i) ≡ r → all_tried n (each f i (end - i)) ≡ (r >>= λ done. all_tried n (each f (i + 1) (end - (i + 1))))
unfolding each
walk_more n f i end r lt is =
    let more : end - i ≡ suc (end - (i + 1)) = omega arith in
    let next : suc i ≡ i + 1 = omega arith in
    ap (λ (k : ℕ). all_tried n (each f i k)) more
    ∙ ap (λ (q : Result (Unit {0}) SaveFault). q >>= λ done. all_tried n (each f (suc i) (end - (i + 1)))) is
    ∙ ap (λ (k : ℕ). r >>= λ done. all_tried n (each f k (end - (i + 1)))) next

-- behind the last number there is none
pub walk_end : (n : ℕ) (f : ℕ → Test) (i end : ℕ) → end ≤ i → all_tried n (each f i (end - i)) ≡ Ok tt
unfolding each
walk_end n f i end le = let none : end - i ≡ 0 = omega arith in ap (λ (k : ℕ). all_tried n (each f i k)) none

-- two rows of tests
then_row : (n : ℕ) (r : Result (Unit {0}) SaveFault) (a b : List Test) → all_tried n (a ++ b) ≡ (all_tried n a >>= λ done. all_tried n b) → (r >>= λ done. all_tried n (a ++ b)) ≡ ((r >>= λ done. all_tried n a) >>= λ done. all_tried n b)
then_row n (Ok x) a b is = is
then_row n (Err e) a b is = refl

pub tried-append : (n : ℕ) (a b : List Test) → all_tried n (a ++ b) ≡ (all_tried n a >>= λ done. all_tried n b)
tried-append n [] b = refl
tried-append n (t ∷ a) b = then_row n (tried n t) a b (tried-append n a b)

-- what comes of the first row, and then of both
pub by_row : (n : ℕ) (a b : List Test) (r : Result (Unit {0}) SaveFault) → all_tried n a ≡ r → all_tried n (a ++ b) ≡ (r >>= λ done. all_tried n b)
by_row n a b r is = tried-append n a b ∙ ap (λ (q : Result (Unit {0}) SaveFault). q >>= λ done. all_tried n b) is

-- what comes of the first test, and then of all
pub by_test : (n : ℕ) (t : Test) (b : List Test) (r : Result (Unit {0}) SaveFault) → tried n t ≡ r → all_tried n (t ∷ b) ≡ (r >>= λ done. all_tried n b)
by_test n t b r is = ap (λ (q : Result (Unit {0}) SaveFault). q >>= λ done. all_tried n b) is
