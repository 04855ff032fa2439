-- The words of bytes: there are as many as there are four bytes, and bytes behind them don't matter; and the answer to bytes by these words.
use Rattle.std.proofs.Common.{◌≡◌, ℕ, zero, suc, ◌+◌, ◌*◌, ◌/◌, ◌≤◌, ◌<◌, List, [], ◌∷◌, length, take, get_or, Result, Ok, Err, refl, sym, ap, subst, ◌∙◌, arith}
use Rattle.std.specs.List.{AllByRecursion}
use Rattle.byteorder.specs.Endian.{little_number}
use Rattle.cvm_words.specs.Bytes.{words_of_bytes}
use Rattle.cvm_words.proofs.BytesOfWords.{words_spelled}
use Rattle.saved_file.specs.Resumable.{Wanted}
use Rattle.cvm_words.specs.Reading.{◌>>=◌}
use Rattle.saved_file.specs.Tests.{tests, all_tried, whole}
use Rattle.saved_file.specs.Answer.{TestPasses, FailsFirst, IsSavedAnswer, answer, AnswersAreSo, NothingElseIsSo}
use Rattle.saved_file.specs.declared.fault.SaveFault.{SaveFault}
use Rattle.saved_file.proofs.TestsDecide.{AllCome, all_so, all_passed, all_failed, not_above}

-- four bytes a word
pub words_length : (bytes : List ℕ) → 4 * length (words_of_bytes bytes) ≤ length bytes
unfolding words_of_bytes
words_length [] = omega arith
words_length (a ∷ []) = omega arith
words_length (a ∷ b ∷ []) = omega arith
words_length (a ∷ b ∷ c ∷ []) = omega arith
words_length (a ∷ b ∷ c ∷ d ∷ bytes) = let less = words_length bytes in omega (arith, less)

-- the words of the first bytes, where these are all that make whole words
words_front : (k : ℕ) (bytes : List ℕ) → 4 * k ≤ length bytes → length bytes < 4 * k + 4 → words_of_bytes (take (4 * k) bytes) ≡ words_of_bytes bytes
unfolding words_of_bytes
words_front zero [] least most = refl
words_front zero (a ∷ []) least most = refl
words_front zero (a ∷ b ∷ []) least most = refl
words_front zero (a ∷ b ∷ c ∷ []) least most = refl
words_front zero (a ∷ b ∷ c ∷ d ∷ bytes) least most = absurd (omega (arith, most))
words_front (suc k) [] least most = absurd (omega (arith, least))
words_front (suc k) (a ∷ []) least most = absurd (omega (arith, least))
words_front (suc k) (a ∷ b ∷ []) least most = absurd (omega (arith, least))
words_front (suc k) (a ∷ b ∷ c ∷ []) least most = absurd (omega (arith, least))
words_front (suc k) (a ∷ b ∷ c ∷ d ∷ bytes) least most =
    let four : 4 * suc k ≡ suc (suc (suc (suc (4 * k)))) = omega arith in
    ap (λ (n : ℕ). words_of_bytes (take n (a ∷ b ∷ c ∷ d ∷ bytes))) four
    ∙ ap (λ (l : List ℕ). little_number 4 (a ∷ b ∷ c ∷ d ∷ []) ∷ l) (words_front k bytes (omega (arith, least)) (omega (arith, most)))

pub words_whole : (bytes : List ℕ) (n : ℕ) → n ≡ length bytes / 4 * 4 → words_of_bytes (take n bytes) ≡ words_of_bytes bytes
words_whole bytes n is =
    let four : n ≡ 4 * (length bytes / 4) = omega (arith, is) in
    ap (λ (m : ℕ). words_of_bytes (take m bytes)) four ∙ words_front (length bytes / 4) bytes (omega arith) (omega arith)

-- where all tests are passed the bytes are whole words and no more than there are
pub passed_whole : (w : Wanted) (bytes : ℕ) (words : List ℕ) → AllByRecursion (TestPasses (length words)) (tests w bytes words) → (whole w.frames words ≤ length words) × (bytes ≤ 4 * whole w.frames words)
passed_whole w bytes words h = let e = h.1.1.1.1.1.1.1.1.1.1.1.1.1.0 in (e.0, not_above (4 * whole w.frames words) bytes e.1)

answer_at : (w : Wanted) (bytes : List ℕ) (r : Result (Unit {0}) SaveFault) → ((i : ℕ) → get_or bytes i 0 < 256) → AllCome (length (words_of_bytes bytes)) (tests w (length bytes) (words_of_bytes bytes)) r → IsSavedAnswer w bytes (r >>= λ done. Ok (words_of_bytes bytes))
answer_at w bytes (Ok x) small all =
    let ends = passed_whole w (length bytes) (words_of_bytes bytes) all in
    let most = words_length bytes in
    (sym (words_spelled bytes (words_of_bytes bytes) small (omega (arith, ends, most)) refl), refl, all)
answer_at w bytes (Err e) small f = f

pub answer_so : AnswersAreSo answer
unfolding answer
answer_so w bytes small = answer_at w bytes (all_tried (length (words_of_bytes bytes)) (tests w (length bytes) (words_of_bytes bytes))) small (all_so (length (words_of_bytes bytes)) (tests w (length bytes) (words_of_bytes bytes)))

-- where all tests are passed by the words of bytes, these are answered
pub answer_words : (w : Wanted) (bytes words : List ℕ) → words ≡ words_of_bytes bytes → AllByRecursion (TestPasses (length words)) (tests w (length bytes) words) → answer w bytes ≡ Ok words
unfolding answer
answer_words w bytes words is all =
    let here = subst (λ (ws : List ℕ). AllByRecursion (TestPasses (length ws)) (tests w (length bytes) ws)) is all in
    ap (λ (q : Result (Unit {0}) SaveFault). q >>= λ done. Ok (words_of_bytes bytes)) (all_passed (length (words_of_bytes bytes)) (tests w (length bytes) (words_of_bytes bytes)) here)
    ∙ ap (λ (ws : List ℕ). Ok ws) (sym is)

answer_fault : (w : Wanted) (bytes : List ℕ) (e : SaveFault) → FailsFirst (length (words_of_bytes bytes)) (tests w (length bytes) (words_of_bytes bytes)) e → answer w bytes ≡ Err e
unfolding answer
answer_fault w bytes e f =
    ap (λ (q : Result (Unit {0}) SaveFault). q >>= λ done. Ok (words_of_bytes bytes))
    (ap (all_tried (length (words_of_bytes bytes))) f.are ∙ all_failed (length (words_of_bytes bytes)) f.before f.test f.behind e f.passed f.fails)

pub answer_only : NothingElseIsSo answer
answer_only w bytes (Ok words) h = answer_words w bytes words h.1 h.2
answer_only w bytes (Err e) f = answer_fault w bytes e f

answered_at : (w : Wanted) (bytes words : List ℕ) (r : Result (Unit {0}) SaveFault) → AllCome (length (words_of_bytes bytes)) (tests w (length bytes) (words_of_bytes bytes)) r → (r >>= λ done. Ok (words_of_bytes bytes)) ≡ Ok words → (words ≡ words_of_bytes bytes) × AllByRecursion (TestPasses (length words)) (tests w (length bytes) words)
answered_at w bytes words (Ok x) all is =
    let same : words_of_bytes bytes ≡ words = cc in
    (sym same, subst (λ (ws : List ℕ). AllByRecursion (TestPasses (length ws)) (tests w (length bytes) ws)) same all)
answered_at w bytes words (Err e) f is = absurd cc

-- words that are answered are those of the bytes, and pass all tests
pub answered : (w : Wanted) (bytes words : List ℕ) → answer w bytes ≡ Ok words → (words ≡ words_of_bytes bytes) × AllByRecursion (TestPasses (length words)) (tests w (length bytes) words)
unfolding answer
answered w bytes words is = answered_at w bytes words (all_tried (length (words_of_bytes bytes)) (tests w (length bytes) (words_of_bytes bytes))) (all_so (length (words_of_bytes bytes)) (tests w (length bytes) (words_of_bytes bytes))) is

-- the words of bytes, and what comes of the tests: that is the answer
pub answer_of : (w : Wanted) (bytes words : List ℕ) (r : Result (Unit {0}) SaveFault) → words ≡ words_of_bytes bytes → r ≡ all_tried (length words) (tests w (length bytes) words) → answer w bytes ≡ (r >>= λ done. Ok words)
unfolding answer
answer_of w bytes words r is comes =
    ap (λ (ws : List ℕ). all_tried (length ws) (tests w (length bytes) ws) >>= λ done. Ok ws) (sym is)
    ∙ ap (λ (q : Result (Unit {0}) SaveFault). q >>= λ done. Ok words) (sym comes)
