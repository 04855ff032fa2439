-- All tests are passed by the words that can be taken up, and by no others.
use Rattle.std.proofs.Common.{◌≡◌, ℕ, zero, suc, ◌+◌, ◌-◌, ◌*◌, ◌^◌, ◌≤◌, ◌<◌, Bool, true, false, nat_lt, nat_eq, List, [], ◌∷◌, ◌++◌, All, length, slice_index, if◌then◌else◌, refl, sym, subst, ◌∙◌, inl, inr, arith}
use Rattle.std.specs.List.{flat_map, AllByRecursion}
use Rattle.std.proofs.lemmas.Bool.{lt-ltb, le-ltb, cond-true, cond-false, cases_lt, cases_Bool, or_left, or_right, or_from, eqb-true, eq-eqb}
use Rattle.std.proofs.lemmas.List.Elements.{recursion_from_All}
use Rattle.cvm_words.specs.Bytes.{word}
use Rattle.cvm_words.proofs.BytesOfWords.{length-words, words_of-words}
use Rattle.mips_table.specs.Machine.{LOG_ROOM}
use Rattle.mips_machine.specs.Saved.{MARK, from_halves}
use Rattle.saved_file.specs.Resumable.{Wanted, CanBeResumed, memory_word, is_left_out, saved_size_at}
use Rattle.saved_file.specs.Tests.{Test, tests, each, is_outside, field_test, whole, linked_test, size_test, turns_test}
use Rattle.saved_file.specs.Answer.{TestPasses, answer, AnswersAreResumable, ResumablesAreAnswered}
use Rattle.saved_file.proofs.TestsDecide.{not_above}
use Rattle.saved_file.proofs.BytesAsWords.{words_length, answered, answer_words}

in_range : (least most value : ℕ) → is_outside least most value ≡ false → (least ≤ value) × (value ≤ most)
in_range least most value is =
    elim (cases_lt value least) [
      | inl lt ↦ let bad : true ≡ false = sym (or_left (nat_lt value least) (nat_lt most value) (lt-ltb value least lt)) ∙ is in cc
      | inr low ↦ elim (cases_lt most value) [
        | inl lt ↦ let bad : true ≡ false = sym (or_right (nat_lt value least) (nat_lt most value) (lt-ltb most value lt)) ∙ is in cc
        | inr high ↦ (low, high)
      ]
    ]

not_outside : (least most value : ℕ) → least ≤ value → value ≤ most → is_outside least most value ≡ false
not_outside least most value low high = or_from (nat_lt value least) (nat_lt most value) (le-ltb value least low) (le-ltb most value high)

-- a linked word that is looked at is the image's
same_word : (free : Bool) (a b : ℕ) → (if free then false else if nat_eq a b then false else true) ≡ false → free ≡ false → a ≡ b
same_word true a b is kept = cc
same_word false a b is kept =
    elim (cases_Bool (nat_eq a b)) [
      | inl e ↦ eqb-true a b e
      | inr e ↦ let bad : true ≡ false = sym (cond-false (nat_eq a b) false true e) ∙ is in cc
    ]

not_wrong : (free : Bool) (a b : ℕ) → (free ≡ false → a ≡ b) → (if free then false else if nat_eq a b then false else true) ≡ false
not_wrong true a b same = refl
not_wrong false a b same = cond-true (nat_eq a b) false true (eq-eqb a b (same refl))

front_row : (n : ℕ) (a b : List Test) → AllByRecursion (TestPasses n) (a ++ b) → AllByRecursion (TestPasses n) a
front_row n [] b h = tt
front_row n (t ∷ a) b h = (h.0, front_row n a b h.1)

behind_row : (n : ℕ) (a b : List Test) → AllByRecursion (TestPasses n) (a ++ b) → AllByRecursion (TestPasses n) b
behind_row n [] b h = h
behind_row n (t ∷ a) b h = behind_row n a b h.1

rows : (n : ℕ) (a b : List Test) → AllByRecursion (TestPasses n) a → AllByRecursion (TestPasses n) b → AllByRecursion (TestPasses n) (a ++ b)
rows n [] b h g = g
rows n (t ∷ a) b h g = (h.0, rows n a b h.1 g)

-- a test by its number, of those that are passed in a row
each_at : (n : ℕ) (f : ℕ → Test) (i k j : ℕ) → AllByRecursion (TestPasses n) (each f i k) → i ≤ j → j < i + k → TestPasses n (f j)
unfolding each
each_at n f i zero j h le lt = absurd (omega (arith, le, lt))
each_at n f i (suc k) j h le lt =
    elim (cases_lt i j) [
      | inl more ↦ each_at n f (suc i) k j h.1 (omega (arith, more)) (omega (arith, lt))
      | inr less ↦ let same : i ≡ j = omega (arith, le, less) in subst (λ (m : ℕ). TestPasses n (f m)) same h.0
    ]

each_of : (n : ℕ) (f : ℕ → Test) (i k : ℕ) → ((j : ℕ) → i ≤ j → j < i + k → TestPasses n (f j)) → AllByRecursion (TestPasses n) (each f i k)
unfolding each
each_of n f i zero h = tt
each_of n f i (suc k) h = (h i (omega arith) (omega arith), each_of n f (suc i) k (λ j le lt. h j (omega (arith, le)) (omega (arith, lt))))

-- the words of a file that passes all tests, of so many bytes at least
pub fitting : (w : Wanted) (bytes : ℕ) (words : List ℕ) → AllByRecursion (TestPasses (length words)) (tests w bytes words) → 4 * length words ≤ bytes → CanBeResumed w words
fitting w bytes words h enough =
    let mark = in_range MARK MARK (slice_index words 0) h.0.1 in
    let form = in_range 1 1 (slice_index words 1) h.1.0.1 in
    let frames = in_range w.frames w.frames (slice_index words 2) h.1.1.0.1 in
    let turns = in_range 1 (2 ^ 32 - 1) (slice_index words 5) h.1.1.1.0.1 in
    let user = in_range 1 w.users (slice_index words 6) h.1.1.1.1.0.1 in
    let mask = in_range 0 255 (slice_index words 7) h.1.1.1.1.1.0.1 in
    let sr = in_range 0 1 (slice_index words 42) h.1.1.1.1.1.1.0.1 in
    let esr = in_range 0 1 (slice_index words 43) h.1.1.1.1.1.1.1.0.1 in
    let mode = in_range 1 1 (slice_index words 49) h.1.1.1.1.1.1.1.1.0.1 in
    let emode = in_range 0 1 (slice_index words 50) h.1.1.1.1.1.1.1.1.1.0.1 in
    let commands = not_above (from_halves (slice_index words 3) (slice_index words 4)) (from_halves (slice_index words 52) (slice_index words 53)) h.1.1.1.1.1.1.1.1.1.1.0.1 in
    let taken = in_range 0 (length w.inputs) (slice_index words 54) h.1.1.1.1.1.1.1.1.1.1.1.0.1 in
    let log = in_range 0 LOG_ROOM (slice_index words 55) h.1.1.1.1.1.1.1.1.1.1.1.1.0.1 in
    let ends = h.1.1.1.1.1.1.1.1.1.1.1.1.1.0 in
    let most = not_above (4 * whole w.frames words) bytes ends.1 in
    let left = h.1.1.1.1.1.1.1.1.1.1.1.1.1.1 in
    let linked = each (linked_test w.frames w.linked words) 0 (length w.linked) in
    let sizes = each (size_test w.frames w.pages words) 1 w.users in
    let behind = behind_row (length words) linked (sizes ++ turns_test w.frames w.turns words ∷ []) left in
    record {
      saved = record {
        mark = omega (arith, mark);
        form = omega (arith, form);
        frames = omega (arith, frames);
        mask = omega (arith, mask);
        sr = omega (arith, sr);
        esr = omega (arith, esr);
        mode = omega (arith, mode);
        emode = omega (arith, emode);
        commands = commands;
        taken = taken.1;
        log = log.1;
        whole = let least = ends.0 in omega (arith, least, most, enough);
      };
      a_turn = turns.0;
      a_user = user.0;
      user = user.1;
      unforged = λ position lt kept.
          let t = each_at (length words) (linked_test w.frames w.linked words) 0 (length w.linked) position (front_row (length words) linked (sizes ++ turns_test w.frames w.turns words ∷ []) left) (omega arith) (omega (arith, lt)) in
          same_word (is_left_out position) (memory_word words position) (slice_index w.linked position) t.1 kept;
      sizes = λ u some few.
          let t = each_at (length words) (size_test w.frames w.pages words) 1 w.users u (front_row (length words) sizes (turns_test w.frames w.turns words ∷ []) behind) some (omega (arith, few)) in
          not_above w.pages (memory_word words (saved_size_at u)) t.1;
      turns = let last = behind_row (length words) sizes (turns_test w.frames w.turns words ∷ []) behind in not_above w.turns (slice_index words 5) last.0.1;
    }

field_passed : (words : List ℕ) (position least most : ℕ) → position < length words → least ≤ slice_index words position → slice_index words position ≤ most → TestPasses (length words) (field_test words position least most)
field_passed words position least most there low high = (omega (arith, there), not_outside least most (slice_index words position) low high)

-- and the other way round
pub passed : (w : Wanted) (words : List ℕ) → All (λ n. n < 2 ^ 32) words → CanBeResumed w words → AllByRecursion (TestPasses (length words)) (tests w (4 * length words) words)
passed w words bits c =
    let a = c.saved in
    let n : length words ≡ 1080 + slice_index words 55 + 1024 * w.frames = a.whole in
    let there : 1080 ≤ length words = omega (arith, n) in
    let turns : slice_index words 5 < 2 ^ 32 = bits 5 0 (omega (arith, there)) in
    let mark = a.mark in
    let form = a.form in
    let frames : slice_index words 2 ≡ w.frames = a.frames ∙ (omega arith) in
    let mask = a.mask in
    let sr = a.sr in
    let esr = a.esr in
    let mode = a.mode in
    let emode = a.emode in (
      (omega (arith, there), not_outside MARK MARK (slice_index words 0) (omega (arith, mark)) (omega (arith, mark))),
      (
        field_passed words 1 1 1 (omega (arith, there)) (omega (arith, form)) (omega (arith, form)),
        (
          field_passed words 2 w.frames w.frames (omega (arith, there)) (omega (arith, frames)) (omega (arith, frames)),
          (
            field_passed words 5 1 (2 ^ 32 - 1) (omega (arith, there)) c.a_turn (omega (arith, turns)),
            (
              field_passed words 6 1 w.users (omega (arith, there)) c.a_user c.user,
              (
                field_passed words 7 0 255 (omega (arith, there)) (omega arith) (omega (arith, mask)),
                (
                  field_passed words 42 0 1 (omega (arith, there)) (omega arith) (omega (arith, sr)),
                  (
                    field_passed words 43 0 1 (omega (arith, there)) (omega arith) (omega (arith, esr)),
                    (
                      field_passed words 49 1 1 (omega (arith, there)) (omega (arith, mode)) (omega (arith, mode)),
                      (
                        field_passed words 50 0 1 (omega (arith, there)) (omega arith) (omega (arith, emode)),
                        (
                          (omega (arith, there), le-ltb (from_halves (slice_index words 3) (slice_index words 4)) (from_halves (slice_index words 52) (slice_index words 53)) a.commands),
                          (
                            field_passed words 54 0 (length w.inputs) (omega (arith, there)) (omega arith) a.taken,
                            (
                              field_passed words 55 0 LOG_ROOM (omega (arith, there)) (omega arith) a.log,
                              (
                                (omega (arith, n), le-ltb (4 * whole w.frames words) (4 * length words) (omega (arith, n))),
                                rows (length words) (each (linked_test w.frames w.linked words) 0 (length w.linked)) (each (size_test w.frames w.pages words) 1 w.users ++ turns_test w.frames w.turns words ∷ [])
                                    (each_of (length words) (linked_test w.frames w.linked words) 0 (length w.linked)
                                    (λ position le lt. (omega (arith, n), not_wrong (is_left_out position) (memory_word words position) (slice_index w.linked position) (c.unforged position (omega (arith, lt))))))
                                    (rows (length words) (each (size_test w.frames w.pages words) 1 w.users) (turns_test w.frames w.turns words ∷ [])
                                    (each_of (length words) (size_test w.frames w.pages words) 1 w.users
                                    (λ u some few. (omega (arith, n), le-ltb w.pages (memory_word words (saved_size_at u)) (c.sizes u some (omega (arith, few))))))
                                    ((omega (arith, n), le-ltb w.turns (slice_index words 5) c.turns), tt)),
                              ),
                            ),
                          ),
                        ),
                      ),
                    ),
                  ),
                ),
              ),
            ),
          ),
        ),
      ),
    )

pub resumable : AnswersAreResumable answer
resumable w bytes words is =
    let a = answered w bytes words is in
    fitting w (length bytes) words a.1 (subst (λ (ws : List ℕ). 4 * length ws ≤ length bytes) (sym a.0) (words_length bytes))

pub resumables : ResumablesAreAnswered answer
resumables w words bits c =
    let four : length (flat_map word words) ≡ 4 * length words = length-words words in
    answer_words w (flat_map word words) words (sym (words_of-words words (recursion_from_All (λ n. n < 2 ^ 32) words bits)))
    (subst (λ (m : ℕ). AllByRecursion (TestPasses (length words)) (tests w m words)) (sym four) (passed w words bits c))
