-- What comes of a test is that it is passed or not; so what comes of tests in a row is the first that is not, and no other answer is so.
use Rattle.std.proofs.Common.{◌≡◌, ℕ, ◌*◌, ◌≤◌, Bool, true, false, nat_lt, List, [], ◌∷◌, ◌++◌, Result, Ok, Err, if◌then◌else◌, refl, sym, ap, subst, ◌∙◌, inl, inr}
use Rattle.std.specs.List.{AllByRecursion}
use Rattle.std.proofs.lemmas.Bool.{lt-ltb, le-ltb, cond-true, cond-false, cases_lt}
use Rattle.cvm_words.specs.Reading.{◌>>=◌}
use Rattle.saved_file.specs.Tests.{Test, tried, all_tried}
use Rattle.saved_file.specs.Answer.{TestPasses, TestFails, FailsFirst}
use Rattle.saved_file.specs.declared.fault.SaveFault.{SaveFault}
use Rattle.saved_file.specs.declared.fault.SaveFault.TheVariants.{Truncated}

-- a test of a file of so many whole words is passed, or it isn't and this is answered
abbrev pub ComesOfTest : ℕ → Test → Result (Unit {0}) SaveFault → Type 0
ComesOfTest n t (Ok x) = TestPasses n t
ComesOfTest n t (Err e) = TestFails n t e

-- the same of tests in a row
abbrev pub AllCome : ℕ → List Test → Result (Unit {0}) SaveFault → Type 0
AllCome n ts (Ok x) = AllByRecursion (TestPasses n) ts
AllCome n ts (Err e) = FailsFirst n ts e

looked_at : (n : ℕ) (t : Test) → t.takes ≤ n → (b : Bool) → t.wrong ≡ b → ComesOfTest n t (if b then Err t.fault else Ok tt)
looked_at n t le true is = inr (le, is, refl)
looked_at n t le false is = (le, is)

tried_so : (n : ℕ) (t : Test) → ComesOfTest n t (tried n t)
unfolding tried
tried_so n t =
    elim (cases_lt n t.takes) [
      | inl lt ↦ subst (ComesOfTest n t) (sym (cond-true {A = Result (Unit {0}) SaveFault} (nat_lt n t.takes) (Err (Truncated (4 * n))) (if t.wrong then Err t.fault else Ok tt) (lt-ltb n t.takes lt))) (inl (lt, refl))
      | inr le ↦ subst (ComesOfTest n t) (sym (cond-false {A = Result (Unit {0}) SaveFault} (nat_lt n t.takes) (Err (Truncated (4 * n))) (if t.wrong then Err t.fault else Ok tt) (le-ltb n t.takes le))) (looked_at n t le t.wrong refl)
    ]

first_so : (n : ℕ) (t : Test) (ts : List Test) (r s : Result (Unit {0}) SaveFault) → ComesOfTest n t r → AllCome n ts s → AllCome n (t ∷ ts) (r >>= λ done. s)
first_so n t ts (Ok x) (Ok y) passes all = (passes, all)
first_so n t ts (Ok x) (Err e) passes f =
    record { before = t ∷ f.before; test = f.test; behind = f.behind; are = ap (λ (l : List Test). t ∷ l) f.are; passed = (passes, f.passed); fails = f.fails }
first_so n t ts (Err e) s fails all = record { before = []; test = t; behind = ts; are = refl; passed = tt; fails = fails }

pub all_so : (n : ℕ) (ts : List Test) → AllCome n ts (all_tried n ts)
all_so n [] = tt
all_so n (t ∷ ts) = first_so n t ts (tried n t) (all_tried n ts) (tried_so n t) (all_so n ts)

tried_passes : (n : ℕ) (t : Test) → TestPasses n t → tried n t ≡ Ok tt
unfolding tried
tried_passes n t p =
    cond-false {A = Result (Unit {0}) SaveFault} (nat_lt n t.takes) (Err (Truncated (4 * n))) (if t.wrong then Err t.fault else Ok tt) (le-ltb n t.takes p.0)
    ∙ cond-false {A = Result (Unit {0}) SaveFault} t.wrong (Err t.fault) (Ok tt) p.1

tried_fails : (n : ℕ) (t : Test) (e : SaveFault) → TestFails n t e → tried n t ≡ Err e
unfolding tried
tried_fails n t e (inl h) =
    cond-true {A = Result (Unit {0}) SaveFault} (nat_lt n t.takes) (Err (Truncated (4 * n))) (if t.wrong then Err t.fault else Ok tt) (lt-ltb n t.takes h.0)
    ∙ ap (λ (f : SaveFault). Err f) (sym h.1)
tried_fails n t e (inr h) =
    cond-false {A = Result (Unit {0}) SaveFault} (nat_lt n t.takes) (Err (Truncated (4 * n))) (if t.wrong then Err t.fault else Ok tt) (le-ltb n t.takes h.0)
    ∙ cond-true {A = Result (Unit {0}) SaveFault} t.wrong (Err t.fault) (Ok tt) h.1 ∙ ap (λ (f : SaveFault). Err f) (sym h.2)

-- behind a test that is passed come the others
goes_on : (n : ℕ) (ts : List Test) (r : Result (Unit {0}) SaveFault) → r ≡ Ok tt → (r >>= λ done. all_tried n ts) ≡ all_tried n ts
goes_on n ts r is = ap (λ (q : Result (Unit {0}) SaveFault). q >>= λ done. all_tried n ts) is

pub all_passed : (n : ℕ) (ts : List Test) → AllByRecursion (TestPasses n) ts → all_tried n ts ≡ Ok tt
all_passed n [] h = refl
all_passed n (t ∷ ts) h = goes_on n ts (tried n t) (tried_passes n t h.0) ∙ all_passed n ts h.1

pub all_failed : (n : ℕ) (before : List Test) (t : Test) (behind : List Test) (e : SaveFault) → AllByRecursion (TestPasses n) before → TestFails n t e → all_tried n (before ++ t ∷ behind) ≡ Err e
all_failed n [] t behind e h f = ap (λ (q : Result (Unit {0}) SaveFault). q >>= λ done. all_tried n behind) (tried_fails n t e f)
all_failed n (b ∷ before) t behind e h f = goes_on n (before ++ t ∷ behind) (tried n b) (tried_passes n b h.0) ∙ all_failed n before t behind e h.1 f

-- what a test of numbers says that is not so
pub not_above : (a b : ℕ) → nat_lt a b ≡ false → b ≤ a
not_above a b is =
    elim (cases_lt a b) [
      | inl lt ↦ let bad : true ≡ false = sym (lt-ltb a b lt) ∙ is in cc
      | inr le ↦ le
    ]
