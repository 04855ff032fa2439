-- Within more units the arguments so far stay, and others may stand behind them.
use Rattle.std.proofs.Common.{◌≡◌, inl, inr, ℕ, zero, suc, ◌<◌, ◌≤◌, Some, List, [], ◌∷◌, ◌++◌, length, take, refl, sym, ap, ◌∙◌, arith}
use Rattle.std.specs.Prelude.{ℤ, slice_get}
use Rattle.std.proofs.lemmas.Bool.{cases_lt}
use Rattle.c0_tree.specs.declared.primitive.Program.TheVariants.{User}
use Rattle.c0_tree.specs.Tree.{CUnit}
use Rattle.c0_meaning.specs.Limits.{first_number}
use Rattle.c0_meaning.specs.Value.{empty}
use Rattle.c0_meaning.specs.State.{first_state}
use Rattle.c0_meaning.specs.World.{beginning, all_entries, journal_so_far}
use Rattle.c0_meaning.specs.Running.{begin}
use Rattle.c0_meaning.specs.Execution.{Outcome, call_first}
use Rattle.c0_meaning.specs.UserProgram.{trap, outcome_seen, prog}
use Rattle.c0_meaning.specs.RunLaws.{HasEnded, stands_at}
use Rattle.c0_meaning.specs.ProgramLaws.{ArgumentsStay}
use Rattle.c0_meaning.proofs.LaterAnswers.{entries_join, seen_there, cut}
use Rattle.c0_meaning.proofs.EndedStaysSo.{programs_end}
use Rattle.c0_meaning.proofs.StepsTakeUnits.{calls_extend}

take_front : (k : ℕ) (xs ys : List ℤ) → (more : List ℤ) × (take k (xs ++ ys) ≡ take k xs ++ more)
take_front zero xs ys = ([], refl)
take_front (suc k) [] ys = (take (suc k) ys, refl)
take_front (suc k) (x ∷ xs) ys = let r = take_front k xs ys in (r.0, ap (λ zs. x ∷ zs) r.1)

pub get_front : (xs ys : List ℤ) (i : ℕ) (v : ℤ) → slice_get xs i ≡ Some v → slice_get (xs ++ ys) i ≡ Some v
get_front [] ys i v e = absurd (cc)
get_front (x ∷ xs) ys zero v e = e
get_front (x ∷ xs) ys (suc i) v e = get_front xs ys i v e

pub get_short : (xs : List ℤ) (i : ℕ) (v : ℤ) → slice_get xs i ≡ Some v → i < length xs
get_short [] i v e = absurd (cc)
get_short (x ∷ xs) zero v e = omega arith
get_short (x ∷ xs) (suc i) v e = let h = get_short xs i v e in omega (arith, h)

some_same : (a b : ℤ) → ◌≡◌ {A = _} (Some a) (Some b) → a ≡ b
some_same a b e = cc

extend : (u : CUnit) (given : List ℤ) (m n : ℕ) → m ≤ n → (more : List ℤ) × ((prog u given n).arguments ≡ (prog u given m).arguments ++ more)
extend u given m n le =
    let ran : ℕ → Outcome (List ℤ) ℤ = λ k. call_first (record { unit = u; heap = 1024; stack = 1024; meaning = trap }) k (first_number User u) empty (first_state u) given in
    let r = calls_extend (List ℤ) ℤ (record { unit = u; heap = 1024; stack = 1024; meaning = trap }) (begin (first_number User u) empty ∷ []) (beginning (record (first_state u) { frames = [] }) given) m n le in
    let t = take_front (suc (length given)) (journal_so_far (stands_at (ran m))) (all_entries r.0) in (
      t.0,
      cut given (outcome_seen (ran n)) ∙ ap (take (suc (length given))) (seen_there (ran n) ∙ ap all_entries r.1 ∙ entries_join (stands_at (ran m)).calls r.0)
          ∙ t.1 ∙ ap (λ xs. xs ++ t.0) (ap (take (suc (length given))) (sym (seen_there (ran m))) ∙ sym (cut given (outcome_seen (ran m)))),
    )

later : (u : CUnit) (given : List ℤ) (m n i : ℕ) (a : ℤ) → m ≤ n → slice_get (prog u given m).arguments i ≡ Some a → slice_get (prog u given n).arguments i ≡ Some a
later u given m n i a le h =
    let r = extend u given m n le in
    ap (λ xs. slice_get xs i) r.1 ∙ get_front (prog u given m).arguments r.0 i a h

agree : (u : CUnit) (given : List ℤ) (m n i : ℕ) (a b : ℤ) → slice_get (prog u given m).arguments i ≡ Some a → slice_get (prog u given n).arguments i ≡ Some b → a ≡ b
agree u given m n i a b h g = elim (cases_lt m n) [
  | inl lt ↦ some_same a b (sym (later u given m n i a (omega (arith, lt)) h) ∙ g)
  | inr ge ↦ some_same a b (sym h ∙ later u given n m i b ge g)
]

ended : (u : CUnit) (given : List ℤ) (m n i : ℕ) (a : ℤ) → HasEnded (prog u given m).ending → slice_get (prog u given n).arguments i ≡ Some a → i < length (prog u given m).arguments
ended u given m n i a over h = elim (cases_lt m n) [
  | inl lt ↦ get_short (prog u given m).arguments i a (ap (λ s. slice_get s.arguments i) (sym (programs_end u given m n (omega (arith, lt)) over)) ∙ h)
  | inr ge ↦ get_short (prog u given m).arguments i a (later u given n m i a ge h)
]

same_end : (u : CUnit) (given : List ℤ) (m n : ℕ) → HasEnded (prog u given m).ending → HasEnded (prog u given n).ending → prog u given m ≡ prog u given n
same_end u given m n over there = elim (cases_lt m n) [
  | inl lt ↦ sym (programs_end u given m n (omega (arith, lt)) over)
  | inr ge ↦ programs_end u given n m ge there
]

pub arguments_stay : ArgumentsStay
arguments_stay = record { extend = extend; agree = agree; ended = ended; same_end = same_end }
