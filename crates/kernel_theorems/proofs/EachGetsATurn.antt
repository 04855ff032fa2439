-- In so many lines as there are users each of them is next.
use native.Mathlib.Nat.{add-mul-mod_self_right, div-add-mod', mod-lt, mod-eq_of_lt}
use Rattle.std.proofs.Common.{◌≡◌, ℕ, suc, ◌+◌, ◌*◌, ◌/◌, ◌%◌, ◌≤◌, ◌<◌, List, [], ◌∷◌, ◌++◌, Bool, true, false, nat_lt, refl, ap, ◌∙◌, arith}
use Rattle.std.specs.Prelude.{◌==◌, if◌then◌else◌}
use Rattle.std.proofs.lemmas.Bool.{ltb-true, ltb-false}
use Rattle.cvm_model.specs.declared.row.Next.TheVariants.{User}
use Rattle.cvm_model.specs.declared.row.Row.{Row}
use Rattle.kernel_theorems.specs.RoundRobin.{taken_lines, lines_in, turn_after, InOrder, EachGetsATurn}

abbrev Found : ℕ → ℕ → List Row → Type 0
Found users t rows = (a : List Row) × (r : Row) × (b : List Row) × (rows ≡ a ++ r ∷ b) × (r.next ≡ User (turn_after users t))

further : (users t : ℕ) (r : Row) (rest : List Row) → Found users t rest → Found users t (r ∷ rest)
further users t r rest f = (r ∷ f.0, f.1, f.2, ap (λ l. r ∷ l) f.3, f.4)

-- the row of each line that is still to come
few_lines : (r : Row) → taken_lines r ≤ 1
few_lines r = by (r.cause == 1)
  where
    by : (b : Bool) → (if b then 1 else 0) ≤ 1
    by true = omega arith
    by false = omega arith

here_or_later : (users n t : ℕ) (r : Row) (rest : List Row) → r.next ≡ User (turn_after users (taken_lines r + n)) → n < t → (taken_lines r + n < t → Found users t rest) → (b : Bool) → nat_lt (taken_lines r + n) t ≡ b → Found users t (r ∷ rest)
here_or_later users n t r rest next less later true e = further users t r rest (later (omega (arith, ltb-true (taken_lines r + n) t e)))
here_or_later users n t r rest next less later false e =
    let same : taken_lines r + n ≡ t = omega (arith, ltb-false (taken_lines r + n) t e, few_lines r) in
    ([], r, rest, refl, next ∙ ap (λ m. User (turn_after users m)) same)

reaches : (users n t : ℕ) (rows : List Row) → InOrder users n rows → n < t → t ≤ n + lines_in rows → Found users t rows
reaches users n t [] h less most = absurd (omega arith)
reaches users n t (r ∷ rest) h less most =
    here_or_later users n t r rest h.0 less (λ l. reaches users (taken_lines r + n) t rest h.1 l (omega arith)) (nat_lt (taken_lines r + n) t) refl

stretch_in_order : (users n : ℕ) (past rows : List Row) → InOrder users n (past ++ rows) → (m : ℕ) × InOrder users m rows
stretch_in_order users n [] rows h = (n, h)
stretch_in_order users n (r ∷ past) rows h = stretch_in_order users (taken_lines r + n) past rows h.1

turn_is : (users q u : ℕ) → u < users → (q * users + u) % users ≡ u
turn_is users q u h = ap (λ n. n % users) (omega arith) ∙ add-mul-mod_self_right u q users ∙ mod-eq_of_lt h

next_time : (users n u : ℕ) → u < users → (t : ℕ) × (n < t) × (t ≤ n + users) × (t % users ≡ u)
next_time users n u h = by (nat_lt n (n / users * users + u)) refl
  where
    by : (b : Bool) → nat_lt n (n / users * users + u) ≡ b → (t : ℕ) × (n < t) × (t ≤ n + users) × (t % users ≡ u)
    by true e = (n / users * users + u, omega (arith, ltb-true n (n / users * users + u) e), omega (arith, div-add-mod' n users), turn_is users (n / users) u h)
    by false e = (suc (n / users) * users + u, omega (arith, div-add-mod' n users, mod-lt n {m = users} (omega arith)), omega (arith, ltb-false n (n / users * users + u) e), turn_is users (suc (n / users)) u h)

pub each_gets_a_turn : EachGetsATurn
each_gets_a_turn users past stretch some order many u h =
    let o = stretch_in_order users 0 past stretch order in
    let t = next_time users o.0 u h in
    let f = reaches users o.0 t.0 stretch o.1 t.1 (omega (arith, t.2)) in
    (f.0, f.1, f.2, f.3, f.4 ∙ ap (λ n. User (suc n)) t.3)
