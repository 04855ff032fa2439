-- Few turns have lines: each step's lines belong to one turn, and each row of a schedule is of one step.
use Rattle.std.proofs.Common.{◌≡◌, ◌≢◌, ℕ, zero, suc, ◌+◌, ◌-◌, ◌≤◌, Bool, true, false, cond, not, List, [], ◌∷◌, length, fold, refl, sym, ap, ◌∙◌, subst, arith, ne_eqb, eqb-true}
use Rattle.std.specs.Prelude.{◌==◌, bit_or, if◌then◌else◌}
use Rattle.std.specs.List.{filter}
use Rattle.std.specs.Int.Bits.{or_zero_r}
use Rattle.mips_table.specs.Device.{Environment}
use Rattle.mips_table.specs.Machine.{State}
use Rattle.mips_table.specs.Turns.{turn_of, gathered}
use Rattle.schedule_file.specs.declared.row.LineRow.{LineRow}
use Rattle.schedule_file.specs.Rows.{with_lines}
use Rattle.mips_machine.specs.Steps.{outside_of}
use Rattle.run_bounds.specs.Lines.{count_below, are_some, steps_with_lines, LinesAreFew, RaisedLinesAreFew}
use Rattle.run_bounds.proofs.NumbersThatPass.{same_below, none_below, one_apart}

module _ (x : Environment) (s : State) where
  none_or : (b : Bool) (n : ℕ) → n ≡ 0 → cond b n 0 ≡ 0
  none_or true n e = e
  none_or false n e = refl

  -- a step with no lines adds none
  adds_none : (t : ℕ) → x.lines (s.time + t) ≡ 0 → (k : ℕ) → gathered x s k (suc t) ≡ gathered x s k t
  adds_none t e k = ap (bit_or (gathered x s k t)) (none_or (turn_of x s t == k) (x.lines (s.time + t)) e) ∙ or_zero_r _

  -- and any step adds none to another turn than its own
  other_turn : (t k : ℕ) → k ≢ turn_of x s t → gathered x s k (suc t) ≡ gathered x s k t
  other_turn t k e = ap (λ (b : Bool). bit_or (gathered x s k t) (cond b (x.lines (s.time + t)) 0)) (ne_eqb (turn_of x s t) k (λ z. e (sym z))) ∙ or_zero_r _

  few : (turns t : ℕ) → count_below (λ k. are_some (gathered x s k t)) turns ≤ steps_with_lines x s.time t
  few turns zero = let e = none_below turns in omega (arith, e)
  few turns (suc t) = by (x.lines (s.time + t) == 0) refl (few turns t)
    where
      by : (b : Bool) → (x.lines (s.time + t) == 0) ≡ b → count_below (λ k. are_some (gathered x s k t)) turns ≤ steps_with_lines x s.time t →
          count_below (λ k. are_some (gathered x s k (suc t))) turns ≤ (if not (x.lines (s.time + t) == 0) then suc (steps_with_lines x s.time t) else steps_with_lines x s.time t)
      by true e h =
          let same : count_below (λ k. are_some (gathered x s k (suc t))) turns ≡ count_below (λ k. are_some (gathered x s k t)) turns =
          same_below _ _ turns (λ k lt. ap are_some (adds_none t (eqb-true _ _ e) k)) in
          rw e (subst (λ n. n ≤ steps_with_lines x s.time t) (sym same) h)
      by false e h =
          let more : count_below (λ k. are_some (gathered x s k (suc t))) turns ≤ suc (count_below (λ k. are_some (gathered x s k t)) turns) =
          one_apart (λ k. are_some (gathered x s k (suc t))) (λ k. are_some (gathered x s k t)) (turn_of x s t) (λ k ne. ap are_some (other_turn t k ne)) turns in
          rw e (omega (arith, more, h))

pub lines_are_few : LinesAreFew
lines_are_few x s turns = few x s turns (suc x.last)

-- THE ROWS of a schedule: the lines at a step
abbrev lines_from : ℕ → List LineRow → ℕ → ℕ
lines_from bits rows step = fold with_lines bits (filter (λ row. row.step == step) rows)

-- a row of another step is passed over
other_row : (row : LineRow) (rows : List LineRow) (step : ℕ) → row.step ≢ step → lines_from 0 (row ∷ rows) step ≡ lines_from 0 rows step
other_row row rows step e = ap (λ (b : Bool). fold with_lines 0 (cond b (row ∷ filter (λ row. row.step == step) rows) (filter (λ row. row.step == step) rows))) (ne_eqb row.step step e)

rows_are_few : (rows : List LineRow) (time steps : ℕ) → count_below (λ t. are_some (lines_from 0 rows (time + t))) steps ≤ length rows
rows_are_few [] time steps = let e = none_below steps in omega (arith, e)
rows_are_few (row ∷ rows) time steps =
    let before = rows_are_few rows time steps in
    let more : count_below (λ t. are_some (lines_from 0 (row ∷ rows) (time + t))) steps ≤ suc (count_below (λ t. are_some (lines_from 0 rows (time + t))) steps) =
    one_apart (λ t. are_some (lines_from 0 (row ∷ rows) (time + t))) (λ t. are_some (lines_from 0 rows (time + t))) (row.step - time)
    (λ t ne. ap are_some (other_row row rows (time + t) (λ z. ne (omega (arith, z))))) steps in
    omega (arith, before, more)

pub raised_lines_are_few : LinesAreFew → RaisedLinesAreFew
raised_lines_are_few law rows count s turns =
    let a = law (outside_of rows count) s turns in
    let b = rows_are_few rows.lines s.time (suc (outside_of rows count).last) in
    omega (arith, a, b)
