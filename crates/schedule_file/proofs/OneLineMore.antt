-- One more line of a text: the rows so far, and the fault of the first faulty line, go on with it.
-- And what an error says of the whole text, once the line that has it is reached.
use Rattle.std.proofs.Common.{◌≡◌, ◌<◌, ◌≤◌, ◌+◌, ◌^◌, ◌==◌, true, ℕ, List, [], ◌∷◌, ◌++◌, length, take, drop, get_or, fold, sym, ap, ◌∙◌, arith, length-drop, take_all, map, max, slice_index, cond, false}
use Rattle.std.specs.Prelude.{Option, Some, None, Ok, Err}
use Rattle.std.specs.List.{filter}
use Rattle.std.specs.Option.{option_or}
use Rattle.std.proofs.Math.Pow.{pow-lt}
use Rattle.std.proofs.lemmas.Bool.Decides.{nat_tests}
use Rattle.std.proofs.lemmas.List.{length-take-le, drop_more, take_more, map-append}
use Rattle.std.proofs.lemmas.List.Sums.{fold-append}
use Rattle.schedule_file.specs.declared.fault.ScheduleFault.{ScheduleFault}
use Rattle.schedule_file.specs.declared.fault.ScheduleFault.TheVariants.{BadLine, Order, Range, TooManyInputs, Memory}
use Rattle.schedule_file.specs.declared.row.BusyRow.{BusyRow}
use Rattle.schedule_file.specs.Rows.{Rows, busy_of, longest}
use Rattle.cvm_text.specs.Lines.{lines_of}
use Rattle.schedule_file.specs.Schedule.{rows_of, with_line, no_rows, fault_of_line, first_row_fault, unless, schedule_of, IsFault, Gives}

-- the lines before one, with it, and those after it
module _ (lines : List (List ℕ)) (k : ℕ) (line : List ℕ) (rest : List (List ℕ)) (cut : drop k lines ≡ line ∷ rest) where
  inside : k < length lines
  inside = omega (arith, length-drop k lines, ap length cut)

  parts : get_or lines k [] ∷ drop (k + 1) lines ≡ line ∷ rest
  parts = sym (drop_more lines k [] inside) ∙ cut

  pub drop_one : drop (k + 1) lines ≡ rest
  drop_one = let e = parts in cc

  pub take_one : take (k + 1) lines ≡ take k lines ++ line ∷ []
  take_one = let e : get_or lines k [] ≡ line = (let p = parts in cc) in take_more lines k [] inside ∙ ap (λ l. take k lines ++ l ∷ []) e

  pub count_one : length (take k lines) ≡ k
  count_one = length-take-le k lines (omega (arith, inside))

  pub rows_one : rows_of (take (k + 1) lines) ≡ with_line (rows_of (take k lines)) line
  rows_one = ap rows_of take_one ∙ fold-append with_line no_rows (take k lines) (line ∷ [])

  -- the first fault, at this line
  pub fault_one : first_row_fault (take k lines) (line ∷ rest) ≡ option_or (fault_of_line (rows_of (take k lines)) (k + 1) line) (first_row_fault (take (k + 1) lines) rest)
  fault_one =
      ap (λ m. option_or (fault_of_line (rows_of (take k lines)) (m + 1) line) (first_row_fault (take k lines ++ line ∷ []) rest)) count_one
      ∙ ap (λ before. option_or (fault_of_line (rows_of (take k lines)) (k + 1) line) (first_row_fault before rest)) (sym take_one)

-- a text with this first fault, or with none
pub faulty : (text : List ℕ) (fault : ScheduleFault) → first_row_fault [] (lines_of text) ≡ Some fault → schedule_of text ≡ Err fault
unfolding schedule_of
faulty text fault is = ap (λ f. unless f (rows_of (lines_of text))) is

pub faultless : (text : List ℕ) → first_row_fault [] (lines_of text) ≡ None → schedule_of text ≡ Ok (rows_of (lines_of text))
unfolding schedule_of
faultless text none = ap (λ f. unless f (rows_of (lines_of text))) none

-- the error of a line, as that of the text
pub gives_fault : (text : List ℕ) (fault found : Option ScheduleFault) (error : ScheduleFault) → first_row_fault [] (lines_of text) ≡ option_or fault found → IsFault error fault → Gives (Err error) (schedule_of text)
gives_fault text fault found Memory first is = tt
gives_fault text fault found (BadLine line) first is = faulty text (BadLine line) (first ∙ ap (λ f. option_or f found) is)
gives_fault text fault found (Order line) first is = faulty text (Order line) (first ∙ ap (λ f. option_or f found) is)
gives_fault text fault found (Range line value) first is = faulty text (Range line value) (first ∙ ap (λ f. option_or f found) is)
gives_fault text fault found (TooManyInputs line) first is = faulty text (TooManyInputs line) (first ∙ ap (λ f. option_or f found) is)

pub zero_is : (n : ℕ) → (n == 0) ≡ true → n ≡ 0
zero_is n h = grind (arith, nat_tests)

-- a text of which all lines are read
pub all_read : (text rest : List ℕ) (k : ℕ) (rows : Rows) → length rest ≡ 0 → lines_of rest ≡ drop k (lines_of text)
    → first_row_fault (take k (lines_of text)) (lines_of rest) ≡ first_row_fault [] (lines_of text) → rows ≡ rows_of (take k (lines_of text)) → schedule_of text ≡ Ok rows
all_read text [] k rows empty left first is =
    let whole : take k (lines_of text) ≡ lines_of text = take_all k (lines_of text) (omega (arith, length-drop k (lines_of text), ap length left)) in
    faultless text (sym first) ∙ ap Ok (sym (is ∙ ap rows_of whole))
all_read text (c ∷ cs) k rows empty left first is = absurd (omega arith)

-- the longest busy time of rows with one more
pub longest_more : (busy : List BusyRow) (row : BusyRow) → fold max 0 (map (λ r. r.steps) (busy ++ row ∷ [])) ≡ max (fold max 0 (map (λ r. r.steps) busy)) row.steps
longest_more busy row = ap (fold max 0) (map-append (λ (r : BusyRow). r.steps) busy (row ∷ [])) ∙ fold-append max 0 (map (λ r. r.steps) busy) (row.steps ∷ [])

-- the greatest of numbers is at least what it begins with
from_start : (a : ℕ) (busy : List BusyRow) → a ≤ fold max a (map (λ r. r.steps) busy)
from_start a [] = omega arith
from_start a (row ∷ busy) = let h = from_start (max a row.steps) busy in omega arith

-- no busy time is above the longest
within_from : (a command : ℕ) (busy : List BusyRow) → slice_index (map (λ r. r.steps) (filter (λ r. r.command == command) busy)) 0 ≤ fold max a (map (λ r. r.steps) busy)
within_from a command [] = omega arith
within_from a command (row ∷ busy) =
    let here = from_start (max a row.steps) busy in
    let there = within_from (max a row.steps) command busy in
    elim (row.command == command) as (λ b. slice_index (map (λ r. r.steps) (cond b (row ∷ filter (λ r. r.command == command) busy) (filter (λ r. r.command == command) busy))) 0 ≤ fold max (max a row.steps) (map (λ r. r.steps) busy)) [
      | true ↦ omega arith
      | false ↦ there
    ]

pub time_within : (rows : Rows) (command : ℕ) → busy_of rows command ≤ longest rows
time_within rows command = within_from 0 command rows.busy

-- one bit of eight
pub one_bit : (line : ℕ) → line ≤ 7 → 2 ^ line < 2 ^ 8
one_bit line low = pow-lt (let h : line < 8 = omega arith in h)
