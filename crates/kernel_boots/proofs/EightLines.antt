-- The lines of a valid schedule are eight, and so are those of each turn of the machine; and its input words are not too many.
use Rattle.std.proofs.Common.{◌≡◌, ◌<◌, ◌≤◌, ◌+◌, ◌^◌, ℕ, zero, suc, List, [], ◌∷◌, ◌++◌, length, Bool, true, false, nat_lt, fold, All, Option, Some, None, refl, sym, subst, arith, lit<}
use Rattle.std.specs.Prelude.{Result, Ok, ◌==◌, nat_le, if◌then◌else◌, option_map, unwrap_or}
use Rattle.std.specs.List.{filter}
use Rattle.std.specs.Option.{option_or}
use Rattle.std.proofs.Math.Pow.{pow-lt}
use Rattle.std.proofs.lemmas.Bool.{ltb-false, leb-false}
use Rattle.std.proofs.lemmas.Nat.{or_of_8}
use Rattle.std.proofs.lemmas.List.{append-nil, append_assoc, length-append}
use Rattle.std.proofs.lemmas.List.Elements.{All-nil, All-cons, All-head, All-tail, All-append, All-filter}
use Rattle.std.proofs.lemmas.List.Sums.{fold-append}
use Rattle.mips_table.specs.Device.{Environment, HasEightLines}
use Rattle.mips_table.specs.Machine.{State}
use Rattle.mips_table.specs.Turns.{turn_of, gathered, lines_of_turn as lines_in}
use Rattle.cvm_text.specs.Lines.{lines_of}
use Rattle.schedule_file.specs.declared.fault.ScheduleFault.{ScheduleFault}
use Rattle.schedule_file.specs.declared.fault.ScheduleFault.TheVariants.{BadLine, Order, Range, TooManyInputs}
use Rattle.schedule_file.specs.declared.row.LineRow.{LineRow}
use Rattle.schedule_file.specs.declared.row.Row.{Row}
use Rattle.schedule_file.specs.declared.row.Row.TheVariants.{Line, Busy, Input}
use Rattle.schedule_file.specs.Rows.{Rows, with_lines, lines_at, with_row}
use Rattle.schedule_file.specs.Text.{row_of}
use Rattle.schedule_file.specs.Schedule.{no_rows, is_late, is_too_many, fault_of_row, fault_of_line, with_line, rows_of, first_row_fault, unless, schedule_of}
use Rattle.cvm_model.specs.Invariant.{HasEight}

abbrev Small : LineRow → Type 0
Small row = row.lines.0 < 2 ^ 8

-- the lines of rows are eight, and there are not too many input words
record Right (rows : Rows) : Type 0 where
  bits : All Small rows.lines
  few : length rows.inputs ≤ 4096

-- a row that has no fault adds one bit of eight, or an input word where there is room
right_with_row : (rows : Rows) (number : ℕ) (row : Row) → fault_of_row rows number row ≡ None → Right rows → Right (with_row rows row)
right_with_row rows number (Line step line) e h = by (nat_lt 7 line) refl e
  where
    by : (b : Bool) → nat_lt 7 line ≡ b → (if b then Some (Range number line) else (if is_late rows (Line step line) then Some (Order number) else (if is_too_many rows (Line step line) then Some (TooManyInputs number) else None))) ≡ None
        → Right (with_row rows (Line step line))
    by true t e = absurd (cc)
    by false t e =
        let low : line ≤ 7 = ltb-false 7 line t in
        let new : LineRow = record { step = step; lines = record { 0 = 2 ^ line } } in
        record { bits = All-append Small rows.lines (new ∷ []) h.bits (All-cons Small new [] (pow-lt (let lt : line < 8 = omega arith in lt)) (All-nil Small)); few = h.few }
right_with_row rows number (Busy command steps) e h = record { bits = h.bits; few = h.few }
right_with_row rows number (Input word) e h = by (nat_lt 4294967295 word) (nat_le 4096 (length rows.inputs)) refl e
  where
    by : (a b : Bool) → nat_le 4096 (length rows.inputs) ≡ b → (if a then Some (Range number word) else (if false then Some (Order number) else (if b then Some (TooManyInputs number) else None))) ≡ None
        → Right (with_row rows (Input word))
    by true b t e = absurd (cc)
    by false true t e = absurd (cc)
    by false false t e = record { bits = h.bits; few = let below = leb-false 4096 (length rows.inputs) t in omega (arith, below, length-append rows.inputs (word ∷ [])) }

right_with_line : (rows : Rows) (number : ℕ) (o : Option Row) → unwrap_or (option_map (fault_of_row rows number) o) (Some (BadLine number)) ≡ None → Right rows → Right (unwrap_or (option_map (with_row rows) o) rows)
right_with_line rows number None e h = absurd (cc)
right_with_line rows number (Some row) e h = right_with_row rows number row e h

one_more : (before : List (List ℕ)) (line : List ℕ) → fault_of_line (rows_of before) (length before + 1) line ≡ None → Right (rows_of before) → Right (rows_of (before ++ line ∷ []))
unfolding fault_of_line with_line
one_more before line e h = subst Right (sym (fold-append with_line no_rows before (line ∷ []))) (right_with_line (rows_of before) (length before + 1) (row_of line) e h)

none_of : (a b : Option ScheduleFault) → option_or a b ≡ None → (a ≡ None) × (b ≡ None)
none_of None b e = (refl, e)
none_of (Some f) b e = absurd (cc)

all_lines : (before lines : List (List ℕ)) → first_row_fault before lines ≡ None → Right (rows_of before) → Right (rows_of (before ++ lines))
all_lines before [] e h = subst (λ ls. Right (rows_of ls)) (sym (append-nil before)) h
all_lines before (line ∷ lines) e h =
    let n = none_of (fault_of_line (rows_of before) (length before + 1) line) (first_row_fault (before ++ line ∷ []) lines) e in
    subst (λ ls. Right (rows_of ls)) (append_assoc before (line ∷ []) lines) (all_lines (before ++ line ∷ []) lines n.1 (one_more before line n.0 h))

valid : (o : Option ScheduleFault) (made rows : Rows) → ◌≡◌ {A = Result Rows ScheduleFault} (unless o made) (Ok rows) → (o ≡ None) × (made ≡ rows)
valid None made rows e = (refl, cc)
valid (Some f) made rows e = absurd (cc)

right_of : (text : List ℕ) (rows : Rows) → schedule_of text ≡ Ok rows → Right rows
unfolding schedule_of
right_of text rows e =
    let v = valid (first_row_fault [] (lines_of text)) (rows_of (lines_of text)) rows e in
    subst Right v.1 (all_lines [] (lines_of text) v.0 (record { bits = All-nil Small; few = omega arith }))

bits_within : (bits : ℕ) (rows : List LineRow) → bits < 2 ^ 8 → All Small rows → fold with_lines bits rows < 2 ^ 8
bits_within bits [] small each = small
bits_within bits (row ∷ rows) small each = bits_within (with_lines bits row) rows (or_of_8 bits row.lines.0 small (All-head Small row rows each)) (All-tail Small row rows each)

-- A VALID SCHEDULE raises no line but the eight
pub eight_of : (text : List ℕ) (rows : Rows) → schedule_of text ≡ Ok rows → (step : ℕ) → lines_at rows step < 2 ^ 8
eight_of text rows e step = bits_within 0 (filter (λ row. row.step == step) rows.lines) (lit< tt) (All-filter (λ row. row.step == step) Small rows.lines (right_of text rows e).bits)

-- and has no more input words than there is room for
pub few_of : (text : List ℕ) (rows : Rows) → schedule_of text ≡ Ok rows → length rows.inputs ≤ 4096
few_of text rows e = (right_of text rows e).few

-- AND SO NO TURN of the machine has another
module _ (x : Environment) (s : State) (eight : HasEightLines x) where
  gathered_eight : (k t : ℕ) → gathered x s k t < 2 ^ 8
  gathered_eight k zero = lit< tt
  gathered_eight k (suc t) = or_of_8 (gathered x s k t) (if turn_of x s t == k then x.lines (s.time + t) else 0) (gathered_eight k t) (by (turn_of x s t == k))
    where
      by : (b : Bool) → (if b then x.lines (s.time + t) else 0) < 2 ^ 8
      by true = eight (s.time + t)
      by false = lit< tt

  pub turns_have_eight : HasEight (lines_in x s)
  turns_have_eight k = gathered_eight k (suc x.last)
