-- What the rows of a valid schedule promise.
use Rattle.std.specs.Prelude.{All, nat_lt, nat_le, Option, Some, None, Ok, Result, option_map, unwrap_or, slice_get, if◌then◌else◌}
use Rattle.std.specs.Option.{option_or}
use Rattle.std.specs.List.Sorted.{IsNonDecreasingBy}
use Rattle.std.proofs.Common.{◌≡◌, ℕ, ◌+◌, ◌-◌, ◌<◌, ◌≤◌, ◌^◌, Bool, true, false, List, [], ◌∷◌, ◌++◌, length, get_or, refl, sym, ap, subst, arith, append-nil, append_assoc}
use Rattle.std.proofs.lemmas.Bool.{ltb-false}
use Rattle.std.proofs.lemmas.Bool.Decides.{nat_tests}
use Rattle.std.proofs.lemmas.Option.{slice_get-get_or}
use Rattle.std.proofs.lemmas.List.Sums.{fold-append}
use Rattle.std.proofs.lemmas.List.Sorted.{IsNonDecreasingBy-short, IsNonDecreasingBy-push}
use Rattle.std.proofs.lemmas.List.Elements.{All-nil, All-cons, All-append}
use Rattle.cvm_text.specs.Lines.{lines_of}
use Rattle.mips_table.specs.Device.{LinesEnd}
use Rattle.mips_table.specs.Fits.{IsWord}
use Rattle.mips_machine.specs.Steps.{outside_of}
use Rattle.schedule_file.specs.declared.fault.ScheduleFault.{ScheduleFault}
use Rattle.schedule_file.specs.declared.fault.ScheduleFault.TheVariants.{BadLine, Order, Range, TooManyInputs}
use Rattle.schedule_file.specs.declared.row.LineRow.{LineRow}
use Rattle.schedule_file.specs.declared.row.Row.{Row}
use Rattle.schedule_file.specs.declared.row.Row.TheVariants.{Line, Busy, Input}
use Rattle.schedule_file.specs.Rows.{Rows, busy_of, last_step, longest, with_row}
use Rattle.schedule_file.specs.Schedule.{no_rows, is_late, is_too_many, limit_of, row_value, rows_of, with_line, fault_of_row, fault_of_line, first_row_fault, unless, schedule_of}
use Rattle.schedule_file.specs.Text.{row_of}
use Rattle.schedule_file.proofs.OneLineMore.{one_bit}
use Rattle.schedule_file.proofs.RowsSought.{eight_lines, quiet_after}
use Rattle.boot_run.proofs.PremisesOfBoots.{RowsFit}

-- rows in order, of eight lines, with few input words
pub record Ordered (rows : Rows) : Type 0 where
  pub rise : IsNonDecreasingBy (λ row. row.step) rows.lines
  pub bits : All (λ row. row.lines.0 < 2 ^ 8) rows.lines
  pub few : length rows.inputs ≤ 4096
  pub words : All IsWord rows.inputs

none_ordered : Ordered no_rows
none_ordered = record {
  rise = IsNonDecreasingBy-short (λ (row : LineRow). row.step) [] (omega arith);
  bits = All-nil (λ (row : LineRow). row.lines.0 < 2 ^ 8);
  few = omega arith;
  words = All-nil IsWord;
}

-- a chain of three tests that finds no fault
none_of : (a b c : Bool) (x y z : ScheduleFault) → (if a then Some x else (if b then Some y else (if c then Some z else None))) ≡ None → (a ≡ false) × (b ≡ false) × (c ≡ false)
none_of true b c x y z e = absurd (cc)
none_of false true c x y z e = absurd (cc)
none_of false false true x y z e = absurd (cc)
none_of false false false x y z e = (refl, refl, refl)

under : (m t : ℕ) → nat_le m t ≡ false → t < m
under m t h = grind (arith, nat_tests)

-- a row that is not late rises from the last one
last_below : (lines : List LineRow) (step : ℕ) → unwrap_or (option_map (λ last. nat_lt step last.step) (slice_get lines (length lines - 1))) false ≡ false →
    (d : LineRow) → 0 < length lines → (get_or lines (length lines - 1) d).step ≤ step
last_below lines step late d some =
    let there : slice_get lines (length lines - 1) ≡ Some (get_or lines (length lines - 1) d) = slice_get-get_or lines (length lines - 1) d (omega (arith, some)) in
    ltb-false step (get_or lines (length lines - 1) d).step
    (subst (λ (o : Option LineRow). unwrap_or (option_map (λ last. nat_lt step last.step) o) false ≡ false) there late)

found_none : (rows : Rows) (number : ℕ) (row : Row) → fault_of_row rows number row ≡ None →
    (nat_lt (limit_of row) (row_value row) ≡ false) × (is_late rows row ≡ false) × (is_too_many rows row ≡ false)
found_none rows number row e =
    none_of (nat_lt (limit_of row) (row_value row)) (is_late rows row) (is_too_many rows row) (Range number (row_value row)) (Order number) (TooManyInputs number) e

row_ordered : (rows : Rows) (number : ℕ) (row : Row) → fault_of_row rows number row ≡ None → Ordered rows → Ordered (with_row rows row)
row_ordered rows number (Line step line) e h =
    let t = found_none rows number (Line step line) e in
    let new : LineRow = record { step = step; lines = record { 0 = 2 ^ line } } in
    record {
      rise = IsNonDecreasingBy-push (λ (row : LineRow). row.step) rows.lines new h.rise (last_below rows.lines step t.1);
      bits = All-append (λ (row : LineRow). row.lines.0 < 2 ^ 8) rows.lines (new ∷ []) h.bits
          (All-cons (λ (row : LineRow). row.lines.0 < 2 ^ 8) new [] (one_bit line (ltb-false 7 line t.0)) (All-nil (λ (row : LineRow). row.lines.0 < 2 ^ 8)));
      few = h.few;
      words = h.words;
    }
row_ordered rows number (Busy command steps) e h = record { rise = h.rise; bits = h.bits; few = h.few; words = h.words }
row_ordered rows number (Input word) e h =
    let t = found_none rows number (Input word) e in
    let small : word ≤ 4294967295 = ltb-false 4294967295 word t.0 in
    let room : length rows.inputs < 4096 = under 4096 (length rows.inputs) t.2 in
    record {
      rise = h.rise;
      bits = h.bits;
      few = omega (arith, room, length-one rows.inputs word);
      words = All-append IsWord rows.inputs (word ∷ []) h.words (All-cons IsWord word [] (omega (arith, small)) (All-nil IsWord));
    }
  where
    length-one : (xs : List ℕ) (x : ℕ) → length (xs ++ x ∷ []) ≡ length xs + 1
    length-one [] x = refl
    length-one (y ∷ xs) x = let r = length-one xs x in omega (arith, r)

line_ordered : (rows : Rows) (number : ℕ) (line : List ℕ) → fault_of_line rows number line ≡ None → Ordered rows → Ordered (with_line rows line)
unfolding fault_of_line with_line
line_ordered rows number line e h = by (row_of line) e
  where
    by : (o : Option Row) → unwrap_or (option_map (fault_of_row rows number) o) (Some (BadLine number)) ≡ None → Ordered (unwrap_or (option_map (with_row rows) o) rows)
    by None e = absurd (cc)
    by (Some row) e = row_ordered rows number row e h

or_none : (a b : Option ScheduleFault) → option_or a b ≡ None → (a ≡ None) × (b ≡ None)
or_none None b e = (refl, e)
or_none (Some x) b e = absurd (cc)

lines_ordered : (before lines : List (List ℕ)) → first_row_fault before lines ≡ None → Ordered (rows_of before) → Ordered (rows_of (before ++ lines))
lines_ordered before [] e h = subst Ordered (ap rows_of (sym (append-nil before))) h
lines_ordered before (line ∷ lines) e h =
    let t = or_none (fault_of_line (rows_of before) (length before + 1) line) (first_row_fault (before ++ line ∷ []) lines) e in
    let one : Ordered (rows_of (before ++ line ∷ [])) = subst Ordered (sym (fold-append with_line no_rows before (line ∷ []))) (line_ordered (rows_of before) (length before + 1) line t.0 h) in
    subst Ordered (ap rows_of (append_assoc before (line ∷ []) lines)) (lines_ordered (before ++ line ∷ []) lines t.1 one)

same_rows : (a b : Rows) → ◌≡◌ {A = Result Rows ScheduleFault} (Ok a) (Ok b) → a ≡ b
same_rows a b e = cc

pub rows_ordered : (text : List ℕ) (rows : Rows) → schedule_of text ≡ Ok rows → Ordered rows
unfolding schedule_of
rows_ordered text rows e = by (first_row_fault [] (lines_of text)) refl e
  where
    by : (f : Option ScheduleFault) → first_row_fault [] (lines_of text) ≡ f → unless f (rows_of (lines_of text)) ≡ Ok rows → Ordered rows
    by None is e = subst Ordered (same_rows _ _ e) (lines_ordered [] (lines_of text) is none_ordered)
    by (Some x) is e = absurd (cc)

-- no line is raised after the last row's step
last_of : (rows : Rows) (d : LineRow) → 0 < length rows.lines → last_step rows ≡ (get_or rows.lines (length rows.lines - 1) d).step
last_of rows d some = ap (λ (o : Option LineRow). unwrap_or (option_map (λ row. row.step) o) 0) (slice_get-get_or rows.lines (length rows.lines - 1) d (omega (arith, some)))

lines_end : (rows : Rows) → Ordered rows → (count : ℕ) → LinesEnd (outside_of rows count)
lines_end rows h count t past = quiet_after rows (last_step rows) t
    (λ k d from to. (let last = last_of rows d (omega (arith, to)) in let rises = h.rise k (length rows.lines - 1) d (omega (arith, to)) (omega (arith, to)) in omega (arith, last, rises))) past

pub rows_fit : ((rows : Rows) (command : ℕ) → busy_of rows command ≤ longest rows) → (rows : Rows) → Ordered rows → (count : ℕ) → RowsFit rows count
rows_fit busy rows h count = record {
  eight = λ t. eight_lines rows t h.bits;
  end = lines_end rows h count;
  within = λ n. busy rows n;
  few = h.few;
  words = h.words;
}
