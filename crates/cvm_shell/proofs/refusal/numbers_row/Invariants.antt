use Rattle.std.proofs.Common.{◌≡◌, ◌≤◌, ◌+◌, ◌*◌, ◌++◌, drop, length}
use Rattle.run_scripts.specs.Refusal.{numbers_text}
use Rattle.cvm_shell.proofs.refusal.numbers_row.Given as goal

abbrev pub invariant-loop-field : goal.invariant-loop-field
invariant-loop-field l = record {
  few : length l.row.bytes ≤ 28 + 21 * l.field-index;
  left : l.row.bytes ++ numbers_text (drop l.field-index l.fields) ≡ l.initial.row.bytes ++ numbers_text l.fields;
}
