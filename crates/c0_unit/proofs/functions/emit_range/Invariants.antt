-- The code and the addresses of the functions so far.
use Rattle.std.proofs.Common.{◌≡◌, ◌+◌, ◌≤◌, ◌++◌, length, map}
use Rattle.mips_table.specs.Encoding.{encoding}
use Rattle.layer_map.specs.Map.{layer_words}
use Rattle.c0_tree.specs.View.{unit_view}
use Rattle.c0_stmt_code.specs.Code.{links_of}
use Rattle.c0_unit.specs.Code.{code_in, words_in, starts_from}
use Rattle.c0_unit.proofs.functions.emit_range.Given as goal

abbrev pub invariant-loop-number : goal.invariant-loop-number
invariant-loop-number l = record {
  code : l.code.items ≡ l.initial.code.items ++ map encoding (code_in (unit_view l.typed) (links_of l.addresses) l.from l.number);
  starts : l.starts.items ≡ starts_from (layer_words + length l.initial.code.items) (words_in (unit_view l.typed) l.from l.number);
  reached : l.from ≤ l.number;
  few : length l.code.items ≤ length l.initial.code.items + 3200000;
}
