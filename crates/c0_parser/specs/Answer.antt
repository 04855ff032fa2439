-- What is answered of a source.
use Rattle.std.specs.Prelude.{ℕ, ◌≡◌, ◌≢◌, ◌≤◌, List, length, Result, Ok, Err}
use Rattle.c0_tree.specs.Tree.{CUnit}
use Rattle.c0_parser.specs.Faults.{ReadsAs, FaultIs}
use Rattle.c0_parser.specs.declared.fault.ReadFault.{ReadFault}
use Rattle.c0_parser.specs.declared.fault.ReadFault.TheVariants.{Memory}

-- what a source is answered by: its tree, if it isn't too long, or the fault for which it has none; want of memory is no such answer
abbrev pub IsTreeAnswer : List ℕ → Result CUnit ReadFault → Type 0
IsTreeAnswer source (Ok u) = (length source ≤ 1048576) × ReadsAs source u
IsTreeAnswer source (Err f) = (f ≢ Memory) × FaultIs source f
