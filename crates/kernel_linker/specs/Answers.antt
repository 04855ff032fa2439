-- What the front comes to on a source, as the answers of the commands need it.
use Rattle.std.specs.Prelude.{ℕ, List, Result, Ok, Err}
use Rattle.c0_tree.specs.Tree.{CUnit}
use Rattle.c0_types.specs.Front.{IsUnitOf, IsSourceFaultOf}
use Rattle.c0_types.specs.declared.source_fault.SourceFault.{SourceFault}

-- what the front comes to on a source: its checked unit, or its first fault, or want of memory
abbrev pub FrontGives : List ℕ → Result CUnit SourceFault → Type 0
FrontGives source (Ok u) = IsUnitOf source u
FrontGives source (Err f) = IsSourceFaultOf source f
