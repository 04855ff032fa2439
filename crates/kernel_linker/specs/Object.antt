-- The object of a kernel.
use Rattle.std.specs.Prelude.{ℕ, List}
use Rattle.c0_tree.specs.Tree.{CUnit}
use Rattle.object_file.specs.Parts.{ObjectParts}
use Rattle.c0_unit.specs.Code.{unit_words}

-- a source, and the words of its checked unit
unfoldable pub object_of : (source : List ℕ) → CUnit → ObjectParts
object_of source u = record { source = source; words = unit_words u }
