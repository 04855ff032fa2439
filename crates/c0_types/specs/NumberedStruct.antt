-- One struct with its names resolved.
use Rattle.std.specs.Prelude.{ℕ, List}
use Rattle.c0_tree.specs.declared.tree.Kind.TheVariants.{Struct, Field}
use Rattle.c0_tree.specs.Tree.{CStruct}
use Rattle.c0_meaning.specs.Env.{Shape}
use Rattle.c0_meaning.specs.Resolved.{standing_for, resolved_decls}

-- a struct of this number
abbrev pub resolved_struct : List Shape → ℕ → CStruct → CStruct
resolved_struct structs number s = record { name = standing_for Struct number s.name; fields = resolved_decls structs Field 0 s.fields }
