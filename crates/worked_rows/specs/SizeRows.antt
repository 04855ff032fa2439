-- Worked rows of the definitions: sizes, structs that hold themselves, declared types and names.
use Rattle.std.specs.Prelude.{◌≡◌, ℕ, true, false, List, [], ◌∷◌, codes}
use Rattle.c0_tree.specs.declared.tree.Span.{Span}
use Rattle.c0_tree.specs.declared.tree.Kind.TheVariants.{Unresolved}
use Rattle.c0_tree.specs.Tree.{CName, CTy}
use Rattle.c0_tree.specs.Tree as tree
use Rattle.c0_meaning.specs.Ty.{Ty, int, bool, pointer, named, array}
use Rattle.c0_meaning.specs.Env.{Typed, Shape}
use Rattle.c0_meaning.specs.Fault.{fault}
use Rattle.c0_meaning.specs.Words.{holds, words}
use Rattle.c0_meaning.specs.DeclaredTypes.{type_faults}
use Rattle.c0_meaning.specs.Names.{twice_faults, in_source_order}

-- a field, and a struct of such fields
abbrev pub struct_field : List ℕ → Ty → Typed
struct_field text t = record { text = text; ty = t }

-- a span
abbrev pub from_to : ℕ → ℕ → Span
from_to a b = record { start = a; end = b }

-- a name at a place of one byte
abbrev pub name_at : ℕ → List ℕ → CName
name_at at text = record { text = text; span = from_to at 9; kind = Unresolved; number = 0 }

-- struct p { int x; int y; }; struct line { struct p[2] ends; struct line* next; bool on; };
abbrev pub line_structs : List Shape
line_structs =
    record { text = codes "p"; fields = struct_field (codes "x") int ∷ struct_field (codes "y") int ∷ [] }
    ∷ record {
      text = codes "line";
      fields = struct_field (codes "ends") (array (named (codes "p")) 2)
          ∷ struct_field (codes "next") (pointer (named (codes "line"))) ∷ struct_field (codes "on") bool ∷ [];
    }
    ∷ []

-- struct a { struct b[3] x; }; struct b { struct a y; int z; }; struct c { struct a x; int y; };
abbrev pub knot : List Shape
knot =
    record { text = codes "a"; fields = struct_field (codes "x") (array (named (codes "b")) 3) ∷ [] }
    ∷ record { text = codes "b"; fields = struct_field (codes "y") (named (codes "a")) ∷ struct_field (codes "z") int ∷ [] }
    ∷ record { text = codes "c"; fields = struct_field (codes "x") (named (codes "a")) ∷ struct_field (codes "y") int ∷ [] }
    ∷ []

-- sizes: a pointer to itself is no struct in itself, and a cycle through arrays is one; a struct that merely holds such structs counts
-- them as 0; a struct that isn't defined has no words
pub record AreSizesRight : Type 0 where
  pub small : words line_structs (named (codes "p")) ≡ 2
  pub nested : words line_structs (named (codes "line")) ≡ 6
  pub product : words line_structs (array (array (named (codes "line")) 10) 7) ≡ 420
  pub undefined : words line_structs (array (named (codes "q")) 7) ≡ 0
  pub through_pointer : holds line_structs (codes "line") (codes "line") ≡ false
  pub through_array : holds knot (codes "a") (codes "a") ≡ true
  pub both : holds knot (codes "b") (codes "b") ≡ true
  pub merely : holds knot (codes "c") (codes "c") ≡ false
  pub cycle : words knot (named (codes "b")) ≡ 0
  pub above : words knot (named (codes "c")) ≡ 1

-- declared types: an unknown struct, a length 0 also behind a pointer, too many words but not behind a pointer
pub record AreTypesRight : Type 0 where
  pub unknown : type_faults line_structs (tree.pointer (tree.named (name_at 7 (codes "q")))) (from_to 0 9) ≡ fault 20 (from_to 7 9) ∷ []
  pub empty : type_faults line_structs (tree.pointer (tree.array tree.int 0)) (from_to 0 9) ≡ fault 35 (from_to 0 9) ∷ []
  pub full : type_faults line_structs (tree.array tree.bool 1048576) (from_to 0 9) ≡ []
  pub large : type_faults line_structs (tree.array tree.bool 1048577) (from_to 0 9) ≡ fault 34 (from_to 0 9) ∷ []
  pub far : type_faults line_structs (tree.pointer (tree.array tree.int 2000000)) (from_to 0 9) ≡ []

-- names: the second of a name, and one that a primitive has; globals and functions by their places in the source
pub record AreNamesRight : Type 0 where
  pub twice : twice_faults [] (name_at 0 (codes "a") ∷ name_at 3 (codes "b") ∷ name_at 6 (codes "a") ∷ []) ≡ fault 21 (from_to 6 9) ∷ []
  pub primitive : twice_faults (codes "vm_get" ∷ []) (name_at 0 (codes "a") ∷ name_at 3 (codes "vm_get") ∷ []) ≡ fault 21 (from_to 3 9) ∷ []
  pub order : in_source_order (name_at 5 (codes "a") ∷ []) (name_at 0 (codes "b") ∷ name_at 8 (codes "c") ∷ []) ≡ name_at 0 (codes "b") ∷ name_at 5 (codes "a")
      ∷ name_at 8 (codes "c") ∷ []
