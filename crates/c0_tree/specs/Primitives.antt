-- The table of primitives as contracts see it. A primitive is spoken of by its number, the place of its row.
use Rattle.std.specs.Prelude.{ℕ, Bool, true, not, ◌&&◌, List, [], ◌∷◌, codes}
use Rattle.std.specs.Str.{bytes_eq}
use Rattle.std.specs.List.{list_all}
use Rattle.c0_tree.specs.declared.primitive.Scalar.{Scalar}
use Rattle.c0_tree.specs.declared.primitive.Scalar.TheVariants.{Int, Bool as Boolean}
use Rattle.c0_tree.specs.declared.primitive.Primitive.{Primitive}
use Rattle.c0_tree.specs.declared.primitive.Program.{Program}
use Rattle.c0_tree.specs.declared.primitive.Program.TheVariants.{Kernel, User}

-- a row: its name, the types of its arguments and that of its result
pub record CPrimitive : Type 0 where
  pub name : List ℕ
  pub args : List Scalar
  pub answer : Scalar

-- a row of the program's table
abbrev pub primitive_view : Primitive → CPrimitive
primitive_view p = record { name = p.name.now; args = p.args.now; answer = p.answer }

-- The primitives of a kernel: a register, or the pc as register 32, is read and set; the size in pages is read and set; a word of
-- memory is read and set; words are copied; a word is written to the console, the next one is read from it, and the number of those
-- that are left is read.
abbrev pub kernel_primitives : List CPrimitive
kernel_primitives =
    record { name = codes "vm_get"; args = Int ∷ Int ∷ []; answer = Int }
    ∷ record { name = codes "vm_set"; args = Int ∷ Int ∷ Int ∷ []; answer = Boolean }
    ∷ record { name = codes "vm_size"; args = Int ∷ []; answer = Int }
    ∷ record { name = codes "vm_resize"; args = Int ∷ Int ∷ []; answer = Boolean }
    ∷ record { name = codes "vm_word"; args = Int ∷ Int ∷ []; answer = Int }
    ∷ record { name = codes "vm_put"; args = Int ∷ Int ∷ Int ∷ []; answer = Boolean }
    ∷ record { name = codes "vm_copy"; args = Int ∷ Int ∷ Int ∷ Int ∷ Int ∷ []; answer = Boolean }
    ∷ record { name = codes "con_put"; args = Int ∷ []; answer = Boolean }
    ∷ record { name = codes "con_get"; args = []; answer = Int }
    ∷ record { name = codes "con_left"; args = []; answer = Int }
    ∷ []

-- The one primitive of a user program: the kernel is asked with a number, and gives one back.
abbrev pub user_primitives : List CPrimitive
user_primitives = record { name = codes "trap"; args = Int ∷ []; answer = Int } ∷ []

-- the primitives that a source may call
abbrev pub primitives_of : Program → List CPrimitive
primitives_of Kernel = kernel_primitives
primitives_of User = user_primitives

-- whether no row has the name of another
abbrev pub names_apart : List CPrimitive → Bool
names_apart [] = true
names_apart (p ∷ rows) = list_all (λ q. not (bytes_eq p.name q.name)) rows && names_apart rows
