-- A type with its structs written out. What a value's parts and words are goes by recursion over it, and no name is looked up on the way.
use Rattle.std.specs.Prelude.{◌≡◌, ℕ, zero, suc, ◌+◌, ◌*◌, List, [], ◌∷◌, length}
use Rattle.c0_tree.specs.Tree.{CUnit}
use Rattle.c0_tree.specs.Primitives.{CPrimitive}
use Rattle.c0_meaning.specs.Ty.{Ty, int, bool, pointer, named, array}
use Rattle.c0_meaning.specs.Env.{Shape, Typed}
use Rattle.c0_meaning.specs.Words.{StructHolds, shape_fields, words}
use Rattle.c0_meaning.specs.Sound.{shapes}
use Rattle.c0_meaning.specs.Unit.{IsWellFormed}

-- a scalar of a type; the fields of a struct; so many elements of a type
mutual
  pub data OpenTy : Type 0 where
    scalar : Ty → OpenTy
    fields : OpenTys → OpenTy
    elements : OpenTy → ℕ → OpenTy

  pub data OpenTys : Type 0 where
    none : OpenTys
    more : OpenTy → OpenTys → OpenTys

-- a type written out, where the structs are given
abbrev pub opened_with : (List ℕ → OpenTy) → Ty → OpenTy
opened_with struct_opened int = scalar int
opened_with struct_opened bool = scalar bool
opened_with struct_opened (pointer t) = scalar (pointer t)
opened_with struct_opened (named x) = struct_opened x
opened_with struct_opened (array t n) = elements (opened_with struct_opened t) n

-- the types of declarations written out, where the structs are given
abbrev pub all_opened_with : (List ℕ → OpenTy) → List Typed → OpenTys
all_opened_with struct_opened [] = none
all_opened_with struct_opened (d ∷ rest) = more (opened_with struct_opened d.ty) (all_opened_with struct_opened rest)

-- the struct of a name written out, where structs are opened so deep
abbrev pub opened_within : ℕ → List Shape → List ℕ → OpenTy
opened_within zero structs x = fields none
opened_within (suc depth) structs x = fields (all_opened_with (opened_within depth structs) (shape_fields structs x))

-- a type written out: no struct that doesn't hold itself is deeper than there are structs
abbrev pub opened : List Shape → Ty → OpenTy
opened structs t = opened_with (opened_within (length structs) structs) t

-- the words of a type that is written out
abbrev mutual
  pub size : OpenTy → ℕ
  size (scalar t) = 1
  size (fields ts) = all_sizes ts
  size (elements t n) = n * size t

  pub all_sizes : OpenTys → ℕ
  all_sizes none = 0
  all_sizes (more t ts) = size t + all_sizes ts

-- a law: where no struct holds itself, as in a well formed unit, the size of a type that is written out is its words
pub record SizeIsWords : Type 0 where
  pub loose : (structs : List Shape) → ((x : List ℕ) → StructHolds structs x x → ⊥) → (t : Ty) → size (opened structs t) ≡ words structs t
  pub well_formed : (primitives : List CPrimitive) (u : CUnit) → IsWellFormed primitives u → (t : Ty) → size (opened (shapes u) t) ≡ words (shapes u) t
