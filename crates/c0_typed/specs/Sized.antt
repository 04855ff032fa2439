-- The types that `new` names in statements have few words, and their names are resolved.
use Rattle.std.specs.Prelude.{◌≡◌, ℕ, List, Some, slice_get}
use Rattle.c0_tree.specs.Tree.{CStmt, assign, call, new, choice, loop, CStmts, done, next, CBody, code, asm, CFunction, CUnit}
use Rattle.c0_tree.specs.Primitives.{CPrimitive}
use Rattle.c0_meaning.specs.Env.{Shape}
use Rattle.c0_meaning.specs.Sound.{IsSized, shapes}
use Rattle.c0_meaning.specs.Unit.{IsWellFormed}

-- those in a statement, and in a list of statements
abbrev mutual
  pub IsSizedStmt : List Shape → CStmt → Type 0
  IsSizedStmt structs (assign s p v) = Unit {0}
  IsSizedStmt structs (call s p cs f args) = Unit {0}
  IsSizedStmt structs (new s p t ts) = IsSized structs t
  IsSizedStmt structs (choice s t a b) = AreSizedStmts structs a × AreSizedStmts structs b
  IsSizedStmt structs (loop s t b) = AreSizedStmts structs b

  pub AreSizedStmts : List Shape → CStmts → Type 0
  AreSizedStmts structs done = Unit {0}
  AreSizedStmts structs (next s rest) = IsSizedStmt structs s × AreSizedStmts structs rest

-- those in a body
abbrev pub IsSizedBody : List Shape → CBody → Type 0
IsSizedBody structs (code locals stmts answer) = AreSizedStmts structs stmts
IsSizedBody structs (asm text span words) = Unit {0}

-- a law: it is so of each body of a well formed unit
abbrev pub BodiesAreSized : Type 0
BodiesAreSized = (primitives : List CPrimitive) (u : CUnit) → IsWellFormed primitives u
    → (n : ℕ) (f : CFunction) → slice_get u.functions n ≡ Some f → IsSizedBody (shapes u) f.body
