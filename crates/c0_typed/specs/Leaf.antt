-- Which functions keep their variables in registers, and which write the return register.
use Rattle.std.specs.Prelude.{ℕ, Bool, true, false, ◌&&◌, ◌||◌, nat_le, length}
use Rattle.std.specs.List.{list_all}
use Rattle.c0_tree.specs.Tree.{CStmt, assign, call, new, choice, loop, CStmts, done, next, CBody, code, asm, CFunction}
use Rattle.c0_meaning.specs.Ty.{is_scalar}
use Rattle.c0_meaning.specs.TypedState.{variable_types}

-- whether a statement calls no function and no primitive, and whether none of a list does
abbrev mutual
  pub is_free_of_calls : CStmt → Bool
  is_free_of_calls (assign s p v) = true
  is_free_of_calls (call s p cs f args) = false
  is_free_of_calls (new s p t ts) = true
  is_free_of_calls (choice s t a b) = are_free_of_calls a && are_free_of_calls b
  is_free_of_calls (loop s t b) = are_free_of_calls b

  pub are_free_of_calls : CStmts → Bool
  are_free_of_calls done = true
  are_free_of_calls (next s rest) = is_free_of_calls s && are_free_of_calls rest

-- whether a body is of statements that call nothing; `new` is no call here
abbrev pub is_leaf : CBody → Bool
is_leaf (code locals stmts answer) = are_free_of_calls stmts
is_leaf (asm text span words) = false

-- how many variables registers can hold
abbrev pub MAX_REGISTER_VARIABLES : ℕ
MAX_REGISTER_VARIABLES = 8

-- whether a function keeps its variables in registers: it calls nothing, has few variables, each of them scalar, and is no asm text
abbrev pub keeps_registers : CFunction → Bool
keeps_registers f = is_leaf f.body && (nat_le (length (variable_types f)) MAX_REGISTER_VARIABLES && list_all is_scalar (variable_types f))

-- whether a statement calls a function or a primitive, or makes an object, so that its code writes the return register; and of statements
abbrev mutual
  pub is_calling : CStmt → Bool
  is_calling (assign s p v) = false
  is_calling (call s p cs f args) = true
  is_calling (new s p t ts) = true
  is_calling (choice s t a b) = are_calling a || are_calling b
  is_calling (loop s t b) = are_calling b

  pub are_calling : CStmts → Bool
  are_calling done = false
  are_calling (next s rest) = is_calling s || are_calling rest

-- whether the code of a body writes the return register
abbrev pub calls_in : CBody → Bool
calls_in (code locals stmts answer) = are_calling stmts
calls_in (asm text span words) = false
