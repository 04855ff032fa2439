-- What is known of a typed expression by its outermost part.
use Rattle.std.specs.Prelude.{ℕ, ◌==◌, Bool, true, false, if◌then◌else◌, Option, Some, None}
use Rattle.c0_typed.specs.Tree.{TExpr, local, constant}
use Rattle.c0_expr_code.specs.declared.facts.Facts.{Facts}
use Rattle.c0_expr_code.specs.Facts.{register_holding, register_of_variable}

-- the word that a constant is
abbrev pub written_word : TExpr → Option ℕ
written_word (constant k) = Some k
written_word _ = None

-- register 0, where a known word is 0
abbrev pub zero_register : Option ℕ → Option ℕ
zero_register (Some n) = if n == 0 then Some 0 else None
zero_register None = None

-- the register of a variable, where it stands in one, or that has its word
abbrev pub local_register : Bool → Facts → ℕ → Option ℕ
local_register true fs n = Some (register_of_variable n)
local_register false fs n = register_holding fs n

-- the register in which it stands with no code
abbrev pub stands_of : Bool → Facts → TExpr → Option ℕ
stands_of b fs (constant k) = zero_register (Some k)
stands_of b fs (local n w) = local_register b fs n
stands_of b fs _ = None

-- the register of a variable that stands nowhere else
abbrev pub own_register : Bool → TExpr → Option ℕ
own_register true (local n w) = Some (register_of_variable n)
own_register _ _ = None
