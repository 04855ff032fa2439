-- The laws of the code of expressions: its length, its range, and what its types hang on.
use Rattle.std.specs.Prelude.{◌≡◌, ℕ, ◌+◌, ◌*◌, ◌^◌, ◌<◌, ◌≤◌, Bool, true, length, ◌⊎◌}
use Rattle.c0_tree.specs.Tree.{CExpr, CFunction, CUnit}
use Rattle.mips_table.specs.Encoding.{InRange}
use Rattle.std.specs.List.{All}
use Rattle.c0_tree.specs.Size.{need, nodes}
use Rattle.c0_meaning.specs.Operators.{KernelFault}
use Rattle.c0_meaning.specs.Ty.{Ty}
use Rattle.c0_meaning.specs.Env.{Env}
use Rattle.c0_meaning.specs.Numbered.{HasNumberedType}
use Rattle.masm.specs.declared.registers.CodeAddresses.{CodeAddresses}
use Rattle.masm.specs.CodeAddresses.{AreCodeAddresses}
use Rattle.c0_expr_code.specs.declared.facts.Facts.{Facts}
use Rattle.c0_expr_code.specs.Facts.{IsFreeRegister}
use Rattle.c0_expr_code.specs.Scope.{Scope, scope_of}
use Rattle.c0_expr_code.specs.Code.{store_code, operand_code, operand_register, made, value_code, place_address}
use Rattle.c0_expr_code.specs.Test.{test_code}

-- The code is short: at most 14 words a node, with room for three more behind a place, and 15 for a test; never empty as a test, nor as a value where
-- variables stand in registers, or it goes to none that has a variable's word; and a test's is as long for each distance.
pub record CodesAreShort : Type 0 where
  pub value : (sc : Scope) (fs : Facts) (e : CExpr) (d r : ℕ) → length (value_code sc fs e d r) ≤ 14 * nodes e
  pub operand : (sc : Scope) (fs : Facts) (e : CExpr) (r : ℕ) → length (operand_code (made sc fs e) r) ≤ 14 * nodes e
  pub place : (sc : Scope) (fs : Facts) (e : CExpr) (r : ℕ) → length (place_address sc fs e r).code + 3 ≤ 14 * nodes e
  pub test : (sc : Scope) (fs : Facts) (e : CExpr) (s : Bool) (far r : ℕ) → length (test_code sc fs e s far r) ≤ 15 * nodes e
  pub some : (sc : Scope) (fs : Facts) (e : CExpr) (d r : ℕ) → (sc.in_registers ≡ true) ⊎ IsFreeRegister fs d → 1 ≤ length (value_code sc fs e d r)
  pub test_some : (sc : Scope) (fs : Facts) (e : CExpr) (s : Bool) (far r : ℕ) → 1 ≤ length (test_code sc fs e s far r)
  pub same : (sc : Scope) (fs : Facts) (e : CExpr) (s : Bool) (far other r : ℕ) → length (test_code sc fs e s far r) ≡ length (test_code sc fs e s other r)

-- two environments with the same structs, globals and variables: their functions and primitives may differ
pub record HaveSameNames (a b : Env) : Type 0 where
  pub structs : a.structs ≡ b.structs
  pub globals : a.globals ≡ b.globals
  pub locals : a.locals ≡ b.locals

-- no function and no primitive stands in an expression
abbrev pub NamesAreEnough : Type 0
NamesAreEnough = (a b : Env) → HaveSameNames a b → (e : CExpr) (t : Ty) → HasNumberedType a e t → HasNumberedType b e t

-- each exit is a word that a jump reaches
abbrev pub HasNearExits : Scope → Type 0
HasNearExits sc = (f : KernelFault) → sc.exit f < 2 ^ 26

-- a law: where jumps reach the addresses, so are the exits of a function's scope
abbrev pub ExitsAreNear : Type 0
ExitsAreNear = (u : CUnit) (f : CFunction) (addresses : CodeAddresses) → AreCodeAddresses addresses → HasNearExits (scope_of u f addresses)

-- Where the exits lie in the part that jumps reach, all code is in range, for every expression: of values, operands, places, stores and tests, with
-- registers enough for the expression's need.
pub record CodesInRange : Type 0 where
  pub value : (sc : Scope) → HasNearExits sc → (fs : Facts) (e : CExpr) (d r : ℕ) → d < 32 → r + need e ≤ 32 → All InRange (value_code sc fs e d r)
  pub operand : (sc : Scope) → HasNearExits sc → (fs : Facts) (e : CExpr) (r : ℕ) → r + need e ≤ 32 → All InRange (operand_code (made sc fs e) r)
  pub register : (sc : Scope) → HasNearExits sc → (fs : Facts) (e : CExpr) (r : ℕ) → r + need e ≤ 32 → operand_register (made sc fs e) r < 32
  pub place : (sc : Scope) → HasNearExits sc → (fs : Facts) (e : CExpr) (r : ℕ) → r + need e ≤ 32 → All InRange (place_address sc fs e r).code
  pub store : (sc : Scope) → HasNearExits sc → (fs : Facts) (e : CExpr) (q r : ℕ) → q < 32 → r + need e ≤ 32
      → All InRange (store_code q r (place_address sc fs e r))
  pub test : (sc : Scope) → HasNearExits sc → (fs : Facts) (e : CExpr) (s : Bool) (far r : ℕ) → far < 2 ^ 16 → r + need e ≤ 32
      → All InRange (test_code sc fs e s far r)
