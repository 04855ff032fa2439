-- What is known of the code of a unit.
use Rattle.std.specs.Prelude.{◌≡◌, ℕ, ◌+◌, ◌*◌, ◌/◌, ◌<◌, ◌≤◌, All, List, ◌++◌, length, Some, slice_get}
use Rattle.mips_table.specs.declared.inst.Inst.{Inst}
use Rattle.mips_table.specs.Encoding.{InRange}
use Rattle.masm.specs.declared.registers.CodeAddresses.{CodeAddresses}
use Rattle.masm.specs.CodeAddresses.{AreCodeAddresses}
use Rattle.layer_map.specs.Map.{layer_words, primitives_at, exits_at}
use Rattle.c0_tree.specs.declared.tree.Unit.{Unit as Source}
use Rattle.c0_tree.specs.Primitives.{CPrimitive}
use Rattle.c0_tree.specs.Tree.{CFunction, CUnit}
use Rattle.c0_tree.specs.View.{unit_view}
use Rattle.c0_meaning.specs.Limits.{all_nodes}
use Rattle.c0_meaning.specs.Operators.{KernelFault}
use Rattle.c0_meaning.specs.Unit.{IsWellFormed}
use Rattle.c0_runtime.specs.declared.runtime.TheConstants.{NEW_OBJECT, MULTIPLY, DIVIDE, REMAINDER}
use Rattle.c0_runtime.specs.Code.{startup_code, new_routine, multiply_code, divide_code, remainder_code, zero_exit}
use Rattle.c0_expr_code.specs.Scope.{exit_number, exit_of, scope_of}
use Rattle.c0_stmt_code.specs.Code.{links_of, function_code}
use Rattle.c0_unit.specs.Code.{fault_exits, primitive_entries, functions_at, routines_at, function_starts, code_words, globals_start, unit_code}

-- the addresses of code in which functions have these addresses, the routines begin at this word, and the globals at this address
pub record AreAddressesAt (p : CodeAddresses) (starts : List ℕ) (routines globals : ℕ) : Type 0 where
  pub globals_at : p.globals ≡ globals
  pub faults : p.faults ≡ fault_exits
  pub multiply : p.multiply ≡ 4 * (routines + MULTIPLY)
  pub divide : p.divide ≡ 4 * (routines + DIVIDE)
  pub remainder : p.remainder ≡ 4 * (routines + REMAINDER)
  pub new_object : p.new_object ≡ 4 * (routines + NEW_OBJECT)
  pub functions : p.functions.items ≡ starts
  pub primitives : p.primitives.items ≡ primitive_entries

-- the addresses of a unit whose first function is that of this number
abbrev pub AreAddressesOf : CUnit → (first : ℕ) → CodeAddresses → Type 0
AreAddressesOf u first p = AreAddressesAt p (function_starts u first) (routines_at u) (globals_start u)

-- code stands in a unit's code at a word of memory, behind the unit's first instruction
pub record StandsIn (u : CUnit) (first at : ℕ) (code : List Inst) : Type 0 where
  pub before : List Inst
  pub after : List Inst
  pub is : unit_code u first ≡ before ++ (code ++ after)
  pub from : at ≡ layer_words + length before
  pub behind : 1 ≤ length before

-- Where the parts of a unit's code stand, by its addresses: the entry first, and its first function behind that; the routines at their addresses, and the
-- routine `new` and each function where calls go. All of its instructions are in range.
pub record UnitStands (u : CUnit) (first : ℕ) (p : CodeAddresses) : Type 0 where
  pub rest : List Inst
  pub entry : unit_code u first ≡ startup_code p.globals ++ rest
  pub begins : (f : CFunction) → slice_get u.functions first ≡ Some f → (links_of p).function first ≡ functions_at
  pub new_object : StandsIn u first (links_of p).new_object new_routine
  pub multiply : StandsIn u first (p.multiply / 4) multiply_code
  pub divide : StandsIn u first (p.divide / 4) (divide_code (zero_exit p))
  pub remainder : StandsIn u first (p.remainder / 4) (remainder_code (zero_exit p))
  pub functions : (n : ℕ) (f : CFunction) → slice_get u.functions n ≡ Some f
      → StandsIn u first ((links_of p).function n) (function_code (scope_of u f p) (links_of p) f)
  pub words : length (unit_code u first) ≡ code_words u
  pub in_range : All InRange (unit_code u first)
  pub exits : (fault : KernelFault) → exit_of p fault ≡ exits_at + exit_number fault
  pub primitives : (n : ℕ) → n < 10 → (links_of p).primitive n ≡ primitives_at + n
  pub below : (n : ℕ) → (links_of p).primitive n < layer_words

-- a law: the code of a well-formed unit stands so, by the unit's addresses, whatever its first function is
abbrev pub UnitsStand : Type 0
UnitsStand = (table : List CPrimitive) (u : CUnit) → IsWellFormed table u → (first : ℕ) (p : CodeAddresses) → AreAddressesOf u first p → UnitStands u first p

-- a law: each well-formed tree has its addresses, whether it stands in memory or not; and so has each well-formed unit
abbrev pub TreesHaveAddresses : Type 0
TreesHaveAddresses = (table : List CPrimitive) (u : CUnit) → IsWellFormed table u → (first : ℕ) → (p : CodeAddresses)
    × AreAddressesOf u first p × AreCodeAddresses p

abbrev pub UnitsHaveAddresses : Type 0
UnitsHaveAddresses = (table : List CPrimitive) (s : Source) → IsWellFormed table (unit_view s) → (first : ℕ) → (p : CodeAddresses)
    × AreAddressesOf (unit_view s) first p × AreCodeAddresses p

-- a law: a unit's code has at most 512 words, and 32 for each node
abbrev pub UnitsAreShort : Type 0
UnitsAreShort = (u : CUnit) → code_words u ≤ 512 + 32 * all_nodes u.functions
