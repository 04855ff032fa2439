-- A kernel's code in the linked words: where its entry, its functions and its routine stand.
use Rattle.std.specs.Prelude.{◌≡◌, ℕ, ◌+◌, ◌-◌, ◌*◌, ◌<◌, ◌≤◌, nat_lt, if◌then◌else◌, List}
use Rattle.std.specs.Prelude.{◌++◌, length, map, drop, Option, Some, None, slice_get, slice_index, option_map}
use Rattle.std.specs.List.{All}
use Rattle.mips_table.specs.declared.inst.Inst.{Inst}
use Rattle.mips_table.specs.Encoding.{InRange, encoding}
use Rattle.mips_table.specs.Code.{Program}
use Rattle.masm.specs.declared.registers.CodeAddresses.{CodeAddresses}
use Rattle.layer_map.specs.Map.{Map, MapInRange, layer_words, primitives_at, exits_at, globals_at, memory_words}
use Rattle.c0_tree.specs.Tree.{CFunction, CUnit}
use Rattle.c0_meaning.specs.Env.{typed_of}
use Rattle.c0_meaning.specs.Words.{all_words}
use Rattle.c0_meaning.specs.Operators.{KernelFault}
use Rattle.c0_meaning.specs.Sound.{shapes}
use Rattle.c0_meaning.specs.Unit.{IsChecked}
use Rattle.c0_runtime.specs.Code as runtime
use Rattle.c0_expr_code.specs.Scope.{scope_of, exit_of}
use Rattle.c0_stmt_code.specs.Code.{links_of, function_code}
use Rattle.c0_meaning.specs.CallChain.{dispatch_number}
use Rattle.cvm_model.specs.Kernel.{power_of}
use Rattle.cvm_model.specs.KernelMeaning.{fault_of}
use Rattle.cvm_model.specs.Stands.{Site}

-- the instruction at a word from `first` on, of code that begins where the kernel's does
abbrev pub code_from : ℕ → List Inst → ℕ → Option Inst
code_from first code k = if nat_lt k first then None else slice_get code (k - layer_words)

-- the words that such code keeps: itself, and those of memory behind the map's last frame
abbrev pub kept_of : Map → List Inst → List ℕ → ℕ → Option ℕ
kept_of m code words k =
    if nat_lt k (memory_words m) then option_map encoding (code_from layer_words code k) else
    if nat_lt k (length words) then Some (slice_index words k) else
    None

-- this code from `first` on, in a memory of these words; no command is given to the disk
abbrev pub program : Map → ℕ → List Inst → List ℕ → Program
program m first code words = record { code = code_from first code; kept = kept_of m code words; words = length words; count = 0 }

-- a piece of the code stands at a word, behind the code's first instruction
abbrev pub CodeStandsAt : List Inst → ℕ → List Inst → Type 0
CodeStandsAt code k piece =
    (before : List Inst) × (after : List Inst) × (code ≡ before ++ (piece ++ after)) × (k ≡ layer_words + length before) × (1 ≤ length before)

-- The code of a checked unit stands behind a layer's words: its entry first, `dispatch` behind it, and the functions and the routine `new` at their
-- addresses. The globals, the exits of faults and the primitives are where the map and every layer have them.
pub record CodeStands (u : CUnit) (p : CodeAddresses) (y : Site) (code : List Inst) : Type 0 where
  pub checked : IsChecked u
  pub range : MapInRange y.map
  pub code_words : y.map.code_words ≡ length code
  pub global_words : y.map.global_words ≡ all_words (shapes u) (map typed_of u.globals)
  pub long : layer_words ≤ length y.linked
  pub linked : drop layer_words y.linked ≡ map encoding code
  pub in_range : All InRange code
  pub globals : p.globals ≡ 4 * globals_at y.map
  pub exits : (f : KernelFault) → exit_of p f ≡ exits_at - 1 + power_of (fault_of f)
  pub primitives : (n : ℕ) → n < 10 → (links_of p).primitive n ≡ primitives_at + n
  pub below : (n : ℕ) → (links_of p).primitive n < layer_words
  pub rest : List Inst
  pub entry : code ≡ runtime.startup_code p.globals ++ rest
  pub begins : (f : CFunction) → slice_get u.functions (dispatch_number u) ≡ Some f → (links_of p).function (dispatch_number u) ≡ layer_words + 5
  pub functions : (n : ℕ) (f : CFunction) → slice_get u.functions n ≡ Some f
      → CodeStandsAt code ((links_of p).function n) (function_code (scope_of u f p) (links_of p) f)
  pub new_object : CodeStandsAt code (links_of p).new_object runtime.new_routine
