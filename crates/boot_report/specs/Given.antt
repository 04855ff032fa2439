-- What is printed of the globals is what the abstract machine's text says of them, where memory holds their words.
use Rattle.std.specs.Prelude.{◌≡◌, List, ℕ, map}
use Rattle.c0_tree.specs.declared.tree.Unit.{Unit as Source}
use Rattle.c0_tree.specs.Primitives.{kernel_primitives}
use Rattle.c0_tree.specs.Tree.{CUnit}
use Rattle.c0_tree.specs.View.{unit_view}
use Rattle.c0_meaning.specs.Env.{typed_of}
use Rattle.c0_meaning.specs.Offsets.{offsets}
use Rattle.c0_meaning.specs.Sound.{shapes}
use Rattle.c0_meaning.specs.State.{C0State}
use Rattle.c0_meaning.specs.TypedState.{types_of, IsTypedState}
use Rattle.c0_meaning.specs.Unit.{IsWellFormed}
use Rattle.layer_map.specs.Map.{Map, globals_at}
use Rattle.cvm_model.specs.Kernel.{flat, parts_of_value}
use Rattle.cvm_model.specs.Stands.{address_of, HoldsWords}
use Rattle.cvm_model.specs.Text.{globals_text}
use Rattle.boot_report.specs.Globals.{globals_rows}

-- how many words behind the first global each of a unit's begins
abbrev pub offsets_of : CUnit → List ℕ
offsets_of u = offsets (shapes u) (types_of (map typed_of u.globals))

-- in memory that holds the words of a typed state's globals their rows are those of their values
abbrev pub GlobalRowsTell : Type 0
GlobalRowsTell = (u : Source) (m : Map) (memory : List ℕ) (s : C0State) → IsWellFormed kernel_primitives (unit_view u) → IsTypedState (unit_view u) s →
    HoldsWords memory (globals_at m) (flat (address_of m s) s.global_values) →
    globals_rows u.globals.items memory (globals_at m) (offsets_of (unit_view u))
    ≡ globals_text (map (λ d. d.name.text) (unit_view u).globals) (parts_of_value s.global_values)
