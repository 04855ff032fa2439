-- Small systems over a layer without code, whose machines stand for their starts.
use Rattle.std.specs.Prelude.{◌≡◌, codes, true, ℕ, ◌+◌, ◌-◌, ◌*◌, ◌/◌, ◌%◌, ◌==◌, ◌&&◌, nat_le, if◌then◌else◌, List, [], ◌∷◌, ◌++◌, map, replicate, slice_index}
use Rattle.std.specs.List.{range_with_len}
use Rattle.mips_table.specs.Device.{Environment}
use Rattle.mips_table.specs.Machine.{State}
use Rattle.mips_table.specs.Samples.{overflowing}
use Rattle.layer_map.specs.Samples.{small_params}
use Rattle.layer_map.specs.Map.{Map, layer_words, heap_words_at, heap_first_at, stack_first_at, stack_limit_at, heap_at, stack_at, blocks_at}
use Rattle.layer_map.specs.declared.places.TheConstants.{BLOCK_SIZE, BLOCK_WORDS}
use Rattle.page_model.specs.Paging.{Paged, MapsTo}
use Rattle.c0_tree.specs.declared.tree.Kind.{Kind}
use Rattle.c0_tree.specs.declared.tree.Kind.TheVariants.{Global, Local, Function}
use Rattle.c0_tree.specs.Tree.{CDecl, CUnit, code, num, done}
use Rattle.c0_tree.specs.Tree as tree
use Rattle.c0_meaning.specs.Bare.{z}
use Rattle.cvm_model.specs.Cvm.{System, Running, first_core}
use Rattle.cvm_model.specs.Stands.{RunningRelation, runs_user}
use Rattle.cvm_model.specs.KernelMeaning.{kernel_meaning}
use Rattle.cvm_model.specs.Paged.{paged_of}
use Rattle.layer_contract.specs.Follows.{site_of}

-- Word k of a layer without code: what its variables and control blocks hold at load.
abbrev pub plain_word : Map → List ℕ → ℕ → ℕ
plain_word m sizes k =
    if k == heap_words_at then m.params.heap else
    if k == heap_first_at then 4 * heap_at m else
    if k == stack_first_at then 4 * stack_at m else
    if k == stack_limit_at then 4 * (stack_at m + m.params.stack) else
    if nat_le blocks_at k && k % BLOCK_WORDS == BLOCK_SIZE then slice_index sizes ((k - blocks_at) / BLOCK_WORDS) else
    0

unfoldable pub plain_layer : Map → List ℕ → List ℕ
plain_layer m sizes = map (plain_word m sizes) (range_with_len 0 layer_words)

-- a declaration of an int
abbrev pub an_int : List ℕ → Kind → ℕ → CDecl
an_int text kind n = record { ty = tree.int; ty_span = z; name = record { text = text; span = z; kind = kind; number = n } }

-- int n; int dispatch(int cause, int data, int user) { return 0; }
abbrev pub halting : CUnit
halting = record {
  length = 0;
  structs = [];
  globals = an_int (codes "n") Global 0 ∷ [];
  functions = record {
    answer = tree.int;
    answer_span = z;
    name = record { text = codes "dispatch"; span = z; kind = Function; number = 0 };
    params = an_int (codes "cause") Local 0 ∷ an_int (codes "data") Local 1 ∷ an_int (codes "user") Local 2 ∷ [];
    body = code [] done (num z 0);
  } ∷ [];
}

-- one user of a page over such a layer, with the kernel above and 100 words of its code
abbrev pub plain_map : Map
plain_map = record { params = small_params; users = 1; code_words = 100; global_words = 1 }

abbrev pub plain_system : System
plain_system = record {
  boot = record {
    params = small_params;
    meaning = kernel_meaning halting small_params;
    words = plain_layer plain_map (1 ∷ []) ++ replicate 100 0;
    users = overflowing ∷ [];
  };
  input = [];
  longest = 0;
}

-- there is a state that stands for the start of a run, and one in user mode that stands for user 1 at its start
pub record AStateStands (x : Environment) : Type 0 where
  pub first : State
  pub stands : RunningRelation x (site_of plain_system.boot) first Running (first_core plain_system)
  pub user : State
  pub runs : runs_user user ≡ true
  pub user_stands : RunningRelation x (site_of plain_system.boot) user Running (record (first_core plain_system) { current = 1 })

-- Two users over two frames. The first has four pages: two begin with a system call, one is zeros, and the last begins with 9.
abbrev pub spread_word : ℕ → ℕ
spread_word k = if k == 0 then 12 else if k == 1024 then 12 else if k == 3072 then 9 else 0

-- the second has one page, which begins with a system call
abbrev pub spread_map : Map
spread_map = record { params = record small_params { frames = 2 }; users = 2; code_words = 100; global_words = 1 }

abbrev pub spread_system : System
spread_system = record {
  boot = record {
    params = record small_params { frames = 2 };
    meaning = kernel_meaning halting (record small_params { frames = 2 });
    words = plain_layer spread_map (4 ∷ 1 ∷ []) ++ replicate 100 0;
    users = map spread_word (range_with_len 0 3073) ∷ (12 ∷ []) ∷ [];
  };
  input = [];
  longest = 0;
}

-- pages in all places: page 0 of user 1 has a frame of its own, its page 1 and page 0 of user 2 share one, its page 2 has the zero frame, and
-- its page 3 stands in its sector
pub record AreSpread (a : Paged) : Type 0 where
  pub own : MapsTo (a.entry 0) 23
  pub shared : MapsTo (a.entry 1) 24
  pub shared_too : MapsTo (a.entry 4) 24
  pub zero : MapsTo (a.entry 2) 22
  pub swapped : a.entry 3 ≡ 0

-- a state with such pages that stands for the start of a run of two users
pub record ASpreadStateStands (x : Environment) : Type 0 where
  pub state : State
  pub stands : RunningRelation x (site_of spread_system.boot) state Running (first_core spread_system)
  pub spread : AreSpread (paged_of spread_map state)
