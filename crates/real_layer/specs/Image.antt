-- The layer's words, as they stand in memory from word 0 on: the handler of interrupts, the layer's variables, the entries with the routines
-- behind them, and the control blocks.
use Rattle.std.specs.Prelude.{◌≡◌, ℕ, ◌+◌, ◌-◌, ◌*◌, List, [], ◌∷◌, ◌++◌, length, map, take, replicate, slice_index_or, flat_map}
use Rattle.std.specs.List.{range_with_len}
use Rattle.mips_table.specs.declared.inst.Inst.{Inst}
use Rattle.mips_table.specs.declared.inst.Inst.TheVariants.{J, Jr}
use Rattle.mips_table.specs.Encoding.{encoding}
use Rattle.layer_map.specs.Map.{Map, MapInRange, block_at, current_at, heap_at, layer_words, leave_at, primitives_at, stack_at, variables_end}
use Rattle.layer_map.specs.declared.places.TheConstants.{BLOCK_SIZE, BLOCK_WORDS}
use Rattle.masm.specs.declared.registers.TheConstants.{RETURN}
use Rattle.page_model.specs.TableLayout.{table_layout}
use Rattle.page_fault.specs.Code.{handle_page_code}
use Rattle.trap_entry.specs.Code.{handler_code, act_on_answer_code, exit_with_code}
use Rattle.cvm_model.specs.declared.kernel_fault.KernelFault.{KernelFault}
use Rattle.cvm_model.specs.declared.kernel_fault.KernelFault.TheVariants.{NullUse, Bounds, DivZero, StackOut}
use Rattle.cvm_model.specs.Kernel.{power_of}
use Rattle.cvm_model.specs.Stands.{Site}
use Rattle.layer_contract.specs.Layer.{site_with}
use Rattle.cvm_primitives.specs.RegisterCode.{vm_get_code, vm_set_code, vm_size_code, con_put_code, con_get_code, con_left_code}
use Rattle.cvm_primitives.specs.Code.{vm_word_code, vm_put_code, vm_copy_code, vm_resize_code}

-- an interrupt goes to word 0, where its handler stands
unfoldable pub interrupt_code : Map → List Inst
interrupt_code m = handler_code (table_layout m) (handle_page_code (table_layout m))

-- a primitive goes back to the address in RETURN
abbrev pub returning : List Inst → List Inst
returning is = is ++ Jr RETURN ∷ []

-- the exit of a kernel's fault
abbrev pub fault_exit : KernelFault → List Inst
fault_exit f = exit_with_code (power_of f)

-- The routines, in the order of their entries: the ten primitives as their table has them, the exits of the four faults, and what follows
-- an answer of `dispatch`.
unfoldable pub routines : Map → List (List Inst)
routines m =
    let p = table_layout m in
    let n = m.users in
    let per = m.params.pages in
    let page = handle_page_code (table_layout m) in
    returning (vm_get_code n) ∷ returning (vm_set_code n) ∷ returning (vm_size_code n)
    ∷ returning (vm_resize_code p n per) ∷ returning (vm_word_code p n per page) ∷ returning (vm_put_code p n per page) ∷ returning (vm_copy_code p n per page)
    ∷ returning con_put_code ∷ returning con_get_code ∷ returning con_left_code
    ∷ fault_exit NullUse ∷ fault_exit Bounds ∷ fault_exit DivZero ∷ fault_exit StackOut
    ∷ act_on_answer_code p n per ∷ []

-- lists of instructions one after the other
abbrev pub code_joined : List (List Inst) → List Inst
code_joined blocks = flat_map (λ is. is) blocks

-- the code of routine k
abbrev pub routine : Map → ℕ → List Inst
routine m k = slice_index_or (routines m) k []

-- the word behind the last entry, which is that of the routine by which a unit's code leaves
abbrev pub entries_end : ℕ
entries_end = leave_at + 1

-- routine k begins behind the entries and the routines before it
abbrev pub routine_at : Map → ℕ → ℕ
routine_at m k = entries_end + length (code_joined (take k (routines m)))

-- an entry is a jump to its routine
abbrev pub entries : Map → List Inst
entries m = map (λ k. J (routine_at m k)) (range_with_len 0 (entries_end - primitives_at))

-- words with zeros behind them, so many in all
abbrev pub zero_padded : ℕ → List ℕ → List ℕ
zero_padded n words = words ++ replicate (n - length words) 0

-- the layer's variables from the current user on: current user, hand, words used of the heap, its size and first address, first
-- address of the stack, and the address behind it
abbrev pub layer_variables : Map → List ℕ
layer_variables m = 0 ∷ 0 ∷ 0 ∷ m.params.heap ∷ 4 * heap_at m ∷ 4 * stack_at m ∷ 4 * (stack_at m + m.params.stack) ∷ []

-- a control block at load: BLOCK_WORDS words, all 0 but for the size
abbrev pub block_words : ℕ → List ℕ
block_words pages = replicate BLOCK_SIZE 0 ++ pages ∷ replicate (BLOCK_WORDS - 1 - BLOCK_SIZE) 0

abbrev pub blocks : List ℕ → List ℕ
blocks [] = []
blocks (pages ∷ sizes) = block_words pages ++ blocks sizes

-- the entries, and the routines behind them
abbrev pub second_code : Map → List Inst
second_code m = entries m ++ code_joined (routines m)

-- THE IMAGE of a layer made for a map, and for users of these sizes in pages: the handler up to the current user, variables, entries and routines up
-- to the control blocks, and these
abbrev pub layer_image : Map → List ℕ → List ℕ
layer_image m sizes =
    zero_padded current_at (map encoding (interrupt_code m)) ++ (zero_padded (variables_end - current_at) (layer_variables m)
    ++ (zero_padded (block_at 1 - primitives_at) (map encoding (second_code m)) ++ zero_padded (layer_words - block_at 1) (blocks sizes)))

-- the memory of a layer made for this map and these users, with a kernel's code behind it
abbrev pub image_site : Map → (sizes code : List ℕ) → Site
image_site m sizes code = site_with m (layer_image m sizes) code

-- what is fixed of it: a map in range, a size for each user, and as much code as the map says
pub record IsMade (m : Map) (sizes code : List ℕ) : Type 0 where
  pub range : MapInRange m
  pub users : length sizes ≡ m.users
  pub whole : length code ≡ m.code_words
