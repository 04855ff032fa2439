-- The way into the kernel and out of it: the instructions.
use Rattle.std.specs.Prelude.{ℕ, ◌*◌, ◌/◌, List, [], ◌∷◌, ◌++◌}
use Rattle.mips_table.specs.declared.inst.Inst.{Inst}
use Rattle.mips_table.specs.declared.inst.Inst.TheVariants.{Sll, Addu, Addiu, Sltiu, J, Sw, Multu, Mflo, Mtc0, Eret}
use Rattle.layer_map.specs.declared.entries.TheConstants.{ANSWER}
use Rattle.layer_map.specs.declared.places.TheConstants.{CURRENT}
use Rattle.masm.specs.Blocks.{minus, load_immediate_code, when_code}
use Rattle.mips_table.specs.declared.special.TheConstants.{PTO}
use Rattle.masm.specs.declared.addresses.TheConstants.{POWER}
use Rattle.masm.specs.declared.roles.TheConstants.{T0, T1, T2, ZERO}
use Rattle.page_model.specs.TableLayout.{TableLayout}
use Rattle.pcb_layer.specs.Code.{save_registers_code, restore_registers_code, find_control_block_code, save_user_code, restore_user_code}
use Rattle.trap_entry.specs.declared.handler.TheConstants.{KERNEL, IS_PAGE_FAULT, FAULTING_PAGE, NUMBER_OVER_USERS, CAUSE, DISPATCH_ARGUMENTS}
use Rattle.trap_entry.specs.declared.leaving.TheConstants.{BAD_USER, SET_USER_LIMITS}

-- T0 becomes 1 where the cause is a fetch or data fault and its page is below the current user's size, and else 0
abbrev pub is_page_fault_code : List Inst
is_page_fault_code = IS_PAGE_FAULT

-- the registers are saved, and it is decided
abbrev pub save_and_classify_code : List Inst
save_and_classify_code = save_registers_code 31 ++ is_page_fault_code

-- PAGE becomes the number of the page that the fault concerns, and FOR_STORE asks for it to be stored to
abbrev pub find_faulting_page_code : TableLayout → List Inst
find_faulting_page_code p = FAULTING_PAGE ++ (load_immediate_code T2 (4 * p.tables) ++ NUMBER_OVER_USERS)

-- a handled fault, up to the eret: page is the block that brings in a page
abbrev pub handle_page_fault_code : TableLayout → List Inst → List Inst
handle_page_fault_code p page = find_faulting_page_code p ++ (page ++ restore_registers_code 31)

-- the cause, what it concerns, and the current user become the arguments of `dispatch`
abbrev pub load_dispatch_arguments_code : List Inst
load_dispatch_arguments_code = DISPATCH_ARGUMENTS

-- a user is kept, which all causes but the reset interrupt
abbrev pub enter_kernel_code : List Inst
enter_kernel_code = CAUSE ++ (when_code T0 save_user_code ++ load_dispatch_arguments_code)

-- HANDLER: a handled fault goes back to the user, and all else to `dispatch`
abbrev pub handler_code : TableLayout → List Inst → List Inst
handler_code p page = save_and_classify_code ++ (when_code T0 (handle_page_fault_code p page ++ Eret ∷ []) ++ (enter_kernel_code ++ J (KERNEL / 4) ∷ []))

-- the user in ANSWER becomes the current one, and T1 the offset of its page table; a user has up to so many pages
abbrev pub set_current_user_code : (per : ℕ) → List Inst
set_current_user_code per = Sw ANSWER ZERO CURRENT ∷ Addiu T1 ANSWER (minus 1) ∷ Addiu T2 ZERO per ∷ Multu T1 T2 ∷ Mflo T1 ∷ Sll T1 T1 2 ∷ []

-- and its page table is the one that is used
abbrev pub switch_page_table_code : TableLayout → (per : ℕ) → List Inst
switch_page_table_code p per = (set_current_user_code per ++ load_immediate_code T2 (4 * p.tables)) ++ (Addu T1 T1 T2 ∷ Mtc0 T1 PTO ∷ [])

-- its size, from the control block at the address in BLOCK, and, behind the eret, interrupts and user mode
abbrev pub set_user_limits_code : List Inst
set_user_limits_code = SET_USER_LIMITS

-- all of it, up to the eret
abbrev pub return_to_user_code : TableLayout → (per : ℕ) → List Inst
return_to_user_code p per = switch_page_table_code p per ++ (find_control_block_code ++ (set_user_limits_code ++ restore_user_code))

-- EXIT: the power becomes the fault's
abbrev pub exit_with_code : ℕ → List Inst
exit_with_code power = Addiu T0 ZERO power ∷ Sw T0 ZERO POWER ∷ []

-- LEAVE: the answer of `dispatch`, in ANSWER, is 0, a user's number, or neither
abbrev pub act_on_answer_code : TableLayout → (users per : ℕ) → List Inst
act_on_answer_code p users per = (Sltiu T0 ANSWER 1 ∷ [])
    ++ (when_code T0 (Sw ZERO ZERO POWER ∷ [])
    ++ ((Addiu T1 ANSWER (minus 1) ∷ Sltiu T1 T1 users ∷ []) ++ (when_code T1 (return_to_user_code p per ++ Eret ∷ []) ++ exit_with_code BAD_USER)))
