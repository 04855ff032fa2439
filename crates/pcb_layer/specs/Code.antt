-- Saving and restoring a user: the instructions.
use Rattle.std.specs.Prelude.{ℕ, zero, suc, ◌+◌, ◌-◌, ◌*◌, List, [], ◌∷◌, ◌++◌}
use Rattle.mips_table.specs.declared.inst.Inst.{Inst}
use Rattle.mips_table.specs.declared.inst.Inst.TheVariants.{Lw, Sw}
use Rattle.layer_map.specs.Map.{variables_at}
use Rattle.masm.specs.declared.registers.TheConstants.{SCRATCH}
use Rattle.masm.specs.declared.roles.TheConstants.{ZERO, BLOCK}
use Rattle.pcb_layer.specs.declared.blocks.TheConstants.{FIND_CONTROL_BLOCK, SAVE_SPECIAL, RESTORE_SPECIAL}

-- the word of the save area that register r, 1 to 31, is saved in: register 1's is the first of the layer's further variables
abbrev pub saved_at : ℕ → ℕ
saved_at r = variables_at - 1 + r

-- the first n registers, from register 1 on, go to the save area
abbrev pub save_registers_code : ℕ → List Inst
save_registers_code zero = []
save_registers_code (suc n) = save_registers_code n ++ (Sw (n + 1) ZERO (4 * saved_at (n + 1)) ∷ [])

-- the first n registers are loaded from the words behind an offset from a base register
abbrev pub load_registers_code : (base offset n : ℕ) → List Inst
load_registers_code base offset zero = []
load_registers_code base offset (suc n) = load_registers_code base offset n ++ (Lw (n + 1) base (4 * (offset + (n + 1))) ∷ [])

-- they come back from the save area
abbrev pub restore_registers_code : ℕ → List Inst
restore_registers_code n = load_registers_code ZERO (saved_at 0) n

-- BLOCK becomes the address of the current user's control block
abbrev pub find_control_block_code : List Inst
find_control_block_code = FIND_CONTROL_BLOCK

-- the first n saved registers go to the control block at the address in BLOCK
abbrev pub save_context_code : ℕ → List Inst
save_context_code zero = []
save_context_code (suc n) = save_context_code n ++ (Lw SCRATCH ZERO (4 * saved_at (n + 1)) ∷ Sw SCRATCH BLOCK (4 * (n + 1)) ∷ [])

-- SAVE USER: the saved registers, epc, hi and lo go to the current user's control block
abbrev pub save_user_code : List Inst
save_user_code = find_control_block_code ++ (save_context_code 31 ++ SAVE_SPECIAL)

-- RESTORE USER: all of the current user's comes from its control block, register 31 as the last
abbrev pub restore_user_code : List Inst
restore_user_code = find_control_block_code ++ (RESTORE_SPECIAL ++ load_registers_code BLOCK 0 31)
