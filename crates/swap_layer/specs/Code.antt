-- A frame goes to a sector, and a sector comes to a frame: the instructions.
use Rattle.std.specs.Prelude.{ℕ, List, [], ◌∷◌, ◌++◌}
use Rattle.mips_table.specs.declared.inst.Inst.{Inst}
use Rattle.mips_table.specs.declared.inst.Inst.TheVariants.{Addiu, Sw}
use Rattle.masm.specs.Blocks.{loop_code}
use Rattle.masm.specs.Wait.{wait_code}
use Rattle.masm.specs.declared.addresses.TheConstants.{SECTOR, COMMAND, READ_SECTOR, WRITE_SECTOR}
use Rattle.masm.specs.declared.roles.TheConstants.{ZERO, WORDS, ORDER, PAGE, OUT_PAGE}
use Rattle.swap_layer.specs.declared.swap.TheConstants.{MOVE_EIGHT_WORDS, FROM_FRAME_TO_BUFFER, FROM_BUFFER, TO_FRAME}

-- MOVE: from the address in SOURCE to that in TARGET, eight words a turn
abbrev pub move_words_code : List Inst
move_words_code = loop_code [] WORDS MOVE_EIGHT_WORDS

-- a register names the sector, and ORDER becomes the command
abbrev pub name_sector_code : (sector order : ℕ) → List Inst
name_sector_code sector order = Sw sector ZERO SECTOR ∷ Addiu ORDER ZERO order ∷ []

-- the command in ORDER is given, and its end waited for
abbrev pub give_command_code : List Inst
give_command_code = Sw ORDER ZERO COMMAND ∷ wait_code

-- both
abbrev pub run_disk_command_code : (sector order : ℕ) → List Inst
run_disk_command_code sector order = name_sector_code sector order ++ give_command_code

-- SWAP OUT: the frame at the address in VICTIM_AT goes to the sector of OUT_PAGE
abbrev pub swap_out_code : List Inst
swap_out_code = FROM_FRAME_TO_BUFFER ++ (move_words_code ++ run_disk_command_code OUT_PAGE WRITE_SECTOR)

-- the sector of PAGE comes into the buffer, whose address SOURCE becomes
abbrev pub read_sector_code : List Inst
read_sector_code = run_disk_command_code PAGE READ_SECTOR ++ FROM_BUFFER

-- the 1,024 words at the address in SOURCE come into the frame at that in VICTIM_AT
abbrev pub copy_to_frame_code : List Inst
copy_to_frame_code = TO_FRAME ++ move_words_code

-- SWAP IN: both
abbrev pub swap_in_code : List Inst
swap_in_code = read_sector_code ++ copy_to_frame_code
