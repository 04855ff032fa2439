-- The instructions of the primitives that use no page. Arguments stand in USER, NUMBER and VALUE, which are registers 20 to 22, and the answer comes
-- into ANSWER.
use Rattle.std.specs.Prelude.{ℕ, List, [], ◌∷◌, ◌++◌, map}
use Rattle.mips_table.specs.declared.inst.Inst.{Inst}
use Rattle.mips_table.specs.declared.inst.Inst.TheVariants.{Addiu, Sltiu}
use Rattle.mips_table.specs.Encoding.{encoding}
use Rattle.layer_map.specs.declared.entries.TheConstants.{ANSWER}
use Rattle.masm.specs.Blocks.{minus, when_code, when_words}
use Rattle.masm.specs.declared.roles.TheConstants.{ZERO, T0, T1}
use Rattle.cvm_primitives.specs.declared.roles.TheConstants.{USER}
use Rattle.cvm_primitives.specs.declared.parts.TheConstants.{MINUS_ONE, FIND_SIZE}
use Rattle.cvm_primitives.specs.declared.registers.TheConstants.{IS_REGISTER, FIND_WORD, LOAD_WORD, STORE_WORD, PUT, GET, TELL_LEFT}

-- the answer is the bad one first; T0 becomes the number in USER less 1, and T1 isn't 0 where it is a user's
abbrev pub check_user_code : ℕ → ℕ → List Inst
check_user_code bad users = Addiu ANSWER ZERO bad ∷ Addiu T0 USER (minus 1) ∷ Sltiu T1 T0 users ∷ []

-- T1 isn't 0 where NUMBER is that of a register, or 32
abbrev pub is_register_code : List Inst
is_register_code = IS_REGISTER

-- T3 becomes the address of the word of the user's control block that holds this register
abbrev pub find_word_code : List Inst
find_word_code = FIND_WORD

-- the work is done where both arguments are good
abbrev pub check_arguments_code : ℕ → ℕ → List Inst → List Inst
check_arguments_code bad users work = check_user_code bad users ++ when_code T1 (is_register_code ++ when_code T1 (find_word_code ++ work))

-- its words
abbrev pub check_arguments_words : (bad users : ℕ) → List ℕ → List ℕ
check_arguments_words bad users work =
    map encoding (check_user_code bad users) ++ when_words T1 (map encoding is_register_code ++ when_words T1 (map encoding find_word_code ++ work))

-- vm_get
abbrev pub vm_get_code : ℕ → List Inst
vm_get_code users = check_arguments_code MINUS_ONE users LOAD_WORD

-- vm_set
abbrev pub vm_set_code : ℕ → List Inst
vm_set_code users = check_arguments_code 0 users STORE_WORD

-- vm_size
abbrev pub vm_size_code : ℕ → List Inst
vm_size_code users = check_user_code MINUS_ONE users ++ when_code T1 (FIND_SIZE ++ LOAD_WORD)

-- con_put: the port of the log tells its length, and a full log loses what is stored to it
abbrev pub con_put_code : List Inst
con_put_code = PUT

-- con_get
abbrev pub con_get_code : List Inst
con_get_code = GET

-- con_left
abbrev pub con_left_code : List Inst
con_left_code = TELL_LEFT
