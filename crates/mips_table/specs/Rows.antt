-- The rows of the instruction table, and what makes them right.
use Rattle.std.specs.Prelude.{◌≡◌, Some, slice_get, ℕ, ◌/◌, ◌%◌, ◌^◌, ◌<◌, ◌≤◌, Bool, true, false}
use Rattle.std.specs.Prelude.{not, ◌&&◌, ◌||◌, ◌==◌, List, [], ◌∷◌, bit_and, IsTrue, IsSomeAnd, All, codes}
use Rattle.mips_table.specs.declared.inst.Inst.{Inst}
use Rattle.mips_table.specs.declared.inst.Inst.TheVariants.{Sll, Srl, Sra, Sllv, Srlv, Srav, Jr, Jalr, Syscall, Add, Addu, Sub, Subu, And, Or, Xor}
use Rattle.mips_table.specs.declared.inst.Inst.TheVariants.{Nor, Slt, Sltu, Bltz, Bgez, J, Jal, Beq, Bne, Blez, Bgtz, Addi, Addiu, Slti, Sltiu, Andi}
use Rattle.mips_table.specs.declared.inst.Inst.TheVariants.{Ori, Xori, Lui, Mfc0, Mtc0, Eret, Lw, Sw, Mult, Multu, Div, Divu, Mfhi, Mthi, Mflo, Mtlo}
use Rattle.mips_table.specs.declared.table.Row.{Row}
use Rattle.mips_table.specs.Encoding.{InRange, encoding}
use Rattle.mips_table.specs.Decoding.{decoding}

-- whether some word may be in both rows
abbrev pub rows_overlap : Row → Row → Bool
rows_overlap a b = bit_and a.value b.mask == bit_and b.value a.mask

-- whether no word is in this row and in one of the others
abbrev pub apart_from : Row → List Row → Bool
apart_from a [] = true
apart_from a (b ∷ rows) = not (rows_overlap a b) && apart_from a rows

-- whether no word is in two rows
abbrev pub rows_apart : List Row → Bool
rows_apart [] = true
rows_apart (a ∷ rows) = apart_from a rows && rows_apart rows

-- whether two texts are the same
abbrev pub same_text : List ℕ → List ℕ → Bool
same_text [] [] = true
same_text [] (b ∷ bs) = false
same_text (a ∷ xs) [] = false
same_text (a ∷ xs) (b ∷ bs) = (a == b) && same_text xs bs

-- whether no other row has this row's mnemonic
abbrev pub name_not_in : Row → List Row → Bool
name_not_in a [] = true
name_not_in a (b ∷ rows) = not (same_text a.mnemonic.now b.mnemonic.now) && name_not_in a rows

-- whether no mnemonic stands twice
abbrev pub mnemonics_apart : List Row → Bool
mnemonics_apart [] = true
mnemonics_apart (a ∷ rows) = name_not_in a rows && mnemonics_apart rows

-- a word whose bits under the mask are the value
abbrev pub Belongs : ℕ → Row → Type 0
Belongs word row = bit_and word row.mask ≡ row.value

-- no word is in two rows
pub record OneRow (rows : List Row) : Type 0 where
  pub same : (word j k : ℕ) (a b : Row) → slice_get rows j ≡ Some a → slice_get rows k ≡ Some b → Belongs word a → Belongs word b → j ≡ k

-- the mnemonic of an instruction
abbrev pub mnemonic_of : Inst → List ℕ
mnemonic_of (Sll _ _ _) = codes "sll"
mnemonic_of (Srl _ _ _) = codes "srl"
mnemonic_of (Sra _ _ _) = codes "sra"
mnemonic_of (Sllv _ _ _) = codes "sllv"
mnemonic_of (Srlv _ _ _) = codes "srlv"
mnemonic_of (Srav _ _ _) = codes "srav"
mnemonic_of (Jr _) = codes "jr"
mnemonic_of (Jalr _ _) = codes "jalr"
mnemonic_of (Syscall _) = codes "syscall"
mnemonic_of (Add _ _ _) = codes "add"
mnemonic_of (Addu _ _ _) = codes "addu"
mnemonic_of (Sub _ _ _) = codes "sub"
mnemonic_of (Subu _ _ _) = codes "subu"
mnemonic_of (And _ _ _) = codes "and"
mnemonic_of (Or _ _ _) = codes "or"
mnemonic_of (Xor _ _ _) = codes "xor"
mnemonic_of (Nor _ _ _) = codes "nor"
mnemonic_of (Slt _ _ _) = codes "slt"
mnemonic_of (Sltu _ _ _) = codes "sltu"
mnemonic_of (Bltz _ _) = codes "bltz"
mnemonic_of (Bgez _ _) = codes "bgez"
mnemonic_of (J _) = codes "j"
mnemonic_of (Jal _) = codes "jal"
mnemonic_of (Beq _ _ _) = codes "beq"
mnemonic_of (Bne _ _ _) = codes "bne"
mnemonic_of (Blez _ _) = codes "blez"
mnemonic_of (Bgtz _ _) = codes "bgtz"
mnemonic_of (Addi _ _ _) = codes "addi"
mnemonic_of (Addiu _ _ _) = codes "addiu"
mnemonic_of (Slti _ _ _) = codes "slti"
mnemonic_of (Sltiu _ _ _) = codes "sltiu"
mnemonic_of (Andi _ _ _) = codes "andi"
mnemonic_of (Ori _ _ _) = codes "ori"
mnemonic_of (Xori _ _ _) = codes "xori"
mnemonic_of (Lui _ _) = codes "lui"
mnemonic_of (Mfc0 _ _) = codes "mfc0"
mnemonic_of (Mtc0 _ _) = codes "mtc0"
mnemonic_of Eret = codes "eret"
mnemonic_of (Lw _ _ _) = codes "lw"
mnemonic_of (Sw _ _ _) = codes "sw"
mnemonic_of (Mult _ _) = codes "mult"
mnemonic_of (Multu _ _) = codes "multu"
mnemonic_of (Div _ _) = codes "div"
mnemonic_of (Divu _ _) = codes "divu"
mnemonic_of (Mfhi _) = codes "mfhi"
mnemonic_of (Mthi _) = codes "mthi"
mnemonic_of (Mflo _) = codes "mflo"
mnemonic_of (Mtlo _) = codes "mtlo"

-- the place of an instruction's row in the table
abbrev pub row_index : Inst → ℕ
row_index (Sll _ _ _) = 0
row_index (Srl _ _ _) = 1
row_index (Sra _ _ _) = 2
row_index (Sllv _ _ _) = 3
row_index (Srlv _ _ _) = 4
row_index (Srav _ _ _) = 5
row_index (Jr _) = 6
row_index (Jalr _ _) = 7
row_index (Syscall _) = 8
row_index (Add _ _ _) = 9
row_index (Addu _ _ _) = 10
row_index (Sub _ _ _) = 11
row_index (Subu _ _ _) = 12
row_index (And _ _ _) = 13
row_index (Or _ _ _) = 14
row_index (Xor _ _ _) = 15
row_index (Nor _ _ _) = 16
row_index (Slt _ _ _) = 17
row_index (Sltu _ _ _) = 18
row_index (Bltz _ _) = 19
row_index (Bgez _ _) = 20
row_index (J _) = 21
row_index (Jal _) = 22
row_index (Beq _ _ _) = 23
row_index (Bne _ _ _) = 24
row_index (Blez _ _) = 25
row_index (Bgtz _ _) = 26
row_index (Addi _ _ _) = 27
row_index (Addiu _ _ _) = 28
row_index (Slti _ _ _) = 29
row_index (Sltiu _ _ _) = 30
row_index (Andi _ _ _) = 31
row_index (Ori _ _ _) = 32
row_index (Xori _ _ _) = 33
row_index (Lui _ _) = 34
row_index (Mfc0 _ _) = 35
row_index (Mtc0 _ _) = 36
row_index Eret = 37
row_index (Lw _ _ _) = 38
row_index (Sw _ _ _) = 39
row_index (Mult _ _) = 40
row_index (Multu _ _) = 41
row_index (Div _ _) = 42
row_index (Divu _ _) = 43
row_index (Mfhi _) = 44
row_index (Mthi _) = 45
row_index (Mflo _) = 46
row_index (Mtlo _) = 47

-- whether the words of a row name a special register: those of mfc0 and mtc0 do
abbrev pub names_special : Row → Bool
names_special row = (row.value == 0x40000000) || (row.value == 0x40800000)

-- a word of a row, where a special register in it is at most 8
abbrev pub IsWordOf : ℕ → Row → Type 0
IsWordOf word row = Belongs word row × (IsTrue (names_special row) → word / 2 ^ 11 % 2 ^ 5 ≤ 8)

-- the row is the instruction's: it has its mnemonic, and its word
abbrev pub HasRow : Inst → Row → Type 0
HasRow i row = (row.mnemonic.now ≡ mnemonic_of i) × IsWordOf (encoding i) row

-- each word of the row is an instruction's with the row's mnemonic
abbrev pub Decodes : Row → Type 0
Decodes row = (word : ℕ) → word < 2 ^ 32 → IsWordOf word row → IsSomeAnd (decoding word) (λ i. row.mnemonic.now ≡ mnemonic_of i)

-- the words of the rows are exactly those of the instructions: each instruction has its row, and no row has another word
pub record AreInstructions (rows : List Row) : Type 0 where
  pub encoded : (i : Inst) → InRange i → IsSomeAnd (slice_get rows (row_index i)) (HasRow i)
  pub decoded : All Decodes rows
