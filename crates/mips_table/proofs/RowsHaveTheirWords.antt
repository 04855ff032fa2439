-- The words of each row of the instruction table are exactly those of the instructions with its mnemonic.
-- It is proved over the plain numbers and letters of the rows, and carried over to the rows of the code, which look the same.
use Rattle.std.specs.Prelude.{◌||◌, ◌==◌, codes, slice_get, IsTrue, IsSomeAnd, All, map}
use Rattle.std.proofs.Common.{◌≡◌, ℕ, zero, suc, ◌+◌, ◌*◌, ◌/◌, ◌%◌, ◌^◌, ◌<◌, ◌≤◌, List, [], ◌∷◌, bit_and, refl, sym, ◌∙◌, arith}
use Rattle.std.proofs.lemmas.Bool.{le-leb}
use Rattle.std.proofs.lemmas.List.Elements.{All-nil, All-cons}
use Rattle.mips_table.specs.declared.inst.Inst.{Inst}
use Rattle.mips_table.specs.declared.inst.Inst.TheVariants.{Sll, Srl, Sra, Sllv, Srlv, Srav, Jr, Jalr, Syscall, Add, Addu, Sub, Subu, And, Or, Xor, Nor, Slt, Sltu, Bltz, Bgez, J, Jal, Beq, Bne, Blez, Bgtz, Addi, Addiu, Slti, Sltiu, Andi, Ori, Xori, Lui, Mfc0, Mtc0, Eret, Lw, Sw, Mult, Multu, Div, Divu, Mfhi, Mthi, Mflo, Mtlo}
use Rattle.mips_table.specs.declared.table.Row.{Row}
use Rattle.mips_table.specs.Word.{r_word, i_word, j_word, code_word}
use Rattle.mips_table.specs.Encoding.{InRange, encoding}
use Rattle.mips_table.specs.Decoding.{decoding}
use Rattle.mips_table.specs.Rows.{Decodes, AreInstructions, mnemonic_of, row_index}
use Rattle.mips_table.proofs.MaskedWords.{under_shift, under_registers, under_jr, under_syscall, under_special, under_jalr, under_sign, under_opcode, under_lui, under_pair, under_target, under_all}

-- a row without its place in memory
record Plain : Type 0 where
  mnemonic : List ℕ
  mask : ℕ
  value : ℕ

abbrev shown : Row → Plain
shown row = record { mnemonic = row.mnemonic.now; mask = row.mask; value = row.value }

-- what IsWordOf says, of a plain row
abbrev Under : ℕ → Plain → Type 0
Under word p = (bit_and word p.mask ≡ p.value) × (IsTrue ((p.value == 0x40000000) || (p.value == 0x40800000)) → word / 2 ^ 11 % 2 ^ 5 ≤ 8)

abbrev plain : List Plain
plain =
    record { mnemonic = codes "sll"; mask = 0xffe0003f; value = 0x00000000 } ∷
    record { mnemonic = codes "srl"; mask = 0xffe0003f; value = 0x00000002 } ∷
    record { mnemonic = codes "sra"; mask = 0xffe0003f; value = 0x00000003 } ∷
    record { mnemonic = codes "sllv"; mask = 0xfc0007ff; value = 0x00000004 } ∷
    record { mnemonic = codes "srlv"; mask = 0xfc0007ff; value = 0x00000006 } ∷
    record { mnemonic = codes "srav"; mask = 0xfc0007ff; value = 0x00000007 } ∷
    record { mnemonic = codes "jr"; mask = 0xfc1fffff; value = 0x00000008 } ∷
    record { mnemonic = codes "jalr"; mask = 0xfc1f07ff; value = 0x00000009 } ∷
    record { mnemonic = codes "syscall"; mask = 0xfc00003f; value = 0x0000000c } ∷
    record { mnemonic = codes "add"; mask = 0xfc0007ff; value = 0x00000020 } ∷
    record { mnemonic = codes "addu"; mask = 0xfc0007ff; value = 0x00000021 } ∷
    record { mnemonic = codes "sub"; mask = 0xfc0007ff; value = 0x00000022 } ∷
    record { mnemonic = codes "subu"; mask = 0xfc0007ff; value = 0x00000023 } ∷
    record { mnemonic = codes "and"; mask = 0xfc0007ff; value = 0x00000024 } ∷
    record { mnemonic = codes "or"; mask = 0xfc0007ff; value = 0x00000025 } ∷
    record { mnemonic = codes "xor"; mask = 0xfc0007ff; value = 0x00000026 } ∷
    record { mnemonic = codes "nor"; mask = 0xfc0007ff; value = 0x00000027 } ∷
    record { mnemonic = codes "slt"; mask = 0xfc0007ff; value = 0x0000002a } ∷
    record { mnemonic = codes "sltu"; mask = 0xfc0007ff; value = 0x0000002b } ∷
    record { mnemonic = codes "bltz"; mask = 0xfc1f0000; value = 0x04000000 } ∷
    record { mnemonic = codes "bgez"; mask = 0xfc1f0000; value = 0x04010000 } ∷
    record { mnemonic = codes "j"; mask = 0xfc000000; value = 0x08000000 } ∷
    record { mnemonic = codes "jal"; mask = 0xfc000000; value = 0x0c000000 } ∷
    record { mnemonic = codes "beq"; mask = 0xfc000000; value = 0x10000000 } ∷
    record { mnemonic = codes "bne"; mask = 0xfc000000; value = 0x14000000 } ∷
    record { mnemonic = codes "blez"; mask = 0xfc1f0000; value = 0x18000000 } ∷
    record { mnemonic = codes "bgtz"; mask = 0xfc1f0000; value = 0x1c000000 } ∷
    record { mnemonic = codes "addi"; mask = 0xfc000000; value = 0x20000000 } ∷
    record { mnemonic = codes "addiu"; mask = 0xfc000000; value = 0x24000000 } ∷
    record { mnemonic = codes "slti"; mask = 0xfc000000; value = 0x28000000 } ∷
    record { mnemonic = codes "sltiu"; mask = 0xfc000000; value = 0x2c000000 } ∷
    record { mnemonic = codes "andi"; mask = 0xfc000000; value = 0x30000000 } ∷
    record { mnemonic = codes "ori"; mask = 0xfc000000; value = 0x34000000 } ∷
    record { mnemonic = codes "xori"; mask = 0xfc000000; value = 0x38000000 } ∷
    record { mnemonic = codes "lui"; mask = 0xffe00000; value = 0x3c000000 } ∷
    record { mnemonic = codes "mfc0"; mask = 0xffe007ff; value = 0x40000000 } ∷
    record { mnemonic = codes "mtc0"; mask = 0xffe007ff; value = 0x40800000 } ∷
    record { mnemonic = codes "eret"; mask = 0xffffffff; value = 0x42000018 } ∷
    record { mnemonic = codes "lw"; mask = 0xfc000000; value = 0x8c000000 } ∷
    record { mnemonic = codes "sw"; mask = 0xfc000000; value = 0xac000000 } ∷
    record { mnemonic = codes "mult"; mask = 0xfc00ffff; value = 0x00000018 } ∷
    record { mnemonic = codes "multu"; mask = 0xfc00ffff; value = 0x00000019 } ∷
    record { mnemonic = codes "div"; mask = 0xfc00ffff; value = 0x0000001a } ∷
    record { mnemonic = codes "divu"; mask = 0xfc00ffff; value = 0x0000001b } ∷
    record { mnemonic = codes "mfhi"; mask = 0xffff07ff; value = 0x00000010 } ∷
    record { mnemonic = codes "mthi"; mask = 0xfc1fffff; value = 0x00000011 } ∷
    record { mnemonic = codes "mflo"; mask = 0xffff07ff; value = 0x00000012 } ∷
    record { mnemonic = codes "mtlo"; mask = 0xfc1fffff; value = 0x00000013 } ∷
    []

-- what HasRow says, of a plain row
abbrev Has : Inst → Plain → Type 0
Has i p = (p.mnemonic ≡ mnemonic_of i) × Under (encoding i) p

-- the word of each instruction is its row's
encoded : (i : Inst) → InRange i → IsSomeAnd (slice_get plain (row_index i)) (Has i)
encoded (Sll rd rt sa) h = (refl, (under_shift (r_word 0 0 rt rd sa 0x00) (omega arith) ∙ omega arith, λ t. absurd (cc)))
encoded (Srl rd rt sa) h = (refl, (under_shift (r_word 0 0 rt rd sa 0x02) (omega arith) ∙ omega arith, λ t. absurd (cc)))
encoded (Sra rd rt sa) h = (refl, (under_shift (r_word 0 0 rt rd sa 0x03) (omega arith) ∙ omega arith, λ t. absurd (cc)))
encoded (Sllv rd rt rs) h = (refl, (under_registers (r_word 0 rs rt rd 0 0x04) (omega arith) ∙ omega arith, λ t. absurd (cc)))
encoded (Srlv rd rt rs) h = (refl, (under_registers (r_word 0 rs rt rd 0 0x06) (omega arith) ∙ omega arith, λ t. absurd (cc)))
encoded (Srav rd rt rs) h = (refl, (under_registers (r_word 0 rs rt rd 0 0x07) (omega arith) ∙ omega arith, λ t. absurd (cc)))
encoded (Jr rs) h = (refl, (under_jr (r_word 0 rs 0 0 0 0x08) (omega arith) ∙ omega arith, λ t. absurd (cc)))
encoded (Jalr rd rs) h = (refl, (under_jalr (r_word 0 rs 0 rd 0 0x09) (omega arith) ∙ omega arith, λ t. absurd (cc)))
encoded (Syscall code) h = (refl, (under_syscall (code_word code 0x0c) (omega arith) ∙ omega arith, λ t. absurd (cc)))
encoded (Add rd rs rt) h = (refl, (under_registers (r_word 0 rs rt rd 0 0x20) (omega arith) ∙ omega arith, λ t. absurd (cc)))
encoded (Addu rd rs rt) h = (refl, (under_registers (r_word 0 rs rt rd 0 0x21) (omega arith) ∙ omega arith, λ t. absurd (cc)))
encoded (Sub rd rs rt) h = (refl, (under_registers (r_word 0 rs rt rd 0 0x22) (omega arith) ∙ omega arith, λ t. absurd (cc)))
encoded (Subu rd rs rt) h = (refl, (under_registers (r_word 0 rs rt rd 0 0x23) (omega arith) ∙ omega arith, λ t. absurd (cc)))
encoded (And rd rs rt) h = (refl, (under_registers (r_word 0 rs rt rd 0 0x24) (omega arith) ∙ omega arith, λ t. absurd (cc)))
encoded (Or rd rs rt) h = (refl, (under_registers (r_word 0 rs rt rd 0 0x25) (omega arith) ∙ omega arith, λ t. absurd (cc)))
encoded (Xor rd rs rt) h = (refl, (under_registers (r_word 0 rs rt rd 0 0x26) (omega arith) ∙ omega arith, λ t. absurd (cc)))
encoded (Nor rd rs rt) h = (refl, (under_registers (r_word 0 rs rt rd 0 0x27) (omega arith) ∙ omega arith, λ t. absurd (cc)))
encoded (Slt rd rs rt) h = (refl, (under_registers (r_word 0 rs rt rd 0 0x2a) (omega arith) ∙ omega arith, λ t. absurd (cc)))
encoded (Sltu rd rs rt) h = (refl, (under_registers (r_word 0 rs rt rd 0 0x2b) (omega arith) ∙ omega arith, λ t. absurd (cc)))
encoded (Bltz rs imm) h = (refl, (under_sign (i_word 1 rs 0 imm) (omega arith) ∙ omega arith, λ t. absurd (cc)))
encoded (Bgez rs imm) h = (refl, (under_sign (i_word 1 rs 1 imm) (omega arith) ∙ omega arith, λ t. absurd (cc)))
encoded (J index) h = (refl, (under_opcode (j_word 2 index) (omega arith) ∙ omega arith, λ t. absurd (cc)))
encoded (Jal index) h = (refl, (under_opcode (j_word 3 index) (omega arith) ∙ omega arith, λ t. absurd (cc)))
encoded (Beq rs rt imm) h = (refl, (under_opcode (i_word 4 rs rt imm) (omega arith) ∙ omega arith, λ t. absurd (cc)))
encoded (Bne rs rt imm) h = (refl, (under_opcode (i_word 5 rs rt imm) (omega arith) ∙ omega arith, λ t. absurd (cc)))
encoded (Blez rs imm) h = (refl, (under_sign (i_word 6 rs 0 imm) (omega arith) ∙ omega arith, λ t. absurd (cc)))
encoded (Bgtz rs imm) h = (refl, (under_sign (i_word 7 rs 0 imm) (omega arith) ∙ omega arith, λ t. absurd (cc)))
encoded (Addi rt rs imm) h = (refl, (under_opcode (i_word 8 rs rt imm) (omega arith) ∙ omega arith, λ t. absurd (cc)))
encoded (Addiu rt rs imm) h = (refl, (under_opcode (i_word 9 rs rt imm) (omega arith) ∙ omega arith, λ t. absurd (cc)))
encoded (Slti rt rs imm) h = (refl, (under_opcode (i_word 10 rs rt imm) (omega arith) ∙ omega arith, λ t. absurd (cc)))
encoded (Sltiu rt rs imm) h = (refl, (under_opcode (i_word 11 rs rt imm) (omega arith) ∙ omega arith, λ t. absurd (cc)))
encoded (Andi rt rs imm) h = (refl, (under_opcode (i_word 12 rs rt imm) (omega arith) ∙ omega arith, λ t. absurd (cc)))
encoded (Ori rt rs imm) h = (refl, (under_opcode (i_word 13 rs rt imm) (omega arith) ∙ omega arith, λ t. absurd (cc)))
encoded (Xori rt rs imm) h = (refl, (under_opcode (i_word 14 rs rt imm) (omega arith) ∙ omega arith, λ t. absurd (cc)))
encoded (Lui rt imm) h = (refl, (under_lui (i_word 15 0 rt imm) (omega arith) ∙ omega arith, λ t. absurd (cc)))
encoded (Mfc0 rt special) h = (refl, (under_special (r_word 16 0 rt special 0 0x00) (omega arith) ∙ omega arith, λ t. omega arith))
encoded (Mtc0 rt special) h = (refl, (under_special (r_word 16 4 rt special 0 0x00) (omega arith) ∙ omega arith, λ t. omega arith))
encoded Eret h = (refl, (under_all (r_word 16 16 0 0 0 0x18) (omega arith) ∙ omega arith, λ t. absurd (cc)))
encoded (Lw rt rs imm) h = (refl, (under_opcode (i_word 35 rs rt imm) (omega arith) ∙ omega arith, λ t. absurd (cc)))
encoded (Sw rt rs imm) h = (refl, (under_opcode (i_word 43 rs rt imm) (omega arith) ∙ omega arith, λ t. absurd (cc)))
encoded (Mult rs rt) h = (refl, (under_pair (r_word 0 rs rt 0 0 0x18) (omega arith) ∙ omega arith, λ t. absurd (cc)))
encoded (Multu rs rt) h = (refl, (under_pair (r_word 0 rs rt 0 0 0x19) (omega arith) ∙ omega arith, λ t. absurd (cc)))
encoded (Div rs rt) h = (refl, (under_pair (r_word 0 rs rt 0 0 0x1a) (omega arith) ∙ omega arith, λ t. absurd (cc)))
encoded (Divu rs rt) h = (refl, (under_pair (r_word 0 rs rt 0 0 0x1b) (omega arith) ∙ omega arith, λ t. absurd (cc)))
encoded (Mfhi rd) h = (refl, (under_target (r_word 0 0 0 rd 0 0x10) (omega arith) ∙ omega arith, λ t. absurd (cc)))
encoded (Mthi rs) h = (refl, (under_jr (r_word 0 rs 0 0 0 0x11) (omega arith) ∙ omega arith, λ t. absurd (cc)))
encoded (Mflo rd) h = (refl, (under_target (r_word 0 0 0 rd 0 0x12) (omega arith) ∙ omega arith, λ t. absurd (cc)))
encoded (Mtlo rs) h = (refl, (under_jr (r_word 0 rs 0 0 0 0x13) (omega arith) ∙ omega arith, λ t. absurd (cc)))

-- the fields of a word under each mask
shift_fields : (w fn : ℕ) → w < 2 ^ 32 → bit_and w 0xffe0003f ≡ fn → fn < 2 ^ 6 → (w / 2 ^ 26 ≡ 0) × (w / 2 ^ 21 % 2 ^ 5 ≡ 0) × (w % 2 ^ 6 ≡ fn)
shift_fields w fn b e f = let m = under_shift w b in (omega arith, omega arith, omega arith)

registers_fields : (w fn : ℕ) → w < 2 ^ 32 → bit_and w 0xfc0007ff ≡ fn → fn < 2 ^ 6 → (w / 2 ^ 26 ≡ 0) × (w / 2 ^ 6 % 2 ^ 5 ≡ 0) × (w % 2 ^ 6 ≡ fn)
registers_fields w fn b e f = let m = under_registers w b in (omega arith, omega arith, omega arith)

sign_fields : (w op rt : ℕ) → w < 2 ^ 32 → bit_and w 0xfc1f0000 ≡ op * 2 ^ 26 + rt * 2 ^ 16 → rt < 2 ^ 5 → (w / 2 ^ 26 ≡ op) × (w / 2 ^ 16 % 2 ^ 5 ≡ rt)
sign_fields w op rt b e f = let m = under_sign w b in (omega arith, omega arith)

opcode_field : (w op : ℕ) → w < 2 ^ 32 → bit_and w 0xfc000000 ≡ op * 2 ^ 26 → w / 2 ^ 26 ≡ op
opcode_field w op b e = let m = under_opcode w b in omega arith

special_fields : (w rs : ℕ) → w < 2 ^ 32 → bit_and w 0xffe007ff ≡ 16 * 2 ^ 26 + rs * 2 ^ 21 → rs < 2 ^ 5 → (w / 2 ^ 26 ≡ 16) × (w / 2 ^ 21 % 2 ^ 5 ≡ rs) × (w / 2 ^ 6 % 2 ^ 5 ≡ 0) × (w % 2 ^ 6 ≡ 0)
special_fields w rs b e f = let m = under_special w b in (omega arith, omega arith, omega arith, omega arith)

-- a word of the row is decoded to an instruction with this mnemonic
abbrev Reads : Plain → Type 0
Reads p = (word : ℕ) → word < 2 ^ 32 → Under word p → IsSomeAnd (decoding word) (λ i. p.mnemonic ≡ mnemonic_of i)

jr_fields : (w fn : ℕ) → w < 2 ^ 32 → bit_and w 0xfc1fffff ≡ fn → fn < 2 ^ 6 → (w / 2 ^ 26 ≡ 0) × (w % 2 ^ 6 ≡ fn) × (w / 2 ^ 16 % 2 ^ 5 ≡ 0) × (w / 2 ^ 11 % 2 ^ 5 ≡ 0) × (w / 2 ^ 6 % 2 ^ 5 ≡ 0)
jr_fields w fn b e f = let m = under_jr w b in (omega arith, omega arith, omega arith, omega arith, omega arith)

pair_fields : (w fn : ℕ) → w < 2 ^ 32 → bit_and w 0xfc00ffff ≡ fn → fn < 2 ^ 6 → (w / 2 ^ 26 ≡ 0) × (w % 2 ^ 6 ≡ fn) × (w / 2 ^ 11 % 2 ^ 5 ≡ 0) × (w / 2 ^ 6 % 2 ^ 5 ≡ 0)
pair_fields w fn b e f = let m = under_pair w b in (omega arith, omega arith, omega arith, omega arith)

target_fields : (w fn : ℕ) → w < 2 ^ 32 → bit_and w 0xffff07ff ≡ fn → fn < 2 ^ 6 → (w / 2 ^ 26 ≡ 0) × (w % 2 ^ 6 ≡ fn) × (w / 2 ^ 21 % 2 ^ 5 ≡ 0) × (w / 2 ^ 16 % 2 ^ 5 ≡ 0) × (w / 2 ^ 6 % 2 ^ 5 ≡ 0)
target_fields w fn b e f = let m = under_target w b in (omega arith, omega arith, omega arith, omega arith, omega arith)

decoded_jalr : (w : ℕ) → w < 2 ^ 32 → bit_and w 0xfc1f07ff ≡ 0x09 → IsSomeAnd (decoding w) (λ i. codes "jalr" ≡ mnemonic_of i)
decoded_jalr w b e =
    let m = under_jalr w b in
    let o : w / 2 ^ 26 ≡ 0 = omega arith in
    let f : w % 2 ^ 6 ≡ 9 = omega arith in
    let t : w / 2 ^ 16 % 2 ^ 5 ≡ 0 = omega arith in
    let s : w / 2 ^ 6 % 2 ^ 5 ≡ 0 = omega arith in
    rw (o, f, t, s) refl

decoded_syscall : (w : ℕ) → w < 2 ^ 32 → bit_and w 0xfc00003f ≡ 0x0c → IsSomeAnd (decoding w) (λ i. codes "syscall" ≡ mnemonic_of i)
decoded_syscall w b e =
    let m = under_syscall w b in
    let o : w / 2 ^ 26 ≡ 0 = omega arith in
    let f : w % 2 ^ 6 ≡ 12 = omega arith in
    rw (o, f) refl

decoded_lui : (w : ℕ) → w < 2 ^ 32 → bit_and w 0xffe00000 ≡ 0x3c000000 → IsSomeAnd (decoding w) (λ i. codes "lui" ≡ mnemonic_of i)
decoded_lui w b e =
    let m = under_lui w b in
    let o : w / 2 ^ 26 ≡ 15 = omega arith in
    let r : w / 2 ^ 21 % 2 ^ 5 ≡ 0 = omega arith in
    rw (o, r) refl

decoded_eret : (w : ℕ) → w < 2 ^ 32 → bit_and w 0xffffffff ≡ 0x42000018 → IsSomeAnd (decoding w) (λ i. codes "eret" ≡ mnemonic_of i)
decoded_eret w b e = let m : w ≡ 0x42000018 = sym (under_all w b) ∙ e in rw m refl

-- the fact holds of each
abbrev Every : (Plain → Type 0) → List Plain → Type 0
Every P [] = Unit {0}
Every P (p ∷ ps) = P p × Every P ps

decoded_plain : Every Reads plain
decoded_plain = (
  λ w b h. let e = shift_fields w 0 b h.0 (omega arith) in rw (e.0, e.1, e.2) refl,
  (
    λ w b h. let e = shift_fields w 2 b h.0 (omega arith) in rw (e.0, e.1, e.2) refl,
    (
      λ w b h. let e = shift_fields w 3 b h.0 (omega arith) in rw (e.0, e.1, e.2) refl,
      (
        λ w b h. let e = registers_fields w 4 b h.0 (omega arith) in rw (e.0, e.1, e.2) refl,
        (
          λ w b h. let e = registers_fields w 6 b h.0 (omega arith) in rw (e.0, e.1, e.2) refl,
          (
            λ w b h. let e = registers_fields w 7 b h.0 (omega arith) in rw (e.0, e.1, e.2) refl,
            (
              λ w b h. let e = jr_fields w 8 b h.0 (omega arith) in rw (e.0, e.1, e.2, e.3, e.4) refl,
              (
                λ w b h. decoded_jalr w b h.0,
                (
                  λ w b h. decoded_syscall w b h.0,
                  (
                    λ w b h. let e = registers_fields w 32 b h.0 (omega arith) in rw (e.0, e.1, e.2) refl,
                    (
                      λ w b h. let e = registers_fields w 33 b h.0 (omega arith) in rw (e.0, e.1, e.2) refl,
                      (
                        λ w b h. let e = registers_fields w 34 b h.0 (omega arith) in rw (e.0, e.1, e.2) refl,
                        (
                          λ w b h. let e = registers_fields w 35 b h.0 (omega arith) in rw (e.0, e.1, e.2) refl,
                          (
                            λ w b h. let e = registers_fields w 36 b h.0 (omega arith) in rw (e.0, e.1, e.2) refl,
                            (
                              λ w b h. let e = registers_fields w 37 b h.0 (omega arith) in rw (e.0, e.1, e.2) refl,
                              (
                                λ w b h. let e = registers_fields w 38 b h.0 (omega arith) in rw (e.0, e.1, e.2) refl,
                                (
                                  λ w b h. let e = registers_fields w 39 b h.0 (omega arith) in rw (e.0, e.1, e.2) refl,
                                  (
                                    λ w b h. let e = registers_fields w 42 b h.0 (omega arith) in rw (e.0, e.1, e.2) refl,
                                    (
                                      λ w b h. let e = registers_fields w 43 b h.0 (omega arith) in rw (e.0, e.1, e.2) refl,
                                      (
                                        λ w b h. let e = sign_fields w 1 0 b h.0 (omega arith) in rw (e.0, e.1) refl,
                                        (
                                          λ w b h. let e = sign_fields w 1 1 b h.0 (omega arith) in rw (e.0, e.1) refl,
                                          (
                                            λ w b h. rw (opcode_field w 2 b h.0) refl,
                                            (
                                              λ w b h. rw (opcode_field w 3 b h.0) refl,
                                              (
                                                λ w b h. rw (opcode_field w 4 b h.0) refl,
                                                (
                                                  λ w b h. rw (opcode_field w 5 b h.0) refl,
                                                  (
                                                    λ w b h. let e = sign_fields w 6 0 b h.0 (omega arith) in rw (e.0, e.1) refl,
                                                    (
                                                      λ w b h. let e = sign_fields w 7 0 b h.0 (omega arith) in rw (e.0, e.1) refl,
                                                      (
                                                        λ w b h. rw (opcode_field w 8 b h.0) refl,
                                                        (
                                                          λ w b h. rw (opcode_field w 9 b h.0) refl,
                                                          (
                                                            λ w b h. rw (opcode_field w 10 b h.0) refl,
                                                            (
                                                              λ w b h. rw (opcode_field w 11 b h.0) refl,
                                                              (
                                                                λ w b h. rw (opcode_field w 12 b h.0) refl,
                                                                (
                                                                  λ w b h. rw (opcode_field w 13 b h.0) refl,
                                                                  (
                                                                    λ w b h. rw (opcode_field w 14 b h.0) refl,
                                                                    (
                                                                      λ w b h. decoded_lui w b h.0,
                                                                      (
                                                                        λ w b h. let e = special_fields w 0 b h.0 (omega arith) in rw (e.0, e.1, e.2, e.3, le-leb _ 8 (h.1 refl)) refl,
                                                                        (
                                                                          λ w b h. let e = special_fields w 4 b h.0 (omega arith) in rw (e.0, e.1, e.2, e.3, le-leb _ 8 (h.1 refl)) refl,
                                                                          (
                                                                            λ w b h. decoded_eret w b h.0,
                                                                            (
                                                                              λ w b h. rw (opcode_field w 35 b h.0) refl,
                                                                              (
                                                                                λ w b h. rw (opcode_field w 43 b h.0) refl,
                                                                                (
                                                                                  λ w b h. let e = pair_fields w 24 b h.0 (omega arith) in rw (e.0, e.1, e.2, e.3) refl,
                                                                                  (
                                                                                    λ w b h. let e = pair_fields w 25 b h.0 (omega arith) in rw (e.0, e.1, e.2, e.3) refl,
                                                                                    (
                                                                                      λ w b h. let e = pair_fields w 26 b h.0 (omega arith) in rw (e.0, e.1, e.2, e.3) refl,
                                                                                      (
                                                                                        λ w b h. let e = pair_fields w 27 b h.0 (omega arith) in rw (e.0, e.1, e.2, e.3) refl,
                                                                                        (
                                                                                          λ w b h. let e = target_fields w 16 b h.0 (omega arith) in rw (e.0, e.1, e.2, e.3, e.4) refl,
                                                                                          (
                                                                                            λ w b h. let e = jr_fields w 17 b h.0 (omega arith) in rw (e.0, e.1, e.2, e.3, e.4) refl,
                                                                                            (
                                                                                              λ w b h. let e = target_fields w 18 b h.0 (omega arith) in rw (e.0, e.1, e.2, e.3, e.4) refl,
                                                                                              (
                                                                                                λ w b h. let e = jr_fields w 19 b h.0 (omega arith) in rw (e.0, e.1, e.2, e.3, e.4) refl,
                                                                                                tt,
                                                                                              ),
                                                                                            ),
                                                                                          ),
                                                                                        ),
                                                                                      ),
                                                                                    ),
                                                                                  ),
                                                                                ),
                                                                              ),
                                                                            ),
                                                                          ),
                                                                        ),
                                                                      ),
                                                                    ),
                                                                  ),
                                                                ),
                                                              ),
                                                            ),
                                                          ),
                                                        ),
                                                      ),
                                                    ),
                                                  ),
                                                ),
                                              ),
                                            ),
                                          ),
                                        ),
                                      ),
                                    ),
                                  ),
                                ),
                              ),
                            ),
                          ),
                        ),
                      ),
                    ),
                  ),
                ),
              ),
            ),
          ),
        ),
      ),
    ),
  ),
)

carry_get : (rows : List Row) (k : ℕ) (P : Plain → Type 0) → IsSomeAnd (slice_get (map shown rows) k) P → IsSomeAnd (slice_get rows k) (λ row. P (shown row))
carry_get [] k P h = absurd h
carry_get (r ∷ rows) zero P h = h
carry_get (r ∷ rows) (suc k) P h = carry_get rows k P h

carry_all : (rows : List Row) → Every Reads (map shown rows) → All Decodes rows
carry_all [] h = All-nil Decodes
carry_all (r ∷ rows) h = All-cons Decodes r rows h.0 (carry_all rows h.1)

-- rows that look like the plain ones are the instructions' rows
pub instructions : (rows : List Row) → map shown rows ≡ plain → AreInstructions rows
instructions rows e = record {
  encoded = λ i h. carry_get rows (row_index i) (Has i) (rw e (encoded i h));
  decoded = carry_all rows (rw e decoded_plain);
}
