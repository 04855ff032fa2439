-- Each row of the table: an instruction that is written reads back as its word.
use Rattle.std.proofs.Common.{◌≡◌, ◌<◌, ◌≤◌, ◌+◌, ◌*◌, ◌^◌, ◌&&◌, ℕ, Bool, true, cond, List, [], ◌∷◌, length, inl, inr, refl, sym, ap, ◌∙◌, ne_eqb, lit<, subst, arith}
use Rattle.std.specs.Prelude.{codes}
use Rattle.std.specs.List.{list_all}
use Rattle.std.proofs.lemmas.Bool.{cases_eq}
use Rattle.mips_table.specs.declared.inst.Inst.{Inst}
use Rattle.mips_table.specs.declared.inst.Inst.TheVariants.{Sll, Srl, Sra, Sllv, Srlv, Srav, Jr, Jalr, Syscall, Add, Addu, Sub, Subu, And, Or, Xor, Nor, Slt, Sltu, Bltz, Bgez, J, Jal, Beq, Bne, Blez, Bgtz, Addi, Addiu, Slti, Sltiu, Andi, Ori, Xori, Lui, Mfc0, Mtc0, Eret, Lw, Sw, Mult, Multu, Div, Divu, Mfhi, Mthi, Mflo, Mtlo}
use Rattle.mips_table.specs.Encoding.{InRange, encoding}
use Rattle.mips_table.specs.Rows.{mnemonic_of}
use Rattle.mips_asm.specs.declared.form.Operand.{Operand}
use Rattle.mips_asm.specs.declared.form.Operand.TheVariants.{Register, Special, Amount, Code, Signed, Unsigned, Branch, Jump, Memory}
use Rattle.mips_asm.specs.declared.form.Field.{Field}
use Rattle.mips_asm.specs.declared.form.Field.TheVariants.{Rs, Rt, Rd}
use Rattle.mips_asm.specs.declared.listing.Written.{Written}
use Rattle.mips_asm.specs.declared.listing.Written.TheVariants as w
use Rattle.mips_asm.specs.Number.{in_name}
use Rattle.mips_asm.specs.Form.{forms, form_of}
use Rattle.mips_asm.specs.Operand.{first_bit}
use Rattle.mips_asm.specs.Line.{word, named, instruction, word_meaning}
use Rattle.mips_asm.specs.Listing.{listed_operands, operands}
use Rattle.mips_asm.proofs.OperandsStayWhole.{token}
use Rattle.mips_asm.proofs.OperandsBack.{Reads, AllSmall, instruction_back, register_reads, special_reads, amount_reads, code_reads, signed_reads, unsigned_reads, branch_reads, jump_reads, memory_reads}

-- a register before other operands
with_register : (field : Field) (r : ℕ) (ks : List Operand) (os : List Written) (n : ℕ) → r < 32 → Reads ks os n
    → Reads (Register field ∷ ks) (w.Register r ∷ os) (r * 2 ^ first_bit field + n)
with_register field r ks os n small more = (r * 2 ^ first_bit field, n, small, register_reads field r small, more, refl)

-- the last operands
last_special : (n : ℕ) → n ≤ 8 → Reads (Special ∷ []) (w.Special n ∷ []) (n * 2 ^ 11 + 0)
last_special n small = (n * 2 ^ 11, 0, omega arith, special_reads n (omega arith), refl, refl)

last_amount : (n : ℕ) → n < 32 → Reads (Amount ∷ []) (w.Number n ∷ []) (n * 2 ^ 6 + 0)
last_amount n small = (n * 2 ^ 6, 0, omega arith, amount_reads n small, refl, refl)

last_code : (n : ℕ) → n < 2 ^ 20 → Reads (Code ∷ []) (w.Number n ∷ []) (n * 2 ^ 6 + 0)
last_code n small = (n * 2 ^ 6, 0, omega arith, code_reads n small, refl, refl)

last_signed : (n : ℕ) → n < 2 ^ 16 → Reads (Signed ∷ []) (w.Signed n ∷ []) (n + 0)
last_signed n small = (n, 0, small, signed_reads n small, refl, refl)

last_unsigned : (n : ℕ) → n < 2 ^ 16 → Reads (Unsigned ∷ []) (w.Number n ∷ []) (n * 2 ^ 0 + 0)
last_unsigned n small = (n * 2 ^ 0, 0, omega arith, unsigned_reads n small, refl, refl)

last_branch : (n : ℕ) → n < 2 ^ 16 → Reads (Branch ∷ []) (w.Signed n ∷ []) (n + 0)
last_branch n small = (n, 0, small, branch_reads n small, refl, refl)

last_jump : (n : ℕ) → n < 2 ^ 26 → Reads (Jump ∷ []) (w.Number n ∷ []) (n * 2 ^ 0 + 0)
last_jump n small = (n * 2 ^ 0, 0, omega arith, jump_reads n small, refl, refl)

last_memory : (bits base : ℕ) → bits < 2 ^ 16 → base < 32 → Reads (Memory ∷ []) (w.Address bits base ∷ []) (bits + base * 2 ^ 21 + 0)
last_memory bits base small below = (bits + base * 2 ^ 21, 0, (small, below), memory_reads bits base small below, refl, refl)

-- an instruction with a word that is another sum of the same parts
to_word : (v : ℕ) (ks : List Operand) (o : Written) (os : List Written) (n total : ℕ) → Reads ks (o ∷ os) n → v + n ≡ total → total < 2 ^ 32
    → word_meaning v ks (listed_operands (codes " ") (o ∷ os)) ≡ word total
to_word v ks o os n total reads is fits = instruction_back v ks o os n reads (omega arith) ∙ ap word is

syscall_back : (code : ℕ) → code < 2 ^ 20 → word_meaning 12 (Code ∷ []) (listed_operands (codes " ") (operands (Syscall code))) ≡ word (encoding (Syscall code))
syscall_back code small =
    elim (cases_eq code 0) as (λ _. word_meaning 12 (Code ∷ []) (listed_operands (codes " ") (operands (Syscall code))) ≡ word (encoding (Syscall code))) [
      | inl none ↦
          ap (λ c. word_meaning 12 (Code ∷ []) (listed_operands (codes " ") (operands (Syscall c)))) none ∙ sym (ap (λ c. word (encoding (Syscall c))) none)
      | inr some ↦
          ap (λ b. word_meaning 12 (Code ∷ []) (listed_operands (codes " ") (cond b [] (w.Number code ∷ [])))) (ne_eqb code 0 some)
          ∙ to_word 12 (Code ∷ []) (w.Number code) [] (code * 2 ^ 6 + 0) (encoding (Syscall code)) (last_code code small) (omega arith) (omega arith)
    ]

-- the shapes of instructions
three_registers : (v : ℕ) (f g k : Field) (a b c total : ℕ) → (a < 32) × (b < 32) × (c < 32) → v + (a * 2 ^ first_bit f + (b * 2 ^ first_bit g + (c * 2 ^ first_bit k + 0))) ≡ total → total < 2 ^ 32
    → word_meaning v (Register f ∷ (Register g ∷ (Register k ∷ []))) (listed_operands (codes " ") (w.Register a ∷ (w.Register b ∷ (w.Register c ∷ [])))) ≡ word total
three_registers v f g k a b c total h is fits =
    to_word v (Register f ∷ (Register g ∷ (Register k ∷ []))) (w.Register a) (w.Register b ∷ (w.Register c ∷ [])) (a * 2 ^ first_bit f + (b * 2 ^ first_bit g + (c * 2 ^ first_bit k + 0))) total
    (with_register f a (Register g ∷ (Register k ∷ [])) (w.Register b ∷ (w.Register c ∷ [])) (b * 2 ^ first_bit g + (c * 2 ^ first_bit k + 0)) h.0 (with_register g b (Register k ∷ []) (w.Register c ∷ []) (c * 2 ^ first_bit k + 0) h.1 (with_register k c [] [] 0 h.2 refl))) is fits

two_registers : (v : ℕ) (f g : Field) (a b total : ℕ) → (a < 32) × (b < 32) → v + (a * 2 ^ first_bit f + (b * 2 ^ first_bit g + 0)) ≡ total → total < 2 ^ 32
    → word_meaning v (Register f ∷ (Register g ∷ [])) (listed_operands (codes " ") (w.Register a ∷ (w.Register b ∷ []))) ≡ word total
two_registers v f g a b total h is fits =
    to_word v (Register f ∷ (Register g ∷ [])) (w.Register a) (w.Register b ∷ []) (a * 2 ^ first_bit f + (b * 2 ^ first_bit g + 0)) total
    (with_register f a (Register g ∷ []) (w.Register b ∷ []) (b * 2 ^ first_bit g + 0) h.0 (with_register g b [] [] 0 h.1 refl)) is fits

one_register : (v : ℕ) (f : Field) (a total : ℕ) → a < 32 → v + (a * 2 ^ first_bit f + 0) ≡ total → total < 2 ^ 32
    → word_meaning v (Register f ∷ []) (listed_operands (codes " ") (w.Register a ∷ [])) ≡ word total
one_register v f a total h is fits =
    to_word v (Register f ∷ []) (w.Register a) [] (a * 2 ^ first_bit f + 0) total
    (with_register f a [] [] 0 h refl) is fits

shift : (v : ℕ) (rd rt sa total : ℕ) → (rd < 32) × (rt < 32) × (sa < 32) → v + (rd * 2 ^ first_bit Rd + (rt * 2 ^ first_bit Rt + (sa * 2 ^ 6 + 0))) ≡ total → total < 2 ^ 32
    → word_meaning v (Register Rd ∷ (Register Rt ∷ (Amount ∷ []))) (listed_operands (codes " ") (w.Register rd ∷ (w.Register rt ∷ (w.Number sa ∷ [])))) ≡ word total
shift v rd rt sa total h is fits =
    to_word v (Register Rd ∷ (Register Rt ∷ (Amount ∷ []))) (w.Register rd) (w.Register rt ∷ (w.Number sa ∷ [])) (rd * 2 ^ first_bit Rd + (rt * 2 ^ first_bit Rt + (sa * 2 ^ 6 + 0))) total
    (with_register Rd rd (Register Rt ∷ (Amount ∷ [])) (w.Register rt ∷ (w.Number sa ∷ [])) (rt * 2 ^ first_bit Rt + (sa * 2 ^ 6 + 0)) h.0 (with_register Rt rt (Amount ∷ []) (w.Number sa ∷ []) (sa * 2 ^ 6 + 0) h.1 (last_amount sa h.2))) is fits

branch_on_one : (v : ℕ) (rs imm total : ℕ) → (rs < 32) × (imm < 2 ^ 16) → v + (rs * 2 ^ first_bit Rs + (imm + 0)) ≡ total → total < 2 ^ 32
    → word_meaning v (Register Rs ∷ (Branch ∷ [])) (listed_operands (codes " ") (w.Register rs ∷ (w.Signed imm ∷ []))) ≡ word total
branch_on_one v rs imm total h is fits =
    to_word v (Register Rs ∷ (Branch ∷ [])) (w.Register rs) (w.Signed imm ∷ []) (rs * 2 ^ first_bit Rs + (imm + 0)) total
    (with_register Rs rs (Branch ∷ []) (w.Signed imm ∷ []) (imm + 0) h.0 (last_branch imm h.1)) is fits

branch_on_two : (v : ℕ) (rs rt imm total : ℕ) → (rs < 32) × (rt < 32) × (imm < 2 ^ 16) → v + (rs * 2 ^ first_bit Rs + (rt * 2 ^ first_bit Rt + (imm + 0))) ≡ total → total < 2 ^ 32
    → word_meaning v (Register Rs ∷ (Register Rt ∷ (Branch ∷ []))) (listed_operands (codes " ") (w.Register rs ∷ (w.Register rt ∷ (w.Signed imm ∷ [])))) ≡ word total
branch_on_two v rs rt imm total h is fits =
    to_word v (Register Rs ∷ (Register Rt ∷ (Branch ∷ []))) (w.Register rs) (w.Register rt ∷ (w.Signed imm ∷ [])) (rs * 2 ^ first_bit Rs + (rt * 2 ^ first_bit Rt + (imm + 0))) total
    (with_register Rs rs (Register Rt ∷ (Branch ∷ [])) (w.Register rt ∷ (w.Signed imm ∷ [])) (rt * 2 ^ first_bit Rt + (imm + 0)) h.0 (with_register Rt rt (Branch ∷ []) (w.Signed imm ∷ []) (imm + 0) h.1 (last_branch imm h.2))) is fits

jump : (v : ℕ) (index total : ℕ) → index < 2 ^ 26 → v + (index * 2 ^ 0 + 0) ≡ total → total < 2 ^ 32
    → word_meaning v (Jump ∷ []) (listed_operands (codes " ") (w.Number index ∷ [])) ≡ word total
jump v index total h is fits =
    to_word v (Jump ∷ []) (w.Number index) [] (index * 2 ^ 0 + 0) total
    (last_jump index h) is fits

signed_immediate : (v : ℕ) (rt rs imm total : ℕ) → (rt < 32) × (rs < 32) × (imm < 2 ^ 16) → v + (rt * 2 ^ first_bit Rt + (rs * 2 ^ first_bit Rs + (imm + 0))) ≡ total → total < 2 ^ 32
    → word_meaning v (Register Rt ∷ (Register Rs ∷ (Signed ∷ []))) (listed_operands (codes " ") (w.Register rt ∷ (w.Register rs ∷ (w.Signed imm ∷ [])))) ≡ word total
signed_immediate v rt rs imm total h is fits =
    to_word v (Register Rt ∷ (Register Rs ∷ (Signed ∷ []))) (w.Register rt) (w.Register rs ∷ (w.Signed imm ∷ [])) (rt * 2 ^ first_bit Rt + (rs * 2 ^ first_bit Rs + (imm + 0))) total
    (with_register Rt rt (Register Rs ∷ (Signed ∷ [])) (w.Register rs ∷ (w.Signed imm ∷ [])) (rs * 2 ^ first_bit Rs + (imm + 0)) h.0 (with_register Rs rs (Signed ∷ []) (w.Signed imm ∷ []) (imm + 0) h.1 (last_signed imm h.2))) is fits

unsigned_immediate : (v : ℕ) (rt rs imm total : ℕ) → (rt < 32) × (rs < 32) × (imm < 2 ^ 16) → v + (rt * 2 ^ first_bit Rt + (rs * 2 ^ first_bit Rs + (imm * 2 ^ 0 + 0))) ≡ total → total < 2 ^ 32
    → word_meaning v (Register Rt ∷ (Register Rs ∷ (Unsigned ∷ []))) (listed_operands (codes " ") (w.Register rt ∷ (w.Register rs ∷ (w.Number imm ∷ [])))) ≡ word total
unsigned_immediate v rt rs imm total h is fits =
    to_word v (Register Rt ∷ (Register Rs ∷ (Unsigned ∷ []))) (w.Register rt) (w.Register rs ∷ (w.Number imm ∷ [])) (rt * 2 ^ first_bit Rt + (rs * 2 ^ first_bit Rs + (imm * 2 ^ 0 + 0))) total
    (with_register Rt rt (Register Rs ∷ (Unsigned ∷ [])) (w.Register rs ∷ (w.Number imm ∷ [])) (rs * 2 ^ first_bit Rs + (imm * 2 ^ 0 + 0)) h.0 (with_register Rs rs (Unsigned ∷ []) (w.Number imm ∷ []) (imm * 2 ^ 0 + 0) h.1 (last_unsigned imm h.2))) is fits

upper_immediate : (v : ℕ) (rt imm total : ℕ) → (rt < 32) × (imm < 2 ^ 16) → v + (rt * 2 ^ first_bit Rt + (imm * 2 ^ 0 + 0)) ≡ total → total < 2 ^ 32
    → word_meaning v (Register Rt ∷ (Unsigned ∷ [])) (listed_operands (codes " ") (w.Register rt ∷ (w.Number imm ∷ []))) ≡ word total
upper_immediate v rt imm total h is fits =
    to_word v (Register Rt ∷ (Unsigned ∷ [])) (w.Register rt) (w.Number imm ∷ []) (rt * 2 ^ first_bit Rt + (imm * 2 ^ 0 + 0)) total
    (with_register Rt rt (Unsigned ∷ []) (w.Number imm ∷ []) (imm * 2 ^ 0 + 0) h.0 (last_unsigned imm h.1)) is fits

special_register : (v : ℕ) (rt special total : ℕ) → (rt < 32) × (special ≤ 8) → v + (rt * 2 ^ first_bit Rt + (special * 2 ^ 11 + 0)) ≡ total → total < 2 ^ 32
    → word_meaning v (Register Rt ∷ (Special ∷ [])) (listed_operands (codes " ") (w.Register rt ∷ (w.Special special ∷ []))) ≡ word total
special_register v rt special total h is fits =
    to_word v (Register Rt ∷ (Special ∷ [])) (w.Register rt) (w.Special special ∷ []) (rt * 2 ^ first_bit Rt + (special * 2 ^ 11 + 0)) total
    (with_register Rt rt (Special ∷ []) (w.Special special ∷ []) (special * 2 ^ 11 + 0) h.0 (last_special special h.1)) is fits

memory_word : (v : ℕ) (rt rs imm total : ℕ) → (rt < 32) × (rs < 32) × (imm < 2 ^ 16) → v + (rt * 2 ^ first_bit Rt + (imm + rs * 2 ^ 21 + 0)) ≡ total → total < 2 ^ 32
    → word_meaning v (Register Rt ∷ (Memory ∷ [])) (listed_operands (codes " ") (w.Register rt ∷ (w.Address imm rs ∷ []))) ≡ word total
memory_word v rt rs imm total h is fits =
    to_word v (Register Rt ∷ (Memory ∷ [])) (w.Register rt) (w.Address imm rs ∷ []) (rt * 2 ^ first_bit Rt + (imm + rs * 2 ^ 21 + 0)) total
    (with_register Rt rt (Memory ∷ []) (w.Address imm rs ∷ []) (imm + rs * 2 ^ 21 + 0) h.0 (last_memory imm rs h.2 h.1)) is fits

-- each row, by its shape
pub row_back : (i : Inst) → InRange i → instruction (form_of (mnemonic_of i)) (listed_operands (codes " ") (operands i)) ≡ word (encoding i)
unfolding form_of forms
row_back (Sll rd rt sa) h = shift 0x00000000 rd rt sa (encoding (Sll rd rt sa)) h (omega arith) (omega arith)
row_back (Srl rd rt sa) h = shift 0x00000002 rd rt sa (encoding (Srl rd rt sa)) h (omega arith) (omega arith)
row_back (Sra rd rt sa) h = shift 0x00000003 rd rt sa (encoding (Sra rd rt sa)) h (omega arith) (omega arith)
row_back (Sllv rd rt rs) h = three_registers 0x00000004 Rd Rt Rs rd rt rs (encoding (Sllv rd rt rs)) h (omega arith) (omega arith)
row_back (Srlv rd rt rs) h = three_registers 0x00000006 Rd Rt Rs rd rt rs (encoding (Srlv rd rt rs)) h (omega arith) (omega arith)
row_back (Srav rd rt rs) h = three_registers 0x00000007 Rd Rt Rs rd rt rs (encoding (Srav rd rt rs)) h (omega arith) (omega arith)
row_back (Jr rs) h = one_register 0x00000008 Rs rs (encoding (Jr rs)) h (omega arith) (omega arith)
row_back (Jalr rd rs) h = two_registers 0x00000009 Rd Rs rd rs (encoding (Jalr rd rs)) h (omega arith) (omega arith)
row_back (Syscall code) h = syscall_back code h
row_back (Add rd rs rt) h = three_registers 0x00000020 Rd Rs Rt rd rs rt (encoding (Add rd rs rt)) h (omega arith) (omega arith)
row_back (Addu rd rs rt) h = three_registers 0x00000021 Rd Rs Rt rd rs rt (encoding (Addu rd rs rt)) h (omega arith) (omega arith)
row_back (Sub rd rs rt) h = three_registers 0x00000022 Rd Rs Rt rd rs rt (encoding (Sub rd rs rt)) h (omega arith) (omega arith)
row_back (Subu rd rs rt) h = three_registers 0x00000023 Rd Rs Rt rd rs rt (encoding (Subu rd rs rt)) h (omega arith) (omega arith)
row_back (And rd rs rt) h = three_registers 0x00000024 Rd Rs Rt rd rs rt (encoding (And rd rs rt)) h (omega arith) (omega arith)
row_back (Or rd rs rt) h = three_registers 0x00000025 Rd Rs Rt rd rs rt (encoding (Or rd rs rt)) h (omega arith) (omega arith)
row_back (Xor rd rs rt) h = three_registers 0x00000026 Rd Rs Rt rd rs rt (encoding (Xor rd rs rt)) h (omega arith) (omega arith)
row_back (Nor rd rs rt) h = three_registers 0x00000027 Rd Rs Rt rd rs rt (encoding (Nor rd rs rt)) h (omega arith) (omega arith)
row_back (Slt rd rs rt) h = three_registers 0x0000002a Rd Rs Rt rd rs rt (encoding (Slt rd rs rt)) h (omega arith) (omega arith)
row_back (Sltu rd rs rt) h = three_registers 0x0000002b Rd Rs Rt rd rs rt (encoding (Sltu rd rs rt)) h (omega arith) (omega arith)
row_back (Bltz rs imm) h = branch_on_one 0x04000000 rs imm (encoding (Bltz rs imm)) h (omega arith) (omega arith)
row_back (Bgez rs imm) h = branch_on_one 0x04010000 rs imm (encoding (Bgez rs imm)) h (omega arith) (omega arith)
row_back (J index) h = jump 0x08000000 index (encoding (J index)) h (omega arith) (omega arith)
row_back (Jal index) h = jump 0x0c000000 index (encoding (Jal index)) h (omega arith) (omega arith)
row_back (Beq rs rt imm) h = branch_on_two 0x10000000 rs rt imm (encoding (Beq rs rt imm)) h (omega arith) (omega arith)
row_back (Bne rs rt imm) h = branch_on_two 0x14000000 rs rt imm (encoding (Bne rs rt imm)) h (omega arith) (omega arith)
row_back (Blez rs imm) h = branch_on_one 0x18000000 rs imm (encoding (Blez rs imm)) h (omega arith) (omega arith)
row_back (Bgtz rs imm) h = branch_on_one 0x1c000000 rs imm (encoding (Bgtz rs imm)) h (omega arith) (omega arith)
row_back (Addi rt rs imm) h = signed_immediate 0x20000000 rt rs imm (encoding (Addi rt rs imm)) h (omega arith) (omega arith)
row_back (Addiu rt rs imm) h = signed_immediate 0x24000000 rt rs imm (encoding (Addiu rt rs imm)) h (omega arith) (omega arith)
row_back (Slti rt rs imm) h = signed_immediate 0x28000000 rt rs imm (encoding (Slti rt rs imm)) h (omega arith) (omega arith)
row_back (Sltiu rt rs imm) h = signed_immediate 0x2c000000 rt rs imm (encoding (Sltiu rt rs imm)) h (omega arith) (omega arith)
row_back (Andi rt rs imm) h = unsigned_immediate 0x30000000 rt rs imm (encoding (Andi rt rs imm)) h (omega arith) (omega arith)
row_back (Ori rt rs imm) h = unsigned_immediate 0x34000000 rt rs imm (encoding (Ori rt rs imm)) h (omega arith) (omega arith)
row_back (Xori rt rs imm) h = unsigned_immediate 0x38000000 rt rs imm (encoding (Xori rt rs imm)) h (omega arith) (omega arith)
row_back (Lui rt imm) h = upper_immediate 0x3c000000 rt imm (encoding (Lui rt imm)) h (omega arith) (omega arith)
row_back (Mfc0 rt special) h = special_register 0x40000000 rt special (encoding (Mfc0 rt special)) h (omega arith) (omega arith)
row_back (Mtc0 rt special) h = special_register 0x40800000 rt special (encoding (Mtc0 rt special)) h (omega arith) (omega arith)
row_back Eret h = refl
row_back (Lw rt rs imm) h = memory_word 0x8c000000 rt rs imm (encoding (Lw rt rs imm)) h (omega arith) (omega arith)
row_back (Sw rt rs imm) h = memory_word 0xac000000 rt rs imm (encoding (Sw rt rs imm)) h (omega arith) (omega arith)
row_back (Mult rs rt) h = two_registers 0x00000018 Rs Rt rs rt (encoding (Mult rs rt)) h (omega arith) (omega arith)
row_back (Multu rs rt) h = two_registers 0x00000019 Rs Rt rs rt (encoding (Multu rs rt)) h (omega arith) (omega arith)
row_back (Div rs rt) h = two_registers 0x0000001a Rs Rt rs rt (encoding (Div rs rt)) h (omega arith) (omega arith)
row_back (Divu rs rt) h = two_registers 0x0000001b Rs Rt rs rt (encoding (Divu rs rt)) h (omega arith) (omega arith)
row_back (Mfhi rd) h = one_register 0x00000010 Rd rd (encoding (Mfhi rd)) h (omega arith) (omega arith)
row_back (Mthi rs) h = one_register 0x00000011 Rs rs (encoding (Mthi rs)) h (omega arith) (omega arith)
row_back (Mflo rd) h = one_register 0x00000012 Rd rd (encoding (Mflo rd)) h (omega arith) (omega arith)
row_back (Mtlo rs) h = one_register 0x00000013 Rs rs (encoding (Mtlo rs)) h (omega arith) (omega arith)

-- a mnemonic is no directive
pub named_row : (i : Inst) (rest : List ℕ) → named (mnemonic_of i) rest ≡ instruction (form_of (mnemonic_of i)) rest
named_row (Sll _ _ _) rest = refl
named_row (Srl _ _ _) rest = refl
named_row (Sra _ _ _) rest = refl
named_row (Sllv _ _ _) rest = refl
named_row (Srlv _ _ _) rest = refl
named_row (Srav _ _ _) rest = refl
named_row (Jr _) rest = refl
named_row (Jalr _ _) rest = refl
named_row (Syscall _) rest = refl
named_row (Add _ _ _) rest = refl
named_row (Addu _ _ _) rest = refl
named_row (Sub _ _ _) rest = refl
named_row (Subu _ _ _) rest = refl
named_row (And _ _ _) rest = refl
named_row (Or _ _ _) rest = refl
named_row (Xor _ _ _) rest = refl
named_row (Nor _ _ _) rest = refl
named_row (Slt _ _ _) rest = refl
named_row (Sltu _ _ _) rest = refl
named_row (Bltz _ _) rest = refl
named_row (Bgez _ _) rest = refl
named_row (J _) rest = refl
named_row (Jal _) rest = refl
named_row (Beq _ _ _) rest = refl
named_row (Bne _ _ _) rest = refl
named_row (Blez _ _) rest = refl
named_row (Bgtz _ _) rest = refl
named_row (Addi _ _ _) rest = refl
named_row (Addiu _ _ _) rest = refl
named_row (Slti _ _ _) rest = refl
named_row (Sltiu _ _ _) rest = refl
named_row (Andi _ _ _) rest = refl
named_row (Ori _ _ _) rest = refl
named_row (Xori _ _ _) rest = refl
named_row (Lui _ _) rest = refl
named_row (Mfc0 _ _) rest = refl
named_row (Mtc0 _ _) rest = refl
named_row Eret rest = refl
named_row (Lw _ _ _) rest = refl
named_row (Sw _ _ _) rest = refl
named_row (Mult _ _) rest = refl
named_row (Multu _ _) rest = refl
named_row (Div _ _) rest = refl
named_row (Divu _ _) rest = refl
named_row (Mfhi _) rest = refl
named_row (Mthi _) rest = refl
named_row (Mflo _) rest = refl
named_row (Mtlo _) rest = refl

-- what a mnemonic's bytes are
abbrev pub in_mnemonic : ℕ → Bool
in_mnemonic c = in_name c && token c

pub mnemonic_bytes : (i : Inst) → list_all in_mnemonic (mnemonic_of i) ≡ true
mnemonic_bytes (Sll _ _ _) = refl
mnemonic_bytes (Srl _ _ _) = refl
mnemonic_bytes (Sra _ _ _) = refl
mnemonic_bytes (Sllv _ _ _) = refl
mnemonic_bytes (Srlv _ _ _) = refl
mnemonic_bytes (Srav _ _ _) = refl
mnemonic_bytes (Jr _) = refl
mnemonic_bytes (Jalr _ _) = refl
mnemonic_bytes (Syscall _) = refl
mnemonic_bytes (Add _ _ _) = refl
mnemonic_bytes (Addu _ _ _) = refl
mnemonic_bytes (Sub _ _ _) = refl
mnemonic_bytes (Subu _ _ _) = refl
mnemonic_bytes (And _ _ _) = refl
mnemonic_bytes (Or _ _ _) = refl
mnemonic_bytes (Xor _ _ _) = refl
mnemonic_bytes (Nor _ _ _) = refl
mnemonic_bytes (Slt _ _ _) = refl
mnemonic_bytes (Sltu _ _ _) = refl
mnemonic_bytes (Bltz _ _) = refl
mnemonic_bytes (Bgez _ _) = refl
mnemonic_bytes (J _) = refl
mnemonic_bytes (Jal _) = refl
mnemonic_bytes (Beq _ _ _) = refl
mnemonic_bytes (Bne _ _ _) = refl
mnemonic_bytes (Blez _ _) = refl
mnemonic_bytes (Bgtz _ _) = refl
mnemonic_bytes (Addi _ _ _) = refl
mnemonic_bytes (Addiu _ _ _) = refl
mnemonic_bytes (Slti _ _ _) = refl
mnemonic_bytes (Sltiu _ _ _) = refl
mnemonic_bytes (Andi _ _ _) = refl
mnemonic_bytes (Ori _ _ _) = refl
mnemonic_bytes (Xori _ _ _) = refl
mnemonic_bytes (Lui _ _) = refl
mnemonic_bytes (Mfc0 _ _) = refl
mnemonic_bytes (Mtc0 _ _) = refl
mnemonic_bytes Eret = refl
mnemonic_bytes (Lw _ _ _) = refl
mnemonic_bytes (Sw _ _ _) = refl
mnemonic_bytes (Mult _ _) = refl
mnemonic_bytes (Multu _ _) = refl
mnemonic_bytes (Div _ _) = refl
mnemonic_bytes (Divu _ _) = refl
mnemonic_bytes (Mfhi _) = refl
mnemonic_bytes (Mthi _) = refl
mnemonic_bytes (Mflo _) = refl
mnemonic_bytes (Mtlo _) = refl

pub mnemonic_some : (i : Inst) → 0 < length (mnemonic_of i)
mnemonic_some (Sll _ _ _) = lit< tt
mnemonic_some (Srl _ _ _) = lit< tt
mnemonic_some (Sra _ _ _) = lit< tt
mnemonic_some (Sllv _ _ _) = lit< tt
mnemonic_some (Srlv _ _ _) = lit< tt
mnemonic_some (Srav _ _ _) = lit< tt
mnemonic_some (Jr _) = lit< tt
mnemonic_some (Jalr _ _) = lit< tt
mnemonic_some (Syscall _) = lit< tt
mnemonic_some (Add _ _ _) = lit< tt
mnemonic_some (Addu _ _ _) = lit< tt
mnemonic_some (Sub _ _ _) = lit< tt
mnemonic_some (Subu _ _ _) = lit< tt
mnemonic_some (And _ _ _) = lit< tt
mnemonic_some (Or _ _ _) = lit< tt
mnemonic_some (Xor _ _ _) = lit< tt
mnemonic_some (Nor _ _ _) = lit< tt
mnemonic_some (Slt _ _ _) = lit< tt
mnemonic_some (Sltu _ _ _) = lit< tt
mnemonic_some (Bltz _ _) = lit< tt
mnemonic_some (Bgez _ _) = lit< tt
mnemonic_some (J _) = lit< tt
mnemonic_some (Jal _) = lit< tt
mnemonic_some (Beq _ _ _) = lit< tt
mnemonic_some (Bne _ _ _) = lit< tt
mnemonic_some (Blez _ _) = lit< tt
mnemonic_some (Bgtz _ _) = lit< tt
mnemonic_some (Addi _ _ _) = lit< tt
mnemonic_some (Addiu _ _ _) = lit< tt
mnemonic_some (Slti _ _ _) = lit< tt
mnemonic_some (Sltiu _ _ _) = lit< tt
mnemonic_some (Andi _ _ _) = lit< tt
mnemonic_some (Ori _ _ _) = lit< tt
mnemonic_some (Xori _ _ _) = lit< tt
mnemonic_some (Lui _ _) = lit< tt
mnemonic_some (Mfc0 _ _) = lit< tt
mnemonic_some (Mtc0 _ _) = lit< tt
mnemonic_some Eret = lit< tt
mnemonic_some (Lw _ _ _) = lit< tt
mnemonic_some (Sw _ _ _) = lit< tt
mnemonic_some (Mult _ _) = lit< tt
mnemonic_some (Multu _ _) = lit< tt
mnemonic_some (Div _ _) = lit< tt
mnemonic_some (Divu _ _) = lit< tt
mnemonic_some (Mfhi _) = lit< tt
mnemonic_some (Mthi _) = lit< tt
mnemonic_some (Mflo _) = lit< tt
mnemonic_some (Mtlo _) = lit< tt

pub operands_small : (i : Inst) → InRange i → AllSmall (operands i)
operands_small (Sll rd rt sa) h = (h.0, (h.1, (omega arith, tt)))
operands_small (Srl rd rt sa) h = (h.0, (h.1, (omega arith, tt)))
operands_small (Sra rd rt sa) h = (h.0, (h.1, (omega arith, tt)))
operands_small (Sllv rd rt rs) h = (h.0, (h.1, (h.2, tt)))
operands_small (Srlv rd rt rs) h = (h.0, (h.1, (h.2, tt)))
operands_small (Srav rd rt rs) h = (h.0, (h.1, (h.2, tt)))
operands_small (Jr rs) h = (h, tt)
operands_small (Jalr rd rs) h = (h.0, (h.1, tt))
operands_small (Syscall code) h =
    elim (cases_eq code 0) as (λ _. AllSmall (operands (Syscall code))) [
      | inl none ↦ subst (λ c. AllSmall (operands (Syscall c))) (sym none) tt
      | inr some ↦ subst (λ b. AllSmall (cond b [] (w.Number code ∷ []))) (sym (ne_eqb code 0 some)) (omega arith, tt)
    ]
operands_small (Add rd rs rt) h = (h.0, (h.1, (h.2, tt)))
operands_small (Addu rd rs rt) h = (h.0, (h.1, (h.2, tt)))
operands_small (Sub rd rs rt) h = (h.0, (h.1, (h.2, tt)))
operands_small (Subu rd rs rt) h = (h.0, (h.1, (h.2, tt)))
operands_small (And rd rs rt) h = (h.0, (h.1, (h.2, tt)))
operands_small (Or rd rs rt) h = (h.0, (h.1, (h.2, tt)))
operands_small (Xor rd rs rt) h = (h.0, (h.1, (h.2, tt)))
operands_small (Nor rd rs rt) h = (h.0, (h.1, (h.2, tt)))
operands_small (Slt rd rs rt) h = (h.0, (h.1, (h.2, tt)))
operands_small (Sltu rd rs rt) h = (h.0, (h.1, (h.2, tt)))
operands_small (Bltz rs imm) h = (h.0, (h.1, tt))
operands_small (Bgez rs imm) h = (h.0, (h.1, tt))
operands_small (J index) h = (omega arith, tt)
operands_small (Jal index) h = (omega arith, tt)
operands_small (Beq rs rt imm) h = (h.0, (h.1, (h.2, tt)))
operands_small (Bne rs rt imm) h = (h.0, (h.1, (h.2, tt)))
operands_small (Blez rs imm) h = (h.0, (h.1, tt))
operands_small (Bgtz rs imm) h = (h.0, (h.1, tt))
operands_small (Addi rt rs imm) h = (h.0, (h.1, (h.2, tt)))
operands_small (Addiu rt rs imm) h = (h.0, (h.1, (h.2, tt)))
operands_small (Slti rt rs imm) h = (h.0, (h.1, (h.2, tt)))
operands_small (Sltiu rt rs imm) h = (h.0, (h.1, (h.2, tt)))
operands_small (Andi rt rs imm) h = (h.0, (h.1, (omega arith, tt)))
operands_small (Ori rt rs imm) h = (h.0, (h.1, (omega arith, tt)))
operands_small (Xori rt rs imm) h = (h.0, (h.1, (omega arith, tt)))
operands_small (Lui rt imm) h = (h.0, (omega arith, tt))
operands_small (Mfc0 rt special) h = (h.0, (omega arith, tt))
operands_small (Mtc0 rt special) h = (h.0, (omega arith, tt))
operands_small Eret h = tt
operands_small (Lw rt rs imm) h = (h.0, ((h.2, h.1), tt))
operands_small (Sw rt rs imm) h = (h.0, ((h.2, h.1), tt))
operands_small (Mult rs rt) h = (h.0, (h.1, tt))
operands_small (Multu rs rt) h = (h.0, (h.1, tt))
operands_small (Div rs rt) h = (h.0, (h.1, tt))
operands_small (Divu rs rt) h = (h.0, (h.1, tt))
operands_small (Mfhi rd) h = (h, tt)
operands_small (Mthi rs) h = (h, tt)
operands_small (Mflo rd) h = (h, tt)
operands_small (Mtlo rs) h = (h, tt)
