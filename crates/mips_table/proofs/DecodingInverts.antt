-- Decoding takes back what encoding made, and nothing else. The one direction is by the fields of each word that was
-- encoded; the other by the tests of decoding, under each of which the word is that of the instruction it gives.
use Rattle.std.specs.Prelude.{◌==◌, ◌&&◌, nat_le}
use Rattle.std.proofs.Common.{◌≡◌, ℕ, ◌+◌, ◌*◌, ◌/◌, ◌%◌, ◌^◌, ◌<◌, Bool, true, false, cond, eqb, Option, Some, None, refl, ap, ◌∙◌, arith}
use Rattle.std.proofs.lemmas.Bool.{le-leb, eqb-true}
use Rattle.std.proofs.lemmas.Bool.Decides.{nat_tests}
use Rattle.std.specs.Option.{IfSome}
use Rattle.mips_table.specs.declared.fields.Fields.{Fields}
use Rattle.mips_table.specs.declared.inst.Inst.{Inst}
use Rattle.mips_table.specs.declared.inst.Inst.TheVariants.{Sll, Srl, Sra, Sllv, Srlv, Srav, Jr, Jalr, Syscall, Add, Addu, Sub, Subu, And, Or, Xor, Nor, Slt, Sltu, Bltz, Bgez, J, Jal, Beq, Bne, Blez, Bgtz, Addi, Addiu, Slti, Sltiu, Andi, Ori, Xori, Lui, Mfc0, Mtc0, Eret, Lw, Sw, Mult, Multu, Div, Divu, Mfhi, Mthi, Mflo, Mtlo}
use Rattle.mips_table.specs.Word.{r_word, i_word, j_word, code_word, word_fields}
use Rattle.mips_table.specs.Encoding.{InRange, encoding}
use Rattle.mips_table.specs.Decoding.{inst_of, decoding, by_funct, of_system, by_sign, only_if}

-- the fields of a word that was made of register fields
r_fields : (op rs rt rd sa fn : ℕ) → rs < 32 → rt < 32 → rd < 32 → sa < 32 → fn < 64 → word_fields (r_word op rs rt rd sa fn) ≡ record {
  opcode = op;
  rs = rs;
  rt = rt;
  rd = rd;
  sa = sa;
  funct = fn;
  imm = rd * 2 ^ 11 + sa * 2 ^ 6 + fn;
  index = rs * 2 ^ 21 + rt * 2 ^ 16 + rd * 2 ^ 11 + sa * 2 ^ 6 + fn;
  code = rs * 2 ^ 15 + rt * 2 ^ 10 + rd * 2 ^ 5 + sa;
}
r_fields op rs rt rd sa fn a b c d e =
    let w : ℕ = r_word op rs rt rd sa fn in
    let e1 : w / 2 ^ 26 ≡ op = omega arith in
    let e2 : w / 2 ^ 21 % 2 ^ 5 ≡ rs = omega arith in
    let e3 : w / 2 ^ 16 % 2 ^ 5 ≡ rt = omega arith in
    let e4 : w / 2 ^ 11 % 2 ^ 5 ≡ rd = omega arith in
    let e5 : w / 2 ^ 6 % 2 ^ 5 ≡ sa = omega arith in
    let e6 : w % 2 ^ 6 ≡ fn = omega arith in
    let e7 : w % 2 ^ 16 ≡ rd * 2 ^ 11 + sa * 2 ^ 6 + fn = omega arith in
    let e8 : w % 2 ^ 26 ≡ rs * 2 ^ 21 + rt * 2 ^ 16 + rd * 2 ^ 11 + sa * 2 ^ 6 + fn = omega arith in
    let e9 : w / 2 ^ 6 % 2 ^ 20 ≡ rs * 2 ^ 15 + rt * 2 ^ 10 + rd * 2 ^ 5 + sa = omega arith in
    cc

-- likewise with an immediate
i_fields : (op rs rt imm : ℕ) → rs < 32 → rt < 32 → imm < 2 ^ 16 → word_fields (i_word op rs rt imm) ≡ record {
  opcode = op;
  rs = rs;
  rt = rt;
  rd = imm / 2 ^ 11;
  sa = imm / 2 ^ 6 % 2 ^ 5;
  funct = imm % 2 ^ 6;
  imm = imm;
  index = rs * 2 ^ 21 + rt * 2 ^ 16 + imm;
  code = rs * 2 ^ 15 + rt * 2 ^ 10 + imm / 2 ^ 6;
}
i_fields op rs rt imm a b c =
    let w : ℕ = i_word op rs rt imm in
    let e1 : w / 2 ^ 26 ≡ op = omega arith in
    let e2 : w / 2 ^ 21 % 2 ^ 5 ≡ rs = omega arith in
    let e3 : w / 2 ^ 16 % 2 ^ 5 ≡ rt = omega arith in
    let e4 : w / 2 ^ 11 % 2 ^ 5 ≡ imm / 2 ^ 11 = omega arith in
    let e5 : w / 2 ^ 6 % 2 ^ 5 ≡ imm / 2 ^ 6 % 2 ^ 5 = omega arith in
    let e6 : w % 2 ^ 6 ≡ imm % 2 ^ 6 = omega arith in
    let e7 : w % 2 ^ 16 ≡ imm = omega arith in
    let e8 : w % 2 ^ 26 ≡ rs * 2 ^ 21 + rt * 2 ^ 16 + imm = omega arith in
    let e9 : w / 2 ^ 6 % 2 ^ 20 ≡ rs * 2 ^ 15 + rt * 2 ^ 10 + imm / 2 ^ 6 = omega arith in
    cc

-- likewise with a jump index, and with a system call's code
j_opcode : (op index : ℕ) → index < 2 ^ 26 → (j_word op index / 2 ^ 26 ≡ op) × (j_word op index % 2 ^ 26 ≡ index)
j_opcode op index h = (omega arith, omega arith)

c_fields : (code : ℕ) → code < 2 ^ 20 → (code_word code 12 / 2 ^ 26 ≡ 0) × (code_word code 12 % 2 ^ 6 ≡ 12) × (code_word code 12 / 2 ^ 6 % 2 ^ 20 ≡ code)
c_fields code h = (omega arith, omega arith, omega arith)

-- what was encoded is decoded
pub decoding-encoding : (i : Inst) → InRange i → decoding (encoding i) ≡ Some i
decoding-encoding (Sll rd rt sa) h = ap inst_of (r_fields 0 0 rt rd sa 0 (omega arith) h.1 h.0 h.2 (omega arith))
decoding-encoding (Srl rd rt sa) h = ap inst_of (r_fields 0 0 rt rd sa 2 (omega arith) h.1 h.0 h.2 (omega arith))
decoding-encoding (Sra rd rt sa) h = ap inst_of (r_fields 0 0 rt rd sa 3 (omega arith) h.1 h.0 h.2 (omega arith))
decoding-encoding (Sllv rd rt rs) h = ap inst_of (r_fields 0 rs rt rd 0 4 h.2 h.1 h.0 (omega arith) (omega arith))
decoding-encoding (Srlv rd rt rs) h = ap inst_of (r_fields 0 rs rt rd 0 6 h.2 h.1 h.0 (omega arith) (omega arith))
decoding-encoding (Srav rd rt rs) h = ap inst_of (r_fields 0 rs rt rd 0 7 h.2 h.1 h.0 (omega arith) (omega arith))
decoding-encoding (Jr rs) h = ap inst_of (r_fields 0 rs 0 0 0 8 h (omega arith) (omega arith) (omega arith) (omega arith))
decoding-encoding (Jalr rd rs) h = ap inst_of (r_fields 0 rs 0 rd 0 9 h.1 (omega arith) h.0 (omega arith) (omega arith))
decoding-encoding (Syscall code) h = let e = c_fields code h in rw (e.0, e.1, e.2) refl
decoding-encoding (Add rd rs rt) h = ap inst_of (r_fields 0 rs rt rd 0 32 h.1 h.2 h.0 (omega arith) (omega arith))
decoding-encoding (Addu rd rs rt) h = ap inst_of (r_fields 0 rs rt rd 0 33 h.1 h.2 h.0 (omega arith) (omega arith))
decoding-encoding (Sub rd rs rt) h = ap inst_of (r_fields 0 rs rt rd 0 34 h.1 h.2 h.0 (omega arith) (omega arith))
decoding-encoding (Subu rd rs rt) h = ap inst_of (r_fields 0 rs rt rd 0 35 h.1 h.2 h.0 (omega arith) (omega arith))
decoding-encoding (And rd rs rt) h = ap inst_of (r_fields 0 rs rt rd 0 36 h.1 h.2 h.0 (omega arith) (omega arith))
decoding-encoding (Or rd rs rt) h = ap inst_of (r_fields 0 rs rt rd 0 37 h.1 h.2 h.0 (omega arith) (omega arith))
decoding-encoding (Xor rd rs rt) h = ap inst_of (r_fields 0 rs rt rd 0 38 h.1 h.2 h.0 (omega arith) (omega arith))
decoding-encoding (Nor rd rs rt) h = ap inst_of (r_fields 0 rs rt rd 0 39 h.1 h.2 h.0 (omega arith) (omega arith))
decoding-encoding (Slt rd rs rt) h = ap inst_of (r_fields 0 rs rt rd 0 42 h.1 h.2 h.0 (omega arith) (omega arith))
decoding-encoding (Sltu rd rs rt) h = ap inst_of (r_fields 0 rs rt rd 0 43 h.1 h.2 h.0 (omega arith) (omega arith))
decoding-encoding (Bltz rs imm) h = ap inst_of (i_fields 1 rs 0 imm h.0 (omega arith) h.1)
decoding-encoding (Bgez rs imm) h = ap inst_of (i_fields 1 rs 1 imm h.0 (omega arith) h.1)
decoding-encoding (J index) h = let e = j_opcode 2 index h in rw (e.0, e.1) refl
decoding-encoding (Jal index) h = let e = j_opcode 3 index h in rw (e.0, e.1) refl
decoding-encoding (Beq rs rt imm) h = ap inst_of (i_fields 4 rs rt imm h.0 h.1 h.2)
decoding-encoding (Bne rs rt imm) h = ap inst_of (i_fields 5 rs rt imm h.0 h.1 h.2)
decoding-encoding (Blez rs imm) h = ap inst_of (i_fields 6 rs 0 imm h.0 (omega arith) h.1)
decoding-encoding (Bgtz rs imm) h = ap inst_of (i_fields 7 rs 0 imm h.0 (omega arith) h.1)
decoding-encoding (Addi rt rs imm) h = ap inst_of (i_fields 8 rs rt imm h.1 h.0 h.2)
decoding-encoding (Addiu rt rs imm) h = ap inst_of (i_fields 9 rs rt imm h.1 h.0 h.2)
decoding-encoding (Slti rt rs imm) h = ap inst_of (i_fields 10 rs rt imm h.1 h.0 h.2)
decoding-encoding (Sltiu rt rs imm) h = ap inst_of (i_fields 11 rs rt imm h.1 h.0 h.2)
decoding-encoding (Andi rt rs imm) h = ap inst_of (i_fields 12 rs rt imm h.1 h.0 h.2)
decoding-encoding (Ori rt rs imm) h = ap inst_of (i_fields 13 rs rt imm h.1 h.0 h.2)
decoding-encoding (Xori rt rs imm) h = ap inst_of (i_fields 14 rs rt imm h.1 h.0 h.2)
decoding-encoding (Lui rt imm) h = ap inst_of (i_fields 15 0 rt imm (omega arith) h.0 h.1)
decoding-encoding (Mfc0 rt special) h = ap inst_of (r_fields 16 0 rt special 0 0 (omega arith) h.0 (omega arith) (omega arith) (omega arith)) ∙ ap (λ b. only_if b (Mfc0 rt special)) (le-leb special 8 h.1)
decoding-encoding (Mtc0 rt special) h = ap inst_of (r_fields 16 4 rt special 0 0 (omega arith) h.0 (omega arith) (omega arith) (omega arith)) ∙ ap (λ b. only_if b (Mtc0 rt special)) (le-leb special 8 h.1)
decoding-encoding Eret h = ap inst_of (r_fields 16 16 0 0 0 24 (omega arith) (omega arith) (omega arith) (omega arith) (omega arith))
decoding-encoding (Lw rt rs imm) h = ap inst_of (i_fields 35 rs rt imm h.1 h.0 h.2)
decoding-encoding (Sw rt rs imm) h = ap inst_of (i_fields 43 rs rt imm h.1 h.0 h.2)
decoding-encoding (Mult rs rt) h = ap inst_of (r_fields 0 rs rt 0 0 24 h.0 h.1 (omega arith) (omega arith) (omega arith))
decoding-encoding (Multu rs rt) h = ap inst_of (r_fields 0 rs rt 0 0 25 h.0 h.1 (omega arith) (omega arith) (omega arith))
decoding-encoding (Div rs rt) h = ap inst_of (r_fields 0 rs rt 0 0 26 h.0 h.1 (omega arith) (omega arith) (omega arith))
decoding-encoding (Divu rs rt) h = ap inst_of (r_fields 0 rs rt 0 0 27 h.0 h.1 (omega arith) (omega arith) (omega arith))
decoding-encoding (Mfhi rd) h = ap inst_of (r_fields 0 0 0 rd 0 16 (omega arith) (omega arith) h (omega arith) (omega arith))
decoding-encoding (Mthi rs) h = ap inst_of (r_fields 0 rs 0 0 0 17 h (omega arith) (omega arith) (omega arith) (omega arith))
decoding-encoding (Mflo rd) h = ap inst_of (r_fields 0 0 0 rd 0 18 (omega arith) (omega arith) h (omega arith) (omega arith))
decoding-encoding (Mtlo rs) h = ap inst_of (r_fields 0 rs 0 0 0 19 h (omega arith) (omega arith) (omega arith) (omega arith))

-- a word and its fields
record Fit (w : ℕ) (f : Fields) : Type 0 where
  r : w ≡ r_word f.opcode f.rs f.rt f.rd f.sa f.funct
  i : w ≡ i_word f.opcode f.rs f.rt f.imm
  j : w ≡ j_word f.opcode f.index
  c : w ≡ f.opcode * 2 ^ 26 + f.code * 2 ^ 6 + f.funct
  rs : f.rs < 32
  rt : f.rt < 32
  rd : f.rd < 32
  sa : f.sa < 32
  imm : f.imm < 2 ^ 16
  index : f.index < 2 ^ 26
  code : f.code < 2 ^ 20

-- every word fits its fields
fit : (w : ℕ) → Fit w (word_fields w)
fit w = record {
  r = omega arith;
  i = omega arith;
  j = omega arith;
  c = omega arith;
  rs = omega arith;
  rt = omega arith;
  rd = omega arith;
  sa = omega arith;
  imm = omega arith;
  index = omega arith;
  code = omega arith;
}

-- an instruction that has this word
Has : ℕ → Inst → Type 0
Has w i = InRange i × (encoding i ≡ w)

-- where there is an instruction, it has this word
Good : ℕ → Option Inst → Type 0
Good w o = IfSome o (Has w)

-- the answers: none, an instruction, and what a test leaves
none : (w : ℕ) → Good w None
unfolding Good
none w = tt

one : (w : ℕ) (i : Inst) → Has w i → Good w (Some i)
unfolding Good
one w i h = h

either_by : (w : ℕ) (t : Bool) (a b : Option Inst) → (t ≡ true → Good w a) → Good w b → Good w (cond t a b)
either_by w true a b f g = f refl
either_by w false a b f g = g

either : (w x n : ℕ) (a b : Option Inst) → (x ≡ n → Good w a) → Good w b → Good w (cond (eqb x n) a b)
either w x n a b f g = either_by w (eqb x n) a b (λ t. f (eqb-true x n t)) g

guarded : (w : ℕ) (b : Bool) (i : Inst) → (b ≡ true → Has w i) → Good w (only_if b i)
unfolding Good
guarded w true i f = f refl
guarded w false i f = tt

-- a row of one instruction among the rows of a field: without a test, with a test, and with a field that must be 0
always : (w x n : ℕ) (i : Inst) (others : Option Inst) → (x ≡ n → Has w i) → Good w others → Good w (cond (eqb x n) (Some i) others)
always w x n i others f g = either w x n (Some i) others (λ e. one w i (f e)) g

tested : (w x n : ℕ) (t : Bool) (i : Inst) (others : Option Inst) → (x ≡ n → t ≡ true → Has w i) → Good w others → Good w (cond (eqb x n) (only_if t i) others)
tested w x n t i others f g = either w x n (only_if t i) others (λ e. guarded w t i (f e)) g

unused : (w x n field : ℕ) (i : Inst) (others : Option Inst) → (x ≡ n → field ≡ 0 → Has w i) → Good w others → Good w (cond (eqb x n) (only_if (field == 0) i) others)
unused w x n field i others f g = tested w x n (field == 0) i others (λ e b. f e (eqb-true field 0 b)) g

-- each instruction that decoding gives has the word: by function number, by sign, of the special registers, and by opcode
module _ (w : ℕ) (f : Fields) (k : Fit w f) where
  good_funct : f.opcode ≡ 0 → Good w (by_funct f)
  unfolding Has
  good_funct o =
      unused w f.funct 0 f.rs (Sll f.rd f.rt f.sa) _ (λ e z. ((omega arith, omega arith, omega arith), omega arith)) (
      unused w f.funct 2 f.rs (Srl f.rd f.rt f.sa) _ (λ e z. ((omega arith, omega arith, omega arith), omega arith)) (
      unused w f.funct 3 f.rs (Sra f.rd f.rt f.sa) _ (λ e z. ((omega arith, omega arith, omega arith), omega arith)) (
      unused w f.funct 4 f.sa (Sllv f.rd f.rt f.rs) _ (λ e z. ((omega arith, omega arith, omega arith), omega arith)) (
      unused w f.funct 6 f.sa (Srlv f.rd f.rt f.rs) _ (λ e z. ((omega arith, omega arith, omega arith), omega arith)) (
      unused w f.funct 7 f.sa (Srav f.rd f.rt f.rs) _ (λ e z. ((omega arith, omega arith, omega arith), omega arith)) (
      tested w f.funct 8 ((f.rt == 0) && (f.rd == 0) && (f.sa == 0)) (Jr f.rs) _ (λ e b. grind (arith, nat_tests)) (
      tested w f.funct 9 ((f.rt == 0) && (f.sa == 0)) (Jalr f.rd f.rs) _ (λ e b. grind (arith, nat_tests)) (
      always w f.funct 12 (Syscall f.code) _ (λ e. (omega arith, omega arith)) (
      tested w f.funct 16 ((f.rs == 0) && (f.rt == 0) && (f.sa == 0)) (Mfhi f.rd) _ (λ e b. grind (arith, nat_tests)) (
      tested w f.funct 17 ((f.rt == 0) && (f.rd == 0) && (f.sa == 0)) (Mthi f.rs) _ (λ e b. grind (arith, nat_tests)) (
      tested w f.funct 18 ((f.rs == 0) && (f.rt == 0) && (f.sa == 0)) (Mflo f.rd) _ (λ e b. grind (arith, nat_tests)) (
      tested w f.funct 19 ((f.rt == 0) && (f.rd == 0) && (f.sa == 0)) (Mtlo f.rs) _ (λ e b. grind (arith, nat_tests)) (
      tested w f.funct 24 ((f.rd == 0) && (f.sa == 0)) (Mult f.rs f.rt) _ (λ e b. grind (arith, nat_tests)) (
      tested w f.funct 25 ((f.rd == 0) && (f.sa == 0)) (Multu f.rs f.rt) _ (λ e b. grind (arith, nat_tests)) (
      tested w f.funct 26 ((f.rd == 0) && (f.sa == 0)) (Div f.rs f.rt) _ (λ e b. grind (arith, nat_tests)) (
      tested w f.funct 27 ((f.rd == 0) && (f.sa == 0)) (Divu f.rs f.rt) _ (λ e b. grind (arith, nat_tests)) (
      unused w f.funct 32 f.sa (Add f.rd f.rs f.rt) _ (λ e z. ((omega arith, omega arith, omega arith), omega arith)) (
      unused w f.funct 33 f.sa (Addu f.rd f.rs f.rt) _ (λ e z. ((omega arith, omega arith, omega arith), omega arith)) (
      unused w f.funct 34 f.sa (Sub f.rd f.rs f.rt) _ (λ e z. ((omega arith, omega arith, omega arith), omega arith)) (
      unused w f.funct 35 f.sa (Subu f.rd f.rs f.rt) _ (λ e z. ((omega arith, omega arith, omega arith), omega arith)) (
      unused w f.funct 36 f.sa (And f.rd f.rs f.rt) _ (λ e z. ((omega arith, omega arith, omega arith), omega arith)) (
      unused w f.funct 37 f.sa (Or f.rd f.rs f.rt) _ (λ e z. ((omega arith, omega arith, omega arith), omega arith)) (
      unused w f.funct 38 f.sa (Xor f.rd f.rs f.rt) _ (λ e z. ((omega arith, omega arith, omega arith), omega arith)) (
      unused w f.funct 39 f.sa (Nor f.rd f.rs f.rt) _ (λ e z. ((omega arith, omega arith, omega arith), omega arith)) (
      unused w f.funct 42 f.sa (Slt f.rd f.rs f.rt) _ (λ e z. ((omega arith, omega arith, omega arith), omega arith)) (
      unused w f.funct 43 f.sa (Sltu f.rd f.rs f.rt) _ (λ e z. ((omega arith, omega arith, omega arith), omega arith)) (
      none w)))))))))))))))))))))))))))

  good_sign : f.opcode ≡ 1 → Good w (by_sign f)
  unfolding Has
  good_sign o =
      always w f.rt 0 (Bltz f.rs f.imm) _ (λ e. ((omega arith, omega arith), omega arith)) (
      always w f.rt 1 (Bgez f.rs f.imm) _ (λ e. ((omega arith, omega arith), omega arith)) (
      none w))

  good_system : f.opcode ≡ 16 → Good w (of_system f)
  unfolding Has
  good_system o =
      tested w f.rs 0 ((f.sa == 0) && (f.funct == 0) && nat_le f.rd 8) (Mfc0 f.rt f.rd) _ (λ e b. grind (arith, nat_tests)) (
      tested w f.rs 4 ((f.sa == 0) && (f.funct == 0) && nat_le f.rd 8) (Mtc0 f.rt f.rd) _ (λ e b. grind (arith, nat_tests)) (
      tested w f.rs 16 ((f.rt == 0) && (f.rd == 0) && (f.sa == 0) && (f.funct == 0x18)) Eret _ (λ e b. grind (arith, nat_tests)) (
      none w)))

  good : Good w (inst_of f)
  unfolding Has
  good =
      either w f.opcode 0 (by_funct f) _ good_funct (
      either w f.opcode 1 (by_sign f) _ good_sign (
      always w f.opcode 2 (J f.index) _ (λ e. (omega arith, omega arith)) (
      always w f.opcode 3 (Jal f.index) _ (λ e. (omega arith, omega arith)) (
      always w f.opcode 4 (Beq f.rs f.rt f.imm) _ (λ e. ((omega arith, omega arith, omega arith), omega arith)) (
      always w f.opcode 5 (Bne f.rs f.rt f.imm) _ (λ e. ((omega arith, omega arith, omega arith), omega arith)) (
      unused w f.opcode 6 f.rt (Blez f.rs f.imm) _ (λ e z. ((omega arith, omega arith), omega arith)) (
      unused w f.opcode 7 f.rt (Bgtz f.rs f.imm) _ (λ e z. ((omega arith, omega arith), omega arith)) (
      always w f.opcode 8 (Addi f.rt f.rs f.imm) _ (λ e. ((omega arith, omega arith, omega arith), omega arith)) (
      always w f.opcode 9 (Addiu f.rt f.rs f.imm) _ (λ e. ((omega arith, omega arith, omega arith), omega arith)) (
      always w f.opcode 10 (Slti f.rt f.rs f.imm) _ (λ e. ((omega arith, omega arith, omega arith), omega arith)) (
      always w f.opcode 11 (Sltiu f.rt f.rs f.imm) _ (λ e. ((omega arith, omega arith, omega arith), omega arith)) (
      always w f.opcode 12 (Andi f.rt f.rs f.imm) _ (λ e. ((omega arith, omega arith, omega arith), omega arith)) (
      always w f.opcode 13 (Ori f.rt f.rs f.imm) _ (λ e. ((omega arith, omega arith, omega arith), omega arith)) (
      always w f.opcode 14 (Xori f.rt f.rs f.imm) _ (λ e. ((omega arith, omega arith, omega arith), omega arith)) (
      unused w f.opcode 15 f.rs (Lui f.rt f.imm) _ (λ e z. ((omega arith, omega arith), omega arith)) (
      either w f.opcode 16 (of_system f) _ good_system (
      always w f.opcode 35 (Lw f.rt f.rs f.imm) _ (λ e. ((omega arith, omega arith, omega arith), omega arith)) (
      always w f.opcode 43 (Sw f.rt f.rs f.imm) _ (λ e. ((omega arith, omega arith, omega arith), omega arith)) (
      none w)))))))))))))))))))

-- what is decoded has this word
pub encoding-decoding : (w : ℕ) → IfSome (decoding w) (λ i. InRange i × (encoding i ≡ w))
unfolding Good Has
encoding-decoding w = good w (word_fields w) (fit w)
