-- Each word of an image is a word of 32 bits: an instruction that is in range has one, and all else is zeros and addresses.
use Rattle.std.specs.Prelude.{map, replicate, All}
use Rattle.std.proofs.Common.{rules, ℕ, List, ◌++◌, arith}
use Rattle.std.proofs.lemmas.List.Elements.{All-from_recursion, All-append, All-replicate, All-map, All-weaker}
use Rattle.mips_table.specs.declared.inst.Inst.{Inst}
use Rattle.mips_table.specs.declared.inst.Inst.TheVariants.{Sll, Srl, Sra, Sllv, Srlv, Srav, Jr, Jalr, Syscall, Add, Addu, Sub, Subu, And, Or, Xor, Nor, Slt, Sltu, Bltz, Bgez, J, Jal, Beq, Bne, Blez, Bgtz, Addi, Addiu, Slti, Sltiu, Andi, Ori, Xori, Lui, Mfc0, Mtc0, Eret, Lw, Sw, Mult, Multu, Div, Divu, Mfhi, Mthi, Mflo, Mtlo}
use Rattle.mips_table.specs.Encoding.{InRange, encoding}
use Rattle.mips_table.specs.Fits.{IsWord}
use Rattle.user_c0.specs.Image.{start_code, stub_code, exits_code, loops_code, image_variables}

-- an instruction
fits : (i : Inst) → InRange i → IsWord (encoding i)
fits (Sll rd rt sa) h = let a = h.0 in let b = h.1 in let c = h.2 in omega arith
fits (Srl rd rt sa) h = let a = h.0 in let b = h.1 in let c = h.2 in omega arith
fits (Sra rd rt sa) h = let a = h.0 in let b = h.1 in let c = h.2 in omega arith
fits (Sllv rd rt rs) h = let a = h.0 in let b = h.1 in let c = h.2 in omega arith
fits (Srlv rd rt rs) h = let a = h.0 in let b = h.1 in let c = h.2 in omega arith
fits (Srav rd rt rs) h = let a = h.0 in let b = h.1 in let c = h.2 in omega arith
fits (Jr rs) h = omega arith
fits (Jalr rd rs) h = let a = h.0 in let b = h.1 in omega arith
fits (Syscall code) h = omega arith
fits (Add rd rs rt) h = let a = h.0 in let b = h.1 in let c = h.2 in omega arith
fits (Addu rd rs rt) h = let a = h.0 in let b = h.1 in let c = h.2 in omega arith
fits (Sub rd rs rt) h = let a = h.0 in let b = h.1 in let c = h.2 in omega arith
fits (Subu rd rs rt) h = let a = h.0 in let b = h.1 in let c = h.2 in omega arith
fits (And rd rs rt) h = let a = h.0 in let b = h.1 in let c = h.2 in omega arith
fits (Or rd rs rt) h = let a = h.0 in let b = h.1 in let c = h.2 in omega arith
fits (Xor rd rs rt) h = let a = h.0 in let b = h.1 in let c = h.2 in omega arith
fits (Nor rd rs rt) h = let a = h.0 in let b = h.1 in let c = h.2 in omega arith
fits (Slt rd rs rt) h = let a = h.0 in let b = h.1 in let c = h.2 in omega arith
fits (Sltu rd rs rt) h = let a = h.0 in let b = h.1 in let c = h.2 in omega arith
fits (Bltz rs imm) h = let a = h.0 in let b = h.1 in omega arith
fits (Bgez rs imm) h = let a = h.0 in let b = h.1 in omega arith
fits (J index) h = omega arith
fits (Jal index) h = omega arith
fits (Beq rs rt imm) h = let a = h.0 in let b = h.1 in let c = h.2 in omega arith
fits (Bne rs rt imm) h = let a = h.0 in let b = h.1 in let c = h.2 in omega arith
fits (Blez rs imm) h = let a = h.0 in let b = h.1 in omega arith
fits (Bgtz rs imm) h = let a = h.0 in let b = h.1 in omega arith
fits (Addi rt rs imm) h = let a = h.0 in let b = h.1 in let c = h.2 in omega arith
fits (Addiu rt rs imm) h = let a = h.0 in let b = h.1 in let c = h.2 in omega arith
fits (Slti rt rs imm) h = let a = h.0 in let b = h.1 in let c = h.2 in omega arith
fits (Sltiu rt rs imm) h = let a = h.0 in let b = h.1 in let c = h.2 in omega arith
fits (Andi rt rs imm) h = let a = h.0 in let b = h.1 in let c = h.2 in omega arith
fits (Ori rt rs imm) h = let a = h.0 in let b = h.1 in let c = h.2 in omega arith
fits (Xori rt rs imm) h = let a = h.0 in let b = h.1 in let c = h.2 in omega arith
fits (Lui rt imm) h = let a = h.0 in let b = h.1 in omega arith
fits (Mfc0 rt special) h = let a = h.0 in let b = h.1 in omega arith
fits (Mtc0 rt special) h = let a = h.0 in let b = h.1 in omega arith
fits Eret h = omega arith
fits (Lw rt rs imm) h = let a = h.0 in let b = h.1 in let c = h.2 in omega arith
fits (Sw rt rs imm) h = let a = h.0 in let b = h.1 in let c = h.2 in omega arith
fits (Mult rs rt) h = let a = h.0 in let b = h.1 in omega arith
fits (Multu rs rt) h = let a = h.0 in let b = h.1 in omega arith
fits (Div rs rt) h = let a = h.0 in let b = h.1 in omega arith
fits (Divu rs rt) h = let a = h.0 in let b = h.1 in omega arith
fits (Mfhi rd) h = omega arith
fits (Mthi rs) h = omega arith
fits (Mflo rd) h = omega arith
fits (Mtlo rs) h = omega arith

-- a list of them
pub code_words : (code : List Inst) → All InRange code → All IsWord (map encoding code)
code_words code h = All-map IsWord encoding code (All-weaker InRange (λ i. IsWord (encoding i)) fits code h)

zero_fits : IsWord 0
zero_fits = omega arith

-- words behind zeros
joined : (n : ℕ) (before part : List ℕ) → All IsWord before → All IsWord part → All IsWord (before ++ (replicate n 0 ++ part))
joined n before part a b = All-append IsWord before (replicate n 0 ++ part) a (All-append IsWord (replicate n 0) part (All-replicate IsWord n 0 zero_fits) b)

variables : (heap stack limit : ℕ) → IsWord heap → IsWord stack → IsWord limit → All IsWord (image_variables heap stack limit)
variables heap stack limit h s l = All-from_recursion IsWord (image_variables heap stack limit) (omega arith, (omega arith, (h, (s, (l, tt)))))

start_fits : All IsWord (map encoding start_code)
start_fits = code_words start_code (All-from_recursion InRange start_code (search rules))

stub_fits : All IsWord (map encoding stub_code)
stub_fits = code_words stub_code (All-from_recursion InRange stub_code (search rules))

exits_fit : All IsWord (map encoding exits_code)
exits_fit = code_words exits_code (All-from_recursion InRange exits_code (search rules))

loops_fit : All IsWord (map encoding loops_code)
loops_fit = code_words loops_code (All-from_recursion InRange loops_code (search rules))

-- the words below the unit's code, part by part: they hang on the map by three addresses alone
abbrev with_start : (heap stack limit : ℕ) → List ℕ
with_start heap stack limit = map encoding start_code ++ (replicate 1025 0 ++ image_variables heap stack limit)

abbrev with_stub : (heap stack limit : ℕ) → List ℕ
with_stub heap stack limit = with_start heap stack limit ++ (replicate 1017 0 ++ map encoding stub_code)

abbrev with_exits : (heap stack limit : ℕ) → List ℕ
with_exits heap stack limit = with_stub heap stack limit ++ (replicate 6 0 ++ map encoding exits_code)

abbrev with_loops : (heap stack limit : ℕ) → List ℕ
with_loops heap stack limit = with_exits heap stack limit ++ (replicate 1 0 ++ map encoding loops_code)

abbrev pub low_words : (heap stack limit : ℕ) → List ℕ
low_words heap stack limit = with_loops heap stack limit ++ replicate 14310 0

-- they are words
pub low_fit : (heap stack limit : ℕ) → IsWord heap → IsWord stack → IsWord limit → All IsWord (low_words heap stack limit)
low_fit heap stack limit h s l =
    let a = joined 1025 (map encoding start_code) (image_variables heap stack limit) start_fits (variables heap stack limit h s l) in
    let b = joined 1017 (with_start heap stack limit) (map encoding stub_code) a stub_fits in
    let c = joined 6 (with_stub heap stack limit) (map encoding exits_code) b exits_fit in
    let d = joined 1 (with_exits heap stack limit) (map encoding loops_code) c loops_fit in
    All-append IsWord (with_loops heap stack limit) (replicate 14310 0) d (All-replicate IsWord 14310 0 zero_fits)
