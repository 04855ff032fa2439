-- What is left of a word under each of the masks that the table's rows have.
-- A row's words are told by a mask and its value; the definitions of encoding and decoding speak of fields, by division
-- and remainder. These lemmas lead from the one to the other.
use Rattle.std.proofs.Common.{◌≡◌, ℕ, ◌+◌, ◌-◌, ◌*◌, ◌/◌, ◌%◌, ◌^◌, ◌<◌, bit_and, sym, ap, ◌∙◌, arith}
use Rattle.std.proofs.lemmas.Nat.{and_block, and_mask, div-add-mod', mod_below, pow_pos}
use Rattle.std.proofs.lemmas.Nat.Bits.{and_high_mask}

-- a mask that has the j bits from k on, and others below them
block : (k j w low : ℕ) → low < 2 ^ k → bit_and w ((2 ^ j - 1) * 2 ^ k + low) ≡ w / 2 ^ k % 2 ^ j * 2 ^ k + bit_and (w % 2 ^ k) low
block k j w low h =
    ap (λ v. bit_and v ((2 ^ j - 1) * 2 ^ k + low)) (sym (div-add-mod' w (2 ^ k)))
    ∙ and_block k (w / 2 ^ k) (2 ^ j - 1) (w % 2 ^ k) low (mod_below w (2 ^ k) (pow_pos k)) h
    ∙ ap (λ v. v * 2 ^ k + bit_and (w % 2 ^ k) low) (and_mask (w / 2 ^ k) j)

-- the j bits from k on, and the l lowest bits
ends : (k j l w : ℕ) → 2 ^ l - 1 < 2 ^ k → bit_and w ((2 ^ j - 1) * 2 ^ k + (2 ^ l - 1)) ≡ w / 2 ^ k % 2 ^ j * 2 ^ k + w % 2 ^ k % 2 ^ l
ends k j l w h = block k j w (2 ^ l - 1) h ∙ ap (λ v. w / 2 ^ k % 2 ^ j * 2 ^ k + v) (and_mask (w % 2 ^ k) l)

-- opcode, rs and function: sll, srl, sra
pub under_shift : (w : ℕ) → w < 2 ^ 32 → bit_and w 0xffe0003f ≡ w / 2 ^ 21 * 2 ^ 21 + w % 2 ^ 6
under_shift w h = ends 21 11 6 w (omega arith) ∙ omega arith

-- opcode, sa and function: the instructions of three registers
pub under_registers : (w : ℕ) → w < 2 ^ 32 → bit_and w 0xfc0007ff ≡ w / 2 ^ 26 * 2 ^ 26 + w % 2 ^ 11
under_registers w h = ends 26 6 11 w (omega arith) ∙ omega arith

-- all but rs: jr
pub under_jr : (w : ℕ) → w < 2 ^ 32 → bit_and w 0xfc1fffff ≡ w / 2 ^ 26 * 2 ^ 26 + w % 2 ^ 21
under_jr w h = ends 26 6 21 w (omega arith) ∙ omega arith

-- opcode and function: syscall
pub under_syscall : (w : ℕ) → w < 2 ^ 32 → bit_and w 0xfc00003f ≡ w / 2 ^ 26 * 2 ^ 26 + w % 2 ^ 6
under_syscall w h = ends 26 6 6 w (omega arith) ∙ omega arith

-- all but rt and rd: mfc0, mtc0
pub under_special : (w : ℕ) → w < 2 ^ 32 → bit_and w 0xffe007ff ≡ w / 2 ^ 21 * 2 ^ 21 + w % 2 ^ 11
under_special w h = ends 21 11 11 w (omega arith) ∙ omega arith

-- all but rs and rd: jalr
pub under_jalr : (w : ℕ) → w < 2 ^ 32 → bit_and w 0xfc1f07ff ≡ w / 2 ^ 26 * 2 ^ 26 + w / 2 ^ 16 % 2 ^ 5 * 2 ^ 16 + w % 2 ^ 11
under_jalr w h = let low = ends 16 5 11 (w % 2 ^ 26) (omega arith) in block 26 6 w 0x1f07ff (omega arith) ∙ omega arith

-- opcode and rt: the branches on a sign
pub under_sign : (w : ℕ) → w < 2 ^ 32 → bit_and w 0xfc1f0000 ≡ w / 2 ^ 26 * 2 ^ 26 + w / 2 ^ 16 % 2 ^ 5 * 2 ^ 16
under_sign w h = let low = ends 16 5 0 (w % 2 ^ 26) (omega arith) in block 26 6 w 0x1f0000 (omega arith) ∙ omega arith

-- opcode: most instructions with an immediate or an index
pub under_opcode : (w : ℕ) → w < 2 ^ 32 → bit_and w 0xfc000000 ≡ w / 2 ^ 26 * 2 ^ 26
under_opcode w h = and_high_mask 32 26 (omega arith) w h

-- opcode and rs: lui
pub under_lui : (w : ℕ) → w < 2 ^ 32 → bit_and w 0xffe00000 ≡ w / 2 ^ 21 * 2 ^ 21
under_lui w h = and_high_mask 32 21 (omega arith) w h

-- all but rs and rt: mult, multu, div, divu
pub under_pair : (w : ℕ) → w < 2 ^ 32 → bit_and w 0xfc00ffff ≡ w / 2 ^ 26 * 2 ^ 26 + w % 2 ^ 16
under_pair w h = ends 26 6 16 w (omega arith) ∙ omega arith

-- all but rd: mfhi, mflo
pub under_target : (w : ℕ) → w < 2 ^ 32 → bit_and w 0xffff07ff ≡ w / 2 ^ 16 * 2 ^ 16 + w % 2 ^ 11
under_target w h = ends 16 16 11 w (omega arith) ∙ omega arith

-- all bits: eret
pub under_all : (w : ℕ) → w < 2 ^ 32 → bit_and w 0xffffffff ≡ w
under_all w h = let e : bit_and w 0xffffffff ≡ w % 2 ^ 32 = and_mask w 32 in omega arith
