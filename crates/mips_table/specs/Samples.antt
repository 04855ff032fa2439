-- Small machines whose runs are computed, as checks of the step.
use Rattle.std.specs.Prelude.{◌≡◌, ℕ, ◌-◌, ◌^◌, ◌==◌, if◌then◌else◌, List, [], ◌∷◌, ◌++◌, length, replicate, take, drop, slice_index}
use Rattle.mips_table.specs.declared.inst.Inst.TheVariants.{Syscall, Bne, J, Jr, Addi, Addiu, Andi, Ori, Lui, Srlv}
use Rattle.mips_table.specs.declared.inst.Inst.TheVariants.{Mfc0, Mtc0, Eret, Lw, Sw, Mult, Div, Mfhi, Mflo}
use Rattle.mips_table.specs.Encoding.{encoding}
use Rattle.mips_table.specs.Device.{Environment, sector_of}
use Rattle.mips_table.specs.Machine.{State}

-- the words of a memory of one frame: these, and then zeros
abbrev pub frame : List ℕ → List ℕ
frame words = words ++ replicate (1024 - length words) 0

-- sr becomes 1, and then the machine goes on at one place
abbrev pub waiting : List ℕ
waiting = frame (encoding (Ori 1 0 1) ∷ encoding (Mtc0 1 0) ∷ encoding (J 2) ∷ [])

-- sector 7 is read, with a status before and after the transfer
abbrev pub sector_reading : List ℕ
sector_reading = frame (encoding (Addiu 1 0 (2 ^ 16 - 4096)) ∷ encoding (Ori 2 0 7) ∷ encoding (Sw 2 1 0) ∷ encoding (Ori 3 0 1) ∷ encoding (Sw 3 1 4)
    ∷ encoding (Lw 4 1 4) ∷ encoding (Lw 5 1 4) ∷ encoding (Lw 6 1 4) ∷ encoding (Lw 7 1 4) ∷ encoding (Lw 8 1 (2 ^ 16 - 4096)) ∷ [])

-- the power is switched off
abbrev pub switching_off : List ℕ
switching_off = frame (encoding (Sw 0 0 (2 ^ 16 - 4088)) ∷ [])

-- eight sectors, of which the last begins with 99
abbrev pub sectors : List (List ℕ)
sectors = replicate 7 (replicate 1024 0) ++ (99 ∷ replicate 1023 0) ∷ []

-- lines 3 and 0 are raised at step 5
abbrev pub lines : ℕ → ℕ
lines t = if t == 5 then 9 else 0

-- command 0 takes 3 steps more
abbrev pub busy : ℕ → ℕ
busy n = if n == 0 then 3 else 0

-- these lines and busy times, with a disk of eight sectors
abbrev pub sampled : Environment
sampled = record { lines = lines; last = 5; busy = busy; count = 8 }

-- the reset and an external interrupt are taken at steps 0 and 5, and what the special registers and pc are then
pub record HasWaited (s : State) : Type 0 where
  pub special : s.special ≡ 0 ∷ 1 ∷ 1 ∷ 8 ∷ 9 ∷ 0 ∷ 0 ∷ 0 ∷ 0 ∷ []
  pub pc : s.cpu.pc ≡ 0
  pub mask : s.mask ≡ 0

-- registers 4 to 8 after the status was read four times and the buffer once
pub record ReadIn (s : State) : Type 0 where
  pub status : slice_index s.cpu.regs 4 ≡ 1
  pub status_later : slice_index s.cpu.regs 5 ≡ 1
  pub status_last : slice_index s.cpu.regs 6 ≡ 1
  pub status_idle : slice_index s.cpu.regs 7 ≡ 0
  pub word : slice_index s.cpu.regs 8 ≡ 99

-- A handler at address 0. After the reset it writes the buffer to sector 1, makes a page table of two pages and enters user
-- mode; after another cause it keeps the cause, edata and epc in a log, and goes on at the next instruction of the user.
abbrev pub handler : List ℕ
handler = encoding (Mfc0 26 2) ∷ encoding (Bne 26 0 16) ∷ encoding (Lui 9 0xffff) ∷ encoding (Ori 9 9 0xe000) ∷ encoding (Ori 29 0 0x900)
    ∷ encoding (Ori 1 0 1) ∷ encoding (Ori 2 0 2)
    ∷ encoding (Sw 29 9 8) ∷ encoding (Sw 1 9 4096) ∷ encoding (Sw 2 9 4100) ∷ encoding (Sw 1 9 12)
    ∷ encoding (Ori 3 0 0x800) ∷ encoding (Mtc0 3 5) ∷ encoding (Mtc0 2 6) ∷ encoding (Mtc0 1 8) ∷ encoding (Mtc0 1 1) ∷ encoding (Mtc0 0 3) ∷ encoding Eret
    ∷ encoding (Mfc0 27 4) ∷ encoding (Mfc0 28 3) ∷ encoding (Sw 26 29 0) ∷ encoding (Sw 27 29 4) ∷ encoding (Sw 28 29 8) ∷ encoding (Addiu 29 29 12)
    ∷ encoding (Ori 1 0 0x62) ∷ encoding (Srlv 1 1 26) ∷ encoding (Andi 1 1 1) ∷ encoding (Bne 1 0 2) ∷ encoding (Addiu 28 28 4)
    ∷ encoding (Mtc0 28 3) ∷ encoding Eret ∷ []

-- A user that meets its word, a protected page that is the same frame, a page past the table, an instruction of system mode,
-- a misaligned address, a system call, an overflow, and a jump to a page past the table.
abbrev pub user : List ℕ
user = encoding (Lw 2 0 64) ∷ encoding (Sw 2 0 4164) ∷ encoding (Lw 3 0 4160) ∷ encoding (Lw 4 0 8192) ∷ encoding (Mfc0 5 0)
    ∷ encoding (Lw 6 0 2) ∷ encoding (Syscall 0)
    ∷ encoding (Lui 7 0x7fff) ∷ encoding (Ori 7 7 0xffff) ∷ encoding (Addi 7 7 1) ∷ encoding (Sw 3 0 68) ∷ encoding (J 2048) ∷ replicate 4 0 ++ 77 ∷ []

-- the handler, the page table at 800 (hexadecimal) with a valid entry and a valid and protected one, and the user's frame
abbrev pub guarding : List ℕ
guarding = (handler ++ replicate (512 - length handler) 0) ++ (0x1800 ∷ 0x1c00 ∷ replicate 510 0) ++ frame user

-- two sectors of zeros
abbrev pub blank : List (List ℕ)
blank = replicate 2 (replicate 1024 0)

-- lines 3 and 0 are raised in user mode and in the handler
abbrev pub guarded_lines : ℕ → ℕ
guarded_lines t = if t == 60 then 8 else if t == 100 then 1 else 0

-- the write of the sector takes 4 steps more
abbrev pub guarded_busy : ℕ → ℕ
guarded_busy n = if n == 0 then 4 else 0

-- these lines and busy times, with a disk of two sectors
abbrev pub guarding_outside : Environment
guarding_outside = record { lines = guarded_lines; last = 100; busy = guarded_busy; count = 2 }

-- The log after 165 steps, cause, edata and epc by row; what the user read and wrote; and what the sector holds: the word
-- that was written before the command, and not the one that was written while it was under way.
pub record Guarded (s : State) : Type 0 where
  pub log : take 27 (drop 576 s.memory) ≡ 8 ∷ 4164 ∷ 4 ∷ 8 ∷ 8192 ∷ 12 ∷ 4 ∷ encoding (Mfc0 5 0) ∷ 16 ∷ 1 ∷ 8 ∷ 20 ∷ 7 ∷ 2 ∷ 20 ∷ 6
      ∷ encoding (Syscall 0) ∷ 28 ∷ 1 ∷ 1 ∷ 28
      ∷ 5 ∷ encoding (Addi 7 7 1) ∷ 40 ∷ 3 ∷ 8192 ∷ 8192 ∷ []
  pub own : slice_index s.cpu.regs 2 ≡ 77
  pub shared : slice_index s.cpu.regs 3 ≡ 77
  pub unread : slice_index s.cpu.regs 4 ≡ 0
  pub not_added : slice_index s.cpu.regs 7 ≡ 0x7fffffff
  pub stored : slice_index s.memory 1041 ≡ 77
  pub special : s.special ≡ 0 ∷ 1 ∷ 3 ∷ 8196 ∷ 8196 ∷ 0x800 ∷ 2 ∷ 0 ∷ 1 ∷ []
  pub pc : s.cpu.pc ≡ 0x4c
  pub written : slice_index (sector_of s.device.sectors 1) 2 ≡ 0x900
  pub lost : slice_index (sector_of s.device.sectors 1) 3 ≡ 0

-- Seven is written to the log, whose length is then read; an input word is taken by a load, the number of those left is read,
-- and then a fetch from the input port takes one that is no instruction.
abbrev pub conversing : List ℕ
conversing = frame (encoding (Addiu 1 0 (2 ^ 16 - 4096)) ∷ encoding (Ori 2 0 7) ∷ encoding (Sw 2 1 12) ∷ encoding (Lw 3 1 12)
    ∷ encoding (Lw 4 1 20) ∷ encoding (Lw 5 1 16)
    ∷ encoding (Addiu 6 1 20) ∷ encoding (Jr 6) ∷ [])

-- what the console gave, and what is left of it; the illegal word is in edata
pub record Conversed (s : State) : Type 0 where
  pub log : s.log ≡ 7 ∷ []
  pub length : slice_index s.cpu.regs 3 ≡ 1
  pub taken : slice_index s.cpu.regs 4 ≡ 35
  pub left : slice_index s.cpu.regs 5 ≡ 2
  pub input : s.input ≡ 44 ∷ []
  pub illegal : slice_index s.special 2 ≡ 4
  pub word : slice_index s.special 4 ≡ 0xffffffff

-- a user's words, of which the last overflows: lui r1, 0x7fff; ori r1, r1, 0xffff; addi r2, r1, 1
abbrev pub overflowing : List ℕ
overflowing = encoding (Lui 1 0x7fff) ∷ encoding (Ori 1 1 0xffff) ∷ encoding (Addi 2 1 1) ∷ []

-- 7 times -3, and 7 by -3 in whole numbers, and by 0
abbrev pub dividing : List ℕ
dividing = frame (encoding (Ori 1 0 7) ∷ encoding (Addiu 2 0 (2 ^ 16 - 3)) ∷ encoding (Mult 1 2) ∷ encoding (Mflo 3) ∷ encoding (Mfhi 4) ∷ encoding (Div 1 2)
    ∷ encoding (Div 1 0) ∷ [])

-- the halves of the product, and the quotient and what is left
pub record Divided (s : State) : Type 0 where
  pub low : slice_index s.cpu.regs 3 ≡ 0xffffffeb
  pub high : slice_index s.cpu.regs 4 ≡ 0xffffffff
  pub quotient : s.cpu.lo ≡ 0xfffffffe
  pub rest : s.cpu.hi ≡ 1
