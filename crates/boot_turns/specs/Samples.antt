-- Small machines whose turns are computed, as a check of the definitions.
use Rattle.std.specs.Prelude.{ℕ, ◌-◌, ◌^◌, false, ◌==◌, if◌then◌else◌, List, [], ◌∷◌, ◌++◌, length, map, replicate}
use Rattle.mips_table.specs.declared.inst.Inst.TheVariants.{Syscall, Bne, Addiu, Lui, Ori, Mfc0, Mtc0, Eret, Lw, Sw}
use Rattle.mips_table.specs.Encoding.{encoding}
use Rattle.mips_table.specs.Device.{Environment}
use Rattle.mips_table.specs.Machine.{State, power_on}

-- A handler: after the reset it gives the user the page table at 40 (hexadecimal) with one page, and enters user mode; after another
-- cause it switches the power off.
abbrev pub entering_handler : List ℕ
entering_handler = encoding (Mfc0 26 2) ∷ encoding (Bne 26 0 8) ∷ encoding (Ori 1 0 1) ∷ encoding (Ori 2 0 64) ∷ encoding (Mtc0 2 5) ∷ encoding (Mtc0 1 6)
    ∷ encoding (Mtc0 1 8) ∷ encoding (Mtc0 1 1)
    ∷ encoding Eret ∷ 0 ∷ encoding (Sw 0 0 (2 ^ 16 - 4088)) ∷ replicate 5 0 ++ 0x1800 ∷ []

-- a user of two steps: the second is a system call
abbrev pub calling_user : List ℕ
calling_user = encoding (Ori 1 0 5) ∷ encoding (Syscall 0) ∷ []

abbrev pub two_frames : List ℕ
two_frames = (entering_handler ++ replicate (1024 - length entering_handler) 0) ++ (calling_user ++ replicate (1024 - length calling_user) 0)

-- line 3 is raised at this step
abbrev pub line_at : ℕ → ℕ → ℕ
line_at at t = if t == at then 8 else 0

-- with no disk
abbrev pub raising_at : ℕ → Environment
raising_at at = record { lines = line_at at; busy = λ _. 0; count = 0; last = at }

-- A machine of 21 words, whose one page is the memory itself. After the reset it enters user mode at 40 (hexadecimal); after a system
-- call, cause 6, it switches the power off, and after a line it goes back.
abbrev pub entering_code : List ℕ
entering_code = encoding (Mfc0 26 2) ∷ encoding (Bne 26 0 9) ∷ encoding (Ori 1 0 1) ∷ encoding (Ori 2 0 80) ∷ encoding (Mtc0 2 5) ∷ encoding (Mtc0 1 6)
    ∷ encoding (Mtc0 1 8)
    ∷ encoding (Mtc0 1 1) ∷ encoding (Ori 3 0 64) ∷ encoding (Mtc0 3 3) ∷ encoding Eret ∷ []

abbrev pub returning_code : List ℕ
returning_code = encoding (Addiu 26 26 (2 ^ 16 - 6)) ∷ encoding (Bne 26 0 1) ∷ encoding (Sw 0 0 (2 ^ 16 - 4088)) ∷ encoding Eret ∷ 0 ∷ []

-- its user makes two steps and a system call; behind it stands the page table
abbrev pub few_words : List ℕ
few_words = entering_code ++ (returning_code ++ (encoding (Ori 5 0 5) ∷ encoding (Ori 6 0 6) ∷ encoding (Syscall 0) ∷ 0 ∷ 0x800 ∷ []))

-- two input words are read, the number left is read, and the first is logged
abbrev pub conversed : State
conversed = power_on (map encoding (Lui 9 0xffff ∷ Ori 9 9 0xf000 ∷ Lw 1 9 20 ∷ Lw 2 9 20 ∷ Lw 3 9 16 ∷ Sw 1 9 12 ∷ [])) [] (7 ∷ 35 ∷ 9 ∷ [])

-- a fetch from the input port takes its word, an instruction, and runs it
abbrev pub fetching : State
fetching = record (power_on [] [] (encoding (Ori 1 0 5) ∷ 8 ∷ [])) { cpu = record { pc = 0xfffff014; regs = replicate 32 0; hi = 0; lo = 0 }; reset = false }
