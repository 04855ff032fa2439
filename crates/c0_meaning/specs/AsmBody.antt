-- What the words of an asm body do: they compute on registers.
use Rattle.std.specs.Prelude.{ℕ, ℤ, List, [], ◌∷◌, ◌++◌, replicate, slice_index, Option, Some, None}
use Rattle.mips_table.specs.declared.inst.Inst.{Inst}
use Rattle.mips_table.specs.declared.effect.Effect.{Effect}
use Rattle.mips_table.specs.declared.effect.Effect.TheVariants.{Set, Wide, Load, Store, Overflow, Call, System}
use Rattle.mips_table.specs.Decoding.{decoding}
use Rattle.mips_table.specs.Effect.{effect_of}
use Rattle.mips_table.specs.Processor.{write_register}
use Rattle.cvm_words.specs.Words.{int_of, word_of}
use Rattle.c0_meaning.specs.Value.{int, Values, part}

-- the words of arguments that are ints
abbrev pub argument_words : Values → List ℕ
argument_words (part (int a) vs) = word_of a ∷ argument_words vs
argument_words _ = []

-- the registers from 0 on at the start: the arguments from register 4 on, and 0 in the others
abbrev pub start_registers : Values → List ℕ
start_registers args = (0 ∷ 0 ∷ 0 ∷ 0 ∷ argument_words args) ++ replicate 4 0

-- the registers after an effect: an asm body has no word with another effect than to set a register
abbrev pub registers_after : List ℕ → Effect → List ℕ
registers_after regs (Set register value to) = write_register regs register value
registers_after regs (Wide hi lo to) = regs
registers_after regs (Load register address) = regs
registers_after regs (Store address value) = regs
registers_after regs Overflow = regs
registers_after regs Call = regs
registers_after regs System = regs

-- the registers after an instruction, which looks at neither the pc nor hi and lo
abbrev pub after_instruction : List ℕ → Option Inst → List ℕ
after_instruction regs None = regs
after_instruction regs (Some inst) = registers_after regs (effect_of inst 0 (slice_index regs) 0 0)

-- the registers after words
abbrev pub run_words : List ℕ → List ℕ → List ℕ
run_words [] regs = regs
run_words (word ∷ words) regs = run_words words (after_instruction regs (decoding word))

-- the result of an asm body: register 2
abbrev pub asm_result : List ℕ → Values → ℤ
asm_result words args = int_of (slice_index (run_words words (start_registers args)) 2)
