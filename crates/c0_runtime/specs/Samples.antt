-- Small runs of the routines, whose ends are known: each says where the code is after so many steps, and what it has then.
use Rattle.std.specs.Prelude.{◌≡◌, ℕ, ◌+◌, ◌*◌, ◌==◌, if◌then◌else◌, List, [], None}
use Rattle.mips_table.specs.declared.inst.Inst.{Inst}
use Rattle.mips_table.specs.Device.{Idle}
use Rattle.mips_table.specs.Code.{Contents, World, on_flat, CodeState, at_with, code_run}
use Rattle.layer_map.specs.Map.{heap_used_at, heap_words_at, heap_first_at, stack_first_at, stack_limit_at}
use Rattle.masm.specs.declared.registers.TheConstants.{ANSWER, ARGUMENTS, GLOBALS, FRAME_END, STACK_END, RETURN}
use Rattle.masm.specs.Standing.{only_block_at}
use Rattle.c0_runtime.specs.Code.{multiply_code, divide_code, remainder_code}

-- 4,096 words of memory, with this code from word 2048 on
abbrev pub sample_world : List Inst → World
sample_world is = on_flat (record { code = only_block_at 2048 is; kept = λ k. None; words = 4096; count = 0 })

-- A heap of 8 words from word 3000 on, of which 5 are used, and a stack of 64 words from word 3100 on. All other words are 7.
abbrev pub sample_memory : ℕ → ℕ
sample_memory k =
    if k == heap_used_at then 5 else
    if k == heap_words_at then 8 else
    if k == heap_first_at then 12000 else
    if k == stack_first_at then 12400 else
    if k == stack_limit_at then 12656 else
    7

-- ANSWER and the first two arguments have these words, and RETURN the address of word 100
abbrev pub contents : (size left right : ℕ) → Contents
contents size left right = record {
  regs = λ r. if r == ANSWER then size else if r == ARGUMENTS then left else if r == ARGUMENTS + 1 then right else if r == RETURN then 400 else 9;
  hi = 1;
  lo = 2;
  special = λ r. 0;
  memory = sample_memory;
}

-- the code after so many steps from word 2048 on
abbrev pub code_after : List Inst → Contents → ℕ → CodeState
code_after is c steps = code_run (sample_world is) (at_with 2048 c (record { pending = Idle; commands = 0; sectors = λ s i. 0; log = []; input = [] })) steps

-- an object of three words takes the heap's last words
pub record LastWords (s : CodeState) : Type 0 where
  pub at : s.at ≡ 100
  pub answer : s.contents.regs ANSWER ≡ 12020
  pub used : s.contents.memory heap_used_at ≡ 8
  pub before : s.contents.memory 3004 ≡ 7
  pub first : s.contents.memory 3005 ≡ 0
  pub last : s.contents.memory 3007 ≡ 0
  pub behind : s.contents.memory 3008 ≡ 7

-- one of four words finds no room
pub record NoRoom (s : CodeState) : Type 0 where
  pub at : s.at ≡ 100
  pub answer : s.contents.regs ANSWER ≡ 0
  pub used : s.contents.memory heap_used_at ≡ 5
  pub first : s.contents.memory 3005 ≡ 7

-- a routine has come back with this answer
pub record RoutineAnswers (answer : ℕ) (s : CodeState) : Type 0 where
  pub at : s.at ≡ 100
  pub is : s.contents.regs ANSWER ≡ answer

-- Products and quotients of -7, 2, the least int and -1. A division by 0 goes to the exit, here at word 50.
pub record SampleAnswers : Type 0 where
  pub product : RoutineAnswers 0xfffffff2 (code_after multiply_code (contents 0 0xfffffff9 2) 3)
  pub quotient : RoutineAnswers 0xfffffffd (code_after (divide_code 200) (contents 0 0xfffffff9 2) 4)
  pub remainder : RoutineAnswers 0xffffffff (code_after (remainder_code 200) (contents 0 0xfffffff9 2) 4)
  pub least : RoutineAnswers 0x80000000 (code_after (divide_code 200) (contents 0 0x80000000 0xffffffff) 4)
  pub nothing_left : RoutineAnswers 0 (code_after (remainder_code 200) (contents 0 0x80000000 0xffffffff) 4)
  pub by_zero : (code_after (divide_code 200) (contents 0 5 0) 2).at ≡ 50

-- the entry has come behind itself, with the registers of the globals (at 0x12345678), of the frames, of the stack and of the return address set
pub record SampleEntered (s : CodeState) : Type 0 where
  pub at : s.at ≡ 2053
  pub globals : s.contents.regs GLOBALS ≡ 0x12345678
  pub frames : s.contents.regs FRAME_END ≡ 12400
  pub stack : s.contents.regs STACK_END ≡ 12656
  pub back : s.contents.regs RETURN ≡ 0x2038
