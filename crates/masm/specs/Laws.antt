-- The laws of blocks, as statements about runs of code from one configuration to another. They hold on the physical machine and on the flat one.
use Rattle.std.specs.Prelude.{◌≡◌, ◌≢◌, ℕ, ◌+◌, ◌-◌, ◌*◌, ◌<◌, ◌≤◌, Bool, true, false, List, [], ◌∷◌, ◌++◌, length, map, All, Option, Some, None}
use Rattle.mips_table.specs.declared.inst.Inst.{Inst}
use Rattle.mips_table.specs.declared.inst.Inst.TheVariants.{Jr}
use Rattle.mips_table.specs.declared.effect.Effect.TheVariants.{Set, Store}
use Rattle.mips_table.specs.Arith.{signed_quotient, signed_remainder}
use Rattle.mips_table.specs.Effect.{branch, division_effect, jump_target, next_address}
use Rattle.mips_table.specs.Encoding.{InRange, encoding}
use Rattle.mips_table.specs.Device.{Idle, COMMAND, SECTOR}
use Rattle.mips_table.specs.Code.{Contents, reg, with_reg, Behind, World, Sound, CodeState, at_with}
use Rattle.mips_table.specs.Code.{settle, commanded, effect_at, act, May, Reaches, CodeAt, Does}
use Rattle.masm.specs.Says.{Says, Widens, Said, said, ports_after, falls_through, straight, AllSaid, sayings, tellings}
use Rattle.masm.specs.Blocks.{when_code, loop_code, when_words, loop_words}
use Rattle.masm.specs.declared.registers.TheConstants.{RETURN}

-- each instruction of the part stands in the whole
abbrev pub IsPartOfCode : (part whole : ℕ → Option Inst) → Type 0
IsPartOfCode part whole = (n : ℕ) (i : Inst) → part n ≡ Some i → whole n ≡ Some i

-- the same run with other code
abbrev pub with_code : World → (ℕ → Option Inst) → World
with_code w code = record w { code = code }

-- Runs join, so do those of two blocks that follow one another, and a run may be given more steps. A block's parts stand where it
-- does, and a run of part of the code is a run of all of it. Where no command is under way a step ends where it leads. A run that leads
-- elsewhere takes a step.
pub record RunsCompose : Type 0 where
  pub none : (w : World) (s : CodeState) → Reaches w 0 s s
  pub empty : (w : World) (n : ℕ) (c : Contents) (d : Behind) → Reaches w 0 (at_with n c d) (at_with (n + 0) c d)
  pub one : (w : World) (s : CodeState) (i : Inst) → w.code s.at ≡ Some i → May w i s → Reaches w 1 s (act w i s)
  pub joined : (w : World) (n m : ℕ) (s t u : CodeState) → Reaches w n s t → Reaches w m t u → Reaches w (n + m) s u
  pub followed : (w : World) (a b : List Inst) (n p q : ℕ) (c : Contents) (d : Behind) (c' : Contents) (d' : Behind) (c'' : Contents) (d'' : Behind)
      → Reaches w p (at_with n c d) (at_with (n + length a) c' d') → Reaches w q (at_with (n + length a) c' d') (at_with (n + length a + length b) c'' d'')
      → Reaches w (p + q) (at_with n c d) (at_with (n + length (a ++ b)) c'' d'')
  pub later : (w : World) (n m : ℕ) (s t : CodeState) → n ≤ m → Reaches w n s t → Reaches w m s t
  pub elsewhere : (w : World) (n : ℕ) (s t : CodeState) → s.at ≢ t.at → (r : Reaches w n s t) → 1 ≤ r.steps
  pub front : (w : World) (n : ℕ) (a b : List Inst) → CodeAt w n (a ++ b) → CodeAt w n a
  pub back : (w : World) (n : ℕ) (a b : List Inst) → CodeAt w n (a ++ b) → CodeAt w (n + length a) b
  pub wider : (w : World) (code : ℕ → Option Inst) → IsPartOfCode code w.code → (n : ℕ) (s t : CodeState) → Reaches (with_code w code) n s t → Reaches w n s t
  pub part_sound : (w : World) (code : ℕ → Option Inst) → IsPartOfCode code w.code → Sound w → Sound (with_code w code)
  pub settled : (w : World) (n m : ℕ) (s : CodeState) (c : Contents) (d : Behind) → d.pending ≡ Idle → Reaches w n s (settle m c d)
      → Reaches w n s (at_with m c d)
  pub settles : (n : ℕ) (c : Contents) (d : Behind) → d.pending ≡ Idle → settle n c d ≡ at_with n c d

-- Straight code does what is said of its instructions: any one of them, also while a command is under way; one of them, or all of a
-- list, while none is. A division by other than 0 is said by its remainder and quotient, and one by 0 leaves hi and lo. A store to the
-- command port gives the command, for a sector that may be used.
pub record StraightRuns (w : World) : Type 0 where
  pub one : (i : Inst) (h : Says) (n : ℕ) (c : Contents) (d : Behind) → w.code n ≡ Some i → falls_through i ≡ true → Said w i c d (effect_at i n c) h
      → Reaches w 1 (at_with n c d) (settle (n + 1) (said i c (effect_at i n c) h) (ports_after d h))
  pub next : (i : Inst) (h : Says) (n : ℕ) (c : Contents) (d : Behind) → w.code n ≡ Some i → falls_through i ≡ true → d.pending ≡ Idle
      → Said w i c d (effect_at i n c) h → Reaches w 1 (at_with n c d) (at_with (n + 1) (said i c (effect_at i n c) h) (ports_after d h))
  pub all : (is : List Inst) (hs : List Says) (n : ℕ) (c : Contents) (d : Behind) → CodeAt w n is → straight is ≡ true → d.pending ≡ Idle
      → AllSaid w n is hs c d → Reaches w (length is) (at_with n c d) (at_with (n + length is) (sayings n is hs c) (tellings hs d))
  pub division : (i : Inst) (c : Contents) (d : Behind) (a b pc hi lo : ℕ) → b ≢ 0
      → Said w i c d (division_effect a b pc hi lo) (Widens (signed_remainder a b) (signed_quotient a b))
  pub by_zero : (i : Inst) (c : Contents) (d : Behind) (a b pc hi lo : ℕ) → b ≡ 0 → Said w i c d (division_effect a b pc hi lo) (Widens hi lo)
  pub command : (i : Inst) (n v : ℕ) (c : Contents) (d : Behind) → w.code n ≡ Some i → effect_at i n c ≡ Store (4 * COMMAND) v → w.system ≡ true
      → w.kept COMMAND ≡ None → d.pending ≡ Idle → c.memory SECTOR < w.count
      → Reaches w 1 (at_with n c d) (settle (n + 1) c (commanded w d (c.memory SECTOR) v))

-- Where branches and jumps lead. Each is named by its effect, which computes: a branch's with a test b, a jump's with an index, and
-- a jump to a register's address with where it goes. All hold while a command is under way, too.
pub record JumpsLead (w : World) : Type 0 where
  pub taken : (i : Inst) (k imm : ℕ) (b : Bool) (c : Contents) (d : Behind) → w.code k ≡ Some i → effect_at i k c ≡ Set 0 0 (branch (4 * k) imm b) → b ≡ true
      → imm < 32768 → Reaches w 1 (at_with k c d) (settle (k + 1 + imm) c d)
  pub taken_back : (i : Inst) (k to len : ℕ) (b : Bool) (c : Contents) (d : Behind) → w.code k ≡ Some i
      → effect_at i k c ≡ Set 0 0 (branch (4 * k) (65536 - len) b) → b ≡ true → to + len ≡ k + 1 → 0 < len → len ≤ 32768
      → Reaches w 1 (at_with k c d) (settle to c d)
  pub passed : (i : Inst) (k imm : ℕ) (b : Bool) (c : Contents) (d : Behind) → w.code k ≡ Some i → effect_at i k c ≡ Set 0 0 (branch (4 * k) imm b) → b ≡ false
      → Reaches w 1 (at_with k c d) (settle (k + 1) c d)
  pub jumped : (i : Inst) (k index r v : ℕ) (c : Contents) (d : Behind) → w.code k ≡ Some i → effect_at i k c ≡ Set r v (jump_target (4 * k) index)
      → Reaches w 1 (at_with k c d) (settle index (with_reg c r v) d)
  pub led : (i : Inst) (k to r v : ℕ) (c : Contents) (d : Behind) → w.code k ≡ Some i → effect_at i k c ≡ Set r v (4 * to)
      → Reaches w 1 (at_with k c d) (settle to (with_reg c r v) d)
  pub after : (i : Inst) (k : ℕ) → w.code k ≡ Some i → next_address (4 * k) ≡ 4 * (k + 1)

-- A body under a condition: where the register is 0 it is passed over in one step; where it isn't, it is entered in one step, and
-- what it leads to by its end is where the block ends.
pub record WhenRuns (w : World) (r : ℕ) (body : List Inst) : Type 0 where
  pub skips : (n : ℕ) (c : Contents) (d : Behind) → CodeAt w n (when_code r body) → d.pending ≡ Idle → reg c.regs r ≡ 0
      → Reaches w 1 (at_with n c d) (at_with (n + length (when_code r body)) c d)
  pub enters : (n : ℕ) (c : Contents) (d : Behind) → CodeAt w n (when_code r body) → d.pending ≡ Idle → reg c.regs r ≢ 0
      → Reaches w 1 (at_with n c d) (at_with (n + 1) c d)
  pub runs : (n m : ℕ) (c : Contents) (d : Behind) (c' : Contents) (d' : Behind) → CodeAt w n (when_code r body) → d.pending ≡ Idle → reg c.regs r ≢ 0
      → Reaches w m (at_with (n + 1) c d) (at_with (n + 1 + length body) c' d')
      → Reaches w (m + 1) (at_with n c d) (at_with (n + length (when_code r body)) c' d')

-- A loop: where its parts stand; from the end of the test it is left where the register is 0, and else the body is entered, from
-- whose end it goes back. Then a whole turn, and the last test, with their prices, where no command is under way behind them.
pub record LoopRuns (w : World) (test : List Inst) (r : ℕ) (body : List Inst) : Type 0 where
  pub test_stands : (n : ℕ) → CodeAt w n (loop_code test r body) → CodeAt w n test
  pub body_stands : (n : ℕ) → CodeAt w n (loop_code test r body) → CodeAt w (n + length test + 1) body
  pub leaves : (n : ℕ) (c : Contents) (d : Behind) → CodeAt w n (loop_code test r body) → reg c.regs r ≡ 0
      → Reaches w 1 (at_with (n + length test) c d) (settle (n + length (loop_code test r body)) c d)
  pub enters : (n : ℕ) (c : Contents) (d : Behind) → CodeAt w n (loop_code test r body) → reg c.regs r ≢ 0
      → Reaches w 1 (at_with (n + length test) c d) (settle (n + length test + 1) c d)
  pub again : (n : ℕ) (c : Contents) (d : Behind) → CodeAt w n (loop_code test r body)
      → Reaches w 1 (at_with (n + length test + 1 + length body) c d) (settle n c d)
  pub turns : (n p q : ℕ) (c : Contents) (d : Behind) (c' : Contents) (d' : Behind) (c'' : Contents) (d'' : Behind) → CodeAt w n (loop_code test r body)
      → Reaches w p (at_with n c d) (at_with (n + length test) c' d') → d'.pending ≡ Idle → reg c'.regs r ≢ 0
      → Reaches w q (at_with (n + length test + 1) c' d') (at_with (n + length test + 1 + length body) c'' d'') → d''.pending ≡ Idle
      → Reaches w (p + q + 2) (at_with n c d) (at_with n c'' d'')
  pub ends : (n p : ℕ) (c : Contents) (d : Behind) (c' : Contents) (d' : Behind) → CodeAt w n (loop_code test r body)
      → Reaches w p (at_with n c d) (at_with (n + length test) c' d') → d'.pending ≡ Idle → reg c'.regs r ≡ 0
      → Reaches w (p + 1) (at_with n c d) (at_with (n + length (loop_code test r body)) c' d')

-- a routine: a body, and a jump to the return address, which the body leaves in its register
abbrev pub ReturnRuns : World → List Inst → Type 0
ReturnRuns w body = (n m to : ℕ) (c : Contents) (d : Behind) (c' : Contents) (d' : Behind) → CodeAt w n (body ++ Jr RETURN ∷ [])
    → Reaches w m (at_with n c d) (at_with (n + length body) c' d') → reg c'.regs RETURN ≡ 4 * to → d'.pending ≡ Idle
    → Reaches w (m + 1) (at_with n c d) (at_with to c' d')

-- the block leads from this very state to one of Q, by its end, in so many steps at most
abbrev pub From : World → List Inst → ℕ → Contents → Behind → (Contents → Behind → Type 0) → Type 0
From w is n c0 d0 Q = Does w is n (λ c d. (c ≡ c0) × (d ≡ d0)) Q

-- A loop whose turns are paid for. Beside the machine's state there is one of the loop's own, that `next_address` leads on; `before` holds of
-- both before each test, which takes `tests` steps at most, and `tested` after it; a turn's body takes `takes`, and `cost` is what is left to be
-- spent. So no number of turns is asked for, and turns may cost different amounts. `ends` holds where the register is 0.
pub record Pays (w : World) (test : List Inst) (r : ℕ) (body : List Inst) (State : Type 0) (before tested ends : State → Contents → Behind → Type 0) (tests : ℕ)
    (takes cost : State → ℕ) (next : State → State) : Type 0 where
  pub idle_before : (a : State) (c : Contents) (d : Behind) → before a c d → d.pending ≡ Idle
  pub idle_tested : (a : State) (c : Contents) (d : Behind) → tested a c d → d.pending ≡ Idle
  pub tested_so : (a : State) → Does w test tests (before a) (tested a)
  pub turned_so : (a : State) → Does w body (takes a) (λ c d. tested a c d × (reg c.regs r ≢ 0)) (before (next a))
  pub paid : (a : State) (c : Contents) (d : Behind) → tested a c d → reg c.regs r ≢ 0 → tests + takes a + 2 + cost (next a) ≤ cost a
  pub last : (a : State) (c : Contents) (d : Behind) → tested a c d → reg c.regs r ≡ 0 → ends a c d
  pub stays : (a : State) (c : Contents) (d : Behind) → ends (next a) c d → ends a c d

-- a loop that pays for its turns ends, within what it may spend
abbrev pub LoopPays : World → (State : Type 0) → (before tested ends : State → Contents → Behind → Type 0) → Type 0
LoopPays w State before tested ends = (test : List Inst) (r : ℕ) (body : List Inst) → length test + length body + 2 ≤ 32768
    → (tests : ℕ) (takes cost : State → ℕ) (next : State → State) → Pays w test r body State before tested ends tests takes cost next → (a : State)
    → Does w (loop_code test r body) (cost a + tests + 1) (before a) (ends a)

-- blocks of instructions in range have instructions in range
pub record BlocksInRange : Type 0 where
  pub joined : (a b : List Inst) → All InRange a → All InRange b → All InRange (a ++ b)
  pub when : (r : ℕ) (body : List Inst) → r < 32 → length body < 65536 → All InRange body → All InRange (when_code r body)
  pub loop : (test : List Inst) (r : ℕ) (body : List Inst) → r < 32 → length test + length body + 2 ≤ 32768 → All InRange test → All InRange body
      → All InRange (loop_code test r body)

-- the words of a block are those of its instructions
pub record WordsAreEncodings : Type 0 where
  pub joined : (a b : List Inst) → map encoding (a ++ b) ≡ map encoding a ++ map encoding b
  pub when : (r : ℕ) (body : List Inst) → map encoding (when_code r body) ≡ when_words r (map encoding body)
  pub loop : (test body : List Inst) (r : ℕ) → map encoding (loop_code test r body) ≡ loop_words (map encoding test) r (map encoding body)
