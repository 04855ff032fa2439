-- The run of code: registers, special registers and words as functions of their numbers, and code that is fixed for the run.
-- No interrupt comes in it, and no line is seen in it.
use Rattle.std.specs.Prelude.{◌≡◌, ◌≢◌, ℕ, zero, suc, ◌+◌, ◌-◌, ◌*◌, ◌/◌, ◌%◌, ◌^◌, ◌<◌, ◌≤◌, Bool, true, false}
use Rattle.std.specs.Prelude.{not, ◌&&◌, ◌==◌, nat_lt, if◌then◌else◌, List, [], ◌∷◌, ◌++◌, length, drop, slice_index, Option, Some, None}
use Rattle.mips_table.specs.declared.inst.Inst.{Inst}
use Rattle.mips_table.specs.declared.inst.Inst.TheVariants.{Mfc0, Mtc0}
use Rattle.mips_table.specs.declared.effect.Effect.{Effect}
use Rattle.mips_table.specs.declared.effect.Effect.TheVariants.{Set, Wide, Load, Store, Overflow, Call, System}
use Rattle.mips_table.specs.Encoding.{InRange, encoding}
use Rattle.mips_table.specs.Effect.{effect_of}
use Rattle.mips_table.specs.Device.{Pending, Idle, Reading, Writing, Environment, BUFFER, SECTOR, COMMAND, POWER, is_busy, is_buffer}
use Rattle.mips_table.specs.declared.special.TheConstants.{SR, MODE}
use Rattle.mips_table.specs.Machine.{LOG, LEFT, INPUT, log_has_room, flagged}

-- a function that has the value v at a from now on
abbrev pub put : (ℕ → ℕ) → ℕ → ℕ → ℕ → ℕ
put f a v k = if k == a then v else f k

-- What a run of code sees of the words: registers and special registers by number, hi and lo, and by word number all words
-- that stay where they are read: of memory, of the disk's buffer, and the sector register.
pub record Contents : Type 0 where
  pub regs : ℕ → ℕ
  pub hi : ℕ
  pub lo : ℕ
  pub special : ℕ → ℕ
  pub memory : ℕ → ℕ

-- a register is read; register 0 reads 0
abbrev pub reg : (ℕ → ℕ) → ℕ → ℕ
reg regs r = if r == 0 then 0 else regs r

-- a register is written; a write to register 0 is lost
abbrev pub put_reg : (ℕ → ℕ) → ℕ → ℕ → ℕ → ℕ
put_reg regs r v = if r == 0 then regs else put regs r v

-- the contents with a register written
abbrev pub with_reg : Contents → ℕ → ℕ → Contents
with_reg c r v = record c { regs = put_reg c.regs r v }

-- the contents with hi and lo written
abbrev pub with_wide : Contents → ℕ → ℕ → Contents
with_wide c hi lo = record c { hi = hi; lo = lo }

-- what is behind the ports: the disk's command under way, the number of the next one, the words of each sector, and the console's log and input
pub record Behind : Type 0 where
  pub pending : Pending
  pub commands : ℕ
  pub sectors : ℕ → ℕ → ℕ
  pub log : List ℕ
  pub input : List ℕ

-- What is fixed for a run: the instructions that may run, by word number; the words that no store may touch, with what
-- they hold; whether ports and special registers may be used; the number of words of memory, and of the sectors that may be used; and the
-- busy times.
pub record World : Type 0 where
  pub code : ℕ → Option Inst
  pub kept : ℕ → Option ℕ
  pub system : Bool
  pub words : ℕ
  pub count : ℕ
  pub busy : ℕ → ℕ

-- code in a memory of so many words, with the words that stay as they were linked, and with the number of sectors that it may use
pub record Program : Type 0 where
  pub code : ℕ → Option Inst
  pub kept : ℕ → Option ℕ
  pub words : ℕ
  pub count : ℕ

-- a program on the physical machine
abbrev pub on_machine : Environment → Program → World
on_machine x p = record { code = p.code; kept = p.kept; system = true; words = p.words; count = p.count; busy = x.busy }

-- a program on the flat machine, which has no ports and no special registers
abbrev pub on_flat : Program → World
on_flat p = record { code = p.code; kept = p.kept; system = false; words = p.words; count = 0; busy = λ _. 0 }

-- the code is of instructions in range, lies in memory, and is kept; memory lies below the ports
pub record Sound (w : World) : Type 0 where
  pub small : w.words < 2 ^ 26
  pub range : (n : ℕ) (i : Inst) → w.code n ≡ Some i → InRange i
  pub inside : (n : ℕ) (i : Inst) → w.code n ≡ Some i → n < w.words
  pub keeps : (n : ℕ) (i : Inst) → w.code n ≡ Some i → w.kept n ≡ Some (encoding i)

-- where the code stands (a word number), what it sees, and what is behind the ports
pub record CodeState : Type 0 where
  pub at : ℕ
  pub contents : Contents
  pub behind : Behind

-- a configuration by its parts
abbrev pub at_with : ℕ → Contents → Behind → CodeState
at_with n c d = record { at = n; contents = c; behind = d }

-- the buffer's words are those of b
abbrev pub filled : (ℕ → ℕ) → (ℕ → ℕ) → ℕ → ℕ
filled memory b k = if is_buffer k then b (k - BUFFER) else memory k

-- the words of the buffer
abbrev pub buffer_of : (ℕ → ℕ) → ℕ → ℕ
buffer_of memory i = if nat_lt i 1024 then memory (BUFFER + i) else 0

-- the end of a step, by the command under way
abbrev pub settling : Pending → ℕ → Contents → Behind → CodeState
settling Idle n c d = at_with n c d
settling (Reading zero sector) n c d = at_with n (record c { memory = filled c.memory (d.sectors sector) }) (record d { pending = Idle })
settling (Reading (suc left) sector) n c d = at_with n c (record d { pending = Reading left sector })
settling (Writing zero sector) n c d = at_with n c (record d { sectors = λ k. if k == sector then buffer_of c.memory else d.sectors k; pending = Idle })
settling (Writing (suc left) sector) n c d = at_with n c (record d { pending = Writing left sector })

-- the end of a step after which the code goes on at n
abbrev pub settle : ℕ → Contents → Behind → CodeState
settle n c d = settling d.pending n c d

-- a command is numbered and begins, unless it is lost
abbrev pub commanded : World → Behind → ℕ → ℕ → Behind
commanded w d sector command =
    if not (nat_lt sector w.count) then d else
    if command == 1 then record d { pending = Reading (w.busy d.commands) sector; commands = d.commands + 1 } else
    if command == 2 then record d { pending = Writing (w.busy d.commands) sector; commands = d.commands + 1 } else
    d

-- what a load outside memory gives
abbrev pub port_loaded : Contents → Behind → ℕ → ℕ
port_loaded c d k =
    if k == LOG then length d.log else
    if k == LEFT then length d.input else
    if k == INPUT then slice_index d.input 0 else
    if k == COMMAND then (if is_busy d.pending then 1 else 0) else
    if is_buffer k && is_busy d.pending then 0 else
    c.memory k

-- what a load gives
abbrev pub word_loaded : World → Contents → Behind → ℕ → ℕ
word_loaded w c d k = if nat_lt k w.words then c.memory k else port_loaded c d k

-- what a load leaves behind the ports: the input port's word is taken
abbrev pub after_load : World → Behind → ℕ → Behind
after_load w d k = if nat_lt k w.words then d else if k == INPUT then record d { input = drop 1 d.input } else d

-- what a store to the log leaves: it is lost where the log is full
abbrev pub logged : Behind → ℕ → Behind
logged d value = if log_has_room d.log then record d { log = d.log ++ value ∷ [] } else d

-- what a store does, where the code goes on at n
abbrev pub after_store : World → ℕ → Contents → Behind → ℕ → ℕ → CodeState
after_store w n c d k value =
    let written = settle n (record c { memory = put c.memory k value }) d in
    let lost = settle n c d in
    if nat_lt k w.words then written else
    if k == LOG then settle n c (logged d value) else
    if is_busy d.pending then lost else
    if k == COMMAND then settle n c (commanded w d (c.memory SECTOR) value) else
    if is_buffer k then written else
    if k == SECTOR then written else
    lost

-- what an instruction on special registers does
abbrev pub specials_after : Inst → Contents → Contents
specials_after (Mfc0 rt special) c = with_reg c rt (c.special special)
specials_after (Mtc0 rt special) c = record c { special = put c.special special (flagged special (reg c.regs rt)) }
specials_after other c = c

-- what an instruction at n comes to, by its effect
abbrev pub acted : World → Inst → ℕ → Contents → Behind → Effect → CodeState
acted w i n c d (Set register value to) = settle (to / 4) (with_reg c register value) d
acted w i n c d (Wide hi lo to) = settle (to / 4) (with_wide c hi lo) d
acted w i n c d (Load register address) = settle (n + 1) (with_reg c register (word_loaded w c d (address / 4))) (after_load w d (address / 4))
acted w i n c d (Store address value) = after_store w (n + 1) c d (address / 4) value
acted w i n c d Overflow = at_with n c d
acted w i n c d Call = at_with n c d
acted w i n c d System = settle (n + 1) (specials_after i c) d

-- an instruction on special registers may come that leaves sr and the mode as they are
abbrev pub PrivilegedMay : World → Inst → Type 0
PrivilegedMay w (Mfc0 rt special) = w.system ≡ true
PrivilegedMay w (Mtc0 rt special) = (w.system ≡ true) × (special ≢ SR) × (special ≢ MODE)
PrivilegedMay w other = ⊥

-- the effect is no trap, leaves the mode, sr and the kept words as they are, and doesn't end the run; a command is for a sector that may
-- be used
abbrev pub EffectMay : World → Inst → Contents → Effect → Type 0
EffectMay w i c (Set register value to) = to % 4 ≡ 0
EffectMay w i c (Wide hi lo to) = to % 4 ≡ 0
EffectMay w i c (Load register address) = (address % 4 ≡ 0) × (w.words ≤ address / 4 → w.system ≡ true)
EffectMay w i c (Store address value) = (address % 4 ≡ 0) × (w.words ≤ address / 4 → w.system ≡ true) × (w.kept (address / 4) ≡ None) × (address / 4 ≢ POWER)
    × (address / 4 ≡ COMMAND → c.memory SECTOR < w.count)
EffectMay w i c Overflow = ⊥
EffectMay w i c Call = ⊥
EffectMay w i c System = PrivilegedMay w i

-- the effect of an instruction at a word number
abbrev pub effect_at : Inst → ℕ → Contents → Effect
effect_at i n c = effect_of i (4 * n) (reg c.regs) c.hi c.lo

-- one instruction
unfoldable pub act : World → Inst → CodeState → CodeState
act w i s = acted w i s.at s.contents s.behind (effect_at i s.at s.contents)

-- it may run
abbrev pub May : World → Inst → CodeState → Type 0
May w i s = EffectMay w i s.contents (effect_at i s.at s.contents)

-- there is one, and it may run
abbrev pub MayAt : World → Option Inst → CodeState → Type 0
MayAt w None s = ⊥
MayAt w (Some i) s = May w i s

-- the instruction at a place, if there is one
abbrev pub act_at : World → Option Inst → CodeState → CodeState
act_at w None s = s
act_at w (Some i) s = act w i s

-- one step of code
abbrev pub code_step : World → CodeState → CodeState
code_step w s = act_at w (w.code s.at) s

-- the configuration after so many steps of code
abbrev pub code_run : World → CodeState → ℕ → CodeState
code_run w s zero = s
code_run w s (suc n) = code_run w (code_step w s) n

-- each of the first n instructions may run
abbrev pub MayRun : World → ℕ → CodeState → Type 0
MayRun w zero s = Unit {0}
MayRun w (suc n) s = MayAt w (w.code s.at) s × MayRun w n (code_step w s)

-- exactly n steps of code lead from s to t, and each instruction may run
abbrev pub Steps : World → ℕ → CodeState → CodeState → Type 0
Steps w n s t = MayRun w n s × (code_run w s n ≡ t)

-- at most n steps do
pub record Reaches (w : World) (n : ℕ) (s t : CodeState) : Type 0 where
  pub steps : ℕ
  pub within : steps ≤ n
  pub run : Steps w steps s t

-- the instructions stand at this word number
abbrev pub CodeAt : World → ℕ → List Inst → Type 0
CodeAt w n [] = Unit {0}
CodeAt w n (i ∷ is) = (w.code n ≡ Some i) × CodeAt w (n + 1) is

-- wherever the block stands, it leads from each state of P to one of Q, by its end, in so many steps at most
pub record Does (w : World) (is : List Inst) (steps : ℕ) (P Q : Contents → Behind → Type 0) : Type 0 where
  pub by : (n : ℕ) (c : Contents) (d : Behind) → CodeAt w n is → P c d → (c' : Contents) × (d' : Behind) × Q c' d'
      × Reaches w steps (at_with n c d) (at_with (n + length is) c' d')

-- from each configuration of P the code comes to one of Q, in so many steps at most: for exits, calls and jumps
pub record LeadsTo (w : World) (steps : ℕ) (P Q : CodeState → Type 0) : Type 0 where
  pub by : (s : CodeState) → P s → (t : CodeState) × Q t × Reaches w steps s t

-- a run of m and then n steps is one of m + n; steps join, and are cut at each place; each instruction on the way may run
pub record RunLaws : Type 0 where
  pub sum : (w : World) (s : CodeState) (m n : ℕ) → code_run w s (m + n) ≡ code_run w (code_run w s m) n
  pub joined : (w : World) (m n : ℕ) (s t u : CodeState) → Steps w m s t → Steps w n t u → Steps w (m + n) s u
  pub front : (w : World) (m n : ℕ) (s u : CodeState) → Steps w (m + n) s u → Steps w m s (code_run w s m)
  pub back : (w : World) (m n : ℕ) (s u : CodeState) → Steps w (m + n) s u → Steps w n (code_run w s m) u
  pub each : (w : World) (n j : ℕ) (s t : CodeState) → Steps w n s t → j < n → MayAt w (w.code (code_run w s j).at) (code_run w s j)
