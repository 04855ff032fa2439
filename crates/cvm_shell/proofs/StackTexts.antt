-- A text of a run that never stops for want of stack doesn't end with the row `fault StackOut`. It is gone through with its last three letters in
-- view, of which only that row's are these: of the other rows that of a pointer alone ends with a `t`.
use Rattle.std.proofs.Common.{◌≡◌, ◌≢◌, Bool, true, false, ℕ, zero, suc, ◌<◌, ◌+◌, ◌*◌, ◌/◌, ◌%◌, ◌^◌, List, [], ◌∷◌, ◌++◌, Some, None, refl, sym, ◌∙◌, subst, arith}
use Rattle.std.specs.Prelude.{Option, ℤ, pos, negsuc, ◌==◌, nat_lt, if◌then◌else◌, decimal, codes, bit_or, length, drop}
use Rattle.std.specs.Fmt.{signed_decimal, digits, digits_onto, digit_glyph}
use Rattle.cvm_text.specs.Hex.{hex_digit, hex8}
use Rattle.mips_table.specs.Flat.{Flat}
use Rattle.c0_meaning.specs.Value.{Value, Values, int, bool, null, at, group, empty, part}
use Rattle.cvm_model.specs.Kernel.{Core, parts_of_value, JournalEntry, Stepped, Trapped, Set, Size, Put, DispatchEnd, Answers, Faults, NotYet, DispatchOutcome}
use Rattle.cvm_model.specs.Primitives.{pages_of}
use Rattle.cvm_model.specs.declared.kernel_fault.KernelFault.{KernelFault}
use Rattle.cvm_model.specs.declared.kernel_fault.KernelFault.TheVariants.{NullUse, Bounds, DivZero, StackOut, BadUser}
use Rattle.cvm_model.specs.declared.row.Next.{Next}
use Rattle.cvm_model.specs.declared.row.Next.TheVariants.{User, Halt, Fault}
use Rattle.cvm_model.specs.declared.row.Row.{Row}
use Rattle.cvm_model.specs.Cvm.{System, Status, Running, Halted, Faulted, Cvm, Begin, Steps, Traps, Interrupts, begin, next_of, status_of, dispatched, after_dispatch, dispatch_of, begun, turn_by, turn, cvm, IsCvm}
use Rattle.cvm_model.specs.Text as text

-- THE LAST THREE LETTERS of a text, the last one in `z`
record Last : Type 0 where
  x : ℕ
  y : ℕ
  z : ℕ

abbrev next_letter : Last → ℕ → Last
next_letter l c = record { x = l.y; y = l.z; z = c }

abbrev after : Last → List ℕ → Last
after l [] = l
after l (c ∷ rest) = after (next_letter l c) rest

after_append : (l : Last) (a b : List ℕ) → after l (a ++ b) ≡ after (after l a) b
after_append l [] b = refl
after_append l (c ∷ a) b = after_append (next_letter l c) a b

-- they are no `ut` and the end of a row
record Fine (l : Last) : Type 0 where
  other : l.x ≡ 117 → l.y ≡ 116 → l.z ≡ 10 → ⊥

-- a piece keeps them so, or makes them so
record Keeps (a : List ℕ) : Type 0 where
  keeps : (l : Last) → Fine l → Fine (after l a)

record Makes (a : List ℕ) : Type 0 where
  makes : (l : Last) → Fine (after l a)

keeps_none : Keeps []
keeps_none = record { keeps = λ l f. f }

keeps_made : (a : List ℕ) → Makes a → Keeps a
keeps_made a h = record { keeps = λ l f. h.makes l }

keeps_both : (a b : List ℕ) → Keeps a → Keeps b → Keeps (a ++ b)
keeps_both a b h k = record { keeps = λ l f. subst Fine (sym (after_append l a b)) (k.keeps (after l a) (h.keeps l f)) }

makes_behind : (a b : List ℕ) → Makes b → Makes (a ++ b)
makes_behind a b h = record { makes = λ l. subst Fine (sym (after_append l a b)) (h.makes (after l a)) }

makes_before : (a b : List ℕ) → Makes a → Keeps b → Makes (a ++ b)
makes_before a b h k = record { makes = λ l. subst Fine (sym (after_append l a b)) (k.keeps (after l a) (h.makes l)) }

-- NUMBERS have letters below `t`
abbrev AreBelow : List ℕ → Type 0
AreBelow [] = Unit {0}
AreBelow (c ∷ rest) = (c < 116) × AreBelow rest

last_low : (l : Last) (a : List ℕ) → l.z < 116 → AreBelow a → (after l a).z < 116
last_low l [] low h = low
last_low l (c ∷ a) low h = last_low (next_letter l c) a h.0 h.1

-- a text whose last letter is below `t`, whatever stands before it
record Low (a : List ℕ) : Type 0 where
  low : (l : Last) → (after l a).z < 116

low_behind : (a b : List ℕ) → Low b → Low (a ++ b)
low_behind a b h = record { low = λ l. subst (λ (m : Last). m.z < 116) (sym (after_append l a b)) (h.low (after l a)) }

low_number : (a : List ℕ) → AreBelow a → Low (32 ∷ a)
low_number a h = record { low = λ l. last_low (next_letter l 32) a (let low : 32 < 116 = omega arith in low) h }

-- it ends a row as no other does
new_row : (l : Last) → l.z < 116 → Fine (after l (10 ∷ []))
new_row l low = record { other = λ x y z. absurd (omega (arith, low, y)) }

makes_row : (a : List ℕ) → Low a → Makes (a ++ 10 ∷ [])
makes_row a h = record { makes = λ l. subst Fine (sym (after_append l a (10 ∷ []))) (new_row (after l a) (h.low l)) }

either_below : (b : Bool) (d : ℕ) → d < 16 → (if b then 48 + d else 87 + d) < 116
either_below true d low = omega arith
either_below false d low = omega arith

both_below : (b : Bool) (x y : List ℕ) → AreBelow x → AreBelow y → AreBelow (if b then x else y)
both_below true x y h k = h
both_below false x y h k = k

digits_below : (k n : ℕ) (acc : List ℕ) → AreBelow acc → AreBelow (digits_onto k 10 false n acc)
digits_below zero n acc h = h
digits_below (suc k) n acc h =
    let low : n % 10 < 16 = omega arith in
    let here : digit_glyph false (n % 10) < 116 = either_below (nat_lt (n % 10) 10) (n % 10) low in
    both_below (n / 10 == 0) (digit_glyph false (n % 10) ∷ acc) (digits_onto k 10 false (n / 10) (digit_glyph false (n % 10) ∷ acc)) (here, h)
    (digits_below k (n / 10) (digit_glyph false (n % 10) ∷ acc) (here, h))

decimal_below : (n : ℕ) → AreBelow (decimal n)
unfolding digits
decimal_below n = digits_below 64 n [] tt

signed_below : (n : ℤ) → AreBelow (signed_decimal n)
signed_below (pos n) = decimal_below n
signed_below (negsuc n) = (omega arith, decimal_below (suc n))

hex_below : (word place : ℕ) → hex_digit (word / 16 ^ place % 16) < 116
hex_below word place = let low : word / 16 ^ place % 16 < 16 = omega arith in either_below (nat_lt (word / 16 ^ place % 16) 10) (word / 16 ^ place % 16) low

word_below : (word : ℕ) → AreBelow (hex8 word)
word_below word = (hex_below word 7, (hex_below word 6, (hex_below word 5, (hex_below word 4, (hex_below word 3, (hex_below word 2, (hex_below word 1, (hex_below word 0, tt))))))))

hex_row : (a : List ℕ) (word : ℕ) → Makes (text.hex_row a word)
hex_row a word = makes_row (a ++ 32 ∷ hex8 word) (low_behind a (32 ∷ hex8 word) (low_number (hex8 word) (word_below word)))

decimal_row : (a : List ℕ) (n : ℕ) → Makes (text.decimal_row a n)
decimal_row a n = makes_row (a ++ 32 ∷ decimal n) (low_behind a (32 ∷ decimal n) (low_number (decimal n) (decimal_below n)))

-- A row that may be missing
keeps_if : (b : Bool) (a : List ℕ) → Makes a → Keeps (if b then [] else a)
keeps_if true a h = keeps_none
keeps_if false a h = keeps_made a h

-- THE REPORT
global_row : (name : List ℕ) (v : Value) → Keeps (text.global_row name v)
global_row name (int n) = keeps_made _ (makes_row (codes "global " ++ name ++ 32 ∷ signed_decimal n) (low_behind (codes "global " ++ name) (32 ∷ signed_decimal n) (low_number (signed_decimal n) (signed_below n))))
global_row name (bool true) = keeps_made _ (makes_behind (codes "global " ++ name) (codes " true\n") (makes_row (codes " true") (record { low = λ l. let low : 101 < 116 = omega arith in low })))
global_row name (bool false) = keeps_made _ (makes_behind (codes "global " ++ name) (codes " false\n") (makes_row (codes " false") (record { low = λ l. let low : 101 < 116 = omega arith in low })))
global_row name null = keeps_made _ (makes_behind (codes "global " ++ name) (codes " null\n") (makes_row (codes " null") (record { low = λ l. let low : 108 < 116 = omega arith in low })))
global_row name (at p) = keeps_made _ (makes_behind (codes "global " ++ name) (codes " set\n") (record { makes = λ l. record { other = λ x y z. let e : 101 ≡ 117 = x in absurd (omega arith) } }))
global_row name (group vs) = keeps_none

globals : (names : List (List ℕ)) (vs : Values) → Keeps (text.globals_text names vs)
globals [] vs = keeps_none
globals (x ∷ names) empty = keeps_none
globals (x ∷ names) (part v vs) = keeps_both (text.global_row x v) (text.globals_text names vs) (global_row x v) (globals names vs)

console : (log : List ℕ) → Keeps (text.log_text log)
console [] = keeps_none
console (w ∷ rest) = keeps_both (text.hex_row (codes "con") w) (text.log_text rest) (keeps_made _ (hex_row (codes "con") w)) (console rest)

registers : (r : ℕ) (regs : List ℕ) → Keeps (text.regs_text r regs)
registers r [] = keeps_none
registers r (x ∷ rest) = keeps_both _ (text.regs_text (r + 1) rest) (keeps_if (x == 0) (text.hex_row (codes "reg " ++ decimal r) x) (hex_row (codes "reg " ++ decimal r) x)) (registers (r + 1) rest)

memory : (k : ℕ) (words : List ℕ) → Keeps (text.memory_text k words)
memory k [] = keeps_none
memory k (w ∷ rest) = keeps_both _ (text.memory_text (k + 1) rest) (keeps_if (w == 0) (text.hex_row (codes "mem " ++ hex8 (4 * k)) w) (hex_row (codes "mem " ++ hex8 (4 * k)) w)) (memory (k + 1) rest)

user : (u : ℕ) (f : Flat) → Makes (text.user_text u f)
user u f =
    let front = codes "user " ++ decimal u ++ codes " pages " ++ decimal (pages_of f) ++ codes " pc" in
    let head = text.hex_row front f.cpu.pc in
    let regs = text.regs_text 1 (drop 1 f.cpu.regs) in
    let hi = text.nonzero_row (codes "hi") f.cpu.hi in
    let lo = text.nonzero_row (codes "lo") f.cpu.lo in
    makes_before (head ++ regs ++ hi ++ lo) (text.memory_text 0 f.words)
    (makes_before (head ++ regs ++ hi) lo
    (makes_before (head ++ regs) hi
    (makes_before head regs (hex_row front f.cpu.pc) (registers 1 (drop 1 f.cpu.regs)))
    (keeps_if (f.cpu.hi == 0) (text.hex_row (codes "hi") f.cpu.hi) (hex_row (codes "hi") f.cpu.hi)))
    (keeps_if (f.cpu.lo == 0) (text.hex_row (codes "lo") f.cpu.lo) (hex_row (codes "lo") f.cpu.lo)))
    (memory 0 f.words)

users : (u : ℕ) (fs : List Flat) → Keeps (text.users_text u fs)
users u [] = keeps_none
users u (x ∷ rest) = keeps_both (text.user_text u x) (text.users_text (u + 1) rest) (keeps_made _ (user u x)) (users (u + 1) rest)

report : (names : List (List ℕ)) (c : Core) → Keeps (text.report_text names c)
report names c =
    let globals_rows = text.globals_text names (parts_of_value c.c0.global_values) in
    keeps_both (globals_rows ++ text.log_text c.console.log) (text.users_text 1 c.users)
    (keeps_both globals_rows (text.log_text c.console.log) (globals names (parts_of_value c.c0.global_values)) (console c.console.log)) (users 1 c.users)

-- the end of a run that didn't fault
stopped : Keeps (codes "stopped\n")
stopped = keeps_made _ (makes_row (codes "stopped") (record { low = λ l. let low : 100 < 116 = omega arith in low }))

halted : Keeps (codes "halted\n")
halted = keeps_made _ (makes_row (codes "halted") (record { low = λ l. let low : 100 < 116 = omega arith in low }))

closing : (y : System) (c : Cvm) (s : Status) → Keeps (text.closing_text y c s)
closing y c Running = keeps_both (codes "stopped\n") _ stopped (report y.boot.meaning.names c.core)
closing y c Halted = keeps_both (codes "halted\n") _ halted (report y.boot.meaning.names c.core)
closing y c (Faulted f) = keeps_none

-- THE ROWS OF TURNS, none of which names the fault
abbrev IsOut : Next → Type 0
IsOut (Fault StackOut) = Unit {0}
IsOut _ = ⊥

-- a fault's name ends with a letter below `t`, but for one
name_low : (f : KernelFault) → (IsOut (Fault f) → ⊥) → Low (codes "fault " ++ text.fault_name f)
name_low NullUse h = record { low = λ l. let low : 101 < 116 = omega arith in low }
name_low Bounds h = record { low = λ l. let low : 115 < 116 = omega arith in low }
name_low DivZero h = record { low = λ l. let low : 111 < 116 = omega arith in low }
name_low StackOut h = absurd (h tt)
name_low BadUser h = record { low = λ l. let low : 114 < 116 = omega arith in low }

next_low : (n : Next) → (IsOut n → ⊥) → Low (32 ∷ text.next_text n)
next_low (User u) h = record { low = λ l. last_low (after l (32 ∷ codes "next ")) (decimal u) (let low : 32 < 116 = omega arith in low) (decimal_below u) }
next_low Halt h = record { low = λ l. let low : 48 < 116 = omega arith in low }
next_low (Fault f) h = record { low = λ l. (name_low f h).low (next_letter l 32) }

row : (r : Row) → (IsOut r.next → ⊥) → Makes (text.row_text r)
row r h =
    let front = codes "turn " ++ decimal r.turn ++ codes " cause " ++ decimal r.cause ++ codes " data " ++ hex8 r.edata ++ codes " user " ++ decimal r.user in
    makes_row (front ++ 32 ∷ text.next_text r.next) (low_behind front (32 ∷ text.next_text r.next) (next_low r.next h))

abbrev AllOther : List Row → Type 0
AllOther [] = Unit {0}
AllOther (r ∷ rest) = (IsOut r.next → ⊥) × AllOther rest

rows : (rs : List Row) → AllOther rs → Keeps (text.rows_text rs)
rows [] h = keeps_none
rows (r ∷ rest) h = keeps_both (text.row_text r) (text.rows_text rest) (keeps_made _ (row r h.0)) (rows rest h.1)

-- so it is of a run, turn by turn
all_more : (rs : List Row) (r : Row) → AllOther rs → (IsOut r.next → ⊥) → AllOther (rs ++ r ∷ [])
all_more [] r h k = (k, tt)
all_more (x ∷ rs) r h k = (h.0, all_more rs r h.1 k)

status_out : (n : Next) → IsOut n → status_of n ≡ Faulted StackOut
status_out (User u) h = absurd h
status_out Halt h = absurd h
status_out (Fault NullUse) h = absurd h
status_out (Fault Bounds) h = absurd h
status_out (Fault DivZero) h = absurd h
status_out (Fault StackOut) h = refl
status_out (Fault BadUser) h = absurd h

module _ (y : System) where
  abbrev Other : Cvm → Type 0
  Other c = c.status ≢ Faulted StackOut → AllOther c.rows

  moved : (d c : Cvm) → Other d → Some d ≡ Some c → Other c
  moved d c h e = let same : d ≡ c = cc in subst Other same h

  dispatched_other : (d c : Cvm) (k cause edata current pending : ℕ) (o : DispatchOutcome) (n : Next) → AllOther d.rows → Some (dispatched y d k cause edata current pending o n) ≡ Some c → Other c
  dispatched_other d c k cause edata current pending o n h =
      moved (dispatched y d k cause edata current pending o n) c (λ other. all_more d.rows (record { turn = k; cause = cause; edata = edata; user = current; next = n }) h (λ out. other (status_out n out)))

  after_other : (d c : Cvm) (k cause edata current pending : ℕ) (o : DispatchOutcome) (end : DispatchEnd) → AllOther d.rows → after_dispatch y d k cause edata current pending o end ≡ Some c → Other c
  after_other d c k cause edata current pending o (Answers a) h = dispatched_other d c k cause edata current pending o (next_of (length y.boot.users) a) h
  after_other d c k cause edata current pending o (Faults f) h = dispatched_other d c k cause edata current pending o (Fault f) h
  after_other d c k cause edata current pending o NotYet h = λ e. absurd cc

  begun_other : (n k : ℕ) (d c : Cvm) (b : Begin) → AllOther d.rows → begun y n k d b ≡ Some c → Other c
  begun_other n k d c (Steps core) h = moved _ c (λ other. h)
  begun_other n k d c (Traps cause edata core) h = after_other d c k cause edata core.current 0 (dispatch_of y n cause edata core) (dispatch_of y n cause edata core).end h
  begun_other n k d c (Interrupts cause edata core pending) h = after_other d c k cause edata core.current pending (dispatch_of y n cause edata core) (dispatch_of y n cause edata core).end h

  turned_other : (n k lines : ℕ) (d c : Cvm) (s : Status) → d.status ≡ s → Other d → turn_by y n k lines d s ≡ Some c → Other c
  turned_other n k lines d c Running e h = begun_other n k d c (begin k d.core (bit_or d.pending lines)) (h (λ out. let bad = sym e ∙ out in absurd cc))
  turned_other n k lines d c Halted e h = moved d c h
  turned_other n k lines d c (Faulted f) e h = moved d c h

  turn_other : (n k lines : ℕ) (o : Option Cvm) (c : Cvm) → ((d : Cvm) → o ≡ Some d → Other d) → turn y n k lines o ≡ Some c → Other c
  turn_other n k lines None c h = λ e. absurd cc
  turn_other n k lines (Some d) c h = turned_other n k lines d c d.status refl (h d refl)

  run_other : (lines : ℕ → ℕ) (n k : ℕ) (c : Cvm) → cvm y lines n k ≡ Some c → Other c
  run_other lines n zero c = moved _ c (λ other. tt)
  run_other lines n (suc k) c = turn_other n k (lines k) (cvm y lines n k) c (run_other lines n k)

-- THE JOURNAL of a user
steps : (n : ℕ) → Keeps (text.steps_row n)
steps zero = keeps_none
steps (suc n) = keeps_made _ (decimal_row (codes "steps") (suc n))

entry : (e : JournalEntry) → Keeps (text.entry_row e)
entry Stepped = keeps_none
entry (Trapped cause edata) = keeps_made _ (hex_row (codes "trap " ++ decimal cause) edata)
entry (Set register value) = keeps_made _ (hex_row (codes "set " ++ decimal register) value)
entry (Size pages) = keeps_made _ (decimal_row (codes "size") pages)
entry (Put address value) = keeps_made _ (hex_row (codes "put " ++ hex8 address) value)

with_row : (n : ℕ) (e : JournalEntry) (more : List ℕ) → Keeps more → Keeps (text.steps_row n ++ text.entry_row e ++ more)
with_row n e more h = keeps_both (text.steps_row n ++ text.entry_row e) more (keeps_both (text.steps_row n) (text.entry_row e) (steps n) (entry e)) h

journal : (ends : Bool) (n : ℕ) (j : List JournalEntry) → Keeps (text.journal_rows_after ends n j)
journal true n [] = steps n
journal false n [] = keeps_none
journal ends n (Stepped ∷ rest) = journal ends (n + 1) rest
journal ends n (Trapped cause edata ∷ rest) = with_row n (Trapped cause edata) _ (journal ends 0 rest)
journal ends n (Set register value ∷ rest) = with_row n (Set register value) _ (journal ends 0 rest)
journal ends n (Size pages ∷ rest) = with_row n (Size pages) _ (journal ends 0 rest)
journal ends n (Put address value ∷ rest) = with_row n (Put address value) _ (journal ends 0 rest)

trace_end : (u : ℕ) (f : Flat) (s : Status) → s ≢ Faulted StackOut → Keeps (text.trace_end u f s)
trace_end u f Running h = keeps_both (codes "stopped\n") (text.user_text u f) stopped (keeps_made _ (user u f))
trace_end u f Halted h = keeps_both (codes "halted\n") (text.user_text u f) halted (keeps_made _ (user u f))
trace_end u f (Faulted fault) h = keeps_made _ (makes_row (codes "fault " ++ text.fault_name fault) (name_low fault (λ out. h (status_out (Fault fault) out))))

-- WHAT IS PRINTED: the rows so far, the whole text of a boot, the journal so far, and the whole text of a trace
pub IsClean : List ℕ → Type 0
IsClean a = Keeps a

pub rows_clean : (y : System) (lines : ℕ → ℕ) (k : ℕ) (c : Cvm) → IsCvm y lines k c → c.status ≢ Faulted StackOut → IsClean (text.rows_text c.rows)
unfolding IsClean
rows_clean y lines k c is other = rows c.rows (run_other y lines is.units k c is.is other)

pub boot_clean : (y : System) (lines : ℕ → ℕ) (k : ℕ) (c : Cvm) → IsCvm y lines k c → c.status ≢ Faulted StackOut → IsClean (text.boot_text y c)
unfolding IsClean
boot_clean y lines k c is other = keeps_both (text.rows_text c.rows) (text.closing_text y c c.status) (rows c.rows (run_other y lines is.units k c is.is other)) (closing y c c.status)

pub journal_clean : (u : ℕ) (first : Flat) (j : List JournalEntry) → IsClean (text.start_row u first ++ text.open_journal_rows j)
unfolding IsClean
journal_clean u first j = keeps_both (text.start_row u first) (text.open_journal_rows j) (keeps_made _ (decimal_row (codes "start " ++ decimal u ++ codes " pages") (pages_of first))) (journal false 0 j)

pub trace_clean : (u : ℕ) (first : Flat) (j : List JournalEntry) (last : Flat) (s : Status) → s ≢ Faulted StackOut → IsClean (text.trace_text u first j last s)
unfolding IsClean
trace_clean u first j last s other =
    keeps_both (text.start_row u first ++ text.journal_rows j) (text.trace_end u last s)
    (keeps_both (text.start_row u first) (text.journal_rows j) (keeps_made _ (decimal_row (codes "start " ++ decimal u ++ codes " pages") (pages_of first))) (journal true 0 j))
    (trace_end u last s other)

-- a clean text doesn't end with the row
at_end : (l : Last) → Fine (after l (codes "fault StackOut\n")) → ⊥
at_end l f = f.other refl refl refl

pub clean_end : (front : List ℕ) → IsClean (front ++ codes "fault StackOut\n") → ⊥
unfolding IsClean
clean_end front clean =
    let first : Last = record { x = 0; y = 0; z = 0 } in
    at_end (after first front) (subst Fine (after_append first front (codes "fault StackOut\n")) (clean.keeps first (record { other = λ x y z. let e : 0 ≡ 10 = z in absurd (omega arith) })))
