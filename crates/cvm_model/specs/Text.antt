-- The printed text: rows of dispatches, the end, the report, and the rows of a journal.
use Rattle.std.specs.Prelude.{ℕ, zero, suc, ◌+◌, ◌*◌, Bool, true, false, ◌==◌, if◌then◌else◌, List, [], ◌∷◌, ◌++◌, drop, decimal, codes}
use Rattle.std.specs.Fmt.{signed_decimal}
use Rattle.cvm_text.specs.Hex.{hex8}
use Rattle.mips_table.specs.Flat.{Flat}
use Rattle.mips_table.specs.Processor.{Cpu}
use Rattle.c0_meaning.specs.Value.{Value, Values, int, bool, null, at, group, part}
use Rattle.cvm_model.specs.Kernel.{parts_of_value, Core, JournalEntry, Stepped, Trapped, Set, Size, Put}
use Rattle.cvm_model.specs.declared.kernel_fault.KernelFault.{KernelFault}
use Rattle.cvm_model.specs.declared.kernel_fault.KernelFault.TheVariants.{NullUse, Bounds, DivZero, StackOut, BadUser}
use Rattle.cvm_model.specs.Primitives.{pages_of}
use Rattle.cvm_model.specs.Cvm.{System, Status, Running, Halted, Faulted, Cvm}
use Rattle.cvm_model.specs.declared.row.Next.{Next}
use Rattle.cvm_model.specs.declared.row.Next.TheVariants.{User, Halt, Fault}
use Rattle.cvm_model.specs.declared.row.Row.{Row}

-- a line that ends with a word in hexadecimal, and one that ends with a number
abbrev pub hex_row : List ℕ → ℕ → List ℕ
hex_row text word = text ++ 32 ∷ hex8 word ++ 10 ∷ []

abbrev pub decimal_row : List ℕ → ℕ → List ℕ
decimal_row text n = text ++ 32 ∷ decimal n ++ 10 ∷ []

abbrev pub fault_name : KernelFault → List ℕ
fault_name NullUse = codes "NullUse"
fault_name Bounds = codes "Bounds"
fault_name DivZero = codes "DivZero"
fault_name StackOut = codes "StackOut"
fault_name BadUser = codes "BadUser"

abbrev pub next_text : Next → List ℕ
next_text (User u) = codes "next " ++ decimal u
next_text Halt = codes "next 0"
next_text (Fault f) = codes "fault " ++ fault_name f

-- the row of a dispatch
abbrev pub row_text : Row → List ℕ
row_text r = codes "turn " ++ decimal r.turn ++ codes " cause " ++ decimal r.cause ++ codes " data " ++ hex8 r.edata ++ codes " user " ++ decimal r.user ++ 32
    ∷ next_text r.next ++ 10 ∷ []

abbrev pub rows_text : List Row → List ℕ
rows_text [] = []
rows_text (r ∷ rest) = row_text r ++ rows_text rest

-- the end; a run that faulted has none
abbrev pub end_text : Status → List ℕ
end_text Running = codes "stopped\n"
end_text Halted = codes "halted\n"
end_text (Faulted f) = []

-- the value of a global of scalar type
abbrev pub global_row : List ℕ → Value → List ℕ
global_row name (int n) = codes "global " ++ name ++ 32 ∷ signed_decimal n ++ 10 ∷ []
global_row name (bool b) = codes "global " ++ name ++ (if b then codes " true\n" else codes " false\n")
global_row name null = codes "global " ++ name ++ codes " null\n"
global_row name (at p) = codes "global " ++ name ++ codes " set\n"
global_row name (group vs) = []

abbrev pub globals_text : List (List ℕ) → Values → List ℕ
globals_text (x ∷ names) (part v vs) = global_row x v ++ globals_text names vs
globals_text names vs = []

-- the words of the console's log
abbrev pub log_text : List ℕ → List ℕ
log_text [] = []
log_text (w ∷ rest) = hex_row (codes "con") w ++ log_text rest

-- the registers from r on that aren't 0
abbrev pub regs_text : ℕ → List ℕ → List ℕ
regs_text r [] = []
regs_text r (x ∷ rest) = (if x == 0 then [] else hex_row (codes "reg " ++ decimal r) x) ++ regs_text (r + 1) rest

-- the words from number k on that aren't 0
abbrev pub memory_text : ℕ → List ℕ → List ℕ
memory_text k [] = []
memory_text k (w ∷ rest) = (if w == 0 then [] else hex_row (codes "mem " ++ hex8 (4 * k)) w) ++ memory_text (k + 1) rest

abbrev pub nonzero_row : List ℕ → ℕ → List ℕ
nonzero_row text word = if word == 0 then [] else hex_row text word

-- the first row of a user of so many pages
abbrev pub user_head : (u pages pc : ℕ) → List ℕ
user_head u pages pc = hex_row (codes "user " ++ decimal u ++ codes " pages " ++ decimal pages ++ codes " pc") pc

-- the rows of such a user's processor, by those of its registers
abbrev pub processor_text : (u pages : ℕ) → Cpu → (registers : List ℕ) → List ℕ
processor_text u pages cpu registers = user_head u pages cpu.pc ++ registers ++ nonzero_row (codes "hi") cpu.hi ++ nonzero_row (codes "lo") cpu.lo

-- the rows of user u's processor
abbrev pub cpu_text : ℕ → Flat → List ℕ
cpu_text u f = processor_text u (pages_of f) f.cpu (regs_text 1 (drop 1 f.cpu.regs))

-- the rows of user u: its processor, and its memory
abbrev pub user_text : ℕ → Flat → List ℕ
user_text u f = cpu_text u f ++ memory_text 0 f.words

abbrev pub users_text : ℕ → List Flat → List ℕ
users_text u [] = []
users_text u (f ∷ rest) = user_text u f ++ users_text (u + 1) rest

-- the report: globals, log and users
abbrev pub report_text : List (List ℕ) → Core → List ℕ
report_text names c = globals_text names (parts_of_value c.c0.global_values) ++ log_text c.console.log ++ users_text 1 c.users

-- the end and the report, unless the kernel faulted
abbrev pub closing_text : System → Cvm → Status → List ℕ
closing_text y c (Faulted f) = []
closing_text y c other = end_text other ++ report_text y.boot.meaning.names c.core

-- what `boot` prints once the turns are complete
abbrev pub boot_text : System → Cvm → List ℕ
boot_text y c = rows_text c.rows ++ closing_text y c c.status

-- n untrapped steps, where there are any
abbrev pub steps_row : ℕ → List ℕ
steps_row zero = []
steps_row (suc n) = decimal_row (codes "steps") (suc n)

-- the row of an entry that is no step
abbrev pub entry_row : JournalEntry → List ℕ
entry_row Stepped = []
entry_row (Trapped cause edata) = hex_row (codes "trap " ++ decimal cause) edata
entry_row (Set register value) = hex_row (codes "set " ++ decimal register) value
entry_row (Size pages) = decimal_row (codes "size") pages
entry_row (Put address value) = hex_row (codes "put " ++ hex8 address) value

-- the rows of a journal after n steps with no row yet; whether it ends with the row of its last steps
abbrev pub journal_rows_after : Bool → ℕ → List JournalEntry → List ℕ
journal_rows_after ends n [] = if ends then steps_row n else []
journal_rows_after ends n (Stepped ∷ rest) = journal_rows_after ends (n + 1) rest
journal_rows_after ends n (e ∷ rest) = steps_row n ++ entry_row e ++ journal_rows_after ends 0 rest

-- the rows of a journal
abbrev pub journal_rows : List JournalEntry → List ℕ
journal_rows j = journal_rows_after true 0 j

-- the same without a last row of steps
abbrev pub open_journal_rows : List JournalEntry → List ℕ
open_journal_rows j = journal_rows_after false 0 j

-- the first row of a trace
abbrev pub start_row : ℕ → Flat → List ℕ
start_row u f = decimal_row (codes "start " ++ decimal u ++ codes " pages") (pages_of f)

-- the last rows of a trace: the end and the user's rows, or the fault
abbrev pub trace_end : ℕ → Flat → Status → List ℕ
trace_end u f (Faulted fault) = codes "fault " ++ fault_name fault ++ 10 ∷ []
trace_end u f other = end_text other ++ user_text u f

-- what `trace` of user u prints once the turns are complete: first machine, journal, last machine and status
abbrev pub trace_text : ℕ → Flat → List JournalEntry → Flat → Status → List ℕ
trace_text u first j last status = start_row u first ++ journal_rows j ++ trace_end u last status
