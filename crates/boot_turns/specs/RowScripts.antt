-- The scripts of what a step of a trace prints, by what the machine shows and what is kept of the trace.
use Rattle.std.specs.Prelude.{◌≡◌, ℕ, ◌+◌, ◌*◌, ◌/◌, ◌==◌, ◌&&◌, nat_lt, ⊤, if◌then◌else◌, Bool}
use Rattle.std.specs.Prelude.{false, List, [], ◌∷◌, ◌++◌, Option, Some, None, slice_index, Result}
use Rattle.std.specs.Option.{option_map}
use Rattle.mips_table.specs.Machine.{State}
use Rattle.mips_machine.specs.Machine.{Held, state_of}
use Rattle.layer_map.specs.Map.{Map}
use Rattle.layer_contract.specs.declared.registers.TheConstants.{ANSWER}
use Rattle.page_model.specs.Paging.{Paged}
use Rattle.cvm_outside.specs.declared.sink.Sink as sink_of
use Rattle.cvm_outside.specs.declared.sectors.Sectors as sectors_of
use Rattle.cvm_outside.specs.Script.{Call, Printed, Who, TheSink, TheDisk, Makes, scripts}
use Rattle.cvm_model.specs.Kernel.{Put}
use Rattle.cvm_model.specs.Paged.{paged_of}
use Rattle.cvm_model.specs.Text.{steps_row, entry_row, journal_rows_after}
use Rattle.boot_report.specs.Resident.{word_reads}
use Rattle.boot_report.specs.Texts.{EntriesFit}
use Rattle.boot_report.specs.Told.{user_word}
use Rattle.boot_turns.specs.declared.answers.RunFault.{RunFault}
use Rattle.boot_turns.specs.declared.answers.RunFault.TheVariants.{StepLimit, Disk, Sink}
use Rattle.boot_turns.specs.declared.primitives.TheConstants.{VM_COPY}
use Rattle.boot_turns.specs.declared.tracer.Entered.{Entered}
use Rattle.boot_turns.specs.declared.tracer.Tracer.{Tracer}
use Rattle.boot_turns.specs.Completes.{note}
use Rattle.boot_turns.specs.Copies.{steps_left}
use Rattle.boot_turns.specs.Entries.{turn_begins, call_ends}
use Rattle.boot_turns.specs.Returns.{returned}
use Rattle.boot_turns.specs.StepScript.{prints}

-- whom a fault blames: where the budget is spent nobody
abbrev pub of_run : RunFault → Option Who
of_run StepLimit = None
of_run Disk = Some TheDisk
of_run Sink = Some TheSink

-- these are the pages that a machine shows over these sectors, where they are told; where they aren't there are none
abbrev pub ArePages : (told : Option (List (List ℕ))) → Held → Map → Option Paged → Type 0
ArePages told held m None = ⊤
ArePages told held m (Some pages) = (ss : List (List ℕ)) × (told ≡ Some ss) × EntriesFit m (state_of held ss) × (pages ≡ paged_of m (state_of held ss))

-- THE SCRIPT of what is printed of a machine, by the pages that it shows
abbrev pub MakesRows : {O D T : Type 0} → sink_of.Ghosts O → sectors_of.Ghosts D → Held → Map → (old new : O × D) → (Option Paged → List Call) →
    Result T RunFault → Type 0
MakesRows text told held m (out, disk) new script result =
    (pages : Option Paged) → ArePages (told.sectors disk) held m pages → Makes text told (out, disk) new (script pages) of_run result

-- word number i of those from an address on: it is read, and its row is printed behind that of the steps that have none
abbrev pub copied_script : Map → State → Option Paged → (u steps address i : ℕ) → List Call
copied_script m s pages u steps address i =
    word_reads m s u (address / 4 + i)
    ++ Printed (option_map (λ a. steps_row (steps_left steps i) ++ entry_row (Put (address + 4 * i) (user_word m a u (address / 4 + i)))) pages) ∷ []

-- the first n of them
abbrev pub copy_script : Map → State → Option Paged → (u steps address n : ℕ) → List Call
copy_script m s pages u steps address n = scripts (copied_script m s pages u steps address) n

-- how many words a primitive copied: all that it was asked for, where they lie in a user's memory
abbrev pub words_copied : Map → Entered → ℕ
words_copied m e =
    if nat_lt (1024 * m.params.pages) (slice_index e.arguments 3 / 4 + slice_index e.arguments 4) then 0 else slice_index e.arguments 4

-- the rows of one that has given this answer
abbrev pub ended_script : Map → State → Option Paged → (u steps : ℕ) → Entered → (answer : ℕ) → List Call
ended_script m s pages u steps e answer =
    if answer == 1 && (e.primitive == VM_COPY && slice_index e.arguments 2 == u)
    then copy_script m s pages u steps (slice_index e.arguments 3) (words_copied m e)
    else prints (journal_rows_after false steps (call_ends u e answer []))

-- those of one that returns, where one does
abbrev pub returned_script : Map → State → Option Paged → (u steps : ℕ) → Option Entered → List Call
returned_script m s pages u steps None = []
returned_script m s pages u steps (Some e) = ended_script m s pages u steps e (slice_index s.cpu.regs ANSWER)

-- those of a step that led to this state: it began a turn under this current user, or a primitive returned
abbrev pub followed_script : Map → State → Option Paged → Tracer → (current : ℕ) → (began : Bool) → List Call
followed_script m s pages kept current began =
    if began then prints (journal_rows_after false kept.steps (turn_begins kept.user current (note s)))
    else returned_script m s pages kept.user kept.steps (returned s kept.call)
