-- THE SCRIPT OF A STEP of a run: the transfer that is due, and the rows of what the step completes.
use Rattle.std.specs.Prelude.{ℕ, suc, ◌+◌, ◌-◌, ◌*◌, ◌/◌, ◌==◌, ◌&&◌, if◌then◌else◌, Bool, false}
use Rattle.std.specs.Prelude.{List, [], ◌∷◌, ◌++◌, Option, Some, None, length, take, drop, slice_index}
use Rattle.mips_table.specs.Device.{Environment}
use Rattle.mips_table.specs.Machine.{State, run}
use Rattle.mips_table.specs.Turns.{begins_turn}
use Rattle.mips_machine.specs.Steps.{script_of_step}
use Rattle.layer_map.specs.Map.{Map}
use Rattle.layer_contract.specs.declared.registers.TheConstants.{ANSWER}
use Rattle.cvm_outside.specs.Script.{Call, Printed, scripts}
use Rattle.cvm_model.specs.Cvm.{map_of}
use Rattle.cvm_model.specs.Kernel.{JournalEntry, Put}
use Rattle.cvm_model.specs.Text.{rows_text, open_journal_rows}
use Rattle.boot_report.specs.Resident.{page_reads}
use Rattle.boot_turns.specs.declared.answers.View.{View}
use Rattle.boot_turns.specs.declared.answers.View.TheVariants.{Boot, Trace}
use Rattle.boot_turns.specs.declared.primitives.TheConstants.{VM_COPY}
use Rattle.boot_turns.specs.declared.tracer.Entered.{Entered}
use Rattle.boot_turns.specs.Returns.{noted_call, returned}
use Rattle.boot_turns.specs.Runs.{Run, Past, state_at, cvm_at}

-- a text is printed, unless it is empty
abbrev pub prints : List ℕ → List Call
prints [] = []
prints (b ∷ text) = Printed (Some (b ∷ text)) ∷ []

-- the transfers of n steps of a run from step number t on
abbrev pub transfers : Environment → State → (t n : ℕ) → List Call
transfers x s t n = scripts (λ i. script_of_step x (run x s (t + i))) n

-- page p of user u, by its number of all
abbrev pub page_of : Map → (u p : ℕ) → ℕ
page_of m u p = (u - 1) * m.params.pages + p

-- whether the primitive that returns here copied words to user u
abbrev pub is_copy_to : ℕ → State → Option Entered → Bool
is_copy_to u s None = false
is_copy_to u s (Some e) = slice_index s.cpu.regs ANSWER == 1 && (e.primitive == VM_COPY && slice_index e.arguments 2 == u)

-- whether one returns in step number t that did
abbrev pub copies_at : Run → (u t : ℕ) → Bool
copies_at r u t =
    if begins_turn r.around (state_at r t) then false else is_copy_to u (state_at r (suc t)) (returned (state_at r (suc t)) (noted_call r.around r.first t))

-- the read of the word that the first of these entries has, which was copied to user u
abbrev pub entry_reads : Map → State → (u : ℕ) → List JournalEntry → List Call
entry_reads m s u (Put address value ∷ rest) = page_reads m s (page_of m u (address / 4096))
entry_reads m s u other = []

-- the text that entry number k adds to the rows of a journal
abbrev pub row_behind : List JournalEntry → (k : ℕ) → List ℕ
row_behind j k = drop (length (open_journal_rows (take k j))) (open_journal_rows (take (suc k) j))

-- entry number k of what is shown after step number t: a word that was copied is read where its page is in no frame; and the entry's row is printed
abbrev pub entry_script : Run → Past → (u t k : ℕ) → List Call
entry_script r p u t k =
    (if copies_at r u t then entry_reads (map_of r.system.boot) (state_at r (suc t)) u (drop k (p.shown (suc t))) else [])
    ++ prints (row_behind (p.shown (suc t)) k)

-- THE ROWS OF A STEP: of a boot that of the turn that it completes, if that dispatches; of a trace those of the entries that are shown from there on
abbrev pub rows_script : View → Run → Past → (t : ℕ) → List Call
rows_script Boot r p t = prints (rows_text (drop (length (cvm_at r p t).rows) (cvm_at r p (suc t)).rows))
rows_script (Trace u) r p t = scripts (λ i. entry_script r p u t (length (p.shown t) + i)) (length (p.shown (suc t)) - length (p.shown t))

-- STEP NUMBER t: its transfer, and its rows
abbrev pub step_script : Run → Past → (t : ℕ) → List Call
step_script r p t = script_of_step r.around (state_at r t) ++ rows_script r.view r p t

-- n steps from step number t on
abbrev pub steps_script : Run → Past → (t n : ℕ) → List Call
steps_script r p t n = scripts (λ i. step_script r p (t + i)) n
