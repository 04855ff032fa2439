-- THE SCRIPTS before the first step and behind the last: the first row of a trace; the end and the report.
use Rattle.std.specs.Prelude.{ℕ, ◌+◌, ◌*◌, List, [], ◌∷◌, ◌++◌, Some, codes, drop, take, length}
use Rattle.mips_table.specs.Machine.{State}
use Rattle.mips_table.specs.Flat.{Flat}
use Rattle.layer_map.specs.Map.{Map}
use Rattle.cvm_model.specs.Cvm.{System, Cvm, Status, Faulted, map_of}
use Rattle.cvm_model.specs.Kernel.{JournalEntry, parts_of_value}
use Rattle.cvm_model.specs.Primitives.{user_of, pages_of}
use Rattle.cvm_model.specs.Text.{end_text, fault_name, globals_text, log_text, memory_text, cpu_text, start_row, journal_rows, open_journal_rows}
use Rattle.boot_turns.specs.declared.answers.View.{View}
use Rattle.boot_turns.specs.declared.answers.View.TheVariants.{Boot, Trace}
use Rattle.cvm_outside.specs.Script.{Call, Printed, scripts}
use Rattle.boot_report.specs.Resident.{page_reads}
use Rattle.boot_turns.specs.Runs.{Run, Past, state_at, steps_made, cvm_at}
use Rattle.boot_turns.specs.StepScript.{page_of}
use Rattle.boot_turns.specs.TurnEnds.{first_user_machine}

-- a text is printed, by a call in any case
abbrev pub says : List ℕ → List Call
says text = Printed (Some text) ∷ []

-- before the first step: of a trace the row of the user's size
abbrev pub opening_script : View → System → List Call
opening_script Boot y = []
opening_script (Trace u) y = says (start_row u (first_user_machine y u))

-- page p of user u is read where it is in no frame, and its rows are printed
abbrev pub page_report_script : Map → State → (u : ℕ) → Flat → (p : ℕ) → List Call
page_report_script m s u f p = page_reads m s (page_of m u p) ++ says (memory_text (1024 * p) (take 1024 (drop (1024 * p) f.words)))

-- a user: the rows of its processor, and its pages
abbrev pub user_report_script : Map → State → (u : ℕ) → Flat → List Call
user_report_script m s u f = says (cpu_text u f) ++ scripts (page_report_script m s u f) (pages_of f)

-- THE REPORT of a boot: the end row, the globals, the log, and all users; a kernel that faulted has none
abbrev pub boot_report : System → State → Cvm → Status → List Call
boot_report y s c (Faulted f) = []
boot_report y s c other =
    says (end_text other ++ globals_text y.boot.meaning.names (parts_of_value c.core.c0.global_values) ++ log_text c.core.console.log)
    ++ scripts (λ i. user_report_script (map_of y.boot) s (i + 1) (user_of c.core.users (i + 1))) (length c.core.users)

-- the row of the last steps of a journal, if it ends with any
abbrev pub last_steps : List JournalEntry → List ℕ
last_steps j = drop (length (open_journal_rows j)) (journal_rows j)

-- THE REPORT of a trace: the row of its last steps, the end row and the user; or of a kernel that faulted the row of the fault
abbrev pub trace_report : System → State → Cvm → (u : ℕ) → List JournalEntry → Status → List Call
trace_report y s c u j (Faulted f) = says (last_steps j ++ codes "fault " ++ fault_name f ++ codes "\n")
trace_report y s c u j other = says (last_steps j ++ end_text other) ++ user_report_script (map_of y.boot) s u (user_of c.core.users u)

abbrev pub report_by : View → Run → Past → (t : ℕ) → List Call
report_by Boot r p t = boot_report r.system (state_at r t) (cvm_at r p t) (cvm_at r p t).status
report_by (Trace u) r p t = trace_report r.system (state_at r t) (cvm_at r p t) u (p.shown t) (cvm_at r p t).status

-- THE END of a run that came to it
abbrev pub closing_script : Run → Past → List Call
closing_script r p = report_by r.view r p (steps_made r)
