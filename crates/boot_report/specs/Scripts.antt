-- The scripts of a report: which pages it reads, and what it prints in between.
use Rattle.std.specs.Prelude.{ℕ, ◌+◌, ◌-◌, ◌*◌, ◌==◌, Bool, List, [], ◌∷◌, ◌++◌, Option, Some}
use Rattle.std.specs.Option.{option_map}
use Rattle.mips_table.specs.Machine.{State}
use Rattle.mips_machine.specs.Machine.{Held, state_of}
use Rattle.layer_map.specs.Map.{Map}
use Rattle.cvm_outside.specs.Script.{Call, Printed, Who, TheSink, TheDisk, scripts}
use Rattle.boot_report.specs.declared.fault.ReportFault.{ReportFault}
use Rattle.boot_report.specs.declared.fault.ReportFault.TheVariants.{Disk, Sink}
use Rattle.boot_report.specs.Resident.{shown, page_reads}
use Rattle.boot_report.specs.Texts.{page_text, pages_in, shown_cpu, processor_rows}

-- whom a fault blames
abbrev pub of_report : ReportFault → Option Who
of_report Disk = Some TheDisk
of_report Sink = Some TheSink

-- page q of all, the user's page p: it is read where it is in no frame, and its rows are printed
abbrev pub page_script : Map → State → (told : Option (List (List ℕ))) → (q p : ℕ) → List Call
page_script m s told q p = page_reads m s q ++ Printed (option_map (page_text p) (shown m s told q)) ∷ []

-- so many pages of a user, the first of which has number q of all
abbrev pub pages_script : Map → State → (told : Option (List (List ℕ))) → (q pages : ℕ) → List Call
pages_script m s told q pages = scripts (λ p. page_script m s told (q + p) p) pages

-- user u, who runs or not: the rows of its processor, and its pages
abbrev pub user_script : Map → Held → (told : Option (List (List ℕ))) → (runs : Bool) → (u : ℕ) → List Call
user_script m held told runs u =
    Printed (Some (processor_rows u (pages_in m held.hardware.memory u) (shown_cpu held runs u)))
    ∷ pages_script m (state_of held []) told ((u - 1) * m.params.pages) (pages_in m held.hardware.memory u)

-- users 1 to n, of whom one may run
abbrev pub users_script : Map → Held → (told : Option (List (List ℕ))) → (running n : ℕ) → List Call
users_script m held told running n = scripts (λ i. user_script m held told (i + 1 == running) (i + 1)) n
