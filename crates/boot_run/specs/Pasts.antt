-- What the abstract machine says of the runs of what is booted.
use Rattle.std.specs.Prelude.{◌≡◌, ℕ, ◌≤◌, Option, Some, List, length}
use Rattle.mips_table.specs.Machine.{State}
use Rattle.schedule_file.specs.Rows.{Rows}
use Rattle.mips_machine.specs.Steps.{outside_of}
use Rattle.layer_contract.specs.declared.boot.Boot.{Boot as Booted}
use Rattle.boot_turns.specs.declared.answers.View.{View}
use Rattle.boot_turns.specs.Runs.{Past, IsPast}
use Rattle.boot_run.specs.Loading.{system_of}
use Rattle.boot_run.specs.RunCalls.{run_at}
use Rattle.boot_run.specs.RunEnds.{SeesUser}

-- it says something of each run from the start that is made of these sectors, where they are told and are as many as a run needs
abbrev pub HavePasts : Booted → Rows → (count need : ℕ) → (start : List (List ℕ) → State) → (told : Option (List (List ℕ))) → Type 0
HavePasts b rows count need start told = (old : List (List ℕ)) (view : View) (turns steps : ℕ) → told ≡ Some old → need ≤ count →
    SeesUser view (length (system_of b rows).boot.users) →
    (p : Past) × IsPast (run_at (outside_of rows count) (system_of b rows) (start old) view turns steps) p
