-- What holds of a boot and of what is saved of it, from the laws of the crates below.
use Rattle.std.proofs.Common.{◌≡◌, ℕ, Ok, List, sym, subst}
use Rattle.std.specs.List.{flat_map}
use Rattle.cvm_words.specs.Bytes.{word}
use Rattle.schedule_file.specs.Rows.{Rows}
use Rattle.mips_table.specs.Machine.{run}
use Rattle.mips_machine.specs.Steps.{outside_of}
use Rattle.layer_contract.specs.declared.boot.Boot.{Boot as Booted}
use Rattle.layer_contract.specs.Follows.{loaded}
use Rattle.layer_contract.specs.Boots.{boot_of}
use Rattle.saved_file.specs.Resumable.{CanBeResumed}
use Rattle.saved_file.specs.Answer.{answer, SavedIsReadBack}
use Rattle.boot_run.specs.Loading.{system_of}
use Rattle.boot_run.specs.SavedFiles.{SavedBootsAreOfRuns, wanted_of}
use Rattle.machine_save.specs.SavedBoots.{AreTakenUp, CanBoot}

pub are_taken_up : SavedBootsAreOfRuns → SavedIsReadBack answer → (b : Booted) (rows : Rows) (count : ℕ) → CanBoot b rows count → AreTakenUp b rows count
are_taken_up of_runs read b rows count boots = λ old left few spent turns words shown room disk at some enough bits limit.
    let x = outside_of rows count in
    let w = wanted_of (boot_of b) rows.inputs turns in
    let z = run x (loaded (system_of b rows) old) at.at in
    let back = read x w z few at.past.core.current (of_runs b rows count old left few spent turns words shown (boots room old disk) at some enough bits limit) in
    subst (λ (l : List ℕ). CanBeResumed w l × (answer w (flat_map word l) ≡ Ok l)) (sym at.words_are) back
