-- A boot begins where a run that is taken up may.
use Rattle.std.proofs.Common.{ℕ, List, refl}
use Rattle.mips_table.specs.Steady.{StartSteady}
use Rattle.cvm_model.specs.Cvm.{System}
use Rattle.layer_contract.specs.Follows.{loaded, loaded_memory}
use Rattle.boot_run.specs.Resuming.{IsFirst}

-- the boot begins with the schedule's input
pub first_of : StartSteady → (y : System) (old : List (List ℕ)) → IsFirst y (loaded y old)
first_of steady y old = record { time = refl; steady = steady (loaded_memory y.boot) (loaded y old).device.sectors y.input }
