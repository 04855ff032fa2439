-- The load alone makes the sectors of the start.
use Rattle.std.proofs.Common.{◌≡◌, ℕ, ◌≤◌, List, length}
use Rattle.cvm_model.specs.Cvm.{System}
use Rattle.cvm_outside.specs.Script.{sectors_after}
use Rattle.boot_turns.specs.Rom.{own_rom}
use Rattle.boot_run.specs.LoadScript.{load_script}
use Rattle.boot_run.proofs.LoadStores.{loaded_are, rom_are}
use Rattle.run_scripts.specs.declared.session.StartPoint.{StartPoint}
use Rattle.run_scripts.specs.declared.session.StartPoint.TheVariants.{Loaded, Rom}
use Rattle.run_scripts.specs.Boot.{held_of, start_of}
use Rattle.run_scripts.specs.SessionRuns.{pages_loaded}

pub load_makes : (y : System) → 1 ≤ y.boot.params.pages → (p : StartPoint) (old : List (List ℕ)) → held_of p y ≤ length old → sectors_after (load_script (pages_loaded p y) (held_of p y)) old ≡ (start_of p y old).device.sectors
load_makes y some Loaded old le = loaded_are y some old le
load_makes y some Rom old le = rom_are y some (own_rom y) old le
