-- Words that ask for a run ask for it over another disk.
use Rattle.std.specs.Prelude.{Some}
use Rattle.std.proofs.Common.{ℕ, List, refl}
use Rattle.kernel_linker.specs.Accept.{ImageSystem}
use Rattle.schedule_file.specs.Rows.{Rows}
use Rattle.run_scripts.specs.Plan.{Plan}
use Rattle.run_scripts.specs.declared.session.Session.{Session}
use Rattle.cvm_outside.specs.Outside.{Outside}
use Rattle.boot_run.specs.SavedRuns.{IsDisk}
use Rattle.run_scripts.specs.AskedRuns.{Asked}

-- of as many sectors
abbrev pub with_disk : Outside → List (List ℕ) → Outside
with_disk old before = record old { disk = record old.disk { sectors = Some before } }

pub other_disk : (words : List (List ℕ)) (plan : Plan) (session : Session) (s : ImageSystem) (rows : Rows) (left before : List (List ℕ)) (old : Outside) → Asked words plan session s rows left old →
    IsDisk old.disk.size before → Asked words plan session s rows before (with_disk old before)
other_disk words plan session s rows left before old a disk = record {
  files = a.files;
  bytes = a.bytes;
  is_plan = a.is_plan;
  runs = a.runs;
  user = a.user;
  sectors = refl;
  disk = disk;
  enough = a.enough;
}
