-- THE RUN of a session: the pages that its load writes, where it starts and how far it goes.
use Rattle.std.specs.Prelude.{ℕ, List}
use Rattle.schedule_file.specs.Rows.{Rows}
use Rattle.page_model.specs.Paging.{Pages}
use Rattle.mips_machine.specs.Steps.{outside_of}
use Rattle.cvm_model.specs.Cvm.{System}
use Rattle.boot_turns.specs.Runs.{Run}
use Rattle.boot_run.specs.LoadedPages.{user_pages, rom_pages}
use Rattle.kernel_linker.specs.Accept.{ImageSystem}
use Rattle.run_scripts.specs.declared.session.Session.{Session}
use Rattle.run_scripts.specs.declared.session.StartPoint.{StartPoint}
use Rattle.run_scripts.specs.declared.session.StartPoint.TheVariants.{Loaded, Rom}
use Rattle.run_scripts.specs.Boot.{booted, start_state}

-- the pages that the load of a run from there writes
abbrev pub pages_loaded : StartPoint → System → Pages
pages_loaded Loaded y = user_pages y
pages_loaded Rom y = rom_pages y

-- THE RUN OF A SESSION over a disk of so many sectors, which had these
abbrev pub run_of : Session → ImageSystem → Rows → (size : ℕ) → (sectors : List (List ℕ)) → Run
run_of session s rows size sectors = record {
  around = outside_of rows size;
  system = booted s rows;
  first = start_state session s rows sectors;
  view = session.view;
  turns = session.turns;
  steps = session.steps;
}
