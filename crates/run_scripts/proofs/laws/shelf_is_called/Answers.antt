use Rattle.run_scripts.proofs.CallsOfCommands.{shelf_is_called}
use Rattle.run_scripts.proofs.laws.shelf_is_called.Goals as goal

pub returns : goal.returns
returns c = shelf_is_called c.scripts_count_files.ensures
