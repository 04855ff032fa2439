-- By what a step does to the disk.
use Rattle.layer_contract.proofs.OnlyWritesBeginCommands.{none_is_due}
use Rattle.layer_contract.proofs.no_command_is_due.Goals as goal

pub returns : goal.returns
returns c = none_is_due
