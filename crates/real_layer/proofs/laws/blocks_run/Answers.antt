-- By the laws on runs of code, for the block alone.
use Rattle.real_layer.proofs.BlocksRun.{blocks_run as each}
use Rattle.real_layer.proofs.laws.blocks_run.Goals as goal

pub returns : goal.returns
returns c = each c.code_runs_on_the_machine.ensures c.a_block_stands.ensures
