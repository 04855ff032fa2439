-- By the laws of leaving on runs of code, and the eret or the store to the power port behind them.
use Rattle.real_layer.proofs.RoutinesAndExits.{tools_of}
use Rattle.real_layer.proofs.AfterDispatch.{leaves}
use Rattle.real_layer.proofs.laws.the_kernel_is_left.Goals as goal

pub returns : goal.returns
returns c =
    λ m sizes code made. leaves m sizes code made (tools_of c.premises.ensures) c.the_power_port_ends_a_run.ensures c.eret_leaves.ensures
    c.the_kernel_is_left_for_a_user.ensures c.the_kernel_is_left_for_good.ensures c.the_kernel_is_left_badly.ensures
