-- By the exits' law on a run of code, and the store to the power port behind it.
use Rattle.real_layer.proofs.RoutinesAndExits.{tools_of, exits}
use Rattle.real_layer.proofs.laws.faults_exit.Goals as goal

pub returns : goal.returns
returns c = λ m sizes code made. exits m sizes code made (tools_of c.premises.ensures) c.the_power_port_ends_a_run.ensures c.an_exit_comes.ensures
