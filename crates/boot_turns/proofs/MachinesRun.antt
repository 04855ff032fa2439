-- What holds of every run from a start, gathered.
use Rattle.mips_table.specs.Turns.{lines_of_turn, TurnLaws}
use Rattle.c0_meaning.specs.State.{C0State}
use Rattle.layer_contract.specs.Starts.{StartsGoOn}
use Rattle.layer_contract.specs.Users.{UserStepsLinked}
use Rattle.boot_turns.specs.RunMachines.{MachinesRun, RunsStayTyped}
use Rattle.boot_turns.proofs.LinesOfTurns.{complete_small}
use Rattle.boot_turns.proofs.MoreUnits.{one_cvm}
use Rattle.boot_turns.proofs.TurnGoesOn.{given}
use Rattle.boot_turns.proofs.TurnRowsArePut.{rows_grow, user_stays}
use Rattle.boot_turns.proofs.NextTurn.{finished, unfinished, shown}
use Rattle.boot_turns.proofs.WholeRuns.{forward, goes_on, two_faults, ahead, defined, is_over, beyond, torn}

pub machines_run : TurnLaws → StartsGoOn → UserStepsLinked → (Typed : C0State → Type 0) → MachinesRun Typed
machines_run counts goes users Typed x y s late held f =
    let g = given goes users Typed x y s late held f in
    record {
      goes_on = goes_on x y s late held Typed g;
      defined = defined x y s late held Typed g;
      two_faults = two_faults x y s late held Typed g;
      ahead = ahead x y s late held Typed g;
      found = finished x y s late held Typed g;
      unfound = unfinished x y s late held Typed g;
      shows = shown x y s late held Typed g;
      rows = rows_grow x y s late held Typed g;
      stays = user_stays x y s late held Typed g;
      beyond = beyond x y s late held Typed g;
      torn = torn x y s late held Typed g;
      few = complete_small x s;
      ends = λ turns steps c is here. is_over x y s late held Typed g counts turns _ (counts.found x s turns steps here) c is;
      same = λ k c d. one_cvm y g.meaning (lines_of_turn x s) k c d;
    }

-- the kernel's data stays typed
pub runs_stay_typed : StartsGoOn → UserStepsLinked → (Typed : C0State → Type 0) → RunsStayTyped Typed
runs_stay_typed goes users Typed x y s late held f k c is =
    (forward x y s late held Typed (given goes users Typed x y s late held f) is.units k c is.is).1.typed
