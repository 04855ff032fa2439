-- By the laws that the body calls.
use Rattle.cvm_primitives.proofs.RegisterForms.{CodeLaws}
use Rattle.cvm_primitives.proofs.RegisterCalls.{gets, sets, sizes, puts, takes, lefts}
use Rattle.cvm_primitives.proofs.laws.registers_answer.Goals as goal

pub returns : goal.returns
returns k w s = λ most users c d e.
    let f : CodeLaws w = record { small = s.small; runs = k.runs_compose.ensures; straight = k.straight_code_runs.ensures w s; stays = k.registers_stay.ensures; whens = k.a_condition_is_tested.ensures w s } in record {
      get = gets w f users c d e most;
      set = sets w f users c d e most;
      size = sizes w f users c d e most;
      put = puts w f users c d e most;
      take = takes w f users c d e most;
      left = lefts w f users c d e most;
    }
