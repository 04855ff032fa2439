use Rattle.c0_expr_runs.proofs.SideBySide.{facts_on}
use Rattle.c0_expr_runs.proofs.StoresKeepFacts.{facts_stored, sure_written}
use Rattle.c0_expr_runs.proofs.laws.facts_stay.Goals as goal

pub returns : goal.returns
returns c = record {
  kept = λ sc p fs s a b r d le keeps free h. facts_on sc p fs s a b r d le keeps free h;
  within = λ sc p less more s k in_it h. record {
    registers = λ form. let r = h.registers form in record { params = λ n holds. r.params n (in_it.params n holds); answer = λ n holds. r.answer n (in_it.answer n holds) };
    sure = λ n holds. h.sure n (in_it.sure n holds);
  };
  written = λ fs s l x structs types t leads h. sure_written fs s l x structs types t leads h;
  in_memory = λ w sc p fs s k area spread h l t x v leads scalar. facts_stored w sc p fs s k area spread h l t x v leads scalar;
}
