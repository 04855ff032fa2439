use Rattle.c0_expr_runs.proofs.FittingParts.{put_parts, parts_more, fits_more}
use Rattle.c0_expr_runs.proofs.laws.parts_fit.Goals as goal

pub returns : goal.returns
returns c = record {
  changed = λ structs layout types path t v x l h f. put_parts structs layout types path t v x l h f;
  more = λ structs layout objects types v h. parts_more structs layout objects types v h;
  more_of = λ structs layout objects t v h. fits_more structs layout objects t v h;
}
