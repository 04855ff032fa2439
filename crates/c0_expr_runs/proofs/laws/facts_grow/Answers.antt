use Rattle.c0_expr_runs.proofs.FollowedAreSure.{value_followed, place_followed}
use Rattle.c0_expr_runs.proofs.SameRegisters.{followed_same, told_same}
use Rattle.c0_expr_runs.proofs.ToldIsSo.{given_told_so}
use Rattle.c0_expr_runs.proofs.laws.facts_grow.Goals as goal

pub returns : goal.returns
returns c = record {
  value = λ env fs e s k v is h. value_followed env s e fs k v is h;
  place = λ env fs e s k l is h. place_followed env s e fs k l is h;
  test = λ sc p fs e s k b is_typed given is h. given_told_so sc p s is_typed e given fs k b is h;
  same_followed = followed_same;
  same_told = told_same;
}
