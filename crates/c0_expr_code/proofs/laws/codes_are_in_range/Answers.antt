use Rattle.c0_expr_code.proofs.InRange.{value_in_range, operand_in_range, register_in_range, place_in_range, store_in_range, test_in_range}
use Rattle.c0_expr_code.proofs.ExitsAreNear.{exits_near}
use Rattle.c0_expr_code.proofs.laws.codes_are_in_range.Goals as goal

pub returns-clause-codes : goal.returns-clause-codes
returns-clause-codes c = record {
  value = λ sc exits fs e d r l le. value_in_range sc exits fs e d r l le;
  operand = λ sc exits fs e r le. operand_in_range sc exits fs e r le;
  register = λ sc exits fs e r le. register_in_range sc exits fs e r le;
  place = λ sc exits fs e r le. place_in_range sc exits fs e r le;
  store = λ sc exits fs e q r l le. store_in_range sc exits fs e q r l le;
  test = λ sc exits fs e s far r l le. test_in_range sc exits fs e s far r l le;
}

pub returns-clause-exits : goal.returns-clause-exits
returns-clause-exits c = exits_near
