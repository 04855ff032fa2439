use Rattle.c0_expr_code.specs.Code.{made}
use Rattle.c0_tree.specs.Size.{nodes}
use Rattle.c0_expr_code.proofs.ShortExpressions.{short, operand_length}
use Rattle.c0_expr_code.proofs.TestLengths.{test_length}
use Rattle.c0_expr_code.proofs.CodeNeverEmpty.{value_some, test_some, test_same}
use Rattle.c0_expr_code.proofs.laws.codes_are_short.Goals as goal

pub returns : goal.returns
returns c = record {
  value = λ sc fs e d r. (short sc fs e).value d r;
  operand = λ sc fs e r. operand_length (made sc fs e) (nodes e) r (short sc fs e);
  place = λ sc fs e r. (short sc fs e).place r;
  test = λ sc fs e s far r. test_length sc fs e s far r;
  some = λ sc fs e d r free. value_some sc fs e d r free;
  test_some = λ sc fs e s far r. test_some sc fs e s far r;
  same = λ sc fs e s far other r. test_same sc fs e s far other r;
}
