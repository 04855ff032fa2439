use Rattle.std.proofs.Common.{◌≡◌, decimal, arith}
use Rattle.cvm_shell.proofs.OneNumberSpelled.{same_number}
use Rattle.cvm_shell.proofs.check.read_stack.Goals as goal

pub returns-then-number-lt-LEAST_STACK : goal.returns-then-number-lt-LEAST_STACK
returns-then-number-lt-LEAST_STACK c = λ n least most e.
    let here : c.args.text.now ≡ decimal c.in_ok-number.number = c.in_ok-number.ensures in
    let same : n ≡ c.in_ok-number.number = same_number c.args.text.now n c.in_ok-number.number (omega arith) (omega arith) e here in
    absurd (omega arith)

pub returns-then-number-gt-MOST_STACK : goal.returns-then-number-gt-MOST_STACK
returns-then-number-gt-MOST_STACK c = λ n least most e.
    let here : c.args.text.now ≡ decimal c.in_ok-number.number = c.in_ok-number.ensures in
    let same : n ≡ c.in_ok-number.number = same_number c.args.text.now n c.in_ok-number.number (omega arith) (omega arith) e here in
    absurd (omega arith)
