use Rattle.std.proofs.Common.{◌≡◌, decimal, arith}
use Rattle.cvm_shell.proofs.OneNumberSpelled.{same_number}
use Rattle.cvm_shell.proofs.command.read_turns.Goals as goal

pub returns-then-number-eq0 : goal.returns-then-number-eq0
returns-then-number-eq0 c = λ n some small e.
    let here : c.args.text.now ≡ decimal c.in_ok-number.number = c.in_ok-number.ensures in
    let same : n ≡ c.in_ok-number.number = same_number c.args.text.now n c.in_ok-number.number (omega arith) (omega arith) e here in
    absurd (omega arith)

pub returns-then-number-gt-MOST_TURNS : goal.returns-then-number-gt-MOST_TURNS
returns-then-number-gt-MOST_TURNS c = λ n some small e.
    let here : c.args.text.now ≡ decimal c.in_ok-number.number = c.in_ok-number.ensures in
    let same : n ≡ c.in_ok-number.number = same_number c.args.text.now n c.in_ok-number.number (omega arith) (omega arith) e here in
    absurd (omega arith)
