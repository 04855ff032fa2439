-- No page serves; another page than that of the entry goes on to serve.
use Rattle.std.proofs.Common.{slice_set}
use Rattle.mips_machine.proofs.board.Page.forget.Goals as goal

pub returns-then-self-word : goal.returns-then-self-word
returns-then-self-word c = λ b value serves. c.none.ensures (record b { memory = slice_set b.memory c.args.word value })
