-- What a page that is forgotten or stays is to the board where the word is set.
use Rattle.std.proofs.Common.{sym, subst}
use Rattle.mips_machine.specs.Board.{Board, around}
use Rattle.mips_machine.specs.Stretch.{KeepsPage}
use Rattle.mips_machine.proofs.board.Board.set_beside.Goals as goal

pub returns-clause-code : goal.returns-clause-code
returns-clause-code c = subst (λ (b : Board). KeepsPage (around b) c.forget.new.self) (sym c.set_word.ensures) (c.forget.ensures c.args.self.now c.args.value c.requires.code)

pub returns-clause-loads : goal.returns-clause-loads
returns-clause-loads c = subst (λ (b : Board). KeepsPage (around b) c.forget-2.new.self) (sym c.set_word.ensures) (c.forget-2.ensures c.args.self.now c.args.value c.requires.loads)
