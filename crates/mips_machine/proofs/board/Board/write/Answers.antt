-- A word of memory that is set is a store, said of the board that callers see.
use Rattle.std.proofs.Common.{ap, ◌∙◌, Some}
use Rattle.mips_machine.specs.Board.{Board, stored_at}
use Rattle.mips_machine.proofs.BoardWrites.{board_in, memory_stored}
use Rattle.mips_machine.proofs.board.Board.write.Goals as goal

pub returns-then-word-self : goal.returns-then-word-self
returns-then-word-self c =
    let i = c.self.inside in
    ap (λ f. board_in i.special.regs f i.words i.disk i.console i.kept) c.put.ensures ∙ memory_stored i.special.regs i.frames i.words i.disk i.console i.kept c.self.invariant.0 c.self.invariant.1 c.args.address c.args.value c.if-word-self.true
    ∙ ap (λ (b : Board). stored_at b (Some c.args.address) c.args.value) c.self.view_is
