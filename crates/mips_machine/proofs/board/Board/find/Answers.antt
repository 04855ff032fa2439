-- The word of a page that is kept lies in memory.
use Rattle.std.proofs.Common.{eq-eqb}
use Rattle.mips_machine.specs.Board.{around}
use Rattle.mips_machine.proofs.KeptPagesServe.{lies_inside}
use Rattle.mips_machine.proofs.board.Board.find.Goals as goal

pub returns-then-address-kept-clause-inside : goal.returns-then-address-kept-clause-inside
returns-then-address-kept-clause-inside c =
    lies_inside (around c.args.self.now) c.args.address _ (c.requires.kept.places c.args.address c.ranges.address.fits c.if-address-kept.true (eq-eqb _ _ c.if-address-eq0.true))
