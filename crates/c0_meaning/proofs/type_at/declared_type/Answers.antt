use Rattle.c0_meaning.proofs.SizedTypes.{decl_sized}
use Rattle.c0_meaning.proofs.TypesTold.{declared_there, none_declared}
use Rattle.c0_meaning.proofs.type_at.declared_type.Goals as goal

pub returns-then-number-decls-clause-gives : goal.returns-then-number-decls-clause-gives
returns-then-number-decls-clause-gives c = declared_there c.args.decls.now c.args.number c.index-decls-number.result c.if-number-decls.true

pub returns-then-number-decls-clause-resolved : goal.returns-then-number-decls-clause-resolved
returns-then-number-decls-clause-resolved c = λ structs h.
    (decl_sized structs c.args.decls.now c.args.number c.index-decls-number.result h c.if-number-decls.true).resolved

pub returns-else-number-decls-clause-gives : goal.returns-else-number-decls-clause-gives
returns-else-number-decls-clause-gives c = none_declared c.args.decls.now c.args.number c.if-number-decls.false
