-- The maps of a scope know its structs.
use Rattle.std.proofs.Common.{map}
use Rattle.c0_body_check.specs.Scope.{shape_view}
use Rattle.c0_body_check.proofs.stmts.check_object_type.Goals as goal

pub returns-clause-met : goal.returns-clause-met
returns-clause-met c = c.check_type.ensures.met (map shape_view c.args.scope.now.structs.now) (record { numbers = c.requires.structs; words = c.requires.sizes })

pub returns-clause-named : goal.returns-clause-named
returns-clause-named c = c.check_type.ensures.named (map shape_view c.args.scope.now.structs.now) (record { numbers = c.requires.structs; words = c.requires.sizes })
