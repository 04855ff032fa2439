-- The arguments so far are resolved, and the faults of the others are still to be met.
use Rattle.std.proofs.Common.{◌≡◌, map}
use Rattle.std.specs.Prelude.{option_map}
use Rattle.c0_tree.specs.View.{expr_view}
use Rattle.c0_meaning.specs.Expression.{resolved}
use Rattle.c0_meaning.specs.Fault.{kept_all}
use Rattle.c0_meaning.specs.Statement.{parameter_types, args_faults}
use Rattle.c0_name_check.specs.Met.{met_view}
use Rattle.c0_body_check.specs.Scope.{env_view, callee_view}
use Rattle.c0_body_check.proofs.InPlace.{done, rest}
use Rattle.c0_body_check.proofs.calls.check_args.Given as goal

abbrev pub invariant-loop-index : goal.invariant-loop-index
invariant-loop-index l =
    (map expr_view l.args ≡ done (resolved (env_view l.scope)) l.index (map expr_view l.initial.args))
    × (kept_all (met_view l.least) (args_faults (env_view l.scope) (rest l.index (parameter_types (option_map callee_view l.callee))) (rest l.index (map expr_view l.initial.args)))
    ≡ kept_all (met_view l.initial.least) (args_faults (env_view l.scope) (parameter_types (option_map callee_view l.callee)) (map expr_view l.initial.args)))
