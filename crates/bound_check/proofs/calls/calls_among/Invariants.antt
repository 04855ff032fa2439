use Rattle.std.proofs.Common.{◌≡◌, ◌++◌, map, drop}
use Rattle.c0_tree.specs.View.{function_view}
use Rattle.bound_check.specs.Calls.{called_by}
use Rattle.bound_check.proofs.calls.calls_among.Given as goal

abbrev pub invariant-loop-function : goal.invariant-loop-function
invariant-loop-function l =
    map (λ x. x.items) l.graph.items ++ map (λ f. called_by f.body) (map function_view (drop l.function-index l.functions))
    ≡ map (λ f. called_by f.body) (map function_view l.functions)
