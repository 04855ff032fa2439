-- The walk begins with nothing met, and ends where nothing is left.
use Rattle.std.proofs.Common.{◌≡◌, ◌∙◌, ◌+◌, inl, inr, map, length, sym, ap, subst, arith}
use Rattle.std.proofs.lemmas.Bool.{cases_lt, false≢true}
use Rattle.std.proofs.lemmas.List.{length-map}
use Rattle.c0_struct_sizes.specs.Graph.{edges_in}
use Rattle.c0_struct_sizes.specs.Walk.{WalkState, walk_state, IsWalkOver, walk_start}
use Rattle.c0_struct_sizes.proofs.WalkEnds.{first_is_walk, walk_ended}
use Rattle.c0_struct_sizes.proofs.walk.order_of.Goals as goal

pub loop-walk-init : goal.loop-walk-init
loop-walk-init c =
    subst (λ (s : WalkState). IsWalkOver (map (λ x. x.items) c.args.graph.now) s) (sym (c.in_ok-walk.ensures ∙ ap walk_start (sym (length-map c.args.graph.now (λ x. x.items)))))
    (first_is_walk (edges_in (map (λ x. x.items) c.args.graph.now)) (length (map (λ x. x.items) c.args.graph.now)))

pub returns : goal.returns
returns c =
    let none : length c.loop-walk.walk.todo.items + length c.loop-walk.walk.groups.items ≡ 0 = elim (cases_lt 0 (length c.loop-walk.walk.todo.items + length c.loop-walk.walk.groups.items)) [
      | inl some ↦ absurd (false≢true (sym c.loop-walk-test.false ∙ c.is_under_way.ensures.1 some))
      | inr few ↦ omega arith
    ] in
    walk_ended (edges_in (map (λ x. x.items) c.args.graph.now)) (length (map (λ x. x.items) c.args.graph.now)) (walk_state c.loop-walk.walk) c.loop-walk.invariant none
