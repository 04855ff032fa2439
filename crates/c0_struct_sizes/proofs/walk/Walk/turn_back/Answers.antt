-- What stands behind the place to which an edge leads back is one group.
use Rattle.std.proofs.Common.{◌<◌, ◌≤◌, map, length, sym, subst}
use Rattle.c0_struct_sizes.specs.Graph.{edges_in}
use Rattle.c0_struct_sizes.specs.Walk.{WalkState, walk_state, IsWalkOver}
use Rattle.c0_struct_sizes.proofs.WalkMoves.{group_there, turned, closed}
use Rattle.c0_struct_sizes.proofs.walk.Walk.turn_back.Goals as goal

pub last_start-requires : goal.last_start-requires
last_start-requires c = group_there (edges_in (map (λ x. x.items) c.args.graph.now)) (length (map (λ x. x.items) c.args.graph.now)) (walk_state c.args.self.now) c.requires.walk c.args.place c.requires.placed

pub returns-then-place-last_start-clause-walk : goal.returns-then-place-last_start-clause-walk
returns-then-place-last_start-clause-walk c =
    subst (λ (s : WalkState). IsWalkOver (map (λ x. x.items) c.args.graph.now) s) (sym c.join_groups.ensures)
    (turned (edges_in (map (λ x. x.items) c.args.graph.now)) (length (map (λ x. x.items) c.args.graph.now)) (walk_state c.args.self.now) c.requires.walk c.requires.left c.args.place c.requires.placed
    (subst (λ n. c.args.place < n) c.last_start.ensures c.if-place-last_start.true))

pub returns-else-place-last_start-clause-walk : goal.returns-else-place-last_start-clause-walk
returns-else-place-last_start-clause-walk c =
    subst (λ (s : WalkState). IsWalkOver (map (λ x. x.items) c.args.graph.now) s) (sym c.leave_target.ensures)
    (closed (edges_in (map (λ x. x.items) c.args.graph.now)) (length (map (λ x. x.items) c.args.graph.now)) (walk_state c.args.self.now) c.requires.walk c.requires.left c.args.place c.requires.placed
    (subst (λ n. n ≤ c.args.place) c.last_start.ensures c.if-place-last_start.false))
