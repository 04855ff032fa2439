-- The last group done, with what was found of it.
use Rattle.std.proofs.Common.{◌<◌, map, length, sym, subst}
use Rattle.c0_struct_sizes.specs.Graph.{edges_in}
use Rattle.c0_struct_sizes.specs.Walk.{WalkState, walk_state, IsWalkOver, work}
use Rattle.c0_struct_sizes.proofs.GroupDone.{completed}
use Rattle.c0_struct_sizes.proofs.WalkMoves.{finished_falls}
use Rattle.c0_struct_sizes.proofs.walk.Walk.complete.Goals as goal

pub returns-clause-walk : goal.returns-clause-walk
returns-clause-walk c =
    subst (λ (s : WalkState). IsWalkOver (map (λ x. x.items) c.args.graph.now) s) (sym c.in_ok-finish.ensures)
    (completed (edges_in (map (λ x. x.items) c.args.graph.now)) (length (map (λ x. x.items) c.args.graph.now)) (walk_state c.args.self.now) c.requires.walk c.requires.grouped c.requires.followed c.is_turning-turns.result c.is_turning-turns.ensures)

pub returns-clause-falls : goal.returns-clause-falls
returns-clause-falls c =
    subst (λ (s : WalkState). work (edges_in (map (λ x. x.items) c.args.graph.now)) s < work (edges_in (map (λ x. x.items) c.args.graph.now)) (walk_state c.args.self.now)) (sym c.in_ok-finish.ensures)
    (finished_falls (edges_in (map (λ x. x.items) c.args.graph.now)) (length (map (λ x. x.items) c.args.graph.now)) (walk_state c.args.self.now) c.requires.grouped c.is_turning-turns.result)
