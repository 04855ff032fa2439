-- A group of several turns, and one of one number where it has an edge to itself.
use Rattle.std.proofs.Common.{◌≡◌, ◌↔◌, ◌-◌, ℕ, List, true, map, length, refl, subst, arith}
use Rattle.c0_struct_sizes.specs.Graph.{IsIn, edges_in}
use Rattle.c0_struct_sizes.specs.Walk.{walk_state, last_start, start_node}
use Rattle.c0_struct_sizes.proofs.GroupDone.{several_turn, alone_turns}
use Rattle.c0_struct_sizes.proofs.walk.Walk.is_turning.Goals as goal

pub returns-then-len-last_start-gt1 : goal.returns-then-len-last_start-gt1
returns-then-len-last_start-gt1 c = (
  (λ h. several_turn (edges_in (map (λ x. x.items) c.args.graph.now)) (length (map (λ x. x.items) c.args.graph.now)) (walk_state c.args.self.now) c.requires.walk c.requires.grouped (omega (arith, c.len.ensures, c.last_start.ensures, c.if-len-last_start-gt1.true, c.args.self.now.path.ok.0))),
  (λ l. refl),
)

pub returns : goal.returns
returns c =
    let node : c.start_node-node.result ≡ start_node (walk_state c.args.self.now) = c.start_node-node.ensures in
    let calls : c.edges_of.result.now ≡ edges_in (map (λ x. x.items) c.args.graph.now) c.start_node-node.result = c.edges_of.ensures in
    alone_turns (edges_in (map (λ x. x.items) c.args.graph.now)) (length (map (λ x. x.items) c.args.graph.now)) (walk_state c.args.self.now) c.requires.walk c.requires.grouped c.requires.followed
    (omega (arith, c.len.ensures, c.last_start.ensures, c.if-len-last_start-gt1.false, c.args.self.now.path.ok.0)) c.is_among.result
    (subst (λ (n : ℕ). c.is_among.result ≡ true ↔ IsIn (edges_in (map (λ x. x.items) c.args.graph.now) n) n) node
    (subst (λ (ns : List ℕ). c.is_among.result ≡ true ↔ IsIn ns c.start_node-node.result) calls c.is_among.ensures))
