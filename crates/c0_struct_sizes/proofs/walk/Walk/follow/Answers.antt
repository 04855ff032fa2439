-- An edge is followed to what is unseen, open or done.
use Rattle.std.proofs.Common.{◌≡◌, ◌∙◌, ◌<◌, ℕ, map, length, sym, ap, subst, arith}
use Rattle.std.proofs.lemmas.List.{length-map}
use Rattle.c0_struct_sizes.specs.Graph.{edges_in}
use Rattle.c0_struct_sizes.specs.Walk.{WalkState, walk_state, IsWalkOver, target_of, mark_of, met, work}
use Rattle.c0_struct_sizes.specs.declared.walk.Mark.TheVariants.{Unseen, Open, Done}
use Rattle.c0_struct_sizes.proofs.WalkMoves.{target_below, passed, entered, entered_falls}
use Rattle.c0_struct_sizes.proofs.walk.Walk.follow.Goals as goal

pub mark-requires : goal.mark-requires
mark-requires c =
    let low : target_of (walk_state c.args.self.now) < length (map (λ x. x.items) c.args.graph.now) = target_below (edges_in (map (λ x. x.items) c.args.graph.now)) (length (map (λ x. x.items) c.args.graph.now)) (walk_state c.args.self.now) c.requires.walk c.requires.left in
    let len : length c.args.self.now.marks.items ≡ length (map (λ x. x.items) c.args.graph.now) = c.requires.walk.marks in
    let same : c.target-target.result ≡ target_of (walk_state c.args.self.now) = c.target-target.ensures in
    omega arith

pub meet-requires-clause-marked : goal.meet-requires-clause-marked
meet-requires-clause-marked c =
    let low : target_of (walk_state c.args.self.now) < length (map (λ x. x.items) c.args.graph.now) = target_below (edges_in (map (λ x. x.items) c.args.graph.now)) (length (map (λ x. x.items) c.args.graph.now)) (walk_state c.args.self.now) c.requires.walk c.requires.left in
    let len : length c.args.self.now.marks.items ≡ length (map (λ x. x.items) c.args.graph.now) = c.requires.walk.marks in
    let same : c.target-target.result ≡ target_of (walk_state c.args.self.now) = c.target-target.ensures in
    omega arith

pub meet-requires-clause-there : goal.meet-requires-clause-there
meet-requires-clause-there c =
    let low : target_of (walk_state c.args.self.now) < length (map (λ x. x.items) c.args.graph.now) = target_below (edges_in (map (λ x. x.items) c.args.graph.now)) (length (map (λ x. x.items) c.args.graph.now)) (walk_state c.args.self.now) c.requires.walk c.requires.left in
    let len : length (map (λ x. x.items) c.args.graph.now) ≡ length c.args.graph.now = length-map c.args.graph.now (λ x. x.items) in
    let same : c.target-target.result ≡ target_of (walk_state c.args.self.now) = c.target-target.ensures in
    omega arith

pub turn_back-requires-clause-placed : goal.turn_back-requires-clause-placed
turn_back-requires-clause-placed c = subst (λ (n : ℕ). mark_of c.args.self.now.marks.items n ≡ Open c.in-Open.place) c.target-target.ensures (sym c.in-Open.ensures)

pub returns-in_ok-meet-in-Unseen-clause-walk : goal.returns-in_ok-meet-in-Unseen-clause-walk
returns-in_ok-meet-in-Unseen-clause-walk c =
    let s : WalkState = walk_state c.args.self.now in
    let unseen : mark_of c.args.self.now.marks.items (target_of s) ≡ Unseen = subst (λ (n : ℕ). mark_of c.args.self.now.marks.items n ≡ Unseen) c.target-target.ensures (sym c.in-Unseen.ensures) in
    subst (λ (x : WalkState). IsWalkOver (map (λ x. x.items) c.args.graph.now) x)
    (sym (c.in_ok-meet-in-Unseen.ensures ∙ ap (λ (n : ℕ). met (edges_in (map (λ x. x.items) c.args.graph.now)) n s) c.target-target.ensures))
    (entered (edges_in (map (λ x. x.items) c.args.graph.now)) (length (map (λ x. x.items) c.args.graph.now)) c.requires.inside s c.requires.walk c.requires.left unseen)

pub returns-in_ok-meet-in-Unseen-clause-falls : goal.returns-in_ok-meet-in-Unseen-clause-falls
returns-in_ok-meet-in-Unseen-clause-falls c =
    let s : WalkState = walk_state c.args.self.now in
    let unseen : mark_of c.args.self.now.marks.items (target_of s) ≡ Unseen = subst (λ (n : ℕ). mark_of c.args.self.now.marks.items n ≡ Unseen) c.target-target.ensures (sym c.in-Unseen.ensures) in
    subst (λ (x : WalkState). work (edges_in (map (λ x. x.items) c.args.graph.now)) x < work (edges_in (map (λ x. x.items) c.args.graph.now)) s)
    (sym (c.in_ok-meet-in-Unseen.ensures ∙ ap (λ (n : ℕ). met (edges_in (map (λ x. x.items) c.args.graph.now)) n s) c.target-target.ensures))
    (entered_falls (edges_in (map (λ x. x.items) c.args.graph.now)) (length (map (λ x. x.items) c.args.graph.now)) s c.requires.walk c.requires.left unseen)

pub returns-in-Done-clause-walk : goal.returns-in-Done-clause-walk
returns-in-Done-clause-walk c =
    let s : WalkState = walk_state c.args.self.now in
    let is_done : mark_of c.args.self.now.marks.items (target_of s) ≡ Done = subst (λ (n : ℕ). mark_of c.args.self.now.marks.items n ≡ Done) c.target-target.ensures (sym c.in-Done.ensures) in
    subst (λ (x : WalkState). IsWalkOver (map (λ x. x.items) c.args.graph.now) x) (sym c.leave_target.ensures)
    (passed (edges_in (map (λ x. x.items) c.args.graph.now)) (length (map (λ x. x.items) c.args.graph.now)) s c.requires.walk c.requires.left is_done)
