-- One body more is checked, and its faults and nodes are counted.
use Rattle.std.proofs.Common.{◌≡◌, ◌<◌, ◌+◌, ◌-◌, ◌^◌, ℕ, List, length, map, min, get_or, sym, ap, ◌∙◌, arith}
use Rattle.std.proofs.lemmas.List.{length-map}
use Rattle.c0_tree.specs.Tree.{CFunction}
use Rattle.c0_tree.specs.View.{function_view}
use Rattle.c0_meaning.specs.Env.{Env}
use Rattle.c0_meaning.specs.Fault.{kept_all}
use Rattle.c0_name_check.specs.Met.{met_view}
use Rattle.c0_body_check.specs.Scope.{signature_view}
use Rattle.c0_body_check.proofs.InPlace.{rest, done-next, in_place_end}
use Rattle.c0_types.specs.Known.{unit_env}
use Rattle.c0_types.specs.Parts.{bodied, bodies_faults, functions_nodes, is_plain_function}
use Rattle.c0_types.proofs.HeadingsInTurn.{all_at}
use Rattle.c0_types.proofs.BodiesCheckedInTurn.{no_function, knows_same, env_same, signatures_same, one_more, OneMore}
use Rattle.c0_types.proofs.unit.check_bodies.Goals as goal

pub check_body_at-requires : goal.check_body_at-requires
check_body_at-requires c =
    let i : ℕ = c.loop-place.place in
    let unit : Env = unit_env c.args.declared.now c.args.functions.now in
    let vs : List CFunction = map function_view c.args.functions.now in
    let same : map signature_view c.loop-place.functions ≡ map signature_view c.args.functions.now =
    signatures_same unit i c.loop-place.functions c.args.functions.now c.loop-place.invariant.changed in
    let inside : i < length vs = omega (arith, length-map c.args.functions.now function_view) in
    record {
      knows = knows_same c.args.declared.now c.loop-place.functions c.args.functions.now same c.requires.knows;
      within = omega arith;
      plain = λ other. ap is_plain_function (ap (λ (l : List CFunction). get_or l i other) c.loop-place.invariant.changed ∙ done-next (bodied unit) i vs other)
          ∙ all_at is_plain_function vs i other c.requires.plain inside;
    }

pub loop-place-preserved : goal.loop-place-preserved
loop-place-preserved c =
    let i : ℕ = c.loop-place.place in
    let unit : Env = unit_env c.args.declared.now c.args.functions.now in
    let vs : List CFunction = map function_view c.args.functions.now in
    let same : map signature_view c.loop-place.functions ≡ map signature_view c.args.functions.now =
    signatures_same unit i c.loop-place.functions c.args.functions.now c.loop-place.invariant.changed in
    let inside : i < length vs = omega (arith, length-map c.args.functions.now function_view) in
    let more : OneMore unit vs (map function_view c.check_body_at.new.functions) i (met_view c.loop-place.least) (met_view c.check_body_at.new.least)
    (kept_all (met_view c.args.least.now) (bodies_faults unit vs)) c.loop-place.nodes (min (c.loop-place.nodes + c.in_ok-check_body_at.field-0) (2 ^ 32 - 1)) =
    one_more unit (unit_env c.args.declared.now c.loop-place.functions) vs (map function_view c.loop-place.functions) (map function_view c.check_body_at.new.functions) i
    (met_view c.loop-place.least) (met_view c.check_body_at.new.least) (kept_all (met_view c.args.least.now) (bodies_faults unit vs)) c.loop-place.nodes c.in_ok-check_body_at.field-0
    (env_same c.args.declared.now c.loop-place.functions c.args.functions.now same) inside c.loop-place.invariant.changed c.loop-place.invariant.met c.loop-place.invariant.nodes
    (c.in_ok-check_body_at.ensures.resolved no_function) (c.in_ok-check_body_at.ensures.met no_function) (c.in_ok-check_body_at.ensures.nodes no_function) in
    record {
      changed = more.changed;
      met = more.met;
      few = omega (arith, c.saturating_add-nodes.ensures);
      nodes = ap (λ (n : ℕ). min (n + functions_nodes (rest (i + 1) vs)) (2 ^ 32 - 1)) c.saturating_add-nodes.ensures ∙ more.nodes;
    }

pub returns-clause-nodes : goal.returns-clause-nodes
returns-clause-nodes c =
    let unit : Env = unit_env c.args.declared.now c.args.functions.now in
    let vs : List CFunction = map function_view c.args.functions.now in
    let last : c.loop-place.place ≡ length c.args.functions.now = omega (arith, c.loop-place.auto.place-end, c.loop-place-test.false) in
    let e = in_place_end function_view (bodied unit) c.args.functions.now c.loop-place.functions c.loop-place.place c.loop-place.invariant.changed last in
    let none : min (c.loop-place.nodes + 0) (2 ^ 32 - 1) ≡ min (functions_nodes vs) (2 ^ 32 - 1) =
    ap (λ (l : List CFunction). min (c.loop-place.nodes + functions_nodes l) (2 ^ 32 - 1)) (sym e.1) ∙ c.loop-place.invariant.nodes in
    omega (arith, none, c.loop-place.invariant.few)

pub returns-clause-met : goal.returns-clause-met
returns-clause-met c =
    let unit : Env = unit_env c.args.declared.now c.args.functions.now in
    let last : c.loop-place.place ≡ length c.args.functions.now = omega (arith, c.loop-place.auto.place-end, c.loop-place-test.false) in
    let e = in_place_end function_view (bodied unit) c.args.functions.now c.loop-place.functions c.loop-place.place c.loop-place.invariant.changed last in
    ap (λ (l : List CFunction). kept_all (met_view c.loop-place.least) (bodies_faults unit l)) (sym e.1) ∙ c.loop-place.invariant.met

pub returns-clause-resolved : goal.returns-clause-resolved
returns-clause-resolved c =
    let unit : Env = unit_env c.args.declared.now c.args.functions.now in
    let last : c.loop-place.place ≡ length c.args.functions.now = omega (arith, c.loop-place.auto.place-end, c.loop-place-test.false) in
    (in_place_end function_view (bodied unit) c.args.functions.now c.loop-place.functions c.loop-place.place c.loop-place.invariant.changed last).0
