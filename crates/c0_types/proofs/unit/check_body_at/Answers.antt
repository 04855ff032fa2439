-- The body is checked among functions that are as they were but for the body that is taken out.
use Rattle.std.proofs.Common.{◌≡◌, ◌<◌, ◌^◌, List, length, get_or, set, sym, ap, ◌∙◌, subst}
use Rattle.std.proofs.lemmas.List.{get_or-set_same}
use Rattle.c0_tree.specs.declared.tree.Body.{Body}
use Rattle.c0_tree.specs.declared.tree.Function.{Function}
use Rattle.c0_tree.specs.Plain.{is_plain_body}
use Rattle.c0_tree.specs.View.{body_view, function_view}
use Rattle.c0_meaning.specs.Fault.{kept_all}
use Rattle.c0_name_check.specs.Met.{met_view}
use Rattle.c0_types.specs.Known.{unit_env}
use Rattle.c0_types.specs.Parts.{faults_of_body, is_plain_function}
use Rattle.c0_types.proofs.HeadingsInTurn.{few_params, plain_body}
use Rattle.c0_types.proofs.BodiesCheckedInTurn.{knows_same, env_same, swapped, signatures_swapped, seen_at, faults_swapped, put_back, body_swapped}
use Rattle.c0_types.proofs.unit.check_body_at.Goals as goal

pub check_body-requires-clause-knows : goal.check_body-requires-clause-knows
check_body-requires-clause-knows c =
    knows_same c.args.declared.now _ c.args.functions.now (signatures_swapped c.args.functions.now c.args.place c.index-functions-place.result c.replace-body.new.dest) c.requires.knows

pub check_body-requires-clause-params : goal.check_body-requires-clause-params
check_body-requires-clause-params c =
    let f : Function = get_or c.args.functions.now c.args.place c.index-functions-place.result in
    let at : c.index-all-place.result ≡ swapped f c.replace-body.new.dest =
    c.index-all-place.is ∙ get_or-set_same c.args.functions.now c.args.place (swapped f c.replace-body.new.dest) c.index-all-place.result c.requires.within in
    subst (λ (x : Function). length x.params.items < 2 ^ 32) (sym at)
    (few_params f (ap is_plain_function (seen_at c.args.functions.now c.args.place c.index-functions-place.result (function_view f) c.requires.within) ∙ c.requires.plain (function_view f)))

pub check_body-requires-clause-plain : goal.check_body-requires-clause-plain
check_body-requires-clause-plain c =
    let f : Function = get_or c.args.functions.now c.args.place c.index-functions-place.result in
    ap (λ (b : Body). is_plain_body (body_view b)) c.replace-body.ensures.value
    ∙ plain_body (function_view f) (ap is_plain_function (seen_at c.args.functions.now c.args.place c.index-functions-place.result (function_view f) c.requires.within) ∙ c.requires.plain (function_view f))

pub returns-clause-met : goal.returns-clause-met
returns-clause-met c other =
    let f : Function = get_or c.args.functions.now c.args.place c.index-functions-place.result in
    let fs : List Function = set c.args.functions.now c.args.place (swapped f c.replace-body.new.dest) in
    let at : c.index-all-place.result ≡ swapped f c.replace-body.new.dest =
    c.index-all-place.is ∙ get_or-set_same c.args.functions.now c.args.place (swapped f c.replace-body.new.dest) c.index-all-place.result c.requires.within in
    let same : unit_env c.args.declared.now fs ≡ unit_env c.args.declared.now c.args.functions.now =
    env_same c.args.declared.now fs c.args.functions.now (signatures_swapped c.args.functions.now c.args.place c.index-functions-place.result c.replace-body.new.dest) in
    c.in_ok-nodes.ensures.met
    ∙ ap (kept_all (met_view c.args.least.now))
    (faults_swapped (unit_env c.args.declared.now c.args.functions.now) (unit_env c.args.declared.now fs) f c.index-all-place.result c.replace-body.new.dest c.replace-body.result same at c.replace-body.ensures.value
    ∙ ap (faults_of_body (unit_env c.args.declared.now c.args.functions.now)) (seen_at c.args.functions.now c.args.place c.index-functions-place.result other c.requires.within))

pub returns-clause-resolved : goal.returns-clause-resolved
returns-clause-resolved c other =
    let f : Function = get_or c.args.functions.now c.args.place c.index-functions-place.result in
    let fs : List Function = set c.args.functions.now c.args.place (swapped f c.replace-body.new.dest) in
    let at : c.index-all-place.result ≡ swapped f c.replace-body.new.dest =
    c.index-all-place.is ∙ get_or-set_same c.args.functions.now c.args.place (swapped f c.replace-body.new.dest) c.index-all-place.result c.requires.within in
    let same : unit_env c.args.declared.now fs ≡ unit_env c.args.declared.now c.args.functions.now =
    env_same c.args.declared.now fs c.args.functions.now (signatures_swapped c.args.functions.now c.args.place c.index-functions-place.result c.replace-body.new.dest) in
    put_back (unit_env c.args.declared.now c.args.functions.now) c.args.functions.now c.args.place c.index-functions-place.result c.index-functions-place-2.result other c.replace-body.new.dest c.check_body.new.body
    c.requires.within
    (c.in_ok-nodes.ensures.resolved
    ∙ body_swapped (unit_env c.args.declared.now c.args.functions.now) (unit_env c.args.declared.now fs) f c.index-all-place.result c.replace-body.new.dest c.replace-body.result same at c.replace-body.ensures.value)
