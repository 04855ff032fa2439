-- One heading more is checked, and its faults are met.
use Rattle.std.proofs.Common.{◌≡◌, ◌<◌, ℕ, ◌+◌, List, length, map, get_or, sym, ap, ◌∙◌, subst, arith}
use Rattle.std.proofs.lemmas.List.{length-map}
use Rattle.c0_tree.specs.declared.tree.Function.{Function}
use Rattle.c0_tree.specs.Tree.{CFunction}
use Rattle.c0_tree.specs.View.{function_view}
use Rattle.c0_meaning.specs.Fault.{kept_all}
use Rattle.c0_name_check.specs.Met.{met_view}
use Rattle.c0_name_check.proofs.FaultsMet.{kept_all-append}
use Rattle.c0_body_check.proofs.InPlace.{rest, rest-all, map-get_or}
use Rattle.c0_types.specs.Parts.{headed, heading_faults, headings_faults, is_plain_function}
use Rattle.c0_types.proofs.DeclaredInPlace.{numbered_next, numbered_step, numbered_end}
use Rattle.c0_types.proofs.HeadingsInTurn.{functions_numbered, all_at, few_params, other_set}
use Rattle.c0_types.proofs.unit.check_headings.Goals as goal

pub check_heading-requires : goal.check_heading-requires
check_heading-requires c =
    let i : ℕ = c.loop-function.function-index in
    let function : Function = get_or c.loop-function.function-items i c.function-item.result in
    let old : List CFunction = map function_view c.args.functions.now in
    let was : function_view function ≡ get_or old i (function_view c.function-item.result) =
    ap function_view (c.loop-function.invariant.others i c.function-item.result (omega arith)) ∙ map-get_or function_view c.args.functions.now i c.function-item.result in
    record {
      few = few_params function (ap is_plain_function was ∙ all_at is_plain_function old i (function_view c.function-item.result) c.requires.plain
          (subst (λ (n : ℕ). i < n) (sym (length-map c.args.functions.now function_view)) c.loop-function-test.true));
    }

pub loop-function-preserved : goal.loop-function-preserved
loop-function-preserved c =
    let i : ℕ = c.loop-function.function-index in
    let function : Function = get_or c.loop-function.function-items i c.function-item.result in
    record {
      at = omega (arith, c.loop-function.invariant.at);
      changed = λ shapes knows.
          numbered_step function_view (headed shapes) 0 c.args.functions.now c.loop-function.function-items i c.loop-function.number function _
          (c.loop-function.invariant.changed shapes knows) c.loop-function-test.true (omega (arith, c.loop-function.invariant.at)) (ap (get_or c.loop-function.function-items i) c.function-item.is)
          (c.check_heading.ensures.named shapes knows);
      met = λ shapes knows.
          ap (λ m. kept_all m (headings_faults shapes (rest (i + 1) (map function_view c.args.functions.now)))) (c.check_heading.ensures.met shapes knows)
          ∙ (sym (kept_all-append (met_view c.loop-function.least) (heading_faults shapes (function_view function)) (headings_faults shapes (rest (i + 1) (map function_view c.args.functions.now))))
          ∙ (ap (λ fs. kept_all (met_view c.loop-function.least) (headings_faults shapes fs)) (sym (numbered_next function_view (headed shapes) 0 c.args.functions.now c.loop-function.function-items i function
          (c.loop-function.invariant.changed shapes knows) c.loop-function-test.true (ap (get_or c.loop-function.function-items i) c.function-item.is)).left)
          ∙ c.loop-function.invariant.met shapes knows));
      others = λ j d h. other_set c.loop-function.function-items i j _ d (omega (arith, h)) ∙ c.loop-function.invariant.others j d (omega (arith, h));
    }

pub returns-clause-named : goal.returns-clause-named
returns-clause-named c shapes knows =
    let last : c.loop-function.function-index ≡ length c.args.functions.now = omega (arith, c.loop-function.auto.function-index-end, c.loop-function-test.false) in
    numbered_end function_view (headed shapes) 0 c.args.functions.now c.loop-function.function-items c.loop-function.function-index (c.loop-function.invariant.changed shapes knows) last
    ∙ functions_numbered shapes 0 (map function_view c.args.functions.now)

pub returns-clause-met : goal.returns-clause-met
returns-clause-met c shapes knows =
    let last : c.loop-function.function-index ≡ length (map function_view c.args.functions.now) = omega (arith, c.loop-function.auto.function-index-end, c.loop-function-test.false, length-map c.args.functions.now function_view) in
    ap (λ (fs : List CFunction). kept_all (met_view c.loop-function.least) (headings_faults shapes fs))
    (sym (ap (λ (n : ℕ). rest n (map function_view c.args.functions.now)) last ∙ rest-all (map function_view c.args.functions.now)))
    ∙ c.loop-function.invariant.met shapes knows
