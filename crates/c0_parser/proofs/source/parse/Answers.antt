use Rattle.std.proofs.Common.{ap, ◌∙◌, subst}
use Rattle.c0_parser.specs.Contract.{as_seen, PieceFails}
use Rattle.c0_parser.specs.Factored.{SOURCE}
use Rattle.c0_parser.proofs.SourcesRead.{reads_found, one_tree, fits, not_read_so, fault_of_first_bad}
use Rattle.c0_parser.proofs.PlainSources.{reads_plain}
use Rattle.c0_parser.proofs.source.parse.Goals as goal

pub returns-in-Ok-clause-found : goal.returns-in-Ok-clause-found
returns-in-Ok-clause-found c =
    let source = c.args.source.now in
    reads_found source c.deref.result.now c.in-Ok.items (ap as_seen c.deref.ensures.value ∙ c.in_ok-tokens.ensures) (c.tokens_stand_in_order.ensures.ends source) c.in-Ok.ensures

pub returns-in-Ok-clause-plain : goal.returns-in-Ok-clause-plain
returns-in-Ok-clause-plain c =
    let source = c.args.source.now in
    reads_plain source _ c.if-source-gt-MAX_SOURCE.false (c.tokens_are_few_and_small.ensures.count source) (c.tokens_are_few_and_small.ensures.numbers source)
    (reads_found source c.deref.result.now c.in-Ok.items (ap as_seen c.deref.ensures.value ∙ c.in_ok-tokens.ensures) (c.tokens_stand_in_order.ensures.ends source) c.in-Ok.ensures)

pub returns-in-Ok-clause-only : goal.returns-in-Ok-clause-only
returns-in-Ok-clause-only c = λ u le r.
    let source = c.args.source.now in
    one_tree source _ u (reads_found source c.deref.result.now c.in-Ok.items (ap as_seen c.deref.ensures.value ∙ c.in_ok-tokens.ensures) (c.tokens_stand_in_order.ensures.ends source) c.in-Ok.ensures) r

pub fault_from_end-requires : goal.fault_from_end-requires
fault_from_end-requires c =
    let source = c.args.source.now in
    fits source c.deref.result.now c.deref-in-Err-Left.result.now c.in-Err-Left.left (ap as_seen c.deref.ensures.value ∙ c.in_ok-tokens.ensures) (ap as_seen c.deref-in-Err-Left.ensures.value ∙ c.in_ok-tokens.ensures)
    (c.tokens_stand_in_order.ensures.ends source) (subst (PieceFails SOURCE (as_seen c.deref.result.now)) c.in-Err-Left.field-0-is c.in-Err-Left.ensures)

pub returns-clause-only : goal.returns-clause-only
returns-clause-only c = λ u le r.
    let source = c.args.source.now in
    absurd (not_read_so source c.deref.result.now c.in-Err-Left.left u (ap as_seen c.deref.ensures.value ∙ c.in_ok-tokens.ensures) (c.tokens_stand_in_order.ensures.ends source) (subst (PieceFails SOURCE (as_seen c.deref.result.now)) c.in-Err-Left.field-0-is c.in-Err-Left.ensures) r)

pub returns-clause-fault : goal.returns-clause-fault
returns-clause-fault c =
    let source = c.args.source.now in
    fault_of_first_bad source c.deref.result.now c.deref-in-Err-Left.result.now c.in-Err-Left.left _ c.if-source-gt-MAX_SOURCE.false
    (ap as_seen c.deref.ensures.value ∙ c.in_ok-tokens.ensures) (ap as_seen c.deref-in-Err-Left.ensures.value ∙ c.in_ok-tokens.ensures)
    (c.tokens_stand_in_order.ensures.ends source) (subst (PieceFails SOURCE (as_seen c.deref.result.now)) c.in-Err-Left.field-0-is c.in-Err-Left.ensures) c.fault_from_end.ensures
