-- Each function reads the pieces of its production, one after the other.
use Rattle.std.proofs.Common.{◌≡◌, map, refl, sym, ap, ◌∙◌, subst, arith, true, false}
use Rattle.c0_tokens.specs.Tokens.{token_view}
use Rattle.c0_tokens.specs.declared.token.Mark.TheVariants.{CloseParen, CloseBracket}
use Rattle.c0_parser.specs.Sorts.{mark, among}
use Rattle.c0_parser.specs.Value.{token, pair, none, snoc, joined, chained, suffixed, primary_value, unary_value}
use Rattle.c0_parser.specs.Grammar.{the, many, maybe, sign, primary, postfix, unary}
use Rattle.c0_parser.specs.Machine.{kind}
use Rattle.c0_parser.specs.Contract.{as_seen}
use Rattle.c0_parser.specs.Views.{IsPart}
use Rattle.c0_parser.specs.Levels.{rule_of, operation, heads_any}
use Rattle.c0_parser.specs.Tails.{part_value, LITERAL, FIELD, PRIMARY_SUFFIX}
use Rattle.c0_parser.proofs.PieceSteps.{goes_sign, goes_both, goes_first, goes_second, goes_the, goes_with, goes_without, list_starts, fails_left, fails_right, fails_first, fails_second, fails_the, fails_with, exits, exits_any, shorter}
use Rattle.c0_parser.proofs.PartsOfExpressions.{chain_more, chain_ends, chain_fails, first_fails, pair_gives, operation_heads, operation_here, goes_operation, fails_operation, suffixes_more, suffixes_end, suffixes_fail, picks_element, picks_prefixed, picks_parens, goes_prefix, literal_gives, postfix_gives, field_gives}
use Rattle.c0_parser.proofs.expressions.+exprs.Goals as goal

pub binary-returns-in_err-left : goal.binary-returns-in_err-left
binary-returns-in_err-left t c = exits (the (rule_of c.args.level)) IsPart _ _ _ c.from_residual.ensures.1 (first_fails c.args.level _ _ c.in_err-left.ensures)

pub binary-returns-then-not-chains : goal.binary-returns-then-not-chains
binary-returns-then-not-chains t c =
    let g = c.in_ok-left.ensures in
    pair_gives c.args.level c.args.ts.now c.in_ok-left.rest.now c.in_ok-left.left g.0 c.comparison.result (sym c.chains.ensures ∙ c.if-not-chains.true) g.1 g.2 g.3 c.comparison.ensures

pub binary-loop-sign-init : goal.binary-loop-sign-init
binary-loop-sign-init t c =
    let g = c.in_ok-left.ensures in
    record {
      chain = record { first = g.0; mid = as_seen c.in_ok-left.rest.now; operations = none; first_goes = g.1; on = list_starts (operation c.args.level) (as_seen c.in_ok-left.rest.now) none; is = g.2; inside = g.3 };
      follow = sym c.chains.ensures ∙ c.if-not-chains.false;
    }

pub binary-returns-in_err-right : goal.binary-returns-in_err-right
binary-returns-in_err-right t c =
    let e = c.in-Some.ensures in
    let m = subst (λ ms. among (map (λ x. mark x) ms) (kind (token_view c.in-Some.sign)) ≡ true) c.marks.ensures e.1 in
    exits (the (rule_of c.args.level)) IsPart _ _ _ c.from_residual-in_err-right.ensures.1
    (chain_fails c.args.level _ _ _ _ _ _ c.loop-sign.invariant.chain c.loop-sign.invariant.follow e.0 m c.in_err-right.ensures)

pub binary-loop-sign-preserved : goal.binary-loop-sign-preserved
binary-loop-sign-preserved t c =
    let e = c.in-Some.ensures in
    let m = subst (λ ms. among (map (λ x. mark x) ms) (kind (token_view c.in-Some.sign)) ≡ true) c.marks.ensures e.1 in
    let g = c.in_ok-right.ensures in
    record {
      chain = chain_more c.args.level _ _ _ _ _ c.in_ok-right.right _ _ g.0 c.loop-sign.invariant.chain e.0 m g.1 g.2 g.3 c.in_ok-left-2.ensures;
      follow = c.loop-sign.invariant.follow;
    }

pub binary-returns : goal.binary-returns
binary-returns t c =
    let n = subst (λ ms. heads_any (map (λ x. mark x) ms) (as_seen c.loop-sign.rest.now) ≡ false) c.marks.ensures c.in_default.ensures in
    chain_ends c.args.level _ _ _ c.loop-sign.invariant.chain c.loop-sign.invariant.follow n

pub comparison-returns-in_default : goal.comparison-returns-in_default
comparison-returns-in_default t c =
    let n = subst (λ ms. heads_any (map (λ x. mark x) ms) (as_seen c.args.ts.now) ≡ false) c.marks.ensures c.in_default.ensures in
    (none, goes_without (operation c.args.level) (as_seen c.args.ts.now) (operation_heads c.args.level (as_seen c.args.ts.now) ∙ n), refl, omega arith)

pub comparison-returns-in_err-right : goal.comparison-returns-in_err-right
comparison-returns-in_err-right t c =
    let e = c.in-Some.ensures in
    let m = subst (λ ms. among (map (λ x. mark x) ms) (kind (token_view c.in-Some.sign)) ≡ true) c.marks.ensures e.1 in
    exits_any (maybe (operation c.args.level)) (λ p v. IsPart p (chained (part_value c.args.left) v)) _ _ _ c.from_residual.ensures.1
    (fails_with (operation_here c.args.level _ _ _ e.0 m) (fails_operation c.args.level _ _ _ e.0 m c.in_err-right.ensures))

pub comparison-returns : goal.comparison-returns
comparison-returns t c =
    let e = c.in-Some.ensures in
    let m = subst (λ ms. among (map (λ x. mark x) ms) (kind (token_view c.in-Some.sign)) ≡ true) c.marks.ensures e.1 in
    let g = c.in_ok-right.ensures in (
      snoc none (pair (token (token_view c.in-Some.sign)) g.0),
      goes_with (operation_here c.args.level _ _ _ e.0 m) (goes_operation c.args.level _ _ _ e.0 m g.1),
      ap (λ x. joined (part_value c.args.left) (pair (token (token_view c.in-Some.sign)) x)) g.2 ∙ c.in_ok-join.ensures,
      omega (arith, shorter _ _ _ e.0, g.3),
    )

pub postfix-returns-in_err-left : goal.postfix-returns-in_err-left
postfix-returns-in_err-left t c = exits (the postfix) IsPart _ _ _ c.from_residual.ensures.1 (fails_the postfix (fails_left (many PRIMARY_SUFFIX) c.in_err-left.ensures))

pub postfix-loop-alloc-init : goal.postfix-loop-alloc-init
postfix-loop-alloc-init t c =
    let g = c.in_ok-left.ensures in
    record { first = g.0; mid = as_seen c.in_ok-left.rest.now; parts = none; first_goes = g.1; on = list_starts PRIMARY_SUFFIX (as_seen c.in_ok-left.rest.now) none; is = g.2; inside = g.3 }

pub postfix-returns-in_err-longer : goal.postfix-returns-in_err-longer
postfix-returns-in_err-longer t c =
    exits (the postfix) IsPart _ _ _ c.from_residual-in_err-longer.ensures.1
    (suffixes_fail _ _ _ _ c.loop-alloc.invariant (sym c.begins_suffix.ensures ∙ c.loop-alloc-test.true) c.in_err-longer.ensures)

pub postfix-loop-alloc-preserved : goal.postfix-loop-alloc-preserved
postfix-loop-alloc-preserved t c =
    let g = c.in_ok-longer.ensures in
    suffixes_more _ _ _ _ _ g.0 c.loop-alloc.invariant (sym c.begins_suffix.ensures ∙ c.loop-alloc-test.true) g.1 g.2 g.3

pub postfix-returns : goal.postfix-returns
postfix-returns t c = suffixes_end _ _ _ c.loop-alloc.invariant (sym c.begins_suffix.ensures ∙ c.loop-alloc-test.false)

pub primary-returns-in_err-inner-in-Some : goal.primary-returns-in_err-inner-in-Some
primary-returns-in_err-inner-in-Some t c =
    let e = c.in-Some.ensures in
    exits (the primary) IsPart _ _ _ c.from_residual.ensures.1
    (fails_the primary (fails_second LITERAL (picks_parens _ _ _ e.0 e.1) (fails_right (goes_sign _ _ _ _ e.0 e.1) (fails_left (sign CloseParen) c.in_err-inner-in-Some.ensures))))

pub primary-returns-in_err-closing-in-Some : goal.primary-returns-in_err-closing-in-Some
primary-returns-in_err-closing-in-Some t c =
    let e = c.in-Some.ensures in
    let g = c.in_ok-inner-in-Some.ensures in
    exits (the primary) IsPart _ _ _ c.from_residual-in_err-closing-in-Some.ensures.1
    (fails_the primary (fails_second LITERAL (picks_parens _ _ _ e.0 e.1) (fails_right (goes_sign _ _ _ _ e.0 e.1) (fails_right g.1 c.in_err-closing-in-Some.ensures))))

pub primary-returns-in_ok-closing-in-Some : goal.primary-returns-in_ok-closing-in-Some
primary-returns-in_ok-closing-in-Some t c =
    let e = c.in-Some.ensures in
    let g = c.in_ok-inner-in-Some.ensures in
    let q = c.in_ok-closing-in-Some.ensures in
    let o = token (token_view c.in-Some.opening) in (
      _,
      goes_the primary (goes_second LITERAL (picks_parens _ _ _ e.0 e.1) (goes_both (goes_sign _ _ _ _ e.0 e.1) (goes_both g.1 q.1))),
      ap (λ x. primary_value (pair o (pair x q.0))) g.2 ∙ ap (λ y. primary_value (pair o (pair (part_value c.in_ok-inner-in-Some.inner) y))) q.2 ∙ c.in_parens.ensures,
      omega (arith, shorter _ _ _ e.0, g.3, q.3),
    )

pub primary-returns-in-None : goal.primary-returns-in-None
primary-returns-in-None t c = literal_gives c.args.ts.now c.literal.result c.in-None.ensures c.literal.ensures

pub unary-returns-in_err-operand-in-Some : goal.unary-returns-in_err-operand-in-Some
unary-returns-in_err-operand-in-Some t c =
    let e = c.in-Some.ensures in
    exits (the unary) IsPart _ _ _ c.from_residual.ensures.1 (fails_the unary (fails_first (the postfix) (picks_prefixed _ _ _ e.0 e.1) (fails_right (goes_prefix _ _ _ e.0 e.1) c.in_err-operand-in-Some.ensures)))

pub unary-returns-in_ok-prefixed-in-Some : goal.unary-returns-in_ok-prefixed-in-Some
unary-returns-in_ok-prefixed-in-Some t c =
    let e = c.in-Some.ensures in
    let g = c.in_ok-operand-in-Some.ensures in (
      _,
      goes_the unary (goes_first (the postfix) (picks_prefixed _ _ _ e.0 e.1) (goes_both (goes_prefix _ _ _ e.0 e.1) g.1)),
      ap (λ x. unary_value (pair (token (token_view c.in-Some.sign)) x)) g.2 ∙ c.in_ok-prefixed-in-Some.ensures,
      omega (arith, shorter _ _ _ e.0, g.3),
    )

pub unary-returns-in-None : goal.unary-returns-in-None
unary-returns-in-None t c = postfix_gives c.args.ts.now c.postfix.result c.in-None.ensures c.postfix.ensures

pub suffix-returns-in_err-inner-in-Some : goal.suffix-returns-in_err-inner-in-Some
suffix-returns-in_err-inner-in-Some t c =
    let e = c.in-Some.ensures in
    exits PRIMARY_SUFFIX (λ p x. IsPart p (suffixed (part_value c.args.left) x)) _ _ _ c.from_residual.ensures.1
    (fails_second FIELD (picks_element _ _ _ e.0 e.1) (fails_right (goes_sign _ _ _ _ e.0 e.1) (fails_left (sign CloseBracket) c.in_err-inner-in-Some.ensures)))

pub suffix-returns-in_err-closing-in-Some : goal.suffix-returns-in_err-closing-in-Some
suffix-returns-in_err-closing-in-Some t c =
    let e = c.in-Some.ensures in
    let g = c.in_ok-inner-in-Some.ensures in
    exits PRIMARY_SUFFIX (λ p x. IsPart p (suffixed (part_value c.args.left) x)) _ _ _ c.from_residual-in_err-closing-in-Some.ensures.1
    (fails_second FIELD (picks_element _ _ _ e.0 e.1) (fails_right (goes_sign _ _ _ _ e.0 e.1) (fails_right g.1 c.in_err-closing-in-Some.ensures)))

pub suffix-returns-in_ok-element-in-Some : goal.suffix-returns-in_ok-element-in-Some
suffix-returns-in_ok-element-in-Some t c =
    let e = c.in-Some.ensures in
    let g = c.in_ok-inner-in-Some.ensures in
    let q = c.in_ok-closing-in-Some.ensures in
    let o = token (token_view c.in-Some.opening) in (
      _,
      goes_second FIELD (picks_element _ _ _ e.0 e.1) (goes_both (goes_sign _ _ _ _ e.0 e.1) (goes_both g.1 q.1)),
      ap (λ x. suffixed (part_value c.args.left) (pair o (pair x q.0))) g.2 ∙ ap (λ y. suffixed (part_value c.args.left) (pair o (pair (part_value c.in_ok-inner-in-Some.inner) y))) q.2
          ∙ c.in_ok-element-in-Some.ensures,
      omega (arith, shorter _ _ _ e.0, g.3, q.3),
    )

pub suffix-returns-in-None : goal.suffix-returns-in-None
suffix-returns-in-None t c = field_gives c.args.left c.args.ts.now c.field_of.result c.requires c.in-None.ensures c.field_of.ensures
