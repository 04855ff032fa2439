use Rattle.std.proofs.Common.{refl, arith}
use Rattle.c0_parser.specs.Sorts.{mark}
use Rattle.c0_parser.specs.Views.{IsSuffix}
use Rattle.c0_parser.specs.Grammar.{sign, ◌▸◌, NUMBER, SUFFIX}
use Rattle.c0_tokens.specs.declared.token.Mark.TheVariants.{Star, OpenBracket, CloseBracket}
use Rattle.c0_parser.proofs.PieceSteps.{goes_sign, goes_both, goes_first_at, goes_second_not, mark_kind, fails_left, fails_right, fails_second_not, exits, shorter}
use Rattle.c0_parser.proofs.types.one_suffix.Goals as goal

pub returns-in-Some : goal.returns-in-Some
returns-in-Some c =
    let e = c.in-Some.ensures in
    (_, goes_first_at (sign Star) (sign OpenBracket ▸ NUMBER ▸ sign CloseBracket) (mark Star) e.0 (mark_kind e.1) refl refl (goes_sign _ _ _ _ e.0 e.1), (λ s t. refl), shorter _ _ _ e.0)

pub returns-in_err-rest : goal.returns-in_err-rest
returns-in_err-rest c =
    exits SUFFIX IsSuffix _ _ _ c.from_residual.ensures.1 (fails_second_not (sign Star) c.in_default.ensures (fails_left (NUMBER ▸ sign CloseBracket) c.in_err-rest.ensures))

pub returns-in_err-length : goal.returns-in_err-length
returns-in_err-length c =
    let o = c.in_ok-rest.ensures in
    exits SUFFIX IsSuffix _ _ _ c.from_residual-in_err-length.ensures.1 (fails_second_not (sign Star) c.in_default.ensures (fails_right o.1 (fails_left (sign CloseBracket) c.in_err-length.ensures)))

pub returns-in_err-closing : goal.returns-in_err-closing
returns-in_err-closing c =
    let o = c.in_ok-rest.ensures in
    let n = c.in_ok-length.ensures in
    exits SUFFIX IsSuffix _ _ _ c.from_residual-in_err-closing.ensures.1 (fails_second_not (sign Star) c.in_default.ensures (fails_right o.1 (fails_right n.1 c.in_err-closing.ensures)))

pub returns : goal.returns
returns c =
    let o = c.in_ok-rest.ensures in
    let n = c.in_ok-length.ensures in
    let q = c.in_ok-closing.ensures in
    (_, goes_second_not (sign Star) c.in_default.ensures (goes_both o.1 (goes_both n.1 q.1)), (λ s t. rw (o.2, n.2.1, q.2, n.2.2) refl), omega (arith, o.3, n.3, q.3))
