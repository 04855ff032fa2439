-- A mark and a name.
use Rattle.std.proofs.Common.{◌∙◌, ap, arith}
use Rattle.c0_tokens.specs.Tokens.{token_view}
use Rattle.c0_parser.specs.Value.{token, pair, suffixed}
use Rattle.c0_parser.specs.Views.{IsPart}
use Rattle.c0_parser.specs.Tails.{part_value, FIELD}
use Rattle.c0_parser.proofs.PieceSteps.{goes_both, fails_right, exits, shorter}
use Rattle.c0_parser.proofs.PartsOfExpressions.{goes_field, fails_field}
use Rattle.c0_parser.proofs.expressions.field_of.Goals as goal

pub returns-in_err-name-in-Some : goal.returns-in_err-name-in-Some
returns-in_err-name-in-Some c =
    let e = c.in-Some.ensures in
    exits FIELD (λ p x. IsPart p (suffixed (part_value c.args.left) x)) _ _ _ c.from_residual.ensures.1 (fails_right (goes_field _ _ _ e.0 e.1) c.in_err-name-in-Some.ensures)

pub returns-in_ok-field-in-Some : goal.returns-in_ok-field-in-Some
returns-in_ok-field-in-Some c =
    let e = c.in-Some.ensures in
    let g = c.in_ok-name-in-Some.ensures in (
      _,
      goes_both (goes_field _ _ _ e.0 e.1) g.1,
      ap (λ x. suffixed (part_value c.args.left) (pair (token (token_view c.in-Some.sign)) x)) g.2.1 ∙ c.in_ok-field-in-Some.ensures g.2.0 g.2.2,
      omega (arith, shorter _ _ _ e.0, g.3),
    )

pub returns-in-None : goal.returns-in-None
returns-in-None c = fails_field c.args.ts.now c.in-None.ensures
