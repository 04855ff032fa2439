use Rattle.std.proofs.Common.{ap, ◌∙◌, arith}
use Rattle.c0_parser.specs.Value.{type_suffixes}
use Rattle.c0_parser.specs.Grammar.{the, type, SUFFIXES}
use Rattle.c0_parser.specs.Views.{IsTypedValue, AreSuffixes}
use Rattle.c0_parser.proofs.PieceSteps.{goes_the, goes_both, fails_the, fails_left, fails_right, exits, tails_more}
use Rattle.c0_parser.proofs.types.type_of.Goals as goal

pub returns-in_err-base : goal.returns-in_err-base
returns-in_err-base c = exits (the type) IsTypedValue _ _ _ c.from_residual.ensures.1 (fails_the type (fails_left SUFFIXES c.in_err-base.ensures))

pub returns : goal.returns
returns c =
    let b = c.in_ok-base.ensures in
    tails_more (the type) SUFFIXES IsTypedValue (AreSuffixes c.in_ok-base.base) _ _ _
    (λ x r. (_, goes_the type (goes_both b.1 r.1), ap (λ t. type_suffixes t r.0) b.2 ∙ r.2, omega (arith, b.3, r.3)))
    (λ h f. fails_the type (fails_right b.1 f)) c.suffixes.ensures
