use Rattle.std.proofs.Common.{refl, sym, ap, ◌∙◌, arith}
use Rattle.c0_parser.specs.Grammar.{sign, NAME, BASIC, BASE}
use Rattle.c0_parser.specs.Value.{base_value}
use Rattle.c0_parser.specs.Views.{IsBase}
use Rattle.c0_parser.proofs.PieceSteps.{struct_base, goes_both, goes_first_heads, goes_second_not, fails_left, fails_right, fails_second_not, exits}
use Rattle.c0_tokens.specs.declared.token.Mark.TheVariants.{Struct}
use Rattle.c0_parser.specs.Grammar.{◌▸◌}
use Rattle.c0_parser.proofs.types.base.Goals as goal

pub returns-in-Some : goal.returns-in-Some
returns-in-Some c = let b = c.in-Some.ensures in (b.1.0, goes_first_heads BASIC (sign Struct ▸ NAME) refl b.0 b.1.1, ap base_value b.1.2.1 ∙ b.1.2.2, b.1.3)

pub returns-in_err-t : goal.returns-in_err-t
returns-in_err-t c = exits BASE IsBase _ _ _ c.from_residual.ensures.1 (fails_second_not BASIC c.in_default.ensures (fails_left NAME c.in_err-t.ensures))

pub returns-in_err-name : goal.returns-in_err-name
returns-in_err-name c = exits BASE IsBase _ _ _ c.from_residual-in_err-name.ensures.1 (fails_second_not BASIC c.in_default.ensures (fails_right c.in_ok-t.ensures.1 c.in_err-name.ensures))

pub returns : goal.returns
returns c =
    let o = c.in_ok-t.ensures in
    let n = c.in_ok-name.ensures in
    (_, goes_second_not BASIC c.in_default.ensures (goes_both o.1 n.1), struct_base _ _ _ _ _ _ o.2 n.2.1 n.2.2 (ap (λ x. x.span) n.2.2) ∙ sym c.struct_at.ensures, omega (arith, o.3, n.3))
