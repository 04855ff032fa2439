use Rattle.std.proofs.Common.{[], refl, ap, arith}
use Rattle.c0_parser.specs.Sorts.{an_asm_text, mark}
use Rattle.c0_tokens.specs.declared.token.Mark.TheVariants.{Asm, OpenBrace}
use Rattle.c0_parser.specs.Value.{body_value}
use Rattle.c0_parser.specs.Grammar.{the, code, body, one_of, sign, ◌▸◌}
use Rattle.c0_parser.specs.Views.{IsBody, IsAsm}
use Rattle.c0_parser.proofs.PieceSteps.{goes_the, goes_both, goes_first_at, goes_second_not, mark_kind, fails_the, fails_left, fails_right, fails_first_at, fails_second_not, exits, tails}
use Rattle.c0_parser.proofs.PartsMean.{asm_body_meaning}
use Rattle.c0_parser.proofs.items.body.Goals as goal

pub returns-in-Some : goal.returns-in-Some
returns-in-Some c =
    let e = c.in-Some.ensures in
    tails (the body) (the code) IsBody IsBody _ _ _
    (λ x r. (_, goes_the body (goes_first_at (the code) (sign Asm ▸ one_of an_asm_text []) (mark OpenBrace) e.0 (mark_kind e.1) refl refl r.1), ap body_value r.2, r.3))
    (λ h f. fails_the body (fails_first_at (the code) (sign Asm ▸ one_of an_asm_text []) (mark OpenBrace) e.0 (mark_kind e.1) refl refl f)) c.code.ensures

pub returns-in_err-rest : goal.returns-in_err-rest
returns-in_err-rest c =
    exits (the body) IsBody _ _ _ c.from_residual.ensures.1 (fails_the body (fails_second_not (the code) c.in_default.ensures (fails_left (one_of an_asm_text []) c.in_err-rest.ensures)))

pub returns : goal.returns
returns c =
    let o = c.in_ok-rest.ensures in
    tails (the body) (one_of an_asm_text []) IsBody IsAsm _ _ _
    (λ x r. (_, goes_the body (goes_second_not (the code) c.in_default.ensures (goes_both o.1 r.1)), asm_body_meaning _ _ _ _ _ o.2 r.2.1 r.2.2, omega (arith, o.3, r.3)))
    (λ h f. fails_the body (fails_second_not (the code) c.in_default.ensures (fails_right o.1 f))) c.asm_body.ensures
