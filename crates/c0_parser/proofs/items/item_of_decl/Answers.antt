use Rattle.std.proofs.Common.{refl}
use Rattle.c0_parser.specs.Sorts.{mark}
use Rattle.c0_tokens.specs.declared.token.Mark.TheVariants.{Semicolon}
use Rattle.c0_parser.specs.Grammar.{sign, FUNCTION}
use Rattle.c0_parser.specs.Factored.{AFTER_DECL}
use Rattle.c0_parser.specs.Views.{IsItemOfDecl}
use Rattle.c0_parser.proofs.PieceSteps.{goes_sign, goes_first_at, goes_second_not, mark_kind, fails_second_not, shorter, tails}
use Rattle.c0_parser.proofs.items.item_of_decl.Goals as goal

pub returns-in-Some : goal.returns-in-Some
returns-in-Some c =
    let e = c.in-Some.ensures in
    (_, goes_first_at (sign Semicolon) FUNCTION (mark Semicolon) e.0 (mark_kind e.1) refl refl (goes_sign _ _ _ _ e.0 e.1), refl, shorter _ _ _ e.0)

pub returns-in-None : goal.returns-in-None
returns-in-None c =
    tails AFTER_DECL FUNCTION (IsItemOfDecl c.args.decl) (IsItemOfDecl c.args.decl) _ _ _
    (λ x r. (_, goes_second_not (sign Semicolon) c.in-None.ensures r.1, r.2, r.3))
    (λ h f. fails_second_not (sign Semicolon) c.in-None.ensures f) c.function.ensures
