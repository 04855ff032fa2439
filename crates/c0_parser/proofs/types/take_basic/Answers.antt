use Rattle.std.proofs.Common.{[], ◌∷◌, refl, sym, ap, ◌∙◌}
use Rattle.c0_parser.specs.Sorts.{mark}
use Rattle.c0_parser.specs.Value.{type, basic, token_span}
use Rattle.c0_parser.specs.Grammar.{BASIC}
use Rattle.c0_tokens.specs.Tokens.{token_view}
use Rattle.c0_tokens.specs.declared.token.Mark.TheVariants.{Int, Bool as Boolean}
use Rattle.c0_parser.proofs.PieceSteps.{goes_mark, heads_is, mark_kind, shorter}
use Rattle.c0_parser.proofs.types.take_basic.Goals as goal

pub returns-in-Some : goal.returns-in-Some
returns-in-Some c =
    let e = c.in-Some.ensures in
    (heads_is BASIC (mark Int) e.0 (mark_kind e.1), (_, goes_mark (mark Int) (mark Boolean ∷ []) Int _ _ _ refl e.0 e.1, (token_view c.in-Some.t, refl, ap (λ l. type (token_span (token_view c.in-Some.t)) (basic l)) e.1 ∙ sym c.int_at.ensures), shorter _ _ _ e.0))

pub returns : goal.returns
returns c =
    let e = c.in_ok-t.ensures in
    (heads_is BASIC (mark Boolean) e.0 (mark_kind e.1), (_, goes_mark (mark Int) (mark Boolean ∷ []) Boolean _ _ _ refl e.0 e.1, (token_view c.in_ok-t.t, refl, ap (λ l. type (token_span (token_view c.in_ok-t.t)) (basic l)) e.1 ∙ sym c.bool_at.ensures), shorter _ _ _ e.0))
