use Rattle.std.proofs.Common.{rules, ◌≡◌, [], ◌++◌, sym, ap, ◌∙◌, arith}
use Rattle.c0_parser.specs.Value.{decls}
use Rattle.c0_parser.specs.Grammar.{◌▸◌, many, LINE}
use Rattle.c0_parser.specs.Views.{AreFields, AreMoreLines}
use Rattle.c0_parser.proofs.PieceSteps.{one_decl, goes_both, fails_left, fails_right, exits, tails_more}
use Rattle.c0_parser.proofs.types.fields.Goals as goal

pub returns-in_err-first : goal.returns-in_err-first
returns-in_err-first c = exits (LINE ▸ many LINE) AreFields _ _ _ c.from_residual.ensures.1 (fails_left (many LINE) c.in_err-first.ensures)

pub returns : goal.returns
returns c =
    let b = c.in_ok-first.ensures in
    let n : c.new-list.result.items ≡ [] = search rules in
    tails_more (LINE ▸ many LINE) (many LINE) AreFields (AreMoreLines c.push.new.self) _ _ _
    (λ x r. (_, goes_both b.1 r.1, ap (λ l. l ++ decls r.0) (b.2 ∙ sym (one_decl _ _ _ n c.in_ok-push.ensures.items)) ∙ r.2, omega (arith, b.3, r.3)))
    (λ h f. fails_right b.1 f) c.more_lines.ensures
