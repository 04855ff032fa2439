use Rattle.std.proofs.Common.{refl, ◌∙◌, arith}
use Rattle.c0_parser.specs.Value.{pair}
use Rattle.c0_parser.specs.Grammar.{◌▸◌, NAME}
use Rattle.c0_parser.specs.Factored.{AFTER_DECL, DEFINED}
use Rattle.c0_parser.specs.Views.{typed, IsItemOfDecl, IsDefined}
use Rattle.c0_parser.proofs.PieceSteps.{goes_both, fails_left, fails_right, exits, tails}
use Rattle.c0_parser.proofs.PartsMean.{defined_meaning}
use Rattle.c0_parser.proofs.items.defined.Goals as goal

pub returns-in_err-typed : goal.returns-in_err-typed
returns-in_err-typed c = exits DEFINED (IsDefined c.args.base) _ _ _ c.from_residual.ensures.1 (fails_left (NAME ▸ AFTER_DECL) c.in_err-typed.ensures)

pub returns-in_err-name : goal.returns-in_err-name
returns-in_err-name c = exits DEFINED (IsDefined c.args.base) _ _ _ c.from_residual-in_err-name.ensures.1 (fails_right c.in_ok-typed.ensures.1 (fails_left AFTER_DECL c.in_err-name.ensures))

pub returns : goal.returns
returns c =
    let t = c.in_ok-typed.ensures in
    let n = c.in_ok-name.ensures in
    tails DEFINED AFTER_DECL (IsDefined c.args.base) (IsItemOfDecl (record { ty = c.in_ok-typed.typed.ty; ty_span = c.in_ok-typed.typed.span; name = c.in_ok-name.name })) _ _ _
    (λ x r. (_, goes_both t.1 (goes_both n.1 r.1), record { suffixes = t.0; others = pair n.0 r.0; span = _; ty = _; parts = refl; typed_so = t.2; is = defined_meaning (typed c.args.base) t.0 n.0 r.0 _ _ _ _ t.2 n.2.1 n.2.2 ∙ r.2 }, omega (arith, t.3, n.3, r.3)))
    (λ h f. fails_right t.1 (fails_right n.1 f)) c.item_of_decl.ensures
