use Rattle.std.proofs.Common.{[], ◌∷◌, length, refl, ap, ◌∙◌, arith}
use Rattle.c0_parser.specs.Sorts.{mark}
use Rattle.c0_tokens.specs.declared.token.Mark.TheVariants.{Struct, Int, Bool as Boolean}
use Rattle.c0_tokens.specs.Tokens.{token_view}
use Rattle.c0_tree.specs.View.{name_view}
use Rattle.c0_parser.specs.Value.{token, pair}
use Rattle.c0_parser.specs.Contract.{as_seen}
use Rattle.c0_parser.specs.Grammar.{sign, ◌▸◌, ◌or◌, NAME, BASIC, FIELDS}
use Rattle.c0_parser.specs.Factored.{DEFINED, FACTORED, factored_value}
use Rattle.c0_parser.specs.Views.{IsItem, IsDefined, IsItemAfterName}
use Rattle.c0_parser.proofs.PieceSteps.{goes_sign, goes_both, goes_first_at, goes_second_heads, heads_then, heads_not, picks_not, mark_kind, fails_left, fails_right, fails_first_at, fails_second_heads, fails_by, refuses_second, refuses_left, refuses_one, seen_length, exits, shorter, tails}
use Rattle.c0_parser.proofs.PartsMean.{basic_is}
use Rattle.c0_parser.proofs.items.next_item.Goals as goal

pub returns-in_err-name : goal.returns-in_err-name
returns-in_err-name c =
    let e = c.in-Some.ensures in
    exits FACTORED IsItem _ _ _ c.from_residual.ensures.1
    (fails_first_at (sign Struct ▸ NAME ▸ (FIELDS or DEFINED)) (BASIC ▸ DEFINED) (mark Struct) e.0 (mark_kind e.1) refl refl (fails_right (goes_sign _ _ _ _ e.0 e.1) (fails_left (FIELDS or DEFINED) c.in_err-name.ensures)))

pub returns-in-Some : goal.returns-in-Some
returns-in-Some c =
    let e = c.in-Some.ensures in
    let n = c.in_ok-name.ensures in
    tails FACTORED (FIELDS or DEFINED) IsItem (IsItemAfterName (token_view c.in-Some.word) (name_view c.in_ok-name.name)) _ _ _
    (λ x r. (
      _,
      goes_first_at (sign Struct ▸ NAME ▸ (FIELDS or DEFINED)) (BASIC ▸ DEFINED) (mark Struct) e.0 (mark_kind e.1) refl refl (goes_both (goes_sign _ _ _ _ e.0 e.1) (goes_both n.1 r.1)),
      ap (λ z. factored_value (pair (token (token_view c.in-Some.word)) (pair z r.0))) n.2.1 ∙ r.2 n.2.0 n.2.2,
      omega (arith, shorter _ _ _ e.0, n.3, r.3),
    ))
    (λ h f. fails_first_at (sign Struct ▸ NAME ▸ (FIELDS or DEFINED)) (BASIC ▸ DEFINED) (mark Struct) e.0 (mark_kind e.1) refl refl (fails_right (goes_sign _ _ _ _ e.0 e.1) (fails_right n.1 f))) c.item_after_name.ensures

pub returns-in-Some-take_basic : goal.returns-in-Some-take_basic
returns-in-Some-take_basic c =
    let b = c.in-Some-take_basic.ensures in
    let h = heads_then BASIC DEFINED (as_seen c.args.ts.now) b.0 in
    tails FACTORED DEFINED IsItem (IsDefined c.in-Some-take_basic.base) _ _ _
    (λ x r. (
      _,
      goes_second_heads (sign Struct ▸ NAME ▸ (FIELDS or DEFINED)) (BASIC ▸ DEFINED) refl h (goes_both b.1.1 r.1),
      basic_is b.1.2.0 c.in-Some-take_basic.base x.0 b.1.0 r.0 b.1.2.1 b.1.2.2 r.2,
      omega (arith, b.1.3, r.3),
    ))
    (λ k f. fails_second_heads (sign Struct ▸ NAME ▸ (FIELDS or DEFINED)) (BASIC ▸ DEFINED) refl h (fails_right b.1.1 f)) c.defined.ensures

pub returns-in-None : goal.returns-in-None
returns-in-None c =
    let ts = as_seen c.args.ts.now in
    fails_by (length c.args.ts.now)
    (refuses_second (sign Struct ▸ NAME ▸ (FIELDS or DEFINED)) (picks_not (sign Struct ▸ NAME ▸ (FIELDS or DEFINED)) (BASIC ▸ DEFINED) ts (heads_not (sign Struct) (NAME ▸ (FIELDS or DEFINED)) ts refl c.in_default.ensures))
    (refuses_left DEFINED (refuses_one (mark Int) (mark Boolean ∷ []) ts c.in-None.ensures))) (seen_length _)
