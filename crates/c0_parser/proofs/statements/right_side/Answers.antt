-- A right side is read as the one of its three forms that the first two tokens tell.
use Rattle.std.proofs.Common.{refl, sym, ◌∙◌, arith}
use Rattle.c0_tokens.specs.declared.token.Mark.TheVariants.{New}
use Rattle.c0_parser.specs.Sorts.{mark}
use Rattle.c0_parser.specs.Grammar.{sign, ◌▸◌, ◌or◌, the, type, CALL, EXPR, RIGHT}
use Rattle.c0_parser.specs.Contract.{as_seen}
use Rattle.c0_parser.specs.Views.{IsRight}
use Rattle.c0_parser.proofs.PieceSteps.{goes_sign, goes_both, goes_first_at, goes_second, goes_second_not, goes_first, mark_kind, heads_not, fails_right, fails_first, fails_first_at, fails_second, fails_second_not, exits, shorter}
use Rattle.c0_parser.proofs.PartsOfStatements.{lifted}
use Rattle.c0_parser.proofs.statements.right_side.Goals as goal

pub returns-in_err-made : goal.returns-in_err-made
returns-in_err-made c =
    let e = c.in-Some.ensures in
    exits RIGHT IsRight _ _ _ c.from_residual.ensures.1 (fails_first_at (sign New ▸ the type) (CALL or EXPR) (mark New) e.0 (mark_kind e.1) refl refl (fails_right (goes_sign _ _ _ _ e.0 e.1) c.in_err-made.ensures))

pub returns-in-Some : goal.returns-in-Some
returns-in-Some c =
    let e = c.in-Some.ensures in
    let m = c.in_ok-made.ensures in
    (_, goes_first_at (sign New ▸ the type) (CALL or EXPR) (mark New) e.0 (mark_kind e.1) refl refl (goes_both (goes_sign _ _ _ _ e.0 e.1) m.1), (λ s p. rw m.2 refl), omega (arith, shorter _ _ _ e.0, m.3))

pub returns-then-starts_call : goal.returns-then-starts_call
returns-then-starts_call c =
    let n = heads_not (sign New) (the type) (as_seen c.args.ts.now) refl c.in_default.ensures in
    let q = sym c.starts_call.ensures ∙ c.if-starts_call.true in
    lifted CALL RIGHT IsRight IsRight (λ v. v) _ _ (λ v rest d. goes_second_not (sign New ▸ the type) n (goes_first EXPR q d)) (λ h d. fails_second_not (sign New ▸ the type) n (fails_first EXPR q d)) (λ x v i. i) c.call.ensures

pub returns-in_err-part : goal.returns-in_err-part
returns-in_err-part c =
    let n = heads_not (sign New) (the type) (as_seen c.args.ts.now) refl c.in_default.ensures in
    let q = sym c.starts_call.ensures ∙ c.if-starts_call.false in
    exits RIGHT IsRight _ _ _ c.from_residual-in_err-part.ensures.1 (fails_second_not (sign New ▸ the type) n (fails_second CALL q c.in_err-part.ensures))

pub returns : goal.returns
returns c =
    let n = heads_not (sign New) (the type) (as_seen c.args.ts.now) refl c.in_default.ensures in
    let q = sym c.starts_call.ensures ∙ c.if-starts_call.false in
    let p = c.in_ok-part.ensures in
    (_, goes_second_not (sign New ▸ the type) n (goes_second CALL q p.1), (λ s e. rw p.2 refl), p.3)
