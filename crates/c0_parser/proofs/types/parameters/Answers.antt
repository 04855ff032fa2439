use Rattle.std.proofs.Common.{rules, ◌≡◌, [], ◌++◌, length, map, refl, sym, ap, ◌∙◌, arith}
use Rattle.c0_tree.specs.View.{decl_view}
use Rattle.c0_tokens.specs.declared.token.Mark.TheVariants.{Comma}
use Rattle.c0_parser.specs.Value.{none, decls, decls_in}
use Rattle.c0_parser.specs.Grammar.{◌▸◌, many, maybe, sign, the, decl}
use Rattle.c0_parser.specs.Contract.{as_seen}
use Rattle.c0_parser.specs.Views.{AreParams, AreMoreLines}
use Rattle.c0_parser.proofs.PieceSteps.{one_decl, goes_both, goes_with_at, goes_without, heads_then, heads_not, fails_left, fails_right, fails_with_at, exits_any, tails_any}
use Rattle.c0_parser.proofs.types.parameters.Goals as goal

pub returns-in_err-first-in-Some : goal.returns-in_err-first-in-Some
returns-in_err-first-in-Some c =
    let a = c.in-Some.ensures in
    exits_any (maybe (the decl ▸ many (sign Comma ▸ the decl))) AreParams _ _ _ c.from_residual.ensures.1
    (fails_with_at a.0 (heads_then (the decl) (many (sign Comma ▸ the decl)) (as_seen c.args.ts.now) a.1) (fails_left (many (sign Comma ▸ the decl)) c.in_err-first-in-Some.ensures))

pub returns-in_ok-push-in-Some : goal.returns-in_ok-push-in-Some
returns-in_ok-push-in-Some c =
    let a = c.in-Some.ensures in
    let b = c.in_ok-first-in-Some.ensures in
    let n : c.new-list.result.items ≡ [] = search rules in
    tails_any (maybe (the decl ▸ many (sign Comma ▸ the decl))) (many (sign Comma ▸ the decl)) AreParams (AreMoreLines c.push.new.self) _ _ _
    (λ x r. (
      _,
      goes_with_at a.0 (heads_then (the decl) (many (sign Comma ▸ the decl)) (as_seen c.args.ts.now) a.1) (goes_both b.1 r.1),
      ap (λ l. l ++ decls r.0) (ap decls_in b.2 ∙ sym (one_decl _ _ _ n c.in_ok-push-in-Some.ensures.items)) ∙ r.2,
      omega (arith, b.3, r.3, ap length a.0),
    ))
    (λ h f. fails_with_at a.0 (heads_then (the decl) (many (sign Comma ▸ the decl)) (as_seen c.args.ts.now) a.1) (fails_right b.1 f)) c.more_parameters.ensures

pub returns-in-None : goal.returns-in-None
returns-in-None c =
    let n : c.new.result.items ≡ [] = search rules in
    (none, goes_without _ _ (heads_not (the decl) (many (sign Comma ▸ the decl)) (as_seen c.args.ts.now) refl c.in-None.ensures), ap (map decl_view) (sym n), omega arith)
