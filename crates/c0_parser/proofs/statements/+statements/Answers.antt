-- Each statement and block is read, or refused, as the grammar's piece for it.
use Rattle.std.proofs.Common.{length, refl, sym, ap, ◌∙◌, arith}
use Rattle.c0_tokens.specs.declared.token.Mark.TheVariants.{Else, CloseBrace}
use Rattle.c0_parser.specs.Sorts.{mark}
use Rattle.c0_parser.specs.Value.{none}
use Rattle.c0_parser.specs.Grammar.{sign, ◌▸◌, the, many, block, statement}
use Rattle.c0_parser.specs.Contract.{as_seen}
use Rattle.c0_parser.specs.Views.{AreStmts, IsBlock}
use Rattle.c0_parser.specs.Stmts.{CHOICE, OTHERWISE, IsStmtOf, IsOtherwise}
use Rattle.c0_parser.proofs.PieceSteps.{goes_sign, goes_both, goes_the, goes_with, goes_without, goes_many, heads_at, mark_kind, heads_not, fails_the, fails_left, fails_right, fails_with, exits, exits_any, shorter}
use Rattle.c0_parser.proofs.PartsOfStatements.{choosing, other, listed, braced, stmt_by_choice, stmt_by_loop, stmt_by_assignment, fails_statement, begins_list, goes_further, fails_further}
use Rattle.c0_parser.proofs.statements.+statements.Goals as goal

pub statement-returns-then-next_is : goal.statement-returns-then-next_is
statement-returns-then-next_is t c = stmt_by_choice _ _ (sym c.next_is.ensures ∙ c.if-next_is.true) c.choice.ensures

pub statement-returns-then-next_is-2 : goal.statement-returns-then-next_is-2
statement-returns-then-next_is-2 t c = stmt_by_loop _ _ (sym c.next_is-2.ensures ∙ c.if-next_is-2.true) c.repetition.ensures

pub statement-returns-in-Some : goal.statement-returns-in-Some
statement-returns-in-Some t c = stmt_by_assignment _ _ _ (sym c.next_is.ensures ∙ c.if-next_is.false) (sym c.next_is-2.ensures ∙ c.if-next_is-2.false) c.in-Some.ensures c.assignment.ensures

pub statement-returns-in-None : goal.statement-returns-in-None
statement-returns-in-None t c = fails_statement _ c.in-None.ensures

pub choice-returns-in_err-yes : goal.choice-returns-in_err-yes
choice-returns-in_err-yes t c =
    let o = c.in_ok-test.ensures in
    exits CHOICE IsStmtOf _ _ _ c.from_residual-in_err-yes.ensures.1 (o.0.fails (the block ▸ OTHERWISE) _ (fails_left OTHERWISE c.in_err-yes.ensures))

pub choice-returns-in_err-no : goal.choice-returns-in_err-no
choice-returns-in_err-no t c =
    let o = c.in_ok-test.ensures in
    let y = c.in_ok-yes.ensures in
    exits CHOICE IsStmtOf _ _ _ c.from_residual-in_err-no.ensures.1 (o.0.fails (the block ▸ OTHERWISE) _ (fails_right y.1 c.in_err-no.ensures))

pub choice-returns : goal.choice-returns
choice-returns t c =
    let o = c.in_ok-test.ensures in
    let y = c.in_ok-yes.ensures in
    let n = c.in_ok-no.ensures in
    let g = o.0.goes (the block ▸ OTHERWISE) _ _ (goes_both y.1 n.1) in
    (g.0, g.1, g.2 ∙ choosing o.0.word c.in_ok-test.test c.in_ok-yes.yes c.in_ok-no.no _ _ _ o.0.at_word y.2 n.2 c.choice_of-stmt.ensures, omega (arith, o.1, y.3, n.3))

pub otherwise-returns-in_err-block : goal.otherwise-returns-in_err-block
otherwise-returns-in_err-block t c =
    let e = c.in-Some.ensures in
    exits_any OTHERWISE IsOtherwise _ _ _ c.from_residual.ensures.1 (fails_with (heads_at (sign Else ▸ the block) (mark Else) _ _ _ e.0 (mark_kind e.1) refl) (fails_right (goes_sign _ _ _ _ e.0 e.1) c.in_err-block.ensures))

pub otherwise-returns-in-Some : goal.otherwise-returns-in-Some
otherwise-returns-in-Some t c =
    let e = c.in-Some.ensures in
    let b = c.in_ok-block.ensures in
    (_, goes_with (heads_at (sign Else ▸ the block) (mark Else) _ _ _ e.0 (mark_kind e.1) refl) (goes_both (goes_sign _ _ _ _ e.0 e.1) b.1), other _ c.in_ok-block.block _ b.2, omega (arith, shorter _ _ _ e.0, b.3))

pub otherwise-returns : goal.otherwise-returns
otherwise-returns t c = (none, goes_without (sign Else ▸ the block) _ (heads_not (sign Else) (the block) (as_seen c.args.ts.now) refl c.in_default.ensures), refl, omega arith)

pub statements-loop-here-init : goal.statements-loop-here-init
statements-loop-here-init t c = (none, begins_list (the statement) _ _ c.read_so_far-stmts.ensures.rest, rw (c.read_so_far-stmts.ensures.value, c.new.ensures.items) refl, omega (arith, ap length c.read_so_far-stmts.ensures.rest))

pub statements-returns-in_err-stmt : goal.statements-returns-in_err-stmt
statements-returns-in_err-stmt t c =
    let i = c.loop-here.invariant in
    exits_any (many (the statement)) AreStmts _ _ _ c.from_residual.ensures.1 (fails_further (the statement) _ _ _ _ _ i.1 c.in-Some.ensures c.in_err-stmt.ensures)

pub statements-loop-here-preserved : goal.statements-loop-here-preserved
statements-loop-here-preserved t c =
    let i = c.loop-here.invariant in
    let s = c.in_ok-stmt.ensures in
    (_, goes_further (the statement) _ _ _ _ _ _ i.1 c.in-Some.ensures s.1, listed i.0 s.0 c.loop-here.stmts.items _ c.in_ok-stmt.stmt i.2 s.2 c.in_ok-push.ensures.items, omega (arith, i.3, s.3, ap length c.in-Some.ensures.0))

pub statements-returns : goal.statements-returns
statements-returns t c =
    let i = c.loop-here.invariant in
    (i.0, goes_many i.1 c.in_default.ensures, i.2, i.3)

pub braces-returns-in_err-opening : goal.braces-returns-in_err-opening
braces-returns-in_err-opening t c = exits (the block) IsBlock _ _ _ c.from_residual.ensures.1 (fails_the block (fails_left (many (the statement) ▸ sign CloseBrace) c.in_err-opening.ensures))

pub braces-returns-in_err-stmts : goal.braces-returns-in_err-stmts
braces-returns-in_err-stmts t c =
    let o = c.in_ok-opening.ensures in
    exits (the block) IsBlock _ _ _ c.from_residual-in_err-stmts.ensures.1 (fails_the block (fails_right o.1 (fails_left (sign CloseBrace) c.in_err-stmts.ensures)))

pub braces-returns-in_err-closing : goal.braces-returns-in_err-closing
braces-returns-in_err-closing t c =
    let o = c.in_ok-opening.ensures in
    let s = c.in_ok-stmts.ensures in
    exits (the block) IsBlock _ _ _ c.from_residual-in_err-closing.ensures.1 (fails_the block (fails_right o.1 (fails_right s.1 c.in_err-closing.ensures)))

pub braces-returns : goal.braces-returns
braces-returns t c =
    let o = c.in_ok-opening.ensures in
    let s = c.in_ok-stmts.ensures in
    let k = c.in_ok-closing.ensures in
    (_, goes_the block (goes_both o.1 (goes_both s.1 k.1)), braced _ _ _ _ _ _ o.2 s.2 k.2, omega (arith, o.3, s.3, k.3))
