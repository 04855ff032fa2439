-- Each iteration moves the first token of what is left to the end of the tokens so far.
use Rattle.std.proofs.Common.{◌++◌, length, map, sym, ◌∙◌, ap, arith}
use Rattle.c0_tokens.specs.Lexis.{is_asm_word}
use Rattle.c0_tokens.specs.Tokens.{lexeme_view, token_view}
use Rattle.c0_tokens.specs.Nesting.{depth_after}
use Rattle.c0_tokens.specs.View.{cut_view, depth_view}
use Rattle.c0_tokens.proofs.NextTokens.{IsFound, found, pushed, pushed_last, left, brackets_below, run_below}
use Rattle.c0_tokens.proofs.lexer.tokens.Goals as goal

pub overflow_sub-source : goal.overflow_sub-source
overflow_sub-source c =
    let f : IsFound (depth_view c.loop-tokens.depth) c.loop-tokens.after_asm c.loop-tokens.rest.now c.next_text-text.result.now (cut_view c.first_token-cut.result) (lexeme_view c.read-lexeme.result) =
    record { text_is = c.next_text-text.ensures.next; cut_is = c.first_token-cut.ensures; lexeme_is = c.read-lexeme.ensures } in
    omega (arith, (found (length c.args.source.now) f).text_within, c.loop-tokens.invariant.run)

pub overflow_sub-source-in-loop-tokens : goal.overflow_sub-source-in-loop-tokens
overflow_sub-source-in-loop-tokens c =
    let f : IsFound (depth_view c.loop-tokens.depth) c.loop-tokens.after_asm c.loop-tokens.rest.now c.next_text-text.result.now (cut_view c.first_token-cut.result) (lexeme_view c.read-lexeme.result) =
    record { text_is = c.next_text-text.ensures.next; cut_is = c.first_token-cut.ensures; lexeme_is = c.read-lexeme.ensures } in
    let s = found (length c.args.source.now) f in
    omega (arith, s.text_within, s.rest_within, c.loop-tokens.invariant.run)

pub returns-then-is_last : goal.returns-then-is_last
returns-then-is_last c =
    let f : IsFound (depth_view c.loop-tokens.depth) c.loop-tokens.after_asm c.loop-tokens.rest.now c.next_text-text.result.now (cut_view c.first_token-cut.result) (lexeme_view c.read-lexeme.result) =
    record { text_is = c.next_text-text.ensures.next; cut_is = c.first_token-cut.ensures; lexeme_is = c.read-lexeme.ensures } in
    let last = (found (length c.args.source.now) f).last (sym c.is_last.ensures ∙ c.if-is_last.true) in
    ap (map token_view) c.in_ok-push.ensures.items ∙ pushed_last token_view c.loop-tokens.tokens.items _ _ _ c.loop-tokens.invariant.whole last

pub loop-tokens-smaller : goal.loop-tokens-smaller
loop-tokens-smaller c =
    let f : IsFound (depth_view c.loop-tokens.depth) c.loop-tokens.after_asm c.loop-tokens.rest.now c.next_text-text.result.now (cut_view c.first_token-cut.result) (lexeme_view c.read-lexeme.result) =
    record { text_is = c.next_text-text.ensures.next; cut_is = c.first_token-cut.ensures; lexeme_is = c.read-lexeme.ensures } in
    (found (length c.args.source.now) f).shorter (sym c.is_last.ensures ∙ c.if-is_last.false)

pub loop-tokens-preserved : goal.loop-tokens-preserved
loop-tokens-preserved c =
    let size = length c.args.source.now in
    let f : IsFound (depth_view c.loop-tokens.depth) c.loop-tokens.after_asm c.loop-tokens.rest.now c.next_text-text.result.now (cut_view c.first_token-cut.result) (lexeme_view c.read-lexeme.result) =
    record { text_is = c.next_text-text.ensures.next; cut_is = c.first_token-cut.ensures; lexeme_is = c.read-lexeme.ensures } in
    let s = found size f in
    let open_ = sym c.is_last.ensures ∙ c.if-is_last.false in
    let shorter = s.shorter open_ in
    record {
      brackets = omega (arith, shorter, c.loop-tokens.invariant.brackets, brackets_below (depth_view c.loop-tokens.depth) (lexeme_view c.first_token-cut.result.lexeme), ap (λ d. d.brackets) c.after-depth.ensures);
      run = omega (arith, shorter, c.loop-tokens.invariant.run, run_below (depth_view c.loop-tokens.depth) (lexeme_view c.first_token-cut.result.lexeme), ap (λ d. d.run) c.after-depth.ensures);
      whole = ap (λ d. map token_view c.push.new.self.items ++ left size d c.is_asm-after_asm.result c.first_token-cut.result.rest.now) c.after-depth.ensures
          ∙ ap (λ b. map token_view c.push.new.self.items ++ left size (depth_after (depth_view c.loop-tokens.depth) (lexeme_view c.first_token-cut.result.lexeme)) b c.first_token-cut.result.rest.now) c.is_asm-after_asm.ensures
          ∙ ap (λ ts. map token_view ts ++ left size (depth_after (depth_view c.loop-tokens.depth) (lexeme_view c.first_token-cut.result.lexeme)) (is_asm_word (lexeme_view c.first_token-cut.result.lexeme)) c.first_token-cut.result.rest.now) c.in_ok-push.ensures.items
          ∙ pushed token_view c.loop-tokens.tokens.items _ _ _ _ c.loop-tokens.invariant.whole (s.more open_);
    }
