-- After the word asm, a closing brace follows the opening one.
use Rattle.std.proofs.Common.{sym, ◌∙◌, ap, arith, ◌&&◌}
use Rattle.std.proofs.lemmas.Bool.Decides.{nat_tests}
use Rattle.c0_tokens.specs.Lexis.{is_unclosed}
use Rattle.c0_tokens.proofs.TokensShorten.{closed_after}
use Rattle.c0_tokens.proofs.lexer.first_token.Goals as goal

pub asm_cut-requires : goal.asm_cut-requires
asm_cut-requires c =
    rw c.after.ensures
    (closed_after c.args.text.now (let e = c.is_empty.ensures in let f = c.if-is_empty.false in grind (arith, nat_tests)) c.if-text-eq123.true
    (sym (ap (λ b. b && is_unclosed c.args.text.now) c.if-after_asm.true) ∙ c.requires))
