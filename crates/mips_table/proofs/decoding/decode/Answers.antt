-- What decode answers is the decoding, so the laws of decoding and encoding are those of decode.
use Rattle.std.proofs.Common.{◌≡◌, sym, ap, ◌∙◌, subst}
use Rattle.std.specs.Option.{IfSome}
use Rattle.mips_table.specs.Encoding.{InRange, encoding}
use Rattle.mips_table.specs.Decoding.{inst_of, decoding}
use Rattle.mips_table.proofs.DecodingInverts.{decoding-encoding, encoding-decoding}
use Rattle.mips_table.proofs.decoding.decode.Goals as goal

value : (c : goal.After-inst_of) → c.inst_of.result ≡ decoding c.args.word
value c = c.inst_of.ensures ∙ ap inst_of c.split.ensures

pub returns-clause-found : goal.returns-clause-found
returns-clause-found c = subst (λ o. IfSome o (λ i. InRange i × (encoding i ≡ c.args.word))) (sym (value c)) (encoding-decoding c.args.word)

pub returns-clause-only : goal.returns-clause-only
returns-clause-only c = λ i h e. value c ∙ ap decoding (sym e) ∙ decoding-encoding i h
