use Rattle.std.proofs.Common.{◌≡◌, ◌*◌, ◌/◌, length, drop, sym, ap, ◌∙◌, arith}
use Rattle.std.proofs.lemmas.List.{take_at}
use Rattle.cvm_words.proofs.BytesOfWords.{read_words, words_spelled}
use Rattle.cvm_words.proofs.bytes.read_words.Goals as goal

pub returns-clause-words : goal.returns-clause-words
returns-clause-words c =
    let words = c.read_u32_into.new.dst in
    let counted : length c.deref_mut.result.now ≡ c.in_ok-words.words.len = ap length c.deref_mut.ensures.value ∙ sym c.in_ok-words.words.ok.0 in
    let count : length words ≡ c.in_ok-words.words.len = omega arith in
    let many = c.in_ok-words.ensures.len in
    let even : length c.args.bytes.now ≡ 4 * length words = omega (arith, many) in
    take_at words (drop (length words) c.in_ok-words.words.items) c.in_ok-words.words.len count ∙ read_words words c.args.bytes.now even c.read_u32_into.ensures

pub returns-clause-spelled : goal.returns-clause-spelled
returns-clause-spelled c = words_spelled c.args.bytes.now _ (λ i. omega (arith, c.type_inv.bytes i)) (omega arith) (returns-clause-words c)
