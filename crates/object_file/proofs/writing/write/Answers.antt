-- The words of the object have 32 bits each, as those that were written.
use Rattle.std.proofs.Common.{◌≡◌, ◌<◌, ◌^◌, All, List, ℕ, ap, subst, ◌∙◌, arith}
use Rattle.std.proofs.lemmas.Grind.{common_steps}
use Rattle.object_file.specs.Parts.{ObjectParts}
use Rattle.object_file.proofs.writing.write.Goals as goal

pub returns-clause-spelled : goal.returns-clause-spelled
returns-clause-spelled c = grind (arith, common_steps)

pub returns-clause-read_back : goal.returns-clause-read_back
returns-clause-read_back c =
    let words : c.deref-2.result.now ≡ c.args.object.now.words = c.deref-2.ensures.value ∙ ap (λ (o : ObjectParts). o.words) c.object.view_is in
    let bits = subst (λ (ws : List ℕ). All (λ w. w < 2 ^ 32) ws) words c.push_words.ensures.bits in
    (record { source = c.requires.source; words = c.requires.words; bits = bits }, returns-clause-spelled c)
