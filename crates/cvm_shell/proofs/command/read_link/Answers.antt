use Rattle.std.proofs.Common.{◌≡◌, refl, rules}
use Rattle.std.specs.Prelude.{codes}
use Rattle.cvm_shell.proofs.WordsByPlaces.{more_texts}
use Rattle.cvm_shell.proofs.OneNumberSpelled.{words_of_link}
use Rattle.cvm_shell.proofs.command.read_link.Goals as goal

pub returns-clause-found : goal.returns-clause-found
returns-clause-found c =
    let e = more_texts c.args.words.now.items c.as_slice.result.now _ _ _ _ _ c.as_slice.ensures.value c.in-len4-up.len_at_least c.word-item.is c.object-item.is c.params-item.is c.image-item.is refl in
    let word : c.as_str.result.now ≡ codes "link" = search rules in
    rw (c.as_str-2.ensures.value, c.as_str-3.ensures.value, c.as_str-4.ensures.value) (words_of_link _ _ _ _ _ _ e (rw c.as_str.ensures.value at word))
