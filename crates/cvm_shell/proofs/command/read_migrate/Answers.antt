use Rattle.std.proofs.Common.{◌≡◌, rules}
use Rattle.std.specs.Prelude.{codes}
use Rattle.cvm_shell.proofs.WordsByPlaces.{three_texts}
use Rattle.cvm_shell.proofs.OneNumberSpelled.{words_of_migrate, words_of_one_migrate}
use Rattle.cvm_shell.proofs.command.read_migrate.Goals as goal

pub returns-clause-found : goal.returns-clause-found
returns-clause-found c =
    let e = three_texts _ _ _ _ _ c.as_slice.ensures.value c.in-len3.len_at_least c.in-len3.len_below c.word-item.is c.old-item.is c.image-item.is in
    let word : c.as_str.result.now ≡ codes "migrate" = search rules in
    rw (c.as_str-2.ensures.value, c.as_str-3.ensures.value) (words_of_migrate _ _ _ _ e (rw c.as_str.ensures.value at word))

pub returns-clause-only : goal.returns-clause-only
returns-clause-only c =
    let e = three_texts _ _ _ _ _ c.as_slice.ensures.value c.in-len3.len_at_least c.in-len3.len_below c.word-item.is c.old-item.is c.image-item.is in
    rw (c.as_str-2.ensures.value, c.as_str-3.ensures.value) (words_of_one_migrate _ _ _ _ e)
