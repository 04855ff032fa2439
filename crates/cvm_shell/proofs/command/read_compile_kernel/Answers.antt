use Rattle.std.proofs.Common.{◌≡◌, rules}
use Rattle.std.specs.Prelude.{codes}
use Rattle.cvm_shell.proofs.WordsByPlaces.{four_texts}
use Rattle.cvm_shell.proofs.OneNumberSpelled.{words_of_kernel, words_of_one_kernel}
use Rattle.cvm_shell.proofs.command.read_compile_kernel.Goals as goal

pub returns-clause-found : goal.returns-clause-found
returns-clause-found c =
    let e = four_texts _ _ _ _ _ _ c.as_slice.ensures.value c.in-len4.len_at_least c.in-len4.len_below c.word-item.is c.kind-item.is c.source-item.is c.object-item.is in
    let word : c.as_str.result.now ≡ codes "compile" = search rules in
    let kind : c.as_str-2.result.now ≡ codes "kernel" = search rules in
    rw (c.as_str-3.ensures.value, c.as_str-4.ensures.value) (words_of_kernel _ _ _ _ _ e (rw c.as_str.ensures.value at word) (rw c.as_str-2.ensures.value at kind))

pub returns-clause-only : goal.returns-clause-only
returns-clause-only c =
    let e = four_texts _ _ _ _ _ _ c.as_slice.ensures.value c.in-len4.len_at_least c.in-len4.len_below c.word-item.is c.kind-item.is c.source-item.is c.object-item.is in
    rw (c.as_str-3.ensures.value, c.as_str-4.ensures.value) (words_of_one_kernel _ _ _ _ _ e)
