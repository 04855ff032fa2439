use Rattle.std.proofs.Common.{◌≡◌, ℕ, List, map, take}
use Rattle.cvm_outside.specs.Outside.{Output, Drive, files as told_files}
use Rattle.run_scripts.specs.Command.{word_texts}
use Rattle.cvm_shell.specs.Does.{WereGot}
use Rattle.cvm_shell.specs.Stages.{Fetched}
use Rattle.cvm_shell.proofs.GotCalls.{beside}
use Rattle.cvm_shell.proofs.linking.get_all.Given as goal

abbrev pub invariant-loop-name : goal.invariant-loop-name
invariant-loop-name g l = record {
  files : (n : List ℕ) → g.S.Shelf.file l.shelf n ≡ g.S.Shelf.file l.initial.shelf n;
  calls : (sink : Output) (disk : Drive) → WereGot (word_texts (take l.name-index l.names)) (beside sink disk (told_files g.S.Shelf l.initial.shelf)) (beside sink disk (told_files g.S.Shelf l.shelf));
  got : Fetched (g.S.Shelf.file l.initial.shelf) (word_texts (take l.name-index l.names)) (map (λ b. b.items) l.files.items);
}
