use Rattle.std.proofs.Common.{◌≡◌, ◌+◌, append_assoc, take_all, refl, sym, arith, ◌∙◌, ◌++◌, ◌∷◌, [], ℕ, suc, List, take, drop, ap, subst, rules}
use Rattle.std.specs.Prelude.{string_bytes}
use Rattle.std.specs.declared.string.String.{String}
use Rattle.std.specs.declared.alloc.Global.{Global}
use Rattle.std.proofs.lemmas.Result.{err_from_is_err_and}
use Rattle.cvm_outside.specs.Outside.{files}
use Rattle.run_scripts.specs.Command.{word_texts}
use Rattle.cvm_shell.proofs.GotFiles.{names_at, names_up_to, file_moved, got_more}
use Rattle.cvm_shell.specs.Does.{WereGot}
use Rattle.cvm_shell.proofs.GotCalls.{beside, none_got, are_both, stopped_then, wants_more}
use Rattle.cvm_shell.proofs.linking.get_all.Goals as goal

pub returns-in_err-file-clause-stops : goal.returns-in_err-file-clause-stops
returns-in_err-file-clause-stops g c = let p = err_from_is_err_and c.from_residual.result c.from_residual.ensures.1 in rw (p.1, p.2) c.in_err-file.ensures.stops

pub loop-name-preserved : goal.loop-name-preserved
loop-name-preserved g c =
    let told = g.S.Shelf.file c.args.shelf.now in
    let i = c.loop-name.name-index in
    let more : c.push.new.self.items ≡ c.loop-name.files.items ++ c.in_ok-file.file ∷ [] = search rules in
    let read = rw c.as_str.ensures.value at c.in_ok-file.ensures.got in
    let f = file_moved (told (string_bytes c.name-item.result)) _ c.in_ok-file.file.items (c.loop-name.invariant.files (string_bytes c.name-item.result)) read in
    record {
      files = λ n. c.in_ok-file.ensures.files n ∙ c.loop-name.invariant.files n;
      calls = λ sink disk.
          let next : suc i ≡ i + 1 = omega arith in
          let P : List (List ℕ) → Type 0 = λ ns. WereGot ns (beside sink disk (files g.S.Shelf c.args.shelf.now)) (beside sink disk (files g.S.Shelf c.get_file.new.shelf)) in
          subst P (sym (names_up_to c.args.names.now i c.name-item.result c.loop-name-test.true c.name-item.is) ∙ ap (λ (k : ℕ). word_texts (take k c.args.names.now)) next)
          (are_both (word_texts (take i c.args.names.now)) _ _ (c.loop-name.invariant.calls sink disk) (string_bytes c.name-item.result ∷ []) _
          (rw c.as_str.ensures.value at (c.in_ok-file.ensures.gets [] sink disk)));
      got = got_more told c.args.names.now c.loop-name.name-index c.name-item.result c.loop-name.files.items c.push.new.self.items c.in_ok-file.file c.loop-name-test.true c.name-item.is more c.loop-name.invariant.got f.tells f.short;
    }

pub returns-in_err-file-clause-gets : goal.returns-in_err-file-clause-gets
returns-in_err-file-clause-gets g c = λ sink disk.
    let p = err_from_is_err_and c.from_residual.result c.from_residual.ensures.1 in
    let i = c.loop-name.name-index in
    let names = names_at c.args.names.now i c.name-item.result c.loop-name-test.true c.name-item.is in
    let rest = word_texts (drop (suc i) c.args.names.now) in
    rw (p.1, p.2, names) (stopped_then (word_texts (take i c.args.names.now)) (string_bytes c.name-item.result ∷ rest) _ _ _ _ (c.loop-name.invariant.calls sink disk)
    (rw c.as_str.ensures.value at (c.in_err-file.ensures.gets rest sink disk)))

pub returns-then-is_err-clause-gets : goal.returns-then-is_err-clause-gets
returns-then-is_err-clause-gets g c = λ sink disk.
    let i = c.loop-name.name-index in
    let before = word_texts (take i c.args.names.now) in
    let name = string_bytes c.name-item.result in
    let rest = word_texts (drop (suc i) c.args.names.now) in
    wants_more (before ++ name ∷ []) rest (word_texts c.args.names.now) _ _
    (append_assoc before (name ∷ []) rest ∙ sym (names_at c.args.names.now i c.name-item.result c.loop-name-test.true c.name-item.is))
    (are_both before _ _ (c.loop-name.invariant.calls sink disk) (name ∷ []) _ (rw c.as_str.ensures.value at (c.in_ok-file.ensures.gets [] sink disk)))

pub returns-clause-gets : goal.returns-clause-gets
returns-clause-gets g c = λ sink disk.
    let P : List (String Global) → Type 0 = λ ns. WereGot (word_texts ns) (beside sink disk (files g.S.Shelf c.args.shelf.now)) (beside sink disk (files g.S.Shelf c.loop-name.shelf)) in
    subst P (take_all c.loop-name.name-index c.args.names.now c.loop-name-test.false) (c.loop-name.invariant.calls sink disk)

pub loop-name-init : goal.loop-name-init
loop-name-init g c = record {
  files = λ n. refl;
  calls = λ sink disk. none_got c.args.names.now _ c.requires;
  got = search rules;
}
