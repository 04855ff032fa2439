use Rattle.std.proofs.Common.{[], ◌∷◌, ◌∙◌, drop, map, ℕ, List, Vec, Global}
use Rattle.cvm_outside.specs.Outside.{files as told_files}
use Rattle.layer_map.specs.Map.{Map}
use Rattle.std.proofs.lemmas.Result.{err_from_is_err_and}
use Rattle.cvm_shell.specs.Linked.{AreAcceptedAs, LinkIsAccepted}
use Rattle.run_scripts.specs.Plan.{Plan, AfterSystem}
use Rattle.cvm_shell.specs.Stages.{puts_made}
use Rattle.cvm_shell.specs.Views.{link_view}
use Rattle.cvm_shell.proofs.GotFiles.{all_come, all_stop, at, file_moved, fetched_moved}
use Rattle.cvm_shell.proofs.AcceptedAs.{if_ok}
use Rattle.cvm_shell.proofs.GotCalls.{are_both, stopped_then, gets_behind}
use Rattle.cvm_shell.proofs.linking.system_image.Goals as goal

-- what comes after the files: the object, the parameters and the users
abbrev after : (Map → List ℕ → List ℕ) → (name : List ℕ) → List (List ℕ) → Plan → Type 0
after layer name all = AfterSystem layer name (at all 0) (at all 1) (drop 2 all)

pub returns-in_err-object-clause-comes : goal.returns-in_err-object-clause-comes
returns-in_err-object-clause-comes g c =
    let p = err_from_is_err_and c.from_residual.result c.from_residual.ensures.1 in
    let l = link_view c.args.names.now in
    rw (p.1, p.2) (all_stop (told_files g.S.Shelf c.args.shelf.now) _ (l.object ∷ l.params ∷ l.users) (after g.M.LayerMaker.made l.image) c.in_err-object.field-0.0 c.in_err-object.ensures.stops (c.in_err-object.ensures.gets (l.params ∷ l.users)))

pub returns-in_err-params-clause-comes : goal.returns-in_err-params-clause-comes
returns-in_err-params-clause-comes g c =
    let p = err_from_is_err_and c.from_residual-in_err-params.result c.from_residual-in_err-params.ensures.1 in
    let l = link_view c.args.names.now in
    rw (p.1, p.2) (all_stop (told_files g.S.Shelf c.args.shelf.now) _ (l.object ∷ l.params ∷ l.users) (after g.M.LayerMaker.made l.image) c.in_err-params.field-0.0 c.in_err-params.ensures.stops
    (λ sink disk. stopped_then (l.object ∷ []) (l.params ∷ l.users) _ _ _ _ (c.in_ok-object.ensures.gets [] sink disk) (c.in_err-params.ensures.gets l.users sink disk)))

pub returns-in_err-users-clause-comes : goal.returns-in_err-users-clause-comes
returns-in_err-users-clause-comes g c =
    let p = err_from_is_err_and c.from_residual-in_err-users.result c.from_residual-in_err-users.ensures.1 in
    let l = link_view c.args.names.now in
    rw (p.1, p.2) (all_stop (told_files g.S.Shelf c.args.shelf.now) _ (l.object ∷ l.params ∷ l.users) (after g.M.LayerMaker.made l.image) c.in_err-users.field-0.0 c.in_err-users.ensures.stops
    (λ sink disk. stopped_then (l.object ∷ l.params ∷ []) l.users _ _ _ c.in_err-users.field-0.0
    (are_both (l.object ∷ []) _ _ (c.in_ok-object.ensures.gets [] sink disk) (l.params ∷ []) _ (c.in_ok-params.ensures.gets [] sink disk)) (c.in_err-users.ensures.gets sink disk)))

pub returns-clause-comes : goal.returns-clause-comes
returns-clause-comes g c =
    let l = link_view c.args.names.now in
    let told = g.S.Shelf.file c.args.shelf.now in
    let object = c.in_ok-object.object.items in
    let params = c.in_ok-params.params.items in
    let users = map (λ (b : Vec ℕ Global). b.items) c.in_ok-users.users.items in
    let o = c.in_ok-object.ensures.got in
    let q = file_moved (told l.params) _ params (c.in_ok-object.ensures.files l.params) c.in_ok-params.ensures.got in
    all_come (puts_made l.image) told (l.object ∷ l.params ∷ l.users) (object ∷ params ∷ users) (after g.M.LayerMaker.made l.image) c.linked_image.result
    (o.tells, o.short, (q.tells, q.short, fetched_moved told _ (λ n. c.in_ok-params.ensures.files n ∙ c.in_ok-object.ensures.files n) l.users users c.in_ok-users.ensures.got))
    (rw (c.deref.ensures.value, c.deref-2.ensures.value, c.deref-3.ensures.value) at (c.linked_image.ensures.comes l.image))

pub returns-clause-accepted : goal.returns-clause-accepted
returns-clause-accepted g c =
    let made = g.M.LayerMaker.made in
    let l = link_view c.args.names.now in
    let told = g.S.Shelf.file c.args.shelf.now in
    let object = c.in_ok-object.object.items in
    let params = c.in_ok-params.params.items in
    let users = map (λ (b : Vec ℕ Global). b.items) c.in_ok-users.users.items in
    let q = file_moved (told l.params) _ params (c.in_ok-object.ensures.files l.params) c.in_ok-params.ensures.got in
    if_ok (λ (v : Vec ℕ Global). AreAcceptedAs made object params users v.items) (λ (v : Vec ℕ Global). LinkIsAccepted made told l v.items)
    (λ v is. record {
      object = object;
      params = params;
      users = users;
      object_told = c.in_ok-object.ensures.got.tells;
      params_told = q.tells;
      users_told = fetched_moved told _ (λ n. c.in_ok-params.ensures.files n ∙ c.in_ok-object.ensures.files n) l.users users c.in_ok-users.ensures.got;
      accepted = is;
    }) c.linked_image.result (rw (c.deref.ensures.value, c.deref-2.ensures.value, c.deref-3.ensures.value) at c.linked_image.ensures.accepted)

pub returns-in_err-object-clause-gets : goal.returns-in_err-object-clause-gets
returns-in_err-object-clause-gets g c = λ sink disk.
    let p = err_from_is_err_and c.from_residual.result c.from_residual.ensures.1 in
    let l = link_view c.args.names.now in
    rw (p.1, p.2) (c.in_err-object.ensures.gets (l.params ∷ l.users) sink disk)

pub returns-in_err-params-clause-gets : goal.returns-in_err-params-clause-gets
returns-in_err-params-clause-gets g c = λ sink disk.
    let p = err_from_is_err_and c.from_residual-in_err-params.result c.from_residual-in_err-params.ensures.1 in
    let l = link_view c.args.names.now in
    rw (p.1, p.2) (stopped_then (l.object ∷ []) (l.params ∷ l.users) _ _ _ _ (c.in_ok-object.ensures.gets [] sink disk) (c.in_err-params.ensures.gets l.users sink disk))

pub returns-in_err-users-clause-gets : goal.returns-in_err-users-clause-gets
returns-in_err-users-clause-gets g c = λ sink disk.
    let p = err_from_is_err_and c.from_residual-in_err-users.result c.from_residual-in_err-users.ensures.1 in
    let l = link_view c.args.names.now in
    rw (p.1, p.2) (stopped_then (l.object ∷ l.params ∷ []) l.users _ _ _ c.in_err-users.field-0.0
    (are_both (l.object ∷ []) _ _ (c.in_ok-object.ensures.gets [] sink disk) (l.params ∷ []) _ (c.in_ok-params.ensures.gets [] sink disk)) (c.in_err-users.ensures.gets sink disk))

pub returns-clause-gets : goal.returns-clause-gets
returns-clause-gets g c = λ sink disk.
    let l = link_view c.args.names.now in
    gets_behind (l.object ∷ l.params ∷ l.users) _ _ c.linked_image.result
    (are_both (l.object ∷ l.params ∷ []) _ _ (are_both (l.object ∷ []) _ _ (c.in_ok-object.ensures.gets [] sink disk) (l.params ∷ []) _ (c.in_ok-params.ensures.gets [] sink disk)) l.users _ (c.in_ok-users.ensures.gets sink disk))
    c.linked_image.ensures.inside c.linked_image.ensures.short
