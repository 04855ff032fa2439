use Rattle.std.proofs.Common.{ℕ, ◌≡◌, ◌≤◌, List, Vec, Global, Ok, Err, length, map, refl, sym, ap, ◌∙◌, subst, arith}
use Rattle.std.specs.List.{All}
use Rattle.std.proofs.lemmas.List.{length-map}
use Rattle.std.proofs.lemmas.Result.{err_from_is_err_and}
use Rattle.layer_map.specs.declared.params.Params.{Params}
use Rattle.layer_map.specs.Map.{ParamsInRange}
use Rattle.c0_tree.specs.View.{unit_view}
use Rattle.boot_image.specs.Format.{most_user_words}
use Rattle.boot_image.specs.Parts.{ImageParts as Image}
use Rattle.boot_image.specs.Reading.{old_answer}
use Rattle.kernel_linker.specs.Linked.{linked, sizes_of}
use Rattle.kernel_linker.specs.Migrate.{migrate_answer}
use Rattle.kernel_linker.proofs.AcceptSteps.{unread_file, wanting, unread_source}
use Rattle.kernel_linker.proofs.MigrateSteps.{source_stops, image_is, made_anew, written_anew}
use Rattle.kernel_linker.proofs.migrating.migrate.Goals as goal

pub returns-in_err-old-clause-is : goal.returns-in_err-old-clause-is
returns-in_err-old-clause-is g c =
    let p = err_from_is_err_and c.from_residual.result c.from_residual.ensures.1 in
    unread_file (migrate_answer g.M.LayerMaker.made) (λ i. i) (old_answer c.args.bytes.now) c.from_residual.result p.0 c.in_err-old.field-0.0 p.1 p.2 c.in_err-old.ensures.is

pub returns-in_err-unit-clause-is : goal.returns-in_err-unit-clause-is
returns-in_err-unit-clause-is g c =
    let p = err_from_is_err_and c.from_residual-in_err-unit.result c.from_residual-in_err-unit.ensures.1 in
    let same : c.deref.result.now ≡ c.in_ok-old.old.source = cc (c.deref.ensures.value, ap (λ (i : Image). i.source) c.old.view_is) in
    unread_source (migrate_answer g.M.LayerMaker.made) (λ i. i) (old_answer c.args.bytes.now) c.in_ok-old.old c.from_residual-in_err-unit.result p.0 c.in_err-unit.field-0.0 c.deref.result.now (source_stops g.M.LayerMaker.made c.in_ok-old.old c.in_err-unit.field-0.0) c.in_ok-old.ensures.is p.1 p.2 c.in_err-unit.ensures.fault same

pub returns-in_err-code-clause-is : goal.returns-in_err-code-clause-is
returns-in_err-code-clause-is g c =
    let p = err_from_is_err_and c.from_residual-in_err-code.result c.from_residual-in_err-code.ensures.1 in
    wanting (migrate_answer g.M.LayerMaker.made) (λ i. i) (old_answer c.args.bytes.now) c.in_ok-old.old c.from_residual-in_err-code.result p.0 c.in_ok-old.ensures.is p.1 p.2

pub returns-in_err-joined-clause-is : goal.returns-in_err-joined-clause-is
returns-in_err-joined-clause-is g c =
    let p = err_from_is_err_and c.from_residual-in_err-joined.result c.from_residual-in_err-joined.ensures.1 in
    wanting (migrate_answer g.M.LayerMaker.made) (λ i. i) (old_answer c.args.bytes.now) c.in_ok-old.old c.from_residual-in_err-joined.result p.0 c.in_ok-old.ensures.is p.1 p.2

pub link_words-requires-clause-params : goal.link_words-requires-clause-params
link_words-requires-clause-params g c =
    let params : c.in_ok-old.old.params ≡ c.old.inside.params = cc (ap (λ (i : Image). i.params) c.old.view_is) in
    subst ParamsInRange params c.in_ok-old.ensures.spelled.0.spelled.system.params

pub link_words-requires-clause-few : goal.link_words-requires-clause-few
link_words-requires-clause-few g c =
    let users : map (λ (u : Vec ℕ Global). u.items) c.old.inside.users.items ≡ c.in_ok-old.old.users = cc (ap (λ (i : Image). i.users) c.old.view_is) in
    let lent : map (λ (u : Vec ℕ Global). u.items) c.deref-3.result.now ≡ c.in_ok-old.old.users = ap (map (λ (u : Vec ℕ Global). u.items)) c.deref-3.ensures.value ∙ users in
    let few : length c.in_ok-old.old.users ≤ 16 = c.in_ok-old.ensures.spelled.0.spelled.system.users in
    let len : length (map (λ (u : Vec ℕ Global). u.items) c.deref-3.result.now) ≡ length c.deref-3.result.now = length-map c.deref-3.result.now (λ (u : Vec ℕ Global). u.items) in
    omega (arith, ap (λ (us : List (List ℕ)). length us) lent)

pub link_words-requires-clause-short : goal.link_words-requires-clause-short
link_words-requires-clause-short g c =
    let params : c.in_ok-old.old.params ≡ c.old.inside.params = cc (ap (λ (i : Image). i.params) c.old.view_is) in
    let users : map (λ (u : Vec ℕ Global). u.items) c.old.inside.users.items ≡ c.in_ok-old.old.users = cc (ap (λ (i : Image). i.users) c.old.view_is) in
    let lent : map (λ (u : Vec ℕ Global). u.items) c.deref-3.result.now ≡ c.in_ok-old.old.users = ap (map (λ (u : Vec ℕ Global). u.items)) c.deref-3.ensures.value ∙ users in
    subst (λ (p : Params). All (λ u. length u ≤ most_user_words p.pages) (map (λ (u : Vec ℕ Global). u.items) c.deref-3.result.now)) params
    (subst (λ (us : List (List ℕ)). All (λ u. length u ≤ most_user_words c.in_ok-old.old.params.pages) us) (sym lent) c.in_ok-old.ensures.spelled.0.spelled.system.sizes)

pub returns-clause-is : goal.returns-clause-is
returns-clause-is g c =
    let same : c.deref.result.now ≡ c.in_ok-old.old.source = cc (c.deref.ensures.value, ap (λ (i : Image). i.source) c.old.view_is) in
    let params : c.old.inside.params ≡ c.in_ok-old.old.params = cc (ap (λ (i : Image). i.params) c.old.view_is) in
    let users : map (λ (u : Vec ℕ Global). u.items) c.old.inside.users.items ≡ c.in_ok-old.old.users = cc (ap (λ (i : Image). i.users) c.old.view_is) in
    let lent : map (λ (u : Vec ℕ Global). u.items) c.deref-3.result.now ≡ c.in_ok-old.old.users = ap (map (λ (u : Vec ℕ Global). u.items)) c.deref-3.ensures.value ∙ users in
    made_anew g.M.LayerMaker.made (old_answer c.args.bytes.now) c.in_ok-old.old _ (unit_view c.in_ok-unit.unit) c.deref.result.now c.in_ok-old.ensures.is c.in_ok-unit.ensures.found same
    (image_is g.M.LayerMaker.made c.in_ok-old.old (unit_view c.in_ok-unit.unit) c.old.inside.params c.old.inside.source.items c.in_ok-joined.joined.words.items (map (λ (u : Vec ℕ Global). u.items) c.old.inside.users.items) (map (λ (u : Vec ℕ Global). u.items) c.deref-3.result.now)
    params (ap (λ (i : Image). i.source) c.old.view_is) c.in_ok-joined.ensures.words users lent)

pub returns-clause-spelled : goal.returns-clause-spelled
returns-clause-spelled g c =
    let params : c.old.inside.params ≡ c.in_ok-old.old.params = cc (ap (λ (i : Image). i.params) c.old.view_is) in
    let users : map (λ (u : Vec ℕ Global). u.items) c.old.inside.users.items ≡ c.in_ok-old.old.users = cc (ap (λ (i : Image). i.users) c.old.view_is) in
    let lent : map (λ (u : Vec ℕ Global). u.items) c.deref-3.result.now ≡ c.in_ok-old.old.users = ap (map (λ (u : Vec ℕ Global). u.items)) c.deref-3.ensures.value ∙ users in
    written_anew g.M.LayerMaker.made c.in_ok-old.old _ (unit_view c.in_ok-unit.unit) c.in_ok-old.ensures.spelled.0
    (image_is g.M.LayerMaker.made c.in_ok-old.old (unit_view c.in_ok-unit.unit) c.old.inside.params c.old.inside.source.items c.in_ok-joined.joined.words.items (map (λ (u : Vec ℕ Global). u.items) c.old.inside.users.items) (map (λ (u : Vec ℕ Global). u.items) c.deref-3.result.now)
    params (ap (λ (i : Image). i.source) c.old.view_is) c.in_ok-joined.ensures.words users lent)
    c.in_ok-joined.ensures.least c.in_ok-joined.ensures.most
