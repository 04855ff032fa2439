use Rattle.std.proofs.Common.{ℕ, ◌≡◌, ◌≤◌, List, Vec, Global, Ok, Err, length, map, refl, sym, ap, ◌∙◌, subst, arith}
use Rattle.std.proofs.lemmas.List.{length-map}
use Rattle.std.proofs.lemmas.Result.{err_from_is_err_and}
use Rattle.layer_map.specs.declared.params.Params.{Params}
use Rattle.layer_map.specs.Map.{ParamsInRange}
use Rattle.c0_tree.specs.View.{unit_view}
use Rattle.boot_image.specs.Parts.{ImageParts as Image}
use Rattle.boot_image.specs.Reading.{answer}
use Rattle.kernel_linker.specs.Accept.{image_system, words_match, accept_answer}
use Rattle.kernel_linker.specs.Linked.{linked, sizes_of}
use Rattle.kernel_linker.proofs.AcceptSteps.{source_stops, unread_file, wanting, unread_source, forged_image, accepted_image, spelled_params, spelled_users, spelled_sizes}
use Rattle.kernel_linker.proofs.accepting.accept.Goals as goal

pub returns-in_err-image-clause-is : goal.returns-in_err-image-clause-is
returns-in_err-image-clause-is g c =
    let p = err_from_is_err_and c.from_residual.result c.from_residual.ensures.1 in
    unread_file (accept_answer g.M.LayerMaker.made) (λ a. image_system a.boot) (answer c.args.bytes.now) c.from_residual.result p.0 c.in_err-image.field-0.0 p.1 p.2 c.in_err-image.ensures.is

pub returns-in_err-unit-clause-is : goal.returns-in_err-unit-clause-is
returns-in_err-unit-clause-is g c =
    let p = err_from_is_err_and c.from_residual-in_err-unit.result c.from_residual-in_err-unit.ensures.1 in
    let same : c.deref.result.now ≡ c.in_ok-image.image.source = cc (c.deref.ensures.value, ap (λ (i : Image). i.source) c.image.view_is) in
    unread_source (accept_answer g.M.LayerMaker.made) (λ a. image_system a.boot) (answer c.args.bytes.now) c.in_ok-image.image c.from_residual-in_err-unit.result p.0 c.in_err-unit.field-0.0 c.deref.result.now (source_stops g.M.LayerMaker.made c.in_ok-image.image c.in_err-unit.field-0.0) c.in_ok-image.ensures.is p.1 p.2 c.in_err-unit.ensures.fault same

pub returns-in_err-code-clause-is : goal.returns-in_err-code-clause-is
returns-in_err-code-clause-is g c =
    let p = err_from_is_err_and c.from_residual-in_err-code.result c.from_residual-in_err-code.ensures.1 in
    wanting (accept_answer g.M.LayerMaker.made) (λ a. image_system a.boot) (answer c.args.bytes.now) c.in_ok-image.image c.from_residual-in_err-code.result p.0 c.in_ok-image.ensures.is p.1 p.2

pub returns-in_err-joined-clause-is : goal.returns-in_err-joined-clause-is
returns-in_err-joined-clause-is g c =
    let p = err_from_is_err_and c.from_residual-in_err-joined.result c.from_residual-in_err-joined.ensures.1 in
    wanting (accept_answer g.M.LayerMaker.made) (λ a. image_system a.boot) (answer c.args.bytes.now) c.in_ok-image.image c.from_residual-in_err-joined.result p.0 c.in_ok-image.ensures.is p.1 p.2

pub returns-in_err-check_words-clause-is : goal.returns-in_err-check_words-clause-is
returns-in_err-check_words-clause-is g c =
    let p = err_from_is_err_and c.from_residual-in_err-check_words.result c.from_residual-in_err-check_words.ensures.1 in
    let same : c.deref.result.now ≡ c.in_ok-image.image.source = cc (c.deref.ensures.value, ap (λ (i : Image). i.source) c.image.view_is) in
    let params : c.image.inside.params ≡ c.in_ok-image.image.params = cc (ap (λ (i : Image). i.params) c.image.view_is) in
    let users : map (λ (u : Vec ℕ Global). u.items) c.image.inside.users.items ≡ c.in_ok-image.image.users = cc (ap (λ (i : Image). i.users) c.image.view_is) in
    let lent : map (λ (u : Vec ℕ Global). u.items) c.deref-3.result.now ≡ c.in_ok-image.image.users = ap (map (λ (u : Vec ℕ Global). u.items)) c.deref-3.ensures.value ∙ users in
    let words : c.in_ok-joined.joined.words.items ≡ linked g.M.LayerMaker.made (unit_view c.in_ok-unit.unit) c.in_ok-image.image.params (sizes_of c.in_ok-image.image.users) =
    c.in_ok-joined.ensures.words ∙ (ap (λ (p : Params). linked g.M.LayerMaker.made (unit_view c.in_ok-unit.unit) p (sizes_of (map (λ (u : Vec ℕ Global). u.items) c.deref-3.result.now))) params
    ∙ ap (λ (us : List (List ℕ)). linked g.M.LayerMaker.made (unit_view c.in_ok-unit.unit) c.in_ok-image.image.params (sizes_of us)) lent) in
    forged_image g.M.LayerMaker.made (λ a. image_system a.boot) (answer c.args.bytes.now) c.in_ok-image.image c.from_residual-in_err-check_words.result p.0 c.in_err-check_words.field-0.0 (unit_view c.in_ok-unit.unit) c.deref.result.now c.deref-4.result.now
    c.in_ok-image.ensures.is p.1 p.2 c.in_ok-unit.ensures.found same c.in_err-check_words.ensures (c.deref-4.ensures.value ∙ words)

pub link_words-requires-clause-params : goal.link_words-requires-clause-params
link_words-requires-clause-params g c =
    let params : c.in_ok-image.image.params ≡ c.image.inside.params = cc (ap (λ (i : Image). i.params) c.image.view_is) in
    subst ParamsInRange params (spelled_params c.in_ok-image.image c.in_ok-image.ensures.spelled.0.spelled)

pub link_words-requires-clause-few : goal.link_words-requires-clause-few
link_words-requires-clause-few g c =
    let users : map (λ (u : Vec ℕ Global). u.items) c.image.inside.users.items ≡ c.in_ok-image.image.users = cc (ap (λ (i : Image). i.users) c.image.view_is) in
    let lent : map (λ (u : Vec ℕ Global). u.items) c.deref-3.result.now ≡ c.in_ok-image.image.users = ap (map (λ (u : Vec ℕ Global). u.items)) c.deref-3.ensures.value ∙ users in
    let few : length c.in_ok-image.image.users ≤ 64 = spelled_users c.in_ok-image.image c.in_ok-image.ensures.spelled.0.spelled in
    let len : length (map (λ (u : Vec ℕ Global). u.items) c.deref-3.result.now) ≡ length c.deref-3.result.now = length-map c.deref-3.result.now (λ (u : Vec ℕ Global). u.items) in
    omega (arith, ap (λ (us : List (List ℕ)). length us) lent)

pub link_words-requires-clause-short : goal.link_words-requires-clause-short
link_words-requires-clause-short g c =
    let params : c.in_ok-image.image.params ≡ c.image.inside.params = cc (ap (λ (i : Image). i.params) c.image.view_is) in
    let users : map (λ (u : Vec ℕ Global). u.items) c.image.inside.users.items ≡ c.in_ok-image.image.users = cc (ap (λ (i : Image). i.users) c.image.view_is) in
    let lent : map (λ (u : Vec ℕ Global). u.items) c.deref-3.result.now ≡ c.in_ok-image.image.users = ap (map (λ (u : Vec ℕ Global). u.items)) c.deref-3.ensures.value ∙ users in
    spelled_sizes c.in_ok-image.image c.image.inside.params _ c.in_ok-image.ensures.spelled.0.spelled params (sym lent)

pub returns-clause-is : goal.returns-clause-is
returns-clause-is g c =
    let same : c.deref.result.now ≡ c.in_ok-image.image.source = cc (c.deref.ensures.value, ap (λ (i : Image). i.source) c.image.view_is) in
    let params : c.image.inside.params ≡ c.in_ok-image.image.params = cc (ap (λ (i : Image). i.params) c.image.view_is) in
    let users : map (λ (u : Vec ℕ Global). u.items) c.image.inside.users.items ≡ c.in_ok-image.image.users = cc (ap (λ (i : Image). i.users) c.image.view_is) in
    let lent : map (λ (u : Vec ℕ Global). u.items) c.deref-3.result.now ≡ c.in_ok-image.image.users = ap (map (λ (u : Vec ℕ Global). u.items)) c.deref-3.ensures.value ∙ users in
    let words : c.in_ok-joined.joined.words.items ≡ linked g.M.LayerMaker.made (unit_view c.in_ok-unit.unit) c.in_ok-image.image.params (sizes_of c.in_ok-image.image.users) =
    c.in_ok-joined.ensures.words ∙ (ap (λ (p : Params). linked g.M.LayerMaker.made (unit_view c.in_ok-unit.unit) p (sizes_of (map (λ (u : Vec ℕ Global). u.items) c.deref-3.result.now))) params
    ∙ ap (λ (us : List (List ℕ)). linked g.M.LayerMaker.made (unit_view c.in_ok-unit.unit) c.in_ok-image.image.params (sizes_of us)) lent) in
    accepted_image g.M.LayerMaker.made (λ a. image_system a.boot) (answer c.args.bytes.now) c.in_ok-image.image _ (unit_view c.in_ok-unit.unit) c.deref.result.now c.in_ok-joined.joined.words.items (map (λ (u : Vec ℕ Global). u.items) c.image.inside.users.items) c.in_ok-check_words.field-0
    c.in_ok-image.ensures.is c.in_ok-unit.ensures.found same (c.in_ok-check_words.ensures ∙ ap (words_match c.in_ok-image.image) c.deref-4.ensures.value) words users (ap (λ (p : Params). record { params = p; unit = unit_view c.in_ok-unit.unit; words = c.in_ok-joined.joined.words.items; users = map (λ (u : Vec ℕ Global). u.items) c.image.inside.users.items }) params)
