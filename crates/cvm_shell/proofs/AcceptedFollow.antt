-- What is accepted is a whole system over the layer that is made for it.
use Rattle.std.proofs.Common.{◌≡◌, ℕ, ◌*◌, ◌≤◌, min, List, ◌++◌, length, All, Result, Ok, Err, refl, sym, ap, ◌∙◌, subst, arith}
use Rattle.std.proofs.lemmas.List.{length-map}
use Rattle.layer_map.specs.Map.{Map, ParamsInRange}
use Rattle.layer_map.specs.declared.params.Params.{Params}
use Rattle.boot_image.specs.Format.{AreWords, IsInRange}
use Rattle.boot_image.specs.Parts.{ImageParts as Image}
use Rattle.boot_image.specs.declared.fault.ImageFault.{ImageFault}
use Rattle.c0_tree.specs.Tree.{CUnit}
use Rattle.c0_tree.specs.View.{unit_view}
use Rattle.c0_meaning.specs.Unit.{IsChecked}
use Rattle.c0_types.specs.declared.source_fault.SourceFault.{SourceFault}
use Rattle.c0_unit.specs.Code.{unit_words}
use Rattle.layer_contract.specs.declared.boot.Boot.{Boot as Booted}
use Rattle.cvm_words.specs.Reading.{◌>>=◌}
use Rattle.kernel_linker.specs.Accept.{ImageSystem, image_system, words_match, AcceptAnswers, accept_answer}
use Rattle.kernel_linker.specs.Linked.{linked, map_for, pages_for, sizes_of}
use Rattle.kernel_linker.specs.declared.fault.AcceptFault.{AcceptFault}
use Rattle.kernel_linker.specs.Laws.{ImageFits, SpelledImagesFit}
use Rattle.unit_runs.specs.Follows.{IsWhole, user_words}

-- a system is that of an image: its parameters and users, and the words that they are linked to with its unit
record IsOf (layer : Map → List ℕ → List ℕ) (i : Image) (s : ImageSystem) : Type 0 where
  params : s.params ≡ i.params
  users : s.users ≡ i.users
  words : s.words ≡ linked layer s.unit s.params (sizes_of s.users)

-- what stands behind a step that went well
behind : (step : Result (Unit {0}) AcceptFault) (t s : ImageSystem) → (step >>= λ same. Ok t) ≡ Ok s → t ≡ s
behind (Ok x) t s e = cc
behind (Err f) t s e = absurd (cc)

accepted_of : (layer : Map → List ℕ → List ℕ) (i : Image) (front : Result CUnit SourceFault) (s : ImageSystem) → accept_answer layer i front ≡ Ok s → IsOf layer i s
unfolding accept_answer
accepted_of layer i (Err f) s e = absurd (cc)
accepted_of layer i (Ok u) s e =
    let made : List ℕ = linked layer u i.params (sizes_of i.users) in
    let t : ImageSystem = record { params = i.params; unit = u; words = linked layer u i.params (sizes_of i.users); users = i.users } in
    subst (λ (y : ImageSystem). IsOf layer i y) (behind (words_match i made) t s e) (record { params = refl; users = refl; words = refl })

-- by what the bytes were read as
answered : {X : Type 0} (layer : Map → List ℕ → List ℕ) (view : X → ImageSystem) (r : Result Image ImageFault) (a : X) → ((i : Image) → r ≡ Ok i → IsInRange i)
    → AcceptAnswers layer view r (Ok a) → (i : Image) × IsInRange i × IsOf layer i (view a)
answered layer view (Ok i) a range h = (i, range i refl, accepted_of layer i h.0 (view a) h.2)
answered layer view (Err f) a range h = absurd (cc)

-- the words of a user that is short have room in its pages
has_room : (pages : ℕ) (users : List (List ℕ)) → All (λ words. length words ≤ min 65536 (1024 * pages)) users → All (λ words. length words ≤ 1024 * pages) users
has_room pages users h = λ i d below. let few = h i d below in omega (arith, few)

-- the layer's words, and the unit's code behind them
joined : (layer : Map → List ℕ → List ℕ) (u : CUnit) (p : Params) (users : List (List ℕ)) → linked layer u p (sizes_of users) ≡ layer (map_for u p (length users)) (sizes_of users) ++ unit_words u
unfolding linked
joined layer u p users = ap (λ (n : ℕ). layer (map_for u p n) (sizes_of users) ++ unit_words u) (length-map users (λ (words : List ℕ). pages_for (length words)))

-- the users of a system are as short as those of its image
short_in : (layer : Map → List ℕ → List ℕ) (i : Image) (s : ImageSystem) → ImageFits i → IsOf layer i s → All (λ words. length words ≤ min 65536 (1024 * s.params.pages)) s.users
short_in layer i s fits of_image =
    subst (λ (p : Params). All (λ words. length words ≤ min 65536 (1024 * p.pages)) s.users) (sym of_image.params)
    (subst (λ (us : List (List ℕ)). All (λ words. length words ≤ min 65536 (1024 * i.params.pages)) us) (sym of_image.users) fits.short)

pub whole : SpelledImagesFit → {X : Type 0} (layer : Map → List ℕ → List ℕ) (view : X → ImageSystem) (r : Result Image ImageFault) (a : X) (b : Booted) (image sizes : List ℕ) (m : Map)
    → ((i : Image) → r ≡ Ok i → IsInRange i) → AcceptAnswers layer view r (Ok a) → view a ≡ image_system b → IsChecked (unit_view b.unit)
    → m ≡ map_for (unit_view b.unit) b.params (length b.users.items) → sizes ≡ sizes_of (user_words b) → image ≡ layer m sizes → IsWhole image sizes m b
whole law layer view r a b image sizes m range h same checked map_is sizes_are image_is =
    let found = answered layer view r a range h in
    let of_image : IsOf layer found.0 (image_system b) = subst (λ (s : ImageSystem). IsOf layer found.0 s) same found.2 in
    let fits : ImageFits found.0 = law found.0 found.1.spelled in
    let users : length found.0.users ≤ 64 = fits.few in
    let count : length (user_words b) ≡ length b.users.items = length-map b.users.items (λ u. u.items) in
    let made : layer m sizes ≡ layer (map_for (unit_view b.unit) b.params (length (user_words b))) (sizes_of (user_words b)) =
    ap (λ (n : Map). layer n sizes) (map_is ∙ ap (λ (n : ℕ). map_for (unit_view b.unit) b.params n) (sym count)) ∙ ap (layer (map_for (unit_view b.unit) b.params (length (user_words b)))) sizes_are in
    record {
      checked = checked;
      params = subst ParamsInRange (sym of_image.params) fits.params;
      few_users = let n : length (user_words b) ≡ length found.0.users = ap (λ (us : List (List ℕ)). length us) of_image.users in omega (arith, n, users, count);
      map_is = map_is;
      sizes_are = sizes_are;
      linked = of_image.words ∙ (joined layer (unit_view b.unit) b.params (user_words b) ∙ ap (λ (ws : List ℕ). ws ++ unit_words (unit_view b.unit)) (sym (image_is ∙ made)));
      short_users = has_room b.params.pages (user_words b) (short_in layer found.0 (image_system b) fits of_image);
      words = subst (λ (us : List (List ℕ)). All AreWords us) (sym of_image.users) found.1.user_bits;
    }
