-- A whole system follows its layer: what is known of its layer's words and of its unit, put together.
use Rattle.std.proofs.Common.{◌≡◌, ℕ, ◌+◌, ◌-◌, List, ◌++◌, length, take, drop, refl, sym, ap, ap₂, ◌∙◌, subst, arith}
use Rattle.std.proofs.lemmas.List.{length-append, length-map}
use Rattle.std.proofs.Math.Seq.{take-append_seam, drop-append_seam}
use Rattle.mips_table.specs.Encoding.{encoding}
use Rattle.layer_map.specs.declared.params.Params.{Params}
use Rattle.layer_map.specs.Map.{Map, MapInRange, layer_words}
use Rattle.c0_tree.specs.declared.tree.Unit.{Unit as Source}
use Rattle.c0_tree.specs.Primitives.{kernel_primitives}
use Rattle.c0_tree.specs.Tree.{CUnit}
use Rattle.c0_tree.specs.View.{unit_view}
use Rattle.c0_meaning.specs.CallChain.{dispatch_number}
use Rattle.c0_meaning.specs.RunLaws.{ZeroHasWords}
use Rattle.c0_meaning.specs.Typed.{UnitsAreFaultless}
use Rattle.c0_meaning.specs.TypedState.{IsTypedState}
use Rattle.c0_meaning.specs.Unit.{IsChecked}
use Rattle.c0_unit.specs.Code.{code_words, unit_code, unit_words}
use Rattle.c0_unit.specs.Laws.{UnitsAreShort, UnitsHaveAddresses, UnitsStand}
use Rattle.cvm_model.specs.Cvm.{map_of}
use Rattle.cvm_model.specs.KernelMeaning.{UnitsAreKernels, kernel_meaning}
use Rattle.cvm_model.specs.Stands.{Site}
use Rattle.cvm_model.specs.TypedKernel.{UnitsStayTyped}
use Rattle.layer_contract.specs.declared.boot.Boot.{Boot as Booted}
use Rattle.layer_contract.specs.Boots.{BootFollows, boot_of}
use Rattle.layer_contract.specs.Calls.{CallsFollow}
use Rattle.layer_contract.specs.Follows.{MadeFor, site_of}
use Rattle.layer_contract.specs.Layer.{Laws, Linked, site_with}
use Rattle.unit_runs.specs.Follows.{IsWhole, LinkedBootsFollow, map_of_boot, user_words}
use Rattle.unit_runs.specs.Runs.{CompiledUnitsRun, IsLinked}
use Rattle.unit_runs.proofs.FirstCore.{core_fits, same_sizes, starts}

-- what the laws of units say, of the code and of its runs
pub record UnitLaws : Type 0 where
  pub faultless : UnitsAreFaultless
  pub zeros : ZeroHasWords
  pub short : UnitsAreShort
  pub placed : UnitsHaveAddresses
  pub stand : UnitsStand
  pub kernels : UnitsAreKernels
  pub stay : UnitsStayTyped
  pub run : CompiledUnitsRun
  pub calls : (s : Source) (y : Site) (sizes : List ℕ) → IsChecked (unit_view s) → IsLinked (unit_view s) y → Linked y.map sizes (take layer_words y.linked)
      → Laws y sizes → CallsFollow y (IsTypedState (unit_view s)) (kernel_meaning (unit_view s) y.map.params)

-- as many words as the code has
words_count : UnitLaws → (s : Source) → IsChecked (unit_view s) → length (unit_words (unit_view s)) ≡ code_words (unit_view s)
words_count law s checked =
    let first = dispatch_number (unit_view s) in
    let p = law.placed kernel_primitives s checked.well_formed first in
    length-map (unit_code (unit_view s) first) encoding ∙ (law.stand kernel_primitives (unit_view s) checked.well_formed first p.0 p.1).words

-- a map by its parts
abbrev pub map_with : Params → ℕ → ℕ → ℕ → Map
map_with p users code globals = record { params = p; users = users; code_words = code; global_words = globals }

-- words that begin with a layer's
module _ (image code words : List ℕ) (whole : length image ≡ layer_words) (linked : words ≡ image ++ code) where
  pub count : length words ≡ layer_words + length code
  count = ap (λ (ws : List ℕ). length ws) linked ∙ length-append image code ∙ ap (λ n. n + length code) whole

  pub front : take layer_words words ≡ image
  front = ap (λ (ws : List ℕ). take layer_words ws) linked ∙ ap (λ n. take n (image ++ code)) (sym whole) ∙ take-append_seam image code

  pub rear : drop layer_words words ≡ code
  rear = ap (λ (ws : List ℕ). drop layer_words ws) linked ∙ ap (λ n. drop n (image ++ code)) (sym whole) ∙ drop-append_seam image code

module _ (law : UnitLaws) (image sizes : List ℕ) (b : Booted) (w : IsWhole image sizes (map_of_boot b) b) where
  abbrev unit : CUnit
  unit = unit_view b.unit

  range : MapInRange (map_of_boot b)
  range =
      let typed = (law.faultless kernel_primitives unit).1 w.checked.well_formed.typed in
      let size : length (unit_words unit) ≡ code_words unit = words_count law b.unit w.checked in
      record {
        params = w.params;
        users = w.few_users;
        code_words = omega (arith, size, law.short unit, typed.nodes);
        global_words = typed.words;
      }

  module _ (linked : Linked (map_of_boot b) sizes image) (laws : Laws (site_with (map_of_boot b) image (unit_words unit)) sizes) where
    same_map : map_of_boot b ≡ map_of (boot_of b)
    same_map =
        let n : length b.words.items ≡ layer_words + length (unit_words unit) = count image (unit_words unit) b.words.items linked.whole w.linked in
        let code : length (unit_words unit) ≡ length b.words.items - layer_words = omega (arith, n) in
        ap₂ (λ users words. map_with b.params users words (map_of_boot b).global_words) (sym (length-map b.users.items (λ u. u.items))) code

    same_site : site_with (map_of_boot b) image (unit_words unit) ≡ site_of (boot_of b)
    same_site = ap₂ (λ (m : Map) (ws : List ℕ). let y : Site = record { map = m; linked = ws } in y) same_map (sym w.linked)

    made : MadeFor image sizes (map_of_boot b) (boot_of b)
    made = record {
      range = range;
      same_map = same_map;
      same_sizes = w.sizes_are ∙ same_sizes (user_words b);
      words = w.linked ∙ ap (λ (ws : List ℕ). image ++ ws) (sym (rear image (unit_words unit) b.words.items linked.whole w.linked));
      users = w.short_users;
      starts = λ input longest. starts unit b.params b.words.items (user_words b) input longest;
      fits = λ input longest room. core_fits law.zeros unit b.params b.words.items (user_words b) (length b.users.items) (length (unit_words unit)) (length-map b.users.items (λ u. u.items))
          input longest w.words w.short_users room;
    }

    at_site : IsLinked unit (site_of (boot_of b))
    at_site =
        let n : length b.words.items ≡ layer_words + length (unit_words unit) = count image (unit_words unit) b.words.items linked.whole w.linked in
        let size : length (unit_words unit) ≡ code_words unit = words_count law b.unit w.checked in
        record {
          range = subst MapInRange same_map range;
          code_words = omega (arith, n, size);
          global_words = refl;
          long = omega (arith, n);
          code = rear image (unit_words unit) b.words.items linked.whole w.linked;
        }

    variables : Linked (map_of (boot_of b)) sizes (take layer_words b.words.items)
    variables = subst (λ (m : Map). Linked m sizes (take layer_words b.words.items)) same_map
        (subst (λ (ws : List ℕ). Linked (map_of_boot b) sizes ws) (sym (front image (unit_words unit) b.words.items linked.whole w.linked)) linked)

    site_laws : Laws (site_of (boot_of b)) sizes
    site_laws = subst (λ (y : Site). Laws y sizes) same_site laws

    follows : BootFollows image sizes (map_of_boot b) b
    follows = record {
      made = made;
      meaning = law.kernels unit b.params;
      typed = law.stay unit (map_of_boot b) w.checked w.params;
      runs = law.run b.unit (site_of (boot_of b)) sizes w.checked at_site variables site_laws.primitives;
      calls = law.calls b.unit (site_of (boot_of b)) sizes w.checked at_site variables site_laws;
    }

-- over the map that is given
pub whole_follows : UnitLaws → LinkedBootsFollow
whole_follows law image sizes m b w linked laws =
    let there : IsWhole image sizes (map_of_boot b) b = subst (λ (n : Map). IsWhole image sizes n b) w.map_is w in
    let within : MapInRange m = subst MapInRange (sym w.map_is) (range law image sizes b there) in
    let variables : Linked (map_of_boot b) sizes image = subst (λ (n : Map). Linked n sizes image) w.map_is (linked within) in
    let size : length (unit_words (unit_view b.unit)) ≡ m.code_words = ap (λ (n : Map). n.code_words) (sym w.map_is) in
    let kept : Laws (site_with (map_of_boot b) image (unit_words (unit_view b.unit))) sizes =
    subst (λ (n : Map). Laws (site_with n image (unit_words (unit_view b.unit))) sizes) w.map_is (laws (unit_words (unit_view b.unit)) within size) in
    subst (λ (n : Map). BootFollows image sizes n b) (sym w.map_is) (follows law image sizes b there variables kept)
