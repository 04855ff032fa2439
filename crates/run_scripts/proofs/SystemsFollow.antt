-- An accepted system follows its layer, whether it stands in memory or not.
use Rattle.std.proofs.Common.{◌≡◌, ℕ, ◌+◌, ◌-◌, ◌*◌, ◌≤◌, List, ◌++◌, length, take, drop, refl, sym, ap, ap₂, ◌∙◌, subst, arith}
use Rattle.std.specs.Prelude.{All}
use Rattle.std.proofs.lemmas.List.{length-map}
use Rattle.std.proofs.lemmas.List.Elements.{All-map, All-append}
use Rattle.masm.specs.declared.registers.CodeAddresses.{CodeAddresses}
use Rattle.mips_table.specs.Encoding.{encoding}
use Rattle.mips_table.specs.Fits.{IsWord}
use Rattle.layer_map.specs.Map.{Map, MapInRange, ParamsInRange, layer_words}
use Rattle.c0_tree.specs.Primitives.{kernel_primitives}
use Rattle.c0_meaning.specs.CallChain.{dispatch_number}
use Rattle.c0_meaning.specs.RunLaws.{ZeroHasWords}
use Rattle.c0_meaning.specs.Typed.{UnitsAreFaultless}
use Rattle.c0_meaning.specs.TypedState.{IsTypedState}
use Rattle.c0_meaning.specs.Unit.{IsChecked}
use Rattle.c0_unit.specs.Code.{code_words, unit_code, unit_words}
use Rattle.c0_unit.specs.Laws.{UnitStands, UnitsAreShort, TreesHaveAddresses, UnitsStand}
use Rattle.cvm_model.specs.Cvm.{Boot, map_of}
use Rattle.cvm_model.specs.KernelMeaning.{UnitsAreKernels}
use Rattle.cvm_model.specs.Stands.{Site}
use Rattle.cvm_model.specs.TypedKernel.{UnitsStayTyped}
use Rattle.layer_contract.specs.Follows.{Follows, MadeFor, site_of}
use Rattle.layer_contract.specs.Layer.{Laws, Linked, site_with}
use Rattle.real_layer.specs.Image.{layer_image}
use Rattle.real_layer.specs.Laws.{ImageLaws, ImageLinked}
use Rattle.unit_runs.specs.Runs.{IsLinked, UnitsCallsFollow, UnitsRunOverLayers}
use Rattle.unit_runs.proofs.CompiledStands.{code_stands}
use Rattle.unit_runs.proofs.FirstCore.{boot_with, core_fits, same_sizes, starts}
use Rattle.unit_runs.proofs.WholeBoots.{count, front, map_with, rear}
use Rattle.kernel_linker.specs.Accept.{ImageSystem}
use Rattle.kernel_linker.specs.Linked.{map_for, pages_for, sizes_of}
use Rattle.user_c0.proofs.ImagesAreWords.{code_words as words_fit}
use Rattle.run_scripts.proofs.LinkedAreWords.{layer_words_fit}

-- what is booted of an accepted system, and its map
abbrev pub its_boot : ImageSystem → Boot
its_boot s = boot_with s.unit s.params s.words s.users

abbrev pub its_map : ImageSystem → Map
its_map s = map_for s.unit s.params (length s.users)

-- what the laws of units and of layers say
pub record UnitLaws : Type 0 where
  pub faultless : UnitsAreFaultless
  pub zeros : ZeroHasWords
  pub short : UnitsAreShort
  pub placed : TreesHaveAddresses
  pub stand : UnitsStand
  pub kernels : UnitsAreKernels
  pub stay : UnitsStayTyped
  pub run : UnitsRunOverLayers
  pub calls : UnitsCallsFollow
  pub linked : ImageLinked
  pub layer : ImageLaws

-- a whole system: a checked unit, parameters in range, at most 64 users of whole words that have room in their pages, and the layer's words with the
-- unit's code behind them
pub record IsWhole (s : ImageSystem) : Type 0 where
  pub checked : IsChecked s.unit
  pub params : ParamsInRange s.params
  pub few_users : length s.users ≤ 64
  pub short_users : All (λ words. length words ≤ 1024 * s.params.pages) s.users
  pub words : All (All IsWord) s.users
  pub linked : s.words ≡ layer_image (its_map s) (sizes_of s.users) ++ unit_words s.unit

module _ (law : UnitLaws) (s : ImageSystem) (w : IsWhole s) where
  stands : (p : CodeAddresses) × UnitStands s.unit (dispatch_number s.unit) p
  stands = let p = law.placed kernel_primitives s.unit w.checked.well_formed (dispatch_number s.unit) in (p.0, law.stand kernel_primitives s.unit w.checked.well_formed (dispatch_number s.unit) p.0 p.1)

  size : length (unit_words s.unit) ≡ code_words s.unit
  size = length-map (unit_code s.unit (dispatch_number s.unit)) encoding ∙ stands.1.words

  pub range : MapInRange (its_map s)
  range =
      let typed = (law.faultless kernel_primitives s.unit).1 w.checked.well_formed.typed in
      record { params = w.params; users = w.few_users; code_words = omega (arith, size, law.short s.unit, typed.nodes); global_words = typed.words }

  users_are : length (sizes_of s.users) ≡ length s.users
  users_are = length-map s.users (λ (words : List ℕ). pages_for (length words))

  variables : Linked (its_map s) (sizes_of s.users) (layer_image (its_map s) (sizes_of s.users))
  variables = law.linked (its_map s) (sizes_of s.users) range users_are

  all_words : length s.words ≡ layer_words + length (unit_words s.unit)
  all_words = count (layer_image (its_map s) (sizes_of s.users)) (unit_words s.unit) s.words variables.whole w.linked

  behind : drop layer_words s.words ≡ unit_words s.unit
  behind = rear (layer_image (its_map s) (sizes_of s.users)) (unit_words s.unit) s.words variables.whole w.linked

  before : take layer_words s.words ≡ layer_image (its_map s) (sizes_of s.users)
  before = front (layer_image (its_map s) (sizes_of s.users)) (unit_words s.unit) s.words variables.whole w.linked

  pub same_map : its_map s ≡ map_of (its_boot s)
  same_map =
      let code : length (unit_words s.unit) ≡ length s.words - layer_words = omega (arith, all_words) in
      ap (λ n. map_with s.params (length s.users) n (its_map s).global_words) code

  same_site : site_with (its_map s) (layer_image (its_map s) (sizes_of s.users)) (unit_words s.unit) ≡ site_of (its_boot s)
  same_site = ap₂ (λ (m : Map) (ws : List ℕ). let y : Site = record { map = m; linked = ws } in y) same_map (sym w.linked)

  made : MadeFor (layer_image (its_map s) (sizes_of s.users)) (sizes_of s.users) (its_map s) (its_boot s)
  made = record {
    range = range;
    same_map = same_map;
    same_sizes = same_sizes s.users;
    words = w.linked ∙ ap (λ (ws : List ℕ). layer_image (its_map s) (sizes_of s.users) ++ ws) (sym behind);
    users = w.short_users;
    starts = λ input longest. starts s.unit s.params s.words s.users input longest;
    fits = λ input longest room. core_fits law.zeros s.unit s.params s.words s.users (length s.users) (length (unit_words s.unit)) refl input longest w.words w.short_users room;
  }

  at_site : IsLinked s.unit (site_of (its_boot s))
  at_site = record {
    range = subst MapInRange same_map range;
    code_words = omega (arith, all_words, size);
    global_words = refl;
    long = omega (arith, all_words);
    code = behind;
  }

  its_variables : Linked (map_of (its_boot s)) (sizes_of s.users) (take layer_words s.words)
  its_variables = subst (λ (m : Map). Linked m (sizes_of s.users) (take layer_words s.words)) same_map
      (subst (λ (ws : List ℕ). Linked (its_map s) (sizes_of s.users) ws) (sym before) variables)

  -- the laws of its layer
  pub site_laws : Laws (site_of (its_boot s)) (sizes_of s.users)
  site_laws = subst (λ (y : Site). Laws y (sizes_of s.users)) same_site
      (law.layer (its_map s) (sizes_of s.users) (unit_words s.unit) (record { range = range; users = users_are; whole = refl }))

  -- THE SYSTEM FOLLOWS
  pub follows : Follows (IsTypedState s.unit) (layer_image (its_map s) (sizes_of s.users)) (sizes_of s.users) (its_map s) (its_boot s)
  follows =
      let p = law.placed kernel_primitives s.unit w.checked.well_formed (dispatch_number s.unit) in
      let stand = code_stands law.stand s.unit p.0 (site_of (its_boot s)) w.checked p.1 at_site in
      record {
        made = made;
        meaning = law.kernels s.unit s.params;
        typed = law.stay s.unit (its_map s) w.checked w.params;
        runs = law.run s.unit p.0 (site_of (its_boot s)) _ (sizes_of s.users) stand its_variables site_laws.primitives;
        calls = law.calls s.unit p.0 (site_of (its_boot s)) _ (sizes_of s.users) stand its_variables site_laws;
      }

  -- its words are words
  pub words_are : All IsWord s.words
  words_are =
      let pages : s.params.pages ≤ 1024 = w.params.pages in
      let sizes : All IsWord (sizes_of s.users) = All-map IsWord (λ (words : List ℕ). pages_for (length words)) s.users (λ i d lt. let few = w.short_users i d lt in omega (arith, few, pages)) in
      subst (λ (ws : List ℕ). All IsWord ws) (sym w.linked) (All-append IsWord (layer_image (its_map s) (sizes_of s.users)) (unit_words s.unit)
      (layer_words_fit (its_map s) (sizes_of s.users) range sizes) (words_fit (unit_code s.unit (dispatch_number s.unit)) stands.1.in_range))

  pub long : layer_words ≤ length s.words
  long = omega (arith, all_words)
