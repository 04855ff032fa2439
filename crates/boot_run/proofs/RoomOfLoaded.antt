-- What a loaded run has room for.
use Rattle.std.proofs.Common.{◌≡◌, ℕ, zero, suc, ◌+◌, ◌<◌, ◌≤◌, List, [], ◌∷◌, length, map, refl, sym, ap, ◌∙◌, subst, arith}
use Rattle.std.specs.Prelude.{slice_index}
use Rattle.std.proofs.lemmas.List.{length-map}
use Rattle.c0_tree.specs.View.{unit_view, decl_view}
use Rattle.c0_meaning.specs.Env.{Shape, Typed, typed_of}
use Rattle.c0_meaning.specs.Words.{words, all_words}
use Rattle.c0_meaning.specs.Offsets.{offsets_from}
use Rattle.c0_meaning.specs.Sound.{shapes}
use Rattle.c0_meaning.specs.TypedState.{types_of}
use Rattle.layer_map.specs.Map.{Map, PartsInOrder, globals_at, memory_words}
use Rattle.layer_contract.specs.declared.boot.Boot.{Boot as Booted}
use Rattle.boot_run.specs.Placed.{LayoutHolds}

-- there is a place for each declaration, none behind the words of all
places_many : (structs : List Shape) (ds : List Typed) (at : ℕ) → length (offsets_from structs at (types_of ds)) ≡ length ds
places_many structs [] at = refl
places_many structs (d ∷ ds) at = let r = places_many structs ds (at + words structs d.ty) in omega (arith, r)

places_inside : (structs : List Shape) (ds : List Typed) (at i : ℕ) → i < length ds → slice_index (offsets_from structs at (types_of ds)) i ≤ at + all_words structs ds
places_inside structs [] at i lt = absurd (omega (arith, lt))
places_inside structs (d ∷ ds) at zero lt = omega arith
places_inside structs (d ∷ ds) at (suc i) lt = let r = places_inside structs ds (at + words structs d.ty) i (omega (arith, lt)) in omega (arith, r)

module _ (b : Booted) (m : Map) (offsets memory : List ℕ) (count : ℕ) (p : LayoutHolds b m offsets memory count) where
  pub many : length offsets ≡ length b.unit.globals.items
  many =
      let e = length-map (map decl_view b.unit.globals.items) typed_of in
      let f = length-map b.unit.globals.items decl_view in
      ap length p.globals ∙ places_many (shapes (unit_view b.unit)) (map typed_of (unit_view b.unit).globals) 0 ∙ e ∙ f

  pub inside : PartsInOrder m → (i : ℕ) → i < length offsets → globals_at m + slice_index offsets i < memory_words m
  inside order i lt =
      let words : m.global_words ≡ all_words (shapes (unit_view b.unit)) (map typed_of (unit_view b.unit).globals) = ap (λ (q : Map). q.global_words) p.map in
      let few : i < length (map typed_of (unit_view b.unit).globals) =
      subst (λ n. i < n) (ap length p.globals ∙ places_many (shapes (unit_view b.unit)) (map typed_of (unit_view b.unit).globals) 0) lt in
      let at : slice_index offsets i ≤ 0 + all_words (shapes (unit_view b.unit)) (map typed_of (unit_view b.unit).globals) =
      subst (λ (ps : List ℕ). slice_index ps i ≤ 0 + all_words (shapes (unit_view b.unit)) (map typed_of (unit_view b.unit).globals)) (sym p.globals)
      (places_inside (shapes (unit_view b.unit)) (map typed_of (unit_view b.unit).globals) 0 i few) in
      let a = order.globals in
      let h = order.heap in
      let s = order.stack in
      let t = order.tables in
      let f = order.frame_table in
      omega (arith, words, at, a, h, s, t, f)
