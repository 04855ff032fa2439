-- The data of a state, word by word: its regions are held where their words stand.
use Rattle.std.proofs.Common.{◌≡◌, ℕ, ◌+◌, ◌*◌, List, [], ◌∷◌, map, refl, ap, ◌∙◌, arith}
use Rattle.c0_tree.specs.Tree.{CUnit}
use Rattle.c0_meaning.specs.Ty.{Ty}
use Rattle.c0_meaning.specs.Env.{Typed, Shape, typed_of}
use Rattle.c0_meaning.specs.Words.{words, all_words}
use Rattle.c0_meaning.specs.Sound.{shapes}
use Rattle.c0_meaning.specs.State.{C0State}
use Rattle.c0_meaning.specs.Value.{Region, globals, heap, locals, Location}
use Rattle.c0_meaning.specs.TypedState.{types_of, PointsTo, store_typing, IsTypedWith}
use Rattle.c0_expr_runs.specs.Laws.{IsOpened}
use Rattle.c0_expr_runs.specs.Bases.{Bases, words_of_all, location_word}
use Rattle.c0_runs.specs.Standing.{unit_scope}
use Rattle.layer_map.specs.Map.{Map, globals_at, heap_at}
use Rattle.cvm_model.specs.Stands.{address_of}
use Rattle.unit_runs.specs.Held.{AreOnMap, IsHeldFlat, HeldIsFlat}
use Rattle.unit_runs.proofs.HeldStandAsWords.{within_region, region_words, region_both}

words_by_types : (structs : List Shape) (decls : List Typed) → words_of_all structs (types_of decls) ≡ all_words structs decls
words_by_types structs [] = refl
words_by_types structs (d ∷ rest) = ap (λ n. words structs d.ty + n) (words_by_types structs rest)

module _ (u : CUnit) (m : Map) (p : Bases) (s : C0State) (opened : IsOpened (shapes u)) (on : AreOnMap m p) (typed : IsTypedWith u p.objects s) where
  -- a pointer's address is that of its location's word
  addresses : (l : Location) (t : Ty) → PointsTo (shapes u) (store_typing u p.objects) l.region l.path t → address_of m s l ≡ 4 * location_word (unit_scope u) p l
  addresses l t h = by_region l.region l.path t h
    where
      by_region : (r : Region) (path : List ℕ) (t : Ty) → PointsTo (shapes u) (store_typing u p.objects) r path t → address_of m s (record { region = r; path = path }) ≡ 4 * location_word (unit_scope u) p (record { region = r; path = path })
      by_region globals path t h =
          let a = within_region (shapes u) opened (store_typing u p.objects) (types_of (map typed_of u.globals)) path t s.global_values typed.global_values h in
          let b = on.globals in
          omega (arith, a, b)
      by_region heap path t h =
          let a = within_region (shapes u) opened (store_typing u p.objects) p.objects path t s.heap_values typed.heap_values h in
          let b = on.heap in
          omega (arith, a, b)
      by_region locals path t h = absurd h

  is_flat : IsHeldFlat u m p s
  is_flat = record {
    globals = λ words. region_both (unit_scope u) p (store_typing u p.objects) opened (address_of m s) addresses words (globals_at m) (types_of (map typed_of u.globals)) s.global_values typed.global_values;
    heap = λ words. region_both (unit_scope u) p (store_typing u p.objects) opened (address_of m s) addresses words (heap_at m) p.objects s.heap_values typed.heap_values;
    global_words = region_words (shapes u) opened (store_typing u p.objects) (types_of (map typed_of u.globals)) s.global_values typed.global_values ∙ words_by_types (shapes u) (map typed_of u.globals);
    heap_words = region_words (shapes u) opened (store_typing u p.objects) p.objects s.heap_values typed.heap_values;
  }

pub held_is_flat : HeldIsFlat
held_is_flat u m p s opened on typed = is_flat u m p s opened on typed
