-- The rows of all globals, one behind another.
use Rattle.std.proofs.Common.{◌≡◌, ◌≢◌, ℕ, zero, suc, ◌+◌, ◌*◌, ◌<◌, List, [], ◌∷◌, ◌++◌, length, map, Some, refl, sym, ap, ap₂, ◌∙◌, subst, arith, length-append}
use Rattle.std.specs.Prelude.{replicate, slice_index}
use Rattle.std.proofs.lemmas.List.{get_or_append_left, get_or-append-add}
use Rattle.c0_tree.specs.declared.tree.Decl.{Decl}
use Rattle.c0_tree.specs.declared.tree.Unit.{Unit as Source}
use Rattle.c0_tree.specs.Tree.{CUnit}
use Rattle.c0_tree.specs.View.{decl_view, unit_view}
use Rattle.c0_tree.specs.Primitives.{kernel_primitives}
use Rattle.c0_meaning.specs.Ty.{Ty}
use Rattle.c0_meaning.specs.Ty as ty
use Rattle.c0_meaning.specs.Env.{Shape, Typed, typed_of}
use Rattle.c0_meaning.specs.Form.{ty_view}
use Rattle.c0_meaning.specs.Words.{StructHolds, shape_fields, words, all_words, WordsAreThose}
use Rattle.c0_meaning.specs.Offsets.{offsets_from}
use Rattle.c0_meaning.specs.RunLaws.{scalars, all_scalars}
use Rattle.c0_meaning.specs.Sound.{shapes}
use Rattle.c0_meaning.specs.State.{C0State, region_value}
use Rattle.c0_meaning.specs.Value as value
use Rattle.c0_meaning.specs.Value.{Region, Location, Value, int, bool, null, at, group, Values, empty, part}
use Rattle.c0_meaning.specs.TypedState.{StoreTyping, store_typing, types_of, PointsTo, Fits, AllFit, AreParts}
use Rattle.c0_meaning.specs.Unit.{IsWellFormed}
use Rattle.c0_meaning.proofs.OpenedTypesHaveWords.{well_formed_loose}
use Rattle.layer_map.specs.Map.{Map, globals_at}
use Rattle.cvm_model.specs.Kernel.{part_offset, flat, flats, parts_of_value}
use Rattle.cvm_model.specs.Stands.{region_at, address_of, HoldsWords}
use Rattle.cvm_model.specs.Text.{global_row, globals_text}
use Rattle.boot_report.specs.Globals.{value_end, named_row, globals_rows, GlobalsTell}
use Rattle.boot_report.specs.Given.{offsets_of, GlobalRowsTell}

-- the words of types one after another
type_words : List Shape → List Ty → ℕ
type_words structs [] = 0
type_words structs (t ∷ ts) = words structs t + type_words structs ts

-- a struct has the words of its fields
AreOpened : List Shape → Type 0
AreOpened structs = (x : List ℕ) → words structs (ty.named x) ≡ type_words structs (types_of (shape_fields structs x))

declared_words : (structs : List Shape) (decls : List Typed) → all_words structs decls ≡ type_words structs (types_of decls)
unfolding type_words
declared_words structs [] = refl
declared_words structs (d ∷ rest) = ap (λ n. words structs d.ty + n) (declared_words structs rest)

-- as in a well formed unit
are_opened : WordsAreThose → (u : CUnit) → (loose : (x : List ℕ) → StructHolds (shapes u) x x → ⊥) → AreOpened (shapes u)
unfolding AreOpened
are_opened those u loose x = those.fields (shapes u) x (loose x) ∙ declared_words (shapes u) (shape_fields (shapes u) x)

-- a value has as many words as scalars
mutual
  flat_length : (address : Location → ℕ) (v : Value) → length (flat address v) ≡ scalars v
  flat_length address (int z) = refl
  flat_length address (bool b) = refl
  flat_length address null = refl
  flat_length address (at l) = refl
  flat_length address (group vs) = flats_length address vs

  flats_length : (address : Location → ℕ) (vs : Values) → length (flats address vs) ≡ all_scalars vs
  flats_length address empty = refl
  flats_length address (part v vs) = let a = flat_length address v in let b = flats_length address vs in omega (arith, length-append (flat address v) (flats address vs), a, b)

-- and as many as its type
module _ (structs : List Shape) (opened : AreOpened structs) (lay : StoreTyping) where
  replicated : (n : ℕ) (t : Ty) → type_words structs (replicate n t) ≡ n * words structs t
  unfolding type_words
  replicated zero t = omega arith
  replicated (suc n) t = let r = replicated n t in omega (arith, r)

  mutual
    unfolding type_words AreOpened

    value_words : (t : Ty) (v : Value) → Fits structs lay t v → scalars v ≡ words structs t
    value_words ty.int (int z) f = refl
    value_words ty.bool (bool b) f = refl
    value_words (ty.pointer t) null f = refl
    value_words (ty.pointer t) (at l) f = refl
    value_words (ty.named x) (group vs) f = values_words (types_of (shape_fields structs x)) vs f ∙ sym (opened x)
    value_words (ty.array t n) (group vs) f = values_words (replicate n t) vs f ∙ replicated n t
    value_words _ _ f = absurd f

    values_words : (ts : List Ty) (vs : Values) → AllFit structs lay ts vs → all_scalars vs ≡ type_words structs ts
    values_words [] empty f = refl
    values_words (t ∷ ts) (part v vs) f = let a = value_words t v f.0 in let b = values_words ts vs f.1 in omega (arith, a, b)
    values_words [] (part v vs) f = absurd f
    values_words (t ∷ ts) empty f = absurd f

left_holds : (memory : List ℕ) (a : ℕ) (xs ys : List ℕ) → HoldsWords memory a (xs ++ ys) → HoldsWords memory a xs
left_holds memory a xs ys h i lt = h i (omega (arith, lt, length-append xs ys)) ∙ get_or_append_left xs ys 0 i lt

right_holds : (memory : List ℕ) (a : ℕ) (xs ys : List ℕ) → HoldsWords memory a (xs ++ ys) → HoldsWords memory (a + length xs) ys
right_holds memory a xs ys h i lt =
    let d : a + length xs + i ≡ a + (length xs + i) = omega arith in
    ap (slice_index memory) d ∙ h (length xs + i) (omega (arith, lt, length-append xs ys)) ∙ get_or-append-add xs ys i 0

-- no target of a pointer stands at 0
far_from : (structs : List Shape) (lay : StoreTyping) (m : Map) (s : C0State) (l : Location) (t : Ty) → PointsTo structs lay l.region l.path t → address_of m s l ≢ 0
far_from structs lay m s l t p = by l.region l.path p
  where
    by : (region : Region) (path : List ℕ) → PointsTo structs lay region path t → 4 * (region_at m region + part_offset path (region_value region s)) ≢ 0
    by value.globals path p = λ e. omega (arith, e)
    by value.heap path p = λ e. omega (arith, e)
    by value.locals path p = absurd p

module _ (tell : GlobalsTell) (structs : List Shape) (opened : AreOpened structs) (lay : StoreTyping) (m : Map) (s : C0State) (memory : List ℕ) where
  abbrev address : Location → ℕ
  address = address_of m s

  -- the row of a global by the word that memory has at its place
  row_told : (t : Ty) (v : Value) (name : List ℕ) (a : ℕ) → Fits structs lay t v → HoldsWords memory a (flat address v) → named_row name (value_end (Some t) (slice_index memory a)) ≡ global_row name v
  row_told t v name a f h = by t v f h
    where
      told : (t : Ty) (v : Value) → Fits structs lay t v → 0 < length (flat address v) → HoldsWords memory a (flat address v) → named_row name (value_end (Some t) (slice_index memory a)) ≡ global_row name v
      told t v f some h =
          let e : a ≡ a + 0 = omega arith in
          ap (λ w. named_row name (value_end (Some t) w)) (ap (slice_index memory) e ∙ h 0 some) ∙ tell structs lay t v name address f (far_from structs lay m s)

      by : (t : Ty) (v : Value) → Fits structs lay t v → HoldsWords memory a (flat address v) → named_row name (value_end (Some t) (slice_index memory a)) ≡ global_row name v
      by ty.int (int z) f h = told ty.int (int z) f (omega arith) h
      by ty.bool (bool b) f h = told ty.bool (bool b) f (omega arith) h
      by (ty.pointer t) null f h = told (ty.pointer t) null f (omega arith) h
      by (ty.pointer t) (at l) f h = told (ty.pointer t) (at l) f (omega arith) h
      by (ty.named x) (group vs) f h = refl
      by (ty.array t n) (group vs) f h = refl
      by _ _ f h = absurd f

  -- the types of declarations
  abbrev types : List Decl → List Ty
  types decls = types_of (map typed_of (map decl_view decls))

  rows_told : (decls : List Decl) (vs : Values) (first place : ℕ) → AllFit structs lay (types decls) vs → HoldsWords memory (first + place) (flats address vs) →
      globals_rows decls memory first (offsets_from structs place (types decls)) ≡ globals_text (map (λ d. d.name.text) (map decl_view decls)) vs
  rows_told [] empty first place f h = refl
  rows_told [] (part v vs) first place f h = absurd f
  rows_told (e ∷ rest) empty first place f h = absurd f
  rows_told (e ∷ rest) (part v vs) first place f h =
      let long : length (flat address v) ≡ words structs (ty_view e.ty) = flat_length address v ∙ value_words structs opened lay (ty_view e.ty) v f.0 in
      let next : first + place + length (flat address v) ≡ first + (place + words structs (ty_view e.ty)) = omega (arith, long) in
      let behind : HoldsWords memory (first + (place + words structs (ty_view e.ty))) (flats address vs) =
      subst (λ n. HoldsWords memory n (flats address vs)) next (right_holds memory (first + place) (flat address v) (flats address vs) h) in
      ap₂ (λ a b. a ++ b) (row_told (ty_view e.ty) v e.name.bytes.items (first + place) f.0 (left_holds memory (first + place) (flat address v) (flats address vs) h))
      (rows_told rest vs first (place + words structs (ty_view e.ty)) f.1 behind)

region_told : GlobalsTell → WordsAreThose → (u : Source) (m : Map) (memory : List ℕ) (s : C0State) (objects : List Ty) (v : Value) → IsWellFormed kernel_primitives (unit_view u) →
    AreParts (shapes (unit_view u)) (store_typing (unit_view u) objects) (types_of (map typed_of (unit_view u).globals)) v → HoldsWords memory (globals_at m) (flat (address_of m s) v) →
    globals_rows u.globals.items memory (globals_at m) (offsets_of (unit_view u)) ≡ globals_text (map (λ d. d.name.text) (unit_view u).globals) (parts_of_value v)
region_told tell those u m memory s objects (group vs) formed are h =
    let opened = are_opened those (unit_view u) (well_formed_loose kernel_primitives (unit_view u) formed) in
    let e : globals_at m ≡ globals_at m + 0 = omega arith in
    rows_told tell (shapes (unit_view u)) opened (store_typing (unit_view u) objects) m s memory u.globals.items vs (globals_at m) 0 are
    (subst (λ n. HoldsWords memory n (flats (address_of m s) vs)) e h)
region_told tell those u m memory s objects _ formed are h = absurd are

pub global_rows_tell : GlobalsTell → WordsAreThose → GlobalRowsTell
global_rows_tell tell those u m memory s formed (objects, typed, declared) holds =
    region_told tell those u m memory s objects s.global_values formed typed.global_values holds
