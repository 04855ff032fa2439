-- What the number of a resolved struct's name finds.
use Rattle.std.proofs.Common.{◌≡◌, ℕ, zero, suc, ◌*◌, ◌%◌, ◌^◌, ◌≤◌, List, [], ◌∷◌, map, Option, Some, None, refl, sym, ap, ◌∙◌, subst, arith, get_or, rules}
use Rattle.std.specs.Prelude.{slice_get}
use Rattle.std.specs.List.{All}
use Rattle.std.proofs.lemmas.Nat.{mul-mod_first}
use Rattle.c0_tree.specs.Tree.{named, array, CName, CStruct, CFunction, CUnit}
use Rattle.c0_tree.specs.View.{type_view}
use Rattle.c0_tree.specs.declared.tree.CType as rust
use Rattle.c0_tree.specs.declared.tree.CType.TheFolds as folds
use Rattle.c0_meaning.specs.Ty as ty
use Rattle.c0_meaning.specs.Env.{Shape, Typed, shape_of, typed_of}
use Rattle.c0_meaning.specs.Words.{words, shape_fields}
use Rattle.c0_meaning.specs.Resolved.{IsResolved}
use Rattle.c0_meaning.specs.Sizes.{capped, struct_sizes}
use Rattle.c0_meaning.specs.Sound.{IsSizedStruct, AreSized, shapes}
use Rattle.c0_typed.specs.Seen.{env_at}
use Rattle.c0_meaning.proofs.SearchByName.{found_there, found_name, got_mapped}
use Rattle.c0_meaning.specs.Offsets.{offsets, struct_offsets}
use Rattle.c0_meaning.specs.TypedState.{types_of}

pub view_array : (t : _) (n : _) → type_view (rust.Array t n) ≡ array (type_view t.value) n
view_array t n = search (rules, folds.the_lemmas)

some_same : {B : Type 0} (x y : B) → Some x ≡ Some y → x ≡ y
some_same x y h = cc

-- a struct among structs, whose shape is this
record IsAt (us : List CStruct) (n : ℕ) (s : Shape) : Type 0 where
  at : CStruct
  got : slice_get us n ≡ Some at
  shape : shape_of at ≡ s

at_shape : (us : List CStruct) (n : ℕ) (s : Shape) → slice_get (map shape_of us) n ≡ Some s → IsAt us n s
at_shape [] n s h = cc
at_shape (u ∷ us) zero s h = record { at = u; got = refl; shape = some_same (shape_of u) s h }
at_shape (u ∷ us) (suc n) s h = let r = at_shape us n s h in record { at = r.at; got = r.got; shape = r.shape }

all_at : {A : Type 0} (P : A → Type 0) (xs : List A) (n : ℕ) (x : A) → All P xs → slice_get xs n ≡ Some x → P x
all_at P [] n x h e = cc
all_at P (y ∷ xs) zero x h e = subst P (some_same y x e) (h 0 y (omega arith))
all_at P (y ∷ xs) (suc n) x h e = all_at P xs n x (λ i d below. h (suc i) d (omega arith)) e

-- the struct of a resolved name, by its number
record IsStruct (us : List CStruct) (x : CName) : Type 0 where
  at : CStruct
  got : slice_get us x.number ≡ Some at
  same : at.name.text ≡ x.text

struct_of : (us : List CStruct) (x : CName) → IsResolved (map shape_of us) (named x) → IsStruct us x
struct_of us x r =
    let text : Shape → List ℕ = λ s. s.text in
    let a = at_shape us x.number r.1.0 (found_there text (map shape_of us) x.text x.number r.1.0 r.1.1) in
    record { at = a.at; got = a.got; same = ap text a.shape ∙ found_name text (map shape_of us) x.text x.number r.1.0 r.1.1 }

-- its words, which are no more than may be
pub struct_words_are : (us : List CStruct) (x : CName) (w : ℕ) → AreSized us → IsResolved (map shape_of us) (named x) → slice_get (struct_sizes (map shape_of us)) x.number ≡ Some w → w ≡ words (map shape_of us) (ty.named x.text)
struct_words_are us x w sized r h =
    let s = struct_of us x r in
    let z = all_at (IsSizedStruct (map shape_of us)) us x.number s.at sized s.got in
    let there = got_mapped (λ (t : Shape). capped (map shape_of us) (ty.named t.text)) (map shape_of us) x.number (shape_of s.at) (got_mapped shape_of us x.number s.at s.got) in
    let e : w ≡ capped (map shape_of us) (ty.named s.at.name.text) = some_same w _ (sym h ∙ there) in
    let small : words (map shape_of us) (ty.named s.at.name.text) ≤ 1048576 = z.small in
    let f : capped (map shape_of us) (ty.named s.at.name.text) ≡ words (map shape_of us) (ty.named s.at.name.text) = omega arith in
    e ∙ f ∙ ap (λ (t : List ℕ). words (map shape_of us) (ty.named t)) s.same

-- where its fields begin
pub fields_begin : (us : List CStruct) (x : CName) (lists : List (List ℕ)) → AreSized us → IsResolved (map shape_of us) (named x) → lists ≡ map (struct_offsets (map shape_of us)) us
    → get_or lists x.number [] ≡ offsets (map shape_of us) (types_of (shape_fields (map shape_of us) x.text))
fields_begin us x lists sized r told =
    let s = struct_of us x r in
    let z = all_at (IsSizedStruct (map shape_of us)) us x.number s.at sized s.got in
    let fields : map typed_of s.at.fields ≡ shape_fields (map shape_of us) x.text = sym z.first ∙ ap (shape_fields (map shape_of us)) s.same in
    let list : get_or lists x.number [] ≡ struct_offsets (map shape_of us) s.at = ap (λ (l : List (List ℕ)). get_or l x.number []) told ∙ got_is _ x.number _ (got_mapped (struct_offsets (map shape_of us)) us x.number s.at s.got) in
    list ∙ ap (λ (ds : List Typed). offsets (map shape_of us) (types_of ds)) fields
  where
    got_is : (xs : List (List ℕ)) (n : ℕ) (v : List ℕ) → slice_get xs n ≡ Some v → get_or xs n [] ≡ v
    got_is [] n v h = cc
    got_is (y ∷ xs) zero v h = some_same y v h
    got_is (y ∷ xs) (suc n) v h = got_is xs n v h

-- the bytes of an array
pub array_bytes : (b w n : ℕ) → b ≡ 4 * w % 2 ^ 32 → b * n % 2 ^ 32 ≡ 4 * (n * w) % 2 ^ 32
array_bytes b w n h =
    let e : 4 * w * n ≡ 4 * (n * w) = grind arith in
    ap (λ (k : ℕ). k * n % 2 ^ 32) h ∙ mul-mod_first (4 * w) n (2 ^ 32) ∙ ap (λ (k : ℕ). k % 2 ^ 32) e

-- the structs of what names stand for in a function are those of the unit
pub env_structs : (u : CUnit) (f : Option CFunction) → (env_at u f).structs ≡ shapes u
env_structs u None = refl
env_structs u (Some f) = refl
