-- What sizes need to know of types of few words, and of the table of the words of structs.
use Rattle.std.proofs.Common.{◌≡◌, ℕ, zero, suc, ◌+◌, ◌*◌, ◌<◌, ◌≤◌, min, List, [], ◌∷◌, length, map, Some, refl, sym, ap, ◌∙◌, subst, arith, get_or, drop}
use Rattle.std.proofs.lemmas.List.{get_or-map, length-map, drop_all, drop_more}
use Rattle.std.specs.Prelude.{slice_get}
use Rattle.std.specs.List.{All}
use Rattle.c0_tree.specs.declared.tree.StructDef.{StructDef}
use Rattle.c0_tree.specs.declared.tree.Decl.{Decl}
use Rattle.c0_tree.specs.declared.tree.Function.{Function}
use Rattle.c0_tree.specs.View.{struct_view, decl_view, type_view, function_view}
use Rattle.c0_tree.specs.Tree.{named, CName, CDecl, CFunction}
use Rattle.c0_meaning.specs.Ty.{ty_of}
use Rattle.c0_meaning.specs.Ty as ty
use Rattle.c0_meaning.specs.Env.{Shape, shape_of, typed_of}
use Rattle.c0_meaning.specs.Words.{words, all_words}
use Rattle.c0_meaning.specs.Resolved.{IsResolved}
use Rattle.c0_meaning.specs.Sizes.{WORDS_CAP, capped, struct_sizes}
use Rattle.c0_meaning.specs.Sound.{IsSized, IsSizedFunction}
use Rattle.c0_meaning.proofs.CappedProducts.{capped_product}
use Rattle.c0_meaning.proofs.SearchByName.{found_below, found_there, found_name, got_mapped}

shapes_length : (items : List StructDef) → length (map shape_of (map struct_view items)) ≡ length items
shapes_length [] = refl
shapes_length (s ∷ rest) = ap suc (shapes_length rest)

-- a resolved name has the number of a struct
pub struct_below : (items : List StructDef) (x : CName) → IsResolved (map shape_of (map struct_view items)) (named x) → x.number < length items
struct_below items x r =
    let e = shapes_length items in
    let below = found_below (λ s. s.text) (map shape_of (map struct_view items)) x.text x.number r.1.0 r.1.1 in
    omega arith

same_some : (m n : ℕ) → Some m ≡ Some n → m ≡ n
same_some m n h = cc

-- the table tells the words of the struct of a resolved name
pub struct_told : (structs : List Shape) (x : CName) (w : ℕ) → IsResolved structs (named x) → slice_get (struct_sizes structs) x.number ≡ Some w → w ≡ capped structs (ty.named x.text)
struct_told structs x w r h =
    let s : Shape = r.1.0 in
    let there = got_mapped (λ (s : Shape). capped structs (ty.named s.text)) structs x.number s (found_there (λ s. s.text) structs x.text x.number s r.1.1) in
    same_some w (capped structs (ty.named s.text)) (sym h ∙ there)
    ∙ ap (λ (t : List ℕ). capped structs (ty.named t)) (found_name (λ s. s.text) structs x.text x.number s r.1.1)

-- the words of an array by those of its element
pub array_told : (structs : List Shape) (t : ty.Ty) (n : ℕ) → min (min (capped structs t * n) 4294967295) WORDS_CAP ≡ capped structs (ty.array t n)
array_told structs t n =
    let e : min (min (capped structs t * n) 4294967295) WORDS_CAP ≡ min (capped structs t * n) WORDS_CAP = omega arith in
    e ∙ capped_product (words structs t) n WORDS_CAP

-- the words of what is left of declarations, one of them taken
pub words_left : (structs : List Shape) (decls : List Decl) (i : ℕ) (d : Decl) → i < length decls →
    all_words structs (map typed_of (map decl_view (drop i decls))) ≡ words structs (ty_of (type_view (get_or decls i d).ty)) + all_words structs (map typed_of (map decl_view (drop (i + 1) decls)))
words_left structs decls i d below = ap (λ (ds : List Decl). all_words structs (map typed_of (map decl_view ds))) (drop_more decls i d below)

-- nothing is left at the end
pub none_left : (structs : List Shape) (decls : List Decl) (i : ℕ) → length decls ≤ i → all_words structs (map typed_of (map decl_view (drop i decls))) ≡ 0
none_left structs decls i past = ap (λ (ds : List Decl). all_words structs (map typed_of (map decl_view ds))) (drop_all i decls past)

-- what holds of all that is seen of a list holds of what is seen of an element
pub all_at : {A B : Type 0} (P : B → Type 0) (f : A → B) (xs : List A) (i : ℕ) (d : A) → All P (map f xs) → i < length xs → P (f (get_or xs i d))
all_at P f xs i d h below =
    let len : length (map f xs) ≡ length xs = length-map xs f in
    subst P (get_or-map f xs i d (f d) below) (h i (f d) (omega arith))

-- a declaration at a place
pub decl_sized : (structs : List Shape) (decls : List Decl) (i : ℕ) (d : Decl) → All (λ e. IsSized structs e.ty) (map decl_view decls) → i < length decls → IsSized structs (type_view (get_or decls i d).ty)
decl_sized structs = all_at (λ (x : CDecl). IsSized structs x.ty) decl_view

-- a function at a place
pub function_at : (structs : List Shape) (items : List Function) (n : ℕ) (d : Function) → All (IsSizedFunction structs) (map function_view items) → n < length items → IsSizedFunction structs (function_view (get_or items n d))
function_at structs = all_at (IsSizedFunction structs) function_view

pub function_there : (items : List Function) (n : ℕ) (d : Function) (f : CFunction) → slice_get (map function_view items) n ≡ Some f → function_view (get_or items n d) ≡ f
function_there [] n d f h = cc
function_there (g ∷ rest) zero d f h = cc
function_there (g ∷ rest) (suc n) d f h = function_there rest n d f h
