-- The type of the declaration of a number, and the fields of the struct of a resolved name.
use Rattle.std.proofs.Common.{◌≡◌, ℕ, zero, suc, ◌+◌, ◌<◌, ◌≤◌, List, [], ◌∷◌, ◌++◌, length, map, Option, Some, None, refl, sym, ap, ◌∙◌, arith, get_or}
use Rattle.std.specs.Prelude.{option_map, slice_get}
use Rattle.std.specs.List.{All}
use Rattle.c0_tree.specs.declared.tree.StructDef.{StructDef}
use Rattle.c0_tree.specs.declared.tree.Decl.{Decl}
use Rattle.c0_tree.specs.View.{struct_view, decl_view}
use Rattle.c0_tree.specs.Tree.{named, CName}
use Rattle.c0_meaning.specs.Ty.{Ty}
use Rattle.c0_meaning.specs.Env.{Shape, Typed, shape_of, typed_of, fields_of}
use Rattle.c0_meaning.specs.Form.{ty_view}
use Rattle.c0_meaning.specs.Words.{shape_fields}
use Rattle.c0_meaning.specs.Resolved.{IsResolved}
use Rattle.c0_meaning.specs.Sound.{IsSized, IsSizedStruct}
use Rattle.c0_meaning.proofs.SearchByName.{found_there}
use Rattle.c0_meaning.proofs.SizedTypes.{struct_below, all_at}

pub declared_there : (decls : List Decl) (n : ℕ) (d : Decl) → n < length decls
    → Some (ty_view (get_or decls n d).ty) ≡ option_map (λ (d : Typed). d.ty) (slice_get (map typed_of (map decl_view decls)) n)
declared_there [] n d below = absurd (omega arith)
declared_there (x ∷ rest) zero d below = refl
declared_there (x ∷ rest) (suc n) d below = declared_there rest n d (omega arith)

pub none_declared : (decls : List Decl) (n : ℕ) → length decls ≤ n
    → ◌≡◌ {A = Option Ty} None (option_map (λ (d : Typed). d.ty) (slice_get (map typed_of (map decl_view decls)) n))
none_declared [] n past = refl
none_declared (x ∷ rest) zero past = absurd (omega arith)
none_declared (x ∷ rest) (suc n) past = none_declared rest n (omega arith)

-- what has a number in two lists together has it in the first, or behind it in the second
pub in_first : {A B : Type 0} (f : A → B) (xs ys : List A) (n : ℕ) → n < length xs → slice_get (map f xs) n ≡ slice_get (map f (xs ++ ys)) n
in_first f [] ys n below = absurd (omega arith)
in_first f (x ∷ xs) ys zero below = refl
in_first f (x ∷ xs) ys (suc n) below = in_first f xs ys n (omega arith)

pub in_second : {A B : Type 0} (f : A → B) (xs ys : List A) (n k : ℕ) → n ≡ length xs + k → slice_get (map f ys) k ≡ slice_get (map f (xs ++ ys)) n
in_second f [] ys n k e = let q : k ≡ n = omega arith in ap (slice_get (map f ys)) q
in_second f (x ∷ xs) ys zero k e = absurd (omega arith)
in_second f (x ∷ xs) ys (suc n) k e = in_second f xs ys n k (omega arith)

same_value : {A : Type 0} (x y : A) → Some x ≡ Some y → x ≡ y
same_value x y h = cc

shape_there : (items : List StructDef) (n : ℕ) (d : StructDef) → n < length items → slice_get (map shape_of (map struct_view items)) n ≡ Some (shape_of (struct_view (get_or items n d)))
shape_there [] n d below = absurd (omega arith)
shape_there (x ∷ rest) zero d below = refl
shape_there (x ∷ rest) (suc n) d below = shape_there rest n d (omega arith)

-- the fields of the struct of a resolved name are those at its number
pub fields_there : (items : List StructDef) (x : CName) (d : StructDef) → IsResolved (map shape_of (map struct_view items)) (named x)
    → map typed_of (map decl_view (get_or items x.number d).fields.items) ≡ shape_fields (map shape_of (map struct_view items)) x.text
fields_there items x d r =
    let s : Shape = r.1.0 in
    let there = found_there (λ (s : Shape). s.text) (map shape_of (map struct_view items)) x.text x.number s r.1.1 in
    let e : shape_of (struct_view (get_or items x.number d)) ≡ s = same_value _ s (sym (shape_there items x.number d (struct_below items x r)) ∙ there) in
    ap (λ (s : Shape). s.fields) e ∙ sym (ap fields_of r.1.1)

-- and they have few words, their names resolved
pub fields_sized : (structs : List Shape) (items : List StructDef) (n : ℕ) (d : StructDef) → All (IsSizedStruct structs) (map struct_view items) → n < length items
    → All (λ d. IsSized structs d.ty) (map decl_view (get_or items n d).fields.items)
fields_sized structs items n d h below = (all_at (IsSizedStruct structs) struct_view items n d h below).fields
