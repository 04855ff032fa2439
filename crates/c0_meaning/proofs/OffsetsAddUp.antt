-- Each value begins behind the words before it.
use Rattle.std.proofs.Common.{◌≡◌, ℕ, zero, suc, ◌+◌, ◌<◌, List, [], ◌∷◌, ◌++◌, length, map, take, drop, get_or, Some, refl, sym, ap, ◌∙◌, arith}
use Rattle.std.specs.Prelude.{slice_get}
use Rattle.std.proofs.lemmas.List.{append_assoc, drop_more, map-append}
use Rattle.c0_tree.specs.declared.tree.Decl.{Decl}
use Rattle.c0_tree.specs.Tree.{CDecl}
use Rattle.c0_tree.specs.View.{decl_view, type_view}
use Rattle.c0_meaning.specs.Ty.{Ty, ty_of}
use Rattle.c0_meaning.specs.Env.{Typed, Shape, typed_of}
use Rattle.c0_meaning.specs.Words.{words, all_words}
use Rattle.c0_meaning.specs.Sizes.{words_before}
use Rattle.c0_meaning.specs.Offsets.{offsets, offsets_from, OffsetsAreThose}
use Rattle.c0_meaning.specs.TypedState.{types_of}

at_from : (structs : List Shape) (at : ℕ) (ts : List Ty) (n : ℕ) → n < length ts → slice_get (offsets_from structs at ts) n ≡ Some (at + words_before structs ts n)
at_from structs at [] n h = absurd (omega arith)
at_from structs at (t ∷ ts) zero h = let e : at ≡ at + 0 = omega arith in ap Some e
at_from structs at (t ∷ ts) (suc n) h =
    let e : at + words structs t + words_before structs ts n ≡ at + (words structs t + words_before structs ts n) = omega arith in
    at_from structs (at + words structs t) ts n (omega arith) ∙ ap Some e

before_is : (structs : List Shape) (decls : List Typed) (n : ℕ) → words_before structs (types_of decls) n ≡ all_words structs (take n decls)
before_is structs [] zero = refl
before_is structs [] (suc n) = refl
before_is structs (d ∷ rest) zero = refl
before_is structs (d ∷ rest) (suc n) = ap (λ (k : ℕ). words structs d.ty + k) (before_is structs rest n)

pub offsets_are_those : OffsetsAreThose
offsets_are_those = record {
  at = λ structs ts n h. let e : 0 + words_before structs ts n ≡ words_before structs ts n = omega arith in at_from structs 0 ts n h ∙ ap Some e;
  before = before_is;
}

-- where values begin that stand behind others
pub offsets_from-append : (structs : List Shape) (at : ℕ) (xs ys : List Typed) → offsets_from structs at (types_of (xs ++ ys)) ≡ offsets_from structs at (types_of xs) ++ offsets_from structs (at + all_words structs xs) (types_of ys)
offsets_from-append structs at [] ys = let e : at ≡ at + 0 = omega arith in ap (λ (k : ℕ). offsets_from structs k (types_of ys)) e
offsets_from-append structs at (x ∷ xs) ys =
    let e : at + words structs x.ty + all_words structs xs ≡ at + (words structs x.ty + all_words structs xs) = omega arith in
    ap (λ (l : List ℕ). at ∷ l)
    (offsets_from-append structs (at + words structs x.ty) xs ys
    ∙ ap (λ (k : ℕ). offsets_from structs (at + words structs x.ty) (types_of xs) ++ offsets_from structs k (types_of ys)) e)

-- the types of declarations that are left
abbrev pub types_left : List Decl → ℕ → List Ty
types_left decls i = types_of (map typed_of (map decl_view (drop i decls)))

-- one declaration more
pub push_one : (old : List ℕ) (structs : List Shape) (at next : ℕ) (decls : List Decl) (i : ℕ) (d : Decl) → i < length decls → next ≡ at + words structs (ty_of (type_view (get_or decls i d).ty))
    → (old ++ at ∷ []) ++ offsets_from structs next (types_left decls (i + 1)) ≡ old ++ offsets_from structs at (types_left decls i)
push_one old structs at next decls i d below e =
    append_assoc old (at ∷ []) (offsets_from structs next (types_left decls (i + 1)))
    ∙ (ap (λ (k : ℕ). old ++ at ∷ offsets_from structs k (types_left decls (i + 1))) e
    ∙ sym (ap (λ (ds : List Decl). old ++ offsets_from structs at (types_of (map typed_of (map decl_view ds)))) (drop_more decls i d below)))

-- parameters, and the locals behind them
pub push_both : (structs : List Shape) (params locals : List CDecl) (first both : List ℕ) (end : ℕ) → first ≡ offsets_from structs 0 (types_of (map typed_of params)) → end ≡ 0 + all_words structs (map typed_of params)
    → both ≡ first ++ offsets_from structs end (types_of (map typed_of locals)) → both ≡ offsets structs (types_of (map typed_of (params ++ locals)))
push_both structs params locals first both end e f g =
    g
    ∙ (ap (λ (l : List ℕ). l ++ offsets_from structs end (types_of (map typed_of locals))) e
    ∙ (ap (λ (k : ℕ). offsets_from structs 0 (types_of (map typed_of params)) ++ offsets_from structs k (types_of (map typed_of locals))) f
    ∙ (sym (offsets_from-append structs 0 (map typed_of params) (map typed_of locals))
    ∙ ap (λ (ds : List Typed). offsets structs (types_of ds)) (sym (map-append typed_of params locals)))))
