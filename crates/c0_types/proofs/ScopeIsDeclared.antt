-- The scope of a body: its parameters and locals are those that are declared, before and after their names are resolved.
use Rattle.std.proofs.Common.{◌≡◌, ℕ, suc, ◌-◌, ◌^◌, Bool, true, false, nat_lt, min, cond, List, [], ◌∷◌, ◌++◌, map, Some, refl, sym, ap, ◌∙◌, bytes_eq, arith}
use Rattle.std.proofs.lemmas.List.{map-append}
use Rattle.std.proofs.lemmas.Simd.{map-map}
use Rattle.std.proofs.lemmas.Bool.Decides.{nat_tests}
use Rattle.std.specs.Option.{option_map}
use Rattle.c0_tree.specs.declared.tree.Decl.{Decl}
use Rattle.c0_tree.specs.declared.tree.Kind.TheVariants.{Local}
use Rattle.c0_tree.specs.Tree.{CDecl}
use Rattle.c0_tree.specs.View.{decl_view}
use Rattle.c0_meaning.specs.Env.{Shape, Typed, typed_of, first_named}
use Rattle.c0_meaning.specs.Resolved.{resolved_decls}
use Rattle.c0_meaning.proofs.StableTypes.{typed_kept}
use Rattle.c0_name_check.specs.Names.{number_named}
use Rattle.c0_body_check.specs.Scope.{typed_view}

-- what is typed is so by the views of declarations
pub typed_by_views : (ds : List Decl) → map typed_view ds ≡ map typed_of (map decl_view ds)
typed_by_views ds = sym (map-map typed_of decl_view ds)

-- parameters and resolved locals are typed as the declared ones
pub locals_typed : (shapes : List Shape) (n : ℕ) (params lent locals : List Decl) (ls : List CDecl) → lent ≡ params
    → map decl_view locals ≡ resolved_decls shapes Local n ls
    → map typed_view lent ++ map typed_view locals ≡ map typed_of (map decl_view params ++ ls)
locals_typed shapes n params lent locals ls same resolved =
    let first : map typed_view lent ≡ map typed_of (map decl_view params) = ap (map typed_view) same ∙ typed_by_views params in
    let second : map typed_view locals ≡ map typed_of ls = typed_by_views locals ∙ (ap (map typed_of) resolved ∙ typed_kept shapes Local n ls) in
    ap (λ (l : List Typed). l ++ map typed_view locals) first
    ∙ (ap (λ (l : List Typed). map typed_of (map decl_view params) ++ l) second
    ∙ sym (map-append typed_of (map decl_view params) ls))

-- the number of a name among what is viewed
module _ {A B : Type 0} (view : A → B) (name : B → List ℕ) (other : A → List ℕ) (text : List ℕ) (same : (a : A) → name (view a) ≡ other a) where
  pub numbered_by_view : (k : ℕ) (xs : List A) → number_named name text k (map view xs) ≡ number_named other text k xs
  numbered_by_view k [] = refl
  numbered_by_view k (x ∷ xs) =
      ap (λ (l : List ℕ). option_map (λ (found : ℕ × B). found.0) (cond (bytes_eq l text) (Some (k, view x)) (first_named name text (suc k) (map view xs)))) (same x)
      ∙ by_test (bytes_eq (other x) text) (numbered_by_view (suc k) xs)
    where
      by_test : (b : Bool) → number_named name text (suc k) (map view xs) ≡ number_named other text (suc k) xs
          → option_map (λ (found : ℕ × B). found.0) (cond b (Some (k, view x)) (first_named name text (suc k) (map view xs)))
          ≡ option_map (λ (found : ℕ × A). found.0) (cond b (Some (k, x)) (first_named other text (suc k) xs))
      by_test true h = refl
      by_test false h = h

-- the numbers of declarations' names are those of what is typed
pub numbered_typed : (text : List ℕ) (ds : List CDecl) → number_named (λ d. d.name.text) text 0 ds ≡ number_named (λ v. v.text) text 0 (map typed_of ds)
numbered_typed text ds = sym (numbered_by_view typed_of (λ v. v.text) (λ d. d.name.text) text (λ d. refl) 0 ds)

-- a capped number is above 2,000 where the number is
pub over_capped : (n m : ℕ) → n ≡ min m (2 ^ 32 - 1) → nat_lt 2000 n ≡ nat_lt 2000 m
over_capped n m e = grind (arith, nat_tests)
