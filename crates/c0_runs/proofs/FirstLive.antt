-- The variables of a function that begins: those are live that are parameters, or cleared.
use Rattle.std.specs.Prelude.{slice_get, map, nat_lt, not, IsTrue, Some, if◌then◌else◌}
use Rattle.std.proofs.Common.{◌≡◌, inl, inr, ℕ, zero, suc, ◌+◌, ◌-◌, ◌<◌, ◌≤◌, Bool, true, false, ◌||◌, List, [], ◌∷◌, ◌++◌, length, refl, sym, ap, ◌∙◌, subst, arith, lt-ltb, le-ltb}
use Rattle.std.proofs.lemmas.Bool.{cases_Bool, cond-true, cond-false, ltb-true, ltb-false}
use Rattle.c0_tree.specs.Tree.{CExpr, CStmts, CDecl}
use Rattle.c0_meaning.specs.Ty.{Ty, is_scalar}
use Rattle.c0_meaning.specs.Ty as ty
use Rattle.c0_meaning.specs.Env.{Shape, typed_of}
use Rattle.c0_meaning.specs.Words.{words}
use Rattle.c0_meaning.specs.Sizes.{words_before}
use Rattle.c0_meaning.specs.TypedState.{types_of}
use Rattle.c0_expr_runs.specs.Bases.{words_of_all}
use Rattle.c0_stmt_code.specs.Live.{are_scalar, is_cleared}
use Rattle.c0_runs.proofs.WorkAsCode.{or_left}
use Rattle.c0_stmt_code.proofs.PremisesOfFunctions.{AllScalar}
use Rattle.c0_runs.proofs.RegisterFrames.{each_scalar}

-- a scalar has one word
one_word : (structs : List Shape) (t : Ty) → IsTrue (is_scalar t) → words structs t ≡ 1
one_word structs ty.int s = refl
one_word structs ty.bool s = refl
one_word structs (ty.pointer t) s = refl
one_word structs (ty.named x) s = absurd (cc)
one_word structs (ty.array t n) s = absurd (cc)

-- scalars one behind the other
pub scalars_before : (structs : List Shape) (ts : List Ty) (n : ℕ) (t : Ty) → AllScalar ts → slice_get ts n ≡ Some t → (words_before structs ts n ≡ n) × (n < length ts)
scalars_before structs [] n t s e = absurd (cc)
scalars_before structs (u ∷ ts) zero t s e = (refl, omega arith)
scalars_before structs (u ∷ ts) (suc n) t s e = let r = scalars_before structs ts n t s.1 e in let a = r.0 in let b = r.1 in let w = one_word structs u s.0 in (omega (arith, a, w), omega (arith, b))

pub params_before : (structs : List Shape) (ts us : List Ty) (n : ℕ) → AllScalar ts → n < length ts → words_before structs (ts ++ us) n ≡ n
params_before structs [] us n s lt = absurd (omega (arith, lt))
params_before structs (u ∷ ts) us zero s lt = refl
params_before structs (u ∷ ts) us (suc n) s lt = let a = params_before structs ts us n s.1 (omega (arith, lt)) in let w = one_word structs u s.0 in omega (arith, a, w)

scalar_at : (ts : List Ty) (n : ℕ) (t : Ty) → AllScalar ts → slice_get ts n ≡ Some t → IsTrue (is_scalar t)
scalar_at [] n t s e = absurd (cc)
scalar_at (u ∷ ts) zero t s e = let q : u ≡ t = cc in subst (λ v. IsTrue (is_scalar v)) q s.0
scalar_at (u ∷ ts) (suc n) t s e = scalar_at ts n t s.1 e

scalars_joined : (ts us : List Ty) → AllScalar ts → AllScalar us → AllScalar (ts ++ us)
scalars_joined [] us s r = r
scalars_joined (t ∷ ts) us s r = (s.0, scalars_joined ts us s.1 r)

scalars_size : (structs : List Shape) (ts : List Ty) → AllScalar ts → words_of_all structs ts ≡ length ts
scalars_size structs [] s = refl
scalars_size structs (t ∷ ts) s = let g = scalars_size structs ts s.1 in let w = one_word structs t s.0 in omega (arith, g, w)

sizes_joined : (structs : List Shape) (ts us : List Ty) → words_of_all structs (ts ++ us) ≡ words_of_all structs ts + words_of_all structs us
sizes_joined structs [] us = omega arith
sizes_joined structs (t ∷ ts) us = let g = sizes_joined structs ts us in omega (arith, g)

within : (structs : List Shape) (ts : List Ty) (n : ℕ) (t : Ty) → slice_get ts n ≡ Some t → words_before structs ts n + words structs t ≤ words_of_all structs ts
within structs [] n t e = absurd (cc)
within structs (u ∷ ts) zero t e = let q : u ≡ t = cc in let w : words structs u ≡ words structs t = ap (words structs) q in omega (arith, w)
within structs (u ∷ ts) (suc n) t e = let g = within structs ts n t e in omega (arith, g)

second : (a b : Bool) → a ≡ false → IsTrue (a || b) → IsTrue b
second true b e h = absurd (cc)
second false b e h = h

-- words as they are before a word, and 0 from it on
abbrev pub first_words : (m : ℕ → ℕ) (from : ℕ) → ℕ → ℕ
first_words m from x = if nat_lt x from then m x else 0

pub words_below : (m : ℕ → ℕ) (from x : ℕ) → x < from → first_words m from x ≡ m x
words_below m from x lt = cond-true (nat_lt x from) (m x) 0 (lt-ltb x from lt)

pub words_above : (m : ℕ → ℕ) (from x : ℕ) → from ≤ x → first_words m from x ≡ 0
words_above m from x le = cond-false (nat_lt x from) (m x) 0 (le-ltb x from le)

-- the variables that are live at the begin, where there are so many parameters
abbrev pub first_live : (params : ℕ) → List CDecl → CStmts → CExpr → ℕ → Bool
first_live params locals stmts result n = nat_lt n params || is_cleared locals stmts result n

module _ (structs : List Shape) (ts : List Ty) (scalars : AllScalar ts) (params : ℕ) (count : length ts ≡ params) (locals : List CDecl) (stmts : CStmts) (result : CExpr) where
  abbrev all_types : List Ty
  all_types = ts ++ types_of (map typed_of locals)

  -- a word of a live local is to be cleared
  word_cleared : (n : ℕ) (t : Ty) (k : ℕ) → slice_get all_types n ≡ Some t → k < words structs t → IsTrue (first_live params locals stmts result n) → params ≤ words_before structs all_types n + k
      → IsTrue (is_cleared locals stmts result (words_before structs all_types n + k))
  word_cleared n t k there less is_live behind = elim (cases_Bool (are_scalar locals)) [
    | inl e ↦
        let all = scalars_joined ts (types_of (map typed_of locals)) scalars (each_scalar (types_of (map typed_of locals)) e) in
        let before = scalars_before structs all_types n t all there in
        let b0 = before.0 in
        let one = one_word structs t (scalar_at all_types n t all there) in
        let number : n ≡ words_before structs all_types n + k = omega (arith, b0, one, less) in
        subst (λ m. IsTrue (is_cleared locals stmts result m)) number (second (nat_lt n params) (is_cleared locals stmts result n) (le-ltb n params (omega (arith, number, behind))) is_live)
    | inr e ↦ or_left (not (are_scalar locals)) _ (ap not e)
  ]

  -- all variables stand in words of which the live ones' are those of the machine, where the locals are 0 that are to be cleared
  pub first_same : (m : ℕ → ℕ) (start : ℕ) → ((j : ℕ) → j < words_of_all structs (types_of (map typed_of locals)) → IsTrue (is_cleared locals stmts result (params + j)) → m (start + params + j) ≡ 0)
      → (n : ℕ) (t : Ty) → slice_get all_types n ≡ Some t → IsTrue (first_live params locals stmts result n) → (k : ℕ) → k < words structs t
      → m (start + words_before structs all_types n + k) ≡ first_words m (start + params) (start + words_before structs all_types n + k)
  first_same m start zeros n t there is_live k less = elim (cases_Bool (nat_lt (start + words_before structs all_types n + k) (start + params))) [
    | inl e ↦ sym (words_below m (start + params) _ (ltb-true (start + words_before structs all_types n + k) (start + params) e))
    | inr e ↦
        let ge = ltb-false (start + words_before structs all_types n + k) (start + params) e in
        let j : ℕ = words_before structs all_types n + k - params in
        let number : params + (words_before structs all_types n + k - params) ≡ words_before structs all_types n + k = omega (arith, ge) in
        let at : start + words_before structs all_types n + k ≡ start + params + (words_before structs all_types n + k - params) = omega (arith, ge) in
        let room = within structs all_types n t there in
        let sizes = sizes_joined structs ts (types_of (map typed_of locals)) in
        let size = scalars_size structs ts scalars in
        let wanted = subst (λ i. IsTrue (is_cleared locals stmts result i)) (sym number) (word_cleared n t k there less is_live (omega (arith, ge))) in
        ap m at ∙ zeros (words_before structs all_types n + k - params) (omega (arith, room, sizes, size, less, count, ge)) wanted ∙ sym (words_above m (start + params) _ ge)
  ]
