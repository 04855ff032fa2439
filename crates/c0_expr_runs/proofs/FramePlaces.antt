-- The variable that a place in the frame is a part of stands in the place's expression.
use Rattle.std.specs.Prelude.{Ok, Err, pos, negsuc, nat_lt, if◌then◌else◌, IsTrue, Result}
use Rattle.std.proofs.Common.{◌≡◌, ℕ, Bool, true, false, nat_eq, ◌&&◌, ◌||◌, Option, Some, List, [], ◌∷◌, ◌++◌, refl, sym, ap, ◌∙◌, subst, eq-eqb}
use Rattle.c0_tree.specs.declared.tree.Kind.{Kind}
use Rattle.c0_tree.specs.declared.tree.Kind.TheVariants.{Unresolved, Struct, Field, Global, Local, Function, Primitive}
use Rattle.c0_tree.specs.Tree.{CName, CExpr, var, field, index}
use Rattle.c0_meaning.specs.Numbered.{is_in_frame, is_frame_place}
use Rattle.c0_meaning.specs.Value.{Location, Value, int, group, count, below}
use Rattle.c0_meaning.specs.State.{C0State, read}
use Rattle.c0_meaning.specs.Operators.{Failure, Bounds, faulted}
use Rattle.c0_meaning.specs.Evaluation.{Costed, costs, at_no_cost, paying, variable_location, element_of, indexed, field_of, place_of, value_of}
use Rattle.c0_expr_code.specs.Reads.{reads}

-- the number of the variable or object that a path begins with
abbrev pub base_of : List ℕ → ℕ
base_of [] = 0
base_of (n ∷ path) = n

pub or_left : (a b : Bool) → IsTrue a → IsTrue (a || b)
or_left true b h = refl
or_left false b h = absurd (cc)

pub or_right : (a b : Bool) → IsTrue b → IsTrue (a || b)
or_right true b h = refl
or_right false b h = h

pub both_true : (a b : Bool) → a ≡ true → b ≡ true → IsTrue (a && b)
both_true true b h g = g
both_true false b h g = absurd (cc)

-- a path begins with a variable that is read
pub record IsBased (needed : ℕ → Bool) (path : List ℕ) : Type 0 where
  pub number : ℕ
  pub rest : List ℕ
  pub is : path ≡ number ∷ rest
  pub read : IsTrue (needed number)

-- one part more
based_on : (needed : ℕ → Bool) (path : List ℕ) (i : ℕ) → IsBased needed path → IsBased needed (path ++ i ∷ [])
based_on needed path i h = record { number = h.number; rest = h.rest ++ i ∷ []; is = ap (λ p. p ++ i ∷ []) h.is; read = h.read }

pub base_read : (needed : ℕ → Bool) (path : List ℕ) → IsBased needed path → IsTrue (needed (base_of path))
base_read needed path h = subst (λ p. IsTrue (needed (base_of p))) (sym h.is) h.read

-- the same location
pub same_place : (u v : ℕ) (a b : Location) → costs u (Ok a) ≡ costs v (Ok b) → a ≡ b
same_place u v a b e = cc

unpaid : (k : ℕ) (e : Costed Location) (u : ℕ) (l : Location) → paying k e ≡ costs u (Ok l) → (v : ℕ) × (e ≡ costs v (Ok l))
unpaid k (costs n (Ok a)) u l h = let q : a ≡ l = cc in (n, ap (λ z. costs n (Ok z)) q)
unpaid k (costs n (Err f)) u l h = absurd (cc)

-- each location that an evaluation gives begins with one
abbrev Based : (ℕ → Bool) → Costed Location → Type 0
Based needed e = (u : ℕ) (l : Location) → e ≡ costs u (Ok l) → IsBased needed l.path

moved : (needed : ℕ → Bool) (a l : Location) → a ≡ l → IsBased needed a.path → IsBased needed l.path
moved needed a l e h = subst (λ z. IsBased needed z.path) e h

pub field_based : (needed : ℕ → Bool) (f : CName) (e : Costed Location) → Based needed e → Based needed (field_of f e)
field_based needed f (costs n (Ok a)) part u l h = moved needed (below a f.number) l (same_place _ u _ l h) (based_on needed a.path f.number (part n a refl))
field_based needed f (costs n (Err x)) part u l h = absurd (cc)

element_based : (needed : ℕ → Bool) (a l : Location) (o : Option Value) (v : Value) → IsBased needed a.path → element_of a o v ≡ Ok l → IsBased needed l.path
element_based needed a l (Some (group vs)) (int (pos i)) part h = by_test (nat_lt i (count vs)) h
  where
    by_test : (b : Bool) → (if b then Ok (below a i) else Err (faulted Bounds)) ≡ Ok l → IsBased needed l.path
    by_test true h = let q : below a i ≡ l = cc in moved needed (below a i) l q (based_on needed a.path i part)
    by_test false h = absurd (cc)
element_based needed a l (Some (group vs)) (int (negsuc i)) part h = absurd (cc)
element_based needed a l _ _ part h = absurd (cc)

pub element_of_based : (needed : ℕ → Bool) (s : C0State) (e : Costed Location) (i : Costed Value) → Based needed e → Based needed (indexed s e i)
element_of_based needed s (costs n (Ok a)) (costs m (Ok v)) part u l h = element_based needed a l (read s a) v (part n a refl) (answer _ _ _ _ h)
  where
    answer : (x y : ℕ) (r : Result Location Failure) (b : Location) → costs x r ≡ costs y (Ok b) → r ≡ Ok b
    answer x y r b e = cc
element_of_based needed s (costs n (Ok a)) (costs m (Err f)) part u l h = absurd (cc)
element_of_based needed s (costs n (Err f)) i part u l h = absurd (cc)

more_read : (needed more : ℕ → Bool) (path : List ℕ) → ((n : ℕ) → IsTrue (needed n) → IsTrue (more n)) → IsBased needed path → IsBased more path
more_read needed more path on h = record { number = h.number; rest = h.rest; is = h.is; read = on h.number h.read }

pub based : (e : CExpr) (s : C0State) → is_frame_place e ≡ true → Based (reads e) (place_of e s)
based (var x) s frame u l h = by_kind x.kind refl frame (unpaid 1 (at_no_cost (variable_location x.kind x.number)) u l h)
  where
    by_kind : (k : Kind) → x.kind ≡ k → is_in_frame k ≡ true → (v : ℕ) × (at_no_cost (variable_location x.kind x.number) ≡ costs v (Ok l)) → IsBased (reads (var x)) l.path
    by_kind Local e f g =
        let q : at_no_cost (variable_location Local x.number) ≡ costs g.0 (Ok l) = ap (λ k. at_no_cost (variable_location k x.number)) (sym e) ∙ g.1 in
        let read : IsTrue (is_in_frame x.kind && nat_eq x.number x.number) = ap (λ k. is_in_frame k && nat_eq x.number x.number) e ∙ eq-eqb x.number x.number refl in
        moved (reads (var x)) _ l (same_place 0 g.0 _ l q) (record { number = x.number; rest = []; is = refl; read = read })
    by_kind Unresolved e f g = absurd (cc)
    by_kind Struct e f g = absurd (cc)
    by_kind Field e f g = absurd (cc)
    by_kind Global e f g = absurd (cc)
    by_kind Function e f g = absurd (cc)
    by_kind Primitive e f g = absurd (cc)
based (field span e g) s frame u l h = let r = unpaid 1 (field_of g (place_of e s)) u l h in field_based (reads e) g (place_of e s) (based e s frame) r.0 l r.1
based (index span e i) s frame u l h =
    let r = unpaid 1 (indexed s (place_of e s) (value_of i s)) u l h in
    more_read (reads e) (reads (index span e i)) l.path (λ n. or_left (reads e n) (reads i n)) (element_of_based (reads e) s (place_of e s) (value_of i s) (based e s frame) r.0 l r.1)
based _ s frame u l h = absurd (cc)
