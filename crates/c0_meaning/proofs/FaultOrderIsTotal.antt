-- The order of faults is total: it compares four numbers in turn, and so each fact about it is one about a single comparison with
-- the rest of the test left open.
use Rattle.std.proofs.Common.{◌≡◌, ℕ, ◌<◌, ◌⊎◌, inl, inr, Bool, true, false, ◌&&◌, ◌||◌, ◌==◌, nat_lt, sym, ap, ◌∙◌, arith}
use Rattle.std.proofs.lemmas.Bool.Decides.{nat_tests}
use Rattle.c0_meaning.specs.Fault.{Fault, comes_before, OrderIsTotal}

-- x is below y, or they are equal and the rest of the test says so
abbrev lex : ℕ → ℕ → Bool → Bool
lex x y rest = nat_lt x y || ((x == y) && rest)

lex-true : (x y : ℕ) (r : Bool) → lex x y r ≡ true → (x < y) ⊎ ((x ≡ y) × (r ≡ true))
lex-true x y r h = grind (arith, nat_tests)

lex-equal : (x y : ℕ) (r : Bool) → x ≡ y → lex x y r ≡ r
lex-equal x y true h = grind (arith, nat_tests)
lex-equal x y false h = grind (arith, nat_tests)

lex-below : (x y : ℕ) (r : Bool) → x < y → lex x y r ≡ true
lex-below x y r h = grind (arith, nat_tests)

lex-above : (x y : ℕ) (r : Bool) → y < x → lex x y r ≡ false
lex-above x y r h = grind (arith, nat_tests)

-- onward, where the rests lead onward
lex_onward : (x y z : ℕ) (r s t : Bool) → (r ≡ true → s ≡ true → t ≡ true) → lex x y r ≡ true → lex y z s ≡ true → lex x z t ≡ true
lex_onward x y z r s t k a b = by_parts (lex-true x y r a) (lex-true y z s b)
  where
    by_parts : ((x < y) ⊎ ((x ≡ y) × (r ≡ true))) → ((y < z) ⊎ ((y ≡ z) × (s ≡ true))) → lex x z t ≡ true
    by_parts (inl p) (inl q) = lex-below x z t (omega arith)
    by_parts (inl p) (inr q) = let e = q.0 in lex-below x z t (omega arith)
    by_parts (inr p) (inl q) = let e = p.0 in lex-below x z t (omega arith)
    by_parts (inr p) (inr q) = lex-equal x z t (p.0 ∙ q.0) ∙ k p.1 q.1

-- not both, where not both rests say so
lex_not_both : (x y : ℕ) (r s : Bool) → (r ≡ true → s ≡ false) → lex x y r ≡ true → lex y x s ≡ false
lex_not_both x y r s k a = by_parts (lex-true x y r a)
  where
    by_parts : ((x < y) ⊎ ((x ≡ y) × (r ≡ true))) → lex y x s ≡ false
    by_parts (inl p) = lex-above y x s p
    by_parts (inr p) = lex-equal y x s (sym p.0) ∙ k p.1

-- neither: the numbers are equal, and neither rest says so
lex_neither : (x y : ℕ) (r s : Bool) → lex x y r ≡ false → lex y x s ≡ false → (x ≡ y) × (r ≡ false) × (s ≡ false)
lex_neither x y r s a b = let e = equal x y r s a b in (e, sym (lex-equal x y r e) ∙ a, sym (lex-equal y x s (sym e)) ∙ b)
  where
    equal : (x y : ℕ) (r s : Bool) → lex x y r ≡ false → lex y x s ≡ false → x ≡ y
    equal x y true true a b = grind (arith, nat_tests)
    equal x y true false a b = grind (arith, nat_tests)
    equal x y false true a b = grind (arith, nat_tests)
    equal x y false false a b = grind (arith, nat_tests)

below_onward : (x y z : ℕ) → nat_lt x y ≡ true → nat_lt y z ≡ true → nat_lt x z ≡ true
below_onward x y z a b = grind (arith, nat_tests)

below_not_both : (x y : ℕ) → nat_lt x y ≡ true → nat_lt y x ≡ false
below_not_both x y a = grind (arith, nat_tests)

below_neither : (x y : ℕ) → nat_lt x y ≡ false → nat_lt y x ≡ false → x ≡ y
below_neither x y a b = grind (arith, nat_tests)

pub comes_onward : (a b c : Fault) → comes_before a b ≡ true → comes_before b c ≡ true → comes_before a c ≡ true
comes_onward a b c =
    lex_onward a.span.start b.span.start c.span.start _ _ _
    (lex_onward a.number b.number c.number _ _ _
    (lex_onward a.span.end b.span.end c.span.end _ _ _
    (below_onward a.line b.line c.line)))

pub not_both_come : (a b : Fault) → comes_before a b ≡ true → comes_before b a ≡ false
not_both_come a b =
    lex_not_both a.span.start b.span.start _ _
    (lex_not_both a.number b.number _ _
    (lex_not_both a.span.end b.span.end _ _
    (below_not_both a.line b.line)))

abbrev fault_at : ℕ → ℕ → ℕ → ℕ → Fault
fault_at start end number line = record { number = number; span = record { start = start; end = end }; line = line }

pub one_fault : (a b : Fault) → comes_before a b ≡ false → comes_before b a ≡ false → a ≡ b
one_fault a b h k =
    let s = lex_neither a.span.start b.span.start _ _ h k in
    let n = lex_neither a.number b.number _ _ s.1 s.2 in
    let e = lex_neither a.span.end b.span.end _ _ n.1 n.2 in
    let l = below_neither a.line b.line e.1 e.2 in
    ap (λ x. fault_at x a.span.end a.number a.line) s.0
    ∙ (ap (λ x. fault_at b.span.start x a.number a.line) e.0
    ∙ (ap (λ x. fault_at b.span.start b.span.end x a.line) n.0
    ∙ ap (λ x. fault_at b.span.start b.span.end b.number x) l))

pub order_is_total : OrderIsTotal
order_is_total = record { one = one_fault; not_both = not_both_come; onward = comes_onward }
