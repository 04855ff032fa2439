-- The least of a list of faults: it is what is kept of the list, whatever the order in which the list is met.
use Rattle.std.proofs.Common.{◌≡◌, ◌↔◌, ◌⊎◌, inl, inr, Bool, true, false, if◌then◌else◌, List, [], ◌∷◌, ◌++◌, Option, Some, None, refl, sym, ap, ◌∙◌, subst}
use Rattle.c0_meaning.specs.Fault.{Fault, comes_before, FaultStands, IsLeast, kept, kept_all, LeastIsThere, KeptIsLeast, MeetingIsFree, MeetingJoins}
use Rattle.c0_meaning.proofs.FaultOrderIsTotal.{comes_onward, not_both_come, one_fault}

apart : {A : Type 0} → true ≡ false → A
apart e = absurd (cc)

some_apart : {A : Type 0} {x : Fault} → Some x ≡ None → A
some_apart e = absurd (cc)

same_some : {x y : Fault} → Some x ≡ Some y → x ≡ y
same_some e = cc

pub not_before_itself : (f : Fault) → comes_before f f ≡ false
not_before_itself f = by_test (comes_before f f) refl
  where
    by_test : (x : Bool) → comes_before f f ≡ x → x ≡ false
    by_test true e = sym e ∙ not_both_come f f e
    by_test false e = refl

-- f doesn't come before g, nor g before h: so f doesn't before h
pub not_before_onward : (f g h : Fault) → comes_before f g ≡ false → comes_before g h ≡ false → comes_before f h ≡ false
not_before_onward f g h a b = by_tests (comes_before f h) (comes_before g f) refl refl
  where
    by_tests : (x y : Bool) → comes_before f h ≡ x → comes_before g f ≡ y → x ≡ false
    by_tests false y e k = refl
    by_tests true true e k = apart (sym (comes_onward g f h k e) ∙ b)
    by_tests true false e k = apart (sym e ∙ subst (λ v. comes_before v h ≡ false) (sym (one_fault f g a k)) b)

-- what is kept of a list behind a fault that was met
record KeptOf (g : Fault) (fs : List Fault) : Type 0 where
  one : Fault
  is : kept_all (Some g) fs ≡ Some one
  stands : FaultStands (g ∷ fs) one
  least : (h : Fault) → FaultStands (g ∷ fs) h → comes_before h one ≡ false

kept_of : (g : Fault) (fs : List Fault) → KeptOf g fs
kept_of g [] = record { one = g; is = refl; stands = inl refl; least = λ h i. alone h i }
  where
    alone : (h : Fault) → FaultStands (g ∷ []) h → comes_before h g ≡ false
    alone h (inl e) = subst (λ v. comes_before v g ≡ false) e (not_before_itself g)
    alone h (inr i) = absurd i
kept_of g (k ∷ fs) = by_test (comes_before k g) refl (kept_of g fs) (kept_of k fs)
  where
    among : (f : Fault) → comes_before g f ≡ false → comes_before k f ≡ false → ((h : Fault) → FaultStands fs h → comes_before h f ≡ false)
        → (h : Fault) → FaultStands (g ∷ k ∷ fs) h → comes_before h f ≡ false
    among f a b c h (inl e) = subst (λ v. comes_before v f ≡ false) e a
    among f a b c h (inr (inl e)) = subst (λ v. comes_before v f ≡ false) e b
    among f a b c h (inr (inr i)) = c h i

    by_test : (x : Bool) → comes_before k g ≡ x → KeptOf g fs → KeptOf k fs → KeptOf g (k ∷ fs)
    by_test true e v w = record {
      one = w.one;
      is = ap (λ (x : Bool). kept_all (if x then Some k else Some g) fs) e ∙ w.is;
      stands = inr w.stands;
      least = among w.one
          (not_before_onward g k w.one (not_both_come k g e) (w.least k (inl refl)))
          (w.least k (inl refl)) (λ h i. w.least h (inr i));
    }
    by_test false e v w = record {
      one = v.one;
      is = ap (λ (x : Bool). kept_all (if x then Some k else Some g) fs) e ∙ v.is;
      stands = elim v.stands [ inl p ↦ inl p | inr i ↦ inr (inr i) ];
      least = among v.one (v.least g (inl refl)) (not_before_onward k g v.one e (v.least g (inl refl))) (λ h i. v.least h (inr i));
    }

-- a list that has a fault has a least one, and that is kept
record Found (fs : List Fault) : Type 0 where
  one : Fault
  is : kept_all None fs ≡ Some one
  least : IsLeast fs one

found : (f : Fault) (fs : List Fault) → Found (f ∷ fs)
found f fs = let k = kept_of f fs in record { one = k.one; is = k.is; least = record { stands = k.stands; least = k.least } }

only_least : (fs : List Fault) (f g : Fault) → IsLeast fs f → IsLeast fs g → f ≡ g
only_least fs f g a b = one_fault f g (b.least f a.stands) (a.least g b.stands)

least_there : (fs : List Fault) (f : Fault) → FaultStands fs f → (g : Fault) × IsLeast fs g
least_there [] f i = absurd i
least_there (g ∷ fs) f i = ((found g fs).one, (found g fs).least)

no_least : (f : Fault) → IsLeast [] f → ⊥
no_least f w = w.stands

pub least_is_there : LeastIsThere
least_is_there = record { some = least_there; none = no_least; only = only_least }

kept_least : (fs : List Fault) (f : Fault) → kept_all None fs ≡ Some f → IsLeast fs f
kept_least [] f e = some_apart (sym e)
kept_least (g ∷ fs) f e = subst (IsLeast (g ∷ fs)) (same_some (sym (found g fs).is ∙ e)) (found g fs).least

least_kept : (fs : List Fault) (f : Fault) → IsLeast fs f → kept_all None fs ≡ Some f
least_kept [] f w = absurd w.stands
least_kept (g ∷ fs) f w = (found g fs).is ∙ ap Some (only_least (g ∷ fs) _ _ (found g fs).least w)

none_kept : (fs : List Fault) → kept_all None fs ≡ None → fs ≡ []
none_kept [] e = refl
none_kept (g ∷ fs) e = some_apart (sym (found g fs).is ∙ e)

nothing_kept : (fs : List Fault) → fs ≡ [] → kept_all None fs ≡ None
nothing_kept fs e = ap (kept_all None) e

pub kept_is_least : KeptIsLeast
kept_is_least = record {
  least = λ fs f. (kept_least fs f, least_kept fs f);
  none = λ fs. (none_kept fs, nothing_kept fs);
}

-- the same faults
Alike : List Fault → List Fault → Type 0
Alike fs gs = (f : Fault) → FaultStands fs f ↔ FaultStands gs f

alike_least : (fs gs : List Fault) → Alike fs gs → (f : Fault) → IsLeast fs f → IsLeast gs f
unfolding Alike
alike_least fs gs same f w = record { stands = (same f).0 w.stands; least = λ g i. w.least g ((same g).1 i) }

free_of_none : (fs gs : List Fault) → Alike fs gs → kept_all None fs ≡ kept_all None gs
unfolding Alike
free_of_none [] [] same = refl
free_of_none [] (g ∷ gs) same = absurd ((same g).1 (inl refl))
free_of_none (f ∷ fs) gs same =
    (found f fs).is ∙ sym (least_kept gs _ (alike_least (f ∷ fs) gs same _ (found f fs).least))

pub meeting_is_free : MeetingIsFree
unfolding Alike
meeting_is_free None fs gs same = free_of_none fs gs same
meeting_is_free (Some m) fs gs same = free_of_none (m ∷ fs) (m ∷ gs) (λ f. (onto fs gs (λ g. (same g).0) f, onto gs fs (λ g. (same g).1) f))
  where
    onto : (fs gs : List Fault) → ((f : Fault) → FaultStands fs f → FaultStands gs f) → (f : Fault) → FaultStands (m ∷ fs) f → FaultStands (m ∷ gs) f
    onto fs gs k f (inl e) = inl e
    onto fs gs k f (inr i) = inr (k f i)

pub kept_all-append : (met : Option Fault) (fs gs : List Fault) → kept_all met (fs ++ gs) ≡ kept_all (kept_all met fs) gs
kept_all-append met [] gs = refl
kept_all-append met (f ∷ fs) gs = kept_all-append (kept met f) fs gs

stands_append : (fs gs : List Fault) (f : Fault) → FaultStands (fs ++ gs) f → FaultStands (gs ++ fs) f
stands_append fs gs f i = elim (parts fs gs i) [ inl p ↦ later gs fs p | inr p ↦ sooner gs fs p ]
  where
    later : (xs ys : List Fault) → FaultStands ys f → FaultStands (xs ++ ys) f
    later [] ys i = i
    later (x ∷ xs) ys i = inr (later xs ys i)

    sooner : (xs ys : List Fault) → FaultStands xs f → FaultStands (xs ++ ys) f
    sooner [] ys i = absurd i
    sooner (x ∷ xs) ys (inl e) = inl e
    sooner (x ∷ xs) ys (inr i) = inr (sooner xs ys i)

    parts : (xs ys : List Fault) → FaultStands (xs ++ ys) f → FaultStands xs f ⊎ FaultStands ys f
    parts [] ys i = inr i
    parts (x ∷ xs) ys (inl e) = inl (inl e)
    parts (x ∷ xs) ys (inr i) = elim (parts xs ys i) [ inl p ↦ inl (inr p) | inr p ↦ inr p ]

kept_all-swap : (met : Option Fault) (fs gs : List Fault) → kept_all (kept_all met fs) gs ≡ kept_all (kept_all met gs) fs
kept_all-swap met fs gs =
    sym (kept_all-append met fs gs)
    ∙ (meeting_is_free met (fs ++ gs) (gs ++ fs) (λ f. (stands_append fs gs f, stands_append gs fs f)) ∙ kept_all-append met gs fs)

pub meeting_joins : MeetingJoins
meeting_joins = record { joined = kept_all-append; swapped = kept_all-swap }
