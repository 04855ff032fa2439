-- Faults that are met one list after the other.
use Rattle.std.proofs.Common.{◌≡◌, List, [], ◌∷◌, ◌++◌, Option, refl, sym, ap, ◌∙◌}
use Rattle.c0_meaning.specs.Fault.{Fault, kept, kept_all}

pub kept_all-append : (met : Option Fault) (fs gs : List Fault) → kept_all met (fs ++ gs) ≡ kept_all (kept_all met fs) gs
kept_all-append met [] gs = refl
kept_all-append met (f ∷ fs) gs = kept_all-append (kept met f) fs gs

pub two_met : (m m1 m2 : Option Fault) (fs gs : List Fault) → m1 ≡ kept_all m fs → m2 ≡ kept_all m1 gs → m2 ≡ kept_all m (fs ++ gs)
two_met m m1 m2 fs gs a b = b ∙ (ap (λ x. kept_all x gs) a ∙ sym (kept_all-append m fs gs))
