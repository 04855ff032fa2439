-- Faults that are met one list after the other.
use Rattle.std.proofs.Common.{◌≡◌, List, ◌++◌, Option}
use Rattle.c0_meaning.specs.Fault.{Fault, kept_all}
use Rattle.c0_name_check.proofs.FaultsMet.{two_met}

-- four lists
pub four_met : (m m1 m2 m3 m4 : Option Fault) (fs gs hs is : List Fault)
    → m1 ≡ kept_all m fs → m2 ≡ kept_all m1 gs → m3 ≡ kept_all m2 hs → m4 ≡ kept_all m3 is
    → m4 ≡ kept_all m (fs ++ (gs ++ (hs ++ is)))
four_met m m1 m2 m3 m4 fs gs hs is e1 e2 e3 e4 =
    two_met m m1 m4 fs _ e1 (two_met m1 m2 m4 gs _ e2 (two_met m2 m3 m4 hs is e3 e4))

-- five lists
pub five_met : (m m1 m2 m3 m4 m5 : Option Fault) (fs gs hs is js : List Fault)
    → m1 ≡ kept_all m fs → m2 ≡ kept_all m1 gs → m3 ≡ kept_all m2 hs → m4 ≡ kept_all m3 is → m5 ≡ kept_all m4 js
    → m5 ≡ kept_all m (fs ++ (gs ++ (hs ++ (is ++ js))))
five_met m m1 m2 m3 m4 m5 fs gs hs is js e1 e2 e3 e4 e5 =
    two_met m m1 m5 fs _ e1 (four_met m1 m2 m3 m4 m5 gs hs is js e2 e3 e4 e5)
