-- The exits of faults as a list.
use Rattle.std.specs.Prelude.{ℕ, List, [], ◌∷◌}
use Rattle.c0_expr_code.specs.declared.fault_exits.FaultExits.{FaultExits}

-- the exits of faults, in the order of their power words
abbrev pub exits_of : FaultExits → List ℕ
exits_of x = x.null_use ∷ x.bounds ∷ x.zero_division ∷ x.stack ∷ []
