-- What is said of each dispatch of a history, by those before it: as that a call was answered rightly.
use Rattle.std.specs.Prelude.{List, [], ◌∷◌, ◌++◌}
use Rattle.cvm_model.specs.Invariant.{Dispatch}

-- what may be said of a dispatch behind some dispatches
abbrev pub OfDispatch : Type 1
OfDispatch = (past : List Dispatch) → Dispatch → Type 0

-- each of these dispatches has it, where those stand before them
abbrev pub EachHas : OfDispatch → (past these : List Dispatch) → Type 0
EachHas P past [] = Unit {0}
EachHas P past (d ∷ rest) = P past d × EachHas P (past ++ d ∷ []) rest

-- what is known after these dispatches, where each changes it: as whether a user is inside
abbrev pub told_by : {A : Type 0} → (A → Dispatch → A) → A → List Dispatch → A
told_by f a [] = a
told_by f a (d ∷ rest) = told_by f (f a d) rest
