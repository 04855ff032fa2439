-- Histories with a dispatch more. This file may be cited from other crates.
use Rattle.std.proofs.Common.{◌≡◌, suc, List, [], ◌∷◌, ◌++◌, length, refl, ap}
use Rattle.cvm_model.specs.Invariant.{Dispatch, dispatch_rows}
use Rattle.kernel_theorems.specs.History.{told_by}

-- what is known by the dispatches, one after another
pub told_more : {A : Type 0} → (f : A → Dispatch → A) (a : A) (past : List Dispatch) (d : Dispatch) → told_by f a (past ++ d ∷ []) ≡ f (told_by f a past) d
told_more f a [] d = refl
told_more f a (e ∷ past) d = told_more f (f a e) past d

-- how many there are
pub one_more : (past : List Dispatch) (d : Dispatch) → length (past ++ d ∷ []) ≡ suc (length past)
one_more [] d = refl
one_more (e ∷ past) d = ap suc (one_more past d)

pub rows_length : (past : List Dispatch) → length (dispatch_rows past) ≡ length past
rows_length [] = refl
rows_length (d ∷ past) = ap suc (rows_length past)
