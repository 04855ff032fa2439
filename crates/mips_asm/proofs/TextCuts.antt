-- What is left of a text behind a position.
use Rattle.std.proofs.Common.{◌≡◌, ◌-◌, List, ℕ, length, take, drop, length-drop, take_all, arith}

pub take_rest_of : (i : ℕ) (xs : List ℕ) → take (length xs - i) (drop i xs) ≡ drop i xs
take_rest_of i xs = take_all _ _ (omega (arith, length-drop i xs))
