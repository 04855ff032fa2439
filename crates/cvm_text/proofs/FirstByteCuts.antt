-- Cutting at the first byte that passes.
use Rattle.std.proofs.Common.{◌≡◌, ◌<◌, ◌+◌, ◌-◌, Bool, false, true, List, ℕ, ◌∷◌, ◌++◌, length, take, drop, get_or, sym, ap, ◌∙◌, take-append-drop, length-drop, take_all, All, arith}
use Rattle.std.specs.List.{slice_split}
use Rattle.std.proofs.lemmas.List.{drop_more}
use Rattle.std.proofs.lemmas.List.Splits.{slice_split_at}

pub slice_split_read : (p : ℕ → Bool) (xs : List ℕ) (i : ℕ) → i < length xs → p (get_or xs i 0) ≡ true → All (λ x. p x ≡ false) (take i xs)
    → slice_split p xs ≡ take i xs ∷ slice_split p (drop (i + 1) xs)
slice_split_read p xs i lt e h =
    let y = get_or xs i 0 in
    let parts : xs ≡ take i xs ++ (y ∷ drop (i + 1) xs) = sym (take-append-drop i xs) ∙ ap (λ zs. take i xs ++ zs) (drop_more xs i 0 lt) in
    ap (slice_split p) parts ∙ slice_split_at p (take i xs) y (drop (i + 1) xs) h e

pub take_rest_of : (i : ℕ) (xs : List ℕ) → take (length xs - i) (drop i xs) ≡ drop i xs
take_rest_of i xs = take_all _ _ (omega (arith, length-drop i xs))
