-- Names that are set one after another, where a test says which are set before.
use Rattle.std.specs.Prelude.{◌≡◌, ℕ, Bool, ◌||◌, cond, List, [], ◌∷◌, ◌++◌, Option}
use Rattle.std.specs.Option.{option_or}
use Rattle.std.specs.Str.{bytes_eq}
use Rattle.c0_tree.specs.Tree.{CName}
use Rattle.c0_meaning.specs.Fault.{Fault, fault, NAME_TWICE}
use Rattle.c0_meaning.specs.Names.{is_among, twice_faults}

-- the faults of names that are set before
abbrev pub twice_by : (List ℕ → Bool) → List CName → List Fault
twice_by seen [] = []
twice_by seen (x ∷ rest) = cond (seen x.text) (fault NAME_TWICE x.span ∷ []) [] ++ twice_by (λ q. seen q || bytes_eq x.text q) rest

-- names stand for what they stood for, and the others for what this gives
abbrev pub SetsNames : (List ℕ → Option ℕ) → (List ℕ → Option ℕ) → (List ℕ → Option ℕ) → Type 0
SetsNames old new gives = (q : List ℕ) → new q ≡ option_or (old q) (gives q)

-- a law: by a test of what is set before, the faults are those by the list of what is set before
abbrev pub TwiceByTestIsTwice : Type 0
TwiceByTestIsTwice =
    (before : List (List ℕ)) (names : List CName) (seen : List ℕ → Bool) → ((q : List ℕ) → seen q ≡ is_among before q)
    → twice_by seen names ≡ twice_faults before names
