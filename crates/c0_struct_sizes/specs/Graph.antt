-- Graphs over numbers, given by the numbers to which each number has an edge.
use Rattle.std.specs.Prelude.{◌≡◌, ◌⊎◌, ◌↔◌, ◌<◌, ◌≤◌, ℕ, Bool, true, false, List, [], ◌∷◌, length, take, get_or}

-- a number is one of a list
abbrev pub IsIn : List ℕ → ℕ → Type 0
IsIn [] x = ⊥
IsIn (y ∷ ys) x = (y ≡ x) ⊎ IsIn ys x

-- one or more edges lead from a number to another
pub data Leads (edges : ℕ → List ℕ) : ℕ → ℕ → Type 0 where
  by_edge : {v w : ℕ} → IsIn (edges v) w → Leads edges v w
  by_way : {v u w : ℕ} → IsIn (edges v) u → Leads edges u w → Leads edges v w

-- edges lead from a number to another, or it is the other
abbrev pub EdgesLead : (ℕ → List ℕ) → ℕ → ℕ → Type 0
EdgesLead edges v w = (v ≡ w) ⊎ Leads edges v w

-- the edges of a number, where those of each are listed
abbrev pub edges_in : List (List ℕ) → ℕ → List ℕ
edges_in lists v = get_or lists v []

-- each edge leads to a number whose edges are listed
abbrev pub AreInside : List (List ℕ) → Type 0
AreInside lists = (v w : ℕ) → IsIn (edges_in lists v) w → w < length lists

-- in a list each number that doesn't lead to itself stands behind all to which it has an edge
abbrev pub PartsFirst : (ℕ → List ℕ) → List ℕ → List Bool → Type 0
PartsFirst edges nodes turning =
    (i w : ℕ) → i < length nodes → get_or turning (get_or nodes i 0) false ≡ false → IsIn (edges (get_or nodes i 0)) w → IsIn (take i nodes) w

-- the numbers below a count stand in an order, parts first, and it is known which of them lead to themselves
pub record IsOrder (edges : ℕ → List ℕ) (count : ℕ) (nodes : List ℕ) (turning : List Bool) : Type 0 where
  pub flags : length turning ≡ count
  pub turns : (v : ℕ) → v < count → get_or turning v false ≡ true ↔ Leads edges v v
  pub few : length nodes ≤ count
  pub all : (v : ℕ) → v < count → IsIn nodes v
  pub within : (v : ℕ) → IsIn nodes v → v < count
  pub first : PartsFirst edges nodes turning

-- so it is of the numbers whose edges are listed
abbrev pub IsOrderOf : List (List ℕ) → List ℕ → List Bool → Type 0
IsOrderOf lists nodes turning = IsOrder (edges_in lists) (length lists) nodes turning
