-- What is told of the functions of a unit: which reach a loop of calls, and how many words the longest chain has that begins with each of the others.
use Rattle.std.specs.Prelude.{◌≡◌, ◌⊎◌, ℕ, ◌+◌, ◌^◌, ◌<◌, ◌≤◌, max, Bool, true, false, ◌&&◌, if◌then◌else◌, List, [], ◌∷◌, length, get_or}
use Rattle.c0_tree.specs.Tree.{CUnit}
use Rattle.c0_meaning.specs.CallChain.{frame_at}
use Rattle.bound_check.specs.declared.marks.Mark.{Mark}
use Rattle.bound_check.specs.declared.marks.Mark.TheVariants.{Unseen, Ends, Loops}
use Rattle.c0_struct_sizes.specs.Graph.{IsIn}
use Rattle.bound_check.specs.Calls.{callees}

-- the most words of a frame
abbrev pub MAX_FRAME : ℕ
MAX_FRAME = 2147483648

-- the mark of a number
abbrev pub mark_of : List Mark → ℕ → Mark
mark_of marks v = get_or marks v Unseen

-- the words that a mark tells
abbrev pub told_words : Mark → ℕ
told_words Unseen = 0
told_words (Ends n) = n
told_words Loops = 0

-- the most words that are told of numbers
abbrev pub most : List Mark → List ℕ → ℕ
most marks [] = 0
most marks (v ∷ rest) = max (told_words (mark_of marks v)) (most marks rest)

-- whether a mark tells that no loop is reached
abbrev pub tells_no_loop : Mark → Bool
tells_no_loop Unseen = false
tells_no_loop (Ends n) = true
tells_no_loop Loops = false

-- whether that is told of each of these numbers
abbrev pub all_end : List Mark → List ℕ → Bool
all_end marks [] = true
all_end marks (v ∷ rest) = tells_no_loop (mark_of marks v) && all_end marks rest

-- the mark of a number by those of the numbers to which it has an edge: what leads to itself or has an edge to what reaches a loop reaches one
abbrev pub mark_by : Bool → ℕ → List Mark → List ℕ → Mark
mark_by turns frame marks calls = if turns then Loops else (if all_end marks calls then Ends (frame + most marks calls) else Loops)

-- these numbers have their marks
abbrev pub AreTold : (ℕ → List ℕ) → (ℕ → ℕ) → List Bool → List ℕ → List Mark → Type 0
AreTold edges frame turning nodes marks = (v : ℕ) → IsIn nodes v → mark_of marks v ≡ mark_by (get_or turning v false) (frame v) marks (edges v)

-- what is right of a number that reaches no loop: so does none that it has an edge to, and its words are its own and the most of theirs
pub record IsEnd (edges : ℕ → List ℕ) (frame : ℕ → ℕ) (marks : List Mark) (v n : ℕ) : Type 0 where
  pub closed : (w : ℕ) → IsIn (edges v) w → (m : ℕ) × (mark_of marks w ≡ Ends m)
  pub exact : n ≡ frame v + most marks (edges v)

-- what is known of the calls of a unit: who is called is there, and frames are small and few
pub record IsGraph (u : CUnit) : Type 0 where
  pub inside : (v w : ℕ) → IsIn (callees u v) w → w < length u.functions
  pub small : (v : ℕ) → frame_at u v ≤ MAX_FRAME
  pub some : (v : ℕ) → v < length u.functions → 1 ≤ frame_at u v
  pub few : length u.functions < 2 ^ 32

-- a number is known to reach a loop or to reach none
abbrev pub IsKnown : List Mark → ℕ → Type 0
IsKnown marks v = (mark_of marks v ≡ Loops) ⊎ ((n : ℕ) × (mark_of marks v ≡ Ends n))

-- what is told: what reaches no loop has its words; and what reaches one has an edge to such a one, and to none that isn't known
pub record IsTold (edges : ℕ → List ℕ) (frame : ℕ → ℕ) (marks : List Mark) : Type 0 where
  pub ended : (v n : ℕ) → mark_of marks v ≡ Ends n → IsEnd edges frame marks v n
  pub closed : (v w : ℕ) → mark_of marks v ≡ Loops → IsIn (edges v) w → IsKnown marks w
  pub looped : (v : ℕ) → mark_of marks v ≡ Loops → (w : ℕ) × IsIn (edges v) w × (mark_of marks w ≡ Loops)
  pub some : (v n : ℕ) → mark_of marks v ≡ Ends n → 1 ≤ frame v

-- so it is of the functions of a unit, and each is known
pub record IsToldOf (u : CUnit) (marks : List Mark) : Type 0 where
  pub told : IsTold (callees u) (frame_at u) marks
  pub all : length marks ≡ length u.functions
  pub known : (v : ℕ) → v < length u.functions → IsKnown marks v
