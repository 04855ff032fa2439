-- A walk over a graph that finds which numbers lead to themselves. The numbers that were met and aren't done stand on a path, each of which leads
-- to the next. The path is cut into groups: what is known so far to lie on one cycle is one group. A group is done when no edge from it is left.
use Rattle.std.specs.Prelude.{◌≡◌, ◌↔◌, ℕ, zero, suc, ◌+◌, ◌-◌, ◌<◌, ◌≤◌, Bool, true, false, List, [], ◌∷◌, ◌++◌, length, drop, take, replicate, get_or}
use Rattle.std.proofs.Math.ListN.{set}
use Rattle.c0_struct_sizes.specs.declared.walk.Mark.{Mark}
use Rattle.c0_struct_sizes.specs.declared.walk.Mark.TheVariants.{Unseen, Open, Done}
use Rattle.c0_struct_sizes.specs.declared.walk.Group.{Group}
use Rattle.c0_struct_sizes.specs.declared.walk.Walk.{Walk}
use Rattle.c0_struct_sizes.specs.Graph.{IsIn, Leads, EdgesLead, PartsFirst, edges_in}

-- where a walk stands
pub record WalkState : Type 0 where
  pub marks : List Mark
  pub path : List ℕ
  pub todo : List ℕ
  pub groups : List Group
  pub turning : List Bool
  pub listed : List ℕ

-- where the walk stands that is kept so
abbrev pub walk_state : Walk → WalkState
walk_state w = record {
  marks = w.marks.items;
  path = w.path.items;
  todo = w.todo.items;
  groups = w.groups.items;
  turning = w.turning.items;
  listed = w.listed.items;
}

-- the mark of a number
abbrev pub mark_of : List Mark → ℕ → Mark
mark_of marks v = get_or marks v Unseen

-- the number at a place of the path
abbrev pub node_at : List ℕ → ℕ → ℕ
node_at path i = get_or path i 0

-- the group of a number
abbrev pub group_at : List Group → ℕ → Group
group_at groups k = get_or groups k (record { path_start = 0; todo_start = 0 })

-- an edge to this number needs no more of the group that starts here: the number is done, stands in the group or behind it, or is left to be followed
pub data IsFollowed (marks : List Mark) (start : ℕ) (left : List ℕ) (w : ℕ) : Type 0 where
  is_done : mark_of marks w ≡ Done → IsFollowed marks start left w
  is_open : (q : ℕ) → mark_of marks w ≡ Open q → start ≤ q → IsFollowed marks start left w
  is_left : IsIn left w → IsFollowed marks start left w

-- what holds of a group: each edge of it and of those behind it is followed or left, and its first number leads to what is left
pub record IsGroup (edges : ℕ → List ℕ) (marks : List Mark) (path todo : List ℕ) (g : Group) : Type 0 where
  pub path_in : g.path_start < length path
  pub todo_in : g.todo_start ≤ length todo
  pub followed : (i w : ℕ) → g.path_start ≤ i → i < length path → IsIn (edges (node_at path i)) w → IsFollowed marks g.path_start (drop g.todo_start todo) w
  pub held : (w : ℕ) → IsIn (drop g.todo_start todo) w → Leads edges (node_at path g.path_start) w

-- a group stands before another
pub record IsBefore (g h : Group) : Type 0 where
  pub path_before : g.path_start < h.path_start
  pub todo_before : g.todo_start ≤ h.todo_start

-- the number at a place of the path leads back to the start of a group, or is it
pub record LeadsBack (edges : ℕ → List ℕ) (path : List ℕ) (groups : List Group) (i : ℕ) : Type 0 where
  pub group : ℕ
  pub among : group < length groups
  pub behind : (group_at groups group).path_start ≤ i
  pub reaches : EdgesLead edges (node_at path i) (node_at path (group_at groups group).path_start)

-- the open numbers are those of the path, and each leads to all that stand behind it
pub record IsOpenPath (edges : ℕ → List ℕ) (count : ℕ) (marks : List Mark) (path : List ℕ) : Type 0 where
  pub opened : (i : ℕ) → i < length path → (node_at path i < count) × (mark_of marks (node_at path i) ≡ Open i)
  pub placed : (v q : ℕ) → mark_of marks v ≡ Open q → (q < length path) × (node_at path q ≡ v)
  pub leads : (i j : ℕ) → i < j → j < length path → Leads edges (node_at path i) (node_at path j)

-- the numbers that are done have edges to such alone, it is known which of them lead to themselves, and they are listed, parts first
pub record AreDone (edges : ℕ → List ℕ) (marks : List Mark) (turning : List Bool) (listed : List ℕ) : Type 0 where
  pub closed : (v w : ℕ) → mark_of marks v ≡ Done → IsIn (edges v) w → mark_of marks w ≡ Done
  pub turns : (v : ℕ) → mark_of marks v ≡ Done → get_or turning v false ≡ true ↔ Leads edges v v
  pub all : (v : ℕ) → mark_of marks v ≡ Done ↔ IsIn listed v
  pub first : PartsFirst edges listed turning

-- the work of a mark, where meeting its number makes so much
abbrev pub mark_work : Mark → ℕ → ℕ
mark_work Unseen n = n
mark_work (Open q) n = 0
mark_work Done n = 0

-- the work of meeting the numbers, from k on, that are unseen
abbrev pub unseen_work : (ℕ → ℕ) → ℕ → List Mark → ℕ
unseen_work weight k [] = 0
unseen_work weight k (m ∷ ms) = mark_work m (weight k) + unseen_work weight (suc k) ms

-- what holds wherever a walk over so many numbers stands
pub record IsWalk (edges : ℕ → List ℕ) (count : ℕ) (s : WalkState) : Type 0 where
  pub marks : length s.marks ≡ count
  pub flags : length s.turning ≡ count
  pub few : length s.listed + length s.path + unseen_work (λ v. 1) 0 s.marks ≤ count
  pub path : IsOpenPath edges count s.marks s.path
  pub done : AreDone edges s.marks s.turning s.listed
  pub groups : (k : ℕ) → k < length s.groups → IsGroup edges s.marks s.path s.todo (group_at s.groups k)
  pub order : (k l : ℕ) → k < l → l < length s.groups → IsBefore (group_at s.groups k) (group_at s.groups l)
  pub back : (i : ℕ) → i < length s.path → LeadsBack edges s.path s.groups i
  pub within : (v : ℕ) → IsIn s.todo v → v < count
  pub waiting : (v : ℕ) → v < count → mark_of s.marks v ≡ Unseen → IsIn s.todo v

-- this number met: it is a group of its own, and its edges are left
abbrev pub met : (ℕ → List ℕ) → ℕ → WalkState → WalkState
met edges v s = record {
  marks = set s.marks v (Open (length s.path));
  path = s.path ++ v ∷ [];
  todo = s.todo ++ edges v;
  groups = s.groups ++ record { path_start = length s.path; todo_start = length s.todo } ∷ [];
  turning = s.turning;
  listed = s.listed;
}

-- a value set at each of these places
abbrev pub set_all : {A : Type 0} → List A → List ℕ → A → List A
set_all xs [] a = xs
set_all xs (i ∷ is) a = set_all (set xs i a) is a

-- the number of the last group
abbrev pub last_group : WalkState → ℕ
last_group s = length s.groups - 1

-- where the last group starts on the path
abbrev pub last_start : WalkState → ℕ
last_start s = (group_at s.groups (last_group s)).path_start

-- the last group done: its numbers lead to themselves or not
abbrev pub finished : Bool → WalkState → WalkState
finished turns s = record {
  marks = set_all s.marks (drop (last_start s) s.path) Done;
  path = take (last_start s) s.path;
  todo = s.todo;
  groups = take (last_group s) s.groups;
  turning = set_all s.turning (drop (last_start s) s.path) turns;
  listed = s.listed ++ drop (last_start s) s.path;
}

-- the last edge left taken off
abbrev pub without_target : WalkState → WalkState
without_target s = record s { todo = take (length s.todo - 1) s.todo }

-- the last group made a part of the one before it
abbrev pub merged : WalkState → WalkState
merged s = record s { groups = take (last_group s) s.groups }

-- the last number whose edge is left
abbrev pub target_of : WalkState → ℕ
target_of s = get_or s.todo (length s.todo - 1) 0

-- how many edges are left that aren't of the last group
abbrev pub others_left : WalkState → ℕ
others_left s = (group_at s.groups (last_group s)).todo_start

-- how much is left of a walk
abbrev pub work : (ℕ → List ℕ) → WalkState → ℕ
work edges s = unseen_work (λ v. 2 + length (edges v)) 0 s.marks + length s.todo + length s.groups

-- what holds wherever a walk over listed edges stands
abbrev pub IsWalkOver : List (List ℕ) → WalkState → Type 0
IsWalkOver lists s = IsWalk (edges_in lists) (length lists) s

-- less is left of it
abbrev pub WalkGoesOn : List (List ℕ) → WalkState → WalkState → Type 0
WalkGoesOn lists old new = work (edges_in lists) new < work (edges_in lists) old

-- the first number of the last group
abbrev pub start_node : WalkState → ℕ
start_node s = node_at s.path (last_start s)

-- the numbers below another
abbrev pub numbers_below : ℕ → List ℕ
numbers_below zero = []
numbers_below (suc n) = numbers_below n ++ n ∷ []

-- where a walk over so many numbers begins
abbrev pub walk_start : ℕ → WalkState
walk_start count = record { marks = replicate count Unseen; path = []; todo = numbers_below count; groups = []; turning = replicate count false; listed = [] }
