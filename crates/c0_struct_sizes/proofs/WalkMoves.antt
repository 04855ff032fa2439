-- The steps of a walk: each keeps what holds wherever the walk stands, and less is left after it.
use Rattle.std.proofs.Common.{◌≡◌, inl, inr, ℕ, suc, ◌+◌, ◌-◌, ◌<◌, ◌≤◌, Bool, List, [], ◌∷◌, ◌++◌, length, drop, take, sym, subst, arith}
use Rattle.std.proofs.Math.ListN.{set}
use Rattle.std.proofs.lemmas.Bool.{cases_lt}
use Rattle.std.proofs.lemmas.List.{length-append, length-take-le}
use Rattle.c0_struct_sizes.specs.declared.walk.Mark.TheVariants.{Unseen, Open, Done}
use Rattle.c0_struct_sizes.specs.Graph.{IsIn, Leads}
use Rattle.c0_struct_sizes.specs.Walk.{WalkState, mark_of, node_at, group_at, is_done, is_open, IsWalk, met, set_all, last_group, last_start, finished, without_target, merged, target_of, others_left, unseen_work, work}
use Rattle.c0_struct_sizes.proofs.WaysThroughGraphs.{in_at, in_drop}
use Rattle.c0_struct_sizes.proofs.WalkInvariant.{target_held, target_dropped, groups_joined, number_met, met_work, all_done}

module _ (edges : ℕ → List ℕ) (count : ℕ) where
  abbrev Over : WalkState → Type 0
  Over s = IsWalk edges count s

  -- no group starts behind the last one
  last_behind : (s : WalkState) → Over s → (k : ℕ) → k < length s.groups → ((group_at s.groups k).path_start ≤ last_start s) × ((group_at s.groups k).todo_start ≤ others_left s)
  last_behind s w k h =
      elim (cases_lt k (last_group s)) [
        | inl below ↦ let o = w.order k (last_group s) below (omega arith) in let p : (group_at s.groups k).path_start < last_start s = o.path_before in (omega arith, o.todo_before)
        | inr above ↦
            let same : last_group s ≡ k = omega arith in
            subst (λ (j : ℕ). ((group_at s.groups j).path_start ≤ last_start s) × ((group_at s.groups j).todo_start ≤ others_left s)) same (omega arith, omega arith)
      ]

  pub target_below : (s : WalkState) → Over s → others_left s < length s.todo → target_of s < count
  target_below s w left = w.within (target_of s) (in_at s.todo (length s.todo - 1) (omega arith))

  -- a group stands where the path isn't empty
  pub group_there : (s : WalkState) → Over s → (p : ℕ) → mark_of s.marks (target_of s) ≡ Open p → 0 < length s.groups
  group_there s w p placed =
      let at = w.path.placed (target_of s) p placed in
      let b = w.back p at.0 in
      let a : b.group < length s.groups = b.among in
      omega arith

  pub path_there : (s : WalkState) → Over s → 0 < length s.groups → last_start s < length s.path
  path_there s w some = (w.groups (last_group s) (omega arith)).path_in

  -- each number of the path leads to the last edge that is left
  path_leads : (s : WalkState) → Over s → others_left s < length s.todo → (i : ℕ) → i < length s.path → Leads edges (node_at s.path i) (target_of s)
  path_leads s w left i lt =
      let b = w.back i lt in
      let a : b.group < length s.groups = b.among in
      target_held edges count s w (last_group s) (omega arith) (target_of s)
      (in_drop s.todo (others_left s) (length s.todo - 1) (omega arith) (omega arith)) i lt

  pub turned : (s : WalkState) → Over s → others_left s < length s.todo → (p : ℕ) → mark_of s.marks (target_of s) ≡ Open p → p < last_start s → Over (merged s)
  turned s w left p placed before =
      let at = w.path.placed (target_of s) p placed in
      let low : p < length s.path = at.0 in
      let some : 0 < length s.groups = group_there s w p placed in
      let b = w.back p low in
      let a : b.group < length s.groups = b.among in
      let le : (group_at s.groups b.group).path_start ≤ p = b.behind in
      let two : 1 < length s.groups = elim (cases_lt 1 (length s.groups)) [
        | inl h ↦ h
        | inr h ↦
            let same : b.group ≡ last_group s = omega arith in
            let bad : last_start s ≤ p = subst (λ (k : ℕ). (group_at s.groups k).path_start ≤ p) same le in
            absurd (omega arith)
      ] in
      let last : suc (length s.groups - 2) ≡ last_group s = omega arith in
      let start : last_start s < length s.path = path_there s w some in
      groups_joined edges count s w (length s.groups - 2) (omega arith) p
      (subst (λ (k : ℕ). p < (group_at s.groups k).path_start) (sym last) before)
      (subst (λ (k : ℕ). Leads edges (node_at s.path (group_at s.groups k).path_start) (node_at s.path p)) (sym last)
      (subst (λ (x : ℕ). Leads edges (node_at s.path (last_start s)) x) (sym at.1) (path_leads s w left (last_start s) start)))

  pub closed : (s : WalkState) → Over s → others_left s < length s.todo → (p : ℕ) → mark_of s.marks (target_of s) ≡ Open p → last_start s ≤ p → Over (without_target s)
  closed s w left p placed above =
      target_dropped edges count s w (omega arith)
      (λ k h. let l = last_behind s w k h in let le : (group_at s.groups k).todo_start ≤ others_left s = l.1 in omega arith)
      (λ k h. let l = last_behind s w k h in let le : (group_at s.groups k).path_start ≤ last_start s = l.0 in is_open p placed (omega arith))
      (λ e. absurd cc)

  pub passed : (s : WalkState) → Over s → others_left s < length s.todo → mark_of s.marks (target_of s) ≡ Done → Over (without_target s)
  passed s w left is =
      target_dropped edges count s w (omega arith)
      (λ k h. let l = last_behind s w k h in let le : (group_at s.groups k).todo_start ≤ others_left s = l.1 in omega arith)
      (λ k h. is_done is)
      (λ e. absurd cc)

  pub entered : ((v u : ℕ) → IsIn (edges v) u → u < count) → (s : WalkState) → Over s → others_left s < length s.todo → mark_of s.marks (target_of s) ≡ Unseen → Over (met edges (target_of s) s)
  entered inside s w left unseen =
      number_met edges count s w (target_of s) (target_below s w left) unseen (path_leads s w left)
      (inside (target_of s))

  pub entered_falls : (s : WalkState) → Over s → others_left s < length s.todo → mark_of s.marks (target_of s) ≡ Unseen → work edges (met edges (target_of s) s) < work edges s
  entered_falls s w left unseen =
      let v : ℕ = target_of s in
      let low : v < count = target_below s w left in
      let len : length s.marks ≡ count = w.marks in
      let marks : unseen_work (λ x. 2 + length (edges x)) 0 (set s.marks v (Open (length s.path))) + (2 + length (edges v)) ≡ unseen_work (λ x. 2 + length (edges x)) 0 s.marks
      = met_work (λ x. 2 + length (edges x)) s.marks 0 v v (length s.path) (omega arith) unseen (omega arith) in
      let todo : length (s.todo ++ edges v) ≡ length s.todo + length (edges v) = length-append s.todo (edges v) in
      let groups : length (s.groups ++ record { path_start = length s.path; todo_start = length s.todo } ∷ []) ≡ length s.groups + 1 = length-append s.groups (record { path_start = length s.path; todo_start = length s.todo } ∷ []) in
      omega arith

  pub finished_falls : (s : WalkState) → 0 < length s.groups → (turns : Bool) → work edges (finished turns s) < work edges s
  finished_falls s some turns =
      let marks : unseen_work (λ x. 2 + length (edges x)) 0 (set_all s.marks (drop (last_start s) s.path) Done) ≤ unseen_work (λ x. 2 + length (edges x)) 0 s.marks
      = all_done (λ x. 2 + length (edges x)) s.marks (drop (last_start s) s.path) in
      let groups : length (take (last_group s) s.groups) ≡ last_group s = length-take-le (last_group s) s.groups (omega arith) in
      omega arith
