-- What holds wherever a walk stands holds after each of its steps.
use Rattle.std.proofs.Common.{◌≡◌, ◌≢◌, inl, inr, ℕ, zero, suc, ◌+◌, ◌-◌, ◌<◌, ◌≤◌, Bool, List, [], ◌∷◌, ◌++◌, length, drop, take, sym, ap, ◌∙◌, subst, arith}
use Rattle.std.proofs.Math.ListN.{set, length-set, get_or-append}
use Rattle.std.proofs.Math.Seq.{drop-append_seam, get_or-append_seam}
use Rattle.std.proofs.lemmas.Bool.{cases_lt}
use Rattle.std.proofs.lemmas.List.{get_or-set_same, get_or-set_other, get_or-take, length-take-le, length-append, drop-append-le}
use Rattle.c0_struct_sizes.specs.declared.walk.Mark.{Mark}
use Rattle.c0_struct_sizes.specs.declared.walk.Mark.TheVariants.{Unseen, Open, Done}
use Rattle.c0_struct_sizes.specs.declared.walk.Group.{Group}
use Rattle.c0_struct_sizes.specs.Graph.{IsIn, Leads, by_edge, EdgesLead}
use Rattle.c0_struct_sizes.specs.Walk.{WalkState, mark_of, node_at, group_at, IsFollowed, is_done, is_open, is_left, IsGroup, IsBefore, LeadsBack, AreDone, IsWalk, mark_work, unseen_work, set_all, met, last_group, without_target, merged, target_of}
use Rattle.c0_struct_sizes.proofs.WaysThroughGraphs.{equal, in_left, in_right, in_parts, last_split, reaches_leads, leads_reaches, leads_edge}

-- an edge stays followed where what is done or open stays so, and what is left stays left or is followed
pub followed_on : (old new : List Mark) (start : ℕ) (before after : List ℕ) (w : ℕ)
    → (mark_of old w ≡ Done → IsFollowed new start after w)
    → ((q : ℕ) → mark_of old w ≡ Open q → start ≤ q → IsFollowed new start after w)
    → (IsIn before w → IsFollowed new start after w)
    → IsFollowed old start before w → IsFollowed new start after w
followed_on old new start before after w f g h (is_done e) = f e
followed_on old new start before after w f g h (is_open q e le) = g q e le
followed_on old new start before after w f g h (is_left i) = h i

-- what is told of the numbers that are done, where the same are done
done_same : (edges : ℕ → List ℕ) (old new : List Mark) (turning : List Bool) (listed : List ℕ)
    → ((v : ℕ) → mark_of old v ≡ Done → mark_of new v ≡ Done)
    → ((v : ℕ) → mark_of new v ≡ Done → mark_of old v ≡ Done)
    → AreDone edges old turning listed → AreDone edges new turning listed
done_same edges old new turning listed kept was d = record {
  closed = λ v w e h. kept w (d.closed v w (was v e) h);
  turns = λ v e. d.turns v (was v e);
  all = λ v. ((λ e. (d.all v).0 (was v e)), (λ i. kept v ((d.all v).1 i)));
  first = d.first;
}

-- the work of a number that is met
pub met_work : (weight : ℕ → ℕ) (marks : List Mark) (k v u q : ℕ) → u ≡ k + v → mark_of marks v ≡ Unseen → v < length marks → unseen_work weight k (set marks v (Open q)) + weight u ≡ unseen_work weight k marks
met_work weight [] k v u q at unseen lt = absurd (omega arith)
met_work weight (m ∷ ms) k zero u q at unseen lt =
    let same : u ≡ k = omega arith in
    let mark : mark_work m (weight k) ≡ weight k = ap (λ (x : Mark). mark_work x (weight k)) unseen in
    let one : weight u ≡ weight k = ap weight same in
    omega arith
met_work weight (m ∷ ms) k (suc v) u q at unseen lt =
    let h : unseen_work weight (suc k) (set ms v (Open q)) + weight u ≡ unseen_work weight (suc k) ms = met_work weight ms (suc k) v u q (omega arith) unseen (omega arith) in
    omega arith

one_done : (weight : ℕ → ℕ) (marks : List Mark) (k v : ℕ) → unseen_work weight k (set marks v Done) ≤ unseen_work weight k marks
one_done weight [] k v = omega arith
one_done weight (m ∷ ms) k zero = omega arith
one_done weight (m ∷ ms) k (suc v) = let h : unseen_work weight (suc k) (set ms v Done) ≤ unseen_work weight (suc k) ms = one_done weight ms (suc k) v in omega arith

pub all_done : (weight : ℕ → ℕ) (marks : List Mark) (nodes : List ℕ) → unseen_work weight 0 (set_all marks nodes Done) ≤ unseen_work weight 0 marks
all_done weight marks [] = omega arith
all_done weight marks (v ∷ rest) =
    let h : unseen_work weight 0 (set_all (set marks v Done) rest Done) ≤ unseen_work weight 0 (set marks v Done) = all_done weight (set marks v Done) rest in
    let one : unseen_work weight 0 (set marks v Done) ≤ unseen_work weight 0 marks = one_done weight marks 0 v in
    omega arith

module _ (edges : ℕ → List ℕ) (count : ℕ) where
  -- each number of the path reaches the start of the last group
  pub reach_last : (s : WalkState) → IsWalk edges count s → (last : ℕ) → length s.groups ≡ suc last → (i : ℕ) → i < length s.path → EdgesLead edges (node_at s.path i) (node_at s.path (group_at s.groups last).path_start)
  reach_last s w last len i h =
      let b = w.back i h in
      elim (cases_lt b.group last) [
        | inl below ↦
            let here : last < length s.groups = omega arith in
            let o = w.order b.group last below here in
            inr (reaches_leads edges (node_at s.path i) (node_at s.path (group_at s.groups b.group).path_start) (node_at s.path (group_at s.groups last).path_start) b.reaches
            (w.path.leads (group_at s.groups b.group).path_start (group_at s.groups last).path_start o.path_before (w.groups last here).path_in))
        | inr above ↦
            let a : b.group < length s.groups = b.among in
            let e : b.group ≡ last = omega arith in
            subst (λ (k : ℕ). EdgesLead edges (node_at s.path i) (node_at s.path (group_at s.groups k).path_start)) e b.reaches
      ]

  -- each number of the path leads to what is left of the last group
  pub target_held : (s : WalkState) → IsWalk edges count s → (last : ℕ) → length s.groups ≡ suc last → (x : ℕ) → IsIn (drop (group_at s.groups last).todo_start s.todo) x → (i : ℕ) → i < length s.path → Leads edges (node_at s.path i) x
  target_held s w last len x h i lt =
      reaches_leads edges (node_at s.path i) (node_at s.path (group_at s.groups last).path_start) x (reach_last s w last len i lt) ((w.groups last (omega arith)).held x h)

  -- an edge taken off that is followed for each group
  pub target_dropped : (s : WalkState) → IsWalk edges count s → 0 < length s.todo
      → ((k : ℕ) → k < length s.groups → (group_at s.groups k).todo_start < length s.todo)
      → ((k : ℕ) → k < length s.groups → IsFollowed s.marks (group_at s.groups k).path_start [] (target_of s))
      → (mark_of s.marks (target_of s) ≡ Unseen → ⊥)
      → IsWalk edges count (without_target s)
  target_dropped s w some above followed seen =
      let rest : List ℕ = take (length s.todo - 1) s.todo in
      let x : ℕ = target_of s in
      let split : s.todo ≡ rest ++ x ∷ [] = last_split s.todo some in
      let len : length rest ≡ length s.todo - 1 = length-take-le (length s.todo - 1) s.todo (omega arith) in
      let cut : (k : ℕ) → k < length s.groups → drop (group_at s.groups k).todo_start s.todo ≡ drop (group_at s.groups k).todo_start rest ++ x ∷ []
      = λ k h. let low : (group_at s.groups k).todo_start < length s.todo = above k h in
      ap (drop (group_at s.groups k).todo_start) split ∙ drop-append-le (group_at s.groups k).todo_start rest (x ∷ []) (omega arith) in
      let into : (v : ℕ) → IsIn rest v → IsIn s.todo v = λ v h. subst (λ (l : List ℕ). IsIn l v) (sym split) (in_left rest (x ∷ []) v h) in
      record {
        marks = w.marks;
        flags = w.flags;
        few = w.few;
        path = w.path;
        done = w.done;
        groups = λ k h.
            let g = w.groups k h in
            let low : (group_at s.groups k).todo_start < length s.todo = above k h in
            record {
              path_in = g.path_in;
              todo_in = omega arith;
              followed = λ i u le lt e.
                  followed_on s.marks s.marks (group_at s.groups k).path_start (drop (group_at s.groups k).todo_start s.todo) (drop (group_at s.groups k).todo_start rest) u
                  is_done is_open
                  (λ inside.
                  elim (in_parts (drop (group_at s.groups k).todo_start rest) (x ∷ []) u (subst (λ (l : List ℕ). IsIn l u) (cut k h) inside)) [
                    | inl a ↦ is_left a
                    | inr b ↦
                        elim b [
                          | inl same ↦
                              followed_on s.marks s.marks (group_at s.groups k).path_start [] (drop (group_at s.groups k).todo_start rest) u is_done is_open (λ none. absurd none)
                              (subst (λ (y : ℕ). IsFollowed s.marks (group_at s.groups k).path_start [] y) same (followed k h))
                          | inr none ↦ absurd none
                        ]
                  ])
                  (g.followed i u le lt e);
              held = λ u e. g.held u (subst (λ (l : List ℕ). IsIn l u) (sym (cut k h)) (in_left (drop (group_at s.groups k).todo_start rest) (x ∷ []) u e));
            };
        order = w.order;
        back = w.back;
        within = λ v h. w.within v (into v h);
        waiting = λ v lt e.
            elim (in_parts rest (x ∷ []) v (subst (λ (l : List ℕ). IsIn l v) split (w.waiting v lt e))) [
              | inl a ↦ a
              | inr b ↦ elim b [ inl same ↦ absurd (seen (ap (mark_of s.marks) same ∙ e)) | inr none ↦ absurd none ]
            ];
      }

  -- the last group made a part of the one before it, where the path leads from its start to a number that stands before it
  pub groups_joined : (s : WalkState) → IsWalk edges count s → (m : ℕ) → length s.groups ≡ suc (suc m) → (p : ℕ) → p < (group_at s.groups (suc m)).path_start
      → Leads edges (node_at s.path (group_at s.groups (suc m)).path_start) (node_at s.path p)
      → IsWalk edges count (merged s)
  groups_joined s w m len p before leads =
      let last : ℕ = last_group s in
      let at : last ≡ suc m = omega arith in
      let short : length (take last s.groups) ≡ last = length-take-le last s.groups (omega arith) in
      let same : (k : ℕ) → k < last → group_at (take last s.groups) k ≡ group_at s.groups k = λ k h. get_or-take last s.groups k _ h in
      record {
        marks = w.marks;
        flags = w.flags;
        few = w.few;
        path = w.path;
        done = w.done;
        groups = λ k h. subst (λ (g : Group). IsGroup edges s.marks s.path s.todo g) (sym (same k (omega arith))) (w.groups k (omega arith));
        order = λ k l lt h.
            subst (λ (g : Group). IsBefore g (group_at (take last s.groups) l)) (sym (same k (omega arith)))
            (subst (λ (g : Group). IsBefore (group_at s.groups k) g) (sym (same l (omega arith))) (w.order k l lt (omega arith)));
        back = λ i h.
            let b = w.back i h in
            let kept : (j n : ℕ) → (group_at s.groups n).path_start ≤ j → n < last → EdgesLead edges (node_at s.path j) (node_at s.path (group_at s.groups n).path_start) → LeadsBack edges s.path (take last s.groups) j
            = λ j n le lt r. record {
              group = n;
              among = omega arith;
              behind = subst (λ (g : Group). g.path_start ≤ j) (sym (same n lt)) le;
              reaches = subst (λ (g : Group). EdgesLead edges (node_at s.path j) (node_at s.path g.path_start)) (sym (same n lt)) r;
            } in
            elim (cases_lt b.group last) [
              | inl lower ↦ kept i b.group b.behind lower b.reaches
              | inr upper ↦
                  let a : b.group < length s.groups = b.among in
                  let e : b.group ≡ suc m = omega arith in
                  let r : EdgesLead edges (node_at s.path i) (node_at s.path (group_at s.groups (suc m)).path_start)
                  = subst (λ (k : ℕ). EdgesLead edges (node_at s.path i) (node_at s.path (group_at s.groups k).path_start)) e b.reaches in
                  let under : (group_at s.groups (suc m)).path_start ≤ i = subst (λ (k : ℕ). (group_at s.groups k).path_start ≤ i) e b.behind in
                  let to : Leads edges (node_at s.path i) (node_at s.path p)
                  = reaches_leads edges (node_at s.path i) (node_at s.path (group_at s.groups (suc m)).path_start) (node_at s.path p) r leads in
                  let c = w.back p (omega arith) in
                  let ca : c.group < length s.groups = c.among in
                  let cb : (group_at s.groups c.group).path_start ≤ p = c.behind in
                  let lower : c.group < last = elim (cases_lt c.group last) [
                    | inl lt ↦ lt
                    | inr ge ↦
                        let f : c.group ≡ suc m = omega arith in
                        let bad : (group_at s.groups (suc m)).path_start ≤ p = subst (λ (k : ℕ). (group_at s.groups k).path_start ≤ p) f cb in
                        absurd (omega arith)
                  ] in
                  kept i c.group (omega arith) lower (inr (leads_reaches edges (node_at s.path i) (node_at s.path p) (node_at s.path (group_at s.groups c.group).path_start) to c.reaches))
            ];
        within = w.within;
        waiting = w.waiting;
      }

  -- a number met that was unseen, where each number of the path leads to it
  pub number_met : (s : WalkState) → IsWalk edges count s → (v : ℕ) → v < count → mark_of s.marks v ≡ Unseen
      → ((i : ℕ) → i < length s.path → Leads edges (node_at s.path i) v)
      → ((u : ℕ) → IsIn (edges v) u → u < count)
      → IsWalk edges count (met edges v s)
  number_met s w v lt unseen held low =
      let n : ℕ = length s.path in
      let t : ℕ = length s.todo in
      let m : ℕ = length s.groups in
      let new : Group = record { path_start = n; todo_start = t } in
      let marks : List Mark = set s.marks v (Open n) in
      let path : List ℕ = s.path ++ v ∷ [] in
      let todo : List ℕ = s.todo ++ edges v in
      let groups : List Group = s.groups ++ new ∷ [] in
      let old_len : length s.marks ≡ count = w.marks in
      let path_len : length path ≡ suc n = length-append s.path (v ∷ []) ∙ omega arith in
      let todo_len : length todo ≡ t + length (edges v) = length-append s.todo (edges v) in
      let groups_len : length groups ≡ suc m = length-append s.groups (new ∷ []) ∙ omega arith in
      let mark_other : (u : ℕ) → u ≢ v → mark_of marks u ≡ mark_of s.marks u = λ u ne. get_or-set_other s.marks v u (Open n) Unseen ne in
      let mark_same : mark_of marks v ≡ Open n = get_or-set_same s.marks v (Open n) Unseen (omega arith) in
      let node_old : (i : ℕ) → i < n → node_at path i ≡ node_at s.path i = λ i h. get_or-append s.path (v ∷ []) 0 i h in
      let node_new : node_at path n ≡ v = get_or-append_seam s.path v [] 0 in
      let group_old : (k : ℕ) → k < m → group_at groups k ≡ group_at s.groups k = λ k h. get_or-append s.groups (new ∷ []) _ k h in
      let group_new : group_at groups m ≡ new = get_or-append_seam s.groups new [] _ in
      let kept_done : (u : ℕ) → mark_of s.marks u ≡ Done → mark_of marks u ≡ Done
      = λ u e. mark_other u (λ same. let f : mark_of s.marks v ≡ Done = subst (λ (x : ℕ). mark_of s.marks x ≡ Done) same e in cc) ∙ e in
      let kept_open : (u q : ℕ) → mark_of s.marks u ≡ Open q → mark_of marks u ≡ Open q
      = λ u q e. mark_other u (λ same. let f : mark_of s.marks v ≡ Open q = subst (λ (x : ℕ). mark_of s.marks x ≡ Open q) same e in cc) ∙ e in
      let was : (u : ℕ) (k : Mark) → (k ≡ Open n → ⊥) → mark_of marks u ≡ k → mark_of s.marks u ≡ k
      = λ u k other e. elim (equal u v) [
        | inl same ↦ absurd (other (sym e ∙ subst (λ (x : ℕ). mark_of marks x ≡ Open n) (sym same) mark_same))
        | inr ne ↦ sym (mark_other u ne) ∙ e
      ] in
      let was_done : (u : ℕ) → mark_of marks u ≡ Done → mark_of s.marks u ≡ Done = λ u e. was u Done (λ f. cc) e in
      let met_one : unseen_work (λ x. 1) 0 marks + 1 ≡ unseen_work (λ x. 1) 0 s.marks = met_work (λ x. 1) s.marks 0 v v n (omega arith) unseen (omega arith) in
      let few : length s.listed + length s.path + unseen_work (λ x. 1) 0 s.marks ≤ count = w.few in
      let new_node : (i : ℕ) → n ≤ i → i < length path → node_at path i ≡ v
      = λ i le h. let same : i ≡ n = omega arith in subst (λ (k : ℕ). node_at path k ≡ v) (sym same) node_new in
      let from_new : (u : ℕ) → IsIn (edges v) u → (start : ℕ) → start ≤ t → IsIn (drop start todo) u
      = λ u e start le. subst (λ (l : List ℕ). IsIn l u) (sym (drop-append-le start s.todo (edges v) le)) (in_right (drop start s.todo) (edges v) u e) in
      record {
        marks = length-set s.marks v (Open n) ∙ w.marks;
        flags = w.flags;
        few = omega arith;
        path = record {
          opened = λ i h. elim (cases_lt i n) [
            | inl below ↦
                let o = w.path.opened i below in
                subst (λ (x : ℕ). (x < count) × (mark_of marks x ≡ Open i)) (sym (node_old i below)) (o.0, kept_open (node_at s.path i) i o.1)
            | inr above ↦
                let same : i ≡ n = omega arith in
                subst (λ (k : ℕ). (node_at path k < count) × (mark_of marks (node_at path k) ≡ Open k)) (sym same)
                (subst (λ (x : ℕ). (x < count) × (mark_of marks x ≡ Open n)) (sym node_new) (lt, mark_same))
          ];
          placed = λ u q e. elim (equal u v) [
            | inl same ↦
                let f : mark_of marks v ≡ Open q = subst (λ (x : ℕ). mark_of marks x ≡ Open q) same e in
                let at : q ≡ n = cc in
                (omega arith, subst (λ (k : ℕ). node_at path k ≡ u) (sym at) (node_new ∙ sym same))
            | inr ne ↦
                let p = w.path.placed u q (sym (mark_other u ne) ∙ e) in
                let below : q < n = p.0 in
                (omega arith, node_old q below ∙ p.1)
          ];
          leads = λ i j before h.
              subst (λ (x : ℕ). Leads edges x (node_at path j)) (sym (node_old i (omega arith)))
              (elim (cases_lt j n) [
                | inl below ↦ subst (λ (y : ℕ). Leads edges (node_at s.path i) y) (sym (node_old j below)) (w.path.leads i j before below)
                | inr above ↦ subst (λ (y : ℕ). Leads edges (node_at s.path i) y) (sym (new_node j above h)) (held i (omega arith))
              ]);
        };
        done = done_same edges s.marks marks s.turning s.listed kept_done was_done w.done;
        groups = λ k h. elim (cases_lt k m) [
          | inl below ↦
              let g = w.groups k below in
              let start : ℕ = (group_at s.groups k).path_start in
              let from : ℕ = (group_at s.groups k).todo_start in
              let in_path : start < n = g.path_in in
              let in_todo : from ≤ t = g.todo_in in
              subst (λ (x : Group). IsGroup edges marks path todo x) (sym (group_old k below)) (record {
                path_in = omega arith;
                todo_in = omega arith;
                followed = λ i u le lim e. elim (cases_lt i n) [
                  | inl older ↦
                      followed_on s.marks marks start (drop from s.todo) (drop from todo) u
                      (λ f. is_done (kept_done u f))
                      (λ q f le2. is_open q (kept_open u q f) le2)
                      (λ inside. is_left (subst (λ (l : List ℕ). IsIn l u) (sym (drop-append-le from s.todo (edges v) in_todo)) (in_left (drop from s.todo) (edges v) u inside)))
                      (g.followed i u le older (subst (λ (x : ℕ). IsIn (edges x) u) (node_old i older) e))
                  | inr newer ↦ is_left (from_new u (subst (λ (x : ℕ). IsIn (edges x) u) (new_node i newer lim) e) from in_todo)
                ];
                held = λ u inside.
                    subst (λ (x : ℕ). Leads edges x u) (sym (node_old start in_path))
                    (elim (in_parts (drop from s.todo) (edges v) u (subst (λ (l : List ℕ). IsIn l u) (drop-append-le from s.todo (edges v) in_todo) inside)) [
                      | inl a ↦ g.held u a
                      | inr b ↦ leads_edge edges (node_at s.path start) v u (held start in_path) b
                    ]);
              })
          | inr above ↦
              let same : k ≡ m = omega arith in
              subst (λ (j : ℕ). IsGroup edges marks path todo (group_at groups j)) (sym same)
              (subst (λ (x : Group). IsGroup edges marks path todo x) (sym group_new) (record {
                path_in = omega arith;
                todo_in = omega arith;
                followed = λ i u le lim e. is_left (from_new u (subst (λ (x : ℕ). IsIn (edges x) u) (new_node i le lim) e) t (omega arith));
                held = λ u inside. subst (λ (x : ℕ). Leads edges x u) (sym node_new) (by_edge (subst (λ (l : List ℕ). IsIn l u) (drop-append_seam s.todo (edges v)) inside));
              }))
        ];
        order = λ k l before h.
            subst (λ (x : Group). IsBefore x (group_at groups l)) (sym (group_old k (omega arith)))
            (elim (cases_lt l m) [
              | inl below ↦ subst (λ (x : Group). IsBefore (group_at s.groups k) x) (sym (group_old l below)) (w.order k l before below)
              | inr above ↦
                  let same : l ≡ m = omega arith in
                  let g = w.groups k (omega arith) in
                  subst (λ (j : ℕ). IsBefore (group_at s.groups k) (group_at groups j)) (sym same)
                  (subst (λ (x : Group). IsBefore (group_at s.groups k) x) (sym group_new) (record { path_before = g.path_in; todo_before = g.todo_in }))
            ]);
        back = λ i h. elim (cases_lt i n) [
          | inl below ↦
              let b = w.back i below in
              let a : b.group < m = b.among in
              let le : (group_at s.groups b.group).path_start ≤ i = b.behind in
              let start : ℕ = (group_at s.groups b.group).path_start in
              record {
                group = b.group;
                among = omega arith;
                behind = subst (λ (x : Group). x.path_start ≤ i) (sym (group_old b.group a)) le;
                reaches =
                    subst (λ (x : Group). EdgesLead edges (node_at path i) (node_at path x.path_start)) (sym (group_old b.group a))
                    (subst (λ (y : ℕ). EdgesLead edges y (node_at path start)) (sym (node_old i below))
                    (subst (λ (y : ℕ). EdgesLead edges (node_at s.path i) y) (sym (node_old start (omega arith))) b.reaches));
              }
          | inr above ↦
              let same : i ≡ n = omega arith in
              record {
                group = m;
                among = omega arith;
                behind = subst (λ (x : Group). x.path_start ≤ i) (sym group_new) above;
                reaches = subst (λ (x : Group). EdgesLead edges (node_at path i) (node_at path x.path_start)) (sym group_new) (inl (ap (node_at path) same));
              }
        ];
        within = λ u inside. elim (in_parts s.todo (edges v) u inside) [ inl a ↦ w.within u a | inr b ↦ low u b ];
        waiting = λ u lim e. in_left s.todo (edges v) u (w.waiting u lim (was u Unseen (λ f. cc) e));
      }
