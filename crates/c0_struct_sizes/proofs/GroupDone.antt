-- The last group done: what holds wherever a walk stands holds afterwards, and what is known of the numbers of the group is right.
use Rattle.std.proofs.Common.{◌≡◌, ◌⊎◌, inl, inr, ℕ, suc, ◌+◌, ◌-◌, ◌<◌, ◌≤◌, Bool, true, false, List, [], ◌++◌, length, drop, take, get_or, refl, sym, ◌∙◌, subst, arith}
use Rattle.std.specs.Prelude.{◌↔◌}
use Rattle.std.proofs.Math.ListN.{get_or-append}
use Rattle.std.proofs.lemmas.Bool.{cases_lt, false≢true}
use Rattle.std.proofs.lemmas.List.{get_or-take, length-append, length-drop, length-take-le, drop_all, get_or-append_right, take-append-le, take_at}
use Rattle.c0_struct_sizes.specs.declared.walk.Mark.{Mark}
use Rattle.c0_struct_sizes.specs.declared.walk.Mark.TheVariants.{Unseen, Open, Done}
use Rattle.c0_struct_sizes.specs.declared.walk.Group.{Group}
use Rattle.c0_struct_sizes.specs.Graph.{IsIn, Leads, by_edge, by_way, EdgesLead}
use Rattle.c0_struct_sizes.specs.Walk.{WalkState, mark_of, node_at, group_at, IsFollowed, is_done, is_open, is_left, IsGroup, IsBefore, IsWalk, unseen_work, set_all, last_group, last_start, start_node, finished, others_left}
use Rattle.c0_struct_sizes.proofs.WaysThroughGraphs.{seen_below, PlaceOf, place_of, in_at, in_left, in_right, in_parts, in_drop, length-set_all, set_all_cases, reaches_leads, leads_reaches}
use Rattle.c0_struct_sizes.proofs.WalkInvariant.{reach_last, followed_on, all_done}

-- an edge of a group of which no edge is left leads to what is done, or to the group or behind it
abbrev Ends : List Mark → ℕ → ℕ → Type 0
Ends marks start w = (mark_of marks w ≡ Done) ⊎ ((q : ℕ) × ((mark_of marks w ≡ Open q) × (start ≤ q)))

ends : (marks : List Mark) (start : ℕ) (left : List ℕ) (w : ℕ) → left ≡ [] → IsFollowed marks start left w → Ends marks start w
ends marks start left w none (is_done e) = inl e
ends marks start left w none (is_open q e le) = inr (q, (e, le))
ends marks start left w none (is_left i) = absurd (subst (λ (l : List ℕ). IsIn l w) none i)

module _ (edges : ℕ → List ℕ) (count : ℕ) where
  edge_ends : (s : WalkState) → IsWalk edges count s → 0 < length s.groups → length s.todo ≤ others_left s → (i w : ℕ) → last_start s ≤ i → i < length s.path → IsIn (edges (node_at s.path i)) w → Ends s.marks (last_start s) w
  edge_ends s walk some none i w le lt e =
      ends s.marks (last_start s) (drop (others_left s) s.todo) w (drop_all (others_left s) s.todo none) ((walk.groups (last_group s) (omega arith)).followed i w le lt e)

  -- the last group done, where it is known whether its numbers lead to themselves, and what doesn't has edges to listed numbers alone
  group_finished : (s : WalkState) → IsWalk edges count s → 0 < length s.groups → length s.todo ≤ others_left s → (turns : Bool)
      → ((i : ℕ) → last_start s ≤ i → i < length s.path → turns ≡ true ↔ Leads edges (node_at s.path i) (node_at s.path i))
      → (turns ≡ false → (length s.path ≤ suc (last_start s)) × ((u : ℕ) → IsIn (edges (node_at s.path (last_start s))) u → mark_of s.marks u ≡ Done))
      → IsWalk edges count (finished turns s)
  group_finished s w some none turns turning alone =
      let last : ℕ = last_group s in
      let start : ℕ = last_start s in
      let nodes : List ℕ = drop start s.path in
      let marks : List Mark = set_all s.marks nodes Done in
      let flags : List Bool = set_all s.turning nodes turns in
      let listed : List ℕ = s.listed ++ nodes in
      let path : List ℕ = take start s.path in
      let groups : List Group = take last s.groups in
      let old_len : length s.marks ≡ count = w.marks in
      let flags_len : length s.turning ≡ count = w.flags in
      let new_len : length marks ≡ length s.marks = length-set_all s.marks nodes Done in
      let g = w.groups last (omega arith) in
      let in_path : start < length s.path = g.path_in in
      let path_len : length path ≡ start = length-take-le start s.path (omega arith) in
      let nodes_len : length nodes ≡ length s.path - start = length-drop start s.path in
      let listed_len : length listed ≡ length s.listed + length nodes = length-append s.listed nodes in
      let groups_len : length groups ≡ last = length-take-le last s.groups (omega arith) in
      let unseen_few : unseen_work (λ x. 1) 0 marks ≤ unseen_work (λ x. 1) 0 s.marks = all_done (λ x. 1) s.marks nodes in
      let few : length s.listed + length s.path + unseen_work (λ x. 1) 0 s.marks ≤ count = w.few in
      let node_same : (i : ℕ) → i < start → node_at path i ≡ node_at s.path i = λ i h. get_or-take start s.path i 0 h in
      let group_same : (k : ℕ) → k < last → group_at groups k ≡ group_at s.groups k = λ k h. get_or-take last s.groups k _ h in
      let mark_cases : (v : ℕ) → v < count → ((IsIn nodes v × (mark_of marks v ≡ Done)) ⊎ ((IsIn nodes v → ⊥) × (mark_of marks v ≡ mark_of s.marks v)))
      = λ v h. set_all_cases s.marks nodes Done Unseen v (omega arith) in
      let place : (v : ℕ) → IsIn nodes v → PlaceOf s.path start v = λ v h. place_of s.path start v h in
      let here_open : (v : ℕ) → IsIn nodes v → (q : ℕ) × ((mark_of s.marks v ≡ Open q) × (start ≤ q))
      = λ v h.
      let p = place v h in
      (p.place, (subst (λ (x : ℕ). mark_of s.marks x ≡ Open p.place) p.at (w.path.opened p.place p.below).1, p.from)) in
      let not_here : (v : ℕ) → mark_of s.marks v ≡ Done → IsIn nodes v → ⊥ = λ v e h. let o = here_open v h in let f : mark_of s.marks v ≡ Open o.0 = o.1.0 in absurd cc in
      let below : (v : ℕ) (k : Mark) → mark_of s.marks v ≡ k → (k ≡ Unseen → ⊥) → v < count = λ v k e seen. let h = seen_below s.marks Unseen v k e seen in omega arith in
      let kept_done : (v : ℕ) → mark_of s.marks v ≡ Done → mark_of marks v ≡ Done
      = λ v e. elim (mark_cases v (below v Done e (λ f. cc))) [ inl p ↦ p.1 | inr p ↦ p.1 ∙ e ] in
      let here_done : (v : ℕ) → IsIn nodes v → mark_of marks v ≡ Done
      = λ v h. let o = here_open v h in elim (mark_cases v (below v (Open o.0) o.1.0 (λ f. cc))) [ inl c ↦ c.1 | inr c ↦ absurd (c.0 h) ] in
      let now_done : (v q : ℕ) → mark_of s.marks v ≡ Open q → start ≤ q → mark_of marks v ≡ Done
      = λ v q e le. let p = w.path.placed v q e in here_done v (subst (λ (x : ℕ). IsIn nodes x) p.1 (in_drop s.path start q le p.0)) in
      let kept_open : (v q : ℕ) → mark_of s.marks v ≡ Open q → q < start → mark_of marks v ≡ Open q
      = λ v q e under.
      elim (mark_cases v (below v (Open q) e (λ f. cc))) [
        | inl c ↦
            let o = here_open v c.0 in
            let f : mark_of s.marks v ≡ Open o.0 = o.1.0 in
            let same : o.0 ≡ q = cc in
            let above : start ≤ o.0 = o.1.1 in
            absurd (omega arith)
        | inr c ↦ c.1 ∙ e
      ] in
      let end_done : (v : ℕ) → Ends s.marks start v → mark_of marks v ≡ Done
      = λ v h. elim h [ inl d ↦ kept_done v d | inr o ↦ now_done v o.0 o.1.0 o.1.1 ] in
      let new_cases : (v : ℕ) (k : Mark) → mark_of marks v ≡ k → (k ≡ Unseen → ⊥) → ((IsIn nodes v × (k ≡ Done)) ⊎ (mark_of s.marks v ≡ k))
      = λ v k e seen.
      let lim : v < length marks = seen_below marks Unseen v k e seen in
      elim (mark_cases v (omega arith)) [
        | inl c ↦ inl (c.0, sym e ∙ c.1)
        | inr c ↦ inr (sym c.1 ∙ e)
      ] in
      let kept_flag : (v : ℕ) → mark_of s.marks v ≡ Done → get_or flags v false ≡ get_or s.turning v false
      = λ v e. let lim : v < count = below v Done e (λ f. cc) in elim (set_all_cases s.turning nodes turns false v (omega arith)) [ inl c ↦ absurd (not_here v e c.0) | inr c ↦ c.1 ] in
      let here_flag : (v : ℕ) → IsIn nodes v → get_or flags v false ≡ turns
      = λ v h.
      let o = here_open v h in
      let lim : v < count = below v (Open o.0) o.1.0 (λ f. cc) in
      elim (set_all_cases s.turning nodes turns false v (omega arith)) [ inl c ↦ c.1 | inr c ↦ absurd (c.0 h) ] in
      let followed : (k u : ℕ) (left : List ℕ) (from : ℕ) → IsFollowed s.marks from left u → IsFollowed marks from left u
      = λ k u left from h.
      followed_on s.marks marks from left left u
      (λ e. is_done (kept_done u e))
      (λ q e le. elim (cases_lt q start) [ inl under ↦ is_open q (kept_open u q e under) le | inr above ↦ is_done (now_done u q e above) ])
      is_left h in
      record {
        marks = new_len ∙ w.marks;
        flags = length-set_all s.turning nodes turns ∙ w.flags;
        few = omega arith;
        path = record {
          opened = λ i h.
              let under : i < start = omega arith in
              let o = w.path.opened i (omega arith) in
              subst (λ (x : ℕ). (x < count) × (mark_of marks x ≡ Open i)) (sym (node_same i under)) (o.0, kept_open (node_at s.path i) i o.1 under);
          placed = λ v q e.
              elim (new_cases v (Open q) e (λ f. cc)) [
                | inl p ↦ let f : ◌≡◌ {A = Mark} (Open q) Done = p.1 in absurd cc
                | inr old ↦
                    let p = w.path.placed v q old in
                    let under : q < start = elim (cases_lt q start) [
                      | inl lt ↦ lt
                      | inr ge ↦ let f : mark_of marks v ≡ Done = now_done v q old ge in absurd cc
                    ] in
                    (omega arith, node_same q under ∙ p.1)
              ];
          leads = λ i j lt h.
              subst (λ (x : ℕ). Leads edges x (node_at path j)) (sym (node_same i (omega arith)))
              (subst (λ (y : ℕ). Leads edges (node_at s.path i) y) (sym (node_same j (omega arith))) (w.path.leads i j lt (omega arith)));
        };
        done = record {
          closed = λ v u e h.
              elim (new_cases v Done e (λ f. cc)) [
                | inl p ↦ let o = place v p.0 in end_done u (edge_ends s w some none o.place u o.from o.below (subst (λ (x : ℕ). IsIn (edges x) u) (sym o.at) h))
                | inr old ↦ kept_done u (w.done.closed v u old h)
              ];
          turns = λ v e.
              elim (new_cases v Done e (λ f. cc)) [
                | inl p ↦
                    let o = place v p.0 in
                    subst (λ (b : Bool). b ≡ true ↔ Leads edges v v) (sym (here_flag v p.0)) (subst (λ (x : ℕ). turns ≡ true ↔ Leads edges x x) o.at (turning o.place o.from o.below))
                | inr old ↦ subst (λ (b : Bool). b ≡ true ↔ Leads edges v v) (sym (kept_flag v old)) (w.done.turns v old)
              ];
          all = λ v. (
            (λ e. elim (new_cases v Done e (λ f. cc)) [ inl p ↦ in_right s.listed nodes v p.0 | inr old ↦ in_left s.listed nodes v ((w.done.all v).0 old) ]),
            (λ i. elim (in_parts s.listed nodes v i) [ inl a ↦ kept_done v ((w.done.all v).1 a) | inr b ↦ here_done v b ]),
          );
          first = λ i u h flag e. elim (cases_lt i (length s.listed)) [
            | inl under ↦
                let v : ℕ = get_or s.listed i 0 in
                let at : get_or listed i 0 ≡ v = get_or-append s.listed nodes 0 i under in
                let was : get_or s.turning v false ≡ false
                = sym (kept_flag v ((w.done.all v).1 (in_at s.listed i under))) ∙ subst (λ (x : ℕ). get_or flags x false ≡ false) at flag in
                subst (λ (l : List ℕ). IsIn l u) (sym (take-append-le i s.listed nodes (omega arith))) (w.done.first i u under was (subst (λ (x : ℕ). IsIn (edges x) u) at e))
            | inr over ↦
                let v : ℕ = get_or nodes (i - length s.listed) 0 in
                let at : get_or listed i 0 ≡ v = get_or-append_right s.listed nodes (length s.listed) i 0 refl over in
                let here : IsIn nodes v = in_at nodes (i - length s.listed) (omega arith) in
                let loose : turns ≡ false = sym (here_flag v here) ∙ subst (λ (x : ℕ). get_or flags x false ≡ false) at flag in
                let one : length s.path ≤ suc start = (alone loose).0 in
                let o = place v here in
                let from : start ≤ o.place = o.from in
                let inside : o.place < length s.path = o.below in
                let same : start ≡ o.place = omega arith in
                let it : node_at s.path start ≡ v = subst (λ (k : ℕ). node_at s.path k ≡ v) (sym same) o.at in
                let end : length s.listed ≡ i = omega arith in
                subst (λ (l : List ℕ). IsIn l u) (sym (take_at s.listed nodes i end))
                ((w.done.all u).0 ((alone loose).1 u (subst (λ (x : ℕ). IsIn (edges x) u) (at ∙ sym it) e)))
          ];
        };
        groups = λ k h.
            let under : k < last = omega arith in
            let old = w.groups k (omega arith) in
            let o = w.order k last under (omega arith) in
            let ps : ℕ = (group_at s.groups k).path_start in
            let before : ps < start = o.path_before in
            subst (λ (x : Group). IsGroup edges marks path s.todo x) (sym (group_same k under)) (record {
              path_in = omega arith;
              todo_in = old.todo_in;
              followed = λ i u le lt e.
                  followed k u (drop (group_at s.groups k).todo_start s.todo) ps
                  (old.followed i u le (omega arith) (subst (λ (x : ℕ). IsIn (edges x) u) (node_same i (omega arith)) e));
              held = λ u e. subst (λ (x : ℕ). Leads edges x u) (sym (node_same ps before)) (old.held u e);
            });
        order = λ k l lt h.
            subst (λ (x : Group). IsBefore x (group_at groups l)) (sym (group_same k (omega arith)))
            (subst (λ (x : Group). IsBefore (group_at s.groups k) x) (sym (group_same l (omega arith))) (w.order k l lt (omega arith)));
        back = λ i h.
            let under : i < start = omega arith in
            let b = w.back i (omega arith) in
            let a : b.group < length s.groups = b.among in
            let le : (group_at s.groups b.group).path_start ≤ i = b.behind in
            let lower : b.group < last = elim (cases_lt b.group last) [
              | inl lt ↦ lt
              | inr ge ↦
                  let same : b.group ≡ last = omega arith in
                  let bad : start ≤ i = subst (λ (k : ℕ). (group_at s.groups k).path_start ≤ i) same le in
                  absurd (omega arith)
            ] in
            let ps : ℕ = (group_at s.groups b.group).path_start in
            record {
              group = b.group;
              among = omega arith;
              behind = subst (λ (x : Group). x.path_start ≤ i) (sym (group_same b.group lower)) le;
              reaches =
                  subst (λ (x : Group). EdgesLead edges (node_at path i) (node_at path x.path_start)) (sym (group_same b.group lower))
                  (subst (λ (y : ℕ). EdgesLead edges y (node_at path ps)) (sym (node_same i under))
                  (subst (λ (y : ℕ). EdgesLead edges (node_at s.path i) y) (sym (node_same ps (omega arith))) b.reaches));
            };
        within = w.within;
        waiting = λ v lt e.
            elim (mark_cases v lt) [
              | inl c ↦ let f : mark_of marks v ≡ Done = c.1 in absurd cc
              | inr c ↦ w.waiting v lt (sym c.1 ∙ e)
            ];
      }

  -- where the first number of the last group leads to itself, each number of the group does
  all_turn : (s : WalkState) → IsWalk edges count s → 0 < length s.groups → Leads edges (start_node s) (start_node s) → (i : ℕ) → last_start s ≤ i → i < length s.path → Leads edges (node_at s.path i) (node_at s.path i)
  all_turn s w some turns i le lt =
      let start : ℕ = last_start s in
      let back : EdgesLead edges (node_at s.path i) (node_at s.path start) = reach_last edges count s w (last_group s) (omega arith) i lt in
      elim (cases_lt start i) [
        | inl below ↦ reaches_leads edges (node_at s.path i) (node_at s.path start) (node_at s.path i) back (w.path.leads start i below lt)
        | inr above ↦ let same : start ≡ i = omega arith in subst (λ (k : ℕ). Leads edges (node_at s.path k) (node_at s.path k)) same turns
      ]

  -- the first number of a group of several leads to itself
  pub several_turn : (s : WalkState) → IsWalk edges count s → 0 < length s.groups → suc (last_start s) < length s.path → Leads edges (start_node s) (start_node s)
  several_turn s w some more =
      let start : ℕ = last_start s in
      leads_reaches edges (node_at s.path start) (node_at s.path (suc start)) (node_at s.path start) (w.path.leads start (suc start) (omega arith) more)
      (reach_last edges count s w (last_group s) (omega arith) (suc start) more)

  -- what is done leads to what is done alone
  done_leads : (s : WalkState) → IsWalk edges count s → (v u : ℕ) → Leads edges v u → mark_of s.marks v ≡ Done → mark_of s.marks u ≡ Done
  done_leads s w v u (by_edge e) m = w.done.closed v u m e
  done_leads s w v u (by_way {v = a} {u = x} {w = y} e rest) m = done_leads s w x u rest (w.done.closed v x m e)

  -- the edges of a group of one number that has no edge to itself lead to what is done
  alone_done : (s : WalkState) → IsWalk edges count s → 0 < length s.groups → length s.todo ≤ others_left s → length s.path ≤ suc (last_start s)
      → (IsIn (edges (start_node s)) (start_node s) → ⊥)
      → (u : ℕ) → IsIn (edges (start_node s)) u → mark_of s.marks u ≡ Done
  alone_done s w some none one self u e =
      let start : ℕ = last_start s in
      let in_path : start < length s.path = (w.groups (last_group s) (omega arith)).path_in in
      elim (edge_ends s w some none start u (omega arith) in_path e) [
        | inl d ↦ d
        | inr o ↦
            let p = w.path.placed u o.0 o.1.0 in
            let below : o.0 < length s.path = p.0 in
            let from : start ≤ o.0 = o.1.1 in
            let at : o.0 ≡ start = omega arith in
            let same : node_at s.path start ≡ u = subst (λ (k : ℕ). node_at s.path k ≡ u) at p.1 in
            absurd (self (subst (λ (x : ℕ). IsIn (edges (node_at s.path start)) x) (sym same) e))
      ]

  alone_from : (s : WalkState) → IsWalk edges count s → (v : ℕ) → ((u : ℕ) → IsIn (edges v) u → mark_of s.marks u ≡ Done) → (x : ℕ) → Leads edges v x → mark_of s.marks x ≡ Done
  alone_from s w v all x (by_edge e) = all x e
  alone_from s w v all x (by_way {v = a} {u = y} {w = z} e rest) = done_leads s w y x rest (all y e)

  -- so the number doesn't lead to itself
  alone_loose : (s : WalkState) → IsWalk edges count s → 0 < length s.groups → length s.todo ≤ others_left s → length s.path ≤ suc (last_start s)
      → (IsIn (edges (start_node s)) (start_node s) → ⊥)
      → Leads edges (start_node s) (start_node s) → ⊥
  alone_loose s w some none one self l =
      let start : ℕ = last_start s in
      let in_path : start < length s.path = (w.groups (last_group s) (omega arith)).path_in in
      let o : mark_of s.marks (node_at s.path start) ≡ Open start = (w.path.opened start in_path).1 in
      let e : mark_of s.marks (node_at s.path start) ≡ Done = alone_from s w (node_at s.path start) (alone_done s w some none one self) (node_at s.path start) l in
      absurd cc

  -- the one number of the last group leads to itself exactly where it has an edge to itself
  pub alone_turns : (s : WalkState) → IsWalk edges count s → 0 < length s.groups → length s.todo ≤ others_left s → length s.path ≤ suc (last_start s)
      → (self : Bool) → (self ≡ true ↔ IsIn (edges (start_node s)) (start_node s)) → self ≡ true ↔ Leads edges (start_node s) (start_node s)
  alone_turns s w some none one true edge = ((λ h. by_edge (edge.0 refl)), (λ l. refl))
  alone_turns s w some none one false edge = ((λ h. absurd (false≢true h)), (λ l. absurd (alone_loose s w some none one (λ e. false≢true (edge.1 e)) l)))

  -- the last group done, where it is known whether its first number leads to itself
  pub completed : (s : WalkState) → IsWalk edges count s → 0 < length s.groups → length s.todo ≤ others_left s → (turns : Bool) → (turns ≡ true ↔ Leads edges (start_node s) (start_node s)) → IsWalk edges count (finished turns s)
  completed s w some none turns is =
      group_finished s w some none turns
      (λ i le lt. (
        (λ e. all_turn s w some (is.0 e) i le lt),
        (λ l. is.1 (elim (cases_lt (last_start s) i) [
          | inl more ↦ several_turn s w some (omega arith)
          | inr only ↦ let same : i ≡ last_start s = omega arith in subst (λ (k : ℕ). Leads edges (node_at s.path k) (node_at s.path k)) same l
        ])),
      ))
      (λ e. (one e, alone_done s w some none (one e) (λ h. false≢true (sym e ∙ is.1 (by_edge h)))))
    where
      one : turns ≡ false → length s.path ≤ suc (last_start s)
      one e = elim (cases_lt (suc (last_start s)) (length s.path)) [ inl more ↦ absurd (false≢true (sym e ∙ is.1 (several_turn s w some more))) | inr few ↦ few ]
