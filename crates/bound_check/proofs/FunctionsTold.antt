-- What is told of the functions is right: one after another in an order in which callees come first.
use Rattle.std.proofs.Common.{◌≡◌, ◌⊎◌, inl, inr, ℕ, zero, suc, ◌+◌, ◌*◌, ◌<◌, ◌≤◌, max, Bool, true, false, ◌&&◌, if◌then◌else◌, List, [], ◌∷◌, Vec, Global, map, length, take, get_or, refl, sym, ap, ◌∙◌, subst, arith}
use Rattle.std.specs.Prelude.{slice_get}
use Rattle.std.proofs.Math.ListN.{set}
use Rattle.std.proofs.lemmas.Bool.{and_parts, false≢true}
use Rattle.std.proofs.lemmas.List.{get_or-set_same, get_or-set_other, get_or-take, length-take-le, length-map, take_more}
use Rattle.c0_tree.specs.Tree.{CFunction, CUnit}
use Rattle.c0_meaning.specs.CallChain.{frame_at}
use Rattle.bound_check.specs.declared.marks.Mark.{Mark}
use Rattle.bound_check.specs.declared.marks.Mark.TheVariants.{Unseen, Ends, Loops}
use Rattle.c0_struct_sizes.specs.Graph.{IsIn, Leads, by_edge, by_way, edges_in, IsOrder}
use Rattle.bound_check.specs.Calls.{all_called, called_by, called_from, callees}
use Rattle.bound_check.specs.Marks.{mark_of, told_words, most, tells_no_loop, all_end, mark_by, AreTold, IsGraph, IsKnown, IsToldOf, MAX_FRAME}
use Rattle.c0_struct_sizes.proofs.WaysThroughGraphs.{seen_below, equal, in_at, in_parts, PlaceOf, place_of, leads_on}

-- what is told of these numbers stays where their marks stay
most_kept : (old new : List Mark) (ws : List ℕ) → ((w : ℕ) → IsIn ws w → mark_of new w ≡ mark_of old w) → most new ws ≡ most old ws
most_kept old new [] h = refl
most_kept old new (w ∷ ws) h =
    ap (λ n. max n (most new ws)) (ap told_words (h w (inl refl))) ∙ ap (λ n. max (told_words (mark_of old w)) n) (most_kept old new ws (λ v i. h v (inr i)))

ends_kept : (old new : List Mark) (ws : List ℕ) → ((w : ℕ) → IsIn ws w → mark_of new w ≡ mark_of old w) → all_end new ws ≡ all_end old ws
ends_kept old new [] h = refl
ends_kept old new (w ∷ ws) h =
    ap (λ b. b && all_end new ws) (ap tells_no_loop (h w (inl refl))) ∙ ap (λ b. tells_no_loop (mark_of old w) && b) (ends_kept old new ws (λ v i. h v (inr i)))

-- the most words are no more than what each is at most
pub most_below : (marks : List Mark) (ws : List ℕ) (limit : ℕ) → ((w : ℕ) → told_words (mark_of marks w) ≤ limit) → most marks ws ≤ limit
most_below marks [] limit h = omega arith
most_below marks (w ∷ ws) limit h =
    let first : told_words (mark_of marks w) ≤ limit = h w in
    let rest : most marks ws ≤ limit = most_below marks ws limit h in
    omega arith

-- each of these numbers reaches no loop, or one isn't known to reach none
ended : (k : Mark) → tells_no_loop k ≡ true → (n : ℕ) × (k ≡ Ends n)
ended Unseen e = absurd (false≢true e)
ended (Ends n) e = (n, refl)
ended Loops e = absurd (false≢true e)

all_ended : (marks : List Mark) (ws : List ℕ) → all_end marks ws ≡ true → (w : ℕ) → IsIn ws w → (n : ℕ) × (mark_of marks w ≡ Ends n)
all_ended marks [] h w i = absurd i
all_ended marks (x ∷ ws) h w i =
    let both = and_parts (tells_no_loop (mark_of marks x)) (all_end marks ws) h in
    elim i [
      | inl same ↦ subst (λ (y : ℕ). (n : ℕ) × (mark_of marks y ≡ Ends n)) same (ended (mark_of marks x) both.0)
      | inr rest ↦ all_ended marks ws both.1 w rest
    ]

some_not : (marks : List Mark) (ws : List ℕ) → all_end marks ws ≡ false → (w : ℕ) × IsIn ws w × (tells_no_loop (mark_of marks w) ≡ false)
some_not marks [] h = absurd (false≢true (sym h))
some_not marks (x ∷ ws) h = by_first (tells_no_loop (mark_of marks x)) refl h (some_not marks ws)
  where
    by_first : (b : Bool) → tells_no_loop (mark_of marks x) ≡ b → (b && all_end marks ws) ≡ false → (all_end marks ws ≡ false → (w : ℕ) × IsIn ws w × (tells_no_loop (mark_of marks w) ≡ false))
        → (w : ℕ) × IsIn (x ∷ ws) w × (tells_no_loop (mark_of marks w) ≡ false)
    by_first false e f rest = (x, inl refl, e)
    by_first true e f rest = let r = rest f in (r.0, inr r.1, r.2)

-- which of the three a mark is
abbrev chosen : Bool → Bool → ℕ → Mark
chosen t a n = if t then Loops else (if a then Ends n else Loops)

chosen_known : (t a : Bool) (n : ℕ) → (chosen t a n ≡ Loops) ⊎ ((m : ℕ) × (chosen t a n ≡ Ends m))
chosen_known true a n = inl refl
chosen_known false true n = inr (n, refl)
chosen_known false false n = inl refl

chosen_ends : (t a : Bool) (n m : ℕ) → chosen t a n ≡ Ends m → (a ≡ true) × (m ≡ n)
chosen_ends true a n m e = absurd cc
chosen_ends false true n m e = (refl, let same : n ≡ m = cc in sym same)
chosen_ends false false n m e = absurd cc

chosen_loops : (t a : Bool) (n : ℕ) → chosen t a n ≡ Loops → (t ≡ true) ⊎ (a ≡ false)
chosen_loops true a n e = inl refl
chosen_loops false true n e = absurd cc
chosen_loops false false n e = inr refl

chosen_small : (t a : Bool) (n : ℕ) → told_words (chosen t a n) ≤ n
chosen_small true a n = omega arith
chosen_small false true n = omega arith
chosen_small false false n = omega arith

chosen_turns : (t a : Bool) (n : ℕ) → t ≡ true → chosen t a n ≡ Loops
chosen_turns true a n e = refl
chosen_turns false a n e = absurd (false≢true e)

take_in : (xs : List ℕ) (j i w : ℕ) → j ≤ i → IsIn (take j xs) w → IsIn (take i xs) w
take_in xs zero i w le h = absurd h
take_in [] (suc j) i w le h = absurd h
take_in (x ∷ xs) (suc j) zero w le h = absurd (omega arith)
take_in (x ∷ xs) (suc j) (suc i) w le h = elim h [ inl e ↦ inl e | inr r ↦ inr (take_in xs j i w (omega arith) r) ]

module _ (edges : ℕ → List ℕ) (frame : ℕ → ℕ) (count : ℕ) (nodes : List ℕ) (turning : List Bool) (order : IsOrder edges count nodes turning) where
  -- one more number has its mark
  pub told_more : (marks : List Mark) (i : ℕ) (mark : Mark) → length marks ≡ count → i < length nodes
      → mark ≡ mark_by (get_or turning (get_or nodes i 0) false) (frame (get_or nodes i 0)) marks (edges (get_or nodes i 0))
      → AreTold edges frame turning (take i nodes) marks → AreTold edges frame turning (take (i + 1) nodes) (set marks (get_or nodes i 0) mark)
  told_more marks i mark len lt is right v h =
      elim (in_parts (take i nodes) (u ∷ []) v (subst (λ (l : List ℕ). IsIn l v) (take_more nodes i 0 lt) h)) [
        | inl before ↦ kept v before ∙ (right v before ∙ same)
        | inr last ↦ elim last [
          | inl e ↦
              subst (λ (x : ℕ). mark_of new x ≡ mark_by (get_or turning x false) (frame x) marks (edges x)) e (get_or-set_same marks u mark Unseen low ∙ is) ∙ same
          | inr none ↦ absurd none
        ]
      ]
    where
      u : ℕ
      u = get_or nodes i 0

      new : List Mark
      new = set marks u mark

      low : u < length marks
      low = let l : u < count = order.within u (in_at nodes i lt) in omega arith

      kept : (w : ℕ) → IsIn (take i nodes) w → mark_of new w ≡ mark_of marks w
      kept w before = elim (equal w u) [
        | inl e ↦
            subst (λ (x : ℕ). mark_of new x ≡ mark_of marks x) (sym e)
            (get_or-set_same marks u mark Unseen low ∙ (is ∙ sym (right u (subst (λ (x : ℕ). IsIn (take i nodes) x) e before))))
        | inr ne ↦ get_or-set_other marks u w mark Unseen ne
      ]

      place : PlaceOf (take (i + 1) nodes) 0 v
      place = place_of (take (i + 1) nodes) 0 v h

      calls : get_or turning v false ≡ false → (w : ℕ) → IsIn (edges v) w → mark_of new w ≡ mark_of marks w
      calls loose w e =
          let all : length (take (i + 1) nodes) ≡ i + 1 = length-take-le (i + 1) nodes (omega arith) in
          let below : place.place < length (take (i + 1) nodes) = place.below in
          let at : get_or nodes place.place 0 ≡ v = sym (get_or-take (i + 1) nodes place.place 0 (omega arith)) ∙ place.at in
          kept w (take_in nodes place.place i w (omega arith)
          (order.first place.place w (omega arith) (subst (λ (x : ℕ). get_or turning x false ≡ false) (sym at) loose) (subst (λ (x : ℕ). IsIn (edges x) w) (sym at) e)))

      by_turn : (t : Bool) → (t ≡ false → (w : ℕ) → IsIn (edges v) w → mark_of new w ≡ mark_of marks w) → mark_by t (frame v) marks (edges v) ≡ mark_by t (frame v) new (edges v)
      by_turn true stay = refl
      by_turn false stay =
          ap (λ (b : Bool). if b then Ends (frame v + most marks (edges v)) else Loops) (sym (ends_kept marks new (edges v) (stay refl)))
          ∙ ap (λ (n : ℕ). if all_end new (edges v) then Ends (frame v + n) else Loops) (sym (most_kept marks new (edges v) (stay refl)))

      same : mark_by (get_or turning v false) (frame v) marks (edges v) ≡ mark_by (get_or turning v false) (frame v) new (edges v)
      same = by_turn (get_or turning v false) calls

  -- its words are no more than those of one frame more
  pub small_more : (marks : List Mark) (i : ℕ) (mark : Mark) → length marks ≡ count → i < length nodes
      → mark ≡ mark_by (get_or turning (get_or nodes i 0) false) (frame (get_or nodes i 0)) marks (edges (get_or nodes i 0)) → frame (get_or nodes i 0) ≤ MAX_FRAME
      → ((v : ℕ) → told_words (mark_of marks v) ≤ i * MAX_FRAME) → (v : ℕ) → told_words (mark_of (set marks (get_or nodes i 0) mark) v) ≤ (i + 1) * MAX_FRAME
  small_more marks i mark len lt is frame_small small v =
      let u : ℕ = get_or nodes i 0 in
      let l : u < count = order.within u (in_at nodes i lt) in
      elim (equal v u) [
        | inl e ↦
            let at : told_words (mark_of (set marks u mark) u) ≡ told_words mark = ap told_words (get_or-set_same marks u mark Unseen (omega arith)) in
            let le : told_words (mark_by (get_or turning u false) (frame u) marks (edges u)) ≤ frame u + most marks (edges u) = chosen_small (get_or turning u false) (all_end marks (edges u)) (frame u + most marks (edges u)) in
            let all : most marks (edges u) ≤ i * MAX_FRAME = most_below marks (edges u) (i * MAX_FRAME) small in
            let eq : told_words mark ≡ told_words (mark_by (get_or turning u false) (frame u) marks (edges u)) = ap told_words is in
            subst (λ (x : ℕ). told_words (mark_of (set marks u mark) x) ≤ (i + 1) * MAX_FRAME) (sym e) (omega (arith, at, le, all, eq, frame_small))
        | inr ne ↦
            let at : told_words (mark_of (set marks u mark) v) ≡ told_words (mark_of marks v) = ap told_words (get_or-set_other marks u v mark Unseen ne) in
            let le : told_words (mark_of marks v) ≤ i * MAX_FRAME = small v in
            omega (arith, at, le)
      ]

-- the calls of the functions, one list after another
pub calls_there : (fs : List CFunction) (v : ℕ) → edges_in (map (λ f. called_by f.body) fs) v ≡ called_from (slice_get fs v)
calls_there [] v = refl
calls_there (f ∷ fs) zero = refl
calls_there (f ∷ fs) (suc v) = calls_there fs v

module _ (u : CUnit) where
  -- the edges that are listed are the calls
  pub calls_listed : (graph : List (Vec ℕ Global)) → map (λ x. x.items) graph ≡ all_called u → (v : ℕ) → edges_in (map (λ x. x.items) graph) v ≡ callees u v
  calls_listed graph e v = ap (λ (l : List (List ℕ)). edges_in l v) e ∙ calls_there u.functions v

  pub all_listed : (graph : List (Vec ℕ Global)) → map (λ x. x.items) graph ≡ all_called u → length graph ≡ length u.functions
  all_listed graph e = sym (length-map graph (λ x. x.items)) ∙ (ap (λ (l : List (List ℕ)). length l) e ∙ length-map u.functions (λ f. called_by f.body))

-- at the end all is told
module _ (u : CUnit) (graph : IsGraph u) (nodes : List ℕ) (turning : List Bool) (order : IsOrder (callees u) (length u.functions) nodes turning)
    (marks : List Mark) (len : length marks ≡ length u.functions) (right : AreTold (callees u) (frame_at u) turning nodes marks) where
  is : (v : ℕ) → v < length u.functions → mark_of marks v ≡ chosen (get_or turning v false) (all_end marks (callees u v)) (frame_at u v + most marks (callees u v))
  is v lt = right v (order.all v lt)

  known : (v : ℕ) → v < length u.functions → IsKnown marks v
  known v lt = subst (λ (m : Mark). (m ≡ Loops) ⊎ ((n : ℕ) × (m ≡ Ends n))) (sym (is v lt)) (chosen_known (get_or turning v false) (all_end marks (callees u v)) (frame_at u v + most marks (callees u v)))

  below : (v : ℕ) (k : Mark) → mark_of marks v ≡ k → (k ≡ Unseen → ⊥) → v < length u.functions
  below v k e seen = let lt : v < length marks = seen_below marks Unseen v k e seen in omega arith

  -- what leads to itself has an edge to such a one
  turning_next : {v x : ℕ} → Leads (callees u) v x → Leads (callees u) x v → (w : ℕ) × IsIn (callees u v) w × Leads (callees u) w w
  turning_next {v} {x} (by_edge h) back = (x, h, leads_on (callees u) back (by_edge h))
  turning_next {v} {x} (by_way {u = y} h rest) back = (y, h, leads_on (callees u) rest (leads_on (callees u) back (by_edge h)))

  looped : (v : ℕ) → mark_of marks v ≡ Loops → (w : ℕ) × IsIn (callees u v) w × (mark_of marks w ≡ Loops)
  looped v e =
      let lt : v < length u.functions = below v Loops e (λ f. cc) in
      elim (chosen_loops (get_or turning v false) (all_end marks (callees u v)) (frame_at u v + most marks (callees u v)) (sym (is v lt) ∙ e)) [
        | inl turns ↦
            let turn = (order.turns v lt).0 turns in
            let n = turning_next turn turn in
            let low : n.0 < length u.functions = graph.inside v n.0 n.1 in
            (n.0, n.1, is n.0 low ∙ chosen_turns (get_or turning n.0 false) (all_end marks (callees u n.0)) (frame_at u n.0 + most marks (callees u n.0)) ((order.turns n.0 low).1 n.2))
        | inr not ↦
            let n = some_not marks (callees u v) not in
            (n.0, n.1, elim (known n.0 (graph.inside v n.0 n.1)) [ inl loops ↦ loops | inr end ↦ absurd (false≢true (sym n.2 ∙ ap tells_no_loop end.1)) ])
      ]

  pub all_told : IsToldOf u marks
  all_told = record {
    told = record {
      ended = λ v n e.
          let r = chosen_ends (get_or turning v false) (all_end marks (callees u v)) (frame_at u v + most marks (callees u v)) n (sym (is v (below v (Ends n) e (λ f. cc))) ∙ e) in
          record { closed = all_ended marks (callees u v) r.0; exact = r.1 };
      closed = λ v w e h. known w (graph.inside v w h);
      looped = looped;
      some = λ v n e. graph.some v (below v (Ends n) e (λ f. cc));
    };
    all = len;
    known = known;
  }
