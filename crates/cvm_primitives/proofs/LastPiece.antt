-- The last piece of a copy that ends with a whole page: the loop comes to it, and ends after it; in a copy of one page it is there from the start.
use Rattle.std.proofs.Common.{◌≡◌, ℕ, zero, suc, ◌+◌, ◌-◌, ◌*◌, ◌^◌, ◌<◌, ◌≤◌, List, [], ◌∷◌, length, refl, sym, ap, subst, ⊎_elim, inl, inr, arith}
use Rattle.std.proofs.lemmas.Bool.{cases_lt}
use Rattle.mips_table.specs.declared.inst.Inst.{Inst}
use Rattle.mips_table.specs.declared.inst.Inst.TheVariants.{Addiu}
use Rattle.page_model.specs.Paging.{Pages}
use Rattle.mips_table.specs.Code.{Contents, with_reg, Behind, World, at_with, Reaches, CodeAt}
use Rattle.cvm_primitives.specs.Routines.{RoutineLaws}
use Rattle.masm.specs.Says.{Gives}
use Rattle.masm.specs.Blocks.{loop_code}
use Rattle.masm.specs.Laws.{LoopRuns, From}
use Rattle.cvm_primitives.proofs.BlocksFromOneState.{from_straight, from_later}
use Rattle.cvm_primitives.specs.Copy.{copied, piece_count, piece, copy_cost}
use Rattle.page_model.specs.TableLayout.{TableLayout}
use Rattle.frame_table.specs.View.{Sited}
use Rattle.page_fault.specs.Asked.{PageBlock}
use Rattle.cvm_primitives.specs.View.{steps_of_page, PagesHeld, Marks, CopyGood, UsersIn, CopyArgs, EntryState, number_of_word, entry_state}
use Rattle.cvm_primitives.specs.Sharing.{EndsWhole, LastShared, LastPieceShares}
use Rattle.cvm_primitives.proofs.PartStates.{PieceLaw}
use Rattle.cvm_primitives.specs.Code.{piece_code, copies_code, pieces_code, vm_copy_code}
use Rattle.cvm_primitives.proofs.SharedByRoutines.{held_to}
use Rattle.cvm_primitives.proofs.OnePieceOfMany.{Fits, fits}
use Rattle.cvm_primitives.proofs.CopyLoop.{Copying, held_on, nothing_copied, copied_on, whole_cost, rest_good, turn, pays}
use Rattle.cvm_primitives.proofs.OnePiece.{piece_law, piece_paid, piece_short, run_short}
use Rattle.cvm_primitives.proofs.CopyFromArguments.{numbers_apart, live_range, range_below, copy_asked_from}

-- before the last page a piece copies no word of it
stops_before : (x y n m l : ℕ) → EndsWhole x y n → m < n - 1024 → Fits (x + m) (y + m) (n - m) l → m + l ≤ n - 1024
stops_before x y n m l e lt t =
    let e0 = e.0 in let e1 = e.1 in let e2 = e.2 in let source = t.source in let most = t.most in
    ⊎_elim
    (λ past. ⊎_elim (λ h. absurd (omega arith)) (λ h. absurd (omega arith)) (t.end (omega arith)))
    (λ le. le)
    (cases_lt (n - 1024) (m + l))

-- and the last piece is that page
whole_last : (x y n r l : ℕ) → EndsWhole x y n → r ≡ n - (n - 1024) → Fits (x + (n - 1024)) (y + (n - 1024)) r l → l ≡ 1024
whole_last x y n r l e is t =
    let e0 = e.0 in let e1 = e.1 in let e2 = e.2 in let some = t.some in let most = t.most in
    ⊎_elim
    (λ lt. ⊎_elim (λ h. absurd (omega arith)) (λ h. absurd (omega arith)) (t.end (omega arith)))
    (λ le. omega arith)
    (cases_lt l r)

-- a run from contents that are the same
same_start : (w : World) (c0 c c' : Contents) (d0 d d' : Behind) (n k to : ℕ) → (c ≡ c0) × (d ≡ d0) → Reaches w n (at_with k c0 d0) (at_with to c' d') → Reaches w n (at_with k c d) (at_with to c' d')
same_start w c0 c c' d0 d d' n k to e run = subst (λ c. Reaches w n (at_with k c d) (at_with to c' d')) (sym e.0) (subst (λ d. Reaches w n (at_with k c0 d) (at_with to c' d')) (sym e.1) run)

-- what a block leads to from one state, shown at each place where it stands
from_places : (w : World) (is : List Inst) (n : ℕ) (c0 : Contents) (d0 : Behind) (Q : Contents → Behind → Type 0)
    → ((k : ℕ) → CodeAt w k is → (c' : Contents) × (d' : Behind) × Q c' d' × Reaches w n (at_with k c0 d0) (at_with (k + length is) c' d')) → From w is n c0 d0 Q
from_places w is n c0 d0 Q h = record { by = λ k c d at e. let x = h k at in (x.0, x.1, x.2, same_start w c0 c x.0 d0 d x.1 n k (k + length is) e x.3) }

module _ (w : World) (f : RoutineLaws w) (p : TableLayout) (b : ℕ) (si : Sited p w) (page : PageBlock w p b) (g : EntryState) (v : Pages) (x y n : ℕ) (good : CopyGood p.layout v x y n) (whole : EndsWhole x y n) where
  abbrev body : List Inst
  body = piece_code p page.code

  body_short : length body + 2 ≤ 32768
  body_short = let s = piece_short w p b page in omega arith

  abbrev law : PieceLaw w p b body g
  law = piece_law w f p b si page g

  abbrev Left : ℕ → Contents → Behind → Type 0
  Left m c d = Copying w f p b body body_short g law v x y n good m c d

  abbrev cost : ℕ → ℕ
  cost m = copy_cost (steps_of_page p.layout.pages b) x y n m

  abbrev size : ℕ → ℕ
  size m = piece (x + m) (y + m) (n - m)

  laws : LoopRuns w [] 14 body
  laws = let s = body_short in f.loops [] 14 body (omega arith)

  -- the loop's head with the last page left, reached with what its turn is worth still in hand
  record AtLast (k m : ℕ) (c : Contents) (d : Behind) : Type 0 where
    last : Contents
    disk : Behind
    left : Left (n - 1024) last disk
    steps : ℕ
    paid : steps + cost (n - 1024) ≤ cost m
    first : n ≡ 1024 → last.memory ≡ c.memory
    comes : Reaches w steps (at_with k c d) (at_with k last disk)

  there : (k m : ℕ) (c : Contents) (d : Behind) → m ≡ n - 1024 → Left m c d → AtLast k m c d
  there k m c d e s = record {
    last = c;
    disk = d;
    left = subst (λ m. Left m c d) e s;
    steps = 0;
    paid = let q = ap cost e in omega arith;
    first = λ one. refl;
    comes = f.runs.none w (at_with k c d);
  }

  one_turn : (k m : ℕ) (c : Contents) (d : Behind) → CodeAt w k (loop_code [] 14 body) → m < n → Left m c d
      → (c' : Contents) × (d' : Behind) × Left (m + size m) c' d' × Reaches w (0 + (3 * steps_of_page p.layout.pages b + 600 * size m - 2) + 2) (at_with k c d) (at_with k c' d')
  one_turn k m c d at lt s =
      let r = (turn w f p b body body_short g law v x y n good m lt).by (k + 0 + 1) c d (laws.body_stands k at) s in
      (r.0, r.1, r.2, laws.turns k 0 _ c d c d r.0 r.1 at (f.runs.empty w k c d) s.held.idle (λ z. let left = s.marks.left in absurd (omega arith)) r.3 r.2.held.idle)

  comes_on : (fuel k m : ℕ) (c : Contents) (d : Behind) → CodeAt w k (loop_code [] 14 body) → n - 1024 - m ≤ fuel → m ≤ n - 1024 → Left m c d → AtLast k m c d
  comes_on zero k m c d at le most s = there k m c d (omega arith) s
  comes_on (suc fuel) k m c d at le most s = ⊎_elim
      (λ lt. let t = fits (x + m) (y + m) (n - m) (omega arith) in
      let some = t.some in
      let q = stops_before x y n m (size m) whole lt t in
      let r = one_turn k m c d at (omega arith) s in
      let price = pays w f p b body body_short g law v x y n good m (omega arith) in
      let u = comes_on fuel k (m + size m) r.0 r.1 at (omega arith) q r.2 in
      let paid = u.paid in record {
        last = u.last;
        disk = u.disk;
        left = u.left;
        steps = 0 + (3 * steps_of_page p.layout.pages b + 600 * size m - 2) + 2 + u.steps;
        paid = omega arith;
        first = λ one. absurd (omega arith);
        comes = f.runs.joined w _ u.steps _ _ _ r.3 u.comes;
      })
      (λ ge. there k m c d (omega arith) s)
      (cases_lt m (n - 1024))

  -- a copy's end, behind the loop
  pub record LoopEnds (k : ℕ) (c : Contents) (d : Behind) : Type 0 where
    pub last : Contents
    pub disk : Behind
    pub held : PagesHeld p (copied v x y (n - 1024)) g last disk
    pub left : Marks (x + (n - 1024)) (y + (n - 1024)) 1024 last
    pub first : n ≡ 1024 → last.memory ≡ c.memory
    pub end : Contents
    pub end_disk : Behind
    pub done : PagesHeld p (copied v x y n) g end end_disk
    pub shared : LastShared p x y n end last.memory
    pub steps : ℕ
    pub more : ℕ
    pub within : steps + more ≤ 3 * steps_of_page p.layout.pages b * piece_count x y n + 600 * n + 1
    pub comes : Reaches w steps (at_with k c d) (at_with k last disk)
    pub ends : Reaches w more (at_with k last disk) (at_with (k + length (loop_code [] 14 body)) end end_disk)

  last_turn : (k : ℕ) (c : Contents) (d : Behind) → CodeAt w k (loop_code [] 14 body) → AtLast k 0 c d → LoopEnds k c d
  last_turn k c d at a =
      let m : ℕ = n - 1024 in
      let whole0 = whole.0 in
      let marks = a.left.marks in let left = marks.left in
      let fit = fits (x + (n - 1024)) (y + (n - 1024)) (n - (n - 1024)) (omega arith) in
      let is : size (n - 1024) ≡ 1024 = whole_last x y n (n - (n - 1024)) (size (n - 1024)) whole refl fit in
      let run = (piece_paid w f p b si page g (copied v x y (n - 1024)) (x + (n - 1024)) (y + (n - 1024)) (n - (n - 1024)) (size (n - 1024)) refl (omega arith) (rest_good w f p b body body_short g law v x y n good (n - 1024) (omega arith)) fit a.last a.disk a.left.held marks).by (k + 0 + 1) a.last a.disk (laws.body_stands k at) (refl, refl) in
      let held : PagesHeld p (copied v x y n) g run.0 run.1 = subst (λ k. PagesHeld p (copied v x y k) g run.0 run.1) (omega arith) (held_on p _ _ g run.0 run.1 (copied_on p.layout v x y n (n - 1024) (size (n - 1024)) good.apart (omega arith)) run.2.0) in
      let gone = run.2.1.left in
      let price = pays w f p b body body_short g law v x y n good (n - 1024) (omega arith) in
      let start_cost = whole_cost (steps_of_page p.layout.pages b) x y n in
      let paid = a.paid in
      let back : Reaches w (0 + (3 * steps_of_page p.layout.pages b + 600 * size (n - 1024) - 2) + 2) (at_with k a.last a.disk) (at_with k run.0 run.1) = laws.turns k 0 _ a.last a.disk a.last a.disk run.0 run.1 at (f.runs.empty w k a.last a.disk) a.left.held.idle (λ z. absurd (omega arith)) run.3 held.idle in
      record {
        last = a.last;
        disk = a.disk;
        held = a.left.held;
        left = record { from = marks.from; to = marks.to; left = omega arith };
        first = a.first;
        end = run.0;
        end_disk = run.1;
        done = held;
        shared = run.2.2 is;
        steps = a.steps;
        more = 0 + (3 * steps_of_page p.layout.pages b + 600 * size (n - 1024) - 2) + 2 + (0 + 1);
        within = omega arith;
        comes = a.comes;
        ends = f.runs.joined w _ (0 + 1) _ _ _ back (laws.ends k 0 run.0 run.1 run.0 run.1 at (f.runs.empty w k run.0 run.1) held.idle (omega arith));
      }

  pub loop_ends : (k : ℕ) (c : Contents) (d : Behind) → CodeAt w k (loop_code [] 14 body) → PagesHeld p v g c d → Marks x y n c → LoopEnds k c d
  loop_ends k c d at held marks =
      let from = marks.from in let to = marks.to in let left = marks.left in
      last_turn k c d at (comes_on n k 0 c d at (omega arith) (omega arith) (record { held = held_on p _ _ g c d (nothing_copied p.layout v x y) held; most = omega arith; marks = record { from = omega arith; to = omega arith; left = omega arith } }))

-- VM_COPY whose last piece is a whole page
module _ (w : World) (f : RoutineLaws w) (p : TableLayout) (b : ℕ) (si : Sited p w) (page : PageBlock w p b) (users per : ℕ) (size : ℕ → ℕ) (v : Pages) (c : Contents) (d : Behind) (held : PagesHeld p v (entry_state c d) c d) (us : UsersIn p users per size v c) (u a v' b' n : ℕ)
    (ru : c.regs 20 ≡ u) (ra : c.regs 21 ≡ a) (rv : c.regs 22 ≡ v') (rb : c.regs 23 ≡ b') (rn : c.regs 24 ≡ n) (su : u < 2 ^ 32) (sa : a < 2 ^ 32) (sv : v' < 2 ^ 32) (sb : b' < 2 ^ 32) (sn : n < 2 ^ 32) where
  abbrev from_word : ℕ
  from_word = number_of_word per u a

  abbrev to_word : ℕ
  to_word = number_of_word per v' b'

  abbrev loop_steps : ℕ
  loop_steps = 3 * steps_of_page p.layout.pages b * piece_count from_word to_word n + 600 * n + 1

  abbrev all_steps : ℕ
  all_steps = 598 + 600 * n + steps_of_page p.layout.pages b * (3 * piece_count from_word to_word n)

  abbrev Told : Contents → Behind → Type 0
  Told c' d' = (PagesHeld p (copied v from_word to_word n) (entry_state c d) c' d' × (c'.regs 2 ≡ 1)) × LastPieceShares w p page.code v from_word to_word n all_steps c d c' d'

  pieces_told : EndsWhole from_word to_word n → CopyGood p.layout v from_word to_word n → (c1 : Contents) → c1.memory ≡ c.memory → PagesHeld p v (entry_state c d) c1 d → Marks from_word to_word n c1
      → From w (pieces_code p page.code) (loop_steps + 1) c1 d Told
  pieces_told whole good c1 m h marks = from_places w (pieces_code p page.code) (loop_steps + 1) c1 d Told
      (λ k at. let r = loop_ends w f p b si page (entry_state c d) v from_word to_word n good whole k c1 d (f.runs.front w k (copies_code p page.code) (Addiu 2 0 1 ∷ []) at) h marks in
      let within = r.within in
      let done = r.done in
      let tail = (from_straight w f (Addiu 2 0 1 ∷ []) (Gives 1 ∷ []) r.end r.end_disk (λ c' d'. (c' ≡ with_reg r.end 2 1) × (d' ≡ r.end_disk)) refl done.idle (λ n'. ((refl, tt), (refl, refl)))).by (k + length (copies_code p page.code)) r.end r.end_disk (f.runs.back w k (copies_code p page.code) (Addiu 2 0 1 ∷ []) at) (refl, refl) in
      let is = tail.2.0 in
      let end_run = f.runs.followed w (copies_code p page.code) (Addiu 2 0 1 ∷ []) k r.more 1 r.last r.disk r.end r.end_disk tail.0 tail.1 r.ends tail.3 in
      let moved = held_to p (copied v from_word to_word n) (entry_state c d) r.end r.end_disk tail.0 tail.1 done (ap (λ c. c.memory) is) (ap (λ c. c.special) is) (ap (λ c. c.regs 28) is) (ap (λ c. c.regs 29) is) (ap (λ c. c.regs 30) is) (ap (λ c. c.regs 31) is) tail.2.1 in (
        tail.0,
        tail.1,
        (
          (moved, ap (λ c. c.regs 2) is),
          record {
            place = k;
            stands = at;
            entry = c1;
            memory = m;
            marks = marks;
            last = r.last;
            disk = r.disk;
            held = r.held;
            left = r.left;
            comes = f.runs.later w r.steps all_steps _ _ (omega arith) r.comes;
            ends = f.runs.later w (r.more + 1) all_steps _ _ (omega arith) end_run;
            shared = subst (λ c'. LastShared p from_word to_word n c' r.last.memory) (sym is) (⊎_elim (λ s. inl s) (λ o. inr o) r.shared);
          },
        ),
        f.runs.later w (r.steps + (r.more + 1)) (loop_steps + 1) _ _ (omega arith) (f.runs.joined w r.steps (r.more + 1) _ _ _ r.comes end_run),
      ))

  pub vm_copy_shares : EndsWhole from_word to_word n → CopyArgs users size u a v' b' n → From w (vm_copy_code p users per page.code) all_steps c d Told
  vm_copy_shares whole good =
      from_later w f _ (2 + (24 + (3 + (24 + (7 + (loop_steps + 1 + 1)))))) all_steps c d Told Told (omega arith) (λ c' d' k. k)
      (copy_asked_from w f p b si users per size v (loop_steps + 1) (pieces_code p page.code) Told c d u a v' b' n held.idle us ru ra rv rb rn su sa sv sb sn (run_short w p b page)
      (λ g c1 d1 k y27.
      let cg : CopyGood p.layout v from_word to_word n = record { source = range_below p users per size v c u a n us g.source; target = range_below p users per size v c v' b' n us g.target; from = live_range p users per size v c u a n us g.source; to = live_range p users per size v c v' b' n us g.target; apart = (numbers_apart w f p b si users per size v c u a v' b' n us g.source g.target).1 g.apart } in
      let h1 : PagesHeld p v (entry_state c d) c1 d1 = held_to p v (entry_state c d) c d c1 d1 held k.memory k.special k.r28 k.r29 k.r30 k.r31 k.disk in
      subst (λ d1. From w (pieces_code p page.code) (loop_steps + 1) c1 d1 Told) (sym k.disk)
      (pieces_told whole cg c1 k.memory (subst (λ d1. PagesHeld p v (entry_state c d) c1 d1) k.disk h1) (record { from = k.r26; to = y27; left = k.r14 })))
      (λ nay c1 d1 m s r28 r29 r30 r31 r2 e. absurd (nay good)))

-- the same by another name of the page-fault block's code
pub told_again : (w : World) (p : TableLayout) (users per : ℕ) (v : Pages) (x y n steps : ℕ) (c : Contents) (d : Behind) (A : Contents → Behind → Type 0) (code code' : List Inst) → code ≡ code'
    → From w (vm_copy_code p users per code) steps c d (λ c' d'. A c' d' × LastPieceShares w p code v x y n steps c d c' d') → From w (vm_copy_code p users per code') steps c d (λ c' d'. A c' d' × LastPieceShares w p code' v x y n steps c d c' d')
told_again w p users per v x y n steps c d A code code' e h = subst (λ code. From w (vm_copy_code p users per code) steps c d (λ c' d'. A c' d' × LastPieceShares w p code v x y n steps c d c' d')) e h
