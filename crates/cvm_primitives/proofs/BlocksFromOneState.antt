-- Blocks from one state: what each block leads to is said at that very state, and no predicate has to be carried along. All of it
-- from the laws that masm and page_model state.
use Rattle.std.proofs.Common.{◌≡◌, ◌≢◌, ℕ, zero, suc, ◌+◌, ◌/◌, ◌<◌, ◌≤◌, ◌⊎◌, true, List, [], ◌++◌, length, refl, sym, subst, ⊎_elim, inl, inr, arith}
use Rattle.std.proofs.lemmas.Bool.{cases_eq}
use Rattle.mips_table.specs.declared.inst.Inst.{Inst}
use Rattle.mips_table.specs.Device.{Idle}
use Rattle.mips_table.specs.Code.{Contents, reg, Behind, World, at_with, Reaches, CodeAt, Does}
use Rattle.masm.specs.Says.{Says, straight, AllSaid, sayings, tellings}
use Rattle.masm.specs.Blocks.{when_code, loop_code}
use Rattle.masm.specs.Laws.{LoopRuns, From}
use Rattle.page_model.specs.Paging.{PageLayout, IsUserFrame, IsFrame, Valid, MapsTo}
use Rattle.cvm_primitives.specs.Routines.{RoutineLaws}

pub names_own : (e : ℕ) → Valid e → MapsTo e (e / 4096)
names_own e h = omega arith

pub user_or_zero : (l : PageLayout) (f : ℕ) → IsFrame l f → (f ≡ l.zeros) ⊎ (IsUserFrame l f)
user_or_zero l f h = ⊎_elim (λ e. inl e) (λ ne. let h0 = h.0 in inr (omega arith, h.1)) (cases_eq f l.zeros)

-- the run from the state that is meant, put in the place of the one that is given
from_here : (w : World) (c0 c c' : Contents) (d0 d d' : Behind) (n m to : ℕ) → (c ≡ c0) × (d ≡ d0) → Reaches w m (at_with n c0 d0) (at_with to c' d') → Reaches w m (at_with n c d) (at_with to c' d')
from_here w c0 c c' d0 d d' n m to e run = subst (λ c. Reaches w m (at_with n c d) (at_with to c' d')) (sym e.0) (subst (λ d. Reaches w m (at_with n c0 d) (at_with to c' d')) (sym e.1) run)

-- the same code by another name
pub renamed : (w : World) (code : List Inst → List Inst) (a b : List Inst) (n : ℕ) (c : Contents) (d : Behind) (Q : Contents → Behind → Type 0) → a ≡ b → From w (code a) n c d Q → From w (code b) n c d Q
renamed w code a b n c d Q e h = subst (λ a. From w (code a) n c d Q) e h

module _ (w : World) (f : RoutineLaws w) where
  pub weaker : (is : List Inst) (n m : ℕ) (P P' Q Q' : Contents → Behind → Type 0) → n ≤ m → ((c : Contents) (d : Behind) → P' c d → P c d) → ((c : Contents) (d : Behind) → Q c d → Q' c d) → Does w is n P Q → Does w is m P' Q'
  weaker is n m P P' Q Q' le before after h = record {
    by = λ k c d at p. let x = h.by k c d at (before c d p) in (x.0, x.1, after x.0 x.1 x.2, f.runs.later w n m _ _ le x.3);
  }

  pub from_later : (is : List Inst) (n m : ℕ) (c0 : Contents) (d0 : Behind) (Q R : Contents → Behind → Type 0) → n ≤ m → ((c : Contents) (d : Behind) → Q c d → R c d) → From w is n c0 d0 Q → From w is m c0 d0 R
  from_later is n m c0 d0 Q R le after h = weaker is n m _ _ Q R le (λ c d e. e) after h

  -- between the two forms
  pub from_does : (is : List Inst) (n : ℕ) (c0 : Contents) (d0 : Behind) (P Q : Contents → Behind → Type 0) → P c0 d0 → Does w is n P Q → From w is n c0 d0 Q
  from_does is n c0 d0 P Q h does = weaker is n n P _ Q Q (omega arith) (λ c d e. subst (λ c. P c d) (sym e.0) (subst (λ d. P c0 d) (sym e.1) h)) (λ c d q. q) does

  pub does_from : (is : List Inst) (n : ℕ) (P Q : Contents → Behind → Type 0) → ((c : Contents) (d : Behind) → P c d → From w is n c d Q) → Does w is n P Q
  does_from is n P Q h = record { by = λ m c d at p. (h c d p).by m c d at (refl, refl) }

  -- one block, and then another from each state that the first may lead to
  pub from_then : (a b : List Inst) (n m : ℕ) (c0 : Contents) (d0 : Behind) (Q R : Contents → Behind → Type 0) → From w a n c0 d0 Q → ((c : Contents) (d : Behind) → Q c d → From w b m c d R) → From w (a ++ b) (n + m) c0 d0 R
  from_then a b n m c0 d0 Q R da db = record {
    by = λ k c d at e.
        let x = da.by k c d (f.runs.front w k a b at) e in
        let y = (db x.0 x.1 x.2).by (k + length a) x.0 x.1 (f.runs.back w k a b at) (refl, refl) in
        (y.0, y.1, y.2, f.runs.followed w a b k n m c d x.0 x.1 y.0 y.1 x.3 y.3);
  }

  -- a straight block, by what is said of its instructions
  pub from_straight : (is : List Inst) (hs : List Says) (c0 : Contents) (d0 : Behind) (Q : Contents → Behind → Type 0) → straight is ≡ true → d0.pending ≡ Idle → ((n : ℕ) → AllSaid w n is hs c0 d0 × Q (sayings n is hs c0) (tellings hs d0)) → From w is (length is) c0 d0 Q
  from_straight is hs c0 d0 Q g idle h = record {
    by = λ n c d at e.
        let a = h n in
        (sayings n is hs c0, tellings hs d0, a.1, from_here w c0 c _ d0 d _ n (length is) _ e (f.straight.all is hs n c0 d0 at g idle a.0));
  }

  -- a straight block, and then another from the very contents that it leads to
  pub straight_then : (is b : List Inst) (hs : List Says) (m : ℕ) (c0 : Contents) (d0 : Behind) (R : Contents → Behind → Type 0) → straight is ≡ true → d0.pending ≡ Idle → ((n : ℕ) → AllSaid w n is hs c0 d0) → ((n : ℕ) → From w b m (sayings n is hs c0) (tellings hs d0) R) → From w (is ++ b) (length is + m) c0 d0 R
  straight_then is b hs m c0 d0 R g idle h rest = record {
    by = λ n c d at e.
        let run = f.straight.all is hs n c0 d0 (f.runs.front w n is b at) g idle (h n) in
        let y = (rest n).by (n + length is) (sayings n is hs c0) (tellings hs d0) (f.runs.back w n is b at) (refl, refl) in
        (y.0, y.1, y.2, from_here w c0 c y.0 d0 d y.1 n (length is + m) _ e (f.runs.followed w is b n (length is) m c0 d0 (sayings n is hs c0) (tellings hs d0) y.0 y.1 run y.3));
  }

  -- a body under a condition
  pub from_when : (r : ℕ) (body : List Inst) (n : ℕ) (c0 : Contents) (d0 : Behind) (Q : Contents → Behind → Type 0) → length body < 32768 → d0.pending ≡ Idle
      → (reg c0.regs r ≢ 0 → From w body n c0 d0 Q) → (reg c0.regs r ≡ 0 → Q c0 d0) → From w (when_code r body) (n + 1) c0 d0 Q
  from_when r body n c0 d0 Q short idle does skip = record {
    by = λ k c d at e. ⊎_elim
        (λ z. (c0, d0, skip z, f.runs.later w 1 (n + 1) _ _ (omega arith) (from_here w c0 c c0 d0 d d0 k 1 _ e ((f.whens r body short).skips k c0 d0 at idle z))))
        (λ z. let x = (does z).by (k + 1) c0 d0 at.1 (refl, refl) in
        (x.0, x.1, x.2, from_here w c0 c x.0 d0 d x.1 k (n + 1) _ e ((f.whens r body short).runs k n c0 d0 x.0 x.1 at idle z x.3)))
        (cases_eq (reg c0.regs r) 0);
  }

  -- A loop whose turns are paid for: S a is what holds before a turn, with a state a of the loop's own; Go a says that it goes on from a,
  -- and then a turn leads to step a within e a steps; cost is what is left to be spent.
  pub loop_pays : {A : Type 0} (body : List Inst) (r : ℕ) (S : A → Contents → Behind → Type 0) (Go : A → Type 0) (cost e : A → ℕ) (step : A → A) (R : Contents → Behind → Type 0)
      → length body + 2 ≤ 32768
      → ((a : A) (c : Contents) (d : Behind) → S a c d → d.pending ≡ Idle)
      → ((a : A) → Go a → e a + 2 + cost (step a) ≤ cost a)
      → ((a : A) → Go a → Does w body (e a) (S a) (S (step a)))
      → ((a : A) (c : Contents) (d : Behind) → S a c d → reg c.regs r ≢ 0 → Go a)
      → ((a : A) (c : Contents) (d : Behind) → S a c d → reg c.regs r ≡ 0 → R c d)
      → (a : A) → Does w (loop_code [] r body) (cost a + 1) (S a) R
  loop_pays {A} body r S Go cost e step R short idle pays does on out a = record { by = λ n c d at p. turn (cost a) a n c d (omega arith) at p }
    where
      laws : LoopRuns w [] r body
      laws = f.loops [] r body (omega arith)

      leave : (a : A) (n : ℕ) (c : Contents) (d : Behind) → CodeAt w n (loop_code [] r body) → S a c d → reg c.regs r ≡ 0 → Reaches w 1 (at_with n c d) (at_with (n + length (loop_code [] r body)) c d)
      leave a n c d at j z = laws.ends n 0 c d c d at (f.runs.empty w n c d) (idle a c d j) z

      turn : (k : ℕ) (a : A) (n : ℕ) (c : Contents) (d : Behind) → cost a ≤ k → CodeAt w n (loop_code [] r body) → S a c d → (c' : Contents) × (d' : Behind) × R c' d' × Reaches w (cost a + 1) (at_with n c d) (at_with (n + length (loop_code [] r body)) c' d')
      turn zero a n c d le at p = ⊎_elim
          (λ z. (c, d, out a c d p z, f.runs.later w 1 _ _ _ (omega arith) (leave a n c d at p z)))
          (λ z. let q = pays a (on a c d p z) in absurd (omega arith))
          (cases_eq (reg c.regs r) 0)
      turn (suc k) a n c d le at p = ⊎_elim
          (λ z. (c, d, out a c d p z, f.runs.later w 1 _ _ _ (omega arith) (leave a n c d at p z)))
          (λ z. let go = on a c d p z in
          let q = pays a go in
          let y = (does a go).by (n + 0 + 1) c d (laws.body_stands n at) p in
          let one = laws.turns n 0 (e a) c d c d y.0 y.1 at (f.runs.empty w n c d) (idle a c d p) z y.3 (idle (step a) y.0 y.1 y.2) in
          let u = turn k (step a) n y.0 y.1 (omega arith) at y.2 in
          (u.0, u.1, u.2, f.runs.later w _ _ _ _ (omega arith) (f.runs.joined w (0 + e a + 2) (cost (step a) + 1) _ _ _ one u.3)))
          (cases_eq (reg c.regs r) 0)
