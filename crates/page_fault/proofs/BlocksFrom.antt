-- Blocks from one state: what each block leads to is said at that very state, and no predicate has to be carried along.
use Rattle.std.proofs.Common.{◌≡◌, ◌≢◌, ℕ, ◌+◌, ◌<◌, ◌≤◌, true, List, ◌++◌, length, refl, sym, subst, ⊎_elim, arith}
use Rattle.std.proofs.lemmas.Bool.{cases_eq}
use Rattle.mips_table.specs.declared.inst.Inst.{Inst}
use Rattle.mips_table.specs.Device.{Idle}
use Rattle.mips_table.specs.Code.{Contents, reg, Behind, World, at_with, Reaches}
use Rattle.masm.specs.Says.{Says, straight, AllSaid, sayings, tellings}
use Rattle.masm.specs.Blocks.{when_code}
use Rattle.masm.specs.Laws.{RunsCompose, StraightRuns, WhenRuns, From}

module _ (w : World) (runs : RunsCompose) where
  -- the run from the state that is meant, put in the place of the one that is given
  from_here : (c0 c c' : Contents) (d0 d d' : Behind) (n m to : ℕ) → (c ≡ c0) × (d ≡ d0) → Reaches w m (at_with n c0 d0) (at_with to c' d') → Reaches w m (at_with n c d) (at_with to c' d')
  from_here c0 c c' d0 d d' n m to e run = subst (λ c. Reaches w m (at_with n c d) (at_with to c' d')) (sym e.0) (subst (λ d. Reaches w m (at_with n c0 d) (at_with to c' d')) (sym e.1) run)

  pub from_later : (is : List Inst) (n m : ℕ) (c0 : Contents) (d0 : Behind) (Q R : Contents → Behind → Type 0) → n ≤ m → ((c : Contents) (d : Behind) → Q c d → R c d) → From w is n c0 d0 Q → From w is m c0 d0 R
  from_later is n m c0 d0 Q R le after h = record {
    by = λ k c d at e. let x = h.by k c d at e in (x.0, x.1, after x.0 x.1 x.2, runs.later w n m _ _ le x.3);
  }

  -- one block, and then another from each state that the first may lead to
  pub from_then : (a b : List Inst) (n m : ℕ) (c0 : Contents) (d0 : Behind) (Q R : Contents → Behind → Type 0) → From w a n c0 d0 Q → ((c : Contents) (d : Behind) → Q c d → From w b m c d R) → From w (a ++ b) (n + m) c0 d0 R
  from_then a b n m c0 d0 Q R da db = record {
    by = λ k c d at e.
        let x = da.by k c d (runs.front w k a b at) e in
        let y = (db x.0 x.1 x.2).by (k + length a) x.0 x.1 (runs.back w k a b at) (refl, refl) in
        (y.0, y.1, y.2, runs.followed w a b k n m c d x.0 x.1 y.0 y.1 x.3 y.3);
  }

  module _ (straight_runs : StraightRuns w) where
    -- a straight block, by what is said of its instructions
    pub from_straight : (is : List Inst) (hs : List Says) (c0 : Contents) (d0 : Behind) (Q : Contents → Behind → Type 0) → straight is ≡ true → d0.pending ≡ Idle → ((n : ℕ) → AllSaid w n is hs c0 d0 × Q (sayings n is hs c0) (tellings hs d0)) → From w is (length is) c0 d0 Q
    from_straight is hs c0 d0 Q g idle h = record {
      by = λ n c d at e.
          let a = h n in
          (sayings n is hs c0, tellings hs d0, a.1, from_here c0 c _ d0 d _ n (length is) _ e (straight_runs.all is hs n c0 d0 at g idle a.0));
    }

    -- a straight block, and then another from the very contents that it leads to
    pub straight_then : (is b : List Inst) (hs : List Says) (m : ℕ) (c0 : Contents) (d0 : Behind) (R : Contents → Behind → Type 0) → straight is ≡ true → d0.pending ≡ Idle → ((n : ℕ) → AllSaid w n is hs c0 d0) → ((n : ℕ) → From w b m (sayings n is hs c0) (tellings hs d0) R) → From w (is ++ b) (length is + m) c0 d0 R
    straight_then is b hs m c0 d0 R g idle h rest = record {
      by = λ n c d at e.
          let run = straight_runs.all is hs n c0 d0 (runs.front w n is b at) g idle (h n) in
          let y = (rest n).by (n + length is) (sayings n is hs c0) (tellings hs d0) (runs.back w n is b at) (refl, refl) in
          (y.0, y.1, y.2, from_here c0 c y.0 d0 d y.1 n (length is + m) _ e (runs.followed w is b n (length is) m c0 d0 (sayings n is hs c0) (tellings hs d0) y.0 y.1 run y.3));
    }

  -- a body under a condition
  pub from_when : (whens : (r : ℕ) (body : List Inst) → length body < 32768 → WhenRuns w r body) (r : ℕ) (body : List Inst) (n : ℕ) (c0 : Contents) (d0 : Behind) (Q : Contents → Behind → Type 0) → length body < 32768 → d0.pending ≡ Idle
      → (reg c0.regs r ≢ 0 → From w body n c0 d0 Q) → (reg c0.regs r ≡ 0 → Q c0 d0) → From w (when_code r body) (n + 1) c0 d0 Q
  from_when whens r body n c0 d0 Q short idle does skip = record {
    by = λ k c d at e. ⊎_elim
        (λ z. (c0, d0, skip z, runs.later w 1 (n + 1) _ _ (omega arith) (from_here c0 c c0 d0 d d0 k 1 _ e ((whens r body short).skips k c0 d0 at idle z))))
        (λ z. let x = (does z).by (k + 1) c0 d0 at.1 (refl, refl) in
        (x.0, x.1, x.2, from_here c0 c x.0 d0 d x.1 k (n + 1) _ e ((whens r body short).runs k n c0 d0 x.0 x.1 at idle z x.3)))
        (cases_eq (reg c0.regs r) 0);
  }
