-- The loop that copies words, by the laws of straight code and of loops alone.
use Rattle.std.proofs.Common.{◌≡◌, ◌≢◌, ℕ, suc, ◌+◌, ◌-◌, ◌*◌, ◌<◌, List, [], ◌∷◌, refl, sym, ap, ◌∙◌, subst, ⊎_elim, inl, inr, arith}
use Rattle.std.proofs.lemmas.Bool.{cases_eq}
use Rattle.mips_table.specs.Device.{Idle}
use Rattle.mips_table.specs.Code.{put, Contents, reg, Behind, World, Sound, Does}
use Rattle.mips_table.proofs.PutsChangeOneWord.{put_same, put_other}
use Rattle.masm.specs.Says.{Says, Gives, Reads, Writes, sayings}
use Rattle.masm.specs.Laws.{RunsCompose, StraightRuns, LoopPays, Pays}
use Rattle.masm.specs.Copy.{copy_turn, MayCopy, IsCopied, CopyRuns, Copying, onward, MidCopy, CopyEnds}

four : (g : ℕ → ℕ) (a s b t c u e v k : ℕ) → k ≢ a → k ≢ b → k ≢ c → k ≢ e → put (put (put (put g a s) b t) c u) e v k ≡ g k
four g a s b t c u e v k na nb nc ne =
    put_other (put (put (put g a s) b t) c u) e v k ne ∙ put_other (put (put g a s) b t) c u k nc ∙ put_other (put g a s) b t k nb ∙ put_other g a s k na

module _ (w : World) (f : Sound w) (straight : StraightRuns w) where
  -- what a turn's instructions do
  turn_says : Copying → Contents → List Says
  turn_says a c = Reads (a.x + a.made) (c.memory (a.x + a.made)) ∷ Writes (a.y + a.made) (c.memory (a.x + a.made)) ∷ Gives (4 * (a.x + suc a.made)) ∷ Gives (4 * (a.y + suc a.made)) ∷ Gives (a.n - suc a.made) ∷ []

  one_more : (a : Copying) (c : Contents) (d : Behind) → MidCopy w a c d → a.made < a.n → IsCopied a.x a.y (suc a.made) a.from (sayings 0 copy_turn (turn_says a c) c)
  unfolding turn_says
  one_more a c d m lt =
      let moved : c.memory (a.x + a.made) ≡ a.from.memory (a.x + a.made) = m.done.others (a.x + a.made) (⊎_elim (λ h. inl (omega arith)) (λ h. inr (omega arith)) m.may.apart) in
      record {
        words = λ k le. ⊎_elim
            (λ e. put_same c.memory _ _ _ (omega arith) ∙ moved ∙ ap (λ i. a.from.memory (a.x + i)) (sym e))
            (λ ne. put_other c.memory _ _ _ (omega arith) ∙ m.done.words k (omega arith))
            (cases_eq k a.made);
        others = λ k o. put_other c.memory _ _ k (⊎_elim (λ h. omega arith) (λ h. omega arith) o) ∙ m.done.others k (⊎_elim (λ h. inl h) (λ h. inr (omega arith)) o);
        regs = λ r n1 n2 n3 n4. four c.regs 4 _ 1 _ 2 _ 3 _ r n4 n1 n2 n3 ∙ m.done.regs r n1 n2 n3 n4;
        hi = m.done.hi;
        lo = m.done.lo;
        special = m.done.special;
      }

  turn : (a : Copying) → Does w copy_turn 5 (λ c d. MidCopy w a c d × (reg c.regs 3 ≢ 0)) (MidCopy w (onward a))
  unfolding turn_says
  turn a = record {
    by = λ k c d at p.
        let m = p.0 in
        let small = f.small in let source = m.source in let target = m.target in let count = m.count in let most = m.most in
        let s = m.may.source_in in let t = m.may.target_in in let left = p.1 in
        let lt : a.made < a.n = omega (arith, left) in
        let idle : d.pending ≡ Idle = ap (λ d. d.pending) m.same ∙ m.may.idle in
        let run = straight.all copy_turn (turn_says a c) k c d at refl idle
        ((omega arith, omega arith, refl), ((omega arith, omega arith, m.may.free a.made lt, refl), (omega arith, (omega arith, (omega arith, tt))))) in (
          sayings k copy_turn (turn_says a c) c,
          d,
          record { may = m.may; most = lt; source = refl; target = refl; count = refl; done = one_more a c d m lt; same = m.same },
          run,
        );
  }

  module _ (runs : RunsCompose) where
    pays : Pays w [] 3 copy_turn Copying (MidCopy w) (MidCopy w) (CopyEnds w) 0 (λ a. 5) (λ a. 7 * (a.n - a.made)) onward
    pays = record {
      idle_before = λ a c d m. ap (λ d. d.pending) m.same ∙ m.may.idle;
      idle_tested = λ a c d m. ap (λ d. d.pending) m.same ∙ m.may.idle;
      tested_so = λ a. record { by = λ k c d at m. (c, d, m, runs.empty w k c d) };
      turned_so = turn;
      paid = λ a c d m ne. let count = m.count in let most = m.most in omega (arith, ne);
      last = λ a c d m z. let count = m.count in let most = m.most in let e : a.made ≡ a.n = omega (arith, z) in (subst (λ k. IsCopied a.x a.y k a.from c) e m.done, m.same);
      stays = λ a c d h. h;
    }

    start : (x y n : ℕ) (c : Contents) (d : Behind) → MayCopy w x y n c d → MidCopy w (record { x = x; y = y; n = n; from = c; behind = d; made = 0 }) c d
    start x y n c d may = record {
      may = may;
      most = omega arith;
      source = may.source ∙ omega arith;
      target = may.target ∙ omega arith;
      count = may.count ∙ omega arith;
      done = record { words = λ k lt. absurd (omega arith); others = λ k o. refl; regs = λ r n1 n2 n3 n4. refl; hi = refl; lo = refl; special = refl };
      same = refl;
    }

    pub copy_runs : LoopPays w Copying (MidCopy w) (MidCopy w) (CopyEnds w) → CopyRuns w
    copy_runs loop x y n c0 d0 may = record {
      by = λ k c d at e.
          let a : Copying = record { x = x; y = y; n = n; from = c0; behind = d0; made = 0 } in
          let all = loop [] 3 copy_turn (omega arith) 0 (λ a. 5) (λ a. 7 * (a.n - a.made)) onward pays a in
          let begun = subst (λ c. MidCopy w a c d) (sym e.0) (subst (λ d. MidCopy w a c0 d) (sym e.1) (start x y n c0 d0 may)) in
          let r = all.by k c d at begun in
          (r.0, r.1, r.2, runs.later w (7 * (n - 0) + 0 + 1) (7 * n + 1) _ _ (omega arith) r.3);
    }
