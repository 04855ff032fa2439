-- Straight code and a body under a condition, from one state.
use Rattle.std.proofs.Common.{◌≡◌, ◌≢◌, ℕ, ◌+◌, ◌^◌, ◌<◌, ◌≤◌, true, List, ◌++◌, length, refl, sym, subst, ⊎_elim, arith}
use Rattle.std.proofs.lemmas.Bool.{cases_eq}
use Rattle.mips_table.specs.declared.inst.Inst.{Inst}
use Rattle.mips_table.specs.Device.{Idle}
use Rattle.mips_table.specs.Code.{Contents, reg, Behind, World, CodeState, at_with, Reaches}
use Rattle.masm.specs.Says.{Says, straight, AllSaid, sayings, tellings}
use Rattle.masm.specs.Blocks.{when_code}
use Rattle.masm.specs.Stays.{RegistersStay}
use Rattle.masm.specs.Laws.{RunsCompose, StraightRuns, WhenRuns, From}

-- the laws below
pub record CodeLaws (w : World) : Type 0 where
  pub small : w.words < 2 ^ 26
  pub runs : RunsCompose
  pub straight : StraightRuns w
  pub stays : RegistersStay
  pub whens : (r : ℕ) (body : List Inst) → length body < 32768 → WhenRuns w r body

module _ (w : World) (f : CodeLaws w) where
  -- the state that is meant
  from : (n m : ℕ) (c0 c : Contents) (d0 d : Behind) (t : CodeState) → (c ≡ c0) × (d ≡ d0) → Reaches w m (at_with n c0 d0) t → Reaches w m (at_with n c d) t
  from n m c0 c d0 d t e run = subst (λ c. Reaches w m (at_with n c d) t) (sym e.0) (subst (λ d. Reaches w m (at_with n c0 d) t) (sym e.1) run)

  pub within : (is : List Inst) (n m : ℕ) (c0 : Contents) (d0 : Behind) (Q : Contents → Behind → Type 0) → n ≤ m → From w is n c0 d0 Q → From w is m c0 d0 Q
  within is n m c0 d0 Q le h = record { by = λ k c d at e. let x = h.by k c d at e in (x.0, x.1, x.2, f.runs.later w n m _ _ le x.3) }

  pub straightly : (is : List Inst) (hs : List Says) (c0 : Contents) (d0 : Behind) (Q : Contents → Behind → Type 0) → straight is ≡ true → d0.pending ≡ Idle
      → ((n : ℕ) → AllSaid w n is hs c0 d0 × Q (sayings n is hs c0) (tellings hs d0)) → From w is (length is) c0 d0 Q
  straightly is hs c0 d0 Q g idle h = record {
    by = λ n c d at e. let a = h n in (sayings n is hs c0, tellings hs d0, a.1, from n (length is) c0 c d0 d _ e (f.straight.all is hs n c0 d0 at g idle a.0));
  }

  pub straightly_then : (is b : List Inst) (hs : List Says) (m : ℕ) (c0 : Contents) (d0 : Behind) (Q : Contents → Behind → Type 0) → straight is ≡ true → d0.pending ≡ Idle
      → ((n : ℕ) → AllSaid w n is hs c0 d0) → ((n : ℕ) → From w b m (sayings n is hs c0) (tellings hs d0) Q) → From w (is ++ b) (length is + m) c0 d0 Q
  straightly_then is b hs m c0 d0 Q g idle h rest = record {
    by = λ n c d at e.
        let run = f.straight.all is hs n c0 d0 (f.runs.front w n is b at) g idle (h n) in
        let y = (rest n).by (n + length is) (sayings n is hs c0) (tellings hs d0) (f.runs.back w n is b at) (refl, refl) in
        (y.0, y.1, y.2, from n (length is + m) c0 c d0 d _ e (f.runs.followed w is b n (length is) m c0 d0 (sayings n is hs c0) (tellings hs d0) y.0 y.1 run y.3));
  }

  pub conditionally : (r : ℕ) (body : List Inst) (n : ℕ) (c0 : Contents) (d0 : Behind) (Q : Contents → Behind → Type 0) → length body < 32768 → d0.pending ≡ Idle
      → (reg c0.regs r ≢ 0 → From w body n c0 d0 Q) → (reg c0.regs r ≡ 0 → Q c0 d0) → From w (when_code r body) (n + 1) c0 d0 Q
  conditionally r body n c0 d0 Q short idle does skip = record {
    by = λ k c d at e. ⊎_elim
        (λ z. (c0, d0, skip z, f.runs.later w 1 (n + 1) _ _ (omega arith) (from k 1 c0 c d0 d _ e ((f.whens r body short).skips k c0 d0 at idle z))))
        (λ z. let x = (does z).by (k + 1) c0 d0 at.1 (refl, refl) in
        (x.0, x.1, x.2, from k (n + 1) c0 c d0 d _ e ((f.whens r body short).runs k n c0 d0 x.0 x.1 at idle z x.3)))
        (cases_eq (reg c0.regs r) 0);
  }
