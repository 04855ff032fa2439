-- From code that is done to a dispatch that keeps a property: so the rules for code (c0_meaning/proofs/Rules) and the rule for runs (proofs/InvariantsHold)
-- meet. No contract can carry it, since a property ranges over types: this file may be cited from other crates.
use Rattle.std.proofs.Common.{◌≡◌, ℕ, List, [], ◌∷◌, ◌++◌, length, sym, ap, ◌∙◌, subst}
use Rattle.std.specs.Prelude.{pos}
use Rattle.mips_table.specs.Arith.{signed}
use Rattle.c0_tree.specs.Tree.{CUnit}
use Rattle.c0_meaning.specs.Execution as c0_run
use Rattle.c0_meaning.specs.Reasoning.{DoneWith}
use Rattle.cvm_model.specs.Kernel.{Core, Changes, KernelMeaning, DispatchOutcome as Came}
use Rattle.cvm_model.specs.KernelMeaning.{Machines, answer_end, core_at, setting_of, machines_of, outcome_of, kernel_meaning}
use Rattle.cvm_model.specs.Cvm.{System, dispatch_of, next_of}
use Rattle.cvm_model.specs.declared.row.Next.{Next}
use Rattle.cvm_model.specs.Invariant.{Property, Dispatch, current_after, next_by, made_by, Keeps, KeptAt}

module _ (y : System) (u : CUnit) (is : y.boot.meaning ≡ kernel_meaning u y.boot.params) (n : ℕ) (I : Property) (k cause edata : ℕ) (past : List Dispatch) (at : Core) where
  abbrev KeptBy : c0_run.Outcome Machines Changes → Type 0
  KeptBy o = dispatch_of y n cause edata at ≡ outcome_of at o → Keeps y n I k cause edata past at

  by_outcome : (o : c0_run.Outcome Machines Changes) → DoneWith o (KeptAt y I k cause edata past at) → KeptBy o
  by_outcome (c0_run.Done cost d) h e =
      let next : Next = next_of (length y.boot.users) h.answer in
      let same : next_by (length y.boot.users) (answer_end d.answer) ≡ next = ap (λ a. next_by (length y.boot.users) (answer_end a)) h.answers in
      record {
        answer = h.answer;
        ends = ap (λ (o : Came). o.end) e ∙ ap answer_end h.answers;
        proper = h.proper;
        kept = subst (λ (o : Came). I (past ++ made_by y n k cause edata at o ∷ []) o.after.c0 (current_after next at.current)) (sym e)
            (subst (λ (is : Next). I (past ++ record { turn = k; cause = cause; edata = edata; before = at; after = core_at at d; next = is } ∷ []) (core_at at d).c0 (current_after next at.current)) (sym same) h.kept);
      }
  by_outcome (c0_run.Failed cost f d) h e = absurd h
  by_outcome (c0_run.NotYet cost d) h e = absurd h

  -- FROM CODE TO A DISPATCH: where the code of `dispatch` is done within n units, and the property holds then, the dispatch keeps it
  pub keeps_by : DoneWith (c0_run.dispatch (setting_of u y.boot.params) n (pos cause) (signed edata) (pos at.current) at.c0 (machines_of y.boot.params at)) (KeptAt y I k cause edata past at)
      → Keeps y n I k cause edata past at
  keeps_by h = by_outcome _ h (ap (λ (m : KernelMeaning). m.dispatch n at (pos cause) (signed edata) (pos at.current)) is)
