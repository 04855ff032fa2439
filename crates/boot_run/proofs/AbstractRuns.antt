-- The abstract machine has a state after each number of turns that a run completes, and what is shown of a user of a trace after each number of steps.
use Rattle.std.specs.Prelude.{Option, Some, None, is_some, not, ◌||◌, ◌==◌}
use Rattle.std.proofs.Common.{◌≡◌, ℕ, zero, suc, ◌<◌, ◌≤◌, Bool, true, false, List, [], ◌++◌, length, refl, sym, ap, ◌∙◌, subst, arith, ⊎_elim, inl, inr, ◌⊎◌}
use Rattle.std.proofs.lemmas.Bool.{cases_lt}
use Rattle.mips_table.specs.Device.{Environment}
use Rattle.mips_table.specs.Machine.{State}
use Rattle.mips_table.specs.Turns.{complete, is_end, end_within, TurnLaws}
use Rattle.c0_tree.specs.Tree.{CUnit}
use Rattle.c0_meaning.specs.TypedState.{IsTypedState}
use Rattle.cvm_model.specs.Cvm.{System, Cvm, IsCvm, cvm, turn}
use Rattle.cvm_model.specs.Kernel.{JournalEntry}
use Rattle.boot_turns.specs.Entries.{TraceGrows, TracesGrow, step_entries}
use Rattle.boot_turns.specs.Premises.{StartsFrom}
use Rattle.boot_turns.specs.RunMachines.{RunIsDefined, MachinesRun}
use Rattle.boot_turns.specs.Trace.{Shown}
use Rattle.boot_turns.specs.declared.answers.View.{View}
use Rattle.boot_turns.specs.declared.answers.View.TheVariants.{Boot, Trace}
use Rattle.boot_turns.specs.Runs.{Run, Past, IsPast, IsShown, state_at, turns_at, steps_made, lines_met}
use Rattle.boot_run.specs.RunCalls.{run_at}
use Rattle.boot_run.specs.RunEnds.{SeesUser}

-- what a past is made of
pub record Founded (r : Run) : Type 0 where
  pub defined : RunIsDefined r.around r.system r.first
  pub traces : (u : ℕ) → 1 ≤ u → u ≤ length r.system.boot.users → TraceGrows r.around r.system r.first u
  pub user : SeesUser r.view (length r.system.boot.users)
  pub count : TurnLaws

-- BEFORE ITS END a run hasn't ended, and the machine is on
module _ (count : TurnLaws) (x : Environment) (s : State) (k n : ℕ) where
  pub not_ended : (t : ℕ) → t < end_within x s k n → is_end x s k t ≡ false
  not_ended t lt = by (is_end x s k (end_within x s k n)) refl
    where
      by : (b : Bool) → is_end x s k (end_within x s k n) ≡ b → is_end x s k t ≡ false
      by true e = (count.found x s k n e).first t lt
      by false e = let h = count.none x s k n e in let last = h.0 in h.1 t (omega (arith, lt, last))

  pub up_to : (t u : ℕ) → t ≤ u → complete x s t ≤ complete x s u
  up_to t zero le = let e : t ≡ 0 = omega (arith, le) in subst (λ (i : ℕ). complete x s i ≤ complete x s 0) (sym e) (omega arith)
  up_to t (suc u) le = ⊎_elim
      (λ (lt : t < suc u). let a = up_to t u (omega (arith, lt)) in let b = count.grows x s u in omega (arith, a, b))
      (λ (ge : suc u ≤ t). let e : t ≡ suc u = omega (arith, le, ge) in subst (λ (i : ℕ). complete x s i ≤ complete x s (suc u)) (sym e) (omega arith))
      (cases_lt t (suc u))

is_on : (a : Bool) (o : Option ℕ) → (a || not (not (is_some o))) ≡ false → o ≡ None
is_on true o e = absurd (cc)
is_on false None e = refl
is_on false (Some v) e = absurd (cc)

pub on_before : TurnLaws → (r : Run) (t : ℕ) → t < steps_made r → (state_at r t).off ≡ None
on_before count r t lt = is_on (complete r.around r.first t == r.turns) (state_at r t).off (not_ended count r.around r.first r.turns r.steps t lt)

pub turns_up_to : TurnLaws → (r : Run) (t u : ℕ) → t ≤ u → turns_at r t ≤ turns_at r u
turns_up_to count r t u le = up_to count r.around r.first r.turns r.steps t u le

-- AN ABSTRACT RUN that is defined is so for fewer turns
earlier : (y : System) (lines : ℕ → ℕ) (units n : ℕ) (c : Cvm) → cvm y lines units n ≡ Some c → (k : ℕ) → k ≤ n → (b : Cvm) × (cvm y lines units k ≡ Some b)
earlier y lines units zero c e k le = let z : k ≡ 0 = omega (arith, le) in (c, ap (cvm y lines units) z ∙ e)
earlier y lines units (suc n) c e k le = ⊎_elim
    (λ (lt : k < suc n). let h = before (cvm y lines units n) e in earlier y lines units n h.0 h.1 k (omega (arith, lt)))
    (λ (ge : suc n ≤ k). let z : k ≡ suc n = omega (arith, le, ge) in (c, ap (cvm y lines units) z ∙ e))
    (cases_lt k (suc n))
  where
    before : (o : Option Cvm) → turn y units n (lines n) o ≡ Some c → (b : Cvm) × (o ≡ Some b)
    before None e = absurd (cc)
    before (Some b) e = (b, refl)

abbrev unwrap : Cvm → Option Cvm → Cvm
unwrap d None = d
unwrap d (Some c) = c

module _ (r : Run) (d : Cvm) (is : IsCvm r.system (lines_met r) (turns_at r (steps_made r)) d) where
  abbrev chosen : ℕ → Cvm
  chosen k = unwrap d (cvm r.system (lines_met r) is.units k)

  chosen_is : (k : ℕ) → k ≤ turns_at r (steps_made r) → IsCvm r.system (lines_met r) k (chosen k)
  chosen_is k le =
      let h = earlier r.system (lines_met r) is.units (turns_at r (steps_made r)) d is.is k le in
      record { units = is.units; is = h.1 ∙ ap (λ (c : Cvm). Some c) (sym (ap (unwrap d) h.1)) }

-- what is shown of a user, step by step
shown_up_to : TurnLaws → (r : Run) (u : ℕ) → TraceGrows r.around r.system r.first u → (t : ℕ) → (j : List JournalEntry) × (t ≤ steps_made r → Shown r.around r.first r.system u t j)
shown_up_to count r u g zero = ([], λ le. g.none)
shown_up_to count r u g (suc t) = by (shown_up_to count r u g t) (cases_lt t (steps_made r))
  where
    by : (h : (j : List JournalEntry) × (t ≤ steps_made r → Shown r.around r.first r.system u t j)) → (t < steps_made r) ⊎ (steps_made r ≤ t) →
        (j : List JournalEntry) × (suc t ≤ steps_made r → Shown r.around r.first r.system u (suc t) j)
    by h (inl lt) =
        let m = g.more t h.0 (on_before count r t lt) (h.1 (omega (arith, lt))) in
        (h.0 ++ step_entries r.around r.first u t m.words, λ le. m.shown)
    by h (inr ge) = ([], λ le. absurd (omega (arith, ge, le)))

-- THERE IS A PAST
pub past_of : (r : Run) → Founded r → (p : Past) × IsPast r p
past_of r k = by r.view refl k.user
  where
    by : (v : View) → r.view ≡ v → SeesUser v (length r.system.boot.users) → (p : Past) × IsPast r p
    by Boot e see =
        let d = k.defined (steps_made r) in
        (record { cvm = chosen r d.0 d.1; shown = λ t. [] }, record { turns = chosen_is r d.0 d.1; user = λ t le. subst (λ (v : View). IsShown v r t []) (sym e) tt })
    by (Trace u) e see =
        let d = k.defined (steps_made r) in
        let all = shown_up_to k.count r u (k.traces u see.0 see.1) in (
          record { cvm = chosen r d.0 d.1; shown = λ t. (all t).0 },
          record { turns = chosen_is r d.0 d.1; user = λ t le. subst (λ (v : View). IsShown v r t (all t).0) (sym e) ((all t).1 le) },
        )

-- so it is of a run from a start
pub past_from : (u : CUnit) (x : Environment) (y : System) (s : State) (late held : ℕ) (view : View) (turns steps : ℕ) → MachinesRun (IsTypedState u) → TracesGrow (IsTypedState u) → TurnLaws
    → StartsFrom (IsTypedState u) x y s late held → SeesUser view (length y.boot.users) → (p : Past) × IsPast (run_at x y s view turns steps) p
past_from u x y s late held view turns steps machines traces count starts sees = past_of (run_at x y s view turns steps) (record {
  defined = (machines x y s late held starts).defined;
  traces = λ user some most. traces x y s late held user starts some most;
  user = sees;
  count = count;
})
