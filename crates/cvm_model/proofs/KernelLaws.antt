-- A unit of C0 means what a kernel may mean: more units change no end and only add calls.
use Rattle.std.proofs.Common.{◌≡◌, ℕ, ◌+◌, List, [], ◌∷◌, ◌++◌, length, take, Option, Some, None, refl, sym, ap, ◌∙◌, arith}
use Rattle.std.specs.Prelude.{◌≢◌, ℤ, unwrap_or, position}
use Rattle.std.proofs.lemmas.List.{append_assoc}
use Rattle.std.proofs.Math.Seq.{take-append_seam}
use Rattle.c0_tree.specs.Tree.{CUnit}
use Rattle.c0_meaning.specs.Limits.{is_dispatch}
use Rattle.c0_meaning.specs.Value.{Value, int, bool, null, at, group, empty, part}
use Rattle.c0_meaning.specs.Operators.{Failure, faulted, stuck}
use Rattle.c0_meaning.specs.Operators as c0
use Rattle.c0_meaning.specs.World.{Configuration, beginning, all_entries}
use Rattle.c0_meaning.specs.Running.{Work, begin}
use Rattle.c0_meaning.specs.Execution.{run_within}
use Rattle.c0_meaning.specs.Execution as c0_run
use Rattle.c0_meaning.specs.RunLaws.{IsOver, stands_at, MoreUnits, CallsExtend}
use Rattle.layer_map.specs.declared.params.Params.{Params}
use Rattle.cvm_model.specs.Kernel.{Core, Changes, Faults, NotYet}
use Rattle.cvm_model.specs.declared.kernel_fault.KernelFault.TheVariants.{BadUser}
use Rattle.cvm_model.specs.KernelMeaning.{Machines, setting_of, machines_of, answer_end, failure_end, outcome_of, UnitsAreKernels}

-- a run that has an end is over
over : (c : Core) (o : c0_run.Outcome Machines Changes) → (outcome_of c o).end ≢ NotYet → IsOver o
over c (c0_run.Done k d) h = tt
over c (c0_run.Failed k f d) h = tt
over c (c0_run.NotYet k d) h = absurd (h refl)

-- the calls of an outcome are those of where the run stands
calls_at : (c : Core) (o : c0_run.Outcome Machines Changes) → (outcome_of c o).calls ≡ all_entries (stands_at o).calls
calls_at c (c0_run.Done k d) = refl
calls_at c (c0_run.Failed k f d) = refl
calls_at c (c0_run.NotYet k d) = refl

pub joined : (a b : List (List Changes)) → all_entries (a ++ b) ≡ all_entries a ++ all_entries b
joined [] b = refl
joined (e ∷ a) b = ap (λ xs. e ++ xs) (joined a b) ∙ sym (append_assoc e (all_entries a) (all_entries b))

-- no run ends by a bad next user
answers_proper : (v : Option Value) → answer_end v ≢ Faults BadUser
answers_proper None e = absurd (cc)
answers_proper (Some (int a)) e = absurd (cc)
answers_proper (Some (bool b)) e = absurd (cc)
answers_proper (Some null) e = absurd (cc)
answers_proper (Some (at l)) e = absurd (cc)
answers_proper (Some (group vs)) e = absurd (cc)

fails_proper : (f : Failure) → failure_end f ≢ Faults BadUser
fails_proper (faulted c0.NullUse) e = absurd (cc)
fails_proper (faulted c0.Bounds) e = absurd (cc)
fails_proper (faulted c0.DivZero) e = absurd (cc)
fails_proper (faulted c0.StackOut) e = absurd (cc)
fails_proper stuck e = absurd (cc)

proper : (c : Core) (o : c0_run.Outcome Machines Changes) → (outcome_of c o).end ≢ Faults BadUser
proper c (c0_run.Done k d) = answers_proper d.answer
proper c (c0_run.Failed k f d) = fails_proper f
proper c (c0_run.NotYet k d) = λ e. absurd (cc)

-- a dispatch's work, and where it begins
abbrev pub work_of : CUnit → (cause edata user : ℤ) → List Work
work_of u cause edata user = begin (unwrap_or (position is_dispatch u.functions) 0) (part (int cause) (part (int edata) (part (int user) empty))) ∷ []

abbrev pub start_of : Params → Core → Configuration Machines Changes
start_of p c = beginning (record c.c0 { frames = [] }) (machines_of p c)

abbrev within : CUnit → Params → ℕ → Core → (cause edata user : ℤ) → c0_run.Outcome Machines Changes
within u p n c cause edata user = run_within (setting_of u p) n (work_of u cause edata user) (start_of p c)

-- more units only add calls
extends : (c : Core) (a b : c0_run.Outcome Machines Changes) → (more : List (List Changes)) × ((stands_at b).calls ≡ (stands_at a).calls ++ more) →
    take (length (outcome_of c a).calls) (outcome_of c b).calls ≡ (outcome_of c a).calls
extends c a b m =
    let whole : (outcome_of c b).calls ≡ (outcome_of c a).calls ++ all_entries m.0 =
    calls_at c b ∙ ap (λ xs. all_entries xs) m.1 ∙ joined (stands_at a).calls m.0 ∙ ap (λ xs. xs ++ all_entries m.0) (sym (calls_at c a)) in
    ap (λ xs. take (length (outcome_of c a).calls) xs) whole ∙ take-append_seam (outcome_of c a).calls (all_entries m.0)

pub units_are_kernels : MoreUnits Machines Changes → CallsExtend Machines Changes → UnitsAreKernels
units_are_kernels more extend u p = record {
  same = λ n k c cause edata user h.
      ap (outcome_of c) (more (setting_of u p) (work_of u cause edata user) (start_of p c) n (n + k) (omega arith) (over c (within u p n c cause edata user) h));
  more = λ n k c cause edata user.
      extends c (within u p n c cause edata user) (within u p (n + k) c cause edata user)
      (extend (setting_of u p) (work_of u cause edata user) (start_of p c) n (n + k) (omega arith));
  proper = λ n c cause edata user. proper c (within u p n c cause edata user);
}
