-- An invariant of a kernel's data that each dispatch keeps holds in every run: the rule for whole systems (proofs/SystemsHold), of a property that the steps of users
-- don't touch. No contract can carry it, since a property ranges over types: this file may be cited from other crates. To be used by `invariants_hold`, with the
-- law `runs_are_lawful`, for a kernel whose dispatches keep a property (`IsInvariant`); `keeps_by` of proofs/KeepsDispatch gives that of what its code does.
use Rattle.std.proofs.Common.{◌≡◌, ℕ, ℤ, List, [], ◌∷◌, ◌++◌, length, refl, sym, ap, ◌∙◌, subst}
use Rattle.std.specs.Prelude.{◌≢◌}
use Rattle.mips_table.specs.declared.cause.Cause.{Cause}
use Rattle.c0_tree.specs.Tree.{CUnit}
use Rattle.c0_meaning.specs.Execution as c0_run
use Rattle.layer_map.specs.declared.params.Params.{Params}
use Rattle.cvm_model.specs.KernelMeaning.{Machines, outcome_of, kernel_meaning}
use Rattle.cvm_model.specs.Kernel.{Core, Changes, DispatchEnd, Answers, NotYet}
use Rattle.cvm_model.specs.Cvm.{System, Running, dispatch_of, next_of, status_of, core_of}
use Rattle.cvm_model.specs.declared.row.Next.{Next}
use Rattle.cvm_model.specs.declared.row.Next.TheVariants.{User, Halt, Fault}
use Rattle.cvm_model.specs.Invariant.{Property, Dispatch, IsProper, current_after, next_by, made_by, IsTrapOf, Keeps, IsInvariant, IsSafe, InvariantsHold, RunsAreLawful}
use Rattle.cvm_model.specs.Systems.{SystemProperty, status_after, KeepsAll, IsSystemInvariant}
use Rattle.cvm_model.proofs.SystemsHold.{status_join, systems_hold}

current_stays : (u : CUnit) (p : Params) (c : Core) (o : c0_run.Outcome Machines Changes) → (outcome_of c o).after.current ≡ c.current
current_stays u p c (c0_run.Done k d) = refl
current_stays u p c (c0_run.Failed k f d) = refl
current_stays u p c (c0_run.NotYet k d) = refl

-- a dispatch keeps the current user, as long as nobody is next
pub stays : (y : System) (u : CUnit) → y.boot.meaning ≡ kernel_meaning u y.boot.params → (k : ℕ) (c : Core) (cause edata user : ℤ) → (y.boot.meaning.dispatch k c cause edata user).after.current ≡ c.current
stays y u e k c cause edata user = rw e (current_stays u y.boot.params c _)

module _ (y : System) (u : CUnit) (is : y.boot.meaning ≡ kernel_meaning u y.boot.params) (n : ℕ) (Fit : Core → Type 0) (I : Property) where
  -- the property as one of a whole system: no dispatch has faulted, and it holds of the data and of who is current
  abbrev OfSystem : SystemProperty
  OfSystem k past c = IsSafe (status_after past) × I past c.c0 c.current

  safe_of : (next : Next) → IsProper next → IsSafe (status_of next)
  safe_of (User u) h = tt
  safe_of Halt h = tt
  safe_of (Fault f) h = h

  kept_of : (past : List Dispatch) (next : Next) (o : Core) (before : ℕ) → o.current ≡ before → I past o.c0 (current_after next before) → I past (core_of next o).c0 (core_of next o).current
  kept_of past (User u) o before e h = h
  kept_of past Halt o before e h = subst (λ u. I past o.c0 u) (sym e) h
  kept_of past (Fault f) o before e h = subst (λ u. I past o.c0 u) (sym e) h

  answered : (e : DispatchEnd) (a : ℤ) → e ≡ Answers a → e ≢ NotYet
  answered e a is f = absurd (let g : Answers a ≡ NotYet = sym is ∙ f in cc)

  all_of : (k cause edata : ℕ) (past : List Dispatch) (at : Core) → Keeps y n I k cause edata past at → KeepsAll y n OfSystem k cause edata past at
  all_of k cause edata past at h =
      let next : Next = next_of (length y.boot.users) h.answer in
      let o = dispatch_of y n cause edata at in
      let d : Dispatch = made_by y n k cause edata at o in
      let same : d.next ≡ next = ap (next_by (length y.boot.users)) h.ends in
      record {
        over = answered o.end h.answer h.ends;
        kept = (
          subst IsSafe (sym (status_join Running past d ∙ ap status_of same)) (safe_of next h.proper),
          subst (λ (next : Next). I (past ++ d ∷ []) (core_of next o.after).c0 (core_of next o.after).current) (sym same) (kept_of (past ++ d ∷ []) next o.after at.current (stays y u is n at _ _ _) h.kept),
        );
      }

  -- the step that traps changes a machine alone
  trap_kept : (past : List Dispatch) (cause : Cause) (edata : ℕ) (before at : Core) → IsTrapOf before cause edata at → I past before.c0 before.current → I past at.c0 at.current
  trap_kept past cause edata before at came h = subst (λ (c : Core). I past c.c0 c.current) (sym came.left) h

  of_system : IsInvariant y n Fit I → IsSystemInvariant y n Fit OfSystem
  of_system inv = record {
    start = λ fit. all_of 0 0 0 [] _ (inv.start fit);
    line = λ k mask past c some few fit is on h. all_of _ 1 mask past c (inv.line k mask past c some few fit is h.1);
    trap = λ k cause edata past before at came fit is fits one on h.
        all_of _ _ edata past at (inv.trap k cause edata past before at came fits one (trap_kept past cause edata before at came h.1));
    step = λ k past c f e fit is fits on h. h;
  }

pub invariants_hold : RunsAreLawful → InvariantsHold
invariants_hold laws y u n Fit I e known inv lines eight k =
    let held = systems_hold laws y u n Fit (OfSystem y u e n Fit I) e known (of_system y u e n Fit I inv) lines eight k in (
      (held.0.0, record { units = n; is = held.0.1 }),
      λ c is. let h = held.1 c is in record { safe = subst IsSafe (sym h.status) h.kept.0; rows = h.rows; kept = h.kept.1 },
    )
