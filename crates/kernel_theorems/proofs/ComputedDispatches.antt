-- What most proofs of kernels use of `keeps_by`: a dispatch that was computed, and one that is done with its answer. No contract can carry it, since a
-- property ranges over types: this file may be cited from other crates.
use Rattle.std.proofs.Common.{◌≡◌, ℕ, zero, suc, ◌≤◌, List, [], ◌∷◌, ◌++◌, length, Some, refl, sym, ap, subst, arith}
use Rattle.std.specs.Prelude.{if◌then◌else◌, pos}
use Rattle.std.proofs.lemmas.Bool.{lt-ltb}
use Rattle.std.proofs.lemmas.List.{append_assoc, append-nil}
use Rattle.mips_table.specs.Arith.{signed}
use Rattle.c0_tree.specs.Tree.{CUnit}
use Rattle.c0_meaning.specs.State.{C0State}
use Rattle.c0_meaning.specs.Value.{int}
use Rattle.c0_meaning.specs.World.{Configuration}
use Rattle.c0_meaning.specs.Execution as c0_run
use Rattle.c0_meaning.specs.Reasoning.{DoneWith}
use Rattle.cvm_model.specs.Kernel.{Core, Changes}
use Rattle.cvm_model.specs.KernelMeaning.{Machines, core_at, setting_of, machines_of, kernel_meaning}
use Rattle.cvm_model.specs.Cvm.{System, next_of}
use Rattle.cvm_model.specs.declared.kernel_fault.KernelFault.TheVariants.{BadUser}
use Rattle.cvm_model.specs.declared.row.Next.{Next}
use Rattle.cvm_model.specs.declared.row.Next.TheVariants.{User, Halt, Fault}
use Rattle.cvm_model.specs.Invariant.{Property, Dispatch, dispatch_row, dispatch_rows, IsProper, current_after, Keeps, KeptAt}
use Rattle.cvm_model.proofs.KeepsDispatch.{keeps_by}
use Rattle.kernel_theorems.specs.History.{OfDispatch, EachHas}

-- the rows of a history with one dispatch more: for a property that speaks of rows
pub rows_join : (a : List Dispatch) (d : Dispatch) → dispatch_rows (a ++ d ∷ []) ≡ dispatch_rows a ++ dispatch_row d ∷ []
rows_join [] d = refl
rows_join (e ∷ a) d = ap (λ rows. dispatch_row e ∷ rows) (rows_join a d)

-- what each dispatch of a history has, with one dispatch more: for a property that says something of each
pub each_more : (P : OfDispatch) (a past : List Dispatch) (d : Dispatch) → EachHas P a past → P (a ++ past) d → EachHas P a (past ++ d ∷ [])
each_more P a [] d h is = (subst (λ xs. P xs d) (append-nil a) is, tt)
each_more P a (e ∷ past) d h is = (h.0, each_more P (a ++ e ∷ []) past d h.1 (subst (λ xs. P xs d) (sym (append_assoc a (e ∷ []) past)) is))

module _ (y : System) (u : CUnit) (is : y.boot.meaning ≡ kernel_meaning u y.boot.params) (n : ℕ) (I : Property) (k cause edata : ℕ) (past : List Dispatch) (at : Core) where
  -- KEPT, where the kernel's data is known, and what a dispatch of it comes to was computed: for a kernel whose dispatches are laws of their own, as
  -- equations; where they are not, `keeps_by`
  pub keeps_as : (s : C0State) (o : c0_run.Outcome Machines Changes) → at.c0 ≡ s
      → c0_run.dispatch (setting_of u y.boot.params) n (pos cause) (signed edata) (pos at.current) s (machines_of y.boot.params at) ≡ o → DoneWith o (KeptAt y I k cause edata past at)
      → Keeps y n I k cause edata past at
  keeps_as s o data_is e h =
      keeps_by y u is n I k cause edata past at (subst (λ d. DoneWith (c0_run.dispatch (setting_of u y.boot.params) n (pos cause) (signed edata) (pos at.current) d (machines_of y.boot.params at)) (KeptAt y I k cause edata past at)) (sym data_is)
      (subst (λ x. DoneWith x (KeptAt y I k cause edata past at)) (sym e) h))

-- an answer from 1 to the number of users names a user: what `answers_user` rests on
pub names_user : (users a : ℕ) → 1 ≤ a → a ≤ users → next_of users (pos a) ≡ User a
names_user users zero some few = absurd (omega arith)
names_user users (suc a) some few = ap (λ b. if b then User (suc a) else Fault BadUser) (lt-ltb a users (omega arith))

module _ (y : System) (I : Property) (k cause edata : ℕ) (past : List Dispatch) (at : Core) (d : Configuration Machines Changes) where
  -- the history with the dispatch that is done here, and this next
  abbrev pub with_this : Next → List Dispatch
  with_this next = past ++ record { turn = k; cause = cause; edata = edata; before = at; after = core_at at d; next = next } ∷ []

  -- DONE, and the answer names a user: the property is to hold with that user as the current one. For each way through the code that ends with one.
  pub answers_user : (a : ℕ) → d.answer ≡ Some (int (pos a)) → 1 ≤ a → a ≤ length y.boot.users → I (with_this (User a)) (core_at at d).c0 a → KeptAt y I k cause edata past at d
  answers_user a e some few h =
      let is : next_of (length y.boot.users) (pos a) ≡ User a = names_user (length y.boot.users) a some few in
      record { answer = pos a; answers = e; proper = subst IsProper (sym is) tt; kept = subst (λ next. I (with_this next) (core_at at d).c0 (current_after next at.current)) (sym is) h }

  -- DONE, and nobody is next: for each way that ends with 0
  pub answers_halt : d.answer ≡ Some (int (pos 0)) → I (with_this Halt) (core_at at d).c0 at.current → KeptAt y I k cause edata past at d
  answers_halt e h = record { answer = pos 0; answers = e; proper = tt; kept = h }
