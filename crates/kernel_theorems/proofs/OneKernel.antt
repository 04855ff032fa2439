-- The rules for a kernel's runs and for whole systems, at one kernel and its tree: the code of a dispatch from data that are known, and a dispatch that is done
-- with a user as its answer. No contract can carry them, since a property ranges over types: this file may be cited from other crates.
use Rattle.std.proofs.Common.{◌≡◌, ℕ, ◌≤◌, List, [], ◌∷◌, ◌++◌, length, Some, sym, subst}
use Rattle.std.specs.Prelude.{pos}
use Rattle.mips_table.specs.Arith.{signed}
use Rattle.c0_tree.specs.Tree.{CUnit}
use Rattle.c0_meaning.specs.State.{C0State}
use Rattle.c0_meaning.specs.Value.{int}
use Rattle.c0_meaning.specs.World.{Configuration}
use Rattle.c0_meaning.specs.Execution.{dispatch}
use Rattle.c0_meaning.specs.Reasoning.{DoneWith}
use Rattle.cvm_model.specs.Kernel.{Core, Changes}
use Rattle.cvm_model.specs.KernelMeaning.{Machines, core_at, setting_of, machines_of, kernel_meaning}
use Rattle.cvm_model.specs.Cvm.{System}
use Rattle.cvm_model.specs.declared.row.Next.TheVariants.{User}
use Rattle.cvm_model.specs.Invariant.{Property, Dispatch, Keeps, KeptAt}
use Rattle.cvm_model.specs.Systems.{SystemProperty, KeepsAll, KeptAllAt, UsePages}
use Rattle.cvm_model.proofs.KeepsDispatch.{keeps_by}
use Rattle.cvm_model.proofs.KeepsSystem.{ComesWithin, Within, keeps_within_by}
use Rattle.kernel_theorems.proofs.ComputedDispatches.{answers_user}

module _ (y : System) (u : CUnit) (is : y.boot.meaning ≡ kernel_meaning u y.boot.params) (n : ℕ) where
  -- A KERNEL: the code of a dispatch from these data is done, and the property holds then
  abbrev pub Does : Property → (k cause edata : ℕ) → List Dispatch → Core → C0State → Type 0
  Does I k cause edata past at s = DoneWith (dispatch (setting_of u y.boot.params) n (pos cause) (signed edata) (pos at.current) s (machines_of y.boot.params at)) (KeptAt y I k cause edata past at)

  pub keeps_from : (I : Property) (k cause edata : ℕ) (past : List Dispatch) (at : Core) (s : C0State) → at.c0 ≡ s → Does I k cause edata past at s → Keeps y n I k cause edata past at
  keeps_from I k cause edata past at s data_is h = keeps_by y u is n I k cause edata past at (subst (Does I k cause edata past at) (sym data_is) h)

  -- A WHOLE SYSTEM: and within so many pages
  abbrev pub DoesWithin : (pages : ℕ) → SystemProperty → (k cause edata : ℕ) → List Dispatch → Core → C0State → Type 0
  DoesWithin pages I k cause edata past at s =
      ComesWithin pages (dispatch (setting_of u y.boot.params) n (pos cause) (signed edata) (pos at.current) s (machines_of y.boot.params at)) (KeptAllAt y I k cause edata past at)

  pub keeps_within : (pages : ℕ) (I : SystemProperty) (k cause edata : ℕ) (past : List Dispatch) (at : Core) (s : C0State) → UsePages y n pages past → at.c0 ≡ s → DoesWithin pages I k cause edata past at s
      → KeepsAll y n (Within y n pages I) k cause edata past at
  keeps_within pages I k cause edata past at s touch data_is h = keeps_within_by y u is n pages I k cause edata past at touch (subst (DoesWithin pages I k cause edata past at) (sym data_is) h)

-- DONE, and the answer names a user: `answers_user` where all else is known by what is wanted
pub to_user : {y : System} {I : Property} {k cause edata : ℕ} {past : List Dispatch} {at : Core} {d : Configuration Machines Changes} → (a : ℕ) → d.answer ≡ Some (int (pos a)) → 1 ≤ a → a ≤ length y.boot.users
    → I (past ++ record { turn = k; cause = cause; edata = edata; before = at; after = core_at at d; next = User a } ∷ []) (core_at at d).c0 a → KeptAt y I k cause edata past at d
to_user {y} {I} {k} {cause} {edata} {past} {at} {d} a e some few h = answers_user y I k cause edata past at d a e some few h
