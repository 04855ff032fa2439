-- From code that is done to a dispatch that keeps a property of a whole system: so the rules for code (c0_meaning/proofs/Rules) and the rule for systems
-- (proofs/SystemsHold) meet. No contract can carry it, since a property ranges over types: this file may be cited from other crates.
use Rattle.std.proofs.Common.{◌≡◌, ℕ, zero, suc, ◌≤◌, List, [], ◌∷◌, ◌++◌, length, Some, sym, ap, ◌∙◌, subst, arith}
use Rattle.std.specs.Prelude.{pos, ◌≢◌, ℤ, if◌then◌else◌}
use Rattle.std.proofs.lemmas.Bool.{lt-ltb}
use Rattle.mips_table.specs.Arith.{signed}
use Rattle.c0_tree.specs.Tree.{CUnit}
use Rattle.c0_meaning.specs.Value.{int}
use Rattle.c0_meaning.specs.World.{Configuration}
use Rattle.c0_meaning.specs.Execution as c0_run
use Rattle.c0_meaning.specs.Reasoning.{DoneWith}
use Rattle.cvm_model.specs.Kernel.{Core, Changes, DispatchEnd, Answers, NotYet, KernelMeaning, DispatchOutcome as Came}
use Rattle.cvm_model.specs.KernelMeaning.{Machines, answer_end, core_at, setting_of, machines_of, outcome_of, kernel_meaning}
use Rattle.cvm_model.specs.Cvm.{System, dispatch_of, next_of, core_of}
use Rattle.cvm_model.specs.declared.kernel_fault.KernelFault.TheVariants.{BadUser}
use Rattle.cvm_model.specs.declared.row.Next.{Next}
use Rattle.cvm_model.specs.declared.row.Next.TheVariants.{User, Halt, Fault}
use Rattle.cvm_model.specs.Invariant.{Dispatch, next_by, made_by}
use Rattle.cvm_model.specs.Systems.{SystemProperty, KeepsAll, KeptAllAt, UsePages}

module _ (y : System) (u : CUnit) (is : y.boot.meaning ≡ kernel_meaning u y.boot.params) (n : ℕ) (I : SystemProperty) (k cause edata : ℕ) (past : List Dispatch) (at : Core) where
  answers_over : (a : ℤ) (e : DispatchEnd) → e ≡ Answers a → e ≢ NotYet
  answers_over a e is f = absurd (let g : Answers a ≡ NotYet = sym is ∙ f in cc)

  all_by_outcome : (o : c0_run.Outcome Machines Changes) → DoneWith o (KeptAllAt y I k cause edata past at) → dispatch_of y n cause edata at ≡ outcome_of at o → KeepsAll y n I k cause edata past at
  all_by_outcome (c0_run.Done cost d) h e =
      let next : Next = next_of (length y.boot.users) h.answer in
      let same : next_by (length y.boot.users) (answer_end d.answer) ≡ next = ap (λ a. next_by (length y.boot.users) (answer_end a)) h.answers in
      record {
        over = answers_over h.answer (dispatch_of y n cause edata at).end (ap (λ (o : Came). o.end) e ∙ ap answer_end h.answers);
        kept = subst (λ (o : Came). let d = made_by y n k cause edata at o in I (suc k) (past ++ d ∷ []) (core_of d.next d.after)) (sym e)
            (subst (λ (is : Next). I (suc k) (past ++ record { turn = k; cause = cause; edata = edata; before = at; after = core_at at d; next = is } ∷ []) (core_of is (core_at at d))) (sym same) h.kept);
      }
  all_by_outcome (c0_run.Failed cost f d) h e = absurd h
  all_by_outcome (c0_run.NotYet cost d) h e = absurd h

  -- FROM CODE TO A DISPATCH of a whole system
  pub keeps_all_by : DoneWith (c0_run.dispatch (setting_of u y.boot.params) n (pos cause) (signed edata) (pos at.current) at.c0 (machines_of y.boot.params at)) (KeptAllAt y I k cause edata past at)
      → KeepsAll y n I k cause edata past at
  keeps_all_by h = all_by_outcome _ h (ap (λ (m : KernelMeaning). m.dispatch n at (pos cause) (signed edata) (pos at.current)) is)

-- work that is done, with at most so many pages touched
abbrev pub ComesWithin : ℕ → c0_run.Outcome Machines Changes → (Configuration Machines Changes → Type 0) → Type 0
ComesWithin pages (c0_run.Done used d) Q = (used.pages ≤ pages) × Q d
ComesWithin pages (c0_run.Failed used f d) Q = ⊥
ComesWithin pages (c0_run.NotYet used d) Q = ⊥

pages_join : (y : System) (n pages : ℕ) (past : List Dispatch) (d : Dispatch) → UsePages y n pages past → (dispatch_of y n d.cause d.edata d.before).pages ≤ pages → UsePages y n pages (past ++ d ∷ [])
pages_join y n pages [] d h few = (few, tt)
pages_join y n pages (e ∷ past) d h few = (h.0, pages_join y n pages past d h.1 few)

-- a property, and that each dispatch so far touched at most so many pages
abbrev pub Within : System → (n pages : ℕ) → SystemProperty → SystemProperty
Within y n pages I k past c = I k past c × UsePages y n pages past

-- FROM CODE WHOSE PAGES ARE KNOWN to a dispatch of a whole system: for a bound on steps by pages
module _ (y : System) (u : CUnit) (is : y.boot.meaning ≡ kernel_meaning u y.boot.params) (n pages : ℕ) (I : SystemProperty) (k cause edata : ℕ) (past : List Dispatch) (at : Core) where
  within_by_outcome : (o : c0_run.Outcome Machines Changes) → UsePages y n pages past → ComesWithin pages o (KeptAllAt y I k cause edata past at) → dispatch_of y n cause edata at ≡ outcome_of at o
      → KeepsAll y n (Within y n pages I) k cause edata past at
  within_by_outcome (c0_run.Done cost d) touch h e =
      let all : KeepsAll y n I k cause edata past at = all_by_outcome y u is n I k cause edata past at (c0_run.Done cost d) h.1 e in
      let made : Dispatch = made_by y n k cause edata at (dispatch_of y n cause edata at) in
      let few : (dispatch_of y n cause edata at).pages ≤ pages = subst (λ (o : Came). o.pages ≤ pages) (sym e) h.0 in
      record { over = all.over; kept = (all.kept, pages_join y n pages past made touch few) }
  within_by_outcome (c0_run.Failed cost f d) touch h e = absurd h
  within_by_outcome (c0_run.NotYet cost d) touch h e = absurd h

  pub keeps_within_by : UsePages y n pages past → ComesWithin pages (c0_run.dispatch (setting_of u y.boot.params) n (pos cause) (signed edata) (pos at.current) at.c0 (machines_of y.boot.params at)) (KeptAllAt y I k cause edata past at)
      → KeepsAll y n (Within y n pages I) k cause edata past at
  keeps_within_by touch h = within_by_outcome _ touch h (ap (λ (m : KernelMeaning). m.dispatch n at (pos cause) (signed edata) (pos at.current)) is)

-- an answer from 1 to the number of users names a user
answer_names : (users a : ℕ) → 1 ≤ a → a ≤ users → next_of users (pos a) ≡ User a
answer_names users zero some few = absurd (omega arith)
answer_names users (suc a) some few = ap (λ b. if b then User (suc a) else Fault BadUser) (lt-ltb a users (omega arith))

module _ (y : System) (I : SystemProperty) (k cause edata : ℕ) (past : List Dispatch) (at : Core) (d : Configuration Machines Changes) where
  -- the history with the dispatch that is done here, and this next
  abbrev pub with_this : Next → List Dispatch
  with_this next = past ++ record { turn = k; cause = cause; edata = edata; before = at; after = core_at at d; next = next } ∷ []

  -- DONE, and the answer names a user: the property is to hold with that user as the current one
  pub all_user : (a : ℕ) → d.answer ≡ Some (int (pos a)) → 1 ≤ a → a ≤ length y.boot.users → I (suc k) (with_this (User a)) (record (core_at at d) { current = a }) → KeptAllAt y I k cause edata past at d
  all_user a e some few h =
      let is : next_of (length y.boot.users) (pos a) ≡ User a = answer_names (length y.boot.users) a some few in
      record { answer = pos a; answers = e; kept = subst (λ next. I (suc k) (with_this next) (core_of next (core_at at d))) (sym is) h }

  -- DONE, and nobody is next
  pub all_halt : d.answer ≡ Some (int (pos 0)) → I (suc k) (with_this Halt) (core_at at d) → KeptAllAt y I k cause edata past at d
  all_halt e h = record { answer = pos 0; answers = e; kept = h }
