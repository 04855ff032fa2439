-- How a property of a whole system, a kernel with its users, is proved of all its runs: an invariant over the whole state between turns, which each dispatch
-- and each untrapped step of a user keeps. The rule is `SystemsHold`, which the lemma `systems_hold` of proofs/SystemsHold proves; that of Invariant is one of
-- its instances. The law `RunsAreChains` says of each run, with no invariant, how its dispatches follow one another.
use Rattle.std.specs.Prelude.{◌≡◌, ◌≢◌, ℕ, zero, suc, ◌+◌, ◌<◌, ◌≤◌, ◌^◌, ◌==◌, if◌then◌else◌, ℤ, Some, List, [], ◌∷◌, ◌++◌, length}
use Rattle.mips_table.specs.declared.cause.Cause.{Cause}
use Rattle.mips_table.specs.Machine.{cause_number}
use Rattle.mips_table.specs.Flat.{Goes, Flat, vstep}
use Rattle.c0_tree.specs.Tree.{CUnit}
use Rattle.c0_meaning.specs.Value.{int}
use Rattle.c0_meaning.specs.World.{Configuration}
use Rattle.cvm_model.specs.Kernel.{Core, Changes, NotYet}
use Rattle.cvm_model.specs.KernelMeaning.{Machines, kernel_meaning, core_at}
use Rattle.cvm_model.specs.Primitives.{user_of}
use Rattle.cvm_model.specs.Stands.{IsUser}
use Rattle.cvm_model.specs.Cvm.{System, Cvm, Status, Running, cvm, IsCvm, dispatch_of, next_of, status_of, core_of, first_core}
use Rattle.cvm_model.specs.Invariant.{Dispatch, dispatch_rows, next_by, made_by, dispatches_of, IsTrapOf, with_machine, Known, HasEight, HasUsers}

-- a property of so many complete turns, the dispatches in them, and the state behind them: the kernel's data, the users' machines, the console and who is
-- current
abbrev pub SystemProperty : Type 1
SystemProperty = (turns : ℕ) → List Dispatch → Core → Type 0

-- the status behind dispatches: that after the last one
abbrev pub status_from : Status → List Dispatch → Status
status_from s [] = s
status_from s (d ∷ rest) = status_from (status_of d.next) rest

abbrev pub status_after : List Dispatch → Status
status_after past = status_from Running past

-- how many turns there are up to the last dispatch, its own counted
abbrev pub turns_from : ℕ → List Dispatch → ℕ
turns_from k [] = k
turns_from k (d ∷ rest) = turns_from (suc d.turn) rest

abbrev pub turns_of : List Dispatch → ℕ
turns_of past = turns_from 0 past

-- the dispatch of turn k, and the state behind it, with who is next as the current user
abbrev pub DispatchKept : System → ℕ → SystemProperty → (k cause edata : ℕ) → List Dispatch → Core → Type 0
DispatchKept y n I k cause edata past at =
    let d = made_by y n k cause edata at (dispatch_of y n cause edata at) in I (suc k) (past ++ d ∷ []) (core_of d.next d.after)

-- THE DISPATCH KEEPS IT: it is over within n units, by an answer or by a fault, and the property holds behind it
pub record KeepsAll (y : System) (n : ℕ) (I : SystemProperty) (k cause edata : ℕ) (past : List Dispatch) (at : Core) : Type 0 where
  pub over : (dispatch_of y n cause edata at).end ≢ NotYet
  pub kept : DispatchKept y n I k cause edata past at

-- or only where it is over
pub record KeepsIfOver (y : System) (n : ℕ) (I : SystemProperty) (k cause edata : ℕ) (past : List Dispatch) (at : Core) : Type 0 where
  pub kept : (dispatch_of y n cause edata at).end ≢ NotYet → DispatchKept y n I k cause edata past at

-- where the code of a dispatch is done, with an answer: so the rules for code serve this rule, by `keeps_all_by` of proofs/KeepsSystem
pub record KeptAllAt (y : System) (I : SystemProperty) (k cause edata : ℕ) (past : List Dispatch) (at : Core)
    (d : Configuration Machines Changes) : Type 0 where
  pub answer : ℤ
  pub answers : d.answer ≡ Some (int answer)
  pub kept : let next = next_of (length y.boot.users) answer in
      I (suc k) (past ++ record { turn = k; cause = cause; edata = edata; before = at; after = core_at at d; next = next } ∷ []) (core_of next (core_at at d))

-- THE OBLIGATIONS: the dispatch of the start sets the property up; a dispatch that takes lines, one that takes a trap of the current user, from the state
-- before its step, and an untrapped step of that user keep it. Each may use what is known,
-- and that the state before it is running.
pub record IsKeptBy (y : System) (Fit : Core → Type 0) (I : SystemProperty) (Keeps : (k cause edata : ℕ) → List Dispatch → Core → Type 0) : Type 0 where
  pub start : Fit (first_core y) → Keeps 0 0 0 [] (first_core y)
  pub line : (k mask : ℕ) (past : List Dispatch) (c : Core) → 1 ≤ mask → mask < 2 ^ 8 → Fit c → IsUser c c.current → status_after past ≡ Running
      → I (suc k) past c → Keeps (suc k) 1 mask past c
  pub trap : (k : ℕ) (cause : Cause) (edata : ℕ) (past : List Dispatch) (before at : Core) → IsTrapOf before cause edata at → Fit before
      → IsUser before before.current →
      Fit at → IsUser at at.current → status_after past ≡ Running → I (suc k) past before → Keeps (suc k) (cause_number cause) edata past at
  pub step : (k : ℕ) (past : List Dispatch) (c : Core) (f : Flat) → vstep (user_of c.users c.current) ≡ Goes f → Fit c → IsUser c c.current
      → Fit (with_machine c f) →
      status_after past ≡ Running → I (suc k) past c → I (suc (suc k)) past (with_machine c f)

abbrev pub IsSystemInvariant : System → ℕ → (Core → Type 0) → SystemProperty → Type 0
IsSystemInvariant y n Fit I = IsKeptBy y Fit I (KeepsAll y n I)

abbrev pub IsRunInvariant : System → ℕ → (Core → Type 0) → SystemProperty → Type 0
IsRunInvariant y n Fit I = IsKeptBy y Fit I (KeepsIfOver y n I)

-- WHAT HOLDS of a state after k turns, one at least: of the turns that were made the property; they are all k where it is running, else those up to the
-- last dispatch. Its rows are those of the dispatches, and its status is that after the last one.
pub record SystemHolds (Fit : Core → Type 0) (I : SystemProperty) (k : ℕ) (past : List Dispatch) (c : Cvm) : Type 0 where
  pub made : ℕ
  pub most : made ≤ k
  pub all : c.status ≡ Running → made ≡ k
  pub last : c.status ≢ Running → made ≡ turns_of past
  pub rows : c.rows ≡ dispatch_rows past
  pub status : c.status ≡ status_after past
  pub fits : Fit c.core
  pub user : c.status ≡ Running → IsUser c.core c.core.current
  pub kept : I made past c.core

-- THE RULE: with an invariant, whatever lines are raised, each turn ends within n units, and each state from the first turn on has it
abbrev pub SystemsHold : Type 1
SystemsHold = (y : System) (u : CUnit) (n : ℕ) (Fit : Core → Type 0) (I : SystemProperty)
    → y.boot.meaning ≡ kernel_meaning u y.boot.params → Known y Fit → IsSystemInvariant y n Fit I → (lines : ℕ → ℕ) → HasEight lines → (k : ℕ)
    → ((c : Cvm) × (cvm y lines n k ≡ Some c)) × ((c : Cvm) → IsCvm y lines (suc k) c → SystemHolds Fit I (suc k) (dispatches_of y lines n (suc k)) c)

-- THE RULE for runs that are defined, with nothing on whether dispatches end
abbrev pub RunsHold : Type 1
RunsHold = (y : System) (n : ℕ) (Fit : Core → Type 0) (I : SystemProperty)
    → Known y Fit → IsRunInvariant y n Fit I → (lines : ℕ → ℕ) → HasEight lines → (k : ℕ) (c : Cvm) → cvm y lines n (suc k) ≡ Some c
    → SystemHolds Fit I (suc k) (dispatches_of y lines n (suc k)) c

-- how many dispatches of a history took lines
abbrev pub lines_taken : List Dispatch → ℕ
lines_taken [] = 0
lines_taken (d ∷ past) = (if d.cause == 1 then 1 else 0) + lines_taken past

-- an invariant of which a state is running below N turns alone, where lines were taken in so many: the system halts, or its kernel faults, within N turns then
abbrev pub EndsBelow : SystemProperty → (lines most : ℕ) → Type 0
EndsBelow I lines most = (k : ℕ) (past : List Dispatch) (c : Core) → I k past c → status_after past ≡ Running → lines_taken past ≤ lines → k < most

-- each of these dispatches touches at most so many pages
abbrev pub UsePages : System → (n pages : ℕ) → List Dispatch → Type 0
UsePages y n pages [] = Unit {0}
UsePages y n pages (d ∷ rest) = ((dispatch_of y n d.cause d.edata d.before).pages ≤ pages) × UsePages y n pages rest

-- m untrapped steps of the current user lead from one state to another
abbrev pub UserSteps : ℕ → Core → Core → Type 0
UserSteps zero c d = c ≡ d
UserSteps (suc m) c d = (e : Core) × UserSteps m c e × ((f : Flat) × (vstep (user_of e.users e.current) ≡ Goes f) × (d ≡ with_machine e f))

-- why a dispatch came where the state was `b`: at the start, by lines, or by a trap of the current user, whose step leads to the state in which it is called
pub data CameBy (b : Core) (d : Dispatch) : Type 0 where
  at_start : d.turn ≡ 0 → d.cause ≡ 0 → d.edata ≡ 0 → d.before ≡ b → CameBy b d
  by_line : d.cause ≡ 1 → 1 ≤ d.edata → d.edata < 2 ^ 8 → d.before ≡ b → CameBy b d
  by_trap : (cause : Cause) → d.cause ≡ cause_number cause → IsTrapOf b cause d.edata d.before → CameBy b d

-- a dispatch is the next one, from a state behind so many turns: untrapped steps of the current user lead up to it, one for each turn between, and it is what
-- the kernel means in the state where it is called
pub record ComesNext (y : System) (n turns : ℕ) (c : Core) (d : Dispatch) : Type 0 where
  pub steps : ℕ
  pub turn : turns + steps ≡ d.turn
  pub up_to : Core
  pub stepped : UserSteps steps c up_to
  pub came : CameBy up_to d
  pub after : d.after ≡ (dispatch_of y n d.cause d.edata d.before).after
  pub next : d.next ≡ next_by (length y.boot.users) (dispatch_of y n d.cause d.edata d.before).end

-- A CHAIN: from a state behind so many turns, dispatches one after another lead to a state behind k turns. Each begins where the one before it ended, but for
-- the steps of the user who was next.
abbrev pub Chain : System → ℕ → (turns : ℕ) → Core → List Dispatch → (k : ℕ) → Core → Type 0
Chain y n turns c [] k d = (m : ℕ) × (turns + m ≡ k) × UserSteps m c d
Chain y n turns c (e ∷ rest) k d = ComesNext y n turns c e × Chain y n (suc e.turn) (core_of e.next e.after) rest k d

-- a law: EACH RUN, whatever its kernel and its users are, is a chain of its dispatches from the start
abbrev pub RunsAreChains : Type 0
RunsAreChains = (y : System) (u : CUnit) (lines : ℕ → ℕ) (n k : ℕ) (c : Cvm) → y.boot.meaning ≡ kernel_meaning u y.boot.params → HasEight lines →
    cvm y lines n (suc k) ≡ Some c → SystemHolds (HasUsers y) (λ k past c. Chain y n 0 (first_core y) past k c) (suc k) (dispatches_of y lines n (suc k)) c
