-- The loop over turns, by what each call of `turns` comes to.
use Rattle.std.proofs.Common.{◌≡◌, ℕ, ◌+◌, ◌≤◌, Option, Some, None, List, Result, Ok, Err, refl, sym, ap, subst, arith}
use Rattle.std.specs.Prelude.{IsSome}
use Rattle.mips_table.specs.Turns.{TurnLaws}
use Rattle.mips_table.specs.Machine.{State}
use Rattle.schedule_file.specs.Rows.{Rows}
use Rattle.mips_machine.specs.Steps.{outside_of}
use Rattle.c0_tree.specs.Tree.{CUnit}
use Rattle.c0_tree.specs.View.{unit_view}
use Rattle.c0_meaning.specs.TypedState.{IsTypedState}
use Rattle.cvm_model.specs.Cvm.{System, Running, Cvm}
use Rattle.cvm_model.specs.declared.row.Next.{Next}
use Rattle.layer_contract.specs.declared.boot.Boot.{Boot as Booted}
use Rattle.layer_contract.specs.Boots.{boot_of}
use Rattle.boot_turns.specs.RunMachines.{RunMachines, MachinesRun}
use Rattle.boot_turns.specs.Premises.{StartsFrom}
use Rattle.boot_turns.specs.declared.answers.View.{View}
use Rattle.boot_turns.specs.declared.answers.Turn.{Turn}
use Rattle.boot_turns.specs.declared.answers.Turn.TheVariants.{Over}
use Rattle.boot_turns.specs.declared.answers.RunFault.{RunFault}
use Rattle.boot_run.specs.LoadEnds.{Kept}
use Rattle.boot_run.specs.TurnCalls.{Around, ReadyAt, TurnsEnd, TurnsRun, KeepsLoad}
use Rattle.boot_run.specs.Pieces.{FirstAt, Bootable, Gone, GoRuns}
use Rattle.boot_run.proofs.TurnToTurn.{Goes, going_from, going_turns, goes_on, go_done, go_over, go_fails}

pub machines : ((u : CUnit) → MachinesRun (IsTypedState u)) → (b : Booted) (rows : Rows) (count : ℕ) (y : System) (s0 : State) (delay bound : ℕ) (old : List (List ℕ)) → Bootable b rows count y s0 delay bound old →
    RunMachines (outside_of rows count) y s0 delay bound
machines law b rows count y s0 delay bound old p = law (unit_view b.unit) (outside_of rows count) y s0 delay bound p.starts

-- what a call of `turns` comes to, of this boot, over these rows and this view
abbrev TurnsAt : Booted → Rows → View → (count most : ℕ) → (before after : Around) → Result (ℕ × Turn) RunFault → Type 0
TurnsAt b rows v count most before after result =
    (u : CUnit) (y : System) (s0 : State) (delay bound : ℕ) (k t : ℕ) (c : Cvm) →
    y.boot ≡ boot_of b → StartsFrom (IsTypedState u) (outside_of rows count) y s0 delay bound →
    ReadyAt (outside_of rows count) y s0 v k t c before → c.status ≡ Running → TurnsEnd (outside_of rows count) y s0 v k t c most before after result

-- after i turns of a run that was found as r
abbrev pub KeepsGoing : {L : Type 0} → (count : ℕ) → Kept L → (before : Around) → ℕ → Around → Type 0
KeepsGoing count r before i now = (y : System) (s0 : State) (delay bound : ℕ) (old : List (List ℕ)) (k t steps : ℕ) (c : Cvm) → Bootable r.boot r.machine.rows count y s0 delay bound old →
    FirstAt (outside_of r.machine.rows count) s0 k t → before.budget + t ≡ steps →
    ReadyAt (outside_of r.machine.rows count) y s0 r.view k t c before → Goes (outside_of r.machine.rows count) y s0 r.view steps (k + i) now

pub keeps_first : {L : Type 0} (count : ℕ) (r : Kept L) (before : Around) (i : ℕ) → i ≡ 0 → KeepsGoing count r before i before
keeps_first count r before i none = λ y s0 delay bound old k t steps c p starts sum ready.
    let same : k ≡ k + i = omega (arith, none) in
    subst (λ n. Goes (outside_of r.machine.rows count) y s0 r.view steps n before) same (going_from (outside_of r.machine.rows count) y s0 r.view k t steps c before starts sum ready)

module _ {L : Type 0} (count size : ℕ) (r now : Kept L) (kept : KeepsLoad r now) (same : size ≡ count) (most : ℕ) (mid after : Around) (result : Result (ℕ × Turn) RunFault) (runs : TurnsRun size now most mid after result) where
  at_load : TurnsAt r.boot r.machine.rows r.view count most mid after result
  at_load =
      subst (λ (n : ℕ). TurnsAt r.boot r.machine.rows r.view n most mid after result) same
      (subst (λ (v : View). TurnsAt r.boot r.machine.rows v size most mid after result) kept.view_is
      (subst (λ (rows : Rows). TurnsAt r.boot rows now.view size most mid after result) kept.rows_are
      (subst (λ (b : Booted). TurnsAt b now.machine.rows now.view size most mid after result) kept.boot_is runs)))

  pub turns_end : (y : System) (s0 : State) (delay bound : ℕ) (old : List (List ℕ)) (k t : ℕ) (c : Cvm) → Bootable r.boot r.machine.rows count y s0 delay bound old → ReadyAt (outside_of r.machine.rows count) y s0 r.view k t c mid → c.status ≡ Running →
      TurnsEnd (outside_of r.machine.rows count) y s0 r.view k t c most mid after result
  turns_end y s0 delay bound old k t c p ready running =
      at_load (unit_view r.boot.unit) y s0 delay bound k t c p.same p.starts ready running

-- so many turns are made
pub keeps_next : {L : Type 0} (count size : ℕ) (r now : Kept L) (before mid after : Around) (i next most made : ℕ) (answer : Turn) → KeepsLoad r now → size ≡ count → mid.ended ≡ None → TurnsRun size now most mid after (Ok (made, answer)) →
    i + made ≡ next → KeepsGoing count r before i mid → KeepsGoing count r before next after
keeps_next count size r now before mid after i next most made answer kept same on runs is so = λ y s0 delay bound old k t steps c p starts sum ready.
    let g = so y s0 delay bound old k t steps c p starts sum ready in
    let there : k + i + made ≡ k + next = omega (arith, is) in
    let x = outside_of r.machine.rows count in
    subst (λ n. Goes x y s0 r.view steps n after) there
    (going_turns x y s0 r.view steps (k + i) g.0 g.1 most mid after made answer g.2
    (turns_end count size r now kept same most mid after (Ok (made, answer)) runs y s0 delay bound old (k + i) g.0 g.1 p g.2.ready (goes_on x y s0 r.view (k + i) g.0 g.1 mid g.2.ready on)))

-- one fails
pub go_failed : {L : Type 0} (counts : TurnLaws) (count size : ℕ) (r now : Kept L) (turns : ℕ) (before mid after : Around) (i most : ℕ) (f e : RunFault) (result : Result (Unit {0}) RunFault) → KeepsLoad r now → size ≡ count → i + most ≤ turns →
    mid.ended ≡ None → TurnsRun size now most mid after (Err f) → KeepsGoing count r before i mid → result ≡ Err e → f ≡ e → GoRuns count r turns before after result
go_failed counts count size r now turns before mid after i most f e result kept same room on runs so is fault = λ y s0 delay bound old k t wanted steps c p starts some more sum ready.
    let g = so y s0 delay bound old k t steps c p starts sum ready in
    let x = outside_of r.machine.rows count in
    let w = go_fails counts x y s0 r.view wanted steps (k + i) g.0 g.1 most mid after (omega (arith, room, more)) g.2 f
    (turns_end count size r now kept same most mid after (Err f) runs y s0 delay bound old (k + i) g.0 g.1 p g.2.ready (goes_on x y s0 r.view (k + i) g.0 g.1 mid g.2.ready on)) in
    rw (is, sym fault) w

-- the run has ended
pub went_over : {L : Type 0} (law : (u : CUnit) → MachinesRun (IsTypedState u)) (count : ℕ) (r : Kept L) (turns : ℕ) (before mid after : Around) (i : ℕ) → i ≤ turns → IsSome mid.ended → mid ≡ after → KeepsGoing count r before i mid →
    GoRuns count r turns before after (Ok tt)
went_over law count r turns before mid after i le over same so = λ y s0 delay bound old k t wanted steps c p starts some more sum ready.
    subst (λ (a : Around). Gone (outside_of r.machine.rows count) y s0 r.view wanted steps a) same
    (go_over (outside_of r.machine.rows count) y s0 delay bound (machines law r.boot r.machine.rows count y s0 delay bound old p) r.view wanted steps (k + i) mid (omega (arith, le, more)) over (so y s0 delay bound old k t steps c p starts sum ready))

-- or all turns are complete
pub went : {L : Type 0} (count : ℕ) (r : Kept L) (turns : ℕ) (before after : Around) (i : ℕ) → i ≡ turns → KeepsGoing count r before i after → GoRuns count r turns before after (Ok tt)
went count r turns before after i same so = λ y s0 delay bound old k t wanted steps c p starts some more sum ready.
    go_done (outside_of r.machine.rows count) y s0 r.view wanted steps (k + i) after some (omega (arith, same, more)) (so y s0 delay bound old k t steps c p starts sum ready)

-- a run that makes turns, or fails, had not ended
pub not_over : (ended : Option Next) (made : ℕ) (answer : Turn) → (IsSome ended → ◌≡◌ {A = Result (ℕ × Turn) RunFault} (Ok (made, answer)) (Ok (0, Over))) → 1 ≤ made → ended ≡ None
not_over None made answer h some = refl
not_over (Some e) made answer h some = absurd (let w = first made answer (h refl) in omega (arith, w, some))
  where
    one : (a b : ℕ × Turn) → ◌≡◌ {A = Result (ℕ × Turn) RunFault} (Ok a) (Ok b) → a ≡ b
    one a b e = cc

    first : (made : ℕ) (answer : Turn) → ◌≡◌ {A = Result (ℕ × Turn) RunFault} (Ok (made, answer)) (Ok (0, Over)) → made ≡ 0
    first made answer e = ap (λ (p : ℕ × Turn). p.0) (one (made, answer) (0, Over) e)

pub not_failed : (ended : Option Next) (f : RunFault) → (IsSome ended → ◌≡◌ {A = Result (ℕ × Turn) RunFault} (Err f) (Ok (0, Over))) → ended ≡ None
not_failed None f h = refl
not_failed (Some e) f h = absurd (let w = h refl in cc)

-- and one that makes none had
pub was_over : (ended : Option Next) (made : ℕ) → (ended ≡ None → 1 ≤ made) → made ≡ 0 → IsSome ended
was_over None made h none = absurd (let w = h refl in omega (arith, w, none))
was_over (Some e) made h none = refl
