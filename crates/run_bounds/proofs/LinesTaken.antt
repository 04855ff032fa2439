-- Of the dispatches of a run at most as many take lines as turns have some: lines that are pending belong to one of these turns.
use Rattle.std.proofs.Common.{◌≡◌, ℕ, zero, suc, ◌+◌, ◌≤◌, Bool, true, false, not, List, [], ◌∷◌, ◌++◌, Option, Some, None, refl, sym, ap, subst, arith, eqb-true}
use Rattle.std.specs.Prelude.{bit_or, ◌==◌, if◌then◌else◌}
use Rattle.mips_table.specs.declared.cause.Cause.{Cause}
use Rattle.mips_table.specs.declared.cause.Cause.TheVariants as causes
use Rattle.mips_table.specs.Machine.{cause_number}
use Rattle.mips_table.specs.Flat.{VStep, Goes, Trap, vstep}
use Rattle.cvm_model.specs.Kernel.{Core, DispatchEnd, Answers, Faults, NotYet}
use Rattle.cvm_model.specs.Primitives.{user_of}
use Rattle.cvm_model.specs.Cvm.{System, Cvm, Status, Running, Halted, Faulted, Interrupts, user_step, begun, cvm, turn, turn_by, dispatch_of, after_dispatch}
use Rattle.cvm_model.specs.Invariant.{Dispatch, made_by, of_begin, of_status, of_turn, dispatches_of, IsTrap}
use Rattle.cvm_model.specs.Systems.{lines_taken}
use Rattle.cvm_model.proofs.SystemsHold.{lines_join, append_none, TrapsOf, step_traps}
use Rattle.run_bounds.specs.Lines.{are_some, turns_with_lines, LinesTakenAreFew}

-- 1 where some are pending
abbrev some : ℕ → ℕ
some n = if are_some n then 1 else 0

is_trap : (c : Cause) → IsTrap c → (cause_number c == 1) ≡ false
is_trap causes.Reset h = absurd h
is_trap causes.External h = absurd h
is_trap causes.FetchAlign h = refl
is_trap causes.FetchFault h = refl
is_trap causes.Illegal h = refl
is_trap causes.Overflow h = refl
is_trap causes.Syscall h = refl
is_trap causes.DataAlign h = refl
is_trap causes.DataFault h = refl

module _ (y : System) (lines : ℕ → ℕ) (n : ℕ) where
  -- what was taken, with what is pending, is no more than the turns that have some
  abbrev At : ℕ → List Dispatch → Option Cvm → Type 0
  At k past None = Unit {0}
  At k past (Some c) = lines_taken past + some c.pending ≤ turns_with_lines lines k

  grows : (k : ℕ) → turns_with_lines lines k ≤ turns_with_lines lines (suc k)
  grows k = by (are_some (lines k))
    where
      by : (b : Bool) → turns_with_lines lines k ≤ (if b then suc (turns_with_lines lines k) else turns_with_lines lines k)
      by true = omega arith
      by false = omega arith

  -- a dispatch, which leaves so many pending
  after : (k cause edata : ℕ) (past : List Dispatch) (c : Cvm) (at : Core) (pending : ℕ) → lines_taken past + (if cause == 1 then 1 else 0) + some pending ≤ turns_with_lines lines (suc k)
      → (e : DispatchEnd) → At (suc k) (past ++ made_by y n k cause edata at (dispatch_of y n cause edata at) ∷ []) (after_dispatch y c k cause edata at.current pending (dispatch_of y n cause edata at) e)
  after k cause edata past c at pending h (Answers a) = let l = lines_join past (made_by y n k cause edata at (dispatch_of y n cause edata at)) in omega (arith, l, h)
  after k cause edata past c at pending h (Faults f) = let l = lines_join past (made_by y n k cause edata at (dispatch_of y n cause edata at)) in omega (arith, l, h)
  after k cause edata past c at pending h NotYet = tt

  -- no lines are taken
  not_taken : (k : ℕ) (past : List Dispatch) (c : Cvm) (b : Bool) → b ≡ false → lines_taken past + some c.pending ≤ turns_with_lines lines k → lines_taken past + (if b then 1 else 0) + some 0 ≤ turns_with_lines lines (suc k)
  not_taken k past c b e h = let g = grows k in rw e (omega (arith, g, h))

  -- lines are taken: pending ones, or those of this turn
  taken : (k : ℕ) (past : List Dispatch) (c : Cvm) → (bit_or c.pending (lines k) == 0) ≡ false → lines_taken past + some c.pending ≤ turns_with_lines lines k → lines_taken past + 1 + 0 ≤ turns_with_lines lines (suc k)
  taken k past c e h = by (lines k == 0) refl
    where
      pends : (b : Bool) → (c.pending == 0) ≡ b → lines k ≡ 0 → lines_taken past + 1 + 0 ≤ turns_with_lines lines (suc k)
      pends true p z = absurd (let q : c.pending ≡ 0 = eqb-true c.pending 0 p in no_lines c.pending (lines k) q z e)
        where
          no_lines : (a b : ℕ) → a ≡ 0 → b ≡ 0 → (bit_or a b == 0) ≡ false → ⊥
          no_lines a b p q e = let f : (bit_or 0 0 == 0) ≡ false = subst (λ b. (bit_or 0 b == 0) ≡ false) q (subst (λ a. (bit_or a b == 0) ≡ false) p e) in absurd (cc)
      pends false p z =
          let one : some c.pending ≡ 1 = ap (λ (b : Bool). if not b then 1 else 0) p in
          let g = grows k in omega (arith, g, h, one)

      by : (b : Bool) → (lines k == 0) ≡ b → lines_taken past + 1 + 0 ≤ turns_with_lines lines (suc k)
      by true z = pends (c.pending == 0) refl (eqb-true (lines k) 0 z)
      by false z =
          let more : turns_with_lines lines (suc k) ≡ suc (turns_with_lines lines k) = ap (λ (b : Bool). if not b then suc (turns_with_lines lines k) else turns_with_lines lines k) z in
          omega (arith, more, h)

  stepped : (k : ℕ) (past : List Dispatch) (c : Cvm) (v : VStep) → TrapsOf v → lines_taken past + some c.pending ≤ turns_with_lines lines (suc k)
      → At (suc (suc k)) (past ++ of_begin y n (suc k) (user_step c.core v)) (begun y n (suc k) c (user_step c.core v))
  stepped k past c (Goes f) t h =
      subst (λ p. At (suc (suc k)) p (begun y n (suc k) c (user_step c.core (Goes f)))) (sym (append_none past)) (let g = grows (suc k) in omega (arith, g, h))
  stepped k past c (Trap f cause edata) t h =
      after (suc k) (cause_number cause) edata past c _ 0 (not_taken (suc k) past c (cause_number cause == 1) (is_trap cause t) h) (dispatch_of y n (cause_number cause) edata _).end

  begins : (k : ℕ) (past : List Dispatch) (c : Cvm) → lines_taken past + some c.pending ≤ turns_with_lines lines (suc k) → (b : Bool) → (bit_or c.pending (lines (suc k)) == 0) ≡ b
      → let v = if b then user_step c.core (vstep (user_of c.core.users c.core.current)) else Interrupts 1 (bit_or c.pending (lines (suc k))) c.core 0 in
      At (suc (suc k)) (past ++ of_begin y n (suc k) v) (begun y n (suc k) c v)
  begins k past c h true e = stepped k past c (vstep (user_of c.core.users c.core.current)) (step_traps (user_of c.core.users c.core.current)) h
  begins k past c h false e = after (suc k) 1 (bit_or c.pending (lines (suc k))) past c c.core 0 (taken (suc k) past c e h) (dispatch_of y n 1 (bit_or c.pending (lines (suc k))) c.core).end

  -- the first turn takes no lines, and keeps those that are raised in it
  first : (past : List Dispatch) (c : Cvm) → lines_taken past + some c.pending ≤ 0 → lines_taken past + 0 + some (bit_or c.pending (lines 0)) ≤ turns_with_lines lines 1
  first past c h = by (c.pending == 0) refl
    where
      of_lines : (b : Bool) → (lines 0 == 0) ≡ b → lines_taken past ≤ 0 → lines_taken past + 0 + some (bit_or 0 (lines 0)) ≤ (if not (lines 0 == 0) then 1 else 0)
      of_lines true z low = let q : lines 0 ≡ 0 = eqb-true (lines 0) 0 z in rw q (omega (arith, low))
      of_lines false z low =
          let e : some (lines 0) ≡ 1 = ap (λ (b : Bool). if not b then 1 else 0) z in
          let few : some (bit_or 0 (lines 0)) ≤ 1 = at_most (are_some (bit_or 0 (lines 0))) in
          omega (arith, e, low, few)
        where
          at_most : (b : Bool) → (if b then 1 else 0) ≤ 1
          at_most true = omega arith
          at_most false = omega arith

      by : (b : Bool) → (c.pending == 0) ≡ b → lines_taken past + 0 + some (bit_or c.pending (lines 0)) ≤ turns_with_lines lines 1
      by true p = let q : c.pending ≡ 0 = eqb-true c.pending 0 p in
          subst (λ (m : ℕ). lines_taken past + 0 + some (bit_or m (lines 0)) ≤ turns_with_lines lines 1) (sym q) (of_lines (lines 0 == 0) refl (omega (arith, h)))
      by false p = let one : some c.pending ≡ 1 = ap (λ (b : Bool). if not b then 1 else 0) p in absurd (omega (arith, one, h))

  by_status : (k : ℕ) (past : List Dispatch) (c : Cvm) (s : Status) → lines_taken past + some c.pending ≤ turns_with_lines lines k → At (suc k) (past ++ of_status y n k (lines k) c s) (turn_by y n k (lines k) c s)
  by_status zero past c Running h = after 0 0 0 past c c.core (bit_or c.pending (lines 0)) (first past c h) (dispatch_of y n 0 0 c.core).end
  by_status (suc k) past c Running h = begins k past c h (bit_or c.pending (lines (suc k)) == 0) refl
  by_status k past c Halted h = subst (λ p. lines_taken p + some c.pending ≤ turns_with_lines lines (suc k)) (sym (append_none past)) (let g = grows k in omega (arith, g, h))
  by_status k past c (Faulted f) h = subst (λ p. lines_taken p + some c.pending ≤ turns_with_lines lines (suc k)) (sym (append_none past)) (let g = grows k in omega (arith, g, h))

  by_turn : (k : ℕ) (past : List Dispatch) (o : Option Cvm) → At k past o → At (suc k) (past ++ of_turn y n k (lines k) o) (turn y n k (lines k) o)
  by_turn k past None h = tt
  by_turn k past (Some c) h = by_status k past c c.status h

  all : (k : ℕ) → At k (dispatches_of y lines n k) (cvm y lines n k)
  all zero = omega arith
  all (suc k) = by_turn k (dispatches_of y lines n k) (cvm y lines n k) (all k)

pub lines_taken_are_few : LinesTakenAreFew
lines_taken_are_few y lines n k c e =
    let h : lines_taken (dispatches_of y lines n k) + some c.pending ≤ turns_with_lines lines k = subst (At y lines n k (dispatches_of y lines n k)) e (all y lines n k) in
    omega (arith, h)
