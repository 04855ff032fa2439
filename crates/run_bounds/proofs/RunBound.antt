-- The bound of a run, by its dispatches.
use Rattle.std.proofs.Common.{◌≡◌, ℕ, zero, suc, ◌+◌, ◌*◌, ◌≤◌, List, [], ◌∷◌, ◌++◌, length, Option, Some, None, refl, sym, ap, subst, arith}
use Rattle.std.specs.Prelude.{bit_or, pos}
use Rattle.std.proofs.Math.Nat.{suc-mul, mul-le-mul_left}
use Rattle.mips_table.specs.Arith.{signed}
use Rattle.c0_tree.specs.Tree.{CUnit}
use Rattle.c0_meaning.specs.World.{total, PrimitiveMeaning}
use Rattle.c0_meaning.specs.Execution.{run_within}
use Rattle.c0_meaning.specs.Execution as c0_run
use Rattle.c0_meaning.specs.RunLaws.{PrimitivesAlone, StaysWithin, cost_of}
use Rattle.c0_meaning.specs.PrimitiveCalls.{PrimitiveCall, cost_made}
use Rattle.cvm_model.specs.Kernel.{Core, Changes, KernelMeaning, DispatchEnd, Answers, Faults, NotYet, DispatchOutcome}
use Rattle.cvm_model.specs.KernelMeaning.{Machines, kernel_primitive, setting_of, machines_of, outcome_of, kernel_meaning}
use Rattle.cvm_model.specs.Cvm.{System, Cvm, Status, Running, Halted, Faulted, Begin, Steps, Traps, Interrupts, begin, begun, cvm, map_of, turn, turn_by, turn_steps, reset_steps, page_steps, enter_steps, leave_steps, run_steps, dispatch_of, dispatches, after_dispatch}
use Rattle.cvm_model.specs.declared.row.Row.{Row}
use Rattle.cvm_model.specs.Invariant.{Dispatch, of_begin, of_status, of_turn, dispatches_of}
use Rattle.cvm_model.proofs.KernelLaws.{work_of, start_of}
use Rattle.cvm_model.specs.Systems.{UsePages}
use Rattle.run_bounds.specs.Steps.{DispatchesUsePages, steps_for, BoundsAreSmall}

-- the pages of calls are no more than their units
made_few : {W E : Type 0} (meaning : PrimitiveMeaning W E) (made : List PrimitiveCall) (world : W) → (cost_made meaning made world).pages ≤ (cost_made meaning made world).primitive
made_few meaning [] world = omega arith
made_few meaning (call ∷ rest) world =
    let r = meaning call.number call.args world in
    let before : (cost_made meaning rest r.world).pages ≤ (cost_made meaning rest r.world).primitive = made_few meaning rest r.world in
    sum r.words r.pages _ _ before
  where
    sum : (w p a b : ℕ) → a ≤ b → p + a ≤ 1 + w + p + b
    sum w p a b le = omega arith

costs_as : (c : Core) (o : c0_run.Outcome Machines Changes) → ((outcome_of c o).units ≡ total (cost_of o)) × ((outcome_of c o).pages ≡ (cost_of o).pages)
costs_as c (c0_run.Done k d) = (refl, refl)
costs_as c (c0_run.Failed k f d) = (refl, refl)
costs_as c (c0_run.NotYet k d) = (refl, refl)

pub dispatches_use_pages : StaysWithin Machines Changes → PrimitivesAlone Machines Changes → DispatchesUsePages
dispatches_use_pages within alone u p n c cause edata user =
    let o = run_within (setting_of u p) n (work_of u cause edata user) (start_of p c) in
    let told = costs_as c o in
    let most : total (cost_of o) ≤ n = within (setting_of u p) (work_of u cause edata user) (start_of p c) n in
    let a = alone (setting_of u p) (work_of u cause edata user) (start_of p c) n in
    let few = made_few kernel_primitive a.0 (machines_of p c) in
    let units = a.1.units in
    let pages = a.1.pages in
    let first = told.0 in
    let second = told.1 in
    (omega (arith, first, most), omega (arith, first, second, units, pages, few))

-- SUMS over plain numbers
step_sum : (b r k t d e : ℕ) → b ≤ r + k * t + d * e → b + t ≤ r + suc k * t + d * e
step_sum b r k t d e h = let s = suc-mul k t in omega (arith, h, s)

same_sum : (b r k t d e : ℕ) → b ≤ r + k * t + d * e → b ≤ r + suc k * t + d * e
same_sum b r k t d e h = let s = suc-mul k t in omega (arith, h, s)

dispatch_sum : (b r k t d e f : ℕ) → f ≤ e → b ≤ r + k * t + d * e → b + (t + f) ≤ r + suc k * t + suc d * e
dispatch_sum b r k t d e f le h = let s = suc-mul k t in let z = suc-mul d e in omega (arith, h, s, z, le)

run_less : (u n q p m : ℕ) → u ≤ n → q ≤ p → 600 * u + m * q ≤ 600 * n + m * p
run_less u n q p m a b = let c = mul-le-mul_left m b in omega (arith, a, c)

one_row : (rows : List Row) (r : Row) → length (rows ++ r ∷ []) ≡ suc (length rows)
one_row [] r = refl
one_row (a ∷ rows) r = ap suc (one_row rows r)

one_more_row : (k : ℕ) (rows : List Row) (r : Row) → length rows ≤ k → length (rows ++ r ∷ []) ≤ suc k
one_more_row k rows r h = let l = one_row rows r in omega (arith, l, h)

split : (y : System) (n p : ℕ) (a b : List Dispatch) → UsePages y n p (a ++ b) → UsePages y n p a × UsePages y n p b
split y n p [] b h = (tt, h)
split y n p (d ∷ a) b (one, rest) = let r = split y n p a b rest in ((one, r.0), r.1)

module _ (y : System) (u : CUnit) (is : y.boot.meaning ≡ kernel_meaning u y.boot.params) (law : DispatchesUsePages) (lines : ℕ → ℕ) (n p : ℕ) where
  abbrev At : ℕ → Cvm → Type 0
  At k c = c.bound ≤ steps_for y k (length c.rows) n p

  abbrev AtAll : ℕ → Option Cvm → Type 0
  AtAll k None = Unit {0}
  AtAll k (Some c) = At k c

  few_units : (cause edata : ℕ) (at : Core) → (dispatch_of y n cause edata at).units ≤ n
  few_units cause edata at = subst (λ (m : KernelMeaning). (m.dispatch n at (pos cause) (signed edata) (pos at.current)).units ≤ n) (sym is) (law u y.boot.params n at (pos cause) (signed edata) (pos at.current)).0

  by_outcome : (k : ℕ) (c : Cvm) (cause edata : ℕ) (at : Core) (pending : ℕ) → At k c → (o : DispatchOutcome) → o.units ≤ n → o.pages ≤ p → (e : DispatchEnd) → AtAll (suc k) (after_dispatch y c k cause edata at.current pending o e)
  by_outcome k c cause edata at pending h o units few = by
    where
      sum : (r : Row) → c.bound + (turn_steps (map_of y.boot) y.longest + (enter_steps + leave_steps + run_steps (map_of y.boot) y.longest o.units o.pages)) ≤ steps_for y (suc k) (length (c.rows ++ r ∷ [])) n p
      sum r = subst (λ m. c.bound + (turn_steps (map_of y.boot) y.longest + (enter_steps + leave_steps + run_steps (map_of y.boot) y.longest o.units o.pages)) ≤ steps_for y (suc k) m n p) (sym (one_row c.rows r))
          (dispatch_sum c.bound (reset_steps (map_of y.boot)) k (turn_steps (map_of y.boot) y.longest) (length c.rows) (enter_steps + leave_steps + run_steps (map_of y.boot) y.longest n p)
          (enter_steps + leave_steps + run_steps (map_of y.boot) y.longest o.units o.pages)
          (let less = run_less o.units n o.pages p (page_steps (map_of y.boot) y.longest) units few in omega (arith, less)) h)

      by : (e : DispatchEnd) → AtAll (suc k) (after_dispatch y c k cause edata at.current pending o e)
      by (Answers a) = sum _
      by (Faults f) = sum _
      by NotYet = tt

  by_dispatch : (k : ℕ) (c : Cvm) (cause edata : ℕ) (at : Core) (pending : ℕ) → At k c → (dispatch_of y n cause edata at).pages ≤ p → AtAll (suc k) (dispatches y n k c cause edata at pending)
  by_dispatch k c cause edata at pending h few = by_outcome k c cause edata at pending h (dispatch_of y n cause edata at) (few_units cause edata at) few (dispatch_of y n cause edata at).end

  by_begin : (k : ℕ) (c : Cvm) (b : Begin) → At k c → UsePages y n p (of_begin y n k b) → AtAll (suc k) (begun y n k c b)
  by_begin k c (Steps after) h few = step_sum c.bound (reset_steps (map_of y.boot)) k (turn_steps (map_of y.boot) y.longest) (length c.rows) _ h
  by_begin k c (Traps cause edata at) h few = by_dispatch k c cause edata at 0 h few.0
  by_begin k c (Interrupts cause edata at pending) h few = by_dispatch k c cause edata at pending h few.0

  by_status : (k l : ℕ) (c : Cvm) (s : Status) → At k c → UsePages y n p (of_status y n k l c s) → AtAll (suc k) (turn_by y n k l c s)
  by_status k l c Running h few = by_begin k c (begin k c.core (bit_or c.pending l)) h few
  by_status k l c Halted h few = same_sum c.bound (reset_steps (map_of y.boot)) k (turn_steps (map_of y.boot) y.longest) (length c.rows) _ h
  by_status k l c (Faulted f) h few = same_sum c.bound (reset_steps (map_of y.boot)) k (turn_steps (map_of y.boot) y.longest) (length c.rows) _ h

  by_turn : (k l : ℕ) (o : Option Cvm) → AtAll k o → UsePages y n p (of_turn y n k l o) → AtAll (suc k) (turn y n k l o)
  by_turn k l None h few = tt
  by_turn k l (Some c) h few = by_status k l c c.status h few

  all : (k : ℕ) → UsePages y n p (dispatches_of y lines n k) → AtAll k (cvm y lines n k)
  all zero few = omega arith
  all (suc k) few =
      let s = split y n p (dispatches_of y lines n k) (of_turn y n k (lines k) (cvm y lines n k)) few in
      by_turn k (lines k) (cvm y lines n k) (all k s.0) s.1

-- no more rows than turns
module _ (y : System) (n : ℕ) (lines : ℕ → ℕ) where
  abbrev Few : ℕ → Option Cvm → Type 0
  Few k None = Unit {0}
  Few k (Some c) = length c.rows ≤ k

  few_dispatch : (k : ℕ) (c : Cvm) (cause edata : ℕ) (at : Core) (pending : ℕ) → length c.rows ≤ k → (o : DispatchOutcome) (e : DispatchEnd) → Few (suc k) (after_dispatch y c k cause edata at.current pending o e)
  few_dispatch k c cause edata at pending h o (Answers a) = one_more_row k c.rows _ h
  few_dispatch k c cause edata at pending h o (Faults f) = one_more_row k c.rows _ h
  few_dispatch k c cause edata at pending h o NotYet = tt

  few_begin : (k : ℕ) (c : Cvm) (b : Begin) → length c.rows ≤ k → Few (suc k) (begun y n k c b)
  few_begin k c (Steps after) h = omega arith
  few_begin k c (Traps cause edata at) h = few_dispatch k c cause edata at 0 h (dispatch_of y n cause edata at) (dispatch_of y n cause edata at).end
  few_begin k c (Interrupts cause edata at pending) h = few_dispatch k c cause edata at pending h (dispatch_of y n cause edata at) (dispatch_of y n cause edata at).end

  few_status : (k l : ℕ) (c : Cvm) (s : Status) → length c.rows ≤ k → Few (suc k) (turn_by y n k l c s)
  few_status k l c Running h = few_begin k c (begin k c.core (bit_or c.pending l)) h
  few_status k l c Halted h = omega arith
  few_status k l c (Faulted f) h = omega arith

  few_turn : (k l : ℕ) (o : Option Cvm) → Few k o → Few (suc k) (turn y n k l o)
  few_turn k l None h = tt
  few_turn k l (Some c) h = few_status k l c c.status h

  few_rows : (k : ℕ) → Few k (cvm y lines n k)
  few_rows zero = omega arith
  few_rows (suc k) = few_turn k (lines k) (cvm y lines n k) (few_rows k)

-- each dispatch touches at most as many pages as it has units
pub all_few : (y : System) (u : CUnit) → y.boot.meaning ≡ kernel_meaning u y.boot.params → DispatchesUsePages → (n : ℕ) (past : List Dispatch) → UsePages y n n past
all_few y u is law n [] = tt
all_few y u is law n (d ∷ rest) =
    let b = law u y.boot.params n d.before (pos d.cause) (signed d.edata) (pos d.before.current) in
    let units = b.0 in
    let pages = b.1 in
    let here : ((kernel_meaning u y.boot.params).dispatch n d.before (pos d.cause) (signed d.edata) (pos d.before.current)).pages ≤ n = omega (arith, units, pages) in
    (subst (λ (m : KernelMeaning). (m.dispatch n d.before (pos d.cause) (signed d.edata) (pos d.before.current)).pages ≤ n) (sym is) here, all_few y u is law n rest)

pub bounds_are_small : DispatchesUsePages → BoundsAreSmall
bounds_are_small law y u lines n k c is e = record {
  by_pages = λ p few. subst (AtAll y u is law lines n p k) e (all y u is law lines n p k few);
  by_units = subst (AtAll y u is law lines n n k) e (all y u is law lines n n k (all_few y u is law n (dispatches_of y lines n k)));
  rows = subst (Few y n lines k) e (few_rows y n lines k);
}
