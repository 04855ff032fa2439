-- One turn of a run from a start, from where the machine stands.
use Rattle.std.proofs.Common.{◌*◌, ◌≡◌, ◌⊎◌, inl, inr, ℕ, zero, suc, ◌+◌, ◌-◌, ◌<◌, ◌≤◌, Bool, true, false, not, Option, None, Some, List, [], ◌∷◌, map, refl, sym, ap, ◌∙◌, subst, ⊎_elim, arith, eqb-true, ltb-true, ltb-false, ◌^◌, slice_index}
use Rattle.std.specs.Prelude.{◌==◌, nat_lt, bit_or, ℤ, pos, length, FitsSigned}
use Rattle.std.specs.Int.{w32}
use Rattle.std.specs.Int.Bits.{or_zero_r}
use Rattle.std.proofs.lemmas.List.{set-get_or}
use Rattle.std.proofs.lemmas.Bool.{cond_both, cond-false, cases_lt, cond-true}
use Rattle.mips_table.specs.declared.cause.Cause.{Cause}
use Rattle.mips_table.specs.declared.cause.Cause.TheVariants as causes
use Rattle.mips_table.specs.Arith.{signed}
use Rattle.mips_table.specs.Device.{Pending, Idle, Reading, Writing, Environment, LinesEnd, sector_of}
use Rattle.mips_table.specs.Processor.{Cpu}
use Rattle.mips_table.specs.Flat.{Flat, VStep, Goes, Trap, vstep}
use Rattle.mips_table.specs.declared.special.TheConstants.{MODE, ECA, EDATA}
use Rattle.mips_table.specs.Machine.{State, Interrupt, coming, latched, cause_number, run, step}
use Rattle.mips_table.specs.Fits.{NamesSector}
use Rattle.mips_table.specs.Turns.{begins_turn, handled, rests, is_on, in_user, turn_of, complete, lines_of_turn, faults_before}
use Rattle.c0_meaning.specs.State.{C0State}
use Rattle.layer_map.specs.Map.{MapInRange, layer_words}
use Rattle.cvm_model.specs.Kernel.{Core, MeaningLaws, DispatchEnd, Answers, Faults, NotYet}
use Rattle.cvm_model.specs.Primitives.{user_of, no_flat, pages_of}
use Rattle.cvm_model.specs.declared.row.Next.{Next}
use Rattle.cvm_model.specs.declared.row.Next.TheVariants.{User, Halt, Fault}
use Rattle.cvm_model.specs.TypedKernel.{StaysTyped}
use Rattle.cvm_model.specs.Cvm.{System, map_of, first_core, first_flat, Running, Cvm, Begin, Steps, Traps, Interrupts, user_step, begin, next_of, core_of, page_steps, reset_steps, enter_steps, leave_steps, run_steps, turn_steps, dispatch_of, dispatched, after_dispatch, begun, turn_by, turn, cvm, IsCvm, first_cvm}
use Rattle.cvm_model.specs.Stands.{Site, RunningRelation, runs_user, CoreFits}
use Rattle.layer_contract.specs.Layer.{Inside, command_due, ComesBy, IsEntry, layer_entry, DispatchCalled, BusyWithin, Rests, InUserMode, Settles, with_epc}
use Rattle.layer_contract.specs.Follows.{site_of, BeginsAs}
use Rattle.layer_contract.specs.Starts.{Start, StartsGoOn, FirstTurnGoesOn, FirstCall}
use Rattle.layer_contract.specs.Calls.{entered}
use Rattle.layer_contract.specs.declared.entry.Entry.TheVariants.{Primitive}
use Rattle.boot_turns.specs.Premises.{StartsFrom}
use Rattle.boot_turns.specs.Completes.{note, ShownAs}
use Rattle.layer_contract.specs.Users.{UserStepsLinked}
use Rattle.boot_turns.specs.TurnEnds.{Stood}
use Rattle.boot_turns.specs.Ahead.{TurnAhead}
use Rattle.boot_turns.proofs.EntryReached.{entered_none, begins_enters}
use Rattle.boot_turns.proofs.MasksAndTimes.{Plain, instruction_plain, comes_plainly, was_on, both_left, both_right, on_of, inside_rests, user_rests, user_begins, reset_begins, reset_mask, none_pending, external_mask, taken_special}
use Rattle.boot_turns.proofs.LinesOfTurns.{turn_more, still, completes_at}
use Rattle.boot_turns.proofs.NoTurnBegins.{Stays, user_sectors, Passed, times, Settled, settled, through}
use Rattle.boot_turns.proofs.MoreUnits.{one_cvm, cvm_more, cvm_next}
use Rattle.boot_turns.proofs.DispatchComplete.{mask_begins, none_yet, Closed, Known, Came, dispatches}

-- a machine that is on was on
pub on_back : (x : Environment) (s : State) (j t : ℕ) → j ≤ t → (run x s t).off ≡ None → (run x s j).off ≡ None
on_back x s j zero le on = let e : j ≡ 0 = omega arith in subst (λ i. (run x s i).off ≡ None) (sym e) on
on_back x s j (suc t) le on = ⊎_elim
    (λ (lt : j < suc t). on_back x s j t (omega arith) (was_on x (run x s t) on))
    (λ (ge : suc t ≤ j). let e : j ≡ suc t = omega arith in subst (λ i. (run x s i).off ≡ None) (sym e) on)
    (cases_lt j (suc t))

-- what the laws of the layer, of the users' steps and of the kernel give of a system
pub record Given (x : Environment) (y : System) (s : State) (late held : ℕ) (Typed : C0State → Type 0) : Type 0 where
  pub lines : LinesEnd x
  pub busy : BusyWithin x y.longest
  pub range : MapInRange (map_of y.boot)
  pub linked : length y.boot.words ≡ layer_words + (map_of y.boot).code_words
  pub meaning : MeaningLaws y.boot.meaning
  pub typed : StaysTyped (map_of y.boot) y.boot.meaning Typed
  pub known : Known x (site_of y.boot) y.longest Typed y.boot.meaning
  pub started : Start x y s late held
  pub goes_on : StartsGoOn
  pub first : FirstCall x y s late
  pub enters : (s before : State) (c : Core) (cause : Cause) (edata epc : ℕ) → InUserMode x (site_of y.boot) c s → coming x (latched x s) ≡ Interrupt before cause edata epc → handled x s ≡ false →
      ComesBy x (site_of y.boot) IsEntry enter_steps (step x s) (DispatchCalled x (site_of y.boot) (with_epc c epc) (pos (cause_number cause)) (signed edata) (pos c.current))
  pub settles : (s : State) (c : Core) → InUserMode x (site_of y.boot) c s → Settles 2 x (site_of y.boot) (page_steps (map_of y.boot) y.longest - 1) c s
  pub users : UserStepsLinked

-- step j leaves the sectors from a number on as they are, and ends no command for one of them
pub record Keeps (x : Environment) (held : ℕ) (s : State) (j : ℕ) : Type 0 where
  pub sectors : (q : ℕ) → held ≤ q → sector_of (run x s (suc j)).device.sectors q ≡ sector_of (run x s j).device.sectors q
  pub named : (run x s j).off ≡ None → NamesSector held (command_due x (run x s j))

-- what has begun
abbrev pub BegunAs : Environment → System → State → ℕ → Begin → Type 0
BegunAs x y s enter (Steps after) = RunningRelation x (site_of y.boot) s Running after × (runs_user s ≡ true)
BegunAs x y s enter (Traps cause edata at) = ComesBy x (site_of y.boot) IsEntry enter s (DispatchCalled x (site_of y.boot) at (pos cause) (signed edata) (pos at.current)) × (cause < 9) × (1 < cause)
BegunAs x y s enter (Interrupts cause edata at pending) = ComesBy x (site_of y.boot) IsEntry enter s (DispatchCalled x (site_of y.boot) at (pos cause) (signed edata) (pos at.current)) × (cause < 9) × (cause ≤ 1)

-- the mask that is left to the next turn
abbrev pub mask_of : Begin → ℕ
mask_of (Steps after) = 0
mask_of (Traps cause edata at) = 0
mask_of (Interrupts cause edata at pending) = pending

-- turn k begins, from step t on, and at `at` the layer has taken over, or the user's step is done; `more` is what the start takes beside the bound
pub record Beginning (x : Environment) (y : System) (s : State) (more held k t : ℕ) (c : Cvm) : Type 0 where
  pub start : ℕ
  pub at : ℕ
  pub enter : ℕ
  pub from : t ≤ start
  pub to : start < at
  pub soon : t ≤ c.bound + more → at ≤ c.bound + more + turn_steps (map_of y.boot) y.longest
  pub soon_in : t ≤ c.bound + more → at + enter ≤ c.bound + more + turn_steps (map_of y.boot) y.longest + enter_steps
  pub none : (j : ℕ) → t ≤ j → j < start → begins_turn x (run x s j) ≡ false
  pub few : faults_before x s start ≤ faults_before x s t + 2
  pub between : (j : ℕ) → t ≤ j → j < at → complete x s j ≡ k
  pub quiet : (j : ℕ) → t < j → j ≤ start → entered 10 (run x s j) ≡ None
  pub apart : (j : ℕ) → start < j → j ≤ at → entered 10 (run x s j) ≡ None
  pub current : 0 < k → slice_index (run x s start).memory 1024 ≡ c.core.current
  pub next : 0 < k → suc start ≡ at
  pub on : (run x s start).off ≡ None
  pub inside : (j : ℕ) → start < j → j < at → Inside (run x s j)
  pub turn : turn_of x s start ≡ k
  pub begin_here : begins_turn x (run x s start) ≡ true
  pub keeps : (j : ℕ) → t ≤ j → j < at → Keeps x held s j
  pub shows : ShownAs (begin k c.core (bit_or c.pending (lines_of_turn x s k))) (note (run x s (suc start)))
  pub passed : Passed x s (suc k) (mask_of (begin k c.core (bit_or c.pending (lines_of_turn x s k)))) at
  pub comes : BegunAs x y (run x s at) enter (begin k c.core (bit_or c.pending (lines_of_turn x s k)))

-- turn k is complete, with typed data, and each step on the way keeps the sectors
pub record Turns (x : Environment) (y : System) (s : State) (Typed : C0State → Type 0) (late held k t : ℕ) (c : Cvm) : Type 0 where
  pub beginning : Beginning x y s (late - 1) held k t c
  pub ahead : TurnAhead x y s k t c
  pub typed : Typed ahead.after.core.c0
  pub within : t ≤ c.bound + (late - 1) → ahead.end ≤ ahead.after.bound + (late - 1)
  pub inside : (j : ℕ) → beginning.start < j → j < ahead.end → Inside (run x s j)
  pub keeps : (j : ℕ) → t ≤ j → j < ahead.end → Keeps x held s j

-- it isn't complete by step n, and its dispatch isn't over within as many units
pub record Waits (x : Environment) (y : System) (s : State) (late held k t n : ℕ) (c : Cvm) : Type 0 where
  pub beginning : Beginning x y s (late - 1) held k t c
  pub units : ℕ
  pub many : n ≤ units
  pub undefined : turn_by y units k (lines_of_turn x s k) c Running ≡ None
  pub inside : (j : ℕ) → beginning.start < j → j ≤ n → Inside (run x s j)
  pub between : (j : ℕ) → t ≤ j → j ≤ n → complete x s j ≡ k
  pub keeps : (j : ℕ) → t ≤ j → j < n → Keeps x held s j

-- the pc of the machine is that of the current user
epc_stays : (c : Core) (epc : ℕ) → epc ≡ (user_of c.users c.current).cpu.pc → with_epc c epc ≡ c
epc_stays c epc e =
    ap (λ n. with_epc c n) e ∙ ap (λ (us : List Flat). record c { users = us }) (set-get_or c.users (c.current - 1) no_flat)

number_small : (cause : Cause) → cause_number cause < 9
number_small causes.Reset = omega arith
number_small causes.External = omega arith
number_small causes.FetchAlign = omega arith
number_small causes.FetchFault = omega arith
number_small causes.Illegal = omega arith
number_small causes.Overflow = omega arith
number_small causes.Syscall = omega arith
number_small causes.DataAlign = omega arith
number_small causes.DataFault = omega arith

-- only with no line pending a user's step is made
steps_calm : (k : ℕ) (c : Core) (m : ℕ) (b : Begin) → begin (suc k) c m ≡ b → (m ≡ 0) ⊎ (b ≡ Interrupts 1 m c 0)
steps_calm k c m b e = by (m == 0) refl
  where
    by : (z : Bool) → (m == 0) ≡ z → (m ≡ 0) ⊎ (b ≡ Interrupts 1 m c 0)
    by true z = inl (eqb-true m 0 z)
    by false z = inr (sym e ∙ cond-false (m == 0) _ (Interrupts 1 m c 0) z)

trap_calm : (k : ℕ) (c : Core) (m cause edata : ℕ) (at : Core) → begin (suc k) c m ≡ Traps cause edata at → m ≡ 0
trap_calm k c m cause edata at e = ⊎_elim (λ z. z) (λ f. absurd (cc)) (steps_calm k c m (Traps cause edata at) e)

-- with no line pending, an interrupt of a user is no external one
plain_late : (before : State) (why : Cause) (edata epc : ℕ) → Plain (Interrupt before why edata epc) → 1 < cause_number why
plain_late before causes.Reset edata epc h = absurd h
plain_late before causes.External edata epc h = absurd h
plain_late before causes.FetchAlign edata epc h = omega arith
plain_late before causes.FetchFault edata epc h = omega arith
plain_late before causes.Illegal edata epc h = omega arith
plain_late before causes.Overflow edata epc h = omega arith
plain_late before causes.Syscall edata epc h = omega arith
plain_late before causes.DataAlign edata epc h = omega arith
plain_late before causes.DataFault edata epc h = omega arith

trap_late : (x : Environment) (s before : State) (why : Cause) (edata epc : ℕ) → s.reset ≡ false → (latched x s).mask ≡ 0 → coming x (latched x s) ≡ Interrupt before why edata epc → 1 < cause_number why
trap_late x s before why edata epc r z e = plain_late before why edata epc (subst Plain (sym (comes_plainly x s r z) ∙ e) (instruction_plain x (latched x s)))

plus_right : (a b e : ℕ) → a ≤ b → a + e ≤ b + e
plus_right a b e h = omega (arith, h)

sum_soon : (t start b page : ℕ) → 1 ≤ page → start ≤ t + times 2 (page - 1 + 1) → t ≤ b → suc start ≤ b + (1 + 2 * page)
sum_soon t start b page p s le = omega (arith, p, s, le)

-- what that step shows
step_shows : (x : Environment) (y : System) (s : State) (c : Core) (b : Begin) → s.off ≡ None → BeginsAs x (site_of y.boot) s c b → ShownAs b (note (step x s))
step_shows x y s c (Steps after) on r = ap not (both_right (is_on (step x s)) (in_user (step x s)) r.1)
step_shows x y s c (Traps cause edata at) on (before, why, epc, comes, number, is) =
    let sp = taken_special x s before why edata epc on comes in
    (ap (λ p. not (slice_index p MODE == 1)) sp, ap (λ p. slice_index p ECA) sp ∙ number, ap (λ p. slice_index p EDATA) sp)
step_shows x y s c (Interrupts cause edata at pending) on (comes, one, is, none) =
    let sp = taken_special x s (latched x s) causes.External edata s.cpu.pc on comes in
    (ap (λ p. not (slice_index p MODE == 1)) sp, ap (λ p. slice_index p ECA) sp ∙ sym one, ap (λ p. slice_index p EDATA) sp)

reset_shows : (x : Environment) (s : State) (c : Core) (lines : ℕ) → s.off ≡ None → s.reset ≡ true → ShownAs (Interrupts 0 0 c lines) (note (step x s))
reset_shows x s c lines on r =
    let sp = taken_special x s (latched x s) causes.Reset 0 s.cpu.pc on (cond-true s.reset (Interrupt (latched x s) causes.Reset 0 s.cpu.pc) _ r) in
    (ap (λ p. not (slice_index p MODE == 1)) sp, ap (λ p. slice_index p ECA) sp, ap (λ p. slice_index p EDATA) sp)

-- the data with which a turn begins
abbrev pub DataOf : Core → Begin → Type 0
DataOf c (Steps after) = after.c0 ≡ c.c0
DataOf c (Traps cause edata at) = at.c0 ≡ c.c0
DataOf c (Interrupts cause edata at pending) = at.c0 ≡ c.c0

stepped_data : (c : Core) (v : VStep) → DataOf c (user_step c v)
stepped_data c (Goes f) = refl
stepped_data c (Trap f cause edata) = refl

core_data : (next : Next) (c : Core) → (core_of next c).c0 ≡ c.c0
core_data (User u) c = refl
core_data Halt c = refl
core_data (Fault f) c = refl

signed_fits : (n : ℕ) → FitsSigned w32 (signed n)
signed_fits n = by (nat_lt n (2 ^ 31)) refl
  where
    by : (b : Bool) → nat_lt n (2 ^ 31) ≡ b → FitsSigned w32 (signed n)
    by true e = let lt : n < 2 ^ 31 = ltb-true n (2 ^ 31) e in rw e (record { sfits = omega (arith, lt) })
    by false e = let ge : 2 ^ 31 ≤ n = ltb-false n (2 ^ 31) e in rw e (record { sfits = omega (arith, ge) })

pub called_inside : (x : Environment) (y : Site) (n : ℕ) (s : State) (c : Core) (cause edata user : ℤ) → ComesBy x y IsEntry n s (DispatchCalled x y c cause edata user) → Inside s
called_inside x y n s c cause edata user a = by a.steps refl
  where
    by : (k : ℕ) → a.steps ≡ k → Inside s
    by zero e = (subst (λ k. DispatchCalled x y c cause edata user (run x s k)) e a.there).at.inside
    by (suc k) e = a.way.inside 0 (omega (arith, e))

names_more : (n m : ℕ) (p : Pending) → n ≤ m → NamesSector n p → NamesSector m p
names_more n m Idle le h = tt
names_more n m (Reading left sector) le h = omega arith
names_more n m (Writing left sector) le h = omega arith

sum_within : (u at enter leave cost bound turn enter_most : ℕ) → u ≤ at + (enter + (leave + cost)) → at + enter ≤ bound + turn + enter_most → u ≤ bound + (turn + (enter_most + leave + cost))
sum_within u at enter leave cost bound turn enter_most a b = omega (arith, a, b)

-- no primitive is at address 0
first_vector : (i : ℕ) → 0 ≡ layer_entry (Primitive i) → ⊥
first_vector i h = absurd (omega arith)

late_soon : (at reset more turn : ℕ) → at ≤ more + 1 → 1 ≤ turn → at ≤ reset + more + turn
late_soon at reset more turn a b = omega (arith, a, b)

late_in : (at reset more turn enter : ℕ) → at ≤ more + 1 → 1 ≤ turn → at + reset ≤ reset + more + turn + enter
late_in at reset more turn enter a b = omega (arith, a, b)

-- the step of a user that begins a turn, as the flat machine's
from_user : (x : Environment) (y : System) (s : State) (c : Core) (k m : ℕ) → s.off ≡ None → InUserMode x (site_of y.boot) c s → (latched x s).mask ≡ m →
    ((before : State) (cause : Cause) (edata epc : ℕ) → coming x (latched x s) ≡ Interrupt before cause edata epc →
    ComesBy x (site_of y.boot) IsEntry enter_steps (step x s) (DispatchCalled x (site_of y.boot) (with_epc c epc) (pos (cause_number cause)) (signed edata) (pos c.current))) →
    (b : Begin) → begin (suc k) c m ≡ b → BeginsAs x (site_of y.boot) s c b → BegunAs x y (step x s) enter_steps b × ((step x s).mask ≡ mask_of b)
from_user x y s c k m on back same enters (Steps after) e b = ((b.0, b.1), b.2)
from_user x y s c k m on back same enters (Traps cause edata at) e (before, why, epc, comes, number, is) = (
  (
    subst (λ a. ComesBy x (site_of y.boot) IsEntry enter_steps (step x s) (DispatchCalled x (site_of y.boot) a (pos cause) (signed edata) (pos a.current))) is
        (subst (λ n. ComesBy x (site_of y.boot) IsEntry enter_steps (step x s) (DispatchCalled x (site_of y.boot) (with_epc c epc) (pos n) (signed edata) (pos c.current))) number (enters before why edata epc comes)),
    subst (λ n. n < 9) number (number_small why),
    subst (λ n. 1 < n) number (trap_late x s before why edata epc back.stands.no_reset (same ∙ trap_calm k c m cause edata at e) comes),
  ),
  none_pending x s on (same ∙ trap_calm k c m cause edata at e),
)
from_user x y s c k m on back same enters (Interrupts cause edata at pending) e (comes, one, is, none) =
    let pc : s.cpu.pc ≡ (user_of c.users c.current).cpu.pc = ap (λ (u : Cpu). u.pc) (back.stands.users.runs back.user).cpu in
    let there : with_epc c s.cpu.pc ≡ at = epc_stays c s.cpu.pc pc ∙ is in (
      (
        subst (λ a. ComesBy x (site_of y.boot) IsEntry enter_steps (step x s) (DispatchCalled x (site_of y.boot) a (pos cause) (signed edata) (pos a.current))) there
            (subst (λ n. ComesBy x (site_of y.boot) IsEntry enter_steps (step x s) (DispatchCalled x (site_of y.boot) (with_epc c s.cpu.pc) (pos n) (signed edata) (pos c.current))) (sym one) (enters (latched x s) causes.External edata s.cpu.pc comes)),
        subst (λ n. n < 9) (sym one) (omega arith),
        subst (λ n. n ≤ 1) (sym one) (omega arith),
      ),
      external_mask x s (latched x s) edata s.cpu.pc on comes ∙ sym none,
    )

module _ (x : Environment) (y : System) (s : State) (late held : ℕ) (Typed : C0State → Type 0) (g : Given x y s late held Typed) where
  abbrev site : Site
  site = site_of y.boot

  abbrev lines : ℕ → ℕ
  lines = lines_of_turn x s

  abbrev more : ℕ
  more = late - 1

  first_is : (c : Cvm) → IsCvm y lines 0 c → c ≡ first_cvm y
  first_is c i = one_cvm y g.meaning lines 0 c (first_cvm y) i (record { units = 0; is = refl })

  -- what stays past the users' pages stays past what is held
  kept : (j : ℕ) → Stays x (user_sectors site) s j → Keeps x held s j
  kept j a = let u = g.started.users in record { sectors = λ q le. a.sectors q (omega arith); named = λ on. names_more (user_sectors site) held (command_due x (run x s j)) u (a.named on) }

  so_far : FirstTurnGoesOn x s late
  so_far = g.goes_on x y s late held g.started

  -- once a turn has begun with this mask
  once : (k u m : ℕ) → turn_of x s u ≡ k → begins_turn x (run x s u) ≡ true → (run x s (suc u)).mask ≡ m → Passed x s (suc k) m (suc u)
  once k u m turn here e = record {
    turn = turn_more x s u here ∙ ap suc turn;
    mask = e ∙ sym (or_zero_r m) ∙ ap (bit_or m) (sym (none_yet x s k u turn));
  }

  -- the reset begins turn 0, and the layer takes over in it
  begin_first : (c : Cvm) → c ≡ first_cvm y → Beginning x y s more held 0 0 c
  begin_first c e =
      let st = g.started in
      let some = st.some in
      let here : begins_turn x s ≡ true = reset_begins x s st.on st.reset in
      let mask1 : (run x s 1).mask ≡ lines 0 =
      reset_mask x s st.on st.reset ∙ mask_begins x s g.lines st.time 0 0 0 (record { turn = refl; mask = st.mask }) st.on here in
      subst (Beginning x y s more held 0 0) (sym e) (record {
        start = 0;
        at = late;
        enter = reset_steps (map_of y.boot);
        from = omega arith;
        to = omega arith;
        soon = λ _. late_soon late (reset_steps (map_of y.boot)) more (turn_steps (map_of y.boot) y.longest) (omega arith) (omega arith);
        soon_in = λ _. late_in late (reset_steps (map_of y.boot)) more (turn_steps (map_of y.boot) y.longest) enter_steps (omega arith) (omega arith);
        none = λ j a b. absurd (omega arith);
        few = omega arith;
        between = λ j a b. so_far.none j (omega arith);
        quiet = λ j a b. absurd (omega arith);
        apart = λ j a b. entered_none 10 (run x s j) (λ i l. ⊎_elim
            (λ (lt : j < late). st.apart j (Primitive i) lt l)
            (λ (ge : late ≤ j) h. let d : late ≡ j = omega arith in first_vector i (sym (ap (λ (c : Cpu). c.pc) st.there.cpu) ∙ ap (λ n. (run x s n).cpu.pc) d ∙ h))
            (cases_lt j late));
        current = λ a. absurd (omega arith);
        next = λ a. absurd (omega arith);
        on = st.on;
        inside = λ j a b. st.inside j (omega arith) (omega arith);
        turn = refl;
        begin_here = here;
        keeps = λ j a b. record { sectors = λ q le. st.sectors (suc j) b q le ∙ sym (st.sectors j (omega arith) q le); named = λ _. st.named j b };
        shows = reset_shows x s (first_cvm y).core (bit_or (first_cvm y).pending (lines 0)) st.on st.reset;
        passed = through x s st.time 1 (lines 0) 1 late some (λ j a b. st.inside j a (omega arith)) (once 0 0 (lines 0) refl here mask1);
        comes = (g.first, omega arith, omega arith);
      })

  -- a user's step begins turn k + 1
  begin_user : (k t : ℕ) (c : Cvm) → Stood x y s (suc k) t c → c.status ≡ Running → Beginning x y s more held (suc k) t c
  begin_user k t c st running =
      let back : InUserMode x site c.core (run x s t) = record { user = subst (λ b. Rests b (run x s t)) running st.rests.0; stands = subst (λ b. RunningRelation x site (run x s t) b c.core) running st.rests.1.stands } in
      let got = settled x s g.started.time site (page_steps (map_of y.boot) y.longest - 1) c.core (suc k) c.pending 2 t (g.settles (run x s t) c.core back) back
      (record { turn = st.turn; mask = st.rests.1.lines }) st.all in
      at_start k t c got.0 got.1
    where
      at_start : (k t : ℕ) (c : Cvm) (u : ℕ) → Settled x s site c.core (suc k) c.pending (page_steps (map_of y.boot) y.longest - 1) 2 t u → Beginning x y s more held (suc k) t c
      at_start k t c u r =
          let on = on_of (run x s u) (both_left _ _ r.back.user) in
          let user = both_right (is_on (run x s u)) (in_user (run x s u)) r.back.user in
          let begin_here : begins_turn x (run x s u) ≡ true = user_begins x (run x s u) on user r.back.stands.no_reset ∙ ap not r.calm in
          let mask : (latched x (run x s u)).mask ≡ bit_or c.pending (lines (suc k)) = mask_begins x s g.lines g.started.time (suc k) c.pending u r.way on begin_here in
          let steps = g.users x site (run x s u) c.core k g.range g.linked r.back r.calm in
          let follows = steps.0 in
          let le : 1 ≤ page_steps (map_of y.boot) y.longest = omega arith in
          let came = from_user x y (run x s u) c.core k (bit_or c.pending (lines (suc k))) on r.back mask
          (λ before cause edata epc e. g.enters (run x s u) before c.core cause edata epc r.back e r.calm)
          (begin (suc k) c.core (bit_or c.pending (lines (suc k)))) refl
          (subst (λ m. BeginsAs x site (run x s u) c.core (begin (suc k) c.core m)) mask follows) in
          record {
            start = u;
            at = suc u;
            enter = enter_steps;
            from = r.from;
            to = omega arith;
            soon = λ h. sum_soon t u (c.bound + more) (page_steps (map_of y.boot) y.longest) le r.soon h;
            soon_in = λ h. let a = sum_soon t u (c.bound + more) (page_steps (map_of y.boot) y.longest) le r.soon h in plus_right _ _ enter_steps a;
            none = r.none;
            few = r.few;
            between = λ j a b. r.between j a (omega arith);
            quiet = r.quiet;
            apart = λ j a b. let d : suc u ≡ j = omega arith in subst (λ i. entered 10 (run x s i) ≡ None) d (begins_enters 10 x (run x s u) begin_here);
            current = λ _. r.back.stands.users.current refl;
            next = λ _. refl;
            on = on;
            inside = λ j a b. absurd (omega arith);
            turn = r.way.turn;
            begin_here = begin_here;
            keeps = λ j l h. ⊎_elim (λ (lt : j < u). kept j (r.stays j l lt)) (λ (ge : u ≤ j). let d : u ≡ j = omega arith in subst (Keeps x held s) d (kept u (record { sectors = steps.1.0; named = λ _. steps.1.1 }))) (cases_lt j u);
            shows = step_shows x y (run x s u) c.core (begin (suc k) c.core (bit_or c.pending (lines (suc k)))) on
                (subst (λ m. BeginsAs x site (run x s u) c.core (begin (suc k) c.core m)) mask follows);
            passed = once (suc k) u (mask_of (begin (suc k) c.core (bit_or c.pending (lines (suc k))))) r.way.turn begin_here came.1;
            comes = came.0;
          }

  pub begin_turn : (k t : ℕ) (c : Cvm) → Stood x y s k t c → c.status ≡ Running → Beginning x y s more held k t c
  begin_turn zero t c st running = subst (λ i. Beginning x y s more held 0 i c) (sym st.rests) (begin_first c (first_is c st.cvm))
  begin_turn (suc k) t c st running = begin_user k t c st running

  -- the data of a begun turn is that before it
  pub same_data : (k : ℕ) (c : Core) (m : ℕ) (b : Begin) → begin k c m ≡ b → DataOf c b
  same_data zero c m b e = subst (DataOf c) e refl
  same_data (suc k) c m b e = subst (DataOf c) e (cond_both (m == 0) (user_step c (vstep (user_of c.users c.current))) (Interrupts 1 m c 0) (DataOf c) (λ _. stepped_data c (vstep (user_of c.users c.current))) (λ _. refl))

  fits_small : (n : ℕ) → n ≤ 64 → FitsSigned w32 (pos n)
  fits_small n h = record { sfits = omega (arith, h) }

  -- on up to a moment
  on_until : (a b : ℕ) → (run x s a).off ≡ None → ((j : ℕ) → a < j → j < b → Inside (run x s j)) → (j : ℕ) → j < b → (run x s j).off ≡ None
  on_until a b on inside j lt = ⊎_elim (λ (h : a < j). (inside j h lt).on) (λ (h : j ≤ a). on_back x s j a h on) (cases_lt a j)

  -- the dispatch of a turn that has begun
  dispatched_on : (k t n : ℕ) (c : Cvm) (b : Beginning x y s more held k t c) (cause edata : ℕ) (at : Core) (pending : ℕ) → cause < 9 → Typed at.c0 → Passed x s (suc k) pending b.at →
      ComesBy x site IsEntry b.enter (run x s b.at) (DispatchCalled x site at (pos cause) (signed edata) (pos at.current)) →
      cvm y lines n k ≡ Some c → ((o : Option Cvm) → after_dispatch y c k cause edata at.current pending (dispatch_of y n cause edata at) (dispatch_of y n cause edata at).end ≡ o → turn_by y n k (lines k) c Running ≡ o) → c.status ≡ Running →
      (m : ℕ) → 8388608 * m ≤ n → Turns x y s Typed late held k t c ⊎ Waits x y s late held k t m c
  dispatched_on k t n c b cause edata at pending small typed w comes here turns running m enough =
      let inside : Inside (run x s b.at) = called_inside x site b.enter (run x s b.at) at (pos cause) (signed edata) (pos at.current) comes in
      let to = b.to in
      let from = b.from in
      let all : complete x s b.at ≡ k =
      still x s b.start b.at (omega arith) (λ j l h. ⊎_elim (λ (lt : j < b.at). inside_rests _ (b.inside j l lt)) (λ (ge : b.at ≤ j). let d : b.at ≡ j = omega arith in subst (λ i. rests (run x s i) ≡ false) d (inside_rests _ inside)) (cases_lt j b.at))
      ∙ b.between b.start from to in
      let whole : CoreFits (map_of y.boot) at = comes.there.at.stands.whole in
      let current : at.current ≤ (map_of y.boot).users = whole.current in
      let most : (map_of y.boot).users ≤ 64 = g.range.users in
      let after : Typed (dispatch_of y n cause edata at).after.c0 =
      g.typed.stays n at (pos cause) (signed edata) (pos at.current) whole (fits_small cause (omega (arith, small))) (signed_fits edata) (fits_small at.current (omega (arith, current, most))) typed in
      by inside all after (dispatch_of y n cause edata at).end refl
      (dispatches x s g.started.time site y.longest Typed y.boot.meaning g.known k pending b.at b.enter n (pos cause) (signed edata) (pos at.current) at (omega arith) inside typed comes w all)
    where
      closes : Inside (run x s b.at) → complete x s b.at ≡ k → Typed (dispatch_of y n cause edata at).after.c0 → (next : Next) → after_dispatch y c k cause edata at.current pending (dispatch_of y n cause edata at) (dispatch_of y n cause edata at).end ≡ Some (dispatched y c k cause edata at.current pending (dispatch_of y n cause edata at) next) →
          (u : ℕ) → Closed x s site (dispatch_of y n cause edata at).after next k pending (b.enter + (leave_steps + run_steps site.map y.longest (dispatch_of y n cause edata at).units (dispatch_of y n cause edata at).pages)) b.at u → Turns x y s Typed late held k t c
      closes inside all after next e u r = record {
        beginning = b;
        ahead = record {
          start = b.start;
          end = u;
          after = dispatched y c k cause edata at.current pending (dispatch_of y n cause edata at) next;
          from = b.from;
          to = let w = r.to in let v = b.to in omega (arith, w, v);
          none = b.none;
          begin = b.begin_here;
          few = b.few;
          between = λ j l h. ⊎_elim (λ (lt : j < b.at). b.between j l lt) (λ (ge : b.at ≤ j). r.between j ge h) (cases_lt j b.at);
          on = on_until b.start u b.on (λ j a h. ⊎_elim (λ (lt : j < b.at). b.inside j a lt) (λ (ge : b.at ≤ j). r.inside j ge h) (cases_lt j b.at));
          stood = record {
            cvm = record { units = n; is = ap (turn y n k (lines k)) here ∙ ap (turn_by y n k (lines k) c) running ∙ turns (Some (dispatched y c k cause edata at.current pending (dispatch_of y n cause edata at) next)) e };
            turn = r.way.turn;
            all = r.all;
            rests = (r.rested.rests, record { stands = r.rested.stands; lines = r.way.mask });
          };
        };
        within = λ h. let w = r.within in let f = b.soon_in h in
            let a = sum_within u b.at b.enter leave_steps (run_steps site.map y.longest (dispatch_of y n cause edata at).units (dispatch_of y n cause edata at).pages) (c.bound + more) (turn_steps (map_of y.boot) y.longest) enter_steps w f in
            shifted u c.bound more (turn_steps (map_of y.boot) y.longest + (enter_steps + leave_steps + run_steps site.map y.longest (dispatch_of y n cause edata at).units (dispatch_of y n cause edata at).pages)) a;
        typed = subst Typed (sym (core_data next (dispatch_of y n cause edata at).after)) after;
        inside = λ j a h. ⊎_elim (λ (lt : j < b.at). b.inside j a lt) (λ (ge : b.at ≤ j). r.inside j ge h) (cases_lt j b.at);
        keeps = λ j a h. ⊎_elim (λ (lt : j < b.at). b.keeps j a lt) (λ (ge : b.at ≤ j). kept j (r.stays j ge h)) (cases_lt j b.at);
      }
        where
          shifted : (u b e d : ℕ) → u ≤ b + e + d → u ≤ b + d + e
          shifted u b e d h = omega (arith, h)

      by : Inside (run x s b.at) → complete x s b.at ≡ k → Typed (dispatch_of y n cause edata at).after.c0 → (end : DispatchEnd) → (dispatch_of y n cause edata at).end ≡ end → Came x s site y.longest k pending b.at b.enter n (dispatch_of y n cause edata at) end → Turns x y s Typed late held k t c ⊎ Waits x y s late held k t m c
      by inside all after (Answers a) e r = inl (closes inside all after (next_of site.map.users a) (ap (after_dispatch y c k cause edata at.current pending (dispatch_of y n cause edata at)) e) r.0 r.1)
      by inside all after (Faults f) e r = inl (closes inside all after (Fault f) (ap (after_dispatch y c k cause edata at.current pending (dispatch_of y n cause edata at)) e) r.0 r.1)
      by inside all after NotYet e r = inr (record {
        beginning = b;
        units = n;
        many = omega (arith, enough);
        undefined = turns None (ap (after_dispatch y c k cause edata at.current pending (dispatch_of y n cause edata at)) e);
        inside = λ j l h. ⊎_elim (λ (lt : j < b.at). b.inside j l lt) (λ (ge : b.at ≤ j). (r j ge (omega (arith, h, enough))).0) (cases_lt j b.at);
        keeps = λ j l h. ⊎_elim (λ (lt : j < b.at). b.keeps j l lt) (λ (ge : b.at ≤ j). kept j ((r m (omega arith) (omega (arith, enough))).1 j ge h)) (cases_lt j b.at);
        between = λ j l h. ⊎_elim (λ (lt : j < b.at). b.between j l lt)
            (λ (ge : b.at ≤ j). still x s b.at j ge (λ i d f. inside_rests _ (r i (omega arith) (omega (arith, f, h, enough))).0) ∙ all) (cases_lt j b.at);
      })

  -- a turn from where the machine stands: complete, or not by step m
  pub turn_ahead : (k t m : ℕ) (c : Cvm) → Stood x y s k t c → c.status ≡ Running → Typed c.core.c0 → Turns x y s Typed late held k t c ⊎ Waits x y s late held k t m c
  turn_ahead k t m c st running typed =
      let b = begin_turn k t c st running in
      by b (begin k c.core (bit_or c.pending (lines k))) refl b.comes b.passed
    where
      n : ℕ
      n = st.cvm.units + 8388608 * m

      here : cvm y lines n k ≡ Some c
      here = cvm_more y g.meaning lines st.cvm.units (8388608 * m) k c st.cvm.is

      by : (b : Beginning x y s more held k t c) (a : Begin) → begin k c.core (bit_or c.pending (lines k)) ≡ a → BegunAs x y (run x s b.at) b.enter a → Passed x s (suc k) (mask_of a) b.at → Turns x y s Typed late held k t c ⊎ Waits x y s late held k t m c
      by b (Steps after) e got w =
          inl (record {
            beginning = b;
            ahead = record {
              start = b.start;
              end = b.at;
              after = record c { core = after; pending = 0; bound = c.bound + turn_steps (map_of y.boot) y.longest };
              from = b.from;
              to = b.to;
              none = b.none;
              begin = b.begin_here;
              few = b.few;
              between = b.between;
              on = on_until b.start b.at b.on b.inside;
              stood = record {
                cvm = record { units = n; is = cvm_next y g.meaning lines n k c (record c { core = after; pending = 0; bound = c.bound + turn_steps (map_of y.boot) y.longest }) (Steps after) here running e refl };
                turn = w.turn;
                all = completes_at x s b.at (let to = b.to in omega (arith, to)) (user_rests _ (both_right (is_on (run x s b.at)) (in_user (run x s b.at)) got.1)) ∙ w.turn;
                rests = (subst (λ st. Rests st (run x s b.at)) (sym running) got.1, record { stands = subst (λ st. RunningRelation x site (run x s b.at) st after) (sym running) got.0; lines = w.mask });
              };
            };
            within = λ h. let a = b.soon h in shifted b.at c.bound more (turn_steps (map_of y.boot) y.longest) a;
            typed = subst Typed (sym (same_data k c.core (bit_or c.pending (lines k)) (Steps after) e)) typed;
            inside = b.inside;
            keeps = b.keeps;
          })
        where
          shifted : (u b e d : ℕ) → u ≤ b + e + d → u ≤ b + d + e
          shifted u b e d h = omega (arith, h)
      by b (Traps cause edata at) e got w = dispatched_on k t n c b cause edata at 0 got.1 (subst Typed (sym (same_data k c.core (bit_or c.pending (lines k)) (Traps cause edata at) e)) typed) w got.0 here
          (λ o f. ap (begun y n k c) e ∙ f) running m (omega arith)
      by b (Interrupts cause edata at pending) e got w = dispatched_on k t n c b cause edata at pending got.1 (subst Typed (sym (same_data k c.core (bit_or c.pending (lines k)) (Interrupts cause edata at pending) e)) typed) w got.0 here
          (λ o f. ap (begun y n k c) e ∙ f) running m (omega arith)

-- sizes of users at the start
first_sizes : (users : List (List ℕ)) → map (λ words. pages_of (first_flat words)) users ≡ map pages_of (map first_flat users)
first_sizes [] = refl
first_sizes (u ∷ rest) = ap (λ ns. pages_of (first_flat u) ∷ ns) (first_sizes rest)

-- what the premises and the laws give
pub given : StartsGoOn → UserStepsLinked → (Typed : C0State → Type 0) (x : Environment) (y : System) (s : State) (late held : ℕ) → StartsFrom Typed x y s late held → Given x y s late held Typed
given goes users Typed x y s late held f =
    let boots = f.boots in
    let laws = f.laws in
    record {
      lines = boots.happens.end;
      busy = boots.within;
      range = boots.fits.range;
      linked = let long : layer_words ≤ length y.boot.words = boots.fits.long in omega (arith, long);
      meaning = boots.follows.meaning;
      typed = subst (λ m. StaysTyped m y.boot.meaning Typed) boots.follows.made.same_map boots.follows.typed;
      known = record {
        laws_leave = laws.leaves x;
        laws_exit = laws.exits x;
        runs = boots.follows.runs;
        busy = boots.within;
        proper = boots.follows.meaning.proper;
      };
      started = f.start;
      goes_on = goes;
      first = laws.enters_first x (run x s late) (first_core y) boots.fits.core (boots.follows.made.starts y.input y.longest) (boots.follows.made.same_sizes ∙ first_sizes y.boot.users) f.start.there;
      enters = λ s before c cause edata epc. laws.enters x s before c cause edata epc;
      settles = λ s c back. laws.settles x y.longest s c boots.within back;
      users = users;
    }
