-- What is shown of a user grows by the entries of a step, in a run from a start.
-- It serves `traces_grow` alone.
use Rattle.std.proofs.Common.{◌≡◌, ◌≢◌, ◌⊎◌, inl, inr, ℕ, zero, suc, ◌+◌, ◌-◌, ◌*◌, ◌^◌, ◌<◌, ◌≤◌, ◌||◌, Bool, true, false, not, cond, All, Option, Some, None, List, [], ◌∷◌, ◌++◌, length, slice_index, refl, sym, ap, ap₂, ◌∙◌, subst, subst₂, ⊎_elim, arith, append-nil, eq-eqb, lt-ltb, le-ltb}
use Rattle.std.specs.Prelude.{◌==◌, nat_lt, bit_or, pos, ℤ, is_some, slice_get}
use Rattle.std.proofs.lemmas.Bool.{cases_lt, cond-true, cond-false}
use Rattle.std.proofs.lemmas.List.Elements.{All-head, All-tail}
use Rattle.mips_table.specs.Arith.{signed}
use Rattle.mips_table.specs.Device.{Environment}
use Rattle.mips_table.specs.Machine.{State, run}
use Rattle.mips_table.specs.Fits.{IsWord}
use Rattle.mips_table.specs.Turns.{begins_turn, rests, is_on, in_user, turn_of, complete, lines_of_turn}
use Rattle.layer_map.specs.Map.{current_at}
use Rattle.c0_meaning.specs.State.{C0State}
use Rattle.cvm_model.specs.Kernel.{Core, Changes, JournalEntry, Stepped, Trapped, NotYet}
use Rattle.cvm_model.specs.Primitives.{user_of}
use Rattle.cvm_model.specs.Cvm.{System, Status, Running, Halted, Faulted, Cvm, IsCvm, Begin, Steps, Traps, Interrupts, begin, begun, turn_by, turn, cvm, dispatch_of, after_dispatch, turn_steps, map_of, first_cvm}
use Rattle.cvm_model.specs.Journal.{changes_of, begin_calls, begin_entries}
use Rattle.cvm_model.specs.Stands.{Site, RunningRelation, runs_user}
use Rattle.layer_contract.specs.declared.registers.TheConstants.{ANSWER, RETURN}
use Rattle.layer_contract.specs.Layer.{Inside, ComesBy, IsEntry, DispatchCalled, Returned, given}
use Rattle.layer_contract.specs.Follows.{site_of}
use Rattle.layer_contract.specs.Calls.{entered, under_way, ends_here, ended_before, KernelCalled, CallsFollow}
use Rattle.boot_turns.specs.declared.completion.Begun.{Begun}
use Rattle.boot_turns.specs.Completes.{note, ShownAs}
use Rattle.boot_turns.specs.Trace.{ended_at_begin, ended_since, Shown}
use Rattle.boot_turns.specs.TurnEnds.{Stood}
use Rattle.boot_turns.specs.declared.tracer.Entered.{Entered}
use Rattle.boot_turns.specs.Entries.{IsPlaced, turn_begins, call_ends, return_entries, WordsAt, HasRows, ShowsMore, TraceGrows}
use Rattle.boot_turns.specs.Returns.{noted_call, returned}
use Rattle.boot_turns.proofs.MasksAndTimes.{both_right, inside_begins, inside_rests, user_rests}
use Rattle.boot_turns.proofs.EntryReached.{entered_none, entered_user, entered_off, not_system}
use Rattle.boot_turns.proofs.LinesOfTurns.{turn_same, turn_more, still, completes}
use Rattle.boot_turns.proofs.NoTurnBegins.{later, quietly}
use Rattle.boot_turns.proofs.MoreUnits.{one_cvm, cvm_more, cvm_next}
use Rattle.boot_turns.proofs.TurnGoesOn.{on_back, Given, Beginning, BegunAs, same_data}
use Rattle.boot_turns.proofs.WholeRuns.{OffOn, off_on, ended_off, forward, Going, Covered, covered, defined}
use Rattle.boot_turns.proofs.NextTurn.{stood_rests}
use Rattle.boot_turns.proofs.CallUnderWay.{stays_quiet, next_none, under_way_later, ended_later, ended_grows, note_back, noted_back, noted_none, noted_later}
use Rattle.boot_turns.proofs.MachineCalls.{over_quiet, CallAt, call_at, its_note, noted_last}
use Rattle.boot_turns.proofs.PrimitiveEntries.{call_agrees, call_placed}
use Rattle.boot_turns.proofs.JournalsGoOn.{calls_grow, get_same, Known, known_more, Cut, closed_is, closed, begins_open, begins_step, goes_more, closes}

none_some : {A : Type 0} (p : A) → None ≡ Some p → ⊥
none_some p e = cc

true_false : (b : Bool) → b ≡ true → b ≡ false → ⊥
true_false b e f = cc

index_word : (ws : List ℕ) (j : ℕ) → All IsWord ws → slice_index ws j < 2 ^ 32
index_word [] j h = omega arith
index_word (w ∷ ws) zero h = All-head IsWord w ws h
index_word (w ∷ ws) (suc j) h = index_word ws j (All-tail IsWord w ws h)

rests_enters : (s : State) → rests s ≡ true → entered 10 s ≡ None
unfolding rests
rests_enters s r = ⊎_elim (λ (u : in_user s ≡ true). entered_user 10 s (not_system s u)) (λ (o : not (is_on s) ≡ true). entered_off 10 s (is_false (is_on s) o)) (either (in_user s) (not (is_on s)) r)
  where
    either : (a b : Bool) → (a || b) ≡ true → (a ≡ true) ⊎ (b ≡ true)
    either true b e = inl refl
    either false b e = inr e

    is_false : (b : Bool) → not b ≡ true → b ≡ false
    is_false true e = sym e
    is_false false e = refl

not_rests_on : (s : State) → rests s ≡ false → s.off ≡ None
unfolding rests
not_rests_on s r = off_none s.off (no_right (in_user s) (not (not (is_some s.off))) r)
  where
    no_right : (a b : Bool) → (a || b) ≡ false → b ≡ false
    no_right true b e = absurd (cc)
    no_right false b e = e

    off_none : (o : Option ℕ) → not (not (is_some o)) ≡ false → o ≡ None
    off_none None e = refl
    off_none (Some v) e = absurd (cc)

user_outside : (s : State) → runs_user s ≡ true → Inside s → ⊥
user_outside s r i = true_false _ (both_right (is_on s) (in_user s) r) (ap (λ m. m == 1) i.mode)

-- the entries with which a turn begins
abbrev shown_begin : (u : ℕ) (dispatched : Bool) (cause edata current : ℕ) → List JournalEntry
shown_begin u dispatched cause edata current = cond (current == u) (cond dispatched (cond (nat_lt 1 cause) (Trapped cause edata ∷ []) []) (Stepped ∷ [])) []

trap_heads : (u user current cause edata : ℕ) (b : Begun) → user ≡ current → b.dispatched ≡ true → b.cause ≡ cause → b.edata ≡ edata → 1 < cause →
    cond (current == u) (Trapped cause edata ∷ []) [] ≡ turn_begins u user b
trap_heads u user current cause edata b e d c f lt = sym (
    ap (λ (d : Bool). shown_begin u d b.cause b.edata user) d
    ∙ ap₂ (λ (c f : ℕ). shown_begin u true c f user) c f
    ∙ ap (shown_begin u true cause edata) e
    ∙ ap (λ (l : List JournalEntry). cond (current == u) l []) (cond-true (nat_lt 1 cause) (Trapped cause edata ∷ []) [] (lt-ltb 1 cause lt)))

step_heads : (u user current : ℕ) (b : Begun) → user ≡ current → b.dispatched ≡ false → cond (current == u) (Stepped ∷ []) [] ≡ turn_begins u user b
step_heads u user current b e d = sym (ap (λ (d : Bool). shown_begin u d b.cause b.edata user) d ∙ ap (shown_begin u false b.cause b.edata) e)

none_heads : (u user cause : ℕ) (b : Begun) → b.dispatched ≡ true → b.cause ≡ cause → cause ≤ 1 → [] ≡ turn_begins u user b
none_heads u user cause b d c le = sym (
    ap (λ (d : Bool). shown_begin u d b.cause b.edata user) d
    ∙ ap (λ (c : ℕ). shown_begin u true c b.edata user) c
    ∙ ap (λ (l : List JournalEntry). cond (user == u) l []) (cond-false (nat_lt 1 cause) (Trapped cause b.edata ∷ []) [] (le-ltb 1 cause le))
    ∙ nothing (user == u))
  where
    nothing : (b : Bool) → ◌≡◌ {A = List JournalEntry} (cond b [] []) []
    nothing true = refl
    nothing false = refl

module _ (x : Environment) (y : System) (s : State) (late held : ℕ) (Typed : C0State → Type 0) (g : Given x y s late held Typed) (follow : CallsFollow (site_of y.boot) Typed y.boot.meaning) where
  abbrev site : Site
  site = site_of y.boot

  abbrev lines : ℕ → ℕ
  lines = lines_of_turn x s

  -- what turn k begins with
  abbrev begin_of : ℕ → Cvm → Begin
  begin_of k c = begin k c.core (bit_or c.pending (lines k))

  -- no turn begins in a stretch
  turn_stays : (t u : ℕ) → t ≤ u → ((j : ℕ) → t ≤ j → j < u → begins_turn x (run x s j) ≡ false) → turn_of x s u ≡ turn_of x s t
  turn_stays t zero le h = let e : t ≡ 0 = omega arith in ap (turn_of x s) (sym e)
  turn_stays t (suc u) le h = ⊎_elim
      (λ (lt : t < suc u). turn_same x s u (h u (omega arith) (omega arith)) ∙ turn_stays t u (omega arith) (λ j a b. h j a (omega arith)))
      (λ (ge : suc u ≤ t). let e : t ≡ suc u = omega arith in ap (turn_of x s) (sym e))
      (cases_lt t (suc u))

  begin_stays : (t u : ℕ) → t ≤ u → ((j : ℕ) → t ≤ j → j < u → begins_turn x (run x s j) ≡ false) → ended_at_begin x s u ≡ ended_at_begin x s t
  begin_stays t zero le h = let e : t ≡ 0 = omega arith in ap (ended_at_begin x s) (sym e)
  begin_stays t (suc u) le h = ⊎_elim
      (λ (lt : t < suc u). cond-false (begins_turn x (run x s u)) (ended_before x s u) (ended_at_begin x s u) (h u (omega arith) (omega arith)) ∙ begin_stays t u (omega arith) (λ j a b. h j a (omega arith)))
      (λ (ge : suc u ≤ t). let e : t ≡ suc u = omega arith in ap (ended_at_begin x s) (sym e))
      (cases_lt t (suc u))

  -- turn k at c, from step `at` on
  pub record Turn (at k : ℕ) (c : Cvm) : Type 0 where
    pub stood : Stood x y s k at c
    pub running : c.status ≡ Running
    pub beginning : Beginning x y s (late - 1) held k at c
    pub typed : Typed c.core.c0

  -- it goes on at step t
  pub record Goes (at k : ℕ) (c : Cvm) (w : Turn at k c) (t : ℕ) : Type 0 where
    pub begun_is : w.beginning.start < t
    pub inside : (j : ℕ) → w.beginning.start < j → j ≤ t → Inside (run x s j)

  -- before it begins
  module _ (at k : ℕ) (c : Cvm) (w : Turn at k c) (q : under_way x s at ≡ None) where
    pub calm : (t : ℕ) → at ≤ t → t ≤ w.beginning.start → (under_way x s t ≡ None) × (ended_before x s t ≡ ended_before x s at)
    calm t a b = stays_quiet x s at t a (λ j l h. w.beginning.quiet j l (omega (arith, h, b))) q

    pub turn_before : (t : ℕ) → at ≤ t → t ≤ w.beginning.start → turn_of x s t ≡ k
    turn_before t a b = turn_stays at t a (λ j l h. w.beginning.none j l (omega (arith, h, b))) ∙ w.stood.turn

  -- and then
  module _ (at k : ℕ) (c : Cvm) (w : Turn at k c) (t : ℕ) (o : Goes at k c w t) where
    no_begin : (j : ℕ) → suc w.beginning.start ≤ j → j < t → begins_turn x (run x s j) ≡ false
    no_begin j a b = inside_begins x _ (o.inside j a (omega (arith, b)))

    pub turn_open : turn_of x s t ≡ suc k
    turn_open = turn_stays (suc w.beginning.start) t o.begun_is no_begin ∙ turn_more x s w.beginning.start w.beginning.begin_here ∙ ap suc w.beginning.turn

    pub begin_open : ended_at_begin x s t ≡ ended_before x s w.beginning.start
    begin_open = begin_stays (suc w.beginning.start) t o.begun_is no_begin
        ∙ cond-true (begins_turn x (run x s w.beginning.start)) (ended_before x s w.beginning.start) (ended_at_begin x s w.beginning.start) w.beginning.begin_here

    pub complete_open : complete x s t ≡ k
    complete_open =
        let lt = o.begun_is in
        still x s w.beginning.start t (omega (arith, lt)) (λ j a b. inside_rests _ (o.inside j a b)) ∙ w.beginning.between w.beginning.start w.beginning.from w.beginning.to

  -- the dispatch of a turn that began at step `start`
  pub record Dispatch (k : ℕ) (c : Cvm) (start : ℕ) : Type 0 where
    pub cause : ℤ
    pub edata : ℤ
    pub user : ℤ
    pub core : Core
    pub at : ℕ
    pub from : start < at
    pub called : KernelCalled x y.longest site Typed core cause edata user (run x s at)
    pub quiet : (j : ℕ) → start < j → j ≤ at → entered 10 (run x s j) ≡ None
    pub inside : (j : ℕ) → start < j → j ≤ at → Inside (run x s j)
    pub cut : (u : ℕ) → Cut y g.meaning lines u k c (λ n. (y.boot.meaning.dispatch n core cause edata user).calls) (turn_begins u (slice_index (run x s start).memory current_at) (note (run x s (suc start))))
    pub over : (n : ℕ) (p : Cvm) → begun y n k c (begin_of k c) ≡ Some p → (y.boot.meaning.dispatch n core cause edata user).end ≢ NotYet

  -- or it is a user's step
  pub record Single (k : ℕ) (c : Cvm) (start : ℕ) : Type 0 where
    pub after : Core
    pub is : begin_of k c ≡ Steps after
    pub user : runs_user (run x s (suc start)) ≡ true
    pub heads : (u : ℕ) → cond (c.core.current == u) (Stepped ∷ []) [] ≡ turn_begins u (slice_index (run x s start).memory current_at) (note (run x s (suc start)))

  first_step : (k : ℕ) (c : Core) (lines : ℕ) (after : Core) → begin k c lines ≡ Steps after → 0 < k
  first_step zero c lines after e = absurd (let f : Interrupts 0 0 c lines ≡ Steps after = e in cc)
  first_step (suc k) c lines after e = omega arith

  first_trap : (k : ℕ) (c : Core) (lines cause edata : ℕ) (at : Core) → begin k c lines ≡ Traps cause edata at → 0 < k
  first_trap zero c lines cause edata at e = absurd (let f : Interrupts 0 0 c lines ≡ Traps cause edata at = e in cc)
  first_trap (suc k) c lines cause edata at e = omega arith

  door_apart : (n k : ℕ) → n ≡ 0x10000 → k < 10 → n ≡ 0x2000 + 4 * k → ⊥
  door_apart n k e l f = omega (arith, e, l, f)

  kind : (at k : ℕ) (c : Cvm) (w : Turn at k c) → Single k c w.beginning.start ⊎ Dispatch k c w.beginning.start
  kind at k c w = by (begin_of k c) refl w.beginning.shows w.beginning.comes
    where
      made : (cause edata user : ℤ) (core : Core) → ComesBy x site IsEntry w.beginning.enter (run x s w.beginning.at) (DispatchCalled x site core cause edata user) → Typed core.c0 →
          ((u : ℕ) → Cut y g.meaning lines u k c (λ n. (y.boot.meaning.dispatch n core cause edata user).calls) (turn_begins u (slice_index (run x s w.beginning.start).memory current_at) (note (run x s (suc w.beginning.start))))) →
          ((n : ℕ) (p : Cvm) → begun y n k c (begin_of k c) ≡ Some p → (y.boot.meaning.dispatch n core cause edata user).end ≢ NotYet) → Dispatch k c w.beginning.start
      made cause edata user core comes typed cut over =
          let a = quietly x site s w.beginning.enter w.beginning.at (DispatchCalled x site core cause edata user) (λ r d. entered_none 10 r (λ i l e. door_apart r.cpu.pc i d.at.pc l e))
          (w.beginning.apart w.beginning.at w.beginning.to (omega arith)) comes in
          let to = w.beginning.to in
          let from = a.1.from in
          record {
            cause = cause;
            edata = edata;
            user = user;
            core = core;
            at = a.0;
            from = omega (arith, to, from);
            called = record { busy = g.busy; typed = typed; called = a.1.there };
            quiet = λ j l h. ⊎_elim
                (λ (lt : j < w.beginning.at). w.beginning.apart j l (omega (arith, lt)))
                (λ (ge : w.beginning.at ≤ j). a.3 j ge h)
                (cases_lt j w.beginning.at);
            inside = λ j l h. ⊎_elim
                (λ (lt : j < w.beginning.at). w.beginning.inside j l lt)
                (λ (ge : w.beginning.at ≤ j). ⊎_elim
                (λ (lt : j < a.0). a.1.inside j ge lt)
                (λ (up : a.0 ≤ j). let e : a.0 ≡ j = omega (arith, up, h) in subst (λ i. Inside (run x s i)) e a.1.there.at.inside)
                (cases_lt j a.0))
                (cases_lt j w.beginning.at);
            cut = cut;
            over = over;
          }

      by : (b : Begin) → begin_of k c ≡ b → ShownAs b (note (run x s (suc w.beginning.start))) → BegunAs x y (run x s w.beginning.at) w.beginning.enter b →
          Single k c w.beginning.start ⊎ Dispatch k c w.beginning.start
      by (Steps after) e sh got = inl (record {
        after = after;
        is = e;
        user = subst (λ i. runs_user (run x s i) ≡ true) (sym (w.beginning.next (first_step k c.core (bit_or c.pending (lines k)) after e))) got.1;
        heads = λ u. step_heads u (slice_index (run x s w.beginning.start).memory current_at) c.core.current (note (run x s (suc w.beginning.start))) (w.beginning.current (first_step k c.core (bit_or c.pending (lines k)) after e)) sh;
      })
      by (Traps cause edata at) e sh got = inr (made (pos cause) (signed edata) (pos at.current) at got.0
          (subst Typed (sym (same_data x y s late held Typed g k c.core (bit_or c.pending (lines k)) (Traps cause edata at) e)) w.typed)
          (λ u. record {
            running = w.running;
            calls_are = λ n. ap (begin_calls y n) e;
            entries = λ n cut. ap (begin_entries y n cut u c.core) e
                ∙ ap (λ (h : List JournalEntry). h ++ changes_of u (cut (dispatch_of y n cause edata at).calls))
                (trap_heads u (slice_index (run x s w.beginning.start).memory current_at) c.core.current cause edata (note (run x s (suc w.beginning.start))) (w.beginning.current (first_trap k c.core (bit_or c.pending (lines k)) cause edata at e)) sh.0 sh.1 sh.2 got.2);
          })
          (λ n p h f. none_some p (sym (ap (after_dispatch y c k cause edata at.current 0 (dispatch_of y n cause edata at)) f) ∙ sym (ap (begun y n k c) e) ∙ h)))
      by (Interrupts cause edata at pending) e sh got = inr (made (pos cause) (signed edata) (pos at.current) at got.0
          (subst Typed (sym (same_data x y s late held Typed g k c.core (bit_or c.pending (lines k)) (Interrupts cause edata at pending) e)) w.typed)
          (λ u. record {
            running = w.running;
            calls_are = λ n. ap (begin_calls y n) e;
            entries = λ n cut. ap (begin_entries y n cut u c.core) e
                ∙ ap (λ (h : List JournalEntry). h ++ changes_of u (cut (dispatch_of y n cause edata at).calls))
                (none_heads u (slice_index (run x s w.beginning.start).memory current_at) cause (note (run x s (suc w.beginning.start))) sh.0 sh.1 got.2);
          })
          (λ n p h f. none_some p (sym (ap (after_dispatch y c k cause edata at.current pending (dispatch_of y n cause edata at)) f) ∙ sym (ap (begun y n k c) e) ∙ h)))

  -- where the machine is at step t: turn k goes on, which the run came to at step `at`
  pub record Here (t : ℕ) : Type 0 where
    pub at : ℕ
    pub k : ℕ
    pub c : Cvm
    pub from : at ≤ t
    pub turn : Turn at k c
    pub inside : (j : ℕ) → turn.beginning.start < j → j ≤ t → Inside (run x s j)
    pub before : (j : ℕ) → j < at → complete x s j < k
    pub all : complete x s t ≡ k

  off_on_not : (o : Option ℕ) (v : ℕ) → o ≡ Some v → o ≡ None → ⊥
  off_on_not o v e f = absurd (let h : ◌≡◌ {A = Option ℕ} (Some v) None = sym e ∙ f in cc)

  runs_on : (at k : ℕ) (c : Cvm) → Stood x y s k at c → (run x s at).off ≡ None → c.status ≡ Running
  runs_on at k c st on = by c.status refl
    where
      by : (b : Status) → c.status ≡ b → c.status ≡ Running
      by Running e = e
      by Halted e = let o = ended_off x y s late held Typed g k at c st (λ w. absurd (let f : Halted ≡ Running = sym e ∙ w in cc)) in absurd (off_on_not _ o.0 o.1 on)
      by (Faulted f) e = let o = ended_off x y s late held Typed g k at c st (λ w. absurd (let d : Faulted f ≡ Running = sym e ∙ w in cc)) in absurd (off_on_not _ o.0 o.1 on)

  pub here : (t : ℕ) → (run x s t).off ≡ None → Here t
  here t on = by (covered x y s late held Typed g t)
    where
      by : Covered x y s late held Typed g t → Here t
      by d = ⊎_elim
          (λ (o : (v : ℕ) × OffOn x s d.count v d.at). absurd (off_on_not (run x s t).off o.0 (off_on x s d.count o.0 d.at t d.from o.1).off on))
          (λ (w : Going x y s late held Typed g d.count d.at t d.past). record {
            at = d.at;
            k = d.count;
            c = d.past;
            from = d.from;
            turn = record {
              stood = d.stood;
              running = runs_on d.at d.count d.past d.stood (on_back x s d.at t d.from on);
              beginning = w.beginning;
              typed = (forward x y s late held Typed g d.stood.cvm.units d.count d.past d.stood.cvm.is).1.typed;
            };
            inside = w.inside;
            before = d.before;
            all = d.between t d.from (omega arith);
          })
          d.then

  -- the state after turn k, as a turn that began well
  turn_begun : (n k : ℕ) (c p : Cvm) → cvm y lines n k ≡ Some c → c.status ≡ Running → cvm y lines n (suc k) ≡ Some p → begun y n k c (begin_of k c) ≡ Some p
  turn_begun n k c p h run next = sym (ap (turn_by y n k (lines k) c) run) ∙ sym (ap (turn y n k (lines k)) h) ∙ next

  -- where the turn is complete at the next step: all its calls have ended
  pub record Over (at k : ℕ) (c : Cvm) (w : Turn at k c) (t : ℕ) : Type 0 where
    pub dispatch : Dispatch k c w.beginning.start
    pub under : under_way x s t ≡ None
    pub all : (n : ℕ) (p : Cvm) → cvm y lines n k ≡ Some c → cvm y lines n (suc k) ≡ Some p → ended_since x s t ≡ length (y.boot.meaning.dispatch n dispatch.core dispatch.cause dispatch.edata dispatch.user).calls

  -- the counts since the dispatch
  module _ (at k : ℕ) (c : Cvm) (w : Turn at k c) (q : under_way x s at ≡ None) (d : Dispatch k c w.beginning.start) where
    pub quiet_there : (t : ℕ) → w.beginning.start ≤ t → t ≤ d.at → (under_way x s t ≡ None) × (ended_before x s t ≡ ended_before x s w.beginning.start)
    quiet_there t a b = stays_quiet x s w.beginning.start t a (λ j l h. d.quiet j l (omega (arith, h, b))) (calm at k c w q w.beginning.start w.beginning.from (omega arith)).0

    pub at_quiet : (under_way x s d.at ≡ None) × (ended_before x s d.at ≡ ended_before x s w.beginning.start)
    at_quiet = let f = d.from in quiet_there d.at (omega (arith, f)) (omega arith)

    pub since : (t : ℕ) → Goes at k c w t → d.at ≤ t → ended_since x s t ≡ ended_before x (run x s d.at) (t - d.at)
    since t o le =
        let e : d.at + (t - d.at) ≡ t = omega (arith, le) in
        let a : ended_before x s t ≡ ended_before x s d.at + ended_before x (run x s d.at) (t - d.at) = ap (ended_before x s) (sym e) ∙ ended_later x s d.at at_quiet.0 (t - d.at) in
        let b = begin_open at k c w t o in
        let f = at_quiet.1 in
        omega (arith, a, b, f)

    pub under_since : (t : ℕ) → d.at ≤ t → under_way x s t ≡ under_way x (run x s d.at) (t - d.at)
    under_since t le =
        let e : d.at + (t - d.at) ≡ t = omega (arith, le) in
        ap (under_way x s) (sym e) ∙ under_way_later x s d.at at_quiet.0 (t - d.at)

    pub noted_since : (t : ℕ) → d.at ≤ t → noted_call x s t ≡ noted_call x (run x s d.at) (t - d.at)
    noted_since t le =
        let e : d.at + (t - d.at) ≡ t = omega (arith, le) in
        ap (noted_call x s) (sym e) ∙ noted_later x s d.at (t - d.at) at_quiet.0

    pub inside_since : (t : ℕ) → Goes at k c w t → d.at ≤ t → (j : ℕ) → j ≤ t - d.at → Inside (run x (run x s d.at) j)
    inside_since t o le j h =
        let f = d.from in
        subst Inside (sym (later x s d.at j)) (o.inside (d.at + j) (omega (arith, f)) (omega (arith, h, le)))

  not_inside : (t : ℕ) → rests (run x s t) ≡ true → Inside (run x s t) → ⊥
  not_inside t r i = true_false _ r (inside_rests _ i)

  pub over : (at k : ℕ) (c : Cvm) (w : Turn at k c) (q : under_way x s at ≡ None) (t : ℕ) → Goes at k c w t → rests (run x s (suc t)) ≡ true → ((p : Cvm) × IsCvm y lines (suc k) p) → Over at k c w t
  over at k c w q t o r e = ⊎_elim
      (λ (z : Single k c w.beginning.start). let lt = o.begun_is in absurd (user_outside _ z.user (o.inside (suc w.beginning.start) (omega arith) (omega (arith, lt)))))
      (λ (d : Dispatch k c w.beginning.start). by d)
      (kind at k c w)
    where
      by : Dispatch k c w.beginning.start → Over at k c w t
      by d =
          let le : d.at ≤ t = ⊎_elim
          (λ (lt : t < d.at). let b = o.begun_is in absurd (not_inside (suc t) r (d.inside (suc t) (omega (arith, b)) (omega (arith, lt)))))
          (λ (ge : d.at ≤ t). ge)
          (cases_lt t d.at) in
          let far : d.at + suc (t - d.at) ≡ suc t = omega (arith, le) in
          let out : Inside (run x (run x s d.at) (suc (t - d.at))) → ⊥ =
          λ i. not_inside (suc t) r (subst Inside (later x s d.at (suc (t - d.at)) ∙ ap (run x s) far) i) in
          let ends = λ (n : ℕ) (p : Cvm) (h : cvm y lines n k ≡ Some c) (next : cvm y lines n (suc k) ≡ Some p).
          over_quiet x site y.longest Typed y.boot.meaning follow g.meaning (run x s d.at) d.core d.cause d.edata d.user d.called n (t - d.at) (d.over n p (turn_begun n k c p h w.running next))
          (inside_since at k c w q d t o le) out in
          let sum : e.1.units + w.stood.cvm.units ≡ w.stood.cvm.units + e.1.units = omega arith in
          let first = ends (w.stood.cvm.units + e.1.units) e.0 (cvm_more y g.meaning lines w.stood.cvm.units e.1.units k c w.stood.cvm.is)
          (subst (λ n. cvm y lines n (suc k) ≡ Some e.0) sum (cvm_more y g.meaning lines e.1.units w.stood.cvm.units (suc k) e.0 e.1.is)) in
          record {
            dispatch = d;
            under = under_since at k c w q d t le ∙ first.0;
            all = λ n p h next. since at k c w q d t o le ∙ (ends n p h next).1;
          }

  completing : (t : ℕ) → complete x s t < complete x s (suc t) → rests (run x s (suc t)) ≡ true
  completing t more = by (rests (run x s (suc t))) refl
    where
      by : (b : Bool) → rests (run x s (suc t)) ≡ b → rests (run x s (suc t)) ≡ true
      by true e = e
      by false e = let same : complete x s (suc t) ≡ complete x s t = cond-false (rests (run x s (suc t))) (turn_of x s (suc t)) (complete x s t) e in absurd (omega (arith, more, same))

  module _ (at k : ℕ) (c : Cvm) (w : Turn at k c) (t : ℕ) (o : Goes at k c w t) (r : rests (run x s (suc t)) ≡ true) where
    turn_closes : turn_of x s (suc t) ≡ suc k
    turn_closes = let lt = o.begun_is in turn_same x s t (inside_begins x _ (o.inside t lt (omega arith))) ∙ turn_open at k c w t o

    complete_closes : complete x s (suc t) ≡ suc k
    complete_closes = completes x s t r ∙ turn_closes

    cvm_closes : (p : Cvm) × IsCvm y lines (suc k) p
    cvm_closes = let d = defined x y s late held Typed g (suc t) in (d.0, subst (λ i. IsCvm y lines i d.0) complete_closes d.1)

  goes_at : (t : ℕ) (h : Here t) → h.turn.beginning.start < t → Goes h.at h.k h.c h.turn t
  goes_at t h lt = record { begun_is = lt; inside = h.inside }

  quiet_before : (t : ℕ) (h : Here t) → under_way x s h.at ≡ None → rests (run x s (suc t)) ≡ true → under_way x s t ≡ None
  quiet_before t h q r = ⊎_elim
      (λ (lt : h.turn.beginning.start < t). (over h.at h.k h.c h.turn q t (goes_at t h lt) r (cvm_closes h.at h.k h.c h.turn t (goes_at t h lt) r)).under)
      (λ (ge : t ≤ h.turn.beginning.start). (calm h.at h.k h.c h.turn q t h.from ge).0)
      (cases_lt h.turn.beginning.start t)

  -- where a turn goes on, none was under way when the one before it was complete
  pub quiet_at : (fuel t : ℕ) → t ≤ fuel → (h : Here t) → under_way x s h.at ≡ None
  quiet_at zero t le h = let f = h.from in let e : 0 ≡ h.at = omega (arith, le, f) in subst (λ i. under_way x s i ≡ None) e refl
  quiet_at (suc fuel) t le h = by (quiet_at fuel) h.at refl
    where
      by : ((t : ℕ) → t ≤ fuel → (h : Here t) → under_way x s h.at ≡ None) → (a : ℕ) → h.at ≡ a → under_way x s h.at ≡ None
      by go zero e = subst (λ i. under_way x s i ≡ None) (sym e) refl
      by go (suc a) e =
          let f = h.from in
          let b = h.turn.beginning.from in
          let on : (run x s a).off ≡ None = on_back x s a h.turn.beginning.start (omega (arith, b, e)) h.turn.beginning.on in
          let h2 = here a on in
          let q2 = go a (omega (arith, f, e, le)) h2 in
          let less : complete x s a < h.k = h.before a (omega (arith, e)) in
          let all : complete x s (suc a) ≡ h.k = ap (complete x s) (sym e) ∙ h.turn.stood.all in
          let r = completing a (omega (arith, less, all)) in
          subst (λ i. under_way x s i ≡ None) (sym e) (next_none x s a (quiet_before a h2 q2 r) (rests_enters _ r))

  module _ (u : ℕ) where
    abbrev Knows : (n k r m : ℕ) (j : List JournalEntry) → Type 0
    Knows n k r m j = Known y g.meaning lines u n k r m j

    shown_from : (n t k r m : ℕ) (j : List JournalEntry) → complete x s t ≡ k → turn_of x s t ≡ r → ended_since x s t ≡ m → Knows n k r m j → Shown x s y u t j
    shown_from n t k r m j a b e w =
        let v1 : Knows n (complete x s t) r m j = subst (λ i. Knows n i r m j) (sym a) w in
        let v2 : Knows n (complete x s t) (turn_of x s t) m j = subst (λ i. Knows n (complete x s t) i m j) (sym b) v1 in
        let v : Knows n (complete x s t) (turn_of x s t) (ended_since x s t) j = subst (λ i. Knows n (complete x s t) (turn_of x s t) i j) (sym e) v2 in
        record { units = n; past = v.past; cvm = v.cvm_is; enough = v.enough; is = v.is }

    as_known : (t : ℕ) (j : List JournalEntry) (w : Shown x s y u t j) → Knows w.units (complete x s t) (turn_of x s t) (ended_since x s t) j
    as_known t j w = record { past = w.past; cvm_is = w.cvm; enough = w.enough; is = w.is }

    known_from : (t k r : ℕ) (j : List JournalEntry) → complete x s t ≡ k → turn_of x s t ≡ r → Shown x s y u t j → (n : ℕ) × Knows n k r (ended_since x s t) j
    known_from t k r j a b w =
        let v1 : Knows w.units k (turn_of x s t) (ended_since x s t) j = subst (λ i. Knows w.units i (turn_of x s t) (ended_since x s t) j) a (as_known t j w) in
        (w.units, subst (λ i. Knows w.units k i (ended_since x s t) j) b v1)

    past_is : (n at k r m : ℕ) (c : Cvm) (j : List JournalEntry) → Turn at k c → Knows n k r m j → cvm y lines n k ≡ Some c
    past_is n at k r m c j w v = v.cvm_is ∙ ap (λ c. Some c) (one_cvm y g.meaning lines k v.past c (record { units = n; is = v.cvm_is }) w.stood.cvm)

    -- a step that adds nothing
    quiet_step : (t : ℕ) (j : List JournalEntry) → begins_turn x (run x s t) ≡ false → returned (run x s (suc t)) (noted_call x s t) ≡ None → Shown x s y u (suc t) j → ShowsMore x y s u t j
    quiet_step t j b e w = record {
      words = [];
      there = subst (WordsAt x y u (run x s (suc t)) []) (sym e) tt;
      shown = subst (Shown x s y u (suc t))
          (sym (ap (λ (l : List JournalEntry). j ++ l)
          (cond-false (begins_turn x (run x s t)) (turn_begins u (slice_index (run x s t).memory current_at) (note (run x s (suc t)))) (return_entries u (run x s (suc t)) [] (returned (run x s (suc t)) (noted_call x s t))) b
          ∙ ap (return_entries u (run x s (suc t)) []) e) ∙ append-nil j)) w;
    }

    -- a step that begins a turn
    begin_step : (t : ℕ) (j : List JournalEntry) → begins_turn x (run x s t) ≡ true → noted_call x s t ≡ None →
        Shown x s y u (suc t) (j ++ turn_begins u (slice_index (run x s t).memory current_at) (note (run x s (suc t)))) → ShowsMore x y s u t j
    begin_step t j b e w = record {
      words = [];
      there = subst (λ o. WordsAt x y u (run x s (suc t)) [] (returned (run x s (suc t)) o)) (sym e) tt;
      shown = subst (λ (l : List JournalEntry). Shown x s y u (suc t) (j ++ l))
          (sym (cond-true (begins_turn x (run x s t)) (turn_begins u (slice_index (run x s t).memory current_at) (note (run x s (suc t)))) (return_entries u (run x s (suc t)) [] (returned (run x s (suc t)) (noted_call x s t))) b)) w;
    }

    -- a step in which a primitive returns
    call_step : (t : ℕ) (j : List JournalEntry) (e : Entered) (core : Core) → begins_turn x (run x s t) ≡ false → noted_call x s t ≡ Some e → (run x s (suc t)).cpu.pc ≡ e.back → RunningRelation x site (run x s (suc t)) Running core →
        IsPlaced u e (slice_index (run x s (suc t)).cpu.regs ANSWER) (user_of core.users u).words →
        Shown x s y u (suc t) (j ++ call_ends u e (slice_index (run x s (suc t)).cpu.regs ANSWER) (user_of core.users u).words) → ShowsMore x y s u t j
    call_step t j e core b is pc stands placed w =
        let back : returned (run x s (suc t)) (noted_call x s t) ≡ Some e = ap (returned (run x s (suc t))) is ∙ cond-true ((run x s (suc t)).cpu.pc == e.back) (Some e) None (eq-eqb _ _ pc) in
        record {
          words = (user_of core.users u).words;
          there = subst (WordsAt x y u (run x s (suc t)) (user_of core.users u).words) (sym back) (core, stands, refl, placed);
          shown = subst (λ (l : List JournalEntry). Shown x s y u (suc t) (j ++ l))
              (sym (cond-false (begins_turn x (run x s t)) (turn_begins u (slice_index (run x s t).memory current_at) (note (run x s (suc t))))
              (return_entries u (run x s (suc t)) (user_of core.users u).words (returned (run x s (suc t)) (noted_call x s t))) b
              ∙ ap (return_entries u (run x s (suc t)) (user_of core.users u).words) back)) w;
        }

    -- before the turn begins
    before_step : (at k : ℕ) (c : Cvm) (w : Turn at k c) → under_way x s at ≡ None → (t : ℕ) (j : List JournalEntry) → at ≤ t → t < w.beginning.start → Shown x s y u t j → ShowsMore x y s u t j
    before_step at k c w q t j a b sh =
        let v = known_from t k k j (w.beginning.between t a (let to = w.beginning.to in omega (arith, b, to))) (turn_before at k c w q t a (omega (arith, b))) sh in
        quiet_step t j (w.beginning.none t a b) (ap (returned (run x s (suc t))) (noted_none x s t (calm at k c w q t a (omega (arith, b))).0))
        (shown_from v.0 (suc t) k k (ended_since x s (suc t)) j (w.beginning.between (suc t) (omega (arith, a)) (let to = w.beginning.to in omega (arith, b, to))) (turn_before at k c w q (suc t) (omega (arith, a)) b) refl
        (closed y g.meaning lines u v.0 k (ended_since x s (suc t)) v.1.past j v.1.cvm_is (closed_is y g.meaning lines u v.0 k (ended_since x s t) j v.1)))

    -- where it begins
    start_step : (at k : ℕ) (c : Cvm) (w : Turn at k c) → under_way x s at ≡ None → (j : List JournalEntry) → Shown x s y u w.beginning.start j → ShowsMore x y s u w.beginning.start j
    start_step at k c w q j sh =
        begin_step w.beginning.start j w.beginning.begin_here (noted_none x s w.beginning.start (calm at k c w q w.beginning.start w.beginning.from (omega arith)).0)
        (⊎_elim
        (λ (z : Single k c w.beginning.start). single z)
        (λ (d : Dispatch k c w.beginning.start). dispatch d)
        (kind at k c w))
      where
        known : (n : ℕ) × Knows n k k (ended_since x s w.beginning.start) j
        known = known_from w.beginning.start k k j (w.beginning.between w.beginning.start w.beginning.from w.beginning.to) w.beginning.turn sh

        turn_next : turn_of x s (suc w.beginning.start) ≡ suc k
        turn_next = turn_more x s w.beginning.start w.beginning.begin_here ∙ ap suc w.beginning.turn

        single : Single k c w.beginning.start → Shown x s y u (suc w.beginning.start) (j ++ turn_begins u (slice_index (run x s w.beginning.start).memory current_at) (note (run x s (suc w.beginning.start))))
        single z =
            let p : Cvm = record c { core = z.after; pending = 0; bound = c.bound + turn_steps (map_of y.boot) y.longest } in
            let h = past_is known.0 at k k (ended_since x s w.beginning.start) c j w known.1 in
            let next = cvm_next y g.meaning lines known.0 k c (record c { core = z.after; pending = 0; bound = c.bound + turn_steps (map_of y.boot) y.longest }) (Steps z.after) h w.running z.is refl in
            let r : rests (run x s (suc w.beginning.start)) ≡ true = user_rests _ (both_right (is_on (run x s (suc w.beginning.start))) (in_user (run x s (suc w.beginning.start))) z.user) in
            shown_from known.0 (suc w.beginning.start) (suc k) (suc k) (ended_since x s (suc w.beginning.start)) (j ++ turn_begins u (slice_index (run x s w.beginning.start).memory current_at) (note (run x s (suc w.beginning.start)))) (completes x s w.beginning.start r ∙ turn_next) turn_next refl
            (begins_step y g.meaning lines u known.0 k (ended_since x s w.beginning.start) (ended_since x s (suc w.beginning.start)) c (record c { core = z.after; pending = 0; bound = c.bound + turn_steps (map_of y.boot) y.longest }) (turn_begins u (slice_index (run x s w.beginning.start).memory current_at) (note (run x s (suc w.beginning.start)))) j w.running h next
            (ap (begin_entries y known.0 (λ calls. calls) u c.core) z.is ∙ z.heads u) known.1)

        dispatch : Dispatch k c w.beginning.start → Shown x s y u (suc w.beginning.start) (j ++ turn_begins u (slice_index (run x s w.beginning.start).memory current_at) (note (run x s (suc w.beginning.start))))
        dispatch d =
            let f = d.from in
            let o : Goes at k c w (suc w.beginning.start) = record { begun_is = omega arith; inside = λ i l h. d.inside i l (omega (arith, f, h)) } in
            let h = past_is known.0 at k k (ended_since x s w.beginning.start) c j w known.1 in
            let e = (quiet_there at k c w q d (suc w.beginning.start) (omega arith) f).1 in
            let b = begin_open at k c w (suc w.beginning.start) o in
            let none : ended_since x s (suc w.beginning.start) ≡ 0 = omega (arith, e, b) in
            shown_from known.0 (suc w.beginning.start) k (suc k) 0 (j ++ turn_begins u (slice_index (run x s w.beginning.start).memory current_at) (note (run x s (suc w.beginning.start)))) (complete_open at k c w (suc w.beginning.start) o) turn_next none
            (begins_open y g.meaning lines u known.0 k (ended_since x s w.beginning.start) c (λ n. (y.boot.meaning.dispatch n d.core d.cause d.edata d.user).calls) (turn_begins u (slice_index (run x s w.beginning.start).memory current_at) (note (run x s (suc w.beginning.start)))) j (d.cut u) h known.1)

    -- where it is complete at the next step
    end_step : (at k : ℕ) (c : Cvm) (w : Turn at k c) → under_way x s at ≡ None → (t : ℕ) (j : List JournalEntry) → Goes at k c w t → rests (run x s (suc t)) ≡ true → Shown x s y u t j → ShowsMore x y s u t j
    end_step at k c w q t j o r sh =
        let v = known_from t k (suc k) j (complete_open at k c w t o) (turn_open at k c w t o) sh in
        let p = cvm_closes at k c w t o r in
        let end = over at k c w q t o r p in
        let lt = o.begun_is in
        let m : ℕ = ended_since x s t in
        let n : ℕ = v.0 + p.1.units in
        let vn = known_more y g.meaning lines u v.0 p.1.units k (suc k) (ended_since x s t) j v.1 in
        let h = past_is (v.0 + p.1.units) at k (suc k) (ended_since x s t) c j w vn in
        let sum : p.1.units + v.0 ≡ v.0 + p.1.units = omega arith in
        let next : cvm y lines (v.0 + p.1.units) (suc k) ≡ Some p.0 = subst (λ n. cvm y lines n (suc k) ≡ Some p.0) sum (cvm_more y g.meaning lines p.1.units v.0 (suc k) p.0 p.1.is) in
        quiet_step t j (inside_begins x _ (o.inside t lt (omega arith))) (ap (returned (run x s (suc t))) (noted_none x s t end.under))
        (shown_from (v.0 + p.1.units) (suc t) (suc k) (suc k) (ended_since x s (suc t)) j (complete_closes at k c w t o r) (turn_closes at k c w t o r) refl
        (closes y g.meaning lines u (v.0 + p.1.units) k (ended_since x s t) (ended_since x s (suc t)) c p.0 (λ n. (y.boot.meaning.dispatch n end.dispatch.core end.dispatch.cause end.dispatch.edata end.dispatch.user).calls)
        (turn_begins u (slice_index (run x s w.beginning.start).memory current_at) (note (run x s (suc w.beginning.start)))) j (end.dispatch.cut u) h next (end.all (v.0 + p.1.units) p.0 h next) vn))

    -- while it goes on
    module _ (at k : ℕ) (c : Cvm) (w : Turn at k c) (q : under_way x s at ≡ None) (t : ℕ) (j : List JournalEntry) (o : Goes at k c w t) (o2 : Goes at k c w (suc t)) (sh : Shown x s y u t j) where
      no_begin_here : begins_turn x (run x s t) ≡ false
      no_begin_here = let lt = o.begun_is in inside_begins x _ (o.inside t lt (omega arith))

      known_here : (n : ℕ) × Knows n k (suc k) (ended_since x s t) j
      known_here = known_from t k (suc k) j (complete_open at k c w t o) (turn_open at k c w t o) sh

      since_more : (e : ℕ) → ends_here (run x s (suc t)) (under_way x s t) ≡ e → ended_since x s (suc t) ≡ ended_since x s t + e
      since_more e h =
          let a = begin_open at k c w t o in
          let b = begin_open at k c w (suc t) o2 in
          let lt = o.begun_is in
          let grows = ended_grows x s w.beginning.start t (omega (arith, lt)) in
          omega (arith, a, b, grows, h)

      -- nothing ends
      same_step : ends_here (run x s (suc t)) (under_way x s t) ≡ 0 → returned (run x s (suc t)) (noted_call x s t) ≡ None → ShowsMore x y s u t j
      same_step e none =
          let m : ended_since x s (suc t) ≡ ended_since x s t = since_more 0 e ∙ omega arith in
          quiet_step t j no_begin_here none (shown_from known_here.0 (suc t) k (suc k) (ended_since x s t) j (complete_open at k c w (suc t) o2) (turn_open at k c w (suc t) o2) m known_here.1)

      -- a call ends
      module _ (low : 1 ≤ u) (high : u ≤ length y.boot.users) (d : Dispatch k c w.beginning.start) (le : d.at ≤ t) (one : ends_here (run x s (suc t)) (under_way x s t) ≡ 1) where
        abbrev there : State
        there = run x s d.at

        abbrev i : ℕ
        i = t - d.at

        abbrev calls : ℕ → List Changes
        calls n = (y.boot.meaning.dispatch n d.core d.cause d.edata d.user).calls

        next_state : run x (run x s d.at) (suc (t - d.at)) ≡ run x s (suc t)
        next_state = let e : d.at + suc (t - d.at) ≡ suc t = omega (arith, le) in later x s d.at (suc (t - d.at)) ∙ ap (run x s) e

        it : CallAt x site y.longest Typed y.boot.meaning follow g.meaning (run x s d.at) d.core d.cause d.edata d.user d.called (t - d.at)
        it = call_at x site y.longest Typed y.boot.meaning follow g.meaning (run x s d.at) d.core d.cause d.edata d.user d.called (t - d.at)
            (λ j h. inside_since at k c w q d (suc t) o2 (omega (arith, le)) j (omega (arith, h, le)))
            (ap₂ ends_here next_state (sym (under_since at k c w q d t le)) ∙ one)

        abbrev m : ℕ
        m = ended_before x (run x s d.at) (t - d.at)

        since_is : ended_since x s t ≡ ended_before x (run x s d.at) (t - d.at)
        since_is = since at k c w q d t o le

        known_one : (n : ℕ) × Knows n k (suc k) (suc (ended_before x (run x s d.at) (t - d.at))) (j ++ changes_of u (it.changes ∷ []))
        known_one =
            let v = known_here in
            let vm : Knows v.0 k (suc k) (ended_before x (run x s d.at) (t - d.at)) j = subst (λ m. Knows v.0 k (suc k) m j) since_is v.1 in
            let vn = known_more y g.meaning lines u v.0 it.units k (suc k) (ended_before x (run x s d.at) (t - d.at)) j vm in
            let sum : it.units + v.0 ≡ v.0 + it.units = omega arith in
            let enough = it.enough in
            let is : slice_get (y.boot.meaning.dispatch (v.0 + it.units) d.core d.cause d.edata d.user).calls (ended_before x (run x s d.at) (t - d.at)) ≡ Some it.changes =
            subst (λ n. slice_get (y.boot.meaning.dispatch n d.core d.cause d.edata d.user).calls (ended_before x (run x s d.at) (t - d.at)) ≡ Some it.changes) sum
            (get_same y.boot.meaning g.meaning d.core d.cause d.edata d.user it.units v.0 (ended_before x (run x s d.at) (t - d.at)) it.changes it.is enough) in
            let grows = calls_grow y.boot.meaning g.meaning d.core d.cause d.edata d.user it.units v.0 in
            let most : suc (ended_before x (run x s d.at) (t - d.at)) ≤ length (y.boot.meaning.dispatch (v.0 + it.units) d.core d.cause d.edata d.user).calls =
            subst (λ n. suc (ended_before x (run x s d.at) (t - d.at)) ≤ length (y.boot.meaning.dispatch n d.core d.cause d.edata d.user).calls) sum (omega (arith, enough, grows)) in (
              v.0 + it.units,
              goes_more y g.meaning lines u (v.0 + it.units) k (ended_before x (run x s d.at) (t - d.at)) c (λ n. (y.boot.meaning.dispatch n d.core d.cause d.edata d.user).calls)
                  (turn_begins u (slice_index (run x s w.beginning.start).memory current_at) (note (run x s (suc w.beginning.start)))) j it.changes (d.cut u)
                  (past_is (v.0 + it.units) at k (suc k) (ended_before x (run x s d.at) (t - d.at)) c j w vn) is most vn,
            )

        shown_one : Shown x s y u (suc t) (j ++ changes_of u (it.changes ∷ []))
        shown_one =
            let e : ended_since x s (suc t) ≡ suc (ended_before x (run x s d.at) (t - d.at)) = since_more 1 one ∙ (let a = since_is in omega (arith, a)) in
            shown_from known_one.0 (suc t) k (suc k) (suc (ended_before x (run x s d.at) (t - d.at))) (j ++ changes_of u (it.changes ∷ [])) (complete_open at k c w (suc t) o2) (turn_open at k c w (suc t) o2) e known_one.1

        noted_it : noted_call x s t ≡ Some (its_note x site y.longest (run x s d.at) (ended_before x (run x s d.at) (t - d.at)) it.changes it.ends d.called.called.at.pc)
        noted_it = noted_since at k c w q d t le
            ∙ noted_last x site y.longest (run x s d.at) (ended_before x (run x s d.at) (t - d.at)) it.changes it.ends d.called.called.at.pc (t - d.at) it.here

        abbrev entry_state : State
        entry_state = run x (run x s d.at) it.ends.entry

        ends_there : run x (run x (run x s d.at) it.ends.entry) it.ends.back.comes.steps ≡ run x s (suc t)
        ends_there = later x (run x s d.at) it.ends.entry it.ends.back.comes.steps ∙ ap (run x (run x s d.at)) (sym it.here) ∙ next_state

        back_there : Returned x site (given site it.ends.core it.ends.call) it.ends.core (run x (run x s d.at) it.ends.entry) (run x s (suc t))
        back_there = subst (Returned x site (given site it.ends.core it.ends.call) it.ends.core (run x (run x s d.at) it.ends.entry)) ends_there it.ends.back.comes.there

        entries_are : changes_of u (it.changes ∷ []) ≡
            call_ends u (its_note x site y.longest (run x s d.at) (ended_before x (run x s d.at) (t - d.at)) it.changes it.ends d.called.called.at.pc) (slice_index (run x s (suc t)).cpu.regs ANSWER)
            (user_of (given site it.ends.core it.ends.call).users u).words
        entries_are =
            let count : length it.ends.core.users ≡ length y.boot.users = it.ends.called.at.stands.whole.users in
            ap (λ ch. changes_of u (ch ∷ [])) it.ends.same
            ∙ call_agrees entry_state.cpu.regs (λ r. index_word entry_state.cpu.regs r it.ends.called.at.stands.fits.cpu.regs.each) u (slice_index entry_state.cpu.regs RETURN) (slice_index (run x s (suc t)).cpu.regs ANSWER)
            site.map.params.pages it.ends.core.users it.ends.core.console low (omega (arith, high, count)) it.ends.call it.ends.called.arguments back_there.answer

        placed_there : IsPlaced u (its_note x site y.longest (run x s d.at) (ended_before x (run x s d.at) (t - d.at)) it.changes it.ends d.called.called.at.pc) (slice_index (run x s (suc t)).cpu.regs ANSWER)
            (user_of (given site it.ends.core it.ends.call).users u).words
        placed_there =
            let count : length it.ends.core.users ≡ length y.boot.users = it.ends.called.at.stands.whole.users in
            call_placed entry_state.cpu.regs (λ r. index_word entry_state.cpu.regs r it.ends.called.at.stands.fits.cpu.regs.each) u (slice_index entry_state.cpu.regs RETURN) (slice_index (run x s (suc t)).cpu.regs ANSWER)
            site.map.params.pages it.ends.core.users it.ends.core.console low (omega (arith, high, count)) it.ends.call it.ends.called.arguments back_there.answer

        call_here : ShowsMore x y s u t j
        call_here = call_step t j (its_note x site y.longest (run x s d.at) (ended_before x (run x s d.at) (t - d.at)) it.changes it.ends d.called.called.at.pc)
            (record it.ends.core { users = (given site it.ends.core it.ends.call).users; console = (given site it.ends.core it.ends.call).console })
            no_begin_here noted_it back_there.pc back_there.stands placed_there
            (subst (λ (l : List JournalEntry). Shown x s y u (suc t) (j ++ l)) entries_are shown_one)

      none_noted : (e : Entered) → None ≡ Some e → ⊥
      none_noted e h = cc

      going_step : 1 ≤ u → u ≤ length y.boot.users → ShowsMore x y s u t j
      going_step low high = by (noted_call x s t) refl
        where
          ended_one : (e : Entered) → noted_call x s t ≡ Some e → (b : Bool) → ((run x s (suc t)).cpu.pc == e.back) ≡ b → ShowsMore x y s u t j
          ended_one e is false b = same_step
              (ap (ends_here (run x s (suc t))) (sym (noted_back x s t) ∙ ap note_back is) ∙ cond-false ((run x s (suc t)).cpu.pc == e.back) 1 0 b)
              (ap (returned (run x s (suc t))) is ∙ cond-false ((run x s (suc t)).cpu.pc == e.back) (Some e) None b)
          ended_one e is true b =
              let one : ends_here (run x s (suc t)) (under_way x s t) ≡ 1 = ap (ends_here (run x s (suc t))) (sym (noted_back x s t) ∙ ap note_back is) ∙ cond-true ((run x s (suc t)).cpu.pc == e.back) 1 0 b in
              ⊎_elim
              (λ (z : Single k c w.beginning.start). let lt = o.begun_is in absurd (user_outside _ z.user (o.inside (suc w.beginning.start) (omega arith) (omega (arith, lt)))))
              (λ (d : Dispatch k c w.beginning.start). ⊎_elim
              (λ (lt : t < d.at). let f = o.begun_is in absurd (none_noted e (sym (noted_none x s t (quiet_there at k c w q d t (omega (arith, f)) (omega (arith, lt))).0) ∙ is)))
              (λ (le : d.at ≤ t). call_here low high d le one)
              (cases_lt t d.at))
              (kind at k c w)

          by : (n : Option Entered) → noted_call x s t ≡ n → ShowsMore x y s u t j
          by None is = same_step (ap (ends_here (run x s (suc t))) (sym (noted_back x s t) ∙ ap note_back is)) (ap (returned (run x s (suc t))) is)
          by (Some e) is = ended_one e is ((run x s (suc t)).cpu.pc == e.back) refl

    -- what is shown is one journal
    one_shown : (t : ℕ) (i j : List JournalEntry) → Shown x s y u t i → Shown x s y u t j → i ≡ j
    one_shown t i j a b =
        let va = known_more y g.meaning lines u a.units b.units (complete x s t) (turn_of x s t) (ended_since x s t) i (as_known t i a) in
        let vb = known_more y g.meaning lines u b.units a.units (complete x s t) (turn_of x s t) (ended_since x s t) j (as_known t j b) in
        let sum : b.units + a.units ≡ a.units + b.units = omega arith in
        let vc : Knows (a.units + b.units) (complete x s t) (turn_of x s t) (ended_since x s t) j = subst (λ n. Knows n (complete x s t) (turn_of x s t) (ended_since x s t) j) sum vb in
        va.is ∙ sym vc.is

    -- any step
    pub grows : 1 ≤ u → u ≤ length y.boot.users → (t : ℕ) (j : List JournalEntry) → (run x s t).off ≡ None → Shown x s y u t j → ShowsMore x y s u t j
    grows low high t j on sh = by (rests (run x s (suc t))) refl
      where
        at_rest : rests (run x s (suc t)) ≡ true → (h : Here t) → under_way x s h.at ≡ None → ShowsMore x y s u t j
        at_rest r h q = ⊎_elim
            (λ (lt : t < h.turn.beginning.start). before_step h.at h.k h.c h.turn q t j h.from lt sh)
            (λ (ge : h.turn.beginning.start ≤ t). ⊎_elim
            (λ (gt : h.turn.beginning.start < t). end_step h.at h.k h.c h.turn q t j (goes_at t h gt) r sh)
            (λ (le : t ≤ h.turn.beginning.start). at_start h q t (omega (arith, ge, le)) sh)
            (cases_lt h.turn.beginning.start t))
            (cases_lt t h.turn.beginning.start)
          where
            at_start : (h : Here t) → under_way x s h.at ≡ None → (t2 : ℕ) → t2 ≡ h.turn.beginning.start → Shown x s y u t2 j → ShowsMore x y s u t2 j
            at_start h q t2 e w = subst (λ i. ShowsMore x y s u i j) (sym e) (start_step h.at h.k h.c h.turn q j (subst (λ i. Shown x s y u i j) e w))

        inside_on : (h : Here (suc t)) → under_way x s h.at ≡ None → h.at ≤ t → ShowsMore x y s u t j
        inside_on h q from = ⊎_elim
            (λ (lt : t < h.turn.beginning.start). before_step h.at h.k h.c h.turn q t j from lt sh)
            (λ (ge : h.turn.beginning.start ≤ t). ⊎_elim
            (λ (gt : h.turn.beginning.start < t). going_step h.at h.k h.c h.turn q t j (record { begun_is = gt; inside = λ i a b. h.inside i a (omega (arith, b)) }) (record { begun_is = omega (arith, gt); inside = h.inside }) sh low high)
            (λ (le : t ≤ h.turn.beginning.start). at_start h q t (omega (arith, ge, le)) sh)
            (cases_lt h.turn.beginning.start t))
            (cases_lt t h.turn.beginning.start)
          where
            at_start : (h : Here (suc t)) → under_way x s h.at ≡ None → (t2 : ℕ) → t2 ≡ h.turn.beginning.start → Shown x s y u t2 j → ShowsMore x y s u t2 j
            at_start h q t2 e w = subst (λ i. ShowsMore x y s u i j) (sym e) (start_step h.at h.k h.c h.turn q j (subst (λ i. Shown x s y u i j) e w))

        early : rests (run x s (suc t)) ≡ false → (h : Here (suc t)) → h.at ≤ t
        early r h = ⊎_elim (λ (lt : t < h.at). let f = h.from in absurd (too_late h.at h.k h.c (omega (arith, lt, f)) h.turn.stood)) (λ (le : h.at ≤ t). le) (cases_lt t h.at)
          where
            too_late : (at k : ℕ) (c : Cvm) → at ≡ suc t → Stood x y s k at c → ⊥
            too_late at zero c e st = let z : at ≡ 0 = st.rests in omega (arith, e, z)
            too_late at (suc k) c e st = true_false _ (subst (λ i. rests (run x s i) ≡ true) e (stood_rests x y s k at c st)) r

        by : (r : Bool) → rests (run x s (suc t)) ≡ r → ShowsMore x y s u t j
        by true r = let h = here t on in at_rest r h (quiet_at t t (omega arith) h)
        by false r = let h = here (suc t) (not_rests_on _ r) in inside_on h (quiet_at (suc t) (suc t) (omega arith) h) (early r h)

    -- a step that has rows completes no turn
    busy : (t : ℕ) → (run x s t).off ≡ None → HasRows (run x s (suc t)) (noted_call x s t) (begins_turn x (run x s t)) → rests (run x s (suc t)) ≡ false
    busy t on rows = by (rests (run x s (suc t))) refl
      where
        none_there : begins_turn x (run x s t) ≡ false → noted_call x s t ≡ None → ⊥
        none_there b n = true_false false (subst₂ (HasRows (run x s (suc t))) n b rows) refl

        dispatched : begins_turn x (run x s t) ≡ true → (note (run x s (suc t))).dispatched ≡ true
        dispatched b = let h : HasRows (run x s (suc t)) (noted_call x s t) true = subst (HasRows (run x s (suc t)) (noted_call x s t)) b rows in h

        at_begin : (h : Here t) → t ≡ h.turn.beginning.start → rests (run x s (suc t)) ≡ true → ⊥
        at_begin h e r = ⊎_elim
            (λ (z : Single h.k h.c h.turn.beginning.start).
            let user : in_user (run x s (suc t)) ≡ true = subst (λ i. in_user (run x s (suc i)) ≡ true) (sym e) (both_right (is_on (run x s (suc h.turn.beginning.start))) (in_user (run x s (suc h.turn.beginning.start))) z.user) in
            let begun : begins_turn x (run x s t) ≡ true = subst (λ i. begins_turn x (run x s i) ≡ true) (sym e) h.turn.beginning.begin_here in
            true_false _ (dispatched begun) (ap not user))
            (λ (d : Dispatch h.k h.c h.turn.beginning.start). let f = d.from in not_inside (suc t) r (d.inside (suc t) (omega (arith, e)) (omega (arith, e, f))))
            (kind h.at h.k h.c h.turn)

        resting : (h : Here t) → under_way x s h.at ≡ None → rests (run x s (suc t)) ≡ true → ⊥
        resting h q r = ⊎_elim
            (λ (lt : t < h.turn.beginning.start). none_there (h.turn.beginning.none t h.from lt) (noted_none x s t (calm h.at h.k h.c h.turn q t h.from (omega (arith, lt))).0))
            (λ (ge : h.turn.beginning.start ≤ t). ⊎_elim
            (λ (gt : h.turn.beginning.start < t).
            let o = goes_at t h gt in
            none_there (inside_begins x _ (o.inside t gt (omega arith))) (noted_none x s t (over h.at h.k h.c h.turn q t o r (cvm_closes h.at h.k h.c h.turn t o r)).under))
            (λ (le : t ≤ h.turn.beginning.start). at_begin h (omega (arith, ge, le)) r)
            (cases_lt h.turn.beginning.start t))
            (cases_lt t h.turn.beginning.start)

        by : (r : Bool) → rests (run x s (suc t)) ≡ r → r ≡ false
        by true r = let h = here t on in absurd (resting h (quiet_at t t (omega arith) h) r)
        by false r = refl

    pub trace_grows : 1 ≤ u → u ≤ length y.boot.users → TraceGrows x y s u
    trace_grows low high = record {
      one = one_shown;
      none = record { units = 0; past = first_cvm y; cvm = refl; enough = λ lt. absurd (omega (arith, lt)); is = refl };
      more = grows low high;
      busy = busy;
    }
