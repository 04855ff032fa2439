-- The whole run from a start, both ways: where the CVM run is defined the machine comes there, and the machine is never anywhere else.
use Rattle.std.proofs.Common.{◌≡◌, ◌≢◌, ◌⊎◌, inl, inr, ℕ, zero, suc, ◌+◌, ◌-◌, ◌<◌, ◌≤◌, Bool, true, false, not, Option, Some, None, refl, sym, ap, ap₂, ◌∙◌, subst, ⊎_elim, arith, eq-eqb, eqb-true, ne_eqb, List}
use Rattle.std.specs.Prelude.{◌==◌, ◌||◌, is_some}
use Rattle.std.proofs.lemmas.Bool.{cases_lt, eqb-false}
use Rattle.mips_table.specs.Device.{Environment, sector_of}
use Rattle.mips_table.specs.Machine.{State, run}
use Rattle.mips_table.specs.Turns.{begins_turn, is_on, turn_of, complete, lines_of_turn, is_end, IsTurnEnd, faults_before, TurnLaws}
use Rattle.c0_meaning.specs.State.{C0State}
use Rattle.cvm_model.specs.Kernel.{power_of}
use Rattle.cvm_model.specs.Cvm.{System, Status, Running, Halted, Faulted, Cvm, turn_by, turn, cvm, IsCvm, first_cvm}
use Rattle.layer_contract.specs.Layer.{Inside, Rests}
use Rattle.layer_contract.specs.Starts.{Beyond}
use Rattle.boot_turns.specs.Torn.{Torn}
use Rattle.boot_turns.specs.TurnEnds.{Stood, RestsAfter, TurnIsOver}
use Rattle.boot_turns.specs.Ahead.{TurnAhead}
use Rattle.boot_turns.specs.RunMachines.{RunIsDefined, TwoFaults}
use Rattle.boot_turns.specs.GoesOn.{GoesOnWithin}
use Rattle.boot_turns.proofs.MasksAndTimes.{off_stays, off_rests, off_begins, off_handled, inside_handled, inside_begins, both_left, on_of}
use Rattle.boot_turns.proofs.LinesOfTurns.{turn_same, turn_more, turn_grows, completes, faults_grow, faults_stay}
use Rattle.boot_turns.proofs.TornSectors.{torn_past}
use Rattle.boot_turns.proofs.MoreUnits.{one_cvm, turn_more_units}
use Rattle.boot_turns.proofs.TurnGoesOn.{Given, Beginning, Keeps, Turns, Waits, turn_ahead, on_back}

-- after power off nothing changes
pub record OffOn (x : Environment) (s : State) (k v u : ℕ) : Type 0 where
  pub off : (run x s u).off ≡ Some v
  pub turn : turn_of x s u ≡ k
  pub all : complete x s u ≡ k

pub off_on : (x : Environment) (s : State) (k v t u : ℕ) → t ≤ u → OffOn x s k v t → OffOn x s k v u
off_on x s k v t zero le o = let d : t ≡ 0 = omega arith in subst (OffOn x s k v) d o
off_on x s k v t (suc u) le o = ⊎_elim
    (λ (lt : t < suc u).
    let r = off_on x s k v t u (omega arith) o in
    let o2 : (run x s (suc u)).off ≡ Some v = ap (λ (w : State). w.off) (off_stays x (run x s u) v r.off) ∙ r.off in
    let a2 : turn_of x s (suc u) ≡ k = turn_same x s u (off_begins x _ v r.off) ∙ r.turn in
    record { off = o2; turn = a2; all = completes x s u (off_rests _ v o2) ∙ a2 })
    (λ (ge : suc u ≤ t). let d : t ≡ suc u = omega arith in subst (OffOn x s k v) d o)
    (cases_lt t (suc u))

some_none : (p : Cvm) → None ≡ Some p → ⊥
some_none p e = cc

some_same : (a b : Cvm) → Some a ≡ Some b → a ≡ b
some_same a b h = cc

true_false : (b : Bool) → b ≡ true → b ≡ false → ⊥
true_false b e f = cc

module _ (x : Environment) (y : System) (s : State) (late held : ℕ) (Typed : C0State → Type 0) (g : Given x y s late held Typed) where
  abbrev more : ℕ
  more = late - 1

  abbrev lines : ℕ → ℕ
  lines = lines_of_turn x s

  -- the machine has come to where the CVM run is after k turns
  pub record Reached (k t : ℕ) (c : Cvm) : Type 0 where
    pub count : ℕ
    pub most : count ≤ k
    pub stood : Stood x y s count t c
    pub typed : Typed c.core.c0
    pub same : c.status ≡ Running → count ≡ k
    pub soon : t ≤ c.bound + more
    pub before : (j : ℕ) → j < t → complete x s j < count
    pub on : (j : ℕ) → j < t → (run x s j).off ≡ None

  stood_first : Stood x y s 0 0 (first_cvm y)
  stood_first = record { cvm = record { units = 0; is = refl }; turn = refl; all = refl; rests = refl }

  first_is : (c : Cvm) → IsCvm y lines 0 c → c ≡ first_cvm y
  first_is c i = one_cvm y g.meaning lines 0 c (first_cvm y) i (record { units = 0; is = refl })

  -- a run that has ended is off
  pub ended_off : (k t : ℕ) (c : Cvm) → Stood x y s k t c → c.status ≢ Running → (v : ℕ) × ((run x s t).off ≡ Some v)
  ended_off zero t c st stopped = absurd (stopped (ap (λ (w : Cvm). w.status) (first_is c st.cvm)))
  ended_off (suc k) t c st stopped = by c.status refl st.rests.0
    where
      by : (b : Status) → c.status ≡ b → Rests b (run x s t) → (v : ℕ) × ((run x s t).off ≡ Some v)
      by Running e r = absurd (stopped e)
      by Halted e r = (0, r)
      by (Faulted f) e r = (power_of f, r)

  -- where the CVM run is defined, the machine comes there
  pub forward : (n k : ℕ) (c : Cvm) → cvm y lines n k ≡ Some c → (t : ℕ) × Reached k t c
  forward n zero c h =
      let d : c ≡ first_cvm y = first_is c (record { units = n; is = h }) in (
        0,
        record {
          count = 0;
          most = omega arith;
          stood = subst (Stood x y s 0 0) (sym d) stood_first;
          typed = subst (λ (w : Cvm). Typed w.core.c0) (sym d) g.typed.starts;
          same = λ r. refl;
          soon = omega arith;
          before = λ j a. absurd (omega arith);
          on = λ j a. absurd (omega arith);
        },
      )
  forward n (suc k) c h = by (cvm y lines n k) refl (forward n k)
    where
      stopped : (q : Cvm) (t : ℕ) → Reached k t q → q ≡ c → q.status ≢ Running → (t : ℕ) × Reached (suc k) t c
      stopped q t r d not_running = (
        t,
        record {
          count = r.count;
          most = let m = r.most in omega (arith, m);
          stood = subst (Stood x y s r.count t) d r.stood;
          typed = subst (λ (w : Cvm). Typed w.core.c0) d r.typed;
          same = λ a. absurd (not_running (ap (λ (w : Cvm). w.status) d ∙ a));
          soon = subst (λ (w : Cvm). t ≤ w.bound + more) d r.soon;
          before = r.before;
          on = r.on;
        },
      )

      goes : (q : Cvm) (t : ℕ) → turn_by y n k (lines k) q Running ≡ Some c → (r : Reached k t q) → Stood x y s k t q → r.count ≡ k → Turns x y s Typed late held k t q ⊎ Waits x y s late held k t n q → (t : ℕ) × Reached (suc k) t c
      goes q t h2 r st same (inl w) =
          let a = w.ahead in
          let d : a.after ≡ c = one_cvm y g.meaning lines (suc k) a.after c a.stood.cvm (record { units = n; is = h }) in (
            a.end,
            record {
              count = suc k;
              most = omega arith;
              stood = subst (Stood x y s (suc k) a.end) d a.stood;
              typed = subst (λ (w : Cvm). Typed w.core.c0) d w.typed;
              same = λ w. refl;
              soon = subst (λ (q : Cvm). a.end ≤ q.bound + more) d (w.within r.soon);
              before = λ j b. ⊎_elim
                  (λ (lt : j < t). let e = r.before j lt in omega (arith, e, same))
                  (λ (ge : t ≤ j). let e = a.between j ge b in omega (arith, e))
                  (cases_lt j t);
              on = a.on;
            },
          )
      goes q t h2 r st same (inr b) =
          let m : n ≤ b.units = b.many in
          let d : n + (b.units - n) ≡ b.units = omega (arith, m) in
          let some : turn_by y (n + (b.units - n)) k (lines k) q Running ≡ Some c = turn_more_units y g.meaning n (b.units - n) k (lines k) q c Running h2 in
          absurd (some_none c (sym b.undefined ∙ subst (λ i. turn_by y i k (lines k) q Running ≡ Some c) d some))

      by_status : (q : Cvm) (t : ℕ) → turn_by y n k (lines k) q q.status ≡ Some c → Reached k t q → (b : Status) → q.status ≡ b → (t : ℕ) × Reached (suc k) t c
      by_status q t h2 r Halted e = stopped q t r (some_same q c (sym (ap (turn_by y n k (lines k) q) e) ∙ h2)) (λ w. absurd (let f : Halted ≡ Running = sym e ∙ w in cc))
      by_status q t h2 r (Faulted f) e = stopped q t r (some_same q c (sym (ap (turn_by y n k (lines k) q) e) ∙ h2)) (λ w. absurd (let d : Faulted f ≡ Running = sym e ∙ w in cc))
      by_status q t h2 r Running e =
          let same : r.count ≡ k = r.same e in
          let st : Stood x y s k t q = subst (λ i. Stood x y s i t q) same r.stood in
          goes q t (sym (ap (turn_by y n k (lines k) q) e) ∙ h2) r st same (turn_ahead x y s late held Typed g k t n q st e r.typed)

      by : (o : Option Cvm) → cvm y lines n k ≡ o → ((q : Cvm) → cvm y lines n k ≡ Some q → (t : ℕ) × Reached k t q) → (t : ℕ) × Reached (suc k) t c
      by (Some q) e rec = let r = rec q e in by_status q r.0 (sym (ap (turn y n k (lines k)) e) ∙ h) r.1 q.status refl
      by None e rec = absurd (some_none c (sym (ap (turn y n k (lines k)) e) ∙ h))

  end_at : (k t : ℕ) → complete x s t ≡ k → is_end x s k t ≡ true
  end_at k t e = ap (λ b. b || not (is_on (run x s t))) (eq-eqb (complete x s t) k e)

  or_true : (b : Bool) → (b || true) ≡ true
  or_true true = refl
  or_true false = refl

  end_off : (k t v : ℕ) → (run x s t).off ≡ Some v → is_end x s k t ≡ true
  end_off k t v e = ap (λ o. (complete x s t == k) || not (not (is_some o))) e ∙ or_true _

  no_end : (k t : ℕ) → complete x s t ≢ k → (run x s t).off ≡ None → is_end x s k t ≡ false
  no_end k t e o = ap₂ (λ (b : Bool) (o : Option ℕ). b || not (not (is_some o))) (ne_eqb (complete x s t) k e) o

  reached_end : (k t : ℕ) (c : Cvm) → Reached k t c → IsTurnEnd x s k t
  reached_end k t c r = record {
    here = ⊎_elim
        (λ (lt : r.count < k). let o = ended_off r.count t c r.stood (λ w. absurd (let e = r.same w in omega (arith, lt, e))) in end_off k t o.0 o.1)
        (λ (ge : k ≤ r.count). let m = r.most in let d : r.count ≡ k = omega (arith, m) in end_at k t (r.stood.all ∙ d))
        (cases_lt r.count k);
    first = λ j l. let b = r.before j l in let m = r.most in no_end k j (λ e. absurd (omega (arith, b, m, e))) (r.on j l);
  }

  pub goes_on : GoesOnWithin x y s more
  goes_on k c i = let r = forward i.units k c i.is in (r.0, reached_end k r.0 c r.1, r.1.soon)

  -- the turn that goes on at step t, or none
  pub record Going (count at t : ℕ) (past : Cvm) : Type 0 where
    pub beginning : Beginning x y s more held count at past
    pub inside : (j : ℕ) → beginning.start < j → j ≤ t → Inside (run x s j)

  -- the last completion at or before t
  pub record Covered (t : ℕ) : Type 0 where
    pub at : ℕ
    pub count : ℕ
    pub past : Cvm
    pub from : at ≤ t
    pub stood : Stood x y s count at past
    pub between : (j : ℕ) → at ≤ j → j ≤ t → complete x s j ≡ count
    pub before : (j : ℕ) → j < at → complete x s j < count
    pub keeps : (j : ℕ) → j < t → Keeps x held s j
    pub then : ((v : ℕ) × OffOn x s count v at) ⊎ Going count at t past

  keeps_off : (j v : ℕ) → (run x s j).off ≡ Some v → Keeps x held s j
  keeps_off j v e = record { sectors = λ q le. ap (λ (z : State). sector_of z.device.sectors q) (off_stays x (run x s j) v e); named = λ on. absurd (let d : Some v ≡ None = sym e ∙ on in cc) }

  covered_off : (t from k : ℕ) (c : Cvm) → from ≤ t → Stood x y s k from c → ((j : ℕ) → j < from → complete x s j < k) → ((j : ℕ) → j < from → Keeps x held s j) → (v : ℕ) → (run x s from).off ≡ Some v → Covered t
  covered_off t from k c le st before keeps v o =
      let off : OffOn x s k v from = record { off = o; turn = st.turn; all = st.all } in
      record {
        at = from;
        count = k;
        past = c;
        from = le;
        stood = st;
        between = λ j a b. (off_on x s k v from j a off).all;
        before = before;
        keeps = λ j h. ⊎_elim (λ (lt : j < from). keeps j lt) (λ (ge : from ≤ j). keeps_off j v (off_on x s k v from j ge off).off) (cases_lt j from);
        then = inl (v, off);
      }

  covered_by : (t from k : ℕ) (c : Cvm) → from ≤ t → Stood x y s k from c → ((j : ℕ) → j < from → complete x s j < k) → ((j : ℕ) → j < from → Keeps x held s j) → (w : Turns x y s Typed late held k from c) → t < w.ahead.end → Covered t
  covered_by t from k c le st before keeps w lt =
      let a = w.ahead in
      record {
        at = from;
        count = k;
        past = c;
        from = le;
        stood = st;
        between = λ j d f. a.between j d (omega (arith, f, lt));
        before = before;
        keeps = λ j f. ⊎_elim (λ (l : j < from). keeps j l) (λ (ge : from ≤ j). w.keeps j ge (omega (arith, f, lt))) (cases_lt j from);
        then = inr (record { beginning = w.beginning; inside = λ j d f. w.inside j d (omega (arith, f, lt)) });
      }

  covered_wait : (t from k : ℕ) (c : Cvm) → from ≤ t → Stood x y s k from c → ((j : ℕ) → j < from → complete x s j < k) → ((j : ℕ) → j < from → Keeps x held s j) → Waits x y s late held k from t c → Covered t
  covered_wait t from k c le st before keeps b = record {
    at = from;
    count = k;
    past = c;
    from = le;
    stood = st;
    between = b.between;
    before = before;
    keeps = λ j f. ⊎_elim (λ (lt : j < from). keeps j lt) (λ (ge : from ≤ j). b.keeps j ge f) (cases_lt j from);
    then = inr (record { beginning = b.beginning; inside = b.inside });
  }

  -- the machine is never anywhere else
  cover : (t fuel from k : ℕ) (c : Cvm) → t ≤ from + fuel → from ≤ t → Stood x y s k from c → Typed c.core.c0 → ((j : ℕ) → j < from → complete x s j < k) → ((j : ℕ) → j < from → Keeps x held s j) → Covered t
  cover t zero from k c h le st typed before keeps = by c.status refl
    where
      by : (b : Status) → c.status ≡ b → Covered t
      by Halted e = let o = ended_off k from c st (λ w. absurd (let f : Halted ≡ Running = sym e ∙ w in cc)) in covered_off t from k c le st before keeps o.0 o.1
      by (Faulted f) e = let o = ended_off k from c st (λ w. absurd (let d : Faulted f ≡ Running = sym e ∙ w in cc)) in covered_off t from k c le st before keeps o.0 o.1
      by Running e = ⊎_elim
          (λ (w : Turns x y s Typed late held k from c). let fr = w.ahead.from in let to = w.ahead.to in covered_by t from k c le st before keeps w (omega (arith, h, fr, to)))
          (λ (b : Waits x y s late held k from t c). covered_wait t from k c le st before keeps b)
          (turn_ahead x y s late held Typed g k from t c st e typed)
  cover t (suc fuel) from k c h le st typed before keeps = by c.status refl (cover t fuel)
    where
      by : (b : Status) → c.status ≡ b → ((from k : ℕ) (c : Cvm) → t ≤ from + fuel → from ≤ t → Stood x y s k from c → Typed c.core.c0 → ((j : ℕ) → j < from → complete x s j < k) → ((j : ℕ) → j < from → Keeps x held s j) → Covered t) → Covered t
      by Halted e rec = let o = ended_off k from c st (λ w. absurd (let f : Halted ≡ Running = sym e ∙ w in cc)) in covered_off t from k c le st before keeps o.0 o.1
      by (Faulted f) e rec = let o = ended_off k from c st (λ w. absurd (let d : Faulted f ≡ Running = sym e ∙ w in cc)) in covered_off t from k c le st before keeps o.0 o.1
      by Running e rec = ⊎_elim
          (λ (w : Turns x y s Typed late held k from c).
          let a = w.ahead in
          let fr = a.from in
          let to = a.to in
          ⊎_elim
          (λ (lt : t < a.end). covered_by t from k c le st before keeps w lt)
          (λ (ge : a.end ≤ t). rec a.end (suc k) a.after (omega (arith, h, fr, to)) ge a.stood w.typed
          (λ j l. ⊎_elim (λ (lt : j < from). let d = before j lt in omega (arith, d)) (λ (up : from ≤ j). let d = a.between j up l in omega (arith, d)) (cases_lt j from))
          (λ j l. ⊎_elim (λ (lt : j < from). keeps j lt) (λ (up : from ≤ j). w.keeps j up l) (cases_lt j from)))
          (cases_lt t a.end))
          (λ (b : Waits x y s late held k from t c). covered_wait t from k c le st before keeps b)
          (turn_ahead x y s late held Typed g k from t c st e typed)

  pub covered : (t : ℕ) → Covered t
  covered t = cover t t 0 0 (first_cvm y) (omega arith) (omega arith) stood_first g.typed.starts (λ j a. absurd (omega arith)) (λ j a. absurd (omega arith))

  -- the CVM run is defined for the turns that are complete
  pub defined : RunIsDefined x y s
  defined t = let d = covered t in (d.past, subst (λ k. IsCvm y lines k d.past) (sym (d.between t d.from (omega arith))) d.stood.cvm)

  -- a run that goes on at a step is on there
  going_on : (count at t : ℕ) (c : Cvm) → Going count at t c → (run x s t).off ≡ None
  going_on count at t c w = ⊎_elim
      (λ (lt : w.beginning.start < t). (w.inside t lt (omega arith)).on)
      (λ (ge : t ≤ w.beginning.start). on_back x s t w.beginning.start ge w.beginning.on)
      (cases_lt w.beginning.start t)

  none_off : (v : ℕ) (o : Option ℕ) → o ≡ Some v → o ≡ None → ⊥
  none_off v o a b = cc

  -- the first end is where the last turn was completed
  end_covered : (k t : ℕ) → is_end x s k t ≡ true → (d : Covered t) → is_end x s k d.at ≡ true
  end_covered k t here d = by (complete x s t == k) refl (run x s t).off refl
    where
      by : (b : Bool) → (complete x s t == k) ≡ b → (o : Option ℕ) → (run x s t).off ≡ o → is_end x s k d.at ≡ true
      by true e o off =
          let all : complete x s t ≡ k = eqb-true (complete x s t) k e in
          end_at k d.at (d.between d.at (omega arith) d.from ∙ sym (d.between t d.from (omega arith)) ∙ all)
      by false e None on = absurd (true_false (is_end x s k t) here (no_end k t (eqb-false (complete x s t) k e) on))
      by false e (Some v) off = ⊎_elim
          (λ (o : (v : ℕ) × OffOn x s d.count v d.at). end_off k d.at o.0 o.1.off)
          (λ (w : Going d.count d.at t d.past). absurd (none_off v _ off (going_on d.count d.at t d.past w)))
          d.then

  -- there the machine stands
  stood_end : (k t : ℕ) → IsTurnEnd x s k t → (c : Cvm) × Stood x y s (complete x s t) t c
  stood_end k t e =
      let d = covered t in
      let from : d.at ≤ t = d.from in
      let here : d.at ≡ t = ⊎_elim
      (λ (lt : d.at < t). absurd (true_false (is_end x s k d.at) (end_covered k t e.here d) (e.first d.at lt)))
      (λ (ge : t ≤ d.at). omega (arith, from))
      (cases_lt d.at t) in
      (d.past, subst (λ n. Stood x y s n t d.past) (sym (d.between t d.from (omega arith))) (subst (λ at. Stood x y s d.count at d.past) here d.stood))

  rests_on : (n t : ℕ) (c : Cvm) → RestsAfter x y s n t c → c.status ≡ Running → (run x s t).off ≡ None
  rests_on zero t c e running = subst (λ i. (run x s i).off ≡ None) (sym e) g.started.on
  rests_on (suc n) t c r running = on_of (run x s t) (both_left _ _ (subst (λ b. Rests b (run x s t)) running r.0))

  -- a step completes at most one turn
  same_turns : (a b : ℕ) → a ≤ b → ((i : ℕ) → a ≤ i → i < b → begins_turn x (run x s i) ≡ false) → turn_of x s b ≡ turn_of x s a
  same_turns a zero le none = let e : a ≡ 0 = omega arith in ap (turn_of x s) (sym e)
  same_turns a (suc b) le none = ⊎_elim
      (λ (lt : a < suc b). turn_same x s b (none b (omega arith) (omega arith)) ∙ same_turns a b (omega arith) (λ i l h. none i l (omega arith)))
      (λ (ge : suc b ≤ a). let e : a ≡ suc b = omega arith in ap (turn_of x s) (sym e))
      (cases_lt a (suc b))

  begun_few : (count at j : ℕ) (c : Cvm) → Going count at j c → turn_of x s (suc j) ≤ suc count
  begun_few count at j c w =
      let b = w.beginning in
      let turn : turn_of x s b.start ≡ count = b.turn in
      ⊎_elim
      (λ (lt : j < b.start). let g = turn_grows x s (suc j) b.start (omega arith) in omega (arith, g, turn))
      (λ (ge : b.start ≤ j).
      let m : turn_of x s (suc b.start) ≡ suc (turn_of x s b.start) = turn_more x s b.start b.begin_here in
      let e : turn_of x s (suc j) ≡ turn_of x s (suc b.start) = same_turns (suc b.start) (suc j) (omega arith) (λ i l h. inside_begins x (run x s i) (w.inside i l (omega arith))) in
      omega (arith, m, e, turn))
      (cases_lt j b.start)

  one_turn : TurnLaws → (j : ℕ) → complete x s (suc j) ≤ suc (complete x s j)
  one_turn counts j =
      let d = covered j in
      let same : complete x s j ≡ d.count = d.between j d.from (omega arith) in
      ⊎_elim
      (λ (o : (v : ℕ) × OffOn x s d.count v d.at). let e = (off_on x s d.count o.0 d.at (suc j) (let f = d.from in omega (arith, f)) o.1).all in omega (arith, e, same))
      (λ (w : Going d.count d.at j d.past). let few = begun_few d.count d.at j d.past w in let begun = counts.begun x s (suc j) in omega (arith, few, begun, same))
      d.then

  below : TurnLaws → (k j : ℕ) → ((i : ℕ) → i ≤ j → complete x s i ≢ k) → complete x s j < k
  below counts k zero other = some k (other 0 (omega arith))
    where
      some : (k : ℕ) → 0 ≢ k → 0 < k
      some zero h = absurd (h refl)
      some (suc k) h = omega arith
  below counts k (suc j) other =
      let before = below counts k j (λ i le. other i (omega arith)) in
      let one = one_turn counts j in
      less (complete x s (suc j)) k (other (suc j) (omega arith)) (omega (arith, before, one))
    where
      less : (a k : ℕ) → a ≢ k → a ≤ k → a < k
      less a k h le = ⊎_elim (λ (lt : a < k). lt) (λ (ge : k ≤ a). absurd (h (omega arith))) (cases_lt a k)

  few_turns : TurnLaws → (k t : ℕ) → IsTurnEnd x s k t → complete x s t ≤ k
  few_turns counts k zero e = omega arith
  few_turns counts k (suc t) e =
      let lt = below counts k t (λ i le all. true_false (is_end x s k i) (end_at k i all) (e.first i (omega arith))) in
      let one = one_turn counts t in omega (arith, lt, one)

  -- so the run is over there
  pub is_over : TurnLaws → (k t : ℕ) → IsTurnEnd x s k t → (c : Cvm) → IsCvm y lines (complete x s t) c → TurnIsOver x y s k t c
  is_over counts k t e c is =
      let w = stood_end k t e in
      let same : w.0 ≡ c = one_cvm y g.meaning lines (complete x s t) w.0 c w.1.cvm is in
      let rests : RestsAfter x y s (complete x s t) t c = subst (RestsAfter x y s (complete x s t) t) same w.1.rests in
      record { few = few_turns counts k t e; over = by rests (complete x s t == k) refl; rests = rests }
    where
      by : RestsAfter x y s (complete x s t) t c → (b : Bool) → (complete x s t == k) ≡ b → (complete x s t ≡ k) ⊎ (c.status ≢ Running)
      by rests true same = inl (eqb-true (complete x s t) k same)
      by rests false other = inr (λ running. true_false (is_end x s k t) e.here (no_end k t (eqb-false (complete x s t) k other) (rests_on (complete x s t) t c rests running)))

  -- the sectors from `held` on are as at the start
  pub beyond : (t : ℕ) → Beyond held s.device.sectors (run x s t).device.sectors
  beyond zero q le = refl
  beyond (suc t) q le = ((covered (suc t)).keeps t (omega arith)).sectors q le ∙ beyond t q le

  -- and so they are where the transfer of a step's command failed
  pub torn : (t : ℕ) (now : List (List ℕ)) → (run x s t).off ≡ None → Torn x (run x s t) now → Beyond held s.device.sectors now
  torn t now on h q le = torn_past x held (run x s t) now (((covered (suc t)).keeps t (omega arith)).named on) h q le ∙ beyond t q le

  few_from : (a b : ℕ) (d : Covered b) → d.at ≤ a → a ≤ b → ((j : ℕ) → a ≤ j → j < b → begins_turn x (run x s j) ≡ false) → faults_before x s b ≤ faults_before x s a + 2
  few_from a b d up le none = ⊎_elim
      (λ (o : (v : ℕ) × OffOn x s d.count v d.at).
      let e = faults_stay x s a b le (λ j f h. off_handled x _ o.0 (off_on x s d.count o.0 d.at j (omega (arith, up, f)) o.1).off) in omega (arith, e))
      (λ (g : Going d.count d.at b d.past).
      let w = g.beginning in
      let few = w.few in
      let more = faults_grow x s d.at a up in
      ⊎_elim
      (λ (lt : w.start < b).
      ⊎_elim
      (λ (early : w.start < a). let e = faults_stay x s a b le (λ j f h. inside_handled x _ (g.inside j (omega (arith, early, f)) (omega (arith, h)))) in omega (arith, e))
      (λ (late : a ≤ w.start). absurd (true_false _ w.begin_here (none w.start late lt)))
      (cases_lt w.start a))
      (λ (ge : b ≤ w.start). let e = faults_grow x s b w.start ge in omega (arith, e, few, more))
      (cases_lt w.start b))
      d.then

  pub two_faults : TwoFaults x s
  two_faults k a b ea eb le none =
      let d = covered b in
      let same : complete x s b ≡ d.count = d.between b d.from (omega arith) in
      ⊎_elim
      (λ (lt : a < d.at). let e = d.before a lt in absurd (omega (arith, e, same, ea, eb)))
      (λ (ge : d.at ≤ a). few_from a b d ge le none)
      (cases_lt a d.at)

  -- a turn that is defined isn't stuck
  stuck_not : (k t : ℕ) (c e : Cvm) → Stood x y s k t c → c.status ≡ Running → (i : IsCvm y lines (suc k) e) → Waits x y s late held k t i.units c → ⊥
  stuck_not k t c e st running i b = by (cvm y lines i.units k) refl
    where
      by : (o : Option Cvm) → cvm y lines i.units k ≡ o → ⊥
      by None eq = some_none e (sym (ap (turn y i.units k (lines k)) eq) ∙ i.is)
      by (Some q) eq =
          let d : q ≡ c = one_cvm y g.meaning lines k q c (record { units = i.units; is = eq }) st.cvm in
          let h : turn_by y i.units k (lines k) q q.status ≡ Some e = sym (ap (turn y i.units k (lines k)) eq) ∙ i.is in
          let h2 : turn_by y i.units k (lines k) c c.status ≡ Some e = subst (λ (w : Cvm). turn_by y i.units k (lines k) w w.status ≡ Some e) d h in
          let h3 : turn_by y i.units k (lines k) c Running ≡ Some e = sym (ap (turn_by y i.units k (lines k) c) running) ∙ h2 in
          let m : i.units ≤ b.units = b.many in
          let u : i.units + (b.units - i.units) ≡ b.units = omega (arith, m) in
          let some : turn_by y (i.units + (b.units - i.units)) k (lines k) c Running ≡ Some e = turn_more_units y g.meaning i.units (b.units - i.units) k (lines k) c e Running h3 in
          some_none e (sym b.undefined ∙ subst (λ n. turn_by y n k (lines k) c Running ≡ Some e) u some)

  pub ahead : (k t : ℕ) (c e : Cvm) → Stood x y s k t c → c.status ≡ Running → IsCvm y lines (suc k) e → TurnAhead x y s k t c
  ahead k t c e st running i =
      let typed : Typed c.core.c0 = (forward st.cvm.units k c st.cvm.is).1.typed in
      ⊎_elim (λ (w : Turns x y s Typed late held k t c). w.ahead) (λ (b : Waits x y s late held k t i.units c). absurd (stuck_not k t c e st running i b)) (turn_ahead x y s late held Typed g k t i.units c st running typed)
