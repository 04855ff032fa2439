-- A run of C0's meaning beside the host's, step by step: own steps by the code's law, and primitives by what the host passes.
use Rattle.std.specs.Prelude.{nat_lt, if◌then◌else◌}
use Rattle.std.proofs.Common.{◌≡◌, ◌⊎◌, inl, inr, ℕ, zero, suc, ◌+◌, ◌*◌, ◌<◌, ◌≤◌, Bool, true, false, List, [], ◌∷◌, ◌++◌, refl, sym, ap, subst, arith, ltb-true}
use Rattle.std.proofs.lemmas.Bool.{ltb-false}
use Rattle.mips_table.specs.Code.{Contents, Behind, CodeState}
use Rattle.c0_meaning.specs.Operators.{faulted, stuck}
use Rattle.c0_meaning.specs.World.{Cost, units, total, plus, Configuration, call_cost}
use Rattle.c0_meaning.specs.Running.{Work, Step, Go, Stop, work_step}
use Rattle.c0_meaning.specs.Execution.{Outcome, Failed, NotYet, then_run, execute, run_within}
use Rattle.c0_runs.specs.Setup.{Setup}
use Rattle.c0_runs.specs.Standing.{CostsSome, Simulated, IsGone, IsCalling, StepIs, StepsRun, StepsCostSome}
use Rattle.c0_runs.specs.Runs.{Price, price_of, Hosts, Moment, RunTo}
use Rattle.c0_runs.proofs.CallsStay.{Extends, Grows, acts, none_ended}

-- the prices of two costs
price_sum : (r : Price) (a b c d : ℕ) → r.unit * (a + b) + r.page * (c + d) ≡ r.unit * a + r.page * c + (r.unit * b + r.page * d)
price_sum r a b c d = sums r.unit r.page a b c d
  where
    sums : (p q a b c d : ℕ) → p * (a + b) + q * (c + d) ≡ p * a + q * c + (p * b + q * d)
    sums p q a b c d = grind arith

module _ (W E : Type 0) (Outer : W → Contents → Behind → Type 0) (Here : ℕ → CodeState → Type 0) (Told : ℕ → W → List (List E) → Type 0)
    (z : Setup W E Outer) (price : Price) (host : Hosts W E Outer Here Told z price)
    (each : StepsRun W E Outer) (fine : StepsCostSome W E Outer) (base : ℕ) where
  abbrev H : Type 0
  H = Configuration W E

  abbrev Sim : ℕ → List Work → H → CodeState → Type 0
  Sim debt work h s = Simulated W E Outer z debt work h s

  abbrev To : ℕ → Outcome W E → Type 0
  To limit o = RunTo W E Outer Here Told z price base limit o

  abbrev At : H → ℕ → Type 0
  At h k = Moment W E Outer Here Told z h k

  abbrev at : (h : H) (k : ℕ) (s : CodeState) → Here k s → Told k h.world h.calls → At h k
  at h k s here told = record { machine = s; here = here; told = told }

  told_same : (k : ℕ) (v w : W) (calls others : List (List E)) → w ≡ v → others ≡ calls → Told k v calls → Told k w others
  told_same k v w calls others e f told = subst (λ c. Told k w c) (sym f) (subst (λ a. Told k a calls) (sym e) told)

  -- what the host's steps have to do with the units that were used
  record Progress (k debt : ℕ) (used : Cost) : Type 0 where
    own : ℕ
    high : own + debt ≤ 30 * used.own
    low : used.own ≤ 2048 * own
    calls_low : used.primitive ≤ 4194305 * own
    own_steps : own ≤ k
    spent : k ≤ base + own + price_of price used

  -- where a step has led, with what it cost
  record Stepped (k : ℕ) (used cost : Cost) (work : List Work) (h h' : H) : Type 0 where
    at_step : ℕ
    end : CodeState
    left : ℕ
    here : Here at_step end
    progress : Progress at_step left (plus used cost)
    sim : Sim left work h' end
    told : Told at_step h'.world h'.calls
    -- a moment, as late as the costs say, at which no call has ended since
    before : ℕ
    there : CodeState
    come : Here before there
    late : total (plus used cost) ≤ 4196353 * before + 4194305
    as_before : Told before h.world h.calls

  -- after own steps
  gone : (k debt : ℕ) (used cost : Cost) (h h' : H) (work : List Work) (s : CodeState) → Here k s → Progress k debt used → IsGone W E Outer z debt h s cost work h'
      → CostsSome h (Go cost work h') → Extends W E h h' → Told k h.world h.calls → Stepped k used cost work h h'
  gone k debt used cost h h' work s here pr r f more told =
      let none : cost.primitive ≡ 0 = elim f.1 [ inl e ↦ e | inr e ↦ (let same = r.2.ended_so in absurd (omega (arith, e, same))) ] in
      let ph = pr.high in let pl = pr.low in let pc = pr.calls_low in let po = pr.own_steps in let ps = pr.spent in
      let lh = r.2.high in let ll = r.2.low in
      let stay = none_ended W E h h' more r.2.ended_so in
      let now : Told (k + r.2.own) h.world h.calls = host.tells_on k r.2.own s r.0 h.world h.calls here r.2.run told in
      record {
        at_step = k + r.2.own;
        end = r.0;
        left = r.1;
        here = host.goes_on k r.2.own s r.0 here r.2.run;
        progress = record {
          own = pr.own + r.2.own;
          high = omega (arith, ph, lh);
          low = omega (arith, pl, ll);
          calls_low = omega (arith, pc, none);
          own_steps = omega (arith, po);
          spent = let sum = price_sum price used.primitive cost.primitive used.pages cost.pages in omega (arith, ps, sum);
        };
        sim = r.3;
        told = told_same (k + r.2.own) h.world h'.world h.calls h'.calls stay.1 stay.0 now;
        before = k + r.2.own;
        there = r.0;
        come = host.goes_on k r.2.own s r.0 here r.2.run;
        late = omega (arith, pl, ll, pc, po, none);
        as_before = now;
      }

  -- after a primitive
  called : (k debt : ℕ) (used cost : Cost) (item : Work) (h h' : H) (work : List Work) (s : CodeState) → Here k s → Progress k debt used → IsCalling W E Outer z debt item h s cost work h'
      → CostsSome h (Go cost work h') → Told k h.world h.calls → Stepped k used cost work h h'
  called k debt used cost item h h' work s here pr c f told =
      let entry = host.goes_on k c.own s c.entry here c.run in
      let before = host.tells_on k c.own s c.entry h.world h.calls here c.run told in
      let pd = host.passes (k + c.own) c.entry c.to c.number c.row c.args h.world h.calls entry before c.is c.called c.outer c.room in
      let after : h'.calls ≡ h.calls ++ (z.p.meaning c.number c.args h.world).entries ∷ [] = ap (λ (q : H). q.calls) c.after in
      let ph = pr.high in let pl = pr.low in let pc = pr.calls_low in let po = pr.own_steps in let ps = pr.spent in
      let ch = c.high in let cl = c.low in let cost_some = f.0 in
      let cu = c.units in let few = pd.few in
      let dear : pd.steps ≤ price.unit * cost.primitive + price.page * cost.pages =
      subst (λ a. pd.steps ≤ price.unit * a + price.page * cost.pages) (sym c.units) (subst (λ b. pd.steps ≤ price.unit * (call_cost (z.p.meaning c.number c.args h.world)).primitive + price.page * b) (sym c.pages) pd.within) in
      record {
        at_step = k + c.own + pd.steps;
        end = pd.end;
        left = debt;
        here = pd.here;
        progress = record {
          own = pr.own + c.own;
          high = omega (arith, ph, ch);
          low = omega (arith, pl, cl);
          calls_low = omega (arith, pc, cl, cost_some, few, cu);
          own_steps = omega (arith, po);
          spent = let sum = price_sum price used.primitive cost.primitive used.pages cost.pages in omega (arith, ps, dear, sum);
        };
        sim = c.returns pd.end pd.back pd.scalar pd.answer (subst (λ w. Outer w pd.end.contents pd.end.behind) (sym (ap (λ (q : H). q.world) c.after)) pd.outer);
        told = told_same (k + c.own + pd.steps) (z.p.meaning c.number c.args h.world).world h'.world (h.calls ++ (z.p.meaning c.number c.args h.world).entries ∷ []) h'.calls (ap (λ (q : H). q.world) c.after) after pd.told;
        before = k + c.own;
        there = c.entry;
        come = entry;
        late = omega (arith, pl, cl, pc, po, few, cu);
        as_before = before;
      }

  stepped : (k debt : ℕ) (used cost : Cost) (item : Work) (h h' : H) (work : List Work) (s : CodeState) → Here k s → Progress k debt used
      → IsGone W E Outer z debt h s cost work h' ⊎ IsCalling W E Outer z debt item h s cost work h' → CostsSome h (Go cost work h') → Extends W E h h' → Told k h.world h.calls → Stepped k used cost work h h'
  stepped k debt used cost item h h' work s here pr (inl r) f more told = gone k debt used cost h h' work s here pr r f more told
  stepped k debt used cost item h h' work s here pr (inr r) f more told = called k debt used cost item h h' work s here pr r f told

  -- a unit was used, unless anything is left to do
  abbrev Begun : Cost → List Work → Type 0
  Begun used [] = 1 ≤ used.own
  Begun used (item ∷ work) = Unit {0}

  begun_by : (used : Cost) (work : List Work) → 1 ≤ used.own → Begun used work
  begun_by used [] some = some
  begun_by used (item ∷ work) some = tt

  whole : (fuel limit : ℕ) (used : Cost) (work : List Work) (h : H) (s : CodeState) (k debt : ℕ) → Here k s → Progress k debt used → limit < fuel + total used → total used ≤ limit → Begun used work → Sim debt work h s → Told k h.world h.calls → To limit (execute z.p fuel limit used work h)
  whole zero limit used work h s k debt here pr enough within begun sim told = absurd (omega (arith, enough, within))
  whole (suc fuel) limit used [] h s k debt here pr enough within begun sim told =
      (k, at h k s here told, sim, (let a = pr.high in let b = pr.spent in omega (arith, a, b)), begun)
  whole (suc fuel) limit used (item ∷ work) h s k debt here pr enough within begun sim told =
      by_step (work_step z.p item work h) (each z debt item work h s sim) (fine z debt item work h s sim) (acts W E z.p item work h)
      (λ u w d t j left here pr enough within some sim told. whole fuel limit u w d t j left here pr enough within (begun_by u w some) sim told)
    where
      high : k ≤ base + 30 * used.own + price_of price used
      high = let a = pr.high in let b = pr.spent in omega (arith, a, b)

      by_step : (t : Step W E) → StepIs W E Outer z debt item h s t → CostsSome h t → Grows W E h t
          → ((u : Cost) (w : List Work) (d : H) (t : CodeState) (j left : ℕ) → Here j t → Progress j left u → limit < fuel + total u → total u ≤ limit → 1 ≤ u.own → Sim left w d t → Told j d.world d.calls → To limit (execute z.p fuel limit u w d))
          → To limit (then_run t limit used h (execute z.p fuel limit))
      by_step (Go cost w d) r f more rest = by_test (nat_lt limit (total (plus used cost))) refl
        where
          next : Stepped k used cost w h d
          next = stepped k debt used cost item h d w s here pr r f more told

          by_test : (b : Bool) → nat_lt limit (total (plus used cost)) ≡ b → To limit (if b then NotYet used h else execute z.p fuel limit (plus used cost) w d)
          by_test true e =
              let a = ltb-true limit (total (plus used cost)) e in
              let late = next.late in
              record {
                steps = k;
                now = at h k s here told;
                within = high;
                late = next.before;
                later = at h next.before next.there next.come next.as_before;
                far = omega (arith, a, late);
              }
          by_test false e =
              let a = ltb-false limit (total (plus used cost)) e in
              let some = f.0 in
              rest (plus used cost) w d next.end next.at_step next.left next.here next.progress (omega (arith, enough, some)) a (omega (arith, some)) next.sim next.told
      by_step (Stop cost (faulted fault) d) r f more rest = by_test (nat_lt limit (total (plus used cost))) refl
        where
          ran : Here (k + r.1.own) r.0 × Told (k + r.1.own) d.world d.calls
          ran =
              let stay = none_ended W E h d more r.1.ended_so in (
                host.goes_on k r.1.own s r.0 here r.1.run,
                told_same (k + r.1.own) h.world d.world h.calls d.calls stay.1 stay.0 (host.tells_on k r.1.own s r.0 h.world h.calls here r.1.run told),
              )

          by_test : (b : Bool) → nat_lt limit (total (plus used cost)) ≡ b → To limit (if b then NotYet used h else Failed (plus used cost) (faulted fault) d)
          by_test true e =
              let a = ltb-true limit (total (plus used cost)) e in
              let l = pr.low in let c = pr.calls_low in let o = pr.own_steps in
              let most = f.1 in
              record {
                steps = k;
                now = at h k s here told;
                within = high;
                late = k;
                later = at h k s here told;
                far = omega (arith, a, l, c, o, most);
              }
          by_test false e =
              let ph = pr.high in let ps = pr.spent in let sh = r.1.high in
              (k + r.1.own, at d (k + r.1.own) r.0 ran.0 ran.1, r.2, (let sum = price_sum price used.primitive cost.primitive used.pages cost.pages in omega (arith, ph, ps, sh, sum)), (let some = f.0 in omega (arith, some)))
      by_step (Stop cost stuck d) r f more rest = absurd r

  pub follows : (item : Work) (work : List Work) (h : H) (s : CodeState) → Here base s → Told base h.world h.calls → Sim 0 (item ∷ work) h s → (n : ℕ) → To n (run_within z.p n (item ∷ work) h)
  follows item work h s here told sim n =
      whole (suc n) n (units 0) (item ∷ work) h s base 0 here
      (record { own = 0; high = omega arith; low = omega arith; calls_low = omega arith; own_steps = omega arith; spent = omega arith }) (omega arith) (omega arith) tt sim told
