-- A run that was saved rests where its turns are complete; and one that is taken up stands there.
use Rattle.std.proofs.Common.{◌≡◌, ℕ, suc, Some, None, Option, true, false, not, List, refl, sym, ap, ◌∙◌, subst, arith}
use Rattle.std.specs.Prelude.{is_some, Bool, ◌&&◌, ◌||◌, ◌==◌, slice_index}
use Rattle.std.proofs.lemmas.Bool.{eqb-true}
use Rattle.mips_table.specs.Device.{Environment}
use Rattle.mips_table.specs.declared.special.TheConstants.{MODE}
use Rattle.mips_table.specs.Machine.{State, run}
use Rattle.mips_table.specs.Turns.{is_on, is_end, end_within, complete, all_complete, lines_of_turn, IsTurnEnd, SumLaws, TurnLaws}
use Rattle.mips_machine.specs.Saved.{CanBeSaved, SavedOnce}
use Rattle.mips_table.specs.Steady.{Steady, StaysSteady}
use Rattle.cvm_model.specs.Stands.{RunningRelation}
use Rattle.cvm_model.specs.Cvm.{System, Status, Running, Halted, Faulted, IsCvm}
use Rattle.layer_contract.specs.Layer.{Rests}
use Rattle.layer_contract.specs.Follows.{site_of}
use Rattle.c0_tree.specs.Tree.{CUnit}
use Rattle.c0_meaning.specs.TypedState.{IsTypedState}
use Rattle.boot_turns.specs.RunMachines.{RunMachines, MachinesRun}
use Rattle.boot_turns.specs.TurnEnds.{RestsAfter, Stood, TurnIsOver}
use Rattle.boot_run.specs.Resuming.{IsFirst, TakesUp}
use Rattle.boot_run.specs.SavedRuns.{SavedAt}
use Rattle.boot_run.specs.Shown.{ended_of}

-- a machine that runs a user is on
pub on_of : (o : Option ℕ) (user : Bool) → (not (is_some o) && user) ≡ true → o ≡ None
on_of None user h = refl
on_of (Some word) user h = absurd (cc)

-- a machine that is on and rests runs a user
pub goes_on : (st : Status) (s : State) → s.off ≡ None → Rests st s → st ≡ Running
goes_on Running s on r = refl
goes_on Halted s on r = absurd (cc)
goes_on (Faulted f) s on r = absurd (cc)

-- where a machine is on at the end of so many turns these are complete
not_off : (b : Bool) (o : Option ℕ) → o ≡ None → (b || not (not (is_some o))) ≡ true → b ≡ true
not_off true o e h = refl
not_off false None e h = absurd (cc)
not_off false (Some v) e h = absurd (cc)

pub complete_there : (x : Environment) (s : State) (turns t : ℕ) → IsTurnEnd x s turns t → (run x s t).off ≡ None → complete x s t ≡ turns
complete_there x s turns t end on = eqb-true (complete x s t) turns (not_off (complete x s t == turns) (run x s t).off on end.here)

-- A SAVED RUN rests where its turns are complete, as the laws say of runs
module _ (counts : TurnLaws) (sums : SumLaws) (x : Environment) (y : System) (s0 : State) (late held : ℕ) (m : RunMachines x y s0 late held)
    (k steps : ℕ) (words : List ℕ) (left : List (List ℕ)) (shown : List ℕ) (a : SavedAt x y s0 (suc k) steps words left shown) where
  there : end_within x s0 (suc k) steps ≡ a.at
  there = counts.ends x s0 (suc k) steps a.at a.end a.within

  all : (complete x s0 a.at ≡ suc k) × all_complete x s0 a.at
  all = sums.rests x s0 k a.at a.end (ap (λ (o : Option ℕ). not (is_some o)) a.on)

  over : TurnIsOver x y s0 (suc k) a.at a.past
  over =
      subst (λ (t : ℕ). TurnIsOver x y s0 (suc k) t a.past) there
      (m.ends (suc k) steps a.past
      (subst (λ (n : ℕ). IsCvm y (lines_of_turn x s0) n a.past) (sym (ap (complete x s0) there ∙ all.0)) a.cvm)
      (subst (λ (t : ℕ). is_end x s0 (suc k) t ≡ true) (sym there) a.end.here))

  pub stood_there : Stood x y s0 (suc k) a.at a.past
  stood_there =
      record { cvm = a.cvm; turn = sym all.1 ∙ all.0; all = all.0; rests = subst (λ (n : ℕ). RestsAfter x y s0 n a.at a.past) all.0 over.rests }

-- the machine of a saved run can be saved
module _ (stays : StaysSteady) (x : Environment) (y : System) (s0 : State) (k steps : ℕ) (words : List ℕ) (left : List (List ℕ)) (shown : List ℕ) (first : IsFirst y s0) (a : SavedAt x y s0 (suc k) steps words left shown)
    (stood : Stood x y s0 (suc k) a.at a.past) where
  pub steady : Steady y.input (run x s0 a.at)
  steady = stays x y.input s0 a.at first.steady

  pub stands : RunningRelation x (site_of y.boot) (run x s0 a.at) a.past.status a.past.core
  stands = stood.rests.1.stands

  pub can : CanBeSaved y.input (run x s0 a.at)
  can = record {
    regs = stands.fits.cpu.regs.size;
    none = stands.fits.cpu.regs.none;
    special = stands.fits.special.size;
    buffer = stands.fits.device.buffer.size;
    input = steady.input;
    on = a.on;
    no_reset = stands.no_reset;
    idle = stands.idle;
  }

  pub user_mode : slice_index (run x s0 a.at).special MODE ≡ 1
  user_mode = by a.past.status (goes_on a.past.status (run x s0 a.at) a.on stood.rests.0) stood.rests.0
    where
      right : (a b : Bool) → (a && b) ≡ true → b ≡ true
      right true b h = h
      right false b h = absurd (cc)

      by : (st : Status) → st ≡ Running → Rests st (run x s0 a.at) → slice_index (run x s0 a.at).special MODE ≡ 1
      by Running e r = eqb-true _ _ (right (is_on (run x s0 a.at)) (slice_index (run x s0 a.at).special MODE == 1) r)
      by Halted e r = absurd (cc)
      by (Faulted f) e r = absurd (cc)

pub takes_up : StaysSteady → SavedOnce → SumLaws → TurnLaws → ((u : CUnit) → MachinesRun (IsTypedState u)) → TakesUp
takes_up stays once sums counts runs x y s0 k steps budget words left shown s turns current u late held starts first a here sectors told =
    let stood : Stood x y s0 (suc k) a.at a.past = stood_there counts sums x y s0 late held (runs u x y s0 late held starts) k steps words left shown a in
    let there = can stays x y s0 k steps words left shown first a stood in
    let same = once y.input s (run x s0 a.at) turns current (suc k) a.past.core.current here there (sectors ∙ a.left_is) (told ∙ a.words_are) in
    let running = goes_on a.past.status (run x s0 a.at) a.on stood.rests.0 in
    let on : is_on (run x s0 a.at) ≡ true = ap (λ (o : Option ℕ). not (is_some o)) a.on in
    let time = sums.time x s0 a.at on in (
      record {
        stood = stood;
        state = ap Some same.0;
        steps = let zero_time = first.time in ap (λ (z : State). z.time) same.0 ∙ time ∙ omega (arith, zero_time);
        turns = same.1;
        current = λ run. same.2;
        ended = sym (ap ended_of running);
        fault = refl;
        traces = refl;
      },
      record {
        before = λ j lt. (sums.earlier x s0 (suc k) a.at a.end on j lt).0;
        on = λ j lt. off_none (run x s0 j).off (sums.earlier x s0 (suc k) a.at a.end on j lt).1;
      },
    )
  where
    off_none : (o : Option ℕ) → not (is_some o) ≡ true → o ≡ None
    off_none None h = refl
    off_none (Some v) h = absurd (cc)
