-- The calls of steps as scripts: of one step, of steps behind steps, and of a stretch in which none is due.
use Rattle.std.proofs.Common.{◌≡◌, ℕ, zero, suc, ◌+◌, ◌-◌, ◌<◌, ◌≤◌, List, [], ◌++◌, Bool, true, slice_index, Option, Some, None, Result, Ok, Err, refl, sym, ap, ap₂, ◌∙◌, subst, arith, append-nil, append_assoc}
use Rattle.std.specs.Prelude.{IsSome, IfSome, ◌==◌, not}
use Rattle.std.specs.Option.{option_map}
use Rattle.cvm_outside.specs.Outside.{Files, Outside, output, drive}
use Rattle.cvm_outside.specs.declared.sink.Sink as sink_of
use Rattle.cvm_outside.specs.declared.sectors.Sectors as sectors_of
use Rattle.cvm_outside.specs.Script.{Call, Who, TheDisk, Performs, done, scripts, blame}
use Rattle.cvm_outside.proofs.ScriptsFollow.{both, first}
use Rattle.cvm_outside.proofs.RowsPut.{same_script, scripts-none, scripts-suc}
use Rattle.mips_table.specs.Device as device
use Rattle.mips_table.specs.Machine.{State, step, run}
use Rattle.mips_table.specs.Turns.{begins_turn}
use Rattle.mips_table.specs.declared.special.TheConstants.{MODE}
use Rattle.mips_machine.specs.Machine.{Held, state_of}
use Rattle.mips_machine.specs.Quiet.{Stretch}
use Rattle.mips_machine.specs.Steps.{outside_of, script_of_step}
use Rattle.layer_map.specs.Map.{Map, current_at}
use Rattle.page_model.specs.Paging.{Paged}
use Rattle.c0_tree.specs.Tree.{CUnit}
use Rattle.c0_meaning.specs.TypedState.{IsTypedState}
use Rattle.boot_report.specs.Told.{WordsTell}
use Rattle.boot_turns.specs.declared.answers.RunFault.{RunFault}
use Rattle.boot_turns.specs.declared.answers.RunFault.TheVariants.{Disk}
use Rattle.boot_turns.specs.declared.answers.View.TheVariants.{Trace}
use Rattle.boot_turns.specs.declared.tracer.Tracer.{Tracer}
use Rattle.boot_turns.specs.Completes.{state_seen, note}
use Rattle.boot_turns.specs.Entries.{TracesGrow}
use Rattle.boot_turns.specs.JournalText.{RowsFollow}
use Rattle.boot_turns.specs.Tracing.{Traced, tracer_at, tracing}
use Rattle.boot_turns.specs.StepScript.{step_script, rows_script, steps_script}
use Rattle.boot_turns.specs.RowScripts.{of_run, ArePages, followed_script}
use Rattle.boot_turns.specs.LoopScripts.{InSteps, traced_run, StepsMakeCalls, StepsCall}
use Rattle.boot_turns.proofs.StepEvents.{told_as_some}
use Rattle.boot_turns.proofs.ShownRows.{scripts-same, counted_none}
use Rattle.boot_turns.proofs.SomeCalls.{untold, made_untold, of_both, untold_both, of_due, of_followed}
use Rattle.boot_turns.proofs.NoTurnBegins.{later}
use Rattle.boot_turns.proofs.TraceLoops.{Booted, Tracks, steps_one, step_made}

-- scripts of some numbers, and those of more behind them
more_scripts : (f : ℕ → List Call) (n k : ℕ) → scripts f (n + k) ≡ scripts f n ++ scripts (λ i. f (n + i)) k
more_scripts f n zero = let e : n + 0 ≡ n = omega arith in ap (scripts f) e ∙ sym (append-nil (scripts f n)) ∙ ap (λ (l : List Call). scripts f n ++ l) (sym (scripts-none (λ i. f (n + i))))
more_scripts f n (suc k) =
    let e : n + suc k ≡ suc (n + k) = omega arith in
    ap (scripts f) e ∙ scripts-suc f (n + k) ∙ ap (λ (l : List Call). l ++ f (n + k)) (more_scripts f n k) ∙ append_assoc (scripts f n) (scripts (λ i. f (n + i)) k) (f (n + k))
    ∙ ap (λ (l : List Call). scripts f n ++ l) (sym (scripts-suc (λ i. f (n + i)) k))

-- scripts from a number on, and those behind them
pub from_add : (f : ℕ → List Call) (t n k : ℕ) → scripts (λ i. f (t + i)) (n + k) ≡ scripts (λ i. f (t + i)) n ++ scripts (λ i. f (t + n + i)) k
from_add f t n k =
    more_scripts (λ i. f (t + i)) n k
    ∙ ap (λ (l : List Call). scripts (λ i. f (t + i)) n ++ l) (scripts-same (λ i. f (t + (n + i))) (λ i. f (t + n + i)) k (λ i lt. let e : t + (n + i) ≡ t + n + i = omega arith in ap f e))

all_none : (f : ℕ → List Call) (n : ℕ) → ((i : ℕ) → i < n → f i ≡ []) → scripts f n ≡ []
all_none f zero none = scripts-none f
all_none f (suc n) none = scripts-suc f n ∙ ap₂ (λ (a b : List Call). a ++ b) (all_none f n (λ i lt. none i (omega (arith, lt)))) (none n (omega arith))

-- STEPS THAT ARE MADE are one script
pub in_all : (f : ℕ → List Call) (n : ℕ) (old new : Outside) (blamed : Option Who) → InSteps f n old new blamed → Performs (scripts f n) old new blamed
in_all f zero old new blamed made = same_script [] (scripts f 0) old new blamed (sym (scripts-none f)) made
in_all f (suc n) old new blamed (mid, before, last) =
    same_script (scripts f n ++ f n) (scripts f (suc n)) old new blamed (sym (scripts-suc f n)) (both (scripts f n) (f n) old mid new blamed before last)

-- of which one is made; or steps that call nothing
pub in_one : (f : ℕ → List Call) (old new : Outside) (blamed : Option Who) → Performs (f 0) old new blamed → InSteps f 1 old new blamed
in_one f old new blamed made = (old, same_script [] (scripts f 0) old old None (sym (scripts-none f)) (done old), made)

in_quiet : (f : ℕ → List Call) (n : ℕ) (here : Outside) → ((i : ℕ) → i < n → f i ≡ []) → InSteps f n here here None
in_quiet f zero here none = done here
in_quiet f (suc n) here none = (
  here,
  same_script [] (scripts f n) here here None (sym (all_none f n (λ i lt. none i (omega (arith, lt))))) (done here),
  same_script [] (f n) here here None (sym (none n (omega arith))) (done here),
)

-- steps from a number on, and those behind them
pub in_both : (f : ℕ → List Call) (t n k : ℕ) (old mid new : Outside) (blamed : Option Who) → InSteps (λ i. f (t + i)) n old mid None → InSteps (λ i. f (t + n + i)) k mid new blamed →
    InSteps (λ i. f (t + i)) (n + k) old new blamed
in_both f t n zero old mid new blamed made (done at) = let e : n ≡ n + 0 = omega arith in subst (λ j. InSteps (λ i. f (t + i)) j old mid None) e made
in_both f t n (suc k) old mid new blamed made (late, before, last) =
    let e : suc (n + k) ≡ n + suc k = omega arith in
    let there : t + n + k ≡ t + (n + k) = omega arith in
    subst (λ j. InSteps (λ i. f (t + i)) j old new blamed) e (
      late,
      same_script (scripts (λ i. f (t + i)) n ++ scripts (λ i. f (t + n + i)) k) (scripts (λ i. f (t + i)) (n + k)) old late None (sym (from_add f t n k))
          (both (scripts (λ i. f (t + i)) n) (scripts (λ i. f (t + n + i)) k) old mid late None (in_all (λ i. f (t + i)) n old mid None made) before),
      same_script (f (t + n + k)) (f (t + (n + k))) late new blamed (ap f there) last,
    )

-- by other scripts that are the same but for the last step's
pub in_last : (f g : ℕ → List Call) (n : ℕ) (old mid new : Outside) (before blamed : Option Who) → ((i : ℕ) → i < n → f i ≡ g i) → ((at : Outside) → Performs (f n) at mid before → Performs (g n) at new blamed) →
    InSteps f (suc n) old mid before → InSteps g (suc n) old new blamed
in_last f g n old mid new before blamed same last (at, made, of_last) = (at, same_script (scripts f n) (scripts g n) old at None (scripts-same f g n same) made, last at of_last)

pub in_same : (f g : ℕ → List Call) (n : ℕ) (old new : Outside) (blamed : Option Who) → ((i : ℕ) → i < n → f i ≡ g i) → InSteps f n old new blamed → InSteps g n old new blamed
in_same f g zero old new blamed same made = made
in_same f g (suc n) old new blamed same made =
    in_last f g n old new new blamed blamed (λ i lt. same i (omega (arith, lt))) (λ at of_last. same_script (f n) (g n) at new blamed (same n (omega arith)) of_last) made

-- the transfer of one step, of a run in which the machine stands
one_transfer : (x : device.Environment) (held : Held) (told : Option (List (List ℕ))) (P : List Call → Type 0) → ((ss : List (List ℕ)) → P (script_of_step x (state_of held ss))) →
    (s : State) (t : ℕ) → state_seen told held ≡ Some (run x s t) → P (script_of_step x (run x s (t + 0)))
one_transfer x held told P h s t at =
    let w = told_as_some told held (run x s t) at in
    let e : t + 0 ≡ t = omega arith in
    subst P (ap (script_of_step x) w.2 ∙ ap (λ n. script_of_step x (run x s n)) (sym e)) (h w.0)

abbrev over : {O D : Type 0} → sink_of.Ghosts O → sectors_of.Ghosts D → Files → O → D → Outside
over text told shelf o d = record { shelf = shelf; sink = output text o; disk = drive told d }

module _ {O D : Type 0} (x : device.Environment) (text : sink_of.Ghosts O) (told : sectors_of.Ghosts D) (m : Map) (held : Held) (kept : Option Tracer) (o : O) (d : D) where
  -- no step is made
  pub no_steps : StepsMakeCalls {T = Unit {0}} x text told m held kept (o, d) (o, d) 0 (Ok tt)
  no_steps = record {
    untraced = λ none s t at shelf. done _;
    traced = λ c y s late limit u t from map_is low high at traced p turns steps shown shelf. done _;
    some = ([], tt, λ shelf. done _);
  }

  -- the same, by another answer that blames the same
  pub as_made : {R T : Type 0} (before : Result R RunFault) (result : Result T RunFault) (o1 : O) (d1 : D) (n k : ℕ) → k ≡ n → blame of_run before ≡ blame of_run result →
      StepsMakeCalls x text told m held kept (o, d) (o1, d1) n before → StepsMakeCalls x text told m held kept (o, d) (o1, d1) k result
  as_made before result o1 d1 n k many same made = rw many (record {
    untraced = λ none s t at shelf. subst (InSteps (λ i. script_of_step x (run x s (t + i))) n (over text told shelf o d) (over text told shelf o1 d1)) same (made.untraced none s t at shelf);
    traced = λ c y s late limit u t from map_is low high at traced p turns steps shown shelf.
        subst (InSteps (λ i. step_script (traced_run x y s u turns steps) p (t + i)) n (over text told shelf o d) (over text told shelf o1 d1)) same
        (made.traced c y s late limit u t from map_is low high at traced p turns steps shown shelf);
    some = (made.some.0, made.some.1, λ shelf. subst (Performs made.some.0 (over text told shelf o d) (over text told shelf o1 d1)) same (made.some.2 shelf));
  })

  -- its transfer is made
  transfer_made : (d1 : D) (blamed : Option Who) → ((ss : List (List ℕ)) → (shelf : Files) → Performs (script_of_step x (state_of held ss)) (over text told shelf o d) (over text told shelf o d1) blamed) →
      (s : State) (t : ℕ) → state_seen (told.sectors d) held ≡ Some (run x s t) → (shelf : Files) → Performs (script_of_step x (run x s (t + 0))) (over text told shelf o d) (over text told shelf o d1) blamed
  transfer_made d1 blamed h s t at shelf = one_transfer x held (told.sectors d) (λ (l : List Call). Performs l (over text told shelf o d) (over text told shelf o d1) blamed) (λ ss. h ss shelf) s t at

  -- ONE STEP, whose transfer failed
  pub step_broken : {T : Type 0} (d1 : D) → ((ss : List (List ℕ)) (shelf : Files) → Performs (script_of_step x (state_of held ss)) (over text told shelf o d) (over text told shelf o d1) (Some TheDisk)) →
      StepsMakeCalls {T = T} x text told m held kept (o, d) (o, d1) 1 (Err Disk)
  step_broken d1 h = record {
    untraced = λ none s t at shelf. in_one (λ i. script_of_step x (run x s (t + i))) (over text told shelf o d) (over text told shelf o d1) (Some TheDisk) (transfer_made d1 (Some TheDisk) h s t at shelf);
    traced = λ c y s late limit u t from map_is low high at traced p turns steps shown shelf.
        let r = traced_run x y s u turns steps in
        in_one (λ i. step_script r p (t + i)) (over text told shelf o d) (over text told shelf o d1) (Some TheDisk)
        (first (script_of_step x (run x s (t + 0))) (rows_script (Trace u) r p (t + 0)) (over text told shelf o d) (over text told shelf o d1) TheDisk (transfer_made d1 (Some TheDisk) h s t at shelf));
    some = (untold (script_of_step x (state_of held [])), of_due x (state_of held []), λ shelf. made_untold (script_of_step x (state_of held [])) (over text told shelf o d) (over text told shelf o d1) (Some TheDisk) (h [] shelf));
  }

  -- or which was done where no user is traced
  pub step_plain : {T : Type 0} (v : T) (d1 : D) → kept ≡ None → ((ss : List (List ℕ)) (shelf : Files) → Performs (script_of_step x (state_of held ss)) (over text told shelf o d) (over text told shelf o d1) None) →
      StepsMakeCalls {T = T} x text told m held kept (o, d) (o, d1) 1 (Ok v)
  step_plain v d1 untraced h = record {
    untraced = λ none s t at shelf. in_one (λ i. script_of_step x (run x s (t + i))) (over text told shelf o d) (over text told shelf o d1) None (transfer_made d1 None h s t at shelf);
    traced = λ c y s late limit u t from map_is low high at traced p turns steps shown shelf.
        absurd (let e : ◌≡◌ {A = Option Tracer} None (Some (tracer_at x s u t traced.journal)) = sym untraced ∙ traced.keeps in cc);
    some = (untold (script_of_step x (state_of held [])), of_due x (state_of held []), λ shelf. made_untold (script_of_step x (state_of held [])) (over text told shelf o d) (over text told shelf o d1) None (h [] shelf));
  }

  -- or was done where one is, and then its rows are printed
  pub step_follows : {T : Type 0} (grow : (c : CUnit) → TracesGrow (IsTypedState c)) (f : RowsFollow) (tell : WordsTell) (on : held.hardware.off ≡ None) (k : Tracer) (is : kept ≡ Some k) (mid : Held) (o2 : O) (d1 d2 : D) (current : ℕ) (began : Bool) (result : Result T RunFault) →
      state_seen (told.sectors d1) mid ≡ option_map (step x) (state_seen (told.sectors d) held) → current ≡ slice_index held.hardware.memory current_at → IfSome (state_seen (told.sectors d) held) (λ s. began ≡ begins_turn x s) →
      ((ss : List (List ℕ)) (shelf : Files) → Performs (script_of_step x (state_of held ss)) (over text told shelf o d) (over text told shelf o d1) None) →
      ((pages : Option Paged) → ArePages (told.sectors d1) mid m pages → (shelf : Files) → Performs (followed_script m (state_of mid []) pages k current began) (over text told shelf o d1) (over text told shelf o2 d2) (blame of_run result)) →
      StepsMakeCalls x text told m held kept (o, d) (o2, d2) 1 result
  step_follows grow f tell on k is mid o2 d1 d2 current began result ran current_is began_is moved rows = rw is (record {
    untraced = λ none s t at shelf. absurd (let e : ◌≡◌ {A = Option Tracer} (Some k) None = none in cc);
    traced = λ c y s late limit u t from map_is low high at traced p turns steps shown shelf.
        let r = traced_run x y s u turns steps in
        let e : t ≡ t + 0 = omega arith in
        in_one (λ i. step_script r p (t + i)) (over text told shelf o d) (over text told shelf o2 d2) (blame of_run result)
        (same_script (steps_script r p t 1) (step_script r p (t + 0)) (over text told shelf o d) (over text told shelf o2 d2) (blame of_run result) (steps_one r p t ∙ ap (step_script r p) e)
        (step_made grow f tell x m held (told.sectors d) k on mid (told.sectors d1) ran current current_is began began_is
        (record { unit = c; y = y; s = s; late = late; held = limit; u = u; t = t; from = from; map_is = map_is; low = low; high = high; at = at; traced = traced }) p turns steps shown
        (λ (l : List Call). Performs l (over text told shelf o d) (over text told shelf o2 d2) (blame of_run result))
        (λ ss pages are. both (script_of_step x (state_of held ss)) (followed_script m (state_of mid []) pages k current began) (over text told shelf o d) (over text told shelf o d1) (over text told shelf o2 d2) (blame of_run result) (moved ss shelf) (rows pages are shelf))));
    some = (
      untold (script_of_step x (state_of held []) ++ followed_script m (state_of mid []) None k current began),
      untold_both (script_of_step x (state_of held [])) (followed_script m (state_of mid []) None k current began) (of_due x (state_of held [])) (of_followed m (state_of mid []) None k current began),
      λ shelf. made_untold (script_of_step x (state_of held []) ++ followed_script m (state_of mid []) None k current began) (over text told shelf o d) (over text told shelf o2 d2) (blame of_run result)
          (both (script_of_step x (state_of held [])) (followed_script m (state_of mid []) None k current began) (over text told shelf o d) (over text told shelf o d1) (over text told shelf o2 d2) (blame of_run result) (moved [] shelf) (rows None tt shelf)),
    );
  })

  -- or is an untrapped one of a user, which has no rows
  pub step_counts : {T : Type 0} (grow : (c : CUnit) → TracesGrow (IsTypedState c)) (f : RowsFollow) (tell : WordsTell) (on : held.hardware.off ≡ None) (mid : Held) (d1 : D) (current : ℕ) (v : T) →
      state_seen (told.sectors d1) mid ≡ option_map (step x) (state_seen (told.sectors d) held) → current ≡ slice_index held.hardware.memory current_at → IfSome (state_seen (told.sectors d) held) (λ s. true ≡ begins_turn x s) →
      slice_index mid.hardware.special MODE ≡ 1 → ((ss : List (List ℕ)) (shelf : Files) → Performs (script_of_step x (state_of held ss)) (over text told shelf o d) (over text told shelf o d1) None) →
      StepsMakeCalls {T = T} x text told m held kept (o, d) (o, d1) 1 (Ok v)
  step_counts grow f tell on mid d1 current v ran current_is began_is mode moved = by kept refl
    where
      by : (a : Option Tracer) → kept ≡ a → StepsMakeCalls x text told m held kept (o, d) (o, d1) 1 (Ok v)
      by None is = step_plain v d1 is moved
      by (Some k) is = step_follows grow f tell on k is mid o d1 d1 current true (Ok v) ran current_is began_is moved (λ pages are shelf.
          same_script [] (followed_script m (state_of mid []) pages k current true) (over text told shelf o d1) (over text told shelf o d1) None
          (counted_none k.user k.steps current (note (state_of mid [])) (ap (λ n. not (n == 1)) mode)) (done _))

  module _ (o1 : O) (d1 : D) (n : ℕ) (first_steps : StepsMakeCalls {T = Unit {0}} x text told m held kept (o, d) (o1, d1) n (Ok tt)) where
    module _ (mid : Held) (at_mid : (s : State) (t : ℕ) → state_seen (told.sectors d) held ≡ Some (run x s t) → state_seen (told.sectors d1) mid ≡ Some (run x s (t + n))) where
      -- steps behind them
      pub steps_then : {T : Type 0} (result : Result T RunFault) (rekept : Option Tracer) (o2 : O) (d2 : D) (k all : ℕ) → all ≡ n + k → (kept ≡ None → rekept ≡ None) →
          ((b : Booted x m (state_seen (told.sectors d) held) kept) → Traced x b.y b.s b.u (b.t + n) rekept) →
          StepsMakeCalls x text told m mid rekept (o1, d1) (o2, d2) k result → StepsMakeCalls x text told m held kept (o, d) (o2, d2) all result
      steps_then result rekept o2 d2 k all many none_kept traced_mid then = rw many (record {
        untraced = λ none s t at shelf.
            in_both (λ j. script_of_step x (run x s j)) t n k (over text told shelf o d) (over text told shelf o1 d1) (over text told shelf o2 d2) (blame of_run result)
            (first_steps.untraced none s t at shelf) (then.untraced (none_kept none) s (t + n) (at_mid s t at) shelf);
        traced = λ c y s late limit u t from map_is low high at traced p turns steps shown shelf.
            let r = traced_run x y s u turns steps in
            let there = traced_mid (record { unit = c; y = y; s = s; late = late; held = limit; u = u; t = t; from = from; map_is = map_is; low = low; high = high; at = at; traced = traced }) in
            in_both (step_script r p) t n k (over text told shelf o d) (over text told shelf o1 d1) (over text told shelf o2 d2) (blame of_run result)
            (first_steps.traced c y s late limit u t from map_is low high at traced p turns steps (λ j a b. shown j a (omega (arith, b))) shelf)
            (then.traced c y s late limit u (t + n) from map_is low high (at_mid s t at) there p turns steps (λ j a b. shown j (omega (arith, a)) (omega (arith, b))) shelf);
        some = (
          first_steps.some.0 ++ then.some.0,
          of_both first_steps.some.0 then.some.0 first_steps.some.1 then.some.1,
          λ shelf. both first_steps.some.0 then.some.0 (over text told shelf o d) (over text told shelf o1 d1) (over text told shelf o2 d2) (blame of_run result) (first_steps.some.2 shelf) (then.some.2 shelf),
        );
      })

      -- a stretch behind them, in which no transfer is due; there is none where a user is traced
      pub stretch_then : (new : Held) (k all : ℕ) → all ≡ n + k → ((ss : List (List ℕ)) → Stretch x (state_of mid ss) k (state_of new ss)) → (IsSome kept → k ≡ 0) →
          StepsMakeCalls {T = Unit {0}} x text told m held kept (o, d) (o1, d1) all (Ok tt)
      stretch_then new k all many stretch none_traced = rw many (record {
        untraced = λ none s t at shelf.
            let w = told_as_some (told.sectors d1) mid (run x s (t + n)) (at_mid s t at) in
            in_both (λ j. script_of_step x (run x s j)) t n k (over text told shelf o d) (over text told shelf o1 d1) (over text told shelf o1 d1) None (first_steps.untraced none s t at shelf)
            (in_quiet (λ i. script_of_step x (run x s (t + n + i))) k (over text told shelf o1 d1) (λ i lt.
            ap (script_of_step x) (sym (later x s (t + n) i)) ∙ ap (λ (v : State). script_of_step x (run x v i)) (sym w.2) ∙ (stretch w.0).calls i lt));
        traced = λ c y s late limit u t from map_is low high at traced p turns steps shown shelf.
            let r = traced_run x y s u turns steps in
            let none : k ≡ 0 = none_traced (subst IsSome (sym traced.keeps) refl) in
            let same : n ≡ n + k = omega (arith, none) in
            subst (λ j. InSteps (λ i. step_script r p (t + i)) j (over text told shelf o d) (over text told shelf o1 d1) None) same
            (first_steps.traced c y s late limit u t from map_is low high at traced p turns steps (λ j a b. shown j a (omega (arith, b))) shelf);
        some = first_steps.some;
      })

-- THE LOOP: where a machine stood at a step it stands now so many steps on as were taken from the budget, with what is kept of its trace then
pub at_made : (x : device.Environment) (start now : Option State) (budget left : ℕ) → left ≤ budget →
    ((s : State) (t : ℕ) → start ≡ Some (run x s t) → (u : ℕ) × (left + u ≡ budget + t) × (now ≡ Some (run x s u))) →
    (s : State) (t : ℕ) → start ≡ Some (run x s t) → now ≡ Some (run x s (t + (budget - left)))
at_made x start now budget left less ran s t at =
    let i = ran s t at in
    let b = i.1 in
    let e : i.0 ≡ t + (budget - left) = omega (arith, b, less) in
    i.2 ∙ ap (λ u. Some (run x s u)) e

traced_made : (x : device.Environment) (m : Map) (start now : Option State) (budget left : ℕ) (kept rekept : Option Tracer) → left ≤ budget → Tracks x m start now (tracing kept budget) (tracing rekept left) → (b : Booted x m start kept) →
    Traced x b.y b.s b.u (b.t + (budget - left)) rekept
traced_made x m start now budget left kept rekept less tracks b =
    let w = tracks b in
    let spent = w.spent in
    let e : w.at ≡ b.t + (budget - left) = omega (arith, spent, less) in
    subst (λ u. Traced x b.y b.s b.u u rekept) e w.traced

-- so the calls of one step more are those behind the calls so far
pub one_more : {O D T : Type 0} (text : sink_of.Ghosts O) (told : sectors_of.Ghosts D) (m : Map) (start now : Held) (kept rekept : Option Tracer) (o o1 o2 : O) (d d1 d2 : D) (budget left : ℕ) (result : Result T RunFault) →
    left ≤ budget → 1 ≤ left → now.rows ≡ start.rows → told.size d1 ≡ told.size d → StepsCall {T = Unit {0}} text told m start kept (o, d) (o1, d1) (budget - left) (Ok tt) →
    ((s : State) (t : ℕ) → state_seen (told.sectors d) start ≡ Some (run (outside_of start.rows (told.size d)) s t) → (u : ℕ) × (left + u ≡ budget + t) × (state_seen (told.sectors d1) now ≡ Some (run (outside_of start.rows (told.size d)) s u))) →
    (kept ≡ None → rekept ≡ None) → Tracks (outside_of start.rows (told.size d)) m (state_seen (told.sectors d) start) (state_seen (told.sectors d1) now) (tracing kept budget) (tracing rekept left) →
    StepsCall text told m now rekept (o1, d1) (o2, d2) 1 result → StepsCall text told m start kept (o, d) (o2, d2) (budget - (left - 1)) result
one_more text told m start now kept rekept o o1 o2 d d1 d2 budget left result less some rows size so_far ran none tracks made =
    let x = outside_of start.rows (told.size d) in
    steps_then x text told m start kept o d o1 d1 (budget - left) so_far now
    (at_made x (state_seen (told.sectors d) start) (state_seen (told.sectors d1) now) budget left less ran) result rekept o2 d2 1 (budget - (left - 1)) (omega (arith, less, some)) none
    (traced_made x m (state_seen (told.sectors d) start) (state_seen (told.sectors d1) now) budget left kept rekept less tracks)
    (subst (λ z. StepsMakeCalls z text told m now rekept (o1, d1) (o2, d2) 1 result) (ap₂ outside_of rows size) made)
