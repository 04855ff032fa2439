-- The calls of a run to its end from any state of the machine, by its loop and what closes it.
use Rattle.std.proofs.Common.{◌≡◌, ◌≢◌, ℕ, zero, suc, ◌+◌, ◌-◌, Bool, true, false, Option, Some, None, List, [], ◌++◌, Ok, Err, refl, sym, ap, ap₂, ◌∙◌, subst, arith, append-nil, ne_eqb}
use Rattle.std.specs.Prelude.{if◌then◌else◌}
use Rattle.cvm_outside.specs.declared.sink.Sink as sink_of
use Rattle.cvm_outside.specs.declared.sectors.Sectors as sectors_of
use Rattle.cvm_outside.specs.Script.{Call, Performs}
use Rattle.cvm_outside.proofs.ScriptsFollow.{both}
use Rattle.cvm_outside.proofs.RowsPut.{same_script}
use Rattle.mips_table.specs.Device as device
use Rattle.mips_table.specs.Machine.{State, run}
use Rattle.mips_table.specs.Turns.{is_end, end_within, TurnLaws}
use Rattle.mips_machine.specs.Steps.{outside_of}
use Rattle.cvm_model.specs.Cvm.{System}
use Rattle.cvm_model.specs.declared.row.Next.{Next}
use Rattle.cvm_model.specs.declared.row.Next.TheVariants.{Halt, Fault}
use Rattle.boot_turns.specs.Sooner.{NoSooner, ComesTo}
use Rattle.boot_turns.specs.RowScripts.{of_run}
use Rattle.boot_turns.specs.declared.answers.View.TheVariants.{Boot}
use Rattle.boot_turns.specs.declared.answers.RunFault.{RunFault}
use Rattle.boot_turns.specs.declared.answers.RunFault.TheVariants.{StepLimit, Disk, Sink}
use Rattle.boot_run.specs.declared.whole.RunEnd.{RunEnd}
use Rattle.boot_run.specs.declared.whole.RunEnd.TheVariants as ends
use Rattle.boot_run.specs.RunEnds.{EndsUnsaved}
use Rattle.boot_run.specs.AnyEnds.{ended_off}
use Rattle.boot_run.specs.AnyRun.{AnyGoRuns, is_faulted}
use Rattle.boot_run.specs.AnyScripts.{untold_script, end_by_power, power_end, IsReport, EndsUntold, GoUntold, RestUntold}
use Rattle.boot_run.specs.LoadEnds.{Kept}
use Rattle.boot_run.specs.Pieces.{end_of_fault}
use Rattle.boot_run.specs.RunCalls.{run_at, of_end, CallsAreMade, RunEndsBy, CloseCalls}
use Rattle.boot_run.specs.Shown.{end_of_next, fault_of_power, has_faulted}
use Rattle.boot_run.specs.TurnCalls.{run_around}
use Rattle.boot_run.proofs.RunsAreClosed.{blames_so}
use Rattle.boot_run.proofs.TurnToTurn.{none_within}
use Rattle.boot_run.proofs.ScriptsJoined.{at}
use Rattle.boot_run.proofs.UntoldTurns.{no_end_before, end_there}

-- HOW A RUN ENDS by its power word
abbrev closed_end : Bool → RunEnd
closed_end faulted = if faulted then ends.KernelFaulted else ends.Done

power_faults : (power : ℕ) → has_faulted (ended_off (Some (suc power))) ≡ true
power_faults power = ap (λ (b : Bool). has_faulted (end_of_next (if b then Halt else Fault (fault_of_power (suc power))))) (ne_eqb (suc power) 0 (omega arith))

power_is : (off : Option ℕ) → end_by_power true off ≡ closed_end (has_faulted (ended_off off))
power_is None = refl
power_is (Some zero) = refl
power_is (Some (suc power)) = ap closed_end (sym (power_faults power))

-- an end with a report behind it, that is due
module _ {O D : Type 0} (text : sink_of.Ghosts O) (told : sectors_of.Ghosts D) (old new : O × D) (x : device.Environment) (y : System) (s : State) (wanted steps t : ℕ) where
  due_so : (due : RunEnd) → power_end (run_at x y s Boot wanted steps) ≡ due → (report : List Call) → IsReport due report → (end : RunEnd) →
      RunEndsBy text told old new (untold_script x s t (end_within x s wanted steps - t) ++ report) due end → EndsUntold text told old new (run_at x y s Boot wanted steps) t end
  due_so due is report reports end w = record {
    report = report;
    is_report = subst (λ (e : RunEnd). IsReport e report) (sym is) reports;
    ends = subst (λ (e : RunEnd). RunEndsBy text told old new (untold_script x s t (end_within x s wanted steps - t) ++ report) e end) (sym is) w;
  }

-- no report stands behind any end
no_report : (due : RunEnd) → IsReport due []
no_report ends.Done = tt
no_report ends.Stopped = refl
no_report ends.KernelFaulted = refl
no_report ends.OutOfSteps = refl
no_report ends.DiskFault = refl
no_report ends.SinkFault = refl
no_report ends.ShelfFault = refl

-- ends that no call's fault makes, by whether the kernel faulted
faulted_end : (e : RunEnd) → is_faulted e ≡ true → e ≡ ends.KernelFaulted
faulted_end ends.KernelFaulted h = refl
faulted_end ends.Done h = absurd (cc)
faulted_end ends.Stopped h = absurd (cc)
faulted_end ends.OutOfSteps h = absurd (cc)
faulted_end ends.DiskFault h = absurd (cc)
faulted_end ends.SinkFault h = absurd (cc)
faulted_end ends.ShelfFault h = absurd (cc)

done_end : (e : RunEnd) → EndsUnsaved e → is_faulted e ≡ false → e ≢ ends.OutOfSteps → of_end e ≡ None → e ≡ ends.Done
done_end ends.Done plain h other none = refl
done_end ends.Stopped plain h other none = absurd plain
done_end ends.KernelFaulted plain h other none = absurd (cc)
done_end ends.OutOfSteps plain h other none = absurd (other refl)
done_end ends.DiskFault plain h other none = absurd (let n = none in cc)
done_end ends.SinkFault plain h other none = absurd (let n = none in cc)
done_end ends.ShelfFault plain h other none = absurd plain

-- THE LOOP FAILED
pub rest_broken : {L O D : Type 0} (T : Type 0) (text : sink_of.Ghosts O) (told : sectors_of.Ghosts D) (r new : Kept L) (o o1 : O) (d d1 : D) (turns budget left : ℕ) (counts : TurnLaws) (f : RunFault) →
    AnyGoRuns (told.size d) r turns (run_around r (told.sectors d) budget) (run_around new (told.sectors d1) left) (Err f) → GoUntold {T = T} text told r turns budget (o, d) (o1, d1) (Err f) →
    RestUntold text told r turns budget (o, d) (o1, d1) (end_of_fault f)
rest_broken T text told r new o o1 d d1 turns budget left counts f goes calls y s k t wanted steps alone on fine comes here is more sum =
    let x = outside_of r.machine.rows (told.size d) in
    due_so text told (o, d) (o1, d1) x y s wanted steps t (power_end (run_at x y s Boot wanted steps)) refl [] (no_report (power_end (run_at x y s Boot wanted steps))) (end_of_fault f)
    (record {
      made = λ shelf. same_script (untold_script x s t (end_within x s wanted steps - t)) (untold_script x s t (end_within x s wanted steps - t) ++ []) (at text told shelf o d) (at text told shelf o1 d1) (of_end (end_of_fault f))
          (sym (append-nil (untold_script x s t (end_within x s wanted steps - t))))
          (subst (Performs (untold_script x s t (end_within x s wanted steps - t)) (at text told shelf o d) (at text told shelf o1 d1)) (sym (blames_so f)) (calls s k t wanted steps alone on fine comes here is more sum shelf));
      is = λ none. by f (sym (blames_so f) ∙ none) goes;
    })
  where
    by : (f : RunFault) → of_run f ≡ None → AnyGoRuns (told.size d) r turns (run_around r (told.sectors d) budget) (run_around new (told.sectors d1) left) (Err f) →
        end_of_fault f ≡ power_end (run_at (outside_of r.machine.rows (told.size d)) y s Boot wanted steps)
    by StepLimit none goes =
        let x = outside_of r.machine.rows (told.size d) in
        let late = goes s k t comes here is on in
        let sooner = late.1 in
        let same : t + budget ≡ steps = omega (arith, sum) in
        let end = none_within counts x s wanted steps (λ j le. no_end_before x s wanted (suc (t + budget)) (subst (λ i. NoSooner x s i (suc (t + budget))) more sooner) j (omega (arith, le, same))) in
        sym (ap (λ (b : Bool). end_by_power b (run x s (end_within x s wanted steps)).off) end.0)
    by Disk none goes = absurd (let h = none in cc)
    by Sink none goes = absurd (let h = none in cc)

-- OR CAME TO ITS END, and the run is closed
module _ {L O D : Type 0} (text : sink_of.Ghosts O) (told : sectors_of.Ghosts D) (r mid : Kept L) (o o1 o2 : O) (d d1 d2 : D) (turns budget left : ℕ) (counts : TurnLaws) (e : RunEnd)
    (goes : AnyGoRuns (told.size d) r turns (run_around r (told.sectors d) budget) (run_around mid (told.sectors d1) left) (Ok tt)) (calls : GoUntold {T = Unit {0}} text told r turns budget (o, d) (o1, d1) (Ok tt))
    (closes : CloseCalls text told mid (o1, d1) (o2, d2) e) (how : has_faulted mid.ended ≡ is_faulted e) (other : e ≢ ends.OutOfSteps) (plain : EndsUnsaved e) where
  -- the report, by whether the kernel faulted
  closed_by : (faulted : Bool) → has_faulted mid.ended ≡ faulted → (x : device.Environment) (y : System) (s : State) (wanted steps t : ℕ) → power_end (run_at x y s Boot wanted steps) ≡ closed_end faulted →
      CallsAreMade text told (o, d) (o1, d1) (untold_script x s t (end_within x s wanted steps - t)) None → EndsUntold text told (o, d) (o2, d2) (run_at x y s Boot wanted steps) t e
  closed_by true is x y s wanted steps t due made =
      let all : List Call = untold_script x s t (end_within x s wanted steps - t) in
      let kernel = faulted_end e (sym how ∙ is) in
      due_so text told (o, d) (o2, d2) x y s wanted steps t ends.KernelFaulted due [] refl e (record {
        made = λ shelf. same_script all (all ++ []) (at text told shelf o d) (at text told shelf o2 d2) (of_end e) (sym (append-nil all))
            (subst (Performs all (at text told shelf o d) (at text told shelf o2 d2)) (sym (ap of_end kernel))
            (subst (λ (q : O × D). Performs all (at text told shelf o d) (at text told shelf q.0 q.1) None) (sym (closes.none is)) (made shelf)));
        is = λ _. kernel;
      })
  closed_by false is x y s wanted steps t due made =
      let all : List Call = untold_script x s t (end_within x s wanted steps - t) in
      due_so text told (o, d) (o2, d2) x y s wanted steps t ends.Done due closes.some.0 closes.some.1 e (record {
        made = λ shelf. both all closes.some.0 (at text told shelf o d) (at text told shelf o1 d1) (at text told shelf o2 d2) (of_end e) (made shelf) (closes.some.2 shelf);
        is = λ none. done_end e plain (sym how ∙ is) other none;
      })

  pub rest_closed : RestUntold text told r turns budget (o, d) (o2, d2) e
  rest_closed y s k t wanted steps alone on fine comes here is more sum =
      let x = outside_of r.machine.rows (told.size d) in
      let g = goes s k t comes here is on in
      let spent : left + g.at ≡ budget + t = g.spent in
      let last = end_there x s wanted g.at (subst (λ i. ComesTo x s i g.at) more g.comes) in
      let end : end_within x s wanted steps ≡ g.at = counts.ends x s wanted steps g.at last (omega (arith, spent, sum)) in
      let ended : is_end x s wanted (end_within x s wanted steps) ≡ true = ap (is_end x s wanted) end ∙ last.here in
      let due : power_end (run_at x y s Boot wanted steps) ≡ closed_end (has_faulted mid.ended) =
      ap₂ (λ (b : Bool) (off : Option ℕ). end_by_power b off) ended (ap (λ i. (run x s i).off) end) ∙ power_is (run x s g.at).off ∙ ap (λ (q : Option Next). closed_end (has_faulted q)) (sym g.ended) in
      closed_by (has_faulted mid.ended) refl x y s wanted steps t due (λ shelf. calls s k t wanted steps alone on fine comes here is more sum shelf)
