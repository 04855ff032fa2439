-- What a resume of a saved run leaves where its steps were spent or a call failed.
use Rattle.std.specs.Prelude.{Option, Some, None, IfSome, slice_index, if◌then◌else◌}
use Rattle.std.specs.Option.{IsSome, option_map}
use Rattle.std.specs.Io.KnownBytes.{append_known}
use Rattle.std.proofs.Common.{◌≡◌, ℕ, suc, ◌+◌, ◌-◌, ◌<◌, ◌≤◌, Bool, true, false, List, [], length, take, refl, sym, ap, ◌∙◌, subst, arith}
use Rattle.std.proofs.lemmas.List.{take_all}
use Rattle.cvm_outside.specs.Told.{AppendsPart}
use Rattle.cvm_outside.specs.Outside.{Outside, Output, Drive}
use Rattle.cvm_outside.specs.Script.{Call, Who, TheSink, TheDisk, TheShelf, Performs, WritesNoSector, sectors_after}
use Rattle.cvm_outside.specs.ScriptLaws.{ScriptsTell, ScriptsStore}
use Rattle.cvm_outside.proofs.RowsPut.{unwritten}
use Rattle.kernel_linker.specs.Accept.{ImageSystem}
use Rattle.mips_machine.specs.Steps.{script_of_step}
use Rattle.mips_table.specs.Turns.{is_end, end_within}
use Rattle.saved_file.specs.Answer.{answer as machine_of, AnswersAreResumable}
use Rattle.schedule_file.specs.Rows.{Rows}
use Rattle.boot_turns.specs.Runs.{Run, Past, IsPast, state_at, turns_at, steps_made, has_ended, cvm_at}
use Rattle.boot_turns.specs.StepScript.{rows_script, step_script, steps_script}
use Rattle.boot_run.specs.Closing.{closing_script}
use Rattle.boot_run.specs.SavedRuns.{IsDisk}
use Rattle.boot_run.specs.RunScript.{rest_script}
use Rattle.boot_run.specs.SavedFiles.{wanted_of}
use Rattle.boot_run.proofs.AbstractRuns.{on_before}
use Rattle.run_scripts.specs.declared.exit_status.Status.{Status}
use Rattle.run_scripts.specs.declared.exit_status.Status.TheVariants.{StepLimit}
use Rattle.run_scripts.specs.Command.{Save, IsResume, save_session, resume}
use Rattle.run_scripts.specs.Ends.{SavedRun, answered}
use Rattle.run_scripts.specs.Plan.{resumes, boot_of_image}
use Rattle.run_scripts.specs.RunStatus.{run_status}
use Rattle.run_scripts.specs.SessionRuns.{run_of}
use Rattle.run_scripts.specs.Faults.{Stand, PrintedBehind, BeginsBehind, AfterRest, in_step, in_report, AfterResume, ResumeFaultsLeave}
use Rattle.run_scripts.specs.AskedRuns.{Asked, ended_text, text_at, whole_text}
use Rattle.run_scripts.specs.Keys.{ScriptLaws}
use Rattle.run_scripts.specs.Saving.{GoesOnAsBoot}
use Rattle.run_scripts.proofs.BrokenScripts.{Broken, in_first, in_second, part, within, not_none, blames}
use Rattle.run_scripts.proofs.FaultsLeave.{Three, Four, of_three, not_shelf, not_memory, spent}
use Rattle.run_scripts.proofs.ResumeScripts.{resumes_join}
use Rattle.run_scripts.proofs.KeysOfEachRun.{known}
use Rattle.run_scripts.proofs.ScriptsMadeOf.{of_report, of_rows}
use Rattle.run_scripts.proofs.RowsAlongRuns.{Known}
use Rattle.run_scripts.proofs.PerformedScripts.{says_text}
use Rattle.run_scripts.proofs.DiskDoesntMatter.{with_disk, other_disk}
use Rattle.run_scripts.proofs.ReportsTell.{rest_tells}
use Rattle.run_scripts.proofs.RunFaults.{disk_due}
use Rattle.run_scripts.proofs.TurnsRise.{no_later}
use Rattle.run_scripts.proofs.StoredRuns.{quiet, steps_leave, rest_leaves}
use Rattle.run_scripts.proofs.ScriptsStore.{step_stores}
use Rattle.run_scripts.proofs.ResumedMachines.{machine_is_read}
use Rattle.run_scripts.proofs.ScriptsTell.{Tells, steps_tell}

not_disk : TheSink ≡ TheDisk → ⊥
not_disk e = cc

some_bytes : (told : Option (List ℕ)) → IsSome told → (bytes : List ℕ) × (told ≡ Some bytes)
some_bytes None h = absurd (cc)
some_bytes (Some bytes) h = (bytes, refl)

-- OF A RUN that stands behind so many steps, with its text up to there
module _ (tell : ScriptsTell) (store : ScriptsStore) (r : Run) (k : Known r) (p : Past) (is : IsPast r p) (made : ℕ) (few : made ≤ steps_made r) (old mid : Outside) (sink : mid.sink ≡ old.sink) (stands : Stand r made mid) where
  all : made + (steps_made r - made) ≡ steps_made r
  all = omega (arith, few)

  behind : (a : List Call) (at : Outside) (text : List ℕ) → Tells a (text_at r p made) text → Performs a mid at None → PrintedBehind old at (text_at r p made) text
  behind a at text w q = let t = says_text tell a old mid at (text_at r p made) text w sink q in record { more = t.text; whole = t.is; printed = t.printed }

  steps_behind : (n : ℕ) (at : Outside) → made + n ≤ steps_made r → Performs (steps_script r p made n) mid at None → PrintedBehind old at (text_at r p made) (text_at r p (made + n))
  steps_behind n at le q = behind (steps_script r p made n) at (text_at r p (made + n)) (steps_tell r k p is made n le) q

  steps_stand : (n : ℕ) (at : Outside) → made + n ≤ steps_made r → Performs (steps_script r p made n) mid at None → Stand r (made + n) at
  steps_stand n at le q =
      store (steps_script r p made n) mid at q ∙ ap (option_map (sectors_after (steps_script r p made n))) stands
      ∙ ap (λ (x : List (List ℕ)). Some x) (steps_leave k.count r p made n le)

  -- a row was put behind the transfer of its step
  row_stands : (t : ℕ) (at new : Outside) → t < steps_made r → Stand r t at → Performs (step_script r p t) at new (Some TheSink) → Stand r (suc t) new
  row_stands t at new lt h q = by (part (script_of_step r.around (state_at r t)) (rows_script r.view r p t) at new TheSink q)
    where
      by : Broken (script_of_step r.around (state_at r t)) (rows_script r.view r p t) at new TheSink → Stand r (suc t) new
      by (in_first z) = absurd (not_disk (blames TheDisk (script_of_step r.around (state_at r t)) at new TheSink (disk_due r.around (state_at r t)) z))
      by (in_second late z rows) =
          unwritten (rows_script r.view r p t) late new (Some TheSink) (of_rows WritesNoSector quiet r.view r p t) rows ∙ store (script_of_step r.around (state_at r t)) at late z
          ∙ ap (option_map (sectors_after (script_of_step r.around (state_at r t)))) h ∙ ap (λ (x : List (List ℕ)). Some x) (step_stores r t (on_before k.count r t lt))

  steps_broken : (whom : Who) (new : Outside) → Performs (steps_script r p made (steps_made r - made)) mid new (Some whom) → AfterRest whom r p made old new
  steps_broken whom new q =
      let w = within (λ i. step_script r p (made + i)) (steps_made r - made) mid new whom q in
      let l = w.less in
      let h = steps_stand w.number w.mid (omega (arith, l, few)) w.before in
      in_step (made + w.number) w.mid (omega arith) (omega (arith, l, few)) h (steps_behind w.number w.mid (omega (arith, l, few)) w.before) w.breaks_off
      (λ e. row_stands (made + w.number) w.mid new (omega (arith, l, few)) h (subst (λ (x : Who). Performs (step_script r p (made + w.number)) w.mid new (Some x)) e w.breaks_off))

  pub rest_broken : (whom : Who) (new : Outside) → Performs (rest_script r p made) mid new (Some whom) → AfterRest whom r p made old new
  rest_broken whom new q = by (part (steps_script r p made (steps_made r - made)) (if has_ended r then closing_script r p else []) mid new whom q)
    where
      end : (at : Outside) → Performs (steps_script r p made (steps_made r - made)) mid at None → (b : Bool) → has_ended r ≡ b → Performs (if b then closing_script r p else []) at new (Some whom) →
          AfterRest whom r p made old new
      end at z true e w =
          let h : Stand r (steps_made r) at = subst (λ (n : ℕ). Stand r n at) all (steps_stand (steps_made r - made) at (omega (arith, few)) z) in
          in_report at e h
          (subst (λ (n : ℕ). PrintedBehind old at (text_at r p made) (text_at r p n)) all (steps_behind (steps_made r - made) at (omega (arith, few)) z)) w
          (unwritten (closing_script r p) at new (Some whom) (of_report WritesNoSector quiet r.view r p (steps_made r)) w ∙ h)
      end at z false e w = absurd (not_none at new whom w)

      by : Broken (steps_script r p made (steps_made r - made)) (if has_ended r then closing_script r p else []) mid new whom → AfterRest whom r p made old new
      by (in_first z) = steps_broken whom new z
      by (in_second at z w) = end at z (has_ended r) refl w

  -- the steps were spent
  pub rest_spent : (new : Outside) → has_ended r ≡ false → Performs (rest_script r p made) mid new None → AfterResume StepLimit r p made old new
  rest_spent new e q =
      let text : whole_text r p ≡ text_at r p (steps_made r) = ap (λ (b : Bool). if b then ended_text r.view r p (steps_made r) else text_at r p (steps_made r)) e in (
        e,
        subst (PrintedBehind old new (text_at r p made)) text (behind (rest_script r p made) new (whole_text r p) (rest_tells r k p is made few) q),
        store (rest_script r p made) mid new q ∙ ap (option_map (sectors_after (rest_script r p made))) stands ∙ ap (λ (x : List (List ℕ)). Some x) (rest_leaves k.count r p made few),
      )

  -- and in each case the first of what is left is printed
  pub begins : (b : Option Who) (new : Outside) → Performs (rest_script r p made) mid new b → BeginsBehind old new (text_at r p made) (whole_text r p)
  begins None new q =
      let t = says_text tell (rest_script r p made) old mid new (text_at r p made) (whole_text r p) (rest_tells r k p is made few) sink q in
      record { more = t.text; whole = t.is; count = length t.text; printed = t.printed ∙ ap (append_known old.sink.text) (sym (take_all (length t.text) t.text (omega arith))) }
  begins (Some whom) new q =
      let w = rest_tells r k p is made few in
      let some : AppendsPart mid.sink.text new.sink.text w.text =
      subst (λ (m : Option (List ℕ)). IfSome m (AppendsPart mid.sink.text new.sink.text)) w.told (tell (rest_script r p made) mid new (Some whom) q) in
      record { more = w.text; whole = w.is; count = some.0; printed = some.1 ∙ ap (λ (o : Output). append_known o.text (take some.0 w.text)) sink }

-- OF A RESUME
module _ (law : ScriptLaws) (read : AnswersAreResumable machine_of) (words : List (List ℕ)) (d : Save) (s : ImageSystem) (rows : Rows) (machine : List ℕ) (left before : List (List ℕ)) (old new : Outside) (status : Status) (p : Past)
    (made : ℕ) (is : IsResume words d) (a : Asked words (resumes (save_session d) s rows machine) (save_session d) s rows left old) (disk : IsDisk old.disk.size before)
    (w : SavedRun (save_session d) s rows machine old.disk.size left (run_of (save_session d) s rows old.disk.size before) p made) where
  abbrev r : Run
  r = run_of (save_session d) s rows old.disk.size before

  its : Known r
  its = known law.runs words (resumes (save_session d) s rows machine) (save_session d) s rows before (with_disk old before) (other_disk words _ (save_session d) s rows left before old a disk)

  -- it had no more turns than the resume is given, and so no more steps than the boot makes
  few_turns : turns_at r made ≤ d.boot.turns
  few_turns =
      let b = some_bytes (old.shelf.file d.file) (a.files (resume d) is).1.1.0 in
      subst (λ (n : ℕ). n ≤ d.boot.turns) (ap (λ (ws : List ℕ). slice_index ws 5) w.saved.words_are)
      (read (wanted_of (boot_of_image s) rows.inputs d.boot.turns) b.0 machine (machine_is_read words old.shelf.file d s rows machine b.0 is a.is_plan b.1)).turns

  there : end_within r.around r.first (turns_at r made) made ≡ made
  there = law.runs.count.ends r.around r.first (turns_at r made) made made w.saved.first (omega arith)

  none_later : made ≤ steps_made r
  none_later = subst (λ (n : ℕ). n ≤ steps_made r) there
      (no_later law.runs.count r.around r.first (turns_at r made) d.boot.turns made d.boot.steps few_turns w.saved.few
      (subst (λ (n : ℕ). is_end r.around r.first (turns_at r made) n ≡ true) (sym there) w.saved.first.here))

  left_so : (j : GoesOnAsBoot r p made old new status) → Three status → AfterResume status r p made old new × BeginsBehind old new (text_at r p made) (whole_text r p)
  left_so j three = (by j.blamed j.status_is j.performs, begins law.tell law.store r its p w.saved.is_past made none_later old j.mid j.sink stands j.blamed new j.performs)
    where
      stands : Stand r made j.mid
      stands = ap (λ (x : Drive). x.sectors) j.disk ∙ a.sectors ∙ ap (λ (x : List (List ℕ)). Some x) w.saved.left_is

      by : (b : Option Who) → status ≡ answered (run_status r p) b → Performs (rest_script r p made) j.mid new b → AfterResume status r p made old new
      by None e q =
          let n = spent (has_ended r) (cvm_at r p (steps_made r)).status status e (of_three status three) in
          subst (λ (st : Status). AfterResume st r p made old new) (sym n.1) (rest_spent law.tell law.store r its p w.saved.is_past made none_later old j.mid j.sink stands new n.0 q)
      by (Some TheSink) e q = subst (λ (st : Status). AfterResume st r p made old new) (sym e) (rest_broken law.tell law.store r its p w.saved.is_past made none_later old j.mid j.sink stands TheSink new q)
      by (Some TheDisk) e q = subst (λ (st : Status). AfterResume st r p made old new) (sym e) (rest_broken law.tell law.store r its p w.saved.is_past made none_later old j.mid j.sink stands TheDisk new q)
      by (Some TheShelf) e q = absurd (not_shelf (subst Three e three))

pub resume_faults_leave : ScriptLaws → AnswersAreResumable machine_of → ResumeFaultsLeave
resume_faults_leave law read words d s rows machine left old new status r p made is a w three ends =
    subst (λ (q : Run). SavedRun (save_session d) s rows machine old.disk.size left q p made → GoesOnAsBoot q p made old new status →
    AfterResume status q p made old new × BeginsBehind old new (text_at q p made) (whole_text q p)) (sym w.run_is)
    (λ z j. left_so law read words d s rows machine left w.sectors old new status p made is a w.disk z j three) w
    (resumes_join words d s rows machine left old new status r p made is a w ends (λ e. not_memory (subst Four e (of_three status three))) (λ e. not_shelf (subst Three e three)))
