-- The promises of a save and of a resume, from the laws.
use Rattle.std.specs.Prelude.{Option, Some, None, Ok, codes, slice_index, if◌then◌else◌, ◌≢◌}
use Rattle.std.specs.List.{flat_map}
use Rattle.std.proofs.Common.{◌≡◌, ◌⊎◌, inl, inr, ℕ, zero, suc, ◌+◌, ◌*◌, ◌-◌, ◌≤◌, Bool, true, false, List, [], ◌∷◌, ◌++◌, length, refl, sym, ap, ap₂, ◌∙◌, subst, arith}
use Rattle.cvm_outside.specs.Outside.{Outside}
use Rattle.cvm_outside.specs.Script.{Who, Performs, sectors_after}
use Rattle.cvm_words.specs.Bytes.{word}
use Rattle.cvm_words.proofs.BytesOfWords.{length-words}
use Rattle.schedule_file.specs.Rows.{Rows}
use Rattle.mips_table.specs.Turns.{IsTurnEnd, end_within, is_end}
use Rattle.mips_machine.specs.Saved.{saved, SavedOnce}
use Rattle.cvm_model.specs.Cvm.{Cvm, Status as CvmStatus, Running, Halted, Faulted, IsCvm, first_cvm}
use Rattle.cvm_model.specs.Text.{rows_text}
use Rattle.layer_contract.specs.Layer.{Rests}
use Rattle.saved_file.specs.Answer.{answer as machine_of, AnswersAreResumable}
use Rattle.saved_file.specs.Resumable.{CanBeResumed}
use Rattle.boot_run.specs.declared.whole.RunEnd.{RunEnd}
use Rattle.boot_run.specs.declared.whole.RunEnd.TheVariants.{Done as IsDone}
use Rattle.run_scripts.specs.RanFrom.{ending, RanFrom}
use Rattle.boot_turns.specs.Runs.{Run, Past, IsPast, state_at, turns_at, steps_made, has_ended, lines_met, cvm_at}
use Rattle.boot_turns.specs.TurnEnds.{RestsAfter, TurnIsOver}
use Rattle.boot_run.specs.SavedRuns.{SavedAt}
use Rattle.boot_run.specs.RunScript.{rest_script, saved_words, saved_bytes}
use Rattle.boot_run.proofs.AbstractRuns.{past_of, turns_up_to}
use Rattle.boot_run.proofs.SavedTakenUp.{goes_on}
use Rattle.kernel_linker.specs.Accept.{ImageSystem}
use Rattle.boot_run.specs.SaveRoom.{FILE_ROOM}
use Rattle.boot_run.specs.RunCalls.{end_by}
use Rattle.boot_run.specs.SavedFiles.{wanted_of}
use Rattle.run_scripts.specs.declared.exit_status.Status.{Status}
use Rattle.run_scripts.specs.declared.exit_status.Status.TheVariants.{Done, KernelFault}
use Rattle.run_scripts.specs.Boot.{sectors_needed, SessionGoesOn}
use Rattle.run_scripts.specs.CommandEnds.{HasSteps}
use Rattle.run_scripts.specs.Command.{Save, IsSave, IsResume, save_session, Command, resume}
use Rattle.run_scripts.specs.Ends.{WasDone, SavedRun, answered}
use Rattle.run_scripts.specs.Plan.{saves, resumes, frames_of, boot_of_image}
use Rattle.run_scripts.specs.Resumes.{IsHonestResume, IsSavedRun, IsBootBehind}
use Rattle.run_scripts.specs.RunStatus.{run_status, status_of_end}
use Rattle.run_scripts.specs.Saves.{SaveHolds, as_boot, is_saved, IsHonestSave}
use Rattle.run_scripts.specs.SessionRuns.{run_of}
use Rattle.run_scripts.specs.AskedRuns.{Asked, saved_so, resumed_so, EndIsOver, text_at, whole_text}
use Rattle.run_scripts.proofs.PromisesByRuns.{ItGoesOn, IsSaved, IsUnsaved, SavedSo}
use Rattle.run_scripts.specs.Keys.{LawsOfRuns, ScriptLaws}
use Rattle.run_scripts.specs.Served.{NoneFailed, ShelfServes, AreSurelyGiven}
use Rattle.run_scripts.specs.Promises.{SavesAreHeld, SavesAreComplete, ResumesAreHeld, ResumesAreComplete}
use Rattle.run_scripts.proofs.PlansAreAsked.{asked_save, asked_resume}
use Rattle.run_scripts.proofs.StatusesCaused.{mid_disk}
use Rattle.run_scripts.proofs.RunsComplete.{run_done, it_goes_on}
use Rattle.run_scripts.proofs.ResumeScripts.{saved_joins}
use Rattle.run_scripts.proofs.KeysOfEachRun.{known, ends_are_over, sectors_behind_stay}
use Rattle.run_scripts.proofs.RowsAlongRuns.{Known, founded}
use Rattle.run_scripts.proofs.PerformedScripts.{Says, says_text, leaves_sectors}
use Rattle.run_scripts.proofs.RunPromises.{told_disk, was_done, plan_finds, ran, headline_told}
use Rattle.run_scripts.proofs.NothingElseRefused.{none_blamed}
use Rattle.run_scripts.proofs.DiskDoesntMatter.{with_disk, other_disk}
use Rattle.run_scripts.proofs.ReportsTell.{rest_tells}
use Rattle.run_scripts.proofs.SavedMachines.{saved_at, FileLaws}
use Rattle.run_scripts.proofs.TurnsRise.{no_later}
use Rattle.run_scripts.proofs.StoredRuns.{rest_leaves}
use Rattle.run_scripts.proofs.SavesHold.{saves_hold}
use Rattle.run_scripts.proofs.ResumesGoOn.{resumes_go_on}
use Rattle.run_scripts.proofs.SavesComplete.{saves_complete}
use Rattle.cvm_outside.specs.Causes.{Rose}
use Rattle.run_scripts.proofs.OneCommand.{one_command}

-- THE PREMISES
pub asked_save_of : (words : List (List ℕ)) (c : Save) (s : ImageSystem) (rows : Rows) (before : List (List ℕ)) (old new : Outside) (status : Status) → WasDone words old new status
    → IsHonestSave words c s rows before old new → Asked words (saves (save_session c) s rows c.file) (save_session c) s rows before old
asked_save_of words c s rows before old new status d h =
    let p = asked_save words c s rows before old new h in
    let t = plan_finds words old new status d (saves (save_session c) s rows c.file) p.1 p.0 in
    record {
      files = p.1;
      bytes = t.files;
      is_plan = p.0;
      runs = saved_so c.file;
      user = tt;
      sectors = h.sectors;
      disk = told_disk old.disk.sectors old.disk.size before t.disk h.sectors;
      enough = h.enough;
    }

pub asked_resume_of : (words : List (List ℕ)) (c : Save) (s : ImageSystem) (rows : Rows) (machine : List ℕ) (left : List (List ℕ)) (old new : Outside) (status : Status) → WasDone words old new status
    → IsHonestResume words c s rows machine left old new → Asked words (resumes (save_session c) s rows machine) (save_session c) s rows left old
asked_resume_of words c s rows machine left old new status d h =
    let p = asked_resume words c s rows machine left old new h in
    let t = plan_finds words old new status d (resumes (save_session c) s rows machine) p.1 p.0 in
    record {
      files = p.1;
      bytes = t.files;
      is_plan = p.0;
      runs = resumed_so machine;
      user = tt;
      sectors = h.sectors;
      disk = told_disk old.disk.sectors old.disk.size left t.disk h.sectors;
      enough = h.enough;
    }

-- A RUN THAT IS DONE, but not left to be saved, was halted
same_cvm : (a b : Cvm) → Some a ≡ Some b → a ≡ b
same_cvm a b e = cc

not_halted : Running ≡ Halted → ⊥
not_halted e = cc

module _ (r : Run) (p : Past) (is : IsPast r p) (over : EndIsOver r) where
  abbrev n : ℕ
  n = steps_made r

  rests_halted : (k : ℕ) → RestsAfter r.around r.system r.first k n (cvm_at r p n) → IsCvm r.system (lines_met r) k (cvm_at r p n) → (cvm_at r p n).status ≡ Halted → (state_at r n).off ≡ Some 0
  rests_halted zero h c e = absurd (not_halted (ap (λ (x : Cvm). x.status) (same_cvm (first_cvm r.system) (cvm_at r p n) c.is) ∙ e))
  rests_halted (suc k) h c e = subst (λ (st : CvmStatus). Rests st (state_at r n)) e h.0

  halts : (b : Bool) → has_ended r ≡ b → (st : CvmStatus) → (cvm_at r p n).status ≡ st → ((b ≡ true) × (st ≡ Running) → ⊥) → end_by b st ≡ IsDone → (state_at r n).off ≡ Some 0
  halts true e Running s never d = absurd (never (refl, refl))
  halts true e Halted s never d = let c = is.turns (turns_at r n) (omega arith) in rests_halted (turns_at r n) (over (cvm_at r p n) c e).rests c s
  halts true e (Faulted f) s never d = absurd (cc)
  halts false e st s never d = absurd (cc)

  pub halted : ((has_ended r ≡ true) × ((cvm_at r p n).status ≡ Running) → ⊥) → ending r.around r.first r.turns r.steps (cvm_at r p n) ≡ IsDone → (state_at r n).off ≡ Some 0
  halted never d = halts (has_ended r) refl (cvm_at r p n).status refl never d

-- THE FILE of a machine isn't too long
short_file : (words : List ℕ) (log frames : ℕ) → length words ≡ 1080 + log + 1024 * frames → log ≤ 4096 → 4 * (5176 + 1024 * frames) ≤ FILE_ROOM → length (flat_map word words) ≤ FILE_ROOM
short_file words log frames whole few room = let four = length-words words in omega (arith, four, whole, few, room)

-- THE THEOREM OF SAVE
module _ (law : LawsOfRuns) (read : AnswersAreResumable machine_of) (words : List (List ℕ)) (c : Save) (s : ImageSystem) (rows : Rows) (before : List (List ℕ)) (old new : Outside) (status : Status)
    (a : Asked words (saves (save_session c) s rows c.file) (save_session c) s rows before old) (asked : IsSave words c) (room : 4 * (5176 + 1024 * frames_of s) ≤ FILE_ROOM)
    (goes : SessionGoesOn (save_session c) old s rows before) (h : SavedSo c s rows (run_of (save_session c) s rows old.disk.size before) before old new status) where
  abbrev r : Run
  r = run_of (save_session c) s rows old.disk.size before

  abbrev made : ℕ
  made = steps_made r

  as_its_boot : IsUnsaved r h.past old new → SaveHolds c s rows before old new status
  unfolding headline_told
  as_its_boot u =
      as_boot (headline_told (save_session c) s rows before old new status
      (record { past = h.past; is_past = h.is_past; machine = h.machine; status_is = h.status_is; text = u.text; over = h.over }) goes)
      (halted r h.past h.is_past h.over u.ended) u.files

  -- a run that is left
  module _ (w : IsSaved c s rows r h.past old new) where
    abbrev Ran : RunEnd → List ℕ → Type 0
    Ran e text = RanFrom r.around r.system r.first (sectors_needed (save_session c) s rows) before (state_at r made).device.sectors r.view r.turns r.steps e text

    is_done : end_by (has_ended r) (cvm_at r h.past made).status ≡ IsDone
    is_done = ap₂ end_by w.left.0 w.left.1

    boots_so : Ran IsDone (text_at r h.past made ++ (codes "stopped\n" ++ w.rest))
    boots_so = subst (λ (e : RunEnd). Ran e (text_at r h.past made ++ (codes "stopped\n" ++ w.rest))) is_done
        (subst (λ (text : List ℕ). Ran (ending r.around r.first r.turns r.steps (cvm_at r h.past made)) text) w.boot
        (ran r h.past h.is_past (sectors_needed (save_session c) s rows) before (record { are = refl; beyond = h.machine.beyond }) h.over))

    some : r.turns ≡ suc (r.turns - 1)
    some = let least = asked.some_turns in omega (arith, least)

    its_file : SavedAt r.around r.system r.first r.turns r.steps (saved_words r h.past) (state_at r made).device.sectors (text_at r h.past made)
    its_file = subst (λ (k : ℕ). SavedAt r.around r.system r.first k r.steps (saved_words r h.past) (state_at r made).device.sectors (text_at r h.past made)) (sym some)
        (saved_at r (known law words (saves (save_session c) s rows c.file) (save_session c) s rows before old a) h.past h.is_past w.left (r.turns - 1) some)

    can : CanBeResumed (wanted_of (boot_of_image s) rows.inputs c.boot.turns) (saved_words r h.past)
    can = read (wanted_of (boot_of_image s) rows.inputs c.boot.turns) (saved_bytes r h.past) (saved_words r h.past) (w.fits c.boot.turns (omega arith) asked.turns_fit)

    was_left : SaveHolds c s rows before old new status
    was_left = is_saved (h.status_is ∙ ap status_of_end is_done) h.others (record {
      after = (state_at r made).device.sectors;
      words = saved_words r h.past;
      shown = text_at r h.past made;
      rest = w.rest;
      disk = a.disk;
      sectors = h.machine.are;
      saved_at = its_file;
      ran = boots_so;
      goes_on = goes;
      short = short_file (saved_words r h.past) (slice_index (saved_words r h.past) 55) (frames_of s) can.saved.whole can.saved.log room;
      fits = w.fits;
      left = (w.file, w.text);
    })

  holds : SaveHolds c s rows before old new status
  holds = by h.which
    where
      by : IsSaved c s rows r h.past old new ⊎ IsUnsaved r h.past old new → SaveHolds c s rows before old new status
      by (inl w) = was_left w
      by (inr u) = as_its_boot u

-- NO CALL of its command failed
pub no_save_failed : (words : List (List ℕ)) (c : Save) (s : ImageSystem) (rows : Rows) (before : List (List ℕ)) (old new : Outside) → IsHonestSave words c s rows before old new → NoneFailed words old new
no_save_failed words c s rows before old new h = record { shelf = λ d also. inr h.unfailed.shelf; sink = h.unfailed.sink; disk = h.unfailed.disk }

pub saves_are_held : ScriptLaws → FileLaws → AnswersAreResumable machine_of → SavesAreHeld
saves_are_held law files read words old new status ends c s rows before honest memory =
    let f = no_save_failed words c s rows before old new honest in
    let a = asked_save_of words c s rows before old new status (was_done law.blame words old new status ends f memory) honest in
    holds law.runs read words c s rows before old new status a honest.asked honest.short
    (it_goes_on law.runs words _ (save_session c) s rows before old a) (saves_hold law files words c s rows before old new status honest.asked a f ends memory)

pub saves_are_complete : ScriptLaws → SavesAreComplete
saves_are_complete law words old new status ends c s rows before honest memory has =
    let f = no_save_failed words c s rows before old new honest in
    let a = asked_save_of words c s rows before old new status (was_done law.blame words old new status ends f memory) honest in
    saves_complete law.blame law.runs words c s rows before old new status honest.asked a f ends memory (record { last = has.last; defined = has.defined; enough = has.enough })

-- THE THEOREM OF RESUME
module _ (law : ScriptLaws) (read : AnswersAreResumable machine_of) (goes : ItGoesOn) (words : List (List ℕ)) (c : Save) (s : ImageSystem) (rows : Rows) (machine : List ℕ) (left before : List (List ℕ)) (shown : List ℕ)
    (old : Outside) (is : IsResume words c) (a : Asked words (resumes (save_session c) s rows machine) (save_session c) s rows left old) (bytes : List ℕ)
    (fits : machine_of (wanted_of (boot_of_image s) rows.inputs c.boot.turns) bytes ≡ Ok machine) (w : IsSavedRun c s rows machine left before shown old) where
  abbrev whole : Run
  whole = run_of (save_session c) s rows old.disk.size before

  abbrev at : ℕ
  at = w.saved_at.at

  asked : Asked words (resumes (save_session c) s rows machine) (save_session c) s rows before (with_disk old before)
  asked = other_disk words _ (save_session c) s rows left before old a w.disk

  its : Known whole
  its = known law.runs words (resumes (save_session c) s rows machine) (save_session c) s rows before (with_disk old before) asked

  -- it had no more turns than the resume is given, and so no more steps than the boot makes
  turns_told : slice_index machine 5 ≡ w.turns
  turns_told = ap (λ (ws : List ℕ). slice_index ws 5) w.saved_at.words_are

  few : w.turns ≤ c.boot.turns
  few = subst (λ (k : ℕ). k ≤ c.boot.turns) turns_told (read (wanted_of (boot_of_image s) rows.inputs c.boot.turns) bytes machine fits).turns

  there : end_within whole.around whole.first w.turns w.steps ≡ at
  there = law.runs.count.ends whole.around whole.first w.turns w.steps at w.saved_at.end w.saved_at.within

  none_later : at ≤ steps_made whole
  none_later = subst (λ (k : ℕ). k ≤ steps_made whole) there
      (no_later law.runs.count whole.around whole.first w.turns c.boot.turns w.steps c.boot.steps few w.fewer
      (subst (λ (k : ℕ). is_end whole.around whole.first w.turns k ≡ true) (sym there) w.saved_at.end.here))

  -- there the abstract run goes on, as its machine does, and so all these turns are complete
  here : (c : Cvm) × IsCvm whole.system (lines_met whole) (turns_at whole at) c
  here = its.machines.defined at

  over : TurnIsOver whole.around whole.system whole.first w.turns at here.0
  over =
      subst (λ (n : ℕ). IsCvm whole.system (lines_met whole) (turns_at whole n) here.0 → is_end whole.around whole.first w.turns n ≡ true → TurnIsOver whole.around whole.system whole.first w.turns n here.0) there
      (its.machines.ends w.turns w.steps here.0) here.1 w.saved_at.end.here

  rests_running : (k : ℕ) → RestsAfter whole.around whole.system whole.first k at here.0 → IsCvm whole.system (lines_met whole) k here.0 → here.0.status ≡ Running
  rests_running zero h c = sym (ap (λ (x : Cvm). x.status) (same_cvm (first_cvm whole.system) here.0 c.is))
  rests_running (suc k) h c = goes_on here.0.status (state_at whole at) w.saved_at.on h.0

  running : here.0.status ≡ Running
  running = rests_running (turns_at whole at) over.rests here.1

  all_turns : turns_at whole at ≡ w.turns
  all_turns = by over.over
    where
      by : (turns_at whole at ≡ w.turns) ⊎ (here.0.status ≢ Running) → turns_at whole at ≡ w.turns
      by (inl e) = e
      by (inr n) = absurd (n running)

  past_is : here.0 ≡ w.saved_at.past
  past_is = its.machines.same (turns_at whole at) here.0 w.saved_at.past here.1 (subst (λ (k : ℕ). IsCvm whole.system (lines_met whole) k w.saved_at.past) (sym all_turns) w.saved_at.cvm)

  module _ (p : Past) (past : IsPast whole p) where
    same : cvm_at whole p at ≡ w.saved_at.past
    same = its.machines.same (turns_at whole at) (cvm_at whole p at) w.saved_at.past
        (past.turns (turns_at whole at) (turns_up_to law.runs.count whole at (steps_made whole) none_later))
        (subst (λ (k : ℕ). IsCvm whole.system (lines_met whole) k w.saved_at.past) (sym all_turns) w.saved_at.cvm)

    saved_run : SavedRun (save_session c) s rows machine old.disk.size left whole p at
    saved_run =
        let within = w.saved_at.within in
        let less = w.fewer in
        record {
          sectors = before;
          run_is = refl;
          disk = w.disk;
          saved = record {
            is_past = past;
            first = subst (λ (k : ℕ). IsTurnEnd whole.around whole.first k at) (sym all_turns) w.saved_at.end;
            few = omega (arith, within, less);
            on = ap (λ (x : Cvm). x.status) (same ∙ sym past_is) ∙ running;
            words_are = w.saved_at.words_are ∙ ap₂ (λ (k : ℕ) (x : Cvm). saved rows.inputs (state_at whole at) k x.core.current) (sym all_turns) (sym same);
            left_is = w.saved_at.left_is;
          };
        }

    behind : (new : Outside) (status : Status) → NoneFailed words old new → (h : WasDone words old new status) → IsBootBehind c s rows before shown old old new status
    behind new status none h =
        let j = saved_joins words c s rows machine left old new status whole p at is a saved_run h in
        let k = mid_disk law.blame words old new status h in
        let n = none_blamed law.blame words old new status h none in
        let z : Performs (rest_script whole p at) h.mid new None = subst (λ (b : Option Who). Performs (rest_script whole p at) h.mid new b) n j.0 in
        let t : Says (text_at whole p at) (whole_text whole p) old new =
        says_text law.tell (rest_script whole p at) old h.mid new (text_at whole p at) (whole_text whole p) (rest_tells whole its p past at none_later) k.1 z in
        let leaves : sectors_after (rest_script whole p at) left ≡ (state_at whole (steps_made whole)).device.sectors =
        ap (sectors_after (rest_script whole p at)) w.saved_at.left_is ∙ rest_leaves law.runs.count whole p at none_later in
        let text : whole_text whole p ≡ shown ++ t.text = t.is ∙ ap (λ (x : Cvm). rows_text x.rows ++ t.text) same ∙ ap (λ (l : List ℕ). l ++ t.text) (sym w.saved_at.shown_is) in
        let over : EndIsOver whole = ends_are_over law.runs words _ (save_session c) s rows before (with_disk old before) asked in
        let held : ℕ = sectors_needed (save_session c) s rows in
        record {
          after = (state_at whole (steps_made whole)).device.sectors;
          text = t.text;
          ending = ending whole.around whole.first whole.turns whole.steps (cvm_at whole p (steps_made whole));
          sectors = leaves_sectors law.store (rest_script whole p at) old h.mid new left (state_at whole (steps_made whole)).device.sectors a.sectors leaves k.0 z;
          printed = t.printed;
          status_is = h.status_is ∙ j.1 ∙ ap (answered (run_status whole p)) n;
          ran = subst (λ (l : List ℕ). RanFrom whole.around whole.system whole.first held before (state_at whole (steps_made whole)).device.sectors whole.view whole.turns whole.steps
              (ending whole.around whole.first whole.turns whole.steps (cvm_at whole p (steps_made whole))) l) text
              (ran whole p past held before (record { are = refl; beyond = sectors_behind_stay law.runs words _ (save_session c) s rows before (with_disk old before) asked (steps_made whole) (omega arith) }) over);
          goes_on = goes words _ (save_session c) s rows before (with_disk old before) asked;
        }

    -- with enough steps it is done
    enough : (new : Outside) (status : Status) → NoneFailed words old new → (h : WasDone words old new status) → HasSteps (save_session c) s rows before old → (status ≡ Done) ⊎ (status ≡ KernelFault)
    enough new status none h has =
        let j = saved_joins words c s rows machine left old new status whole p at is a saved_run h in
        let n = none_blamed law.blame words old new status h none in
        let t = goes words _ (save_session c) s rows before (with_disk old before) asked c.boot.turns has.last has.defined in
        let le = t.2 in
        let less = has.enough in
        by (run_done law.runs.count whole p t.0 t.1 (omega (arith, le, less))) (h.status_is ∙ j.1 ∙ ap (answered (run_status whole p)) n)
      where
        by : {x : Status} → (x ≡ Done) ⊎ (x ≡ KernelFault) → status ≡ x → (status ≡ Done) ⊎ (status ≡ KernelFault)
        by (inl d) e = inl (e ∙ d)
        by (inr d) e = inr (e ∙ d)

  its_past : (p : Past) × IsPast whole p
  its_past = past_of whole (founded whole its)

pub no_resume_failed : (words : List (List ℕ)) (c : Save) (s : ImageSystem) (rows : Rows) (machine : List ℕ) (left : List (List ℕ)) (old new : Outside)
    → IsHonestResume words c s rows machine left old new → NoneFailed words old new
no_resume_failed words c s rows machine left old new h = record {
  shelf = λ d also. subst (λ (x : Command). ShelfServes x old new) (one_command words (resume c) d h.asked also) (by h.served.shelf);
  sink = h.served.sink;
  disk = h.served.disk;
}
  where
    by : AreSurelyGiven old.shelf.gives (c.boot.image ∷ c.boot.schedule ∷ c.file ∷ []) ⊎ (Rose old.shelf.faults new.shelf.faults → ⊥) → ShelfServes (resume c) old new
    by (inl given) = inl (given, refl)
    by (inr none) = inr none

pub resumes_are_held : ScriptLaws → AnswersAreResumable machine_of → SavedOnce → ResumesAreHeld
resumes_are_held law read once words old new status ends c s rows machine left honest memory =
    let f = no_resume_failed words c s rows machine left old new honest in
    let h = was_done law.blame words old new status ends f memory in
    let a = asked_resume_of words c s rows machine left old new status h honest in
    record {
      went = resumes_go_on law.blame law.store law.runs.count once words c s rows machine left old new status honest.asked a f ends memory;
      joins = λ before shown w.
          let p = its_past law read (it_goes_on law.runs) words c s rows machine left before shown old honest.asked a honest.bytes honest.fits w in
          behind law read (it_goes_on law.runs) words c s rows machine left before shown old honest.asked a honest.bytes honest.fits w p.0 p.1 new status f h;
    }

pub resumes_are_complete : ScriptLaws → AnswersAreResumable machine_of → ResumesAreComplete
resumes_are_complete law read words old new status ends c s rows machine left before shown honest memory w has =
    let f = no_resume_failed words c s rows machine left old new honest in
    let h = was_done law.blame words old new status ends f memory in
    let a = asked_resume_of words c s rows machine left old new status h honest in
    let p = its_past law read (it_goes_on law.runs) words c s rows machine left before shown old honest.asked a honest.bytes honest.fits w in (
      enough law read (it_goes_on law.runs) words c s rows machine left before shown old honest.asked a honest.bytes honest.fits w p.0 p.1 new status f h has,
      behind law read (it_goes_on law.runs) words c s rows machine left before shown old honest.asked a honest.bytes honest.fits w p.0 p.1 new status f h,
    )
