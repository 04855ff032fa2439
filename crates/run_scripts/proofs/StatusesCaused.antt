-- Why a status is what it is.
use Rattle.std.specs.Prelude.{Option, Some, None, codes}
use Rattle.std.specs.Io.KnownBytes.{append_known}
use Rattle.std.proofs.Common.{◌≡◌, ◌⊎◌, inl, inr, ℕ, zero, suc, ◌<◌, Bool, true, false, List, [], ◌∷◌, ◌++◌, length, refl, sym, ap, ◌∙◌, subst, arith}
use Rattle.cvm_outside.specs.Told.{AppendsPart, TOO_LONG}
use Rattle.cvm_model.specs.Cvm.{Status as CvmStatus, Running, Halted, Faulted}
use Rattle.boot_turns.specs.declared.answers.View.TheVariants.{Boot, Trace}
use Rattle.kernel_linker.specs.Accept.{ImageSystem}
use Rattle.schedule_file.specs.Rows.{Rows}
use Rattle.run_scripts.specs.declared.exit_status.Status.{Status}
use Rattle.run_scripts.specs.declared.exit_status.Status.TheVariants.{Done, Words, Refused, KernelFault, StepLimit, Disk}
use Rattle.run_scripts.specs.declared.session.Session.{Session}
use Rattle.run_scripts.specs.Command.{Command, IsCommand, IsNoCommand, save, resume, save_session}
use Rattle.run_scripts.specs.Refusal.{Refusal, small_disk, no_such_user, too_long, refusal_status, refusal_text}
use Rattle.run_scripts.specs.Plan.{Plan, bad_words, refuses, puts, boots, saves, resumes, prints as tells, PlanComesTo, AllTold, IsPlan}
use Rattle.cvm_outside.specs.ScriptLaws.{ScriptsBlame}
use Rattle.cvm_outside.specs.Outside.{Outside, Drive, Output}
use Rattle.cvm_outside.specs.Causes.{Rose}
use Rattle.cvm_outside.specs.Script.{Call, Who, TheSink, TheDisk, TheShelf, Performs, done as all_done, breaks, goes_on, faults_of, disk_calls}
use Rattle.run_scripts.specs.Boot.{sectors_needed}
use Rattle.boot_run.specs.RunEnds.{SeesUser}
use Rattle.boot_run.specs.Closing.{says}
use Rattle.boot_run.specs.RunCalls.{end_by}
use Rattle.run_scripts.specs.RunStatus.{IsRunStatus, status_of_end, power_status}
use Rattle.run_scripts.specs.Ends.{WasDone, done, no_file, no_memory, GetsFor, all, up_to, IsNotGot, Wants, behind, within, wants, PlanAsks, SessionAsks, no_user, small, over_told, over_untold, SomeSaveAsks, as_boot, is_saved, session_load, answered}
use Rattle.run_scripts.specs.AskedRuns.{Untouched}
use Rattle.run_scripts.specs.Served.{files_of, gets}
use Rattle.run_scripts.specs.Causes.{FaultRose, NeedsMore, RunsOver, IsRun, IsWork, CausedBy, StatusesAreCaused, RefusedWith, WordsAreRefused, with_text}
use Rattle.run_scripts.specs.Shapes.{IsRefusal}
use Rattle.run_scripts.proofs.ResumeScripts.{got_keeps}
use Rattle.run_scripts.proofs.CommandOutcomes.{IsOfFile, Outcome, is_none, is_refused, is_booted, is_saved as saves_so, is_resumed, is_put, is_told, outcome}

-- ONE PRINT blames the sink alone, and prints its text
nothing_blames : (old new : Outside) (b : Option Who) → Performs [] old new b → b ≡ None
nothing_blames old new b (all_done _) = refl

pub nothing_changes : (old new : Outside) → Performs [] old new None → new ≡ old
nothing_changes old new (all_done _) = refl

pub says_blames : (text : List ℕ) (old new : Outside) (b : Option Who) → Performs (says text) old new b → (b ≡ None) ⊎ (b ≡ Some TheSink)
says_blames text old new b (breaks c rest _ _ f) = inr refl
says_blames text old new b (goes_on c rest _ mid _ _ d p) = inl (nothing_blames mid new b p)

pub says_printed : (text : List ℕ) (old new : Outside) → Performs (says text) old new None → new.sink.text ≡ append_known old.sink.text text
says_printed text old new (goes_on c rest _ mid _ _ d p) = ap (λ (o : Outside). o.sink.text) (nothing_changes mid new p) ∙ d.0

-- and leaves the rest of the outside
pub says_keeps : (text : List ℕ) (old new : Outside) → Performs (says text) old new None → new ≡ record old { sink = with_text old.sink text }
says_keeps text old new (goes_on c rest _ mid _ _ d p) =
    nothing_changes mid new p ∙ subst (λ (told : Option (List ℕ)). mid ≡ record old { sink = record old.sink { text = told } }) d.0 d.1

pub says_part : (text : List ℕ) (old new : Outside) → Performs (says text) old new (Some TheSink) → AppendsPart old.sink.text new.sink.text text
says_part text old new p = by (Some TheSink) refl p
  where
    by : (b : Option Who) → b ≡ Some TheSink → Performs (says text) old new b → AppendsPart old.sink.text new.sink.text text
    by b e (breaks c rest _ _ f) = f.0
    by b e (goes_on c rest _ mid _ _ d q) = absurd (let z : None ≡ Some TheSink = sym (nothing_blames mid new b q) ∙ e in cc)

-- WHAT IS DUE, and why
pub data Due (p : Plan) (at : Outside) (script : List Call) (due : Status) : Type 0 where
  by_words : p ≡ bad_words → due ≡ Words → script ≡ says (codes "bad words\n") → Due p at script due
  by_refusal : (r : Refusal) → IsOfFile r → p ≡ refuses r → due ≡ refusal_status r → script ≡ says (refusal_text r) → Due p at script due
  by_user : (session : Session) (s : ImageSystem) (rows : Rows) (u : ℕ) → p ≡ boots session s rows → session.view ≡ Trace u → (SeesUser session.view (length s.users) → ⊥) → due ≡ Refused →
      script ≡ says (refusal_text (no_such_user u (length s.users))) → Due p at script due
  by_disk : NeedsMore p at.disk.size → due ≡ Disk → Due p at script due
  by_work : IsWork p → due ≡ Done → Due p at script due
  by_run : IsRun p at.disk.size → IsRunStatus due → Due p at script due

of_status : (b : Bool) (st : CvmStatus) → IsRunStatus (status_of_end (end_by b st))
of_status true Running = inl refl
of_status true Halted = inl refl
of_status true (Faulted f) = inr (inl refl)
of_status false st = inr (inr refl)

of_power : (b : Bool) (o : Option ℕ) → IsRunStatus (power_status b o)
of_power true None = inl refl
of_power true (Some zero) = inl refl
of_power true (Some (suc n)) = inr (inl refl)
of_power false off = inr (inr refl)

same_due : (a b : Status) → a ≡ b → IsRunStatus b → IsRunStatus a
same_due a b e h = subst IsRunStatus (sym e) h

-- of a session
session_due : (p : Plan) (session : Session) (s : ImageSystem) (rows : Rows) (at : Outside) (Told : List (List ℕ) → List Call → Status → Type 0) (Some_ : List Call → Status → Type 0) →
    ((u : ℕ) → session.view ≡ Trace u → p ≡ boots session s rows) → (at.disk.size < sectors_needed session s rows → NeedsMore p at.disk.size) →
    (RunsOver session s rows at.disk.size → IsRun p at.disk.size) →
    ((ss : List (List ℕ)) (a : List Call) (st : Status) → Told ss a st → IsRunStatus st) → ((a : List Call) (st : Status) → Some_ a st → IsRunStatus st) →
    (script : List Call) (due : Status) → SessionAsks session s rows at Told Some_ script due → Due p at script due
session_due p session s rows at T S user less run t m script due (no_user u v n) = by_user session s rows u (user u v) v n refl refl
session_due p session s rows at T S user less run t m script due (small v n) = by_disk (less n) refl
session_due p session s rows at T S user less run t m script due (over_told ss _ _ v n q a) = by_run (run (v, n)) (t ss script due a)
session_due p session s rows at T S user less run t m script due (over_untold _ _ v n q a) = by_run (run (v, n)) (m script due a)

some_save : (name : List ℕ) (load script : List Call) (due : Status) → SomeSaveAsks name load script due → IsRunStatus due
some_save name load script due (as_boot _ _ w) = w.3
some_save name load script due (is_saved more bytes a) = inl refl

no_refusal : (r : Refusal) → bad_words ≡ refuses r → ⊥
no_refusal r e = cc

no_view : (u : ℕ) → Boot ≡ Trace u → ⊥
no_view u e = cc

pub due_of : (words : List (List ℕ)) (p : Plan) (at : Outside) (script : List Call) (due : Status) → Outcome words p → PlanAsks p at script due → Due p at script due
due_of words p at script due (is_none n) a = by_words refl a.1 a.0
due_of words p at script due (is_refused c is r f) a = by_refusal r f refl a.1 a.0
due_of words p at script due (is_booted c is l session s rows) a =
    session_due p session s rows at _ _ (λ u v. refl) (λ n. n) (λ r. r) (λ ss x st w. same_due st _ w.status_is (of_status _ _)) (λ x st w. w.3) script due a
due_of words p at script due (saves_so c is s rows) a =
    session_due p (save_session c) s rows at _ _ (λ u v. absurd (no_view u v)) (λ n. n) (λ r. r) (λ ss x st w. same_due st _ w.status_is (of_status _ _))
    (λ x st w. some_save c.file (session_load (save_session c) s rows) x st w) script due a
due_of words p at script due (is_resumed c is s rows machine) a =
    session_due p (save_session c) s rows at _ _ (λ u v. absurd (no_view u v)) (λ n. n) (λ r. r) (λ ss x st w. same_due st _ w.status_is (of_power _ _)) (λ x st w. w.3) script due a
due_of words p at script due (is_put c is name bytes e) a = by_work tt a.1
due_of words p at script due (is_told c is text) a = by_work tt a.1

-- of a run that is asked for
session_ends : (session : Session) (s : ImageSystem) (rows : Rows) (at : Outside) (Told : List (List ℕ) → List Call → Status → Type 0) (Some_ : List Call → Status → Type 0) →
    ((ss : List (List ℕ)) (a : List Call) (st : Status) → Told ss a st → IsRunStatus st) → ((a : List Call) (st : Status) → Some_ a st → IsRunStatus st) →
    (script : List Call) (due : Status) → RunsOver session s rows at.disk.size → SessionAsks session s rows at Told Some_ script due → IsRunStatus due
session_ends session s rows at T S t m script due runs (no_user u v n) = absurd (n runs.0)
session_ends session s rows at T S t m script due runs (small v n) = absurd (let room = runs.1 in omega (arith, n, room))
session_ends session s rows at T S t m script due runs (over_told ss _ _ v n q a) = t ss script due a
session_ends session s rows at T S t m script due runs (over_untold _ _ v n q a) = m script due a

pub run_due : (p : Plan) (at : Outside) (script : List Call) (due : Status) → IsRun p at.disk.size → PlanAsks p at script due → IsRunStatus due
run_due (boots session s rows) at script due runs a =
    session_ends session s rows at _ _ (λ ss x st w. same_due st _ w.status_is (of_status _ _)) (λ x st w. w.3) script due runs a
run_due (saves session s rows name) at script due runs a =
    session_ends session s rows at _ _ (λ ss x st w. same_due st _ w.status_is (of_status _ _)) (λ x st w. some_save name (session_load session s rows) x st w) script due runs a
run_due (resumes session s rows words) at script due runs a =
    session_ends session s rows at _ _ (λ ss x st w. same_due st _ w.status_is (of_power _ _)) (λ x st w. w.3) script due runs a
run_due bad_words at script due runs a = absurd runs
run_due (refuses r) at script due runs a = absurd runs
run_due (puts name bytes) at script due runs a = absurd runs
run_due (tells text) at script due runs a = absurd runs

-- what is refused calls no disk
no_run : (st : Status) → IsRunStatus st → IsRefusal st → ⊥
no_run st (inl e) h = subst IsRefusal e h
no_run st (inr (inl e)) h = subst IsRefusal e h
no_run st (inr (inr e)) h = subst IsRefusal e h

session_quiet : (session : Session) (s : ImageSystem) (rows : Rows) (at : Outside) (Told : List (List ℕ) → List Call → Status → Type 0) (Some_ : List Call → Status → Type 0) →
    ((ss : List (List ℕ)) (a : List Call) (st : Status) → Told ss a st → IsRunStatus st) → ((a : List Call) (st : Status) → Some_ a st → IsRunStatus st) →
    (script : List Call) (due : Status) → SessionAsks session s rows at Told Some_ script due → IsRefusal due → disk_calls script ≡ 0
session_quiet session s rows at T S t m script due (no_user u v n) h = refl
session_quiet session s rows at T S t m script due (small v n) h = refl
session_quiet session s rows at T S t m script due (over_told ss _ _ v n q a) h = absurd (no_run due (t ss script due a) h)
session_quiet session s rows at T S t m script due (over_untold _ _ v n q a) h = absurd (no_run due (m script due a) h)

pub refusal_quiet : (words : List (List ℕ)) (p : Plan) (at : Outside) (script : List Call) (due : Status) → Outcome words p → PlanAsks p at script due → IsRefusal due → disk_calls script ≡ 0
refusal_quiet words p at script due (is_none n) a h = ap disk_calls a.0
refusal_quiet words p at script due (is_refused c is r f) a h = ap disk_calls a.0
refusal_quiet words p at script due (is_booted c is l session s rows) a h =
    session_quiet session s rows at _ _ (λ ss x st w. same_due st _ w.status_is (of_status _ _)) (λ x st w. w.3) script due a h
refusal_quiet words p at script due (saves_so c is s rows) a h =
    session_quiet (save_session c) s rows at _ _ (λ ss x st w. same_due st _ w.status_is (of_status _ _)) (λ x st w. some_save c.file (session_load (save_session c) s rows) x st w) script due a h
refusal_quiet words p at script due (is_resumed c is s rows machine) a h =
    session_quiet (save_session c) s rows at _ _ (λ ss x st w. same_due st _ w.status_is (of_power _ _)) (λ x st w. w.3) script due a h
refusal_quiet words p at script due (is_put c is name bytes e) a h = ap disk_calls a.0
refusal_quiet words p at script due (is_told c is text) a h = ap disk_calls a.0

-- COUNTS of what was got and done
module _ (blame : ScriptsBlame) where
  counts_both : (got script : List Call) (old mid new : Outside) (b : Option Who) → Performs got old mid None → Performs script mid new b → FaultRose b old new
  counts_both got script old mid new b p q w =
      let g = blame got old mid None p w in
      let h = blame script mid new b q w in
      let e : faults_of w mid ≡ faults_of w old = g.same (λ x. cc) in
      record { rose = λ i. subst (λ (n : ℕ). Rose n (faults_of w new)) e (h.rose i); same = λ ne. h.same ne ∙ e }

  pub of_done : (words : List (List ℕ)) (old new : Outside) (status : Status) (h : WasDone words old new status) → FaultRose h.blamed old new
  of_done words old new status h = counts_both h.got h.script old h.mid new h.blamed h.files h.performs

  pub of_no_file : (names : List (List ℕ)) (old new : Outside) → IsNotGot names old new → FaultRose (Some TheShelf) old new
  of_no_file names old new g w = blame (gets (g.before ++ g.name ∷ [])) old new (Some TheShelf) g.performs w

  of_wants : (names : List (List ℕ)) (old new : Outside) → Wants names old new → FaultRose None old new
  of_wants names old new (behind made rest e s p t) w = blame (gets made) old new None p w
  of_wants names old new (within made rest name mid e short p (wants f c t s k)) w =
      let g = blame (gets made) old mid None p w in
      let h : faults_of w mid ≡ faults_of w old = g.same (λ x. cc) in
      record { rose = λ x. absurd (cc); same = λ ne. same w ∙ h }
    where
      same : (w : Who) → faults_of w new ≡ faults_of w mid
      same TheSink = ap (λ (o : Outside). o.sink.faults) s
      same TheDisk = ap (λ (o : Outside). o.disk.faults) s
      same TheShelf = c

  -- what is left of the outside by the gets
  pub mid_keeps : (words : List (List ℕ)) (old new : Outside) (status : Status) (h : WasDone words old new status) → Untouched old h.mid
  mid_keeps words old new status h = by h.plan refl (outcome words old.shelf.file h.plan h.is_plan.comes)
    where
      kept : (c : Command) → IsCommand words c → Untouched old h.mid
      kept c is = got_keeps _ _ _ _ _ old h.mid (h.gets.0 c is) h.files

      none : h.plan ≡ bad_words → Untouched old h.mid
      none e =
          let f : h.mid ≡ old = nothing_changes old h.mid (subst (λ (s : List Call). Performs s old h.mid None) (h.gets.1 e) h.files) in
          record { sink = ap (λ (o : Outside). o.sink) f; disk = ap (λ (o : Outside). o.disk) f; files = λ n. ap (λ (o : Outside). o.shelf.file n) f }

      by : (p : Plan) → h.plan ≡ p → Outcome words p → Untouched old h.mid
      by p e (is_none n) = none e
      by p e (is_refused c is r f) = kept c is
      by p e (is_booted c is l session s rows) = kept c is
      by p e (saves_so c is s rows) = kept (save c) is
      by p e (is_resumed c is s rows machine) = kept (resume c) is
      by p e (is_put c is name bytes x) = kept c is
      by p e (is_told c is text) = kept c is

  pub mid_disk : (words : List (List ℕ)) (old new : Outside) (status : Status) (h : WasDone words old new status) → (h.mid.disk ≡ old.disk) × (h.mid.sink ≡ old.sink)
  mid_disk words old new status h = let k = mid_keeps words old new status h in (k.disk, k.sink)

  -- a row that is all that is done: it was printed, or the sink failed in it
  pub row_told : (words : List (List ℕ)) (old new : Outside) (status : Status) (h : WasDone words old new status) (due : Status) (row : List ℕ) → h.script ≡ says row → h.due ≡ due →
      RefusedWith due row old new status
  row_told words old new status h due row s d = ends h.blamed (h.status_is ∙ ap (λ (x : Status). answered x h.blamed) d) (says_blames row h.mid new h.blamed told) told
    where
      told : Performs (says row) h.mid new h.blamed
      told = subst (λ (a : List Call). Performs a h.mid new h.blamed) s h.performs

      sink : h.mid.sink ≡ old.sink
      sink = (mid_disk words old new status h).1

      ends : (b : Option Who) → status ≡ answered due b → (b ≡ None) ⊎ (b ≡ Some TheSink) → Performs (says row) h.mid new b → RefusedWith due row old new status
      ends b e (inl n) q =
          let z = subst (λ (x : Option Who). Performs (says row) h.mid new x) n q in
          inl (e ∙ ap (answered due) n, says_printed row h.mid new z ∙ ap (λ (o : Output). append_known o.text row) sink)
      ends b e (inr n) q =
          let z = subst (λ (x : Option Who). Performs (says row) h.mid new x) n q in
          inr (e ∙ ap (answered due) n, subst (λ (o : Output). AppendsPart o.text new.sink.text row) sink (says_part row h.mid new z))

  long_taken : (file : List ℕ → Option (List ℕ)) (names : List (List ℕ)) (taken : ℕ) (p : Plan) (got : List Call) → p ≡ refuses too_long → GetsFor file names taken p got → taken ≡ TOO_LONG
  long_taken file names taken p got e (all _ n t) = absurd (n e)
  long_taken file names taken p got e (up_to before after name f s l t) = t

  -- STATUSES
  pub statuses_are_caused : StatusesAreCaused
  statuses_are_caused words old new status (done _ h) = by h.blamed h.status_is (of_done words old new status h)
    where
      o : Outcome words h.plan
      o = outcome words old.shelf.file h.plan h.is_plan.comes

      of_plan : (p : Plan) → h.plan ≡ p → Outcome words p → h.plan ≡ refuses too_long → new.shelf.taken ≡ TOO_LONG
      of_plan p e (is_refused c is r f) i = long_taken _ _ _ _ _ i (h.gets.0 c is)
      of_plan p e (is_none n) i = absurd (no_refusal too_long (sym e ∙ i))
      of_plan p e (is_booted c is l session s rows) i = long_taken _ _ _ _ _ i (h.gets.0 c is)
      of_plan p e (saves_so c is s rows) i = long_taken _ _ _ _ _ i (h.gets.0 (save c) is)
      of_plan p e (is_resumed c is s rows machine) i = long_taken _ _ _ _ _ i (h.gets.0 (resume c) is)
      of_plan p e (is_put c is name bytes x) i = long_taken _ _ _ _ _ i (h.gets.0 c is)
      of_plan p e (is_told c is text) i = long_taken _ _ _ _ _ i (h.gets.0 c is)

      refusal_free : (r : Refusal) → IsOfFile r → h.plan ≡ refuses r → FaultRose None old new → CausedBy (refusal_status r) words old new
      refusal_free too_long f e k =
          inr (k, record { is_plan = subst (IsPlan (AllTold words old.shelf.file) (PlanComesTo words old.shelf.file)) e h.is_plan; taken = of_plan h.plan refl o e })
      refusal_free (small_disk need have) f e k = absurd f
      refusal_free (no_such_user u n) f e k = absurd f
      refusal_free other f e k = k

      run_is : IsRun h.plan h.mid.disk.size → IsRun h.plan old.disk.size
      run_is r = subst (λ (x : Drive). IsRun h.plan x.size) (mid_disk words old new status h).0 r

      free : Due h.plan h.mid h.script h.due → FaultRose None old new → CausedBy h.due words old new
      free (by_words e d s) k = subst (λ (st : Status). CausedBy st words old new) (sym d) k
      free (by_refusal r f e d s) k = subst (λ (st : Status). CausedBy st words old new) (sym d) (refusal_free r f e k)
      free (by_user session s rows u e v n d x) k = subst (λ (st : Status). CausedBy st words old new) (sym d) k
      free (by_disk n d) k = subst (λ (st : Status). CausedBy st words old new) (sym d)
          (inr (k, record { plan = h.plan; is_plan = h.is_plan; is = subst (λ (x : Drive). NeedsMore h.plan x.size) (mid_disk words old new status h).0 n }))
      free (by_work w d) k = subst (λ (st : Status). CausedBy st words old new) (sym d) (k, record { plan = h.plan; is_plan = h.is_plan; is = inl w })
      free (by_run r (inl d)) k = subst (λ (st : Status). CausedBy st words old new) (sym d) (k, record { plan = h.plan; is_plan = h.is_plan; is = inr (run_is r) })
      free (by_run r (inr (inl d))) k = subst (λ (st : Status). CausedBy st words old new) (sym d) (k, record { plan = h.plan; is_plan = h.is_plan; is = run_is r })
      free (by_run r (inr (inr d))) k = subst (λ (st : Status). CausedBy st words old new) (sym d) (k, record { plan = h.plan; is_plan = h.is_plan; is = run_is r })

      by : (b : Option Who) → status ≡ answered h.due b → FaultRose b old new → CausedBy status words old new
      by None e k = subst (λ (st : Status). CausedBy st words old new) (sym e) (free (due_of words h.plan h.mid h.script h.due o h.asks) k)
      by (Some TheSink) e k = subst (λ (st : Status). CausedBy st words old new) (sym e) k
      by (Some TheDisk) e k = subst (λ (st : Status). CausedBy st words old new) (sym e) (inl k)
      by (Some TheShelf) e k = subst (λ (st : Status). CausedBy st words old new) (sym e) (inl k)
  statuses_are_caused words old new status (no_file c is g) = inl (of_no_file (files_of c) old new g)
  statuses_are_caused words old new status (no_memory c is w) = of_wants (files_of c) old new w

  -- THE STATUS of words, files and disks
  pub done_due : (words : List (List ℕ)) (old new : Outside) (status : Status) (h : WasDone words old new status) → Due h.plan h.mid h.script h.due
  done_due words old new status h = due_of words h.plan h.mid h.script h.due (outcome words old.shelf.file h.plan h.is_plan.comes) h.asks

  pub words_are_refused : WordsAreRefused
  words_are_refused words old new status (done _ h) = record { only = λ e. only h.blamed (sym h.status_is ∙ e); so = λ n. so (outcome words old.shelf.file h.plan h.is_plan.comes) n }
    where
      never : (r : Refusal) → IsOfFile r → refusal_status r ≡ Words → ⊥
      never too_long f e = cc
      never (small_disk need have) f e = cc
      never other f e = cc

      no_command : (p : Plan) → Outcome words p → p ≡ bad_words → IsNoCommand words
      no_command p (is_none n) e = n
      no_command p (is_refused c is r f) e = absurd (cc)
      no_command p (is_booted c is l session s rows) e = absurd (cc)
      no_command p (saves_so c is s rows) e = absurd (cc)
      no_command p (is_resumed c is s rows machine) e = absurd (cc)
      no_command p (is_put c is name bytes x) e = absurd (cc)
      no_command p (is_told c is text) e = absurd (cc)

      by : Due h.plan h.mid h.script h.due → h.due ≡ Words → IsNoCommand words
      by (by_words e d s) w = no_command h.plan (outcome words old.shelf.file h.plan h.is_plan.comes) e
      by (by_refusal r f e d s) w = absurd (never r f (sym d ∙ w))
      by (by_user session s rows u e v n d x) w = absurd (let z : Refused ≡ Words = sym d ∙ w in cc)
      by (by_disk n d) w = absurd (let z : Disk ≡ Words = sym d ∙ w in cc)
      by (by_work k d) w = absurd (let z : Done ≡ Words = sym d ∙ w in cc)
      by (by_run r (inl d)) w = absurd (let z : Done ≡ Words = sym d ∙ w in cc)
      by (by_run r (inr (inl d))) w = absurd (let z : KernelFault ≡ Words = sym d ∙ w in cc)
      by (by_run r (inr (inr d))) w = absurd (let z : StepLimit ≡ Words = sym d ∙ w in cc)

      only : (b : Option Who) → answered h.due b ≡ Words → IsNoCommand words
      only None e = by (done_due words old new status h) e
      only (Some TheSink) e = absurd (cc)
      only (Some TheDisk) e = absurd (cc)
      only (Some TheShelf) e = absurd (cc)

      so : Outcome words h.plan → IsNoCommand words → RefusedWith Words (codes "bad words\n") old new status
      so o n = let a = subst (λ (p : Plan). PlanAsks p h.mid h.script h.due) (none h.plan o) h.asks in row_told words old new status h Words (codes "bad words\n") a.0 a.1
        where
          none : (p : Plan) → Outcome words p → p ≡ bad_words
          none p (is_none m) = refl
          none p (is_refused c is r f) = absurd (n c is)
          none p (is_booted c is l session s rows) = absurd (n c is)
          none p (saves_so c is s rows) = absurd (n (save c) is)
          none p (is_resumed c is s rows machine) = absurd (n (resume c) is)
          none p (is_put c is name bytes x) = absurd (n c is)
          none p (is_told c is text) = absurd (n c is)
  words_are_refused words old new status (no_file c is g) = record { only = λ e. absurd (cc); so = λ n. absurd (n c is) }
  words_are_refused words old new status (no_memory c is w) = record { only = λ e. absurd (cc); so = λ n. absurd (n c is) }
