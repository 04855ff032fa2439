-- What is refused, and that nothing else is.
use Rattle.std.specs.Prelude.{Option, Some, None, Bool, codes}
use Rattle.std.specs.Io.KnownBytes.{append_known}
use Rattle.std.proofs.Common.{◌≡◌, ◌≢◌, ◌⊎◌, inl, inr, ℕ, ◌<◌, List, [], ◌∷◌, ◌++◌, length, refl, sym, ap, ◌∙◌, subst, arith}
use Rattle.boot_turns.specs.declared.answers.View.TheVariants.{Trace}
use Rattle.run_scripts.specs.declared.exit_status.Status.{Status}
use Rattle.run_scripts.specs.declared.exit_status.Status.TheVariants.{Done, Refused, KernelFault, StepLimit, Disk, Shelf, Memory}
use Rattle.run_scripts.specs.Command.{Command, IsCommand, save, resume}
use Rattle.run_scripts.specs.Refusal.{Refusal, small_disk, no_such_user, too_long, refusal_status, refusal_text}
use Rattle.run_scripts.specs.Plan.{Plan, bad_words, refuses, puts, boots, saves, resumes, prints as tells, PlanComesTo, AllTold}
use Rattle.cvm_outside.specs.Causes.{Rose}
use Rattle.cvm_outside.specs.Told.{retold}
use Rattle.cvm_outside.specs.ScriptLaws.{ScriptsBlame, PrintedBy, GetsGiven}
use Rattle.cvm_outside.specs.Outside.{Outside, Drive, Output}
use Rattle.cvm_outside.specs.Script.{Call, Printed, Read, Wrote, Got, Stored, Who, TheSink, TheDisk, TheShelf, Performs, goes_on, faults_of}
use Rattle.cvm_outside.proofs.ScriptsFollow.{given}
use Rattle.run_scripts.specs.Boot.{sectors_needed}
use Rattle.boot_run.specs.Closing.{says}
use Rattle.run_scripts.specs.RunStatus.{IsRunStatus}
use Rattle.run_scripts.specs.Ends.{WasDone, done, no_file, no_memory, GetsFor, all, up_to, IsNotGot, behind, within, wants, PlanAsks, SessionAsks, no_user, small, over_told, over_untold, answered}
use Rattle.run_scripts.specs.Served.{files_of, gets, NoneFailed, ServesWords, ShelfServes, AreSurelyGiven}
use Rattle.run_scripts.specs.AskedRuns.{Untouched, IsOf, booted_so, saved_so, resumed_so}
use Rattle.run_scripts.specs.Shapes.{gets_in, puts_in, NamedBy}
use Rattle.run_scripts.specs.Causes.{FilesAreRefused, HasNoUser, MissingUsersAreRefused, SmallDisksAreRefused, LongFilesAreRefused, RefusedWith, RunsEnd, IsRun, WorkCompletes, IsWork, WorkLeaves, with_text}
use Rattle.run_scripts.proofs.ScriptCalls.{shape_of}
use Rattle.run_scripts.proofs.OneCommand.{one_command}
use Rattle.run_scripts.proofs.CommandOutcomes.{Outcome, is_none, is_refused, is_booted, is_saved, is_resumed, is_put, is_told, outcome}
use Rattle.run_scripts.proofs.StatusesCaused.{Due, by_words, by_refusal, by_user, by_disk, by_work, by_run, run_due, says_printed, says_keeps, nothing_changes, says_blames, row_told, of_done, of_no_file, mid_keeps, mid_disk, done_due}

same_view : (u v : ℕ) → Trace u ≡ Trace v → u ≡ v
same_view u v e = cc

-- a script with no get and no put gets what is given, whatever that is; and so do the first gets of some that do
given_quiet : (gives : List ℕ → Bool) (script : List Call) → gets_in script ≡ [] → puts_in script ≡ [] → GetsGiven gives script
given_quiet gives [] g p = tt
given_quiet gives (Printed t ∷ rest) g p = given_quiet gives rest g p
given_quiet gives (Read q ∷ rest) g p = given_quiet gives rest g p
given_quiet gives (Wrote q ws ∷ rest) g p = given_quiet gives rest g p
given_quiet gives (Got n ∷ rest) g p = absurd (let e : n ∷ gets_in rest ≡ [] = g in cc)
given_quiet gives (Stored n bytes ∷ rest) g p = absurd (let e : n ∷ puts_in rest ≡ [] = p in cc)

given_front : (gives : List ℕ → Bool) (before after : List (List ℕ)) (name : List ℕ) → AreSurelyGiven gives (before ++ name ∷ after) → GetsGiven gives (gets (before ++ name ∷ []))
given_front gives [] after name h = (h.0, tt)
given_front gives (n ∷ before) after name h = (h.0, given_front gives before after name h.1)

puts_none : (names : List (List ℕ)) → NamedBy None names → names ≡ []
puts_none [] h = refl
puts_none (n ∷ []) h = absurd (let e : None ≡ Some n = h in cc)
puts_none (n ∷ m ∷ more) h = absurd h

not_shelf : (b : Option Who) → (b ≡ None) ⊎ (b ≡ Some TheSink) → b ≡ Some TheShelf → ⊥
not_shelf b (inl n) e = let z : None ≡ Some TheShelf = sym n ∙ e in cc
not_shelf b (inr n) e = let z : Some TheSink ≡ Some TheShelf = sym n ∙ e in cc

-- ONE PUT leaves its bytes in its file, and the sink
stores : (name bytes : List ℕ) (old new : Outside) → Performs (Stored name bytes ∷ []) old new None → (new.shelf.file name ≡ retold (old.shelf.file name) bytes) × (new.sink ≡ old.sink)
stores name bytes old new (goes_on c rest _ mid _ _ d p) =
    let e : new ≡ mid = nothing_changes mid new p in
    (ap (λ (o : Outside). o.shelf.file name) e ∙ d.1, ap (λ (o : Outside). o.sink) e ∙ ap (λ (o : Outside). o.sink) d.3)

module _ (blame : ScriptsBlame) where
  -- nobody is blamed where no call fails
  module _ (words : List (List ℕ)) (old new : Outside) (status : Status) (h : WasDone words old new status) where
    rose : (w : Who) → h.blamed ≡ Some w → Rose (faults_of w old) (faults_of w new)
    rose w e = (of_done blame words old new status h w).rose e

    shelf_serves : (c : Command) → IsCommand words c → ShelfServes c old new → h.blamed ≡ Some TheShelf → ⊥
    shelf_serves c is (inr none) e = none (rose TheShelf e)
    shelf_serves c is (inl (got, put)) e =
        let s = shape_of words c h.plan h.mid h.script h.due is (outcome words old.shelf.file h.plan h.is_plan.comes) h.asks in
        let none : puts_in h.script ≡ [] = puts_none (puts_in h.script) (subst (λ (named : Option (List ℕ)). NamedBy named (puts_in h.script)) put s.puts) in
        (given h.script h.mid new h.blamed h.performs).sure (given_quiet h.mid.shelf.gives h.script s.gets none) e

    no_words : h.plan ≡ bad_words → h.blamed ≡ Some TheShelf → ⊥
    no_words p e =
        let a = subst (λ (q : Plan). PlanAsks q h.mid h.script h.due) p h.asks in
        not_shelf h.blamed (says_blames (codes "bad words\n") h.mid new h.blamed (subst (λ (s : List Call). Performs s h.mid new h.blamed) a.0 h.performs)) e

    shelf_of : NoneFailed words old new → (p : Plan) → h.plan ≡ p → Outcome words p → h.blamed ≡ Some TheShelf → ⊥
    shelf_of f p e (is_none n) = no_words e
    shelf_of f p e (is_refused c is r o) = shelf_serves c is (f.shelf c is)
    shelf_of f p e (is_booted c is l session s rows) = shelf_serves c is (f.shelf c is)
    shelf_of f p e (is_saved c is s rows) = shelf_serves (save c) is (f.shelf (save c) is)
    shelf_of f p e (is_resumed c is s rows machine) = shelf_serves (resume c) is (f.shelf (resume c) is)
    shelf_of f p e (is_put c is name bytes x) = shelf_serves c is (f.shelf c is)
    shelf_of f p e (is_told c is text) = shelf_serves c is (f.shelf c is)

    pub none_blamed : NoneFailed words old new → h.blamed ≡ None
    none_blamed f = by h.blamed refl
      where
        by : (b : Option Who) → h.blamed ≡ b → h.blamed ≡ None
        by None e = e
        by (Some TheSink) e = absurd (f.sink (rose TheSink e))
        by (Some TheDisk) e = absurd (f.disk (rose TheDisk e))
        by (Some TheShelf) e = absurd (shelf_of f h.plan refl (outcome words old.shelf.file h.plan h.is_plan.comes) e)

  -- a row that is all that is printed
  row_printed : (words : List (List ℕ)) (old new : Outside) (status : Status) (h : WasDone words old new status) (text : List ℕ) → h.script ≡ says text → h.blamed ≡ None →
      PrintedBy None old.sink.text new.sink.text text
  row_printed words old new status h text s n =
      says_printed text h.mid new (subst (λ (b : Option Who). Performs (says text) h.mid new b) n (subst (λ (a : List Call). Performs a h.mid new h.blamed) s h.performs))
      ∙ ap (λ (o : Output). append_known o.text text) (mid_disk blame words old new status h).1

  pub status_due : (words : List (List ℕ)) (old new : Outside) (status : Status) (h : WasDone words old new status) → h.blamed ≡ None → status ≡ h.due
  status_due words old new status h n = h.status_is ∙ ap (answered h.due) n

  -- the plan is the one that words and files come to
  pub plan_asks : (words : List (List ℕ)) (old new : Outside) (status : Status) (h : WasDone words old new status) (p : Plan) → AllTold words old.shelf.file → PlanComesTo words old.shelf.file p →
      PlanAsks p h.mid h.script h.due
  plan_asks words old new status h p told comes = subst (λ (q : Plan). PlanAsks q h.mid h.script h.due) (sym (h.is_plan.only told p comes)) h.asks

  -- a get that failed is of no file that was given
  pub no_file_failed : (words : List (List ℕ)) (c : Command) (old new : Outside) → IsCommand words c → ServesWords words old new → IsNotGot (files_of c) old new → ⊥
  no_file_failed words c old new is serves g = by (serves c is)
    where
      by : ShelfServes c old new → ⊥
      by (inl (got, put)) =
          let front : GetsGiven old.shelf.gives (gets (g.before ++ g.name ∷ [])) =
          given_front old.shelf.gives g.before g.after g.name (subst (AreSurelyGiven old.shelf.gives) (sym g.all) got) in
          (given (gets (g.before ++ g.name ∷ [])) old new (Some TheShelf) g.performs).sure front refl
      by (inr none) = none ((of_no_file blame (files_of c) old new g TheShelf).rose refl)

  refused_so : (r : Refusal) → refusal_status r ≡ Refused → r ≢ too_long
  refused_so r e n = absurd (let z : Shelf ≡ Refused = sym (ap refusal_status n) ∙ e in cc)

  pub files_are_refused : FilesAreRefused
  files_are_refused words old new status told (done _ h) = record { so = so; only = λ e. only h.blamed refl (sym h.status_is ∙ e) }
    where
      so : (r : Refusal) → PlanComesTo words old.shelf.file (refuses r) → ServesWords words old new → status ≢ Memory → RefusedWith (refusal_status r) (refusal_text r) old new status
      so r comes serves m =
          let a = plan_asks words old new status h (refuses r) told comes in
          row_told blame words old new status h (refusal_status r) (refusal_text r) a.0 a.1

      by : Due h.plan h.mid h.script h.due → h.due ≡ Refused → h.blamed ≡ None →
          (r : Refusal) × (PlanComesTo words old.shelf.file (refuses r) ⊎ HasNoUser words old r) × PrintedBy None old.sink.text new.sink.text (refusal_text r)
      by (by_words e d s) w n = absurd (cc)
      by (by_refusal r f e d s) w n = (r, inl (subst (λ (p : Plan). PlanComesTo words old.shelf.file p) e h.is_plan.comes), row_printed words old new status h (refusal_text r) s n)
      by (by_user session s rows u e v x d t) w n = (
        no_such_user u (length s.users),
        inr (record {
          session = session;
          system = s;
          rows = rows;
          user = u;
          is_plan = subst (λ (p : Plan). PlanComesTo words old.shelf.file p) e h.is_plan.comes;
          view = v;
          none = x;
          is = refl;
        }),
        row_printed words old new status h (refusal_text (no_such_user u (length s.users))) t n,
      )
      by (by_disk x d) w n = absurd (let z : Disk ≡ Refused = sym d ∙ w in cc)
      by (by_work k d) w n = absurd (let z : Done ≡ Refused = sym d ∙ w in cc)
      by (by_run k (inl d)) w n = absurd (let z : Done ≡ Refused = sym d ∙ w in cc)
      by (by_run k (inr (inl d))) w n = absurd (let z : KernelFault ≡ Refused = sym d ∙ w in cc)
      by (by_run k (inr (inr d))) w n = absurd (let z : StepLimit ≡ Refused = sym d ∙ w in cc)

      only : (b : Option Who) → h.blamed ≡ b → answered h.due b ≡ Refused →
          (r : Refusal) × (PlanComesTo words old.shelf.file (refuses r) ⊎ HasNoUser words old r) × PrintedBy None old.sink.text new.sink.text (refusal_text r)
      only None n e = by (done_due blame words old new status h) e n
      only (Some TheSink) n e = absurd (cc)
      only (Some TheDisk) n e = absurd (cc)
      only (Some TheShelf) n e = absurd (cc)
  files_are_refused words old new status told (no_file c is g) = record { so = λ r comes serves m. absurd (no_file_failed words c old new is serves g); only = λ e. absurd (cc) }
  files_are_refused words old new status told (no_memory c is w) = record { so = λ r comes serves m. absurd (m refl); only = λ e. absurd (cc) }

  pub missing_users_are_refused : MissingUsersAreRefused
  missing_users_are_refused words old new status r told w serves (done _ h) m = by h.script h.due refl refl (plan_asks words old new status h (boots w.session w.system w.rows) told w.is_plan)
    where
      by : (script : List Call) (due : Status) → h.script ≡ script → h.due ≡ due → PlanAsks (boots w.session w.system w.rows) h.mid script due →
          RefusedWith Refused (refusal_text r) old new status
      by script due s d (no_user u v x) =
          let same : no_such_user u (length w.system.users) ≡ r = ap (λ (k : ℕ). no_such_user k (length w.system.users)) (same_view u w.user (sym v ∙ w.view)) ∙ sym w.is in
          row_told blame words old new status h Refused (refusal_text r) (s ∙ ap (λ (q : Refusal). says (refusal_text q)) same) d
      by script due s d (small v x) = absurd (w.none v)
      by script due s d (over_told ss _ _ v x q a) = absurd (w.none v)
      by script due s d (over_untold _ _ v x q a) = absurd (w.none v)
  missing_users_are_refused words old new status r told w serves (no_file c is g) m = absurd (no_file_failed words c old new is serves g)
  missing_users_are_refused words old new status r told w serves (no_memory c is x) m = absurd (m refl)

  pub small_disks_are_refused : SmallDisksAreRefused
  small_disks_are_refused words plan session s rows old new status told comes is sees few serves (done _ h) m = by plan is (plan_asks words old new status h plan told comes)
    where
      less : h.mid.disk.size < sectors_needed session s rows
      less = subst (λ (d : Drive). d.size < sectors_needed session s rows) (sym (mid_disk blame words old new status h).0) few

      ends : (Told : List (List ℕ) → List Call → Status → Type 0) (Some_ : List Call → Status → Type 0) (script : List Call) (due : Status) → h.script ≡ script → h.due ≡ due →
          SessionAsks session s rows h.mid Told Some_ script due → RefusedWith Disk (refusal_text (small_disk (sectors_needed session s rows) old.disk.size)) old new status
      ends T S script due e d (no_user u v x) = absurd (x sees)
      ends T S script due e d (small v x) =
          row_told blame words old new status h Disk (refusal_text (small_disk (sectors_needed session s rows) old.disk.size))
          (e ∙ ap (λ (k : Drive). says (refusal_text (small_disk (sectors_needed session s rows) k.size))) (mid_disk blame words old new status h).0) d
      ends T S script due e d (over_told ss _ _ v x q a) = absurd (omega (arith, x, less))
      ends T S script due e d (over_untold _ _ v x q a) = absurd (omega (arith, x, less))

      by : (p : Plan) → IsOf session s rows p → PlanAsks p h.mid h.script h.due →
          RefusedWith Disk (refusal_text (small_disk (sectors_needed session s rows) old.disk.size)) old new status
      by p booted_so a = ends _ _ h.script h.due refl refl a
      by p (saved_so name) a = ends _ _ h.script h.due refl refl a
      by p (resumed_so machine) a = ends _ _ h.script h.due refl refl a
  small_disks_are_refused words plan session s rows old new status told comes is sees few serves (no_file c k g) m = absurd (no_file_failed words c old new k serves g)
  small_disks_are_refused words plan session s rows old new status told comes is sees few serves (no_memory c k x) m = absurd (m refl)

  pub long_files_are_refused : LongFilesAreRefused
  long_files_are_refused words c old new status is some (done _ h) taken = by h.plan refl h.got (h.gets.0 c is)
    where
      refused : h.plan ≡ refuses too_long → RefusedWith Shelf (refusal_text too_long) old new status
      refused e =
          let a = subst (λ (p : Plan). PlanAsks p h.mid h.script h.due) e h.asks in
          row_told blame words old new status h Shelf (refusal_text too_long) a.0 a.1

      by : (p : Plan) → h.plan ≡ p → (got : List Call) → GetsFor old.shelf.file (files_of c) new.shelf.taken p got → RefusedWith Shelf (refusal_text too_long) old new status
      by p e got (all _ n t) = absurd (t some taken)
      by p e got (up_to before after name x s l t) = refused e
  long_files_are_refused words c old new status is some (no_file d k g) taken = absurd (g.few taken)
  long_files_are_refused words c old new status is some (no_memory d k (behind made rest e s p t)) taken = absurd (t (λ n. some (ap files_of (one_command words c d is k) ∙ n)) taken)
  long_files_are_refused words c old new status is some (no_memory d k (within made rest name mid e s p (wants x y t z w))) taken = absurd (t taken)

  pub runs_end : RunsEnd
  runs_end words old new status p told comes runs f (done _ h) m =
      subst IsRunStatus (sym (status_due words old new status h (none_blamed words old new status h f)))
      (run_due p h.mid h.script h.due (subst (λ (d : Drive). IsRun p d.size) (sym (mid_disk blame words old new status h).0) runs) (plan_asks words old new status h p told comes))
  runs_end words old new status p told comes runs f (no_file c is g) m = absurd (no_file_failed words c old new is f.shelf g)
  runs_end words old new status p told comes runs f (no_memory c is w) m = absurd (m refl)

  pub work_completes : WorkCompletes
  work_completes words old new status p told comes work f (done _ h) m =
      let none : h.blamed ≡ None = none_blamed words old new status h f in
      let w = by p work (plan_asks words old new status h p told comes) (subst (λ (b : Option Who). Performs h.script h.mid new b) none h.performs) in
      (status_due words old new status h none ∙ w.0, w.1)
    where
      k : Untouched old h.mid
      k = mid_keeps blame words old new status h

      made : (script : List Call) → h.script ≡ script → Performs h.script h.mid new None → Performs script h.mid new None
      made script e a = subst (λ (s : List Call). Performs s h.mid new None) e a

      told_so : (text : List ℕ) → new ≡ record h.mid { sink = with_text h.mid.sink text } → WorkLeaves (tells text) old new
      told_so text e = (
        ap (λ (o : Outside). o.sink) e ∙ ap (λ (o : Output). with_text o text) k.sink,
        λ n. ap (λ (o : Outside). o.shelf.file n) e ∙ k.files n,
      )

      by : (p : Plan) → IsWork p → PlanAsks p h.mid h.script h.due → Performs h.script h.mid new None → (h.due ≡ Done) × WorkLeaves p old new
      by (puts name bytes) w a q =
          let z = stores name bytes h.mid new (made (Stored name bytes ∷ []) a.0 q) in
          (a.1, (z.0 ∙ ap (λ (t : Option (List ℕ)). retold t bytes) (k.files name), z.1 ∙ k.sink))
      by (tells text) w a q = (a.1, told_so text (says_keeps text h.mid new (made (says text) a.0 q)))
      by bad_words w a q = absurd w
      by (refuses r) w a q = absurd w
      by (boots d s r) w a q = absurd w
      by (saves d s r n) w a q = absurd w
      by (resumes d s r x) w a q = absurd w
  work_completes words old new status p told comes work f (no_file c is g) m = absurd (no_file_failed words c old new is f.shelf g)
  work_completes words old new status p told comes work f (no_memory c is w) m = absurd (m refl)
