-- How a command ends, by the gets of its stage and by what was done behind them.
use Rattle.std.proofs.Common.{◌≡◌, ◌≢◌, ◌⊎◌, inl, inr, ℕ, List, [], ◌∷◌, ◌++◌, append-nil, refl, sym, ◌∙◌, ap, subst, Some, None, Ok, Err}
use Rattle.std.specs.Prelude.{Option, Result, IfSome, OnOk, OnErr, codes, ⊤}
use Rattle.std.specs.Global.{Vec}
use Rattle.std.specs.Io.KnownBytes.{append_known}
use Rattle.cvm_outside.specs.Causes.{Counts}
use Rattle.cvm_outside.specs.Told.{AppendsPart, TOO_LONG}
use Rattle.cvm_outside.specs.Outside.{Outside, Files, Output, Drive, output}
use Rattle.cvm_outside.specs.declared.sink.Sink as sink_of
use Rattle.cvm_outside.specs.Script.{Call, Printed, Read, Wrote, Got, Stored, Who, TheShelf, CallDone, CallFailed, Performs, done as all_done, breaks, goes_on, blame, of_sink}
use Rattle.cvm_outside.specs.declared.shelf.ShelfFault.{ShelfFault}
use Rattle.cvm_outside.specs.declared.sink.SinkFault.{SinkFault}
use Rattle.cvm_outside.proofs.RowsPut.{put_once, performed}
use Rattle.real_layer.specs.Image.{layer_image}
use Rattle.boot_run.specs.Closing.{says}
use Rattle.boot_run.specs.SavedRuns.{IsDisk}
use Rattle.machine_save.proofs.SaveCalls.{OnePut, put_does, put_fails}
use Rattle.boot_turns.specs.declared.answers.View.{View}
use Rattle.boot_turns.specs.declared.answers.View.TheVariants as view
use Rattle.run_scripts.specs.declared.exit_status.Status.{Status}
use Rattle.run_scripts.specs.declared.exit_status.Status.TheVariants.{Done, Words, Shelf, Memory}
use Rattle.cvm_shell.specs.declared.boot.Stop.{Stop}
use Rattle.cvm_shell.specs.declared.boot.Stop.TheVariants as Stops
use Rattle.cvm_shell.specs.declared.refusal.Refusal.{Refusal as ByCode}
use Rattle.cvm_shell.specs.declared.refusal.Refusal.TheVariants as by
use Rattle.run_scripts.specs.Command.{BootCommand, Sample, Command, boot, sample, IsCommand, IsNoCommand, IsSample, command_of, sample_session}
use Rattle.run_scripts.specs.Plan.{Plan, bad_words, refuses, puts, boots, saves, resumes, prints, no_command, PartsPlan, IsPlan}
use Rattle.sample_maker.specs.Sample.{sample_of}
use Rattle.run_scripts.specs.Refusal.{too_long}
use Rattle.cvm_shell.specs.Views.{IfPlan, IfRefused, refusal_view, stated_row, stated_status}
use Rattle.cvm_shell.specs.Stages.{puts_made, FilesPlan}
use Rattle.run_scripts.specs.Ends.{Ends, PlanAsks, Joins, done, no_file, no_memory, GetsFor, all, up_to, CommandGets, AreBytes, RunIsFound, PlanFinds, behind, answered}
use Rattle.run_scripts.specs.Served.{files_of, gets}
use Rattle.run_scripts.specs.Shapes.{gets_in, PlansHaveShape}
use Rattle.cvm_shell.specs.Does.{SaysStop, WereGot, StopGets, AnswerGets, Acts, DoesPlan, DoesOrWants}
use Rattle.cvm_shell.proofs.CommandPlans.{plan_of, only_none, which, one_refusal}
use Rattle.cvm_shell.proofs.GotCalls.{beside}
use Rattle.run_scripts.proofs.OneCommand.{one_command}

-- SAYING: one call of the sink
pub said : {T : Type 0} (text : List ℕ) (due : Status) (shelf : Files) (disk : Drive) (old new : Output) (r : Result T SinkFault) → OnOk r (new.text ≡ append_known old.text text)
    → OnErr r (AppendsPart old.text new.text text) → Counts old.faults new.faults r → Acts (says text) due (beside old disk shelf) (beside new disk shelf) (answered due (blame of_sink r))
said text due shelf disk old new r whole part count = record {
  blamed = blame of_sink r;
  performs = performed (Some text) text shelf disk old new (blame of_sink r) refl (put_once text old new r whole part count);
  status_is = refl;
}

-- PUTTING: one call of the shelf, and the status of its answer
abbrev pub put_status : Result (Unit {0}) ShelfFault → Status
put_status (Ok x) = Done
put_status (Err f) = Shelf

pub was_put : (name bytes : List ℕ) (sink : Output) (disk : Drive) (old new : Files) (r : Result (Unit {0}) ShelfFault) → OnePut name bytes old new r →
    DoesPlan (puts name bytes) (beside sink disk old) (beside sink disk new) (put_status r)
was_put name bytes sink disk old new (Ok x) p = record {
  script = Stored name bytes ∷ [];
  due = Done;
  asks = (refl, refl);
  blamed = None;
  performs = goes_on (Stored name bytes) [] _ _ _ None (put_does name bytes sink disk old new p) (all_done _);
  joins = tt;
  status_is = refl;
}
was_put name bytes sink disk old new (Err f) p = record {
  script = Stored name bytes ∷ [];
  due = Done;
  asks = (refl, refl);
  blamed = Some TheShelf;
  performs = breaks (Stored name bytes) [] _ _ (put_fails name bytes sink disk old new f p);
  joins = tt;
  status_is = refl;
}

-- THE GETS of a command, of which there is one
its_gets : (words : List (List ℕ)) (file : List ℕ → Option (List ℕ)) (c : Command) (p : Plan) (taken : ℕ) (got : List Call) → IsCommand words c → p ≢ bad_words
    → GetsFor file (files_of c) taken p got → CommandGets words file taken p got
its_gets words file c p taken got is some h =
    (λ d other. let P : Command → Type 0 = λ x. GetsFor file (files_of x) taken p got in subst P (one_command words c d is other) h, λ e. absurd (some e))

-- WHAT IT FINDS, whatever its plan is
pub found : (words : List (List ℕ)) (c : Command) (old : Outside) → IsCommand words c → AreBytes old.shelf.file (files_of c) → IfSome old.disk.sectors (IsDisk old.disk.size) → RunIsFound words old
found words c old is bytes disk = record {
  files = λ d other. subst (λ (x : Command). AreBytes old.shelf.file (files_of x)) (one_command words c d is other) bytes;
  disk = disk;
}

finds : (p : Plan) (words : List (List ℕ)) (old : Outside) → RunIsFound words old → PlanFinds p words old
finds (boots session s rows) words old f = f
finds (saves session s rows name) words old f = f
finds (resumes session s rows machine) words old f = f
finds bad_words words old f = tt
finds (refuses r) words old f = tt
finds (puts name bytes) words old f = tt
finds (prints text) words old f = tt

-- A PLAN WAS DONE behind all gets
behind_gets : (words : List (List ℕ)) (c : Command) (p : Plan) (old mid new : Outside) (status : Status) → IsCommand words c → FilesPlan layer_image old.shelf.file c p → p ≢ bad_words → p ≢ refuses too_long
    → PlanFinds p words old → Performs (gets (files_of c)) old mid None → (files_of c ≢ [] → new.shelf.taken ≢ TOO_LONG) → DoesPlan p mid new status → Ends words old new status
behind_gets words c p old mid new status is plan some short told got few d = done status (record {
  plan = p;
  is_plan = plan_of words old.shelf.file c p is plan;
  got = gets (files_of c);
  gets = its_gets words old.shelf.file c p new.shelf.taken (gets (files_of c)) is some (all p short few);
  mid = mid;
  files = got;
  finds = told;
  script = d.script;
  due = d.due;
  asks = d.asks;
  blamed = d.blamed;
  performs = d.performs;
  joins = d.joins;
  status_is = d.status_is;
})

pub plan_done : (words : List (List ℕ)) (c : Command) (p : Plan) (old mid new : Outside) (status : Status) → IsCommand words c → FilesPlan layer_image old.shelf.file c p → p ≢ bad_words → p ≢ refuses too_long
    → PlanFinds p words old → WereGot (files_of c) old mid → new.shelf.taken ≡ mid.shelf.taken → DoesPlan p mid new status → Ends words old new status
plan_done words c p old mid new status is plan some short told got taken d =
    behind_gets words c p old mid new status is plan some short told got.performs (λ named h. got.few (sym taken ∙ h)) d

-- no file is got behind the gets, so what was taken then stays
call_taken : (c : Call) (rest : List Call) (old new : Outside) → gets_in (c ∷ rest) ≡ [] → CallDone c old new ⊎ CallFailed c old new → (new.shelf.taken ≡ old.shelf.taken) × (gets_in rest ≡ [])
call_taken (Printed t) rest old new none (inl d) = (ap (λ (o : Outside). o.shelf.taken) d.1, none)
call_taken (Printed t) rest old new none (inr f) = (ap (λ (o : Outside). o.shelf.taken) f.2, none)
call_taken (Read q) rest old new none (inl d) = (ap (λ (o : Outside). o.shelf.taken) d.0, none)
call_taken (Read q) rest old new none (inr f) = (ap (λ (o : Outside). o.shelf.taken) f.1, none)
call_taken (Wrote q ws) rest old new none (inl d) = (ap (λ (o : Outside). o.shelf.taken) d.0, none)
call_taken (Wrote q ws) rest old new none (inr f) = (ap (λ (o : Outside). o.shelf.taken) f.1.1, none)
call_taken (Got n) rest old new none h = absurd (let e : n ∷ gets_in rest ≡ [] = none in cc)
call_taken (Stored n bs) rest old new none (inl d) = (ap (λ (o : Outside). o.shelf.taken) d.3, none)
call_taken (Stored n bs) rest old new none (inr f) = (ap (λ (o : Outside). o.shelf.taken) f.3, none)

script_taken : (script : List Call) (old new : Outside) (b : Option Who) → gets_in script ≡ [] → Performs script old new b → new.shelf.taken ≡ old.shelf.taken
script_taken script old new b none (all_done _) = refl
script_taken script old new b none (breaks c rest _ _ f) = (call_taken c rest old new none (inr f)).0
script_taken script old new b none (goes_on c rest _ mid _ _ d p) = let h = call_taken c rest old mid none (inl d) in script_taken rest mid new b h.1 p ∙ h.0

pub plan_taken : PlansHaveShape → (words : List (List ℕ)) (c : Command) (p : Plan) (old mid new : Outside) (status : Status) → IsCommand words c → FilesPlan layer_image old.shelf.file c p
    → DoesOrWants p mid new status → new.shelf.taken ≡ mid.shelf.taken
plan_taken shape words c p old mid new status is plan (inl d) =
    let s = shape words old.shelf.file c p mid d.script d.due is (plan_of words old.shelf.file c p is plan).comes d.asks in
    script_taken d.script mid new d.blamed s.gets d.performs
plan_taken shape words c p old mid new status is plan (inr (m, e)) = ap (λ (o : Outside). o.shelf.taken) e

-- or there was no memory for it
pub run_done : (words : List (List ℕ)) (c : Command) (p : Plan) (old mid new : Outside) (status : Status) → IsCommand words c → FilesPlan layer_image old.shelf.file c p → p ≢ bad_words → p ≢ refuses too_long
    → RunIsFound words old → WereGot (files_of c) old mid → new.shelf.taken ≡ mid.shelf.taken → DoesOrWants p mid new status → Ends words old new status
run_done words c p old mid new status is plan some short f got taken (inl d) = plan_done words c p old mid new status is plan some short (finds p words old f) got taken d
run_done words c p old mid new status is plan some short f got taken (inr (m, e)) =
    subst (Ends words old new) (sym m)
    (no_memory c is (behind (files_of c) [] (append-nil (files_of c)) got.short (subst (λ (at : Outside). Performs (gets (files_of c)) old at None) (sym e) got.performs)
    (λ named h. got.few (sym taken ∙ h))))

-- A COMMAND THAT GETS NO FILE
pub nothing_got : (words : List (List ℕ)) (c : Command) (p : Plan) (old new : Outside) (status : Status) → files_of c ≡ [] → IsCommand words c → FilesPlan layer_image old.shelf.file c p → p ≢ bad_words → p ≢ refuses too_long
    → PlanFinds p words old → DoesPlan p old new status → Ends words old new status
nothing_got words c p old new status none is plan some short told d =
    behind_gets words c p old old new status is plan some short told (subst (λ (names : List (List ℕ)). Performs (gets names) old old None) (sym none) (all_done old)) (λ named. absurd (named none)) d

pub nothing_wanted : (words : List (List ℕ)) (c : Command) (old new : Outside) → files_of c ≡ [] → IsCommand words c → new ≡ old → Ends words old new Memory
nothing_wanted words c old new none is e =
    no_memory c is (behind [] (files_of c) refl tt (subst (λ (at : Outside). Performs [] old at None) (sym e) (all_done old)) (λ named. absurd (named none)))

-- ONE SCRIPT WAS PERFORMED that the plan asks for
pub acted : (p : Plan) (script : List Call) (due : Status) (old new : Outside) (status : Status) → PlanAsks p old script due → ((blamed : Option Who) → Joins p old new blamed due)
    → Acts script due old new status → DoesPlan p old new status
acted p script due old new status asks joins acts =
    record { script = script; due = due; asks = asks; blamed = acts.blamed; performs = acts.performs; joins = joins acts.blamed; status_is = acts.status_is }

-- what is refused is no command, and not too long
pub refusal_plan : (r : ByCode) (old new : Outside) (status : Status) → Acts (says (stated_row r)) (stated_status r) old new status → DoesPlan (refuses (refusal_view r)) old new status
refusal_plan r old new status acts = acted (refuses (refusal_view r)) (says (stated_row r)) (stated_status r) old new status (refl, refl) (λ blamed. tt) acts

-- A FAULT WAS REFUSED behind all gets, or behind those up to a file that is too long
record Refusable (names : List (List ℕ)) (r : ByCode) (old mid : Outside) (taken : ℕ) : Type 0 where
  pub got : List Call
  pub gets : GetsFor old.shelf.file names taken (refuses (refusal_view r)) got
  pub performs : Performs got old mid None

refusable : (names : List (List ℕ)) (r : ByCode) (old mid : Outside) (taken : ℕ) → taken ≡ mid.shelf.taken → StopGets names old mid (Stops.Refused r) → Refusable names r old mid taken
refusable names by.TooLong old mid taken e h =
    record { got = gets (h.before ++ h.name ∷ []); gets = up_to h.before h.after h.name h.all h.short h.long (e ∙ h.taken); performs = h.performs }
refusable names other old mid taken e h =
    record { got = gets names; gets = all (refuses (refusal_view other)) (λ d. cc) (λ named d. h.few (sym e ∙ d)); performs = h.performs }

pub refused_done : (words : List (List ℕ)) (c : Command) (r : ByCode) (old mid new : Outside) (status : Status) → IsCommand words c → FilesPlan layer_image old.shelf.file c (refuses (refusal_view r))
    → StopGets (files_of c) old mid (Stops.Refused r) → new.shelf.taken ≡ mid.shelf.taken → Acts (says (stated_row r)) (stated_status r) mid new status → Ends words old new status
refused_done words c r old mid new status is plan stops taken acts =
    let h = refusable (files_of c) r old mid new.shelf.taken taken stops in
    let d = refusal_plan r mid new status acts in
    done status (record {
      plan = refuses (refusal_view r);
      is_plan = plan_of words old.shelf.file c (refuses (refusal_view r)) is plan;
      got = h.got;
      gets = its_gets words old.shelf.file c (refuses (refusal_view r)) new.shelf.taken h.got is (λ e. cc) h.gets;
      mid = mid;
      files = h.performs;
      finds = tt;
      script = d.script;
      due = d.due;
      asks = d.asks;
      blamed = d.blamed;
      performs = d.performs;
      joins = d.joins;
      status_is = d.status_is;
    })

-- a text was printed
pub told_done : (words : List (List ℕ)) (c : Command) (text : List ℕ) (old mid new : Outside) (status : Status) → IsCommand words c → FilesPlan layer_image old.shelf.file c (prints text)
    → WereGot (files_of c) old mid → new.shelf.taken ≡ mid.shelf.taken → Acts (says text) Done mid new status → Ends words old new status
told_done words c text old mid new status is plan got taken acts =
    plan_done words c (prints text) old mid new status is plan (λ e. cc) (λ e. cc) tt got taken
    (acted (prints text) (says text) Done mid new status (refl, refl) (λ blamed. tt) acts)

-- what was made was put
pub put_done : (words : List (List ℕ)) (c : Command) (name put bytes : List ℕ) (r : Result (Unit {0}) ShelfFault) (sink : Output) (disk : Drive) (old mid new : Files) → IsCommand words c
    → FilesPlan layer_image old.file c (puts name bytes) → put ≡ bytes → WereGot (files_of c) (beside sink disk old) (beside sink disk mid) → OnePut name put mid new r
    → Ends words (beside sink disk old) (beside sink disk new) (put_status r)
put_done words c name put bytes r sink disk old mid new is plan e got p =
    let h : OnePut name bytes mid new r = subst (λ (bs : List ℕ). OnePut name bs mid new r) e p in
    plan_done words c (puts name bytes) (beside sink disk old) (beside sink disk mid) (beside sink disk new) (put_status r) is plan (λ d. cc) (λ d. cc) tt got p.taken (was_put name bytes sink disk mid new r h)

-- WHAT A STAGE MADE of the files that it got, of a command that puts it under a name
pub record StageMade (c : Command) (name : List ℕ) (sink : Output) (disk : Drive) (old mid : Files) (made : Result (Vec ℕ) Stop) : Type 0 where
  pub gets : AnswerGets (files_of c) (beside sink disk old) (beside sink disk mid) made
  pub plan : IfPlan (puts_made name) (FilesPlan layer_image old.file c) made

-- A STAGE STOPPED, and it was said why
pub stop_done : {O : Type 0} (told : sink_of.Ghosts O) (words : List (List ℕ)) (c : Command) (disk : Drive) (old mid : Files) (s : Stop) (o o' : O) (status : Status) → IsCommand words c
    → StopGets (files_of c) (beside (output told o) disk old) (beside (output told o) disk mid) s → IfRefused (FilesPlan layer_image old.file c) s → SaysStop told s o o' status
    → Ends words (beside (output told o) disk old) (beside (output told o') disk mid) status
stop_done told words c disk old mid (Stops.Refused r) o o' status is gets plan said = refused_done words c r _ _ _ status is plan gets refl (said mid disk)
stop_done {O} told words c disk old mid Stops.Shelf o o' status is gets plan (same, e) =
    subst (λ (x : O). Ends words (beside (output told o) disk old) (beside (output told x) disk mid) status) (sym same)
    (subst (Ends words (beside (output told o) disk old) (beside (output told o) disk mid)) (sym e) (no_file c is gets))
stop_done {O} told words c disk old mid Stops.Memory o o' status is gets plan (same, e) =
    subst (λ (x : O). Ends words (beside (output told o) disk old) (beside (output told x) disk mid) status) (sym same)
    (subst (Ends words (beside (output told o) disk old) (beside (output told o) disk mid)) (sym e) (no_memory c is gets))

-- THE WORDS ARE NO COMMAND
pub bad_words_done : (words : List (List ℕ)) (old new : Outside) (status : Status) → IsNoCommand words → Acts (says (codes "bad words\n")) Words old new status → Ends words old new status
bad_words_done words old new status none acts = done status (record {
  plan = bad_words;
  is_plan = record { comes = no_command none; only = λ told q h. only_none words old.shelf.file none q h };
  got = [];
  gets = (λ c is. absurd (none c is), λ e. refl);
  mid = old;
  files = all_done old;
  finds = tt;
  script = says (codes "bad words\n");
  due = Words;
  asks = (refl, refl);
  blamed = acts.blamed;
  performs = acts.performs;
  joins = tt;
  status_is = acts.status_is;
})

-- what holds of the files of a boot holds of those of the command with its view
pub viewed : (P : List (List ℕ) → Type 0) (b : BootCommand) (v : View) → P (files_of (boot b)) → P (files_of (command_of b v))
viewed P b view.Boot h = h
viewed P b (view.Trace u) h = h

-- THE SAMPLE of a number
pub sample_done : (words : List (List ℕ)) (x : Sample) (p : Plan) (old new : Outside) (status : Status) → IsSample words x → IsPlan ⊤ (PartsPlan layer_image sample_session (sample_of x.number)) p → p ≢ bad_words → p ≢ refuses too_long
    → IfSome old.disk.sectors (IsDisk old.disk.size) → DoesOrWants p old new status → Ends words old new status
sample_done words x p old new status is plan some short disk (inl d) =
    nothing_got words (sample x) p old new status refl is plan some short (finds p words old (found words (sample x) old is tt disk)) d
sample_done words x p old new status is plan some short disk (inr (m, e)) = subst (Ends words old new) (sym m) (nothing_wanted words (sample x) old new refl is e)

sample_refused : (words : List (List ℕ)) (x : Sample) (r : ByCode) (old new : Outside) (status : Status) → IsSample words x → IsPlan ⊤ (PartsPlan layer_image sample_session (sample_of x.number)) (refuses (refusal_view r)) → r ≢ by.TooLong
    → Acts (says (stated_row r)) (stated_status r) old new status → Ends words old new status
sample_refused words x r old new status is plan short acts =
    nothing_got words (sample x) (refuses (refusal_view r)) old new status refl is plan (λ e. cc) (other (which r)) tt (refusal_plan r old new status acts)
  where
    other : (r ≡ by.TooLong) ⊎ (refusal_view r ≢ too_long) → refuses (refusal_view r) ≢ refuses too_long
    other (inl e) h = short e
    other (inr named) h = named (one_refusal (refusal_view r) too_long h)

-- it stopped, and it was said why
pub sample_stopped : {O : Type 0} (told : sink_of.Ghosts O) (words : List (List ℕ)) (x : Sample) (shelf : Files) (disk : Drive) (s : Stop) (o o' : O) (status : Status) → IsSample words x
    → IfRefused (IsPlan ⊤ (PartsPlan layer_image sample_session (sample_of x.number))) s → s ≢ Stops.Shelf → s ≢ Stops.Refused by.TooLong → SaysStop told s o o' status
    → Ends words (beside (output told o) disk shelf) (beside (output told o') disk shelf) status
sample_stopped told words x shelf disk (Stops.Refused r) o o' status is plan inside short said =
    sample_refused words x r _ _ status is plan (λ e. short (ap (λ (y : ByCode). Stops.Refused y) e)) (said shelf disk)
sample_stopped told words x shelf disk Stops.Shelf o o' status is plan inside short said = absurd (inside refl)
sample_stopped {O} told words x shelf disk Stops.Memory o o' status is plan inside short (same, e) =
    subst (Ends words (beside (output told o) disk shelf) (beside (output told o') disk shelf)) (sym e)
    (nothing_wanted words (sample x) _ _ refl is (ap (λ (y : O). beside (output told y) disk shelf) same))
