-- The journals of users that run programs: what is printed can be replayed over the machine that a program's image starts.
use Rattle.std.specs.Prelude.{◌-◌, ◌++◌, length, slice_get, slice_index_or, map, nat_lt, if◌then◌else◌, Option}
use Rattle.std.specs.Option.{option_map}
use Rattle.std.specs.Io.KnownBytes.{append_known}
use Rattle.std.proofs.Common.{◌≡◌, ℕ, zero, suc, ◌≤◌, List, [], ◌∷◌, Some, None, refl, sym, ap, ◌∙◌, subst}
use Rattle.mips_table.specs.Device.{Environment}
use Rattle.mips_table.specs.Machine.{State}
use Rattle.mips_table.specs.Flat.{Flat}
use Rattle.mips_table.specs.Turns.{turn_of, complete, lines_of_turn, end_within}
use Rattle.schedule_file.specs.Rows.{Rows}
use Rattle.c0_tree.specs.Tree.{CUnit}
use Rattle.cvm_model.specs.Kernel.{JournalEntry}
use Rattle.cvm_model.specs.Primitives.{no_flat}
use Rattle.cvm_model.specs.Cvm.{System, first_flat}
use Rattle.cvm_model.specs.Journal.{journal, replay}
use Rattle.cvm_model.specs.Text.{start_row, open_journal_rows}
use Rattle.boot_turns.specs.Trace.{entries_so_far}
use Rattle.boot_turns.specs.TurnEnds.{first_user_machine, Printed}
use Rattle.boot_run.specs.declared.whole.RunEnd.{RunEnd}
use Rattle.boot_run.specs.declared.whole.RunEnd.TheVariants.{OutOfSteps}
use Rattle.run_scripts.specs.RunStatus.{status_of_end}
use Rattle.run_scripts.specs.RanFrom.{TextAt}
use Rattle.boot_turns.specs.declared.answers.View.{View}
use Rattle.boot_run.specs.RunEnds.{SeesUser}
use Rattle.kernel_linker.specs.Accept.{ImageSystem}
use Rattle.user_c0.specs.Image.{image_words}
use Rattle.user_c0.specs.Events.{IsAnsweredJournal}
use Rattle.user_c0.specs.Program.{ImagesRun, FollowsMain}
use Rattle.run_scripts.specs.declared.exit_status.Status.TheVariants.{StepLimit}
use Rattle.run_scripts.specs.Boot.{booted, environment_of, start_state}
use Rattle.cvm_shell.specs.Stages.{JournalsReplay}
use Rattle.cvm_shell.specs.Programs.{HasProgram, BootedProgramsRun, SpentTracesTell, SpentProgramsRun}

-- a user's first machine is that of its words
started : (f : List ℕ → Flat) (users : List (List ℕ)) (i : ℕ) (d : Flat) (words : List ℕ) → slice_get users i ≡ Some words → slice_index_or (map f users) i d ≡ f words
started f [] i d words e = absurd (cc)
started f (w ∷ users) zero d words e = let same : w ≡ words = cc in ap f same
started f (w ∷ users) (suc i) d words e = started f users i d words e

starts : (program : CUnit) (s : ImageSystem) (rows : Rows) (u : ℕ) → HasProgram program s u → first_user_machine (booted s rows) u ≡ first_flat (image_words program)
starts program s rows u has = started first_flat s.users (u - 1) no_flat (image_words program) has.words

-- what is mapped was there
there : (f : Flat → List ℕ) (o : Option Flat) (text : List ℕ) → option_map f o ≡ Some text → (last : Flat) × (o ≡ Some last)
there f None text e = absurd (cc)
there f (Some last) text e = (last, refl)

-- each journal of such a user that can be replayed is that of the program
runs : ImagesRun → (program : CUnit) (s : ImageSystem) (rows : Rows) (u : ℕ) (j : List JournalEntry) (last : Flat) → HasProgram program s u → replay (first_user_machine (booted s rows) u) j ≡ Some last
    → (answered : IsAnsweredJournal j) → FollowsMain program (first_flat (image_words program)) answered.events
runs law program s rows u j last has replayed answered = law program has.checked has.small j answered last (ap (λ f. replay f j) (sym (starts program s rows u has)) ∙ replayed)

pub booted_programs : ImagesRun → BootedProgramsRun
booted_programs law session u s rows before old new status a program has answered =
    let r = there _ (replay (first_user_machine (booted s rows) u) a.entries) a.text a.text_is in
    runs law program s rows u a.entries r.0 has r.1 answered

pub spent_programs : ImagesRun → SpentProgramsRun
spent_programs law session u s rows before old new a program has answered = runs law program s rows u a.entries _ has a.replayed answered

-- THE TEXT of a trace whose steps are spent
text_so_far : (x : Environment) (y : System) (s : State) (v : View) (t : ℕ) (e : RunEnd) (text : List ℕ) → status_of_end e ≡ StepLimit → TextAt x y s v t e text → Printed x y s v t text
text_so_far x y s v t OutOfSteps text e h = h
text_so_far x y s v t other text e h = absurd (cc)

pub spent_traces : JournalsReplay → SpentTracesTell
spent_traces law session u s rows before old new h sees traced =
    let x = environment_of rows old in
    let y = booted s rows in
    let m = start_state session s rows before in
    let t = end_within x m session.turns session.steps in
    let user : (1 ≤ u) × (u ≤ length s.users) = subst (λ (v : View). SeesUser v (length s.users)) traced sees in
    let so : Printed x y m session.view t h.text = text_so_far x y m session.view t h.ending h.text (sym h.status_is) h.ran.text_is in
    let (j, shown, text) = subst (λ (v : View). Printed x y m v t h.text) traced so in
    let mine = law s rows (lines_of_turn x m) shown.units (complete x m t) u shown.past h.ran.past user.0 user.1 shown.cvm h.ran.cvm in
    record {
      units = shown.units;
      turns = complete x m t;
      last = shown.past;
      entries = journal y (lines_of_turn x m) shown.units u (complete x m t);
      more = if nat_lt (complete x m t) (turn_of x m t) then entries_so_far x m y shown.units u t else [];
      turns_are = refl;
      run = shown.cvm;
      entries_are = refl;
      more_are = refl;
      replayed = mine.1;
      printed = h.printed ∙ ap (λ (a : List ℕ). append_known old.sink.text a) (text ∙ ap (λ (k : List JournalEntry). start_row u (first_user_machine y u) ++ open_journal_rows k) shown.is);
    }
