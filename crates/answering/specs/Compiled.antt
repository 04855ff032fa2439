-- What each boot of a whole system prints whose users are compiled of C0 and go on with what they are answered, to their ends: the kernel of answering.
use Rattle.std.specs.Prelude.{◌≡◌, ◌≢◌, ℕ, ◌+◌, ◌*◌, ◌^◌, ◌≤◌, ◌<◌, List, [], ◌∷◌, ◌++◌, length, codes}
use Rattle.std.specs.Io.KnownBytes.{append_known}
use Rattle.schedule_file.specs.Rows.{Rows, longest}
use Rattle.mips_table.specs.Device.{Environment}
use Rattle.mips_table.specs.Machine.{State}
use Rattle.mips_table.specs.Flat.{Flat}
use Rattle.layer_map.specs.Map.{Map}
use Rattle.c0_tree.specs.Tree.{CUnit}
use Rattle.boot_turns.specs.declared.answers.View.TheVariants.{Boot}
use Rattle.cvm_model.specs.Cvm.{System, Halted, first_flat}
use Rattle.cvm_model.specs.Text.{rows_text, users_text}
use Rattle.run_bounds.specs.Steps.{steps_for}
use Rattle.kernel_linker.specs.Accept.{ImageSystem}
use Rattle.user_c0.specs.Image.{image_words}
use Rattle.user_c0.specs.Program.{steps_of}
use Rattle.run_scripts.specs.declared.exit_status.Status.{Status}
use Rattle.run_scripts.specs.declared.exit_status.Status.TheVariants.{Done, KernelFault, Memory}
use Rattle.run_scripts.specs.declared.session.Session.{Session}
use Rattle.cvm_outside.specs.Outside.{Outside}
use Rattle.run_scripts.specs.Boot.{booted, environment_of, start_state, steps_before, IsHonest}
use Rattle.run_scripts.specs.CommandEnds.{Headlines}
use Rattle.kernel_boots.specs.Boots.{AsksSource}
use Rattle.kernel_boots.specs.Linked.{IsLinkedOf}
use Rattle.kernel_boots.specs.Systems.{AsksSystem}
use Rattle.answering.specs.Text.{text as kernel_text}
use Rattle.answering.specs.Boots.{report_of, ended_by_trap, AnswersShown}
use Rattle.program_systems.specs.Counts.{TrapsThrough}
use Rattle.program_systems.specs.Asking.{BringsAndEnds, AskedAndEnded}
use Rattle.program_systems.specs.Adders.{adder}
use Rattle.program_systems.specs.AdderTexts.{text_ten, text_twenty}

-- WHAT A RUN SHOWS of two programs that bring v within n units and w within k, and end where they are answered by v and by the sum: each within the steps of
-- its units; the run shows what it shows of such users, so its status is no kernel's fault; and with as many turns as these steps, the schedule's `line` rows
-- and five, and the steps of the machine for them, it is done, has halted, and reports the sum
pub record ProgramsAnsweredShown (x : Environment) (y : System) (s : State) (late raised turns steps : ℕ) (one two : CUnit) (n k v w : ℕ) (status : Status)
    (text : List ℕ) : Type 0 where
  pub first : AskedAndEnded (first_flat (image_words one)) (steps_of n) v v
  pub second : AskedAndEnded (first_flat (image_words two)) (steps_of k) w (v + w)
  pub shows : AnswersShown x y s late raised turns steps first.steps first.rest second.steps second.rest v w (first_flat (image_words one))
      (first_flat (image_words two)) status text
  pub halted : 5 + steps_of n + steps_of k + raised ≤ turns → steps_for y (5 + steps_of n + steps_of k + raised) (5 + raised) 100 0 + late ≤ steps
      → (status ≡ Done) × (shows.shown.stands.state.status ≡ Halted) × (length shows.shown.stands.state.rows ≤ 5 + raised)
      × (text ≡ rows_text shows.shown.stands.state.rows
      ++ report_of (v + w) (ended_by_trap first.steps first.rest v (first_flat (image_words one))
      ∷ ended_by_trap second.steps second.rest (v + w) (first_flat (image_words two)) ∷ []))

-- EACH BOOT of an image with the kernel's text and the images of two such programs shows this, under every schedule
abbrev pub AnyProgramsAnswered : Type 0
AnyProgramsAnswered = (one two : CUnit) (n k v w : ℕ) → BringsAndEnds one n v v → BringsAndEnds two k w (v + w) → v + w < 2 ^ 31
    → (words : List (List ℕ)) (status : Status) (old new : Outside) → Headlines words status old new
    → (session : Session) (s : ImageSystem) (rows : Rows) (before : List (List ℕ)) → (h : IsHonest words session s rows before old new)
    → status ≢ Memory → session.view ≡ Boot → AsksSystem kernel_text (image_words one ∷ image_words two ∷ []) h.asked
    → (text : List ℕ) × (new.sink.text ≡ append_known old.sink.text text)
    × ProgramsAnsweredShown (environment_of rows old) (booted s rows) (start_state session s rows before) (steps_before session.start (booted s rows))
    (length rows.lines) session.turns session.steps
    one two n k v w status text

-- AND WHERE IT IS KNOWN BEHIND HOW MANY STEPS THEY TRAP, a and c up to their calls, b and d from their answers to their ends, it shows what it shows of users
-- that take just these
abbrev pub AnyCountedProgramsAnswered : Type 0
AnyCountedProgramsAnswered = (one two : CUnit) (n k v w a b c d : ℕ) → BringsAndEnds one n v v → BringsAndEnds two k w (v + w) → v + w < 2 ^ 31
    → TrapsThrough (first_flat (image_words one)) (v ∷ []) (a ∷ b ∷ []) → TrapsThrough (first_flat (image_words two)) ((v + w) ∷ []) (c ∷ d ∷ [])
    → (words : List (List ℕ)) (status : Status) (old new : Outside) → Headlines words status old new
    → (session : Session) (s : ImageSystem) (rows : Rows) (before : List (List ℕ)) → (h : IsHonest words session s rows before old new)
    → status ≢ Memory → session.view ≡ Boot → AsksSystem kernel_text (image_words one ∷ image_words two ∷ []) h.asked
    → (text : List ℕ) × (new.sink.text ≡ append_known old.sink.text text)
    × AnswersShown (environment_of rows old) (booted s rows) (start_state session s rows before) (steps_before session.start (booted s rows))
    (length rows.lines) session.turns session.steps
    a b c d v w (first_flat (image_words one)) (first_flat (image_words two)) status text

-- THE TWO ADDERS of program_systems, answered and run to their ends: with 359 turns and L more for L `line` rows
pub record AddersAnswered (x : Environment) (y : System) (s : State) (late raised turns steps : ℕ) (f g : Flat) (status : Status) (text : List ℕ) : Type 0 where
  pub shows : AnswersShown x y s late raised turns steps 120 7 220 7 55 210 f g status text
  pub no_fault : status ≢ KernelFault
  pub halted : 359 + raised ≤ turns → steps_for y (359 + raised) (5 + raised) 100 0 + late ≤ steps
      → (status ≡ Done) × (length shows.shown.stands.state.rows ≤ 5 + raised)
      × (text ≡ rows_text shows.shown.stands.state.rows
      ++ (codes "halted\nglobal total 265\n" ++ users_text 1 (ended_by_trap 120 7 55 f ∷ ended_by_trap 220 7 265 g ∷ [])))

-- EACH BOOT of an image with the kernel's text whose users are compiled of the two texts, under every schedule
abbrev pub CompiledAnswersBoot : Type 0
CompiledAnswersBoot = (words : List (List ℕ)) (status : Status) (old new : Outside) → Headlines words status old new
    → (session : Session) (s : ImageSystem) (rows : Rows) (before : List (List ℕ)) → (h : IsHonest words session s rows before old new)
    → status ≢ Memory → session.view ≡ Boot → AsksSource kernel_text h.asked → (layer : Map → List ℕ → List ℕ) → IsLinkedOf layer text_ten text_twenty s
    → (text : List ℕ) × (new.sink.text ≡ append_known old.sink.text text)
    × AddersAnswered (environment_of rows old) (booted s rows) (start_state session s rows before) (steps_before session.start (booted s rows))
    (length rows.lines) session.turns session.steps
    (first_flat (image_words (adder 10))) (first_flat (image_words (adder 20))) status text

-- THE STEPS in numbers: with 20 pages for each user, 48 frames and no busy times, so many for L `line` rows, before those of a ROM
abbrev pub AnsweredStepsAreFew : Type 0
AnsweredStepsAreFew = (s : ImageSystem) (rows : Rows) (raised : ℕ) → s.params.pages ≡ 20 → s.params.frames ≡ 48 → length s.users ≡ 2 → longest rows ≡ 0
    → steps_for (booted s rows) (359 + raised) (5 + raised) 100 0 ≡ 144855031 + 464561 * raised
