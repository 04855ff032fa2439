-- What each boot of a whole system prints whose users are compiled of C0: the kernel of summing, which adds up what its two users bring it by `trap`.
use Rattle.std.specs.Prelude.{◌≡◌, ◌≢◌, ℕ, suc, pos, ◌+◌, ◌*◌, ◌^◌, ◌≤◌, ◌<◌, List, [], ◌∷◌, ◌++◌, length, codes, Some, slice_get}
use Rattle.std.specs.Io.KnownBytes.{append_known}
use Rattle.schedule_file.specs.Rows.{Rows, longest}
use Rattle.mips_table.specs.Device.{Environment}
use Rattle.mips_table.specs.Machine.{State}
use Rattle.mips_table.specs.Flat.{Flat}
use Rattle.layer_map.specs.Map.{Map}
use Rattle.c0_tree.specs.Tree.{CUnit}
use Rattle.c0_meaning.specs.UserProgram.{prog}
use Rattle.boot_turns.specs.declared.answers.View.TheVariants.{Boot}
use Rattle.cvm_model.specs.Cvm.{System, Halted, first_flat}
use Rattle.cvm_model.specs.Text.{rows_text, users_text}
use Rattle.run_bounds.specs.Steps.{steps_for}
use Rattle.kernel_linker.specs.Accept.{ImageSystem}
use Rattle.user_c0.specs.Image.{image_words}
use Rattle.user_c0.specs.Program.{steps_of}
use Rattle.user_c0.specs.Users.{IsProgram}
use Rattle.run_scripts.specs.declared.exit_status.Status.{Status}
use Rattle.run_scripts.specs.declared.exit_status.Status.TheVariants.{Done, KernelFault, Memory}
use Rattle.run_scripts.specs.declared.session.Session.{Session}
use Rattle.cvm_outside.specs.Outside.{Outside}
use Rattle.run_scripts.specs.Boot.{booted, environment_of, start_state, steps_before, IsHonest}
use Rattle.run_scripts.specs.CommandEnds.{Headlines}
use Rattle.kernel_theorems.specs.UserRuns.{after}
use Rattle.kernel_boots.specs.Boots.{AsksSource}
use Rattle.kernel_boots.specs.Linked.{IsLinkedOf}
use Rattle.kernel_boots.specs.Systems.{AsksSystem}
use Rattle.summing.specs.Text.{text as kernel_text}
use Rattle.summing.specs.Boots.{report_of, SumShown}
use Rattle.program_systems.specs.Counts.{TrapsBehind}
use Rattle.program_systems.specs.Adders.{adder}
use Rattle.program_systems.specs.AdderTexts.{text_ten, text_twenty}

-- a program whose first call brings this number, and is made within n units
pub record Brings (u : CUnit) (n value : ℕ) : Type 0 where
  pub program : IsProgram u
  pub calls : slice_get (prog u [] n).arguments 0 ≡ Some (pos value)

-- WHAT A RUN SHOWS of two programs that bring v within n units and w within k: each calls after steps within those of its units; the run shows what it shows
-- of such users, so its status is no kernel's fault; and with as many turns as these steps, the schedule's `line` rows and three, and the steps of the machine
-- for them, it is done, has halted, and reports the sum
pub record ProgramSumShown (x : Environment) (y : System) (s : State) (late raised turns steps : ℕ) (one two : CUnit) (n k v w : ℕ) (status : Status)
    (text : List ℕ) : Type 0 where
  pub first_steps : ℕ
  pub second_steps : ℕ
  pub few_first : first_steps ≤ steps_of n
  pub few_second : second_steps ≤ steps_of k
  pub shows : SumShown x y s late raised turns steps first_steps second_steps v w (first_flat (image_words one)) (first_flat (image_words two)) status text
  pub halted : 3 + steps_of n + steps_of k + raised ≤ turns → steps_for y (3 + steps_of n + steps_of k + raised) (3 + raised) 100 0 + late ≤ steps
      → (status ≡ Done) × (shows.shown.stands.state.status ≡ Halted) × (length shows.shown.stands.state.rows ≤ 3 + raised)
      × (text ≡ rows_text shows.shown.stands.state.rows
      ++ report_of (v + w) (after (suc first_steps) (first_flat (image_words one)) ∷ after (suc second_steps) (first_flat (image_words two)) ∷ []))

-- EACH BOOT of an image with the kernel's text and the images of two programs that bring numbers shows this, under every schedule
abbrev pub AnyProgramsSum : Type 0
AnyProgramsSum = (one two : CUnit) (n k v w : ℕ) → Brings one n v → Brings two k w → v + w < 2 ^ 31
    → (words : List (List ℕ)) (status : Status) (old new : Outside) → Headlines words status old new
    → (session : Session) (s : ImageSystem) (rows : Rows) (before : List (List ℕ)) → (h : IsHonest words session s rows before old new)
    → status ≢ Memory → session.view ≡ Boot → AsksSystem kernel_text (image_words one ∷ image_words two ∷ []) h.asked
    → (text : List ℕ) × (new.sink.text ≡ append_known old.sink.text text)
    × ProgramSumShown (environment_of rows old) (booted s rows) (start_state session s rows before) (steps_before session.start (booted s rows))
    (length rows.lines) session.turns session.steps
    one two n k v w status text

-- AND WHERE IT IS KNOWN BEHIND HOW MANY STEPS THEY TRAP, a and b, it shows what it shows of users that call behind just these
abbrev pub AnyCountedProgramsSum : Type 0
AnyCountedProgramsSum = (one two : CUnit) (n k v w a b : ℕ) → Brings one n v → Brings two k w → v + w < 2 ^ 31
    → TrapsBehind (first_flat (image_words one)) a → TrapsBehind (first_flat (image_words two)) b
    → (words : List (List ℕ)) (status : Status) (old new : Outside) → Headlines words status old new
    → (session : Session) (s : ImageSystem) (rows : Rows) (before : List (List ℕ)) → (h : IsHonest words session s rows before old new)
    → status ≢ Memory → session.view ≡ Boot → AsksSystem kernel_text (image_words one ∷ image_words two ∷ []) h.asked
    → (text : List ℕ) × (new.sink.text ≡ append_known old.sink.text text)
    × SumShown (environment_of rows old) (booted s rows) (start_state session s rows before) (steps_before session.start (booted s rows))
    (length rows.lines) session.turns session.steps
    a b v w (first_flat (image_words one)) (first_flat (image_words two)) status text

-- THE TWO ADDERS, whose machines at the start are f and g: the status is no kernel's fault; and under a schedule of L `line` rows, with 343 turns and L more,
-- and the steps of the machine for them, it is done, has halted, and its text is at most 3 + L rows and then the report, which says the total of 265 and each
-- user's machine behind its call
pub record AddersShown (x : Environment) (y : System) (s : State) (late raised turns steps : ℕ) (f g : Flat) (status : Status) (text : List ℕ) : Type 0 where
  pub shows : SumShown x y s late raised turns steps 120 220 55 210 f g status text
  pub no_fault : status ≢ KernelFault
  pub halted : 343 + raised ≤ turns → steps_for y (343 + raised) (3 + raised) 100 0 + late ≤ steps
      → (status ≡ Done) × (length shows.shown.stands.state.rows ≤ 3 + raised)
      × (text ≡ rows_text shows.shown.stands.state.rows
      ++ (codes "halted\nglobal total 265\nglobal done true\n" ++ users_text 1 (after 121 f ∷ after 221 g ∷ [])))

-- EACH BOOT of an image with the kernel's text whose users are compiled of the two texts, under every schedule; their machines at the start are those of the
-- images of the two trees, whatever places the texts' own trees have
abbrev pub CompiledSumsBoot : Type 0
CompiledSumsBoot = (words : List (List ℕ)) (status : Status) (old new : Outside) → Headlines words status old new
    → (session : Session) (s : ImageSystem) (rows : Rows) (before : List (List ℕ)) → (h : IsHonest words session s rows before old new)
    → status ≢ Memory → session.view ≡ Boot → AsksSource kernel_text h.asked → (layer : Map → List ℕ → List ℕ) → IsLinkedOf layer text_ten text_twenty s
    → (text : List ℕ) × (new.sink.text ≡ append_known old.sink.text text)
    × AddersShown (environment_of rows old) (booted s rows) (start_state session s rows before) (steps_before session.start (booted s rows))
    (length rows.lines) session.turns session.steps
    (first_flat (image_words (adder 10))) (first_flat (image_words (adder 20))) status text

-- THE STEPS in numbers: with 20 pages for each user, 48 frames and no busy times, so many for L `line` rows, before those of a ROM
abbrev pub CompiledStepsAreFew : Type 0
CompiledStepsAreFew = (s : ImageSystem) (rows : Rows) (raised : ℕ) → s.params.pages ≡ 20 → s.params.frames ≡ 48 → length s.users ≡ 2 → longest rows ≡ 0
    → steps_for (booted s rows) (343 + raised) (3 + raised) 100 0 ≡ 138290055 + 464561 * raised
