-- Separation: what two boots print of a user that has the same words in both, where the kernels leave it alone.
use Rattle.std.specs.Prelude.{◌≡◌, IsTrue, ℕ, ◌+◌, ◌-◌, ◌≤◌, List, ◌++◌, take, drop, Option, Ok, Some, slice_get}
use Rattle.std.specs.Io.KnownBytes.{append_known}
use Rattle.schedule_file.specs.Rows.{Rows}
use Rattle.mips_table.specs.Turns.{lines_of_turn}
use Rattle.boot_image.specs.Parts.{ImageParts as Image}
use Rattle.boot_image.specs.Reading.{answer as image_of}
use Rattle.boot_turns.specs.declared.answers.View.TheVariants.{Boot}
use Rattle.layer_map.specs.declared.params.Params.{Params}
use Rattle.c0_tree.specs.Tree.{CUnit}
use Rattle.c0_types.specs.Front.{IsUnitOf}
use Rattle.cvm_model.specs.Kernel.{parts_of_value}
use Rattle.cvm_model.specs.KernelMeaning.{kernel_meaning}
use Rattle.cvm_model.specs.Primitives.{user_of}
use Rattle.cvm_model.specs.Cvm.{System, Cvm, Status as CvmStatus, first_flat, cvm}
use Rattle.cvm_model.specs.Journal.{journal}
use Rattle.cvm_model.specs.Text.{rows_text, end_text, globals_text, log_text, user_text, users_text, trace_text}
use Rattle.kernel_linker.specs.Accept.{ImageSystem}
use Rattle.called_primitives.specs.Calls.{calls_only}
use Rattle.called_primitives.specs.Kernels.{ChangesNoMachine, only_reads}
use Rattle.kernel_theorems.specs.Text.{IsTextOf}
use Rattle.kernel_theorems.specs.UserRuns.{after}
use Rattle.run_scripts.specs.declared.exit_status.Status.{Status}
use Rattle.run_scripts.specs.declared.exit_status.Status.TheVariants.{Done}
use Rattle.run_scripts.specs.declared.session.Session.{Session}
use Rattle.cvm_outside.specs.Outside.{Outside}
use Rattle.run_scripts.specs.Boot.{booted, environment_of, start_state, AskFor, by_boot, by_trace, by_sample, IsHonest}
use Rattle.run_scripts.specs.CommandEnds.{Headlines}
use Rattle.run_scripts.specs.Isolation.{IsolatedTrace}
use Rattle.kernel_boots.specs.Boots.{turns_made, AsksSource}
use Rattle.kernel_boots.specs.OwnRuns.{own_steps, own_journal}

-- A SOURCE THAT CHANGES NO MACHINE: whatever kernel has it, with whatever parameters, changes none
abbrev pub SourceChangesNone : List ℕ → Type 0
SourceChangesNone source = (u : CUnit) (p : Params) → IsUnitOf source u → ChangesNoMachine (kernel_meaning u p)

-- A BOOT THAT IS DONE: a `boot`, `rom` or `sample` under the headline's premises, whose status is 0, so that it printed its report
pub record DoneBoot : Type 0 where
  pub words : List (List ℕ)
  pub old : Outside
  pub new : Outside
  pub headlines : Headlines words Done old new
  pub session : Session
  pub system : ImageSystem
  pub rows : Rows
  pub before : List (List ℕ)
  pub honest : IsHonest words session system rows before old new
  pub view : session.view ≡ Boot

-- its abstract run: the system, the lines that its machine met, and how many turns it made
abbrev pub system_of_boot : DoneBoot → System
system_of_boot b = booted b.system b.rows

abbrev pub lines_of_boot : DoneBoot → ℕ → ℕ
lines_of_boot b = lines_of_turn (environment_of b.rows b.old) (start_state b.session b.system b.rows b.before)

abbrev pub turns_of_boot : DoneBoot → ℕ
turns_of_boot b = turns_made (environment_of b.rows b.old) (start_state b.session b.system b.rows b.before) b.session.turns b.session.steps

-- what a report of a state has before user u: the rows of dispatches, the end, the globals, the log, and the users before it; and behind it the other users
abbrev pub in_front : System → Cvm → ℕ → List ℕ
in_front y c u = rows_text c.rows ++ (end_text c.status
    ++ (globals_text y.boot.meaning.names (parts_of_value c.core.c0.global_values) ++ log_text c.core.console.log ++ users_text 1 (take (u - 1) c.core.users)))

abbrev pub behind_user : Cvm → ℕ → List ℕ
behind_user c u = users_text (u + 1) (drop u c.core.users)

-- WHAT IT PRINTED OF USER u, which made so many steps of its own: this block of its report, the rows of its machine in the state where the run stands
pub record PrintsUser (b : DoneBoot) (u steps : ℕ) (block : List ℕ) : Type 0 where
  pub units : ℕ
  pub state : Cvm
  pub run : cvm (system_of_boot b) (lines_of_boot b) units (turns_of_boot b) ≡ Some state
  pub steps_are : steps ≡ own_steps (journal (system_of_boot b) (lines_of_boot b) units u (turns_of_boot b))
  pub printed : b.new.sink.text ≡ append_known b.old.sink.text (in_front (system_of_boot b) state u ++ (block ++ behind_user state u))
  pub block_is : block ≡ user_text u (user_of state.core.users u)

-- the bytes of an image whose user u has these words
abbrev pub ImageHasUser : (u : ℕ) → (words : List ℕ) → List ℕ → Type 0
ImageHasUser u words bytes = (i : Image) × (image_of bytes ≡ Ok i) × (slice_get i.users (u - 1) ≡ Some words)

-- words and files ask for a run of such an image: the file that is named, or what a sample is linked to
abbrev pub AsksUser : (u : ℕ) → (words : List ℕ) → {given : List (List ℕ)} → {file : List ℕ → Option (List ℕ)} → {session : Session}
    → {s : ImageSystem} → {rows : Rows} → AskFor given file session s rows → Type 0
AsksUser u words (by_boot b is same files) = ImageHasUser u words files.image
AsksUser u words (by_trace t is same files) = ImageHasUser u words files.image
AsksUser u words (by_sample x is same parts) = ImageHasUser u words parts.image

-- a boot of this source whose user u, counted from 1, has these words; its other users, parameters, schedule and disk are any
pub record BootsSource (source : List ℕ) (u : ℕ) (words : List ℕ) (b : DoneBoot) : Type 0 where
  pub source_is : AsksSource source b.honest.asked
  pub some : 1 ≤ u
  pub user_is : AsksUser u words b.honest.asked

-- the rows of user u with these words after so many steps by itself, over no kernel and beside no other user
abbrev pub own_block : (u : ℕ) → (words : List ℕ) → (steps : ℕ) → List ℕ
own_block u words steps = user_text u (after steps (first_flat words))

-- EACH BOOT of a source that changes no machine prints a block of user u, and it is the user's own, after as many steps as it made
pub record BlocksAreOwn (source : List ℕ) (u : ℕ) (words : List ℕ) (b : DoneBoot) : Type 0 where
  pub prints : (steps : ℕ) × (block : List ℕ) × PrintsUser b u steps block
  pub own : (steps : ℕ) (block : List ℕ) → PrintsUser b u steps block → block ≡ own_block u words steps

abbrev pub BootsPrintOwn : Type 0
BootsPrintOwn = (source : List ℕ) → SourceChangesNone source → (u : ℕ) (words : List ℕ) (b : DoneBoot) → BootsSource source u words b
    → BlocksAreOwn source u words b

-- SEPARATION, a law on TWO BOOTS in which user u has the same words and made as many steps of its own: they print the same block of it, and it is the user's
-- own. The other users, the parameters, the schedules and the disks of the two are any, and even the kernels, where neither changes a machine.
pub record Agree (u : ℕ) (words : List ℕ) (steps : ℕ) (one two : List ℕ) : Type 0 where
  pub same : one ≡ two
  pub own : one ≡ own_block u words steps

abbrev pub BootsAgree : Type 0
BootsAgree = (source another : List ℕ) → SourceChangesNone source → SourceChangesNone another
    → (u : ℕ) (words : List ℕ) (a b : DoneBoot) → BootsSource source u words a → BootsSource another u words b
    → (steps : ℕ) (one two : List ℕ) → PrintsUser a u steps one → PrintsUser b u steps two → Agree u words steps one two

-- the trace of user u with these words by itself, for so many steps, of a run that ended so
abbrev pub own_trace : (u : ℕ) → (words : List ℕ) → (steps : ℕ) → CvmStatus → List ℕ
own_trace u words steps status = trace_text u (first_flat words) (own_journal steps (first_flat words)) (after steps (first_flat words)) status

-- A LAW: so is what each trace of the user prints, with its journal's steps and with how its run ended
abbrev pub TracesAreOwn : Type 0
TracesAreOwn = (source : List ℕ) → SourceChangesNone source → (given : List (List ℕ)) (session : Session) (u : ℕ) (words : List ℕ)
    (s : ImageSystem) (rows : Rows) (before : List (List ℕ)) (old new : Outside) (status : Status)
    → (h : IsHonest given session s rows before old new) → AsksSource source h.asked → 1 ≤ u → AsksUser u words h.asked
    → (a : IsolatedTrace session u s rows before old new status) → a.text ≡ own_trace u words (own_steps a.entries) a.last.status

-- A LAW: a text that is read by computation as a tree that only reads machines changes none
abbrev pub TextsChangeNone : Type 0
TextsChangeNone = (n : ℕ) (text : List ℕ) (tree : CUnit) → IsTextOf n text tree → IsTrue (calls_only only_reads tree) → SourceChangesNone text

-- SO IT IS OF A NAMED SOURCE: of any two boots of it
abbrev pub SourceSeparates : List ℕ → Type 0
SourceSeparates source = (u : ℕ) (words : List ℕ) (a b : DoneBoot) → BootsSource source u words a → BootsSource source u words b
    → (steps : ℕ) (one two : List ℕ) → PrintsUser a u steps one → PrintsUser b u steps two → Agree u words steps one two
