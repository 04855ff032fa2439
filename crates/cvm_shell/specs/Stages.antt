-- Only for the contracts inside the crate: how the stages of a command end.
use Rattle.std.specs.Prelude.{◌≡◌, ◌≢◌, ⊤, ◌<◌, ◌≤◌, ℕ, List, [], ◌∷◌, length, map, All, Option, Some, Result, Ok, Err, MatchResult, IfOk, IfErr}
use Rattle.cvm_outside.specs.Told.{Tells, TOO_LONG}
use Rattle.cvm_outside.specs.declared.shelf.ShelfFault.{ShelfFault}
use Rattle.cvm_outside.specs.declared.shelf.ShelfFault.TheVariants as fault
use Rattle.mips_asm.specs.declared.fault.AsmFault.{AsmFault}
use Rattle.mips_asm.specs.declared.fault.AsmFault.TheVariants as text
use Rattle.c0_parser.specs.declared.fault.ReadFault.TheVariants as read
use Rattle.c0_types.specs.declared.fault.TypeFault.TheVariants as typing
use Rattle.c0_types.specs.declared.source_fault.SourceFault.{SourceFault}
use Rattle.c0_types.specs.declared.source_fault.SourceFault.TheVariants.{Reading, Typing}
use Rattle.layer_map.specs.Map.{Map}
use Rattle.user_c0.specs.declared.fault.UserFault.{UserFault}
use Rattle.user_c0.specs.declared.fault.UserFault.TheVariants as program
use Rattle.object_file.specs.declared.fault.ObjectFault.{ObjectFault}
use Rattle.object_file.specs.declared.fault.ObjectFault.TheVariants as object
use Rattle.system_files.specs.declared.fault.FileFault.{FileFault}
use Rattle.system_files.specs.declared.fault.FileFault.TheVariants as system
use Rattle.kernel_linker.specs.declared.fault.LinkFault.{LinkFault}
use Rattle.kernel_linker.specs.declared.fault.LinkFault.TheVariants as linking
use Rattle.kernel_linker.specs.declared.fault.AcceptFault.{AcceptFault}
use Rattle.kernel_linker.specs.declared.fault.AcceptFault.TheVariants as accept
use Rattle.kernel_linker.specs.Accept.{ImageSystem, image_system}
use Rattle.cvm_model.specs.Primitives.{user_of}
use Rattle.cvm_model.specs.Cvm.{Cvm, IsCvm, cvm}
use Rattle.cvm_model.specs.Journal.{journal, replay}
use Rattle.layer_contract.specs.Boots.{BootFollows}
use Rattle.boot_turns.specs.TurnEnds.{first_user_machine}
use Rattle.boot_run.specs.LoadEnds.{HasDiskRoom, LoadFails}
use Rattle.machine_save.specs.declared.resuming.ResumeFault.{ResumeFault}
use Rattle.machine_save.specs.declared.resuming.ResumeFault.TheVariants as resuming
use Rattle.boot_run.specs.declared.load.LoadFault.{LoadFault}
use Rattle.boot_run.specs.declared.whole.RunEnd.{RunEnd}
use Rattle.boot_run.specs.declared.whole.RunEnd.TheVariants as run_end
use Rattle.schedule_file.specs.Rows.{Rows}
use Rattle.schedule_file.specs.declared.fault.ScheduleFault.{ScheduleFault}
use Rattle.schedule_file.specs.declared.fault.ScheduleFault.TheVariants as schedule
use Rattle.saved_file.specs.Answer.{answer as machine_of}
use Rattle.saved_file.specs.declared.fault.SaveFault.{SaveFault}
use Rattle.saved_file.specs.declared.fault.SaveFault.TheVariants as saving
use Rattle.boot_run.specs.SaveRoom.{FILE_ROOM}
use Rattle.boot_run.specs.SavedFiles.{wanted_of}
use Rattle.cvm_shell.specs.declared.boot.Ready.{Ready}
use Rattle.cvm_shell.specs.declared.saving.Saveable.{Saveable}
use Rattle.cvm_shell.specs.declared.resuming.Resumable.{Resumable}
use Rattle.cvm_shell.specs.declared.boot.Stop.{Stop}
use Rattle.cvm_shell.specs.declared.boot.Stop.TheVariants as stop
use Rattle.cvm_shell.specs.declared.refusal.Refusal.TheVariants as refusal
use Rattle.run_scripts.specs.declared.exit_status.Status.TheVariants.{Shelf}
use Rattle.std.specs.Global.{Vec}
use Rattle.run_scripts.specs.declared.session.Session.{Session}
use Rattle.run_scripts.specs.Command.{BootCommand, Save, Command, boot, save_session}
use Rattle.run_scripts.specs.Plan.{Plan, puts, boots, saves, most_bytes, taken_plan, BootPlan}
use Rattle.run_scripts.specs.Plan.{CommandPlan, FilesAreTold, IsPlan, user_words_from, prints, boot_of_image}
use Rattle.cvm_shell.specs.Views.{IfPlan}
use Rattle.run_scripts.specs.Boot.{booted, sectors_needed}
use Rattle.run_scripts.specs.Ends.{IsByte}
use Rattle.run_scripts.specs.Served.{files_of}

-- what a fault of the shelf comes to
abbrev pub stop_of : ShelfFault → Stop
stop_of fault.Failed = stop.Shelf
stop_of fault.TooLong = stop.Refused refusal.TooLong
stop_of fault.Memory = stop.Memory

-- what a fault of a user's text comes to
abbrev pub text_stop : AsmFault → Stop
text_stop text.Memory = stop.Memory
text_stop f = stop.Refused (refusal.BadText f)

-- what a fault of the source of a kernel or a user program comes to
abbrev pub source_stop : SourceFault → Stop
source_stop (Reading read.Memory) = stop.Memory
source_stop (Typing typing.Memory) = stop.Memory
source_stop f = stop.Refused (refusal.BadSource f)

-- what a fault of a user program comes to
abbrev pub program_stop : UserFault → Stop
program_stop program.Memory = stop.Memory
program_stop f = stop.Refused (refusal.BadProgram f)

-- what a fault of an object comes to
abbrev pub object_stop : ObjectFault → Stop
object_stop object.Memory = stop.Memory
object_stop f = stop.Refused (refusal.BadObject f)

-- what a fault of parameters or of a user's words comes to
abbrev pub file_stop : FileFault → Stop
file_stop system.Memory = stop.Memory
file_stop f = stop.Refused (refusal.BadFile f)

-- what a fault of linking comes to
abbrev pub link_stop : LinkFault → Stop
link_stop linking.Memory = stop.Memory
link_stop f = stop.Refused (refusal.Unlinked f)

-- what a fault of an image comes to
abbrev pub accept_stop : AcceptFault → Stop
accept_stop accept.Memory = stop.Memory
accept_stop f = stop.Refused (refusal.Unaccepted f)

-- what a fault of a schedule comes to
abbrev pub schedule_stop : ScheduleFault → Stop
schedule_stop schedule.Memory = stop.Memory
schedule_stop f = stop.Refused (refusal.BadSchedule f)

-- what a fault of a saved machine's file comes to
abbrev pub save_stop : SaveFault → Stop
save_stop saving.Memory = stop.Memory
save_stop f = stop.Refused (refusal.BadSave f)

-- what a fault of taking it up comes to
abbrev pub resume_stop : ResumeFault → Stop
resume_stop (resuming.SmallDisk need have) = stop.Refused (refusal.SmallDisk need have)
resume_stop (resuming.Save f) = save_stop f

-- A FILE WAS GOT that is told so: these are its bytes, and it is not too long
pub record IsFile (told : Option (List ℕ)) (bytes : List ℕ) : Type 0 where
  pub tells : Tells told bytes
  pub short : length bytes < TOO_LONG
  pub are_bytes : All IsByte bytes

-- files have these bytes, and none is too long
abbrev pub Fetched : (List ℕ → Option (List ℕ)) → (names got : List (List ℕ)) → Type 0
Fetched told [] [] = ⊤
Fetched told (n ∷ names) (b ∷ got) = Tells (told n) b × (length b < TOO_LONG) × Fetched told names got
Fetched told names got = ⊥

-- the get of a file is refused for its length alone
abbrev pub OnlyLong : Stop → Type 0
OnlyLong (stop.Refused r) = r ≡ refusal.TooLong
OnlyLong stop.Shelf = ⊤
OnlyLong stop.Memory = ⊤

-- the words of users by their files, or the first fault
abbrev pub AreUserWords : List (List ℕ) → Result (Vec (Vec ℕ)) FileFault → Type 0
AreUserWords files result = MatchResult result (λ v. user_words_from 1 files ≡ Ok (map (λ w. w.items) v.items))
    (λ f. f ≢ system.Memory → user_words_from 1 files ≡ Err f)

-- the sectors that a run of a session needs
abbrev pub session_needs : Ready → Session → ℕ
session_needs r session = sectors_needed session (image_system r.boot) r.schedule

-- WHAT A CALL ANSWERS that loads a system over a disk of so many sectors and runs it: why it loaded nothing, or that there was room
pub record CallAnswers (r : Ready) (session : Session) (size : ℕ) (answer : Result RunEnd LoadFault) : Type 0 where
  pub refused : IfErr answer (LoadFails r.boot session.view (session_needs r session) size)
  pub loaded : IfOk answer (λ _. HasDiskRoom r.boot session.view (session_needs r session) size)

-- a system belongs to its layer
abbrev pub SystemFollows : Ready → Type 0
SystemFollows r = BootFollows r.layer.words r.layer.sizes r.layer.map r.boot

-- the plans of the commands, by what their stages found
abbrev pub ready_for : Session → Ready → Plan
ready_for session r = boots session (image_system r.boot) r.schedule

abbrev pub saveable_for : Save → Saveable → Plan
saveable_for c r = saves (save_session c) (image_system r.ready.boot) r.ready.schedule c.file

abbrev pub resumable_for : Save → Resumable → Plan
resumable_for c r =
    taken_plan (save_session c) (image_system r.ready.boot) r.ready.schedule
    (machine_of (wanted_of (boot_of_image (image_system r.ready.boot)) r.ready.schedule.inputs c.boot.turns) r.bytes.items)

-- why there is no room for a saved machine of a system: its file may be too long, or there was no memory
abbrev pub HasNoSaveRoom : ImageSystem → Stop → Type 0
HasNoSaveRoom s (stop.Refused r) = (r ≡ refusal.BadSave (saving.SaveTooLarge (most_bytes s))) × (FILE_ROOM < most_bytes s)
HasNoSaveRoom s stop.Shelf = ⊥
HasNoSaveRoom s stop.Memory = ⊤

-- what was made is put
abbrev pub puts_made : (name : List ℕ) → Vec ℕ → Plan
puts_made name bytes = puts name bytes.items

-- what was made comes to the plan of every command that puts it, under whatever name
abbrev pub PutsAs : ((name : List ℕ) → Plan → Type 0) → Result (Vec ℕ) Stop → Type 0
PutsAs Comes result = (name : List ℕ) → IfPlan (puts_made name) (IsPlan ⊤ (Comes name)) result

abbrev pub told_text : Vec ℕ → Plan
told_text text = prints text.items

-- the files of a command come to a plan, and to no other, where they are told
abbrev pub FilesPlan : (layer : Map → List ℕ → List ℕ) → (List ℕ → Option (List ℕ)) → Command → Plan → Type 0
FilesPlan layer file c p = IsPlan (FilesAreTold file (files_of c)) (CommandPlan layer file c) p

-- so do those of a boot, by whatever session
abbrev pub IsBootPlan : (layer : Map → List ℕ → List ℕ) → (List ℕ → Option (List ℕ)) → BootCommand → Session → Plan → Type 0
IsBootPlan layer file b session p = IsPlan (FilesAreTold file (files_of (boot b))) (BootPlan layer file b session) p

-- a law of every system: with whatever units its run comes to a state, that state is one; and the replay of a user's journal is its machine there
abbrev pub JournalsReplay : Type 0
JournalsReplay = (s : ImageSystem) (rows : Rows) (lines : ℕ → ℕ) (n k u : ℕ) (c d : Cvm) → 1 ≤ u → u ≤ length s.users →
    cvm (booted s rows) lines n k ≡ Some c → IsCvm (booted s rows) lines k d
    → (c ≡ d) × (replay (first_user_machine (booted s rows) u) (journal (booted s rows) lines n u k) ≡ Some (user_of c.core.users u))
