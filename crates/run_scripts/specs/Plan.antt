-- What words and the files that they name come to, before anything is put or run: stage by stage, in the order of work.
use Rattle.std.specs.Prelude.{◌≡◌, ⊤, ℕ, suc, nat_eq, nat_lt, ◌%◌, ◌*◌, ◌<◌, ◌≤◌, List, [], ◌∷◌, length, flat_map, Option, Result, Ok, Err, if◌then◌else◌}
use Rattle.std.specs.Int.{to_le_bytes, w32}
use Rattle.std.specs.Option.{IsSome}
use Rattle.cvm_outside.specs.Told.{TOO_LONG, Tells}
use Rattle.mips_asm.specs.Assembled.{assembled}
use Rattle.mips_asm.specs.declared.fault.AsmFault.{AsmFault}
use Rattle.c0_tree.specs.declared.primitive.Program.{Program}
use Rattle.c0_tree.specs.declared.primitive.Program.TheVariants.{Kernel, User}
use Rattle.c0_tree.specs.Tree.{CUnit as Unit}
use Rattle.c0_types.specs.Front.{IsUnitOf, IsAnswerAs, IsFrontAnswer}
use Rattle.object_file.specs.Format.{spelling}
use Rattle.kernel_linker.specs.Object.{object_of}
use Rattle.kernel_linker.specs.Link.{fitting, link_answer}
use Rattle.kernel_linker.specs.declared.fault.LinkFault.{LinkFault}
use Rattle.layer_map.specs.Map.{Map, memory_frames}
use Rattle.layer_map.specs.declared.params.Params.{Params}
use Rattle.real_layer.specs.Image.{layer_image}
use Rattle.cvm_model.specs.Cvm.{Boot, map_of}
use Rattle.cvm_model.specs.KernelMeaning.{kernel_meaning}
use Rattle.saved_file.specs.Answer.{answer as machine_of}
use Rattle.saved_file.specs.declared.fault.SaveFault.{SaveFault}
use Rattle.saved_file.specs.declared.fault.SaveFault.TheVariants.{SaveTooLarge as FileTooLarge}
use Rattle.boot_run.specs.SaveRoom.{most_words, FILE_ROOM}
use Rattle.boot_run.specs.SavedFiles.{wanted_of}
use Rattle.boot_image.specs.Format.{spelling as image_bytes}
use Rattle.boot_image.specs.Parts.{ImageParts as Image}
use Rattle.boot_image.specs.Reading.{answer as image_of, old_answer as old_image_of}
use Rattle.boot_image.specs.declared.fault.ImageFault.{ImageFault}
use Rattle.kernel_linker.specs.Accept.{ImageSystem, accept_answer}
use Rattle.kernel_linker.specs.Migrate.{migrate_answer}
use Rattle.kernel_linker.specs.Fault.{accept_file_fault}
use Rattle.kernel_linker.specs.declared.fault.AcceptFault.{AcceptFault}
use Rattle.user_c0.specs.declared.fault.UserFault.TheVariants.{TooLarge}
use Rattle.user_c0.specs.Image.{image_words}
use Rattle.user_c0.specs.Program.{MAX_IMAGE}
use Rattle.schedule_file.specs.Rows.{Rows}
use Rattle.schedule_file.specs.Schedule.{schedule_of}
use Rattle.schedule_file.specs.declared.fault.ScheduleFault.{ScheduleFault}
use Rattle.object_file.specs.Answer.{IsObjectAnswer as IsObject}
use Rattle.object_file.specs.Parts.{ObjectParts as Object}
use Rattle.object_file.specs.declared.fault.ObjectFault.{ObjectFault}
use Rattle.cvm_words.specs.Bytes.{words_of_bytes}
use Rattle.system_files.specs.Params.{params_of}
use Rattle.system_files.specs.declared.fault.FileFault.{FileFault}
use Rattle.system_files.specs.declared.fault.FileFault.TheVariants.{UserTorn}
use Rattle.c0_types.specs.declared.source_fault.SourceFault.{SourceFault}
use Rattle.sample_maker.specs.Parts.{SampleParts as Sampled}
use Rattle.sample_maker.specs.Sample.{sample_of}
use Rattle.run_scripts.specs.declared.session.Session.{Session}
use Rattle.run_scripts.specs.Command.{BootCommand, Command, boot, trace, save, resume, compile_user, compile_kernel, compile_program, link}
use Rattle.run_scripts.specs.Command.{migrate, sample, check, IsCommand, IsNoCommand, boot_session, trace_session, save_session, sample_session}
use Rattle.run_scripts.specs.Served.{files_of}
use Rattle.run_scripts.specs.Check.{CheckTold, TellsObject}
use Rattle.run_scripts.specs.Refusal.{Refusal, bad_text, bad_source, bad_object, bad_file, bad_program, unlinked, unaccepted, bad_schedule, bad_save, too_long}

-- what is to be done
pub data Plan : Type 0 where
  -- say that the words are no command
  bad_words : Plan
  -- say what is wrong with a file
  refuses : Refusal → Plan
  -- make the bytes of this file these
  puts : (name bytes : List ℕ) → Plan
  -- run this system so, under this schedule
  boots : Session → ImageSystem → Rows → Plan
  -- run it so, and save its machine to this file where the run stops
  saves : Session → ImageSystem → Rows → (name : List ℕ) → Plan
  -- go on so with the run of it whose machine has these words
  resumes : Session → ImageSystem → Rows → (words : List ℕ) → Plan
  -- print this text
  prints : (text : List ℕ) → Plan

-- A FILE IS GOT: one with more than 67,108,864 bytes is refused, else its bytes go on
pub data Got (told : Option (List ℕ)) (next : List ℕ → Plan → Type 0) : Plan → Type 0 where
  long : (bytes : List ℕ) → Tells told bytes → TOO_LONG ≤ length bytes → Got told next (refuses too_long)
  whole : (bytes : List ℕ) (p : Plan) → Tells told bytes → length bytes < TOO_LONG → next bytes p → Got told next p

-- WHAT AN ANSWER COMES TO: what is due of it, or the refusal of its fault
abbrev pub planned : {A F : Type 0} → (refusal : F → Refusal) → (due : A → Plan) → Result A F → Plan
planned refusal due (Ok a) = due a
planned refusal due (Err f) = refuses (refusal f)

-- WHAT IS ANSWERED of the image that bytes are: their fault, or what is due by what its own source is answered by
abbrev pub Answered : {A : Type 0} → (due : Image → Result Unit SourceFault → Result A AcceptFault) → Result Image ImageFault → Result A AcceptFault → Type 0
Answered due (Err f) answer = answer ≡ Err (accept_file_fault f)
Answered due (Ok image) answer = (front : Result Unit SourceFault) × IsFrontAnswer image.source front × (answer ≡ due image front)

-- WHAT IS ACCEPTED: what linking its own source, parameters and users answers
abbrev pub Accepts : (layer : Map → List ℕ → List ℕ) → Result Image ImageFault → Result ImageSystem AcceptFault → Type 0
Accepts layer image answer = Answered (accept_answer layer) image answer

-- WHAT IS MIGRATED: the image of its own source, parameters and users, whose linked words are made anew
abbrev pub Renews : (layer : Map → List ℕ → List ℕ) → Result Image ImageFault → Result Image AcceptFault → Type 0
Renews layer old answer = Answered (migrate_answer layer) old answer

-- AFTER THE IMAGE the schedule is read
abbrev pub scheduled_plan : Session → ImageSystem → Result Rows ScheduleFault → Plan
scheduled_plan session s rows = planned bad_schedule (boots session s) rows

abbrev pub accepted_plan : Session → Result Rows ScheduleFault → Result ImageSystem AcceptFault → Plan
accepted_plan session rows answer = planned unaccepted (λ s. scheduled_plan session s rows) answer

-- AFTER THE FILES of a boot or a trace the image is accepted
abbrev pub AfterFiles : (layer : Map → List ℕ → List ℕ) → Session → (image schedule : List ℕ) → Plan → Type 0
AfterFiles layer session image schedule p =
    (answer : Result ImageSystem AcceptFault) × Accepts layer (image_of image) answer × (p ≡ accepted_plan session (schedule_of schedule) answer)

-- boot IMAGE SCHEDULE TURNS STEPS gets the image, then the schedule; and so does a trace, with another session
abbrev pub BootPlan : (layer : Map → List ℕ → List ℕ) → (List ℕ → Option (List ℕ)) → BootCommand → Session → Plan → Type 0
BootPlan layer file b session p = Got (file b.image) (λ image. Got (file b.schedule) (AfterFiles layer session image)) p

-- what is booted of an accepted image: its kernel is what its own source means
abbrev pub boot_of_image : ImageSystem → Boot
boot_of_image s = record { params = s.params; meaning = kernel_meaning s.unit s.params; words = s.words; users = s.users }

-- the frames of memory of a system's machine
abbrev pub frames_of : ImageSystem → ℕ
frames_of s = memory_frames (map_of (boot_of_image s))

-- the most bytes that the file of its machine may have, with a full log
abbrev pub most_bytes : ImageSystem → ℕ
most_bytes s = 4 * most_words (frames_of s)

-- WHAT WOULD BE BOOTED is saved, unless its file may be too long for a file; what is refused of the image and the schedule is refused here, too
abbrev pub saved_plan : (name : List ℕ) → Plan → Plan
saved_plan name (boots session s rows) = if nat_lt FILE_ROOM (most_bytes s) then refuses (bad_save (FileTooLarge (most_bytes s))) else saves session s rows name
saved_plan name other = other

-- AFTER THE FILE of a saved machine it is taken up
abbrev pub taken_plan : Session → ImageSystem → Rows → Result (List ℕ) SaveFault → Plan
taken_plan session s rows answer = planned bad_save (resumes session s rows) answer

-- WHAT WOULD BE BOOTED is taken up; what is refused of the image and the schedule is refused here, too
abbrev pub take_up_plan : (bytes : List ℕ) → Plan → Plan
take_up_plan bytes (boots session s rows) = taken_plan session s rows (machine_of (wanted_of (boot_of_image s) rows.inputs session.turns) bytes)
take_up_plan bytes other = other

-- AFTER THE FILES of a resume the image is accepted and the schedule read, as for its boot, and then the saved machine is
abbrev pub AfterThree : (layer : Map → List ℕ → List ℕ) → Session → (image schedule bytes : List ℕ) → Plan → Type 0
AfterThree layer session image schedule bytes p = (q : Plan) × AfterFiles layer session image schedule q × (p ≡ take_up_plan bytes q)

-- the bytes of a user's image: its words, each as four bytes with the lowest first, and nothing else
abbrev pub user_bytes : List ℕ → List ℕ
user_bytes words = flat_map (to_le_bytes w32) words

-- AFTER THE TEXT of a user it is assembled
pub data AfterText (name text : List ℕ) : Plan → Type 0 where
  no_words : (f : AsmFault) → assembled text ≡ Err f → AfterText name text (refuses (bad_text f))
  assembles : (words : List ℕ) → assembled text ≡ Ok words → AfterText name text (puts name (user_bytes words))

-- AFTER THE SOURCE of a kernel or a user program it is answered by its checked unit, which comes to this, or by its first fault
abbrev pub AfterCode : (program : Program) → (due : Unit → Plan) → (source : List ℕ) → Plan → Type 0
AfterCode program due source p = (front : Result Unit SourceFault) × IsAnswerAs program source front × (p ≡ planned bad_source due front)

-- the object of a kernel is put
abbrev pub object_plan : (name source : List ℕ) → Unit → Plan
object_plan name source u = puts name (spelling (object_of source u))

abbrev pub AfterKernel : (name source : List ℕ) → Plan → Type 0
AfterKernel name source = AfterCode Kernel (object_plan name source) source

-- THE IMAGE of a user program is put, unless it has more words than an image may have
abbrev pub program_plan : (name : List ℕ) → Unit → Plan
program_plan name u =
    if nat_lt MAX_IMAGE (length (image_words u)) then refuses (bad_program (TooLarge (length (image_words u)))) else puts name (user_bytes (image_words u))

abbrev pub AfterProgram : (name source : List ℕ) → Plan → Type 0
AfterProgram name source = AfterCode User (program_plan name) source

-- FILES ARE GOT one after the other: the first that is too long is refused, else the bytes of all go on
abbrev pub GotAll : (List ℕ → Option (List ℕ)) → List (List ℕ) → (List (List ℕ) → Plan → Type 0) → Plan → Type 0
GotAll file [] next p = next [] p
GotAll file (name ∷ rest) next p = Got (file name) (λ bytes. GotAll file rest (λ all. next (bytes ∷ all))) p

-- the words of users by the bytes of their files, or the fault of the first file that has no whole words; this is the first user's number
abbrev pub before_them : List ℕ → Result (List (List ℕ)) FileFault → Result (List (List ℕ)) FileFault
before_them words (Ok users) = Ok (words ∷ users)
before_them words (Err f) = Err f

abbrev pub user_words_from : (user : ℕ) → List (List ℕ) → Result (List (List ℕ)) FileFault
user_words_from user [] = Ok []
user_words_from user (bytes ∷ rest) =
    if nat_eq (length bytes % 4) 0 then before_them (words_of_bytes bytes) (user_words_from (suc user) rest) else Err (UserTorn user (length bytes))

-- what is linked is put
abbrev pub linked_plan : (name : List ℕ) → Result Image LinkFault → Plan
linked_plan name answer = planned unlinked (λ image. puts name (image_bytes image)) answer

-- AFTER THE PARTS of a system they are linked: users or parameters that don't fit are refused, whatever the source is
pub data AfterParts (layer : Map → List ℕ → List ℕ) (name : List ℕ) (o : Object) (params : Params) (users : List (List ℕ)) : Plan → Type 0 where
  unfit : (f : LinkFault) → fitting params users ≡ Err f → AfterParts layer name o params users (refuses (unlinked f))
  answered : (front : Result Unit SourceFault) → IsFrontAnswer o.source front →
      AfterParts layer name o params users (linked_plan name (link_answer layer o params users front))

-- AFTER THE PARAMETERS the users' words are read
abbrev pub AfterUsers : (layer : Map → List ℕ → List ℕ) → (name : List ℕ) → Object → Params → Result (List (List ℕ)) FileFault → Plan → Type 0
AfterUsers layer name o params (Ok users) p = AfterParts layer name o params users p
AfterUsers layer name o params (Err f) p = p ≡ refuses (bad_file f)

-- AFTER THE OBJECT the parameters are read
abbrev pub AfterParams : (layer : Map → List ℕ → List ℕ) → (name : List ℕ) → Object → (users : List (List ℕ)) → Result Params FileFault → Plan → Type 0
AfterParams layer name o users (Ok params) p = AfterUsers layer name o params (user_words_from 1 users) p
AfterParams layer name o users (Err f) p = p ≡ refuses (bad_file f)

-- AFTER THE FILES of a system the object is read
pub data AfterSystem (layer : Map → List ℕ → List ℕ) (name object params : List ℕ) (users : List (List ℕ)) : Plan → Type 0 where
  no_object : (f : ObjectFault) → IsObject object (Err f) → AfterSystem layer name object params users (refuses (bad_object f))
  has_object : (o : Object) (p : Plan) → IsObject object (Ok o) → AfterParams layer name o users (params_of params) p →
      AfterSystem layer name object params users p

-- what is made anew is put
abbrev pub renewed_plan : (name : List ℕ) → Result Image AcceptFault → Plan
renewed_plan name answer = planned unaccepted (λ image. puts name (image_bytes image)) answer

-- AFTER THE OLD IMAGE it is made anew
abbrev pub AfterOld : (layer : Map → List ℕ → List ℕ) → (name old : List ℕ) → Plan → Type 0
AfterOld layer name old p = (answer : Result Image AcceptFault) × Renews layer (old_image_of old) answer × (p ≡ renewed_plan name answer)

-- AFTER LINKING the parts of a sample their image is booted under its schedule, as that of a file is
abbrev pub AfterLinking : (layer : Map → List ℕ → List ℕ) → Session → (schedule : List ℕ) → Result Image LinkFault → Plan → Type 0
AfterLinking layer session schedule (Ok image) p = AfterFiles layer session (image_bytes image) schedule p
AfterLinking layer session schedule (Err f) p = p ≡ refuses (unlinked f)

-- AFTER THE SOURCE of a sample its object is linked with its parameters and users
abbrev pub AfterSource : (layer : Map → List ℕ → List ℕ) → Session → Sampled → Result Unit SourceFault → Plan → Type 0
AfterSource layer session parts (Ok u) p =
    AfterLinking layer session parts.schedule (link_answer layer (object_of parts.source u) parts.params parts.users (Ok u)) p
AfterSource layer session parts (Err f) p = p ≡ refuses (bad_source f)

-- the parts of a sample: their source is read and checked
abbrev pub PartsPlan : (layer : Map → List ℕ → List ℕ) → Session → Sampled → Plan → Type 0
PartsPlan layer session parts p = (front : Result Unit SourceFault) × IsFrontAnswer parts.source front × AfterSource layer session parts front p

-- what a check tells is printed
abbrev pub told_plan : CheckTold → Plan
told_plan told = planned (λ r. r) prints told

-- AFTER THE OBJECT of a check its kernel's stack is told
abbrev pub AfterChecked : (stack : ℕ) → (bytes : List ℕ) → Plan → Type 0
AfterChecked stack bytes p = (told : CheckTold) × TellsObject stack bytes told × (p ≡ told_plan told)

-- WHAT A COMMAND COMES TO: it gets its files, each in its turn, before it looks at any; a save gets what its boot gets, and a sample none
abbrev pub CommandPlan : (layer : Map → List ℕ → List ℕ) → (List ℕ → Option (List ℕ)) → Command → Plan → Type 0
CommandPlan layer file (boot b) p = BootPlan layer file b (boot_session b) p
CommandPlan layer file (trace t) p = BootPlan layer file t.boot (trace_session t) p
CommandPlan layer file (save c) p = (q : Plan) × BootPlan layer file c.boot (save_session c) q × (p ≡ saved_plan c.file q)
CommandPlan layer file (resume c) p =
    Got (file c.boot.image) (λ image. Got (file c.boot.schedule) (λ schedule. Got (file c.file) (AfterThree layer (save_session c) image schedule))) p
CommandPlan layer file (compile_user c) p = Got (file c.text) (AfterText c.image) p
CommandPlan layer file (compile_kernel c) p = Got (file c.source) (AfterKernel c.object) p
CommandPlan layer file (compile_program c) p = Got (file c.source) (AfterProgram c.image) p
CommandPlan layer file (link l) p =
    Got (file l.object) (λ object. Got (file l.params) (λ params. GotAll file l.users (AfterSystem layer l.image object params))) p
CommandPlan layer file (migrate m) p = Got (file m.old) (AfterOld layer m.image) p
CommandPlan layer file (sample x) p = PartsPlan layer sample_session (sample_of x.number) p
CommandPlan layer file (check c) p = Got (file c.object) (AfterChecked c.stack) p

-- THE PLAN that words and files come to
pub data PlanComesTo (words : List (List ℕ)) (file : List ℕ → Option (List ℕ)) : Plan → Type 0 where
  no_command : IsNoCommand words → PlanComesTo words file bad_words
  by_command : (c : Command) (p : Plan) → IsCommand words c → CommandPlan layer_image file c p → PlanComesTo words file p

-- files are told
abbrev pub FilesAreTold : (List ℕ → Option (List ℕ)) → List (List ℕ) → Type 0
FilesAreTold file [] = ⊤
FilesAreTold file (name ∷ rest) = IsSome (file name) × FilesAreTold file rest

-- the files that the words' command gets are told
abbrev pub AllTold : List (List ℕ) → (List ℕ → Option (List ℕ)) → Type 0
AllTold words file = (c : Command) → IsCommand words c → FilesAreTold file (files_of c)

-- bytes are the image that a sample's parts are linked to
pub record IsLinkedTo (layer : Map → List ℕ → List ℕ) (parts : Sampled) (bytes : List ℕ) : Type 0 where
  pub unit : Unit
  pub typed : IsUnitOf parts.source unit
  pub image : Image
  pub linked : link_answer layer (object_of parts.source unit) parts.params parts.users (Ok unit) ≡ Ok image
  pub spelled : bytes ≡ image_bytes image

-- what something comes to, and where the files are told to nothing else
pub record IsPlan (told : Type 0) (Comes : Plan → Type 0) (p : Plan) : Type 0 where
  pub comes : Comes p
  pub only : told → (q : Plan) → Comes q → q ≡ p
