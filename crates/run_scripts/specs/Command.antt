-- The words of a command.
use Rattle.std.specs.Prelude.{◌≡◌, ℕ, ◌^◌, ◌<◌, ◌≤◌, List, [], ◌∷◌, decimal, codes, string_bytes, map}
use Rattle.std.specs.declared.string.String.{String}
use Rattle.std.specs.declared.alloc.Global.{Global}
use Rattle.boot_turns.specs.declared.answers.View.{View}
use Rattle.boot_turns.specs.declared.answers.View.TheVariants as view
use Rattle.run_scripts.specs.CompileProgram.{CompileProgram, IsCompileProgram}
use Rattle.run_scripts.specs.declared.session.Session.{Session}
use Rattle.run_scripts.specs.declared.session.StartPoint.{StartPoint}
use Rattle.run_scripts.specs.declared.session.StartPoint.TheVariants.{Loaded, Rom}
use Rattle.run_scripts.specs.Check.{Check, IsCheck}

-- boot an image under a schedule from this start, for so many turns and at most so many steps
pub record BootCommand : Type 0 where
  pub start : StartPoint
  pub image : List ℕ
  pub schedule : List ℕ
  pub turns : ℕ
  pub steps : ℕ

-- boot it so, and print of it what concerns one user
pub record Trace : Type 0 where
  pub boot : BootCommand
  pub user : ℕ

-- assemble a text, and put the image that it gives
pub record CompileUser : Type 0 where
  pub text : List ℕ
  pub image : List ℕ

-- compile the source of a kernel, and put the object that it gives
pub record CompileKernel : Type 0 where
  pub source : List ℕ
  pub object : List ℕ

-- link an object, parameters and users, and put the image that they give
pub record Link : Type 0 where
  pub object : List ℕ
  pub params : List ℕ
  pub image : List ℕ
  pub users : List (List ℕ)

-- make an image of form 2 anew, and put the image that it gives
pub record Migrate : Type 0 where
  pub old : List ℕ
  pub image : List ℕ

-- boot it so, and save its machine to a file; or go on with one that such a file holds
pub record Save : Type 0 where
  pub boot : BootCommand
  pub file : List ℕ

-- make, link and boot the sample of a number
pub record Sample : Type 0 where
  pub number : ℕ

-- a command, of one of the kinds
pub data Command : Type 0 where
  boot : BootCommand → Command
  trace : Trace → Command
  save : Save → Command
  resume : Save → Command
  compile_user : CompileUser → Command
  compile_kernel : CompileKernel → Command
  compile_program : CompileProgram → Command
  link : Link → Command
  migrate : Migrate → Command
  sample : Sample → Command
  check : Check → Command

-- the words as texts
abbrev pub word_texts : List (String Global) → List (List ℕ)
word_texts words = map string_bytes words

-- the word that names a start
abbrev pub start_word : StartPoint → List ℕ
start_word Loaded = codes "boot"
start_word Rom = codes "rom"

-- boot IMAGE SCHEDULE TURNS STEPS, or from a boot ROM by rom IMAGE SCHEDULE TURNS STEPS
pub record IsBoot (words : List (List ℕ)) (b : BootCommand) : Type 0 where
  pub spelled : words ≡ start_word b.start ∷ b.image ∷ b.schedule ∷ decimal b.turns ∷ decimal b.steps ∷ []
  pub some_turns : 1 ≤ b.turns
  pub turns_fit : b.turns < 2 ^ 32
  pub steps_fit : b.steps < 2 ^ 64

-- trace IMAGE SCHEDULE TURNS STEPS USER, which boots no ROM, and whose users are counted from 1
pub record IsTrace (words : List (List ℕ)) (t : Trace) : Type 0 where
  pub loaded : t.boot.start ≡ Loaded
  pub spelled : words ≡ codes "trace" ∷ t.boot.image ∷ t.boot.schedule ∷ decimal t.boot.turns ∷ decimal t.boot.steps ∷ decimal t.user ∷ []
  pub some_turns : 1 ≤ t.boot.turns
  pub turns_fit : t.boot.turns < 2 ^ 32
  pub steps_fit : t.boot.steps < 2 ^ 64
  pub some_user : 1 ≤ t.user
  pub most_users : t.user ≤ 64

-- this word IMAGE SCHEDULE TURNS STEPS FILE, which boots no ROM
pub record IsSaveBy (word : List ℕ) (words : List (List ℕ)) (c : Save) : Type 0 where
  pub loaded : c.boot.start ≡ Loaded
  pub spelled : words ≡ word ∷ c.boot.image ∷ c.boot.schedule ∷ decimal c.boot.turns ∷ decimal c.boot.steps ∷ c.file ∷ []
  pub some_turns : 1 ≤ c.boot.turns
  pub turns_fit : c.boot.turns < 2 ^ 32
  pub steps_fit : c.boot.steps < 2 ^ 64

-- save IMAGE SCHEDULE TURNS STEPS FILE
abbrev pub IsSave : List (List ℕ) → Save → Type 0
IsSave words c = IsSaveBy (codes "save") words c

-- resume IMAGE SCHEDULE TURNS STEPS FILE
abbrev pub IsResume : List (List ℕ) → Save → Type 0
IsResume words c = IsSaveBy (codes "resume") words c

-- compile user ASM IMG
pub record IsCompileUser (words : List (List ℕ)) (c : CompileUser) : Type 0 where
  pub spelled : words ≡ codes "compile" ∷ codes "user" ∷ c.text ∷ c.image ∷ []

-- compile kernel SRC OBJ
pub record IsCompileKernel (words : List (List ℕ)) (c : CompileKernel) : Type 0 where
  pub spelled : words ≡ codes "compile" ∷ codes "kernel" ∷ c.source ∷ c.object ∷ []

-- link OBJ PARAMS OUT USER.., with any number of users
pub record IsLink (words : List (List ℕ)) (l : Link) : Type 0 where
  pub spelled : words ≡ codes "link" ∷ l.object ∷ l.params ∷ l.image ∷ l.users

-- migrate IMAGE OUT
pub record IsMigrate (words : List (List ℕ)) (m : Migrate) : Type 0 where
  pub spelled : words ≡ codes "migrate" ∷ m.old ∷ m.image ∷ []

-- sample N
pub record IsSample (words : List (List ℕ)) (x : Sample) : Type 0 where
  pub spelled : words ≡ codes "sample" ∷ decimal x.number ∷ []
  pub fits : x.number < 2 ^ 32

-- the words are this command
abbrev pub IsCommand : List (List ℕ) → Command → Type 0
IsCommand words (boot b) = IsBoot words b
IsCommand words (trace t) = IsTrace words t
IsCommand words (save c) = IsSave words c
IsCommand words (resume c) = IsResume words c
IsCommand words (compile_user c) = IsCompileUser words c
IsCommand words (compile_kernel c) = IsCompileKernel words c
IsCommand words (compile_program c) = IsCompileProgram words c
IsCommand words (link l) = IsLink words l
IsCommand words (migrate m) = IsMigrate words m
IsCommand words (sample x) = IsSample words x
IsCommand words (check c) = IsCheck words c

-- no command has these words
abbrev pub IsNoCommand : List (List ℕ) → Type 0
IsNoCommand words = (c : Command) → IsCommand words c → ⊥

-- WHAT IS RUN by a boot, by a trace, by a save or a resume, and by a sample
abbrev pub boot_session : BootCommand → Session
boot_session b = record { start = b.start; view = view.Boot; turns = b.turns; steps = b.steps }

abbrev pub trace_session : Trace → Session
trace_session t = record { start = t.boot.start; view = view.Trace t.user; turns = t.boot.turns; steps = t.boot.steps }

abbrev pub save_session : Save → Session
save_session c = record { start = Loaded; view = view.Boot; turns = c.boot.turns; steps = c.boot.steps }

abbrev pub sample_session : Session
sample_session = record { start = Loaded; view = view.Boot; turns = 100000; steps = 4000000000 }

-- the command that boots so, with this view
abbrev pub command_of : BootCommand → View → Command
command_of b view.Boot = boot b
command_of b (view.Trace u) = trace (record { boot = b; user = u })
