-- Only for the contracts inside the crate: what they see of the enums and structs of the code, and of a stage that may stop.
use Rattle.std.specs.Prelude.{◌≡◌, ◌≤◌, ℕ, List, Option, Result, MatchOption, MatchResult, decimal, ⊤}
use Rattle.run_scripts.specs.declared.exit_status.Status.{Status}
use Rattle.run_scripts.specs.Command as command
use Rattle.run_scripts.specs.CompileProgram as compiling
use Rattle.run_scripts.specs.Check as checking
use Rattle.run_scripts.specs.Refusal as refusal
use Rattle.run_scripts.specs.Plan.{Plan, refuses}
use Rattle.cvm_shell.specs.declared.command.Boot.{Boot}
use Rattle.cvm_shell.specs.declared.command.Trace.{Trace}
use Rattle.cvm_shell.specs.declared.saving_words.Save.{Save}
use Rattle.cvm_shell.specs.declared.command.CompileUser.{CompileUser}
use Rattle.cvm_shell.specs.declared.command.CompileKernel.{CompileKernel}
use Rattle.cvm_shell.specs.declared.program.CompileProgram.{CompileProgram}
use Rattle.cvm_shell.specs.declared.command.Link.{Link}
use Rattle.cvm_shell.specs.declared.command.Migrate.{Migrate}
use Rattle.cvm_shell.specs.declared.command.Sample.{Sample}
use Rattle.cvm_shell.specs.declared.check.Check.{Check}
use Rattle.cvm_shell.specs.declared.command.Command.{Command}
use Rattle.cvm_shell.specs.declared.command.Command.TheVariants as command_code
use Rattle.cvm_shell.specs.declared.refusal.Refusal.{Refusal}
use Rattle.cvm_shell.specs.declared.refusal.Refusal.TheVariants.{BadText, BadSource, BadProgram, BadObject, BadFile, Unlinked}
use Rattle.cvm_shell.specs.declared.refusal.Refusal.TheVariants.{Unaccepted, BadSchedule, BadSave, SmallDisk, NoSuchUser, TooLong}
use Rattle.cvm_shell.specs.declared.boot.Stop.{Stop}
use Rattle.cvm_shell.specs.declared.boot.Stop.TheVariants.{Refused, Shelf, Memory}

-- the number of a user, 1 to 64, that a text is the decimal spelling of, or none
abbrev pub IsUserNumber : (text : List ℕ) → Option ℕ → Type 0
IsUserNumber text found = MatchOption found ((n : ℕ) → 1 ≤ n → n ≤ 64 → text ≡ decimal n → ⊥) (λ n. (text ≡ decimal n) × (1 ≤ n) × (n ≤ 64))

-- the words of stack, 64 to 262,144, that a text is the decimal spelling of, or none
abbrev pub IsStackNumber : (text : List ℕ) → Option ℕ → Type 0
IsStackNumber text found = MatchOption found ((n : ℕ) → 64 ≤ n → n ≤ 262144 → text ≡ decimal n → ⊥) (λ n. (text ≡ decimal n) × (64 ≤ n) × (n ≤ 262144))

-- a boot, with its names as lists of bytes
abbrev pub boot_view : Boot → command.BootCommand
boot_view b = record { start = b.start; image = b.image.now; schedule = b.schedule.now; turns = b.turns; steps = b.steps }

-- a trace, with its names as lists of bytes
abbrev pub trace_view : Trace → command.Trace
trace_view t = record { boot = boot_view t.boot; user = t.user }

-- a save or a resume, with its names as lists of bytes
abbrev pub save_view : Save → command.Save
save_view c = record { boot = boot_view c.boot; file = c.file.now }

-- a compilation of a user, with its names as lists of bytes
abbrev pub user_view : CompileUser → command.CompileUser
user_view c = record { text = c.text.now; image = c.image.now }

-- a compilation of a kernel, with its names as lists of bytes
abbrev pub kernel_view : CompileKernel → command.CompileKernel
kernel_view c = record { source = c.source.now; object = c.object.now }

-- a compilation of a user program, with its names as lists of bytes
abbrev pub program_view : CompileProgram → compiling.CompileProgram
program_view c = record { source = c.source.now; image = c.image.now }

-- a linking, with its names as lists of bytes
abbrev pub link_view : Link → command.Link
link_view l = record { object = l.object.now; params = l.params.now; image = l.image.now; users = command.word_texts l.users.now }

-- a migration, with its names as lists of bytes
abbrev pub migrate_view : Migrate → command.Migrate
migrate_view m = record { old = m.old.now; image = m.image.now }

-- a sample
abbrev pub sample_view : Sample → command.Sample
sample_view x = record { number = x.number }

-- a check, with its name as a list of bytes
abbrev pub check_view : Check → checking.Check
check_view c = record { object = c.object.now; stack = c.stack }

-- a command
abbrev pub command_view : Command → command.Command
command_view (command_code.Boot b) = command.boot (boot_view b)
command_view (command_code.Trace t) = command.trace (trace_view t)
command_view (command_code.Save c) = command.save (save_view c)
command_view (command_code.Resume c) = command.resume (save_view c)
command_view (command_code.CompileUser c) = command.compile_user (user_view c)
command_view (command_code.CompileKernel c) = command.compile_kernel (kernel_view c)
command_view (command_code.CompileProgram c) = command.compile_program (program_view c)
command_view (command_code.Link l) = command.link (link_view l)
command_view (command_code.Migrate m) = command.migrate (migrate_view m)
command_view (command_code.Sample x) = command.sample (sample_view x)
command_view (command_code.Check c) = command.check (check_view c)

-- a refusal
abbrev pub refusal_view : Refusal → refusal.Refusal
refusal_view (BadText fault) = refusal.bad_text fault
refusal_view (BadSource fault) = refusal.bad_source fault
refusal_view (BadProgram fault) = refusal.bad_program fault
refusal_view (BadObject fault) = refusal.bad_object fault
refusal_view (BadFile fault) = refusal.bad_file fault
refusal_view (Unlinked fault) = refusal.unlinked fault
refusal_view (Unaccepted fault) = refusal.unaccepted fault
refusal_view (BadSchedule fault) = refusal.bad_schedule fault
refusal_view (BadSave fault) = refusal.bad_save fault
refusal_view (SmallDisk need have) = refusal.small_disk need have
refusal_view (NoSuchUser user users) = refusal.no_such_user user users
refusal_view TooLong = refusal.too_long

-- the row and the status of a refusal
abbrev pub stated_row : Refusal → List ℕ
stated_row r = refusal.refusal_text (refusal_view r)

abbrev pub stated_status : Refusal → Status
stated_status r = refusal.refusal_status (refusal_view r)

-- a fact of the plan, where a stop is a refusal
abbrev pub IfRefused : (Plan → Type 0) → Stop → Type 0
IfRefused P (Refused r) = P (refuses (refusal_view r))
IfRefused P Shelf = ⊤
IfRefused P Memory = ⊤

-- a fact of the plan that a stage makes of what it found, where nothing else stopped it
abbrev pub IfPlan : {A : Type 0} → (A → Plan) → (Plan → Type 0) → Result A Stop → Type 0
IfPlan made P result = MatchResult result (λ x. P (made x)) (IfRefused P)
