-- What every trace tells of a user whose file was compiled of this text, whatever the kernel, the other users, the schedule and the disk are.
use Rattle.std.specs.Prelude.{◌≡◌, ℕ, ◌-◌, pos, List, ◌∷◌, ◌++◌, Option, Some, Ok, slice_get, slice_index}
use Rattle.mips_table.specs.Arith.{signed}
use Rattle.mips_table.specs.Flat.{Flat}
use Rattle.schedule_file.specs.Rows.{Rows}
use Rattle.layer_map.specs.Map.{Map}
use Rattle.c0_tree.specs.Tree.{CUnit}
use Rattle.boot_image.specs.Reading.{answer as image_of}
use Rattle.kernel_linker.specs.Accept.{ImageSystem}
use Rattle.cvm_model.specs.Cvm.{first_flat}
use Rattle.cvm_model.specs.Journal.{replay}
use Rattle.user_c0.specs.Image.{image_words}
use Rattle.user_c0.specs.Events.{SYSCALL, Event, call, other, journal_of, IsAnsweredJournal, call_count}
use Rattle.run_scripts.specs.declared.exit_status.Status.{Status}
use Rattle.run_scripts.specs.declared.session.Session.{Session}
use Rattle.cvm_outside.specs.Outside.{Outside}
use Rattle.run_scripts.specs.Isolation.{IsolatedTrace}
use Rattle.cvm_shell.specs.Linked.{AreAcceptedAs}
use Rattle.run_scripts.specs.Plan.{Accepts}
use Rattle.cvm_shell.specs.Programs.{IsProgramFile}
use Rattle.program_theorems.specs.SummingText.{text}

-- user u of an accepted system was linked of a file that `compile program` put of this text
pub record HasSum (layer : Map → List ℕ → List ℕ) (s : ImageSystem) (u : ℕ) (program : CUnit) : Type 0 where
  pub object : List ℕ
  pub params : List ℕ
  pub files : List (List ℕ)
  pub image : List ℕ
  pub file : List ℕ
  pub linked : AreAcceptedAs layer object params files image
  pub there : slice_get files (u - 1) ≡ Some file
  pub is : IsProgramFile text program file
  pub accepted : Accepts layer (image_of image) (Ok s)

-- what a journal tells of it: its only call is the first one, and finds 55 in register 4; every other trap is its end, after that call
pub record TellsSum (program : CUnit) (es : List Event) : Type 0 where
  pub asks : (before after : List Event) (reply : Option ℕ) (f : Flat) → es ≡ before ++ (call reply ∷ after)
      → replay (first_flat (image_words program)) (journal_of before) ≡ Some f → (call_count before ≡ 0) × (signed (slice_index f.cpu.regs 4) ≡ pos 55)
  pub ends : (before after : List Event) (cause edata : ℕ) → es ≡ before ++ (other cause edata ∷ after) → (cause ≡ SYSCALL) × (edata ≡ 0x4c)
      × (call_count before ≡ 1)

-- A LAW: each trace of such a user whose calls its kernel answers prints such a journal
abbrev pub SumsAreTraced : Type 0
SumsAreTraced = (layer : Map → List ℕ → List ℕ) (session : Session) (u : ℕ) (s : ImageSystem) (rows : Rows) (before : List (List ℕ))
    (old new : Outside) (status : Status)
    (a : IsolatedTrace session u s rows before old new status) (program : CUnit) → HasSum layer s u program → (answered : IsAnsweredJournal a.entries)
    → TellsSum program answered.events
