-- What a `yes` of a check means: no run of a system of the object's source with so much stack stops for want of stack.
use Rattle.std.specs.Prelude.{◌≡◌, ◌≢◌, ℕ, ◌≤◌, List, ◌++◌, codes, Some, Ok}
use Rattle.schedule_file.specs.Rows.{Rows}
use Rattle.bound_check.specs.Kept.{NeverOut}
use Rattle.object_file.specs.Answer.{IsObjectAnswer as IsObject}
use Rattle.object_file.specs.Parts.{ObjectParts as Object}
use Rattle.boot_image.specs.Parts.{ImageParts as Image}
use Rattle.real_layer.specs.Image.{layer_image}
use Rattle.cvm_model.specs.declared.kernel_fault.KernelFault.TheVariants.{StackOut}
use Rattle.cvm_model.specs.Cvm.{Faulted}
use Rattle.boot_report.specs.Texts.{fault_row}
use Rattle.kernel_linker.specs.Accept.{ImageSystem}
use Rattle.run_scripts.specs.declared.exit_status.Status.{Status}
use Rattle.run_scripts.specs.declared.session.Session.{Session}
use Rattle.run_scripts.specs.Check.{Check, IsCheck}
use Rattle.cvm_outside.specs.Outside.{Outside}
use Rattle.run_scripts.specs.Plan.{Accepts}
use Rattle.run_scripts.specs.Boot.{booted, Headline}

-- what a check of these words printed of an object with this source, beside so many words of stack, begins with `yes`: whole, or as much as a failing
-- sink took
pub record SaysYes (words : List (List ℕ)) (source : List ℕ) (stack : ℕ) (old new : Outside) : Type 0 where
  pub check : Check
  pub asked : IsCheck words check
  pub stack_is : stack ≡ check.stack
  pub bytes : List ℕ
  pub bytes_told : old.shelf.file check.object ≡ Some bytes
  pub object : Object
  pub object_is : IsObject bytes (Ok object)
  pub source_is : source ≡ object.source
  pub before : List ℕ
  pub before_told : old.sink.text ≡ Some before
  pub rest : List ℕ
  pub printed : new.sink.text ≡ Some (before ++ (codes "yes " ++ rest))

-- the system of an accepted image with this source and at least so many words of stack
pub record HasStack (source : List ℕ) (stack : ℕ) (s : ImageSystem) : Type 0 where
  pub image : Image
  pub source_is : image.source ≡ source
  pub accepted : Accepts layer_image (Ok image) (Ok s)
  pub enough : stack ≤ s.params.stack

-- no run of the system stops for want of stack, whatever the schedule and the lines of its turns are
abbrev pub SystemNeverOut : ImageSystem → Type 0
SystemNeverOut s = (rows : Rows) → NeverOut (booted s rows)

-- THE STACK IS ENOUGH where a check said `yes`, with whatever status: for each accepted system of that source with as much, whatever its users and other
-- parameters are
abbrev pub Suffices : List (List ℕ) → Status → (old new : Outside) → Type 0
Suffices words status old new = (source : List ℕ) (stack : ℕ) (s : ImageSystem) → SaysYes words source stack old new →
    HasStack source stack s → SystemNeverOut s

-- what was printed in a call ends with this row
pub record EndsWith (row : List ℕ) (old new : Outside) : Type 0 where
  pub before : List ℕ
  pub before_told : old.sink.text ≡ Some before
  pub front : List ℕ
  pub printed : new.sink.text ≡ Some (before ++ (front ++ row))

-- a run of a headline meets no want of stack: the abstract run that it goes by has no such fault where it ends, so with the status of a kernel's fault it is
-- another one; and what is printed doesn't end with the row `fault StackOut`, behind which nothing would be printed
pub record MeetsNoStackOut (session : Session) (s : ImageSystem) (rows : Rows) (sectors : List (List ℕ)) (before after : Outside) (ended : Status)
    (h : Headline session s rows sectors before after ended) : Type 0 where
  pub meant : h.ran.past.status ≢ Faulted StackOut
  pub printed : EndsWith (fault_row StackOut) before after → ⊥

-- A LAW: where a check said `yes`, no run of such a system by a boot, a rom, a trace or a sample meets it, as long as no call fails
abbrev pub StackOutIsNotPrinted : Type 0
StackOutIsNotPrinted = (words : List (List ℕ)) (status ended : Status) (old new before after : Outside) (source : List ℕ) (stack : ℕ)
    (session : Session) (s : ImageSystem) (rows : Rows) (sectors : List (List ℕ))
    → Suffices words status old new → SaysYes words source stack old new → HasStack source stack s
    → (h : Headline session s rows sectors before after ended) → MeetsNoStackOut session s rows sectors before after ended h
