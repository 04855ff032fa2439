-- From a property of each state of a run to what a boot shows. No contract can carry it for any property, since it ranges over types: this file may be
-- cited from other crates. To be used by `boots_of`: it needs the law on the kernel's runs, that its text means its tree, and the two laws of this crate.
use Rattle.std.proofs.Common.{◌≡◌, ◌≤◌, ℕ, List, length, Bool, true, false, Option, sym, ap, ◌∙◌, subst}
use Rattle.std.specs.Prelude.{◌≢◌, if◌then◌else◌, Result, Ok}
use Rattle.schedule_file.specs.Rows.{Rows}
use Rattle.mips_table.specs.Device.{Environment, HasEightLines}
use Rattle.mips_table.specs.Turns.{complete, end_within, lines_of_turn}
use Rattle.mips_table.specs.Machine.{State}
use Rattle.boot_turns.specs.declared.answers.View.TheVariants.{Boot}
use Rattle.boot_run.specs.declared.whole.RunEnd.{RunEnd}
use Rattle.boot_run.specs.declared.whole.RunEnd.TheVariants.{KernelFaulted, OutOfSteps}
use Rattle.boot_run.specs.RunCalls.{end_by}
use Rattle.run_scripts.specs.RunStatus.{status_of_end}
use Rattle.run_scripts.specs.RanFrom.{ending, TextAt, RanFrom}
use Rattle.cvm_model.specs.Cvm.{System, Cvm, Status as CvmStatus, Running, Halted, Faulted, IsCvm}
use Rattle.cvm_model.specs.Invariant.{HasEight, IsSafe, RunsAreLawful}
use Rattle.cvm_model.specs.Text.{rows_text, boot_text}
use Rattle.c0_types.specs.Front.{IsUnitOf}
use Rattle.real_layer.specs.Image.{layer_image}
use Rattle.boot_image.specs.Parts.{ImageParts as Image}
use Rattle.boot_image.specs.declared.fault.ImageFault.{ImageFault}
use Rattle.boot_image.specs.Reading.{answer as image_of}
use Rattle.kernel_linker.specs.Accept.{ImageSystem}
use Rattle.kernel_linker.specs.Sources.{IsOfImage, AcceptedAreOfImages}
use Rattle.run_scripts.specs.declared.exit_status.Status.{Status}
use Rattle.run_scripts.specs.declared.exit_status.Status.TheVariants.{KernelFault}
use Rattle.run_scripts.specs.declared.session.Session.{Session}
use Rattle.cvm_outside.specs.Outside.{Outside}
use Rattle.run_scripts.specs.Plan.{Accepts}
use Rattle.run_scripts.specs.Boot.{booted, environment_of, start_state, sectors_needed, AskFor, by_boot, by_trace, by_sample, Headline}
use Rattle.kernel_boots.specs.Boots.{OfStates, AlwaysHas, TextOfState, turns_made, StandsAt, SessionStands, BootStands, BootsStand, BootsShow, HasSource, AsksSource, RunsItsSource, BootsOf}
use Rattle.kernel_boots.proofs.RunsHaveRoom.{Roomy, room_of, roomy}
use Rattle.kernel_boots.proofs.EightLines.{eight_of, few_of, turns_have_eight}

-- A STATUS without a fault
abbrev pub NoFault : RunEnd → Type 0
NoFault KernelFaulted = ⊥
NoFault other = Unit {0}

pub no_fault : (b : Bool) (s : CvmStatus) → IsSafe s → NoFault (end_by b s)
no_fault true Running h = tt
no_fault true Halted h = tt
no_fault true (Faulted f) h = h
no_fault false s h = tt

abbrev OtherStatus : Status → Type 0
OtherStatus KernelFault = ⊥
OtherStatus other = Unit {0}

other_status : (e : RunEnd) → NoFault e → OtherStatus (status_of_end e)
other_status KernelFaulted h = h
other_status other h = tt

pub no_status : (e : RunEnd) → NoFault e → status_of_end e ≢ KernelFault
no_status e h eq = subst OtherStatus eq (other_status e h)

-- the text of a state by an ending
abbrev IsTextOf : System → RunEnd → Cvm → List ℕ → Type 0
IsTextOf y OutOfSteps c text = text ≡ rows_text c.rows
IsTextOf y other c text = text ≡ boot_text y c

-- a run of a system comes to one state
abbrev pub RunsAreOne : System → Type 0
RunsAreOne y = (lines : ℕ → ℕ) (k : ℕ) (c d : Cvm) → IsCvm y lines k c → IsCvm y lines k d → c ≡ d

-- WHAT WAS PRINTED is the text of the state where the run stands
status_text : (y : System) (e : RunEnd) (c : Cvm) (text : List ℕ) → IsTextOf y e c text → TextOfState y (status_of_end e) c text
status_text y OutOfSteps c text h = h
status_text y other c text h = h

module _ (x : Environment) (y : System) (one : RunsAreOne y) (s : State) (held : ℕ) (old now : List (List ℕ)) (turns steps : ℕ) where
  text_of : (t : ℕ) (e : RunEnd) (text : List ℕ) → TextAt x y s Boot t e text → (c : Cvm) × IsCvm y (lines_of_turn x s) (complete x s t) c × IsTextOf y e c text
  text_of t OutOfSteps text h = h
  text_of t other text h = h

  pub stands : (e : RunEnd) (text : List ℕ) → RanFrom x y s held old now Boot turns steps e text → StandsAt x y s turns steps (status_of_end e) text
  stands e text h =
      let t = text_of (end_within x s turns steps) e text h.text_is in
      let same : t.0 ≡ h.past = one (lines_of_turn x s) (complete x s (end_within x s turns steps)) t.0 h.past t.1 h.cvm in
      record {
        state = h.past;
        is = h.cvm;
        status_is = ap status_of_end h.status;
        text_is = subst (λ (c : Cvm). TextOfState y (status_of_end e) c text) same (status_text y e t.0 text t.2);
        few = h.few;
        over = h.over;
      }

-- of a kernel that a unit means a run comes to one state
pub ones : RunsAreLawful → (s : ImageSystem) (rows : Rows) → RunsAreOne (booted s rows)
ones laws s rows lines k c d = laws.same (booted s rows) lines k c d (laws.kernels s.unit s.params)

pub boots_stand : RunsAreLawful → BootsStand
boots_stand laws words status old new headlines session s rows before honest some view =
    let h : Headline session s rows before old new status = headlines session s rows before honest some in
    let x = environment_of rows old in
    let y = booted s rows in
    let first = start_state session s rows before in
    let held = sectors_needed session s rows in
    let ran = subst (λ v. RanFrom x y first held before h.after v session.turns session.steps h.ending h.text) view h.ran in
    record {
      text = h.text;
      printed = h.printed;
      stands = subst (λ (z : Status). SessionStands session s rows before old z h.text) (sym h.status_is) (stands x y (ones laws s rows) first held before h.after session.turns session.steps h.ending h.text ran);
      goes_on = h.goes_on;
    }

-- the schedule that is asked for raises eight lines
pub asked_eight : (words : List (List ℕ)) (file : List ℕ → Option (List ℕ)) (session : Session) (s : ImageSystem) (rows : Rows) → AskFor words file session s rows → (old : Outside) → HasEightLines (environment_of rows old)
asked_eight words file session s rows (by_boot b is same files) old = eight_of files.schedule rows files.valid
asked_eight words file session s rows (by_trace t is same files) old = eight_of files.schedule rows files.valid
asked_eight words file session s rows (by_sample n is same parts) old = eight_of _ rows parts.valid

-- and has no more input words than there is room for
pub asked_few : (words : List (List ℕ)) (file : List ℕ → Option (List ℕ)) (session : Session) (s : ImageSystem) (rows : Rows) → AskFor words file session s rows → length rows.inputs ≤ 4096
asked_few words file session s rows (by_boot b is same files) = few_of files.schedule rows files.valid
asked_few words file session s rows (by_trace t is same files) = few_of files.schedule rows files.valid
asked_few words file session s rows (by_sample n is same parts) = few_of _ rows parts.valid

pub boots_show : RunsAreLawful → BootsShow
boots_show laws P words status old new headlines session s rows before honest some view always =
    let b : BootStands session s rows before status old new = boots_stand laws words status old new headlines session s rows before honest some view in
    let x = environment_of rows old in
    let first = start_state session s rows before in
    let eight : HasEight (lines_of_turn x first) = turns_have_eight x first (asked_eight words old.shelf.file session s rows honest.asked old) in
    let has : P (lines_of_turn x first) (turns_made x first session.turns session.steps) b.stands.state = always (lines_of_turn x first) eight _ b.stands.state b.stands.is in
    record {
      printed = (b.text, b.printed, record { stands = b.stands; has = has });
      no_fault = λ safe e. no_status (ending x first session.turns session.steps b.stands.state) (no_fault _ b.stands.state.status (safe _ _ b.stands.state has)) (sym b.stands.status_is ∙ e);
    }

-- THE SOURCE of what is run
same_image : (i j : Image) → ◌≡◌ {A = Result Image ImageFault} (Ok i) (Ok j) → i ≡ j
same_image i j e = cc

pub of_image : AcceptedAreOfImages → (source bytes : List ℕ) (s : ImageSystem) → Accepts layer_image (image_of bytes) (Ok s) → (h : HasSource source bytes) → IsOfImage h.0 s
of_image law source bytes s accepted h =
    let a = subst (λ r. Accepts layer_image r (Ok s)) h.1 accepted in
    law layer_image h.0 a.0 s a.1 a.2

-- the unit of what is run is that of its source, and it has room
pub record IsRead (source : List ℕ) (s : ImageSystem) : Type 0 where
  pub unit : IsUnitOf source s.unit
  pub room : Roomy s

read_of_image : AcceptedAreOfImages → (source bytes : List ℕ) (s : ImageSystem) → Accepts layer_image (image_of bytes) (Ok s) → HasSource source bytes → IsRead source s
read_of_image law source bytes s accepted h =
    let is : IsOfImage h.0 s = of_image law source bytes s accepted h in
    record { unit = subst (λ t. IsUnitOf t s.unit) h.2 is.unit; room = roomy h.0 s (room_of bytes h.0 h.1) is }

pub asked_read : AcceptedAreOfImages → (source : List ℕ) (words : List (List ℕ)) (file : List ℕ → Option (List ℕ)) (session : Session) (s : ImageSystem) (rows : Rows)
    → (a : AskFor words file session s rows) → AsksSource source a → IsRead source s
asked_read law source words file session s rows (by_boot b is same files) h = read_of_image law source files.image s files.accepted h
asked_read law source words file session s rows (by_trace t is same files) h = read_of_image law source files.image s files.accepted h
asked_read law source words file session s rows (by_sample x is same parts) h = read_of_image law source parts.image s parts.accepted h

pub runs_its_source : AcceptedAreOfImages → RunsItsSource
runs_its_source law source words session s rows before old new h a = (asked_read law source words old.shelf.file session s rows h.asked a).unit

-- EACH BOOT OF A SOURCE shows a property that excludes faults, where the run of each system with that source's unit, with room for 64 words of stack and
-- for its users, always has it
pub boots_of : AcceptedAreOfImages → RunsAreLawful → (source : List ℕ) (Is : ImageSystem → Type 0) (P : System → OfStates)
    → ((s : ImageSystem) (rows : Rows) → IsUnitOf source s.unit → Roomy s → Is s → length rows.inputs ≤ 4096 → AlwaysHas (booted s rows) (P (booted s rows)))
    → ((y : System) (lines : ℕ → ℕ) (k : ℕ) (c : Cvm) → P y lines k c → IsSafe c.status) → BootsOf source Is P
boots_of law laws source Is P always safe words status old new headlines session s rows before h some view asks is =
    let read : IsRead source s = asked_read law source words old.shelf.file session s rows h.asked asks in
    let few : length rows.inputs ≤ 4096 = asked_few words old.shelf.file session s rows h.asked in
    let shown = boots_show laws (P (booted s rows)) words status old new headlines session s rows before h some view (always s rows read.unit read.room is few) in
    (shown.no_fault (safe (booted s rows)), shown.printed)
