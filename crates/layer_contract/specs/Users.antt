-- A user's step on the machine, for a state that runs a user.
use Rattle.std.specs.Prelude.{◌≡◌, ◌≢◌, ℕ, suc, ◌+◌, ◌*◌, ◌/◌, ◌<◌, ◌≤◌, ◌⊎◌, Bool, true, false, nat_lt, if◌then◌else◌, length, slice_index, Option, Some, None}
use Rattle.mips_table.specs.declared.inst.Inst.{Inst}
use Rattle.mips_table.specs.declared.effect.Effect.{Effect}
use Rattle.mips_table.specs.declared.effect.Effect.TheVariants.{Load, Store}
use Rattle.mips_table.specs.Decoding.{decoding}
use Rattle.mips_table.specs.Processor.{effect_on}
use Rattle.mips_table.specs.declared.cause.Cause.{Cause}
use Rattle.mips_table.specs.declared.cause.Cause.TheVariants.{FetchFault, DataFault}
use Rattle.mips_table.specs.Device.{Environment}
use Rattle.mips_table.specs.declared.special.TheConstants.{PTL}
use Rattle.mips_table.specs.Machine.{cause_number}
use Rattle.mips_table.specs.Flat.{Flat, Goes, vstep}
use Rattle.mips_table.specs.Machine.{State, Interrupt, latched, coming, step}
use Rattle.mips_table.specs.Turns.{handled}
use Rattle.layer_map.specs.Map.{Map, MapInRange, layer_words, zero_frame_at}
use Rattle.page_model.specs.Faults.{UserStep, AsksForPage}
use Rattle.cvm_model.specs.Kernel.{Core}
use Rattle.cvm_model.specs.Primitives.{user_of}
use Rattle.cvm_model.specs.Cvm.{begin}
use Rattle.cvm_model.specs.Paged.{paged_of}
use Rattle.cvm_model.specs.Stands.{Site}
use Rattle.layer_contract.specs.Layer.{InUserMode, SectorsStay, EndsNamed, page_at}
use Rattle.layer_contract.specs.Follows.{BeginsAs}

-- the premises: a map in range; words as they were linked that end before the zero frame; and a machine that runs a user
pub record UserStepPremises (x : Environment) (y : Site) (s : State) (c : Core) : Type 0 where
  pub range : MapInRange y.map
  pub linked : length y.linked ≤ zero_frame_at y.map
  pub back : InUserMode x y c s

-- the step leaves the sectors past the users' pages as they are, and ends no command for one of them
abbrev pub StepSpares : Environment → Site → State → Type 0
StepSpares x y s = SectorsStay y.map s (step x s) × EndsNamed x y.map s

-- the step is as turn k + 1 begins: the flat machine's step, its trap, or the taking of the pending lines
abbrev pub StepFollows : Environment → Site → State → Core → ℕ → Type 0
StepFollows x y s c k = BeginsAs x y s c (begin (suc k) c (latched x s).mask) × StepSpares x y s

-- a step that takes no handled fault, where the linked words are as many as the map says
abbrev pub UserStepsLinked : Type 0
UserStepsLinked = (x : Environment) (y : Site) (s : State) (c : Core) (k : ℕ) → MapInRange y.map → length y.linked ≡ layer_words + y.map.code_words
    → InUserMode x y c s →
    handled x s ≡ false → StepFollows x y s c k

-- a handled fault: a fetch or a data fault and a page below ptl, taken at the instruction with nothing changed but the lines latched
pub record TakesFault (x : Environment) (s : State) : Type 0 where
  pub handled : handled x s ≡ true
  pub why : Cause
  pub edata : ℕ
  pub comes : coming x (latched x s) ≡ Interrupt (latched x s) why edata s.cpu.pc
  pub number : (cause_number why ≡ cause_number FetchFault) ⊎ (cause_number why ≡ cause_number DataFault)
  pub page : edata / 4096 < slice_index s.special PTL

-- any step
abbrev pub UserStepsOrFaults : Type 0
UserStepsOrFaults = (x : Environment) (y : Site) (s : State) (c : Core) (k : ℕ) → UserStepPremises x y s c → TakesFault x s ⊎ StepFollows x y s c k

-- an interrupt of a user is taken with nothing changed but the lines latched, since no fetch of a user takes input, and isn't the reset
pub record IsTakenAt (x : Environment) (s before : State) (cause : Cause) : Type 0 where
  pub state : before ≡ latched x s
  pub later : cause_number cause ≢ 0

-- each is
abbrev pub UsersAreInterrupted : Type 0
UsersAreInterrupted = (x : Environment) (y : Site) (s : State) (c : Core) (before : State) (cause : Cause) (edata epc : ℕ) → UserStepPremises x y s c →
    coming x (latched x s) ≡ Interrupt before cause edata epc → IsTakenAt x s before cause

-- THE PAGES OF A STEP, by the current user's own words: a step that touches the page of its code alone
abbrev pub code_alone : Map → Core → UserStep
code_alone m c =
    let page = page_at m c (user_of c.users c.current).cpu.pc in
    record { code_page = page; touches = false; data_page = page; store = false }

-- one that loads or stores the word at an address, if there is one
abbrev pub and_word : Map → Core → (address : ℕ) → (store : Bool) → UserStep
and_word m c address store =
    if nat_lt (address / 4) (length (user_of c.users c.current).words)
    then record { code_page = page_at m c (user_of c.users c.current).cpu.pc; touches = true; data_page = page_at m c address; store = store }
    else code_alone m c

-- by the effect, and by the instruction
abbrev pub pages_of_effect : Map → Core → Effect → UserStep
pages_of_effect m c (Load register address) = and_word m c address false
pages_of_effect m c (Store address value) = and_word m c address true
pages_of_effect m c other = code_alone m c

abbrev pub pages_of_inst : Map → Core → Option Inst → UserStep
pages_of_inst m c None = code_alone m c
pages_of_inst m c (Some i) = pages_of_effect m c (effect_on i (user_of c.users c.current).cpu)

-- those of the current user's step
unfoldable pub step_pages : Map → Core → UserStep
step_pages m c = pages_of_inst m c (decoding (slice_index (user_of c.users c.current).words ((user_of c.users c.current).cpu.pc / 4)))

-- a handled fault asks for a page of the step, which isn't to be had
pub record AsksPage (x : Environment) (y : Site) (s : State) (c : Core) : Type 0 where
  pub why : Cause
  pub edata : ℕ
  pub comes : coming x (latched x s) ≡ Interrupt (latched x s) why edata s.cpu.pc
  pub number : (cause_number why ≡ cause_number FetchFault) ⊎ (cause_number why ≡ cause_number DataFault)
  pub page : edata / 4096 < slice_index s.special PTL
  pub store : Bool
  pub asks : AsksForPage (step_pages y.map c) (paged_of y.map s) (page_at y.map c edata) store
  pub code_page : (step_pages y.map c).code_page < y.map.users * y.map.params.pages
  pub data_page : (step_pages y.map c).data_page < y.map.users * y.map.params.pages

-- each does
abbrev pub FaultsAsk : Type 0
FaultsAsk = (x : Environment) (y : Site) (s : State) (c : Core) → UserStepPremises x y s c → handled x s ≡ true → AsksPage x y s c

-- a step with no line pending, of a user whose machine takes no trap, that changes a word of memory
pub record ChangesWord (x : Environment) (y : Site) (s : State) (c : Core) : Type 0 where
  pub premises : UserStepPremises x y s c
  pub calm : handled x s ≡ false
  pub none : (latched x s).mask ≡ 0
  pub after : Flat
  pub goes : vstep (user_of c.users c.current) ≡ Goes after
  pub place : ℕ
  pub inside : place < length s.memory
  pub changed : slice_index (step x s).memory place ≡ slice_index s.memory place → ⊥

-- there is such a step: a store through the page table
pub record SomeStores : Type 0 where
  pub outside : Environment
  pub site : Site
  pub state : State
  pub core : Core
  pub changes : ChangesWord outside site state core
