-- The laws of a layer, of the memory that a layer's image makes with any kernel's code behind it.
use Rattle.std.specs.Prelude.{◌≡◌, ℕ, ◌+◌, ◌-◌, ◌*◌, ◌<◌, ◌≤◌, ℤ, nat_abs, true, List, length}
use Rattle.mips_table.specs.Device.{Environment}
use Rattle.mips_table.specs.Machine.{State, latched, coming, step, run}
use Rattle.mips_table.specs.Turns.{handled}
use Rattle.layer_map.specs.Map.{Map, MapInRange}
use Rattle.page_model.specs.Paging.{MapsTo}
use Rattle.page_model.specs.TableLayout.{page_layout}
use Rattle.cvm_model.specs.Kernel.{Core}
use Rattle.cvm_model.specs.Primitives.{VmResize, user_of, pages_of, is_good}
use Rattle.cvm_model.specs.Paged.{paged_of}
use Rattle.cvm_model.specs.Stands.{Site}
use Rattle.layer_contract.specs.Layer.{Linked, EntersFirst, Enters, Exits, Leaves, PrimitivesAnswer, FaultsSettle, Laws}
use Rattle.layer_contract.specs.Layer.{IsEntry, ComesBy, InUserMode, PageBrought, BusyWithin, PrimitiveCalled, ComesBack}
use Rattle.real_layer.specs.Image.{layer_image, image_site, IsMade}

-- the exits of the kernel's faults
abbrev pub ImageExits : Type 0
ImageExits = (m : Map) (sizes code : List ℕ) → IsMade m sizes code → Exits (image_site m sizes code)

-- what follows an answer of `dispatch`
abbrev pub ImageLeaves : Type 0
ImageLeaves = (m : Map) (sizes code : List ℕ) → IsMade m sizes code → Leaves (image_site m sizes code)

-- what the variables and the control blocks of an image hold
abbrev pub ImageLinked : Type 0
ImageLinked = (m : Map) (sizes : List ℕ) → MapInRange m → length sizes ≡ m.users → Linked m sizes (layer_image m sizes)

-- from the reset to `dispatch`
abbrev pub ImageEntersFirst : Type 0
ImageEntersFirst = (m : Map) (sizes code : List ℕ) → IsMade m sizes code → EntersFirst (image_site m sizes code) sizes

-- from a user's interrupt to `dispatch`
abbrev pub ImageEnters : Type 0
ImageEnters = (m : Map) (sizes code : List ℕ) → IsMade m sizes code → Enters (image_site m sizes code)

-- user u's pages from `old` up to `new` name the zero frame
abbrev pub NameZeros : Map → (u old new : ℕ) → State → Type 0
NameZeros m u old new t = (i : ℕ) → old ≤ i → i < new → MapsTo ((paged_of m t).entry ((u - 1) * m.params.pages + i)) (page_layout m).zeros

-- GROWTH: a good vm_resize comes back with the pages by which the memory grew as the zero frame, as its code's law has them
abbrev pub GrowthIsFresh : Site → Type 0
GrowthIsFresh y = (x : Environment) (longest : ℕ) (s : State) (c : Core) (u n : ℤ) → BusyWithin x longest → PrimitiveCalled x y c (VmResize u n) s →
    is_good y.map.params.pages c.users (VmResize u n) ≡ true →
    (b : ComesBack x y longest c (VmResize u n) s) × NameZeros y.map (nat_abs u) (pages_of (user_of c.users (nat_abs u))) (nat_abs n) (run x s b.comes.steps)

-- the primitives: each comes back, and growth is by the zero frame
pub record PrimitivesRun (y : Site) : Type 0 where
  pub answers : PrimitivesAnswer y
  pub grows : GrowthIsFresh y

abbrev pub ImagePrimitives : Type 0
ImagePrimitives = (m : Map) (sizes code : List ℕ) → IsMade m sizes code → PrimitivesRun (image_site m sizes code)

-- how many pages name the frame at the hand
abbrev pub names_at : Map → State → ℕ
names_at m s = (paged_of m s).count (paged_of m s).hand

-- THE STEPS OF A HANDLED FAULT, from the instruction that meets it back to it: a swap for each page that names the frame at the hand, one more, and those of
-- the handler. With one such page they are 5,599 and two busy times, with four 13,720 and five, in a system of any size.
abbrev pub handled_steps : Map → (longest : ℕ) → State → ℕ
handled_steps m longest s = names_at m s * (longest + 2707) + longest + 2892

-- a handled fault takes no more, the step that meets it among them; and at most four pages name the frame at the hand
abbrev pub FaultsCost : Site → Type 0
FaultsCost y = (x : Environment) (longest : ℕ) (s : State) (c : Core) → BusyWithin x longest → InUserMode x y c s → handled x s ≡ true →
    (names_at y.map s ≤ 4) × ComesBy x y IsEntry (handled_steps y.map longest s - 1) (step x s) (λ t. InUserMode x y c t
    × PageBrought y c s t (coming x (latched x s)))

-- the handled faults: they settle, and what one costs
pub record FaultsHandled (y : Site) : Type 0 where
  pub settles : FaultsSettle y
  pub costs : FaultsCost y

abbrev pub ImageSettles : Type 0
ImageSettles = (m : Map) (sizes code : List ℕ) → IsMade m sizes code → FaultsHandled (image_site m sizes code)

-- all of them
abbrev pub ImageLaws : Type 0
ImageLaws = (m : Map) (sizes code : List ℕ) → IsMade m sizes code → Laws (image_site m sizes code) sizes
