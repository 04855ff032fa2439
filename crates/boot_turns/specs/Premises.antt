-- The premises of a run: what the outside does, what is booted over which layer, and where it starts.
use Rattle.std.specs.Prelude.{◌≡◌, ℕ, List, length}
use Rattle.mips_table.specs.Device.{Environment, HasEightLines, LinesEnd}
use Rattle.mips_table.specs.Machine.{State}
use Rattle.layer_map.specs.Map.{Map}
use Rattle.c0_meaning.specs.State.{C0State}
use Rattle.cvm_model.specs.Cvm.{System}
use Rattle.layer_contract.specs.Layer.{BusyWithin, Laws}
use Rattle.layer_contract.specs.Follows.{site_of, SystemFits, Follows}
use Rattle.layer_contract.specs.Starts.{Start}

-- the outside has these lines, of which there are eight, and none after its last step; these busy times; and this number of sectors
pub record Happens (lines busy : ℕ → ℕ) (count : ℕ) (x : Environment) : Type 0 where
  pub lines_are : x.lines ≡ lines
  pub eight : HasEightLines x
  pub end : LinesEnd x
  pub busy_are : x.busy ≡ busy
  pub count_is : x.count ≡ count

-- THE PREMISES of a boot: the outside has the schedule's lines and busy times, none above the longest, and a disk with the sectors `old`; and
-- what is booted fits, over a layer of these words that was made for it
pub record Boots (Typed : C0State → Type 0) (lines busy : ℕ → ℕ) (x : Environment) (y : System) (old : List (List ℕ)) (image sizes : List ℕ)
    (made_for : Map) : Type 0 where
  pub happens : Happens lines busy (length old) x
  pub within : BusyWithin x y.longest
  pub fits : SystemFits x y old
  pub follows : Follows Typed image sizes made_for y.boot

-- THE PREMISES of a run: they hold over some disk and a lawful layer, and the run starts from this state
pub record StartsFrom (Typed : C0State → Type 0) (x : Environment) (y : System) (s : State) (late held : ℕ) : Type 0 where
  pub lines : ℕ → ℕ
  pub busy : ℕ → ℕ
  pub old : List (List ℕ)
  pub image : List ℕ
  pub sizes : List ℕ
  pub made_for : Map
  pub boots : Boots Typed lines busy x y old image sizes made_for
  pub laws : Laws (site_of y.boot) sizes
  pub start : Start x y s late held
