-- What is booted, as contracts see it, and when it belongs to a layer.
use Rattle.std.specs.Prelude.{ℕ, List, map}
use Rattle.c0_tree.specs.View.{unit_view}
use Rattle.c0_meaning.specs.TypedState.{IsTypedState}
use Rattle.layer_map.specs.Map.{Map}
use Rattle.cvm_model.specs.Cvm.{Boot}
use Rattle.cvm_model.specs.KernelMeaning.{kernel_meaning}
use Rattle.layer_contract.specs.declared.boot.Boot.{Boot as Booted}
use Rattle.layer_contract.specs.Follows.{Follows}

-- the kernel is what its unit means
abbrev pub boot_of : Booted → Boot
boot_of b = record {
  params = b.params;
  meaning = kernel_meaning (unit_view b.unit) b.params;
  words = b.words.items;
  users = map (λ words. words.items) b.users.items;
}

-- FOLLOWS, of a layer with these words, sizes of users and map, and a boot
abbrev pub BootFollows : (image sizes : List ℕ) → Map → Booted → Type 0
BootFollows image sizes made_for b = Follows (IsTypedState (unit_view b.unit)) image sizes made_for (boot_of b)
