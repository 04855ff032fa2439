-- What a kernel means doesn't depend on spans in its source.
use Rattle.std.specs.Prelude.{◌≡◌}
use Rattle.layer_map.specs.declared.params.Params.{Params}
use Rattle.c0_tree.specs.Tree.{CUnit}
use Rattle.c0_meaning.specs.Bare.{bare}
use Rattle.cvm_model.specs.KernelMeaning.{kernel_meaning}

-- a law: a unit without its spans means what the unit means; so what is proved of a tree that was written by hand holds of a text's unit
abbrev pub MeaningsIgnoreSpans : Type 0
MeaningsIgnoreSpans = (u : CUnit) (p : Params) → kernel_meaning (bare u) p ≡ kernel_meaning u p
