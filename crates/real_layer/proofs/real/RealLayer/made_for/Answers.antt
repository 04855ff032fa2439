-- By what the words are.
use Rattle.std.proofs.Common.{ℕ, List, ap, ◌∙◌}
use Rattle.real_layer.specs.Image.{layer_image}
use Rattle.real_layer.specs.Real.{MadeLayer}
use Rattle.real_layer.proofs.real.RealLayer.made_for.Goals as goal

pub invariant_of-result : goal.invariant_of-result
invariant_of-result c = (c.requires, c.in_ok-words.ensures ∙ ap (layer_image c.args.map.now) c.deref.ensures.value)

pub returns : goal.returns
returns c =
    let made : List ℕ → MadeLayer = λ w. record { map = c.args.map.now; sizes = c.args.sizes.items; words = w } in
    ap made (c.in_ok-words.ensures ∙ ap (layer_image c.args.map.now) c.deref.ensures.value)
