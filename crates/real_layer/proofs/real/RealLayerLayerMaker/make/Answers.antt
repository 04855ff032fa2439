-- The words that are made are those of the layer that is made.
use Rattle.std.proofs.Common.{◌≡◌, ◌∙◌, ℕ, List, Result, Ok, Err, IfOk, ap}
use Rattle.layer_map.specs.Map.{Map}
use Rattle.real_layer.specs.Image.{layer_image}
use Rattle.real_layer.specs.Real.{MadeLayer}
use Rattle.real_layer.proofs.real.RealLayerLayerMaker.make.Goals as goal

made_words : {E : Type 0} (r : Result MadeLayer E) (m : Map) (given sizes : List ℕ) → given ≡ sizes →
    IfOk r (λ l. l ≡ record { map = m; sizes = given; words = layer_image m given }) → IfOk r (λ l. l.words ≡ layer_image m sizes)
made_words (Ok l) m given sizes same h = ap (λ (k : MadeLayer). k.words) h ∙ ap (layer_image m) same
made_words (Err e) m given sizes same h = tt

pub returns-clause-words : goal.returns-clause-words
returns-clause-words c = made_words c.made_for.result c.args.map.now c.in_ok-sizes.sizes.items c.args.sizes.now c.in_ok-sizes.ensures.items c.made_for.ensures
