-- By the laws of the image, whose words these are.
use Rattle.std.proofs.Common.{◌≡◌, ℕ, List, length, sym, subst}
use Rattle.layer_map.specs.Map.{MapInRange}
use Rattle.layer_contract.specs.Layer.{site_with, Laws}
use Rattle.real_layer.specs.Image.{layer_image}
use Rattle.real_layer.specs.Laws.{ImageLaws}
use Rattle.real_layer.specs.Real.{MadeLayer}
use Rattle.real_layer.proofs.real.RealLayerLayer.keeps_laws.Goals as goal

-- the laws of a layer in memory
abbrev Lawful : MadeLayer → Type 0
Lawful l = (code : List ℕ) → MapInRange l.map → length code ≡ l.map.code_words → Laws (site_with l.map l.words code) l.sizes

lawful : ImageLaws → (l : MadeLayer) → length l.sizes ≡ l.map.users → l.words ≡ layer_image l.map l.sizes → Lawful l
lawful laws l users is code range whole = subst (λ w. Laws (site_with l.map w code) l.sizes) (sym is) (laws l.map l.sizes code (record { range = range; users = users; whole = whole }))

pub returns-clause-laws : goal.returns-clause-laws
returns-clause-laws c =
    let inside : MadeLayer = record { map = c.self.inside.map; sizes = c.self.inside.sizes.items; words = c.self.inside.words.items } in
    subst Lawful c.self.view_is (lawful c.the_layer_is_lawful.ensures inside c.self.invariant.0 c.self.invariant.1)
