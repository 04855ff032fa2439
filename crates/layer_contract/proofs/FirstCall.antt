-- Over a layer that was made for what is booted, each start comes to the call of `dispatch`.
use Rattle.std.proofs.Common.{◌≡◌, ℕ, List, [], ◌∷◌, length, map, drop, refl, sym, ap, ap₂, ◌∙◌, subst}
use Rattle.std.proofs.lemmas.List.{length-drop}
use Rattle.mips_table.specs.Machine.{run}
use Rattle.layer_map.specs.Map.{Map, MapInRange, layer_words}
use Rattle.cvm_model.specs.Primitives.{pages_of}
use Rattle.cvm_model.specs.Cvm.{first_flat, first_core}
use Rattle.cvm_model.specs.Stands.{Site}
use Rattle.layer_contract.specs.Layer.{Laws, site_with}
use Rattle.layer_contract.specs.Follows.{site_of}
use Rattle.layer_contract.specs.Starts.{StartsCall}

-- sizes of users at the start
pub first_sizes : (users : List (List ℕ)) → map (λ words. pages_of (first_flat words)) users ≡ map pages_of (map first_flat users)
first_sizes [] = refl
first_sizes (u ∷ rest) = ap (λ ns. pages_of (first_flat u) ∷ ns) (first_sizes rest)

pub starts_call : (image sizes : List ℕ) (m : Map) → ((code : List ℕ) → MapInRange m → length code ≡ m.code_words → Laws (site_with m image code) sizes) → StartsCall image sizes m
starts_call image sizes m laws x y s late held start core made =
    let code : List ℕ = drop layer_words y.boot.words in
    let size : length code ≡ m.code_words = length-drop layer_words y.boot.words ∙ ap code_words_of (sym made.same_map) in
    let same : site_with m image code ≡ site_of y.boot = ap₂ site made.same_map (sym made.words) in
    let here : Laws (site_of y.boot) sizes = subst (λ s. Laws s sizes) same (laws code made.range size) in
    here.enters_first x (run x s late) (first_core y) core (made.starts y.input y.longest) (made.same_sizes ∙ first_sizes y.boot.users) start.there
  where
    site : Map → List ℕ → Site
    site m words = record { map = m; linked = words }

    code_words_of : Map → ℕ
    code_words_of m = m.code_words
