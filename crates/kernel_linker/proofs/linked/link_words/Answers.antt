use Rattle.std.proofs.Common.{ℕ, ◌≡◌, ◌≤◌, List, ap, ◌∙◌, sym, subst}
use Rattle.std.specs.List.{All}
use Rattle.layer_map.specs.Map.{Map}
use Rattle.kernel_linker.proofs.UserLists.{sizes_fit}
use Rattle.kernel_linker.proofs.linked.link_words.Goals as goal

pub make-requires-clause-pages : goal.make-requires-clause-pages
make-requires-clause-pages g c =
    subst (λ (m : Map). All (λ n. n ≤ m.params.pages) c.deref.result.now) (sym c.map_of-map.ensures.value)
    (subst (λ (s : List ℕ). All (λ n. n ≤ c.args.params.now.pages) s) (sym (c.deref.ensures.value ∙ c.in_ok-sizes.ensures)) (sizes_fit c.args.params.now.pages _ c.requires.short))
