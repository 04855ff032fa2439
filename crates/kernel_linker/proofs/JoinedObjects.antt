-- A source and the words of a unit, joined, are the unit's object; so no search has to look into a whole unit's code.
use Rattle.std.proofs.Common.{◌≡◌, ℕ, List, ap, ◌∙◌}
use Rattle.c0_tree.specs.Tree.{CUnit}
use Rattle.object_file.specs.Parts.{ObjectParts}
use Rattle.c0_unit.specs.Code.{unit_words}
use Rattle.kernel_linker.specs.Object.{object_of}

abbrev pub parts : List ℕ → List ℕ → ObjectParts
parts source words = record { source = source; words = words }

pub joined : (source bytes words : List ℕ) (u : CUnit) → bytes ≡ source → words ≡ unit_words u → parts bytes words ≡ object_of source u
unfolding object_of
joined source bytes words u e d = ap (λ (s : List ℕ). parts s words) e ∙ ap (λ (w : List ℕ). parts source w) d
