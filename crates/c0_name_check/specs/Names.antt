-- Maps from a name to its number.
use Rattle.std.specs.Prelude.{ℕ, List, Option}
use Rattle.std.specs.Option.{option_map}
use Rattle.std.specs.Str.{bytes_eq}
use Rattle.std.specs.declared.vec.Vec.{Vec}
use Rattle.indexmap.specs.IndexMap.{IndexMap, get_by}
use Rattle.c0_meaning.specs.Env.{first_named}

-- the number of a name in a map
abbrev pub look : {A S : Type 0} → IndexMap (Vec ℕ A) ℕ S → List ℕ → Option ℕ
look names text = get_by (λ k. bytes_eq text k.items) names

-- the number, from k on, of the first of a list whose name is this text
abbrev pub number_named : {A : Type 0} → (A → List ℕ) → List ℕ → ℕ → List A → Option ℕ
number_named name text k list = option_map (λ found. found.0) (first_named name text k list)
