-- Which of two lists of names, each in source order, has the next name.
use Rattle.std.specs.Prelude.{Bool, true, false, nat_lt, List, [], ◌∷◌}
use Rattle.c0_tree.specs.Tree.{CName}

-- whether the next name is the first of the others
abbrev pub comes_next : List CName → List CName → Bool
comes_next names [] = false
comes_next [] (y ∷ others) = true
comes_next (x ∷ names) (y ∷ others) = nat_lt y.span.start x.span.start
