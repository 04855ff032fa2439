-- Which parameters and locals an expression reads.
use Rattle.std.specs.Prelude.{ℕ, Bool, false, ◌&&◌, ◌||◌, nat_eq, IsTrue}
use Rattle.c0_tree.specs.Tree.{CExpr, num, true_, false_, null, var, field, arrow, index, deref, address, unary, binary}
use Rattle.c0_meaning.specs.Numbered.{is_in_frame}

-- whether the parameter or local of a number stands in an expression
abbrev pub reads : CExpr → ℕ → Bool
reads (num s v) n = false
reads (true_ s) n = false
reads (false_ s) n = false
reads (null s) n = false
reads (var x) n = is_in_frame x.kind && nat_eq x.number n
reads (field s e f) n = reads e n
reads (arrow s e f) n = reads e n
reads (index s e i) n = reads e n || reads i n
reads (deref s e) n = reads e n
reads (address s e) n = reads e n
reads (unary s o e) n = reads e n
reads (binary s o a b) n = reads a n || reads b n

-- whether it is read where the place is found that an expression is: a variable is found without being read
abbrev pub reads_to_find : CExpr → ℕ → Bool
reads_to_find (var x) n = false
reads_to_find e n = reads e n

-- what is needed is live
abbrev pub Covers : (live needed : ℕ → Bool) → Type 0
Covers live needed = (n : ℕ) → IsTrue (needed n) → IsTrue (live n)
