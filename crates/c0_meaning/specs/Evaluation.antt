-- What expressions give, and the units that it takes: one for each node whose evaluation begins.
use Rattle.std.specs.Prelude.{ℕ, ◌+◌, pos, negsuc, Bool, true, false, nat_lt, if◌then◌else◌, List, [], ◌∷◌, Option, Some, Result, Ok, Err, ok_or}
use Rattle.c0_tree.specs.declared.tree.Kind.{Kind}
use Rattle.c0_tree.specs.declared.tree.Kind.TheVariants.{Global, Local}
use Rattle.c0_tree.specs.declared.tree.BinaryOp.{BinaryOp}
use Rattle.c0_tree.specs.declared.tree.BinaryOp.TheVariants.{And, Or}
use Rattle.c0_tree.specs.Tree.{CName, CExpr, num, true_, false_, null, var, field, arrow, index, deref, address, unary, binary}
use Rattle.c0_meaning.specs.Value.{globals, locals, Location, Value, int, bool, at, group, Values, empty, part, count, below}
use Rattle.c0_meaning.specs.Value as value
use Rattle.c0_meaning.specs.State.{C0State, read}
use Rattle.c0_meaning.specs.Operators.{Failure, NullUse, Bounds, faulted, stuck, on_unary, on_binary}

-- what an evaluation comes to, with the units that it took
pub data Costed (A : Type 0) : Type 0 where
  costs : (units : ℕ) → Result A Failure → Costed A

-- without a unit
abbrev pub at_no_cost : {A : Type 0} → Result A Failure → Costed A
at_no_cost r = costs 0 r

-- with so many units more
abbrev pub paying : {A : Type 0} → ℕ → Costed A → Costed A
paying k (costs n r) = costs (k + n) r

-- one evaluation, and then another, unless the first fails
infixl 10 ◌>>=◌
abbrev pub ◌>>=◌ : {A B : Type 0} → Costed A → (A → Costed B) → Costed B
(costs k (Ok x)) >>= f = paying k (f x)
(costs k (Err e)) >>= f = costs k (Err e)

-- the bool that a value is
abbrev pub bool_of : Value → Result Bool Failure
bool_of (bool b) = Ok b
bool_of _ = Err stuck

-- the location of the variable of a kind and number
abbrev pub variable_location : Kind → ℕ → Result Location Failure
variable_location Global n = Ok (record { region = globals; path = n ∷ [] })
variable_location Local n = Ok (record { region = locals; path = n ∷ [] })
variable_location _ n = Err stuck

-- the location that a pointer names
abbrev pub pointed_to : Value → Result Location Failure
pointed_to value.null = Err (faulted NullUse)
pointed_to (at l) = Ok l
pointed_to _ = Err stuck

-- the location of an element of what stands at a location: the index isn't below 0, and is below the length
abbrev pub element_of : Location → Option Value → Value → Result Location Failure
element_of l (Some (group vs)) (int (pos i)) = if nat_lt i (count vs) then Ok (below l i) else Err (faulted Bounds)
element_of l (Some (group vs)) (int (negsuc i)) = Err (faulted Bounds)
element_of l _ _ = Err stuck

-- the bool that an evaluation gives
abbrev pub truth : Costed Value → Costed Bool
truth e = e >>= λ v. at_no_cost (bool_of v)

-- the two sides of a binary operator, from left to right: `&&` and `||` evaluate the right side only where the left doesn't decide
abbrev pub both_sides : BinaryOp → Costed Value → Costed Value → Costed Value
both_sides And left right = truth left >>= λ b. if b then right else at_no_cost (Ok (bool false))
both_sides Or left right = truth left >>= λ b. if b then at_no_cost (Ok (bool true)) else right
both_sides op left right = left >>= λ v. right >>= λ w. at_no_cost (on_binary op v w)

-- what stands at the location that an evaluation gives
abbrev pub load_from : C0State → Costed Location → Costed Value
load_from s r = r >>= λ l. at_no_cost (ok_or (read s l) stuck)

-- `place[i]`: the place, then the index, then the test
abbrev pub indexed : C0State → Costed Location → Costed Value → Costed Location
indexed s place i = place >>= λ l. i >>= λ v. at_no_cost (element_of l (read s l) v)

-- `place.f`
abbrev pub field_of : CName → Costed Location → Costed Location
field_of f place = place >>= λ l. at_no_cost (Ok (below l f.number))

-- `*e`
abbrev pub pointed : Costed Value → Costed Location
pointed e = e >>= λ v. at_no_cost (pointed_to v)

-- the value of an expression, and the location of one that is a place
abbrev mutual
  pub value_of : CExpr → C0State → Costed Value
  value_of (num p n) s = costs 1 (Ok (int (pos n)))
  value_of (true_ p) s = costs 1 (Ok (bool true))
  value_of (false_ p) s = costs 1 (Ok (bool false))
  value_of (null p) s = costs 1 (Ok value.null)
  value_of (var x) s = paying 1 (load_from s (at_no_cost (variable_location x.kind x.number)))
  value_of (field p e f) s = paying 1 (load_from s (field_of f (place_of e s)))
  value_of (arrow p e f) s = paying 1 (load_from s (field_of f (pointed (value_of e s))))
  value_of (index p e i) s = paying 1 (load_from s (indexed s (place_of e s) (value_of i s)))
  value_of (deref p e) s = paying 1 (load_from s (pointed (value_of e s)))
  value_of (address p e) s = paying 1 (place_of e s >>= λ l. at_no_cost (Ok (at l)))
  value_of (unary p op e) s = paying 1 (value_of e s >>= λ v. at_no_cost (on_unary op v))
  value_of (binary p op a b) s = paying 1 (both_sides op (value_of a s) (value_of b s))

  pub place_of : CExpr → C0State → Costed Location
  place_of (var x) s = paying 1 (at_no_cost (variable_location x.kind x.number))
  place_of (field p e f) s = paying 1 (field_of f (place_of e s))
  place_of (arrow p e f) s = paying 1 (field_of f (pointed (value_of e s)))
  place_of (index p e i) s = paying 1 (indexed s (place_of e s) (value_of i s))
  place_of (deref p e) s = paying 1 (pointed (value_of e s))
  place_of _ s = paying 1 (at_no_cost (Err stuck))

-- the values of expressions, from left to right
abbrev pub values_of : List CExpr → C0State → Costed Values
values_of [] s = at_no_cost (Ok empty)
values_of (e ∷ es) s = value_of e s >>= λ v. values_of es s >>= λ vs. at_no_cost (Ok (part v vs))
