-- No evaluation costs more than its nodes.
use Rattle.std.specs.Prelude.{Result, Ok, Err, ok_or, Bool, true, false, if◌then◌else◌}
use Rattle.std.proofs.Common.{ℕ, ◌+◌, ◌≤◌, arith}
use Rattle.c0_tree.specs.declared.tree.BinaryOp.{BinaryOp}
use Rattle.c0_tree.specs.declared.tree.BinaryOp.TheVariants.{Add, Sub, Mul, Div, Rem, Lt, Le, Gt, Ge, Eq, Ne, And, Or}
use Rattle.c0_tree.specs.Tree.{CName, CExpr, num, true_, false_, null, var, field, arrow, index, deref, address, unary, binary}
use Rattle.c0_tree.specs.Size.{nodes}
use Rattle.c0_meaning.specs.State.{C0State, read}
use Rattle.c0_meaning.specs.Value.{Location, Value, bool, at, below}
use Rattle.c0_meaning.specs.Operators.{Failure, stuck, on_unary, on_binary}
use Rattle.c0_meaning.specs.Evaluation.{Costed, costs, at_no_cost, paying, ◌>>=◌, bool_of, truth, both_sides, pointed_to, element_of, load_from, indexed, field_of, pointed, variable_location, value_of, place_of}
use Rattle.c0_expr_runs.specs.Relation.{evaluation_units}

pays : {A : Type 0} (k n : ℕ) (e : Costed A) → evaluation_units e ≤ n → evaluation_units (paying k e) ≤ k + n
pays k n (costs m r) h = omega (arith, h)

binds : {A B : Type 0} (m n : ℕ) (e : Costed A) (f : A → Costed B) → evaluation_units e ≤ m → ((x : A) → evaluation_units (f x) ≤ n) → evaluation_units (e >>= f) ≤ m + n
binds m n (costs k (Ok x)) f h g = let a = pays k n (f x) (g x) in omega (arith, a, h)
binds m n (costs k (Err x)) f h g = omega (arith, h)

free : {A B : Type 0} (n : ℕ) (e : Costed A) (f : A → Result B Failure) → evaluation_units e ≤ n → evaluation_units (e >>= λ x. at_no_cost (f x)) ≤ n
free n (costs k (Ok x)) f h = omega (arith, h)
free n (costs k (Err x)) f h = h

module _ (s : C0State) where
  loads : (n : ℕ) (e : Costed Location) → evaluation_units e ≤ n → evaluation_units (load_from s e) ≤ n
  loads n e h = free n e (λ l. ok_or (read s l) stuck) h

  points : (n : ℕ) (e : Costed Value) → evaluation_units e ≤ n → evaluation_units (pointed e) ≤ n
  points n e h = free n e pointed_to h

  parts : (f : CName) (n : ℕ) (e : Costed Location) → evaluation_units e ≤ n → evaluation_units (field_of f e) ≤ n
  parts f n e h = free n e (λ l. Ok (below l f.number)) h

  indexes : (m n : ℕ) (e : Costed Location) (i : Costed Value) → evaluation_units e ≤ m → evaluation_units i ≤ n → evaluation_units (indexed s e i) ≤ m + n
  indexes m n e i h g = binds m n e (λ l. i >>= λ v. at_no_cost (element_of l (read s l) v)) h (λ l. free n i (λ v. element_of l (read s l) v) g)

  sides : (m n : ℕ) (x y : Costed Value) (on : Value → Value → Result Value Failure) → evaluation_units x ≤ m → evaluation_units y ≤ n
      → evaluation_units (x >>= λ v. y >>= λ u. at_no_cost (on v u)) ≤ m + n
  sides m n x y on h g = binds m n x (λ v. y >>= λ u. at_no_cost (on v u)) h (λ v. free n y (λ u. on v u) g)

  truths : (n : ℕ) (e : Costed Value) → evaluation_units e ≤ n → evaluation_units (truth e) ≤ n
  truths n e h = free n e bool_of h

  operators : (o : BinaryOp) (m n : ℕ) (x y : Costed Value) → evaluation_units x ≤ m → evaluation_units y ≤ n → evaluation_units (both_sides o x y) ≤ m + n
  operators And m n x y h g = binds m n (truth x) (λ b. if b then y else at_no_cost (Ok (bool false))) (truths m x h) by_bool
    where
      by_bool : (b : Bool) → evaluation_units (if b then y else at_no_cost (Ok (bool false))) ≤ n
      by_bool true = g
      by_bool false = omega arith
  operators Or m n x y h g = binds m n (truth x) (λ b. if b then at_no_cost (Ok (bool true)) else y) (truths m x h) by_bool
    where
      by_bool : (b : Bool) → evaluation_units (if b then at_no_cost (Ok (bool true)) else y) ≤ n
      by_bool true = omega arith
      by_bool false = g
  operators Add m n x y h g = sides m n x y (on_binary Add) h g
  operators Sub m n x y h g = sides m n x y (on_binary Sub) h g
  operators Mul m n x y h g = sides m n x y (on_binary Mul) h g
  operators Div m n x y h g = sides m n x y (on_binary Div) h g
  operators Rem m n x y h g = sides m n x y (on_binary Rem) h g
  operators Lt m n x y h g = sides m n x y (on_binary Lt) h g
  operators Le m n x y h g = sides m n x y (on_binary Le) h g
  operators Gt m n x y h g = sides m n x y (on_binary Gt) h g
  operators Ge m n x y h g = sides m n x y (on_binary Ge) h g
  operators Eq m n x y h g = sides m n x y (on_binary Eq) h g
  operators Ne m n x y h g = sides m n x y (on_binary Ne) h g

  -- of an expression: its value, and its place
  record Costs (v : Costed Value) (l : Costed Location) (n : ℕ) : Type 0 where
    value : evaluation_units v ≤ n
    place : evaluation_units l ≤ n

  placed : (n : ℕ) (e : Costed Location) → evaluation_units e ≤ n → Costs (paying 1 (load_from s e)) (paying 1 e) (n + 1)
  placed n e h =
      let a = pays 1 n (load_from s e) (loads n e h) in
      let b = pays 1 n e h in
      record { value = omega (arith, a); place = omega (arith, b) }

  valued : (n : ℕ) (e : Costed Value) → evaluation_units e ≤ n → Costs (paying 1 e) (paying 1 (at_no_cost (Err stuck))) (n + 1)
  valued n e h = let a = pays 1 n e h in record { value = omega (arith, a); place = omega arith }

  few : (e : CExpr) → Costs (value_of e s) (place_of e s) (nodes e)
  few (num p n) = record { value = omega arith; place = omega arith }
  few (true_ p) = record { value = omega arith; place = omega arith }
  few (false_ p) = record { value = omega arith; place = omega arith }
  few (null p) = record { value = omega arith; place = omega arith }
  few (var x) =
      let a = pays 1 0 (load_from s (at_no_cost (variable_location x.kind x.number))) (loads 0 (at_no_cost (variable_location x.kind x.number)) (omega arith)) in
      record { value = omega (arith, a); place = omega arith }
  few (field p e f) = placed (nodes e) (field_of f (place_of e s)) (parts f (nodes e) (place_of e s) (few e).place)
  few (arrow p e f) = placed (nodes e) (field_of f (pointed (value_of e s))) (parts f (nodes e) (pointed (value_of e s)) (points (nodes e) (value_of e s) (few e).value))
  few (index p e i) = placed (nodes e + nodes i) (indexed s (place_of e s) (value_of i s)) (indexes (nodes e) (nodes i) (place_of e s) (value_of i s) (few e).place (few i).value)
  few (deref p e) = placed (nodes e) (pointed (value_of e s)) (points (nodes e) (value_of e s) (few e).value)
  few (address p e) = valued (nodes e) (place_of e s >>= λ l. at_no_cost (Ok (at l))) (free (nodes e) (place_of e s) (λ l. Ok (at l)) (few e).place)
  few (unary p o e) = valued (nodes e) (value_of e s >>= λ v. at_no_cost (on_unary o v)) (free (nodes e) (value_of e s) (λ v. on_unary o v) (few e).value)
  few (binary p o x y) = valued (nodes x + nodes y) (both_sides o (value_of x s) (value_of y s)) (operators o (nodes x) (nodes y) (value_of x s) (value_of y s) (few x).value (few y).value)

pub value_costs : (e : CExpr) (s : C0State) → evaluation_units (value_of e s) ≤ nodes e
value_costs e s = (few s e).value

pub place_costs : (e : CExpr) (s : C0State) → evaluation_units (place_of e s) ≤ nodes e
place_costs e s = (few s e).place
