-- The units of an evaluation: one at least, and no more than there are nodes.
use Rattle.std.specs.Prelude.{Result, Ok, Err, ok_or, if◌then◌else◌}
use Rattle.std.proofs.Common.{ℕ, ◌+◌, ◌≤◌, Bool, true, false, List, [], ◌∷◌, arith}
use Rattle.c0_tree.specs.declared.tree.BinaryOp.{BinaryOp}
use Rattle.c0_tree.specs.declared.tree.BinaryOp.TheVariants.{Add, Sub, Mul, Div, Rem, Lt, Le, Gt, Ge, Eq, Ne, And, Or}
use Rattle.c0_tree.specs.Size.{nodes, args_nodes}
use Rattle.c0_tree.specs.Tree.{CExpr, num, true_, false_, null, var, field, arrow, index, deref, address, unary, binary}
use Rattle.c0_meaning.specs.Value.{Location, Value, bool}
use Rattle.c0_meaning.specs.State.{C0State, read}
use Rattle.c0_meaning.specs.Operators.{Failure, stuck, on_binary}
use Rattle.c0_meaning.specs.Evaluation.{Costed, costs, at_no_cost, paying, ◌>>=◌, bool_of, truth, both_sides, load_from, indexed, field_of, pointed, element_of, pointed_to, variable_location, value_of, place_of, values_of}

-- so many units at least, and at most
abbrev pub Within : {A : Type 0} → (least most : ℕ) → Costed A → Type 0
Within least most (costs k r) = (least ≤ k) × (k ≤ most)

module _ {A : Type 0} where
  pub free : (r : Result A Failure) → Within 0 0 (at_no_cost r)
  free r = (omega arith, omega arith)

  pub wider : (l n l' n' : ℕ) (e : Costed A) → l' ≤ l → n ≤ n' → Within l n e → Within l' n' e
  wider l n l' n' (costs k r) le ge h = let a = h.0 in let b = h.1 in (omega (arith, a, le), omega (arith, b, ge))

  pub pays : (m l n : ℕ) (e : Costed A) → Within l n e → Within (m + l) (m + n) (paying m e)
  pays m l n (costs k r) h = let a = h.0 in let b = h.1 in (omega (arith, a), omega (arith, b))

pub binds : {A B : Type 0} (l n m : ℕ) (e : Costed A) (f : A → Costed B) → Within l n e → ((x : A) → Within 0 m (f x)) → Within l (n + m) (e >>= f)
binds l n m (costs k (Ok x)) f h g = let a = h.0 in let b = h.1 in wider (k + 0) (k + m) l (n + m) (paying k (f x)) (omega (arith, a)) (omega (arith, b)) (pays k 0 m (f x) (g x))
binds l n m (costs k (Err x)) f h g = let a = h.0 in let b = h.1 in (a, omega (arith, b))

truly : (l n : ℕ) (e : Costed Value) → Within l n e → Within l n (truth e)
truly l n e h = wider l (n + 0) l n (truth e) (omega arith) (omega arith) (binds l n 0 e _ h (λ v. free (bool_of v)))

plain : (o : BinaryOp) (l n m : ℕ) (a b : Costed Value) → Within l n a → Within 0 m b → Within l (n + m) (a >>= λ v. b >>= λ w. at_no_cost (on_binary o v w))
plain o l n m a b h g = binds l n m a _ h (λ v. wider 0 (m + 0) 0 m _ (omega arith) (omega arith) (binds 0 m 0 b _ g (λ w. free (on_binary o v w))))

sides : (o : BinaryOp) (l n m : ℕ) (a b : Costed Value) → Within l n a → Within 0 m b → Within l (n + m) (both_sides o a b)
sides And l n m a b h g = binds l n m (truth a) _ (truly l n a h) by_left
  where
    by_left : (x : Bool) → Within 0 m (if x then b else at_no_cost (Ok (bool false)))
    by_left true = g
    by_left false = wider 0 0 0 m (at_no_cost (Ok (bool false))) (omega arith) (omega arith) (free (Ok (bool false)))
sides Or l n m a b h g = binds l n m (truth a) _ (truly l n a h) by_left
  where
    by_left : (x : Bool) → Within 0 m (if x then at_no_cost (Ok (bool true)) else b)
    by_left true = wider 0 0 0 m (at_no_cost (Ok (bool true))) (omega arith) (omega arith) (free (Ok (bool true)))
    by_left false = g
sides Add l n m a b h g = plain Add l n m a b h g
sides Sub l n m a b h g = plain Sub l n m a b h g
sides Mul l n m a b h g = plain Mul l n m a b h g
sides Div l n m a b h g = plain Div l n m a b h g
sides Rem l n m a b h g = plain Rem l n m a b h g
sides Lt l n m a b h g = plain Lt l n m a b h g
sides Le l n m a b h g = plain Le l n m a b h g
sides Gt l n m a b h g = plain Gt l n m a b h g
sides Ge l n m a b h g = plain Ge l n m a b h g
sides Eq l n m a b h g = plain Eq l n m a b h g
sides Ne l n m a b h g = plain Ne l n m a b h g

place_then : (n : ℕ) (s : C0State) (e : Costed Location) → Within 0 n e → Within 1 (n + 1) (paying 1 (load_from s e))
place_then n s e h = wider (1 + 0) (1 + (n + 0)) 1 (n + 1) _ (omega arith) (omega arith) (pays 1 0 (n + 0) (load_from s e) (binds 0 n 0 e _ h (λ l. free (ok_or (read s l) stuck))))

once : {A : Type 0} (n m : ℕ) (e : Costed A) → Within 0 n e → n + 1 ≤ m → Within 1 m (paying 1 e)
once n m e h le = wider (1 + 0) (1 + n) 1 m _ (omega arith) (omega arith) (pays 1 0 n e h)

part_of : {A B : Type 0} (n : ℕ) (e : Costed A) (f : A → Result B Failure) → Within 0 n e → Within 0 n (e >>= λ x. at_no_cost (f x))
part_of n e f h = wider 0 (n + 0) 0 n _ (omega arith) (omega arith) (binds 0 n 0 e _ h (λ x. free (f x)))

low : {A : Type 0} (e : Costed A) (n : ℕ) → Within 1 n e → Within 0 n e
low e n h = wider 1 n 0 n e (omega arith) (omega arith) h

elements : (s : C0State) (n m : ℕ) (e : Costed Location) (i : Costed Value) → Within 0 n e → Within 0 m i → Within 0 (n + m) (indexed s e i)
elements s n m e i h g = binds 0 n m e _ h (λ l. part_of m i (λ v. element_of l (read s l) v) g)

mutual
  pub value_within : (e : CExpr) (s : C0State) → Within 1 (nodes e) (value_of e s)
  value_within (num p n) s = (omega arith, omega arith)
  value_within (true_ p) s = (omega arith, omega arith)
  value_within (false_ p) s = (omega arith, omega arith)
  value_within (null p) s = (omega arith, omega arith)
  value_within (var x) s = place_then 0 s (at_no_cost (variable_location x.kind x.number)) (free (variable_location x.kind x.number))
  value_within (field p e f) s = place_then (nodes e) s (field_of f (place_of e s)) (part_of (nodes e) (place_of e s) _ (low (place_of e s) (nodes e) (place_within e s)))
  value_within (arrow p e f) s = place_then (nodes e) s (field_of f (pointed (value_of e s))) (part_of (nodes e) (pointed (value_of e s)) _ (part_of (nodes e) (value_of e s) pointed_to (low (value_of e s) (nodes e) (value_within e s))))
  value_within (index p e i) s = place_then (nodes e + nodes i) s (indexed s (place_of e s) (value_of i s)) (elements s (nodes e) (nodes i) (place_of e s) (value_of i s) (low (place_of e s) (nodes e) (place_within e s)) (low (value_of i s) (nodes i) (value_within i s)))
  value_within (deref p e) s = place_then (nodes e) s (pointed (value_of e s)) (part_of (nodes e) (value_of e s) pointed_to (low (value_of e s) (nodes e) (value_within e s)))
  value_within (address p e) s = once (nodes e) (nodes e + 1) _ (part_of (nodes e) (place_of e s) _ (low (place_of e s) (nodes e) (place_within e s))) (omega arith)
  value_within (unary p op e) s = once (nodes e) (nodes e + 1) _ (part_of (nodes e) (value_of e s) _ (low (value_of e s) (nodes e) (value_within e s))) (omega arith)
  value_within (binary p op a b) s = once (nodes a + nodes b) (nodes a + nodes b + 1) _ (sides op 0 (nodes a) (nodes b) (value_of a s) (value_of b s) (low (value_of a s) (nodes a) (value_within a s)) (low (value_of b s) (nodes b) (value_within b s))) (omega arith)

  pub place_within : (e : CExpr) (s : C0State) → Within 1 (nodes e) (place_of e s)
  place_within (var x) s = once 0 1 (at_no_cost (variable_location x.kind x.number)) (free (variable_location x.kind x.number)) (omega arith)
  place_within (field p e f) s = once (nodes e) (nodes e + 1) _ (part_of (nodes e) (place_of e s) _ (low (place_of e s) (nodes e) (place_within e s))) (omega arith)
  place_within (arrow p e f) s = once (nodes e) (nodes e + 1) _ (part_of (nodes e) (pointed (value_of e s)) _ (part_of (nodes e) (value_of e s) pointed_to (low (value_of e s) (nodes e) (value_within e s)))) (omega arith)
  place_within (index p e i) s = once (nodes e + nodes i) (nodes e + nodes i + 1) _ (elements s (nodes e) (nodes i) (place_of e s) (value_of i s) (low (place_of e s) (nodes e) (place_within e s)) (low (value_of i s) (nodes i) (value_within i s))) (omega arith)
  place_within (deref p e) s = once (nodes e) (nodes e + 1) _ (part_of (nodes e) (value_of e s) pointed_to (low (value_of e s) (nodes e) (value_within e s))) (omega arith)
  place_within (num p n) s = (omega arith, omega arith)
  place_within (true_ p) s = (omega arith, omega arith)
  place_within (false_ p) s = (omega arith, omega arith)
  place_within (null p) s = (omega arith, omega arith)
  place_within (address p e) s = (omega arith, omega arith)
  place_within (unary p op e) s = (omega arith, omega arith)
  place_within (binary p op a b) s = (omega arith, omega arith)

pub truth_within : (e : CExpr) (s : C0State) → Within 1 (nodes e) (truth (value_of e s))
truth_within e s = truly 1 (nodes e) (value_of e s) (value_within e s)

pub values_within : (es : List CExpr) (s : C0State) → Within 0 (args_nodes es) (values_of es s)
values_within [] s = (omega arith, omega arith)
values_within (e ∷ es) s = binds 0 (nodes e) (args_nodes es) (value_of e s) _ (low (value_of e s) (nodes e) (value_within e s)) (λ v. part_of (args_nodes es) (values_of es s) _ (values_within es s))
