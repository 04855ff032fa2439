-- No test's code is long: a node owns at most 15 words.
use Rattle.std.proofs.Common.{ℕ, ◌+◌, ◌*◌, ◌%◌, ◌^◌, ◌≤◌, Bool, true, false, not, cond, nat_eq, Option, Some, None, List, [], ◌∷◌, ◌++◌, length, arith, length-append}
use Rattle.mips_table.specs.declared.inst.Inst.{Inst}
use Rattle.c0_tree.specs.declared.tree.UnaryOp.TheVariants.{Negate, Not}
use Rattle.c0_tree.specs.declared.tree.BinaryOp.{BinaryOp}
use Rattle.c0_tree.specs.declared.tree.BinaryOp.TheVariants.{Add, Sub, Mul, Div, Rem, Lt, Le, Gt, Ge, Eq, Ne, And, Or}
use Rattle.c0_tree.specs.Tree.{CExpr, field, arrow, index, deref, address, unary, binary}
use Rattle.c0_tree.specs.Size.{nodes}
use Rattle.c0_typed.specs.Typed.{typed_of_expr}
use Rattle.c0_expr_code.specs.declared.facts.Facts.{Facts}
use Rattle.c0_expr_code.specs.Scope.{Scope}
use Rattle.c0_expr_code.specs.Code.{is_near, Made, operand_code, operand_register, two_code, made, right_facts}
use Rattle.c0_expr_code.specs.Test.{branch_code, compare_code, ImmediateTest, immediate_test, immediate_test_of, Testing, compare_test, both_code, binary_test, plain_test, test_code}
use Rattle.c0_expr_code.proofs.ShortExpressions.{Short, operand_length, short}

module _ (sc : Scope) where
  -- lengths
  abbrev FewTests : ImmediateTest → Type 0
  FewTests None = Unit {0}
  FewTests (Some g) = (b : Bool) (far q : ℕ) → length (g b far q) ≤ 2

  few_test : (z d : Bool) (c g : Bool → ℕ → ℕ → List Inst) → ((b : Bool) (far q : ℕ) → length (c b far q) ≤ 2)
      → ((b : Bool) (far q : ℕ) → length (g b far q) ≤ 2) → FewTests (cond z (Some c) (cond d (Some g) None))
  few_test true d c g h i = h
  few_test false true c g h i = i
  few_test false false c g h i = tt

  few_at : (o : BinaryOp) (k : ℕ) → FewTests (immediate_test o k)
  few_at Lt k = few_test (nat_eq k 0) (is_near k) _ _ (λ b far q. omega arith) (λ b far q. omega arith)
  few_at Ge k = few_test (nat_eq k 0) (is_near k) _ _ (λ b far q. omega arith) (λ b far q. omega arith)
  few_at Gt k = few_test (nat_eq k 0) (is_near ((k + 1) % 2 ^ 32)) _ _ (λ b far q. omega arith) (λ b far q. omega arith)
  few_at Le k = few_test (nat_eq k 0) (is_near ((k + 1) % 2 ^ 32)) _ _ (λ b far q. omega arith) (λ b far q. omega arith)
  few_at Eq k = tt
  few_at Ne k = tt
  few_at Add k = tt
  few_at Sub k = tt
  few_at Mul k = tt
  few_at Div k = tt
  few_at Rem k = tt
  few_at And k = tt
  few_at Or k = tt

  few_tests : (o : BinaryOp) (k : Option ℕ) → FewTests (immediate_test_of o k)
  few_tests o None = tt
  few_tests o (Some k) = few_at o k

  compare_length : (o : BinaryOp) (b : Bool) (far q g : ℕ) → length (compare_code o b far q g) ≤ 2
  compare_length Eq b far q g = omega arith
  compare_length Ne b far q g = omega arith
  compare_length Lt b far q g = omega arith
  compare_length Gt b far q g = omega arith
  compare_length Le b far q g = omega arith
  compare_length Ge b far q g = omega arith
  compare_length Add b far q g = omega arith
  compare_length Sub b far q g = omega arith
  compare_length Mul b far q g = omega arith
  compare_length Div b far q g = omega arith
  compare_length Rem b far q g = omega arith
  compare_length And b far q g = omega arith
  compare_length Or b far q g = omega arith

  plain_length : (m : Made) (k : ℕ) → Short m k → (b : Bool) (far r : ℕ) → length (plain_test m b far r) ≤ 14 * k + 1
  plain_length m k h b far r =
      let x = operand_length m k r h in
      let y = length-append (operand_code m r) (branch_code (not b) (operand_register m r) 0 far ∷ []) in
      omega (arith, x, y)

  pub both_length : (decides b : Bool) (one two : Testing) (j k far r : ℕ) → ((b : Bool) (far r : ℕ) → length (one b far r) ≤ 15 * j)
      → ((b : Bool) (far r : ℕ) → length (two b far r) ≤ 15 * k) → length (both_code decides b one two far r) ≤ 15 * (j + k + 1)
  both_length true true one two j k far r h g = let a = h true ((far + length (two true far r)) % 2 ^ 16) r in let c = g true far r in let d = length-append (one true ((far + length (two true far r)) % 2 ^ 16) r) (two true far r) in omega (arith, a, c, d)
  both_length true false one two j k far r h g = let a = h true (length (two false far r) % 2 ^ 16) r in let c = g false far r in let d = length-append (one true (length (two false far r) % 2 ^ 16) r) (two false far r) in omega (arith, a, c, d)
  both_length false true one two j k far r h g = let a = h false (length (two true far r) % 2 ^ 16) r in let c = g true far r in let d = length-append (one false (length (two true far r) % 2 ^ 16) r) (two true far r) in omega (arith, a, c, d)
  both_length false false one two j k far r h g = let a = h false ((far + length (two false far r)) % 2 ^ 16) r in let c = g false far r in let d = length-append (one false ((far + length (two false far r)) % 2 ^ 16) r) (two false far r) in omega (arith, a, c, d)

  compared_length : (o : BinaryOp) (ma mb : Made) (j k : ℕ) → Short ma j → Short mb k → (b : Bool) (far r : ℕ)
      → length (two_code (λ q t. compare_code o b far q t) ma mb r) ≤ 15 * (j + k + 1)
  compared_length o ma mb j k h g b far r =
      let x = operand_length ma j r h in
      let y = operand_length mb k (r + 1) g in
      let t = compare_length o b far (operand_register ma r) (operand_register mb (r + 1)) in
      let u = length-append (operand_code ma r) (operand_code mb (r + 1) ++ compare_code o b far (operand_register ma r) (operand_register mb (r + 1))) in
      let v = length-append (operand_code mb (r + 1)) (compare_code o b far (operand_register ma r) (operand_register mb (r + 1))) in
      omega (arith, x, y, t, u, v)

  with_length : (im : ImmediateTest) (o : BinaryOp) (ma mb : Made) (j k : ℕ) → FewTests im → Short ma j → Short mb k → (b : Bool) (far r : ℕ)
      → length (compare_test im o ma mb b far r) ≤ 15 * (j + k + 1)
  with_length (Some g) o ma mb j k few h i b far r =
      let x = operand_length ma j r h in
      let y = few b far (operand_register ma r) in
      let z = length-append (operand_code ma r) (g b far (operand_register ma r)) in
      omega (arith, x, y, z)
  with_length None o ma mb j k few h i b far r = compared_length o ma mb j k h i b far r

  binary_length : (o : BinaryOp) (m ma mb : Made) (one two : Testing) (j k : ℕ) → Short m (j + k + 1) → Short ma j → Short mb k
      → ((b : Bool) (far r : ℕ) → length (one b far r) ≤ 15 * j) → ((b : Bool) (far r : ℕ) → length (two b far r) ≤ 15 * k) → (b : Bool) (far r : ℕ)
      → length (binary_test o m ma mb one two b far r) ≤ 15 * (j + k + 1)
  binary_length And m ma mb one two j k s sa sb h g b far r = both_length false b one two j k far r h g
  binary_length Or m ma mb one two j k s sa sb h g b far r = both_length true b one two j k far r h g
  binary_length Lt m ma mb one two j k s sa sb h g b far r = with_length (immediate_test_of Lt mb.known) Lt ma mb j k (few_tests Lt mb.known) sa sb b far r
  binary_length Le m ma mb one two j k s sa sb h g b far r = with_length (immediate_test_of Le mb.known) Le ma mb j k (few_tests Le mb.known) sa sb b far r
  binary_length Gt m ma mb one two j k s sa sb h g b far r = with_length (immediate_test_of Gt mb.known) Gt ma mb j k (few_tests Gt mb.known) sa sb b far r
  binary_length Ge m ma mb one two j k s sa sb h g b far r = with_length (immediate_test_of Ge mb.known) Ge ma mb j k (few_tests Ge mb.known) sa sb b far r
  binary_length Eq m ma mb one two j k s sa sb h g b far r = compared_length Eq ma mb j k sa sb b far r
  binary_length Ne m ma mb one two j k s sa sb h g b far r = compared_length Ne ma mb j k sa sb b far r
  binary_length Add m ma mb one two j k s sa sb h g b far r = let a = plain_length m (j + k + 1) s b far r in omega (arith, a)
  binary_length Sub m ma mb one two j k s sa sb h g b far r = let a = plain_length m (j + k + 1) s b far r in omega (arith, a)
  binary_length Mul m ma mb one two j k s sa sb h g b far r = let a = plain_length m (j + k + 1) s b far r in omega (arith, a)
  binary_length Div m ma mb one two j k s sa sb h g b far r = let a = plain_length m (j + k + 1) s b far r in omega (arith, a)
  binary_length Rem m ma mb one two j k s sa sb h g b far r = let a = plain_length m (j + k + 1) s b far r in omega (arith, a)

  nodes_some : (e : CExpr) → 1 ≤ nodes e
  nodes_some (field p e f) = omega arith
  nodes_some (arrow p e f) = omega arith
  nodes_some (index p e i) = omega arith
  nodes_some (deref p e) = omega arith
  nodes_some (address p e) = omega arith
  nodes_some (unary p o e) = omega arith
  nodes_some (binary p o a b) = omega arith
  nodes_some _ = omega arith

  leaf_length : (fs : Facts) (e : CExpr) (b : Bool) (far r : ℕ) → length (plain_test (made sc fs e) b far r) ≤ 15 * nodes e
  leaf_length fs e b far r = let a = plain_length (made sc fs e) (nodes e) (short sc fs e) b far r in let n = nodes_some e in omega (arith, a, n)

  pub test_length : (fs : Facts) (e : CExpr) (b : Bool) (far r : ℕ) → length (test_code sc fs e b far r) ≤ 15 * nodes e
  test_length fs (unary span Not e) b far r = let a = test_length fs e (not b) far r in omega (arith, a)
  test_length fs (unary span Negate e) b far r = leaf_length fs (unary span Negate e) b far r
  test_length fs (binary span o a c) b far r = binary_length o (made sc fs (binary span o a c)) (made sc fs a) (made sc (right_facts o (typed_of_expr sc.env a) fs) c) (test_code sc fs a) (test_code sc (right_facts o (typed_of_expr sc.env a) fs) c) (nodes a) (nodes c) (short sc fs (binary span o a c)) (short sc fs a) (short sc (right_facts o (typed_of_expr sc.env a) fs) c) (λ b far r. test_length fs a b far r) (λ b far r. test_length (right_facts o (typed_of_expr sc.env a) fs) c b far r) b far r
  test_length fs e b far r = leaf_length fs e b far r
