-- No expression's code is long: a node owns at most 14 words.
use Rattle.std.proofs.Common.{ℕ, ◌+◌, ◌*◌, ◌/◌, ◌%◌, ◌^◌, ◌≤◌, Bool, true, false, cond, nat_eq, nat_lt, Option, Some, None, List, [], ◌∷◌, ◌++◌, length, arith, length-append}
use Rattle.mips_table.specs.declared.inst.Inst.{Inst}
use Rattle.mips_table.specs.declared.inst.Inst.TheVariants.{J, Bne, Beq, Addu, Subu, Lui, Ori, Lw, Addiu, Sltiu, Sltu, Slti, Xori, Mult, Mflo, Mfhi, Div as Divide}
use Rattle.c0_tree.specs.declared.tree.Kind.{Kind}
use Rattle.c0_tree.specs.declared.tree.Kind.TheVariants.{Unresolved, Struct, Field, Global, Local, Function, Primitive}
use Rattle.c0_tree.specs.declared.tree.UnaryOp.{UnaryOp}
use Rattle.c0_tree.specs.declared.tree.UnaryOp.TheVariants.{Negate, Not}
use Rattle.c0_tree.specs.declared.tree.BinaryOp.{BinaryOp}
use Rattle.c0_tree.specs.declared.tree.BinaryOp.TheVariants.{Add, Sub, Mul, Div, Rem, Lt, Le, Gt, Ge, Eq, Ne, And, Or}
use Rattle.c0_tree.specs.Tree.{CExpr, num, true_, false_, null, var, field, arrow, index, deref, address, unary, binary}
use Rattle.c0_tree.specs.Size.{nodes}
use Rattle.c0_meaning.specs.Operators.{Bounds}
use Rattle.c0_meaning.specs.TypeAt.{type_at}
use Rattle.c0_typed.specs.Typed.{typed_of_expr}
use Rattle.c0_expr_code.specs.declared.facts.Facts.{Facts}
use Rattle.c0_expr_code.specs.Facts.{is_sure_pointer, register_holding}
use Rattle.c0_expr_code.specs.Scope.{Scope}
use Rattle.c0_expr_code.specs.Code.{element_words, length_in, AddressingMode, Made, constant_code, is_near, low, high, access_code, or_code, operand_code, operand_register, no_address, at_place, constant, only_value, global_address, local_address, register_made, register_of_variable, variable_made, frame_made, null_test, right_facts, displaced, target_address, bound_code, shift_within, POWERS, scaled_code, scale_code, element_code, tested_address, element_address, to_code, two_code, one_code, logic_code, negated, negative_made, unary_made, operator_code, Immediate, when_near, equality_with, immediate, immediate_of, operator_made, sum_made, is_never_zero, divisor_code, division_made, binary_made, made}

cond_length : (b : Bool) (is js : List Inst) (n : ℕ) → length is ≤ n → length js ≤ n → length (cond b is js) ≤ n
cond_length true is js n h g = h
cond_length false is js n h g = g

-- the code of a node with so many nodes
pub record Short (m : Made) (k : ℕ) : Type 0 where
  pub value : (d r : ℕ) → length (m.value d r) ≤ 14 * k
  pub place : (r : ℕ) → length (m.place r).code + 3 ≤ 14 * k

constant_length : (d n : ℕ) → length (constant_code d n) ≤ 2
constant_length d n =
    cond_length (nat_lt n (2 ^ 16)) (Ori d 0 n ∷ []) _ 2 (omega arith)
    (cond_length (is_near n) (Addiu d 0 (low n) ∷ []) (Lui d (n / 2 ^ 16 % 2 ^ 16) ∷ Ori d d (low n) ∷ []) 2 (omega arith) (omega arith))

access_length : (i : ℕ → ℕ → Inst) (r : ℕ) (x : AddressingMode) → length (access_code i r x) ≤ length x.code + 3
access_length i r x =
    let a = length-append x.code (cond (is_near x.displacement) (i x.base (low x.displacement) ∷ []) (Lui 1 (high x.displacement) ∷ Addu r x.base 1 ∷ i r (low x.displacement) ∷ [])) in
    let b = cond_length (is_near x.displacement) (i x.base (low x.displacement) ∷ []) (Lui 1 (high x.displacement) ∷ Addu r x.base 1 ∷ i r (low x.displacement) ∷ []) 3 (omega arith) (omega arith) in
    omega (arith, a, b)

or_length : (o : Option ℕ) (is : List Inst) (n : ℕ) → length is ≤ n → length (or_code o is) ≤ n
or_length None is n h = h
or_length (Some q) is n h = omega arith

pub operand_length : (m : Made) (k r : ℕ) → Short m k → length (operand_code m r) ≤ 14 * k
operand_length m k r h = or_length m.stands (m.value r r) (14 * k) (h.value r r)

places : (place : ℕ → AddressingMode) (k : ℕ) → ((r : ℕ) → length (place r).code + 3 ≤ 14 * k) → Short (at_place place) k
places place k h = record { value = λ d r. let a = access_length (λ b x. Lw d b x) r (place r) in let g = h r in omega (arith, a, g); place = h }

values : (code : ℕ → ℕ → List Inst) (k : ℕ) → 1 ≤ k → ((d r : ℕ) → length (code d r) ≤ 14 * k) → Short (only_value code) k
values code k some h = record { value = h; place = λ r. omega (arith, some) }

constants : (n : ℕ) (literal : Option ℕ) → Short (constant n literal) 1
constants n literal = record { value = λ d r. let a = constant_length d n in omega (arith, a); place = λ r. omega arith }

operator_length : (o : BinaryOp) (d q t : ℕ) → length (operator_code o d q t) ≤ 2
operator_length Add d q t = omega arith
operator_length Sub d q t = omega arith
operator_length Lt d q t = omega arith
operator_length Gt d q t = omega arith
operator_length Le d q t = omega arith
operator_length Ge d q t = omega arith
operator_length Eq d q t = omega arith
operator_length Ne d q t = omega arith
operator_length Mul d q t = omega arith
operator_length Div d q t = omega arith
operator_length Rem d q t = omega arith
operator_length And d q t = omega arith
operator_length Or d q t = omega arith

-- the code of an immediate
abbrev Few : Immediate → Type 0
Few None = Unit {0}
Few (Some g) = (d q : ℕ) → length (g d q) ≤ 2

few_near : (k : ℕ) (g : ℕ → ℕ → List Inst) → ((d q : ℕ) → length (g d q) ≤ 2) → Few (when_near k g)
few_near k g h = by_test (is_near k)
  where
    by_test : (b : Bool) → Few (cond b (Some g) None)
    by_test true = h
    by_test false = tt

few_equal : (i : ℕ → ℕ → Inst) (k : ℕ) → Few (equality_with i k)
few_equal i k = by_tests (nat_eq k 0) (nat_lt k (2 ^ 16))
  where
    by_tests : (b c : Bool) → Few (cond b (Some (λ d q. i d q ∷ [])) (cond c (Some (λ d q. Xori d q k ∷ i d d ∷ [])) None))
    by_tests true c = λ d q. omega arith
    by_tests false true = λ d q. omega arith
    by_tests false false = tt

few : (o : BinaryOp) (k : ℕ) → Few (immediate o k)
few Add k = few_near k (λ d q. Addiu d q (low k) ∷ []) (λ d q. omega arith)
few Sub k = few_near (negated k) (λ d q. Addiu d q (low (negated k)) ∷ []) (λ d q. omega arith)
few Lt k = few_near k (λ d q. Slti d q (low k) ∷ []) (λ d q. omega arith)
few Le k = few_near ((k + 1) % 2 ^ 32) (λ d q. Slti d q (low ((k + 1) % 2 ^ 32)) ∷ []) (λ d q. omega arith)
few Ge k = few_near k (λ d q. Slti d q (low k) ∷ Xori d d 1 ∷ []) (λ d q. omega arith)
few Eq k = few_equal (λ d q. Sltiu d q 1) k
few Ne k = few_equal (λ d q. Sltu d 0 q) k
few Gt k = tt
few Mul k = tt
few Div k = tt
few Rem k = tt
few And k = tt
few Or k = tt

few_of : (o : BinaryOp) (k : Option ℕ) → Few (immediate_of o k)
few_of o None = tt
few_of o (Some k) = few o k

to_length : (d r : ℕ) → length (to_code d r) ≤ 1
to_length d r = cond_length (nat_eq d r) [] (Addu d r 0 ∷ []) 1 (omega arith) (omega arith)

variables : (sc : Scope) (fs : Facts) (k : Kind) (n : ℕ) → Short (variable_made sc fs k n) 1
variables sc fs Global n = places (λ r. global_address sc n) 1 (λ r. omega arith)
variables sc fs Local n = by_form sc.in_registers
  where
    by_register : (o : Option ℕ) → Short (frame_made o (λ r. local_address sc n)) 1
    by_register (Some q) = record { value = λ d r. let a = to_length d q in omega (arith, a); place = λ r. omega arith }
    by_register None = places (λ r. local_address sc n) 1 (λ r. omega arith)

    by_form : (b : Bool) → Short (cond b (register_made (register_of_variable n)) (frame_made (register_holding fs n) (λ r. local_address sc n))) 1
    by_form true = record { value = λ d r. omega arith; place = λ r. omega arith }
    by_form false = by_register (register_holding fs n)
variables sc fs Unresolved n = places no_address 1 (λ r. omega arith)
variables sc fs Struct n = places no_address 1 (λ r. omega arith)
variables sc fs Field n = places no_address 1 (λ r. omega arith)
variables sc fs Function n = places no_address 1 (λ r. omega arith)
variables sc fs Primitive n = places no_address 1 (λ r. omega arith)

scaled_length : (o : Option ℕ) (w q : ℕ) → length (scaled_code o w q) ≤ 4
scaled_length (Some by) w q = omega arith
scaled_length None w q =
    let a = constant_length 1 (4 * w % 2 ^ 32) in
    let b = length-append (constant_code 1 (4 * w % 2 ^ 32)) (Mult q 1 ∷ Mflo 1 ∷ []) in
    omega (arith, a, b)

module _ (sc : Scope) where
  null_length : (sure : Bool) (q : ℕ) → length (null_test sc.exit sure q) ≤ 2
  null_length true q = omega arith
  null_length false q = omega arith

  targets : (sure : Bool) (m : Made) (k : ℕ) → Short m k → (r : ℕ) → length (target_address sc sure m r).code + 3 ≤ 14 * (k + 1)
  targets sure m k h r =
      let a = operand_length m k r h in
      let b = length-append (operand_code m r) (null_test sc.exit sure (operand_register m r)) in
      let c = null_length sure (operand_register m r) in
      omega (arith, a, b, c)

  bound_length : (q n : ℕ) → length (bound_code q n) ≤ 3
  bound_length q n = cond_length (nat_lt n (2 ^ 15)) (Sltiu 1 q n ∷ []) (constant_code 1 n ++ (Sltu 1 q 1 ∷ [])) 3 (omega arith) (let a = constant_length 1 n in let b = length-append (constant_code 1 n) (Sltu 1 q 1 ∷ []) in omega (arith, a, b))

  element_length : (q b r w n : ℕ) → length (element_code sc q b r w n) ≤ 10
  element_length q b r w n =
      let a = bound_length q n in
      let d = length-append (bound_code q n) (Bne 1 0 1 ∷ J (sc.exit Bounds) ∷ (scale_code w q ++ (Addu r b 1 ∷ []))) in
      let e = length-append (scale_code w q) (Addu r b 1 ∷ []) in
      let g = scaled_length (shift_within POWERS w) w q in
      omega (arith, a, d, e, g)

  tested_length : (w n : ℕ) (x : AddressingMode) (m : Made) (j k r : ℕ) → length x.code + 3 ≤ 14 * j → Short m k
      → length (tested_address sc w n x m r).code + 3 ≤ 14 * (j + k + 1)
  tested_length w n x m j k r h g =
      let a = operand_length m k (r + 1) g in
      let b = element_length (operand_register m (r + 1)) x.base r w n in
      let c = length-append x.code (operand_code m (r + 1) ++ element_code sc (operand_register m (r + 1)) x.base r w n) in
      let d = length-append (operand_code m (r + 1)) (element_code sc (operand_register m (r + 1)) x.base r w n) in
      omega (arith, a, b, c, d, h)

  elements : (o : Option ℕ) (w n : ℕ) (x : AddressingMode) (m : Made) (j k r : ℕ) → length x.code + 3 ≤ 14 * j → Short m k
      → length (element_address sc w n o x m r).code + 3 ≤ 14 * (j + k + 1)
  elements None w n x m j k r h g = tested_length w n x m j k r h g
  elements (Some c) w n x m j k r h g = by_test (nat_lt c n)
    where
      by_test : (b : Bool) → length (cond b (displaced (4 * (c * w)) x) (tested_address sc w n x m r)).code + 3 ≤ 14 * (j + k + 1)
      by_test true = omega (arith, h)
      by_test false = tested_length w n x m j k r h g

  logic_length : (i : ℕ → Inst) (a b : Made) (j k d r : ℕ) → Short a j → Short b k → length (logic_code i a b d r) ≤ 14 * (j + k + 1)
  logic_length i a b j k d r h g =
      let x = h.value r r in
      let y = g.value r r in
      let t = to_length d r in
      let u = length-append (a.value r r) (i (length (b.value r r) % 2 ^ 16) ∷ (b.value r r ++ to_code d r)) in
      let v = length-append (b.value r r) (to_code d r) in
      omega (arith, x, y, t, u, v)

  two_length : (code : ℕ → ℕ → List Inst) (a b : Made) (j k r : ℕ) → ((q t : ℕ) → length (code q t) ≤ 4) → Short a j → Short b k
      → length (two_code code a b r) ≤ 14 * (j + k + 1)
  two_length code a b j k r few h g =
      let x = operand_length a j r h in
      let y = operand_length b k (r + 1) g in
      let t = few (operand_register a r) (operand_register b (r + 1)) in
      let u = length-append (operand_code a r) (operand_code b (r + 1) ++ code (operand_register a r) (operand_register b (r + 1))) in
      let v = length-append (operand_code b (r + 1)) (code (operand_register a r) (operand_register b (r + 1))) in
      omega (arith, x, y, t, u, v)

  one_length : (code : ℕ → List Inst) (m : Made) (k r : ℕ) → ((q : ℕ) → length (code q) ≤ 4) → Short m k → length (one_code code m r) ≤ 14 * k + 4
  one_length code m k r few h =
      let x = operand_length m k r h in
      let y = few (operand_register m r) in
      let z = length-append (operand_code m r) (code (operand_register m r)) in
      omega (arith, x, y, z)

  operators : (im : Immediate) (o : BinaryOp) (a b : Made) (j k : ℕ) → Few im → Short a j → Short b k → Short (operator_made im o a b) (j + k + 1)
  operators (Some g) o a b j k short h x = values (λ d r. one_code (λ q. g d q) a r) (j + k + 1) (omega arith) (λ d r. let y = one_length (λ q. g d q) a j r (λ q. let z = short d q in omega (arith, z)) h in omega (arith, y))
  operators None o a b j k short h x = values (λ d r. two_code (λ q t. operator_code o d q t) a b r) (j + k + 1) (omega arith) (λ d r. two_length (λ q t. operator_code o d q t) a b j k r (λ q t. let z = operator_length o d q t in omega (arith, z)) h x)

  sums : (right left : Immediate) (a b : Made) (j k : ℕ) → Few right → Few left → Short a j → Short b k → Short (sum_made right left a b) (j + k + 1)
  sums (Some g) i a b j k right left h x = values (λ d r. one_code (λ q. g d q) a r) (j + k + 1) (omega arith) (λ d r. let y = one_length (λ q. g d q) a j r (λ q. let z = right d q in omega (arith, z)) h in omega (arith, y))
  sums None (Some i) a b j k right left h x = values (λ d r. one_code (λ q. i d q) b r) (j + k + 1) (omega arith) (λ d r. let y = one_length (λ q. i d q) b k r (λ q. let z = left d q in omega (arith, z)) x in omega (arith, y))
  sums None None a b j k right left h x = values (λ d r. two_code (λ q t. Addu d q t ∷ []) a b r) (j + k + 1) (omega arith) (λ d r. two_length (λ q t. Addu d q t ∷ []) a b j k r (λ q t. omega arith) h x)

  divisor_length : (untested : Bool) (t : ℕ) → length (divisor_code sc untested t) ≤ 2
  divisor_length true t = omega arith
  divisor_length false t = omega arith

  divisions : (takes : ℕ → Inst) (a b : Made) (j k : ℕ) → Short a j → Short b k → Short (division_made sc takes a b) (j + k + 1)
  divisions takes a b j k h x = values (λ d r. two_code (λ q t. divisor_code sc (is_never_zero b.known) t ++ (Divide q t ∷ takes d ∷ [])) a b r) (j + k + 1) (omega arith)
      (λ d r. two_length (λ q t. divisor_code sc (is_never_zero b.known) t ++ (Divide q t ∷ takes d ∷ [])) a b j k r (λ q t. let y = divisor_length (is_never_zero b.known) t in let z = length-append (divisor_code sc (is_never_zero b.known) t) (Divide q t ∷ takes d ∷ []) in omega (arith, y, z)) h x)

  binaries : (o : BinaryOp) (a b : Made) (j k : ℕ) → Short a j → Short b k → Short (binary_made sc o a b) (j + k + 1)
  binaries And a b j k h g = values (λ d r. logic_code (λ z. Beq r 0 z) a b d r) (j + k + 1) (omega arith) (λ d r. logic_length (λ z. Beq r 0 z) a b j k d r h g)
  binaries Or a b j k h g = values (λ d r. logic_code (λ z. Bne r 0 z) a b d r) (j + k + 1) (omega arith) (λ d r. logic_length (λ z. Bne r 0 z) a b j k d r h g)
  binaries Add a b j k h g = sums (immediate_of Add b.known) (immediate_of Add a.known) a b j k (few_of Add b.known) (few_of Add a.known) h g
  binaries Sub a b j k h g = operators (immediate_of Sub b.known) Sub a b j k (few_of Sub b.known) h g
  binaries Mul a b j k h g = operators None Mul a b j k tt h g
  binaries Div a b j k h g = divisions (λ d. Mflo d) a b j k h g
  binaries Rem a b j k h g = divisions (λ d. Mfhi d) a b j k h g
  binaries Lt a b j k h g = operators (immediate_of Lt b.known) Lt a b j k (few_of Lt b.known) h g
  binaries Le a b j k h g = operators (immediate_of Le b.known) Le a b j k (few_of Le b.known) h g
  binaries Gt a b j k h g = operators None Gt a b j k tt h g
  binaries Ge a b j k h g = operators (immediate_of Ge b.known) Ge a b j k (few_of Ge b.known) h g
  binaries Eq a b j k h g = operators (immediate_of Eq b.known) Eq a b j k (few_of Eq b.known) h g
  binaries Ne a b j k h g = operators (immediate_of Ne b.known) Ne a b j k (few_of Ne b.known) h g

  negatives : (o : Option ℕ) (m : Made) (k : ℕ) → Short m k → Short (negative_made o m) (k + 1)
  negatives (Some n) m k h = let c = constants (negated n) None in record { value = λ d r. let x = c.value d r in omega (arith, x); place = λ r. omega arith }
  negatives None m k h = values (λ d r. one_code (λ q. Subu d 0 q ∷ []) m r) (k + 1) (omega arith) (λ d r. let y = one_length (λ q. Subu d 0 q ∷ []) m k r (λ q. omega arith) h in omega (arith, y))

  unaries : (o : UnaryOp) (m : Made) (k : ℕ) → Short m k → Short (unary_made o m) (k + 1)
  unaries Negate m k h = negatives m.literal m k h
  unaries Not m k h = values (λ d r. one_code (λ q. Xori d q 1 ∷ []) m r) (k + 1) (omega arith) (λ d r. let y = one_length (λ q. Xori d q 1 ∷ []) m k r (λ q. omega arith) h in omega (arith, y))

  pub short : (fs : Facts) (e : CExpr) → Short (made sc fs e) (nodes e)
  short fs (num p n) = constants n (Some n)
  short fs (true_ p) = constants 1 None
  short fs (false_ p) = constants 0 None
  short fs (null p) = constants 0 None
  short fs (var x) = variables sc fs x.kind x.number
  short fs (field p e g) = places _ (nodes e + 1) (λ r. let h = (short fs e).place r in omega (arith, h))
  short fs (arrow p e g) = places _ (nodes e + 1) (λ r. targets (is_sure_pointer fs (typed_of_expr sc.env e)) (made sc fs e) (nodes e) (short fs e) r)
  short fs (index p e i) = places _ (nodes e + nodes i + 1) (λ r. elements (made sc fs i).literal (element_words sc.env.structs (type_at sc.env e)) (length_in (type_at sc.env e)) ((made sc fs e).place r) (made sc fs i) (nodes e) (nodes i) r ((short fs e).place r) (short fs i))
  short fs (deref p e) = places _ (nodes e + 1) (λ r. targets (is_sure_pointer fs (typed_of_expr sc.env e)) (made sc fs e) (nodes e) (short fs e) r)
  short fs (address p e) = values _ (nodes e + 1) (omega arith) (λ d r. let h = (short fs e).place r in let a = access_length (λ b k. Addiu d b k) r ((made sc fs e).place r) in omega (arith, h, a))
  short fs (unary p o e) = unaries o (made sc fs e) (nodes e) (short fs e)
  short fs (binary p o a b) = binaries o (made sc fs a) (made sc (right_facts o (typed_of_expr sc.env a) fs) b) (nodes a) (nodes b) (short fs a) (short (right_facts o (typed_of_expr sc.env a) fs) b)
