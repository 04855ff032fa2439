-- The code of values and of tests is never empty, and a test's is as long for every distance.
use Rattle.std.proofs.Common.{◌≡◌, ℕ, ◌+◌, ◌%◌, ◌^◌, ◌≤◌, Bool, true, false, not, cond, nat_eq, nat_lt, Option, Some, None, List, [], ◌∷◌, ◌++◌, length, refl, sym, ap, ◌∙◌, arith, length-append, ◌≢◌, ◌⊎◌, inl, inr, ne_eqb}
use Rattle.std.proofs.lemmas.Bool.{cond-false}
use Rattle.c0_expr_code.proofs.FactRegisters.{param_below}
use Rattle.mips_table.specs.declared.inst.Inst.{Inst}
use Rattle.mips_table.specs.declared.inst.Inst.TheVariants.{Addu, Addiu, Subu, Lw, Xori, Sltiu, Sltu, Mflo, Mfhi, Div as Divide}
use Rattle.c0_tree.specs.declared.tree.Kind.{Kind}
use Rattle.c0_tree.specs.declared.tree.Kind.TheVariants.{Unresolved, Struct, Field, Global, Local, Function, Primitive}
use Rattle.c0_tree.specs.declared.tree.UnaryOp.{UnaryOp}
use Rattle.c0_tree.specs.declared.tree.UnaryOp.TheVariants.{Negate, Not}
use Rattle.c0_tree.specs.declared.tree.BinaryOp.{BinaryOp}
use Rattle.c0_tree.specs.declared.tree.BinaryOp.TheVariants.{Add, Sub, Mul, Div, Rem, Lt, Le, Gt, Ge, Eq, Ne, And, Or}
use Rattle.c0_tree.specs.Tree.{CExpr, num, true_, false_, null, var, field, arrow, index, deref, address, unary, binary}
use Rattle.c0_typed.specs.Typed.{typed_of_expr}
use Rattle.c0_expr_code.specs.declared.facts.Facts.{Facts}
use Rattle.c0_expr_code.specs.Facts.{holds_answer, holds_param, register_holding, IsFreeRegister}
use Rattle.c0_expr_code.specs.Scope.{Scope}
use Rattle.c0_expr_code.specs.Code.{is_near, negated, AddressingMode, Made, constant_code, access_code, operand_code, operand_register, no_address, global_address, register_made, register_of_variable, local_address, variable_made, frame_made, frame_value, to_code, right_facts, one_code, two_code, operator_code, Immediate, when_near, equality_with, immediate, immediate_of, operator_made, sum_made, is_never_zero, divisor_code, division_made, binary_made, negative_made, unary_made, made}
use Rattle.c0_expr_code.specs.Test.{branch_code, compare_code, ImmediateTest, immediate_test, immediate_test_of, Testing, compare_test, both_code, binary_test, plain_test, test_code}

-- two codes of lengths
behind : (is js : List Inst) → 1 ≤ length js → 1 ≤ length (is ++ js)
behind is js h = let a = length-append is js in omega (arith, a, h)

cond_some : (b : Bool) (is js : List Inst) → 1 ≤ length is → 1 ≤ length js → 1 ≤ length (cond b is js)
cond_some true is js h g = h
cond_some false is js h g = g

constant_some : (d n : ℕ) → 1 ≤ length (constant_code d n)
constant_some d n = cond_some (nat_lt n (2 ^ 16)) _ _ (omega arith) (cond_some (is_near n) _ _ (omega arith) (omega arith))

access_some : (i : ℕ → ℕ → Inst) (r : ℕ) (x : AddressingMode) → 1 ≤ length (access_code i r x)
access_some i r x = behind x.code _ (cond_some (is_near x.displacement) _ _ (omega arith) (omega arith))

-- a value's code has a word
abbrev Filled : Made → Type 0
Filled m = (d r : ℕ) → 1 ≤ length (m.value d r)

-- where variables stand in registers, or the value goes to none that has a variable's word
abbrev pub GoesFree : Scope → Facts → ℕ → Type 0
GoesFree sc fs d = (sc.in_registers ≡ true) ⊎ IsFreeRegister fs d

to_some : (d q : ℕ) → d ≢ q → 1 ≤ length (to_code d q)
to_some d q ne = let e = cond-false (nat_eq d q) [] (Addu d q 0 ∷ []) (ne_eqb d q ne) in let l = ap length e in omega (arith, l)

-- a variable in the frame, whose register is no other than that to which it goes
framed : (fs : Facts) (x : AddressingMode) (n d r : ℕ) → IsFreeRegister fs d → 1 ≤ length (frame_value (register_holding fs n) x d r)
framed fs x n d r free = by_answer (holds_answer fs.answer n) refl (holds_param fs n) refl
  where
    by_answer : (a : Bool) → holds_answer fs.answer n ≡ a → (b : Bool) → holds_param fs n ≡ b
        → 1 ≤ length (frame_value (cond a (Some 2) (cond b (Some (register_of_variable n)) None)) x d r)
    by_answer true ha b hb = to_some d 2 (free.answer n ha)
    by_answer false ha true hb =
        let few = param_below fs n hb in
        let e : 20 + n ≡ register_of_variable n = omega (arith, few) in
        to_some d (register_of_variable n) (λ z. free.params n hb (z ∙ sym e))
    by_answer false ha false hb = access_some (λ b k. Lw d b k) r x

variables : (sc : Scope) (fs : Facts) (k : Kind) (n d r : ℕ) → GoesFree sc fs d → 1 ≤ length ((variable_made sc fs k n).value d r)
variables sc fs Global n d r free = access_some (λ b k. Lw d b k) r (global_address sc n)
variables sc fs Local n d r free = by_form sc.in_registers refl free
  where
    by_form : (b : Bool) → sc.in_registers ≡ b → GoesFree sc fs d
        → 1 ≤ length ((cond b (register_made (register_of_variable n)) (frame_made (register_holding fs n) (λ r. local_address sc n))).value d r)
    by_form true e free = omega arith
    by_form false e (inl q) = absurd (cc)
    by_form false e (inr free) = framed fs (local_address sc n) n d r free
variables sc fs Unresolved n d r free = access_some (λ b k. Lw d b k) r (no_address r)
variables sc fs Struct n d r free = access_some (λ b k. Lw d b k) r (no_address r)
variables sc fs Field n d r free = access_some (λ b k. Lw d b k) r (no_address r)
variables sc fs Function n d r free = access_some (λ b k. Lw d b k) r (no_address r)
variables sc fs Primitive n d r free = access_some (λ b k. Lw d b k) r (no_address r)

one_some : (g : ℕ → List Inst) (m : Made) (r : ℕ) → ((q : ℕ) → 1 ≤ length (g q)) → 1 ≤ length (one_code g m r)
one_some g m r h = behind (operand_code m r) (g (operand_register m r)) (h (operand_register m r))

two_some : (g : ℕ → ℕ → List Inst) (a b : Made) (r : ℕ) → ((q t : ℕ) → 1 ≤ length (g q t)) → 1 ≤ length (two_code g a b r)
two_some g a b r h = behind (operand_code a r) _ (behind (operand_code b (r + 1)) (g (operand_register a r) (operand_register b (r + 1))) (h (operand_register a r) (operand_register b (r + 1))))

abbrev Some_ : Immediate → Type 0
Some_ None = Unit {0}
Some_ (Some g) = (d q : ℕ) → 1 ≤ length (g d q)

near_some : (k : ℕ) (g : ℕ → ℕ → List Inst) → ((d q : ℕ) → 1 ≤ length (g d q)) → Some_ (when_near k g)
near_some k g h = by_test (is_near k)
  where
    by_test : (b : Bool) → Some_ (cond b (Some g) None)
    by_test true = h
    by_test false = tt

equal_some : (i : ℕ → ℕ → Inst) (k : ℕ) → Some_ (equality_with i k)
equal_some i k = by_tests (nat_eq k 0) (nat_lt k (2 ^ 16))
  where
    by_tests : (b c : Bool) → Some_ (cond b (Some (λ d q. i d q ∷ [])) (cond c (Some (λ d q. Xori d q k ∷ i d d ∷ [])) None))
    by_tests true c = λ d q. omega arith
    by_tests false true = λ d q. omega arith
    by_tests false false = tt

some_at : (o : BinaryOp) (k : ℕ) → Some_ (immediate o k)
some_at Add k = near_some k _ (λ d q. omega arith)
some_at Sub k = near_some (negated k) _ (λ d q. omega arith)
some_at Lt k = near_some k _ (λ d q. omega arith)
some_at Le k = near_some ((k + 1) % 2 ^ 32) _ (λ d q. omega arith)
some_at Ge k = near_some k _ (λ d q. omega arith)
some_at Eq k = equal_some (λ d q. Sltiu d q 1) k
some_at Ne k = equal_some (λ d q. Sltu d 0 q) k
some_at Gt k = tt
some_at Mul k = tt
some_at Div k = tt
some_at Rem k = tt
some_at And k = tt
some_at Or k = tt

some_of : (o : BinaryOp) (k : Option ℕ) → Some_ (immediate_of o k)
some_of o None = tt
some_of o (Some k) = some_at o k

operators : (im : Immediate) (o : BinaryOp) (a b : Made) → Some_ im → ((d q t : ℕ) → 1 ≤ length (operator_code o d q t))
    → Filled (operator_made im o a b)
operators (Some g) o a b h i d r = one_some (λ q. g d q) a r (λ q. h d q)
operators None o a b h i d r = two_some (λ q t. operator_code o d q t) a b r (λ q t. i d q t)

sums : (i j : Immediate) (a b : Made) → Some_ i → Some_ j → Filled (sum_made i j a b)
sums (Some g) j a b h k d r = one_some (λ q. g d q) a r (λ q. h d q)
sums None (Some g) a b h k d r = one_some (λ q. g d q) b r (λ q. k d q)
sums None None a b h k d r = two_some (λ q t. Addu d q t ∷ []) a b r (λ q t. omega arith)

module _ (sc : Scope) where
  divisions : (takes : ℕ → Inst) (a b : Made) → Filled (division_made sc takes a b)
  divisions takes a b d r = two_some (λ q t. divisor_code sc (is_never_zero b.known) t ++ (Divide q t ∷ takes d ∷ [])) a b r (λ q t. behind (divisor_code sc (is_never_zero b.known) t) _ (omega arith))

  binaries : (o : BinaryOp) (a b : Made) → Filled (binary_made sc o a b)
  binaries And a b d r = behind (a.value r r) _ (omega arith)
  binaries Or a b d r = behind (a.value r r) _ (omega arith)
  binaries Add a b d r = sums (immediate_of Add b.known) (immediate_of Add a.known) a b (some_of Add b.known) (some_of Add a.known) d r
  binaries Sub a b d r = operators (immediate_of Sub b.known) Sub a b (some_of Sub b.known) (λ d q t. omega arith) d r
  binaries Mul a b d r = operators None Mul a b tt (λ d q t. omega arith) d r
  binaries Div a b d r = divisions (λ d. Mflo d) a b d r
  binaries Rem a b d r = divisions (λ d. Mfhi d) a b d r
  binaries Lt a b d r = operators (immediate_of Lt b.known) Lt a b (some_of Lt b.known) (λ d q t. omega arith) d r
  binaries Le a b d r = operators (immediate_of Le b.known) Le a b (some_of Le b.known) (λ d q t. omega arith) d r
  binaries Gt a b d r = operators None Gt a b tt (λ d q t. omega arith) d r
  binaries Ge a b d r = operators (immediate_of Ge b.known) Ge a b (some_of Ge b.known) (λ d q t. omega arith) d r
  binaries Eq a b d r = operators (immediate_of Eq b.known) Eq a b (some_of Eq b.known) (λ d q t. omega arith) d r
  binaries Ne a b d r = operators (immediate_of Ne b.known) Ne a b (some_of Ne b.known) (λ d q t. omega arith) d r

  negatives : (o : Option ℕ) (m : Made) → Filled (negative_made o m)
  negatives (Some n) m d r = constant_some d (negated n)
  negatives None m d r = one_some (λ q. Subu d 0 q ∷ []) m r (λ q. omega arith)

  unaries : (o : UnaryOp) (m : Made) → Filled (unary_made o m)
  unaries Negate m d r = negatives m.literal m d r
  unaries Not m d r = one_some (λ q. Xori d q 1 ∷ []) m r (λ q. omega arith)

  pub value_some : (fs : Facts) (e : CExpr) (d r : ℕ) → GoesFree sc fs d → 1 ≤ length ((made sc fs e).value d r)
  value_some fs (num p n) d r free = constant_some d n
  value_some fs (true_ p) d r free = constant_some d 1
  value_some fs (false_ p) d r free = constant_some d 0
  value_some fs (null p) d r free = constant_some d 0
  value_some fs (var x) d r free = variables sc fs x.kind x.number d r free
  value_some fs (field p e f) d r free = access_some (λ b k. Lw d b k) r ((made sc fs (field p e f)).place r)
  value_some fs (arrow p e f) d r free = access_some (λ b k. Lw d b k) r ((made sc fs (arrow p e f)).place r)
  value_some fs (index p e i) d r free = access_some (λ b k. Lw d b k) r ((made sc fs (index p e i)).place r)
  value_some fs (deref p e) d r free = access_some (λ b k. Lw d b k) r ((made sc fs (deref p e)).place r)
  value_some fs (address p e) d r free = access_some (λ b k. Addiu d b k) r ((made sc fs e).place r)
  value_some fs (unary p o e) d r free = unaries o (made sc fs e) d r
  value_some fs (binary p o a b) d r free = binaries o (made sc fs a) (made sc (right_facts o (typed_of_expr sc.env a) fs) b) d r

  -- tests
  plain_some : (m : Made) (s : Bool) (far r : ℕ) → 1 ≤ length (plain_test m s far r)
  plain_some m s far r = one_some (λ q. branch_code (not s) q 0 far ∷ []) m r (λ q. omega arith)

  one_same : (f g : ℕ → List Inst) (m : Made) (r : ℕ) → ((q : ℕ) → length (f q) ≡ length (g q)) → length (one_code f m r) ≡ length (one_code g m r)
  one_same f g m r h =
      let a = length-append (operand_code m r) (f (operand_register m r)) in
      let b = length-append (operand_code m r) (g (operand_register m r)) in
      let c = h (operand_register m r) in
      omega (arith, a, b, c)

  two_same : (f g : ℕ → ℕ → List Inst) (x y : Made) (r : ℕ) → ((q t : ℕ) → length (f q t) ≡ length (g q t))
      → length (two_code f x y r) ≡ length (two_code g x y r)
  two_same f g x y r h =
      let a = length-append (operand_code x r) (operand_code y (r + 1) ++ f (operand_register x r) (operand_register y (r + 1))) in
      let b = length-append (operand_code y (r + 1)) (f (operand_register x r) (operand_register y (r + 1))) in
      let c = length-append (operand_code x r) (operand_code y (r + 1) ++ g (operand_register x r) (operand_register y (r + 1))) in
      let d = length-append (operand_code y (r + 1)) (g (operand_register x r) (operand_register y (r + 1))) in
      let e = h (operand_register x r) (operand_register y (r + 1)) in
      omega (arith, a, b, c, d, e)

  -- a test's code: some words, and as many for each distance
  record Steady (code : Testing) : Type 0 where
    some : (s : Bool) (far r : ℕ) → 1 ≤ length (code s far r)
    same : (s : Bool) (far far' r : ℕ) → length (code s far r) ≡ length (code s far' r)

  plain_steady : (m : Made) → Steady (plain_test m)
  plain_steady m = record { some = plain_some m; same = λ s far far' r. one_same (λ q. branch_code (not s) q 0 far ∷ []) (λ q. branch_code (not s) q 0 far' ∷ []) m r (λ q. refl) }

  abbrev SteadyTest : ImmediateTest → Type 0
  SteadyTest None = Unit {0}
  SteadyTest (Some g) = ((s : Bool) (far q : ℕ) → 1 ≤ length (g s far q)) × ((s : Bool) (far far' q : ℕ) → length (g s far q) ≡ length (g s far' q))

  by_tests : (b c : Bool) (f g : Bool → ℕ → ℕ → List Inst) → ((s : Bool) (far q : ℕ) → length (f s far q) ≡ 1)
      → ((s : Bool) (far q : ℕ) → length (g s far q) ≡ 2) → SteadyTest (cond b (Some f) (cond c (Some g) None))
  by_tests true c f g h i = ((λ s far q. let a = h s far q in omega (arith, a)), λ s far far' q. h s far q ∙ sym (h s far' q))
  by_tests false true f g h i = ((λ s far q. let a = i s far q in omega (arith, a)), λ s far far' q. i s far q ∙ sym (i s far' q))
  by_tests false false f g h i = tt

  steady_at : (o : BinaryOp) (k : ℕ) → SteadyTest (immediate_test o k)
  steady_at Lt k = by_tests (nat_eq k 0) (is_near k) _ _ (λ s far q. refl) (λ s far q. refl)
  steady_at Ge k = by_tests (nat_eq k 0) (is_near k) _ _ (λ s far q. refl) (λ s far q. refl)
  steady_at Gt k = by_tests (nat_eq k 0) (is_near ((k + 1) % 2 ^ 32)) _ _ (λ s far q. refl) (λ s far q. refl)
  steady_at Le k = by_tests (nat_eq k 0) (is_near ((k + 1) % 2 ^ 32)) _ _ (λ s far q. refl) (λ s far q. refl)
  steady_at Eq k = tt
  steady_at Ne k = tt
  steady_at Add k = tt
  steady_at Sub k = tt
  steady_at Mul k = tt
  steady_at Div k = tt
  steady_at Rem k = tt
  steady_at And k = tt
  steady_at Or k = tt

  steady_of : (o : BinaryOp) (k : Option ℕ) → SteadyTest (immediate_test_of o k)
  steady_of o None = tt
  steady_of o (Some k) = steady_at o k

  compares : (im : ImmediateTest) (o : BinaryOp) (a b : Made) → SteadyTest im → ((s : Bool) (far q t : ℕ) → 1 ≤ length (compare_code o s far q t))
      → ((s : Bool) (far far' q t : ℕ) → length (compare_code o s far q t) ≡ length (compare_code o s far' q t)) → Steady (compare_test im o a b)
  compares (Some g) o a b h i j = record { some = λ s far r. one_some (λ q. g s far q) a r (λ q. h.0 s far q); same = λ s far far' r. one_same (λ q. g s far q) (λ q. g s far' q) a r (λ q. h.1 s far far' q) }
  compares None o a b h i j = record { some = λ s far r. two_some (λ q t. compare_code o s far q t) a b r (λ q t. i s far q t); same = λ s far far' r. two_same (λ q t. compare_code o s far q t) (λ q t. compare_code o s far' q t) a b r (λ q t. j s far far' q t) }

  joined_same : (is js is' js' : List Inst) → length is ≡ length is' → length js ≡ length js' → length (is ++ js) ≡ length (is' ++ js')
  joined_same is js is' js' h g = let a = length-append is js in let b = length-append is' js' in omega (arith, a, b, h, g)

  boths : (decides : Bool) (x y : Testing) → Steady x → Steady y → Steady (λ s far r. both_code decides s x y far r)
  boths true x y h g = record { some = by_some; same = by_same }
    where
      by_some : (s : Bool) (far r : ℕ) → 1 ≤ length (both_code true s x y far r)
      by_some true far r = behind _ (y true far r) (g.some true far r)
      by_some false far r = behind _ (y false far r) (g.some false far r)

      by_same : (s : Bool) (far far' r : ℕ) → length (both_code true s x y far r) ≡ length (both_code true s x y far' r)
      by_same true far far' r = joined_same _ (y true far r) _ (y true far' r) (h.same true _ _ r) (g.same true far far' r)
      by_same false far far' r = joined_same _ (y false far r) _ (y false far' r) (h.same true _ _ r) (g.same false far far' r)
  boths false x y h g = record { some = by_some; same = by_same }
    where
      by_some : (s : Bool) (far r : ℕ) → 1 ≤ length (both_code false s x y far r)
      by_some true far r = behind _ (y true far r) (g.some true far r)
      by_some false far r = behind _ (y false far r) (g.some false far r)

      by_same : (s : Bool) (far far' r : ℕ) → length (both_code false s x y far r) ≡ length (both_code false s x y far' r)
      by_same true far far' r = joined_same _ (y true far r) _ (y true far' r) (h.same false _ _ r) (g.same true far far' r)
      by_same false far far' r = joined_same _ (y false far r) _ (y false far' r) (h.same false _ _ r) (g.same false far far' r)

  binary_steady : (o : BinaryOp) (m a b : Made) (x y : Testing) → Steady x → Steady y → Steady (binary_test o m a b x y)
  binary_steady And m a b x y h g = boths false x y h g
  binary_steady Or m a b x y h g = boths true x y h g
  binary_steady Lt m a b x y h g = compares (immediate_test_of Lt b.known) Lt a b (steady_of Lt b.known) (λ s far q t. omega arith) (λ s far far' q t. refl)
  binary_steady Le m a b x y h g = compares (immediate_test_of Le b.known) Le a b (steady_of Le b.known) (λ s far q t. omega arith) (λ s far far' q t. refl)
  binary_steady Gt m a b x y h g = compares (immediate_test_of Gt b.known) Gt a b (steady_of Gt b.known) (λ s far q t. omega arith) (λ s far far' q t. refl)
  binary_steady Ge m a b x y h g = compares (immediate_test_of Ge b.known) Ge a b (steady_of Ge b.known) (λ s far q t. omega arith) (λ s far far' q t. refl)
  binary_steady Eq m a b x y h g = compares None Eq a b tt (λ s far q t. omega arith) (λ s far far' q t. refl)
  binary_steady Ne m a b x y h g = compares None Ne a b tt (λ s far q t. omega arith) (λ s far far' q t. refl)
  binary_steady Add m a b x y h g = plain_steady m
  binary_steady Sub m a b x y h g = plain_steady m
  binary_steady Mul m a b x y h g = plain_steady m
  binary_steady Div m a b x y h g = plain_steady m
  binary_steady Rem m a b x y h g = plain_steady m

  turned_steady : (x : Testing) → Steady x → Steady (λ s far r. x (not s) far r)
  turned_steady x h = record { some = λ s far r. h.some (not s) far r; same = λ s far far' r. h.same (not s) far far' r }

  steady : (fs : Facts) (e : CExpr) → Steady (test_code sc fs e)
  steady fs (unary p Not e) = turned_steady (test_code sc fs e) (steady fs e)
  steady fs (unary p Negate e) = plain_steady (made sc fs (unary p Negate e))
  steady fs (binary p o a b) = binary_steady o (made sc fs (binary p o a b)) (made sc fs a) (made sc (right_facts o (typed_of_expr sc.env a) fs) b) (test_code sc fs a) (test_code sc (right_facts o (typed_of_expr sc.env a) fs) b) (steady fs a) (steady (right_facts o (typed_of_expr sc.env a) fs) b)
  steady fs (num p n) = plain_steady (made sc fs (num p n))
  steady fs (true_ p) = plain_steady (made sc fs (true_ p))
  steady fs (false_ p) = plain_steady (made sc fs (false_ p))
  steady fs (null p) = plain_steady (made sc fs (null p))
  steady fs (var x) = plain_steady (made sc fs (var x))
  steady fs (field p e f) = plain_steady (made sc fs (field p e f))
  steady fs (arrow p e f) = plain_steady (made sc fs (arrow p e f))
  steady fs (index p e i) = plain_steady (made sc fs (index p e i))
  steady fs (deref p e) = plain_steady (made sc fs (deref p e))
  steady fs (address p e) = plain_steady (made sc fs (address p e))

  pub test_some : (fs : Facts) (e : CExpr) (s : Bool) (far r : ℕ) → 1 ≤ length (test_code sc fs e s far r)
  test_some fs e s far r = (steady fs e).some s far r

  pub test_same : (fs : Facts) (e : CExpr) (s : Bool) (far far' r : ℕ) → length (test_code sc fs e s far r) ≡ length (test_code sc fs e s far' r)
  test_same fs e s far far' r = (steady fs e).same s far far' r
