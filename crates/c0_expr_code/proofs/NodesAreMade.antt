-- The code of a typed tree is that of the expression.
use Rattle.std.proofs.Common.{◌≡◌, ℕ, zero, suc, ◌+◌, ◌*◌, ◌%◌, ◌^◌, ◌<◌, Bool, true, false, not, cond, if◌then◌else◌, nat_lt, min, List, [], ◌∷◌, ◌++◌, length, Option, Some, None, refl, sym, ap, ap₂, ◌∙◌, subst, arith}
use Rattle.std.specs.Prelude.{slice_get, unwrap_or}
use Rattle.std.proofs.lemmas.List.{length-map}
use Rattle.mips_table.specs.declared.inst.Inst.{Inst}
use Rattle.mips_table.specs.declared.inst.Inst.TheVariants.{Addu, Subu, J, Bne, Addiu, Lw, Xori, Div as Divide, Mfhi, Mflo}
use Rattle.masm.specs.declared.registers.TheConstants.{SCRATCH}
use Rattle.c0_tree.specs.declared.tree.Span.{Span}
use Rattle.c0_tree.specs.declared.tree.Kind.{Kind}
use Rattle.c0_tree.specs.declared.tree.Kind.TheVariants as kind
use Rattle.c0_tree.specs.declared.tree.UnaryOp.TheVariants.{Negate}
use Rattle.c0_tree.specs.declared.tree.BinaryOp.{BinaryOp}
use Rattle.c0_tree.specs.declared.tree.BinaryOp.TheVariants.{Add, Sub, Mul, Div, Rem, Lt, Le, Gt, Ge, Eq, Ne, And, Or}
use Rattle.c0_tree.specs.Tree.{CExpr, num, null, field, arrow, index, deref, address, unary, binary}
use Rattle.c0_meaning.specs.Ty.{Ty, pointer, named, array}
use Rattle.c0_meaning.specs.Env.{Shape, Typed}
use Rattle.c0_meaning.specs.Expression.{target}
use Rattle.c0_meaning.specs.Judgement.{IsArithmetic, add, sub, mul, div, rem, IsOrdering, lt, le, gt, ge, IsEquality, eq, ne, and, or}
use Rattle.c0_meaning.specs.Numbered.{variable_at, HasNumberedType, a_number, a_true, a_false, a_variable, a_field, a_target_field, an_element, a_target, an_address, a_negative, a_negation, arithmetic, order, logic, equality, null_left, null_right, IsNumberedGiven, a_value, a_null}
use Rattle.c0_meaning.specs.Operators.{Bounds}
use Rattle.c0_meaning.specs.Sizes.{words_before}
use Rattle.c0_meaning.specs.TypeAt.{type_at}
use Rattle.c0_meaning.specs.TypedState.{types_of}
use Rattle.c0_meaning.specs.Words.{shape_fields, words}
use Rattle.c0_typed.specs.declared.tree.Elements.{Elements}
use Rattle.c0_typed.specs.Laws.{VariablesAreThose, FieldsAreThose, ElementsAreThose}
use Rattle.c0_typed.specs.Tree.{TExpr}
use Rattle.c0_typed.specs.Tree as tree
use Rattle.c0_typed.specs.Typed.{field_bytes, elements_in, written_number, typed_element, typed_negative, typed_binary, typed_of_expr, typed_variable}
use Rattle.c0_expr_code.specs.declared.facts.Facts.{Facts}
use Rattle.c0_expr_code.specs.Facts.{is_sure_pointer, register_holding, facts_told}
use Rattle.c0_expr_code.specs.Scope.{Scope}
use Rattle.c0_expr_code.specs.FrameSetting.{frame_setting}
use Rattle.c0_expr_code.specs.Code.{AddressingMode, Made, Immediate, access_code, at_place, binary_made, bound_code, displaced, division_made, divisor_code, element_address, element_words, fields_in, frame_made, frame_value, null_test, right_facts, immediate_of, is_never_zero, length_in, local_address, made, negative_made, one_code, only_value, operand_code, operand_register, operator_made, or_code, register_made, register_of_variable, scale_code, scaled_code, shift_within, sum_made, target_address, tested_address, two_code, variable_made, POWERS}
use Rattle.c0_expr_code.specs.Emit.{scaled_at}
use Rattle.c0_expr_code.specs.Node.{IsSameMade, division_node, divisor_test, element_place, global_place, local_place, target_place, node_made, node_test, NodesAreMade}
use Rattle.c0_expr_code.specs.Test.{ImmediateTest, both_code, branch_code, compare_code, compare_test, immediate_test_of, plain_test, test_code}
use Rattle.c0_expr_code.proofs.NodeTypes.{literal_written, type_is}
use Rattle.c0_expr_code.proofs.PowersOfTwo.{capped_shift}

-- a node with no number written
abbrev bare_made : Made → Made
bare_made m = record { value = m.value; place = m.place; stands = m.stands; register = m.register; literal = None; known = m.known }

all_same : (m : Made) → IsSameMade m m
all_same m = record { value = λ d r. refl; place = λ r. refl; stands = refl; register = refl; known = refl }

bared : (m n : Made) → IsSameMade m n → bare_made m ≡ bare_made n
bared m n h = λ j. record { value = λ d r. h.value d r j; place = λ r. h.place r j; stands = h.stands j; register = h.register j; literal = None; known = h.known j }

from_equal : (m n p : Made) → IsSameMade m n → n ≡ p → IsSameMade m p
from_equal m n p h e = subst (IsSameMade m) e h

module _ (m n : Made) (h : IsSameMade m n) where
  operand_same : (r : ℕ) → operand_code m r ≡ operand_code n r
  operand_same r = λ j. or_code (h.stands j) (h.value r r j)

  register_same : (r : ℕ) → operand_register m r ≡ operand_register n r
  register_same r = λ j. unwrap_or (h.stands j) r

  one_same : (f : ℕ → List Inst) (r : ℕ) → one_code f m r ≡ one_code f n r
  one_same f r = λ j. operand_same r j ++ f (register_same r j)

  target_same : (sc : Scope) (fs : Facts) (sure : Bool) (r : ℕ) → target_address sc sure m r ≡ target_place (frame_setting sc fs) sure n r
  target_same sc fs sure r = λ j. record {
    code = operand_same r j ++ null_test sc.exit sure (register_same r j);
    base = register_same r j;
    displacement = 0;
  }

-- places that are the same
at_same : (a b : ℕ → AddressingMode) → ((r : ℕ) → a r ≡ b r) → IsSameMade (at_place a) (at_place b)
at_same a b h = record { value = λ d r. ap (λ (x : AddressingMode). access_code (λ b k. Lw d b k) r x) (h r); place = h; stands = refl; register = refl; known = refl }

framed_same : (o : Option ℕ) (a b : ℕ → AddressingMode) → ((r : ℕ) → a r ≡ b r) → IsSameMade (frame_made o a) (frame_made o b)
framed_same o a b h = record { value = λ d r. ap (λ (x : AddressingMode). frame_value o x d r) (h r); place = h; stands = refl; register = refl; known = refl }

-- values that are the same
only_same : (a b : (d r : ℕ) → List Inst) → ((d r : ℕ) → a d r ≡ b d r) → IsSameMade (only_value a) (only_value b)
only_same a b h = record { value = h; place = λ r. refl; stands = refl; register = refl; known = refl }

-- what number is written on a side doesn't matter to an operator
operator_bare : (i : Immediate) (o : BinaryOp) (a b : Made) → IsSameMade (operator_made i o a b) (operator_made i o (bare_made a) (bare_made b))
operator_bare (Some f) o a b = only_same _ _ (λ d r. refl)
operator_bare None o a b = only_same _ _ (λ d r. refl)

sum_bare : (i k : Immediate) (a b : Made) → IsSameMade (sum_made i k a b) (sum_made i k (bare_made a) (bare_made b))
sum_bare (Some f) k a b = only_same _ _ (λ d r. refl)
sum_bare None (Some g) a b = only_same _ _ (λ d r. refl)
sum_bare None None a b = only_same _ _ (λ d r. refl)

binary_bare : (sc : Scope) (o : BinaryOp) (a b : Made) → IsSameMade (binary_made sc o a b) (binary_made sc o (bare_made a) (bare_made b))
binary_bare sc Add a b = sum_bare (immediate_of Add b.known) (immediate_of Add a.known) a b
binary_bare sc Sub a b = operator_bare (immediate_of Sub b.known) Sub a b
binary_bare sc Mul a b = operator_bare None Mul a b
binary_bare sc Div a b = only_same _ _ (λ d r. refl)
binary_bare sc Rem a b = only_same _ _ (λ d r. refl)
binary_bare sc Lt a b = operator_bare (immediate_of Lt b.known) Lt a b
binary_bare sc Le a b = operator_bare (immediate_of Le b.known) Le a b
binary_bare sc Gt a b = operator_bare None Gt a b
binary_bare sc Ge a b = operator_bare (immediate_of Ge b.known) Ge a b
binary_bare sc Eq a b = operator_bare (immediate_of Eq b.known) Eq a b
binary_bare sc Ne a b = operator_bare (immediate_of Ne b.known) Ne a b
binary_bare sc And a b = only_same _ _ (λ d r. refl)
binary_bare sc Or a b = only_same _ _ (λ d r. refl)

back_same : (m n p : Made) → IsSameMade m p → IsSameMade n p → IsSameMade m n
back_same m n p h g = record {
  value = λ d r. h.value d r ∙ sym (g.value d r);
  place = λ r. h.place r ∙ sym (g.place r);
  stands = h.stands ∙ sym g.stands;
  register = h.register ∙ sym g.register;
  known = h.known ∙ sym g.known;
}

binary_same : (sc : Scope) (o : BinaryOp) (a b a' b' : Made) → IsSameMade a a' → IsSameMade b b' → IsSameMade (binary_made sc o a b) (binary_made sc o a' b')
binary_same sc o a b a' b' h g =
    let e = ap₂ (λ (x y : Made). binary_made sc o x y) (bared a a' h) (bared b b' g) in
    back_same _ _ (binary_made sc o (bare_made a') (bare_made b')) (from_equal _ _ _ (binary_bare sc o a b) e) (binary_bare sc o a' b')

-- an operator in the tree is that operator
product_same : (a b : Made) (o : Option ℕ) → operator_made (immediate_of Mul o) Mul a b ≡ operator_made None Mul a b
product_same a b None = refl
product_same a b (Some k) = refl

greater_same : (a b : Made) (o : Option ℕ) → operator_made (immediate_of Gt o) Gt a b ≡ operator_made None Gt a b
greater_same a b None = refl
greater_same a b (Some k) = refl

division_same : (sc : Scope) (fs : Facts) (takes : ℕ → Inst) (a b : Made) (untested : Bool) (d r : ℕ)
    → two_code (λ q t. divisor_test (frame_setting sc fs) untested t ++ (Divide q t ∷ takes d ∷ [])) a b r
    ≡ two_code (λ q t. divisor_code sc untested t ++ (Divide q t ∷ takes d ∷ [])) a b r
division_same sc fs takes a b true d r = refl
division_same sc fs takes a b false d r = refl

divided : (sc : Scope) (fs : Facts) (takes : ℕ → Inst) (a b : Made) → division_node (frame_setting sc fs) takes a b ≡ division_made sc takes a b
divided sc fs takes a b = λ j. only_value (λ d r. division_same sc fs takes a b (is_never_zero b.known) d r j)

node_binary : (sc : Scope) (fs : Facts) (o : BinaryOp) (x y : TExpr)
    → node_made (frame_setting sc fs) (typed_binary o x y) ≡ binary_made sc o (node_made (frame_setting sc fs) x) (node_made (frame_setting sc (right_facts o x fs)) y)
node_binary sc fs Add x y = refl
node_binary sc fs Sub x y = refl
node_binary sc fs Mul x y = product_same (node_made (frame_setting sc fs) x) (node_made (frame_setting sc fs) y) (node_made (frame_setting sc fs) y).known
node_binary sc fs Div x y = divided sc fs (λ d. Mflo d) (node_made (frame_setting sc fs) x) (node_made (frame_setting sc fs) y)
node_binary sc fs Rem x y = divided sc fs (λ d. Mfhi d) (node_made (frame_setting sc fs) x) (node_made (frame_setting sc fs) y)
node_binary sc fs Lt x y = refl
node_binary sc fs Le x y = refl
node_binary sc fs Gt x y = greater_same (node_made (frame_setting sc fs) x) (node_made (frame_setting sc fs) y) (node_made (frame_setting sc fs) y).known
node_binary sc fs Ge x y = refl
node_binary sc fs Eq x y = refl
node_binary sc fs Ne x y = refl
node_binary sc fs And x y = refl
node_binary sc fs Or x y = refl

-- a displacement modulo 2 ^ 32
further : (d k : ℕ) → (d + k) % 2 ^ 32 ≡ (d + k % 2 ^ 32) % 2 ^ 32
further d k = omega arith

displaced_same : (a b : AddressingMode) (k n : ℕ) → a ≡ b → n ≡ k % 2 ^ 32 → displaced k a ≡ displaced n b
displaced_same a b k n e f =
    ap (λ (x : AddressingMode). displaced k x) e
    ∙ ap (λ (i : ℕ). record { code = b.code; base = b.base; displacement = i }) (further b.displacement k ∙ ap (λ (i : ℕ). (b.displacement + i) % 2 ^ 32) (sym f))

below_length : {A : Type 0} (xs : List A) (n : ℕ) (x : A) → slice_get xs n ≡ Some x → n < length xs
below_length [] n x h = cc
below_length (y ∷ xs) zero x h = omega arith
below_length (y ∷ xs) (suc n) x h = let r = below_length xs n x h in omega arith

-- elements of so many words
scaled_same : (w q : ℕ) → scale_code w q ≡ scaled_at (shift_within POWERS (min w 1048577)) (4 * w % 2 ^ 32) q
scaled_same w q = by (shift_within POWERS w) ∙ ap (λ (o : Option ℕ). scaled_at o (4 * w % 2 ^ 32) q) (sym (capped_shift w))
  where
    by : (o : Option ℕ) → scaled_code o w q ≡ scaled_at o (4 * w % 2 ^ 32) q
    by (Some k) = refl
    by None = refl

element_same : (sc : Scope) (fs : Facts) (structs : List Shape) (t : Ty) (n : ℕ) (a b : AddressingMode) (m p : Made) (r : ℕ) → a ≡ b → IsSameMade m p
    → tested_address sc (words structs t) n a m r ≡ element_place (frame_setting sc fs) (elements_in structs (Some (array t n))) b p r
element_same sc fs structs t n a b m p r e h = λ j. record {
  code = (e j).code
      ++ (operand_same m p h (r + 1) j
      ++ (bound_code (register_same m p h (r + 1) j) n
      ++ (Bne SCRATCH 0 1 ∷ J (sc.exit Bounds) ∷ (scaled_same (words structs t) (register_same m p h (r + 1) j) j ++ (Addu r (e j).base SCRATCH ∷ [])))));
  base = r;
  displacement = (e j).displacement;
}

-- an operator whose test asks no test of its sides
abbrev IsComparing : BinaryOp → Type 0
IsComparing And = ⊥
IsComparing Or = ⊥
IsComparing _ = Unit {0}

arithmetic_compares : (o : BinaryOp) → IsArithmetic o → IsComparing o
arithmetic_compares _ add = tt
arithmetic_compares _ sub = tt
arithmetic_compares _ mul = tt
arithmetic_compares _ div = tt
arithmetic_compares _ rem = tt

order_compares : (o : BinaryOp) → IsOrdering o → IsComparing o
order_compares _ lt = tt
order_compares _ le = tt
order_compares _ gt = tt
order_compares _ ge = tt

equality_compares : (o : BinaryOp) → IsEquality o → IsComparing o
equality_compares _ eq = tt
equality_compares _ ne = tt

module _ (sc : Scope) (variables : VariablesAreThose) (fields : FieldsAreThose) (elements : ElementsAreThose) where
  local_same : (fs : Facts) (n w : ℕ) (b : Bool) → w ≡ words_before sc.env.structs (types_of sc.env.locals) n
      → IsSameMade (cond b (register_made (register_of_variable n)) (frame_made (register_holding fs n) (λ r. local_address sc n))) (cond b (register_made (register_of_variable n)) (frame_made (register_holding fs n) (λ r. local_place (frame_setting sc fs) w)))
  local_same fs n w true e = all_same _
  local_same fs n w false e = framed_same (register_holding fs n) _ _ (λ r. ap (λ (k : ℕ). local_place (frame_setting sc fs) k) (sym e))

  abbrev of_local : TExpr → ℕ
  of_local (tree.local n w) = w
  of_local _ = 0

  abbrev of_global : TExpr → ℕ
  of_global (tree.global k) = k
  of_global _ = 0

  variable_same : (fs : Facts) (k : Kind) (n : ℕ) (d : Typed) → variable_at sc.env k n ≡ Some d → IsSameMade (variable_made sc fs k n) (node_made (frame_setting sc fs) (typed_variable sc.env k n))
  variable_same fs kind.Global n d h = at_same _ _ (λ r. ap (λ (k : ℕ). global_place k) (sym (ap of_global (variables.of_globals sc.env n (below_length _ n d h)))))
  variable_same fs kind.Local n d h = local_same fs n _ sc.in_registers (ap of_local (variables.of_locals sc.env n (below_length _ n d h)))
  variable_same fs kind.Unresolved n d h = absurd (cc)
  variable_same fs kind.Struct n d h = absurd (cc)
  variable_same fs kind.Field n d h = absurd (cc)
  variable_same fs kind.Function n d h = absurd (cc)
  variable_same fs kind.Primitive n d h = absurd (cc)

  -- a field of a struct
  bytes_same : (x : List ℕ) (t : Option Ty) (n : ℕ) (d : Typed) → t ≡ Some (named x) → slice_get (shape_fields sc.env.structs x) n ≡ Some d
      → field_bytes sc.env.structs t n ≡ 4 * words_before sc.env.structs (fields_in sc.env.structs t) n % 2 ^ 32
  bytes_same x t n d e h =
      let c = length-map (shape_fields sc.env.structs x) (λ (d : Typed). d.ty) in
      let b = below_length _ n d h in
      ap (λ (u : Option Ty). field_bytes sc.env.structs u n) e
      ∙ fields sc.env.structs (Some (named x)) n (omega (arith, b, c))
      ∙ ap (λ (u : Option Ty). 4 * words_before sc.env.structs (fields_in sc.env.structs u) n % 2 ^ 32) (sym e)

  -- an element, by the number that its index is written as
  index_same : (fs : Facts) (t : Ty) (n : ℕ) (a : ℕ → AddressingMode) (x : TExpr) (i : CExpr) → ((r : ℕ) → a r ≡ (node_made (frame_setting sc fs) x).place r)
      → IsSameMade (made sc fs i) (node_made (frame_setting sc fs) (typed_of_expr sc.env i)) → (o : Option ℕ)
      → IsSameMade (at_place (λ r. element_address sc (words sc.env.structs t) n o (a r) (made sc fs i) r)) (node_made (frame_setting sc fs) (typed_element (elements_in sc.env.structs (Some (array t n))) x (typed_of_expr sc.env i) o))
  index_same fs t n a x i e h None = at_same _ _ (λ r. element_same sc fs sc.env.structs t n (a r) _ (made sc fs i) _ r (e r) h)
  index_same fs t n a x i e h (Some c) = by (nat_lt c n)
    where
      by : (b : Bool)
          → IsSameMade (at_place (λ r. if b then displaced (4 * (c * words sc.env.structs t)) (a r) else tested_address sc (words sc.env.structs t) n (a r) (made sc fs i) r))
          (node_made (frame_setting sc fs) (if b then tree.part x (c * (elements_in sc.env.structs (Some (array t n))).bytes % 2 ^ 32) else tree.element x (typed_of_expr sc.env i) (elements_in sc.env.structs (Some (array t n)))))
      by true = at_same _ _ (λ r. displaced_same (a r) _ (4 * (c * words sc.env.structs t)) _ (e r) (elements.before sc.env.structs t n c))
      by false = at_same _ _ (λ r. element_same sc fs sc.env.structs t n (a r) _ (made sc fs i) _ r (e r) h)

  negative_same : (fs : Facts) (e : CExpr) (x : TExpr) → IsSameMade (made sc fs e) (node_made (frame_setting sc fs) x) → (o : Option ℕ)
      → IsSameMade (negative_made o (made sc fs e)) (node_made (frame_setting sc fs) (typed_negative x o))
  negative_same fs e x h None = only_same _ _ (λ d r. one_same (made sc fs e) (node_made (frame_setting sc fs) x) h (λ q. Subu d 0 q ∷ []) r)
  negative_same fs e x h (Some n) = record { value = λ d r. refl; place = λ r. refl; stands = refl; register = refl; known = refl }

  between : (fs : Facts) (o : BinaryOp) (a b : CExpr) → IsSameMade (made sc fs a) (node_made (frame_setting sc fs) (typed_of_expr sc.env a))
      → IsSameMade (made sc (right_facts o (typed_of_expr sc.env a) fs) b) (node_made (frame_setting sc (right_facts o (typed_of_expr sc.env a) fs)) (typed_of_expr sc.env b))
      → IsSameMade (binary_made sc o (made sc fs a) (made sc (right_facts o (typed_of_expr sc.env a) fs) b)) (node_made (frame_setting sc fs) (typed_binary o (typed_of_expr sc.env a) (typed_of_expr sc.env b)))
  between fs o a b h g = from_equal _ _ _ (binary_same sc o _ _ _ _ h g) (sym (node_binary sc fs o (typed_of_expr sc.env a) (typed_of_expr sc.env b)))

  same : (fs : Facts) (e : CExpr) (t : Ty) → HasNumberedType sc.env e t → IsSameMade (made sc fs e) (node_made (frame_setting sc fs) (typed_of_expr sc.env e))
  same fs _ _ (a_number h) = record { value = λ d r. refl; place = λ r. refl; stands = refl; register = refl; known = refl }
  same fs _ _ a_true = all_same _
  same fs _ _ a_false = all_same _
  same fs _ _ (a_variable {x} {d} h) = variable_same fs x.kind x.number d h
  same fs _ _ (a_field {s} {e} {f} {x} {d} p h g) =
      let part = same fs e (named x) h in
      at_same _ _ (λ r. displaced_same _ _ (4 * words_before sc.env.structs (fields_in sc.env.structs (type_at sc.env e)) f.number) _ (part.place r) (bytes_same x (type_at sc.env e) f.number d (type_is sc.env e (named x) h) g))
  same fs _ _ (a_target_field {s} {e} {f} {x} {d} h g) =
      let part = same fs e (pointer (named x)) h in
      at_same _ _ (λ r. displaced_same _ _ (4 * words_before sc.env.structs (fields_in sc.env.structs (target (type_at sc.env e))) f.number) _
      (target_same (made sc fs e) (node_made (frame_setting sc fs) (typed_of_expr sc.env e)) part sc fs (is_sure_pointer fs (typed_of_expr sc.env e)) r) (bytes_same x (target (type_at sc.env e)) f.number d (ap target (type_is sc.env e (pointer (named x)) h)) g))
  same fs _ _ (an_element {s} {e} {i} {t} {n} p h g) =
      let part = same fs e (array t n) h in
      let place = same fs i _ g in
      subst (λ (u : Option Ty). IsSameMade (at_place (λ r. element_address sc (element_words sc.env.structs u) (length_in u) (made sc fs i).literal ((made sc fs e).place r) (made sc fs i) r)) (node_made (frame_setting sc fs) (typed_element (elements_in sc.env.structs u) (typed_of_expr sc.env e) (typed_of_expr sc.env i) (written_number i))))
      (sym (type_is sc.env e (array t n) h))
      (subst (λ (o : Option ℕ). IsSameMade (at_place (λ r. element_address sc (words sc.env.structs t) n o ((made sc fs e).place r) (made sc fs i) r)) (node_made (frame_setting sc fs) (typed_element (elements_in sc.env.structs (Some (array t n))) (typed_of_expr sc.env e) (typed_of_expr sc.env i) (written_number i))))
      (sym (literal_written sc fs i)) (index_same fs t n (made sc fs e).place (typed_of_expr sc.env e) i part.place place (written_number i)))
  same fs _ _ (a_target {s} {e} {t} h) =
      at_same _ _ (λ r. target_same (made sc fs e) (node_made (frame_setting sc fs) (typed_of_expr sc.env e)) (same fs e (pointer t) h) sc fs (is_sure_pointer fs (typed_of_expr sc.env e)) r)
  same fs _ _ (an_address {s} {e} {t} p away h) =
      let part = same fs e t h in only_same _ _ (λ d r. ap (λ (x : AddressingMode). access_code (λ b k. Addiu d b k) r x) (part.place r))
  same fs _ _ (a_negative {s} {e} h) =
      subst (λ (o : Option ℕ). IsSameMade (negative_made o (made sc fs e)) (node_made (frame_setting sc fs) (typed_negative (typed_of_expr sc.env e) (written_number e)))) (sym (literal_written sc fs e))
      (negative_same fs e (typed_of_expr sc.env e) (same fs e _ h) (written_number e))
  same fs _ _ (a_negation {s} {e} h) = only_same _ _ (λ d r. one_same (made sc fs e) (node_made (frame_setting sc fs) (typed_of_expr sc.env e)) (same fs e _ h) (λ q. Xori d q 1 ∷ []) r)
  same fs _ _ (arithmetic {s} {o} {a} {b} k h g) = between fs o a b (same fs a _ h) (same (right_facts o (typed_of_expr sc.env a) fs) b _ g)
  same fs _ _ (order {s} {o} {a} {b} k h g) = between fs o a b (same fs a _ h) (same (right_facts o (typed_of_expr sc.env a) fs) b _ g)
  same fs _ _ (logic {s} {o} {a} {b} k h g) = between fs o a b (same fs a _ h) (same (right_facts o (typed_of_expr sc.env a) fs) b _ g)
  same fs _ _ (equality {s} {o} {a} {b} k j h g) = between fs o a b (same fs a _ h) (same (right_facts o (typed_of_expr sc.env a) fs) b _ g)
  same fs _ _ (null_left {s} {r} {o} {b} k g) = between fs o (null r) b (all_same _) (same (right_facts o (typed_of_expr sc.env (null r)) fs) b _ g)
  same fs _ _ (null_right {s} {r} {o} {a} k h) = between fs o a (null r) (same fs a _ h) (all_same _)

  given_same : (fs : Facts) (e : CExpr) (t : Ty) → IsNumberedGiven sc.env e t → IsSameMade (made sc fs e) (node_made (frame_setting sc fs) (typed_of_expr sc.env e))
  given_same fs e t (a_value h) = same fs e t h
  given_same fs _ _ a_null = all_same _

  -- a test by the value of a node
  plain_same : (m n : Made) → IsSameMade m n → (s : Bool) (far r : ℕ) → plain_test m s far r ≡ plain_test n s far r
  plain_same m n h s far r = one_same m n h (λ q. branch_code (not s) q 0 far ∷ []) r

  variable_test : (fs : Facts) (k : Kind) (n : ℕ) (s : Bool) (far r : ℕ) → node_test (frame_setting sc fs) (typed_variable sc.env k n) s far r ≡ plain_test (node_made (frame_setting sc fs) (typed_variable sc.env k n)) s far r
  variable_test fs kind.Unresolved n s far r = refl
  variable_test fs kind.Struct n s far r = refl
  variable_test fs kind.Field n s far r = refl
  variable_test fs kind.Global n s far r = refl
  variable_test fs kind.Local n s far r = refl
  variable_test fs kind.Function n s far r = refl
  variable_test fs kind.Primitive n s far r = refl

  element_tested : (fs : Facts) (x : Elements) (p i : TExpr) (o : Option ℕ) (s : Bool) (far r : ℕ)
      → node_test (frame_setting sc fs) (typed_element x p i o) s far r ≡ plain_test (node_made (frame_setting sc fs) (typed_element x p i o)) s far r
  element_tested fs x p i None s far r = refl
  element_tested fs x p i (Some c) s far r = by (nat_lt c x.count)
    where
      by : (b : Bool) → node_test (frame_setting sc fs) (if b then tree.part p (c * x.bytes % 2 ^ 32) else tree.element p i x) s far r
          ≡ plain_test (node_made (frame_setting sc fs) (if b then tree.part p (c * x.bytes % 2 ^ 32) else tree.element p i x)) s far r
      by true = refl
      by false = refl

  negative_tested : (fs : Facts) (x : TExpr) (o : Option ℕ) (s : Bool) (far r : ℕ) → node_test (frame_setting sc fs) (typed_negative x o) s far r ≡ plain_test (node_made (frame_setting sc fs) (typed_negative x o)) s far r
  negative_tested fs x None s far r = refl
  negative_tested fs x (Some n) s far r = refl

  two_same : (m n a b : Made) → IsSameMade m a → IsSameMade n b → (f : (q t : ℕ) → List Inst) (r : ℕ) → two_code f m n r ≡ two_code f a b r
  two_same m n a b h g f r = λ j. operand_same m a h r j ++ (operand_same n b g (r + 1) j ++ f (register_same m a h r j) (register_same n b g (r + 1) j))

  compare_same : (i : ImmediateTest) (o : BinaryOp) (m n a b : Made) → IsSameMade m a → IsSameMade n b → (s : Bool) (far r : ℕ) → compare_test i o m n s far r ≡ compare_test i o a b s far r
  compare_same (Some f) o m n a b h g s far r = one_same m a h (λ q. f s far q) r
  compare_same None o m n a b h g s far r = two_same m n a b h g (λ q t. compare_code o s far q t) r

  known_same : (o : BinaryOp) (m n a b : Made) → IsSameMade m a → IsSameMade n b → (s : Bool) (far r : ℕ)
      → compare_test (immediate_test_of o n.known) o m n s far r ≡ compare_test (immediate_test_of o b.known) o a b s far r
  known_same o m n a b h g s far r =
      compare_same (immediate_test_of o n.known) o m n a b h g s far r ∙ ap (λ (k : Option ℕ). compare_test (immediate_test_of o k) o a b s far r) g.known

  -- a comparison, or the test of a value
  compared : (fs : Facts) (o : BinaryOp) (x y : CExpr) → IsComparing o → IsSameMade (made sc fs x) (node_made (frame_setting sc fs) (typed_of_expr sc.env x))
      → IsSameMade (made sc (right_facts o (typed_of_expr sc.env x) fs) y) (node_made (frame_setting sc (right_facts o (typed_of_expr sc.env x) fs)) (typed_of_expr sc.env y)) → (p : Span) (s : Bool) (far r : ℕ)
      → test_code sc fs (binary p o x y) s far r ≡ node_test (frame_setting sc fs) (typed_binary o (typed_of_expr sc.env x) (typed_of_expr sc.env y)) s far r
  compared fs Lt x y k h g p s far r = known_same Lt _ _ _ _ h g s far r
  compared fs Le x y k h g p s far r = known_same Le _ _ _ _ h g s far r
  compared fs Gt x y k h g p s far r = known_same Gt _ _ _ _ h g s far r
  compared fs Ge x y k h g p s far r = known_same Ge _ _ _ _ h g s far r
  compared fs Eq x y k h g p s far r = compare_same None Eq _ _ _ _ h g s far r
  compared fs Ne x y k h g p s far r = compare_same None Ne _ _ _ _ h g s far r
  compared fs Add x y k h g p s far r = plain_same _ _ (between fs Add x y h g) s far r
  compared fs Sub x y k h g p s far r = plain_same _ _ (between fs Sub x y h g) s far r
  compared fs Mul x y k h g p s far r = plain_same _ _ (between fs Mul x y h g) s far r
  compared fs Div x y k h g p s far r = plain_same _ _ (between fs Div x y h g) s far r
  compared fs Rem x y k h g p s far r = plain_same _ _ (between fs Rem x y h g) s far r
  compared fs And x y k h g p s far r = absurd k
  compared fs Or x y k h g p s far r = absurd k

  test_same : (fs : Facts) (e : CExpr) (t : Ty) → HasNumberedType sc.env e t → (s : Bool) (far r : ℕ) → test_code sc fs e s far r ≡ node_test (frame_setting sc fs) (typed_of_expr sc.env e) s far r
  test_same fs _ _ (a_number {s = p} {n = n} h) s far r = plain_same _ _ (same fs (num p n) _ (a_number h)) s far r
  test_same fs _ _ a_true s far r = refl
  test_same fs _ _ a_false s far r = refl
  test_same fs _ _ (a_variable {x} {d} h) s far r = plain_same _ _ (variable_same fs x.kind x.number d h) s far r ∙ sym (variable_test fs x.kind x.number s far r)
  test_same fs _ t (a_field {s = p} {e} {f} {x} {d} q h g) s far r = plain_same _ _ (same fs (field p e f) _ (a_field q h g)) s far r
  test_same fs _ t (a_target_field {s = p} {e} {f} {x} {d} h g) s far r = plain_same _ _ (same fs (arrow p e f) _ (a_target_field h g)) s far r
  test_same fs _ _ (an_element {s = p} {e} {i} {t} {n} q h g) s far r =
      plain_same _ _ (same fs (index p e i) _ (an_element q h g)) s far r ∙ sym (element_tested fs (elements_in sc.env.structs (type_at sc.env e)) _ _ (written_number i) s far r)
  test_same fs _ t (a_target {s = p} {e} h) s far r = plain_same _ _ (same fs (deref p e) t (a_target h)) s far r
  test_same fs _ _ (an_address {s = p} {e} {t} q away h) s far r = plain_same _ _ (same fs (address p e) _ (an_address q away h)) s far r
  test_same fs _ _ (a_negative {s = p} {e} h) s far r =
      plain_same _ _ (same fs (unary p Negate e) _ (a_negative h)) s far r ∙ sym (negative_tested fs (typed_of_expr sc.env e) (written_number e) s far r)
  test_same fs _ _ (a_negation {s = p} {e} h) s far r = test_same fs e _ h (not s) far r
  test_same fs _ _ (arithmetic {s = p} {o} {a} {b} k h g) s far r = compared fs o a b (arithmetic_compares o k) (same fs a _ h) (same (right_facts o (typed_of_expr sc.env a) fs) b _ g) p s far r
  test_same fs _ _ (order {s = p} {o} {a} {b} k h g) s far r = compared fs o a b (order_compares o k) (same fs a _ h) (same (right_facts o (typed_of_expr sc.env a) fs) b _ g) p s far r
  test_same fs _ _ (logic {s = p} {a = a} {b = b} and h g) s far r = λ j. both_code false s (λ s far r. test_same fs a _ h s far r j) (λ s far r. test_same (facts_told (typed_of_expr sc.env a) true fs) b _ g s far r j) far r
  test_same fs _ _ (logic {s = p} {a = a} {b = b} or h g) s far r = λ j. both_code true s (λ s far r. test_same fs a _ h s far r j) (λ s far r. test_same (facts_told (typed_of_expr sc.env a) false fs) b _ g s far r j) far r
  test_same fs _ _ (equality {s = p} {o} {a} {b} k i h g) s far r = compared fs o a b (equality_compares o k) (same fs a _ h) (same (right_facts o (typed_of_expr sc.env a) fs) b _ g) p s far r
  test_same fs _ _ (null_left {s = p} {r = q} {o} {b} k g) s far r = compared fs o (null q) b (equality_compares o k) (all_same _) (same (right_facts o (typed_of_expr sc.env (null q)) fs) b _ g) p s far r
  test_same fs _ _ (null_right {s = p} {r = q} {o} {a} k h) s far r = compared fs o a (null q) (equality_compares o k) (same fs a _ h) (all_same _) p s far r

  given_test_same : (fs : Facts) (e : CExpr) (t : Ty) → IsNumberedGiven sc.env e t → (s : Bool) (far r : ℕ) → test_code sc fs e s far r ≡ node_test (frame_setting sc fs) (typed_of_expr sc.env e) s far r
  given_test_same fs e t (a_value h) s far r = test_same fs e t h s far r
  given_test_same fs _ _ a_null s far r = refl

pub nodes_made : VariablesAreThose → FieldsAreThose → ElementsAreThose → NodesAreMade
nodes_made variables fields elements = record {
  nodes = λ sc fs. given_same sc variables fields elements fs;
  tests = λ sc fs. given_test_same sc variables fields elements fs;
}
