-- The instructions of the code are in range: each field fits its place in the word.
use Rattle.std.specs.List.{All}
use Rattle.std.proofs.Common.{◌≡◌, inl, inr, ℕ, zero, suc, max, ◌+◌, ◌*◌, ◌/◌, ◌%◌, ◌^◌, ◌<◌, ◌≤◌, Bool, true, false, not, cond, nat_eq, nat_lt, Option, Some, None, List, [], ◌∷◌, ◌++◌, refl, sym, ◌∙◌, subst, arith}
use Rattle.std.proofs.lemmas.Bool.{cases_Bool, ltb-true, cond-true, cond-false}
use Rattle.std.proofs.lemmas.List.Elements.{All-nil, All-cons}
use Rattle.mips_table.specs.declared.inst.Inst.{Inst}
use Rattle.mips_table.specs.declared.inst.Inst.TheVariants.{Addu, Subu, Sltu, Beq, Bne, Addiu, Sltiu, Ori, Xori, Lui, Lw, Sw, Div as Divide, Mfhi, Mflo}
use Rattle.mips_table.specs.Encoding.{InRange}
use Rattle.c0_tree.specs.declared.tree.Kind.{Kind}
use Rattle.c0_tree.specs.declared.tree.Kind.TheVariants.{Unresolved, Struct, Field, Global, Local, Function, Primitive}
use Rattle.c0_tree.specs.declared.tree.UnaryOp.{UnaryOp}
use Rattle.c0_tree.specs.declared.tree.UnaryOp.TheVariants.{Negate, Not}
use Rattle.c0_tree.specs.declared.tree.BinaryOp.{BinaryOp}
use Rattle.c0_tree.specs.declared.tree.BinaryOp.TheVariants.{Add, Sub, Mul, Div, Rem, Lt, Le, Gt, Ge, Eq, Ne, And, Or}
use Rattle.c0_tree.specs.Tree.{CExpr, num, true_, false_, null, var, field, arrow, index, deref, address, unary, binary}
use Rattle.c0_tree.specs.Size.{need, binary_need}
use Rattle.c0_meaning.specs.Operators.{KernelFault, NullUse, Bounds, DivZero}
use Rattle.c0_meaning.specs.TypeAt.{type_at}
use Rattle.c0_typed.specs.Typed.{typed_of_expr}
use Rattle.c0_expr_code.specs.declared.facts.Facts.{Facts}
use Rattle.c0_expr_code.specs.Facts.{is_sure_pointer, register_holding}
use Rattle.c0_expr_code.specs.Scope.{Scope}
use Rattle.c0_expr_code.specs.Code.{element_words, length_in, AddressingMode, Made, constant_code, is_near, low, high, access_code, store_code, or_code, operand_code, operand_register, no_address, at_place, constant, only_value, global_address, local_address, register_made, register_of_variable, variable_made, frame_made, null_test, right_facts, displaced, target_address, bound_code, shift_within, POWERS, scaled_code, scale_code, tested_address, element_address, to_code, two_code, one_code, logic_code, negated, negative_made, unary_made, operator_code, Immediate, when_near, equality_with, immediate, immediate_of, operator_made, sum_made, is_never_zero, divisor_code, division_made, binary_made, made}
use Rattle.c0_expr_code.specs.Test.{branch_code, negative_branch, positive_branch, below_code, compare_code, ImmediateTest, immediate_test, immediate_test_of, Testing, compare_test, both_code, binary_test, plain_test, test_code}
use Rattle.c0_expr_code.proofs.NeedsAreSome.{need_some}
use Rattle.c0_expr_code.proofs.FactRegisters.{holding_small}

-- instruction by instruction
abbrev pub Ranged : List Inst → Type 0
Ranged [] = Unit {0}
Ranged (i ∷ is) = InRange i × Ranged is

both : (is js : List Inst) → Ranged is → Ranged js → Ranged (is ++ js)
both [] js h g = g
both (i ∷ is) js h g = (h.0, both is js h.1 g)

pub all_of : (is : List Inst) → Ranged is → All InRange is
all_of [] h = All-nil InRange
all_of (i ∷ is) h = All-cons InRange i is h.0 (all_of is h.1)

either : (b : Bool) (is js : List Inst) → Ranged is → Ranged js → Ranged (cond b is js)
either true is js h g = h
either false is js h g = g

low_small : (k : ℕ) → low k < 2 ^ 16
low_small k = omega arith

high_small : (k : ℕ) → high k < 2 ^ 16
high_small k = omega arith

constants : (d n : ℕ) → d < 32 → Ranged (constant_code d n)
constants d n h = elim (cases_Bool (nat_lt n (2 ^ 16))) [
  | inl e ↦ let l = ltb-true n (2 ^ 16) e in subst Ranged (sym (cond-true (nat_lt n (2 ^ 16)) (Ori d 0 n ∷ []) _ e)) ((h, omega arith, l), tt)
  | inr e ↦ subst Ranged (sym (cond-false (nat_lt n (2 ^ 16)) (Ori d 0 n ∷ []) (cond (is_near n) (Addiu d 0 (low n) ∷ []) (Lui d (n / 2 ^ 16 % 2 ^ 16) ∷ Ori d d (low n) ∷ [])) e))
      (either (is_near n) (Addiu d 0 (low n) ∷ []) (Lui d (n / 2 ^ 16 % 2 ^ 16) ∷ Ori d d (low n) ∷ []) ((h, omega arith, low_small n), tt) ((h, omega arith), ((h, h, low_small n), tt)))
]

-- a place
pub record FineAddress (x : AddressingMode) : Type 0 where
  pub code : Ranged x.code
  pub base : x.base < 32

accesses : (f : ℕ → ℕ → Inst) (r : ℕ) (x : AddressingMode) → r < 32 → FineAddress x → ((b k : ℕ) → b < 32 → k < 2 ^ 16 → InRange (f b k)) → Ranged (access_code f r x)
accesses f r x h g i = both x.code _ g.code (either (is_near x.displacement) (f x.base (low x.displacement) ∷ []) (Lui 1 (high x.displacement) ∷ Addu r x.base 1 ∷ f r (low x.displacement) ∷ [])
    (i x.base (low x.displacement) g.base (low_small x.displacement), tt) ((omega arith, high_small x.displacement), ((h, g.base, omega arith), (i r (low x.displacement) h (low_small x.displacement), tt))))

loads : (d r : ℕ) (x : AddressingMode) → d < 32 → r < 32 → FineAddress x → Ranged (access_code (λ b k. Lw d b k) r x)
loads d r x h g i = accesses (λ b k. Lw d b k) r x g i (λ b k low l. (h, low, l))

-- a node that needs so many registers
pub record Fine (m : Made) (need : ℕ) : Type 0 where
  pub some : 1 ≤ need
  pub value : (d r : ℕ) → d < 32 → r + need ≤ 32 → Ranged (m.value d r)
  pub place : (r : ℕ) → r + need ≤ 32 → FineAddress (m.place r)
  pub stands : (q : ℕ) → m.stands ≡ Some q → q < 32

operand_at : (o : Option ℕ) (is : List Inst) → Ranged is → Ranged (or_code o is)
operand_at None is h = h
operand_at (Some q) is h = tt

operands : (m : Made) (need r : ℕ) → Fine m need → r + need ≤ 32 → Ranged (operand_code m r)
operands m need r h le = operand_at m.stands (m.value r r) (let s = h.some in h.value r r (omega (arith, s, le)) le)

register_at : (o : Option ℕ) (r : ℕ) → r < 32 → ((q : ℕ) → o ≡ Some q → q < 32) → Rattle.std.specs.Prelude.unwrap_or o r < 32
register_at None r h g = h
register_at (Some q) r h g = g q refl

registers : (m : Made) (need r : ℕ) → Fine m need → r + need ≤ 32 → operand_register m r < 32
registers m need r h le = register_at m.stands r (let s = h.some in omega (arith, s, le)) h.stands

no_place : (r : ℕ) → FineAddress (no_address r)
no_place r = record { code = tt; base = omega arith }

places : (place : ℕ → AddressingMode) (need : ℕ) → 1 ≤ need → ((r : ℕ) → r + need ≤ 32 → FineAddress (place r)) → Fine (at_place place) need
places place need some h = record { some = some; value = λ d r l le. loads d r (place r) l (omega (arith, some, le)) (h r le); place = h; stands = λ q e. absurd (cc) }

values : (code : ℕ → ℕ → List Inst) (need : ℕ) → 1 ≤ need → ((d r : ℕ) → d < 32 → r + need ≤ 32 → Ranged (code d r)) → Fine (only_value code) need
values code need some h = record { some = some; value = h; place = λ r le. no_place r; stands = λ q e. absurd (cc) }

constant_fine : (n need : ℕ) (literal : Option ℕ) → 1 ≤ need → Fine (constant n literal) need
constant_fine n need literal some = record { some = some; value = λ d r l le. constants d n l; place = λ r le. no_place r; stands = by_zero (nat_eq n 0) }
  where
    by_zero : (b : Bool) (q : ℕ) → cond b (Some 0) None ≡ Some q → q < 32
    by_zero true q e = let z : 0 ≡ q = cc in omega (arith, z)
    by_zero false q e = absurd (cc)

to_fine : (d r : ℕ) → d < 32 → r < 32 → Ranged (to_code d r)
to_fine d r h g = either (nat_eq d r) [] (Addu d r 0 ∷ []) tt ((h, g, omega arith), tt)

variables : (sc : Scope) (fs : Facts) (k : Kind) (n : ℕ) → Fine (variable_made sc fs k n) 1
variables sc fs Global n = places (λ r. global_address sc n) 1 (omega arith) (λ r le. record { code = tt; base = omega arith })
variables sc fs Local n = by_form sc.in_registers
  where
    by_register : (o : Option ℕ) → ((q : ℕ) → o ≡ Some q → q < 32) → Fine (frame_made o (λ r. local_address sc n)) 1
    by_register (Some q) low = record { some = omega arith; value = λ d r l le. to_fine d q l (low q refl); place = λ r le. record { code = tt; base = omega arith }; stands = low }
    by_register None low = places (λ r. local_address sc n) 1 (omega arith) (λ r le. record { code = tt; base = omega arith })

    by_form : (b : Bool) → Fine (cond b (register_made (register_of_variable n)) (frame_made (register_holding fs n) (λ r. local_address sc n))) 1
    by_form true = record { some = omega arith; value = λ d r l le. ((l, omega arith, omega arith), tt); place = λ r le. no_place r; stands = λ q e. let z : register_of_variable n ≡ q = cc in omega (arith, z) }
    by_form false = by_register (register_holding fs n) (holding_small fs n)
variables sc fs Unresolved n = places no_address 1 (omega arith) (λ r le. no_place r)
variables sc fs Struct n = places no_address 1 (omega arith) (λ r le. no_place r)
variables sc fs Field n = places no_address 1 (omega arith) (λ r le. no_place r)
variables sc fs Function n = places no_address 1 (omega arith) (λ r le. no_place r)
variables sc fs Primitive n = places no_address 1 (omega arith) (λ r le. no_place r)

shift_small : (n w by : ℕ) → shift_within n w ≡ Some by → by ≤ n + 1
shift_small zero w by e = absurd (cc)
shift_small (suc n) w by e = elim (cases_Bool (nat_eq w (2 ^ n))) [
  | inl t ↦
      let q : ◌≡◌ {A = Option ℕ} (Some (n + 2)) (Some by) = sym (cond-true (nat_eq w (2 ^ n)) (Some (n + 2)) (shift_within n w) t) ∙ e in
      let b : n + 2 ≡ by = cc in
      omega (arith, b)
  | inr t ↦ let g = shift_small n w by (sym (cond-false (nat_eq w (2 ^ n)) (Some (n + 2)) (shift_within n w) t) ∙ e) in omega (arith, g)
]

scales_by : (o : Option ℕ) (w q : ℕ) → q < 32 → ((by : ℕ) → o ≡ Some by → by < 32) → Ranged (scaled_code o w q)
scales_by (Some by) w q h g = ((omega arith, h, g by refl), tt)
scales_by None w q h g = both (constant_code 1 (4 * w % 2 ^ 32)) _ (constants 1 (4 * w % 2 ^ 32) (omega arith)) ((h, omega arith), (omega arith, tt))

scales : (w q : ℕ) → q < 32 → Ranged (scale_code w q)
scales w q h = scales_by (shift_within POWERS w) w q h (λ by e. let g = shift_small POWERS w by e in omega (arith, g))

bounds : (q n : ℕ) → q < 32 → Ranged (bound_code q n)
bounds q n h = elim (cases_Bool (nat_lt n (2 ^ 15))) [
  | inl e ↦ let l = ltb-true n (2 ^ 15) e in subst Ranged (sym (cond-true (nat_lt n (2 ^ 15)) (Sltiu 1 q n ∷ []) _ e)) ((omega arith, h, omega (arith, l)), tt)
  | inr e ↦ subst Ranged (sym (cond-false (nat_lt n (2 ^ 15)) (Sltiu 1 q n ∷ []) (constant_code 1 n ++ (Sltu 1 q 1 ∷ [])) e)) (both (constant_code 1 n) _ (constants 1 n (omega arith)) ((omega arith, h, omega arith), tt))
]

one_fine : (g : ℕ → List Inst) (m : Made) (need r : ℕ) → Fine m need → r + need ≤ 32 → ((q : ℕ) → q < 32 → Ranged (g q)) → Ranged (one_code g m r)
one_fine g m need r h le i = both (operand_code m r) _ (operands m need r h le) (i (operand_register m r) (registers m need r h le))

two_fine : (g : ℕ → ℕ → List Inst) (a b : Made) (na nb r : ℕ) → Fine a na → Fine b nb → r + na ≤ 32 → r + 1 + nb ≤ 32
    → ((q t : ℕ) → q < 32 → t < 32 → Ranged (g q t)) → Ranged (two_code g a b r)
two_fine g a b na nb r h k la lb i =
    both (operand_code a r) _ (operands a na r h la) (both (operand_code b (r + 1)) _ (operands b nb (r + 1) k lb) (i (operand_register a r) (operand_register b (r + 1)) (registers a na r h la) (registers b nb (r + 1) k lb)))

abbrev FineIm : Immediate → Type 0
FineIm None = Unit {0}
FineIm (Some g) = (d q : ℕ) → d < 32 → q < 32 → Ranged (g d q)

near_fine : (k : ℕ) (g : ℕ → ℕ → List Inst) → ((d q : ℕ) → d < 32 → q < 32 → Ranged (g d q)) → FineIm (when_near k g)
near_fine k g h = by_test (is_near k)
  where
    by_test : (b : Bool) → FineIm (cond b (Some g) None)
    by_test true = h
    by_test false = tt

equal_fine : (i : ℕ → ℕ → Inst) (k : ℕ) → ((d q : ℕ) → d < 32 → q < 32 → InRange (i d q)) → FineIm (equality_with i k)
equal_fine i k h = by_tests (nat_eq k 0) (nat_lt k (2 ^ 16)) refl
  where
    by_tests : (b c : Bool) → nat_lt k (2 ^ 16) ≡ c → FineIm (cond b (Some (λ d q. i d q ∷ [])) (cond c (Some (λ d q. Xori d q k ∷ i d d ∷ [])) None))
    by_tests true c e = λ d q ld lq. (h d q ld lq, tt)
    by_tests false true e = λ d q ld lq. ((ld, lq, ltb-true k (2 ^ 16) e), (h d d ld ld, tt))
    by_tests false false e = tt

fine_at : (o : BinaryOp) (k : ℕ) → FineIm (immediate o k)
fine_at Add k = near_fine k _ (λ d q ld lq. ((ld, lq, low_small k), tt))
fine_at Sub k = near_fine (negated k) _ (λ d q ld lq. ((ld, lq, low_small (negated k)), tt))
fine_at Lt k = near_fine k _ (λ d q ld lq. ((ld, lq, low_small k), tt))
fine_at Le k = near_fine ((k + 1) % 2 ^ 32) _ (λ d q ld lq. ((ld, lq, low_small ((k + 1) % 2 ^ 32)), tt))
fine_at Ge k = near_fine k _ (λ d q ld lq. ((ld, lq, low_small k), ((ld, ld, omega arith), tt)))
fine_at Eq k = equal_fine (λ d q. Sltiu d q 1) k (λ d q ld lq. (ld, lq, omega arith))
fine_at Ne k = equal_fine (λ d q. Sltu d 0 q) k (λ d q ld lq. (ld, omega arith, lq))
fine_at Gt k = tt
fine_at Mul k = tt
fine_at Div k = tt
fine_at Rem k = tt
fine_at And k = tt
fine_at Or k = tt

fine_of : (o : BinaryOp) (k : Option ℕ) → FineIm (immediate_of o k)
fine_of o None = tt
fine_of o (Some k) = fine_at o k

operator_fine : (o : BinaryOp) (d q t : ℕ) → d < 32 → q < 32 → t < 32 → Ranged (operator_code o d q t)
operator_fine Add d q t ld lq lt = ((ld, lq, lt), tt)
operator_fine Sub d q t ld lq lt = ((ld, lq, lt), tt)
operator_fine Mul d q t ld lq lt = ((lq, lt), (ld, tt))
operator_fine Div d q t ld lq lt = tt
operator_fine Rem d q t ld lq lt = tt
operator_fine Lt d q t ld lq lt = ((ld, lq, lt), tt)
operator_fine Gt d q t ld lq lt = ((ld, lt, lq), tt)
operator_fine Le d q t ld lq lt = ((ld, lt, lq), ((ld, ld, omega arith), tt))
operator_fine Ge d q t ld lq lt = ((ld, lq, lt), ((ld, ld, omega arith), tt))
operator_fine Eq d q t ld lq lt = ((ld, lq, lt), ((ld, ld, omega arith), tt))
operator_fine Ne d q t ld lq lt = ((ld, lq, lt), ((ld, omega arith, ld), tt))
operator_fine And d q t ld lq lt = tt
operator_fine Or d q t ld lq lt = tt

operators : (im : Immediate) (o : BinaryOp) (a b : Made) (na nb : ℕ) → FineIm im → Fine a na → Fine b nb
    → Fine (operator_made im o a b) (max na (nb + 1))
operators (Some g) o a b na nb f h k = values (λ d r. one_code (λ q. g d q) a r) (max na (nb + 1)) (let s = h.some in omega (arith, s)) (λ d r l le. one_fine (λ q. g d q) a na r h (omega (arith, le)) (λ q lq. f d q l lq))
operators None o a b na nb f h k = values (λ d r. two_code (λ q t. operator_code o d q t) a b r) (max na (nb + 1)) (let s = h.some in omega (arith, s)) (λ d r l le. two_fine (λ q t. operator_code o d q t) a b na nb r h k (omega (arith, le)) (omega (arith, le)) (λ q t lq lt. operator_fine o d q t l lq lt))

sums : (i j : Immediate) (a b : Made) (na nb : ℕ) → FineIm i → FineIm j → Fine a na → Fine b nb → Fine (sum_made i j a b) (max na (nb + 1))
sums (Some g) j a b na nb f e h k = values (λ d r. one_code (λ q. g d q) a r) (max na (nb + 1)) (let s = h.some in omega (arith, s)) (λ d r l le. one_fine (λ q. g d q) a na r h (omega (arith, le)) (λ q lq. f d q l lq))
sums None (Some g) a b na nb f e h k = values (λ d r. one_code (λ q. g d q) b r) (max na (nb + 1)) (let s = h.some in omega (arith, s)) (λ d r l le. one_fine (λ q. g d q) b nb r k (omega (arith, le)) (λ q lq. e d q l lq))
sums None None a b na nb f e h k = values (λ d r. two_code (λ q t. Addu d q t ∷ []) a b r) (max na (nb + 1)) (let s = h.some in omega (arith, s)) (λ d r l le. two_fine (λ q t. Addu d q t ∷ []) a b na nb r h k (omega (arith, le)) (omega (arith, le)) (λ q t lq lt. ((l, lq, lt), tt)))

module _ (sc : Scope) (exits : (f : KernelFault) → sc.exit f < 2 ^ 26) where
  divisor_fine : (untested : Bool) (t : ℕ) → t < 32 → Ranged (divisor_code sc untested t)
  divisor_fine true t h = tt
  divisor_fine false t h = ((h, omega arith, omega arith), (exits DivZero, tt))

  divisions : (takes : ℕ → Inst) (a b : Made) (na nb : ℕ) → ((d : ℕ) → d < 32 → InRange (takes d)) → Fine a na → Fine b nb
      → Fine (division_made sc takes a b) (max na (nb + 1))
  divisions takes a b na nb f h k = values (λ d r. two_code (λ q t. divisor_code sc (is_never_zero b.known) t ++ (Divide q t ∷ takes d ∷ [])) a b r) (max na (nb + 1)) (let s = h.some in omega (arith, s))
      (λ d r l le. two_fine (λ q t. divisor_code sc (is_never_zero b.known) t ++ (Divide q t ∷ takes d ∷ [])) a b na nb r h k (omega (arith, le)) (omega (arith, le)) (λ q t lq lt. both (divisor_code sc (is_never_zero b.known) t) _ (divisor_fine (is_never_zero b.known) t lt) ((lq, lt), (f d l, tt))))

  logics : (skip : ℕ → ℕ → Inst) (a b : Made) (na nb : ℕ) → ((r k : ℕ) → r < 32 → k < 2 ^ 16 → InRange (skip r k)) → Fine a na → Fine b nb
      → Fine (only_value (λ d r. logic_code (λ k. skip r k) a b d r)) (max na nb)
  logics skip a b na nb f h k = values (λ d r. logic_code (λ k. skip r k) a b d r) (max na nb) (let s = h.some in omega (arith, s)) (λ d r l le.
      let s = h.some in
      let low : r < 32 = omega (arith, s, le) in
      both (a.value r r) _ (h.value r r low (omega (arith, le))) (f r _ low (omega arith), both (b.value r r) _ (k.value r r low (omega (arith, le))) (to_fine d r l low)))

  binaries : (o : BinaryOp) (a b : Made) (na nb : ℕ) → Fine a na → Fine b nb → Fine (binary_made sc o a b) (binary_need o na nb)
  binaries And a b na nb h k = logics (λ r z. Beq r 0 z) a b na nb (λ r k l m. (l, omega arith, m)) h k
  binaries Or a b na nb h k = logics (λ r z. Bne r 0 z) a b na nb (λ r k l m. (l, omega arith, m)) h k
  binaries Add a b na nb h k = sums (immediate_of Add b.known) (immediate_of Add a.known) a b na nb (fine_of Add b.known) (fine_of Add a.known) h k
  binaries Sub a b na nb h k = operators (immediate_of Sub b.known) Sub a b na nb (fine_of Sub b.known) h k
  binaries Mul a b na nb h k = operators None Mul a b na nb tt h k
  binaries Div a b na nb h k = divisions (λ d. Mflo d) a b na nb (λ d l. l) h k
  binaries Rem a b na nb h k = divisions (λ d. Mfhi d) a b na nb (λ d l. l) h k
  binaries Lt a b na nb h k = operators (immediate_of Lt b.known) Lt a b na nb (fine_of Lt b.known) h k
  binaries Le a b na nb h k = operators (immediate_of Le b.known) Le a b na nb (fine_of Le b.known) h k
  binaries Gt a b na nb h k = operators None Gt a b na nb tt h k
  binaries Ge a b na nb h k = operators (immediate_of Ge b.known) Ge a b na nb (fine_of Ge b.known) h k
  binaries Eq a b na nb h k = operators (immediate_of Eq b.known) Eq a b na nb (fine_of Eq b.known) h k
  binaries Ne a b na nb h k = operators (immediate_of Ne b.known) Ne a b na nb (fine_of Ne b.known) h k

  negatives : (o : Option ℕ) (m : Made) (need : ℕ) → Fine m need → Fine (negative_made o m) need
  negatives (Some n) m need h = constant_fine (negated n) need None h.some
  negatives None m need h = values (λ d r. one_code (λ q. Subu d 0 q ∷ []) m r) need h.some (λ d r l le. one_fine (λ q. Subu d 0 q ∷ []) m need r h le (λ q lq. ((l, omega arith, lq), tt)))

  unaries : (o : UnaryOp) (m : Made) (need : ℕ) → Fine m need → Fine (unary_made o m) need
  unaries Negate m need h = negatives m.literal m need h
  unaries Not m need h = values (λ d r. one_code (λ q. Xori d q 1 ∷ []) m r) need h.some (λ d r l le. one_fine (λ q. Xori d q 1 ∷ []) m need r h le (λ q lq. ((l, lq, omega arith), tt)))

  null_fine : (sure : Bool) (q : ℕ) → q < 32 → Ranged (null_test sc.exit sure q)
  null_fine true q h = tt
  null_fine false q h = ((h, omega arith, omega arith), (exits NullUse, tt))

  targets : (sure : Bool) (m : Made) (need r : ℕ) → Fine m need → r + need ≤ 32 → FineAddress (target_address sc sure m r)
  targets sure m need r h le = record { code = both (operand_code m r) _ (operands m need r h le) (null_fine sure (operand_register m r) (registers m need r h le)); base = registers m need r h le }

  tested : (w n : ℕ) (x : AddressingMode) (m : Made) (nm r : ℕ) → FineAddress x → Fine m nm → r + 1 + nm ≤ 32 → FineAddress (tested_address sc w n x m r)
  tested w n x m nm r h g le =
      let q = registers m nm (r + 1) g le in
      let low : r < 32 = omega (arith, le) in
      record {
        code = both x.code _ h.code (both (operand_code m (r + 1)) _ (operands m nm (r + 1) g le) (both (bound_code (operand_register m (r + 1)) n) _ (bounds (operand_register m (r + 1)) n q)
            ((omega arith, omega arith, omega arith), (exits Bounds, both (scale_code w (operand_register m (r + 1))) _ (scales w (operand_register m (r + 1)) q) ((low, h.base, omega arith), tt)))));
        base = low;
      }

  elements : (o : Option ℕ) (w n : ℕ) (x : AddressingMode) (m : Made) (nm r : ℕ) → FineAddress x → Fine m nm → r + 1 + nm ≤ 32
      → FineAddress (element_address sc w n o x m r)
  elements None w n x m nm r h g le = tested w n x m nm r h g le
  elements (Some c) w n x m nm r h g le = by_test (nat_lt c n)
    where
      by_test : (b : Bool) → FineAddress (cond b (displaced (4 * (c * w)) x) (tested_address sc w n x m r))
      by_test true = record { code = h.code; base = h.base }
      by_test false = tested w n x m nm r h g le

  pub fine : (fs : Facts) (e : CExpr) → Fine (made sc fs e) (need e)
  fine fs (num p n) = constant_fine n 1 (Some n) (omega arith)
  fine fs (true_ p) = constant_fine 1 1 None (omega arith)
  fine fs (false_ p) = constant_fine 0 1 None (omega arith)
  fine fs (null p) = constant_fine 0 1 None (omega arith)
  fine fs (var x) = variables sc fs x.kind x.number
  fine fs (field p e f) = places _ (need e) (need_some e) (λ r le. let h = (fine fs e).place r le in record { code = h.code; base = h.base })
  fine fs (arrow p e f) = places _ (need e) (need_some e) (λ r le. let h = targets (is_sure_pointer fs (typed_of_expr sc.env e)) (made sc fs e) (need e) r (fine fs e) le in record { code = h.code; base = h.base })
  fine fs (index p e i) = places _ (max (need e) (need i + 1)) (let s = need_some e in omega (arith, s)) (λ r le. elements (made sc fs i).literal (element_words sc.env.structs (type_at sc.env e)) (length_in (type_at sc.env e)) ((made sc fs e).place r) (made sc fs i) (need i) r ((fine fs e).place r (omega (arith, le))) (fine fs i) (omega (arith, le)))
  fine fs (deref p e) = places _ (need e) (need_some e) (λ r le. targets (is_sure_pointer fs (typed_of_expr sc.env e)) (made sc fs e) (need e) r (fine fs e) le)
  fine fs (address p e) = values _ (need e) (need_some e) (λ d r l le. let s = need_some e in accesses (λ b k. Addiu d b k) r ((made sc fs e).place r) (omega (arith, s, le)) ((fine fs e).place r le) (λ b k low m. (l, low, m)))
  fine fs (unary p o e) = unaries o (made sc fs e) (need e) (fine fs e)
  fine fs (binary p o a b) = binaries o (made sc fs a) (made sc (right_facts o (typed_of_expr sc.env a) fs) b) (need a) (need b) (fine fs a) (fine (right_facts o (typed_of_expr sc.env a) fs) b)

  -- tests
  branch_fine : (s : Bool) (q t far : ℕ) → q < 32 → t < 32 → far < 2 ^ 16 → InRange (branch_code s q t far)
  branch_fine true q t far lq lt l = (lq, lt, l)
  branch_fine false q t far lq lt l = (lq, lt, l)

  negative_fine : (s : Bool) (q far : ℕ) → q < 32 → far < 2 ^ 16 → InRange (negative_branch s q far)
  negative_fine true q far lq l = (lq, l)
  negative_fine false q far lq l = (lq, l)

  positive_fine : (s : Bool) (q far : ℕ) → q < 32 → far < 2 ^ 16 → InRange (positive_branch s q far)
  positive_fine true q far lq l = (lq, l)
  positive_fine false q far lq l = (lq, l)

  compare_fine : (o : BinaryOp) (s : Bool) (far q t : ℕ) → far < 2 ^ 16 → q < 32 → t < 32 → Ranged (compare_code o s far q t)
  compare_fine Eq s far q t l lq lt = (branch_fine s q t far lq lt l, tt)
  compare_fine Ne s far q t l lq lt = (branch_fine (not s) q t far lq lt l, tt)
  compare_fine Lt s far q t l lq lt = ((omega arith, lq, lt), (branch_fine (not s) 1 0 far (omega arith) (omega arith) l, tt))
  compare_fine Gt s far q t l lq lt = ((omega arith, lt, lq), (branch_fine (not s) 1 0 far (omega arith) (omega arith) l, tt))
  compare_fine Le s far q t l lq lt = ((omega arith, lt, lq), (branch_fine s 1 0 far (omega arith) (omega arith) l, tt))
  compare_fine Ge s far q t l lq lt = ((omega arith, lq, lt), (branch_fine s 1 0 far (omega arith) (omega arith) l, tt))
  compare_fine Add s far q t l lq lt = tt
  compare_fine Sub s far q t l lq lt = tt
  compare_fine Mul s far q t l lq lt = tt
  compare_fine Div s far q t l lq lt = tt
  compare_fine Rem s far q t l lq lt = tt
  compare_fine And s far q t l lq lt = tt
  compare_fine Or s far q t l lq lt = tt

  abbrev FineTest : ImmediateTest → Type 0
  FineTest None = Unit {0}
  FineTest (Some g) = (s : Bool) (far q : ℕ) → far < 2 ^ 16 → q < 32 → Ranged (g s far q)

  by_tests : (b c : Bool) (f g : Bool → ℕ → ℕ → List Inst) → FineTest (Some f) → FineTest (Some g) → FineTest (cond b (Some f) (cond c (Some g) None))
  by_tests true c f g h i = h
  by_tests false true f g h i = i
  by_tests false false f g h i = tt

  below_fine : (k : ℕ) → FineTest (Some (λ s far q. below_code k s far q))
  below_fine k s far q l lq = ((omega arith, lq, low_small k), (branch_fine (not s) 1 0 far (omega arith) (omega arith) l, tt))

  test_at : (o : BinaryOp) (k : ℕ) → FineTest (immediate_test o k)
  test_at Lt k = by_tests (nat_eq k 0) (is_near k) _ _ (λ s far q l lq. (negative_fine s q far lq l, tt)) (λ s far q l lq. below_fine k s far q l lq)
  test_at Ge k = by_tests (nat_eq k 0) (is_near k) _ _ (λ s far q l lq. (negative_fine (not s) q far lq l, tt)) (λ s far q l lq. below_fine k (not s) far q l lq)
  test_at Gt k = by_tests (nat_eq k 0) (is_near ((k + 1) % 2 ^ 32)) _ _ (λ s far q l lq. (positive_fine s q far lq l, tt)) (λ s far q l lq. below_fine ((k + 1) % 2 ^ 32) (not s) far q l lq)
  test_at Le k = by_tests (nat_eq k 0) (is_near ((k + 1) % 2 ^ 32)) _ _ (λ s far q l lq. (positive_fine (not s) q far lq l, tt)) (λ s far q l lq. below_fine ((k + 1) % 2 ^ 32) s far q l lq)
  test_at Eq k = tt
  test_at Ne k = tt
  test_at Add k = tt
  test_at Sub k = tt
  test_at Mul k = tt
  test_at Div k = tt
  test_at Rem k = tt
  test_at And k = tt
  test_at Or k = tt

  test_of : (o : BinaryOp) (k : Option ℕ) → FineTest (immediate_test_of o k)
  test_of o None = tt
  test_of o (Some k) = test_at o k

  -- a test's code, with so many registers
  abbrev pub Tests : Testing → ℕ → Type 0
  Tests code n = (s : Bool) (far r : ℕ) → far < 2 ^ 16 → r + n ≤ 32 → Ranged (code s far r)

  plains : (m : Made) (n : ℕ) → Fine m n → Tests (plain_test m) n
  plains m n h s far r l le = one_fine (λ q. branch_code (not s) q 0 far ∷ []) m n r h le (λ q lq. (branch_fine (not s) q 0 far lq (omega arith) l, tt))

  compares : (im : ImmediateTest) (o : BinaryOp) (a b : Made) (na nb : ℕ) → FineTest im → Fine a na → Fine b nb
      → Tests (compare_test im o a b) (max na (nb + 1))
  compares (Some g) o a b na nb f h k s far r l le = one_fine (λ q. g s far q) a na r h (omega (arith, le)) (λ q lq. f s far q l lq)
  compares None o a b na nb f h k s far r l le = two_fine (λ q t. compare_code o s far q t) a b na nb r h k (omega (arith, le)) (omega (arith, le)) (λ q t lq lt. compare_fine o s far q t l lq lt)

  boths : (decides : Bool) (x y : Testing) (na nb : ℕ) → Tests x na → Tests y nb → Tests (λ s far r. both_code decides s x y far r) (max na nb)
  boths true x y na nb h k true far r l le = both _ (y true far r) (h true _ r (omega arith) (omega (arith, le))) (k true far r l (omega (arith, le)))
  boths true x y na nb h k false far r l le = both _ (y false far r) (h true _ r (omega arith) (omega (arith, le))) (k false far r l (omega (arith, le)))
  boths false x y na nb h k true far r l le = both _ (y true far r) (h false _ r (omega arith) (omega (arith, le))) (k true far r l (omega (arith, le)))
  boths false x y na nb h k false far r l le = both _ (y false far r) (h false _ r (omega arith) (omega (arith, le))) (k false far r l (omega (arith, le)))

  binary_tests : (o : BinaryOp) (m a b : Made) (x y : Testing) (na nb : ℕ) → Fine m (binary_need o na nb) → Fine a na → Fine b nb → Tests x na
      → Tests y nb → Tests (binary_test o m a b x y) (binary_need o na nb)
  binary_tests And m a b x y na nb f h k i j = boths false x y na nb i j
  binary_tests Or m a b x y na nb f h k i j = boths true x y na nb i j
  binary_tests Lt m a b x y na nb f h k i j = compares (immediate_test_of Lt b.known) Lt a b na nb (test_of Lt b.known) h k
  binary_tests Le m a b x y na nb f h k i j = compares (immediate_test_of Le b.known) Le a b na nb (test_of Le b.known) h k
  binary_tests Gt m a b x y na nb f h k i j = compares (immediate_test_of Gt b.known) Gt a b na nb (test_of Gt b.known) h k
  binary_tests Ge m a b x y na nb f h k i j = compares (immediate_test_of Ge b.known) Ge a b na nb (test_of Ge b.known) h k
  binary_tests Eq m a b x y na nb f h k i j = compares None Eq a b na nb tt h k
  binary_tests Ne m a b x y na nb f h k i j = compares None Ne a b na nb tt h k
  binary_tests Add m a b x y na nb f h k i j = plains m (max na (nb + 1)) f
  binary_tests Sub m a b x y na nb f h k i j = plains m (max na (nb + 1)) f
  binary_tests Mul m a b x y na nb f h k i j = plains m (max na (nb + 1)) f
  binary_tests Div m a b x y na nb f h k i j = plains m (max na (nb + 1)) f
  binary_tests Rem m a b x y na nb f h k i j = plains m (max na (nb + 1)) f

  pub tests : (fs : Facts) (e : CExpr) → Tests (test_code sc fs e) (need e)
  tests fs (unary p Not e) s far r l le = tests fs e (not s) far r l le
  tests fs (unary p Negate e) s far r l le = plains (made sc fs (unary p Negate e)) (need e) (fine fs (unary p Negate e)) s far r l le
  tests fs (binary p o a b) s far r l le = binary_tests o (made sc fs (binary p o a b)) (made sc fs a) (made sc (right_facts o (typed_of_expr sc.env a) fs) b) (test_code sc fs a) (test_code sc (right_facts o (typed_of_expr sc.env a) fs) b) (need a) (need b) (fine fs (binary p o a b)) (fine fs a) (fine (right_facts o (typed_of_expr sc.env a) fs) b) (tests fs a) (tests (right_facts o (typed_of_expr sc.env a) fs) b) s far r l le
  tests fs e s far r l le = plains (made sc fs e) (need e) (fine fs e) s far r l le

  pub value_in_range : (fs : Facts) (e : CExpr) (d r : ℕ) → d < 32 → r + need e ≤ 32 → All InRange ((made sc fs e).value d r)
  value_in_range fs e d r l le = all_of ((made sc fs e).value d r) ((fine fs e).value d r l le)

  pub operand_in_range : (fs : Facts) (e : CExpr) (r : ℕ) → r + need e ≤ 32 → All InRange (operand_code (made sc fs e) r)
  operand_in_range fs e r le = all_of (operand_code (made sc fs e) r) (operands (made sc fs e) (need e) r (fine fs e) le)

  pub register_in_range : (fs : Facts) (e : CExpr) (r : ℕ) → r + need e ≤ 32 → operand_register (made sc fs e) r < 32
  register_in_range fs e r le = registers (made sc fs e) (need e) r (fine fs e) le

  pub store_in_range : (fs : Facts) (e : CExpr) (q r : ℕ) → q < 32 → r + need e ≤ 32 → All InRange (store_code q r ((made sc fs e).place r))
  store_in_range fs e q r l le = let s = need_some e in all_of (store_code q r ((made sc fs e).place r)) (accesses (λ b k. Sw q b k) r ((made sc fs e).place r) (omega (arith, s, le)) ((fine fs e).place r le) (λ b k low m. (l, low, m)))

  pub place_in_range : (fs : Facts) (e : CExpr) (r : ℕ) → r + need e ≤ 32 → All InRange ((made sc fs e).place r).code
  place_in_range fs e r le = all_of ((made sc fs e).place r).code ((fine fs e).place r le).code

  pub test_in_range : (fs : Facts) (e : CExpr) (s : Bool) (far r : ℕ) → far < 2 ^ 16 → r + need e ≤ 32 → All InRange (test_code sc fs e s far r)
  test_in_range fs e s far r l le = all_of (test_code sc fs e s far r) (tests fs e s far r l le)
