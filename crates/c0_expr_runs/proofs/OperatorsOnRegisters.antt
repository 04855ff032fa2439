-- Operators on values in registers.
use Rattle.std.specs.Prelude.{ℤ, Result, Ok, int_lt, int_le, neg_ℤ, ◌+ℤ◌, ◌-ℤ◌, FitsSigned, bit_xor, ◌*ℤ◌, Err, unsigned_abs, pos, negsuc, int_div, int_rem}
use Rattle.std.specs.Int.{int_wrap, w32}
use Rattle.std.specs.Str.{bytes_eq}
use Rattle.std.proofs.Common.{◌≡◌, ◌≢◌, inl, inr, ◌⊎◌, ℕ, ◌+◌, ◌*◌, ◌%◌, ◌^◌, ◌<◌, ◌≤◌, Bool, true, false, not, ◌&&◌, nat_eq, nat_lt, Some, List, [], ◌∷◌, ◌++◌, length, refl, sym, ap, ap₂, ◌∙◌, subst, arith, length-append, eq-eqb, ne_eqb, zero, suc, ◌/◌}
use Rattle.std.proofs.lemmas.Bool.{cases_eq, and_parts, and_from, false_from_ne_true}
use Rattle.std.proofs.lemmas.Int.{SFits-int_wrap, to_z-of_z, of_z-to_z, ints}
use Rattle.std.proofs.lemmas.Slice.Eq.{bytes_eq-Decides}
use Rattle.mips_table.specs.declared.inst.Inst.{Inst}
use Rattle.mips_table.specs.declared.inst.Inst.TheVariants.{Div as Divide, Addu, Subu, Xor, Slt, Sltu, Sltiu, Xori, Beq, Bne, Mult, Mflo, Mfhi}
use Rattle.mips_table.specs.Arith.{sum, difference, less, flag, extended, upper, lower, signed_product, signed_quotient, signed_remainder}
use Rattle.mips_table.specs.Effect.{branch}
use Rattle.mips_table.specs.Device.{Idle}
use Rattle.mips_table.specs.Code.{Contents, reg, with_reg, Behind, World, at_with, Reaches, CodeAt, with_wide, CodeState}
use Rattle.c0_tree.specs.declared.tree.UnaryOp.TheVariants.{Negate, Not}
use Rattle.c0_tree.specs.declared.tree.BinaryOp.{BinaryOp}
use Rattle.c0_tree.specs.declared.tree.BinaryOp.TheVariants.{Add, Sub, Lt, Le, Gt, Ge, Mul, Div, Rem}
use Rattle.c0_meaning.specs.Ty.{Ty, is_scalar}
use Rattle.c0_meaning.specs.Judgement.{IsOrdering, lt, le, gt, ge, IsEquality, eq, ne}
use Rattle.c0_meaning.specs.Value.{Region, globals, heap, locals, Location, Value, int, bool, null, at, group}
use Rattle.c0_meaning.specs.State.{C0State}
use Rattle.c0_meaning.specs.Operators.{Failure, same_region, same, on_unary, on_binary, faulted, stuck, divided, DivZero}
use Rattle.c0_meaning.specs.Evaluation.{Costed, at_no_cost, paying, ◌>>=◌, truth, bool_of, costs}
use Rattle.c0_meaning.specs.TypedState.{Fits, PointsTo}
use Rattle.masm.specs.Says.{Gives as Becomes, Widens}
use Rattle.c0_expr_runs.proofs.CodeRuns.{Machine, joined, later, stays, code_front, code_back, said_step, differ_goes, taken, passed}
use Rattle.cvm_words.specs.Words.{word_of, quotient, remainder}
use Rattle.c0_expr_code.specs.declared.facts.Facts.{Facts}
use Rattle.c0_expr_code.specs.Scope.{Scope}
use Rattle.c0_expr_runs.specs.Bases.{Bases, location_word, word_of_scalar}
use Rattle.c0_expr_code.specs.Code.{Made, operand_code, operand_register, two_code, one_code, to_code, logic_code, operator_code, divisor_code}
use Rattle.c0_expr_runs.specs.Relation.{layout, StateIsTyped, ReadyWith, KeepsRegisters, Area, Evaluates, HoldsValue, ValueRuns, OperandRuns}
use Rattle.c0_expr_runs.proofs.WordsOfValues.{plain, word_sum, word_difference, word_negative, word_less, xor_tests, xor_differs, int_words, bool_words, not_flag, not_less}
use Rattle.c0_expr_runs.proofs.SideBySide.{same_read, keeps_all, keeps_on, keeps_in, keeps_put, keeps_low, with_on, Answered, answered as answered_by, source_kept, node, after, binds, says, onward, ends_at, arrives, other_reg, faults, jumps}
use Rattle.c0_expr_runs.proofs.NodesEvaluate.{word_small, pointer_room, skips, falls, brings}
use Rattle.c0_meaning.specs.Ty as ty
use Rattle.std.proofs.Math.Nat.{div-le_self}
use Rattle.c0_expr_runs.proofs.ProductsOfWords.{word_product}
use Rattle.c0_expr_runs.proofs.OperatorsGiveInts.{int_of_fits, remainder_fits}

-- `+ - *`
pub data IsRing : BinaryOp → Type 0 where
  add : IsRing Add
  sub : IsRing Sub
  mul : IsRing Mul

negated_small : (n : ℕ) → n ≤ 2 ^ 31 → word_of (neg_ℤ (pos n)) < 2 ^ 32
negated_small zero h = omega arith
negated_small (suc n) h = omega arith

quotient_small : (x y : ℤ) → FitsSigned w32 x → word_of (int_div x y) < 2 ^ 32
quotient_small (pos a) (pos b) f = let g = f.sfits in let h = div-le_self a b in omega (arith, ints, g, h)
quotient_small (pos a) (negsuc b) f = let g = f.sfits in let h = div-le_self a (suc b) in negated_small (a / suc b) (omega (arith, g, h))
quotient_small (negsuc a) (pos b) f = let g = f.sfits in let h = div-le_self (suc a) b in negated_small (suc a / b) (omega (arith, g, h))
quotient_small (negsuc a) (negsuc b) f = let g = f.sfits in let h = div-le_self (suc a) (suc b) in omega (arith, ints, g, h)

-- what is known of the answer of an evaluation
abbrev pub Answers : (Value → Type 0) → Costed Value → Type 0
Answers P (costs u (Ok v)) = P v
Answers P (costs u (Err e)) = Unit {0}

pub any_answer : (e : Costed Value) → Answers (λ v. Unit {0}) e
any_answer (costs u (Ok v)) = tt
any_answer (costs u (Err e)) = tt

answered : (w : World) (sc : Scope) (m from to : ℕ) (c : Contents) (k : Behind) (Q : Value → Contents → Type 0) (P : Value → Type 0) (e : Costed Value) → Answers P e → Evaluates w sc m from to c k Q e → Evaluates w sc m from to c k (λ v c'. P v × Q v c') e
answered w sc m from to c k Q P (costs u (Ok x)) a h = (h.0, (a, h.1), h.2)
answered w sc m from to c k Q P (costs u (Err (faulted f))) a h = h
answered w sc m from to c k Q P (costs u (Err stuck)) a h = absurd h

not_zero : (y : ℤ) → FitsSigned w32 y → 0 < unsigned_abs y → word_of y ≡ 0 → ⊥
not_zero (pos n) f some e = absurd (omega (arith, ints, some, e))
not_zero (negsuc n) f some e = let g = f.sfits in absurd (omega (arith, ints, g, e))

module _ (w : World) (sc : Scope) (p : Bases) (live : ℕ → Bool) (s : C0State) (f : Machine w) (area : Area w sc p) (is_typed : StateIsTyped sc p s) where
  -- what an operator's own code does, from a state in which both sides are in registers
  abbrev pub FinishesFor : (Value → Type 0) → (ℕ → ℕ → List Inst) → ℕ → ℕ → Ty → Ty → Ty → (Value → Value → Result Value Failure) → Type 0
  FinishesFor P code d r t u z on = (x y : Value) → P y → (q g n : ℕ) (a : Contents) (k : Behind) → k.pending ≡ Idle
      → Fits sc.env.structs (layout sc p) t x → Fits sc.env.structs (layout sc p) u y → reg a.regs q ≡ word_of_scalar sc p x → reg a.regs g ≡ word_of_scalar sc p y
      → CodeAt w n (code q g) →
      Evaluates w sc 5 n (n + length (code q g)) a k (HoldsValue sc p d r d z a) (at_no_cost (on x y))

  abbrev pub Finishes : (ℕ → ℕ → List Inst) → ℕ → ℕ → Ty → Ty → Ty → (Value → Value → Result Value Failure) → Type 0
  Finishes code d r t u z on = FinishesFor (λ y. Unit {0}) code d r t u z on

  -- both sides, and then the operator
  pub twos : (fs : Facts) (P : Value → Type 0) (code : ℕ → ℕ → List Inst) (ma mb : Made) (na nb : ℕ) (on : Value → Value → Result Value Failure) (t u z : Ty) (d r n : ℕ) (c : Contents) (k : Behind) (x y : Costed Value) → k.pending ≡ Idle → 8 ≤ r → r + na ≤ 20 → r + (nb + 1) ≤ 20 → 1 ≤ nb → ReadyWith sc p live fs s c → CodeAt w n (two_code code ma mb r) →
      OperandRuns w sc p live fs s ma na t x → OperandRuns w sc p live fs s mb nb u y → Answers P y → FinishesFor P code d r t u z on → Evaluates w sc 0 n (n + length (two_code code ma mb r)) c k (HoldsValue sc p d r d z c) (paying 1 (x >>= λ v. y >>= λ w. at_no_cost (on v w)))
  twos fs P code ma mb na nb on t u z d r n c k x y idle lo ha hb some ready there oa ob answers finish =
      let qa = operand_register ma r in
      let qb = operand_register mb (r + 1) in
      let is = operand_code ma r in
      let js = operand_code mb (r + 1) in
      let ks = code (operand_register ma r) (operand_register mb (r + 1)) in
      let a = oa r n c k idle ready (code_front w n (operand_code ma r) (operand_code mb (r + 1) ++ code (operand_register ma r) (operand_register mb (r + 1))) there) lo ha in
      let rest = code_back w n (operand_code ma r) (operand_code mb (r + 1) ++ code (operand_register ma r) (operand_register mb (r + 1))) there in
      let last = code_back w (n + length (operand_code ma r)) (operand_code mb (r + 1)) (code (operand_register ma r) (operand_register mb (r + 1))) rest in
      let to : ℕ = n + length (two_code code ma mb r) in
      let len : n + length (operand_code ma r) + length (operand_code mb (r + 1)) + length (code (operand_register ma r) (operand_register mb (r + 1))) ≡ n + length (two_code code ma mb r) = omega (arith, length-append (operand_code ma r) (operand_code mb (r + 1) ++ code (operand_register ma r) (operand_register mb (r + 1))), length-append (operand_code mb (r + 1)) (code (operand_register ma r) (operand_register mb (r + 1)))) in
      node w sc 5 n (n + length (two_code code ma mb r)) c k (HoldsValue sc p d r d z c) (x >>= λ v. y >>= λ w. at_no_cost (on v w)) (omega arith)
      (binds w sc 0 5 n (n + length (operand_code ma r)) (n + length (two_code code ma mb r)) c k (HoldsValue sc p (operand_register ma r) r r t c) (HoldsValue sc p d r d z c) x _ a.1
      (λ v b g. keeps_low r r c b (omega arith) g.keeps)
      (λ v b g.
      let ready_b = with_on sc p live fs s c b r lo (omega arith) g.keeps ready in
      let o = ob (r + 1) (n + length (operand_code ma r)) b k idle ready_b (code_front w _ (operand_code mb (r + 1)) (code (operand_register ma r) (operand_register mb (r + 1))) rest) (omega arith) (omega arith) in
      binds w sc 0 5 (n + length (operand_code ma r)) (n + length (operand_code ma r) + length (operand_code mb (r + 1))) (n + length (two_code code ma mb r)) b k (λ v c'. P v × HoldsValue sc p (operand_register mb (r + 1)) (r + 1) (r + 1) u b v c') (HoldsValue sc p d r d z c) y _ (answered w sc 0 _ _ b k (HoldsValue sc p (operand_register mb (r + 1)) (r + 1) (r + 1) u b) P y answers o.1)
      (λ e i h. keeps_low (r + 1) (r + 1) b i (omega arith) h.1.keeps)
      (λ e i h.
      let kept : KeepsRegisters r d c i = keeps_on r d c b i (keeps_in r r d c b (omega arith) (omega arith) g.keeps) (keeps_in r (r + 1) d b i (omega arith) (omega arith) h.1.keeps) in
      ends_at w sc 5 (n + length (operand_code ma r) + length (operand_code mb (r + 1))) _ (n + length (two_code code ma mb r)) i k (HoldsValue sc p d r d z c) (at_no_cost (on v e)) len
      (says w sc 5 _ _ i k (HoldsValue sc p d r d z i) (HoldsValue sc p d r d z c) (at_no_cost (on v e)) (λ x j m. record { is = m.is; fits = m.fits; keeps = keeps_on r d c i j kept m.keeps })
      (finish v e h.0 (operand_register ma r) (operand_register mb (r + 1)) _ i k idle g.fits h.1.fits (source_kept r (operand_register ma r) b i lo (omega arith) a.0 h.1.keeps ∙ g.is) h.1.is last)))))

  abbrev pub FinishesOne : (ℕ → List Inst) → ℕ → ℕ → Ty → Ty → (Value → Result Value Failure) → Type 0
  FinishesOne code d r t z on = (x : Value) (q n : ℕ) (a : Contents) (k : Behind) → k.pending ≡ Idle → Fits sc.env.structs (layout sc p) t x
      → reg a.regs q ≡ word_of_scalar sc p x → CodeAt w n (code q) → Evaluates w sc 5 n (n + length (code q)) a k (HoldsValue sc p d r d z a) (at_no_cost (on x))

  pub ones : (fs : Facts) (code : ℕ → List Inst) (m : Made) (need : ℕ) (on : Value → Result Value Failure) (t z : Ty) (d r n : ℕ) (c : Contents) (k : Behind) (x : Costed Value) → k.pending ≡ Idle → 8 ≤ r → r + need ≤ 20 → 1 ≤ need → ReadyWith sc p live fs s c → CodeAt w n (one_code code m r) →
      OperandRuns w sc p live fs s m need t x → FinishesOne code d r t z on → Evaluates w sc 0 n (n + length (one_code code m r)) c k (HoldsValue sc p d r d z c) (paying 1 (x >>= λ v. at_no_cost (on v)))
  ones fs code m need on t z d r n c k x idle lo hi some ready there o finish =
      let a = o r n c k idle ready (code_front w n (operand_code m r) (code (operand_register m r)) there) lo hi in
      let len : n + length (operand_code m r) + length (code (operand_register m r)) ≡ n + length (one_code code m r) = omega (arith, length-append (operand_code m r) (code (operand_register m r))) in
      node w sc 5 n (n + length (one_code code m r)) c k (HoldsValue sc p d r d z c) (x >>= λ v. at_no_cost (on v)) (omega arith)
      (binds w sc 0 5 n (n + length (operand_code m r)) (n + length (one_code code m r)) c k (HoldsValue sc p (operand_register m r) r r t c) (HoldsValue sc p d r d z c) x _ a.1
      (λ v b g. keeps_low r r c b (omega arith) g.keeps)
      (λ v b g.
      ends_at w sc 5 (n + length (operand_code m r)) _ (n + length (one_code code m r)) b k (HoldsValue sc p d r d z c) (at_no_cost (on v)) len
      (says w sc 5 _ _ b k (HoldsValue sc p d r d z b) (HoldsValue sc p d r d z c) (at_no_cost (on v)) (λ y j h. record { is = h.is; fits = h.fits; keeps = keeps_on r d c b j (keeps_in r r d c b (omega arith) (omega arith) g.keeps) h.keeps })
      (finish v (operand_register m r) _ b k idle g.fits g.is (code_back w n (operand_code m r) (code (operand_register m r)) there)))))

  -- one instruction, or two, that leave a word in d
  pub once : (d r v n : ℕ) (z : Ty) (x : Value) (a : Contents) (k : Behind) → d ≢ 0 → v ≡ word_of_scalar sc p x → Fits sc.env.structs (layout sc p) z x
      → Reaches w 1 (at_with n a k) (at_with (n + 1) (with_reg a d v) k) → Evaluates w sc 5 n (n + 1) a k (HoldsValue sc p d r d z a) (at_no_cost (Ok x))
  once d r v n z x a k nz e fits run = arrives w sc 5 n (n + 1) a (with_reg a d v) k (HoldsValue sc p d r d z a) x (record { is = same_read a.regs d v nz ∙ e; fits = fits; keeps = keeps_put r d v a }) (later w 1 5 _ _ (omega arith) run)

  pub twice : (d r u v n : ℕ) (z : Ty) (x : Value) (a : Contents) (k : Behind) → d ≢ 0 → v ≡ word_of_scalar sc p x → Fits sc.env.structs (layout sc p) z x
      → Reaches w 1 (at_with n a k) (at_with (n + 1) (with_reg a d u) k)
      → Reaches w 1 (at_with (n + 1) (with_reg a d u) k) (at_with (n + 1 + 1) (with_reg (with_reg a d u) d v) k)
      → Evaluates w sc 5 n (n + 2) a k (HoldsValue sc p d r d z a) (at_no_cost (Ok x))
  twice d r u v n z x a k nz e fits one two =
      let b : Contents = with_reg a d u in
      let end : n + 1 + 1 ≡ n + 2 = omega arith in
      ends_at w sc 5 n (n + 1 + 1) (n + 2) a k (HoldsValue sc p d r d z a) (at_no_cost (Ok x)) end
      (arrives w sc 5 n (n + 1 + 1) a (with_reg b d v) k (HoldsValue sc p d r d z a) x (record { is = same_read b.regs d v nz ∙ e; fits = fits; keeps = keeps_on r d a b (with_reg b d v) (keeps_put r d u a) (keeps_put r d v b) }) (later w 2 5 _ _ (omega arith) (joined w 1 1 _ _ _ one two)))

  -- one instruction that takes hi or lo
  widened : (d r hi lo v n to : ℕ) (z : Ty) (x : Value) (a : Contents) (k : Behind) → d ≢ 0 → v ≡ word_of_scalar sc p x → Fits sc.env.structs (layout sc p) z x
      → Reaches w 5 (at_with n a k) (at_with to (with_reg (with_wide a hi lo) d v) k)
      → Evaluates w sc 5 n to a k (HoldsValue sc p d r d z a) (at_no_cost (Ok x))
  widened d r hi lo v n to z x a k nz e fits run =
      arrives w sc 5 n to a (with_reg (with_wide a hi lo) d v) k (HoldsValue sc p d r d z a) x
      (record { is = same_read a.regs d v nz ∙ e; fits = fits; keeps = record { memory = refl; special = refl; below = λ x n m l. other_reg a.regs d v x m; above = λ x n l. other_reg a.regs d v x n } }) run

  moved_to : (m n i : ℕ) (s : CodeState) (c : Contents) (k : Behind) → m ≡ n → Reaches w i s (at_with m c k) → Reaches w i s (at_with n c k)
  moved_to m n i s c k e run = subst (λ t. Reaches w i s (at_with t c k)) e run

  -- operators on ints
  on_numbers : (code : ℕ → ℕ → List Inst) (d r : ℕ) (z : Ty) (on : Value → Value → Result Value Failure) →
      ((x y : ℤ) (q g n : ℕ) (a : Contents) (k : Behind) → k.pending ≡ Idle → FitsSigned w32 x → FitsSigned w32 y → reg a.regs q ≡ word_of x → reg a.regs g ≡ word_of y → CodeAt w n (code q g) → Evaluates w sc 5 n (n + length (code q g)) a k (HoldsValue sc p d r d z a) (at_no_cost (on (int x) (int y)))) →
      Finishes code d r ty.int ty.int z on
  on_numbers code d r z on h (int x) (int y) o q g n a k idle fx fy ex ey there = h x y q g n a k idle fx fy ex ey there
  on_numbers code d r z on h (int x) (bool b) o q g n a k idle fx fy ex ey there = absurd fy
  on_numbers code d r z on h (int x) null o q g n a k idle fx fy ex ey there = absurd fy
  on_numbers code d r z on h (int x) (at l) o q g n a k idle fx fy ex ey there = absurd fy
  on_numbers code d r z on h (int x) (group vs) o q g n a k idle fx fy ex ey there = absurd fy
  on_numbers code d r z on h (bool b) y o q g n a k idle fx fy ex ey there = absurd fx
  on_numbers code d r z on h null y o q g n a k idle fx fy ex ey there = absurd fx
  on_numbers code d r z on h (at l) y o q g n a k idle fx fy ex ey there = absurd fx
  on_numbers code d r z on h (group vs) y o q g n a k idle fx fy ex ey there = absurd fx

  pub sums : (o : BinaryOp) (d r : ℕ) → d ≢ 0 → IsRing o → Finishes (λ q g. operator_code o d q g) d r ty.int ty.int ty.int (on_binary o)
  sums _ d r nz add = on_numbers (λ q g. operator_code Add d q g) d r ty.int (on_binary Add) (λ x y q g n a k idle fx fy ex ey there.
      let v = word_of (int_wrap w32 (x +ℤ y)) in
      once d r (word_of (int_wrap w32 (x +ℤ y))) n ty.int (int (int_wrap w32 (x +ℤ y))) a k nz refl (SFits-int_wrap w32 _)
      (said_step w f (Addu d q g) (Becomes (word_of (int_wrap w32 (x +ℤ y)))) n a k there.0 refl idle (ap₂ sum ex ey ∙ word_sum x y fx fy)))
  sums _ d r nz sub = on_numbers (λ q g. operator_code Sub d q g) d r ty.int (on_binary Sub) (λ x y q g n a k idle fx fy ex ey there.
      once d r (word_of (int_wrap w32 (x -ℤ y))) n ty.int (int (int_wrap w32 (x -ℤ y))) a k nz refl (SFits-int_wrap w32 _)
      (said_step w f (Subu d q g) (Becomes (word_of (int_wrap w32 (x -ℤ y)))) n a k there.0 refl idle (ap₂ difference ex ey ∙ word_difference x y fx fy)))
  sums _ d r nz mul = on_numbers (λ q g. operator_code Mul d q g) d r ty.int (on_binary Mul) (λ x y q g n a k idle fx fy ex ey there.
      let product : lower (signed_product (reg a.regs q) (reg a.regs g)) ≡ word_of (int_wrap w32 (x *ℤ y)) = ap₂ (λ u v. lower (signed_product u v)) ex ey ∙ word_product x y fx fy in
      let one = said_step w f (Mult q g) (Widens (upper (signed_product (reg a.regs q) (reg a.regs g))) (word_of (int_wrap w32 (x *ℤ y)))) n a k there.0 refl idle (refl, product) in
      let two = said_step w f (Mflo d) (Becomes (word_of (int_wrap w32 (x *ℤ y)))) (n + 1) (with_wide a (upper (signed_product (reg a.regs q) (reg a.regs g))) (word_of (int_wrap w32 (x *ℤ y)))) k there.1.0 refl idle refl in
      widened d r (upper (signed_product (reg a.regs q) (reg a.regs g))) (word_of (int_wrap w32 (x *ℤ y))) (word_of (int_wrap w32 (x *ℤ y))) n (n + 2) ty.int (int (int_wrap w32 (x *ℤ y))) a k nz refl (SFits-int_wrap w32 _) (later w 2 5 _ _ (omega arith) (moved_to (n + 1 + 1) (n + 2) 2 (at_with n a k) _ k (omega arith) (joined w 1 1 _ _ _ one two))))

  -- a division: the divisor isn't 0, or it is tested
  quotient_word : (x y : ℤ) → FitsSigned w32 x → FitsSigned w32 y → signed_quotient (word_of x) (word_of y) ≡ word_of (quotient x y)
  quotient_word x y f g = ap₂ (λ a b. word_of (int_div a b)) (to_z-of_z w32 x f) (to_z-of_z w32 y g) ∙ sym (of_z-to_z w32 _ (quotient_small x y f))

  remainder_word : (x y : ℤ) → FitsSigned w32 x → FitsSigned w32 y → signed_remainder (word_of x) (word_of y) ≡ word_of (remainder x y)
  remainder_word x y f g = ap₂ (λ a b. word_of (int_rem a b)) (to_z-of_z w32 x f) (to_z-of_z w32 y g)

  -- what is taken of a division, with a step for it
  record Takes (i : Inst) (d : ℕ) (pick : ℕ → ℕ → ℕ) (div : ℤ → ℤ → ℤ) : Type 0 where
    picks : (n : ℕ) (a : Contents) (k : Behind) (hi lo : ℕ) → k.pending ≡ Idle → w.code n ≡ Some i
        → Reaches w 1 (at_with n (with_wide a hi lo) k) (at_with (n + 1) (with_reg (with_wide a hi lo) d (pick hi lo)) k)
    words : (x y : ℤ) → FitsSigned w32 x → FitsSigned w32 y
        → pick (signed_remainder (word_of x) (word_of y)) (signed_quotient (word_of x) (word_of y)) ≡ word_of (div x y)
    fits : (x y : ℤ) → FitsSigned w32 y → 0 < unsigned_abs y → FitsSigned w32 (div x y)

  takes_quotient : (d : ℕ) → Takes (Mflo d) d (λ hi lo. lo) quotient
  takes_quotient d = record {
    picks = λ n a k hi lo idle there. said_step w f (Mflo d) (Becomes lo) n (with_wide a hi lo) k there refl idle refl;
    words = quotient_word;
    fits = λ x y g some. int_of_fits (word_of (int_div x y));
  }

  takes_remainder : (d : ℕ) → Takes (Mfhi d) d (λ hi lo. hi) remainder
  takes_remainder d = record {
    picks = λ n a k hi lo idle there. said_step w f (Mfhi d) (Becomes hi) n (with_wide a hi lo) k there refl idle refl;
    words = remainder_word;
    fits = λ x y g some. remainder_fits x y g some;
  }

  -- the division itself
  parts : (i : Inst) (d r : ℕ) (pick : ℕ → ℕ → ℕ) (div : ℤ → ℤ → ℤ) → Takes i d pick div → d ≢ 0
      → (x y : ℤ) (q g n m : ℕ) (a : Contents) (k : Behind) → k.pending ≡ Idle → FitsSigned w32 x → FitsSigned w32 y → 0 < unsigned_abs y
      → reg a.regs q ≡ word_of x → reg a.regs g ≡ word_of y → CodeAt w m (Divide q g ∷ i ∷ []) →
      Reaches w 1 (at_with n a k) (at_with m a k) → Evaluates w sc 5 n (m + 2) a k (HoldsValue sc p d r d ty.int a) (at_no_cost (Ok (int (div x y))))
  parts i d r pick div takes nz x y q g n m a k idle fx fy some ex ey there before =
      let u : ℕ = signed_remainder (reg a.regs q) (reg a.regs g) in
      let v : ℕ = signed_quotient (reg a.regs q) (reg a.regs g) in
      let ne : reg a.regs g ≢ 0 = λ z. absurd (not_zero y fy some (sym ey ∙ z)) in
      let one = said_step w f (Divide q g) (Widens (signed_remainder (reg a.regs q) (reg a.regs g)) (signed_quotient (reg a.regs q) (reg a.regs g))) m a k there.0 refl idle (f.straight.division (Divide q g) a k (reg a.regs q) (reg a.regs g) (4 * m) a.hi a.lo ne) in
      let two = takes.picks (m + 1) a k (signed_remainder (reg a.regs q) (reg a.regs g)) (signed_quotient (reg a.regs q) (reg a.regs g)) idle there.1.0 in
      let e : pick (signed_remainder (reg a.regs q) (reg a.regs g)) (signed_quotient (reg a.regs q) (reg a.regs g)) ≡ word_of (div x y) = ap₂ (λ b c. pick (signed_remainder b c) (signed_quotient b c)) ex ey ∙ takes.words x y fx fy in
      widened d r (signed_remainder (reg a.regs q) (reg a.regs g)) (signed_quotient (reg a.regs q) (reg a.regs g)) (pick (signed_remainder (reg a.regs q) (reg a.regs g)) (signed_quotient (reg a.regs q) (reg a.regs g))) n (m + 2) ty.int (int (div x y)) a k nz e (takes.fits x y fy some)
      (later w 3 5 _ _ (omega arith) (joined w 1 2 _ _ _ before (moved_to (m + 1 + 1) (m + 2) 2 (at_with m a k) _ k (omega arith) (joined w 1 1 _ _ _ one two))))

  divisions : (o : BinaryOp) (i : Inst) (d r : ℕ) (pick : ℕ → ℕ → ℕ) (div : ℤ → ℤ → ℤ) → Takes i d pick div → d ≢ 0
      → ((x y : ℤ) → on_binary o (int x) (int y) ≡ divided div x y) → (sure : Bool)
      → FinishesFor (λ y. sure ≡ true → word_of_scalar sc p y ≢ 0) (λ q g. divisor_code sc sure g ++ (Divide q g ∷ i ∷ [])) d r ty.int ty.int ty.int (on_binary o)
  divisions o i d r pick div takes nz on sure (int x) (int y) known q g n a k idle fx fy ex ey there = subst (λ e. Evaluates w sc 5 n (n + length (divisor_code sc sure g ++ (Divide q g ∷ i ∷ []))) a k (HoldsValue sc p d r d ty.int a) (at_no_cost e)) (sym (on x y)) (by_divisor sure y known fy ey there)
    where
      whole : (sure : Bool) (y : ℤ) → 0 < unsigned_abs y → FitsSigned w32 y → reg a.regs g ≡ word_of y
          → CodeAt w n (divisor_code sc sure g ++ (Divide q g ∷ i ∷ []))
          → Evaluates w sc 5 n (n + length (divisor_code sc sure g ++ (Divide q g ∷ i ∷ []))) a k (HoldsValue sc p d r d ty.int a) (at_no_cost (Ok (int (div x y))))
      whole true y some fy ey there = parts i d r pick div takes nz x y q g n n a k idle fx fy some ex ey there (later w 0 1 _ _ (omega arith) (stays w _ _ refl))
      whole false y some fy ey there =
          let go = skips w sc p live s f area is_typed n g 0 a k idle there.0 (λ z. absurd (not_zero y fy some (sym ey ∙ z))) in
          let z : n + 1 + 1 ≡ n + 2 = omega arith in
          ends_at w sc 5 n (n + 2 + 2) (n + 4) a k (HoldsValue sc p d r d ty.int a) (at_no_cost (Ok (int (div x y)))) (omega arith)
          (parts i d r pick div takes nz x y q g n (n + 2) a k idle fx fy some ex ey (subst (λ m. CodeAt w m (Divide q g ∷ i ∷ [])) z there.1.1) go)

      by_divisor : (sure : Bool) (y : ℤ) → (sure ≡ true → word_of y ≢ 0) → FitsSigned w32 y → reg a.regs g ≡ word_of y
          → CodeAt w n (divisor_code sc sure g ++ (Divide q g ∷ i ∷ []))
          → Evaluates w sc 5 n (n + length (divisor_code sc sure g ++ (Divide q g ∷ i ∷ []))) a k (HoldsValue sc p d r d ty.int a) (at_no_cost (divided div x y))
      by_divisor true (pos zero) known fy ey there = absurd (known refl refl)
      by_divisor false (pos zero) known fy ey there =
          let go = falls w sc p live s f area is_typed n g 0 a k idle there.0 ey in
          faults w sc 5 n (n + 4) a a k (HoldsValue sc p d r d ty.int a) DivZero (keeps_all 0 0 a) (later w 2 5 _ _ (omega arith) (joined w 1 1 _ _ _ go (jumps w f (n + 1) (sc.exit DivZero) a k idle there.1.0)))
      by_divisor sure (pos (suc m)) known fy ey there = whole sure (pos (suc m)) (omega arith) fy ey there
      by_divisor sure (negsuc m) known fy ey there = whole sure (negsuc m) (omega arith) fy ey there
  divisions o i d r pick div takes nz on sure (int x) (bool z) known q g n a k idle fx fy ex ey there = absurd fy
  divisions o i d r pick div takes nz on sure (int x) null known q g n a k idle fx fy ex ey there = absurd fy
  divisions o i d r pick div takes nz on sure (int x) (at l) known q g n a k idle fx fy ex ey there = absurd fy
  divisions o i d r pick div takes nz on sure (int x) (group vs) known q g n a k idle fx fy ex ey there = absurd fy
  divisions o i d r pick div takes nz on sure (bool z) y known q g n a k idle fx fy ex ey there = absurd fx
  divisions o i d r pick div takes nz on sure null y known q g n a k idle fx fy ex ey there = absurd fx
  divisions o i d r pick div takes nz on sure (at l) y known q g n a k idle fx fy ex ey there = absurd fx
  divisions o i d r pick div takes nz on sure (group vs) y known q g n a k idle fx fy ex ey there = absurd fx

  pub quotients : (d r : ℕ) → d ≢ 0 → (sure : Bool)
      → FinishesFor (λ y. sure ≡ true → word_of_scalar sc p y ≢ 0) (λ q g. divisor_code sc sure g ++ (Divide q g ∷ Mflo d ∷ [])) d r ty.int ty.int ty.int (on_binary Div)
  quotients d r nz sure = divisions Div (Mflo d) d r (λ hi lo. lo) quotient (takes_quotient d) nz (λ x y. refl) sure

  pub remainders : (d r : ℕ) → d ≢ 0 → (sure : Bool)
      → FinishesFor (λ y. sure ≡ true → word_of_scalar sc p y ≢ 0) (λ q g. divisor_code sc sure g ++ (Divide q g ∷ Mfhi d ∷ [])) d r ty.int ty.int ty.int (on_binary Rem)
  remainders d r nz sure = divisions Rem (Mfhi d) d r (λ hi lo. hi) remainder (takes_remainder d) nz (λ x y. refl) sure

  pub orders : (o : BinaryOp) (d r : ℕ) → d ≢ 0 → IsOrdering o → Finishes (λ q g. operator_code o d q g) d r ty.int ty.int ty.bool (on_binary o)
  orders _ d r nz lt = on_numbers (λ q g. operator_code Lt d q g) d r ty.bool (on_binary Lt) (λ x y q g n a k idle fx fy ex ey there.
      once d r (flag (int_lt x y)) n ty.bool (bool (int_lt x y)) a k nz refl tt
      (said_step w f (Slt d q g) (Becomes (flag (int_lt x y))) n a k there.0 refl idle (ap flag (ap₂ less ex ey ∙ word_less x y fx fy))))
  orders _ d r nz gt = on_numbers (λ q g. operator_code Gt d q g) d r ty.bool (on_binary Gt) (λ x y q g n a k idle fx fy ex ey there.
      once d r (flag (int_lt y x)) n ty.bool (bool (int_lt y x)) a k nz refl tt
      (said_step w f (Slt d g q) (Becomes (flag (int_lt y x))) n a k there.0 refl idle (ap flag (ap₂ less ey ex ∙ word_less y x fy fx))))
  orders _ d r nz le = on_numbers (λ q g. operator_code Le d q g) d r ty.bool (on_binary Le) (λ x y q g n a k idle fx fy ex ey there.
      twice d r (flag (int_lt y x)) (flag (int_le x y)) n ty.bool (bool (int_le x y)) a k nz refl tt
      (said_step w f (Slt d g q) (Becomes (flag (int_lt y x))) n a k there.0 refl idle (ap flag (ap₂ less ey ex ∙ word_less y x fy fx)))
      (said_step w f (Xori d d 1) (Becomes (flag (int_le x y))) (n + 1) (with_reg a d (flag (int_lt y x))) k there.1.0 refl idle (ap (λ z. bit_xor z 1) (same_read a.regs d (flag (int_lt y x)) nz) ∙ not_flag (int_lt y x) ∙ ap flag (not_less x y))))
  orders _ d r nz ge = on_numbers (λ q g. operator_code Ge d q g) d r ty.bool (on_binary Ge) (λ x y q g n a k idle fx fy ex ey there.
      twice d r (flag (int_lt x y)) (flag (int_le y x)) n ty.bool (bool (int_le y x)) a k nz refl tt
      (said_step w f (Slt d q g) (Becomes (flag (int_lt x y))) n a k there.0 refl idle (ap flag (ap₂ less ex ey ∙ word_less x y fx fy)))
      (said_step w f (Xori d d 1) (Becomes (flag (int_le y x))) (n + 1) (with_reg a d (flag (int_lt x y))) k there.1.0 refl idle (ap (λ z. bit_xor z 1) (same_read a.regs d (flag (int_lt x y)) nz) ∙ not_flag (int_lt x y) ∙ ap flag (not_less y x))))

  -- scalars are the same where their words are
  region_is : (a b : Region) → same_region a b ≡ true → a ≡ b
  region_is globals globals e = refl
  region_is heap heap e = refl
  region_is locals locals e = refl
  region_is _ _ e = absurd (cc)

  region_same : (a : Region) → same_region a a ≡ true
  region_same globals = refl
  region_same heap = refl
  region_same locals = refl

  at_same : (t : Ty) (l m : Location) → PointsTo sc.env.structs (layout sc p) l.region l.path t
      → PointsTo sc.env.structs (layout sc p) m.region m.path t
      → (same_region l.region m.region && bytes_eq l.path m.path) ≡ nat_eq (4 * location_word sc p l) (4 * location_word sc p m)
  at_same t l m h g = elim (cases_eq (4 * location_word sc p l) (4 * location_word sc p m)) [
    | inl e ↦
        let q = area.apart t l m h g (omega (arith, e)) in
        subst (λ x. (same_region l.region x.region && bytes_eq l.path x.path) ≡ true) q (and_from (same_region l.region l.region) (bytes_eq l.path l.path) (region_same l.region) ((bytes_eq-Decides l.path l.path).1 refl)) ∙ sym (eq-eqb _ _ e)
    | inr n ↦
        false_from_ne_true (same_region l.region m.region && bytes_eq l.path m.path) (λ e.
        let z = and_parts (same_region l.region m.region) (bytes_eq l.path m.path) e in
        let q : l ≡ m = ap₂ (λ g path. record { region = g; path = path }) (region_is l.region m.region z.0) ((bytes_eq-Decides l.path m.path).0 z.1) in
        n (ap (λ x. 4 * location_word sc p x) q)) ∙ sym (ne_eqb _ _ n)
  ]

  pub same_words : (t : Ty) (x y : Value) → is_scalar t ≡ true → Fits sc.env.structs (layout sc p) t x → Fits sc.env.structs (layout sc p) t y
      → same x y ≡ nat_eq (word_of_scalar sc p x) (word_of_scalar sc p y)
  same_words ty.int (int x) (int y) e h g = int_words x y h g
  same_words ty.bool (bool x) (bool y) e h g = bool_words x y
  same_words (ty.pointer t) null null e h g = refl
  same_words (ty.pointer t) null (at m) e h g = let r = (pointer_room w sc p live s f area is_typed m.region m.path t g).0 in sym (ne_eqb 0 (4 * location_word sc p m) (λ z. absurd (omega (arith, z, r))))
  same_words (ty.pointer t) (at l) null e h g = let r = (pointer_room w sc p live s f area is_typed l.region l.path t h).0 in sym (ne_eqb (4 * location_word sc p l) 0 (λ z. absurd (omega (arith, z, r))))
  same_words (ty.pointer t) (at l) (at m) e h g = at_same t l m h g
  same_words ty.int (int x) _ e h g = absurd g
  same_words ty.bool (bool x) _ e h g = absurd g
  same_words (ty.pointer t) null _ e h g = absurd g
  same_words (ty.pointer t) (at l) _ e h g = absurd g
  same_words ty.int _ _ e h g = absurd h
  same_words ty.bool _ _ e h g = absurd h
  same_words (ty.pointer t) _ _ e h g = absurd h
  same_words (ty.named x) _ _ e h g = absurd (cc)
  same_words (ty.array t n) _ _ e h g = absurd (cc)

  pub equals : (o : BinaryOp) (t : Ty) (d r : ℕ) → is_scalar t ≡ true → d ≢ 0 → IsEquality o
      → Finishes (λ q g. operator_code o d q g) d r t t ty.bool (on_binary o)
  equals _ t d r scalar nz eq x y o q g n a k idle fx fy ex ey there =
      let u : ℕ = bit_xor (word_of_scalar sc p x) (word_of_scalar sc p y) in
      twice d r (bit_xor (word_of_scalar sc p x) (word_of_scalar sc p y)) (flag (same x y)) n ty.bool (bool (same x y)) a k nz refl tt
      (said_step w f (Xor d q g) (Becomes (bit_xor (word_of_scalar sc p x) (word_of_scalar sc p y))) n a k there.0 refl idle (ap₂ bit_xor ex ey))
      (said_step w f (Sltiu d d 1) (Becomes (flag (same x y))) (n + 1) (with_reg a d (bit_xor (word_of_scalar sc p x) (word_of_scalar sc p y))) k there.1.0 refl idle
      (ap (λ z. flag (nat_lt z 1)) (same_read a.regs d (bit_xor (word_of_scalar sc p x) (word_of_scalar sc p y)) nz) ∙ ap flag (xor_tests (word_of_scalar sc p x) (word_of_scalar sc p y) ∙ sym (same_words t x y scalar fx fy))))
  equals _ t d r scalar nz ne x y o q g n a k idle fx fy ex ey there =
      twice d r (bit_xor (word_of_scalar sc p x) (word_of_scalar sc p y)) (flag (not (same x y))) n ty.bool (bool (not (same x y))) a k nz refl tt
      (said_step w f (Xor d q g) (Becomes (bit_xor (word_of_scalar sc p x) (word_of_scalar sc p y))) n a k there.0 refl idle (ap₂ bit_xor ex ey))
      (said_step w f (Sltu d 0 d) (Becomes (flag (not (same x y)))) (n + 1) (with_reg a d (bit_xor (word_of_scalar sc p x) (word_of_scalar sc p y))) k there.1.0 refl idle
      (ap (λ z. flag (nat_lt 0 z)) (same_read a.regs d (bit_xor (word_of_scalar sc p x) (word_of_scalar sc p y)) nz) ∙ ap flag (xor_differs (word_of_scalar sc p x) (word_of_scalar sc p y) ∙ ap not (sym (same_words t x y scalar fx fy)))))

  pub negatives : (d r : ℕ) → d ≢ 0 → FinishesOne (λ q. Subu d 0 q ∷ []) d r ty.int ty.int (on_unary Negate)
  negatives d r nz (int x) q n a k idle fx ex there =
      once d r (word_of (int_wrap w32 (neg_ℤ x))) n ty.int (int (int_wrap w32 (neg_ℤ x))) a k nz refl (SFits-int_wrap w32 _)
      (said_step w f (Subu d 0 q) (Becomes (word_of (int_wrap w32 (neg_ℤ x)))) n a k there.0 refl idle (ap (difference 0) ex ∙ word_negative x fx))
  negatives d r nz (bool b) q n a k idle fx ex there = absurd fx
  negatives d r nz null q n a k idle fx ex there = absurd fx
  negatives d r nz (at l) q n a k idle fx ex there = absurd fx
  negatives d r nz (group vs) q n a k idle fx ex there = absurd fx

  pub negations : (d r : ℕ) → d ≢ 0 → FinishesOne (λ q. Xori d q 1 ∷ []) d r ty.bool ty.bool (on_unary Not)
  negations d r nz (bool b) q n a k idle fx ex there =
      once d r (flag (not b)) n ty.bool (bool (not b)) a k nz refl tt (said_step w f (Xori d q 1) (Becomes (flag (not b))) n a k there.0 refl idle (ap (λ z. bit_xor z 1) ex ∙ not_flag b))
  negations d r nz (int x) q n a k idle fx ex there = absurd fx
  negations d r nz null q n a k idle fx ex there = absurd fx
  negations d r nz (at l) q n a k idle fx ex there = absurd fx
  negations d r nz (group vs) q n a k idle fx ex there = absurd fx

  -- `&&` and `||`: the left side's word, a branch over the right side, and the right side's word
  pub record Skip (i : Inst) (decides : Bool) (r len n : ℕ) (k : Behind) : Type 0 where
    pub over : (a : Contents) → reg a.regs r ≡ flag decides → Reaches w 1 (at_with n a k) (at_with (n + 1 + len) a k)
    pub on : (a : Contents) → reg a.regs r ≡ flag (not decides) → Reaches w 1 (at_with n a k) (at_with (n + 1) a k)

  forward : (k imm : ℕ) → k < w.words → imm < 32768 → (4 * k + 4 + 4 * extended imm) % 2 ^ 32 ≡ 4 * (k + 1 + imm)
  forward k imm inside low =
      let e = plain imm low in
      let small = f.sound.small in
      omega (arith, e, inside, small)

  pub skips_and : (r len n : ℕ) (k : Behind) → k.pending ≡ Idle → len < 32768 → w.code n ≡ Some (Beq r 0 len) → Skip (Beq r 0 len) false r len n k
  skips_and r len n k idle short there = record {
    over = λ a e. taken w f n a k r 0 len (n + 1 + len) idle there e (forward n len (f.sound.inside n _ there) short);
    on = λ a e. passed w f n a k r 0 len idle there (λ z. let z0 : reg a.regs r ≡ 0 = z in absurd (omega (arith, e, z0)));
  }

  pub skips_or : (r len n : ℕ) (k : Behind) → k.pending ≡ Idle → len < 32768 → w.code n ≡ Some (Bne r 0 len) → Skip (Bne r 0 len) true r len n k
  skips_or r len n k idle short there = record {
    over = λ a e. differ_goes w f n a k r 0 len (n + 1 + len) idle there (ap (λ y. branch (4 * n) len (not y)) (ne_eqb (reg a.regs r) 0 (λ z. absurd (omega (arith, e, z)))) ∙ forward n len (f.sound.inside n _ there) short);
    on = λ a e. let near = f.sound.inside n _ there in let small = f.sound.small in differ_goes w f n a k r 0 len (n + 1) idle there (ap (λ y. branch (4 * n) len (not y)) (eq-eqb (reg a.regs r) 0 e) ∙ omega arith);
  }

  -- the bool that a value in a register is
  truths : (r n to : ℕ) (c : Contents) (k : Behind) (x : Costed Value) → r < 20 → Evaluates w sc 0 n to c k (HoldsValue sc p r r r ty.bool c) x
      → Evaluates w sc 0 n to c k (λ y b. (reg b.regs r ≡ flag y) × KeepsRegisters r r c b) (truth x)
  truths r n to c k x hi h = binds w sc 0 0 n to to c k (HoldsValue sc p r r r ty.bool c) (λ y b. (reg b.regs r ≡ flag y) × KeepsRegisters r r c b) x _ h (λ v b g. keeps_low r r c b hi g.keeps) by_value
    where
      by_value : (v : Value) (b : Contents) → HoldsValue sc p r r r ty.bool c v b
          → Evaluates w sc 0 to to b k (λ y b. (reg b.regs r ≡ flag y) × KeepsRegisters r r c b) (at_no_cost (bool_of v))
      by_value (bool z) b g = arrives w sc 0 to to b b k (λ y b. (reg b.regs r ≡ flag y) × KeepsRegisters r r c b) z (g.is, g.keeps) (stays w _ _ refl)
      by_value (int z) b g = absurd g.fits
      by_value null b g = absurd g.fits
      by_value (at l) b g = absurd g.fits
      by_value (group vs) b g = absurd g.fits

  either : (a b : Bool) → (a ≡ b) ⊎ (a ≡ not b)
  either true true = inl refl
  either true false = inr refl
  either false true = inr refl
  either false false = inl refl

  flag_below : (b : Bool) → flag b < 2 ^ 32
  flag_below true = omega arith
  flag_below false = omega arith

  pub logics : (fs right : Facts) (i : ℕ → Inst) (decides : Bool) (ma mb : Made) (na nb d r n : ℕ) (c : Contents) (k : Behind) (x y : Costed Value) (rest : Bool → Costed Value) → k.pending ≡ Idle → 8 ≤ r → r + na ≤ 20 → r + nb ≤ 20 → 1 ≤ nb → d ≢ 0 → d ≢ 1 → ReadyWith sc p live fs s c → CodeAt w n (logic_code i ma mb d r) →
      ((m : ℕ) → w.code m ≡ Some (i (length (mb.value r r) % 2 ^ 16)) → Skip (i (length (mb.value r r) % 2 ^ 16)) decides r (length (mb.value r r)) m k) →
      rest decides ≡ at_no_cost (Ok (bool decides)) → rest (not decides) ≡ y →
      ValueRuns w sc p live fs s ma na ty.bool x → ValueRuns w sc p live right s mb nb ty.bool y
      → ((u : ℕ) (b : Contents) → truth x ≡ costs u (Ok (not decides)) → ReadyWith sc p live fs s b → ReadyWith sc p live right s b) → Evaluates w sc 0 n (n + length (logic_code i ma mb d r)) c k (HoldsValue sc p d r d ty.bool c) (paying 1 (truth x >>= rest))
  logics fs right i decides ma mb na nb d r n c k x y rest idle lo ha hb some nz no1 ready there skip stop go va vb told =
      node w sc 2 n to c k R (truth x >>= rest) (omega arith)
      (binds w sc 0 2 n n1 to c k (Answered w sc Q (truth x)) R (truth x) rest (answered_by w sc 0 n n1 c k Q (truth x) (truths r n n1 c k x (omega arith) (va r r n c k idle ready (code_front w n is tail there) lo ha (λ z. absurd (omega (arith, z, lo))) (λ z. absurd (omega (arith, z, lo))))))
      (λ z b g. keeps_low r r c b (omega arith) g.holds.1) by_bool)
    where
      is : List Inst
      is = ma.value r r

      js : List Inst
      js = mb.value r r

      tail : List Inst
      tail = i (length (mb.value r r) % 2 ^ 16) ∷ (mb.value r r ++ to_code d r)

      n1 : ℕ
      n1 = n + length (ma.value r r)

      n2 : ℕ
      n2 = n + length (ma.value r r) + 1 + length (mb.value r r)

      to : ℕ
      to = n + length (logic_code i ma mb d r)

      len : n2 + length (to_code d r) ≡ to
      len = omega (arith, length-append (ma.value r r) (i (length (mb.value r r) % 2 ^ 16) ∷ (mb.value r r ++ to_code d r)), length-append (mb.value r r) (to_code d r))

      Q : Bool → Contents → Type 0
      Q = λ z b. (reg b.regs r ≡ flag z) × KeepsRegisters r r c b

      R : Value → Contents → Type 0
      R = HoldsValue sc p d r d ty.bool c

      tail_there : CodeAt w n1 tail
      tail_there = code_back w n is tail there

      to_there : CodeAt w n2 (to_code d r)
      to_there = code_back w (n1 + 1) js (to_code d r) tail_there.1

      decided : (b : Contents) → reg b.regs r ≡ flag decides → KeepsRegisters r r c b → Evaluates w sc 2 n1 to b k R (at_no_cost (Ok (bool decides)))
      decided b e keeps =
          let a = brings w sc p live s f area is_typed d r r (flag decides) n2 b k idle nz e (flag_below decides) to_there in
          let run = joined w 1 1 _ _ _ ((skip n1 tail_there.0).over b e) a.run in
          arrives w sc 2 n1 to b a.core k R (bool decides) (record { is = a.is; fits = tt; keeps = keeps_on r d c b a.core (keeps_in r r d c b (omega arith) (omega arith) keeps) a.keeps }) (subst (λ m. Reaches w (1 + 1) (at_with n1 b k) (at_with m a.core k)) len run)

      undecided : (u : ℕ) (b : Contents) → truth x ≡ costs u (Ok (not decides)) → reg b.regs r ≡ flag (not decides) → KeepsRegisters r r c b → Evaluates w sc 2 n1 to b k R y
      undecided u b is e keeps =
          let ready_b = told u b is (with_on sc p live fs s c b r lo (omega arith) keeps ready) in
          after w sc 1 1 n1 (n1 + 1) to b b k R y (keeps_all 0 0 b) ((skip n1 tail_there.0).on b e)
          (onward w sc 0 1 (n1 + 1) n2 to b k (HoldsValue sc p r r r ty.bool b) R y
          (vb r r (n1 + 1) b k idle ready_b (code_front w (n1 + 1) js (to_code d r) tail_there.1) lo hb (λ z. absurd (omega (arith, z, lo))) (λ z. absurd (omega (arith, z, lo))))
          (λ v j h.
          let a = brings w sc p live s f area is_typed d r r (word_of_scalar sc p v) n2 j k idle nz h.is (word_small w sc p live s f area is_typed v ty.bool h.fits refl) to_there in
          (a.core, record { is = a.is; fits = h.fits; keeps = keeps_on r d c b a.core (keeps_in r r d c b (omega arith) (omega arith) keeps) (keeps_on r d b j a.core (keeps_in r r d b j (omega arith) (omega arith) h.keeps) a.keeps) }, subst (λ m. Reaches w 1 (at_with n2 j k) (at_with m a.core k)) len a.run)))

      by_bool : (z : Bool) (b : Contents) → Answered w sc Q (truth x) z b → Evaluates w sc 2 n1 to b k R (rest z)
      by_bool z b a = let g = a.holds in elim (either z decides) [
        | inl e ↦ subst (λ o. Evaluates w sc 2 n1 to b k R o) (sym (ap rest e ∙ stop)) (decided b (g.0 ∙ ap flag e) g.1)
        | inr e ↦ subst (λ o. Evaluates w sc 2 n1 to b k R o) (sym (ap rest e ∙ go)) (undecided a.units b (a.is ∙ ap (λ (y : Bool). costs a.units (Ok y)) e) (g.0 ∙ ap flag e) g.1)
      ]
