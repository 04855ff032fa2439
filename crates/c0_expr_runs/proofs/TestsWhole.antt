-- Every typed test.
use Rattle.std.specs.Prelude.{ℤ, pos, Result, Ok, Err, int_lt, int_le, FitsSigned, if◌then◌else◌}
use Rattle.std.specs.Int.{cast_signed, w32}
use Rattle.std.proofs.Common.{◌≡◌, inl, inr, ◌⊎◌, ℕ, max, ◌+◌, ◌*◌, ◌%◌, ◌^◌, ◌<◌, ◌≤◌, Bool, true, false, not, cond, nat_eq, Option, Some, None, List, [], ◌∷◌, ◌++◌, length, refl, sym, ap, ap₂, ◌∙◌, subst, arith, length-append}
use Rattle.std.proofs.lemmas.Bool.{eqb-true}
use Rattle.std.proofs.lemmas.Int.{to_z-of_z}
use Rattle.mips_table.specs.declared.inst.Inst.{Inst}
use Rattle.mips_table.specs.declared.inst.Inst.TheVariants.{Slt, Slti}
use Rattle.mips_table.specs.Arith.{less, flag, extended, is_negative, is_positive}
use Rattle.mips_table.specs.Device.{Idle}
use Rattle.mips_table.specs.Code.{Contents, reg, with_reg, Behind, World, at_with, Reaches, CodeAt}
use Rattle.c0_tree.specs.declared.tree.UnaryOp.TheVariants.{Not}
use Rattle.c0_tree.specs.declared.tree.BinaryOp.{BinaryOp}
use Rattle.c0_tree.specs.declared.tree.BinaryOp.TheVariants.{Lt, Le, Gt, Ge, Eq, Ne, And, Or}
use Rattle.c0_tree.specs.Tree.{CExpr, true_, false_, null, var, field, arrow, index, deref, binary}
use Rattle.c0_tree.specs.Size.{need, binary_need, nodes}
use Rattle.c0_meaning.specs.Ty.{Ty, is_scalar}
use Rattle.c0_meaning.specs.Ty as ty
use Rattle.c0_meaning.specs.Judgement.{IsOrdering, lt, le, gt, ge, IsEquality, eq, ne, IsLogical, and, or}
use Rattle.c0_meaning.specs.Numbered.{HasNumberedType, a_number, a_true, a_false, a_variable, a_field, a_target_field, an_element, a_target, an_address, a_negative, a_negation, arithmetic, order, logic, equality, null_left, null_right, IsNumberedGiven, a_value}
use Rattle.c0_meaning.specs.Value.{Value, int, bool, at, group}
use Rattle.c0_meaning.specs.Value as value
use Rattle.c0_meaning.specs.State.{C0State}
use Rattle.c0_meaning.specs.Operators.{Failure, faulted, stuck, same, on_unary, on_binary}
use Rattle.c0_meaning.specs.Evaluation.{Costed, costs, at_no_cost, paying, ◌>>=◌, truth, bool_of, both_sides, value_of}
use Rattle.c0_meaning.specs.TypedState.{Fits}
use Rattle.masm.specs.Says.{Gives as Becomes}
use Rattle.cvm_words.specs.Words.{word_of}
use Rattle.c0_tree.specs.declared.tree.Span.{Span}
use Rattle.c0_typed.specs.Typed.{typed_of_expr}
use Rattle.c0_expr_code.specs.declared.facts.Facts.{Facts}
use Rattle.c0_expr_code.specs.Scope.{Scope}
use Rattle.c0_expr_code.specs.Code.{low, is_near, Made, operand_code, operand_register, one_code, two_code, made, right_facts}
use Rattle.c0_expr_code.specs.Test.{branch_code, negative_branch, positive_branch, compare_code, ImmediateTest, below_code, immediate_test, immediate_test_of, Testing, compare_test, both_code, binary_test, plain_test, test_code}
use Rattle.c0_expr_runs.specs.Bases.{Bases, word_of_scalar}
use Rattle.c0_expr_runs.specs.Relation.{layout, StateIsTyped, ReadyWith, KeepsRegisters, Area, HoldsValue, OperandRuns, Right, Splits, ends, Aims, TestRuns}
use Rattle.c0_expr_runs.proofs.CodeRuns.{Machine, joined, later, stays, code_front, code_back, said_step}
use Rattle.c0_expr_runs.proofs.WordsOfValues.{word_less, not_less}
use Rattle.c0_expr_runs.proofs.SideBySide.{keeps_all, keeps_on, keeps_in, keeps_one, keeps_low, with_on, Answered, source_kept}
use Rattle.c0_expr_runs.proofs.OperatorsOnRegisters.{same_words}
use Rattle.c0_expr_runs.proofs.ConstantOperands.{near_some, less_near}
use Rattle.c0_expr_runs.proofs.ConstantsKnown.{KnownAs, known_is}
use Rattle.c0_expr_runs.proofs.FramePlaces.{or_left, or_right}
use Rattle.c0_expr_code.specs.Reads.{reads, Covers}
use Rattle.c0_expr_code.proofs.NeedsAreSome.{need_some}
use Rattle.c0_expr_runs.proofs.EveryExpression.{right, null_right_is, goes_on, behind_left}
use Rattle.c0_expr_runs.proofs.BothSidesKnow.{order_knows, equality_knows}
use Rattle.c0_expr_code.proofs.TestLengths.{both_length, test_length}
use Rattle.c0_expr_runs.proofs.TestsGoByAnswers.{split_more, split_paid, split_binds, split_answered, as_split, split_says, split_at, split_arrives, truth_paying, truth_binds, branches, negative_branches, positive_branches}

-- the place by the answer, where the answer is turned
turned : (b : Bool) (to end : ℕ) (x : Bool) → ends (not b) to end (not x) ≡ ends b to end x
turned true to end true = refl
turned true to end false = refl
turned false to end true = refl
turned false to end false = refl

zero_flag : (x : Bool) → nat_eq (flag x) 0 ≡ not x
zero_flag true = refl
zero_flag false = refl

-- where an end is named otherwise
same_end : (b : Bool) (to e e' : ℕ) (x : Bool) → e ≡ e' → ends b to e x ≡ ends b to e' x
same_end b to e e' x q = ap (λ y. ends b to y x) q

aims_in : (n m e far to : ℕ) → n ≤ m → Aims n e far to → Aims m e far to
aims_in n m e far to before h = record { same = h.same; short = h.short; ahead = let a = h.ahead in omega (arith, a, before); behind = h.behind }

aims_at : (n e e' far to : ℕ) → e ≡ e' → Aims n e far to → Aims n e' far to
aims_at n e e' far to q h = subst (λ x. Aims n x far to) q h

module _ (w : World) (sc : Scope) (p : Bases) (live : ℕ → Bool) (fs : Facts) (s : C0State) (f : Machine w) (area : Area w sc p) (is_typed : StateIsTyped sc p s) where
  -- a node pays for its test
  pays : (m n : ℕ) (to : Bool → ℕ) (c : Contents) (k : Behind) (Q : Bool → Contents → Type 0) (e : Costed Value) → m ≤ 16
      → Splits w sc m n to c k Q (truth e) → Splits w sc 0 n to c k Q (truth (paying 1 e))
  pays m n to c k Q e few h = subst (λ x. Splits w sc 0 n to c k Q x) (sym (truth_paying 1 e)) (split_paid w sc 1 0 n to c k Q (truth e) (split_more w sc m (0 + 16 * 1) n to c k Q (truth e) (omega arith) h))

  -- a test of a bool that is in a register
  plain : (m : Made) (need : ℕ) (x : Costed Value) → OperandRuns w sc p live fs s m need ty.bool x → (b : Bool) (far to r n : ℕ) (c : Contents) (k : Behind)
      → k.pending ≡ Idle → ReadyWith sc p live fs s c → CodeAt w n (plain_test m b far r) → 8 ≤ r → r < 20 → r + need ≤ 20
      → Aims n (n + length (plain_test m b far r)) far to →
      Splits w sc 1 n (ends b to (n + length (plain_test m b far r))) c k (λ y c'. KeepsRegisters r r c c') (truth x)
  plain m need x o b far to r n c k idle ready code lo hi room aims =
      let a = o r n c k idle ready (code_front w n (operand_code m r) (branch_code (not b) (operand_register m r) 0 far ∷ []) code) lo room in
      let last = code_back w n (operand_code m r) (branch_code (not b) (operand_register m r) 0 far ∷ []) code in
      let len : n + length (operand_code m r) + 1 ≡ n + length (plain_test m b far r) = omega (arith, length-append (operand_code m r) (branch_code (not b) (operand_register m r) 0 far ∷ [])) in
      split_binds w sc 0 1 n (λ y. n + length (operand_code m r)) (ends b to (n + length (plain_test m b far r))) c k (HoldsValue sc p (operand_register m r) r r ty.bool c) (λ y c'. KeepsRegisters r r c c') x _ (as_split w sc 0 n (n + length (operand_code m r)) c k (HoldsValue sc p (operand_register m r) r r ty.bool c) x a.1)
      (λ v e g. keeps_low r r c e hi g.keeps) (by_value last.0 len)
    where
      by_value : w.code (n + length (operand_code m r)) ≡ Some (branch_code (not b) (operand_register m r) 0 far)
          → n + length (operand_code m r) + 1 ≡ n + length (plain_test m b far r) → (v : Value) (e : Contents)
          → HoldsValue sc p (operand_register m r) r r ty.bool c v e
          → Splits w sc 1 (n + length (operand_code m r)) (ends b to (n + length (plain_test m b far r))) e k (λ y c'. KeepsRegisters r r c c') (at_no_cost (bool_of v))
      by_value there len (bool z) e g =
          let run = branches w f (not b) (operand_register m r) 0 far to n (n + length (operand_code m r)) e k idle there (omega arith) (aims_at n _ _ far to (sym len) aims) in
          let which : ends (not b) to (n + length (operand_code m r) + 1) (nat_eq (reg e.regs (operand_register m r)) 0) ≡ ends b to (n + length (plain_test m b far r)) z =
          ap (λ x. ends (not b) to (n + length (operand_code m r) + 1) (nat_eq x 0)) g.is ∙ ap (ends (not b) to (n + length (operand_code m r) + 1)) (zero_flag z) ∙ turned b to (n + length (operand_code m r) + 1) z ∙ same_end b to _ _ z len in
          split_arrives w sc 1 (n + length (operand_code m r)) (ends b to (n + length (plain_test m b far r))) e e k (λ y c'. KeepsRegisters r r c c') z g.keeps (subst (λ t. Reaches w 1 (at_with (n + length (operand_code m r)) e k) (at_with t e k)) which run)
      by_value there len (int z) e g = absurd g.fits
      by_value there len value.null e g = absurd g.fits
      by_value there len (at l) e g = absurd g.fits
      by_value there len (group vs) e g = absurd g.fits

  -- what a comparison's own code does
  abbrev Compares : BinaryOp → Ty → Ty → Type 0
  Compares o t u = (b : Bool) (far to r n' n : ℕ) (q g : ℕ) (x y : Value) (a : Contents) (k : Behind) → k.pending ≡ Idle → n' ≤ n
      → Fits sc.env.structs (layout sc p) t x → Fits sc.env.structs (layout sc p) u y → reg a.regs q ≡ word_of_scalar sc p x → reg a.regs g ≡ word_of_scalar sc p y
      → CodeAt w n (compare_code o b far q g) → Aims n' (n + length (compare_code o b far q g)) far to →
      Splits w sc 2 n (ends b to (n + length (compare_code o b far q g))) a k (λ z c'. KeepsRegisters r r a c') (truth (at_no_cost (on_binary o x y)))

  compared : (o : BinaryOp) (ma mb : Made) (na nb : ℕ) (t u : Ty) (x y : Costed Value) → Compares o t u → OperandRuns w sc p live fs s ma na t x
      → OperandRuns w sc p live fs s mb nb u y → (b : Bool) (far to r n : ℕ) (c : Contents) (k : Behind) → k.pending ≡ Idle → ReadyWith sc p live fs s c
      → CodeAt w n (two_code (λ q t. compare_code o b far q t) ma mb r) → 8 ≤ r → r + na ≤ 20 → r + (nb + 1) ≤ 20 → 1 ≤ nb
      → Aims n (n + length (two_code (λ q t. compare_code o b far q t) ma mb r)) far to →
      Splits w sc 2 n (ends b to (n + length (two_code (λ q t. compare_code o b far q t) ma mb r))) c k (λ z c'. KeepsRegisters r r c c') (truth (x >>= λ v. y >>= λ w. at_no_cost (on_binary o v w)))
  compared o ma mb na nb t u x y own oa ob b far to r n c k idle ready code lo ha hb some aims =
      let last : List Inst = compare_code o b far (operand_register ma r) (operand_register mb (r + 1)) in
      let rest = code_back w n (operand_code ma r) (operand_code mb (r + 1) ++ compare_code o b far (operand_register ma r) (operand_register mb (r + 1))) code in
      let there = code_back w (n + length (operand_code ma r)) (operand_code mb (r + 1)) (compare_code o b far (operand_register ma r) (operand_register mb (r + 1))) rest in
      let a = oa r n c k idle ready (code_front w n (operand_code ma r) (operand_code mb (r + 1) ++ compare_code o b far (operand_register ma r) (operand_register mb (r + 1))) code) lo ha in
      let len : n + length (operand_code ma r) + length (operand_code mb (r + 1)) + length (compare_code o b far (operand_register ma r) (operand_register mb (r + 1))) ≡ n + length (two_code (λ q t. compare_code o b far q t) ma mb r) = omega (arith, length-append (operand_code ma r) (operand_code mb (r + 1) ++ compare_code o b far (operand_register ma r) (operand_register mb (r + 1))), length-append (operand_code mb (r + 1)) (compare_code o b far (operand_register ma r) (operand_register mb (r + 1)))) in
      subst (λ e. Splits w sc 2 n (ends b to (n + length (two_code (λ q t. compare_code o b far q t) ma mb r))) c k (λ z c'. KeepsRegisters r r c c') e) (sym (truth_binds x (λ v. y >>= λ w. at_no_cost (on_binary o v w))))
      (split_binds w sc 0 2 n (λ z. n + length (operand_code ma r)) (ends b to (n + length (two_code (λ q t. compare_code o b far q t) ma mb r))) c k (HoldsValue sc p (operand_register ma r) r r t c) (λ z c'. KeepsRegisters r r c c') x _ (as_split w sc 0 n (n + length (operand_code ma r)) c k (HoldsValue sc p (operand_register ma r) r r t c) x a.1)
      (λ v e g. keeps_low r r c e (omega arith) g.keeps)
      (λ v e g.
      let ready_e = with_on sc p live fs s c e r lo (omega arith) g.keeps ready in
      let o2 = ob (r + 1) (n + length (operand_code ma r)) e k idle ready_e (code_front w _ (operand_code mb (r + 1)) (compare_code o b far (operand_register ma r) (operand_register mb (r + 1))) rest) (omega arith) (omega arith) in
      subst (λ z. Splits w sc 2 (n + length (operand_code ma r)) (ends b to (n + length (two_code (λ q t. compare_code o b far q t) ma mb r))) e k (λ z c'. KeepsRegisters r r c c') z) (sym (truth_binds y (λ w. at_no_cost (on_binary o v w))))
      (split_binds w sc 0 2 (n + length (operand_code ma r)) (λ z. n + length (operand_code ma r) + length (operand_code mb (r + 1))) (ends b to (n + length (two_code (λ q t. compare_code o b far q t) ma mb r))) e k (HoldsValue sc p (operand_register mb (r + 1)) (r + 1) (r + 1) u e) (λ z c'. KeepsRegisters r r c c') y _ (as_split w sc 0 _ _ e k (HoldsValue sc p (operand_register mb (r + 1)) (r + 1) (r + 1) u e) y o2.1)
      (λ v2 i h. keeps_low (r + 1) (r + 1) e i (omega arith) h.keeps)
      (λ v2 i h.
      let kept : KeepsRegisters r r c i = keeps_on r r c e i g.keeps (keeps_in r (r + 1) r e i (omega arith) (omega arith) h.keeps) in
      split_at w sc 2 _ (ends b to (n + length (operand_code ma r) + length (operand_code mb (r + 1)) + length (compare_code o b far (operand_register ma r) (operand_register mb (r + 1))))) (ends b to (n + length (two_code (λ q t. compare_code o b far q t) ma mb r))) i k (λ z c'. KeepsRegisters r r c c') (truth (at_no_cost (on_binary o v v2))) (λ z. same_end b to _ _ z len)
      (split_says w sc 2 _ _ i k (λ z c'. KeepsRegisters r r i c') (λ z c'. KeepsRegisters r r c c') (truth (at_no_cost (on_binary o v v2))) (λ z j m. keeps_on r r c i j kept m)
      (own b far to r n (n + length (operand_code ma r) + length (operand_code mb (r + 1))) (operand_register ma r) (operand_register mb (r + 1)) v v2 i k idle (omega arith) g.fits h.fits (source_kept r (operand_register ma r) e i lo (omega arith) a.0 h.keeps ∙ g.is) h.is there (aims_at n _ _ far to (sym len) aims)))))))

  -- equality
  equal : (o : BinaryOp) → IsEquality o → (t : Ty) → is_scalar t ≡ true → Compares o t t
  equal _ eq t scalar b far to r n' n q g x y a k idle before fx fy ex ey there aims =
      let run = branches w f b q g far to n' n a k idle there.0 before aims in
      let which : nat_eq (reg a.regs q) (reg a.regs g) ≡ same x y = ap₂ nat_eq ex ey ∙ sym (same_words w sc p live s f area is_typed t x y scalar fx fy) in
      split_arrives w sc 2 n (ends b to (n + 1)) a a k (λ z c'. KeepsRegisters r r a c') (same x y) (keeps_all r r a) (later w 1 2 _ _ (omega arith) (subst (λ z. Reaches w 1 (at_with n a k) (at_with (ends b to (n + 1) z) a k)) which run))
  equal _ ne t scalar b far to r n' n q g x y a k idle before fx fy ex ey there aims =
      let run = branches w f (not b) q g far to n' n a k idle there.0 before aims in
      let which : nat_eq (reg a.regs q) (reg a.regs g) ≡ same x y = ap₂ nat_eq ex ey ∙ sym (same_words w sc p live s f area is_typed t x y scalar fx fy) in
      let end : ends (not b) to (n + 1) (nat_eq (reg a.regs q) (reg a.regs g)) ≡ ends b to (n + 1) (not (same x y)) = ap (ends (not b) to (n + 1)) which ∙ twisted b to (n + 1) (same x y) in
      split_arrives w sc 2 n (ends b to (n + 1)) a a k (λ z c'. KeepsRegisters r r a c') (not (same x y)) (keeps_all r r a) (later w 1 2 _ _ (omega arith) (subst (λ z. Reaches w 1 (at_with n a k) (at_with z a k)) end run))
    where
      twisted : (b : Bool) (to end : ℕ) (x : Bool) → ends (not b) to end x ≡ ends b to end (not x)
      twisted true to end true = refl
      twisted true to end false = refl
      twisted false to end true = refl
      twisted false to end false = refl

  -- order: the flag in register 1, and a branch where it is 1, or where it is 0
  flagged : (b : Bool) (q g z far to r n' n : ℕ) (y : Bool) (a : Contents) (k : Behind) → k.pending ≡ Idle → n' ≤ n → w.code n ≡ Some (Slt 1 q g)
      → w.code (n + 1) ≡ Some (branch_code b 1 0 far) → flag (less (reg a.regs q) (reg a.regs g)) ≡ flag y → Aims n' (n + 2) far to
      → Reaches w 2 (at_with n a k) (at_with (ends b to (n + 2) (not y)) (with_reg a 1 (flag y)) k)
  flagged b q g z far to r n' n y a k idle before first second e aims =
      let one = said_step w f (Slt 1 q g) (Becomes (flag y)) n a k first refl idle e in
      let len : n + 1 + 1 ≡ n + 2 = omega arith in
      let run = branches w f b 1 0 far to n' (n + 1) (with_reg a 1 (flag y)) k idle second (omega arith) (aims_at n' (n + 2) (n + 1 + 1) far to (sym len) aims) in
      let end : ends b to (n + 1 + 1) (nat_eq (flag y) 0) ≡ ends b to (n + 2) (not y) = ap (ends b to (n + 1 + 1)) (zero_flag y) ∙ same_end b to _ _ (not y) len in
      joined w 1 1 _ _ _ one (subst (λ x. Reaches w 1 (at_with (n + 1) (with_reg a 1 (flag y)) k) (at_with x (with_reg a 1 (flag y)) k)) end run)

  ints : (o : BinaryOp) → ((b : Bool) (far to r n' n : ℕ) (q g : ℕ) (x y : ℤ) (a : Contents) (k : Behind) → k.pending ≡ Idle → n' ≤ n → FitsSigned w32 x → FitsSigned w32 y → reg a.regs q ≡ word_of x → reg a.regs g ≡ word_of y → CodeAt w n (compare_code o b far q g) → Aims n' (n + length (compare_code o b far q g)) far to →
      Splits w sc 2 n (ends b to (n + length (compare_code o b far q g))) a k (λ z c'. KeepsRegisters r r a c') (truth (at_no_cost (on_binary o (int x) (int y))))) → Compares o ty.int ty.int
  ints o h b far to r n' n q g (int x) (int y) a k idle before fx fy ex ey there aims = h b far to r n' n q g x y a k idle before fx fy ex ey there aims
  ints o h b far to r n' n q g (int x) (bool z) a k idle before fx fy ex ey there aims = absurd fy
  ints o h b far to r n' n q g (int x) value.null a k idle before fx fy ex ey there aims = absurd fy
  ints o h b far to r n' n q g (int x) (at l) a k idle before fx fy ex ey there aims = absurd fy
  ints o h b far to r n' n q g (int x) (group vs) a k idle before fx fy ex ey there aims = absurd fy
  ints o h b far to r n' n q g (bool z) y a k idle before fx fy ex ey there aims = absurd fx
  ints o h b far to r n' n q g value.null y a k idle before fx fy ex ey there aims = absurd fx
  ints o h b far to r n' n q g (at l) y a k idle before fx fy ex ey there aims = absurd fx
  ints o h b far to r n' n q g (group vs) y a k idle before fx fy ex ey there aims = absurd fx

  ordered : (o : BinaryOp) → IsOrdering o → Compares o ty.int ty.int
  ordered _ lt = ints Lt (λ b far to r n' n q g x y a k idle before fx fy ex ey there aims.
      let e : flag (less (reg a.regs q) (reg a.regs g)) ≡ flag (int_lt x y) = ap flag (ap₂ less ex ey ∙ word_less x y fx fy) in
      split_arrives w sc 2 n (ends b to (n + 2)) a (with_reg a 1 (flag (int_lt x y))) k (λ z c'. KeepsRegisters r r a c') (int_lt x y) (keeps_one r r (flag (int_lt x y)) a)
      (subst (λ z. Reaches w 2 (at_with n a k) (at_with z (with_reg a 1 (flag (int_lt x y))) k)) (turned b to (n + 2) (int_lt x y)) (flagged (not b) q g 0 far to r n' n (int_lt x y) a k idle before there.0 there.1.0 e aims)))
  ordered _ gt = ints Gt (λ b far to r n' n q g x y a k idle before fx fy ex ey there aims.
      let e : flag (less (reg a.regs g) (reg a.regs q)) ≡ flag (int_lt y x) = ap flag (ap₂ less ey ex ∙ word_less y x fy fx) in
      split_arrives w sc 2 n (ends b to (n + 2)) a (with_reg a 1 (flag (int_lt y x))) k (λ z c'. KeepsRegisters r r a c') (int_lt y x) (keeps_one r r (flag (int_lt y x)) a)
      (subst (λ z. Reaches w 2 (at_with n a k) (at_with z (with_reg a 1 (flag (int_lt y x))) k)) (turned b to (n + 2) (int_lt y x)) (flagged (not b) g q 0 far to r n' n (int_lt y x) a k idle before there.0 there.1.0 e aims)))
  ordered _ le = ints Le (λ b far to r n' n q g x y a k idle before fx fy ex ey there aims.
      let e : flag (less (reg a.regs g) (reg a.regs q)) ≡ flag (int_lt y x) = ap flag (ap₂ less ey ex ∙ word_less y x fy fx) in
      split_arrives w sc 2 n (ends b to (n + 2)) a (with_reg a 1 (flag (int_lt y x))) k (λ z c'. KeepsRegisters r r a c') (int_le x y) (keeps_one r r (flag (int_lt y x)) a)
      (subst (λ z. Reaches w 2 (at_with n a k) (at_with (ends b to (n + 2) z) (with_reg a 1 (flag (int_lt y x))) k)) (not_less x y) (flagged b g q 0 far to r n' n (int_lt y x) a k idle before there.0 there.1.0 e aims)))
  ordered _ ge = ints Ge (λ b far to r n' n q g x y a k idle before fx fy ex ey there aims.
      let e : flag (less (reg a.regs q) (reg a.regs g)) ≡ flag (int_lt x y) = ap flag (ap₂ less ex ey ∙ word_less x y fx fy) in
      split_arrives w sc 2 n (ends b to (n + 2)) a (with_reg a 1 (flag (int_lt x y))) k (λ z c'. KeepsRegisters r r a c') (int_le y x) (keeps_one r r (flag (int_lt x y)) a)
      (subst (λ z. Reaches w 2 (at_with n a k) (at_with (ends b to (n + 2) z) (with_reg a 1 (flag (int_lt x y))) k)) (not_less y x) (flagged b q g 0 far to r n' n (int_lt x y) a k idle before there.0 there.1.0 e aims)))

  -- comparisons with a constant: the code goes by a bool of the value
  abbrev GoesBy : (Bool → ℕ → ℕ → List Inst) → (ℤ → Bool) → Type 0
  GoesBy g by = (b : Bool) (far to r n' n q : ℕ) (x : ℤ) (a : Contents) (k : Behind) → k.pending ≡ Idle → n' ≤ n → FitsSigned w32 x
      → reg a.regs q ≡ word_of x → CodeAt w n (g b far q) → Aims n' (n + length (g b far q)) far to
      → (c : Contents) × KeepsRegisters r r a c × Reaches w 2 (at_with n a k) (at_with (ends b to (n + length (g b far q)) (by x)) c k)

  by_negative : GoesBy (λ b far q. negative_branch b q far ∷ []) (λ x. int_lt x (pos 0))
  by_negative b far to r n' n q x a k idle before fx ex there aims =
      let which : is_negative (reg a.regs q) ≡ int_lt x (pos 0) = ap is_negative ex ∙ ap (λ y. int_lt y (pos 0)) (to_z-of_z w32 x fx) in
      let run = negative_branches w f b q far to n' n a k idle there.0 before aims in
      (a, keeps_all r r a, later w 1 2 _ _ (omega arith) (subst (λ z. Reaches w 1 (at_with n a k) (at_with (ends b to (n + 1) z) a k)) which run))

  by_positive : GoesBy (λ b far q. positive_branch b q far ∷ []) (λ x. int_lt (pos 0) x)
  by_positive b far to r n' n q x a k idle before fx ex there aims =
      let which : is_positive (reg a.regs q) ≡ int_lt (pos 0) x = ap is_positive ex ∙ ap (λ y. int_lt (pos 0) y) (to_z-of_z w32 x fx) in
      let run = positive_branches w f b q far to n' n a k idle there.0 before aims in
      (a, keeps_all r r a, later w 1 2 _ _ (omega arith) (subst (λ z. Reaches w 1 (at_with n a k) (at_with (ends b to (n + 1) z) a k)) which run))

  by_below : (v : ℕ) (by : ℤ → Bool) → ((x : ℤ) → FitsSigned w32 x → less (word_of x) (extended (v % 2 ^ 16)) ≡ by x)
      → GoesBy (λ b far q. below_code v b far q) by
  by_below v by tells b far to r n' n q x a k idle before fx ex there aims =
      let e : flag (less (reg a.regs q) (extended (low v))) ≡ flag (by x) = ap flag (ap (λ y. less y (extended (low v))) ex ∙ tells x fx) in
      let one = said_step w f (Slti 1 q (low v)) (Becomes (flag (by x))) n a k there.0 refl idle e in
      let len : n + 2 ≡ n + 1 + 1 = omega arith in
      let run = branches w f (not b) 1 0 far to n' (n + 1) (with_reg a 1 (flag (by x))) k idle there.1.0 (omega arith) (aims_at n' (n + 2) (n + 1 + 1) far to len aims) in
      let end : ends (not b) to (n + 1 + 1) (nat_eq (flag (by x)) 0) ≡ ends b to (n + 2) (by x) = ap (ends (not b) to (n + 1 + 1)) (zero_flag (by x)) ∙ turned b to (n + 1 + 1) (by x) ∙ same_end b to _ _ (by x) (sym len) in
      (with_reg a 1 (flag (by x)), keeps_one r r (flag (by x)) a, joined w 1 1 _ _ _ one (subst (λ z. Reaches w 1 (at_with (n + 1) (with_reg a 1 (flag (by x))) k) (at_with z (with_reg a 1 (flag (by x))) k)) end run))

  by_other : (g : Bool → ℕ → ℕ → List Inst) (by : ℤ → Bool) → GoesBy g by → GoesBy (λ b far q. g (not b) far q) (λ x. not (by x))
  by_other g by h b far to r n' n q x a k idle before fx ex there aims =
      let z = h (not b) far to r n' n q x a k idle before fx ex there aims in
      (z.0, z.1, subst (λ m. Reaches w 2 (at_with n a k) (at_with m z.0 k)) (other b to (n + length (g (not b) far q)) (by x)) z.2)
    where
      other : (b : Bool) (to end : ℕ) (x : Bool) → ends (not b) to end x ≡ ends b to end (not x)
      other true to end true = refl
      other true to end false = refl
      other false to end true = refl
      other false to end false = refl

  by_same : (g : Bool → ℕ → ℕ → List Inst) (by is : ℤ → Bool) → ((x : ℤ) → by x ≡ is x) → GoesBy g by → GoesBy g is
  by_same g by is e h b far to r n' n q x a k idle before fx ex there aims =
      let z = h b far to r n' n q x a k idle before fx ex there aims in
      (z.0, z.1, subst (λ y. Reaches w 2 (at_with n a k) (at_with (ends b to (n + length (g b far q)) y) z.0 k)) (e x) z.2)

  -- the four orders
  zero_or_near : {A : Type 0} (k v : ℕ) (c g f : A) → cond (nat_eq k 0) (Some c) (cond (is_near v) (Some g) None) ≡ Some f
      → ((k ≡ 0) × (c ≡ f)) ⊎ ((extended (v % 2 ^ 16) ≡ v) × (g ≡ f))
  zero_or_near k v c g f e = by_zero (nat_eq k 0) refl e
    where
      by_zero : (b : Bool) → nat_eq k 0 ≡ b → cond b (Some c) (cond (is_near v) (Some g) None) ≡ Some f
          → ((k ≡ 0) × (c ≡ f)) ⊎ ((extended (v % 2 ^ 16) ≡ v) × (g ≡ f))
      by_zero true z e = inl (eqb-true k 0 z, cc)
      by_zero false z e = inr (near_some v g f e)

  is_zero : (z : ℤ) → FitsSigned w32 z → word_of z ≡ 0 → z ≡ pos 0
  is_zero z fz e = sym (to_z-of_z w32 z fz) ∙ ap (cast_signed w32) e

  not_not : (b : Bool) → not (not b) ≡ b
  not_not true = refl
  not_not false = refl

  by_lt : (z : ℤ) → FitsSigned w32 z → (g : Bool → ℕ → ℕ → List Inst) → immediate_test Lt (word_of z) ≡ Some g → GoesBy g (λ x. int_lt x z)
  by_lt z fz g e = elim (zero_or_near (word_of z) (word_of z) (λ s far q. negative_branch s q far ∷ []) (λ s far q. below_code (word_of z) s far q) g e) [
    | inl h ↦ subst (λ g. GoesBy g (λ x. int_lt x z)) h.1 (by_same (λ s far q. negative_branch s q far ∷ []) (λ x. int_lt x (pos 0)) (λ x. int_lt x z) (λ x. ap (int_lt x) (sym (is_zero z fz h.0))) by_negative)
    | inr h ↦ subst (λ g. GoesBy g (λ x. int_lt x z)) h.1 (by_below (word_of z) (λ x. int_lt x z) (λ x fx. ap (less (word_of x)) h.0 ∙ word_less x z fx fz))
  ]

  by_ge : (z : ℤ) → FitsSigned w32 z → (g : Bool → ℕ → ℕ → List Inst) → immediate_test Ge (word_of z) ≡ Some g → GoesBy g (λ x. int_le z x)
  by_ge z fz g e = elim (zero_or_near (word_of z) (word_of z) (λ s far q. negative_branch (not s) q far ∷ []) (λ s far q. below_code (word_of z) (not s) far q) g e) [
    | inl h ↦ subst (λ g. GoesBy g (λ x. int_le z x)) h.1 (by_same (λ s far q. negative_branch (not s) q far ∷ []) (λ x. not (int_lt x (pos 0))) (λ x. int_le z x) (λ x. ap (λ y. not (int_lt x y)) (sym (is_zero z fz h.0)) ∙ not_less z x) (by_other (λ s far q. negative_branch s q far ∷ []) (λ x. int_lt x (pos 0)) by_negative))
    | inr h ↦ subst (λ g. GoesBy g (λ x. int_le z x)) h.1 (by_same (λ s far q. below_code (word_of z) (not s) far q) (λ x. not (int_lt x z)) (λ x. int_le z x) (λ x. not_less z x) (by_other (λ s far q. below_code (word_of z) s far q) (λ x. int_lt x z) (by_below (word_of z) (λ x. int_lt x z) (λ x fx. ap (less (word_of x)) h.0 ∙ word_less x z fx fz))))
  ]

  by_gt : (z : ℤ) → FitsSigned w32 z → (g : Bool → ℕ → ℕ → List Inst) → immediate_test Gt (word_of z) ≡ Some g → GoesBy g (λ x. int_lt z x)
  by_gt z fz g e = elim (zero_or_near (word_of z) ((word_of z + 1) % 2 ^ 32) (λ s far q. positive_branch s q far ∷ []) (λ s far q. below_code ((word_of z + 1) % 2 ^ 32) (not s) far q) g e) [
    | inl h ↦ subst (λ g. GoesBy g (λ x. int_lt z x)) h.1 (by_same (λ s far q. positive_branch s q far ∷ []) (λ x. int_lt (pos 0) x) (λ x. int_lt z x) (λ x. ap (λ y. int_lt y x) (sym (is_zero z fz h.0))) by_positive)
    | inr h ↦ subst (λ g. GoesBy g (λ x. int_lt z x)) h.1 (by_same (λ s far q. below_code ((word_of z + 1) % 2 ^ 32) (not s) far q) (λ x. not (int_le x z)) (λ x. int_lt z x) (λ x. ap not (sym (not_less x z)) ∙ not_not (int_lt z x)) (by_other (λ s far q. below_code ((word_of z + 1) % 2 ^ 32) s far q) (λ x. int_le x z) (by_below ((word_of z + 1) % 2 ^ 32) (λ x. int_le x z) (λ x fx. less_near x z ((word_of z + 1) % 2 ^ 32) fx fz refl h.0))))
  ]

  by_le : (z : ℤ) → FitsSigned w32 z → (g : Bool → ℕ → ℕ → List Inst) → immediate_test Le (word_of z) ≡ Some g → GoesBy g (λ x. int_le x z)
  by_le z fz g e = elim (zero_or_near (word_of z) ((word_of z + 1) % 2 ^ 32) (λ s far q. positive_branch (not s) q far ∷ []) (λ s far q. below_code ((word_of z + 1) % 2 ^ 32) s far q) g e) [
    | inl h ↦ subst (λ g. GoesBy g (λ x. int_le x z)) h.1 (by_same (λ s far q. positive_branch (not s) q far ∷ []) (λ x. not (int_lt (pos 0) x)) (λ x. int_le x z) (λ x. ap (λ y. not (int_lt y x)) (sym (is_zero z fz h.0)) ∙ not_less x z) (by_other (λ s far q. positive_branch s q far ∷ []) (λ x. int_lt (pos 0) x) by_positive))
    | inr h ↦ subst (λ g. GoesBy g (λ x. int_le x z)) h.1 (by_below ((word_of z + 1) % 2 ^ 32) (λ x. int_le x z) (λ x fx. less_near x z ((word_of z + 1) % 2 ^ 32) fx fz refl h.0))
  ]

  -- a value in a register, and then such code
  compared_with : (g : Bool → ℕ → ℕ → List Inst) (by : ℤ → Bool) (on : Value → Result Value Failure) (ma : Made) (na : ℕ) (x : Costed Value)
      → ((z : ℤ) → on (int z) ≡ Ok (bool (by z))) → GoesBy g by → OperandRuns w sc p live fs s ma na ty.int x
      → (b : Bool) (far to r n : ℕ) (c : Contents) (k : Behind) → k.pending ≡ Idle → ReadyWith sc p live fs s c → CodeAt w n (one_code (λ q. g b far q) ma r)
      → 8 ≤ r → r < 20 → r + na ≤ 20 → Aims n (n + length (one_code (λ q. g b far q) ma r)) far to →
      Splits w sc 2 n (ends b to (n + length (one_code (λ q. g b far q) ma r))) c k (λ y c'. KeepsRegisters r r c c') (truth (x >>= λ v. at_no_cost (on v)))
  compared_with g by on ma na x says own o b far to r n c k idle ready code lo hi room aims =
      let a = o r n c k idle ready (code_front w n (operand_code ma r) (g b far (operand_register ma r)) code) lo room in
      let last = code_back w n (operand_code ma r) (g b far (operand_register ma r)) code in
      let len : n + length (operand_code ma r) + length (g b far (operand_register ma r)) ≡ n + length (one_code (λ q. g b far q) ma r) = omega (arith, length-append (operand_code ma r) (g b far (operand_register ma r))) in
      subst (λ e. Splits w sc 2 n (ends b to (n + length (one_code (λ q. g b far q) ma r))) c k (λ y c'. KeepsRegisters r r c c') e) (sym (truth_binds x (λ v. at_no_cost (on v))))
      (split_binds w sc 0 2 n (λ y. n + length (operand_code ma r)) (ends b to (n + length (one_code (λ q. g b far q) ma r))) c k (HoldsValue sc p (operand_register ma r) r r ty.int c) (λ y c'. KeepsRegisters r r c c') x _ (as_split w sc 0 n (n + length (operand_code ma r)) c k (HoldsValue sc p (operand_register ma r) r r ty.int c) x a.1)
      (λ v e g. keeps_low r r c e hi g.keeps) (by_value last len))
    where
      by_value : CodeAt w (n + length (operand_code ma r)) (g b far (operand_register ma r))
          → n + length (operand_code ma r) + length (g b far (operand_register ma r)) ≡ n + length (one_code (λ q. g b far q) ma r)
          → (v : Value) (e : Contents) → HoldsValue sc p (operand_register ma r) r r ty.int c v e
          → Splits w sc 2 (n + length (operand_code ma r)) (ends b to (n + length (one_code (λ q. g b far q) ma r))) e k (λ y c'. KeepsRegisters r r c c') (truth (at_no_cost (on v)))
      by_value there len (int z) e h =
          let run = own b far to r n (n + length (operand_code ma r)) (operand_register ma r) z e k idle (omega arith) h.fits h.is there (aims_at n _ _ far to (sym len) aims) in
          subst (λ y. Splits w sc 2 (n + length (operand_code ma r)) (ends b to (n + length (one_code (λ q. g b far q) ma r))) e k (λ y c'. KeepsRegisters r r c c') (truth (at_no_cost y))) (sym (says z))
          (split_arrives w sc 2 (n + length (operand_code ma r)) (ends b to (n + length (one_code (λ q. g b far q) ma r))) e run.0 k (λ y c'. KeepsRegisters r r c c') (by z) (keeps_on r r c e run.0 h.keeps run.1) (subst (λ t. Reaches w 2 (at_with (n + length (operand_code ma r)) e k) (at_with t run.0 k)) (same_end b to _ _ (by z) len) run.2))
      by_value there len (bool z) e h = absurd h.fits
      by_value there len value.null e h = absurd h.fits
      by_value there len (at l) e h = absurd h.fits
      by_value there len (group vs) e h = absurd h.fits

  -- a side whose value is known takes no steps
  dearer_split : (own u v n : ℕ) (to : Bool → ℕ) (c : Contents) (k : Behind) (Q : Bool → Contents → Type 0) (y : Result Bool Failure) → u ≤ v
      → Splits w sc own n to c k Q (costs u y) → Splits w sc own n to c k Q (costs v y)
  dearer_split own u v n to c k Q (Ok x) more h = (h.0, h.1, later w (own + 16 * u) (own + 16 * v) _ _ (omega arith) h.2)
  dearer_split own u v n to c k Q (Err (faulted g)) more h = (h.0, h.1, later w (own + 16 * u) (own + 16 * v) _ _ (omega arith) h.2)
  dearer_split own u v n to c k Q (Err stuck) more h = absurd h

  extra_truth : (own u m n : ℕ) (to : Bool → ℕ) (c : Contents) (k : Behind) (Q : Bool → Contents → Type 0) (y : Result Value Failure)
      → Splits w sc own n to c k Q (truth (paying m (costs 0 y))) → Splits w sc own n to c k Q (truth (paying m (paying u (costs 0 y))))
  extra_truth own u m n to c k Q (Ok v) h = dearer_split own (m + 0 + 0) (m + (u + 0) + 0) n to c k Q (bool_of v) (omega arith) h
  extra_truth own u m n to c k Q (Err (faulted g)) h = (h.0, h.1, later w (own + 16 * (m + 0)) (own + 16 * (m + (u + 0))) _ _ (omega arith) h.2)
  extra_truth own u m n to c k Q (Err stuck) h = absurd h

  known_right : (own u n : ℕ) (to : Bool → ℕ) (c : Contents) (k : Behind) (Q : Bool → Contents → Type 0) (x y : Costed Value) (v : Value) (on : Value → Value → Result Value Failure) → y ≡ costs u (Ok v)
      → Splits w sc own n to c k Q (truth (x >>= λ a. at_no_cost (on a v)))
      → Splits w sc own n to c k Q (truth (x >>= λ a. y >>= λ b. at_no_cost (on a b)))
  known_right own u n to c k Q (costs m (Ok a)) y v on e h = subst (λ y. Splits w sc own n to c k Q (truth (paying m (y >>= λ b. at_no_cost (on a b))))) (sym e) (extra_truth own u m n to c k Q (on a v) h)
  known_right own u n to c k Q (costs m (Err a)) y v on e h = h

  -- two tests
  abbrev TestsAs : Facts → Testing → ℕ → Costed Bool → Type 0
  TestsAs g code need e = (b : Bool) (far to r n : ℕ) (c : Contents) (k : Behind) → k.pending ≡ Idle → ReadyWith sc p live g s c → CodeAt w n (code b far r)
      → 8 ≤ r → r + need ≤ 20 → Aims n (n + length (code b far r)) far to
      → Splits w sc 1 n (ends b to (n + length (code b far r))) c k (λ y c'. KeepsRegisters r r c c') e

  -- the first decides for the whole test's place: the first goes there, or on to the second
  straight_two : (behind : Facts) (decides : Bool) (one two : Testing) (na nb : ℕ) (x y : Costed Bool) (rest : Bool → Costed Bool) → TestsAs fs one na x
      → TestsAs behind two nb y → rest decides ≡ at_no_cost (Ok decides) → rest (not decides) ≡ y
      → ((u : ℕ) (b : Contents) → x ≡ costs u (Ok (not decides)) → ReadyWith sc p live fs s b → ReadyWith sc p live behind s b) →
      (far to r n : ℕ) (c : Contents) (k : Behind) → k.pending ≡ Idle → ReadyWith sc p live fs s c → 8 ≤ r → r < 20 → r + na ≤ 20 → r + nb ≤ 20 →
      CodeAt w n (one decides ((far + length (two decides far r)) % 2 ^ 16) r ++ two decides far r) → Aims n (n + length (one decides ((far + length (two decides far r)) % 2 ^ 16) r ++ two decides far r)) far to →
      Splits w sc 2 n (ends decides to (n + length (one decides ((far + length (two decides far r)) % 2 ^ 16) r ++ two decides far r))) c k (λ z c'. KeepsRegisters r r c c') (x >>= rest)
  straight_two behind decides one two na nb x y rest t1 t2 stop go told far to r n c k idle ready lo hi ha hb code aims =
      split_binds w sc 1 1 n (ends decides to n1) (ends decides to end) c k (Answered w sc (λ z c'. KeepsRegisters r r c c') x) (λ z c'. KeepsRegisters r r c c') x rest
      (split_answered w sc 1 n _ c k (λ z c'. KeepsRegisters r r c c') x (t1 decides far1 to r n c k idle ready (code_front w n is js code) lo ha first_aims))
      (λ z b g. keeps_low r r c b hi g.holds)
      (λ z b g. by_answer z b g.units g.is g.holds (answers z decides))
    where
      far1 : ℕ
      far1 = (far + length (two decides far r)) % 2 ^ 16

      is : List Inst
      is = one decides far1 r

      js : List Inst
      js = two decides far r

      n1 : ℕ
      n1 = n + length (one decides far1 r)

      end : ℕ
      end = n + length (one decides far1 r ++ two decides far r)

      len : n1 + length js ≡ end
      len = omega (arith, length-append (one decides far1 r) (two decides far r))

      first_aims : Aims n n1 far1 to
      first_aims =
          let same = aims.same in let b = aims.behind in let l = len in
          record { same = omega (arith, same, l); short = omega arith; ahead = aims.ahead; behind = omega (arith, b, l) }

      answers : (z d : Bool) → (z ≡ d) ⊎ (z ≡ not d)
      answers true true = inl refl
      answers true false = inr refl
      answers false true = inr refl
      answers false false = inl refl

      at_place : (d : Bool) (to e : ℕ) → ends d to e d ≡ to
      at_place true to e = refl
      at_place false to e = refl

      at_end : (d : Bool) (to e : ℕ) → ends d to e (not d) ≡ e
      at_end true to e = refl
      at_end false to e = refl

      by_answer : (z : Bool) (b : Contents) (u : ℕ) → x ≡ costs u (Ok z) → KeepsRegisters r r c b → (z ≡ decides) ⊎ (z ≡ not decides)
          → Splits w sc 1 (ends decides to n1 z) (ends decides to end) b k (λ z c'. KeepsRegisters r r c c') (rest z)
      by_answer z b u q g (inl e) =
          subst (λ z. Splits w sc 1 (ends decides to n1 z) (ends decides to end) b k (λ z c'. KeepsRegisters r r c c') (rest z)) (sym e)
          (subst (λ o. Splits w sc 1 (ends decides to n1 decides) (ends decides to end) b k (λ z c'. KeepsRegisters r r c c') o) (sym stop)
          (split_arrives w sc 1 _ (ends decides to end) b b k (λ z c'. KeepsRegisters r r c c') decides g (later w 0 1 _ _ (omega arith) (stays w _ _ (ap (λ m. at_with m b k) (at_place decides to n1 ∙ sym (at_place decides to end)))))))
      by_answer z b u q g (inr e) =
          subst (λ z. Splits w sc 1 (ends decides to n1 z) (ends decides to end) b k (λ z c'. KeepsRegisters r r c c') (rest z)) (sym e)
          (subst (λ o. Splits w sc 1 (ends decides to n1 (not decides)) (ends decides to end) b k (λ z c'. KeepsRegisters r r c c') o) (sym go)
          (subst (λ m. Splits w sc 1 m (ends decides to end) b k (λ z c'. KeepsRegisters r r c c') y) (sym (at_end decides to n1))
          (split_at w sc 1 n1 (ends decides to (n1 + length js)) (ends decides to end) b k (λ z c'. KeepsRegisters r r c c') y (λ v. same_end decides to _ _ v len)
          (split_says w sc 1 n1 _ b k (λ z c'. KeepsRegisters r r b c') (λ z c'. KeepsRegisters r r c c') y (λ v j h. keeps_on r r c b j g h)
          (t2 decides far to r n1 b k idle (told u b (q ∙ ap (λ (v : Bool). costs u (Ok v)) e) (with_on sc p live fs s c b r lo hi g ready)) (code_back w n is js code) lo hb (aims_in n n1 (n1 + length js) far to (omega arith) (aims_at n end (n1 + length js) far to (sym len) aims)))))))

  -- the first decides against it: it goes over the second, or on to it
  over_two : (behind : Facts) (decides : Bool) (one two : Testing) (na nb : ℕ) (x y : Costed Bool) (rest : Bool → Costed Bool) → TestsAs fs one na x → TestsAs behind two nb y
      → rest decides ≡ at_no_cost (Ok decides) → rest (not decides) ≡ y
      → ((u : ℕ) (b : Contents) → x ≡ costs u (Ok (not decides)) → ReadyWith sc p live fs s b → ReadyWith sc p live behind s b) →
      (far to r n : ℕ) (c : Contents) (k : Behind) → k.pending ≡ Idle → ReadyWith sc p live fs s c → 8 ≤ r → r < 20 → r + na ≤ 20 → r + nb ≤ 20
      → length (one decides (length (two (not decides) far r) % 2 ^ 16) r ++ two (not decides) far r) ≤ 32768 →
      CodeAt w n (one decides (length (two (not decides) far r) % 2 ^ 16) r ++ two (not decides) far r) → Aims n (n + length (one decides (length (two (not decides) far r) % 2 ^ 16) r ++ two (not decides) far r)) far to →
      Splits w sc 2 n (ends (not decides) to (n + length (one decides (length (two (not decides) far r) % 2 ^ 16) r ++ two (not decides) far r))) c k (λ z c'. KeepsRegisters r r c c') (x >>= rest)
  over_two behind decides one two na nb x y rest t1 t2 stop go told far to r n c k idle ready lo hi ha hb small code aims =
      split_binds w sc 1 1 n (ends decides end n1) (ends (not decides) to end) c k (Answered w sc (λ z c'. KeepsRegisters r r c c') x) (λ z c'. KeepsRegisters r r c c') x rest
      (split_answered w sc 1 n _ c k (λ z c'. KeepsRegisters r r c c') x (t1 decides far1 end r n c k idle ready (code_front w n is js code) lo ha first_aims))
      (λ z b g. keeps_low r r c b hi g.holds)
      (λ z b g. by_answer z b g.units g.is g.holds (answers z decides))
    where
      far1 : ℕ
      far1 = length (two (not decides) far r) % 2 ^ 16

      is : List Inst
      is = one decides far1 r

      js : List Inst
      js = two (not decides) far r

      n1 : ℕ
      n1 = n + length (one decides far1 r)

      end : ℕ
      end = n + length (one decides far1 r ++ two (not decides) far r)

      len : n1 + length js ≡ end
      len = omega (arith, length-append (one decides far1 r) (two (not decides) far r))

      first_aims : Aims n n1 far1 end
      first_aims = let l = len in let m = length-append (one decides far1 r) (two (not decides) far r) in record { same = omega (arith, l); short = omega arith; ahead = omega (arith, small); behind = omega (arith, l) }

      answers : (z d : Bool) → (z ≡ d) ⊎ (z ≡ not d)
      answers true true = inl refl
      answers true false = inr refl
      answers false true = inr refl
      answers false false = inl refl

      over : (d : Bool) (e m to : ℕ) → ends d e m d ≡ ends (not d) to e d
      over true e m to = refl
      over false e m to = refl

      at_end : (d : Bool) (e m : ℕ) → ends d e m (not d) ≡ m
      at_end true e m = refl
      at_end false e m = refl

      by_answer : (z : Bool) (b : Contents) (u : ℕ) → x ≡ costs u (Ok z) → KeepsRegisters r r c b → (z ≡ decides) ⊎ (z ≡ not decides)
          → Splits w sc 1 (ends decides end n1 z) (ends (not decides) to end) b k (λ z c'. KeepsRegisters r r c c') (rest z)
      by_answer z b u q g (inl e) =
          subst (λ z. Splits w sc 1 (ends decides end n1 z) (ends (not decides) to end) b k (λ z c'. KeepsRegisters r r c c') (rest z)) (sym e)
          (subst (λ o. Splits w sc 1 (ends decides end n1 decides) (ends (not decides) to end) b k (λ z c'. KeepsRegisters r r c c') o) (sym stop)
          (split_arrives w sc 1 _ (ends (not decides) to end) b b k (λ z c'. KeepsRegisters r r c c') decides g (later w 0 1 _ _ (omega arith) (stays w _ _ (ap (λ m. at_with m b k) (over decides end n1 to))))))
      by_answer z b u q g (inr e) =
          subst (λ z. Splits w sc 1 (ends decides end n1 z) (ends (not decides) to end) b k (λ z c'. KeepsRegisters r r c c') (rest z)) (sym e)
          (subst (λ o. Splits w sc 1 (ends decides end n1 (not decides)) (ends (not decides) to end) b k (λ z c'. KeepsRegisters r r c c') o) (sym go)
          (subst (λ m. Splits w sc 1 m (ends (not decides) to end) b k (λ z c'. KeepsRegisters r r c c') y) (sym (at_end decides end n1))
          (split_at w sc 1 n1 (ends (not decides) to (n1 + length js)) (ends (not decides) to end) b k (λ z c'. KeepsRegisters r r c c') y (λ v. same_end (not decides) to _ _ v len)
          (split_says w sc 1 n1 _ b k (λ z c'. KeepsRegisters r r b c') (λ z c'. KeepsRegisters r r c c') y (λ v j h. keeps_on r r c b j g h)
          (t2 (not decides) far to r n1 b k idle (told u b (q ∙ ap (λ (v : Bool). costs u (Ok v)) e) (with_on sc p live fs s c b r lo hi g ready)) (code_back w n is js code) lo hb (aims_in n n1 (n1 + length js) far to (omega arith) (aims_at n end (n1 + length js) far to (sym len) aims)))))))

  -- `!`
  negated : (m n : ℕ) (to : Bool → ℕ) (c : Contents) (k : Behind) (Q : Contents → Type 0) (x : Costed Value)
      → Splits w sc m n to c k (λ y b. Q b) (truth x)
      → Splits w sc m n (λ z. to (not z)) c k (λ y b. Q b) (truth (x >>= λ v. at_no_cost (on_unary Not v)))
  negated m n to c k Q (costs u (Ok (bool true))) h = (h.0, h.1, later w (m + 16 * (u + 0)) (m + 16 * (u + 0 + 0)) _ _ (omega arith) h.2)
  negated m n to c k Q (costs u (Ok (bool false))) h = (h.0, h.1, later w (m + 16 * (u + 0)) (m + 16 * (u + 0 + 0)) _ _ (omega arith) h.2)
  negated m n to c k Q (costs u (Ok (int z))) h = absurd h
  negated m n to c k Q (costs u (Ok value.null)) h = absurd h
  negated m n to c k Q (costs u (Ok (at l))) h = absurd h
  negated m n to c k Q (costs u (Ok (group vs))) h = absurd h
  negated m n to c k Q (costs u (Err (faulted g))) h = h
  negated m n to c k Q (costs u (Err stuck)) h = absurd h

  leaf : (e : CExpr) (t : Ty) → HasNumberedType sc.env e t → t ≡ ty.bool → nodes e ≤ 2000 → Covers live (reads e)
      → TestsAs fs (plain_test (made sc fs e)) (need e) (truth (value_of e s))
  leaf e t h q few cover b far to r n c k idle ready code lo hi aims =
      let some = need_some e in
      plain (made sc fs e) (need e) (value_of e s) ((subst (Right w sc p live fs s e) q (right w sc p live s f area is_typed fs e t h few cover)).operand refl) b far to r n c k idle ready code lo (omega arith) hi aims

  -- a node's own steps are paid by its unit
  node_test : (code : Testing) (need : ℕ) (x : Costed Value)
      → ((b : Bool) (far to r n : ℕ) (c : Contents) (k : Behind) → k.pending ≡ Idle → ReadyWith sc p live fs s c → CodeAt w n (code b far r) → 8 ≤ r → r + need ≤ 20 → Aims n (n + length (code b far r)) far to → Splits w sc 2 n (ends b to (n + length (code b far r))) c k (λ y c'. KeepsRegisters r r c c') (truth x)) → TestsAs fs code need (truth (paying 1 x))
  node_test code need x h b far to r n c k idle ready there lo hi aims = split_more w sc 0 1 n (ends b to (n + length (code b far r))) c k (λ y c'. KeepsRegisters r r c c') (truth (paying 1 x)) (omega arith) (pays 2 n (ends b to (n + length (code b far r))) c k (λ y c'. KeepsRegisters r r c c') x (omega arith) (h b far to r n c k idle ready there lo hi aims))

  equal_tests : (o : BinaryOp) → IsEquality o → (t : Ty) → is_scalar t ≡ true → (m ma mb : Made) (ta tb : Testing) (na nb : ℕ) (x y : Costed Value)
      → 1 ≤ nb → OperandRuns w sc p live fs s ma na t x → OperandRuns w sc p live fs s mb nb t y
      → TestsAs fs (binary_test o m ma mb ta tb) (binary_need o na nb) (truth (paying 1 (both_sides o x y)))
  equal_tests _ eq t z m ma mb ta tb na nb x y some oa ob = node_test (binary_test Eq m ma mb ta tb) (max na (nb + 1)) _ (λ b far to r n c k idle ready code lo hi aims. compared Eq ma mb na nb t t x y (equal Eq eq t z) oa ob b far to r n c k idle ready code lo (omega arith) (omega arith) some aims)
  equal_tests _ ne t z m ma mb ta tb na nb x y some oa ob = node_test (binary_test Ne m ma mb ta tb) (max na (nb + 1)) _ (λ b far to r n c k idle ready code lo hi aims. compared Ne ma mb na nb t t x y (equal Ne ne t z) oa ob b far to r n c k idle ready code lo (omega arith) (omega arith) some aims)

  -- a comparison with a constant: which value that is, and what the code goes by
  record KnowsTest (g : Bool → ℕ → ℕ → List Inst) (y : Costed Value) (on : Value → Value → Result Value Failure) : Type 0 where
    units : ℕ
    value : ℤ
    is : y ≡ costs units (Ok (int value))
    by : ℤ → Bool
    says : (z : ℤ) → on (int z) (int value) ≡ Ok (bool (by z))
    runs : GoesBy g by

  knows_test : (o : BinaryOp) (m : Option ℕ) (y : Costed Value) (by : ℤ → ℤ → Bool) → ((k : ℕ) → m ≡ Some k → KnownAs sc p ty.int k y)
      → ((x z : ℤ) → on_binary o (int x) (int z) ≡ Ok (bool (by z x)))
      → ((z : ℤ) → FitsSigned w32 z → (g : Bool → ℕ → ℕ → List Inst) → immediate_test o (word_of z) ≡ Some g → GoesBy g (by z))
      → (g : Bool → ℕ → ℕ → List Inst) → immediate_test_of o m ≡ Some g → KnowsTest g y (on_binary o)
  knows_test o m y by known says law g e = by_known m known e
    where
      by_value : (v : Value) (u : ℕ) → y ≡ costs u (Ok v) → Fits sc.env.structs (layout sc p) ty.int v → (k : ℕ) → word_of_scalar sc p v ≡ k
          → immediate_test o k ≡ Some g → KnowsTest g y (on_binary o)
      by_value (int v) u is fits k word_is e = record { units = u; value = v; is = is; by = by v; says = λ z. says z v; runs = law v fits g (ap (immediate_test o) word_is ∙ e) }
      by_value (bool v) u is fits k word_is e = absurd fits
      by_value value.null u is fits k word_is e = absurd fits
      by_value (at v) u is fits k word_is e = absurd fits
      by_value (group v) u is fits k word_is e = absurd fits

      by_known : (m : Option ℕ) → ((k : ℕ) → m ≡ Some k → KnownAs sc p ty.int k y) → immediate_test_of o m ≡ Some g → KnowsTest g y (on_binary o)
      by_known None known e = absurd (cc)
      by_known (Some k) known e = let a = known k refl in by_value a.value a.units a.is a.fits k a.word_is e

  compare_tests : (im : ImmediateTest) (o : BinaryOp) (ma mb : Made) (na nb : ℕ) (x y : Costed Value) → 1 ≤ na → 1 ≤ nb → Compares o ty.int ty.int
      → ((g : Bool → ℕ → ℕ → List Inst) → im ≡ Some g → KnowsTest g y (on_binary o)) → OperandRuns w sc p live fs s ma na ty.int x
      → OperandRuns w sc p live fs s mb nb ty.int y
      → TestsAs fs (compare_test im o ma mb) (max na (nb + 1)) (truth (paying 1 (x >>= λ v. y >>= λ u. at_no_cost (on_binary o v u))))
  compare_tests (Some g) o ma mb na nb x y more_than some own knows oa ob = node_test (compare_test (Some g) o ma mb) (max na (nb + 1)) _ (λ b far to r n c k idle ready code lo hi aims.
      let v = knows g refl in
      known_right 2 v.units n _ c k (λ z c'. KeepsRegisters r r c c') x y (int v.value) (on_binary o) v.is
      (compared_with g v.by (λ e. on_binary o e (int v.value)) ma na x v.says v.runs oa b far to r n c k idle ready code lo (omega arith) (omega arith) aims))
  compare_tests None o ma mb na nb x y more_than some own knows oa ob = node_test (compare_test None o ma mb) (max na (nb + 1)) _ (λ b far to r n c k idle ready code lo hi aims. compared o ma mb na nb ty.int ty.int x y own oa ob b far to r n c k idle ready code lo (omega arith) (omega arith) some aims)

  order_tests : (o : BinaryOp) → IsOrdering o → (m ma mb : Made) (ta tb : Testing) (na nb : ℕ) (x y : Costed Value) → 1 ≤ na → 1 ≤ nb
      → ((k : ℕ) → mb.known ≡ Some k → KnownAs sc p ty.int k y) → OperandRuns w sc p live fs s ma na ty.int x → OperandRuns w sc p live fs s mb nb ty.int y
      → TestsAs fs (binary_test o m ma mb ta tb) (binary_need o na nb) (truth (paying 1 (both_sides o x y)))
  order_tests _ lt m ma mb ta tb na nb x y more_than some known oa ob = compare_tests (immediate_test_of Lt mb.known) Lt ma mb na nb x y more_than some (ordered Lt lt) (knows_test Lt mb.known y (λ z x. int_lt x z) known (λ x z. refl) by_lt) oa ob
  order_tests _ le m ma mb ta tb na nb x y more_than some known oa ob = compare_tests (immediate_test_of Le mb.known) Le ma mb na nb x y more_than some (ordered Le le) (knows_test Le mb.known y (λ z x. int_le x z) known (λ x z. refl) by_le) oa ob
  order_tests _ gt m ma mb ta tb na nb x y more_than some known oa ob = compare_tests (immediate_test_of Gt mb.known) Gt ma mb na nb x y more_than some (ordered Gt gt) (knows_test Gt mb.known y (λ z x. int_lt z x) known (λ x z. refl) by_gt) oa ob
  order_tests _ ge m ma mb ta tb na nb x y more_than some known oa ob = compare_tests (immediate_test_of Ge mb.known) Ge ma mb na nb x y more_than some (ordered Ge ge) (knows_test Ge mb.known y (λ z x. int_le z x) known (λ x z. refl) by_ge) oa ob

  logic_tests : (behind : Facts) (o : BinaryOp) → IsLogical o → (m ma mb : Made) (ta tb : Testing) (na nb j k : ℕ) (x y : Costed Value) → 1 ≤ na
      → ((b : Bool) (far r : ℕ) → length (ta b far r) ≤ 15 * j) → ((b : Bool) (far r : ℕ) → length (tb b far r) ≤ 15 * k) → j + k + 1 ≤ 2000
      → TestsAs fs ta na (truth x) → TestsAs behind tb nb (truth y)
      → ((u : ℕ) (c : Contents) → truth x ≡ costs u (Ok (goes_on w sc p live fs s f area is_typed o)) → ReadyWith sc p live fs s c → ReadyWith sc p live behind s c)
      → TestsAs fs (binary_test o m ma mb ta tb) (binary_need o na nb) (truth (paying 1 (both_sides o x y)))
  logic_tests behind _ and m ma mb ta tb na nb j k x y some la lb few t1 t2 told = node_test (binary_test And m ma mb ta tb) (max na nb) _ by_side
    where
      by_side : (b : Bool) (far to r n : ℕ) (c : Contents) (d : Behind) → d.pending ≡ Idle → ReadyWith sc p live fs s c
          → CodeAt w n (both_code false b ta tb far r) → 8 ≤ r → r + max na nb ≤ 20 → Aims n (n + length (both_code false b ta tb far r)) far to
          → Splits w sc 2 n (ends b to (n + length (both_code false b ta tb far r))) c d (λ y c'. KeepsRegisters r r c c') (truth (truth x >>= λ b. if b then y else at_no_cost (Ok (bool false))))
      by_side true far to r n c d idle ready code lo hi aims =
          let size = both_length sc false true ta tb j k far r la lb in
          subst (λ e. Splits w sc 2 n (ends true to (n + length (both_code false true ta tb far r))) c d (λ y c'. KeepsRegisters r r c c') e) (sym (truth_binds (truth x) (λ b. if b then y else at_no_cost (Ok (bool false)))))
          (over_two behind false ta tb na nb (truth x) (truth y) (λ b. truth (if b then y else at_no_cost (Ok (bool false)))) t1 t2 refl refl told far to r n c d idle ready lo (omega arith) (omega arith) (omega arith) (omega (arith, size, few)) code aims)
      by_side false far to r n c d idle ready code lo hi aims =
          subst (λ e. Splits w sc 2 n (ends false to (n + length (both_code false false ta tb far r))) c d (λ y c'. KeepsRegisters r r c c') e) (sym (truth_binds (truth x) (λ b. if b then y else at_no_cost (Ok (bool false)))))
          (straight_two behind false ta tb na nb (truth x) (truth y) (λ b. truth (if b then y else at_no_cost (Ok (bool false)))) t1 t2 refl refl told far to r n c d idle ready lo (omega arith) (omega arith) (omega arith) code aims)
  logic_tests behind _ or m ma mb ta tb na nb j k x y some la lb few t1 t2 told = node_test (binary_test Or m ma mb ta tb) (max na nb) _ by_side
    where
      by_side : (b : Bool) (far to r n : ℕ) (c : Contents) (d : Behind) → d.pending ≡ Idle → ReadyWith sc p live fs s c
          → CodeAt w n (both_code true b ta tb far r) → 8 ≤ r → r + max na nb ≤ 20 → Aims n (n + length (both_code true b ta tb far r)) far to
          → Splits w sc 2 n (ends b to (n + length (both_code true b ta tb far r))) c d (λ y c'. KeepsRegisters r r c c') (truth (truth x >>= λ b. if b then at_no_cost (Ok (bool true)) else y))
      by_side false far to r n c d idle ready code lo hi aims =
          let size = both_length sc true false ta tb j k far r la lb in
          subst (λ e. Splits w sc 2 n (ends false to (n + length (both_code true false ta tb far r))) c d (λ y c'. KeepsRegisters r r c c') e) (sym (truth_binds (truth x) (λ b. if b then at_no_cost (Ok (bool true)) else y)))
          (over_two behind true ta tb na nb (truth x) (truth y) (λ b. truth (if b then at_no_cost (Ok (bool true)) else y)) t1 t2 refl refl told far to r n c d idle ready lo (omega arith) (omega arith) (omega arith) (omega (arith, size, few)) code aims)
      by_side true far to r n c d idle ready code lo hi aims =
          subst (λ e. Splits w sc 2 n (ends true to (n + length (both_code true true ta tb far r))) c d (λ y c'. KeepsRegisters r r c c') e) (sym (truth_binds (truth x) (λ b. if b then at_no_cost (Ok (bool true)) else y)))
          (straight_two behind true ta tb na nb (truth x) (truth y) (λ b. truth (if b then at_no_cost (Ok (bool true)) else y)) t1 t2 refl refl told far to r n c d idle ready lo (omega arith) (omega arith) (omega arith) code aims)

  operand_of : (e : CExpr) (t : Ty) → is_scalar t ≡ true → HasNumberedType sc.env e t → nodes e ≤ 2000 → Covers live (reads e)
      → OperandRuns w sc p live fs s (made sc fs e) (need e) t (value_of e s)
  operand_of e t z h few cover = (right w sc p live s f area is_typed fs e t h few cover).operand z

module _ (w : World) (sc : Scope) (p : Bases) (live : ℕ → Bool) (s : C0State) (f : Machine w) (area : Area w sc p) (is_typed : StateIsTyped sc p s) where
  -- a comparison evaluates both sides
  both_evaluated : (fs : Facts) (span : Span) (o : BinaryOp) (a b : CExpr) → right_facts o (typed_of_expr sc.env a) fs ≡ fs
      → TestsAs w sc p live fs s f area is_typed fs (binary_test o (made sc fs (binary span o a b)) (made sc fs a) (made sc fs b) (test_code sc fs a) (test_code sc fs b)) (binary_need o (need a) (need b)) (truth (paying 1 (both_sides o (value_of a s) (value_of b s))))
      → TestRuns w sc p live fs s (binary span o a b)
  both_evaluated fs span o a b e h =
      subst (λ g. TestsAs w sc p live fs s f area is_typed fs (binary_test o (made sc fs (binary span o a b)) (made sc fs a) (made sc g b) (test_code sc fs a) (test_code sc g b)) (binary_need o (need a) (need b)) (truth (paying 1 (both_sides o (value_of a s) (value_of b s))))) (sym e) h

  -- THE THEOREM of tests
  pub tests : (fs : Facts) (e : CExpr) (t : Ty) → HasNumberedType sc.env e t → t ≡ ty.bool → nodes e ≤ 2000 → Covers live (reads e) → TestRuns w sc p live fs s e
  tests fs _ _ (a_negation {e = e} h) q few cover =
      let inner = tests fs e ty.bool h refl (omega arith) cover in
      node_test w sc p live fs s f area is_typed (λ b far r. test_code sc fs e (not b) far r) (need e) _ (λ b far to r n c k idle ready code lo hi aims.
      let one = inner (not b) far to r n c k idle ready code lo hi aims in
      split_more w sc 1 2 n _ c k (λ y c'. KeepsRegisters r r c c') (truth (value_of e s >>= λ v. at_no_cost (on_unary Not v))) (omega arith)
      (split_at w sc 1 n (λ z. ends (not b) to (n + length (test_code sc fs e (not b) far r)) (not z)) (ends b to (n + length (test_code sc fs e (not b) far r))) c k (λ y c'. KeepsRegisters r r c c') (truth (value_of e s >>= λ v. at_no_cost (on_unary Not v))) (turned b to (n + length (test_code sc fs e (not b) far r)))
      (negated w sc p live fs s f area is_typed 1 n (ends (not b) to (n + length (test_code sc fs e (not b) far r))) c k (λ c'. KeepsRegisters r r c c') (value_of e s) one)))
  tests fs _ _ (order {s = span} {o = o} {a = a} {b = b} k h g) q few cover =
      both_evaluated fs span o a b (order_knows o k (typed_of_expr sc.env a) fs)
      (order_tests w sc p live fs s f area is_typed o k (made sc fs (binary span o a b)) (made sc fs a) (made sc fs b) (test_code sc fs a) (test_code sc fs b) (need a) (need b) (value_of a s) (value_of b s) (need_some a) (need_some b) (λ k e. known_is sc p fs b ty.int s k g e) (operand_of w sc p live fs s f area is_typed a ty.int refl h (omega arith) (λ m y. cover m (or_left (reads a m) (reads b m) y))) (operand_of w sc p live fs s f area is_typed b ty.int refl g (omega arith) (λ m y. cover m (or_right (reads a m) (reads b m) y))))
  tests fs _ _ (logic {s = span} {o = o} {a = a} {b = b} k h g) q few cover = logic_tests w sc p live fs s f area is_typed (right_facts o (typed_of_expr sc.env a) fs) o k (made sc fs (binary span o a b)) (made sc fs a) (made sc (right_facts o (typed_of_expr sc.env a) fs) b) (test_code sc fs a) (test_code sc (right_facts o (typed_of_expr sc.env a) fs) b) (need a) (need b) (nodes a) (nodes b) (value_of a s) (value_of b s) (need_some a) (λ y far r. test_length sc fs a y far r) (λ y far r. test_length sc (right_facts o (typed_of_expr sc.env a) fs) b y far r) few (tests fs a ty.bool h refl (omega arith) (λ m y. cover m (or_left (reads a m) (reads b m) y))) (tests (right_facts o (typed_of_expr sc.env a) fs) b ty.bool g refl (omega arith) (λ m y. cover m (or_right (reads a m) (reads b m) y))) (behind_left w sc p live s f area is_typed fs o k a h)
  tests fs _ _ (equality {s = span} {o = o} {a = a} {b = b} {t = t} k z h g) q few cover =
      both_evaluated fs span o a b (equality_knows o k (typed_of_expr sc.env a) fs)
      (equal_tests w sc p live fs s f area is_typed o k t z (made sc fs (binary span o a b)) (made sc fs a) (made sc fs b) (test_code sc fs a) (test_code sc fs b) (need a) (need b) (value_of a s) (value_of b s) (need_some b) (operand_of w sc p live fs s f area is_typed a t z h (omega arith) (λ m y. cover m (or_left (reads a m) (reads b m) y))) (operand_of w sc p live fs s f area is_typed b t z g (omega arith) (λ m y. cover m (or_right (reads a m) (reads b m) y))))
  tests fs _ _ (null_left {s = whole} {r = span} {o = o} {b = b} {t = t} k g) q few cover =
      both_evaluated fs whole o (null span) b (equality_knows o k (typed_of_expr sc.env (null span)) fs)
      (equal_tests w sc p live fs s f area is_typed o k (ty.pointer t) refl (made sc fs (binary whole o (null span) b)) (made sc fs (null span)) (made sc fs b) (test_code sc fs (null span)) (test_code sc fs b) 1 (need b) (value_of (null span) s) (value_of b s) (need_some b) ((null_right_is w sc p live fs s f area is_typed span t).operand refl) (operand_of w sc p live fs s f area is_typed b (ty.pointer t) refl g (omega arith) (λ m y. cover m y)))
  tests fs _ _ (null_right {s = whole} {r = span} {o = o} {a = a} {t = t} k h) q few cover =
      both_evaluated fs whole o a (null span) (equality_knows o k (typed_of_expr sc.env a) fs)
      (equal_tests w sc p live fs s f area is_typed o k (ty.pointer t) refl (made sc fs (binary whole o a (null span))) (made sc fs a) (made sc fs (null span)) (test_code sc fs a) (test_code sc fs (null span)) (need a) 1 (value_of a s) (value_of (null span) s) (omega arith) (operand_of w sc p live fs s f area is_typed a (ty.pointer t) refl h (omega arith) (λ m y. cover m (or_left (reads a m) false y))) ((null_right_is w sc p live fs s f area is_typed span t).operand refl))
  tests fs _ _ (a_variable {x = x} {d = d} h) q few cover = leaf w sc p live fs s f area is_typed (var x) d.ty (a_variable h) q few cover
  tests fs _ _ (a_field {s = span} {e = e} {f = g} {d = d} pl h n) q few cover = leaf w sc p live fs s f area is_typed (field span e g) d.ty (a_field pl h n) q few cover
  tests fs _ _ (a_target_field {s = span} {e = e} {f = g} {d = d} h n) q few cover = leaf w sc p live fs s f area is_typed (arrow span e g) d.ty (a_target_field h n) q few cover
  tests fs _ t (an_element {s = span} {e = e} {i = i} pl h g) q few cover = leaf w sc p live fs s f area is_typed (index span e i) t (an_element pl h g) q few cover
  tests fs _ t (a_target {s = span} {e = e} h) q few cover = leaf w sc p live fs s f area is_typed (deref span e) t (a_target h) q few cover
  tests fs _ _ (a_true {s = span}) q few cover = leaf w sc p live fs s f area is_typed (true_ span) ty.bool a_true q few cover
  tests fs _ _ (a_false {s = span}) q few cover = leaf w sc p live fs s f area is_typed (false_ span) ty.bool a_false q few cover
  tests fs _ _ (a_number h) q few cover = absurd (cc)
  tests fs _ _ (an_address pl away h) q few cover = absurd (cc)
  tests fs _ _ (a_negative h) q few cover = absurd (cc)
  tests fs _ _ (arithmetic k h g) q few cover = absurd (cc)

  pub given_tests : (fs : Facts) (e : CExpr) → IsNumberedGiven sc.env e ty.bool → nodes e ≤ 2000 → Covers live (reads e) → TestRuns w sc p live fs s e
  given_tests fs _ (a_value {e = e} h) few cover = tests fs e ty.bool h refl few cover
