-- The code of every typed expression comes to what it means.
use Rattle.std.specs.Prelude.{ℤ, Ok, Err, pos, slice_get, FitsSigned, if◌then◌else◌, unwrap_or, IsTrue, Result}
use Rattle.std.specs.Int.{w32}
use Rattle.std.proofs.Common.{◌≡◌, ◌≢◌, ℕ, zero, suc, max, ◌+◌, ◌*◌, ◌%◌, ◌^◌, ◌<◌, ◌≤◌, Bool, true, false, cond, nat_eq, nat_lt, Option, Some, None, List, [], ◌∷◌, ◌++◌, length, refl, sym, ap, ◌∙◌, subst, arith, length-append, eq-eqb}
use Rattle.std.proofs.lemmas.Bool.{cond-true, ltb-true, eqb-true}
use Rattle.mips_table.specs.declared.inst.Inst.{Inst}
use Rattle.mips_table.specs.declared.inst.Inst.TheVariants.{Addiu, Subu, Xori, Beq, Bne, J, Mflo, Mfhi, Div as Divide}
use Rattle.mips_table.specs.Device.{Idle}
use Rattle.mips_table.specs.Code.{Contents, Behind, World, CodeAt}
use Rattle.c0_tree.specs.declared.tree.Span.{Span}
use Rattle.c0_tree.specs.declared.tree.Kind.{Kind}
use Rattle.c0_tree.specs.declared.tree.Kind.TheVariants.{Unresolved, Struct, Field, Global, Local, Function, Primitive}
use Rattle.c0_tree.specs.declared.tree.UnaryOp.TheVariants.{Negate, Not}
use Rattle.c0_tree.specs.declared.tree.BinaryOp.{BinaryOp}
use Rattle.c0_tree.specs.declared.tree.BinaryOp.TheVariants.{Add, Sub, Mul, Div, Rem, Lt, Le, Gt, Ge, Eq, Ne, And, Or}
use Rattle.c0_tree.specs.Tree.{CName, CExpr, null, var, field, arrow, index, deref, binary}
use Rattle.c0_tree.specs.Size.{need, binary_need, nodes}
use Rattle.c0_meaning.specs.Ty.{Ty, is_scalar}
use Rattle.c0_meaning.specs.Ty as ty
use Rattle.c0_meaning.specs.Env.{Typed}
use Rattle.c0_meaning.specs.Words.{shape_fields, words}
use Rattle.c0_meaning.specs.Sizes.{words_before}
use Rattle.c0_meaning.specs.Expression.{is_lvalue, target}
use Rattle.c0_meaning.specs.Judgement.{IsArithmetic, add, sub, mul, div, rem, IsOrdering, lt, le, gt, ge, IsEquality, eq, ne, IsLogical, and, or}
use Rattle.c0_meaning.specs.Numbered.{variable_at, is_in_frame, is_frame_place, HasNumberedType, a_number, a_true, a_false, a_variable, a_field, a_target_field, an_element, a_target, an_address, a_negative, a_negation, arithmetic, order, logic, equality, null_left, null_right, IsNumberedGiven, a_value, a_null}
use Rattle.c0_meaning.specs.Value.{locals, Location, Value, int, bool, at, group}
use Rattle.c0_meaning.specs.Value as value
use Rattle.c0_meaning.specs.State.{C0State, read}
use Rattle.c0_meaning.specs.Operators.{Failure, NullUse, Bounds, faulted, stuck, on_unary, on_binary}
use Rattle.c0_meaning.specs.Evaluation.{Costed, costs, at_no_cost, paying, ◌>>=◌, variable_location, element_of, indexed, load_from, field_of, pointed, truth, both_sides, value_of, place_of}
use Rattle.c0_meaning.specs.TypeAt.{type_at}
use Rattle.c0_meaning.specs.TypedState.{types_of, Fits, PathLeads}
use Rattle.cvm_words.specs.Words.{word_of}
use Rattle.c0_typed.specs.Typed.{typed_of_expr}
use Rattle.c0_expr_code.specs.declared.facts.Facts.{Facts}
use Rattle.c0_expr_code.specs.Facts.{is_sure_pointer, register_holding, sure_variable, variable_in}
use Rattle.c0_expr_code.specs.Scope.{Scope}
use Rattle.c0_expr_runs.specs.Bases.{Bases, types_in, word_of_scalar}
use Rattle.c0_expr_code.specs.Code.{fields_in, element_words, length_in, AddressingMode, Made, or_code, access_code, load_code, operand_code, operand_register, at_place, constant, global_address, local_address, register_made, register_of_variable, frame_made, right_facts, variable_made, displaced, target_address, tested_address, element_address, operator_code, negative_made, Immediate, immediate, immediate_of, operator_made, sum_made, is_never_zero, divisor_code, binary_made, made}
use Rattle.c0_expr_runs.specs.Relation.{layout, StateIsTyped, Ready, ReadyWith, Area, Evaluates, HoldsValue, HoldsAddress, Source, nought, its, far, ValueRuns, OperandRuns, PlaceRuns, Claims, Right}
use Rattle.c0_expr_runs.proofs.CodeRuns.{Machine, later, stays, code_front, code_back}
use Rattle.c0_expr_runs.proofs.OnePartMore.{leads_from_on, length_fits, typed_there}
use Rattle.c0_expr_runs.proofs.WordsOfValues.{word_pos}
use Rattle.c0_expr_runs.proofs.SideBySide.{keeps_low, ready_on, with_on, more, paid, node, binds, arrives}
use Rattle.c0_expr_runs.proofs.AddressingModes.{found, loads, addresses, global_place, local_place}
use Rattle.c0_expr_runs.proofs.NodesEvaluate.{constant_gives, nothing_gives, register_operand, register_value, held_operand, held_value, targets, targets_surely, fields, part_leads}
use Rattle.c0_expr_runs.proofs.BothSidesKnow.{arithmetic_knows, order_knows, equality_knows}
use Rattle.c0_expr_runs.proofs.HeldRegisters.{held_source}
use Rattle.c0_expr_runs.proofs.FollowedAreSure.{variable_value}
use Rattle.c0_expr_runs.proofs.ToldIsSo.{told_ready}
use Rattle.c0_expr_runs.proofs.FramePlaces.{base_of, base_read, same_place, field_based, element_of_based, based, or_left, or_right, both_true}
use Rattle.c0_expr_code.specs.Reads.{reads, reads_to_find, Covers}
use Rattle.c0_expr_runs.proofs.ElementsTested.{indexes}
use Rattle.c0_expr_code.proofs.ShortExpressions.{short}
use Rattle.c0_expr_code.proofs.NodeTypes.{type_is}
use Rattle.c0_expr_runs.proofs.ConstantsKnown.{literal_is, small_literal, KnownAs, negative_known, known_is, null_known}
use Rattle.c0_expr_runs.proofs.OperatorsOnRegisters.{Finishes, Answers, any_answer, twos, ones, sums, orders, equals, quotients, remainders, negatives, negations, Skip, skips_and, skips_or, logics}
use Rattle.c0_expr_runs.proofs.OperatorsOnRegisters as ring
use Rattle.c0_expr_runs.proofs.ConstantOperands.{With, adds_with, adds_left, subtracts_with, below_with, at_most_with, at_least_with, equals_with, differs_with}
use Rattle.c0_expr_code.proofs.NeedsAreSome.{need_some}

module _ (w : World) (sc : Scope) (p : Bases) (live : ℕ → Bool) (fs : Facts) (s : C0State) (f : Machine w) (area : Area w sc p) (is_typed : StateIsTyped sc p s) where
  -- where only the free register matters
  abbrev pub AddressRuns : (ℕ → AddressingMode) → ℕ → Bool → Ty → ℕ → Costed Location → Type 0
  AddressRuns place need local t own e = (r n : ℕ) (c : Contents) (k : Behind) → k.pending ≡ Idle → ReadyWith sc p live fs s c → CodeAt w n (place r).code → 8 ≤ r
      → r + need ≤ 20 → Source r (place r).base × Evaluates w sc own n (n + length (place r).code) c k (HoldsAddress sc p (place r).base (place r).displacement r local t c) e

  -- a node that is a place, by what its place's code does for its parts
  pub placed : (place : ℕ → AddressingMode) (need : ℕ) (is local : Bool) (t : Ty) (own : ℕ) (e : Costed Location) → 1 ≤ need → own ≤ 13
      → (local ≡ true → (u : ℕ) (l : Location) → e ≡ costs u (Ok l) → IsTrue (live (base_of l.path)))
      → AddressRuns place need local t own e → Claims w sc p live fs s (at_place place) need is local t (paying 1 (load_from s e)) (paying 1 e)
  placed place need is local t own e some few lives runs = record {
    value = λ scalar d r n c k idle ready code lo hi nz no1. as_value scalar d r n c k idle ready code lo hi nz;
    operand = λ scalar r n c k idle ready code lo hi. (its, as_value scalar r r n c k idle ready code lo hi (λ z. absurd (omega (arith, z, lo))));
    place = λ q z r n c k idle ready code lo hi. let a = runs r n c k idle ready code lo hi in (a.0, node w sc own n (n + length (place r).code) c k (HoldsAddress sc p (place r).base (place r).displacement r local t c) e (omega arith) a.1);
  }
    where
      as_value : is_scalar t ≡ true → (d r n : ℕ) (c : Contents) (k : Behind) → k.pending ≡ Idle → ReadyWith sc p live fs s c
          → CodeAt w n (load_code d r (place r)) → 8 ≤ r → r + need ≤ 20 → d ≢ 0
          → Evaluates w sc 0 n (n + length (load_code d r (place r))) c k (HoldsValue sc p d r d t c) (paying 1 (load_from s e))
      as_value scalar d r n c k idle ready code lo hi nz =
          let a = runs r n c k idle ready (code_front w n (place r).code _ code) lo hi in
          node w sc (own + 3) n (n + length (load_code d r (place r))) c k (HoldsValue sc p d r d t c) (load_from s e) (omega arith)
          (loads w sc p live s f area is_typed local t (place r) own d r n c k e idle (λ z b h. ready_on sc p live s c b h ready.ready) scalar lo (omega arith) nz a.0 lives code a.1)

  -- a node that is only a value
  pub valued : (m : Made) (need : ℕ) (local : Bool) (t : Ty) (v : Costed Value) (l : Costed Location) → m.stands ≡ None
      → ValueRuns w sc p live fs s m need t v → Claims w sc p live fs s m need false local t v l
  valued m need local t v l none h = record {
    value = λ scalar. h;
    operand = λ scalar r n c k idle ready code lo hi.
        let same : operand_code m r ≡ m.value r r = ap (λ o. or_code o (m.value r r)) none in
        let q : operand_register m r ≡ r = ap (λ o. unwrap_or o r) none in
        (subst (λ x. Source r x) (sym q) its, subst (λ is. Evaluates w sc 0 n (n + length is) c k (HoldsValue sc p (operand_register m r) r r t c) v) (sym same) (subst (λ x. Evaluates w sc 0 n (n + length (m.value r r)) c k (HoldsValue sc p x r r t c) v) (sym q) (h r r n c k idle ready (subst (CodeAt w n) same code) lo hi (λ z. absurd (omega (arith, z, lo))) (λ z. absurd (omega (arith, z, lo))))));
    place = λ q. absurd (cc);
  }

  -- a constant, for one unit or more
  dearer : (u d q r n to : ℕ) (t : Ty) (x : Value) (c : Contents) (k : Behind) → 1 ≤ u
      → Evaluates w sc 0 n to c k (HoldsValue sc p q r d t c) (paying 1 (at_no_cost (Ok x))) → Evaluates w sc 0 n to c k (HoldsValue sc p q r d t c) (costs u (Ok x))
  dearer u d q r n to t x c k some h = (h.0, h.1, later w (0 + 16 * (1 + 0)) (0 + 16 * u) _ _ (omega arith) h.2)

  constants_by : (b : Bool) (v u need : ℕ) (x : Value) (t : Ty) (literal : Option ℕ) (local : Bool) (l : Costed Location) → v < 2 ^ 32 → 1 ≤ u
      → nat_eq v 0 ≡ b → v ≡ word_of_scalar sc p x → Fits sc.env.structs (layout sc p) t x
      → OperandRuns w sc p live fs s (record (constant v literal) { stands = cond b (Some 0) None }) need t (costs u (Ok x))
  constants_by true v u need x t literal local l small some z e fits r n c k idle ready code lo hi = (nought, dearer u r 0 r n (n + 0) t x c k some (nothing_gives w sc p live s f area is_typed r n t x c k (sym (eqb-true v 0 z) ∙ e) fits))
  constants_by false v u need x t literal local l small some z e fits r n c k idle ready code lo hi = (its, dearer u r r r n _ t x c k some (constant_gives w sc p live s f area is_typed r r n v t x c k small idle (λ z. absurd (omega (arith, z, lo))) code e fits))

  pub constants : (v u need : ℕ) (x : Value) (t : Ty) (literal : Option ℕ) (local : Bool) (l : Costed Location) → v < 2 ^ 32 → 1 ≤ u
      → v ≡ word_of_scalar sc p x → Fits sc.env.structs (layout sc p) t x → Claims w sc p live fs s (constant v literal) need false local t (costs u (Ok x)) l
  constants v u need x t literal local l small some e fits = record {
    value = λ scalar d r n c k idle ready code lo hi nz no1. dearer u d d r n _ t x c k some (constant_gives w sc p live s f area is_typed d r n v t x c k small idle nz code e fits);
    operand = λ scalar. constants_by (nat_eq v 0) v u need x t literal local l small some refl e fits;
    place = λ q. absurd (cc);
  }

  -- `null` is given where any pointer is asked
  pub null_right_is : (span : Span) (t : Ty) → Right w sc p live fs s (null span) (ty.pointer t)
  null_right_is span t = constants 0 1 1 value.null (ty.pointer t) None false (place_of (null span) s) (omega arith) (omega arith) refl tt

  -- variables
  global_variables : (x : ℕ) (t : Ty) → slice_get (types_of sc.env.globals) x ≡ Some t
      → Claims w sc p live fs s (variable_made sc fs Global x) 1 true false t (paying 1 (load_from s (at_no_cost (variable_location Global x)))) (paying 1 (at_no_cost (variable_location Global x)))
  global_variables x t h = placed (λ r. global_address sc x) 1 true false t 0 (at_no_cost (variable_location Global x)) (omega arith) (omega arith) (λ q. absurd (cc)) (λ r n c k idle ready code lo hi. (far (omega arith), global_place w sc p live s f area is_typed x n r t c k ready.ready h))

  local_place_runs : (x : ℕ) (t : Ty) → slice_get (types_of sc.env.locals) x ≡ Some t → sc.in_registers ≡ false → (o : Option ℕ)
      → PlaceRuns w sc p live fs s (frame_made o (λ r. local_address sc x)) 1 true t (paying 1 (at_no_cost (variable_location Local x)))
  local_place_runs x t h form o r n c k idle ready code lo hi = (
    far (omega arith),
    node w sc 0 n (n + length (local_address sc x).code) c k (HoldsAddress sc p (local_address sc x).base (local_address sc x).displacement r true t c) (at_no_cost (variable_location Local x)) (omega arith)
        (local_place w sc p live s f area is_typed x n r t c k ready.ready form h),
  )

  -- a variable in the frame, which a register may have too
  frame_variables : (x : ℕ) (t : Ty) → slice_get (types_of sc.env.locals) x ≡ Some t → IsTrue (live x) → sc.in_registers ≡ false → (o : Option ℕ) → register_holding fs x ≡ o
      → Claims w sc p live fs s (frame_made o (λ r. local_address sc x)) 1 true true t (paying 1 (load_from s (at_no_cost (variable_location Local x)))) (paying 1 (at_no_cost (variable_location Local x)))
  frame_variables x t h is_live form None e = placed (λ r. local_address sc x) 1 true true t 0 (at_no_cost (variable_location Local x)) (omega arith) (omega arith)
      (λ q u l e. subst (λ z. IsTrue (live (base_of z.path))) (same_place 0 u (record { region = locals; path = x ∷ [] }) l e) is_live) (λ r n c k idle ready code lo hi. (far (omega arith), local_place w sc p live s f area is_typed x n r t c k ready.ready form h))
  frame_variables x t h is_live form (Some q) e = record {
    value = λ scalar d r n c k idle ready code lo hi nz no1. held_value w sc p live s f area is_typed fs form x q d r n t c k idle nz ready e h scalar is_live code;
    operand = λ scalar r n c k idle ready code lo hi. (held_source fs x q r e, held_operand w sc p live s f area is_typed fs form x q r n t c k ready e h scalar is_live);
    place = λ y none. local_place_runs x t h form (Some q);
  }

  local_variables : (x : ℕ) (t : Ty) → slice_get (types_of sc.env.locals) x ≡ Some t → IsTrue (live x) → (b : Bool) → sc.in_registers ≡ b
      → Claims w sc p live fs s (cond b (register_made (register_of_variable x)) (frame_made (register_holding fs x) (λ r. local_address sc x))) 1 true true t (paying 1 (load_from s (at_no_cost (variable_location Local x)))) (paying 1 (at_no_cost (variable_location Local x)))
  local_variables x t h is_live false form = frame_variables x t h is_live form (register_holding fs x) refl
  local_variables x t h is_live true form =
      let low = (area.scalars form x t h).1 in
      let e : 20 + x ≡ register_of_variable x = omega (arith, low) in
      subst (λ q. Claims w sc p live fs s (register_made q) 1 true true t (paying 1 (load_from s (at_no_cost (variable_location Local x)))) (paying 1 (at_no_cost (variable_location Local x)))) e (record {
        value = λ scalar d r n c k idle ready code lo hi nz no1. register_value w sc p live s f area is_typed form x d r n t c k idle nz ready.ready h is_live code;
        operand = λ scalar r n c k idle ready code lo hi. (far (omega arith), register_operand w sc p live s f area is_typed form x r n t c k ready.ready h is_live);
        place = λ q none. absurd (cc);
      })

  pub variables : (k : Kind) (n : ℕ) (d : Typed) → variable_at sc.env k n ≡ Some d → (is_in_frame k ≡ true → IsTrue (live n))
      → Claims w sc p live fs s (variable_made sc fs k n) 1 true (is_in_frame k) d.ty (paying 1 (load_from s (at_no_cost (variable_location k n)))) (paying 1 (at_no_cost (variable_location k n)))
  variables Global n d h is_live = global_variables n d.ty (typed_there sc.env.globals n d h)
  variables Local n d h is_live = local_variables n d.ty (typed_there sc.env.locals n d h) (is_live refl) sc.in_registers refl
  variables Unresolved n d h is_live = absurd (cc)
  variables Struct n d h is_live = absurd (cc)
  variables Field n d h is_live = absurd (cc)
  variables Function n d h is_live = absurd (cc)
  variables Primitive n d h is_live = absurd (cc)

  -- a variable's place, which is found whether it is live or not
  local_found : (x : ℕ) (t : Ty) → slice_get (types_of sc.env.locals) x ≡ Some t → (b : Bool) → sc.in_registers ≡ b
      → (cond b (register_made (register_of_variable x)) (frame_made (register_holding fs x) (λ r. local_address sc x))).register ≡ None
      → PlaceRuns w sc p live fs s (cond b (register_made (register_of_variable x)) (frame_made (register_holding fs x) (λ r. local_address sc x))) 1 true t (paying 1 (at_no_cost (variable_location Local x)))
  local_found x t h false form none = local_place_runs x t h form (register_holding fs x)
  local_found x t h true form none = absurd (cc)

  pub variable_found : (k : Kind) (n : ℕ) (d : Typed) → variable_at sc.env k n ≡ Some d → (variable_made sc fs k n).register ≡ None
      → PlaceRuns w sc p live fs s (variable_made sc fs k n) 1 (is_in_frame k) d.ty (paying 1 (at_no_cost (variable_location k n)))
  variable_found Global n d h none = (global_variables n d.ty (typed_there sc.env.globals n d h)).place refl none
  variable_found Local n d h none = local_found n d.ty (typed_there sc.env.locals n d h) sc.in_registers refl none
  variable_found Unresolved n d h none = absurd (cc)
  variable_found Struct n d h none = absurd (cc)
  variable_found Field n d h none = absurd (cc)
  variable_found Function n d h none = absurd (cc)
  variable_found Primitive n d h none = absurd (cc)

  -- targets of pointers
  pub target_runs : (sure : Bool) (m : Made) (need : ℕ) (t : Ty) (e : Costed Value) → OperandRuns w sc p live fs s m need (ty.pointer t) e → 1 ≤ need
      → (sure ≡ true → (c : Contents) → ReadyWith sc p live fs s c → (u : ℕ) → e ≢ costs u (Ok value.null))
      → AddressRuns (λ r. target_address sc sure m r) need false t 2 (pointed e)
  target_runs false m need t e o some known r n c k idle ready code lo hi =
      let a = o r n c k idle ready (code_front w n (operand_code m r) _ code) lo hi in
      let tail = code_back w n (operand_code m r) _ code in
      let run = targets w sc p live s f area is_typed t (operand_register m r) r n (n + length (operand_code m r)) c k e idle (omega arith) tail a.1 in
      let len : n + length (operand_code m r) + 2 ≡ n + length (target_address sc false m r).code = omega (arith, length-append (operand_code m r) (Bne (operand_register m r) 0 1 ∷ J (sc.exit NullUse) ∷ [])) in
      (a.0, subst (λ to. Evaluates w sc 2 n to c k (HoldsAddress sc p (operand_register m r) 0 r false t c) (pointed e)) len run)
  target_runs true m need t e o some known r n c k idle ready code lo hi =
      let a = o r n c k idle ready (code_front w n (operand_code m r) [] code) lo hi in
      let run = targets_surely w sc p live s f area is_typed t (operand_register m r) r n (n + length (operand_code m r)) c k e (omega arith) (known refl c ready) a.1 in
      let len : n + length (operand_code m r) ≡ n + length (target_address sc true m r).code = omega (arith, length-append (operand_code m r) []) in
      (a.0, subst (λ to. Evaluates w sc 2 n to c k (HoldsAddress sc p (operand_register m r) 0 r false t c) (pointed e)) len run)

  -- a pointer that is sure isn't null
  pub sure_value : (e : CExpr) → is_sure_pointer fs (typed_of_expr sc.env e) ≡ true → (c : Contents) → ReadyWith sc p live fs s c → (u : ℕ) → value_of e s ≢ costs u (Ok value.null)
  sure_value e sure c ready u is = by (variable_in (typed_of_expr sc.env e)) refl sure
    where
      by : (o : Option ℕ) → variable_in (typed_of_expr sc.env e) ≡ o → sure_variable fs o ≡ true → ⊥
      by (Some n) q sure = ready.facts.sure n sure (variable_value sc.env e s n u value.null q is)
      by None q sure = absurd (cc)

  -- fields
  pub field_runs : (place : ℕ → AddressingMode) (need own : ℕ) (local : Bool) (x : List ℕ) (g : CName) (t : Ty) (u : Option Ty) (e : Costed Location) → 1 ≤ need
      → u ≡ Some (ty.named x) → slice_get (types_of (shape_fields sc.env.structs x)) g.number ≡ Some t
      → AddressRuns place need local (ty.named x) own e →
      AddressRuns (λ r. displaced (4 * words_before sc.env.structs (fields_in sc.env.structs u) g.number) (place r)) need local t own (field_of g e)
  field_runs place need own local x g t u e some q h runs r n c k idle ready code lo hi =
      let a = runs r n c k idle ready code lo hi in
      let b = fields w sc p live s f area is_typed x g (place r).base own r n (n + length (place r).code) (place r).displacement local t c k e (omega arith) ready.ready h a.1 in
      (a.0, subst (λ v. Evaluates w sc own n (n + length (place r).code) c k (HoldsAddress sc p (place r).base (((place r).displacement + 4 * words_before sc.env.structs (fields_in sc.env.structs v) g.number) % 2 ^ 32) r local t c) (field_of g e)) (sym q) b)

  -- elements
  known_runs : (place : ℕ → AddressingMode) (na nb : ℕ) (local : Bool) (len j : ℕ) (t : Ty) (e : Costed Location) (i : Costed Value)
      → i ≡ costs 1 (Ok (int (pos j))) → 1 ≤ na → nat_lt j len ≡ true → FitsSigned w32 (pos j) → AddressRuns place na local (ty.array t len) 0 e →
      AddressRuns (λ r. displaced (4 * (j * words sc.env.structs t)) (place r)) (max na (nb + 1)) local t 10 (indexed s e i)
  known_runs place na nb local len j t e i is some less fits runs r n c k idle ready code lo hi =
      let a = runs r n c k idle ready code lo (omega arith) in
      let to : ℕ = n + length (place r).code in
      let R : Location → Contents → Type 0 = HoldsAddress sc p (place r).base (((place r).displacement + 4 * (j * words sc.env.structs t)) % 2 ^ 32) r local t c in (
        a.0,
        subst (λ v. Evaluates w sc 10 n (n + length (place r).code) c k (HoldsAddress sc p (place r).base (((place r).displacement + 4 * (j * words sc.env.structs t)) % 2 ^ 32) r local t c) (indexed s e v)) (sym is)
            (binds w sc 0 10 n (n + length (place r).code) (n + length (place r).code) c k (HoldsAddress sc p (place r).base (place r).displacement r local (ty.array t len) c) (HoldsAddress sc p (place r).base (((place r).displacement + 4 * (j * words sc.env.structs t)) % 2 ^ 32) r local t c) e _ a.1
            (λ l b g. keeps_low r r c b (omega arith) g.keeps)
            (λ l b g.
            let ready_b = ready_on sc p live s c b (keeps_low r r c b (omega arith) g.keeps) ready.ready in
            let there = found w sc p live s f area is_typed b l (ty.array t len) ready_b g.leads g.standing in
            paid w sc 1 10 (n + length (place r).code) (n + length (place r).code) b k (HoldsAddress sc p (place r).base (((place r).displacement + 4 * (j * words sc.env.structs t)) % 2 ^ 32) r local t c) (at_no_cost (element_of l (read s l) (int (pos j))))
            (more w sc 0 (10 + 16 * 1) _ _ b k (HoldsAddress sc p (place r).base (((place r).displacement + 4 * (j * words sc.env.structs t)) % 2 ^ 32) r local t c) (at_no_cost (element_of l (read s l) (int (pos j)))) (omega arith)
            (subst (λ y. Evaluates w sc 0 (n + length (place r).code) (n + length (place r).code) b k (HoldsAddress sc p (place r).base (((place r).displacement + 4 * (j * words sc.env.structs t)) % 2 ^ 32) r local t c) (at_no_cost (element_of l y (int (pos j))))) (sym there.seen.is)
            (by_value l b g ready_b there.seen.value there.seen.fits))))),
      )
    where
      by_value : (l : Location) (b : Contents) → HoldsAddress sc p (place r).base (place r).displacement r local (ty.array t len) c l b → Ready sc p live s b
          → (y : Value) → Fits sc.env.structs (layout sc p) (ty.array t len) y
          → Evaluates w sc 0 (n + length (place r).code) (n + length (place r).code) b k (HoldsAddress sc p (place r).base (((place r).displacement + 4 * (j * words sc.env.structs t)) % 2 ^ 32) r local t c) (at_no_cost (element_of l (Some y) (int (pos j))))
      by_value l b g ready_b (group vs) h =
          let path : PathLeads sc.env.structs (ty.array t len) (j ∷ []) t = (ltb-true j len less, refl) in
          let leads = leads_from_on sc.env.structs (types_in sc p l.region) l.path (ty.array t len) j t g.leads path in
          let there = found w sc p live s f area is_typed b (value.below l j) t ready_b leads g.standing in
          let size : value.count vs ≡ len = length_fits sc.env.structs (layout sc p) len t vs h in
          let yes : nat_lt j (value.count vs) ≡ true = ap (nat_lt j) size ∙ less in
          subst (λ o. Evaluates w sc 0 (n + length (place r).code) (n + length (place r).code) b k (HoldsAddress sc p (place r).base (((place r).displacement + 4 * (j * words sc.env.structs t)) % 2 ^ 32) r local t c) (at_no_cost o)) (sym (cond-true (nat_lt j (value.count vs)) (Ok (value.below l j)) (Err (faulted Bounds)) yes))
          (arrives w sc 0 _ _ b b k (HoldsAddress sc p (place r).base (((place r).displacement + 4 * (j * words sc.env.structs t)) % 2 ^ 32) r local t c) (value.below l j)
          (part_leads w sc p live s f area is_typed (place r).base (place r).displacement (j * words sc.env.structs t) r j local (ty.array t len) t c b l path (let z : j * words sc.env.structs t + 0 ≡ j * words sc.env.structs t = omega arith in z) there.inside g) (stays w _ _ refl))
      by_value l b g ready_b (int z) h = absurd h
      by_value l b g ready_b (bool z) h = absurd h
      by_value l b g ready_b value.null h = absurd h
      by_value l b g ready_b (at z) h = absurd h

  tested_runs : (place : ℕ → AddressingMode) (m : Made) (na nb : ℕ) (local : Bool) (len : ℕ) (t : Ty) (e : Costed Location) (i : Costed Value) → 1 ≤ na
      → 1 ≤ nb → AddressRuns place na local (ty.array t len) 0 e → OperandRuns w sc p live fs s m nb ty.int i →
      AddressRuns (λ r. tested_address sc (words sc.env.structs t) len (place r) m r) (max na (nb + 1)) local t 10 (indexed s e i)
  tested_runs place m na nb local len t e i some more_than runs o r n c k idle ready code lo hi =
      let a = runs r n c k idle ready (code_front w n (place r).code _ code) lo (omega arith) in
      (its, indexes w sc p live s f area is_typed len t local (place r) m r n c k e i idle lo (omega arith) ready.ready a.0 code a.1 (λ b keeps there. o (r + 1) (n + length (place r).code) b k idle (with_on sc p live fs s c b r lo (omega arith) keeps ready) there (omega arith) (omega arith)))

  pub element_runs : (place : ℕ → AddressingMode) (m : Made) (na nb : ℕ) (local : Bool) (len : ℕ) (t : Ty) (e : Costed Location) (i : Costed Value) → 1 ≤ na
      → 1 ≤ nb → AddressRuns place na local (ty.array t len) 0 e → OperandRuns w sc p live fs s m nb ty.int i → (o : Option ℕ)
      → ((j : ℕ) → o ≡ Some j → (i ≡ costs 1 (Ok (int (pos j)))) × FitsSigned w32 (pos j)) →
      AddressRuns (λ r. element_address sc (words sc.env.structs t) len o (place r) m r) (max na (nb + 1)) local t 10 (indexed s e i)
  element_runs place m na nb local len t e i some more_than runs o None known = tested_runs place m na nb local len t e i some more_than runs o
  element_runs place m na nb local len t e i some more_than runs o (Some j) known = by_test (nat_lt j len) refl
    where
      by_test : (b : Bool) → nat_lt j len ≡ b
          → AddressRuns (λ r. cond b (displaced (4 * (j * words sc.env.structs t)) (place r)) (tested_address sc (words sc.env.structs t) len (place r) m r)) (max na (nb + 1)) local t 10 (indexed s e i)
      by_test true less = let q = known j refl in known_runs place na nb local len j t e i q.0 some less q.1 runs
      by_test false less = tested_runs place m na nb local len t e i some more_than runs o

  -- what doesn't stand in a register: all that isn't scalar, and what isn't local
  in_memory : (b : Bool) (x : ℕ) (t : Ty) → sc.in_registers ≡ b → slice_get (types_of sc.env.locals) x ≡ Some t → is_scalar t ≡ false
      → (cond b (register_made (register_of_variable x)) (frame_made (register_holding fs x) (λ r. local_address sc x))).register ≡ None
  in_memory false x t form h e = refl
  in_memory true x t form h e = let q : false ≡ true = sym e ∙ (area.scalars form x t h).0 in absurd (cc)

  kind_memory : (k : Kind) (n : ℕ) (d : Typed) → variable_at sc.env k n ≡ Some d → is_scalar d.ty ≡ false → (variable_made sc fs k n).register ≡ None
  kind_memory Global n d h z = refl
  kind_memory Local n d h z = in_memory sc.in_registers n d.ty refl (typed_there sc.env.locals n d h) z
  kind_memory Unresolved n d h z = refl
  kind_memory Struct n d h z = refl
  kind_memory Field n d h z = refl
  kind_memory Function n d h z = refl
  kind_memory Primitive n d h z = refl

  pub no_register : (e : CExpr) (t : Ty) → HasNumberedType sc.env e t → is_lvalue e ≡ true → is_scalar t ≡ false → (made sc fs e).register ≡ None
  no_register _ _ (a_variable {x = x} {d = d} h) pl z = kind_memory x.kind x.number d h z
  no_register (field span e g) t h pl z = refl
  no_register (arrow span e g) t h pl z = refl
  no_register (index span e i) t h pl z = refl
  no_register (deref span e) t h pl z = refl
  no_register _ _ _ pl z = absurd (cc)

  away_kind : (k : Kind) (x : ℕ) → is_in_frame k ≡ false → (variable_made sc fs k x).register ≡ None
  away_kind Local x z = absurd (cc)
  away_kind Global x z = refl
  away_kind Unresolved x z = refl
  away_kind Struct x z = refl
  away_kind Field x z = refl
  away_kind Function x z = refl
  away_kind Primitive x z = refl

  pub away_register : (e : CExpr) → is_lvalue e ≡ true → is_frame_place e ≡ false → (made sc fs e).register ≡ None
  away_register (var x) pl z = away_kind x.kind x.number z
  away_register (field span e g) pl z = refl
  away_register (arrow span e g) pl z = refl
  away_register (index span e i) pl z = refl
  away_register (deref span e) pl z = refl
  away_register _ pl z = absurd (cc)

  -- a side whose value is known takes no steps
  extra : (u m n from to : ℕ) (c : Contents) (k : Behind) (Q : Value → Contents → Type 0) (e : Costed Value)
      → Evaluates w sc 0 from to c k Q (paying m (paying n e)) → Evaluates w sc 0 from to c k Q (paying m (paying n (paying u e)))
  extra u m n from to c k Q (costs v (Ok x)) h = (h.0, h.1, later w (0 + 16 * (m + (n + v))) (0 + 16 * (m + (n + (u + v)))) _ _ (omega arith) h.2)
  extra u m n from to c k Q (costs v (Err (faulted f))) h = (h.0, h.1, later w (0 + 16 * (m + (n + v))) (0 + 16 * (m + (n + (u + v)))) _ _ (omega arith) h.2)
  extra u m n from to c k Q (costs v (Err stuck)) h = absurd h

  before_all : (u from to : ℕ) (c : Contents) (k : Behind) (Q : Value → Contents → Type 0) (e : Costed Value)
      → Evaluates w sc 0 from to c k Q (paying 1 e) → Evaluates w sc 0 from to c k Q (paying 1 (paying u e))
  before_all u from to c k Q (costs v (Ok x)) h = (h.0, h.1, later w (0 + 16 * (1 + v)) (0 + 16 * (1 + (u + v))) _ _ (omega arith) h.2)
  before_all u from to c k Q (costs v (Err (faulted f))) h = (h.0, h.1, later w (0 + 16 * (1 + v)) (0 + 16 * (1 + (u + v))) _ _ (omega arith) h.2)
  before_all u from to c k Q (costs v (Err stuck)) h = absurd h

  known_right : (u from to : ℕ) (c : Contents) (k : Behind) (Q : Value → Contents → Type 0) (x y : Costed Value) (v : Value) (on : Value → Value → Result Value Failure) → y ≡ costs u (Ok v)
      → Evaluates w sc 0 from to c k Q (paying 1 (x >>= λ a. at_no_cost (on a v)))
      → Evaluates w sc 0 from to c k Q (paying 1 (x >>= λ a. y >>= λ b. at_no_cost (on a b)))
  known_right u from to c k Q (costs m (Ok a)) y v on e h = subst (λ y. Evaluates w sc 0 from to c k Q (paying 1 (paying m (y >>= λ b. at_no_cost (on a b))))) (sym e) (extra u 1 m from to c k Q (at_no_cost (on a v)) h)
  known_right u from to c k Q (costs m (Err a)) y v on e h = h

  known_left : (u from to : ℕ) (c : Contents) (k : Behind) (Q : Value → Contents → Type 0) (x y : Costed Value) (v : Value) (on : Value → Value → Result Value Failure) → x ≡ costs u (Ok v)
      → Evaluates w sc 0 from to c k Q (paying 1 (y >>= λ b. at_no_cost (on v b)))
      → Evaluates w sc 0 from to c k Q (paying 1 (x >>= λ a. y >>= λ b. at_no_cost (on a b)))
  known_left u from to c k Q x y v on e h = subst (λ x. Evaluates w sc 0 from to c k Q (paying 1 (x >>= λ a. y >>= λ b. at_no_cost (on a b)))) (sym e) (before_all u from to c k Q (y >>= λ b. at_no_cost (on v b)) h)

  -- an operator with a constant: which value that is, and what the code does with it
  record Knows (g : ℕ → ℕ → List Inst) (t z : Ty) (y : Costed Value) (on : Value → Value → Result Value Failure) : Type 0 where
    units : ℕ
    value : Value
    is : y ≡ costs units (Ok value)
    runs : (d r : ℕ) → d ≢ 0 → With w sc p live s f area is_typed g d r t z (λ x. on x value)

  known_some : (o : BinaryOp) (m : Option ℕ) (g : ℕ → ℕ → List Inst) → immediate_of o m ≡ Some g → (k : ℕ) × (m ≡ Some k) × (immediate o k ≡ Some g)
  known_some o None g e = absurd (cc)
  known_some o (Some k) g e = (k, refl, e)

  -- with an int
  knows_int : (o : BinaryOp) (z : Ty) (m : Option ℕ) (y : Costed Value) (on : Value → Value → Result Value Failure)
      → ((k : ℕ) → m ≡ Some k → KnownAs sc p ty.int k y)
      → ((d r : ℕ) (v : ℤ) → d ≢ 0 → FitsSigned w32 v → (g : ℕ → ℕ → List Inst) → immediate o (word_of v) ≡ Some g → With w sc p live s f area is_typed g d r ty.int z (λ x. on x (int v)))
      → (g : ℕ → ℕ → List Inst) → immediate_of o m ≡ Some g → Knows g ty.int z y on
  knows_int o z m y on known law g e =
      let h = known_some o m g e in
      let a = known h.0 h.1 in
      by_value a.value a.units a.is a.fits h.0 a.word_is h.2
    where
      by_value : (v : Value) (u : ℕ) → y ≡ costs u (Ok v) → Fits sc.env.structs (layout sc p) ty.int v → (k : ℕ) → word_of_scalar sc p v ≡ k
          → immediate o k ≡ Some g → Knows g ty.int z y on
      by_value (int v) u is fits k word_is e = record { units = u; value = int v; is = is; runs = λ d r nz. law d r v nz fits g (ap (immediate o) word_is ∙ e) }
      by_value (bool v) u is fits k word_is e = absurd fits
      by_value value.null u is fits k word_is e = absurd fits
      by_value (at v) u is fits k word_is e = absurd fits
      by_value (group v) u is fits k word_is e = absurd fits

  -- with any scalar
  knows_scalar : (o : BinaryOp) (t : Ty) (m : Option ℕ) (y : Costed Value) (on : Value → Value → Result Value Failure)
      → ((k : ℕ) → m ≡ Some k → KnownAs sc p t k y)
      → ((d r : ℕ) (v : Value) → d ≢ 0 → Fits sc.env.structs (layout sc p) t v → (g : ℕ → ℕ → List Inst) → immediate o (word_of_scalar sc p v) ≡ Some g → With w sc p live s f area is_typed g d r t ty.bool (λ x. on x v))
      → (g : ℕ → ℕ → List Inst) → immediate_of o m ≡ Some g → Knows g t ty.bool y on
  knows_scalar o t m y on known law g e =
      let h = known_some o m g e in
      let a = known h.0 h.1 in
      record { units = a.units; value = a.value; is = a.is; runs = λ d r nz. law d r a.value nz a.fits g (ap (immediate o) a.word_is ∙ h.2) }

  -- an operator on two values, the right of which may be a constant
  operators_right : (im : Immediate) (o : BinaryOp) (t z : Ty) (a b : Made) (na nb : ℕ) (local : Bool) (x y : Costed Value) (l : Costed Location)
      → is_scalar t ≡ true → 1 ≤ na → 1 ≤ nb → OperandRuns w sc p live fs s a na t x → OperandRuns w sc p live fs s b nb t y
      → ((d r : ℕ) → d ≢ 0 → Finishes w sc p live s f area is_typed (λ q g. operator_code o d q g) d r t t z (on_binary o))
      → ((g : ℕ → ℕ → List Inst) → im ≡ Some g → Knows g t z y (on_binary o))
      → Claims w sc p live fs s (operator_made im o a b) (max na (nb + 1)) false local z (paying 1 (x >>= λ v. y >>= λ u. at_no_cost (on_binary o v u))) l
  operators_right (Some g) o t z a b na nb local x y l scalar ha hb oa ob finish knows = valued (operator_made (Some g) o a b) (max na (nb + 1)) local z _ l refl (λ d r n c k idle ready code lo hi nz no1.
      let v = knows g refl in
      known_right v.units n _ c k (HoldsValue sc p d r d z c) x y v.value (on_binary o) v.is
      (ones w sc p live s f area is_typed fs (λ q. g d q) a na (λ e. on_binary o e v.value) t z d r n c k x idle lo (omega arith) ha ready code oa (v.runs d r nz)))
  operators_right None o t z a b na nb local x y l scalar ha hb oa ob finish knows = valued (operator_made None o a b) (max na (nb + 1)) local z _ l refl (λ d r n c k idle ready code lo hi nz no1.
      twos w sc p live s f area is_typed fs (λ v. Unit {0}) (λ q t. operator_code o d q t) a b na nb (on_binary o) t t z d r n c k x y idle lo (omega arith) (omega arith) hb ready code oa ob (any_answer y) (finish d r nz))

  sums_right : (i j : Immediate) (a b : Made) (na nb : ℕ) (local : Bool) (x y : Costed Value) (l : Costed Location) → 1 ≤ na → 1 ≤ nb
      → OperandRuns w sc p live fs s a na ty.int x → OperandRuns w sc p live fs s b nb ty.int y
      → ((g : ℕ → ℕ → List Inst) → i ≡ Some g → Knows g ty.int ty.int y (on_binary Add))
      → ((g : ℕ → ℕ → List Inst) → j ≡ Some g → Knows g ty.int ty.int x (λ v u. on_binary Add u v))
      → Claims w sc p live fs s (sum_made i j a b) (max na (nb + 1)) false local ty.int (paying 1 (x >>= λ v. y >>= λ u. at_no_cost (on_binary Add v u))) l
  sums_right (Some g) j a b na nb local x y l ha hb oa ob right left = valued (sum_made (Some g) j a b) (max na (nb + 1)) local ty.int _ l refl (λ d r n c k idle ready code lo hi nz no1.
      let v = right g refl in
      known_right v.units n _ c k (HoldsValue sc p d r d ty.int c) x y v.value (on_binary Add) v.is
      (ones w sc p live s f area is_typed fs (λ q. g d q) a na (λ e. on_binary Add e v.value) ty.int ty.int d r n c k x idle lo (omega arith) ha ready code oa (v.runs d r nz)))
  sums_right None (Some g) a b na nb local x y l ha hb oa ob right left = valued (sum_made None (Some g) a b) (max na (nb + 1)) local ty.int _ l refl (λ d r n c k idle ready code lo hi nz no1.
      let v = left g refl in
      known_left v.units n _ c k (HoldsValue sc p d r d ty.int c) x y v.value (on_binary Add) v.is
      (ones w sc p live s f area is_typed fs (λ q. g d q) b nb (λ e. on_binary Add v.value e) ty.int ty.int d r n c k y idle lo (omega arith) hb ready code ob (v.runs d r nz)))
  sums_right None None a b na nb local x y l ha hb oa ob right left = valued (sum_made None None a b) (max na (nb + 1)) local ty.int _ l refl (λ d r n c k idle ready code lo hi nz no1.
      twos w sc p live s f area is_typed fs (λ v. Unit {0}) (λ q t. operator_code Add d q t) a b na nb (on_binary Add) ty.int ty.int ty.int d r n c k x y idle lo (omega arith) (omega arith) hb ready code oa ob (any_answer y) (sums w sc p live s f area is_typed Add d r nz ring.add))

  -- a divisor that is sure isn't 0
  sure_number : (o : Option ℕ) → is_never_zero o ≡ true → (k : ℕ) × (o ≡ Some (suc k))
  sure_number (Some (suc k)) e = (k, refl)
  sure_number (Some zero) e = absurd (cc)
  sure_number None e = absurd (cc)

  sure_answers : (m : Option ℕ) (y : Costed Value) → ((k : ℕ) → m ≡ Some k → KnownAs sc p ty.int k y) → (sure : Bool) → is_never_zero m ≡ sure
      → Answers (λ v. sure ≡ true → word_of_scalar sc p v ≢ 0) y
  sure_answers m y known true e =
      let h = sure_number m e in
      let a = known (suc h.0) h.1 in
      let ne : word_of_scalar sc p a.value ≢ 0 = λ z. let q = a.word_is in absurd (omega (arith, z, q)) in
      subst (λ y. Answers (λ v. true ≡ true → word_of_scalar sc p v ≢ 0) y) (sym a.is) (λ z. ne)
  sure_answers m (costs u (Ok v)) known false e = λ z. absurd (cc)
  sure_answers m (costs u (Err v)) known false e = tt

  pub arithmetic_right : (o : BinaryOp) → IsArithmetic o → (a b : Made) (na nb : ℕ) (local : Bool) (x y : Costed Value) (l : Costed Location) → 1 ≤ na
      → 1 ≤ nb → OperandRuns w sc p live fs s a na ty.int x → OperandRuns w sc p live fs s b nb ty.int y
      → ((k : ℕ) → a.known ≡ Some k → KnownAs sc p ty.int k x) → ((k : ℕ) → b.known ≡ Some k → KnownAs sc p ty.int k y)
      → Claims w sc p live fs s (binary_made sc o a b) (binary_need o na nb) false local ty.int (paying 1 (both_sides o x y)) l
  arithmetic_right _ add a b na nb local x y l ha hb oa ob ka kb = sums_right (immediate_of Add b.known) (immediate_of Add a.known) a b na nb local x y l ha hb oa ob
      (knows_int Add ty.int b.known y (on_binary Add) kb (λ d r v nz fv g e. adds_with w sc p live s f area is_typed d r v nz fv g e)) (knows_int Add ty.int a.known x (λ v u. on_binary Add u v) ka (λ d r v nz fv g e. adds_left w sc p live s f area is_typed d r v nz fv g e))
  arithmetic_right _ sub a b na nb local x y l ha hb oa ob ka kb = operators_right (immediate_of Sub b.known) Sub ty.int ty.int a b na nb local x y l refl ha hb oa ob (λ d r nz. sums w sc p live s f area is_typed Sub d r nz ring.sub)
      (knows_int Sub ty.int b.known y (on_binary Sub) kb (λ d r v nz fv g e. subtracts_with w sc p live s f area is_typed d r v nz fv g e))
  arithmetic_right _ mul a b na nb local x y l ha hb oa ob ka kb = operators_right None Mul ty.int ty.int a b na nb local x y l refl ha hb oa ob (λ d r nz. sums w sc p live s f area is_typed Mul d r nz ring.mul) (λ g e. absurd (cc))
  arithmetic_right _ div a b na nb local x y l ha hb oa ob ka kb = valued (binary_made sc Div a b) (max na (nb + 1)) local ty.int _ l refl (λ d r n c k idle ready code lo hi nz no1.
      twos w sc p live s f area is_typed fs (λ v. is_never_zero b.known ≡ true → word_of_scalar sc p v ≢ 0) (λ q t. divisor_code sc (is_never_zero b.known) t ++ (Divide q t ∷ Mflo d ∷ [])) a b na nb (on_binary Div) ty.int ty.int ty.int d r n c k x y idle lo (omega arith) (omega arith) hb ready code oa ob
      (sure_answers b.known y kb (is_never_zero b.known) refl) (quotients w sc p live s f area is_typed d r nz (is_never_zero b.known)))
  arithmetic_right _ rem a b na nb local x y l ha hb oa ob ka kb = valued (binary_made sc Rem a b) (max na (nb + 1)) local ty.int _ l refl (λ d r n c k idle ready code lo hi nz no1.
      twos w sc p live s f area is_typed fs (λ v. is_never_zero b.known ≡ true → word_of_scalar sc p v ≢ 0) (λ q t. divisor_code sc (is_never_zero b.known) t ++ (Divide q t ∷ Mfhi d ∷ [])) a b na nb (on_binary Rem) ty.int ty.int ty.int d r n c k x y idle lo (omega arith) (omega arith) hb ready code oa ob
      (sure_answers b.known y kb (is_never_zero b.known) refl) (remainders w sc p live s f area is_typed d r nz (is_never_zero b.known)))

  pub orders_right : (o : BinaryOp) → IsOrdering o → (a b : Made) (na nb : ℕ) (local : Bool) (x y : Costed Value) (l : Costed Location) → 1 ≤ na → 1 ≤ nb
      → OperandRuns w sc p live fs s a na ty.int x → OperandRuns w sc p live fs s b nb ty.int y
      → ((k : ℕ) → b.known ≡ Some k → KnownAs sc p ty.int k y)
      → Claims w sc p live fs s (binary_made sc o a b) (binary_need o na nb) false local ty.bool (paying 1 (both_sides o x y)) l
  orders_right _ lt a b na nb local x y l ha hb oa ob kb = operators_right (immediate_of Lt b.known) Lt ty.int ty.bool a b na nb local x y l refl ha hb oa ob (λ d r nz. orders w sc p live s f area is_typed Lt d r nz lt)
      (knows_int Lt ty.bool b.known y (on_binary Lt) kb (λ d r v nz fv g e. below_with w sc p live s f area is_typed d r v nz fv g e))
  orders_right _ le a b na nb local x y l ha hb oa ob kb = operators_right (immediate_of Le b.known) Le ty.int ty.bool a b na nb local x y l refl ha hb oa ob (λ d r nz. orders w sc p live s f area is_typed Le d r nz le)
      (knows_int Le ty.bool b.known y (on_binary Le) kb (λ d r v nz fv g e. at_most_with w sc p live s f area is_typed d r v nz fv g e))
  orders_right _ gt a b na nb local x y l ha hb oa ob kb = operators_right None Gt ty.int ty.bool a b na nb local x y l refl ha hb oa ob (λ d r nz. orders w sc p live s f area is_typed Gt d r nz gt) (λ g e. absurd (cc))
  orders_right _ ge a b na nb local x y l ha hb oa ob kb = operators_right (immediate_of Ge b.known) Ge ty.int ty.bool a b na nb local x y l refl ha hb oa ob (λ d r nz. orders w sc p live s f area is_typed Ge d r nz ge)
      (knows_int Ge ty.bool b.known y (on_binary Ge) kb (λ d r v nz fv g e. at_least_with w sc p live s f area is_typed d r v nz fv g e))

  pub equals_right : (o : BinaryOp) → IsEquality o → (t : Ty) → is_scalar t ≡ true
      → (a b : Made) (na nb : ℕ) (local : Bool) (x y : Costed Value) (l : Costed Location) → 1 ≤ na → 1 ≤ nb → OperandRuns w sc p live fs s a na t x
      → OperandRuns w sc p live fs s b nb t y
      → ((k : ℕ) → b.known ≡ Some k → KnownAs sc p t k y)
      → Claims w sc p live fs s (binary_made sc o a b) (binary_need o na nb) false local ty.bool (paying 1 (both_sides o x y)) l
  equals_right _ eq t z a b na nb local x y l ha hb oa ob kb = operators_right (immediate_of Eq b.known) Eq t ty.bool a b na nb local x y l z ha hb oa ob (λ d r nz. equals w sc p live s f area is_typed Eq t d r z nz eq)
      (knows_scalar Eq t b.known y (on_binary Eq) kb (λ d r v nz fv g e. equals_with w sc p live s f area is_typed d r t v nz z fv g e))
  equals_right _ ne t z a b na nb local x y l ha hb oa ob kb = operators_right (immediate_of Ne b.known) Ne t ty.bool a b na nb local x y l z ha hb oa ob (λ d r nz. equals w sc p live s f area is_typed Ne t d r z nz ne)
      (knows_scalar Ne t b.known y (on_binary Ne) kb (λ d r v nz fv g e. differs_with w sc p live s f area is_typed d r t v nz z fv g e))

  -- what the left side is where the right side is evaluated
  abbrev pub goes_on : BinaryOp → Bool
  goes_on And = true
  goes_on _ = false

  pub logics_right : (behind : Facts) (o : BinaryOp) → IsLogical o → (a b : Made) (na nb : ℕ) (local : Bool) (x y : Costed Value) (l : Costed Location) → 1 ≤ na → 1 ≤ nb
      → ((r : ℕ) → length (b.value r r) < 32768) → ValueRuns w sc p live fs s a na ty.bool x → ValueRuns w sc p live behind s b nb ty.bool y
      → ((u : ℕ) (c : Contents) → truth x ≡ costs u (Ok (goes_on o)) → ReadyWith sc p live fs s c → ReadyWith sc p live behind s c)
      → Claims w sc p live fs s (binary_made sc o a b) (binary_need o na nb) false local ty.bool (paying 1 (both_sides o x y)) l
  logics_right behind _ and a b na nb local x y l ha hb short va vb told = valued (binary_made sc And a b) (max na nb) local ty.bool _ l refl (λ d r n c k idle ready code lo hi nz no1.
      logics w sc p live s f area is_typed fs behind (λ z. Beq r 0 z) false a b na nb d r n c k x y (λ b. if b then y else at_no_cost (Ok (bool false))) idle lo (omega arith) (omega arith) hb nz no1 ready code (λ m there. let few : length (b.value r r) % 2 ^ 16 ≡ length (b.value r r) = let z = short r in omega (arith, z) in subst (λ v. Skip w sc p live s f area is_typed (Beq r 0 v) false r (length (b.value r r)) m k) (sym few) (skips_and w sc p live s f area is_typed r (length (b.value r r)) m k idle (short r) (subst (λ v. w.code m ≡ Some (Beq r 0 v)) few there))) refl refl va vb told)
  logics_right behind _ or a b na nb local x y l ha hb short va vb told = valued (binary_made sc Or a b) (max na nb) local ty.bool _ l refl (λ d r n c k idle ready code lo hi nz no1.
      logics w sc p live s f area is_typed fs behind (λ z. Bne r 0 z) true a b na nb d r n c k x y (λ b. if b then at_no_cost (Ok (bool true)) else y) idle lo (omega arith) (omega arith) hb nz no1 ready code (λ m there. let few : length (b.value r r) % 2 ^ 16 ≡ length (b.value r r) = let z = short r in omega (arith, z) in subst (λ v. Skip w sc p live s f area is_typed (Bne r 0 v) true r (length (b.value r r)) m k) (sym few) (skips_or w sc p live s f area is_typed r (length (b.value r r)) m k idle (short r) (subst (λ v. w.code m ≡ Some (Bne r 0 v)) few there))) refl refl va vb told)

  pub short_code : (e : CExpr) (r : ℕ) → nodes e ≤ 2000 → length ((made sc fs e).value r r) < 32768
  short_code e r few = let a = (short sc fs e).value r r in omega (arith, a, few)

  -- a value with its sign changed
  pub negatives_right : (o : Option ℕ) (m : Made) (need : ℕ) (x : Costed Value) (l : Costed Location) → 1 ≤ need → OperandRuns w sc p live fs s m need ty.int x
      → ((k : ℕ) → (negative_made o m).known ≡ Some k → KnownAs sc p ty.int k (paying 1 (x >>= λ v. at_no_cost (on_unary Negate v))))
      → Claims w sc p live fs s (negative_made o m) need false false ty.int (paying 1 (x >>= λ v. at_no_cost (on_unary Negate v))) l
  negatives_right (Some n) m need x l some oa known =
      let a = known (Rattle.c0_expr_code.specs.Code.negated n) refl in
      subst (λ y. Claims w sc p live fs s (negative_made (Some n) m) need false false ty.int y l) (sym a.is) (constants (Rattle.c0_expr_code.specs.Code.negated n) a.units need a.value ty.int None false l (omega arith) a.some (sym a.word_is) a.fits)
  negatives_right None m need x l some oa known = valued (negative_made None m) need false ty.int _ l refl (λ d r n c k idle ready code lo hi nz no1.
      ones w sc p live s f area is_typed fs (λ q. Subu d 0 q ∷ []) m need (on_unary Negate) ty.int ty.int d r n c k x idle lo hi some ready code oa (negatives w sc p live s f area is_typed d r nz))

module _ (w : World) (sc : Scope) (p : Bases) (live : ℕ → Bool) (s : C0State) (f : Machine w) (area : Area w sc p) (is_typed : StateIsTyped sc p s) where
  -- what is known behind the left side of `&&` and of `||`
  pub behind_left : (fs : Facts) (o : BinaryOp) → IsLogical o → (a : CExpr) → HasNumberedType sc.env a ty.bool → (u : ℕ) (c : Contents)
      → truth (value_of a s) ≡ costs u (Ok (goes_on w sc p live fs s f area is_typed o)) → ReadyWith sc p live fs s c
      → ReadyWith sc p live (right_facts o (typed_of_expr sc.env a) fs) s c
  behind_left fs _ and a h u c is ready = told_ready sc p s is_typed a ty.bool h live fs u true c is ready
  behind_left fs _ or a h u c is ready = told_ready sc p s is_typed a ty.bool h live fs u false c is ready

  -- an operator that evaluates both sides
  both_evaluated : (fs : Facts) (span : Span) (o : BinaryOp) (a b : CExpr) (t : Ty) → right_facts o (typed_of_expr sc.env a) fs ≡ fs
      → Claims w sc p live fs s (binary_made sc o (made sc fs a) (made sc fs b)) (binary_need o (need a) (need b)) false false t (paying 1 (both_sides o (value_of a s) (value_of b s))) (place_of (binary span o a b) s)
      → Right w sc p live fs s (binary span o a b) t
  both_evaluated fs span o a b t e h =
      subst (λ g. Claims w sc p live fs s (binary_made sc o (made sc fs a) (made sc g b)) (binary_need o (need a) (need b)) false false t (paying 1 (both_sides o (value_of a s) (value_of b s))) (place_of (binary span o a b) s)) (sym e) h

  -- every typed expression
  pub right : (fs : Facts) (e : CExpr) (t : Ty) → HasNumberedType sc.env e t → nodes e ≤ 2000 → Covers live (reads e) → Right w sc p live fs s e t
  right fs _ _ (a_number {n = n} h) few cover = constants w sc p live fs s f area is_typed n 1 1 (int (pos n)) ty.int (Some n) false _ (omega (arith, h)) (omega arith) (sym (word_pos n (record { sfits = omega (arith, h) }))) (record { sfits = omega (arith, h) })
  right fs _ _ a_true few cover = constants w sc p live fs s f area is_typed 1 1 1 (bool true) ty.bool None false _ (omega arith) (omega arith) refl tt
  right fs _ _ a_false few cover = constants w sc p live fs s f area is_typed 0 1 1 (bool false) ty.bool None false _ (omega arith) (omega arith) refl tt
  right fs _ _ (a_variable {x = x} {d = d} h) few cover = variables w sc p live fs s f area is_typed x.kind x.number d h (λ q. cover x.number (both_true (is_in_frame x.kind) (nat_eq x.number x.number) q (eq-eqb x.number x.number refl)))
  right fs _ _ (a_field {e = e} {f = g} {x = x} {d = d} pl h q) few cover =
      let part = right fs e (ty.named x) h (omega arith) cover in
      placed w sc p live fs s f area is_typed _ (need e) true (is_frame_place e) d.ty 0 (field_of g (place_of e s)) (need_some e) (omega arith)
      (λ q u l y. cover (base_of l.path) (base_read (reads e) l.path (field_based (reads e) g (place_of e s) (based e s q) u l y)))
      (field_runs w sc p live fs s f area is_typed (λ r. (made sc fs e).place r) (need e) 0 (is_frame_place e) x g d.ty (type_at sc.env e) (place_of e s) (need_some e) (type_is sc.env e (ty.named x) h) (typed_there (shape_fields sc.env.structs x) g.number d q) (part.place pl (no_register w sc p live fs s f area is_typed e (ty.named x) h pl refl)))
  right fs _ _ (a_target_field {e = e} {f = g} {x = x} {d = d} h q) few cover =
      let part = right fs e (ty.pointer (ty.named x)) h (omega arith) cover in
      placed w sc p live fs s f area is_typed _ (need e) true false d.ty 2 (field_of g (pointed (value_of e s))) (need_some e) (omega arith) (λ q. absurd (cc))
      (field_runs w sc p live fs s f area is_typed (λ r. target_address sc (is_sure_pointer fs (typed_of_expr sc.env e)) (made sc fs e) r) (need e) 2 false x g d.ty (target (type_at sc.env e)) (pointed (value_of e s)) (need_some e) (ap target (type_is sc.env e (ty.pointer (ty.named x)) h)) (typed_there (shape_fields sc.env.structs x) g.number d q) (target_runs w sc p live fs s f area is_typed (is_sure_pointer fs (typed_of_expr sc.env e)) (made sc fs e) (need e) (ty.named x) (value_of e s) (part.operand refl) (need_some e) (sure_value w sc p live fs s f area is_typed e)))
  right fs _ t (an_element {e = e} {i = i} {n = n} pl h g) few cover =
      let part = right fs e (ty.array t n) h (omega arith) (λ m y. cover m (or_left (reads e m) (reads i m) y)) in
      let number = right fs i ty.int g (omega arith) (λ m y. cover m (or_right (reads e m) (reads i m) y)) in
      placed w sc p live fs s f area is_typed _ (max (need e) (need i + 1)) true (is_frame_place e) t 10 (indexed s (place_of e s) (value_of i s)) (let a = need_some e in omega (arith, a)) (omega arith)
      (λ q u l y. let read = base_read (reads e) l.path (element_of_based (reads e) s (place_of e s) (value_of i s) (based e s q) u l y) in cover (base_of l.path) (or_left (reads e (base_of l.path)) (reads i (base_of l.path)) read))
      (subst (λ u. AddressRuns w sc p live fs s f area is_typed (λ r. element_address sc (element_words sc.env.structs u) (length_in u) (made sc fs i).literal ((made sc fs e).place r) (made sc fs i) r) (max (need e) (need i + 1)) (is_frame_place e) t 10 (indexed s (place_of e s) (value_of i s))) (sym (type_is sc.env e (ty.array t n) h))
      (element_runs w sc p live fs s f area is_typed (λ r. (made sc fs e).place r) (made sc fs i) (need e) (need i) (is_frame_place e) n t (place_of e s) (value_of i s) (need_some e) (need_some i) (part.place pl (no_register w sc p live fs s f area is_typed e (ty.array t n) h pl refl)) (number.operand refl) (made sc fs i).literal (λ j q. (literal_is sc fs i j s q, small_literal sc fs i j g q))))
  right fs _ t (a_target {e = e} h) few cover =
      let part = right fs e (ty.pointer t) h (omega arith) cover in
      placed w sc p live fs s f area is_typed _ (need e) true false t 2 (pointed (value_of e s)) (need_some e) (omega arith) (λ q. absurd (cc)) (target_runs w sc p live fs s f area is_typed (is_sure_pointer fs (typed_of_expr sc.env e)) (made sc fs e) (need e) t (value_of e s) (part.operand refl) (need_some e) (sure_value w sc p live fs s f area is_typed e))
  right fs _ _ (an_address {e = e} {t = t} pl away h) few cover =
      let part = right fs e t h (omega arith) cover in
      valued w sc p live fs s f area is_typed _ (need e) false (ty.pointer t) _ _ refl (λ d r n c k idle ready code lo hi nz no1.
      let some = need_some e in
      let a = part.place pl (away_register w sc p live fs s f area is_typed e pl away) r n c k idle ready (code_front w n ((made sc fs e).place r).code _ code) lo hi in
      node w sc 3 n (n + length (access_code (λ b j. Addiu d b j) r ((made sc fs e).place r))) c k (HoldsValue sc p d r d (ty.pointer t) c) (place_of e s >>= λ l. at_no_cost (Ok (at l))) (omega arith)
      (addresses w sc p live s f area is_typed t ((made sc fs e).place r) 0 d r n c k (place_of e s) idle lo (omega arith) nz a.0 code
      (subst (λ b. Evaluates w sc 0 n (n + length ((made sc fs e).place r).code) c k (HoldsAddress sc p ((made sc fs e).place r).base ((made sc fs e).place r).displacement r b t c) (place_of e s)) away a.1)))
  right fs _ _ (a_negative {e = e} h) few cover =
      negatives_right w sc p live fs s f area is_typed (made sc fs e).literal (made sc fs e) (need e) (value_of e s) _ (need_some e) ((right fs e ty.int h (omega arith) cover).operand refl) (λ k q. negative_known sc p fs e s k (made sc fs e).literal h refl q)
  right fs _ _ (a_negation {e = e} h) few cover =
      let part = right fs e ty.bool h (omega arith) cover in
      valued w sc p live fs s f area is_typed _ (need e) false ty.bool _ _ refl (λ d r n c k idle ready code lo hi nz no1. ones w sc p live s f area is_typed fs (λ q. Xori d q 1 ∷ []) (made sc fs e) (need e) (on_unary Not) ty.bool ty.bool d r n c k (value_of e s) idle lo hi (need_some e) ready code (part.operand refl) (negations w sc p live s f area is_typed d r nz))
  right fs _ _ (arithmetic {s = whole} {o = o} {a = a} {b = b} q h g) few cover =
      both_evaluated fs whole o a b ty.int (arithmetic_knows o q (typed_of_expr sc.env a) fs)
      (arithmetic_right w sc p live fs s f area is_typed o q (made sc fs a) (made sc fs b) (need a) (need b) false (value_of a s) (value_of b s) _ (need_some a) (need_some b) ((right fs a ty.int h (omega arith) (λ m y. cover m (or_left (reads a m) (reads b m) y))).operand refl) ((right fs b ty.int g (omega arith) (λ m y. cover m (or_right (reads a m) (reads b m) y))).operand refl) (λ k e. known_is sc p fs a ty.int s k h e) (λ k e. known_is sc p fs b ty.int s k g e))
  right fs _ _ (order {s = whole} {o = o} {a = a} {b = b} q h g) few cover =
      both_evaluated fs whole o a b ty.bool (order_knows o q (typed_of_expr sc.env a) fs)
      (orders_right w sc p live fs s f area is_typed o q (made sc fs a) (made sc fs b) (need a) (need b) false (value_of a s) (value_of b s) _ (need_some a) (need_some b) ((right fs a ty.int h (omega arith) (λ m y. cover m (or_left (reads a m) (reads b m) y))).operand refl) ((right fs b ty.int g (omega arith) (λ m y. cover m (or_right (reads a m) (reads b m) y))).operand refl) (λ k e. known_is sc p fs b ty.int s k g e))
  right fs _ _ (logic {o = o} {a = a} {b = b} q h g) few cover =
      logics_right w sc p live fs s f area is_typed (right_facts o (typed_of_expr sc.env a) fs) o q (made sc fs a) (made sc (right_facts o (typed_of_expr sc.env a) fs) b) (need a) (need b) false (value_of a s) (value_of b s) _ (need_some a) (need_some b) (λ r. short_code w sc p live (right_facts o (typed_of_expr sc.env a) fs) s f area is_typed b r (omega arith)) ((right fs a ty.bool h (omega arith) (λ m y. cover m (or_left (reads a m) (reads b m) y))).value refl) ((right (right_facts o (typed_of_expr sc.env a) fs) b ty.bool g (omega arith) (λ m y. cover m (or_right (reads a m) (reads b m) y))).value refl) (behind_left fs o q a h)
  right fs _ _ (equality {s = whole} {o = o} {a = a} {b = b} {t = t} q z h g) few cover =
      both_evaluated fs whole o a b ty.bool (equality_knows o q (typed_of_expr sc.env a) fs)
      (equals_right w sc p live fs s f area is_typed o q t z (made sc fs a) (made sc fs b) (need a) (need b) false (value_of a s) (value_of b s) _ (need_some a) (need_some b) ((right fs a t h (omega arith) (λ m y. cover m (or_left (reads a m) (reads b m) y))).operand z) ((right fs b t g (omega arith) (λ m y. cover m (or_right (reads a m) (reads b m) y))).operand z) (λ k e. known_is sc p fs b t s k g e))
  right fs _ _ (null_left {s = whole} {r = span} {o = o} {b = b} {t = t} q g) few cover =
      both_evaluated fs whole o (null span) b ty.bool (equality_knows o q (typed_of_expr sc.env (null span)) fs)
      (equals_right w sc p live fs s f area is_typed o q (ty.pointer t) refl (made sc fs (null span)) (made sc fs b) 1 (need b) false (value_of (null span) s) (value_of b s) _ (omega arith) (need_some b) ((null_right_is w sc p live fs s f area is_typed span t).operand refl) ((right fs b (ty.pointer t) g (omega arith) (λ m y. cover m y)).operand refl) (λ k e. known_is sc p fs b (ty.pointer t) s k g e))
  right fs _ _ (null_right {s = whole} {r = span} {o = o} {a = a} {t = t} q h) few cover =
      both_evaluated fs whole o a (null span) ty.bool (equality_knows o q (typed_of_expr sc.env a) fs)
      (equals_right w sc p live fs s f area is_typed o q (ty.pointer t) refl (made sc fs a) (made sc fs (null span)) (need a) 1 false (value_of a s) (value_of (null span) s) _ (need_some a) (omega arith) ((right fs a (ty.pointer t) h (omega arith) (λ m y. cover m (or_left (reads a m) false y))).operand refl) ((null_right_is w sc p live fs s f area is_typed span t).operand refl) (λ k e. null_known sc p t k e))

  -- and every expression that may stand where a type is asked
  pub given : (fs : Facts) (e : CExpr) (t : Ty) → IsNumberedGiven sc.env e t → nodes e ≤ 2000 → Covers live (reads e) → Right w sc p live fs s e t
  given fs _ t (a_value {e = e} h) few cover = right fs e t h few cover
  given fs _ _ (a_null {s = span} {t = t}) few cover = null_right_is w sc p live fs s f area is_typed span t

  -- a place, whose variable may be found without being live
  pub places : (fs : Facts) (e : CExpr) (t : Ty) → HasNumberedType sc.env e t → nodes e ≤ 2000 → Covers live (reads_to_find e) → is_lvalue e ≡ true → (made sc fs e).register ≡ None
      → PlaceRuns w sc p live fs s (made sc fs e) (need e) (is_frame_place e) t (place_of e s)
  places fs (var x) _ (a_variable {d = d} h) few cover lvalue none = variable_found w sc p live fs s f area is_typed x.kind x.number d h none
  places fs (field span e g) t h few cover lvalue none = (right fs (field span e g) t h few cover).place lvalue none
  places fs (arrow span e g) t h few cover lvalue none = (right fs (arrow span e g) t h few cover).place lvalue none
  places fs (index span e i) t h few cover lvalue none = (right fs (index span e i) t h few cover).place lvalue none
  places fs (deref span e) t h few cover lvalue none = (right fs (deref span e) t h few cover).place lvalue none
  places fs _ t h few cover lvalue none = absurd (cc)
