-- The statement `new`: the words of the type are loaded, the routine is called, and its answer waits for its place.
use Rattle.std.specs.Prelude.{slice_get, Option, nat_lt}
use Rattle.std.proofs.Common.{◌≡◌, ◌≢◌, inl, inr, ℕ, ◌+◌, ◌*◌, ◌%◌, ◌^◌, ◌<◌, ◌≤◌, ◌⊎◌, true, List, [], ◌∷◌, ◌++◌, length, refl, sym, ap, ◌∙◌, subst, arith, length-append}
use Rattle.std.proofs.lemmas.Bool.{cases_Bool, cond-true, cond-false, ltb-true, ltb-false}
use Rattle.std.proofs.lemmas.Int.{ints}
use Rattle.mips_table.specs.declared.inst.Inst.{Inst}
use Rattle.mips_table.specs.declared.inst.Inst.TheVariants.{Jal}
use Rattle.mips_table.specs.Code.{Contents, with_reg, Behind, at_with, Reaches, RunLaws, CodeAt}
use Rattle.masm.specs.Laws.{RunsCompose, JumpsLead, StraightRuns}
use Rattle.c0_tree.specs.declared.tree.Span.{Span}
use Rattle.c0_tree.specs.Size.{nodes}
use Rattle.c0_tree.specs.Tree.{num, CTy, CExpr, CStmts}
use Rattle.c0_meaning.specs.Ty.{Ty, ty_of, named}
use Rattle.c0_meaning.specs.Ty as ty
use Rattle.c0_meaning.specs.Words.{words, shape_fields}
use Rattle.c0_meaning.specs.Sizes.{words_before}
use Rattle.c0_meaning.specs.Sound.{shapes}
use Rattle.c0_meaning.specs.Typed.{IsDeclarable}
use Rattle.c0_meaning.specs.Value.{heap, Value, null, at, part_count, with_part, zero_of}
use Rattle.c0_meaning.specs.State.{Frame}
use Rattle.c0_meaning.specs.Statement.{MAX_NEED, new_need}
use Rattle.c0_meaning.specs.Numbered.{a_number, a_value, IsNumberedLeft}
use Rattle.c0_meaning.specs.World.{units, Configuration}
use Rattle.c0_meaning.specs.Running.{into, Work, finish, Step, Go, allocate}
use Rattle.c0_meaning.specs.TypedState.{types_of, Fits, store_typing}
use Rattle.c0_typed.specs.Leaf.{calls_in}
use Rattle.c0_expr_code.specs.Scope.{Scope}
use Rattle.c0_expr_code.specs.Code.{constant_code}
use Rattle.c0_expr_runs.specs.Bases.{words_of_all}
use Rattle.c0_runtime.specs.Laws.{RoutineCalled, HeapIs, IsAsked, NewRuns}
use Rattle.c0_stmt_code.specs.Code.{new_code, answer_code}
use Rattle.c0_runs.specs.Setup.{Setup}
use Rattle.c0_runs.specs.Ahead.{Activation, body_env, knowing, Block, Awaits, Ahead}
use Rattle.c0_typed.specs.Typed.{typed_of_expr}
use Rattle.c0_expr_code.specs.declared.facts.Facts.{Facts}
use Rattle.c0_expr_code.specs.Facts.{renewed}
use Rattle.c0_stmt_code.specs.Behind.{stored_facts}
use Rattle.c0_runs.proofs.FactsBehind.{object_within, within_itself}
use Rattle.c0_runs.specs.Standing.{code_text, scope, word_of_value, Waiting, FunctionRuns, ConfigurationStands}
use Rattle.c0_runs.proofs.PremisesFromBelow.{HeldStays, TypedStays}
use Rattle.c0_runs.proofs.RunStretches.{Stretch, on, of, away}
use Rattle.c0_runs.proofs.WorkAsCode.{Goes, front, back}
use Rattle.c0_runs.proofs.FunctionsUnderWay.{its_facts, standing_at, Exprs}
use Rattle.c0_runs.proofs.MemoryAccess.{other_reg, same_reg, read_is}
use Rattle.c0_runs.proofs.ValuesToPlaces.{its_exprs, its_ready}
use Rattle.c0_runs.proofs.CallActs.{stands_soft, calls_to}
use Rattle.c0_runs.proofs.HeapGrows.{last_there, last_behind, parts_count, under_kept, under_more, stands_more}
use Rattle.c0_runs.proofs.LiveAroundSteps.{AreLiveAtPlace}
use Rattle.c0_runs.proofs.StepSimulation.{GoesOn}

module _ (runs : RunLaws) (compose : RunsCompose) (W E : Type 0) (Outer : W → Contents → Behind → Type 0) (z : Setup W E Outer) (jumps : JumpsLead z.w) (straight : StraightRuns z.w)
    (held : HeldStays (shapes z.p.unit)) (typing : TypedStays z.p.unit) (exprs : Exprs W E Outer z) (new_runs : NewRuns z.w) (some_words : (t : CTy) → IsDeclarable (shapes z.p.unit) t → 1 ≤ words (shapes z.p.unit) (ty_of t))
    (opened : (x : List ℕ) → words (shapes z.p.unit) (named x) ≡ words_of_all (shapes z.p.unit) (types_of (shape_fields (shapes z.p.unit) x)))
    (objects : List Ty) (gv hv : Value) (hw : ℕ) (g : Frame) (fs : List Frame) (world : W) (calls : List (List E)) (answer : Option Value) (c : Contents) (d : Behind) (a : Activation) (others : List Activation)
    (st : ConfigurationStands W E Outer z objects (standing_at gv hv hw (g ∷ fs) world calls answer) c d) (r : FunctionRuns W E Outer z objects c a g fs) (waits : Waiting W E Outer z objects c.memory others fs)
    (its_calls : calls_in a.function.body ≡ true) (k debt : ℕ) (t : CTy) (declarable : IsDeclarable (shapes z.p.unit) t) where
  abbrev sc : Scope
  sc = scope W E Outer z a.function

  abbrev here : Configuration W E
  here = standing_at gv hv hw (g ∷ fs) world calls answer

  abbrev size : ℕ
  size = words (shapes z.p.unit) (ty_of t)

  -- the function once the object is made
  abbrev it_knows : Activation
  it_knows = knowing a (renewed a.facts)

  -- what is known once its address has gone to its place
  abbrev pub behind_object : CExpr → Facts
  behind_object p = stored_facts (typed_of_expr sc.env p) (renewed a.facts)

  abbrev fresh : Value
  fresh = zero_of (shapes z.p.unit) (ty_of t)

  abbrev first_part : List Inst
  first_part = constant_code 2 (size % 2 ^ 32)

  abbrev from : ℕ
  from = k + length first_part

  -- the routine is entered: register 2 has the words of the type, and register 31 the return address
  record Asks (c2 : Contents) : Type 0 where
    asked : c2.regs 2 ≡ size
    back_at : c2.regs 31 ≡ 4 * (from + 1)
    memory : c2.memory ≡ c.memory
    special : c2.special ≡ c.special
    regs : (x : ℕ) → 20 ≤ x → x < 31 → c2.regs x ≡ c.regs x

  asks : (s : Span) (p : CExpr) → CodeAt z.w k (new_code sc a.facts (code_text W E Outer z).links size p) → (c2 : Contents) × Asks c2 × Reaches z.w 17 (at_with k c d) (at_with (code_text W E Outer z).links.new_object c2 d)
  asks s p code =
      let small = declarable.small in
      let ex = its_exprs runs compose W E Outer z jumps straight held typing exprs objects gv hv hw g fs world calls answer c d a others st r waits in
      let rd = its_ready runs compose W E Outer z jumps straight held typing exprs objects gv hv hw g fs world calls answer c d a others st r waits a.facts (its_facts W E Outer z objects gv hv hw g fs c a r) in
      let run = ex.value a.facts (num s (size % 2 ^ 32)) ty.int (a_value (a_number (omega (arith, small)))) refl (omega arith) (λ m q. absurd (cc)) 2 8 k c d st.idle rd (front z.w k first_part (Jal (code_text W E Outer z).links.new_object ∷ answer_code sc (renewed a.facts) p) code) (omega arith) (omega arith) (λ q. absurd (omega (arith, q))) (λ q. absurd (omega (arith, q))) in
      let c1 : Contents = run.0 in
      let gives = run.1 in
      let keeps = gives.keeps in
      let jal_at = back z.w k first_part (Jal (code_text W E Outer z).links.new_object ∷ answer_code sc (renewed a.facts) p) code in
      let jump_there = calls_to runs compose W E Outer z jumps from (code_text W E Outer z).links.new_object run.0 d st.idle jal_at.0 in
      let value : run.0.regs 2 ≡ size = sym (read_is run.0.regs 2 (λ q. absurd (omega (arith, q)))) ∙ gives.is ∙ omega (arith, ints, small) in (
        with_reg run.0 31 (4 * (from + 1)),
        record {
          asked = other_reg run.0.regs 31 (4 * (from + 1)) 2 (λ q. absurd (omega (arith, q))) ∙ value;
          back_at = same_reg run.0.regs 31 (4 * (from + 1)) (λ q. absurd (omega (arith, q)));
          memory = keeps.memory;
          special = keeps.special;
          regs = λ x le lt. other_reg run.0.regs 31 (4 * (from + 1)) x (λ q. absurd (omega (arith, q, lt))) ∙ keeps.above x (λ q. absurd (omega (arith, q, le))) le;
        },
        compose.joined z.w 16 1 _ _ _ run.2 jump_there,
      )

  -- the heap, as the routine finds it
  heap_is : (c2 : Contents) → Asks c2 → HeapIs z.w hw z.p.heap z.a.heap c2
  heap_is c2 asks =
      let gf = z.globals_fit in
      let hf = z.heap_fits in
      let sf = z.stack_fits in
      let lo = z.low in
      record {
        used_word = ap (λ m. m 1026) asks.memory ∙ st.used_word;
        heap_word = ap (λ m. m 1027) asks.memory ∙ st.heap_size;
        first_word = ap (λ m. m 1028) asks.memory ∙ st.heap_first;
        within = st.room;
        behind = omega (arith, lo, gf);
        inside = omega (arith, hf, sf);
        count_free = z.ours 1026 (inr refl);
        free = λ i lt. z.ours (z.a.heap + i) (inl (omega (arith, gf), omega (arith, lt, hf)));
      }

  called : (c2 : Contents) → Asks c2 → RoutineCalled (from + 1) c2 d
  called c2 asks = record { back = asks.back_at; idle = st.idle }

  is_asked : (c2 : Contents) → Asks c2 → IsAsked size c2
  is_asked c2 asks = let small = declarable.small in record { asked = asks.asked; least = some_words t declarable; most = omega (arith, small) }

  -- there is no room
  refuses : (s : Span) (p : CExpr) (rest : CStmts) (work : List Work) → z.p.heap < hw + size → CodeAt z.w k (new_code sc a.facts (code_text W E Outer z).links size p)
      → Awaits (code_text W E Outer z) (it_knows ∷ others) (from + 1) debt (ty.pointer (ty_of t)) (into p rest) work (λ acts to left. Ahead (code_text W E Outer z) acts to left work) → AreLiveAtPlace a.live others p rest work → GoesOn W E Outer z debt here (at_with k c d) (Go (units 1) (finish p null rest ∷ work) here)
  refuses s p rest work over code ahead live =
      let one = asks s p code in
      let two = new_runs.refuses (code_text W E Outer z).links.new_object (from + 1) hw z.p.heap z.a.heap size one.0 d z.new_object (called one.0 one.1) (heap_is one.0 one.1) (is_asked one.0 one.1) over in
      let keeps = two.1.keeps in
      let way = away runs z.w (17 + 7) (at_with k c d) (at_with (from + 1) two.0 d) (λ q. absurd (omega (arith, q))) (compose.joined z.w 17 7 _ _ _ one.2 two.2) in
      let le = way.high in
      let ge = way.low in
      let memory = two.1.words ∙ one.1.memory in
      let regs : (x : ℕ) → 20 ≤ x → x < 31 → two.0.regs x ≡ c.regs x = λ x l h. keeps.regs x (omega (arith, l)) ∙ one.1.regs x l h in (
        at_with (from + 1) two.0 d,
        debt,
        record { own = way.own; high = omega (arith, le); low = omega (arith, ge); ended_so = omega arith; run = way.run },
        record {
          objects = objects;
          stands = stands_soft runs compose W E Outer z jumps objects here c two.0 d memory (keeps.special ∙ one.1.special) (regs 28 (omega arith) (omega arith)) (regs 30 (omega arith) (omega arith)) st;
          activations = it_knows ∷ others;
          under_way = under_kept W E Outer z held typing opened objects c two.0 a others g fs its_calls regs (λ x l. ap (λ m. m x) memory) r waits;
          t = ty.pointer (ty_of t);
          fits = tt;
          answer = two.1.answer;
          ahead = ahead;
          live = live;
        },
      )

  -- an object is made
  abbrev more : List Ty
  more = objects ++ ty_of t ∷ []

  abbrev made_here : Configuration W E
  made_here = standing_at gv (with_part hv fresh) (hw + size) (g ∷ fs) world calls answer

  abbrev new_one : Value
  new_one = at (record { region = heap; path = part_count hv ∷ [] })

  -- where the new object stands
  number_is : part_count hv ≡ length objects
  number_is = parts_count (shapes z.p.unit) (store_typing z.p.unit objects) objects hv st.typed.heap_values

  leads_there : Fits (shapes z.p.unit) (store_typing z.p.unit more) (ty.pointer (ty_of t)) new_one
  leads_there = (ty_of t, ap (slice_get more) number_is ∙ last_there (shapes z.p.unit) objects (ty_of t), refl)

  word_is : word_of_value W E Outer z more new_one ≡ 4 * (z.a.heap + hw)
  word_is =
      let before = ap (λ n. words_before (shapes z.p.unit) more n) number_is ∙ last_behind (shapes z.p.unit) objects (ty_of t) ∙ st.used in
      omega (arith, before)

  makes : (s : Span) (p : CExpr) (rest : CStmts) (work : List Work) → hw + size ≤ z.p.heap → CodeAt z.w k (new_code sc a.facts (code_text W E Outer z).links size p)
      → Awaits (code_text W E Outer z) (it_knows ∷ others) (from + 1) debt (ty.pointer (ty_of t)) (into p rest) work (λ acts to left. Ahead (code_text W E Outer z) acts to left work) → AreLiveAtPlace a.live others p rest work → GoesOn W E Outer z debt here (at_with k c d) (Go (units (1 + size)) (finish p new_one rest ∷ work) made_here)
  makes s p rest work room code ahead live =
      let one = asks s p code in
      let two = new_runs.makes (code_text W E Outer z).links.new_object (from + 1) hw z.p.heap z.a.heap size one.0 d z.new_object (called one.0 one.1) (heap_is one.0 one.1) (is_asked one.0 one.1) room in
      let keeps = two.1.keeps in
      let hf = z.heap_fits in
      let gf = z.globals_fit in
      let lo = z.low in
      let some = some_words t declarable in
      let routine : Stretch runs z.w (3 * size) (13 + 3 * size) (at_with (code_text W E Outer z).links.new_object one.0 d) (at_with (from + 1) two.0 d) = record { own = two.2.steps; low = two.3; high = two.2.within; run = two.2.run } in
      let way = on runs z.w 0 17 (3 * size) (13 + 3 * size) (at_with k c d) (at_with (code_text W E Outer z).links.new_object one.0 d) (at_with (from + 1) two.0 d) (of runs z.w 17 _ _ one.2) routine in
      let le = way.high in
      let ge = way.low in
      let regs : (x : ℕ) → 20 ≤ x → x < 31 → two.0.regs x ≡ c.regs x = λ x l h. keeps.regs x (omega (arith, l)) ∙ one.1.regs x l h in
      let words_same : (x : ℕ) → x ≢ 1026 → (x < z.a.heap + hw) ⊎ (z.a.heap + hw + size ≤ x) → two.0.memory x ≡ c.memory x = λ x ne side. two.1.others x ne side ∙ ap (λ m. m x) one.1.memory in
      let st2 = stands_more W E Outer z held typing opened objects t declarable gv hv hw (g ∷ fs) world calls answer c two.0 d st room two.1.zeros two.1.used_word words_same (keeps.special ∙ one.1.special) (regs 28 (omega arith) (omega arith)) (regs 30 (omega arith) (omega arith)) in
      let under = under_kept W E Outer z held typing opened objects c two.0 a others g fs its_calls regs (λ x l. words_same x (λ q. absurd (omega (arith, q, l, hf, gf, lo))) (inr (omega (arith, l, room, hf)))) r waits in (
        at_with (from + 1) two.0 d,
        debt,
        record { own = way.own; high = omega (arith, le); low = omega (arith, ge, some); ended_so = omega arith; run = way.run },
        record {
          objects = more;
          stands = st2;
          activations = it_knows ∷ others;
          under_way = under_more W E Outer z held typing opened objects t declarable two.0 it_knows others g fs st.typed.frames under;
          t = ty.pointer (ty_of t);
          fits = leads_there;
          answer = two.1.answer ∙ sym word_is;
          ahead = ahead;
          live = live;
        },
      )

  -- the statement
  pub makes_object : (s : Span) (p : CExpr) (rest : CStmts) (work : List Work) → IsNumberedLeft (body_env (code_text W E Outer z) a.function) p (ty.pointer (ty_of t)) → new_need p ≤ MAX_NEED → nodes p ≤ 2000 → CodeAt z.w k (new_code sc a.facts (code_text W E Outer z).links size p)
      → Block (code_text W E Outer z) a.function (behind_object p) (k + length (new_code sc a.facts (code_text W E Outer z).links size p)) debt rest (λ fs to left. Goes (code_text W E Outer z) a others work fs to left) → AreLiveAtPlace a.live others p rest work → GoesOn W E Outer z debt here (at_with k c d) (allocate z.p (ty_of t) (into p rest) work here)
  makes_object s p rest work left shallow few code block live = elim (cases_Bool (nat_lt z.p.heap (hw + size))) [
    | inl over ↦ subst (λ q. GoesOn W E Outer z debt here (at_with k c d) q) (sym (cond-true (nat_lt z.p.heap (hw + size)) refused granted over)) (refuses s p rest work (ltb-true z.p.heap (hw + size) over) code ahead live)
    | inr fine ↦ subst (λ q. GoesOn W E Outer z debt here (at_with k c d) q) (sym (cond-false (nat_lt z.p.heap (hw + size)) refused granted fine)) (makes s p rest work (ltb-false z.p.heap (hw + size) fine) code ahead live)
  ]
    where
      refused : Step W E
      refused = Go (units 1) (finish p null rest ∷ work) here

      granted : Step W E
      granted = Go (units (1 + size)) (finish p new_one rest ∷ work) made_here

      len : k + length (new_code sc a.facts (code_text W E Outer z).links size p) ≡ from + 1 + length (answer_code sc (renewed a.facts) p)
      len = omega (arith, length-append first_part (Jal (code_text W E Outer z).links.new_object ∷ answer_code sc (renewed a.facts) p))

      ahead : Awaits (code_text W E Outer z) (it_knows ∷ others) (from + 1) debt (ty.pointer (ty_of t)) (into p rest) work (λ acts to left. Ahead (code_text W E Outer z) acts to left work)
      ahead = (
        record {
          there = record { left = left; shallow = shallow; few = few };
          before = renewed a.facts;
          fewer = within_itself (renewed a.facts);
          after = behind_object p;
          later = object_within sc.in_registers (typed_of_expr sc.env p) a.facts;
          code = (back z.w k first_part (Jal (code_text W E Outer z).links.new_object ∷ answer_code sc (renewed a.facts) p) code).1;
        },
        subst (λ m. Block (code_text W E Outer z) a.function (behind_object p) m debt rest (λ fs to left. Goes (code_text W E Outer z) a others work fs to left)) len block,
      )
