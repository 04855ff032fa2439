-- An assignment to a variable that stands in a register.
use Rattle.std.specs.Prelude.{slice_get, IsTrue, Ok, Some, Option, if◌then◌else◌, nat_le, nat_eq, ◌&&◌, ◌||◌}
use Rattle.std.specs.List.{list_all}
use Rattle.std.proofs.lemmas.Bool.{and_parts, leb-true, cases_eq}
use Rattle.std.proofs.Common.{◌≡◌, ◌≢◌, ◌⊎◌, inl, inr, eqb-true, ℕ, zero, suc, ◌+◌, ◌-◌, ◌*◌, ◌<◌, ◌≤◌, Bool, true, false, List, [], ◌∷◌, length, refl, sym, ap, ap₂, ◌∙◌, subst, arith}
use Rattle.mips_table.specs.Code.{Contents, put, Behind, CodeState, at_with, RunLaws, CodeAt}
use Rattle.masm.specs.Laws.{RunsCompose, JumpsLead, StraightRuns}
use Rattle.c0_tree.specs.declared.tree.Kind.{Kind}
use Rattle.c0_tree.specs.declared.tree.Kind.TheVariants.{Unresolved, Struct, Field, Global, Local, Function, Primitive}
use Rattle.c0_tree.specs.Size.{nodes}
use Rattle.c0_tree.specs.Tree.{CName, CExpr, num, true_, false_, null, var, field, arrow, index, deref, address, unary, binary, CStmts, CFunction}
use Rattle.c0_meaning.specs.Ty.{Ty, is_scalar}
use Rattle.c0_meaning.specs.Env.{Env, Typed}
use Rattle.c0_meaning.specs.Sizes.{words_before}
use Rattle.c0_meaning.specs.Addresses.{words_to_part}
use Rattle.c0_meaning.specs.Sound.{shapes}
use Rattle.c0_meaning.specs.Limits.{words_of_frame}
use Rattle.c0_meaning.specs.Expression.{is_lvalue}
use Rattle.c0_meaning.specs.Value.{locals, Value}
use Rattle.c0_meaning.specs.Value as value
use Rattle.c0_meaning.specs.State.{Frame, write}
use Rattle.c0_meaning.specs.Statement.{MAX_NEED, assign_need}
use Rattle.c0_meaning.specs.Numbered.{is_frame_place, is_in_frame, variable_at, HasNumberedType, a_variable, IsNumberedLeft, IsNumberedGiven}
use Rattle.c0_meaning.specs.Evaluation.{costs, at_no_cost, paying, variable_location, place_of, value_of}
use Rattle.c0_meaning.specs.World.{Cost, units, plus, Configuration, with_state}
use Rattle.c0_meaning.specs.Running.{Work, push, Go, then_go, store}
use Rattle.c0_meaning.specs.TypedState.{types_of, Fits, store_typing, variable_types}
use Rattle.c0_typed.specs.Leaf.{calls_in, is_leaf}
use Rattle.c0_expr_code.specs.Scope.{Scope}
use Rattle.c0_typed.specs.Typed.{typed_of_expr}
use Rattle.c0_expr_code.specs.declared.facts.Facts.{Facts}
use Rattle.c0_expr_code.specs.Facts.{SureHold, facts_followed, register_holding}
use Rattle.c0_expr_code.specs.Code.{register_of_variable, variable_made, register_made, frame_made, local_address, made, value_code}
use Rattle.c0_stmt_code.specs.Behind.{stored_facts}
use Rattle.c0_runs.proofs.FactsKept.{place_within as left_at_place}
use Rattle.c0_expr_runs.specs.Bases.{Bases, word_of_scalar, LocalsHeld}
use Rattle.c0_expr_runs.specs.Relation.{HoldsValue}
use Rattle.c0_stmt_code.specs.Code.{assign_code, assigned_code}
use Rattle.c0_runs.specs.Setup.{Setup}
use Rattle.c0_runs.specs.Ahead.{Activation, body_env, knowing, Block}
use Rattle.c0_runs.specs.Standing.{code_text, scope, bases, end_of, VariablesHeld, Waiting, FunctionRuns, UnderWay, ConfigurationStands}
use Rattle.c0_runs.proofs.PremisesFromBelow.{HeldStays, TypedStays}
use Rattle.c0_stmt_code.proofs.PremisesOfFunctions.{LengthsFit}
use Rattle.c0_expr_code.specs.Reads.{reads, reads_to_find}
use Rattle.c0_stmt_code.specs.Live.{is_variable, live_at_place}
use Rattle.c0_runs.proofs.WorkAsCode.{Goes, or_left, or_right}
use Rattle.c0_runs.proofs.LiveAroundSteps.{AreLiveBefore, AreLiveAtPlace, behind_place, later, live_later, grown_at, with_live, block_with}
use Rattle.c0_runs.proofs.RunStretches.{none}
use Rattle.c0_runs.proofs.RegionsApart.{put_same, put_other}
use Rattle.c0_runs.proofs.UnitsWithinNodes.{value_within}
use Rattle.c0_runs.proofs.MemoryAccess.{read_is}
use Rattle.c0_runs.proofs.FunctionsUnderWay.{its_facts, state_of, standing_at, Exprs}
use Rattle.c0_runs.proofs.ValuesToPlaces.{Answered, answered, its_exprs, its_ready}
use Rattle.c0_runs.proofs.RegisterFrames.{each_scalar}
use Rattle.c0_runs.proofs.FirstLive.{scalars_before}
use Rattle.c0_runs.proofs.CallActs.{stands_soft}
use Rattle.c0_runs.proofs.FunctionReturns.{comes_splits}
use Rattle.c0_runs.proofs.StepSimulation.{GoesOn, Path, arrives, then_splits}

-- a place that stands in a register is a local of a function that keeps its variables there
pub record IsVariable (env : Env) (sc : Scope) (p : CExpr) (x : ℕ) (t : Ty) : Type 0 where
  pub name : CName
  pub is : p ≡ var name
  pub kind : name.kind ≡ Local
  pub form : sc.in_registers ≡ true
  pub register : register_of_variable name.number ≡ x
  pub there : slice_get (types_of env.locals) name.number ≡ Some t

typed_at : (ds : List Typed) (n : ℕ) (d : Typed) → slice_get ds n ≡ Some d → slice_get (types_of ds) n ≡ Some d.ty
typed_at [] n d e = absurd (cc)
typed_at (q ∷ ds) zero d e = let h : q ≡ d = cc in ap (λ y. Some y.ty) h
typed_at (q ∷ ds) (suc n) d e = typed_at ds n d e

module _ (env : Env) (sc : Scope) (known : Facts) (x : ℕ) where
  by_kind : (y : CName) (kd : Kind) (d : Typed) → y.kind ≡ kd → variable_at env kd y.number ≡ Some d → (variable_made sc known kd y.number).register ≡ Some x → IsVariable env sc (var y) x d.ty
  by_kind y Local d e at h = by_form sc.in_registers refl h
    where
      by_form : (b : Bool) → sc.in_registers ≡ b → (if b then register_made (register_of_variable y.number) else frame_made (register_holding known y.number) (λ r. local_address sc y.number)).register ≡ Some x → IsVariable env sc (var y) x d.ty
      by_form true f h = let q : register_of_variable y.number ≡ x = cc in record { name = y; is = refl; kind = e; form = f; register = q; there = typed_at env.locals y.number d at }
      by_form false f h = absurd (cc)
  by_kind y Unresolved d e at h = absurd (cc)
  by_kind y Struct d e at h = absurd (cc)
  by_kind y Field d e at h = absurd (cc)
  by_kind y Global d e at h = absurd (cc)
  by_kind y Function d e at h = absurd (cc)
  by_kind y Primitive d e at h = absurd (cc)

  pub variable_is : (p : CExpr) (t : Ty) → HasNumberedType env p t → IsTrue (is_lvalue p) → (made sc known p).register ≡ Some x → IsVariable env sc p x t
  variable_is (var y) _ (a_variable {d = d} at) place h = by_kind y y.kind d refl at h
  variable_is (field s e f) t typed place h = absurd (cc)
  variable_is (arrow s e f) t typed place h = absurd (cc)
  variable_is (index s e i) t typed place h = absurd (cc)
  variable_is (deref s e) t typed place h = absurd (cc)
  variable_is (num s n) t typed place h = absurd (let q : false ≡ true = place in cc)
  variable_is (true_ s) t typed place h = absurd (let q : false ≡ true = place in cc)
  variable_is (false_ s) t typed place h = absurd (let q : false ≡ true = place in cc)
  variable_is (null s) t typed place h = absurd (let q : false ≡ true = place in cc)
  variable_is (address s e) t typed place h = absurd (let q : false ≡ true = place in cc)
  variable_is (unary s o e) t typed place h = absurd (let q : false ≡ true = place in cc)
  variable_is (binary s o a b) t typed place h = absurd (let q : false ≡ true = place in cc)

module _ (runs : RunLaws) (compose : RunsCompose) (W E : Type 0) (Outer : W → Contents → Behind → Type 0) (z : Setup W E Outer) (jumps : JumpsLead z.w) (straight : StraightRuns z.w)
    (held : HeldStays (shapes z.p.unit)) (typing : TypedStays z.p.unit) (exprs : Exprs W E Outer z) (fit : (f : CFunction) → LengthsFit (scope W E Outer z f))
    (objects : List Ty) (gv hv : Value) (hw : ℕ) (g : Frame) (fs : List Frame) (world : W) (calls : List (List E)) (answer : Option Value) (c : Contents) (d : Behind) (a : Activation) (others : List Activation)
    (st : ConfigurationStands W E Outer z objects (standing_at gv hv hw (g ∷ fs) world calls answer) c d) (r : FunctionRuns W E Outer z objects c a g fs) (waits : Waiting W E Outer z objects c.memory others fs)
    (k debt : ℕ) (rest : CStmts) (work : List Work) where
  abbrev sc : Scope
  sc = scope W E Outer z a.function

  abbrev here : Configuration W E
  here = standing_at gv hv hw (g ∷ fs) world calls answer

  abbrev its : Bases
  its = bases W E Outer z objects (g ∷ fs)

  -- the variables with one more of them stored
  stored_there : (n x : ℕ) (t : Ty) (w : Value) (c1 : Contents) (later : ℕ → Bool) → ((m : ℕ) → IsTrue (later m) → IsTrue (a.live m) ⊎ (n ∷ [] ≡ m ∷ [])) → sc.in_registers ≡ true → x ≡ 20 + n → n < 8 → slice_get (types_of sc.env.locals) n ≡ Some t → IsTrue (is_scalar t) → words_before (shapes z.p.unit) (types_of sc.env.locals) n ≡ n → c1.regs x ≡ word_of_scalar sc its w
      → ((y : ℕ) → 20 ≤ y → y ≢ x → c1.regs y ≡ c.regs y) → VariablesHeld W E Outer z objects later c1.regs c1.memory a.function (record { function = g.function; variables = value.value_with g.variables (n ∷ []) w } ∷ fs)
  stored_there n x t w c1 later grows form at lt there scalar before here_is others_are = by_form sc.in_registers form r.variables
    where
      by_form : (b : Bool) → b ≡ true → LocalsHeld sc its a.live (if b then c.regs else c.memory) (if b then 20 else (end_of W E Outer z (g ∷ fs) - words_of_frame (shapes z.p.unit) a.function) + 3) (types_of sc.env.locals) g.variables
          → LocalsHeld sc its later (if b then c1.regs else c1.memory) (if b then 20 else (end_of W E Outer z (g ∷ fs) - words_of_frame (shapes z.p.unit) a.function) + 3) (types_of sc.env.locals) (value.value_with g.variables (n ∷ []) w)
      by_form false q h = absurd (cc)
      by_form true q h =
          let place : 20 + words_to_part (shapes z.p.unit) (types_of sc.env.locals) (n ∷ []) ≡ x = omega (arith, before, at) in
          let m : ℕ → ℕ = put c.regs x (word_of_scalar sc its w) in
          let one = held.stored_local sc its a.live later c.regs (put c.regs x (word_of_scalar sc its w)) 20 (types_of sc.env.locals) (n ∷ []) t g.variables w refl (t, there, refl) scalar h
          (ap (put c.regs x (word_of_scalar sc its w)) place ∙ same_at x) (λ y ne. other_at x y (λ e. ne (e ∙ sym place))) grows in
          held.same_locals sc its later (put c.regs x (word_of_scalar sc its w)) c1.regs 20 (types_of sc.env.locals) (value.value_with g.variables (n ∷ []) w) refl
          (λ y le l. elim (cases_eq y x) [
            | inl e ↦ ap c1.regs e ∙ here_is ∙ sym (ap (put c.regs x (word_of_scalar sc its w)) e ∙ same_at x)
            | inr ne ↦ others_are y le ne ∙ sym (other_at x y ne)
          ]) one
        where
          same_at : (x : ℕ) → put c.regs x (word_of_scalar sc its w) x ≡ word_of_scalar sc its w
          same_at x = put_same c.regs x (word_of_scalar sc its w)

          other_at : (x y : ℕ) → y ≢ x → put c.regs x (word_of_scalar sc its w) y ≡ c.regs y
          other_at x y ne = put_other c.regs x (word_of_scalar sc its w) y ne

  -- where a variable stands among the registers
  pub record Place (n x : ℕ) : Type 0 where
    pub at : x ≡ 20 + n
    pub few : n < 8
    pub before : words_before (shapes z.p.unit) (variable_types a.function) n ≡ n

  pub its_place : (p : CExpr) (t : Ty) (x : ℕ) → (y : IsVariable (body_env (code_text W E Outer z) a.function) sc p x t) → Place y.name.number x
  its_place p t x y =
      let types : List Ty = variable_types a.function in
      let light = (and_parts (is_leaf a.function.body) (nat_le (length (variable_types a.function)) 8 && list_all is_scalar (variable_types a.function)) y.form).1 in
      let parts = and_parts (nat_le (length (variable_types a.function)) 8) (list_all is_scalar (variable_types a.function)) light in
      let count = leb-true (length (variable_types a.function)) 8 parts.0 in
      let before = scalars_before (shapes z.p.unit) (variable_types a.function) y.name.number t (each_scalar (variable_types a.function) parts.1) y.there in
      let b1 = before.1 in
      let reg_is = y.register in
      record { at = omega (arith, b1, count, reg_is); few = omega (arith, b1, count); before = before.0 }

  -- the variable is that of the place's number
  numbers : (p : CExpr) (t : Ty) (x : ℕ) → (y : IsVariable (body_env (code_text W E Outer z) a.function) sc p x t) → (m : ℕ) → IsTrue (is_variable p m) → y.name.number ∷ [] ≡ m ∷ []
  numbers p t x y m v = let q : IsTrue (is_variable (var y.name) m) = subst (λ e. IsTrue (is_variable e m)) y.is v in ap (λ i. i ∷ []) (eqb-true y.name.number m (and_parts (is_in_frame y.name.kind) (nat_eq y.name.number m) q).1)

  both_forms : (b : Bool) → b ≡ true → b ≡ false → ⊥
  both_forms true e q = absurd (cc)
  both_forms false e q = absurd (cc)

  -- a value has come to the register of its variable, and all else is as it was
  pub record Moved (x : ℕ) (w : Value) (c1 : Contents) : Type 0 where
    pub is : c1.regs x ≡ word_of_scalar sc its w
    pub above : (q : ℕ) → 20 ≤ q → q ≢ x → c1.regs q ≡ c.regs q
    pub memory : c1.memory ≡ c.memory
    pub special : c1.special ≡ c.special

  pub stores_light : (p : CExpr) (t : Ty) (x : ℕ) (w : Value) (l n k1 : ℕ) (cost : Cost) (s : CodeState) (c1 : Contents) (first known : Facts) → SureHold first g.variables → ((v : Value) → SureHold (stored_facts (typed_of_expr sc.env p) first) v → SureHold known v) → IsVariable (body_env (code_text W E Outer z) a.function) sc p x t → IsTrue (is_scalar t) → Fits (shapes z.p.unit) (store_typing z.p.unit objects) t w → Moved x w c1
      → Path runs compose W E Outer z jumps l n s (at_with k1 c1 d) → cost.own + 1 ≤ 2048 * l → n ≤ 30 * (cost.own + 1) → Block (code_text W E Outer z) a.function known k1 debt rest (λ fs to left. Goes (code_text W E Outer z) a others work fs to left)
      → AreLiveAtPlace a.live others p rest work → GoesOn W E Outer z debt here s (store cost p w rest work here)
  stores_light p t x w l n k1 cost s c1 first known sure becomes y scalar fits moved path low high block live =
      let place = its_place p t x y in
      let at = place.at in
      let few = place.few in
      let high_regs : (q : ℕ) → 28 ≤ q → c1.regs q ≡ c.regs q = λ q le. moved.above q (omega (arith, le)) (λ e. absurd (omega (arith, e, le, at, few))) in
      let s1 = stands_soft runs compose W E Outer z jumps objects here c c1 d moved.memory moved.special (high_regs 28 (omega arith)) (high_regs 30 (omega arith)) st in
      let st2 : ConfigurationStands W E Outer z objects (with_state here (write here.state (record { region = locals; path = y.name.number ∷ [] }) w)) c1 d = record {
        typed = typing.written objects (state_of gv hv hw (g ∷ fs)) g fs a.function (record { region = locals; path = y.name.number ∷ [] }) t w refl r.is st.typed (t, y.there, refl) fits;
        declared = st.declared;
        used = st.used;
        room = st.room;
        stack_room = st.stack_room;
        globals = s1.globals;
        heap = s1.heap;
        used_word = s1.used_word;
        heap_size = s1.heap_size;
        heap_first = s1.heap_first;
        stack_first = s1.stack_first;
        stack_limit = s1.stack_limit;
        globals_at = s1.globals_at;
        stack_end = s1.stack_end;
        outer = s1.outer;
        idle = st.idle;
      } in
      let ex = its_exprs runs compose W E Outer z jumps straight held typing exprs objects gv hv hw g fs world calls answer c d a others st r waits in
      let nothing : sc.in_registers ≡ false → ⊥ = λ e. both_forms sc.in_registers y.form e in
      let found : place_of p here.state ≡ costs 1 (Ok (record { region = locals; path = y.name.number ∷ [] })) = ap (λ e. place_of e here.state) y.is ∙ ap (λ k. paying 1 (at_no_cost (variable_location k y.name.number))) y.kind in
      let after = ex.after_place first p 1 (record { region = locals; path = y.name.number ∷ [] }) c1 found (record { registers = λ e. absurd (nothing e); sure = sure }) in
      let left = left_at_place sc.env p here.state 1 (record { region = locals; path = y.name.number ∷ [] }) (facts_followed (typed_of_expr sc.env p) first) (λ e. ap is_frame_place y.is ∙ ap is_in_frame y.kind) found in
      let written = ex.written (facts_followed (typed_of_expr sc.env p) first) (record { region = locals; path = y.name.number ∷ [] }) t w (t, y.there, refl) after.sure in
      let under : UnderWay W E Outer z objects c1 (knowing (with_live a (later a.live p)) known ∷ others) (write here.state (record { region = locals; path = y.name.number ∷ [] }) w).frames = (
        record {
          is = r.is;
          return_at = ap₂ (λ m q. if calls_in a.function.body then m else q) (ap (λ m. m (end_of W E Outer z fs)) moved.memory) (high_regs 31 (omega arith)) ∙ r.return_at;
          frame_at = high_regs 29 (omega arith) ∙ r.frame_at;
          variables = stored_there y.name.number x t w c1 (later a.live p) (λ m v. grown_at (is_variable p m) (a.live m) v (λ q. numbers p t x y m q)) y.form at few y.there scalar place.before moved.is moved.above;
          registers = λ e. absurd (nothing e);
          sure = becomes (value.value_with g.variables (y.name.number ∷ []) w) (λ m v. written m (left.sure m v));
        },
        subst (λ m. Waiting W E Outer z objects m others fs) (sym moved.memory) waits,
      ) in
      let go = arrives runs compose W E Outer z jumps l n debt debt (plus cost (units 1)) here (with_state here (write here.state (record { region = locals; path = y.name.number ∷ [] }) w)) s k1 c1 d objects (knowing (with_live a (later a.live p)) known) others rest work path (omega (arith, low)) (omega (arith, high)) (omega arith) st2 under (block_with (code_text W E Outer z) a others (later a.live p) known k1 debt rest work block)
      ((λ m v. live_later a.live p m (behind_place (reads_to_find p m) (is_variable p m) _ v) (live.0 m)), live.1) in
      subst (λ e. GoesOn W E Outer z debt here s (store cost e w rest work here)) (sym y.is)
      (subst (λ kd. GoesOn W E Outer z debt here s (then_go cost here (paying 1 (at_no_cost (variable_location kd y.name.number))) (λ cost l. Go cost (push rest work) (with_state here (write here.state l w))))) (sym y.kind) go)

  pub assigns_light : (p v : CExpr) (t : Ty) (x : ℕ) → IsVariable (body_env (code_text W E Outer z) a.function) sc p x t → IsNumberedLeft (body_env (code_text W E Outer z) a.function) p t → IsNumberedGiven (body_env (code_text W E Outer z) a.function) v t → assign_need p v ≤ MAX_NEED
      → nodes p + nodes v + 1 ≤ 2000 → (made sc a.facts p).register ≡ Some x → CodeAt z.w k (assign_code sc a.facts p v)
      → Block (code_text W E Outer z) a.function (stored_facts (typed_of_expr sc.env p) (facts_followed (typed_of_expr sc.env v) a.facts)) (k + length (assign_code sc a.facts p v)) debt rest (λ fs to left. Goes (code_text W E Outer z) a others work fs to left)
      → AreLiveBefore a.live others (λ n b. reads v n || live_at_place p n b) rest work → GoesOn W E Outer z debt here (at_with k c d) (then_go (units 1) here (value_of v here.state) (λ cost w. store cost p w rest work here))
  assigns_light p v t x y left given deep few stands code block live =
      let at = (its_place p t x y).at in
      let ex = its_exprs runs compose W E Outer z jumps straight held typing exprs objects gv hv hw g fs world calls answer c d a others st r waits in
      let facts = its_facts W E Outer z objects gv hv hw g fs c a r in
      let rd = its_ready runs compose W E Outer z jumps straight held typing exprs objects gv hv hw g fs world calls answer c d a others st r waits a.facts facts in
      let same : assign_code sc a.facts p v ≡ value_code sc a.facts v x 8 = ap (λ o. assigned_code o (made sc a.facts p) (made sc a.facts v)) stands in
      let some = (fit a.function).value_some y.form a.facts v x 8 in
      let run = ex.value a.facts v t given left.scalar (omega (arith, few)) (λ m q. live.0 m (or_left (reads v m) _ q)) x 8 k c d st.idle rd (subst (CodeAt z.w k) same code) (omega arith) (omega (arith, deep)) (λ q. absurd (omega (arith, q, at))) (λ q. absurd (omega (arith, q, at))) in
      let k1 : ℕ = k + length (value_code sc a.facts v x 8) in
      let len : k + length (assign_code sc a.facts p v) ≡ k1 = ap (λ is. k + length is) same in
      then_splits runs compose W E Outer z jumps 0 0 0 debt 1 (nodes v) (units 1) here here (at_with k c d) a.function k (λ w. k1) c d objects (Answered (HoldsValue sc its x 8 x t c) (value_of v here.state)) (value_of v here.state) (λ cost w. store cost p w rest work here)
      (λ w q. absurd (omega (arith, q, some))) (none runs z.w (at_with k c d)) (omega arith) (omega arith) st (value_within v here.state) (comes_splits z.w sc 0 k k1 c d (Answered (HoldsValue sc its x 8 x t c) (value_of v here.state)) (value_of v here.state) (answered z.w sc 0 k k1 c d (HoldsValue sc its x 8 x t c) (value_of v here.state) run))
      (λ u w c1 least most given_so path.
      let gives = given_so.holds in
      let keeps = gives.keeps in
      let after = ex.after_value a.facts v given_so.units w c given_so.is facts in
      stores_light p t x w (0 + 1) (0 + (0 + 16 * u)) k1 (plus (units 1) (units u)) (at_with k c d) c1 (facts_followed (typed_of_expr sc.env v) a.facts) (stored_facts (typed_of_expr sc.env p) (facts_followed (typed_of_expr sc.env v) a.facts)) after.sure (λ b h. h) y left.scalar gives.fits
      (record { is = sym (read_is c1.regs x (λ q. absurd (omega (arith, q, at)))) ∙ gives.is; above = λ q le ne. keeps.above q ne le; memory = keeps.memory; special = keeps.special })
      path (omega (arith, most, few)) (omega arith) (subst (λ q. Block (code_text W E Outer z) a.function (stored_facts (typed_of_expr sc.env p) (facts_followed (typed_of_expr sc.env v) a.facts)) q debt rest (λ fs to left. Goes (code_text W E Outer z) a others work fs to left)) len block) ((λ m q. live.0 m (or_right (reads v m) _ q)), live.1))
