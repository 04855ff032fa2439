-- An answer goes to a variable that stands in a register.
use Rattle.std.specs.Prelude.{map, Some, Option}
use Rattle.std.proofs.Common.{◌≡◌, ◌≢◌, ℕ, ◌+◌, ◌*◌, ◌^◌, ◌<◌, true, false, List, [], ◌∷◌, length, refl, sym, ap, ◌∙◌, subst, arith}
use Rattle.std.proofs.lemmas.Int.{ints}
use Rattle.mips_table.specs.declared.inst.Inst.TheVariants.{Addu}
use Rattle.mips_table.specs.Arith.{sum}
use Rattle.mips_table.specs.Code.{Contents, reg, with_reg, Behind, at_with, RunLaws, CodeAt}
use Rattle.masm.specs.Says.{Gives}
use Rattle.masm.specs.Laws.{RunsCompose, JumpsLead, StraightRuns}
use Rattle.c0_tree.specs.Tree.{CExpr, CStmts, CFunction}
use Rattle.c0_meaning.specs.Ty.{Ty, named}
use Rattle.c0_meaning.specs.Ty as ty
use Rattle.c0_meaning.specs.Env.{typed_of}
use Rattle.c0_meaning.specs.Words.{shape_fields, words}
use Rattle.c0_meaning.specs.Sound.{shapes}
use Rattle.c0_meaning.specs.Value.{Region, globals, heap, locals, Value, int, bool, null, at, group}
use Rattle.c0_meaning.specs.State.{Frame}
use Rattle.c0_meaning.specs.World.{units, Configuration}
use Rattle.c0_meaning.specs.Running.{Work, store}
use Rattle.c0_meaning.specs.TypedState.{types_of, PointsTo, Fits, store_typing}
use Rattle.c0_expr_code.specs.Scope.{Scope}
use Rattle.c0_expr_code.specs.Code.{made}
use Rattle.c0_expr_runs.specs.Bases.{words_of_all, location_word}
use Rattle.c0_stmt_code.specs.Code.{answer_code, stored_code}
use Rattle.c0_runs.specs.Setup.{Setup}
use Rattle.c0_runs.specs.Ahead.{Activation, body_env, AnswerStands, Block}
use Rattle.c0_typed.specs.Typed.{typed_of_expr}
use Rattle.c0_stmt_code.specs.Behind.{stored_facts}
use Rattle.c0_runs.proofs.FactsKept.{answer_sure}
use Rattle.c0_runs.proofs.WorkAsCode.{Goes}
use Rattle.c0_runs.specs.Standing.{code_text, scope, bases, end_of, unit_scope, word_of_value, Waiting, FunctionRuns, ConfigurationStands}
use Rattle.c0_runs.proofs.PremisesFromBelow.{HeldStays, TypedStays}
use Rattle.c0_stmt_code.proofs.PremisesOfFunctions.{LengthsFit}
use Rattle.c0_runs.proofs.PremisesOfLowerCrates.{room_from}
use Rattle.c0_runs.proofs.ValuesStay.{word_same}
use Rattle.c0_runs.proofs.RunStretches.{away}
use Rattle.c0_runs.proofs.RegionsApart.{words_by_types}
use Rattle.c0_runs.proofs.MemoryAccess.{same_reg, other_reg}
use Rattle.c0_runs.proofs.FunctionsUnderWay.{rest_of, standing_at, Exprs}
use Rattle.c0_runs.proofs.RegisterAssigned.{IsVariable, its_place, stores_light}
use Rattle.c0_runs.proofs.LiveAroundSteps.{AreLiveAtPlace}
use Rattle.c0_runs.proofs.StepSimulation.{GoesOn}

module _ (runs : RunLaws) (compose : RunsCompose) (W E : Type 0) (Outer : W → Contents → Behind → Type 0) (z : Setup W E Outer) (jumps : JumpsLead z.w) (straight : StraightRuns z.w)
    (held : HeldStays (shapes z.p.unit)) (typing : TypedStays z.p.unit) (exprs : Exprs W E Outer z) (fit : (f : CFunction) → LengthsFit (scope W E Outer z f))
    (opened : (x : List ℕ) → words (shapes z.p.unit) (named x) ≡ words_of_all (shapes z.p.unit) (types_of (shape_fields (shapes z.p.unit) x)))
    (objects : List Ty) (gv hv : Value) (hw : ℕ) (g : Frame) (fs : List Frame) (world : W) (calls : List (List E)) (answer : Option Value) (c : Contents) (d : Behind) (a : Activation) (others : List Activation)
    (st : ConfigurationStands W E Outer z objects (standing_at gv hv hw (g ∷ fs) world calls answer) c d) (r : FunctionRuns W E Outer z objects c a g fs) (waits : Waiting W E Outer z objects c.memory others fs)
    (k debt : ℕ) (rest : CStmts) (work : List Work) where
  abbrev sc : Scope
  sc = scope W E Outer z a.function

  abbrev here : Configuration W E
  here = standing_at gv hv hw (g ∷ fs) world calls answer

  -- what a pointer leads to lies in memory
  pointed : (region : Region) (path : List ℕ) (t : Ty) → PointsTo (shapes z.p.unit) (store_typing z.p.unit objects) region path t → 4 * location_word (unit_scope z.p.unit) (bases W E Outer z objects []) (record { region = region; path = path }) < 2 ^ 32
  pointed globals path t l =
      let room = room_from (shapes z.p.unit) opened (types_of (map typed_of z.p.unit.globals)) path t l in
      let w = words_by_types (shapes z.p.unit) (map typed_of z.p.unit.globals) in
      let gf = z.globals_fit in
      let hf = z.heap_fits in
      let sf = z.stack_fits in
      let small = z.sound.small in
      omega (arith, room, w, gf, hf, sf, small)
  pointed heap path t l =
      let room = room_from (shapes z.p.unit) opened objects path t l in
      let u = st.used in
      let o = st.room in
      let hf = z.heap_fits in
      let sf = z.stack_fits in
      let small = z.sound.small in
      omega (arith, room, u, o, hf, sf, small)
  pointed locals path t l = absurd l

  -- a value's word is one
  is_word : (t : Ty) (v : Value) → Fits (shapes z.p.unit) (store_typing z.p.unit objects) t v → word_of_value W E Outer z objects v < 2 ^ 32
  is_word ty.int (int i) f = omega (arith, ints)
  is_word ty.bool (bool true) f = omega arith
  is_word ty.bool (bool false) f = omega arith
  is_word (ty.pointer t) null f = omega arith
  is_word (ty.pointer t) (at l) f = pointed l.region l.path t f
  is_word (ty.named x) (group vs) f = omega arith
  is_word (ty.array t n) (group vs) f = omega arith
  is_word _ _ f = absurd f

  pub finishes_light : (place : CExpr) (v : Value) (t : Ty) (x : ℕ) → Fits (shapes z.p.unit) (store_typing z.p.unit objects) t v → c.regs 2 ≡ word_of_value W E Outer z objects v → IsVariable (body_env (code_text W E Outer z) a.function) sc place x t → (h : AnswerStands (code_text W E Outer z) a.function a.facts k place t) → (made sc h.before place).register ≡ Some x
      → Block (code_text W E Outer z) a.function h.after (k + length (answer_code sc h.before place)) debt rest (λ fs to left. Goes (code_text W E Outer z) a others work fs to left)
      → AreLiveAtPlace a.live others place rest work → GoesOn W E Outer z debt here (at_with k c d) (store (units 0) place v rest work here)
  finishes_light place v t x fits is y h stands block live =
      let at = (its_place runs compose W E Outer z jumps straight held typing exprs fit objects gv hv hw g fs world calls answer c d a others st r waits k debt rest work place t x y).at in
      let nz : x ≢ 0 = λ q. absurd (omega (arith, q, at)) in
      let same : answer_code sc h.before place ≡ Addu x 2 0 ∷ [] = ap (λ o. stored_code 2 8 o (made sc h.before place).place) stands in
      let there = subst (CodeAt z.w k) same h.code in
      let small = is_word t v fits in
      let value : sum (reg c.regs 2) (reg c.regs 0) ≡ c.regs 2 = omega (arith, is, small) in
      let c1 : Contents = with_reg c x (c.regs 2) in
      let one = straight.next (Addu x 2 0) (Gives (c.regs 2)) k c d there.0 refl st.idle value in
      let go = away runs z.w 1 (at_with k c d) (at_with (k + 1) (with_reg c x (c.regs 2)) d) (λ q. absurd (omega (arith, q))) one in
      let canonical = word_same (shapes z.p.unit) (map typed_of z.p.unit.globals) z.a.globals z.a.heap objects objects (λ path t h. refl) (rest_of (unit_scope z.p.unit)) (rest_of sc) (end_of W E Outer z []) (end_of W E Outer z (g ∷ fs)) t v fits in
      let len : k + length (answer_code sc h.before place) ≡ k + 1 = ap (λ is. k + length is) same in
      stores_light runs compose W E Outer z jumps straight held typing exprs fit objects gv hv hw g fs world calls answer c d a others st r waits k debt rest work place t x v 1 1 (k + 1) (units 0) (at_with k c d) (with_reg c x (c.regs 2)) a.facts h.after r.sure (λ b q n e. answer_sure sc.in_registers (typed_of_expr sc.env place) (stored_facts (typed_of_expr sc.env place) a.facts) b q n (h.later.sure n e)) y h.there.left.scalar fits
      (record { is = same_reg c.regs x (c.regs 2) nz ∙ is ∙ sym canonical; above = λ q le ne. other_reg c.regs x (c.regs 2) q ne; memory = refl; special = refl })
      go (omega arith) (omega arith) (subst (λ m. Block (code_text W E Outer z) a.function h.after m debt rest (λ fs to left. Goes (code_text W E Outer z) a others work fs to left)) len block) live
