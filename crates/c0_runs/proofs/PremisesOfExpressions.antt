-- What the crates below say of expressions, as the proofs here take it.
use Rattle.std.specs.Prelude.{map, slice_get, Some}
use Rattle.std.specs.List.{All}
use Rattle.std.proofs.lemmas.List.Elements.{All-head}
use Rattle.std.proofs.Common.{◌≡◌, ◌≤◌, List, ◌∷◌, refl, sym, ◌∙◌, subst, arith}
use Rattle.mips_table.specs.Code.{Contents, Behind}
use Rattle.c0_tree.specs.Tree.{CFunction}
use Rattle.c0_meaning.specs.Ty.{Ty}
use Rattle.c0_meaning.specs.Ty as ty
use Rattle.c0_meaning.specs.Env.{typed_of}
use Rattle.c0_meaning.specs.Sound.{shapes}
use Rattle.c0_meaning.specs.State.{Frame, C0State, stack_words, variables_of}
use Rattle.c0_meaning.specs.TypedState.{AreParts, variable_types, IsTypedFrame, store_typing, IsTypedWith, AreDeclared}
use Rattle.c0_expr_runs.specs.Bases.{types_in, words_of_all}
use Rattle.c0_expr_runs.specs.Relation.{StateIsTyped, Area}
use Rattle.c0_expr_runs.specs.Laws as below
use Rattle.c0_expr_runs.specs.FactLaws.{FactsGrow, FactsStay}
use Rattle.c0_expr_code.specs.Facts.{facts_followed, facts_told}
use Rattle.c0_typed.specs.Typed.{typed_of_expr}
use Rattle.c0_runs.specs.Setup.{Setup}
use Rattle.c0_runs.specs.Ahead.{body_env}
use Rattle.c0_runs.specs.Standing.{code_text, scope, bases}
use Rattle.c0_runs.proofs.RegionsApart.{frame_on, words_by_types}
use Rattle.c0_runs.proofs.FunctionsUnderWay.{Exprs}
use Rattle.c0_runs.proofs.FactsKept.{same_registers}
use Rattle.c0_expr_code.specs.Laws.{NamesAreEnough, HaveSameNames}
use Rattle.c0_stmt_code.proofs.PremisesOfFunctions.{given_in}

module _ (places_run : below.PlacesRun) (given_run : below.GivenRun) (tests_run : below.TestsRun) (names : NamesAreEnough) (areas : below.AreasHold) (grow : FactsGrow) (stay : FactsStay) (W E : Type 0) (Outer : W → Contents → Behind → Type 0) (z : Setup W E Outer) where
  -- globals, heap and frame stand one behind the other
  apart : (objects : List Ty) (g : Frame) (fs : List Frame) (f : CFunction) → slice_get z.p.unit.functions g.function ≡ Some f → words_of_all (shapes z.p.unit) objects ≤ z.p.heap → below.RegionsApart (scope W E Outer z f) (bases W E Outer z objects (g ∷ fs))
  apart objects g fs f is room =
      let on = frame_on z.p.unit g fs f is in
      let gf = z.globals_fit in
      let hf = z.heap_fits in
      let wt = words_by_types (shapes z.p.unit) (map typed_of z.p.unit.globals) in
      record { heap_behind = omega (arith, gf, wt); frame_behind = omega (arith, hf, room, on) }

  pub area : (objects : List Ty) (g : Frame) (fs : List Frame) (f : CFunction) → slice_get z.p.unit.functions g.function ≡ Some f → AreDeclared (shapes z.p.unit) objects → words_of_all (shapes z.p.unit) objects ≤ z.p.heap → stack_words z.p.unit (g ∷ fs) ≤ z.p.stack
      → Area z.w (scope W E Outer z f) (bases W E Outer z objects (g ∷ fs))
  area objects g fs f is declared room stack =
      let on = frame_on z.p.unit g fs f is in
      let hf = z.heap_fits in
      let sf = z.stack_fits in
      let lo = z.low in
      areas z.table z.p.unit z.well_formed f g.function is z.addresses z.w (bases W E Outer z objects (g ∷ fs))
      (record { from = omega (arith, lo); heap = omega (arith, room, hf, sf); frame = omega (arith, stack, sf); inside = omega (arith, on) })
      (apart objects g fs f is room) declared

  is_typed : (objects : List Ty) (s : C0State) (frames : List Frame) (g : Frame) (fs : List Frame) (f : CFunction) → s.frames ≡ frames → frames ≡ g ∷ fs → slice_get z.p.unit.functions g.function ≡ Some f → IsTypedWith z.p.unit objects s → StateIsTyped (scope W E Outer z f) (bases W E Outer z objects (g ∷ fs)) s
  is_typed objects s frames g fs f e q is typed =
      let all = subst (All (IsTypedFrame z.p.unit (store_typing z.p.unit objects))) (e ∙ q) typed.frames in
      let top = All-head (IsTypedFrame z.p.unit (store_typing z.p.unit objects)) g fs all in
      let same = some_same (sym top.is ∙ is) in
      record {
        global_values = typed.global_values;
        heap_values = typed.heap_values;
        local_values = subst (λ y. AreParts (shapes z.p.unit) (store_typing z.p.unit objects) (variable_types f) (variables_of y)) (sym (e ∙ q)) (subst (λ h. AreParts (shapes z.p.unit) (store_typing z.p.unit objects) (variable_types h) g.variables) same top.variables);
      }
    where
      some_same : {x y : CFunction} → Some x ≡ Some y → x ≡ y
      some_same q = cc

  pub exprs : Exprs W E Outer z
  exprs objects s g fs f live e is typed declared room stack =
      let ar = area objects g fs f is declared room stack in
      let sn = is_typed objects s (g ∷ fs) g fs f e refl is typed in
      let same : HaveSameNames (body_env (code_text W E Outer z) f) (scope W E Outer z f).env = record { structs = refl; globals = refl; locals = refl } in
      record {
        value = λ known x t given scalar few cover. (given_run z.w (scope W E Outer z f) (bases W E Outer z objects (g ∷ fs)) live known s z.sound ar sn x t (given_in names (body_env (code_text W E Outer z) f) (scope W E Outer z f).env same x t given) few cover).value scalar;
        operand = λ known x t given scalar few cover. (given_run z.w (scope W E Outer z f) (bases W E Outer z objects (g ∷ fs)) live known s z.sound ar sn x t (given_in names (body_env (code_text W E Outer z) f) (scope W E Outer z f).env same x t given) few cover).operand scalar;
        place = λ known x t left few stands cover. places_run z.w (scope W E Outer z f) (bases W E Outer z objects (g ∷ fs)) live known s z.sound ar sn x t (names (body_env (code_text W E Outer z) f) (scope W E Outer z f).env same x t left.typed) few cover left.place stands;
        test = λ known x given few cover. tests_run z.w (scope W E Outer z f) (bases W E Outer z objects (g ∷ fs)) live known s z.sound ar sn x (given_in names (body_env (code_text W E Outer z) f) (scope W E Outer z f).env same x ty.bool given) few cover;
        after_value = λ known x k v c is h. same_registers (scope W E Outer z f) (bases W E Outer z objects (g ∷ fs)) known (facts_followed (typed_of_expr (scope W E Outer z f).env x) known) s c (grow.same_followed (typed_of_expr (scope W E Outer z f).env x) known) (grow.value (scope W E Outer z f).env known x s k v is h.sure) h;
        after_place = λ known x k l c is h. same_registers (scope W E Outer z f) (bases W E Outer z objects (g ∷ fs)) known (facts_followed (typed_of_expr (scope W E Outer z f).env x) known) s c (grow.same_followed (typed_of_expr (scope W E Outer z f).env x) known) (grow.place (scope W E Outer z f).env known x s k l is h.sure) h;
        after_test = λ known x k b c given is h. same_registers (scope W E Outer z f) (bases W E Outer z objects (g ∷ fs)) known (facts_told (typed_of_expr (scope W E Outer z f).env x) b known) s c (grow.same_told (typed_of_expr (scope W E Outer z f).env x) b known)
            (grow.test (scope W E Outer z f) (bases W E Outer z objects (g ∷ fs)) known x s k b sn (given_in names (body_env (code_text W E Outer z) f) (scope W E Outer z f).env same x ty.bool given) is h.sure) h;
        kept = λ known here a b r d le keeps free h. stay.kept (scope W E Outer z f) (bases W E Outer z objects (g ∷ fs)) known here a b r d le keeps free h;
        stored = λ known c l t x v leads scalar h. stay.in_memory z.w (scope W E Outer z f) (bases W E Outer z objects (g ∷ fs)) known s c ar (apart objects g fs f is room) h l t x v leads scalar;
        written = λ known l t x leads sure. stay.written known s l x (scope W E Outer z f).env.structs (types_in (scope W E Outer z f) (bases W E Outer z objects (g ∷ fs)) l.region) t leads sure;
      }
