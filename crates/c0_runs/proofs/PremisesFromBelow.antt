-- What the proofs of this crate take from the crates below, as premises.
use Rattle.std.proofs.Common.{◌≡◌, ◌≢◌, ◌⊎◌, ℕ, ◌+◌, ◌<◌, ◌≤◌, Bool, false, List, [], ◌∷◌, ◌++◌}
use Rattle.mips_table.specs.Code.{World, Contents}
use Rattle.c0_tree.specs.Size.{need, nodes}
use Rattle.c0_tree.specs.Tree.{CTy, CExpr, CStmts, code, CDecl, CFunction, CUnit}
use Rattle.c0_meaning.specs.Ty.{Ty, bool, is_scalar, ty_of}
use Rattle.c0_meaning.specs.Typed.{IsDeclarable}
use Rattle.c0_meaning.specs.Numbered.{is_frame_place, IsNumberedGiven, IsNumberedLeft}
use Rattle.c0_meaning.specs.Env.{Env, Shape, typed_of}
use Rattle.c0_meaning.specs.Value.{Region, globals, heap, locals, Location, Value, Values, group, followed_by, with_part, zero_of, zeros_of, value_with}
use Rattle.c0_meaning.specs.State.{Frame, C0State, write, pushed, variables_of}
use Rattle.c0_meaning.specs.Sound.{shapes}
use Rattle.c0_meaning.specs.Addresses.{words_to_part}
use Rattle.c0_meaning.specs.TypedState.{types_of, LeadsFrom, Fits, AllFit, variable_types, store_typing, IsTypedWith}
use Rattle.c0_meaning.specs.Evaluation.{costs, truth, value_of, place_of}
use Rattle.std.specs.Prelude.{None, Some, Ok, IsTrue, map, slice_get}
use Rattle.c0_typed.specs.Typed.{typed_of_expr}
use Rattle.c0_expr_code.specs.declared.facts.Facts.{Facts}
use Rattle.c0_expr_code.specs.Facts.{facts_followed, facts_told, stored_in, IsFreeRegister, SureHold}
use Rattle.c0_expr_runs.specs.Laws.{memory_with}
use Rattle.c0_expr_code.specs.Scope.{Scope}
use Rattle.c0_expr_code.specs.Code.{made}
use Rattle.c0_expr_runs.specs.Bases.{Bases, words_of_all, types_in, location_word, word_of_scalar, RegionHeld, LocalsHeld}
use Rattle.c0_expr_code.specs.Reads.{reads, reads_to_find, Covers}
use Rattle.c0_expr_runs.specs.Relation.{ValueRuns, OperandRuns, PlaceRuns, TestRuns, KeepsRegisters, FactsHold}

-- the code of a function's expressions does what they mean, in a state that stands in the machine, where the variables that they read are live
pub record ExpressionsDo (w : World) (env : Env) (sc : Scope) (p : Bases) (live : ℕ → Bool) (s : C0State) : Type 0 where
  pub value : (fs : Facts) (e : CExpr) (t : Ty) → IsNumberedGiven env e t → IsTrue (is_scalar t) → nodes e ≤ 2000 → Covers live (reads e) → ValueRuns w sc p live fs s (made sc fs e) (need e) t (value_of e s)
  pub operand : (fs : Facts) (e : CExpr) (t : Ty) → IsNumberedGiven env e t → IsTrue (is_scalar t) → nodes e ≤ 2000 → Covers live (reads e) → OperandRuns w sc p live fs s (made sc fs e) (need e) t (value_of e s)
  pub place : (fs : Facts) (e : CExpr) (t : Ty) → IsNumberedLeft env e t → nodes e ≤ 2000 → (made sc fs e).register ≡ None → Covers live (reads_to_find e) → PlaceRuns w sc p live fs s (made sc fs e) (need e) (is_frame_place e) t (place_of e s)
  pub test : (fs : Facts) (e : CExpr) → IsNumberedGiven env e bool → nodes e ≤ 2000 → Covers live (reads e) → TestRuns w sc p live fs s e
  -- what is known once they were evaluated
  pub after_value : (fs : Facts) (e : CExpr) (k : ℕ) (v : Value) (c : Contents) → value_of e s ≡ costs k (Ok v) → FactsHold sc p fs s c → FactsHold sc p (facts_followed (typed_of_expr sc.env e) fs) s c
  pub after_place : (fs : Facts) (e : CExpr) (k : ℕ) (l : Location) (c : Contents) → place_of e s ≡ costs k (Ok l) → FactsHold sc p fs s c → FactsHold sc p (facts_followed (typed_of_expr sc.env e) fs) s c
  pub after_test : (fs : Facts) (e : CExpr) (k : ℕ) (b : Bool) (c : Contents) → IsNumberedGiven env e bool → truth (value_of e s) ≡ costs k (Ok b) → FactsHold sc p fs s c → FactsHold sc p (facts_told (typed_of_expr sc.env e) b fs) s c
  -- what is known holds on, and where a scalar is stored
  pub kept : (fs : Facts) (here : C0State) (a b : Contents) (r d : ℕ) → 8 ≤ r → KeepsRegisters r d a b → (sc.in_registers ≡ false → IsFreeRegister fs d) → FactsHold sc p fs here a → FactsHold sc p fs here b
  pub stored : (fs : Facts) (c : Contents) (l : Location) (t : Ty) (x : Value) (v : ℕ) → LeadsFrom sc.env.structs (types_in sc p l.region) l.path t → IsTrue (is_scalar t)
      → FactsHold sc p fs s c → FactsHold sc p (stored_in l.region l.path fs) (write s l x) (memory_with c (location_word sc p l) v)
  pub written : (fs : Facts) (l : Location) (t : Ty) (x : Value) → LeadsFrom sc.env.structs (types_in sc p l.region) l.path t → SureHold fs (variables_of s.frames) → SureHold (stored_in l.region l.path fs) (variables_of (write s l x).frames)

-- what stands in words stays while these stay, and a scalar that is stored in its word stands there
pub record HeldStays (structs : List Shape) : Type 0 where
  pub same : (sc : Scope) (p : Bases) (m m' : ℕ → ℕ) (a : ℕ) (types : List Ty) (v : Value) → sc.env.structs ≡ structs → ((x : ℕ) → a ≤ x → x < a + words_of_all structs types → m' x ≡ m x) → RegionHeld sc p m a types v → RegionHeld sc p m' a types v
  pub stored : (sc : Scope) (p : Bases) (m m' : ℕ → ℕ) (a : ℕ) (types : List Ty) (path : List ℕ) (t : Ty) (v x : Value) → sc.env.structs ≡ structs → LeadsFrom structs types path t → IsTrue (is_scalar t) → RegionHeld sc p m a types v
      → m' (a + words_to_part structs types path) ≡ word_of_scalar sc p x → ((y : ℕ) → y ≢ a + words_to_part structs types path → m' y ≡ m y) → RegionHeld sc p m' a types (value_with v path x)
  pub same_locals : (sc : Scope) (p : Bases) (live : ℕ → Bool) (m m' : ℕ → ℕ) (a : ℕ) (types : List Ty) (v : Value) → sc.env.structs ≡ structs → ((x : ℕ) → a ≤ x → x < a + words_of_all structs types → m' x ≡ m x)
      → LocalsHeld sc p live m a types v → LocalsHeld sc p live m' a types v
  pub stored_local : (sc : Scope) (p : Bases) (live later : ℕ → Bool) (m m' : ℕ → ℕ) (a : ℕ) (types : List Ty) (path : List ℕ) (t : Ty) (v x : Value) → sc.env.structs ≡ structs → LeadsFrom structs types path t → IsTrue (is_scalar t)
      → LocalsHeld sc p live m a types v → m' (a + words_to_part structs types path) ≡ word_of_scalar sc p x → ((y : ℕ) → y ≢ a + words_to_part structs types path → m' y ≡ m y)
      → ((n : ℕ) → IsTrue (later n) → IsTrue (live n) ⊎ (path ≡ n ∷ [])) → LocalsHeld sc p later m' a types (value_with v path x)
  pub inside : (types : List Ty) (path : List ℕ) (t : Ty) → LeadsFrom structs types path t → IsTrue (is_scalar t) → words_to_part structs types path < words_of_all structs types

-- the types of a region's variables or objects, for a function
abbrev pub types_for : CUnit → List Ty → CFunction → Region → List Ty
types_for u objects f globals = types_of (map typed_of u.globals)
types_for u objects f heap = objects
types_for u objects f locals = variable_types f

-- a typed state stays typed where a value that fits is stored, where frames come and go, and where the heap has an object more; values at their start fit
pub record TypedStays (u : CUnit) : Type 0 where
  pub written : (objects : List Ty) (s : C0State) (g : Frame) (fs : List Frame) (f : CFunction) (l : Location) (t : Ty) (v : Value) → s.frames ≡ g ∷ fs → slice_get u.functions g.function ≡ Some f → IsTypedWith u objects s
      → LeadsFrom (shapes u) (types_for u objects f l.region) l.path t → Fits (shapes u) (store_typing u objects) t v → IsTypedWith u objects (write s l v)
  pub popped : (objects : List Ty) (s : C0State) (g : Frame) (fs : List Frame) → s.frames ≡ g ∷ fs → IsTypedWith u objects s → IsTypedWith u objects (record s { frames = fs })
  pub zeros : (objects : List Ty) (n : ℕ) (f : CFunction) (locals : List CDecl) (stmts : CStmts) (answer : CExpr) → slice_get u.functions n ≡ Some f → f.body ≡ code locals stmts answer
      → AllFit (shapes u) (store_typing u objects) (types_of (map typed_of locals)) (zeros_of (shapes u) (map typed_of locals))
  pub entered : (objects : List Ty) (s : C0State) (n : ℕ) (f : CFunction) (locals : List CDecl) (stmts : CStmts) (answer : CExpr) (args : Values) → slice_get u.functions n ≡ Some f → f.body ≡ code locals stmts answer → IsTypedWith u objects s
      → AllFit (shapes u) (store_typing u objects) (types_of (map typed_of f.params)) args → IsTypedWith u objects (pushed (record { function = n; variables = group (followed_by args (zeros_of (shapes u) (map typed_of locals))) }) s)
  pub zero : (objects : List Ty) (t : CTy) → IsDeclarable (shapes u) t → Fits (shapes u) (store_typing u objects) (ty_of t) (zero_of (shapes u) (ty_of t))
  pub grown : (objects : List Ty) (gv hv : Value) (hw n : ℕ) (frames : List Frame) (t : Ty) (v : Value) → IsTypedWith u objects (record { global_values = gv; heap_values = hv; heap_words = hw; frames = frames }) → Fits (shapes u) (store_typing u (objects ++ t ∷ [])) t v
      → IsTypedWith u (objects ++ t ∷ []) (record { global_values = gv; heap_values = with_part hv v; heap_words = hw + n; frames = frames })
