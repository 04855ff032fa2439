-- States in which each value has the shape of its type: from one of them a unit that is well formed is never stuck.
use Rattle.std.specs.Prelude.{◌≡◌, ℕ, ◌<◌, Bool, IsTrue, FitsSigned, List, [], ◌∷◌, ◌++◌, map, replicate, Some, slice_get}
use Rattle.std.specs.List.{All}
use Rattle.std.specs.Int.{w32}
use Rattle.c0_tree.specs.declared.primitive.Scalar.{Scalar}
use Rattle.c0_tree.specs.Primitives.{CPrimitive}
use Rattle.c0_tree.specs.Tree.{CTy, CFunction, CUnit}
use Rattle.c0_meaning.specs.Ty.{Ty, ty_of}
use Rattle.c0_meaning.specs.Ty as ty
use Rattle.c0_meaning.specs.Env.{Typed, Shape, typed_of, scalar_ty}
use Rattle.c0_meaning.specs.Words.{shape_fields}
use Rattle.c0_meaning.specs.Limits.{locals_of}
use Rattle.c0_meaning.specs.Sound.{shapes}
use Rattle.c0_meaning.specs.Typed.{IsDeclarable}
use Rattle.c0_meaning.specs.Value.{Region, globals, heap, locals, Value, int, bool, null, at, group, Values, empty, part}
use Rattle.c0_meaning.specs.State.{Frame, C0State}
use Rattle.c0_meaning.specs.World.{PrimitiveMeaning, Configuration}
use Rattle.c0_meaning.specs.Operators.{faulted, stuck}
use Rattle.c0_meaning.specs.Execution.{Outcome, Done, Failed, NotYet}

-- the types of the globals, and of the heap objects
pub record StoreTyping : Type 0 where
  pub globals : List Ty
  pub objects : List Ty

-- the types of declarations
abbrev pub types_of : List Typed → List Ty
types_of decls = map (λ d. d.ty) decls

-- a path leads from a type to that of a part
abbrev pub PathLeads : List Shape → Ty → List ℕ → Ty → Type 0
PathLeads structs t [] u = t ≡ u
PathLeads structs (ty.named x) (i ∷ path) u = (t : Ty) × (slice_get (types_of (shape_fields structs x)) i ≡ Some t) × PathLeads structs t path u
PathLeads structs (ty.array t n) (i ∷ path) u = (i < n) × PathLeads structs t path u
PathLeads structs _ (i ∷ path) u = ⊥

-- a path leads from parts of these types to a type
abbrev pub LeadsFrom : List Shape → List Ty → List ℕ → Ty → Type 0
LeadsFrom structs types [] u = ⊥
LeadsFrom structs types (i ∷ path) u = (t : Ty) × (slice_get types i ≡ Some t) × PathLeads structs t path u

-- a pointer to a part of a global or of a heap object, of a type
abbrev pub PointsTo : List Shape → StoreTyping → Region → List ℕ → Ty → Type 0
PointsTo structs layout globals path t = LeadsFrom structs layout.globals path t
PointsTo structs layout heap path t = LeadsFrom structs layout.objects path t
PointsTo structs layout locals path t = ⊥

-- a value has the shape of its type, and so have values: ints are in their range, and pointers lead to parts of their type
abbrev mutual
  pub Fits : List Shape → StoreTyping → Ty → Value → Type 0
  Fits structs layout ty.int (int z) = FitsSigned w32 z
  Fits structs layout ty.bool (bool b) = Unit {0}
  Fits structs layout (ty.pointer t) null = Unit {0}
  Fits structs layout (ty.pointer t) (at l) = PointsTo structs layout l.region l.path t
  Fits structs layout (ty.named x) (group vs) = AllFit structs layout (types_of (shape_fields structs x)) vs
  Fits structs layout (ty.array t n) (group vs) = AllFit structs layout (replicate n t) vs
  Fits structs layout _ _ = ⊥

  pub AllFit : List Shape → StoreTyping → List Ty → Values → Type 0
  AllFit structs layout [] empty = Unit {0}
  AllFit structs layout (t ∷ ts) (part v vs) = Fits structs layout t v × AllFit structs layout ts vs
  AllFit structs layout _ _ = ⊥

-- a region's value is a group whose parts have these types
abbrev pub AreParts : List Shape → StoreTyping → List Ty → Value → Type 0
AreParts structs layout types (group vs) = AllFit structs layout types vs
AreParts structs layout types _ = ⊥

-- the types of a function's parameters and locals
abbrev pub variable_types : CFunction → List Ty
variable_types f = types_of (map typed_of (f.params ++ locals_of f.body))

-- a frame is that of a function, whose variables have their types
pub record IsTypedFrame (u : CUnit) (layout : StoreTyping) (frame : Frame) : Type 0 where
  pub function : CFunction
  pub is : slice_get u.functions frame.function ≡ Some function
  pub variables : AreParts (shapes u) layout (variable_types function) frame.variables

-- the layout of a unit whose heap objects have these types
abbrev pub store_typing : CUnit → List Ty → StoreTyping
store_typing u objects = record { globals = types_of (map typed_of u.globals); objects = objects }

-- a state is typed, where its heap objects have these types
pub record IsTypedWith (u : CUnit) (objects : List Ty) (s : C0State) : Type 0 where
  pub global_values : AreParts (shapes u) (store_typing u objects) (types_of (map typed_of u.globals)) s.global_values
  pub heap_values : AreParts (shapes u) (store_typing u objects) objects s.heap_values
  pub frames : All (IsTypedFrame u (store_typing u objects)) s.frames

-- each of these types is one that may be declared
abbrev pub AreDeclared : List Shape → List Ty → Type 0
AreDeclared structs types = (i : ℕ) (t : Ty) → slice_get types i ≡ Some t → (c : CTy) × (ty_of c ≡ t) × IsDeclarable structs c

-- a state is typed: its heap objects have types that may be declared
abbrev pub IsTypedState : CUnit → C0State → Type 0
IsTypedState u s = (objects : List Ty) × IsTypedWith u objects s × AreDeclared (shapes u) objects

-- a value has a scalar type that isn't a pointer, and so have values
abbrev pub IsScalar : Scalar → Value → Type 0
IsScalar t v = Fits [] (record { globals = []; objects = [] }) (scalar_ty t) v

abbrev pub AreScalars : List Scalar → Values → Type 0
AreScalars ts vs = AllFit [] (record { globals = []; objects = [] }) (map scalar_ty ts) vs

-- the answers of primitives have the types of their table, over values of the world that pass a test, which stay so
pub record AnswersFit {W E : Type 0} (is_right : W → Bool) (table : List CPrimitive) (meaning : PrimitiveMeaning W E) : Type 0 where
  pub answer : (n : ℕ) (row : CPrimitive) (args : Values) (w : W) → slice_get table n ≡ Some row → AreScalars row.args args → IsTrue (is_right w)
      → IsScalar row.answer (meaning n args w).answer
  pub world : (n : ℕ) (row : CPrimitive) (args : Values) (w : W) → slice_get table n ≡ Some row → AreScalars row.args args → IsTrue (is_right w)
      → IsTrue (is_right (meaning n args w).world)

-- a run that is done has answered a value of a type, in a typed state
abbrev pub AnswersTyped : {W E : Type 0} → CUnit → Ty → Outcome W E → Type 0
AnswersTyped u t (Done used c) =
    (objects : List Ty) × IsTypedWith u objects c.state × ((v : Value) × (c.answer ≡ Some v) × Fits (shapes u) (store_typing u objects) t v)
AnswersTyped u t (Failed used f c) = Unit {0}
AnswersTyped u t (NotYet used c) = Unit {0}

-- a run that isn't stuck, and stands in a typed state and a right value of the world
abbrev pub IsSafeAt : {W E : Type 0} → (W → Bool) → CUnit → Configuration W E → Type 0
IsSafeAt is_right u c = IsTypedState u c.state × IsTrue (is_right c.world)

abbrev pub RunIsSafe : {W E : Type 0} → (W → Bool) → CUnit → Outcome W E → Type 0
RunIsSafe is_right u (Done used c) = IsSafeAt is_right u c
RunIsSafe is_right u (Failed used (faulted f) c) = IsSafeAt is_right u c
RunIsSafe is_right u (Failed used stuck c) = ⊥
RunIsSafe is_right u (NotYet used c) = IsSafeAt is_right u c
