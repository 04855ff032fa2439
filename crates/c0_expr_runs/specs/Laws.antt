-- The laws of runs of the code of expressions.
use Rattle.std.specs.Prelude.{◌≡◌, ◌≢◌, ℕ, ◌+◌, ◌-◌, ◌*◌, ◌%◌, ◌^◌, ◌<◌, ◌≤◌, Bool, true}
use Rattle.std.specs.Prelude.{false, List, [], ◌∷◌, ◌++◌, length, None, Some, slice_get, IsTrue, ◌⊎◌}
use Rattle.mips_table.specs.Code.{put, Contents, reg, with_reg, Behind, World, Sound, at_with, Reaches, CodeAt}
use Rattle.mips_table.specs.Device.{Idle}
use Rattle.masm.specs.declared.registers.TheConstants.{SCRATCH, ARGUMENTS}
use Rattle.c0_tree.specs.Primitives.{CPrimitive}
use Rattle.c0_tree.specs.Tree.{CExpr, CFunction, CUnit}
use Rattle.c0_tree.specs.Size.{need, nodes}
use Rattle.c0_meaning.specs.Ty.{Ty, bool, named, is_scalar}
use Rattle.c0_meaning.specs.Env.{Shape}
use Rattle.c0_meaning.specs.Words.{shape_fields, words}
use Rattle.c0_meaning.specs.Addresses.{words_to_part}
use Rattle.c0_meaning.specs.Value.{locals, Location, Value, value_with as put_value}
use Rattle.c0_meaning.specs.TypedState.{StoreTyping, types_of, LeadsFrom, Fits, AreParts, AreDeclared}
use Rattle.c0_meaning.specs.Evaluation.{value_of, place_of}
use Rattle.c0_meaning.specs.Expression.{is_lvalue}
use Rattle.c0_meaning.specs.Numbered.{is_frame_place, HasNumberedType, IsNumberedGiven}
use Rattle.c0_meaning.specs.State.{C0State, write}
use Rattle.c0_meaning.specs.Sound.{shapes}
use Rattle.c0_meaning.specs.Unit.{IsWellFormed}
use Rattle.masm.specs.declared.registers.CodeAddresses.{CodeAddresses}
use Rattle.c0_expr_code.specs.declared.facts.Facts.{Facts}
use Rattle.c0_expr_code.specs.Scope.{Scope, scope_of}
use Rattle.c0_expr_code.specs.Code.{AddressingMode, store_code, made}
use Rattle.c0_expr_code.specs.Reads.{reads, reads_to_find, Covers}
use Rattle.c0_expr_runs.specs.Bases.{words_of_all, Bases, types_in, location_word, word_of_scalar, RegionHeld, LocalsHeld}
use Rattle.c0_expr_runs.specs.Relation.{layout, StateIsTyped, Ready, KeepsRegisters, Area, Source, evaluation_units, PlaceRuns, Right, TestRuns}

-- the code of every typed expression whose variables are live comes to what it means: as a value, as an operand, and as a place; whatever is known
abbrev pub ExpressionsRun : Type 0
ExpressionsRun = (w : World) (sc : Scope) (p : Bases) (live : ℕ → Bool) (fs : Facts) (s : C0State) → Sound w → Area w sc p → StateIsTyped sc p s
    → (e : CExpr) (t : Ty) → HasNumberedType sc.env e t → nodes e ≤ 2000 → Covers live (reads e) → Right w sc p live fs s e t

-- so does the code of an expression that may stand where a type is asked, as `null` where a pointer is
abbrev pub GivenRun : Type 0
GivenRun = (w : World) (sc : Scope) (p : Bases) (live : ℕ → Bool) (fs : Facts) (s : C0State) → Sound w → Area w sc p → StateIsTyped sc p s
    → (e : CExpr) (t : Ty) → IsNumberedGiven sc.env e t → nodes e ≤ 2000 → Covers live (reads e) → Right w sc p live fs s e t

-- the code of a place that is no register finds it, where the variables are live that are read for it
abbrev pub PlacesRun : Type 0
PlacesRun = (w : World) (sc : Scope) (p : Bases) (live : ℕ → Bool) (fs : Facts) (s : C0State) → Sound w → Area w sc p → StateIsTyped sc p s
    → (e : CExpr) (t : Ty) → HasNumberedType sc.env e t → nodes e ≤ 2000 → Covers live (reads_to_find e) → is_lvalue e ≡ true → (made sc fs e).register ≡ None
    → PlaceRuns w sc p live fs s (made sc fs e) (need e) (is_frame_place e) t (place_of e s)

-- the code of every typed test goes where its answer says
abbrev pub TestsRun : Type 0
TestsRun = (w : World) (sc : Scope) (p : Bases) (live : ℕ → Bool) (fs : Facts) (s : C0State) → Sound w → Area w sc p → StateIsTyped sc p s
    → (e : CExpr) → IsNumberedGiven sc.env e bool → nodes e ≤ 2000 → Covers live (reads e) → TestRuns w sc p live fs s e

-- no evaluation costs more units than its expression has nodes
pub record CostsAreFew : Type 0 where
  pub value : (e : CExpr) (s : C0State) → evaluation_units (value_of e s) ≤ nodes e
  pub place : (e : CExpr) (s : C0State) → evaluation_units (place_of e s) ≤ nodes e

-- globals, heap and the frame stand one behind the other
pub record RegionsApart (sc : Scope) (p : Bases) : Type 0 where
  pub heap_behind : p.globals + words_of_all sc.env.structs (types_of sc.env.globals) ≤ p.heap
  pub frame_behind : p.heap + words_of_all sc.env.structs p.objects ≤ p.frame_end - sc.frame

-- the contents with a word of memory written
abbrev pub memory_with : Contents → ℕ → ℕ → Contents
memory_with c k v = record c { memory = put c.memory k v }

-- a layout with more objects
abbrev pub with_more : StoreTyping → List Ty → StoreTyping
with_more layout more = record { globals = layout.globals; objects = layout.objects ++ more }

-- Where a scalar's word is stored at a location, in memory or in a register, the state that has the scalar there stands in the machine;
-- and it is typed where the scalar fits.
pub record StoresHold : Type 0 where
  pub in_memory : (w : World) (sc : Scope) (p : Bases) (live : ℕ → Bool) (s : C0State) (c : Contents) → Area w sc p → RegionsApart sc p → Ready sc p live s c
      → (l : Location) (t : Ty) (x : Value) → LeadsFrom sc.env.structs (types_in sc p l.region) l.path t
      → (l.region ≡ locals → sc.in_registers ≡ false) → is_scalar t ≡ true
      → Ready sc p live (write s l x) (memory_with c (location_word sc p l) (word_of_scalar sc p x))
  pub in_register : (w : World) (sc : Scope) (p : Bases) (live : ℕ → Bool) (s : C0State) (c : Contents) → Area w sc p → Ready sc p live s c
      → (n : ℕ) (t : Ty) (x : Value) → sc.in_registers ≡ true → slice_get (types_of sc.env.locals) n ≡ Some t
      → Ready sc p live (write s (record { region = locals; path = n ∷ [] }) x) (with_reg c (ARGUMENTS + n) (word_of_scalar sc p x))
  pub typed : (sc : Scope) (p : Bases) (s : C0State) → StateIsTyped sc p s → (l : Location) (t : Ty) (x : Value)
      → LeadsFrom sc.env.structs (types_in sc p l.region) l.path t → Fits sc.env.structs (layout sc p) t x → StateIsTyped sc p (write s l x)

-- a struct's words are those of its fields
abbrev pub IsOpened : List Shape → Type 0
IsOpened structs = (x : List ℕ) → words structs (named x) ≡ words_of_all structs (types_of (shape_fields structs x))

-- What code keeps by registers and words it keeps of the state; a region stands where its words are the same; and where one word of a region
-- alone changes, the region with the scalar there. So do variables as far as they are live; one that gets a scalar as a whole is live from then on.
pub record HeldStays : Type 0 where
  pub ready : (sc : Scope) (p : Bases) (live : ℕ → Bool) (s : C0State) (a b : Contents) → KeepsRegisters 0 0 a b → Ready sc p live s a → Ready sc p live s b
  pub same : (sc : Scope) (p : Bases) → IsOpened sc.env.structs → (m other : ℕ → ℕ) (a : ℕ) (types : List Ty) (v : Value)
      → ((k : ℕ) → a ≤ k → k < a + words_of_all sc.env.structs types → other k ≡ m k) → RegionHeld sc p m a types v → RegionHeld sc p other a types v
  pub written : (sc : Scope) (p : Bases) → IsOpened sc.env.structs
      → (m other : ℕ → ℕ) (a k : ℕ) (types : List Ty) (path : List ℕ) (t : Ty) (v x : Value) → LeadsFrom sc.env.structs types path t
      → is_scalar t ≡ true
      → k ≡ a + words_to_part sc.env.structs types path → other k ≡ word_of_scalar sc p x → ((i : ℕ) → i ≢ k → other i ≡ m i) → RegionHeld sc p m a types v
      → RegionHeld sc p other a types (put_value v path x)
  pub same_locals : (sc : Scope) (p : Bases) → IsOpened sc.env.structs → (live : ℕ → Bool) (m other : ℕ → ℕ) (a : ℕ) (types : List Ty) (v : Value)
      → ((k : ℕ) → a ≤ k → k < a + words_of_all sc.env.structs types → other k ≡ m k)
      → LocalsHeld sc p live m a types v → LocalsHeld sc p live other a types v
  pub written_local : (sc : Scope) (p : Bases) → IsOpened sc.env.structs → (live later : ℕ → Bool)
      → (m other : ℕ → ℕ) (a k : ℕ) (types : List Ty) (path : List ℕ) (t : Ty) (v x : Value) → LeadsFrom sc.env.structs types path t
      → is_scalar t ≡ true
      → k ≡ a + words_to_part sc.env.structs types path → other k ≡ word_of_scalar sc p x → ((i : ℕ) → i ≢ k → other i ≡ m i)
      → ((n : ℕ) → IsTrue (later n) → IsTrue (live n) ⊎ (path ≡ n ∷ []))
      → LocalsHeld sc p live m a types v → LocalsHeld sc p later other a types (put_value v path x)

-- typed values stay typed with a part changed, and with more objects
pub record PartsFit : Type 0 where
  pub changed : (structs : List Shape) (layout : StoreTyping) (types : List Ty) (path : List ℕ) (t : Ty) (v x : Value) → LeadsFrom structs types path t
      → AreParts structs layout types v → Fits structs layout t x → AreParts structs layout types (put_value v path x)
  pub more : (structs : List Shape) (layout : StoreTyping) (objects : List Ty) (types : List Ty) (v : Value) → AreParts structs layout types v
      → AreParts structs (with_more layout objects) types v
  pub more_of : (structs : List Shape) (layout : StoreTyping) (objects : List Ty) (t : Ty) (v : Value) → Fits structs layout t v
      → Fits structs (with_more layout objects) t v

-- heap and frame lie in memory, the globals don't begin at word 0, and the frame is in the stack whole
pub record RegionsHaveRoom (w : World) (sc : Scope) (p : Bases) : Type 0 where
  pub from : 0 < p.globals
  pub heap : p.heap + words_of_all sc.env.structs p.objects ≤ w.words
  pub frame : p.frame_end ≤ w.words
  pub inside : sc.frame ≤ p.frame_end

-- in a unit that is well formed all that the code of a function's expressions rests on holds
abbrev pub AreasHold : Type 0
AreasHold = (primitives : List CPrimitive) (u : CUnit) → IsWellFormed primitives u → (f : CFunction) (number : ℕ)
    → slice_get u.functions number ≡ Some f → (addresses : CodeAddresses) (w : World) (p : Bases)
    → RegionsHaveRoom w (scope_of u f addresses) p → RegionsApart (scope_of u f addresses) p → AreDeclared (shapes u) p.objects
    → Area w (scope_of u f addresses) p

-- The code that stores a register's word at a place, from behind the place's code: the word stands there, and the rest is kept, in at most three steps.
abbrev pub StoresRun : World → Type 0
StoresRun w = (x : AddressingMode) (q r n a v : ℕ) (c : Contents) (k : Behind) → k.pending ≡ Idle → 8 ≤ r → r < 20 → Source r x.base → q ≢ r → q ≢ SCRATCH
    → CodeAt w n (store_code q r x)
    → (reg c.regs x.base + x.displacement) % 2 ^ 32 ≡ 4 * a → a < w.words → w.kept a ≡ None → reg c.regs q ≡ v
    → (c' : Contents) × KeepsRegisters r r (memory_with c a v) c' × Reaches w 3 (at_with (n + length x.code) c k) (at_with (n + length (store_code q r x)) c' k)

-- another scope of the same unit, and bases with the same beginnings of globals and heap, where there may be more objects
pub record IsLater (sc : Scope) (p : Bases) (other : Scope) (q : Bases) : Type 0 where
  pub structs : other.env.structs ≡ sc.env.structs
  pub global_types : other.env.globals ≡ sc.env.globals
  pub globals : q.globals ≡ p.globals
  pub heap : q.heap ≡ p.heap
  pub objects : (more : List Ty) × (q.objects ≡ p.objects ++ more)

-- typed values stand as before there, and the words of scalars are the same: no value points to a variable
pub record HeldElsewhere : Type 0 where
  pub region : (sc : Scope) (p : Bases) (other : Scope) (q : Bases) → IsLater sc p other q → (m : ℕ → ℕ) (a : ℕ) (types : List Ty) (v : Value)
      → AreParts sc.env.structs (layout sc p) types v → RegionHeld sc p m a types v → RegionHeld other q m a types v
  pub scalar : (sc : Scope) (p : Bases) (other : Scope) (q : Bases) → IsLater sc p other q → (t : Ty) (v : Value)
      → Fits sc.env.structs (layout sc p) t v → is_scalar t ≡ true → word_of_scalar other q v ≡ word_of_scalar sc p v
