-- How a state of C0 stands in the machine, and what is said of the code of an expression.
use Rattle.std.specs.Prelude.{◌≡◌, ◌≢◌, ℕ, ◌+◌, ◌*◌, ◌%◌, ◌^◌, ◌<◌, ◌≤◌, Bool, true, false, if◌then◌else◌, List, length, None, Some, Ok, Err, slice_get, IsTrue}
use Rattle.mips_table.specs.Device.{Idle}
use Rattle.mips_table.specs.Code.{Contents, reg, Behind, World, at_with, Reaches, CodeAt}
use Rattle.masm.specs.declared.registers.TheConstants.{ANSWER, ARGUMENTS}
use Rattle.c0_tree.specs.Size.{need}
use Rattle.c0_tree.specs.Tree.{CExpr}
use Rattle.c0_meaning.specs.Ty.{Ty, named, is_scalar}
use Rattle.c0_meaning.specs.Expression.{is_lvalue}
use Rattle.c0_meaning.specs.Words.{shape_fields, words}
use Rattle.c0_meaning.specs.Numbered.{is_frame_place}
use Rattle.c0_meaning.specs.Sizes.{words_before}
use Rattle.c0_meaning.specs.Value.{Region, locals, Location, Value}
use Rattle.c0_meaning.specs.State.{C0State, variables_of}
use Rattle.c0_meaning.specs.Operators.{faulted, stuck}
use Rattle.c0_meaning.specs.Evaluation.{Costed, costs, truth, value_of, place_of}
use Rattle.c0_meaning.specs.TypedState.{StoreTyping, types_of, LeadsFrom, PointsTo, Fits, AreParts}
use Rattle.c0_expr_code.specs.declared.facts.Facts.{Facts}
use Rattle.c0_expr_code.specs.Facts.{holds_answer, holds_param, SureHold}
use Rattle.c0_expr_code.specs.Scope.{Scope}
use Rattle.c0_expr_code.specs.Code.{Made, operand_code, operand_register, made}
use Rattle.c0_expr_code.specs.Test.{test_code}
use Rattle.c0_expr_runs.specs.Bases.{words_of_all, Bases, locals_start, types_in, location_word, word_of_scalar, RegionHeld, LocalsHeld}

-- the types that pointers may lead to
abbrev pub layout : Scope → Bases → StoreTyping
layout sc p = record { globals = types_of sc.env.globals; objects = p.objects }

-- the state is typed
pub record StateIsTyped (sc : Scope) (p : Bases) (s : C0State) : Type 0 where
  pub global_values : AreParts sc.env.structs (layout sc p) (types_of sc.env.globals) s.global_values
  pub heap_values : AreParts sc.env.structs (layout sc p) p.objects s.heap_values
  pub local_values : AreParts sc.env.structs (layout sc p) (types_of sc.env.locals) (variables_of s.frames)

-- the state stands in the machine, of its variables those that are live: r28 is the globals' address, r29 the frame's end; the variables
-- of a register function stand in the registers from 20 on, as words one after another
pub record Ready (sc : Scope) (p : Bases) (live : ℕ → Bool) (s : C0State) (c : Contents) : Type 0 where
  pub globals_at : c.regs 28 ≡ 4 * p.globals
  pub frame_at : sc.in_registers ≡ false → c.regs 29 ≡ 4 * p.frame_end
  pub global_values : RegionHeld sc p c.memory p.globals (types_of sc.env.globals) s.global_values
  pub heap_values : RegionHeld sc p c.memory p.heap p.objects s.heap_values
  pub local_values : LocalsHeld sc p live (if sc.in_registers then c.regs else c.memory) (locals_start sc p) (types_of sc.env.locals) (variables_of s.frames)

-- the word of a scalar local stands in a register too
abbrev pub HasWordOf : Scope → Bases → Contents → (register number : ℕ) → Type 0
HasWordOf sc p c q n = (t : Ty) → slice_get (types_of sc.env.locals) n ≡ Some t → is_scalar t ≡ true
    → c.regs q ≡ c.memory (locals_start sc p + words_before sc.env.structs (types_of sc.env.locals) n)

-- the registers have the words of those variables in the frame that they are known to have
pub record RegistersHold (sc : Scope) (p : Bases) (fs : Facts) (c : Contents) : Type 0 where
  pub params : (n : ℕ) → IsTrue (holds_param fs n) → HasWordOf sc p c (ARGUMENTS + n) n
  pub answer : (n : ℕ) → IsTrue (holds_answer fs.answer n) → HasWordOf sc p c ANSWER n

-- what is known of variables holds: of those in the frame in which registers they stand too, and of all which aren't null
pub record FactsHold (sc : Scope) (p : Bases) (fs : Facts) (s : C0State) (c : Contents) : Type 0 where
  pub registers : sc.in_registers ≡ false → RegistersHold sc p fs c
  pub sure : SureHold fs (variables_of s.frames)

-- the state stands in the machine, and what is known of variables holds
pub record ReadyWith (sc : Scope) (p : Bases) (live : ℕ → Bool) (fs : Facts) (s : C0State) (c : Contents) : Type 0 where
  pub ready : Ready sc p live s c
  pub facts : FactsHold sc p fs s c

-- what the code may change: hi and lo, register 1, those from r to 19, and d
pub record KeepsRegisters (r d : ℕ) (c c' : Contents) : Type 0 where
  pub memory : c'.memory ≡ c.memory
  pub special : c'.special ≡ c.special
  pub below : (x : ℕ) → x ≢ 1 → x ≢ d → x < r → c'.regs x ≡ c.regs x
  pub above : (x : ℕ) → x ≢ d → 20 ≤ x → c'.regs x ≡ c.regs x

-- What is fixed: a struct's words are those of its fields; the regions lie in memory, and behind word 0; a frame begins with three words;
-- registers hold few variables and scalars alone; what stands somewhere has a word; and no two locations of one type have one address.
pub record Area (w : World) (sc : Scope) (p : Bases) : Type 0 where
  pub opened : (x : List ℕ) → words sc.env.structs (named x) ≡ words_of_all sc.env.structs (types_of (shape_fields sc.env.structs x))
  pub globals_room : p.globals + words_of_all sc.env.structs (types_of sc.env.globals) ≤ w.words
  pub heap_room : p.heap + words_of_all sc.env.structs p.objects ≤ w.words
  pub globals_from : 0 < p.globals
  pub heap_from : 0 < p.heap
  pub frame_room : p.frame_end ≤ w.words
  pub frame_inside : sc.frame ≤ p.frame_end
  pub frame_holds : 3 + words_of_all sc.env.structs (types_of sc.env.locals) ≤ sc.frame
  pub scalars : sc.in_registers ≡ true → (n : ℕ) (t : Ty) → slice_get (types_of sc.env.locals) n ≡ Some t → (is_scalar t ≡ true) × (n < 8)
  pub filled : (g : Region) (path : List ℕ) (t : Ty) → LeadsFrom sc.env.structs (types_in sc p g) path t → 1 ≤ words sc.env.structs t
  pub apart : (t : Ty) (l m : Location) → PointsTo sc.env.structs (layout sc p) l.region l.path t
      → PointsTo sc.env.structs (layout sc p) m.region m.path t → location_word sc p l ≡ location_word sc p m → l ≡ m

-- the units that an evaluation took
abbrev pub evaluation_units : {A : Type 0} → Costed A → ℕ
evaluation_units (costs k r) = k

-- an evaluation's code goes from n to to with Q, or leaves by the exit of its fault; it takes so many steps and 16 for each unit, and is never stuck
abbrev pub Evaluates : {A : Type 0} → World → Scope → (own n to : ℕ) → Contents → Behind → (A → Contents → Type 0) → Costed A → Type 0
Evaluates w sc own n to c d Q (costs k (Ok x)) = (c' : Contents) × Q x c' × Reaches w (own + 16 * k) (at_with n c d) (at_with to c' d)
Evaluates w sc own n to c d Q (costs k (Err (faulted f))) = (c' : Contents) × KeepsRegisters 0 0 c c'
    × Reaches w (own + 16 * k) (at_with n c d) (at_with (sc.exit f) c' d)
Evaluates w sc own n to c d Q (costs k (Err stuck)) = ⊥

-- a value in a register
pub record HoldsValue (sc : Scope) (p : Bases) (q r d : ℕ) (t : Ty) (c : Contents) (v : Value) (c' : Contents) : Type 0 where
  pub is : reg c'.regs q ≡ word_of_scalar sc p v
  pub fits : Fits sc.env.structs (layout sc p) t v
  pub keeps : KeepsRegisters r d c c'

-- a location's address: a register plus a displacement; a place that is no part of the frame may be pointed to
pub record HoldsAddress (sc : Scope) (p : Bases) (b k r : ℕ) (local : Bool) (t : Ty) (c : Contents) (l : Location) (c' : Contents) : Type 0 where
  pub is : (reg c'.regs b + k) % 2 ^ 32 ≡ 4 * location_word sc p l
  pub leads : LeadsFrom sc.env.structs (types_in sc p l.region) l.path t
  pub away : local ≡ false → PointsTo sc.env.structs (layout sc p) l.region l.path t
  pub standing : l.region ≡ locals → sc.in_registers ≡ false
  pub keeps : KeepsRegisters r r c c'

-- a register that code with the free registers from r + 1 keeps, and so does a step that writes register 1
pub data Source (r : ℕ) : ℕ → Type 0 where
  nought : Source r 0
  its : Source r r
  answer : Source r ANSWER
  far : {q : ℕ} → 20 ≤ q → Source r q

-- A node as value, from any place and any state of the machine in which the state of C0 stands, and what is known holds: into d, with free registers
-- from r.
abbrev pub ValueRuns : World → Scope → Bases → (live : ℕ → Bool) → Facts → C0State → Made → ℕ → Ty → Costed Value → Type 0
ValueRuns w sc p live fs s m need t e = (d r n : ℕ) (c : Contents) (k : Behind) → k.pending ≡ Idle → ReadyWith sc p live fs s c
    → CodeAt w n (m.value d r) → 8 ≤ r → r + need ≤ 20 → d ≢ 0 → d ≢ 1
    → Evaluates w sc 0 n (n + length (m.value d r)) c k (HoldsValue sc p d r d t c) e

-- as an operand, where it stands then
abbrev pub OperandRuns : World → Scope → Bases → (live : ℕ → Bool) → Facts → C0State → Made → ℕ → Ty → Costed Value → Type 0
OperandRuns w sc p live fs s m need t e = (r n : ℕ) (c : Contents) (k : Behind) → k.pending ≡ Idle → ReadyWith sc p live fs s c
    → CodeAt w n (operand_code m r) → 8 ≤ r → r + need ≤ 20
    → Source r (operand_register m r) × Evaluates w sc 0 n (n + length (operand_code m r)) c k (HoldsValue sc p (operand_register m r) r r t c) e

-- as a place
abbrev pub PlaceRuns : World → Scope → Bases → (live : ℕ → Bool) → Facts → C0State → Made → ℕ → Bool → Ty → Costed Location → Type 0
PlaceRuns w sc p live fs s m need local t e = (r n : ℕ) (c : Contents) (k : Behind) → k.pending ≡ Idle → ReadyWith sc p live fs s c
    → CodeAt w n (m.place r).code → 8 ≤ r → r + need ≤ 20
    → Source r (m.place r).base
    × Evaluates w sc 0 n (n + length (m.place r).code) c k (HoldsAddress sc p (m.place r).base (m.place r).displacement r local t c) e

-- all that is said of a node's code: as a value and as an operand, where its type is scalar; and as a place, unless it is a register
pub record Claims (w : World) (sc : Scope) (p : Bases) (live : ℕ → Bool) (fs : Facts) (s : C0State) (m : Made) (need : ℕ) (placed local : Bool)
    (t : Ty) (v : Costed Value) (l : Costed Location) : Type 0 where
  pub value : is_scalar t ≡ true → ValueRuns w sc p live fs s m need t v
  pub operand : is_scalar t ≡ true → OperandRuns w sc p live fs s m need t v
  pub place : placed ≡ true → m.register ≡ None → PlaceRuns w sc p live fs s m need local t l

-- of an expression of a type
abbrev pub Right : World → Scope → Bases → (live : ℕ → Bool) → Facts → C0State → CExpr → Ty → Type 0
Right w sc p live fs s e t = Claims w sc p live fs s (made sc fs e) (need e) (is_lvalue e) (is_frame_place e) t (value_of e s) (place_of e s)

-- an evaluation's code goes to one place or another, by the answer, or leaves by the exit of its fault
abbrev pub Splits : {A : Type 0} → World → Scope → (own n : ℕ) (to : A → ℕ) → Contents → Behind → (A → Contents → Type 0) → Costed A → Type 0
Splits w sc own n to c d Q (costs k (Ok x)) = (c' : Contents) × Q x c' × Reaches w (own + 16 * k) (at_with n c d) (at_with (to x) c' d)
Splits w sc own n to c d Q (costs k (Err (faulted f))) = (c' : Contents) × KeepsRegisters 0 0 c c'
    × Reaches w (own + 16 * k) (at_with n c d) (at_with (sc.exit f) c' d)
Splits w sc own n to c d Q (costs k (Err stuck)) = ⊥

-- to the place where the answer is s, and else to the end
abbrev pub ends : (s : Bool) (to end : ℕ) → Bool → ℕ
ends true to end b = if b then to else end
ends false to end b = if b then end else to

-- from code that begins at n and ends at e, each branch with the distance reaches the place
pub record Aims (n e far to : ℕ) : Type 0 where
  pub same : (e + far) % 2 ^ 16 ≡ to % 2 ^ 16
  pub short : far < 2 ^ 16
  pub ahead : to ≤ n + 32768
  pub behind : e ≤ to + 32768

-- a test goes where its answer says, within 16 steps a unit, and one more
abbrev pub TestRuns : World → Scope → Bases → (live : ℕ → Bool) → Facts → C0State → CExpr → Type 0
TestRuns w sc p live fs s e = (b : Bool) (far to r n : ℕ) (c : Contents) (k : Behind) → k.pending ≡ Idle → ReadyWith sc p live fs s c
    → CodeAt w n (test_code sc fs e b far r) → 8 ≤ r → r + need e ≤ 20 → Aims n (n + length (test_code sc fs e b far r)) far to
    → Splits w sc 1 n (ends b to (n + length (test_code sc fs e b far r))) c k (λ y c'. KeepsRegisters r r c c') (truth (value_of e s))
