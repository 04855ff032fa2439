-- The code of expressions: one fold over the tree, that gives for each node its code as a value, its place, where it stands without
-- code, and which constant it is.
use Rattle.std.specs.Prelude.{ℕ, zero, suc, ◌+◌, ◌*◌, ◌-◌, ◌/◌, ◌%◌, ◌^◌, Bool, true, false}
use Rattle.std.specs.Prelude.{◌==◌, nat_lt, if◌then◌else◌, List, [], ◌∷◌, ◌++◌, length, Option, Some, None, unwrap_or}
use Rattle.mips_table.specs.Arith.{extended}
use Rattle.mips_table.specs.declared.inst.Inst.{Inst}
use Rattle.mips_table.specs.declared.inst.Inst.TheVariants.{Addu, Subu, Xor, Slt, Sltu, J, Beq, Bne, Addiu, Slti, Sltiu}
use Rattle.mips_table.specs.declared.inst.Inst.TheVariants.{Ori, Xori, Lui, Lw, Sw, Sll, Mult, Div as Divide, Mfhi, Mflo}
use Rattle.masm.specs.declared.registers.TheConstants.{SCRATCH, GLOBALS, FRAME_END}
use Rattle.c0_tree.specs.declared.tree.Kind.{Kind}
use Rattle.c0_tree.specs.declared.tree.Kind.TheVariants.{Unresolved, Struct, Field, Global, Local, Function, Primitive}
use Rattle.c0_tree.specs.declared.tree.UnaryOp.{UnaryOp}
use Rattle.c0_tree.specs.declared.tree.UnaryOp.TheVariants.{Negate, Not}
use Rattle.c0_tree.specs.declared.tree.BinaryOp.{BinaryOp}
use Rattle.c0_tree.specs.declared.tree.BinaryOp.TheVariants.{Add, Sub, Mul, Div, Rem, Lt, Le, Gt, Ge, Eq, Ne, And, Or}
use Rattle.c0_tree.specs.Tree.{CExpr, num, true_, false_, null, var, field, arrow, index, deref, address, unary, binary}
use Rattle.c0_meaning.specs.Ty.{Ty}
use Rattle.c0_meaning.specs.Ty as ty
use Rattle.c0_meaning.specs.Env.{Shape}
use Rattle.c0_meaning.specs.Expression.{target}
use Rattle.c0_meaning.specs.Words.{shape_fields, words}
use Rattle.c0_meaning.specs.Sizes.{words_before}
use Rattle.c0_meaning.specs.Operators.{KernelFault, NullUse, Bounds, DivZero}
use Rattle.c0_meaning.specs.TypeAt.{type_at}
use Rattle.c0_meaning.specs.TypedState.{types_of}
use Rattle.c0_typed.specs.Tree.{TExpr}
use Rattle.c0_typed.specs.Typed.{typed_of_expr}
use Rattle.c0_expr_code.specs.declared.facts.Facts.{Facts}
use Rattle.c0_expr_code.specs.Facts.{is_sure_pointer, register_holding, facts_told}
pub use Rattle.c0_expr_code.specs.Facts.{register_of_variable}
use Rattle.c0_expr_code.specs.FrameSetting.{bytes_back}
use Rattle.c0_expr_code.specs.Scope.{Scope}

-- the types of the fields, where a type is a struct
abbrev pub fields_in : List Shape → Option Ty → List Ty
fields_in structs (Some (ty.named x)) = types_of (shape_fields structs x)
fields_in structs _ = []

-- the words of an element, where a type is an array
abbrev pub element_words : List Shape → Option Ty → ℕ
element_words structs (Some (ty.array t n)) = words structs t
element_words structs _ = 0

-- how many elements there are, where a type is an array
abbrev pub length_in : Option Ty → ℕ
length_in (Some (ty.array t n)) = n
length_in _ = 0

-- a place: the code that has to run first, and then a register plus a displacement in bytes is its address, modulo 2 ^ 32
pub record AddressingMode : Type 0 where
  pub code : List Inst
  pub base : ℕ
  pub displacement : ℕ

-- A node: its value's code, into target with free registers from free; its place; the register where it stands with no code, if it
-- does; the register that it is, if it is a variable that stands nowhere else; the number that is written there, if it is one; and the
-- word that it is known to be, if it is.
pub record Made : Type 0 where
  pub value : (target free : ℕ) → List Inst
  pub place : (free : ℕ) → AddressingMode
  pub stands : Option ℕ
  pub register : Option ℕ
  pub literal : Option ℕ
  pub known : Option ℕ

-- no place
abbrev pub no_address : ℕ → AddressingMode
no_address r = record { code = []; base = 0; displacement = 0 }

-- the lower half of a word
abbrev pub low : ℕ → ℕ
low k = k % 2 ^ 16

-- the upper half, to which the lower half is added with its sign
abbrev pub high : ℕ → ℕ
high k = (k + 2 ^ 15) / 2 ^ 16 % 2 ^ 16

-- whether a word is its lower half, extended by its sign
abbrev pub is_near : ℕ → Bool
is_near k = extended (low k) == k

-- a constant word, into a register
abbrev pub constant_code : ℕ → ℕ → List Inst
constant_code d n =
    if nat_lt n (2 ^ 16) then Ori d 0 n ∷ [] else if is_near n then Addiu d 0 (low n) ∷ [] else Lui d (n / 2 ^ 16 % 2 ^ 16) ∷ Ori d d (low n) ∷ []

-- an instruction on a place, with a register for the address where the displacement is far
abbrev pub access_code : (ℕ → ℕ → Inst) → ℕ → AddressingMode → List Inst
access_code f r x =
    x.code ++ (if is_near x.displacement then f x.base (low x.displacement) ∷ []
    else Lui SCRATCH (high x.displacement) ∷ Addu r x.base SCRATCH ∷ f r (low x.displacement) ∷ [])

-- what stands at a place, into a register
abbrev pub load_code : ℕ → ℕ → AddressingMode → List Inst
load_code d r x = access_code (λ b k. Lw d b k) r x

-- a register's word, to a place
abbrev pub store_code : ℕ → ℕ → AddressingMode → List Inst
store_code q r x = access_code (λ b k. Sw q b k) r x

-- no code, where a value stands already
abbrev pub or_code : Option ℕ → List Inst → List Inst
or_code None is = is
or_code (Some q) is = []

-- the code that brings a value to where it will stand, and the register where that is
abbrev pub operand_code : Made → ℕ → List Inst
operand_code m r = or_code m.stands (m.value r r)

abbrev pub operand_register : Made → ℕ → ℕ
operand_register m r = unwrap_or m.stands r

-- from r to d, unless d is r
abbrev pub to_code : ℕ → ℕ → List Inst
to_code d r = if d == r then [] else Addu d r 0 ∷ []

-- a place as value
abbrev pub at_place : (ℕ → AddressingMode) → Made
at_place place = record { value = λ d r. load_code d r (place r); place = place; stands = None; register = None; literal = None; known = None }

-- a constant word, which a number may be written for
abbrev pub constant : ℕ → Option ℕ → Made
constant n literal = record {
  value = λ d r. constant_code d n;
  place = no_address;
  stands = if n == 0 then Some 0 else None;
  register = None;
  literal = literal;
  known = Some n;
}

-- a value that is no place
abbrev pub only_value : (ℕ → ℕ → List Inst) → Made
only_value code = record { value = code; place = no_address; stands = None; register = None; literal = None; known = None }

-- the global of a number
abbrev pub global_address : Scope → ℕ → AddressingMode
global_address sc n = record { code = []; base = GLOBALS; displacement = 4 * words_before sc.env.structs (types_of sc.env.globals) n % 2 ^ 32 }

-- the variable of a number in the frame, which begins with three words of its own
abbrev pub local_address : Scope → ℕ → AddressingMode
local_address sc n =
    record { code = []; base = FRAME_END; displacement = (bytes_back sc.frame + (12 + 4 * words_before sc.env.structs (types_of sc.env.locals) n)) % 2 ^ 32 }

-- what stands in a register
abbrev pub register_made : ℕ → Made
register_made q = record { value = λ d r. Addu d q 0 ∷ []; place = no_address; stands = Some q; register = Some q; literal = None; known = None }

-- what stands in the frame as value, where a register may have it too
abbrev pub frame_value : Option ℕ → AddressingMode → (d r : ℕ) → List Inst
frame_value (Some q) x d r = to_code d q
frame_value None x d r = load_code d r x

-- what stands in the frame
abbrev pub frame_made : Option ℕ → (ℕ → AddressingMode) → Made
frame_made q place =
    record { value = λ d r. frame_value q (place r) d r; place = place; stands = q; register = None; literal = None; known = None }

-- a parameter or local
abbrev pub local_made : Scope → Facts → ℕ → Made
local_made sc fs n = if sc.in_registers then register_made (register_of_variable n) else frame_made (register_holding fs n) (λ r. local_address sc n)

-- a variable
abbrev pub variable_made : Scope → Facts → Kind → ℕ → Made
variable_made sc fs Unresolved n = at_place no_address
variable_made sc fs Struct n = at_place no_address
variable_made sc fs Field n = at_place no_address
variable_made sc fs Global n = at_place (λ r. global_address sc n)
variable_made sc fs Local n = local_made sc fs n
variable_made sc fs Function n = at_place no_address
variable_made sc fs Primitive n = at_place no_address

-- the place so many bytes further
abbrev pub displaced : ℕ → AddressingMode → AddressingMode
displaced k x = record { code = x.code; base = x.base; displacement = (x.displacement + k) % 2 ^ 32 }

-- the test of a pointer, unless it surely isn't null
abbrev pub null_test : (exit : KernelFault → ℕ) → (sure : Bool) → ℕ → List Inst
null_test exit true q = []
null_test exit false q = Bne q 0 1 ∷ J (exit NullUse) ∷ []

-- what a pointer points to
abbrev pub target_address : Scope → (sure : Bool) → Made → ℕ → AddressingMode
target_address sc sure m r =
    record { code = operand_code m r ++ null_test sc.exit sure (operand_register m r); base = operand_register m r; displacement = 0 }

-- whether an index is below a length, into the scratch register
abbrev pub bound_code : ℕ → ℕ → List Inst
bound_code q n = if nat_lt n (2 ^ 15) then Sltiu SCRATCH q n ∷ [] else constant_code SCRATCH n ++ (Sltu SCRATCH q SCRATCH ∷ [])

-- the shift that multiplies by 4 * w, where w is 2 ^ i for an i below n
abbrev pub shift_within : (n w : ℕ) → Option ℕ
shift_within zero w = None
shift_within (suc n) w = if w == 2 ^ n then Some (n + 2) else shift_within n w

-- so many powers of two are told apart
abbrev pub POWERS : ℕ
POWERS = 11

-- 4 * w times the word in a register, modulo 2 ^ 32, into the scratch register: by a shift, if there is one
abbrev pub scaled_code : Option ℕ → (w q : ℕ) → List Inst
scaled_code (Some by) w q = Sll SCRATCH q by ∷ []
scaled_code None w q = constant_code SCRATCH (4 * w % 2 ^ 32) ++ (Mult q SCRATCH ∷ Mflo SCRATCH ∷ [])

abbrev pub scale_code : (w q : ℕ) → List Inst
scale_code w q = scaled_code (shift_within POWERS w) w q

-- the test of an index in q, and then the address in r of its element behind b
abbrev pub element_code : Scope → (q b r w n : ℕ) → List Inst
element_code sc q b r w n = bound_code q n ++ (Bne SCRATCH 0 1 ∷ J (sc.exit Bounds) ∷ (scale_code w q ++ (Addu r b SCRATCH ∷ [])))

-- an element whose index is tested
abbrev pub tested_address : Scope → (w n : ℕ) → AddressingMode → Made → ℕ → AddressingMode
tested_address sc w n x m r =
    record { code = x.code ++ (operand_code m (r + 1) ++ element_code sc (operand_register m (r + 1)) x.base r w n); base = r; displacement = x.displacement }

-- an element: a number below the length needs no test
abbrev pub element_address : Scope → (w n : ℕ) → Option ℕ → AddressingMode → Made → ℕ → AddressingMode
element_address sc w n None x m r = tested_address sc w n x m r
element_address sc w n (Some c) x m r = if nat_lt c n then displaced (4 * (c * w)) x else tested_address sc w n x m r

-- both sides, and then code that has them in registers
abbrev pub two_code : (ℕ → ℕ → List Inst) → Made → Made → ℕ → List Inst
two_code f a b r = operand_code a r ++ (operand_code b (r + 1) ++ f (operand_register a r) (operand_register b (r + 1)))

-- one side, and then code that has it in a register
abbrev pub one_code : (ℕ → List Inst) → Made → ℕ → List Inst
one_code f m r = operand_code m r ++ f (operand_register m r)

-- `&&` and `||`: the left side, a branch over the right side, the right side, and the answer to d
abbrev pub logic_code : (ℕ → Inst) → Made → Made → ℕ → ℕ → List Inst
logic_code skip a b d r = a.value r r ++ (skip (length (b.value r r) % 2 ^ 16) ∷ (b.value r r ++ to_code d r))

-- a word with its sign changed
abbrev pub negated : ℕ → ℕ
negated n = (2 ^ 32 - n) % 2 ^ 32

-- `-e`: of a written number a constant
abbrev pub negative_made : Option ℕ → Made → Made
negative_made (Some n) m = constant (negated n) None
negative_made None m = only_value (λ d r. one_code (λ q. Subu d 0 q ∷ []) m r)

-- an operator before its operand
abbrev pub unary_made : UnaryOp → Made → Made
unary_made Negate m = negative_made m.literal m
unary_made Not m = only_value (λ d r. one_code (λ q. Xori d q 1 ∷ []) m r)

-- an operator between q and t, into d
abbrev pub operator_code : BinaryOp → (d q t : ℕ) → List Inst
operator_code Add d q t = Addu d q t ∷ []
operator_code Sub d q t = Subu d q t ∷ []
operator_code Mul d q t = Mult q t ∷ Mflo d ∷ []
operator_code Div d q t = []
operator_code Rem d q t = []
operator_code Lt d q t = Slt d q t ∷ []
operator_code Gt d q t = Slt d t q ∷ []
operator_code Le d q t = Slt d t q ∷ Xori d d 1 ∷ []
operator_code Ge d q t = Slt d q t ∷ Xori d d 1 ∷ []
operator_code Eq d q t = Xor d q t ∷ Sltiu d d 1 ∷ []
operator_code Ne d q t = Xor d q t ∷ Sltu d 0 d ∷ []
operator_code And d q t = []
operator_code Or d q t = []

-- the code of an operator between q and a constant, into d, where an instruction has room for the constant
abbrev pub Immediate : Type 0
Immediate = Option ((d q : ℕ) → List Inst)

abbrev pub when_near : ℕ → ((d q : ℕ) → List Inst) → Immediate
when_near k code = if is_near k then Some code else None

-- `==` and `!=`, by the instruction that tells a difference from 0
abbrev pub equality_with : ((d q : ℕ) → Inst) → ℕ → Immediate
equality_with tells k =
    if k == 0 then Some (λ d q. tells d q ∷ []) else if nat_lt k (2 ^ 16) then Some (λ d q. Xori d q k ∷ tells d d ∷ []) else None

abbrev pub immediate : BinaryOp → ℕ → Immediate
immediate Add k = when_near k (λ d q. Addiu d q (low k) ∷ [])
immediate Sub k = when_near (negated k) (λ d q. Addiu d q (low (negated k)) ∷ [])
immediate Mul k = None
immediate Div k = None
immediate Rem k = None
immediate Lt k = when_near k (λ d q. Slti d q (low k) ∷ [])
immediate Le k = when_near ((k + 1) % 2 ^ 32) (λ d q. Slti d q (low ((k + 1) % 2 ^ 32)) ∷ [])
immediate Gt k = None
immediate Ge k = when_near k (λ d q. Slti d q (low k) ∷ Xori d d 1 ∷ [])
immediate Eq k = equality_with (λ d q. Sltiu d q 1) k
immediate Ne k = equality_with (λ d q. Sltu d 0 q) k
immediate And k = None
immediate Or k = None

-- with the word that a side is known to be
abbrev pub immediate_of : BinaryOp → Option ℕ → Immediate
immediate_of o None = None
immediate_of o (Some k) = immediate o k

-- an operator, whose right side may be a constant
abbrev pub operator_made : Immediate → BinaryOp → Made → Made → Made
operator_made (Some f) o a b = only_value (λ d r. one_code (λ q. f d q) a r)
operator_made None o a b = only_value (λ d r. two_code (λ q t. operator_code o d q t) a b r)

-- a sum, of which either side may be a constant
abbrev pub sum_made : (right left : Immediate) → Made → Made → Made
sum_made (Some f) g a b = only_value (λ d r. one_code (λ q. f d q) a r)
sum_made None (Some g) a b = only_value (λ d r. one_code (λ q. g d q) b r)
sum_made None None a b = only_value (λ d r. two_code (λ q t. Addu d q t ∷ []) a b r)

-- whether a side is known to be other than 0
abbrev pub is_never_zero : Option ℕ → Bool
is_never_zero None = false
is_never_zero (Some zero) = false
is_never_zero (Some (suc n)) = true

-- the test of a divisor, unless it is known to be other than 0
abbrev pub divisor_code : Scope → Bool → ℕ → List Inst
divisor_code sc true t = []
divisor_code sc false t = Bne t 0 1 ∷ J (sc.exit DivZero) ∷ []

-- a division, and what is taken of it
abbrev pub division_made : Scope → (ℕ → Inst) → Made → Made → Made
division_made sc takes a b = only_value (λ d r. two_code (λ q t. divisor_code sc (is_never_zero b.known) t ++ (Divide q t ∷ takes d ∷ [])) a b r)

-- an operator between its operands
abbrev pub binary_made : Scope → BinaryOp → Made → Made → Made
binary_made sc Add a b = sum_made (immediate_of Add b.known) (immediate_of Add a.known) a b
binary_made sc Sub a b = operator_made (immediate_of Sub b.known) Sub a b
binary_made sc Mul a b = operator_made None Mul a b
binary_made sc Div a b = division_made sc (λ d. Mflo d) a b
binary_made sc Rem a b = division_made sc (λ d. Mfhi d) a b
binary_made sc Lt a b = operator_made (immediate_of Lt b.known) Lt a b
binary_made sc Le a b = operator_made (immediate_of Le b.known) Le a b
binary_made sc Gt a b = operator_made None Gt a b
binary_made sc Ge a b = operator_made (immediate_of Ge b.known) Ge a b
binary_made sc Eq a b = operator_made (immediate_of Eq b.known) Eq a b
binary_made sc Ne a b = operator_made (immediate_of Ne b.known) Ne a b
binary_made sc And a b = only_value (λ d r. logic_code (λ k. Beq r 0 k) a b d r)
binary_made sc Or a b = only_value (λ d r. logic_code (λ k. Bne r 0 k) a b d r)

-- a field of a place
abbrev pub field_made : Scope → Option Ty → (ℕ → AddressingMode) → ℕ → Made
field_made sc t place n = at_place (λ r. displaced (4 * words_before sc.env.structs (fields_in sc.env.structs t) n) (place r))

-- an element of a place
abbrev pub index_made : Scope → Option Ty → (ℕ → AddressingMode) → Made → Made
index_made sc t place m = at_place (λ r. element_address sc (element_words sc.env.structs t) (length_in t) m.literal (place r) m r)

-- what is known where the right side of an operator is evaluated: of `&&` and `||` the left side came out so
abbrev pub right_facts : BinaryOp → TExpr → Facts → Facts
right_facts Add a fs = fs
right_facts Sub a fs = fs
right_facts Mul a fs = fs
right_facts Div a fs = fs
right_facts Rem a fs = fs
right_facts Lt a fs = fs
right_facts Le a fs = fs
right_facts Gt a fs = fs
right_facts Ge a fs = fs
right_facts Eq a fs = fs
right_facts Ne a fs = fs
right_facts And a fs = facts_told a true fs
right_facts Or a fs = facts_told a false fs

-- every node
abbrev pub made : Scope → Facts → CExpr → Made
made sc fs (num p n) = constant n (Some n)
made sc fs (true_ p) = constant 1 None
made sc fs (false_ p) = constant 0 None
made sc fs (null p) = constant 0 None
made sc fs (var x) = variable_made sc fs x.kind x.number
made sc fs (field p e f) = field_made sc (type_at sc.env e) (made sc fs e).place f.number
made sc fs (arrow p e f) =
    field_made sc (target (type_at sc.env e)) (λ r. target_address sc (is_sure_pointer fs (typed_of_expr sc.env e)) (made sc fs e) r) f.number
made sc fs (index p e i) = index_made sc (type_at sc.env e) (made sc fs e).place (made sc fs i)
made sc fs (deref p e) = at_place (λ r. target_address sc (is_sure_pointer fs (typed_of_expr sc.env e)) (made sc fs e) r)
made sc fs (address p e) = only_value (λ d r. access_code (λ b k. Addiu d b k) r ((made sc fs e).place r))
made sc fs (unary p o e) = unary_made o (made sc fs e)
made sc fs (binary p o a b) = binary_made sc o (made sc fs a) (made sc (right_facts o (typed_of_expr sc.env a) fs) b)

-- the code of a value, into d, with free registers from r
abbrev pub value_code : Scope → Facts → CExpr → (d r : ℕ) → List Inst
value_code sc fs e d r = (made sc fs e).value d r

-- the place of an expression that is one, with free registers from r
abbrev pub place_address : Scope → Facts → CExpr → (r : ℕ) → AddressingMode
place_address sc fs e r = (made sc fs e).place r
