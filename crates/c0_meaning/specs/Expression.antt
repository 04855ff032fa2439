-- Which type an expression has, which faults stand in it, and what its names stand for.
use Rattle.std.specs.Prelude.{ℕ, Bool, true, false, ◌&&◌, if◌then◌else◌, List, [], ◌∷◌, ◌++◌, Option, Some, None}
use Rattle.c0_tree.specs.declared.tree.Span.{Span}
use Rattle.c0_tree.specs.declared.tree.Kind.{Kind}
use Rattle.c0_tree.specs.declared.tree.Kind.TheVariants.{Unresolved, Struct, Field, Global, Local, Function, Primitive}
use Rattle.c0_tree.specs.declared.tree.UnaryOp.{UnaryOp}
use Rattle.c0_tree.specs.declared.tree.UnaryOp.TheVariants.{Negate, Not}
use Rattle.c0_tree.specs.declared.tree.BinaryOp.{BinaryOp}
use Rattle.c0_tree.specs.declared.tree.BinaryOp.TheVariants.{Add, Sub, Mul, Div, Rem, Lt, Le, Gt, Ge, Eq, Ne, And, Or}
use Rattle.c0_tree.specs.Tree.{CName, CExpr, num, true_, false_, null, var, field, arrow, index, deref, address, unary, binary}
use Rattle.c0_meaning.specs.Ty.{Ty, int, bool, pointer, named, array, same_ty, is_scalar}
use Rattle.c0_meaning.specs.Env.{Env, Typed, Variable, variable_named, field_named}
use Rattle.c0_meaning.specs.Fault.{Fault, fault, UNKNOWN_NAME, WRONG_TYPE, NOT_A_PLACE, LOCAL_ADDRESS}

-- what a rule says of a node: nothing, since a part has no type; a type; or a fault
pub data Verdict : Type 0 where
  silent : Verdict
  has : Ty → Verdict
  wrong : Fault → Verdict

-- the type that a verdict gives
abbrev pub type_given : Verdict → Option Ty
type_given silent = None
type_given (has t) = Some t
type_given (wrong f) = None

-- a node's own fault, as a list
abbrev pub own : Verdict → List Fault
own silent = []
own (has t) = []
own (wrong f) = f ∷ []

-- a rule on one part speaks where the part has a type
abbrev pub rule_on_one : Option Ty → (Ty → Verdict) → Verdict
rule_on_one None rule = silent
rule_on_one (Some t) rule = rule t

-- a rule on two parts speaks where both have types
abbrev pub rule_on_both : Option Ty → Option Ty → (Ty → Ty → Verdict) → Verdict
rule_on_both None other rule = silent
rule_on_both (Some t) other rule = rule_on_one other (rule t)

-- where an expression stands
abbrev pub span_of : CExpr → Span
span_of (num s n) = s
span_of (true_ s) = s
span_of (false_ s) = s
span_of (null s) = s
span_of (var x) = x.span
span_of (field s e f) = s
span_of (arrow s e f) = s
span_of (index s e i) = s
span_of (deref s e) = s
span_of (address s e) = s
span_of (unary s o e) = s
span_of (binary s o a b) = s

-- a variable, `place.f`, `place[i]`, `*e` or `e->f`; that the part of `.` and of `[` is a place too is asked where these are typed
abbrev pub is_lvalue : CExpr → Bool
is_lvalue (num s n) = false
is_lvalue (true_ s) = false
is_lvalue (false_ s) = false
is_lvalue (null s) = false
is_lvalue (var x) = true
is_lvalue (field s e f) = true
is_lvalue (arrow s e f) = true
is_lvalue (index s e i) = true
is_lvalue (deref s e) = true
is_lvalue (address s e) = false
is_lvalue (unary s o e) = false
is_lvalue (binary s o a b) = false

-- a kind of variable that has its place in the frame
abbrev pub is_local_kind : Option Variable → Bool
is_local_kind None = false
is_local_kind (Some v) = local v.kind
  where
    local : Kind → Bool
    local Local = true
    local Unresolved = false
    local Struct = false
    local Field = false
    local Global = false
    local Function = false
    local Primitive = false

-- whether a place's variable is a parameter or a local: `*e` and `e->f` are never local
abbrev pub is_local : Env → CExpr → Bool
is_local env (num s n) = false
is_local env (true_ s) = false
is_local env (false_ s) = false
is_local env (null s) = false
is_local env (var x) = is_local_kind (variable_named env x.text)
is_local env (field s e f) = is_local env e
is_local env (arrow s e f) = false
is_local env (index s e i) = is_local env e
is_local env (deref s e) = false
is_local env (address s e) = false
is_local env (unary s o e) = false
is_local env (binary s o a b) = false

-- whether it is `null`
abbrev pub is_null : CExpr → Bool
is_null (num s n) = false
is_null (true_ s) = false
is_null (false_ s) = false
is_null (null s) = true
is_null (var x) = false
is_null (field s e f) = false
is_null (arrow s e f) = false
is_null (index s e i) = false
is_null (deref s e) = false
is_null (address s e) = false
is_null (unary s o e) = false
is_null (binary s o a b) = false

-- whether a particular pointer type is asked
abbrev pub is_pointer : Option Ty → Bool
is_pointer None = false
is_pointer (Some int) = false
is_pointer (Some bool) = false
is_pointer (Some (pointer t)) = true
is_pointer (Some (named x)) = false
is_pointer (Some (array t n)) = false

-- whether an expression is a `null` of which a particular pointer type is asked
abbrev pub is_null_for : Option Ty → CExpr → Bool
is_null_for want e = is_null e && is_pointer want

-- an expression's type where a type is asked: such a `null` has it
abbrev pub type_asked : Option Ty → CExpr → Option Ty → Option Ty
type_asked want e type = if is_null_for want e then want else type

-- an expression's faults where a type is asked: such a `null` has none
abbrev pub asked_faults : Option Ty → CExpr → List Fault → List Fault
asked_faults want e faults = if is_null_for want e then [] else faults

-- a variable that was sought
abbrev pub variable_rule : CName → Option Variable → Verdict
variable_rule x None = wrong (fault UNKNOWN_NAME x.span)
variable_rule x (Some v) = has v.ty

-- a field that was sought by a name at this span
abbrev pub sought_rule : Span → Option (ℕ × Typed) → Verdict
sought_rule at None = wrong (fault UNKNOWN_NAME at)
sought_rule at (Some found) = has found.1.ty

-- the field of this name, where a type is a struct
abbrev pub member : Env → Option Ty → List ℕ → Option (ℕ × Typed)
member env None text = None
member env (Some int) text = None
member env (Some bool) text = None
member env (Some (pointer t)) text = None
member env (Some (named x)) text = field_named env x text
member env (Some (array t n)) text = None

-- the type behind a pointer
abbrev pub target : Option Ty → Option Ty
target None = None
target (Some int) = None
target (Some bool) = None
target (Some (pointer t)) = Some t
target (Some (named x)) = None
target (Some (array t n)) = None

-- a field of a value of a type: where the field's name stands, and the field that the type has
abbrev pub field_rule : Span → Span → Option (ℕ × Typed) → Ty → Verdict
field_rule s at found int = wrong (fault WRONG_TYPE s)
field_rule s at found bool = wrong (fault WRONG_TYPE s)
field_rule s at found (pointer t) = wrong (fault WRONG_TYPE s)
field_rule s at found (named x) = sought_rule at found
field_rule s at found (array t n) = wrong (fault WRONG_TYPE s)

-- `e.f`: whether e is a place and where it stands, where f stands and the field that e's type has, and e's type
abbrev pub place_field_rule : Span → Bool → Span → Span → Option (ℕ × Typed) → Ty → Verdict
place_field_rule s place part at found t = if place then field_rule s at found t else wrong (fault NOT_A_PLACE part)

-- `e->f`: where f stands and the field that the type behind the pointer has, and e's type
abbrev pub arrow_rule : Span → Span → Option (ℕ × Typed) → Ty → Verdict
arrow_rule s at found int = wrong (fault WRONG_TYPE s)
arrow_rule s at found bool = wrong (fault WRONG_TYPE s)
arrow_rule s at found (pointer t) = field_rule s at found t
arrow_rule s at found (named x) = wrong (fault WRONG_TYPE s)
arrow_rule s at found (array t n) = wrong (fault WRONG_TYPE s)

-- an element, by the types of the place and of the index
abbrev pub element_rule : Span → Ty → Ty → Verdict
element_rule s (array t n) int = has t
element_rule s _ _ = wrong (fault WRONG_TYPE s)

-- `e[i]`: whether e is a place and where it stands, and both types
abbrev pub index_rule : Span → Bool → Span → Ty → Ty → Verdict
index_rule s place at t u = if place then element_rule s t u else wrong (fault NOT_A_PLACE at)

-- `*e`
abbrev pub deref_rule : Span → Ty → Verdict
deref_rule s int = wrong (fault WRONG_TYPE s)
deref_rule s bool = wrong (fault WRONG_TYPE s)
deref_rule s (pointer t) = has t
deref_rule s (named x) = wrong (fault WRONG_TYPE s)
deref_rule s (array t n) = wrong (fault WRONG_TYPE s)

-- `&e`: whether e is a place, whether it is local, where it stands, and its type
abbrev pub address_rule : Bool → Bool → Span → Ty → Verdict
address_rule place local at t =
    if place then (if local then wrong (fault LOCAL_ADDRESS at) else has (pointer t)) else wrong (fault NOT_A_PLACE at)

-- `-e` and `!e`
abbrev pub unary_rule : Span → UnaryOp → Ty → Verdict
unary_rule s Negate int = has int
unary_rule s Not bool = has bool
unary_rule s _ _ = wrong (fault WRONG_TYPE s)

-- two ints that give a type
abbrev pub ints_rule : Span → Ty → Ty → Ty → Verdict
ints_rule s answer int int = has answer
ints_rule s answer _ _ = wrong (fault WRONG_TYPE s)

-- two bools
abbrev pub bools_rule : Span → Ty → Ty → Verdict
bools_rule s bool bool = has bool
bools_rule s _ _ = wrong (fault WRONG_TYPE s)

-- two values of one scalar type
abbrev pub alike_rule : Span → Ty → Ty → Verdict
alike_rule s t u = if is_scalar t && same_ty t u then has bool else wrong (fault WRONG_TYPE s)

-- an operator between two operands
abbrev pub binary_rule : Span → BinaryOp → Ty → Ty → Verdict
binary_rule s Add t u = ints_rule s int t u
binary_rule s Sub t u = ints_rule s int t u
binary_rule s Mul t u = ints_rule s int t u
binary_rule s Div t u = ints_rule s int t u
binary_rule s Rem t u = ints_rule s int t u
binary_rule s Lt t u = ints_rule s bool t u
binary_rule s Le t u = ints_rule s bool t u
binary_rule s Gt t u = ints_rule s bool t u
binary_rule s Ge t u = ints_rule s bool t u
binary_rule s Eq t u = alike_rule s t u
binary_rule s Ne t u = alike_rule s t u
binary_rule s And t u = bools_rule s t u
binary_rule s Or t u = bools_rule s t u

-- whether an operator compares for equality
abbrev pub compares : BinaryOp → Bool
compares Add = false
compares Sub = false
compares Mul = false
compares Div = false
compares Rem = false
compares Lt = false
compares Le = false
compares Gt = false
compares Ge = false
compares Eq = true
compares Ne = true
compares And = false
compares Or = false

-- the type that an operator asks of an operand, by the other's
abbrev pub operand_type : BinaryOp → Option Ty → Option Ty
operand_type o other = if compares o then other else None

-- what the rule of an expression's node says of it
abbrev pub verdict : Env → CExpr → Verdict
verdict env (num s n) = has int
verdict env (true_ s) = has bool
verdict env (false_ s) = has bool
verdict env (null s) = wrong (fault WRONG_TYPE s)
verdict env (var x) = variable_rule x (variable_named env x.text)
verdict env (field s e f) =
    rule_on_one (type_given (verdict env e)) (place_field_rule s (is_lvalue e) (span_of e) f.span (member env (type_given (verdict env e)) f.text))
verdict env (arrow s e f) = rule_on_one (type_given (verdict env e)) (arrow_rule s f.span (member env (target (type_given (verdict env e))) f.text))
verdict env (index s e i) = rule_on_both (type_given (verdict env e)) (type_given (verdict env i)) (index_rule s (is_lvalue e) (span_of e))
verdict env (deref s e) = rule_on_one (type_given (verdict env e)) (deref_rule s)
verdict env (address s e) = rule_on_one (type_given (verdict env e)) (address_rule (is_lvalue e) (is_local env e) (span_of e))
verdict env (unary s o e) = rule_on_one (type_given (verdict env e)) (unary_rule s o)
verdict env (binary s o a b) =
    rule_on_both (type_asked (operand_type o (type_given (verdict env b))) a (type_given (verdict env a)))
    (type_asked (operand_type o (type_given (verdict env a))) b (type_given (verdict env b)))
    (binary_rule s o)

-- an expression's type, if it has one by itself
abbrev pub type_of : Env → CExpr → Option Ty
type_of env e = type_given (verdict env e)

-- every fault that stands in an expression: those of its parts, and then its own
abbrev pub faults : Env → CExpr → List Fault
faults env (num s n) = []
faults env (true_ s) = []
faults env (false_ s) = []
faults env (null s) = own (verdict env (null s))
faults env (var x) = own (verdict env (var x))
faults env (field s e f) = faults env e ++ own (verdict env (field s e f))
faults env (arrow s e f) = faults env e ++ own (verdict env (arrow s e f))
faults env (index s e i) = faults env e ++ (faults env i ++ own (verdict env (index s e i)))
faults env (deref s e) = faults env e ++ own (verdict env (deref s e))
faults env (address s e) = faults env e ++ own (verdict env (address s e))
faults env (unary s o e) = faults env e ++ own (verdict env (unary s o e))
faults env (binary s o a b) =
    asked_faults (operand_type o (type_of env b)) a (faults env a)
    ++ (asked_faults (operand_type o (type_of env a)) b (faults env b) ++ own (verdict env (binary s o a b)))

-- a variable's name with what it stands for
abbrev pub numbered_variable : CName → Option Variable → CName
numbered_variable x None = x
numbered_variable x (Some v) = record { text = x.text; span = x.span; kind = v.kind; number = v.number }

-- a field's name with its number
abbrev pub numbered_field : CName → Option (ℕ × Typed) → CName
numbered_field f None = f
numbered_field f (Some found) = record { text = f.text; span = f.span; kind = Field; number = found.0 }

-- an expression whose names say what they stand for
abbrev pub resolved : Env → CExpr → CExpr
resolved env (num s n) = num s n
resolved env (true_ s) = true_ s
resolved env (false_ s) = false_ s
resolved env (null s) = null s
resolved env (var x) = var (numbered_variable x (variable_named env x.text))
resolved env (field s e f) = field s (resolved env e) (numbered_field f (member env (type_of env e) f.text))
resolved env (arrow s e f) = arrow s (resolved env e) (numbered_field f (member env (target (type_of env e)) f.text))
resolved env (index s e i) = index s (resolved env e) (resolved env i)
resolved env (deref s e) = deref s (resolved env e)
resolved env (address s e) = address s (resolved env e)
resolved env (unary s o e) = unary s o (resolved env e)
resolved env (binary s o a b) = binary s o (resolved env a) (resolved env b)
