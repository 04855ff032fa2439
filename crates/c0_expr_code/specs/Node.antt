-- The code of a typed tree: one fold, that gives for each node its code as a value, its place, where it stands without code, and which constant it is.
-- It asks for no type: each number that the code needs stands in the tree.
use Rattle.std.specs.Prelude.{◌≡◌, ℕ, ◌+◌, ◌*◌, ◌%◌, ◌^◌, Bool, true, false, not, if◌then◌else◌, List, [], ◌∷◌, ◌++◌, None}
use Rattle.mips_table.specs.declared.inst.Inst.{Inst}
use Rattle.mips_table.specs.declared.inst.Inst.TheVariants.{Addu, Subu, J, Beq, Bne, Addiu, Xori, Div as Divide, Mfhi, Mflo}
use Rattle.masm.specs.declared.registers.TheConstants.{SCRATCH, GLOBALS, FRAME_END}
use Rattle.c0_tree.specs.Tree.{CExpr}
use Rattle.c0_meaning.specs.Ty.{Ty}
use Rattle.c0_meaning.specs.Numbered.{IsNumberedGiven}
use Rattle.c0_meaning.specs.Operators.{Bounds, DivZero}
use Rattle.c0_typed.specs.declared.sorted.Plain.{Plain}
use Rattle.c0_typed.specs.declared.sorted.Plain.TheVariants.{Sum, Difference, Product, Order, Equal, Different}
use Rattle.c0_typed.specs.declared.tree.Elements.{Elements}
use Rattle.c0_typed.specs.Sorted.{plain_of}
use Rattle.c0_typed.specs.Tree.{TExpr, global, local, part, element, target, constant, address, negative, negation, plain, quotient, remainder, both, either}
use Rattle.c0_typed.specs.Typed.{typed_of_expr}
use Rattle.c0_expr_code.specs.Scope.{Scope}
use Rattle.c0_expr_code.specs.declared.facts.Facts.{Facts}
use Rattle.c0_expr_code.specs.Facts.{is_sure_pointer, register_holding, register_of_variable}
use Rattle.c0_expr_code.specs.FrameSetting.{FrameSetting, frame_back, frame_setting, where_told}
use Rattle.c0_expr_code.specs.Code as code
use Rattle.c0_expr_code.specs.Code.{AddressingMode, Made, access_code, at_place, bound_code, displaced, frame_made, immediate_of}
use Rattle.c0_expr_code.specs.Code.{is_never_zero, logic_code, made, null_test, one_code, only_value, operand_code, operand_register}
use Rattle.c0_expr_code.specs.Code.{operator_made, register_made, shift_within, sum_made, two_code, POWERS}
use Rattle.c0_expr_code.specs.Emit.{scaled_at}
use Rattle.c0_expr_code.specs.Test.{Testing, both_code, compare_test, immediate_test_of, plain_test, test_code}

-- the global so many bytes behind the first one
abbrev pub global_place : ℕ → AddressingMode
global_place k = record { code = []; base = GLOBALS; displacement = k }

-- the variable so many words behind the first one in the frame, which begins with three words of its own; bytes are counted from the frame's end
abbrev pub local_place : FrameSetting → ℕ → AddressingMode
local_place st w = record { code = []; base = FRAME_END; displacement = (frame_back st + (12 + 4 * w)) % 2 ^ 32 }

-- a parameter or local
abbrev pub local_node : FrameSetting → (number words : ℕ) → Made
local_node st n w = if st.in_registers then register_made (register_of_variable n) else frame_made (register_holding st.facts n) (λ r. local_place st w)

-- what a pointer points to
abbrev pub target_place : FrameSetting → (sure : Bool) → Made → ℕ → AddressingMode
target_place st sure m r =
    record { code = operand_code m r ++ null_test st.exit sure (operand_register m r); base = operand_register m r; displacement = 0 }

-- the test of an index in q, and then the address in r of its element behind b
abbrev pub element_test : FrameSetting → Elements → (q b r : ℕ) → List Inst
element_test st x q b r =
    bound_code q x.count ++ (Bne SCRATCH 0 1 ∷ J (st.exit Bounds) ∷ (scaled_at (shift_within POWERS x.words) x.bytes q ++ (Addu r b SCRATCH ∷ [])))

-- an element of a place
abbrev pub element_place : FrameSetting → Elements → AddressingMode → Made → ℕ → AddressingMode
element_place st x a m r =
    record { code = a.code ++ (operand_code m (r + 1) ++ element_test st x (operand_register m (r + 1)) a.base r); base = r; displacement = a.displacement }

-- an operator on two registers, whose right side may be a constant; of a sum either side
abbrev pub plain_node : Plain → (a b : Made) → Made
plain_node Sum a b = sum_made (immediate_of (plain_of Sum) b.known) (immediate_of (plain_of Sum) a.known) a b
plain_node Difference a b = operator_made (immediate_of (plain_of Difference) b.known) (plain_of Difference) a b
plain_node Product a b = operator_made (immediate_of (plain_of Product) b.known) (plain_of Product) a b
plain_node (Order o) a b = operator_made (immediate_of (plain_of (Order o)) b.known) (plain_of (Order o)) a b
plain_node Equal a b = operator_made (immediate_of (plain_of Equal) b.known) (plain_of Equal) a b
plain_node Different a b = operator_made (immediate_of (plain_of Different) b.known) (plain_of Different) a b

-- the test of a divisor, unless it is known to be other than 0
abbrev pub divisor_test : FrameSetting → Bool → ℕ → List Inst
divisor_test st true t = []
divisor_test st false t = Bne t 0 1 ∷ J (st.exit DivZero) ∷ []

-- a division, and what is taken of it
abbrev pub division_node : FrameSetting → (ℕ → Inst) → (a b : Made) → Made
division_node st takes a b = only_value (λ d r. two_code (λ q t. divisor_test st (is_never_zero b.known) t ++ (Divide q t ∷ takes d ∷ [])) a b r)

-- every node
abbrev pub node_made : FrameSetting → TExpr → Made
node_made st (global k) = at_place (λ r. global_place k)
node_made st (local n w) = local_node st n w
node_made st (part p k) = at_place (λ r. displaced k ((node_made st p).place r))
node_made st (element p i x) = at_place (λ r. element_place st x ((node_made st p).place r) (node_made st i) r)
node_made st (target p) = at_place (λ r. target_place st (is_sure_pointer st.facts p) (node_made st p) r)
node_made st (constant k) = code.constant k None
node_made st (address p) = only_value (λ d r. access_code (λ b k. Addiu d b k) r ((node_made st p).place r))
node_made st (negative e) = only_value (λ d r. one_code (λ q. Subu d 0 q ∷ []) (node_made st e) r)
node_made st (negation e) = only_value (λ d r. one_code (λ q. Xori d q 1 ∷ []) (node_made st e) r)
node_made st (plain o a b) = plain_node o (node_made st a) (node_made st b)
node_made st (quotient a b) = division_node st (λ d. Mflo d) (node_made st a) (node_made st b)
node_made st (remainder a b) = division_node st (λ d. Mfhi d) (node_made st a) (node_made st b)
node_made st (both a b) = only_value (λ d r. logic_code (λ k. Beq r 0 k) (node_made st a) (node_made (where_told st a true) b) d r)
node_made st (either a b) = only_value (λ d r. logic_code (λ k. Bne r 0 k) (node_made st a) (node_made (where_told st a false) b) d r)

-- an operator on two registers as a test: a comparison, whose right side may be a constant; the value of another isn't tested
abbrev pub order_test : Plain → (m a b : Made) → Testing
order_test Sum m a b s far r = plain_test m s far r
order_test Difference m a b s far r = plain_test m s far r
order_test Product m a b s far r = plain_test m s far r
order_test (Order o) m a b s far r = compare_test (immediate_test_of (plain_of (Order o)) b.known) (plain_of (Order o)) a b s far r
order_test Equal m a b s far r = compare_test None (plain_of Equal) a b s far r
order_test Different m a b s far r = compare_test None (plain_of Different) a b s far r

-- every test
abbrev pub node_test : FrameSetting → TExpr → Testing
node_test st (negation e) s far r = node_test st e (not s) far r
node_test st (plain o a b) s far r = order_test o (node_made st (plain o a b)) (node_made st a) (node_made st b) s far r
node_test st (both a b) s far r = both_code false s (node_test st a) (node_test (where_told st a true) b) far r
node_test st (either a b) s far r = both_code true s (node_test st a) (node_test (where_told st a false) b) far r
node_test st e s far r = plain_test (node_made st e) s far r

-- Two nodes have the same code, as value and as place, stand in the same register, and are the same constant.
pub record IsSameMade (m n : Made) : Type 0 where
  pub value : (d r : ℕ) → m.value d r ≡ n.value d r
  pub place : (r : ℕ) → m.place r ≡ n.place r
  pub stands : m.stands ≡ n.stands
  pub register : m.register ≡ n.register
  pub known : m.known ≡ n.known

-- A law: the code of the typed tree of a typed expression is that of the expression, and so is that of its test.
pub record NodesAreMade : Type 0 where
  pub nodes : (sc : Scope) (fs : Facts) (e : CExpr) (t : Ty) → IsNumberedGiven sc.env e t
      → IsSameMade (made sc fs e) (node_made (frame_setting sc fs) (typed_of_expr sc.env e))
  pub tests : (sc : Scope) (fs : Facts) (e : CExpr) (t : Ty) → IsNumberedGiven sc.env e t
      → (s : Bool) (far r : ℕ) → test_code sc fs e s far r ≡ node_test (frame_setting sc fs) (typed_of_expr sc.env e) s far r
