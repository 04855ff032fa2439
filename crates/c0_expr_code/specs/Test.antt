-- The code of a test: it branches where the expression is s, and else falls through. The target is given by its distance from the
-- end of the test's code, modulo 2 ^ 16.
use Rattle.std.specs.Prelude.{ℕ, ◌+◌, ◌%◌, ◌^◌, Bool, true, false, not, ◌==◌, if◌then◌else◌, List, [], ◌∷◌, ◌++◌, length, Option, Some, None}
use Rattle.mips_table.specs.declared.inst.Inst.{Inst}
use Rattle.mips_table.specs.declared.inst.Inst.TheVariants.{Slt, Slti, Beq, Bne, Bltz, Bgez, Blez, Bgtz}
use Rattle.masm.specs.declared.registers.TheConstants.{SCRATCH}
use Rattle.c0_tree.specs.declared.tree.UnaryOp.{UnaryOp}
use Rattle.c0_tree.specs.declared.tree.UnaryOp.TheVariants.{Negate, Not}
use Rattle.c0_tree.specs.declared.tree.BinaryOp.{BinaryOp}
use Rattle.c0_tree.specs.declared.tree.BinaryOp.TheVariants.{Add, Sub, Mul, Div, Rem, Lt, Le, Gt, Ge, Eq, Ne, And, Or}
use Rattle.c0_tree.specs.Tree.{CExpr, unary, binary}
use Rattle.c0_typed.specs.Typed.{typed_of_expr}
use Rattle.c0_expr_code.specs.declared.facts.Facts.{Facts}
use Rattle.c0_expr_code.specs.Scope.{Scope}
use Rattle.c0_expr_code.specs.Code.{low, is_near, Made, one_code, two_code, made, right_facts}

-- to the target where two registers are equal, or where they differ
abbrev pub branch_code : Bool → (q t far : ℕ) → Inst
branch_code true q t far = Beq q t far
branch_code false q t far = Bne q t far

-- to the target where a word is below 0, or where it isn't
abbrev pub negative_branch : Bool → (q far : ℕ) → Inst
negative_branch true q far = Bltz q far
negative_branch false q far = Bgez q far

-- to the target where a word is above 0, or where it isn't
abbrev pub positive_branch : Bool → (q far : ℕ) → Inst
positive_branch true q far = Bgtz q far
positive_branch false q far = Blez q far

-- a comparison of two registers as a test
abbrev pub compare_code : BinaryOp → Bool → (far q t : ℕ) → List Inst
compare_code Eq s far q t = branch_code s q t far ∷ []
compare_code Ne s far q t = branch_code (not s) q t far ∷ []
compare_code Lt s far q t = Slt SCRATCH q t ∷ branch_code (not s) SCRATCH 0 far ∷ []
compare_code Gt s far q t = Slt SCRATCH t q ∷ branch_code (not s) SCRATCH 0 far ∷ []
compare_code Le s far q t = Slt SCRATCH t q ∷ branch_code s SCRATCH 0 far ∷ []
compare_code Ge s far q t = Slt SCRATCH q t ∷ branch_code s SCRATCH 0 far ∷ []
compare_code Add s far q t = []
compare_code Sub s far q t = []
compare_code Mul s far q t = []
compare_code Div s far q t = []
compare_code Rem s far q t = []
compare_code And s far q t = []
compare_code Or s far q t = []

-- a comparison of a register with a constant as a test, where an instruction has room for the constant
abbrev pub ImmediateTest : Type 0
ImmediateTest = Option (Bool → (far q : ℕ) → List Inst)

-- whether a register is below a word that an instruction has room for
abbrev pub below_code : ℕ → Bool → (far q : ℕ) → List Inst
below_code k s far q = Slti SCRATCH q (low k) ∷ branch_code (not s) SCRATCH 0 far ∷ []

abbrev pub test_when_near : ℕ → (Bool → (far q : ℕ) → List Inst) → ImmediateTest
test_when_near k code = if is_near k then Some code else None

abbrev pub immediate_test : BinaryOp → ℕ → ImmediateTest
immediate_test Lt k = if k == 0 then Some (λ s far q. negative_branch s q far ∷ []) else test_when_near k (λ s far q. below_code k s far q)
immediate_test Ge k = if k == 0 then Some (λ s far q. negative_branch (not s) q far ∷ []) else test_when_near k (λ s far q. below_code k (not s) far q)
immediate_test Gt k =
    if k == 0 then Some (λ s far q. positive_branch s q far ∷ [])
    else test_when_near ((k + 1) % 2 ^ 32) (λ s far q. below_code ((k + 1) % 2 ^ 32) (not s) far q)
immediate_test Le k =
    if k == 0 then Some (λ s far q. positive_branch (not s) q far ∷ [])
    else test_when_near ((k + 1) % 2 ^ 32) (λ s far q. below_code ((k + 1) % 2 ^ 32) s far q)
immediate_test Eq k = None
immediate_test Ne k = None
immediate_test Add k = None
immediate_test Sub k = None
immediate_test Mul k = None
immediate_test Div k = None
immediate_test Rem k = None
immediate_test And k = None
immediate_test Or k = None

-- with the word that the right side is known to be
abbrev pub immediate_test_of : BinaryOp → Option ℕ → ImmediateTest
immediate_test_of o None = None
immediate_test_of o (Some k) = immediate_test o k

-- a test's code, by s, the distance, and the free registers
abbrev pub Testing : Type 0
Testing = Bool → (far r : ℕ) → List Inst

-- a comparison, whose right side may be a constant
abbrev pub compare_test : ImmediateTest → BinaryOp → Made → Made → Testing
compare_test (Some f) o a b s far r = one_code (λ q. f s far q) a r
compare_test None o a b s far r = two_code (λ q t. compare_code o s far q t) a b r

-- both tests: where the first alone decides for s it goes to the target, and else over the second
abbrev pub both_code : (decides s : Bool) → Testing → Testing → (far r : ℕ) → List Inst
both_code true true a b far r = a true ((far + length (b true far r)) % 2 ^ 16) r ++ b true far r
both_code true false a b far r = a true (length (b false far r) % 2 ^ 16) r ++ b false far r
both_code false true a b far r = a false (length (b true far r) % 2 ^ 16) r ++ b true far r
both_code false false a b far r = a false ((far + length (b false far r)) % 2 ^ 16) r ++ b false far r

-- a bool in a register
abbrev pub plain_test : Made → Testing
plain_test m s far r = one_code (λ q. branch_code (not s) q 0 far ∷ []) m r

-- an operator between two operands, by these and by their tests; the value of an operator that gives no bool isn't tested
abbrev pub binary_test : BinaryOp → Made → Made → Made → Testing → Testing → Testing
binary_test Add m ma mb a b s far r = plain_test m s far r
binary_test Sub m ma mb a b s far r = plain_test m s far r
binary_test Mul m ma mb a b s far r = plain_test m s far r
binary_test Div m ma mb a b s far r = plain_test m s far r
binary_test Rem m ma mb a b s far r = plain_test m s far r
binary_test And m ma mb a b s far r = both_code false s a b far r
binary_test Or m ma mb a b s far r = both_code true s a b far r
binary_test Lt m ma mb a b s far r = compare_test (immediate_test_of Lt mb.known) Lt ma mb s far r
binary_test Le m ma mb a b s far r = compare_test (immediate_test_of Le mb.known) Le ma mb s far r
binary_test Gt m ma mb a b s far r = compare_test (immediate_test_of Gt mb.known) Gt ma mb s far r
binary_test Ge m ma mb a b s far r = compare_test (immediate_test_of Ge mb.known) Ge ma mb s far r
binary_test Eq m ma mb a b s far r = compare_test None Eq ma mb s far r
binary_test Ne m ma mb a b s far r = compare_test None Ne ma mb s far r

-- an operator before an operand
abbrev pub unary_test : UnaryOp → Made → Testing → Testing
unary_test Negate m e s far r = plain_test m s far r
unary_test Not m e s far r = e (not s) far r

-- every test
abbrev pub test_code : Scope → Facts → CExpr → Testing
test_code sc fs (unary p o e) s far r = unary_test o (made sc fs (unary p o e)) (test_code sc fs e) s far r
test_code sc fs (binary p o a b) s far r =
    binary_test o (made sc fs (binary p o a b)) (made sc fs a) (made sc (right_facts o (typed_of_expr sc.env a) fs) b)
    (test_code sc fs a) (test_code sc (right_facts o (typed_of_expr sc.env a) fs) b) s far r
test_code sc fs e s far r = plain_test (made sc fs e) s far r
