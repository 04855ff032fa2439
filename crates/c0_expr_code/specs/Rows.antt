-- The code of some expressions, word by word.
use Rattle.std.specs.Prelude.{◌≡◌, ℕ, Bool, true, false, List, [], ◌∷◌}
use Rattle.mips_table.specs.declared.inst.Inst.{Inst}
use Rattle.mips_table.specs.declared.inst.Inst.TheVariants.{Addu, Subu, Xor, Slt, J, Beq, Bne, Bltz, Addiu, Slti, Sltiu}
use Rattle.mips_table.specs.declared.inst.Inst.TheVariants.{Sltu, Ori, Xori, Lui, Lw, Sw, Sll, Mult, Div as Divide, Mfhi, Mflo}
use Rattle.c0_tree.specs.declared.tree.Kind.{Kind}
use Rattle.c0_tree.specs.declared.tree.Kind.TheVariants.{Global, Local, Field}
use Rattle.c0_tree.specs.declared.tree.UnaryOp.TheVariants.{Negate, Not}
use Rattle.c0_tree.specs.declared.tree.BinaryOp.TheVariants.{Add, Sub, Mul, Div, Rem, Lt, Le, Gt, Ge, Eq, Ne, And, Or}
use Rattle.c0_tree.specs.Tree.{CName, CExpr, num, null, var, arrow, index, address, unary, binary}
use Rattle.c0_meaning.specs.Ty.{Ty}
use Rattle.c0_meaning.specs.Ty as ty
use Rattle.c0_meaning.specs.Env.{Typed}
pub use Rattle.c0_meaning.specs.Bare.{z, number}
use Rattle.c0_meaning.specs.Operators.{KernelFault, NullUse, Bounds, DivZero, StackOut}
use Rattle.c0_typed.specs.Tree as typed
use Rattle.c0_expr_code.specs.declared.facts.Facts.{Facts}
use Rattle.c0_expr_code.specs.Facts.{facts_answered, facts_followed, found_sure, nothing_known, start_facts}
use Rattle.c0_expr_code.specs.Scope.{Scope}
use Rattle.c0_expr_code.specs.Code.{constant_code, scale_code, store_code, value_code, place_address}
use Rattle.c0_expr_code.specs.Test.{test_code}

-- a name by its kind and number
abbrev pub numbered_name : Kind → ℕ → CName
numbered_name k n = record { text = []; span = z; kind = k; number = n }

-- a declaration of a type
abbrev pub typed_as : Ty → Typed
typed_as t = record { text = []; ty = t }

-- the exits
abbrev pub exits : KernelFault → ℕ
exits NullUse = 100
exits Bounds = 101
exits DivZero = 102
exits StackOut = 103

-- struct node { int value; struct node* next; }; int g; int a[10]; struct node* first; int b[50000]; and the locals int i; struct node* n;
-- in a frame or in registers
abbrev pub row_scope : Bool → Scope
row_scope registers = record {
  env = record {
    structs = record { text = 1 ∷ []; fields = typed_as ty.int ∷ typed_as (ty.pointer (ty.named (1 ∷ []))) ∷ [] } ∷ [];
    globals = typed_as ty.int ∷ typed_as (ty.array ty.int 10) ∷ typed_as (ty.pointer (ty.named (1 ∷ []))) ∷ typed_as (ty.array ty.int 50000) ∷ [];
    functions = [];
    primitives = [];
    locals = typed_as ty.int ∷ typed_as (ty.pointer (ty.named (1 ∷ []))) ∷ [];
  };
  in_registers = registers;
  frame = 5;
  exit = exits;
}

-- the code of a value, where variables stand in registers or in the frame, and of a test, where they stand in registers; nothing is known of them
abbrev pub value_in_row : Bool → CExpr → (d r : ℕ) → List Inst
value_in_row registers e d r = value_code (row_scope registers) nothing_known e d r

abbrev pub row_test : CExpr → Bool → (far r : ℕ) → List Inst
row_test e s far r = test_code (row_scope true) nothing_known e s far r

-- the code of a value in a frame, and of a test in one, where something is known of variables
abbrev pub known_value : Facts → CExpr → (d r : ℕ) → List Inst
known_value fs e d r = value_code (row_scope false) fs e d r

abbrev pub known_test : Facts → CExpr → Bool → (far r : ℕ) → List Inst
known_test fs e s far r = test_code (row_scope false) fs e s far r

-- the variables by their names
abbrev pub g : CExpr
g = var (numbered_name Global 0)

abbrev pub a : CExpr
a = var (numbered_name Global 1)

abbrev pub b : CExpr
b = var (numbered_name Global 3)

abbrev pub i : CExpr
i = var (numbered_name Local 0)

abbrev pub n : CExpr
n = var (numbered_name Local 1)

-- a number below 0
abbrev pub negative_number : ℕ → CExpr
negative_number k = unary z Negate (num z k)

-- Constants; sums and differences with constants on either side; products, divisions, and divisions by a constant.
pub record AreSums : Type 0 where
  pub small : constant_code 20 65535 ≡ Ori 20 0 65535 ∷ []
  pub negative : value_in_row false (negative_number 2) 20 8 ≡ Addiu 20 0 65534 ∷ []
  pub large : constant_code 20 65536 ≡ Lui 20 1 ∷ Ori 20 20 0 ∷ []
  pub sum : value_in_row false (binary z Add g (number 1)) 20 8 ≡ Lw 8 28 0 ∷ Addiu 20 8 1 ∷ []
  pub left : value_in_row true (binary z Add (number 1) i) 20 8 ≡ Addiu 20 20 1 ∷ []
  pub difference : value_in_row true (binary z Sub i (number 1)) 21 8 ≡ Addiu 21 20 65535 ∷ []
  pub far : value_in_row true (binary z Sub i (number 40000)) 21 8 ≡ Ori 9 0 40000 ∷ Subu 21 20 9 ∷ []
  pub in_register : value_in_row true (binary z Add i g) 20 8 ≡ Lw 9 28 0 ∷ Addu 20 20 9 ∷ []
  pub product : value_in_row true (binary z Mul i i) 20 8 ≡ Mult 20 20 ∷ Mflo 20 ∷ []
  pub quotient : value_in_row true (binary z Div i g) 20 8 ≡ Lw 9 28 0 ∷ Bne 9 0 1 ∷ J 102 ∷ Divide 20 9 ∷ Mflo 20 ∷ []
  pub remainder : value_in_row true (binary z Rem i (number 10)) 20 8 ≡ Ori 9 0 10 ∷ Divide 20 9 ∷ Mfhi 20 ∷ []
  pub by_zero : value_in_row true (binary z Rem i (number 0)) 20 8 ≡ Bne 0 0 1 ∷ J 102 ∷ Divide 20 0 ∷ Mfhi 20 ∷ []

-- Places: elements with and without a test, a path through pointers, an address, a far element, a store, and sizes of elements.
pub record AreAddresses : Type 0 where
  pub known : value_in_row false (index z a (number 3)) 8 8 ≡ Lw 8 28 16 ∷ []
  pub last : value_in_row false (index z a (number 9)) 8 8 ≡ Lw 8 28 40 ∷ []
  pub outside : value_in_row false (index z a (number 10)) 8 8
      ≡ Ori 9 0 10 ∷ Sltiu 1 9 10 ∷ Bne 1 0 1 ∷ J 101 ∷ Sll 1 9 2 ∷ Addu 8 28 1 ∷ Lw 8 8 4 ∷ []
  pub element : value_in_row false (index z a i) 8 8
      ≡ Lw 9 29 65528 ∷ Sltiu 1 9 10 ∷ Bne 1 0 1 ∷ J 101 ∷ Sll 1 9 2 ∷ Addu 8 28 1 ∷ Lw 8 8 4 ∷ []
  pub long : value_in_row true (index z b i) 8 8 ≡ Ori 1 0 50000 ∷ Sltu 1 20 1 ∷ Bne 1 0 1 ∷ J 101 ∷ Sll 1 20 2 ∷ Addu 8 28 1 ∷ Lw 8 8 48 ∷ []
  pub far : value_in_row true (index z b (number 20000)) 9 8 ≡ Lui 1 1 ∷ Addu 8 28 1 ∷ Lw 9 8 14512 ∷ []
  pub path : value_in_row true (arrow z (arrow z n (numbered_name Field 1)) (numbered_name Field 0)) 8 8
      ≡ Bne 21 0 1 ∷ J 100 ∷ Lw 8 21 4 ∷ Bne 8 0 1 ∷ J 100 ∷ Lw 8 8 0 ∷ []
  pub place : value_in_row true (address z (index z a i)) 8 8 ≡ Sltiu 1 20 10 ∷ Bne 1 0 1 ∷ J 101 ∷ Sll 1 20 2 ∷ Addu 8 28 1 ∷ Addiu 8 8 4 ∷ []
  pub stored : store_code 8 9 (place_address (row_scope false) nothing_known i 9) ≡ Sw 8 29 65528 ∷ []
  pub power : scale_code 1024 9 ≡ Sll 1 9 12 ∷ []
  pub other : scale_code 3 9 ≡ Ori 1 0 12 ∷ Mult 9 1 ∷ Mflo 1 ∷ []
  pub large : scale_code 16385 9 ≡ Lui 1 1 ∷ Ori 1 1 4 ∷ Mult 9 1 ∷ Mflo 1 ∷ []

-- Comparisons as values and as tests, with constants, and `&&`, `||` and `!`.
pub record AreTests : Type 0 where
  pub less : value_in_row true (binary z Lt i (number 5)) 8 8 ≡ Slti 8 20 5 ∷ []
  pub at_most : value_in_row true (binary z Le i (negative_number 1)) 8 8 ≡ Slti 8 20 0 ∷ []
  pub above : value_in_row true (binary z Gt i (number 0)) 8 8 ≡ Slt 8 0 20 ∷ []
  pub at_least : value_in_row true (binary z Ge i (number 5)) 8 8 ≡ Slti 8 20 5 ∷ Xori 8 8 1 ∷ []
  pub most : value_in_row true (binary z Le i (number 32767)) 8 8 ≡ Ori 9 0 32767 ∷ Slt 8 9 20 ∷ Xori 8 8 1 ∷ []
  pub equal : value_in_row true (binary z Eq i (number 7)) 8 8 ≡ Xori 8 20 7 ∷ Sltiu 8 8 1 ∷ []
  pub none : value_in_row true (binary z Eq n (null z)) 8 8 ≡ Sltiu 8 21 1 ∷ []
  pub other : value_in_row true (binary z Ne i g) 8 8 ≡ Lw 9 28 0 ∷ Xor 8 20 9 ∷ Sltu 8 0 8 ∷ []
  pub both : value_in_row true (binary z And (binary z Lt i g) (unary z Not (binary z Eq n (null z)))) 8 8
      ≡ Lw 9 28 0 ∷ Slt 8 20 9 ∷ Beq 8 0 2 ∷ Sltiu 8 21 1 ∷ Xori 8 8 1 ∷ []
  pub test : row_test (binary z And (binary z Lt i g) (unary z Not (binary z Eq n (null z)))) false 7 8
      ≡ Lw 9 28 0 ∷ Slt 1 20 9 ∷ Beq 1 0 8 ∷ Beq 21 0 7 ∷ []
  pub over : row_test (binary z Or (binary z Lt i (number 0)) (binary z Ge i (number 9))) false 7 8
      ≡ Bltz 20 2 ∷ Slti 1 20 9 ∷ Bne 1 0 7 ∷ []
  pub back : row_test (binary z Or (binary z Lt i (number 0)) (binary z Ge i (number 9))) true 65530 8
      ≡ Bltz 20 65532 ∷ Slti 1 20 9 ∷ Beq 1 0 65530 ∷ []

-- n->next
abbrev pub n_next : CExpr
n_next = arrow z n (numbered_name Field 1)

-- What is known of variables: a parameter that its register still has, the variable that has an answer, and a pointer that isn't null: by what was
-- found before, but not by a side that may be skipped, by what the left side of `&&` and of `||` tells, and by what it follows.
pub record AreFactRows : Type 0 where
  pub param : known_value (start_facts false 2) (binary z Add i (number 1)) 20 8 ≡ Addiu 20 20 1 ∷ []
  pub behind : known_value (start_facts false 1) n 8 8 ≡ Lw 8 29 65532 ∷ []
  pub copied : known_value (start_facts false 2) n 20 8 ≡ Addu 20 21 0 ∷ []
  pub there : known_value (start_facts false 2) n 21 8 ≡ []
  pub answer : known_value (facts_answered nothing_known 0) (binary z Add i i) 2 8 ≡ Addu 2 2 2 ∷ []
  pub returned : known_value (facts_answered nothing_known 0) i 2 8 ≡ []
  pub sure : known_value (found_sure nothing_known 1) n_next 8 8 ≡ Lw 8 29 65532 ∷ Lw 8 8 4 ∷ []
  pub skipped : known_value (facts_followed (typed.either (typed.constant 0) (typed.target (typed.local 1 1))) nothing_known) n_next 8 8
      ≡ Lw 8 29 65532 ∷ Bne 8 0 1 ∷ J 100 ∷ Lw 8 8 4 ∷ []
  pub both : known_test nothing_known (binary z And (binary z Ne n (null z)) (binary z Ne n_next (null z))) false 7 8
      ≡ Lw 8 29 65532 ∷ Beq 8 0 10 ∷ Lw 8 29 65532 ∷ Lw 8 8 4 ∷ Beq 8 0 7 ∷ []
  pub again : known_test nothing_known (binary z And (binary z Ne n_next (null z)) (binary z Ne n_next (null z))) false 7 8
      ≡ Lw 8 29 65532 ∷ Bne 8 0 1 ∷ J 100 ∷ Lw 8 8 4 ∷ Beq 8 0 10 ∷ Lw 8 29 65532 ∷ Lw 8 8 4 ∷ Beq 8 0 7 ∷ []
  pub either : known_test nothing_known (binary z Or (binary z Eq n (null z)) (binary z Eq n_next (null z))) true 7 8
      ≡ Lw 8 29 65532 ∷ Beq 8 0 10 ∷ Lw 8 29 65532 ∷ Lw 8 8 4 ∷ Beq 8 0 7 ∷ []
