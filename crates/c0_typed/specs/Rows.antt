-- The typed trees of some expressions and statements.
use Rattle.std.specs.Prelude.{◌≡◌, ℕ, [], ◌∷◌}
use Rattle.c0_tree.specs.declared.tree.Kind.{Kind}
use Rattle.c0_tree.specs.declared.tree.Kind.TheVariants.{Unresolved, Global, Local, Field, Function}
use Rattle.c0_tree.specs.declared.tree.UnaryOp.TheVariants.{Negate, Not}
use Rattle.c0_tree.specs.declared.tree.BinaryOp.TheVariants.{Add, Rem, Ge, And}
use Rattle.c0_tree.specs.Tree.{CName, CExpr, num, true_, null, var, arrow, index, deref, unary, binary}
use Rattle.c0_tree.specs.Tree as tree
use Rattle.c0_meaning.specs.Ty.{Ty}
use Rattle.c0_meaning.specs.Ty as ty
use Rattle.c0_meaning.specs.Env.{Env, Typed}
use Rattle.c0_meaning.specs.Bare.{z}
use Rattle.c0_typed.specs.declared.sorted.Order.TheVariants.{GreaterOrEqual}
use Rattle.c0_typed.specs.declared.sorted.Plain.TheVariants.{Sum, Order}
use Rattle.c0_typed.specs.declared.tree.Elements.{Elements}
use Rattle.c0_typed.specs.Tree.{TExpr, global, local, part, element, target, constant, address, negative}
use Rattle.c0_typed.specs.Tree.{negation, plain, remainder, both, assign, call, new, loop, done}
use Rattle.c0_typed.specs.Typed.{typed_of_expr, typed_of_stmt}

-- a name by its kind and number
abbrev row_name : Kind → ℕ → CName
row_name k n = record { text = []; span = z; kind = k; number = n }

-- a declaration of a type
abbrev row_decl : Ty → Typed
row_decl t = record { text = []; ty = t }

-- struct node { int value; struct node* next; }; int g; int a[10]; struct node* first; int b[50000]; and the locals int i; struct node* n;
abbrev row_env : Env
row_env = record {
  structs = record { text = 1 ∷ []; fields = row_decl ty.int ∷ row_decl (ty.pointer (ty.named (1 ∷ []))) ∷ [] } ∷ [];
  globals = row_decl ty.int ∷ row_decl (ty.array ty.int 10) ∷ row_decl (ty.pointer (ty.named (1 ∷ []))) ∷ row_decl (ty.array ty.int 50000) ∷ [];
  functions = [];
  primitives = [];
  locals = row_decl ty.int ∷ row_decl (ty.pointer (ty.named (1 ∷ []))) ∷ [];
}

-- the tree of an expression
abbrev row_tree : CExpr → TExpr
row_tree e = typed_of_expr row_env e

-- the variables by their names
abbrev row_a : CExpr
row_a = var (row_name Global 1)

abbrev row_i : CExpr
row_i = var (row_name Local 0)

abbrev row_n : CExpr
row_n = var (row_name Local 1)

-- n->next, and its tree
abbrev row_next : CExpr
row_next = arrow z row_n (row_name Field 1)

abbrev row_next_tree : TExpr
row_next_tree = part (target (local 1 1)) 4

-- the elements of a
abbrev row_elements : Elements
row_elements = record { count = 10; words = 1; bytes = 4 }

-- Places: variables, elements with and without a test, a path through pointers, and an address; a name that stands for no variable counts 0.
pub record PlacesAreTyped : Type 0 where
  pub first : row_tree (var (row_name Global 0)) ≡ global 0
  pub last : row_tree (var (row_name Global 3)) ≡ global 48
  pub variable : row_tree row_n ≡ local 1 1
  pub known : row_tree (index z row_a (num z 3)) ≡ part (global 4) 12
  pub outside : row_tree (index z row_a (num z 10)) ≡ element (global 4) (constant 10) row_elements
  pub tested : row_tree (index z row_a row_i) ≡ element (global 4) (local 0 0) row_elements
  pub path : row_tree (arrow z row_next (row_name Field 0)) ≡ part (target row_next_tree) 0
  pub behind : row_tree (deref z (tree.address z (index z row_a row_i))) ≡ target (address (element (global 4) (local 0 0) row_elements))
  pub unresolved : row_tree (var (row_name Unresolved 0)) ≡ constant 0
  pub absent : row_tree (var (row_name Global 4)) ≡ global 0

-- Values: constants, a number below 0, and operators.
pub record ValuesAreTyped : Type 0 where
  pub truth : row_tree (true_ z) ≡ constant 1
  pub nowhere : row_tree (null z) ≡ constant 0
  pub below : row_tree (unary z Negate (num z 5)) ≡ constant 4294967291
  pub twice : row_tree (unary z Negate (unary z Negate (num z 5))) ≡ negative (constant 4294967291)
  pub sum : row_tree (binary z Add row_i (num z 1)) ≡ plain Sum (local 0 0) (constant 1)
  pub rest : row_tree (binary z Rem row_i (num z 10)) ≡ remainder (local 0 0) (constant 10)
  pub logic : row_tree (binary z And (binary z Ge row_i (num z 0)) (unary z Not (true_ z)))
      ≡ both (plain (Order GreaterOrEqual) (local 0 0) (constant 0)) (negation (constant 1))

-- Statements: n = n->next; i = f2(i); n = new struct node*; while (true) { }
pub record StatementsAreTyped : Type 0 where
  pub assigned : typed_of_stmt row_env (tree.assign z row_n row_next) ≡ assign (local 1 1) row_next_tree
  pub called : typed_of_stmt row_env (tree.call z row_i z (row_name Function 2) (row_i ∷ [])) ≡ call Function 2 (local 0 0 ∷ []) (local 0 0)
  pub made : typed_of_stmt row_env (tree.new z row_n (tree.pointer tree.int) z) ≡ new 1 (local 1 1)
  pub turned : typed_of_stmt row_env (tree.loop z (true_ z) tree.done) ≡ loop (constant 1) done
