-- What is proved of the typed tree.
use Rattle.std.specs.Prelude.{◌≡◌, ℕ, ◌*◌, ◌%◌, ◌^◌, ◌<◌, ◌≤◌, List, length, Option, Some}
use Rattle.c0_tree.specs.declared.tree.Kind.TheVariants.{Global, Local}
use Rattle.c0_tree.specs.Tree.{CExpr, CUnit}
use Rattle.c0_meaning.specs.Ty.{Ty, array}
use Rattle.c0_meaning.specs.Env.{Env, Shape}
use Rattle.c0_meaning.specs.Bare.{bare, bare_expr}
use Rattle.c0_meaning.specs.Sizes.{WORDS_CAP, words_before}
use Rattle.c0_meaning.specs.TypedState.{types_of}
use Rattle.c0_meaning.specs.Words.{words}
use Rattle.c0_typed.specs.declared.sorted.Plain.{Plain}
use Rattle.c0_typed.specs.Sorted.{plain_of}
use Rattle.c0_typed.specs.Tree.{TExpr, global, local, plain}
use Rattle.c0_typed.specs.Typed.{field_types, field_bytes, elements_in, typed_binary, typed_of_expr, typed_of_unit, typed_variable}

-- Variables stand behind the words of those before them.
pub record VariablesAreThose : Type 0 where
  pub of_globals : (env : Env) (n : ℕ) → n < length env.globals
      → typed_variable env Global n ≡ global (4 * words_before env.structs (types_of env.globals) n % 2 ^ 32)
  pub of_locals : (env : Env) (n : ℕ) → n < length env.locals
      → typed_variable env Local n ≡ local n (words_before env.structs (types_of env.locals) n)

-- So do fields.
abbrev pub FieldsAreThose : Type 0
FieldsAreThose = (structs : List Shape) (t : Option Ty) (n : ℕ) → n < length (field_types structs t)
    → field_bytes structs t n ≡ 4 * words_before structs (field_types structs t) n % 2 ^ 32

-- The element of a number begins behind the bytes of those before it, and an element of few words has these words.
pub record ElementsAreThose : Type 0 where
  pub before : (structs : List Shape) (t : Ty) (n c : ℕ) → c * (elements_in structs (Some (array t n))).bytes % 2 ^ 32 ≡ 4 * (c * words structs t) % 2 ^ 32
  pub few : (structs : List Shape) (t : Ty) (n : ℕ) → words structs t ≤ WORDS_CAP → (elements_in structs (Some (array t n))).words ≡ words structs t
  pub many : (structs : List Shape) (t : Ty) (n : ℕ) → WORDS_CAP ≤ words structs t → (elements_in structs (Some (array t n))).words ≡ WORDS_CAP

-- An operator on two registers is sorted as the operator of C0 that it is.
abbrev pub OperatorsAreThose : Type 0
OperatorsAreThose = (o : Plain) (a b : TExpr) → typed_binary (plain_of o) a b ≡ plain o a b

-- Spans in the source don't matter.
pub record TreesIgnoreSpans : Type 0 where
  pub expressions : (env : Env) (e : CExpr) → typed_of_expr env (bare_expr e) ≡ typed_of_expr env e
  pub units : (u : CUnit) → typed_of_unit (bare u) ≡ typed_of_unit u
