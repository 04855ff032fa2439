-- The laws of what is known of variables.
use Rattle.std.specs.Prelude.{◌≡◌, ℕ, ◌≤◌, Bool, true, false, List, Ok}
use Rattle.mips_table.specs.Code.{Contents, World}
use Rattle.c0_tree.specs.Tree.{CExpr}
use Rattle.c0_meaning.specs.Ty.{Ty, bool, is_scalar}
use Rattle.c0_meaning.specs.Env.{Env, Shape}
use Rattle.c0_meaning.specs.Value.{Location, Value}
use Rattle.c0_meaning.specs.State.{C0State, variables_of, write}
use Rattle.c0_meaning.specs.TypedState.{LeadsFrom}
use Rattle.c0_meaning.specs.Evaluation.{costs, truth, value_of, place_of}
use Rattle.c0_meaning.specs.Numbered.{IsNumberedGiven}
use Rattle.c0_typed.specs.Tree.{TExpr}
use Rattle.c0_typed.specs.Typed.{typed_of_expr}
use Rattle.c0_expr_code.specs.declared.facts.Facts.{Facts}
use Rattle.c0_expr_code.specs.Facts.{facts_followed, facts_told, stored_in, IsWithin, HaveSameRegisters, IsFreeRegister, SureHold}
use Rattle.c0_expr_code.specs.Scope.{Scope}
use Rattle.c0_expr_runs.specs.Bases.{Bases, types_in, location_word}
use Rattle.c0_expr_runs.specs.Relation.{StateIsTyped, KeepsRegisters, Area, FactsHold}
use Rattle.c0_expr_runs.specs.Laws.{RegionsApart, memory_with}

-- Where an expression has a value or a place, the variables that it followed aren't null; where a typed test came out so, what it told holds; and
-- neither says anything of registers.
pub record FactsGrow : Type 0 where
  pub value : (env : Env) (fs : Facts) (e : CExpr) (s : C0State) (k : ℕ) (v : Value) → value_of e s ≡ costs k (Ok v)
      → SureHold fs (variables_of s.frames) → SureHold (facts_followed (typed_of_expr env e) fs) (variables_of s.frames)
  pub place : (env : Env) (fs : Facts) (e : CExpr) (s : C0State) (k : ℕ) (l : Location) → place_of e s ≡ costs k (Ok l)
      → SureHold fs (variables_of s.frames) → SureHold (facts_followed (typed_of_expr env e) fs) (variables_of s.frames)
  pub test : (sc : Scope) (p : Bases) (fs : Facts) (e : CExpr) (s : C0State) (k : ℕ) (b : Bool) → StateIsTyped sc p s → IsNumberedGiven sc.env e bool
      → truth (value_of e s) ≡ costs k (Ok b)
      → SureHold fs (variables_of s.frames) → SureHold (facts_told (typed_of_expr sc.env e) b fs) (variables_of s.frames)
  pub same_followed : (e : TExpr) (fs : Facts) → HaveSameRegisters (facts_followed e fs) fs
  pub same_told : (e : TExpr) (b : Bool) (fs : Facts) → HaveSameRegisters (facts_told e b fs) fs

-- What is known holds on where code keeps its registers, and goes to none that has a variable's word; fewer facts hold where more do; and where a
-- scalar is stored, those that say nothing of it.
pub record FactsStay : Type 0 where
  pub kept : (sc : Scope) (p : Bases) (fs : Facts) (s : C0State) (a b : Contents) (r d : ℕ) → 8 ≤ r → KeepsRegisters r d a b
      → (sc.in_registers ≡ false → IsFreeRegister fs d) → FactsHold sc p fs s a → FactsHold sc p fs s b
  pub within : (sc : Scope) (p : Bases) (less more : Facts) (s : C0State) (c : Contents) → IsWithin less more
      → FactsHold sc p more s c → FactsHold sc p less s c
  pub written : (fs : Facts) (s : C0State) (l : Location) (x : Value) (structs : List Shape) (types : List Ty) (t : Ty) → LeadsFrom structs types l.path t
      → SureHold fs (variables_of s.frames) → SureHold (stored_in l.region l.path fs) (variables_of (write s l x).frames)
  pub in_memory : (w : World) (sc : Scope) (p : Bases) (fs : Facts) (s : C0State) (c : Contents) → Area w sc p → RegionsApart sc p → FactsHold sc p fs s c
      → (l : Location) (t : Ty) (x : Value) (v : ℕ) → LeadsFrom sc.env.structs (types_in sc p l.region) l.path t → is_scalar t ≡ true
      → FactsHold sc p (stored_in l.region l.path fs) (write s l x) (memory_with c (location_word sc p l) v)
