-- The types of parts keep what is resolved: so what a pointer points to is elaborated, and an address.
use Rattle.std.proofs.Common.{if◌then◌else◌, List, Option, None, option_map, ap, ◌∙◌, IfOk, Ok, Err}
use Rattle.std.specs.declared.result.Result.{Result}
use Rattle.c0_tree.specs.declared.tree.Span.{Span}
use Rattle.c0_tree.specs.Tree.{CExpr, deref}
use Rattle.c0_tree.specs.Tree as tree
use Rattle.c0_meaning.specs.Env.{Shape}
use Rattle.c0_meaning.specs.Expression as expression
use Rattle.c0_meaning.specs.Expression.{is_lvalue}
use Rattle.c0_meaning.specs.Ty.{Ty, pointer}
use Rattle.c0_meaning.specs.TypeAt.{IsFoundResolved}
use Rattle.c0_meaning.specs.declared.form.Found.{Found}
use Rattle.c0_typed.specs.declared.elaborated.Elaborated.{Elaborated}
use Rattle.c0_typed.specs.declared.seen_function.SeenFunction.{SeenFunction}
use Rattle.c0_typed.specs.Elaborated.{IsAddressOf, IsElaborated, StaysResolved, IsTargetOf}
use Rattle.c0_typed.specs.Tree.{address, target}

pub resolved : (structs : List Shape) (from to : Found) → StaysResolved from to → IsFoundResolved structs from → IsFoundResolved structs to
resolved structs from to k r = k.kept structs r

-- what a pointer that is elaborated points to
pub target_is : {E : Type 0} (f : SeenFunction) (s : Span) (e : CExpr) (p : Elaborated) (r : Result Elaborated E)
    → IsElaborated f e p → IfOk r (IsTargetOf p) → IfOk r (IsElaborated f (deref s e))
target_is f s e p (Ok x) is t = record {
  tree = t.tree ∙ ap target is.tree;
  ty = t.ty ∙ ap expression.target is.ty;
  declared = λ h. t.declared;
  resolved = t.resolved.kept _ is.resolved;
}
target_is f s e p (Err x) is t = tt

-- the address of what is elaborated
pub address_is : {E : Type 0} (f : SeenFunction) (s : Span) (e : CExpr) (p : Elaborated) (r : Result Elaborated E)
    → IsElaborated f e p → IfOk r (IsAddressOf e p) → IfOk r (IsElaborated f (tree.address s e))
address_is f s e p (Ok x) is t = record {
  tree = t.tree ∙ ap address is.tree;
  ty = t.ty ∙ ap (λ (a : Option Ty). if is_lvalue e then option_map pointer a else None) is.ty;
  declared = λ h. cc;
  resolved = t.resolved.kept _ is.resolved;
}
address_is f s e p (Err x) is t = tt
