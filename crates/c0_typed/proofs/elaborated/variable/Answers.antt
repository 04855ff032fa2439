use Rattle.std.proofs.Common.{◌≡◌, ℕ, zero, suc, ◌<◌, List, [], ◌∷◌, length, Option, Some, None, refl, arith, rules}
use Rattle.std.specs.Prelude.{option_map, slice_get}
use Rattle.c0_tree.specs.declared.tree.Kind.{Kind}
use Rattle.c0_tree.specs.Tree.{CFunction, CUnit}
use Rattle.c0_meaning.specs.Env.{Typed}
use Rattle.c0_meaning.specs.Numbered.{variable_at}
use Rattle.c0_meaning.specs.Ty.{Ty}
use Rattle.c0_meaning.specs.TypeAt.{IsAt, variable_type}
use Rattle.c0_typed.specs.Seen.{env_at}
use Rattle.c0_typed.specs.SeenEnv.{unit_seen}
use Rattle.c0_typed.proofs.elaborated.variable.Goals as goal

-- an entry below the length is there
is_there : {A : Type 0} (xs : List A) (n : ℕ) → slice_get xs n ≡ None → n < length xs → ⊥
is_there [] n e below = omega arith
is_there (x ∷ xs) zero e below = cc
is_there (x ∷ xs) (suc n) e below = is_there xs n e (omega arith)

-- a variable's type in the function of a number, as it is in each function that stands there
told : (u : CUnit) (n : ℕ) (k : Kind) (m : ℕ) (t : Option Ty) (o : Option CFunction) → slice_get u.functions n ≡ o → n < length u.functions
    → ((f : CFunction) → IsAt n u f → t ≡ variable_type u f k m) → t ≡ option_map (λ (d : Typed). d.ty) (variable_at (env_at u o) k m)
told u n k m t None e below h = absurd (is_there u.functions n e below)
told u n k m t (Some f) e below h = h f e

pub returns : goal.returns
returns c = record {
  tree = search rules;
  ty =
      let u = unit_seen c.args.function.now in
      let n = c.args.function.now.number in
      told u n c.args.name.now.kind c.args.name.now.number _ (slice_get u.functions n) refl c.args.function.now.there c.variable_type.ensures.gives;
  declared = search rules;
  resolved = search rules;
}
