-- Declarations whose types are checked and whose names are numbered one after the other.
use Rattle.std.proofs.Common.{◌≡◌, ℕ, suc, List, [], ◌∷◌, length, refl, ap}
use Rattle.c0_tree.specs.declared.tree.Kind.{Kind}
use Rattle.c0_tree.specs.Tree.{CDecl}
use Rattle.c0_meaning.specs.Env.{Shape}
use Rattle.c0_meaning.specs.Resolved.{standing_for, resolved_type, resolved_decls}
use Rattle.c0_types.proofs.DeclaredInPlace.{numbered}

-- a declaration of this number
abbrev pub declared : List Shape → Kind → ℕ → CDecl → CDecl
declared structs kind k d = record { ty = resolved_type structs d.ty; ty_span = d.ty_span; name = standing_for kind k d.name }

-- all are numbered
pub decls_numbered : (structs : List Shape) (kind : Kind) (k : ℕ) (ds : List CDecl)
    → numbered (declared structs kind) k (length ds) ds ≡ resolved_decls structs kind k ds
decls_numbered structs kind k [] = refl
decls_numbered structs kind k (d ∷ ds) = ap (◌∷◌ (declared structs kind k d)) (decls_numbered structs kind (suc k) ds)
