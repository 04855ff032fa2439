-- What headings leave as it is for bodies, and the unit that all of them make.
use Rattle.std.proofs.Common.{◌≡◌, ℕ, suc, ◌+◌, if◌then◌else◌, nat_lt, List, [], ◌∷◌, ◌++◌, length, map, refl, sym, ap, ◌∙◌}
use Rattle.std.proofs.lemmas.List.{map-append}
use Rattle.c0_tree.specs.declared.tree.Span.{Span}
use Rattle.c0_tree.specs.declared.tree.Kind.{Kind}
use Rattle.c0_tree.specs.declared.tree.Kind.TheVariants.{Local}
use Rattle.c0_tree.specs.Tree.{CDecl, CBody, code, asm, CFunction, CUnit}
use Rattle.c0_tree.specs.Primitives.{CPrimitive}
use Rattle.c0_meaning.specs.Ty.{Ty, ty_of}
use Rattle.c0_meaning.specs.Env.{Shape, shape_of, Typed, typed_of, Signature, signature_of, Env, env_of}
use Rattle.c0_meaning.specs.Fault.{Fault, fault, TOO_MANY_NODES, NAME_TWICE}
use Rattle.c0_meaning.specs.DeclaredTypes.{fault_if, declared_faults}
use Rattle.c0_meaning.specs.Names.{twice_faults, decl_name_faults, is_among}
use Rattle.c0_meaning.specs.Limits.{locals_of, all_nodes, MAX_FUNCTION_NODES}
use Rattle.c0_meaning.specs.Resolved.{resolved_type, resolved_decls}
use Rattle.c0_meaning.specs.Unit.{faults_in, resolved_body, resolved_function, resolved_functions}
use Rattle.c0_meaning.proofs.StableTypes.{ty_kept, typed_kept, tys_kept, decls_length}
use Rattle.c0_types.specs.Source.{read_body, read_function, read_unit, asm_fault}
use Rattle.c0_types.specs.Parts.{headed, headed_functions, nodes_with, nodes_read, functions_nodes, faults_of_body, bodies_faults, bodied, inner_body}

-- the names of resolved parameters, followed by other names, are set twice where they were before
names_headed : (structs : List Shape) (kind : Kind) (k : ℕ) (before : List (List ℕ)) (ps ls : List CDecl)
    → twice_faults before (map (λ d. d.name) (resolved_decls structs kind k ps ++ ls)) ≡ twice_faults before (map (λ d. d.name) (ps ++ ls))
names_headed structs kind k before [] ls = refl
names_headed structs kind k before (p ∷ ps) ls =
    ap (λ (fs : List Fault). (if is_among before p.name.text then fault NAME_TWICE p.name.span ∷ [] else []) ++ fs)
    (names_headed structs kind (suc k) (before ++ p.name.text ∷ []) ps ls)

-- resolved parameters, followed by other declarations, are typed as before
typed_headed : (structs : List Shape) (ps ls : List CDecl)
    → map typed_of (resolved_decls structs Local 0 ps ++ ls) ≡ map typed_of (ps ++ ls)
typed_headed structs ps ls =
    map-append typed_of (resolved_decls structs Local 0 ps) ls
    ∙ (ap (λ (l : List Typed). l ++ map typed_of ls) (typed_kept structs Local 0 ps) ∙ sym (map-append typed_of ps ls))

-- an environment with other locals
abbrev local_env : Env → List Typed → Env
local_env env typed = record { structs = env.structs; globals = env.globals; functions = env.functions; primitives = env.primitives; locals = typed }

-- the faults of a body by what they depend on
abbrev by_parts : Env → Span → CBody → List Fault → ℕ → List Typed → Ty → List Fault
by_parts env name b names params typed result =
    names ++ (declared_faults env.structs (locals_of b)
    ++ (fault_if (nat_lt MAX_FUNCTION_NODES (nodes_with params (read_body b))) TOO_MANY_NODES name
    ++ (faults_in (local_env env typed) result b ++ asm_fault b)))

-- a body has the same faults below a heading whose names are resolved
body_headed : (env : Env) (structs : List Shape) (k : ℕ) (f : CFunction) → faults_of_body env (headed structs k f) ≡ faults_of_body env f
body_headed env structs k f =
    let ps : List CDecl = resolved_decls structs Local 0 f.params in
    let ls : List CDecl = locals_of f.body in
    let names : List Fault = decl_name_faults (f.params ++ ls) in
    ap (λ (n : List Fault). by_parts env f.name.span f.body n (length ps) (map typed_of (ps ++ ls)) (ty_of (resolved_type structs f.answer))) (names_headed structs Local 0 [] f.params ls)
    ∙ (ap (λ (n : ℕ). by_parts env f.name.span f.body names n (map typed_of (ps ++ ls)) (ty_of (resolved_type structs f.answer))) (decls_length structs Local 0 f.params)
    ∙ (ap (λ (t : List Typed). by_parts env f.name.span f.body names (length f.params) t (ty_of (resolved_type structs f.answer))) (typed_headed structs f.params ls)
    ∙ ap (by_parts env f.name.span f.body names (length f.params) (map typed_of (f.params ++ ls))) (ty_kept structs f.answer)))

pub bodies_headed : (env : Env) (structs : List Shape) (k : ℕ) (fs : List CFunction)
    → bodies_faults env (headed_functions structs k fs) ≡ bodies_faults env fs
bodies_headed env structs k [] = refl
bodies_headed env structs k (f ∷ fs) =
    ap (λ (l : List Fault). l ++ bodies_faults env (headed_functions structs (suc k) fs)) (body_headed env structs k f)
    ∙ ap (λ (l : List Fault). faults_of_body env f ++ l) (bodies_headed env structs (suc k) fs)

-- and as many nodes
pub nodes_headed : (structs : List Shape) (k : ℕ) (fs : List CFunction) → functions_nodes (headed_functions structs k fs) ≡ functions_nodes fs
nodes_headed structs k [] = refl
nodes_headed structs k (f ∷ fs) =
    ap (λ (n : ℕ). nodes_with n (read_body f.body) + functions_nodes (headed_functions structs (suc k) fs)) (decls_length structs Local 0 f.params)
    ∙ ap (λ (n : ℕ). nodes_read f + n) (nodes_headed structs (suc k) fs)

-- functions have the same signatures
pub signatures_headed : (structs : List Shape) (k : ℕ) (fs : List CFunction)
    → map signature_of (headed_functions structs k fs) ≡ map signature_of (map read_function fs)
signatures_headed structs k [] = refl
signatures_headed structs k (f ∷ fs) =
    ap (λ (ts : List Ty). record { text = f.name.text; params = ts; answer = ty_of (resolved_type structs f.answer) } ∷ map signature_of (headed_functions structs (suc k) fs)) (tys_kept structs Local 0 f.params)
    ∙ (ap (λ (t : Ty). record { text = f.name.text; params = map (λ d. ty_of d.ty) f.params; answer = t } ∷ map signature_of (headed_functions structs (suc k) fs)) (ty_kept structs f.answer)
    ∙ ap (λ (l : List Signature). signature_of f ∷ l) (signatures_headed structs (suc k) fs))

-- a body below a heading whose names are resolved is resolved as before
inner_headed : (primitives : List CPrimitive) (u : CUnit) (structs : List Shape) (ps : List CDecl) (b : CBody)
    → inner_body (env_of primitives u []) (resolved_decls structs Local 0 ps) b ≡ resolved_body (env_of primitives u (ps ++ locals_of (read_body b))) (length ps) (read_body b)
inner_headed primitives u structs ps (code ls ss e) =
    ap (λ (t : List Typed). resolved_body (local_env (env_of primitives u []) t) (length (resolved_decls structs Local 0 ps)) (code ls ss e)) (typed_headed structs ps ls)
    ∙ ap (λ (n : ℕ). resolved_body (env_of primitives u (ps ++ ls)) n (code ls ss e)) (decls_length structs Local 0 ps)
inner_headed primitives u structs ps (asm text span words) = refl

abbrev with_body : List Shape → ℕ → CFunction → CBody → CFunction
with_body structs k f b = record { answer = (headed structs k f).answer; answer_span = f.answer_span; name = (headed structs k f).name; params = (headed structs k f).params; body = b }

-- headings and then bodies make the functions of the definition
pub functions_resolved : (primitives : List CPrimitive) (u : CUnit) (k : ℕ) (fs : List CFunction)
    → map (bodied (env_of primitives (read_unit u) [])) (headed_functions (map shape_of u.structs) k fs) ≡ resolved_functions primitives (read_unit u) k (map read_function fs)
functions_resolved primitives u k [] = refl
functions_resolved primitives u k (f ∷ fs) =
    ap (λ (b : CBody). with_body (map shape_of u.structs) k f b ∷ map (bodied (env_of primitives (read_unit u) [])) (headed_functions (map shape_of u.structs) (suc k) fs))
    (inner_headed primitives (read_unit u) (map shape_of u.structs) f.params f.body)
    ∙ ap (λ (l : List CFunction). resolved_function primitives (read_unit u) k (read_function f) ∷ l) (functions_resolved primitives u (suc k) fs)

-- the nodes are those of the definition
pub nodes_of_read : (fs : List CFunction) → functions_nodes fs ≡ all_nodes (map read_function fs)
nodes_of_read [] = refl
nodes_of_read (f ∷ fs) = ap (λ (n : ℕ). nodes_read f + n) (nodes_of_read fs)
