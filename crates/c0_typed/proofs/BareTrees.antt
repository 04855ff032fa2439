-- The typed tree of a unit without spans is that of the unit.
use Rattle.std.proofs.Common.{◌≡◌, ℕ, suc, ◌+◌, Bool, List, [], ◌∷◌, ◌++◌, map, length, Option, None, refl, ap, ap₂, ◌∙◌}
use Rattle.std.specs.Prelude.{if◌then◌else◌, ◌&&◌, ◌||◌, nat_le, option_map}
use Rattle.std.specs.List.{list_all}
use Rattle.c0_tree.specs.Tree.{CTy, CExpr, num, true_, false_, null, var, field, arrow, index, deref, address, unary, binary, CStmt, assign, call, new, choice, loop, CStmts, done, next, CDecl, CStruct, CBody, code, asm, CFunction, CUnit}
use Rattle.c0_tree.specs.Tree as tree
use Rattle.c0_meaning.specs.Ty.{Ty, ty_of, is_scalar}
use Rattle.c0_meaning.specs.Ty as types
use Rattle.c0_meaning.specs.Env.{Env, Typed, Shape, typed_of, shape_of, signature_of}
use Rattle.c0_meaning.specs.Expression.{is_lvalue, target}
use Rattle.c0_meaning.specs.Words.{words, all_words}
use Rattle.c0_meaning.specs.Sound.{shapes}
use Rattle.c0_meaning.specs.Limits.{words_of_frame, locals_of}
use Rattle.c0_meaning.specs.TypeAt.{type_at, element, field_type, env_in}
use Rattle.c0_meaning.specs.TypedState.{types_of}
use Rattle.c0_meaning.specs.Bare.{bare_ty, bare_expr, bare_stmt, bare_stmts, bare_decl, bare_struct, bare_body, bare_function, bare}
use Rattle.c0_typed.specs.declared.tree.LocalType.{LocalType}
use Rattle.c0_typed.specs.Laws.{TreesIgnoreSpans}
use Rattle.c0_typed.specs.Leaf.{is_free_of_calls, are_free_of_calls, is_leaf, MAX_REGISTER_VARIABLES, keeps_registers, is_calling, are_calling, calls_in}
use Rattle.c0_typed.specs.Tree.{TExpr, TStmt, TStmts, TFunction}
use Rattle.c0_typed.specs.Tree as typed
use Rattle.c0_typed.specs.Typed.{field_bytes, elements_in, written_number, typed_element, typed_unary, typed_binary, typed_of_expr, typed_of_stmt, typed_of_stmts, typed_of_local, typed_of_body, typed_of_function}

place_bare : (e : CExpr) → is_lvalue (bare_expr e) ≡ is_lvalue e
place_bare (num s n) = refl
place_bare (true_ s) = refl
place_bare (false_ s) = refl
place_bare (null s) = refl
place_bare (var x) = refl
place_bare (field s e f) = refl
place_bare (arrow s e f) = refl
place_bare (index s e i) = refl
place_bare (deref s e) = refl
place_bare (address s e) = refl
place_bare (unary s o e) = refl
place_bare (binary s o a b) = refl

written_bare : (e : CExpr) → written_number (bare_expr e) ≡ written_number e
written_bare (num s n) = refl
written_bare (true_ s) = refl
written_bare (false_ s) = refl
written_bare (null s) = refl
written_bare (var x) = refl
written_bare (field s e f) = refl
written_bare (arrow s e f) = refl
written_bare (index s e i) = refl
written_bare (deref s e) = refl
written_bare (address s e) = refl
written_bare (unary s o e) = refl
written_bare (binary s o a b) = refl

type_bare : (env : Env) (e : CExpr) → type_at env (bare_expr e) ≡ type_at env e
type_bare env (num s n) = refl
type_bare env (true_ s) = refl
type_bare env (false_ s) = refl
type_bare env (null s) = refl
type_bare env (var x) = refl
type_bare env (field s e f) = ap (λ (t : Option Ty). field_type env.structs t f.number) (type_bare env e)
type_bare env (arrow s e f) = ap (λ (t : Option Ty). field_type env.structs (target t) f.number) (type_bare env e)
type_bare env (index s e i) = ap element (type_bare env e)
type_bare env (deref s e) = ap target (type_bare env e)
type_bare env (address s e) = ap₂ (λ (b : Bool) (t : Option Ty). if b then option_map types.pointer t else None) (place_bare e) (type_bare env e)
type_bare env (unary s o e) = refl
type_bare env (binary s o a b) = refl

pub expr_bare : (env : Env) (e : CExpr) → typed_of_expr env (bare_expr e) ≡ typed_of_expr env e
expr_bare env (num s n) = refl
expr_bare env (true_ s) = refl
expr_bare env (false_ s) = refl
expr_bare env (null s) = refl
expr_bare env (var x) = refl
expr_bare env (field s e f) = ap₂ (λ (x : TExpr) (t : Option Ty). typed.part x (field_bytes env.structs t f.number)) (expr_bare env e) (type_bare env e)
expr_bare env (arrow s e f) =
    ap₂ (λ (x : TExpr) (t : Option Ty). typed.part (typed.target x) (field_bytes env.structs (target t) f.number)) (expr_bare env e) (type_bare env e)
expr_bare env (index s e i) = λ j. typed_element (elements_in env.structs (type_bare env e j)) (expr_bare env e j) (expr_bare env i j) (written_bare i j)
expr_bare env (deref s e) = ap typed.target (expr_bare env e)
expr_bare env (address s e) = ap typed.address (expr_bare env e)
expr_bare env (unary s o e) = ap₂ (λ (x : TExpr) (n : Option ℕ). typed_unary o x n) (expr_bare env e) (written_bare e)
expr_bare env (binary s o a b) = ap₂ (λ (x y : TExpr). typed_binary o x y) (expr_bare env a) (expr_bare env b)

exprs_bare : (env : Env) (es : List CExpr) → map (typed_of_expr env) (map bare_expr es) ≡ map (typed_of_expr env) es
exprs_bare env [] = refl
exprs_bare env (e ∷ es) = ap₂ (λ (x : TExpr) (xs : List TExpr). x ∷ xs) (expr_bare env e) (exprs_bare env es)

ty_bare : (t : CTy) → ty_of (bare_ty t) ≡ ty_of t
ty_bare tree.int = refl
ty_bare tree.bool = refl
ty_bare (tree.pointer t) = ap types.pointer (ty_bare t)
ty_bare (tree.named x) = refl
ty_bare (tree.array t n) = ap (λ (t : Ty). types.array t n) (ty_bare t)

mutual
  pub stmt_bare : (env : Env) (s : CStmt) → typed_of_stmt env (bare_stmt s) ≡ typed_of_stmt env s
  stmt_bare env (assign s p v) = ap₂ (λ (x y : TExpr). typed.assign x y) (expr_bare env p) (expr_bare env v)
  stmt_bare env (call s p cs f args) = ap₂ (λ (xs : List TExpr) (x : TExpr). typed.call f.kind f.number xs x) (exprs_bare env args) (expr_bare env p)
  stmt_bare env (new s p t ts) = ap₂ (λ (u : Ty) (x : TExpr). typed.new (words env.structs u) x) (ty_bare t) (expr_bare env p)
  stmt_bare env (choice s t a b) = λ j. typed.choice (expr_bare env t j) (stmts_bare env a j) (stmts_bare env b j)
  stmt_bare env (loop s t b) = ap₂ (λ (x : TExpr) (y : TStmts). typed.loop x y) (expr_bare env t) (stmts_bare env b)

  pub stmts_bare : (env : Env) (ss : CStmts) → typed_of_stmts env (bare_stmts ss) ≡ typed_of_stmts env ss
  stmts_bare env done = refl
  stmts_bare env (next s rest) = ap₂ (λ (x : TStmt) (y : TStmts). typed.next x y) (stmt_bare env s) (stmts_bare env rest)

typed_bare : (d : CDecl) → typed_of (bare_decl d) ≡ typed_of d
typed_bare d = ap (λ (t : Ty). record { text = d.name.text; ty = t }) (ty_bare d.ty)

typeds_bare : (ds : List CDecl) → map typed_of (map bare_decl ds) ≡ map typed_of ds
typeds_bare [] = refl
typeds_bare (d ∷ ds) = ap₂ (λ (x : Typed) (xs : List Typed). x ∷ xs) (typed_bare d) (typeds_bare ds)

shapes_of : (ss : List CStruct) → map shape_of (map bare_struct ss) ≡ map shape_of ss
shapes_of [] = refl
shapes_of (s ∷ ss) = ap₂ (λ (x : List Typed) (xs : List Shape). record { text = s.name.text; fields = x } ∷ xs) (typeds_bare s.fields) (shapes_of ss)

-- the types of declarations
params_bare : (ds : List CDecl) → map (λ d. ty_of d.ty) (map bare_decl ds) ≡ map (λ d. ty_of d.ty) ds
params_bare [] = refl
params_bare (d ∷ ds) = ap₂ (λ (x : Ty) (xs : List Ty). x ∷ xs) (ty_bare d.ty) (params_bare ds)

signatures_bare : (fs : List CFunction) → map signature_of (map bare_function fs) ≡ map signature_of fs
signatures_bare [] = refl
signatures_bare (f ∷ fs) = λ j. record { text = f.name.text; params = params_bare f.params j; answer = ty_bare f.answer j } ∷ signatures_bare fs j

-- parameters and the locals behind them
variables_bare : (ds : List CDecl) (b : CBody) → map typed_of (map bare_decl ds ++ locals_of (bare_body b)) ≡ map typed_of (ds ++ locals_of b)
variables_bare [] (code locals stmts answer) = typeds_bare locals
variables_bare [] (asm text span words) = refl
variables_bare (d ∷ ds) b = ap₂ (λ (x : Typed) (xs : List Typed). x ∷ xs) (typed_bare d) (variables_bare ds b)

env_bare : (u : CUnit) (f : CFunction) → env_in (bare u) (bare_function f) ≡ env_in u f
env_bare u f = λ j. record {
  structs = shapes_of u.structs j;
  globals = typeds_bare u.globals j;
  functions = signatures_bare u.functions j;
  primitives = [];
  locals = variables_bare f.params f.body j;
}

locals_bare : (b : CBody) → map typed_of (locals_of (bare_body b)) ≡ map typed_of (locals_of b)
locals_bare (code locals stmts answer) = typeds_bare locals
locals_bare (asm text span words) = refl

frame_bare : (u : CUnit) (f : CFunction) → words_of_frame (shapes (bare u)) (bare_function f) ≡ words_of_frame (shapes u) f
frame_bare u f = λ j. all_words (shapes_of u.structs j) (typeds_bare f.params j) + all_words (shapes_of u.structs j) (locals_bare f.body j) + 3

mutual
  free_bare : (s : CStmt) → is_free_of_calls (bare_stmt s) ≡ is_free_of_calls s
  free_bare (assign s p v) = refl
  free_bare (call s p cs f args) = refl
  free_bare (new s p t ts) = refl
  free_bare (choice s t a b) = ap₂ (λ (x y : Bool). x && y) (all_free_bare a) (all_free_bare b)
  free_bare (loop s t b) = all_free_bare b

  all_free_bare : (ss : CStmts) → are_free_of_calls (bare_stmts ss) ≡ are_free_of_calls ss
  all_free_bare done = refl
  all_free_bare (next s rest) = ap₂ (λ (x y : Bool). x && y) (free_bare s) (all_free_bare rest)

mutual
  calling_bare : (s : CStmt) → is_calling (bare_stmt s) ≡ is_calling s
  calling_bare (assign s p v) = refl
  calling_bare (call s p cs f args) = refl
  calling_bare (new s p t ts) = refl
  calling_bare (choice s t a b) = ap₂ (λ (x y : Bool). x || y) (all_calling_bare a) (all_calling_bare b)
  calling_bare (loop s t b) = all_calling_bare b

  all_calling_bare : (ss : CStmts) → are_calling (bare_stmts ss) ≡ are_calling ss
  all_calling_bare done = refl
  all_calling_bare (next s rest) = ap₂ (λ (x y : Bool). x || y) (calling_bare s) (all_calling_bare rest)

leaf_bare : (b : CBody) → is_leaf (bare_body b) ≡ is_leaf b
leaf_bare (code locals stmts answer) = all_free_bare stmts
leaf_bare (asm text span words) = refl

calls_bare : (b : CBody) → calls_in (bare_body b) ≡ calls_in b
calls_bare (code locals stmts answer) = all_calling_bare stmts
calls_bare (asm text span words) = refl

keeps_bare : (f : CFunction) → keeps_registers (bare_function f) ≡ keeps_registers f
keeps_bare f = λ j.
    leaf_bare f.body j
    && (nat_le (length (types_of (variables_bare f.params f.body j))) MAX_REGISTER_VARIABLES && list_all is_scalar (types_of (variables_bare f.params f.body j)))

local_bare : (structs : List Shape) (ds : List CDecl) → map (typed_of_local structs) (map bare_decl ds) ≡ map (typed_of_local structs) ds
local_bare structs [] = refl
local_bare structs (d ∷ ds) =
    ap₂ (λ (t : Ty) (xs : List LocalType). record { words = words structs t; scalar = is_scalar t } ∷ xs) (ty_bare d.ty) (local_bare structs ds)

body_bare : (env : Env) (b : CBody) → typed_of_body env (bare_body b) ≡ typed_of_body env b
body_bare env (code locals stmts answer) = λ j. typed.code (local_bare env.structs locals j) (stmts_bare env stmts j) (expr_bare env answer j)
body_bare env (asm text span words) = refl

length_bare : (ds : List CDecl) → length (map bare_decl ds) ≡ length ds
length_bare [] = refl
length_bare (d ∷ ds) = ap suc (length_bare ds)

function_bare : (u : CUnit) (f : CFunction) → typed_of_function (bare u) (bare_function f) ≡ typed_of_function u f
function_bare u f = λ j. record {
  params = length_bare f.params j;
  frame = frame_bare u f j;
  in_registers = keeps_bare f j;
  calling = calls_bare f.body j;
  body = same j;
}
  where
    same : typed_of_body (env_in (bare u) (bare_function f)) (bare_body f.body) ≡ typed_of_body (env_in u f) f.body
    same = body_bare (env_in (bare u) (bare_function f)) f.body ∙ ap (λ (env : Env). typed_of_body env f.body) (env_bare u f)

functions_bare : (u : CUnit) (fs : List CFunction) → map (typed_of_function (bare u)) (map bare_function fs) ≡ map (typed_of_function u) fs
functions_bare u [] = refl
functions_bare u (f ∷ fs) = ap₂ (λ (x : TFunction) (xs : List TFunction). x ∷ xs) (function_bare u f) (functions_bare u fs)

pub trees_ignore_spans : TreesIgnoreSpans
trees_ignore_spans = record { expressions = expr_bare; units = λ u. functions_bare u u.functions }
