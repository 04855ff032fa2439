-- The image of a program is that of the unit without spans: its code is made of names' kinds and numbers, and of types.
use Rattle.std.specs.Prelude.{◌%◌, ◌^◌, ◌-◌, ◌*◌, ◌/◌, ◌==◌, ◌&&◌, ◌||◌, max, sum, not, nat_lt, nat_le, if◌then◌else◌, slice_index, option_map, unwrap_or, bytes_eq, codes}
use Rattle.std.specs.List.{prefix_len, list_all}
use Rattle.std.proofs.Common.{◌≡◌, ℕ, zero, suc, ◌+◌, List, [], ◌∷◌, ◌++◌, map, length, take, drop, Bool, true, false, Some, None, refl, sym, ap, ◌∙◌}
use Rattle.mips_table.specs.declared.inst.Inst.{Inst}
use Rattle.mips_table.specs.declared.inst.Inst.TheVariants.{Jal, Addiu}
use Rattle.mips_table.specs.Encoding.{encoding}
use Rattle.masm.specs.declared.registers.TheConstants.{ANSWER, EXPRESSIONS}
use Rattle.layer_map.specs.Map.{layer_words, next_page, heap_at, stack_at, tables_at}
use Rattle.c0_tree.specs.declared.primitive.Program.TheVariants.{User}
use Rattle.c0_tree.specs.Tree.{CTy, CExpr, num, var, field, arrow, index, deref, address, unary, binary, CStmt, assign, call, new, choice, loop, CStmts, done, next, CDecl, CStruct, CBody, code, asm, CFunction, CUnit}
use Rattle.c0_tree.specs.Tree as tree
use Rattle.c0_meaning.specs.Ty.{ty_of, int, same_ty, is_scalar}
use Rattle.c0_meaning.specs.Ty as types
use Rattle.c0_meaning.specs.Env.{Env, typed_of, shape_of, signature_of}
use Rattle.c0_meaning.specs.Expression.{is_lvalue, target}
use Rattle.c0_meaning.specs.Words.{words, all_words}
use Rattle.c0_meaning.specs.Limits.{locals_of, is_asm, is_main, first_number}
use Rattle.c0_meaning.specs.TypedState.{types_of}
use Rattle.c0_meaning.specs.TypeAt.{type_at, field_type, element, env_in}
use Rattle.c0_meaning.specs.Bare.{bare_ty, bare_expr, bare_stmt, bare_stmts, bare_decl, bare_struct, bare_body, bare_function, bare}
use Rattle.c0_runtime.specs.declared.entry.TheConstants.{ENTRY_WORDS}
use Rattle.c0_runtime.specs.declared.runtime.TheConstants.{RUNTIME_WORDS}
use Rattle.c0_runtime.specs.Code as runtime
use Rattle.c0_typed.proofs.BareTrees.{expr_bare, stmt_bare as tree_bare, stmts_bare as trees_bare}
use Rattle.c0_typed.specs.Typed.{typed_of_expr}
use Rattle.c0_typed.specs.Leaf.{MAX_REGISTER_VARIABLES, are_calling, are_free_of_calls, is_calling, is_free_of_calls, is_leaf, keeps_registers}
use Rattle.c0_expr_code.specs.Scope.{Scope, exit_number}
use Rattle.c0_expr_code.specs.FrameSetting.{frame_setting}
use Rattle.c0_expr_code.specs.declared.facts.Facts.{Facts}
use Rattle.c0_expr_code.specs.Facts.{facts_called, is_sure_pointer, overwritten, renewed, facts_told}
use Rattle.c0_expr_code.specs.Code.{field_made, index_made, target_address, at_place, only_value, access_code, unary_made, binary_made, made, constant_code, register_of_variable, right_facts}
use Rattle.c0_expr_code.specs.Reads.{reads, reads_to_find}
use Rattle.c0_expr_code.specs.Test.{plain_test, unary_test, binary_test, test_code}
use Rattle.c0_stmt_code.specs.Code.{Links, callee_index, skip, stored_code, assigned_code, args_code, otherwise, otherwise_at, stmt_code, stmts_code, facts_behind_stmt, facts_behind_stmts, told_facts, turn_facts, first_facts, entry_code, exit_code, body_code, function_code}
use Rattle.c0_stmt_code.specs.Behind.{all_changed, facts_behind, facts_behind_all}
use Rattle.c0_stmt_code.specs.Live.{any_reads, is_variable, live_at_place, is_live, are_live, are_scalar, is_cleared}
use Rattle.c0_unit.specs.Code.{fault_exits, scope, links, no_links, unit_links, functions_code, words_of_functions, ordered_code, starts_from, function_starts, functions_at, code_words, routines_code, unit_code, program_words}
use Rattle.c0_types.specs.Front.{IsUnitAs}
use Rattle.user_c0.specs.Image.{ROOM, map_of_image, laid, image_parts, image_words}
use Rattle.kernel_theorems.specs.Text.{MeansProgram}
use Rattle.program_systems.specs.Counts.{ImagesIgnoreSpans}

-- DECLARATIONS
ty_bare : (t : CTy) → ty_of (bare_ty t) ≡ ty_of t
ty_bare tree.int = refl
ty_bare tree.bool = refl
ty_bare (tree.pointer t) = ap types.pointer (ty_bare t)
ty_bare (tree.named x) = refl
ty_bare (tree.array t n) = ap (λ t. types.array t n) (ty_bare t)

typed_bare : (d : CDecl) → typed_of (bare_decl d) ≡ typed_of d
typed_bare d = λ i. record { text = d.name.text; ty = ty_bare d.ty i }

typeds_bare : (ds : List CDecl) → map typed_of (map bare_decl ds) ≡ map typed_of ds
typeds_bare [] = refl
typeds_bare (d ∷ ds) = λ i. typed_bare d i ∷ typeds_bare ds i

types_bare : (ds : List CDecl) → map (λ d. ty_of d.ty) (map bare_decl ds) ≡ map (λ d. ty_of d.ty) ds
types_bare [] = refl
types_bare (d ∷ ds) = λ i. ty_bare d.ty i ∷ types_bare ds i

count_bare : (ds : List CDecl) → length (map bare_decl ds) ≡ length ds
count_bare [] = refl
count_bare (d ∷ ds) = ap suc (count_bare ds)

structs_bare : (ss : List CStruct) → map shape_of (map bare_struct ss) ≡ map shape_of ss
structs_bare [] = refl
structs_bare (s ∷ ss) = λ i. record { text = s.name.text; fields = typeds_bare s.fields i } ∷ structs_bare ss i

locals_bare : (b : CBody) → map typed_of (locals_of (bare_body b)) ≡ map typed_of (locals_of b)
locals_bare (code locals stmts answer) = typeds_bare locals
locals_bare (asm text span words) = refl

variables_bare : (ds : List CDecl) (b : CBody) → map typed_of (map bare_decl ds ++ locals_of (bare_body b)) ≡ map typed_of (ds ++ locals_of b)
variables_bare [] b = locals_bare b
variables_bare (d ∷ ds) b = λ i. typed_bare d i ∷ variables_bare ds b i

signatures_bare : (fs : List CFunction) → map signature_of (map bare_function fs) ≡ map signature_of fs
signatures_bare [] = refl
signatures_bare (f ∷ fs) = λ i. record { text = f.name.text; params = types_bare f.params i; answer = ty_bare f.answer i } ∷ signatures_bare fs i

env_bare : (u : CUnit) (f : CFunction) → env_in (bare u) (bare_function f) ≡ env_in u f
env_bare u f = λ i. record {
  structs = structs_bare u.structs i;
  globals = typeds_bare u.globals i;
  functions = signatures_bare u.functions i;
  primitives = [];
  locals = variables_bare f.params f.body i;
}

-- EXPRESSIONS
is_place_bare : (e : CExpr) → is_lvalue (bare_expr e) ≡ is_lvalue e
is_place_bare (num s n) = refl
is_place_bare _ = refl

type_bare : (env : Env) (e : CExpr) → type_at env (bare_expr e) ≡ type_at env e
type_bare env (field s e f) = ap (λ t. field_type env.structs t f.number) (type_bare env e)
type_bare env (arrow s e f) = ap (λ t. field_type env.structs (target t) f.number) (type_bare env e)
type_bare env (index s e i) = ap element (type_bare env e)
type_bare env (deref s e) = ap target (type_bare env e)
type_bare env (address s e) = λ i. if is_place_bare e i then option_map types.pointer (type_bare env e i) else None
type_bare env _ = refl

made_bare : (sc : Scope) (fs : Facts) (e : CExpr) → made sc fs (bare_expr e) ≡ made sc fs e
made_bare sc fs (field s e f) = λ j. field_made sc (type_bare sc.env e j) (made_bare sc fs e j).place f.number
made_bare sc fs (arrow s e f) =
    λ j. field_made sc (target (type_bare sc.env e j)) (λ r. target_address sc (is_sure_pointer fs (expr_bare sc.env e j)) (made_bare sc fs e j) r) f.number
made_bare sc fs (index s e i) = λ j. index_made sc (type_bare sc.env e j) (made_bare sc fs e j).place (made_bare sc fs i j)
made_bare sc fs (deref s e) = λ j. at_place (λ r. target_address sc (is_sure_pointer fs (expr_bare sc.env e j)) (made_bare sc fs e j) r)
made_bare sc fs (address s e) = λ j. only_value (λ d r. access_code (λ b k. Addiu d b k) r ((made_bare sc fs e j).place r))
made_bare sc fs (unary s o e) = λ j. unary_made o (made_bare sc fs e j)
made_bare sc fs (binary s o a b) =
    let right : made sc (right_facts o (typed_of_expr sc.env (bare_expr a)) fs) (bare_expr b) ≡ made sc (right_facts o (typed_of_expr sc.env a) fs) b =
    (λ i. made sc (right_facts o (expr_bare sc.env a i) fs) (bare_expr b)) ∙ made_bare sc (right_facts o (typed_of_expr sc.env a) fs) b in
    λ j. binary_made sc o (made_bare sc fs a j) (right j)
made_bare sc fs _ = refl

test_bare : (sc : Scope) (fs : Facts) (e : CExpr) (s : Bool) (far r : ℕ) → test_code sc fs (bare_expr e) s far r ≡ test_code sc fs e s far r
test_bare sc fs (unary p o e) s far r = λ j. unary_test o (made_bare sc fs (unary p o e) j) (λ t far r. test_bare sc fs e t far r j) s far r
test_bare sc fs (binary p o a b) s far r =
    let facts = right_facts o (typed_of_expr sc.env a) fs in
    let right : made sc (right_facts o (typed_of_expr sc.env (bare_expr a)) fs) (bare_expr b) ≡ made sc facts b =
    (λ i. made sc (right_facts o (expr_bare sc.env a i) fs) (bare_expr b)) ∙ made_bare sc facts b in
    let tests : (t : Bool) (far r : ℕ) → test_code sc (right_facts o (typed_of_expr sc.env (bare_expr a)) fs) (bare_expr b) t far r ≡ test_code sc facts b t far r =
    λ t far r. (λ i. test_code sc (right_facts o (expr_bare sc.env a i) fs) (bare_expr b) t far r) ∙ test_bare sc facts b t far r in
    λ j. binary_test o (made_bare sc fs (binary p o a b) j) (made_bare sc fs a j) (right j) (λ t far r. test_bare sc fs a t far r j) (λ t far r. tests t far r j) s far r
test_bare sc fs e s far r = λ j. plain_test (made_bare sc fs e j) s far r

args_bare : (sc : Scope) (fs : Facts) (es : List CExpr) (n : ℕ) → args_code sc fs (map bare_expr es) n ≡ args_code sc fs es n
args_bare sc fs [] n = refl
args_bare sc fs (e ∷ es) n = λ j. (made_bare sc fs e j).value (register_of_variable n) EXPRESSIONS ++ args_bare sc (overwritten fs n) es (suc n) j

-- STATEMENTS
otherwise_bare : (b : CStmts) (is : List Inst) → otherwise (bare_stmts b) is ≡ otherwise b is
otherwise_bare done is = refl
otherwise_bare (next s rest) is = refl

otherwise_at_bare : (b : CStmts) → otherwise_at (bare_stmts b) ≡ otherwise_at b
otherwise_at_bare done = refl
otherwise_at_bare (next s rest) = refl

mutual
  stmt_bare : (sc : Scope) (fs : Facts) (x : Links) (s : CStmt) → stmt_code sc fs x (bare_stmt s) ≡ stmt_code sc fs x s
  stmt_bare sc fs x (assign s p v) = λ j. assigned_code (made_bare sc fs p j).register (made_bare sc fs p j) (made_bare sc fs v j)
  stmt_bare sc fs x (call s p cs f args) = λ j. args_bare sc fs args 0 j
      ++ (Jal (callee_index x f.kind f.number) ∷ stored_code ANSWER EXPRESSIONS (made_bare sc (facts_called fs) p j).register (made_bare sc (facts_called fs) p j).place)
  stmt_bare sc fs x (new s p t ts) = λ j. constant_code ANSWER (words sc.env.structs (ty_bare t j) % 2 ^ 32)
      ++ (Jal x.new_object ∷ stored_code ANSWER EXPRESSIONS (made_bare sc (renewed fs) p j).register (made_bare sc (renewed fs) p j).place)
  stmt_bare sc fs x (choice s t a b) =
      let yes : stmts_code sc (told_facts sc fs (bare_expr t) true) x (bare_stmts a) ≡ stmts_code sc (told_facts sc fs t true) x a =
      (λ i. stmts_code sc (facts_told (expr_bare sc.env t i) true fs) x (bare_stmts a)) ∙ stmts_bare sc (told_facts sc fs t true) x a in
      let no : stmts_code sc (told_facts sc fs (bare_expr t) false) x (bare_stmts b) ≡ stmts_code sc (told_facts sc fs t false) x b =
      (λ i. stmts_code sc (facts_told (expr_bare sc.env t i) false fs) x (bare_stmts b)) ∙ stmts_bare sc (told_facts sc fs t false) x b in
      λ j. test_bare sc fs t false ((length (yes j) + otherwise_at_bare b j) % 2 ^ 16) EXPRESSIONS j ++ (yes j ++ otherwise_bare b (no j) j)
  stmt_bare sc fs x (loop s t b) =
      let first = turn_facts sc fs b in
      let body : stmts_code sc (told_facts sc (turn_facts sc fs (bare_stmts b)) (bare_expr t) true) x (bare_stmts b) ≡ stmts_code sc (told_facts sc first t true) x b =
      (λ i. stmts_code sc (facts_told (expr_bare sc.env t i) true (all_changed (trees_bare sc.env b i) fs)) x (bare_stmts b)) ∙ stmts_bare sc (told_facts sc first t true) x b in
      let tests : (far r : ℕ) → test_code sc (turn_facts sc fs (bare_stmts b)) (bare_expr t) true far r ≡ test_code sc first t true far r =
      λ far r. (λ i. test_code sc (all_changed (trees_bare sc.env b i) fs) (bare_expr t) true far r) ∙ test_bare sc first t true far r in
      λ j. skip (length (body j)) ∷ (body j ++ tests ((2 ^ 16 - (max (length (body j)) 1 + length (tests 0 EXPRESSIONS j)) % 2 ^ 16) % 2 ^ 16) EXPRESSIONS j)

  stmts_bare : (sc : Scope) (fs : Facts) (x : Links) (ss : CStmts) → stmts_code sc fs x (bare_stmts ss) ≡ stmts_code sc fs x ss
  stmts_bare sc fs x done = refl
  stmts_bare sc fs x (next s rest) =
      let more : stmts_code sc (facts_behind_stmt sc fs (bare_stmt s)) x (bare_stmts rest) ≡ stmts_code sc (facts_behind_stmt sc fs s) x rest =
      (λ i. stmts_code sc (facts_behind sc.in_registers (tree_bare sc.env s i) fs) x (bare_stmts rest)) ∙ stmts_bare sc (facts_behind_stmt sc fs s) x rest in
      λ j. stmt_bare sc fs x s j ++ more j

mutual
  calling_bare : (s : CStmt) → is_calling (bare_stmt s) ≡ is_calling s
  calling_bare (assign s p v) = refl
  calling_bare (call s p cs f args) = refl
  calling_bare (new s p t ts) = refl
  calling_bare (choice s t a b) = λ j. callings_bare a j || callings_bare b j
  calling_bare (loop s t b) = callings_bare b

  callings_bare : (ss : CStmts) → are_calling (bare_stmts ss) ≡ are_calling ss
  callings_bare done = refl
  callings_bare (next s rest) = λ j. calling_bare s j || callings_bare rest j

mutual
  free_bare : (s : CStmt) → is_free_of_calls (bare_stmt s) ≡ is_free_of_calls s
  free_bare (assign s p v) = refl
  free_bare (call s p cs f args) = refl
  free_bare (new s p t ts) = refl
  free_bare (choice s t a b) = λ j. frees_bare a j && frees_bare b j
  free_bare (loop s t b) = frees_bare b

  frees_bare : (ss : CStmts) → are_free_of_calls (bare_stmts ss) ≡ are_free_of_calls ss
  frees_bare done = refl
  frees_bare (next s rest) = λ j. free_bare s j && frees_bare rest j

-- WHICH LOCALS ARE LIVE, and so which are cleared where a function begins
reads_bare : (e : CExpr) (n : ℕ) → reads (bare_expr e) n ≡ reads e n
reads_bare (field s e f) n = reads_bare e n
reads_bare (arrow s e f) n = reads_bare e n
reads_bare (index s e i) n = λ j. reads_bare e n j || reads_bare i n j
reads_bare (deref s e) n = reads_bare e n
reads_bare (address s e) n = reads_bare e n
reads_bare (unary s o e) n = reads_bare e n
reads_bare (binary s o a b) n = λ j. reads_bare a n j || reads_bare b n j
reads_bare _ n = refl

any_reads_bare : (es : List CExpr) (n : ℕ) → any_reads (map bare_expr es) n ≡ any_reads es n
any_reads_bare [] n = refl
any_reads_bare (e ∷ es) n = λ j. reads_bare e n j || any_reads_bare es n j

reads_to_find_bare : (e : CExpr) (n : ℕ) → reads_to_find (bare_expr e) n ≡ reads_to_find e n
reads_to_find_bare (var x) n = refl
reads_to_find_bare e n = reads_bare e n

is_variable_bare : (e : CExpr) (n : ℕ) → is_variable (bare_expr e) n ≡ is_variable e n
is_variable_bare (var x) n = refl
is_variable_bare _ n = refl

live_at_place_bare : (p : CExpr) (n : ℕ) (behind : Bool) → live_at_place (bare_expr p) n behind ≡ live_at_place p n behind
live_at_place_bare p n behind = λ j. reads_to_find_bare p n j || (not (is_variable_bare p n j) && behind)

mutual
  live_bare : (s : CStmt) (n : ℕ) (behind : Bool) → is_live (bare_stmt s) n behind ≡ is_live s n behind
  live_bare (assign s p v) n behind = λ j. reads_bare v n j || live_at_place_bare p n behind j
  live_bare (call s p cs f args) n behind = λ j. any_reads_bare args n j || live_at_place_bare p n behind j
  live_bare (new s p t ts) n behind = live_at_place_bare p n behind
  live_bare (choice s t a b) n behind = λ j. reads_bare t n j || (lives_bare a n behind j || lives_bare b n behind j)
  live_bare (loop s t b) n behind = λ j. reads_bare t n j || (behind || lives_bare b n false j)

  lives_bare : (ss : CStmts) (n : ℕ) (behind : Bool) → are_live (bare_stmts ss) n behind ≡ are_live ss n behind
  lives_bare done n behind = refl
  lives_bare (next s rest) n behind = λ j. live_bare s n (lives_bare rest n behind j) j

scalar_bare : (locals : List CDecl) → are_scalar (map bare_decl locals) ≡ are_scalar locals
scalar_bare locals = λ j. list_all is_scalar (types_of (typeds_bare locals j))

cleared_bare : (locals : List CDecl) (stmts : CStmts) (answer : CExpr) → is_cleared (map bare_decl locals) (bare_stmts stmts) (bare_expr answer) ≡ is_cleared locals stmts answer
cleared_bare locals stmts answer = λ j n. not (scalar_bare locals j) || lives_bare stmts n (reads_bare answer n j) j

-- FUNCTIONS
leaf_bare : (b : CBody) → is_leaf (bare_body b) ≡ is_leaf b
leaf_bare (code locals stmts answer) = frees_bare stmts
leaf_bare (asm text span words) = refl

registers_bare : (f : CFunction) → keeps_registers (bare_function f) ≡ keeps_registers f
registers_bare f =
    λ j. leaf_bare f.body j && (nat_le (length (types_of (variables_bare f.params f.body j))) MAX_REGISTER_VARIABLES && list_all is_scalar (types_of (variables_bare f.params f.body j)))

scope_bare : (u : CUnit) (f : CFunction) → scope (bare u) (bare_function f) ≡ scope u f
scope_bare u f = λ j. record {
  env = env_bare u f j;
  in_registers = registers_bare f j;
  frame = all_words (structs_bare u.structs j) (typeds_bare f.params j) + all_words (structs_bare u.structs j) (locals_bare f.body j) + 3;
  exit = λ fault. slice_index fault_exits (exit_number fault) / 4;
}

body_bare : (sc : Scope) (x : Links) (n : ℕ) (b : CBody) → body_code sc x n (bare_body b) ≡ body_code sc x n b
body_bare sc x n (code locals stmts answer) =
    let first = first_facts sc n in
    let answered : made sc (facts_behind_stmts sc first (bare_stmts stmts)) (bare_expr answer) ≡ made sc (facts_behind_stmts sc first stmts) answer =
    (λ i. made sc (facts_behind_all sc.in_registers (trees_bare sc.env stmts i) first) (bare_expr answer)) ∙ made_bare sc (facts_behind_stmts sc first stmts) answer in
    λ j. entry_code (frame_setting sc first) (cleared_bare locals stmts answer j) n (count_bare locals j) (all_words sc.env.structs (typeds_bare locals j)) (callings_bare stmts j)
    ++ (stmts_bare sc first x stmts j
    ++ ((answered j).value ANSWER EXPRESSIONS ++ exit_code (frame_setting sc (facts_behind_all sc.in_registers (trees_bare sc.env stmts j) first)) (callings_bare stmts j)))
body_bare sc x n (asm text span words) = refl

function_bare : (u : CUnit) (x : Links) (f : CFunction) → function_code (scope (bare u) (bare_function f)) x (bare_function f) ≡ function_code (scope u f) x f
function_bare u x f = (λ j. body_code (scope_bare u f j) x (count_bare f.params j) (bare_body f.body)) ∙ body_bare (scope u f) x (length f.params) f.body

functions_bare : (u : CUnit) (x : Links) (fs : List CFunction) → functions_code (bare u) x (map bare_function fs) ≡ functions_code u x fs
functions_bare u x [] = refl
functions_bare u x (f ∷ fs) = λ j. function_bare u x f j ++ functions_bare u x fs j

lengths_bare : (u : CUnit) (fs : List CFunction) → words_of_functions (bare u) (map bare_function fs) ≡ words_of_functions u fs
lengths_bare u [] = refl
lengths_bare u (f ∷ fs) = λ j. length (function_bare u no_links f j) ∷ lengths_bare u fs j

-- parts of the list, and functions in the order of their code
take_bare : (n : ℕ) (fs : List CFunction) → take n (map bare_function fs) ≡ map bare_function (take n fs)
take_bare zero fs = refl
take_bare (suc n) [] = refl
take_bare (suc n) (f ∷ fs) = λ j. bare_function f ∷ take_bare n fs j

drop_bare : (n : ℕ) (fs : List CFunction) → drop n (map bare_function fs) ≡ map bare_function (drop n fs)
drop_bare zero fs = refl
drop_bare (suc n) [] = refl
drop_bare (suc n) (f ∷ fs) = drop_bare n fs

early_words : (u : CUnit) (n : ℕ) → words_of_functions (bare u) (take n (map bare_function u.functions)) ≡ words_of_functions u (take n u.functions)
early_words u n = (λ j. words_of_functions (bare u) (take_bare n u.functions j)) ∙ lengths_bare u (take n u.functions)

late_words : (u : CUnit) (n : ℕ) → words_of_functions (bare u) (drop n (map bare_function u.functions)) ≡ words_of_functions u (drop n u.functions)
late_words u n = (λ j. words_of_functions (bare u) (drop_bare n u.functions j)) ∙ lengths_bare u (drop n u.functions)

ordered_bare : (u : CUnit) (x : Links) (n : ℕ) → ordered_code (bare u) x n ≡ ordered_code u x n
ordered_bare u x n =
    (λ j. functions_code (bare u) x (drop_bare n u.functions j ++ take_bare n u.functions j))
    ∙ ((λ j. functions_code (bare u) x (map_join (drop n u.functions) (take n u.functions) j)) ∙ functions_bare u x (drop n u.functions ++ take n u.functions))
  where
    map_join : (a b : List CFunction) → map bare_function a ++ map bare_function b ≡ map bare_function (a ++ b)
    map_join [] b = refl
    map_join (f ∷ a) b = λ j. bare_function f ∷ map_join a b j

asm_bare : (b : CBody) → is_asm (bare_body b) ≡ is_asm b
asm_bare (code locals stmts answer) = refl
asm_bare (asm text span words) = refl

is_main_bare : (f : CFunction) → is_main (bare_function f) ≡ is_main f
is_main_bare f = λ j. bytes_eq f.name.text (codes "main") && ((count_bare f.params j == 0) && (same_ty (ty_bare f.answer j) int && not (asm_bare f.body j)))

before_main : (fs : List CFunction) → prefix_len (λ f. not (is_main f)) (map bare_function fs) ≡ prefix_len (λ f. not (is_main f)) fs
before_main [] = refl
before_main (f ∷ fs) = λ j. if not (is_main_bare f j) then 1 + before_main fs j else 0

functions_count : (fs : List CFunction) → length (map bare_function fs) ≡ length fs
functions_count [] = refl
functions_count (f ∷ fs) = ap suc (functions_count fs)

main_bare : (u : CUnit) → first_number User (bare u) ≡ first_number User u
main_bare u = λ j. unwrap_or (if nat_lt (before_main u.functions j) (functions_count u.functions j) then Some (before_main u.functions j) else None) 0

-- THE IMAGE
starts_bare : (u : CUnit) (n : ℕ) → function_starts (bare u) n ≡ function_starts u n
starts_bare u n = λ j. starts_from (functions_at + sum (late_words u n j)) (early_words u n j) ++ starts_from functions_at (late_words u n j)

code_words_bare : (u : CUnit) → code_words (bare u) ≡ code_words u
code_words_bare u = λ j. ENTRY_WORDS + sum (lengths_bare u u.functions j) + RUNTIME_WORDS

links_bare : (u : CUnit) (n : ℕ) → unit_links (bare u) n ≡ unit_links u n
links_bare u n = λ j. links (starts_bare u n j) (functions_at + sum (lengths_bare u u.functions j))

words_bare : (u : CUnit) → program_words (bare u) ≡ program_words u
words_bare u =
    (λ j. map encoding (unit_code (bare u) (main_bare u j)))
    ∙ (λ j. map encoding (runtime.startup_code (4 * next_page (layer_words + code_words_bare u j)) ++ (functions_path j ++ routines_code)))
  where
    functions_path : ordered_code (bare u) (unit_links (bare u) (first_number User u)) (first_number User u) ≡ ordered_code u (unit_links u (first_number User u)) (first_number User u)
    functions_path = (λ j. ordered_code (bare u) (links_bare u (first_number User u) j) (first_number User u)) ∙ ordered_bare u (unit_links u (first_number User u)) (first_number User u)

map_bare : (u : CUnit) → map_of_image (bare u) ≡ map_of_image u
map_bare u = λ j. record {
  params = record { pages = 1; frames = 2; heap = ROOM; stack = ROOM };
  users = 0;
  code_words = code_words_bare u j;
  global_words = all_words (structs_bare u.structs j) (typeds_bare u.globals j);
}

pub images_ignore_spans : ImagesIgnoreSpans
images_ignore_spans u = λ j. laid [] (image_parts (words_bare u j) (4 * heap_at (map_bare u j)) (4 * stack_at (map_bare u j)) (4 * (stack_at (map_bare u j) + ROOM)) (tables_at (map_bare u j)))

-- so the image of a text's unit is that of its tree: this may be cited from other crates
pub image_is : ImagesIgnoreSpans → (text : List ℕ) (tree : CUnit) → MeansProgram text tree → (u : CUnit) → IsUnitAs User text u → image_words u ≡ image_words tree
image_is ignore text tree means u is = sym (ignore u) ∙ ap image_words (means.tree_is u is)
