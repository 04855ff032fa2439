-- Units with their names resolved: their faults stay, and resolving them again changes nothing.
use Rattle.std.proofs.Common.{◌≡◌, ℕ, suc, not, ◌&&◌, Bool, IsTrue, List, [], ◌∷◌, ◌++◌, length, map, refl, sym, ap, ◌∙◌, subst}
use Rattle.std.proofs.lemmas.List.{map-append}
use Rattle.std.proofs.lemmas.List.Elements.{All-cons, All-head, All-tail}
use Rattle.std.specs.List.{list_all, list_any}
use Rattle.c0_tree.specs.declared.tree.Span.{Span}
use Rattle.c0_tree.specs.declared.tree.Kind.{Kind}
use Rattle.c0_tree.specs.declared.tree.Kind.TheVariants.{Global, Local}
use Rattle.c0_tree.specs.Tree.{CName, CTy, CDecl, CStruct, CBody, code, asm, CFunction, CUnit}
use Rattle.c0_tree.specs.Size.{body_nodes}
use Rattle.c0_tree.specs.Plain.{is_short, is_plain_body, is_plain}
use Rattle.c0_tree.specs.declared.primitive.Program.{Program}
use Rattle.c0_tree.specs.declared.primitive.Program.TheVariants.{Kernel, User}
use Rattle.c0_tree.specs.Primitives.{CPrimitive}
use Rattle.c0_meaning.specs.Ty.{Ty, ty_of}
use Rattle.c0_meaning.specs.Env.{Shape, shape_of, typed_of, signature_of, Env, env_of}
use Rattle.c0_meaning.specs.DeclaredTypes.{fault_if, type_faults, declared_faults}
use Rattle.c0_meaning.specs.Names.{in_source_order, unit_names, unit_name_faults, decl_name_faults}
use Rattle.c0_meaning.specs.Limits.{is_asm, words_held, locals_of, nodes_of, all_nodes, are_three_ints, is_first, none_first, whole_span}
use Rattle.c0_meaning.specs.Resolved.{resolved_type, resolved_decls, resolved_structs}
use Rattle.c0_meaning.specs.Expression.{resolved}
use Rattle.c0_meaning.specs.Statement.{stmts_resolved}
use Rattle.c0_meaning.specs.Asm.{are_allowed_words}
use Rattle.c0_meaning.specs.Unit.{signature_faults, faults_in, body_faults, functions_faults, unit_faults, resolved_body, resolved_function, resolved_functions, resolved_unit, AreWordsAllowed}
use Rattle.c0_meaning.specs.Stable.{ResolvingIsStable}
use Rattle.c0_meaning.proofs.StableTypes.{bare, type_again, ty_kept, type_faults_kept, pass_kept, typed_kept, tys_kept, decls_length, declared_kept, passes_kept, decls_again, twice_alike, decl_names_bare, ordered_bare, shapes_kept, structs_length, struct_names_kept, structs_kept, structs_again, plain_structs_kept}
use Rattle.c0_meaning.proofs.StableExpressions.{IsKept, kept}
use Rattle.c0_meaning.proofs.StableStatements.{tested_kept, IsSettled, AreStmtsKept, stmts_kept}

-- the types behind `new`
types_settled : (structs : List Shape) → IsSettled (type_faults structs) (resolved_type structs)
types_settled structs = record { faulty = type_faults_kept structs; same = ty_kept structs; again = type_again structs }

-- a body of which the same is read as of another, and that resolving leaves as it is
record IsBodyKept (env : Env) (first : ℕ) (b d : CBody) : Type 0 where
  faulty : (result : Ty) → faults_in env result d ≡ faults_in env result b
  in_asm : is_asm d ≡ is_asm b
  words : words_held d ≡ words_held b
  counted : (words : ℕ) → body_nodes words d ≡ body_nodes words b
  plain : is_plain_body d ≡ is_plain_body b
  locals : locals_of d ≡ resolved_decls env.structs Local first (locals_of b)
  again : resolved_body env first d ≡ d

body_kept : (env : Env) (first : ℕ) (b : CBody) → IsBodyKept env first b (resolved_body env first b)
body_kept env first (code locals stmts answer) =
    let settled : CTy → CTy = resolved_type env.structs in
    let ss : AreStmtsKept (type_faults env.structs) settled env stmts (stmts_resolved settled env stmts) =
    stmts_kept (type_faults env.structs) settled env (types_settled env.structs) stmts in
    let e : IsKept env answer (resolved env answer) = kept env answer in
    record {
      faulty = λ result. cc (tested_kept env result answer (resolved env answer) e);
      in_asm = refl;
      words = refl;
      counted = λ words. cc (decls_length env.structs Local first locals);
      plain = cc (decls_length env.structs Local first locals);
      locals = refl;
      again = cc (decls_again env.structs Local first locals);
    }
body_kept env first (asm text span words) = record {
  faulty = λ result. refl;
  in_asm = refl;
  words = refl;
  counted = λ words. refl;
  plain = refl;
  locals = refl;
  again = refl;
}

-- units that give bodies the same environment
pub record AreAlike (u v : CUnit) : Type 0 where
  pub structs : map shape_of v.structs ≡ map shape_of u.structs
  pub globals : map typed_of v.globals ≡ map typed_of u.globals
  pub functions : map signature_of v.functions ≡ map signature_of u.functions

-- so they do
env_alike : (primitives : List CPrimitive) (u v : CUnit) (locals others : List CDecl) → AreAlike u v
    → map typed_of others ≡ map typed_of locals → env_of primitives v others ≡ env_of primitives u locals
env_alike primitives u v locals others alike e = cc

signatures_kept : (primitives : List CPrimitive) (u : CUnit) (k : ℕ) (functions : List CFunction)
    → map signature_of (resolved_functions primitives u k functions) ≡ map signature_of functions
signatures_kept primitives u k [] = refl
signatures_kept primitives u k (f ∷ rest) =
    cc (ty_kept (map shape_of u.structs) f.answer, tys_kept (map shape_of u.structs) Local 0 f.params, signatures_kept primitives u (suc k) rest)

-- a unit and itself resolved
pub units_alike : (primitives : List CPrimitive) (u : CUnit) → AreAlike u (resolved_unit primitives u)
units_alike primitives u = record {
  structs = shapes_kept (map shape_of u.structs) 0 u.structs;
  globals = typed_kept (map shape_of u.structs) Global 0 u.globals;
  functions = signatures_kept primitives u 0 u.functions;
}

-- functions
-- parameters and locals in one list
joined_typed : (decls more others rest : List CDecl) → map typed_of others ≡ map typed_of decls → map typed_of rest ≡ map typed_of more
    → map typed_of (others ++ rest) ≡ map typed_of (decls ++ more)
joined_typed decls more others rest p q = simp map-append cc

joined_names : (decls more others rest : List CDecl) → map bare (map (λ d. d.name) others) ≡ map bare (map (λ d. d.name) decls)
    → map bare (map (λ d. d.name) rest) ≡ map bare (map (λ d. d.name) more)
    → decl_name_faults (others ++ rest) ≡ decl_name_faults (decls ++ more)
joined_names decls more others rest p q = twice_alike [] (map (λ d. d.name) (decls ++ more)) (map (λ d. d.name) (others ++ rest)) (simp map-append cc)

three_ints_kept : (structs : List Shape) (kind : Kind) (k : ℕ) (decls : List CDecl)
    → are_three_ints (resolved_decls structs kind k decls) ≡ are_three_ints decls
three_ints_kept structs kind k [] = refl
three_ints_kept structs kind k (a ∷ []) = refl
three_ints_kept structs kind k (a ∷ b ∷ []) = refl
three_ints_kept structs kind k (a ∷ b ∷ c ∷ []) = cc (ty_kept structs a.ty, ty_kept structs b.ty, ty_kept structs c.ty)
three_ints_kept structs kind k (a ∷ b ∷ c ∷ d ∷ rest) = refl

-- a run begins with a function that has the name, the types and the kind of body of one with which it begins
first_kept : (program : Program) (f g : CFunction) → g.name.text ≡ f.name.text → are_three_ints g.params ≡ are_three_ints f.params
    → length g.params ≡ length f.params → ty_of g.answer ≡ ty_of f.answer → is_asm g.body ≡ is_asm f.body → is_first program g ≡ is_first program f
first_kept Kernel f g name ints many answer in_asm = cc
first_kept User f g name ints many answer in_asm = cc

-- a function of this number of which the same is read in one unit as of another in another unit, and that resolving leaves as it is
record IsFunctionKept (primitives : List CPrimitive) (u v : CUnit) (k : ℕ) (f g : CFunction) : Type 0 where
  signature : signature_faults (map shape_of v.structs) g ≡ signature_faults (map shape_of u.structs) f
  body : body_faults primitives v g ≡ body_faults primitives u f
  counted : nodes_of g ≡ nodes_of f
  first : (program : Program) → is_first program g ≡ is_first program f
  plain : (is_short g.params && is_plain_body g.body) ≡ (is_short f.params && is_plain_body f.body)
  words : words_held g.body ≡ words_held f.body
  again : resolved_function primitives v k g ≡ g

function_kept : (primitives : List CPrimitive) (u v : CUnit) (k : ℕ) (f : CFunction) → AreAlike u v
    → IsFunctionKept primitives u v k f (resolved_function primitives u k f)
function_kept primitives u v k f alike =
    let structs : List Shape = map shape_of u.structs in
    let env : Env = env_of primitives u (f.params ++ locals_of f.body) in
    let params : List CDecl = resolved_decls structs Local 0 f.params in
    let body : CBody = resolved_body env (length f.params) f.body in
    let b : IsBodyKept env (length f.params) f.body body = body_kept env (length f.params) f.body in
    let in_asm : Bool = is_asm f.body in
    let many : length params ≡ length f.params = decls_length structs Local 0 f.params in
    let nodes : nodes_of (resolved_function primitives u k f) ≡ nodes_of f = cc (many, b.words, b.counted (length (words_held f.body))) in
    let places : map typed_of (locals_of body) ≡ map typed_of (locals_of f.body) = ap (map typed_of) b.locals ∙ typed_kept structs Local (length f.params) (locals_of f.body) in
    let same : env_of primitives v (params ++ locals_of body) ≡ env =
    env_alike primitives u v _ _ alike (joined_typed f.params (locals_of f.body) params (locals_of body) (typed_kept structs Local 0 f.params) places) in
    let local_faults : declared_faults structs (locals_of body) ≡ declared_faults structs (locals_of f.body) = ap (declared_faults structs) b.locals ∙ declared_kept structs Local (length f.params) (locals_of f.body) in
    let apart : decl_name_faults (params ++ locals_of body) ≡ decl_name_faults (f.params ++ locals_of f.body) =
    joined_names f.params (locals_of f.body) params (locals_of body) (decl_names_bare structs Local 0 f.params)
    (ap (λ (ds : List CDecl). map bare (map (λ d. d.name) ds)) b.locals ∙ decl_names_bare structs Local (length f.params) (locals_of f.body)) in
    let answer : ty_of (resolved_type structs f.answer) ≡ ty_of f.answer = ty_kept structs f.answer in
    record {
      signature = cc (
        alike.structs,
        type_faults_kept structs f.answer f.answer_span,
        pass_kept structs in_asm f.answer f.answer_span,
        declared_kept structs Local 0 f.params,
        passes_kept structs in_asm Local 0 f.params,
      );
      body = cc (b.faulty (ty_of f.answer));
      counted = nodes;
      first = λ program. first_kept program f (resolved_function primitives u k f) refl (three_ints_kept structs Local 0 f.params) many answer b.in_asm;
      plain = cc;
      words = b.words;
      again = cc (alike.structs, type_again structs f.answer, decls_again structs Local 0 f.params, b.again);
    }

-- functions of which the same is read
pub record AreFunctionsKept (primitives : List CPrimitive) (u v : CUnit) (k : ℕ) (fs gs : List CFunction) : Type 0 where
  faulty : functions_faults primitives v gs ≡ functions_faults primitives u fs
  counted : all_nodes gs ≡ all_nodes fs
  many : length gs ≡ length fs
  first : (program : Program) → list_any (is_first program) gs ≡ list_any (is_first program) fs
  plain : list_all (λ f. is_short f.params && is_plain_body f.body) gs ≡ list_all (λ f. is_short f.params && is_plain_body f.body) fs
  words : AreWordsAllowed fs → AreWordsAllowed gs
  names : map bare (map (λ f. f.name) gs) ≡ map bare (map (λ f. f.name) fs)
  again : resolved_functions primitives v k gs ≡ gs

pub functions_kept : (primitives : List CPrimitive) (u v : CUnit) (k : ℕ) (fs : List CFunction) → AreAlike u v
    → AreFunctionsKept primitives u v k fs (resolved_functions primitives u k fs)
functions_kept primitives u v k [] alike = record {
  faulty = refl;
  counted = refl;
  many = refl;
  first = λ program. refl;
  plain = refl;
  words = λ a. a;
  names = refl;
  again = refl;
}
functions_kept primitives u v k (f ∷ rest) alike =
    let x : IsFunctionKept primitives u v k f (resolved_function primitives u k f) = function_kept primitives u v k f alike in
    let xs : AreFunctionsKept primitives u v (suc k) rest (resolved_functions primitives u (suc k) rest) = functions_kept primitives u v (suc k) rest alike in
    record {
      faulty = cc;
      counted = cc;
      many = cc;
      first = λ program. cc (x.first program, xs.first program);
      plain = cc;
      words = λ a. All-cons (λ g. IsTrue (are_allowed_words (words_held g.body))) _ _
          (subst (λ (ws : List ℕ). IsTrue (are_allowed_words ws)) (sym x.words) (All-head (λ g. IsTrue (are_allowed_words (words_held g.body))) f rest a))
          (xs.words (All-tail (λ g. IsTrue (are_allowed_words (words_held g.body))) f rest a));
      names = cc;
      again = cc;
    }

-- units
-- names that are set twice in a unit
unit_names_kept : (primitives : List CPrimitive) (globals others : List CDecl) (functions gs : List CFunction)
    → map bare (map (λ d. d.name) others) ≡ map bare (map (λ d. d.name) globals) → map bare (map (λ f. f.name) gs) ≡ map bare (map (λ f. f.name) functions)
    → unit_name_faults primitives others gs ≡ unit_name_faults primitives globals functions
unit_names_kept primitives globals others functions gs p q =
    twice_alike (map (λ r. r.name) primitives) (unit_names globals functions) (unit_names others gs)
    (ordered_bare (map (λ d. d.name) others) (map (λ f. f.name) gs)
    ∙ (ap (λ (names : List CName). in_source_order names (map bare (map (λ f. f.name) gs))) p
    ∙ (ap (in_source_order (map bare (map (λ d. d.name) globals))) q
    ∙ sym (ordered_bare (map (λ d. d.name) globals) (map (λ f. f.name) functions)))))

-- equal parts make equal units
same_parts : (n : ℕ) (structs others : List CStruct) (globals more : List CDecl) (fs gs : List CFunction) → others ≡ structs
    → more ≡ globals → gs ≡ fs
    → ◌≡◌ {A = CUnit} (record { length = n; structs = others; globals = more; functions = gs }) (record { length = n; structs = structs; globals = globals; functions = fs })
same_parts n structs others globals more fs gs a b c = cc

-- a unit whose parts resolving leaves as they are
unit_again : (primitives : List CPrimitive) (u : CUnit) (structs : List Shape) → map shape_of u.structs ≡ structs
    → resolved_structs structs 0 u.structs ≡ u.structs
    → resolved_decls structs Global 0 u.globals ≡ u.globals → resolved_functions primitives u 0 u.functions ≡ u.functions → resolved_unit primitives u ≡ u
unit_again primitives u structs same a b c =
    same_parts u.length u.structs _ u.globals _ u.functions _ (ap (λ (shapes : List Shape). resolved_structs shapes 0 u.structs) same ∙ a)
    (ap (λ (shapes : List Shape). resolved_decls shapes Global 0 u.globals) same ∙ b) c

-- the functions of a unit and those of itself resolved
unit_functions_kept : (primitives : List CPrimitive) (u : CUnit)
    → AreFunctionsKept primitives u (resolved_unit primitives u) 0 u.functions (resolved_unit primitives u).functions
unit_functions_kept primitives u = functions_kept primitives u (resolved_unit primitives u) 0 u.functions (units_alike primitives u)

unit_kept : (primitives : List CPrimitive) (u : CUnit) → unit_faults primitives (resolved_unit primitives u) ≡ unit_faults primitives u
unit_kept primitives u =
    let structs : List Shape = map shape_of u.structs in
    let v : CUnit = resolved_unit primitives u in
    let alike : AreAlike u v = units_alike primitives u in
    let fs : AreFunctionsKept primitives u v 0 u.functions v.functions = unit_functions_kept primitives u in
    let names : unit_name_faults primitives v.globals v.functions ≡ unit_name_faults primitives u.globals u.functions =
    unit_names_kept primitives u.globals v.globals u.functions v.functions (decl_names_bare structs Global 0 u.globals) fs.names in
    cc (alike.structs, alike.globals, struct_names_kept structs 0 u.structs, structs_kept structs 0 u.structs, declared_kept structs Global 0 u.globals)

unit_plain : (primitives : List CPrimitive) (u : CUnit) → is_plain (resolved_unit primitives u) ≡ is_plain u
unit_plain primitives u =
    let structs : List Shape = map shape_of u.structs in
    let fs : AreFunctionsKept primitives u (resolved_unit primitives u) 0 u.functions (resolved_unit primitives u).functions = unit_functions_kept primitives u in
    cc (structs_length structs 0 u.structs, decls_length structs Global 0 u.globals, plain_structs_kept structs 0 u.structs)

none_first_kept : (number : ℕ) (found other : Bool) (span : Span) → other ≡ found
    → fault_if (not other) number span ≡ fault_if (not found) number span
none_first_kept number found other span e = cc

pub resolving_is_stable : ResolvingIsStable
resolving_is_stable = record {
  faults = unit_kept;
  first = λ program primitives u. none_first_kept (none_first program) _ _ (whole_span u.length) ((unit_functions_kept primitives u).first program);
  again = λ primitives u. unit_again primitives (resolved_unit primitives u) (map shape_of u.structs) (units_alike primitives u).structs
      (structs_again (map shape_of u.structs) 0 u.structs) (decls_again (map shape_of u.structs) Global 0 u.globals) (unit_functions_kept primitives u).again;
  plain = unit_plain;
  words = λ primitives u. (unit_functions_kept primitives u).words;
}
