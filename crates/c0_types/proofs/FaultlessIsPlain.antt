-- A unit in which no fault stands is plain once its asm texts are read, since no asm body has more words than a function may have nodes;
-- and the words that are read are allowed.
use Rattle.std.proofs.Common.{◌≡◌, ℕ, suc, ◌+◌, ◌^◌, Bool, true, false, ◌&&◌, nat_lt, List, [], ◌∷◌, ◌++◌, length, map, refl, ap, ◌∙◌, arith}
use Rattle.std.specs.List.{list_all}
use Rattle.std.specs.Prelude.{IsTrue}
use Rattle.std.proofs.lemmas.Bool.Decides.{nat_tests}
use Rattle.std.proofs.lemmas.List.Elements.{All-nil, All-cons}
use Rattle.c0_tree.specs.declared.tree.Span.{Span}
use Rattle.c0_tree.specs.Plain.{is_short, is_plain_struct, is_plain_body, is_plain}
use Rattle.c0_tree.specs.declared.primitive.Program.{Program}
use Rattle.c0_tree.specs.Primitives.{CPrimitive, primitives_of}
use Rattle.c0_tree.specs.Tree.{CBody, code, asm, CFunction, CUnit}
use Rattle.c0_asm_text.specs.AsmText.{text_words}
use Rattle.c0_asm_text.proofs.LinesAllowed.{words_allowed}
use Rattle.c0_meaning.specs.DeclaredTypes.{fault_if, type_faults, declared_faults, pass_fault, pass_faults}
use Rattle.c0_meaning.specs.Env.{Shape, shape_of}
use Rattle.c0_meaning.specs.Fault.{Fault, TOO_MANY_PARAMETERS}
use Rattle.c0_meaning.specs.Asm.{are_allowed_words}
use Rattle.c0_meaning.specs.Limits.{MAX_FUNCTION_NODES, is_asm, locals_of, words_held, max_parameters, nodes_of, first_faults}
use Rattle.c0_meaning.specs.Names.{struct_name_faults, unit_name_faults, decl_name_faults}
use Rattle.c0_meaning.specs.Unit.{signature_faults, body_faults, functions_faults, structs_faults, unit_faults, program_faults, AreWordsAllowed}
use Rattle.c0_types.specs.Source.{read_body, read_function, read_unit}

split : (xs ys : List Fault) → xs ++ ys ≡ [] → (xs ≡ []) × (ys ≡ [])
split [] ys h = (refl, h)
split (x ∷ xs) ys h = cc

both : (a b : Bool) → (a && b) ≡ true → (a ≡ true) × (b ≡ true)
both true b h = (refl, h)
both false b h = cc

pair : (a b : Bool) → a ≡ true → b ≡ true → (a && b) ≡ true
pair a b p q = ap (λ x. x && b) p ∙ q

no_fault : (wrong : Bool) (number : ℕ) (s : Span) → fault_if wrong number s ≡ [] → wrong ≡ false
no_fault true number s h = cc
no_fault false number s h = refl

-- no fault of a function's heading stands: so it hasn't too many nodes
few_nodes : (structs : List Shape) (f : CFunction) → signature_faults structs f ≡ [] → nat_lt MAX_FUNCTION_NODES (nodes_of f) ≡ false
few_nodes structs f h =
    let a = split (type_faults structs f.answer f.answer_span) _ h in
    let b = split (pass_fault (is_asm f.body) f.answer f.answer_span) _ a.1 in
    let c = split (declared_faults structs f.params) _ b.1 in
    let d = split (pass_faults (is_asm f.body) f.params) _ c.1 in
    let e = split (declared_faults structs (locals_of f.body)) _ d.1 in
    let g = split (decl_name_faults (f.params ++ locals_of f.body)) _ e.1 in
    let k = split (fault_if (nat_lt (max_parameters (is_asm f.body)) (length f.params)) TOO_MANY_PARAMETERS f.name.span) _ g.1 in
    no_fault _ _ _ k.1

-- a count of words within so many nodes
few_words : (params words : ℕ) → nat_lt MAX_FUNCTION_NODES (1 + params + words) ≡ false → nat_lt words (2 ^ 32) ≡ true
few_words params words h = grind (arith, nat_tests)

read_is_plain : (f : CFunction) (b : CBody) → is_plain_body b ≡ true
    → nat_lt MAX_FUNCTION_NODES (nodes_of (record { answer = f.answer; answer_span = f.answer_span; name = f.name; params = f.params; body = read_body b })) ≡ false
    → is_plain_body (read_body b) ≡ true
read_is_plain f (code locals stmts answer) h k = h
read_is_plain f (asm text span words) h k = pair (is_short text) _ (both (is_short text) _ h).0 (few_words (length f.params) (length (text_words text)) k)

-- the lists and numbers of a function are those that are spoken of
abbrev PlainFunction : CFunction → Bool
PlainFunction f = is_short f.params && is_plain_body f.body

functions_plain : (primitives : List CPrimitive) (u : CUnit) (fs : List CFunction) → list_all PlainFunction fs ≡ true
    → functions_faults primitives u (map read_function fs) ≡ [] → list_all PlainFunction (map read_function fs) ≡ true
functions_plain primitives u [] h k = refl
functions_plain primitives u (f ∷ rest) h k =
    let one = both (PlainFunction f) (list_all PlainFunction rest) h in
    let parts = both (is_short f.params) (is_plain_body f.body) one.0 in
    let whole = split (signature_faults (map shape_of u.structs) (read_function f) ++ body_faults primitives u (read_function f)) _ k in
    let heading = split (signature_faults (map shape_of u.structs) (read_function f)) _ whole.0 in
    pair (PlainFunction (read_function f)) _
    (pair (is_short f.params) _ parts.0 (read_is_plain f f.body parts.1 (few_nodes (map shape_of u.structs) (read_function f) heading.0)))
    (functions_plain primitives u rest one.1 whole.1)

functions_fault_free : (primitives : List CPrimitive) (u : CUnit) → unit_faults primitives u ≡ [] → functions_faults primitives u u.functions ≡ []
functions_fault_free primitives u h =
    let a = split (struct_name_faults u.structs) _ h in
    let b = split (structs_faults (map shape_of u.structs) u.structs) _ a.1 in
    let c = split (unit_name_faults primitives u.globals u.functions) _ b.1 in
    let d = split (declared_faults (map shape_of u.structs) u.globals) _ c.1 in
    (split (functions_faults primitives u u.functions) _ d.1).0

pub read_plain : (program : Program) (u : CUnit) → is_plain u ≡ true → program_faults program (read_unit u) ≡ [] → is_plain (read_unit u) ≡ true
read_plain program u h k =
    let a = both (is_short u.structs) _ h in
    let b = both (is_short u.globals) _ a.1 in
    let c = both (is_short u.functions) _ b.1 in
    let d = both (list_all is_plain_struct u.structs) (list_all PlainFunction u.functions) c.1 in
    let faultless = functions_fault_free (primitives_of program) (read_unit u) (split (unit_faults (primitives_of program) (read_unit u)) (first_faults program (read_unit u)) k).0 in
    pair (is_short u.structs) _ a.0
    (pair (is_short u.globals) _ b.0
    (pair (is_short (map read_function u.functions)) _ (same_length u.functions ∙ c.0)
    (pair (list_all is_plain_struct u.structs) _ d.0 (functions_plain (primitives_of program) (read_unit u) u.functions d.1 faultless))))
  where
    count : (fs : List CFunction) → length (map read_function fs) ≡ length fs
    count [] = refl
    count (f ∷ fs) = ap (λ n. suc n) (count fs)

    same_length : (fs : List CFunction) → is_short (map read_function fs) ≡ is_short fs
    same_length fs = ap (λ n. nat_lt n (2 ^ 32)) (count fs)

pub read_allowed : (fs : List CFunction) → AreWordsAllowed (map read_function fs)
read_allowed [] = All-nil (λ f. IsTrue (are_allowed_words (words_held f.body)))
read_allowed (f ∷ fs) = All-cons (λ g. IsTrue (are_allowed_words (words_held g.body))) (read_function f) (map read_function fs) (body_allowed f.body) (read_allowed fs)
  where
    body_allowed : (b : CBody) → are_allowed_words (words_held (read_body b)) ≡ true
    body_allowed (code locals stmts answer) = refl
    body_allowed (asm text span words) = words_allowed _
