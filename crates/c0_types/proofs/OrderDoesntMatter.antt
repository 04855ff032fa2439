-- The order in which the checker meets the faults of a unit leaves the same kept as the order of the definition.
use Rattle.std.proofs.Common.{◌≡◌, true, false, nat_lt, List, [], ◌∷◌, ◌++◌, length, map, Option, refl, sym, ap, ◌∙◌, subst}
use Rattle.std.proofs.lemmas.List.{append_assoc, append-nil}
use Rattle.c0_tree.specs.declared.tree.Span.{Span}
use Rattle.c0_tree.specs.Tree.{CTy, CDecl, CBody, code, asm, CFunction, CUnit, CName}
use Rattle.c0_tree.specs.declared.primitive.Program.{Program}
use Rattle.c0_tree.specs.Primitives.{CPrimitive, primitives_of}
use Rattle.c0_meaning.specs.Ty.{ty_of}
use Rattle.c0_meaning.specs.Env.{shape_of, typed_of, env_of}
use Rattle.c0_meaning.specs.Fault.{Fault, kept_all, MeetingJoins, TOO_MANY_PARAMETERS, TOO_MANY_NODES, UNIT_TOO_LARGE, GLOBALS_TOO_LARGE}
use Rattle.c0_meaning.specs.DeclaredTypes.{fault_if, type_faults, declared_faults, pass_fault, pass_faults}
use Rattle.c0_meaning.specs.Names.{decl_name_faults, struct_name_faults, unit_name_faults, twice_faults, in_source_order}
use Rattle.c0_meaning.specs.Limits.{max_parameters, whole_span, all_nodes, first_faults, MAX_FUNCTION_NODES, MAX_UNIT_NODES, MAX_GLOBAL_WORDS}
use Rattle.c0_meaning.specs.Unit.{faults_in, structs_faults, signature_faults, body_faults, functions_faults}
use Rattle.c0_meaning.specs.Words.{all_words}
use Rattle.c0_types.specs.Source.{read_body, read_function, read_unit, asm_fault, asm_faults, source_faults_as}
use Rattle.c0_types.specs.Parts.{heading_faults, headings_faults, outer_faults, nodes_with, faults_of_body, bodies_faults}

-- two lists leave the same, whatever was met before
pub record Leaves (fs gs : List Fault) : Type 0 where
  pub met : (m : Option Fault) → kept_all m fs ≡ kept_all m gs

same : (fs gs : List Fault) → fs ≡ gs → Leaves fs gs
same fs gs e = record { met = λ m. ap (kept_all m) e }

onward : (fs gs hs : List Fault) → Leaves fs gs → Leaves gs hs → Leaves fs hs
onward fs gs hs a b = record { met = λ m. a.met m ∙ b.met m }

-- reading asm texts leaves the names
names_read : (fs : List CFunction) → map (λ f. f.name) (map read_function fs) ≡ map (λ f. f.name) fs
names_read [] = refl
names_read (f ∷ fs) = ap (λ (l : List CName). f.name ∷ l) (names_read fs)

module _ (joins : MeetingJoins) where
  both : (fs gs hs is : List Fault) → Leaves fs gs → Leaves hs is → Leaves (fs ++ hs) (gs ++ is)
  both fs gs hs is a b = record {
    met = λ m. joins.joined m fs hs ∙ (ap (λ (k : Option Fault). kept_all k hs) (a.met m) ∙ (b.met (kept_all m gs) ∙ sym (joins.joined m gs is)));
  }

  swapped : (fs gs : List Fault) → Leaves (fs ++ gs) (gs ++ fs)
  swapped fs gs = record { met = λ m. joins.joined m fs gs ∙ (joins.swapped m fs gs ∙ sym (joins.joined m gs fs)) }

  -- what stands before and after stays
  within : (before fs gs after : List Fault) → Leaves fs gs → Leaves (before ++ (fs ++ after)) (before ++ (gs ++ after))
  within before fs gs after h =
      both before before (fs ++ after) (gs ++ after) (same before before refl) (both fs gs after after h (same after after refl))

  interchange : (a b c d : List Fault) → Leaves ((a ++ b) ++ (c ++ d)) ((a ++ c) ++ (b ++ d))
  interchange a b c d =
      let e1 : (a ++ b) ++ (c ++ d) ≡ a ++ ((b ++ c) ++ d) = simp append_assoc in
      let e2 : a ++ ((c ++ b) ++ d) ≡ (a ++ c) ++ (b ++ d) = simp append_assoc in
      onward _ _ _ (same _ _ e1) (onward _ _ _ (within a (b ++ c) (c ++ b) d (swapped b c)) (same _ _ e2))

  -- the faults of a function: its heading's and its body's, or in the order of the definition
  function_parts : (t p d pp m n dl z b a : List Fault)
      → Leaves ((t ++ (p ++ (d ++ (pp ++ m)))) ++ (n ++ (dl ++ (z ++ (b ++ a))))) (((t ++ (p ++ (d ++ (pp ++ (dl ++ (n ++ (m ++ z))))))) ++ b) ++ a)
  function_parts t p d pp m n dl z b a =
      let x : List Fault = t ++ (p ++ (d ++ pp)) in
      let y : List Fault = z ++ (b ++ a) in
      let e1 : (t ++ (p ++ (d ++ (pp ++ m)))) ++ (n ++ (dl ++ (z ++ (b ++ a)))) ≡ (t ++ (p ++ (d ++ pp))) ++ ((m ++ (n ++ dl)) ++ (z ++ (b ++ a))) = simp append_assoc in
      let e2 : (n ++ dl) ++ m ≡ n ++ (dl ++ m) = append_assoc n dl m in
      let e3 : (t ++ (p ++ (d ++ pp))) ++ (((dl ++ n) ++ m) ++ (z ++ (b ++ a))) ≡ ((t ++ (p ++ (d ++ (pp ++ (dl ++ (n ++ (m ++ z))))))) ++ b) ++ a = simp append_assoc in
      onward _ _ _ (same _ _ e1)
      (onward _ _ _ (within x (m ++ (n ++ dl)) ((n ++ dl) ++ m) y (swapped m (n ++ dl)))
      (onward _ _ _ (within x ((n ++ dl) ++ m) ((dl ++ n) ++ m) y (both (n ++ dl) (dl ++ n) m m (swapped n dl) (same m m refl)))
      (same _ _ e3)))

  module _ (primitives : List CPrimitive) (u : CUnit) where
    one_function : (answer : CTy) (answer_span : Span) (name : CName) (params : List CDecl) (b : CBody) (f : CFunction)
        → f ≡ record { answer = answer; answer_span = answer_span; name = name; params = params; body = b } →
        Leaves (heading_faults (map shape_of u.structs) f ++ faults_of_body (env_of primitives (read_unit u) []) f)
        ((signature_faults (map shape_of u.structs) (read_function f) ++ body_faults primitives (read_unit u) (read_function f)) ++ asm_fault f.body)
    one_function answer answer_span name params (code locals stmts e) f is =
        subst (λ (g : CFunction). Leaves (heading_faults (map shape_of u.structs) g ++ faults_of_body (env_of primitives (read_unit u) []) g)
        ((signature_faults (map shape_of u.structs) (read_function g) ++ body_faults primitives (read_unit u) (read_function g)) ++ asm_fault g.body)) (sym is)
        (function_parts (type_faults (map shape_of u.structs) answer answer_span) (pass_fault false answer answer_span)
        (declared_faults (map shape_of u.structs) params) (pass_faults false params)
        (fault_if (nat_lt (max_parameters false) (length params)) TOO_MANY_PARAMETERS name.span)
        (decl_name_faults (params ++ locals)) (declared_faults (map shape_of u.structs) locals)
        (fault_if (nat_lt MAX_FUNCTION_NODES (nodes_with (length params) (code locals stmts e))) TOO_MANY_NODES name.span)
        (faults_in (env_of primitives (read_unit u) (params ++ locals)) (ty_of answer) (code locals stmts e)) [])
    one_function answer answer_span name params (asm text span words) f is =
        subst (λ (g : CFunction). Leaves (heading_faults (map shape_of u.structs) g ++ faults_of_body (env_of primitives (read_unit u) []) g)
        ((signature_faults (map shape_of u.structs) (read_function g) ++ body_faults primitives (read_unit u) (read_function g)) ++ asm_fault g.body)) (sym is)
        (function_parts (type_faults (map shape_of u.structs) answer answer_span) (pass_fault true answer answer_span)
        (declared_faults (map shape_of u.structs) params) (pass_faults true params)
        (fault_if (nat_lt (max_parameters true) (length params)) TOO_MANY_PARAMETERS name.span)
        (decl_name_faults (params ++ [])) []
        (fault_if (nat_lt MAX_FUNCTION_NODES (nodes_with (length params) (read_body (asm text span words)))) TOO_MANY_NODES name.span)
        [] (asm_fault (asm text span words)))

    -- the faults of functions: of all headings and then of all bodies, or in the order of the definition
    all_functions : (fs : List CFunction)
        → Leaves (headings_faults (map shape_of u.structs) fs ++ bodies_faults (env_of primitives (read_unit u) []) fs)
        (functions_faults primitives (read_unit u) (map read_function fs) ++ asm_faults fs)
    all_functions [] = same [] [] refl
    all_functions (f ∷ fs) =
        let h : List Fault = heading_faults (map shape_of u.structs) f in
        let i : List Fault = faults_of_body (env_of primitives (read_unit u) []) f in
        let hs : List Fault = headings_faults (map shape_of u.structs) fs in
        let is : List Fault = bodies_faults (env_of primitives (read_unit u) []) fs in
        let s : List Fault = signature_faults (map shape_of u.structs) (read_function f) ++ body_faults primitives (read_unit u) (read_function f) in
        let ss : List Fault = functions_faults primitives (read_unit u) (map read_function fs) in
        onward ((h ++ hs) ++ (i ++ is)) ((h ++ i) ++ (hs ++ is)) ((s ++ ss) ++ (asm_fault f.body ++ asm_faults fs)) (interchange h hs i is)
        (onward ((h ++ i) ++ (hs ++ is)) ((s ++ asm_fault f.body) ++ (ss ++ asm_faults fs)) ((s ++ ss) ++ (asm_fault f.body ++ asm_faults fs))
        (both (h ++ i) (s ++ asm_fault f.body) (hs ++ is) (ss ++ asm_faults fs) (one_function f.answer f.answer_span f.name f.params f.body f refl) (all_functions fs))
        (interchange s (asm_fault f.body) ss (asm_faults fs)))

  -- the faults of a whole unit
  unit_parts : (s t n g l h b z d f a : List Fault) → Leaves (h ++ b) (f ++ a)
      → Leaves (((s ++ t) ++ (n ++ (g ++ (l ++ h)))) ++ (b ++ (z ++ d))) (((s ++ (t ++ (n ++ (l ++ (f ++ (z ++ g)))))) ++ d) ++ a)
  unit_parts s t n g l h b z d f a known =
      let x : List Fault = s ++ (t ++ n) in
      let e1 : ((s ++ t) ++ (n ++ (g ++ (l ++ h)))) ++ (b ++ (z ++ d)) ≡ ((s ++ (t ++ n)) ++ (g ++ l)) ++ ((h ++ b) ++ (z ++ d)) = simp append_assoc in
      let e2 : ((s ++ (t ++ n)) ++ (g ++ l)) ++ ((f ++ a) ++ (z ++ d)) ≡ ((s ++ (t ++ n)) ++ ((g ++ l) ++ f)) ++ ((a ++ (z ++ d)) ++ []) = simp (append_assoc, append-nil) in
      let e3 : ((s ++ (t ++ n)) ++ ((g ++ l) ++ f)) ++ (((z ++ d) ++ a) ++ []) ≡ (s ++ (t ++ n)) ++ ((g ++ (l ++ (f ++ z))) ++ (d ++ a)) = simp (append_assoc, append-nil) in
      let e4 : (s ++ (t ++ n)) ++ (((l ++ (f ++ z)) ++ g) ++ (d ++ a)) ≡ ((s ++ (t ++ (n ++ (l ++ (f ++ (z ++ g)))))) ++ d) ++ a = simp append_assoc in
      onward _ _ _ (same _ _ e1)
      (onward _ _ _ (within (x ++ (g ++ l)) (h ++ b) (f ++ a) (z ++ d) known)
      (onward _ _ _ (same _ _ e2)
      (onward _ _ _ (within (x ++ ((g ++ l) ++ f)) (a ++ (z ++ d)) ((z ++ d) ++ a) [] (swapped a (z ++ d)))
      (onward _ _ _ (same _ _ e3)
      (onward _ _ _ (within x (g ++ (l ++ (f ++ z))) ((l ++ (f ++ z)) ++ g) (d ++ a) (swapped g (l ++ (f ++ z))))
      (same _ _ e4))))))

  pub whole_unit : (program : Program) (u : CUnit)
      → Leaves (outer_faults (primitives_of program) u ++ (bodies_faults (env_of (primitives_of program) (read_unit u) []) u.functions
      ++ (fault_if (nat_lt MAX_UNIT_NODES (all_nodes (map read_function u.functions))) UNIT_TOO_LARGE (whole_span u.length) ++ first_faults program (read_unit u)))) (source_faults_as program u)
  whole_unit program u =
      let s : List Fault = struct_name_faults u.structs in
      let t : List Fault = structs_faults (map shape_of u.structs) u.structs in
      let g : List Fault = fault_if (nat_lt MAX_GLOBAL_WORDS (all_words (map shape_of u.structs) (map typed_of u.globals))) GLOBALS_TOO_LARGE (whole_span u.length) in
      let l : List Fault = declared_faults (map shape_of u.structs) u.globals in
      let h : List Fault = headings_faults (map shape_of u.structs) u.functions in
      let b : List Fault = bodies_faults (env_of (primitives_of program) (read_unit u) []) u.functions in
      let z : List Fault = fault_if (nat_lt MAX_UNIT_NODES (all_nodes (map read_function u.functions))) UNIT_TOO_LARGE (whole_span u.length) in
      let d : List Fault = first_faults program (read_unit u) in
      subst (λ (names : List CName). Leaves (((s ++ t) ++ (twice_faults (map (λ p. p.name) (primitives_of program)) (in_source_order (map (λ d. d.name) u.globals) names) ++ (g ++ (l ++ h)))) ++ (b ++ (z ++ d))) (source_faults_as program u))
      (names_read u.functions)
      (unit_parts s t (unit_name_faults (primitives_of program) u.globals (map read_function u.functions)) g l h b z d
      (functions_faults (primitives_of program) (read_unit u) (map read_function u.functions)) (asm_faults u.functions)
      (all_functions (primitives_of program) u u.functions))
