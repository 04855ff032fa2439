-- The source of a kernel or a user program is typed by the rules exactly where no fault stands in it.
use Rattle.std.proofs.Common.{◌≡◌, ℕ, ◌+◌, Bool, true, false, cond, List, [], ◌∷◌, ◌++◌, Option, Some, None, refl, ap, ◌∙◌}
use Rattle.std.specs.Prelude.{IsTrue, is_some}
use Rattle.std.specs.List.{All}
use Rattle.std.proofs.lemmas.Bool.{cond-true}
use Rattle.std.proofs.lemmas.List.Elements.{All-cons, All-nil, All-head, All-tail}
use Rattle.mips_asm.specs.Text.{asm_lines}
use Rattle.c0_asm_text.specs.AsmText.{line_words, first_bad, bad_line}
use Rattle.c0_tree.specs.declared.tree.Span.{Span}
use Rattle.c0_tree.specs.Tree.{CBody, code, asm, CFunction}
use Rattle.c0_meaning.specs.Typed.{ProgramsAreFaultless}
use Rattle.c0_meaning.specs.Unit.{program_faults}
use Rattle.c0_types.specs.Source.{asm_line_fault, asm_fault, asm_faults, read_unit}
use Rattle.c0_types.specs.TypedSource.{IsAllowedBody, SourcesAreFaultless}

none_left : {A : Type 0} (xs ys : List A) → xs ++ ys ≡ [] → xs ≡ []
none_left [] ys h = refl
none_left (x ∷ xs) ys h = cc

none_right : {A : Type 0} (xs ys : List A) → xs ++ ys ≡ [] → ys ≡ []
none_right [] ys h = h
none_right (x ∷ xs) ys h = cc

-- no line of a text is bad exactly where all are allowed
none_bad : (number : ℕ) (lines : List (List ℕ)) → All (λ line. IsTrue (is_some (line_words line))) lines → first_bad number lines ≡ None
none_bad number [] h = refl
none_bad number (line ∷ rest) h =
    cond-true (is_some (line_words line)) (first_bad (number + 1) rest) (Some number) (All-head (λ line. IsTrue (is_some (line_words line))) line rest h)
    ∙ none_bad (number + 1) rest (All-tail (λ line. IsTrue (is_some (line_words line))) line rest h)

bad_none : (number : ℕ) (lines : List (List ℕ)) → first_bad number lines ≡ None → All (λ line. IsTrue (is_some (line_words line))) lines
bad_none number [] h = All-nil (λ (line : List ℕ). IsTrue (is_some (line_words line)))
bad_none number (line ∷ rest) h = by_test (is_some (line_words line)) refl h (λ k. bad_none (number + 1) rest k)
  where
    by_test : (b : Bool) → is_some (line_words line) ≡ b → cond b (first_bad (number + 1) rest) (Some number) ≡ None
        → (first_bad (number + 1) rest ≡ None → All (λ line. IsTrue (is_some (line_words line))) rest) → All (λ line. IsTrue (is_some (line_words line))) (line ∷ rest)
    by_test true e k on = All-cons (λ (line : List ℕ). IsTrue (is_some (line_words line))) line rest e (on k)
    by_test false e k on = absurd (cc)

no_line : (o : Option ℕ) (span : Span) → asm_line_fault o span ≡ [] → o ≡ None
no_line None span h = refl
no_line (Some n) span h = cc

body_none : (b : CBody) → IsAllowedBody b → asm_fault b ≡ []
body_none (code locals stmts answer) h = refl
body_none (asm text span words) h = ap (λ o. asm_line_fault o span) (none_bad 1 (asm_lines text) h)

none_body : (b : CBody) → asm_fault b ≡ [] → IsAllowedBody b
none_body (code locals stmts answer) h = tt
none_body (asm text span words) h = bad_none 1 (asm_lines text) (no_line (bad_line text) span h)

texts_none : (fs : List CFunction) → All (λ f. IsAllowedBody f.body) fs → asm_faults fs ≡ []
texts_none [] h = refl
texts_none (f ∷ rest) h =
    ap (λ xs. xs ++ asm_faults rest) (body_none f.body (All-head (λ f. IsAllowedBody f.body) f rest h)) ∙ texts_none rest (All-tail (λ f. IsAllowedBody f.body) f rest h)

none_texts : (fs : List CFunction) → asm_faults fs ≡ [] → All (λ f. IsAllowedBody f.body) fs
none_texts [] h = All-nil (λ (f : CFunction). IsAllowedBody f.body)
none_texts (f ∷ rest) h =
    All-cons (λ (f : CFunction). IsAllowedBody f.body) f rest (none_body f.body (none_left (asm_fault f.body) (asm_faults rest) h)) (none_texts rest (none_right (asm_fault f.body) (asm_faults rest) h))

pub sources_are_faultless : ProgramsAreFaultless → SourcesAreFaultless
sources_are_faultless law program u = (
  λ t. ap (λ xs. xs ++ asm_faults u.functions) ((law program (read_unit u)).0 t.unit) ∙ texts_none u.functions t.texts,
  λ h. record {
    unit = (law program (read_unit u)).1 (none_left (program_faults program (read_unit u)) (asm_faults u.functions) h);
    texts = none_texts u.functions (none_right (program_faults program (read_unit u)) (asm_faults u.functions) h);
  },
)
