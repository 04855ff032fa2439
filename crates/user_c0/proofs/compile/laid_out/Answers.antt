-- The parts are those of the program.
use Rattle.std.proofs.Common.{◌≡◌, ℕ, ◌+◌, ◌*◌, List, [], sym, ap, ◌∙◌, subst, arith}
use Rattle.layer_map.specs.Map.{Map, heap_at, stack_at, tables_at}
use Rattle.c0_tree.specs.View.{unit_view}
use Rattle.c0_unit.specs.Code.{program_words}
use Rattle.cvm_model.specs.Cvm.{first_flat}
use Rattle.user_c0.specs.Image.{image_words, laid, image_parts, map_of_image}
use Rattle.user_c0.specs.Program.{RunsAsMeant}
use Rattle.user_c0.proofs.compile.laid_out.Goals as goal

-- parts of the same words, addresses and length
same_parts : (c c' : List ℕ) (h h' s s' l l' w w' : ℕ) → c ≡ c' → h ≡ h' → s ≡ s' → l ≡ l' → w ≡ w' → laid [] (image_parts c h s l w) ≡ laid [] (image_parts c' h' s' l' w')
same_parts c c' h h' s s' l l' w w' a b d f e =
    ap (λ (x : List ℕ). laid [] (image_parts x h s l w)) a ∙ ap (λ (x : ℕ). laid [] (image_parts c' x s l w)) b ∙ ap (λ (x : ℕ). laid [] (image_parts c' h' x l w)) d
    ∙ ap (λ (x : ℕ). laid [] (image_parts c' h' s' x w)) f ∙ ap (λ (x : ℕ). laid [] (image_parts c' h' s' l' x)) e

pub returns-clause-words : goal.returns-clause-words
returns-clause-words c =
    let tables : c.page_tables.result ≡ 4 * tables_at (map_of_image (unit_view c.args.unit.now)) = c.page_tables.ensures ∙ ap (λ (m : Map). 4 * tables_at m) c.requires.map in
    c.in_ok-laid.ensures
    ∙ same_parts c.args.code.now (program_words (unit_view c.args.unit.now)) c.heap.result _ c.stack.result _ c.stack_limit.result _ _ _ c.requires.code (c.heap.ensures ∙ ap (λ (m : Map). 4 * heap_at m) c.requires.map)
    (c.stack.ensures ∙ ap (λ (m : Map). 4 * stack_at m) c.requires.map)
    (c.stack_limit.ensures ∙ ap (λ (m : Map). 4 * (stack_at m + m.params.stack)) c.requires.map) (omega (arith, tables))

pub returns-clause-runs : goal.returns-clause-runs
returns-clause-runs c =
    let tables : c.page_tables.result ≡ 4 * tables_at (map_of_image (unit_view c.args.unit.now)) = c.page_tables.ensures ∙ ap (λ (m : Map). 4 * tables_at m) c.requires.map in
    let words : c.in_ok-laid.laid.items ≡ image_words (unit_view c.args.unit.now) =
    c.in_ok-laid.ensures
    ∙ same_parts c.args.code.now (program_words (unit_view c.args.unit.now)) c.heap.result _ c.stack.result _ c.stack_limit.result _ _ _ c.requires.code (c.heap.ensures ∙ ap (λ (m : Map). 4 * heap_at m) c.requires.map)
    (c.stack.ensures ∙ ap (λ (m : Map). 4 * stack_at m) c.requires.map)
    (c.stack_limit.ensures ∙ ap (λ (m : Map). 4 * (stack_at m + m.params.stack)) c.requires.map) (omega (arith, tables)) in
    let whole = c.images_are_whole.ensures (unit_view c.args.unit.now) c.unit-unit.ensures.checked in
    let most = c.requires.most in
    subst (λ (ws : List ℕ). RunsAsMeant (unit_view c.args.unit.now) (first_flat ws)) (sym words)
    (c.images_run.ensures (unit_view c.args.unit.now) c.unit-unit.ensures.checked (omega (arith, whole, most)))
