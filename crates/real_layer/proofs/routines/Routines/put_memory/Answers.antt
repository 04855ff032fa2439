use Rattle.std.proofs.Common.{[], ◌∷◌, ◌∙◌}
use Rattle.page_model.specs.TableLayout.{table_layout}
use Rattle.page_fault.specs.Code.{handle_page_code}
use Rattle.cvm_primitives.specs.Code.{vm_word_code, vm_put_code, vm_copy_code, vm_resize_code}
use Rattle.real_layer.specs.Image.{returning}
use Rattle.real_layer.proofs.RoutinesLaid.{lays_more, on_ok}
use Rattle.real_layer.proofs.routines.Routines.put_memory.Goals as goal

pub returns : goal.returns
returns c =
    let s0 = c.in_ok-put_returning.ensures (vm_resize_code (table_layout c.args.map.now) c.args.map.now.users c.args.map.now.params.pages) (c.words.ensures ∙ c.vm_resize.ensures) in
    let s1 = c.in_ok-put_returning-2.ensures (vm_word_code (table_layout c.args.map.now) c.args.map.now.users c.args.map.now.params.pages (handle_page_code (table_layout c.args.map.now))) (c.words-2.ensures ∙ c.vm_word.ensures) in
    let s2 = c.in_ok-put_returning-3.ensures (vm_put_code (table_layout c.args.map.now) c.args.map.now.users c.args.map.now.params.pages (handle_page_code (table_layout c.args.map.now))) (c.words-3.ensures ∙ c.vm_put.ensures) in
    on_ok _ _ _ (λ last. lays_more _ _ _ ((returning (vm_resize_code (table_layout c.args.map.now) c.args.map.now.users c.args.map.now.params.pages)) ∷ (returning (vm_word_code (table_layout c.args.map.now) c.args.map.now.users c.args.map.now.params.pages (handle_page_code (table_layout c.args.map.now)))) ∷ (returning (vm_put_code (table_layout c.args.map.now) c.args.map.now.users c.args.map.now.params.pages (handle_page_code (table_layout c.args.map.now)))) ∷ []) ((returning (vm_copy_code (table_layout c.args.map.now) c.args.map.now.users c.args.map.now.params.pages (handle_page_code (table_layout c.args.map.now)))) ∷ []) (lays_more _ _ _ ((returning (vm_resize_code (table_layout c.args.map.now) c.args.map.now.users c.args.map.now.params.pages)) ∷ (returning (vm_word_code (table_layout c.args.map.now) c.args.map.now.users c.args.map.now.params.pages (handle_page_code (table_layout c.args.map.now)))) ∷ []) ((returning (vm_put_code (table_layout c.args.map.now) c.args.map.now.users c.args.map.now.params.pages (handle_page_code (table_layout c.args.map.now)))) ∷ []) (lays_more _ _ _ ((returning (vm_resize_code (table_layout c.args.map.now) c.args.map.now.users c.args.map.now.params.pages)) ∷ []) ((returning (vm_word_code (table_layout c.args.map.now) c.args.map.now.users c.args.map.now.params.pages (handle_page_code (table_layout c.args.map.now)))) ∷ []) s0 s1) s2) last) (c.put_returning-4.ensures (vm_copy_code (table_layout c.args.map.now) c.args.map.now.users c.args.map.now.params.pages (handle_page_code (table_layout c.args.map.now))) (c.words-4.ensures ∙ c.vm_copy.ensures))
