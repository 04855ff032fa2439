use Rattle.std.proofs.Common.{[], ◌∷◌, ◌∙◌}
use Rattle.cvm_primitives.specs.RegisterCode.{vm_get_code, vm_set_code, vm_size_code}
use Rattle.real_layer.specs.Image.{returning}
use Rattle.real_layer.proofs.RoutinesLaid.{lays_more, on_ok}
use Rattle.real_layer.proofs.routines.Routines.put_registers.Goals as goal

pub returns : goal.returns
returns c =
    let s0 = c.in_ok-put_returning.ensures (vm_get_code c.args.map.now.users) (c.words.ensures ∙ c.vm_get.ensures) in
    let s1 = c.in_ok-put_returning-2.ensures (vm_set_code c.args.map.now.users) (c.words-2.ensures ∙ c.vm_set.ensures) in
    on_ok _ _ _ (λ last. lays_more _ _ _ ((returning (vm_get_code c.args.map.now.users)) ∷ (returning (vm_set_code c.args.map.now.users)) ∷ []) ((returning (vm_size_code c.args.map.now.users)) ∷ []) (lays_more _ _ _ ((returning (vm_get_code c.args.map.now.users)) ∷ []) ((returning (vm_set_code c.args.map.now.users)) ∷ []) s0 s1) last) (c.put_returning-3.ensures (vm_size_code c.args.map.now.users) (c.words-3.ensures ∙ c.vm_size.ensures))
