use Rattle.std.proofs.Common.{[], ◌∷◌, ◌∙◌}
use Rattle.cvm_primitives.specs.RegisterCode.{con_put_code, con_get_code, con_left_code}
use Rattle.real_layer.specs.Image.{returning}
use Rattle.real_layer.proofs.RoutinesLaid.{lays_more, on_ok}
use Rattle.real_layer.proofs.routines.Routines.put_console.Goals as goal

pub returns : goal.returns
returns c =
    let s0 = c.in_ok-put_returning.ensures (con_put_code) (c.words.ensures ∙ c.con_put.ensures) in
    let s1 = c.in_ok-put_returning-2.ensures (con_get_code) (c.words-2.ensures ∙ c.con_get.ensures) in
    on_ok _ _ _ (λ last. lays_more _ _ _ ((returning (con_put_code)) ∷ (returning (con_get_code)) ∷ []) ((returning (con_left_code)) ∷ []) (lays_more _ _ _ ((returning (con_put_code)) ∷ []) ((returning (con_get_code)) ∷ []) s0 s1) last) (c.put_returning-3.ensures (con_left_code) (c.words-3.ensures ∙ c.con_left.ensures))
