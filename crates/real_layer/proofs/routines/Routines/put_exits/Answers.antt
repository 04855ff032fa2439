use Rattle.std.proofs.Common.{ℕ, List, [], ◌∷◌, ◌∙◌, ap, map}
use Rattle.mips_table.specs.Encoding.{encoding}
use Rattle.trap_entry.specs.Code.{exit_with_code}
use Rattle.real_layer.proofs.RoutinesLaid.{lays_more, on_ok}
use Rattle.real_layer.proofs.routines.Routines.put_exits.Goals as goal

pub returns : goal.returns
returns c =
    let words : ℕ → List ℕ = λ n. map encoding (exit_with_code n) in
    let s0 = c.in_ok-put.ensures (exit_with_code 1) (c.words.ensures ∙ c.exit_with.ensures ∙ ap words c.power.ensures) in
    let s1 = c.in_ok-put-2.ensures (exit_with_code 2) (c.words-2.ensures ∙ c.exit_with-2.ensures ∙ ap words c.power-2.ensures) in
    let s2 = c.in_ok-put-3.ensures (exit_with_code 3) (c.words-3.ensures ∙ c.exit_with-3.ensures ∙ ap words c.power-3.ensures) in
    on_ok _ _ _ (λ last. lays_more _ _ _ ((exit_with_code 1) ∷ (exit_with_code 2) ∷ (exit_with_code 3) ∷ []) ((exit_with_code 4) ∷ []) (lays_more _ _ _ ((exit_with_code 1) ∷ (exit_with_code 2) ∷ []) ((exit_with_code 3) ∷ []) (lays_more _ _ _ ((exit_with_code 1) ∷ []) ((exit_with_code 2) ∷ []) s0 s1) s2) last) (c.put-4.ensures (exit_with_code 4) (c.words-4.ensures ∙ c.exit_with-4.ensures ∙ ap words c.power-4.ensures))
