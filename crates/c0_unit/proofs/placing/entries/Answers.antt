-- One entry more.
use Rattle.std.proofs.Common.{◌≡◌, ℕ, ◌+◌, ◌*◌, List, [], ◌∷◌, ◌++◌, map, sym, ap, ◌∙◌, arith}
use Rattle.std.specs.List.{range_with_len}
use Rattle.std.proofs.lemmas.List.FromFn.{map-range_with_len_more}
use Rattle.layer_map.specs.Map.{primitives_at}
use Rattle.c0_unit.proofs.placing.entries.Goals as goal

one_more : (n : ℕ) (now after : List ℕ) → now ≡ map (λ k. 4 * (primitives_at + k)) (range_with_len 0 n) → after ≡ now ++ (8192 + 4 * n) ∷ []
    → after ≡ map (λ k. 4 * (primitives_at + k)) (range_with_len 0 (n + 1))
one_more n now after is e =
    let same : 8192 + 4 * n ≡ 4 * (primitives_at + n) = omega arith in
    e ∙ (ap (λ (xs : List ℕ). xs ++ (8192 + 4 * n) ∷ []) is
    ∙ (ap (λ (a : ℕ). map (λ k. 4 * (primitives_at + k)) (range_with_len 0 n) ++ a ∷ []) same ∙ sym (map-range_with_len_more (λ k. 4 * (primitives_at + k)) 0 n n (omega arith))))

pub loop-number-preserved : goal.loop-number-preserved
loop-number-preserved c = record { entries = one_more c.loop-number.number c.loop-number.entries.items c.push.new.self.items c.loop-number.invariant.entries c.in_ok-push.ensures.items }
