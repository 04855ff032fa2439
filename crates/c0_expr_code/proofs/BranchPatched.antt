-- A branch that leads nowhere yet, and then over the words behind it.
use Rattle.std.proofs.Common.{◌≡◌, ℕ, suc, ◌+◌, ◌%◌, ◌^◌, Bool, true, false, List, [], ◌∷◌, ◌++◌, length, sym, ap, ◌∙◌, arith, slice_set}
use Rattle.std.specs.Prelude.{slice_index}
use Rattle.std.proofs.Math.Seq.{get_or-append_seam, set-append_seam}
use Rattle.std.proofs.lemmas.List.{append_assoc, length-append}
use Rattle.mips_table.specs.Encoding.{encoding}
use Rattle.c0_expr_code.specs.Emit.{logic_skip}
use Rattle.c0_expr_code.specs.Patch.{aimed, distance}

aimed_skip : (b : Bool) (r k : ℕ) → aimed (encoding (logic_skip b r 0)) k ≡ encoding (logic_skip b r k)
aimed_skip true r k = omega arith
aimed_skip false r k = omega arith

over : (n m : ℕ) → distance n (n + suc m) ≡ m % 2 ^ 16
over n m = omega arith

set_there : (old rest : List ℕ) (word w : ℕ) → slice_set (old ++ word ∷ rest) (length old) w ≡ old ++ w ∷ rest
set_there old rest word w = set-append_seam old word rest w

index_there : (old rest : List ℕ) (word : ℕ) → slice_index (old ++ word ∷ rest) (length old) ≡ word
index_there old rest word = get_or-append_seam old word rest 0

-- the words before the branch, it, and those behind it; then it leads behind these
pub patched : (b : Bool) (r : ℕ) (old rest mid new final : List ℕ) (at to word n : ℕ) → word ≡ encoding (logic_skip b r 0) → mid ≡ old ++ word ∷ [] → new ≡ mid ++ rest → at ≡ length old → to ≡ length new
    → final ≡ slice_set new at (aimed (slice_index new at) (distance at to)) → n ≡ length rest → final ≡ old ++ encoding (logic_skip b r (n % 2 ^ 16)) ∷ rest
patched b r old rest mid new final at to word n w m v a t f e =
    let whole : new ≡ old ++ word ∷ rest = v ∙ ap (λ (l : List ℕ). l ++ rest) m ∙ append_assoc old (word ∷ []) rest in
    let long : length new ≡ length old + suc (length rest) = ap length whole ∙ length-append old (word ∷ rest) in
    let there : slice_index new at ≡ encoding (logic_skip b r 0) = ap (slice_index new) a ∙ ap (λ (l : List ℕ). slice_index l (length old)) whole ∙ index_there old rest word ∙ w in
    let far : distance at to ≡ n % 2 ^ 16 =
    ap (λ (k : ℕ). distance k to) a ∙ ap (distance (length old)) (t ∙ long) ∙ over (length old) (length rest) ∙ ap (λ (k : ℕ). k % 2 ^ 16) (sym e) in
    f
    ∙ ap (λ (k : ℕ). slice_set new at (aimed k (distance at to))) there
    ∙ ap (λ (k : ℕ). slice_set new at (aimed (encoding (logic_skip b r 0)) k)) far
    ∙ ap (slice_set new at) (aimed_skip b r (n % 2 ^ 16))
    ∙ ap (λ (i : ℕ). slice_set new i (encoding (logic_skip b r (n % 2 ^ 16)))) a
    ∙ ap (λ (l : List ℕ). slice_set l (length old) (encoding (logic_skip b r (n % 2 ^ 16)))) whole
    ∙ set_there old rest word (encoding (logic_skip b r (n % 2 ^ 16)))
