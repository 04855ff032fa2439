-- Rows that pass the test of pairs share no word: two rows with a word in common agree on the bits of both masks.
use Rattle.std.specs.Prelude.{◌&&◌, slice_get}
use Rattle.std.proofs.Common.{◌≡◌, ℕ, zero, suc, List, [], ◌∷◌, Some, Bool, true, false, not, refl, sym, ap, ◌∙◌, bit_and}
use Rattle.std.proofs.lemmas.Bool.{eq-eqb}
use Rattle.std.proofs.lemmas.Nat.{and_assoc, and_comm}
use Rattle.mips_table.specs.declared.table.Row.{Row}
use Rattle.mips_table.specs.Rows.{rows_overlap, apart_from, rows_apart, Belongs, OneRow}

-- two rows with a word in common overlap
overlaps : (w : ℕ) (a b : Row) → Belongs w a → Belongs w b → rows_overlap a b ≡ true
overlaps w a b p q = eq-eqb _ _
    (ap (λ v. bit_and v b.mask) (sym p) ∙ and_assoc b.mask w a.mask ∙ ap (bit_and w) (and_comm a.mask b.mask) ∙ sym (and_assoc a.mask w b.mask) ∙ ap (λ v. bit_and v a.mask) q)

halves : (x y : Bool) → (x && y) ≡ true → (x ≡ true) × (y ≡ true)
halves true y e = (refl, e)
halves false y e = absurd (cc)

clash : (o : Bool) → o ≡ true → not o ≡ true → ⊥
clash true p q = cc
clash false p q = cc

-- a row that overlaps none of the others shares no word with them
apart : (w : ℕ) (a b : Row) (rows : List Row) (k : ℕ) → apart_from a rows ≡ true → slice_get rows k ≡ Some b → Belongs w a → Belongs w b → ⊥
apart w a b [] k t g p q = cc
apart w a b (r ∷ rows) zero t g p q = let e : r ≡ b = cc in clash (rows_overlap a r) (overlaps w a r p (rw e q)) (halves _ _ t).0
apart w a b (r ∷ rows) (suc k) t g p q = apart w a b rows k (halves _ _ t).1 g p q

-- no word is in two rows
same : (rows : List Row) → rows_apart rows ≡ true → (w j k : ℕ) (a b : Row) → slice_get rows j ≡ Some a → slice_get rows k ≡ Some b → Belongs w a → Belongs w b → j ≡ k
same [] t w j k a b g h p q = absurd (cc)
same (r ∷ rows) t w zero zero a b g h p q = refl
same (r ∷ rows) t w zero (suc k) a b g h p q = let e : r ≡ a = cc in absurd (apart w r b rows k (halves _ _ t).0 h (rw e p) q)
same (r ∷ rows) t w (suc j) zero a b g h p q = let e : r ≡ b = cc in absurd (apart w r a rows j (halves _ _ t).0 g (rw e q) p)
same (r ∷ rows) t w (suc j) (suc k) a b g h p q = ap suc (same rows (halves _ _ t).1 w j k a b g h p q)

pub one : (rows : List Row) → rows_apart rows ≡ true → OneRow rows
one rows t = record { same = same rows t }
