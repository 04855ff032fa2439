-- The rows of the globals, one after another.
use Rattle.std.proofs.Common.{◌≡◌, ℕ, zero, suc, ◌+◌, ◌<◌, List, [], ◌∷◌, ◌++◌, length, get_or, take, Option, Some, None, refl, sym, ap, subst₂, ◌∙◌, arith, append_assoc, append-nil}
use Rattle.std.specs.Prelude.{slice_index}
use Rattle.c0_tree.specs.declared.tree.Decl.{Decl}
use Rattle.cvm_outside.specs.Outside.{Output}
use Rattle.cvm_outside.specs.Script.{Puts, Who}
use Rattle.cvm_outside.proofs.RowsPut.{puts_both, puts_first, puts_same}
use Rattle.boot_report.specs.Globals.{global_word_row, globals_rows}

module _ (memory : List ℕ) (first : ℕ) (d : Decl) where
  -- one more
  pub globals_next : (decls : List Decl) (offsets : List ℕ) (i : ℕ) → length offsets ≡ length decls → i < length decls →
      globals_rows (take (suc i) decls) memory first offsets ≡ globals_rows (take i decls) memory first offsets ++ global_word_row (get_or decls i d) (slice_index memory (first + slice_index offsets i))
  globals_next [] offsets i e lt = absurd (omega arith)
  globals_next (c ∷ decls) [] i e lt = absurd (omega (arith, e))
  globals_next (c ∷ decls) (n ∷ offsets) zero e lt = append-nil (global_word_row c (slice_index memory (first + n)))
  globals_next (c ∷ decls) (n ∷ offsets) (suc i) e lt =
      ap (λ l. global_word_row c (slice_index memory (first + n)) ++ l) (globals_next decls offsets i (omega (arith, e)) (omega arith))
      ∙ sym (append_assoc (global_word_row c (slice_index memory (first + n))) (globals_rows (take i decls) memory first offsets) (global_word_row (get_or decls i d) (slice_index memory (first + slice_index offsets i))))

-- and the rest
pub globals_rest : (memory : List ℕ) (first : ℕ) (decls : List Decl) (offsets : List ℕ) (i : ℕ) → (rest : List ℕ) × (globals_rows decls memory first offsets ≡ globals_rows (take i decls) memory first offsets ++ rest)
globals_rest memory first [] offsets zero = ([], refl)
globals_rest memory first [] offsets (suc i) = ([], refl)
globals_rest memory first (c ∷ decls) [] zero = ([], refl)
globals_rest memory first (c ∷ decls) [] (suc i) = ([], refl)
globals_rest memory first (c ∷ decls) (n ∷ offsets) zero = (globals_rows (c ∷ decls) memory first (n ∷ offsets), refl)
globals_rest memory first (c ∷ decls) (n ∷ offsets) (suc i) =
    let h = globals_rest memory first decls offsets i in
    (h.0, ap (λ l. global_word_row c (slice_index memory (first + n)) ++ l) h.1 ∙ sym (append_assoc (global_word_row c (slice_index memory (first + n))) (globals_rows (take i decls) memory first offsets) h.0))

-- the row of one more is put, or breaks off
module _ (memory : List ℕ) (first : ℕ) (decls : List Decl) (offsets : List ℕ) (i : ℕ) (e : Decl) (word : ℕ) (many : length offsets ≡ length decls) (lt : i < length decls) (here : e ≡ get_or decls i e)
    (is : word ≡ slice_index memory (first + slice_index offsets i)) (old mid new : Output) (before : Puts (globals_rows (take i decls) memory first offsets) old mid None) where
  pub one_more : (j : ℕ) (blamed : Option Who) → j ≡ i + 1 → Puts (global_word_row e word) mid new blamed → Puts (globals_rows (take j decls) memory first offsets) old new blamed
  one_more j blamed next p =
      let d : suc i ≡ j = omega (arith, next) in
      puts_same _ _ old new blamed (sym (globals_next memory first e decls offsets i many lt) ∙ ap (λ n. globals_rows (take n decls) memory first offsets) d)
      (puts_both _ _ old mid new blamed before (subst₂ (λ (x : Decl) w. Puts (global_word_row x w) mid new blamed) here is p))

  pub one_stops : (whom : Who) → Puts (global_word_row e word) mid new (Some whom) → Puts (globals_rows decls memory first offsets) old new (Some whom)
  one_stops whom p = let h = globals_rest memory first decls offsets (i + 1) in puts_same _ _ old new (Some whom) (sym h.1) (puts_first _ h.0 old new whom (one_more (i + 1) (Some whom) refl p))
