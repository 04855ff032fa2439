-- The rows of a journal that grows.
use Rattle.std.proofs.Common.{◌≡◌, ◌≢◌, ℕ, ◌+◌, Bool, true, false, List, [], ◌∷◌, ◌++◌, refl, sym, ap, ◌∙◌, subst}
use Rattle.std.proofs.lemmas.List.{append_assoc}
use Rattle.cvm_model.specs.Kernel.{JournalEntry, Stepped, Trapped, Set, Size, Put}
use Rattle.cvm_model.specs.Text.{steps_row, entry_row, journal_rows_after}
use Rattle.boot_turns.specs.JournalText.{steps_after, RowsFollow}

-- a list with an element is not empty
cons_some : (x : ℕ) (xs : List ℕ) → x ∷ xs ≢ []
cons_some x xs e = cc

nil_front : (a b : List ℕ) → a ++ b ≡ [] → a ≡ []
nil_front [] b e = refl
nil_front (x ∷ a) b e = absurd (cons_some x (a ++ b) e)

pub nil_back : (a b : List ℕ) → a ++ b ≡ [] → b ≡ []
nil_back [] b e = e
nil_back (x ∷ a) b e = absurd (cons_some x (a ++ b) e)

-- an entry that is no step has its row after those of the steps
more_after : (n : ℕ) (e j d : List ℕ) → (steps_row n ++ e ++ (j ++ d)) ≡ (steps_row n ++ e ++ j) ++ d
more_after n e j d = sym (append_assoc (steps_row n ++ e) j d)

pub more : (ends : Bool) (n : ℕ) (j d : List JournalEntry) → journal_rows_after ends n (j ++ d) ≡ journal_rows_after false n j ++ journal_rows_after ends (steps_after n j) d
more ends n [] d = refl
more ends n (Stepped ∷ j) d = more ends (n + 1) j d
more ends n (Trapped cause edata ∷ j) d = ap (λ r. steps_row n ++ entry_row (Trapped cause edata) ++ r) (more ends 0 j d) ∙ more_after n (entry_row (Trapped cause edata)) (journal_rows_after false 0 j) (journal_rows_after ends (steps_after 0 j) d)
more ends n (Set register value ∷ j) d = ap (λ r. steps_row n ++ entry_row (Set register value) ++ r) (more ends 0 j d) ∙ more_after n (entry_row (Set register value)) (journal_rows_after false 0 j) (journal_rows_after ends (steps_after 0 j) d)
more ends n (Size pages ∷ j) d = ap (λ r. steps_row n ++ entry_row (Size pages) ++ r) (more ends 0 j d) ∙ more_after n (entry_row (Size pages)) (journal_rows_after false 0 j) (journal_rows_after ends (steps_after 0 j) d)
more ends n (Put address value ∷ j) d = ap (λ r. steps_row n ++ entry_row (Put address value) ++ r) (more ends 0 j d) ∙ more_after n (entry_row (Put address value)) (journal_rows_after false 0 j) (journal_rows_after ends (steps_after 0 j) d)

-- the row of such an entry is not empty
trap_some : (cause edata : ℕ) → entry_row (Trapped cause edata) ≢ []
trap_some cause edata e = cons_some _ _ e

set_some : (register value : ℕ) → entry_row (Set register value) ≢ []
set_some register value e = cons_some _ _ e

size_some : (pages : ℕ) → entry_row (Size pages) ≢ []
size_some pages e = cons_some _ _ e

pub put_some : (address value : ℕ) → entry_row (Put address value) ≢ []
put_some address value e = cons_some _ _ e

-- so there are rows where the first entry is none of a step
behind_steps : (n : ℕ) (row rest : List ℕ) → row ≢ [] → steps_row n ++ row ++ rest ≢ []
behind_steps n row rest some e = some (nil_back (steps_row n) row (nil_front (steps_row n ++ row) rest e))

pub trap_rows : (n cause edata : ℕ) (j : List JournalEntry) → j ≡ Trapped cause edata ∷ [] → journal_rows_after false n j ≢ []
trap_rows n cause edata j is = subst (λ (j : List JournalEntry). journal_rows_after false n j ≢ []) (sym is) (behind_steps n (entry_row (Trapped cause edata)) [] (trap_some cause edata))

pub set_rows : (n register value : ℕ) (j : List JournalEntry) → j ≡ Set register value ∷ [] → journal_rows_after false n j ≢ []
set_rows n register value j is = subst (λ (j : List JournalEntry). journal_rows_after false n j ≢ []) (sym is) (behind_steps n (entry_row (Set register value)) [] (set_some register value))

pub size_rows : (n pages : ℕ) (j : List JournalEntry) → j ≡ Size pages ∷ [] → journal_rows_after false n j ≢ []
size_rows n pages j is = subst (λ (j : List JournalEntry). journal_rows_after false n j ≢ []) (sym is) (behind_steps n (entry_row (Size pages)) [] (size_some pages))

pub put_rows : (n address value : ℕ) (j : List JournalEntry) → j ≡ Put address value ∷ [] → journal_rows_after false n j ≢ []
put_rows n address value j is = subst (λ (j : List JournalEntry). journal_rows_after false n j ≢ []) (sym is) (behind_steps n (entry_row (Put address value)) [] (put_some address value))

count : (n : ℕ) (j d : List JournalEntry) → steps_after n (j ++ d) ≡ steps_after (steps_after n j) d
count n [] d = refl
count n (Stepped ∷ j) d = count (n + 1) j d
count n (Trapped cause edata ∷ j) d = count 0 j d
count n (Set register value ∷ j) d = count 0 j d
count n (Size pages ∷ j) d = count 0 j d
count n (Put address value ∷ j) d = count 0 j d

none : (j : List JournalEntry) → j ++ [] ≡ j
none [] = refl
none (e ∷ j) = ap (λ r. e ∷ r) (none j)

pub rows_follow : RowsFollow
rows_follow = record {
  more = λ j d. more false 0 j d;
  count = λ j d. count 0 j d;
  end = λ j. ap (journal_rows_after true 0) (sym (none j)) ∙ more true 0 j [];
}
