-- The lists of frames where one page's entry changes: all stay, the page leaves one, or it joins one.
use Rattle.std.proofs.Common.{◌≡◌, ◌≢◌, ℕ, ◌+◌, ◌<◌, ◌≤◌, ◌⊎◌, sym, subst, ⊎_elim, arith}
use Rattle.std.proofs.lemmas.Bool.{cases_eq}
use Rattle.page_model.specs.Paging.{IsUserFrame, MapsTo, naming}
use Rattle.page_model.specs.Laws.{EntriesShow}
use Rattle.page_model.specs.Edits.{Joined, Parted, ListFollows}
use Rattle.page_model.specs.TableLayout.{TableLayout, count_at, slot_at, paged_view}
use Rattle.page_model.specs.Rows.{SameRow}

-- the five words of two frames' lists are apart
pub rows_apart : (p : TableLayout) (f g : ℕ) → IsUserFrame p.layout f → IsUserFrame p.layout g → g ≢ f → (x : ℕ) → count_at p g ≤ x → x < count_at p g + 5 → (x < count_at p f) ⊎ (count_at p f + 5 ≤ x)
rows_apart p f g uf ug ne x lo hi = let u0 = uf.0 in let g0 = ug.0 in grind arith

-- the lists when an entry becomes e2: no word of the frame table changes, the page leaves the frame f that it named, or it joins the frame f
pub lists_none : (shows : EntriesShow) (p : TableLayout) (q e2 : ℕ) (m m' : ℕ → ℕ) (s t : ℕ → ℕ → ℕ) → ((x : ℕ) → p.counts ≤ x → m' x ≡ m x) → ((g : ℕ) → IsUserFrame p.layout g → naming (m (p.tables + q)) g ≡ naming e2 g)
    → (g : ℕ) → IsUserFrame p.layout g → ListFollows q e2 g (paged_view p m s) (paged_view p m' t)
lists_none shows p q e2 m m' s t others same g ug = record {
  stays = λ z. (others (count_at p g) (omega arith), λ k lk. others (slot_at p g k) (omega arith));
  joins = λ away names. let z = same g ug in let a = shows.misses (m (p.tables + q)) g away in let b = shows.names e2 g names in absurd (omega arith);
  parts = λ names away. let z = same g ug in let a = shows.names (m (p.tables + q)) g names in let b = shows.misses e2 g away in absurd (omega arith);
}

pub lists_parted : (shows : EntriesShow) (p : TableLayout) (q e2 f : ℕ) (m m' : ℕ → ℕ) (s t : ℕ → ℕ → ℕ) → IsUserFrame p.layout f → MapsTo (m (p.tables + q)) f → ((g : ℕ) → MapsTo e2 g → ⊥) → Parted q f (paged_view p m s) (paged_view p m' t)
    → ((g : ℕ) → IsUserFrame p.layout g → g ≢ f → SameRow p g m m') → ((g : ℕ) → IsUserFrame p.layout g → m (count_at p g) ≤ 4)
    → (g : ℕ) → IsUserFrame p.layout g → ListFollows q e2 g (paged_view p m s) (paged_view p m' t)
lists_parted shows p q e2 f m m' s t uf n none h rows few g ug = ⊎_elim
    (λ eq. subst (λ y. ListFollows q e2 y (paged_view p m s) (paged_view p m' t)) (sym eq) (record {
      stays = λ z. let a = shows.names (m (p.tables + q)) f n in let b = shows.misses e2 f (none f) in absurd (omega arith);
      joins = λ away names. absurd (none f names);
      parts = λ names away. h;
    }))
    (λ ne. let k = few g ug in record {
      stays = λ z. (rows g ug ne (count_at p g) (omega arith) (omega arith), λ k lk. rows g ug ne (slot_at p g k) (omega arith) (omega arith));
      joins = λ away names. absurd (none g names);
      parts = λ names away. absurd (ne (omega arith));
    })
    (cases_eq g f)

pub lists_joined : (shows : EntriesShow) (p : TableLayout) (q e2 f : ℕ) (m m' : ℕ → ℕ) (s t : ℕ → ℕ → ℕ) → (IsUserFrame p.layout f → Joined q f (paged_view p m s) (paged_view p m' t)) → ((g : ℕ) → MapsTo (m (p.tables + q)) g → ⊥) → MapsTo e2 f
    → ((g : ℕ) → IsUserFrame p.layout g → g ≢ f → SameRow p g m m') → ((g : ℕ) → IsUserFrame p.layout g → m (count_at p g) ≤ 4)
    → (g : ℕ) → IsUserFrame p.layout g → ListFollows q e2 g (paged_view p m s) (paged_view p m' t)
lists_joined shows p q e2 f m m' s t h none n rows few g ug = ⊎_elim
    (λ eq. subst (λ y. ListFollows q e2 y (paged_view p m s) (paged_view p m' t)) (sym eq) (record {
      stays = λ z. let a = shows.misses (m (p.tables + q)) f (none f) in let b = shows.names e2 f n in absurd (omega arith);
      joins = λ away names. h (subst (IsUserFrame p.layout) eq ug);
      parts = λ names away. absurd (none f names);
    }))
    (λ ne. let k = few g ug in record {
      stays = λ z. (rows g ug ne (count_at p g) (omega arith) (omega arith), λ k lk. rows g ug ne (slot_at p g k) (omega arith) (omega arith));
      joins = λ away names. absurd (ne (omega arith));
      parts = λ names away. absurd (none g names);
    })
    (cases_eq g f)
