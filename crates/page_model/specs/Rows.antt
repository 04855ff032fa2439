-- A user frame's row of the frame table: its list is the count and the slots.
use Rattle.std.specs.Prelude.{◌≡◌, ℕ, ◌+◌, ◌<◌, ◌≤◌}
use Rattle.layer_map.specs.declared.places.TheConstants.{SLOTS}
use Rattle.page_model.specs.Edits.{Joined, Parted}
use Rattle.page_model.specs.TableLayout.{TableLayout, count_at, slot_at, paged_view}

-- the words of frame f's list are the same
abbrev pub SameRow : TableLayout → ℕ → (ℕ → ℕ) → (ℕ → ℕ) → Type 0
SameRow p f m m' = (x : ℕ) → count_at p f ≤ x → x < count_at p f + (SLOTS + 1) → m' x ≡ m x

-- page q stands in slot k of frame f's list, which has at most SLOTS pages, and in no other slot of it
pub record InList (p : TableLayout) (q f k : ℕ) (m : ℕ → ℕ) : Type 0 where
  pub inside : k < m (count_at p f)
  pub few : m (count_at p f) ≤ SLOTS
  pub is : m (slot_at p f k) ≡ q
  pub once : (j : ℕ) → j < m (count_at p f) → m (slot_at p f j) ≡ q → j ≡ k

-- THE ROW: what is said of a frame's list, m to n, is said of the words of this list, which m' and n' have too
pub record RowTellsList : Type 0 where
  pub listed : (p : TableLayout) (q f k : ℕ) (m m' : ℕ → ℕ) → SameRow p f m m' → InList p q f k m → InList p q f k m'
  pub parted : (p : TableLayout) (q f : ℕ) (m n m' n' : ℕ → ℕ) (s t s' t' : ℕ → ℕ → ℕ) → m (count_at p f) ≤ SLOTS →
      SameRow p f m m' → SameRow p f n n' →
      Parted q f (paged_view p m s) (paged_view p n t) → Parted q f (paged_view p m' s') (paged_view p n' t')
  pub joined : (p : TableLayout) (q f : ℕ) (m n m' n' : ℕ → ℕ) (s t s' t' : ℕ → ℕ → ℕ) → m (count_at p f) < SLOTS →
      SameRow p f m m' → SameRow p f n n' →
      Joined q f (paged_view p m s) (paged_view p n t) → Joined q f (paged_view p m' s') (paged_view p n' t')
