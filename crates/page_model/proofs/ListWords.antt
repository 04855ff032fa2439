-- What is said of the list of a frame is said of its five words: the count and the slots.
use Rattle.std.proofs.Common.{◌≡◌, ℕ, ◌+◌, ◌<◌, ◌≤◌, sym, ap, ◌∙◌, arith}
use Rattle.page_model.specs.Edits.{Joined, Parted}
use Rattle.page_model.specs.TableLayout.{TableLayout, count_at, slot_at, paged_view}
use Rattle.page_model.specs.Rows.{SameRow, InList, RowTellsList}

listed_on : (p : TableLayout) (q y k : ℕ) (m m' : ℕ → ℕ) → SameRow p y m m' → InList p q y k m → InList p q y k m'
listed_on p q y k m m' r h =
    let e = r (count_at p y) (omega arith) (omega arith) in
    let i = h.inside in let f = h.few in record {
      inside = omega arith;
      few = omega arith;
      is = r (slot_at p y k) (omega arith) (omega arith) ∙ h.is;
      once = λ j lj z. h.once j (omega arith) (sym (r (slot_at p y j) (omega arith) (omega arith)) ∙ z);
    }

parted_on : (p : TableLayout) (q y : ℕ) (m n m' n' : ℕ → ℕ) (s t s' t' : ℕ → ℕ → ℕ) → m (count_at p y) ≤ 4 → SameRow p y m m' → SameRow p y n n' → Parted q y (paged_view p m s) (paged_view p n t) → Parted q y (paged_view p m' s') (paged_view p n' t')
parted_on p q y m n m' n' s t s' t' few r u h =
    let e = r (count_at p y) (omega arith) (omega arith) in
    let g = u (count_at p y) (omega arith) (omega arith) in
    let c = h.count in let i = h.inside in record {
      count = omega arith;
      at = h.at;
      inside = omega arith;
      was = r (slot_at p y h.at) (omega arith) (omega arith) ∙ h.was;
      moved = λ lt. u (slot_at p y h.at) (omega arith) (omega arith) ∙ h.moved (omega arith) ∙ ap (λ z. m (slot_at p y z)) (sym g) ∙ sym (r (slot_at p y (n' (count_at p y))) (omega arith) (omega arith));
      others = λ k lk ne. u (slot_at p y k) (omega arith) (omega arith) ∙ h.others k (omega arith) ne ∙ sym (r (slot_at p y k) (omega arith) (omega arith));
    }

joined_on : (p : TableLayout) (q y : ℕ) (m n m' n' : ℕ → ℕ) (s t s' t' : ℕ → ℕ → ℕ) → m (count_at p y) < 4 → SameRow p y m m' → SameRow p y n n' → Joined q y (paged_view p m s) (paged_view p n t) → Joined q y (paged_view p m' s') (paged_view p n' t')
joined_on p q y m n m' n' s t s' t' few r u h =
    let e = r (count_at p y) (omega arith) (omega arith) in
    let g = u (count_at p y) (omega arith) (omega arith) in
    let c = h.count in record {
      count = omega arith;
      last = u (slot_at p y (m' (count_at p y))) (omega arith) (omega arith) ∙ ap (λ z. n (slot_at p y z)) e ∙ h.last;
      others = λ k lk. u (slot_at p y k) (omega arith) (omega arith) ∙ h.others k (omega arith) ∙ sym (r (slot_at p y k) (omega arith) (omega arith));
    }

pub rows_are : RowTellsList
rows_are = record { listed = listed_on; parted = parted_on; joined = joined_on }
