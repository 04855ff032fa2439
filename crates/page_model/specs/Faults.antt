-- What a page fault's handler does to entries, and the faults of one user step.
use Rattle.std.specs.Prelude.{◌≡◌, ◌≢◌, ℕ, zero, suc, ◌/◌, ◌%◌, ◌<◌, ◌⊎◌, Bool, true, false}
use Rattle.mips_table.specs.declared.special.TheConstants.{IS_VALID}
use Rattle.layer_map.specs.declared.places.TheConstants.{PAGE_WORDS}
use Rattle.page_model.specs.Paging.{PageLayout, IsFrame, Valid, MapsTo, Paged, IsAccessible, next_frame, private_entry}

-- the first case: no frame is filled and no sector written, and no other entry changes; the entry was valid before
pub record InPlace (l : PageLayout) (q : ℕ) (store : Bool) (a b : Paged) : Type 0 where
  pub was : Valid (a.entry q)
  pub passes : IsAccessible b q store
  pub entries : (x : ℕ) → x < l.pages → x ≢ q → b.entry x ≡ a.entry x
  pub frames : (f : ℕ) → IsFrame l f → (i : ℕ) → i < PAGE_WORDS → b.frame f i ≡ a.frame f i
  pub sectors : (x : ℕ) → x < l.pages → (i : ℕ) → i < PAGE_WORDS → b.sector x i ≡ a.sector x i
  pub hand : b.hand ≡ a.hand

-- the second: the page has the frame at the hand, by an entry that isn't protected; no other entry names that frame, and the hand moves on by one
pub record ByFill (l : PageLayout) (q : ℕ) (a b : Paged) : Type 0 where
  pub entry : b.entry q ≡ private_entry a.hand
  pub evicted : (x : ℕ) → x < l.pages → x ≢ q → MapsTo (a.entry x) a.hand → b.entry x / IS_VALID % 2 ≡ 0
  pub entries : (x : ℕ) → x < l.pages → x ≢ q → (MapsTo (a.entry x) a.hand → ⊥) → b.entry x ≡ a.entry x
  pub hand : b.hand ≡ next_frame l a.hand

-- one of the two: page q was asked for, to read or to store
abbrev pub Handled : PageLayout → ℕ → Bool → Paged → Paged → Type 0
Handled l q store a b = InPlace l q store a b ⊎ ByFill l q a b

-- it was brought in: where the page passes already, it is the first case
pub record Brought (l : PageLayout) (q : ℕ) (store : Bool) (a b : Paged) : Type 0 where
  pub handled : Handled l q store a b
  pub idle : IsAccessible a q store → InPlace l q store a b

-- the pages that one user step touches: that of its code, and one of data where it loads or stores
pub record UserStep : Type 0 where
  pub code_page : ℕ
  pub touches : Bool
  pub data_page : ℕ
  pub store : Bool

-- the step asks for this page: first for its code, then for its data
pub data AsksForPage (u : UserStep) (a : Paged) (q : ℕ) (store : Bool) : Type 0 where
  ByFetch : q ≡ u.code_page → store ≡ false → (IsAccessible a u.code_page false → ⊥) → AsksForPage u a q store
  ByData : q ≡ u.data_page → store ≡ u.store → u.touches ≡ true → IsAccessible a u.code_page false → (IsAccessible a u.data_page u.store → ⊥)
      → AsksForPage u a q store

-- the page was filled last: it is private, and not in the frame at the hand
pub record FilledLast (a : Paged) (q : ℕ) : Type 0 where
  pub passes : (store : Bool) → IsAccessible a q store
  pub away : MapsTo (a.entry q) a.hand → ⊥

-- at most k more faults are handled in this user step
abbrev pub AtMost : ℕ → PageLayout → UserStep → Paged → Type 0
AtMost zero l u a = (q : ℕ) (store : Bool) → AsksForPage u a q store → ⊥
AtMost (suc k) l u a = (q : ℕ) (store : Bool) (b : Paged) → AsksForPage u a q store → Handled l q store a b → AtMost k l u b
