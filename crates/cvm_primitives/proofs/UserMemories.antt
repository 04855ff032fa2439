-- The users' flat machines as lists of words, by user number from 1.
use Rattle.std.specs.Prelude.{◌≡◌, ℕ, ◌+◌, ◌-◌, ◌*◌, ◌/◌, ◌%◌, ◌<◌, ◌≤◌, if◌then◌else◌, nat_eq, nat_lt, List, length, take, drop, replicate, ◌++◌, slice_index, slice_set, true}
use Rattle.page_model.specs.Paging.{PageLayout, Pages}
use Rattle.cvm_primitives.specs.Copy.{word_of_pages, with_page_word, copied, pages_after_resize, piece_count}
use Rattle.cvm_primitives.specs.View.{WordGood, CopyArgs, ResizeGood, number_of_word}

-- the users' memories by page: sizes and memories by user number from 1, with up to per pages each
abbrev pub flat_of : ℕ → (ℕ → ℕ) → (ℕ → List ℕ) → Pages
flat_of per size memory = record {
  live = λ q. nat_lt (q % per) (size (q / per + 1));
  word = λ q i. slice_index (memory (q / per + 1)) (1024 * (q % per) + i);
}

-- the memories, or the sizes, with that of user u replaced
abbrev pub replaced : {A : Type 0} → (ℕ → A) → ℕ → A → ℕ → A
replaced all u new k = if nat_eq k u then new else all k

-- n words of the list from are put into the list to from word b on
abbrev pub put_words : List ℕ → ℕ → List ℕ → ℕ → ℕ → List ℕ
put_words to b from a n = take b to ++ (take n (drop a from) ++ drop (b + n) to)

-- a memory is cut, or grows by zeros
abbrev pub sized : List ℕ → ℕ → List ℕ
sized words pages = take (1024 * pages) words ++ replicate (1024 * pages - length words) 0

-- the same pages are live, and these show the same words
pub record Same (l : PageLayout) (u v : Pages) : Type 0 where
  pub live : (q : ℕ) → q < l.pages → v.live q ≡ u.live q
  pub word : (q i : ℕ) → q < l.pages → v.live q ≡ true → i < 1024 → v.word q i ≡ u.word q i

-- lists of the lengths that the sizes say
pub record Lists (users per : ℕ) (size : ℕ → ℕ) (memory : ℕ → List ℕ) : Type 0 where
  pub some : 0 < per
  pub lengths : (u : ℕ) → 0 < u → u ≤ users → length (memory u) ≡ 1024 * size u
  pub fit : (u : ℕ) → 0 < u → u ≤ users → size u ≤ per

-- WHAT THE NUMBERS SAY OF THE LISTS
pub record InLists (l : PageLayout) (users per : ℕ) (size : ℕ → ℕ) (memory : ℕ → List ℕ) : Type 0 where
  pub live : (u i : ℕ) → 0 < u → u ≤ users → i < per → (flat_of per size memory).live ((u - 1) * per + i) ≡ nat_lt i (size u)
  pub word : (u a : ℕ) → WordGood users size u a → word_of_pages (flat_of per size memory) (number_of_word per u a) ≡ slice_index (memory u) (a / 4)
  pub put : (u a x : ℕ) → WordGood users size u a → Same l (with_page_word (flat_of per size memory) (number_of_word per u a) x) (flat_of per size (replaced memory u (slice_set (memory u) (a / 4) x)))
  pub copy : (u a t s n : ℕ) → CopyArgs users size u a t s n → Same l (copied (flat_of per size memory) (number_of_word per u a) (number_of_word per t s) n) (flat_of per size (replaced memory t (put_words (memory t) (s / 4) (memory u) (a / 4) n)))
  pub pieces : (u a t s n : ℕ) → piece_count (number_of_word per u a) (number_of_word per t s) n ≡ piece_count (a / 4) (s / 4) n
  pub resize : (u new : ℕ) → ResizeGood users per u new → Same l (pages_after_resize (flat_of per size memory) ((u - 1) * per) (size u) new) (flat_of per (replaced size u new) (replaced memory u (sized (memory u) new)))
