-- What the pages are that are written to the sectors of a disk.
use Rattle.std.specs.Prelude.{◌≡◌, ℕ, ◌+◌, ◌*◌, ◌<◌, ◌≤◌, ◌^◌, nat_lt, List, length, slice_index}
use Rattle.page_model.specs.Paging.{Pages}

-- each of so many users has pages, at least one, and the numbers of all pages are words
pub record HavePages (per users : ℕ) : Type 0 where
  pub some : 1 ≤ per
  pub few : users * per < 2 ^ 32

-- the words of a page stand in a list from a place on, with zeros past its end; and the number is a page where the place is in the list
pub record IsSource (p : Pages) (q : ℕ) (from : List ℕ) (first : ℕ) : Type 0 where
  pub live : p.live q ≡ nat_lt first (length from)
  pub words : (i : ℕ) → p.word q i ≡ slice_index from (first + i)
