-- The pages that a load writes to the disk.
use Rattle.std.specs.Prelude.{ℕ, ◌+◌, ◌-◌, ◌*◌, nat_lt, if◌then◌else◌, List, [], map, length, slice_index}
use Rattle.page_model.specs.Paging.{Pages}
use Rattle.cvm_model.specs.Cvm.{System, first_flat}
use Rattle.cvm_model.specs.Paged.{pages_by}

-- the pages of users with these words at the start, with up to so many pages each
abbrev pub first_pages : ℕ → List (List ℕ) → Pages
first_pages per users = pages_by per (map first_flat users)

-- the pages that are written over a disk, each to the sector of its number: the users' pages, and from the number behind these on the pages of
-- further words
abbrev pub disk_pages : ℕ → (users : List (List ℕ)) → (behind : List ℕ) → Pages
disk_pages per users behind = record {
  live = λ q. if nat_lt q (length users * per) then (first_pages per users).live q else nat_lt (1024 * (q - length users * per)) (length behind);
  word = λ q i. if nat_lt q (length users * per) then (first_pages per users).word q i else slice_index behind (1024 * (q - length users * per) + i);
}

-- the pages that a load writes of a system: the users' pages; and for a machine with a boot ROM those of the linked words, too
abbrev pub user_pages : System → Pages
user_pages y = disk_pages y.boot.params.pages y.boot.users []

abbrev pub rom_pages : System → Pages
rom_pages y = disk_pages y.boot.params.pages y.boot.users y.boot.words
