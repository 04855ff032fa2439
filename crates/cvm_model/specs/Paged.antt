-- What a machine shows of paging, and the users' memories by page.
use Rattle.std.specs.Prelude.{ℕ, ◌+◌, ◌*◌, ◌/◌, ◌%◌, nat_lt, List, slice_index}
use Rattle.mips_table.specs.Device.{sector_of}
use Rattle.mips_table.specs.Flat.{Flat}
use Rattle.mips_table.specs.Machine.{State}
use Rattle.layer_map.specs.Map.{Map}
use Rattle.page_model.specs.Paging.{Paged, Pages}
use Rattle.page_model.specs.TableLayout.{table_layout, paged_view}
use Rattle.cvm_model.specs.Primitives.{user_of, pages_of}

-- what the machine shows
abbrev pub paged_of : Map → State → Paged
paged_of m s = paged_view (table_layout m) (slice_index s.memory) (λ q i. slice_index (sector_of s.device.sectors q) i)

-- the users' memories by page, with up to so many pages each
abbrev pub pages_by : ℕ → List Flat → Pages
pages_by per users = record {
  live = λ q. nat_lt (q % per) (pages_of (user_of users (q / per + 1)));
  word = λ q i. slice_index (user_of users (q / per + 1)).words (1024 * (q % per) + i);
}
