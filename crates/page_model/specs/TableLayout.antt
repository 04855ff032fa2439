-- Where paging stands in memory, and what memory and disk show of it.
use Rattle.std.specs.Prelude.{ℕ, ◌+◌, ◌-◌, ◌*◌, ◌/◌}
use Rattle.layer_map.specs.declared.places.TheConstants.{PAGE_WORDS}
use Rattle.layer_map.specs.Map.{Map, hand_at, tables_at, frame_table_at, zero_frame_at}
use Rattle.page_model.specs.Paging.{PageLayout, Paged}

-- the pages and frames, and the first words of the page tables and of the frame table
pub record TableLayout : Type 0 where
  pub layout : PageLayout
  pub tables : ℕ
  pub counts : ℕ

-- the pages and frames of a map
abbrev pub page_layout : Map → PageLayout
page_layout m = record { pages = m.users * m.params.pages; frames = m.params.frames; zeros = zero_frame_at m / PAGE_WORDS }

-- the places of a map
abbrev pub table_layout : Map → TableLayout
table_layout m = record { layout = page_layout m; tables = tables_at m; counts = frame_table_at m }

-- the word of a user frame's count, the first of its eight words of the frame table
abbrev pub count_at : TableLayout → ℕ → ℕ
count_at p f = p.counts + 8 * (f - (p.layout.zeros + 1))

-- the word of slot k of a user frame: the slots stand behind the count
abbrev pub slot_at : TableLayout → ℕ → ℕ → ℕ
slot_at p f k = count_at p f + 1 + k

-- the first word behind the last user frame
abbrev pub frames_end : TableLayout → ℕ
frames_end p = PAGE_WORDS * (p.layout.zeros + p.layout.frames + 1)

-- what these words and sectors show
abbrev pub paged_view : TableLayout → (ℕ → ℕ) → (ℕ → ℕ → ℕ) → Paged
paged_view p memory sectors = record {
  entry = λ q. memory (p.tables + q);
  count = λ f. memory (count_at p f);
  slot = λ f k. memory (slot_at p f k);
  frame = λ f i. memory (PAGE_WORDS * f + i);
  sector = sectors;
  hand = p.layout.zeros + 1 + memory hand_at;
}
