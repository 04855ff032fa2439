-- The parts of the map as one record, so that a proof has all bounds at hand.
use Rattle.std.proofs.Common.{◌≡◌, ◌+◌, ◌*◌, ◌%◌, ◌≤◌, arith}
use Rattle.layer_map.specs.Map.{Map, MapInRange, code_at, globals_at, heap_at, stack_at, tables_at, frame_table_at, zero_frame_at, user_frames_at, memory_words, memory_frames}

-- each part begins a page, ends before the next one begins, and lies in memory; memory lies below the ports, and is whole frames
pub record PartsApart (m : Map) : Type 0 where
  pub code : code_at m + m.code_words ≤ globals_at m
  pub globals : globals_at m + m.global_words ≤ heap_at m
  pub heap : heap_at m + m.params.heap ≤ stack_at m
  pub stack : stack_at m + m.params.stack ≤ tables_at m
  pub tables : tables_at m + m.users * m.params.pages ≤ frame_table_at m
  pub frame_table : frame_table_at m + 8 * (m.params.frames + 1) ≤ zero_frame_at m
  pub memory : memory_words m ≤ 65000 * 1024
  pub frames : memory_frames m * 1024 ≡ memory_words m
  pub whole_code : code_at m % 1024 ≡ 0
  pub whole_globals : globals_at m % 1024 ≡ 0
  pub whole_heap : heap_at m % 1024 ≡ 0
  pub whole_stack : stack_at m % 1024 ≡ 0
  pub whole_tables : tables_at m % 1024 ≡ 0
  pub whole_frame_table : frame_table_at m % 1024 ≡ 0
  pub whole_zeros : zero_frame_at m % 1024 ≡ 0
  pub whole_frames : user_frames_at m % 1024 ≡ 0

pub apart_of : (m : Map) → MapInRange m → PartsApart m
apart_of m r = grind (arith, r, r.params)
