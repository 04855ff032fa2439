-- Where the parts of the map stand, as one record.
use Rattle.std.proofs.Common.{◌≡◌, ◌+◌, ◌*◌, ◌/◌, ◌≤◌, arith}
use Rattle.layer_map.specs.Map.{Map, MapInRange, layer_words, globals_at, heap_at, stack_at, tables_at, frame_table_at, zero_frame_at, memory_words}

pub record Bounds (m : Map) : Type 0 where
  pub code : layer_words + m.code_words ≤ globals_at m
  pub globals : globals_at m + m.global_words ≤ heap_at m
  pub heap : heap_at m + m.params.heap ≤ stack_at m
  pub stack : stack_at m + m.params.stack ≤ tables_at m
  pub tables : tables_at m + m.users * m.params.pages ≤ frame_table_at m
  pub frame_table : frame_table_at m + 8 * (m.params.frames + 1) ≤ zero_frame_at m
  pub memory : zero_frame_at m + 1024 + 1024 * m.params.frames ≤ memory_words m
  pub zeros : 1024 * (zero_frame_at m / 1024) ≡ zero_frame_at m
  pub users : m.users ≤ 64
  pub pages : m.params.pages ≤ 1024
  pub stack_small : m.params.stack ≤ 262144

pub bounds_of : (m : Map) → MapInRange m → Bounds m
bounds_of m r = grind (arith, r, r.params)
