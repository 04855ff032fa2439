-- A machine that is taken up has the memory of its map.
-- It serves `resumed_machine` alone.
use Rattle.std.proofs.Common.{◌≡◌, ◌*◌, ℕ, length, ap, ◌∙◌, arith}
use Rattle.std.proofs.lemmas.List.{length-replicate}
use Rattle.schedule_file.specs.Rows.{Rows}
use Rattle.layer_map.specs.Map.{Map, memory_words, memory_frames}
use Rattle.mips_machine.specs.Machine.{started}

whole : (m : Map) → 1024 * memory_frames m ≡ memory_words m
whole m = omega arith

pub started_long : (m : Map) (frames : ℕ) (rows : Rows) → frames ≡ memory_frames m → length (started frames rows).hardware.memory ≡ memory_words m
started_long m frames rows e = length-replicate {A = ℕ} (1024 * frames) 0 ∙ ap (λ n. 1024 * n) e ∙ whole m
