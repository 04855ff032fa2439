-- Parameters of small systems.
use Rattle.layer_map.specs.declared.params.Params.{Params}

-- pages 4, frames 8, heap 64, stack 256
abbrev pub small_params : Params
small_params = record { pages = 4; frames = 8; heap = 64; stack = 256 }
