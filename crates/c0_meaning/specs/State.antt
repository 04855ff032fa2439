-- The state of C0: globals, heap and stack.
use Rattle.std.specs.Prelude.{ℕ, ◌+◌, List, [], ◌∷◌, map, drop, Option, slice_get, unwrap_or, option_map}
use Rattle.c0_tree.specs.Tree.{CUnit}
use Rattle.c0_meaning.specs.Env.{typed_of}
use Rattle.c0_meaning.specs.Limits.{words_of_frame}
use Rattle.c0_meaning.specs.Sound.{shapes}
use Rattle.c0_meaning.specs.Value.{Region, globals, heap, locals, Location, Value, group, empty, with_part, get, value_with, zeros_of}

-- the frame of a call: the function's number, and the group of its parameters and locals
pub record Frame : Type 0 where
  pub function : ℕ
  pub variables : Value

-- the group of globals, the group of heap objects, the words used of the heap, and the frames, the newest first
pub record C0State : Type 0 where
  pub global_values : Value
  pub heap_values : Value
  pub heap_words : ℕ
  pub frames : List Frame

-- the variables of the newest frame
abbrev pub variables_of : List Frame → Value
variables_of [] = group empty
variables_of (f ∷ rest) = f.variables

-- the frames, of which the newest has these variables
abbrev pub with_variables : List Frame → Value → List Frame
with_variables [] v = []
with_variables (f ∷ rest) v = record { function = f.function; variables = v } ∷ rest

-- the value of a region
abbrev pub region_value : Region → C0State → Value
region_value globals s = s.global_values
region_value heap s = s.heap_values
region_value locals s = variables_of s.frames

-- the state in which a region has this value
abbrev pub with_region : Region → C0State → Value → C0State
with_region globals s v = record s { global_values = v }
with_region heap s v = record s { heap_values = v }
with_region locals s v = record s { frames = with_variables s.frames v }

-- what stands at a location
abbrev pub read : C0State → Location → Option Value
read s l = get (region_value l.region s) l.path

-- the state with x at a location
abbrev pub write : C0State → Location → Value → C0State
write s l x = with_region l.region s (value_with (region_value l.region s) l.path x)

-- the state with a frame more
abbrev pub pushed : Frame → C0State → C0State
pushed f s = record s { frames = f ∷ s.frames }

-- the state without the newest frame
abbrev pub popped : C0State → C0State
popped s = record s { frames = drop 1 s.frames }

-- the state with an object more, which has so many words
abbrev pub with_object : Value → ℕ → C0State → C0State
with_object v n s = record s { heap_values = with_part s.heap_values v; heap_words = s.heap_words + n }

-- the words of all frames
abbrev pub stack_words : CUnit → List Frame → ℕ
stack_words u [] = 0
stack_words u (f ∷ rest) = unwrap_or (option_map (words_of_frame (shapes u)) (slice_get u.functions f.function)) 0 + stack_words u rest

-- the state before the first call: globals at their start, an empty heap and an empty stack
abbrev pub first_state : CUnit → C0State
first_state u = record { global_values = group (zeros_of (shapes u) (map typed_of u.globals)); heap_values = group empty; heap_words = 0; frames = [] }
