-- The sample of each number.
use Rattle.std.specs.Prelude.{ℕ, ◌+◌, ◌-◌, ◌*◌, ◌%◌, List, [], ◌∷◌, ◌++◌, map, replicate}
use Rattle.std.specs.List.{flat_map, range_with_len}
use Rattle.layer_map.specs.declared.params.Params.{Params}
use Rattle.schedule_file.specs.declared.row.Row.{Row}
use Rattle.schedule_file.specs.declared.row.Row.TheVariants.{Line, Busy}
use Rattle.schedule_file.specs.Spelling.{spelling}
use Rattle.sample_maker.specs.Parts.{SampleParts}
use Rattle.sample_maker.specs.Program.{sample_words}
use Rattle.sample_maker.specs.Source.{pattern, filled_pattern}

-- the number of users, 3 to 16
abbrev pub user_count : ℕ → ℕ
user_count number = 3 + number % 14

-- the number below that of user 1
abbrev pub base_of : ℕ → ℕ
base_of number = number % 1000

-- the kernel's source
abbrev pub source_of : ℕ → List ℕ
source_of number = filled_pattern (user_count number) (base_of number) pattern

-- the parameters: few frames for many pages
abbrev pub sample_params : ℕ → Params
sample_params number = record { pages = 16; frames = 2 + number % 7; heap = 0; stack = 64 }

-- the words of the users: user 1 has the program, and the others have none
abbrev pub sample_users : ℕ → List (List ℕ)
sample_users number = sample_words ∷ replicate (user_count number - 1) []

-- a line is raised every 20,000 steps, forty times
abbrev pub line_row : ℕ → Row
line_row i = Line (20000 * i) (i % 8)

-- the busy time of a command, for the first hundred commands
abbrev pub busy_row : ℕ → ℕ → Row
busy_row number n = Busy n ((n + number) % 50)

-- a row of the schedule, ended by LF
abbrev pub schedule_row_text : Row → List ℕ
schedule_row_text row = spelling row ++ 10 ∷ []

-- the text of rows
abbrev pub schedule_rows_text : List Row → List ℕ
schedule_rows_text rows = flat_map schedule_row_text rows

-- the schedule's text
abbrev pub sample_schedule : ℕ → List ℕ
sample_schedule number = schedule_rows_text (map line_row (range_with_len 1 40)) ++ schedule_rows_text (map (busy_row number) (range_with_len 0 100))

-- the sample of a number
unfoldable pub sample_of : ℕ → SampleParts
sample_of number =
    record { source = source_of number; params = sample_params number; users = sample_users number; schedule = sample_schedule number }
