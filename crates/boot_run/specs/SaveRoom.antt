-- How long the file of a saved machine may be.
use Rattle.std.specs.Prelude.{ℕ, ◌+◌, ◌*◌}

-- the words of a saved machine of so many frames whose log is full, of 4,096 words
abbrev pub most_words : ℕ → ℕ
most_words frames = 5176 + 1024 * frames

-- the bytes that a file may have
abbrev pub FILE_ROOM : ℕ
FILE_ROOM = 67108864
