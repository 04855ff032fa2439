-- Texts without the blanks around them.
use Rattle.std.specs.Prelude.{ℕ, ◌-◌, List, length, drop, take}
use Rattle.std.specs.List.{prefix_len, suffix_len}
use Rattle.std.specs.Char.{is_ascii_whitespace}

-- a text without the blanks before it
abbrev pub trim_start : List ℕ → List ℕ
trim_start s = drop (prefix_len is_ascii_whitespace s) s

-- a text without the blanks after it
abbrev pub trim_end : List ℕ → List ℕ
trim_end s = take (length s - suffix_len is_ascii_whitespace s) s

-- a text without the blanks around it
abbrev pub trim : List ℕ → List ℕ
trim s = trim_end (trim_start s)
