-- Which text has parameters, and which fault another one has.
use Rattle.std.specs.Prelude.{ℕ, ◌≡◌, ◌≤◌, ◌⊎◌, ◌||◌, ◌++◌, nat_lt, List, [], ◌∷◌, length}
use Rattle.std.specs.Prelude.{take, drop, Option, Some, None, Result, Ok, Err, codes, decimal, if◌then◌else◌}
use Rattle.std.specs.Str.{bytes_eq}
use Rattle.cvm_words.specs.Reading.{◌>>=◌}
use Rattle.cvm_text.specs.Lines.{lines_of, number_spelled}
use Rattle.layer_map.specs.declared.params.Params.{Params}
use Rattle.system_files.specs.declared.fault.FileFault.{FileFault}
use Rattle.system_files.specs.declared.fault.FileFault.TheVariants.{Parameter, BadParams}
use Rattle.system_files.specs.declared.params.Numbers.{Numbers}

-- the number behind the beginning of a line
unfoldable pub number_in : (beginning line : List ℕ) → Option ℕ
number_in beginning line = if bytes_eq (take (length beginning) line) beginning then number_spelled (drop (length beginning) line) else None

-- a number of the line with this number, and what follows it
abbrev pub number_on_line : ℕ → List (List ℕ) → Option ℕ → Result (ℕ × List (List ℕ)) FileFault
number_on_line line rest (Some n) = Ok (n, rest)
number_on_line line rest None = Err (BadParams line)

-- the number of the next line, which is to begin so, and what follows it
abbrev pub next_number : (line : ℕ) → (beginning : List ℕ) → List (List ℕ) → Result (ℕ × List (List ℕ)) FileFault
next_number line beginning [] = Err (BadParams line)
next_number line beginning (text ∷ rest) = number_on_line line rest (number_in beginning text)

-- numbers behind which no line follows
abbrev pub at_the_end : List (List ℕ) → Numbers → Result Numbers FileFault
at_the_end [] numbers = Ok numbers
at_the_end (text ∷ rest) numbers = Err (BadParams 5)

-- the numbers of the four lines
unfoldable pub numbers_of : List (List ℕ) → Result Numbers FileFault
numbers_of lines = do
  pages ← next_number 1 (codes "pages ") lines
  frames ← next_number 2 (codes "frames ") pages.1
  heap ← next_number 3 (codes "heap ") frames.1
  stack ← next_number 4 (codes "stack ") heap.1
  at_the_end stack.1 (record { pages = pages.0; frames = frames.0; heap = heap.0; stack = stack.0 })

-- a number in its range
unfoldable pub ranged : (which least most value : ℕ) → Result ℕ FileFault
ranged which least most value = if nat_lt value least || nat_lt most value then Err (Parameter which value) else Ok value

-- the parameters that numbers are
unfoldable pub params_in : Numbers → Result Params FileFault
params_in n = do
  pages ← ranged 1 1 1024 n.pages
  frames ← ranged 2 2 16384 n.frames
  heap ← ranged 3 0 1048576 n.heap
  stack ← ranged 4 64 262144 n.stack
  Ok (record { pages = pages; frames = frames; heap = heap; stack = stack })

-- the parameters that a text has, or its fault: all lines are read before a range is looked at
abbrev pub params_of : List ℕ → Result Params FileFault
params_of text = numbers_of (lines_of text) >>= params_in

-- the four lines of parameters, with this behind the last
abbrev pub spelling : Params → (last : List ℕ) → List ℕ
spelling p last =
    codes "pages " ++ (decimal p.pages ++ 10 ∷ (codes "frames " ++ (decimal p.frames ++ 10 ∷ (
    codes "heap " ++ (decimal p.heap ++ 10 ∷ (codes "stack " ++ (decimal p.stack ++ last)))))))

-- parameters in their ranges
pub record AreInRange (p : Params) : Type 0 where
  pub least_pages : 1 ≤ p.pages
  pub most_pages : p.pages ≤ 1024
  pub least_frames : 2 ≤ p.frames
  pub most_frames : p.frames ≤ 16384
  pub most_heap : p.heap ≤ 1048576
  pub least_stack : 64 ≤ p.stack
  pub most_stack : p.stack ≤ 262144

-- a text spells parameters, with an LF at its end or none
abbrev pub Spells : List ℕ → Params → Type 0
Spells text p = (text ≡ spelling p []) ⊎ (text ≡ spelling p (10 ∷ []))
