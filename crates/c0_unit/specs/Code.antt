-- The code of a unit: the entry, which runs into the first function, then the functions, and the routines. It stands behind the layer's words, and the
-- globals stand from the next page on.
use Rattle.std.specs.Prelude.{ℕ, ◌+◌, ◌*◌, ◌/◌, List, [], ◌∷◌, ◌++◌, length, map, sum, take, drop, slice_index}
use Rattle.std.specs.List.{range_with_len}
use Rattle.mips_table.specs.declared.inst.Inst.{Inst}
use Rattle.mips_table.specs.Encoding.{encoding}
use Rattle.layer_map.specs.Map.{layer_words, primitives_at, exits_at, next_page}
use Rattle.c0_tree.specs.declared.primitive.Program.TheVariants.{Kernel, User}
use Rattle.c0_tree.specs.Primitives.{kernel_primitives}
use Rattle.c0_tree.specs.Tree.{CFunction, CUnit}
use Rattle.c0_meaning.specs.Limits.{words_of_frame, first_number}
use Rattle.c0_meaning.specs.Sound.{shapes}
use Rattle.c0_meaning.specs.TypeAt.{env_in}
use Rattle.c0_runtime.specs.declared.entry.TheConstants.{ENTRY_WORDS}
use Rattle.c0_runtime.specs.declared.runtime.TheConstants.{NEW_OBJECT, RUNTIME_WORDS}
use Rattle.c0_runtime.specs.Code.{startup_code, new_routine, multiply_code, divide_code, remainder_code}
use Rattle.c0_typed.specs.Leaf.{keeps_registers}
use Rattle.c0_expr_code.specs.Scope.{Scope, exit_number}
use Rattle.c0_stmt_code.specs.Code.{Links, function_code}

-- where faults leave the code: a use of null, an index out of bounds, a division by zero and a want of stack
abbrev pub fault_exits : List ℕ
fault_exits = 4 * exits_at ∷ 4 * (exits_at + 1) ∷ 4 * (exits_at + 2) ∷ 4 * (exits_at + 3) ∷ []

-- where the primitives are entered, by their numbers: a word each
abbrev pub primitive_entries : List ℕ
primitive_entries = map (λ k. 4 * (primitives_at + k)) (range_with_len 0 (length kernel_primitives))

-- the first word of the functions: the entry runs into it
abbrev pub functions_at : ℕ
functions_at = layer_words + ENTRY_WORDS

-- what the code of a function depends on
abbrev pub scope : CUnit → CFunction → Scope
scope u f = record {
  env = env_in u f;
  in_registers = keeps_registers f;
  frame = words_of_frame (shapes u) f;
  exit = λ fault. slice_index fault_exits (exit_number fault) / 4;
}

-- the code of functions, one behind the other
abbrev pub functions_code : CUnit → Links → List CFunction → List Inst
functions_code u x [] = []
functions_code u x (f ∷ rest) = function_code (scope u f) x f ++ functions_code u x rest

-- links to nothing
abbrev pub no_links : Links
no_links = record { function = λ n. 0; primitive = λ n. 0; new_object = 0 }

-- the words of functions: they don't depend on what calls name
abbrev pub words_of_functions : CUnit → List CFunction → List ℕ
words_of_functions u functions = map (λ f. length (function_code (scope u f) no_links f)) functions

-- those of all functions of a unit
abbrev pub lengths_of : CUnit → List ℕ
lengths_of u = words_of_functions u u.functions

-- the functions of the numbers from one on, those below another
abbrev pub functions_in : CUnit → (from to : ℕ) → List CFunction
functions_in u from to = drop from (take to u.functions)

-- their code, and their words
abbrev pub code_in : CUnit → Links → (from to : ℕ) → List Inst
code_in u x from to = functions_code u x (functions_in u from to)

abbrev pub words_in : CUnit → (from to : ℕ) → List ℕ
words_in u from to = words_of_functions u (functions_in u from to)

-- functions in the order of their code: in source order from the one of this number on, which runs first, and then those before it
abbrev pub in_order : (first : ℕ) → List CFunction → List CFunction
in_order first functions = drop first functions ++ take first functions

-- the code of all functions of a unit, in that order
abbrev pub ordered_code : CUnit → Links → (first : ℕ) → List Inst
ordered_code u x first = functions_code u x (in_order first u.functions)

-- the addresses of parts of so many words, one behind the other from a word on
abbrev pub starts_from : ℕ → List ℕ → List ℕ
starts_from at [] = []
starts_from at (n ∷ rest) = 4 * at ∷ starts_from (at + n) rest

-- the address of each function, by its number, where they stand in that order from a word on
abbrev pub starts_in_order : (at : ℕ) → CUnit → (first : ℕ) → List ℕ
starts_in_order at u first =
    starts_from (at + sum (words_of_functions u (drop first u.functions))) (words_of_functions u (take first u.functions)) ++
    starts_from at (words_of_functions u (drop first u.functions))

abbrev pub function_starts : CUnit → (first : ℕ) → List ℕ
function_starts u first = starts_in_order functions_at u first

-- the first word of the routines: they stand behind the functions
abbrev pub routines_at : CUnit → ℕ
routines_at u = functions_at + sum (lengths_of u)

-- the words of a unit's code
abbrev pub code_words : CUnit → ℕ
code_words u = ENTRY_WORDS + sum (lengths_of u) + RUNTIME_WORDS

-- the address of the globals: the page behind the code
abbrev pub globals_start : CUnit → ℕ
globals_start u = 4 * next_page (layer_words + code_words u)

-- the indices of what calls name, where functions have these addresses and the routines begin at this word
abbrev pub links : List ℕ → (routines : ℕ) → Links
links starts routines = record {
  function = λ n. slice_index starts n / 4;
  primitive = λ n. slice_index primitive_entries n / 4;
  new_object = 4 * (routines + NEW_OBJECT) / 4;
}

-- those of a unit
abbrev pub unit_links : CUnit → (first : ℕ) → Links
unit_links u first = links (function_starts u first) (routines_at u)

-- the routines, one behind the other
abbrev pub routines_code : List Inst
routines_code = new_routine ++ (multiply_code ++ (divide_code (slice_index fault_exits 2) ++ remainder_code (slice_index fault_exits 2)))

-- the code of a unit whose first function is that of this number
abbrev pub unit_code : CUnit → (first : ℕ) → List Inst
unit_code u first = startup_code (globals_start u) ++ (ordered_code u (unit_links u first) first ++ routines_code)

-- its words
abbrev pub words_from : CUnit → (first : ℕ) → List ℕ
words_from u first = map encoding (unit_code u first)

-- the words of a kernel's unit, which begins with `dispatch`
abbrev pub unit_words : CUnit → List ℕ
unit_words u = words_from u (first_number Kernel u)

-- the words of a user program's unit, which begins with `main`
abbrev pub program_words : CUnit → List ℕ
program_words u = words_from u (first_number User u)
