-- A source's unit: what its asm texts say, every fault that stands in it, and what it is once it is checked.
use Rattle.std.specs.Prelude.{ℕ, List, [], ◌∷◌, ◌++◌, map, Option, Some, None}
use Rattle.c0_tree.specs.declared.tree.Span.{Span}
use Rattle.c0_tree.specs.Tree.{CBody, code, asm, CFunction, CUnit}
use Rattle.c0_tree.specs.declared.primitive.Program.{Program}
use Rattle.c0_tree.specs.declared.primitive.Program.TheVariants.{Kernel}
use Rattle.c0_tree.specs.Primitives.{primitives_of}
use Rattle.c0_asm_text.specs.AsmText.{text_words, bad_line}
use Rattle.c0_meaning.specs.Fault.{Fault, ASM_NOT_ALLOWED}
use Rattle.c0_meaning.specs.Unit.{program_faults, resolved_unit}

-- a body whose asm text is read: it holds the words of the lines that are allowed
abbrev pub read_body : CBody → CBody
read_body (code locals stmts answer) = code locals stmts answer
read_body (asm text span words) = asm text span (text_words text)

-- a function whose body is read
abbrev pub read_function : CFunction → CFunction
read_function f = record { answer = f.answer; answer_span = f.answer_span; name = f.name; params = f.params; body = read_body f.body }

-- a unit whose asm texts are read
abbrev pub read_unit : CUnit → CUnit
read_unit u = record { length = u.length; structs = u.structs; globals = u.globals; functions = map read_function u.functions }

-- the fault of an asm text at this span, of which this line isn't allowed
abbrev pub asm_line_fault : Option ℕ → Span → List Fault
asm_line_fault None span = []
asm_line_fault (Some line) span = record { number = ASM_NOT_ALLOWED; span = span; line = line } ∷ []

-- the fault of a body's asm text: the first of its lines that isn't allowed
abbrev pub asm_fault : CBody → List Fault
asm_fault (code locals stmts answer) = []
asm_fault (asm text span words) = asm_line_fault (bad_line text) span

-- the faults of the asm texts of functions
abbrev pub asm_faults : List CFunction → List Fault
asm_faults [] = []
asm_faults (f ∷ rest) = asm_fault f.body ++ asm_faults rest

-- every fault that stands in the source of a kernel or a user program
abbrev pub source_faults_as : Program → CUnit → List Fault
source_faults_as program u = program_faults program (read_unit u) ++ asm_faults u.functions

-- every fault that stands in a kernel's source
abbrev pub source_faults : CUnit → List Fault
source_faults = source_faults_as Kernel

-- the unit of a kernel or a user program with its asm texts read and its names resolved
abbrev pub checked_as : Program → CUnit → CUnit
checked_as program u = resolved_unit (primitives_of program) (read_unit u)

-- a kernel's unit that is so
abbrev pub checked_unit : CUnit → CUnit
checked_unit = checked_as Kernel
