-- The parts of a report, as they are printed one after another.
use Rattle.std.specs.Prelude.{◌≡◌, ℕ, zero, suc, ◌+◌, ◌*◌, ◌/◌, ◌%◌, ◌<◌, min, Bool, if◌then◌else◌, Option, Some, None, IfSome}
use Rattle.std.specs.Prelude.{List, [], ◌∷◌, ◌++◌, codes, decimal, slice_index, length}
use Rattle.cvm_text.specs.Hex.{hex8}
use Rattle.mips_table.specs.Processor.{Cpu}
use Rattle.mips_table.specs.Machine.{State}
use Rattle.mips_table.specs.declared.special.TheConstants.{IS_VALID}
use Rattle.layer_map.specs.Map.{Map, block_at, memory_frames}
use Rattle.layer_map.specs.declared.places.TheConstants.{BLOCK_SIZE}
use Rattle.cvm_model.specs.Paged.{paged_of}
use Rattle.cvm_model.specs.Stands.{block_cpu}
use Rattle.mips_machine.specs.Machine.{Held}
use Rattle.cvm_model.specs.declared.kernel_fault.KernelFault.{KernelFault}
use Rattle.cvm_model.specs.Text.{fault_name, hex_row, nonzero_row, processor_text}

-- the texts of the numbers below n, in order
unfoldable pub texts : (ℕ → List ℕ) → ℕ → List ℕ
texts f zero = []
texts f (suc n) = texts f n ++ f n

-- the end of a run that halted, or goes on
abbrev pub end_row : Bool → List ℕ
end_row halted = if halted then codes "halted\n" else codes "stopped\n"

-- the row of a kernel's fault
abbrev pub fault_row : KernelFault → List ℕ
fault_row f = codes "fault " ++ fault_name f ++ 10 ∷ []

-- the row of register r, and of the word of memory with number k, unless it is 0
abbrev pub register_row : ℕ → ℕ → List ℕ
register_row r word = nonzero_row (codes "reg " ++ decimal r) word

abbrev pub memory_row : ℕ → ℕ → List ℕ
memory_row k word = nonzero_row (codes "mem " ++ hex8 (4 * k)) word

-- the rows of page p of a user, by its words
abbrev pub page_text : ℕ → (ℕ → ℕ) → List ℕ
page_text p word = texts (λ i. memory_row (1024 * p + i) (word i)) 1024

-- the rows of registers 1 to n
abbrev pub register_rows : Cpu → ℕ → List ℕ
register_rows cpu n = texts (λ i. register_row (i + 1) (slice_index cpu.regs (i + 1))) n

-- a word of a page in a frame, or of those that were read
abbrev pub page_word : Held → List ℕ → Option ℕ → ℕ → ℕ
page_word held read None i = slice_index read i
page_word held read (Some f) i = slice_index held.hardware.memory (1024 * f + i)

-- they are those that a page shows, if it is told which
abbrev pub PageShows : Held → (read : List ℕ) → (shown : Option (ℕ → ℕ)) → Option ℕ → Type 0
PageShows held read shown o = IfSome shown (λ word. (i : ℕ) → page_word held read o i ≡ word i)

-- a user's processor: that of the machine, if it runs the user, and else the control block's
abbrev pub shown_cpu : Held → Bool → ℕ → Cpu
shown_cpu held runs u = if runs then held.hardware.cpu else block_cpu held.hardware.memory u

-- a user's size in pages, as its control block has it, up to the most
abbrev pub pages_in : Map → List ℕ → ℕ → ℕ
pages_in m memory u = min (slice_index memory (block_at u + BLOCK_SIZE)) m.params.pages

-- the rows of a user's processor
abbrev pub processor_rows : ℕ → ℕ → Cpu → List ℕ
processor_rows u pages cpu = processor_text u pages cpu (register_rows cpu 31)

-- the rows of the words of the console's log
abbrev pub log_rows : List ℕ → List ℕ
log_rows log = texts (λ i. hex_row (codes "con") (slice_index log i)) (length log)

-- entries of page tables that are valid name frames of the memory
abbrev pub EntriesFit : Map → State → Type 0
EntriesFit m s = (q : ℕ) → q < m.users * m.params.pages → (paged_of m s).entry q / IS_VALID % 2 ≡ 1 → (paged_of m s).entry q / 4096 < memory_frames m
