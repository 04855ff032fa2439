-- What stays so of the machine of a desk and of its disk, whose calls then meet their conditions.
use Rattle.std.specs.Prelude.{◌≡◌, ◌≤◌, ℕ, List, length}
use Rattle.mips_table.specs.Fits.{NamesSector}
use Rattle.mips_machine.specs.Machine.{Held}

-- so many words of memory, so many sectors, and a command under way names one of these
abbrev pub DeskFits : (words sectors : ℕ) → Held → List (List ℕ) → Type 0
DeskFits words sectors machine disk = (length machine.hardware.memory ≡ words) × (length disk ≡ sectors) × NamesSector sectors machine.hardware.ports.pending

-- where paging stands: few pages and frames, and the page tables, the frame table and the zero frame in 64 frames of memory
abbrev pub PagesFit : (pages frames tables counts zeros : ℕ) → Type 0
PagesFit pages frames tables counts zeros = (pages ≤ 64) × (frames ≤ 40) × (tables ≤ 65536) × (counts ≤ 65536) × (zeros ≤ 65536)
