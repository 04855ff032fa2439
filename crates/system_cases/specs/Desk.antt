-- What stays so of the machine of a desk and of its disk, whose calls then meet their conditions.
use Rattle.std.specs.Prelude.{◌≡◌, ℕ, List, length}
use Rattle.mips_table.specs.Fits.{NamesSector}
use Rattle.mips_machine.specs.Machine.{Held}

-- so many words of memory, so many sectors, and a command under way names one of these
abbrev pub DeskFits : (words sectors : ℕ) → Held → List (List ℕ) → Type 0
DeskFits words sectors machine disk = (length machine.hardware.memory ≡ words) × (length disk ≡ sectors) × NamesSector sectors machine.hardware.ports.pending
