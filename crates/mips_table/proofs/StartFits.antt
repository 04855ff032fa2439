-- The machine at its start fits: its lists are filled with zeros.
use Rattle.std.proofs.Common.{◌≡◌, ℕ, List, length, replicate, All, refl, arith}
use Rattle.std.proofs.lemmas.List.{length-replicate}
use Rattle.std.proofs.lemmas.List.Elements.{All-replicate}
use Rattle.mips_table.specs.Device.{Environment, HasEightLines}
use Rattle.mips_table.specs.Machine.{zero_cpu, power_on}
use Rattle.mips_table.specs.Fits.{IsWord, IsPage, CpuFits, Fits}

zeros : (n : ℕ) → All IsWord (replicate n 0)
zeros n = All-replicate IsWord n 0 (omega arith)

pub zero_fits : CpuFits zero_cpu
zero_fits = record { pc = omega arith; regs = record { size = refl; each = zeros 32; none = refl }; hi = omega arith; lo = omega arith }

pub start_fits : (x : Environment) (memory : List ℕ) (sectors : List (List ℕ)) (input : List ℕ) → HasEightLines x → All IsWord memory → length sectors ≡ x.count → All IsPage sectors → IsWord (length input) → All IsWord input
    → Fits x (power_on memory sectors input)
start_fits x memory sectors input e m n p few i = record {
  cpu = zero_fits;
  special = record { size = refl; each = zeros 9 };
  memory = m;
  device = record { buffer = record { size = length-replicate {A = ℕ} 1024 0; each = zeros 1024 }; sector = omega arith; pending = tt; sectors = n; pages = p };
  console = record { room = omega arith; logged = λ k d lt. absurd (omega arith); few = few; left = i };
  lines = e;
  mask = omega arith;
  off = tt;
}
