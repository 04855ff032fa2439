-- The machine with the ROM at its start, and after the step that takes the reset.
use Rattle.std.proofs.Common.{◌≡◌, ℕ, zero, suc, ◌+◌, ◌-◌, ◌*◌, ◌<◌, ◌≤◌, List, ◌∷◌, length, map, replicate, slice_index, All, refl, ap, ◌∙◌, arith}
use Rattle.std.proofs.lemmas.List.{length-append, length-replicate, length-map, get_or_append_left, get_or-append_right, get_or-replicate}
use Rattle.std.proofs.lemmas.List.Elements.{All-append, All-replicate, All-cons}
use Rattle.mips_table.specs.declared.inst.Inst.TheVariants.{J}
use Rattle.mips_table.specs.declared.cause.Cause.TheVariants.{Reset}
use Rattle.mips_table.specs.Encoding.{encoding}
use Rattle.mips_table.specs.Device.{Environment}
use Rattle.mips_table.specs.Machine.{State, zero_cpu, latched, run}
use Rattle.mips_table.specs.Fits.{IsWord, Fits, StartFits}
use Rattle.mips_table.specs.Simulation.{Quiet, raised}
use Rattle.mips_table.specs.Borders.{Taken, InterruptsAreTaken}
use Rattle.boot_rom.specs.Code.{rom_code}
use Rattle.boot_rom.specs.Laws.{RomLoad}
use Rattle.boot_rom.specs.Boots.{rom_frame, rom_memory, rom_start, rom_of, MayBoot}
use Rattle.boot_rom.proofs.RomInRange.{rom_length, rom_words_fit, jump_word}

frame_length : (l : RomLoad) → length (rom_frame (rom_of l)) ≡ 1024
frame_length l = length-append (map encoding (rom_code l.first l.count)) (replicate 977 0) ∙ omega (arith, length-map (rom_code l.first l.count) encoding, rom_length l.first l.count, length-replicate {A = ℕ} 977 0)

abbrev low : ℕ → List ℕ
low frames = encoding (J (1024 * frames)) ∷ replicate (1024 * frames - 1) 0

low_length : (frames : ℕ) → 1 ≤ frames → length (low frames) ≡ 1024 * frames
low_length frames some = omega (arith, length-replicate {A = ℕ} (1024 * frames - 1) 0)

pub memory_length : (l : RomLoad) (frames : ℕ) → 1 ≤ frames → length (rom_memory (rom_of l) frames) ≡ 1024 * frames + 1024
memory_length l frames some = length-append (low frames) (rom_frame (rom_of l)) ∙ omega (arith, low_length frames some, frame_length l)

-- its words below the ROM's frame are 0, but for the first
pub low_zero : (l : RomLoad) (frames k : ℕ) → 1 ≤ k → k < 1024 * frames → slice_index (rom_memory (rom_of l) frames) k ≡ 0
low_zero l frames zero from to = absurd (omega arith)
low_zero l frames (suc k) from to =
    let some : 1 ≤ frames = omega arith in
    get_or_append_left (low frames) (rom_frame (rom_of l)) 0 (suc k) (omega (arith, low_length frames some)) ∙ get_or-replicate (1024 * frames - 1) k 0 0 (omega arith)

-- and in it those of the code
pub rom_word : (l : RomLoad) (frames i : ℕ) → 1 ≤ frames → i < 47 → slice_index (rom_memory (rom_of l) frames) (1024 * frames + i) ≡ slice_index (map encoding (rom_code l.first l.count)) i
rom_word l frames i some lt =
    let at : 1024 * frames + i - 1024 * frames ≡ i = omega arith in
    get_or-append_right (low frames) (rom_frame (rom_of l)) (1024 * frames) (1024 * frames + i) 0 (low_length frames some) (omega arith)
    ∙ ap (slice_index (rom_frame (rom_of l))) at ∙ get_or_append_left (map encoding (rom_code l.first l.count)) (replicate 977 0) 0 i (omega (arith, length-map (rom_code l.first l.count) encoding, rom_length l.first l.count))

pub start_fits : StartFits → (x : Environment) (l : RomLoad) (frames : ℕ) (words : List ℕ) (sectors : List (List ℕ)) (input : List ℕ) → MayBoot x l frames words sectors input → Fits x (rom_start (rom_of l) frames sectors input)
start_fits new x l frames words sectors input may =
    let most = may.most in
    let zeros : All IsWord (replicate (1024 * frames - 1) 0) = All-replicate IsWord (1024 * frames - 1) 0 (omega arith) in
    let first : All IsWord (low frames) = All-cons IsWord (encoding (J (1024 * frames))) (replicate (1024 * frames - 1) 0) (jump_word (1024 * frames) (omega arith)) zeros in
    let code : All IsWord (rom_frame (rom_of l)) = All-append IsWord (map encoding (rom_code l.first l.count)) (replicate 977 0) (rom_words_fit l.first l.count may.first may.few) (All-replicate IsWord 977 0 (omega arith)) in
    new x (rom_memory (rom_of l) frames) sectors input may.lines (All-append IsWord (low frames) (rom_frame (rom_of l)) first code) may.count may.pages may.few_inputs may.inputs

-- the machine after the step that takes the reset: quiet at address 0, and all else as at the start, but for the lines of that step
pub record WasReset (x : Environment) (s0 s1 : State) : Type 0 where
  pub quiet : Quiet x s1
  pub cpu : s1.cpu ≡ zero_cpu
  pub special : s1.special ≡ replicate 9 0
  pub memory : s1.memory ≡ s0.memory
  pub device : s1.device ≡ s0.device
  pub log : s1.log ≡ s0.log
  pub input : s1.input ≡ s0.input
  pub mask : s1.mask ≡ raised x 1 0 0
  pub time : s1.time ≡ 1

pub resets : InterruptsAreTaken → (x : Environment) (l : RomLoad) (frames : ℕ) (sectors : List (List ℕ)) (input : List ℕ) → Fits x (rom_start (rom_of l) frames sectors input) →
    WasReset x (rom_start (rom_of l) frames sectors input) (run x (rom_start (rom_of l) frames sectors input) 1)
resets takes x l frames sectors input fits =
    let s0 : State = rom_start (rom_of l) frames sectors input in
    let t : Taken x s0 (latched x s0) Reset 0 0 = takes x s0 (latched x s0) Reset 0 0 fits refl refl in
    record {
      quiet = t.quiet;
      cpu = t.cpu;
      special = ap (λ (z : State). z.special) t.is;
      memory = t.memory;
      device = ap (λ (z : State). z.device) t.is;
      log = ap (λ (z : State). z.log) t.is;
      input = ap (λ (z : State). z.input) t.is;
      mask = ap (λ (z : State). z.mask) t.is;
      time = ap (λ (z : State). z.time) t.is;
    }
