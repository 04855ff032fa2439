-- From the start to the words that were brought: the reset, the jump to the ROM, and the ROM's run.
use Rattle.std.proofs.Common.{◌≡◌, ℕ, zero, suc, ◌+◌, ◌-◌, ◌*◌, ◌/◌, ◌%◌, ◌<◌, ◌≤◌, Some, nat_lt, bit_or, List, [], ◌∷◌, length, map, replicate, slice_index, refl, sym, ap, ◌∙◌, subst, ⊎_elim, inl, inr, arith, lt-ltb}
use Rattle.std.specs.Prelude.{◌⊎◌}
use Rattle.std.proofs.lemmas.Bool.{cond-true, cases_eq, cases_lt}
use Rattle.std.proofs.lemmas.List.{ext_get_or, get_or-replicate, length-replicate}
use Rattle.std.proofs.lemmas.Nat.{mul-le}
use Rattle.std.proofs.Math.Nat.{mul_comm}
use Rattle.std.proofs.Math.ListN.{get_or-eq_default}
use Rattle.mips_table.specs.declared.inst.Inst.{Inst}
use Rattle.mips_table.specs.declared.inst.Inst.TheVariants.{J}
use Rattle.mips_table.specs.Encoding.{encoding}
use Rattle.mips_table.specs.Processor.{Cpu}
use Rattle.mips_table.specs.Device.{Environment, Idle, sector_of}
use Rattle.mips_table.specs.Machine.{State, zero_cpu, run, latched, coming, come_to}
use Rattle.mips_table.specs.Fits.{NamesSector, StartFits}
use Rattle.mips_table.specs.Code.{Contents, Behind, World, Sound, at_with, code_run, Steps, Reaches}
use Rattle.mips_table.specs.Simulation.{configuration_of, Quiet, Simulates, raised}
use Rattle.mips_table.specs.Borders.{InterruptsAreTaken}
use Rattle.masm.specs.Standing.{BlockStands}
use Rattle.masm.specs.CodeAddresses.{CallsLead}
use Rattle.boot_rom.specs.Code.{rom_code}
use Rattle.boot_rom.specs.Laws.{RomLoad, MayLoad, IsRomLoaded, load_steps, RomRuns}
use Rattle.boot_rom.specs.Alone.{instruction_word, lone_world, BlockInMemory, BlocksAreMade}
use Rattle.boot_rom.specs.Boots.{rom_start, rom_of, MayBoot, IsRomBooted, BootsFromRom, RomBoots}
use Rattle.boot_rom.proofs.BlockRuns.{sound, not_placed}
use Rattle.boot_rom.proofs.RomInRange.{rom_in_range, jump_in_range, rom_length}
use Rattle.boot_rom.proofs.RomStarts.{memory_length, low_zero, rom_word, start_fits, WasReset, resets}

-- lines of one stretch of steps and then of another
raised_joined : (x : Environment) (n m t mask : ℕ) → raised x (n + m) t mask ≡ raised x m (t + n) (raised x n t mask)
raised_joined x n zero t mask = let e : n + 0 ≡ n = omega arith in ap (λ k. raised x k t mask) e
raised_joined x n (suc m) t mask =
    let e : n + suc m ≡ suc (n + m) = omega arith in
    let at : t + (n + m) ≡ t + n + m = omega arith in
    ap (λ k. raised x k t mask) e ∙ ap (λ k. bit_or (raised x (n + m) t mask) (x.lines k)) at ∙ ap (λ k. bit_or k (x.lines (t + n + m))) (raised_joined x n m t mask)

zeros : (xs : List ℕ) (n : ℕ) → length xs ≡ n → ((i : ℕ) → i < n → slice_index xs i ≡ 0) → xs ≡ replicate n 0
zeros xs n e h = ext_get_or 0 xs (replicate n 0) (e ∙ sym (length-replicate n 0)) (λ i lt. h i (omega arith) ∙ sym (get_or-replicate n i 0 0 (omega arith)))

-- a processor by its parts
abbrev cpu_with : ℕ → List ℕ → ℕ → ℕ → Cpu
cpu_with pc regs hi lo = record { pc = pc; regs = regs; hi = hi; lo = lo }

cpu_is : (pc hi lo : ℕ) (regs : List ℕ) → pc ≡ 0 → regs ≡ replicate 32 0 → hi ≡ 0 → lo ≡ 0 → cpu_with pc regs hi lo ≡ zero_cpu
cpu_is pc hi lo regs a b c d = rw (a, b, c, d) refl

-- the word of memory that a run of code sees
seen : (s : State) (k : ℕ) → k < length s.memory → (configuration_of s).contents.memory k ≡ slice_index s.memory k
seen s k lt = cond-true (nat_lt k (length s.memory)) (slice_index s.memory k) _ (lt-ltb k (length s.memory) lt)

module _ (x : Environment) (l : RomLoad) (frames : ℕ) (words : List ℕ) (sectors : List (List ℕ)) (input : List ℕ) (may : MayBoot x l frames words sectors input) where
  abbrev s0 : State
  s0 = rom_start (rom_of l) frames sectors input

  -- the ROM's first word
  abbrev place : ℕ
  place = 1024 * frames

  abbrev limit : ℕ
  limit = l.first + l.count

  size : length s0.memory ≡ place + 1024
  size = let some = may.some in let room = may.room in memory_length l frames (omega arith)

  module _ (made : BlocksAreMade) (stands : (n : ℕ) (is : List Inst) → BlockStands n is) (calls : (w : World) → Sound w → CallsLead w) (roms : (w : World) → Sound w → RomRuns w) (joins : (x : Environment) (s : State) (m n : ℕ) → run x s (m + n) ≡ run x (run x s m) n) (s1 : State) (was : WasReset x s0 s1) where
    abbrev c : Contents
    c = (configuration_of s1).contents

    abbrev d : Behind
    d = (configuration_of s1).behind

    pc1 : s1.cpu.pc ≡ 0
    pc1 = ap (λ (k : Cpu). k.pc) was.cpu

    size1 : length s1.memory ≡ place + 1024
    size1 = ap length was.memory ∙ size

    at_zero : configuration_of s1 ≡ at_with 0 c d
    at_zero = ap (λ pc. at_with (pc / 4) c d) pc1

    jump_stands : BlockInMemory x s1 limit 0 (J place ∷ [])
    jump_stands =
        let most = may.most in
        record {
          quiet = was.quiet;
          small = omega (arith, size1);
          range = jump_in_range place (omega arith);
          inside = omega (arith, size1);
          words = λ i lt. let z : i ≡ 0 = omega arith in let y : 0 + i ≡ 0 = omega arith in ap (slice_index s1.memory) y ∙ ap (λ m. slice_index m 0) was.memory ∙ sym (ap (slice_index (map encoding (J place ∷ []))) z);
          sectors = may.enough;
          idle = ap (λ z. z.pending) was.device;
        }

    -- the world of the jump, and of the ROM
    abbrev w1 : World
    w1 = lone_world x s1 limit 0 (J place ∷ [])

    idle1 : d.pending ≡ Idle
    idle1 = ap (λ z. z.pending) was.device

    jump : Reaches w1 1 (configuration_of s1) (at_with place c d)
    jump =
        let e : 4 * place / 4 ≡ place = omega arith in
        let to : Reaches w1 1 (at_with 0 c d) (at_with (4 * place / 4) c d) = (calls w1 (sound stands x s1 limit 0 (J place ∷ []) jump_stands)).jumps 0 (4 * place) c d (ap (λ n. Some (J n)) (sym e)) idle1 in
        subst (λ n. Reaches w1 1 (configuration_of s1) (at_with n c d)) e (subst (λ u. Reaches w1 1 u (at_with (4 * place / 4) c d)) (sym at_zero) to)

    abbrev s2 : State
    s2 = run x s1 jump.steps

    m1 : Simulates x w1 jump.steps s1
    m1 = made x s1 limit 0 jump.steps (J place ∷ []) (at_with place c d) jump_stands jump.run

    there2 : configuration_of s2 ≡ at_with place c d
    there2 = m1.same jump.steps (omega arith) ∙ jump.run.1

    size2 : length s2.memory ≡ place + 1024
    size2 = (m1.along jump.steps (omega arith)).holds.size ∙ size1

    -- the jump changes no word
    same2 : (k : ℕ) → k < place + 1024 → slice_index s2.memory k ≡ slice_index s0.memory k
    same2 k lt = sym (seen s2 k (omega (arith, size2))) ∙ ap (λ u. u.contents.memory k) there2 ∙ seen s1 k (omega (arith, size1)) ∙ ap (λ m. slice_index m k) was.memory

    rom_stands : BlockInMemory x s2 limit place (rom_code l.first l.count)
    rom_stands =
        let most = may.most in let some = may.some in let room = may.room in
        record {
          quiet = (m1.along jump.steps (omega arith)).quiet;
          small = omega (arith, size2);
          range = rom_in_range l.first l.count may.first may.few;
          inside = omega (arith, size2, rom_length l.first l.count);
          words = λ i lt. same2 (place + i) (omega (arith, rom_length l.first l.count)) ∙ rom_word l frames i (omega arith) (omega (arith, rom_length l.first l.count));
          sectors = may.enough;
          idle = ap (λ u. u.behind.pending) there2 ∙ idle1;
        }

    abbrev w2 : World
    w2 = lone_world x s2 limit place (rom_code l.first l.count)

    may_load : MayLoad w2 l d
    may_load =
        let most = may.most in let first = may.first in let few = may.few in let room = may.room in
        record {
          disk = record {
            system = refl;
            free = λ k from to. ap instruction_word (not_placed place (rom_code l.first l.count) k (inr (omega (arith, rom_length l.first l.count))));
            busy = may.busy;
          };
          named = omega arith;
          few = omega arith;
          sectors = omega arith;
          frames = omega (arith, size2);
          free = λ k lt. ap instruction_word (not_placed place (rom_code l.first l.count) k (inl (omega arith)));
          idle = idle1;
        }

    abbrev end : (c' : Contents) × (d' : Behind) × IsRomLoaded l c d c' d' × Reaches w2 (load_steps l + 1) (at_with place c d) (at_with 0 c' d')
    end = roms w2 (sound stands x s2 limit place (rom_code l.first l.count) rom_stands) l place c d ((stands place (rom_code l.first l.count)).stands w2) may_load

    abbrev took : ℕ
    took = end.3.steps

    m2 : Simulates x w2 took s2
    m2 = made x s2 limit place took (rom_code l.first l.count) (at_with 0 end.0 end.1) rom_stands (subst (λ u. Steps w2 took u (at_with 0 end.0 end.1)) (sym there2) end.3.run)

    abbrev s3 : State
    s3 = run x s2 took

    there3 : configuration_of s3 ≡ at_with 0 end.0 end.1
    there3 = m2.same took (omega arith) ∙ ap (λ u. code_run w2 u took) there2 ∙ end.3.run.1

    size3 : length s3.memory ≡ place + 1024
    size3 = (m2.along took (omega arith)).holds.size ∙ size2

    word3 : (k : ℕ) → k < place + 1024 → slice_index s3.memory k ≡ end.0.memory k
    word3 k lt = sym (seen s3 k (omega (arith, size3))) ∙ ap (λ u. u.contents.memory k) there3

    word1 : (k : ℕ) → k < place + 1024 → c.memory k ≡ slice_index s0.memory k
    word1 k lt = seen s1 k (omega (arith, size1)) ∙ ap (λ m. slice_index m k) was.memory

    -- the lines that were raised since the start
    mask3 : s3.mask ≡ raised x s3.time 0 0
    mask3 =
        let a = m1.along jump.steps (omega arith) in
        let b = m2.along took (omega arith) in
        let time2 : s2.time ≡ 1 + jump.steps = a.time ∙ ap (λ t. t + jump.steps) was.time in
        let time3 : s3.time ≡ 1 + jump.steps + took = b.time ∙ ap (λ t. t + took) time2 in
        let none : 1 + jump.steps ≡ 0 + (1 + jump.steps) = omega arith in
        let mask2 : s2.mask ≡ raised x jump.steps 1 (raised x 1 0 0) = a.mask ∙ ap (λ t. raised x jump.steps t s1.mask) was.time ∙ ap (raised x jump.steps 1) was.mask in
        b.mask ∙ ap (λ t. raised x took t s2.mask) time2 ∙ ap (raised x took (1 + jump.steps)) (mask2 ∙ sym (raised_joined x 1 jump.steps 0 0))
        ∙ ap (λ t. raised x took t (raised x (1 + jump.steps) 0 0)) none ∙ sym (raised_joined x (1 + jump.steps) took 0 0) ∙ ap (λ n. raised x n 0 0) (sym time3)

    booted : IsRomBooted x frames words s0 s3
    booted =
        let most = may.most in let some = may.some in let room = may.room in let long = may.long in
        let q : Quiet x s3 = (m2.along took (omega arith)).quiet in
        let b = end.2.brought in
        let aligned = q.aligned in
        let here : s3.cpu.pc / 4 ≡ 0 = ap (λ u. u.at) there3 in
        record {
          fits = q.fits;
          on = q.on;
          no_reset = q.no_reset;
          cpu = cpu_is s3.cpu.pc s3.cpu.hi s3.cpu.lo s3.cpu.regs (omega arith)
              (zeros s3.cpu.regs 32 q.fits.cpu.regs.size (λ i lt. ⊎_elim
              (λ z. ap (slice_index s3.cpu.regs) z ∙ q.fits.cpu.regs.none)
              (λ ne. ap (λ u. u.contents.regs i) there3 ∙ end.2.regs i ne (ap (λ (k : Cpu). slice_index k.regs i) was.cpu ∙ get_or-replicate 32 i 0 0 lt))
              (cases_eq i 0)))
              (ap (λ u. u.contents.hi) there3 ∙ b.besides.hi ∙ ap (λ (k : Cpu). k.hi) was.cpu)
              (ap (λ u. u.contents.lo) there3 ∙ b.besides.lo ∙ ap (λ (k : Cpu). k.lo) was.cpu);
          special = zeros s3.special 9 q.fits.special.size (λ i lt. ap (λ u. u.contents.special i) there3 ∙ ap (λ g. g i) b.besides.special ∙ ap (λ z. slice_index z i) was.special ∙ get_or-replicate 9 i 0 0 lt);
          size = size3;
          memory = λ k lt. word3 k (omega arith) ∙ ⊎_elim
              (λ low.
              let e : 1024 * (k / 1024) + k % 1024 ≡ k = omega arith in
              ap end.0.memory (sym e) ∙ b.words (k / 1024) (k % 1024) (omega arith) (omega arith)
              ∙ ap (λ z. slice_index (sector_of z.sectors (l.first + k / 1024)) (k % 1024)) was.device
              ∙ may.holds (k / 1024) (k % 1024) (omega arith) (omega arith) ∙ ap (slice_index words) e)
              (λ high. b.memory k high (omega arith) ∙ word1 k (omega arith) ∙ low_zero l frames k (omega arith) lt ∙ sym (get_or-eq_default words 0 (omega arith)))
              (cases_lt k (1024 * l.count));
          rom = λ k from to. word3 k to ∙ b.memory k (omega arith) (omega arith) ∙ word1 k to;
          idle = ap (λ u. u.behind.pending) there3 ∙ b.besides.idle;
          sectors = λ q i. ap (λ u. u.behind.sectors q i) there3 ∙ b.sectors q i ∙ ap (λ z. slice_index (sector_of z.sectors q) i) was.device;
          log = ap (λ u. u.behind.log) there3 ∙ b.besides.log ∙ was.log;
          input = ap (λ u. u.behind.input) there3 ∙ b.besides.input ∙ was.input;
          mask = mask3;
        }

    -- the steps from the start
    abbrev total : ℕ
    total = 1 + (jump.steps + took)

    module _ (first : s1 ≡ run x s0 1) where
      -- a state on the way is one of the two runs
      on_jump : (i : ℕ) → run x s0 (1 + i) ≡ run x s1 i
      on_jump i = joins x s0 1 i ∙ ap (λ s. run x s i) (sym first)

      on_rom : (i : ℕ) → run x s0 (1 + (jump.steps + i)) ≡ run x s2 i
      on_rom i = on_jump (jump.steps + i) ∙ joins x s1 jump.steps i

      each : (P : State → Type 0) → ((i : ℕ) → i ≤ jump.steps → P (run x s1 i)) → ((i : ℕ) → i ≤ took → P (run x s2 i)) → (j : ℕ) → 1 ≤ j → j ≤ total → P (run x s0 j)
      each P h k j from to = ⊎_elim
          (λ low. let e : 1 + (j - 1) ≡ j = omega arith in subst (λ j. P (run x s0 j)) e (subst P (sym (on_jump (j - 1))) (h (j - 1) (omega arith))))
          (λ high. let e : 1 + (jump.steps + (j - 1 - jump.steps)) ≡ j = omega arith in
          subst (λ j. P (run x s0 j)) e (subst P (sym (on_rom (j - 1 - jump.steps))) (k (j - 1 - jump.steps) (omega arith))))
          (cases_lt j (1 + jump.steps))

      before : (P : State → Type 0) → ((i : ℕ) → i < jump.steps → P (run x s1 i)) → ((i : ℕ) → i < took → P (run x s2 i)) → (j : ℕ) → 1 ≤ j → j < total → P (run x s0 j)
      before P h k j from to = ⊎_elim
          (λ low. let e : 1 + (j - 1) ≡ j = omega arith in subst (λ j. P (run x s0 j)) e (subst P (sym (on_jump (j - 1))) (h (j - 1) (omega arith))))
          (λ high. let e : 1 + (jump.steps + (j - 1 - jump.steps)) ≡ j = omega arith in
          subst (λ j. P (run x s0 j)) e (subst P (sym (on_rom (j - 1 - jump.steps))) (k (j - 1 - jump.steps) (omega arith))))
          (cases_lt j (1 + jump.steps))

      few_steps : total ≤ 100 + l.count * (12000 + l.busy)
      few_steps =
          let a = jump.within in
          let b : took ≤ (2704 + l.busy) * l.count + 12 + 1 = end.3.within in
          let m : (2704 + l.busy) * l.count ≤ (12000 + l.busy) * l.count = mul-le (2704 + l.busy) l.count (12000 + l.busy) l.count (omega arith) (omega arith) in
          let t : (12000 + l.busy) * l.count ≡ l.count * (12000 + l.busy) = mul_comm (12000 + l.busy) l.count in
          omega (arith, a, b, m, t)

      boots : BootsFromRom x l frames words s0
      boots = record {
        steps = total;
        some = omega arith;
        within = few_steps;
        quiet = each (Quiet x) (λ i le. (m1.along i le).quiet) (λ i le. (m2.along i le).quiet);
        place = places;
        named = names;
        sectors = λ j q le from. ⊎_elim
            (λ z. ap (λ j. sector_of (run x s0 j).device.sectors q) z)
            (λ some. each (λ s. sector_of s.device.sectors q ≡ sector_of s0.device.sectors q)
            (λ i le. (m1.along i le).sectors q from ∙ ap (λ z. sector_of z.sectors q) was.device)
            (λ i le. (m2.along i le).sectors q from ∙ (m1.along jump.steps (omega arith)).sectors q from ∙ ap (λ z. sector_of z.sectors q) was.device)
            j (omega (arith, some)) le)
            (cases_eq j 0);
        there = subst (IsRomBooted x frames words s0) (sym (on_rom took)) booted;
      }
        where
          At : State → Type 0
          At s = (s.cpu.pc ≡ 0) ⊎ (4096 * frames ≤ s.cpu.pc)

          Named : State → Type 0
          Named s = NamesSector limit (come_to (coming x (latched x s))).device.pending

          names : (j : ℕ) → j < total → Named (run x s0 j)
          names j lt = ⊎_elim
              (λ z. subst (λ j. Named (run x s0 j)) (sym z) tt)
              (λ some. before Named
              (λ i le. let here = m1.instructs i le in subst (λ o. NamesSector limit (come_to o).device.pending) (sym here.untaken) here.named)
              (λ i le. let here = m2.instructs i le in subst (λ o. NamesSector limit (come_to o).device.pending) (sym here.untaken) here.named)
              j (omega (arith, some)) lt)
              (cases_eq j 0)

          places : (j : ℕ) → j < total → At (run x s0 j)
          places j lt = ⊎_elim
              (λ z. inl (ap (λ j. (run x s0 j).cpu.pc) z))
              (λ some. before At
              (λ i le.
              let here = m1.instructs i le in
              let aligned = (m1.along i (omega arith)).quiet.aligned in
              let b = (stands 0 (J place ∷ [])).inside ((run x s1 i).cpu.pc / 4) here.inst here.code in
              let top : (run x s1 i).cpu.pc / 4 < 1 = b.1 in
              inl (omega arith))
              (λ i le.
              let here = m2.instructs i le in
              let b = (stands place (rom_code l.first l.count)).inside ((run x s2 i).cpu.pc / 4) here.inst here.code in
              let low : place ≤ (run x s2 i).cpu.pc / 4 = b.0 in
              inr (omega arith))
              j (omega (arith, some)) lt)
              (cases_eq j 0)

pub rom_boots : BlocksAreMade → ((n : ℕ) (is : List Inst) → BlockStands n is) → ((w : World) → Sound w → CallsLead w) → ((w : World) → Sound w → RomRuns w) → ((x : Environment) (s : State) (m n : ℕ) → run x s (m + n) ≡ run x (run x s m) n) → StartFits → InterruptsAreTaken → RomBoots
rom_boots made stands calls roms joins new takes x l frames words sectors input may =
    let fits = start_fits new x l frames words sectors input may in
    boots x l frames words sectors input may made stands calls roms joins (run x (rom_start (rom_of l) frames sectors input) 1) (resets takes x l frames sectors input fits) refl
