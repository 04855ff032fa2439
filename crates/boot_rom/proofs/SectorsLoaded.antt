-- The sectors come to their frames, one a turn, and the ROM goes to word 0: why the linked words stand in memory when they run.
use Rattle.std.proofs.Common.{◌≡◌, ◌≢◌, ℕ, suc, ◌+◌, ◌-◌, ◌*◌, ◌/◌, ◌%◌, ◌^◌, ◌<◌, ◌≤◌, [], ◌∷◌, ◌++◌, length, refl, sym, ap, ◌∙◌, subst, ⊎_elim, inl, inr, arith, eq-eqb}
use Rattle.std.proofs.lemmas.Bool.{cases_eq, cond-true}
use Rattle.std.proofs.Math.Nat.{mul-suc}
use Rattle.masm.specs.Blocks.{loop_code}
use Rattle.mips_table.specs.declared.inst.Inst.TheVariants.{J}
use Rattle.mips_table.specs.Code.{Contents, Behind, World, Sound, Does, put, at_with}
use Rattle.mips_table.proofs.PutsChangeOneWord.{put_other}
use Rattle.mips_table.proofs.NumbersInHalves.{const_is, small_is}
use Rattle.masm.specs.Says.{Gives}
use Rattle.masm.specs.Laws.{From, RunsCompose}
use Rattle.masm.specs.CodeAddresses.{CallsLead}
use Rattle.masm.specs.Stays.{RegistersStay}
use Rattle.masm.proofs.RulesForRoutines.{from_straight, from_then, from_later, from_does, does_from, loop_goes}
use Rattle.swap_layer.specs.Code.{swap_in_code}
use Rattle.swap_layer.specs.Laws.{SwapsIn, SwappedIn}
use Rattle.boot_rom.specs.Code.{set_boot_range_code, load_sector_code, loading_code}
use Rattle.boot_rom.specs.declared.rom.TheConstants.{NEXT_SECTOR, ZERO_REGISTERS}
use Rattle.boot_rom.specs.Laws.{RomLoad, MayLoad, FramesBrought, IsRomLoaded, load_steps, RomLoads, RomRuns}

-- a register that was 0, or becomes 0
zeroed : (m : ℕ → ℕ) (a x : ℕ) → (x ≢ a → m x ≡ 0) → put m a 0 x ≡ 0
zeroed m a x h = ⊎_elim (λ e. cond-true _ 0 (m x) (eq-eqb x a e)) (λ ne. put_other m a 0 x ne ∙ h ne) (cases_eq x a)

module _ (w : World) (f : Sound w) (spared : RegistersStay) (swaps : SwapsIn w) (l : RomLoad) (c0 : Contents) (d0 : Behind) (may : MayLoad w l d0) where
  -- i sectors are in their frames, and the registers say what is left
  record Mid (i : ℕ) (c : Contents) (d : Behind) : Type 0 where
    most : i ≤ l.count
    sector : c.regs 16 ≡ l.first + i
    frame : c.regs 18 ≡ 4096 * i
    left : c.regs 19 ≡ l.count - i
    others : (r : ℕ) → 5 < r → r ≢ 16 → r ≢ 18 → r ≢ 19 → c.regs r ≡ c0.regs r
    brought : FramesBrought l i c0 d0 c d

  -- one sector more is
  one_more : (i : ℕ) (c : Contents) (d : Behind) (c' : Contents) (d' : Behind) → i < l.count → FramesBrought l i c0 d0 c d → SwappedIn (l.first + i) i c d c' d' → FramesBrought l (suc i) c0 d0 c' d'
  one_more i c d c' d' lt b s =
      let small = f.small in let frames = may.frames in
      record {
        words = λ k j lk lj. ⊎_elim
            (λ e. subst (λ k. c'.memory (1024 * k + j) ≡ d0.sectors (l.first + k) j) (sym e) (s.words j lj ∙ b.sectors (l.first + i) j))
            (λ ne. s.memory (1024 * k + j) (omega arith) (inl (omega arith)) ∙ b.words k j (omega arith) lj)
            (cases_eq k i);
        memory = λ x from to. s.memory x to (inr (omega arith)) ∙ b.memory x (omega arith) to;
        sectors = λ x j. s.sectors x j ∙ b.sectors x j;
        commands = s.commands ∙ ap (λ n. n + 1) b.commands ∙ omega arith;
        besides = record {
          special = s.besides.special ∙ b.besides.special;
          hi = s.besides.hi ∙ b.besides.hi;
          lo = s.besides.lo ∙ b.besides.lo;
          log = s.besides.log ∙ b.besides.log;
          input = s.besides.input ∙ b.besides.input;
          idle = s.besides.idle;
        };
      }

  turn : (i : ℕ) → i < l.count → Does w load_sector_code (2702 + l.busy) (Mid i) (Mid (suc i))
  turn i lt = does_from w load_sector_code (2702 + l.busy) (Mid i) (Mid (suc i)) (λ c d m.
      let small = f.small in let frames = may.frames in let named = may.named in let sectors = may.sectors in
      from_later w load_sector_code (l.busy + 2699 + 3) (2702 + l.busy) c d _ _ (omega arith) (λ c' d' k. k)
      (from_then w swap_in_code NEXT_SECTOR (l.busy + 2699) 3 c d (SwappedIn (l.first + i) i c d) _
      (swaps l.busy (l.first + i) i c d may.disk m.sector m.frame (omega arith, λ x from to. may.free x (omega arith)) (omega arith) m.brought.besides.idle)
      (λ c1 d1 s.
      let r16 : c1.regs 16 ≡ l.first + i = s.regs 16 (omega arith) ∙ m.sector in
      let r18 : c1.regs 18 ≡ 4096 * i = s.regs 18 (omega arith) ∙ m.frame in
      let r19 : c1.regs 19 ≡ l.count - i = s.regs 19 (omega arith) ∙ m.left in
      let few = may.few in
      let b = one_more i c d c1 d1 lt m.brought s in
      from_straight w f NEXT_SECTOR (Gives (l.first + suc i) ∷ Gives (4096 * suc i) ∷ Gives (l.count - suc i) ∷ []) c1 d1 (Mid (suc i)) refl s.besides.idle
      (λ n. (
        (omega arith, (omega arith, (omega arith, tt))),
        record {
          most = lt;
          sector = refl;
          frame = refl;
          left = refl;
          others = λ r lr n16 n18 n19.
              put_other (put (put c1.regs 16 (l.first + suc i)) 18 (4096 * suc i)) 19 (l.count - suc i) r n19 ∙ put_other (put c1.regs 16 (l.first + suc i)) 18 (4096 * suc i) r n18 ∙ put_other c1.regs 16 (l.first + suc i) r n16
              ∙ s.regs r lr ∙ m.others r lr n16 n18 n19;
          brought = record { words = b.words; memory = b.memory; sectors = b.sectors; commands = b.commands; besides = record { special = b.besides.special; hi = b.besides.hi; lo = b.besides.lo; log = b.besides.log; input = b.besides.input; idle = b.besides.idle } };
        },
      )))))

  steps_left : (a i : ℕ) → i < l.count → a + a * (l.count - suc i) ≤ a * (l.count - i)
  steps_left a i lt =
      let e : suc (l.count - suc i) ≡ l.count - i = omega arith in
      let m = mul-suc a (l.count - suc i) in
      subst (λ k. a + a * (l.count - suc i) ≤ a * k) e (omega (arith, m))

  -- behind the loop all are, and register 19 is 0
  record Came (c : Contents) (d : Behind) : Type 0 where
    left : c.regs 19 ≡ 0
    others : (r : ℕ) → 5 < r → r ≢ 16 → r ≢ 18 → r ≢ 19 → c.regs r ≡ c0.regs r
    brought : FramesBrought l l.count c0 d0 c d

  loops : (c : Contents) (d : Behind) → Mid 0 c d → From w (loop_code [] 19 load_sector_code) ((2704 + l.busy) * l.count + 1) c d Came
  loops c d m =
      let e : l.count - 0 ≡ l.count = omega arith in
      subst (λ k. From w (loop_code [] 19 load_sector_code) ((2704 + l.busy) * k + 1) c d Came) e
      (from_does w (loop_code [] 19 load_sector_code) ((2704 + l.busy) * (l.count - 0) + 1) c d (Mid 0) Came m
      (loop_goes w f load_sector_code 19 Mid (λ i. i < l.count) (λ i. (2704 + l.busy) * (l.count - i)) (λ i. 2702 + l.busy) suc Came (omega arith)
      (λ i c d m. m.brought.besides.idle)
      (λ i lt. let s = steps_left (2704 + l.busy) i lt in omega (arith, s))
      turn
      (λ i c d m z. let left = m.left in omega (arith, z))
      (λ i c d m z. let left = m.left in let most = m.most in let e : i ≡ l.count = omega (arith, z) in
      record { left = z; others = m.others; brought = subst (λ i. FramesBrought l i c0 d0 c d) e m.brought })
      0))

  clears : (c : Contents) (d : Behind) → Came c d → From w ZERO_REGISTERS 7 c d (IsRomLoaded l c0 d0)
  clears c d m = from_straight w f ZERO_REGISTERS (Gives 0 ∷ Gives 0 ∷ Gives 0 ∷ Gives 0 ∷ Gives 0 ∷ Gives 0 ∷ Gives 0 ∷ []) c d (IsRomLoaded l c0 d0) refl m.brought.besides.idle
      (λ n. (
        (refl, (refl, (refl, (refl, (refl, (refl, (refl, tt))))))),
        record {
          brought = record { words = m.brought.words; memory = m.brought.memory; sectors = m.brought.sectors; commands = m.brought.commands; besides = record { special = m.brought.besides.special; hi = m.brought.besides.hi; lo = m.brought.besides.lo; log = m.brought.besides.log; input = m.brought.besides.input; idle = m.brought.besides.idle } };
          regs = λ r n0 z.
              zeroed (put (put (put (put (put (put c.regs 1 0) 2 0) 3 0) 4 0) 5 0) 16 0) 18 r (λ n18.
              zeroed (put (put (put (put (put c.regs 1 0) 2 0) 3 0) 4 0) 5 0) 16 r (λ n16.
              zeroed (put (put (put (put c.regs 1 0) 2 0) 3 0) 4 0) 5 r (λ n5.
              zeroed (put (put (put c.regs 1 0) 2 0) 3 0) 4 r (λ n4.
              zeroed (put (put c.regs 1 0) 2 0) 3 r (λ n3.
              zeroed (put c.regs 1 0) 2 r (λ n2.
              zeroed c.regs 1 r (λ n1.
              ⊎_elim
              (λ e. ap c.regs e ∙ m.left)
              (λ n19. m.others r (omega arith) n16 n18 n19 ∙ z)
              (cases_eq r 19))))))));
        },
      ))

  begins : From w (set_boot_range_code l.first l.count) 4 c0 d0 (Mid 0)
  begins =
      let few = may.few in
      from_straight w f (set_boot_range_code l.first l.count) (Gives (l.first / 65536 * 2 ^ 16) ∷ Gives l.first ∷ Gives 0 ∷ Gives l.count ∷ []) c0 d0 (Mid 0) refl may.idle
      (λ n. (
        (refl, (const_is l.first, (refl, (ap (λ e. (0 + e) % 2 ^ 32) (small_is l.count few) ∙ omega arith, tt)))),
        record {
          most = omega arith;
          sector = omega arith;
          frame = refl;
          left = omega arith;
          others = λ r lr n16 n18 n19.
              put_other (put (put (put c0.regs 16 (l.first / 65536 * 2 ^ 16)) 16 l.first) 18 0) 19 l.count r n19 ∙ put_other (put (put c0.regs 16 (l.first / 65536 * 2 ^ 16)) 16 l.first) 18 0 r n18
              ∙ put_other (put c0.regs 16 (l.first / 65536 * 2 ^ 16)) 16 l.first r n16 ∙ put_other c0.regs 16 (l.first / 65536 * 2 ^ 16) r n16;
          brought = record {
            words = λ k i lt li. absurd (omega arith);
            memory = λ x from to. refl;
            sectors = λ x i. refl;
            commands = omega arith;
            besides = record { special = refl; hi = refl; lo = refl; log = refl; input = refl; idle = may.idle };
          };
        },
      ))

  pub load : From w (loading_code l.first l.count) (load_steps l) c0 d0 (IsRomLoaded l c0 d0)
  load =
      from_later w (loading_code l.first l.count) (4 + ((2704 + l.busy) * l.count + 1 + 7)) (load_steps l) c0 d0 _ _ (omega arith) (λ c d k. k)
      (from_then w (set_boot_range_code l.first l.count) (loop_code [] 19 load_sector_code ++ ZERO_REGISTERS) 4 ((2704 + l.busy) * l.count + 1 + 7) c0 d0 (Mid 0) _ begins
      (λ c1 d1 m. from_then w (loop_code [] 19 load_sector_code) ZERO_REGISTERS ((2704 + l.busy) * l.count + 1) 7 c1 d1 Came _ (loops c1 d1 m) clears))

pub loads : (w : World) → Sound w → RegistersStay → SwapsIn w → RomLoads w
loads w f spared swaps l c d may = load w f spared swaps l c d may

pub rom_runs : (w : World) → RunsCompose → CallsLead w → RomLoads w → RomRuns w
rom_runs w runs calls loads l n c d at may =
    let load = loading_code l.first l.count in
    let x = (loads l c d may).by n c d (runs.front w n load (J 0 ∷ []) at) (refl, refl) in
    let j = runs.back w n load (J 0 ∷ []) at in
    (x.0, x.1, x.2, runs.joined w (load_steps l) 1 (at_with n c d) (at_with (n + length load) x.0 x.1) (at_with 0 x.0 x.1) x.3 (calls.jumps (n + length load) 0 x.0 x.1 j.0 x.2.brought.besides.idle))
