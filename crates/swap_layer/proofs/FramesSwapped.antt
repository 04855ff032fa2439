-- A frame goes to a sector, and a sector to a frame.
use Rattle.std.proofs.Common.{◌≡◌, ℕ, ◌+◌, ◌*◌, ◌<◌, nat_eq, nat_lt, [], ◌∷◌, ◌++◌, refl, sym, ap, ◌∙◌, subst, inl, inr, arith, lt-ltb, le-ltb, eq-eqb, ne_eqb}
use Rattle.std.proofs.lemmas.Bool.{cond-true, cond-false}
use Rattle.mips_table.specs.declared.inst.Inst.TheVariants.{Sw}
use Rattle.mips_table.specs.Device.{Idle, BUFFER, SECTOR, COMMAND}
use Rattle.mips_table.specs.Code.{Contents, Behind, World, Sound, with_reg, put, buffer_of, filled}
use Rattle.mips_table.proofs.PutsChangeOneWord.{put_same, put_other}
use Rattle.masm.specs.Says.{Gives, WritesDisk}
use Rattle.masm.specs.Laws.{From}
use Rattle.masm.specs.Stays.{RegistersStay}
use Rattle.masm.specs.Wait.{Waited, TransfersRun}
use Rattle.masm.proofs.RulesForRoutines.{from_straight, from_then, from_later, straight_then}
use Rattle.masm.specs.Frames.{HasDisk, SwappedOut}
use Rattle.swap_layer.specs.Code.{move_words_code, name_sector_code, give_command_code, swap_out_code, read_sector_code, copy_to_frame_code, swap_in_code}
use Rattle.swap_layer.specs.declared.swap.TheConstants.{FROM_FRAME_TO_BUFFER, FROM_BUFFER, TO_FRAME}
use Rattle.swap_layer.specs.Laws.{WordsMoved, SectorFetched, MovesRun, SwapsOut, FetchesSector, FillsFrame, SwapsIn}
use Rattle.swap_layer.proofs.WordsOfTheBuffer.{in_buffer, elsewhere}

module _ (w : World) (f : Sound w) (spared : RegistersStay) (moves : MovesRun w) (transfers : TransfersRun w) where
  -- the buffer is written to the sector
  writes : (b : ℕ) → HasDisk w b → (s g : ℕ) (c0 : Contents) (d0 : Behind) (c : Contents) (d : Behind) → c.regs 21 ≡ s → s < w.count → d0.pending ≡ Idle
      → ((k : ℕ) → k < 1024 → c.memory (BUFFER + k) ≡ c0.memory (1024 * g + k)) → ((x : ℕ) → x < BUFFER → c.memory x ≡ c0.memory x) → ((x : ℕ) → 5 < x → c.regs x ≡ c0.regs x) → c.special ≡ c0.special → c.hi ≡ c0.hi → c.lo ≡ c0.lo → d ≡ d0
      → From w (name_sector_code 21 2 ++ give_command_code) (2 + (b + 5)) c d (SwappedOut s g c0 d0)
  writes b disk s g c0 d0 c d r21 lt idle0 words memory regs special hi lo same =
      let idle : d.pending ≡ Idle = ap (λ d. d.pending) same ∙ idle0 in
      let c1 : Contents = with_reg (record c { memory = put c.memory SECTOR s }) 5 2 in
      let named : c1.memory SECTOR ≡ s = put_same c.memory SECTOR s SECTOR refl in
      straight_then w f (name_sector_code 21 2) give_command_code (WritesDisk SECTOR s ∷ Gives 2 ∷ []) (b + 5) c d _ refl idle
      (λ n. ((refl, (refl, disk.system, idle), disk.free SECTOR (omega arith) (omega arith), r21), (refl, tt)))
      (λ n. from_later w give_command_code (w.busy d.commands + 5) (b + 5) c1 d _ _ (let h = disk.busy d.commands in omega arith)
      (λ c' d' k. record {
        sector = λ i li. ap (λ t. t.sectors s i) k.1 ∙ ap (λ h. h i) (cond-true (nat_eq s (c1.memory SECTOR)) (buffer_of c1.memory) (d.sectors s) (eq-eqb s _ (sym named)))
            ∙ cond-true (nat_lt i 1024) _ 0 (lt-ltb i 1024 li) ∙ put_other c.memory SECTOR s (BUFFER + i) (omega arith) ∙ words i li;
        sectors = λ x i ne. ap (λ t. t.sectors x i) k.1 ∙ ap (λ h. h i) (cond-false (nat_eq x (c1.memory SECTOR)) (buffer_of c1.memory) (d.sectors x) (ne_eqb x _ (λ e. ne (e ∙ named)))) ∙ ap (λ t. t.sectors x i) same;
        memory = λ x lx. ap (λ m. m x) k.0.words ∙ put_other c.memory SECTOR s x (omega arith) ∙ memory x lx;
        regs = λ x lx. k.0.regs x (omega arith) ∙ put_other c.regs 5 2 x (omega arith) ∙ regs x lx;
        commands = ap (λ t. t.commands) k.1 ∙ ap (λ t. t.commands + 1) same;
        besides = record { special = k.0.special ∙ special; hi = k.0.hi ∙ hi; lo = k.0.lo ∙ lo; log = ap (λ t. t.log) k.1 ∙ ap (λ t. t.log) same; input = ap (λ t. t.input) k.1 ∙ ap (λ t. t.input) same; idle = ap (λ t. t.pending) k.1 };
      })
      (transfers.write (Sw 5 0 0xf004) c1 d (record { stores = λ n. refl; system = disk.system; free = disk.free COMMAND (omega arith) (omega arith); idle = idle; sector = subst (λ x. x < w.count) (sym named) lt })))

  pub swaps_out : SwapsOut w
  swaps_out b disk s g c d r21 r18 below lt idle =
      let small = f.small in
      let c1 : Contents = with_reg (with_reg (with_reg c 1 (4 * (1024 * g))) 2 (4 * BUFFER)) 3 128 in
      from_later w swap_out_code (3 + (2689 + (2 + (b + 5)))) _ c d _ _ (omega arith) (λ c' d' k. k)
      (straight_then w f FROM_FRAME_TO_BUFFER _ (Gives (4 * (1024 * g)) ∷ Gives (4 * BUFFER) ∷ Gives 128 ∷ []) _ c d _ refl idle
      (λ n. (omega arith, (refl, (refl, tt))))
      (λ n. from_then w move_words_code _ 2689 _ _ d (WordsMoved (1024 * g) BUFFER c1 d) _
      (moves (1024 * g) BUFFER c1 d (record {
        from = refl;
        to = refl;
        count = refl;
        system = disk.system;
        source = inl below;
        target = inr refl;
        free = λ x le lx. disk.free x (omega arith) (omega arith);
        apart = inl (omega arith);
        idle = idle;
      }))
      (λ c2 d2 k. writes b disk s g c d c2 d2 (k.regs 21 (omega arith) ∙ r21) lt idle k.words (λ x lx. k.others x (inl lx))
      (λ x lx. k.regs x (omega arith) ∙ spared (λ r. nat_lt r 6) x (le-ltb x 6 lx) FROM_FRAME_TO_BUFFER (Gives (4 * (1024 * g)) ∷ Gives (4 * BUFFER) ∷ Gives 128 ∷ []) n c refl refl) k.special k.hi k.lo k.behind)))

  -- the sector comes into the buffer
  pub fetches : FetchesSector w
  fetches b s c d disk r16 lt idle =
      let c1 : Contents = with_reg (record c { memory = put c.memory SECTOR s }) 5 1 in
      let named : c1.memory SECTOR ≡ s = put_same c.memory SECTOR s SECTOR refl in
      from_later w read_sector_code (2 + ((b + 5) + 1)) _ c d _ _ (omega arith) (λ c' d' k. k)
      (straight_then w f (name_sector_code 16 1) (give_command_code ++ FROM_BUFFER) (WritesDisk SECTOR s ∷ Gives 1 ∷ []) _ c d _ refl idle
      (λ n. ((refl, (refl, disk.system, idle), disk.free SECTOR (omega arith) (omega arith), r16), (refl, tt)))
      (λ n. from_then w give_command_code FROM_BUFFER (b + 5) 1 c1 d (λ c' d'. Waited (filled c1.memory (d.sectors (c1.memory SECTOR))) c1 c' × (d' ≡ record d { pending = Idle; commands = d.commands + 1 })) _
      (from_later w give_command_code (w.busy d.commands + 5) (b + 5) c1 d _ _ (let h = disk.busy d.commands in omega arith) (λ c' d' k. k)
      (transfers.read (Sw 5 0 0xf004) c1 d (record { stores = λ n. refl; system = disk.system; free = disk.free COMMAND (omega arith) (omega arith); idle = idle; sector = subst (λ x. x < w.count) (sym named) lt })))
      (λ c2 d2 k. from_straight w f FROM_BUFFER (Gives (4 * BUFFER) ∷ []) c2 d2 _ refl (ap (λ t. t.pending) k.1)
      (λ n. (
        (refl, tt),
        record {
          from = refl;
          words = λ i li. ap (λ m. m (BUFFER + i)) k.0.words ∙ in_buffer (d.sectors (c1.memory SECTOR)) c1.memory i li ∙ ap (λ s. d.sectors s i) named;
          memory = λ x lx. ap (λ m. m x) k.0.words ∙ elsewhere (d.sectors (c1.memory SECTOR)) c1.memory x lx ∙ put_other c.memory SECTOR s x (omega arith);
          sectors = λ x i. ap (λ t. t.sectors x i) k.1;
          regs = λ x lx. put_other c2.regs 1 _ x (omega arith) ∙ k.0.regs x (omega arith) ∙ put_other c.regs 5 1 x (omega arith);
          commands = ap (λ t. t.commands) k.1;
          besides = record { special = k.0.special; hi = k.0.hi; lo = k.0.lo; log = ap (λ t. t.log) k.1; input = ap (λ t. t.input) k.1; idle = ap (λ t. t.pending) k.1 };
        },
      )))))

-- the words at the address in register 1 come into the frame
pub settles : (w : World) → Sound w → RegistersStay → MovesRun w → FillsFrame w
settles w f spared moves b a g c d disk r1 r18 frame source apart idle =
    let small = f.small in let below = frame.0 in
    let c1 : Contents = with_reg (with_reg c 2 (4 * (1024 * g))) 3 128 in
    straight_then w f TO_FRAME move_words_code (Gives (4 * (1024 * g)) ∷ Gives 128 ∷ []) 2689 c d _ refl idle
    (λ n. (omega arith, (refl, tt)))
    (λ n. from_later w move_words_code 2689 2689 c1 d _ _ (omega arith)
    (λ c' d' k. record {
      words = k.words;
      others = k.others;
      regs = λ x lx. k.regs x lx ∙ spared (λ r. nat_lt r 5) x (le-ltb x 5 lx) TO_FRAME (Gives (4 * (1024 * g)) ∷ Gives 128 ∷ []) n c refl refl;
      special = k.special;
      hi = k.hi;
      lo = k.lo;
      behind = k.behind;
    })
    (moves a (1024 * g) c1 d (record {
      from = r1;
      to = refl;
      count = refl;
      system = disk.system;
      source = source;
      target = inl frame.0;
      free = frame.1;
      apart = apart;
      idle = idle;
    })))

pub swaps_in : (w : World) → Sound w → FetchesSector w → FillsFrame w → SwapsIn w
swaps_in w f fetches settles b s g c d disk r16 r18 frame lt idle =
    let small = f.small in let below = frame.0 in
    from_later w swap_in_code (b + 8 + 2691) _ c d _ _ (omega arith) (λ c' d' k. k)
    (from_then w read_sector_code copy_to_frame_code (b + 8) 2691 c d (SectorFetched s c d) _ (fetches b s c d disk r16 lt idle)
    (λ c2 d2 h. from_later w copy_to_frame_code 2691 2691 c2 d2 _ _ (omega arith)
    (λ c' d' k. record {
      words = λ i li. k.words i li ∙ h.words i li;
      memory = λ x lx o. k.others x o ∙ h.memory x lx;
      sectors = λ x i. ap (λ t. t.sectors x i) k.behind ∙ h.sectors x i;
      regs = λ x lx. k.regs x (omega arith) ∙ h.regs x lx;
      commands = ap (λ t. t.commands) k.behind ∙ h.commands;
      besides = record { special = k.special ∙ h.besides.special; hi = k.hi ∙ h.besides.hi; lo = k.lo ∙ h.besides.lo; log = ap (λ t. t.log) k.behind ∙ h.besides.log; input = ap (λ t. t.input) k.behind ∙ h.besides.input; idle = ap (λ t. t.pending) k.behind ∙ h.besides.idle };
    })
    (settles b BUFFER g c2 d2 disk h.from (h.regs 18 (omega arith) ∙ r18) frame (inr refl) (inr (omega arith)) h.besides.idle)))
