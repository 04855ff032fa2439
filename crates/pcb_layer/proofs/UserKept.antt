-- The current user's registers, epc, hi and lo go to its control block, and come from it.
use Rattle.std.proofs.Common.{◌≡◌, ◌≢◌, ℕ, ◌+◌, ◌-◌, ◌*◌, ◌<◌, ◌≤◌, ◌⊎◌, [], ◌∷◌, ◌++◌, None, refl, sym, ap, ◌∙◌, ⊎_elim, inl, inr, arith}
use Rattle.mips_table.specs.declared.special.TheConstants.{EPC}
use Rattle.mips_table.specs.Code.{put, with_reg, with_wide, Contents, World, Sound}
use Rattle.mips_table.proofs.PutsChangeOneWord.{put_same, put_other}
use Rattle.layer_map.specs.Map.{current_at, block_at}
use Rattle.masm.specs.Says.{Gives, Widens, Reads, Writes, Asks}
use Rattle.masm.proofs.RulesForRoutines.{from_straight, from_then, from_later, straight_then}
use Rattle.pcb_layer.specs.Code.{save_registers_code, restore_registers_code, find_control_block_code, save_context_code, save_user_code, load_registers_code, restore_user_code}
use Rattle.pcb_layer.specs.declared.blocks.TheConstants.{SAVE_SPECIAL, RESTORE_SPECIAL}
use Rattle.pcb_layer.specs.Laws.{Saved, Restored, IsBeside, InControlBlock, UserSaved, UserRestored, SavesRegisters, RestoresRegisters, KeepsUser, SavesUser, RestoresUser}
use Rattle.pcb_layer.proofs.RegistersSaved.{SavedTo, LoadedTo, CopiedTo, saves, loads, copies}

module _ (w : World) (f : Sound w) where
  pub saves_registers : SavesRegisters w
  saves_registers area may c d idle = from_later w (save_registers_code 31) 31 31 c d (SavedTo 31 c d) (Saved c d) (omega arith)
      (λ c' d' k. record { words = λ r is. k.words r is.0 is.1; others = k.others; regs = k.regs; special = k.special; hi = k.hi; lo = k.lo; behind = k.behind })
      (saves w f 31 (omega arith) area may c d idle)

  pub restores_registers : RestoresRegisters w
  restores_registers area c d idle = from_later w (restore_registers_code 31) 31 31 c d (LoadedTo 1030 31 c d) (Restored c d) (omega arith)
      (λ c' d' k. record { regs = λ r is. k.regs r is.0 is.1; memory = k.memory; special = k.special; hi = k.hi; lo = k.lo; behind = k.behind })
      (loads w f 0 1030 0 1030 31 (omega arith) refl (omega arith) (omega (arith, area)) c d (λ g e. refl) idle)

  -- the state in which the block's address is found
  found : ℕ → Contents → Contents
  found u c = with_reg (with_reg (with_reg (with_reg (with_reg c 31 u) 31 (u - 1)) 31 (256 * (u - 1))) 1 0xc000) 31 (4 * block_at u)

  stays : (u : ℕ) (c : Contents) (r : ℕ) → r ≢ 1 → r ≢ 31 → (found u c).regs r ≡ c.regs r
  unfolding found
  stays u c r n1 n31 =
      let a = put c.regs 31 u in
      let b = put a 31 (u - 1) in
      let e = put b 31 (256 * (u - 1)) in
      let g = put e 1 0xc000 in
      put_other g 31 (4 * block_at u) r n31 ∙ put_other e 1 0xc000 r n1 ∙ put_other b 31 (256 * (u - 1)) r n31 ∙ put_other a 31 (u - 1) r n31 ∙ put_other c.regs 31 u r n31

  pub keeps_user : KeepsUser w
  unfolding found
  keeps_user u c d may is idle =
      let small = f.small in let some = is.some in let most = is.most in let inside = is.inside in
      let e = is.current in
      from_later w save_user_code (5 + (62 + 6)) 73 c d _ _ (omega arith) (λ c d k. k)
      (straight_then w f find_control_block_code (save_context_code 31 ++ SAVE_SPECIAL) (Reads current_at u ∷ Gives (u - 1) ∷ Gives (256 * (u - 1)) ∷ Gives 0xc000 ∷ Gives (4 * block_at u) ∷ []) (62 + 6) c d _ refl idle
      (λ n. ((refl, omega arith, e), (omega arith, (omega arith, (refl, (omega arith, tt))))))
      (λ n. from_then w (save_context_code 31) SAVE_SPECIAL 62 6 (found u c) d (CopiedTo (block_at u) 31 (found u c) d) (InControlBlock u c d)
      (copies w f (block_at u) 31 (omega arith) (omega arith) (omega arith) may.free (found u c) d refl idle)
      (λ c1 d1 k.
      let base : c1.regs 31 ≡ 4 * block_at u = k.regs 31 (omega arith) in
      from_straight w f SAVE_SPECIAL (Asks ∷ Writes (block_at u) (c.special EPC) ∷ Gives c.hi ∷ Writes (block_at u + 33) c.hi ∷ Gives c.lo ∷ Writes (block_at u + 34) c.lo ∷ []) c1 d1 (InControlBlock u c d) refl (ap (λ d. d.pending) k.behind ∙ idle)
      (λ m.
      let m1 = put c1.memory (block_at u) (c.special EPC) in
      let m2 = put m1 (block_at u + 33) c.hi in (
        (may.system, ((omega arith, omega arith, free0 may.free, ap (λ g. g EPC) k.special), (k.hi, ((omega arith, omega arith, may.free 33 (omega arith), refl), (k.lo, ((omega arith, omega arith, may.free 34 (omega arith), refl), tt)))))),
        record {
          pc = put_other m2 (block_at u + 34) c.lo (block_at u) (omega arith) ∙ put_other m1 (block_at u + 33) c.hi (block_at u) (omega arith) ∙ put_same c1.memory (block_at u) (c.special EPC) (block_at u) refl;
          registers = λ r h. let h0 = h.0 in let h1 = h.1 in put_other m2 (block_at u + 34) c.lo (block_at u + r) (omega arith) ∙ put_other m1 (block_at u + 33) c.hi (block_at u + r) (omega arith) ∙ put_other c1.memory (block_at u) (c.special EPC) (block_at u + r) (omega arith) ∙ k.words r h.0 h.1;
          high = put_other m2 (block_at u + 34) c.lo (block_at u + 33) (omega arith) ∙ put_same m1 (block_at u + 33) c.hi (block_at u + 33) refl;
          low = put_same m2 (block_at u + 34) c.lo (block_at u + 34) refl;
          others = λ x o.
              let away : (x ≢ block_at u) × (x ≢ block_at u + 33) × (x ≢ block_at u + 34) × ((x ≤ block_at u) ⊎ (block_at u + 31 < x)) = beside u x o in
              put_other m2 (block_at u + 34) c.lo x away.2 ∙ put_other m1 (block_at u + 33) c.hi x away.1 ∙ put_other c1.memory (block_at u) (c.special EPC) x away.0 ∙ k.others x away.3;
          regs = λ r n1 n31. put_other (put (put c1.regs 1 (c1.special EPC)) 1 c.hi) 1 c.lo r n1 ∙ put_other (put c1.regs 1 (c1.special EPC)) 1 c.hi r n1 ∙ put_other c1.regs 1 (c1.special EPC) r n1 ∙ k.regs r n1 ∙ stays u c r n1 n31;
          special = k.special;
          hi = k.hi;
          lo = k.lo;
          behind = k.behind;
        },
      )))))
    where
      free0 : ((k : ℕ) → k < 35 → w.kept (block_at u + k) ≡ None) → w.kept (block_at u) ≡ None
      free0 h = let z : block_at u + 0 ≡ block_at u = omega arith in ap w.kept (sym z) ∙ h 0 (omega arith)

      beside : (u x : ℕ) → IsBeside u x → (x ≢ block_at u) × (x ≢ block_at u + 33) × (x ≢ block_at u + 34) × ((x ≤ block_at u) ⊎ (block_at u + 31 < x))
      beside u x o = ⊎_elim
          (λ h. (omega arith, omega arith, omega arith, inl (omega arith)))
          (λ o. ⊎_elim (λ h. (omega arith, omega arith, omega arith, inr (omega arith))) (λ h. (omega arith, omega arith, omega arith, inr (omega arith))) o)
          o

  pub restores_user : RestoresUser w
  unfolding found
  restores_user system u c d is idle =
      let small = f.small in let some = is.some in let most = is.most in let inside = is.inside in
      let e = is.current in
      let pc = c.memory (block_at u) in
      let hi = c.memory (block_at u + 33) in
      let lo = c.memory (block_at u + 34) in
      let c1 : Contents = record (with_wide (found u c) hi lo) { regs = (with_reg (with_reg (with_reg (found u c) 1 pc) 1 hi) 1 lo).regs; special = put c.special EPC pc } in
      from_later w restore_user_code (5 + (6 + 31)) 42 c d _ _ (omega arith) (λ c d k. k)
      (straight_then w f find_control_block_code (RESTORE_SPECIAL ++ load_registers_code 31 0 31) (Reads current_at u ∷ Gives (u - 1) ∷ Gives (256 * (u - 1)) ∷ Gives 0xc000 ∷ Gives (4 * block_at u) ∷ []) (6 + 31) c d _ refl idle
      (λ n. ((refl, omega arith, e), (omega arith, (omega arith, (refl, (omega arith, tt))))))
      (λ n. straight_then w f RESTORE_SPECIAL (load_registers_code 31 0 31) (Reads (block_at u) pc ∷ Asks ∷ Reads (block_at u + 33) hi ∷ Widens hi c.lo ∷ Reads (block_at u + 34) lo ∷ Widens hi lo ∷ []) 31 (found u c) d (UserRestored u c d) refl idle
      (λ m. ((omega arith, omega arith, refl), ((system, (λ z. omega arith), (λ z. omega arith)), ((omega arith, omega arith, refl), ((refl, refl), ((omega arith, omega arith, refl), ((refl, refl), tt)))))))
      (λ m. from_later w (load_registers_code 31 0 31) 31 31 c1 d (LoadedTo (block_at u) 31 c1 d) (UserRestored u c d) (omega arith)
      (λ c' d' k. record {
        pc = ap (λ g. g EPC) k.special ∙ put_same c.special EPC pc EPC refl;
        registers = λ r h. k.regs r h.0 h.1;
        high = k.hi;
        low = k.lo;
        special = λ j ne. ap (λ g. g j) k.special ∙ put_other c.special EPC pc j ne;
        memory = k.memory;
        behind = k.behind;
      })
      (loads w f 31 0 (block_at u) (block_at u) 31 (omega arith) (omega arith) (omega arith) (omega arith) c1 d (λ g z. z) idle))))

pub saves_user : (w : World) → SavesRegisters w → KeepsUser w → SavesUser w
saves_user w saving keeping may u c d free is idle =
    let some = is.some in let most = is.most in let inside = is.inside in
    from_later w (save_registers_code 31 ++ save_user_code) (31 + 73) 104 c d _ _ (omega arith) (λ c d k. k)
    (from_then w (save_registers_code 31) save_user_code 31 73 c d (Saved c d) (UserSaved u c d) (saving (omega arith) may c d idle)
    (λ c1 d1 s. from_later w save_user_code 73 73 c1 d1 (InControlBlock u c1 d1) (UserSaved u c d) (omega arith)
    (λ c' d' k. record {
      pc = k.pc ∙ ap (λ g. g EPC) s.special;
      registers = λ r h. k.registers r h ∙ s.words r h;
      high = k.high ∙ s.hi;
      low = k.low ∙ s.lo;
      others = λ x o p. k.others x o ∙ s.others x p;
      regs = λ r n1 n31. k.regs r n1 n31 ∙ ap (λ g. g r) s.regs;
      special = k.special ∙ s.special;
      hi = k.hi ∙ s.hi;
      lo = k.lo ∙ s.lo;
      behind = k.behind ∙ s.behind;
    })
    (keeping u c1 d1 free (record { some = is.some; most = is.most; current = s.others current_at (inl (omega arith)) ∙ is.current; inside = is.inside }) (ap (λ d. d.pending) s.behind ∙ idle))))
