-- All interrupts but handled faults lead to the kernel: decided, passed over, the user is kept, and the arguments are set.
use Rattle.std.proofs.Common.{◌≡◌, ◌≢◌, ℕ, ◌+◌, ◌^◌, ◌<◌, ◌≤◌, true, List, [], ◌∷◌, ◌++◌, length, length-append, refl, sym, ap, ◌∙◌, subst, ⊎_elim, inl, arith}
use Rattle.mips_table.specs.declared.inst.Inst.{Inst}
use Rattle.mips_table.specs.declared.inst.Inst.TheVariants.{Mfc0, J, Eret}
use Rattle.mips_table.specs.Device.{Idle}
use Rattle.mips_table.specs.declared.special.TheConstants.{ECA, EPC, EDATA, PTL}
use Rattle.mips_table.specs.Code.{Contents, with_reg, Behind, World, Sound, CodeAt}
use Rattle.layer_map.specs.Map.{current_at}
use Rattle.masm.specs.Blocks.{when_code}
use Rattle.masm.specs.Says.{Reads, Asks}
use Rattle.masm.specs.Laws.{RunsCompose, JumpsLead, WhenRuns, From}
use Rattle.masm.proofs.RulesForRoutines.{from_straight, from_then, from_later, from_when, straight_then}
use Rattle.page_model.specs.TableLayout.{TableLayout}
use Rattle.pcb_layer.specs.Code.{restore_registers_code, save_user_code}
use Rattle.pcb_layer.specs.Laws.{HasSaveArea, MaySave, IsCurrent, MayKeep, InControlBlock, SavesRegisters, KeepsUser}
use Rattle.trap_entry.specs.Code.{save_and_classify_code, handle_page_fault_code, load_dispatch_arguments_code, enter_kernel_code, handler_code}
use Rattle.trap_entry.specs.Laws.{IsHandled, UserEntered, ResetEntered, EntersKernel, ResetEnters}
use Rattle.trap_entry.proofs.RunsJoined.{Run, block, join, later}
use Rattle.trap_entry.proofs.FaultDecided.{Ready, Decided, decision, negative, decides}

module _ (w : World) (f : Sound w) (runs : RunsCompose) (jumps : JumpsLead w) (saves : SavesRegisters w) (whens : (r : ℕ) (body : List Inst) → length body < 32768 → WhenRuns w r body) (system : w.system ≡ true) (area : HasSaveArea w) (may : MaySave w) where
  short : (p : TableLayout) (page : List Inst) → length page ≤ 1000 → length (handle_page_fault_code p page ++ Eret ∷ []) < 32768
  short p page le =
      let a = length-append page (restore_registers_code 31) in
      let c = length-append (page ++ restore_registers_code 31) (Eret ∷ []) in
      omega (arith, a, c, le)

  -- whatever the kernel's part comes to, the handler does where the fault isn't handled
  enters : (p : TableLayout) (page : List Inst) (n k : ℕ) (c0 : Contents) (d0 : Behind) (Q : Contents → Behind → Type 0) → length page ≤ 1000 → CodeAt w n (handler_code p page) → decision (c0.special ECA) (c0.special EDATA) (c0.special PTL) ≡ 0 → d0.pending ≡ Idle
      → ((c : Contents) (d : Behind) → Q c d → d.pending ≡ Idle) → ((c : Contents) → Ready c0 d0 c d0 → From w enter_kernel_code k c d0 Q) → Run w runs (44 + (1 + (k + 1))) n 0x4000 c0 d0 Q
  enters p page n k c0 d0 Q le at is idle idle_after kernel =
      let body = handle_page_fault_code p page ++ Eret ∷ [] in
      let behind = runs.back w n save_and_classify_code (when_code 8 body ++ (enter_kernel_code ++ J 0x4000 ∷ [])) at in
      let n1 = n + length save_and_classify_code in
      let fork = runs.front w n1 (when_code 8 body) (enter_kernel_code ++ J 0x4000 ∷ []) behind in
      let rest = runs.back w n1 (when_code 8 body) (enter_kernel_code ++ J 0x4000 ∷ []) behind in
      let n2 = n1 + length (when_code 8 body) in
      let jump = runs.back w n2 enter_kernel_code (J 0x4000 ∷ []) rest in
      join w runs 44 (1 + (k + 1)) n n1 0x4000 c0 d0 (Decided 0 c0 d0) Q
      (block w runs save_and_classify_code 44 n c0 d0 (Decided 0 c0 d0) (runs.front w n save_and_classify_code (when_code 8 body ++ (enter_kernel_code ++ J 0x4000 ∷ [])) at) (decides w f system saves area may c0 d0 idle 0 is))
      (λ c1 d1 s.
      join w runs 1 (k + 1) n1 n2 0x4000 c1 d1 (λ c d. (c ≡ c1) × (d ≡ d0)) Q
      (c1, d1, (refl, s.0.behind), (whens 8 body (short p page le)).skips n1 c1 d1 fork (ap (λ d. d.pending) s.0.behind ∙ idle) s.1)
      (λ c2 d2 e.
      join w runs k 1 n2 (n2 + length enter_kernel_code) 0x4000 c2 d2 Q Q
      (block w runs enter_kernel_code k n2 c2 d2 Q (runs.front w n2 enter_kernel_code (J 0x4000 ∷ []) rest) (subst (λ d. From w enter_kernel_code k c2 d Q) (sym e.1) (kernel c2 (subst (λ c. Ready c0 d0 c d0) (sym e.0) (subst (λ d. Ready c0 d0 c1 d) s.0.behind s.0)))))
      (λ c3 d3 q. (c3, d3, q, runs.settled w 1 0x4000 _ c3 d3 (idle_after c3 d3 q) (jumps.jumped (J 0x4000) (n2 + length enter_kernel_code) 0x4000 0 0 c3 d3 jump.0 refl)))))

  -- the arguments are set behind a kept user
  pub enters_kernel : KeepsUser w → (p : TableLayout) (page : List Inst) (u n : ℕ) (c0 : Contents) (d0 : Behind) → length page ≤ 1000 → MayKeep w u → IsCurrent w u c0 → CodeAt w n (handler_code p page) → c0.special ECA < 2 ^ 32 → c0.special ECA ≢ 0
      → (IsHandled (c0.special ECA) (c0.special EDATA) (c0.special PTL) → ⊥) → d0.pending ≡ Idle → Run w runs 124 n 0x4000 c0 d0 (UserEntered u c0 d0)
  enters_kernel keeps p page u n c0 d0 le free is at lt some nay idle =
      let some_user = is.some in let most = is.most in let inside = is.inside in
      later w runs (44 + (1 + (78 + 1))) 124 n 0x4000 0x4000 c0 d0 (UserEntered u c0 d0) (omega arith) refl
      (enters p page n 78 c0 d0 (UserEntered u c0 d0) le at (negative _ _ _ lt nay) idle (λ c d q. ap (λ d. d.pending) q.behind ∙ idle)
      (λ c s. from_later w enter_kernel_code (1 + ((73 + 1) + 3)) 78 c d0 _ _ (omega arith) (λ c d k. k)
      (straight_then w f (Mfc0 8 2 ∷ []) (when_code 8 save_user_code ++ load_dispatch_arguments_code) (Asks ∷ []) ((73 + 1) + 3) c d0 (UserEntered u c0 d0) refl idle
      (λ m. (system, tt))
      (λ m.
      let c1 = with_reg c 8 (c.special ECA) in
      let cause : c.special ECA ≡ c0.special ECA = ap (λ g. g ECA) s.special in
      let now : IsCurrent w u c1 = record { some = is.some; most = is.most; current = s.others current_at (inl (omega arith)) ∙ is.current; inside = is.inside } in
      from_then w (when_code 8 save_user_code) load_dispatch_arguments_code (73 + 1) 3 c1 d0 (InControlBlock u c1 d0) (UserEntered u c0 d0)
      (from_when w f 8 save_user_code 73 c1 d0 (InControlBlock u c1 d0) (omega arith) idle
      (λ z. keeps u c1 d0 free now idle)
      (λ z. absurd (some (sym cause ∙ z))))
      (λ c2 d2 k.
      let user : c2.memory current_at ≡ u = k.others current_at (inl (omega arith)) ∙ now.current in
      from_straight w f load_dispatch_arguments_code (Asks ∷ Asks ∷ Reads current_at u ∷ []) c2 d2 (UserEntered u c0 d0) refl (ap (λ d. d.pending) k.behind ∙ idle)
      (λ m. (
        (system, (system, ((refl, omega arith, user), tt))),
        record {
          cause = ap (λ g. g ECA) k.special ∙ cause;
          edata = ap (λ g. g EDATA) k.special ∙ ap (λ g. g EDATA) s.special;
          user = refl;
          pc = k.pc ∙ ap (λ g. g EPC) s.special;
          registers = λ r h. k.registers r h ∙ s.words r h;
          high = k.high ∙ s.hi;
          low = k.low ∙ s.lo;
          others = λ x o q. k.others x o ∙ s.others x q;
          special = k.special ∙ s.special;
          hi = k.hi ∙ s.hi;
          lo = k.lo ∙ s.lo;
          behind = k.behind;
        },
      )))))))

  pub enters_first : (p : TableLayout) (page : List Inst) (n : ℕ) (c0 : Contents) (d0 : Behind) → length page ≤ 1000 → CodeAt w n (handler_code p page) → c0.special ECA ≡ 0 → d0.pending ≡ Idle → Run w runs 51 n 0x4000 c0 d0 (ResetEntered c0 d0)
  enters_first p page n c0 d0 le at zero_cause idle =
      let a = area in
      later w runs (44 + (1 + (5 + 1))) 51 n 0x4000 0x4000 c0 d0 (ResetEntered c0 d0) (omega arith) refl
      (enters p page n 5 c0 d0 (ResetEntered c0 d0) le at (negative _ _ _ (omega arith) (λ h. ⊎_elim (λ z. omega arith) (λ z. omega arith) h.0)) idle (λ c d q. ap (λ d. d.pending) q.behind ∙ idle)
      (λ c s. from_later w enter_kernel_code (1 + ((0 + 1) + 3)) 5 c d0 _ _ (omega arith) (λ c d k. k)
      (straight_then w f (Mfc0 8 2 ∷ []) (when_code 8 save_user_code ++ load_dispatch_arguments_code) (Asks ∷ []) ((0 + 1) + 3) c d0 (ResetEntered c0 d0) refl idle
      (λ m. (system, tt))
      (λ m.
      let c1 = with_reg c 8 (c.special ECA) in
      let cause : c.special ECA ≡ 0 = ap (λ g. g ECA) s.special ∙ zero_cause in
      from_then w (when_code 8 save_user_code) load_dispatch_arguments_code (0 + 1) 3 c1 d0 (λ c2 d2. (c2 ≡ c1) × (d2 ≡ d0)) (ResetEntered c0 d0)
      (from_when w f 8 save_user_code 0 c1 d0 _ (omega arith) idle
      (λ z. absurd (z cause))
      (λ z. (refl, refl)))
      (λ c2 d2 k.
      let user : c2.memory current_at ≡ c0.memory current_at = ap (λ c. c.memory current_at) k.0 ∙ s.others current_at (inl (omega arith)) in
      from_straight w f load_dispatch_arguments_code (Asks ∷ Asks ∷ Reads current_at (c0.memory current_at) ∷ []) c2 d2 (ResetEntered c0 d0) refl (ap (λ d. d.pending) k.1 ∙ idle)
      (λ m. (
        (system, (system, ((refl, omega arith, user), tt))),
        record {
          cause = ap (λ c. c.special ECA) k.0 ∙ cause;
          edata = ap (λ c. c.special EDATA) k.0 ∙ ap (λ g. g EDATA) s.special;
          user = refl;
          others = λ x o. ap (λ c. c.memory x) k.0 ∙ s.others x o;
          special = ap (λ c. c.special) k.0 ∙ s.special;
          hi = ap (λ c. c.hi) k.0 ∙ s.hi;
          lo = ap (λ c. c.lo) k.0 ∙ s.lo;
          behind = k.1;
        },
      )))))))

pub entering : (w : World) → Sound w → RunsCompose → JumpsLead w → SavesRegisters w → KeepsUser w → ((r : ℕ) (body : List Inst) → length body < 32768 → WhenRuns w r body) → EntersKernel w
entering w f runs jumps saves keeps whens p page u n c d le may free is at lt some nay idle =
    let inside = is.inside in
    enters_kernel w f runs jumps saves whens free.system (omega arith) may keeps p page u n c d le free is at lt some nay idle

pub entering_first : (w : World) → Sound w → RunsCompose → JumpsLead w → SavesRegisters w → ((r : ℕ) (body : List Inst) → length body < 32768 → WhenRuns w r body) → ResetEnters w
entering_first w f runs jumps saves whens p page n c d le system area may at z idle = enters_first w f runs jumps saves whens system area may p page n c d le at z idle
