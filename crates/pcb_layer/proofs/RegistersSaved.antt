-- Registers go to the save area and to a control block, and come back: by induction on their number.
use Rattle.std.proofs.Common.{◌≡◌, ◌≢◌, ℕ, zero, suc, ◌+◌, ◌*◌, ◌<◌, ◌≤◌, ◌⊎◌, None, nat_eq, [], ◌∷◌, refl, sym, ap, ◌∙◌, ⊎_elim, inl, inr, arith, ne_eqb}
use Rattle.std.proofs.lemmas.Bool.{cases_eq, cond-false}
use Rattle.mips_table.specs.declared.inst.Inst.TheVariants.{Lw, Sw}
use Rattle.mips_table.specs.Device.{Idle}
use Rattle.mips_table.specs.Code.{put, reg, put_reg, Contents, Behind, World, Sound}
use Rattle.mips_table.proofs.PutsChangeOneWord.{put_same, put_other}
use Rattle.mips_table.proofs.NumbersInHalves.{small_is}
use Rattle.masm.specs.Says.{Reads, Writes}
use Rattle.masm.specs.Laws.{From}
use Rattle.masm.proofs.RulesForRoutines.{from_straight, from_then, from_later}
use Rattle.pcb_layer.specs.Code.{saved_at, save_registers_code, load_registers_code, save_context_code}
use Rattle.pcb_layer.specs.Laws.{HasSaveArea, MaySave}

-- registers 1 to n are saved
pub record SavedTo (n : ℕ) (c0 : Contents) (d0 : Behind) (c : Contents) (d : Behind) : Type 0 where
  pub words : (r : ℕ) → 1 ≤ r → r ≤ n → c.memory (saved_at r) ≡ c0.regs r
  pub others : (x : ℕ) → (x < saved_at 1) ⊎ (saved_at n < x) → c.memory x ≡ c0.memory x
  pub regs : c.regs ≡ c0.regs
  pub special : c.special ≡ c0.special
  pub hi : c.hi ≡ c0.hi
  pub lo : c.lo ≡ c0.lo
  pub behind : d ≡ d0

-- registers 1 to n are loaded from behind word b
pub record LoadedTo (b n : ℕ) (c0 : Contents) (d0 : Behind) (c : Contents) (d : Behind) : Type 0 where
  pub regs : (r : ℕ) → 1 ≤ r → r ≤ n → c.regs r ≡ c0.memory (b + r)
  pub above : (r : ℕ) → n < r → c.regs r ≡ c0.regs r
  pub memory : c.memory ≡ c0.memory
  pub special : c.special ≡ c0.special
  pub hi : c.hi ≡ c0.hi
  pub lo : c.lo ≡ c0.lo
  pub behind : d ≡ d0

-- the saved registers 1 to n are copied behind word b
pub record CopiedTo (b n : ℕ) (c0 : Contents) (d0 : Behind) (c : Contents) (d : Behind) : Type 0 where
  pub words : (r : ℕ) → 1 ≤ r → r ≤ n → c.memory (b + r) ≡ c0.memory (saved_at r)
  pub others : (x : ℕ) → (x ≤ b) ⊎ (b + n < x) → c.memory x ≡ c0.memory x
  pub regs : (r : ℕ) → r ≢ 1 → c.regs r ≡ c0.regs r
  pub special : c.special ≡ c0.special
  pub hi : c.hi ≡ c0.hi
  pub lo : c.lo ≡ c0.lo
  pub behind : d ≡ d0

module _ (w : World) (f : Sound w) where
  pub saves : (n : ℕ) → n ≤ 31 → HasSaveArea w → MaySave w → (c : Contents) (d : Behind) → d.pending ≡ Idle → From w (save_registers_code n) n c d (SavedTo n c d)
  saves zero le area may c d idle = from_straight w f [] [] c d _ refl idle (λ m. (tt, record { words = λ r lo hi. absurd (omega arith); others = λ x o. refl; regs = refl; special = refl; hi = refl; lo = refl; behind = refl }))
  saves (suc n) le area may c d idle =
      from_later w (save_registers_code (suc n)) (n + 1) (suc n) c d _ _ (omega arith) (λ c d k. k)
      (from_then w (save_registers_code n) (Sw (n + 1) 0 (4 * saved_at (n + 1)) ∷ []) n 1 c d (SavedTo n c d) (SavedTo (suc n) c d) (saves n (omega arith) area may c d idle)
      (λ c1 d1 k.
      let small = f.small in
      let e4 = small_is (4 * saved_at (n + 1)) (omega arith) in
      let value : reg c1.regs (n + 1) ≡ c.regs (n + 1) = cond-false (nat_eq (n + 1) 0) 0 (c1.regs (n + 1)) (ne_eqb (n + 1) 0 (omega arith)) ∙ ap (λ g. g (n + 1)) k.regs in
      from_straight w f (Sw (n + 1) 0 (4 * saved_at (n + 1)) ∷ []) (Writes (saved_at (n + 1)) (c.regs (n + 1)) ∷ []) c1 d1 _ refl (ap (λ d. d.pending) k.behind ∙ idle)
      (λ m. (
        ((omega arith, omega arith, may (n + 1) (omega arith, omega arith), value), tt),
        record {
          words = λ r lo hi. ⊎_elim
              (λ e. put_same c1.memory _ _ _ (omega arith) ∙ ap c.regs (sym e))
              (λ ne. put_other c1.memory _ _ _ (omega arith) ∙ k.words r lo (omega arith))
              (cases_eq r (n + 1));
          others = λ x o. put_other c1.memory _ _ x (⊎_elim (λ h. omega arith) (λ h. omega arith) o) ∙ k.others x (⊎_elim (λ h. inl h) (λ h. inr (omega arith)) o);
          regs = k.regs;
          special = k.special;
          hi = k.hi;
          lo = k.lo;
          behind = k.behind;
        },
      ))))

  pub loads : (base offset a b n : ℕ) → n ≤ 31 → a + offset ≡ b → offset ≤ 8000 → b + 32 ≤ w.words → (c : Contents) (d : Behind) → ((g : ℕ → ℕ) → g 31 ≡ c.regs 31 → reg g base ≡ 4 * a) → d.pending ≡ Idle → From w (load_registers_code base offset n) n c d (LoadedTo b n c d)
  loads base offset a b zero le is low area c d stays idle = from_straight w f [] [] c d _ refl idle (λ m. (tt, record { regs = λ r lo hi. absurd (omega arith); above = λ r lt. refl; memory = refl; special = refl; hi = refl; lo = refl; behind = refl }))
  loads base offset a b (suc n) le is low area c d stays idle =
      from_later w (load_registers_code base offset (suc n)) (n + 1) (suc n) c d _ _ (omega arith) (λ c d k. k)
      (from_then w (load_registers_code base offset n) (Lw (n + 1) base (4 * (offset + (n + 1))) ∷ []) n 1 c d (LoadedTo b n c d) (LoadedTo b (suc n) c d) (loads base offset a b n (omega arith) is low area c d stays idle)
      (λ c1 d1 k.
      let small = f.small in
      let e4 = small_is (4 * (offset + (n + 1))) (omega arith) in
      let at = stays c1.regs (k.above 31 (omega arith)) in
      let v = c.memory (b + (n + 1)) in
      let wrote : (x : ℕ) → put_reg c1.regs (n + 1) v x ≡ put c1.regs (n + 1) v x = λ x. ap (λ g. g x) (cond-false (nat_eq (n + 1) 0) c1.regs (put c1.regs (n + 1) v) (ne_eqb (n + 1) 0 (omega arith))) in
      from_straight w f (Lw (n + 1) base (4 * (offset + (n + 1))) ∷ []) (Reads (b + (n + 1)) v ∷ []) c1 d1 _ refl (ap (λ d. d.pending) k.behind ∙ idle)
      (λ m. (
        ((omega arith, omega arith, ap (λ g. g (b + (n + 1))) k.memory), tt),
        record {
          regs = λ r lo hi. ⊎_elim
              (λ e. wrote r ∙ put_same c1.regs _ _ r e ∙ ap (λ r. c.memory (b + r)) (sym e))
              (λ ne. wrote r ∙ put_other c1.regs _ _ r ne ∙ k.regs r lo (omega arith))
              (cases_eq r (n + 1));
          above = λ r lt. wrote r ∙ put_other c1.regs _ _ r (omega arith) ∙ k.above r (omega arith);
          memory = k.memory;
          special = k.special;
          hi = k.hi;
          lo = k.lo;
          behind = k.behind;
        },
      ))))

  pub copies : (b n : ℕ) → n ≤ 31 → saved_at 32 ≤ b → b + 32 ≤ w.words → ((k : ℕ) → k < 35 → w.kept (b + k) ≡ None) → (c : Contents) (d : Behind) → c.regs 31 ≡ 4 * b → d.pending ≡ Idle → From w (save_context_code n) (2 * n) c d (CopiedTo b n c d)
  copies b zero le low area free c d at idle = from_straight w f [] [] c d _ refl idle (λ m. (tt, record { words = λ r lo hi. absurd (omega arith); others = λ x o. refl; regs = λ r ne. refl; special = refl; hi = refl; lo = refl; behind = refl }))
  copies b (suc n) le low area free c d at idle =
      from_later w (save_context_code (suc n)) (2 * n + 2) (2 * suc n) c d _ _ (omega arith) (λ c d k. k)
      (from_then w (save_context_code n) (Lw 1 0 (4 * saved_at (n + 1)) ∷ Sw 1 31 (4 * (n + 1)) ∷ []) (2 * n) 2 c d (CopiedTo b n c d) (CopiedTo b (suc n) c d) (copies b n (omega arith) low area free c d at idle)
      (λ c1 d1 k.
      let small = f.small in
      let e4 = small_is (4 * saved_at (n + 1)) (omega arith) in
      let e5 = small_is (4 * (n + 1)) (omega arith) in
      let base = k.regs 31 (omega arith) ∙ at in
      let v = c.memory (saved_at (n + 1)) in
      from_straight w f (Lw 1 0 (4 * saved_at (n + 1)) ∷ Sw 1 31 (4 * (n + 1)) ∷ []) (Reads (saved_at (n + 1)) v ∷ Writes (b + (n + 1)) v ∷ []) c1 d1 _ refl (ap (λ d. d.pending) k.behind ∙ idle)
      (λ m. (
        ((omega arith, omega arith, k.others (saved_at (n + 1)) (inl (omega arith))), ((omega arith, omega arith, free (n + 1) (omega arith), refl), tt)),
        record {
          words = λ r lo hi. ⊎_elim
              (λ e. put_same c1.memory _ _ _ (omega arith) ∙ ap (λ r. c.memory (saved_at r)) (sym e))
              (λ ne. put_other c1.memory _ _ _ (omega arith) ∙ k.words r lo (omega arith))
              (cases_eq r (n + 1));
          others = λ x o. put_other c1.memory _ _ x (⊎_elim (λ h. omega arith) (λ h. omega arith) o) ∙ k.others x (⊎_elim (λ h. inl h) (λ h. inr (omega arith)) o);
          regs = λ r ne. put_other c1.regs 1 v r ne ∙ k.regs r ne;
          special = k.special;
          hi = k.hi;
          lo = k.lo;
          behind = k.behind;
        },
      ))))
