-- One piece of vm_copy, and the loop.
use Rattle.std.proofs.Common.{◌≡◌, ◌≢◌, ℕ, ◌+◌, ◌-◌, ◌*◌, ◌/◌, ◌%◌, ◌^◌, ◌<◌, ◌≤◌, ◌⊎◌, true, false, nat_lt, List, [], ◌∷◌, ◌++◌, length, length-append, refl, sym, ap, ap₂, ◌∙◌, subst, ⊎_elim, inl, inr, arith, lt-ltb, le-ltb}
use Rattle.std.proofs.lemmas.Bool.{cond-true, cond-false}
use Rattle.mips_table.specs.declared.inst.Inst.{Inst}
use Rattle.mips_table.specs.declared.inst.Inst.TheVariants.{Srl, Addiu, Addu, Subu, Sltu, Sltiu, Beq}
use Rattle.mips_table.specs.Arith.{flag}
use Rattle.page_model.specs.Paging.{Pages, IsAccessible}
use Rattle.mips_table.specs.Device.{Idle}
use Rattle.mips_table.specs.Code.{Contents, with_reg, Behind, World, Does}
use Rattle.cvm_primitives.specs.Routines.{RoutineLaws}
use Rattle.masm.specs.Says.{Gives}
use Rattle.masm.specs.Blocks.{when_code, loop_code, back_code}
use Rattle.masm.specs.Laws.{From}
use Rattle.cvm_primitives.proofs.BlocksFromOneState.{from_straight, from_then, from_when, from_later, straight_then, does_from}
use Rattle.cvm_primitives.specs.Copy.{copied, Apart, least, piece, piece_count}
use Rattle.page_model.specs.TableLayout.{TableLayout, paged_view}
use Rattle.frame_table.specs.View.{Sited}
use Rattle.page_fault.specs.Asked.{PageBlock, fault_steps, idle_steps}
use Rattle.cvm_primitives.specs.View.{steps_of_page, PagesHeld, Marks, CopyGood, SharesFrame, FourOthers, EntryState}
use Rattle.cvm_primitives.proofs.PartStates.{PieceLaw}
use Rattle.masm.specs.Copy.{copy_code}
use Rattle.cvm_primitives.specs.Code.{to_end_code, least_code, piece_length_code, read_code, try_share_code, copy_words_of_piece_code, piece_code, page_in_both_code, locate_code}
use Rattle.cvm_primitives.proofs.SharedByRoutines.{flag_of, held_to}
use Rattle.cvm_primitives.proofs.OnePieceOfMany.{Fits, fits}
use Rattle.cvm_primitives.proofs.CopyLoop.{Agree, held_on, copies}
use Rattle.cvm_primitives.proofs.PagesBrought.{Looks, any_looks, Resident, resident_looks, brings, others_back}
use Rattle.cvm_primitives.proofs.WordsCopied.{words_from}
use Rattle.cvm_primitives.proofs.PageShared.{whole_from, paged}

module _ (w : World) (f : RoutineLaws w) where
  -- register 13 is v, and what is in hand stays
  pub record Measured (v : ℕ) (c0 : Contents) (d0 : Behind) (c : Contents) (d : Behind) : Type 0 where
    pub value : c.regs 13 ≡ v
    pub r26 : c.regs 26 ≡ c0.regs 26
    pub r27 : c.regs 27 ≡ c0.regs 27
    pub r14 : c.regs 14 ≡ c0.regs 14
    pub r28 : c.regs 28 ≡ c0.regs 28
    pub r29 : c.regs 29 ≡ c0.regs 29
    pub r30 : c.regs 30 ≡ c0.regs 30
    pub r31 : c.regs 31 ≡ c0.regs 31
    pub special : c.special ≡ c0.special
    pub memory : c.memory ≡ c0.memory
    pub disk : d ≡ d0

  least_from : (e v : ℕ) → e < 2 ^ 32 → (c0 : Contents) (d0 : Behind) (c : Contents) (d : Behind) → d0.pending ≡ Idle → Measured v c0 d0 c d → c.regs 8 ≡ e → From w (least_code 8) 3 c d (Measured (least e v) c0 d0)
  least_from e v small c0 d0 c d idle k at =
      let idle1 = ap (λ d. d.pending) k.disk ∙ idle in
      straight_then w f (Sltu 9 8 13 ∷ []) (when_code 9 (Addu 13 8 0 ∷ [])) (Gives (flag (nat_lt e v)) ∷ []) 2 c d (Measured (least e v) c0 d0) refl idle1 (λ n. (ap₂ (λ a b. flag (nat_lt a b)) at k.value, tt))
      (λ n. from_when w f 9 (Addu 13 8 0 ∷ []) 1 (with_reg c 9 (flag (nat_lt e v))) d (Measured (least e v) c0 d0) (omega arith) idle1
      (λ z. let lt : e < v = ⊎_elim (λ a. a.1) (λ a. absurd (z a.0)) (flag_of e v) in
      let is : least e v ≡ e = cond-true (nat_lt e v) e v (lt-ltb e v lt) in
      from_straight w f (Addu 13 8 0 ∷ []) (Gives (least e v) ∷ []) (with_reg c 9 (flag (nat_lt e v))) d (Measured (least e v) c0 d0) refl idle1
      (λ n. ((omega arith, tt), record { value = refl; r26 = k.r26; r27 = k.r27; r14 = k.r14; r28 = k.r28; r29 = k.r29; r30 = k.r30; r31 = k.r31; special = k.special; memory = k.memory; disk = k.disk })))
      (λ z. let le : v ≤ e = ⊎_elim (λ a. let a0 = a.0 in absurd (omega arith)) (λ a. a.1) (flag_of e v) in
      let is : least e v ≡ v = cond-false (nat_lt e v) e v (le-ltb e v le) in
      record { value = k.value ∙ sym is; r26 = k.r26; r27 = k.r27; r14 = k.r14; r28 = k.r28; r29 = k.r29; r30 = k.r30; r31 = k.r31; special = k.special; memory = k.memory; disk = k.disk }))

  length_from : (x y n : ℕ) (c : Contents) (d : Behind) → d.pending ≡ Idle → Marks x y n c → n < 2 ^ 32 → From w piece_length_code (5 + (3 + (4 + 3))) c d (Measured (piece x y n) c d)
  length_from x y n c d idle marks small =
      let from = marks.from in let to = marks.to in let left = marks.left in
      let e : ℕ = 1024 - x % 1024 in let e2 : ℕ = 1024 - y % 1024 in
      straight_then w f (Addu 13 14 0 ∷ to_end_code 26) (least_code 8 ++ (to_end_code 27 ++ least_code 8)) (Gives n ∷ Gives (x * 2 ^ 22 % 2 ^ 32) ∷ Gives (x % 1024) ∷ Gives 1024 ∷ Gives (1024 - x % 1024) ∷ []) (3 + (4 + 3)) c d (Measured (piece x y n) c d) refl idle
      (λ m. (omega arith, (ap (λ z. z * 2 ^ 22 % 2 ^ 32) from, (omega arith, (refl, (omega arith, tt))))))
      (λ m. from_then w f (least_code 8) (to_end_code 27 ++ least_code 8) 3 (4 + 3) (with_reg (with_reg (with_reg (with_reg (with_reg c 13 n) 8 (x * 2 ^ 22 % 2 ^ 32)) 8 (x % 1024)) 9 1024) 8 (1024 - x % 1024)) d (Measured (least (1024 - x % 1024) n) c d) (Measured (piece x y n) c d)
      (least_from (1024 - x % 1024) n (omega arith) c d (with_reg (with_reg (with_reg (with_reg (with_reg c 13 n) 8 (x * 2 ^ 22 % 2 ^ 32)) 8 (x % 1024)) 9 1024) 8 (1024 - x % 1024)) d idle (record { value = refl; r26 = refl; r27 = refl; r14 = refl; r28 = refl; r29 = refl; r30 = refl; r31 = refl; special = refl; memory = refl; disk = refl }) refl)
      (λ c1 d1 k. let r27 = k.r27 in let idle1 = ap (λ d. d.pending) k.disk ∙ idle in
      straight_then w f (to_end_code 27) (least_code 8) (Gives (y * 2 ^ 22 % 2 ^ 32) ∷ Gives (y % 1024) ∷ Gives 1024 ∷ Gives (1024 - y % 1024) ∷ []) 3 c1 d1 (Measured (piece x y n) c d) refl idle1
      (λ m. (ap (λ z. z * 2 ^ 22 % 2 ^ 32) (r27 ∙ to), (omega arith, (refl, (omega arith, tt)))))
      (λ m. least_from (1024 - y % 1024) (least (1024 - x % 1024) n) (omega arith) c d (with_reg (with_reg (with_reg (with_reg c1 8 (y * 2 ^ 22 % 2 ^ 32)) 8 (y % 1024)) 9 1024) 8 (1024 - y % 1024)) d1 idle
      (record { value = k.value; r26 = k.r26; r27 = k.r27; r14 = k.r14; r28 = k.r28; r29 = k.r29; r30 = k.r30; r31 = k.r31; special = k.special; memory = k.memory; disk = k.disk }) refl)))

-- what a piece leads to; after a whole page the target names the source's frame, unless that is a user frame that four other pages named before
abbrev pub Pieced : TableLayout → EntryState → Pages → (x y n l : ℕ) → Contents → Contents → Behind → Type 0
Pieced p g u x y n l c c' d' = PagesHeld p (copied u x y l) g c' d' × Marks (x + l) (y + l) (n - l) c' × (l ≡ 1024 → (SharesFrame p (x / 1024) (y / 1024) c'.memory) ⊎ (FourOthers p (x / 1024) (y / 1024) c.memory))

module _ (w : World) (f : RoutineLaws w) (p : TableLayout) (b : ℕ) (si : Sited p w) (page : PageBlock w p b) (cost X Y : ℕ) (R : Contents → Behind → Type 0) (looks : Looks w p page.code cost X Y R) (g : EntryState) where
  -- after the source's page was brought in
  record ReadIn (u : Pages) (x : ℕ) (c0 : Contents) (c : Contents) (d : Behind) : Type 0 where
    held : PagesHeld p u g c d
    pass : IsAccessible (paged_view p c.memory d.sectors) (x / 1024) false
    r13 : c.regs 13 ≡ c0.regs 13
    r26 : c.regs 26 ≡ c0.regs 26
    r27 : c.regs 27 ≡ c0.regs 27
    r14 : c.regs 14 ≡ c0.regs 14
    ready : R c d
    back : (y : ℕ) → FourOthers p (x / 1024) y c.memory → FourOthers p (x / 1024) y c0.memory

  read_from : (u : Pages) (x : ℕ) (c : Contents) (d : Behind) → PagesHeld p u g c d → c.regs 26 ≡ x → x < 1024 * p.layout.pages → u.live (x / 1024) ≡ true → x / 1024 ≡ X → R c d → From w (read_code page.code) (2 + cost) c d (ReadIn u x c)
  read_from u x c d h from lx ax ex r =
      straight_then w f (Srl 16 26 10 ∷ Addiu 15 0 0 ∷ []) page.code (Gives (x / 1024) ∷ Gives 0 ∷ []) cost c d (ReadIn u x c) refl h.idle (λ n. (ap (λ z. z / 2 ^ 10) from, (refl, tt)))
      (λ n. from_later w f page.code cost cost (with_reg (with_reg c 16 (x / 1024)) 15 0) d _ _ (omega arith)
      (λ c1 d1 kk. let k = kk.0 in record { held = k.held; ready = kk.1; pass = f.handled.passes p.layout (x / 1024) false _ _ k.brought.handled; back = λ y h. others_back w f p u g (x / 1024) y (with_reg (with_reg c 16 (x / 1024)) 15 0) d c1 d1 (omega arith) k h; r13 = k.keeps.r13; r26 = k.keeps.r26; r27 = k.keeps.r27; r14 = k.keeps.r14 })
      (brings w f p b si page cost X Y R looks g u (x / 1024) false (with_reg (with_reg c 16 (x / 1024)) 15 0) d (record { stands = h.stands; small = h.small; low = h.low; above = h.above; special = h.special; r28 = h.r28; r29 = h.r29; r30 = h.r30; r31 = h.r31; behind = h.behind; idle = h.idle }) (looks.same c _ d d refl refl r) (inl (ex, refl)) refl (omega arith) ax (λ e. refl) (λ e. absurd (cc))))

  -- in the middle of a piece of l words: all is shared, or the words are to be copied
  record Middle (u : Pages) (x y l : ℕ) (c0 : Contents) (c : Contents) (d : Behind) : Type 0 where
    r13 : c.regs 13 ≡ c0.regs 13
    r26 : c.regs 26 ≡ c0.regs 26
    r27 : c.regs 27 ≡ c0.regs 27
    r14 : c.regs 14 ≡ c0.regs 14
    out : ((c.regs 15 ≡ 0) × PagesHeld p (copied u x y l) g c d) ⊎ ((c.regs 15 ≡ 1) × (u1 : Pages) × PagesHeld p u1 g c d × IsAccessible (paged_view p c.memory d.sectors) (x / 1024) false × (u1.live (x / 1024) ≡ true) × (u1.live (y / 1024) ≡ true) × Agree p.layout (copied u1 x y l) (copied u x y l) × R c d)
    share : l ≡ 1024 → ((c.regs 15 ≡ 0) × SharesFrame p (x / 1024) (y / 1024) c.memory) ⊎ (FourOthers p (x / 1024) (y / 1024) c0.memory)

  record Ended (u : Pages) (x y l : ℕ) (c0 : Contents) (c : Contents) (d : Behind) : Type 0 where
    held : PagesHeld p (copied u x y l) g c d
    r13 : c.regs 13 ≡ c0.regs 13
    r26 : c.regs 26 ≡ c0.regs 26
    r27 : c.regs 27 ≡ c0.regs 27
    r14 : c.regs 14 ≡ c0.regs 14
    share : l ≡ 1024 → (SharesFrame p (x / 1024) (y / 1024) c.memory) ⊎ (FourOthers p (x / 1024) (y / 1024) c0.memory)

  same_agree : (v : Pages) → Agree p.layout v v
  same_agree v = record { live = λ q lq. refl; word = λ q i lq li. refl }

  module _ (u : Pages) (x y n l : ℕ) (good : CopyGood p.layout u x y n) (fit : Fits x y n l) (pos : 0 < n) (ex : x / 1024 ≡ X) (ey : y / 1024 ≡ Y) (wholes : l ≡ 1024 → (c : Contents) (d : Behind) → R c d) where
    lx : x < 1024 * p.layout.pages
    lx = let s = good.source in omega arith

    ly : y < 1024 * p.layout.pages
    ly = let s = good.target in omega arith

    ax : u.live (x / 1024) ≡ true
    ax = let e : x + 0 ≡ x = omega arith in ap (λ z. u.live (z / 1024)) (sym e) ∙ good.from 0 pos

    ay : u.live (y / 1024) ≡ true
    ay = let e : y + 0 ≡ y = omega arith in ap (λ z. u.live (z / 1024)) (sym e) ∙ good.to 0 pos

    apart : Apart x y l
    apart = let most = fit.most in ⊎_elim (λ h. inl (omega arith)) (λ h. inr (omega arith)) good.apart

    small_code : length (copy_words_of_piece_code p page.code) < 32768
    small_code =
        let short = page.short in
        let l1 = length-append (page_in_both_code page.code) ((Addu 8 26 0 ∷ locate_code p) ++ ((Addu 1 8 0 ∷ Addu 8 27 0 ∷ locate_code p) ++ ((Addu 2 8 0 ∷ Addu 3 13 0 ∷ []) ++ copy_code))) in
        let l2 = length-append page.code ((Addiu 9 16 0 ∷ Srl 16 26 10 ∷ Subu 15 16 9 ∷ Sltiu 15 15 1 ∷ []) ++ page.code) in
        omega arith

    whole_part : (c0 : Contents) (c : Contents) (d : Behind) → ReadIn u x c0 c d → c0.regs 13 ≡ l → c0.regs 26 ≡ x → c0.regs 27 ≡ y → From w ((Addiu 15 0 1 ∷ Addiu 8 13 64512 ∷ Sltiu 8 8 1 ∷ []) ++ when_code 8 (try_share_code p)) (3 + 88) c d (Middle u x y l c0)
    whole_part c0 c d k at from to =
        let some = fit.some in let s = fit.source in let t = fit.target in let r13 = k.r13 in
        straight_then w f (Addiu 15 0 1 ∷ Addiu 8 13 64512 ∷ Sltiu 8 8 1 ∷ []) (when_code 8 (try_share_code p)) (Gives 1 ∷ Gives ((l + 4294966272) % 2 ^ 32) ∷ Gives (flag (nat_lt ((l + 4294966272) % 2 ^ 32) 1)) ∷ []) 88 c d (Middle u x y l c0) refl k.held.idle
        (λ n. (refl, (omega arith, (refl, tt))))
        (λ n. let h1 : PagesHeld p u g (with_reg (with_reg (with_reg c 15 1) 8 ((l + 4294966272) % 2 ^ 32)) 8 (flag (nat_lt ((l + 4294966272) % 2 ^ 32) 1))) d = record { stands = k.held.stands; small = k.held.small; low = k.held.low; above = k.held.above; special = k.held.special; r28 = k.held.r28; r29 = k.held.r29; r30 = k.held.r30; r31 = k.held.r31; behind = k.held.behind; idle = k.held.idle } in
        from_when w f 8 (try_share_code p) 87 (with_reg (with_reg (with_reg c 15 1) 8 ((l + 4294966272) % 2 ^ 32)) 8 (flag (nat_lt ((l + 4294966272) % 2 ^ 32) 1))) d (Middle u x y l c0) (omega arith) k.held.idle
        (λ z. let whole : l ≡ 1024 = ⊎_elim (λ a. let a1 = a.1 in omega arith) (λ a. absurd (z a.0)) (flag_of ((l + 4294966272) % 2 ^ 32) 1) in
        let ne : x / 1024 ≢ y / 1024 = λ e. ⊎_elim (λ h. absurd (omega arith)) (λ h. absurd (omega arith)) apart in
        from_later w f (try_share_code p) 87 87 (with_reg (with_reg (with_reg c 15 1) 8 ((l + 4294966272) % 2 ^ 32)) 8 (flag (nat_lt ((l + 4294966272) % 2 ^ 32) 1))) d _ (Middle u x y l c0) (omega arith)
        (λ c1 d1 h. record {
          r13 = h.r13 ∙ k.r13;
          r26 = h.r26 ∙ k.r26;
          r27 = h.r27 ∙ k.r27;
          r14 = h.r14 ∙ k.r14;
          out = ⊎_elim (λ a. inl (a.0, subst (λ l. PagesHeld p (copied u x y l) g c1 d1) (sym whole) a.1)) (λ a. inr (a.0, paged u (y / 1024) a.1, a.2, a.3, ax, ay, subst (λ l. Agree p.layout (copied (paged u (y / 1024) a.1) x y l) (copied u x y l)) (sym whole) a.4, wholes whole c1 d1)) h.out;
          share = λ e. ⊎_elim (λ a. inl (a.0, a.2)) (λ a. inr (k.back (y / 1024) a.5)) h.out;
        })
        (whole_from w f p b si g u x y (omega arith) (omega arith) ne lx ly ax ay (with_reg (with_reg (with_reg c 15 1) 8 ((l + 4294966272) % 2 ^ 32)) 8 (flag (nat_lt ((l + 4294966272) % 2 ^ 32) 1))) d h1 k.pass (k.r26 ∙ from) (k.r27 ∙ to)))
        (λ z. record { r13 = k.r13; r26 = k.r26; r27 = k.r27; r14 = k.r14; out = inr (refl, u, h1, k.pass, ax, ay, same_agree (copied u x y l), looks.same c _ d d refl refl k.ready); share = λ e. ⊎_elim (λ a. let a0 = a.0 in absurd (omega arith)) (λ a. let a1 = a.1 in absurd (omega arith)) (flag_of ((l + 4294966272) % 2 ^ 32) 1) }))

    words_part : (c0 : Contents) (c : Contents) (d : Behind) → Middle u x y l c0 c d → c0.regs 13 ≡ l → c0.regs 26 ≡ x → c0.regs 27 ≡ y → From w (when_code 15 (copy_words_of_piece_code p page.code)) (2 + (cost + (4 + cost)) + (7 * l + 28) + 1) c d (Ended u x y l c0)
    words_part c0 c d k at from to =
        let some = fit.some in let s = fit.source in let t = fit.target in
        ⊎_elim
        (λ a. from_when w f 15 (copy_words_of_piece_code p page.code) (2 + (cost + (4 + cost)) + (7 * l + 28)) c d (Ended u x y l c0) small_code a.1.idle (λ z. absurd (z a.0)) (λ z. record { held = a.1; r13 = k.r13; r26 = k.r26; r27 = k.r27; r14 = k.r14; share = λ e. ⊎_elim (λ b. inl b.1) (λ b. inr b) (k.share e) }))
        (λ a. let a0 = a.0 in from_when w f 15 (copy_words_of_piece_code p page.code) (2 + (cost + (4 + cost)) + (7 * l + 28)) c d (Ended u x y l c0) small_code a.2.idle
        (λ z. from_later w f (copy_words_of_piece_code p page.code) (2 + (cost + (4 + cost)) + (7 * l + 28)) _ c d _ (Ended u x y l c0) (omega arith)
        (λ c1 d1 h. record { held = held_on p _ _ g c1 d1 a.6 h.held; r13 = h.r13 ∙ k.r13; r26 = h.r26 ∙ k.r26; r27 = h.r27 ∙ k.r27; r14 = h.r14 ∙ k.r14; share = λ e. ⊎_elim (λ b. let b0 = b.0 in absurd (omega arith)) (λ b. inr b) (k.share e) })
        (words_from w f p b si g a.1 x y l apart some s t lx ly a.4 a.5 page cost X Y R looks ex ey c d a.2 a.7 a.3 (k.r26 ∙ from) (k.r27 ∙ to) (k.r13 ∙ at)))
        (λ z. absurd (omega arith)))
        k.out

  -- a piece from one state: three looks at pages, and seven steps a word
  pub piece_shares : (u : Pages) (x y n l : ℕ) → l ≡ piece x y n → 0 < n → CopyGood p.layout u x y n → Fits x y n l → x / 1024 ≡ X → y / 1024 ≡ Y → (l ≡ 1024 → (c : Contents) (d : Behind) → R c d)
      → (c : Contents) (d : Behind) → PagesHeld p u g c d → R c d → Marks x y n c → From w (piece_code p page.code) (3 * cost + 7 * l + 146) c d (Pieced p g u x y n l c)
  piece_shares u x y n l is pos good fit ex ey wholes c d h r marks =
      let some = fit.some in let most = fit.most in let pages = si.pages in let gs = good.source in let gt = good.target in
      let from = marks.from in let to = marks.to in let left = marks.left in
      let l1 = lx u x y n l good fit pos ex ey wholes in let l2 = ly u x y n l good fit pos ex ey wholes in
      from_later w f (piece_code p page.code) (5 + (3 + (4 + 3)) + (2 + cost + (3 + 88 + (2 + (cost + (4 + cost)) + (7 * l + 28) + 1 + 3)))) _ c d _ _ (omega arith) (λ c d k. k)
      (from_then w f piece_length_code _ (5 + (3 + (4 + 3))) (2 + cost + (3 + 88 + (2 + (cost + (4 + cost)) + (7 * l + 28) + 1 + 3))) c d (Measured w f (piece x y n) c d) _
      (length_from w f x y n c d h.idle marks (omega arith))
      (λ c1 d1 k1. let h1 = held_to p u g c d c1 d1 h k1.memory k1.special k1.r28 k1.r29 k1.r30 k1.r31 k1.disk in
      from_then w f (read_code page.code) _ (2 + cost) (3 + 88 + (2 + (cost + (4 + cost)) + (7 * l + 28) + 1 + 3)) c1 d1 (ReadIn u x c1) _
      (read_from u x c1 d1 h1 (k1.r26 ∙ from) l1 (ax u x y n l good fit pos ex ey wholes) ex (looks.same c c1 d d1 k1.memory k1.disk r))
      (λ c2 d2 k2. from_then w f ((Addiu 15 0 1 ∷ Addiu 8 13 64512 ∷ Sltiu 8 8 1 ∷ []) ++ when_code 8 (try_share_code p)) (when_code 15 (copy_words_of_piece_code p page.code) ++ (Addu 26 26 13 ∷ Addu 27 27 13 ∷ Subu 14 14 13 ∷ [])) (3 + 88) (2 + (cost + (4 + cost)) + (7 * l + 28) + 1 + 3) c2 d2 (Middle u x y l c1) _
      (whole_part u x y n l good fit pos ex ey wholes c1 c2 d2 k2 (k1.value ∙ sym is) (k1.r26 ∙ from) (k1.r27 ∙ to))
      (λ c3 d3 k3. from_then w f (when_code 15 (copy_words_of_piece_code p page.code)) (Addu 26 26 13 ∷ Addu 27 27 13 ∷ Subu 14 14 13 ∷ []) (2 + (cost + (4 + cost)) + (7 * l + 28) + 1) 3 c3 d3 (Ended u x y l c1) _
      (words_part u x y n l good fit pos ex ey wholes c1 c3 d3 k3 (k1.value ∙ sym is) (k1.r26 ∙ from) (k1.r27 ∙ to))
      (λ c4 d4 k4. let v13 : c4.regs 13 ≡ l = k4.r13 ∙ k1.value ∙ sym is in let v26 : c4.regs 26 ≡ x = k4.r26 ∙ k1.r26 ∙ from in let v27 : c4.regs 27 ≡ y = k4.r27 ∙ k1.r27 ∙ to in let v28 : c4.regs 14 ≡ n = k4.r14 ∙ k1.r14 ∙ left in
      from_straight w f (Addu 26 26 13 ∷ Addu 27 27 13 ∷ Subu 14 14 13 ∷ []) (Gives (x + l) ∷ Gives (y + l) ∷ Gives (n - l) ∷ []) c4 d4 _ refl k4.held.idle
      (λ m. (
        (omega arith, (omega arith, (omega arith, tt))),
        (
          record { stands = k4.held.stands; small = k4.held.small; low = k4.held.low; above = k4.held.above; special = k4.held.special; r28 = k4.held.r28; r29 = k4.held.r29; r30 = k4.held.r30; r31 = k4.held.r31; behind = k4.held.behind; idle = k4.held.idle },
          record { from = refl; to = refl; left = refl },
          λ e. ⊎_elim (λ b. inl b) (λ b. inr (subst (FourOthers p (x / 1024) (y / 1024)) k1.memory b)) (k4.share e),
        ),
      )))))))

module _ (w : World) (f : RoutineLaws w) (p : TableLayout) (b : ℕ) (si : Sited p w) (page : PageBlock w p b) (g : EntryState) where
  -- from any state
  pub piece_any : (u : Pages) (x y n l : ℕ) → l ≡ piece x y n → 0 < n → CopyGood p.layout u x y n → Fits x y n l → (c : Contents) (d : Behind) → PagesHeld p u g c d → Marks x y n c
      → From w (piece_code p page.code) (3 * fault_steps b + 7 * l + 146) c d (Pieced p g u x y n l c)
  piece_any u x y n l is pos good fit c d h marks =
      piece_shares w f p b si page (fault_steps b) (x / 1024) (y / 1024) (λ c d. Unit {0}) (any_looks w f p b page (x / 1024) (y / 1024)) g u x y n l is pos good fit refl refl (λ e c d. tt) c d h tt marks

  -- between pages that pass already, where it isn't a whole page
  pub piece_resident : (u : Pages) (x y n l : ℕ) → l ≡ piece x y n → 0 < n → CopyGood p.layout u x y n → Fits x y n l → l < 1024 → (c : Contents) (d : Behind) → PagesHeld p u g c d → Resident p (x / 1024) (y / 1024) c d → Marks x y n c
      → From w (piece_code p page.code) (3 * idle_steps + 7 * l + 146) c d (Pieced p g u x y n l c)
  piece_resident u x y n l is pos good fit part c d h r marks =
      let s = good.source in let t = good.target in
      piece_shares w f p b si page idle_steps (x / 1024) (y / 1024) (Resident p (x / 1024) (y / 1024)) (resident_looks w f p b page (x / 1024) (y / 1024) (omega arith) (omega arith)) g u x y n l is pos good fit refl refl (λ e c d. absurd (omega arith)) c d h r marks

  -- the same within what its pages and words are worth
  pub piece_paid : (u : Pages) (x y n l : ℕ) → l ≡ piece x y n → 0 < n → CopyGood p.layout u x y n → Fits x y n l → (c : Contents) (d : Behind) → PagesHeld p u g c d → Marks x y n c
      → From w (piece_code p page.code) (3 * steps_of_page p.layout.pages b + 600 * l - 2) c d (Pieced p g u x y n l c)
  piece_paid u x y n l is pos good fit c d h marks =
      from_later w f (piece_code p page.code) (3 * (fault_steps b) + 7 * l + 146) _ c d _ _ (omega arith) (λ c' d' k. k) (piece_any u x y n l is pos good fit c d h marks)

  -- THE PIECE
  pub piece_law : PieceLaw w p b (piece_code p page.code) g
  piece_law u x y n pos good =
      let fit = fits x y n pos in
      let l : ℕ = piece x y n in
      does_from w f (piece_code p page.code) _ _ _ (λ c d a. from_later w f (piece_code p page.code) (3 * steps_of_page p.layout.pages b + 600 * piece x y n - 2) _ c d _ _ (omega arith) (λ c' d' k. (k.0, k.1)) (piece_paid u x y n (piece x y n) refl pos good fit c d a.0 a.1))

-- its code is short
pub piece_short : (w : World) (p : TableLayout) (b : ℕ) (page : PageBlock w p b) → length (piece_code p page.code) ≤ 9000
piece_short w p b page =
    let s = page.short in
    let l0 = length-append (read_code page.code) ((Addiu 15 0 1 ∷ Addiu 8 13 64512 ∷ Sltiu 8 8 1 ∷ []) ++ (when_code 8 (try_share_code p) ++ (when_code 15 (copy_words_of_piece_code p page.code) ++ (Addu 26 26 13 ∷ Addu 27 27 13 ∷ Subu 14 14 13 ∷ [])))) in
    let l1 = length-append (page_in_both_code page.code) ((Addu 8 26 0 ∷ locate_code p) ++ ((Addu 1 8 0 ∷ Addu 8 27 0 ∷ locate_code p) ++ ((Addu 2 8 0 ∷ Addu 3 13 0 ∷ []) ++ copy_code))) in
    let l2 = length-append page.code ((Addiu 9 16 0 ∷ Srl 16 26 10 ∷ Subu 15 16 9 ∷ Sltiu 15 15 1 ∷ []) ++ page.code) in
    let l3 = length-append (copy_words_of_piece_code p page.code) (Addu 26 26 13 ∷ Addu 27 27 13 ∷ Subu 14 14 13 ∷ []) in
    omega arith

between : (i j : Inst) (body rest : List Inst) → length ((i ∷ (body ++ j ∷ [])) ++ rest) ≡ length body + 2 + length rest
between i j body rest =
    let l0 = length-append (body ++ j ∷ []) rest in
    let l1 = length-append body (j ∷ []) in
    omega arith

loop_length : (r : ℕ) (body rest : List Inst) → length (loop_code [] r body ++ rest) ≡ length body + 2 + length rest
loop_length r body rest = between (Beq r 0 (length body + 1)) (back_code (0 + length body)) body rest

pub run_short : (w : World) (p : TableLayout) (b : ℕ) (page : PageBlock w p b) → length (loop_code [] 14 (piece_code p page.code) ++ (Addiu 2 0 1 ∷ [])) ≤ 10000
run_short w p b page = let s = piece_short w p b page in let l = loop_length 28 (piece_code p page.code) (Addiu 2 0 1 ∷ []) in omega arith

-- THE LOOP OF vm_copy, with the pieces' own code: within what its pieces and words are worth
pub copy_law : (w : World) → RoutineLaws w → (p : TableLayout) (b : ℕ) → Sited p w → (page : PageBlock w p b) → (g : EntryState) (v : Pages) (x y n : ℕ) → CopyGood p.layout v x y n
    → Does w (loop_code [] 14 (piece_code p page.code)) (3 * steps_of_page p.layout.pages b * piece_count x y n + 600 * n + 1) (λ c d. PagesHeld p v g c d × Marks x y n c) (PagesHeld p (copied v x y n) g)
copy_law w f p b si page g v x y n good = copies w f p b (piece_code p page.code) (let s = piece_short w p b page in omega arith) g (piece_law w f p b si page g) v x y n good
