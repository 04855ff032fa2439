-- Both pages are in, and the words of a piece are copied.
use Rattle.std.proofs.Common.{◌≡◌, ◌≢◌, ℕ, ◌+◌, ◌-◌, ◌*◌, ◌/◌, ◌%◌, ◌^◌, ◌<◌, ◌≤◌, ◌⊎◌, true, false, [], ◌∷◌, ◌++◌, refl, sym, ap, ap₂, ◌∙◌, subst, ⊎_elim, inl, inr, arith}
use Rattle.std.proofs.lemmas.Bool.{cases_eq, cases_lt}
use Rattle.mips_table.specs.declared.inst.Inst.TheVariants.{Addu}
use Rattle.page_model.specs.Paging.{IsUserFrame, IsFrame, MapsTo, Pages, PagingInvariant, IsAccessible}
use Rattle.cvm_primitives.proofs.BlocksFromOneState.{names_own}
use Rattle.cvm_primitives.proofs.BlocksFromOneState.{user_or_zero}
use Rattle.mips_table.specs.Code.{Contents, with_reg, Behind, World}
use Rattle.cvm_primitives.specs.Routines.{RoutineLaws}
use Rattle.masm.specs.Says.{Gives}
use Rattle.masm.specs.Laws.{From}
use Rattle.cvm_primitives.proofs.BlocksFromOneState.{from_then, from_later, straight_then}
use Rattle.cvm_primitives.specs.Copy.{copied, Apart}
use Rattle.page_model.specs.TableLayout.{TableLayout, count_at, slot_at, paged_view}
use Rattle.layer_map.specs.Map.{hand_at}
use Rattle.frame_table.specs.View.{Sited}
use Rattle.page_fault.specs.Asked.{PageBlock}
use Rattle.cvm_primitives.specs.View.{PagesHeld, EntryState, BehindStays}
use Rattle.cvm_primitives.proofs.PartStates.{Keeps, BothIn, Located}
use Rattle.masm.specs.Copy.{copy_code}
use Rattle.cvm_primitives.specs.Code.{page_in_both_code, locate_code, copy_words_of_piece_code}
use Rattle.cvm_primitives.proofs.SharedByRoutines.{kept_on}
use Rattle.cvm_primitives.proofs.CopyLoop.{word_before, word_in, word_past}
use Rattle.cvm_primitives.proofs.WordsMoved.{moves, locate_from}
use Rattle.cvm_primitives.proofs.PagesBrought.{Looks, both_from}

module _ (w : World) (f : RoutineLaws w) (p : TableLayout) (b : ℕ) (si : Sited p w) (g : EntryState) (u : Pages) (x y l : ℕ) (apart : Apart x y l) (some : 0 < l) (source : x % 1024 + l ≤ 1024) (target : y % 1024 + l ≤ 1024) (lx : x < 1024 * p.layout.pages) (ly : y < 1024 * p.layout.pages) (ax : u.live (x / 1024) ≡ true) (ay : u.live (y / 1024) ≡ true) where
  -- in the state m, with both pages in
  module _ (m : ℕ → ℕ) (s : ℕ → ℕ → ℕ) (st : PagingInvariant p.layout u (paged_view p m s)) (px : IsAccessible (paged_view p m s) (x / 1024) false) (py : IsAccessible (paged_view p m s) (y / 1024) true) where
    nx : MapsTo (m (p.tables + x / 1024)) (m (p.tables + x / 1024) / 4096)
    nx = names_own (m (p.tables + x / 1024)) px.valid

    ny : MapsTo (m (p.tables + y / 1024)) (m (p.tables + y / 1024) / 4096)
    ny = names_own (m (p.tables + y / 1024)) py.valid

    pub frame_x : IsFrame p.layout (m (p.tables + x / 1024) / 4096)
    frame_x = st.named (x / 1024) (m (p.tables + x / 1024) / 4096) (omega arith) nx

    pub user_y : IsUserFrame p.layout (m (p.tables + y / 1024) / 4096)
    user_y = ⊎_elim (λ z. absurd (py.unprotected refl (st.shared (y / 1024) (m (p.tables + y / 1024) / 4096) (omega arith) ny (inl z)))) (λ u. u) (user_or_zero p.layout (m (p.tables + y / 1024) / 4096) (st.named (y / 1024) (m (p.tables + y / 1024) / 4096) (omega arith) ny))

    -- the frames are apart, or the page is one
    pub frames_apart : x / 1024 ≢ y / 1024 → m (p.tables + x / 1024) / 4096 ≢ m (p.tables + y / 1024) / 4096
    frames_apart ne e =
        let n2 : MapsTo (m (p.tables + x / 1024)) (m (p.tables + y / 1024) / 4096) = subst (MapsTo (m (p.tables + x / 1024))) e nx in
        py.unprotected refl (st.shared (y / 1024) (m (p.tables + y / 1024) / 4096) (omega arith) ny (inr (f.counts.two (paged_view p m s).entry (m (p.tables + y / 1024) / 4096) (x / 1024) (y / 1024) p.layout.pages (omega arith) (omega arith) ne n2 ny)))

    pub words_apart : Apart (1024 * (m (p.tables + x / 1024) / 4096) + x % 1024) (1024 * (m (p.tables + y / 1024) / 4096) + y % 1024) l
    words_apart = ⊎_elim
        (λ e. let same : m (p.tables + x / 1024) / 4096 ≡ m (p.tables + y / 1024) / 4096 = ap (λ q. m (p.tables + q) / 4096) e in ⊎_elim (λ h. inl (omega arith)) (λ h. inr (omega arith)) apart)
        (λ ne. let d = frames_apart ne in ⊎_elim (λ h. inl (omega arith)) (λ h. inr (omega arith)) (below_or _ _ d))
        (cases_eq (x / 1024) (y / 1024))
      where
        below_or : (a c : ℕ) → a ≢ c → (a < c) ⊎ (c < a)
        below_or a c ne = ⊎_elim (λ lt. inl lt) (λ le. inr (omega arith)) (cases_lt a c)

    from_x : (i : ℕ) → i < 1024 → m (1024 * (m (p.tables + x / 1024) / 4096) + i) ≡ u.word (x / 1024) i
    from_x i li = sym (f.shows.valid (paged_view p m s) (x / 1024) (m (p.tables + x / 1024) / 4096) i nx) ∙ st.pages (x / 1024) (omega arith) ax i li

    from_y : (i : ℕ) → i < 1024 → m (1024 * (m (p.tables + y / 1024) / 4096) + i) ≡ u.word (y / 1024) i
    from_y i li = sym (f.shows.valid (paged_view p m s) (y / 1024) (m (p.tables + y / 1024) / 4096) i ny) ∙ st.pages (y / 1024) (omega arith) ay i li

    -- the words are moved: the machine stands for the copy
    pub pasted : (m' : ℕ → ℕ) → ((k : ℕ) → k < l → m' (1024 * (m (p.tables + y / 1024) / 4096) + y % 1024 + k) ≡ m (1024 * (m (p.tables + x / 1024) / 4096) + x % 1024 + k))
        → ((z : ℕ) → (z < 1024 * (m (p.tables + y / 1024) / 4096) + y % 1024) ⊎ (1024 * (m (p.tables + y / 1024) / 4096) + y % 1024 + l ≤ z) → m' z ≡ m z) → PagingInvariant p.layout (copied u x y l) (paged_view p m' s)
    pasted m' words others =
        let low = si.low in let first = si.first in let second = si.second in let uy = user_y in let u0 = uy.0 in let u1 = uy.1 in
        f.stores p.layout u (copied u x y l) (y / 1024) (m (p.tables + y / 1024) / 4096) ((copied u x y l).word (y / 1024)) (paged_view p m s) (paged_view p m' s) st (omega arith) ay ny (py.unprotected refl)
        (record {
          live = ay;
          word = λ i li. refl;
          lives = λ q lq ne. refl;
          words = λ q lq ne i li. ⊎_elim (λ lt. word_before u x y l q i (omega arith)) (λ le. word_past u x y l q i (omega arith)) (cases_lt q (y / 1024));
        })
        (record {
          entries = λ q lq. others (p.tables + q) (inl (omega arith));
          counts = λ h uh. let h0 = uh.0 in let h1 = uh.1 in others (count_at p h) (inl (omega arith));
          slots = λ h uh k lk. let h0 = uh.0 in let h1 = uh.1 in let four = f.lists.few p.layout u (paged_view p m s) h st uh in others (slot_at p h k) (inl (omega arith));
          words = λ i li. ⊎_elim
              (λ lt. others _ (inl (omega arith)) ∙ from_y i li ∙ sym (word_before u x y l (y / 1024) i (omega arith)))
              (λ le. ⊎_elim
              (λ lt. let k : ℕ = i - y % 1024 in
              let at : 1024 * (m (p.tables + y / 1024) / 4096) + i ≡ 1024 * (m (p.tables + y / 1024) / 4096) + y % 1024 + (i - y % 1024) = omega arith in
              let at2 : 1024 * (m (p.tables + x / 1024) / 4096) + x % 1024 + (i - y % 1024) ≡ 1024 * (m (p.tables + x / 1024) / 4096) + (x % 1024 + (i - y % 1024)) = omega arith in
              let q1 : x / 1024 ≡ (x + (1024 * (y / 1024) + i - y)) / 1024 = omega arith in
              let i1 : x % 1024 + (i - y % 1024) ≡ (x + (1024 * (y / 1024) + i - y)) % 1024 = omega arith in
              ap m' at ∙ words (i - y % 1024) (omega arith) ∙ ap m at2 ∙ from_x (x % 1024 + (i - y % 1024)) (omega arith) ∙ ap₂ u.word q1 i1 ∙ sym (word_in u x y l (y / 1024) i (omega arith) (omega arith)))
              (λ ge. others _ (inr (omega arith)) ∙ from_y i li ∙ sym (word_past u x y l (y / 1024) i (omega arith)))
              (cases_lt i (y % 1024 + l)))
              (cases_lt i (y % 1024));
          frames = λ h uh ne i li. ⊎_elim (λ lt. others _ (inl (omega arith))) (λ le. others _ (inr (omega arith))) (cases_lt h (m (p.tables + y / 1024) / 4096));
          sectors = λ q lq i li. refl;
          hand = ap (λ h. p.layout.zeros + 1 + h) (others hand_at (inl (omega arith)));
        })

  -- the loop's numbers stay, and the words are copied
  pub record Pasted (c0 : Contents) (c : Contents) (d : Behind) : Type 0 where
    pub held : PagesHeld p (copied u x y l) g c d
    pub r13 : c.regs 13 ≡ c0.regs 13
    pub r26 : c.regs 26 ≡ c0.regs 26
    pub r27 : c.regs 27 ≡ c0.regs 27
    pub r14 : c.regs 14 ≡ c0.regs 14

  -- from both pages in
  paste_from : (c : Contents) (d : Behind) → PagesHeld p u g c d → IsAccessible (paged_view p c.memory d.sectors) (x / 1024) false → IsAccessible (paged_view p c.memory d.sectors) (y / 1024) true → c.regs 26 ≡ x → c.regs 27 ≡ y → c.regs 13 ≡ l
      → From w ((Addu 8 26 0 ∷ locate_code p) ++ ((Addu 1 8 0 ∷ Addu 8 27 0 ∷ locate_code p) ++ ((Addu 2 8 0 ∷ Addu 3 13 0 ∷ []) ++ copy_code))) (7 * l + 28) c d (Pasted c)
  paste_from c d h px py rx ry rl =
      let low = si.low in let first = si.first in let second = si.second in let third = si.third in let small = f.small in let pages = si.pages in
      let fx = frame_x c.memory d.sectors h.stands px py in let fx0 = fx.0 in let fx1 = fx.1 in
      let uy = user_y c.memory d.sectors h.stands px py in let uy0 = uy.0 in let uy1 = uy.1 in
      let ax1 : ℕ = 4 * (1024 * (c.memory (p.tables + x / 1024) / 4096) + x % 1024) in
      let ay1 : ℕ = 4 * (1024 * (c.memory (p.tables + y / 1024) / 4096) + y % 1024) in
      from_later w f _ (1 + (11 + (2 + (11 + (2 + (7 * l + 1)))))) (7 * l + 28) c d _ (Pasted c) (omega arith) (λ c' d' k. k)
      (straight_then w f (Addu 8 26 0 ∷ []) _ (Gives x ∷ []) (11 + (2 + (11 + (2 + (7 * l + 1))))) c d (Pasted c) refl h.idle (λ n. (omega arith, tt))
      (λ n. from_then w f (locate_code p) _ 11 (2 + (11 + (2 + (7 * l + 1)))) (with_reg c 8 x) d (Located p x (with_reg c 8 x) d) (Pasted c)
      (locate_from w f p b si x (with_reg c 8 x) d refl lx (h.small (x / 1024) (omega arith)) h.idle)
      (λ c1 d1 k1. let at1 = k1.address in let kept1 : Keeps c c1 = kept_on c (with_reg c 8 x) c1 (record { r13 = refl; r14 = refl; r15 = refl; r16 = refl; r26 = refl; r27 = refl; r28 = refl; r29 = refl; r30 = refl; r31 = refl; special = refl }) k1.keeps in let r27 = kept1.r27 in
      straight_then w f (Addu 1 8 0 ∷ Addu 8 27 0 ∷ []) _ (Gives ax1 ∷ Gives y ∷ []) (11 + (2 + (7 * l + 1))) c1 d1 (Pasted c) refl (ap (λ d. d.pending) k1.disk ∙ h.idle) (λ n. (omega arith, (omega arith, tt)))
      (λ n. let c2 : Contents = with_reg (with_reg c1 1 ax1) 8 y in
      from_then w f (locate_code p) _ 11 (2 + (7 * l + 1)) (with_reg (with_reg c1 1 ax1) 8 y) d1 (Located p y (with_reg (with_reg c1 1 ax1) 8 y) d1) (Pasted c)
      (locate_from w f p b si y (with_reg (with_reg c1 1 ax1) 8 y) d1 refl ly (subst (λ m. m (p.tables + y / 1024) < 2 ^ 32) (sym k1.memory) (h.small (y / 1024) (omega arith))) (ap (λ d. d.pending) k1.disk ∙ h.idle))
      (λ c3 d3 k3. let at3 = k3.address in let e3 : c1.memory (p.tables + y / 1024) ≡ c.memory (p.tables + y / 1024) = ap (λ m. m (p.tables + y / 1024)) k1.memory in
      let kept3 : Keeps c c3 = kept_on c c1 c3 kept1 (kept_on c1 (with_reg (with_reg c1 1 ax1) 8 y) c3 (record { r13 = refl; r14 = refl; r15 = refl; r16 = refl; r26 = refl; r27 = refl; r28 = refl; r29 = refl; r30 = refl; r31 = refl; special = refl }) k3.keeps) in let r13 = kept3.r13 in
      straight_then w f (Addu 2 8 0 ∷ Addu 3 13 0 ∷ []) copy_code (Gives ay1 ∷ Gives l ∷ []) (7 * l + 1) c3 d3 (Pasted c) refl (ap (λ d. d.pending) (k3.disk ∙ k1.disk) ∙ h.idle) (λ n. (omega arith, (omega arith, tt)))
      (λ n. let m : (z : ℕ) → c3.memory z ≡ c.memory z = λ z. ap (λ m. m z) (k3.memory ∙ k1.memory) in
      from_later w f copy_code (7 * l + 1) (7 * l + 1) (with_reg (with_reg c3 2 ay1) 3 l) d3 _ (Pasted c) (omega arith)
      (λ c4 d4 k. pasted_held c d h px py c4 d4 (kept_on c c3 c4 kept3 (kept_on c3 (with_reg (with_reg c3 2 ay1) 3 l) c4 (record { r13 = refl; r14 = refl; r15 = refl; r16 = refl; r26 = refl; r27 = refl; r28 = refl; r29 = refl; r30 = refl; r31 = refl; special = refl }) k.keeps)) (k.disk ∙ k3.disk ∙ k1.disk) (λ j lj. k.words j lj ∙ m _) (λ z o. k.others z o ∙ m z))
      (moves w f (1024 * (c.memory (p.tables + x / 1024) / 4096) + x % 1024) (1024 * (c.memory (p.tables + y / 1024) / 4096) + y % 1024) l (with_reg (with_reg c3 2 ay1) 3 l) d3
      (record { source = k3.r1; target = refl; count = refl; source_in = omega arith; target_in = omega arith; free = λ k lt. si.free _ (omega arith) (omega arith); apart = words_apart c.memory d.sectors h.stands px py; idle = ap (λ d. d.pending) (k3.disk ∙ k1.disk) ∙ h.idle }))))))))
    where
      pasted_held : (c : Contents) (d : Behind) → (h : PagesHeld p u g c d) → (px : IsAccessible (paged_view p c.memory d.sectors) (x / 1024) false) → (py : IsAccessible (paged_view p c.memory d.sectors) (y / 1024) true) → (c4 : Contents) (d4 : Behind) → Keeps c c4 → d4 ≡ d
          → ((k : ℕ) → k < l → c4.memory (1024 * (c.memory (p.tables + y / 1024) / 4096) + y % 1024 + k) ≡ c.memory (1024 * (c.memory (p.tables + x / 1024) / 4096) + x % 1024 + k))
          → ((z : ℕ) → (z < 1024 * (c.memory (p.tables + y / 1024) / 4096) + y % 1024) ⊎ (1024 * (c.memory (p.tables + y / 1024) / 4096) + y % 1024 + l ≤ z) → c4.memory z ≡ c.memory z) → Pasted c c4 d4
      pasted_held c d h px py c4 d4 k e words others =
          let low = si.low in let first = si.first in let second = si.second in
          let uy = user_y c.memory d.sectors h.stands px py in let u0 = uy.0 in
          record {
            held = record {
              stands = subst (λ t. PagingInvariant p.layout (copied u x y l) (paged_view p c4.memory t.sectors)) (sym e) (pasted c.memory d.sectors h.stands px py c4.memory words others);
              small = λ z lz. subst (λ v. v < 2 ^ 32) (sym (others (p.tables + z) (inl (omega arith)))) (h.small z lz);
              low = λ z lz ne. others z (inl (omega arith)) ∙ h.low z lz ne;
              above = λ z le lz. others z (inr (omega arith)) ∙ h.above z le lz;
              special = k.special ∙ h.special;
              r28 = k.r28 ∙ h.r28;
              r29 = k.r29 ∙ h.r29;
              r30 = k.r30 ∙ h.r30;
              r31 = k.r31 ∙ h.r31;
              behind = subst (BehindStays p g) (sym (e)) h.behind;
              idle = ap (λ d. d.pending) e ∙ h.idle;
            };
            r13 = k.r13;
            r26 = k.r26;
            r27 = k.r27;
            r14 = k.r14;
          }

  -- THE WORDS of a piece
  pub words_from : (page : PageBlock w p b) (n X Y : ℕ) (R : Contents → Behind → Type 0) → Looks w p page.code n X Y R → x / 1024 ≡ X → y / 1024 ≡ Y
      → (c : Contents) (d : Behind) → PagesHeld p u g c d → R c d → IsAccessible (paged_view p c.memory d.sectors) (x / 1024) false → c.regs 26 ≡ x → c.regs 27 ≡ y → c.regs 13 ≡ l
      → From w (copy_words_of_piece_code p page.code) (2 + (n + (4 + n)) + (7 * l + 28)) c d (Pasted c)
  words_from page n X Y R looks ex ey c d h r px rx ry rl =
      from_then w f (page_in_both_code page.code) _ (2 + (n + (4 + n))) (7 * l + 28) c d (BothIn p u g x y c) (Pasted c)
      (both_from w f p b si page n X Y R looks g u x y c d h rx ry lx ly ax ay px ex ey r)
      (λ c1 d1 k. from_later w f _ (7 * l + 28) (7 * l + 28) c1 d1 _ _ (omega arith) (λ c2 d2 t. record { held = t.held; r13 = t.r13 ∙ k.r13; r26 = t.r26 ∙ k.r26; r27 = t.r27 ∙ k.r27; r14 = t.r14 ∙ k.r14 })
      (paste_from c1 d1 k.held k.source k.target (k.r26 ∙ rx) (k.r27 ∙ ry) (k.r13 ∙ rl)))
