-- vm_resize: pages are cut off, or added as pages of the zero frame.
use Rattle.std.proofs.Common.{◌≡◌, ◌≢◌, ℕ, suc, ◌+◌, ◌-◌, ◌*◌, ◌/◌, ◌%◌, ◌^◌, ◌<◌, ◌≤◌, ◌⊎◌, true, false, nat_lt, [], ◌∷◌, ◌++◌, None, refl, sym, ap, ap₂, ◌∙◌, subst, ⊎_elim, inl, inr, arith, lt-ltb, le-ltb}
use Rattle.std.proofs.lemmas.Bool.{cases_eq, cases_lt, cond-true, cond-false}
use Rattle.mips_table.specs.declared.inst.Inst.TheVariants.{Sll, Addiu, Addu, Subu, Sltu, Sltiu, Lw, Sw}
use Rattle.mips_table.specs.Arith.{flag}
use Rattle.page_model.specs.Paging.{PageLayout, MapsTo, Pages}
use Rattle.page_model.specs.Edits.{Retargeted, PageSet}
use Rattle.mips_table.specs.Code.{put, Contents, with_reg, Behind, World, Does}
use Rattle.mips_table.proofs.PutsChangeOneWord.{put_same, put_other}
use Rattle.mips_table.proofs.NumbersInHalves.{const_is, small_is}
use Rattle.cvm_primitives.specs.Routines.{RoutineLaws}
use Rattle.masm.specs.Says.{Gives, Reads, Writes}
use Rattle.masm.specs.Blocks.{load_immediate_code, when_code, loop_code}
use Rattle.masm.specs.Laws.{From}
use Rattle.cvm_primitives.proofs.BlocksFromOneState.{loop_pays}
use Rattle.cvm_primitives.proofs.BlocksFromOneState.{from_straight, from_then, from_when, from_later, straight_then, from_does, does_from}
use Rattle.cvm_primitives.specs.Copy.{pages_cut, grown, pages_after_resize}
use Rattle.page_model.specs.TableLayout.{TableLayout, count_at, slot_at, paged_view}
use Rattle.layer_map.specs.Map.{hand_at}
use Rattle.frame_table.specs.View.{Sited}
use Rattle.cvm_primitives.specs.View.{steps_of_page, PagesHeld, UsersIn, size_at, ResizeGood, Fresh, EntryState, entry_state, BehindStays}
use Rattle.cvm_primitives.proofs.PartStates.{DropDone}
use Rattle.masm.specs.Blocks.{load_immediate_code}
use Rattle.cvm_primitives.specs.Code.{drop_page_code, cut_body, grow_body, shrink_memory_code, grow_memory_code, first_page_code, find_size_code, vm_resize_code}
use Rattle.cvm_primitives.proofs.SharedByRoutines.{flag_of, edit_is, drop_asked, held_to}
use Rattle.cvm_primitives.proofs.FrameLists.{lists_none}
use Rattle.cvm_primitives.proofs.DroppedEntries.{drop_from}
use Rattle.cvm_primitives.proofs.ArgumentTests.{product_below, Based, base_from}
use Rattle.cvm_primitives.proofs.CopyLoop.{Agree, held_on}

-- one page more
pub before_is : (v : Pages) (q k x : ℕ) → x < q → ((pages_cut v q k).live x ≡ v.live x) × ((grown v q k).live x ≡ v.live x)
before_is v q k x lt = (cond-true _ (v.live x) _ (lt-ltb x q lt), cond-true _ (v.live x) _ (lt-ltb x q lt))

pub within_is : (v : Pages) (q k x : ℕ) → q ≤ x → x < q + k → ((pages_cut v q k).live x ≡ false) × ((grown v q k).live x ≡ true)
within_is v q k x le lt = (cond-false _ (v.live x) _ (le-ltb x q le) ∙ cond-true _ false (v.live x) (lt-ltb x (q + k) lt), cond-false _ (v.live x) _ (le-ltb x q le) ∙ cond-true _ true (v.live x) (lt-ltb x (q + k) lt))

pub past_is : (v : Pages) (q k x : ℕ) → q + k ≤ x → ((pages_cut v q k).live x ≡ v.live x) × ((grown v q k).live x ≡ v.live x)
past_is v q k x le = (cond-false _ (v.live x) _ (le-ltb x q (omega arith)) ∙ cond-false _ false (v.live x) (le-ltb x (q + k) le), cond-false _ (v.live x) _ (le-ltb x q (omega arith)) ∙ cond-false _ true (v.live x) (le-ltb x (q + k) le))

pub grown_word : (v : Pages) (q k x i : ℕ) → ((x < q) ⊎ (q + k ≤ x)) → (grown v q k).word x i ≡ v.word x i
grown_word v q k x i o = ⊎_elim (λ lt. cond-true _ (v.word x i) _ (lt-ltb x q lt)) (λ le. cond-false _ (v.word x i) _ (le-ltb x q (omega arith)) ∙ cond-false _ 0 (v.word x i) (le-ltb x (q + k) le)) o

pub grown_zero : (v : Pages) (q k x i : ℕ) → q ≤ x → x < q + k → (grown v q k).word x i ≡ 0
grown_zero v q k x i le lt = cond-false _ (v.word x i) _ (le-ltb x q le) ∙ cond-true _ 0 (v.word x i) (lt-ltb x (q + k) lt)

cut_set : (l : PageLayout) (v : Pages) (q k : ℕ) → PageSet l (q + k) false (v.word (q + k)) (pages_cut v q k) (pages_cut v q (suc k))
cut_set l v q k = record {
  live = (within_is v q (suc k) (q + k) (omega arith) (omega arith)).0;
  word = λ i li. refl;
  lives = λ x lx ne. ⊎_elim (λ lt. (before_is v q (suc k) x lt).0 ∙ sym (before_is v q k x lt).0) (λ le. ⊎_elim (λ lt. (within_is v q (suc k) x le (omega arith)).0 ∙ sym (within_is v q k x le lt).0) (λ ge. (past_is v q (suc k) x (omega arith)).0 ∙ sym (past_is v q k x ge).0) (cases_lt x (q + k))) (cases_lt x q);
  words = λ x lx ne i li. refl;
}

grown_set : (l : PageLayout) (v : Pages) (q k : ℕ) → PageSet l (q + k) true (λ i. 0) (grown v q k) (grown v q (suc k))
grown_set l v q k = record {
  live = (within_is v q (suc k) (q + k) (omega arith) (omega arith)).1;
  word = λ i li. grown_zero v q (suc k) (q + k) i (omega arith) (omega arith);
  lives = λ x lx ne. ⊎_elim (λ lt. (before_is v q (suc k) x lt).1 ∙ sym (before_is v q k x lt).1) (λ le. ⊎_elim (λ lt. (within_is v q (suc k) x le (omega arith)).1 ∙ sym (within_is v q k x le lt).1) (λ ge. (past_is v q (suc k) x (omega arith)).1 ∙ sym (past_is v q k x ge).1) (cases_lt x (q + k))) (cases_lt x q);
  words = λ x lx ne i li. ⊎_elim (λ lt. grown_word v q (suc k) x i (inl lt) ∙ sym (grown_word v q k x i (inl lt))) (λ le. ⊎_elim (λ lt. grown_zero v q (suc k) x i le (omega arith) ∙ sym (grown_zero v q k x i le lt)) (λ ge. grown_word v q (suc k) x i (inr (omega arith)) ∙ sym (grown_word v q k x i (inr ge))) (cases_lt x (q + k))) (cases_lt x q);
}

no_cut : (l : PageLayout) (v : Pages) (q : ℕ) → Agree l v (pages_cut v q 0)
no_cut l v q = record { live = λ x lx. ⊎_elim (λ lt. (before_is v q 0 x lt).0) (λ le. (past_is v q 0 x (omega arith)).0) (cases_lt x q); word = λ x i lx li. refl }

no_growth : (l : PageLayout) (v : Pages) (q : ℕ) → Agree l v (grown v q 0)
no_growth l v q = record { live = λ x lx. ⊎_elim (λ lt. (before_is v q 0 x lt).1) (λ le. (past_is v q 0 x (omega arith)).1) (cases_lt x q); word = λ x i lx li. ⊎_elim (λ lt. grown_word v q 0 x i (inl lt)) (λ le. grown_word v q 0 x i (inr (omega arith))) (cases_lt x q) }

module _ (w : World) (f : RoutineLaws w) (p : TableLayout) (b : ℕ) (si : Sited p w) (g : EntryState) (v : Pages) (q n : ℕ) (below : q + n ≤ p.layout.pages) where
  -- k pages are cut off
  record Cutting (k : ℕ) (c0 : Contents) (c : Contents) (d : Behind) : Type 0 where
    held : PagesHeld p (pages_cut v q k) g c d
    most : k ≤ n
    page : c.regs 16 ≡ q + k
    left : c.regs 14 ≡ n - k
    r27 : c.regs 27 ≡ c0.regs 27

  cut_turn : (c0 : Contents) (k : ℕ) → k < n → Does w (cut_body p) 40 (Cutting k c0) (Cutting (suc k) c0)
  cut_turn c0 k lt = does_from w f (cut_body p) 40 (Cutting k c0) (Cutting (suc k) c0) (λ c d s.
      let page = s.page in let left = s.left in let pages = si.pages in
      from_then w f (drop_page_code p) (Addiu 16 16 1 ∷ Addiu 14 14 65535 ∷ []) 38 2 c d (DropDone p (q + k) c d) (Cutting (suc k) c0)
      (drop_from w f p b si (q + k) c d (drop_asked w f p (pages_cut v q k) (q + k) g c d s.held s.page (omega arith)))
      (λ c1 d1 h. let r16 = h.keeps.r16 in let r14 = h.keeps.r14 in
      from_straight w f (Addiu 16 16 1 ∷ Addiu 14 14 65535 ∷ []) (Gives (q + suc k) ∷ Gives (n - suc k) ∷ []) c1 d1 (Cutting (suc k) c0) refl (ap (λ d. d.pending) h.disk ∙ s.held.idle)
      (λ m. (
        (omega arith, (omega arith, tt)),
        record {
          held = record {
            stands = f.cuts p.layout (pages_cut v q k) (pages_cut v q (suc k)) (q + k) _ false (v.word (q + k)) (paged_view p c.memory d.sectors) (paged_view p c1.memory d1.sectors) s.held.stands (omega arith) h.gone (cut_set p.layout v q k) h.edit (λ t. absurd (cc));
            small = h.small;
            low = λ z lz ne. h.low z lz ∙ s.held.low z lz ne;
            above = λ z le lz. h.above z le lz ∙ s.held.above z le lz;
            special = h.keeps.special ∙ s.held.special;
            r28 = h.keeps.r28 ∙ s.held.r28;
            r29 = h.keeps.r29 ∙ s.held.r29;
            r30 = h.keeps.r30 ∙ s.held.r30;
            r31 = h.keeps.r31 ∙ s.held.r31;
            behind = subst (BehindStays p g) (sym (h.disk)) s.held.behind;
            idle = ap (λ d. d.pending) h.disk ∙ s.held.idle;
          };
          most = omega arith;
          page = refl;
          left = refl;
          r27 = h.keeps.r27 ∙ s.r27;
        },
      ))))

  -- CUT
  pub cuts : (c : Contents) (d : Behind) → PagesHeld p v g c d → c.regs 16 ≡ q → c.regs 14 ≡ n → From w (loop_code [] 14 (cut_body p)) (42 * n + 1) c d (λ c' d'. PagesHeld p (pages_cut v q n) g c' d' × (c'.regs 27 ≡ c.regs 27))
  cuts c d h page left =
      from_later w f (loop_code [] 14 (cut_body p)) (42 * (n - 0) + 1) _ c d _ _ (omega arith) (λ c d k. k)
      (from_does w f _ _ c d (Cutting 0 c) (λ c' d'. PagesHeld p (pages_cut v q n) g c' d' × (c'.regs 27 ≡ c.regs 27))
      (record { held = held_on p _ _ g c d (no_cut p.layout v q) h; most = omega arith; page = omega arith; left = omega arith; r27 = refl })
      (loop_pays w f (cut_body p) 14 (λ k. Cutting k c) (λ k. k < n) (λ k. 42 * (n - k)) (λ k. 40) suc (λ c' d'. PagesHeld p (pages_cut v q n) g c' d' × (c'.regs 27 ≡ c.regs 27)) (omega arith)
      (λ k c d s. s.held.idle) (λ k lt. omega arith) (cut_turn c)
      (λ k c d s z. let left = s.left in let most = s.most in omega arith)
      (λ k c' d s z. let left = s.left in let most = s.most in let e : k ≡ n = omega arith in (subst (λ k. PagesHeld p (pages_cut v q k) g c' d) e s.held, s.r27))
      0))

  -- k pages are added
  module _ (dead : (x : ℕ) → q ≤ x → x < q + n → v.live x ≡ false) where
    record Growing (k : ℕ) (c : Contents) (d : Behind) : Type 0 where
      held : PagesHeld p (grown v q k) g c d
      most : k ≤ n
      entry : c.regs 20 ≡ 4 * (p.tables + (q + k))
      fresh : c.regs 13 ≡ 4096 * p.layout.zeros + 3072
      left : c.regs 14 ≡ n - k
      names : Fresh p q k c

    grow_turn : (k : ℕ) → k < n → Does w grow_body 3 (Growing k) (Growing (suc k))
    grow_turn k lt = does_from w f grow_body 3 (Growing k) (Growing (suc k)) (λ c d s.
        let low = si.low in let first = si.first in let second = si.second in let third = si.third in let words = f.small in let pages = si.pages in
        let entry = s.entry in let left = s.left in
        let gone : c.memory (p.tables + (q + k)) / 2048 % 2 ≡ 0 = s.held.stands.dead (q + k) (omega arith) ((past_is v q k (q + k) (omega arith)).1 ∙ dead (q + k) (omega arith) (omega arith)) in
        let names : MapsTo (4096 * p.layout.zeros + 3072) p.layout.zeros = omega arith in
        from_straight w f grow_body (Writes (p.tables + (q + k)) (4096 * p.layout.zeros + 3072) ∷ Gives (4 * (p.tables + (q + suc k))) ∷ Gives (n - suc k) ∷ []) c d (Growing (suc k)) refl s.held.idle
        (λ m. (
          ((omega arith, omega arith, si.free _ (omega arith) (omega arith), s.fresh), (omega arith, (omega arith, tt))),
          record {
            held = wrote k lt c d s.held gone;
            most = omega arith;
            entry = refl;
            fresh = s.fresh;
            left = refl;
            names = λ x le ux. ⊎_elim (λ e. ap (λ y. y / 2048) (put_same c.memory (p.tables + (q + k)) (4096 * p.layout.zeros + 3072) (p.tables + x) (omega arith)) ∙ names) (λ ne. ap (λ y. y / 2048) (put_other c.memory (p.tables + (q + k)) (4096 * p.layout.zeros + 3072) (p.tables + x) (omega arith)) ∙ s.names x le (omega arith)) (cases_eq x (q + k));
          },
        )))
      where
        wrote : (k : ℕ) → k < n → (c : Contents) (d : Behind) → PagesHeld p (grown v q k) g c d → c.memory (p.tables + (q + k)) / 2048 % 2 ≡ 0
            → PagesHeld p (grown v q (suc k)) g (with_reg (with_reg (record c { memory = put c.memory (p.tables + (q + k)) (4096 * p.layout.zeros + 3072) }) 20 (4 * (p.tables + (q + suc k)))) 14 (n - suc k)) d
        wrote k lt c d h gone =
            let low = si.low in let first = si.first in let second = si.second in let third = si.third in let words = f.small in
            let e : ℕ = 4096 * p.layout.zeros + 3072 in
            let names : MapsTo (4096 * p.layout.zeros + 3072) p.layout.zeros = omega arith in
            let m : ℕ → ℕ = put c.memory (p.tables + (q + k)) (4096 * p.layout.zeros + 3072) in
            let others : (z : ℕ) → z ≢ p.tables + (q + k) → put c.memory (p.tables + (q + k)) (4096 * p.layout.zeros + 3072) z ≡ c.memory z = λ z ne. put_other c.memory (p.tables + (q + k)) (4096 * p.layout.zeros + 3072) z ne in
            let here : put c.memory (p.tables + (q + k)) (4096 * p.layout.zeros + 3072) (p.tables + (q + k)) ≡ 4096 * p.layout.zeros + 3072 = put_same c.memory (p.tables + (q + k)) (4096 * p.layout.zeros + 3072) (p.tables + (q + k)) refl in
            let r : Retargeted p.layout (q + k) (4096 * p.layout.zeros + 3072) (paged_view p c.memory d.sectors) (paged_view p (put c.memory (p.tables + (q + k)) (4096 * p.layout.zeros + 3072)) d.sectors) =
            edit_is p w b si (q + k) (4096 * p.layout.zeros + 3072) c.memory (put c.memory (p.tables + (q + k)) (4096 * p.layout.zeros + 3072)) d.sectors (omega arith) here (λ z ne o. others z ne)
            (lists_none f.shows p (q + k) (4096 * p.layout.zeros + 3072) c.memory (put c.memory (p.tables + (q + k)) (4096 * p.layout.zeros + 3072)) d.sectors d.sectors (λ z lz. others z (omega arith))
            (λ y u. let u0 = u.0 in f.shows.misses (c.memory (p.tables + (q + k))) y (λ m. omega arith) ∙ sym (f.shows.misses (4096 * p.layout.zeros + 3072) y (λ m. omega arith)))) in
            record {
              stands = f.grows p.layout (grown v q k) (grown v q (suc k)) (q + k) (4096 * p.layout.zeros + 3072) (paged_view p c.memory d.sectors) (paged_view p (put c.memory (p.tables + (q + k)) (4096 * p.layout.zeros + 3072)) d.sectors) h.stands (omega arith) names (omega arith) (grown_set p.layout v q k) r;
              small = λ z lz. ⊎_elim (λ e. subst (λ z. put c.memory (p.tables + (q + k)) (4096 * p.layout.zeros + 3072) (p.tables + z) < 2 ^ 32) (sym e) (subst (λ y. y < 2 ^ 32) (sym here) (omega arith))) (λ ne. subst (λ y. y < 2 ^ 32) (sym (others (p.tables + z) (omega arith))) (h.small z lz)) (cases_eq z (q + k));
              low = λ z lz ne. others z (omega arith) ∙ h.low z lz ne;
              above = λ z le lz. others z (omega arith) ∙ h.above z le lz;
              special = h.special;
              r28 = h.r28;
              r29 = h.r29;
              r30 = h.r30;
              r31 = h.r31;
              behind = h.behind;
              idle = h.idle;
            }

    -- GROW
    pub grows_from : (c : Contents) (d : Behind) → PagesHeld p v g c d → c.regs 20 ≡ 4 * (p.tables + q) → c.regs 13 ≡ 4096 * p.layout.zeros + 3072 → c.regs 14 ≡ n → From w (loop_code [] 14 grow_body) (5 * n + 1) c d (λ c' d'. PagesHeld p (grown v q n) g c' d' × Fresh p q n c')
    grows_from c d h entry fresh left =
        from_later w f (loop_code [] 14 grow_body) (5 * (n - 0) + 1) _ c d _ _ (omega arith) (λ c d k. k)
        (from_does w f _ _ c d (Growing 0) (λ c' d'. PagesHeld p (grown v q n) g c' d' × Fresh p q n c')
        (record { held = held_on p _ _ g c d (no_growth p.layout v q) h; most = omega arith; entry = omega arith; fresh = fresh; left = omega arith; names = λ x le ux. absurd (omega arith) })
        (loop_pays w f grow_body 14 Growing (λ k. k < n) (λ k. 5 * (n - k)) (λ k. 3) suc (λ c' d'. PagesHeld p (grown v q n) g c' d' × Fresh p q n c') (omega arith)
        (λ k c d s. s.held.idle) (λ k lt. omega arith) grow_turn
        (λ k c d s z. let left = s.left in let most = s.most in omega arith)
        (λ k c d s z. let left = s.left in let most = s.most in let e : k ≡ n = omega arith in (subst (λ k. PagesHeld p (grown v q k) g c d) e s.held, subst (λ k. Fresh p q k c) e s.names))
        0))

module _ (w : World) (f : RoutineLaws w) (p : TableLayout) (b : ℕ) (si : Sited p w) where
  -- the last part: the pages from register 28 on become fresh, up to register 27
  grow_part : (g : EntryState) (v : Pages) (q n : ℕ) → q + n ≤ p.layout.pages → ((x : ℕ) → q ≤ x → x < q + n → v.live x ≡ false) → (c : Contents) (d : Behind) → PagesHeld p v g c d → c.regs 27 ≡ q + n → c.regs 13 ≡ q → From w (grow_memory_code p) (7 + (5 * n + 1 + 1)) c d (λ c' d'. PagesHeld p (grown v q n) g c' d' × (c'.regs 2 ≡ 1) × Fresh p q n c')
  grow_part g v q n below dead c d h to from =
      let low = si.low in let first = si.first in let second = si.second in let third = si.third in let words = f.small in let pages = si.pages in
      straight_then w f (load_immediate_code 20 (4 * p.tables) ++ (Sll 8 13 2 ∷ Addu 20 20 8 ∷ Subu 14 27 13 ∷ load_immediate_code 13 (4096 * p.layout.zeros + 3072))) (loop_code [] 14 grow_body ++ (Addiu 2 0 1 ∷ []))
      (Gives (4 * p.tables / 65536 * 2 ^ 16) ∷ Gives (4 * p.tables) ∷ Gives (4 * q) ∷ Gives (4 * (p.tables + q)) ∷ Gives n ∷ Gives ((4096 * p.layout.zeros + 3072) / 65536 * 2 ^ 16) ∷ Gives (4096 * p.layout.zeros + 3072) ∷ []) (5 * n + 1 + 1) c d _ refl h.idle
      (λ m. (refl, (const_is (4 * p.tables), (omega arith, (omega arith, (omega arith, (refl, (const_is (4096 * p.layout.zeros + 3072), tt))))))))
      (λ m. from_then w f (loop_code [] 14 grow_body) (Addiu 2 0 1 ∷ []) (5 * n + 1) 1 _ d (λ c' d'. PagesHeld p (grown v q n) g c' d' × Fresh p q n c') _
      (grows_from w f p b si g v q n below dead _ d (record { stands = h.stands; small = h.small; low = h.low; above = h.above; special = h.special; r28 = h.r28; r29 = h.r29; r30 = h.r30; r31 = h.r31; behind = h.behind; idle = h.idle }) refl refl refl)
      (λ c1 d1 k. let h1 = k.0 in from_straight w f (Addiu 2 0 1 ∷ []) (Gives 1 ∷ []) c1 d1 _ refl h1.idle (λ m. ((refl, tt), (record { stands = h1.stands; small = h1.small; low = h1.low; above = h1.above; special = h1.special; r28 = h1.r28; r29 = h1.r29; r30 = h1.r30; r31 = h1.r31; behind = h1.behind; idle = h1.idle }, refl, k.1)))))

  -- the middle part: the pages from register 27 on are dropped
  cut_part : (g : EntryState) (v : Pages) (base old new : ℕ) → base + old ≤ p.layout.pages → new < old → (c : Contents) (d : Behind) → PagesHeld p v g c d → c.regs 14 ≡ old → c.regs 26 ≡ new → c.regs 27 ≡ base + new → From w (shrink_memory_code p) (2 + (42 * (old - new) + 1 + 1)) c d (λ c' d'. PagesHeld p (pages_cut v (base + new) (old - new)) g c' d' × (c'.regs 27 ≡ base + new) × (c'.regs 13 ≡ base + new))
  cut_part g v base old new below lt c d h r14 r26 r27 =
      let pages = si.pages in
      straight_then w f (Subu 14 14 26 ∷ Addu 16 27 0 ∷ []) (loop_code [] 14 (cut_body p) ++ (Addu 13 27 0 ∷ [])) (Gives (old - new) ∷ Gives (base + new) ∷ []) (42 * (old - new) + 1 + 1) c d _ refl h.idle
      (λ m. (omega arith, (omega arith, tt)))
      (λ m. from_then w f (loop_code [] 14 (cut_body p)) (Addu 13 27 0 ∷ []) (42 * (old - new) + 1) 1 (with_reg (with_reg c 14 (old - new)) 16 (base + new)) d (λ c' d'. PagesHeld p (pages_cut v (base + new) (old - new)) g c' d' × (c'.regs 27 ≡ c.regs 27)) _
      (cuts w f p b si g v (base + new) (old - new) (omega arith) (with_reg (with_reg c 14 (old - new)) 16 (base + new)) d (record { stands = h.stands; small = h.small; low = h.low; above = h.above; special = h.special; r28 = h.r28; r29 = h.r29; r30 = h.r30; r31 = h.r31; behind = h.behind; idle = h.idle }) refl refl)
      (λ c1 d1 k. let h1 = k.0 in let k27 = k.1 in
      from_straight w f (Addu 13 27 0 ∷ []) (Gives (base + new) ∷ []) c1 d1 _ refl h1.idle (λ m. ((omega arith, tt), (record { stands = h1.stands; small = h1.small; low = h1.low; above = h1.above; special = h1.special; r28 = h1.r28; r29 = h1.r29; r30 = h1.r30; r31 = h1.r31; behind = h1.behind; idle = h1.idle }, k27 ∙ r27, refl)))))

  -- both, by which size is greater; n is how many pages come or go
  change_part : (g : EntryState) (v : Pages) (base old new n : ℕ) → base + old ≤ p.layout.pages → base + new ≤ p.layout.pages → ((x : ℕ) → base + old ≤ x → x < base + new → v.live x ≡ false) → n ≡ (old - new) + (new - old) → (c : Contents) (d : Behind) → PagesHeld p v g c d → c.regs 14 ≡ old → c.regs 26 ≡ new → c.regs 27 ≡ base + new → c.regs 13 ≡ base + old → c.regs 9 ≡ flag (nat_lt new old)
      → From w (when_code 9 (shrink_memory_code p) ++ grow_memory_code p) (42 * n + 20) c d (λ c' d'. PagesHeld p (pages_after_resize v base old new) g c' d' × (c'.regs 2 ≡ 1) × Fresh p (base + old) (new - old) c')
  change_part g v base old new n below above dead total c d h r14 r26 r27 r13 r9 = ⊎_elim
      (λ lt. let o : flag (nat_lt new old) ≡ 1 = ap flag (lt-ltb new old lt) in
      let none : new - old ≡ 0 = omega arith in
      from_later w f _ (2 + (42 * (old - new) + 1 + 1) + 1 + (7 + (5 * 0 + 1 + 1))) _ c d _ _ (omega arith)
      (λ c' d' k. (subst (λ u. PagesHeld p u g c' d') (sym (cond-true (nat_lt new old) (pages_cut v (base + new) (old - new)) (grown v (base + old) (new - old)) (lt-ltb new old lt))) (held_on p _ _ g c' d' (no_more (pages_cut v (base + new) (old - new)) (base + new)) k.0), k.1, λ x le ux. absurd (omega arith)))
      (from_then w f (when_code 9 (shrink_memory_code p)) (grow_memory_code p) (2 + (42 * (old - new) + 1 + 1) + 1) (7 + (5 * 0 + 1 + 1)) c d (λ c' d'. PagesHeld p (pages_cut v (base + new) (old - new)) g c' d' × (c'.regs 27 ≡ base + new) × (c'.regs 13 ≡ base + new)) (λ c' d'. PagesHeld p (grown (pages_cut v (base + new) (old - new)) (base + new) 0) g c' d' × (c'.regs 2 ≡ 1) × Fresh p (base + new) 0 c')
      (from_when w f 9 (shrink_memory_code p) (2 + (42 * (old - new) + 1 + 1)) c d _ (omega arith) h.idle (λ z. cut_part g v base old new below lt c d h r14 r26 r27) (λ z. absurd (omega arith)))
      (λ c1 d1 k. let k1 = k.1 in grow_part g (pages_cut v (base + new) (old - new)) (base + new) 0 (omega arith) (λ x le lt. absurd (omega arith)) c1 d1 k.0 (omega arith) k.2)))
      (λ le. let o : flag (nat_lt new old) ≡ 0 = ap flag (le-ltb new old le) in
      from_later w f _ (0 + 1 + (7 + (5 * (new - old) + 1 + 1))) _ c d _ _ (omega arith)
      (λ c' d' k. (subst (λ u. PagesHeld p u g c' d') (sym (cond-false (nat_lt new old) (pages_cut v (base + new) (old - new)) (grown v (base + old) (new - old)) (le-ltb new old le))) k.0, k.1, k.2))
      (from_then w f (when_code 9 (shrink_memory_code p)) (grow_memory_code p) (0 + 1) (7 + (5 * (new - old) + 1 + 1)) c d (λ c' d'. PagesHeld p v g c' d' × (c'.regs 27 ≡ base + new) × (c'.regs 13 ≡ base + old)) (λ c' d'. PagesHeld p (grown v (base + old) (new - old)) g c' d' × (c'.regs 2 ≡ 1) × Fresh p (base + old) (new - old) c')
      (from_when w f 9 (shrink_memory_code p) 0 c d _ (omega arith) h.idle (λ z. absurd (z (r9 ∙ o))) (λ z. (h, r27, r13)))
      (λ c1 d1 k. let k1 = k.1 in grow_part g v (base + old) (new - old) (omega arith) (λ x lx ux. dead x lx (omega arith)) c1 d1 k.0 (omega arith) k.2)))
      (cases_lt new old)
    where
      no_more : (u : Pages) (q : ℕ) → Agree p.layout (grown u q 0) u
      no_more u q = let a = no_growth p.layout u q in record { live = λ x lx. sym (a.live x lx); word = λ x i lx li. sym (a.word x i lx li) }

  -- the size's word is written: it is below the page tables
  sized : (v : Pages) (c : Contents) (d : Behind) (u new : ℕ) → u ≤ 64 → 0 < u → PagesHeld p v (entry_state c d) c d → PagesHeld p v (entry_state (record c { memory = put c.memory (size_at u) new }) d) (record c { memory = put c.memory (size_at u) new }) d
  sized v c d u new most some h =
      let low = si.low in let first = si.first in let second = si.second in
      let others : (z : ℕ) → z ≢ size_at u → put c.memory (size_at u) new z ≡ c.memory z = λ z ne. put_other c.memory (size_at u) new z ne in
      record {
        stands = f.alikes.stands p.layout v (paged_view p c.memory d.sectors) (paged_view p (put c.memory (size_at u) new) d.sectors) h.stands (record {
          entries = λ q lq. others (p.tables + q) (omega arith);
          counts = λ y uy. let u0 = uy.0 in others (count_at p y) (omega arith);
          slots = λ y uy k lk. let u0 = uy.0 in others (slot_at p y k) (omega arith);
          frames = λ y uy i li. let u0 = uy.0 in others (1024 * y + i) (omega arith);
          sectors = λ q lq i li. refl;
          hand = ap (λ m. p.layout.zeros + 1 + m) (others hand_at (omega arith));
        });
        small = λ z lz. subst (λ y. y < 2 ^ 32) (sym (others (p.tables + z) (omega arith))) (h.small z lz);
        low = λ z lz ne. refl;
        above = λ z le lz. refl;
        special = refl;
        r28 = refl;
        r29 = refl;
        r30 = refl;
        r31 = refl;
        behind = record { log = h.behind.log; input = h.behind.input; past = h.behind.past };
        idle = h.idle;
      }

  module _ (users per : ℕ) (size : ℕ → ℕ) (v : Pages) (c : Contents) (d : Behind) (held : PagesHeld p v (entry_state c d) c d) (us : UsersIn p users per size v c) (blocks : (k : ℕ) → k < users → w.kept (12320 + 64 * k) ≡ None) (u new : ℕ) (ru : c.regs 20 ≡ u) (rn : c.regs 21 ≡ new) (su : u < 2 ^ 32) (sn : new < 2 ^ 32) where
    -- m steps are enough for the change, where it is made
    resize_from : (m : ℕ) (Q : Contents → Behind → Type 0)
        → (ResizeGood users per u new → (42 * ((size u - new) + (new - size u)) + 20 ≤ m) × ((c1 : Contents) (d1 : Behind) → PagesHeld p (pages_after_resize v ((u - 1) * per) (size u) new) (entry_state (record c { memory = put c.memory (size_at u) new }) d) c1 d1 → c1.regs 2 ≡ 1 → Fresh p ((u - 1) * per + size u) (new - size u) c1 → Q c1 d1))
        → ((ResizeGood users per u new → ⊥) → (c1 : Contents) → c1.memory ≡ c.memory → c1.special ≡ c.special → c1.regs 28 ≡ c.regs 28 → c1.regs 29 ≡ c.regs 29 → c1.regs 30 ≡ c.regs 30 → c1.regs 31 ≡ c.regs 31 → c1.regs 2 ≡ 0 → Q c1 d)
        → From w (vm_resize_code p users per) (5 + (5 + (3 + (3 + m)) + 1 + 1)) c d Q
    resize_from m Q does refuse =
        let few = us.few in let most = us.most in let words = f.small in let low = si.low in let first = si.first in let second = si.second in let third = si.third in let pages = si.pages in let idle = held.idle in
        let ku = small_is users (omega arith) in let kp = small_is (per + 1) (omega arith) in
        straight_then w f (Addiu 2 0 0 ∷ Addu 26 21 0 ∷ Addiu 8 20 65535 ∷ Sltiu 9 8 users ∷ Sltiu 12 26 (per + 1) ∷ []) _ (Gives 0 ∷ Gives new ∷ Gives ((u + 4294967295) % 2 ^ 32) ∷ Gives (flag (nat_lt ((u + 4294967295) % 2 ^ 32) users)) ∷ Gives (flag (nat_lt new (per + 1))) ∷ []) (5 + (3 + (3 + m)) + 1 + 1) c d Q refl idle
        (λ n. (refl, (omega arith, (ap (λ z. (z + 4294967295) % 2 ^ 32) ru, (ap (λ z. flag (nat_lt ((u + 4294967295) % 2 ^ 32) z)) ku, (ap (λ z. flag (nat_lt new z)) kp, tt))))))
        (λ n. from_when w f 9 _ (5 + (3 + (3 + m)) + 1) _ d Q (omega arith) idle
        (λ z. let below : (u + 4294967295) % 2 ^ 32 < users = ⊎_elim (λ o. o.1) (λ o. absurd (z o.0)) (flag_of ((u + 4294967295) % 2 ^ 32) users) in
        let u0 : 0 < u = omega arith in let u1 : u ≤ users = omega arith in
        let sz = us.sizes u u0 u1 in let fit = us.fit u u0 u1 in
        from_when w f 12 _ (5 + (3 + (3 + m))) _ d Q (omega arith) idle
        (λ z. let small : new < per + 1 = ⊎_elim (λ o. o.1) (λ o. absurd (z o.0)) (flag_of new (per + 1)) in
        let good : ResizeGood users per u new = (u0, u1, omega arith) in
        let dd = does good in let enough = dd.0 in
        let shape = us.shape in let bound = product_below (u - 1) users per (omega arith) in let bound16 = product_below (u - 1) 64 per (omega arith) in
        straight_then w f (find_size_code ++ (Lw 14 11 0 ∷ Sw 26 11 0 ∷ [])) _ (Gives 49280 ∷ Gives (256 * (u - 1)) ∷ Gives (4 * size_at u) ∷ Reads (size_at u) (size u) ∷ Writes (size_at u) new ∷ []) (3 + (3 + m)) _ d Q refl idle
        (λ n. (refl, (omega arith, (omega arith, ((omega arith, omega arith, sz), ((omega arith, omega arith, blocks (u - 1) (omega arith), refl), tt))))))
        (λ n. from_then w f (first_page_code per) _ 3 (3 + m) _ d (Based (u - 1) per _ d) Q
        (base_from w f (u - 1) per (omega arith) most _ d idle (omega arith))
        (λ c1 d1 k. let product = k.product in let r14 = k.regs 14 (omega arith) (omega arith) in let r26 = k.regs 26 (omega arith) (omega arith) in let idle1 = ap (λ d. d.pending) k.disk ∙ idle in
        let h1 : PagesHeld p v (entry_state (record c { memory = put c.memory (size_at u) new }) d) c1 d1 = held_to p v (entry_state (record c { memory = put c.memory (size_at u) new }) d) (record c { memory = put c.memory (size_at u) new }) d c1 d1 (sized v c d u new (omega arith) u0 held) k.memory k.special (k.regs 28 (omega arith) (omega arith)) (k.regs 29 (omega arith) (omega arith)) (k.regs 30 (omega arith) (omega arith)) (k.regs 31 (omega arith) (omega arith)) k.disk in
        straight_then w f (Addu 27 10 26 ∷ Addu 13 10 14 ∷ Sltu 9 26 14 ∷ []) (when_code 9 (shrink_memory_code p) ++ grow_memory_code p) (Gives ((u - 1) * per + new) ∷ Gives ((u - 1) * per + size u) ∷ Gives (flag (nat_lt new (size u))) ∷ []) m c1 d1 Q refl idle1
        (λ n. (omega arith, (omega arith, (ap₂ (λ a b. flag (nat_lt a b)) r26 r14, tt))))
        (λ n. from_later w f _ (42 * ((size u - new) + (new - size u)) + 20) m _ d1 _ Q enough (λ c2 d2 t. dd.1 c2 d2 t.0 t.1 t.2)
        (change_part (entry_state (record c { memory = put c.memory (size_at u) new }) d) v ((u - 1) * per) (size u) new ((size u - new) + (new - size u)) (omega arith) (omega arith)
        (λ x lx ux. let i : ℕ = x - (u - 1) * per in let e : (u - 1) * per + (x - (u - 1) * per) ≡ x = omega arith in ap v.live (sym e) ∙ us.live u (x - (u - 1) * per) u0 u1 (omega arith) ∙ le-ltb _ _ (omega arith))
        refl _ d1 (record { stands = h1.stands; small = h1.small; low = h1.low; above = h1.above; special = h1.special; r28 = h1.r28; r29 = h1.r29; r30 = h1.r30; r31 = h1.r31; behind = h1.behind; idle = h1.idle }) r14 r26 refl refl refl)))))
        (λ z. let past : per + 1 ≤ new = ⊎_elim (λ o. let o0 = o.0 in absurd (omega arith)) (λ o. o.1) (flag_of new (per + 1)) in
        refuse (λ g. let g2 = g.2 in absurd (omega arith)) _ refl refl refl refl refl refl refl))
        (λ z. let past : users ≤ (u + 4294967295) % 2 ^ 32 = ⊎_elim (λ o. let o0 = o.0 in absurd (omega arith)) (λ o. o.1) (flag_of ((u + 4294967295) % 2 ^ 32) users) in
        refuse (λ g. let g0 = g.0 in let g1 = g.1 in absurd (omega arith)) _ refl refl refl refl refl refl refl))

    -- VM_RESIZE: true (1), within a unit and a page for each page that comes or goes
    pub vm_resize_good : ResizeGood users per u new → From w (vm_resize_code p users per) (598 + steps_of_page p.layout.pages b * ((size u - new) + (new - size u))) c d (λ c' d'. PagesHeld p (pages_after_resize v ((u - 1) * per) (size u) new) (entry_state (record c { memory = put c.memory (size_at u) new }) d) c' d' × (c'.regs 2 ≡ 1) × Fresh p ((u - 1) * per + size u) (new - size u) c')
    vm_resize_good good =
        from_later w f _ (5 + (5 + (3 + (3 + (42 * ((size u - new) + (new - size u)) + 20))) + 1 + 1)) _ c d _ _ (enough (steps_of_page p.layout.pages b) ((size u - new) + (new - size u)) (omega arith)) (λ c' d' k. k)
        (resize_from (42 * ((size u - new) + (new - size u)) + 20) _ (λ good. (omega arith, λ c1 d1 h r fr. (h, r, fr))) (λ nay c1 m s r28 r29 r30 r31 r2. absurd (nay good)))
      where
        enough : (t n : ℕ) → 42 ≤ t → 5 + (5 + (3 + (3 + (42 * n + 20))) + 1 + 1) ≤ 598 + t * n
        enough t n le =
            let r : ℕ = t - 42 in
            let e : t * n ≡ (42 + (t - 42)) * n = ap (λ z. z * n) (omega arith) in
            omega arith

    pub vm_resize_bad : (ResizeGood users per u new → ⊥) → From w (vm_resize_code p users per) 598 c d (λ c' d'. PagesHeld p v (entry_state c d) c' d' × (c'.regs 2 ≡ 0))
    vm_resize_bad bad =
        from_later w f _ (5 + (5 + (3 + (3 + 0)) + 1 + 1)) _ c d _ _ (omega arith) (λ c' d' k. k)
        (resize_from 0 _ (λ good. absurd (bad good)) (λ nay c1 m s r28 r29 r30 r31 r2. (held_to p v (entry_state c d) c d c1 d held m s r28 r29 r30 r31 refl, r2)))
