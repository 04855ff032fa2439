-- vm_word and vm_put.
use Rattle.std.proofs.Common.{◌≡◌, ◌≢◌, ℕ, ◌+◌, ◌-◌, ◌*◌, ◌/◌, ◌%◌, ◌^◌, ◌<◌, ◌≤◌, Bool, true, false, [], ◌∷◌, ◌++◌, length, length-append, refl, sym, ap, ◌∙◌, subst, ⊎_elim, inl, arith, lt-ltb, eq-eqb, ne_eqb}
use Rattle.std.proofs.lemmas.Bool.{cases_eq, cond-true, cond-false}
use Rattle.mips_table.specs.declared.inst.Inst.TheVariants.{Srl, Addiu, Addu, Lw, Sw}
use Rattle.page_model.specs.Paging.{IsUserFrame, IsFrame, MapsTo, Pages, PagingInvariant, IsAccessible}
use Rattle.cvm_primitives.proofs.BlocksFromOneState.{names_own}
use Rattle.cvm_primitives.proofs.BlocksFromOneState.{user_or_zero}
use Rattle.mips_table.specs.Code.{put, Contents, with_reg, Behind, World}
use Rattle.mips_table.proofs.PutsChangeOneWord.{put_same, put_other}
use Rattle.cvm_primitives.specs.Routines.{RoutineLaws}
use Rattle.masm.specs.Says.{Gives, Reads, Writes}
use Rattle.masm.specs.Laws.{From}
use Rattle.cvm_primitives.proofs.BlocksFromOneState.{from_straight, from_then, from_later, straight_then}
use Rattle.cvm_primitives.specs.Copy.{word_of_pages, with_page_word}
use Rattle.page_model.specs.TableLayout.{TableLayout, count_at, slot_at, paged_view}
use Rattle.layer_map.specs.Map.{hand_at}
use Rattle.frame_table.specs.View.{Sited}
use Rattle.page_fault.specs.Asked.{PageBlock, fault_steps}
use Rattle.cvm_primitives.specs.View.{steps_of_page, PagesHeld, UsersIn, WordGood, number_of_word, EntryState, entry_state, BehindStays}
use Rattle.cvm_primitives.proofs.PartStates.{Came, Located, Quiet}
use Rattle.cvm_primitives.specs.Code.{locate_code, read_word_code, write_word_code, vm_word_code, vm_put_code}
use Rattle.cvm_primitives.proofs.SharedByRoutines.{held_to}
use Rattle.cvm_primitives.proofs.WordsMoved.{locate_from}
use Rattle.cvm_primitives.proofs.PagesBrought.{brings_one}
use Rattle.cvm_primitives.proofs.ArgumentTests.{product_below, asked_from}

module _ (w : World) (f : RoutineLaws w) (p : TableLayout) (b : ℕ) (si : Sited p w) (page : PageBlock w p b) (v : Pages) (g : EntryState) where
  -- the frame of a page that passes
  resident : (m : ℕ → ℕ) (s : ℕ → ℕ → ℕ) (q : ℕ) (store : Bool) → PagingInvariant p.layout v (paged_view p m s) → q < p.layout.pages → v.live q ≡ true → IsAccessible (paged_view p m s) q store
      → IsFrame p.layout (m (p.tables + q) / 4096) × ((i : ℕ) → i < 1024 → m (1024 * (m (p.tables + q) / 4096) + i) ≡ v.word q i)
  resident m s q store st lq al pass =
      let n : MapsTo (m (p.tables + q)) (m (p.tables + q) / 4096) = names_own (m (p.tables + q)) pass.valid in
      (st.named q (m (p.tables + q) / 4096) lq n, λ i li. sym (f.shows.valid (paged_view p m s) q (m (p.tables + q) / 4096) i n) ∙ st.pages q lq al i li)

  -- READ
  pub load_from : (z : ℕ) (c : Contents) (d : Behind) → PagesHeld p v g c d → c.regs 26 ≡ z → z < 1024 * p.layout.pages → v.live (z / 1024) ≡ true → From w (read_word_code p page.code) (2 + (fault_steps b + (1 + 11 + 1))) c d (λ c' d'. PagesHeld p v g c' d' × (c'.regs 2 ≡ word_of_pages v z))
  load_from z c d h at lz al =
      let low = si.low in let first = si.first in let second = si.second in let third = si.third in let small = f.small in let pages = si.pages in
      straight_then w f (Srl 16 26 10 ∷ Addiu 15 0 0 ∷ []) _ (Gives (z / 1024) ∷ Gives 0 ∷ []) (fault_steps b + (1 + 11 + 1)) c d _ refl h.idle (λ n. (ap (λ z. z / 2 ^ 10) at, (refl, tt)))
      (λ n. from_then w f page.code ((Addu 8 26 0 ∷ locate_code p) ++ (Lw 2 8 0 ∷ [])) (fault_steps b) (1 + 11 + 1) (with_reg (with_reg c 16 (z / 1024)) 15 0) d (Came p v g (z / 1024) false (with_reg (with_reg c 16 (z / 1024)) 15 0) d) _
      (brings_one w f p b si page g v (z / 1024) false (with_reg (with_reg c 16 (z / 1024)) 15 0) d (record { stands = h.stands; small = h.small; low = h.low; above = h.above; special = h.special; r28 = h.r28; r29 = h.r29; r30 = h.r30; r31 = h.r31; behind = h.behind; idle = h.idle }) refl (omega arith) al (λ e. refl) (λ e. absurd (cc)))
      (λ c1 d1 k1. let r26 : c1.regs 26 ≡ z = k1.keeps.r26 ∙ at in
      let pass : IsAccessible (paged_view p c1.memory d1.sectors) (z / 1024) false = f.handled.passes p.layout (z / 1024) false _ _ k1.brought.handled in
      let res = resident c1.memory d1.sectors (z / 1024) false k1.held.stands (omega arith) al pass in let fr0 = res.0.0 in let fr1 = res.0.1 in
      from_then w f (Addu 8 26 0 ∷ locate_code p) (Lw 2 8 0 ∷ []) (1 + 11) 1 c1 d1 (Located p z (with_reg c1 8 z) d1) _
      (straight_then w f (Addu 8 26 0 ∷ []) (locate_code p) (Gives z ∷ []) 11 c1 d1 (Located p z (with_reg c1 8 z) d1) refl k1.held.idle (λ n. (omega arith, tt))
      (λ n. locate_from w f p b si z (with_reg c1 8 z) d1 refl lz (k1.held.small (z / 1024) (omega arith)) k1.held.idle))
      (λ c2 d2 k2. let address = k2.address in let idle2 = ap (λ d. d.pending) k2.disk ∙ k1.held.idle in
      from_straight w f (Lw 2 8 0 ∷ []) (Reads (1024 * (c1.memory (p.tables + z / 1024) / 4096) + z % 1024) (word_of_pages v z) ∷ []) c2 d2 _ refl idle2
      (λ n. (
        ((omega arith, omega arith, ap (λ m. m (1024 * (c1.memory (p.tables + z / 1024) / 4096) + z % 1024)) k2.memory ∙ res.1 (z % 1024) (omega arith)), tt),
        (held_to p v g c1 d1 _ d2 k1.held k2.memory k2.keeps.special k2.keeps.r28 k2.keeps.r29 k2.keeps.r30 k2.keeps.r31 k2.disk, refl),
      )))))

  -- STORE: one word of a page that passes
  wrote : (z x : ℕ) (m m' : ℕ → ℕ) (s : ℕ → ℕ → ℕ) → z < 1024 * p.layout.pages → v.live (z / 1024) ≡ true → PagingInvariant p.layout v (paged_view p m s) → IsAccessible (paged_view p m s) (z / 1024) true → m' (1024 * (m (p.tables + z / 1024) / 4096) + z % 1024) ≡ x
      → ((y : ℕ) → y ≢ 1024 * (m (p.tables + z / 1024) / 4096) + z % 1024 → m' y ≡ m y) → PagingInvariant p.layout (with_page_word v z x) (paged_view p m' s)
  wrote z x m m' s lz al st pass here others =
      let low = si.low in let first = si.first in let second = si.second in
      let n : MapsTo (m (p.tables + z / 1024)) (m (p.tables + z / 1024) / 4096) = names_own (m (p.tables + z / 1024)) pass.valid in
      let res = resident m s (z / 1024) true st (omega arith) al pass in
      let u : IsUserFrame p.layout (m (p.tables + z / 1024) / 4096) = ⊎_elim (λ e. absurd (pass.unprotected refl (st.shared (z / 1024) (m (p.tables + z / 1024) / 4096) (omega arith) n (inl e)))) (λ u. u) (user_or_zero p.layout (m (p.tables + z / 1024) / 4096) res.0) in
      let u0 = u.0 in let u1 = u.1 in
      f.stores p.layout v (with_page_word v z x) (z / 1024) (m (p.tables + z / 1024) / 4096) ((with_page_word v z x).word (z / 1024)) (paged_view p m s) (paged_view p m' s) st (omega arith) al n (pass.unprotected refl)
      (record { live = al; word = λ i li. refl; lives = λ q lq ne. refl; words = λ q lq ne i li. cond-false _ x (v.word q i) (ne_eqb _ _ (omega arith)) })
      (record {
        entries = λ q lq. others (p.tables + q) (omega arith);
        counts = λ h uh. let h0 = uh.0 in let h1 = uh.1 in others (count_at p h) (omega arith);
        slots = λ h uh k lk. let h0 = uh.0 in let h1 = uh.1 in let four = f.lists.few p.layout v (paged_view p m s) h st uh in others (slot_at p h k) (omega arith);
        words = λ i li. ⊎_elim
            (λ e. ap m' (omega arith) ∙ here ∙ sym (cond-true _ x (v.word (z / 1024) i) (eq-eqb _ _ (omega arith))))
            (λ ne. others _ (omega arith) ∙ res.1 i li ∙ sym (cond-false _ x (v.word (z / 1024) i) (ne_eqb _ _ (omega arith))))
            (cases_eq i (z % 1024));
        frames = λ h uh ne i li. others _ (omega arith);
        sectors = λ q lq i li. refl;
        hand = ap (λ h. p.layout.zeros + 1 + h) (others hand_at (omega arith));
      })

  pub store_from : (z x : ℕ) (c : Contents) (d : Behind) → PagesHeld p v g c d → c.regs 26 ≡ z → c.regs 22 ≡ x → x < 2 ^ 32 → z < 1024 * p.layout.pages → v.live (z / 1024) ≡ true → From w (write_word_code p page.code) (3 + (fault_steps b + (1 + 11 + 2))) c d (λ c' d'. PagesHeld p (with_page_word v z x) g c' d' × (c'.regs 2 ≡ 1))
  store_from z x c d h at ax sx lz al =
      let low = si.low in let first = si.first in let second = si.second in let third = si.third in let small = f.small in let pages = si.pages in
      straight_then w f (Addu 27 22 0 ∷ Srl 16 26 10 ∷ Addiu 15 0 1 ∷ []) _ (Gives x ∷ Gives (z / 1024) ∷ Gives 1 ∷ []) (fault_steps b + (1 + 11 + 2)) c d _ refl h.idle (λ n. (omega arith, (ap (λ z. z / 2 ^ 10) at, (refl, tt))))
      (λ n. from_then w f page.code ((Addu 8 26 0 ∷ locate_code p) ++ (Sw 27 8 0 ∷ Addiu 2 0 1 ∷ [])) (fault_steps b) (1 + 11 + 2) (with_reg (with_reg (with_reg c 27 x) 16 (z / 1024)) 15 1) d (Came p v g (z / 1024) true (with_reg (with_reg (with_reg c 27 x) 16 (z / 1024)) 15 1) d) _
      (brings_one w f p b si page g v (z / 1024) true (with_reg (with_reg (with_reg c 27 x) 16 (z / 1024)) 15 1) d (record { stands = h.stands; small = h.small; low = h.low; above = h.above; special = h.special; r28 = h.r28; r29 = h.r29; r30 = h.r30; r31 = h.r31; behind = h.behind; idle = h.idle }) refl (omega arith) al (λ e. absurd (cc)) (λ e. omega arith))
      (λ c1 d1 k1. let r26 : c1.regs 26 ≡ z = k1.keeps.r26 ∙ at in let r27 : c1.regs 27 ≡ x = k1.keeps.r27 in
      let pass : IsAccessible (paged_view p c1.memory d1.sectors) (z / 1024) true = f.handled.passes p.layout (z / 1024) true _ _ k1.brought.handled in
      let res = resident c1.memory d1.sectors (z / 1024) true k1.held.stands (omega arith) al pass in let fr0 = res.0.0 in let fr1 = res.0.1 in
      from_then w f (Addu 8 26 0 ∷ locate_code p) (Sw 27 8 0 ∷ Addiu 2 0 1 ∷ []) (1 + 11) 2 c1 d1 (Located p z (with_reg c1 8 z) d1) _
      (straight_then w f (Addu 8 26 0 ∷ []) (locate_code p) (Gives z ∷ []) 11 c1 d1 (Located p z (with_reg c1 8 z) d1) refl k1.held.idle (λ n. (omega arith, tt))
      (λ n. locate_from w f p b si z (with_reg c1 8 z) d1 refl lz (k1.held.small (z / 1024) (omega arith)) k1.held.idle))
      (λ c2 d2 k2. let address = k2.address in let idle2 = ap (λ d. d.pending) k2.disk ∙ k1.held.idle in
      let at2 : ℕ = 1024 * (c1.memory (p.tables + z / 1024) / 4096) + z % 1024 in
      let same : (y : ℕ) → c2.memory y ≡ c1.memory y = λ y. ap (λ m. m y) k2.memory in
      from_straight w f (Sw 27 8 0 ∷ Addiu 2 0 1 ∷ []) (Writes (1024 * (c1.memory (p.tables + z / 1024) / 4096) + z % 1024) x ∷ Gives 1 ∷ []) c2 d2 _ refl idle2
      (λ n. (
        ((omega arith, omega arith, si.free _ (omega arith) (omega arith), k2.keeps.r27 ∙ r27), (refl, tt)),
        (kept_held z x lz al c1 d1 k1.held pass c2 d2 k2, refl),
      )))))
    where
      kept_held : (z x : ℕ) → z < 1024 * p.layout.pages → v.live (z / 1024) ≡ true → (c1 : Contents) (d1 : Behind) → PagesHeld p v g c1 d1 → IsAccessible (paged_view p c1.memory d1.sectors) (z / 1024) true → (c2 : Contents) (d2 : Behind) → Located p z (with_reg c1 8 z) d1 c2 d2
          → PagesHeld p (with_page_word v z x) g (with_reg (record c2 { memory = put c2.memory (1024 * (c1.memory (p.tables + z / 1024) / 4096) + z % 1024) x }) 2 1) d2
      kept_held z x lz al c1 d1 h1 pass c2 d2 k2 =
          let low = si.low in let first = si.first in let second = si.second in
          let res = resident c1.memory d1.sectors (z / 1024) true h1.stands (omega arith) al pass in let fr0 = res.0.0 in
          let others : (y : ℕ) → y ≢ 1024 * (c1.memory (p.tables + z / 1024) / 4096) + z % 1024 → put c2.memory (1024 * (c1.memory (p.tables + z / 1024) / 4096) + z % 1024) x y ≡ c1.memory y = λ y ne. put_other c2.memory (1024 * (c1.memory (p.tables + z / 1024) / 4096) + z % 1024) x y ne ∙ ap (λ m. m y) k2.memory in
          record {
            stands = subst (λ t. PagingInvariant p.layout (with_page_word v z x) (paged_view p (put c2.memory (1024 * (c1.memory (p.tables + z / 1024) / 4096) + z % 1024) x) t.sectors)) (sym k2.disk) (wrote z x c1.memory (put c2.memory (1024 * (c1.memory (p.tables + z / 1024) / 4096) + z % 1024) x) d1.sectors lz al h1.stands pass (put_same c2.memory (1024 * (c1.memory (p.tables + z / 1024) / 4096) + z % 1024) x (1024 * (c1.memory (p.tables + z / 1024) / 4096) + z % 1024) refl) others);
            small = λ y ly. subst (λ m. m < 2 ^ 32) (sym (others (p.tables + y) (omega arith))) (h1.small y ly);
            low = λ y ly ne. others y (omega arith) ∙ h1.low y ly ne;
            above = λ y le ly. others y (omega arith) ∙ h1.above y le ly;
            special = k2.keeps.special ∙ h1.special;
            r28 = k2.keeps.r28 ∙ h1.r28;
            r29 = k2.keeps.r29 ∙ h1.r29;
            r30 = k2.keeps.r30 ∙ h1.r30;
            r31 = k2.keeps.r31 ∙ h1.r31;
            behind = subst (BehindStays p g) (sym (k2.disk)) h1.behind;
            idle = ap (λ d. d.pending) k2.disk ∙ h1.idle;
          }

-- a good word is below the pages, and its page is live
pub number_good : (p : TableLayout) (users per : ℕ) (size : ℕ → ℕ) (v : Pages) (c : Contents) (u a : ℕ) → UsersIn p users per size v c → WordGood users size u a → (number_of_word per u a < 1024 * p.layout.pages) × (v.live (number_of_word per u a / 1024) ≡ true)
number_good p users per size v c u a us good =
    let g0 = good.0 in let g1 = good.1 in let g3 = good.3 in
    let fit = us.fit u g0 g1 in let shape = us.shape in
    let bound = product_below (u - 1) users per (omega arith) in
    let e : number_of_word per u a / 1024 ≡ (u - 1) * per + a / 4096 = omega arith in
    (omega arith, ap v.live e ∙ us.live u (a / 4096) g0 g1 (omega arith) ∙ lt-ltb (a / 4096) (size u) (omega arith))

module _ (w : World) (f : RoutineLaws w) (p : TableLayout) (b : ℕ) (si : Sited p w) (page : PageBlock w p b) (users per : ℕ) (size : ℕ → ℕ) (v : Pages) (c : Contents) (d : Behind) (held : PagesHeld p v (entry_state c d) c d) (us : UsersIn p users per size v c) (u a : ℕ) (ru : c.regs 20 ≡ u) (ra : c.regs 21 ≡ a) (su : u < 2 ^ 32) (sa : a < 2 ^ 32) where
  quiet_held : (c1 : Contents) (d1 : Behind) → Quiet c d c1 d1 → PagesHeld p v (entry_state c d) c1 d1
  quiet_held c1 d1 k = held_to p v (entry_state c d) c d c1 d1 held k.memory k.special k.r28 k.r29 k.r30 k.r31 k.disk

  load_short : length (read_word_code p page.code) ≤ 30000
  load_short = let s = page.short in let l = length-append page.code ((Addu 8 26 0 ∷ locate_code p) ++ (Lw 2 8 0 ∷ [])) in omega arith

  store_short : length (write_word_code p page.code) ≤ 30000
  store_short = let s = page.short in let l = length-append page.code ((Addu 8 26 0 ∷ locate_code p) ++ (Sw 27 8 0 ∷ Addiu 2 0 1 ∷ [])) in omega arith

  -- VM_WORD: the word, within two units and a page; or -1, within a unit
  pub vm_word_good : WordGood users size u a → From w (vm_word_code p users per page.code) (1200 + steps_of_page p.layout.pages b) c d (λ c' d'. PagesHeld p v (entry_state c d) c' d' × (c'.regs 2 ≡ word_of_pages v (number_of_word per u a)))
  vm_word_good good =
      from_later w f _ (3 + (8 + (3 + (3 + (2 + (fault_steps b + (1 + 11 + 1)))) + 1 + 1) + 1)) _ c d _ _ (omega arith) (λ c' d' k. k)
      (asked_from w f p b si users per size v 65535 (2 + (fault_steps b + (1 + 11 + 1))) (read_word_code p page.code) (λ c' d'. PagesHeld p v (entry_state c d) c' d' × (c'.regs 2 ≡ word_of_pages v (number_of_word per u a))) c d u a held.idle us ru ra su sa load_short
      (λ good c1 d1 k at. let z = number_good p users per size v c u a us good in load_from w f p b si page v (entry_state c d) (number_of_word per u a) c1 d1 (quiet_held c1 d1 k) at z.0 z.1)
      (λ bad c1 d1 k at. absurd (bad good)))

  pub vm_word_bad : (WordGood users size u a → ⊥) → From w (vm_word_code p users per page.code) 598 c d (λ c' d'. PagesHeld p v (entry_state c d) c' d' × (c'.regs 2 ≡ 2 ^ 32 - 1))
  vm_word_bad bad =
      from_later w f _ (3 + (8 + (3 + (3 + 0) + 1 + 1) + 1)) _ c d _ _ (omega arith) (λ c' d' k. k)
      (asked_from w f p b si users per size v 65535 0 (read_word_code p page.code) (λ c' d'. PagesHeld p v (entry_state c d) c' d' × (c'.regs 2 ≡ 2 ^ 32 - 1)) c d u a held.idle us ru ra su sa load_short
      (λ good. absurd (bad good))
      (λ bad c1 d1 k at. (quiet_held c1 d1 k, at)))

  -- VM_PUT: true (1) with the word f.stores, or false (0)
  pub vm_put_good : (x : ℕ) → c.regs 22 ≡ x → x < 2 ^ 32 → WordGood users size u a → From w (vm_put_code p users per page.code) (1200 + steps_of_page p.layout.pages b) c d (λ c' d'. PagesHeld p (with_page_word v (number_of_word per u a) x) (entry_state c d) c' d' × (c'.regs 2 ≡ 1))
  vm_put_good x rx sx good =
      from_later w f _ (3 + (8 + (3 + (3 + (3 + (fault_steps b + (1 + 11 + 2)))) + 1 + 1) + 1)) _ c d _ _ (omega arith) (λ c' d' k. k)
      (asked_from w f p b si users per size v 0 (3 + (fault_steps b + (1 + 11 + 2))) (write_word_code p page.code) (λ c' d'. PagesHeld p (with_page_word v (number_of_word per u a) x) (entry_state c d) c' d' × (c'.regs 2 ≡ 1)) c d u a held.idle us ru ra su sa store_short
      (λ good c1 d1 k at. let z = number_good p users per size v c u a us good in store_from w f p b si page v (entry_state c d) (number_of_word per u a) x c1 d1 (quiet_held c1 d1 k) at (k.r22 ∙ rx) sx z.0 z.1)
      (λ bad c1 d1 k at. absurd (bad good)))

  pub vm_put_bad : (WordGood users size u a → ⊥) → From w (vm_put_code p users per page.code) 598 c d (λ c' d'. PagesHeld p v (entry_state c d) c' d' × (c'.regs 2 ≡ 0))
  vm_put_bad bad =
      from_later w f _ (3 + (8 + (3 + (3 + 0) + 1 + 1) + 1)) _ c d _ _ (omega arith) (λ c' d' k. k)
      (asked_from w f p b si users per size v 0 0 (write_word_code p page.code) (λ c' d'. PagesHeld p v (entry_state c d) c' d' × (c'.regs 2 ≡ 0)) c d u a held.idle us ru ra su sa store_short
      (λ good. absurd (bad good))
      (λ bad c1 d1 k at. (quiet_held c1 d1 k, at)))
