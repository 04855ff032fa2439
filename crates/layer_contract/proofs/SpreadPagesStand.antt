-- Pages in all places, of two users over two frames: the page tables are words 20,480 on, the frame table 21,504 on, the zero frame is
-- number 22, and the user frames are 23 and 24.
use Rattle.std.proofs.Common.{◌≡◌, ◌≢◌, ℕ, zero, suc, ◌+◌, ◌*◌, ◌/◌, ◌%◌, ◌<◌, ◌≤◌, ◌⊎◌, true, false, cond, nat_eq, List, [], ◌∷◌, length, slice_index, refl, sym, ap, ◌∙◌, subst, ⊎_elim, inl, inr, arith, ne_eqb, eq-eqb, true≢false}
use Rattle.std.proofs.lemmas.Bool.{cases_eq, cond-true}
use Rattle.mips_table.specs.Device.{sector_of}
use Rattle.mips_table.specs.Machine.{State, zero_cpu}
use Rattle.mips_table.specs.Flat.{Flat}
use Rattle.page_model.specs.Paging.{IsUserFrame, MapsTo, Protected, counted_entries, shown_word, Paged, Pages, Listed, PagingInvariant}
use Rattle.page_model.specs.TableLayout.{page_layout}
use Rattle.cvm_model.specs.Paged.{paged_of, pages_by}
use Rattle.layer_contract.specs.Samples.{spread_word, spread_map, AreSpread}

-- the words of memory from the page tables on
abbrev pub high : ℕ → ℕ
high k =
    cond (nat_eq k 20480) 96256 (
    cond (nat_eq k 20481) 101376 (
    cond (nat_eq k 20482) 93184 (
    cond (nat_eq k 20484) 101376 (
    cond (nat_eq k 21504) 1 (
    cond (nat_eq k 21512) 2 (
    cond (nat_eq k 21513) 1 (
    cond (nat_eq k 21514) 4 (
    cond (nat_eq k 23552) 12 (
    cond (nat_eq k 24576) 12
    0)))))))))

-- what holds of each of eight pages
each : (P : ℕ → Type 0) → P 0 → P 1 → P 2 → P 3 → P 4 → P 5 → P 6 → P 7 → (q : ℕ) → q < 8 → P q
each P a b c d e f g h zero lt = a
each P a b c d e f g h (suc zero) lt = b
each P a b c d e f g h (suc (suc zero)) lt = c
each P a b c d e f g h (suc (suc (suc zero))) lt = d
each P a b c d e f g h (suc (suc (suc (suc zero)))) lt = e
each P a b c d e f g h (suc (suc (suc (suc (suc zero))))) lt = f
each P a b c d e f g h (suc (suc (suc (suc (suc (suc zero)))))) lt = g
each P a b c d e f g h (suc (suc (suc (suc (suc (suc (suc zero))))))) lt = h
each P a b c d e f g h (suc (suc (suc (suc (suc (suc (suc (suc n)))))))) lt = absurd (omega arith)

-- a word of a frame that begins with 12
first_or_zero : (k i : ℕ) → k ≡ 23552 ⊎ (k ≡ 24576) → i < 1024 → high (k + i) ≡ cond (nat_eq i 0) 12 0
first_or_zero k i which lt = ⊎_elim
    (λ e. ⊎_elim
    (λ a. ap high (let n : k + i ≡ 23552 = omega arith in n) ∙ sym (cond-true _ 12 0 (eq-eqb i 0 e)))
    (λ b. ap high (let n : k + i ≡ 24576 = omega arith in n) ∙ sym (cond-true _ 12 0 (eq-eqb i 0 e)))
    which)
    (λ ne.
    let low : 23552 < k + i = ⊎_elim (λ a. omega arith) (λ b. omega arith) which in
    let not : k + i ≢ 24576 = λ e. ⊎_elim (λ a. absurd (omega arith)) (λ b. absurd (omega arith)) which in
    rw (
      ne_eqb (k + i) 20480 (λ e. absurd (omega arith)),
      ne_eqb (k + i) 20481 (λ e. absurd (omega arith)),
      ne_eqb (k + i) 20482 (λ e. absurd (omega arith)),
      ne_eqb (k + i) 20484 (λ e. absurd (omega arith)),
      ne_eqb (k + i) 21504 (λ e. absurd (omega arith)),
      ne_eqb (k + i) 21512 (λ e. absurd (omega arith)),
      ne_eqb (k + i) 21513 (λ e. absurd (omega arith)),
      ne_eqb (k + i) 21514 (λ e. absurd (omega arith)),
      ne_eqb (k + i) 23552 (λ e. absurd (omega arith)),
      ne_eqb (k + i) 24576 not,
      ne_eqb i 0 ne,
    ) refl)
    (cases_eq i 0)

-- the zero frame
zero_words : (i : ℕ) → i < 1024 → high (22528 + i) ≡ 0
zero_words i lt = rw (
  ne_eqb (22528 + i) 20480 (λ e. absurd (omega arith)),
  ne_eqb (22528 + i) 20481 (λ e. absurd (omega arith)),
  ne_eqb (22528 + i) 20482 (λ e. absurd (omega arith)),
  ne_eqb (22528 + i) 20484 (λ e. absurd (omega arith)),
  ne_eqb (22528 + i) 21504 (λ e. absurd (omega arith)),
  ne_eqb (22528 + i) 21512 (λ e. absurd (omega arith)),
  ne_eqb (22528 + i) 21513 (λ e. absurd (omega arith)),
  ne_eqb (22528 + i) 21514 (λ e. absurd (omega arith)),
  ne_eqb (22528 + i) 23552 (λ e. absurd (omega arith)),
  ne_eqb (22528 + i) 24576 (λ e. absurd (omega arith)),
) refl

first_page : (i : ℕ) → i < 1024 → spread_word i ≡ cond (nat_eq i 0) 12 0
first_page i lt = rw (ne_eqb i 1024 (λ e. absurd (omega arith)), ne_eqb i 3072 (λ e. absurd (omega arith))) refl

second_page : (i : ℕ) → i < 1024 → spread_word (1024 + i) ≡ cond (nat_eq i 0) 12 0
second_page i lt = ⊎_elim
    (λ e. ap (λ i. spread_word (1024 + i)) e ∙ sym (cond-true _ 12 0 (eq-eqb i 0 e)))
    (λ ne. rw (ne_eqb (1024 + i) 0 (λ e. absurd (omega arith)), ne_eqb (1024 + i) 1024 (λ e. ne (omega arith)), ne_eqb (1024 + i) 3072 (λ e. absurd (omega arith)), ne_eqb i 0 ne) refl)
    (cases_eq i 0)

third_page : (i : ℕ) → i < 1024 → spread_word (2048 + i) ≡ 0
third_page i lt = rw (ne_eqb (2048 + i) 0 (λ e. absurd (omega arith)), ne_eqb (2048 + i) 1024 (λ e. absurd (omega arith)), ne_eqb (2048 + i) 3072 (λ e. absurd (omega arith))) refl

-- two users with such words
abbrev pub two_users : (ws vs : List ℕ) → List Flat
two_users ws vs = record { cpu = zero_cpu; words = ws } ∷ record { cpu = zero_cpu; words = vs } ∷ []

module _ (ws vs : List ℕ) (long : length ws ≡ 4096) (short : length vs ≡ 1024) (first_word : (k : ℕ) → k < 3073 → slice_index ws k ≡ spread_word k) (second_word : (i : ℕ) → slice_index vs i ≡ cond (nat_eq i 0) 12 0)
    (s : State) (at : (k : ℕ) → 20480 ≤ k → k < 25600 → slice_index s.memory k ≡ high k) (hand : slice_index s.memory 1025 ≡ 0)
    (sector : (i : ℕ) → i < 1024 → slice_index (sector_of s.device.sectors 3) i ≡ (pages_by 4 (two_users ws vs)).word 3 i) where
  abbrev a : Paged
  a = paged_of spread_map s

  e0 : slice_index s.memory 20480 ≡ 96256
  e0 = at 20480 (omega arith) (omega arith)

  e1 : slice_index s.memory 20481 ≡ 101376
  e1 = at 20481 (omega arith) (omega arith)

  e2 : slice_index s.memory 20482 ≡ 93184
  e2 = at 20482 (omega arith) (omega arith)

  e3 : slice_index s.memory 20483 ≡ 0
  e3 = at 20483 (omega arith) (omega arith)

  e4 : slice_index s.memory 20484 ≡ 101376
  e4 = at 20484 (omega arith) (omega arith)

  e5 : slice_index s.memory 20485 ≡ 0
  e5 = at 20485 (omega arith) (omega arith)

  e6 : slice_index s.memory 20486 ≡ 0
  e6 = at 20486 (omega arith) (omega arith)

  e7 : slice_index s.memory 20487 ≡ 0
  e7 = at 20487 (omega arith) (omega arith)

  -- a page in a frame that begins with 12
  in_frame : (k i : ℕ) → k ≡ 23552 ⊎ (k ≡ 24576) → i < 1024 → slice_index s.memory (k + i) ≡ cond (nat_eq i 0) 12 0
  in_frame k i which lt =
      let from : 23552 ≤ k = ⊎_elim (λ e. omega arith) (λ e. omega arith) which in
      let to : k ≤ 24576 = ⊎_elim (λ e. omega arith) (λ e. omega arith) which in
      at (k + i) (omega arith) (omega arith) ∙ first_or_zero k i which lt

  shown_0 : (i : ℕ) → shown_word a 0 i ≡ slice_index s.memory (23552 + i)
  shown_0 i = rw e0 refl

  shown_1 : (i : ℕ) → shown_word a 1 i ≡ slice_index s.memory (24576 + i)
  shown_1 i = rw e1 refl

  shown_2 : (i : ℕ) → shown_word a 2 i ≡ slice_index s.memory (22528 + i)
  shown_2 i = rw e2 refl

  shown_3 : (i : ℕ) → shown_word a 3 i ≡ slice_index (sector_of s.device.sectors 3) i
  shown_3 i = rw e3 refl

  shown_4 : (i : ℕ) → shown_word a 4 i ≡ slice_index s.memory (24576 + i)
  shown_4 i = rw e4 refl

  count_23 : counted_entries a.entry 23 8 ≡ 1
  count_23 = rw (e0, e1, e2, e3, e4, e5, e6, e7) refl

  count_24 : counted_entries a.entry 24 8 ≡ 2
  count_24 = rw (e0, e1, e2, e3, e4, e5, e6, e7) refl

  frames : (f : ℕ) → IsUserFrame (page_layout spread_map) f → (f ≡ 23) ⊎ (f ≡ 24)
  frames f is = let from : 22 < f = is.0 in let to : f ≤ 24 = is.1 in ⊎_elim (λ e. inl e) (λ ne. inr (omega arith)) (cases_eq f 23)

  -- page 0 is in the first slot of frame 23, pages 1 and 4 in those of frame 24
  count_at_23 : a.count 23 ≡ 1
  count_at_23 = at 21504 (omega arith) (omega arith)

  slot_23 : a.slot 23 0 ≡ 0
  slot_23 = at 21505 (omega arith) (omega arith)

  count_at_24 : a.count 24 ≡ 2
  count_at_24 = at 21512 (omega arith) (omega arith)

  slot_24_0 : a.slot 24 0 ≡ 1
  slot_24_0 = at 21513 (omega arith) (omega arith)

  slot_24_1 : a.slot 24 1 ≡ 4
  slot_24_1 = at 21514 (omega arith) (omega arith)

  slot_24 : (k : ℕ) → k < a.count 24 → ((k ≡ 0) × (a.slot 24 k ≡ 1)) ⊎ ((k ≡ 1) × (a.slot 24 k ≡ 4))
  slot_24 k lt = let n = count_at_24 in ⊎_elim
      (λ z. inl (z, ap (λ k. a.slot 24 k) z ∙ slot_24_0))
      (λ nz. let o : k ≡ 1 = omega arith in inr (o, ap (λ k. a.slot 24 k) o ∙ slot_24_1))
      (cases_eq k 0)

  slot_of_23 : (k : ℕ) → k < a.count 23 → (k ≡ 0) × (a.slot 23 k ≡ 0)
  slot_of_23 k lt = let n = count_at_23 in let z : k ≡ 0 = omega arith in (z, ap (λ k. a.slot 23 k) z ∙ slot_23)

  list_23 : Listed (page_layout spread_map) a 23
  list_23 = record {
    inside = λ k lt. subst (λ y. y < 8) (sym (slot_of_23 k lt).1) (omega arith);
    names = λ k lt. ap (λ q. a.entry q / 2048) (slot_of_23 k lt).1 ∙ ap (λ e. e / 2048) e0;
    apart = λ j k lj lk eq. (slot_of_23 j lj).0 ∙ sym (slot_of_23 k lk).0;
  }

  list_24 : Listed (page_layout spread_map) a 24
  list_24 = record {
    inside = λ k lt. ⊎_elim (λ x. subst (λ y. y < 8) (sym x.1) (omega arith)) (λ x. subst (λ y. y < 8) (sym x.1) (omega arith)) (slot_24 k lt);
    names = λ k lt. ⊎_elim (λ x. ap (λ q. a.entry q / 2048) x.1 ∙ ap (λ e. e / 2048) e1) (λ x. ap (λ q. a.entry q / 2048) x.1 ∙ ap (λ e. e / 2048) e4) (slot_24 k lt);
    apart = λ j k lj lk eq. ⊎_elim
        (λ x. let x1 = x.1 in ⊎_elim (λ y. x.0 ∙ sym y.0) (λ y. let y1 = y.1 in absurd (omega arith)) (slot_24 k lk))
        (λ x. let x1 = x.1 in ⊎_elim (λ y. let y1 = y.1 in absurd (omega arith)) (λ y. x.0 ∙ sym y.0) (slot_24 k lk))
        (slot_24 j lj);
  }

  abbrev v : Pages
  v = pages_by 4 (two_users ws vs)

  live_0 : v.live 0 ≡ true
  live_0 = rw long refl

  live_1 : v.live 1 ≡ true
  live_1 = rw long refl

  live_2 : v.live 2 ≡ true
  live_2 = rw long refl

  live_3 : v.live 3 ≡ true
  live_3 = rw long refl

  live_4 : v.live 4 ≡ true
  live_4 = rw short refl

  dead_5 : v.live 5 ≡ false
  dead_5 = rw short refl

  dead_6 : v.live 6 ≡ false
  dead_6 = rw short refl

  dead_7 : v.live 7 ≡ false
  dead_7 = rw short refl

  word_0 : (i : ℕ) → v.word 0 i ≡ slice_index ws i
  word_0 i = ap (slice_index ws) (let e : 0 + i ≡ i = omega arith in e)

  word_4 : (i : ℕ) → v.word 4 i ≡ slice_index vs i
  word_4 i = ap (slice_index vs) (let e : 0 + i ≡ i = omega arith in e)

  abbrev Live : ℕ → Type 0
  Live q = v.live q ≡ true → (i : ℕ) → i < 1024 → shown_word a q i ≡ v.word q i

  pub pages_spread : PagingInvariant (page_layout spread_map) v a
  pages_spread = record {
    pages = each Live
        (λ live i lt. shown_0 i ∙ in_frame 23552 i (inl refl) lt ∙ sym (word_0 i ∙ first_word i (omega arith) ∙ first_page i lt))
        (λ live i lt. shown_1 i ∙ in_frame 24576 i (inr refl) lt ∙ sym (first_word (1024 + i) (omega arith) ∙ second_page i lt))
        (λ live i lt. shown_2 i ∙ at (22528 + i) (omega arith) (omega arith) ∙ zero_words i lt ∙ sym (first_word (2048 + i) (omega arith) ∙ third_page i lt))
        (λ live i lt. shown_3 i ∙ sector i lt)
        (λ live i lt. shown_4 i ∙ in_frame 24576 i (inr refl) lt ∙ sym (word_4 i ∙ second_word i))
        (λ live. absurd (true≢false (sym live ∙ dead_5)))
        (λ live. absurd (true≢false (sym live ∙ dead_6)))
        (λ live. absurd (true≢false (sym live ∙ dead_7)));
    dead = each (λ q. v.live q ≡ false → a.entry q / 2048 % 2 ≡ 0)
        (λ d. absurd (true≢false (sym live_0 ∙ d))) (λ d. absurd (true≢false (sym live_1 ∙ d))) (λ d. absurd (true≢false (sym live_2 ∙ d))) (λ d. absurd (true≢false (sym live_3 ∙ d))) (λ d. absurd (true≢false (sym live_4 ∙ d)))
        (λ d. rw e5 refl) (λ d. rw e6 refl) (λ d. rw e7 refl);
    named = λ q f lt names. each (λ q. MapsTo (a.entry q) f → (22 ≤ f) × (f ≤ 24))
        (λ n. let h : 96256 / 2048 ≡ 2 * f + 1 = ap (λ e. e / 2048) (sym e0) ∙ n in (omega arith, omega arith))
        (λ n. let h : 101376 / 2048 ≡ 2 * f + 1 = ap (λ e. e / 2048) (sym e1) ∙ n in (omega arith, omega arith))
        (λ n. let h : 93184 / 2048 ≡ 2 * f + 1 = ap (λ e. e / 2048) (sym e2) ∙ n in (omega arith, omega arith))
        (λ n. let h : 0 ≡ 2 * f + 1 = ap (λ e. e / 2048) (sym e3) ∙ n in absurd (omega arith))
        (λ n. let h : 101376 / 2048 ≡ 2 * f + 1 = ap (λ e. e / 2048) (sym e4) ∙ n in (omega arith, omega arith))
        (λ n. let h : 0 ≡ 2 * f + 1 = ap (λ e. e / 2048) (sym e5) ∙ n in absurd (omega arith))
        (λ n. let h : 0 ≡ 2 * f + 1 = ap (λ e. e / 2048) (sym e6) ∙ n in absurd (omega arith))
        (λ n. let h : 0 ≡ 2 * f + 1 = ap (λ e. e / 2048) (sym e7) ∙ n in absurd (omega arith)) q lt names;
    counts = λ f is. ⊎_elim
        (λ e. subst (λ f. a.count f ≡ counted_entries a.entry f 8) (sym e) (at 21504 (omega arith) (omega arith) ∙ sym count_23))
        (λ e. subst (λ f. a.count f ≡ counted_entries a.entry f 8) (sym e) (at 21512 (omega arith) (omega arith) ∙ sym count_24))
        (frames f is);
    lists = λ f is. ⊎_elim (λ e. subst (Listed (page_layout spread_map) a) (sym e) list_23) (λ e. subst (Listed (page_layout spread_map) a) (sym e) list_24) (frames f is);
    few = λ f is. ⊎_elim
        (λ e. let c : counted_entries a.entry f 8 ≡ 1 = ap (λ f. counted_entries a.entry f 8) e ∙ count_23 in omega arith)
        (λ e. let c : counted_entries a.entry f 8 ≡ 2 = ap (λ f. counted_entries a.entry f 8) e ∙ count_24 in omega arith)
        (frames f is);
    shared = λ q f lt names why. each (λ q. MapsTo (a.entry q) f → (f ≡ 22) ⊎ (2 ≤ counted_entries a.entry f 8) → Protected (a.entry q))
        (λ n why.
        let h : 96256 / 2048 ≡ 2 * f + 1 = ap (λ e. e / 2048) (sym e0) ∙ n in
        let is : f ≡ 23 = omega arith in
        let c : counted_entries a.entry f 8 ≡ 1 = ap (λ f. counted_entries a.entry f 8) is ∙ count_23 in
        ⊎_elim (λ z. absurd (omega arith)) (λ m. absurd (omega arith)) why)
        (λ n why. rw e1 refl)
        (λ n why. rw e2 refl)
        (λ n why. let h : 0 ≡ 2 * f + 1 = ap (λ e. e / 2048) (sym e3) ∙ n in absurd (omega arith))
        (λ n why. rw e4 refl)
        (λ n why. let h : 0 ≡ 2 * f + 1 = ap (λ e. e / 2048) (sym e5) ∙ n in absurd (omega arith))
        (λ n why. let h : 0 ≡ 2 * f + 1 = ap (λ e. e / 2048) (sym e6) ∙ n in absurd (omega arith))
        (λ n why. let h : 0 ≡ 2 * f + 1 = ap (λ e. e / 2048) (sym e7) ∙ n in absurd (omega arith)) q lt names why;
    zero = λ i lt. at (22528 + i) (omega arith) (omega arith) ∙ zero_words i lt;
    hand = (omega (arith, hand), omega (arith, hand));
  }

  pub are_spread : AreSpread a
  are_spread = record { own = rw e0 refl; shared = rw e1 refl; shared_too = rw e4 refl; zero = rw e2 refl; swapped = e3 }
