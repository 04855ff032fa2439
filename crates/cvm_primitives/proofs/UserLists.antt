-- The users' lists, from the numbers of their pages and words.
use Rattle.std.proofs.Common.{◌≡◌, ◌≢◌, ℕ, zero, suc, ◌+◌, ◌-◌, ◌*◌, ◌/◌, ◌%◌, ◌<◌, ◌≤◌, ◌⊎◌, cond, nat_eq, nat_lt, List, length, take, drop, replicate, slice_index, slice_set, refl, sym, ap, ap₂, ◌∙◌, subst, ⊎_elim, inl, inr, arith, lt-ltb, le-ltb, eq-eqb, ne_eqb, get_or-set_same, get_or-set_other}
use Rattle.std.proofs.lemmas.Bool.{cases_eq, cases_lt, cond-true, cond-false, ltb-true}
use Rattle.std.proofs.lemmas.List.{get_or_append_left, get_or-append_right, get_or-take, get_or-drop, get_or-replicate, length-take-le, length-take, length-drop}
use Rattle.page_model.specs.Paging.{PageLayout, Pages, Paged, PagingInvariant}
use Rattle.cvm_primitives.proofs.UserMemories.{flat_of}
use Rattle.cvm_primitives.specs.Copy.{word_of_pages, with_page_word, copied, pages_cut, grown, piece_count}
use Rattle.cvm_primitives.specs.View.{WordGood, CopyArgs, ResizeGood, number_of_word}
use Rattle.cvm_primitives.proofs.UserMemories.{replaced, put_words, sized, Same, Lists, InLists}
use Rattle.cvm_primitives.proofs.ArgumentTests.{product_below}
use Rattle.cvm_primitives.proofs.CopyLoop.{word_before, word_in, word_past}
use Rattle.cvm_primitives.proofs.PagesResized.{before_is, within_is, past_is, grown_word, grown_zero}

-- the user and the page of a page's number
page_number : (per p u : ℕ) → p < per → ((u * per + p) / per ≡ u) × ((u * per + p) % per ≡ p)
page_number per p u lt = (grind arith, grind arith)

user_same : {A : Type 0} (all : ℕ → A) (u : ℕ) (new : A) (k : ℕ) → k ≡ u → replaced all u new k ≡ new
user_same all u new k e = cond-true (nat_eq k u) new (all k) (eq-eqb k u e)

user_other : {A : Type 0} (all : ℕ → A) (u : ℕ) (new : A) (k : ℕ) → k ≢ u → replaced all u new k ≡ all k
user_other all u new k ne = cond-false (nat_eq k u) new (all k) (ne_eqb k u ne)

parts_of : (per q : ℕ) → 0 < per → (q ≡ q / per * per + q % per) × (q % per < per)
parts_of per q pos = (grind arith, grind arith)

-- a page of user u, and a page of another
home : (per u q i : ℕ) → 0 < per → q / per + 1 ≡ u → 1024 * q + i ≡ 1024 * ((u - 1) * per) + (1024 * (q % per) + i)
home per u q i pos e =
    let d = parts_of per q pos in let d0 = d.0 in
    let m : q / per * per ≡ (u - 1) * per = ap (λ z. z * per) (omega arith) in
    omega arith

away : (per u q i : ℕ) → 0 < per → 0 < u → i < 1024 → q / per + 1 ≢ u → (1024 * q + i < 1024 * ((u - 1) * per)) ⊎ (1024 * ((u - 1) * per) + 1024 * per ≤ 1024 * q + i)
away per u q i pos some li ne =
    let d = parts_of per q pos in let d0 = d.0 in let d1 = d.1 in
    ⊎_elim
    (λ lt. let k = product_below (q / per) (u - 1) per lt in inl (omega arith))
    (λ le. let k = product_below (u - 1) (q / per) per (omega arith) in inr (omega arith))
    (cases_lt (q / per) (u - 1))

module _ (l : PageLayout) (users per : ℕ) (size : ℕ → ℕ) (memory : ℕ → List ℕ) (li : Lists users per size memory) where
  -- word z of a user's page range is a word of its list
  word_of : (u k : ℕ) → 0 < u → k < 1024 * per → word_of_pages (flat_of per size memory) (1024 * ((u - 1) * per) + k) ≡ slice_index (memory u) k
  word_of u k some lt =
      let e : (1024 * ((u - 1) * per) + k) / 1024 ≡ (u - 1) * per + k / 1024 = omega arith in
      let i : (1024 * ((u - 1) * per) + k) % 1024 ≡ k % 1024 = omega arith in
      let n = page_number per (k / 1024) (u - 1) (omega arith) in
      let n0 : ((u - 1) * per + k / 1024) / per + 1 ≡ u = ap (λ z. z + 1) n.0 ∙ omega arith in
      let at : 1024 * (k / 1024) + k % 1024 ≡ k = omega arith in
      ap₂ (flat_of per size memory).word e i ∙ ap₂ (λ z y. slice_index (memory z) (1024 * y + k % 1024)) n0 n.1 ∙ ap (slice_index (memory u)) at

  live_of : (u i : ℕ) → 0 < u → u ≤ users → i < per → (flat_of per size memory).live ((u - 1) * per + i) ≡ nat_lt i (size u)
  live_of u i some most lt =
      let n = page_number per i (u - 1) lt in
      let n0 : ((u - 1) * per + i) / per + 1 ≡ u = ap (λ z. z + 1) n.0 ∙ omega arith in
      ap₂ (λ z y. nat_lt y (size z)) n0 n.1

  -- words put into one list
  puts : (u : ℕ) (new : List ℕ) (f : Pages) → 0 < u → ((q : ℕ) → f.live q ≡ (flat_of per size memory).live q)
      → ((q i : ℕ) → i < 1024 → q / per + 1 ≡ u → f.word q i ≡ slice_index new (1024 * (q % per) + i))
      → ((q i : ℕ) → i < 1024 → q / per + 1 ≢ u → f.word q i ≡ (flat_of per size memory).word q i)
      → Same l f (flat_of per size (replaced memory u new))
  puts u new f some live here there = record {
    live = λ q lq. sym (live q);
    word = λ q i lq al ii. ⊎_elim
        (λ e. ap (λ m. slice_index m (1024 * (q % per) + i)) (user_same memory u new (q / per + 1) e) ∙ sym (here q i ii e))
        (λ ne. ap (λ m. slice_index m (1024 * (q % per) + i)) (user_other memory u new (q / per + 1) ne) ∙ sym (there q i ii ne))
        (cases_eq (q / per + 1) u);
  }

  put_in : (u a x : ℕ) → WordGood users size u a → Same l (with_page_word (flat_of per size memory) (number_of_word per u a) x) (flat_of per size (replaced memory u (slice_set (memory u) (a / 4) x)))
  put_in u a x good =
      let u0 = good.0 in let u1 = good.1 in let a3 = good.3 in let fit = li.fit u u0 u1 in let some = li.some in let len = li.lengths u u0 u1 in
      puts u (slice_set (memory u) (a / 4) x) (with_page_word (flat_of per size memory) (number_of_word per u a) x) u0 (λ q. refl)
      (λ q i ii e. let h = home per u q i li.some e in
      ⊎_elim
      (λ k. cond-true _ x ((flat_of per size memory).word q i) (eq-eqb _ _ (omega arith)) ∙ sym (ap (slice_index (slice_set (memory u) (a / 4) x)) k ∙ get_or-set_same (memory u) (a / 4) x 0 (omega arith)))
      (λ k. cond-false _ x ((flat_of per size memory).word q i) (ne_eqb _ _ (omega arith)) ∙ ap (λ z. slice_index (memory z) (1024 * (q % per) + i)) e ∙ sym (get_or-set_other (memory u) (a / 4) (1024 * (q % per) + i) x 0 k))
      (cases_eq (1024 * (q % per) + i) (a / 4)))
      (λ q i ii ne. let o = away per u q i li.some u0 ii ne in cond-false _ x ((flat_of per size memory).word q i) (ne_eqb _ _ (⊎_elim (λ h. omega arith) (λ h. omega arith) o)))

  copy_in : (u a t s n : ℕ) → CopyArgs users size u a t s n → Same l (copied (flat_of per size memory) (number_of_word per u a) (number_of_word per t s) n) (flat_of per size (replaced memory t (put_words (memory t) (s / 4) (memory u) (a / 4) n)))
  copy_in u a t s n g =
      let u0 = g.source.0 in let u1 = g.source.1 in let u2 = g.source.2 in let u3 = g.source.3 in let t0 = g.target.0 in let t1 = g.target.1 in let t2 = g.target.2 in let t3 = g.target.3 in
      let fu = li.fit u u0 u1 in let ft = li.fit t t0 t1 in let lu = li.lengths u u0 u1 in let lt = li.lengths t t0 t1 in
      let takes : length (take (s / 4) (memory t)) ≡ s / 4 = length-take-le (s / 4) (memory t) (omega arith) in
      let drops : length (drop (a / 4) (memory u)) ≡ length (memory u) - a / 4 = length-drop (a / 4) (memory u) in
      let middle : length (take n (drop (a / 4) (memory u))) ≡ n = length-take-le n (drop (a / 4) (memory u)) (omega arith) in
      puts t (put_words (memory t) (s / 4) (memory u) (a / 4) n) (copied (flat_of per size memory) (number_of_word per u a) (number_of_word per t s) n) t0 (λ q. refl)
      (λ q i ii e. let h = home per t q i li.some e in let k : ℕ = 1024 * (q % per) + i in
      let old : (flat_of per size memory).word q i ≡ slice_index (memory t) (1024 * (q % per) + i) = ap (λ z. slice_index (memory z) (1024 * (q % per) + i)) e in
      ⊎_elim
      (λ b. word_before (flat_of per size memory) (number_of_word per u a) (number_of_word per t s) n q i (omega arith) ∙ old
      ∙ sym (get_or_append_left (take (s / 4) (memory t)) _ 0 (1024 * (q % per) + i) (omega arith) ∙ get_or-take (s / 4) (memory t) (1024 * (q % per) + i) 0 b))
      (λ b. ⊎_elim
      (λ c. let z : number_of_word per u a + (1024 * q + i - number_of_word per t s) ≡ 1024 * ((u - 1) * per) + (a / 4 + (1024 * (q % per) + i - s / 4)) = omega arith in
      word_in (flat_of per size memory) (number_of_word per u a) (number_of_word per t s) n q i (omega arith) (omega arith) ∙ ap (word_of_pages (flat_of per size memory)) z ∙ word_of u (a / 4 + (1024 * (q % per) + i - s / 4)) u0 (omega arith)
      ∙ sym (get_or-append_right (take (s / 4) (memory t)) _ (s / 4) (1024 * (q % per) + i) 0 takes b ∙ get_or_append_left (take n (drop (a / 4) (memory u))) _ 0 (1024 * (q % per) + i - s / 4) (omega arith) ∙ get_or-take n (drop (a / 4) (memory u)) (1024 * (q % per) + i - s / 4) 0 (omega arith) ∙ get_or-drop (a / 4) (memory u) (1024 * (q % per) + i - s / 4) 0))
      (λ c. let z : s / 4 + n + (1024 * (q % per) + i - s / 4 - n) ≡ 1024 * (q % per) + i = omega arith in
      word_past (flat_of per size memory) (number_of_word per u a) (number_of_word per t s) n q i (omega arith) ∙ old
      ∙ sym (get_or-append_right (take (s / 4) (memory t)) _ (s / 4) (1024 * (q % per) + i) 0 takes b ∙ get_or-append_right (take n (drop (a / 4) (memory u))) _ n (1024 * (q % per) + i - s / 4) 0 middle (omega arith) ∙ get_or-drop (s / 4 + n) (memory t) (1024 * (q % per) + i - s / 4 - n) 0 ∙ ap (slice_index (memory t)) z))
      (cases_lt (1024 * (q % per) + i) (s / 4 + n)))
      (cases_lt (1024 * (q % per) + i) (s / 4)))
      (λ q i ii ne. ⊎_elim (λ h. word_before (flat_of per size memory) (number_of_word per u a) (number_of_word per t s) n q i (omega arith)) (λ h. word_past (flat_of per size memory) (number_of_word per u a) (number_of_word per t s) n q i (omega arith)) (away per t q i li.some t0 ii ne))

  pieces_in : (u a t s n : ℕ) → piece_count (number_of_word per u a) (number_of_word per t s) n ≡ piece_count (a / 4) (s / 4) n
  pieces_in u a t s zero = refl
  pieces_in u a t s (suc n) =
      let e : (number_of_word per u a + n) % 1024 ≡ (a / 4 + n) % 1024 = omega arith in
      let g : (number_of_word per t s + n) % 1024 ≡ (s / 4 + n) % 1024 = omega arith in
      ap₂ (λ y z. y + z) (pieces_in u a t s n) (ap₂ (λ y z. cond (nat_eq n 0) 1 (cond (nat_eq y 0) 1 (cond (nat_eq z 0) 1 0))) e g)

  -- sizes and memories of another user stay
  other_live : (u new q : ℕ) (words : List ℕ) → q / per + 1 ≢ u → (flat_of per (replaced size u new) (replaced memory u words)).live q ≡ (flat_of per size memory).live q
  other_live u new q words ne = ap (λ s. nat_lt (q % per) s) (user_other size u new (q / per + 1) ne)

  own_live : (u new q : ℕ) (words : List ℕ) → q / per + 1 ≡ u → (flat_of per (replaced size u new) (replaced memory u words)).live q ≡ nat_lt (q % per) new
  own_live u new q words e = ap (λ s. nat_lt (q % per) s) (user_same size u new (q / per + 1) e)

  old_live : (u q : ℕ) → q / per + 1 ≡ u → (flat_of per size memory).live q ≡ nat_lt (q % per) (size u)
  old_live u q e = ap (λ z. nat_lt (q % per) (size z)) e

  -- the words that stay, and the zeros
  kept_word : (u new k : ℕ) → 0 < u → u ≤ users → k < 1024 * new → k < 1024 * size u → slice_index (sized (memory u) new) k ≡ slice_index (memory u) k
  kept_word u new k some most a b =
      let len = li.lengths u some most in let t = length-take (1024 * new) (memory u) in
      get_or_append_left (take (1024 * new) (memory u)) (replicate (1024 * new - length (memory u)) 0) 0 k (omega arith) ∙ get_or-take (1024 * new) (memory u) k 0 a

  fresh_word : (u new k : ℕ) → 0 < u → u ≤ users → k < 1024 * new → 1024 * size u ≤ k → slice_index (sized (memory u) new) k ≡ 0
  fresh_word u new k some most a b =
      let len = li.lengths u some most in let t = length-take (1024 * new) (memory u) in
      get_or-append_right (take (1024 * new) (memory u)) (replicate (1024 * new - length (memory u)) 0) (1024 * size u) k 0 (omega arith) b ∙ get_or-replicate (1024 * new - length (memory u)) (k - 1024 * size u) 0 0 (omega arith)

  cut_in : (u new : ℕ) → ResizeGood users per u new → new < size u → Same l (pages_cut (flat_of per size memory) ((u - 1) * per + new) (size u - new)) (flat_of per (replaced size u new) (replaced memory u (sized (memory u) new)))
  cut_in u new good lt =
      let u0 = good.0 in let u1 = good.1 in let fit = li.fit u u0 u1 in record {
        live = λ q lq. ⊎_elim
            (λ e. let h = home per u q 0 li.some e in own_live u new q (sized (memory u) new) e ∙ sym (⊎_elim
            (λ a. (before_is (flat_of per size memory) ((u - 1) * per + new) (size u - new) q (omega arith)).0 ∙ old_live u q e ∙ lt-ltb _ _ (omega arith) ∙ sym (lt-ltb _ _ a))
            (λ a. ⊎_elim
            (λ b. (within_is (flat_of per size memory) ((u - 1) * per + new) (size u - new) q (omega arith) (omega arith)).0 ∙ sym (le-ltb _ _ a))
            (λ b. (past_is (flat_of per size memory) ((u - 1) * per + new) (size u - new) q (omega arith)).0 ∙ old_live u q e ∙ le-ltb _ _ b ∙ sym (le-ltb _ _ a))
            (cases_lt (q % per) (size u)))
            (cases_lt (q % per) new)))
            (λ ne. other_live u new q (sized (memory u) new) ne ∙ sym (⊎_elim (λ a. (before_is (flat_of per size memory) ((u - 1) * per + new) (size u - new) q (omega arith)).0) (λ a. (past_is (flat_of per size memory) ((u - 1) * per + new) (size u - new) q (omega arith)).0) (away per u q 0 li.some u0 (omega arith) ne)))
            (cases_eq (q / per + 1) u);
        word = λ q i lq al ii. ⊎_elim
            (λ e. let j : q % per < new = ltb-true _ _ (sym (own_live u new q (sized (memory u) new) e) ∙ al) in
            ap (λ m. slice_index m (1024 * (q % per) + i)) (user_same memory u (sized (memory u) new) (q / per + 1) e) ∙ kept_word u new (1024 * (q % per) + i) u0 u1 (omega arith) (omega arith) ∙ ap (λ z. slice_index (memory z) (1024 * (q % per) + i)) (sym e))
            (λ ne. ap (λ m. slice_index m (1024 * (q % per) + i)) (user_other memory u (sized (memory u) new) (q / per + 1) ne))
            (cases_eq (q / per + 1) u);
      }

  grown_in : (u new : ℕ) → ResizeGood users per u new → size u ≤ new → Same l (grown (flat_of per size memory) ((u - 1) * per + size u) (new - size u)) (flat_of per (replaced size u new) (replaced memory u (sized (memory u) new)))
  grown_in u new good le =
      let u0 = good.0 in let u1 = good.1 in let n2 = good.2 in let fit = li.fit u u0 u1 in record {
        live = λ q lq. ⊎_elim
            (λ e. let h = home per u q 0 li.some e in own_live u new q (sized (memory u) new) e ∙ sym (⊎_elim
            (λ a. (before_is (flat_of per size memory) ((u - 1) * per + size u) (new - size u) q (omega arith)).1 ∙ old_live u q e ∙ lt-ltb _ _ a ∙ sym (lt-ltb _ _ (omega arith)))
            (λ a. ⊎_elim
            (λ b. (within_is (flat_of per size memory) ((u - 1) * per + size u) (new - size u) q (omega arith) (omega arith)).1 ∙ sym (lt-ltb _ _ b))
            (λ b. (past_is (flat_of per size memory) ((u - 1) * per + size u) (new - size u) q (omega arith)).1 ∙ old_live u q e ∙ le-ltb _ _ a ∙ sym (le-ltb _ _ b))
            (cases_lt (q % per) new))
            (cases_lt (q % per) (size u))))
            (λ ne. other_live u new q (sized (memory u) new) ne ∙ sym (⊎_elim (λ a. (before_is (flat_of per size memory) ((u - 1) * per + size u) (new - size u) q (omega arith)).1) (λ a. (past_is (flat_of per size memory) ((u - 1) * per + size u) (new - size u) q (omega arith)).1) (away per u q 0 li.some u0 (omega arith) ne)))
            (cases_eq (q / per + 1) u);
        word = λ q i lq al ii. ⊎_elim
            (λ e. let h = home per u q 0 li.some e in let j : q % per < new = ltb-true _ _ (sym (own_live u new q (sized (memory u) new) e) ∙ al) in
            ap (λ m. slice_index m (1024 * (q % per) + i)) (user_same memory u (sized (memory u) new) (q / per + 1) e) ∙ ⊎_elim
            (λ a. kept_word u new (1024 * (q % per) + i) u0 u1 (omega arith) (omega arith) ∙ ap (λ z. slice_index (memory z) (1024 * (q % per) + i)) (sym e) ∙ sym (grown_word (flat_of per size memory) ((u - 1) * per + size u) (new - size u) q i (inl (omega arith))))
            (λ a. fresh_word u new (1024 * (q % per) + i) u0 u1 (omega arith) (omega arith) ∙ sym (grown_zero (flat_of per size memory) ((u - 1) * per + size u) (new - size u) q i (omega arith) (omega arith)))
            (cases_lt (q % per) (size u)))
            (λ ne. ap (λ m. slice_index m (1024 * (q % per) + i)) (user_other memory u (sized (memory u) new) (q / per + 1) ne) ∙ sym (grown_word (flat_of per size memory) ((u - 1) * per + size u) (new - size u) q i (⊎_elim (λ a. inl (omega arith)) (λ a. inr (omega arith)) (away per u q 0 li.some u0 (omega arith) ne))))
            (cases_eq (q / per + 1) u);
      }

  pub in_lists : InLists l users per size memory
  in_lists = record {
    live = live_of;
    word = λ u a g. let u0 = g.0 in let u1 = g.1 in let a3 = g.3 in let fit = li.fit u u0 u1 in word_of u (a / 4) u0 (omega arith);
    put = put_in;
    copy = copy_in;
    pieces = pieces_in;
    resize = λ u new g. ⊎_elim
        (λ lt. subst (λ v. Same l v (flat_of per (replaced size u new) (replaced memory u (sized (memory u) new)))) (sym (cond-true (nat_lt new (size u)) (pages_cut (flat_of per size memory) ((u - 1) * per + new) (size u - new)) (grown (flat_of per size memory) ((u - 1) * per + size u) (new - size u)) (lt-ltb new (size u) lt))) (cut_in u new g lt))
        (λ le. subst (λ v. Same l v (flat_of per (replaced size u new) (replaced memory u (sized (memory u) new)))) (sym (cond-false (nat_lt new (size u)) (pages_cut (flat_of per size memory) ((u - 1) * per + new) (size u - new)) (grown (flat_of per size memory) ((u - 1) * per + size u) (new - size u)) (le-ltb new (size u) le))) (grown_in u new g le))
        (cases_lt new (size u));
  }

pub stands_same : (l : PageLayout) (u v : Pages) (a : Paged) → Same l u v → PagingInvariant l u a → PagingInvariant l v a
stands_same l u v a e s = record {
  pages = λ q lt al i ii. s.pages q lt (sym (e.live q lt) ∙ al) i ii ∙ sym (e.word q i lt al ii);
  dead = λ q lt al. s.dead q lt (sym (e.live q lt) ∙ al);
  named = s.named;
  counts = s.counts;
  lists = s.lists;
  few = s.few;
  shared = s.shared;
  zero = s.zero;
  hand = s.hand;
}
