-- vm_copy's loop, over the law of one piece: what is copied so far, and what is left to be paid.
use Rattle.std.proofs.Common.{◌≡◌, ℕ, ◌+◌, ◌-◌, ◌*◌, ◌/◌, ◌%◌, ◌<◌, ◌≤◌, List, [], length, refl, sym, ap, ◌∙◌, subst, ⊎_elim, inl, inr, arith, lt-ltb, le-ltb}
use Rattle.std.proofs.lemmas.Bool.{cases_lt, cond-true, cond-false}
use Rattle.mips_table.specs.declared.inst.Inst.{Inst}
use Rattle.page_model.specs.Paging.{PageLayout, Pages, PagingInvariant, Paged}
use Rattle.mips_table.specs.Code.{Contents, Behind, World, Does}
use Rattle.cvm_primitives.specs.Routines.{RoutineLaws}
use Rattle.masm.specs.Blocks.{loop_code}
use Rattle.cvm_primitives.proofs.BlocksFromOneState.{weaker, loop_pays}
use Rattle.cvm_primitives.specs.Copy.{word_of_pages, copied, Apart, piece_count, piece, copy_cost}
use Rattle.page_model.specs.TableLayout.{TableLayout}
use Rattle.cvm_primitives.specs.View.{steps_of_page, PagesHeld, Marks, CopyGood, EntryState}
use Rattle.cvm_primitives.proofs.PartStates.{PieceLaw}
use Rattle.cvm_primitives.proofs.OnePieceOfMany.{fits, pieces_step}

-- two flat memories with the same words
pub record Agree (l : PageLayout) (u v : Pages) : Type 0 where
  pub live : (q : ℕ) → q < l.pages → v.live q ≡ u.live q
  pub word : (q i : ℕ) → q < l.pages → i < 1024 → v.word q i ≡ u.word q i

pub stands_on : (l : PageLayout) (u v : Pages) (a : Paged) → Agree l u v → PagingInvariant l u a → PagingInvariant l v a
stands_on l u v a e s = record {
  pages = λ q lt al i li. s.pages q lt (sym (e.live q lt) ∙ al) i li ∙ sym (e.word q i lt li);
  dead = λ q lt al. s.dead q lt (sym (e.live q lt) ∙ al);
  named = s.named;
  counts = s.counts;
  lists = s.lists;
  few = s.few;
  shared = s.shared;
  zero = s.zero;
  hand = s.hand;
}

pub held_on : (p : TableLayout) (u v : Pages) (g : EntryState) (c : Contents) (d : Behind) → Agree p.layout u v → PagesHeld p u g c d → PagesHeld p v g c d
held_on p u v g c d e h = record { stands = stands_on p.layout u v _ e h.stands; small = h.small; low = h.low; above = h.above; special = h.special; r28 = h.r28; r29 = h.r29; r30 = h.r30; r31 = h.r31; behind = h.behind; idle = h.idle }

-- a word of a copy: before the target, in it, past it
pub word_before : (v : Pages) (x y k q i : ℕ) → 1024 * q + i < y → (copied v x y k).word q i ≡ v.word q i
word_before v x y k q i lt = cond-true _ (v.word q i) _ (lt-ltb _ _ lt)

pub word_in : (v : Pages) (x y k q i : ℕ) → y ≤ 1024 * q + i → 1024 * q + i < y + k → (copied v x y k).word q i ≡ word_of_pages v (x + (1024 * q + i - y))
word_in v x y k q i le lt = cond-false _ (v.word q i) _ (le-ltb _ _ le) ∙ cond-true _ _ (v.word q i) (lt-ltb _ _ lt)

pub word_past : (v : Pages) (x y k q i : ℕ) → y + k ≤ 1024 * q + i → (copied v x y k).word q i ≡ v.word q i
word_past v x y k q i le = cond-false _ (v.word q i) _ (le-ltb _ _ (omega arith)) ∙ cond-false _ _ (v.word q i) (le-ltb _ _ le)

pub nothing_copied : (l : PageLayout) (v : Pages) (x y : ℕ) → Agree l v (copied v x y 0)
nothing_copied l v x y = record {
  live = λ q lt. refl;
  word = λ q i lt li. ⊎_elim (λ b. word_before v x y 0 q i b) (λ b. word_past v x y 0 q i (omega arith)) (cases_lt (1024 * q + i) y);
}

-- a source word of the rest is as it was
source_stays : (v : Pages) (x y n m z : ℕ) → Apart x y n → m ≤ n → x ≤ z → z < x + n → word_of_pages (copied v x y m) z ≡ word_of_pages v z
source_stays v x y n m z o le a b =
    let e : 1024 * (z / 1024) + z % 1024 ≡ z = omega arith in
    ⊎_elim (λ h. word_before v x y m (z / 1024) (z % 1024) (omega arith)) (λ h. word_past v x y m (z / 1024) (z % 1024) (omega arith)) o

-- m words, and then k more
pub copied_on : (l : PageLayout) (v : Pages) (x y n m k : ℕ) → Apart x y n → m + k ≤ n → Agree l (copied (copied v x y m) (x + m) (y + m) k) (copied v x y (m + k))
copied_on l v x y n m k o le = record {
  live = λ q lt. refl;
  word = λ q i lt li. ⊎_elim
      (λ b. word_before v x y (m + k) q i b ∙ sym (word_before v x y m q i b) ∙ sym (word_before (copied v x y m) (x + m) (y + m) k q i (omega arith)))
      (λ b. ⊎_elim
      (λ c. word_in v x y (m + k) q i b (omega arith) ∙ sym (word_in v x y m q i b c) ∙ sym (word_before (copied v x y m) (x + m) (y + m) k q i c))
      (λ c. ⊎_elim
      (λ e. let z : x + (1024 * q + i - y) ≡ x + m + (1024 * q + i - (y + m)) = omega arith in
      word_in v x y (m + k) q i b (omega arith) ∙ ap (word_of_pages v) z ∙ sym (source_stays v x y n m (x + m + (1024 * q + i - (y + m))) o (omega arith) (omega arith) (omega arith)) ∙ sym (word_in (copied v x y m) (x + m) (y + m) k q i c e))
      (λ e. word_past v x y (m + k) q i (omega arith) ∙ sym (word_past v x y m q i c) ∙ sym (word_past (copied v x y m) (x + m) (y + m) k q i e))
      (cases_lt (1024 * q + i) (y + m + k)))
      (cases_lt (1024 * q + i) (y + m)))
      (cases_lt (1024 * q + i) y);
}

paid : (u l k a a1 a2 r : ℕ) → a ≡ 1 + a1 → a2 ≡ a1 → l + r ≡ k → 1 ≤ u → 3 * u + 600 * l - 2 + 2 + (3 * u * a2 + 600 * r) ≤ 3 * u * a + 600 * k
paid u l k a a1 a2 r h i j some =
    let e : 3 * u * a ≡ 3 * u + 3 * u * a1 = ap (λ z. 3 * u * z) h ∙ omega arith in
    let e2 : 3 * u * a2 ≡ 3 * u * a1 = ap (λ z. 3 * u * z) i in
    omega arith

same_pieces : (x y n x' y' n' : ℕ) → x ≡ x' → y ≡ y' → n ≡ n' → piece_count x y n ≡ piece_count x' y' n'
same_pieces x y n x' y' n' e h k = ap (λ z. piece_count z y n) e ∙ ap (λ z. piece_count x' z n) h ∙ ap (piece_count x' y') k

pub whole_cost : (u x y n : ℕ) → copy_cost u x y n 0 ≡ 3 * u * piece_count x y n + 600 * n
whole_cost u x y n = ap (λ z. 3 * u * z + 600 * (n - 0)) (same_pieces (x + 0) (y + 0) (n - 0) x y n (omega arith) (omega arith) (omega arith)) ∙ omega arith

module _ (w : World) (f : RoutineLaws w) (p : TableLayout) (b : ℕ) (code : List Inst) (short : length code + 2 ≤ 32768) (g : EntryState) (law : PieceLaw w p b code g) (v : Pages) (x y n : ℕ) (good : CopyGood p.layout v x y n) where
  -- m words are copied
  pub record Copying (m : ℕ) (c : Contents) (d : Behind) : Type 0 where
    pub held : PagesHeld p (copied v x y m) g c d
    pub most : m ≤ n
    pub marks : Marks (x + m) (y + m) (n - m) c

  abbrev pub unit : ℕ
  unit = steps_of_page p.layout.pages b

  abbrev pub long : ℕ → ℕ
  long m = piece (x + m) (y + m) (n - m)

  pub rest_good : (m : ℕ) → m ≤ n → CopyGood p.layout (copied v x y m) (x + m) (y + m) (n - m)
  rest_good m le =
      let s = good.source in let t = good.target in record {
        source = omega arith;
        target = omega arith;
        from = λ j lt. let e : x + m + j ≡ x + (m + j) = omega arith in ap (λ z. v.live (z / 1024)) e ∙ good.from (m + j) (omega arith);
        to = λ j lt. let e : y + m + j ≡ y + (m + j) = omega arith in ap (λ z. v.live (z / 1024)) e ∙ good.to (m + j) (omega arith);
        apart = ⊎_elim (λ h. inl (omega arith)) (λ h. inr (omega arith)) good.apart;
      }

  pub turn : (m : ℕ) → m < n → Does w code (3 * unit + 600 * long m - 2) (Copying m) (Copying (m + long m))
  turn m lt =
      let t = fits (x + m) (y + m) (n - m) (omega arith) in
      let most = t.most in
      weaker w f code _ _ _ (Copying m) _ (Copying (m + long m)) (omega arith) (λ c d s. (s.held, s.marks))
      (λ c d r. let marks = r.1 in
      let from = marks.from in let to = marks.to in let left = marks.left in record {
        held = held_on p _ _ g c d (copied_on p.layout v x y n m (long m) good.apart (omega arith)) r.0;
        most = omega arith;
        marks = record { from = omega arith; to = omega arith; left = omega arith };
      })
      (law (copied v x y m) (x + m) (y + m) (n - m) (omega arith) (rest_good m (omega arith)))

  pub pays : (m : ℕ) → m < n → 3 * unit + 600 * long m - 2 + 2 + copy_cost unit x y n (m + long m) ≤ copy_cost unit x y n m
  pays m lt =
      let t = fits (x + m) (y + m) (n - m) (omega arith) in
      let most = t.most in
      let s : piece_count (x + m) (y + m) (n - m) ≡ 1 + piece_count (x + m + long m) (y + m + long m) (n - m - long m) = pieces_step (x + m) (y + m) (n - m) (omega arith) in
      paid unit (long m) (n - m) (piece_count (x + m) (y + m) (n - m)) (piece_count (x + m + long m) (y + m + long m) (n - m - long m)) (piece_count (x + (m + long m)) (y + (m + long m)) (n - (m + long m))) (n - (m + long m))
      s (same_pieces _ _ _ _ _ _ (omega arith) (omega arith) (omega arith)) (omega arith) (omega arith)

  -- THE LOOP: within what all pieces and words are worth
  pub copies : Does w (loop_code [] 14 code) (3 * unit * piece_count x y n + 600 * n + 1) (λ c d. PagesHeld p v g c d × Marks x y n c) (PagesHeld p (copied v x y n) g)
  copies = weaker w f (loop_code [] 14 code) (copy_cost unit x y n 0 + 1) _ (Copying 0) _ (PagesHeld p (copied v x y n) g) _ (let e = whole_cost unit x y n in omega arith)
      (λ c d s. let marks = s.1 in let from = marks.from in let to = marks.to in let left = marks.left in record { held = held_on p _ _ g c d (nothing_copied p.layout v x y) s.0; most = omega arith; marks = record { from = omega arith; to = omega arith; left = omega arith } })
      (λ c d h. h)
      (loop_pays w f code 14 Copying (λ m. m < n) (copy_cost unit x y n) (λ m. 3 * unit + 600 * long m - 2) (λ m. m + long m) (PagesHeld p (copied v x y n) g) short
      (λ m c d s. s.held.idle)
      pays turn
      (λ m c d s z. let marks = s.marks in let left = marks.left in let most = s.most in omega arith)
      (λ m c d s z. let marks = s.marks in let left = marks.left in let most = s.most in let e : m ≡ n = omega arith in subst (λ k. PagesHeld p (copied v x y k) g c d) e s.held)
      0)
