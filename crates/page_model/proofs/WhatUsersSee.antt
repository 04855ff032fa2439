-- The start, what a user sees, and how many faults a user step meets.
use Rattle.std.proofs.Common.{◌≡◌, ℕ, ◌+◌, ◌*◌, ◌/◌, ◌%◌, ◌<◌, ◌≤◌, true, sym, ap, ◌∙◌, arith}
use Rattle.page_model.specs.Paging.{PageLayout, IsUserFrame, Valid, MapsTo, counted_entries, Paged, shown_word, Pages, PagingInvariant}
use Rattle.page_model.specs.Faults.{UserStep, AtMost}
use Rattle.page_model.proofs.OneEdit.{shown_valid, shown_gone, counted_none}
use Rattle.page_model.proofs.AtMostTwoFaults.{two_faults}

-- AT THE START, after the reset path: no entry is valid, each count is 0, the zero frame is zeros, and each page stands in its sector
pub starts : (l : PageLayout) (v : Pages) (a : Paged)
    → ((q : ℕ) → q < l.pages → a.entry q ≡ 0) → ((f : ℕ) → IsUserFrame l f → a.count f ≡ 0) → ((i : ℕ) → i < 1024 → a.frame l.zeros i ≡ 0) → IsUserFrame l a.hand
    → ((q : ℕ) → q < l.pages → v.live q ≡ true → (i : ℕ) → i < 1024 → a.sector q i ≡ v.word q i) → PagingInvariant l v a
starts l v a es cs zs hd ss = record {
  pages = λ q lt al i li. shown_gone a q i (ap (λ y. y / 2048 % 2) (es q lt)) ∙ ss q lt al i li;
  dead = λ q lt d. ap (λ y. y / 2048 % 2) (es q lt);
  named = λ q f lt n. absurd (nay q f lt n);
  counts = λ f u. cs f u ∙ sym (none f);
  lists = λ f u. let z = cs f u in record { inside = λ k lt. absurd (omega arith); names = λ k lt. absurd (omega arith); apart = λ j k lj lk q. absurd (omega arith) };
  few = λ f u. let z = none f in omega arith;
  shared = λ q f lt n o. absurd (nay q f lt n);
  zero = zs;
  hand = hd;
}
  where
    nay : (q f : ℕ) → q < l.pages → MapsTo (a.entry q) f → ⊥
    nay q f lt n = let e = es q lt in omega arith

    none : (f : ℕ) → counted_entries a.entry f l.pages ≡ 0
    none f = counted_none a.entry f l.pages (λ x lt n. nay x f lt n)

-- what translation reads: the word at byte address x of a user whose page table begins at page first, through a valid entry
pub translated_word : (a : Paged) (m : ℕ → ℕ) (q x : ℕ) → ((f i : ℕ) → i < 1024 → a.frame f i ≡ m (1024 * f + i)) → Valid (a.entry q) → m ((a.entry q / 4096 * 4096 + x % 4096) / 4) ≡ shown_word a q (x % 4096 / 4)
translated_word a m q x fr v =
    let n : MapsTo (a.entry q) (a.entry q / 4096) = omega arith in
    let e : (a.entry q / 4096 * 4096 + x % 4096) / 4 ≡ 1024 * (a.entry q / 4096) + x % 4096 / 4 = omega arith in
    ap m e ∙ sym (fr (a.entry q / 4096) (x % 4096 / 4) (omega arith)) ∙ sym (shown_valid a q (a.entry q / 4096) (x % 4096 / 4) n)

-- TWO FAULTS
pub two_left : (l : PageLayout) (u : UserStep) (a : Paged) → 2 ≤ l.frames → u.code_page < l.pages → u.data_page < l.pages → IsUserFrame l a.hand → AtMost 2 l u a
two_left l u a two c d h = λ q s b k1 h1 r t e k2 h2 x y k3. two_faults l u two c d a b e q r x s t y h k1 h1 k2 h2 k3
