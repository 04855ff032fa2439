-- What the handler's edits come to, two pages at once, and a whole page that is copied by its frame.
use Rattle.std.proofs.Common.{◌≡◌, ◌≢◌, ℕ, ◌/◌, ◌%◌, ◌<◌, ◌≤◌, ◌⊎◌, true, false, sym, ap, ◌∙◌, ⊎_elim, inl, inr, arith}
use Rattle.std.proofs.lemmas.Bool.{cases_eq}
use Rattle.page_model.specs.Paging.{PageLayout, IsUserFrame, IsFrame, next_frame, Protected, MapsTo, Paged, shown_word, Pages, PagingInvariant, IsAccessible}
use Rattle.page_model.specs.Edits.{Evicted, PagePlaced, Retargeted, PageSet}
use Rattle.page_model.specs.Faults.{ByFill, Brought}
use Rattle.page_model.proofs.OneEdit.{hits, counted_two, shown_valid}
use Rattle.page_model.proofs.StepsKeepMemories.{evicted}
use Rattle.page_model.proofs.MachineMoves.{placed, closed, shares}
use Rattle.page_model.proofs.AtMostTwoFaults.{filled_last, stays_filled, done, passes_on}

-- the filling case of the handler: the frame at the hand is emptied, and the page is put there with what it shows then
pub fills : (l : PageLayout) (v : Pages) (q : ℕ) (w : ℕ → ℕ) (a b c : Paged) → PagingInvariant l v a → q < l.pages → v.live q ≡ true → Evicted l a.hand a b → ((i : ℕ) → i < 1024 → w i ≡ shown_word b q i) → PagePlaced l q a.hand w b c → c.hand ≡ next_frame l a.hand
    → PagingInvariant l v c × ByFill l q a c
fills l v q w a b c s lt al e ws p h =
    let u : IsUserFrame l a.hand = s.hand in
    let m = evicted l v a.hand a b s u e in (
      placed l v q a.hand w b c m.0 lt al u m.1 ws p,
      record {
        entry = p.entry;
        evicted = λ x l' ne n. ap (λ y. y / 2048 % 2) (p.entries x l' ne) ∙ e.gone x l' n;
        entries = λ x l' ne nn. p.entries x l' ne ∙ e.entries x l' nn;
        hand = h;
      },
    )

-- two pages at once, as vm_copy needs them: bring q in, bring r in to store, and q again
pub two_pages : (l : PageLayout) (q r : ℕ) (a b c d : Paged) → 2 ≤ l.frames → q < l.pages → r < l.pages → q ≢ r → IsUserFrame l b.hand → Brought l q false a b → Brought l r true b c → Brought l q false c d → IsAccessible d q false × IsAccessible d r true
two_pages l q r a b c d two lq lr ne u x y z = (
  done l q false c d z.handled,
  ⊎_elim
      (λ i. let p : IsAccessible c q false = passes_on b c q false (i.entries q lq ne) (done l q false a b x.handled) in
      passes_on c d r true ((z.idle p).entries r lr (λ e. ne (sym e))) i.passes)
      (λ f. stays_filled l r q false c d lr (λ e. ne (sym e)) (filled_last l r b c two u f) z.handled true)
      y.handled,
)

-- a whole page of vm_copy: the source's frame becomes the target's; s the source's protected entry, t the target's
pub whole_page : (l : PageLayout) (v v' : Pages) (q r f s t : ℕ) (a b c : Paged) → PagingInvariant l v a → q < l.pages → r < l.pages → q ≢ r → v.live q ≡ true → MapsTo (a.entry q) f → MapsTo s f → Protected s → MapsTo t f → Protected t
    → (IsUserFrame l f → (MapsTo (a.entry r) f) ⊎ (a.count f < 4))
    → Retargeted l q s a b → PageSet l r true (v.word q) v v' → Retargeted l r t b c → PagingInvariant l v' c × MapsTo (c.entry r) f
whole_page l v v' q r f s t a b c st lq lr ne al n ns ps nt pt room x p y =
    let fr : IsFrame l f = st.named q f lq n in
    let m : PagingInvariant l v b = closed l v q f s a b st lq al n ns ps x in
    let hb : (i : ℕ) → i < 1024 → b.frame f i ≡ v.word q i = λ i li. sym (shown_valid b q f i (ap (λ y. y / 2048) x.entry ∙ ns)) ∙ m.pages q lq al i li in (
      shares l v v' r f t b c m lr fr nt pt (sharers m) room'
          (record { live = p.live; word = λ i li. p.word i li ∙ sym (hb i li); lives = p.lives; words = p.words }) y,
      ap (λ y. y / 2048) y.entry ∙ nt,
    )
  where
    sharers : PagingInvariant l v b → (z : ℕ) → z < l.pages → MapsTo (b.entry z) f → Protected (b.entry z)
    sharers m z lz nz = ⊎_elim
        (λ e. ap (λ y. b.entry y / 1024 % 2) e ∙ ap (λ y. y / 1024 % 2) x.entry ∙ ps)
        (λ nz'. m.shared z f lz nz (inr (counted_two b.entry f z q l.pages lz lq nz' nz (ap (λ y. y / 2048) x.entry ∙ ns))))
        (cases_eq z q)

    room' : IsUserFrame l f → (MapsTo (b.entry r) f) ⊎ (b.count f < 4)
    room' u = ⊎_elim (λ h. inl (ap (λ y. y / 2048) (x.entries r lr (λ e. ne (sym e))) ∙ h))
        (λ h. let k = ((x.lists f u).stays (hits (a.entry q) f n ∙ sym (hits s f ns))).0 in inr (omega arith)) (room u)
