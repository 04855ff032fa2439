-- Each step of the paging machine keeps the flat memories.
use Rattle.std.proofs.Common.{◌≡◌, ◌≢◌, ℕ, zero, suc, ◌+◌, ◌*◌, ◌/◌, ◌%◌, ◌<◌, ◌≤◌, ◌⊎◌, true, refl, sym, ap, ap₂, ◌∙◌, subst, ⊎_elim, inl, inr, arith}
use Rattle.std.proofs.lemmas.Bool.{cases_eq}
use Rattle.page_model.specs.Paging.{PageLayout, IsUserFrame, IsFrame, Protected, MapsTo, naming, counted_entries, Paged, shown_word, Pages, Listed, PagingInvariant, IsFree}
use Rattle.page_model.specs.Edits.{Edited, Evicted}
use Rattle.page_model.proofs.OneEdit.{misses, named_by, shown_valid, shown_gone, validity, counted_edit, counted_none}
use Rattle.page_model.proofs.NamingLists.{list_on, count_on}

-- what another page shows stays, if its entry, its frame and its sector do
pub shows_on : (l : PageLayout) (a b : Paged) (x i : ℕ) → x < l.pages → b.entry x ≡ a.entry x → ((f : ℕ) → MapsTo (a.entry x) f → b.frame f i ≡ a.frame f i) → (a.entry x / 2048 % 2 ≡ 0 → b.sector x i ≡ a.sector x i) → shown_word b x i ≡ shown_word a x i
shows_on l a b x i lt e fr se = ⊎_elim
    (λ n. let n' : MapsTo (b.entry x) (a.entry x / 4096) = subst (λ u. MapsTo u (a.entry x / 4096)) (sym e) n in
    shown_valid b x _ i n' ∙ fr _ n ∙ sym (shown_valid a x _ i n))
    (λ z. let z' : b.entry x / 2048 % 2 ≡ 0 = ap (λ u. u / 2048 % 2) e ∙ z in
    shown_gone b x i z' ∙ se z ∙ sym (shown_gone a x i z))
    (validity (a.entry x))

pub names_on : (e e' f : ℕ) → e' ≡ e → MapsTo e' f → MapsTo e f
names_on e e' f h n = ap (λ u. u / 2048) (sym h) ∙ n

pub user_or_zero : (l : PageLayout) (f : ℕ) → IsFrame l f → (f ≡ l.zeros) ⊎ (IsUserFrame l f)
user_or_zero l f h = ⊎_elim (λ e. inl e) (λ ne. let h0 = h.0 in inr (omega arith, h.1)) (cases_eq f l.zeros)

-- the one law of an edit
pub edited : (l : PageLayout) (v v' : Pages) (q : ℕ) (a b : Paged) → PagingInvariant l v a → Edited l v v' q a b → PagingInvariant l v' b
edited l v v' q a b s e = record {
  pages = λ x lt alive i li. ⊎_elim
      (λ eq. let p : v'.live q ≡ true = ap v'.live (sym eq) ∙ alive in ap (λ y. shown_word b y i) eq ∙ e.page p i li ∙ ap (λ y. v'.word y i) (sym eq))
      (λ ne. e.others x lt ne alive i li)
      (cases_eq x q);
  dead = λ x lt d. ⊎_elim
      (λ eq. ap (λ y. b.entry y / 2048 % 2) eq ∙ e.dead (ap v'.live (sym eq) ∙ d))
      (λ ne. ap (λ u. u / 2048 % 2) (e.entries x lt ne) ∙ s.dead x lt (sym (e.lives x lt ne) ∙ d))
      (cases_eq x q);
  named = λ x f lt n. ⊎_elim
      (λ eq. e.named f (ap (λ y. b.entry y / 2048) (sym eq) ∙ n))
      (λ ne. s.named x f lt (names_on _ _ f (e.entries x lt ne) n))
      (cases_eq x q);
  counts = λ f u. let r = counted_edit a.entry b.entry f q l.pages e.inside e.entries in let c = s.counts f u in let d = count_on l v v' q a b s e f u in omega arith;
  lists = λ f u. list_on l v v' q a b s e f u;
  few = λ f u. ⊎_elim
      (λ n. e.few f n u)
      (λ no. let r = counted_edit a.entry b.entry f q l.pages e.inside e.entries in let z = misses (b.entry q) f no in let old = s.few f u in omega arith)
      (named_by (b.entry q) f);
  shared = λ x f lt n o. ⊎_elim
      (λ eq. ap (λ y. b.entry y / 1024 % 2) eq ∙ e.own f (ap (λ y. b.entry y / 2048) (sym eq) ∙ n) o)
      (λ ne. let n' = names_on _ _ f (e.entries x lt ne) n in
      ap (λ u. u / 1024 % 2) (e.entries x lt ne) ∙ other x f lt ne n' o)
      (cases_eq x q);
  zero = e.zero;
  hand = e.hand;
}
  where
    other : (x f : ℕ) → x < l.pages → x ≢ q → MapsTo (a.entry x) f → (f ≡ l.zeros) ⊎ (2 ≤ counted_entries b.entry f l.pages) → Protected (a.entry x)
    other x f lt ne n o = ⊎_elim
        (λ z. s.shared x f lt n (inl z))
        (λ two. ⊎_elim
        (λ mine. ⊎_elim (λ z. s.shared x f lt n (inl z)) (λ u. e.sharers f mine u x lt ne n) (user_or_zero l f (s.named x f lt n)))
        (λ no. let r = counted_edit a.entry b.entry f q l.pages e.inside e.entries in let z = misses (b.entry q) f no in
        s.shared x f lt n (inr (omega arith)))
        (named_by (b.entry q) f))
        o

-- eviction, with any number of aliases
counted_hits : (e e' : ℕ → ℕ) (f n : ℕ) → ((x : ℕ) → x < n → naming (e' x) f ≡ naming (e x) f) → counted_entries e' f n ≡ counted_entries e f n
counted_hits e e' f zero h = refl
counted_hits e e' f (suc n) h = ap₂ (λ u v. u + v) (counted_hits e e' f n (λ x lt. h x (omega arith))) (h n (omega arith))

pub evicted : (l : PageLayout) (v : Pages) (g : ℕ) (a b : Paged) → PagingInvariant l v a → IsUserFrame l g → Evicted l g a b → PagingInvariant l v b × IsFree l b g
evicted l v g a b s ug e = (
  record {
    pages = λ x lt alive i li. ⊎_elim
        (λ n. shown_gone b x i (e.gone x lt n) ∙ e.saved x lt n i li ∙ sym (shown_valid a x g i n) ∙ s.pages x lt alive i li)
        (λ no. shows_on l a b x i lt (e.entries x lt no) (λ f n. e.frames f (s.named x f lt n) i li) (λ z. e.sectors x lt no i li) ∙ s.pages x lt alive i li)
        (named_by (a.entry x) g);
    dead = λ x lt d. ⊎_elim (λ n. e.gone x lt n) (λ no. ap (λ u. u / 2048 % 2) (e.entries x lt no) ∙ s.dead x lt d) (named_by (a.entry x) g);
    named = λ x f lt n. s.named x f lt (before x f lt n);
    counts = λ f u. ⊎_elim
        (λ eq. ap b.count eq ∙ e.count ∙ sym (counted_none b.entry g l.pages free) ∙ ap (λ y. counted_entries b.entry y l.pages) (sym eq))
        (λ ne. e.counts f u ne ∙ s.counts f u ∙ sym (same f ne))
        (cases_eq f g);
    lists = λ f u. ⊎_elim
        (λ eq. let z : b.count f ≡ 0 = ap b.count eq ∙ e.count in record { inside = λ k lt. absurd (omega arith); names = λ k lt. absurd (omega arith); apart = λ j k lj lk q. absurd (omega arith) })
        (λ ne. listed f u ne)
        (cases_eq f g);
    few = λ f u. ⊎_elim
        (λ eq. let z = counted_none b.entry g l.pages free in let c : counted_entries b.entry f l.pages ≡ counted_entries b.entry g l.pages = ap (λ y. counted_entries b.entry y l.pages) eq in omega arith)
        (λ ne. let c = same f ne in let o = s.few f u in omega arith)
        (cases_eq f g);
    shared = λ x f lt n o. ⊎_elim
        (λ eq. absurd (free x lt (n ∙ ap (λ y. 2 * y + 1) eq)))
        (λ ne. ap (λ u. u / 1024 % 2) (e.entries x lt (not_g x f lt n ne)) ∙ s.shared x f lt (before x f lt n) (⊎_elim (λ z. inl z) (λ two. let c = same f ne in inr (omega arith)) o))
        (cases_eq f g);
    zero = λ i li. e.frames l.zeros (omega arith, omega arith) i li ∙ s.zero i li;
    hand = subst (IsUserFrame l) (sym e.hand) s.hand;
  },
  free,
)
  where
    free : IsFree l b g
    free x lt n = ⊎_elim (λ m. let z = e.gone x lt m in absurd (omega arith)) (λ no. no (names_on _ _ g (e.entries x lt no) n)) (named_by (a.entry x) g)

    -- the list of another frame stays, and so do its pages' entries
    listed : (f : ℕ) → IsUserFrame l f → f ≢ g → Listed l b f
    listed f u ne =
        let it = s.lists f u in
        let c = e.counts f u ne in
        let st = e.slots f u ne in
        record {
          inside = λ k lt. subst (λ y. y < l.pages) (sym (st k (omega arith))) (it.inside k (omega arith));
          names = λ k lt.
              let n = it.names k (omega arith) in
              ap (λ y. b.entry y / 2048) (st k (omega arith)) ∙ ap (λ y. y / 2048) (e.entries (a.slot f k) (it.inside k (omega arith)) (λ m. ne (omega arith))) ∙ n;
          apart = λ j k lj lk eq. it.apart j k (omega arith) (omega arith) (sym (st j (omega arith)) ∙ eq ∙ st k (omega arith));
        }

    before : (x f : ℕ) → x < l.pages → MapsTo (b.entry x) f → MapsTo (a.entry x) f
    before x f lt n = ⊎_elim (λ m. let z = e.gone x lt m in absurd (omega arith)) (λ no. names_on _ _ f (e.entries x lt no) n) (named_by (a.entry x) g)

    not_g : (x f : ℕ) → x < l.pages → MapsTo (b.entry x) f → f ≢ g → MapsTo (a.entry x) g → ⊥
    not_g x f lt n ne m = let z = e.gone x lt m in omega arith

    same : (f : ℕ) → f ≢ g → counted_entries b.entry f l.pages ≡ counted_entries a.entry f l.pages
    same f ne = counted_hits a.entry b.entry f l.pages (λ x lt. ⊎_elim
        (λ m. let z = e.gone x lt m in misses (b.entry x) f (λ n. omega arith) ∙ sym (misses (a.entry x) f (λ n. ne (omega arith))))
        (λ no. ap (λ u. naming u f) (e.entries x lt no))
        (named_by (a.entry x) g))
