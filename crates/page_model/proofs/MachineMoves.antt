-- The steps of the paging machine, each an instance of the law of an edit.
use Rattle.std.proofs.Common.{◌≡◌, ◌≢◌, ℕ, ◌+◌, ◌*◌, ◌/◌, ◌%◌, ◌<◌, ◌≤◌, ◌⊎◌, Bool, true, false, refl, sym, ap, ◌∙◌, subst, ⊎_elim, inl, inr, arith}
use Rattle.std.proofs.lemmas.Bool.{cases_eq}
use Rattle.page_model.specs.Paging.{PageLayout, IsUserFrame, IsFrame, Protected, MapsTo, naming, counted_entries, Paged, shown_word, Pages, PagingInvariant, IsFree}
use Rattle.page_model.specs.Edits.{SlotsStay, ListFollows, PagePlaced, Retargeted, PageSet}
use Rattle.page_model.proofs.OneEdit.{hits, misses, named_by, shown_valid, shown_gone, counted_same, counted_edit, counted_two, counted_none}
use Rattle.page_model.proofs.NamingLists.{follows_as}
use Rattle.page_model.proofs.StepsKeepMemories.{shows_on, names_on, edited}

not_both : {A : Type 0} (b : Bool) → b ≡ true → b ≡ false → A
not_both b t f = absurd (cc)

-- FILL and SPLIT: what the page showed before is in its new frame
pub placed : (l : PageLayout) (v : Pages) (q g : ℕ) (w : ℕ → ℕ) (a b : Paged) → PagingInvariant l v a → q < l.pages → v.live q ≡ true → IsUserFrame l g → IsFree l a g → ((i : ℕ) → i < 1024 → w i ≡ shown_word a q i) → PagePlaced l q g w a b → PagingInvariant l v b
placed l v q g w a b s lt alive ug free ws p = edited l v v q a b s (record {
  inside = lt;
  entries = p.entries;
  lists = λ f u. ⊎_elim
      (λ eq. subst (λ y. ListFollows q (b.entry q) y a b) (sym eq) first)
      (λ ne. follows_as q _ _ f a b (sym p.entry) (p.lists f u ne))
      (cases_eq f g);
  lives = λ x l' ne. refl;
  others = λ x l' ne al i li. shows_on l a b x i l' (p.entries x l' ne) (λ f n. p.frames f (s.named x f l' n) (λ eq. free x l' (n ∙ ap (λ y. 2 * y + 1) eq)) i li) (λ z. p.sectors x l' i li) ∙ s.pages x l' al i li;
  page = λ al i li. shown_valid b q g i new ∙ p.words i li ∙ ws i li ∙ s.pages q lt al i li;
  dead = λ d. not_both _ alive d;
  named = λ f n. let e = only f n in let u0 = ug.0 in let u1 = ug.1 in (omega arith, omega arith);
  few = λ f n u. let o = one f n in omega arith;
  own = λ f n o. let e = only f n in let c = one f n in let u0 = ug.0 in ⊎_elim (λ z. absurd (omega arith)) (λ two. absurd (omega arith)) o;
  sharers = λ f n u x l' ne m. absurd (free x l' (m ∙ ap (λ y. 2 * y + 1) (only f n)));
  zero = λ i li. p.frames l.zeros (omega arith, omega arith) (λ eq. let u0 = ug.0 in omega arith) i li ∙ s.zero i li;
  hand = p.hand;
})
  where
    new : MapsTo (b.entry q) g
    new = ap (λ e. e / 2048) p.entry ∙ omega arith

    only : (f : ℕ) → MapsTo (b.entry q) f → f ≡ g
    only f n = let m = new in omega arith

    none : counted_entries a.entry g l.pages ≡ 0
    none = counted_none a.entry g l.pages free

    empty : a.count g ≡ 0
    empty = s.counts g ug ∙ none

    first : ListFollows q (b.entry q) g a b
    first = record {
      stays = λ same. let z = misses (a.entry q) g (free q lt) in let o = hits (b.entry q) g new in absurd (omega arith);
      joins = λ no yes. record {
        count = let z = empty in let o = p.count in omega arith;
        last = ap (b.slot g) empty ∙ p.first;
        others = λ k lk. let z = empty in absurd (omega arith);
      };
      parts = λ yes. absurd (free q lt yes);
    }

    one : (f : ℕ) → MapsTo (b.entry q) f → counted_entries b.entry f l.pages ≡ 1
    one f n =
        let r = counted_edit a.entry b.entry g q l.pages lt p.entries in
        let z = none in
        let m0 = misses (a.entry q) g (free q lt) in
        let m1 = hits (b.entry q) g new in
        let c : counted_entries b.entry f l.pages ≡ counted_entries b.entry g l.pages = ap (λ y. counted_entries b.entry y l.pages) (only f n) in
        omega arith

-- one entry changes
pub retargeted : (l : PageLayout) (v v' : Pages) (q e : ℕ) (alive : Bool) (w : ℕ → ℕ) (a b : Paged) → PagingInvariant l v a → q < l.pages → PageSet l q alive w v v' → Retargeted l q e a b
    → (alive ≡ true → (i : ℕ) → i < 1024 → shown_word b q i ≡ w i) → (alive ≡ false → e / 2048 % 2 ≡ 0)
    → ((f : ℕ) → MapsTo e f → IsFrame l f)
    → ((f : ℕ) → MapsTo e f → IsUserFrame l f → counted_entries b.entry f l.pages ≤ 4)
    → ((f : ℕ) → MapsTo e f → (f ≡ l.zeros) ⊎ (2 ≤ counted_entries b.entry f l.pages) → Protected e)
    → ((f : ℕ) → MapsTo e f → IsUserFrame l f → (x : ℕ) → x < l.pages → x ≢ q → MapsTo (a.entry x) f → Protected (a.entry x))
    → PagingInvariant l v' b
retargeted l v v' q e alive w a b s lt ps r page dead named few own sharers = edited l v v' q a b s (record {
  inside = lt;
  entries = r.entries;
  lists = λ f u. follows_as q _ _ f a b (sym r.entry) (r.lists f u);
  lives = ps.lives;
  others = λ x l' ne al i li. shows_on l a b x i l' (r.entries x l' ne) (λ f n. r.frames f (s.named x f l' n) i li) (λ z. r.sectors x l' ne i li) ∙ s.pages x l' (sym (ps.lives x l' ne) ∙ al) i li ∙ sym (ps.words x l' ne i li);
  page = λ al i li. page (sym ps.live ∙ al) i li ∙ sym (ps.word i li);
  dead = λ d. ap (λ y. y / 2048 % 2) r.entry ∙ dead (sym ps.live ∙ d);
  named = λ f n. named f (it f n);
  few = λ f n u. few f (it f n) u;
  own = λ f n o. ap (λ y. y / 1024 % 2) r.entry ∙ own f (it f n) o;
  sharers = λ f n u x l' ne m. sharers f (it f n) u x l' ne m;
  zero = λ i li. r.frames l.zeros (omega arith, omega arith) i li ∙ s.zero i li;
  hand = subst (IsUserFrame l) (sym r.hand) s.hand;
})
  where
    it : (f : ℕ) → MapsTo (b.entry q) f → MapsTo e f
    it f n = ap (λ y. y / 2048) (sym r.entry) ∙ n

same_flat : (l : PageLayout) (q : ℕ) (v : Pages) → v.live q ≡ true → PageSet l q true (v.word q) v v
same_flat l q v h = record { live = h; word = λ i li. refl; lives = λ x lt ne. refl; words = λ x lt ne i li. refl }

-- the same frame as before, with another protection
pub reprotected : (l : PageLayout) (v : Pages) (q f e : ℕ) (a b : Paged) → PagingInvariant l v a → q < l.pages → v.live q ≡ true → MapsTo (a.entry q) f → MapsTo e f → ((f ≡ l.zeros) ⊎ (2 ≤ counted_entries a.entry f l.pages) → Protected e) → Retargeted l q e a b → PagingInvariant l v b
reprotected l v q f e a b s lt alive n n' own r = retargeted l v v q e true (v.word q) a b s lt (same_flat l q v alive) r
    (λ t i li. shown_valid b q f i (ap (λ y. y / 2048) r.entry ∙ n') ∙ r.frames f (s.named q f lt n) i li ∙ sym (shown_valid a q f i n) ∙ s.pages q lt alive i li)
    (λ c. absurd (cc))
    (λ g m. let eq = same g m in subst (IsFrame l) (sym eq) (s.named q f lt n))
    (λ g m u. let c = count g m in let o = s.few g u in omega arith)
    (λ g m o. own (⊎_elim (λ z. inl (sym (same g m) ∙ z)) (λ two. let c = count g m in let eq : counted_entries a.entry g l.pages ≡ counted_entries a.entry f l.pages = ap (λ y. counted_entries a.entry y l.pages) (same g m) in inr (omega arith)) o))
    (λ g m u x l' ne k. s.shared x g l' k (inr (counted_two a.entry g x q l.pages l' lt ne k (n ∙ ap (λ y. 2 * y + 1) (sym (same g m))))))
  where
    same : (g : ℕ) → MapsTo e g → g ≡ f
    same g m = omega arith

    count : (g : ℕ) → MapsTo e g → counted_entries b.entry g l.pages ≡ counted_entries a.entry g l.pages
    count g m =
        let c = counted_edit a.entry b.entry g q l.pages lt r.entries in
        let h0 = hits (a.entry q) g (n ∙ ap (λ y. 2 * y + 1) (sym (same g m))) in
        let h1 = hits (b.entry q) g (ap (λ y. y / 2048) r.entry ∙ m) in
        omega arith

-- UNPROTECT: only this page names the user frame
pub opened : (l : PageLayout) (v : Pages) (q f e : ℕ) (a b : Paged) → PagingInvariant l v a → q < l.pages → v.live q ≡ true → MapsTo (a.entry q) f → IsUserFrame l f → a.count f ≤ 1 → MapsTo e f → Retargeted l q e a b → PagingInvariant l v b
opened l v q f e a b s lt alive n u one n' r = reprotected l v q f e a b s lt alive n n' (λ o. let c = s.counts f u in let u0 = u.0 in ⊎_elim (λ z. absurd (omega arith)) (λ two. absurd (omega arith)) o) r

-- PROTECT
pub closed : (l : PageLayout) (v : Pages) (q f e : ℕ) (a b : Paged) → PagingInvariant l v a → q < l.pages → v.live q ≡ true → MapsTo (a.entry q) f → MapsTo e f → Protected e → Retargeted l q e a b → PagingInvariant l v b
closed l v q f e a b s lt alive n n' p r = reprotected l v q f e a b s lt alive n n' (λ o. p) r

-- SHARE: page q takes frame f, whose other pages are protected; q then shows that frame's words
pub shares : (l : PageLayout) (v v' : Pages) (q f e : ℕ) (a b : Paged) → PagingInvariant l v a → q < l.pages → IsFrame l f → MapsTo e f → Protected e
    → ((x : ℕ) → x < l.pages → MapsTo (a.entry x) f → Protected (a.entry x))
    → (IsUserFrame l f → (MapsTo (a.entry q) f) ⊎ (a.count f < 4))
    → PageSet l q true (a.frame f) v v' → Retargeted l q e a b → PagingInvariant l v' b
shares l v v' q f e a b s lt fr n p all room ps r = retargeted l v v' q e true (a.frame f) a b s lt ps r
    (λ t i li. shown_valid b q f i (ap (λ y. y / 2048) r.entry ∙ n) ∙ r.frames f fr i li)
    (λ c. absurd (cc))
    (λ g m. subst (IsFrame l) (sym (same g m)) fr)
    (λ g m u. few g m u)
    (λ g m o. p)
    (λ g m u x l' ne k. all x l' (k ∙ ap (λ y. 2 * y + 1) (same g m)))
  where
    same : (g : ℕ) → MapsTo e g → g ≡ f
    same g m = omega arith

    at_most_one : (x g : ℕ) → naming x g ≤ 1
    at_most_one x g = ⊎_elim (λ n. let h = hits x g n in omega arith) (λ no. let h = misses x g no in omega arith) (named_by x g)

    few : (g : ℕ) → MapsTo e g → IsUserFrame l g → counted_entries b.entry g l.pages ≤ 4
    few g m u =
        let eq = same g m in
        let c = counted_edit a.entry b.entry g q l.pages lt r.entries in
        let h1 = at_most_one (b.entry q) g in
        let o = s.few g u in
        let k = s.counts g u in
        let kf : a.count g ≡ a.count f = ap a.count eq in
        ⊎_elim
        (λ x. let h0 = hits (a.entry q) g (x ∙ ap (λ y. 2 * y + 1) (sym eq)) in omega arith)
        (λ x. omega arith)
        (room (subst (IsUserFrame l) eq u))

-- GROW: a fresh page shows the zero frame
pub grows : (l : PageLayout) (v v' : Pages) (q e : ℕ) (a b : Paged) → PagingInvariant l v a → q < l.pages → MapsTo e l.zeros → Protected e → PageSet l q true (λ i. 0) v v' → Retargeted l q e a b → PagingInvariant l v' b
grows l v v' q e a b s lt n p ps r = shares l v v' q l.zeros e a b s lt (omega arith, omega arith) n p
    (λ x l' m. s.shared x l.zeros l' m (inl refl))
    (λ u. let u0 = u.0 in absurd (omega arith))
    (record { live = ps.live; word = λ i li. ps.word i li ∙ sym (s.zero i li); lives = ps.lives; words = ps.words }) r

-- an entry that isn't valid: the page shows its sector, or is past its user's size
pub unmapped : (l : PageLayout) (v v' : Pages) (q e : ℕ) (alive : Bool) (w : ℕ → ℕ) (a b : Paged) → PagingInvariant l v a → q < l.pages → e / 2048 % 2 ≡ 0 → PageSet l q alive w v v' → Retargeted l q e a b → (alive ≡ true → (i : ℕ) → i < 1024 → b.sector q i ≡ w i) → PagingInvariant l v' b
unmapped l v v' q e alive w a b s lt z ps r se = retargeted l v v' q e alive w a b s lt ps r
    (λ t i li. shown_gone b q i (ap (λ y. y / 2048 % 2) r.entry ∙ z) ∙ se t i li)
    (λ t. z)
    (λ f n. absurd (omega arith))
    (λ f n u. absurd (omega arith))
    (λ f n o. absurd (omega arith))
    (λ f n u x l' ne m. absurd (omega arith))

-- STORE: a page that isn't protected is written in its frame
pub stored : (l : PageLayout) (v v' : Pages) (q f : ℕ) (w : ℕ → ℕ) (a b : Paged) → PagingInvariant l v a → q < l.pages → v.live q ≡ true → MapsTo (a.entry q) f → (Protected (a.entry q) → ⊥) → PageSet l q true w v v'
    → ((x : ℕ) → x < l.pages → b.entry x ≡ a.entry x) → ((g : ℕ) → IsUserFrame l g → b.count g ≡ a.count g) → ((g : ℕ) → IsUserFrame l g → SlotsStay g 4 a b) → ((i : ℕ) → i < 1024 → b.frame f i ≡ w i) → ((g : ℕ) → IsFrame l g → g ≢ f → (i : ℕ) → i < 1024 → b.frame g i ≡ a.frame g i)
    → ((x : ℕ) → x < l.pages → (i : ℕ) → i < 1024 → b.sector x i ≡ a.sector x i) → b.hand ≡ a.hand → PagingInvariant l v' b
stored l v v' q f w a b s lt alive n unprotected ps es cs sl ws fs ss hd = edited l v v' q a b s (record {
  inside = lt;
  entries = λ x l' ne. es x l';
  lists = λ g u. record {
    stays = λ z. let c = s.counts g u in let few = s.few g u in (cs g u, λ k lk. sl g u k (omega arith));
    joins = λ no yes. absurd (no (old g yes));
    parts = λ yes no. absurd (no (ap (λ y. y / 2048) (es q lt) ∙ yes));
  };
  lives = ps.lives;
  others = λ x l' ne al i li. shows_on l a b x i l' (es x l') (λ g m. fs g (s.named x g l' m) (other x g l' ne m) i li) (λ z. ss x l' i li) ∙ s.pages x l' (sym (ps.lives x l' ne) ∙ al) i li ∙ sym (ps.words x l' ne i li);
  page = λ al i li. shown_valid b q f i (ap (λ y. y / 2048) (es q lt) ∙ n) ∙ ws i li ∙ sym (ps.word i li);
  dead = λ d. not_both _ ps.live d;
  named = λ g m. s.named q g lt (old g m);
  few = λ g m u. let c = same g in let o = s.few g u in omega arith;
  own = λ g m o. ap (λ y. y / 1024 % 2) (es q lt) ∙ s.shared q g lt (old g m) (⊎_elim (λ z. inl z) (λ two. let c = same g in inr (omega arith)) o);
  sharers = λ g m u x l' ne k. absurd (unprotected (s.shared q g lt (old g m) (inr (counted_two a.entry g x q l.pages l' lt ne k (old g m)))));
  zero = λ i li. fs l.zeros (omega arith, omega arith) (λ eq. unprotected (s.shared q f lt n (inl (sym eq)))) i li ∙ s.zero i li;
  hand = subst (IsUserFrame l) (sym hd) s.hand;
})
  where
    old : (g : ℕ) → MapsTo (b.entry q) g → MapsTo (a.entry q) g
    old g m = names_on _ _ g (es q lt) m

    same : (g : ℕ) → counted_entries b.entry g l.pages ≡ counted_entries a.entry g l.pages
    same g = counted_same a.entry b.entry g l.pages es

    other : (x g : ℕ) → x < l.pages → x ≢ q → MapsTo (a.entry x) g → g ≢ f
    other x g l' ne m eq = unprotected (s.shared q f lt n (inr (counted_two a.entry f x q l.pages l' lt ne (m ∙ ap (λ y. 2 * y + 1) eq) n)))
