-- The relation is kept by whatever the view doesn't see.
use Rattle.std.proofs.Common.{◌≡◌, ℕ, ◌+◌, ◌*◌, ◌/◌, ◌%◌, ◌<◌, Bool, true, refl, sym, ap, ◌∙◌, subst, ⊎_elim, inl, inr, arith}
use Rattle.page_model.specs.Paging.{PageLayout, IsUserFrame, next_frame, counted_entries, private_entry, Paged, Pages, PagingInvariant}
use Rattle.page_model.specs.Edits.{Alike}
use Rattle.page_model.specs.Faults.{InPlace, ByFill, Handled, Brought}
use Rattle.page_model.proofs.OneEdit.{counted_same}
use Rattle.page_model.proofs.StepsKeepMemories.{shows_on, names_on}
use Rattle.page_model.proofs.AtMostTwoFaults.{passes_on}

pub stands_on : (l : PageLayout) (v : Pages) (a b : Paged) → PagingInvariant l v a → Alike l a b → PagingInvariant l v b
stands_on l v a b s k = record {
  pages = λ q lt al i li. shows_on l a b q i lt (k.entries q lt) (λ f n. k.frames f (s.named q f lt n) i li) (λ z. k.sectors q lt i li) ∙ s.pages q lt al i li;
  dead = λ q lt d. ap (λ u. u / 2048 % 2) (k.entries q lt) ∙ s.dead q lt d;
  named = λ q f lt n. s.named q f lt (names_on _ _ f (k.entries q lt) n);
  counts = λ f u. k.counts f u ∙ s.counts f u ∙ sym (same f);
  lists = λ f u. let it = s.lists f u in let c = k.counts f u in let n = s.counts f u in let four = s.few f u in let st = k.slots f u in record {
    inside = λ i lt. subst (λ y. y < l.pages) (sym (st i (omega arith))) (it.inside i (omega arith));
    names = λ i lt. ap (λ y. b.entry y / 2048) (st i (omega arith)) ∙ ap (λ y. y / 2048) (k.entries (a.slot f i) (it.inside i (omega arith))) ∙ it.names i (omega arith);
    apart = λ i j li lj eq. it.apart i j (omega arith) (omega arith) (sym (st i (omega arith)) ∙ eq ∙ st j (omega arith));
  };
  few = λ f u. let c = same f in let o = s.few f u in omega arith;
  shared = λ q f lt n o. ap (λ u. u / 1024 % 2) (k.entries q lt) ∙ s.shared q f lt (names_on _ _ f (k.entries q lt) n) (⊎_elim (λ z. inl z) (λ two. let c = same f in inr (omega arith)) o);
  zero = λ i li. k.frames l.zeros (omega arith, omega arith) i li ∙ s.zero i li;
  hand = subst (IsUserFrame l) (sym k.hand) s.hand;
}
  where
    same : (f : ℕ) → counted_entries b.entry f l.pages ≡ counted_entries a.entry f l.pages
    same f = counted_same a.entry b.entry f l.pages k.entries

-- what was done from b to c was done from a to d, where these are alike
pub brought_on : (l : PageLayout) (q : ℕ) (store : Bool) (a b c d : Paged) → q < l.pages → Alike l a b → Alike l c d → Brought l q store b c → Brought l q store a d
brought_on l q store a b c d lq k m h = record { handled = ⊎_elim (λ i. inl (place i)) (λ f. inr (fill f)) h.handled; idle = λ p. place (h.idle (passes_on a b q store (k.entries q lq) p)) }
  where
    place : InPlace l q store b c → InPlace l q store a d
    place i = record {
      was = ap (λ u. u / 2048 % 2) (sym (k.entries q lq)) ∙ i.was;
      passes = passes_on c d q store (m.entries q lq) i.passes;
      entries = λ x lt ne. m.entries x lt ∙ i.entries x lt ne ∙ k.entries x lt;
      frames = λ f is j lt. m.frames f is j lt ∙ i.frames f is j lt ∙ k.frames f is j lt;
      sectors = λ x lx j lt. m.sectors x lx j lt ∙ i.sectors x lx j lt ∙ k.sectors x lx j lt;
      hand = m.hand ∙ i.hand ∙ k.hand;
    }

    fill : ByFill l q b c → ByFill l q a d
    fill f = record {
      entry = m.entries q lq ∙ f.entry ∙ ap private_entry k.hand;
      evicted = λ x lt ne n. ap (λ u. u / 2048 % 2) (m.entries x lt) ∙ f.evicted x lt ne (ap (λ u. u / 2048) (k.entries x lt) ∙ n ∙ ap (λ y. 2 * y + 1) (sym k.hand));
      entries = λ x lt ne n. m.entries x lt ∙ f.entries x lt ne (λ z. n (ap (λ u. u / 2048) (sym (k.entries x lt)) ∙ z ∙ ap (λ y. 2 * y + 1) k.hand)) ∙ k.entries x lt;
      hand = m.hand ∙ f.hand ∙ ap (next_frame l) k.hand;
    }

-- what was done to store serves a read
pub handled_read : (l : PageLayout) (q : ℕ) (s : Bool) (a b : Paged) → Handled l q true a b → Handled l q s a b
handled_read l q s a b h = ⊎_elim (λ i. inl (record { was = i.was; passes = record { valid = i.passes.valid; unprotected = λ e. i.passes.unprotected refl }; entries = i.entries; frames = i.frames; sectors = i.sectors; hand = i.hand })) (λ f. inr f) h
