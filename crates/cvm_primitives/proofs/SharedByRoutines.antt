-- What the routines share: what they keep, and an edit of one entry as memory shows it.
use Rattle.std.proofs.Common.{◌≡◌, ◌≢◌, ℕ, ◌+◌, ◌-◌, ◌*◌, ◌^◌, ◌<◌, ◌≤◌, ◌⊎◌, nat_lt, refl, sym, ap, ◌∙◌, subst, ⊎_elim, inl, inr, arith, lt-ltb, le-ltb}
use Rattle.std.proofs.lemmas.Bool.{cases_lt, cond-true, cond-false}
use Rattle.page_model.specs.Paging.{IsUserFrame, MapsTo, Pages, PagingInvariant}
use Rattle.page_model.specs.Edits.{ListFollows, Retargeted}
use Rattle.mips_table.specs.Arith.{flag}
use Rattle.mips_table.specs.Code.{Contents, Behind, World}
use Rattle.page_model.specs.TableLayout.{TableLayout, paged_view}
use Rattle.layer_map.specs.Map.{hand_at}
use Rattle.frame_table.specs.View.{Sited}
use Rattle.cvm_primitives.specs.View.{PagesHeld, EntryState, BehindStays}
use Rattle.cvm_primitives.proofs.PartStates.{Keeps, DropAsked}
use Rattle.cvm_primitives.specs.Routines.{RoutineLaws}

pub flag_of : (a b : ℕ) → ((flag (nat_lt a b) ≡ 1) × (a < b)) ⊎ ((flag (nat_lt a b) ≡ 0) × (b ≤ a))
flag_of a b = ⊎_elim (λ lt. inl (cond-true (nat_lt a b) 1 0 (lt-ltb a b lt), lt)) (λ le. inr (cond-false (nat_lt a b) 1 0 (le-ltb a b le), le)) (cases_lt a b)

pub all_kept : (c : Contents) → Keeps c c
all_kept c = record { r13 = refl; r14 = refl; r15 = refl; r16 = refl; r26 = refl; r27 = refl; r28 = refl; r29 = refl; r30 = refl; r31 = refl; special = refl }

pub kept_on : (a b c : Contents) → Keeps a b → Keeps b c → Keeps a c
kept_on a b c k l = record { r13 = l.r13 ∙ k.r13; r14 = l.r14 ∙ k.r14; r15 = l.r15 ∙ k.r15; r16 = l.r16 ∙ k.r16; r26 = l.r26 ∙ k.r26; r27 = l.r27 ∙ k.r27; r28 = l.r28 ∙ k.r28; r29 = l.r29 ∙ k.r29; r30 = l.r30 ∙ k.r30; r31 = l.r31 ∙ k.r31; special = l.special ∙ k.special }

-- one entry is written, and lists
pub edit_is : (p : TableLayout) (w : World) (b : ℕ) → Sited p w → (q e : ℕ) (m m' : ℕ → ℕ) (s : ℕ → ℕ → ℕ) → q < p.layout.pages → m' (p.tables + q) ≡ e
    → ((x : ℕ) → x ≢ p.tables + q → (x < p.counts) ⊎ (p.counts + 8 * p.layout.frames ≤ x) → m' x ≡ m x)
    → ((f : ℕ) → IsUserFrame p.layout f → ListFollows q e f (paged_view p m s) (paged_view p m' s))
    → Retargeted p.layout q e (paged_view p m s) (paged_view p m' s)
edit_is p w b si q e m m' s lt here others lists =
    let low = si.low in let first = si.first in let second = si.second in record {
      entry = here;
      entries = λ x lx ne. others (p.tables + x) (omega arith) (inl (omega arith));
      lists = lists;
      frames = λ f u i li. let u0 = u.0 in others (1024 * f + i) (omega arith) (inr (omega arith));
      sectors = λ x lx ne i li. refl;
      hand = ap (λ h. p.layout.zeros + 1 + h) (others hand_at (omega arith) (inl (omega arith)));
    }

-- an entry names a frame, and no other
pub named_is : (e f g : ℕ) → MapsTo e f → MapsTo e g → f ≡ g
named_is e f g n k = omega arith

-- what a block that edits entries may ask of the relation
pub drop_asked : (w : World) (f : RoutineLaws w) (p : TableLayout) (u : Pages) (q : ℕ) (g : EntryState) (c : Contents) (d : Behind) → PagesHeld p u g c d → c.regs 16 ≡ q → q < p.layout.pages → DropAsked p q c d
drop_asked w f p u q g c d h page lt = record {
  page = page;
  inside = lt;
  small = h.small;
  named = λ h1 n. h.stands.named q h1 lt n;
  few = λ y uf. f.lists.few p.layout u (paged_view p c.memory d.sectors) y h.stands uf;
  list = λ y uf n.
      let it = h.stands.lists y uf in
      let k = f.lists.found p.layout u (paged_view p c.memory d.sectors) q y h.stands uf lt n in
      (k.0, record { inside = k.1; few = f.lists.few p.layout u (paged_view p c.memory d.sectors) y h.stands uf; is = k.2; once = λ j lj e. it.apart j k.0 lj k.1 (e ∙ sym k.2) });
  idle = h.idle;
}

-- the same memory and disk, in another core
pub held_to : (p : TableLayout) (u : Pages) (g : EntryState) (c : Contents) (d : Behind) (c' : Contents) (d' : Behind) → PagesHeld p u g c d → c'.memory ≡ c.memory → c'.special ≡ c.special → c'.regs 28 ≡ c.regs 28 → c'.regs 29 ≡ c.regs 29 → c'.regs 30 ≡ c.regs 30 → c'.regs 31 ≡ c.regs 31 → d' ≡ d → PagesHeld p u g c' d'
held_to p u g c d c' d' h m s r28 r29 r30 r31 e = record {
  stands = subst (λ m. PagingInvariant p.layout u (paged_view p m d'.sectors)) (sym m) (subst (λ d. PagingInvariant p.layout u (paged_view p c.memory d.sectors)) (sym e) h.stands);
  small = λ x lx. subst (λ m. m (p.tables + x) < 2 ^ 32) (sym m) (h.small x lx);
  low = λ x lx ne. ap (λ m. m x) m ∙ h.low x lx ne;
  above = λ x le lx. ap (λ m. m x) m ∙ h.above x le lx;
  special = s ∙ h.special;
  r28 = r28 ∙ h.r28;
  r29 = r29 ∙ h.r29;
  r30 = r30 ∙ h.r30;
  r31 = r31 ∙ h.r31;
  behind = subst (BehindStays p g) (sym (e)) h.behind;
  idle = ap (λ d. d.pending) e ∙ h.idle;
}
