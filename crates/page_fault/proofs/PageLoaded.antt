-- The page's words come into the frame at the hand, and the frame that it shared has a count less.
use Rattle.std.proofs.Common.{◌≡◌, ◌≢◌, ℕ, ◌+◌, ◌-◌, ◌*◌, ◌/◌, ◌%◌, ◌^◌, ◌<◌, ◌≤◌, ◌⊎◌, List, [], ◌∷◌, ◌++◌, refl, sym, ap, ◌∙◌, subst, ⊎_elim, inl, inr, arith}
use Rattle.std.proofs.lemmas.Bool.{cases_eq}
use Rattle.mips_table.specs.Code.{Contents, Behind, World, Sound}
use Rattle.mips_table.proofs.NumbersInHalves.{const_is}
use Rattle.masm.specs.Says.{Says, Gives}
use Rattle.masm.specs.Blocks.{when_code}
use Rattle.masm.specs.Laws.{From}
use Rattle.page_model.specs.Paging.{IsUserFrame, IsFrame, MapsTo}
use Rattle.page_model.specs.Edits.{Parted}
use Rattle.page_model.specs.TableLayout.{TableLayout, count_at, paged_view}
use Rattle.page_model.specs.Rows.{SameRow}
use Rattle.swap_layer.specs.Code.{copy_to_frame_code}
use Rattle.frame_table.specs.Code.{user_frame_number_code, remove_mapping_code}
use Rattle.masm.specs.Frames.{Besides}
use Rattle.frame_table.specs.View.{Sited, Ported, LeftByEviction, scratch, Relisted}
use Rattle.frame_table.proofs.KeptIsNotScratch.{kept_out}
use Rattle.page_fault.specs.Code.{leave_shared_frame_code}
use Rattle.page_fault.proofs.BlocksFrom.{from_when, from_later, straight_then}
use Rattle.page_fault.proofs.BlockPremises.{Laws, names_own, names_one, besides_same}
use Rattle.page_fault.proofs.BlockParts.{PlaceAsked, Sourced, Loaded}

module _ (w : World) (f : Sound w) (laws : Laws w) (p : TableLayout) (b : ℕ) (si : Sited p w) (pt : Ported p w b) (q h : ℕ) (c1 : Contents) (d1 : Behind) (a : PlaceAsked p q h c1 d1) where
  abbrev g : ℕ
  g = p.layout.zeros + 1 + h

  abbrev e : ℕ
  e = c1.memory (p.tables + q)

  -- the lists are as they were, or the page is gone from that of the frame that it shared
  abbrev pub Untouched : (ℕ → ℕ) → Type 0
  Untouched m = (x : ℕ) → p.counts ≤ x → x < p.counts + 8 * p.layout.frames → m x ≡ c1.memory x

  abbrev pub PageLeft : (ℕ → ℕ) → Type 0
  PageLeft m = (y : ℕ) → IsUserFrame p.layout y → y ≢ p.layout.zeros + 1 + h →
      ((MapsTo (c1.memory (p.tables + q)) y → ⊥) → SameRow p y c1.memory m) × (MapsTo (c1.memory (p.tables + q)) y → Parted q y (paged_view p c1.memory d1.sectors) (paged_view p m d1.sectors))

  pub settles : (c : Contents) (d : Behind) → Sourced p q h w c1 d1 c d → From w copy_to_frame_code 2691 c d (Loaded p q h c1 d1 Untouched)
  settles c d s =
      let low = si.low in let first = si.first in let second = si.second in let third = si.third in let words = f.small in let range = a.in_range in
      from_later w laws.runs copy_to_frame_code 2691 2691 c d _ _ (omega arith)
      (λ c' d' k. record {
        words = λ i li. k.words i li ∙ s.words i li;
        count = λ x le lt. k.others x (inl (omega arith)) ∙ s.memory x (omega arith);
        memory = λ x lx o o'. k.others x o ∙ s.memory x lx;
        index = k.regs 17 (omega arith) ∙ s.index;
        frame = k.regs 18 (omega arith) ∙ s.frame;
        entry = k.regs 20 (omega arith) ∙ s.entry;
        named = k.regs 21 (omega arith) ∙ s.named;
        valid = k.regs 24 (omega arith) ∙ s.valid;
        sectors = λ x i. ap (λ t. t.sectors x i) k.behind ∙ s.sectors x i;
        regs = λ x o. k.regs x (⊎_elim (λ h. omega arith) (λ h. omega arith) o) ∙ s.regs x o;
        besides = subst (λ d'. Besides c1 d1 c' d') (sym k.behind) (besides_same c1 c c' d1 d k.special k.hi k.lo s.besides);
      })
      (laws.settles b s.a g c d pt.disk s.from s.frame (omega arith, λ x le lx. si.free x (omega arith) (omega arith)) s.place s.apart s.besides.idle)

  -- no list changes
  same_counts : (c c' : Contents) (d : Behind) → c'.memory ≡ c.memory → ((y : ℕ) → IsUserFrame p.layout y → MapsTo e y → ⊥) → (c'.regs 17 ≡ c.regs 17) × (c'.regs 18 ≡ c.regs 18) × (c'.regs 20 ≡ c.regs 20) × (c'.regs 21 ≡ c.regs 21) × (c'.regs 24 ≡ c.regs 24)
      → ((x : ℕ) → LeftByEviction x → c'.regs x ≡ c.regs x) → (c'.special ≡ c.special) × (c'.hi ≡ c.hi) × (c'.lo ≡ c.lo) → Loaded p q h c1 d1 Untouched c d → Loaded p q h c1 d1 PageLeft c' d
  same_counts c c' d m none r rs sp s = record {
    words = λ i li. ap (λ m. m (1024 * g + i)) m ∙ s.words i li;
    count = λ y uy ny. let y0 = uy.0 in let y1 = uy.1 in (λ away x lo hi. ap (λ m. m x) m ∙ s.count x (omega arith) (omega arith), λ names. absurd (none y uy names));
    memory = λ x lx o o'. ap (λ m. m x) m ∙ s.memory x lx o o';
    index = r.0 ∙ s.index;
    frame = r.1 ∙ s.frame;
    entry = r.2 ∙ s.entry;
    named = r.3 ∙ s.named;
    valid = r.4 ∙ s.valid;
    sectors = s.sectors;
    regs = λ x o. rs x o ∙ s.regs x o;
    besides = besides_same c1 c c' d1 d sp.0 sp.1 sp.2 s.besides;
  }

  abbrev user_says : List Says
  user_says = Gives (p.layout.zeros / 65536 * 2 ^ 16) ∷ Gives p.layout.zeros ∷ Gives (e / 4096 - p.layout.zeros) ∷ []

  -- the frame that it shared is a user frame
  leaves_frame : (c : Contents) (d : Behind) → Loaded p q h c1 d1 Untouched c d → MapsTo e (e / 4096) → IsUserFrame p.layout (e / 4096) → c.regs 8 ≡ e / 4096 - p.layout.zeros → From w (remove_mapping_code p) 23 c d (Loaded p q h c1 d1 PageLeft)
  leaves_frame c d s own user r8 =
      let low = si.low in let first = si.first in let second = si.second in let third = si.third in let most = si.most in let words = f.small in let range = a.in_range in
      let u0 = user.0 in let u1 = user.1 in
      let k = a.list (e / 4096) user own in
      let same : SameRow p (e / 4096) c1.memory c.memory = λ x lo hi. s.count x (omega arith) (omega arith) in
      from_later w laws.runs (remove_mapping_code p) 23 23 c d (Relisted p (e / 4096) (Parted q (e / 4096)) c d) _ (omega arith)
      (λ c' d' r. record {
        words = λ j lj. r.memory (1024 * g + j) (inr (omega arith)) ∙ s.words j lj;
        count = λ y uy ny. let y0 = uy.0 in let y1 = uy.1 in (
          λ away x lo hi. r.memory x (other y uy (λ eq. away (subst (λ z. MapsTo e z) (sym eq) own)) x lo hi) ∙ s.count x (omega arith) (omega arith),
          λ names. subst (λ z. Parted q z (paged_view p c1.memory d1.sectors) (paged_view p c'.memory d1.sectors)) (sym (names_one e y names))
              (laws.rows.parted p q (e / 4096) c.memory c'.memory c1.memory c'.memory d.sectors d'.sectors d1.sectors d1.sectors (let few = a.few (e / 4096) user in let z = same (count_at p (e / 4096)) (omega arith) (omega arith) in omega arith) (λ x lo hi. sym (same x lo hi)) (λ x lo hi. refl) r.list),
        );
        memory = λ x lt o o'. r.memory x (⊎_elim (λ z. inl (omega arith)) (λ z. inr (omega arith)) o') ∙ s.memory x lt o o';
        index = r.regs 17 (omega arith) (omega arith) (omega arith) ∙ s.index;
        frame = r.regs 18 (omega arith) (omega arith) (omega arith) ∙ s.frame;
        entry = r.regs 20 (omega arith) (omega arith) (omega arith) ∙ s.entry;
        named = r.regs 21 (omega arith) (omega arith) (omega arith) ∙ s.named;
        valid = r.regs 24 (omega arith) (omega arith) (omega arith) ∙ s.valid;
        sectors = λ x i. ap (λ t. t.sectors x i) r.behind ∙ s.sectors x i;
        regs = λ x o. r.regs x (⊎_elim (λ z. let z0 = z.0 in omega arith) (λ z. omega arith) o) (⊎_elim (λ z. let z0 = z.0 in omega arith) (λ z. omega arith) o) (⊎_elim (λ z. let z0 = z.0 in omega arith) (λ z. omega arith) o) ∙ s.regs x o;
        besides = subst (λ d'. Besides c1 d1 c' d') (sym r.behind) (besides_same c1 c c' d1 d r.special r.hi r.lo s.besides);
      })
      (laws.leaves_list p q (e / 4096) k.0 c d si user r8 (s.regs 16 (inl (omega arith, omega arith)) ∙ a.page) (laws.rows.listed p q (e / 4096) k.0 c1.memory c.memory same k.1) s.besides.idle)
    where
      -- a word of another frame's list
      other : (y : ℕ) → IsUserFrame p.layout y → y ≢ e / 4096 → (x : ℕ) → count_at p y ≤ x → x < count_at p y + 5 → (x < count_at p (e / 4096)) ⊎ (count_at p (e / 4096) + 5 ≤ x)
      other y uy ne x lo hi = let u0 = user.0 in let y0 = uy.0 in grind arith

  leaves_shared : (c : Contents) (d : Behind) → Loaded p q h c1 d1 Untouched c d → e / 2048 % 2 ≡ 1 → From w (leave_shared_frame_code p) (3 + (23 + 1) + 1) c d (Loaded p q h c1 d1 PageLeft)
  leaves_shared c d s val =
      let low = si.low in let first = si.first in let second = si.second in let third = si.third in let words = f.small in
      let own : MapsTo e (e / 4096) = names_own e val in
      let in' : IsFrame p.layout (e / 4096) = a.named (e / 4096) own in
      let lo : p.layout.zeros ≤ e / 4096 = in'.0 in
      let hi : e / 4096 ≤ p.layout.zeros + p.layout.frames = in'.1 in
      let named = s.named in let valid = s.valid in
      from_when w laws.runs laws.whens 24 (user_frame_number_code p ++ when_code 8 (remove_mapping_code p)) (3 + (23 + 1)) c d _ (omega arith) s.besides.idle
      (λ ne. straight_then w laws.runs laws.straight (user_frame_number_code p) (when_code 8 (remove_mapping_code p)) user_says (23 + 1) c d _ refl s.besides.idle
      (λ n. (refl, (const_is p.layout.zeros, (omega arith, tt))))
      (λ n. from_when w laws.runs laws.whens 8 (remove_mapping_code p) 23 _ d _ (omega arith) s.besides.idle
      (λ some. let some' : e / 4096 - p.layout.zeros ≢ 0 = some in leaves_frame _ d (record {
        words = s.words;
        count = s.count;
        memory = s.memory;
        index = s.index;
        frame = s.frame;
        entry = s.entry;
        named = s.named;
        valid = s.valid;
        sectors = s.sectors;
        regs = λ x o. laws.stays scratch x (kept_out x o) (user_frame_number_code p) user_says n c refl refl ∙ s.regs x o;
        besides = besides_same c1 c _ d1 d refl refl refl s.besides;
      }) own (omega arith, hi) refl)
      (λ z. let z' : e / 4096 - p.layout.zeros ≡ 0 = z in same_counts c _ d refl (λ y uy m. let u0 = uy.0 in let o = names_one e y m in omega arith) (refl, refl, refl, refl, refl)
      (λ x o. laws.stays scratch x (kept_out x o) (user_frame_number_code p) user_says n c refl refl) (refl, refl, refl) s)))
      (λ z. absurd (omega arith))

  pub leaves : (c : Contents) (d : Behind) → Loaded p q h c1 d1 Untouched c d → From w (leave_shared_frame_code p) 28 c d (Loaded p q h c1 d1 PageLeft)
  leaves c d s =
      let valid = s.valid in
      ⊎_elim
      (λ z. from_later w laws.runs (leave_shared_frame_code p) (0 + 1) 28 c d _ _ (omega arith) (λ c d k. k)
      (from_when w laws.runs laws.whens 24 (user_frame_number_code p ++ when_code 8 (remove_mapping_code p)) 0 c d (Loaded p q h c1 d1 PageLeft) (omega arith) s.besides.idle (λ ne. absurd (ne (valid ∙ z)))
      (λ t. same_counts c c d refl (λ y uy m. let mm : e / 2048 ≡ 2 * y + 1 = m in omega arith) (refl, refl, refl, refl, refl) (λ x o. refl) (refl, refl, refl) s)))
      (λ ne. leaves_shared c d s (omega arith))
      (cases_eq (e / 2048 % 2) 0)
