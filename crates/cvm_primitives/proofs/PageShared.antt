-- A whole page: the target takes the source's frame, unless four pages name it.
use Rattle.std.proofs.Common.{◌≡◌, ◌≢◌, ℕ, zero, suc, ◌+◌, ◌-◌, ◌*◌, ◌/◌, ◌%◌, ◌^◌, ◌<◌, ◌≤◌, ◌⊎◌, true, false, cond, nat_eq, nat_lt, [], ◌∷◌, ◌++◌, refl, sym, ap, ap₂, ◌∙◌, subst, ⊎_elim, inl, inr, arith, eq-eqb, ne_eqb}
use Rattle.std.proofs.lemmas.Bool.{cases_eq, cases_lt, cond-true, cond-false}
use Rattle.mips_table.specs.declared.inst.Inst.TheVariants.{Sll, Srl, Addiu, Addu, Lui, Ori, Sw}
use Rattle.mips_table.specs.Arith.{flag}
use Rattle.page_model.specs.Paging.{IsUserFrame, Valid, MapsTo, naming, Pages, PagingInvariant, IsAccessible, counted_entries}
use Rattle.page_model.specs.Edits.{Joined, PageSet, Retargeted}
use Rattle.cvm_primitives.proofs.BlocksFromOneState.{names_own}
use Rattle.mips_table.specs.Device.{Idle}
use Rattle.mips_table.specs.Code.{put, Contents, with_reg, Behind, World}
use Rattle.mips_table.proofs.PutsChangeOneWord.{put_same, put_other}
use Rattle.mips_table.proofs.NumbersInHalves.{const_is}
use Rattle.cvm_primitives.specs.Routines.{RoutineLaws}
use Rattle.masm.specs.Says.{Gives, Reads, Writes}
use Rattle.masm.specs.Blocks.{when_code}
use Rattle.masm.specs.Laws.{From}
use Rattle.cvm_primitives.proofs.BlocksFromOneState.{from_straight, from_then, from_when, from_later, straight_then}
use Rattle.cvm_primitives.specs.Copy.{copied}
use Rattle.page_model.specs.TableLayout.{TableLayout, count_at, paged_view}
use Rattle.frame_table.specs.View.{Sited, Relisted}
use Rattle.cvm_primitives.specs.View.{PagesHeld, SharesFrame, FourOthers, EntryState, BehindStays}
use Rattle.cvm_primitives.proofs.PartStates.{Keeps, DropDone, Found}
use Rattle.frame_table.specs.Code.{walk_page_table_code, user_frame_number_code, add_mapping_code}
use Rattle.cvm_primitives.specs.Code.{drop_page_code, has_free_slot_code, share_page_code, try_share_code}
use Rattle.cvm_primitives.proofs.SharedByRoutines.{flag_of, kept_on, edit_is, drop_asked, held_to}
use Rattle.page_model.specs.Rows.{SameRow}
use Rattle.cvm_primitives.proofs.FrameLists.{rows_apart, lists_none, lists_joined}
use Rattle.cvm_primitives.proofs.DroppedEntries.{find_from, drop_from, keeps_of}
use Rattle.cvm_primitives.proofs.CopyLoop.{Agree, word_before, word_in, word_past}

-- the flat memories with other words in one page
abbrev pub paged : Pages → ℕ → (ℕ → ℕ) → Pages
paged u r s = record { live = u.live; word = λ q i. cond (nat_eq q r) (s i) (u.word q i) }

pub paged_other : (u : Pages) (r : ℕ) (s : ℕ → ℕ) (q i : ℕ) → q ≢ r → (paged u r s).word q i ≡ u.word q i
paged_other u r s q i ne = cond-false _ (s i) (u.word q i) (ne_eqb q r ne)

counted_hits : (e e' : ℕ → ℕ) (f n : ℕ) → ((x : ℕ) → x < n → naming (e' x) f ≡ naming (e x) f) → counted_entries e' f n ≡ counted_entries e f n
counted_hits e e' f zero h = refl
counted_hits e e' f (suc n) h = ap₂ (λ u v. u + v) (counted_hits e e' f n (λ x lt. h x (omega arith))) (h n (omega arith))

module _ (w : World) (f : RoutineLaws w) (p : TableLayout) (b : ℕ) (si : Sited p w) (g : EntryState) (u : Pages) (x y : ℕ) (wx : x % 1024 ≡ 0) (wy : y % 1024 ≡ 0) (ne : x / 1024 ≢ y / 1024) (lx : x < 1024 * p.layout.pages) (ly : y < 1024 * p.layout.pages) (ax : u.live (x / 1024) ≡ true) (ay : u.live (y / 1024) ≡ true) where
  -- a copy of the whole page, over whatever it held
  over : (s : ℕ → ℕ) → Agree p.layout (copied (paged u (y / 1024) s) x y 1024) (copied u x y 1024)
  over s = record {
    live = λ q lq. refl;
    word = λ q i lq li. ⊎_elim
        (λ eq. let z : (x + (1024 * q + i - y)) / 1024 ≡ x / 1024 = omega arith in
        word_in u x y 1024 q i (omega arith) (omega arith) ∙ sym (paged_other u (y / 1024) s _ _ (λ e. ne (sym z ∙ e))) ∙ sym (word_in (paged u (y / 1024) s) x y 1024 q i (omega arith) (omega arith)))
        (λ nq. ⊎_elim
        (λ lt. word_before u x y 1024 q i (omega arith) ∙ sym (paged_other u (y / 1024) s q i nq) ∙ sym (word_before (paged u (y / 1024) s) x y 1024 q i (omega arith)))
        (λ le. word_past u x y 1024 q i (omega arith) ∙ sym (paged_other u (y / 1024) s q i nq) ∙ sym (word_past (paged u (y / 1024) s) x y 1024 q i (omega arith)))
        (cases_lt q (y / 1024)))
        (cases_eq q (y / 1024));
  }

  -- the page set by the copy
  whole_set : (s : ℕ → ℕ) → PageSet p.layout (y / 1024) true ((paged u (y / 1024) s).word (x / 1024)) (paged u (y / 1024) s) (copied u x y 1024)
  whole_set s = record {
    live = ay;
    word = λ i li. let q1 : (x + (1024 * (y / 1024) + i - y)) / 1024 ≡ x / 1024 = omega arith in let i1 : (x + (1024 * (y / 1024) + i - y)) % 1024 ≡ i = omega arith in
        word_in u x y 1024 (y / 1024) i (omega arith) (omega arith) ∙ ap₂ u.word q1 i1 ∙ sym (paged_other u (y / 1024) s (x / 1024) i ne);
    lives = λ q lq nq. refl;
    words = λ q lq nq i li. ⊎_elim (λ lt. word_before u x y 1024 q i (omega arith)) (λ le. word_past u x y 1024 q i (omega arith)) (cases_lt q (y / 1024)) ∙ sym (paged_other u (y / 1024) s q i nq);
  }

  -- the target's page is dropped
  dropped_held : (c : Contents) (d : Behind) (c1 : Contents) (d1 : Behind) → PagesHeld p u g c d → DropDone p (y / 1024) c d c1 d1 → PagesHeld p (paged u (y / 1024) (d.sectors (y / 1024))) g c1 d1
  dropped_held c d c1 d1 h k =
      record {
        stands = f.cuts p.layout u (paged u (y / 1024) (d.sectors (y / 1024))) (y / 1024) _ true (d.sectors (y / 1024)) (paged_view p c.memory d.sectors) (paged_view p c1.memory d1.sectors) h.stands (omega arith) k.gone
            (record { live = ay; word = λ i li. cond-true _ (d.sectors (y / 1024) i) _ (eq-eqb (y / 1024) (y / 1024) refl); lives = λ q lq nq. refl; words = λ q lq nq i li. paged_other u (y / 1024) (d.sectors (y / 1024)) q i nq })
            k.edit (λ t i li. ap (λ d. d.sectors (y / 1024) i) k.disk);
        small = k.small;
        low = λ z lz nz. k.low z lz ∙ h.low z lz nz;
        above = λ z le lz. k.above z le lz ∙ h.above z le lz;
        special = k.keeps.special ∙ h.special;
        r28 = k.keeps.r28 ∙ h.r28;
        r29 = k.keeps.r29 ∙ h.r29;
        r30 = k.keeps.r30 ∙ h.r30;
        r31 = k.keeps.r31 ∙ h.r31;
        behind = subst (BehindStays p g) (sym (k.disk)) h.behind;
        idle = ap (λ d. d.pending) k.disk ∙ h.idle;
      }

  -- what the whole-page part comes to
  pub record Half (c0 : Contents) (c : Contents) (d : Behind) : Type 0 where
    pub r13 : c.regs 13 ≡ c0.regs 13
    pub r26 : c.regs 26 ≡ c0.regs 26
    pub r27 : c.regs 27 ≡ c0.regs 27
    pub r14 : c.regs 14 ≡ c0.regs 14
    pub out : ((c.regs 15 ≡ 0) × PagesHeld p (copied u x y 1024) g c d × SharesFrame p (x / 1024) (y / 1024) c.memory) ⊎ ((c.regs 15 ≡ c0.regs 15) × (s : ℕ → ℕ) × PagesHeld p (paged u (y / 1024) s) g c d × IsAccessible (paged_view p c.memory d.sectors) (x / 1024) false × Agree p.layout (copied (paged u (y / 1024) s) x y 1024) (copied u x y 1024) × FourOthers p (x / 1024) (y / 1024) c0.memory)

  module _ (s : ℕ → ℕ) (fr : ℕ) where
    -- whether the frame is shared is decided
    record Decided (c0 : Contents) (c : Contents) (d : Behind) : Type 0 where
      held : PagesHeld p (paged u (y / 1024) s) g c d
      entry : c.regs 20 ≡ 4 * (p.tables + x / 1024)
      named : c.regs 21 ≡ fr
      names : MapsTo (c.memory (p.tables + x / 1024)) fr
      gone : c.memory (p.tables + y / 1024) / 2048 % 2 ≡ 0
      keeps : Keeps c0 c
      entries : (z : ℕ) → z < p.layout.pages → z ≢ y / 1024 → c.memory (p.tables + z) ≡ c0.memory (p.tables + z)
      choice : ((c.regs 12 ≡ 1) × (IsUserFrame p.layout fr → c.memory (count_at p fr) < 4)) ⊎ ((c.regs 12 ≡ 0) × IsUserFrame p.layout fr × (4 ≤ c.memory (count_at p fr)))

    -- both entries are written
    record Written (c0 : Contents) (d0 : Behind) (c : Contents) (d : Behind) : Type 0 where
      excess : c.regs 8 ≡ fr - p.layout.zeros
      target : c.regs 11 ≡ y / 1024
      memory : c.memory ≡ put (put c0.memory (p.tables + x / 1024) (4096 * fr + 3072)) (p.tables + y / 1024) (4096 * fr + 3072)
      keeps : Keeps c0 c
      disk : d ≡ d0

    -- the state of both entries written, and the count
    shared_stands : (m m' : ℕ → ℕ) (t : ℕ → ℕ → ℕ) → PagingInvariant p.layout (paged u (y / 1024) s) (paged_view p m t) → MapsTo (m (p.tables + x / 1024)) fr → m (p.tables + y / 1024) / 2048 % 2 ≡ 0 → (IsUserFrame p.layout fr → m (count_at p fr) < 4)
        → m' (p.tables + x / 1024) ≡ 4096 * fr + 3072 → m' (p.tables + y / 1024) ≡ 4096 * fr + 3072
        → ((z : ℕ) → z ≢ p.tables + x / 1024 → z ≢ p.tables + y / 1024 → (z < p.counts) ⊎ (p.counts + 8 * p.layout.frames ≤ z) → m' z ≡ m z)
        → ((h : ℕ) → IsUserFrame p.layout h → h ≢ fr → SameRow p h m m')
        → (IsUserFrame p.layout fr → Joined (y / 1024) fr (paged_view p m t) (paged_view p m' t))
        → PagingInvariant p.layout (copied u x y 1024) (paged_view p m' t)
    shared_stands m m' t st n gone room here there others rows joined =
        let low = si.low in let first = si.first in let second = si.second in
        let e : ℕ = 4096 * fr + 3072 in
        let ne1 : p.tables + y / 1024 ≢ p.tables + x / 1024 = λ q. ne (omega arith) in
        let m1 : ℕ → ℕ = put m (p.tables + x / 1024) (4096 * fr + 3072) in
        let e_names : MapsTo (4096 * fr + 3072) fr = omega arith in
        let r1 : Retargeted p.layout (x / 1024) (4096 * fr + 3072) (paged_view p m t) (paged_view p (put m (p.tables + x / 1024) (4096 * fr + 3072)) t) =
        edit_is p w b si (x / 1024) (4096 * fr + 3072) m (put m (p.tables + x / 1024) (4096 * fr + 3072)) t (omega arith) (put_same m _ _ _ refl) (λ z nz o. put_other m _ _ z nz)
        (lists_none f.shows p (x / 1024) (4096 * fr + 3072) m (put m (p.tables + x / 1024) (4096 * fr + 3072)) t t (λ z lz. put_other m _ _ z (omega arith)) (λ h uh. ap (λ v. cond (nat_eq v (2 * h + 1)) 1 0) (n ∙ sym e_names))) in
        let before : (z : ℕ) → z ≢ p.tables + x / 1024 → put m (p.tables + x / 1024) (4096 * fr + 3072) z ≡ m z = λ z nz. put_other m _ _ z nz in
        let r2 : Retargeted p.layout (y / 1024) (4096 * fr + 3072) (paged_view p (put m (p.tables + x / 1024) (4096 * fr + 3072)) t) (paged_view p m' t) =
        edit_is p w b si (y / 1024) (4096 * fr + 3072) (put m (p.tables + x / 1024) (4096 * fr + 3072)) m' t (omega arith) there
        (λ z nz o. ⊎_elim (λ q. ap m' q ∙ here ∙ sym (put_same m _ _ z q)) (λ q. others z q nz o ∙ sym (before z q)) (cases_eq z (p.tables + x / 1024)))
        (lists_joined f.shows p (y / 1024) (4096 * fr + 3072) fr (put m (p.tables + x / 1024) (4096 * fr + 3072)) m' t t
        (λ uf. f.rows.joined p (y / 1024) fr m m' (put m (p.tables + x / 1024) (4096 * fr + 3072)) m' t t t t (room uf) (λ z lo hi. before z (omega arith)) (λ z lo hi. refl) (joined uf))
        (λ h k. let q = before (p.tables + y / 1024) ne1 in absurd (omega arith)) e_names
        (λ h uh nh z lo hi. rows h uh nh z lo hi ∙ sym (before z (omega arith)))
        (λ h uh. subst (λ v. v ≤ 4) (sym (before (count_at p h) (omega arith))) (f.lists.few p.layout (paged u (y / 1024) s) (paged_view p m t) h st uh))) in
        (f.whole p.layout (paged u (y / 1024) s) (copied u x y 1024) (x / 1024) (y / 1024) fr (4096 * fr + 3072) (4096 * fr + 3072) (paged_view p m t) (paged_view p (put m (p.tables + x / 1024) (4096 * fr + 3072)) t) (paged_view p m' t) st (omega arith) (omega arith) ne ax n e_names (omega arith) e_names (omega arith)
        (λ uf. inr (room uf)) r1 (whole_set s) r2).0

    -- four pages other than the target name the frame, already before the target was dropped
    others_of : (c0 : Contents) (c : Contents) (d : Behind) → Decided c0 c d → IsUserFrame p.layout fr → 4 ≤ c.memory (count_at p fr) → FourOthers p (x / 1024) (y / 1024) c0.memory
    others_of c0 c d k uf four =
        let names = k.names in let same = k.entries (x / 1024) (omega arith) ne in
        let fr_is : c0.memory (p.tables + x / 1024) / 4096 ≡ fr = omega arith in
        let n0 : MapsTo (c0.memory (p.tables + x / 1024)) (c0.memory (p.tables + x / 1024) / 4096) = omega arith in
        let count = k.held.stands.counts fr uf in
        let hits_same : counted_entries (λ z. cond (nat_eq z (y / 1024)) 0 (c0.memory (p.tables + z))) fr p.layout.pages ≡ counted_entries (paged_view p c.memory d.sectors).entry fr p.layout.pages =
        counted_hits (paged_view p c.memory d.sectors).entry (λ z. cond (nat_eq z (y / 1024)) 0 (c0.memory (p.tables + z))) fr p.layout.pages (λ z lz. ⊎_elim
        (λ e. ap (λ v. naming v fr) (cond-true _ 0 (c0.memory (p.tables + z)) (eq-eqb z (y / 1024) e)) ∙ f.shows.misses 0 fr (λ m. omega arith) ∙ sym (f.shows.misses (c.memory (p.tables + z)) fr (λ m. let gone = k.gone in let at : c.memory (p.tables + z) ≡ c.memory (p.tables + y / 1024) = ap (λ z. c.memory (p.tables + z)) e in absurd (omega arith))))
        (λ nz. ap (λ v. naming v fr) (cond-false _ 0 (c0.memory (p.tables + z)) (ne_eqb z (y / 1024) nz) ∙ sym (k.entries z lz nz)))
        (cases_eq z (y / 1024))) in
        record { names = n0; user = subst (IsUserFrame p.layout) (sym fr_is) uf; four = subst (λ h. 4 ≤ counted_entries (λ z. cond (nat_eq z (y / 1024)) 0 (c0.memory (p.tables + z))) h p.layout.pages) (sym fr_is) (omega arith) }

    -- the state once shared
    shared_half : (c0 : Contents) (c : Contents) (d : Behind) → Decided c0 c d → (IsUserFrame p.layout fr → c.memory (count_at p fr) < 4) → (c' : Contents) (d' : Behind)
        → c'.memory (p.tables + x / 1024) ≡ 4096 * fr + 3072 → c'.memory (p.tables + y / 1024) ≡ 4096 * fr + 3072
        → ((z : ℕ) → z ≢ p.tables + x / 1024 → z ≢ p.tables + y / 1024 → (z < p.counts) ⊎ (p.counts + 8 * p.layout.frames ≤ z) → c'.memory z ≡ c.memory z)
        → ((h : ℕ) → IsUserFrame p.layout h → h ≢ fr → SameRow p h c.memory c'.memory)
        → (IsUserFrame p.layout fr → Joined (y / 1024) fr (paged_view p c.memory d.sectors) (paged_view p c'.memory d.sectors))
        → Keeps c c' → d' ≡ d → Half c0 (with_reg c' 15 0) d'
    shared_half c0 c d k room c' d' here there others rows joined keeps disk =
        let low = si.low in let first = si.first in let second = si.second in let third = si.third in let small = f.small in
        let fr0 = k.held.stands.named (x / 1024) fr (omega arith) k.names in let fr1 = fr0.1 in
        let kept : Keeps c0 c' = kept_on c0 c c' k.keeps keeps in record {
          r13 = kept.r13;
          r26 = kept.r26;
          r27 = kept.r27;
          r14 = kept.r14;
          out = inl (
            refl,
            record {
              stands = subst (λ t. PagingInvariant p.layout (copied u x y 1024) (paged_view p c'.memory t.sectors)) (sym disk) (shared_stands c.memory c'.memory d.sectors k.held.stands k.names k.gone room here there others rows joined);
              small = λ z lz. ⊎_elim (λ q. subst (λ z. c'.memory (p.tables + z) < 2 ^ 32) (sym q) (omega arith)) (λ q. ⊎_elim (λ r. subst (λ z. c'.memory (p.tables + z) < 2 ^ 32) (sym r) (omega arith)) (λ r. subst (λ v. v < 2 ^ 32) (sym (others (p.tables + z) (omega arith) (omega arith) (inl (omega arith)))) (k.held.small z lz)) (cases_eq z (y / 1024))) (cases_eq z (x / 1024));
              low = λ z lz nz. others z (omega arith) (omega arith) (inl (omega arith)) ∙ k.held.low z lz nz;
              above = λ z le lz. others z (omega arith) (omega arith) (inr (omega arith)) ∙ k.held.above z le lz;
              special = keeps.special ∙ k.held.special;
              r28 = keeps.r28 ∙ k.held.r28;
              r29 = keeps.r29 ∙ k.held.r29;
              r30 = keeps.r30 ∙ k.held.r30;
              r31 = keeps.r31 ∙ k.held.r31;
              behind = subst (BehindStays p g) (sym (disk)) k.held.behind;
              idle = ap (λ d. d.pending) disk ∙ k.held.idle;
            },
            record { source = omega arith; target = omega arith },
          );
        }

    share_from : (c0 : Contents) (c : Contents) (d : Behind) → c0.regs 27 ≡ y → Decided c0 c d → (IsUserFrame p.layout fr → c.memory (count_at p fr) < 4) → From w (share_page_code p) (5 + (7 + (12 + 1))) c d (Half c0)
    share_from c0 c d to k room =
        let low = si.low in let first = si.first in let second = si.second in let third = si.third in let small = f.small in let pages = si.pages in
        let fr0 = k.held.stands.named (x / 1024) fr (omega arith) k.names in let fra = fr0.0 in let frb = fr0.1 in
        let entry = k.entry in let named = k.named in let r27 = k.keeps.r27 in
        let e : ℕ = 4096 * fr + 3072 in
        let ne1 : p.tables + x / 1024 ≢ p.tables + y / 1024 = λ q. ne (omega arith) in
        from_then w f ((Sll 10 21 12 ∷ Addiu 10 10 3072 ∷ Sw 10 20 0 ∷ Lui 20 (4 * p.tables / 65536) ∷ Ori 20 20 (4 * p.tables % 65536) ∷ []) ++ (Srl 11 27 10 ∷ Sll 9 11 2 ∷ Addu 20 20 9 ∷ Sw 10 20 0 ∷ user_frame_number_code p)) (when_code 8 (add_mapping_code p) ++ (Addiu 15 0 0 ∷ [])) 12 (12 + 1) c d (Written c d) (Half c0)
        (from_straight w f ((Sll 10 21 12 ∷ Addiu 10 10 3072 ∷ Sw 10 20 0 ∷ Lui 20 (4 * p.tables / 65536) ∷ Ori 20 20 (4 * p.tables % 65536) ∷ []) ++ (Srl 11 27 10 ∷ Sll 9 11 2 ∷ Addu 20 20 9 ∷ Sw 10 20 0 ∷ user_frame_number_code p))
        (Gives (4096 * fr) ∷ Gives (4096 * fr + 3072) ∷ Writes (p.tables + x / 1024) (4096 * fr + 3072) ∷ Gives (4 * p.tables / 65536 * 2 ^ 16) ∷ Gives (4 * p.tables) ∷ Gives (y / 1024) ∷ Gives (4 * (y / 1024)) ∷ Gives (4 * (p.tables + y / 1024)) ∷ Writes (p.tables + y / 1024) (4096 * fr + 3072) ∷ Gives (p.layout.zeros / 65536 * 2 ^ 16) ∷ Gives p.layout.zeros ∷ Gives (fr - p.layout.zeros) ∷ []) c d (Written c d) refl k.held.idle
        (λ n. (
          (omega arith, (omega arith, ((omega arith, omega arith, si.free _ (omega arith) (omega arith), refl), (refl, (const_is (4 * p.tables), (ap (λ z. z / 2 ^ 10) (r27 ∙ to), (omega arith, (omega arith, ((omega arith, omega arith, si.free _ (omega arith) (omega arith), refl), (refl, (const_is p.layout.zeros, (omega arith, tt)))))))))))),
          record { excess = refl; target = refl; memory = refl; keeps = record { r13 = refl; r14 = refl; r15 = refl; r16 = refl; r26 = refl; r27 = refl; r28 = refl; r29 = refl; r30 = refl; r31 = refl; special = refl }; disk = refl },
        )))
        (λ c1 d1 k1. let excess = k1.excess in
        let here : c1.memory (p.tables + x / 1024) ≡ 4096 * fr + 3072 = ap (λ m. m (p.tables + x / 1024)) k1.memory ∙ put_other (put c.memory (p.tables + x / 1024) (4096 * fr + 3072)) (p.tables + y / 1024) (4096 * fr + 3072) (p.tables + x / 1024) ne1 ∙ put_same c.memory (p.tables + x / 1024) (4096 * fr + 3072) (p.tables + x / 1024) refl in
        let there : c1.memory (p.tables + y / 1024) ≡ 4096 * fr + 3072 = ap (λ m. m (p.tables + y / 1024)) k1.memory ∙ put_same (put c.memory (p.tables + x / 1024) (4096 * fr + 3072)) (p.tables + y / 1024) (4096 * fr + 3072) (p.tables + y / 1024) refl in
        let others : (z : ℕ) → z ≢ p.tables + x / 1024 → z ≢ p.tables + y / 1024 → c1.memory z ≡ c.memory z = λ z nx ny. ap (λ m. m z) k1.memory ∙ put_other (put c.memory (p.tables + x / 1024) (4096 * fr + 3072)) (p.tables + y / 1024) (4096 * fr + 3072) z ny ∙ put_other c.memory (p.tables + x / 1024) (4096 * fr + 3072) z nx in
        let idle1 = ap (λ d. d.pending) k1.disk ∙ k.held.idle in
        from_then w f (when_code 8 (add_mapping_code p)) (Addiu 15 0 0 ∷ []) 12 1 c1 d1 (λ c' d'. Half c0 (with_reg c' 15 0) d' × (d'.pending ≡ Idle)) (Half c0)
        (from_when w f 8 (add_mapping_code p) 11 c1 d1 (λ c' d'. Half c0 (with_reg c' 15 0) d' × (d'.pending ≡ Idle)) (omega arith) idle1
        (λ z. let uf : IsUserFrame p.layout fr = (omega arith, frb) in let r = room uf in let cnt = others (count_at p fr) (omega arith) (omega arith) in
        let same : (z : ℕ) → p.counts ≤ z → c1.memory z ≡ c.memory z = λ z lz. others z (omega arith) (omega arith) in
        from_later w f (add_mapping_code p) 11 11 c1 d1 (Relisted p fr (Joined (y / 1024) fr) c1 d1) _ (omega arith)
        (λ c2 d2 k2. (
          shared_half c0 c d k room c2 d2 (k2.memory _ (inl (omega arith)) ∙ here) (k2.memory _ (inl (omega arith)) ∙ there) (λ z nx ny o. k2.memory z (⊎_elim (λ o. inl (omega arith)) (λ o. inr (omega arith)) o) ∙ others z nx ny)
              (λ h uh nh z lo hi. k2.memory z (rows_apart p fr h uf uh nh z lo hi) ∙ same z (omega arith))
              (λ uf. f.rows.joined p (y / 1024) fr c1.memory c2.memory c.memory c2.memory d1.sectors d2.sectors d.sectors d.sectors (subst (λ v. v < 4) (sym cnt) r) (λ z lo hi. sym (same z (omega arith))) (λ z lo hi. refl) k2.list)
              (kept_on c c1 c2 k1.keeps (keeps_of w f p b si (y / 1024) fr (Joined (y / 1024) fr) c1 d1 c2 d2 k2)) (k2.behind ∙ k1.disk),
          ap (λ d. d.pending) k2.behind ∙ idle1,
        ))
        (f.joins_list p (y / 1024) fr c1 d1 si uf k1.excess k1.target (subst (λ v. v < 4) (sym cnt) r) idle1))
        (λ z. let nu : IsUserFrame p.layout fr → ⊥ = λ uf. let u0 = uf.0 in omega arith in
        (shared_half c0 c d k room c1 d1 here there (λ z nx ny o. others z nx ny) (λ h uh nh z lo hi. others z (omega arith) (omega arith)) (λ uf. absurd (nu uf)) k1.keeps k1.disk, idle1)))
        (λ c2 d2 h. from_straight w f (Addiu 15 0 0 ∷ []) (Gives 0 ∷ []) c2 d2 (Half c0) refl h.1 (λ n. ((refl, tt), h.0))))

  -- THE WHOLE-PAGE PART
  pub whole_from : (c : Contents) (d : Behind) → PagesHeld p u g c d → IsAccessible (paged_view p c.memory d.sectors) (x / 1024) false → c.regs 26 ≡ x → c.regs 27 ≡ y → From w (try_share_code p) (1 + (38 + (1 + (9 + (4 + (8 + 26)))))) c d (Half c)
  whole_from c d h px from to =
      let low = si.low in let first = si.first in let second = si.second in let third = si.third in let small = f.small in let pages = si.pages in
      straight_then w f (Srl 16 27 10 ∷ []) _ (Gives (y / 1024) ∷ []) (38 + (1 + (9 + (4 + (8 + 26))))) c d (Half c) refl h.idle (λ n. (ap (λ z. z / 2 ^ 10) to, tt))
      (λ n. let held1 : PagesHeld p u g (with_reg c 16 (y / 1024)) d = record { stands = h.stands; small = h.small; low = h.low; above = h.above; special = h.special; r28 = h.r28; r29 = h.r29; r30 = h.r30; r31 = h.r31; behind = h.behind; idle = h.idle } in
      from_then w f (drop_page_code p) _ 38 (1 + (9 + (4 + (8 + 26)))) (with_reg c 16 (y / 1024)) d (DropDone p (y / 1024) (with_reg c 16 (y / 1024)) d) (Half c)
      (drop_from w f p b si (y / 1024) (with_reg c 16 (y / 1024)) d (drop_asked w f p u (y / 1024) g (with_reg c 16 (y / 1024)) d held1 refl (omega arith)))
      (λ c1 d1 k1. let held2 = dropped_held (with_reg c 16 (y / 1024)) d c1 d1 held1 k1 in
      let s : ℕ → ℕ = d.sectors (y / 1024) in
      let same : c1.memory (p.tables + x / 1024) ≡ c.memory (p.tables + x / 1024) = k1.edit.entries (x / 1024) (omega arith) ne in
      let v1 : Valid (c1.memory (p.tables + x / 1024)) = ap (λ e. e / 2048 % 2) same ∙ px.valid in
      let n1 : MapsTo (c1.memory (p.tables + x / 1024)) (c1.memory (p.tables + x / 1024) / 4096) = names_own _ v1 in
      let pass1 : IsAccessible (paged_view p c1.memory d1.sectors) (x / 1024) false = f.handled.stays (paged_view p c.memory d.sectors) (paged_view p c1.memory d1.sectors) (x / 1024) false same px in
      let r26 = k1.keeps.r26 in
      straight_then w f (Srl 16 26 10 ∷ []) _ (Gives (x / 1024) ∷ []) (9 + (4 + (8 + 26))) c1 d1 (Half c) refl held2.idle (λ n. (ap (λ z. z / 2 ^ 10) (r26 ∙ from), tt))
      (λ n. from_then w f (walk_page_table_code p) _ 9 (4 + (8 + 26)) (with_reg c1 16 (x / 1024)) d1 (Found p (x / 1024) (with_reg c1 16 (x / 1024)) d1) (Half c)
      (find_from w f p b si (x / 1024) (with_reg c1 16 (x / 1024)) d1 refl (omega arith) (held2.small (x / 1024) (omega arith)) held2.idle)
      (λ c2 d2 k2. let named = k2.named in let fr0 = held2.stands.named (x / 1024) (c1.memory (p.tables + x / 1024) / 4096) (omega arith) n1 in let fra = fr0.0 in let frb = fr0.1 in
      let fr : ℕ = c1.memory (p.tables + x / 1024) / 4096 in
      let z9 = const_is p.layout.zeros in
      let excess : ℕ = c1.memory (p.tables + x / 1024) / 4096 - p.layout.zeros in
      straight_then w f (Addiu 12 0 1 ∷ user_frame_number_code p) _ (Gives 1 ∷ Gives (p.layout.zeros / 65536 * 2 ^ 16) ∷ Gives p.layout.zeros ∷ Gives (c1.memory (p.tables + x / 1024) / 4096 - p.layout.zeros) ∷ []) (8 + 26) c2 d2 (Half c) refl (ap (λ d. d.pending) k2.disk ∙ held2.idle)
      (λ n. (refl, (refl, (z9, (omega arith, tt)))))
      (λ n. decide c d c1 d1 c2 d2 held2 n1 pass1 k1 k2 to)))))
    where
      decide : (c : Contents) (d : Behind) (c1 : Contents) (d1 : Behind) (c2 : Contents) (d2 : Behind) → PagesHeld p (paged u (y / 1024) (d.sectors (y / 1024))) g c1 d1 → MapsTo (c1.memory (p.tables + x / 1024)) (c1.memory (p.tables + x / 1024) / 4096) → IsAccessible (paged_view p c1.memory d1.sectors) (x / 1024) false
          → DropDone p (y / 1024) (with_reg c 16 (y / 1024)) d c1 d1 → Found p (x / 1024) (with_reg c1 16 (x / 1024)) d1 c2 d2 → c.regs 27 ≡ y
          → From w (when_code 8 (has_free_slot_code p) ++ when_code 12 (share_page_code p)) (8 + 26) (with_reg (with_reg (with_reg (with_reg c2 12 1) 9 (p.layout.zeros / 65536 * 2 ^ 16)) 9 p.layout.zeros) 8 (c1.memory (p.tables + x / 1024) / 4096 - p.layout.zeros)) d2 (Half c)
      decide c d c1 d1 c2 d2 held2 n1 pass1 k1 k2 to =
          let low = si.low in let first = si.first in let second = si.second in let third = si.third in let small = f.small in let most = si.most in
          let fr0 = held2.stands.named (x / 1024) (c1.memory (p.tables + x / 1024) / 4096) (omega arith) n1 in let fra = fr0.0 in let frb = fr0.1 in
          let e2 = k2.entry in let e3 = k2.named in let idle = ap (λ d. d.pending) k2.disk ∙ held2.idle in
          from_then w f (when_code 8 (has_free_slot_code p)) (when_code 12 (share_page_code p)) 8 26 _ d2 (Decided (d.sectors (y / 1024)) (c1.memory (p.tables + x / 1024) / 4096) (with_reg c 16 (x / 1024))) (Half c)
          (from_when w f 8 (has_free_slot_code p) 7 (with_reg (with_reg (with_reg (with_reg c2 12 1) 9 (p.layout.zeros / 65536 * 2 ^ 16)) 9 p.layout.zeros) 8 (c1.memory (p.tables + x / 1024) / 4096 - p.layout.zeros)) d2 (Decided (d.sectors (y / 1024)) (c1.memory (p.tables + x / 1024) / 4096) (with_reg c 16 (x / 1024))) (omega arith) idle
          (λ z. let uf : IsUserFrame p.layout (c1.memory (p.tables + x / 1024) / 4096) = (omega arith, frb) in
          let cnt : c2.memory (count_at p (c1.memory (p.tables + x / 1024) / 4096)) ≡ c1.memory (count_at p (c1.memory (p.tables + x / 1024) / 4096)) = ap (λ m. m (count_at p (c1.memory (p.tables + x / 1024) / 4096))) k2.memory in
          let u0 = uf.0 in
          from_straight w f (has_free_slot_code p) (Gives (4 * p.counts / 65536 * 2 ^ 16) ∷ Gives (4 * p.counts) ∷ Gives (c1.memory (p.tables + x / 1024) / 4096 - p.layout.zeros - 1) ∷ Gives (32 * (c1.memory (p.tables + x / 1024) / 4096 - p.layout.zeros - 1)) ∷ Gives (4 * count_at p (c1.memory (p.tables + x / 1024) / 4096)) ∷ Reads (count_at p (c1.memory (p.tables + x / 1024) / 4096)) (c2.memory (count_at p (c1.memory (p.tables + x / 1024) / 4096))) ∷ Gives (flag (nat_lt (c2.memory (count_at p (c1.memory (p.tables + x / 1024) / 4096))) 4)) ∷ []) _ d2 _ refl idle
          (λ n. (
            (refl, (const_is (4 * p.counts), (omega arith, (omega arith, (omega arith, ((omega arith, omega arith, refl), (refl, tt))))))),
            decided c d c1 d1 c2 d2 held2 n1 k1 k2 _ d2 e2 e3 refl refl (record { r13 = refl; r14 = refl; r15 = refl; r16 = refl; r26 = refl; r27 = refl; r28 = refl; r29 = refl; r30 = refl; r31 = refl; special = refl })
                (⊎_elim (λ one. inl (one.0, λ uf. one.1)) (λ no. inr (no.0, uf, no.1)) (flag_of (c2.memory (count_at p (c1.memory (p.tables + x / 1024) / 4096))) 4)),
          )))
          (λ z. decided c d c1 d1 c2 d2 held2 n1 k1 k2 _ d2 e2 e3 refl refl (record { r13 = refl; r14 = refl; r15 = refl; r16 = refl; r26 = refl; r27 = refl; r28 = refl; r29 = refl; r30 = refl; r31 = refl; special = refl })
          (inl (refl, λ uf. let u0 = uf.0 in absurd (omega arith)))))
          (λ c5 d5 k. from_when w f 12 (share_page_code p) 25 c5 d5 (Half c) (omega arith) k.held.idle
          (λ z. from_later w f (share_page_code p) 25 25 c5 d5 _ (Half c) (omega arith) (λ c6 d6 h. record { r13 = h.r13; r26 = h.r26; r27 = h.r27; r14 = h.r14; out = h.out })
          (share_from (d.sectors (y / 1024)) (c1.memory (p.tables + x / 1024) / 4096) (with_reg c 16 (x / 1024)) c5 d5 to k (⊎_elim (λ a. a.1) (λ a. absurd (z a.0)) k.choice)))
          (λ z. let nk = k.names in record {
            r13 = k.keeps.r13;
            r26 = k.keeps.r26;
            r27 = k.keeps.r27;
            r14 = k.keeps.r14;
            out = ⊎_elim (λ a. let a0 = a.0 in absurd (omega arith))
                (λ a. inr (k.keeps.r15, d.sectors (y / 1024), k.held, record { valid = omega arith; unprotected = λ e. absurd (cc) }, over (d.sectors (y / 1024)), others_of (d.sectors (y / 1024)) (c1.memory (p.tables + x / 1024) / 4096) (with_reg c 16 (x / 1024)) c5 d5 k a.1 a.2))
                k.choice;
          }))
        where
          decided : (c : Contents) (d : Behind) (c1 : Contents) (d1 : Behind) (c2 : Contents) (d2 : Behind) → PagesHeld p (paged u (y / 1024) (d.sectors (y / 1024))) g c1 d1 → MapsTo (c1.memory (p.tables + x / 1024)) (c1.memory (p.tables + x / 1024) / 4096)
              → DropDone p (y / 1024) (with_reg c 16 (y / 1024)) d c1 d1 → Found p (x / 1024) (with_reg c1 16 (x / 1024)) d1 c2 d2 → (c' : Contents) (d' : Behind) → c'.regs 20 ≡ 4 * (p.tables + x / 1024) → c'.regs 21 ≡ c1.memory (p.tables + x / 1024) / 4096 → c'.memory ≡ c2.memory → d' ≡ d2 → Keeps c2 c'
              → ((c'.regs 12 ≡ 1) × (IsUserFrame p.layout (c1.memory (p.tables + x / 1024) / 4096) → c2.memory (count_at p (c1.memory (p.tables + x / 1024) / 4096)) < 4)) ⊎ ((c'.regs 12 ≡ 0) × IsUserFrame p.layout (c1.memory (p.tables + x / 1024) / 4096) × (4 ≤ c2.memory (count_at p (c1.memory (p.tables + x / 1024) / 4096))))
              → Decided (d.sectors (y / 1024)) (c1.memory (p.tables + x / 1024) / 4096) (with_reg c 16 (x / 1024)) c' d'
          decided c d c1 d1 c2 d2 held2 n1 k1 k2 c' d' entry named m e k choice =
              let kept : Keeps (with_reg c1 16 (x / 1024)) c' = kept_on (with_reg c1 16 (x / 1024)) c2 c' k2.keeps k in
              let mm : c'.memory ≡ c1.memory = m ∙ k2.memory in record {
                held = held_to p (paged u (y / 1024) (d.sectors (y / 1024))) g c1 d1 c' d' held2 mm kept.special kept.r28 kept.r29 kept.r30 kept.r31 (e ∙ k2.disk);
                entry = entry;
                named = named;
                names = subst (λ m. MapsTo (m (p.tables + x / 1024)) (c1.memory (p.tables + x / 1024) / 4096)) (sym mm) n1;
                gone = subst (λ m. m (p.tables + y / 1024) / 2048 % 2 ≡ 0) (sym mm) k1.gone;
                keeps = record { r13 = kept.r13 ∙ k1.keeps.r13; r14 = kept.r14 ∙ k1.keeps.r14; r15 = kept.r15 ∙ k1.keeps.r15; r16 = kept.r16; r26 = kept.r26 ∙ k1.keeps.r26; r27 = kept.r27 ∙ k1.keeps.r27; r28 = kept.r28 ∙ k1.keeps.r28; r29 = kept.r29 ∙ k1.keeps.r29; r30 = kept.r30 ∙ k1.keeps.r30; r31 = kept.r31 ∙ k1.keeps.r31; special = kept.special ∙ k1.keeps.special };
                entries = λ z lz nz. ap (λ m. m (p.tables + z)) mm ∙ k1.edit.entries z lz nz;
                choice = ⊎_elim (λ a. inl (a.0, λ uf. subst (λ m. m (count_at p (c1.memory (p.tables + x / 1024) / 4096)) < 4) (sym m) (a.1 uf))) (λ a. inr (a.0, a.1, subst (λ m. 4 ≤ m (count_at p (c1.memory (p.tables + x / 1024) / 4096))) (sym m) a.2)) choice;
              }
