-- The words of the page that is wanted are found: they come from its sector into the buffer, or stand in the frame that it shares.
use Rattle.std.proofs.Common.{◌≡◌, ◌≢◌, ℕ, ◌+◌, ◌*◌, ◌/◌, ◌%◌, ◌^◌, ◌<◌, ◌≤◌, ◌⊎◌, List, [], ◌∷◌, refl, sym, ap, ◌∙◌, subst, ⊎_elim, inl, inr, arith}
use Rattle.std.proofs.lemmas.Bool.{cases_eq}
use Rattle.mips_table.specs.declared.inst.Inst.TheVariants.{Sll}
use Rattle.mips_table.specs.Device.{BUFFER}
use Rattle.mips_table.specs.Code.{Contents, Behind, World, Sound}
use Rattle.mips_table.proofs.NumbersInHalves.{const_is}
use Rattle.masm.specs.Says.{Says, Gives, Reads, sayings}
use Rattle.masm.specs.Blocks.{when_code}
use Rattle.masm.specs.Laws.{From}
use Rattle.page_model.specs.Paging.{IsFrame, MapsTo}
use Rattle.page_model.specs.TableLayout.{TableLayout, paged_view}
use Rattle.swap_layer.specs.Code.{read_sector_code}
use Rattle.swap_layer.specs.Laws.{SectorFetched}
use Rattle.frame_table.specs.View.{Sited, Ported, scratch}
use Rattle.frame_table.proofs.KeptIsNotScratch.{kept_out}
use Rattle.page_fault.specs.Code.{look_up_page_code, locate_words_code}
use Rattle.page_fault.proofs.BlocksFrom.{from_straight, from_then, from_when, from_later, straight_then}
use Rattle.page_fault.proofs.BlockPremises.{Laws, names_own, besides_same, besides_none, besides_on}
use Rattle.page_fault.proofs.BlockParts.{PlaceAsked, Sourced}

-- what is said of the instructions that look at an entry e of page q: v tells whether it is valid, and a whether it isn't
abbrev pub seen_says : TableLayout → ℕ → ℕ → ℕ → ℕ → List Says
seen_says p q e v a = Gives (4 * p.tables / 65536 * 2 ^ 16) ∷ Gives (4 * p.tables) ∷ Gives (4 * q) ∷ Gives (4 * (p.tables + q)) ∷ Reads (p.tables + q) e ∷ Gives (e / 4096) ∷ Gives (e / 2048) ∷ Gives (e / 2048 * 2 ^ 31 % 2 ^ 32) ∷ Gives v ∷ Gives a ∷ []

module _ (w : World) (f : Sound w) (laws : Laws w) (p : TableLayout) (b : ℕ) (si : Sited p w) (pt : Ported p w b) (q h : ℕ) (c1 : Contents) (d1 : Behind) (a : PlaceAsked p q h c1 d1) where
  abbrev g : ℕ
  g = p.layout.zeros + 1 + h

  abbrev e : ℕ
  e = c1.memory (p.tables + q)

  -- from the sector
  comes_in : e / 2048 % 2 ≡ 0 → From w (locate_words_code p) (10 + ((b + 8 + 1) + (1 + 1))) c1 d1 (Sourced p q h w c1 d1)
  comes_in gone =
      let low = si.low in let first = si.first in let second = si.second in let third = si.third in let words = f.small in let inside = a.inside in let range = a.in_range in let sectors = pt.sectors in let page = a.page in let small = a.small in
      straight_then w laws.runs laws.straight (look_up_page_code p 25) _ (seen_says p q (c1.memory (p.tables + q)) 0 1) _ c1 d1 _ refl a.idle
      (λ n. (refl, (const_is (4 * p.tables), (omega arith, (omega arith, ((omega arith, omega arith, refl), (refl, (refl, (refl, (omega arith, (refl, tt)))))))))))
      (λ n. from_then w laws.runs (when_code 25 read_sector_code) (when_code 24 (Sll 1 21 12 ∷ [])) (b + 8 + 1) (1 + 1) _ d1 (SectorFetched q (sayings n (look_up_page_code p 25) (seen_says p q (c1.memory (p.tables + q)) 0 1) c1) d1) _
      (from_when w laws.runs laws.whens 25 read_sector_code (b + 8) _ d1 _ (omega arith) a.idle
      (λ ne. laws.fetches b q _ d1 pt.disk a.page (omega arith) a.idle)
      (λ z. absurd (omega arith)))
      (λ c3 d3 k. from_when w laws.runs laws.whens 24 (Sll 1 21 12 ∷ []) 1 c3 d3 _ (omega arith) k.besides.idle
      (λ ne. absurd (ne (k.regs 24 (omega arith))))
      (λ z. record {
        a = BUFFER;
        from = k.from;
        place = inr refl;
        apart = inr (omega arith);
        words = λ i li. k.words i li ∙ sym (laws.shows.gone (paged_view p c1.memory d1.sectors) q i gone);
        memory = λ x lx. k.memory x lx;
        index = k.regs 17 (omega arith) ∙ a.index;
        frame = k.regs 18 (omega arith) ∙ a.frame;
        entry = k.regs 20 (omega arith);
        named = k.regs 21 (omega arith);
        valid = k.regs 24 (omega arith) ∙ sym gone;
        sectors = k.sectors;
        regs = λ x o. k.regs x (⊎_elim (λ h. omega arith) (λ h. omega arith) o) ∙ laws.stays scratch x (kept_out x o) (look_up_page_code p 25) (seen_says p q (c1.memory (p.tables + q)) 0 1) n c1 refl refl;
        besides = besides_on c1 _ c3 d1 d1 d3 (besides_same c1 c1 (sayings n (look_up_page_code p 25) (seen_says p q (c1.memory (p.tables + q)) 0 1) c1) d1 d1 refl refl refl (besides_none c1 d1 a.idle)) k.besides;
      })))

  -- from the frame that it shares
  stands_in : e / 2048 % 2 ≡ 1 → From w (locate_words_code p) (10 + ((0 + 1) + (1 + 1))) c1 d1 (Sourced p q h w c1 d1)
  stands_in val =
      let low = si.low in let first = si.first in let second = si.second in let third = si.third in let words = f.small in let inside = a.inside in let range = a.in_range in let page = a.page in let small = a.small in
      let own : MapsTo e (e / 4096) = names_own e val in
      let in' : IsFrame p.layout (e / 4096) = a.named (e / 4096) own in
      let lo : p.layout.zeros ≤ e / 4096 = in'.0 in
      let hi : e / 4096 ≤ p.layout.zeros + p.layout.frames = in'.1 in
      let other : e / 4096 ≢ g = λ eq. a.away (own ∙ ap (λ y. 2 * y + 1) eq) in
      straight_then w laws.runs laws.straight (look_up_page_code p 25) _ (seen_says p q (c1.memory (p.tables + q)) 1 0) _ c1 d1 _ refl a.idle
      (λ n. (refl, (const_is (4 * p.tables), (omega arith, (omega arith, ((omega arith, omega arith, refl), (refl, (refl, (refl, (omega arith, (refl, tt)))))))))))
      (λ n. from_then w laws.runs (when_code 25 read_sector_code) (when_code 24 (Sll 1 21 12 ∷ [])) (0 + 1) (1 + 1) _ d1 (λ c d. (c ≡ sayings n (look_up_page_code p 25) (seen_says p q (c1.memory (p.tables + q)) 1 0) c1) × (d ≡ d1)) _
      (from_when w laws.runs laws.whens 25 read_sector_code 0 _ d1 _ (omega arith) a.idle
      (λ ne. absurd (ne refl))
      (λ z. (refl, refl)))
      (λ c3 d3 i. subst (λ c. From w (when_code 24 (Sll 1 21 12 ∷ [])) (1 + 1) c d3 (Sourced p q h w c1 d1)) (sym i.0) (subst (λ d. From w (when_code 24 (Sll 1 21 12 ∷ [])) (1 + 1) (sayings n (look_up_page_code p 25) (seen_says p q (c1.memory (p.tables + q)) 1 0) c1) d (Sourced p q h w c1 d1)) (sym i.1)
      (from_when w laws.runs laws.whens 24 (Sll 1 21 12 ∷ []) 1 (sayings n (look_up_page_code p 25) (seen_says p q (c1.memory (p.tables + q)) 1 0) c1) d1 _ (omega arith) a.idle
      (λ ne. from_straight w laws.runs laws.straight (Sll 1 21 12 ∷ []) (Gives (4 * (1024 * (e / 4096))) ∷ []) (sayings n (look_up_page_code p 25) (seen_says p q (c1.memory (p.tables + q)) 1 0) c1) d1 _ refl a.idle
      (λ m. (
        (omega arith, tt),
        record {
          a = 1024 * (e / 4096);
          from = refl;
          place = inl (omega arith);
          apart = ⊎_elim (λ l. inl (omega arith)) (λ l. inr (omega arith)) (either (e / 4096) g other);
          words = λ i li. sym (laws.shows.valid (paged_view p c1.memory d1.sectors) q (e / 4096) i own);
          memory = λ x lx. refl;
          index = a.index;
          frame = a.frame;
          entry = refl;
          named = refl;
          valid = sym val;
          sectors = λ x i. refl;
          regs = λ x o. laws.stays scratch x (kept_out x o) (Sll 1 21 12 ∷ []) (Gives (4 * (1024 * (e / 4096))) ∷ []) m (sayings n (look_up_page_code p 25) (seen_says p q (c1.memory (p.tables + q)) 1 0) c1) refl refl ∙ laws.stays scratch x (kept_out x o) (look_up_page_code p 25) (seen_says p q (c1.memory (p.tables + q)) 1 0) n c1 refl refl;
          besides = besides_same c1 c1 _ d1 d1 refl refl refl (besides_none c1 d1 a.idle);
        },
      )))
      (λ z. absurd (omega arith))))))
    where
      either : (x y : ℕ) → x ≢ y → (x < y) ⊎ (y < x)
      either x y ne = grind arith

  pub sources : From w (locate_words_code p) (b + 21) c1 d1 (Sourced p q h w c1 d1)
  sources = ⊎_elim
      (λ z. from_later w laws.runs (locate_words_code p) (10 + ((b + 8 + 1) + (1 + 1))) _ c1 d1 _ _ (omega arith) (λ c d k. k) (comes_in z))
      (λ ne. from_later w laws.runs (locate_words_code p) (10 + ((0 + 1) + (1 + 1))) _ c1 d1 _ _ (omega arith) (λ c d k. k) (stands_in (omega arith)))
      (cases_eq (e / 2048 % 2) 0)
