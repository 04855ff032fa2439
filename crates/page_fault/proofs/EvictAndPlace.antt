-- Evict and place: the machine stands for the same flat memories.
use Rattle.std.proofs.Common.{◌≡◌, ℕ, ◌+◌, ◌*◌, ◌<◌, refl, sym, ap, ◌∙◌, ⊎_elim, inl, inr, arith}
use Rattle.std.proofs.lemmas.Bool.{cases_eq}
use Rattle.mips_table.specs.Code.{Contents, Behind, World, Sound}
use Rattle.layer_map.specs.Map.{hand_at}
use Rattle.masm.specs.Laws.{From}
use Rattle.page_model.specs.Paging.{shown_word, Pages, PagingInvariant}
use Rattle.page_model.specs.TableLayout.{TableLayout, paged_view}
use Rattle.swap_layer.specs.Code.{swap_out_code}
use Rattle.frame_table.specs.Code.{evict_frame_code}
use Rattle.frame_table.specs.View.{Sited, Ported, Emptied, names_hand}
use Rattle.page_fault.specs.Code.{load_page_code, page_in_code}
use Rattle.page_fault.proofs.BlocksFrom.{from_then, from_later}
use Rattle.page_fault.proofs.BlockPremises.{Laws, besides_on}
use Rattle.page_fault.proofs.BlockParts.{PlaceAsked, PlaceDone, FillAsked, FillDone}
use Rattle.page_fault.proofs.PagePlaced.{places}

module _ (w : World) (f : Sound w) (laws : Laws w) (p : TableLayout) (b : ℕ) (si : Sited p w) (pt : Ported p w b) (v : Pages) (q : ℕ) (c0 : Contents) (d0 : Behind) (a : FillAsked p v q c0 d0) where
  in_range : c0.memory hand_at < p.layout.frames
  in_range = let h = a.stands.hand in let h0 = h.0 in let h1 = h.1 in omega arith

  asked : (c1 : Contents) (d1 : Behind) → Emptied p c0 d0 c1 d1 → PlaceAsked p q (c0.memory hand_at) c1 d1
  asked c1 d1 e =
      let m = laws.evictions p.layout v (p.layout.zeros + 1 + c0.memory hand_at) (paged_view p c0.memory d0.sectors) (paged_view p c1.memory d1.sectors) a.stands a.stands.hand e.evicted in
      let s : PagingInvariant p.layout v (paged_view p c1.memory d1.sectors) = m.0 in record {
        page = e.regs 16 (inl (omega arith, omega arith)) ∙ a.page;
        inside = a.inside;
        index = e.index;
        frame = e.frame;
        in_range = in_range;
        small = e.small q a.inside (a.small q a.inside);
        named = λ y n. s.named q y a.inside n;
        away = λ n. m.1 q a.inside n;
        few = λ y u. laws.lists.few p.layout v (paged_view p c1.memory d1.sectors) y s u;
        list = λ y u n.
            let it = s.lists y u in
            let k = laws.lists.found p.layout v (paged_view p c1.memory d1.sectors) q y s u a.inside n in
            (k.0, record { inside = k.1; few = laws.lists.few p.layout v (paged_view p c1.memory d1.sectors) y s u; is = k.2; once = λ j lj e. it.apart j k.0 lj k.1 (e ∙ sym k.2) });
        idle = e.besides.idle;
      }

  done : (c1 : Contents) (d1 : Behind) (c : Contents) (d : Behind) → Emptied p c0 d0 c1 d1 → PlaceDone p q (c0.memory hand_at) c1 d1 c d → FillDone p v q c0 d0 c d
  done c1 d1 c d e k =
      let low = si.low in let first = si.first in let second = si.second in let third = si.third in let words = f.small in
      let both = laws.fills.filled p.layout v q (shown_word (paged_view p c1.memory d1.sectors) q) (paged_view p c0.memory d0.sectors) (paged_view p c1.memory d1.sectors) (paged_view p c.memory d.sectors) a.stands a.inside a.live e.evicted (λ i li. refl) k.placed k.hand in record {
        stands = both.0;
        filled = both.1;
        low = λ x lt ne. k.memory x (omega arith) (inl (omega arith)) (inl (omega arith)) (omega arith) ne ∙ e.memory x (omega arith) (inl lt) (omega arith);
        above = λ x le lt. let r = in_range in let i = a.inside in k.memory x lt (inr (omega arith)) (inr (omega arith)) (omega arith) (omega arith) ∙ e.memory x lt (inr (omega arith)) (omega arith);
        small = λ x lt. ⊎_elim
            (λ eq. let z = k.placed.entry in let r = in_range in let zz : c.memory (p.tables + x) ≡ c.memory (p.tables + q) = ap (λ y. c.memory (p.tables + y)) eq in omega arith)
            (λ ne. let z = k.placed.entries x lt ne in let y = e.small x lt (a.small x lt) in omega arith)
            (cases_eq x q);
        regs = λ x o. k.regs x o ∙ e.regs x o;
        beyond = λ x i le. k.sectors x i ∙ e.beyond x i le;
        besides = besides_on c0 c1 c d0 d1 d e.besides k.besides;
      }

  -- FILL: six steps an entry, a swap for each name of the frame at the hand, and one
  pub fill_from : From w (page_in_code p) (names_hand p c0.memory * (b + 2707) + b + 2771) c0 d0 (FillDone p v q c0 d0)
  fill_from = from_later w laws.runs (page_in_code p) ((names_hand p c0.memory * (b + 2707) + 15) + (b + 2756)) _ c0 d0 _ _ (omega arith) (λ c d k. k)
      (from_then w laws.runs (evict_frame_code p swap_out_code) (load_page_code p) (names_hand p c0.memory * (b + 2707) + 15) (b + 2756) c0 d0 (Emptied p c0 d0) _ (laws.evicts swap_out_code p b v c0 d0 (omega arith) (laws.swaps b pt.disk) si pt a.stands a.idle)
      (λ c1 d1 e. from_later w laws.runs (load_page_code p) (b + 2756) (b + 2756) c1 d1 _ _ (omega arith) (λ c d k. done c1 d1 c d e k) (places w f laws p b si pt q (c0.memory hand_at) c1 d1 (asked c1 d1 e))))
