-- The frame at the hand is emptied: its list is walked, and the frame goes to the sector of each page of it.
use Rattle.std.proofs.Common.{◌≡◌, ◌≢◌, ℕ, suc, ◌+◌, ◌-◌, ◌*◌, ◌/◌, ◌%◌, ◌^◌, ◌<◌, ◌≤◌, ◌⊎◌, List, [], ◌∷◌, ◌++◌, length, length-append, refl, sym, ap, ◌∙◌, subst, ⊎_elim, inl, inr, arith}
use Rattle.std.proofs.lemmas.Bool.{cases_eq}
use Rattle.mips_table.specs.declared.inst.Inst.{Inst}
use Rattle.mips_table.specs.declared.inst.Inst.TheVariants.{Sw}
use Rattle.mips_table.specs.Device.{Idle, BUFFER}
use Rattle.mips_table.specs.Code.{put, with_reg, Contents, Behind, World, Sound, Does}
use Rattle.mips_table.proofs.PutsChangeOneWord.{put_same, put_other}
use Rattle.mips_table.proofs.NumbersInHalves.{const_is}
use Rattle.layer_map.specs.Map.{hand_at}
use Rattle.masm.specs.Says.{Says, Gives, Reads, Writes}
use Rattle.masm.specs.Laws.{From}
use Rattle.masm.specs.Stays.{RegistersStay}
use Rattle.masm.specs.Frames.{SwappedOut, Besides, WritesFrames}
use Rattle.masm.proofs.RulesForRoutines.{from_straight, from_then, from_later, straight_then, does_from, from_does, loop_goes}
use Rattle.page_model.specs.Paging.{IsUserFrame, MapsTo, Pages, Listed, PagingInvariant}
use Rattle.page_model.specs.Laws.{ListsAreWhole, EntriesShow}
use Rattle.page_model.specs.TableLayout.{TableLayout, count_at, slot_at, paged_view}
use Rattle.frame_table.specs.declared.evicting.TheConstants.{UNMAP_PAGE, NEXT_SLOT}
use Rattle.frame_table.specs.Code.{read_clock_hand_code, read_reverse_map_code, write_back_page_code, write_back_all_code, evict_frame_code}
use Rattle.frame_table.specs.View.{Sited, Ported, LeftByEviction, scratch, Emptied}
use Rattle.frame_table.specs.Laws.{Evicts}
use Rattle.frame_table.proofs.KeptIsNotScratch.{kept_out}

module _ (w : World) (f : Sound w) (spared : RegistersStay) (lists : ListsAreWhole) (shows : EntriesShow) (block : List Inst) (short : length block ≤ 1000) (p : TableLayout) (b : ℕ) (writes : WritesFrames w block (b + 2699)) (si : Sited p w) (pt : Ported p w b) (v : Pages) (c0 : Contents) (d0 : Behind)
    (stands : PagingInvariant p.layout v (paged_view p c0.memory d0.sectors)) (idle : d0.pending ≡ Idle) where
  abbrev h : ℕ
  h = c0.memory hand_at

  abbrev g : ℕ
  g = p.layout.zeros + 1 + c0.memory hand_at

  abbrev row : ℕ
  row = p.counts + 8 * c0.memory hand_at

  abbrev num : ℕ
  num = c0.memory (p.counts + 8 * c0.memory hand_at)

  -- the page in slot k
  abbrev page : ℕ → ℕ
  page k = c0.memory (p.counts + 8 * c0.memory hand_at + 1 + k)

  in_range : c0.memory hand_at < p.layout.frames
  in_range = let u = stands.hand in let u0 = u.0 in let u1 = u.1 in omega arith

  user : IsUserFrame p.layout g
  user = stands.hand

  at_row : count_at p g ≡ row
  at_row = omega arith

  count_is : (paged_view p c0.memory d0.sectors).count g ≡ num
  count_is = ap c0.memory at_row

  page_is : (k : ℕ) → (paged_view p c0.memory d0.sectors).slot g k ≡ page k
  page_is k = ap (λ y. c0.memory (y + 1 + k)) at_row

  list : Listed p.layout (paged_view p c0.memory d0.sectors) g
  list = stands.lists g user

  few : num ≤ 4
  few = let k = lists.few p.layout v (paged_view p c0.memory d0.sectors) g stands user in let e = count_is in omega arith

  inside : (k : ℕ) → k < num → page k < p.layout.pages
  inside k lt = let e = count_is in subst (λ y. y < p.layout.pages) (page_is k) (list.inside k (omega arith))

  names : (k : ℕ) → k < num → MapsTo (c0.memory (p.tables + page k)) g
  names k lt = let e = count_is in ap (λ y. c0.memory (p.tables + y) / 2048) (sym (page_is k)) ∙ list.names k (omega arith)

  apart : (j k : ℕ) → j < num → k < num → page j ≡ page k → j ≡ k
  apart j k lj lk eq = let e = count_is in list.apart j k (omega arith) (omega arith) (page_is j ∙ eq ∙ sym (page_is k))

  whole : (q : ℕ) → q < p.layout.pages → MapsTo (c0.memory (p.tables + q)) g → (k : ℕ) × (k < num) × (page k ≡ q)
  whole q lt n = let x = lists.found p.layout v (paged_view p c0.memory d0.sectors) q g stands user lt n in (x.0, subst (λ y. x.0 < y) count_is x.1, sym (page_is x.0) ∙ x.2)

  -- the pages in the first n slots have gone out
  record Walked (n : ℕ) (c : Contents) (d : Behind) : Type 0 where
    most : n ≤ num
    index : c.regs 17 ≡ h
    frame : c.regs 18 ≡ 4096 * g
    table : c.regs 19 ≡ 4 * row
    base : c.regs 20 ≡ 4 * p.tables
    slot : c.regs 22 ≡ 4 * (row + n)
    left : c.regs 23 ≡ num - n
    gone : (k : ℕ) → k < n → c.memory (p.tables + page k) ≡ 0
    saved : (k : ℕ) → k < n → (i : ℕ) → i < 1024 → d.sectors (page k) i ≡ c0.memory (1024 * g + i)
    entries : (x : ℕ) → x < p.layout.pages → ((k : ℕ) → k < n → x ≢ page k) → c.memory (p.tables + x) ≡ c0.memory (p.tables + x)
    sectors : (x i : ℕ) → ((k : ℕ) → k < n → x ≢ page k) → d.sectors x i ≡ d0.sectors x i
    memory : (x : ℕ) → x < BUFFER → (x < p.tables) ⊎ (p.tables + p.layout.pages ≤ x) → c.memory x ≡ c0.memory x
    regs : (x : ℕ) → LeftByEviction x → c.regs x ≡ c0.regs x
    besides : Besides c0 d0 c d

  -- a turn
  turn_from : (n : ℕ) (c : Contents) (d : Behind) → n < num → Walked n c d → From w (write_back_page_code block) (b + 2705) c d (Walked (suc n))
  turn_from n c d lt t =
      let low = si.low in let first = si.first in let second = si.second in let third = si.third in let most = si.most in let sectors = pt.sectors in let words = f.small in
      let range = in_range in let four = few in
      let r18 = t.frame in let r20 = t.base in let r22 = t.slot in let r23 = t.left in
      let s = page n in
      let s_in = inside n lt in
      let c1 : Contents = record (with_reg (with_reg (with_reg c 21 s) 8 (4 * s)) 8 (4 * (p.tables + s))) { memory = put c.memory (p.tables + s) 0 } in
      from_later w (write_back_page_code block) (4 + (b + 2699 + 2)) (b + 2705) c d _ _ (omega arith) (λ c' d' k. k)
      (straight_then w f UNMAP_PAGE (block ++ NEXT_SLOT) (Reads (row + 1 + n) (page n) ∷ Gives (4 * page n) ∷ Gives (4 * (p.tables + page n)) ∷ Writes (p.tables + page n) 0 ∷ []) (b + 2699 + 2) c d _ refl t.besides.idle
      (λ m. ((omega arith, omega arith, t.memory (row + 1 + n) (omega arith) (inr (omega arith))), (omega arith, (omega arith, ((omega arith, omega arith, si.free (p.tables + page n) (omega arith) (omega arith), refl), tt)))))
      (λ m0. from_then w block NEXT_SLOT (b + 2699) 2 _ d (SwappedOut (page n) g c1 d) _ (writes (page n) g _ d refl t.frame (omega arith) (omega arith) t.besides.idle)
      (λ c2 d2 k.
      let r22' : c2.regs 22 ≡ 4 * (row + n) = k.regs 22 (omega arith) ∙ t.slot in
      let r23' : c2.regs 23 ≡ num - n = k.regs 23 (omega arith) ∙ t.left in
      let wrote : (x : ℕ) → x < BUFFER → x ≢ p.tables + page n → c2.memory x ≡ c.memory x = λ x lx ne. k.memory x lx ∙ put_other c.memory (p.tables + page n) 0 x ne in
      from_straight w f NEXT_SLOT (Gives (4 * (row + suc n)) ∷ Gives (num - suc n) ∷ []) c2 d2 (Walked (suc n)) refl k.besides.idle
      (λ m. (
        (omega arith, (omega arith, tt)),
        record {
          most = lt;
          index = k.regs 17 (omega arith) ∙ t.index;
          frame = k.regs 18 (omega arith) ∙ t.frame;
          table = k.regs 19 (omega arith) ∙ t.table;
          base = k.regs 20 (omega arith) ∙ t.base;
          slot = refl;
          left = refl;
          gone = λ j lj. ⊎_elim
              (λ eq. let e : page j ≡ page n = ap page eq in k.memory (p.tables + page j) (omega arith) ∙ put_same c.memory (p.tables + page n) 0 (p.tables + page j) (omega arith))
              (λ ne. let i = inside j (omega arith) in wrote (p.tables + page j) (omega arith) (λ z. ne (apart j n (omega arith) lt (omega arith))) ∙ t.gone j (omega arith))
              (cases_eq j n);
          saved = λ j lj i li. ⊎_elim
              (λ eq. ap (λ y. d2.sectors (page y) i) eq ∙ k.sector i li ∙ put_other c.memory (p.tables + page n) 0 (1024 * g + i) (omega arith) ∙ t.memory (1024 * g + i) (omega arith) (inr (omega arith)))
              (λ ne. k.sectors (page j) i (λ z. ne (apart j n (omega arith) lt z)) ∙ t.saved j (omega arith) i li)
              (cases_eq j n);
          entries = λ x lx none. wrote (p.tables + x) (omega arith) (λ z. none n (omega arith) (omega arith)) ∙ t.entries x lx (λ j lj. none j (omega arith));
          sectors = λ x i none. k.sectors x i (none n (omega arith)) ∙ t.sectors x i (λ j lj. none j (omega arith));
          memory = λ x lx o. wrote x lx (⊎_elim (λ z e. omega arith) (λ z e. omega arith) o) ∙ t.memory x lx o;
          regs = λ x o. spared scratch x (kept_out x o) NEXT_SLOT (Gives (4 * (row + suc n)) ∷ Gives (num - suc n) ∷ []) m c2 refl refl
              ∙ k.regs x (⊎_elim (λ h. let h0 = h.0 in omega arith) (λ h. omega arith) o)
              ∙ spared scratch x (kept_out x o) UNMAP_PAGE (Reads (row + 1 + n) (page n) ∷ Gives (4 * page n) ∷ Gives (4 * (p.tables + page n)) ∷ Writes (p.tables + page n) 0 ∷ []) m0 c refl refl ∙ t.regs x o;
          besides = record { special = k.besides.special ∙ t.besides.special; hi = k.besides.hi ∙ t.besides.hi; lo = k.besides.lo ∙ t.besides.lo; log = k.besides.log ∙ t.besides.log; input = k.besides.input ∙ t.besides.input; idle = k.besides.idle };
        },
      )))))

  body_short : length (write_back_page_code block) + 2 ≤ 32768
  body_short = let e = length-append block NEXT_SLOT in omega (arith, e, short)

  less_left : (n : ℕ) → n < num → b + 2705 + 2 + (num - suc n) * (b + 2707) ≤ (num - n) * (b + 2707)
  less_left n lt =
      let e : num - n ≡ num - suc n + 1 = omega arith in
      let x : (num - n) * (b + 2707) ≡ (num - suc n + 1) * (b + 2707) = ap (λ y. y * (b + 2707)) e in
      omega arith

  walks : Does w (write_back_all_code block) ((num - 0) * (b + 2707) + 1) (Walked 0) (Walked num)
  walks = loop_goes w f (write_back_page_code block) 23 Walked (λ n. n < num) (λ n. (num - n) * (b + 2707)) (λ n. b + 2705) suc (Walked num) body_short
      (λ n c d t. t.besides.idle)
      less_left
      (λ n lt. does_from w (write_back_page_code block) (b + 2705) (Walked n) (Walked (suc n)) (λ c d t. turn_from n c d lt t))
      (λ n c d t ne. let m = t.most in let l = t.left in ⊎_elim (λ eq. absurd (ne (omega arith))) (λ other. omega arith) (cases_eq n num))
      (λ n c d t z. let m = t.most in let l = t.left in let eq : n ≡ num = omega arith in subst (λ y. Walked y c d) eq t)
      0

  -- the count becomes 0
  ends : (c1 : Contents) (d1 : Behind) → Walked num c1 d1 → From w (Sw 0 19 0 ∷ []) 1 c1 d1 (Emptied p c0 d0)
  ends c1 d1 t =
      let low = si.low in let first = si.first in let second = si.second in let third = si.third in let most = si.most in let words = f.small in
      let range = in_range in let r19 = t.table in
      from_straight w f (Sw 0 19 0 ∷ []) (Writes row 0 ∷ []) c1 d1 _ refl t.besides.idle
      (λ n.
      let wrote : (x : ℕ) → x ≢ row → put c1.memory row 0 x ≡ c1.memory x = λ x ne. put_other c1.memory row 0 x ne in (
        ((omega arith, omega arith, si.free row (omega arith) (omega arith), refl), tt),
        record {
          frame = t.frame;
          index = t.index;
          evicted = record {
            gone = λ x lt m. let k = whole x lt m in ap (λ y. y / 2048 % 2) (wrote (p.tables + x) (omega arith) ∙ ap (λ y. c1.memory (p.tables + y)) (sym k.2) ∙ t.gone k.0 k.1);
            saved = λ x lt m j lj. let k = whole x lt m in ap (λ y. d1.sectors y j) (sym k.2) ∙ t.saved k.0 k.1 j lj;
            entries = λ x lt m. wrote (p.tables + x) (omega arith) ∙ t.entries x lt (unnamed x m);
            sectors = λ x lt m j lj. t.sectors x j (unnamed x m);
            frames = λ y uy j lj. let u0 = uy.0 in let u1 = uy.1 in wrote (1024 * y + j) (omega arith) ∙ t.memory (1024 * y + j) (omega arith) (inr (omega arith));
            count = put_same c1.memory row 0 (count_at p g) at_row;
            counts = λ y uy ne. let u0 = uy.0 in let u1 = uy.1 in wrote (count_at p y) (λ z. ne (omega arith)) ∙ t.memory (count_at p y) (omega arith) (inr (omega arith));
            slots = λ y uy ne k lk. let u0 = uy.0 in let u1 = uy.1 in let four = lists.few p.layout v (paged_view p c0.memory d0.sectors) y stands uy in
                wrote (slot_at p y k) (λ z. omega arith) ∙ t.memory (slot_at p y k) (omega arith) (inr (omega arith));
            hand = ap (λ v. p.layout.zeros + 1 + v) (wrote hand_at (omega arith) ∙ t.memory hand_at (omega arith) (inl (omega arith)));
          };
          small = λ x lt k. ⊎_elim
              (λ m. let a = whole x lt m in subst (λ y. y < 2 ^ 32) (sym (wrote (p.tables + x) (omega arith) ∙ ap (λ y. c1.memory (p.tables + y)) (sym a.2) ∙ t.gone a.0 a.1)) (omega arith))
              (λ m. subst (λ y. y < 2 ^ 32) (sym (wrote (p.tables + x) (omega arith) ∙ t.entries x lt (unnamed x m))) k)
              (shows.either (c0.memory (p.tables + x)) g);
          memory = λ x lt o ne. wrote x ne ∙ t.memory x lt o;
          beyond = λ x i le. t.sectors x i (λ k lk eq. let z = inside k lk in omega arith);
          regs = t.regs;
          besides = record { special = t.besides.special; hi = t.besides.hi; lo = t.besides.lo; log = t.besides.log; input = t.besides.input; idle = t.besides.idle };
        },
      ))
    where
      -- a page that doesn't name the frame is in no slot
      unnamed : (x : ℕ) → (MapsTo (c0.memory (p.tables + x)) g → ⊥) → (k : ℕ) → k < num → x ≢ page k
      unnamed x m k lk eq = m (ap (λ y. c0.memory (p.tables + y) / 2048) eq ∙ names k lk)

  abbrev first_says : List Says
  first_says = Reads hand_at h ∷ Gives (4096 * (p.layout.zeros + 1) / 65536 * 2 ^ 16) ∷ Gives (4096 * (p.layout.zeros + 1)) ∷ Gives (4096 * h) ∷ Gives (4096 * g)
      ∷ Gives (4 * p.counts / 65536 * 2 ^ 16) ∷ Gives (4 * p.counts) ∷ Gives (32 * h) ∷ Gives (4 * row) ∷ Gives (4 * p.tables / 65536 * 2 ^ 16) ∷ Gives (4 * p.tables) ∷ Reads row num ∷ Gives (4 * row) ∷ []

  pub evicts : From w (evict_frame_code p block) (num * (b + 2707) + 15) c0 d0 (Emptied p c0 d0)
  evicts =
      let low = si.low in let first = si.first in let second = si.second in let third = si.third in let most = si.most in let words = f.small in
      let range = in_range in
      from_later w (evict_frame_code p block) (13 + ((num * (b + 2707) + 1) + 1)) _ c0 d0 _ _ (omega arith) (λ c d k. k)
      (straight_then w f (read_clock_hand_code p ++ read_reverse_map_code p) (write_back_all_code block ++ (Sw 0 19 0 ∷ [])) first_says _ c0 d0 _ refl idle
      (λ n. ((refl, omega arith, refl), (refl, (const_is (4096 * (p.layout.zeros + 1)), (omega arith, (omega arith, (refl, (const_is (4 * p.counts), (omega arith, (omega arith, (refl, (const_is (4 * p.tables), ((omega arith, omega arith, refl), (omega arith, tt))))))))))))))
      (λ n. from_then w (write_back_all_code block) (Sw 0 19 0 ∷ []) (num * (b + 2707) + 1) 1 _ d0 (Walked num) _
      (from_later w (write_back_all_code block) ((num - 0) * (b + 2707) + 1) _ _ d0 (Walked num) _ all (λ c d k. k)
      (from_does w (write_back_all_code block) _ _ d0 (Walked 0) (Walked num)
      (record {
        most = omega arith;
        index = refl;
        frame = refl;
        table = refl;
        base = refl;
        slot = omega arith;
        left = omega arith;
        gone = λ k lt. absurd (omega arith);
        saved = λ k lt. absurd (omega arith);
        entries = λ x lt none. refl;
        sectors = λ x i none. refl;
        memory = λ x lt o. refl;
        regs = λ x o. spared scratch x (kept_out x o) (read_clock_hand_code p ++ read_reverse_map_code p) first_says n c0 refl refl;
        besides = record { special = refl; hi = refl; lo = refl; log = refl; input = refl; idle = idle };
      })
      walks))
      (λ c d t. ends c d t)))
    where
      all : (num - 0) * (b + 2707) + 1 ≤ num * (b + 2707) + 1
      all = let x : (num - 0) * (b + 2707) ≡ num * (b + 2707) = ap (λ y. y * (b + 2707)) (omega arith) in omega arith

pub evicting : (w : World) → Sound w → RegistersStay → ListsAreWhole → EntriesShow → Evicts w
evicting w f spared lists shows out p b v c d short writes si pt stands idle = evicts w f spared lists shows out short p b writes si pt v c d stands idle
