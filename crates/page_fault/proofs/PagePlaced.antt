-- A page is placed in the free frame at the hand.
use Rattle.std.proofs.Common.{◌≡◌, ◌≢◌, ℕ, ◌+◌, ◌*◌, ◌/◌, ◌^◌, ◌<◌, ◌≤◌, ◌⊎◌, nat_lt, List, [], ◌∷◌, ◌++◌, refl, sym, ap, ◌∙◌, subst, ⊎_elim, inl, inr, arith, lt-ltb, le-ltb}
use Rattle.std.proofs.lemmas.Bool.{cases_eq, cond-true, cond-false}
use Rattle.std.proofs.lemmas.Bool.Decides.{nat_tests}
use Rattle.mips_table.specs.declared.inst.Inst.{Inst}
use Rattle.mips_table.specs.declared.inst.Inst.TheVariants.{Sll, Addu, Subu, Sltiu, Addiu, Sw}
use Rattle.mips_table.specs.Arith.{difference}
use Rattle.mips_table.specs.Code.{put, Contents, Behind, World, Sound}
use Rattle.mips_table.proofs.PutsChangeOneWord.{put_same, put_other}
use Rattle.mips_table.proofs.NumbersInHalves.{const_is, small_is}
use Rattle.layer_map.specs.Map.{hand_at}
use Rattle.masm.specs.Says.{Says, Gives, Writes, sayings}
use Rattle.masm.specs.Blocks.{when_code}
use Rattle.masm.specs.Laws.{From}
use Rattle.page_model.specs.Paging.{PageLayout, IsUserFrame, MapsTo, next_frame, private_entry}
use Rattle.page_model.specs.TableLayout.{TableLayout, count_at, slot_at}
use Rattle.page_model.specs.Rows.{SameRow}
use Rattle.swap_layer.specs.Code.{copy_to_frame_code}
use Rattle.frame_table.specs.View.{Sited, Ported, LeftByEviction, scratch}
use Rattle.frame_table.proofs.KeptIsNotScratch.{kept_out}
use Rattle.masm.specs.Blocks.{load_immediate_code}
use Rattle.page_fault.specs.Code.{locate_words_code, leave_shared_frame_code, load_page_code}
use Rattle.page_fault.proofs.BlocksFrom.{from_straight, from_then, from_when, from_later, straight_then}
use Rattle.page_fault.proofs.BlockPremises.{Laws, besides_same}
use Rattle.page_fault.proofs.BlockParts.{PlaceAsked, Sourced, Loaded, PlaceDone}
use Rattle.page_fault.proofs.WordsFound.{sources}
use Rattle.page_fault.proofs.PageLoaded.{Untouched, PageLeft, settles, leaves}

next_user : (l : PageLayout) (y : ℕ) → IsUserFrame l y → IsUserFrame l (next_frame l y)
next_user l y u = let u0 = u.0 in let u1 = u.1 in grind (arith, nat_tests)

-- the same instructions, cut behind the test of the hand
abbrev turned_code : TableLayout → List Inst
turned_code p = (Addiu 8 18 2048 ∷ Sw 8 20 0 ∷ load_immediate_code 9 (4 * p.counts)) ++ (Sll 8 17 5 ∷ Addu 8 8 9 ∷ Addiu 9 0 1 ∷ Sw 9 8 0 ∷ Sw 16 8 4 ∷ Addiu 17 17 1 ∷ Addiu 8 0 p.layout.frames ∷ Subu 8 17 8 ∷ Sltiu 8 8 1 ∷ [])

abbrev step_code : List Inst
step_code = when_code 8 (Addiu 17 0 0 ∷ []) ++ (Sw 17 0 0x1004 ∷ [])

module _ (w : World) (f : Sound w) (laws : Laws w) (p : TableLayout) (b : ℕ) (si : Sited p w) (pt : Ported p w b) (q h : ℕ) (c1 : Contents) (d1 : Behind) (a : PlaceAsked p q h c1 d1) where
  abbrev g : ℕ
  g = p.layout.zeros + 1 + h

  abbrev Ready : Contents → Behind → Type 0
  Ready c d = Loaded p q h c1 d1 (PageLeft w f laws p b si pt q h c1 d1 a) c d

  -- the entry, the count and the first slot are set, and register 17 holds v
  record Owned (c : Contents) (v : ℕ) (c' : Contents) : Type 0 where
    memory : c'.memory ≡ put (put (put c.memory (p.tables + q) (private_entry g)) (p.counts + 8 * h) 1) (p.counts + 8 * h + 1) q
    index : c'.regs 17 ≡ v
    regs : (x : ℕ) → LeftByEviction x → c'.regs x ≡ c.regs x
    special : c'.special ≡ c.special
    hi : c'.hi ≡ c.hi
    lo : c'.lo ≡ c.lo

  at_end : h + 1 ≡ p.layout.frames → p.layout.zeros + 1 + 0 ≡ next_frame p.layout g
  at_end l = let z : p.layout.zeros + 1 + 0 ≡ p.layout.zeros + 1 = omega arith in z ∙ sym (cond-false (nat_lt g (p.layout.zeros + p.layout.frames)) (g + 1) (p.layout.zeros + 1) (le-ltb _ _ (omega arith)))

  not_end : h + 1 ≢ p.layout.frames → p.layout.zeros + 1 + (h + 1) ≡ next_frame p.layout g
  not_end l = let range = a.in_range in let z : p.layout.zeros + 1 + (h + 1) ≡ g + 1 = omega arith in z ∙ sym (cond-true (nat_lt g (p.layout.zeros + p.layout.frames)) (g + 1) (p.layout.zeros + 1) (lt-ltb _ _ (omega arith)))

  -- the hand is written
  ends : (c : Contents) (d : Behind) (v : ℕ) (c' : Contents) → Ready c d → p.layout.zeros + 1 + v ≡ next_frame p.layout g → Owned c v c' → From w (Sw 17 0 0x1004 ∷ []) 1 c' d (PlaceDone p q h c1 d1)
  ends c d v c' s next o =
      let low = si.low in let first = si.first in let second = si.second in let third = si.third in let words = f.small in let inside = a.inside in let range = a.in_range in
      let after : ℕ → ℕ = put c'.memory hand_at v in
      from_straight w laws.runs laws.straight (Sw 17 0 0x1004 ∷ []) (Writes hand_at v ∷ []) c' d _ refl s.besides.idle
      (λ n.
      let wrote : (x : ℕ) → x ≢ hand_at → (x < p.counts + 8 * h) ⊎ (p.counts + 8 * h + 2 ≤ x) → x ≢ p.tables + q → put c'.memory hand_at v x ≡ c.memory x = λ x n1 n2 n3.
      put_other c'.memory hand_at v x n1 ∙ ap (λ m. m x) o.memory ∙ put_other (put (put c.memory (p.tables + q) (private_entry g)) (p.counts + 8 * h) 1) (p.counts + 8 * h + 1) q x (⊎_elim (λ z e. omega arith) (λ z e. omega arith) n2) ∙ put_other (put c.memory (p.tables + q) (private_entry g)) (p.counts + 8 * h) 1 x (⊎_elim (λ z e. omega arith) (λ z e. omega arith) n2) ∙ put_other c.memory (p.tables + q) (private_entry g) x n3 in
      let entry : put c'.memory hand_at v (p.tables + q) ≡ private_entry g = put_other c'.memory hand_at v (p.tables + q) (omega arith) ∙ ap (λ m. m (p.tables + q)) o.memory
      ∙ put_other (put (put c.memory (p.tables + q) (private_entry g)) (p.counts + 8 * h) 1) (p.counts + 8 * h + 1) q (p.tables + q) (omega arith) ∙ put_other (put c.memory (p.tables + q) (private_entry g)) (p.counts + 8 * h) 1 (p.tables + q) (omega arith) ∙ put_same c.memory (p.tables + q) (private_entry g) (p.tables + q) refl in
      let count : put c'.memory hand_at v (p.counts + 8 * h) ≡ 1 = put_other c'.memory hand_at v (p.counts + 8 * h) (omega arith) ∙ ap (λ m. m (p.counts + 8 * h)) o.memory
      ∙ put_other (put (put c.memory (p.tables + q) (private_entry g)) (p.counts + 8 * h) 1) (p.counts + 8 * h + 1) q (p.counts + 8 * h) (omega arith) ∙ put_same (put c.memory (p.tables + q) (private_entry g)) (p.counts + 8 * h) 1 (p.counts + 8 * h) refl in
      let slot : put c'.memory hand_at v (p.counts + 8 * h + 1) ≡ q = put_other c'.memory hand_at v (p.counts + 8 * h + 1) (omega arith) ∙ ap (λ m. m (p.counts + 8 * h + 1)) o.memory
      ∙ put_same (put (put c.memory (p.tables + q) (private_entry g)) (p.counts + 8 * h) 1) (p.counts + 8 * h + 1) q (p.counts + 8 * h + 1) refl in
      let hand : p.layout.zeros + 1 + put c'.memory hand_at v hand_at ≡ next_frame p.layout g = ap (λ y. p.layout.zeros + 1 + y) (put_same c'.memory hand_at v hand_at refl) ∙ next in (
        ((refl, omega arith, pt.hand, o.index), tt),
        record {
          placed = record {
            entry = entry;
            entries = λ x lt ne. wrote (p.tables + x) (omega arith) (inl (omega arith)) (omega arith) ∙ s.memory (p.tables + x) (omega arith) (inl (omega arith)) (inl (omega arith));
            words = λ j lj. wrote (1024 * g + j) (omega arith) (inr (omega arith)) (omega arith) ∙ s.words j lj;
            frames = λ y uy ny j lj. let y0 = uy.0 in let y1 = uy.1 in wrote (1024 * y + j) (omega arith) (inr (omega arith)) (omega arith) ∙ s.memory (1024 * y + j) (omega arith) (apart y j ny lj) (inr (omega arith));
            sectors = λ x lt j lj. s.sectors x j;
            count = ap (put c'.memory hand_at v) at_g ∙ count;
            first = ap (put c'.memory hand_at v) slot_g ∙ slot;
            lists = λ y uy ny.
                let y0 = uy.0 in let y1 = uy.1 in
                let few = a.few y uy in
                let row : SameRow p y c.memory (put c'.memory hand_at v) = λ x lo hi. wrote x (omega arith) (away y uy ny x lo hi) (omega arith) in
                let both = s.count y uy ny in record {
                  stays = λ same. let gone : MapsTo (c1.memory (p.tables + q)) y → ⊥ = λ m. let o = laws.shows.names (c1.memory (p.tables + q)) y m in let z = laws.shows.misses (private_entry g) y (not_named y ny) in omega arith in (
                    row (count_at p y) (omega arith) (omega arith) ∙ both.0 gone (count_at p y) (omega arith) (omega arith),
                    λ k lk. row (slot_at p y k) (omega arith) (omega arith) ∙ both.0 gone (slot_at p y k) (omega arith) (omega arith),
                  );
                  joins = λ no_more names. absurd (not_named y ny names);
                  parts = λ names no_more. laws.rows.parted p q y c1.memory c.memory c1.memory (put c'.memory hand_at v) d1.sectors d1.sectors d1.sectors d.sectors few (λ x lo hi. refl) row (both.1 names);
                };
            hand = subst (IsUserFrame p.layout) (sym hand) (next_user p.layout g (omega arith, omega arith));
          };
          hand = hand;
          memory = λ x lt o1 o2 n1 n2. wrote x n2 (⊎_elim (λ r. inl (omega arith)) (λ r. inr (omega arith)) o2) n1 ∙ s.memory x lt o1 o2;
          regs = λ x k. o.regs x k ∙ s.regs x k;
          sectors = s.sectors;
          besides = besides_same c1 c _ d1 d o.special o.hi o.lo s.besides;
        },
      ))
    where
      at_g : count_at p g ≡ p.counts + 8 * h
      at_g = omega arith

      slot_g : slot_at p g 0 ≡ p.counts + 8 * h + 1
      slot_g = omega arith

      not_named : (y : ℕ) → y ≢ g → MapsTo (private_entry g) y → ⊥
      not_named y ne n = ne (omega arith)

      -- a word of another frame's list
      away : (y : ℕ) → IsUserFrame p.layout y → y ≢ g → (x : ℕ) → count_at p y ≤ x → x < count_at p y + 5 → (x < p.counts + 8 * h) ⊎ (p.counts + 8 * h + 2 ≤ x)
      away y uy ne x lo hi = let y0 = uy.0 in grind arith

      apart : (y j : ℕ) → y ≢ g → j < 1024 → (1024 * y + j < 1024 * g) ⊎ (1024 * g + 1024 ≤ 1024 * y + j)
      apart y j ne lt = ⊎_elim (λ l. inl (omega arith)) (λ l. inr (omega arith)) (less_more y g ne)
        where
          less_more : (x y : ℕ) → x ≢ y → (x < y) ⊎ (y < x)
          less_more x y ne = grind arith

  abbrev own_says : ℕ → ℕ → List Says
  own_says u v = Gives (private_entry g) ∷ Writes (p.tables + q) (private_entry g) ∷ Gives (4 * p.counts / 65536 * 2 ^ 16) ∷ Gives (4 * p.counts) ∷ Gives (32 * h) ∷ Gives (4 * (p.counts + 8 * h)) ∷ Gives 1 ∷ Writes (p.counts + 8 * h) 1 ∷ Writes (p.counts + 8 * h + 1) q ∷ Gives (h + 1) ∷ Gives p.layout.frames ∷ Gives u ∷ Gives v ∷ []

  -- the hand comes to the last frame, and doesn't
  last : (c : Contents) (d : Behind) → Ready c d → h + 1 ≡ p.layout.frames → From w (turned_code p ++ step_code) (13 + ((1 + 1) + 1)) c d (PlaceDone p q h c1 d1)
  last c d s end =
      let low = si.low in let first = si.first in let second = si.second in let third = si.third in let words = f.small in let inside = a.inside in let range = a.in_range in let most = si.most in
      let r17 = s.index in let r18 = s.frame in let r20 = s.entry in
      let r16 : c.regs 16 ≡ q = s.regs 16 (inl (omega arith, omega arith)) ∙ a.page in
      let kf = small_is p.layout.frames (omega arith) in
      straight_then w laws.runs laws.straight (turned_code p) step_code (own_says 0 1) ((1 + 1) + 1) c d _ refl s.besides.idle
      (λ n. (omega arith, ((omega arith, omega arith, si.free _ (omega arith) (omega arith), refl), (refl, (const_is (4 * p.counts), (omega arith, (omega arith, (refl, ((omega arith, omega arith, si.free _ (omega arith) (omega arith), refl), ((omega arith, omega arith, si.free _ (omega arith) (omega arith), r16), (omega arith, (omega arith, (omega arith, (refl, tt))))))))))))))
      (λ n. from_then w laws.runs (when_code 8 (Addiu 17 0 0 ∷ [])) (Sw 17 0 0x1004 ∷ []) (1 + 1) 1 _ d (λ c' d'. Owned c 0 c' × (d' ≡ d)) _
      (from_when w laws.runs laws.whens 8 (Addiu 17 0 0 ∷ []) 1 _ d _ (omega arith) s.besides.idle
      (λ ne. from_straight w laws.runs laws.straight (Addiu 17 0 0 ∷ []) (Gives 0 ∷ []) _ d _ refl s.besides.idle
      (λ m. (
        (refl, tt),
        (
          record {
            memory = refl;
            index = refl;
            regs = λ x o. laws.stays scratch x (kept_out x o) (Addiu 17 0 0 ∷ []) (Gives 0 ∷ []) m (sayings n (turned_code p) (own_says 0 1) c) refl refl ∙ laws.stays scratch x (kept_out x o) (turned_code p) (own_says 0 1) n c refl refl;
            special = refl;
            hi = refl;
            lo = refl;
          },
          refl,
        ),
      )))
      (λ z. absurd (omega arith)))
      (λ c' d' k. subst (λ t. From w (Sw 17 0 0x1004 ∷ []) 1 c' t (PlaceDone p q h c1 d1)) (sym k.1) (ends c d 0 c' s (at_end end) k.0)))

  more : (c : Contents) (d : Behind) → Ready c d → h + 1 ≢ p.layout.frames → From w (turned_code p ++ step_code) (13 + ((0 + 1) + 1)) c d (PlaceDone p q h c1 d1)
  more c d s ne =
      let low = si.low in let first = si.first in let second = si.second in let third = si.third in let words = f.small in let inside = a.inside in let range = a.in_range in let most = si.most in
      let r17 = s.index in let r18 = s.frame in let r20 = s.entry in
      let r16 : c.regs 16 ≡ q = s.regs 16 (inl (omega arith, omega arith)) ∙ a.page in
      let kf = small_is p.layout.frames (omega arith) in
      let some : 1 ≤ difference (h + 1) p.layout.frames = omega arith in
      straight_then w laws.runs laws.straight (turned_code p) step_code (own_says (difference (h + 1) p.layout.frames) 0) ((0 + 1) + 1) c d _ refl s.besides.idle
      (λ n. (omega arith, ((omega arith, omega arith, si.free _ (omega arith) (omega arith), refl), (refl, (const_is (4 * p.counts), (omega arith, (omega arith, (refl, ((omega arith, omega arith, si.free _ (omega arith) (omega arith), refl), ((omega arith, omega arith, si.free _ (omega arith) (omega arith), r16), (omega arith, (omega arith, (refl, (cond-false (nat_lt (difference (h + 1) p.layout.frames) 1) 1 0 (le-ltb _ 1 some), tt))))))))))))))
      (λ n. from_then w laws.runs (when_code 8 (Addiu 17 0 0 ∷ [])) (Sw 17 0 0x1004 ∷ []) (0 + 1) 1 _ d (λ c' d'. Owned c (h + 1) c' × (d' ≡ d)) _
      (from_when w laws.runs laws.whens 8 (Addiu 17 0 0 ∷ []) 0 _ d _ (omega arith) s.besides.idle
      (λ z. absurd (z refl))
      (λ z. (
        record {
          memory = refl;
          index = refl;
          regs = λ x o. laws.stays scratch x (kept_out x o) (turned_code p) (own_says (difference (h + 1) p.layout.frames) 0) n c refl refl;
          special = refl;
          hi = refl;
          lo = refl;
        },
        refl,
      )))
      (λ c' d' k. subst (λ t. From w (Sw 17 0 0x1004 ∷ []) 1 c' t (PlaceDone p q h c1 d1)) (sym k.1) (ends c d (h + 1) c' s (not_end ne) k.0)))

  owns : (c : Contents) (d : Behind) → Ready c d → From w (turned_code p ++ step_code) 16 c d (PlaceDone p q h c1 d1)
  owns c d s = ⊎_elim
      (λ z. from_later w laws.runs (turned_code p ++ step_code) (13 + ((1 + 1) + 1)) 16 c d _ _ (omega arith) (λ c d k. k) (last c d s z))
      (λ ne. from_later w laws.runs (turned_code p ++ step_code) (13 + ((0 + 1) + 1)) 16 c d _ _ (omega arith) (λ c d k. k) (more c d s ne))
      (cases_eq (h + 1) p.layout.frames)

  -- PLACE
  pub places : From w (load_page_code p) (b + 2756) c1 d1 (PlaceDone p q h c1 d1)
  places = from_later w laws.runs (load_page_code p) (b + 21 + (2691 + (28 + 16))) (b + 2756) c1 d1 _ _ (omega arith) (λ c d k. k)
      (from_then w laws.runs (locate_words_code p) _ (b + 21) _ c1 d1 (Sourced p q h w c1 d1) _ (sources w f laws p b si pt q h c1 d1 a)
      (λ c2 d2 s. from_then w laws.runs copy_to_frame_code _ 2691 _ c2 d2 (Loaded p q h c1 d1 (Untouched w f laws p b si pt q h c1 d1 a)) _ (settles w f laws p b si pt q h c1 d1 a c2 d2 s)
      (λ c3 d3 s. from_then w laws.runs (leave_shared_frame_code p) _ 28 _ c3 d3 Ready _ (leaves w f laws p b si pt q h c1 d1 a c3 d3 s) owns)))
