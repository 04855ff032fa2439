-- A page leaves the list of a frame, by a test of each slot, or joins it.
use Rattle.std.proofs.Common.{◌≡◌, ◌≢◌, ℕ, suc, ◌+◌, ◌-◌, ◌*◌, ◌/◌, ◌^◌, ◌<◌, ◌≤◌, ◌⊎◌, [], ◌∷◌, refl, sym, ap, ◌∙◌, ⊎_elim, inl, inr, arith}
use Rattle.std.proofs.lemmas.Bool.{cases_eq}
use Rattle.mips_table.specs.declared.inst.Inst.TheVariants.{Lw, Sw}
use Rattle.mips_table.specs.Device.{Idle}
use Rattle.mips_table.specs.Code.{put, with_reg, Contents, Behind, World, Sound}
use Rattle.mips_table.proofs.PutsChangeOneWord.{put_same, put_other}
use Rattle.mips_table.proofs.NumbersInHalves.{const_is, small_is}
use Rattle.masm.specs.Says.{Gives, Reads, Writes}
use Rattle.masm.specs.Laws.{RunsCompose, JumpsLead, From}
use Rattle.masm.proofs.RulesForRoutines.{from_straight, from_then, from_later, straight_then}
use Rattle.page_model.specs.Paging.{IsUserFrame}
use Rattle.page_model.specs.Edits.{Joined, Parted}
use Rattle.page_model.specs.TableLayout.{TableLayout, count_at}
use Rattle.frame_table.specs.Code.{equal_code, replace_slot_code, pop_last_page_code, remove_mapping_code, add_mapping_code}
use Rattle.page_model.specs.Rows.{InList}
use Rattle.frame_table.specs.View.{Sited, Relisted}
use Rattle.frame_table.specs.Laws.{LeavesList, JoinsList}
use Rattle.frame_table.proofs.EqualBranches.{from_equal}

module _ (w : World) (f : Sound w) (p : TableLayout) (q fr : ℕ) (c0 : Contents) (d0 : Behind) (si : Sited p w) (uf : IsUserFrame p.layout fr) (r8 : c0.regs 8 ≡ fr - p.layout.zeros) (idle : d0.pending ≡ Idle) where
  abbrev row : ℕ
  row = count_at p fr

  abbrev num : ℕ
  num = c0.memory (count_at p fr)

  module _ (runs : RunsCompose) (jumps : JumpsLead w) (k : ℕ) (r16 : c0.regs 16 ≡ q) (is : InList p q fr k c0.memory) where
    abbrev last : ℕ
    last = c0.memory (count_at p fr + c0.memory (count_at p fr))

    -- the first j slots have been tested: the last page took the one that held this page
    record Tested (j : ℕ) (c : Contents) (d : Behind) : Type 0 where
      row_is : c.regs 8 ≡ 4 * row
      last_is : c.regs 9 ≡ last
      hit : (i : ℕ) → i < j → c0.memory (row + 1 + i) ≡ q → c.memory (row + 1 + i) ≡ last
      miss : (i : ℕ) → i < 4 → (j ≤ i) ⊎ (c0.memory (row + 1 + i) ≢ q) → c.memory (row + 1 + i) ≡ c0.memory (row + 1 + i)
      count : c.memory row ≡ num - 1
      memory : (x : ℕ) → (x < row) ⊎ (row + 5 ≤ x) → c.memory x ≡ c0.memory x
      regs : (x : ℕ) → x ≢ 8 → x ≢ 9 → x ≢ 10 → c.regs x ≡ c0.regs x
      special : c.special ≡ c0.special
      hi : c.hi ≡ c0.hi
      lo : c.lo ≡ c0.lo
      behind : d ≡ d0

    still : (c : Contents) (d : Behind) (j : ℕ) → Tested j c d → d.pending ≡ Idle
    still c d j t = ap (λ d. d.pending) t.behind ∙ idle

    -- slot j is tested
    test_one : (j : ℕ) → j < 4 → (c : Contents) (d : Behind) → Tested j c d → From w (replace_slot_code j) 3 c d (Tested (suc j))
    test_one j lt c d t =
        let low = si.low in let first = si.first in let second = si.second in let third = si.third in let most = si.most in let words = f.small in
        let u0 = uf.0 in let u1 = uf.1 in
        let imm = small_is (4 + 4 * j) (omega arith) in
        let row_is = t.row_is in
        let v = c0.memory (row + 1 + j) in
        straight_then w f (Lw 10 8 (4 + 4 * j) ∷ []) (equal_code 10 16 (Sw 9 8 (4 + 4 * j) ∷ [])) (Reads (row + 1 + j) v ∷ []) (1 + 1) c d _ refl (still c d j t)
        (λ m. ((omega (arith, imm, row_is), omega arith, t.miss j lt (inl (omega arith))), tt))
        (λ m. from_equal w f runs jumps 10 16 (Sw 9 8 (4 + 4 * j) ∷ []) 1 (with_reg c 10 v) d (Tested (suc j)) (omega arith) (still c d j t)
        (λ eq. from_straight w f (Sw 9 8 (4 + 4 * j) ∷ []) (Writes (row + 1 + j) last ∷ []) (with_reg c 10 v) d (Tested (suc j)) refl (still c d j t)
        (λ m. (
          ((omega (arith, imm, row_is), omega arith, si.free (row + 1 + j) (omega arith) (omega arith), t.last_is), tt),
          record {
            row_is = t.row_is;
            last_is = t.last_is;
            hit = λ i li z. ⊎_elim
                (λ e. put_same c.memory (row + 1 + j) last (row + 1 + i) (omega arith))
                (λ ne. put_other c.memory (row + 1 + j) last (row + 1 + i) (λ z. ne (omega arith)) ∙ t.hit i (omega arith) z)
                (cases_eq i j);
            miss = λ i li o. put_other c.memory (row + 1 + j) last (row + 1 + i) (λ z. other eq i (omega arith) o) ∙ t.miss i li (weak i o);
            count = put_other c.memory (row + 1 + j) last row (omega arith) ∙ t.count;
            memory = λ x o. put_other c.memory (row + 1 + j) last x (⊎_elim (λ z e. omega arith) (λ z e. omega arith) o) ∙ t.memory x o;
            regs = λ x n8 n9 n10. put_other c.regs 10 v x n10 ∙ t.regs x n8 n9 n10;
            special = t.special;
            hi = t.hi;
            lo = t.lo;
            behind = t.behind;
          },
        )))
        (λ ne. record {
          row_is = t.row_is;
          last_is = t.last_is;
          hit = λ i li z. ⊎_elim
              (λ e. absurd (ne (ap (λ y. c0.memory (row + 1 + y)) (sym e) ∙ z ∙ sym (page c d t))))
              (λ other. t.hit i (omega arith) z)
              (cases_eq i j);
          miss = λ i li o. t.miss i li (weak i o);
          count = t.count;
          memory = t.memory;
          regs = λ x n8 n9 n10. put_other c.regs 10 v x n10 ∙ t.regs x n8 n9 n10;
          special = t.special;
          hi = t.hi;
          lo = t.lo;
          behind = t.behind;
        }))
      where
        page : (c : Contents) (d : Behind) → Tested j c d → c.regs 16 ≡ q
        page c d t = t.regs 16 (omega arith) (omega arith) (omega arith) ∙ r16

        weak : (i : ℕ) → (suc j ≤ i) ⊎ (c0.memory (row + 1 + i) ≢ q) → (j ≤ i) ⊎ (c0.memory (row + 1 + i) ≢ q)
        weak i o = ⊎_elim (λ z. inl (omega arith)) (λ z. inr z) o

        other : c0.memory (row + 1 + j) ≡ c.regs 16 → (i : ℕ) → i ≡ j → (suc j ≤ i) ⊎ (c0.memory (row + 1 + i) ≢ q) → ⊥
        other eq i e o = ⊎_elim (λ z. omega arith) (λ z. z (ap (λ y. c0.memory (row + 1 + y)) e ∙ eq ∙ page c d t)) o

    -- the count falls, and the last page is at hand
    begins : From w (pop_last_page_code p) 11 c0 d0 (Tested 0)
    begins =
        let low = si.low in let first = si.first in let second = si.second in let third = si.third in let most = si.most in let words = f.small in
        let u0 = uf.0 in let u1 = uf.1 in let few = is.few in let inside = is.inside in
        from_straight w f (pop_last_page_code p) (Gives (4 * p.counts / 65536 * 2 ^ 16) ∷ Gives (4 * p.counts) ∷ Gives (fr - (p.layout.zeros + 1)) ∷ Gives (32 * (fr - (p.layout.zeros + 1))) ∷ Gives (4 * row) ∷ Reads row num ∷ Gives (num - 1) ∷ Writes row (num - 1) ∷ Gives (4 * (num - 1)) ∷ Gives (4 * (row + (num - 1))) ∷ Reads (row + num) last ∷ []) c0 d0 (Tested 0) refl idle
        (λ n. (
          (refl, (const_is (4 * p.counts), (omega arith, (omega arith, (omega arith, ((omega arith, omega arith, refl), (omega arith, ((omega arith, omega arith, si.free row (omega arith) (omega arith), refl), (omega arith, (omega arith, ((omega arith, omega arith, put_other c0.memory row (num - 1) (row + num) (omega arith)), tt))))))))))),
          record {
            row_is = refl;
            last_is = refl;
            hit = λ i li. absurd (omega arith);
            miss = λ i li o. put_other c0.memory row (num - 1) (row + 1 + i) (omega arith);
            count = put_same c0.memory row (num - 1) row refl;
            memory = λ x o. put_other c0.memory row (num - 1) x (⊎_elim (λ z e. omega arith) (λ z e. omega arith) o);
            regs = λ x n8 n9 n10. ten c0.regs _ _ _ _ _ _ _ _ _ _ x n8 n9;
            special = refl;
            hi = refl;
            lo = refl;
            behind = refl;
          },
        ))
      where
        ten : (g : ℕ → ℕ) (a b d e h i j l m o x : ℕ) → x ≢ 8 → x ≢ 9 → put (put (put (put (put (put (put (put (put (put g 9 a) 9 b) 8 d) 8 e) 8 h) 9 i) 9 j) 9 l) 9 m) 9 o x ≡ g x
        ten g a b d e h i j l m o x n8 n9 =
            let g1 = put (put g 9 a) 9 b in
            let g2 = put (put (put g1 8 d) 8 e) 8 h in
            let g3 = put (put g2 9 i) 9 j in
            put_other (put (put g3 9 l) 9 m) 9 o x n9 ∙ put_other (put g3 9 l) 9 m x n9 ∙ put_other g3 9 l x n9 ∙ put_other (put g2 9 i) 9 j x n9 ∙ put_other g2 9 i x n9
            ∙ put_other (put (put g1 8 d) 8 e) 8 h x n8 ∙ put_other (put g1 8 d) 8 e x n8 ∙ put_other g1 8 d x n8 ∙ put_other (put g 9 a) 9 b x n9 ∙ put_other g 9 a x n9

    -- all slots were tested
    ends : (c : Contents) (d : Behind) → Tested 4 c d → Relisted p fr (Parted q fr) c0 d0 c d
    ends c d t = let few = is.few in let inside = is.inside in let count = t.count in record {
      list = record {
        count = omega arith;
        at = k;
        inside = is.inside;
        was = is.is;
        moved = λ lt. t.hit k (omega arith) is.is ∙ ap c0.memory (omega arith);
        others = λ i li ne. t.miss i (omega arith) (inr (λ z. ne (is.once i (omega arith) z)));
      };
      memory = t.memory;
      regs = t.regs;
      special = t.special;
      hi = t.hi;
      lo = t.lo;
      behind = t.behind;
    }

    pub parts : From w (remove_mapping_code p) 23 c0 d0 (Relisted p fr (Parted q fr) c0 d0)
    parts = from_then w (pop_last_page_code p) _ 11 (3 + (3 + (3 + 3))) c0 d0 (Tested 0) _ begins
        (λ c d t. from_then w (replace_slot_code 0) _ 3 (3 + (3 + 3)) c d (Tested 1) _ (test_one 0 (omega arith) c d t)
        (λ c d t. from_then w (replace_slot_code 1) _ 3 (3 + 3) c d (Tested 2) _ (test_one 1 (omega arith) c d t)
        (λ c d t. from_then w (replace_slot_code 2) _ 3 3 c d (Tested 3) _ (test_one 2 (omega arith) c d t)
        (λ c d t. from_later w (replace_slot_code 3) 3 3 c d (Tested 4) _ (omega arith) ends (test_one 3 (omega arith) c d t)))))

  pub joins : c0.regs 11 ≡ q → c0.memory (count_at p fr) < 4 → From w (add_mapping_code p) 11 c0 d0 (Relisted p fr (Joined q fr) c0 d0)
  joins r11 room =
      let low = si.low in let first = si.first in let second = si.second in let third = si.third in let most = si.most in let words = f.small in
      let u0 = uf.0 in let u1 = uf.1 in
      from_straight w f (add_mapping_code p) (Gives (4 * p.counts / 65536 * 2 ^ 16) ∷ Gives (4 * p.counts) ∷ Gives (fr - (p.layout.zeros + 1)) ∷ Gives (32 * (fr - (p.layout.zeros + 1))) ∷ Gives (4 * row) ∷ Reads row num ∷ Gives (4 * num) ∷ Gives (4 * (row + num)) ∷ Writes (row + 1 + num) q ∷ Gives (num + 1) ∷ Writes row (num + 1) ∷ []) c0 d0 _ refl idle
      (λ n. (
        (refl, (const_is (4 * p.counts), (omega arith, (omega arith, (omega arith, ((omega arith, omega arith, refl), (omega arith, (omega arith, ((omega arith, omega arith, si.free (row + 1 + num) (omega arith) (omega arith), r11), (omega arith, ((omega arith, omega arith, si.free row (omega arith) (omega arith), refl), tt))))))))))),
        record {
          list = record {
            count = put_same (put c0.memory (row + 1 + num) q) row (num + 1) row refl;
            last = put_other (put c0.memory (row + 1 + num) q) row (num + 1) (row + 1 + num) (omega arith) ∙ put_same c0.memory (row + 1 + num) q (row + 1 + num) refl;
            others = λ i li. put_other (put c0.memory (row + 1 + num) q) row (num + 1) (row + 1 + i) (omega arith) ∙ put_other c0.memory (row + 1 + num) q (row + 1 + i) (omega arith);
          };
          memory = λ x o. put_other (put c0.memory (row + 1 + num) q) row (num + 1) x (⊎_elim (λ z e. omega arith) (λ z e. omega arith) o) ∙ put_other c0.memory (row + 1 + num) q x (⊎_elim (λ z e. omega arith) (λ z e. omega arith) o);
          regs = λ x n8 n9 n10. nine c0.regs _ _ _ _ _ _ _ _ _ x n8 n9 n10;
          special = refl;
          hi = refl;
          lo = refl;
          behind = refl;
        },
      ))
    where
      nine : (g : ℕ → ℕ) (a b d e h i j l m x : ℕ) → x ≢ 8 → x ≢ 9 → x ≢ 10 → put (put (put (put (put (put (put (put (put g 9 a) 9 b) 8 d) 8 e) 8 h) 9 i) 10 j) 10 l) 9 m x ≡ g x
      nine g a b d e h i j l m x n8 n9 n10 =
          let g1 = put (put g 9 a) 9 b in
          let g2 = put (put (put g1 8 d) 8 e) 8 h in
          let g3 = put (put g2 9 i) 10 j in
          put_other (put g3 10 l) 9 m x n9 ∙ put_other g3 10 l x n10 ∙ put_other (put g2 9 i) 10 j x n10 ∙ put_other g2 9 i x n9
          ∙ put_other (put (put g1 8 d) 8 e) 8 h x n8 ∙ put_other (put g1 8 d) 8 e x n8 ∙ put_other g1 8 d x n8 ∙ put_other (put g 9 a) 9 b x n9 ∙ put_other g 9 a x n9

pub leaves_list : (w : World) → Sound w → RunsCompose → JumpsLead w → LeavesList w
leaves_list w f runs jumps p q fr k c d si uf r8 r16 is idle = parts w f p q fr c d si uf r8 idle runs jumps k r16 is

pub joins_list : (w : World) → Sound w → JoinsList w
joins_list w f p q fr c d si uf r8 r11 room idle = joins w f p q fr c d si uf r8 idle r11 room
