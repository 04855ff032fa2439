-- An entry is found, and the hand moves on: straight code, the last with a condition.
use Rattle.std.proofs.Common.{◌≡◌, ◌≢◌, ℕ, ◌+◌, ◌-◌, ◌*◌, ◌/◌, ◌%◌, ◌^◌, ◌<◌, nat_eq, nat_lt, [], ◌∷◌, refl, sym, ap, ◌∙◌, ⊎_elim, arith, eq-eqb, ne_eqb, le-ltb}
use Rattle.std.proofs.lemmas.Bool.{cases_eq, cond-true, cond-false}
use Rattle.mips_table.specs.declared.inst.Inst.TheVariants.{Addiu, Subu, Sltiu, Sw}
use Rattle.mips_table.specs.Arith.{extended}
use Rattle.mips_table.specs.Device.{Idle}
use Rattle.mips_table.specs.Code.{put, with_reg, Contents, Behind, World, Sound}
use Rattle.mips_table.proofs.PutsChangeOneWord.{put_same, put_other}
use Rattle.mips_table.proofs.NumbersInHalves.{const_is, small_is}
use Rattle.layer_map.specs.Map.{hand_at}
use Rattle.masm.specs.Blocks.{when_code}
use Rattle.masm.specs.Says.{Gives, Reads, Writes}
use Rattle.masm.specs.Laws.{From}
use Rattle.masm.proofs.RulesForRoutines.{from_straight, from_then, from_later, from_when, straight_then}
use Rattle.page_model.specs.TableLayout.{TableLayout}
use Rattle.frame_table.specs.Code.{walk_page_table_code, advance_clock_code}
use Rattle.frame_table.specs.View.{Sited, Ported, Found, WordWritten}
use Rattle.frame_table.specs.Laws.{FindsEntry, next_index, HandMovesOn}

module _ (w : World) (f : Sound w) where
  pub finds : FindsEntry w
  finds p q c d si r16 lt small idle =
      let low = si.low in let first = si.first in let second = si.second in let third = si.third in let words = f.small in
      let e = c.memory (p.tables + q) in
      from_straight w f (walk_page_table_code p) (Gives (4 * p.tables / 65536 * 2 ^ 16) ∷ Gives (4 * p.tables) ∷ Gives (4 * q) ∷ Gives (4 * (p.tables + q)) ∷ Reads (p.tables + q) e ∷ Gives (e / 4096) ∷ Gives (e / 2048) ∷ Gives (e / 2048 % 2 * 2 ^ 31) ∷ Gives (e / 2048 % 2) ∷ []) c d (Found p q c d) refl idle
      (λ n. (
        (refl, (const_is (4 * p.tables), (omega arith, (omega arith, ((omega arith, omega arith, refl), (refl, (refl, (omega arith, (omega arith, tt))))))))),
        record {
          entry = refl;
          named = refl;
          valid = refl;
          regs = λ x n8 n20 n21 n24.
              let a = put (put c.regs 20 (4 * p.tables / 65536 * 2 ^ 16)) 20 (4 * p.tables) in
              let b = put (put (put a 8 (4 * q)) 20 (4 * (p.tables + q))) 8 e in
              let g = put (put b 21 (e / 4096)) 24 (e / 2048) in
              put_other (put g 24 (e / 2048 % 2 * 2 ^ 31)) 24 (e / 2048 % 2) x n24 ∙ put_other g 24 (e / 2048 % 2 * 2 ^ 31) x n24 ∙ put_other (put b 21 (e / 4096)) 24 (e / 2048) x n24 ∙ put_other b 21 (e / 4096) x n21
              ∙ put_other (put (put a 8 (4 * q)) 20 (4 * (p.tables + q))) 8 e x n8 ∙ put_other (put a 8 (4 * q)) 20 (4 * (p.tables + q)) x n20 ∙ put_other a 8 (4 * q) x n8
              ∙ put_other (put c.regs 20 (4 * p.tables / 65536 * 2 ^ 16)) 20 (4 * p.tables) x n20 ∙ put_other c.regs 20 (4 * p.tables / 65536 * 2 ^ 16) x n20;
          memory = refl;
          special = refl;
          hi = refl;
          lo = refl;
          behind = refl;
        },
      ))

  -- the hand's word is written
  stored : (p : TableLayout) (b v : ℕ) (c0 : Contents) (d0 : Behind) (c : Contents) (d : Behind) → Sited p w → Ported p w b → c.regs 17 ≡ v → c.memory ≡ c0.memory → ((x : ℕ) → x ≢ 8 → x ≢ 17 → c.regs x ≡ c0.regs x) → c.special ≡ c0.special → c.hi ≡ c0.hi → c.lo ≡ c0.lo → d ≡ d0 → d.pending ≡ Idle
      → From w (Sw 17 0 0x1004 ∷ []) 1 c d (WordWritten hand_at v 8 17 c0 d0)
  stored p b v c0 d0 c d si pt r17 m rs sp eh el same idle =
      let low = si.low in let first = si.first in let second = si.second in let third = si.third in
      from_straight w f (Sw 17 0 0x1004 ∷ []) (Writes hand_at v ∷ []) c d _ refl idle
      (λ n. (
        ((refl, omega arith, pt.hand, r17), tt),
        record {
          word = put_same c.memory hand_at v hand_at refl;
          others = λ x ne. put_other c.memory hand_at v x ne ∙ ap (λ u. u x) m;
          regs = rs;
          special = sp;
          hi = eh;
          lo = el;
          behind = same;
        },
      ))

  pub moves : HandMovesOn w
  moves p b h c d si pt r17 lt idle =
      let low = si.low in let most = si.most in let frames = si.frames in
      let e = small_is p.layout.frames (omega arith) in
      ⊎_elim (λ eq. around p b h c d si pt r17 lt idle e eq) (λ ne. along p b h c d si pt r17 lt idle e ne) (cases_eq (h + 1) p.layout.frames)
    where
      regs_stay : (g : ℕ → ℕ) (a b e i x : ℕ) → x ≢ 8 → x ≢ 17 → put (put (put (put g 17 a) 8 b) 8 e) 8 i x ≡ g x
      regs_stay g a b e i x n8 n17 = put_other (put (put (put g 17 a) 8 b) 8 e) 8 i x n8 ∙ put_other (put (put g 17 a) 8 b) 8 e x n8 ∙ put_other (put g 17 a) 8 b x n8 ∙ put_other g 17 a x n17

      around : (p : TableLayout) (b h : ℕ) (c : Contents) (d : Behind) → Sited p w → Ported p w b → c.regs 17 ≡ h → h < p.layout.frames → d.pending ≡ Idle → extended p.layout.frames ≡ p.layout.frames → h + 1 ≡ p.layout.frames → From w (advance_clock_code p) 7 c d (WordWritten hand_at (next_index p.layout.frames h) 8 17 c d)
      around p b h c d si pt r17 lt idle e eq =
          let most = si.most in let frames = si.frames in
          let to : 0 ≡ next_index p.layout.frames h = sym (cond-true (nat_eq (h + 1) p.layout.frames) 0 (h + 1) (eq-eqb _ _ eq)) in
          let c1 : Contents = with_reg (with_reg (with_reg (with_reg c 17 (h + 1)) 8 p.layout.frames) 8 0) 8 1 in
          from_later w (advance_clock_code p) (4 + ((1 + 1) + 1)) 7 c d _ _ (omega arith) (λ c d k. k)
          (straight_then w f (Addiu 17 17 1 ∷ Addiu 8 0 p.layout.frames ∷ Subu 8 17 8 ∷ Sltiu 8 8 1 ∷ []) _ (Gives (h + 1) ∷ Gives p.layout.frames ∷ Gives 0 ∷ Gives 1 ∷ []) _ c d _ refl idle
          (λ n. (omega arith, (omega arith, (omega arith, (refl, tt)))))
          (λ n. from_then w (when_code 8 (Addiu 17 0 0 ∷ [])) (Sw 17 0 0x1004 ∷ []) (1 + 1) 1 c1 d (λ c' d'. (c' ≡ with_reg c1 17 0) × (d' ≡ d)) _
          (from_when w f 8 (Addiu 17 0 0 ∷ []) 1 c1 d _ (omega arith) idle
          (λ z. from_straight w f (Addiu 17 0 0 ∷ []) (Gives 0 ∷ []) c1 d _ refl idle (λ m. ((refl, tt), (refl, refl))))
          (λ z. absurd (omega (arith, z))))
          (λ c2 d2 k. stored p b (next_index p.layout.frames h) c d c2 d2 si pt (ap (λ c. c.regs 17) k.0 ∙ to) (ap (λ c. c.memory) k.0)
          (λ x n8 n17. ap (λ c. c.regs x) k.0 ∙ put_other c1.regs 17 0 x n17 ∙ regs_stay c.regs (h + 1) p.layout.frames 0 1 x n8 n17) (ap (λ c. c.special) k.0) (ap (λ c. c.hi) k.0) (ap (λ c. c.lo) k.0) k.1 (ap (λ d. d.pending) k.1 ∙ idle))))

      along : (p : TableLayout) (b h : ℕ) (c : Contents) (d : Behind) → Sited p w → Ported p w b → c.regs 17 ≡ h → h < p.layout.frames → d.pending ≡ Idle → extended p.layout.frames ≡ p.layout.frames → h + 1 ≢ p.layout.frames → From w (advance_clock_code p) 7 c d (WordWritten hand_at (next_index p.layout.frames h) 8 17 c d)
      along p b h c d si pt r17 lt idle e ne =
          let most = si.most in let frames = si.frames in
          let to : h + 1 ≡ next_index p.layout.frames h = sym (cond-false (nat_eq (h + 1) p.layout.frames) 0 (h + 1) (ne_eqb _ _ ne)) in
          let v = h + 1 + (2 ^ 32 - p.layout.frames) in
          let c1 : Contents = with_reg (with_reg (with_reg (with_reg c 17 (h + 1)) 8 p.layout.frames) 8 v) 8 0 in
          from_later w (advance_clock_code p) (4 + ((1 + 1) + 1)) 7 c d _ _ (omega arith) (λ c d k. k)
          (straight_then w f (Addiu 17 17 1 ∷ Addiu 8 0 p.layout.frames ∷ Subu 8 17 8 ∷ Sltiu 8 8 1 ∷ []) _ (Gives (h + 1) ∷ Gives p.layout.frames ∷ Gives v ∷ Gives 0 ∷ []) _ c d _ refl idle
          (λ n. (omega arith, (omega arith, (omega arith, (cond-false (nat_lt v 1) 1 0 (le-ltb v 1 (omega arith)), tt)))))
          (λ n. from_then w (when_code 8 (Addiu 17 0 0 ∷ [])) (Sw 17 0 0x1004 ∷ []) (1 + 1) 1 c1 d (λ c' d'. (c' ≡ c1) × (d' ≡ d)) _
          (from_when w f 8 (Addiu 17 0 0 ∷ []) 1 c1 d _ (omega arith) idle
          (λ z. absurd (z refl))
          (λ z. (refl, refl)))
          (λ c2 d2 k. stored p b (next_index p.layout.frames h) c d c2 d2 si pt (ap (λ c. c.regs 17) k.0 ∙ to) (ap (λ c. c.memory) k.0)
          (λ x n8 n17. ap (λ c. c.regs x) k.0 ∙ regs_stay c.regs (h + 1) p.layout.frames v 0 x n8 n17) (ap (λ c. c.special) k.0) (ap (λ c. c.hi) k.0) (ap (λ c. c.lo) k.0) k.1 (ap (λ d. d.pending) k.1 ∙ idle))))
