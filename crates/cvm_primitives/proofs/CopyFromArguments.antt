-- vm_copy, from its arguments on.
use Rattle.std.proofs.Common.{◌≡◌, ℕ, ◌+◌, ◌-◌, ◌*◌, ◌/◌, ◌%◌, ◌^◌, ◌<◌, ◌≤◌, ◌⊎◌, true, nat_lt, List, [], ◌∷◌, ◌++◌, length, refl, sym, ap, ◌∙◌, ⊎_elim, inl, inr, arith}
use Rattle.std.proofs.lemmas.Bool.{cases_eq, cases_lt}
use Rattle.mips_table.specs.declared.inst.Inst.{Inst}
use Rattle.mips_table.specs.declared.inst.Inst.TheVariants.{Sll, Srl, Addiu, Addu, Sltu, Sltiu, Lw}
use Rattle.mips_table.specs.Arith.{flag}
use Rattle.page_model.specs.Paging.{Pages}
use Rattle.mips_table.specs.Device.{Idle}
use Rattle.mips_table.specs.Code.{Contents, with_reg, Behind, World}
use Rattle.mips_table.proofs.NumbersInHalves.{small_is}
use Rattle.cvm_primitives.specs.Routines.{RoutineLaws}
use Rattle.masm.specs.Says.{Gives, Reads}
use Rattle.masm.specs.Blocks.{when_code}
use Rattle.masm.specs.Laws.{From}
use Rattle.cvm_primitives.proofs.BlocksFromOneState.{from_straight, from_then, from_when, from_later, straight_then, from_does}
use Rattle.cvm_primitives.specs.Copy.{Apart, copied, piece_count}
use Rattle.page_model.specs.TableLayout.{TableLayout}
use Rattle.frame_table.specs.View.{Sited}
use Rattle.page_fault.specs.Asked.{PageBlock}
use Rattle.cvm_primitives.specs.View.{steps_of_page, PagesHeld, Marks, CopyGood, UsersIn, RangeGood, CopyArgs, number_of_word, size_at, entry_state}
use Rattle.cvm_primitives.proofs.PartStates.{Tests}
use Rattle.cvm_primitives.specs.Code.{first_page_code, find_size_code, check_range_code, apart_code, check_copy_arguments_code, copies_code, vm_copy_code}
use Rattle.cvm_primitives.proofs.SharedByRoutines.{flag_of, held_to}
use Rattle.cvm_primitives.proofs.OnePiece.{copy_law, run_short}
use Rattle.cvm_primitives.proofs.ArgumentTests.{product_below, Based, base_from}
use Rattle.cvm_primitives.proofs.WordAccess.{number_good}

not_flag : (a b : ℕ) → ((flag (nat_lt (flag (nat_lt a b)) 1) ≡ 1) × (b ≤ a)) ⊎ ((flag (nat_lt (flag (nat_lt a b)) 1) ≡ 0) × (a < b))
not_flag a b = ⊎_elim (λ o. inr (ap (λ z. flag (nat_lt z 1)) o.0, o.1)) (λ o. inl (ap (λ z. flag (nat_lt z 1)) o.0, o.1)) (flag_of a b)

tests_on : (c0 : Contents) (d0 : Behind) (c : Contents) (d : Behind) (c' : Contents) (d' : Behind) → Tests c0 d0 c d → Tests c d c' d' → Tests c0 d0 c' d'
tests_on c0 d0 c d c' d' k l = record { memory = l.memory ∙ k.memory; special = l.special ∙ k.special; r2 = l.r2 ∙ k.r2; r22 = l.r22 ∙ k.r22; r23 = l.r23 ∙ k.r23; r26 = l.r26 ∙ k.r26; r14 = l.r14 ∙ k.r14; r28 = l.r28 ∙ k.r28; r29 = l.r29 ∙ k.r29; r30 = l.r30 ∙ k.r30; r31 = l.r31 ∙ k.r31; disk = l.disk ∙ k.disk }

users_on : (p : TableLayout) (users per : ℕ) (size : ℕ → ℕ) (v : Pages) (c c' : Contents) → c'.memory ≡ c.memory → UsersIn p users per size v c → UsersIn p users per size v c'
users_on p users per size v c c' m us = record { few = us.few; most = us.most; shape = us.shape; sizes = λ u u0 u1. ap (λ m. m (size_at u)) m ∙ us.sizes u u0 u1; fit = us.fit; live = us.live }

module _ (w : World) (f : RoutineLaws w) (p : TableLayout) (b : ℕ) (si : Sited p w) (users per : ℕ) (size : ℕ → ℕ) (v : Pages) where
  pub range_from : (m : ℕ) (inside : List Inst) (Q : Contents → Behind → Type 0) (c : Contents) (d : Behind) (u a n : ℕ) → d.pending ≡ Idle → UsersIn p users per size v c → c.regs 20 ≡ u → c.regs 21 ≡ a → c.regs 14 ≡ n → u < 2 ^ 32 → a < 2 ^ 32 → n < 2 ^ 32 → length inside ≤ 20000
      → (RangeGood users size u a n → (c1 : Contents) (d1 : Behind) → Tests c d c1 d1 → c1.regs 10 ≡ number_of_word per u a → From w inside m c1 d1 Q)
      → ((RangeGood users size u a n → ⊥) → (c1 : Contents) (d1 : Behind) → Tests c d c1 d1 → Q c1 d1)
      → From w (check_range_code users per inside) (2 + (7 + (3 + (3 + (3 + (2 + m) + 1) + 1) + 1) + 1)) c d Q
  range_from m inside Q c d u a n idle us ru ra rn su sa sn short does refuse =
      let few = us.few in let most = us.most in let words = f.small in let low = si.low in let first = si.first in let second = si.second in let third = si.third in
      let ku = small_is users (omega arith) in
      straight_then w f (Addiu 8 20 65535 ∷ Sltiu 9 8 users ∷ []) _ (Gives ((u + 4294967295) % 2 ^ 32) ∷ Gives (flag (nat_lt ((u + 4294967295) % 2 ^ 32) users)) ∷ []) (7 + (3 + (3 + (3 + (2 + m) + 1) + 1) + 1) + 1) c d Q refl idle
      (λ n. (ap (λ z. (z + 4294967295) % 2 ^ 32) ru, (ap (λ z. flag (nat_lt ((u + 4294967295) % 2 ^ 32) z)) ku, tt)))
      (λ n'. from_when w f 9 _ (7 + (3 + (3 + (3 + (2 + m) + 1) + 1) + 1)) _ d Q (omega arith) idle
      (λ z. let below : (u + 4294967295) % 2 ^ 32 < users = ⊎_elim (λ o. o.1) (λ o. absurd (z o.0)) (flag_of ((u + 4294967295) % 2 ^ 32) users) in
      let u0 : 0 < u = omega arith in let u1 : u ≤ users = omega arith in
      let sz = us.sizes u u0 u1 in let fit = us.fit u u0 u1 in
      straight_then w f (find_size_code ++ (Lw 11 11 0 ∷ Sll 11 11 10 ∷ Sll 12 21 30 ∷ Sltiu 12 12 1 ∷ [])) _ (Gives 49280 ∷ Gives (256 * (u - 1)) ∷ Gives (4 * size_at u) ∷ Reads (size_at u) (size u) ∷ Gives (1024 * size u) ∷ Gives (a * 2 ^ 30 % 2 ^ 32) ∷ Gives (flag (nat_lt (a * 2 ^ 30 % 2 ^ 32) 1)) ∷ []) (3 + (3 + (3 + (2 + m) + 1) + 1) + 1) _ d Q refl idle
      (λ n'. (refl, (omega arith, (omega arith, ((omega arith, omega arith, sz), (omega arith, (ap (λ z. z * 2 ^ 30 % 2 ^ 32) ra, (refl, tt))))))))
      (λ n'. from_when w f 12 _ (3 + (3 + (3 + (2 + m) + 1) + 1)) _ d Q (omega arith) idle
      (λ z. let even : a * 2 ^ 30 % 2 ^ 32 < 1 = ⊎_elim (λ o. o.1) (λ o. absurd (z o.0)) (flag_of (a * 2 ^ 30 % 2 ^ 32) 1) in
      straight_then w f (Srl 12 21 2 ∷ Sltu 9 11 14 ∷ Sltiu 9 9 1 ∷ []) _ (Gives (a / 4) ∷ Gives (flag (nat_lt (1024 * size u) n)) ∷ Gives (flag (nat_lt (flag (nat_lt (1024 * size u) n)) 1)) ∷ []) (3 + (3 + (2 + m) + 1) + 1) _ d Q refl idle
      (λ n'. (ap (λ z. z / 2 ^ 2) ra, (ap (λ z. flag (nat_lt (1024 * size u) z)) rn, (refl, tt))))
      (λ n'. from_when w f 9 _ (3 + (3 + (2 + m) + 1)) _ d Q (omega arith) idle
      (λ z. let fits : n ≤ 1024 * size u = ⊎_elim (λ o. o.1) (λ o. absurd (z o.0)) (not_flag (1024 * size u) n) in
      straight_then w f (Addu 9 12 14 ∷ Sltu 9 11 9 ∷ Sltiu 9 9 1 ∷ []) _ (Gives (a / 4 + n) ∷ Gives (flag (nat_lt (1024 * size u) (a / 4 + n))) ∷ Gives (flag (nat_lt (flag (nat_lt (1024 * size u) (a / 4 + n))) 1)) ∷ []) (3 + (2 + m) + 1) _ d Q refl idle
      (λ n'. (omega arith, (refl, (refl, tt))))
      (λ n'. from_when w f 9 _ (3 + (2 + m)) _ d Q (omega arith) idle
      (λ z. let ends : a / 4 + n ≤ 1024 * size u = ⊎_elim (λ o. o.1) (λ o. absurd (z o.0)) (not_flag (1024 * size u) (a / 4 + n)) in
      let good : RangeGood users size u a n = (u0, u1, omega arith, omega arith) in
      from_then w f (first_page_code per) ((Sll 10 10 10 ∷ Addu 10 10 12 ∷ []) ++ inside) 3 (2 + m) _ d (Based (u - 1) per _ d) Q
      (base_from w f (u - 1) per (omega arith) most _ d idle (omega arith))
      (λ c1 d1 k. let product = k.product in let r12 = k.regs 12 (omega arith) (omega arith) in let bound = product_below (u - 1) 64 per (omega arith) in let idle1 = ap (λ d. d.pending) k.disk ∙ idle in
      straight_then w f (Sll 10 10 10 ∷ Addu 10 10 12 ∷ []) inside (Gives (1024 * ((u - 1) * per)) ∷ Gives (number_of_word per u a) ∷ []) m c1 d1 Q refl idle1
      (λ n'. (omega arith, (omega arith, tt)))
      (λ n'. does good _ d1 (record { memory = k.memory; special = k.special; r2 = k.regs 2 (omega arith) (omega arith); r22 = k.regs 22 (omega arith) (omega arith); r23 = k.regs 23 (omega arith) (omega arith); r26 = k.regs 26 (omega arith) (omega arith); r14 = k.regs 14 (omega arith) (omega arith); r28 = k.regs 28 (omega arith) (omega arith); r29 = k.regs 29 (omega arith) (omega arith); r30 = k.regs 30 (omega arith) (omega arith); r31 = k.regs 31 (omega arith) (omega arith); disk = k.disk }) refl)))
      (λ z. let past : 1024 * size u < a / 4 + n = ⊎_elim (λ o. let o0 = o.0 in absurd (omega arith)) (λ o. o.1) (not_flag (1024 * size u) (a / 4 + n)) in
      refuse (λ g. let g3 = g.3 in absurd (omega arith)) _ d (record { memory = refl; special = refl; r2 = refl; r22 = refl; r23 = refl; r26 = refl; r14 = refl; r28 = refl; r29 = refl; r30 = refl; r31 = refl; disk = refl }))))
      (λ z. let past : 1024 * size u < n = ⊎_elim (λ o. let o0 = o.0 in absurd (omega arith)) (λ o. o.1) (not_flag (1024 * size u) n) in
      refuse (λ g. let g3 = g.3 in absurd (omega arith)) _ d (record { memory = refl; special = refl; r2 = refl; r22 = refl; r23 = refl; r26 = refl; r14 = refl; r28 = refl; r29 = refl; r30 = refl; r31 = refl; disk = refl }))))
      (λ z. let odd : 1 ≤ a * 2 ^ 30 % 2 ^ 32 = ⊎_elim (λ o. let o0 = o.0 in absurd (omega arith)) (λ o. o.1) (flag_of (a * 2 ^ 30 % 2 ^ 32) 1) in
      refuse (λ g. let g2 = g.2 in absurd (omega arith)) _ d (record { memory = refl; special = refl; r2 = refl; r22 = refl; r23 = refl; r26 = refl; r14 = refl; r28 = refl; r29 = refl; r30 = refl; r31 = refl; disk = refl }))))
      (λ z. let past : users ≤ (u + 4294967295) % 2 ^ 32 = ⊎_elim (λ o. let o0 = o.0 in absurd (omega arith)) (λ o. o.1) (flag_of ((u + 4294967295) % 2 ^ 32) users) in
      refuse (λ g. let g0 = g.0 in let g1 = g.1 in absurd (omega arith)) _ d (record { memory = refl; special = refl; r2 = refl; r22 = refl; r23 = refl; r26 = refl; r14 = refl; r28 = refl; r29 = refl; r30 = refl; r31 = refl; disk = refl })))

  -- ranges of two users are apart, so the numbers' ranges are apart exactly where the arguments' are
  pub numbers_apart : (c : Contents) (u a v' b' n : ℕ) → UsersIn p users per size v c → RangeGood users size u a n → RangeGood users size v' b' n → (Apart (number_of_word per u a) (number_of_word per v' b') n → u ≡ v' → Apart (a / 4) (b' / 4) n) × ((u ≡ v' → Apart (a / 4) (b' / 4) n) → Apart (number_of_word per u a) (number_of_word per v' b') n)
  numbers_apart c u a v' b' n us gu gv =
      let u0 = gu.0 in let u1 = gu.1 in let u3 = gu.3 in let v0 = gv.0 in let v1 = gv.1 in let v3 = gv.3 in
      let fu = us.fit u u0 u1 in let fv = us.fit v' v0 v1 in (
        (λ o e. let same : (u - 1) * per ≡ (v' - 1) * per = ap (λ z. (z - 1) * per) e in ⊎_elim (λ h. inl (omega arith)) (λ h. inr (omega arith)) o),
        (λ h. ⊎_elim
            (λ e. let same : (u - 1) * per ≡ (v' - 1) * per = ap (λ z. (z - 1) * per) e in ⊎_elim (λ h. inl (omega arith)) (λ h. inr (omega arith)) (h e))
            (λ ne. ⊎_elim
            (λ lt. let k = product_below (u - 1) (v' - 1) per (omega arith) in inl (omega arith))
            (λ le. let k = product_below (v' - 1) (u - 1) per (omega arith) in inr (omega arith))
            (cases_lt u v'))
            (cases_eq u v')),
      )

  flag_small : (a b : ℕ) → flag (nat_lt a b) ≤ 1
  flag_small a b = ⊎_elim (λ o. let e = o.0 in omega arith) (λ o. let e = o.0 in omega arith) (flag_of a b)

  -- the tests of vm_copy
  pub copy_asked_from : (m : ℕ) (inside : List Inst) (Q : Contents → Behind → Type 0) (c : Contents) (d : Behind) (u a v' b' n : ℕ) → d.pending ≡ Idle → UsersIn p users per size v c → c.regs 20 ≡ u → c.regs 21 ≡ a → c.regs 22 ≡ v' → c.regs 23 ≡ b' → c.regs 24 ≡ n
      → u < 2 ^ 32 → a < 2 ^ 32 → v' < 2 ^ 32 → b' < 2 ^ 32 → n < 2 ^ 32 → length inside ≤ 10000
      → (CopyArgs users size u a v' b' n → (c1 : Contents) (d1 : Behind) → Tests (with_reg (with_reg (with_reg c 2 0) 14 n) 26 (number_of_word per u a)) d c1 d1 → c1.regs 27 ≡ number_of_word per v' b' → From w inside m c1 d1 Q)
      → ((CopyArgs users size u a v' b' n → ⊥) → (c1 : Contents) (d1 : Behind) → c1.memory ≡ c.memory → c1.special ≡ c.special → c1.regs 28 ≡ c.regs 28 → c1.regs 29 ≡ c.regs 29 → c1.regs 30 ≡ c.regs 30 → c1.regs 31 ≡ c.regs 31 → c1.regs 2 ≡ 0 → d1 ≡ d → Q c1 d1)
      → From w (check_copy_arguments_code users per inside) (2 + (24 + (3 + (24 + (7 + (m + 1)))))) c d Q
  copy_asked_from m inside Q c d u a v' b' n idle us ru ra rv rb rn su sa sv sb sn short does refuse =
      let few = us.few in let most = us.most in
      straight_then w f (Addiu 2 0 0 ∷ Addu 14 24 0 ∷ []) _ (Gives 0 ∷ Gives n ∷ []) (24 + (3 + (24 + (7 + (m + 1))))) c d Q refl idle (λ n'. (refl, (omega arith, tt)))
      (λ n'. from_later w f _ (2 + (7 + (3 + (3 + (3 + (2 + (3 + (24 + (7 + (m + 1))))) + 1) + 1) + 1) + 1)) _ (with_reg (with_reg c 2 0) 14 n) d Q Q (omega arith) (λ c d q. q)
      (range_from (3 + (24 + (7 + (m + 1)))) _ Q (with_reg (with_reg c 2 0) 14 n) d u a n idle (users_on p users per size v c (with_reg (with_reg c 2 0) 14 n) refl us) ru ra refl su sa sn (omega arith)
      (λ gu c1 d1 k1 x10. let g0 = gu.0 in let g1 = gu.1 in let g3 = gu.3 in let fit = us.fit u g0 g1 in let bound = product_below (u - 1) 64 per (omega arith) in
      let idle1 = ap (λ d. d.pending) k1.disk ∙ idle in let r22 = k1.r22 in let r23 = k1.r23 in
      straight_then w f (Addu 26 10 0 ∷ Addu 20 22 0 ∷ Addu 21 23 0 ∷ []) _ (Gives (number_of_word per u a) ∷ Gives v' ∷ Gives b' ∷ []) (24 + (7 + (m + 1))) c1 d1 Q refl idle1 (λ n'. (omega arith, (omega arith, (omega arith, tt))))
      (λ n'. from_later w f _ (2 + (7 + (3 + (3 + (3 + (2 + (7 + (m + 1))) + 1) + 1) + 1) + 1)) _ (with_reg (with_reg (with_reg c1 26 (number_of_word per u a)) 20 v') 21 b') d1 Q Q (omega arith) (λ c d q. q)
      (range_from (7 + (m + 1)) (apart_code ++ when_code 8 inside) Q (with_reg (with_reg (with_reg c1 26 (number_of_word per u a)) 20 v') 21 b') d1 v' b' n idle1 (users_on p users per size v c (with_reg (with_reg (with_reg c1 26 (number_of_word per u a)) 20 v') 21 b') k1.memory us) refl refl k1.r14 sv sb sn (omega arith)
      (λ gv c2 d2 k2 y10. let h0 = gv.0 in let h1 = gv.1 in let h3 = gv.3 in let fitv = us.fit v' h0 h1 in let boundv = product_below (v' - 1) 64 per (omega arith) in
      let idle2 = ap (λ d. d.pending) k2.disk ∙ idle1 in
      let both = numbers_apart c u a v' b' n us gu gv in
      let r26 : c2.regs 26 ≡ number_of_word per u a = k2.r26 in let r14 : c2.regs 14 ≡ n = k2.r14 ∙ k1.r14 in
      let x : ℕ = number_of_word per u a in let y : ℕ = number_of_word per v' b' in
      let s1 = flag_small (number_of_word per u a) (number_of_word per v' b' + n) in let s2 = flag_small (number_of_word per v' b') (number_of_word per u a + n) in
      straight_then w f apart_code (when_code 8 inside) (Gives (number_of_word per v' b') ∷ Gives (number_of_word per v' b' + n) ∷ Gives (flag (nat_lt (number_of_word per u a) (number_of_word per v' b' + n))) ∷ Gives (number_of_word per u a + n) ∷ Gives (flag (nat_lt (number_of_word per v' b') (number_of_word per u a + n))) ∷ Gives (flag (nat_lt (number_of_word per u a) (number_of_word per v' b' + n)) + flag (nat_lt (number_of_word per v' b') (number_of_word per u a + n))) ∷ Gives (flag (nat_lt (flag (nat_lt (number_of_word per u a) (number_of_word per v' b' + n)) + flag (nat_lt (number_of_word per v' b') (number_of_word per u a + n))) 2)) ∷ []) (m + 1) c2 d2 Q refl idle2
      (λ n'. (omega arith, (omega arith, (ap (λ z. flag (nat_lt z (number_of_word per v' b' + n))) r26, (omega arith, (refl, (omega arith, (refl, tt))))))))
      (λ n'. from_when w f 8 inside m _ d2 Q (omega arith) idle2
      (λ z. let one : flag (nat_lt (number_of_word per u a) (number_of_word per v' b' + n)) + flag (nat_lt (number_of_word per v' b') (number_of_word per u a + n)) < 2 = ⊎_elim (λ o. o.1) (λ o. absurd (z o.0)) (flag_of _ 2) in
      let ap1 : Apart (number_of_word per u a) (number_of_word per v' b') n = ⊎_elim (λ o. ⊎_elim (λ o2. let e = o.0 in let e2 = o2.0 in absurd (omega arith)) (λ o2. let e2 = o2.1 in inl (omega arith)) (flag_of (number_of_word per v' b') (number_of_word per u a + n))) (λ o. let e = o.1 in inr (omega arith)) (flag_of (number_of_word per u a) (number_of_word per v' b' + n)) in
      does (record { source = gu; target = gv; apart = both.0 ap1 }) _ d2
      (record { memory = k2.memory ∙ k1.memory; special = k2.special ∙ k1.special; r2 = k2.r2 ∙ k1.r2; r22 = k2.r22 ∙ k1.r22; r23 = k2.r23 ∙ k1.r23; r26 = k2.r26; r14 = r14; r28 = k2.r28 ∙ k1.r28; r29 = k2.r29 ∙ k1.r29; r30 = k2.r30 ∙ k1.r30; r31 = k2.r31 ∙ k1.r31; disk = k2.disk ∙ k1.disk }) refl)
      (λ z. refuse (λ g. let ap1 = both.1 g.apart in
      let two : 2 ≤ flag (nat_lt (number_of_word per u a) (number_of_word per v' b' + n)) + flag (nat_lt (number_of_word per v' b') (number_of_word per u a + n)) = ⊎_elim (λ o. let o0 = o.0 in absurd (omega arith)) (λ o. o.1) (flag_of (flag (nat_lt (number_of_word per u a) (number_of_word per v' b' + n)) + flag (nat_lt (number_of_word per v' b') (number_of_word per u a + n))) 2) in
      let l1 : number_of_word per u a < number_of_word per v' b' + n = ⊎_elim (λ o. o.1) (λ o. let e = o.0 in absurd (omega arith)) (flag_of (number_of_word per u a) (number_of_word per v' b' + n)) in
      let l2 : number_of_word per v' b' < number_of_word per u a + n = ⊎_elim (λ o. o.1) (λ o. let e = o.0 in absurd (omega arith)) (flag_of (number_of_word per v' b') (number_of_word per u a + n)) in
      ⊎_elim (λ h. absurd (omega arith)) (λ h. absurd (omega arith)) ap1)
      _ d2 (k2.memory ∙ k1.memory) (k2.special ∙ k1.special) (k2.r28 ∙ k1.r28) (k2.r29 ∙ k1.r29) (k2.r30 ∙ k1.r30) (k2.r31 ∙ k1.r31) (k2.r2 ∙ k1.r2) (k2.disk ∙ k1.disk))))
      (λ nay c2 d2 k2. refuse (λ g. nay g.target) c2 d2 (k2.memory ∙ k1.memory) (k2.special ∙ k1.special) (k2.r28 ∙ k1.r28) (k2.r29 ∙ k1.r29) (k2.r30 ∙ k1.r30) (k2.r31 ∙ k1.r31) (k2.r2 ∙ k1.r2) (k2.disk ∙ k1.disk)))))
      (λ nay c1 d1 k1. refuse (λ g. nay g.source) c1 d1 k1.memory k1.special k1.r28 k1.r29 k1.r30 k1.r31 k1.r2 k1.disk)))

-- a good range's words are live
pub live_range : (p : TableLayout) (users per : ℕ) (size : ℕ → ℕ) (v : Pages) (c : Contents) (u a n : ℕ) → UsersIn p users per size v c → RangeGood users size u a n → (j : ℕ) → j < n → v.live ((number_of_word per u a + j) / 1024) ≡ true
live_range p users per size v c u a n us g j lt =
    let g0 = g.0 in let g1 = g.1 in let g2 = g.2 in let g3 = g.3 in
    let k = number_good p users per size v c u (a + 4 * j) us (g0, g1, omega arith, omega arith) in
    let e : number_of_word per u (a + 4 * j) ≡ number_of_word per u a + j = omega arith in
    ap (λ z. v.live (z / 1024)) (sym e) ∙ k.1

pub range_below : (p : TableLayout) (users per : ℕ) (size : ℕ → ℕ) (v : Pages) (c : Contents) (u a n : ℕ) → UsersIn p users per size v c → RangeGood users size u a n → number_of_word per u a + n ≤ 1024 * p.layout.pages
range_below p users per size v c u a n us g =
    let g0 = g.0 in let g1 = g.1 in let g3 = g.3 in let fit = us.fit u g0 g1 in let shape = us.shape in
    let bound = product_below (u - 1) users per (omega arith) in omega arith

module _ (w : World) (f : RoutineLaws w) (p : TableLayout) (b : ℕ) (si : Sited p w) (page : PageBlock w p b) (users per : ℕ) (size : ℕ → ℕ) (v : Pages) (c : Contents) (d : Behind) (held : PagesHeld p v (entry_state c d) c d) (us : UsersIn p users per size v c) (u a v' b' n : ℕ)
    (ru : c.regs 20 ≡ u) (ra : c.regs 21 ≡ a) (rv : c.regs 22 ≡ v') (rb : c.regs 23 ≡ b') (rn : c.regs 24 ≡ n) (su : u < 2 ^ 32) (sa : a < 2 ^ 32) (sv : v' < 2 ^ 32) (sb : b' < 2 ^ 32) (sn : n < 2 ^ 32) where
  inside_short : length (copies_code p page.code ++ (Addiu 2 0 1 ∷ [])) ≤ 10000
  inside_short = run_short w p b page

  -- VM_COPY: true (1), with the words copied, within a unit for the call and for each word, and three pages for each piece
  pub vm_copy_good : CopyArgs users size u a v' b' n → From w (vm_copy_code p users per page.code) (598 + 600 * n + steps_of_page p.layout.pages b * (3 * piece_count (number_of_word per u a) (number_of_word per v' b') n)) c d (λ c' d'. PagesHeld p (copied v (number_of_word per u a) (number_of_word per v' b') n) (entry_state c d) c' d' × (c'.regs 2 ≡ 1))
  vm_copy_good good =
      let x : ℕ = number_of_word per u a in let y : ℕ = number_of_word per v' b' in
      from_later w f _ (2 + (24 + (3 + (24 + (7 + (3 * steps_of_page p.layout.pages b * piece_count (number_of_word per u a) (number_of_word per v' b') n + 600 * n + 1 + 1 + 1)))))) _ c d _ _ (omega arith) (λ c' d' k. k)
      (copy_asked_from w f p b si users per size v (3 * steps_of_page p.layout.pages b * piece_count (number_of_word per u a) (number_of_word per v' b') n + 600 * n + 1 + 1) (copies_code p page.code ++ (Addiu 2 0 1 ∷ [])) (λ c' d'. PagesHeld p (copied v (number_of_word per u a) (number_of_word per v' b') n) (entry_state c d) c' d' × (c'.regs 2 ≡ 1)) c d u a v' b' n held.idle us ru ra rv rb rn su sa sv sb sn inside_short
      (λ g c1 d1 k y27.
      let cg : CopyGood p.layout v (number_of_word per u a) (number_of_word per v' b') n = record { source = range_below p users per size v c u a n us g.source; target = range_below p users per size v c v' b' n us g.target; from = live_range p users per size v c u a n us g.source; to = live_range p users per size v c v' b' n us g.target; apart = (numbers_apart w f p b si users per size v c u a v' b' n us g.source g.target).1 g.apart } in
      let h1 : PagesHeld p v (entry_state c d) c1 d1 = held_to p v (entry_state c d) c d c1 d1 held k.memory k.special k.r28 k.r29 k.r30 k.r31 k.disk in
      from_then w f (copies_code p page.code) (Addiu 2 0 1 ∷ []) (3 * steps_of_page p.layout.pages b * piece_count (number_of_word per u a) (number_of_word per v' b') n + 600 * n + 1) 1 c1 d1 (PagesHeld p (copied v (number_of_word per u a) (number_of_word per v' b') n) (entry_state c d)) _
      (from_does w f (copies_code p page.code) _ c1 d1 (λ c' d'. PagesHeld p v (entry_state c d) c' d' × Marks (number_of_word per u a) (number_of_word per v' b') n c') _ (h1, record { from = k.r26; to = y27; left = k.r14 }) (copy_law w f p b si page (entry_state c d) v (number_of_word per u a) (number_of_word per v' b') n cg))
      (λ c2 d2 h2. from_straight w f (Addiu 2 0 1 ∷ []) (Gives 1 ∷ []) c2 d2 _ refl h2.idle (λ n'. ((refl, tt), (record { stands = h2.stands; small = h2.small; low = h2.low; above = h2.above; special = h2.special; r28 = h2.r28; r29 = h2.r29; r30 = h2.r30; r31 = h2.r31; behind = h2.behind; idle = h2.idle }, refl)))))
      (λ nay c1 d1 m s r28 r29 r30 r31 r2 e. absurd (nay good)))

  -- or false (0), and nothing has changed, within a unit
  pub vm_copy_bad : (CopyArgs users size u a v' b' n → ⊥) → From w (vm_copy_code p users per page.code) 598 c d (λ c' d'. PagesHeld p v (entry_state c d) c' d' × (c'.regs 2 ≡ 0))
  vm_copy_bad bad =
      from_later w f _ (2 + (24 + (3 + (24 + (7 + (0 + 1)))))) _ c d _ _ (omega arith) (λ c' d' k. k)
      (copy_asked_from w f p b si users per size v 0 (copies_code p page.code ++ (Addiu 2 0 1 ∷ [])) (λ c' d'. PagesHeld p v (entry_state c d) c' d' × (c'.regs 2 ≡ 0)) c d u a v' b' n held.idle us ru ra rv rb rn su sa sv sb sn inside_short
      (λ g. absurd (bad g))
      (λ nay c1 d1 m s r28 r29 r30 r31 r2 e. (held_to p v (entry_state c d) c d c1 d1 held m s r28 r29 r30 r31 e, r2)))
