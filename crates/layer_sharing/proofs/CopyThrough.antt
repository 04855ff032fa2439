-- A run of vm_copy that comes by a state on its way: from its entry to the head of its loop with the last page left, and on to its end.
use Rattle.std.proofs.Common.{◌≡◌, ◌≢◌, ℕ, ◌+◌, ◌-◌, ◌*◌, ◌/◌, ◌%◌, ◌^◌, ◌<◌, ◌≤◌, ◌⊎◌, true, nat_lt, List, [], ◌∷◌, ◌++◌, length, refl, sym, ap, ◌∙◌, subst, ⊎_elim, inl, inr, arith}
use Rattle.std.proofs.lemmas.Bool.{cases_eq}
use Rattle.mips_table.specs.declared.inst.Inst.{Inst}
use Rattle.mips_table.specs.declared.inst.Inst.TheVariants.{Sll, Srl, Addiu, Addu, Sltu, Sltiu, Lw}
use Rattle.mips_table.specs.Arith.{flag}
use Rattle.mips_table.specs.Device.{Idle}
use Rattle.mips_table.specs.Code.{Contents, with_reg, reg, Behind, World, CodeState, at_with, Reaches}
use Rattle.mips_table.proofs.NumbersInHalves.{small_is}
use Rattle.masm.specs.Says.{Says, Gives, Reads, straight, AllSaid, sayings, tellings}
use Rattle.masm.specs.Blocks.{when_code}
use Rattle.masm.specs.Laws.{From}
use Rattle.page_model.specs.Paging.{Pages}
use Rattle.page_model.specs.TableLayout.{TableLayout}
use Rattle.frame_table.specs.View.{Sited}
use Rattle.page_fault.specs.Asked.{PageBlock}
use Rattle.cvm_primitives.specs.Routines.{RoutineLaws}
use Rattle.cvm_primitives.specs.Copy.{Apart, piece_count}
use Rattle.cvm_primitives.specs.View.{steps_of_page, PagesHeld, Marks, CopyGood, UsersIn, RangeGood, CopyArgs, number_of_word, size_at, entry_state}
use Rattle.cvm_primitives.specs.Code.{first_page_code, find_size_code, check_range_code, apart_code, check_copy_arguments_code, copies_code, pieces_code, vm_copy_code}
use Rattle.cvm_primitives.specs.Sharing.{EndsWhole, LastShared}
use Rattle.layer_sharing.specs.Passing.{Through, CopyPassed}
use Rattle.cvm_primitives.proofs.PartStates.{Tests}
use Rattle.cvm_primitives.proofs.BlocksFromOneState.{from_straight}
use Rattle.cvm_primitives.proofs.SharedByRoutines.{flag_of, held_to}
use Rattle.cvm_primitives.proofs.OnePiece.{run_short}
use Rattle.cvm_primitives.proofs.ArgumentTests.{product_below, Based, base_from}
use Rattle.cvm_primitives.proofs.CopyFromArguments.{numbers_apart, live_range, range_below}
use Rattle.cvm_primitives.proofs.LastPiece.{loop_ends}

-- the run from the state that is meant, put in the place of the one that is given
here : (w : World) (c0 c : Contents) (d0 d : Behind) (k n : ℕ) (t : CodeState) → (c ≡ c0) × (d ≡ d0) → Reaches w n (at_with k c0 d0) t → Reaches w n (at_with k c d) t
here w c0 c d0 d k n t e run = subst (λ c. Reaches w n (at_with k c d) t) (sym e.0) (subst (λ d. Reaches w n (at_with k c0 d) t) (sym e.1) run)

module _ (w : World) (f : RoutineLaws w) where
  thru_later : (is : List Inst) (n m : ℕ) (c0 : Contents) (d0 : Behind) (Q R : CodeState → Contents → Behind → Type 0) → n ≤ m → ((t : CodeState) (c : Contents) (d : Behind) → Q t c d → R t c d) → Through w is n c0 d0 Q → Through w is m c0 d0 R
  thru_later is n m c0 d0 Q R le after h = record {
    by = λ k c d at e. let x = h.by k c d at e in (x.0, x.1, x.2, after x.0 x.1 x.2 x.3, f.runs.later w n m _ _ le x.4, f.runs.later w n m _ _ le x.5);
  }

  -- one block, and then another from each state that the first may lead to
  thru_then : (a b : List Inst) (n m : ℕ) (c0 : Contents) (d0 : Behind) (Q : Contents → Behind → Type 0) (R : CodeState → Contents → Behind → Type 0) → From w a n c0 d0 Q → ((c : Contents) (d : Behind) → Q c d → Through w b m c d R) → Through w (a ++ b) (n + m) c0 d0 R
  thru_then a b n m c0 d0 Q R da db = record {
    by = λ k c d at e.
        let x = da.by k c d (f.runs.front w k a b at) e in
        let y = (db x.0 x.1 x.2).by (k + length a) x.0 x.1 (f.runs.back w k a b at) (refl, refl) in
        (y.0, y.1, y.2, y.3, f.runs.joined w n m _ _ _ x.3 y.4, f.runs.followed w a b k n m c d x.0 x.1 y.1 y.2 x.3 y.5);
  }

  -- a straight block, and then another from the very contents that it leads to
  straight_thru : (is b : List Inst) (hs : List Says) (m : ℕ) (c0 : Contents) (d0 : Behind) (R : CodeState → Contents → Behind → Type 0) → straight is ≡ true → d0.pending ≡ Idle → ((n : ℕ) → AllSaid w n is hs c0 d0) → ((n : ℕ) → Through w b m (sayings n is hs c0) (tellings hs d0) R) → Through w (is ++ b) (length is + m) c0 d0 R
  straight_thru is b hs m c0 d0 R g idle h rest = record {
    by = λ n c d at e.
        let run = f.straight.all is hs n c0 d0 (f.runs.front w n is b at) g idle (h n) in
        let y = (rest n).by (n + length is) (sayings n is hs c0) (tellings hs d0) (f.runs.back w n is b at) (refl, refl) in (
          y.0,
          y.1,
          y.2,
          y.3,
          here w c0 c d0 d n (length is + m) _ e (f.runs.joined w (length is) m _ _ _ run y.4),
          here w c0 c d0 d n (length is + m) _ e (f.runs.followed w is b n (length is) m c0 d0 (sayings n is hs c0) (tellings hs d0) y.1 y.2 run y.5),
        );
  }

  -- a body under a condition that holds
  thru_when : (r : ℕ) (body : List Inst) (n : ℕ) (c0 : Contents) (d0 : Behind) (Q : CodeState → Contents → Behind → Type 0) → length body < 32768 → d0.pending ≡ Idle
      → (reg c0.regs r ≢ 0 → Through w body n c0 d0 Q) → (reg c0.regs r ≡ 0 → ⊥) → Through w (when_code r body) (n + 1) c0 d0 Q
  thru_when r body n c0 d0 Q short idle does skip = record {
    by = λ k c d at e. ⊎_elim
        (λ z. absurd (skip z))
        (λ z. let x = (does z).by (k + 1) c0 d0 at.1 (refl, refl) in
        let when = f.whens r body short in (
          x.0,
          x.1,
          x.2,
          x.3,
          here w c0 c d0 d k (n + 1) _ e (f.runs.later w (1 + n) (n + 1) _ _ (omega arith) (f.runs.joined w 1 n _ _ _ (when.enters k c0 d0 at idle z) x.4)),
          here w c0 c d0 d k (n + 1) _ e (when.runs k n c0 d0 x.1 x.2 at idle z x.5),
        ))
        (cases_eq (reg c0.regs r) 0);
  }

not_flag : (a b : ℕ) → ((flag (nat_lt (flag (nat_lt a b)) 1) ≡ 1) × (b ≤ a)) ⊎ ((flag (nat_lt (flag (nat_lt a b)) 1) ≡ 0) × (a < b))
not_flag a b = ⊎_elim (λ o. inr (ap (λ z. flag (nat_lt z 1)) o.0, o.1)) (λ o. inl (ap (λ z. flag (nat_lt z 1)) o.0, o.1)) (flag_of a b)

users_on : (p : TableLayout) (users per : ℕ) (size : ℕ → ℕ) (v : Pages) (c c' : Contents) → c'.memory ≡ c.memory → UsersIn p users per size v c → UsersIn p users per size v c'
users_on p users per size v c c' m us = record { few = us.few; most = us.most; shape = us.shape; sizes = λ u u0 u1. ap (λ m. m (size_at u)) m ∙ us.sizes u u0 u1; fit = us.fit; live = us.live }

-- the tests of vm_copy, whose arguments are good
module _ (w : World) (f : RoutineLaws w) (p : TableLayout) (b : ℕ) (si : Sited p w) (users per : ℕ) (size : ℕ → ℕ) (v : Pages) where
  pub range_thru : (m : ℕ) (inside : List Inst) (Q : CodeState → Contents → Behind → Type 0) (c : Contents) (d : Behind) (u a n : ℕ) → d.pending ≡ Idle → UsersIn p users per size v c → c.regs 20 ≡ u → c.regs 21 ≡ a → c.regs 14 ≡ n → u < 2 ^ 32 → a < 2 ^ 32 → n < 2 ^ 32 → length inside ≤ 20000
      → (RangeGood users size u a n → (c1 : Contents) (d1 : Behind) → Tests c d c1 d1 → c1.regs 10 ≡ number_of_word per u a → Through w inside m c1 d1 Q)
      → ((RangeGood users size u a n → ⊥) → ⊥)
      → Through w (check_range_code users per inside) (2 + (7 + (3 + (3 + (3 + (2 + m) + 1) + 1) + 1) + 1)) c d Q
  range_thru m inside Q c d u a n idle us ru ra rn su sa sn short does refuse =
      let few = us.few in let most = us.most in let words = f.small in let low = si.low in let first = si.first in let second = si.second in let third = si.third in
      let ku = small_is users (omega arith) in
      straight_thru w f (Addiu 8 20 65535 ∷ Sltiu 9 8 users ∷ []) _ (Gives ((u + 4294967295) % 2 ^ 32) ∷ Gives (flag (nat_lt ((u + 4294967295) % 2 ^ 32) users)) ∷ []) (7 + (3 + (3 + (3 + (2 + m) + 1) + 1) + 1) + 1) c d Q refl idle
      (λ n. (ap (λ z. (z + 4294967295) % 2 ^ 32) ru, (ap (λ z. flag (nat_lt ((u + 4294967295) % 2 ^ 32) z)) ku, tt)))
      (λ n'. thru_when w f 9 _ (7 + (3 + (3 + (3 + (2 + m) + 1) + 1) + 1)) _ d Q (omega arith) idle
      (λ z. let below : (u + 4294967295) % 2 ^ 32 < users = ⊎_elim (λ o. o.1) (λ o. absurd (z o.0)) (flag_of ((u + 4294967295) % 2 ^ 32) users) in
      let u0 : 0 < u = omega arith in let u1 : u ≤ users = omega arith in
      let sz = us.sizes u u0 u1 in let fit = us.fit u u0 u1 in
      straight_thru w f (find_size_code ++ (Lw 11 11 0 ∷ Sll 11 11 10 ∷ Sll 12 21 30 ∷ Sltiu 12 12 1 ∷ [])) _ (Gives 49280 ∷ Gives (256 * (u - 1)) ∷ Gives (4 * size_at u) ∷ Reads (size_at u) (size u) ∷ Gives (1024 * size u) ∷ Gives (a * 2 ^ 30 % 2 ^ 32) ∷ Gives (flag (nat_lt (a * 2 ^ 30 % 2 ^ 32) 1)) ∷ []) (3 + (3 + (3 + (2 + m) + 1) + 1) + 1) _ d Q refl idle
      (λ n'. (refl, (omega arith, (omega arith, ((omega arith, omega arith, sz), (omega arith, (ap (λ z. z * 2 ^ 30 % 2 ^ 32) ra, (refl, tt))))))))
      (λ n'. thru_when w f 12 _ (3 + (3 + (3 + (2 + m) + 1) + 1)) _ d Q (omega arith) idle
      (λ z. let even : a * 2 ^ 30 % 2 ^ 32 < 1 = ⊎_elim (λ o. o.1) (λ o. absurd (z o.0)) (flag_of (a * 2 ^ 30 % 2 ^ 32) 1) in
      straight_thru w f (Srl 12 21 2 ∷ Sltu 9 11 14 ∷ Sltiu 9 9 1 ∷ []) _ (Gives (a / 4) ∷ Gives (flag (nat_lt (1024 * size u) n)) ∷ Gives (flag (nat_lt (flag (nat_lt (1024 * size u) n)) 1)) ∷ []) (3 + (3 + (2 + m) + 1) + 1) _ d Q refl idle
      (λ n'. (ap (λ z. z / 2 ^ 2) ra, (ap (λ z. flag (nat_lt (1024 * size u) z)) rn, (refl, tt))))
      (λ n'. thru_when w f 9 _ (3 + (3 + (2 + m) + 1)) _ d Q (omega arith) idle
      (λ z. let fits : n ≤ 1024 * size u = ⊎_elim (λ o. o.1) (λ o. absurd (z o.0)) (not_flag (1024 * size u) n) in
      straight_thru w f (Addu 9 12 14 ∷ Sltu 9 11 9 ∷ Sltiu 9 9 1 ∷ []) _ (Gives (a / 4 + n) ∷ Gives (flag (nat_lt (1024 * size u) (a / 4 + n))) ∷ Gives (flag (nat_lt (flag (nat_lt (1024 * size u) (a / 4 + n))) 1)) ∷ []) (3 + (2 + m) + 1) _ d Q refl idle
      (λ n'. (omega arith, (refl, (refl, tt))))
      (λ n'. thru_when w f 9 _ (3 + (2 + m)) _ d Q (omega arith) idle
      (λ z. let ends : a / 4 + n ≤ 1024 * size u = ⊎_elim (λ o. o.1) (λ o. absurd (z o.0)) (not_flag (1024 * size u) (a / 4 + n)) in
      let good : RangeGood users size u a n = (u0, u1, omega arith, omega arith) in
      thru_then w f (first_page_code per) ((Sll 10 10 10 ∷ Addu 10 10 12 ∷ []) ++ inside) 3 (2 + m) _ d (Based (u - 1) per _ d) Q
      (base_from w f (u - 1) per (omega arith) most _ d idle (omega arith))
      (λ c1 d1 k. let product = k.product in let r12 = k.regs 12 (omega arith) (omega arith) in let bound = product_below (u - 1) 64 per (omega arith) in let idle1 = ap (λ d. d.pending) k.disk ∙ idle in
      straight_thru w f (Sll 10 10 10 ∷ Addu 10 10 12 ∷ []) inside (Gives (1024 * ((u - 1) * per)) ∷ Gives (number_of_word per u a) ∷ []) m c1 d1 Q refl idle1
      (λ n'. (omega arith, (omega arith, tt)))
      (λ n'. does good _ d1 (record { memory = k.memory; special = k.special; r2 = k.regs 2 (omega arith) (omega arith); r22 = k.regs 22 (omega arith) (omega arith); r23 = k.regs 23 (omega arith) (omega arith); r26 = k.regs 26 (omega arith) (omega arith); r14 = k.regs 14 (omega arith) (omega arith); r28 = k.regs 28 (omega arith) (omega arith); r29 = k.regs 29 (omega arith) (omega arith); r30 = k.regs 30 (omega arith) (omega arith); r31 = k.regs 31 (omega arith) (omega arith); disk = k.disk }) refl)))
      (λ z. let past : 1024 * size u < a / 4 + n = ⊎_elim (λ o. let o0 = o.0 in absurd (omega arith)) (λ o. o.1) (not_flag (1024 * size u) (a / 4 + n)) in
      refuse (λ g. let g3 = g.3 in absurd (omega arith)))))
      (λ z. let past : 1024 * size u < n = ⊎_elim (λ o. let o0 = o.0 in absurd (omega arith)) (λ o. o.1) (not_flag (1024 * size u) n) in
      refuse (λ g. let g3 = g.3 in absurd (omega arith)))))
      (λ z. let odd : 1 ≤ a * 2 ^ 30 % 2 ^ 32 = ⊎_elim (λ o. let o0 = o.0 in absurd (omega arith)) (λ o. o.1) (flag_of (a * 2 ^ 30 % 2 ^ 32) 1) in
      refuse (λ g. let g2 = g.2 in absurd (omega arith)))))
      (λ z. let past : users ≤ (u + 4294967295) % 2 ^ 32 = ⊎_elim (λ o. let o0 = o.0 in absurd (omega arith)) (λ o. o.1) (flag_of ((u + 4294967295) % 2 ^ 32) users) in
      refuse (λ g. let g0 = g.0 in let g1 = g.1 in absurd (omega arith))))

  flag_small : (a b : ℕ) → flag (nat_lt a b) ≤ 1
  flag_small a b = ⊎_elim (λ o. let e = o.0 in omega arith) (λ o. let e = o.0 in omega arith) (flag_of a b)

  -- the tests of vm_copy
  pub copy_asked_thru : (m : ℕ) (inside : List Inst) (Q : CodeState → Contents → Behind → Type 0) (c : Contents) (d : Behind) (u a v' b' n : ℕ) → d.pending ≡ Idle → UsersIn p users per size v c → c.regs 20 ≡ u → c.regs 21 ≡ a → c.regs 22 ≡ v' → c.regs 23 ≡ b' → c.regs 24 ≡ n
      → u < 2 ^ 32 → a < 2 ^ 32 → v' < 2 ^ 32 → b' < 2 ^ 32 → n < 2 ^ 32 → length inside ≤ 10000
      → (CopyArgs users size u a v' b' n → (c1 : Contents) (d1 : Behind) → Tests (with_reg (with_reg (with_reg c 2 0) 14 n) 26 (number_of_word per u a)) d c1 d1 → c1.regs 27 ≡ number_of_word per v' b' → Through w inside m c1 d1 Q)
      → ((CopyArgs users size u a v' b' n → ⊥) → ⊥)
      → Through w (check_copy_arguments_code users per inside) (2 + (24 + (3 + (24 + (7 + (m + 1)))))) c d Q
  copy_asked_thru m inside Q c d u a v' b' n idle us ru ra rv rb rn su sa sv sb sn short does refuse =
      let few = us.few in let most = us.most in
      straight_thru w f (Addiu 2 0 0 ∷ Addu 14 24 0 ∷ []) _ (Gives 0 ∷ Gives n ∷ []) (24 + (3 + (24 + (7 + (m + 1))))) c d Q refl idle (λ n'. (refl, (omega arith, tt)))
      (λ n'. thru_later w f _ (2 + (7 + (3 + (3 + (3 + (2 + (3 + (24 + (7 + (m + 1))))) + 1) + 1) + 1) + 1)) _ (with_reg (with_reg c 2 0) 14 n) d Q Q (omega arith) (λ m c d q. q)
      (range_thru (3 + (24 + (7 + (m + 1)))) _ Q (with_reg (with_reg c 2 0) 14 n) d u a n idle (users_on p users per size v c (with_reg (with_reg c 2 0) 14 n) refl us) ru ra refl su sa sn (omega arith)
      (λ gu c1 d1 k1 x10. let g0 = gu.0 in let g1 = gu.1 in let g3 = gu.3 in let fit = us.fit u g0 g1 in let bound = product_below (u - 1) 64 per (omega arith) in
      let idle1 = ap (λ d. d.pending) k1.disk ∙ idle in let r22 = k1.r22 in let r23 = k1.r23 in
      straight_thru w f (Addu 26 10 0 ∷ Addu 20 22 0 ∷ Addu 21 23 0 ∷ []) _ (Gives (number_of_word per u a) ∷ Gives v' ∷ Gives b' ∷ []) (24 + (7 + (m + 1))) c1 d1 Q refl idle1 (λ n'. (omega arith, (omega arith, (omega arith, tt))))
      (λ n'. thru_later w f _ (2 + (7 + (3 + (3 + (3 + (2 + (7 + (m + 1))) + 1) + 1) + 1) + 1)) _ (with_reg (with_reg (with_reg c1 26 (number_of_word per u a)) 20 v') 21 b') d1 Q Q (omega arith) (λ m c d q. q)
      (range_thru (7 + (m + 1)) (apart_code ++ when_code 8 inside) Q (with_reg (with_reg (with_reg c1 26 (number_of_word per u a)) 20 v') 21 b') d1 v' b' n idle1 (users_on p users per size v c (with_reg (with_reg (with_reg c1 26 (number_of_word per u a)) 20 v') 21 b') k1.memory us) refl refl k1.r14 sv sb sn (omega arith)
      (λ gv c2 d2 k2 y10. let h0 = gv.0 in let h1 = gv.1 in let h3 = gv.3 in let fitv = us.fit v' h0 h1 in let boundv = product_below (v' - 1) 64 per (omega arith) in
      let idle2 = ap (λ d. d.pending) k2.disk ∙ idle1 in
      let both = numbers_apart w f p b si users per size v c u a v' b' n us gu gv in
      let r26 : c2.regs 26 ≡ number_of_word per u a = k2.r26 in let r14 : c2.regs 14 ≡ n = k2.r14 ∙ k1.r14 in
      let x : ℕ = number_of_word per u a in let y : ℕ = number_of_word per v' b' in
      let s1 = flag_small (number_of_word per u a) (number_of_word per v' b' + n) in let s2 = flag_small (number_of_word per v' b') (number_of_word per u a + n) in
      straight_thru w f apart_code (when_code 8 inside) (Gives (number_of_word per v' b') ∷ Gives (number_of_word per v' b' + n) ∷ Gives (flag (nat_lt (number_of_word per u a) (number_of_word per v' b' + n))) ∷ Gives (number_of_word per u a + n) ∷ Gives (flag (nat_lt (number_of_word per v' b') (number_of_word per u a + n))) ∷ Gives (flag (nat_lt (number_of_word per u a) (number_of_word per v' b' + n)) + flag (nat_lt (number_of_word per v' b') (number_of_word per u a + n))) ∷ Gives (flag (nat_lt (flag (nat_lt (number_of_word per u a) (number_of_word per v' b' + n)) + flag (nat_lt (number_of_word per v' b') (number_of_word per u a + n))) 2)) ∷ []) (m + 1) c2 d2 Q refl idle2
      (λ n'. (omega arith, (omega arith, (ap (λ z. flag (nat_lt z (number_of_word per v' b' + n))) r26, (omega arith, (refl, (omega arith, (refl, tt))))))))
      (λ n'. thru_when w f 8 inside m _ d2 Q (omega arith) idle2
      (λ z. let one : flag (nat_lt (number_of_word per u a) (number_of_word per v' b' + n)) + flag (nat_lt (number_of_word per v' b') (number_of_word per u a + n)) < 2 = ⊎_elim (λ o. o.1) (λ o. absurd (z o.0)) (flag_of _ 2) in
      let ap1 : Apart (number_of_word per u a) (number_of_word per v' b') n = ⊎_elim (λ o. ⊎_elim (λ o2. let e = o.0 in let e2 = o2.0 in absurd (omega arith)) (λ o2. let e2 = o2.1 in inl (omega arith)) (flag_of (number_of_word per v' b') (number_of_word per u a + n))) (λ o. let e = o.1 in inr (omega arith)) (flag_of (number_of_word per u a) (number_of_word per v' b' + n)) in
      does (record { source = gu; target = gv; apart = both.0 ap1 }) _ d2
      (record { memory = k2.memory ∙ k1.memory; special = k2.special ∙ k1.special; r2 = k2.r2 ∙ k1.r2; r22 = k2.r22 ∙ k1.r22; r23 = k2.r23 ∙ k1.r23; r26 = k2.r26; r14 = r14; r28 = k2.r28 ∙ k1.r28; r29 = k2.r29 ∙ k1.r29; r30 = k2.r30 ∙ k1.r30; r31 = k2.r31 ∙ k1.r31; disk = k2.disk ∙ k1.disk }) refl)
      (λ z. refuse (λ g. let ap1 = both.1 g.apart in
      let two : 2 ≤ flag (nat_lt (number_of_word per u a) (number_of_word per v' b' + n)) + flag (nat_lt (number_of_word per v' b') (number_of_word per u a + n)) = ⊎_elim (λ o. let o0 = o.0 in absurd (omega arith)) (λ o. o.1) (flag_of (flag (nat_lt (number_of_word per u a) (number_of_word per v' b' + n)) + flag (nat_lt (number_of_word per v' b') (number_of_word per u a + n))) 2) in
      let l1 : number_of_word per u a < number_of_word per v' b' + n = ⊎_elim (λ o. o.1) (λ o. let e = o.0 in absurd (omega arith)) (flag_of (number_of_word per u a) (number_of_word per v' b' + n)) in
      let l2 : number_of_word per v' b' < number_of_word per u a + n = ⊎_elim (λ o. o.1) (λ o. let e = o.0 in absurd (omega arith)) (flag_of (number_of_word per v' b') (number_of_word per u a + n)) in
      ⊎_elim (λ h. absurd (omega arith)) (λ h. absurd (omega arith)) ap1))))
      (λ nay. refuse (λ g. nay g.target)))))
      (λ nay. refuse (λ g. nay g.source))))

-- VM_COPY whose last piece is a whole page
module _ (w : World) (f : RoutineLaws w) (p : TableLayout) (b : ℕ) (si : Sited p w) (page : PageBlock w p b) (users per : ℕ) (size : ℕ → ℕ) (v : Pages) (c : Contents) (d : Behind) (held : PagesHeld p v (entry_state c d) c d) (us : UsersIn p users per size v c) (u a v' b' n : ℕ)
    (ru : c.regs 20 ≡ u) (ra : c.regs 21 ≡ a) (rv : c.regs 22 ≡ v') (rb : c.regs 23 ≡ b') (rn : c.regs 24 ≡ n) (su : u < 2 ^ 32) (sa : a < 2 ^ 32) (sv : v' < 2 ^ 32) (sb : b' < 2 ^ 32) (sn : n < 2 ^ 32) where
  abbrev from_word : ℕ
  from_word = number_of_word per u a

  abbrev to_word : ℕ
  to_word = number_of_word per v' b'

  abbrev loop_steps : ℕ
  loop_steps = 3 * steps_of_page p.layout.pages b * piece_count from_word to_word n + 600 * n + 1

  abbrev Told : CodeState → Contents → Behind → Type 0
  Told = CopyPassed p v from_word to_word n c d

  pub copy_good : CopyArgs users size u a v' b' n → CopyGood p.layout v from_word to_word n
  copy_good g = record {
    source = range_below p users per size v c u a n us g.source;
    target = range_below p users per size v c v' b' n us g.target;
    from = live_range p users per size v c u a n us g.source;
    to = live_range p users per size v c v' b' n us g.target;
    apart = (numbers_apart w f p b si users per size v c u a v' b' n us g.source g.target).1 g.apart;
  }

  pieces_thru : EndsWhole from_word to_word n → CopyGood p.layout v from_word to_word n → (c1 : Contents) → c1.memory ≡ c.memory → PagesHeld p v (entry_state c d) c1 d → Marks from_word to_word n c1 → Through w (pieces_code p page.code) (loop_steps + 1) c1 d Told
  pieces_thru whole good c1 m h marks = record {
    by = λ k c0 d0 at e.
        let r = loop_ends w f p b si page (entry_state c d) v from_word to_word n good whole k c1 d (f.runs.front w k (copies_code p page.code) (Addiu 2 0 1 ∷ []) at) h marks in
        let within = r.within in
        let done = r.done in
        let tail = (from_straight w f (Addiu 2 0 1 ∷ []) (Gives 1 ∷ []) r.end r.end_disk (λ c' d'. (c' ≡ with_reg r.end 2 1) × (d' ≡ r.end_disk)) refl done.idle (λ n'. ((refl, tt), (refl, refl)))).by (k + length (copies_code p page.code)) r.end r.end_disk (f.runs.back w k (copies_code p page.code) (Addiu 2 0 1 ∷ []) at) (refl, refl) in
        let is = tail.2.0 in
        let end_run = f.runs.followed w (copies_code p page.code) (Addiu 2 0 1 ∷ []) k r.more 1 r.last r.disk r.end r.end_disk tail.0 tail.1 r.ends tail.3 in (
          at_with k r.last r.disk,
          tail.0,
          tail.1,
          record {
            held = r.held;
            first = λ one. r.first one ∙ m;
            shared = subst (λ c'. LastShared p from_word to_word n c' r.last.memory) (sym is) (⊎_elim (λ s. inl s) (λ o. inr o) r.shared);
            r31 = ap (λ c. c.regs 31) is ∙ done.r31;
            idle = ap (λ d. d.pending) tail.2.1 ∙ done.idle;
          },
          here w c1 c0 d d0 k (loop_steps + 1) _ e (f.runs.later w r.steps (loop_steps + 1) _ _ (omega arith) r.comes),
          here w c1 c0 d d0 k (loop_steps + 1) _ e (f.runs.later w (r.steps + (r.more + 1)) (loop_steps + 1) _ _ (omega arith) (f.runs.joined w r.steps (r.more + 1) _ _ _ r.comes end_run)),
        );
  }

  abbrev all_steps : ℕ
  all_steps = 598 + 600 * n + steps_of_page p.layout.pages b * (3 * piece_count from_word to_word n)

  pub vm_copy_thru : EndsWhole from_word to_word n → CopyArgs users size u a v' b' n → Through w (vm_copy_code p users per page.code) all_steps c d Told
  vm_copy_thru whole good =
      thru_later w f _ (2 + (24 + (3 + (24 + (7 + (loop_steps + 1 + 1)))))) all_steps c d Told Told (omega arith) (λ t c' d' q. q)
      (copy_asked_thru w f p b si users per size v (loop_steps + 1) (pieces_code p page.code) Told c d u a v' b' n held.idle us ru ra rv rb rn su sa sv sb sn (run_short w p b page)
      (λ g c1 d1 k y27.
      let h1 : PagesHeld p v (entry_state c d) c1 d1 = held_to p v (entry_state c d) c d c1 d1 held k.memory k.special k.r28 k.r29 k.r30 k.r31 k.disk in
      subst (λ d1. Through w (pieces_code p page.code) (loop_steps + 1) c1 d1 Told) (sym k.disk)
      (pieces_thru whole (copy_good g) c1 k.memory (subst (λ d1. PagesHeld p v (entry_state c d) c1 d1) k.disk h1) (record { from = k.r26; to = y27; left = k.r14 })))
      (λ nay. nay good))

-- the same by another name of the page-fault block's code
pub thru_again : (w : World) (p : TableLayout) (users per n : ℕ) (c : Contents) (d : Behind) (Q : CodeState → Contents → Behind → Type 0) (code code' : List Inst) → code ≡ code' → Through w (vm_copy_code p users per code) n c d Q → Through w (vm_copy_code p users per code') n c d Q
thru_again w p users per n c d Q code code' e h = subst (λ code. Through w (vm_copy_code p users per code) n c d Q) e h
