-- Arguments: the product (u - 1) * Q by repeated addition, and the tests of a user and an address.
use Rattle.std.proofs.Common.{◌≡◌, ◌≢◌, ℕ, ◌+◌, ◌-◌, ◌*◌, ◌/◌, ◌%◌, ◌^◌, ◌<◌, ◌≤◌, nat_lt, List, [], ◌∷◌, ◌++◌, length, refl, ap, ◌∙◌, ⊎_elim, arith}
use Rattle.mips_table.specs.declared.inst.Inst.{Inst}
use Rattle.mips_table.specs.declared.inst.Inst.TheVariants.{Sll, Srl, Addiu, Addu, Sltiu}
use Rattle.mips_table.specs.Arith.{flag, sum, extended}
use Rattle.page_model.specs.Paging.{Pages}
use Rattle.mips_table.specs.Device.{Idle}
use Rattle.mips_table.specs.Code.{put, Contents, Behind, World}
use Rattle.mips_table.proofs.PutsChangeOneWord.{put_other}
use Rattle.mips_table.proofs.NumbersInHalves.{small_is}
use Rattle.cvm_primitives.specs.Routines.{RoutineLaws}
use Rattle.masm.specs.Says.{Gives, Reads, Widens}
use Rattle.masm.specs.Laws.{From}
use Rattle.cvm_primitives.proofs.BlocksFromOneState.{from_straight, from_then, from_when, straight_then}
use Rattle.page_model.specs.TableLayout.{TableLayout}
use Rattle.frame_table.specs.View.{Sited}
use Rattle.cvm_primitives.specs.View.{UsersIn, WordGood, number_of_word, size_at}
use Rattle.cvm_primitives.proofs.PartStates.{Quiet}
use Rattle.cvm_primitives.specs.Code.{first_page_code, check_address_code, check_word_arguments_code}
use Rattle.cvm_primitives.proofs.SharedByRoutines.{flag_of}

-- a product's bound
pub product_below : (k users per : ℕ) → k < users → k * per + per ≤ users * per
product_below k users per lt =
    let r : ℕ = users - k - 1 in
    let e : users ≡ k + 1 + (users - k - 1) = omega arith in
    let g : users * per ≡ (k + 1 + (users - k - 1)) * per = ap (λ z. z * per) e in
    omega arith

-- all registers but these two stay
pub record Based (m per : ℕ) (c0 : Contents) (d0 : Behind) (c : Contents) (d : Behind) : Type 0 where
  pub product : c.regs 10 ≡ m * per
  pub regs : (r : ℕ) → r ≢ 8 → r ≢ 10 → c.regs r ≡ c0.regs r
  pub memory : c.memory ≡ c0.memory
  pub special : c.special ≡ c0.special
  pub disk : d ≡ d0

module _ (w : World) (f : RoutineLaws w) where
  module _ (m per : ℕ) (m64 : m < 64) (p1024 : per ≤ 1024) (c0 : Contents) (d0 : Behind) (idle : d0.pending ≡ Idle) where
    pub base_from : c0.regs 8 ≡ m → From w (first_page_code per) 3 c0 d0 (Based m per c0 d0)
    base_from at =
        let bound = product_below m 64 per m64 in let e = small_is per (omega arith) in
        from_straight w f (first_page_code per) (Gives per ∷ Widens 0 (m * per) ∷ Gives (m * per) ∷ []) c0 d0 (Based m per c0 d0) refl idle
        (λ n. (
          (ap (λ z. (0 + z) % 2 ^ 32) e ∙ omega arith, ((ap (λ z. z * per / 2 ^ 32) at ∙ omega arith, ap (λ z. z * per % 2 ^ 32) at ∙ omega arith), (refl, tt))),
          record { product = refl; regs = λ r n8 n10. put_other (put c0.regs 10 per) 10 (m * per) r n10 ∙ put_other c0.regs 10 per r n10; memory = refl; special = refl; disk = refl },
        ))

  -- the tests of vm_word and vm_put: the work is f.handled.passes where u and a are good, and else register 2 is what the bad answer is
  module _ (p : TableLayout) (b : ℕ) (si : Sited p w) (users per : ℕ) (size : ℕ → ℕ) (v : Pages) where
    pub asked_from : (bad m : ℕ) (work : List Inst) (Q : Contents → Behind → Type 0) (c : Contents) (d : Behind) (u a : ℕ) → d.pending ≡ Idle → UsersIn p users per size v c → c.regs 20 ≡ u → c.regs 21 ≡ a → u < 2 ^ 32 → a < 2 ^ 32 → length work ≤ 30000
        → (WordGood users size u a → (c1 : Contents) (d1 : Behind) → Quiet c d c1 d1 → c1.regs 26 ≡ number_of_word per u a → From w work m c1 d1 Q)
        → ((WordGood users size u a → ⊥) → (c1 : Contents) (d1 : Behind) → Quiet c d c1 d1 → c1.regs 2 ≡ sum 0 (extended bad) → Q c1 d1)
        → From w (check_word_arguments_code bad users per work) (3 + (8 + (3 + (3 + m) + 1 + 1) + 1)) c d Q
    asked_from bad m work Q c d u a idle us ru ra su sa short does refuse =
        let few = us.few in let most = us.most in let words = f.small in let low = si.low in let first = si.first in let second = si.second in let third = si.third in
        let ku = small_is users (omega arith) in
        straight_then w f (Addiu 2 0 bad ∷ Addiu 8 20 65535 ∷ Sltiu 9 8 users ∷ []) _ (Gives (sum 0 (extended bad)) ∷ Gives ((u + 4294967295) % 2 ^ 32) ∷ Gives (flag (nat_lt ((u + 4294967295) % 2 ^ 32) users)) ∷ []) (8 + (3 + (3 + m) + 1 + 1) + 1) c d Q refl idle
        (λ n. (refl, (ap (λ z. (z + 4294967295) % 2 ^ 32) ru, (ap (λ z. flag (nat_lt ((u + 4294967295) % 2 ^ 32) z)) ku, tt))))
        (λ n. from_when w f 9 _ (8 + (3 + (3 + m) + 1 + 1)) _ d Q (omega arith) idle
        (λ z. let below : (u + 4294967295) % 2 ^ 32 < users = ⊎_elim (λ o. o.1) (λ o. absurd (z o.0)) (flag_of ((u + 4294967295) % 2 ^ 32) users) in
        let u0 : 0 < u = omega arith in let u1 : u ≤ users = omega arith in
        let sz = us.sizes u u0 u1 in let fit = us.fit u u0 u1 in
        straight_then w f check_address_code _ (Gives 49280 ∷ Gives (256 * (u - 1)) ∷ Gives (4 * size_at u) ∷ Reads (size_at u) (size u) ∷ Gives (4096 * size u) ∷ Gives (flag (nat_lt a (4096 * size u))) ∷ Gives (a * 2 ^ 30 % 2 ^ 32) ∷ Gives (flag (nat_lt (a * 2 ^ 30 % 2 ^ 32) 1)) ∷ []) (3 + (3 + m) + 1 + 1) _ d Q refl idle
        (λ n. (refl, (omega arith, (omega arith, ((omega arith, omega arith, sz), (omega arith, (ap (λ z. flag (nat_lt z (4096 * size u))) ra, (ap (λ z. z * 2 ^ 30 % 2 ^ 32) ra, (refl, tt)))))))))
        (λ n. from_when w f 9 _ (3 + (3 + m) + 1) _ d Q (omega arith) idle
        (λ z. let inside : a < 4096 * size u = ⊎_elim (λ o. o.1) (λ o. absurd (z o.0)) (flag_of a (4096 * size u)) in
        from_when w f 12 _ (3 + (3 + m)) _ d Q (omega arith) idle
        (λ z. let even : a * 2 ^ 30 % 2 ^ 32 < 1 = ⊎_elim (λ o. o.1) (λ o. absurd (z o.0)) (flag_of (a * 2 ^ 30 % 2 ^ 32) 1) in
        let good : WordGood users size u a = (u0, u1, omega arith, inside) in
        from_then w f (first_page_code per) ((Sll 10 10 10 ∷ Srl 9 21 2 ∷ Addu 26 10 9 ∷ []) ++ work) 3 (3 + m) _ d (Based (u - 1) per _ d) Q
        (base_from (u - 1) per (omega arith) most _ d idle (omega arith))
        (λ c1 d1 k. let product = k.product in let r21 = k.regs 21 (omega arith) (omega arith) in let bound = product_below (u - 1) 64 per (omega arith) in let idle1 = ap (λ d. d.pending) k.disk ∙ idle in
        straight_then w f (Sll 10 10 10 ∷ Srl 9 21 2 ∷ Addu 26 10 9 ∷ []) work (Gives (1024 * ((u - 1) * per)) ∷ Gives (a / 4) ∷ Gives (number_of_word per u a) ∷ []) m c1 d1 Q refl idle1
        (λ n. (omega arith, (ap (λ z. z / 2 ^ 2) (r21 ∙ ra), (omega arith, tt))))
        (λ n. does good _ d1 (record { memory = k.memory; special = k.special; r22 = k.regs 22 (omega arith) (omega arith); r28 = k.regs 28 (omega arith) (omega arith); r29 = k.regs 29 (omega arith) (omega arith); r30 = k.regs 30 (omega arith) (omega arith); r31 = k.regs 31 (omega arith) (omega arith); disk = k.disk }) refl)))
        (λ z. let odd : 1 ≤ a * 2 ^ 30 % 2 ^ 32 = ⊎_elim (λ o. let o0 = o.0 in absurd (omega arith)) (λ o. o.1) (flag_of (a * 2 ^ 30 % 2 ^ 32) 1) in
        refuse (λ g. let g2 = g.2 in absurd (omega arith)) _ d (record { memory = refl; special = refl; r22 = refl; r28 = refl; r29 = refl; r30 = refl; r31 = refl; disk = refl }) refl))
        (λ z. let past : 4096 * size u ≤ a = ⊎_elim (λ o. let o0 = o.0 in absurd (omega arith)) (λ o. o.1) (flag_of a (4096 * size u)) in
        refuse (λ g. let g3 = g.3 in absurd (omega arith)) _ d (record { memory = refl; special = refl; r22 = refl; r28 = refl; r29 = refl; r30 = refl; r31 = refl; disk = refl }) refl)))
        (λ z. let past : users ≤ (u + 4294967295) % 2 ^ 32 = ⊎_elim (λ o. let o0 = o.0 in absurd (omega arith)) (λ o. o.1) (flag_of ((u + 4294967295) % 2 ^ 32) users) in
        refuse (λ g. let g0 = g.0 in let g1 = g.1 in absurd (omega arith)) _ d (record { memory = refl; special = refl; r22 = refl; r28 = refl; r29 = refl; r30 = refl; r31 = refl; disk = refl }) refl))
