-- An instruction on a place, near or far, and what instructions do to registers.
use Rattle.std.specs.Prelude.{if◌then◌else◌}
use Rattle.std.proofs.Common.{◌≡◌, ◌≢◌, inl, inr, ℕ, ◌+◌, ◌-◌, ◌*◌, ◌/◌, ◌%◌, ◌^◌, ◌<◌, ◌≤◌, true, nat_lt, nat_eq, Some, None, [], ◌∷◌, ◌++◌, length, refl, sym, ap, ◌∙◌, subst, arith, le-ltb, eq-eqb, ne_eqb, eqb-true, length-append}
use Rattle.std.proofs.lemmas.Bool.{cases_Bool, cases_eq, cond-true, cond-false, ltb-true, ltb-false}
use Rattle.mips_table.specs.declared.inst.Inst.{Inst}
use Rattle.mips_table.specs.declared.inst.Inst.TheVariants.{Lui, Addu, Sw}
use Rattle.mips_table.specs.Arith.{sum, extended}
use Rattle.mips_table.specs.Device.{Idle}
use Rattle.mips_table.specs.Code.{put, put_reg, Contents, reg, with_reg, Behind, World, at_with, Reaches, CodeAt}
use Rattle.masm.specs.Says.{Gives, Writes}
use Rattle.masm.specs.Laws.{RunsCompose, StraightRuns}
use Rattle.c0_expr_code.specs.Code.{AddressingMode, is_near, low, high, access_code}
use Rattle.c0_runs.proofs.WorkAsCode.{front, back}

-- registers that are written, and the others
pub same_reg : (g : ℕ → ℕ) (d v : ℕ) → d ≢ 0 → put_reg g d v d ≡ v
same_reg g d v h = ap (λ f. f d) (cond-false (nat_eq d 0) g (put g d v) (ne_eqb d 0 h)) ∙ cond-true (nat_eq d d) v (g d) (eq-eqb d d refl)

pub other_reg : (g : ℕ → ℕ) (d v x : ℕ) → x ≢ d → put_reg g d v x ≡ g x
other_reg g d v x h = elim (cases_eq d 0) [
  | inl e ↦ ap (λ f. f x) (cond-true (nat_eq d 0) g (put g d v) (eq-eqb d 0 e))
  | inr ne ↦ ap (λ f. f x) (cond-false (nat_eq d 0) g (put g d v) (ne_eqb d 0 ne)) ∙ cond-false (nat_eq x d) v (g x) (ne_eqb x d h)
]

pub read_is : (g : ℕ → ℕ) (x : ℕ) → x ≢ 0 → reg g x ≡ g x
read_is g x ne = cond-false (nat_eq x 0) 0 (g x) (ne_eqb x 0 ne)

pub like_read : (g f : ℕ → ℕ) (x : ℕ) → g x ≡ f x → reg g x ≡ reg f x
like_read g f x e = ap (λ v. if nat_eq x 0 then 0 else v) e

pub same_read : (g : ℕ → ℕ) (d v : ℕ) → d ≢ 0 → reg (put_reg g d v) d ≡ v
same_read g d v h = read_is (put_reg g d v) d h ∙ same_reg g d v h

far_is : (k a : ℕ) → sum (sum a ((k + 2 ^ 15) / 2 ^ 16 % 2 ^ 16 * 2 ^ 16)) (extended (k % 2 ^ 16)) ≡ (a + k) % 2 ^ 32
far_is k a = elim (cases_Bool (nat_lt (k % 2 ^ 16) (2 ^ 15))) [
  | inl e ↦ let h = ltb-true (k % 2 ^ 16) (2 ^ 15) e in ap (sum _) (cond-true (nat_lt (k % 2 ^ 16) (2 ^ 15)) (k % 2 ^ 16) (k % 2 ^ 16 + (2 ^ 32 - 2 ^ 16)) e) ∙ omega arith
  | inr e ↦ let h = ltb-false (k % 2 ^ 16) (2 ^ 15) e in ap (sum _) (cond-false (nat_lt (k % 2 ^ 16) (2 ^ 15)) (k % 2 ^ 16) (k % 2 ^ 16 + (2 ^ 32 - 2 ^ 16)) e) ∙ omega arith
]

-- all but hi and lo and two registers is as it was: register 1, and r
pub record Near (r : ℕ) (b a : Contents) : Type 0 where
  pub memory : a.memory ≡ b.memory
  pub special : a.special ≡ b.special
  pub others : (x : ℕ) → x ≢ 1 → x ≢ r → a.regs x ≡ b.regs x

-- the code that a place needs first
pub access_front : (w : World) (n : ℕ) (i : ℕ → ℕ → Inst) (r : ℕ) (x : AddressingMode) → CodeAt w n (access_code i r x) → CodeAt w n x.code
access_front w n i r x code = front w n x.code (if is_near x.displacement then i x.base (low x.displacement) ∷ [] else Lui 1 (high x.displacement) ∷ Addu r x.base 1 ∷ i r (low x.displacement) ∷ []) code

-- how many steps an instruction on a place takes, behind the place's own code
abbrev pub place_steps : AddressingMode → ℕ
place_steps x = if is_near x.displacement then 1 else 3

pub few_steps : (x : AddressingMode) → place_steps x ≤ 3
few_steps x = elim (cases_Bool (is_near x.displacement)) [
  | inl e ↦ let one : place_steps x ≡ 1 = cond-true (is_near x.displacement) 1 3 e in omega (arith, one)
  | inr e ↦ let three : place_steps x ≡ 3 = cond-false (is_near x.displacement) 1 3 e in omega (arith, three)
]

-- a distance of few bytes back is near
pub back_is_near : (k : ℕ) → 2 ^ 32 - 2 ^ 15 ≤ k → k < 2 ^ 32 → is_near k ≡ true
back_is_near k le lt = eq-eqb (extended (low k)) k (cond-false (nat_lt (k % 2 ^ 16) (2 ^ 15)) (k % 2 ^ 16) (k % 2 ^ 16 + (2 ^ 32 - 2 ^ 16)) (le-ltb (k % 2 ^ 16) (2 ^ 15) (omega (arith, le, lt))) ∙ omega (arith, le, lt))

module _ (compose : RunsCompose) (w : World) (straight : StraightRuns w) where
  -- an instruction on a place, where it is known what it does at the place's address
  pub on_place : (P : Contents → Type 0) (i : ℕ → ℕ → Inst) (x : AddressingMode) (r n : ℕ) (b : Contents) (k : Behind) → k.pending ≡ Idle → r ≢ 0 → x.base ≢ 1 → CodeAt w n (access_code i r x)
      → ((q m : ℕ) (a : Contents) → w.code m ≡ Some (i q (low x.displacement)) → Near r b a → sum (reg a.regs q) (extended (low x.displacement)) ≡ (reg b.regs x.base + x.displacement) % 2 ^ 32 → (c : Contents) × P c × Reaches w 1 (at_with m a k) (at_with (m + 1) c k))
      → (c : Contents) × P c × Reaches w (place_steps x) (at_with (n + length x.code) b k) (at_with (n + length (access_code i r x)) c k)
  on_place P i x r n b k idle rz bz code law = elim (cases_Bool (is_near x.displacement)) [
    | inl e ↦
        let same : access_code i r x ≡ x.code ++ (i x.base (low x.displacement) ∷ []) = ap (λ is. x.code ++ is) (cond-true (is_near x.displacement) (i x.base (low x.displacement) ∷ []) (Lui 1 (high x.displacement) ∷ Addu r x.base 1 ∷ i r (low x.displacement) ∷ []) e) in
        let there = back w n x.code (i x.base (low x.displacement) ∷ []) (subst (CodeAt w n) same code) in
        let run = law x.base (n + length x.code) b there.0 (record { memory = refl; special = refl; others = λ y ne me. refl }) (ap (sum (reg b.regs x.base)) (eqb-true (extended (low x.displacement)) x.displacement e)) in
        let len : n + length x.code + 1 ≡ n + length (access_code i r x) = omega (arith, ap length same, length-append x.code (i x.base (low x.displacement) ∷ [])) in
        let one : place_steps x ≡ 1 = cond-true (is_near x.displacement) 1 3 e in
        (run.0, run.1, subst (λ t. Reaches w (place_steps x) (at_with (n + length x.code) b k) (at_with t run.0 k)) len (subst (λ y. Reaches w y (at_with (n + length x.code) b k) (at_with (n + length x.code + 1) run.0 k)) (sym one) run.2))
    | inr e ↦
        let same : access_code i r x ≡ x.code ++ (Lui 1 (high x.displacement) ∷ Addu r x.base 1 ∷ i r (low x.displacement) ∷ []) = ap (λ is. x.code ++ is) (cond-false (is_near x.displacement) (i x.base (low x.displacement) ∷ []) (Lui 1 (high x.displacement) ∷ Addu r x.base 1 ∷ i r (low x.displacement) ∷ []) e) in
        let there = back w n x.code (Lui 1 (high x.displacement) ∷ Addu r x.base 1 ∷ i r (low x.displacement) ∷ []) (subst (CodeAt w n) same code) in
        let b1 : Contents = with_reg b 1 (high x.displacement * 2 ^ 16) in
        let one = straight.next (Lui 1 (high x.displacement)) (Gives (high x.displacement * 2 ^ 16)) (n + length x.code) b k there.0 refl idle refl in
        let base : reg b1.regs x.base ≡ reg b.regs x.base = like_read b1.regs b.regs x.base (other_reg b.regs 1 (high x.displacement * 2 ^ 16) x.base bz) in
        let whole : sum (reg b1.regs x.base) (reg b1.regs 1) ≡ sum (reg b.regs x.base) (high x.displacement * 2 ^ 16) = ap (λ y. sum y (high x.displacement * 2 ^ 16)) base in
        let b2 : Contents = with_reg b1 r (sum (reg b.regs x.base) (high x.displacement * 2 ^ 16)) in
        let two = straight.next (Addu r x.base 1) (Gives (sum (reg b.regs x.base) (high x.displacement * 2 ^ 16))) (n + length x.code + 1) b1 k there.1.0 refl idle whole in
        let address : sum (reg b2.regs r) (extended (low x.displacement)) ≡ (reg b.regs x.base + x.displacement) % 2 ^ 32 = ap (λ y. sum y (extended (low x.displacement))) (same_read b1.regs r (sum (reg b.regs x.base) (high x.displacement * 2 ^ 16)) rz) ∙ far_is x.displacement (reg b.regs x.base) in
        let run = law r (n + length x.code + 1 + 1) b2 there.1.1.0 (record { memory = refl; special = refl; others = λ y ne me. other_reg b1.regs r (sum (reg b.regs x.base) (high x.displacement * 2 ^ 16)) y me ∙ other_reg b.regs 1 (high x.displacement * 2 ^ 16) y ne }) address in
        let len : n + length x.code + 1 + 1 + 1 ≡ n + length (access_code i r x) = omega (arith, ap length same, length-append x.code (Lui 1 (high x.displacement) ∷ Addu r x.base 1 ∷ i r (low x.displacement) ∷ [])) in
        let three : place_steps x ≡ 3 = cond-false (is_near x.displacement) 1 3 e in
        (run.0, run.1, subst (λ t. Reaches w (place_steps x) (at_with (n + length x.code) b k) (at_with t run.0 k)) len (compose.later w 3 (place_steps x) _ _ (omega (arith, three)) (compose.joined w 1 2 _ _ _ one (compose.joined w 1 1 _ _ _ two run.2))))
  ]

  -- a word is stored at a place, and a register and register 1 are changed
  pub record Wrote (r a v : ℕ) (b c : Contents) : Type 0 where
    pub memory : c.memory ≡ put b.memory a v
    pub special : c.special ≡ b.special
    pub others : (x : ℕ) → x ≢ 1 → x ≢ r → c.regs x ≡ b.regs x

  pub writes : (q : ℕ) (x : AddressingMode) (r n a v : ℕ) (b : Contents) (k : Behind) → k.pending ≡ Idle → r ≢ 0 → x.base ≢ 1 → q ≢ 1 → q ≢ r → CodeAt w n (access_code (λ y z. Sw q y z) r x) → (reg b.regs x.base + x.displacement) % 2 ^ 32 ≡ 4 * a → a < w.words → w.kept a ≡ None → reg b.regs q ≡ v
      → (c : Contents) × Wrote r a v b c × Reaches w (place_steps x) (at_with (n + length x.code) b k) (at_with (n + length (access_code (λ y z. Sw q y z) r x)) c k)
  writes q x r n a v b k idle rz bz qz qr code is inside kept holds =
      on_place (Wrote r a v b) (λ y z. Sw q y z) x r n b k idle rz bz code
      (λ y m e there near address. (
        record e { memory = put e.memory a v },
        record { memory = ap (λ f. put f a v) near.memory; special = near.special; others = near.others },
        straight.next (Sw q y (low x.displacement)) (Writes a v) m e k there refl idle (address ∙ is, inside, kept, like_read e.regs b.regs q (near.others q qz qr) ∙ holds),
      ))
