-- The code that scales an index: a shift, where an element's words are a power of two, or a multiplication.
use Rattle.std.proofs.Common.{Bool, ◌≡◌, ◌≢◌, inl, inr, ℕ, zero, suc, ◌+◌, ◌*◌, ◌%◌, ◌^◌, ◌<◌, nat_eq, Option, Some, None, List, [], ◌∷◌, length, refl, sym, ap, ap₂, ◌∙◌, subst, arith, length-append, ne_eqb}
use Rattle.std.proofs.lemmas.Bool.{cases_Bool, cases_eq, eqb-true, cond-true, cond-false}
use Rattle.std.proofs.Math.Nat.{mul_comm, mul_assoc}
use Rattle.std.proofs.lemmas.Nat.{pow-add}
use Rattle.mips_table.specs.declared.inst.Inst.{Inst}
use Rattle.mips_table.specs.declared.inst.Inst.TheVariants.{Sll, Mult, Mflo}
use Rattle.mips_table.specs.Arith.{signed_product, upper, lower}
use Rattle.mips_table.specs.Device.{Idle}
use Rattle.mips_table.specs.Code.{Contents, reg, with_reg, with_wide, Behind, World, at_with, Reaches, CodeAt}
use Rattle.masm.specs.Says.{Gives as Becomes, Widens}
use Rattle.c0_meaning.specs.State.{C0State}
use Rattle.c0_expr_code.specs.Scope.{Scope}
use Rattle.c0_expr_runs.specs.Bases.{Bases}
use Rattle.c0_expr_code.specs.Code.{constant_code, shift_within, POWERS, scaled_code, scale_code}
use Rattle.c0_expr_runs.specs.Relation.{StateIsTyped, Area, KeepsRegisters}
use Rattle.c0_expr_runs.proofs.CodeRuns.{Machine, joined, later, code_front, code_back, said_step}
use Rattle.c0_expr_runs.proofs.ProductsOfWords.{number_product}
use Rattle.c0_expr_runs.proofs.SideBySide.{other_reg, other_read, keeps_on, keeps_one}
use Rattle.c0_expr_runs.proofs.NodesEvaluate.{constant_runs}

shift_is : (n k by : ℕ) → shift_within n k ≡ Some by → 2 ^ by ≡ 4 * k
shift_is zero k by e = absurd (cc)
shift_is (suc n) k by e = elim (cases_Bool (nat_eq k (2 ^ n))) [
  | inl t ↦
      let q : ◌≡◌ {A = Option ℕ} (Some (n + 2)) (Some by) = sym (cond-true (nat_eq k (2 ^ n)) (Some (n + 2)) (shift_within n k) t) ∙ e in
      let b : by ≡ n + 2 = cc in
      let is : k ≡ 2 ^ n = eqb-true k (2 ^ n) t in
      let four : 2 ^ (n + 2) ≡ 4 * 2 ^ n = twice n in
      ap (λ m. 2 ^ m) b ∙ four ∙ ap (λ m. 4 * m) (sym is)
  | inr t ↦ shift_is n k by (sym (cond-false (nat_eq k (2 ^ n)) (Some (n + 2)) (shift_within n k) t) ∙ e)
]
  where
    twice : (n : ℕ) → 2 ^ (n + 2) ≡ 4 * 2 ^ n
    twice n = pow-add 2 n 2 ∙ mul_comm (2 ^ n) 4

-- where register 1 alone changes
read_raw : (g : ℕ → ℕ) (x : ℕ) → x ≢ 0 → reg g x ≡ g x
read_raw g x nz = cond-false (nat_eq x 0) 0 (g x) (ne_eqb x 0 nz)

raw_kept : (a b : Contents) → KeepsRegisters 1 1 a b → ((x : ℕ) → x ≢ 1 → reg b.regs x ≡ reg a.regs x) → (x : ℕ) → x ≢ 1 → b.regs x ≡ a.regs x
raw_kept a b h o x n = elim (cases_eq x 0) [
  | inl z ↦ h.below x n n (omega (arith, z))
  | inr nz ↦ sym (read_raw b.regs x nz) ∙ o x n ∙ read_raw a.regs x nz
]

pub all_kept : (r : ℕ) (a b : Contents) → KeepsRegisters 1 1 a b → ((x : ℕ) → x ≢ 1 → reg b.regs x ≡ reg a.regs x) → KeepsRegisters r r a b
all_kept r a b h o = record { memory = h.memory; special = h.special; below = λ x n m l. raw_kept a b h o x n; above = λ x n l. raw_kept a b h o x (λ e. absurd (omega (arith, e, l))) }

module _ (w : World) (sc : Scope) (p : Bases) (live : ℕ → Bool) (s : C0State) (f : Machine w) (area : Area w sc p) (is_typed : StateIsTyped sc p s) where
  pub record Scaled (code : List Inst) (k q n : ℕ) (a : Contents) (d : Behind) : Type 0 where
    pub core : Contents
    pub is : reg core.regs 1 ≡ 4 * (k * reg a.regs q) % 2 ^ 32
    pub keeps : (r : ℕ) → KeepsRegisters r r a core
    pub others : (x : ℕ) → x ≢ 1 → reg core.regs x ≡ reg a.regs x
    pub run : Reaches w 4 (at_with n a d) (at_with (n + length code) core d)

  scales_by : (o : Option ℕ) (k q n : ℕ) (a : Contents) (d : Behind) → d.pending ≡ Idle → q ≢ 1 → 4 * k < 2 ^ 31 → reg a.regs q < 2 ^ 31
      → ((by : ℕ) → o ≡ Some by → 2 ^ by ≡ 4 * k) → CodeAt w n (scaled_code o k q) → Scaled (scaled_code o k q) k q n a d
  scales_by (Some by) k q n a d idle ne small low is there =
      let v : ℕ = 4 * (k * reg a.regs q) % 2 ^ 32 in
      let e : reg a.regs q * 2 ^ by % 2 ^ 32 ≡ 4 * (k * reg a.regs q) % 2 ^ 32 = ap (λ x. x % 2 ^ 32) (ap (λ y. reg a.regs q * y) (is by refl) ∙ mul_comm (reg a.regs q) (4 * k) ∙ mul_assoc 4 k (reg a.regs q)) in
      let one = said_step w f (Sll 1 q by) (Becomes (4 * (k * reg a.regs q) % 2 ^ 32)) n a d there.0 refl idle e in
      record {
        core = with_reg a 1 (4 * (k * reg a.regs q) % 2 ^ 32);
        is = refl;
        keeps = λ r. keeps_one r r (4 * (k * reg a.regs q) % 2 ^ 32) a;
        others = λ x o. other_read a.regs 1 (4 * (k * reg a.regs q) % 2 ^ 32) x o;
        run = later w 1 4 _ _ (omega arith) one;
      }
  scales_by None k q n a d idle ne small low is there =
      let js : List Inst = Mult q 1 ∷ Mflo 1 ∷ [] in
      let first = constant_runs w sc p live s f area is_typed 1 1 (4 * k % 2 ^ 32) n a d (omega arith) idle (λ z. absurd (omega (arith, z))) (code_front w n (constant_code 1 (4 * k % 2 ^ 32)) (Mult q 1 ∷ Mflo 1 ∷ []) there) in
      let rest = code_back w n (constant_code 1 (4 * k % 2 ^ 32)) (Mult q 1 ∷ Mflo 1 ∷ []) there in
      let b : Contents = first.0 in
      let product : lower (signed_product (reg first.0.regs q) (reg first.0.regs 1)) ≡ 4 * (k * reg a.regs q) % 2 ^ 32 =
      ap₂ (λ u v. lower (signed_product u v)) (first.3 q ne) (first.1 ∙ omega (arith, small)) ∙ number_product (reg a.regs q) (4 * k) low small
      ∙ ap (λ x. x % 2 ^ 32) (mul_comm (reg a.regs q) (4 * k) ∙ mul_assoc 4 k (reg a.regs q)) in
      let hi : ℕ = upper (signed_product (reg first.0.regs q) (reg first.0.regs 1)) in
      let v : ℕ = 4 * (k * reg a.regs q) % 2 ^ 32 in
      let b2 : Contents = with_wide first.0 (upper (signed_product (reg first.0.regs q) (reg first.0.regs 1))) (4 * (k * reg a.regs q) % 2 ^ 32) in
      let two = said_step w f (Mult q 1) (Widens (upper (signed_product (reg first.0.regs q) (reg first.0.regs 1))) (4 * (k * reg a.regs q) % 2 ^ 32)) (n + length (constant_code 1 (4 * k % 2 ^ 32))) first.0 d rest.0 refl idle (refl, product) in
      let three = said_step w f (Mflo 1) (Becomes (4 * (k * reg a.regs q) % 2 ^ 32)) (n + length (constant_code 1 (4 * k % 2 ^ 32)) + 1) b2 d rest.1.0 refl idle refl in
      let len : n + length (constant_code 1 (4 * k % 2 ^ 32)) + 1 + 1 ≡ n + length (scaled_code None k q) = omega (arith, length-append (constant_code 1 (4 * k % 2 ^ 32)) (Mult q 1 ∷ Mflo 1 ∷ [])) in
      let run = joined w 2 2 _ _ _ first.4 (joined w 1 1 _ _ _ two three) in
      let here : (r : ℕ) → KeepsRegisters r r first.0 (with_reg b2 1 (4 * (k * reg a.regs q) % 2 ^ 32)) = λ r. record { memory = refl; special = refl; below = λ x n m l. other_reg first.0.regs 1 _ x n; above = λ x n l. other_reg first.0.regs 1 _ x (λ e. absurd (omega (arith, e, l))) } in
      record {
        core = with_reg b2 1 (4 * (k * reg a.regs q) % 2 ^ 32);
        is = refl;
        keeps = λ r. keeps_on r r a first.0 (with_reg b2 1 (4 * (k * reg a.regs q) % 2 ^ 32)) (all_kept r a first.0 first.2 first.3) (here r);
        others = λ x o. other_read first.0.regs 1 (4 * (k * reg a.regs q) % 2 ^ 32) x o ∙ first.3 x o;
        run = subst (λ t. Reaches w 4 (at_with n a d) (at_with t (with_reg b2 1 (4 * (k * reg a.regs q) % 2 ^ 32)) d)) len run;
      }

  pub scales : (k q n : ℕ) (a : Contents) (d : Behind) → d.pending ≡ Idle → q ≢ 1 → 4 * k < 2 ^ 31 → reg a.regs q < 2 ^ 31
      → CodeAt w n (scale_code k q) → Scaled (scale_code k q) k q n a d
  scales k q n a d idle ne small low there = scales_by (shift_within POWERS k) k q n a d idle ne small low (λ by e. shift_is POWERS k by e) there
