-- The begin of a function whose variables stand in registers, on the machine.
use Rattle.std.specs.Prelude.{None, IsTrue, if◌then◌else◌}
use Rattle.std.specs.List.{list_all}
use Rattle.std.proofs.lemmas.Bool.{and_parts}
use Rattle.std.proofs.Common.{◌≡◌, ◌≢◌, inl, inr, ℕ, zero, suc, ◌+◌, ◌*◌, ◌^◌, ◌<◌, ◌≤◌, ◌⊎◌, Bool, true, false, List, [], ◌∷◌, ◌++◌, length, refl, sym, ap, ◌∙◌, subst, arith, length-append}
use Rattle.mips_table.specs.declared.inst.Inst.TheVariants.{Addu, Sw}
use Rattle.mips_table.specs.Device.{Idle}
use Rattle.mips_table.specs.Code.{Contents, put, with_reg, Behind, World, at_with, Reaches, CodeAt}
use Rattle.masm.specs.Says.{Gives, Writes}
use Rattle.masm.specs.Laws.{RunsCompose, StraightRuns}
use Rattle.c0_meaning.specs.Ty.{Ty, is_scalar}
use Rattle.c0_expr_code.specs.Code.{register_of_variable}
use Rattle.c0_stmt_code.specs.Code.{clear_one, clear_code}
use Rattle.c0_runs.proofs.WorkAsCode.{front, back}
use Rattle.c0_stmt_code.proofs.PremisesOfFunctions.{AllScalar}
use Rattle.c0_runs.proofs.RegionsApart.{put_same, put_other}
use Rattle.c0_runs.proofs.MemoryAccess.{same_reg, other_reg, read_is}

pub each_scalar : (ts : List Ty) → list_all is_scalar ts ≡ true → AllScalar ts
each_scalar [] h = tt
each_scalar (t ∷ ts) h = let p = and_parts (is_scalar t) (list_all is_scalar ts) h in (p.0, each_scalar ts p.1)

pub scalars_behind : (ts us : List Ty) → AllScalar (ts ++ us) → AllScalar us
scalars_behind [] us h = h
scalars_behind (t ∷ ts) us h = scalars_behind ts us h.1

module _ (compose : RunsCompose) (w : World) (straight : StraightRuns w) where
  -- of so many registers those become 0 that are to be cleared, a step each
  pub record Zeroed (wanted : ℕ → Bool) (n i : ℕ) (b c : Contents) : Type 0 where
    pub zeros : (j : ℕ) → j < n → IsTrue (wanted (i + j)) → c.regs (20 + i + j) ≡ 0
    pub others : (x : ℕ) → (x < 20 + i) ⊎ (20 + i + n ≤ x) → c.regs x ≡ b.regs x
    pub memory : c.memory ≡ b.memory
    pub special : c.special ≡ b.special

  -- one register
  clears_one : (wanted : ℕ → Bool) (i k : ℕ) (c : Contents) (d : Behind) → d.pending ≡ Idle → i < 8 → CodeAt w k (clear_one (wanted i) i)
      → (c' : Contents) × ((IsTrue (wanted i) → c'.regs (20 + i) ≡ 0) × ((x : ℕ) → x ≢ 20 + i → c'.regs x ≡ c.regs x) × (c'.memory ≡ c.memory) × (c'.special ≡ c.special)) × Reaches w 1 (at_with k c d) (at_with (k + length (clear_one (wanted i) i)) c' d)
  clears_one wanted i k c d idle few code = by_test (wanted i) refl code
    where
      by_test : (b : Bool) → wanted i ≡ b → CodeAt w k (clear_one b i)
          → (c' : Contents) × ((IsTrue (wanted i) → c'.regs (20 + i) ≡ 0) × ((x : ℕ) → x ≢ 20 + i → c'.regs x ≡ c.regs x) × (c'.memory ≡ c.memory) × (c'.special ≡ c.special))
          × Reaches w 1 (at_with k c d) (at_with (k + length (clear_one b i)) c' d)
      by_test true q there =
          let at : register_of_variable i ≡ 20 + i = omega (arith, few) in (
            with_reg c (register_of_variable i) 0,
            ((λ wants. ap (with_reg c (register_of_variable i) 0).regs (sym at) ∙ same_reg c.regs (register_of_variable i) 0 (λ z. absurd (omega (arith, z, at)))), (λ x ne. other_reg c.regs (register_of_variable i) 0 x (λ z. ne (z ∙ at))), refl, refl),
            straight.next (Addu (register_of_variable i) 0 0) (Gives 0) k c d there.0 refl idle refl,
          )
      by_test false q there = (
        c,
        ((λ wants. absurd (let z : false ≡ true = sym q ∙ wants in cc)), (λ x ne. refl), refl, refl),
        subst (λ m. Reaches w 1 (at_with k c d) (at_with m c d)) (omega arith) (compose.later w 0 1 _ _ (omega arith) (compose.none w (at_with k c d))),
      )

  pub clears : (wanted : ℕ → Bool) (n i k : ℕ) (c : Contents) (d : Behind) → d.pending ≡ Idle → i + n ≤ 8 → CodeAt w k (clear_code wanted n i)
      → (c' : Contents) × Zeroed wanted n i c c' × Reaches w n (at_with k c d) (at_with (k + length (clear_code wanted n i)) c' d)
  clears wanted zero i k c d idle few code = (c, record { zeros = λ j lt wants. absurd (omega (arith, lt)); others = λ x side. refl; memory = refl; special = refl }, subst (λ m. Reaches w 0 (at_with k c d) (at_with m c d)) (omega arith) (compose.none w (at_with k c d)))
  clears wanted (suc n) i k c d idle few code =
      let one = clears_one wanted i k c d idle (omega (arith, few)) (front w k (clear_one (wanted i) i) (clear_code wanted n (suc i)) code) in
      let k1 : ℕ = k + length (clear_one (wanted i) i) in
      let rest = clears wanted n (suc i) (k + length (clear_one (wanted i) i)) one.0 d idle (omega (arith, few)) (back w k (clear_one (wanted i) i) (clear_code wanted n (suc i)) code) in
      let len : k + length (clear_one (wanted i) i) + length (clear_code wanted n (suc i)) ≡ k + length (clear_code wanted (suc n) i) = omega (arith, length-append (clear_one (wanted i) i) (clear_code wanted n (suc i))) in (
        rest.0,
        record {
          zeros = by_number one.0 rest.0 one.1.0 rest.1;
          others = λ x side. elim side [
            | inl lt ↦ rest.1.others x (inl (omega (arith, lt))) ∙ one.1.1 x (λ e. absurd (omega (arith, e, lt)))
            | inr le ↦ rest.1.others x (inr (omega (arith, le))) ∙ one.1.1 x (λ e. absurd (omega (arith, e, le)))
          ];
          memory = rest.1.memory ∙ one.1.2;
          special = rest.1.special ∙ one.1.3;
        },
        compose.later w (1 + n) (suc n) _ _ (omega arith) (compose.joined w 1 n _ _ _ one.2 (subst (λ m. Reaches w n (at_with (k + length (clear_one (wanted i) i)) one.0 d) (at_with m rest.0 d)) len rest.2)),
      )
    where
      by_number : (b e : Contents) → (IsTrue (wanted i) → b.regs (20 + i) ≡ 0) → Zeroed wanted n (suc i) b e → (j : ℕ) → j < suc n → IsTrue (wanted (i + j)) → e.regs (20 + i + j) ≡ 0
      by_number b e here h zero lt wants =
          let at : 20 + i + 0 ≡ 20 + i = omega arith in
          let number : i + 0 ≡ i = omega arith in
          ap e.regs at ∙ h.others (20 + i) (inl (omega arith)) ∙ here (subst (λ m. IsTrue (wanted m)) number wants)
      by_number b e here h (suc j) lt wants =
          let at : 20 + i + suc j ≡ 20 + suc i + j = omega arith in
          let number : i + suc j ≡ suc i + j = omega arith in
          ap e.regs at ∙ h.zeros j (omega (arith, lt)) (subst (λ m. IsTrue (wanted m)) number wants)

  -- the return address goes to a word, where that is asked
  pub record Stored31 (low : ℕ) (calling : Bool) (b c : Contents) : Type 0 where
    pub is : calling ≡ true → c.memory low ≡ b.regs 31
    pub others : (x : ℕ) → x ≢ low → c.memory x ≡ b.memory x
    pub regs : c.regs ≡ b.regs
    pub special : c.special ≡ b.special

  pub saves_light : (calling : Bool) (low k : ℕ) (c : Contents) (d : Behind) → d.pending ≡ Idle → c.regs 29 ≡ 4 * low → low < w.words → w.words < 2 ^ 26 → w.kept low ≡ None → CodeAt w k (if calling then Sw 31 29 0 ∷ [] else [])
      → (c' : Contents) × Stored31 low calling c c' × Reaches w 1 (at_with k c d) (at_with (k + length (if calling then Sw 31 29 0 ∷ [] else [])) c' d)
  saves_light false low k c d idle at inside small kept code = (c, record { is = λ q. absurd (cc); others = λ x ne. refl; regs = refl; special = refl }, subst (λ m. Reaches w 1 (at_with k c d) (at_with m c d)) (omega arith) (compose.later w 0 1 _ _ (omega arith) (compose.none w (at_with k c d))))
  saves_light true low k c d idle at inside small kept code = (
    record c { memory = put c.memory low (c.regs 31) },
    record { is = λ q. put_same c.memory low (c.regs 31); others = λ x ne. put_other c.memory low (c.regs 31) x ne; regs = refl; special = refl },
    straight.next (Sw 31 29 0) (Writes low (c.regs 31)) k c d code.0 refl idle (omega (arith, at, inside, small), inside, kept, read_is c.regs 31 (λ q. absurd (omega (arith, q)))),
  )
