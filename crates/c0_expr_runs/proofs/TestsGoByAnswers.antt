-- The code of a test goes where the test's answer says.
use Rattle.std.specs.Prelude.{Result, Ok, Err}
use Rattle.std.proofs.Common.{◌≡◌, inl, inr, ℕ, ◌+◌, ◌-◌, ◌*◌, ◌%◌, ◌^◌, ◌<◌, ◌≤◌, Bool, true, false, not, cond, nat_eq, nat_lt, Some, refl, ap, ◌∙◌, subst, arith}
use Rattle.std.proofs.lemmas.Bool.{cases_Bool, ltb-true, ltb-false, cond-true, cond-false}
use Rattle.mips_table.specs.declared.inst.Inst.TheVariants.{Beq, Bne, Bltz, Bgez, Blez, Bgtz}
use Rattle.mips_table.specs.declared.inst.Inst.{Inst}
use Rattle.mips_table.specs.declared.effect.Effect.TheVariants.{Set}
use Rattle.mips_table.specs.Arith.{extended, is_negative, is_positive}
use Rattle.mips_table.specs.Effect.{branch}
use Rattle.mips_table.specs.Device.{Idle}
use Rattle.mips_table.specs.Code.{Contents, reg, Behind, World, at_with, effect_at, Reaches}
use Rattle.c0_meaning.specs.Value.{Value}
use Rattle.c0_meaning.specs.Operators.{Failure, faulted, stuck}
use Rattle.c0_meaning.specs.Evaluation.{Costed, costs, at_no_cost, paying, ◌>>=◌, truth, bool_of}
use Rattle.c0_expr_runs.proofs.CodeRuns.{Machine, joined, later, goes}
use Rattle.c0_expr_code.specs.Scope.{Scope}
use Rattle.c0_expr_runs.specs.Relation.{KeepsRegisters, Evaluates, Splits, ends, Aims}
use Rattle.c0_expr_code.specs.Test.{branch_code, negative_branch, positive_branch}
use Rattle.c0_expr_runs.proofs.SideBySide.{keeps_on, Answered}

module _ (w : World) (sc : Scope) where
  pub split_more : {A : Type 0} (m n from : ℕ) (to : A → ℕ) (c : Contents) (k : Behind) (Q : A → Contents → Type 0) (e : Costed A) → m ≤ n
      → Splits w sc m from to c k Q e → Splits w sc n from to c k Q e
  split_more m n from to c k Q (costs u (Ok x)) le h = (h.0, h.1, later w (m + 16 * u) (n + 16 * u) _ _ (omega arith) h.2)
  split_more m n from to c k Q (costs u (Err (faulted f))) le h = (h.0, h.1, later w (m + 16 * u) (n + 16 * u) _ _ (omega arith) h.2)
  split_more m n from to c k Q (costs u (Err stuck)) le h = absurd h

  pub split_paid : {A : Type 0} (u m from : ℕ) (to : A → ℕ) (c : Contents) (k : Behind) (Q : A → Contents → Type 0) (e : Costed A)
      → Splits w sc (m + 16 * u) from to c k Q e → Splits w sc m from to c k Q (paying u e)
  split_paid u m from to c k Q (costs v (Ok x)) h = (h.0, h.1, later w (m + 16 * u + 16 * v) (m + 16 * (u + v)) _ _ (omega arith) h.2)
  split_paid u m from to c k Q (costs v (Err (faulted f))) h = (h.0, h.1, later w (m + 16 * u + 16 * v) (m + 16 * (u + v)) _ _ (omega arith) h.2)
  split_paid u m from to c k Q (costs v (Err stuck)) h = absurd h

  pub split_after : {A : Type 0} (m n from mid : ℕ) (to : A → ℕ) (a b : Contents) (k : Behind) (Q : A → Contents → Type 0) (e : Costed A)
      → KeepsRegisters 0 0 a b → Reaches w m (at_with from a k) (at_with mid b k) → Splits w sc n mid to b k Q e → Splits w sc (m + n) from to a k Q e
  split_after m n from mid to a b k Q (costs u (Ok x)) i run h = (h.0, h.1, later w (m + (n + 16 * u)) (m + n + 16 * u) _ _ (omega arith) (joined w m (n + 16 * u) _ _ _ run h.2))
  split_after m n from mid to a b k Q (costs u (Err (faulted f))) i run h = (h.0, keeps_on 0 0 a b h.0 i h.1, later w (m + (n + 16 * u)) (m + n + 16 * u) _ _ (omega arith) (joined w m (n + 16 * u) _ _ _ run h.2))
  split_after m n from mid to a b k Q (costs u (Err stuck)) i run h = absurd h

  -- an evaluation that has two ends, and then another from each
  pub split_binds : {A B : Type 0} (m n from : ℕ) (mid : A → ℕ) (to : B → ℕ) (c : Contents) (k : Behind) (Q : A → Contents → Type 0) (R : B → Contents → Type 0) (e : Costed A) (f : A → Costed B) →
      Splits w sc m from mid c k Q e → ((x : A) (b : Contents) → Q x b → KeepsRegisters 0 0 c b) → ((x : A) (b : Contents) → Q x b → Splits w sc n (mid x) to b k R (f x)) → Splits w sc (m + n) from to c k R (e >>= f)
  split_binds m n from mid to c k Q R (costs u (Ok x)) f h i g =
      split_paid u (m + n) from to c k R (f x) (split_more (m + 16 * u + n) (m + n + 16 * u) from to c k R (f x) (omega arith) (split_after (m + 16 * u) n from (mid x) to c h.0 k R (f x) (i x h.0 h.1) h.2 (g x h.0 h.1)))
  split_binds m n from mid to c k Q R (costs u (Err (faulted x))) f h i g = (h.0, h.1, later w (m + 16 * u) (m + n + 16 * u) _ _ (omega arith) h.2)
  split_binds m n from mid to c k Q R (costs u (Err stuck)) f h i g = absurd h

  -- an answer, of which it is known that it is that
  pub split_answered : {A : Type 0} (m from : ℕ) (to : A → ℕ) (c : Contents) (k : Behind) (Q : A → Contents → Type 0) (e : Costed A) → Splits w sc m from to c k Q e
      → Splits w sc m from to c k (Answered w sc Q e) e
  split_answered m from to c k Q (costs u (Ok x)) h = (h.0, record { holds = h.1; units = u; is = refl }, h.2)
  split_answered m from to c k Q (costs u (Err (faulted f))) h = h
  split_answered m from to c k Q (costs u (Err stuck)) h = absurd h

  -- one end
  pub as_split : {A : Type 0} (m from to : ℕ) (c : Contents) (k : Behind) (Q : A → Contents → Type 0) (e : Costed A) → Evaluates w sc m from to c k Q e
      → Splits w sc m from (λ x. to) c k Q e
  as_split m from to c k Q (costs u (Ok x)) h = h
  as_split m from to c k Q (costs u (Err (faulted f))) h = h
  as_split m from to c k Q (costs u (Err stuck)) h = h

  pub split_says : {A : Type 0} (m from : ℕ) (to : A → ℕ) (c : Contents) (k : Behind) (Q R : A → Contents → Type 0) (e : Costed A)
      → ((x : A) (b : Contents) → Q x b → R x b) → Splits w sc m from to c k Q e → Splits w sc m from to c k R e
  split_says m from to c k Q R (costs u (Ok x)) i h = (h.0, i x h.0 h.1, h.2)
  split_says m from to c k Q R (costs u (Err (faulted f))) i h = h
  split_says m from to c k Q R (costs u (Err stuck)) i h = absurd h

  pub split_at : {A : Type 0} (m from : ℕ) (to to' : A → ℕ) (c : Contents) (k : Behind) (Q : A → Contents → Type 0) (e : Costed A)
      → ((x : A) → to x ≡ to' x) → Splits w sc m from to c k Q e → Splits w sc m from to' c k Q e
  split_at m from to to' c k Q (costs u (Ok x)) q h = (h.0, h.1, subst (λ t. Reaches w (m + 16 * u) (at_with from c k) (at_with t h.0 k)) (q x) h.2)
  split_at m from to to' c k Q (costs u (Err (faulted f))) q h = h
  split_at m from to to' c k Q (costs u (Err stuck)) q h = absurd h

  pub split_arrives : {A : Type 0} (m from : ℕ) (to : A → ℕ) (c b : Contents) (k : Behind) (Q : A → Contents → Type 0) (x : A) → Q x b
      → Reaches w m (at_with from c k) (at_with (to x) b k) → Splits w sc m from to c k Q (at_no_cost (Ok x))
  split_arrives m from to c b k Q x q run = (b, q, later w m (m + 16 * 0) _ _ (omega arith) run)

-- the bool of an evaluation after another
pub truth_paying : (u : ℕ) (e : Costed Value) → truth (paying u e) ≡ paying u (truth e)
truth_paying u (costs v (Ok x)) = of_result (bool_of x)
  where
    of_result : (r : Result Bool Failure) → costs (u + v + 0) r ≡ costs (u + (v + 0)) r
    of_result r = let e : u + v + 0 ≡ u + (v + 0) = omega arith in ap (λ n. costs n r) e
truth_paying u (costs v (Err x)) = refl

pub truth_binds : {A : Type 0} (e : Costed A) (f : A → Costed Value) → truth (e >>= f) ≡ e >>= λ x. truth (f x)
truth_binds (costs u (Ok x)) f = truth_paying u (f x)
truth_binds (costs u (Err x)) f = refl

-- a branch lands where it aims
lands : (k imm to : ℕ) → (k + 1 + imm) % 2 ^ 16 ≡ to % 2 ^ 16 → imm < 2 ^ 16 → to ≤ k + 32768 → k + 1 ≤ to + 32768 → k < 2 ^ 26
    → (4 * k + 4 + 4 * extended imm) % 2 ^ 32 ≡ 4 * to
lands k imm to same short ahead behind small = elim (cases_Bool (nat_lt imm (2 ^ 15))) [
  | inl e ↦
      let h = ltb-true imm (2 ^ 15) e in
      let v : extended imm ≡ imm = cond-true (nat_lt imm (2 ^ 15)) imm (imm + (2 ^ 32 - 2 ^ 16)) e in
      let t : to ≡ k + 1 + imm = omega (arith, same, h, ahead, behind) in
      omega (arith, v, t, small)
  | inr e ↦
      let h = ltb-false imm (2 ^ 15) e in
      let v : extended imm ≡ imm + (2 ^ 32 - 2 ^ 16) = cond-false (nat_lt imm (2 ^ 15)) imm (imm + (2 ^ 32 - 2 ^ 16)) e in
      let t : to + 65536 ≡ k + 1 + imm = omega (arith, same, h, short, ahead, behind) in
      omega (arith, v, t, small)
]

module _ (w : World) (f : Machine w) where
  branch_lands : (n k far to : ℕ) → k < w.words → n ≤ k → Aims n (k + 1) far to → (b : Bool) → branch (4 * k) far b ≡ 4 * cond b to (k + 1)
  branch_lands n k far to inside le h true =
      let a = h.ahead in
      let small = f.sound.small in
      lands k far to h.same h.short (omega (arith, a, le)) h.behind (omega (arith, inside, small))
  branch_lands n k far to inside le h false = let small = f.sound.small in omega (arith, inside, small)

  -- a branch by a test
  pub branch_ends : (s : Bool) (i : Inst) (y : Bool) (far to n k : ℕ) (b : Contents) (d : Behind) → d.pending ≡ Idle → w.code k ≡ Some i
      → effect_at i k b ≡ Set 0 0 (branch (4 * k) far (cond s y (not y))) → n ≤ k → Aims n (k + 1) far to
      → Reaches w 1 (at_with k b d) (at_with (ends s to (k + 1) y) b d)
  branch_ends true i y far to n k b d idle there e le h =
      goes w f i k (cond y to (k + 1)) b d idle there (e ∙ ap (Set 0 0) (branch_lands n k far to (f.sound.inside k _ there) le h y))
  branch_ends false i y far to n k b d idle there e le h =
      goes w f i k (cond y (k + 1) to) b d idle there (e ∙ ap (Set 0 0) (branch_lands n k far to (f.sound.inside k _ there) le h (not y) ∙ ap (λ x. 4 * x) (swapped y)))
    where
      swapped : (x : Bool) → cond (not x) to (k + 1) ≡ cond x (k + 1) to
      swapped true = refl
      swapped false = refl

  -- where two registers are equal, or where they differ
  pub branches : (s : Bool) (q t far to n k : ℕ) (b : Contents) (d : Behind) → d.pending ≡ Idle → w.code k ≡ Some (branch_code s q t far) → n ≤ k
      → Aims n (k + 1) far to → Reaches w 1 (at_with k b d) (at_with (ends s to (k + 1) (nat_eq (reg b.regs q) (reg b.regs t))) b d)
  branches true q t far to n k b d idle there le h = branch_ends true (Beq q t far) (nat_eq (reg b.regs q) (reg b.regs t)) far to n k b d idle there refl le h
  branches false q t far to n k b d idle there le h = branch_ends false (Bne q t far) (nat_eq (reg b.regs q) (reg b.regs t)) far to n k b d idle there refl le h

  -- where a word is below 0, or where it isn't; and where it is above 0, or where it isn't
  pub negative_branches : (s : Bool) (q far to n k : ℕ) (b : Contents) (d : Behind) → d.pending ≡ Idle → w.code k ≡ Some (negative_branch s q far)
      → n ≤ k → Aims n (k + 1) far to → Reaches w 1 (at_with k b d) (at_with (ends s to (k + 1) (is_negative (reg b.regs q))) b d)
  negative_branches true q far to n k b d idle there le h = branch_ends true (Bltz q far) (is_negative (reg b.regs q)) far to n k b d idle there refl le h
  negative_branches false q far to n k b d idle there le h = branch_ends false (Bgez q far) (is_negative (reg b.regs q)) far to n k b d idle there refl le h

  pub positive_branches : (s : Bool) (q far to n k : ℕ) (b : Contents) (d : Behind) → d.pending ≡ Idle → w.code k ≡ Some (positive_branch s q far)
      → n ≤ k → Aims n (k + 1) far to → Reaches w 1 (at_with k b d) (at_with (ends s to (k + 1) (is_positive (reg b.regs q))) b d)
  positive_branches true q far to n k b d idle there le h = branch_ends true (Bgtz q far) (is_positive (reg b.regs q)) far to n k b d idle there refl le h
  positive_branches false q far to n k b d idle there le h = branch_ends false (Blez q far) (is_positive (reg b.regs q)) far to n k b d idle there refl le h
