-- Evaluations and code side by side.
use Rattle.std.specs.Prelude.{Ok, Err}
use Rattle.std.proofs.Common.{◌≡◌, ◌≢◌, inl, inr, ℕ, ◌+◌, ◌-◌, ◌*◌, ◌<◌, ◌≤◌, Bool, true, false, cond, nat_eq, Some, refl, sym, ap, ◌∙◌, subst, arith, eq-eqb, ne_eqb}
use Rattle.std.proofs.lemmas.Bool.{cases_eq, cond-true, cond-false}
use Rattle.mips_table.specs.declared.inst.Inst.TheVariants.{J}
use Rattle.mips_table.specs.declared.effect.Effect.TheVariants.{Set}
use Rattle.mips_table.specs.Effect.{jump_target}
use Rattle.mips_table.specs.Device.{Idle}
use Rattle.mips_table.specs.Code.{put, put_reg, Contents, reg, with_reg, Behind, World, at_with, Reaches}
use Rattle.c0_meaning.specs.State.{C0State, variables_of}
use Rattle.c0_meaning.specs.Operators.{KernelFault, faulted, stuck}
use Rattle.c0_meaning.specs.Evaluation.{Costed, costs, at_no_cost, paying, ◌>>=◌}
use Rattle.c0_expr_runs.proofs.CodeRuns.{Machine, joined, later, goes}
use Rattle.c0_expr_code.specs.Scope.{Scope}
use Rattle.c0_expr_runs.specs.Bases.{Bases, RegionHeld, LocalsHeld}
use Rattle.c0_expr_code.specs.declared.facts.Facts.{Facts}
use Rattle.c0_expr_code.specs.Facts.{IsFreeRegister}
use Rattle.c0_expr_runs.specs.Relation.{Ready, RegistersHold, FactsHold, ReadyWith, KeepsRegisters, Evaluates, Source, nought, its, answer, far}
use Rattle.c0_meaning.specs.Sizes.{words_before}
use Rattle.c0_meaning.specs.TypedState.{types_of}

-- registers
pub same_reg : (g : ℕ → ℕ) (d v : ℕ) → d ≢ 0 → put_reg g d v d ≡ v
same_reg g d v h = ap (λ f. f d) (cond-false (nat_eq d 0) g (put g d v) (ne_eqb d 0 h)) ∙ cond-true (nat_eq d d) v (g d) (eq-eqb d d refl)

pub other_reg : (g : ℕ → ℕ) (d v x : ℕ) → x ≢ d → put_reg g d v x ≡ g x
other_reg g d v x h = elim (cases_eq d 0) [
  | inl e ↦ ap (λ f. f x) (cond-true (nat_eq d 0) g (put g d v) (eq-eqb d 0 e))
  | inr ne ↦ ap (λ f. f x) (cond-false (nat_eq d 0) g (put g d v) (ne_eqb d 0 ne)) ∙ cond-false (nat_eq x d) v (g x) (ne_eqb x d h)
]

pub same_read : (g : ℕ → ℕ) (d v : ℕ) → d ≢ 0 → reg (put_reg g d v) d ≡ v
same_read g d v h = cond-false (nat_eq d 0) 0 (put_reg g d v d) (ne_eqb d 0 h) ∙ same_reg g d v h

pub like_read : (g f : ℕ → ℕ) (x : ℕ) → g x ≡ f x → reg g x ≡ reg f x
like_read g f x e = ap (λ v. cond (nat_eq x 0) 0 v) e

pub other_read : (g : ℕ → ℕ) (d v x : ℕ) → x ≢ d → reg (put_reg g d v) x ≡ reg g x
other_read g d v x h = like_read (put_reg g d v) g x (other_reg g d v x h)

-- what is kept
pub keeps_all : (r d : ℕ) (c : Contents) → KeepsRegisters r d c c
keeps_all r d c = record { memory = refl; special = refl; below = λ x a b l. refl; above = λ x a l. refl }

pub keeps_on : (r d : ℕ) (a b c : Contents) → KeepsRegisters r d a b → KeepsRegisters r d b c → KeepsRegisters r d a c
keeps_on r d a b c h g = record { memory = g.memory ∙ h.memory; special = g.special ∙ h.special; below = λ x n m l. g.below x n m l ∙ h.below x n m l; above = λ x n l. g.above x n l ∙ h.above x n l }

pub keeps_in : (r q d : ℕ) (a b : Contents) → r ≤ q → q < 20 → KeepsRegisters q q a b → KeepsRegisters r d a b
keeps_in r q d a b le lt h = record { memory = h.memory; special = h.special; below = λ x n m l. h.below x n (λ e. absurd (omega (arith, e))) (omega arith); above = λ x n l. h.above x (λ e. absurd (omega (arith, e))) l }

pub keeps_put : (r d v : ℕ) (c : Contents) → KeepsRegisters r d c (with_reg c d v)
keeps_put r d v c = record { memory = refl; special = refl; below = λ x n m l. other_reg c.regs d v x m; above = λ x n l. other_reg c.regs d v x n }

pub keeps_one : (r d v : ℕ) (c : Contents) → KeepsRegisters r d c (with_reg c 1 v)
keeps_one r d v c = record { memory = refl; special = refl; below = λ x n m l. other_reg c.regs 1 v x n; above = λ x n l. other_reg c.regs 1 v x (λ e. absurd (omega (arith, e))) }

pub keeps_low : (r d : ℕ) (a b : Contents) → d < 20 → KeepsRegisters r d a b → KeepsRegisters 0 0 a b
keeps_low r d a b lt h = record { memory = h.memory; special = h.special; below = λ x n m l. absurd (omega (arith, l)); above = λ x n l. h.above x (λ e. absurd (omega (arith, e))) l }

pub ready_on : (sc : Scope) (p : Bases) (live : ℕ → Bool) (s : C0State) (a b : Contents) → KeepsRegisters 0 0 a b → Ready sc p live s a → Ready sc p live s b
ready_on sc p live s a b h g = record {
  globals_at = h.above 28 (omega arith) (omega arith) ∙ g.globals_at;
  frame_at = λ e. h.above 29 (omega arith) (omega arith) ∙ g.frame_at e;
  global_values = subst (λ m. RegionHeld sc p m p.globals (types_of sc.env.globals) s.global_values) (sym h.memory) g.global_values;
  heap_values = subst (λ m. RegionHeld sc p m p.heap p.objects s.heap_values) (sym h.memory) g.heap_values;
  local_values = by_form sc.in_registers g.local_values;
}
  where
    by_form : (f : Bool) → LocalsHeld sc p live (cond f a.regs a.memory) (cond f 20 (p.frame_end - sc.frame + 3)) (types_of sc.env.locals) (variables_of s.frames) → LocalsHeld sc p live (cond f b.regs b.memory) (cond f 20 (p.frame_end - sc.frame + 3)) (types_of sc.env.locals) (variables_of s.frames)
    by_form true v = record {
      whole = v.whole;
      held = v.held;
      same = λ n t there is_live k less. h.above (20 + words_before sc.env.structs (types_of sc.env.locals) n + k) (λ e. absurd (omega (arith, e))) (omega arith) ∙ v.same n t there is_live k less;
    }
    by_form false v = subst (λ m. LocalsHeld sc p live m (p.frame_end - sc.frame + 3) (types_of sc.env.locals) (variables_of s.frames)) (sym h.memory) v

-- what is known holds on where registers are kept, and none goes that has a variable's word
pub facts_on : (sc : Scope) (p : Bases) (fs : Facts) (s : C0State) (a b : Contents) (r d : ℕ) → 8 ≤ r → KeepsRegisters r d a b
    → (sc.in_registers ≡ false → IsFreeRegister fs d) → FactsHold sc p fs s a → FactsHold sc p fs s b
facts_on sc p fs s a b r d le h free g = record { registers = λ frame. kept (free frame) (g.registers frame); sure = g.sure }
  where
    word : (x : ℕ) → b.memory x ≡ a.memory x
    word x = ap (λ (m : ℕ → ℕ). m x) h.memory

    kept : IsFreeRegister fs d → RegistersHold sc p fs a → RegistersHold sc p fs b
    kept free g = record {
      params = λ n holds t there scalar. h.above (20 + n) (λ e. free.params n holds (sym e)) (omega arith) ∙ g.params n holds t there scalar ∙ sym (word _);
      answer = λ n holds t there scalar. h.below 2 (λ e. absurd (omega (arith, e))) (λ e. free.answer n holds (sym e)) (omega (arith, le)) ∙ g.answer n holds t there scalar ∙ sym (word _);
    }

-- so it does where a register of expressions is written
pub free_low : (fs : Facts) (r : ℕ) → 8 ≤ r → r < 20 → IsFreeRegister fs r
free_low fs r le lt = record { params = λ n holds e. absurd (omega (arith, e, lt)); answer = λ n holds e. absurd (omega (arith, e, le)) }

pub with_on : (sc : Scope) (p : Bases) (live : ℕ → Bool) (fs : Facts) (s : C0State) (a b : Contents) (r : ℕ) → 8 ≤ r → r < 20 → KeepsRegisters r r a b
    → ReadyWith sc p live fs s a → ReadyWith sc p live fs s b
with_on sc p live fs s a b r le lt h g = record {
  ready = ready_on sc p live s a b (keeps_low r r a b lt h) g.ready;
  facts = facts_on sc p fs s a b r r le h (λ frame. free_low fs r le lt) g.facts;
}

-- sources
pub source_other : (r q : ℕ) → 8 ≤ r → Source r q → q ≢ 1
source_other r _ le nought = λ e. absurd (omega (arith, e))
source_other r _ le its = λ e. absurd (omega (arith, e))
source_other r _ le answer = λ e. absurd (omega (arith, e))
source_other r _ le (far h) = λ e. absurd (omega (arith, e, h))

pub source_kept : (r q : ℕ) (a b : Contents) → 8 ≤ r → r < 19 → Source r q → KeepsRegisters (r + 1) (r + 1) a b → reg b.regs q ≡ reg a.regs q
source_kept r _ a b le lt nought h = refl
source_kept r _ a b le lt its h = like_read b.regs a.regs r (h.below r (λ e. absurd (omega (arith, e))) (λ e. absurd (omega (arith, e))) (omega arith))
source_kept r _ a b le lt answer h = like_read b.regs a.regs 2 (h.below 2 (λ e. absurd (omega (arith, e))) (λ e. absurd (omega (arith, e, le))) (omega (arith, le)))
source_kept r q a b le lt (far g) h = like_read b.regs a.regs q (h.above q (λ e. absurd (omega (arith, e, g))) g)

module _ (w : World) (sc : Scope) where
  pub more : {A : Type 0} (m n from to : ℕ) (c : Contents) (k : Behind) (Q : A → Contents → Type 0) (e : Costed A) → m ≤ n
      → Evaluates w sc m from to c k Q e → Evaluates w sc n from to c k Q e
  more m n from to c k Q (costs u (Ok x)) le h = (h.0, h.1, later w (m + 16 * u) (n + 16 * u) _ _ (omega arith) h.2)
  more m n from to c k Q (costs u (Err (faulted f))) le h = (h.0, h.1, later w (m + 16 * u) (n + 16 * u) _ _ (omega arith) h.2)
  more m n from to c k Q (costs u (Err stuck)) le h = absurd h

  pub paid : {A : Type 0} (u m from to : ℕ) (c : Contents) (k : Behind) (Q : A → Contents → Type 0) (e : Costed A)
      → Evaluates w sc (m + 16 * u) from to c k Q e → Evaluates w sc m from to c k Q (paying u e)
  paid u m from to c k Q (costs v (Ok x)) h = (h.0, h.1, later w (m + 16 * u + 16 * v) (m + 16 * (u + v)) _ _ (omega arith) h.2)
  paid u m from to c k Q (costs v (Err (faulted f))) h = (h.0, h.1, later w (m + 16 * u + 16 * v) (m + 16 * (u + v)) _ _ (omega arith) h.2)
  paid u m from to c k Q (costs v (Err stuck)) h = absurd h

  -- a node pays for its own steps by its unit
  pub node : {A : Type 0} (m from to : ℕ) (c : Contents) (k : Behind) (Q : A → Contents → Type 0) (e : Costed A) → m ≤ 16
      → Evaluates w sc m from to c k Q e → Evaluates w sc 0 from to c k Q (paying 1 e)
  node m from to c k Q e le h = paid 1 0 from to c k Q e (more m (0 + 16 * 1) from to c k Q e (omega arith) h)

  -- steps before an evaluation
  pub after : {A : Type 0} (m n from mid to : ℕ) (a b : Contents) (k : Behind) (Q : A → Contents → Type 0) (e : Costed A) → KeepsRegisters 0 0 a b
      → Reaches w m (at_with from a k) (at_with mid b k) → Evaluates w sc n mid to b k Q e → Evaluates w sc (m + n) from to a k Q e
  after m n from mid to a b k Q (costs u (Ok x)) i run h = (h.0, h.1, later w (m + (n + 16 * u)) (m + n + 16 * u) _ _ (omega arith) (joined w m (n + 16 * u) _ _ _ run h.2))
  after m n from mid to a b k Q (costs u (Err (faulted f))) i run h = (h.0, keeps_on 0 0 a b h.0 i h.1, later w (m + (n + 16 * u)) (m + n + 16 * u) _ _ (omega arith) (joined w m (n + 16 * u) _ _ _ run h.2))
  after m n from mid to a b k Q (costs u (Err stuck)) i run h = absurd h

  -- an evaluation's answer, of which it is known that it is that
  pub record Answered {A : Type 0} (Q : A → Contents → Type 0) (e : Costed A) (x : A) (b : Contents) : Type 0 where
    pub holds : Q x b
    pub units : ℕ
    pub is : e ≡ costs units (Ok x)

  pub answered : {A : Type 0} (m from to : ℕ) (c : Contents) (k : Behind) (Q : A → Contents → Type 0) (e : Costed A) → Evaluates w sc m from to c k Q e
      → Evaluates w sc m from to c k (Answered Q e) e
  answered m from to c k Q (costs u (Ok x)) h = (h.0, record { holds = h.1; units = u; is = refl }, h.2)
  answered m from to c k Q (costs u (Err (faulted f))) h = h
  answered m from to c k Q (costs u (Err stuck)) h = absurd h

  -- one evaluation, and then another
  pub binds : {A B : Type 0} (m n from mid to : ℕ) (c : Contents) (k : Behind) (Q : A → Contents → Type 0) (R : B → Contents → Type 0) (e : Costed A) (f : A → Costed B) →
      Evaluates w sc m from mid c k Q e → ((x : A) (b : Contents) → Q x b → KeepsRegisters 0 0 c b) → ((x : A) (b : Contents) → Q x b → Evaluates w sc n mid to b k R (f x)) → Evaluates w sc (m + n) from to c k R (e >>= f)
  binds m n from mid to c k Q R (costs u (Ok x)) f h i g =
      paid u (m + n) from to c k R (f x) (more (m + 16 * u + n) (m + n + 16 * u) from to c k R (f x) (omega arith) (after (m + 16 * u) n from mid to c h.0 k R (f x) (i x h.0 h.1) h.2 (g x h.0 h.1)))
  binds m n from mid to c k Q R (costs u (Err (faulted x))) f h i g = (h.0, h.1, later w (m + 16 * u) (m + n + 16 * u) _ _ (omega arith) h.2)
  binds m n from mid to c k Q R (costs u (Err stuck)) f h i g = absurd h

  -- what an evaluation comes to may be said in other words, and its end be named otherwise
  pub says : {A : Type 0} (m from to : ℕ) (c : Contents) (k : Behind) (Q R : A → Contents → Type 0) (e : Costed A)
      → ((x : A) (b : Contents) → Q x b → R x b) → Evaluates w sc m from to c k Q e → Evaluates w sc m from to c k R e
  says m from to c k Q R (costs u (Ok x)) i h = (h.0, i x h.0 h.1, h.2)
  says m from to c k Q R (costs u (Err (faulted f))) i h = h
  says m from to c k Q R (costs u (Err stuck)) i h = absurd h

  -- steps behind an evaluation
  pub onward : {A : Type 0} (m n from mid to : ℕ) (c : Contents) (k : Behind) (Q R : A → Contents → Type 0) (e : Costed A)
      → Evaluates w sc m from mid c k Q e → ((x : A) (b : Contents) → Q x b → (a : Contents) × R x a × Reaches w n (at_with mid b k) (at_with to a k))
      → Evaluates w sc (m + n) from to c k R e
  onward m n from mid to c k Q R (costs u (Ok x)) h g =
      let r = g x h.0 h.1 in
      (r.0, r.1, later w (m + 16 * u + n) (m + n + 16 * u) _ _ (omega arith) (joined w (m + 16 * u) n _ _ _ h.2 r.2))
  onward m n from mid to c k Q R (costs u (Err (faulted f))) h g = (h.0, h.1, later w (m + 16 * u) (m + n + 16 * u) _ _ (omega arith) h.2)
  onward m n from mid to c k Q R (costs u (Err stuck)) h g = absurd h

  pub ends_at : {A : Type 0} (m from to to' : ℕ) (c : Contents) (k : Behind) (Q : A → Contents → Type 0) (e : Costed A) → to ≡ to'
      → Evaluates w sc m from to c k Q e → Evaluates w sc m from to' c k Q e
  ends_at m from to to' c k Q e q h = subst (λ t. Evaluates w sc m from t c k Q e) q h

  pub arrives : {A : Type 0} (m from to : ℕ) (c b : Contents) (k : Behind) (Q : A → Contents → Type 0) (x : A) → Q x b
      → Reaches w m (at_with from c k) (at_with to b k) → Evaluates w sc m from to c k Q (at_no_cost (Ok x))
  arrives m from to c b k Q x q run = (b, q, later w m (m + 16 * 0) _ _ (omega arith) run)

  pub faults : {A : Type 0} (m from to : ℕ) (c b : Contents) (k : Behind) (Q : A → Contents → Type 0) (f : KernelFault) → KeepsRegisters 0 0 c b
      → Reaches w m (at_with from c k) (at_with (sc.exit f) b k) → Evaluates w sc m from to c k Q (at_no_cost (Err (faulted f)))
  faults m from to c b k Q f q run = (b, q, later w m (m + 16 * 0) _ _ (omega arith) run)

module _ (w : World) (f : Machine w) where
  -- a jump
  pub jumps : (n to : ℕ) (c : Contents) (k : Behind) → k.pending ≡ Idle → w.code n ≡ Some (J to) → Reaches w 1 (at_with n c k) (at_with to c k)
  jumps n to c k idle at =
      let lt = f.sound.inside n (J to) at in
      let small = f.sound.small in
      let e : jump_target (4 * n) to ≡ 4 * to = omega arith in
      goes w f (J to) n to c k idle at (ap (Set 0 0) e)
