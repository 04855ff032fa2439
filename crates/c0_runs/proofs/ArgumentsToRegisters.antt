-- Arguments: each value goes to its register, from left to right.
use Rattle.std.specs.Prelude.{Ok, Err, if◌then◌else◌, map}
use Rattle.std.proofs.Common.{◌≡◌, ℕ, suc, ◌+◌, ◌-◌, ◌*◌, ◌<◌, ◌≤◌, Bool, true, false, List, [], ◌∷◌, length, refl, sym, ap, ◌∙◌, subst, arith, length-append}
use Rattle.mips_table.specs.Device.{Idle}
use Rattle.mips_table.specs.Code.{Contents, Behind, World, at_with, Reaches, CodeAt}
use Rattle.masm.specs.Laws.{RunsCompose}
use Rattle.c0_tree.specs.Size.{args_need, args_nodes}
use Rattle.c0_tree.specs.Tree.{CExpr}
use Rattle.c0_meaning.specs.Env.{Env}
use Rattle.c0_meaning.specs.Ty.{Ty}
use Rattle.c0_meaning.specs.Value.{Value, Values, part}
use Rattle.c0_meaning.specs.State.{C0State, variables_of}
use Rattle.c0_meaning.specs.Numbered.{IsNumberedGiven, AreNumberedGiven, more}
use Rattle.c0_meaning.specs.Operators.{faulted, stuck}
use Rattle.c0_meaning.specs.Evaluation.{Costed, costs, at_no_cost, paying, ◌>>=◌, value_of, values_of}
use Rattle.c0_meaning.specs.TypedState.{types_of, AllFit}
use Rattle.c0_expr_code.specs.Scope.{Scope}
use Rattle.c0_expr_code.specs.Code.{register_of_variable, value_code}
use Rattle.c0_expr_runs.specs.Bases.{Bases, RegionHeld, LocalsHeld}
use Rattle.c0_expr_code.specs.Reads.{reads, Covers}
use Rattle.c0_stmt_code.specs.Live.{any_reads}
use Rattle.c0_typed.specs.Typed.{typed_of_expr}
use Rattle.c0_expr_code.specs.declared.facts.Facts.{Facts}
use Rattle.c0_expr_code.specs.Facts.{IsFreeRegister, facts_followed, overwritten}
use Rattle.c0_expr_runs.specs.Relation.{layout, Ready, ReadyWith, FactsHold, KeepsRegisters, Evaluates, HoldsValue}
use Rattle.c0_stmt_code.specs.Behind.{all_followed}
use Rattle.c0_runs.proofs.FactsBehind.{overwritten_within}
use Rattle.c0_runs.proofs.FactsKept.{facts_within, others_free}
use Rattle.c0_stmt_code.specs.Code.{args_code}
use Rattle.c0_runs.specs.Standing.{AreIn}
use Rattle.c0_runs.proofs.PremisesFromBelow.{ExpressionsDo}
use Rattle.c0_stmt_code.proofs.PremisesOfFunctions.{AllScalar}
use Rattle.c0_runs.proofs.WorkAsCode.{or_left, or_right, front, back}
use Rattle.c0_runs.proofs.MemoryAccess.{read_is}

-- memory and the registers from 28 on are as they were
pub record Soft (c c' : Contents) : Type 0 where
  pub memory : c'.memory ≡ c.memory
  pub special : c'.special ≡ c.special
  pub high : (x : ℕ) → 28 ≤ x → c'.regs x ≡ c.regs x

pub soft_on : (a b c : Contents) → Soft a b → Soft b c → Soft a c
soft_on a b c h g = record { memory = g.memory ∙ h.memory; special = g.special ∙ h.special; high = λ x l. g.high x l ∙ h.high x l }

-- an evaluation whose code may leave something in the registers of arguments
abbrev pub SoftComes : {A : Type 0} → World → Scope → (n to : ℕ) → Contents → Behind → (A → Contents → Type 0) → Costed A → Type 0
SoftComes w sc n to c d Q (costs k (Ok x)) = (c' : Contents) × Q x c' × Reaches w (16 * k) (at_with n c d) (at_with to c' d)
SoftComes w sc n to c d Q (costs k (Err (faulted f))) = (c' : Contents) × Soft c c' × Reaches w (16 * k) (at_with n c d) (at_with (sc.exit f) c' d)
SoftComes w sc n to c d Q (costs k (Err stuck)) = ⊥

module _ (compose : RunsCompose) (w : World) (sc : Scope) where
  -- one evaluation, and then another
  pub soft_binds : {A B : Type 0} (n mid to : ℕ) (c : Contents) (d : Behind) (Q : A → Contents → Type 0) (R : B → Contents → Type 0) (e : Costed A) (f : A → Costed B) → Evaluates w sc 0 n mid c d Q e → ((b : Contents) → KeepsRegisters 0 0 c b → Soft c b)
      → ((x : A) (b : Contents) → Q x b → Soft c b × SoftComes w sc mid to b d R (f x)) → SoftComes w sc n to c d R (e >>= f)
  soft_binds {B = B} n mid to c d Q R (costs k (Ok x)) f h soft g = let t = g x h.0 h.1 in join (f x) t.0 t.1 h.2
    where
      join : (e : Costed B) → Soft c h.0 → SoftComes w sc mid to h.0 d R e → Reaches w (0 + 16 * k) (at_with n c d) (at_with mid h.0 d) → SoftComes w sc n to c d R (paying k e)
      join (costs u (Ok y)) s t run = (t.0, t.1, compose.later w (0 + 16 * k + 16 * u) (16 * (k + u)) _ _ (omega arith) (compose.joined w (0 + 16 * k) (16 * u) _ _ _ run t.2))
      join (costs u (Err (faulted y))) s t run = (t.0, soft_on c h.0 t.0 s t.1, compose.later w (0 + 16 * k + 16 * u) (16 * (k + u)) _ _ (omega arith) (compose.joined w (0 + 16 * k) (16 * u) _ _ _ run t.2))
      join (costs u (Err stuck)) s t run = absurd t
  soft_binds n mid to c d Q R (costs k (Err (faulted x))) f h soft g = (h.0, soft h.0 h.1, compose.later w (0 + 16 * k) (16 * k) _ _ (omega arith) h.2)
  soft_binds n mid to c d Q R (costs k (Err stuck)) f h soft g = absurd h

  -- what is behind an evaluation
  pub soft_maps : {A B : Type 0} (n to : ℕ) (c : Contents) (d : Behind) (Q : A → Contents → Type 0) (R : B → Contents → Type 0) (e : Costed A) (f : A → B) → SoftComes w sc n to c d Q e → ((x : A) (b : Contents) → Q x b → R (f x) b) → SoftComes w sc n to c d R (e >>= λ x. at_no_cost (Ok (f x)))
  soft_maps n to c d Q R (costs k (Ok x)) f h g = (h.0, g x h.0 h.1, compose.later w (16 * k) (16 * (k + 0)) _ _ (omega arith) h.2)
  soft_maps n to c d Q R (costs k (Err (faulted x))) f h g = h
  soft_maps n to c d Q R (costs k (Err stuck)) f h g = absurd h

  -- the state stands ready while memory and the registers from 28 on are as they were, where variables stand in memory
  pub ready_soft : (p : Bases) (live : ℕ → Bool) (s : C0State) (a b : Contents) → sc.in_registers ≡ false → Soft a b → Ready sc p live s a → Ready sc p live s b
  ready_soft p live s a b form h g = record {
    globals_at = h.high 28 (omega arith) ∙ g.globals_at;
    frame_at = λ e. h.high 29 (omega arith) ∙ g.frame_at e;
    global_values = subst (λ m. RegionHeld sc p m p.globals (types_of sc.env.globals) s.global_values) (sym h.memory) g.global_values;
    heap_values = subst (λ m. RegionHeld sc p m p.heap p.objects s.heap_values) (sym h.memory) g.heap_values;
    local_values = by_form sc.in_registers form g.local_values;
  }
    where
      by_form : (f : Bool) → f ≡ false → LocalsHeld sc p live (if f then a.regs else a.memory) (if f then 20 else (p.frame_end - sc.frame) + 3) (types_of sc.env.locals) (variables_of s.frames) → LocalsHeld sc p live (if f then b.regs else b.memory) (if f then 20 else (p.frame_end - sc.frame) + 3) (types_of sc.env.locals) (variables_of s.frames)
      by_form true e v = absurd (cc)
      by_form false e v = subst (λ m. LocalsHeld sc p live m ((p.frame_end - sc.frame) + 3) (types_of sc.env.locals) (variables_of s.frames)) (sym h.memory) v

  -- the arguments from the one of number i on are in their registers
  pub record InRegisters (p : Bases) (i : ℕ) (ts : List Ty) (c : Contents) (vs : Values) (c' : Contents) : Type 0 where
    pub are : AreIn sc p c'.regs (20 + i) vs
    pub fits : AllFit sc.env.structs (layout sc p) ts vs
    pub soft : Soft c c'
    pub before : (x : ℕ) → 20 ≤ x → x < 20 + i → c'.regs x ≡ c.regs x

  pub args_run : (env : Env) (p : Bases) (live : ℕ → Bool) (s : C0State) (d : Behind) → ExpressionsDo w env sc p live s → sc.in_registers ≡ false → d.pending ≡ Idle → (known : Facts) (es : List CExpr) (ts : List Ty) (i n : ℕ) (c : Contents) → ReadyWith sc p live known s c → Covers live (any_reads es) → AreNumberedGiven env es ts → AllScalar ts → args_need es ≤ 12 → args_nodes es ≤ 2000 → i + length es ≤ 8
      → CodeAt w n (args_code sc known es i) → SoftComes w sc n (n + length (args_code sc known es i)) c d (InRegisters p i ts c) (values_of es s)
  args_run env p live s d ex form idle known [] [] i n c ready cover given scalar deep few room code = (c, record { are = tt; fits = tt; soft = record { memory = refl; special = refl; high = λ x l. refl }; before = λ x l m. refl }, subst (λ y. Reaches w 0 (at_with n c d) (at_with y c d)) (omega arith) (compose.none w (at_with n c d)))
  args_run env p live s d ex form idle known (e ∷ es) (t ∷ ts) i n c ready cover given scalar deep few room code =
      let g = parts given in
      let first : register_of_variable i ≡ 20 + i = omega (arith, room) in
      let mid : ℕ = n + length (value_code sc known e (register_of_variable i) 8) in
      let run = ex.value known e t g.0 scalar.0 (omega (arith, few)) (λ m q. cover m (or_left (reads e m) (any_reads es m) q)) (register_of_variable i) 8 n c d idle ready (front w n (value_code sc known e (register_of_variable i) 8) (args_code sc (overwritten known i) es (suc i)) code) (omega arith) (omega (arith, deep)) (λ q. absurd (omega (arith, q, first))) (λ q. absurd (omega (arith, q, first))) in
      let len : mid + length (args_code sc (overwritten known i) es (suc i)) ≡ n + length (args_code sc known (e ∷ es) i) = omega (arith, length-append (value_code sc known e (register_of_variable i) 8) (args_code sc (overwritten known i) es (suc i))) in
      soft_binds n mid (n + length (args_code sc known (e ∷ es) i)) c d (HoldsValue sc p (register_of_variable i) 8 (register_of_variable i) t c) (InRegisters p i (t ∷ ts) c) (value_of e s) (λ v. values_of es s >>= λ vs. at_no_cost (Ok (part v vs))) run
      (λ b k. record { memory = k.memory; special = k.special; high = λ x l. k.above x (λ q. absurd (omega (arith, q, l))) (omega (arith, l)) })
      (λ v b gives.
      let soft : Soft c b = record { memory = gives.keeps.memory; special = gives.keeps.special; high = λ x l. gives.keeps.above x (λ q. absurd (omega (arith, q, l, first, room))) (omega (arith, l)) } in
      let facts = ex.kept (overwritten known i) s c b 8 (register_of_variable i) (omega arith) gives.keeps (λ q. subst (λ y. IsFreeRegister (overwritten known i) y) (sym first) (others_free known i)) (facts_within sc p (overwritten known i) known s c (overwritten_within known i) ready.facts) in
      let rest = args_run env p live s d ex form idle (overwritten known i) es ts (suc i) mid b (record { ready = ready_soft p live s c b form soft ready.ready; facts = facts }) (λ m q. cover m (or_right (reads e m) (any_reads es m) q)) g.1 scalar.1 (omega (arith, deep)) (omega (arith, few)) (omega (arith, room)) (back w n (value_code sc known e (register_of_variable i) 8) (args_code sc (overwritten known i) es (suc i)) code) in (
        soft,
        soft_maps mid (n + length (args_code sc known (e ∷ es) i)) b d (InRegisters p (suc i) ts b) (InRegisters p i (t ∷ ts) c) (values_of es s) (λ vs. part v vs) (subst (λ y. SoftComes w sc mid y b d (InRegisters p (suc i) ts b) (values_of es s)) len rest)
            (λ vs b2 h. record {
              are = (h.before (20 + i) (omega arith) (omega arith) ∙ ap b.regs (sym first) ∙ sym (read_is b.regs (register_of_variable i) (λ q. absurd (omega (arith, q, first)))) ∙ gives.is, subst (λ y. AreIn sc p b2.regs y vs) (omega arith) h.are);
              fits = (gives.fits, h.fits);
              soft = soft_on c b b2 soft h.soft;
              before = λ x l m. h.before x l (omega (arith, m)) ∙ gives.keeps.above x (λ q. absurd (omega (arith, q, m, first))) (omega (arith, l));
            }),
      ))
    where
      parts : AreNumberedGiven env (e ∷ es) (t ∷ ts) → IsNumberedGiven env e t × AreNumberedGiven env es ts
      parts (more a b) = (a, b)
  args_run env p live s d ex form idle known [] (t ∷ ts) i n c ready cover given scalar deep few room code = absurd (no_more given)
    where
      no_more : AreNumberedGiven env [] (t ∷ ts) → ⊥
      no_more h = elim h [ ]
  args_run env p live s d ex form idle known (e ∷ es) [] i n c ready cover given scalar deep few room code = absurd (no_more given)
    where
      no_more : AreNumberedGiven env (e ∷ es) [] → ⊥
      no_more h = elim h [ ]

  -- what is known once arguments have their values
  pub known_after : (env : Env) (p : Bases) (live : ℕ → Bool) (s : C0State) → ExpressionsDo w env sc p live s → (known : Facts) (es : List CExpr) (u : ℕ) (vs : Values) (c : Contents) → values_of es s ≡ costs u (Ok vs) → FactsHold sc p known s c → FactsHold sc p (all_followed (map (typed_of_expr sc.env) es) known) s c
  known_after env p live s ex known [] u vs c is h = h
  known_after env p live s ex known (e ∷ es) u vs c is h =
      let y = values_in (value_of e s) (values_of es s) u vs is in
      known_after env p live s ex (facts_followed (typed_of_expr sc.env e) known) es y.2 y.3 c y.5 (ex.after_value known e y.0 y.1 c y.4 h)
    where
      values_in : (r : Costed Value) (q : Costed Values) (u : ℕ) (vs : Values) → (r >>= λ v. q >>= λ ws. at_no_cost (Ok (part v ws))) ≡ costs u (Ok vs) → (k : ℕ) × (v : Value) × (j : ℕ) × (ws : Values) × (r ≡ costs k (Ok v)) × (q ≡ costs j (Ok ws))
      values_in (costs k (Ok v)) (costs j (Ok ws)) u vs e = (k, v, j, ws, refl, refl)
      values_in (costs k (Ok v)) (costs j (Err x)) u vs e = absurd (cc)
      values_in (costs k (Err x)) q u vs e = absurd (cc)
