-- A value goes to a place that is found now: the end of an assignment, of a call and of `new`.
use Rattle.std.specs.Prelude.{None, Ok, Err, IsTrue}
use Rattle.std.proofs.Common.{◌≡◌, ◌≢◌, inl, [], ℕ, ◌+◌, ◌*◌, ◌<◌, ◌≤◌, Bool, true, false, Option, List, ◌∷◌, length, refl, ap, ◌∙◌, subst, arith}
use Rattle.mips_table.specs.declared.inst.Inst.TheVariants.{Sw}
use Rattle.mips_table.specs.Code.{Contents, World, reg, Behind, CodeState, at_with, RunLaws, CodeAt, put as put_word}
use Rattle.masm.specs.Laws.{RunsCompose, JumpsLead, StraightRuns}
use Rattle.c0_tree.specs.Size.{need, nodes}
use Rattle.c0_tree.specs.Tree.{CExpr, CStmts, CFunction}
use Rattle.c0_meaning.specs.Ty.{Ty, is_scalar}
use Rattle.c0_meaning.specs.Sound.{shapes}
use Rattle.c0_meaning.specs.Value.{Region, globals, heap, locals, Location, Value}
use Rattle.c0_meaning.specs.State.{Frame, write}
use Rattle.c0_meaning.specs.Numbered.{is_frame_place, IsNumberedLeft}
use Rattle.c0_meaning.specs.Operators.{faulted, stuck}
use Rattle.c0_meaning.specs.Evaluation.{Costed, costs, place_of}
use Rattle.c0_meaning.specs.World.{Cost, units, plus, Configuration, with_state, calls_ended}
use Rattle.c0_meaning.specs.Running.{Work, store}
use Rattle.c0_meaning.specs.TypedState.{LeadsFrom, Fits, store_typing}
use Rattle.c0_expr_code.specs.Code.{AddressingMode, access_code, made}
use Rattle.c0_expr_code.specs.Scope.{Scope}
use Rattle.c0_expr_runs.specs.Bases.{Bases, types_in, location_word, word_of_scalar}
use Rattle.c0_meaning.specs.TypedState.{PointsTo}
use Rattle.c0_typed.specs.Typed.{typed_of_expr}
use Rattle.c0_expr_code.specs.declared.facts.Facts.{Facts}
use Rattle.c0_expr_code.specs.Facts.{IsWithin, facts_followed, stored_in}
use Rattle.c0_expr_runs.specs.Laws.{memory_with}
use Rattle.c0_expr_runs.specs.Relation.{layout, Evaluates, Splits, ReadyWith, FactsHold, KeepsRegisters, HoldsAddress, Source, nought, its, answer as in_answer, far}
use Rattle.c0_stmt_code.specs.Behind.{stored_facts}
use Rattle.c0_runs.proofs.FactsKept.{facts_within, free_between, place_within as left_at_place}
use Rattle.c0_runs.proofs.RegionsApart.{put_same}
use Rattle.c0_runs.specs.Setup.{Setup}
use Rattle.c0_runs.specs.Ahead.{Activation, body_env, knowing, Block}
use Rattle.c0_runs.specs.Standing.{code_text, scope, bases, Waiting, FunctionRuns, ConfigurationStands}
use Rattle.c0_runs.proofs.PremisesFromBelow.{ExpressionsDo, HeldStays, TypedStays, types_for}
use Rattle.c0_expr_code.specs.Reads.{reads_to_find}
use Rattle.c0_stmt_code.specs.Live.{is_variable}
use Rattle.c0_runs.proofs.WorkAsCode.{Goes, or_left}
use Rattle.c0_runs.proofs.LiveAroundSteps.{AreLiveAtPlace, behind_place, later, live_later, grown_at, found_variable, with_live, block_with}
use Rattle.c0_runs.proofs.RunStretches.{on, away}
use Rattle.c0_runs.proofs.UnitsWithinNodes.{place_within}
use Rattle.c0_runs.proofs.MemoryAccess.{access_front, place_steps, few_steps, Wrote, writes}
use Rattle.c0_stmt_code.proofs.ShortStatements.{access_longer}
use Rattle.c0_runs.proofs.FunctionsUnderWay.{its_facts, state_of, standing_at, Exprs, ready}
use Rattle.c0_runs.proofs.ScalarStored.{in_data, stored}
use Rattle.c0_runs.proofs.StepSimulation.{GoesOn, Path, arrives, then_comes}

pub source_not_one : (r q : ℕ) → 8 ≤ r → Source r q → q ≢ 1
source_not_one r _ le nought = λ e. absurd (omega (arith, e))
source_not_one r _ le its = λ e. absurd (omega (arith, e, le))
source_not_one r _ le in_answer = λ e. absurd (omega (arith, e))
source_not_one r _ le (far h) = λ e. absurd (omega (arith, e, h))

pub keeps_low : (r : ℕ) (a b : Contents) → r < 20 → KeepsRegisters r r a b → KeepsRegisters 0 0 a b
keeps_low r a b lt h = record { memory = h.memory; special = h.special; below = λ x n m l. absurd (omega (arith, l)); above = λ x n l. h.above x (λ e. absurd (omega (arith, e, l, lt))) l }

located : (l : Location) (n : ℕ) → l ≡ record { region = locals; path = n ∷ [] } → (l.region ≡ locals) × (l.path ≡ n ∷ [])
located l n e = (ap (λ m. m.region) e, ap (λ m. m.path) e)

-- an evaluation's answer, of which it is known that it is that
pub record Answered {A : Type 0} (Q : A → Contents → Type 0) (e : Costed A) (x : A) (b : Contents) : Type 0 where
  pub holds : Q x b
  pub units : ℕ
  pub is : e ≡ costs units (Ok x)

pub answered : {A : Type 0} (w : World) (sc : Scope) (own n to : ℕ) (c : Contents) (d : Behind) (Q : A → Contents → Type 0) (e : Costed A) → Evaluates w sc own n to c d Q e → Evaluates w sc own n to c d (Answered Q e) e
answered w sc own n to c d Q (costs k (Ok x)) h = (h.0, record { holds = h.1; units = k; is = refl }, h.2)
answered w sc own n to c d Q (costs k (Err (faulted f))) h = h
answered w sc own n to c d Q (costs k (Err stuck)) h = absurd h

pub tested : {A : Type 0} (w : World) (sc : Scope) (own n : ℕ) (to : A → ℕ) (c : Contents) (d : Behind) (Q : A → Contents → Type 0) (e : Costed A) → Splits w sc own n to c d Q e → Splits w sc own n to c d (Answered Q e) e
tested w sc own n to c d Q (costs k (Ok x)) h = (h.0, record { holds = h.1; units = k; is = refl }, h.2)
tested w sc own n to c d Q (costs k (Err (faulted f))) h = h
tested w sc own n to c d Q (costs k (Err stuck)) h = absurd h

pub leads_for : {W E : Type 0} {Outer : W → Contents → Behind → Type 0} (z : Setup W E Outer) (objects : List Ty) (frames : List Frame) (f : CFunction) (region : Region) (path : List ℕ) (t : Ty)
    → LeadsFrom (shapes z.p.unit) (types_in (scope W E Outer z f) (bases W E Outer z objects frames) region) path t → LeadsFrom (shapes z.p.unit) (types_for z.p.unit objects f region) path t
leads_for z objects frames f globals path t h = h
leads_for z objects frames f heap path t h = h
leads_for z objects frames f locals path t h = h

module _ (runs : RunLaws) (compose : RunsCompose) (W E : Type 0) (Outer : W → Contents → Behind → Type 0) (z : Setup W E Outer) (jumps : JumpsLead z.w) (straight : StraightRuns z.w)
    (held : HeldStays (shapes z.p.unit)) (typing : TypedStays z.p.unit) (exprs : Exprs W E Outer z)
    (objects : List Ty) (gv hv : Value) (hw : ℕ) (g : Frame) (fs : List Frame) (world : W) (calls : List (List E)) (answer : Option Value) (c : Contents) (d : Behind) (a : Activation) (others : List Activation)
    (st : ConfigurationStands W E Outer z objects (standing_at gv hv hw (g ∷ fs) world calls answer) c d) (r : FunctionRuns W E Outer z objects c a g fs) (waits : Waiting W E Outer z objects c.memory others fs) where
  abbrev sc : Scope
  sc = scope W E Outer z a.function

  abbrev here : Configuration W E
  here = standing_at gv hv hw (g ∷ fs) world calls answer

  -- the expressions of the function that runs
  pub its_exprs : ExpressionsDo z.w (body_env (code_text W E Outer z) a.function) sc (bases W E Outer z objects (g ∷ fs)) a.live (state_of gv hv hw (g ∷ fs))
  its_exprs = let u = st.used in let o = st.room in exprs objects (state_of gv hv hw (g ∷ fs)) g fs a.function a.live refl r.is st.typed st.declared (omega (arith, u, o)) st.stack_room

  pub its_ready : (known : Facts) → FactsHold sc (bases W E Outer z objects (g ∷ fs)) known (state_of gv hv hw (g ∷ fs)) c → ReadyWith sc (bases W E Outer z objects (g ∷ fs)) a.live known (state_of gv hv hw (g ∷ fs)) c
  its_ready known facts = record { ready = ready W E Outer z objects gv hv hw g fs world calls answer c d a st r; facts = facts }

  -- what is known of it
  pub known_here : FactsHold sc (bases W E Outer z objects (g ∷ fs)) a.facts (state_of gv hv hw (g ∷ fs)) c
  known_here = its_facts W E Outer z objects gv hv hw g fs c a r

  -- a value has gone to its place: its word stands there, and register 2 is as it was
  pub record IsPlaced (p : CExpr) (v : Value) (l : Location) (b : Contents) : Type 0 where
    pub units : ℕ
    pub found : place_of p here.state ≡ costs units (Ok l)
    pub is : b.memory (location_word sc (bases W E Outer z objects (g ∷ fs)) l) ≡ word_of_scalar sc (bases W E Outer z objects (g ∷ fs)) v
    pub register : b.regs 2 ≡ c.regs 2

  -- so this is known behind it
  abbrev pub IsKnown : CExpr → Value → Facts → Type 0
  IsKnown p v known = (l : Location) (b : Contents) → IsPlaced p v l b → FactsHold sc (bases W E Outer z objects (g ∷ fs)) (stored_facts (typed_of_expr sc.env p) a.facts) (write here.state l v) b
      → FactsHold sc (bases W E Outer z objects (g ∷ fs)) known (write here.state l v) b

  -- what is known once the value stands at the place
  known_placed : (free : ℕ) (p : CExpr) (v : Value) (t : Ty) (u : ℕ) (l : Location) (c1 b : Contents) → 8 ≤ free → free < 20 → place_of p here.state ≡ costs u (Ok l)
      → LeadsFrom sc.env.structs (types_in sc (bases W E Outer z objects (g ∷ fs)) l.region) l.path t → IsTrue (is_scalar t) → (l.region ≡ locals → sc.in_registers ≡ false)
      → (is_frame_place p ≡ false → PointsTo sc.env.structs (layout sc (bases W E Outer z objects (g ∷ fs))) l.region l.path t) → KeepsRegisters free free c c1
      → Wrote compose z.w straight free (location_word sc (bases W E Outer z objects (g ∷ fs)) l) (word_of_scalar sc (bases W E Outer z objects (g ∷ fs)) v) c1 b
      → FactsHold sc (bases W E Outer z objects (g ∷ fs)) (stored_facts (typed_of_expr sc.env p) a.facts) (write here.state l v) b
  known_placed free p v t u l c1 b lo hi found leads scalar standing away keeps wrote =
      let first = its_exprs.after_place a.facts p u l c found known_here in
      let second = its_exprs.kept (facts_followed (typed_of_expr sc.env p) a.facts) here.state c c1 free free lo keeps (λ e. free_between (facts_followed (typed_of_expr sc.env p) a.facts) free (omega (arith, lo)) hi) first in
      let third = its_exprs.stored (facts_followed (typed_of_expr sc.env p) a.facts) c1 l t v (word_of_scalar sc (bases W E Outer z objects (g ∷ fs)) v) leads scalar second in
      let fourth = its_exprs.kept (stored_in l.region l.path (facts_followed (typed_of_expr sc.env p) a.facts)) (write here.state l v) (memory_with c1 (location_word sc (bases W E Outer z objects (g ∷ fs)) l) (word_of_scalar sc (bases W E Outer z objects (g ∷ fs)) v)) b free free lo
      (record { memory = wrote.memory; special = wrote.special; below = λ x n m lt. wrote.others x n m; above = λ x n le. wrote.others x (λ e. absurd (omega (arith, e, le))) n })
      (λ e. free_between (stored_in l.region l.path (facts_followed (typed_of_expr sc.env p) a.facts)) free (omega (arith, lo)) hi) third in
      facts_within sc (bases W E Outer z objects (g ∷ fs)) (stored_facts (typed_of_expr sc.env p) a.facts) (stored_in l.region l.path (facts_followed (typed_of_expr sc.env p) a.facts)) (write here.state l v) b
      (left_at_place sc.env p here.state u l (facts_followed (typed_of_expr sc.env p) a.facts) (λ e. in_frame (is_frame_place p) e (λ q. away q)) found) fourth
    where
      in_frame : (y : Bool) → l.region ≡ locals → (y ≡ false → PointsTo sc.env.structs (layout sc (bases W E Outer z objects (g ∷ fs))) l.region l.path t) → IsTrue y
      in_frame true e h = refl
      in_frame false e h = absurd (subst (λ r. PointsTo sc.env.structs (layout sc (bases W E Outer z objects (g ∷ fs))) r l.path t) e (h refl))

  -- the store: the place is found with free registers from `free` on, and the value waits in register q
  pub store_in : (n debt debt' free q k : ℕ) (cost : Cost) (h0 : Configuration W E) (s : CodeState) (p : CExpr) (t : Ty) (v : Value) (rest : CStmts) (work : List Work) (before known : Facts) → IsWithin before a.facts → IsKnown p v known
      → Path runs compose W E Outer z jumps 0 n s (at_with k c d) → n + 3 + debt' ≤ 30 * cost.own + 14 + debt → n ≤ 30 * cost.own + debt → cost.own + nodes p ≤ 2048 → nodes p ≤ 2000 → length calls ≡ calls_ended h0 → 8 ≤ free → free + need p ≤ 20 → free < 20
      → q ≢ 1 → q ≢ free → ((b : Contents) → KeepsRegisters free free c b → reg b.regs q ≡ reg c.regs q) → reg c.regs q ≡ word_of_scalar sc (bases W E Outer z objects (g ∷ fs)) v
      → Fits (shapes z.p.unit) (store_typing z.p.unit objects) t v → IsNumberedLeft (body_env (code_text W E Outer z) a.function) p t → (made sc before p).register ≡ None
      → CodeAt z.w k (access_code (λ y x. Sw q y x) free ((made sc before p).place free))
      → Block (code_text W E Outer z) a.function known (k + length (access_code (λ y x. Sw q y x) free ((made sc before p).place free))) debt' rest (λ fs to left. Goes (code_text W E Outer z) a others work fs to left)
      → AreLiveAtPlace a.live others p rest work
      → GoesOn W E Outer z debt h0 s (store cost p v rest work here)
  store_in n debt debt' free q k cost h0 s p t v rest work before known fewer becomes path high early low few en lo need_fits hi qz qr kept holds fits left stands code block live =
      let x : AddressingMode = (made sc before p).place free in
      let b : Bases = bases W E Outer z objects (g ∷ fs) in
      let rd = its_ready before (facts_within sc (bases W E Outer z objects (g ∷ fs)) before a.facts here.state c fewer known_here) in
      let runs_p = its_exprs.place before p t left few stands (λ n y. live.0 n (or_left (reads_to_find p n) _ y)) free k c d st.idle rd (access_front z.w k (λ y x. Sw q y x) free x code) lo need_fits in
      then_comes runs compose W E Outer z jumps 0 n 0 debt 1 (nodes p) cost here h0 s a.function k (k + length x.code) c d objects (Answered (HoldsAddress sc (bases W E Outer z objects (g ∷ fs)) x.base x.displacement free (is_frame_place p) t c) (place_of p here.state)) (place_of p here.state) _ path
      (omega (arith, early)) en st (place_within p here.state) (answered z.w sc 0 k (k + length x.code) c d (HoldsAddress sc (bases W E Outer z objects (g ∷ fs)) x.base x.displacement free (is_frame_place p) t c) (place_of p here.state) runs_p.1)
      (λ u l c1 least most there path1.
      let found = there.holds in
      let leads = leads_for z objects (g ∷ fs) a.function l.region l.path t found.leads in
      let room = in_data W E Outer z held typing objects gv hv hw g fs world calls answer c d a others st r waits l.region l.path t leads left.scalar found.standing in
      let at = location_word sc (bases W E Outer z objects (g ∷ fs)) l in
      let its = word_of_scalar sc (bases W E Outer z objects (g ∷ fs)) v in
      let from = room.from in
      let to = room.to in
      let stack = z.stack_fits in
      let wrote = writes compose z.w straight q x free k at its c1 d st.idle (λ e. absurd (omega (arith, e, lo))) (source_not_one free x.base lo runs_p.0) qz qr code found.is (omega (arith, to, stack)) (z.ours at (inl (from, to))) (kept c1 found.keeps ∙ holds) in
      let longer = access_longer (λ y x. Sw q y x) free x in
      let go = away runs z.w 3 (at_with (k + length x.code) c1 d) (at_with (k + length (access_code (λ y x. Sw q y x) free x)) wrote.0 d) (λ e. absurd (omega (arith, e, longer))) (compose.later z.w (place_steps x) 3 _ _ (few_steps x) wrote.2) in
      let way = on runs z.w 0 (n + (0 + 16 * u)) 1 3 s _ _ path1 go in
      let done = stored W E Outer z held typing objects gv hv hw g fs world calls answer c d a others st r waits wrote.0 t v (wrote.1.special ∙ found.keeps.special)
      (λ y ge. wrote.1.others y (λ e. absurd (omega (arith, e, ge))) (λ e. absurd (omega (arith, e, ge, hi))) ∙ found.keeps.above y (λ e. absurd (omega (arith, e, ge, hi))) ge) left.scalar fits l.region l.path leads found.standing
      (wrote.1.memory ∙ ap (λ m. put_word m at its) found.keeps.memory)
      (later a.live p) (λ n y. grown_at (is_variable p n) (a.live n) y (λ v. located l n (found_variable p here.state there.units l n there.is v))) known
      (becomes l wrote.0 (record {
        units = there.units;
        found = there.is;
        is = ap (λ m. m at) wrote.1.memory ∙ put_same c1.memory at its;
        register = wrote.1.others 2 (λ e. absurd (omega (arith, e))) (λ e. absurd (omega (arith, e, lo))) ∙ found.keeps.below 2 (λ e. absurd (omega (arith, e))) (λ e. absurd (omega (arith, e, lo))) (omega (arith, lo));
      }) (known_placed free p v t there.units l c1 wrote.0 lo hi there.is found.leads left.scalar found.standing found.away found.keeps wrote.1)) in
      arrives runs compose W E Outer z jumps (0 + 1) (n + (0 + 16 * u) + 3) debt debt' (plus cost (units u)) h0 (with_state here (write here.state l v)) s (k + length (access_code (λ y x. Sw q y x) free x)) wrote.0 d objects (knowing (with_live a (later a.live p)) known) others rest work way
      (omega (arith, low, most)) (omega (arith, high, least)) (omega (arith, en)) done.0 done.1 (block_with (code_text W E Outer z) a others (later a.live p) known (k + length (access_code (λ y x. Sw q y x) free x)) debt' rest work block)
      ((λ n y. live_later a.live p n (behind_place (reads_to_find p n) (is_variable p n) _ y) (live.0 n)), live.1))
