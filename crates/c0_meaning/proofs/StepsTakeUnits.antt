-- Each step takes a unit at least, and does to the world what one call of a primitive does, or nothing. So a run stays within its units,
-- ends at its cost, and never wants for steps; more units extend its calls, and primitives alone change the world.
use Rattle.std.proofs.Common.{◌≡◌, ℕ, zero, suc, ◌+◌, ◌≤◌, ◌<◌, List, [], ◌∷◌, ◌++◌, length, map, append_assoc, Bool, true, false, nat_lt, refl, sym, ap, ◌∙◌, subst, arith}
use Rattle.std.specs.Prelude.{ok_or, if◌then◌else◌, Ok, Err, slice_get}
use Rattle.std.proofs.lemmas.List.{append-nil}
use Rattle.std.proofs.lemmas.Bool.{ltb-true, ltb-false, le-ltb}
use Rattle.c0_tree.specs.declared.tree.Kind.{Kind}
use Rattle.c0_tree.specs.declared.tree.Kind.TheVariants.{Unresolved, Struct, Field, Global, Local, Function, Primitive}
use Rattle.c0_tree.specs.Tree.{CExpr, num, true_, false_, null, var, field, arrow, index, deref, address, unary, binary, assign, call, new, choice, loop, CStmts, CBody, code, asm}
use Rattle.c0_meaning.specs.Ty.{ty_of}
use Rattle.c0_meaning.specs.Limits.{words_of_frame}
use Rattle.c0_meaning.specs.Sound.{shapes}
use Rattle.c0_meaning.specs.Value.{Value, Values}
use Rattle.c0_meaning.specs.State.{C0State, stack_words}
use Rattle.c0_meaning.specs.Words.{words, all_words}
use Rattle.c0_meaning.specs.Env.{typed_of}
use Rattle.c0_meaning.specs.Operators.{stuck}
use Rattle.c0_meaning.specs.Evaluation.{Costed, costs, at_no_cost, paying, truth, value_of, values_of, place_of}
use Rattle.c0_meaning.specs.World.{PrimitiveMeaning, Setting, Cost, units, total, plus, Configuration, after_call, call_cost}
use Rattle.c0_meaning.specs.PrimitiveCalls.{PrimitiveCall, world_after, entries_made, cost_made, AreMadeBy}
use Rattle.c0_meaning.specs.Running.{Target, into, outward, Work, act_on, finish, again, leave, begin, Step, Go, Stop, then_go, store, deliver, enter, call_function, call_with, work_step}
use Rattle.c0_meaning.specs.Execution.{Outcome, Failed, NotYet, then_run, execute, run_within}
use Rattle.c0_meaning.specs.RunLaws.{IsOver, PrimitivesAlone, StaysWithin, StepsAreEnough, CallsExtend, EndsAtItsCost, cost_of, stands_at}
use Rattle.c0_meaning.proofs.RunsWithinUnits.{more_units}

-- what is beyond the limit, or goes on
abbrev within : {A : Type 0} → Bool → A → A → A
within b beyond going_on = if b then beyond else going_on

-- the units of an evaluation
abbrev taken : {A : Type 0} → Costed A → ℕ
taken (costs n r) = n

one_more : {A : Type 0} (e : Costed A) → 1 ≤ taken (paying 1 e)
one_more (costs n r) = omega arith

-- the value of an expression takes a unit
value_takes : (e : CExpr) (s : C0State) → 1 ≤ taken (value_of e s)
value_takes (num p n) s = omega arith
value_takes (true_ p) s = omega arith
value_takes (false_ p) s = omega arith
value_takes (null p) s = omega arith
value_takes (var x) s = one_more _
value_takes (field p e f) s = one_more _
value_takes (arrow p e f) s = one_more _
value_takes (index p e i) s = one_more _
value_takes (deref p e) s = one_more _
value_takes (address p e) s = one_more _
value_takes (unary p o e) s = one_more _
value_takes (binary p o a b) s = one_more _

-- the location of a place takes a unit
place_takes : (e : CExpr) (s : C0State) → 1 ≤ taken (place_of e s)
place_takes (var x) s = omega arith
place_takes (field p e f) s = one_more _
place_takes (arrow p e f) s = one_more _
place_takes (index p e i) s = one_more _
place_takes (deref p e) s = one_more _
place_takes (num p n) s = omega arith
place_takes (true_ p) s = omega arith
place_takes (false_ p) s = omega arith
place_takes (null p) s = omega arith
place_takes (address p e) s = omega arith
place_takes (unary p o e) s = omega arith
place_takes (binary p o a b) s = omega arith

module _ (W E : Type 0) where
  -- the calls of a configuration stay as they are, and others may stand behind them
  pub record Extends (b c : Configuration W E) : Type 0 where
    pub more : List (List E)
    pub is : c.calls ≡ b.calls ++ more

  self : (c : Configuration W E) → Extends c c
  self c = record { more = []; is = sym (append-nil c.calls) }

  on : (b c d : Configuration W E) → Extends b c → Extends c d → Extends b d
  on b c d g h = record { more = g.more ++ h.more; is = h.is ∙ (ap (λ xs. xs ++ h.more) g.is ∙ append_assoc b.calls g.more h.more) }

  -- what was done to the world is what these calls of primitives do
  record Does (p : Setting W E) (b : Configuration W E) (k : Cost) (d : Configuration W E) : Type 0 where
    made : List PrimitiveCall
    are : AreMadeBy p.meaning made b k d

  -- a cost in which nothing is a primitive's
  abbrev Own : Cost → Type 0
  Own k = (k.primitive ≡ 0) × (k.pages ≡ 0)

  owns_more : (k : Cost) (n : ℕ) → Own k → Own (plus k (units n))
  owns_more k n o = (omega (arith, o.0), omega (arith, o.1))

  -- no primitive is called
  none_made : (p : Setting W E) (b : Configuration W E) (k : Cost) (d : Configuration W E) → d.world ≡ b.world → d.calls ≡ b.calls → Own k → Does p b k d
  none_made p b k d same e o = record { made = []; are = record { world = same; calls = e ∙ sym (append-nil b.calls); units = o.0; pages = o.1 } }

  -- one is called
  one_made : (p : Setting W E) (c : Configuration W E) (k : Cost) (n : ℕ) (args : Values) → Own k → Does p c (plus k (call_cost (p.meaning n args c.world))) (after_call c (p.meaning n args c.world))
  one_made p c k n args o = record { made = record { number = n; args = args } ∷ []; are = record { world = refl; calls = refl; units = omega (arith, o.0); pages = omega (arith, o.1) } }

  -- the world and the calls stay
  as_before : (p : Setting W E) (b c d : Configuration W E) (k : Cost) → d.world ≡ c.world → d.calls ≡ c.calls → Does p b k c → Does p b k d
  as_before p b c d k same e o = record { made = o.made; are = record { world = same ∙ o.are.world; calls = e ∙ o.are.calls; units = o.are.units; pages = o.are.pages } }

  extends : (p : Setting W E) (b : Configuration W E) (k : Cost) (d : Configuration W E) → Does p b k d → Extends b d
  extends p b k d o = record { more = entries_made p.meaning o.made b.world; is = o.are.calls }

  -- a step that takes a unit
  abbrev Takes : Setting W E → Configuration W E → Step W E → Type 0
  Takes p b (Go k w d) = (1 ≤ total k) × Does p b k d
  Takes p b (Stop k f d) = (1 ≤ total k) × Does p b k d

  either : (p : Setting W E) (b : Configuration W E) (t : Bool) (x y : Step W E) → Takes p b x → Takes p b y → Takes p b (if t then x else y)
  either p b true x y hx hy = hx
  either p b false x y hx hy = hy

  -- up to here no primitive is called
  here : (p : Setting W E) (k : Cost) (c : Configuration W E) → Own k → Does p c k c
  here p k c o = none_made p c k c refl refl o

  goes : {A : Type 0} (p : Setting W E) (k : Cost) (c : Configuration W E) (e : Costed A) (go : Cost → A → Step W E) → 1 ≤ total k + taken e → Own k → ((j : Cost) (x : A) → 1 ≤ total j → Own j → Takes p c (go j x)) → Takes p c (then_go k c e go)
  goes p k c (costs n (Ok x)) go h o f = f (plus k (units n)) x (omega (arith, h)) (owns_more k n o)
  goes p k c (costs n (Err x)) go h o f = (omega (arith, h), here p (plus k (units n)) c (owns_more k n o))

  stores : (p : Setting W E) (k : Cost) (place : CExpr) (v : Value) (rest : CStmts) (w : List Work) (c : Configuration W E) → Own k → Takes p c (store k place v rest w c)
  stores p k place v rest w c o = goes p k c (place_of place c.state) _ (omega (arith, place_takes place c.state)) o (λ j x g q. (g, none_made p c j _ refl refl q))

  delivers : (p : Setting W E) (b : Configuration W E) (k : Cost) (target : Target) (v : Value) (w : List Work) (c : Configuration W E) → 1 ≤ total k → Does p b k c → Takes p b (deliver k target v w c)
  delivers p b k (into place rest) v w c h o = (h, o)
  delivers p b k outward v w c h o = (h, as_before p b c _ k refl refl o)

  enters : (p : Setting W E) (k : Cost) (n : ℕ) (body : CBody) (args : Values) (target : Target) (w : List Work) (c : Configuration W E) → 1 ≤ total k → Own k → Takes p c (enter p k n body args target w c)
  enters p k n (code locals stmts answer) args target w c h o = (omega (arith, h), none_made p c _ _ refl refl (owns_more k (all_words (shapes p.unit) (map typed_of locals)) o))
  enters p k n (asm text span words) args target w c h o = delivers p c _ target _ w c (omega (arith, h)) (here p _ c (owns_more k (length words) o))

  calls : (p : Setting W E) (k : Cost) (n : ℕ) (args : Values) (target : Target) (w : List Work) (c : Configuration W E) → Own k → Takes p c (call_function p k n args target w c)
  calls p k n args target w c o =
      goes p (plus k (units 1)) c (at_no_cost (ok_or (slice_get p.unit.functions n) stuck)) _ (omega arith) (owns_more k 1 o)
      (λ j f g q. either p c (nat_lt p.stack (stack_words p.unit c.state.frames + words_of_frame (shapes p.unit) f)) _ _ (g, here p j c q) (enters p j n f.body args target w c g q))

  calls_with : (p : Setting W E) (k : Cost) (kind : Kind) (n : ℕ) (args : Values) (target : Target) (w : List Work) (c : Configuration W E) → 1 ≤ total k → Own k → Takes p c (call_with p k kind n args target w c)
  calls_with p k Function n args target w c h o = calls p k n args target w c o
  calls_with p k Primitive n args target w c h o = delivers p c _ target _ w _ (omega (arith, h)) (one_made p c k n args o)
  calls_with p k Unresolved n args target w c h o = (h, here p k c o)
  calls_with p k Struct n args target w c h o = (h, here p k c o)
  calls_with p k Field n args target w c h o = (h, here p k c o)
  calls_with p k Global n args target w c h o = (h, here p k c o)
  calls_with p k Local n args target w c h o = (h, here p k c o)

  acts : (p : Setting W E) (item : Work) (w : List Work) (c : Configuration W E) → Takes p c (work_step p item w c)
  acts p (act_on (assign span place value) rest) w c =
      goes p (units 1) c (value_of value c.state) _ (omega arith) (refl, refl) (λ j v g o. stores p j place v rest w c o)
  acts p (act_on (call span place call_span function args) rest) w c =
      goes p (units 1) c (values_of args c.state) _ (omega arith) (refl, refl) (λ j vs g o. calls_with p j function.kind function.number vs (into place rest) w c g o)
  acts p (act_on (new span place t ty_span) rest) w c =
      either p c (nat_lt p.heap (c.state.heap_words + words (shapes p.unit) (ty_of t))) _ _
      (omega arith, here p _ c (refl, refl))
      (omega arith, none_made p c _ _ refl refl (refl, refl))
  acts p (act_on (choice span test a b) rest) w c = goes p (units 1) c (truth (value_of test c.state)) _ (omega arith) (refl, refl) (λ j v g o. (g, here p j c o))
  acts p (act_on (loop span test body) rest) w c = goes p (units 2) c (truth (value_of test c.state)) _ (omega arith) (refl, refl) (λ j v g o. (g, here p j c o))
  acts p (finish place v rest) w c = stores p (units 0) place v rest w c (refl, refl)
  acts p (again test body rest) w c = goes p (units 1) c (truth (value_of test c.state)) _ (omega arith) (refl, refl) (λ j v g o. (g, here p j c o))
  acts p (leave answer target) w c =
      goes p (units 0) c (value_of answer c.state) _ (omega (arith, value_takes answer c.state)) (refl, refl) (λ j v g o. delivers p c j target v w _ g (none_made p c j _ refl refl o))
  acts p (begin n args) w c = calls p (units 0) n args outward w c (refl, refl)

  -- what is within the limit, or isn't
  chosen : (P : Outcome W E → Type 0) (l spent : ℕ) (x y : Outcome W E) → P x → (spent ≤ l → P y) → P (within (nat_lt l spent) x y)
  chosen P l spent x y px py = by_test (nat_lt l spent) refl
    where
      by_test : (b : Bool) → nat_lt l spent ≡ b → P (within b x y)
      by_test true e = px
      by_test false e = py (omega (arith, ltb-false l spent e))

  -- two that are the same within the limit
  same_within : (l spent : ℕ) (x y z : Outcome W E) → (spent ≤ l → y ≡ z) → within (nat_lt l spent) x y ≡ within (nat_lt l spent) x z
  same_within l spent x y z same = by_test (nat_lt l spent) refl
    where
      by_test : (b : Bool) → nat_lt l spent ≡ b → within b x y ≡ within b x z
      by_test true e = refl
      by_test false e = same (omega (arith, ltb-false l spent e))

  -- what goes on after so much cost
  abbrev After : Type 0
  After = Cost → List Work → Configuration W E → Outcome W E

  stays_step : (t : Step W E) (l : ℕ) (used : Cost) (c : Configuration W E) (f : After) → total used ≤ l → ((k : Cost) (w : List Work) (d : Configuration W E) → total k ≤ l → total (cost_of (f k w d)) ≤ l) → total (cost_of (then_run t l used c f)) ≤ l
  stays_step (Go k w d) l used c f h go = chosen (λ o. total (cost_of o) ≤ l) l (total (plus used k)) _ _ h (λ inside. go (plus used k) w d inside)
  stays_step (Stop k x d) l used c f h go = chosen (λ o. total (cost_of o) ≤ l) l (total (plus used k)) _ _ h (λ inside. inside)

  stays : (p : Setting W E) (s l : ℕ) (used : Cost) (w : List Work) (c : Configuration W E) → total used ≤ l → total (cost_of (execute p s l used w c)) ≤ l
  stays p zero l used w c h = h
  stays p (suc s) l used [] c h = h
  stays p (suc s) l used (item ∷ w) c h = stays_step (work_step p item w c) l used c (execute p s l) h (λ k v d g. stays p s l k v d g)

  step_same : (p : Setting W E) (t : Step W E) (l : ℕ) (used : Cost) (c : Configuration W E) (f g : After) → Takes p c t → ((k : Cost) (w : List Work) (d : Configuration W E) → suc (total used) ≤ total k → total k ≤ l → f k w d ≡ g k w d) → then_run t l used c f ≡ then_run t l used c g
  step_same p (Go k w d) l used c f g h same = same_within l (total (plus used k)) _ _ _ (λ inside. same (plus used k) w d (omega (arith, h.0)) inside)
  step_same p (Stop k x d) l used c f g h same = refl

  suffices : (p : Setting W E) (s t l : ℕ) (used : Cost) (w : List Work) (c : Configuration W E) → l < s + total used → l < t + total used → total used ≤ l → execute p s l used w c ≡ execute p t l used w c
  suffices p zero t l used w c hs ht h = absurd (omega (arith, hs, h))
  suffices p (suc s) zero l used w c hs ht h = absurd (omega (arith, ht, h))
  suffices p (suc s) (suc t) l used [] c hs ht h = refl
  suffices p (suc s) (suc t) l used (item ∷ w) c hs ht h =
      step_same p (work_step p item w c) l used c (execute p s l) (execute p t l) (acts p item w c) (λ k v d more g. suffices p s t l k v d (omega (arith, hs, more)) (omega (arith, ht, more)) g)

  extends_step : (p : Setting W E) (t : Step W E) (l : ℕ) (used : Cost) (c : Configuration W E) (f : After) → Takes p c t → ((k : Cost) (w : List Work) (d : Configuration W E) → Extends d (stands_at (f k w d))) → Extends c (stands_at (then_run t l used c f))
  extends_step p (Go k w d) l used c f h go = chosen (λ o. Extends c (stands_at o)) l (total (plus used k)) _ _ (self c) (λ inside. on c d _ (extends p c k d h.1) (go (plus used k) w d))
  extends_step p (Stop k x d) l used c f h go = chosen (λ o. Extends c (stands_at o)) l (total (plus used k)) _ _ (self c) (λ inside. extends p c k d h.1)

  pub extends_run : (p : Setting W E) (s l : ℕ) (used : Cost) (w : List Work) (c : Configuration W E) → Extends c (stands_at (execute p s l used w c))
  extends_run p zero l used w c = self c
  extends_run p (suc s) l used [] c = self c
  extends_run p (suc s) l used (item ∷ w) c = extends_step p (work_step p item w c) l used c (execute p s l) (acts p item w c) (λ k v d. extends_run p s l k v d)

  -- what is done one after the other
  world_joins : (m : PrimitiveMeaning W E) (xs ys : List PrimitiveCall) (w : W) → world_after m (xs ++ ys) w ≡ world_after m ys (world_after m xs w)
  world_joins m [] ys w = refl
  world_joins m (x ∷ xs) ys w = world_joins m xs ys (m x.number x.args w).world

  entries_join : (m : PrimitiveMeaning W E) (xs ys : List PrimitiveCall) (w : W) → entries_made m (xs ++ ys) w ≡ entries_made m xs w ++ entries_made m ys (world_after m xs w)
  entries_join m [] ys w = refl
  entries_join m (x ∷ xs) ys w = ap (λ es. (m x.number x.args w).entries ∷ es) (entries_join m xs ys (m x.number x.args w).world)

  units_join : (m : PrimitiveMeaning W E) (xs ys : List PrimitiveCall) (w : W) → (cost_made m (xs ++ ys) w).primitive ≡ (cost_made m xs w).primitive + (cost_made m ys (world_after m xs w)).primitive
  units_join m [] ys w = omega arith
  units_join m (x ∷ xs) ys w = omega (arith, units_join m xs ys (m x.number x.args w).world)

  pages_join : (m : PrimitiveMeaning W E) (xs ys : List PrimitiveCall) (w : W) → (cost_made m (xs ++ ys) w).pages ≡ (cost_made m xs w).pages + (cost_made m ys (world_after m xs w)).pages
  pages_join m [] ys w = omega arith
  pages_join m (x ∷ xs) ys w = omega (arith, pages_join m xs ys (m x.number x.args w).world)

  both_do : (p : Setting W E) (b c d : Configuration W E) (used k : Cost) → Does p b used c → Does p c k d → Does p b (plus used k) d
  both_do p b c d used k h g =
      let m = p.meaning in
      let between = h.are.world in
      let spent = g.are.units ∙ ap (λ w. (cost_made m g.made w).primitive) between in
      let paged = g.are.pages ∙ ap (λ w. (cost_made m g.made w).pages) between in
      record {
        made = h.made ++ g.made;
        are = record {
          world = g.are.world ∙ (ap (world_after m g.made) between ∙ sym (world_joins m h.made g.made b.world));
          calls = g.are.calls ∙ (ap (λ cs. cs ++ entries_made m g.made c.world) h.are.calls ∙ (append_assoc b.calls (entries_made m h.made b.world) (entries_made m g.made c.world)
              ∙ ap (λ es. b.calls ++ es) (ap (λ w. entries_made m h.made b.world ++ entries_made m g.made w) between ∙ sym (entries_join m h.made g.made b.world))));
          units = omega (arith, h.are.units, spent, units_join m h.made g.made b.world);
          pages = omega (arith, h.are.pages, paged, pages_join m h.made g.made b.world);
        };
      }

  -- from where a run began, what was done is what its primitives do
  abbrev DoesSoFar : Setting W E → Configuration W E → Outcome W E → Type 0
  DoesSoFar p b o = Does p b (cost_of o) (stands_at o)

  does_step : (p : Setting W E) (b : Configuration W E) (t : Step W E) (l : ℕ) (used : Cost) (c : Configuration W E) (f : After) → Does p b used c → Takes p c t → ((k : Cost) (w : List Work) (d : Configuration W E) → Does p b k d → DoesSoFar p b (f k w d)) → DoesSoFar p b (then_run t l used c f)
  does_step p b (Go k w d) l used c f g h go = chosen (DoesSoFar p b) l (total (plus used k)) _ _ g (λ inside. go (plus used k) w d (both_do p b c d used k g h.1))
  does_step p b (Stop k x d) l used c f g h go = chosen (DoesSoFar p b) l (total (plus used k)) _ _ g (λ inside. both_do p b c d used k g h.1)

  does_run : (p : Setting W E) (b : Configuration W E) (s l : ℕ) (used : Cost) (w : List Work) (c : Configuration W E) → Does p b used c → DoesSoFar p b (execute p s l used w c)
  does_run p b zero l used w c g = g
  does_run p b (suc s) l used [] c g = g
  does_run p b (suc s) l used (item ∷ w) c g = does_step p b (work_step p item w c) l used c (execute p s l) g (acts p item w c) (λ k v d h. does_run p b s l k v d h)

  -- within more units a run stands later
  ahead_step : (p : Setting W E) (t : Step W E) (l m : ℕ) (used : Cost) (c : Configuration W E) (f g : After) → l ≤ m → Takes p c t → ((k : Cost) (w : List Work) (d : Configuration W E) → Extends d (stands_at (g k w d))) → ((k : Cost) (w : List Work) (d : Configuration W E) → Extends (stands_at (f k w d)) (stands_at (g k w d))) → Extends (stands_at (then_run t l used c f)) (stands_at (then_run t m used c g))
  ahead_step p (Go k w d) l m used c f g le h go both =
      chosen (λ o. Extends (stands_at o) (stands_at (then_run (Go k w d) m used c g))) l (total (plus used k)) _ _ (extends_step p (Go k w d) m used c g h go)
      (λ inside. subst (λ b. Extends (stands_at (f (plus used k) w d)) (stands_at (within b (NotYet used c) (g (plus used k) w d)))) (sym (le-ltb m (total (plus used k)) (omega (arith, le, inside)))) (both (plus used k) w d))
  ahead_step p (Stop k x d) l m used c f g le h go both =
      chosen (λ o. Extends (stands_at o) (stands_at (then_run (Stop k x d) m used c g))) l (total (plus used k)) _ _ (extends_step p (Stop k x d) m used c g h go)
      (λ inside. subst (λ b. Extends d (stands_at (within b (NotYet used c) (Failed (plus used k) x d)))) (sym (le-ltb m (total (plus used k)) (omega (arith, le, inside)))) (self d))

  ahead : (p : Setting W E) (s l m : ℕ) (used : Cost) (w : List Work) (c : Configuration W E) → l ≤ m → Extends (stands_at (execute p s l used w c)) (stands_at (execute p s m used w c))
  ahead p zero l m used w c le = self c
  ahead p (suc s) l m used [] c le = self c
  ahead p (suc s) l m used (item ∷ w) c le =
      ahead_step p (work_step p item w c) l m used c (execute p s l) (execute p s m) le (acts p item w c) (λ k v d. extends_run p s m k v d) (λ k v d. ahead p s l m k v d le)

  -- the same with the steps of `run_within`
  ahead_within : (p : Setting W E) (m n : ℕ) (w : List Work) (c : Configuration W E) → m ≤ n → Extends (stands_at (run_within p m w c)) (stands_at (run_within p n w c))
  ahead_within p m n w c le =
      subst (λ o. Extends (stands_at o) (stands_at (run_within p n w c))) (suffices p (suc n) (suc m) m (units 0) w c (omega (arith, le)) (omega arith) (omega arith)) (ahead p (suc n) m n (units 0) w c le)

  -- what a run that is over has cost is no less than what it had cost before
  costs_step : (t : Step W E) (l : ℕ) (used : Cost) (c : Configuration W E) (f : After) → ((k : Cost) (w : List Work) (d : Configuration W E) → total k ≤ total (cost_of (f k w d))) → total used ≤ total (cost_of (then_run t l used c f))
  costs_step (Go k w d) l used c f go = chosen (λ o. total used ≤ total (cost_of o)) l (total (plus used k)) _ _ (omega arith) (λ inside. omega (arith, go (plus used k) w d))
  costs_step (Stop k x d) l used c f go = chosen (λ o. total used ≤ total (cost_of o)) l (total (plus used k)) _ _ (omega arith) (λ inside. omega arith)

  costs_more : (p : Setting W E) (s l : ℕ) (used : Cost) (w : List Work) (c : Configuration W E) → total used ≤ total (cost_of (execute p s l used w c))
  costs_more p zero l used w c = omega arith
  costs_more p (suc s) l used [] c = omega arith
  costs_more p (suc s) l used (item ∷ w) c = costs_step (work_step p item w c) l used c (execute p s l) (λ k v d. costs_more p s l k v d)

  -- a run that is over is so within its cost too
  ends_step : (t : Step W E) (l m : ℕ) (used : Cost) (c : Configuration W E) (f g : After) → ((k : Cost) (w : List Work) (d : Configuration W E) → total k ≤ total (cost_of (f k w d))) → ((k : Cost) (w : List Work) (d : Configuration W E) → IsOver (f k w d) → total (cost_of (f k w d)) ≤ m → IsOver (g k w d)) → IsOver (then_run t l used c f) → total (cost_of (then_run t l used c f)) ≤ m → IsOver (then_run t m used c g)
  ends_step (Go k w d) l m used c f g more go =
      chosen (λ o. IsOver o → total (cost_of o) ≤ m → IsOver (then_run (Go k w d) m used c g)) l (total (plus used k)) _ _ (λ over le. absurd over)
      (λ inside over le. subst (λ b. IsOver (within b (NotYet used c) (g (plus used k) w d))) (sym (le-ltb m (total (plus used k)) (omega (arith, more (plus used k) w d, le)))) (go (plus used k) w d over le))
  ends_step (Stop k x d) l m used c f g more go =
      chosen (λ o. IsOver o → total (cost_of o) ≤ m → IsOver (then_run (Stop k x d) m used c g)) l (total (plus used k)) _ _ (λ over le. absurd over)
      (λ inside over le. subst (λ b. IsOver (within b (NotYet used c) (Failed (plus used k) x d))) (sym (le-ltb m (total (plus used k)) le)) tt)

  ends : (p : Setting W E) (s l m : ℕ) (used : Cost) (w : List Work) (c : Configuration W E) → IsOver (execute p s l used w c) → total (cost_of (execute p s l used w c)) ≤ m → IsOver (execute p s m used w c)
  ends p zero l m used w c over le = absurd over
  ends p (suc s) l m used [] c over le = tt
  ends p (suc s) l m used (item ∷ w) c over le =
      ends_step (work_step p item w c) l m used c (execute p s l) (execute p s m) (λ k v d. costs_more p s l k v d) (λ k v d o h. ends p s l m k v d o h) over le

  -- two runs of the same that are over are the same
  over_same : (p : Setting W E) (work : List Work) (c : Configuration W E) (m n : ℕ) → IsOver (run_within p m work c) → IsOver (run_within p n work c) → run_within p n work c ≡ run_within p m work c
  over_same p work c m n hm hn = by_test (nat_lt n m) refl
    where
      by_test : (b : Bool) → nat_lt n m ≡ b → run_within p n work c ≡ run_within p m work c
      by_test true q = sym (more_units W E p work c n m (omega (arith, ltb-true n m q)) hn)
      by_test false q = more_units W E p work c m n (omega (arith, ltb-false n m q)) hm

  -- with other steps than those of `run_within`
  ends_within : (p : Setting W E) (work : List Work) (c : Configuration W E) (m n : ℕ) → IsOver (run_within p m work c) → total (cost_of (run_within p m work c)) ≤ n → IsOver (run_within p n work c)
  ends_within p work c m n over le =
      let long = suffices p (suc m + n) (suc m) m (units 0) work c (omega arith) (omega arith) (omega arith) in
      subst IsOver (suffices p (suc m + n) (suc n) n (units 0) work c (omega arith) (omega arith) (omega arith))
      (ends p (suc m + n) m n (units 0) work c (subst IsOver (sym long) over) (subst (λ o. total (cost_of o) ≤ n) (sym long) le))

pub stays_within : (W E : Type 0) → StaysWithin W E
stays_within W E p work c n = stays W E p (suc n) n (units 0) work c (omega arith)

pub steps_are_enough : (W E : Type 0) → StepsAreEnough W E
steps_are_enough W E p work c n steps h = suffices W E p steps (suc n) n (units 0) work c (omega (arith, h)) (omega arith) (omega arith)

pub primitives_alone : (W E : Type 0) → PrimitivesAlone W E
primitives_alone W E p work c n = let r = does_run W E p c (suc n) n (units 0) work c (here W E p (units 0) c (refl, refl)) in (r.made, r.are)

pub calls_extend : (W E : Type 0) → CallsExtend W E
calls_extend W E p work c m n le = let r = ahead_within W E p m n work c le in (r.more, r.is)

pub ends_at_its_cost : (W E : Type 0) → EndsAtItsCost W E
ends_at_its_cost W E p work c m n over = (
  λ there. subst (λ o. total (cost_of o) ≤ n) (over_same W E p work c m n over there) (stays_within W E p work c n),
  λ le. ends_within W E p work c m n over le,
)
