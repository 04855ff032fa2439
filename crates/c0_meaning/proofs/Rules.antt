-- The rules: how work is done that is made of parts. No contract can carry them, since they range over types: this file may be cited from other crates.
--
-- Code without an open choice needs none: `Ends p n work c Q` computes to Q, with the stack's test rewritten. Where the computation stops:
--
--   it stops at                             take
--   an `if` whose test is unknown           `by_choice`
--   a loop of an unknown number of turns    `by_while`, then `by_loop` with an invariant that knows the turns left
--   a primitive, whose cost is unknown      `by_primitive`, or `straight` with a bound of the cost
--   a `new` on a heap of unknown size       `by_new`
--   a function that is called twice         `by_call`, with a lemma on its statements
--   one of these behind some plain steps    `straight`, which does so many steps at once
--   units that are only bounded             `more`
use Rattle.std.proofs.Common.{◌≡◌, ℕ, zero, suc, ◌+◌, ◌-◌, ◌*◌, ◌≤◌, List, [], ◌∷◌, ◌++◌, Bool, true, false, nat_lt, refl, sym, ap, ◌∙◌, subst, arith}
use Rattle.std.specs.Prelude.{if◌then◌else◌, Some, Ok, Err, ok_or, slice_get, map}
use Rattle.std.proofs.lemmas.Bool.{ltb-false, le-ltb}
use Rattle.c0_tree.specs.Tree.{CName, CTy, CExpr, CStmt, assign, call, new, choice, loop, CStmts, done, next, CDecl, CBody, code, asm, CFunction}
use Rattle.c0_tree.specs.declared.tree.Span.{Span}
use Rattle.c0_meaning.specs.Evaluation.{Costed, costs, at_no_cost, truth, value_of, values_of, place_of}
use Rattle.c0_meaning.specs.World.{Called, Setting, Cost, units, total, plus, Configuration, with_state, after_call, call_cost}
use Rattle.c0_tree.specs.declared.tree.Kind.{Kind}
use Rattle.c0_tree.specs.declared.tree.Kind.TheVariants.{Function, Primitive}
use Rattle.c0_meaning.specs.Ty.{Ty, ty_of}
use Rattle.c0_meaning.specs.Env.{typed_of}
use Rattle.c0_meaning.specs.Words.{words, all_words}
use Rattle.c0_meaning.specs.Sound.{shapes}
use Rattle.c0_meaning.specs.State.{stack_words, with_object}
use Rattle.c0_meaning.specs.Limits.{words_of_frame}
use Rattle.c0_meaning.specs.Operators.{StackOut, faulted, stuck}
use Rattle.c0_meaning.specs.Value.{heap, Value, null, at, Values, part_count, zero_of}
use Rattle.c0_meaning.specs.Running.{Work, act_on, finish, again, leave, begin, Target, into, outward, Step, Go, Stop, push, then_go, store, deliver, enter, call_function, call_with, allocate, test_loop, act_statement, work_step}
use Rattle.c0_meaning.specs.Execution.{Outcome, Failed, NotYet, then_run, execute}
use Rattle.c0_meaning.specs.Reasoning.{DoneWith, EndsIn, with_cost, step_then, steps, LeadTo, entering}

module _ (W E : Type 0) (p : Setting W E) where
  abbrev Post : Type 1
  Post = Configuration W E → Type 0

  abbrev After : Type 0
  After = Cost → List Work → Configuration W E → Outcome W E

  -- with as much left, what was done is done
  paid : (over : Bool) (k : Cost) (c : Configuration W E) (o : Outcome W E) (Q : Post) → DoneWith (if over then NotYet k c else o) Q → (over ≡ false) × DoneWith o Q
  paid true k c o Q h = absurd h
  paid false k c o Q h = (refl, h)

  pays : (l m spent spending : ℕ) (k b : Cost) (c : Configuration W E) (y z : Outcome W E) (Q : Post) → (spent ≤ l → spending ≤ m) → (DoneWith y Q → DoneWith z Q)
      → DoneWith (if nat_lt l spent then NotYet k c else y) Q → DoneWith (if nat_lt m spending then NotYet b c else z) Q
  pays l m spent spending k b c y z Q less same h =
      let d = paid (nat_lt l spent) k c y Q h in
      let inside : spent ≤ l = omega (arith, ltb-false l spent d.0) in
      let e : nat_lt m spending ≡ false = le-ltb m spending (less inside) in
      subst (λ over. DoneWith (if over then NotYet b c else z) Q) (sym e) (same d.1)

  step_shifts : (t : Step W E) (l m : ℕ) (a b : Cost) (c : Configuration W E) (f g : After) (Q : Post) → total b + l ≤ total a + m
      → ((k : Cost) (w : List Work) (d : Configuration W E) → DoneWith (f (plus a k) w d) Q → DoneWith (g (plus b k) w d) Q)
      → DoneWith (then_run t l a c f) Q → DoneWith (then_run t m b c g) Q
  step_shifts (Go k w d) l m a b c f g Q room same h = pays l m (total (plus a k)) (total (plus b k)) a b c _ _ Q (λ inside. omega arith) (same k w d) h
  step_shifts (Stop k x d) l m a b c f g Q room same h = pays l m (total (plus a k)) (total (plus b k)) a b c _ _ Q (λ inside. omega arith) (λ x. x) h

  -- a run that is done is done from any cost and within any limit that leave it as much
  shifts : (s t l m : ℕ) (a b : Cost) (w : List Work) (c : Configuration W E) (Q : Post) → s ≤ t → total b + l ≤ total a + m → DoneWith (execute p s l a w c) Q → DoneWith (execute p t m b w c) Q
  shifts zero t l m a b w c Q st room h = absurd h
  shifts (suc s) zero l m a b w c Q st room h = absurd (omega arith)
  shifts (suc s) (suc t) l m a b [] c Q st room h = h
  shifts (suc s) (suc t) l m a b (item ∷ w) c Q st room h =
      step_shifts (work_step p item w c) l m a b c (execute p s l) (execute p t m) Q room (λ k v d. shifts s t l m (plus a k) (plus b k) v d Q (omega arith) (omega arith)) h

  -- WITH MORE UNITS: where what is proved and what is wanted differ in their units alone
  pub more : (m n : ℕ) (w : List Work) (c : Configuration W E) (Q : Post) → m ≤ n → EndsIn p m w c Q → EndsIn p n w c Q
  more m n w c Q le h = shifts (suc m) (suc n) m n (units 0) (units 0) w c Q (omega arith) (omega arith) h

  -- ONE STEP, whose cost need only be known to be small: for a step that does not compute by itself
  pub one : (item : Work) (w : List Work) (c : Configuration W E) (k : Cost) (v : List Work) (d : Configuration W E) (m n : ℕ) (Q : Post)
      → work_step p item w c ≡ Go k v d → 1 ≤ m → total k ≤ m → EndsIn p n v d Q → EndsIn p (m + n) (item ∷ w) c Q
  one item w c k v d m n Q e some small h =
      let over : nat_lt (m + n) (total (plus (units 0) k)) ≡ false = le-ltb (m + n) (total (plus (units 0) k)) (omega arith) in
      let r : DoneWith (execute p (m + n) (m + n) (plus (units 0) k) v d) Q = shifts (suc n) (m + n) n (m + n) (units 0) (plus (units 0) k) v d Q (omega arith) (omega arith) h in
      subst (λ t. DoneWith (then_run t (m + n) (units 0) c (execute p (m + n) (m + n))) Q) (sym e)
      (subst (λ b. DoneWith (if b then NotYet (units 0) c else execute p (m + n) (m + n) (plus (units 0) k) v d) Q) (sym over) r)

  -- SO MANY STEPS, which compute: to come through plain code up to the place where the computation stops, or to the end of the work
  step_leads : (item : Work) (w : List Work) (c : Configuration W E) (m j n : ℕ) (Q : Post)
      → ((i : ℕ) (v : List Work) (d : Configuration W E) → LeadTo p m i n (steps p m v d) Q → EndsIn p (i + n) v d Q)
      → (x : Step W E) → work_step p item w c ≡ x → LeadTo p (suc m) j n (step_then x (steps p m)) Q → EndsIn p (j + n) (item ∷ w) c Q
  step_leads item w c m j n Q ih (Go k v d) e h = by (steps p m v d) h (ih (j - suc (total k)) v d)
    where
      by : (y : Step W E) → LeadTo p (suc m) j n (with_cost k y) Q → (LeadTo p m (j - suc (total k)) n y Q → EndsIn p (j - suc (total k) + n) v d Q) → EndsIn p (j + n) (item ∷ w) c Q
      by (Go i u f) g go =
          more (suc (total k) + (j - suc (total k) + n)) (j + n) (item ∷ w) c Q (omega (arith, g.0))
          (one item w c k v d (suc (total k)) (j - suc (total k) + n) Q e (omega arith) (omega arith) (go (omega (arith, g.0), g.1)))
      by (Stop i f u) g go = absurd g
  step_leads item w c m j n Q ih (Stop k f d) e h = absurd h

  pub straight : (m j n : ℕ) (w : List Work) (c : Configuration W E) (Q : Post) → LeadTo p m j n (steps p m w c) Q → EndsIn p (j + n) w c Q
  straight zero j n w c Q h = more n (j + n) w c Q (omega arith) h.1
  straight (suc m) j n [] c Q h = more n (j + n) [] c Q (omega arith) h.1
  straight (suc m) j n (item ∷ w) c Q h = step_leads item w c m j n Q (λ i v d g. straight m i n v d Q g) (work_step p item w c) refl h

  -- A CHOICE whose test may give either: for an `if` on a value that is not known
  pub by_choice : (span : Span) (test : CExpr) (on_true on_false rest : CStmts) (w : List Work) (c : Configuration W E) (k n : ℕ) (b : Bool) (Q : Post)
      → truth (value_of test c.state) ≡ costs k (Ok b)
      → (b ≡ true → EndsIn p n (push on_true (push rest w)) c Q) → (b ≡ false → EndsIn p n (push on_false (push rest w)) c Q)
      → EndsIn p (1 + k + n) (act_on (choice span test on_true on_false) rest ∷ w) c Q
  by_choice span test on_true on_false rest w c k n b Q e left right =
      one (act_on (choice span test on_true on_false) rest) w c (plus (units 1) (units k)) (push (if b then on_true else on_false) (push rest w)) c (1 + k) n Q
      (ap (λ t. then_go (units 1) c t (λ cost b. Go cost (push (if b then on_true else on_false) (push rest w)) c)) e) (omega arith) (omega arith) (ways b left right)
    where
      ways : (b : Bool) → (b ≡ true → EndsIn p n (push on_true (push rest w)) c Q) → (b ≡ false → EndsIn p n (push on_false (push rest w)) c Q) → EndsIn p n (push (if b then on_true else on_false) (push rest w)) c Q
      ways true left right = left refl
      ways false left right = right refl

  -- steps look at nothing behind what is done first
  abbrev onto : List Work → Step W E → Step W E
  onto r (Go k w d) = Go k (w ++ r) d
  onto r (Stop k f d) = Stop k f d

  module _ (r : List Work) where
    then_go_onto : {A : Type 0} (cost : Cost) (c : Configuration W E) (e : Costed A) (f g : Cost → A → Step W E) → ((k : Cost) (x : A) → g k x ≡ onto r (f k x)) → then_go cost c e g ≡ onto r (then_go cost c e f)
    then_go_onto cost c (costs n (Ok x)) f g h = h (plus cost (units n)) x
    then_go_onto cost c (costs n (Err x)) f g h = refl

    pub push_onto : (s : CStmts) (w : List Work) → push s (w ++ r) ≡ push s w ++ r
    push_onto done w = refl
    push_onto (next s rest) w = refl

    go_onto : (k : Cost) (s : CStmts) (w : List Work) (d : Configuration W E) → Go k (push s (w ++ r)) d ≡ onto r (Go k (push s w) d)
    go_onto k s w d = ap (λ v. Go k v d) (push_onto s w)

    store_onto : (cost : Cost) (place : CExpr) (v : Value) (rest : CStmts) (w : List Work) (c : Configuration W E) → store cost place v rest (w ++ r) c ≡ onto r (store cost place v rest w c)
    store_onto cost place v rest w c = then_go_onto cost c (place_of place c.state) _ _ (λ k l. go_onto k rest w _)

    deliver_onto : (cost : Cost) (t : Target) (v : Value) (w : List Work) (c : Configuration W E) → deliver cost t v (w ++ r) c ≡ onto r (deliver cost t v w c)
    deliver_onto cost (into place rest) v w c = refl
    deliver_onto cost outward v w c = refl

    enter_onto : (cost : Cost) (n : ℕ) (b : CBody) (args : Values) (t : Target) (w : List Work) (c : Configuration W E) → enter p cost n b args t (w ++ r) c ≡ onto r (enter p cost n b args t w c)
    enter_onto cost n (code locals stmts answer) args t w c = go_onto _ stmts (leave answer t ∷ w) _
    enter_onto cost n (asm text span words) args t w c = deliver_onto _ t _ w c

    either_onto : (b : Bool) (x y z : Step W E) → y ≡ onto r z → onto r x ≡ x → (if b then x else y) ≡ onto r (if b then x else z)
    either_onto true x y z h k = sym k
    either_onto false x y z h k = h

    function_onto : (cost : Cost) (n : ℕ) (args : Values) (t : Target) (w : List Work) (c : Configuration W E) → call_function p cost n args t (w ++ r) c ≡ onto r (call_function p cost n args t w c)
    function_onto cost n args t w c = then_go_onto (plus cost (units 1)) c (at_no_cost (ok_or (slice_get p.unit.functions n) stuck)) _ _ (λ k (f : CFunction). either_onto (nat_lt p.stack (stack_words p.unit c.state.frames + words_of_frame (shapes p.unit) f)) (Stop k (faulted StackOut) c) _ _ (enter_onto k n f.body args t w c) refl)

    call_onto : (cost : Cost) (kind : Kind) (n : ℕ) (args : Values) (t : Target) (w : List Work) (c : Configuration W E) → call_with p cost kind n args t (w ++ r) c ≡ onto r (call_with p cost kind n args t w c)
    call_onto cost Function n args t w c = function_onto cost n args t w c
    call_onto cost Primitive n args t w c = deliver_onto _ t _ w _
    call_onto cost _ n args t w c = refl

    allocate_onto : (ty : Ty) (t : Target) (w : List Work) (c : Configuration W E) → allocate p ty t (w ++ r) c ≡ onto r (allocate p ty t w c)
    allocate_onto ty t w c = cases (nat_lt p.heap (c.state.heap_words + words (shapes p.unit) ty))
      where
        cases : (b : Bool) → (if b then deliver (units 1) t null (w ++ r) c else
            deliver (units (1 + words (shapes p.unit) ty)) t (at (record { region = heap; path = part_count c.state.heap_values ∷ [] })) (w ++ r) (with_state c (with_object (zero_of (shapes p.unit) ty) (words (shapes p.unit) ty) c.state)))
            ≡ onto r (if b then deliver (units 1) t null w c else
            deliver (units (1 + words (shapes p.unit) ty)) t (at (record { region = heap; path = part_count c.state.heap_values ∷ [] })) w (with_state c (with_object (zero_of (shapes p.unit) ty) (words (shapes p.unit) ty) c.state)))
        cases true = deliver_onto _ t _ w _
        cases false = deliver_onto _ t _ w _

    loop_onto : (cost : Cost) (test : CExpr) (body rest : CStmts) (w : List Work) (c : Configuration W E) → test_loop cost test body rest (w ++ r) c ≡ onto r (test_loop cost test body rest w c)
    loop_onto cost test body rest w c = then_go_onto cost c (truth (value_of test c.state)) _ _ (λ k b. ap (λ v. Go k v c) (either_work b))
      where
        either_work : (b : Bool) → (if b then push body (again test body rest ∷ w ++ r) else push rest (w ++ r)) ≡ (if b then push body (again test body rest ∷ w) else push rest w) ++ r
        either_work true = push_onto body (again test body rest ∷ w)
        either_work false = push_onto rest w

    statement_onto : (s : CStmt) (rest : CStmts) (w : List Work) (c : Configuration W E) → act_statement p s rest (w ++ r) c ≡ onto r (act_statement p s rest w c)
    statement_onto (assign span place v) rest w c = then_go_onto (units 1) c (value_of v c.state) _ _ (λ k x. store_onto k place x rest w c)
    statement_onto (call span place cs f args) rest w c = then_go_onto (units 1) c (values_of args c.state) _ _ (λ k vs. call_onto k f.kind f.number vs (into place rest) w c)
    statement_onto (new span place t ts) rest w c = allocate_onto (ty_of t) (into place rest) w c
    statement_onto (choice span test on_true on_false) rest w c = then_go_onto (units 1) c (truth (value_of test c.state)) _ _ (λ k b. ap (λ v. Go k (push (if b then on_true else on_false) v) c) (push_onto rest w) ∙ go_onto k (if b then on_true else on_false) (push rest w) c)
    statement_onto (loop span test body) rest w c = loop_onto (units 2) test body rest w c

    pub act_onto : (item : Work) (w : List Work) (c : Configuration W E) → work_step p item (w ++ r) c ≡ onto r (work_step p item w c)
    act_onto (act_on s rest) w c = statement_onto s rest w c
    act_onto (finish place v rest) w c = store_onto (units 0) place v rest w c
    act_onto (again test body rest) w c = loop_onto (units 1) test body rest w c
    act_onto (leave answer t) w c = then_go_onto (units 0) c (value_of answer c.state) _ _ (λ k v. deliver_onto k t v w _)
    act_onto (begin n args) w c = function_onto (units 0) n args outward w c

  -- ONE AFTER THE OTHER: what is left to do in two parts, as the body of a loop or of a function and what stands behind it
  -- a step of the first part
  goes_onto : (r : List Work) (s l t m : ℕ) (a b : Cost) (c : Configuration W E) (R Q : Post) → (n : ℕ) → total b + l + n ≤ total a + m
      → ((k : Cost) (v : List Work) (d : Configuration W E) → total (plus a k) ≤ l → DoneWith (execute p s l (plus a k) v d) R → DoneWith (execute p t m (plus b k) (v ++ r) d) Q)
      → (x : Step W E) → DoneWith (then_run x l a c (execute p s l)) R → DoneWith (then_run (onto r x) m b c (execute p t m)) Q
  goes_onto r s l t m a b c R Q n room ih (Go k v d) h =
      let over = paid (nat_lt l (total (plus a k))) a c (execute p s l (plus a k) v d) R h in
      let inside : total (plus a k) ≤ l = omega (arith, ltb-false l (total (plus a k)) over.0) in
      let e : nat_lt m (total (plus b k)) ≡ false = le-ltb m (total (plus b k)) (omega arith) in
      subst (λ o. DoneWith (if o then NotYet b c else execute p t m (plus b k) (v ++ r) d) Q) (sym e) (ih k v d inside over.1)
  goes_onto r s l t m a b c R Q n room ih (Stop k f d) h = absurd (paid (nat_lt l (total (plus a k))) a c (Failed (plus a k) f d) R h).1

  append_onto : (r : List Work) (n : ℕ) (R Q : Post) → ((d : Configuration W E) → R d → EndsIn p n r d Q)
      → (s l : ℕ) (a b : Cost) (w : List Work) (c : Configuration W E) (t m : ℕ) → s + suc n ≤ t → total b + l + n ≤ total a + m → total a ≤ l → DoneWith (execute p s l a w c) R → DoneWith (execute p t m b (w ++ r) c) Q
  append_onto r n R Q go zero l a b w c t m st room under h = absurd h
  append_onto r n R Q go (suc s) l a b [] c t m st room under h = shifts (suc n) t n m (units 0) b r c Q (omega arith) (omega arith) (go c h)
  append_onto r n R Q go (suc s) l a b (item ∷ w) c zero m st room under h = absurd (omega arith)
  append_onto r n R Q go (suc s) l a b (item ∷ w) c (suc t) m st room under h =
      subst (λ x. DoneWith (then_run x m b c (execute p t m)) Q) (sym (act_onto r item w c))
      (goes_onto r s l t m a b c R Q n room (λ k v d inside g. append_onto r n R Q go s l (plus a k) (plus b k) v d t m (omega arith) (omega arith) inside g) (work_step p item w c) h)

  -- w, and then r: with a fact R of where w is done
  pub in_turn : (m n : ℕ) (w r : List Work) (c : Configuration W E) (R Q : Post) → EndsIn p m w c R → ((d : Configuration W E) → R d → EndsIn p n r d Q) → EndsIn p (m + suc n) (w ++ r) c Q
  in_turn m n w r c R Q h go = append_onto r n R Q go (suc m) m (units 0) (units 0) w c (suc (m + suc n)) (m + suc n) (omega arith) (omega arith) (omega arith) h

  -- A LOOP, with an invariant that knows how many turns are left at most: for a loop whose turns are not known
  pub record Turn (J : ℕ → Configuration W E → Type 0) (test : CExpr) (body rest : CStmts) (w : List Work) (k b n : ℕ) (Q : Configuration W E → Type 0) (j : ℕ) (d : Configuration W E) : Type 0 where
    pub value : Bool
    pub tested : truth (value_of test d.state) ≡ costs k (Ok value)
    pub again : value ≡ true → (i : ℕ) × (j ≡ suc i) × EndsIn p b (push body []) d (J i)
    pub over : value ≡ false → EndsIn p n (push rest w) d Q

  loop_step : (test : CExpr) (body rest : CStmts) (w : List Work) (c : Configuration W E) (k m n : ℕ) (v : Bool) (Q : Post) → 1 ≤ m → 1 + k ≤ m
      → truth (value_of test c.state) ≡ costs k (Ok v) → EndsIn p n (if v then push body (again test body rest ∷ w) else push rest w) c Q → EndsIn p (m + n) (again test body rest ∷ w) c Q
  loop_step test body rest w c k m n v Q some small e h =
      one (again test body rest) w c (plus (units 1) (units k)) (if v then push body (again test body rest ∷ w) else push rest w) c m n Q
      (ap (λ t. then_go (units 1) c t (λ cost b. Go cost (if b then push body (again test body rest ∷ w) else push rest w) c)) e) some (omega arith) h

  module _ (J : ℕ → Configuration W E → Type 0) (test : CExpr) (body rest : CStmts) (w : List Work) (k b n : ℕ) (Q : Configuration W E → Type 0) where
    -- how the turns go on that are left
    abbrev GoesOn : ℕ → Type 0
    GoesOn x = (i : ℕ) → x ≡ suc i → (d : Configuration W E) → J i d → EndsIn p (x * (1 + k + suc b) + n) (again test body rest ∷ w) d Q

    tested : (x : ℕ) (c : Configuration W E) (v : Bool) → (v ≡ true → (i : ℕ) × (x ≡ suc i) × EndsIn p b (push body []) c (J i)) → (v ≡ false → EndsIn p n (push rest w) c Q) → GoesOn x
        → EndsIn p (suc b + x * (1 + k + suc b) + n) (if v then push body (again test body rest ∷ w) else push rest w) c Q
    tested x c true f g go =
        let s = f refl in
        let u : ℕ = x * (1 + k + suc b) + n in
        subst (λ v. EndsIn p (suc b + x * (1 + k + suc b) + n) v c Q) (sym (push_onto (again test body rest ∷ w) body []))
        (more (b + suc u) (suc b + x * (1 + k + suc b) + n) (push body [] ++ again test body rest ∷ w) c Q (omega arith)
        (in_turn b u (push body []) (again test body rest ∷ w) c (J s.0) Q s.2 (λ d h. go s.0 s.1 d h)))
    tested x c false f g go = more n (suc b + x * (1 + k + suc b) + n) (push rest w) c Q (omega arith) (g refl)

    turned : (x : ℕ) (c : Configuration W E) → Turn J test body rest w k b n Q x c → GoesOn x → EndsIn p (suc x * (1 + k + suc b) + n) (again test body rest ∷ w) c Q
    turned x c t go =
        let u : ℕ = x * (1 + k + suc b) in
        more (1 + k + (suc b + u + n)) (suc x * (1 + k + suc b) + n) (again test body rest ∷ w) c Q (omega arith)
        (loop_step test body rest w c k (1 + k) (suc b + u + n) t.value Q (omega arith) (omega arith) t.tested (tested x c t.value t.again t.over go))

    pub by_loop : ((j : ℕ) (d : Configuration W E) → J j d → Turn J test body rest w k b n Q j d)
        → (j : ℕ) (c : Configuration W E) → J j c → EndsIn p (suc j * (1 + k + suc b) + n) (again test body rest ∷ w) c Q
    by_loop turns zero c h = turned zero c (turns zero c h) (λ i e d g. absurd (omega (arith, e)))
    by_loop turns (suc j) c h = turned (suc j) c (turns (suc j) c h) (λ i e d g. let same : i ≡ j = omega (arith, e) in by_loop turns j d (subst (λ x. J x d) same g))

  -- a loop begins as it goes on, with a unit more
  pub by_while : (span : Span) (test : CExpr) (body rest : CStmts) (w : List Work) (n : ℕ) (c : Configuration W E) (Q : Post)
      → EndsIn p n (again test body rest ∷ w) c Q → EndsIn p (suc n) (act_on (loop span test body) rest ∷ w) c Q
  by_while span test body rest w n c Q h = by (truth (value_of test c.state)) h
    where
      by : (e : Costed Bool)
          → DoneWith (then_run (then_go (units 1) c e (λ cost b. Go cost (if b then push body (again test body rest ∷ w) else push rest w) c)) n (units 0) c (execute p n n)) Q
          → DoneWith (then_run (then_go (units 2) c e (λ cost b. Go cost (if b then push body (again test body rest ∷ w) else push rest w) c)) (suc n) (units 0) c (execute p (suc n) (suc n))) Q
      by (costs k (Ok b)) h =
          pays n (suc n) (total (plus (units 0) (plus (units 1) (units k)))) (total (plus (units 0) (plus (units 2) (units k)))) (units 0) (units 0) c _ _ Q (λ inside. omega (arith, inside))
          (λ g. shifts n (suc n) n (suc n) (plus (units 0) (plus (units 1) (units k))) (plus (units 0) (plus (units 2) (units k))) _ c Q (omega arith) (omega arith) g) h
      by (costs k (Err f)) h = absurd (paid (nat_lt n (total (plus (units 0) (plus (units 1) (units k))))) (units 0) c (Failed (plus (units 0) (plus (units 1) (units k))) f c) Q h).1

  -- A CALL OF A FUNCTION: its statements by themselves, from its frame on, and then its return. So what a function does is one lemma on its
  -- statements, for each place that calls it.
  pub by_call : (span : Span) (place : CExpr) (call_span : Span) (f : CName) (args : List CExpr) (rest : CStmts) (w : List Work) (c : Configuration W E)
      (g : CFunction) (locals : List CDecl) (stmts : CStmts) (answer : CExpr) (vs : Values) (k b n : ℕ) (R Q : Post)
      → f.kind ≡ Function → slice_get p.unit.functions f.number ≡ Some g → g.body ≡ code locals stmts answer
      → nat_lt p.stack (stack_words p.unit c.state.frames + words_of_frame (shapes p.unit) g) ≡ false → values_of args c.state ≡ costs k (Ok vs)
      → EndsIn p b (push stmts []) (entering p f.number locals vs c) R → ((d : Configuration W E) → R d → EndsIn p n (leave answer (into place rest) ∷ w) d Q)
      → EndsIn p (2 + k + all_words (shapes p.unit) (map typed_of locals) + (b + suc n)) (act_on (call span place call_span f args) rest ∷ w) c Q
  by_call span place call_span f args rest w c g locals stmts answer vs k b n R Q is_function found body room e h go =
      let spent : Cost = plus (plus (plus (units 1) (units k)) (units 1)) (units 0) in
      let zeroed : ℕ = all_words (shapes p.unit) (map typed_of locals) in
      let inside : Configuration W E = entering p f.number locals vs c in
      let back : List Work = leave answer (into place rest) ∷ w in
      let entered : CFunction → Cost → Step W E = λ (h : CFunction) (cost : Cost).
      if nat_lt p.stack (stack_words p.unit c.state.frames + words_of_frame (shapes p.unit) h) then Stop cost (faulted StackOut) c else enter p cost f.number h.body vs (into place rest) w c in
      one (act_on (call span place call_span f args) rest) w c (plus spent (units zeroed)) (push stmts back) inside (2 + k + zeroed) (b + suc n) Q
      (ap (λ t. then_go (units 1) c t (λ cost vs. call_with p cost f.kind f.number vs (into place rest) w c)) e
      ∙ ap (λ kind. call_with p (plus (units 1) (units k)) kind f.number vs (into place rest) w c) is_function
      ∙ ap (λ o. then_go (plus (plus (units 1) (units k)) (units 1)) c (at_no_cost (ok_or o stuck)) (λ cost h. entered h cost)) found
      ∙ ap (λ over. if over then Stop spent (faulted StackOut) c else enter p spent f.number g.body vs (into place rest) w c) room
      ∙ ap (λ (t : CBody). enter p spent f.number t vs (into place rest) w c) body)
      (omega arith) (omega arith)
      (subst (λ v. EndsIn p (b + suc n) v inside Q) (sym (push_onto back stmts [])) (in_turn b n (push stmts []) back inside R Q h go))

  -- A CALL OF A PRIMITIVE, of which is known what it comes to and how many units it costs at most
  pub by_primitive : (span : Span) (place : CExpr) (call_span : Span) (f : CName) (args : List CExpr) (rest : CStmts) (w : List Work) (c : Configuration W E)
      (vs : Values) (r : Called W E) (k m n : ℕ) (Q : Post)
      → f.kind ≡ Primitive → values_of args c.state ≡ costs k (Ok vs) → p.meaning f.number vs c.world ≡ r → total (call_cost r) ≤ m
      → EndsIn p n (finish place r.answer rest ∷ w) (after_call c r) Q → EndsIn p (1 + k + m + n) (act_on (call span place call_span f args) rest ∷ w) c Q
  by_primitive span place call_span f args rest w c vs r k m n Q is_primitive e comes few h =
      one (act_on (call span place call_span f args) rest) w c (plus (plus (units 1) (units k)) (call_cost r)) (finish place r.answer rest ∷ w) (after_call c r) (1 + k + m) n Q
      (ap (λ t. then_go (units 1) c t (λ cost vs. call_with p cost f.kind f.number vs (into place rest) w c)) e
      ∙ ap (λ kind. call_with p (plus (units 1) (units k)) kind f.number vs (into place rest) w c) is_primitive
      ∙ ap (λ (r : Called W E). deliver (plus (plus (units 1) (units k)) (call_cost r)) (into place rest) r.answer w (after_call c r)) comes)
      (omega arith) (omega arith) h

  -- what a `new` comes to, by whether the heap is full
  abbrev made : CExpr → Ty → CStmts → List Work → Configuration W E → Bool → Step W E
  made place t rest w c full =
      if full then deliver (units 1) (into place rest) null w c else deliver (units (1 + words (shapes p.unit) t)) (into place rest) (at (record { region = heap; path = part_count c.state.heap_values ∷ [] })) w
      (with_state c (with_object (zero_of (shapes p.unit) t) (words (shapes p.unit) t) c.state))

  -- A `new`: null where the heap has no room, else an object of its own
  pub by_new : (span : Span) (place : CExpr) (t : CTy) (ty_span : Span) (rest : CStmts) (w : List Work) (c : Configuration W E) (n : ℕ) (full : Bool) (Q : Post)
      → nat_lt p.heap (c.state.heap_words + words (shapes p.unit) (ty_of t)) ≡ full
      → (full ≡ true → EndsIn p n (finish place null rest ∷ w) c Q)
      → (full ≡ false → EndsIn p n (finish place (at (record { region = heap; path = part_count c.state.heap_values ∷ [] })) rest ∷ w)
      (with_state c (with_object (zero_of (shapes p.unit) (ty_of t)) (words (shapes p.unit) (ty_of t)) c.state)) Q)
      → EndsIn p (1 + words (shapes p.unit) (ty_of t) + n) (act_on (new span place t ty_span) rest ∷ w) c Q
  by_new span place t ty_span rest w c n full Q e none some = by full none some (ap (made place (ty_of t) rest w c) e)
    where
      by : (b : Bool) → (b ≡ true → EndsIn p n (finish place null rest ∷ w) c Q)
          → (b ≡ false → EndsIn p n (finish place (at (record { region = heap; path = part_count c.state.heap_values ∷ [] })) rest ∷ w)
          (with_state c (with_object (zero_of (shapes p.unit) (ty_of t)) (words (shapes p.unit) (ty_of t)) c.state)) Q)
          → work_step p (act_on (new span place t ty_span) rest) w c ≡ made place (ty_of t) rest w c b → EndsIn p (1 + words (shapes p.unit) (ty_of t) + n) (act_on (new span place t ty_span) rest ∷ w) c Q
      by true none some e =
          one (act_on (new span place t ty_span) rest) w c (units 1) (finish place null rest ∷ w) c (1 + words (shapes p.unit) (ty_of t)) n Q e (omega arith) (omega arith) (none refl)
      by false none some e =
          one (act_on (new span place t ty_span) rest) w c (units (1 + words (shapes p.unit) (ty_of t))) (finish place (at (record { region = heap; path = part_count c.state.heap_values ∷ [] })) rest ∷ w)
          (with_state c (with_object (zero_of (shapes p.unit) (ty_of t)) (words (shapes p.unit) (ty_of t)) c.state)) (1 + words (shapes p.unit) (ty_of t)) n Q e (omega arith) (omega arith) (some refl)
