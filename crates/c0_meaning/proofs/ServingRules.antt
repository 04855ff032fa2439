-- The rules for programs that serve for ever: which entries are made within so many units, whether the run ends or not. No contract can carry them, since
-- they range over types: this file may be cited from other crates. What is done in between, as a turn of a loop, is proved by the rules of proofs/Rules.
--
--   at                                          take
--   entries that are made already               `made`
--   plain steps, which compute                  `straight`
--   a step that doesn't compute                 `one`
--   an `if` whose test is unknown               `by_choice`
--   a part that ends, and what is behind it     `in_turn`
--   a loop that goes on for so many turns       `by_turns`
--   units that are only bounded                 `more`
use Rattle.std.proofs.Common.{◌≡◌, ℕ, zero, suc, ◌+◌, ◌-◌, ◌*◌, ◌≤◌, List, [], ◌∷◌, ◌++◌, length, take, Bool, true, false, nat_lt, refl, sym, ap, ◌∙◌, subst, arith, append_assoc}
use Rattle.std.specs.Prelude.{ℤ, if◌then◌else◌, Ok}
use Rattle.std.proofs.lemmas.Bool.{ltb-false, le-ltb}
use Rattle.c0_tree.specs.declared.primitive.Program.TheVariants.{User}
use Rattle.c0_tree.specs.declared.tree.Span.{Span}
use Rattle.c0_tree.specs.Tree.{CExpr, choice, loop, CStmts}
use Rattle.c0_meaning.specs.Evaluation.{costs, truth, value_of}
use Rattle.c0_meaning.specs.Limits.{first_number}
use Rattle.c0_meaning.specs.State.{first_state}
use Rattle.c0_meaning.specs.Value.{empty}
use Rattle.c0_meaning.specs.World.{Setting, Cost, units, total, plus, Configuration, all_entries, journal_so_far}
use Rattle.c0_meaning.specs.Running.{Work, act_on, again, Step, Go, Stop, push, then_go, work_step}
use Rattle.c0_meaning.specs.Execution.{Outcome, Failed, NotYet, then_run, execute, call_first}
use Rattle.c0_meaning.specs.Reasoning.{DoneWith, EndsIn, IsBeginningOf, MakesEntries, with_cost, step_then, steps, LeadToMade}
use Rattle.c0_meaning.specs.RunLaws.{stands_at}
use Rattle.c0_meaning.specs.UserProgram.{trap, outcome_seen}
use Rattle.c0_meaning.specs.ProgramLaws.{MadeIsAsked}
use Rattle.c0_meaning.proofs.LaterAnswers.{entries_join, seen_there, cut}
use Rattle.c0_meaning.proofs.Rules.{act_onto, push_onto}
use Rattle.c0_meaning.proofs.StepsTakeUnits.{Extends, extends_run}

module _ (W E : Type 0) (p : Setting W E) where
  abbrev After : Type 0
  After = Cost → List Work → Configuration W E → Outcome W E

  -- what an outcome has made
  abbrev Made : List E → Outcome W E → Type 0
  Made es o = IsBeginningOf es (journal_so_far (stands_at o))

  later : (es : List E) (b c : Configuration W E) → Extends W E b c → IsBeginningOf es (journal_so_far b) → IsBeginningOf es (journal_so_far c)
  later es b c e h = record {
    more = h.more ++ all_entries e.more;
    is = ap all_entries e.is ∙ entries_join b.calls e.more ∙ ap (λ xs. xs ++ all_entries e.more) h.is ∙ append_assoc es h.more (all_entries e.more);
  }

  -- what was made before stays
  stays : (es : List E) (s l : ℕ) (a : Cost) (w : List Work) (c : Configuration W E) → IsBeginningOf es (journal_so_far c) → Made es (execute p s l a w c)
  stays es s l a w c h = later es c (stands_at (execute p s l a w c)) (extends_run W E p s l a w c) h

  -- ENTRIES THAT ARE MADE ALREADY
  pub made : (es : List E) (n : ℕ) (w : List Work) (c : Configuration W E) → IsBeginningOf es (journal_so_far c) → MakesEntries p n w c es
  made es n w c h = stays es (suc n) n (units 0) w c h

  -- a step within one limit, or past it
  pays : (es : List E) (l m spent spending : ℕ) (x y : Outcome W E) (c : Configuration W E) (k b : Cost) → (spent ≤ l → spending ≤ m)
      → (IsBeginningOf es (journal_so_far c) → Made es (if nat_lt m spending then NotYet b c else y)) → (Made es x → Made es y)
      → Made es (if nat_lt l spent then NotYet k c else x) → Made es (if nat_lt m spending then NotYet b c else y)
  pays es l m spent spending x y c k b less before same h = by (nat_lt l spent) refl h
    where
      by : (v : Bool) → nat_lt l spent ≡ v → Made es (if v then NotYet k c else x) → Made es (if nat_lt m spending then NotYet b c else y)
      by true e h = before h
      by false e h =
          let inside = less (omega (arith, ltb-false l spent e)) in
          subst (λ v. Made es (if v then NotYet b c else y)) (sym (le-ltb m spending inside)) (same h)

  step_shifts : (es : List E) (t : Step W E) (l m : ℕ) (a b : Cost) (c : Configuration W E) (f g : After) → total b + l ≤ total a + m
      → (IsBeginningOf es (journal_so_far c) → Made es (then_run t m b c g))
      → ((k : Cost) (w : List Work) (d : Configuration W E) → Made es (f (plus a k) w d) → Made es (g (plus b k) w d))
      → Made es (then_run t l a c f) → Made es (then_run t m b c g)
  step_shifts es (Go k w d) l m a b c f g room before same h = pays es l m (total (plus a k)) (total (plus b k)) _ _ c a b (λ inside. omega arith) before (same k w d) h
  step_shifts es (Stop k x d) l m a b c f g room before same h = pays es l m (total (plus a k)) (total (plus b k)) _ _ c a b (λ inside. omega arith) before (λ x. x) h

  -- what is made is made from any cost and within any limit that leave as much
  shifts : (es : List E) (s t l m : ℕ) (a b : Cost) (w : List Work) (c : Configuration W E) → s ≤ t → total b + l ≤ total a + m → Made es (execute p s l a w c) → Made es (execute p t m b w c)
  shifts es zero t l m a b w c st room h = stays es t m b w c h
  shifts es (suc s) zero l m a b w c st room h = absurd (omega arith)
  shifts es (suc s) (suc t) l m a b [] c st room h = h
  shifts es (suc s) (suc t) l m a b (item ∷ w) c st room h =
      step_shifts es (work_step p item w c) l m a b c (execute p s l) (execute p t m) room (stays es (suc t) m b (item ∷ w) c)
      (λ k v d. shifts es s t l m (plus a k) (plus b k) v d (omega arith) (omega arith)) h

  -- WITH MORE UNITS
  pub more : (es : List E) (m n : ℕ) (w : List Work) (c : Configuration W E) → m ≤ n → MakesEntries p m w c es → MakesEntries p n w c es
  more es m n w c le h = shifts es (suc m) (suc n) m n (units 0) (units 0) w c (omega arith) (omega arith) h

  -- ONE STEP, whose cost need only be known to be small
  pub one : (es : List E) (item : Work) (w : List Work) (c : Configuration W E) (k : Cost) (v : List Work) (d : Configuration W E) (m n : ℕ)
      → work_step p item w c ≡ Go k v d → 1 ≤ m → total k ≤ m → MakesEntries p n v d es → MakesEntries p (m + n) (item ∷ w) c es
  one es item w c k v d m n e some small h =
      let over : nat_lt (m + n) (total (plus (units 0) k)) ≡ false = le-ltb (m + n) (total (plus (units 0) k)) (omega arith) in
      let r : Made es (execute p (m + n) (m + n) (plus (units 0) k) v d) = shifts es (suc n) (m + n) n (m + n) (units 0) (plus (units 0) k) v d (omega arith) (omega arith) h in
      subst (λ t. Made es (then_run t (m + n) (units 0) c (execute p (m + n) (m + n)))) (sym e)
      (subst (λ b. Made es (if b then NotYet (units 0) c else execute p (m + n) (m + n) (plus (units 0) k) v d)) (sym over) r)

  step_leads : (es : List E) (item : Work) (w : List Work) (c : Configuration W E) (m j n : ℕ)
      → ((i : ℕ) (v : List Work) (d : Configuration W E) → LeadToMade p m i n (steps p m v d) es → MakesEntries p (i + n) v d es)
      → (x : Step W E) → work_step p item w c ≡ x → LeadToMade p (suc m) j n (step_then x (steps p m)) es → MakesEntries p (j + n) (item ∷ w) c es
  step_leads es item w c m j n ih (Go k v d) e h = by (steps p m v d) h (ih (j - suc (total k)) v d)
    where
      by : (y : Step W E) → LeadToMade p (suc m) j n (with_cost k y) es → (LeadToMade p m (j - suc (total k)) n y es → MakesEntries p (j - suc (total k) + n) v d es) → MakesEntries p (j + n) (item ∷ w) c es
      by (Go i u f) g go =
          more es (suc (total k) + (j - suc (total k) + n)) (j + n) (item ∷ w) c (omega (arith, g.0))
          (one es item w c k v d (suc (total k)) (j - suc (total k) + n) e (omega arith) (omega arith) (go (omega (arith, g.0), g.1)))
      by (Stop i f u) g go = absurd g
  step_leads es item w c m j n ih (Stop k f d) e h = absurd h

  -- SO MANY STEPS, which compute
  pub straight : (es : List E) (m j n : ℕ) (w : List Work) (c : Configuration W E) → LeadToMade p m j n (steps p m w c) es → MakesEntries p (j + n) w c es
  straight es zero j n w c h = more es n (j + n) w c (omega arith) h.1
  straight es (suc m) j n [] c h = more es n (j + n) [] c (omega arith) h.1
  straight es (suc m) j n (item ∷ w) c h = step_leads es item w c m j n (λ i v d g. straight es m i n v d g) (work_step p item w c) refl h

  -- A CHOICE whose test may give either
  pub by_choice : (es : List E) (span : Span) (test : CExpr) (on_true on_false rest : CStmts) (w : List Work) (c : Configuration W E) (k n : ℕ) (b : Bool)
      → truth (value_of test c.state) ≡ costs k (Ok b)
      → (b ≡ true → MakesEntries p n (push on_true (push rest w)) c es) → (b ≡ false → MakesEntries p n (push on_false (push rest w)) c es)
      → MakesEntries p (1 + k + n) (act_on (choice span test on_true on_false) rest ∷ w) c es
  by_choice es span test on_true on_false rest w c k n b e left right =
      one es (act_on (choice span test on_true on_false) rest) w c (plus (units 1) (units k)) (push (if b then on_true else on_false) (push rest w)) c (1 + k) n
      (ap (λ t. then_go (units 1) c t (λ cost b. Go cost (push (if b then on_true else on_false) (push rest w)) c)) e) (omega arith) (omega arith) (ways b left right)
    where
      ways : (b : Bool) → (b ≡ true → MakesEntries p n (push on_true (push rest w)) c es) → (b ≡ false → MakesEntries p n (push on_false (push rest w)) c es) → MakesEntries p n (push (if b then on_true else on_false) (push rest w)) c es
      ways true left right = left refl
      ways false left right = right refl

  -- what is done within its limit
  paid : (R : Configuration W E → Type 0) (over : Bool) (k : Cost) (c : Configuration W E) (o : Outcome W E) → DoneWith (if over then NotYet k c else o) R → (over ≡ false) × DoneWith o R
  paid R true k c o h = absurd h
  paid R false k c o h = (refl, h)

  abbrev onto : List Work → Step W E → Step W E
  onto r (Go k w d) = Go k (w ++ r) d
  onto r (Stop k f d) = Stop k f d

  goes_onto : (es : List E) (r : List Work) (s l t m : ℕ) (a b : Cost) (c : Configuration W E) (R : Configuration W E → Type 0) (n : ℕ) → total b + l + n ≤ total a + m
      → ((k : Cost) (v : List Work) (d : Configuration W E) → total (plus a k) ≤ l → DoneWith (execute p s l (plus a k) v d) R → Made es (execute p t m (plus b k) (v ++ r) d))
      → (x : Step W E) → DoneWith (then_run x l a c (execute p s l)) R → Made es (then_run (onto r x) m b c (execute p t m))
  goes_onto es r s l t m a b c R n room ih (Go k v d) h =
      let over = paid R (nat_lt l (total (plus a k))) a c (execute p s l (plus a k) v d) h in
      let inside : total (plus a k) ≤ l = omega (arith, ltb-false l (total (plus a k)) over.0) in
      let e : nat_lt m (total (plus b k)) ≡ false = le-ltb m (total (plus b k)) (omega arith) in
      subst (λ o. Made es (if o then NotYet b c else execute p t m (plus b k) (v ++ r) d)) (sym e) (ih k v d inside over.1)
  goes_onto es r s l t m a b c R n room ih (Stop k f d) h = absurd (paid R (nat_lt l (total (plus a k))) a c (Failed (plus a k) f d) h).1

  append_onto : (es : List E) (r : List Work) (n : ℕ) (R : Configuration W E → Type 0) → ((d : Configuration W E) → R d → MakesEntries p n r d es)
      → (s l : ℕ) (a b : Cost) (w : List Work) (c : Configuration W E) (t m : ℕ) → s + suc n ≤ t → total b + l + n ≤ total a + m → total a ≤ l → DoneWith (execute p s l a w c) R → Made es (execute p t m b (w ++ r) c)
  append_onto es r n R go zero l a b w c t m st room under h = absurd h
  append_onto es r n R go (suc s) l a b [] c t m st room under h = shifts es (suc n) t n m (units 0) b r c (omega arith) (omega arith) (go c h)
  append_onto es r n R go (suc s) l a b (item ∷ w) c zero m st room under h = absurd (omega arith)
  append_onto es r n R go (suc s) l a b (item ∷ w) c (suc t) m st room under h =
      subst (λ x. Made es (then_run x m b c (execute p t m))) (sym (act_onto W E p r item w c))
      (goes_onto es r s l t m a b c R n room (λ k v d inside g. append_onto es r n R go s l (plus a k) (plus b k) v d t m (omega arith) (omega arith) inside g) (work_step p item w c) h)

  -- w, which ends, and then r: with a fact R of where w is done
  pub in_turn : (es : List E) (m n : ℕ) (w r : List Work) (c : Configuration W E) (R : Configuration W E → Type 0) → EndsIn p m w c R → ((d : Configuration W E) → R d → MakesEntries p n r d es) → MakesEntries p (m + suc n) (w ++ r) c es
  in_turn es m n w r c R h go = append_onto es r n R go (suc m) m (units 0) (units 0) w c (suc (m + suc n)) (m + suc n) (omega arith) (omega arith) (omega arith) h

  -- A LOOP that goes on for so many turns, and may go on for ever: with an invariant that knows how many turns are to come, and that the entries are made
  -- after the last of them. A turn's test costs k, and its body b.
  module _ (J : ℕ → Configuration W E → Type 0) (es : List E) (test : CExpr) (body rest : CStmts) (w : List Work) (k b : ℕ)
      (turns : (j : ℕ) (d : Configuration W E) → J (suc j) d → (truth (value_of test d.state) ≡ costs k (Ok true)) × EndsIn p b (push body []) d (J j))
      (last : (d : Configuration W E) → J 0 d → IsBeginningOf es (journal_so_far d)) where
    -- a turn from its body on
    bodily : (j n : ℕ) (c : Configuration W E) → J (suc j) c → ((d : Configuration W E) → J j d → MakesEntries p n (again test body rest ∷ w) d es) → MakesEntries p (b + suc n) (push body (again test body rest ∷ w)) c es
    bodily j n c h go =
        subst (λ v. MakesEntries p (b + suc n) v c es) (sym (push_onto W E p (again test body rest ∷ w) body []))
        (in_turn es b n (push body []) (again test body rest ∷ w) c (J j) (turns j c h).1 go)

    pub by_turns : (j : ℕ) (c : Configuration W E) → J j c → MakesEntries p (j * (1 + k + suc b)) (again test body rest ∷ w) c es
    by_turns zero c h = made es _ (again test body rest ∷ w) c (last c h)
    by_turns (suc j) c h =
        more es (1 + k + (b + suc (j * (1 + k + suc b)))) (suc j * (1 + k + suc b)) (again test body rest ∷ w) c (omega arith)
        (one es (again test body rest) w c (plus (units 1) (units k)) (push body (again test body rest ∷ w)) c (1 + k) (b + suc (j * (1 + k + suc b)))
        (ap (λ t. then_go (units 1) c t (λ cost b. Go cost (if b then push body (again test body rest ∷ w) else push rest w) c)) (turns j c h).0) (omega arith) (omega arith)
        (bodily j (j * (1 + k + suc b)) c h (by_turns j)))

    -- from the loop's beginning on
    pub by_while : (span : Span) (j : ℕ) (c : Configuration W E) → J j c → MakesEntries p (suc (j * (1 + k + suc b))) (act_on (loop span test body) rest ∷ w) c es
    by_while span zero c h = made es _ (act_on (loop span test body) rest ∷ w) c (last c h)
    by_while span (suc j) c h =
        more es (2 + k + (b + suc (j * (1 + k + suc b)))) (suc (suc j * (1 + k + suc b))) (act_on (loop span test body) rest ∷ w) c (omega arith)
        (one es (act_on (loop span test body) rest) w c (plus (units 2) (units k)) (push body (again test body rest ∷ w)) c (2 + k) (b + suc (j * (1 + k + suc b)))
        (ap (λ t. then_go (units 2) c t (λ cost b. Go cost (if b then push body (again test body rest ∷ w) else push rest w) c)) (turns j c h).0) (omega arith) (omega arith)
        (bodily j (j * (1 + k + suc b)) c h (by_turns j)))

take_begins : (k : ℕ) (es all : List ℤ) → IsBeginningOf es all → IsBeginningOf (take k es) (take k all)
take_begins zero es all h = record { more = []; is = refl }
take_begins (suc k) [] all h = record { more = take (suc k) all; is = refl }
take_begins (suc k) (x ∷ es) all h =
    let r = take_begins k es (es ++ h.more) (record { more = h.more; is = refl }) in
    record { more = r.more; is = ap (take (suc k)) h.is ∙ ap (λ xs. x ∷ xs) r.is }

pub made_is_asked : MadeIsAsked
made_is_asked u given es n h =
    let o : Outcome (List ℤ) ℤ = call_first (record { unit = u; heap = 1024; stack = 1024; meaning = trap }) n (first_number User u) empty (first_state u) given in
    let r = take_begins (suc (length given)) es (journal_so_far (stands_at o)) h in
    record { more = r.more; is = cut given (outcome_seen o) ∙ ap (take (suc (length given))) (seen_there o) ∙ r.is }
