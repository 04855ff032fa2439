-- Answers that come later change nothing of what a program asks before them: with a longer list each step is the same, up to the first call past the
-- shorter one, which asks the same.
use Rattle.std.proofs.Common.{◌≡◌, ◌⊎◌, inl, inr, ℕ, zero, suc, ◌+◌, ◌≤◌, List, [], ◌∷◌, ◌++◌, length, take, Bool, true, false, nat_lt, refl, sym, ap, ◌∙◌, subst, arith, append_assoc, length-append, ltb-true}
use Rattle.std.specs.Prelude.{ℤ, ok_or, if◌then◌else◌, Ok, Err, slice_get}
use Rattle.std.proofs.lemmas.Bool.{ltb-false}
use Rattle.std.proofs.lemmas.List.{take_all, take-take, take-append-le}
use Rattle.c0_tree.specs.declared.primitive.Program.TheVariants.{User}
use Rattle.c0_tree.specs.declared.tree.Kind.{Kind}
use Rattle.c0_tree.specs.declared.tree.Kind.TheVariants.{Function, Primitive}
use Rattle.c0_tree.specs.Tree.{CExpr, assign, call, new, choice, loop, CStmts, CBody, code, asm, CUnit}
use Rattle.c0_meaning.specs.Ty.{ty_of}
use Rattle.c0_meaning.specs.Limits.{words_of_frame, first_number}
use Rattle.c0_meaning.specs.Sound.{shapes}
use Rattle.c0_meaning.specs.Value.{Value, Values, empty}
use Rattle.c0_meaning.specs.State.{stack_words, first_state}
use Rattle.c0_meaning.specs.Words.{words}
use Rattle.c0_meaning.specs.Operators.{stuck}
use Rattle.c0_meaning.specs.Evaluation.{Costed, costs, at_no_cost, truth, value_of, values_of, place_of}
use Rattle.c0_meaning.specs.World.{Setting, Cost, units, total, plus, Configuration, beginning, all_entries, journal_so_far}
use Rattle.c0_meaning.specs.Running.{Target, into, outward, Work, act_on, finish, again, leave, begin, Step, Go, Stop, then_go, store, deliver, enter, call_function, call_with, work_step}
use Rattle.c0_meaning.specs.Execution.{Outcome, Done, Failed, NotYet, then_run, execute, call_first}
use Rattle.c0_meaning.specs.UserProgram.{trap_argument, trap, Seen, not_yet, up_to, outcome_seen, prog}
use Rattle.c0_meaning.specs.RunLaws.{HasEnded, stands_at}
use Rattle.c0_meaning.specs.ProgramLaws.{AnswersAheadDontMatter}
use Rattle.c0_meaning.proofs.StepsTakeUnits.{extends_run}

abbrev Conf : Type 0
Conf = Configuration (List ℤ) ℤ

abbrev Stepped : Type 0
Stepped = Step (List ℤ) ℤ

pub entries_join : {E : Type 0} (a b : List (List E)) → all_entries (a ++ b) ≡ all_entries a ++ all_entries b
entries_join [] b = refl
entries_join (x ∷ a) b = ap (λ xs. x ++ xs) (entries_join a b) ∙ sym (append_assoc x (all_entries a) (all_entries b))

-- what is seen of an outcome are the arguments where it stands
pub seen_there : (o : Outcome (List ℤ) ℤ) → (outcome_seen o).arguments ≡ journal_so_far (stands_at o)
seen_there (Done k c) = refl
seen_there (Failed k f c) = refl
seen_there (NotYet k c) = refl

-- the calls so far, and the answers that are left
abbrev count : Conf → ℕ
count c = length (journal_so_far c) + length c.world

module _ (p : Setting (List ℤ) ℤ) (is_trap : p.meaning ≡ trap) (later : List ℤ) where
  -- with later answers
  abbrev onward : Conf → Conf
  onward c = record c { world = c.world ++ later }

  -- a step that is the same with them
  abbrev Same : Conf → Stepped → Stepped → Type 0
  Same c (Go k w d) y = (y ≡ Go k w (onward d)) × (count d ≡ count c)
  Same c (Stop k f d) y = (y ≡ Stop k f (onward d)) × (count d ≡ count c)

  -- a call past the last answer
  record Past (c : Conf) (x y : Stepped) : Type 0 where
    a : ℤ
    k : Cost
    w : List Work
    v : List Work
    d : Conf
    e : Conf
    x_is : x ≡ Go k w d
    y_is : y ≡ Go k v e
    x_calls : d.calls ≡ c.calls ++ (a ∷ []) ∷ []
    y_calls : e.calls ≡ c.calls ++ (a ∷ []) ∷ []
    none : c.world ≡ []

  abbrev Fits : Conf → Stepped → Stepped → Type 0
  Fits c x y = Same c x y ⊎ Past c x y

  goes : {A : Type 0} (k : Cost) (c : Conf) (e : Costed A) (f g : Cost → A → Stepped) → ((j : Cost) (x : A) → Fits c (f j x) (g j x)) → Fits c (then_go k c e f) (then_go k (onward c) e g)
  goes k c (costs n (Ok x)) f g h = h (plus k (units n)) x
  goes k c (costs n (Err x)) f g h = inl (refl, refl)

  either : (c : Conf) (b : Bool) (x y x' y' : Stepped) → Fits c x x' → Fits c y y' → Fits c (if b then x else y) (if b then x' else y')
  either c true x y x' y' h g = h
  either c false x y x' y' h g = g

  stores : (k : Cost) (place : CExpr) (v : Value) (rest : CStmts) (w : List Work) (c : Conf) → Fits c (store k place v rest w c) (store k place v rest w (onward c))
  stores k place v rest w c = goes k c (place_of place c.state) _ _ (λ j l. inl (refl, refl))

  delivers : (b : Conf) (k : Cost) (target : Target) (v : Value) (w : List Work) (c : Conf) → count c ≡ count b → Fits b (deliver k target v w c) (deliver k target v w (onward c))
  delivers b k (into place rest) v w c e = inl (refl, e)
  delivers b k outward v w c e = inl (refl, e)

  enters : (k : Cost) (n : ℕ) (body : CBody) (args : Values) (target : Target) (w : List Work) (c : Conf) → Fits c (enter p k n body args target w c) (enter p k n body args target w (onward c))
  enters k n (code locals stmts answer) args target w c = inl (refl, refl)
  enters k n (asm text span words) args target w c = delivers c _ target _ w c refl

  calls : (k : Cost) (n : ℕ) (args : Values) (target : Target) (w : List Work) (c : Conf) → Fits c (call_function p k n args target w c) (call_function p k n args target w (onward c))
  calls k n args target w c =
      goes (plus k (units 1)) c (at_no_cost (ok_or (slice_get p.unit.functions n) stuck)) _ _
      (λ j f. either c (nat_lt p.stack (stack_words p.unit c.state.frames + words_of_frame (shapes p.unit) f)) _ _ _ _ (inl (refl, refl)) (enters j n f.body args target w c))

  -- a call of `trap`
  abbrev told : Setting (List ℤ) ℤ
  told = record p { meaning = trap }

  asks : (k : Cost) (n : ℕ) (args : Values) (target : Target) (w : List Work) (c : Conf) → Fits c (call_with p k Primitive n args target w c) (call_with p k Primitive n args target w (onward c))
  asks k n args target w c =
      subst (λ m. let q : Setting (List ℤ) ℤ = record p { meaning = m } in Fits c (call_with q k Primitive n args target w c) (call_with q k Primitive n args target w (onward c))) (sym is_trap) (by c.world target)
    where
      by : (ws : List ℤ) (target : Target) → let b : Conf = record c { world = ws } in Fits b (call_with told k Primitive n args target w b) (call_with told k Primitive n args target w (onward b))
      by [] (into place rest) = inr (record { a = _; k = _; w = _; v = _; d = _; e = _; x_is = refl; y_is = refl; x_calls = refl; y_calls = refl; none = refl })
      by [] outward = inr (record { a = _; k = _; w = _; v = _; d = _; e = _; x_is = refl; y_is = refl; x_calls = refl; y_calls = refl; none = refl })
      by (z ∷ ws) target = delivers (record c { world = z ∷ ws }) _ target _ w _
          (let e = ap length (entries_join c.calls ((trap_argument args ∷ []) ∷ [])) ∙ length-append (journal_so_far c) (trap_argument args ∷ []) in omega (arith, e))

  calls_with : (k : Cost) (kind : Kind) (n : ℕ) (args : Values) (target : Target) (w : List Work) (c : Conf) → Fits c (call_with p k kind n args target w c) (call_with p k kind n args target w (onward c))
  calls_with k Function n args target w c = calls k n args target w c
  calls_with k Primitive n args target w c = asks k n args target w c
  calls_with k _ n args target w c = inl (refl, refl)

  acts : (item : Work) (w : List Work) (c : Conf) → Fits c (work_step p item w c) (work_step p item w (onward c))
  acts (act_on (assign span place v) rest) w c = goes (units 1) c (value_of v c.state) _ _ (λ j x. stores j place x rest w c)
  acts (act_on (call span place call_span function args) rest) w c = goes (units 1) c (values_of args c.state) _ _ (λ j vs. calls_with j function.kind function.number vs (into place rest) w c)
  acts (act_on (new span place t ty_span) rest) w c = either c (nat_lt p.heap (c.state.heap_words + words (shapes p.unit) (ty_of t))) _ _ _ _ (inl (refl, refl)) (inl (refl, refl))
  acts (act_on (choice span test a b) rest) w c = goes (units 1) c (truth (value_of test c.state)) _ _ (λ j b. inl (refl, refl))
  acts (act_on (loop span test body) rest) w c = goes (units 2) c (truth (value_of test c.state)) _ _ (λ j b. inl (refl, refl))
  acts (finish place v rest) w c = stores (units 0) place v rest w c
  acts (again test body rest) w c = goes (units 1) c (truth (value_of test c.state)) _ _ (λ j b. inl (refl, refl))
  acts (leave answer target) w c = goes (units 0) c (value_of answer c.state) _ _ (λ j v. delivers c j target v w _ refl)
  acts (begin n args) w c = calls (units 0) n args outward w c

  -- how two outcomes meet: the same is seen, and no more than the answers are asked; or one argument more than the answers is seen, and so far the same
  record Alike (given : ℕ) (o r : Outcome (List ℤ) ℤ) : Type 0 where
    pub same : outcome_seen o ≡ outcome_seen r
    pub few : length (outcome_seen o).arguments ≤ given

  record Beyond (given : ℕ) (o r : Outcome (List ℤ) ℤ) : Type 0 where
    pub first : List ℤ
    pub long : length first ≡ suc given
    pub more : List ℤ
    pub others : List ℤ
    pub one : (outcome_seen o).arguments ≡ first ++ more
    pub two : (outcome_seen r).arguments ≡ first ++ others

  abbrev Meets : ℕ → Outcome (List ℤ) ℤ → Outcome (List ℤ) ℤ → Type 0
  Meets given o r = Alike given o r ⊎ Beyond given o r

  grows : (s l : ℕ) (used : Cost) (w : List Work) (c : Conf) → (more : List ℤ) × ((outcome_seen (execute p s l used w c)).arguments ≡ journal_so_far c ++ more)
  grows s l used w c =
      let e = extends_run (List ℤ) ℤ p s l used w c in
      (all_entries e.more, seen_there (execute p s l used w c) ∙ ap all_entries e.is ∙ entries_join c.calls e.more)

  abbrev After : Type 0
  After = Cost → List Work → Conf → Outcome (List ℤ) ℤ

  stays : (given : ℕ) (used : Cost) (c : Conf) → count c ≡ given → Meets given (NotYet used c) (NotYet used (onward c))
  stays given used c e = inl (record { same = refl; few = omega (arith, e) })

  picks : (given : ℕ) (b : Bool) (x x' y y' : Outcome (List ℤ) ℤ) → Meets given x x' → Meets given y y' → Meets given (if b then x else y) (if b then x' else y')
  picks given true x x' y y' h g = h
  picks given false x x' y y' h g = g

  steps : (given l : ℕ) (used : Cost) (c : Conf) (f : After) (x y : Stepped) → count c ≡ given → Fits c x y
      → ((k : Cost) (w : List Work) (d : Conf) → count d ≡ given → Meets given (f k w d) (f k w (onward d)))
      → ((k : Cost) (w : List Work) (d : Conf) → (more : List ℤ) × ((outcome_seen (f k w d)).arguments ≡ journal_so_far d ++ more))
      → Meets given (then_run x l used c f) (then_run y l used (onward c) f)
  steps given l used c f (Go k w d) y e (inl s) go grow =
      subst (λ t. Meets given (then_run (Go k w d) l used c f) (then_run t l used (onward c) f)) (sym s.0)
      (picks given (nat_lt l (total (plus used k))) _ _ _ _ (stays given used c e) (go (plus used k) w d (s.1 ∙ e)))
  steps given l used c f (Stop k x d) y e (inl s) go grow =
      subst (λ t. Meets given (then_run (Stop k x d) l used c f) (then_run t l used (onward c) f)) (sym s.0)
      (picks given (nat_lt l (total (plus used k))) _ _ _ _ (stays given used c e) (inl (record { same = refl; few = omega (arith, s.1, e) })))
  steps given l used c f x y e (inr s) go grow =
      subst (λ t. Meets given (then_run t l used c f) (then_run y l used (onward c) f)) (sym s.x_is)
      (subst (λ t. Meets given (then_run (Go s.k s.w s.d) l used c f) (then_run t l used (onward c) f)) (sym s.y_is)
      (picks given (nat_lt l (total (plus used s.k))) _ _ _ _ (stays given used c e)
      (let g = grow (plus used s.k) s.w s.d in
      let h = grow (plus used s.k) s.v s.e in
      let size : length (journal_so_far c) + length c.world ≡ given = e in
      let none : length c.world ≡ 0 = ap length s.none in
      let long : length (journal_so_far c ++ s.a ∷ []) ≡ length (journal_so_far c) + 1 = length-append (journal_so_far c) (s.a ∷ []) in
      inr (record {
        first = journal_so_far c ++ s.a ∷ [];
        long = omega (arith, long, size, none);
        more = g.0;
        others = h.0;
        one = g.1 ∙ ap (λ xs. xs ++ g.0) (ap all_entries s.x_calls ∙ entries_join c.calls ((s.a ∷ []) ∷ []));
        two = h.1 ∙ ap (λ xs. xs ++ h.0) (ap all_entries s.y_calls ∙ entries_join c.calls ((s.a ∷ []) ∷ []));
      }))))

  runs : (given s l : ℕ) (used : Cost) (w : List Work) (c : Conf) → count c ≡ given → Meets given (execute p s l used w c) (execute p s l used w (onward c))
  runs given zero l used w c e = stays given used c e
  runs given (suc s) l used [] c e = inl (record { same = refl; few = omega (arith, e) })
  runs given (suc s) l used (item ∷ w) c e =
      steps given l used c (execute p s l) (work_step p item w c) (work_step p item w (onward c)) e (acts item w c) (λ k v d h. runs given s l k v d h) (λ k v d. grows s l k v d)

-- a program's arguments are the first ones, one more than there are answers
pub cut : (given : List ℤ) (s : Seen) → (up_to given s).arguments ≡ take (suc (length given)) s.arguments
cut given s = by (nat_lt (length given) (length s.arguments)) refl
  where
    by : (b : Bool) → nat_lt (length given) (length s.arguments) ≡ b → (if b then record { arguments = take (suc (length given)) s.arguments; ending = not_yet } else s).arguments ≡ take (suc (length given)) s.arguments
    by true e = refl
    by false e = let le = ltb-false (length given) (length s.arguments) e in sym (take_all (suc (length given)) s.arguments (omega (arith, le)))

pub whole : (given : List ℤ) (s : Seen) → length s.arguments ≤ length given → up_to given s ≡ s
whole given s le = by (nat_lt (length given) (length s.arguments)) refl
  where
    by : (b : Bool) → nat_lt (length given) (length s.arguments) ≡ b → (if b then record { arguments = take (suc (length given)) s.arguments; ending = not_yet } else s) ≡ s
    by true e = let lt = ltb-true (length given) (length s.arguments) e in absurd (omega (arith, le, lt))
    by false e = refl

pub ended_few : (given : List ℤ) (s : Seen) → HasEnded (up_to given s).ending → length s.arguments ≤ length given
ended_few given s h = by (nat_lt (length given) (length s.arguments)) refl h
  where
    by : (b : Bool) → nat_lt (length given) (length s.arguments) ≡ b → HasEnded (if b then record { arguments = take (suc (length given)) s.arguments; ending = not_yet } else s).ending → length s.arguments ≤ length given
    by true e h = absurd h
    by false e h = let le = ltb-false (length given) (length s.arguments) e in omega (arith, le)

module _ (u : CUnit) (given later : List ℤ) (n : ℕ) where
  abbrev ran : List ℤ → Outcome (List ℤ) ℤ
  ran answers = call_first (record { unit = u; heap = 1024; stack = 1024; meaning = trap }) n (first_number User u) empty (first_state u) answers

  meets : Meets (record { unit = u; heap = 1024; stack = 1024; meaning = trap }) refl later (length given) (ran given) (ran (given ++ later))
  meets =
      runs (record { unit = u; heap = 1024; stack = 1024; meaning = trap }) refl later (length given) (suc n) n (units 0) (begin (first_number User u) empty ∷ [])
      (beginning (record (first_state u) { frames = [] }) given) (omega arith)

  longer : length given ≤ length (given ++ later)
  longer = let e = length-append given later in omega (arith, e)

  arguments : (prog u given n).arguments ≡ take (suc (length given)) (prog u (given ++ later) n).arguments
  arguments =
      let le = longer in
      cut given (outcome_seen (ran given)) ∙ by meets ∙ sym (take-take (suc (length given)) (suc (length (given ++ later))) (outcome_seen (ran (given ++ later))).arguments (omega (arith, le)))
      ∙ ap (take (suc (length given))) (sym (cut (given ++ later) (outcome_seen (ran (given ++ later)))))
    where
      by : Meets (record { unit = u; heap = 1024; stack = 1024; meaning = trap }) refl later (length given) (ran given) (ran (given ++ later))
          → take (suc (length given)) (outcome_seen (ran given)).arguments ≡ take (suc (length given)) (outcome_seen (ran (given ++ later))).arguments
      by (inl s) = ap (λ (q : Seen). take (suc (length given)) q.arguments) s.same
      by (inr s) =
          let long = s.long in
          ap (take (suc (length given))) s.one ∙ take-append-le (suc (length given)) s.first s.more (omega (arith, long))
          ∙ sym (ap (take (suc (length given))) s.two ∙ take-append-le (suc (length given)) s.first s.others (omega (arith, long)))

  ending : HasEnded (prog u given n).ending → prog u (given ++ later) n ≡ prog u given n
  ending h = by meets
    where
      few : length (outcome_seen (ran given)).arguments ≤ length given
      few = ended_few given (outcome_seen (ran given)) h

      by : Meets (record { unit = u; heap = 1024; stack = 1024; meaning = trap }) refl later (length given) (ran given) (ran (given ++ later)) → prog u (given ++ later) n ≡ prog u given n
      by (inl s) =
          let le = longer in
          let f = few in
          let same_long = ap (λ (q : Seen). length q.arguments) s.same in
          whole (given ++ later) (outcome_seen (ran (given ++ later))) (omega (arith, le, f, same_long)) ∙ sym s.same ∙ sym (whole given (outcome_seen (ran given)) f)
      by (inr s) =
          let f = few in
          let long = s.long in
          let one = ap length s.one ∙ length-append s.first s.more in
          absurd (omega (arith, f, long, one))

pub answers_ahead : AnswersAheadDontMatter
answers_ahead = record { arguments = arguments; ending = ending }
