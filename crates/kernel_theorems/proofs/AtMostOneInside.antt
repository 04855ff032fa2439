-- The kernel semaphore: each of its dispatches keeps what is so between them.
use native.Mathlib.Nat.{mod-lt}
use Rattle.std.proofs.Common.{◌≡◌, ◌≢◌, ℕ, suc, ◌+◌, ◌%◌, ◌≤◌, ◌<◌, List, [], ◌∷◌, ◌++◌, true, false, nat_lt, Some, refl, sym, ap, ◌∙◌, subst, arith}
use Rattle.std.specs.Prelude.{pos, ◌==◌, if◌then◌else◌}
use Rattle.std.specs.Int.{w32}
use Rattle.std.specs.Ordering.{int_eq}
use Rattle.std.proofs.lemmas.Bool.{le-ltb, eqb-true, eq-eqb, ne_eqb}
use Rattle.std.proofs.lemmas.Int.{int_wrap_fits}
use Rattle.mips_table.specs.declared.cause.Cause.TheVariants as causes
use Rattle.kernel_theorems.proofs.ForKernels.{signed, Cause, cause_number, int, Core, KernelMeaning, user_of, IsUser, System, first_core, Next, Dispatch, IsTrap, IsInvariant, Shaped, RunsAreLawful, invariants_hold}
use Rattle.kernel_theorems.proofs.ForKernels.{is_call_of, set_in, SetsAreFound, EachHas, each_more, told_more, not_both, left_of, and_false, by_test, by_same, by_equal, small_fits, Caller, caller, AnsweredCall, answered_call, quiet_dispatch, Does, keeps_from, to_user}
use Rattle.kernel_theorems.specs.SemaphoreTree.{semaphore}
use Rattle.kernel_theorems.specs.Semaphore.{data_of, asks, inside_after, inside, IsAnswered, Between, Runs, AtMostOneIsInside}

abbrev InsideIs : List Dispatch → ℕ → Type 0
InsideIs past who = (u : ℕ) → 1 ≤ u → inside u past ≡ (who == u)

-- BEHIND A DISPATCH, by who is inside then
between : (past : List Dispatch) (d : Dispatch) (who new u : ℕ) → InsideIs past who → ((v : ℕ) → 1 ≤ v → inside_after v (who == v) d ≡ (new == v)) → EachHas IsAnswered [] past → IsAnswered past d
    → Between (past ++ d ∷ []) (data_of (record { owner = pos new })) u
between past d who new u h now answered is =
    let then_is : InsideIs (past ++ d ∷ []) new = λ v some. told_more (inside_after v) false past d ∙ ap (λ b. inside_after v b d) (h v some) ∙ now v some in
    let one = λ (v w : ℕ) (some : 1 ≤ v) (other : 1 ≤ w) (in_v : inside v (past ++ d ∷ []) ≡ true) (in_w : inside w (past ++ d ∷ []) ≡ true).
    sym (eqb-true new v (sym (then_is v some) ∙ in_v)) ∙ eqb-true new w (sym (then_is w other) ∙ in_w) in
    record { values = record { owner = pos new }; data_is = refl; who = new; held = refl; inside_is = then_is; one = one; answered = each_more IsAnswered [] past d answered is }

-- where nobody asks, nobody is told anything
unasked : (past : List Dispatch) (d : Dispatch) → ((v : ℕ) → asks v d ≡ false) → ((v : ℕ) → user_of d.after.users v ≡ user_of d.before.users v) → IsAnswered past d
unasked past d none kept =
    let nobody = λ (u : ℕ) (e : asks u d ≡ true). not_both (asks u d) e (none u) in
    record { free = λ u some e out. absurd (nobody u e); taken = λ u v some other e in_v. absurd (nobody u e); others = λ u some e. kept u }

-- a quiet dispatch
quiet : (past : List Dispatch) (d : Dispatch) (who u : ℕ) → InsideIs past who → EachHas IsAnswered [] past → (d.cause == 6) ≡ false → d.after.users ≡ d.before.users
    → Between (past ++ d ∷ []) (data_of (record { owner = pos who })) u
quiet past d who u h answered none same = between past d who who u h (λ v some. rw none refl) answered (unasked past d (λ v. rw none refl) (quiet_dispatch d none same).kept)

module _ (sets : SetsAreFound) (y : System) (r : Runs y) where
  -- A SYSTEM CALL of the current user, from where this one is inside
  module _ (k edata : ℕ) (past : List Dispatch) (at : Core) (user : IsUser at at.current) (fits : Caller y at) (who : ℕ) (h : InsideIs past who) (answered : EachHas IsAnswered [] past) where
    abbrev call : Core → Next → Dispatch
    call o next = record { turn = k; cause = 6; edata = edata; before = at; after = o; next = next }

    -- from the current user to all
    now : (o : Core) (next : Next) (new : ℕ) → inside_after at.current (who == at.current) (call o next) ≡ (new == at.current) → ((v : ℕ) → 1 ≤ v → at.current ≢ v → (who == v) ≡ (new == v))
        → (v : ℕ) → 1 ≤ v → inside_after v (who == v) (call o next) ≡ (new == v)
    now o next new own rest v some =
        by_same at.current v (λ e same. subst (λ x. inside_after x (who == x) (call o next) ≡ (new == x)) same own) (λ e other. rw e (rest v some other))

    -- it asks, and finds this
    finds : (o : Core) (next : Next) (a : ℕ) → a ≤ 1 → o.users ≡ set_in at.users at.current 2 (pos a) → AnsweredCall (call o next) 2 (pos a)
    finds o next a few users = answered_call sets y (call o next) 2 (pos a) refl fits user (omega arith) (small_fits a (omega (arith, few))) users

    -- nobody is inside: it is let in
    let_in : (o : Core) (next : Next) (u : ℕ) → int_eq (signed edata) (pos 12) ≡ true → who ≡ 0 → o.users ≡ set_in at.users at.current 2 (pos 1) → Between (past ++ call o next ∷ []) (data_of (record { owner = pos at.current })) u
    let_in o next u e none users =
        let c = finds o next 1 (omega arith) users in
        let same = eq-eqb at.current at.current refl in
        let found = c.found at.current same in
        let nobody : (v : ℕ) → 1 ≤ v → (who == v) ≡ false = λ v some. ne_eqb who v (λ s. omega (arith, s, none, some)) in
        between past (call o next) who at.current u h (now o next at.current (rw (same, e, found) refl) (λ v some other. nobody v some ∙ sym (ne_eqb at.current v other))) answered
        (record { free = λ v some asked out. c.found v (left_of (is_call_of v (call o next)) _ asked); taken = λ v w some other asked in_w. absurd (not_both (inside w past) in_w (h w other ∙ nobody w other)); others = c.others })

    -- somebody is: it is not
    kept_out : (o : Core) (next : Next) (u : ℕ) → int_eq (signed edata) (pos 12) ≡ true → who ≢ 0 → o.users ≡ set_in at.users at.current 2 (pos 0) → Between (past ++ call o next ∷ []) (data_of (record { owner = pos who })) u
    kept_out o next u e some users =
        let c = finds o next 0 (omega arith) users in
        let same = eq-eqb at.current at.current refl in
        let found = c.found at.current same in
        let one : 1 ≤ who = omega (arith, some) in
        between past (call o next) who who u h (now o next who (rw (same, e, found) refl) (λ v few other. refl)) answered
        (record { free = λ v few asked out. absurd (not_both (inside who past) (h who one ∙ eq-eqb who who refl) (out who one)); taken = λ v w few other asked in_w. c.found v (left_of (is_call_of v (call o next)) _ asked); others = c.others })

    -- it doesn't ask
    unheard : (o : Core) (next : Next) (new u : ℕ) → int_eq (signed edata) (pos 12) ≡ false → (if int_eq (signed edata) (pos 76) then false else (who == at.current)) ≡ (new == at.current)
        → ((v : ℕ) → 1 ≤ v → at.current ≢ v → (who == v) ≡ (new == v)) → o.users ≡ at.users → Between (past ++ call o next ∷ []) (data_of (record { owner = pos new })) u
    unheard o next new u e own rest users =
        let same = eq-eqb at.current at.current refl in
        between past (call o next) who new u h (now o next new (rw (same, e) own) rest) answered (unasked past (call o next) (λ v. rw e (and_false (at.current == v))) (λ v. ap (λ us. user_of us v) users))

  -- the stack has room for the frame of `dispatch`
  has_room : nat_lt y.boot.params.stack 9 ≡ false
  has_room = le-ltb y.boot.params.stack 9 (omega (arith, r.room))

  -- THE CODE of a dispatch, from where this one is inside
  abbrev Goes : (k cause edata : ℕ) → List Dispatch → Core → ℕ → Type 0
  Goes k cause edata past at who = Does y semaphore r.meaning_is 400 Between k cause edata past at (data_of (record { owner = pos who }))

  called : (k edata : ℕ) (past : List Dispatch) (at : Core) → IsUser at at.current → Caller y at → (who : ℕ) → InsideIs past who → EachHas IsAnswered [] past → Goes k 6 edata past at who
  called k edata past at user c who h answered = by_test (int_eq (signed edata) (pos 12))
      (λ e. by_equal who 0
      (λ f none. rw (has_room, e, f, c.from, c.to) (to_user at.current refl c.some c.few (let_in k edata past at user c who h answered _ _ at.current e none refl)))
      (λ f some. rw (has_room, e, f, c.from, c.to) (to_user at.current refl c.some c.few (kept_out k edata past at user c who h answered _ _ at.current e some refl))))
      (λ e. by_test (int_eq (signed edata) (pos 76))
      (λ f. by_equal who at.current
      (λ g same. rw (has_room, e, f, g) (to_user at.current refl c.some c.few (unheard k edata past at user c who h answered _ _ 0 at.current e
      (rw f (sym (ne_eqb 0 at.current (λ s. let some = c.some in omega (arith, s, some))))) (λ v some other. rw (ne_eqb who v (λ s. other (sym same ∙ s)), ne_eqb 0 v (λ s. omega (arith, s, some))) refl) refl)))
      (λ g other. rw (has_room, e, f, g) (to_user at.current refl c.some c.few (unheard k edata past at user c who h answered _ _ who at.current e (rw f (sym (ne_eqb who at.current other))) (λ v some other. refl) refl))))
      (λ f. rw (has_room, e, f) (to_user at.current refl c.some c.few (unheard k edata past at user c who h answered _ _ who at.current e (rw f refl) (λ v some other. refl) refl))))

  -- a line: the next user of three
  lined : (k mask : ℕ) (past : List Dispatch) (at : Core) (who : ℕ) → InsideIs past who → EachHas IsAnswered [] past → Goes k 1 mask past at who
  lined k mask past at who h answered =
      let less : at.current % 3 < 3 = mod-lt at.current (omega arith) in
      let next = int_wrap_fits w32 (pos (at.current % 3 + 1)) (small_fits (at.current % 3 + 1) (omega (arith, less))) in
      rw has_room (to_user (at.current % 3 + 1) (ap (λ v. Some (int v)) next) (omega arith) (let three = r.three in omega (arith, three, less)) (quiet past _ who (at.current % 3 + 1) h answered refl refl))

  -- a trap: a system call, or another cause, which changes nothing
  trapped : (k : ℕ) (cause : Cause) (edata : ℕ) (past : List Dispatch) (at : Core) → IsTrap cause → IsUser at at.current → Caller y at → (who : ℕ) → InsideIs past who → EachHas IsAnswered [] past
      → Goes k (cause_number cause) edata past at who
  trapped k causes.Reset edata past at is user c who h answered = absurd is
  trapped k causes.External edata past at is user c who h answered = absurd is
  trapped k causes.Syscall edata past at is user c who h answered = called k edata past at user c who h answered
  trapped k other edata past at is user c who h answered = rw has_room (to_user at.current refl c.some c.few (quiet past _ who at.current h answered refl refl))

  invariant : IsInvariant y 400 (Shaped y) Between
  invariant = record {
    start = λ fit. keeps_from y semaphore r.meaning_is 400 Between 0 0 0 [] (first_core y) _ (ap (λ (m : KernelMeaning). m.first) r.meaning_is)
        (rw has_room (to_user 1 refl (omega arith) (let three = r.three in omega (arith, three)) (quiet [] _ 0 1 (λ v some. sym (ne_eqb 0 v (λ s. omega (arith, s, some)))) tt refl refl)));
    line = λ k mask past at some eight fit user h. keeps_from y semaphore r.meaning_is 400 Between (suc k) 1 mask past at _ (h.data_is ∙ ap (λ o. data_of (record { owner = o })) h.held)
        (lined (suc k) mask past at h.who h.inside_is h.answered);
    trap = λ k cause edata past before at came fit user h.
        keeps_from y semaphore r.meaning_is 400 Between (suc k) (cause_number cause) edata past at _ (h.data_is ∙ ap (λ o. data_of (record { owner = o })) h.held)
        (trapped (suc k) cause edata past at came.is user (caller y at user fit) h.who h.inside_is h.answered);
  }

pub at_most_one_is_inside : SetsAreFound → RunsAreLawful → AtMostOneIsInside
at_most_one_is_inside sets laws y r lines eight k =
    invariants_hold laws y semaphore 400 (Shaped y) Between r.meaning_is (laws.shaped y semaphore r.meaning_is r.fit) (invariant sets y r) lines eight k
