-- Journals with more units, and how what is shown of a user goes on: over the CVM run alone.
-- It serves `traces_grow` alone.
use Rattle.std.proofs.Common.{◌≡◌, ◌≢◌, ℕ, zero, suc, ◌+◌, ◌<◌, ◌≤◌, Bool, true, false, cond, min, Option, Some, None, List, [], ◌∷◌, ◌++◌, length, take, refl, sym, ap, ap₂, ◌∙◌, arith, append-nil, lt-ltb, le-ltb, ltb-true}
use Rattle.std.specs.Prelude.{◌==◌, nat_lt, bit_or, pos, ℤ, slice_get}
use Rattle.std.proofs.lemmas.Bool.{cond-true, cond-false}
use Rattle.std.proofs.lemmas.List.{length-take, take-take, take_all, append_assoc}
use Rattle.mips_table.specs.Arith.{signed}
use Rattle.cvm_model.specs.Kernel.{Core, Changes, JournalEntry, Trapped, MeaningLaws, KernelMeaning, DispatchOutcome, DispatchEnd, Answers, Faults, NotYet}
use Rattle.cvm_model.specs.Cvm.{System, Status, Running, Halted, Faulted, Cvm, Begin, Steps, Traps, Interrupts, begin, dispatch_of, after_dispatch, dispatches, begun, turn_by, turn, cvm}
use Rattle.cvm_model.specs.Journal.{changes_of, begin_calls, turn_calls, begin_entries, running_entries, turn_entries, journal}
use Rattle.boot_turns.proofs.MoreUnits.{cvm_more}

none_some : {A : Type 0} (p : A) → None ≡ Some p → ⊥
none_some p e = cc

same_some : {A : Type 0} (a b : A) → Some a ≡ Some b → a ≡ b
same_some a b h = cc

-- the calls of a dispatch with more units
module _ (e : KernelMeaning) (laws : MeaningLaws e) (c : Core) (cause edata user : ℤ) where
  abbrev calls : ℕ → List Changes
  calls n = (e.dispatch n c cause edata user).calls

  pub calls_grow : (n d : ℕ) → length (e.dispatch n c cause edata user).calls ≤ length (e.dispatch (n + d) c cause edata user).calls
  calls_grow n d =
      let a : length (take (length (calls n)) (calls (n + d))) ≡ length (calls n) = ap (λ (l : List Changes). length l) (laws.more n d c cause edata user) in
      let b : length (take (length (calls n)) (calls (n + d))) ≡ min (length (calls n)) (length (calls (n + d))) = length-take (length (calls n)) (calls (n + d)) in
      omega (arith, a, b)

  pub takes_same : (n d m : ℕ) → m ≤ length (e.dispatch n c cause edata user).calls → take m (e.dispatch (n + d) c cause edata user).calls ≡ take m (e.dispatch n c cause edata user).calls
  takes_same n d m le = sym (take-take m (length (calls n)) (calls (n + d)) le) ∙ ap (take m) (laws.more n d c cause edata user)

  -- no dispatch ends more calls than one that is over
  pub calls_most : (n k : ℕ) → (e.dispatch n c cause edata user).end ≢ NotYet → length (e.dispatch k c cause edata user).calls ≤ length (e.dispatch n c cause edata user).calls
  calls_most n k over =
      let a = calls_grow k n in
      let d : k + n ≡ n + k = omega arith in
      let b : calls (k + n) ≡ calls n = ap calls d ∙ ap (λ (o : DispatchOutcome). o.calls) (laws.same n k c cause edata user over) in
      let l : length (calls (k + n)) ≡ length (calls n) = ap (λ (l : List Changes). length l) b in
      omega (arith, a, l)

  pub get_same : (n d m : ℕ) (ch : Changes) → slice_get (e.dispatch n c cause edata user).calls m ≡ Some ch → m < length (e.dispatch n c cause edata user).calls → slice_get (e.dispatch (n + d) c cause edata user).calls m ≡ Some ch
  get_same n d m ch is lt = sym (get_taken (length (calls n)) (calls (n + d)) m lt) ∙ ap (λ (l : List Changes). slice_get l m) (laws.more n d c cause edata user) ∙ is
    where
      get_taken : (l : ℕ) (xs : List Changes) (m : ℕ) → m < l → slice_get (take l xs) m ≡ slice_get xs m
      get_taken zero xs m lt = absurd (omega (arith, lt))
      get_taken (suc l) [] m lt = refl
      get_taken (suc l) (z ∷ xs) zero lt = refl
      get_taken (suc l) (z ∷ xs) (suc m) lt = get_taken l xs m (omega (arith, lt))

changes_append : (u : ℕ) (a b : List Changes) → changes_of u (a ++ b) ≡ changes_of u a ++ changes_of u b
changes_append u [] b = refl
changes_append u (c ∷ a) b = ap (λ (r : List JournalEntry). cond (c.user == u) c.entries [] ++ r) (changes_append u a b) ∙ sym (append_assoc (cond (c.user == u) c.entries []) (changes_of u a) (changes_of u b))

-- one call more
take_one : (xs : List Changes) (m : ℕ) (ch : Changes) → slice_get xs m ≡ Some ch → take (suc m) xs ≡ take m xs ++ ch ∷ []
take_one [] m ch is = absurd (none_some ch is)
take_one (z ∷ xs) zero ch is = ap (λ c. c ∷ []) (same_some z ch is)
take_one (z ∷ xs) (suc m) ch is = ap (λ r. z ∷ r) (take_one xs m ch is)

module _ (y : System) (laws : MeaningLaws y.boot.meaning) where
  -- a turn that is defined has the same entries with more units
  dispatch_same : (n d k : ℕ) (c p : Cvm) (cause edata : ℕ) (at : Core) (pending : ℕ) → dispatches y n k c cause edata at pending ≡ Some p → dispatch_of y (n + d) cause edata at ≡ dispatch_of y n cause edata at
  dispatch_same n d k c p cause edata at pending h = by (dispatch_of y n cause edata at).end refl
    where
      go : (dispatch_of y n cause edata at).end ≢ NotYet → dispatch_of y (n + d) cause edata at ≡ dispatch_of y n cause edata at
      go ne = laws.same n d at (pos cause) (signed edata) (pos at.current) ne

      by : (e : DispatchEnd) → (dispatch_of y n cause edata at).end ≡ e → dispatch_of y (n + d) cause edata at ≡ dispatch_of y n cause edata at
      by (Answers a) eq = go (λ f. absurd (let g : Answers a ≡ NotYet = sym eq ∙ f in cc))
      by (Faults a) eq = go (λ f. absurd (let g : Faults a ≡ NotYet = sym eq ∙ f in cc))
      by NotYet eq = absurd (none_some p (sym (ap (after_dispatch y c k cause edata at.current pending (dispatch_of y n cause edata at)) eq) ∙ h))

  begin_same : (n d u k : ℕ) (c p : Cvm) (before : Core) (b : Begin) → begun y n k c b ≡ Some p → begin_entries y (n + d) (λ calls. calls) u before b ≡ begin_entries y n (λ calls. calls) u before b
  begin_same n d u k c p before (Steps after) h = refl
  begin_same n d u k c p before (Traps cause edata at) h = ap (λ (o : DispatchOutcome). cond (before.current == u) (Trapped cause edata ∷ []) [] ++ changes_of u o.calls) (dispatch_same n d k c p cause edata at 0 h)
  begin_same n d u k c p before (Interrupts cause edata at pending) h = ap (λ (o : DispatchOutcome). changes_of u o.calls) (dispatch_same n d k c p cause edata at pending h)

  running_same : (n d u k lines : ℕ) (c p : Cvm) (status : Status) → turn_by y n k lines c status ≡ Some p → running_entries y (n + d) (λ calls. calls) u k lines c status ≡ running_entries y n (λ calls. calls) u k lines c status
  running_same n d u k lines c p Running h = begin_same n d u k c p c.core (begin k c.core (bit_or c.pending lines)) h
  running_same n d u k lines c p Halted h = refl
  running_same n d u k lines c p (Faulted f) h = refl

  pub journal_more : (lines : ℕ → ℕ) (n d u k : ℕ) (c : Cvm) → cvm y lines n k ≡ Some c → journal y lines (n + d) u k ≡ journal y lines n u k
  journal_more lines n d u zero c h = refl
  journal_more lines n d u (suc k) c h = by (journal_more lines n d u k) (cvm y lines n k) refl
    where
      by : ((q : Cvm) → cvm y lines n k ≡ Some q → journal y lines (n + d) u k ≡ journal y lines n u k) → (o : Option Cvm) → cvm y lines n k ≡ o → journal y lines (n + d) u (suc k) ≡ journal y lines n u (suc k)
      by go None eq = absurd (none_some c (sym (ap (turn y n k (lines k)) eq) ∙ h))
      by go (Some q) eq = ap₂ (λ (a b : List JournalEntry). a ++ b) (go q eq)
          (ap (turn_entries y (n + d) (λ calls. calls) u k (lines k)) (cvm_more y laws lines n d k q eq)
          ∙ running_same n d u k (lines k) q c q.status (sym (ap (turn y n k (lines k)) eq) ∙ h)
          ∙ sym (ap (turn_entries y n (λ calls. calls) u k (lines k)) eq))

  -- a cut of a turn's calls with more units
  begin_cut : (n d m u : ℕ) (before : Core) (b : Begin) → m ≤ length (begin_calls y n b) → begin_entries y (n + d) (take m) u before b ≡ begin_entries y n (take m) u before b
  begin_cut n d m u before (Steps after) le = refl
  begin_cut n d m u before (Traps cause edata at) le =
      ap (λ (l : List Changes). cond (before.current == u) (Trapped cause edata ∷ []) [] ++ changes_of u l) (takes_same y.boot.meaning laws at (pos cause) (signed edata) (pos at.current) n d m le)
  begin_cut n d m u before (Interrupts cause edata at pending) le = ap (changes_of u) (takes_same y.boot.meaning laws at (pos cause) (signed edata) (pos at.current) n d m le)

  running_cut : (n d m u k lines : ℕ) (c : Cvm) (status : Status) → m ≤ length (turn_calls y n k lines c) → running_entries y (n + d) (take m) u k lines c status ≡ running_entries y n (take m) u k lines c status
  running_cut n d m u k lines c Running le = begin_cut n d m u c.core (begin k c.core (bit_or c.pending lines)) le
  running_cut n d m u k lines c Halted le = refl
  running_cut n d m u k lines c (Faulted f) le = refl

  begin_calls_grow : (n d : ℕ) (b : Begin) → length (begin_calls y n b) ≤ length (begin_calls y (n + d) b)
  begin_calls_grow n d (Steps after) = omega arith
  begin_calls_grow n d (Traps cause edata at) = calls_grow y.boot.meaning laws at (pos cause) (signed edata) (pos at.current) n d
  begin_calls_grow n d (Interrupts cause edata at pending) = calls_grow y.boot.meaning laws at (pos cause) (signed edata) (pos at.current) n d

  module _ (lines : ℕ → ℕ) (u : ℕ) where
    -- j is shown, with n units: k turns are complete, r have begun, and m calls of the turn that goes on have ended
    pub record Known (n k r m : ℕ) (j : List JournalEntry) : Type 0 where
      pub past : Cvm
      pub cvm_is : cvm y lines n k ≡ Some past
      pub enough : k < r → m ≤ length (turn_calls y n k (lines k) past)
      pub is : j ≡ journal y lines n u k ++ (cond (nat_lt k r) (turn_entries y n (take m) u k (lines k) (cvm y lines n k)) [])

    pub known_more : (n d k r m : ℕ) (j : List JournalEntry) → Known n k r m j → Known (n + d) k r m j
    known_more n d k r m j w =
        let more : cvm y lines (n + d) k ≡ Some w.past = cvm_more y laws lines n d k w.past w.cvm_is in
        record {
          past = w.past;
          cvm_is = more;
          enough = λ lt. let a = w.enough lt in let b = begin_calls_grow n d (begin k w.past.core (bit_or w.past.pending (lines k))) in omega (arith, a, b);
          is = w.is ∙ ap₂ (λ (a b : List JournalEntry). a ++ b) (sym (journal_more lines n d u k w.past w.cvm_is)) (by (nat_lt k r) refl);
        }
      where
        by : (b : Bool) → nat_lt k r ≡ b → cond b (turn_entries y n (take m) u k (lines k) (cvm y lines n k)) [] ≡ cond b (turn_entries y (n + d) (take m) u k (lines k) (cvm y lines (n + d) k)) []
        by false e = refl
        by true e =
            ap (turn_entries y n (take m) u k (lines k)) w.cvm_is
            ∙ sym (running_cut n d m u k (lines k) w.past w.past.status (w.enough (ltb-true k r e)))
            ∙ sym (ap (turn_entries y (n + d) (take m) u k (lines k)) (cvm_more y laws lines n d k w.past w.cvm_is))

    not_less : (k : ℕ) → nat_lt k k ≡ false
    not_less k = le-ltb k k (omega arith)

    is_less : (k : ℕ) → nat_lt k (suc k) ≡ true
    is_less k = lt-ltb k (suc k) (omega arith)

    -- where no turn goes on it is the journal
    pub closed_is : (n k m : ℕ) (j : List JournalEntry) → Known n k k m j → j ≡ journal y lines n u k
    closed_is n k m j w = w.is ∙ ap (λ (b : List JournalEntry). journal y lines n u k ++ b) (cond-false (nat_lt k k) _ [] (not_less k)) ∙ append-nil _

    pub closed : (n k m : ℕ) (c : Cvm) (j : List JournalEntry) → cvm y lines n k ≡ Some c → j ≡ journal y lines n u k → Known n k k m j
    closed n k m c j h e = record {
      past = c;
      cvm_is = h;
      enough = λ lt. absurd (omega (arith, lt));
      is = e ∙ sym (append-nil _) ∙ ap (λ (b : List JournalEntry). journal y lines n u k ++ b) (sym (cond-false (nat_lt k k) _ [] (not_less k)));
    }

    -- how the entries of turn k, which begins at c, are cut: `heads` before those of the calls
    pub record Cut (k : ℕ) (c : Cvm) (calls : ℕ → List Changes) (heads : List JournalEntry) : Type 0 where
      pub running : c.status ≡ Running
      pub calls_are : (n : ℕ) → begin_calls y n (begin k c.core (bit_or c.pending (lines k))) ≡ calls n
      pub entries : (n : ℕ) (cut : List Changes → List Changes) → begin_entries y n cut u c.core (begin k c.core (bit_or c.pending (lines k))) ≡ heads ++ changes_of u (cut (calls n))

    turn_is : (n k : ℕ) (c : Cvm) (cut : List Changes → List Changes) → cvm y lines n k ≡ Some c → c.status ≡ Running →
        turn_entries y n cut u k (lines k) (cvm y lines n k) ≡ begin_entries y n cut u c.core (begin k c.core (bit_or c.pending (lines k)))
    turn_is n k c cut h run = ap (turn_entries y n cut u k (lines k)) h ∙ ap (running_entries y n cut u k (lines k) c) run

    -- while it goes on
    open_is : (n k m : ℕ) (c : Cvm) (calls : ℕ → List Changes) (heads j : List JournalEntry) → Cut k c calls heads → cvm y lines n k ≡ Some c → Known n k (suc k) m j → j ≡ journal y lines n u k ++ (heads ++ changes_of u (take m (calls n)))
    open_is n k m c calls heads j w h known =
        known.is ∙ ap (λ (b : List JournalEntry). journal y lines n u k ++ b) (cond-true (nat_lt k (suc k)) _ [] (is_less k) ∙ turn_is n k c (take m) h w.running ∙ w.entries n (take m))

    opened : (n k m : ℕ) (c : Cvm) (calls : ℕ → List Changes) (heads j : List JournalEntry) → Cut k c calls heads → cvm y lines n k ≡ Some c → m ≤ length (calls n) →
        j ≡ journal y lines n u k ++ (heads ++ changes_of u (take m (calls n))) → Known n k (suc k) m j
    opened n k m c calls heads j w h le e = record {
      past = c;
      cvm_is = h;
      enough = λ _. let l : length (begin_calls y n (begin k c.core (bit_or c.pending (lines k)))) ≡ length (calls n) = ap (λ (l : List Changes). length l) (w.calls_are n) in omega (arith, l, le);
      is = e ∙ ap (λ (b : List JournalEntry). journal y lines n u k ++ b) (sym (cond-true (nat_lt k (suc k)) _ [] (is_less k) ∙ turn_is n k c (take m) h w.running ∙ w.entries n (take m)));
    }

    -- the turn begins with a dispatch
    pub begins_open : (n k m : ℕ) (c : Cvm) (calls : ℕ → List Changes) (heads j : List JournalEntry) → Cut k c calls heads → cvm y lines n k ≡ Some c → Known n k k m j → Known n k (suc k) 0 (j ++ heads)
    begins_open n k m c calls heads j w h known =
        opened n k 0 c calls heads (j ++ heads) w h (omega arith)
        (ap (λ (a : List JournalEntry). a ++ heads) (closed_is n k m j known) ∙ ap (λ (b : List JournalEntry). journal y lines n u k ++ b) (sym (append-nil heads)))

    -- or is a user's step
    pub begins_step : (n k m m2 : ℕ) (c after : Cvm) (heads j : List JournalEntry) → c.status ≡ Running → cvm y lines n k ≡ Some c → cvm y lines n (suc k) ≡ Some after →
        begin_entries y n (λ calls. calls) u c.core (begin k c.core (bit_or c.pending (lines k))) ≡ heads → Known n k k m j → Known n (suc k) (suc k) m2 (j ++ heads)
    begins_step n k m m2 c after heads j run h next e known =
        closed n (suc k) m2 after (j ++ heads) next (ap₂ (λ (a b : List JournalEntry). a ++ b) (closed_is n k m j known) (sym e ∙ sym (turn_is n k c (λ calls. calls) h run)))

    -- a call of it ends
    pub goes_more : (n k m : ℕ) (c : Cvm) (calls : ℕ → List Changes) (heads j : List JournalEntry) (ch : Changes) → Cut k c calls heads → cvm y lines n k ≡ Some c → slice_get (calls n) m ≡ Some ch → suc m ≤ length (calls n) →
        Known n k (suc k) m j → Known n k (suc k) (suc m) (j ++ changes_of u (ch ∷ []))
    goes_more n k m c calls heads j ch w h is le known =
        opened n k (suc m) c calls heads (j ++ changes_of u (ch ∷ [])) w h le
        (ap (λ (a : List JournalEntry). a ++ changes_of u (ch ∷ [])) (open_is n k m c calls heads j w h known)
        ∙ append_assoc (journal y lines n u k) (heads ++ changes_of u (take m (calls n))) (changes_of u (ch ∷ []))
        ∙ ap (λ (b : List JournalEntry). journal y lines n u k ++ b)
        (append_assoc heads (changes_of u (take m (calls n))) (changes_of u (ch ∷ []))
        ∙ ap (λ (b : List JournalEntry). heads ++ b) (sym (changes_append u (take m (calls n)) (ch ∷ [])) ∙ ap (changes_of u) (sym (take_one (calls n) m ch is)))))

    -- it is complete, and all its calls have ended
    pub closes : (n k m m2 : ℕ) (c after : Cvm) (calls : ℕ → List Changes) (heads j : List JournalEntry) → Cut k c calls heads → cvm y lines n k ≡ Some c → cvm y lines n (suc k) ≡ Some after → m ≡ length (calls n) →
        Known n k (suc k) m j → Known n (suc k) (suc k) m2 j
    closes n k m m2 c after calls heads j w h next all known =
        closed n (suc k) m2 after j next
        (open_is n k m c calls heads j w h known
        ∙ ap (λ (b : List JournalEntry). journal y lines n u k ++ b)
        (ap (λ (l : List Changes). heads ++ changes_of u l) (take_all m (calls n) (omega (arith, all))) ∙ sym (w.entries n (λ calls. calls)) ∙ sym (turn_is n k c (λ calls. calls) h w.running)))
