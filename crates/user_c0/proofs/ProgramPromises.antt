-- What follows the meaning is what the program promises: each claim is read off a moment that is late enough, or off the program's end.
use Rattle.std.specs.Prelude.{slice_get, slice_index, option_map, option_and_then, take, ℤ, nat_lt, if◌then◌else◌}
use Rattle.std.proofs.Common.{◌≡◌, ◌⊎◌, inl, inr, ℕ, zero, suc, ◌+◌, ◌-◌, ◌*◌, ◌<◌, ◌≤◌, Bool, true, false, Option, Some, None, List, [], ◌∷◌, ◌++◌, length, refl, sym, ap, ◌∙◌, subst, arith, append-nil, append_assoc, length-append, ltb-true}
use Rattle.std.proofs.lemmas.Bool.{cases_lt}
use Rattle.std.proofs.lemmas.List.{length-map, length-take}
use Rattle.std.proofs.lemmas.Option.{slice_get-map}
use Rattle.mips_table.specs.Arith.{signed}
use Rattle.mips_table.specs.Processor.{Move, Ran, Loaded, Stored, Trapped, Privileged, move}
use Rattle.mips_table.specs.Flat.{Flat, vstep, after_move, flat_access, word_at}
use Rattle.mips_table.specs.Code.{Program, on_flat}
use Rattle.mips_table.specs.Simulation.{FlatSimulates}
use Rattle.mips_table.specs.Borders.{FlatCalls}
use Rattle.masm.specs.Laws.{RunsCompose, JumpsLead}
use Rattle.c0_tree.specs.Tree.{CUnit}
use Rattle.c0_meaning.specs.Operators.{faulted, stuck}
use Rattle.c0_meaning.specs.World.{Cost, total, Configuration, all_entries, beginning}
use Rattle.c0_meaning.specs.Running.{begin}
use Rattle.c0_meaning.specs.State.{first_state}
use Rattle.c0_meaning.specs.Value.{empty}
use Rattle.c0_tree.specs.declared.primitive.Program.TheVariants.{User}
use Rattle.c0_meaning.specs.Limits.{first_number}
use Rattle.user_c0.specs.Image.{ROOM}
use Rattle.c0_meaning.specs.Execution.{Outcome, Done, Failed, NotYet}
use Rattle.c0_meaning.specs.RunLaws.{HasEnded, StaysWithin, cost_of}
use Rattle.c0_meaning.specs.UserProgram.{not_yet, Seen, up_to, outcome_seen, prog, trap}
use Rattle.c0_runs.specs.Setup.{Setup}
use Rattle.c0_runs.specs.Runs.{RunTo, Moment, WithinPrice}
use Rattle.cvm_model.specs.Journal.{replay, ReplayJoins}
use Rattle.user_c0.specs.Events.{SYSCALL, Event, step, call, other, entries_of as event_entries, journal_of, AreProper, Trapping, trapping, replies, call_count, others, untrapped, answer_of, answers}
use Rattle.user_c0.specs.Served.{Served, serving, is_call, served, asked_by, asked, other_by, others_in, IsServed}
use Rattle.user_c0.specs.Flat.{Outer}
use Rattle.user_c0.specs.Host.{Here, Told, TRAP_PRICE}
use Rattle.user_c0.specs.Program.{EndsBy, steps_of, FollowsMain}
use Rattle.user_c0.specs.Stands.{LeavesTo, main_outcome, RunsTo}
use Rattle.user_c0.proofs.JournalsServed.{journals_served}
use Rattle.user_c0.proofs.ServedGoesOn.{served_joins, asked_joins, others_join}
use Rattle.user_c0.proofs.ProgramIsOver.{Closed, failed_closes, done_closes}

some_same : {A : Type 0} {a b : A} → Some a ≡ Some b → a ≡ b
some_same e = cc

none_some : {A : Type 0} {P : Type 0} {a : A} → None ≡ Some a → P
none_some e = absurd (cc)

same_trap : (a b c d : ℕ) → trapping a b ∷ [] ≡ trapping c d ∷ [] → (a ≡ c) × (b ≡ d)
same_trap a b c d q =
    let one : trapping a b ≡ trapping c d = cc in
    (ap (λ (t : Trapping). t.cause) one, ap (λ (t : Trapping). t.edata) one)

no_trap : {P : Type 0} (t : Trapping) → t ∷ [] ≡ [] → P
no_trap t q = absurd (cc)

-- behind one beginning
same_rest : (xs ys zs : List Trapping) → xs ++ ys ≡ xs ++ zs → ys ≡ zs
same_rest [] ys zs e = e
same_rest (x ∷ xs) ys zs e = let q : xs ++ ys ≡ xs ++ zs = cc in same_rest xs ys zs q

nil_long : {P : Type 0} (xs : List ℕ) → xs ≡ [] → length xs ≡ 1 → P
nil_long [] e n = absurd (omega (arith, n))
nil_long (x ∷ xs) e n = absurd (cc)

get_front : {A : Type 0} (xs ys : List A) (i : ℕ) (v : A) → slice_get xs i ≡ Some v → slice_get (xs ++ ys) i ≡ Some v
get_front [] ys i v e = none_some e
get_front (x ∷ xs) ys zero v e = e
get_front (x ∷ xs) ys (suc i) v e = get_front xs ys i v e

get_last : {A : Type 0} (xs : List A) (a : A) → slice_get (xs ++ a ∷ []) (length xs) ≡ Some a
get_last [] a = refl
get_last (x ∷ xs) a = get_last xs a

get_take : {A : Type 0} (n : ℕ) (xs : List A) (i : ℕ) (v : A) → i < n → slice_get xs i ≡ Some v → slice_get (take n xs) i ≡ Some v
get_take zero xs i v lt e = absurd (omega (arith, lt))
get_take (suc n) [] i v lt e = none_some e
get_take (suc n) (x ∷ xs) zero v lt e = e
get_take (suc n) (x ∷ xs) (suc i) v lt e = get_take n xs i v (omega (arith, lt)) e

-- journals, replies and other traps of events one behind the other
pub journal_join : (a b : List Event) → journal_of (a ++ b) ≡ journal_of a ++ journal_of b
journal_join [] b = refl
journal_join (e ∷ a) b = ap (λ j. event_entries e ++ j) (journal_join a b) ∙ sym (append_assoc (event_entries e) (journal_of a) (journal_of b))

pub replies_join : (a b : List Event) → replies (a ++ b) ≡ replies a ++ replies b
replies_join [] b = refl
replies_join (step ∷ a) b = replies_join a b
replies_join (call r ∷ a) b = ap (λ rs. r ∷ rs) (replies_join a b)
replies_join (other c d ∷ a) b = replies_join a b

pub others_of_join : (a b : List Event) → others (a ++ b) ≡ others a ++ others b
others_of_join [] b = refl
others_of_join (step ∷ a) b = others_of_join a b
others_of_join (call r ∷ a) b = others_of_join a b
others_of_join (other c d ∷ a) b = ap (λ ts. trapping c d ∷ ts) (others_of_join a b)

pub proper_front : (a b : List Event) → AreProper (a ++ b) → AreProper a
proper_front [] b h = tt
proper_front (e ∷ a) b h = (h.0, proper_front a b h.1)

untrapped_few : (es : List Event) → untrapped es ≤ length es
untrapped_few [] = omega arith
untrapped_few (step ∷ es) = let h = untrapped_few es in omega (arith, h)
untrapped_few (call r ∷ es) = let h = untrapped_few es in omega (arith, h)
untrapped_few (other c d ∷ es) = let h = untrapped_few es in omega (arith, h)

-- a step that asks, asks what register 4 has
asks_register : (f : Flat) → (asked_by (vstep f) ≡ []) ⊎ (asked_by (vstep f) ≡ slice_index f.cpu.regs 4 ∷ [])
asks_register f = by (move (flat_access f.words) f.cpu (word_at f.words f.cpu.pc))
  where
    by_call : (b : Bool) → ((if b then slice_index f.cpu.regs 4 ∷ [] else []) ≡ []) ⊎ ((if b then slice_index f.cpu.regs 4 ∷ [] else []) ≡ slice_index f.cpu.regs 4 ∷ [])
    by_call true = inr refl
    by_call false = inl refl

    by : (m : Move) → (asked_by (after_move f m) ≡ []) ⊎ (asked_by (after_move f m) ≡ slice_index f.cpu.regs 4 ∷ [])
    by (Ran c) = inl refl
    by (Loaded c register address) = inl refl
    by (Stored c address value) = inl refl
    by (Trapped cause edata epc) = by_call (is_call cause edata)
    by (Privileged word) = inl refl

-- the meaning's side: what is seen up to the last answer
pub seen_front : (given : List ℤ) (s : Seen) (i : ℕ) (v : ℤ) → i ≤ length given → slice_get s.arguments i ≡ Some v → slice_get (up_to given s).arguments i ≡ Some v
seen_front given s i v le e = by (nat_lt (length given) (length s.arguments))
  where
    by : (b : Bool) → slice_get (if b then record { arguments = take (suc (length given)) s.arguments; ending = not_yet } else s).arguments i ≡ Some v
    by true = get_take (suc (length given)) s.arguments i v (omega (arith, le)) e
    by false = e

seen_same : (given : List ℤ) (s : Seen) → length s.arguments ≤ length given → up_to given s ≡ s
seen_same given s le = by (nat_lt (length given) (length s.arguments)) refl
  where
    by : (b : Bool) → nat_lt (length given) (length s.arguments) ≡ b → (if b then record { arguments = take (suc (length given)) s.arguments; ending = not_yet } else s) ≡ s
    by true e = let lt = ltb-true (length given) (length s.arguments) e in absurd (omega (arith, le, lt))
    by false e = refl

seen_few : (given : List ℤ) (s : Seen) → length (up_to given s).arguments ≤ length s.arguments
seen_few given s = by (nat_lt (length given) (length s.arguments))
  where
    by : (b : Bool) → length (if b then record { arguments = take (suc (length given)) s.arguments; ending = not_yet } else s).arguments ≤ length s.arguments
    by true = let l = length-take (suc (length given)) s.arguments in omega (arith, l)
    by false = omega arith

seen_ended : (given : List ℤ) (s : Seen) → HasEnded (up_to given s).ending → HasEnded s.ending
seen_ended given s h = by (nat_lt (length given) (length s.arguments)) h
  where
    by : (b : Bool) → HasEnded (if b then record { arguments = take (suc (length given)) s.arguments; ending = not_yet } else s).ending → HasEnded s.ending
    by true e = absurd e
    by false e = e

no_others : {P : Type 0} (ts : List Trapping) (a : Trapping) → ts ≡ [] → ts ≡ a ∷ [] → P
no_others ts a none one = absurd (cc)

-- where a list of other traps is empty, each of its steps gave none
all_none : (xs ys : List Trapping) → xs ++ ys ≡ [] → (xs ≡ []) × (ys ≡ [])
all_none [] ys e = (refl, e)
all_none (x ∷ xs) ys e = absurd (cc)

none_within : (s : Served) (m j : ℕ) → j < m → others_in s m ≡ [] → other_by (vstep (served s j).machine) ≡ []
none_within s zero j lt e = absurd (omega (arith, lt))
none_within s (suc m) j lt e =
    let both = all_none (others_in s m) (other_by (vstep (served s m).machine)) e in
    elim (cases_lt j m) [ inl less ↦ none_within s m j less both.0 | inr ge ↦ (let q : m ≡ j = omega (arith, lt, ge) in subst (λ i. other_by (vstep (served s i).machine) ≡ []) q both.1) ]

-- where a program has ended, by a trap with this word and after so many calls
record HasEndedBy (cause edata count_of word : ℕ) (h : Configuration (List ℤ) ℤ) : Type 0 where
  cause_is : cause ≡ SYSCALL
  edata_is : edata ≡ word
  count : length (all_entries h.calls) ≡ count_of

module _ (runs : RunsCompose) (simulates : FlatSimulates) (traps : FlatCalls) (joins : ReplayJoins) (stays : StaysWithin (List ℤ) ℤ)
    (u : CUnit) (p : Program) (z : Setup (List ℤ) ℤ Outer) (l : LeavesTo p z) (jumps : JumpsLead (on_flat p)) (base : ℕ) (near : base ≤ 100) (f0 last : Flat) (es : List Event)
    (proper : AreProper es) (replayed : replay f0 (journal_of es) ≡ Some last) (run : RunsTo p z base (serving (replies es) f0) u (answers es)) where
  abbrev first : Served
  first = serving (replies es) f0

  -- the run after the events before a place
  record Prefix (before : List Event) : Type 0 where
    machine : Flat
    replayed_to : replay f0 (journal_of before) ≡ Some machine
    at : (served first (length before)).machine ≡ machine
    asks : length (asked first (length before)) ≡ call_count before
    traps_so : others_in first (length before) ≡ others before

  prefix : (before rest : List Event) → es ≡ before ++ rest → Prefix before
  prefix before rest e = by (replay f0 (journal_of before)) refl (sym (joins f0 (journal_of before) (journal_of rest)) ∙ ap (replay f0) (sym (ap journal_of e ∙ journal_join before rest)) ∙ replayed)
    where
      all : replies es ≡ replies before ++ replies rest
      all = ap replies e ∙ replies_join before rest

      by : (o : Option Flat) → replay f0 (journal_of before) ≡ o → option_and_then (λ g. replay g (journal_of rest)) (replay f0 (journal_of before)) ≡ Some last → Prefix before
      by None q h = none_some (sym (ap (option_and_then (λ g. replay g (journal_of rest))) q) ∙ h)
      by (Some m) q h =
          let s : IsServed f0 before (replies rest) m = journals_served before f0 m (replies rest) (proper_front before rest (subst AreProper e proper)) q in
          record {
            machine = m;
            replayed_to = q;
            at = ap (λ rs. (served (serving rs f0) (length before)).machine) all ∙ ap (λ t. t.machine) s.at;
            asks = ap (λ rs. length (asked (serving rs f0) (length before))) all ∙ s.calls;
            traps_so = ap (λ rs. others_in (serving rs f0) (length before)) all ∙ s.others;
          }

  -- with one event more
  one_more : (before : List Event) (e : Event) → length (before ++ e ∷ []) ≡ suc (length before)
  one_more before e = let h = length-append before (e ∷ []) in omega (arith, h)

  next : (before after : List Event) (e : Event) → es ≡ before ++ e ∷ after → Prefix (before ++ e ∷ [])
  next before after e q = prefix (before ++ e ∷ []) after (q ∙ sym (append_assoc before (e ∷ []) after))

  -- how many units serve for a step
  abbrev units_for : ℕ → ℕ
  units_for t = 8388608 * (t + 2)

  -- what was asked by a step is in what is told later
  told_later : (t k i : ℕ) (v : List ℤ) (cs : List (List ℤ)) (a : ℕ) → t ≤ k → slice_get (asked first t) i ≡ Some a → Told first k v cs → slice_get (all_entries cs) i ≡ Some (signed a)
  told_later t k i v cs a le is told =
      let q : k ≡ t + (k - t) = omega (arith, le) in
      let here : slice_get (asked first k) i ≡ Some a =
      ap (λ n. slice_get (asked first n) i) q ∙ ap (λ xs. slice_get xs i) (asked_joins first t (k - t)) ∙ get_front (asked first t) (asked (served first t) (k - t)) i a is in
      ap (λ xs. slice_get xs i) told.arguments ∙ slice_get-map signed (asked first k) i ∙ ap (option_map signed) here

  -- another trap by a step is in what is told later
  trap_later : (t k : ℕ) {P : Type 0} (v : List ℤ) (cs : List (List ℤ)) (ts : List Trapping) (a : Trapping) → t ≤ k → others_in first t ≡ ts ++ a ∷ [] → Told first k v cs → P
  trap_later t k v cs ts a le is told =
      let q : k ≡ t + (k - t) = omega (arith, le) in
      none ts (others_in (served first t) (k - t)) (ap (λ xs. xs ++ others_in (served first t) (k - t)) (sym is) ∙ sym (others_join first t (k - t)) ∙ ap (others_in first) (sym q) ∙ told.others)
    where
      none : {Q : Type 0} (ts rest : List Trapping) → (ts ++ a ∷ []) ++ rest ≡ [] → Q
      none [] rest e = absurd (cc)
      none (x ∷ xs) rest e = absurd (cc)

  -- nothing is asked from where the program has ended
  quiet : (k n : ℕ) → ((j : ℕ) → k ≤ j → asked_by (vstep (served first j).machine) ≡ []) → asked first (k + n) ≡ asked first k
  quiet k zero none = let q : k + 0 ≡ k = omega arith in ap (asked first) q
  quiet k (suc n) none =
      let q : k + suc n ≡ suc (k + n) = omega arith in
      ap (asked first) q ∙ ap (λ xs. asked first (k + n) ++ xs) (none (k + n) (omega arith)) ∙ append-nil (asked first (k + n)) ∙ quiet k n none

  told_count : (k : ℕ) (v : List ℤ) (cs : List (List ℤ)) → Told first k v cs → length (all_entries cs) ≡ length (asked first k)
  told_count k v cs told = ap length told.arguments ∙ length-map (asked first k) signed

  -- what was asked grows
  asked_grows : (k t : ℕ) → k ≤ t → length (asked first k) ≤ length (asked first t)
  asked_grows k t le =
      let q : t ≡ k + (t - k) = omega (arith, le) in
      let a : length (asked first t) ≡ length (asked first k) + length (asked (served first k) (t - k)) = ap (λ n. length (asked first n)) q ∙ ap length (asked_joins first k (t - k)) ∙ length-append (asked first k) (asked (served first k) (t - k)) in
      omega (arith, a)

  abbrev At : Configuration (List ℤ) ℤ → ℕ → Type 0
  At h k = Moment (List ℤ) ℤ Outer (Here p first) (Told first) z h k

  asks : (before after : List Event) (reply : Option ℕ) (f : Flat) → es ≡ before ++ (call reply ∷ after) → replay f0 (journal_of before) ≡ Some f
      → (n : ℕ) × (slice_get (prog u (answers es) n).arguments (call_count before) ≡ Some (signed (slice_index f.cpu.regs 4)))
  asks before after reply f e rf = (units_for (length before), seen_front (answers es) (outcome_seen (main_outcome u (units_for (length before)) (answers es))) (call_count before) (signed (slice_index f.cpu.regs 4)) enough (by (main_outcome u (units_for (length before)) (answers es)) (run (units_for (length before)))))
    where
      t : ℕ
      t = length before

      now : Prefix before
      now = prefix before (call reply ∷ after) e

      after_it : Prefix (before ++ call reply ∷ [])
      after_it = next before after (call reply) e

      enough : call_count before ≤ length (answers es)
      enough =
          let a = length-map (replies es) answer_of in
          let b = ap length (ap replies e ∙ replies_join before (call reply ∷ after)) in
          let c = length-append (replies before) (reply ∷ replies after) in
          omega (arith, a, b, c)

      count : length (asked_by (vstep (served first (length before)).machine)) ≡ 1
      count =
          let a = after_it.asks in let b = now.asks in
          let c : call_count (before ++ call reply ∷ []) ≡ call_count before + 1 = ap length (replies_join before (call reply ∷ [])) ∙ length-append (replies before) (reply ∷ []) in
          let d : length (asked first (length (before ++ call reply ∷ []))) ≡ length (asked first (length before)) + length (asked_by (vstep (served first (length before)).machine)) =
          ap (λ n. length (asked first n)) (one_more before (call reply)) ∙ length-append (asked first (length before)) (asked_by (vstep (served first (length before)).machine)) in
          omega (arith, a, b, c, d)

      machine : (served first (length before)).machine ≡ f
      machine = now.at ∙ some_same (sym now.replayed_to ∙ rf)

      register : asked_by (vstep (served first (length before)).machine) ≡ slice_index f.cpu.regs 4 ∷ []
      register = elim (asks_register (served first (length before)).machine) [
        | inl none ↦ nil_long (asked_by (vstep (served first (length before)).machine)) none count
        | inr is ↦ is ∙ ap (λ (g : Flat). slice_index g.cpu.regs 4 ∷ []) machine
      ]

      is : slice_get (asked first (suc (length before))) (call_count before) ≡ Some (slice_index f.cpu.regs 4)
      is = ap (λ xs. slice_get (asked first (length before) ++ xs) (call_count before)) register ∙ ap (λ i. slice_get (asked first (length before) ++ slice_index f.cpu.regs 4 ∷ []) i) (sym now.asks) ∙ get_last (asked first (length before)) (slice_index f.cpu.regs 4)

      ended : (word k : ℕ) (h : Configuration (List ℤ) ℤ) → At h k → ((k ≤ length before) → Closed first word k) → slice_get (all_entries h.calls) (call_count before) ≡ Some (signed (slice_index f.cpu.regs 4))
      ended word k h m closed = elim (cases_lt (length before) k) [
        | inl lt ↦ told_later (suc (length before)) k (call_count before) h.world h.calls (slice_index f.cpu.regs 4) (omega (arith, lt)) is m.told
        | inr le ↦ nil_long (asked_by (vstep (served first (length before)).machine)) ((closed le).asks (length before) le) count
      ]

      by : (o : Outcome (List ℤ) ℤ) → RunTo (List ℤ) ℤ Outer (Here p first) (Told first) z TRAP_PRICE base (units_for (length before)) o → slice_get (outcome_seen o).arguments (call_count before) ≡ Some (signed (slice_index f.cpu.regs 4))
      by (Done cost h) r = ended 0x4c r.0 h r.1 (λ le. done_closes runs simulates traps p z l jumps first r.0 r.1.machine r.1.here r.2.at)
      by (Failed cost (faulted g) h) r = ended _ r.0 h r.1 (λ le. failed_closes runs simulates traps p z l jumps first g r.0 r.1.machine r.1.here r.2.at)
      by (Failed cost stuck h) r = absurd r
      by (NotYet cost h) r = let far = r.far in told_later (suc (length before)) r.late (call_count before) h.world h.calls (slice_index f.cpu.regs 4) (omega (arith, far)) is r.later.told

  ends : (before after : List Event) (cause edata : ℕ) → es ≡ before ++ (other cause edata ∷ after)
      → (n : ℕ) × EndsBy (prog u (answers es) n).ending edata × (cause ≡ SYSCALL) × (length (prog u (answers es) n).arguments ≡ call_count before)
  ends before after cause edata e = let r = by (main_outcome u (units_for (length before)) (answers es)) (run (units_for (length before))) in (units_for (length before), r.0, r.1, r.2)
    where
      now : Prefix before
      now = prefix before (other cause edata ∷ after) e

      after_it : Prefix (before ++ other cause edata ∷ [])
      after_it = next before after (other cause edata) e

      enough : call_count before ≤ length (answers es)
      enough =
          let a = length-map (replies es) answer_of in
          let b = ap length (ap replies e ∙ replies_join before (other cause edata ∷ after)) in
          let c = length-append (replies before) (replies after) in
          omega (arith, a, b, c)

      with_it : others_in first (suc (length before)) ≡ others before ++ trapping cause edata ∷ []
      with_it = ap (others_in first) (sym (one_more before (other cause edata))) ∙ after_it.traps_so ∙ others_of_join before (other cause edata ∷ [])

      trap_is : other_by (vstep (served first (length before)).machine) ≡ trapping cause edata ∷ []
      trap_is = same_rest (others before) _ _ (ap (λ ts. ts ++ other_by (vstep (served first (length before)).machine)) (sym now.traps_so) ∙ with_it)

      over : (word k : ℕ) (h : Configuration (List ℤ) ℤ) → At h k → Closed first word k → HasEndedBy cause edata (call_count before) word h
      over word k h m closed = elim (cases_lt (length before) k) [
        | inl lt ↦ trap_later (suc (length before)) k h.world h.calls (others before) (trapping cause edata) (omega (arith, lt)) with_it m.told
        | inr le ↦ at_end le (closed.trap (length before) le)
      ]
        where
          at_end : k ≤ length before → (other_by (vstep (served first (length before)).machine) ≡ []) ⊎ (other_by (vstep (served first (length before)).machine) ≡ trapping SYSCALL word ∷ []) → HasEndedBy cause edata (call_count before) word h
          at_end le (inl q) = no_trap (trapping cause edata) (sym trap_is ∙ q)
          at_end le (inr q) =
              let same = same_trap cause edata SYSCALL word (sym trap_is ∙ q) in
              let to : k + (length before - k) ≡ length before = omega (arith, le) in
              let still : asked first (length before) ≡ asked first k = ap (asked first) (sym to) ∙ quiet k (length before - k) closed.asks in
              record { cause_is = same.0; edata_is = same.1; count = told_count k h.world h.calls m.told ∙ ap length (sym still) ∙ now.asks }

      seen_so : (s : Seen) → length s.arguments ≡ call_count before → EndsBy s.ending edata → EndsBy (up_to (answers es) s).ending edata × (length (up_to (answers es) s).arguments ≡ call_count before)
      seen_so s count h =
          let same = seen_same (answers es) s (omega (arith, count, enough)) in
          (subst (λ (q : Seen). EndsBy q.ending edata) (sym same) h, ap (λ (q : Seen). length q.arguments) same ∙ count)

      by : (o : Outcome (List ℤ) ℤ) → RunTo (List ℤ) ℤ Outer (Here p first) (Told first) z TRAP_PRICE base (units_for (length before)) o
          → EndsBy (up_to (answers es) (outcome_seen o)).ending edata × (cause ≡ SYSCALL) × (length (up_to (answers es) (outcome_seen o)).arguments ≡ call_count before)
      by (Done cost h) r =
          let o = over 0x4c r.0 h r.1 (done_closes runs simulates traps p z l jumps first r.0 r.1.machine r.1.here r.2.at) in
          let s = seen_so (outcome_seen (Done cost h)) o.count o.edata_is in
          (s.0, o.cause_is, s.1)
      by (Failed cost (faulted g) h) r =
          let o = over _ r.0 h r.1 (failed_closes runs simulates traps p z l jumps first g r.0 r.1.machine r.1.here r.2.at) in
          let s = seen_so (outcome_seen (Failed cost (faulted g) h)) o.count o.edata_is in
          (s.0, o.cause_is, s.1)
      by (Failed cost stuck h) r = absurd r
      by (NotYet cost h) r = let far = r.far in trap_later (suc (length before)) r.late h.world h.calls (others before) (trapping cause edata) (omega (arith, far)) with_it r.later.told

  -- after another trap the run has ended
  record Over (t : ℕ) : Type 0 where
    word : ℕ
    k : ℕ
    closed : Closed first word k
    by_then : k ≤ t

  is_over : (before after : List Event) (cause edata : ℕ) → es ≡ before ++ (other cause edata ∷ after) → Over (length before)
  is_over before after cause edata e = by (main_outcome u (units_for (length before)) (answers es)) (run (units_for (length before)))
    where
      with_it : others_in first (suc (length before)) ≡ others before ++ trapping cause edata ∷ []
      with_it = ap (others_in first) (sym (one_more before (other cause edata))) ∙ (next before after (other cause edata) e).traps_so ∙ others_of_join before (other cause edata ∷ [])

      over : (word k : ℕ) (h : Configuration (List ℤ) ℤ) → At h k → Closed first word k → Over (length before)
      over word k h m closed = elim (cases_lt (length before) k) [
        | inl lt ↦ trap_later (suc (length before)) k h.world h.calls (others before) (trapping cause edata) (omega (arith, lt)) with_it m.told
        | inr le ↦ record { word = word; k = k; closed = closed; by_then = le }
      ]

      by : (o : Outcome (List ℤ) ℤ) → RunTo (List ℤ) ℤ Outer (Here p first) (Told first) z TRAP_PRICE base (units_for (length before)) o → Over (length before)
      by (Done cost h) r = over 0x4c r.0 h r.1 (done_closes runs simulates traps p z l jumps first r.0 r.1.machine r.1.here r.2.at)
      by (Failed cost (faulted g) h) r = over _ r.0 h r.1 (failed_closes runs simulates traps p z l jumps first g r.0 r.1.machine r.1.here r.2.at)
      by (Failed cost stuck h) r = absurd r
      by (NotYet cost h) r = let far = r.far in trap_later (suc (length before)) r.late h.world h.calls (others before) (trapping cause edata) (omega (arith, far)) with_it r.later.told

  again : (before between after : List Event) (cause edata : ℕ) → es ≡ before ++ (other cause edata ∷ (between ++ after)) → others between ≡ [] → length between ≤ 1
  again before between after cause edata e none = elim (cases_lt 1 (length between)) [ inl more ↦ too_long more | inr few ↦ few ]
    where
      o : Over (length before)
      o = is_over before (between ++ after) cause edata e

      here : Prefix (before ++ other cause edata ∷ [])
      here = next before (between ++ after) (other cause edata) e

      there : Prefix ((before ++ other cause edata ∷ []) ++ between)
      there = prefix ((before ++ other cause edata ∷ []) ++ between) after
          (e ∙ sym (append_assoc before (other cause edata ∷ []) (between ++ after)) ∙ sym (append_assoc (before ++ other cause edata ∷ []) between after))

      -- the steps between gave no trap
      quietly : others_in (served first (length (before ++ other cause edata ∷ []))) (length between) ≡ []
      quietly = same_rest (others (before ++ other cause edata ∷ [])) _ _
          (ap (λ ts. ts ++ others_in (served first (length (before ++ other cause edata ∷ []))) (length between)) (sym here.traps_so)
          ∙ sym (others_join first (length (before ++ other cause edata ∷ [])) (length between))
          ∙ ap (others_in first) (sym (length-append (before ++ other cause edata ∷ []) between))
          ∙ there.traps_so ∙ others_of_join (before ++ other cause edata ∷ []) between ∙ ap (λ ts. others (before ++ other cause edata ∷ []) ++ ts) none)

      no_trap_at : (j : ℕ) → j < length between → other_by (vstep (served first (suc (length before) + j)).machine) ≡ []
      no_trap_at j lt =
          ap (λ n. other_by (vstep (served first (n + j)).machine)) (sym (one_more before (other cause edata)))
          ∙ ap (λ z. other_by (vstep z.machine)) (served_joins first (length (before ++ other cause edata ∷ [])) j)
          ∙ none_within (served first (length (before ++ other cause edata ∷ []))) (length between) j lt quietly

      too_long : {P : Type 0} → 1 < length between → P
      too_long more =
          let by_then = o.by_then in
          let zero_more : suc (length before) + 0 ≡ suc (length before) = omega arith in
          let one_further : suc (length before) + 1 ≡ suc (suc (length before)) = omega arith in
          elim (o.closed.again (suc (length before)) (omega (arith, by_then))) [
            | inl now ↦ no_others _ _ (ap (λ n. other_by (vstep (served first n).machine)) (sym zero_more) ∙ no_trap_at 0 (omega (arith, more))) now
            | inr later ↦ no_others _ _ (ap (λ n. other_by (vstep (served first n).machine)) (sym one_further) ∙ no_trap_at 1 more) later
          ]

  -- the moment at which a run stands that was given n units
  record Stood (n : ℕ) (o : Outcome (List ℤ) ℤ) : Type 0 where
    k : ℕ
    count : length (outcome_seen o).arguments ≡ length (asked first k)
    within : k ≤ 100 + 34 * n
    closes : HasEnded (outcome_seen o).ending → (word : ℕ) × Closed first word k

  soon : (k n : ℕ) (cost : Cost) → WithinPrice (List ℤ) ℤ Outer (Here p first) (Told first) z TRAP_PRICE base k cost → total cost ≤ n → k ≤ 100 + 34 * n
  soon k n cost w le = omega (arith, w, le, near)

  stood : (n : ℕ) → Stood n (main_outcome u n (answers es))
  stood n = by (main_outcome u n (answers es)) (run n) (stays (record { unit = u; heap = ROOM; stack = ROOM; meaning = trap }) (begin (first_number User u) empty ∷ []) (beginning (record (first_state u) { frames = [] }) (answers es)) n)
    where
      by : (o : Outcome (List ℤ) ℤ) → RunTo (List ℤ) ℤ Outer (Here p first) (Told first) z TRAP_PRICE base n o → total (cost_of o) ≤ n → Stood n o
      by (Done cost h) r le = record {
        k = r.0;
        count = told_count r.0 h.world h.calls r.1.told;
        within = soon r.0 n cost r.3 le;
        closes = λ e. (0x4c, done_closes runs simulates traps p z l jumps first r.0 r.1.machine r.1.here r.2.at);
      }
      by (Failed cost (faulted g) h) r le = record {
        k = r.0;
        count = told_count r.0 h.world h.calls r.1.told;
        within = soon r.0 n cost r.3 le;
        closes = λ e. (_, failed_closes runs simulates traps p z l jumps first g r.0 r.1.machine r.1.here r.2.at);
      }
      by (Failed cost stuck h) r le = absurd r
      by (NotYet cost h) r le = record { k = r.steps; count = told_count r.steps h.world h.calls r.now.told; within = soon r.steps n cost r.within le; closes = λ e. absurd e }

  comes : (before after : List Event) (n i : ℕ) → es ≡ before ++ after → i < length (prog u (answers es) n).arguments → call_count before ≤ i → untrapped before ≤ steps_of n
  comes before after n i e lt le =
      let s = stood n in
      let now = prefix before after e in
      let few = untrapped_few before in
      let a = now.asks in let c = s.count in let w = s.within in
      let b = seen_few (answers es) (outcome_seen (main_outcome u n (answers es))) in
      elim (cases_lt (length before) s.k) [
        | inl less ↦ omega (arith, few, less, w)
        | inr ge ↦ (let g = asked_grows s.k (length before) ge in absurd (omega (arith, g, a, c, b, lt, le)))
      ]

  comes_to_end : (before after : List Event) (n : ℕ) → es ≡ before ++ after → HasEnded (prog u (answers es) n).ending → others before ≡ [] → untrapped before ≤ steps_of n
  comes_to_end before after n e over none =
      let s = stood n in
      let now = prefix before after e in
      let few = untrapped_few before in
      let w = s.within in
      let c = s.closes (seen_ended (answers es) (outcome_seen (main_outcome u n (answers es))) over) in
      let within = c.1.within in
      elim (cases_lt (length before) c.1.soon) [
        | inl less ↦ omega (arith, few, less, w, within)
        | inr ge ↦ (
            let q : length before ≡ c.1.soon + (length before - c.1.soon) = omega (arith, ge) in
            some (others_in first s.k) (others_in (served first c.1.soon) (length before - c.1.soon)) (trapping SYSCALL c.0)
            (ap (λ xs. xs ++ others_in (served first c.1.soon) (length before - c.1.soon)) (sym c.1.comes) ∙ sym (others_join first c.1.soon (length before - c.1.soon)) ∙ ap (others_in first) (sym q) ∙ now.traps_so ∙ none)
            )
      ]
    where
      some : {Q : Type 0} (ts rest : List Trapping) (a : Trapping) → (ts ++ a ∷ []) ++ rest ≡ [] → Q
      some [] rest a e = absurd (cc)
      some (x ∷ xs) rest a e = absurd (cc)

  pub follows : FollowsMain u f0 es
  follows = record { asks = asks; ends = ends; again = again; comes = comes; comes_to_end = comes_to_end }
