-- A user's journal, replayed over its first machine, gives its last one.
use Rattle.std.proofs.Common.{◌≡◌, ℕ, zero, suc, ◌-◌, ◌<◌, ◌≤◌, Bool, true, false, ◌&&◌, cond, nat_eq, nat_lt, List, [], ◌∷◌, ◌++◌, length, Option, Some, None, refl, sym, ap, ◌∙◌, subst, arith, ltb-true, length-set, get_or-set_same, get_or-set_other, eqb-true, eq-eqb}
use Rattle.std.proofs.lemmas.Bool.{eqb-false}
use Rattle.std.proofs.lemmas.List.{length-map}
use Rattle.std.specs.Prelude.{◌≢◌, ℤ, pos, negsuc, option_and_then, bit_or}
use Rattle.mips_table.specs.Arith.{signed}
use Rattle.mips_table.specs.Machine.{cause_number}
use Rattle.mips_table.specs.Flat.{Flat, VStep, Goes, Trap, vstep}
use Rattle.cvm_model.specs.Kernel.{Core, JournalEntry, Stepped, Trapped, DispatchEnd, Answers, Faults, NotYet, DispatchOutcome}
use Rattle.cvm_model.specs.declared.kernel_fault.KernelFault.TheVariants.{BadUser}
use Rattle.cvm_model.specs.Primitives.{no_flat, user_of, with_user}
use Rattle.cvm_model.specs.Cvm.{System, Cvm, Status, Running, Halted, Faulted, Interrupts, user_step, begin, next_of, status_of, core_of, dispatched, after_dispatch, dispatch_of, begun, turn_by, turn, first_flat, first_core, first_cvm, cvm}
use Rattle.cvm_model.specs.declared.row.Next.{Next}
use Rattle.cvm_model.specs.declared.row.Next.TheVariants.{User, Halt, Fault}
use Rattle.cvm_model.specs.Journal.{changes_of, begin_entries, running_entries, turn_entries, journal, replay_step, replay_trap, replay_entry, replay, CallsReplay, KernelReplays, Isolated}
use Rattle.cvm_model.proofs.ReplayedInParts.{joins}

-- the machine of a user that was replaced, and of another
same_user : (users : List Flat) (w : ℕ) (f : Flat) → 1 ≤ w → w ≤ length users → user_of (with_user users w f) w ≡ f
same_user users w f from to = get_or-set_same users (w - 1) f no_flat (omega arith)

other_user : (users : List Flat) (u w : ℕ) (f : Flat) → 1 ≤ u → 1 ≤ w → u ≢ w → user_of (with_user users w f) u ≡ user_of users u
other_user users u w f a b ne = get_or-set_other users (w - 1) (u - 1) f no_flat (λ e. ne (omega arith))

some_same : {A : Type 0} (a b : A) → Some a ≡ Some b → a ≡ b
some_same a b e = cc

-- who is next leaves the users' machines as they are
pub next_users : (n : Next) (c : Core) → (core_of n c).users ≡ c.users
next_users (User u) c = refl
next_users Halt c = refl
next_users (Fault f) c = refl

-- a user of these
abbrev pub IsOf : ℕ → ℕ → Type 0
IsOf count u = (1 ≤ u) × (u ≤ count)

-- an answer that lets the run go on names a user
pub next_is_user : (count : ℕ) (a : ℤ) (c : Core) → status_of (next_of count a) ≡ Running → IsOf count (core_of (next_of count a) c).current
next_is_user count (pos zero) c e = absurd (cc)
next_is_user count (pos (suc n)) c e = by (nat_lt n count) refl e
  where
    by : (b : Bool) → nat_lt n count ≡ b → status_of (cond b (User (suc n)) (Fault BadUser)) ≡ Running →
        IsOf count (core_of (cond b (User (suc n)) (Fault BadUser)) c).current
    by true h e = let lt : n < count = ltb-true n count h in (omega arith, omega arith)
    by false h e = absurd (cc)
next_is_user count (negsuc n) c e = absurd (cc)

-- how many users there are, and that the current one is a user while the run goes on after turn 0
record Standing (y : System) (k : ℕ) (c : Cvm) : Type 0 where
  count : length c.core.users ≡ length y.boot.users
  current : c.status ≡ Running → 1 ≤ k → IsOf (length y.boot.users) c.core.current

-- what a turn keeps, and that its entries are replayed
record Turned (y : System) (k u : ℕ) (c d : Cvm) (entries : List JournalEntry) : Type 0 where
  standing : Standing y (suc k) d
  replayed : replay (user_of c.core.users u) entries ≡ Some (user_of d.core.users u)

-- the end of a dispatch, after entries that lead to the state at its call
dispatch_turned : (y : System) (k u : ℕ) (c d : Cvm) (cause edata user pending : ℕ) (at : Core) (o : DispatchOutcome) (e : DispatchEnd) (first : List JournalEntry) →
    CallsReplay o at → length at.users ≡ length y.boot.users → IsOf (length y.boot.users) u → replay (user_of c.core.users u) first ≡ Some (user_of at.users u) →
    after_dispatch y c k cause edata user pending o e ≡ Some d → Turned y k u c d (first ++ changes_of u o.calls)
dispatch_turned y k u c d cause edata user pending at o e first r count is before h = ends e h
  where
    replayed : replay (user_of c.core.users u) (first ++ changes_of u o.calls) ≡ Some (user_of o.after.users u)
    replayed =
        let from : 1 ≤ u = is.0 in
        let to : u ≤ length y.boot.users = is.1 in
        joins (user_of c.core.users u) first (changes_of u o.calls) ∙ ap (option_and_then (λ g. replay g (changes_of u o.calls))) before ∙ r.each u from (omega arith)

    by : (n : Next) → (status_of n ≡ Running → IsOf (length y.boot.users) (core_of n o.after).current) → dispatched y c k cause edata user pending o n ≡ d → Turned y k u c d (first ++ changes_of u o.calls)
    by n next same =
        let users : d.core.users ≡ o.after.users = ap (λ (s : Cvm). s.core.users) (sym same) ∙ next_users n o.after in
        record {
          standing = record {
            count = ap length users ∙ r.count ∙ count;
            current = λ run le. subst (λ (s : Cvm). IsOf (length y.boot.users) s.core.current) same (next (ap (λ (s : Cvm). s.status) same ∙ run));
          };
          replayed = replayed ∙ ap (λ us. Some (user_of us u)) (sym users);
        }

    ends : (e : DispatchEnd) → after_dispatch y c k cause edata user pending o e ≡ Some d → Turned y k u c d (first ++ changes_of u o.calls)
    ends (Answers a) h = by (next_of (length y.boot.users) a) (next_is_user (length y.boot.users) a o.after) (some_same _ _ h)
    ends (Faults f) h = by (Fault f) (λ run. absurd (cc)) (some_same _ _ h)
    ends NotYet h = absurd (cc)

-- entries that make one user's machine f, as each user's machine shows it
pub changed_user : (users : List Flat) (u w : ℕ) (f : Flat) (entries : List JournalEntry) → IsOf (length users) u → IsOf (length users) w → replay (user_of users w) entries ≡ Some f →
    replay (user_of users u) (cond (nat_eq w u) entries []) ≡ Some (user_of (with_user users w f) u)
changed_user users u w f entries iu iw r = by (nat_eq w u) refl
  where
    by : (b : Bool) → nat_eq w u ≡ b → replay (user_of users u) (cond b entries []) ≡ Some (user_of (with_user users w f) u)
    by true h =
        let same : w ≡ u = eqb-true w u h in
        subst (λ v. replay (user_of users v) entries ≡ Some f) same r ∙ ap Some (sym (same_user users w f iw.0 iw.1) ∙ ap (user_of (with_user users w f)) same)
    by false h = ap Some (sym (other_user users u w f iu.0 iw.0 (λ same. absurd (eqb-false w u h (sym same)))))

-- one step of the current user
stepped_user : (users : List Flat) (u w : ℕ) (f : Flat) (e : JournalEntry) → IsOf (length users) u → IsOf (length users) w → replay_entry e (user_of users w) ≡ Some f →
    replay (user_of users u) (cond (nat_eq w u) (e ∷ []) []) ≡ Some (user_of (with_user users w f) u)
stepped_user users u w f e iu iw r = changed_user users u w f (e ∷ []) iu iw (ap (option_and_then (λ g. replay g [])) r)

-- a trap is replayed by itself
same_trap : (c d : ℕ) (f : Flat) → cond (nat_eq c c && nat_eq d d) (Some f) None ≡ Some f
same_trap c d f = rw (eq-eqb c c refl, eq-eqb d d refl) refl

begun_turned : (y : System) → KernelReplays y.boot.meaning → (n k u : ℕ) (c d : Cvm) (lines : ℕ) → Standing y k c → c.status ≡ Running → IsOf (length y.boot.users) u →
    begun y n k c (begin k c.core lines) ≡ Some d → Turned y k u c d (begin_entries y n (λ calls. calls) u c.core (begin k c.core lines))
begun_turned y r n zero u c d lines s run is h =
    dispatch_turned y zero u c d 0 0 c.core.current lines c.core (dispatch_of y n 0 0 c.core) _ [] (r n c.core (pos 0) (signed 0) (pos c.core.current)) s.count is refl h
begun_turned y r n (suc k) u c d lines s run is h = by (nat_eq lines 0) h
  where
    at : IsOf (length y.boot.users) c.core.current
    at = s.current run (omega arith)

    by_step : (v : VStep) → vstep (user_of c.core.users c.core.current) ≡ v → begun y n (suc k) c (user_step c.core v) ≡ Some d →
        Turned y (suc k) u c d (begin_entries y n (λ calls. calls) u c.core (user_step c.core v))
    by_step (Goes f) e h =
        let same : record c { core = record c.core { users = with_user c.core.users c.core.current f }; pending = 0; bound = _ } ≡ d = some_same _ _ h in
        let users : d.core.users ≡ with_user c.core.users c.core.current f = ap (λ (s : Cvm). s.core.users) (sym same) in
        record {
          standing = record {
            count = ap length users ∙ length-set c.core.users (c.core.current - 1) f ∙ s.count;
            current = λ run le. subst (λ (s : Cvm). IsOf (length y.boot.users) s.core.current) same at;
          };
          replayed = stepped_user c.core.users u c.core.current f Stepped (subst (λ n. IsOf n u) (sym s.count) is) (subst (λ n. IsOf n c.core.current) (sym s.count) at) (ap replay_step e) ∙ ap (λ us. Some (user_of us u)) (sym users);
        }
    by_step (Trap f cause edata) e h =
        let trapped : Core = record c.core { users = with_user c.core.users c.core.current f } in
        let before : replay (user_of c.core.users u) (cond (nat_eq c.core.current u) (Trapped (cause_number cause) edata ∷ []) []) ≡ Some (user_of trapped.users u) =
        stepped_user c.core.users u c.core.current f (Trapped (cause_number cause) edata) (subst (λ n. IsOf n u) (sym s.count) is) (subst (λ n. IsOf n c.core.current) (sym s.count) at)
        (ap (λ v. replay_trap v (cause_number cause) edata) e ∙ same_trap (cause_number cause) edata f) in
        dispatch_turned y (suc k) u c d (cause_number cause) edata c.core.current 0 trapped (dispatch_of y n (cause_number cause) edata trapped) _
        (cond (nat_eq c.core.current u) (Trapped (cause_number cause) edata ∷ []) []) (r n trapped (pos (cause_number cause)) (signed edata) (pos c.core.current))
        (length-set c.core.users (c.core.current - 1) f ∙ s.count) is before h

    by : (b : Bool) → begun y n (suc k) c (cond b (user_step c.core (vstep (user_of c.core.users c.core.current))) (Interrupts 1 lines c.core 0)) ≡ Some d →
        Turned y (suc k) u c d (begin_entries y n (λ calls. calls) u c.core (cond b (user_step c.core (vstep (user_of c.core.users c.core.current))) (Interrupts 1 lines c.core 0)))
    by true h = by_step (vstep (user_of c.core.users c.core.current)) refl h
    by false h = dispatch_turned y (suc k) u c d 1 lines c.core.current 0 c.core (dispatch_of y n 1 lines c.core) _ [] (r n c.core (pos 1) (signed lines) (pos c.core.current)) s.count is refl h

-- a run that has ended stays as it is
ended : (y : System) (k u : ℕ) (c d : Cvm) → (c.status ≡ Running → ⊥) → Standing y k c → c ≡ d → Turned y k u c d []
ended y k u c d over s same = record {
  standing = record {
    count = subst (λ (s : Cvm). length s.core.users ≡ length y.boot.users) same s.count;
    current = λ run le. absurd (over (ap (λ (s : Cvm). s.status) same ∙ run));
  };
  replayed = ap (λ (s : Cvm). Some (user_of s.core.users u)) same;
}

turn_turned : (y : System) → KernelReplays y.boot.meaning → (n k u lines : ℕ) (c d : Cvm) (status : Status) → c.status ≡ status → Standing y k c → IsOf (length y.boot.users) u →
    turn_by y n k lines c status ≡ Some d → Turned y k u c d (running_entries y n (λ calls. calls) u k lines c status)
turn_turned y r n k u lines c d Running run s is h = begun_turned y r n k u c d (bit_or c.pending lines) s run is h
turn_turned y r n k u lines c d Halted run s is h = ended y k u c d (λ e. absurd (cc)) s (some_same _ _ h)
turn_turned y r n k u lines c d (Faulted f) run s is h = ended y k u c d (λ e. absurd (cc)) s (some_same _ _ h)

-- how far a run has come
record Held (y : System) (lines : ℕ → ℕ) (n k u : ℕ) (c : Cvm) : Type 0 where
  standing : Standing y k c
  replayed : replay (user_of (first_core y).users u) (journal y lines n u k) ≡ Some (user_of c.core.users u)

held : (y : System) → KernelReplays y.boot.meaning → (lines : ℕ → ℕ) (n k u : ℕ) → IsOf (length y.boot.users) u → (d : Cvm) → cvm y lines n k ≡ Some d → Held y lines n k u d
held y r lines n zero u is d h =
    let same : first_cvm y ≡ d = some_same _ _ h in
    subst (Held y lines n zero u) same (record { standing = record { count = length-map y.boot.users first_flat; current = λ run le. absurd (omega arith) }; replayed = refl })
held y r lines n (suc k) u is d h = by (cvm y lines n k) refl h (held y r lines n k u is)
  where
    by : (p : Option Cvm) → cvm y lines n k ≡ p → turn y n k (lines k) p ≡ Some d → ((c : Cvm) → cvm y lines n k ≡ Some c → Held y lines n k u c) → Held y lines n (suc k) u d
    by None e t ih = absurd (cc)
    by (Some c) e t ih =
        let before : Held y lines n k u c = ih c e in
        let turned : Turned y k u c d (running_entries y n (λ calls. calls) u k (lines k) c c.status) = turn_turned y r n k u (lines k) c d c.status refl before.standing is t in
        let entries : journal y lines n u (suc k) ≡ journal y lines n u k ++ running_entries y n (λ calls. calls) u k (lines k) c c.status =
        ap (λ p. journal y lines n u k ++ turn_entries y n (λ calls. calls) u k (lines k) p) e in
        record {
          standing = turned.standing;
          replayed = ap (replay (user_of (first_core y).users u)) entries
              ∙ joins (user_of (first_core y).users u) (journal y lines n u k) (running_entries y n (λ calls. calls) u k (lines k) c c.status)
              ∙ ap (option_and_then (λ g. replay g (running_entries y n (λ calls. calls) u k (lines k) c c.status))) before.replayed ∙ turned.replayed;
        }

pub isolated : Isolated
isolated y lines n k u c r from to h = (held y r lines n k u (from, to) c h).replayed
