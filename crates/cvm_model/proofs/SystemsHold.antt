-- An invariant over whole states that each dispatch and each untrapped step of a user keep holds in every run. No contract can carry the rule, since a property
-- ranges over types: this file may be cited from other crates. To be used by `systems_hold`, with the law `runs_are_lawful`; `keeps_all_by` of proofs/KeepsSystem
-- gives the obligation of a dispatch of what its code does.
use Rattle.std.proofs.Common.{◌≡◌, ℕ, zero, suc, ◌+◌, ◌<◌, ◌≤◌, ◌^◌, ℤ, List, [], ◌∷◌, ◌++◌, length, Bool, true, false, nat_lt, Option, Some, None, refl, sym, ap, ap₂, ◌∙◌, subst, arith, ltb-true}
use Rattle.std.specs.Prelude.{◌≢◌, bit_or, ◌==◌, not, if◌then◌else◌, pos, negsuc}
use Rattle.std.proofs.lemmas.Bool.{eqb-false}
use Rattle.std.proofs.lemmas.Nat.{or_of_8}
use Rattle.mips_table.specs.declared.cause.Cause.{Cause}
use Rattle.mips_table.specs.declared.cause.Cause.TheVariants as causes
use Rattle.mips_table.specs.declared.effect.Effect.{Effect}
use Rattle.mips_table.specs.declared.effect.Effect.TheVariants as effects
use Rattle.mips_table.specs.declared.inst.Inst.{Inst}
use Rattle.mips_table.specs.Decoding.{decoding}
use Rattle.mips_table.specs.Machine.{cause_number}
use Rattle.mips_table.specs.Processor.{Cpu, Access, Move, Loaded, Stored, Trapped, is_aligned, accessed, advanced, performed, effect_on, executed}
use Rattle.mips_table.specs.Flat.{Flat, VStep, Goes, Trap, flat_access, word_at, after_move, vstep}
use Rattle.cvm_model.specs.Kernel.{Core, DispatchEnd, Answers, Faults, NotYet, DispatchOutcome, MeaningLaws}
use Rattle.cvm_model.specs.Primitives.{user_of, with_user}
use Rattle.cvm_model.specs.Stands.{IsUser}
use Rattle.cvm_model.specs.Cvm.{System, Cvm, Status, Running, Halted, Faulted, Interrupts, begun, user_step, cvm, turn, turn_by, dispatch_of, dispatches, after_dispatch, dispatched, next_of, first_core, first_cvm, status_of, core_of}
use Rattle.cvm_model.specs.declared.row.Next.{Next}
use Rattle.cvm_model.specs.declared.row.Next.TheVariants.{User, Halt, Fault}
use Rattle.cvm_model.specs.declared.kernel_fault.KernelFault.TheVariants.{BadUser}
use Rattle.cvm_model.specs.declared.row.Row.{Row}
use Rattle.cvm_model.specs.Invariant.{Dispatch, dispatch_row, dispatch_rows, next_by, made_by, of_begin, of_status, of_turn, dispatches_of, IsTrap, machine_after, with_machine, Known, HasEight, HasUsers, RunsAreLawful}
use Rattle.cvm_model.specs.Systems.{SystemProperty, status_from, turns_from, DispatchKept, KeepsAll, KeepsIfOver, IsKeptBy, IsSystemInvariant, IsRunInvariant, SystemHolds, SystemsHold, RunsHold, lines_taken, EndsBelow, CameBy, at_start, by_line, by_trap, Chain, RunsAreChains}

-- a step of a user traps by the causes of traps alone
abbrev pub TrapsOf : VStep → Type 0
TrapsOf (Goes f) = Unit {0}
TrapsOf (Trap f cause edata) = IsTrap cause

accessed_traps : (f : Flat) (may : Bool) (misaligned refused : Cause) (address pc : ℕ) (m : Move) → IsTrap misaligned → IsTrap refused → TrapsOf (after_move f m) → TrapsOf (after_move f (accessed may misaligned refused address pc m))
accessed_traps f may a b address pc m ha hb h = by (is_aligned address) may
  where
    by : (aligned may : Bool) → TrapsOf (after_move f (if not aligned then Trapped a address pc else if not may then Trapped b address pc else m))
    by false may = ha
    by true false = hb
    by true true = h

performed_traps : (f : Flat) (a : Access) (c : Cpu) (word : ℕ) (e : Effect) → TrapsOf (after_move f (performed a c word e))
performed_traps f a c word (effects.Set r v to) = tt
performed_traps f a c word (effects.Wide hi lo to) = tt
performed_traps f a c word (effects.Load r address) = accessed_traps f (a.may_load address) _ _ address c.pc (Loaded (advanced c) r address) tt tt tt
performed_traps f a c word (effects.Store address v) = accessed_traps f (a.may_store address) _ _ address c.pc (Stored (advanced c) address v) tt tt tt
performed_traps f a c word effects.Overflow = tt
performed_traps f a c word effects.Call = tt
performed_traps f a c word effects.System = tt

executed_traps : (f : Flat) (a : Access) (c : Cpu) (word : ℕ) (i : Option Inst) → TrapsOf (after_move f (executed a c word i))
executed_traps f a c word None = tt
executed_traps f a c word (Some inst) = performed_traps f a c word (effect_on inst c)

pub step_traps : (f : Flat) → TrapsOf (vstep f)
step_traps f =
    let a = flat_access f.words in let w = word_at f.words f.cpu.pc in
    accessed_traps f (a.may_fetch f.cpu.pc) causes.FetchAlign causes.FetchFault f.cpu.pc f.cpu.pc (executed a f.cpu w (decoding w)) tt tt (executed_traps f a f.cpu w (decoding w))

-- HISTORY with a dispatch more
pub rows_join : (a : List Dispatch) (d : Dispatch) → dispatch_rows (a ++ d ∷ []) ≡ dispatch_rows a ++ dispatch_row d ∷ []
rows_join [] d = refl
rows_join (e ∷ a) d = ap (λ rows. dispatch_row e ∷ rows) (rows_join a d)

pub status_join : (s : Status) (a : List Dispatch) (d : Dispatch) → status_from s (a ++ d ∷ []) ≡ status_of d.next
status_join s [] d = refl
status_join s (e ∷ a) d = status_join (status_of e.next) a d

pub turns_join : (k : ℕ) (a : List Dispatch) (d : Dispatch) → turns_from k (a ++ d ∷ []) ≡ suc d.turn
turns_join k [] d = refl
turns_join k (e ∷ a) d = turns_join (suc e.turn) a d

pub lines_join : (a : List Dispatch) (d : Dispatch) → lines_taken (a ++ d ∷ []) ≡ lines_taken a + (if d.cause == 1 then 1 else 0)
lines_join [] d = omega arith
lines_join (e ∷ a) d = let h = lines_join a d in omega (arith, h)

pub append_none : {A : Type 0} (xs : List A) → xs ++ [] ≡ xs
append_none [] = refl
append_none (x ∷ xs) = ap (λ ys. x ∷ ys) (append_none xs)

-- the user that an answer names is one
abbrev IsOneOf : ℕ → Next → Type 0
IsOneOf users next = (u : ℕ) → next ≡ User u → (1 ≤ u) × (u ≤ users)

named : (users : ℕ) (a : ℤ) → IsOneOf users (next_of users a)
named users (pos zero) u e = absurd (cc)
named users (pos (suc n)) u e = by (nat_lt n users) refl e
  where
    by : (b : Bool) → nat_lt n users ≡ b → (if b then User (suc n) else Fault BadUser) ≡ User u → (1 ≤ u) × (u ≤ users)
    by true t e = let same : suc n ≡ u = cc in let less : n < users = ltb-true n users t in (omega (arith, same), omega (arith, same, less))
    by false t e = absurd (cc)
named users (negsuc n) u e = absurd (cc)

none : 0 < 2 ^ 8
none = omega arith

some_of : (m : ℕ) → (m ≡ 0 → ⊥) → 1 ≤ m
some_of zero isnt = absurd (isnt refl)
some_of (suc m) isnt = omega arith

module _ (y : System) (n : ℕ) (Fit : Core → Type 0) (I : SystemProperty) (known : Known y Fit) where
  -- what is so of a state from the first turn on
  record Stands (k : ℕ) (past : List Dispatch) (c : Cvm) : Type 0 where
    holds : SystemHolds Fit I k past c
    pending : c.pending < 2 ^ 8

  abbrev StandsIfAny : ℕ → List Dispatch → Option Cvm → Type 0
  StandsIfAny k past None = Unit {0}
  StandsIfAny k past (Some c) = Stands k past c

  fits_next : (next : Next) (o : Core) → ((u : ℕ) → next ≡ User u → IsUser o u) → Fit o → Fit (core_of next o)
  fits_next (User u) o is h = known.next o u h (is u refl)
  fits_next Halt o is h = h
  fits_next (Fault f) o is h = h

  user_next : (next : Next) (o : Core) → ((u : ℕ) → next ≡ User u → IsUser o u) → status_of next ≡ Running → IsUser (core_of next o) (core_of next o).current
  user_next (User u) o is e = is u refl
  user_next Halt o is e = absurd (cc)
  user_next (Fault f) o is e = absurd (cc)

  -- behind a dispatch, by who is next
  behind : (past : List Dispatch) (k cause edata : ℕ) (c : Cvm) (at : Core) (pending : ℕ) → Fit at → c.rows ≡ dispatch_rows past → pending < 2 ^ 8 → DispatchKept y n I k cause edata past at →
      (next : Next) → next_by (length y.boot.users) (dispatch_of y n cause edata at).end ≡ next → IsOneOf (length y.boot.users) next →
      Stands (suc k) (past ++ made_by y n k cause edata at (dispatch_of y n cause edata at) ∷ []) (dispatched y c k cause edata at.current pending (dispatch_of y n cause edata at) next)
  behind past k cause edata c at pending fit rows few kept next same one =
      let o : DispatchOutcome = dispatch_of y n cause edata at in
      let d : Dispatch = made_by y n k cause edata at o in
      let fits : Fit o.after = known.dispatch n cause edata at fit in
      let count : length o.after.users ≡ length y.boot.users = known.count o.after fits in
      let is : (u : ℕ) → next ≡ User u → IsUser o.after u = λ u e. let b = one u e in (b.0, subst (λ m. u ≤ m) (sym count) b.1) in
      record {
        holds = record {
          made = suc k;
          most = omega arith;
          all = λ e. refl;
          last = λ e. sym (turns_join 0 past d);
          rows = ap₂ (λ (rs : List Row) (next : Next). rs ++ record { turn = k; cause = cause; edata = edata; user = at.current; next = next } ∷ []) rows (sym same) ∙ sym (rows_join past d);
          status = sym (status_join Running past d ∙ ap status_of same);
          fits = fits_next next o.after is fits;
          user = user_next next o.after is;
          kept = subst (λ (next : Next). I (suc k) (past ++ d ∷ []) (core_of next o.after)) same kept;
        };
        pending = few;
      }

  over_answer : (a : ℤ) (e : DispatchEnd) → e ≡ Answers a → e ≢ NotYet
  over_answer a e is f = absurd (let g : Answers a ≡ NotYet = sym is ∙ f in cc)

  over_fault : (f : _) (e : DispatchEnd) → e ≡ Faults f → e ≢ NotYet
  over_fault f e is g = absurd (let h : Faults f ≡ NotYet = sym is ∙ g in cc)

  dispatch_comes : (past : List Dispatch) (k cause edata : ℕ) (c : Cvm) (at : Core) (pending : ℕ) → Fit at → c.rows ≡ dispatch_rows past → pending < 2 ^ 8 → KeepsIfOver y n I k cause edata past at
      → StandsIfAny (suc k) (past ++ made_by y n k cause edata at (dispatch_of y n cause edata at) ∷ []) (dispatches y n k c cause edata at pending)
  dispatch_comes past k cause edata c at pending fit rows few h = by (dispatch_of y n cause edata at).end refl
    where
      by : (e : DispatchEnd) → (dispatch_of y n cause edata at).end ≡ e
          → StandsIfAny (suc k) (past ++ made_by y n k cause edata at (dispatch_of y n cause edata at) ∷ []) (after_dispatch y c k cause edata at.current pending (dispatch_of y n cause edata at) e)
      by (Answers a) e = behind past k cause edata c at pending fit rows few (h.kept (over_answer a _ e)) (next_of (length y.boot.users) a) (ap (next_by (length y.boot.users)) e) (named (length y.boot.users) a)
      by (Faults f) e = behind past k cause edata c at pending fit rows few (h.kept (over_fault f _ e)) (Fault f) (ap (next_by (length y.boot.users)) e) (λ u e. absurd (cc))
      by NotYet e = tt

  stays_user : (c : Core) (f : Flat) → IsUser c c.current → Fit (with_machine c f) → Fit c → IsUser (with_machine c f) c.current
  stays_user c f is after before =
      let a : length (with_user c.users c.current f) ≡ length y.boot.users = known.count _ after in
      let b : length c.users ≡ length y.boot.users = known.count c before in
      (is.0, subst (λ m. c.current ≤ m) (b ∙ sym a) is.1)

  -- of a running state the property is that of all turns
  all_of : (k : ℕ) (past : List Dispatch) (c : Cvm) → c.status ≡ Running → Stands k past c → I k past c.core
  all_of k past c on h = subst (λ k. I k past c.core) (h.holds.all on) h.holds.kept

  module _ (Keeps : (k cause edata : ℕ) → List Dispatch → Core → Type 0) (inv : IsKeptBy y Fit I Keeps) where
    -- what is owed of the dispatch that a running state comes to: by a trap, or by lines
    owed_trap : (past : List Dispatch) (k : ℕ) (c : Cvm) → c.status ≡ Running → Stands (suc k) past c → (f : Flat) (cause : Cause) (edata : ℕ) → vstep (user_of c.core.users c.core.current) ≡ Trap f cause edata →
        Fit (with_machine c.core f) → IsTrap cause → Keeps (suc k) (cause_number cause) edata past (with_machine c.core f)
    owed_trap past k c on h f cause edata e fit is =
        inv.trap k cause edata past c.core (with_machine c.core f) (record { after = f; stepped = e; left = refl; is = is }) h.holds.fits (h.holds.user on) fit
        (stays_user c.core f (h.holds.user on) fit h.holds.fits) (sym h.holds.status ∙ on) (all_of (suc k) past c on h)

    owed_line : (past : List Dispatch) (k pend : ℕ) (c : Cvm) → c.status ≡ Running → Stands (suc k) past c → pend < 2 ^ 8 → (pend == 0) ≡ false → Keeps (suc k) 1 pend past c.core
    owed_line past k pend c on h few e =
        inv.line k pend past c.core (some_of pend (eqb-false pend 0 e)) few h.holds.fits (h.holds.user on) (sym h.holds.status ∙ on) (all_of (suc k) past c on h)

    step_fits : (k : ℕ) (past : List Dispatch) (c : Cvm) → c.status ≡ Running → Stands k past c → Fit (with_machine c.core (machine_after (vstep (user_of c.core.users c.core.current))))
    step_fits k past c on h = known.step c.core h.holds.fits (h.holds.user on)

  -- THE RUN, as far as it is defined
  module _ (inv : IsRunInvariant y n Fit I) (lines : ℕ → ℕ) (eight : HasEight lines) where
    step_comes : (past : List Dispatch) (k : ℕ) (c : Cvm) → c.status ≡ Running → Stands (suc k) past c → (v : VStep) → vstep (user_of c.core.users c.core.current) ≡ v
        → Fit (with_machine c.core (machine_after v)) → TrapsOf v
        → StandsIfAny (suc (suc k)) (past ++ of_begin y n (suc k) (user_step c.core v)) (begun y n (suc k) c (user_step c.core v))
    step_comes past k c on h (Goes f) e fit trap =
        subst (λ p. StandsIfAny (suc (suc k)) p (begun y n (suc k) c (user_step c.core (Goes f)))) (sym (append_none past)) (record {
          holds = record {
            made = suc (suc k);
            most = omega arith;
            all = λ e. refl;
            last = λ off. absurd (off on);
            rows = h.holds.rows;
            status = h.holds.status;
            fits = fit;
            user = λ e. stays_user c.core f (h.holds.user on) fit h.holds.fits;
            kept = inv.step k past c.core f e h.holds.fits (h.holds.user on) fit (sym h.holds.status ∙ on) (all_of (suc k) past c on h);
          };
          pending = none;
        })
    step_comes past k c on h (Trap f cause edata) e fit trap =
        dispatch_comes past (suc k) (cause_number cause) edata c _ 0 fit h.holds.rows none (owed_trap (KeepsIfOver y n I) inv past k c on h f cause edata e fit trap)

    begun_comes : (past : List Dispatch) (k pend : ℕ) (c : Cvm) → c.status ≡ Running → Stands (suc k) past c → pend < 2 ^ 8 → (b : Bool) → (pend == 0) ≡ b
        → let v = if b then user_step c.core (vstep (user_of c.core.users c.core.current)) else Interrupts 1 pend c.core 0 in StandsIfAny (suc (suc k)) (past ++ of_begin y n (suc k) v) (begun y n (suc k) c v)
    begun_comes past k pend c on h few true e =
        step_comes past k c on h (vstep (user_of c.core.users c.core.current)) refl (step_fits (KeepsIfOver y n I) inv (suc k) past c on h) (step_traps (user_of c.core.users c.core.current))
    begun_comes past k pend c on h few false e =
        dispatch_comes past (suc k) 1 pend c c.core 0 h.holds.fits h.holds.rows none (owed_line (KeepsIfOver y n I) inv past k pend c on h few e)

    ended : (k : ℕ) (past : List Dispatch) (c : Cvm) → Stands k past c → c.status ≢ Running → Stands (suc k) (past ++ []) c
    ended k past c h off = subst (λ p. Stands (suc k) p c) (sym (append_none past)) (record {
      holds = record {
        made = h.holds.made;
        most = let m = h.holds.most in omega (arith, m);
        all = λ on. absurd (off on);
        last = h.holds.last;
        rows = h.holds.rows;
        status = h.holds.status;
        fits = h.holds.fits;
        user = h.holds.user;
        kept = h.holds.kept;
      };
      pending = h.pending;
    })

    turn_comes : (past : List Dispatch) (k l : ℕ) (c : Cvm) → l < 2 ^ 8 → Stands (suc k) past c → (s : Status) → c.status ≡ s → StandsIfAny (suc (suc k)) (past ++ of_status y n (suc k) l c s) (turn_by y n (suc k) l c s)
    turn_comes past k l c few h Running e = begun_comes past k (bit_or c.pending l) c e h (or_of_8 c.pending l h.pending few) (bit_or c.pending l == 0) refl
    turn_comes past k l c few h Halted e = ended (suc k) past c h (λ on. absurd (let z : Halted ≡ Running = sym e ∙ on in cc))
    turn_comes past k l c few h (Faulted f) e = ended (suc k) past c h (λ on. absurd (let z : Faulted f ≡ Running = sym e ∙ on in cc))

    next_comes : (k : ℕ) (past : List Dispatch) (o : Option Cvm) → StandsIfAny (suc k) past o → StandsIfAny (suc (suc k)) (past ++ of_turn y n (suc k) (lines (suc k)) o) (turn y n (suc k) (lines (suc k)) o)
    next_comes k past None h = tt
    next_comes k past (Some c) h = turn_comes past k (lines (suc k)) c (eight (suc k)) h c.status refl

    come : (k : ℕ) → StandsIfAny (suc k) (dispatches_of y lines n (suc k)) (cvm y lines n (suc k))
    come zero = dispatch_comes [] 0 0 0 (first_cvm y) (first_core y) (bit_or 0 (lines 0)) known.start refl (or_of_8 0 (lines 0) none (eight 0)) (inv.start known.start)
    come (suc k) = next_comes k (dispatches_of y lines n (suc k)) (cvm y lines n (suc k)) (come k)

    stands : (k : ℕ) (c : Cvm) → cvm y lines n (suc k) ≡ Some c → Stands (suc k) (dispatches_of y lines n (suc k)) c
    stands k c e = subst (StandsIfAny (suc k) (dispatches_of y lines n (suc k))) e (come k)

  -- AND IT IS DEFINED
  module _ (inv : IsSystemInvariant y n Fit I) (lines : ℕ → ℕ) (eight : HasEight lines) where
    if_over : IsRunInvariant y n Fit I
    if_over = record {
      start = λ fit. record { kept = λ over. (inv.start fit).kept };
      line = λ k mask past c some few fit is on h. record { kept = λ over. (inv.line k mask past c some few fit is on h).kept };
      trap = λ k cause edata past before at came fit is fits one on h. record { kept = λ over. (inv.trap k cause edata past before at came fit is fits one on h).kept };
      step = inv.step;
    }

    abbrev IsDefined : Option Cvm → Type 0
    IsDefined o = (c : Cvm) × (o ≡ Some c)

    dispatch_defined : (past : List Dispatch) (k cause edata : ℕ) (c : Cvm) (at : Core) (pending : ℕ) → KeepsAll y n I k cause edata past at → IsDefined (dispatches y n k c cause edata at pending)
    dispatch_defined past k cause edata c at pending h = by (dispatch_of y n cause edata at).end refl
      where
        by : (e : DispatchEnd) → (dispatch_of y n cause edata at).end ≡ e → IsDefined (after_dispatch y c k cause edata at.current pending (dispatch_of y n cause edata at) e)
        by (Answers a) e = (_, refl)
        by (Faults f) e = (_, refl)
        by NotYet e = absurd (h.over e)

    step_defined : (past : List Dispatch) (k : ℕ) (c : Cvm) → c.status ≡ Running → Stands (suc k) past c → (v : VStep) → vstep (user_of c.core.users c.core.current) ≡ v
        → Fit (with_machine c.core (machine_after v)) → TrapsOf v → IsDefined (begun y n (suc k) c (user_step c.core v))
    step_defined past k c on h (Goes f) e fit trap = (_, refl)
    step_defined past k c on h (Trap f cause edata) e fit trap = dispatch_defined past (suc k) (cause_number cause) edata c _ 0 (owed_trap (KeepsAll y n I) inv past k c on h f cause edata e fit trap)

    begun_defined : (past : List Dispatch) (k pend : ℕ) (c : Cvm) → c.status ≡ Running → Stands (suc k) past c → pend < 2 ^ 8 → (b : Bool) → (pend == 0) ≡ b
        → IsDefined (begun y n (suc k) c (if b then user_step c.core (vstep (user_of c.core.users c.core.current)) else Interrupts 1 pend c.core 0))
    begun_defined past k pend c on h few true e =
        step_defined past k c on h (vstep (user_of c.core.users c.core.current)) refl (step_fits (KeepsAll y n I) inv (suc k) past c on h) (step_traps (user_of c.core.users c.core.current))
    begun_defined past k pend c on h few false e = dispatch_defined past (suc k) 1 pend c c.core 0 (owed_line (KeepsAll y n I) inv past k pend c on h few e)

    turn_defined : (past : List Dispatch) (k l : ℕ) (c : Cvm) → l < 2 ^ 8 → Stands (suc k) past c → (s : Status) → c.status ≡ s → IsDefined (turn_by y n (suc k) l c s)
    turn_defined past k l c few h Running e = begun_defined past k (bit_or c.pending l) c e h (or_of_8 c.pending l h.pending few) (bit_or c.pending l == 0) refl
    turn_defined past k l c few h Halted e = (c, refl)
    turn_defined past k l c few h (Faulted f) e = (c, refl)

    defined : (k : ℕ) → IsDefined (cvm y lines n (suc k))
    defined zero = dispatch_defined [] 0 0 0 (first_cvm y) (first_core y) (bit_or 0 (lines 0)) (inv.start known.start)
    defined (suc k) =
        let d = defined k in
        let t = turn_defined (dispatches_of y lines n (suc k)) k (lines (suc k)) d.0 (eight (suc k)) (stands if_over lines eight k d.0 d.1) d.0.status refl in
        (t.0, ap (turn y n (suc k) (lines (suc k))) d.1 ∙ t.1)

    defined_at : (k : ℕ) → IsDefined (cvm y lines n k)
    defined_at zero = (_, refl)
    defined_at (suc k) = defined k

pub runs_hold : RunsHold
runs_hold y n Fit I known inv lines eight k c e = (stands y n Fit I known inv lines eight k c e).holds

pub systems_hold : RunsAreLawful → SystemsHold
systems_hold laws y u n Fit I e known inv lines eight k = (
  defined_at y n Fit I known inv lines eight k,
  λ c is. let t = defined y n Fit I known inv lines eight k in
      let kernel : MeaningLaws y.boot.meaning = subst MeaningLaws (sym e) (laws.kernels u y.boot.params) in
      subst (SystemHolds Fit I (suc k) (dispatches_of y lines n (suc k))) (laws.same y lines (suc k) t.0 c kernel (record { units = n; is = t.1 }) is)
      (runs_hold y n Fit I known (if_over y n Fit I known inv lines eight) lines eight k t.0 t.1),
)

-- a state behind so many turns as an invariant that ends comes to isn't running
pub ends_below : (Fit : Core → Type 0) (I : SystemProperty) (lines most k : ℕ) (past : List Dispatch) (c : Cvm) → EndsBelow I lines most → lines_taken past ≤ lines → most ≤ k → SystemHolds Fit I k past c → c.status ≢ Running
ends_below Fit I lines most k past c below few le h on =
    let less : h.made < most = below h.made past c.core h.kept (sym h.status ∙ on) few in
    let all : h.made ≡ k = h.all on in
    absurd (omega (arith, less, all, le))

-- a run that is over stays where it is
turn_over : (y : System) (n k l : ℕ) (c : Cvm) → c.status ≢ Running → turn_by y n k l c c.status ≡ Some c
turn_over y n k l c off = by c.status refl
  where
    by : (s : Status) → c.status ≡ s → turn_by y n k l c s ≡ Some c
    by Running e = absurd (off e)
    by Halted e = refl
    by (Faulted f) e = refl

pub stays_over : (y : System) (lines : ℕ → ℕ) (n k m : ℕ) (c : Cvm) → cvm y lines n k ≡ Some c → c.status ≢ Running → cvm y lines n (m + k) ≡ Some c
stays_over y lines n k zero c e off = let z : 0 + k ≡ k = omega arith in subst (λ i. cvm y lines n i ≡ Some c) (sym z) e
stays_over y lines n k (suc m) c e off =
    let z : suc m + k ≡ suc (m + k) = omega arith in
    subst (λ i. cvm y lines n i ≡ Some c) (sym z) (ap (turn y n (m + k) (lines (m + k))) (stays_over y lines n k m c e off) ∙ turn_over y n (m + k) (lines (m + k)) c off)

-- EACH RUN IS A CHAIN
module _ (y : System) (n : ℕ) where
  chain_steps : (turns : ℕ) (c : Core) (past : List Dispatch) (k : ℕ) (d : Core) (f : Flat) → vstep (user_of d.users d.current) ≡ Goes f → Chain y n turns c past k d → Chain y n turns c past (suc k) (with_machine d f)
  chain_steps turns c [] k d f e (m, at, steps) = (suc m, omega (arith, at), (d, steps, (f, e, refl)))
  chain_steps turns c (o ∷ past) k d f e (next, rest) = (next, chain_steps (suc o.turn) (core_of o.next o.after) past k d f e rest)

  chain_more : (turns : ℕ) (c : Core) (past : List Dispatch) (d : Core) (o : Dispatch) → CameBy d o → o.after ≡ (dispatch_of y n o.cause o.edata o.before).after →
      o.next ≡ next_by (length y.boot.users) (dispatch_of y n o.cause o.edata o.before).end → Chain y n turns c past o.turn d → Chain y n turns c (past ++ o ∷ []) (suc o.turn) (core_of o.next o.after)
  chain_more turns c [] d o came after next (m, at, steps) = (record { steps = m; turn = at; up_to = d; stepped = steps; came = came; after = after; next = next }, (0, omega arith, refl))
  chain_more turns c (e ∷ past) d o came after next (first, rest) = (first, chain_more (suc e.turn) (core_of e.next e.after) past d o came after next rest)

  chains : IsRunInvariant y n (HasUsers y) (λ k past c. Chain y n 0 (first_core y) past k c)
  chains = record {
    start = λ fit. record { kept = λ over. chain_more 0 (first_core y) [] (first_core y) (made_by y n 0 0 0 (first_core y) (dispatch_of y n 0 0 (first_core y))) (at_start refl refl refl refl) refl refl (0, refl, refl) };
    line = λ k mask past c some few fit is on h. record { kept = λ over. chain_more 0 (first_core y) past c (made_by y n (suc k) 1 mask c (dispatch_of y n 1 mask c)) (by_line refl some few refl) refl refl h };
    trap = λ k cause edata past before at came fit is fits one on h. record { kept = λ over. chain_more 0 (first_core y) past before (made_by y n (suc k) (cause_number cause) edata at (dispatch_of y n (cause_number cause) edata at)) (by_trap cause refl came) refl refl h };
    step = λ k past c f e fit is fits on h. chain_steps 0 (first_core y) past (suc k) c f e h;
  }

pub runs_are_chains : RunsAreLawful → RunsAreChains
runs_are_chains laws y u lines n k c e eight is = runs_hold y n (HasUsers y) (λ k past c. Chain y n 0 (first_core y) past k c) (laws.counted y u e) (chains y n) lines eight k c is
