-- What a kernel sets a register to is a word: its code is typed in each dispatch, so the values of its calls are ints, and an int as a word is one.
use Rattle.std.proofs.Common.{◌≡◌, ℕ, zero, suc, ◌+◌, ◌^◌, ◌<◌, ◌≤◌, ◌&&◌, Bool, true, false, cond, nat_eq, List, [], ◌∷◌, ◌/◌, length, take, drop, All, Option, Some, None, refl, sym, ap, ap₂, ◌∙◌, subst, arith, le-leb, lt-ltb}
use Rattle.std.specs.Prelude.{ℤ, pos, negsuc, nat_abs, bit_or, if◌then◌else◌, FitsSigned, option_map}
use Rattle.std.specs.List.{list_all, AllByRecursion}
use Rattle.std.specs.Int.{cast_unsigned, w32}
use Rattle.std.proofs.lemmas.Bool.{and_parts}
use Rattle.std.proofs.lemmas.List.Elements.{All-head, All-tail}
use Rattle.std.proofs.lemmas.List.Folds.{list_all-append}
use Rattle.mips_table.specs.Arith.{signed}
use Rattle.mips_table.specs.Flat.{VStep, Goes, Trap, Flat, vstep}
use Rattle.mips_table.specs.Machine.{cause_number, Console}
use Rattle.mips_table.specs.declared.cause.Cause.{Cause}
use Rattle.mips_table.specs.declared.cause.Cause.TheVariants as causes
use Rattle.c0_tree.specs.declared.primitive.Scalar.{Scalar}
use Rattle.c0_tree.specs.declared.primitive.Scalar.TheVariants.{Int, Bool as Boolean}
use Rattle.c0_tree.specs.Primitives.{kernel_primitives}
use Rattle.c0_tree.specs.Tree.{CUnit}
use Rattle.c0_meaning.specs.Value.{int, bool, null, at, group, Values, empty, part}
use Rattle.c0_meaning.specs.World.{journal_so_far as journal_at}
use Rattle.c0_meaning.specs.Execution as c0_run
use Rattle.c0_meaning.specs.TypedState.{AreScalars, IsTypedState}
use Rattle.c0_meaning.specs.RunLaws.{FirstIsTyped, DispatchesAreSafe, stands_at}
use Rattle.c0_meaning.specs.EntryLaws.{EntriesPass, DispatchesPass}
use Rattle.cvm_model.specs.declared.row.Next.{Next}
use Rattle.cvm_model.specs.declared.row.Next.TheVariants.{User, Halt, Fault}
use Rattle.cvm_model.specs.Kernel.{Core, Changes, JournalEntry, Stepped, Trapped, DispatchOutcome, DispatchEnd, Answers, Faults, NotYet}
use Rattle.cvm_model.specs.Primitives.{KernelCall, VmGet, VmSet, VmSize, VmResize, VmWord, VmPut, VmCopy, ConPut, ConGet, ConLeft, is_good, granted, refused, unchanged, prim, put_entries, arguments_of, user_of, pages_of}
use Rattle.cvm_model.specs.KernelMeaning.{Machines, ints_of, primitive_called, kernel_primitive, setting_of, machines_of, outcome_of}
use Rattle.cvm_model.specs.Stands.{IsUser, input_room}
use Rattle.cvm_model.specs.Cvm.{System, Cvm, Status, Running, Halted, Faulted, Interrupts, user_step, begin, next_of, status_of, core_of, dispatched, after_dispatch, dispatch_of, begun, turn_by, turn, cvm, first_cvm}
use Rattle.cvm_model.specs.Invariant.{Known, Shaped, UserShaped, RunsAreLawful, with_machine, machine_after}
use Rattle.cvm_model.specs.Journal.{changes_of, begin_entries, running_entries, turn_entries, journal}
use Rattle.cvm_model.specs.JournalWords.{holds_word, IsOrdinary, JournalsHoldWords}
use Rattle.cvm_model.proofs.JournalsReplay.{IsOf, next_is_user}
use Rattle.cvm_model.proofs.KernelTyped.{is_small, are_small, signed_fits, small_fits, Told, told, answers_fit, safe_typed}

-- A CALL: the entries that it makes
cast_small : (v : ℤ) → FitsSigned w32 v → cast_unsigned w32 v < 2 ^ 32
cast_small (pos n) h = let f = h.sfits in omega (arith, f)
cast_small (negsuc n) h = let f = h.sfits in omega (arith, f)

puts_hold : (b : ℕ) (ws : List ℕ) → list_all holds_word (put_entries b ws) ≡ true
puts_hold b [] = refl
puts_hold b (w ∷ ws) = puts_hold (b + 4) ws

-- what a call makes, where its arguments are ints
granted_hold : (users : List Flat) (o : Console) (c : KernelCall) → AllByRecursion (FitsSigned w32) (arguments_of c) → list_all holds_word (granted users o c).changes.entries ≡ true
granted_hold users o (VmGet u r) h = refl
granted_hold users o (VmSet u r v) h = ap (λ b. b && true) (lt-ltb (cast_unsigned w32 v) (2 ^ 32) (cast_small v h.1.1.0))
granted_hold users o (VmSize u) h = refl
granted_hold users o (VmResize u p) h = refl
granted_hold users o (VmWord u a) h = refl
granted_hold users o (VmPut u a v) h = refl
granted_hold users o (VmCopy u a v b n) h = puts_hold (nat_abs b) (take (nat_abs n) (drop (nat_abs a / 4) (user_of users (nat_abs u)).words))
granted_hold users o (ConPut w) h = refl
granted_hold users o ConGet h = refl
granted_hold users o ConLeft h = refl

prim_hold : (most : ℕ) (c : KernelCall) (users : List Flat) (o : Console) → AllByRecursion (FitsSigned w32) (arguments_of c) → list_all holds_word (prim most c users o).changes.entries ≡ true
prim_hold most c users o h = by (is_good most users c)
  where
    by : (b : Bool) → list_all holds_word (if b then granted users o c else unchanged users o (refused c) 0 0).changes.entries ≡ true
    by true = granted_hold users o c h
    by false = refl

-- typed arguments that are ints fit
some_ints : (xs ys : List ℤ) → Some xs ≡ Some ys → xs ≡ ys
some_ints xs ys e = cc

ints_fit : (ts : List Scalar) (args : Values) (xs : List ℤ) → AreScalars ts args → ints_of args ≡ Some xs → AllByRecursion (FitsSigned w32) xs
ints_fit [] empty xs h e = subst (AllByRecursion (FitsSigned w32)) (some_ints [] xs e) tt
ints_fit [] (part v vs) xs h e = absurd h
ints_fit (t ∷ ts) empty xs h e = absurd h
ints_fit (Int ∷ ts) (part (int a) vs) xs h e = by (ints_of vs) refl e (λ ys q. ints_fit ts vs ys h.1 q)
  where
    by : (o : Option (List ℤ)) → ints_of vs ≡ o → option_map (λ rest. a ∷ rest) o ≡ Some xs → ((ys : List ℤ) → ints_of vs ≡ Some ys → AllByRecursion (FitsSigned w32) ys) → AllByRecursion (FitsSigned w32) xs
    by (Some ys) q r more = subst (AllByRecursion (FitsSigned w32)) (some_ints (a ∷ ys) xs r) (h.0, more ys q)
    by None q r more = absurd (cc)
ints_fit (Boolean ∷ ts) (part (int a) vs) xs h e = absurd h.0
ints_fit (t ∷ ts) (part (bool b) vs) xs h e = absurd (cc)
ints_fit (t ∷ ts) (part null vs) xs h e = absurd (cc)
ints_fit (t ∷ ts) (part (at l) vs) xs h e = absurd (cc)
ints_fit (t ∷ ts) (part (group g) vs) xs h e = absurd (cc)

abbrev call_holds : Changes → Bool
call_holds c = list_all holds_word c.entries

primitives_pass : EntriesPass are_small call_holds kernel_primitives kernel_primitive
primitives_pass n row args w e h right =
    let t : Told n row args = told n row args e h in
    subst (λ o. list_all call_holds (primitive_called w o).entries ≡ true) (sym t.is)
    (ap (λ b. b && true) (prim_hold w.most t.call w.users w.console (ints_fit row.args args (arguments_of t.call) h t.arguments)))

-- A DISPATCH
calls_are : (c : Core) (o : c0_run.Outcome Machines Changes) → (outcome_of c o).calls ≡ journal_at (stands_at o)
calls_are c (c0_run.Done k d) = refl
calls_are c (c0_run.Failed k f d) = refl
calls_are c (c0_run.NotYet k d) = refl

changes_hold : (user : ℕ) (calls : List Changes) → list_all call_holds calls ≡ true → list_all holds_word (changes_of user calls) ≡ true
changes_hold user [] h = refl
changes_hold user (c ∷ calls) h =
    let p = and_parts (call_holds c) (list_all call_holds calls) h in
    list_all-append holds_word (cond (nat_eq c.user user) c.entries []) (changes_of user calls)
    ∙ ap₂ (λ a b. a && b) (by (nat_eq c.user user) p.0) (changes_hold user calls p.1)
  where
    by : (b : Bool) → call_holds c ≡ true → list_all holds_word (cond b c.entries []) ≡ true
    by true q = q
    by false q = refl

shaped_small : (most : ℕ) (fs : List Flat) → most ≤ 1024 → All (UserShaped most) fs → list_all is_small fs ≡ true
shaped_small most [] k h = refl
shaped_small most (f ∷ fs) k h =
    let p : pages_of f ≤ most = (All-head (UserShaped most) f fs h).pages in
    ap₂ (λ a b. a && b) (le-leb (pages_of f) 1024 (omega (arith, p, k))) (shaped_small most fs k (All-tail (UserShaped most) f fs h))

no_some : {P : Type 0} (d : Cvm) → None ≡ Some d → P
no_some d e = absurd (cc)

same_cvm : (c d : Cvm) → Some c ≡ Some d → c ≡ d
same_cvm c d e = cc

module _ (first : FirstIsTyped) (safe : DispatchesAreSafe Machines Changes) (pass : DispatchesPass Machines Changes) (y : System) (u : CUnit) (o : IsOrdinary y u) (known : Known y (Shaped y)) (n : ℕ) where
  -- a state in which a dispatch may be called
  record Good (c : Core) : Type 0 where
    typed : IsTypedState u c.c0
    fit : Shaped y c
    low : c.current ≤ 64

  small : (c : Core) → Shaped y c → are_small (machines_of y.boot.params c) ≡ true
  small c h =
      ap₂ (λ a b. a && b) (ap₂ (λ a b. a && b) (le-leb y.boot.params.pages 1024 o.pages) (le-leb (length c.console.input) input_room h.input)) (shaped_small y.boot.params.pages c.users o.pages h.each)

  abbrev run_of : (cause edata : ℕ) → Core → c0_run.Outcome Machines Changes
  run_of cause edata c = c0_run.dispatch (setting_of u y.boot.params) n (pos cause) (signed edata) (pos c.current) c.c0 (machines_of y.boot.params c)

  outcome_is : (cause edata : ℕ) (c : Core) → outcome_of c (run_of cause edata c) ≡ dispatch_of y n cause edata c
  outcome_is cause edata c = ap (λ m. m.dispatch n c (pos cause) (signed edata) (pos c.current)) (sym o.meaning)

  typed_after : (cause edata : ℕ) (c : Core) → cause ≤ 8 → Good c → IsTypedState u (dispatch_of y n cause edata c).after.c0
  typed_after cause edata c few g =
      let low = g.low in
      subst (λ (r : DispatchOutcome). IsTypedState u r.after.c0) (outcome_is cause edata c)
      (safe_typed u c (run_of cause edata c)
      (safe are_small (setting_of u y.boot.params) n (pos cause) (signed edata) (pos c.current) c.c0 (machines_of y.boot.params c) o.checked answers_fit g.typed
      (small_fits cause (omega (arith, few))) (signed_fits edata) (small_fits c.current (omega (arith, low))) (small c g.fit)))

  calls_hold : (cause edata user : ℕ) (c : Core) → cause ≤ 8 → Good c → list_all holds_word (changes_of user (dispatch_of y n cause edata c).calls) ≡ true
  calls_hold cause edata user c few g =
      let low = g.low in
      changes_hold user (dispatch_of y n cause edata c).calls
      (subst (λ (r : DispatchOutcome). list_all call_holds r.calls ≡ true) (outcome_is cause edata c)
      (ap (list_all call_holds) (calls_are c (run_of cause edata c))
      ∙ pass are_small call_holds (setting_of u y.boot.params) n (pos cause) (signed edata) (pos c.current) c.c0 (machines_of y.boot.params c) o.checked answers_fit primitives_pass g.typed
      (small_fits cause (omega (arith, few))) (signed_fits edata) (small_fits c.current (omega (arith, low))) (small c g.fit)))

  -- A RUN: what holds of a state after k turns
  record Fine (k : ℕ) (c : Cvm) : Type 0 where
    typed : IsTypedState u c.core.c0
    fit : Shaped y c.core
    low : c.status ≡ Running → c.core.current ≤ 64
    user : c.status ≡ Running → 1 ≤ k → IsOf (length y.boot.users) c.core.current

  good : (k : ℕ) (c : Cvm) → c.status ≡ Running → Fine k c → Good c.core
  good k c run h = record { typed = h.typed; fit = h.fit; low = h.low run }

  is_user : (c : Core) (w : ℕ) → Shaped y c → IsOf (length y.boot.users) w → IsUser c w
  is_user c w h is = let count = h.count in (is.0, let top = is.1 in omega (arith, top, count))

  -- after a dispatch
  ends_fine : (k : ℕ) (c d : Cvm) (cause edata user pending : ℕ) (there : Core) → cause ≤ 8 → Good there
      → (e : DispatchEnd) → after_dispatch y c k cause edata user pending (dispatch_of y n cause edata there) e ≡ Some d → Fine (suc k) d
  ends_fine k c d cause edata user pending there few g e h = ends e h
    where
      after : Core
      after = (dispatch_of y n cause edata there).after

      by : (x : Next) → (status_of x ≡ Running → IsOf (length y.boot.users) (core_of x after).current) → dispatched y c k cause edata user pending (dispatch_of y n cause edata there) x ≡ d → Fine (suc k) d
      by (User w) is same =
          let who = is refl in
          let top = who.1 in
          let most = o.few in
          subst (Fine (suc k)) same
          (record { typed = typed_after cause edata there few g; fit = known.next after w (known.dispatch n cause edata there g.fit) (is_user after w (known.dispatch n cause edata there g.fit) who); low = λ run. omega (arith, top, most); user = λ run le. who })
      by Halt is same = subst (Fine (suc k)) same (record { typed = typed_after cause edata there few g; fit = known.dispatch n cause edata there g.fit; low = λ run. absurd (cc); user = λ run le. absurd (cc) })
      by (Fault f) is same = subst (Fine (suc k)) same (record { typed = typed_after cause edata there few g; fit = known.dispatch n cause edata there g.fit; low = λ run. absurd (cc); user = λ run le. absurd (cc) })

      ends : (e : DispatchEnd) → after_dispatch y c k cause edata user pending (dispatch_of y n cause edata there) e ≡ Some d → Fine (suc k) d
      ends (Answers a) h = by (next_of (length y.boot.users) a) (next_is_user (length y.boot.users) a after) (same_cvm _ d h)
      ends (Faults f) h = by (Fault f) (λ run. absurd (cc)) (same_cvm _ d h)
      ends NotYet h = no_some d h

  -- a trap's cause is small
  cause_small : (cause : Cause) → cause_number cause ≤ 8
  cause_small causes.Reset = omega arith
  cause_small _ = omega arith

  -- the state in which a trap's dispatch is called
  stepped : (k : ℕ) (c : Cvm) (v : VStep) → vstep (user_of c.core.users c.core.current) ≡ v → c.status ≡ Running → Fine (suc k) c → Good (with_machine c.core (machine_after v))
  stepped k c v e run h = record {
    typed = h.typed;
    fit = subst (λ x. Shaped y (with_machine c.core (machine_after x))) e (known.step c.core h.fit (is_user c.core c.core.current h.fit (h.user run (omega arith))));
    low = h.low run;
  }

  begun_fine : (k lines : ℕ) (c d : Cvm) → c.status ≡ Running → Fine k c → begun y n k c (begin k c.core lines) ≡ Some d → Fine (suc k) d
  begun_fine zero lines c d run h e = ends_fine zero c d 0 0 c.core.current lines c.core (omega arith) (good zero c run h) (dispatch_of y n 0 0 c.core).end e
  begun_fine (suc k) lines c d run h e = by (nat_eq lines 0) e
    where
      by_step : (v : VStep) → vstep (user_of c.core.users c.core.current) ≡ v → begun y n (suc k) c (user_step c.core v) ≡ Some d → Fine (suc (suc k)) d
      by_step (Goes f) q e =
          let g = stepped k c (Goes f) q run h in
          subst (Fine (suc (suc k))) (same_cvm _ d e) (record { typed = g.typed; fit = g.fit; low = λ r. g.low; user = λ r le. h.user run (omega arith) })
      by_step (Trap f cause edata) q e =
          let g = stepped k c (Trap f cause edata) q run h in
          ends_fine (suc k) c d (cause_number cause) edata c.core.current 0 (with_machine c.core f) (cause_small cause) g (dispatch_of y n (cause_number cause) edata (with_machine c.core f)).end e

      by : (b : Bool) → begun y n (suc k) c (if b then user_step c.core (vstep (user_of c.core.users c.core.current)) else Interrupts 1 lines c.core 0) ≡ Some d → Fine (suc (suc k)) d
      by true e = by_step (vstep (user_of c.core.users c.core.current)) refl e
      by false e = ends_fine (suc k) c d 1 lines c.core.current 0 c.core (omega arith) (good (suc k) c run h) (dispatch_of y n 1 lines c.core).end e

  -- the entries of a turn
  one_holds : (b : Bool) (e : JournalEntry) → holds_word e ≡ true → list_all holds_word (if b then e ∷ [] else []) ≡ true
  one_holds true e h = ap (λ b. b && true) h
  one_holds false e h = refl

  begun_holds : (k lines user : ℕ) (c : Cvm) → c.status ≡ Running → Fine k c → list_all holds_word (begin_entries y n (λ calls. calls) user c.core (begin k c.core lines)) ≡ true
  begun_holds zero lines user c run h = calls_hold 0 0 user c.core (omega arith) (good zero c run h)
  begun_holds (suc k) lines user c run h = by (nat_eq lines 0)
    where
      by_step : (v : VStep) → vstep (user_of c.core.users c.core.current) ≡ v → list_all holds_word (begin_entries y n (λ calls. calls) user c.core (user_step c.core v)) ≡ true
      by_step (Goes f) q = one_holds (nat_eq c.core.current user) Stepped refl
      by_step (Trap f cause edata) q =
          list_all-append holds_word (if nat_eq c.core.current user then Trapped (cause_number cause) edata ∷ [] else []) (changes_of user (dispatch_of y n (cause_number cause) edata (with_machine c.core f)).calls)
          ∙ ap₂ (λ a b. a && b) (one_holds (nat_eq c.core.current user) (Trapped (cause_number cause) edata) refl)
          (calls_hold (cause_number cause) edata user (with_machine c.core f) (cause_small cause) (stepped k c (Trap f cause edata) q run h))

      by : (b : Bool) → list_all holds_word (begin_entries y n (λ calls. calls) user c.core (if b then user_step c.core (vstep (user_of c.core.users c.core.current)) else Interrupts 1 lines c.core 0)) ≡ true
      by true = by_step (vstep (user_of c.core.users c.core.current)) refl
      by false = calls_hold 1 lines user c.core (omega arith) (good (suc k) c run h)

  turn_fine : (k lines : ℕ) (c d : Cvm) (s : Status) → c.status ≡ s → Fine k c → turn_by y n k lines c s ≡ Some d → Fine (suc k) d
  turn_fine k lines c d Running is h e = begun_fine k (bit_or c.pending lines) c d is h e
  turn_fine k lines c d Halted is h e =
      subst (Fine (suc k)) (same_cvm c d e) (record { typed = h.typed; fit = h.fit; low = λ run. absurd (let q : Halted ≡ Running = sym is ∙ run in cc); user = λ run le. absurd (let q : Halted ≡ Running = sym is ∙ run in cc) })
  turn_fine k lines c d (Faulted f) is h e =
      subst (Fine (suc k)) (same_cvm c d e) (record { typed = h.typed; fit = h.fit; low = λ run. absurd (let q : Faulted f ≡ Running = sym is ∙ run in cc); user = λ run le. absurd (let q : Faulted f ≡ Running = sym is ∙ run in cc) })

  turn_holds : (k lines user : ℕ) (c : Cvm) (s : Status) → c.status ≡ s → Fine k c → list_all holds_word (running_entries y n (λ calls. calls) user k lines c s) ≡ true
  turn_holds k lines user c Running is h = begun_holds k (bit_or c.pending lines) user c is h
  turn_holds k lines user c Halted is h = refl
  turn_holds k lines user c (Faulted f) is h = refl

  first_fine : Fine 0 (first_cvm y)
  first_fine = record {
    typed = subst (λ m. IsTypedState u m.first) (sym o.meaning) (first kernel_primitives u o.checked.well_formed);
    fit = known.start;
    low = λ run. omega arith;
    user = λ run le. absurd (omega (arith, le));
  }

  held : (lines : ℕ → ℕ) (k user : ℕ) → (list_all holds_word (journal y lines n user k) ≡ true) × ((c : Cvm) → cvm y lines n k ≡ Some c → Fine k c)
  held lines zero user = (refl, λ c e. subst (Fine 0) (same_cvm (first_cvm y) c e) first_fine)
  held lines (suc k) user = let ih = held lines k user in by (cvm y lines n k) refl ih.0 ih.1
    where
      by : (p : Option Cvm) → cvm y lines n k ≡ p → list_all holds_word (journal y lines n user k) ≡ true → ((c : Cvm) → cvm y lines n k ≡ Some c → Fine k c)
          → (list_all holds_word (journal y lines n user (suc k)) ≡ true) × ((c : Cvm) → cvm y lines n (suc k) ≡ Some c → Fine (suc k) c)
      by None e h fine = (
        list_all-append holds_word (journal y lines n user k) (turn_entries y n (λ calls. calls) user k (lines k) (cvm y lines n k))
            ∙ ap₂ (λ a b. a && b) h (ap (λ p. list_all holds_word (turn_entries y n (λ calls. calls) user k (lines k) p)) e),
        λ c q. no_some c (sym (ap (turn y n k (lines k)) e) ∙ q),
      )
      by (Some c) e h fine = (
        list_all-append holds_word (journal y lines n user k) (turn_entries y n (λ calls. calls) user k (lines k) (cvm y lines n k))
            ∙ ap₂ (λ a b. a && b) h (ap (λ p. list_all holds_word (turn_entries y n (λ calls. calls) user k (lines k) p)) e ∙ turn_holds k (lines k) user c c.status refl (fine c e)),
        λ d q. turn_fine k (lines k) c d c.status refl (fine c e) (sym (ap (turn y n k (lines k)) e) ∙ q),
      )

pub journals_hold_words : RunsAreLawful → FirstIsTyped → DispatchesAreSafe Machines Changes → DispatchesPass Machines Changes → JournalsHoldWords
journals_hold_words lawful first safe pass y u o lines n k user = (held first safe pass y u o (lawful.shaped y u o.meaning o.room) n lines k user).0
