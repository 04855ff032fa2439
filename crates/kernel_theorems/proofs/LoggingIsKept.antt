-- The logging kernel: its loop by an invariant, its primitive and its `new` by their rules, and all of it carried to runs.
use native.Mathlib.Nat.{mod-lt}
use Rattle.std.proofs.Common.{◌≡◌, ℕ, suc, ◌+◌, ◌-◌, ◌*◌, ◌%◌, ◌≤◌, ◌<◌, List, [], ◌∷◌, ◌++◌, length, take, Bool, true, false, nat_lt, Some, refl, sym, ap, ◌∙◌, subst, arith}
use Rattle.std.specs.Prelude.{ℤ, pos, codes, if◌then◌else◌}
use Rattle.std.specs.Int.{int_wrap, w32, cast_unsigned}
use Rattle.std.proofs.lemmas.Bool.{le-ltb, ltb-true, ltb-false}
use Rattle.std.proofs.lemmas.Int.{int_wrap_fits}
use Rattle.std.proofs.lemmas.List.{append_assoc, append-nil, length-append, length-take, take_all, take-append-le}
use Rattle.mips_table.specs.Arith.{signed}
use Rattle.mips_table.specs.Machine.{LOG_ROOM, cause_number, Console, log_has_room}
use Rattle.mips_table.specs.declared.cause.Cause.{Cause}
use Rattle.mips_table.specs.declared.cause.Cause.TheVariants as causes
use Rattle.layer_map.specs.declared.params.Params.{Params}
use Rattle.c0_tree.specs.Tree as tree
use Rattle.c0_tree.specs.Tree.{done, assign}
use Rattle.c0_tree.specs.declared.tree.BinaryOp.TheVariants.{Add}
use Rattle.c0_tree.specs.declared.tree.Kind.TheVariants.{Primitive}
use Rattle.worked_rows.specs.Kernels.{z, name, global, local, number, block}
use Rattle.c0_meaning.specs.Value as value
use Rattle.c0_meaning.specs.Value.{heap, Value, int, bool, null, count, followed_by, group, empty, part}
use Rattle.c0_meaning.specs.State.{C0State}
use Rattle.c0_meaning.specs.World.{Called, Setting, Configuration, beginning}
use Rattle.c0_meaning.specs.Running.{Work, begin, finish, leave, outward, push}
use Rattle.c0_meaning.specs.Execution.{dispatch}
use Rattle.c0_meaning.specs.Reasoning.{DoneWith, EndsIn}
use Rattle.c0_meaning.proofs.Rules as rules
use Rattle.cvm_model.specs.Kernel.{Core, Changes, KernelMeaning}
use Rattle.cvm_model.specs.KernelMeaning.{Machines, kernel_primitive, setting_of, machines_of}
use Rattle.cvm_model.specs.Stands.{IsUser}
use Rattle.cvm_model.specs.Cvm.{System, first_core}
use Rattle.cvm_model.specs.Invariant.{Dispatch, IsTrap, Keeps, KeptAt, IsInvariant, Shaped, RunsAreLawful}
use Rattle.cvm_model.proofs.InvariantsHold.{invariants_hold}
use Rattle.cvm_model.proofs.KeepsDispatch.{keeps_by}
use Rattle.kernel_theorems.specs.History.{EachHas}
use Rattle.kernel_theorems.proofs.ComputedDispatches.{each_more, answers_user}
use Rattle.kernel_theorems.proofs.LessSaid.{weaker, from_place}
use Rattle.kernel_theorems.specs.LoggingTree.{logging, dispatch_yes3, dispatch_test4, dispatch_turn4, dispatch_rest3, dispatch_answer}
use Rattle.kernel_theorems.specs.Logging.{words_below, Logs, Data, data_of, first, IsLogging, RunsLogging, LoggingIsKept}

-- A WORD MORE in a log that may be full
log_more : (room : ℕ) (xs : List ℕ) (x : ℕ) → (if nat_lt (length (take room xs)) room then take room xs ++ x ∷ [] else take room xs) ≡ take room (xs ++ x ∷ [])
log_more room xs x = by (nat_lt (length (take room xs)) room) refl
  where
    by : (b : Bool) → nat_lt (length (take room xs)) room ≡ b → (if b then take room xs ++ x ∷ [] else take room xs) ≡ take room (xs ++ x ∷ [])
    by true e =
        let left = ltb-true (length (take room xs)) room e in
        let short : length xs < room = omega (arith, left, length-take room xs) in
        ap (λ ys. ys ++ x ∷ []) (take_all room xs (omega (arith, short))) ∙ sym (take_all room (xs ++ x ∷ []) (omega (arith, short, length-append xs (x ∷ []))))
    by false e = let full = ltb-false (length (take room xs)) room e in sym (take-append-le room xs (x ∷ []) (omega (arith, full, length-take room xs)))

-- the machines with the numbers below one logged
abbrev logged : Machines → ℕ → Machines
logged m n = record m { console = record m.console { log = take LOG_ROOM (m.console.log ++ words_below n) } }

-- as `con_put` logs one more
abbrev put_in : Console → ℕ → Console
put_in o w = if log_has_room o.log then record o { log = o.log ++ w ∷ [] } else o

logged_more : (m : Machines) (n : ℕ) → record (logged m n) { console = put_in (logged m n).console (cast_unsigned w32 (pos n)) } ≡ logged m (suc n)
logged_more m n =
    let w : ℕ = cast_unsigned w32 (pos n) in
    let xs : List ℕ = m.console.log ++ words_below n in
    by w xs (log_has_room (take LOG_ROOM xs))
    ∙ ap (λ log. record m { console = record m.console { log = log } }) (log_more LOG_ROOM xs w ∙ ap (take LOG_ROOM) (append_assoc m.console.log (words_below n) (w ∷ [])))
  where
    by : (w : ℕ) (xs : List ℕ) (b : Bool)
        → record m { console = if b then record m.console { log = take LOG_ROOM xs ++ w ∷ [] } else record m.console { log = take LOG_ROOM xs } }
        ≡ record m { console = record m.console { log = if b then take LOG_ROOM xs ++ w ∷ [] else take LOG_ROOM xs } }
    by w xs true = refl
    by w xs false = refl

none_logged : (m : Machines) → length m.console.log ≤ LOG_ROOM → m ≡ logged m 0
none_logged m few = ap (λ log. record m { console = record m.console { log = log } }) (sym (ap (take LOG_ROOM) (append-nil m.console.log) ∙ take_all LOG_ROOM m.console.log few))

-- THE CODE from the loop on
module _ (p : Params) (x : Data) (cause edata : ℤ) (u : ℕ) (who : ℤ) (m : Machines) (few : u ≤ 3) (room : length m.console.log ≤ LOG_ROOM) where
  abbrev s : Setting Machines Changes
  s = setting_of logging p

  -- the state in the loop
  abbrev in_loop : Value → ℤ → C0State
  in_loop ok v = record {
    global_values = group (part x.mark empty);
    heap_values = group x.heap;
    heap_words = x.used;
    frames = record { function = 0; variables = group (part (int cause) (part (int edata) (part (int (pos u)) (part (int who) (part (int v) (part ok empty)))))) } ∷ [];
  }

  -- j turns are left
  record Left (j : ℕ) (d : Configuration Machines Changes) : Type 0 where
    ok : Value
    n : ℕ
    is : d.state ≡ in_loop ok (pos n)
    world : d.world ≡ logged m n
    left : n + j ≡ u

  -- done: it has answered this, and its data and its log are known
  record Answers (d : Configuration Machines Changes) : Type 0 where
    answer : d.answer ≡ Some (int who)
    state : d.state ≡ data_of x
    world : d.world ≡ logged m u

  abbrev behind_loop : List Work
  behind_loop = leave dispatch_answer outward ∷ []

  -- one turn of the loop: the primitive by its rule, and what is behind it computes
  turn : (n j : ℕ) (ok : Value) (d : Configuration Machines Changes) → suc n + j ≡ u → EndsIn s 20 (push dispatch_turn4 []) (record d { state = in_loop ok (pos n); world = logged m n }) (Left j)
  turn n j ok d left =
      let fits : int_wrap w32 (pos (n + 1)) ≡ pos (n + 1) = int_wrap_fits w32 (pos (n + 1)) (record { sfits = omega arith }) in
      let same : suc n ≡ n + 1 = omega arith in
      let called : Called Machines Changes = kernel_primitive 7 (part (int (pos n)) empty) (logged m n) in
      rules.by_primitive Machines Changes s z (local (codes "ok") 5) z (name (codes "con_put") Primitive 7) (local (codes "i") 4 ∷ [])
      (block (assign z (local (codes "i") 4) (tree.binary z Add (local (codes "i") 4) (number 1)) ∷ [])) []
      (record d { state = in_loop ok (pos n); world = logged m n }) (part (int (pos n)) empty) called 1 1 17 (Left j)
      refl refl refl (omega arith)
      (record { ok = called.answer; n = n + 1; is = ap (in_loop called.answer) fits; world = logged_more m n ∙ ap (logged m) same; left = omega arith })

  turn_of : (j : ℕ) (d : Configuration Machines Changes) → Left j d → rules.Turn Machines Changes s Left dispatch_test4 dispatch_turn4 done behind_loop 3 20 5 Answers j d
  turn_of j d h = record {
    value = nat_lt h.n u;
    tested = rw h.is refl;
    again = λ e.
        let less : h.n < u = omega (arith, ltb-true h.n u e) in
        let left = h.left in
        (u - suc h.n, omega arith, from_place Machines Changes s 20 (push dispatch_turn4 []) d (in_loop h.ok (pos h.n)) (logged m h.n) (Left (u - suc h.n)) h.is h.world (turn h.n (u - suc h.n) h.ok d (omega arith)));
    over = λ e.
        let done_all : h.n ≡ u = let most = ltb-false h.n u e in let left = h.left in omega (arith, most, left) in
        from_place Machines Changes s 5 behind_loop d (in_loop h.ok (pos h.n)) (logged m h.n) Answers h.is h.world (record { answer = refl; state = refl; world = ap (logged m) done_all });
  }

  looped : (ok : Value) (c : Configuration Machines Changes) → EndsIn s 150 (push dispatch_rest3 behind_loop) (record c { state = in_loop ok (pos 0); world = m }) Answers
  looped ok c =
      let n : ℕ = suc u * 25 + 5 in
      let c' : Configuration Machines Changes = record c { state = in_loop ok (pos 0); world = m } in
      let goes = rules.by_loop Machines Changes s Left dispatch_test4 dispatch_turn4 done behind_loop 3 20 5 Answers turn_of u c' (record { ok = ok; n = 0; is = refl; world = none_logged m room; left = omega arith }) in
      rules.more Machines Changes s (suc n) 150 (push dispatch_rest3 behind_loop) c' Answers (omega arith)
      (rules.by_while Machines Changes s z dispatch_test4 dispatch_turn4 done behind_loop n c' Answers goes)

module _ (y : System) (r : RunsLogging y) where
  has_room : nat_lt y.boot.params.stack 9 ≡ false
  has_room = le-ltb y.boot.params.stack 9 r.room

  -- the code of a dispatch, from data that is known
  abbrev Does : (k cause edata : ℕ) → List Dispatch → Core → Data → Type 0
  Does k cause edata past at x = EndsIn (setting_of logging y.boot.params) 400
      (begin 0 (part (int (pos cause)) (part (int (signed edata)) (part (int (pos at.current)) empty))) ∷ []) (beginning (data_of x) (machines_of y.boot.params at))
      (KeptAt y IsLogging k cause edata past at)

  keeps : (k cause edata : ℕ) (past : List Dispatch) (at : Core) (x : Data) → at.c0 ≡ data_of x → Does k cause edata past at x → Keeps y 400 IsLogging k cause edata past at
  keeps k cause edata past at x data_is h =
      keeps_by y logging r.meaning_is 400 IsLogging k cause edata past at
      (subst (λ (t : C0State). DoneWith (dispatch (setting_of logging y.boot.params) 400 (pos cause) (signed edata) (pos at.current) t (machines_of y.boot.params at)) (KeptAt y IsLogging k cause edata past at)) (sym data_is) h)

  module _ (k cause edata : ℕ) (past : List Dispatch) (at : Core) (few : at.current ≤ 3) (room : length at.console.log ≤ LOG_ROOM) (logs : EachHas Logs [] past) where
    abbrev st : Setting Machines Changes
    st = setting_of logging y.boot.params

    abbrev m : Machines
    m = machines_of y.boot.params at

    -- the loop's state, from data and who is next
    abbrev at_loop : Data → ℤ → C0State
    at_loop x who = in_loop y.boot.params x (pos cause) (signed edata) at.current who m few room (bool false) (pos 0)

    -- from the answer to the property
    kept : (x : Data) (who : ℤ) (a : ℕ) → who ≡ pos a → 1 ≤ a → a ≤ 3 → (d : Configuration Machines Changes)
        → Answers y.boot.params x (pos cause) (signed edata) at.current who m few room d → KeptAt y IsLogging k cause edata past at d
    kept x who a is some most d h =
        answers_user y IsLogging k cause edata past at d a (h.answer ∙ ap (λ v. Some (int v)) is) some (let three = r.three in omega (arith, three)) (record {
          values = x;
          data_is = ap (λ (t : C0State). record t { frames = [] }) h.state;
          logs = each_more Logs [] past _ logs (ap (λ (m : Machines). m.console.log) h.world);
        })

    -- the loop, and then the property
    then_kept : (x : Data) (who : ℤ) (a : ℕ) → who ≡ pos a → 1 ≤ a → a ≤ 3 → (c : Configuration Machines Changes)
        → EndsIn st 150 (push dispatch_rest3 (leave dispatch_answer outward ∷ [])) (record c { state = at_loop x who; world = m }) (KeptAt y IsLogging k cause edata past at)
    then_kept x who a is some most c =
        weaker Machines Changes _ (Answers y.boot.params x (pos cause) (signed edata) at.current who m few room) (KeptAt y IsLogging k cause edata past at)
        (kept x who a is some most) (looped y.boot.params x (pos cause) (signed edata) at.current who m few room (bool false) c)

    -- `new`, by its rule: an object more, or null where the heap is full
    made : (x : Data) → 1 ≤ at.current → (c : Configuration Machines Changes)
        → EndsIn st 202 (push dispatch_yes3 (push dispatch_rest3 (leave dispatch_answer outward ∷ []))) (record c { state = at_loop x (pos at.current); world = m }) (KeptAt y IsLogging k cause edata past at)
    made x some c =
        let w : List Work = push dispatch_rest3 (leave dispatch_answer outward ∷ []) in
        let c' : Configuration Machines Changes = record c { state = at_loop x (pos at.current); world = m } in
        let Q : Configuration Machines Changes → Type 0 = KeptAt y IsLogging k cause edata past at in
        let full : Data = record x { mark = null } in
        let more : Data = record { mark = value.at (record { region = heap; path = count x.heap ∷ [] }); heap = followed_by x.heap (part (int (pos 0)) empty); used = x.used + 1 } in
        rules.by_new Machines Changes st z (global (codes "mark") 0) tree.int z done w c' 200 (nat_lt y.boot.params.heap (x.used + 1)) Q refl
        (λ e. rules.straight Machines Changes st 1 50 150 (finish (global (codes "mark") 0) null done ∷ w) c' Q (omega arith, then_kept full (pos at.current) at.current refl some few c))
        (λ e. rules.straight Machines Changes st 1 50 150 (finish (global (codes "mark") 0) (value.at (record { region = heap; path = count x.heap ∷ [] })) done ∷ w)
        (record c { state = record (at_loop x (pos at.current)) { heap_values = group (followed_by x.heap (part (int (pos 0)) empty)); heap_words = x.used + 1 }; world = m }) Q
        (omega arith, then_kept more (pos at.current) at.current refl some few c))

  -- where the code begins
  abbrev called : (cause edata : ℕ) → Core → List Work
  called cause edata at = begin 0 (part (int (pos cause)) (part (int (signed edata)) (part (int (pos at.current)) empty))) ∷ []

  abbrev from : Core → Data → Configuration Machines Changes
  from at x = beginning (data_of x) (machines_of y.boot.params at)

  -- THE START, A LINE and A TRAP: plain steps, and then the loop, or `new`
  started : Does 0 0 0 [] (first_core y) first
  started =
      let c : Configuration Machines Changes = from (first_core y) first in
      rules.more Machines Changes (setting_of logging y.boot.params) (60 + 150) 400 (called 0 0 (first_core y)) c (KeptAt y IsLogging 0 0 0 [] (first_core y)) (omega arith)
      (rules.straight Machines Changes (setting_of logging y.boot.params) 6 60 150 (called 0 0 (first_core y)) c (KeptAt y IsLogging 0 0 0 [] (first_core y))
      (rw has_room (omega arith, then_kept 0 0 0 [] (first_core y) (omega arith) (omega arith) tt first (pos 1) 1 refl (omega arith) (omega arith) c)))

  few_of : (at : Core) → Shaped y at → IsUser at at.current → at.current ≤ 3
  few_of at fit user = let count = fit.count in let three = r.three in let below = user.1 in omega (arith, count, three, below)

  lined : (k mask : ℕ) (past : List Dispatch) (at : Core) → Shaped y at → IsUser at at.current → (h : IsLogging past at.c0 at.current) → Does (suc k) 1 mask past at h.values
  lined k mask past at fit user h =
      let c : Configuration Machines Changes = from at h.values in
      let next : ℕ = at.current % 3 + 1 in
      let less : at.current % 3 < 3 = mod-lt at.current (omega arith) in
      let small : int_wrap w32 (pos next) ≡ pos next = int_wrap_fits w32 (pos next) (record { sfits = omega arith }) in
      rules.more Machines Changes (setting_of logging y.boot.params) (60 + 150) 400 (called 1 mask at) c (KeptAt y IsLogging (suc k) 1 mask past at) (omega arith)
      (rules.straight Machines Changes (setting_of logging y.boot.params) 6 60 150 (called 1 mask at) c (KeptAt y IsLogging (suc k) 1 mask past at)
      (rw has_room (omega arith, then_kept (suc k) 1 mask past at (few_of at fit user) fit.log h.logs h.values (int_wrap w32 (pos next)) next small (omega arith) (omega (arith, less)) c)))

  trapped : (k : ℕ) (cause : Cause) (edata : ℕ) (past : List Dispatch) (at : Core) → IsTrap cause → Shaped y at → IsUser at at.current → (h : IsLogging past at.c0 at.current)
      → Does (suc k) (cause_number cause) edata past at h.values
  trapped k causes.Reset edata past at is fit user h = absurd is
  trapped k causes.External edata past at is fit user h = absurd is
  trapped k other edata past at is fit user h =
      let c : Configuration Machines Changes = from at h.values in
      rules.more Machines Changes (setting_of logging y.boot.params) (60 + 202) 400 (called (cause_number other) edata at) c (KeptAt y IsLogging (suc k) (cause_number other) edata past at) (omega arith)
      (rules.straight Machines Changes (setting_of logging y.boot.params) 5 60 202 (called (cause_number other) edata at) c (KeptAt y IsLogging (suc k) (cause_number other) edata past at)
      (rw has_room (omega arith, made (suc k) (cause_number other) edata past at (few_of at fit user) fit.log h.logs h.values user.0 c)))

  invariant : IsInvariant y 400 (Shaped y) IsLogging
  invariant = record {
    start = λ fit. keeps 0 0 0 [] (first_core y) first (ap (λ (m : KernelMeaning). m.first) r.meaning_is) started;
    line = λ k mask past at some eight fit user h. keeps (suc k) 1 mask past at h.values h.data_is (lined k mask past at fit user h);
    trap = λ k cause edata past before at came fit user h. keeps (suc k) (cause_number cause) edata past at h.values h.data_is (trapped k cause edata past at came.is fit user h);
  }

pub logging_is_kept : RunsAreLawful → LoggingIsKept
logging_is_kept laws y r lines eight k =
    invariants_hold laws y logging 400 (Shaped y) IsLogging r.meaning_is (laws.shaped y logging r.meaning_is r.fit) (invariant y r) lines eight k
