-- The mailbox: each of its dispatches answers its call, and what was put is what was got, and behind it the message under way.
use native.Mathlib.Nat.{mod-lt}
use Rattle.std.proofs.Common.{◌≡◌, ℕ, zero, suc, ◌+◌, ◌-◌, ◌%◌, ◌^◌, ◌≤◌, List, [], ◌∷◌, ◌++◌, length, Bool, true, false, nat_lt, Option, Some, None, refl, sym, ap, ap₂, ◌∙◌, subst, arith}
use Rattle.std.specs.Prelude.{ℤ, pos, nat_le, ◌≢◌, ◌==◌, ◌&&◌, if◌then◌else◌, FitsSigned, slice_index}
use Rattle.std.specs.Int.{int_wrap, w32, cast_unsigned}
use Rattle.std.specs.Ordering.{int_eq}
use Rattle.std.proofs.lemmas.Bool.{le-ltb, lt-ltb, le-leb, ltb-true, ltb-false, eqb-true, eqb-false}
use Rattle.std.proofs.lemmas.Int.{int_wrap_fits}
use Rattle.std.proofs.lemmas.List.{append_assoc, append-nil, length-append, length-set}
use Rattle.std.proofs.lemmas.List.Elements.{All-get_or}
use Rattle.mips_table.specs.Arith.{signed}
use Rattle.mips_table.specs.declared.cause.Cause.{Cause}
use Rattle.mips_table.specs.declared.cause.Cause.TheVariants as causes
use Rattle.mips_table.specs.Machine.{cause_number}
use Rattle.c0_meaning.specs.Value.{Value, int, empty, part}
use Rattle.c0_meaning.specs.State.{C0State}
use Rattle.c0_meaning.specs.World.{beginning}
use Rattle.c0_meaning.specs.Running.{begin}
use Rattle.c0_meaning.specs.Execution.{dispatch}
use Rattle.c0_meaning.specs.Reasoning.{DoneWith, EndsIn}
use Rattle.cvm_model.specs.Kernel.{Core, KernelMeaning}
use Rattle.cvm_model.specs.KernelMeaning.{setting_of, machines_of}
use Rattle.cvm_model.specs.Primitives.{user_of, with_register, no_flat}
use Rattle.cvm_model.specs.Stands.{IsUser}
use Rattle.cvm_model.specs.Cvm.{System, Cvm, IsCvm, first_core, first_cvm}
use Rattle.cvm_model.specs.Invariant.{Dispatch, dispatches_of, IsTrap, Keeps, KeptAt, IsInvariant, Shaped, UserShaped, RunsAreLawful}
use Rattle.cvm_model.proofs.InvariantsHold.{invariants_hold}
use Rattle.cvm_model.proofs.KeepsDispatch.{keeps_by}
use Rattle.kernel_theorems.proofs.ComputedDispatches.{each_more, answers_user, answers_halt}
use Rattle.kernel_theorems.proofs.CallersFit.{quiet_dispatch}
use Rattle.kernel_theorems.proofs.TestsSplit.{not_both}
use Rattle.kernel_theorems.specs.Registers.{int_held, is_call_of, set_in, IsSet, SetsAreFound}
use Rattle.kernel_theorems.specs.History.{EachHas}
use Rattle.kernel_theorems.specs.MailboxTree.{mailbox}
use Rattle.kernel_theorems.specs.Mailbox.{succeeds, put_by, got_by, puts, gots, waits, IsAnswered, message_under_way, data_of, IsIntOr, Carries, RunsMailbox, IsDelivered, MessagesAreDelivered}

-- HISTORY with one dispatch more
puts_more : (past : List Dispatch) (d : Dispatch) → puts (past ++ d ∷ []) ≡ puts past ++ put_by d
puts_more [] d = append-nil (put_by d)
puts_more (e ∷ past) d = ap (λ xs. put_by e ++ xs) (puts_more past d) ∙ sym (append_assoc (put_by e) (puts past) (put_by d))

gots_more : (past : List Dispatch) (d : Dispatch) → gots (past ++ d ∷ []) ≡ gots past ++ got_by d
gots_more [] d = append-nil (got_by d)
gots_more (e ∷ past) d = ap (λ xs. got_by e ++ xs) (gots_more past d) ∙ sym (append_assoc (got_by e) (gots past) (got_by d))

-- whether a message is under way
abbrev is_some : Option ℤ → Bool
is_some None = false
is_some (Some v) = true

waits_is : (past : List Dispatch) (w : Option ℤ) → puts past ≡ gots past ++ message_under_way w → waits past ≡ is_some w
waits_is past None order = let e : length (puts past) ≡ length (gots past) + 0 = ap length order ∙ length-append (gots past) [] in le-ltb (length (gots past)) (length (puts past)) (omega (arith, e))
waits_is past (Some v) order = let e : length (puts past) ≡ length (gots past) + 1 = ap length order ∙ length-append (gots past) (v ∷ []) in lt-ltb (length (gots past)) (length (puts past)) (omega (arith, e))

-- what is so after a dispatch, by what it put and got
carried : (past : List Dispatch) (d : Dispatch) (w v : Option ℤ) (now : ℤ) (u : ℕ) → puts past ≡ gots past ++ message_under_way w → EachHas IsAnswered [] past
    → message_under_way w ++ put_by d ≡ got_by d ++ message_under_way v → IsIntOr v → IsAnswered past d → Carries (past ++ d ∷ []) (data_of v now) u
carried past d w v now u order answered local fits is = record {
  delivers = record {
    way = v;
    in_order = puts_more past d ∙ ap (λ xs. xs ++ put_by d) order ∙ append_assoc (gots past) (message_under_way w) (put_by d) ∙ ap (λ xs. gots past ++ xs) local
        ∙ sym (append_assoc (gots past) (got_by d) (message_under_way v)) ∙ ap (λ xs. xs ++ message_under_way v) (sym (gots_more past d));
    answered = each_more IsAnswered [] past d answered is;
  };
  old = now;
  data_is = refl;
  fits = fits;
}

-- who called
call_of : (user : ℕ) (d : Dispatch) → d.cause ≡ 6 → d.before.current ≡ user → (user == user) ≡ true → is_call_of user d ≡ true
call_of user d cause is same = ap₂ (λ c u. (c == 6) && (u == user)) cause is ∙ same

no_call_of : (user other : ℕ) (d : Dispatch) → d.cause ≡ 6 → d.before.current ≡ other → (other == user) ≡ false → is_call_of user d ≡ false
no_call_of user other d cause is same = ap₂ (λ c u. (c == 6) && (u == user)) cause is ∙ same

-- what a dispatch puts and gets, by who called and what it was told
failed : (user : ℕ) (d : Dispatch) → is_call_of user d ≡ false → succeeds user d ≡ false
failed user d e = ap (λ b. b && int_eq (int_held d.after user 2) (pos 1)) e

told : (user : ℕ) (d : Dispatch) (a : ℤ) → is_call_of user d ≡ true → int_held d.after user 2 ≡ a → succeeds user d ≡ int_eq a (pos 1)
told user d a e is = ap₂ (λ b z. b && int_eq z (pos 1)) e is

no_put : (d : Dispatch) → succeeds 1 d ≡ false → put_by d ≡ []
no_put d e = ap (λ b. if b then int_held d.before 1 4 ∷ [] else []) e

no_get : (d : Dispatch) → succeeds 2 d ≡ false → got_by d ≡ []
no_get d e = ap (λ b. if b then int_held d.after 2 3 ∷ [] else []) e

-- nothing is put or got
idle : (past : List Dispatch) (d : Dispatch) (w : Option ℤ) (now : ℤ) (u : ℕ) → puts past ≡ gots past ++ message_under_way w → EachHas IsAnswered [] past → IsIntOr w
    → succeeds 1 d ≡ false → succeeds 2 d ≡ false → IsAnswered past d → Carries (past ++ d ∷ []) (data_of w now) u
idle past d w now u order answered fits put got is =
    carried past d w w now u order answered (ap (λ xs. message_under_way w ++ xs) (no_put d put) ∙ append-nil (message_under_way w) ∙ ap (λ xs. xs ++ message_under_way w) (sym (no_get d got))) fits is

-- a quiet dispatch
quiet : (past : List Dispatch) (d : Dispatch) (w : Option ℤ) (now : ℤ) (u : ℕ) → puts past ≡ gots past ++ message_under_way w → EachHas IsAnswered [] past → IsIntOr w
    → (d.cause == 6) ≡ false → d.after.users ≡ d.before.users → Carries (past ++ d ∷ []) (data_of w now) u
quiet past d w now u order answered fits other same =
    let q = quiet_dispatch d other same in
    idle past d w now u order answered fits (failed 1 d (q.none 1)) (failed 2 d (q.none 2)) (record { put = λ e. absurd (q.nobody 1 e); get = λ e. absurd (q.nobody 2 e); others = λ v some e. q.kept v })

one_fits : FitsSigned w32 (pos 1)
one_fits = record { sfits = omega arith }

none_fits : FitsSigned w32 (pos 0)
none_fits = record { sfits = omega arith }

signed_fits : (n : ℕ) → FitsSigned w32 (signed n)
signed_fits n = by (nat_lt n (2 ^ 31)) refl
  where
    by : (b : Bool) → nat_lt n (2 ^ 31) ≡ b → FitsSigned w32 (signed n)
    by true e = rw e (record { sfits = let h = ltb-true n (2 ^ 31) e in omega (arith, h) })
    by false e = rw e (record { sfits = let h = ltb-false n (2 ^ 31) e in omega (arith, h) })

-- A SYSTEM CALL of a user, which finds an answer in its register 2; all others keep their machines
module _ (past : List Dispatch) (d : Dispatch) (at : Core) (w : Option ℤ) (cause : d.cause ≡ 6) (before : d.before ≡ at) (order : puts past ≡ gots past ++ message_under_way w) where
  -- `others` of the record, for the user who called
  abbrev Others : ℕ → Type 0
  Others user = (v : ℕ) → 1 ≤ v → v ≢ user → user_of d.after.users v ≡ user_of at.users v

  others_of : (user : ℕ) → is_call_of user d ≡ true → Others user → (v : ℕ) → 1 ≤ v → is_call_of v d ≡ false → user_of d.after.users v ≡ user_of d.before.users v
  others_of user c h v some e =
      h v some (λ same. not_both (is_call_of v d) (subst (λ x. is_call_of x d ≡ true) (sym same) c) e) ∙ ap (λ (x : Core). user_of x.users v) (sym before)

  by_one : (a : ℤ) → at.current ≡ 1 → (if is_some w then pos 0 else pos 1) ≡ a → int_held d.after 1 2 ≡ a → Others 1 → (is_call_of 1 d ≡ true) × (is_call_of 2 d ≡ false) × IsAnswered past d
  by_one a current answer found others =
      let is : d.before.current ≡ 1 = ap (λ (x : Core). x.current) before ∙ current in
      let c : is_call_of 1 d ≡ true = call_of 1 d cause is refl in
      let n : is_call_of 2 d ≡ false = no_call_of 2 1 d cause is refl in (
        c,
        n,
        record {
          put = λ e. found ∙ sym (ap (λ b. if b then pos 0 else pos 1) (waits_is past w order) ∙ answer);
          get = λ e. absurd (not_both (is_call_of 2 d) e n);
          others = others_of 1 c others;
        },
      )

  by_two : (a : ℤ) → at.current ≡ 2 → (if is_some w then pos 1 else pos 0) ≡ a → int_held d.after 2 2 ≡ a → Others 2 → (is_call_of 2 d ≡ true) × (is_call_of 1 d ≡ false) × IsAnswered past d
  by_two a current answer found others =
      let is : d.before.current ≡ 2 = ap (λ (x : Core). x.current) before ∙ current in
      let c : is_call_of 2 d ≡ true = call_of 2 d cause is refl in
      let n : is_call_of 1 d ≡ false = no_call_of 1 2 d cause is refl in (
        c,
        n,
        record {
          put = λ e. absurd (not_both (is_call_of 1 d) e n);
          get = λ e. found ∙ sym (ap (λ b. if b then pos 1 else pos 0) (waits_is past w order) ∙ answer);
          others = others_of 2 c others;
        },
      )

module _ (sets : SetsAreFound) (past : List Dispatch) (d : Dispatch) (at : Core) (cause : d.cause ≡ 6) (before : d.before ≡ at) (two : length at.users ≡ 2)
    (long : (v : ℕ) → 1 ≤ v → v ≤ 2 → length (user_of at.users v).cpu.regs ≡ 32) (answered : EachHas IsAnswered [] past) where
  -- the caller's answer
  set : (user : ℕ) (a : ℤ) → at.current ≡ user → 1 ≤ user → user ≤ 2 → FitsSigned w32 a → d.after.users ≡ set_in at.users at.current 2 a → IsSet at.users d.after user 2 a
  set user a current some few fits users =
      sets at.users d.after user 2 a (users ∙ ap (λ x. set_in at.users x 2 a) current) some (omega (arith, two)) (omega arith) (long user some few) fits

  -- A PUT that is taken
  put : (now : ℤ) (u : ℕ) → at.current ≡ 1 → d.after.users ≡ set_in at.users at.current 2 (pos 1) → puts past ≡ gots past ++ message_under_way None
      → Carries (past ++ d ∷ []) (data_of (Some (int_held at 1 4)) now) u
  put now u current users order =
      let s = set 1 (pos 1) current (omega arith) (omega arith) one_fits users in
      let c = by_one past d at None cause before order (pos 1) current refl s.found s.others in
      let puts_it : put_by d ≡ int_held at 1 4 ∷ [] = ap₂ (λ b v. if b then v ∷ [] else []) (told 1 d (pos 1) c.0 s.found) (ap (λ (x : Core). int_held x 1 4) before) in
      carried past d None (Some (int_held at 1 4)) now u order answered (puts_it ∙ sym (ap (λ xs. xs ++ int_held at 1 4 ∷ []) (no_get d (failed 2 d c.1))))
      (signed_fits (slice_index (user_of at.users 1).cpu.regs 4)) c.2

  -- a put that is not, and a get where there is no message
  put_waits : (v now : ℤ) (u : ℕ) → at.current ≡ 1 → d.after.users ≡ set_in at.users at.current 2 (pos 0) → puts past ≡ gots past ++ message_under_way (Some v) → FitsSigned w32 v
      → Carries (past ++ d ∷ []) (data_of (Some v) now) u
  put_waits v now u current users order fits =
      let s = set 1 (pos 0) current (omega arith) (omega arith) none_fits users in
      let c = by_one past d at (Some v) cause before order (pos 0) current refl s.found s.others in
      idle past d (Some v) now u order answered fits (told 1 d (pos 0) c.0 s.found) (failed 2 d c.1) c.2

  get_waits : (now : ℤ) (u : ℕ) → at.current ≡ 2 → d.after.users ≡ set_in at.users at.current 2 (pos 0) → puts past ≡ gots past ++ message_under_way None → Carries (past ++ d ∷ []) (data_of None now) u
  get_waits now u current users order =
      let s = set 2 (pos 0) current (omega arith) (omega arith) none_fits users in
      let c = by_two past d at None cause before order (pos 0) current refl s.found s.others in
      idle past d None now u order answered tt (failed 1 d c.1) (told 2 d (pos 0) c.0 s.found) c.2

  -- A GET of a message: register 3 is set, and then register 2
  get : (v now : ℤ) (u : ℕ) → at.current ≡ 2 → d.after.users ≡ set_in (set_in at.users 2 3 v) at.current 2 (pos 1) → puts past ≡ gots past ++ message_under_way (Some v) → FitsSigned w32 v
      → Carries (past ++ d ∷ []) (data_of None now) u
  get v now u current users order fits =
      let mid : Core = record at { users = set_in at.users 2 3 v } in
      let m = sets at.users mid 2 3 v refl (omega arith) (omega (arith, two)) (omega arith) (long 2 (omega arith) (omega arith)) fits in
      let few : 2 ≤ length mid.users = let count : length mid.users ≡ length at.users = m.count in omega (arith, count, two) in
      let s = sets mid.users d.after 2 2 (pos 1) (users ∙ ap (λ x. set_in mid.users x 2 (pos 1)) current) (omega arith) few (omega arith) m.long one_fits in
      let apart : 3 ≢ 2 = λ e. omega (arith, e) in
      let holds_it : int_held d.after 2 3 ≡ v = ap signed (s.same 3 apart) ∙ m.found in
      let c = by_two past d at (Some v) cause before order (pos 1) current refl s.found (λ x some other. s.others x some other ∙ m.others x some other) in
      let gets_it : got_by d ≡ v ∷ [] = ap₂ (λ b x. if b then x ∷ [] else []) (told 2 d (pos 1) c.0 s.found) holds_it in
      carried past d (Some v) None now u order answered (ap (λ xs. v ∷ xs) (no_put d (failed 1 d c.1)) ∙ sym (append-nil (got_by d) ∙ gets_it)) tt c.2

other : (u : ℕ) → (u ≡ 1 → ⊥) → 1 ≤ u → u ≤ 2 → u ≡ 2
other zero isnt some few = absurd (omega arith)
other (suc zero) isnt some few = absurd (isnt refl)
other (suc (suc n)) isnt some few = omega (arith, few)

module _ (sets : SetsAreFound) (y : System) (r : RunsMailbox y) where
  has_room : nat_lt y.boot.params.stack 9 ≡ false
  has_room = le-ltb y.boot.params.stack 9 r.room

  -- the code of a dispatch, from data that is known
  abbrev Does : (k cause edata : ℕ) → List Dispatch → Core → C0State → Type 0
  Does k cause edata past at s = EndsIn (setting_of mailbox y.boot.params) 400
      (begin 0 (part (int (pos cause)) (part (int (signed edata)) (part (int (pos at.current)) empty))) ∷ []) (beginning (record s { frames = [] }) (machines_of y.boot.params at)) (KeptAt y Carries k cause edata past at)

  keeps : (k cause edata : ℕ) (past : List Dispatch) (at : Core) (s : C0State) → at.c0 ≡ s → Does k cause edata past at s → Keeps y 400 Carries k cause edata past at
  keeps k cause edata past at s data_is h =
      keeps_by y mailbox r.meaning_is 400 Carries k cause edata past at
      (subst (λ (t : C0State). DoneWith (dispatch (setting_of mailbox y.boot.params) 400 (pos cause) (signed edata) (pos at.current) t (machines_of y.boot.params at)) (KeptAt y Carries k cause edata past at)) (sym data_is) h)

  started : Does 0 0 0 [] (first_core y) (data_of None (pos 0))
  started = rw has_room (answers_user y Carries 0 0 0 [] (first_core y) _ 1 refl (omega arith) (let two = r.two in omega (arith, two)) (quiet [] _ None (pos 0) 1 refl tt tt refl refl))

  -- the other user
  abbrev who : Core → ℕ
  who at = at.current % 2 + 1

  is_int : (at : Core) → int_wrap w32 (pos (who at)) ≡ pos (who at)
  is_int at = int_wrap_fits w32 (pos (at.current % 2 + 1)) (record { sfits = let less = mod-lt at.current {m = 2} (omega arith) in omega (arith, less) })

  answers_who : (at : Core) → ◌≡◌ {A = Option Value} (Some (int (int_wrap w32 (pos (who at))))) (Some (int (pos (who at))))
  answers_who at = ap (λ v. Some (int v)) (is_int at)

  some_who : (at : Core) → 1 ≤ who at
  some_who at = omega arith

  few_who : (at : Core) → who at ≤ length y.boot.users
  few_who at = let less = mod-lt at.current {m = 2} (omega arith) in let two = r.two in omega (arith, less, two)

  -- A LINE is taken: the other user is next
  lined : (k mask : ℕ) (past : List Dispatch) (at : Core) (w : Option ℤ) (old : ℤ) → puts past ≡ gots past ++ message_under_way w → EachHas IsAnswered [] past → IsIntOr w → Does (suc k) 1 mask past at (data_of w old)
  lined k mask past at None old order answered fits =
      rw has_room (answers_user y Carries (suc k) 1 mask past at _ (who at) (answers_who at) (some_who at) (few_who at) (quiet past _ None old (who at) order answered fits refl refl))
  lined k mask past at (Some m) old order answered fits =
      rw has_room (answers_user y Carries (suc k) 1 mask past at _ (who at) (answers_who at) (some_who at) (few_who at) (quiet past _ (Some m) old (who at) order answered fits refl refl))

  -- A SYSTEM CALL of user 1, or of user 2: the answers of the tests are named, and each way computes
  module _ (k edata : ℕ) (past : List Dispatch) (at : Core) (fit : Shaped y at) (user : IsUser at at.current) (answered : EachHas IsAnswered [] past) where
    two : length at.users ≡ 2
    two = fit.count ∙ r.two

    long : (v : ℕ) → 1 ≤ v → v ≤ 2 → length (user_of at.users v).cpu.regs ≡ 32
    long v some few = (All-get_or (UserShaped y.boot.params.pages) at.users (v - 1) no_flat (let t = two in omega (arith, t)) fit.each).regs

    from : nat_le 1 at.current ≡ true
    from = le-leb 1 at.current user.0

    to : nat_le at.current (length at.users) ≡ true
    to = le-leb at.current (length at.users) user.1

    few : at.current ≤ length y.boot.users
    few = subst (λ n. at.current ≤ n) fit.count user.1

    puts_one : (w : Option ℤ) (old : ℤ) → at.current ≡ 1 → puts past ≡ gots past ++ message_under_way w → IsIntOr w → Does (suc k) 6 edata past at (data_of w old)
    puts_one None old current order fits =
        let first : int_eq (pos at.current) (pos 1) ≡ true = rw current refl in
        let there : nat_le 1 (length at.users) ≡ true = rw two refl in
        rw (has_room, first, there, from, to) (answers_user y Carries (suc k) 6 edata past at _ at.current refl user.0 few (put sets past _ at refl refl two long answered old at.current current refl order))
    puts_one (Some v) old current order fits =
        let first : int_eq (pos at.current) (pos 1) ≡ true = rw current refl in
        rw (has_room, first, from, to) (answers_user y Carries (suc k) 6 edata past at _ (who at) (answers_who at) (some_who at) (few_who at)
        (put_waits sets past _ at refl refl two long answered v old (who at) current refl order fits))

    gets_two : (w : Option ℤ) (old : ℤ) → at.current ≡ 2 → puts past ≡ gots past ++ message_under_way w → IsIntOr w → Does (suc k) 6 edata past at (data_of w old)
    gets_two None old current order fits =
        let second : int_eq (pos at.current) (pos 1) ≡ false = rw current refl in
        rw (has_room, second, from, to) (answers_user y Carries (suc k) 6 edata past at _ (who at) (answers_who at) (some_who at) (few_who at)
        (get_waits sets past _ at refl refl two long answered old (who at) current refl order))
    gets_two (Some v) old current order fits =
        let second : int_eq (pos at.current) (pos 1) ≡ false = rw current refl in
        let there : nat_le 2 (length at.users) ≡ true = rw two refl in
        let still : nat_le at.current (length (set_in at.users 2 3 v)) ≡ true = ap (nat_le at.current) (length-set at.users 1 (with_register (user_of at.users 2) 3 (cast_unsigned w32 v))) ∙ to in
        rw (has_room, second, there, from, still) (answers_user y Carries (suc k) 6 edata past at _ at.current refl user.0 few
        (get sets past _ at refl refl two long answered v v at.current current refl order fits))

    called : (w : Option ℤ) (old : ℤ) → puts past ≡ gots past ++ message_under_way w → IsIntOr w → Does (suc k) 6 edata past at (data_of w old)
    called w old order fits = by (at.current == 1) refl
      where
        by : (b : Bool) → (at.current == 1) ≡ b → Does (suc k) 6 edata past at (data_of w old)
        by true e = puts_one w old (eqb-true at.current 1 e) order fits
        by false e = gets_two w old (other at.current (eqb-false at.current 1 e) user.0 (subst (λ n. at.current ≤ n) two user.1)) order fits

  -- A TRAP
  trapped : (k : ℕ) (cause : Cause) (edata : ℕ) (past : List Dispatch) (at : Core) → IsTrap cause → Shaped y at → IsUser at at.current → (w : Option ℤ) (old : ℤ)
      → puts past ≡ gots past ++ message_under_way w → EachHas IsAnswered [] past → IsIntOr w → Does (suc k) (cause_number cause) edata past at (data_of w old)
  trapped k causes.Reset edata past at trap fit user w old order answered fits = absurd trap
  trapped k causes.External edata past at trap fit user w old order answered fits = absurd trap
  trapped k causes.Syscall edata past at trap fit user w old order answered fits = called k edata past at fit user answered w old order fits
  trapped k cause edata past at trap fit user None old order answered fits =
      rw has_room (answers_halt y Carries (suc k) (cause_number cause) edata past at _ refl (quiet past _ None old at.current order answered fits refl refl))
  trapped k cause edata past at trap fit user (Some v) old order answered fits =
      rw has_room (answers_halt y Carries (suc k) (cause_number cause) edata past at _ refl (quiet past _ (Some v) old at.current order answered fits refl refl))

  invariant : IsInvariant y 400 (Shaped y) Carries
  invariant = record {
    start = λ fit. keeps 0 0 0 [] (first_core y) (data_of None (pos 0)) (ap (λ (m : KernelMeaning). m.first) r.meaning_is) started;
    line = λ k mask past at some eight fit user h. keeps (suc k) 1 mask past at _ h.data_is (lined k mask past at h.delivers.way h.old h.delivers.in_order h.delivers.answered h.fits);
    trap = λ k cause edata past before at came fit user h.
        keeps (suc k) (cause_number cause) edata past at _ h.data_is (trapped k cause edata past at came.is fit user h.delivers.way h.old h.delivers.in_order h.delivers.answered h.fits);
  }

-- before the first turn nothing is put
at_start : (y : System) (c : Cvm) → Some (first_cvm y) ≡ Some c → IsDelivered [] c
at_start y c e = let s : first_cvm y ≡ c = cc in subst (IsDelivered []) s (record { safe = tt; rows = refl; delivers = record { way = None; in_order = refl; answered = tt } })

pub messages_are_delivered : SetsAreFound → RunsAreLawful → MessagesAreDelivered
messages_are_delivered sets laws y r lines eight k =
    ((invariants_hold laws y mailbox 400 (Shaped y) Carries r.meaning_is (laws.shaped y mailbox r.meaning_is r.fit) (invariant sets y r) lines eight k).0, by k)
  where
    by : (k : ℕ) (c : Cvm) → IsCvm y lines k c → IsDelivered (dispatches_of y lines 400 k) c
    by zero c is = at_start y c is.is
    by (suc k) c is =
        let s = (invariants_hold laws y mailbox 400 (Shaped y) Carries r.meaning_is (laws.shaped y mailbox r.meaning_is r.fit) (invariant sets y r) lines eight k).1 c is in
        record { safe = s.safe; rows = s.rows; delivers = s.kept.delivers }
