-- The answer of `dispatch`: a user goes on, or the power is stored; and the exits of faults.
use Rattle.std.proofs.Common.{◌≡◌, ◌≢◌, ℕ, ◌+◌, ◌-◌, ◌*◌, ◌/◌, ◌%◌, ◌^◌, ◌<◌, ◌≤◌, nat_lt, List, [], ◌∷◌, ◌++◌, length, length-append, Some, refl, sym, ap, ◌∙◌, subst, arith, lt-ltb, le-ltb}
use Rattle.std.proofs.lemmas.Bool.{cond-true, cond-false}
use Rattle.mips_table.specs.declared.inst.Inst.{Inst}
use Rattle.mips_table.specs.declared.inst.Inst.TheVariants.{Addiu, Sltiu, Sw, Eret}
use Rattle.mips_table.specs.Arith.{flag}
use Rattle.mips_table.specs.Device.{Idle}
use Rattle.mips_table.specs.declared.special.TheConstants.{ESR, PTO, PTL, EMODE}
use Rattle.mips_table.specs.Code.{put, Contents, Behind, World, Sound, CodeAt}
use Rattle.mips_table.proofs.PutsChangeOneWord.{put_other}
use Rattle.mips_table.proofs.NumbersInHalves.{const_is, small_is}
use Rattle.layer_map.specs.Map.{current_at, block_at}
use Rattle.masm.specs.Blocks.{when_code}
use Rattle.masm.specs.Says.{Gives, Widens, Reads, Writes, Asks}
use Rattle.masm.specs.Laws.{RunsCompose, WhenRuns, From}
use Rattle.masm.proofs.RulesForRoutines.{from_straight, from_later, straight_then}
use Rattle.page_model.specs.TableLayout.{TableLayout}
use Rattle.pcb_layer.specs.Code.{find_control_block_code, restore_user_code}
use Rattle.pcb_layer.specs.Laws.{UserRestored, RestoresUser}
use Rattle.trap_entry.specs.Code.{switch_page_table_code, set_user_limits_code, return_to_user_code, act_on_answer_code, exit_with_code}
use Rattle.trap_entry.specs.Laws.{RunComesTo, MayGo, PassedOver, UserReady, LeavesToUser, LeavesForGood, LeavesBadly, ExitsWith}
use Rattle.trap_entry.proofs.RunsJoined.{Run, block, join, later, comes}

module _ (w : World) (f : Sound w) (runs : RunsCompose) where
  -- the user goes on
  goes : RestoresUser w → (p : TableLayout) (users per u : ℕ) (c0 c : Contents) (d : Behind) → MayGo w p users per u → PassedOver c0 d c d → c0.regs 2 ≡ u → d.pending ≡ Idle → From w (return_to_user_code p per) 62 c d (UserReady p per u c0 d)
  goes restores p users per u c0 c d may s r2 idle =
      let words = f.small in let some = may.some in let one = may.one in let few = may.few in let least = may.least in let most = may.most in let pages = may.pages in let tables = may.tables in let inside = may.inside in
      let k = (u - 1) * per in
      let here : c.regs 2 ≡ u = s.regs 2 (omega arith) (omega arith) ∙ r2 in
      let m1 = put c.memory current_at u in
      let same : (x : ℕ) → x ≢ current_at → m1 x ≡ c.memory x = λ x ne. put_other c.memory current_at u x ne in
      let size = c.memory (block_at u + 32) in
      let small = small_is per (omega arith) in
      from_later w (return_to_user_code p per) (10 + (5 + (5 + 42))) 62 c d _ _ (omega arith) (λ c d k. k)
      (straight_then w f (switch_page_table_code p per) (find_control_block_code ++ (set_user_limits_code ++ restore_user_code))
      (Writes current_at u ∷ Gives (u - 1) ∷ Gives per ∷ Widens (k / 2 ^ 32) (k % 2 ^ 32) ∷ Gives k ∷ Gives (4 * k) ∷ Gives (4 * p.tables / 65536 * 2 ^ 16) ∷ Gives (4 * p.tables) ∷ Gives (4 * (p.tables + k)) ∷ Asks ∷ []) (5 + (5 + 42)) c d _ refl idle
      (λ n. ((refl, omega arith, may.free, here), (omega arith, (omega arith, ((refl, refl), (omega arith, (omega arith, (refl, (const_is (4 * p.tables), (omega arith, ((may.system, (λ z. omega arith), (λ z. omega arith)), tt)))))))))))
      (λ n. straight_then w f find_control_block_code (set_user_limits_code ++ restore_user_code) (Reads current_at u ∷ Gives (u - 1) ∷ Gives (256 * (u - 1)) ∷ Gives 0xc000 ∷ Gives (4 * block_at u) ∷ []) (5 + 42) _ d _ refl idle
      (λ n. ((refl, omega arith, refl), (omega arith, (omega arith, (refl, (omega arith, tt))))))
      (λ n. straight_then w f set_user_limits_code restore_user_code (Reads (block_at u + 32) size ∷ Asks ∷ Gives 1 ∷ Asks ∷ Asks ∷ []) 42 _ d _ refl idle
      (λ n. ((omega arith, omega arith, same (block_at u + 32) (omega arith)), ((may.system, (λ z. omega arith), (λ z. omega arith)), (refl, ((may.system, (λ z. omega arith), (λ z. omega arith)), ((may.system, (λ z. omega arith), (λ z. omega arith)), tt))))))
      (λ n. from_later w restore_user_code 42 42 _ d (UserRestored u _ d) (UserReady p per u c0 d) (omega arith)
      (λ c' d' t. record {
        current = ap (λ m. m current_at) t.memory;
        others = λ x ne. ap (λ m. m x) t.memory ∙ same x ne ∙ ap (λ m. m x) s.memory;
        registers = λ r h. let h0 = h.0 in let h1 = h.1 in t.registers r h ∙ same (block_at u + r) (omega arith) ∙ ap (λ m. m (block_at u + r)) s.memory;
        high = t.high ∙ same (block_at u + 33) (omega arith) ∙ ap (λ m. m (block_at u + 33)) s.memory;
        low = t.low ∙ same (block_at u + 34) (omega arith) ∙ ap (λ m. m (block_at u + 34)) s.memory;
        pc = t.pc ∙ same (block_at u) (omega arith) ∙ ap (λ m. m (block_at u)) s.memory;
        table = t.special PTO (omega arith);
        size = t.special PTL (omega arith) ∙ ap (λ m. m (block_at u + 32)) s.memory;
        interrupts = t.special ESR (omega arith);
        mode = t.special EMODE (omega arith);
        special = λ j e1 e3 e5 e6 e8. t.special j e3 ∙ four c.special (4 * (p.tables + k)) size j e1 e5 e6 e8 ∙ ap (λ g. g j) s.special;
        behind = t.behind;
      })
      (restores may.system u _ d (record { some = may.some; most = omega arith; current = refl; inside = may.inside }) idle)))))
    where
      four : (g : ℕ → ℕ) (a b j : ℕ) → j ≢ ESR → j ≢ PTO → j ≢ PTL → j ≢ EMODE → put (put (put (put g PTO a) PTL b) ESR 1) EMODE 1 j ≡ g j
      four g a b j e1 e5 e6 e8 = put_other (put (put (put g PTO a) PTL b) ESR 1) EMODE 1 j e8 ∙ put_other (put (put g PTO a) PTL b) ESR 1 j e1 ∙ put_other (put g PTO a) PTL b j e6 ∙ put_other g PTO a j e5

  -- a state passed on
  on : (c0 c c1 : Contents) (d0 d d1 : Behind) → PassedOver c0 d0 c d → PassedOver c d c1 d1 → PassedOver c0 d0 c1 d1
  on c0 c c1 d0 d d1 a b = record { regs = λ r n8 n9. b.regs r n8 n9 ∙ a.regs r n8 n9; memory = b.memory ∙ a.memory; special = b.special ∙ a.special; hi = b.hi ∙ a.hi; lo = b.lo ∙ a.lo; behind = b.behind ∙ a.behind }

  -- the answer is tested against 0
  first_test : (t : ℕ) (c : Contents) (d : Behind) → flag (nat_lt (c.regs 2) 1) ≡ t → d.pending ≡ Idle → From w (Sltiu 8 2 1 ∷ []) 1 c d (λ c' d'. PassedOver c d c' d' × (c'.regs 8 ≡ t))
  first_test t c d is idle = from_straight w f (Sltiu 8 2 1 ∷ []) (Gives t ∷ []) c d _ refl idle
      (λ m. ((is, tt), (record { regs = λ r n8 n9. put_other c.regs 8 t r n8; memory = refl; special = refl; hi = refl; lo = refl; behind = refl }, refl)))

  -- and for a user's number
  second_test : (users t v : ℕ) (c : Contents) (d : Behind) → users ≤ 64 → c.regs 2 ≡ v → 1 ≤ v → v < 2 ^ 32 → flag (nat_lt (v - 1) users) ≡ t → d.pending ≡ Idle → From w (Addiu 9 2 65535 ∷ Sltiu 9 9 users ∷ []) 2 c d (λ c' d'. PassedOver c d c' d' × (c'.regs 9 ≡ t))
  second_test users t v c d few r2 some lt is idle =
      let e = small_is users (omega arith) in
      from_straight w f (Addiu 9 2 65535 ∷ Sltiu 9 9 users ∷ []) (Gives (v - 1) ∷ Gives t ∷ []) c d _ refl idle
      (λ m. ((omega arith, (ap (λ u. flag (nat_lt (v - 1) u)) e ∙ is, tt)), (record { regs = λ r n8 n9. put_other (put c.regs 9 (v - 1)) 9 t r n9 ∙ put_other c.regs 9 (v - 1) r n9; memory = refl; special = refl; hi = refl; lo = refl; behind = refl }, refl)))

  module _ (whens : (r : ℕ) (body : List Inst) → length body < 32768 → WhenRuns w r body) (p : TableLayout) (users per n : ℕ) (at : CodeAt w n (act_on_answer_code p users per)) where
    abbrev good : List Inst
    good = Sw 0 0 0xf008 ∷ []

    abbrev user : List Inst
    user = return_to_user_code p per ++ Eret ∷ []

    abbrev last : List Inst
    last = Addiu 8 0 5 ∷ Sw 8 0 0xf008 ∷ []

    abbrev tests : List Inst
    tests = Addiu 9 2 65535 ∷ Sltiu 9 9 users ∷ []

    good_at : CodeAt w (n + 1) (when_code 8 good)
    good_at = runs.front w (n + 1) (when_code 8 good) (tests ++ (when_code 9 user ++ last)) at.1

    after_good : CodeAt w (n + 1 + 2) (tests ++ (when_code 9 user ++ last))
    after_good = runs.back w (n + 1) (when_code 8 good) (tests ++ (when_code 9 user ++ last)) at.1

    tests_at : CodeAt w (n + 1 + 2) tests
    tests_at = runs.front w (n + 1 + 2) tests (when_code 9 user ++ last) after_good

    after_tests : CodeAt w (n + 1 + 2 + 2) (when_code 9 user ++ last)
    after_tests = runs.back w (n + 1 + 2) tests (when_code 9 user ++ last) after_good

    user_at : CodeAt w (n + 1 + 2 + 2) (when_code 9 user)
    user_at = runs.front w (n + 1 + 2 + 2) (when_code 9 user) last after_tests

    last_at : CodeAt w (n + 1 + 2 + 2 + length (when_code 9 user)) last
    last_at = runs.back w (n + 1 + 2 + 2) (when_code 9 user) last after_tests

    user_size : length user ≡ length (return_to_user_code p per) + 1
    user_size = length-append (return_to_user_code p per) (Eret ∷ [])

    short : length user < 32768
    short = omega arith

    -- the answer isn't 0: past both tests
    past : (t v : ℕ) (c : Contents) (d : Behind) → users ≤ 64 → c.regs 2 ≡ v → 1 ≤ v → v < 2 ^ 32 → flag (nat_lt (v - 1) users) ≡ t → d.pending ≡ Idle → Run w runs 4 n (n + 1 + 2 + 2) c d (λ c' d'. PassedOver c d c' d' × (c'.regs 9 ≡ t))
    past t v c d few r2 some lt is idle =
        let zero : flag (nat_lt (c.regs 2) 1) ≡ 0 = cond-false (nat_lt (c.regs 2) 1) 1 0 (le-ltb (c.regs 2) 1 (omega arith)) in
        join w runs 1 3 n (n + 1) (n + 1 + 2 + 2) c d (λ c' d'. PassedOver c d c' d' × (c'.regs 8 ≡ 0)) _
        (block w runs (Sltiu 8 2 1 ∷ []) 1 n c d _ (at.0, tt) (first_test 0 c d zero idle))
        (λ c1 d1 a.
        let idle1 : d1.pending ≡ Idle = ap (λ d. d.pending) a.0.behind ∙ idle in
        join w runs 1 2 (n + 1) (n + 1 + 2) (n + 1 + 2 + 2) c1 d1 (λ c' d'. (c' ≡ c1) × (d' ≡ d1)) _
        (c1, d1, (refl, refl), (whens 8 good (omega arith)).skips (n + 1) c1 d1 good_at idle1 a.1)
        (λ c2 d2 e. block w runs tests 2 (n + 1 + 2) c2 d2 (λ c' d'. PassedOver c d c' d' × (c'.regs 9 ≡ t)) tests_at
        (from_later w tests 2 2 c2 d2 (λ c' d'. PassedOver c2 d2 c' d' × (c'.regs 9 ≡ t)) _ (omega arith)
        (λ c' d' k. (on c c2 c' d d2 d' (subst (λ x. PassedOver c d x d2) (sym e.0) (subst (λ y. PassedOver c d c1 y) (sym e.1) a.0)) k.0, k.1))
        (second_test users t v c2 d2 few (ap (λ c. c.regs 2) e.0 ∙ a.0.regs 2 (omega arith) (omega arith) ∙ r2) some lt is (ap (λ d. d.pending) e.1 ∙ idle1)))))

    to_user : RestoresUser w → (u : ℕ) (c : Contents) (d : Behind) → MayGo w p users per u → c.regs 2 ≡ u → d.pending ≡ Idle → RunComesTo w 67 n (n + 6 + length (return_to_user_code p per)) Eret c d (UserReady p per u c d)
    to_user restores u c d may r2 idle =
        let some = may.some in let one = may.one in let few = may.few in
        let inside = user_at.1 in
        let size = user_size in
        let to : n + 1 + 2 + 2 + 1 + length (return_to_user_code p per) ≡ n + 6 + length (return_to_user_code p per) = omega arith in
        let stands = runs.back w (n + 1 + 2 + 2 + 1) (return_to_user_code p per) (Eret ∷ []) inside in
        comes w runs 67 n (n + 6 + length (return_to_user_code p per)) Eret c d (UserReady p per u c d)
        (later w runs (4 + (1 + 62)) 67 n (n + 1 + 2 + 2 + 1 + length (return_to_user_code p per)) (n + 6 + length (return_to_user_code p per)) c d _ (omega arith) to
        (join w runs 4 (1 + 62) n (n + 1 + 2 + 2) (n + 1 + 2 + 2 + 1 + length (return_to_user_code p per)) c d (λ c' d'. PassedOver c d c' d' × (c'.regs 9 ≡ 1)) _
        (past 1 u c d few r2 some (omega arith) (cond-true (nat_lt (u - 1) users) 1 0 (lt-ltb _ _ (omega arith))) idle)
        (λ c1 d1 a.
        let idle1 : d1.pending ≡ Idle = ap (λ d. d.pending) a.0.behind ∙ idle in
        join w runs 1 62 (n + 1 + 2 + 2) (n + 1 + 2 + 2 + 1) (n + 1 + 2 + 2 + 1 + length (return_to_user_code p per)) c1 d1 (λ c' d'. (c' ≡ c1) × (d' ≡ d1)) _
        (c1, d1, (refl, refl), (whens 9 user short).enters (n + 1 + 2 + 2) c1 d1 user_at idle1 (λ z. omega (arith, z, a.1)))
        (λ c2 d2 e. block w runs (return_to_user_code p per) 62 (n + 1 + 2 + 2 + 1) c2 d2 (UserReady p per u c d) (runs.front w (n + 1 + 2 + 2 + 1) (return_to_user_code p per) (Eret ∷ []) inside)
        (let s : PassedOver c d c2 d2 = subst (λ x. PassedOver c d x d2) (sym e.0) (subst (λ y. PassedOver c d c1 y) (sym e.1) a.0) in
        from_later w (return_to_user_code p per) 62 62 c2 d2 (UserReady p per u c d2) (UserReady p per u c d) (omega arith)
        (λ c' d' k. record { current = k.current; others = k.others; registers = k.registers; high = k.high; low = k.low; pc = k.pc; table = k.table; size = k.size; interrupts = k.interrupts; mode = k.mode; special = k.special; behind = k.behind ∙ s.behind })
        (goes restores p users per u c c2 d2 may (record { regs = s.regs; memory = s.memory; special = s.special; hi = s.hi; lo = s.lo; behind = refl }) r2 (ap (λ d. d.pending) e.1 ∙ idle1)))))))
        (subst (λ m. w.code m ≡ Some Eret) to stands.0)

    for_good : (c : Contents) (d : Behind) → c.regs 2 ≡ 0 → d.pending ≡ Idle → RunComesTo w 2 n (n + 2) (Sw 0 0 0xf008) c d (PassedOver c d)
    for_good c d r2 idle =
        let to : n + 1 + 1 ≡ n + 2 = omega arith in
        let one : flag (nat_lt (c.regs 2) 1) ≡ 1 = ap (λ v. flag (nat_lt v 1)) r2 in
        comes w runs 2 n (n + 2) (Sw 0 0 0xf008) c d (PassedOver c d)
        (later w runs (1 + 1) 2 n (n + 1 + 1) (n + 2) c d _ (omega arith) to
        (join w runs 1 1 n (n + 1) (n + 1 + 1) c d (λ c' d'. PassedOver c d c' d' × (c'.regs 8 ≡ 1)) (PassedOver c d)
        (block w runs (Sltiu 8 2 1 ∷ []) 1 n c d _ (at.0, tt) (first_test 1 c d one idle))
        (λ c1 d1 a. (c1, d1, a.0, (whens 8 good (omega arith)).enters (n + 1) c1 d1 good_at (ap (λ d. d.pending) a.0.behind ∙ idle) (λ z. omega (arith, z, a.1))))))
        (subst (λ m. w.code m ≡ Some (Sw 0 0 0xf008)) to good_at.1.0)

    badly : (c : Contents) (d : Behind) → users ≤ 64 → users < c.regs 2 → c.regs 2 < 2 ^ 32 → d.pending ≡ Idle → RunComesTo w 6 n (n + 8 + length (return_to_user_code p per)) (Sw 8 0 0xf008) c d (λ c' d'. PassedOver c d c' d' × (c'.regs 8 ≡ 5))
    badly c d few above lt idle =
        let size = user_size in
        let m = n + 1 + 2 + 2 + length (when_code 9 user) in
        let to : m + 1 ≡ n + 8 + length (return_to_user_code p per) = omega arith in
        comes w runs 6 n (n + 8 + length (return_to_user_code p per)) (Sw 8 0 0xf008) c d _
        (later w runs (4 + (1 + 1)) 6 n (m + 1) (n + 8 + length (return_to_user_code p per)) c d _ (omega arith) to
        (join w runs 4 (1 + 1) n (n + 1 + 2 + 2) (m + 1) c d (λ c' d'. PassedOver c d c' d' × (c'.regs 9 ≡ 0)) _
        (past 0 (c.regs 2) c d few refl (omega arith) lt (cond-false (nat_lt (c.regs 2 - 1) users) 1 0 (le-ltb _ _ (omega arith))) idle)
        (λ c1 d1 a.
        let idle1 : d1.pending ≡ Idle = ap (λ d. d.pending) a.0.behind ∙ idle in
        join w runs 1 1 (n + 1 + 2 + 2) m (m + 1) c1 d1 (λ c' d'. (c' ≡ c1) × (d' ≡ d1)) _
        (c1, d1, (refl, refl), (whens 9 user short).skips (n + 1 + 2 + 2) c1 d1 user_at idle1 a.1)
        (λ c2 d2 e. block w runs (Addiu 8 0 5 ∷ []) 1 m c2 d2 _ (last_at.0, tt)
        (from_straight w f (Addiu 8 0 5 ∷ []) (Gives 5 ∷ []) c2 d2 (λ c' d'. PassedOver c d c' d' × (c'.regs 8 ≡ 5)) refl (ap (λ d. d.pending) e.1 ∙ idle1)
        (λ k. ((refl, tt), (on c c2 _ d d2 d2 (subst (λ x. PassedOver c d x d2) (sym e.0) (subst (λ y. PassedOver c d c1 y) (sym e.1) a.0)) (record { regs = λ r n8 n9. put_other c2.regs 8 5 r n8; memory = refl; special = refl; hi = refl; lo = refl; behind = refl }), refl))))))))
        (subst (λ m. w.code m ≡ Some (Sw 8 0 0xf008)) to last_at.1.0)

  exits : (power n : ℕ) (c : Contents) (d : Behind) → power < 32768 → CodeAt w n (exit_with_code power) → d.pending ≡ Idle → RunComesTo w 1 n (n + 1) (Sw 8 0 0xf008) c d (λ c' d'. PassedOver c d c' d' × (c'.regs 8 ≡ power))
  exits power n c d lt at idle =
      let e = small_is power lt in
      comes w runs 1 n (n + 1) (Sw 8 0 0xf008) c d _
      (block w runs (Addiu 8 0 power ∷ []) 1 n c d _ (at.0, tt)
      (from_straight w f (Addiu 8 0 power ∷ []) (Gives power ∷ []) c d _ refl idle
      (λ m. ((omega arith, tt), (record { regs = λ r n8 n9. put_other c.regs 8 power r n8; memory = refl; special = refl; hi = refl; lo = refl; behind = refl }, refl)))))
      at.1.0

pub leaving : (w : World) → Sound w → RunsCompose → RestoresUser w → ((r : ℕ) (body : List Inst) → length body < 32768 → WhenRuns w r body) → LeavesToUser w
leaving w f runs restores whens p users per u n c d may at r2 idle = to_user w f runs whens p users per n at restores u c d may r2 idle

pub leaving_for_good : (w : World) → Sound w → RunsCompose → ((r : ℕ) (body : List Inst) → length body < 32768 → WhenRuns w r body) → LeavesForGood w
leaving_for_good w f runs whens p users per n c d at r2 idle = for_good w f runs whens p users per n at c d r2 idle

pub leaving_badly : (w : World) → Sound w → RunsCompose → ((r : ℕ) (body : List Inst) → length body < 32768 → WhenRuns w r body) → LeavesBadly w
leaving_badly w f runs whens p users per n c d few at above lt idle = badly w f runs whens p users per n at c d few above lt idle

pub exiting : (w : World) → Sound w → RunsCompose → ExitsWith w
exiting w f runs power n c d lt at idle = exits w f runs power n c d lt at idle
