-- The primitives that use no page.
use Rattle.std.proofs.Common.{◌≡◌, ◌≢◌, ℕ, ◌+◌, ◌-◌, ◌*◌, ◌%◌, ◌^◌, ◌<◌, ◌≤◌, ◌&&◌, Bool, true, false, cond, nat_eq, nat_lt, if◌then◌else◌, nat_abs, List, [], ◌∷◌, ◌++◌, length, slice_index, slice_index_or, slice_set, slice_set, refl, sym, ap, ap₂, ◌∙◌, subst, ⊎_elim, arith, le-ltb, ne_eqb}
use Rattle.std.proofs.lemmas.Bool.{cases_eq, cond-true, cond-false}
use Rattle.std.proofs.lemmas.List.{get_or-set_same, get_or-set_other, length-set}
use Rattle.std.specs.Int.{cast_unsigned, w32}
use Rattle.mips_table.specs.declared.inst.Inst.{Inst}
use Rattle.mips_table.specs.declared.inst.Inst.TheVariants.{Sll, Addiu, Addu, Ori, Lw, Sw}
use Rattle.mips_table.specs.Arith.{signed, extended, flag, sum}
use Rattle.mips_table.specs.Machine.{LOG, LEFT, log_has_room}
use Rattle.mips_table.specs.Processor.{Cpu}
use Rattle.mips_table.specs.Flat.{Flat}
use Rattle.mips_table.specs.Code.{put, Contents, with_reg, Behind, World}
use Rattle.mips_table.proofs.PutsChangeOneWord.{put_same, put_other}
use Rattle.mips_table.proofs.NumbersInHalves.{small_is}
use Rattle.masm.specs.Says.{Says, Gives, Reads, Writes, Hears, Takes, Logs, sayings}
use Rattle.masm.specs.Blocks.{when_code}
use Rattle.masm.specs.Laws.{From}
use Rattle.layer_map.specs.Map.{block_at}
use Rattle.c0_meaning.specs.Value.{bool}
use Rattle.cvm_model.specs.Kernel.{Set, flat}
use Rattle.cvm_model.specs.Primitives.{no_flat, KernelCall, ConGet, ConLeft, Given, user_of, with_user, pages_of, register_of, with_register, is_within, is_good, unchanged, changed, refused, granted, prim}
use Rattle.cvm_primitives.specs.RegisterCode.{check_user_code, is_register_code, find_word_code, check_arguments_code, vm_get_code, vm_set_code, vm_size_code, con_put_code, con_get_code, con_left_code}
use Rattle.cvm_primitives.specs.Blocks.{block_word, IsOneOf, BlocksHold, console_of, EnteredOnBlocks, LeftByCall}
use Rattle.cvm_primitives.specs.RegisterLaws.{get_call, set_call, size_call, console_put_call}
use Rattle.cvm_primitives.proofs.RegisterForms.{CodeLaws, within, straightly, straightly_then, conditionally}
use Rattle.cvm_primitives.proofs.RegisterNumbers.{flag_of, word_in, word_out, as_word}

-- a register of a machine whose register r was set: by whether r, and that which is read, is the pc
reads_pc : (b : Bool) (c : Cpu) (r x : ℕ) → b ≡ false → r < length c.regs → cond b (cond b (record c { pc = x }) (record c { regs = slice_set c.regs r x })).pc (slice_index (cond b (record c { pc = x }) (record c { regs = slice_set c.regs r x })).regs r) ≡ x
reads_pc true c r x e lt = absurd (cc)
reads_pc false c r x e lt = get_or-set_same c.regs r x 0 lt

reads_other : (a b : Bool) (c : Cpu) (r x s : ℕ) → s ≢ r → (a ≡ true → b ≡ true → ⊥) → cond b (cond a (record c { pc = x }) (record c { regs = slice_set c.regs r x })).pc (slice_index (cond a (record c { pc = x }) (record c { regs = slice_set c.regs r x })).regs s) ≡ cond b c.pc (slice_index c.regs s)
reads_other true true c r x s ne nay = absurd (nay refl refl)
reads_other true false c r x s ne nay = refl
reads_other false true c r x s ne nay = refl
reads_other false false c r x s ne nay = get_or-set_other c.regs r s x 0 ne

pub set_same : (f : Flat) (r x : ℕ) → length f.cpu.regs ≡ 32 → r ≤ 32 → register_of (with_register f r x) r ≡ x
set_same f r x len le = ⊎_elim (λ e. subst (λ r. register_of (with_register f r x) r ≡ x) (sym e) refl) (λ ne. reads_pc (nat_eq r 32) f.cpu r x (ne_eqb r 32 ne) (omega arith)) (cases_eq r 32)

pub set_other : (f : Flat) (r x s : ℕ) → s ≢ r → register_of (with_register f r x) s ≡ register_of f s
set_other f r x s ne = reads_other (nat_eq r 32) (nat_eq s 32) f.cpu r x s ne (λ a b. ⊎_elim (λ e. ⊎_elim (λ h. ne (h ∙ sym e)) (λ h. let z = ne_eqb s 32 h in absurd (cc)) (cases_eq s 32)) (λ h. let z = ne_eqb r 32 h in absurd (cc)) (cases_eq r 32))

halves : (b : Bool) (c : Cpu) (r x : ℕ) → ((cond b (record c { pc = x }) (record c { regs = slice_set c.regs r x })).hi ≡ c.hi) × ((cond b (record c { pc = x }) (record c { regs = slice_set c.regs r x })).lo ≡ c.lo)
halves true c r x = (refl, refl)
halves false c r x = (refl, refl)

-- another user is as before, and this one is the new machine
user_same : (users : List Flat) (u : ℕ) (g : Flat) → IsOneOf users u → user_of (with_user users u g) u ≡ g
user_same users u g o = let o0 = o.0 in let o1 = o.1 in get_or-set_same users (u - 1) g _ (omega arith)

user_other : (users : List Flat) (u v : ℕ) (g : Flat) → 1 ≤ u → 1 ≤ v → v ≢ u → user_of (with_user users u g) v ≡ user_of users v
user_other users u v g a b ne = get_or-set_other users (u - 1) (v - 1) g _ (omega arith)

-- the users' memories stay
set_words : (users : List Flat) (u : ℕ) (g : Flat) → IsOneOf users u → g.words ≡ (user_of users u).words → (v : ℕ) → (user_of (with_user users u g) v).words ≡ (user_of users v).words
set_words users u g o same v =
    let o0 = o.0 in let o1 = o.1 in
    ⊎_elim
    (λ e. ap (λ k. (slice_index_or (slice_set users (u - 1) g) k no_flat).words) e ∙ ap (λ g. g.words) (get_or-set_same users (u - 1) g no_flat (omega arith)) ∙ same ∙ ap (λ k. (slice_index_or users k no_flat).words) (sym e))
    (λ ne. ap (λ g. g.words) (get_or-set_other users (u - 1) (v - 1) g no_flat ne))
    (cases_eq (v - 1) (u - 1))

-- the blocks hold the users once a register is set
blocks_set : (users : List Flat) (m : ℕ → ℕ) (u r x : ℕ) → BlocksHold users m → IsOneOf users u → 1 ≤ r → r ≤ 32 → length (user_of users u).cpu.regs ≡ 32 → BlocksHold (with_user users u (with_register (user_of users u) r x)) (put m (block_word u r) x)
blocks_set users m u r x h o r1 r2 len =
    let o0 = o.0 in
    let count = length-set users (u - 1) (with_register (user_of users u) r x) in
    let one : (v : ℕ) → IsOneOf (with_user users u (with_register (user_of users u) r x)) v → IsOneOf users v = λ v p. let p1 = p.1 in (p.0, omega arith) in
    let others : (z : ℕ) → z ≢ block_word u r → put m (block_word u r) x z ≡ m z = λ z ne. put_other m (block_word u r) x z ne in
    record {
      registers = λ v s p s1 s2. let p0 = p.0 in ⊎_elim
          (λ e. subst (λ v. put m (block_word u r) x (block_word v s) ≡ register_of (user_of (with_user users u (with_register (user_of users u) r x)) v) s) (sym e) (⊎_elim
          (λ q. subst (λ s. put m (block_word u r) x (block_word u s) ≡ register_of (user_of (with_user users u (with_register (user_of users u) r x)) u) s) (sym q) (put_same m (block_word u r) x (block_word u r) refl ∙ sym (set_same (user_of users u) r x len r2) ∙ ap (λ g. register_of g r) (sym (user_same users u _ o))))
          (λ q. others (block_word u s) (omega arith) ∙ h.registers u s o s1 s2 ∙ sym (set_other (user_of users u) r x s q) ∙ ap (λ g. register_of g s) (sym (user_same users u _ o)))
          (cases_eq s r)))
          (λ ne. others (block_word v s) (omega arith) ∙ h.registers v s (one v p) s1 s2 ∙ ap (λ g. register_of g s) (sym (user_other users u v _ o0 p0 ne)))
          (cases_eq v u);
      sizes = λ v p. let p0 = p.0 in others (block_at v + 32) (omega arith) ∙ h.sizes v (one v p) ∙ ⊎_elim
          (λ e. subst (λ v. pages_of (user_of users v) ≡ pages_of (user_of (with_user users u (with_register (user_of users u) r x)) v)) (sym e) (ap pages_of (sym (user_same users u (with_register (user_of users u) r x) o))))
          (λ ne. ap pages_of (sym (user_other users u v _ o0 p0 ne)))
          (cases_eq v u);
      hi = λ v p. let p0 = p.0 in others (block_at v + 33) (omega arith) ∙ h.hi v (one v p) ∙ ⊎_elim
          (λ e. subst (λ v. (user_of users v).cpu.hi ≡ (user_of (with_user users u (with_register (user_of users u) r x)) v).cpu.hi) (sym e) (sym (halves (nat_eq r 32) (user_of users u).cpu r x).0 ∙ ap (λ g. g.cpu.hi) (sym (user_same users u (with_register (user_of users u) r x) o))))
          (λ ne. ap (λ g. g.cpu.hi) (sym (user_other users u v _ o0 p0 ne)))
          (cases_eq v u);
      lo = λ v p. let p0 = p.0 in others (block_at v + 34) (omega arith) ∙ h.lo v (one v p) ∙ ⊎_elim
          (λ e. subst (λ v. (user_of users v).cpu.lo ≡ (user_of (with_user users u (with_register (user_of users u) r x)) v).cpu.lo) (sym e) (sym (halves (nat_eq r 32) (user_of users u).cpu r x).1 ∙ ap (λ g. g.cpu.lo) (sym (user_same users u (with_register (user_of users u) r x) o))))
          (λ ne. ap (λ g. g.cpu.lo) (sym (user_other users u v _ o0 p0 ne)))
          (cases_eq v u);
    }

-- what the parts' instructions do
abbrev user_says : (bad u users : ℕ) → List Says
user_says bad u users = Gives (sum 0 (extended bad)) ∷ Gives ((u + 4294967295) % 2 ^ 32) ∷ Gives (flag (nat_lt ((u + 4294967295) % 2 ^ 32) users)) ∷ []

abbrev register_says : ℕ → List Says
register_says r = Gives ((r + 4294967295) % 2 ^ 32) ∷ Gives (flag (nat_lt ((r + 4294967295) % 2 ^ 32) 32)) ∷ []

abbrev place_says : (u r : ℕ) → List Says
place_says u r = Gives 49152 ∷ Gives (256 * (u - 1)) ∷ Gives (4 * block_at u) ∷ Gives (r * 2 ^ 27 % 2 ^ 32) ∷ Gives (4 * (r % 32)) ∷ Gives (4 * block_word u r) ∷ []

abbrev size_says : (u size : ℕ) → List Says
size_says u size = Gives 49280 ∷ Gives (256 * (u - 1)) ∷ Gives (4 * (block_at u + 32)) ∷ Reads (block_at u + 32) size ∷ []

abbrev put_says : (length v : ℕ) → List Says
put_says length v = Hears LOG length ∷ Gives (flag (nat_lt length 4096)) ∷ Logs v ∷ []

-- only registers below 12 have changed
pub record Quiet (c0 c : Contents) : Type 0 where
  pub memory : c.memory ≡ c0.memory
  pub regs : (r : ℕ) → 12 ≤ r → c.regs r ≡ c0.regs r
  pub hi : c.hi ≡ c0.hi
  pub lo : c.lo ≡ c0.lo
  pub special : c.special ≡ c0.special

abbrev low : ℕ → Bool
low r = nat_lt r 12

is_low : (r : ℕ) → 12 ≤ r → nat_lt r 12 ≡ false
is_low r le = le-ltb r 12 le

module _ (w : World) (f : CodeLaws w) (users : List Flat) (c : Contents) (d : Behind) (e : EnteredOnBlocks w users c d) where
  -- nothing changes but the answer
  stayed : (g : Given) (c1 : Contents) → Quiet c c1 → flat (λ _. 0) g.answer ≡ c1.regs 2 ∷ [] → g.users ≡ users → g.console ≡ console_of d → LeftByCall users g c d c1 d
  stayed g c1 q a us o = record {
    answer = a;
    blocks = subst (λ us. BlocksHold us c1.memory) (sym us) (subst (λ m. BlocksHold users m) (sym q.memory) e.blocks);
    count = ap length us;
    flats = λ v. ap (λ us. (user_of us v).words) us;
    log = ap (λ o. o.log) (sym o);
    input = ap (λ o. o.input) (sym o);
    words = λ k out. ap (λ m. m k) q.memory;
    regs = q.regs;
    hi = q.hi;
    lo = q.lo;
    special = q.special;
    sectors = refl;
    commands = refl;
    idle = e.idle;
  }

  -- a call that is refused
  refuses : (most : ℕ) (call : KernelCall) (c1 : Contents) → is_good most users call ≡ false → Quiet c c1 → flat (λ _. 0) (refused call) ≡ c1.regs 2 ∷ [] → LeftByCall users (prim most call users (console_of d)) c d c1 d
  refuses most call c1 bad q a =
      subst (λ g. LeftByCall users g c d c1 d) (sym (cond-false (is_good most users call) (granted users (console_of d) call) (unchanged users (console_of d) (refused call) 0 0) bad)) (stayed (unchanged users (console_of d) (refused call) 0 0) c1 q a refl refl)

  -- one that is granted
  grants : (most : ℕ) (call : KernelCall) (c1 : Contents) (d1 : Behind) → is_good most users call ≡ true → LeftByCall users (granted users (console_of d) call) c d c1 d1 → LeftByCall users (prim most call users (console_of d)) c d c1 d1
  grants most call c1 d1 good l = subst (λ g. LeftByCall users g c d c1 d1) (sym (cond-true (is_good most users call) (granted users (console_of d) call) (unchanged users (console_of d) (refused call) 0 0) good)) l

  module _ (Q : Contents → Behind → Type 0) (bad : ℕ) where
    -- the user is tested
    user_from : (m : ℕ) (work : List Inst) → length work ≤ 2000 → (is_within 1 (length users) (signed (c.regs 20)) ≡ true → nat_abs (signed (c.regs 20)) ≡ c.regs 20 → IsOneOf users (c.regs 20) → (c1 : Contents) → Quiet c c1 → c1.regs 20 ≡ c.regs 20 → c1.regs 2 ≡ sum 0 (extended bad) → c1.regs 8 ≡ c.regs 20 - 1 → From w work m c1 d Q)
        → (is_within 1 (length users) (signed (c.regs 20)) ≡ false → (c1 : Contents) → Quiet c c1 → c1.regs 2 ≡ sum 0 (extended bad) → Q c1 d) → From w (check_user_code bad (length users) ++ when_code 9 work) (3 + (m + 1)) c d Q
    user_from m work short does refuse =
        let few = e.few in let su = e.regs 20 in
        let ku = small_is (length users) (omega arith) in
        straightly_then w f (check_user_code bad (length users)) (when_code 9 work) (user_says bad (c.regs 20) (length users)) (m + 1) c d Q refl e.idle
        (λ n. (refl, (refl, (ap (λ z. flag (nat_lt ((c.regs 20 + 4294967295) % 2 ^ 32) z)) ku, tt))))
        (λ n. let q : Quiet c (sayings n (check_user_code bad (length users)) (user_says bad (c.regs 20) (length users)) c) =
        record { memory = refl; regs = λ r le. f.stays low r (is_low r le) (check_user_code bad (length users)) (user_says bad (c.regs 20) (length users)) n c refl refl; hi = refl; lo = refl; special = refl } in
        conditionally w f 9 work m _ d Q (omega arith) e.idle
        (λ z. let lt : (c.regs 20 + 4294967295) % 2 ^ 32 < length users = ⊎_elim (λ o. o.1) (λ o. absurd (z o.0)) (flag_of ((c.regs 20 + 4294967295) % 2 ^ 32) (length users)) in
        let i = word_in (length users) (c.regs 20) (omega arith) su lt in
        let i2 = i.2 in let i3 = i.3 in
        does i.0 i.1 (i.2, i.3) _ q refl refl (omega arith))
        (λ z. let le : length users ≤ (c.regs 20 + 4294967295) % 2 ^ 32 = ⊎_elim (λ o. let o0 = o.0 in absurd (omega arith)) (λ o. o.1) (flag_of ((c.regs 20 + 4294967295) % 2 ^ 32) (length users)) in
        refuse (word_out (length users) (c.regs 20) (omega arith) su le) _ q refl))

    -- the user and the register are tested, and the register's word is found
    asked_from : (m : ℕ) (work : List Inst) → length work ≤ 1000 → (is_within 1 (length users) (signed (c.regs 20)) && is_within 1 32 (signed (c.regs 21)) ≡ true → nat_abs (signed (c.regs 20)) ≡ c.regs 20 → nat_abs (signed (c.regs 21)) ≡ c.regs 21 → IsOneOf users (c.regs 20) → 1 ≤ c.regs 21 → c.regs 21 ≤ 32
        → (c1 : Contents) → Quiet c c1 → c1.regs 11 ≡ 4 * block_word (c.regs 20) (c.regs 21) → From w work m c1 d Q)
        → (is_within 1 (length users) (signed (c.regs 20)) && is_within 1 32 (signed (c.regs 21)) ≡ false → (c1 : Contents) → Quiet c c1 → c1.regs 2 ≡ sum 0 (extended bad) → Q c1 d)
        → From w (check_arguments_code bad (length users) work) (3 + (2 + (6 + m + 1) + 1)) c d Q
    asked_from m work short does refuse =
        let few = e.few in let sr = e.regs 21 in
        user_from (2 + (6 + m + 1)) (is_register_code ++ when_code 9 (find_word_code ++ work)) (omega arith)
        (λ yes eu one c1 q r20 r2 r8. let o0 = one.0 in let o1 = one.1 in
        let r21 = q.regs 21 (omega arith) in
        straightly_then w f is_register_code (when_code 9 (find_word_code ++ work)) (register_says (c.regs 21)) (6 + m + 1) c1 d Q refl e.idle
        (λ n. (ap (λ z. (z + 4294967295) % 2 ^ 32) r21, (refl, tt)))
        (λ n. let q1 : Quiet c (sayings n is_register_code (register_says (c.regs 21)) c1) =
        record { memory = q.memory; regs = λ r le. f.stays low r (is_low r le) is_register_code (register_says (c.regs 21)) n c1 refl refl ∙ q.regs r le; hi = q.hi; lo = q.lo; special = q.special } in
        conditionally w f 9 (find_word_code ++ work) (6 + m) _ d Q (omega arith) e.idle
        (λ z. let lt : (c.regs 21 + 4294967295) % 2 ^ 32 < 32 = ⊎_elim (λ o. o.1) (λ o. absurd (z o.0)) (flag_of ((c.regs 21 + 4294967295) % 2 ^ 32) 32) in
        let i = word_in 32 (c.regs 21) (omega arith) sr lt in let i2 = i.2 in let i3 = i.3 in
        straightly_then w f find_word_code work (place_says (c.regs 20) (c.regs 21)) m _ d Q refl e.idle
        (λ k. (refl, (omega arith, (omega arith, (ap (λ z. z * 2 ^ 27 % 2 ^ 32) r21, (omega arith, (omega arith, tt)))))))
        (λ k. does (ap₂ (λ a b. a && b) yes i.0) eu i.1 one i.2 i.3 _
        (record { memory = q1.memory; regs = λ r le. f.stays low r (is_low r le) find_word_code (place_says (c.regs 20) (c.regs 21)) k (sayings n is_register_code (register_says (c.regs 21)) c1) refl refl ∙ q1.regs r le; hi = q1.hi; lo = q1.lo; special = q1.special }) refl))
        (λ z. let le : 32 ≤ (c.regs 21 + 4294967295) % 2 ^ 32 = ⊎_elim (λ o. let o0 = o.0 in absurd (omega arith)) (λ o. o.1) (flag_of ((c.regs 21 + 4294967295) % 2 ^ 32) 32) in
        refuse (ap (λ b. b && is_within 1 32 (signed (c.regs 21))) yes ∙ word_out 32 (c.regs 21) (omega arith) sr le) _ q1 r2)))
        (λ nay c1 q r2. refuse (ap (λ b. b && is_within 1 32 (signed (c.regs 21))) nay) c1 q r2)

  -- a word of a control block lies in memory
  block_in : IsOneOf users (c.regs 20) → c.regs 21 ≤ 32 → block_word (c.regs 20) (c.regs 21) < 16384
  block_in one le = let o0 = one.0 in let o1 = one.1 in let few = e.few in omega arith

  -- VM_GET
  pub gets : (most : ℕ) → From w (vm_get_code (length users)) 14 c d (LeftByCall users (prim most (get_call c) users (console_of d)) c d)
  gets most =
      within w f (vm_get_code (length users)) (3 + (2 + (6 + 1 + 1) + 1)) 14 c d _ (omega arith)
      (asked_from (LeftByCall users (prim most (get_call c) users (console_of d)) c d) 65535 1 (Lw 2 11 0 ∷ []) (omega arith)
      (λ good eu er one r1 r32 c1 q at. let inside = e.inside in let small = f.small in let top = block_in one r32 in
      let held = e.blocks.registers (c.regs 20) (c.regs 21) one r1 r32 in
      straightly w f (Lw 2 11 0 ∷ []) (Reads (block_word (c.regs 20) (c.regs 21)) (register_of (user_of users (c.regs 20)) (c.regs 21)) ∷ []) c1 d _ refl e.idle
      (λ n. (
        ((omega arith, omega arith, ap (λ m. m (block_word (c.regs 20) (c.regs 21))) q.memory ∙ held), tt),
        grants most (get_call c) _ d good (stayed (granted users (console_of d) (get_call c)) _ (record { memory = q.memory; regs = λ r le. put_other c1.regs 2 _ r (omega arith) ∙ q.regs r le; hi = q.hi; lo = q.lo; special = q.special })
            (ap₂ (λ a b. cast_unsigned w32 (signed (register_of (user_of users a) b)) ∷ []) eu er ∙ ap (λ z. z ∷ []) (as_word (register_of (user_of users (c.regs 20)) (c.regs 21)) (subst (λ z. z < 2 ^ 32) held (e.words (block_word (c.regs 20) (c.regs 21)) top)))) refl refl),
      )))
      (λ nay c1 q r2. refuses most (get_call c) c1 nay q (ap (λ z. z ∷ []) (sym r2))))

  -- VM_SIZE
  pub sizes : (most : ℕ) → From w (vm_size_code (length users)) 8 c d (LeftByCall users (prim most (size_call c) users (console_of d)) c d)
  sizes most =
      within w f (vm_size_code (length users)) (3 + (4 + 1)) 8 c d _ (omega arith)
      (user_from (LeftByCall users (prim most (size_call c) users (console_of d)) c d) 65535 4 (Ori 11 0 49280 ∷ Sll 9 8 8 ∷ Addu 11 11 9 ∷ Lw 2 11 0 ∷ []) (omega arith)
      (λ good eu one c1 q r20 r2 r8. let inside = e.inside in let small = f.small in let few = e.few in let o0 = one.0 in let o1 = one.1 in
      let held = e.blocks.sizes (c.regs 20) one in
      straightly w f (Ori 11 0 49280 ∷ Sll 9 8 8 ∷ Addu 11 11 9 ∷ Lw 2 11 0 ∷ []) (size_says (c.regs 20) (pages_of (user_of users (c.regs 20)))) c1 d _ refl e.idle
      (λ n. (
        (refl, (omega arith, (omega arith, ((omega arith, omega arith, ap (λ m. m (block_at (c.regs 20) + 32)) q.memory ∙ held), tt)))),
        grants most (size_call c) _ d good (stayed (granted users (console_of d) (size_call c)) _
            (record { memory = q.memory; regs = λ r le. f.stays low r (is_low r le) (Ori 11 0 49280 ∷ Sll 9 8 8 ∷ Addu 11 11 9 ∷ Lw 2 11 0 ∷ []) (size_says (c.regs 20) (pages_of (user_of users (c.regs 20)))) n c1 refl refl ∙ q.regs r le; hi = q.hi; lo = q.lo; special = q.special })
            (ap (λ a. pages_of (user_of users a) ∷ []) eu) refl refl),
      )))
      (λ nay c1 q r2. refuses most (size_call c) c1 nay q (ap (λ z. z ∷ []) (sym r2))))

  -- VM_SET
  pub sets : (most : ℕ) → From w (vm_set_code (length users)) 15 c d (LeftByCall users (prim most (set_call c) users (console_of d)) c d)
  sets most =
      within w f (vm_set_code (length users)) (3 + (2 + (6 + 2 + 1) + 1)) 15 c d _ (omega arith)
      (asked_from (LeftByCall users (prim most (set_call c) users (console_of d)) c d) 0 2 (Sw 22 11 0 ∷ Addiu 2 0 1 ∷ []) (omega arith)
      (λ good eu er one r1 r32 c1 q at. let inside = e.inside in let small = f.small in let top = block_in one r32 in
      let r22 = q.regs 22 (omega arith) in let o0 = one.0 in
      let x = as_word (c.regs 22) (e.regs 22) in
      straightly w f (Sw 22 11 0 ∷ Addiu 2 0 1 ∷ []) (Writes (block_word (c.regs 20) (c.regs 21)) (c.regs 22) ∷ Gives 1 ∷ []) c1 d _ refl e.idle
      (λ n. (
        ((omega arith, omega arith, e.free (c.regs 20) (c.regs 21 % 32) one (omega arith), r22), (refl, tt)),
        grants most (set_call c) _ d good (renamed (nat_abs (signed (c.regs 20))) (nat_abs (signed (c.regs 21))) (cast_unsigned w32 (signed (c.regs 22))) eu er x _
            (set_left (c.regs 22) one r1 r32 c1 q)),
      )))
      (λ nay c1 q r2. refuses most (set_call c) c1 nay q (ap (λ z. z ∷ []) (sym r2))))
    where
      given_set : ℕ → ℕ → ℕ → Given
      given_set u r x = changed users (console_of d) u (with_register (user_of users u) r x) (Set r x ∷ []) 0 0

      renamed : (u r x : ℕ) → u ≡ c.regs 20 → r ≡ c.regs 21 → x ≡ c.regs 22 → (c2 : Contents) → LeftByCall users (given_set (c.regs 20) (c.regs 21) (c.regs 22)) c d c2 d → LeftByCall users (given_set u r x) c d c2 d
      renamed u r x eu er ex c2 l = subst (λ u. LeftByCall users (given_set u r x) c d c2 d) (sym eu) (subst (λ r. LeftByCall users (given_set (c.regs 20) r x) c d c2 d) (sym er) (subst (λ x. LeftByCall users (given_set (c.regs 20) (c.regs 21) x) c d c2 d) (sym ex) l))

      set_left : (x : ℕ) → IsOneOf users (c.regs 20) → 1 ≤ c.regs 21 → c.regs 21 ≤ 32 → (c1 : Contents) → Quiet c c1 → LeftByCall users (given_set (c.regs 20) (c.regs 21) x) c d (with_reg (record c1 { memory = put c1.memory (block_word (c.regs 20) (c.regs 21)) x }) 2 1) d
      set_left x one r1 r32 c1 q =
          let o0 = one.0 in let o1 = one.1 in record {
            answer = refl;
            blocks = subst (λ m. BlocksHold (with_user users (c.regs 20) (with_register (user_of users (c.regs 20)) (c.regs 21) x)) (put m (block_word (c.regs 20) (c.regs 21)) x)) (sym q.memory) (blocks_set users c.memory (c.regs 20) (c.regs 21) x e.blocks one r1 r32 (e.whole (c.regs 20) one));
            count = length-set users (c.regs 20 - 1) (with_register (user_of users (c.regs 20)) (c.regs 21) x);
            flats = set_words users (c.regs 20) (with_register (user_of users (c.regs 20)) (c.regs 21) x) one refl;
            log = refl;
            input = refl;
            words = λ k out. put_other c1.memory (block_word (c.regs 20) (c.regs 21)) x k (⊎_elim (λ lt. omega arith) (λ ge. omega arith) out) ∙ ap (λ m. m k) q.memory;
            regs = λ r le. put_other c1.regs 2 1 r (omega arith) ∙ q.regs r le;
            hi = q.hi;
            lo = q.lo;
            special = q.special;
            sectors = refl;
            commands = refl;
            idle = e.idle;
          }

  -- what a call of the console leaves
  told : (g : Given) (c1 : Contents) (d1 : Behind) → Quiet c c1 → flat (λ _. 0) g.answer ≡ c1.regs 2 ∷ [] → g.users ≡ users → d1.log ≡ g.console.log → d1.input ≡ g.console.input → d1.sectors ≡ d.sectors → d1.commands ≡ d.commands → d1.pending ≡ d.pending → LeftByCall users g c d c1 d1
  told g c1 d1 q a us l i s k p =
      let h = stayed (unchanged users (console_of d) g.answer 0 0) c1 q a refl refl in
      record { answer = a; blocks = subst (λ us. BlocksHold us c1.memory) (sym us) h.blocks; count = ap length us; flats = λ v. ap (λ us. (user_of us v).words) us; log = l; input = i; words = h.words; regs = h.regs; hi = h.hi; lo = h.lo; special = h.special; sectors = s; commands = k; idle = p ∙ e.idle }

  -- CON_LEFT
  pub lefts : (most : ℕ) → From w con_left_code 1 c d (LeftByCall users (prim most ConLeft users (console_of d)) c d)
  lefts most =
      let small = f.small in
      straightly w f con_left_code (Hears LEFT (length d.input) ∷ []) c d _ refl e.idle
      (λ n. (((refl, omega arith, e.system, (λ z. absurd (omega arith)), refl), tt), told (granted users (console_of d) ConLeft) _ d (record { memory = refl; regs = λ r le. put_other c.regs 2 _ r (omega arith); hi = refl; lo = refl; special = refl }) refl refl refl refl refl refl refl))

  -- CON_GET
  pub takes : (most : ℕ) → From w con_get_code 1 c d (LeftByCall users (prim most ConGet users (console_of d)) c d)
  takes most =
      straightly w f con_get_code (Takes (slice_index d.input 0) ∷ []) c d _ refl e.idle
      (λ n. (
        ((refl, e.system, refl), tt),
        told (granted users (console_of d) ConGet) _ _ (record { memory = refl; regs = λ r le. put_other c.regs 2 _ r (omega arith); hi = refl; lo = refl; special = refl })
            (ap (λ z. z ∷ []) (as_word (slice_index d.input 0) (e.input 0))) refl refl refl refl refl refl,
      ))

  -- CON_PUT
  pub puts : (most : ℕ) → From w con_put_code 3 c d (LeftByCall users (prim most (console_put_call c) users (console_of d)) c d)
  puts most =
      let small = f.small in
      straightly w f con_put_code (put_says (length d.log) (c.regs 20)) c d _ refl e.idle
      (λ n. (
        ((refl, omega arith, e.system, (λ z. absurd (omega arith)), refl), (refl, ((refl, e.system, e.log, refl), tt))),
        put_left (log_has_room d.log) (cast_unsigned w32 (signed (c.regs 20))) (c.regs 20) (as_word (c.regs 20) (e.regs 20)) _
            (record { memory = refl; regs = λ r le. f.stays low r (is_low r le) con_put_code (put_says (length d.log) (c.regs 20)) n c refl refl; hi = refl; lo = refl; special = refl }) refl,
      ))
    where
      put_left : (room : Bool) (y x : ℕ) → y ≡ x → (c1 : Contents) → Quiet c c1 → c1.regs 2 ≡ flag room
          → LeftByCall users (unchanged users (if room then record (console_of d) { log = d.log ++ y ∷ [] } else console_of d) (bool room) 0 0) c d c1 (if room then record d { log = d.log ++ x ∷ [] } else d)
      put_left true y x ey c1 q r2 = told (unchanged users (record (console_of d) { log = d.log ++ y ∷ [] }) (bool true) 0 0) c1 _ q (ap (λ z. z ∷ []) (sym r2)) refl (ap (λ z. d.log ++ z ∷ []) (sym ey)) refl refl refl refl
      put_left false y x ey c1 q r2 = told (unchanged users (console_of d) (bool false) 0 0) c1 _ q (ap (λ z. z ∷ []) (sym r2)) refl refl refl refl refl refl
