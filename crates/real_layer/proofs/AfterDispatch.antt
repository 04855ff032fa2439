-- What follows an answer of `dispatch`: a user goes on, or the machine is off.
use Rattle.std.proofs.Common.{◌≡◌, ◌≢◌, ℕ, zero, suc, ◌+◌, ◌-◌, ◌*◌, ◌/◌, ◌%◌, ◌^◌, ◌<◌, ◌≤◌, pos, negsuc, Bool, true, false, not, ◌&&◌, nat_lt, Some, None, List, length, slice_index, slice_set, refl, sym, ap, ◌∙◌, subst, ⊎_elim, inr, arith, lt-ltb, le-ltb, ne_eqb, length-set, get_or-set_same, get_or-set_other}
use Rattle.std.specs.Prelude.{◌==◌, if◌then◌else◌}
use Rattle.std.proofs.lemmas.Bool.{cond-true, cond-false, cases_lt, cases_eq}
use Rattle.std.proofs.lemmas.List.{ext_get_or}
use Rattle.std.proofs.lemmas.List.Elements.{All-get_or}
use Rattle.std.proofs.lemmas.Int.{to_z_pos}
use Rattle.std.proofs.Math.Nat.{mul-le-mul_left}
use Rattle.std.proofs.Math.Facts.{to_z-neg}
use Rattle.std.specs.Int.{w32}
use Rattle.mips_table.specs.declared.inst.Inst.{Inst}
use Rattle.mips_table.specs.declared.inst.Inst.TheVariants.{Eret}
use Rattle.mips_table.specs.Arith.{signed}
use Rattle.mips_table.specs.Processor.{Cpu}
use Rattle.mips_table.specs.Device.{Idle, Environment}
use Rattle.mips_table.specs.declared.special.TheConstants.{SR, ESR, EPC, PTO, PTL, MODE, EMODE}
use Rattle.mips_table.specs.Machine.{State, left, step, run}
use Rattle.mips_table.specs.Fits.{IsWord, CpuFits}
use Rattle.mips_table.specs.Code.{Behind, World, Sound, CodeState, at_with}
use Rattle.mips_table.specs.Borders.{EretLeaves, PowerEnds}
use Rattle.masm.specs.Standing.{only_block_at}
use Rattle.layer_map.specs.Map.{Map, current_at, block_at, memory_words}
use Rattle.page_model.specs.Paging.{PagingInvariant}
use Rattle.page_model.specs.TableLayout.{page_layout, table_layout, paged_view}
use Rattle.cvm_model.specs.Kernel.{Core}
use Rattle.cvm_model.specs.Primitives.{user_of}
use Rattle.cvm_model.specs.declared.kernel_fault.KernelFault.TheVariants.{BadUser}
use Rattle.cvm_model.specs.declared.row.Next.TheVariants.{User, Halt, Fault}
use Rattle.cvm_model.specs.Cvm.{Running, Halted, Faulted, next_of, leave_steps}
use Rattle.cvm_model.specs.Paged.{pages_by}
use Rattle.cvm_model.specs.Stands.{Site, IsUser, UserFits, RunningRelation, is_own, runs_user}
use Rattle.layer_contract.specs.Layer.{Inside, ComesBy, IsEntry, Rested, Leaves}
use Rattle.cvm_primitives.specs.Blocks.{BlocksHold}
use Rattle.trap_entry.specs.Code.{return_to_user_code, act_on_answer_code}
use Rattle.trap_entry.specs.Laws.{RunComesTo, UserReady, MayGo, LeavesToUser, LeavesForGood, LeavesBadly}
use Rattle.real_layer.specs.Image.{routine_at, image_site, IsMade}
use Rattle.real_layer.specs.Runs.{Calm, kept_words, block_world}
use Rattle.real_layer.proofs.StandsByFunctions.{Shown, Order, order_of, words_of, behind, word_is, cpu_is, user_fits, blocks_agree, pages_agree, shown, stood}
use Rattle.real_layer.proofs.PartsPlaced.{listed}
use Rattle.real_layer.proofs.RunsBetweenEntries.{Below, Arrives, contents}
use Rattle.real_layer.proofs.EndingSteps.{Left, single, Gone, goes, left_words, left_behind, comes_by}
use Rattle.real_layer.proofs.RoutinesAndExits.{Tools, not_user, Routed, routed, arrives_in, comes_off}

-- a word of the map that the layer may change isn't kept
pub free_own : (y : Site) (memory : List ℕ) (k : ℕ) → k < memory_words y.map → is_own y.map k ≡ true → kept_words y memory k ≡ None
free_own y memory k lt own =
    ap (λ b. if b then (if nat_lt k (length y.linked) && not (is_own y.map k) then Some (slice_index y.linked k) else None) else if nat_lt k (length memory) then Some (slice_index memory k) else None) (lt-ltb k (memory_words y.map) lt)
    ∙ by (nat_lt k (length y.linked)) (is_own y.map k) own
  where
    by : (t b : Bool) → b ≡ true → (if t && not b then Some (slice_index y.linked k) else None) ≡ None
    by true true e = refl
    by false true e = refl
    by true false e = absurd (cc)
    by false false e = absurd (cc)

-- words as ints
pub signed_pos : (x : ℕ) → x < 2 ^ 31 → signed x ≡ pos x
signed_pos x lt = to_z_pos w32 x lt

pub signed_neg : (x : ℕ) → 2 ^ 31 ≤ x → x < 2 ^ 32 → signed x ≡ negsuc (2 ^ 32 - suc x)
signed_neg x le lt = let e : x ≡ 2 ^ 32 - suc (2 ^ 32 - suc x) = omega arith in ap signed e ∙ to_z-neg w32 (2 ^ 32 - suc x) (omega arith)

-- an answer as a word
word_answer : (users r : ℕ) → users ≤ 64 → r < 2 ^ 32 → 1 ≤ r → r ≤ users → next_of users (signed r) ≡ User r
word_answer users (suc n) few small from to =
    let is : signed (suc n) ≡ pos (suc n) = signed_pos (suc n) (omega arith) in
    ap (next_of users) is ∙ cond-true (nat_lt n users) (User (suc n)) (Fault BadUser) (lt-ltb n users (omega arith))
word_answer users zero few small from to = absurd (omega arith)

bad_answer : (users r : ℕ) → users ≤ 64 → r < 2 ^ 32 → users < r → next_of users (signed r) ≡ Fault BadUser
bad_answer users (suc n) few small past = ⊎_elim
    (λ low. ap (next_of users) (signed_pos (suc n) low) ∙ cond-false (nat_lt n users) (User (suc n)) (Fault BadUser) (le-ltb n users (omega arith)))
    (λ high. ap (next_of users) (signed_neg (suc n) high small))
    (cases_lt (suc n) (2 ^ 31))
bad_answer users zero few small past = absurd (omega arith)

-- a page's number
few_pages : (u per : ℕ) → u ≤ 64 → per ≤ 1024 → (u - 1) * per ≤ 65536
few_pages u per few most =
    let h : u - 1 ≤ 64 = omega arith in
    omega (arith, mul-le-mul_left per h)

-- the special registers behind an eret
pub left_other : (special : List ℕ) (k : ℕ) → k ≢ SR → k ≢ MODE → slice_index (left special) k ≡ slice_index special k
left_other special k ns nm =
    get_or-set_other (slice_set special SR (slice_index special ESR)) MODE k (slice_index special EMODE) 0 nm ∙ get_or-set_other special SR k (slice_index special ESR) 0 ns

pub left_sr : (special : List ℕ) → length special ≡ 9 → slice_index (left special) SR ≡ slice_index special ESR
left_sr special size =
    get_or-set_other (slice_set special SR (slice_index special ESR)) MODE SR (slice_index special EMODE) 0 (λ e. absurd (omega arith)) ∙ get_or-set_same special SR (slice_index special ESR) 0 (omega arith)

pub left_mode : (special : List ℕ) → length special ≡ 9 → slice_index (left special) MODE ≡ slice_index special EMODE
left_mode special size = get_or-set_same (slice_set special SR (slice_index special ESR)) MODE (slice_index special EMODE) 0 (omega (arith, length-set special SR (slice_index special ESR)))

-- a processor whose registers are those of a control block is the user's
pub cpu_by : (a b : Cpu) → CpuFits a → CpuFits b → a.pc ≡ b.pc → ((r : ℕ) → 1 ≤ r → r ≤ 31 → slice_index a.regs r ≡ slice_index b.regs r) → a.hi ≡ b.hi → a.lo ≡ b.lo → a ≡ b
cpu_by a b fa fb p g h l =
    let na : length a.regs ≡ 32 = fa.regs.size in
    let nb : length b.regs ≡ 32 = fb.regs.size in
    let regs : a.regs ≡ b.regs = ext_get_or 0 a.regs b.regs (omega arith) (λ i lt. at i (omega arith)) in
    cpu_is a b p regs h l
  where
    at : (i : ℕ) → i < 32 → slice_index a.regs i ≡ slice_index b.regs i
    at zero lt = fa.regs.none ∙ sym fb.regs.none
    at (suc i) lt = g (suc i) (omega arith) (omega arith)

-- what a user's control block says, by the words that show it
pub block_pc : (c : Core) (words : ℕ → ℕ) (u : ℕ) → BlocksHold c.users words → IsUser c u → words (block_at u) ≡ (user_of c.users u).cpu.pc
block_pc c words u b is = let there : block_at u ≡ block_at u + 32 % 32 = omega arith in ap words there ∙ b.registers u 32 is (omega arith) (omega arith)

pub block_register : (c : Core) (words : ℕ → ℕ) (u r : ℕ) → BlocksHold c.users words → IsUser c u → 1 ≤ r → r ≤ 31 → words (block_at u + r) ≡ slice_index (user_of c.users u).cpu.regs r
block_register c words u r b is from to =
    let there : block_at u + r ≡ block_at u + r % 32 = omega arith in
    ap words there ∙ b.registers u r is from (omega arith) ∙ cond-false (r == 32) (user_of c.users u).cpu.pc (slice_index (user_of c.users u).cpu.regs r) (ne_eqb r 32 (λ e. absurd (omega arith)))

module _ (m : Map) (sizes code : List ℕ) (made : IsMade m sizes code) where
  abbrev y : Site
  y = image_site m sizes code

  abbrev is : List Inst
  is = act_on_answer_code (table_layout m) m.users m.params.pages

  -- the state behind the eret, from that at it
  module _ (z : Tools) (x : Environment) (s : State) (c : Core) (u : ℕ) (st : RunningRelation x y s Running c) (i : Inside s) (user : IsUser c u) where
    user_stands : (s2 t : State) → Calm x y s2 → length s2.memory ≡ length s.memory → UserReady (table_layout m) m.params.pages u (contents s) (behind s) (contents s2) (behind s2) → t.off ≡ s2.off → t.special ≡ left s2.special
        → t.cpu ≡ record s2.cpu { pc = slice_index s2.special EPC } → Left x s2 t → Rested x y (User u) c t
    user_stands s2 t k size g off special cpu l =
        let sh : Shown y c (words_of s) (behind s) = shown z.alikes x y s Running c made.range st (not_user s i) in
        let o : Order m = order_of m made.range in
        let globals = o.globals in let heap = o.heap in let stack = o.stack in let tables = o.tables in let counts = o.counts in let zeros = o.zeros in
        let long = st.memory in
        let some : 1 ≤ u = user.0 in let one : u ≤ length c.users = user.1 in
        let users : length c.users ≡ m.users = st.whole.users in
        let few : m.users ≤ 64 = made.range.users in
        let nine : length s2.special ≡ 9 = k.quiet.fits.special.size in
        let f : UserFits m.params.pages (user_of c.users u) = user_fits m c u st.whole user in
        let words : words_of t ≡ words_of s2 = left_words x s2 t l in
        let at : (j : ℕ) → j ≢ current_at → words_of t j ≡ words_of s j = λ j ne. ap (λ g. g j) words ∙ g.others j ne in
        let same : behind t ≡ behind s = left_behind x s2 t l ∙ g.behind in
        let memory : (j : ℕ) → j < length s.memory → words_of t j ≡ slice_index t.memory j = λ j lt. word_is t j (omega (arith, ap length l.memory, size)) in
        let user_mode : slice_index t.special MODE ≡ 1 = ap (λ sp. slice_index sp MODE) special ∙ left_mode s2.special nine ∙ g.mode in
        let running : runs_user t ≡ true = let on : t.off ≡ None = off ∙ k.quiet.on in rw (on, user_mode) refl in
        record {
          rests = running;
          stands = stood z.alikes x y s t Running Running c (record c { current = u }) made.range st
              (record {
                fits = l.fits;
                no_reset = l.no_reset ∙ k.quiet.no_reset;
                size = ap length l.memory ∙ size;
                kernel = λ j is. let lt : (1026 ≤ j) × (j < length s.memory) = ⊎_elim (λ h. let h0 = h.0 in let h1 = h.1 in (omega arith, omega arith)) (λ h. let h0 = h.0 in let h1 = h.1 in (omega arith, omega arith)) is in
                    let low = lt.0 in sym (memory j lt.1) ∙ at j (λ e. absurd (omega arith)) ∙ word_is s j lt.1;
                linked = λ j lt own. ap (λ g. slice_index g j) l.memory ∙ k.stays j lt own;
              })
              (record { users = st.whole.users; each = st.whole.each; globals = st.whole.globals; heap = st.whole.heap; used = st.whole.used; frames = st.whole.frames; current = omega arith; log = st.whole.log; input = st.whole.input })
              refl
              (record {
                blocks = blocks_agree c.users (words_of s) (words_of t) (omega arith) (λ j low top. at j (λ e. absurd (omega arith))) sh.blocks;
                pages = subst (λ (d : Behind). PagingInvariant (page_layout m) (pages_by m.params.pages c.users) (paged_view (table_layout m) (words_of t) d.sectors)) (sym same)
                    (pages_agree z.alikes m (pages_by m.params.pages c.users) (words_of s) (words_of t) (behind s).sectors o (λ j why lt. at j (λ e. ⊎_elim (λ h. absurd (omega arith)) (λ h. absurd (omega arith)) why)) sh.pages);
                log = ap (λ (d : Behind). d.log) same ∙ sh.log;
                input = ap (λ (d : Behind). d.input) same ∙ sh.input;
                idle = ap (λ (d : Behind). d.pending) same ∙ sh.idle;
              })
              (λ run. sym (memory current_at (omega arith)) ∙ ap (λ g. g current_at) words ∙ g.current)
              (λ run. record {
                user = user;
                cpu = cpu_by t.cpu (user_of c.users u).cpu l.fits.cpu f.cpu
                    (ap (λ (p : Cpu). p.pc) cpu ∙ g.pc ∙ block_pc c (words_of s) u sh.blocks user)
                    (λ r from to. ap (λ (p : Cpu). slice_index p.regs r) cpu ∙ g.registers r (from, to) ∙ block_register c (words_of s) u r sh.blocks user from to)
                    (ap (λ (p : Cpu). p.hi) cpu ∙ g.high ∙ sh.blocks.hi u user) (ap (λ (p : Cpu). p.lo) cpu ∙ g.low ∙ sh.blocks.lo u user);
                pto = ap (λ sp. slice_index sp PTO) special ∙ left_other s2.special PTO (λ e. absurd (omega arith)) (λ e. absurd (omega arith)) ∙ g.table;
                ptl = ap (λ sp. slice_index sp PTL) special ∙ left_other s2.special PTL (λ e. absurd (omega arith)) (λ e. absurd (omega arith)) ∙ g.size ∙ sh.blocks.sizes u user;
                sr = ap (λ sp. slice_index sp SR) special ∙ left_sr s2.special nine ∙ g.interrupts;
              });
        }

    to_user : EretLeaves → ((w : World) → Sound w → LeavesToUser w) → (r : Routed m sizes code made 14 is x s) → slice_index s.cpu.regs 2 ≡ u → ComesBy x y IsEntry leave_steps s (Rested x y (User u) c)
    to_user leaves law r answer =
        let b : Below = z.below in
        let n : ℕ = routine_at m 14 in
        let s1 : State = run x s 1 in
        let w : World = block_world x y s1 n is in
        let o : Order m = order_of m made.range in
        let globals = o.globals in let heap = o.heap in let stack = o.stack in let tables = o.tables in let counts = o.counts in let zeros = o.zeros in
        let long = st.memory in let size = r.enters.size in
        let one : u ≤ length c.users = user.1 in
        let users : length c.users ≡ m.users = st.whole.users in
        let few : m.users ≤ 64 = made.range.users in
        let least = made.range.params.a_page in let most = made.range.params.pages in
        let low = r.low in let high = r.high in
        let may : MayGo w (table_layout m) m.users m.params.pages u = record {
          system = refl;
          some = user.0;
          one = omega arith;
          few = few;
          least = least;
          most = most;
          pages = few_pages u m.params.pages (omega arith) most;
          tables = omega arith;
          inside = omega arith;
          free = free_own y s1.memory current_at (omega arith) refl;
        } in
        let g : RunComesTo w 67 n (n + 6 + length (return_to_user_code (table_layout m) m.params.pages)) Eret (contents s) (behind s) (UserReady (table_layout m) m.params.pages u (contents s) (behind s)) =
        law w r.sound (table_layout m) m.users m.params.pages u n (contents s) (behind s) may r.block answer r.calm.idle in
        let e : CodeState = at_with (n + 6 + length (return_to_user_code (table_layout m) m.params.pages)) g.contents g.behind in
        let idle : g.behind.pending ≡ Idle = ap (λ (d : Behind). d.pending) g.done.behind ∙ r.calm.idle in
        let a : Arrives x y 67 s1 e = arrives_in m sizes code made z 14 is x s r 67 e idle g.reaches in
        let s2 : State = run x s1 a.steps in
        let at2 : s2.cpu.pc / 4 ≡ n + 6 + length (return_to_user_code (table_layout m) m.params.pages) = ap (λ (u : CodeState). u.at) a.there in
        let aligned = a.calm.quiet.aligned in
        let inside = (b.stands n is).inside (n + 6 + length (return_to_user_code (table_layout m) m.params.pages)) Eret g.stands in
        let from = inside.0 in let to = inside.1 in
        let gone : Gone z.words b.stands x y s2 n is r.stands a.calm (step x s2) = goes z.words b.stands x y s2 n is r.stands a.calm leaves (ap (only_block_at n is) at2 ∙ g.stands) in
        let ready : UserReady (table_layout m) m.params.pages u (contents s) (behind s) (contents s2) (behind s2) =
        subst (λ (v : CodeState). UserReady (table_layout m) m.params.pages u (contents s) (behind s) v.contents v.behind) (sym a.there) g.done in
        comes_by b x y s n 67 leave_steps e (Rested x y (User u) c) r.enters a (single b.none x y n (n + length is) s2 (inr (omega arith, omega arith)) a.calm (omega arith) (omega arith) gone.stays.device gone.stays.memory)
        (user_stands s2 (step x s2) a.calm (a.size ∙ size) ready gone.off gone.special gone.cpu gone.stays) (omega arith)

  pub leaves : Tools → PowerEnds → EretLeaves → ((w : World) → Sound w → LeavesToUser w) → ((w : World) → Sound w → LeavesForGood w) → ((w : World) → Sound w → LeavesBadly w) → Leaves y
  leaves z ends erets to good bad x s c at =
      let v : ℕ = slice_index s.cpu.regs 2 in
      let few : m.users ≤ 64 = made.range.users in
      let users : length c.users ≡ m.users = at.stands.whole.users in
      let small : v < 2 ^ 32 = let size : length s.cpu.regs ≡ 32 = at.stands.fits.cpu.regs.size in All-get_or IsWord s.cpu.regs 2 0 (omega arith) at.stands.fits.cpu.regs.each in
      let r : Routed m sizes code made 14 is x s = routed m sizes code made z 14 is x s c (omega arith) (listed m).leave at.stands at.inside (at.pc ∙ refl) in
      let n : ℕ = routine_at m 14 in
      let w : World = block_world x y (run x s 1) n is in
      let regs = at.stands.fits.cpu.regs in
      ⊎_elim
      (λ e. subst (λ q. ComesBy x y IsEntry leave_steps s (Rested x y (next_of m.users (signed q)) c)) (sym e)
      (let g = good w r.sound (table_layout m) m.users m.params.pages n (contents s) (behind s) r.block e r.calm.idle in
      comes_off m sizes code made z ends 14 is x s c at.stands at.inside r 2 (n + 2) 0 0 (Rested x y Halt c)
      (record { contents = g.contents; behind = g.behind; done = (g.done, g.done.regs 0 (λ e. absurd (omega arith)) (λ e. absurd (omega arith)) ∙ regs.none); reaches = g.reaches; stands = g.stands }) (omega arith)
      (λ t off. record { rests = off.off; stands = off.stands Halted (λ q. absurd (cc)) })))
      (λ ne. ⊎_elim
      (λ past. subst (λ q. ComesBy x y IsEntry leave_steps s (Rested x y q c)) (sym (bad_answer m.users v few small past))
      (let g = bad w r.sound (table_layout m) m.users m.params.pages n (contents s) (behind s) few r.block past small r.calm.idle in
      comes_off m sizes code made z ends 14 is x s c at.stands at.inside r 6 (n + 8 + length (return_to_user_code (table_layout m) m.params.pages)) 8 5 (Rested x y (Fault BadUser) c) g (omega arith)
      (λ t off. record { rests = off.off; stands = off.stands (Faulted BadUser) (λ q. absurd (cc)) })))
      (λ within. subst (λ q. ComesBy x y IsEntry leave_steps s (Rested x y q c)) (sym (word_answer m.users v few small (omega arith) within))
      (to_user z x s c v at.stands at.inside (omega arith, omega arith) erets to r refl))
      (cases_lt m.users v))
      (cases_eq v 0)
