-- The ten primitives: each is entered as its law asks, and what it leaves is what the return asks.
use Rattle.std.proofs.Common.{◌≡◌, ℕ, suc, ◌+◌, ◌-◌, ◌*◌, ◌^◌, ◌<◌, ◌≤◌, ℤ, pos, negsuc, true, List, length, slice_index, refl, sym, ap, ap₂, ◌∙◌, subst, ⊎_elim, inl, inr, arith}
use Rattle.std.specs.Prelude.{nat_abs}
use Rattle.std.proofs.lemmas.Bool.{and_parts, cases_lt}
use Rattle.mips_table.specs.declared.inst.Inst.{Inst}
use Rattle.mips_table.specs.Arith.{signed}
use Rattle.mips_table.specs.Flat.{Flat}
use Rattle.mips_table.specs.Device.{Environment}
use Rattle.mips_table.specs.Machine.{LOG, State, run, Console}
use Rattle.mips_table.specs.Code.{Contents, Behind, World, Sound}
use Rattle.masm.specs.Laws.{From, ReturnRuns}
use Rattle.layer_map.specs.Map.{Map, current_at, tables_at, memory_words}
use Rattle.page_model.specs.Paging.{MapsTo, PagingInvariant}
use Rattle.page_model.specs.TableLayout.{page_layout, table_layout, paged_view}
use Rattle.page_fault.specs.Code.{handle_page_code}
use Rattle.page_fault.specs.Asked.{MapsAreSited}
use Rattle.cvm_model.specs.Kernel.{Core}
use Rattle.cvm_model.specs.Primitives.{KernelCall, VmGet, VmSet, VmSize, VmResize, VmWord, VmPut, VmCopy, ConPut, ConGet, ConLeft, Given, prim, primitive_number, units_of, user_of, pages_of, is_within, is_good}
use Rattle.cvm_model.specs.Cvm.{Running, run_steps}
use Rattle.cvm_model.specs.Paged.{pages_by}
use Rattle.cvm_model.specs.Stands.{Site, UserFits, RunningRelation}
use Rattle.layer_contract.specs.Layer.{Inside, BusyWithin, InCode, PrimitiveCalled, given, ComesBack, PrimitivesAnswer}
use Rattle.cvm_primitives.specs.Blocks.{IsOneOf, console_of, EnteredOnBlocks, LeftByCall}
use Rattle.cvm_primitives.specs.RegisterCode.{vm_get_code, vm_set_code, vm_size_code, con_put_code, con_get_code, con_left_code}
use Rattle.cvm_primitives.specs.RegisterLaws.{RegistersAnswer, get_call, set_call, size_call, console_put_call}
use Rattle.cvm_primitives.specs.Code.{vm_word_code, vm_put_code, vm_copy_code, vm_resize_code}
use Rattle.cvm_primitives.specs.Calls.{CallEntered, CallLeft, call_steps, MemoryAnswers, Grown, word_call, put_call as store_call, copy_call, resize_call}
use Rattle.cvm_primitives.specs.View.{Fresh}
use Rattle.real_layer.specs.Image.{returning, routine, routine_at, image_site, IsMade}
use Rattle.real_layer.specs.Runs.{block_world}
use Rattle.real_layer.specs.Laws.{NameZeros, GrowthIsFresh}
use Rattle.real_layer.proofs.StandsByFunctions.{Shown, Order, order_of, words_of, behind, word_is, user_fits, pages_agree, shown}
use Rattle.real_layer.proofs.PartsPlaced.{Listed, listed, linked_length}
use Rattle.real_layer.proofs.RunsBetweenEntries.{contents}
use Rattle.real_layer.proofs.RoutinesAndExits.{Tools, not_user, Routed, routed}
use Rattle.real_layer.proofs.AfterDispatch.{signed_pos, signed_neg}
use Rattle.real_layer.proofs.FromUser.{free_block}
use Rattle.real_layer.proofs.HandlerBegins.{pages_same}
use Rattle.real_layer.proofs.UsersFit.{HasWord, within, page_below}
use Rattle.real_layer.proofs.PrimitiveCalls.{Came, free_past, free_port, own_hand, word_read, as_word, comes_back}

-- what is left of a block's run is weakened
pub from_on : (w : World) (is : List Inst) (n : ℕ) (c : Contents) (d : Behind) (P Q : Contents → Behind → Type 0) → ((c' : Contents) (d' : Behind) → P c' d' → Q c' d') → From w is n c d P → From w is n c d Q
from_on w is n c d P Q h f = record { by = λ at c0 d0 code start. let g = f.by at c0 d0 code start in (g.0, g.1, h g.0 g.1 g.2, g.3) }

-- a console by its parts
console_is : (d : Behind) (o : Console) → d.log ≡ o.log → d.input ≡ o.input → console_of d ≡ o
console_is d o l i = parts d.log o.log d.input o.input l i
  where
    parts : (a b : List ℕ) (e f : List ℕ) → a ≡ b → e ≡ f → (let p : Console = record { log = a; input = e } in let q : Console = record { log = b; input = f } in p ≡ q)
    parts a b e f h k = rw (h, k) refl

set_is : (a b c a' b' c' : ℤ) → a ≡ a' → b ≡ b' → c ≡ c' → VmSet a b c ≡ VmSet a' b' c'
set_is a b c a' b' c' p q r = rw (p, q, r) refl

put_is : (a b c a' b' c' : ℤ) → a ≡ a' → b ≡ b' → c ≡ c' → VmPut a b c ≡ VmPut a' b' c'
put_is a b c a' b' c' p q r = rw (p, q, r) refl

copy_is : (a b c d e a' b' c' d' e' : ℤ) → a ≡ a' → b ≡ b' → c ≡ c' → d ≡ d' → e ≡ e' → VmCopy a b c d e ≡ VmCopy a' b' c' d' e'
copy_is a b c d e a' b' c' d' e' p q r s t = rw (p, q, r, s, t) refl

-- a word as an int that isn't negative
abs_is : (r : ℕ) (z : ℤ) (low high : ℕ) → r < 2 ^ 32 → signed r ≡ z → is_within low high z ≡ true → r ≡ nat_abs z
abs_is r (pos a) low high lt e h = ⊎_elim
    (λ less. let q : pos r ≡ pos a = sym (signed_pos r less) ∙ e in cc)
    (λ more. let q : negsuc (2 ^ 32 - suc r) ≡ pos a = sym (signed_neg r more lt) ∙ e in absurd (cc))
    (cases_lt r (2 ^ 31))
abs_is r (negsuc a) low high lt e h = absurd (cc)

-- what the proofs of the primitives take from the crates below
pub record Routines : Type 0 where
  pub tools : Tools
  pub returns : (w : World) → Sound w → (body : List Inst) → ReturnRuns w body
  pub sited : MapsAreSited
  pub registers : (w : World) → Sound w → RegistersAnswer w
  pub memory : (w : World) → Sound w → MemoryAnswers w

module _ (m : Map) (sizes code : List ℕ) (made : IsMade m sizes code) where
  abbrev y : Site
  y = image_site m sizes code

  module _ (z : Routines) (x : Environment) (longest : ℕ) (s : State) (c : Core) (busy : BusyWithin x longest) (st : RunningRelation x y s Running c) (i : Inside s) where
    abbrev users : List Flat
    users = c.users

    sh : Shown y c (words_of s) (behind s)
    sh = shown z.tools.alikes x y s Running c made.range st (not_user s i)

    console : console_of (behind s) ≡ c.console
    console = console_is (behind s) c.console st.log st.input

    regs : (r : ℕ) → slice_index s.cpu.regs r < 2 ^ 32
    regs r = word_read s.cpu.regs r st.fits.cpu.regs.each

    o : Order m
    o = order_of m made.range

    whole : (u : ℕ) → IsOneOf users u → UserFits m.params.pages (user_of users u)
    whole u is = user_fits m c u st.whole is

    module _ (k : ℕ) (is : List Inst) (r : Routed m sizes code made k is x s) where
      abbrev w : World
      w = block_world x y (run x s 1) (routine_at m k) is

      long : memory_words m ≤ w.words
      long = let size = r.enters.size in let all = st.memory in omega arith

      -- the primitives that use no page
      registers_entered : EnteredOnBlocks w users (contents s) (behind s)
      registers_entered =
          let globals = o.globals in let heap = o.heap in let stack = o.stack in let tables = o.tables in let counts = o.counts in let zeros = o.zeros in let most = o.most in
          let count : length users ≡ m.users = st.whole.users in
          let few : m.users ≤ 64 = made.range.users in
          let all = long in
          record {
            few = omega arith;
            blocks = sh.blocks;
            whole = λ u is. (whole u is).cpu.regs.size;
            inside = omega arith;
            free = λ u j is lt. let from = is.0 in let to = is.1 in free_block m sizes code made (run x s 1).memory u j from (omega arith) (omega arith);
            system = refl;
            log = let small = r.calm.small in free_port m sizes code made (run x s 1).memory LOG (omega arith) (omega arith);
            regs = regs;
            words = λ j lt. let here = word_is s j (let mem = st.memory in omega arith) in let v = word_read s.memory j st.fits.memory in omega arith;
            input = λ j. word_read s.input j st.fits.console.left;
            idle = st.idle;
          }

      registers_came : (call : KernelCall) (c1 : Contents) (d1 : Behind) → LeftByCall users (prim m.params.pages call users (console_of (behind s))) (contents s) (behind s) c1 d1 → Came y (given y c call) (contents s) (behind s) c1 d1
      registers_came call c1 d1 l =
          let globals = o.globals in let heap = o.heap in let stack = o.stack in let tables = o.tables in let counts = o.counts in let zeros = o.zeros in
          let count : length users ≡ m.users = st.whole.users in
          let few : m.users ≤ 64 = made.range.users in
          let left : LeftByCall users (given y c call) (contents s) (behind s) c1 d1 = subst (λ q. LeftByCall users (prim m.params.pages call users q) (contents s) (behind s) c1 d1) console l in
          record {
            answer = left.answer;
            pages = subst (λ q. PagingInvariant (page_layout m) (pages_by m.params.pages (given y c call).users) (paged_view (table_layout m) c1.memory q)) (sym left.sectors)
                (pages_same (page_layout m) m.params.pages (paged_view (table_layout m) c1.memory (behind s).sectors) users (given y c call).users left.flats
                (pages_agree z.tools.alikes m (pages_by m.params.pages users) (words_of s) c1.memory (behind s).sectors o (λ j why lt. left.words j (⊎_elim (λ e. inl (omega arith)) (λ h. inr (omega arith)) why)) sh.pages));
            blocks = left.blocks;
            log = left.log;
            input = left.input;
            current = left.words current_at (inl (omega arith));
            words = λ j is. left.words j (⊎_elim (λ h. let h1 = h.1 in inl (omega arith)) (λ h. let h0 = h.0 in inr (omega arith)) is);
            special = left.special;
            regs = λ q from to. left.regs q (omega arith);
            idle = left.idle;
          }

      -- the primitives on memory
      memory_entered : CallEntered w (table_layout m) longest m.params.pages users (contents s) (behind s)
      memory_entered =
          let globals = o.globals in let heap = o.heap in let stack = o.stack in let tables = o.tables in let counts = o.counts in let zeros = o.zeros in let most = o.most in
          let count : length users ≡ m.users = st.whole.users in
          let few : m.users ≤ 64 = made.range.users in
          let mem = st.memory in
          record {
            sited = z.sited m w made.range long (λ q from to. free_past m sizes code made (run x s 1).memory q (omega (arith, linked_length m sizes code made)) to);
            ported = record {
              disk = record { system = refl; free = λ q from to. let small = r.calm.small in free_port m sizes code made (run x s 1).memory q (omega arith) (omega arith); busy = busy };
              hand = own_hand m sizes code made (run x s 1).memory;
              sectors = omega arith;
            };
            held = record {
              stands = sh.pages;
              small = λ q lt. let here = word_is s (tables_at m + q) (omega arith) in let v = word_read s.memory (tables_at m + q) st.fits.memory in omega arith;
              low = λ q lt ne. refl;
              above = λ q le lt. refl;
              special = refl;
              r28 = refl;
              r29 = refl;
              r30 = refl;
              r31 = refl;
              behind = record { log = refl; input = refl; past = λ q j le. refl };
              idle = st.idle;
            };
            few = omega arith;
            some = made.range.params.a_page;
            limit = made.range.params.pages;
            shape = ap (λ n. n * m.params.pages) (sym count);
            blocks = sh.blocks;
            each = whole;
            free = λ u is. let from = is.0 in let to = is.1 in free_block m sizes code made (run x s 1).memory u 32 from (omega arith) (omega arith);
            regs = regs;
          }

      memory_came : (call : KernelCall) (c1 : Contents) (d1 : Behind) → CallLeft (table_layout m) m.params.pages users (prim m.params.pages call users (console_of (behind s))) (contents s) (behind s) c1 d1 → Came y (given y c call) (contents s) (behind s) c1 d1
      memory_came call c1 d1 l =
          let globals = o.globals in let heap = o.heap in let stack = o.stack in let tables = o.tables in
          let count : length users ≡ m.users = st.whole.users in
          let few : m.users ≤ 64 = made.range.users in
          let left : CallLeft (table_layout m) m.params.pages users (given y c call) (contents s) (behind s) c1 d1 = subst (λ q. CallLeft (table_layout m) m.params.pages users (prim m.params.pages call users q) (contents s) (behind s) c1 d1) console l in
          record {
            answer = left.answer;
            pages = left.stands;
            blocks = left.blocks;
            log = left.log;
            input = left.input;
            current = left.words current_at (omega arith) (λ e. absurd (omega arith)) (λ u is e. absurd (omega arith));
            words = λ j is. ⊎_elim
                (λ h. let h0 = h.0 in let h1 = h.1 in left.words j (omega arith) (λ e. absurd (omega arith)) (λ u is e. absurd (omega arith)))
                (λ h. let h0 = h.0 in let h1 = h.1 in left.words j h1 (λ e. absurd (omega arith)) (λ u is e. let from = is.0 in let to = is.1 in absurd (omega arith))) is;
            special = left.special;
            regs = left.regs;
            idle = left.idle;
          }

      -- a call's steps, with the jump of its entry and its return
      few_steps : (g : Given) (n : ℕ) → n ≤ 598 → n + 2 ≤ run_steps m longest (units_of g) g.pages
      few_steps g n le = omega arith

      worth : (g : Given) → call_steps (table_layout m) longest g + 2 ≤ run_steps m longest (units_of g) g.pages
      worth g = omega arith

    -- a call by its law: it comes back
    by_registers : (call other : KernelCall) (k : ℕ) (body : List Inst) (steps : ℕ) → k < 10 → k ≡ primitive_number call → routine m k ≡ returning body → other ≡ call → HasWord call → s.cpu.pc ≡ 4 * (2048 + k)
        → InCode m (slice_index s.cpu.regs 31) → steps ≤ 598
        → ((w : World) → Sound w → EnteredOnBlocks w users (contents s) (behind s) → From w body steps (contents s) (behind s) (LeftByCall users (prim m.params.pages other users (console_of (behind s))) (contents s) (behind s)))
        → ComesBack x y longest c call s
    by_registers call other k body steps lt is listed same word pc back le law =
        let r : Routed m sizes code made k (returning body) x s = routed m sizes code made z.tools k (returning body) x s c (omega arith) listed st i pc in
        let w : World = block_world x y (run x s 1) (routine_at m k) (returning body) in
        let f : From w body steps (contents s) (behind s) (LeftByCall users (prim m.params.pages call users (console_of (behind s))) (contents s) (behind s)) =
        subst (λ q. From w body steps (contents s) (behind s) (LeftByCall users (prim m.params.pages q users (console_of (behind s))) (contents s) (behind s))) same (law w r.sound (registers_entered k (returning body) r)) in
        (comes_back m sizes code made z.tools x s c call st i word (λ c'. Unit {0}) longest k body steps lt is back pc (few_steps k (returning body) r (given y c call) steps le) (λ w f. z.returns w f body) r
        (from_on w body steps (contents s) (behind s) (LeftByCall users (prim m.params.pages call users (console_of (behind s))) (contents s) (behind s)) (λ c' d'. Came y (given y c call) (contents s) (behind s) c' d' × Unit {0}) (λ c' d' l. (registers_came k (returning body) r call c' d' l, tt)) f)).0

    -- with what else its law says of the end
    by_memory : (X : Contents → Type 0) (call other : KernelCall) (k : ℕ) (body : List Inst) → k < 10 → k ≡ primitive_number call → routine m k ≡ returning body → other ≡ call → HasWord call → s.cpu.pc ≡ 4 * (2048 + k) → InCode m (slice_index s.cpu.regs 31)
        → ((w : World) → Sound w → CallEntered w (table_layout m) longest m.params.pages users (contents s) (behind s) → From w body (call_steps (table_layout m) longest (prim m.params.pages other users (console_of (behind s)))) (contents s) (behind s)
        (λ c' d'. CallLeft (table_layout m) m.params.pages users (prim m.params.pages other users (console_of (behind s))) (contents s) (behind s) c' d' × X c'))
        → (b : ComesBack x y longest c call s) × X (contents (run x s b.comes.steps))
    by_memory X call other k body lt is listed same word pc back law =
        let r : Routed m sizes code made k (returning body) x s = routed m sizes code made z.tools k (returning body) x s c (omega arith) listed st i pc in
        let w : World = block_world x y (run x s 1) (routine_at m k) (returning body) in
        let g : Given = prim m.params.pages call users (console_of (behind s)) in
        let given_is : g ≡ given y c call = ap (prim m.params.pages call users) console in
        let f : From w body (call_steps (table_layout m) longest g) (contents s) (behind s) (λ c' d'. CallLeft (table_layout m) m.params.pages users g (contents s) (behind s) c' d' × X c') =
        subst (λ q. From w body (call_steps (table_layout m) longest (prim m.params.pages q users (console_of (behind s)))) (contents s) (behind s) (λ c' d'. CallLeft (table_layout m) m.params.pages users (prim m.params.pages q users (console_of (behind s))) (contents s) (behind s) c' d' × X c')) same
        (law w r.sound (memory_entered k (returning body) r)) in
        let enough : call_steps (table_layout m) longest g + 2 ≤ run_steps m longest (units_of (given y c call)) (given y c call).pages =
        subst (λ q. call_steps (table_layout m) longest q + 2 ≤ run_steps m longest (units_of (given y c call)) (given y c call).pages) (sym given_is) (worth k (returning body) r (given y c call)) in
        comes_back m sizes code made z.tools x s c call st i word X longest k body (call_steps (table_layout m) longest g) lt is back pc enough (λ w f. z.returns w f body) r
        (from_on w body (call_steps (table_layout m) longest g) (contents s) (behind s) (λ c' d'. CallLeft (table_layout m) m.params.pages users g (contents s) (behind s) c' d' × X c') (λ c' d'. Came y (given y c call) (contents s) (behind s) c' d' × X c') (λ c' d' l. (memory_came k (returning body) r call c' d' l.0, l.1)) f)

    count : length users ≡ m.users
    count = st.whole.users

    l : Listed m
    l = listed m

    -- a vm_resize comes back, and the pages by which it makes a memory grow name the zero frame
    resizes : (u n : ℤ) → PrimitiveCalled x y c (VmResize u n) s → (b : ComesBack x y longest c (VmResize u n) s) × Grown (table_layout m) m.params.pages users (contents s) (contents (run x s b.comes.steps))
    resizes u n p = by_memory (Grown (table_layout m) m.params.pages users (contents s)) (VmResize u n) (resize_call (contents s)) 3 (vm_resize_code (table_layout m) (length users) m.params.pages) (omega arith) refl (l.resize ∙ ap (λ n. returning (vm_resize_code (table_layout m) n m.params.pages)) (sym count))
        (ap₂ VmResize p.arguments.0 p.arguments.1.0) tt p.at.pc p.back (λ w f e. (z.memory w f (table_layout m) longest m.params.pages users (contents s) (behind s) e).resize)

    -- those pages, by the user's number and the new size
    fresh : (u n : ℤ) (p : PrimitiveCalled x y c (VmResize u n) s) → is_good m.params.pages users (VmResize u n) ≡ true → (t : State) → length t.memory ≡ length s.memory → Grown (table_layout m) m.params.pages users (contents s) (contents t)
        → NameZeros m (nat_abs u) (pages_of (user_of users (nat_abs u))) (nat_abs n) t
    fresh u n p good t size grown =
        let globals = o.globals in let heap = o.heap in let stack = o.stack in let tables = o.tables in let counts = o.counts in let zeros = o.zeros in
        let all = st.memory in
        let number : length users ≡ m.users = st.whole.users in
        let parts = and_parts (is_within 1 (length users) u) (is_within 0 m.params.pages n) good in
        let a = within 1 (length users) u parts.0 in let some = a.0 in let one = a.1 in
        let e = within 0 m.params.pages n parts.1 in let most = e.1 in
        let ru : slice_index s.cpu.regs 20 ≡ nat_abs u = abs_is (slice_index s.cpu.regs 20) u 1 (length users) (regs 20) p.arguments.0 parts.0 in
        let rn : slice_index s.cpu.regs 21 ≡ nat_abs n = abs_is (slice_index s.cpu.regs 21) n 0 m.params.pages (regs 21) p.arguments.1.0 parts.1 in
        let first : Fresh (table_layout m) ((slice_index s.cpu.regs 20 - 1) * m.params.pages + pages_of (user_of users (slice_index s.cpu.regs 20))) (slice_index s.cpu.regs 21 - pages_of (user_of users (slice_index s.cpu.regs 20))) (contents t) =
        grown (ap₂ (λ u n. is_good m.params.pages users (VmResize u n)) p.arguments.0 p.arguments.1.0 ∙ good) in
        let second : Fresh (table_layout m) ((nat_abs u - 1) * m.params.pages + pages_of (user_of users (nat_abs u))) (nat_abs n - pages_of (user_of users (nat_abs u))) (contents t) =
        subst (λ k. Fresh (table_layout m) ((nat_abs u - 1) * m.params.pages + pages_of (user_of users (nat_abs u))) (k - pages_of (user_of users (nat_abs u))) (contents t)) rn
        (subst (λ k. Fresh (table_layout m) ((k - 1) * m.params.pages + pages_of (user_of users k)) (slice_index s.cpu.regs 21 - pages_of (user_of users k)) (contents t)) ru first) in
        λ i from to.
        let inside : (nat_abs u - 1) * m.params.pages + i < m.users * m.params.pages = page_below m.params.pages i (nat_abs u - 1) m.users (omega arith) (omega arith) in
        subst (λ e. MapsTo e (page_layout m).zeros) (word_is t (tables_at m + ((nat_abs u - 1) * m.params.pages + i)) (omega arith)) (second ((nat_abs u - 1) * m.params.pages + i) (omega arith) (omega arith))

    -- a call on memory of which no more is asked
    by_memory_alone : (call other : KernelCall) (k : ℕ) (body : List Inst) → k < 10 → k ≡ primitive_number call → routine m k ≡ returning body → other ≡ call → HasWord call → s.cpu.pc ≡ 4 * (2048 + k) → InCode m (slice_index s.cpu.regs 31)
        → ((w : World) → Sound w → CallEntered w (table_layout m) longest m.params.pages users (contents s) (behind s) → From w body (call_steps (table_layout m) longest (prim m.params.pages other users (console_of (behind s)))) (contents s) (behind s)
        (CallLeft (table_layout m) m.params.pages users (prim m.params.pages other users (console_of (behind s))) (contents s) (behind s)))
        → ComesBack x y longest c call s
    by_memory_alone call other k body lt is listed same word pc back law =
        (by_memory (λ c'. Unit {0}) call other k body lt is listed same word pc back
        (λ w f e. from_on w body (call_steps (table_layout m) longest (prim m.params.pages other users (console_of (behind s)))) (contents s) (behind s) (CallLeft (table_layout m) m.params.pages users (prim m.params.pages other users (console_of (behind s))) (contents s) (behind s))
        (λ c' d'. CallLeft (table_layout m) m.params.pages users (prim m.params.pages other users (console_of (behind s))) (contents s) (behind s) c' d' × Unit {0}) (λ c' d' l. (l, tt)) (law w f e))).0

    -- each call
    answers : (call : KernelCall) → PrimitiveCalled x y c call s → ComesBack x y longest c call s
    answers (VmGet u q) p = by_registers (VmGet u q) (get_call (contents s)) 0 (vm_get_code (length users)) 14 (omega arith) refl (l.get ∙ ap (λ n. returning (vm_get_code n)) (sym count)) (ap₂ VmGet p.arguments.0 p.arguments.1.0) tt p.at.pc p.back (omega arith)
        (λ w f e. (z.registers w f m.params.pages users (contents s) (behind s) e).get)
    answers (VmSet u q v) p = by_registers (VmSet u q v) (set_call (contents s)) 1 (vm_set_code (length users)) 15 (omega arith) refl (l.set ∙ ap (λ n. returning (vm_set_code n)) (sym count))
        (set_is _ _ _ u q v p.arguments.0 p.arguments.1.0 p.arguments.1.1.0) (as_word v (slice_index s.cpu.regs 22) (regs 22) p.arguments.1.1.0) p.at.pc p.back (omega arith)
        (λ w f e. (z.registers w f m.params.pages users (contents s) (behind s) e).set)
    answers (VmSize u) p = by_registers (VmSize u) (size_call (contents s)) 2 (vm_size_code (length users)) 8 (omega arith) refl (l.size ∙ ap (λ n. returning (vm_size_code n)) (sym count)) (ap VmSize p.arguments.0) tt p.at.pc p.back (omega arith)
        (λ w f e. (z.registers w f m.params.pages users (contents s) (behind s) e).size)
    answers (VmResize u n) p = (resizes u n p).0
    answers (VmWord u a) p = by_memory_alone (VmWord u a) (word_call (contents s)) 4 (vm_word_code (table_layout m) (length users) m.params.pages (handle_page_code (table_layout m))) (omega arith) refl
        (l.word ∙ ap (λ n. returning (vm_word_code (table_layout m) n m.params.pages (handle_page_code (table_layout m)))) (sym count))
        (ap₂ VmWord p.arguments.0 p.arguments.1.0) tt p.at.pc p.back (λ w f e. (z.memory w f (table_layout m) longest m.params.pages users (contents s) (behind s) e).word)
    answers (VmPut u a v) p = by_memory_alone (VmPut u a v) (store_call (contents s)) 5 (vm_put_code (table_layout m) (length users) m.params.pages (handle_page_code (table_layout m))) (omega arith) refl
        (l.put ∙ ap (λ n. returning (vm_put_code (table_layout m) n m.params.pages (handle_page_code (table_layout m)))) (sym count))
        (put_is _ _ _ u a v p.arguments.0 p.arguments.1.0 p.arguments.1.1.0) (as_word v (slice_index s.cpu.regs 22) (regs 22) p.arguments.1.1.0) p.at.pc p.back
        (λ w f e. (z.memory w f (table_layout m) longest m.params.pages users (contents s) (behind s) e).put)
    answers (VmCopy u a v b n) p = by_memory_alone (VmCopy u a v b n) (copy_call (contents s)) 6 (vm_copy_code (table_layout m) (length users) m.params.pages (handle_page_code (table_layout m))) (omega arith) refl
        (l.copy ∙ ap (λ n. returning (vm_copy_code (table_layout m) n m.params.pages (handle_page_code (table_layout m)))) (sym count))
        (copy_is _ _ _ _ _ u a v b n p.arguments.0 p.arguments.1.0 p.arguments.1.1.0 p.arguments.1.1.1.0 p.arguments.1.1.1.1.0) tt p.at.pc p.back
        (λ w f e. (z.memory w f (table_layout m) longest m.params.pages users (contents s) (behind s) e).copy)
    answers (ConPut v) p = by_registers (ConPut v) (console_put_call (contents s)) 7 con_put_code 3 (omega arith) refl l.con_put (ap ConPut p.arguments.0) tt p.at.pc p.back (omega arith)
        (λ w f e. (z.registers w f m.params.pages users (contents s) (behind s) e).put)
    answers ConGet p = by_registers ConGet ConGet 8 con_get_code 1 (omega arith) refl l.con_get refl tt p.at.pc p.back (omega arith) (λ w f e. (z.registers w f m.params.pages users (contents s) (behind s) e).take)
    answers ConLeft p = by_registers ConLeft ConLeft 9 con_left_code 1 (omega arith) refl l.con_left refl tt p.at.pc p.back (omega arith) (λ w f e. (z.registers w f m.params.pages users (contents s) (behind s) e).left)

  pub primitives : Routines → PrimitivesAnswer y
  primitives z x longest s c call busy p = answers z x longest s c busy p.at.stands p.at.inside call p

  -- and growth is by the zero frame
  pub grows : Routines → GrowthIsFresh y
  grows z x longest s c u n busy p good =
      let b = resizes z x longest s c busy p.at.stands p.at.inside u n p in
      let size = (b.0.comes.way.frames b.0.comes.steps (omega arith)).size in
      (b.0, fresh z x longest s c busy p.at.stands p.at.inside u n p good (run x s b.0.comes.steps) size b.1)
