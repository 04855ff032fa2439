-- The way into the kernel from a user: the handler keeps the user in its control block, and comes to `dispatch`.
use Rattle.std.proofs.Common.{◌≡◌, ◌≢◌, ℕ, ◌+◌, ◌-◌, ◌*◌, ◌<◌, ◌≤◌, ◌&&◌, Bool, true, false, Option, not, Some, None, List, length, slice_index, refl, sym, ap, ap₂, ◌∙◌, subst, ⊎_elim, inl, inr, true≢false, arith, lt-ltb, ne_eqb, length-set}
use Rattle.std.specs.Prelude.{is_some}
use Rattle.std.proofs.lemmas.Bool.{cases_eq, cases_lt}
use Rattle.std.proofs.lemmas.Bool.Decides.{nat_tests}
use Rattle.std.proofs.lemmas.List.Elements.{All-get_or, All-set}
use Rattle.mips_table.specs.declared.cause.Cause.{Cause}
use Rattle.mips_table.specs.declared.cause.Cause.TheVariants as causes
use Rattle.mips_table.specs.Arith.{signed}
use Rattle.mips_table.specs.Processor.{Cpu}
use Rattle.mips_table.specs.Flat.{Flat}
use Rattle.mips_table.specs.Device.{Device, Environment}
use Rattle.mips_table.specs.declared.special.TheConstants.{ECA, EPC, EDATA, PTL}
use Rattle.mips_table.specs.Machine.{cause_number, State, Interrupt, latched, coming, step, run}
use Rattle.mips_table.specs.Turns.{is_on, in_user, is_handled, handled}
use Rattle.mips_table.specs.Fits.{IsWord}
use Rattle.mips_table.specs.Code.{Behind, World, Sound, CodeState, at_with, Reaches}
use Rattle.mips_table.specs.Simulation.{configuration_of, behind_of}
use Rattle.mips_table.specs.Borders.{InterruptsAreTaken}
use Rattle.layer_map.specs.Map.{Map, current_at, block_at, memory_words}
use Rattle.page_model.specs.Paging.{PagingInvariant}
use Rattle.page_model.specs.TableLayout.{page_layout, table_layout, paged_view}
use Rattle.page_fault.specs.Code.{handle_page_code}
use Rattle.page_model.specs.Laws.{AlikesStand}
use Rattle.pcb_layer.specs.Laws.{MaySave, MayKeep, IsCurrent, IsBeside}
use Rattle.pcb_layer.specs.Code.{saved_at}
use Rattle.cvm_model.specs.Kernel.{Core}
use Rattle.cvm_model.specs.Primitives.{user_of, with_user, pages_of}
use Rattle.cvm_model.specs.Cvm.{Running}
use Rattle.cvm_model.specs.Paged.{pages_by}
use Rattle.cvm_model.specs.Stands.{Site, IsUser, UserFits, RunsUser, RunningRelation, is_own, runs_user}
use Rattle.layer_contract.specs.Layer.{InUserMode, Enters, with_epc}
use Rattle.layer_contract.specs.Users.{UserStepPremises, IsTakenAt, UsersAreInterrupted}
use Rattle.trap_entry.specs.Laws.{IsHandled, IsUnsaved, UserEntered, EntersKernel}
use Rattle.real_layer.specs.Image.{image_site, IsMade}
use Rattle.real_layer.specs.Runs.{Calm, kept_words, block_world}
use Rattle.real_layer.proofs.StandsByFunctions.{Order, order_of, words_of, behind, word_is, user_fits, pages_agree, stood, layer_inside}
use Rattle.real_layer.proofs.BlocksRun.{sound}
use Rattle.real_layer.proofs.PartsPlaced.{linked_length}
use Rattle.real_layer.proofs.EntryToEntry.{way}
use Rattle.real_layer.proofs.RunsBetweenEntries.{Below, Arrives, contents, arrives, stands_at}
use Rattle.real_layer.proofs.RoutinesAndExits.{Tools, not_user}
use Rattle.real_layer.proofs.AfterDispatch.{free_own, signed_pos}
use Rattle.real_layer.proofs.FromReset.{handler, handler_placed, handler_end, page_length, free_variable, at_dispatch}
use Rattle.real_layer.proofs.HandlerBegins.{BlockHolds, blocks_from, block_from, block_agrees, this_user, other_user, same_words, pages_same, Began, began}

left_true : (a b : Bool) → (a && b) ≡ true → a ≡ true
left_true true b e = refl
left_true false b e = e

right_true : (a b : Bool) → (a && b) ≡ true → b ≡ true
right_true true b e = e
right_true false b e = absurd (cc)

pub is_on_none : (s : State) → is_on s ≡ true → s.off ≡ None
is_on_none s e = by s.off e
  where
    by : (o : Option ℕ) → not (is_some o) ≡ true → o ≡ None
    by None e = refl
    by (Some w) e = absurd (cc)

pub user_on : (s : State) → runs_user s ≡ true → is_on s ≡ true
user_on s e = left_true _ _ e

pub user_mode : (s : State) → runs_user s ≡ true → in_user s ≡ true
user_mode s e = right_true _ _ e

pub number_small : (cause : Cause) → cause_number cause < 9
number_small causes.Reset = omega arith
number_small causes.External = omega arith
number_small causes.FetchAlign = omega arith
number_small causes.FetchFault = omega arith
number_small causes.Illegal = omega arith
number_small causes.Overflow = omega arith
number_small causes.Syscall = omega arith
number_small causes.DataAlign = omega arith
number_small causes.DataFault = omega arith

-- an interrupt that is a handled fault, and one that isn't
pub is_handled_by : (s before : State) (cause : Cause) (edata epc : ℕ) → IsHandled (cause_number cause) edata (slice_index s.special PTL) → is_handled s (Interrupt before cause edata epc) ≡ true
is_handled_by s before causes.FetchFault edata epc h = lt-ltb _ _ h.1
is_handled_by s before causes.DataFault edata epc h = lt-ltb _ _ h.1
is_handled_by s before causes.Reset edata epc h = absurd (⊎_elim (λ e. absurd (cc)) (λ e. absurd (cc)) h.0)
is_handled_by s before causes.External edata epc h = absurd (⊎_elim (λ e. absurd (omega arith)) (λ e. absurd (omega arith)) h.0)
is_handled_by s before causes.FetchAlign edata epc h = absurd (⊎_elim (λ e. absurd (omega arith)) (λ e. absurd (omega arith)) h.0)
is_handled_by s before causes.Illegal edata epc h = absurd (⊎_elim (λ e. absurd (omega arith)) (λ e. absurd (omega arith)) h.0)
is_handled_by s before causes.Overflow edata epc h = absurd (⊎_elim (λ e. absurd (omega arith)) (λ e. absurd (omega arith)) h.0)
is_handled_by s before causes.Syscall edata epc h = absurd (⊎_elim (λ e. absurd (omega arith)) (λ e. absurd (omega arith)) h.0)
is_handled_by s before causes.DataAlign edata epc h = absurd (⊎_elim (λ e. absurd (omega arith)) (λ e. absurd (omega arith)) h.0)

pub not_handled : (x : Environment) (s before : State) (cause : Cause) (edata epc : ℕ) → runs_user s ≡ true → coming x (latched x s) ≡ Interrupt before cause edata epc → handled x s ≡ false → IsHandled (cause_number cause) edata (slice_index s.special PTL) → ⊥
unfolding handled
not_handled x s before cause edata epc user e calm h =
    true≢false (sym (ap₂ (λ a b. a && b) (user_on s user) (ap₂ (λ a b. a && b) (user_mode s user) (ap (is_handled s) e ∙ is_handled_by s before cause edata epc h))) ∙ calm)

module _ (m : Map) (sizes code : List ℕ) (made : IsMade m sizes code) where
  abbrev y : Site
  y = image_site m sizes code

  -- what the laws of users ask
  pub premises : (x : Environment) (s : State) (c : Core) → InUserMode x y c s → UserStepPremises x y s c
  premises x s c b =
      let o : Order m = order_of m made.range in
      let globals = o.globals in let heap = o.heap in let stack = o.stack in let tables = o.tables in let counts = o.counts in let zeros = o.zeros in
      record { range = made.range; linked = omega (arith, linked_length m sizes code made); back = b }

  -- the (handler m sizes code made)s first state is calm
  pub begins_calm : (x : Environment) (s t : State) (c : Core) (cause edata epc : ℕ) → RunningRelation x y s Running c → Began x s t cause edata epc → Calm x y t
  begins_calm x s t c cause edata epc st b =
      let o : Order m = order_of m made.range in
      let globals = o.globals in let heap = o.heap in let stack = o.stack in let tables = o.tables in let counts = o.counts in let zeros = o.zeros in
      let long = st.memory in
      let small = st.small in
      let size : length t.memory ≡ length s.memory = ap length b.memory in
      record {
        quiet = b.quiet;
        long = omega (arith, linked_length m sizes code made);
        small = omega arith;
        stays = λ k lt own. ap (λ w. slice_index w k) b.memory ∙ st.kernel.linked k lt own;
        idle = ap (λ (d : Device). d.pending) b.device ∙ st.idle;
        sectors = st.sectors;
      }

  -- a word of a user's control block isn't kept
  pub free_block : (memory : List ℕ) (u k : ℕ) → 1 ≤ u → u ≤ m.users → k < 64 → kept_words y memory (block_at u + k) ≡ None
  free_block memory u k from to lt = free_own y memory (block_at u + k) (let l = layer_inside m (order_of m made.range) in let few : m.users ≤ 64 = made.range.users in omega arith) own
    where
      own : is_own m (block_at u + k) ≡ true
      own = grind (arith, nat_tests)

  -- the user's machine with its pc at epc, and the core with it
  abbrev kept_flat : Core → ℕ → Flat
  kept_flat c epc = record (user_of c.users c.current) { cpu = record (user_of c.users c.current).cpu { pc = epc } }

  module _ (x : Environment) (s t t2 : State) (c : Core) (cause edata epc : ℕ) (st : RunningRelation x y s Running c) (runs : RunsUser m s c) (user : runs_user s ≡ true) (b : Began x s t cause edata epc)
      (e : UserEntered c.current (contents t) (behind t) (contents t2) (behind t2)) (long : memory_words m ≤ length s.memory) where
    -- the words in which the two states agree
    same_word : (k : ℕ) → IsBeside c.current k → IsUnsaved k → k < length s.memory → words_of t2 k ≡ slice_index s.memory k
    same_word k beside un lt = e.others k beside un ∙ word_is t k (omega (arith, ap length b.memory)) ∙ ap (λ w. slice_index w k) b.memory

    in_block : (u : ℕ) → IsUser c u → BlockHolds u (user_of (with_epc c epc).users u) (words_of t2)
    in_block u is = ⊎_elim here there (cases_eq u c.current)
      where
        o : Order m
        o = order_of m made.range

        none : (b : Bool) → (b && false) ≡ false
        none true = refl
        none false = refl

        users : length c.users ≡ m.users
        users = st.whole.users

        few : m.users ≤ 64
        few = made.range.users

        size : (v : ℕ) → IsUser c v → words_of t2 (block_at v + 32) ≡ pages_of (user_of c.users v)
        size v iv =
            let from = iv.0 in let to = iv.1 in let some : 1 ≤ c.current = runs.user.0 in let one : c.current ≤ length c.users = runs.user.1 in
            let globals = o.globals in let heap = o.heap in let stack = o.stack in let tables = o.tables in let counts = o.counts in let zeros = o.zeros in
            same_word (block_at v + 32) (⊎_elim (λ low. inl (omega arith)) (λ le. ⊎_elim (λ high. inr (inl (omega arith))) (λ ge. let z : v ≡ c.current = omega arith in inr (inr (ap (λ w. block_at w + 32) z))) (cases_lt c.current v)) (cases_lt v c.current)) (inr (omega arith)) (omega arith)
            ∙ st.users.sizes v iv

        here : u ≡ c.current → BlockHolds u (user_of (with_epc c epc).users u) (words_of t2)
        here z =
            let some : 1 ≤ c.current = runs.user.0 in let one : c.current ≤ length c.users = runs.user.1 in
            subst (λ u. BlockHolds u (user_of (with_epc c epc).users u) (words_of t2)) (sym z)
            (subst (λ f. BlockHolds c.current f (words_of t2)) (sym (this_user c.users c.current (kept_flat c epc) some one))
            (record {
              pc = e.pc ∙ ap (λ sp. slice_index sp EPC) b.special;
              regs = λ r from to. e.registers r (from, to) ∙ ap (λ (p : Cpu). slice_index p.regs r) (b.cpu) ∙ ap (λ (p : Cpu). slice_index p.regs r) runs.cpu;
              size = size c.current runs.user;
              hi = e.high ∙ ap (λ (p : Cpu). p.hi) b.cpu ∙ ap (λ (p : Cpu). p.hi) runs.cpu;
              lo = e.low ∙ ap (λ (p : Cpu). p.lo) b.cpu ∙ ap (λ (p : Cpu). p.lo) runs.cpu;
            }))

        there : u ≢ c.current → BlockHolds u (user_of (with_epc c epc).users u) (words_of t2)
        there ne =
            let from = is.0 in let to = is.1 in let some : 1 ≤ c.current = runs.user.0 in let one : c.current ≤ length c.users = runs.user.1 in
            let globals = o.globals in let heap = o.heap in let stack = o.stack in let tables = o.tables in let counts = o.counts in let zeros = o.zeros in
            subst (λ f. BlockHolds u f (words_of t2)) (sym (other_user c.users u c.current (kept_flat c epc) from some ne))
            (block_agrees u (user_of c.users u) (slice_index s.memory) (words_of t2)
            (λ k low top. same_word k (⊎_elim (λ less. inl (omega arith)) (λ le. inr (inl (omega arith))) (cases_lt u c.current)) (inr (omega arith)) (omega arith))
            (block_from s.memory u (user_of c.users u) (st.users.sizes u is) (st.users.blocks u is (ap (λ b. runs_user s && b) (ne_eqb u c.current ne) ∙ none (runs_user s)))))

    kept_stands : AlikesStand → Calm x y t2 → length t2.memory ≡ length s.memory → IsWord epc → RunningRelation x y t2 Running (with_epc c epc)
    kept_stands alikes k size word =
        let f : Flat = kept_flat c epc in
        let o : Order m = order_of m made.range in
        let globals = o.globals in let heap = o.heap in let stack = o.stack in let tables = o.tables in let counts = o.counts in let zeros = o.zeros in
        let users : length c.users ≡ m.users = st.whole.users in
        let few : m.users ≤ 64 = made.range.users in
        let some : 1 ≤ c.current = runs.user.0 in let one : c.current ≤ length c.users = runs.user.1 in
        let count : length (with_user c.users c.current f) ≡ length c.users = length-set c.users (c.current - 1) f in
        let own : UserFits m.params.pages (user_of c.users c.current) = user_fits m c c.current st.whole runs.user in
        let fits : UserFits m.params.pages f = record { cpu = record { pc = word; regs = own.cpu.regs; hi = own.cpu.hi; lo = own.cpu.lo }; pages = own.pages; whole = own.whole; words = own.words } in
        let memory : (j : ℕ) → j < length s.memory → words_of t2 j ≡ slice_index t2.memory j = λ j lt. word_is t2 j (omega arith) in
        let low : (j : ℕ) → j < 1031 → words_of t2 j ≡ slice_index s.memory j = λ j lt. same_word j (inl (omega arith)) (inl (omega arith)) (omega arith) in
        let high : (j : ℕ) → 16384 ≤ j → j < length s.memory → words_of t2 j ≡ slice_index s.memory j = λ j ge lt. same_word j (inr (inl (omega arith))) (inr (omega arith)) lt in
        let sectors : behind t2 ≡ behind s = e.behind ∙ ap (λ (d : Device). behind_of d t.log t.input) b.device ∙ ap₂ (behind_of s.device) b.log b.input in
        stood alikes x y s t2 Running Running c (with_epc c epc) made.range st
        (record {
          fits = k.quiet.fits;
          no_reset = k.quiet.no_reset;
          size = size;
          kernel = λ j is. ⊎_elim
              (λ h. let h0 = h.0 in let h1 = h.1 in sym (memory j (omega arith)) ∙ low j (omega arith))
              (λ h. let h0 = h.0 in let h1 = h.1 in sym (memory j (omega arith)) ∙ high j h0 (omega arith)) is;
          linked = k.stays;
        })
        (record { users = count ∙ users; each = All-set (UserFits m.params.pages) c.users (c.current - 1) f fits st.whole.each; globals = st.whole.globals; heap = st.whole.heap; used = st.whole.used; frames = st.whole.frames; current = st.whole.current; log = st.whole.log; input = st.whole.input })
        refl
        (record {
          blocks = blocks_from (with_user c.users c.current f) (words_of t2) (λ u is. let from = is.0 in let to = is.1 in in_block u (from, omega arith));
          pages = subst (λ (d : Behind). PagingInvariant (page_layout m) (pages_by m.params.pages (with_user c.users c.current f)) (paged_view (table_layout m) (words_of t2) d.sectors)) (sym sectors)
              (pages_same (page_layout m) m.params.pages (paged_view (table_layout m) (words_of t2) (behind s).sectors) c.users (with_user c.users c.current f) (same_words c.users c.current f some one refl)
              (pages_agree alikes m (pages_by m.params.pages c.users) (slice_index s.memory) (words_of t2) (behind s).sectors o
              (λ j why lt. ⊎_elim (λ z. low j (omega arith)) (λ h. high j (omega arith) (omega arith)) why) st.pages));
          log = ap (λ (d : Behind). d.log) sectors ∙ st.log;
          input = ap (λ (d : Behind). d.input) sectors ∙ st.input;
          idle = ap (λ (d : Behind). d.pending) sectors ∙ st.idle;
        })
        (λ run. sym (memory current_at (omega arith)) ∙ low current_at (omega arith) ∙ st.users.current refl)
        (λ run. absurd (true≢false (sym run ∙ not_user t2 (record { on = k.quiet.on; mode = k.quiet.mode; sr = k.quiet.sr; no_reset = k.quiet.no_reset }))))

  pub keeps : Tools → InterruptsAreTaken → UsersAreInterrupted → ((w : World) → Sound w → EntersKernel w) → Enters y
  keeps z takes interrupts law x s before c cause edata epc back comes calm =
      let b : Below = z.below in
      let st : RunningRelation x y s Running c = back.stands in
      let p : UserStepPremises x y s c = premises x s c back in
      let runs : RunsUser m s c = st.users.runs back.user in
      let on : s.off ≡ None = is_on_none s (user_on s back.user) in
      let g : Began x s (step x s) (cause_number cause) edata epc = began takes interrupts x y s before c cause edata epc on p comes in
      let h : IsTakenAt x s before cause = interrupts x y s c before cause edata epc p comes in
      let t : State = step x s in
      let k : Calm x y t = begins_calm x s t c (cause_number cause) edata epc st g in
      let w : World = block_world x y t 0 (handler m sizes code made) in
      let f : Sound w = sound b.stands x y t 0 (handler m sizes code made) (handler_placed m sizes code made) k in
      let o : Order m = order_of m made.range in
      let globals = o.globals in let heap = o.heap in let stack = o.stack in let tables = o.tables in let counts = o.counts in let zeros = o.zeros in
      let long : memory_words m ≤ length s.memory = st.memory in
      let size : length t.memory ≡ length s.memory = ap length g.memory in
      let users : length c.users ≡ m.users = st.whole.users in
      let few : m.users ≤ 64 = made.range.users in
      let some : 1 ≤ c.current = runs.user.0 in let one : c.current ≤ length c.users = runs.user.1 in
      let pc : t.cpu.pc ≡ 4 * 0 = ap (λ (p : Cpu). p.pc) g.cpu in
      let free : MaySave w = λ q is. let low = is.0 in let top = is.1 in free_variable m sizes code made t.memory (saved_at q) (omega arith) (omega arith) in
      let keep : MayKeep w c.current = record { system = refl; free = λ q lt. free_block t.memory c.current q some (omega arith) (omega arith) } in
      let current : IsCurrent w c.current (contents t) = record { some = some; most = omega arith; current = word_is t current_at (omega arith) ∙ ap (λ w. slice_index w current_at) g.memory ∙ st.users.current refl; inside = omega arith } in
      let eca : slice_index t.special ECA ≡ cause_number cause = ap (λ sp. slice_index sp ECA) g.special in
      let edata' : slice_index t.special EDATA ≡ edata = ap (λ sp. slice_index sp EDATA) g.special in
      let ptl : slice_index t.special PTL ≡ slice_index s.special PTL = ap (λ sp. slice_index sp PTL) g.special in
      let small : cause_number cause < 9 = number_small cause in
      let nine : length t.special ≡ 9 = g.quiet.fits.special.size in
      let word : IsWord epc = subst IsWord (ap (λ sp. slice_index sp EPC) g.special) (All-get_or IsWord t.special EPC 0 (omega arith) g.quiet.fits.special.each) in
      let unhandled : IsHandled (slice_index t.special ECA) (slice_index t.special EDATA) (slice_index t.special PTL) → ⊥ = λ is.
      not_handled x s before cause edata epc back.user comes calm (subst (λ a. IsHandled a edata (slice_index s.special PTL)) eca (subst (λ d. IsHandled (slice_index t.special ECA) d (slice_index s.special PTL)) edata' (subst (IsHandled (slice_index t.special ECA) (slice_index t.special EDATA)) ptl is))) in
      let r = law w f (table_layout m) (handle_page_code (table_layout m)) c.current 0 (contents t) (behind t) (page_length (table_layout m)) free keep current ((b.stands 0 (handler m sizes code made)).stands w) (omega arith) (λ e. h.later (sym eca ∙ e)) unhandled k.idle in
      let u : CodeState = at_with 0x4000 r.0 r.1 in
      let reaches : Reaches w 124 (configuration_of t) u = subst (λ v. Reaches w 124 v u) (sym (stands_at t 0 pc)) r.3 in
      let a : Arrives x y 124 t u = arrives b.blocks x y t u 0 (handler m sizes code made) 124 (handler_placed m sizes code made) (inl (omega (arith, handler_end m sizes code made))) k (ap (λ (d : Behind). d.pending) r.2.behind ∙ k.idle) reaches in
      let t2 : State = run x t a.steps in
      let within = a.within in
      let e : UserEntered c.current (contents t) (behind t) (contents t2) (behind t2) = subst (λ (v : CodeState). UserEntered c.current (contents t) (behind t) v.contents v.behind) (sym a.there) r.2 in
      record {
        steps = a.steps;
        within = omega arith;
        way = way b.sum x y a.steps t a.between;
        there = record {
          at = at_dispatch m sizes code made x t2 (with_epc c epc) a.calm (ap (λ (v : CodeState). v.at) a.there)
              (kept_stands x s t t2 c (cause_number cause) edata epc st runs back.user g e long z.alikes a.calm (a.size ∙ size) word);
          arguments = (ap signed (e.cause ∙ eca) ∙ signed_pos (cause_number cause) (omega arith), (ap signed (e.edata ∙ edata'), (ap signed e.user ∙ signed_pos c.current (omega arith), tt)));
        };
      }
