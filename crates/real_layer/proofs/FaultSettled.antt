-- A handled fault goes back to the user at the same instruction, with the page brought in; and one step meets at most two.
use Rattle.std.proofs.Common.{◌≡◌, ◌≢◌, ℕ, zero, suc, ◌+◌, ◌-◌, ◌*◌, ◌/◌, ◌%◌, ◌<◌, ◌≤◌, ◌⊎◌, ◌&&◌, Bool, true, false, None, nat_lt, List, ◌∷◌, length, take, drop, slice_index, refl, sym, ap, ap₂, ◌∙◌, subst, ⊎_elim, inl, inr, arith, lt-ltb, eqb-true}
use Rattle.std.specs.Prelude.{◌==◌}
use Rattle.std.proofs.lemmas.List.{ext_get_or, get_or-take, get_or-drop, length-take-le, length-drop}
use Rattle.std.proofs.lemmas.List.Elements.{All-get_or}
use Rattle.mips_table.specs.declared.inst.Inst.{Inst}
use Rattle.mips_table.specs.declared.inst.Inst.TheVariants.{Eret}
use Rattle.mips_table.specs.declared.cause.Cause.{Cause}
use Rattle.mips_table.specs.declared.cause.Cause.TheVariants as causes
use Rattle.mips_table.specs.Decoding.{decoding}
use Rattle.mips_table.specs.Processor.{Cpu}
use Rattle.mips_table.specs.Device.{Device, Environment}
use Rattle.mips_table.specs.declared.special.TheConstants.{SR, ESR, ECA, EPC, EDATA, PTO, PTL, MODE, EMODE}
use Rattle.mips_table.specs.Machine.{cause_number, State, Interrupt, latched, coming, left, located, read_at, step, run}
use Rattle.mips_table.specs.Turns.{handled}
use Rattle.mips_table.specs.Fits.{IsWord}
use Rattle.mips_table.specs.Code.{Behind, World, Sound, CodeState, at_with, CodeAt, Reaches}
use Rattle.mips_table.specs.Simulation.{configuration_of, behind_of}
use Rattle.mips_table.specs.Borders.{InterruptsAreTaken, EretLeaves}
use Rattle.masm.specs.Standing.{only_block_at}
use Rattle.layer_map.specs.Map.{Map, current_at, hand_at, block_at, tables_at, frame_table_at, memory_words}
use Rattle.page_model.specs.Paging.{IsUserFrame, PagingInvariant, IsAccessible}
use Rattle.page_model.specs.Faults.{Handled, Brought as BroughtIn, UserStep, AtMost}
use Rattle.page_model.specs.TableLayout.{TableLayout, count_at, page_layout, table_layout, paged_view}
use Rattle.page_model.specs.Edits.{Alike}
use Rattle.page_model.specs.Laws.{HandledPass, TwoFaultsSuffice}
use Rattle.frame_table.specs.View.{Sited, Ported, names_hand}
use Rattle.page_fault.specs.Code.{handle_page_code}
use Rattle.page_fault.specs.Asked.{swap_steps, fault_steps, PageBlock, IsPageBlock, MapsAreSited}
use Rattle.pcb_layer.specs.Code.{saved_at}
use Rattle.pcb_layer.specs.Laws.{MaySave}
use Rattle.cvm_model.specs.Kernel.{Core}
use Rattle.cvm_model.specs.Primitives.{user_of, pages_of}
use Rattle.cvm_model.specs.Cvm.{Running, page_steps}
use Rattle.cvm_model.specs.Paged.{paged_of, pages_by}
use Rattle.cvm_model.specs.Stands.{Site, UserFits, RunsUser, RunningRelation, block_cpu, runs_user}
use Rattle.layer_contract.specs.Layer.{InUserMode, PageBrought, BusyWithin, ComesBy, IsEntry, Way, page_at, is_store, Settles, FaultsSettle}
use Rattle.layer_contract.specs.Users.{UsersAreInterrupted, step_pages, AsksPage, FaultsAsk}
use Rattle.trap_entry.specs.Code.{handler_code}
use Rattle.trap_entry.specs.Laws.{RunComesTo, IsHandled, IsUnsaved, FaultAsked, FaultDone, fault_eret_at, HandlesFaults}
use Rattle.real_layer.specs.Image.{image_site, IsMade}
use Rattle.real_layer.specs.Laws.{names_at, handled_steps, FaultsCost}
use Rattle.real_layer.specs.Runs.{Calm, block_world}
use Rattle.real_layer.proofs.StandsByFunctions.{Order, order_of, words_of, behind, word_is, cpu_is, user_fits, words_alike, pages_agree, stood_with}
use Rattle.real_layer.proofs.BlocksRun.{sound}
use Rattle.real_layer.proofs.PartsPlaced.{linked_length}
use Rattle.real_layer.proofs.EntryToEntry.{joins, way}
use Rattle.real_layer.proofs.RunsBetweenEntries.{Below, Arrives, contents, arrives, stands_at}
use Rattle.real_layer.proofs.EndingSteps.{Left, single, Gone, goes, left_words, left_behind}
use Rattle.real_layer.proofs.RoutinesAndExits.{Tools}
use Rattle.real_layer.proofs.AfterDispatch.{left_other, left_sr, left_mode, cpu_by}
use Rattle.real_layer.proofs.FromReset.{handler, handler_placed, handler_end, free_variable}
use Rattle.real_layer.proofs.HandlerBegins.{Began, began}
use Rattle.real_layer.proofs.UsersFit.{page_below}
use Rattle.real_layer.proofs.FromUser.{premises, begins_calm, is_on_none, user_on, user_mode}
use Rattle.real_layer.proofs.PrimitiveCalls.{free_past, free_port, own_hand, word_read}

-- what the proof of settling takes from the crates below
pub record Handlers : Type 0 where
  pub tools : Tools
  pub erets : EretLeaves
  pub takes : InterruptsAreTaken
  pub interrupts : UsersAreInterrupted
  pub ask : FaultsAsk
  pub sited : MapsAreSited
  pub blocks : (w : World) → Sound w → IsPageBlock w
  pub faults : (w : World) → Sound w → HandlesFaults w
  pub pass : HandledPass
  pub two : TwoFaultsSuffice

-- a page in a user's own terms
page_part : (per p u : ℕ) → p < per → ((u * per + p) / per ≡ u) × ((u * per + p) % per ≡ p)
page_part per p u lt = (grind arith, grind arith)

-- a control block in lists that agree on it
block_same : (old new : List ℕ) (u : ℕ) → length new ≡ length old → block_at u + 35 ≤ length old → ((k : ℕ) → block_at u ≤ k → k ≤ block_at u + 34 → slice_index new k ≡ slice_index old k) → block_cpu new u ≡ block_cpu old u
block_same old new u size long same =
    let regs : take 31 (drop (block_at u + 1) new) ≡ take 31 (drop (block_at u + 1) old) =
    ext_get_or 0 (take 31 (drop (block_at u + 1) new)) (take 31 (drop (block_at u + 1) old))
    (length-take-le 31 (drop (block_at u + 1) new) (omega (arith, length-drop (block_at u + 1) new)) ∙ sym (length-take-le 31 (drop (block_at u + 1) old) (omega (arith, length-drop (block_at u + 1) old))))
    (λ i lt. let less : i < 31 = omega (arith, length-take-le 31 (drop (block_at u + 1) new) (omega (arith, length-drop (block_at u + 1) new))) in
    get_or-take 31 (drop (block_at u + 1) new) i 0 less ∙ get_or-drop (block_at u + 1) new i 0 ∙ same (block_at u + 1 + i) (omega arith) (omega arith)
    ∙ sym (get_or-take 31 (drop (block_at u + 1) old) i 0 less ∙ get_or-drop (block_at u + 1) old i 0)) in
    cpu_is (block_cpu new u) (block_cpu old u) (same (block_at u) (omega arith) (omega arith)) (ap (λ rs. 0 ∷ rs) regs) (same (block_at u + 33) (omega arith) (omega arith)) (same (block_at u + 34) (omega arith) (omega arith))

module _ (m : Map) (sizes code : List ℕ) (made : IsMade m sizes code) where
  abbrev y : Site
  y = image_site m sizes code

  -- the state behind the eret
  module _ (z : Handlers) (x : Environment) (s t0 s2 t : State) (c : Core) (cause edata q : ℕ) (back : InUserMode x y c s) (g : Began x s t0 cause edata s.cpu.pc) (k : Calm x y s2) (size : length s2.memory ≡ length s.memory)
      (e : FaultDone (table_layout m) (pages_by m.params.pages c.users) q (contents t0) (behind t0) (contents s2) (behind s2)) (off : t.off ≡ s2.off) (special : t.special ≡ left s2.special)
      (cpu : t.cpu ≡ record s2.cpu { pc = slice_index s2.special EPC }) (l : Left x s2 t) where
    st : RunningRelation x y s Running c
    st = back.stands

    runs : RunsUser m s c
    runs = st.users.runs back.user

    o : Order m
    o = order_of m made.range

    words : words_of t ≡ words_of s2
    words = left_words x s2 t l

    -- a word below the page tables
    low : (j : ℕ) → j < tables_at m → j ≢ hand_at → IsUnsaved j → slice_index t.memory j ≡ slice_index s.memory j
    low j lt ne un =
        let globals = o.globals in let heap = o.heap in let stack = o.stack in let tables = o.tables in let counts = o.counts in let zeros = o.zeros in
        let long = st.memory in
        let same : length t0.memory ≡ length s.memory = ap length g.memory in
        let all : length t.memory ≡ length s.memory = ap length l.memory ∙ size in
        sym (word_is t j (omega arith)) ∙ ap (λ f. f j) words ∙ e.low j lt ne un ∙ word_is t0 j (omega arith) ∙ ap (λ w. slice_index w j) g.memory

    console_log : (behind t).log ≡ c.console.log
    console_log = ap (λ (d : Behind). d.log) (left_behind x s2 t l) ∙ e.besides.log ∙ g.log ∙ st.log

    console_input : (behind t).input ≡ c.console.input
    console_input = ap (λ (d : Behind). d.input) (left_behind x s2 t l) ∙ e.besides.input ∙ g.input ∙ st.input

    special_is : (i : ℕ) → slice_index s2.special i ≡ slice_index t0.special i
    special_is i = ap (λ f. f i) e.besides.special

    nine : length s2.special ≡ 9
    nine = k.quiet.fits.special.size

    user_again : runs_user t ≡ true
    user_again =
        let on : t.off ≡ None = off ∙ k.quiet.on in
        let mode : slice_index t.special MODE ≡ 1 =
        ap (λ sp. slice_index sp MODE) special ∙ left_mode s2.special nine ∙ special_is EMODE ∙ ap (λ sp. slice_index sp EMODE) g.special ∙ in_mode in
        rw (on, mode) refl
      where
        in_mode : slice_index s.special MODE ≡ 1
        in_mode = eqb-true (slice_index s.special MODE) 1 (user_mode s back.user)

    runs_again : RunsUser m t c
    runs_again =
        let f : UserFits m.params.pages (user_of c.users c.current) = user_fits m c c.current st.whole runs.user in
        record {
          user = runs.user;
          cpu = cpu_by t.cpu (user_of c.users c.current).cpu l.fits.cpu f.cpu
              (ap (λ (p : Cpu). p.pc) cpu ∙ special_is EPC ∙ ap (λ sp. slice_index sp EPC) g.special ∙ ap (λ (p : Cpu). p.pc) runs.cpu)
              (λ r from to. ap (λ (p : Cpu). slice_index p.regs r) cpu ∙ e.regs r (from, to) ∙ ap (λ (p : Cpu). slice_index p.regs r) g.cpu ∙ ap (λ (p : Cpu). slice_index p.regs r) runs.cpu)
              (ap (λ (p : Cpu). p.hi) cpu ∙ e.besides.hi ∙ ap (λ (p : Cpu). p.hi) g.cpu ∙ ap (λ (p : Cpu). p.hi) runs.cpu)
              (ap (λ (p : Cpu). p.lo) cpu ∙ e.besides.lo ∙ ap (λ (p : Cpu). p.lo) g.cpu ∙ ap (λ (p : Cpu). p.lo) runs.cpu);
          pto = ap (λ sp. slice_index sp PTO) special ∙ left_other s2.special PTO (λ e. absurd (omega arith)) (λ e. absurd (omega arith)) ∙ special_is PTO ∙ ap (λ sp. slice_index sp PTO) g.special ∙ runs.pto;
          ptl = ap (λ sp. slice_index sp PTL) special ∙ left_other s2.special PTL (λ e. absurd (omega arith)) (λ e. absurd (omega arith)) ∙ special_is PTL ∙ ap (λ sp. slice_index sp PTL) g.special ∙ runs.ptl;
          sr = ap (λ sp. slice_index sp SR) special ∙ left_sr s2.special nine ∙ special_is ESR ∙ ap (λ sp. slice_index sp ESR) g.special ∙ runs.sr;
        }

    -- it is back
    goes_back : InUserMode x y c t
    goes_back =
        let globals = o.globals in let heap = o.heap in let stack = o.stack in let tables = o.tables in let counts = o.counts in let zeros = o.zeros in
        let long : memory_words m ≤ length s.memory = st.memory in
        let all : length t.memory ≡ length s.memory = ap length l.memory ∙ size in
        let users : length c.users ≡ m.users = st.whole.users in
        let few : m.users ≤ 64 = made.range.users in
        record {
          user = user_again;
          stands = stood_with z.tools.alikes x y s t Running Running c c made.range st
              (record {
                fits = l.fits;
                no_reset = l.no_reset ∙ k.quiet.no_reset;
                size = all;
                kernel = λ j is. ⊎_elim
                    (λ h. let h0 = h.0 in let h1 = h.1 in low j (omega arith) (λ e. absurd (omega arith)) (inl (omega arith)))
                    (λ h. let h0 = h.0 in let h1 = h.1 in low j h1 (λ e. absurd (omega arith)) (inr (omega arith))) is;
                linked = λ j lt own. ap (λ w. slice_index w j) l.memory ∙ k.stays j lt own;
              }) st.whole refl
              (record {
                pages = subst (λ f. PagingInvariant (page_layout m) (pages_by m.params.pages c.users) (paged_view (table_layout m) f (behind t).sectors)) (sym words)
                    (subst (λ (d : Behind). PagingInvariant (page_layout m) (pages_by m.params.pages c.users) (paged_view (table_layout m) (words_of s2) d.sectors)) (sym (left_behind x s2 t l)) e.stands);
                log = console_log;
                input = console_input;
                idle = ap (λ (d : Behind). d.pending) (left_behind x s2 t l) ∙ e.besides.idle;
              })
              (record {
                sizes = λ u is. let from = is.0 in let to = is.1 in low (block_at u + 32) (omega arith) (λ e. absurd (omega arith)) (inr (omega arith)) ∙ st.users.sizes u is;
                blocks = λ u is other. let from = is.0 in let to = is.1 in
                    block_same s.memory t.memory u all (omega arith) (λ j bottom top. low j (omega arith) (λ e. absurd (omega arith)) (inr (omega arith)))
                    ∙ st.users.blocks u is (ap (λ b. b && (u == c.current)) (back.user ∙ sym user_again) ∙ other);
              })
              (λ run. low current_at (omega arith) (λ e. absurd (omega arith)) (inl (omega arith)) ∙ st.users.current refl)
              (λ run. runs_again);
        }

    -- and the page was brought in, as the two states show it
    brought_in : q < m.users * m.params.pages → BroughtIn (page_layout m) q true (paged_of m s) (paged_of m t)
    brought_in lt =
        let globals = o.globals in let heap = o.heap in let stack = o.stack in let tables = o.tables in let counts = o.counts in let zeros = o.zeros in
        let long : memory_words m ≤ length s.memory = st.memory in
        let same : length t0.memory ≡ length s.memory = ap length g.memory in
        let all : length t.memory ≡ length s.memory = ap length l.memory ∙ size in
        z.tools.alikes.brought (page_layout m) q true (paged_of m s) (paged_view (table_layout m) (words_of t0) (behind t0).sectors) (paged_view (table_layout m) (words_of s2) (behind s2).sectors) (paged_of m t) lt
        (subst (λ (d : Device). Alike (page_layout m) (paged_of m s) (paged_view (table_layout m) (words_of t0) (behind_of d t0.log t0.input).sectors)) (sym g.device)
        (words_alike m (slice_index s.memory) (words_of t0) (behind s).sectors o (λ j why less. word_is t0 j (omega arith) ∙ ap (λ w. slice_index w j) g.memory)))
        (subst (λ (d : Device). Alike (page_layout m) (paged_view (table_layout m) (words_of s2) (behind s2).sectors) (paged_view (table_layout m) (slice_index t.memory) (behind_of d t.log t.input).sectors)) (sym l.device)
        (words_alike m (words_of s2) (slice_index t.memory) (behind s2).sectors o (λ j why less. sym (word_is t j (omega arith)) ∙ ap (λ f. f j) words)))
        e.brought

  -- ONE FAULT: it is brought to its end for the same state
  pub record FaultHandled (x : Environment) (longest : ℕ) (s : State) (c : Core) (q : ℕ) : Type 0 where
    pub steps : ℕ
    pub within : steps ≤ page_steps m longest - 1
    pub cost : steps ≤ handled_steps m longest s - 1
    pub few : names_at m s ≤ 4
    pub way : Way x y IsEntry steps (step x s)
    pub back : InUserMode x y c (run x (step x s) steps)
    pub brought : BroughtIn (page_layout m) q true (paged_of m s) (paged_of m (run x (step x s) steps))

  module _ (z : Handlers) (x : Environment) (longest : ℕ) (busy : BusyWithin x longest) (s : State) (c : Core) (back : InUserMode x y c s) (a : AsksPage x y s c) where
    abbrev base : ℕ
    base = (c.current - 1) * m.params.pages

    state : RunningRelation x y s Running c
    state = back.stands

    runs_it : RunsUser m s c
    runs_it = state.users.runs back.user

    order : Order m
    order = order_of m made.range

    -- the page
    page_fits : a.edata / 4096 < m.params.pages
    page_fits =
        let page = a.page in let ptl = runs_it.ptl in
        let f : UserFits m.params.pages (user_of c.users c.current) = user_fits m c c.current state.whole runs_it.user in
        let most = f.pages in omega arith

    page_inside : base + a.edata / 4096 < m.users * m.params.pages
    page_inside =
        let some : 1 ≤ c.current = runs_it.user.0 in let one : c.current ≤ length c.users = runs_it.user.1 in
        let users : length c.users ≡ m.users = state.whole.users in
        page_below m.params.pages (a.edata / 4096) (c.current - 1) m.users page_fits (omega arith)

    page_live : (pages_by m.params.pages c.users).live (base + a.edata / 4096) ≡ true
    page_live =
        let part = page_part m.params.pages (a.edata / 4096) (c.current - 1) page_fits in
        let some : 1 ≤ c.current = runs_it.user.0 in
        let again : c.current - 1 + 1 ≡ c.current = omega arith in
        let page = a.page in let ptl = runs_it.ptl in
        ap₂ (λ p u. nat_lt p (pages_of (user_of c.users u))) part.1 (ap (λ n. n + 1) part.0 ∙ again) ∙ lt-ltb (a.edata / 4096) (pages_of (user_of c.users c.current)) (omega arith)

    first : Began x s (step x s) (cause_number a.why) a.edata s.cpu.pc
    first = began z.takes z.interrupts x y s (latched x s) c a.why a.edata s.cpu.pc (is_on_none s (user_on s back.user)) (premises m sizes code made x s c back) a.comes

    calm : Calm x y (step x s)
    calm = begins_calm m sizes code made x s (step x s) c (cause_number a.why) a.edata s.cpu.pc state first

    abbrev t0 : State
    t0 = step x s

    abbrev w : World
    w = block_world x y (step x s) 0 (handler m sizes code made)

    sound_w : Sound w
    sound_w = sound z.tools.below.stands x y (step x s) 0 (handler m sizes code made) (handler_placed m sizes code made) calm

    long : memory_words m ≤ w.words
    long = let all = state.memory in let size : length (step x s).memory ≡ length s.memory = ap length first.memory in omega arith

    sited : Sited (table_layout m) w
    sited =
        let globals = order.globals in let heap = order.heap in let stack = order.stack in let tables = order.tables in
        z.sited m w made.range long (λ q from to. free_past m sizes code made (step x s).memory q (omega (arith, linked_length m sizes code made)) to)

    ported : Ported (table_layout m) w longest
    ported =
        let globals = order.globals in let heap = order.heap in let stack = order.stack in let tables = order.tables in let counts = order.counts in let zeros = order.zeros in let most = order.most in
        record {
          disk = record { system = refl; free = λ q from to. let small = calm.small in free_port m sizes code made (step x s).memory q (omega arith) (omega arith); busy = busy };
          hand = own_hand m sizes code made (step x s).memory;
          sectors = omega arith;
        }

    asked : FaultAsked (table_layout m) (pages_by m.params.pages c.users) base a.edata (contents (step x s)) (behind (step x s))
    asked =
        let globals = order.globals in let heap = order.heap in let stack = order.stack in let tables = order.tables in let counts = order.counts in let zeros = order.zeros in
        let all = state.memory in
        let size : length (step x s).memory ≡ length s.memory = ap length first.memory in
        let nine : length (step x s).special ≡ 9 = first.quiet.fits.special.size in
        record {
          table = ap (λ sp. slice_index sp PTO) first.special ∙ runs_it.pto;
          edata = ap (λ sp. slice_index sp EDATA) first.special;
          word = subst IsWord (ap (λ sp. slice_index sp EDATA) first.special) (All-get_or IsWord (step x s).special EDATA 0 (omega arith) first.quiet.fits.special.each);
          inside = page_inside;
          live = page_live;
          stands = subst (λ (d : Device). PagingInvariant (page_layout m) (pages_by m.params.pages c.users) (paged_view (table_layout m) (words_of (step x s)) (behind_of d (step x s).log (step x s).input).sectors)) (sym first.device)
              (pages_agree z.tools.alikes m (pages_by m.params.pages c.users) (slice_index s.memory) (words_of (step x s)) (behind s).sectors order (λ j why less. word_is (step x s) j (omega arith) ∙ ap (λ w. slice_index w j) first.memory) state.pages);
          small = λ q lt. let here = word_is (step x s) (tables_at m + q) (omega arith) in let v = word_read (step x s).memory (tables_at m + q) first.quiet.fits.memory in omega arith;
          idle = calm.idle;
        }

    fault_is : IsHandled (slice_index (step x s).special ECA) a.edata (slice_index (step x s).special PTL)
    fault_is = (
      subst (λ n. (n ≡ 3) ⊎ (n ≡ 8)) (sym (ap (λ sp. slice_index sp ECA) first.special)) a.number,
      subst (λ n. a.edata / 4096 < n) (sym (ap (λ sp. slice_index sp PTL) first.special)) a.page,
    )

    -- the handler's run to its eret
    abbrev eret_at : ℕ
    eret_at = fault_eret_at 0 (table_layout m) (handle_page_code (table_layout m))

    -- with what it takes, and the most of that
    to_eret : RunComesTo w (swap_steps (table_layout m) longest (contents (step x s)).memory + 85) 0 eret_at Eret (contents (step x s)) (behind (step x s)) (FaultDone (table_layout m) (pages_by m.params.pages c.users) (base + a.edata / 4096) (contents (step x s)) (behind (step x s)))
        × (swap_steps (table_layout m) longest (contents (step x s)).memory ≤ fault_steps longest)
    to_eret =
        let p : TableLayout = table_layout m in
        let b = z.blocks w sound_w p longest sited ported in
        let block : PageBlock w p longest = b.0 in
        let free : MaySave w = λ q is. let low = is.0 in let top = is.1 in free_variable m sizes code made (step x s).memory (saved_at q) (omega arith) (omega arith) in
        let at : CodeAt w 0 (handler_code p block.code) = subst (λ is. CodeAt w 0 (handler_code p is)) (sym b.1) ((z.tools.below.stands 0 (handler m sizes code made)).stands w) in
        let r = z.faults w sound_w p longest block (pages_by m.params.pages c.users) base a.edata 0 (contents (step x s)) (behind (step x s)) sited ported free at fault_is asked in (
          subst (λ is. RunComesTo w (swap_steps p longest (contents (step x s)).memory + 85) 0 (fault_eret_at 0 p is) Eret (contents (step x s)) (behind (step x s)) (FaultDone p (pages_by m.params.pages c.users) (base + a.edata / 4096) (contents (step x s)) (behind (step x s)))) b.1 r.0,
          r.1,
        )

    -- how many pages name the frame at the hand, as the state itself shows it
    same_names : names_hand (table_layout m) (contents (step x s)).memory ≡ names_at m s
    same_names =
        let globals = order.globals in let heap = order.heap in let stack = order.stack in let tables = order.tables in let counts = order.counts in let zeros = order.zeros in
        let all = state.memory in
        let size : length (step x s).memory ≡ length s.memory = ap length first.memory in
        let range : IsUserFrame (page_layout m) (paged_of m s).hand = state.pages.hand in let r0 = range.0 in let r1 = range.1 in
        let word : (j : ℕ) → j < memory_words m → words_of (step x s) j ≡ slice_index s.memory j = λ j lt. word_is (step x s) j (omega arith) ∙ ap (λ w. slice_index w j) first.memory in
        let hand : words_of (step x s) hand_at ≡ slice_index s.memory hand_at = word hand_at (omega arith) in
        let there : frame_table_at m + 8 * slice_index s.memory hand_at ≡ count_at (table_layout m) (paged_of m s).hand = omega arith in
        ap (λ h. words_of (step x s) (frame_table_at m + 8 * h)) hand ∙ word (frame_table_at m + 8 * slice_index s.memory hand_at) (omega arith) ∙ ap (slice_index s.memory) there

    pub fault_handled : FaultHandled x longest s c (page_at m c a.edata)
    fault_handled =
        let b : Below = z.tools.below in
        let is : List Inst = handler m sizes code made in
        let g = to_eret.0 in
        let most = to_eret.1 in
        let names = same_names in
        let few : names_at m s ≤ 4 =
        let hand : IsUserFrame (page_layout m) (paged_of m s).hand = state.pages.hand in
        let k = state.pages.counts (paged_of m s).hand hand in let f = state.pages.few (paged_of m s).hand hand in omega arith in
        let u : CodeState = at_with eret_at g.contents g.behind in
        let pc : (step x s).cpu.pc ≡ 4 * 0 = ap (λ (p : Cpu). p.pc) first.cpu in
        let reaches : Reaches w (swap_steps (table_layout m) longest (contents (step x s)).memory + 85) (configuration_of (step x s)) u = subst (λ v. Reaches w (swap_steps (table_layout m) longest (contents (step x s)).memory + 85) v u) (sym (stands_at (step x s) 0 pc)) g.reaches in
        let r : Arrives x y (swap_steps (table_layout m) longest (contents (step x s)).memory + 85) (step x s) u =
        arrives b.blocks x y (step x s) u 0 is (swap_steps (table_layout m) longest (contents (step x s)).memory + 85) (handler_placed m sizes code made) (inl (omega (arith, handler_end m sizes code made))) calm g.done.besides.idle reaches in
        let s2 : State = run x (step x s) r.steps in
        let at2 : s2.cpu.pc / 4 ≡ eret_at = ap (λ (v : CodeState). v.at) r.there in
        let aligned = r.calm.quiet.aligned in
        let inside = (b.stands 0 is).inside eret_at Eret g.stands in
        let from = inside.0 in let to = inside.1 in
        let gone : Gone z.tools.words b.stands x y s2 0 is (handler_placed m sizes code made) r.calm (step x s2) = goes z.tools.words b.stands x y s2 0 is (handler_placed m sizes code made) r.calm z.erets (ap (only_block_at 0 is) at2 ∙ g.stands) in
        let done : FaultDone (table_layout m) (pages_by m.params.pages c.users) (base + a.edata / 4096) (contents (step x s)) (behind (step x s)) (contents s2) (behind s2) =
        subst (λ (v : CodeState). FaultDone (table_layout m) (pages_by m.params.pages c.users) (base + a.edata / 4096) (contents (step x s)) (behind (step x s)) v.contents v.behind) (sym r.there) g.done in
        let size : length s2.memory ≡ length s.memory = r.size ∙ ap length first.memory in
        let there : run x (step x s) (r.steps + 1) ≡ step x s2 = b.sum x (step x s) r.steps 1 in
        let last = single b.none x y 0 (0 + length is) s2 (inl (omega (arith, handler_end m sizes code made))) r.calm (omega arith) (omega arith) gone.stays.device gone.stays.memory in
        let within = r.within in
        let q : ℕ = base + a.edata / 4096 in
        record {
          steps = r.steps + 1;
          within = omega arith;
          cost = let e : swap_steps (table_layout m) longest (contents (step x s)).memory ≡ names_at m s * (longest + 2707) + longest + 2805 = ap (λ n. n * (longest + 2707) + longest + 2805) names in omega arith;
          few = few;
          way = way b.sum x y (r.steps + 1) (step x s) (joins b.sum x y r.steps 1 (step x s) r.between last);
          back = subst (InUserMode x y c) (sym there) (goes_back z x s (step x s) s2 (step x s2) c (cause_number a.why) a.edata q back first r.calm size done gone.off gone.special gone.cpu gone.stays);
          brought = subst (λ v. BroughtIn (page_layout m) q true (paged_of m s) (paged_of m v)) (sym there)
              (brought_in z x s (step x s) s2 (step x s2) c (cause_number a.why) a.edata q back first r.calm size done gone.off gone.special gone.cpu gone.stays page_inside);
        }

  -- what the law says of the page, from that it passes for a store and a read
  told : (s t : State) (c : Core) (before : State) (why : Cause) (edata epc : ℕ) → ((store : Bool) → IsAccessible (paged_of m t) (page_at m c edata) store) → PageBrought y c s t (Interrupt before why edata epc)
  told s t c before causes.DataFault edata epc h = h (is_store (decoding (read_at s (located s false s.cpu.pc))))
  told s t c before causes.FetchFault edata epc h = h false
  told s t c before causes.Reset edata epc h = tt
  told s t c before causes.External edata epc h = tt
  told s t c before causes.FetchAlign edata epc h = tt
  told s t c before causes.Illegal edata epc h = tt
  told s t c before causes.Overflow edata epc h = tt
  told s t c before causes.Syscall edata epc h = tt
  told s t c before causes.DataAlign edata epc h = tt

  module _ (z : Handlers) (x : Environment) (longest : ℕ) (busy : BusyWithin x longest) (c : Core) where
    abbrev pages_step : UserStep
    pages_step = step_pages m c

    -- the page that a step asks for passes behind the fault
    pub shown : (s t : State) (a : AsksPage x y s c) → Handled (page_layout m) (page_at m c a.edata) true (paged_of m s) (paged_of m t) → PageBrought y c s t (coming x (latched x s))
    shown s t a h = subst (PageBrought y c s t) (sym a.comes) (told s t c (latched x s) a.why a.edata s.cpu.pc
        (λ store. z.pass.passes (page_layout m) (page_at m c a.edata) store (paged_of m s) (paged_of m t) (z.pass.reads (page_layout m) (page_at m c a.edata) store (paged_of m s) (paged_of m t) h)))

    -- one fault, and then what is left
    one : (k : ℕ) (s : State) → InUserMode x y c s → (a : AsksPage x y s c) → ((t : State) → InUserMode x y c t → Handled (page_layout m) (page_at m c a.edata) a.store (paged_of m s) (paged_of m t) → Settles k x y (page_steps m longest - 1) c t)
        → ComesBy x y IsEntry (page_steps m longest - 1) (step x s) (λ t. InUserMode x y c t × PageBrought y c s t (coming x (latched x s)) × Settles k x y (page_steps m longest - 1) c t)
    one k s back a rest =
        let f : FaultHandled x longest s c (page_at m c a.edata) = fault_handled z x longest busy s c back a in
        let t : State = run x (step x s) f.steps in
        let h : Handled (page_layout m) (page_at m c a.edata) true (paged_of m s) (paged_of m t) = f.brought.handled in
        record {
          steps = f.steps;
          within = f.within;
          way = f.way;
          there = (
            f.back,
            shown s t a h,
            rest t f.back (z.pass.reads (page_layout m) (page_at m c a.edata) a.store (paged_of m s) (paged_of m t) h),
          );
        }

    ask : (s : State) → InUserMode x y c s → handled x s ≡ true → AsksPage x y s c
    ask s back h = z.ask x y s c (premises m sizes code made x s c back) h

    no_more : (s : State) (b : Bool) → handled x s ≡ b → (handled x s ≡ true → ⊥) → handled x s ≡ false
    no_more s true e h = absurd (h e)
    no_more s false e h = e

    settle : (k : ℕ) (s : State) → InUserMode x y c s → AtMost k (page_layout m) pages_step (paged_of m s) → Settles k x y (page_steps m longest - 1) c s
    settle zero s back most = no_more s (handled x s) refl (λ h. let a = ask s back h in most (page_at m c a.edata) a.store a.asks)
    settle (suc k) s back most = λ h. let a = ask s back h in one k s back a (λ t b handled. settle k t b (most (page_at m c a.edata) a.store (paged_of m t) a.asks handled))

  pub settles : Handlers → FaultsSettle y
  settles z x longest s c busy back = λ h.
      let a : AsksPage x y s c = ask z x longest busy c s back h in
      let hand : IsUserFrame (page_layout m) (paged_of m s).hand = back.stands.pages.hand in
      settle z x longest busy c 2 s back (z.two (page_layout m) (step_pages m c) (paged_of m s) made.range.params.two_frames a.code_page a.data_page hand) h

  pub costs : Handlers → FaultsCost y
  costs z x longest s c busy back h =
      let a : AsksPage x y s c = ask z x longest busy c s back h in
      let f : FaultHandled x longest s c (page_at m c a.edata) = fault_handled z x longest busy s c back a in (
        f.few,
        record { steps = f.steps; within = f.cost; way = f.way; there = (f.back, shown z x longest busy c s (run x (step x s) f.steps) a f.brought.handled) },
      )
