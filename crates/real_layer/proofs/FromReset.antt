-- The way into the kernel: from the reset to `dispatch`.
use Rattle.std.proofs.Common.{◌≡◌, ℕ, ◌+◌, ◌*◌, ◌/◌, ◌%◌, ◌<◌, ◌≤◌, true, None, List, length, slice_index, refl, sym, ap, ◌∙◌, subst, ⊎_elim, inl, inr, true≢false, arith}
use Rattle.std.proofs.lemmas.Bool.Decides.{nat_tests}
use Rattle.mips_table.specs.declared.inst.Inst.{Inst}
use Rattle.mips_table.specs.Arith.{signed}
use Rattle.mips_table.specs.Processor.{Cpu}
use Rattle.mips_table.specs.Device.{Environment}
use Rattle.mips_table.specs.declared.special.TheConstants.{ECA, EDATA}
use Rattle.mips_table.specs.Machine.{State, run}
use Rattle.mips_table.specs.Code.{Behind, World, Sound, CodeState, at_with, Reaches}
use Rattle.mips_table.specs.Simulation.{configuration_of}
use Rattle.layer_map.specs.Map.{Map, layer_words, current_at}
use Rattle.page_model.specs.Paging.{PagingInvariant}
use Rattle.page_model.specs.TableLayout.{TableLayout, page_layout, table_layout, paged_view}
use Rattle.page_fault.specs.Code.{handle_page_code}
use Rattle.pcb_layer.specs.Code.{saved_at}
use Rattle.pcb_layer.specs.Laws.{HasSaveArea, MaySave}
use Rattle.cvm_model.specs.Kernel.{Core}
use Rattle.cvm_model.specs.Cvm.{Running}
use Rattle.cvm_model.specs.Paged.{pages_by}
use Rattle.cvm_model.specs.Stands.{Site, is_own, RunningRelation}
use Rattle.layer_contract.specs.declared.entry.Entry.TheVariants.{Dispatch}
use Rattle.layer_contract.specs.Layer.{Inside, IsAtEntry, Linked, EntersFirst, ResetStands}
use Rattle.trap_entry.specs.Code.{handler_code}
use Rattle.trap_entry.specs.Laws.{IsUnsaved, ResetEntered, ResetEnters as RunsFirst}
use Rattle.real_layer.specs.Image.{interrupt_code, image_site, IsMade}
use Rattle.real_layer.specs.Runs.{BlockIsLinked, Calm, kept_words, block_world}
use Rattle.real_layer.proofs.StandsByFunctions.{Shown, Order, order_of, words_of, behind, word_is, blocks_agree, pages_agree, shown, stood, layer_inside}
use Rattle.real_layer.proofs.BlocksRun.{sound}
use Rattle.real_layer.proofs.PartsPlaced.{handler_length, handler_stands, linked_length}
use Rattle.real_layer.proofs.EntryToEntry.{way}
use Rattle.real_layer.proofs.RunsBetweenEntries.{Below, Arrives, contents, arrives, stands_at}
use Rattle.real_layer.proofs.RoutinesAndExits.{Tools, not_user, calm_of}
use Rattle.real_layer.proofs.AfterDispatch.{free_own}
use Rattle.real_layer.proofs.ImageIsLinked.{image_linked, image_taken}

-- the handler's instructions
pub handler_is : (m : Map) → interrupt_code m ≡ handler_code (table_layout m) (handle_page_code (table_layout m))
unfolding interrupt_code
handler_is m = refl

pub page_length : (p : TableLayout) → length (handle_page_code p) ≤ 1000
page_length p = omega arith

module _ (m : Map) (sizes code : List ℕ) (made : IsMade m sizes code) where
  abbrev y : Site
  y = image_site m sizes code

  abbrev pub handler : List Inst
  handler = handler_code (table_layout m) (handle_page_code (table_layout m))

  pub handler_placed : BlockIsLinked y 0 handler
  handler_placed = subst (BlockIsLinked y 0) (handler_is m) (handler_stands m sizes code made)

  pub handler_end : length handler ≤ 2048
  handler_end = omega (arith, ap length (handler_is m), handler_length m)

  -- words of the layer's variables aren't kept
  pub free_variable : (memory : List ℕ) (k : ℕ) → 1024 ≤ k → k < 2048 → kept_words y memory k ≡ None
  free_variable memory k from to = free_own y memory k (let l = layer_inside m (order_of m made.range) in omega arith) own
    where
      own : is_own m k ≡ true
      own = grind (arith, nat_tests)

  -- a machine that came to `dispatch` is at its entry
  pub at_dispatch : (x : Environment) (s : State) (c : Core) → Calm x y s → s.cpu.pc / 4 ≡ 0x4000 → RunningRelation x y s Running c → IsAtEntry x y Dispatch c s
  at_dispatch x s c k at st = record {
    inside = record { on = k.quiet.on; mode = k.quiet.mode; sr = k.quiet.sr; no_reset = k.quiet.no_reset };
    pc = let aligned = k.quiet.aligned in omega arith;
    stands = st;
  }

  module _ (z : Tools) (x : Environment) (s : State) (c : Core) (st : RunningRelation x y s Running c) (i : Inside s) where
    -- words but those of the save area show the same
    saved_stands : (t : State) → Calm x y t → length t.memory ≡ length s.memory → ((k : ℕ) → IsUnsaved k → words_of t k ≡ words_of s k) → behind t ≡ behind s → RunningRelation x y t Running c
    saved_stands t k size at same =
        let sh : Shown y c (words_of s) (behind s) = shown z.alikes x y s Running c made.range st (not_user s i) in
        let o : Order m = order_of m made.range in
        let globals = o.globals in let heap = o.heap in let stack = o.stack in let tables = o.tables in let counts = o.counts in let zeros = o.zeros in
        let long = st.memory in
        let users : length c.users ≡ m.users = st.whole.users in
        let few : m.users ≤ 64 = made.range.users in
        let memory : (j : ℕ) → j < length s.memory → words_of t j ≡ slice_index t.memory j = λ j lt. word_is t j (omega arith) in
        stood z.alikes x y s t Running Running c c made.range st
        (record {
          fits = k.quiet.fits;
          no_reset = k.quiet.no_reset;
          size = size;
          kernel = λ j is. ⊎_elim
              (λ h. let h0 = h.0 in let h1 = h.1 in sym (memory j (omega arith)) ∙ at j (inl (omega arith)) ∙ word_is s j (omega arith))
              (λ h. let h0 = h.0 in let h1 = h.1 in sym (memory j (omega arith)) ∙ at j (inr (omega arith)) ∙ word_is s j (omega arith)) is;
          linked = k.stays;
        }) st.whole refl
        (record {
          blocks = blocks_agree c.users (words_of s) (words_of t) (omega arith) (λ j low top. at j (inr (omega arith))) sh.blocks;
          pages = subst (λ (d : Behind). PagingInvariant (page_layout m) (pages_by m.params.pages c.users) (paged_view (table_layout m) (words_of t) d.sectors)) (sym same)
              (pages_agree z.alikes m (pages_by m.params.pages c.users) (words_of s) (words_of t) (behind s).sectors o (λ j why lt. ⊎_elim (λ e. at j (inl (omega arith))) (λ h. at j (inr (omega arith))) why) sh.pages);
          log = ap (λ (d : Behind). d.log) same ∙ sh.log;
          input = ap (λ (d : Behind). d.input) same ∙ sh.input;
          idle = ap (λ (d : Behind). d.pending) same ∙ sh.idle;
        })
        (λ run. sym (memory current_at (omega arith)) ∙ at current_at (inl (omega arith)) ∙ word_is s current_at (omega arith) ∙ st.users.current refl)
        (λ run. absurd (true≢false (sym run ∙ not_user t (record { on = k.quiet.on; mode = k.quiet.mode; sr = k.quiet.sr; no_reset = k.quiet.no_reset }))))

  pub enters_first : Tools → ResetStands → ((w : World) → Sound w → RunsFirst w) → EntersFirst y sizes
  enters_first z resets law x s c whole starts same r =
      let b : Below = z.below in
      let size : length y.linked ≡ layer_words + m.code_words = linked_length m sizes code made in
      let st : RunningRelation x y s Running c = resets x y s c sizes made.range size (subst (Linked m sizes) (sym (image_taken m sizes code made)) (image_linked m sizes code made)) same whole starts r in
      let pc : s.cpu.pc ≡ 4 * 0 = ap (λ (p : Cpu). p.pc) r.cpu in
      let k : Calm x y s = calm_of m sizes code made x s Running c st r.inside (ap (λ p. p % 4) pc) in
      let w : World = block_world x y s 0 handler in
      let f : Sound w = sound b.stands x y s 0 handler handler_placed k in
      let long = st.memory in
      let o : Order m = order_of m made.range in
      let globals = o.globals in let heap = o.heap in let stack = o.stack in let tables = o.tables in let counts = o.counts in let zeros = o.zeros in
      let area : HasSaveArea w = omega arith in
      let free : MaySave w = λ q is. let low = is.0 in let top = is.1 in free_variable s.memory (saved_at q) (omega arith) (omega arith) in
      let cause : slice_index s.special ECA ≡ 0 = ap (λ sp. slice_index sp ECA) r.special in
      let g = law w f (table_layout m) (handle_page_code (table_layout m)) 0 (contents s) (behind s) (page_length (table_layout m)) refl area free ((b.stands 0 handler).stands w) cause k.idle in
      let t : CodeState = at_with 0x4000 g.0 g.1 in
      let e : ResetEntered (contents s) (behind s) g.0 g.1 = g.2 in
      let reaches : Reaches w 51 (configuration_of s) t = subst (λ u. Reaches w 51 u t) (sym (stands_at s 0 pc)) g.3 in
      let a : Arrives x y 51 s t = arrives b.blocks x y s t 0 handler 51 handler_placed (inl (omega (arith, handler_end))) k (ap (λ (d : Behind). d.pending) e.behind ∙ k.idle) reaches in
      let s2 : State = run x s a.steps in
      let within = a.within in
      let words : (j : ℕ) → IsUnsaved j → words_of s2 j ≡ words_of s j = λ j un. ap (λ (u : CodeState). u.contents.memory j) a.there ∙ e.others j un in
      let same2 : behind s2 ≡ behind s = ap (λ (u : CodeState). u.behind) a.there ∙ e.behind in
      let reg : (q : ℕ) → slice_index s2.cpu.regs q ≡ g.0.regs q = λ q. ap (λ (u : CodeState). u.contents.regs q) a.there in
      let edata : slice_index s.special EDATA ≡ 0 = ap (λ sp. slice_index sp EDATA) r.special in
      let current : words_of s current_at ≡ 0 = word_is s current_at (omega arith) ∙ st.users.current refl ∙ starts.current in
      record {
        steps = a.steps;
        within = omega arith;
        way = way b.sum x y a.steps s a.between;
        there = record {
          at = at_dispatch x s2 c a.calm (ap (λ (u : CodeState). u.at) a.there) (saved_stands z x s c st r.inside s2 a.calm a.size words same2);
          arguments = (ap signed (reg 20 ∙ e.cause), (ap signed (reg 21 ∙ e.edata ∙ edata), (ap signed (reg 22 ∙ e.user ∙ current), tt)));
        };
      }
