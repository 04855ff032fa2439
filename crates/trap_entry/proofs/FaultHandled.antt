-- A handled fault up to the eret: decided, the page is brought in to store, and the registers come back.
use Rattle.std.proofs.Common.{◌≡◌, ℕ, ◌+◌, ◌*◌, ◌/◌, ◌^◌, ◌<◌, ◌≤◌, true, List, [], ◌∷◌, ◌++◌, length, length-append, refl, sym, ap, ap₂, ◌∙◌, subst, inl, inr, arith}
use Rattle.mips_table.specs.declared.inst.Inst.{Inst}
use Rattle.mips_table.specs.declared.inst.Inst.TheVariants.{Eret, J}
use Rattle.mips_table.specs.Device.{Idle}
use Rattle.mips_table.specs.declared.special.TheConstants.{ECA, EDATA, PTO, PTL}
use Rattle.mips_table.specs.Code.{put, Contents, Behind, World, Sound, CodeAt}
use Rattle.mips_table.proofs.NumbersInHalves.{const_is}
use Rattle.layer_map.specs.Map.{hand_at}
use Rattle.masm.specs.Blocks.{when_code}
use Rattle.masm.specs.Says.{Gives, Asks}
use Rattle.masm.specs.Laws.{RunsCompose, WhenRuns, From}
use Rattle.masm.proofs.RulesForRoutines.{from_then, from_later, straight_then}
use Rattle.page_model.specs.Paging.{Pages, Paged, PagingInvariant}
use Rattle.page_model.specs.Edits.{Alike}
use Rattle.page_model.specs.Faults.{Brought}
use Rattle.page_model.specs.Laws.{AlikesStand}
use Rattle.page_model.specs.TableLayout.{TableLayout, paged_view, count_at, slot_at}
use Rattle.frame_table.specs.View.{Sited, Ported, names_hand}
use Rattle.page_fault.specs.Asked.{PageDone, swap_steps, fault_steps, BringsPage, PageBlock}
use Rattle.pcb_layer.specs.Code.{saved_at, restore_registers_code}
use Rattle.pcb_layer.specs.Laws.{MaySave, Restored, SavesRegisters, RestoresRegisters}
use Rattle.trap_entry.specs.Code.{save_and_classify_code, find_faulting_page_code, handle_page_fault_code, enter_kernel_code, handler_code}
use Rattle.trap_entry.specs.Laws.{IsHandled, FaultAsked, FaultDone, fault_eret_at, HandlesFaults}
use Rattle.trap_entry.proofs.RunsJoined.{Run, block, join, later, comes}
use Rattle.trap_entry.proofs.FaultDecided.{Ready, Decided, ready_on, positive, decides}

module _ (w : World) (f : Sound w) (runs : RunsCompose) (alikes : AlikesStand) (saves : SavesRegisters w) (restores : RestoresRegisters w)
    (p : TableLayout) (b : ℕ) (page : PageBlock w p b) (v : Pages) (base e : ℕ) (si : Sited p w) (pt : Ported p w b) (may : MaySave w) (c0 : Contents) (d0 : Behind) (asked : FaultAsked p v base e c0 d0) where
  abbrev q : ℕ
  q = base + e / 4096

  alike : (c : Contents) (d : Behind) → Ready c0 d0 c d → Alike p.layout (paged_view p c0.memory d0.sectors) (paged_view p c.memory d.sectors)
  alike c d s =
      let low = si.low in let first = si.first in let second = si.second in record {
        entries = λ y lt. s.others (p.tables + y) (inr (omega arith));
        counts = λ y u. s.others (count_at p y) (inr (omega arith));
        slots = λ y u k lt. s.others (slot_at p y k) (inr (omega arith));
        frames = λ y u i li. let u0 = u.0 in s.others (1024 * y + i) (inr (omega arith));
        sectors = λ y lt i li. ap (λ d. d.sectors y i) s.behind;
        hand = ap (λ m. p.layout.zeros + 1 + m) (s.others hand_at (inl (omega arith)));
      }

  -- as many pages name the frame at the hand
  same_steps : (c : Contents) (d : Behind) → Ready c0 d0 c d → swap_steps p b c.memory ≡ swap_steps p b c0.memory
  same_steps c d s =
      let low = si.low in let first = si.first in
      let hand : c.memory hand_at ≡ c0.memory hand_at = s.others hand_at (inl (omega arith)) in
      let names : names_hand p c.memory ≡ names_hand p c0.memory = ap (λ h. c.memory (p.counts + 8 * h)) hand ∙ s.others (p.counts + 8 * c0.memory hand_at) (inr (omega arith)) in
      ap (λ n. n * (b + 2707) + b + 2805) names

  self : (a : Paged) → Alike p.layout a a
  self a = record { entries = λ y lt. refl; counts = λ y u. refl; slots = λ y u k lt. refl; frames = λ y u i li. refl; sectors = λ y lt i li. refl; hand = refl }

  -- the registers come back
  ends : (c : Contents) (d : Behind) (c2 : Contents) (d2 : Behind) → Ready c0 d0 c d → PageDone p v q true c d c2 d2 → From w (restore_registers_code 31) 31 c2 d2 (FaultDone p v q c0 d0)
  ends c d c2 d2 s g =
      let low = si.low in let first = si.first in let second = si.second in let third = si.third in
      let k = alike c d s in
      from_later w (restore_registers_code 31) 31 31 c2 d2 (Restored c2 d2) _ (omega arith)
      (λ c' d' r.
      let eq : paged_view p c'.memory d'.sectors ≡ paged_view p c2.memory d2.sectors = ap₂ (paged_view p) r.memory (ap (λ d. d.sectors) r.behind) in record {
        stands = subst (PagingInvariant p.layout v) (sym eq) g.stands;
        brought = subst (Brought p.layout q true (paged_view p c0.memory d0.sectors)) (sym eq) (alikes.brought p.layout q true (paged_view p c0.memory d0.sectors) (paged_view p c.memory d.sectors) (paged_view p c2.memory d2.sectors) (paged_view p c2.memory d2.sectors) asked.inside k (self _) g.brought);
        low = λ y lt ne o. ap (λ m. m y) r.memory ∙ g.low y lt ne ∙ s.others y o;
        above = λ y le lt. ap (λ m. m y) r.memory ∙ g.above y le lt ∙ s.others y (inr (omega arith));
        small = λ y lt. subst (λ m. m (p.tables + y) < 2 ^ 32) (sym r.memory) (g.small y lt);
        beyond = λ x i le. ap (λ d. d.sectors x i) r.behind ∙ g.beyond x i le ∙ ap (λ d. d.sectors x i) s.behind;
        regs = λ y is. let i0 = is.0 in let i1 = is.1 in r.regs y is ∙ g.low (saved_at y) (omega arith) (omega arith) ∙ s.words y is;
        besides = record {
          special = r.special ∙ g.besides.special ∙ s.special;
          hi = r.hi ∙ g.besides.hi ∙ s.hi;
          lo = r.lo ∙ g.besides.lo ∙ s.lo;
          log = ap (λ d. d.log) r.behind ∙ g.besides.log ∙ ap (λ d. d.log) s.behind;
          input = ap (λ d. d.input) r.behind ∙ g.besides.input ∙ ap (λ d. d.input) s.behind;
          idle = ap (λ d. d.pending) r.behind ∙ g.besides.idle;
        };
      })
      (restores (omega arith) c2 d2 g.besides.idle)

  asks : (c1 : Contents) (d : Behind) → Ready c0 d0 c1 d → c1.regs 16 ≡ q → c1.regs 15 ≡ 1 → BringsPage w p b page.code v q true c1 d
  asks c1 d s r16 r15 =
      let low = si.low in let first = si.first in let second = si.second in let third = si.third in
      let k = alike c1 d s in
      let idle : d.pending ≡ Idle = ap (λ d. d.pending) s.behind ∙ asked.idle in
      page.does v q true c1 d (record {
        page = r16;
        inside = asked.inside;
        live = asked.live;
        stands = alikes.stands p.layout v _ _ asked.stands k;
        small = λ y lt. subst (λ z. z < 2 ^ 32) (sym (s.others (p.tables + y) (inr (omega arith)))) (asked.small y lt);
        idle = idle;
        load = λ e. absurd (cc);
        save = λ e. omega arith;
      })

  brings : (c1 : Contents) (d : Behind) → Ready c0 d0 c1 d → c1.regs 16 ≡ q → c1.regs 15 ≡ 1 → From w (page.code ++ restore_registers_code 31) (swap_steps p b c0.memory + 31) c1 d (FaultDone p v q c0 d0)
  brings c1 d s r16 r15 =
      from_then w page.code (restore_registers_code 31) (swap_steps p b c0.memory) 31 c1 d (PageDone p v q true c1 d) _
      (subst (λ n. From w page.code n c1 d (PageDone p v q true c1 d)) (same_steps c1 d s) (asks c1 d s r16 r15).swaps) (λ c2 d2 g. ends c1 d c2 d2 s g)

  -- at most four do: as a state shows in which the page may be asked for
  few : swap_steps p b c0.memory ≤ fault_steps b
  few = (page.does v q true (record c0 { regs = put (put c0.regs 15 1) 16 q }) d0 (record {
    page = refl;
    inside = asked.inside;
    live = asked.live;
    stands = asked.stands;
    small = asked.small;
    idle = asked.idle;
    load = λ e. absurd (cc);
    save = λ e z. absurd (omega arith);
  })).within

  -- the page is asked for
  works : (c : Contents) (d : Behind) → Ready c0 d0 c d → From w (handle_page_fault_code p page.code) (9 + (swap_steps p b c0.memory + 31)) c d (FaultDone p v q c0 d0)
  works c d s =
      let low = si.low in let first = si.first in let second = si.second in let third = si.third in let words = f.small in let inside = asked.inside in let small = asked.word in
      let system = pt.disk.system in
      let edata = ap (λ g. g EDATA) s.special ∙ asked.edata in
      let table = ap (λ g. g PTO) s.special ∙ asked.table in
      straight_then w f (find_faulting_page_code p) (page.code ++ restore_registers_code 31) (Asks ∷ Gives (e / 4096) ∷ Asks ∷ Gives (4 * p.tables / 65536 * 2 ^ 16) ∷ Gives (4 * p.tables) ∷ Gives (4 * base) ∷ Gives base ∷ Gives q ∷ Gives 1 ∷ []) _ c d _ refl (ap (λ d. d.pending) s.behind ∙ asked.idle)
      (λ n. (system, (omega arith, (system, (refl, (const_is (4 * p.tables), (omega arith, (omega arith, (omega arith, (refl, tt))))))))))
      (λ n. brings _ d (ready_on c0 d0 c _ d refl refl refl refl s) refl refl)

  short : length (handle_page_fault_code p page.code ++ Eret ∷ []) < 32768
  short =
      let a = length-append page.code (restore_registers_code 31) in
      let c = length-append (page.code ++ restore_registers_code 31) (Eret ∷ []) in
      let l = page.short in
      omega (arith, a, c, l)

  comes_back : ((r : ℕ) (body : List Inst) → length body < 32768 → WhenRuns w r body) → (n : ℕ) → CodeAt w n (handler_code p page.code) → IsHandled (c0.special ECA) e (c0.special PTL) → Run w runs (44 + (1 + (9 + (swap_steps p b c0.memory + 31)))) n (fault_eret_at n p page.code) c0 d0 (FaultDone p v q c0 d0)
  comes_back whens n at h =
      let low = si.low in let first = si.first in let second = si.second in let third = si.third in
      let rest = enter_kernel_code ++ J 0x4000 ∷ [] in
      let fork = runs.front w (n + length save_and_classify_code) (when_code 8 (handle_page_fault_code p page.code ++ Eret ∷ [])) rest (runs.back w n save_and_classify_code (when_code 8 (handle_page_fault_code p page.code ++ Eret ∷ []) ++ rest) at) in
      let told : IsHandled (c0.special ECA) (c0.special EDATA) (c0.special PTL) = subst (λ x. IsHandled (c0.special ECA) x (c0.special PTL)) (sym asked.edata) h in
      join w runs 44 (1 + (9 + (swap_steps p b c0.memory + 31))) n (n + length save_and_classify_code) (fault_eret_at n p page.code) c0 d0 (Decided 1 c0 d0) (FaultDone p v q c0 d0)
      (block w runs save_and_classify_code 44 n c0 d0 (Decided 1 c0 d0) (runs.front w n save_and_classify_code (when_code 8 (handle_page_fault_code p page.code ++ Eret ∷ []) ++ rest) at) (decides w f pt.disk.system saves (omega arith) may c0 d0 asked.idle 1 (positive _ _ _ told)))
      (λ c1 d1 s.
      let idle : d1.pending ≡ Idle = ap (λ d. d.pending) s.0.behind ∙ asked.idle in
      join w runs 1 (9 + (swap_steps p b c0.memory + 31)) (n + length save_and_classify_code) (n + length save_and_classify_code + 1) (fault_eret_at n p page.code) c1 d1 (λ c d. (c ≡ c1) × (d ≡ d1)) (FaultDone p v q c0 d0)
      (c1, d1, (refl, refl), (whens 8 (handle_page_fault_code p page.code ++ Eret ∷ []) short).enters (n + length save_and_classify_code) c1 d1 fork idle (λ z. omega (arith, z, s.1)))
      (λ c2 d2 e2. block w runs (handle_page_fault_code p page.code) (9 + (swap_steps p b c0.memory + 31)) (n + length save_and_classify_code + 1) c2 d2 (FaultDone p v q c0 d0) (runs.front w (n + length save_and_classify_code + 1) (handle_page_fault_code p page.code) (Eret ∷ []) fork.1)
      (works c2 d2 (subst (λ c. Ready c0 d0 c d2) (sym e2.0) (subst (λ d. Ready c0 d0 c1 d) (sym e2.1) s.0)))))

pub handles : (w : World) → Sound w → RunsCompose → AlikesStand → SavesRegisters w → RestoresRegisters w → ((r : ℕ) (body : List Inst) → length body < 32768 → WhenRuns w r body) → HandlesFaults w
handles w f runs alikes saves restores whens p b page v base e n c d si pt may at h asked =
    let fork = runs.front w (n + length save_and_classify_code) (when_code 8 (handle_page_fault_code p page.code ++ Eret ∷ [])) (enter_kernel_code ++ J 0x4000 ∷ []) (runs.back w n save_and_classify_code (when_code 8 (handle_page_fault_code p page.code ++ Eret ∷ []) ++ (enter_kernel_code ++ J 0x4000 ∷ [])) at) in
    let stands = runs.back w (n + length save_and_classify_code + 1) (handle_page_fault_code p page.code) (Eret ∷ []) fork.1 in (
      comes w runs (swap_steps p b c.memory + 85) n (fault_eret_at n p page.code) Eret c d (FaultDone p v (base + e / 4096) c d)
          (later w runs (44 + (1 + (9 + (swap_steps p b c.memory + 31)))) (swap_steps p b c.memory + 85) n _ _ c d _ (omega arith) refl (comes_back w f runs alikes saves restores p b page v base e si pt may c d asked whens n at h))
          stands.0,
      few w f runs alikes saves restores p b page v base e si pt may c d asked,
    )
