-- The whole block: a page is brought in, to read or to store.
use Rattle.std.proofs.Common.{◌≡◌, ◌≢◌, ℕ, ◌+◌, ◌-◌, ◌*◌, ◌/◌, ◌%◌, ◌^◌, ◌<◌, ◌≤◌, ◌⊎◌, Bool, true, false, cond, nat_lt, List, [], ◌∷◌, ◌++◌, refl, sym, ap, ap₂, ◌∙◌, subst, ⊎_elim, inl, inr, arith, le-ltb}
use Rattle.std.proofs.lemmas.Bool.{cases_eq, cond-false}
use Rattle.std.proofs.Math.Nat.{mul-le-mul_right}
use Rattle.mips_table.specs.declared.inst.Inst.{Inst}
use Rattle.mips_table.specs.declared.inst.Inst.TheVariants.{Sll, Srl, Addiu, Lw}
use Rattle.mips_table.specs.Device.{Idle}
use Rattle.mips_table.specs.Code.{put, reg, Contents, Behind, World, Sound}
use Rattle.mips_table.proofs.PutsChangeOneWord.{put_same, put_other}
use Rattle.mips_table.proofs.NumbersInHalves.{const_is}
use Rattle.layer_map.specs.Map.{hand_at}
use Rattle.masm.specs.Says.{Says, Gives, Reads, Writes, straight, sayings}
use Rattle.masm.specs.Blocks.{when_code}
use Rattle.masm.specs.Laws.{From}
use Rattle.masm.specs.Stays.{all_into}
use Rattle.page_model.specs.Paging.{IsUserFrame, IsFrame, Protected, MapsTo, Paged, Pages, PagingInvariant, IsAccessible}
use Rattle.page_model.specs.Edits.{Retargeted}
use Rattle.page_model.specs.Faults.{InPlace, ByFill, Brought}
use Rattle.page_model.specs.TableLayout.{TableLayout, count_at, slot_at, paged_view}
use Rattle.frame_table.specs.Code.{user_frame_number_code}
use Rattle.masm.specs.Frames.{Besides}
use Rattle.frame_table.specs.View.{Sited, Ported, LeftByEviction, scratch, names_hand}
use Rattle.frame_table.proofs.KeptIsNotScratch.{kept_out}
use Rattle.page_fault.specs.declared.block.TheConstants.{CLEAR_PROTECTION}
use Rattle.page_fault.specs.Code.{look_up_page_code, page_in_code, is_sole_mapping_code, copy_on_write_code, check_protection_code, check_store_code, handle_page_code}
use Rattle.page_fault.specs.Asked.{BringsIn, IsPageBlock, PageAsked, PageDone, PageBlock, swap_steps, fault_steps}
use Rattle.page_fault.proofs.BlocksFrom.{from_straight, from_then, from_when, from_later, straight_then}
use Rattle.page_fault.proofs.BlockPremises.{Laws, names_own, besides_same, besides_on}
use Rattle.page_fault.proofs.BlockParts.{FillAsked, FillDone}
use Rattle.page_fault.proofs.WordsFound.{seen_says}
use Rattle.page_fault.proofs.EvictAndPlace.{fill_from}

module _ (w : World) (f : Sound w) (laws : Laws w) (p : TableLayout) (b : ℕ) (si : Sited p w) (pt : Ported p w b) (v : Pages) (q : ℕ) (store : Bool) (c0 : Contents) (d0 : Behind) (a : PageAsked p v q store c0 d0) where
  abbrev e : ℕ
  e = c0.memory (p.tables + q)

  abbrev before : Paged
  before = paged_view p c0.memory d0.sectors

  -- nothing has changed but registers
  record Same (c : Contents) (d : Behind) : Type 0 where
    memory : c.memory ≡ c0.memory
    special : c.special ≡ c0.special
    hi : c.hi ≡ c0.hi
    lo : c.lo ≡ c0.lo
    regs : (x : ℕ) → LeftByEviction x → c.regs x ≡ c0.regs x
    disk : d ≡ d0

  idle_same : (c : Contents) (d : Behind) → Same c d → d.pending ≡ Idle
  idle_same c d s = ap (λ d. d.pending) s.disk ∙ a.idle

  besides_of : (c : Contents) (d : Behind) → Same c d → Besides c0 d0 c d
  besides_of c d s = record { special = s.special; hi = s.hi; lo = s.lo; log = ap (λ d. d.log) s.disk; input = ap (λ d. d.input) s.disk; idle = idle_same c d s }

  same_after : (is : List Inst) (hs : List Says) (n : ℕ) (c : Contents) (d : Behind) → straight is ≡ true → all_into scratch is ≡ true → (sayings n is hs c).memory ≡ c.memory → (((sayings n is hs c).special ≡ c.special) × ((sayings n is hs c).hi ≡ c.hi) × ((sayings n is hs c).lo ≡ c.lo)) → Same c d → Same (sayings n is hs c) d
  same_after is hs n c d g i m sp s = record { memory = m ∙ s.memory; special = sp.0 ∙ s.special; hi = sp.1 ∙ s.hi; lo = sp.2 ∙ s.lo; regs = λ x o. laws.stays scratch x (kept_out x o) is hs n c g i ∙ s.regs x o; disk = s.disk }

  -- a frame has to be filled, or all is done
  abbrev Verdict : Contents → Behind → Type 0
  Verdict c d = ((c.regs 12 ≢ 0) × Same c d × (IsAccessible before q store → ⊥)) ⊎ ((c.regs 12 ≡ 0) × PageDone p v q store c0 d0 c d)

  -- the page passes as it is
  passes_done : (c : Contents) (d : Behind) → Same c d → IsAccessible before q store → PageDone p v q store c0 d0 c d
  passes_done c d s pass =
      let eq : paged_view p c.memory d.sectors ≡ before = ap₂ (paged_view p) s.memory (ap (λ d. d.sectors) s.disk) in
      let i : InPlace p.layout q store before before = record { was = pass.valid; passes = pass; entries = λ x lt ne. refl; frames = λ y is j lt. refl; sectors = λ x lx j lt. refl; hand = refl } in
      let br : Brought p.layout q store before before = record { handled = inl i; idle = λ k. i } in record {
        stands = subst (PagingInvariant p.layout v) (sym eq) a.stands;
        brought = subst (Brought p.layout q store before) (sym eq) br;
        stays = λ ps. ap (λ m. m (p.tables + q)) s.memory;
        low = λ x lt ne. ap (λ m. m x) s.memory;
        above = λ x le lt. ap (λ m. m x) s.memory;
        small = λ x lt. subst (λ m. m (p.tables + x) < 2 ^ 32) (sym s.memory) (a.small x lt);
        beyond = λ x i le. ap (λ d. d.sectors x i) s.disk;
        regs = s.regs;
        besides = besides_of c d s;
      }

  abbrev open_says : List Says
  open_says = Gives 0 ∷ Gives (e - 1024) ∷ Writes (p.tables + q) (e - 1024) ∷ []

  -- the page is alone in its frame: its protection goes
  opens : (c : Contents) (d : Behind) → Same c d → e / 2048 % 2 ≡ 1 → Protected e → store ≡ true → IsUserFrame p.layout (e / 4096) → c0.memory (count_at p (e / 4096)) ≡ 1 → c.regs 10 ≡ e → c.regs 20 ≡ 4 * (p.tables + q) → From w CLEAR_PROTECTION 3 c d Verdict
  opens c d s val prot st user one r10 r20 =
      let low = si.low in let first = si.first in let second = si.second in let third = si.third in let words = f.small in let inside = a.inside in
      let u0 = user.0 in let u1 = user.1 in let small = a.small q inside in
      let own : MapsTo e (e / 4096) = names_own e val in
      let still : MapsTo (e - 1024) (e / 4096) = omega arith in
      let secs : (x j : ℕ) → d.sectors x j ≡ d0.sectors x j = λ x j. ap (λ d. d.sectors x j) s.disk in
      let after : Paged = paged_view p (put c.memory (p.tables + q) (e - 1024)) d.sectors in
      let here : put c.memory (p.tables + q) (e - 1024) (p.tables + q) ≡ e - 1024 = put_same c.memory (p.tables + q) (e - 1024) (p.tables + q) refl in
      let wrote : (x : ℕ) → x ≢ p.tables + q → put c.memory (p.tables + q) (e - 1024) x ≡ c0.memory x = λ x ne. put_other c.memory (p.tables + q) (e - 1024) x ne ∙ ap (λ m. m x) s.memory in
      let r : Retargeted p.layout q (e - 1024) before (paged_view p (put c.memory (p.tables + q) (e - 1024)) d.sectors) = record {
        entry = here;
        entries = λ x lt ne. wrote (p.tables + x) (omega arith);
        lists = λ y uy. let y0 = uy.0 in let y1 = uy.1 in let four = laws.lists.few p.layout v before y a.stands uy in record {
          stays = λ same. (wrote (count_at p y) (omega arith), λ k lk. wrote (slot_at p y k) (omega arith));
          joins = λ away names. absurd (away (same_names y names));
          parts = λ names away. absurd (away (names_same y names));
        };
        frames = λ y uy j lj. let y0 = uy.0 in let y1 = uy.1 in wrote (1024 * y + j) (omega arith);
        sectors = λ x lt ne j lj. secs x j;
        hand = ap (λ y. p.layout.zeros + 1 + y) (wrote hand_at (omega arith));
      } in
      let pl : InPlace p.layout q store before (paged_view p (put c.memory (p.tables + q) (e - 1024)) d.sectors) = record {
        was = val;
        passes = record { valid = ap (λ y. y / 2048 % 2) here ∙ omega arith; unprotected = λ st pr. let z : (e - 1024) / 1024 % 2 ≡ 1 = sym (ap (λ y. y / 1024 % 2) here) ∙ pr in omega arith };
        entries = r.entries;
        frames = r.frames;
        sectors = λ x lx j lt. secs x j;
        hand = r.hand;
      } in
      from_straight w laws.runs laws.straight CLEAR_PROTECTION open_says c d Verdict refl (idle_same c d s)
      (λ n. (
        (refl, (omega arith, ((omega arith, omega arith, si.free _ (omega arith) (omega arith), refl), tt))),
        inr (
          refl,
          record {
            stands = laws.protection.opened p.layout v q (e / 4096) (e - 1024) before (paged_view p (put c.memory (p.tables + q) (e - 1024)) d.sectors) a.stands inside a.live own user (omega arith) still r;
            brought = record { handled = inl pl; idle = λ k. pl };
            stays = λ ps. absurd (ps.unprotected st prot);
            low = λ x lt ne. wrote x (omega arith);
            above = λ x le lt. wrote x (omega arith);
            small = λ x lt. ⊎_elim (λ eq. let z : put c.memory (p.tables + q) (e - 1024) (p.tables + x) ≡ e - 1024 = ap (λ y. put c.memory (p.tables + q) (e - 1024) (p.tables + y)) eq ∙ here in omega arith) (λ ne. let z = wrote (p.tables + x) (omega arith) in let k = a.small x lt in omega arith) (cases_eq x q);
            regs = λ x o. laws.stays scratch x (kept_out x o) CLEAR_PROTECTION open_says n c refl refl ∙ s.regs x o;
            beyond = λ x i le. secs x i;
            besides = besides_same c0 c _ d0 d refl refl refl (besides_of c d s);
          },
        ),
      ))
    where
      same_names : (y : ℕ) → MapsTo (e - 1024) y → MapsTo e y
      same_names y n = omega arith

      names_same : (y : ℕ) → MapsTo e y → MapsTo (e - 1024) y
      names_same y n = omega arith

  abbrev cnt : ℕ
  cnt = c0.memory (count_at p (e / 4096))

  abbrev alone_says : ℕ → List Says
  alone_says t = Gives (4 * p.counts / 65536 * 2 ^ 16) ∷ Gives (4 * p.counts) ∷ Gives (e / 4096 - p.layout.zeros - 1) ∷ Gives (32 * (e / 4096 - p.layout.zeros - 1)) ∷ Gives (4 * count_at p (e / 4096)) ∷ Reads (count_at p (e / 4096)) cnt ∷ Gives (cnt - 1) ∷ Gives t ∷ []

  -- it is a user frame: is the page alone in it
  alone : (c : Contents) (d : Behind) → Same c d → e / 2048 % 2 ≡ 1 → Protected e → store ≡ true → IsUserFrame p.layout (e / 4096) → c.regs 8 ≡ e / 4096 - p.layout.zeros → c.regs 10 ≡ e → c.regs 12 ≡ 1 → c.regs 20 ≡ 4 * (p.tables + q) → From w (is_sole_mapping_code p ++ when_code 9 CLEAR_PROTECTION) (8 + (3 + 1)) c d Verdict
  alone c d s val prot st user r8 r10 r12 r20 =
      let low = si.low in let first = si.first in let second = si.second in let third = si.third in let most = si.most in let words = f.small in let inside = a.inside in
      let u0 = user.0 in let u1 = user.1 in
      let k = a.stands.counts (e / 4096) user in let few = a.stands.few (e / 4096) user in let least = laws.counts.one before.entry (e / 4096) q p.layout.pages inside (names_own e val) in
      let is : c.memory (count_at p (e / 4096)) ≡ cnt = ap (λ m. m (count_at p (e / 4096))) s.memory in
      ⊎_elim
      (λ one. straight_then w laws.runs laws.straight (is_sole_mapping_code p) (when_code 9 CLEAR_PROTECTION) (alone_says 1) (3 + 1) c d Verdict refl (idle_same c d s)
      (λ n. (refl, (const_is (4 * p.counts), (omega arith, (omega arith, (omega arith, ((omega arith, omega arith, is), (omega arith, (ap (λ y. cond (nat_lt (y - 1) 1) 1 0) one, tt)))))))))
      (λ n. from_when w laws.runs laws.whens 9 CLEAR_PROTECTION 3 _ d Verdict (omega arith) (idle_same c d s)
      (λ ne. opens _ d (same_after (is_sole_mapping_code p) (alone_says 1) n c d refl refl refl (refl, refl, refl) s) val prot st user one r10 r20)
      (λ z. absurd (omega arith))))
      (λ ne. straight_then w laws.runs laws.straight (is_sole_mapping_code p) (when_code 9 CLEAR_PROTECTION) (alone_says 0) (3 + 1) c d Verdict refl (idle_same c d s)
      (λ n. (refl, (const_is (4 * p.counts), (omega arith, (omega arith, (omega arith, ((omega arith, omega arith, is), (omega arith, (cond-false (nat_lt (cnt - 1) 1) 1 0 (le-ltb _ 1 (omega arith)), tt)))))))))
      (λ n. from_when w laws.runs laws.whens 9 CLEAR_PROTECTION 3 _ d Verdict (omega arith) (idle_same c d s)
      (λ z. absurd (z refl))
      (λ z. inl ((λ zz. let x : c.regs 12 ≡ 0 = zz in omega arith), same_after (is_sole_mapping_code p) (alone_says 0) n c d refl refl refl (refl, refl, refl) s, λ ps. ps.unprotected st prot))))
      (cases_eq cnt 1)

  abbrev shared_says : List Says
  shared_says = Gives 1 ∷ Gives (p.layout.zeros / 65536 * 2 ^ 16) ∷ Gives p.layout.zeros ∷ Gives (e / 4096 - p.layout.zeros) ∷ []

  shares : (c : Contents) (d : Behind) → Same c d → e / 2048 % 2 ≡ 1 → Protected e → store ≡ true → c.regs 10 ≡ e → c.regs 20 ≡ 4 * (p.tables + q) → c.regs 21 ≡ e / 4096 → From w (copy_on_write_code p) (4 + (8 + (3 + 1) + 1)) c d Verdict
  shares c d s val prot st r10 r20 r21 =
      let low = si.low in let first = si.first in let second = si.second in let third = si.third in let words = f.small in let inside = a.inside in
      let in' : IsFrame p.layout (e / 4096) = a.stands.named q (e / 4096) inside (names_own e val) in
      let lo = in'.0 in let hi = in'.1 in
      straight_then w laws.runs laws.straight (Addiu 12 0 1 ∷ user_frame_number_code p) (when_code 8 (is_sole_mapping_code p ++ when_code 9 CLEAR_PROTECTION)) shared_says _ c d Verdict refl (idle_same c d s)
      (λ n. (refl, (refl, (const_is p.layout.zeros, (omega arith, tt)))))
      (λ n. from_when w laws.runs laws.whens 8 (is_sole_mapping_code p ++ when_code 9 CLEAR_PROTECTION) (8 + (3 + 1)) _ d Verdict (omega arith) (idle_same c d s)
      (λ ne. let some : e / 4096 - p.layout.zeros ≢ 0 = ne in alone _ d (same_after (Addiu 12 0 1 ∷ user_frame_number_code p) shared_says n c d refl refl refl (refl, refl, refl) s) val prot st (omega arith, hi) refl r10 refl r20)
      (λ z. inl ((λ zz. omega arith), same_after (Addiu 12 0 1 ∷ user_frame_number_code p) shared_says n c d refl refl refl (refl, refl, refl) s, λ ps. ps.unprotected st prot)))

  abbrev guard_says : List Says
  guard_says = Reads (p.tables + q) e ∷ Gives (e / 1024) ∷ Gives (e / 1024 * 2 ^ 31 % 2 ^ 32) ∷ []

  guards : (c : Contents) (d : Behind) → Same c d → e / 2048 % 2 ≡ 1 → store ≡ true → c.regs 12 ≡ 0 → c.regs 20 ≡ 4 * (p.tables + q) → c.regs 21 ≡ e / 4096 → From w (check_protection_code p) (3 + (4 + (8 + (3 + 1) + 1) + 1)) c d Verdict
  guards c d s val st r12 r20 r21 =
      let low = si.low in let first = si.first in let second = si.second in let third = si.third in let words = f.small in let inside = a.inside in
      straight_then w laws.runs laws.straight (Lw 10 20 0 ∷ Srl 11 10 10 ∷ Sll 11 11 31 ∷ []) (when_code 11 (copy_on_write_code p)) guard_says _ c d Verdict refl (idle_same c d s)
      (λ n. ((omega arith, omega arith, ap (λ m. m (p.tables + q)) s.memory), (refl, (refl, tt))))
      (λ n. from_when w laws.runs laws.whens 11 (copy_on_write_code p) _ _ d Verdict (omega arith) (idle_same c d s)
      (λ ne. let some : e / 1024 * 2 ^ 31 % 2 ^ 32 ≢ 0 = ne in shares _ d (same_after (Lw 10 20 0 ∷ Srl 11 10 10 ∷ Sll 11 11 31 ∷ []) guard_says n c d refl refl refl (refl, refl, refl) s) val (omega arith) st refl r20 r21)
      (λ z. let none : e / 1024 * 2 ^ 31 % 2 ^ 32 ≡ 0 = z in inr (r12, passes_done _ d (same_after (Lw 10 20 0 ∷ Srl 11 10 10 ∷ Sll 11 11 31 ∷ []) guard_says n c d refl refl refl (refl, refl, refl) s) (record { valid = val; unprotected = λ t pr. omega arith }))))

  is_store : reg c0.regs 15 ≢ 0 → store ≡ true
  is_store n = ⊎_elim (λ t. t) (λ g. absurd (n (a.load g))) (either store)
    where
      either : (s : Bool) → (s ≡ true) ⊎ (s ≡ false)
      either true = inl refl
      either false = inr refl

  abbrev seen : ℕ → ℕ → ℕ → Contents
  seen n u t = sayings n (look_up_page_code p 12) (seen_says p q (c0.memory (p.tables + q)) u t) c0

  seen_same : (n u t : ℕ) → Same (seen n u t) d0
  seen_same n u t = same_after (look_up_page_code p 12) (seen_says p q (c0.memory (p.tables + q)) u t) n c0 d0 refl refl refl (refl, refl, refl) (record { memory = refl; special = refl; hi = refl; lo = refl; regs = λ x o. refl; disk = refl })

  absent : e / 2048 % 2 ≡ 0 → From w (look_up_page_code p 12 ++ check_store_code p) (10 + (3 + (4 + (8 + (3 + 1) + 1) + 1) + 1 + 1)) c0 d0 Verdict
  absent gone =
      let low = si.low in let first = si.first in let second = si.second in let third = si.third in let words = f.small in let inside = a.inside in let page = a.page in let small = a.small q inside in
      straight_then w laws.runs laws.straight (look_up_page_code p 12) (check_store_code p) (seen_says p q (c0.memory (p.tables + q)) 0 1) _ c0 d0 Verdict refl a.idle
      (λ n. (refl, (const_is (4 * p.tables), (omega arith, (omega arith, ((omega arith, omega arith, refl), (refl, (refl, (refl, (omega arith, (refl, tt)))))))))))
      (λ n. from_when w laws.runs laws.whens 15 (when_code 24 (check_protection_code p)) (3 + (4 + (8 + (3 + 1) + 1) + 1) + 1) _ d0 Verdict (omega arith) a.idle
      (λ ne. from_when w laws.runs laws.whens 24 (check_protection_code p) (3 + (4 + (8 + (3 + 1) + 1) + 1)) _ d0 Verdict (omega arith) a.idle
      (λ z. absurd (z refl))
      (λ z. inl ((λ zz. omega arith), seen_same n 0 1, λ ps. let x : e / 2048 % 2 ≡ 1 = ps.valid in omega arith)))
      (λ z. inl ((λ zz. omega arith), seen_same n 0 1, λ ps. let x : e / 2048 % 2 ≡ 1 = ps.valid in omega arith)))

  present : e / 2048 % 2 ≡ 1 → From w (look_up_page_code p 12 ++ check_store_code p) (10 + (3 + (4 + (8 + (3 + 1) + 1) + 1) + 1 + 1)) c0 d0 Verdict
  present val =
      let low = si.low in let first = si.first in let second = si.second in let third = si.third in let words = f.small in let inside = a.inside in let page = a.page in let small = a.small q inside in
      straight_then w laws.runs laws.straight (look_up_page_code p 12) (check_store_code p) (seen_says p q (c0.memory (p.tables + q)) 1 0) _ c0 d0 Verdict refl a.idle
      (λ n. (refl, (const_is (4 * p.tables), (omega arith, (omega arith, ((omega arith, omega arith, refl), (refl, (refl, (refl, (omega arith, (refl, tt)))))))))))
      (λ n. from_when w laws.runs laws.whens 15 (when_code 24 (check_protection_code p)) (3 + (4 + (8 + (3 + 1) + 1) + 1) + 1) _ d0 Verdict (omega arith) a.idle
      (λ ne. from_when w laws.runs laws.whens 24 (check_protection_code p) (3 + (4 + (8 + (3 + 1) + 1) + 1)) _ d0 Verdict (omega arith) a.idle
      (λ one. guards _ d0 (seen_same n 1 0) val (is_store ne) refl refl refl)
      (λ z. absurd (omega arith)))
      (λ z. inr (refl, passes_done _ d0 (seen_same n 1 0) (record { valid = val; unprotected = λ t. absurd (a.save t z) }))))

  tested : From w (look_up_page_code p 12 ++ check_store_code p) 33 c0 d0 Verdict
  tested = ⊎_elim (λ z. absent z) (λ ne. present (omega arith)) (cases_eq (e / 2048 % 2) 0)

  filled : (c : Contents) (d : Behind) → Same c d → (IsAccessible before q store → ⊥) → From w (page_in_code p) (names_hand p c0.memory * (b + 2707) + b + 2771) c d (PageDone p v q store c0 d0)
  filled c d s nay =
      let eq : paged_view p c.memory d.sectors ≡ before = ap₂ (paged_view p) s.memory (ap (λ d. d.sectors) s.disk) in
      let k : names_hand p c.memory * (b + 2707) ≡ names_hand p c0.memory * (b + 2707) = ap (λ m. names_hand p m * (b + 2707)) s.memory in
      let asked : FillAsked p v q c d = record {
        page = s.regs 16 (inl (omega arith, omega arith)) ∙ a.page;
        inside = a.inside;
        live = a.live;
        stands = subst (PagingInvariant p.layout v) (sym eq) a.stands;
        small = λ x lt. subst (λ m. m (p.tables + x) < 2 ^ 32) (sym s.memory) (a.small x lt);
        idle = idle_same c d s;
      } in
      from_later w laws.runs (page_in_code p) (names_hand p c.memory * (b + 2707) + b + 2771) _ c d (FillDone p v q c d) _ (omega arith)
      (λ c' d' k. let by : ByFill p.layout q before (paged_view p c'.memory d'.sectors) = subst (λ x. ByFill p.layout q x (paged_view p c'.memory d'.sectors)) eq k.filled in record {
        stands = k.stands;
        brought = record { handled = inr by; idle = λ ps. absurd (nay ps) };
        stays = λ ps. absurd (nay ps);
        low = λ x lt ne. k.low x lt ne ∙ ap (λ m. m x) s.memory;
        above = λ x le lt. k.above x le lt ∙ ap (λ m. m x) s.memory;
        small = k.small;
        regs = λ x o. k.regs x o ∙ s.regs x o;
        beyond = λ x i le. k.beyond x i le ∙ ap (λ d. d.sectors x i) s.disk;
        besides = besides_on c0 c c' d0 d d' (besides_of c d s) k.besides;
      })
      (fill_from w f laws p b si pt v q c d asked)

  -- THE LAW OF THE BLOCK: a swap for each page that names the frame at the hand, and one
  pub page_from : From w (handle_page_code p) (names_hand p c0.memory * (b + 2707) + b + 2805) c0 d0 (PageDone p v q store c0 d0)
  page_from = from_later w laws.runs (handle_page_code p) (33 + (names_hand p c0.memory * (b + 2707) + b + 2771 + 1)) _ c0 d0 _ _ (omega arith) (λ c d k. k)
      (from_then w laws.runs (look_up_page_code p 12 ++ check_store_code p) (when_code 12 (page_in_code p)) 33 _ c0 d0 Verdict _ tested
      (λ c d o. from_when w laws.runs laws.whens 12 (page_in_code p) _ c d _ (omega arith) (⊎_elim (λ x. idle_same c d x.1) (λ x. x.1.besides.idle) o)
      (λ ne. ⊎_elim (λ x. filled c d x.1 x.2) (λ x. absurd (ne x.0)) o)
      (λ z. ⊎_elim (λ x. absurd (x.0 z)) (λ x. x.1) o)))

  -- a page that passes already is looked at, and no more
  pub idle_from : IsAccessible before q store → From w (handle_page_code p) 34 c0 d0 (PageDone p v q store c0 d0)
  idle_from pass = from_then w laws.runs (look_up_page_code p 12 ++ check_store_code p) (when_code 12 (page_in_code p)) 33 1 c0 d0 Verdict _ tested
      (λ c d o. from_when w laws.runs laws.whens 12 (page_in_code p) 0 c d _ (omega arith) (⊎_elim (λ x. idle_same c d x.1) (λ x. x.1.besides.idle) o)
      (λ ne. ⊎_elim (λ x. absurd (x.2 pass)) (λ x. absurd (ne x.0)) o)
      (λ z. ⊎_elim (λ x. absurd (x.0 z)) (λ x. x.1) o))

  few_names : names_hand p c0.memory ≤ 4
  few_names =
      let k = laws.lists.few p.layout v before before.hand a.stands a.stands.hand in
      let e : count_at p before.hand ≡ p.counts + 8 * c0.memory hand_at = omega arith in
      subst (λ y. c0.memory y ≤ 4) e k

  pub few_steps : swap_steps p b c0.memory ≤ fault_steps b
  few_steps = let le : names_hand p c0.memory * (b + 2707) ≤ 4 * (b + 2707) = mul-le-mul_right _ few_names in omega arith

-- the law, for every map, page and state
pub brings : (w : World) → Sound w → Laws w → BringsIn w
brings w f laws p b v q store c d si pt a = record {
  swaps = page_from w f laws p b si pt v q store c d a;
  within = few_steps w f laws p b si pt v q store c d a;
  idle = idle_from w f laws p b si pt v q store c d a;
}

-- the block, as one that brings in a page
page_block : (w : World) (law : BringsIn w) (p : TableLayout) (b : ℕ) → Sited p w → Ported p w b → PageBlock w p b
page_block w law p b si pt = record { code = handle_page_code p; short = omega arith; does = λ v q store c d a. law p b v q store c d si pt a }

pub page_block_is : (w : World) (law : BringsIn w) → IsPageBlock w
unfolding page_block
page_block_is w law p b si pt = (page_block w law p b si pt, refl)
