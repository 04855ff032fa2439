-- A handled fault of a user: which page it asks for, by the step's fetch, load or store.
use Rattle.std.proofs.Common.{◌≡◌, ℕ, ◌*◌, ◌/◌, ◌<◌, ◌≤◌, ◌⊎◌, ◌&&◌, Option, Some, None, Bool, true, false, not, nat_lt, length, slice_index, refl, sym, ap, ◌∙◌, subst, inl, inr, arith, true≢false, lt-ltb, ltb-true, eqb-true}
use Rattle.std.specs.Prelude.{◌==◌, if◌then◌else◌, is_some}
use Rattle.std.proofs.lemmas.Bool.{cond-true, cond-false, cond_both, ltb-false}
use Rattle.mips_table.specs.declared.inst.Inst.{Inst}
use Rattle.mips_table.specs.declared.inst.Inst.TheVariants.{Mfc0, Mtc0, Eret}
use Rattle.mips_table.specs.declared.cause.Cause.{Cause}
use Rattle.mips_table.specs.declared.cause.Cause.TheVariants as causes
use Rattle.mips_table.specs.declared.effect.Effect.{Effect}
use Rattle.mips_table.specs.declared.effect.Effect.TheVariants.{Set, Wide, Load, Store, Overflow, Call, System}
use Rattle.mips_table.specs.Decoding.{decoding}
use Rattle.mips_table.specs.Device.{Environment}
use Rattle.mips_table.specs.declared.special.TheConstants.{SR, PTL}
use Rattle.mips_table.specs.Machine.{cause_number, in_system}
use Rattle.mips_table.specs.Processor.{Cpu, Access, Move, Ran, Loaded, Stored, Trapped, Privileged, is_aligned, advanced, accessed, performed, executed, effect_on, move}
use Rattle.mips_table.specs.Machine.{State, Coming, Interrupt, located, read_at, access, fetch, fetched, privileged, moved, latched, coming}
use Rattle.mips_table.specs.Turns.{is_handled, handled}
use Rattle.page_model.specs.Paging.{IsAccessible}
use Rattle.page_model.specs.Faults.{UserStep, AsksForPage, ByFetch, ByData}
use Rattle.cvm_model.specs.Kernel.{Core}
use Rattle.cvm_model.specs.Primitives.{user_of, pages_of}
use Rattle.cvm_model.specs.Paged.{paged_of}
use Rattle.cvm_model.specs.Stands.{Site}
use Rattle.layer_contract.specs.Layer.{page_at}
use Rattle.layer_contract.specs.Users.{code_alone, and_word, pages_of_effect, pages_of_inst, step_pages, FaultsAsk}
use Rattle.layer_contract.proofs.AddressesStand.{own, Place, Past, Faults, There, Known, place, refused_page, user_fits, below, above, number_below}
use Rattle.layer_contract.proofs.WordsInFrames.{word_is}
use Rattle.layer_contract.proofs.InterruptedUser.{right, fetches}

-- a move that is a fault of a page below the size
abbrev Faulted : ℕ → Move → Type 0
Faulted ptl (Trapped causes.FetchFault edata epc) = nat_lt (edata / 4096) ptl ≡ true
Faulted ptl (Trapped causes.DataFault edata epc) = nat_lt (edata / 4096) ptl ≡ true
Faulted ptl other = ⊥

-- so is one that comes to a handled fault
faulted : (x : Environment) (s t : State) (m : Move) → is_handled s (moved x t m) ≡ true → Faulted (slice_index s.special PTL) m
faulted x s t (Ran c) e = absurd (cc)
faulted x s t (Loaded c r address) e = absurd (cc)
faulted x s t (Stored c address v) e = absurd (cc)
faulted x s t (Trapped causes.FetchFault edata epc) e = e
faulted x s t (Trapped causes.DataFault edata epc) e = e
faulted x s t (Trapped causes.Reset edata epc) e = absurd (cc)
faulted x s t (Trapped causes.External edata epc) e = absurd (cc)
faulted x s t (Trapped causes.FetchAlign edata epc) e = absurd (cc)
faulted x s t (Trapped causes.Illegal edata epc) e = absurd (cc)
faulted x s t (Trapped causes.Overflow edata epc) e = absurd (cc)
faulted x s t (Trapped causes.Syscall edata epc) e = absurd (cc)
faulted x s t (Trapped causes.DataAlign edata epc) e = absurd (cc)
faulted x s t (Privileged word) e = absurd (true≢false (sym e ∙ cond_both (in_system t.special) (privileged t word (decoding word)) (Interrupt t causes.Illegal word t.cpu.pc) (λ c. is_handled s c ≡ false) (λ _. none (decoding word)) (λ _. refl)))
  where
    none : (o : Option Inst) → is_handled s (privileged t word o) ≡ false
    none (Some (Mfc0 rt k)) = refl
    none (Some (Mtc0 rt k)) = refl
    none (Some Eret) = refl
    none other = refl

reads : (s : State) (a : ℕ) → nat_lt (a / 4) (length s.memory) ≡ true → read_at s (Some a) ≡ slice_index s.memory (a / 4)
reads s a e = rw e refl

module _ (x : Environment) (y : Site) (s : State) (c : Core) (k : Known x y s c) where
  abbrev ptl : ℕ
  ptl = slice_index s.special PTL

  abbrev pc : ℕ
  pc = s.cpu.pc

  abbrev same_pc : (user_of c.users c.current).cpu.pc ≡ s.cpu.pc
  same_pc = ap (λ (p : Cpu). p.pc) (sym k.runs.cpu)

  -- a step of these pages that comes to a fault
  record Asked (u : UserStep) (m : Move) : Type 0 where
    why : Cause
    edata : ℕ
    is : m ≡ Trapped why edata s.cpu.pc
    number : (cause_number why ≡ 3) ⊎ (cause_number why ≡ 8)
    page : nat_lt (edata / 4096) ptl ≡ true
    store : Bool
    asks : AsksForPage u (paged_of y.map s) (page_at y.map c edata) store
    code : nat_lt (s.cpu.pc / 4) (length (own c)) ≡ true

  to : (u u' : UserStep) (m m' : Move) → u' ≡ u → m' ≡ m → Asked u m → Asked u' m'
  to u u' m m' e f a = subst (λ m. Asked u' m) (sym f) (subst (λ u. Asked u m) (sym e) a)

  -- an access by its tests
  refuses : (may : Bool) (m r : Cause) (a p : ℕ) (go : Move) → is_aligned a ≡ true → may ≡ false → accessed may m r a p go ≡ Trapped r a p
  refuses may m r a p go e f = rw (e, f) refl

  goes : (may : Bool) (m r : Cause) (a p : ℕ) (go : Move) → is_aligned a ≡ true → may ≡ true → accessed may m r a p go ≡ go
  goes may m r a p go e f = rw (e, f) refl

  crooked : (may : Bool) (m r : Cause) (a p : ℕ) (go : Move) → is_aligned a ≡ false → accessed may m r a p go ≡ Trapped m a p
  crooked may m r a p go e = rw e refl

  -- an address past the memory is past the pages
  past : (address : ℕ) → nat_lt (address / 4) (length (own c)) ≡ false → nat_lt (address / 4096) ptl ≡ true → ⊥
  past address e h =
      let big : pages_of (user_of c.users c.current) ≤ address / 4096 = above x y s c k address (ltb-false _ _ e) in
      let size : ptl ≡ pages_of (user_of c.users c.current) = k.runs.ptl in
      let small = ltb-true _ _ h in
      absurd (omega arith)

  -- the page of a load or a store
  module _ (word : ℕ) (inside : nat_lt (s.cpu.pc / 4) (length (own c)) ≡ true) (fetched_page : IsAccessible (paged_of y.map s) (page_at y.map c s.cpu.pc) false) where
    data_asks : (address : ℕ) (store : Bool) (go : Move) → (Faulted ptl go → ⊥) → Faulted ptl (accessed (is_some (located s store address)) causes.DataAlign causes.DataFault address s.cpu.pc go)
        → Asked (and_word y.map c address store) (accessed (is_some (located s store address)) causes.DataAlign causes.DataFault address s.cpu.pc go)
    data_asks address store go none f = by (is_aligned address) refl
      where
        m : Move
        m = accessed (is_some (located s store address)) causes.DataAlign causes.DataFault address s.cpu.pc go

        at : is_aligned address ≡ true → Place y.map s c store address → Asked (and_word y.map c address store) m
        at a (Past e is) = absurd (past address e (subst (Faulted ptl) (refuses _ causes.DataAlign causes.DataFault address s.cpu.pc go a (ap is_some is)) f))
        at a (There e pa frame is names free there) = absurd (none (subst (Faulted ptl) (goes _ causes.DataAlign causes.DataFault address s.cpu.pc go a (ap is_some is)) f))
        at a (Faults e h is) =
            let two : UserStep = record { code_page = page_at y.map c (user_of c.users c.current).cpu.pc; touches = true; data_page = page_at y.map c address; store = store } in
            to two (and_word y.map c address store) (Trapped causes.DataFault address s.cpu.pc) m (cond-true (nat_lt (address / 4) (length (own c))) two (code_alone y.map c) e) (refuses _ causes.DataAlign causes.DataFault address s.cpu.pc go a (ap is_some is))
            (record {
              why = causes.DataFault;
              edata = address;
              is = refl;
              number = inr refl;
              page = h;
              store = store;
              asks = ByData refl refl refl (subst (λ p. IsAccessible (paged_of y.map s) (page_at y.map c p) false) (sym same_pc) fetched_page) (refused_page x y s c k store address e is);
              code = inside;
            })

        by : (b : Bool) → is_aligned address ≡ b → Asked (and_word y.map c address store) m
        by true a = at a (place x y s c k store address)
        by false a = absurd (subst (Faulted ptl) (crooked (is_some (located s store address)) causes.DataAlign causes.DataFault address s.cpu.pc go a) f)

    effect_asks : (e : Effect) → Faulted ptl (performed (access (latched x s)) s.cpu word e) → Asked (pages_of_effect y.map c e) (performed (access (latched x s)) s.cpu word e)
    effect_asks (Set r v t) f = absurd f
    effect_asks (Wide hi lo t) f = absurd f
    effect_asks (Load r address) f = data_asks address false (Loaded (advanced s.cpu) r address) (λ h. h) f
    effect_asks (Store address v) f = data_asks address true (Stored (advanced s.cpu) address v) (λ h. h) f
    effect_asks Overflow f = absurd f
    effect_asks Call f = absurd f
    effect_asks System f = absurd f

    inst_asks : (o : Option Inst) → Faulted ptl (executed (access (latched x s)) s.cpu word o) → Asked (pages_of_inst y.map c o) (executed (access (latched x s)) s.cpu word o)
    inst_asks None f = absurd f
    inst_asks (Some i) f = to (pages_of_effect y.map c (effect_on i s.cpu)) (pages_of_inst y.map c (Some i)) (executed (access (latched x s)) s.cpu word (Some i)) _ (ap (λ p. pages_of_effect y.map c (effect_on i p)) (sym k.runs.cpu)) refl (effect_asks (effect_on i s.cpu) f)

  -- the fetch, and the instruction
  abbrev A : Access
  A = access (latched x s)

  abbrev machine_word : ℕ
  machine_word = read_at (latched x s) (located s false s.cpu.pc)

  abbrev pc_word : ℕ
  pc_word = slice_index (own c) (s.cpu.pc / 4)

  step_is : step_pages y.map c ≡ pages_of_inst y.map c (decoding pc_word)
  unfolding step_pages
  step_is = ap (λ p. pages_of_inst y.map c (decoding (slice_index (own c) (p / 4)))) same_pc

  code_page_of : (o : Option Inst) → (pages_of_inst y.map c o).code_page ≡ page_at y.map c (user_of c.users c.current).cpu.pc
  code_page_of None = refl
  code_page_of (Some i) = by (effect_on i (user_of c.users c.current).cpu)
    where
      two : (address : ℕ) (store : Bool) → (and_word y.map c address store).code_page ≡ page_at y.map c (user_of c.users c.current).cpu.pc
      two address store = cond_both (nat_lt (address / 4) (length (own c))) (record { code_page = page_at y.map c (user_of c.users c.current).cpu.pc; touches = true; data_page = page_at y.map c address; store = store }) (code_alone y.map c)
          (λ (u : UserStep). u.code_page ≡ page_at y.map c (user_of c.users c.current).cpu.pc) (λ _. refl) (λ _. refl)

      by : (e : Effect) → (pages_of_effect y.map c e).code_page ≡ page_at y.map c (user_of c.users c.current).cpu.pc
      by (Load r address) = two address false
      by (Store address v) = two address true
      by other = refl

  below_pages : (address : ℕ) → nat_lt (address / 4) (length (own c)) ≡ true → page_at y.map c address < y.map.users * y.map.params.pages
  below_pages address e =
      let lt = below x y s c k address (ltb-true _ _ e) in let most = (user_fits x y s c k).pages in
      number_below x y s c k (address / 4096) (omega arith)

  data_page_of : (o : Option Inst) → page_at y.map c (user_of c.users c.current).cpu.pc < y.map.users * y.map.params.pages → (pages_of_inst y.map c o).data_page < y.map.users * y.map.params.pages
  data_page_of None lt = lt
  data_page_of (Some i) lt = by (effect_on i (user_of c.users c.current).cpu)
    where
      two : (address : ℕ) (store : Bool) → (and_word y.map c address store).data_page < y.map.users * y.map.params.pages
      two address store = cond_both (nat_lt (address / 4) (length (own c))) (record { code_page = page_at y.map c (user_of c.users c.current).cpu.pc; touches = true; data_page = page_at y.map c address; store = store }) (code_alone y.map c)
          (λ (u : UserStep). u.data_page < y.map.users * y.map.params.pages) (λ e. below_pages address e) (λ _. lt)

      by : (e : Effect) → (pages_of_effect y.map c e).data_page < y.map.users * y.map.params.pages
      by (Load r address) = two address false
      by (Store address v) = two address true
      by other = lt

  moves : Faulted ptl (move A s.cpu machine_word) → Asked (step_pages y.map c) (move A s.cpu machine_word)
  moves f = by (is_aligned s.cpu.pc) refl
    where
      m : Move
      m = move A s.cpu machine_word

      go : Move
      go = executed A s.cpu machine_word (decoding machine_word)

      at : is_aligned s.cpu.pc ≡ true → Place y.map s c false s.cpu.pc → Asked (step_pages y.map c) m
      at a (Past e is) = absurd (past s.cpu.pc e (subst (Faulted ptl) (refuses _ causes.FetchAlign causes.FetchFault s.cpu.pc s.cpu.pc go a (ap is_some is)) f))
      at a (Faults e h is) =
          to (step_pages y.map c) (step_pages y.map c) (Trapped causes.FetchFault s.cpu.pc s.cpu.pc) m refl (refuses _ causes.FetchAlign causes.FetchFault s.cpu.pc s.cpu.pc go a (ap is_some is))
          (record {
            why = causes.FetchFault;
            edata = s.cpu.pc;
            is = refl;
            number = inl refl;
            page = h;
            store = false;
            asks =
                let page : (step_pages y.map c).code_page ≡ page_at y.map c s.cpu.pc = ap (λ (u : UserStep). u.code_page) step_is ∙ code_page_of (decoding pc_word) ∙ ap (page_at y.map c) same_pc in
                ByFetch (sym page) refl (λ p. refused_page x y s c k false s.cpu.pc e is (subst (λ q. IsAccessible (paged_of y.map s) q false) page p));
            code = e;
          })
      at a (There e pa frame is names free there) =
          let word = word_is x y s c k s.cpu.pc (ltb-true _ _ e) frame names pa there in
          let inside : nat_lt (pa / 4) (length s.memory) ≡ true = lt-ltb _ _ word.0 in
          let same : machine_word ≡ pc_word = ap (read_at (latched x s)) is ∙ reads (latched x s) pa inside ∙ word.1 in
          let moved_on : m ≡ executed A s.cpu pc_word (decoding pc_word) = goes _ causes.FetchAlign causes.FetchFault s.cpu.pc s.cpu.pc go a (ap is_some is) ∙ ap (λ w. executed A s.cpu w (decoding w)) same in
          let passes : IsAccessible (paged_of y.map s) (page_at y.map c s.cpu.pc) false = record { valid = omega (arith, names); unprotected = λ q. absurd (cc) } in
          to (pages_of_inst y.map c (decoding pc_word)) (step_pages y.map c) (executed A s.cpu pc_word (decoding pc_word)) m step_is moved_on (inst_asks pc_word e passes (decoding pc_word) (subst (Faulted ptl) moved_on f))

      by : (b : Bool) → is_aligned s.cpu.pc ≡ b → Asked (step_pages y.map c) m
      by true a = at a (place x y s c k false s.cpu.pc)
      by false a = absurd (subst (Faulted ptl) (crooked (is_some (located s false s.cpu.pc)) causes.FetchAlign causes.FetchFault s.cpu.pc s.cpu.pc go a) f)

pub asks_page : FaultsAsk
unfolding handled
asks_page x y s c p h =
    let k : Known x y s c = record { range = p.range; mode = eqb-true _ _ (right _ _ p.back.user); runs = p.back.stands.users.runs p.back.user; stands = p.back.stands } in
    let l : State = latched x s in
    let m : Move = move (access l) s.cpu (fetch l) in
    let external : Coming = Interrupt l causes.External l.mask s.cpu.pc in
    let line : Bool = slice_index s.special SR == 1 && not (l.mask == 0) in
    let faults : is_handled s (coming x l) ≡ true = right _ _ (right _ _ h) in
    let not_reset : coming x l ≡ (if line then external else moved x (fetched l) m) = cond-false s.reset (Interrupt l causes.Reset 0 s.cpu.pc) (if line then external else moved x (fetched l) m) p.back.stands.no_reset in
    let instruction : coming x l ≡ moved x (fetched l) m = not_reset ∙ no_line line external (moved x (fetched l) m) refl (ap (is_handled s) (sym not_reset) ∙ faults) in
    let moved_on : coming x l ≡ moved x l m = instruction ∙ ap (λ t. moved x t m) (fetches x y s c k) in
    let a = moves x y s c k (faulted x s l m (ap (is_handled s) (sym moved_on) ∙ faults)) in
    let page : (step_pages y.map c).code_page ≡ page_at y.map c (user_of c.users c.current).cpu.pc = ap (λ (u : UserStep). u.code_page) (step_is x y s c k) ∙ code_page_of x y s c k (decoding (pc_word x y s c k)) in
    let inside : page_at y.map c (user_of c.users c.current).cpu.pc < y.map.users * y.map.params.pages =
    subst (λ q. page_at y.map c q < y.map.users * y.map.params.pages) (sym (same_pc x y s c k)) (below_pages x y s c k s.cpu.pc a.code) in
    record {
      why = a.why;
      edata = a.edata;
      comes = moved_on ∙ ap (moved x l) a.is;
      number = a.number;
      page = ltb-true _ _ a.page;
      store = a.store;
      asks = a.asks;
      code_page = subst (λ q. q < y.map.users * y.map.params.pages) (sym page) inside;
      data_page = subst (λ (u : UserStep). u.data_page < y.map.users * y.map.params.pages) (sym (step_is x y s c k)) (data_page_of x y s c k (decoding (pc_word x y s c k)) inside);
    }
  where
    no_line : (line : Bool) (external moves : Coming) → is_handled s external ≡ false → is_handled s (if line then external else moves) ≡ true → (if line then external else moves) ≡ moves
    no_line true external moves none e = absurd (true≢false (sym e ∙ none))
    no_line false external moves none e = refl
