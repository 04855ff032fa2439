-- A machine that runs a user whose page is in a frame, and whose step is a store of 0 over the instruction itself.
use Rattle.std.proofs.Common.{◌≡◌, ◌≢◌, ℕ, zero, suc, ◌+◌, ◌-◌, ◌*◌, ◌/◌, ◌%◌, ◌<◌, ◌≤◌, None, true, false, cond, nat_eq, nat_lt, List, [], ◌∷◌, length, replicate, All, slice_index, slice_set, refl, sym, ap, ◌∙◌, subst, ⊎_elim, arith, eq-eqb, ne_eqb, true≢false, length-set, get_or-set_same, get_or-set_other}
use Rattle.std.proofs.lemmas.Bool.{cases_eq, cond_both, cond-false}
use Rattle.std.proofs.lemmas.List.{length-replicate}
use Rattle.std.proofs.lemmas.List.Elements.{All-nil, All-cons, All-set, All-replicate, All-from_recursion}
use Rattle.mips_table.specs.Device.{Idle, Environment, sector_of, HasEightLines}
use Rattle.mips_table.specs.Fits.{IsWord, IsPage}
use Rattle.mips_table.specs.Flat.{Flat, Goes, vstep}
use Rattle.mips_table.specs.Machine.{State, Done, zero_cpu, coming, come_to, step_ended, latched, step}
use Rattle.mips_table.specs.Turns.{is_handled, handled}
use Rattle.mips_table.specs.Processor.{Cpu}
use Rattle.mips_table.specs.Fits.{CpuFits}
use Rattle.layer_map.specs.Map.{Map, MapInRange}
use Rattle.page_model.specs.Paging.{IsUserFrame, MapsTo, counted_entries, Listed, PagingInvariant}
use Rattle.page_model.specs.TableLayout.{page_layout}
use Rattle.c0_meaning.specs.Value.{group, empty}
use Rattle.cvm_model.specs.Kernel.{Core}
use Rattle.cvm_model.specs.Cvm.{Running}
use Rattle.cvm_model.specs.Primitives.{user_of, pages_of}
use Rattle.cvm_model.specs.Paged.{paged_of, pages_by}
use Rattle.cvm_model.specs.Stands.{Site, UserFits, CoreFits, RunningRelation}
use Rattle.layer_contract.specs.Users.{UserStepPremises, ChangesWord, SomeStores}

-- one user of one page, two user frames: the page table is word 17,408, the frame table begins at 18,432, the zero frame at 19,456
abbrev small_map : Map
small_map = record { params = record { pages = 1; frames = 2; heap = 0; stack = 64 }; users = 1; code_words = 0; global_words = 0 }

abbrev site : Site
site = record { map = small_map; linked = [] }

in_range : MapInRange small_map
in_range = record {
  params = record { a_page = omega arith; pages = omega arith; two_frames = omega arith; frames = omega arith; heap = omega arith; least_stack = omega arith; stack = omega arith };
  users = omega arith;
  code_words = omega arith;
  global_words = omega arith;
}

abbrev outside : Environment
outside = record { lines = λ _. 0; busy = λ _. 0; count = 1; last = 0 }

eight : HasEightLines outside
eight t = omega arith

-- the instruction sw r0, 0(r0)
abbrev pub store : ℕ
store = 0xac000000

-- the user's words
pub record IsOwn (ws : List ℕ) : Type 0 where
  pub size : length ws ≡ 1024
  pub first : slice_index ws 0 ≡ store
  pub rest : (i : ℕ) → i ≢ 0 → slice_index ws i ≡ 0
  pub words : All IsWord ws

-- memory: the current user, the size, the entry, the count and the frame
pub record IsMemory (mem : List ℕ) : Type 0 where
  pub size : length mem ≡ 22528
  pub current : slice_index mem 1024 ≡ 1
  pub pages : slice_index mem 12320 ≡ 1
  pub entry : slice_index mem 17408 ≡ 83968
  pub count : slice_index mem 18432 ≡ 1
  pub first : slice_index mem 20480 ≡ store
  pub rest : (k : ℕ) → k ≢ 1024 → k ≢ 12320 → k ≢ 17408 → k ≢ 18432 → k ≢ 20480 → slice_index mem k ≡ 0
  pub words : All IsWord mem

no_cpu_fits : CpuFits zero_cpu
no_cpu_fits = record { pc = omega arith; regs = record { size = refl; each = All-replicate IsWord 32 0 (omega arith); none = refl }; hi = omega arith; lo = omega arith }

special_words : All IsWord (1 ∷ 0 ∷ 0 ∷ 0 ∷ 0 ∷ 69632 ∷ 1 ∷ 1 ∷ 0 ∷ [])
special_words =
    let zero : IsWord 0 = omega arith in
    let one : IsWord 1 = omega arith in
    let table : IsWord 69632 = omega arith in
    All-from_recursion IsWord (1 ∷ 0 ∷ 0 ∷ 0 ∷ 0 ∷ 69632 ∷ 1 ∷ 1 ∷ 0 ∷ []) (one, (zero, (zero, (zero, (zero, (table, (one, (one, (zero, tt)))))))))

module _ (mem ws page : List ℕ) (w : IsOwn ws) (m : IsMemory mem) (p : IsPage page) where
  abbrev user : Flat
  user = record { cpu = zero_cpu; words = ws }

  abbrev core : Core
  core = record { c0 = record { global_values = group empty; heap_values = group empty; heap_words = 0; frames = [] }; users = user ∷ []; console = record { log = []; input = [] }; current = 1 }

  abbrev state : State
  state = record {
    cpu = zero_cpu;
    special = 1 ∷ 0 ∷ 0 ∷ 0 ∷ 0 ∷ 69632 ∷ 1 ∷ 1 ∷ 0 ∷ [];
    memory = mem;
    device = record { buffer = page; sector = 0; pending = Idle; commands = 0; sectors = page ∷ [] };
    log = [];
    input = [];
    mask = 0;
    reset = false;
    off = None;
    time = 0;
  }

  one_page : length ws / 1024 ≡ 1
  one_page = ap (λ n. n / 1024) w.size

  user_fits : UserFits 1 user
  user_fits = let n : length ws ≡ 1024 = w.size in record { cpu = no_cpu_fits; pages = omega arith; whole = omega arith; words = w.words }

  core_fits : CoreFits small_map core
  core_fits = record {
    users = refl;
    each = All-cons (UserFits 1) user [] user_fits (All-nil (UserFits 1));
    globals = refl;
    heap = omega arith;
    used = refl;
    frames = refl;
    current = omega arith;
    log = omega arith;
    input = omega arith;
  }

  only : (q : ℕ) → q < 1 → q ≡ 0
  only q lt = omega arith

  only_user : (u : ℕ) → 1 ≤ u → u ≤ 1 → u ≡ 1
  only_user u a b = omega arith

  shows : (i : ℕ) → i < 1024 → cond (nat_eq (slice_index mem 17408 / 2048 % 2) 1) (slice_index mem (1024 * (slice_index mem 17408 / 4096) + i)) (slice_index page i) ≡ slice_index ws i
  shows i li = ap (λ e. cond (nat_eq (e / 2048 % 2) 1) (slice_index mem (1024 * (e / 4096) + i)) (slice_index page i)) m.entry
      ∙ ⊎_elim
      (λ z. ap (slice_index mem) (omega arith) ∙ m.first ∙ sym (ap (slice_index ws) z ∙ w.first))
      (λ nz. m.rest (20480 + i) (omega arith) (omega arith) (omega arith) (omega arith) (omega arith) ∙ sym (w.rest i nz))
      (cases_eq i 0)

  live : nat_lt 0 (length ws / 1024) ≡ true
  live = ap (nat_lt 0) one_page

  counted_is : (f : ℕ) → 0 + cond (nat_eq (slice_index mem 17408 / 2048) (2 * f + 1)) 1 0 ≡ cond (nat_eq f 20) 1 0
  counted_is f = ap (λ e. 0 + cond (nat_eq (e / 2048) (2 * f + 1)) 1 0) m.entry ∙ ⊎_elim
      (λ e. ap (λ f. 0 + cond (nat_eq 41 (2 * f + 1)) 1 0) e ∙ sym (ap (λ f. cond (nat_eq f 20) 1 0) e))
      (λ ne. ap (λ c. 0 + c) (cond-false (nat_eq 41 (2 * f + 1)) 1 0 (ne_eqb _ _ (λ e. ne (omega arith)))) ∙ sym (cond-false (nat_eq f 20) 1 0 (ne_eqb _ _ ne)))
      (cases_eq f 20)

  counts : (f : ℕ) → IsUserFrame (page_layout small_map) f → slice_index mem (18432 + 8 * (f - 20)) ≡ 0 + cond (nat_eq (slice_index mem 17408 / 2048) (2 * f + 1)) 1 0
  counts f is = ⊎_elim
      (λ e. ap (λ f. slice_index mem (18432 + 8 * (f - 20))) e ∙ m.count ∙ sym (ap (λ f. cond (nat_eq f 20) 1 0) e) ∙ sym (counted_is f))
      (λ ne. let a : 19 < f = is.0 in let b : f ≤ 21 = is.1 in
      m.rest (18432 + 8 * (f - 20)) (omega arith) (omega arith) (omega arith) (omega arith) (omega arith) ∙ sym (cond-false (nat_eq f 20) 1 0 (ne_eqb _ _ ne)) ∙ sym (counted_is f))
      (cases_eq f 20)

  few : (f : ℕ) → cond (nat_eq f 20) 1 0 ≤ 1
  few f = cond_both (nat_eq f 20) 1 0 (λ n. n ≤ 1) (λ _. omega arith) (λ _. omega arith)

  names_twenty : (q f : ℕ) → q < 1 → MapsTo (slice_index mem (17408 + q)) f → f ≡ 20
  names_twenty q f lt n =
      let z : slice_index mem (17408 + q) ≡ 83968 = ap (λ q. slice_index mem (17408 + q)) (only q lt) ∙ m.entry in
      omega arith

  -- page 0, in the first slot of frame 20
  lists : (f : ℕ) → IsUserFrame (page_layout small_map) f → Listed (page_layout small_map) (paged_of small_map state) f
  lists f is = ⊎_elim
      (λ e. let n : slice_index mem (18432 + 8 * (f - 20)) ≡ 1 = ap (λ f. slice_index mem (18432 + 8 * (f - 20))) e ∙ m.count in
      let slot : slice_index mem (18432 + 8 * (f - 20) + 1 + 0) ≡ 0 = ap (λ f. slice_index mem (18432 + 8 * (f - 20) + 1 + 0)) e ∙ m.rest 18433 (omega arith) (omega arith) (omega arith) (omega arith) (omega arith) in record {
        inside = λ k lt. let z : k ≡ 0 = omega arith in subst (λ k. slice_index mem (18432 + 8 * (f - 20) + 1 + k) < 1) (sym z) (omega arith);
        names = λ k lt. let z : k ≡ 0 = omega arith in ap (λ k. slice_index mem (17408 + slice_index mem (18432 + 8 * (f - 20) + 1 + k)) / 2048) z ∙ ap (λ q. slice_index mem (17408 + q) / 2048) slot ∙ ap (λ e. e / 2048) m.entry ∙ ap (λ f. 2 * f + 1) (sym e);
        apart = λ j k lj lk eq. omega arith;
      })
      (λ ne. let a : 19 < f = is.0 in let b : f ≤ 21 = is.1 in
      let n : slice_index mem (18432 + 8 * (f - 20)) ≡ 0 = m.rest (18432 + 8 * (f - 20)) (omega arith) (omega arith) (omega arith) (omega arith) (omega arith) in
      record { inside = λ k lt. absurd (omega arith); names = λ k lt. absurd (omega arith); apart = λ j k lj lk eq. absurd (omega arith) })
      (cases_eq f 20)

  pages : PagingInvariant (page_layout small_map) (pages_by 1 (user ∷ [])) (paged_of small_map state)
  pages = record {
    pages = λ q lt al i li. subst (λ q. cond (nat_eq (slice_index mem (17408 + q) / 2048 % 2) 1) (slice_index mem (1024 * (slice_index mem (17408 + q) / 4096) + i)) (slice_index (paged_page q) i) ≡ (pages_by 1 (user ∷ [])).word q i) (sym (only q lt)) (let e : i ≡ 0 + i = omega arith in shows i li ∙ ap (slice_index ws) e);
    dead = λ q lt d. absurd (true≢false (sym (subst (λ q. (pages_by 1 (user ∷ [])).live q ≡ true) (sym (only q lt)) live) ∙ d));
    named = λ q f lt n. let e : f ≡ 20 = names_twenty q f lt n in (omega arith, omega arith);
    counts = counts;
    lists = lists;
    few = λ f is. let c : counted_entries (paged_of small_map state).entry f 1 ≡ cond (nat_eq f 20) 1 0 = counted_is f in let l : cond (nat_eq f 20) 1 0 ≤ 1 = few f in omega arith;
    shared = λ q f lt n why. absurd (⊎_elim
        (λ z. let e : f ≡ 20 = names_twenty q f lt n in omega arith)
        (λ two. let c : counted_entries (paged_of small_map state).entry f 1 ≡ cond (nat_eq f 20) 1 0 = counted_is f in let l : cond (nat_eq f 20) 1 0 ≤ 1 = few f in omega arith)
        why);
    zero = λ i li. m.rest (19456 + i) (omega arith) (omega arith) (omega arith) (omega arith) (omega arith);
    hand = let h : slice_index mem 1025 ≡ 0 = m.rest 1025 (omega arith) (omega arith) (omega arith) (omega arith) (omega arith) in (omega arith, omega arith);
  }
    where
      paged_page : ℕ → List ℕ
      paged_page q = sector_of (page ∷ []) q

  stands : RunningRelation outside site state Running core
  stands = record {
    fits = record {
      cpu = no_cpu_fits;
      special = record { size = refl; each = special_words };
      memory = m.words;
      device = record { buffer = p; sector = omega arith; pending = tt; sectors = refl; pages = All-cons IsPage page [] p (All-nil IsPage) };
      console = record { room = omega arith; logged = All-nil IsWord; few = omega arith; left = All-nil IsWord };
      lines = eight;
      mask = omega arith;
      off = tt;
    };
    whole = core_fits;
    memory = let n : length mem ≡ 22528 = m.size in omega arith;
    small = let n : length mem ≡ 22528 = m.size in omega arith;
    kernel = record {
      globals = λ i lt. absurd (omega arith);
      heap = λ i lt. absurd (omega arith);
      used = m.rest 1026 (omega arith) (omega arith) (omega arith) (omega arith) (omega arith);
      places = λ k from to. m.rest k (omega arith) (omega arith) (omega arith) (omega arith) (omega arith);
      linked = λ k lt stays. absurd (omega arith);
    };
    users = record {
      sizes = λ u is. subst (λ u. slice_index mem (12288 + 64 * (u - 1) + 32) ≡ pages_of (user_of (user ∷ []) u)) (sym (only_user u is.0 is.1)) (m.pages ∙ sym one_page);
      blocks = λ u is other. absurd (true≢false (sym (eq-eqb u 1 (only_user u is.0 is.1)) ∙ other));
      runs = λ run. record { user = (omega arith, omega arith); cpu = refl; pto = refl; ptl = sym one_page; sr = refl };
      current = λ e. m.current;
    };
    pages = pages;
    sectors = omega arith;
    no_reset = refl;
    idle = refl;
    log = refl;
    input = refl;
  }

  premises : UserStepPremises outside site state core
  premises = record { range = in_range; linked = omega arith; back = record { user = refl; stands = stands } }

  abbrev to : Cpu
  to = record zero_cpu { pc = 4 }

  vstep_is : vstep user ≡ Goes (record { cpu = to; words = slice_set ws 0 0 })
  vstep_is = rw (w.size, w.first) (rw w.size refl)

  coming_is : coming outside (latched outside state) ≡ Done (record state { cpu = to; memory = slice_set mem 20480 0 })
  coming_is = rw (m.entry, m.size, m.first) (rw m.entry (rw m.entry (rw m.size refl)))

  after_is : step outside state ≡ record state { cpu = to; memory = slice_set mem 20480 0; time = 1 }
  unfolding step
  after_is = ap (λ o. step_ended (come_to o)) coming_is

  calm : handled outside state ≡ false
  unfolding handled
  calm = ap (is_handled state) coming_is

  changes : ChangesWord outside site state core
  changes = record {
    premises = premises;
    calm = calm;
    none = refl;
    after = record { cpu = to; words = slice_set ws 0 0 };
    goes = vstep_is;
    place = 20480;
    inside = let n : length mem ≡ 22528 = m.size in omega arith;
    changed = λ same.
        let inside : 20480 < length mem = let n : length mem ≡ 22528 = m.size in omega arith in
        let now : slice_index (step outside state).memory 20480 ≡ 0 = ap (λ (s : State). slice_index s.memory 20480) after_is ∙ get_or-set_same mem 20480 0 0 inside in
        let was : slice_index mem 20480 ≡ store = m.first in
        let none : 0 ≡ store = sym now ∙ same ∙ was in
        omega arith;
  }

-- such words, such a memory and a blank page
zero_at : (n i : ℕ) → slice_index (replicate n 0) i ≡ 0
zero_at zero i = refl
zero_at (suc n) zero = refl
zero_at (suc n) (suc i) = zero_at n i

own_words : List ℕ
own_words = store ∷ replicate 1023 0

own_is : IsOwn own_words
unfolding own_words
own_is = record {
  size = ap (λ n. n + 1) (length-replicate {A = ℕ} 1023 0);
  first = refl;
  rest = rest;
  words = All-cons IsWord store (replicate 1023 0) (omega arith) (All-replicate IsWord 1023 0 (omega arith));
}
  where
    rest : (i : ℕ) → i ≢ 0 → slice_index (store ∷ replicate 1023 0) i ≡ 0
    rest zero ne = absurd (ne refl)
    rest (suc i) ne = zero_at 1023 i

made : ℕ → List ℕ
made n = slice_set (slice_set (slice_set (slice_set (slice_set (replicate n 0) 1024 1) 12320 1) 17408 83968) 18432 1) 20480 store

made_is : (n : ℕ) → n ≡ 22528 → IsMemory (made n)
unfolding made
made_is n same =
    let a : List ℕ = replicate n 0 in
    let b : List ℕ = slice_set a 1024 1 in
    let c : List ℕ = slice_set b 12320 1 in
    let d : List ℕ = slice_set c 17408 83968 in
    let e : List ℕ = slice_set d 18432 1 in
    let la : length a ≡ n = length-replicate {A = ℕ} n 0 in
    let lb : length b ≡ n = length-set a 1024 1 ∙ la in
    let lc : length c ≡ n = length-set b 12320 1 ∙ lb in
    let ld : length d ≡ n = length-set c 17408 83968 ∙ lc in
    let le : length e ≡ n = length-set d 18432 1 ∙ ld in
    let ob : (k : ℕ) → k ≢ 1024 → slice_index b k ≡ slice_index a k = λ k ne. get_or-set_other a 1024 k 1 0 ne in
    let oc : (k : ℕ) → k ≢ 12320 → slice_index c k ≡ slice_index b k = λ k ne. get_or-set_other b 12320 k 1 0 ne in
    let od : (k : ℕ) → k ≢ 17408 → slice_index d k ≡ slice_index c k = λ k ne. get_or-set_other c 17408 k 83968 0 ne in
    let oe : (k : ℕ) → k ≢ 18432 → slice_index e k ≡ slice_index d k = λ k ne. get_or-set_other d 18432 k 1 0 ne in
    let of : (k : ℕ) → k ≢ 20480 → slice_index (slice_set e 20480 store) k ≡ slice_index e k = λ k ne. get_or-set_other e 20480 k store 0 ne in
    record {
      size = length-set e 20480 store ∙ le ∙ same;
      current = of 1024 (λ h. absurd (omega arith)) ∙ oe 1024 (λ h. absurd (omega arith)) ∙ od 1024 (λ h. absurd (omega arith)) ∙ oc 1024 (λ h. absurd (omega arith)) ∙ get_or-set_same a 1024 1 0 (omega arith);
      pages = of 12320 (λ h. absurd (omega arith)) ∙ oe 12320 (λ h. absurd (omega arith)) ∙ od 12320 (λ h. absurd (omega arith)) ∙ get_or-set_same b 12320 1 0 (omega arith);
      entry = of 17408 (λ h. absurd (omega arith)) ∙ oe 17408 (λ h. absurd (omega arith)) ∙ get_or-set_same c 17408 83968 0 (omega arith);
      count = of 18432 (λ h. absurd (omega arith)) ∙ get_or-set_same d 18432 1 0 (omega arith);
      first = get_or-set_same e 20480 store 0 (omega arith);
      rest = λ k p q r s t. of k t ∙ oe k s ∙ od k r ∙ oc k q ∙ ob k p ∙ zero_at n k;
      words = All-set IsWord e 20480 store (omega arith) (All-set IsWord d 18432 1 (omega arith) (All-set IsWord c 17408 83968 (omega arith) (All-set IsWord b 12320 1 (omega arith) (All-set IsWord a 1024 1 (omega arith) (All-replicate IsWord n 0 (omega arith))))));
    }

blank : List ℕ
blank = replicate 1024 0

blank_is : IsPage blank
unfolding blank
blank_is = record { size = length-replicate {A = ℕ} 1024 0; each = All-replicate IsWord 1024 0 (omega arith) }

pub some_stores : SomeStores
some_stores = record { outside = outside; site = site; state = _; core = _; changes = changes (made 22528) own_words blank own_is (made_is 22528 refl) blank_is }
