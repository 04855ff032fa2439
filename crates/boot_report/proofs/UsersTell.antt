-- What the machine shows of the users, and the rows of the log, are those of the abstract machine.
use Rattle.std.proofs.Common.{◌≡◌, ◌≢◌, ℕ, zero, suc, ◌+◌, ◌-◌, ◌*◌, ◌/◌, ◌%◌, ◌<◌, ◌≤◌, Bool, true, false, ◌&&◌, List, [], ◌∷◌, ◌++◌, length, get_or, drop, Some, codes, refl, sym, ap, ap₂, ◌∙◌, subst, ⊎_elim, arith, get_or-drop, length-drop, ne_eqb, eq-eqb, lt-ltb}
use Rattle.std.specs.Prelude.{◌==◌, nat_lt, slice_index}
use Rattle.std.proofs.lemmas.Bool.{cases_eq, cases_Bool}
use Rattle.std.proofs.Math.Nat.{mul-le-mul_right, mul-add-mod_self_right, mod-eq_of_lt}
use Rattle.std.proofs.lemmas.Nat.{div-mul-add}
use Rattle.mips_table.specs.Device.{Environment}
use Rattle.mips_table.specs.Processor.{Cpu}
use Rattle.mips_table.specs.Flat.{Flat}
use Rattle.mips_machine.specs.Machine.{Held, state_of}
use Rattle.layer_map.specs.Map.{Map, block_at}
use Rattle.page_model.specs.Paging.{Paged, IsFrame, shown_word}
use Rattle.page_model.specs.TableLayout.{page_layout}
use Rattle.cvm_model.specs.Kernel.{Core}
use Rattle.cvm_model.specs.Primitives.{user_of, pages_of, no_flat}
use Rattle.cvm_model.specs.Cvm.{Status}
use Rattle.cvm_model.specs.Paged.{paged_of, pages_by}
use Rattle.cvm_model.specs.Stands.{Site, RunningRelation, IsUser, UserFits, runs_user}
use Rattle.cvm_model.specs.Text.{hex_row, nonzero_row, regs_text, memory_text, user_head, user_text, users_text, log_text}
use Rattle.boot_report.specs.Texts.{texts, register_row, memory_row, register_rows, processor_rows, log_rows, shown_cpu, pages_in, EntriesFit}
use Rattle.boot_report.proofs.ReportScripts.{pages_rows, speaks_scripts, shown_is, user_spoken}
use Rattle.boot_report.specs.Resident.{page_of_word}
use Rattle.boot_report.specs.Scripts.{user_script}
use Rattle.cvm_outside.specs.Script.{spoken}
use Rattle.boot_report.specs.Told.{IsRunning, RowsTell, UserIsTold, UserTells, WordsTell}
use Rattle.boot_report.specs.Speaks.{UsersSpeak, UserSpeaks, WordsShow}
use Rattle.boot_report.proofs.TextsInTurn.{texts-none, texts-suc, texts-add, texts-same}

-- a text that goes down a list from the front
module _ {A : Type 0} (d : A) (whole : ℕ → List A → List ℕ) (f : ℕ → A → List ℕ) (none : (k : ℕ) → whole k [] ≡ []) (more : (k : ℕ) (v : A) (vs : List A) → whole k (v ∷ vs) ≡ f k v ++ whole (k + 1) vs) where
  pub from_front : (k : ℕ) (xs : List A) → whole k xs ≡ texts (λ i. f (k + i) (get_or xs i d)) (length xs)
  from_front k [] = none k ∙ sym (texts-none (λ i. f (k + i) (get_or [] i d)))
  from_front k (v ∷ vs) =
      let g : ℕ → List ℕ = λ i. f (k + i) (get_or (v ∷ vs) i d) in
      let first : texts (λ i. f (k + i) (get_or (v ∷ vs) i d)) 1 ≡ f k v = texts-suc (λ i. f (k + i) (get_or (v ∷ vs) i d)) 0 ∙ ap (λ l. l ++ f (k + 0) v) (texts-none (λ i. f (k + i) (get_or (v ∷ vs) i d))) ∙ (let e : k + 0 ≡ k = omega arith in ap (λ n. f n v) e) in
      let rest : texts (λ i. f (k + 1 + i) (get_or vs i d)) (length vs) ≡ texts (λ i. f (k + (1 + i)) (get_or (v ∷ vs) (1 + i) d)) (length vs) =
      texts-same _ _ (length vs) (λ i l. let e : k + 1 + i ≡ k + (1 + i) = omega arith in ap (λ n. f n (get_or vs i d)) e ∙ (let h : suc i ≡ 1 + i = omega arith in ap (λ n. f (k + (1 + i)) (get_or (v ∷ vs) n d)) h)) in
      let all : 1 + length vs ≡ suc (length vs) = omega arith in
      more k v vs ∙ ap (λ l. f k v ++ l) (from_front (k + 1) vs ∙ rest) ∙ ap (λ l. l ++ texts (λ i. f (k + (1 + i)) (get_or (v ∷ vs) (1 + i) d)) (length vs)) (sym first)
      ∙ sym (texts-add (λ i. f (k + i) (get_or (v ∷ vs) i d)) 1 (length vs)) ∙ ap (texts (λ i. f (k + i) (get_or (v ∷ vs) i d))) all

-- texts by pages of 1,024
by_pages : (f : ℕ → List ℕ) (n : ℕ) → texts (λ p. texts (λ i. f (1024 * p + i)) 1024) n ≡ texts f (1024 * n)
by_pages f zero = texts-none (λ p. texts (λ i. f (1024 * p + i)) 1024) ∙ sym (texts-none f)
by_pages f (suc n) =
    let e : 1024 * n + 1024 ≡ 1024 * suc n = omega arith in
    texts-suc (λ p. texts (λ i. f (1024 * p + i)) 1024) n ∙ ap (λ l. l ++ texts (λ i. f (1024 * n + i)) 1024) (by_pages f n) ∙ sym (texts-add f (1024 * n) 1024) ∙ ap (texts f) e

log_told : (log : List ℕ) → log_rows log ≡ log_text log
log_told log = sym (from_front 0 (λ k xs. log_text xs) (λ k w. hex_row (codes "con") w) (λ k. refl) (λ k w rest. refl) 0 log)

pub registers_told : (regs : List ℕ) (cpu : Cpu) → cpu.regs ≡ regs → length regs ≡ 32 → register_rows cpu 31 ≡ regs_text 1 (drop 1 regs)
registers_told regs cpu e long =
    let few : length (drop 1 regs) ≡ 31 = omega (arith, length-drop 1 regs, long) in
    sym (from_front 0 regs_text register_row (λ k. refl) (λ k w rest. refl) 1 (drop 1 regs)
    ∙ ap (texts (λ i. register_row (1 + i) (get_or (drop 1 regs) i 0))) few
    ∙ texts-same _ _ 31 (λ i l. ap (register_row (1 + i)) (get_or-drop 1 regs i 0) ∙ (let h : 1 + i ≡ i + 1 = omega arith in ap (λ n. register_row n (get_or regs n 0)) h) ∙ ap (λ rs. register_row (i + 1) (get_or rs (i + 1) 0)) (sym e)))

memory_told : (words : List ℕ) (a : Paged) (q n : ℕ) → length words ≡ 1024 * n → ((p i : ℕ) → p < n → i < 1024 → shown_word a (q + p) i ≡ get_or words (1024 * p + i) 0) → pages_rows a q n ≡ memory_text 0 words
memory_told words a q n long h =
    texts-same _ _ n (λ p lt. texts-same _ _ 1024 (λ i l. ap (memory_row (1024 * p + i)) (h p i lt l)))
    ∙ by_pages (λ j. memory_row j (get_or words j 0)) n ∙ ap (texts (λ j. memory_row j (get_or words j 0))) (sym long)
    ∙ sym (from_front 0 memory_text memory_row (λ k. refl) (λ k w rest. refl) 0 words ∙ texts-same _ _ (length words) (λ i l. let e : 0 + i ≡ i = omega arith in ap (λ n. memory_row n (get_or words i 0)) e))

false_true : (b : Bool) → b ≡ false → b ≡ true → ⊥
false_true b e f = cc

-- a user
module _ (x : Environment) (y : Site) (held : Held) (ss : List (List ℕ)) (status : Status) (c : Core) (running u : ℕ) (st : RunningRelation x y (state_of held ss) status c) (run : IsRunning held ss c running) (is : IsUser c u) where
  behind : u - 1 + 1 ≡ u
  behind = let low : 1 ≤ u = is.0 in omega (arith, low)

  before : u - 1 < length c.users
  before = let low : 1 ≤ u = is.0 in let high : u ≤ length c.users = is.1 in omega (arith, low, high)

  fits : UserFits y.map.params.pages (user_of c.users u)
  fits = st.whole.each (u - 1) no_flat before

  pages_told : pages_in y.map held.hardware.memory u ≡ pages_of (user_of c.users u)
  pages_told =
      let e : slice_index held.hardware.memory (block_at u + 32) ≡ pages_of (user_of c.users u) = st.users.sizes u is in
      let le : pages_of (user_of c.users u) ≤ y.map.params.pages = fits.pages in
      omega (arith, e, le)

  in_block : u ≢ running → (runs_user (state_of held ss) && u == c.current) ≡ false
  in_block ne = by (runs_user (state_of held ss)) refl
    where
      by : (b : Bool) → runs_user (state_of held ss) ≡ b → (b && u == c.current) ≡ false
      by true e = let one = run.one e in ne_eqb u c.current (λ h. ne (h ∙ sym one))
      by false e = refl

  it_runs : u ≡ running → runs_user (state_of held ss) ≡ true
  it_runs h = ⊎_elim (λ (e : runs_user (state_of held ss) ≡ true). e) (λ (e : runs_user (state_of held ss) ≡ false). absurd (let z = run.none e in let low : 1 ≤ u = is.0 in omega (arith, h, z, low))) (cases_Bool (runs_user (state_of held ss)))

  cpu_told : shown_cpu held (u == running) u ≡ (user_of c.users u).cpu
  cpu_told = ⊎_elim
      (λ (h : u ≡ running).
      let r = st.users.runs (it_runs h) in
      let same : c.current ≡ u = sym (h ∙ run.one (it_runs h)) in
      ap (λ b. shown_cpu held b u) (eq-eqb u running h) ∙ r.cpu ∙ ap (λ n. (user_of c.users n).cpu) same)
      (λ (ne : u ≢ running). ap (λ b. shown_cpu held b u) (ne_eqb u running ne) ∙ st.users.blocks u is (in_block ne))
      (cases_eq u running)

  page_told : (p j : ℕ) → p < pages_of (user_of c.users u) → j < 1024 → shown_word (paged_of y.map (state_of held ss)) ((u - 1) * y.map.params.pages + p) j ≡ get_or (user_of c.users u).words (1024 * p + j) 0
  page_told p j small l =
      let le : pages_of (user_of c.users u) ≤ y.map.params.pages = fits.pages in
      let under : p < y.map.params.pages = omega (arith, small, le) in
      let quotient : ((u - 1) * y.map.params.pages + p) / y.map.params.pages ≡ u - 1 = div-mul-add (u - 1) y.map.params.pages p under in
      let rest : ((u - 1) * y.map.params.pages + p) % y.map.params.pages ≡ p = mul-add-mod_self_right (u - 1) y.map.params.pages p ∙ mod-eq_of_lt under in
      let user : user_of c.users (((u - 1) * y.map.params.pages + p) / y.map.params.pages + 1) ≡ user_of c.users u = ap (λ n. user_of c.users (n + 1)) quotient ∙ ap (user_of c.users) behind in
      let rows = mul-le-mul_right {m = suc (u - 1)} {n = length c.users} y.map.params.pages before in
      let count : length c.users ≡ y.map.users = st.whole.users in
      let inside : (u - 1) * y.map.params.pages + p < y.map.users * y.map.params.pages = subst (λ n. (u - 1) * y.map.params.pages + p < n * y.map.params.pages) count (omega (arith, rows, under)) in
      let live : (pages_by y.map.params.pages c.users).live ((u - 1) * y.map.params.pages + p) ≡ true = ap₂ (λ n (g : Flat). nat_lt n (pages_of g)) rest user ∙ lt-ltb p (pages_of (user_of c.users u)) small in
      st.pages.pages ((u - 1) * y.map.params.pages + p) inside live j l ∙ ap₂ (λ n (g : Flat). get_or g.words (1024 * n + j) 0) rest user

  told : UserIsTold y.map held ss c running u
  told = record { cpu = cpu_told; registers = fits.cpu.regs.size; pages = pages_told; most = fits.pages; whole = fits.whole; word = page_told }

pub user_tells : UserTells
user_tells = told

entries_told : (x : Environment) (y : Site) (held : Held) (ss : List (List ℕ)) (status : Status) (c : Core) → RunningRelation x y (state_of held ss) status c → EntriesFit y.map (state_of held ss)
entries_told x y held ss status c st q lt valid =
    let n : IsFrame (page_layout y.map) ((paged_of y.map (state_of held ss)).entry q / 4096) = st.pages.named q ((paged_of y.map (state_of held ss)).entry q / 4096) lt (omega (arith, valid)) in
    let most = n.1 in
    omega (arith, most)

pub rows_tell : RowsTell
rows_tell x y held ss status c st = record { entries = entries_told x y held ss status c st; log = ap log_rows st.log ∙ log_told c.console.log }

-- the text of a user that is told
text_told : (m : Map) (held : Held) (ss : List (List ℕ)) (c : Core) (running u : ℕ) → UserIsTold m held ss c running u → EntriesFit m (state_of held ss) → 1 ≤ u → u ≤ m.users → spoken (user_script m held (Some ss) (u == running) u) ≡ Some (user_text u (user_of c.users u))
text_told m held ss c running u t fit some most =
    user_spoken m held ss fit (u == running) u some most
    ∙ ap₂ (λ n (cpu : Cpu). Some (processor_rows u n cpu ++ pages_rows (paged_of m (state_of held ss)) ((u - 1) * m.params.pages) n)) t.pages t.cpu
    ∙ ap₂ (λ r w. Some (user_head u (pages_of (user_of c.users u)) (user_of c.users u).cpu.pc ++ r ++ nonzero_row (codes "hi") (user_of c.users u).cpu.hi ++ nonzero_row (codes "lo") (user_of c.users u).cpu.lo ++ w))
    (registers_told (user_of c.users u).cpu.regs (user_of c.users u).cpu refl t.registers)
    (memory_told (user_of c.users u).words (paged_of m (state_of held ss)) ((u - 1) * m.params.pages) (pages_of (user_of c.users u)) t.whole t.word)

-- the scripts of one user and of all print the text
pub user_speaks : UserSpeaks
user_speaks x y held ss status c running u st run is =
    let high : u ≤ length c.users = is.1 in
    let count : length c.users ≡ y.map.users = st.whole.users in
    text_told y.map held ss c running u (user_tells x y held ss status c running u st run is) (entries_told x y held ss status c st) is.0 (omega (arith, high, count))

pub users_speak : UsersSpeak
users_speak x y held ss status c running st run =
    let count : length c.users ≡ y.map.users = st.whole.users in
    speaks_scripts _ (λ i. user_text (1 + i) (get_or c.users i no_flat)) y.map.users (λ i l.
    user_speaks x y held ss status c running (i + 1) st run (omega arith, omega (arith, l, count)) ∙ ap₂ (λ n (g : Flat). Some (user_text n g)) (let e : i + 1 ≡ 1 + i = omega arith in e) (let e : i + 1 - 1 ≡ i = omega arith in ap (λ n. get_or c.users n no_flat) e))
    ∙ ap (λ n. Some (texts (λ i. user_text (1 + i) (get_or c.users i no_flat)) n)) (sym count) ∙ ap (λ l. Some l) (sym (from_front no_flat users_text user_text (λ k. refl) (λ k g rest. refl) 1 c.users))

-- some user runs, or none
runs_some : (held : Held) (ss : List (List ℕ)) (c : Core) → (running : ℕ) × IsRunning held ss c running
runs_some held ss c = by (runs_user (state_of held ss)) refl
  where
    by : (b : Bool) → runs_user (state_of held ss) ≡ b → (running : ℕ) × IsRunning held ss c running
    by true e = (c.current, record { one = λ _. refl; none = λ f. absurd (false_true _ f e) })
    by false e = (0, record { one = λ f. absurd (false_true _ e f); none = λ _. refl })

pub words_tell : WordsTell
words_tell x y held ss status c u range st is =
    let r = runs_some held ss c in
    let t = user_tells x y held ss status c r.0 u st r.1 is in
    let whole = t.whole in
    let most = t.most in
    record {
      entries = entries_told x y held ss status c st;
      room = omega (arith, whole, most);
      word = λ k l. t.word (k / 1024) (k % 1024) (omega (arith, whole, l)) (omega arith) ∙ (let e : 1024 * (k / 1024) + k % 1024 ≡ k = omega arith in ap (λ n. get_or (user_of c.users u).words n 0) e);
    }

pub words_show : WordsShow
words_show x y held ss status c u range st is =
    let told = words_tell x y held ss status c u range st is in
    let room = told.room in
    let low : 1 ≤ u = is.0 in
    let high : u ≤ length c.users = is.1 in
    let count : length c.users ≡ y.map.users = st.whole.users in
    let rows = mul-le-mul_right {m = suc (u - 1)} {n = y.map.users} y.map.params.pages (omega (arith, low, high, count)) in
    record {
      room = room;
      word = λ k l. shown_is y.map held ss told.entries (λ word. word (k % 1024)) (page_of_word y.map u k) (omega (arith, rows, room, l)) ∙ ap (λ n. Some n) (told.word k l);
    }
