-- What an instruction within memory leaves is what comes of it in the definition of a step, and what a row of them leaves is the run
-- of the machine where nothing comes from outside.
use Rattle.std.proofs.Common.{◌≡◌, ℕ, zero, suc, ◌+◌, ◌/◌, length-set, Bool, true, false, cond, Option, Some, None, List, [], length, is_some, refl, sym, ap, ◌∙◌}
use Rattle.std.specs.Prelude.{nat_lt, not, slice_index, slice_set}
use Rattle.std.specs.Int.RustNames.{bit_or}
use Rattle.std.specs.Int.Bits.{or_zero_r}
use Rattle.std.proofs.lemmas.Bool.{cond-false}
use Rattle.mips_table.specs.declared.inst.Inst.{Inst}
use Rattle.mips_table.specs.declared.cause.Cause.TheVariants as causes
use Rattle.mips_table.specs.declared.effect.Effect.{Effect}
use Rattle.mips_table.specs.declared.effect.Effect.TheVariants.{Set, Wide, Load, Store, Overflow, Call, System}
use Rattle.mips_table.specs.Decoding.{decoding}
use Rattle.mips_table.specs.Processor.{Cpu, Move, Loaded, Stored, Trapped, with_loaded, advanced, is_aligned, accessed, performed, executed, effect_on, move}
use Rattle.mips_table.specs.Device.{Idle, Environment, settled, disk_counted}
use Rattle.mips_table.specs.Machine.{State, Interrupt, Done, come_to, latched, step, access, located, read_at, after_read_at, written_at, fetch, fetched, moved}
use Rattle.sector_disk.specs.Ports.{transfer_script}
use Rattle.mips_machine.specs.declared.event.Event.TheVariants.{Ran}
use Rattle.mips_machine.specs.Board.{Board, around}
use Rattle.mips_machine.specs.Hardware.{Hardware, state_in, instructed, chosen, told_as, event_by}
use Rattle.mips_machine.specs.Quiet.{IsQuiet}
use Rattle.mips_machine.specs.Steps.{event_of, script_of_step}
use Rattle.mips_machine.specs.Stretch.{in_memory, place, EffectMakes, RunsWord, FetchesWord, LoadsWord, Stores, Plain, Row}
use Rattle.mips_machine.proofs.ComingInterrupt.{line_comes, later}
use Rattle.mips_machine.proofs.BoardSteps.{board_of, with_board}
use Rattle.mips_machine.proofs.StepsAreSteps.{on_step, on_event, on_due}

-- a choice that gives something was taken
chosen_is : (b : Bool) (j k : ℕ) → cond b (Some j) None ≡ Some k → (b ≡ true) × (j ≡ k)
chosen_is true j k e = (refl, cc)
chosen_is false j k e = cc

-- an address has a place: it is aligned, and is located in memory
placed : (aligned : Bool) (o : Option ℕ) (words k : ℕ) → cond aligned (in_memory words o) None ≡ Some k
    → (aligned ≡ true) × (p : ℕ) × (o ≡ Some p) × (nat_lt (p / 4) words ≡ true) × (p / 4 ≡ k)
placed true (Some p) words k e = let c = chosen_is (nat_lt (p / 4) words) (p / 4) k e in (refl, p, refl, c.0, c.1)
placed true None words k e = cc
placed false o words k e = cc

-- an access that is taken
goes_on : (aligned may : Bool) (x y m : Move) → aligned ≡ true → may ≡ true → cond (not aligned) x (cond (not may) y m) ≡ m
goes_on true true x y m a b = refl
goes_on true false x y m a b = cc
goes_on false may x y m a b = cc

taken : {A : Type 0} (b : Bool) (x y : A) → b ≡ true → cond b x y ≡ x
taken true x y e = refl
taken false x y e = cc

same_both : {A : Type 0} (b : Bool) (x y : A) → x ≡ y → cond b x y ≡ y
same_both true x y e = e
same_both false x y e = refl

module _ (x : Environment) (h : Hardware) (time : ℕ) (sectors : List (List ℕ)) (after : Cpu) (now : Board) where
  abbrev s : State
  s = state_in h time sectors

  abbrev b : Board
  b = board_of h

  abbrev new : State
  new = state_in (with_board h after now) time sectors

  -- a processor and a board that are told
  told : (c : Cpu) (n : Board) → after ≡ c → now ≡ n → Done (state_in (with_board h c n) time sectors) ≡ Done new
  told c n e f = ap (λ (v : Cpu). Done (state_in (with_board h v n) time sectors)) (sym e) ∙ ap (λ (v : Board). Done (state_in (with_board h after v) time sectors)) (sym f)

  -- a read within memory leaves the machine, and gives the word
  left_by : (o : Option ℕ) (p : ℕ) → o ≡ Some p → nat_lt (p / 4) (length h.memory) ≡ true → after_read_at s o ≡ s
  left_by o p e lt = ap (after_read_at s) e ∙ taken (nat_lt (p / 4) (length h.memory)) _ _ lt

  word_by : (o : Option ℕ) (p k : ℕ) → o ≡ Some p → nat_lt (p / 4) (length h.memory) ≡ true → p / 4 ≡ k → read_at s o ≡ slice_index h.memory k
  word_by o p k e lt is = ap (read_at s) e ∙ taken (nat_lt (p / 4) (length h.memory)) _ _ lt ∙ ap (slice_index h.memory) is

  written_by : (o : Option ℕ) (p k value : ℕ) → o ≡ Some p → nat_lt (p / 4) (length h.memory) ≡ true → p / 4 ≡ k → written_at x s o value ≡ record s { memory = slice_set h.memory k value }
  written_by o p k value e lt is =
      ap (λ v. written_at x s v value) e ∙ taken (nat_lt (p / 4) (length h.memory)) _ _ lt ∙ ap (λ v. record s { memory = slice_set h.memory v value }) is

  may : (is_store : Bool) (address p : ℕ) → located s is_store address ≡ Some p → is_some (located s is_store address) ≡ true
  may is_store address p e = ap is_some e

  loads : (register address : ℕ) (o : Option ℕ) → place s false address ≡ o → LoadsWord h.cpu b register o true after now →
      moved x s (accessed (is_some (located s false address)) causes.DataAlign causes.DataFault address h.cpu.pc (Loaded (advanced h.cpu) register address)) ≡ Done new
  loads register address None e l = cc
  loads register address (Some k) e l =
      let at = placed (is_aligned address) (located s false address) (length h.memory) k e in
      let p = at.1 in
      let here = at.2 in
      let lt = at.3 in
      let is = at.4 in
      ap (moved x s) (goes_on (is_aligned address) (is_some (located s false address)) (Trapped causes.DataAlign address h.cpu.pc) (Trapped causes.DataFault address h.cpu.pc) (Loaded (advanced h.cpu) register address) at.0 (may false address p here))
      ∙ ap (λ (v : State). Done (record v { cpu = with_loaded (advanced h.cpu) register (read_at s (located s false address)) })) (left_by (located s false address) p here lt)
      ∙ ap (λ v. Done (record s { cpu = with_loaded (advanced h.cpu) register v })) (word_by (located s false address) p k here lt is)
      ∙ told (with_loaded (advanced h.cpu) register (slice_index h.memory k)) b l.1 l.2

  stores : (address value : ℕ) (o : Option ℕ) → place s true address ≡ o → Stores h.cpu b value o true after now →
      moved x s (accessed (is_some (located s true address)) causes.DataAlign causes.DataFault address h.cpu.pc (Stored (advanced h.cpu) address value)) ≡ Done new
  stores address value None e l = cc
  stores address value (Some k) e l =
      let at = placed (is_aligned address) (located s true address) (length h.memory) k e in
      let p = at.1 in
      let here = at.2 in
      let lt = at.3 in
      let is = at.4 in
      ap (moved x s) (goes_on (is_aligned address) (is_some (located s true address)) (Trapped causes.DataAlign address h.cpu.pc) (Trapped causes.DataFault address h.cpu.pc) (Stored (advanced h.cpu) address value) at.0 (may true address p here))
      ∙ ap (λ (v : State). Done (record v { cpu = advanced h.cpu })) (written_by (located s true address) p k value here lt is)
      ∙ told (advanced h.cpu) (record b { memory = slice_set h.memory k value }) l.1 l.2

  makes : (word : ℕ) (e : Effect) → EffectMakes h.cpu b e true after now → moved x s (performed (access s) h.cpu word e) ≡ Done new
  makes word (Set register value to) m = told _ _ m.1 m.2
  makes word (Wide hi lo to) m = told _ _ m.1 m.2
  makes word (Load register address) m = loads register address (place s false address) refl m
  makes word (Store address value) m = stores address value (place s true address) refl m
  makes word Overflow m = cc
  makes word Call m = cc
  makes word System m = cc

  runs : (word : ℕ) (i : Option Inst) → RunsWord h.cpu b i true after now → moved x s (executed (access s) h.cpu word i) ≡ Done new
  runs word None m = cc
  runs word (Some i) m = makes word (effect_on i h.cpu) m

  fetches : (o : Option ℕ) → place s false h.cpu.pc ≡ o → FetchesWord h.cpu b o true after now → moved x (fetched s) (move (access s) h.cpu (fetch s)) ≡ Done new
  fetches None e f = cc
  fetches (Some k) e f =
      let pc = h.cpu.pc in
      let at = placed (is_aligned pc) (located s false pc) (length h.memory) k e in
      let p = at.1 in
      let here = at.2 in
      let lt = at.3 in
      let is = at.4 in
      let whole : fetched s ≡ s = same_both (is_aligned pc) (after_read_at s (located s false pc)) s (left_by (located s false pc) p here lt) in
      let word : fetch s ≡ slice_index h.memory k = word_by (located s false pc) p k here lt is in
      ap (λ (v : State). moved x v (move (access s) h.cpu (fetch s))) whole
      ∙ ap (λ (v : ℕ). moved x s (move (access s) h.cpu v)) word
      ∙ ap (moved x s) (goes_on (is_aligned pc) (is_some (located s false pc)) (Trapped causes.FetchAlign pc pc) (Trapped causes.FetchFault pc pc) (executed (access s) h.cpu (slice_index h.memory k) (decoding (slice_index h.memory k))) at.0 (may false pc p here))
      ∙ runs (slice_index h.memory k) (decoding (slice_index h.memory k)) f

  -- an instruction within memory is what comes
  pub plain_comes : Plain h.cpu b true after now → instructed x s ≡ Done new
  unfolding Plain instructed
  plain_comes p = fetches (place s false h.cpu.pc) refl p

-- an instruction within memory, and a row of them, keep all of the board but the memory, and its length
abbrev pub Keeps : Board → Board → Type 0
Keeps b now = (now ≡ record b { memory = now.memory }) × (length now.memory ≡ length b.memory)

keeps : (b now : Board) (memory : List ℕ) → now ≡ record b { memory = memory } → length memory ≡ length b.memory → Keeps b now
keeps b now memory e same =
    let m : now.memory ≡ memory = ap (λ (v : Board). v.memory) e in
    (e ∙ ap (λ v. record b { memory = v }) (sym m), ap length m ∙ same)

loads_keep : (c : Cpu) (b : Board) (register : ℕ) (o : Option ℕ) (after : Cpu) (now : Board) → LoadsWord c b register o true after now → Keeps b now
loads_keep c b register None after now l = cc
loads_keep c b register (Some k) after now l = keeps b now b.memory l.2 refl

stores_keep : (c : Cpu) (b : Board) (value : ℕ) (o : Option ℕ) (after : Cpu) (now : Board) → Stores c b value o true after now → Keeps b now
stores_keep c b value None after now l = cc
stores_keep c b value (Some k) after now l = keeps b now (slice_set b.memory k value) l.2 (length-set b.memory k value)

makes_keep : (c : Cpu) (b : Board) (e : Effect) (after : Cpu) (now : Board) → EffectMakes c b e true after now → Keeps b now
makes_keep c b (Set register value to) after now m = keeps b now b.memory m.2 refl
makes_keep c b (Wide hi lo to) after now m = keeps b now b.memory m.2 refl
makes_keep c b (Load register address) after now m = loads_keep c b register (place (around b) false address) after now m
makes_keep c b (Store address value) after now m = stores_keep c b value (place (around b) true address) after now m
makes_keep c b Overflow after now m = cc
makes_keep c b Call after now m = cc
makes_keep c b System after now m = cc

runs_keep : (c : Cpu) (b : Board) (i : Option Inst) (after : Cpu) (now : Board) → RunsWord c b i true after now → Keeps b now
runs_keep c b None after now m = cc
runs_keep c b (Some i) after now m = makes_keep c b (effect_on i c) after now m

fetches_keep : (c : Cpu) (b : Board) (o : Option ℕ) (after : Cpu) (now : Board) → FetchesWord c b o true after now → Keeps b now
fetches_keep c b None after now m = cc
fetches_keep c b (Some k) after now m = runs_keep c b (decoding (slice_index b.memory k)) after now m

pub plain_keeps : (c : Cpu) (b : Board) (after : Cpu) (now : Board) → Plain c b true after now → Keeps b now
unfolding Plain
plain_keeps c b after now p = fetches_keep c b (place (around b) false c.pc) after now p

pub row_keeps : (n : ℕ) (c : Cpu) (b : Board) (after : Cpu) (now : Board) → Row n c b after now → Keeps b now
row_keeps zero c b after now r = keeps b now b.memory r.1 refl
row_keeps (suc n) c b after now r =
    let mid : Cpu = r.0 in
    let seen : Board = r.1 in
    let before = row_keeps n c b mid seen r.2 in
    let last = plain_keeps mid seen after now r.3 in
    (last.0 ∙ ap (λ (v : Board). record v { memory = now.memory }) before.0, last.1 ∙ before.1)

-- a step in which nothing comes from outside is its instruction
module _ (x : Environment) (s after : State) (quiet : IsQuiet x s) (comes : instructed x s ≡ Done after) (on : after.off ≡ None) (idle : after.device.pending ≡ Idle) where
  none_latched : latched x s ≡ s
  none_latched = ap (λ l. record s { mask = bit_or s.mask l }) quiet.lines ∙ ap (λ m. record s { mask = m }) (or_zero_r s.mask)

  is_chosen : chosen x (latched x s) ≡ Done after
  is_chosen = ap (chosen x) none_latched ∙ later x s quiet.reset ∙ cond-false (line_comes s) (Interrupt s causes.External s.mask s.cpu.pc) (instructed x s) quiet.latched ∙ comes

  counts_nothing : disk_counted after.device ≡ after.device
  counts_nothing = ap (λ p. settled p after.device) idle

  pub quiet_step : step x s ≡ record after { time = after.time + 1 }
  quiet_step = on_step x s after quiet.on (sym (ap come_to is_chosen)) ∙ ap (λ d. record after { device = d; time = after.time + 1 }) counts_nothing

  pub quiet_event : event_of x s ≡ Ran
  quiet_event = sym (on_event x s Ran quiet.on (sym (ap told_as is_chosen ∙ ap event_by on)))

  pub quiet_due : script_of_step x s ≡ []
  quiet_due = sym (on_due x s after quiet.on (sym (ap come_to is_chosen))) ∙ ap (λ p. transfer_script p after.device.buffer) idle
