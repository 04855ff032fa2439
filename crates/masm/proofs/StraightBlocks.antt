-- A straight block does what is said of its instructions: one step lemma, over the effect.
use Rattle.std.proofs.Common.{◌≡◌, ◌≢◌, ℕ, ◌+◌, ◌*◌, ◌/◌, ◌%◌, ◌<◌, ◌≤◌, Some, Bool, true, false, cond, nat_lt, nat_eq, List, [], ◌∷◌, length, refl, sym, ap, ap₂, ◌∙◌, subst, ⊎_elim, arith, lt-ltb, le-ltb, ne_eqb, eq-eqb}
use Rattle.std.specs.Prelude.{◌||◌, not, None, slice_index}
use Rattle.std.proofs.lemmas.Bool.{cond-true, cond-false, and_parts, cond_both, and_right, or_cases, not-true, ltb-true, ltb-false, eqb-true}
use Rattle.mips_table.specs.declared.inst.Inst.{Inst}
use Rattle.mips_table.specs.declared.inst.Inst.TheVariants.{Sll, Srl, Sra, Sllv, Srlv, Srav, Addu, Subu, And, Or, Xor, Nor, Slt, Sltu, Addiu, Slti, Sltiu, Andi, Ori, Xori, Lui, Lw, Sw, Mult, Multu, Div, Divu, Mfhi, Mthi, Mflo, Mtlo, Mfc0, Mtc0}
use Rattle.mips_table.specs.declared.effect.Effect.{Effect}
use Rattle.mips_table.specs.declared.effect.Effect.TheVariants.{Set, Wide, Load, Store, System}
use Rattle.mips_table.specs.Arith.{signed_quotient, signed_remainder}
use Rattle.mips_table.specs.Effect.{next_address, division_effect}
use Rattle.mips_table.specs.Device.{Pending, Idle, BUFFER, SECTOR, COMMAND, is_buffer, is_busy}
use Rattle.mips_table.specs.Machine.{LOG, LEFT, INPUT, LOG_ROOM}
use Rattle.mips_table.specs.Code.{put, reg, Contents, with_reg, with_wide, Behind, World, Sound, at_with, settle, word_loaded, after_load, after_store, logged, commanded, acted, EffectMay, effect_at, act, Reaches, CodeAt}
use Rattle.masm.specs.Says.{Says, Gives, Widens, Reads, Writes, ReadsDisk, WritesDisk, Hears, Takes, Logs, Asks, is_disk_word, DiskWord, Said, said, ports_after, falls_through, straight, AllSaid, sayings, tellings}
use Rattle.masm.specs.Laws.{StraightRuns}
use Rattle.masm.proofs.RunsCompose.{none, joined, later, step_to, settled, to_there}

abbrev On : ℕ → Effect → Type 0
On n (Set r u to) = to ≡ next_address (4 * n)
On n (Wide u l to) = to ≡ next_address (4 * n)
On n e = Unit {0}

on_cond : (n : ℕ) (b : Bool) (e f : Effect) → On n e → On n f → On n (cond b e f)
on_cond n true e f a b = a
on_cond n false e f a b = b

on : (i : Inst) (n : ℕ) (c : Contents) → falls_through i ≡ true → On n (effect_at i n c)
on (Sll rd rt sa) n c g = refl
on (Srl rd rt sa) n c g = refl
on (Sra rd rt sa) n c g = refl
on (Sllv rd rt rs) n c g = refl
on (Srlv rd rt rs) n c g = refl
on (Srav rd rt rs) n c g = refl
on (Addu rd rs rt) n c g = refl
on (Subu rd rs rt) n c g = refl
on (And rd rs rt) n c g = refl
on (Or rd rs rt) n c g = refl
on (Xor rd rs rt) n c g = refl
on (Nor rd rs rt) n c g = refl
on (Slt rd rs rt) n c g = refl
on (Sltu rd rs rt) n c g = refl
on (Addiu rt rs imm) n c g = refl
on (Slti rt rs imm) n c g = refl
on (Sltiu rt rs imm) n c g = refl
on (Andi rt rs imm) n c g = refl
on (Ori rt rs imm) n c g = refl
on (Xori rt rs imm) n c g = refl
on (Lui rt imm) n c g = refl
on (Lw rt rs imm) n c g = tt
on (Sw rt rs imm) n c g = tt
on (Mult rs rt) n c g = refl
on (Multu rs rt) n c g = refl
on (Div rs rt) n c g = on_cond n (nat_eq (reg c.regs rt) 0) _ _ refl refl
on (Divu rs rt) n c g = on_cond n (nat_eq (reg c.regs rt) 0) _ _ refl refl
on (Mfhi rd) n c g = refl
on (Mthi rs) n c g = refl
on (Mflo rd) n c g = refl
on (Mtlo rs) n c g = refl
on (Mfc0 rt special) n c g = tt
on (Mtc0 rt special) n c g = tt
on i n c g = absurd (cc)

-- a division by other than 0, and by 0
pub division : (w : World) (i : Inst) (c : Contents) (d : Behind) (a b pc hi lo : ℕ) → b ≢ 0 → Said w i c d (division_effect a b pc hi lo) (Widens (signed_remainder a b) (signed_quotient a b))
division w i c d a b pc hi lo ne = subst (λ t. Said w i c d (cond t (Wide hi lo (next_address pc)) (Wide (signed_remainder a b) (signed_quotient a b) (next_address pc))) (Widens (signed_remainder a b) (signed_quotient a b))) (sym (ne_eqb b 0 ne)) (refl, refl)

pub by_zero : (w : World) (i : Inst) (c : Contents) (d : Behind) (a b pc hi lo : ℕ) → b ≡ 0 → Said w i c d (division_effect a b pc hi lo) (Widens hi lo)
by_zero w i c d a b pc hi lo e = subst (λ t. Said w i c d (cond t (Wide hi lo (next_address pc)) (Wide (signed_remainder a b) (signed_quotient a b) (next_address pc))) (Widens hi lo)) (sym (eq-eqb b 0 e)) (refl, refl)

-- where a disk word lies
disk_bounds : (x : ℕ) → is_disk_word x ≡ true → (BUFFER ≤ x) × (x ≤ SECTOR)
disk_bounds x h = ⊎_elim
    (λ b. let p = and_parts (not (nat_lt x BUFFER)) (nat_lt x SECTOR) b in
    let low = ltb-false x BUFFER (not-true _ p.0) in
    let high = ltb-true x SECTOR p.1 in
    (low, omega arith))
    (λ e. let q = eqb-true x SECTOR e in (omega arith, omega arith))
    (or_cases (is_buffer x) (nat_eq x SECTOR) h)

no_command : (x : ℕ) → is_disk_word x ≡ true → x ≢ COMMAND
no_command x h e = let b = disk_bounds x h in let high = b.1 in omega arith

either : {A : Type 0} (b s : Bool) (x y : A) → (b || s) ≡ true → cond b x (cond s x y) ≡ x
either true s x y h = refl
either false s x y h = cond-true s x y h

not_busy : (p : Pending) → p ≡ Idle → is_busy p ≡ false
not_busy p e = ap is_busy e

module _ (w : World) (f : Sound w) where
  -- what a load of a disk word gives, where no command is under way, and what it leaves
  disk_loads : (c : Contents) (d : Behind) (x : ℕ) → DiskWord w d x → word_loaded w c d x ≡ c.memory x
  disk_loads c d x h =
      let small = f.small in
      let at = disk_bounds x h.0 in let low = at.0 in let high = at.1 in
      cond-false _ (c.memory x) _ (le-ltb x w.words (omega arith))
      ∙ cond-false _ (length d.log) _ (ne_eqb x LOG (λ e. absurd (omega arith)))
      ∙ cond-false _ (length d.input) _ (ne_eqb x LEFT (λ e. absurd (omega arith)))
      ∙ cond-false _ (slice_index d.input 0) _ (ne_eqb x INPUT (λ e. absurd (omega arith)))
      ∙ cond-false _ (cond (is_busy d.pending) 1 0) _ (ne_eqb x COMMAND (λ e. absurd (omega arith)))
      ∙ cond-false _ 0 _ (and_right (is_buffer x) (is_busy d.pending) (not_busy d.pending h.2))

  disk_leaves : (d : Behind) (x : ℕ) → is_disk_word x ≡ true → after_load w d x ≡ d
  disk_leaves d x h =
      let small = f.small in
      let at = disk_bounds x h in let low = at.0 in let high = at.1 in
      cond-false _ d _ (le-ltb x w.words (omega arith)) ∙ cond-false _ _ d (ne_eqb x INPUT (λ e. absurd (omega arith)))

  -- what a store to a disk word does then
  disk_stores : (n : ℕ) (c : Contents) (d : Behind) (x v : ℕ) → DiskWord w d x → after_store w n c d x v ≡ settle n (record c { memory = put c.memory x v }) d
  disk_stores n c d x v h =
      let small = f.small in
      let at = disk_bounds x h.0 in let low = at.0 in let high = at.1 in
      let wrote = settle n (record c { memory = put c.memory x v }) d in
      cond-false _ wrote _ (le-ltb x w.words (omega arith))
      ∙ cond-false _ (settle n c (logged d v)) _ (ne_eqb x LOG (λ e. absurd (omega arith)))
      ∙ cond-false _ (settle n c d) _ (not_busy d.pending h.2)
      ∙ cond-false _ (settle n c (commanded w d (c.memory SECTOR) v)) _ (ne_eqb x COMMAND (λ e. absurd (omega arith)))
      ∙ either (is_buffer x) (nat_eq x SECTOR) wrote (settle n c d) h.0

  -- the one step lemma, over the effect
  acts : (i : Inst) (n : ℕ) (c : Contents) (d : Behind) (e : Effect) (h : Says) → n < w.words → On n e → Said w i c d e h → EffectMay w i c e × (acted w i n c d e ≡ settle (n + 1) (said i c e h) (ports_after d h))
  acts i n c d (Set r u to) (Gives v) lt o s =
      let small = f.small in
      let at : to / 4 ≡ n + 1 = ap (λ t. t / 4) o ∙ omega arith in
      (ap (λ t. t % 4) o ∙ omega arith, ap₂ (λ m x. settle m (with_reg c r x) d) at s)
  acts i n c d (Wide u l to) (Widens hi lo) lt o s =
      let small = f.small in
      let at : to / 4 ≡ n + 1 = ap (λ t. t / 4) o ∙ omega arith in
      (ap (λ t. t % 4) o ∙ omega arith, ap (λ m. settle m (with_wide c u l) d) at ∙ ap₂ (λ x y. settle (n + 1) (with_wide c x y) d) s.0 s.1)
  acts i n c d (Load r a) (Reads x v) lt o s =
      let small = f.small in let inside = s.1 in
      let at : a / 4 ≡ x = ap (λ t. t / 4) s.0 ∙ omega arith in
      let value : word_loaded w c d x ≡ v = cond-true (nat_lt x w.words) (c.memory x) _ (lt-ltb x w.words s.1) ∙ s.2 in
      let left : after_load w d x ≡ d = cond-true (nat_lt x w.words) d _ (lt-ltb x w.words s.1) in (
        (ap (λ t. t % 4) s.0 ∙ omega arith, λ le. absurd (omega arith)),
        ap₂ (λ y z. settle (n + 1) (with_reg c r y) z) (ap (word_loaded w c d) at ∙ value) (ap (after_load w d) at ∙ left),
      )
  acts i n c d (Store a u) (Writes x v) lt o s =
      let small = f.small in let inside = s.1 in
      let at : a / 4 ≡ x = ap (λ t. t / 4) s.0 ∙ omega arith in (
        (ap (λ t. t % 4) s.0 ∙ omega arith, (λ le. absurd (omega arith)), ap w.kept at ∙ s.2, (λ e. absurd (omega arith)), λ e. absurd (omega arith)),
        ap₂ (λ y z. after_store w (n + 1) c d y z) at s.3 ∙ cond-true (nat_lt x w.words) (settle (n + 1) (record c { memory = put c.memory x v }) d) _ (lt-ltb x w.words s.1),
      )
  acts i n c d (Load r a) (ReadsDisk x v) lt o s =
      let b = disk_bounds x s.1.0 in let low = b.0 in let high = b.1 in
      let at : a / 4 ≡ x = ap (λ t. t / 4) s.0 ∙ omega arith in (
        (ap (λ t. t % 4) s.0 ∙ omega arith, λ le. s.1.1),
        ap₂ (λ y z. settle (n + 1) (with_reg c r y) z) (ap (word_loaded w c d) at ∙ disk_loads c d x s.1 ∙ s.2) (ap (after_load w d) at ∙ disk_leaves d x s.1.0),
      )
  acts i n c d (Store a u) (WritesDisk x v) lt o s =
      let b = disk_bounds x s.1.0 in let low = b.0 in let high = b.1 in
      let at : a / 4 ≡ x = ap (λ t. t / 4) s.0 ∙ omega arith in (
        (ap (λ t. t % 4) s.0 ∙ omega arith, (λ le. s.1.1), ap w.kept at ∙ s.2, (λ e. absurd (omega arith)), λ e. absurd (no_command x s.1.0 (sym at ∙ e))),
        ap₂ (λ y z. after_store w (n + 1) c d y z) at s.3 ∙ disk_stores (n + 1) c d x v s.1,
      )
  acts i n c d (Load r a) (Hears x v) lt o s =
      let at : a / 4 ≡ x = ap (λ t. t / 4) s.0 ∙ omega arith in
      let value : word_loaded w c d x ≡ v = cond-false (nat_lt x w.words) (c.memory x) _ (le-ltb x w.words s.1) ∙ s.4 in
      let left : after_load w d x ≡ d = cond-false (nat_lt x w.words) d _ (le-ltb x w.words s.1) ∙ cond-false _ _ d (ne_eqb x INPUT s.3) in (
        (ap (λ t. t % 4) s.0 ∙ omega arith, λ le. s.2),
        ap₂ (λ y z. settle (n + 1) (with_reg c r y) z) (ap (word_loaded w c d) at ∙ value) (ap (after_load w d) at ∙ left),
      )
  acts i n c d (Load r a) (Takes v) lt o s =
      let small = f.small in
      let at : a / 4 ≡ INPUT = ap (λ t. t / 4) s.0 in
      let above : nat_lt INPUT w.words ≡ false = le-ltb INPUT w.words (omega arith) in
      let value : word_loaded w c d INPUT ≡ v = cond-false (nat_lt INPUT w.words) (c.memory INPUT) _ above ∙ s.2 in
      let left : after_load w d INPUT ≡ ports_after d (Takes v) = cond-false (nat_lt INPUT w.words) d _ above in (
        (ap (λ t. t % 4) s.0, λ le. s.1),
        ap₂ (λ y z. settle (n + 1) (with_reg c r y) z) (ap (word_loaded w c d) at ∙ value) (ap (after_load w d) at ∙ left),
      )
  acts i n c d (Store a u) (Logs v) lt o s =
      let small = f.small in
      let at : a / 4 ≡ LOG = ap (λ t. t / 4) s.0 in
      let above : nat_lt LOG w.words ≡ false = le-ltb LOG w.words (omega arith) in (
        (ap (λ t. t % 4) s.0, (λ le. s.1), ap w.kept at ∙ s.2, (λ e. absurd (omega (arith, at, e))), λ e. absurd (omega (arith, at, e))),
        ap₂ (λ y z. after_store w (n + 1) c d y z) at s.3 ∙ cond-false (nat_lt LOG w.words) (settle (n + 1) (record c { memory = put c.memory LOG v }) d) _ above,
      )
  acts i n c d System Asks lt o s = (s, refl)
  acts i n c d e h lt o s = absurd s

  pub said_step : (i : Inst) (h : Says) (n : ℕ) (c : Contents) (d : Behind) → w.code n ≡ Some i → falls_through i ≡ true → Said w i c d (effect_at i n c) h → Reaches w 1 (at_with n c d) (settle (n + 1) (said i c (effect_at i n c) h) (ports_after d h))
  unfolding act
  said_step i h n c d at g s =
      let a = acts i n c d (effect_at i n c) h (f.inside n i at) (on i n c g) s in
      step_to w (at_with n c d) _ i at a.0 a.1

  -- nothing that is said begins a command
  still : (d : Behind) (h : Says) → d.pending ≡ Idle → (ports_after d h).pending ≡ Idle
  still d (Gives v) e = e
  still d (Widens hi lo) e = e
  still d (Reads x v) e = e
  still d (Writes x v) e = e
  still d (ReadsDisk x v) e = e
  still d (WritesDisk x v) e = e
  still d (Hears x v) e = e
  still d (Takes v) e = e
  still d (Logs v) e = cond_both (nat_lt (length d.log) LOG_ROOM) _ d (λ b. b.pending ≡ Idle) (λ t. e) (λ t. e)
  still d Asks e = e

  pub next_step : (i : Inst) (h : Says) (n : ℕ) (c : Contents) (d : Behind) → w.code n ≡ Some i → falls_through i ≡ true → d.pending ≡ Idle → Said w i c d (effect_at i n c) h → Reaches w 1 (at_with n c d) (at_with (n + 1) (said i c (effect_at i n c) h) (ports_after d h))
  next_step i h n c d at g idle s = settled w 1 (n + 1) _ (said i c (effect_at i n c) h) (ports_after d h) (still d h idle) (said_step i h n c d at g s)

  pub straight_runs : (is : List Inst) (hs : List Says) (n : ℕ) (c : Contents) (d : Behind) → CodeAt w n is → straight is ≡ true → d.pending ≡ Idle → AllSaid w n is hs c d → Reaches w (length is) (at_with n c d) (at_with (n + length is) (sayings n is hs c) (tellings hs d))
  straight_runs [] [] n c d at g idle s = let e : n ≡ n + 0 = omega arith in to_there w 0 _ _ _ (ap (λ m. at_with m c d) e) (none w (at_with n c d))
  straight_runs (i ∷ is) (h ∷ hs) n c d at g idle s =
      let b = and_parts (falls_through i) (straight is) g in
      let e : n + 1 + length is ≡ n + length (i ∷ is) = omega arith in
      let idle' = still d h idle in
      let first = next_step i h n c d at.0 b.0 idle s.0 in
      let rest = straight_runs is hs (n + 1) (said i c (effect_at i n c) h) (ports_after d h) at.1 b.1 idle' s.1 in
      let end = ap (λ m. at_with m (sayings (n + 1) is hs (said i c (effect_at i n c) h)) (tellings hs (ports_after d h))) e in
      later w (1 + length is) _ _ _ (omega arith) (joined w 1 (length is) _ _ _ first (to_there w (length is) _ _ _ end rest))
  straight_runs [] (h ∷ hs) n c d at g idle s = absurd s
  straight_runs (i ∷ is) [] n c d at g idle s = absurd s

  -- the store of a command
  commands : (i : Inst) (n v : ℕ) (c : Contents) (d : Behind) → w.code n ≡ Some i → effect_at i n c ≡ Store (4 * COMMAND) v → w.system ≡ true → w.kept COMMAND ≡ None → d.pending ≡ Idle → c.memory SECTOR < w.count → Reaches w 1 (at_with n c d) (settle (n + 1) c (commanded w d (c.memory SECTOR) v))
  unfolding act
  commands i n v c d at e system free idle sector =
      let small = f.small in
      let may : EffectMay w i c (Store (4 * COMMAND) v) = (refl, (λ le. system), free, (λ p. absurd (omega (arith, p))), λ p. sector) in
      step_to w (at_with n c d) _ i at (subst (λ y. EffectMay w i c y) (sym e) may)
      (ap (λ y. acted w i n c d y) e
      ∙ cond-false (nat_lt COMMAND w.words) (settle (n + 1) (record c { memory = put c.memory COMMAND v }) d) _ (le-ltb COMMAND w.words (omega arith))
      ∙ cond-false (is_busy d.pending) (settle (n + 1) c d) _ (not_busy d.pending idle))

  pub straight_code : StraightRuns w
  straight_code = record { one = said_step; next = next_step; all = straight_runs; division = division w; by_zero = by_zero w; command = commands }
