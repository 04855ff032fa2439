-- The flat machine simulates each run of code that uses no port and no special register: none of its steps traps.
use Rattle.std.proofs.Common.{◌≡◌, ◌≢◌, ℕ, zero, suc, ◌+◌, ◌*◌, ◌/◌, ◌%◌, ◌^◌, ◌<◌, ◌≤◌, true, false, not, Option, Some, None, [], drop, length, slice_index, slice_set, refl, sym, ap, ap₂, ◌∙◌, subst, ⊎_elim, arith, lt-ltb, eq-eqb, length-set, get_or-set_other}
use Rattle.std.specs.Prelude.{◌==◌, if◌then◌else◌}
use Rattle.std.proofs.lemmas.Bool.{cases_lt, cond-true, false≢true}
use Rattle.std.proofs.lemmas.List.Elements.{All-set}
use Rattle.mips_table.specs.declared.inst.Inst.{Inst}
use Rattle.mips_table.specs.declared.inst.Inst.TheVariants.{Mfc0, Mtc0}
use Rattle.mips_table.specs.declared.cause.Cause.TheVariants as causes
use Rattle.mips_table.specs.declared.effect.Effect.{Effect}
use Rattle.mips_table.specs.declared.effect.Effect.TheVariants.{Set, Wide, Load, Store, Overflow, Call, System}
use Rattle.mips_table.specs.Encoding.{encoding}
use Rattle.mips_table.specs.Decoding.{decoding}
use Rattle.mips_table.specs.Effect.{next_address, effect_of}
use Rattle.mips_table.specs.Processor.{Move, Loaded, Stored, Trapped, went_on, advanced, accessed, performed, effect_on, executed}
use Rattle.mips_table.specs.Flat.{Flat, VStep, Goes, flat_access, word_at, after_move, vstep}
use Rattle.mips_table.specs.Device.{COMMAND, SECTOR, is_buffer}
use Rattle.mips_table.specs.Machine.{LOG, INPUT}
use Rattle.mips_table.specs.Fits.{EffectFits, IsWord}
use Rattle.mips_table.specs.Code.{put, Contents, with_reg, Behind, World, Program, on_flat, Sound, CodeState, at_with, settle, commanded, logged, port_loaded, word_loaded, after_load, after_store, acted, PrivilegedMay, EffectMay, effect_at, act, MayAt, act_at, code_run, MayRun}
use Rattle.mips_table.specs.Simulation.{contents_of, MemoryHolds, nothing_behind, flat_configuration, FlatFits, flat_after, flat_run, FlatAlong, FlatInstructs, SimulatesFlat}
use Rattle.mips_table.proofs.DecodingInverts.{decoding-encoding}
use Rattle.mips_table.proofs.StepsKeepWords.{read_word, goes_on, advances as advanced_fits, effect_fits}
use Rattle.mips_table.proofs.ReadableWords.{set_put, write_put, reg_same}

-- a step of the run is the first one and then the others
flat_run_first : (s : Flat) (n : ℕ) → flat_run s (suc n) ≡ flat_run (flat_after (vstep s)) n
flat_run_first s zero = refl
flat_run_first s (suc n) = ap (λ z. flat_after (vstep z)) (flat_run_first s n)

-- what a run of code sees of the flat machine
abbrev contents : Flat → Contents
contents s = contents_of s.cpu [] (slice_index s.words)

module _ (p : Program) (f : Sound (on_flat p)) where
  abbrev w : World
  w = on_flat p

  -- the step leads to a machine that fits, which the run of code calls t
  record Good (a : VStep) (t : CodeState) : Type 0 where
    after : Flat
    is : a ≡ Goes after
    same : flat_configuration after ≡ t
    fits : FlatFits after
    holds : MemoryHolds w after.words

  to : (a a' : VStep) (t t' : CodeState) → a' ≡ a → t' ≡ t → Good a t → Good a' t'
  to a a' t t' e e' g = subst (Good a') (sym e') (subst (λ y. Good y t) (sym e) g)

  advances : (pc : ℕ) → pc % 4 ≡ 0 → pc / 4 < p.words → (next_address pc % 4 ≡ 0) × (next_address pc / 4 ≡ pc / 4 + 1)
  advances pc e lt = let small = f.small in (omega arith, omega arith)

  word : (n : ℕ) → IsWord (n % 2 ^ 32)
  word n = omega arith

  reg_good : (s : Flat) (r v pc n : ℕ) → FlatFits s → MemoryHolds w s.words → r < 32 → IsWord v → IsWord pc → pc % 4 ≡ 0 → pc / 4 ≡ n
      → Good (Goes (record s { cpu = went_on s.cpu r v pc })) (settle n (with_reg (contents s) r v) nothing_behind)
  reg_good s r v pc n q h lt value small aligned e = record {
    after = record s { cpu = went_on s.cpu r v pc };
    is = refl;
    same = ap (λ m. at_with m (contents (record s { cpu = went_on s.cpu r v pc })) nothing_behind) e
        ∙ ap (λ g. at_with n (record (contents s) { regs = g }) nothing_behind) (write_put s.cpu.regs r v (omega (arith, q.cpu.regs.size)));
    fits = record { cpu = goes_on s.cpu r v pc q.cpu value small; aligned = aligned; words = q.words };
    holds = h;
  }

  wide_good : (s : Flat) (hi lo pc : ℕ) → FlatFits s → MemoryHolds w s.words → IsWord hi → IsWord lo → IsWord pc → pc % 4 ≡ 0
      → Good (Goes (record s { cpu = record s.cpu { pc = pc; hi = hi; lo = lo } })) (settle (pc / 4) (record (contents s) { hi = hi; lo = lo }) nothing_behind)
  wide_good s hi lo pc q h a b small aligned = record {
    after = record s { cpu = record s.cpu { pc = pc; hi = hi; lo = lo } };
    is = refl;
    same = refl;
    fits = record { cpu = record { pc = small; regs = q.cpu.regs; hi = a; lo = b }; aligned = aligned; words = q.words };
    holds = h;
  }

  store_good : (s : Flat) (k v : ℕ) → FlatFits s → MemoryHolds w s.words → s.cpu.pc / 4 < p.words → k < p.words → p.kept k ≡ None → IsWord v
      → Good (Goes (record { cpu = advanced s.cpu; words = slice_set s.words k v })) (at_with (s.cpu.pc / 4 + 1) (record (contents s) { memory = put (slice_index s.words) k v }) nothing_behind)
  store_good s k v q h lt inside free value =
      let a = advances s.cpu.pc q.aligned lt in
      record {
        after = record { cpu = advanced s.cpu; words = slice_set s.words k v };
        is = refl;
        same = ap (λ m. at_with m (record (contents s) { memory = slice_index (slice_set s.words k v) }) nothing_behind) a.1
            ∙ ap (λ g. at_with (s.cpu.pc / 4 + 1) (record (contents s) { memory = g }) nothing_behind) (set_put s.words k v (omega (arith, h.size)));
        fits = record { cpu = advanced_fits s.cpu q.cpu; aligned = a.0; words = All-set IsWord s.words k v value q.words };
        holds = record {
          size = length-set s.words k v ∙ h.size;
          kept = λ j u e. let ne : j ≢ k = λ same. let c : None ≡ Some u = sym free ∙ ap p.kept (sym same) ∙ e in absurd (cc) in
              get_or-set_other s.words k j v 0 ne ∙ h.kept j u e;
        };
      }

  -- an access outside the words needs ports
  inside : (k : ℕ) → (p.words ≤ k → false ≡ true) → k < p.words
  inside k h = ⊎_elim (λ lt. lt) (λ le. absurd (false≢true (h le))) (cases_lt k p.words)

  -- special registers aren't used
  none_privileged : (i : Inst) → PrivilegedMay w i → ⊥
  none_privileged (Mfc0 rt k) m = false≢true m
  none_privileged (Mtc0 rt k) m = false≢true m.0
  none_privileged other m = m

  -- what a load gives, and what it leaves behind the ports; what a store does
  loads_inside : (s : Flat) (k n r : ℕ) → k < p.words → settle n (with_reg (contents s) r (word_loaded w (contents s) nothing_behind k)) (after_load w nothing_behind k) ≡ settle n (with_reg (contents s) r (slice_index s.words k)) nothing_behind
  loads_inside s k n r lt =
      let a = lt-ltb k p.words lt in
      ap₂ (λ v d. settle n (with_reg (contents s) r v) d) (cond-true _ (slice_index s.words k) (port_loaded (contents s) nothing_behind k) a) (cond-true _ nothing_behind (if k == INPUT then record nothing_behind { input = drop 1 nothing_behind.input } else nothing_behind) a)

  stores_inside : (s : Flat) (k n v : ℕ) → k < p.words → after_store w n (contents s) nothing_behind k v ≡ at_with n (record (contents s) { memory = put (slice_index s.words) k v }) nothing_behind
  stores_inside s k n v lt =
      let c : Contents = contents s in
      let d : Behind = nothing_behind in
      let writes : CodeState = at_with n (record c { memory = put c.memory k v }) d in
      cond-true _ writes
      (if k == LOG then settle n c (logged d v) else if k == COMMAND then settle n c (commanded w d (c.memory SECTOR) v) else if is_buffer k then writes else if k == SECTOR then writes else at_with n c d)
      (lt-ltb k p.words lt)

  -- an access of an aligned word inside goes on
  goes : (s : Flat) (address : ℕ) (m : Move) → MemoryHolds w s.words → address % 4 ≡ 0 → address / 4 < p.words
      → after_move s (accessed ((flat_access s.words).may_load address) causes.DataAlign causes.DataFault address s.cpu.pc m) ≡ after_move s m
  goes s address m h aligned lt =
      ap (λ o. after_move s (accessed o causes.DataAlign causes.DataFault address s.cpu.pc m)) (lt-ltb (address / 4) (length s.words) (omega (arith, h.size)))
      ∙ ap (λ o. after_move s (if not o then Trapped causes.DataAlign address s.cpu.pc else m)) (eq-eqb (address % 4) 0 aligned)

  effects : (s : Flat) (bits : ℕ) (i : Inst) (e : Effect) → FlatFits s → MemoryHolds w s.words → s.cpu.pc / 4 < p.words → EffectFits e → EffectMay w i (contents s) e
      → Good (after_move s (performed (flat_access s.words) s.cpu bits e)) (acted w i (s.cpu.pc / 4) (contents s) nothing_behind e)
  effects s bits i (Set r v pc) q h lt b m = reg_good s r v pc (pc / 4) q h b.0 b.1 b.2 m refl
  effects s bits i (Wide hi lo pc) q h lt b m = wide_good s hi lo pc q h b.0 b.1 b.2 m
  effects s bits i (Load r address) q h lt b m =
      let a = advances s.cpu.pc q.aligned lt in
      let k : ℕ = address / 4 in
      let lt' : k < p.words = inside k m.1 in
      to (Goes (record s { cpu = went_on s.cpu r (slice_index s.words k) (next_address s.cpu.pc) })) _ _ _
      (goes s address (Loaded (advanced s.cpu) r address) h m.0 lt')
      (loads_inside s k (s.cpu.pc / 4 + 1) r lt')
      (reg_good s r (slice_index s.words k) (next_address s.cpu.pc) (s.cpu.pc / 4 + 1) q h b.0 (read_word s.words k q.words) (word _) a.0 a.1)
  effects s bits i (Store address v) q h lt b m =
      let k : ℕ = address / 4 in
      let lt' : k < p.words = inside k m.1 in
      to (Goes (record { cpu = advanced s.cpu; words = slice_set s.words k v })) _ _ _
      (goes s address (Stored (advanced s.cpu) address v) h m.0 lt')
      (stores_inside s k (s.cpu.pc / 4 + 1) v lt')
      (store_good s k v q h lt lt' m.2 b.1)
  effects s bits i Overflow q h lt b m = absurd m
  effects s bits i Call q h lt b m = absurd m
  effects s bits i System q h lt b m = absurd (none_privileged i m)

  -- the step is that of the instruction that stands there
  pub flat_step : (s : Flat) (i : Inst) → p.code (s.cpu.pc / 4) ≡ Some i → FlatFits s → MemoryHolds w s.words → vstep s ≡ after_move s (performed (flat_access s.words) s.cpu (encoding i) (effect_on i s.cpu))
  flat_step s i at q h =
      let k : ℕ = s.cpu.pc / 4 in
      let lt = f.inside k i at in
      let does : ℕ → Move = λ bits. executed (flat_access s.words) s.cpu bits (decoding bits) in
      let bits : ℕ = word_at s.words s.cpu.pc in
      ap (λ o. after_move s (accessed o causes.FetchAlign causes.FetchFault s.cpu.pc s.cpu.pc (does bits))) (lt-ltb k (length s.words) (omega (arith, h.size)))
      ∙ ap (λ o. after_move s (if not o then Trapped causes.FetchAlign s.cpu.pc s.cpu.pc else does bits)) (eq-eqb (s.cpu.pc % 4) 0 q.aligned)
      ∙ ap (λ v. after_move s (does v)) (h.kept k (encoding i) (f.keeps k i at))
      ∙ ap (λ o. after_move s (executed (flat_access s.words) s.cpu (encoding i) o)) (decoding-encoding i (f.range k i at))

  steps_once : (s : Flat) (i : Inst) → p.code (s.cpu.pc / 4) ≡ Some i → FlatFits s → MemoryHolds w s.words → MayAt w (Some i) (flat_configuration s) → Good (vstep s) (act w i (flat_configuration s))
  unfolding act
  steps_once s i at q h may =
      let k : ℕ = s.cpu.pc / 4 in
      let range = f.range k i at in
      let e : Effect = effect_on i s.cpu in
      let whole : 4 * k ≡ s.cpu.pc = let a = q.aligned in omega arith in
      let same_effect : effect_at i k (contents s) ≡ e = ap₂ (λ pc g. effect_of i pc g s.cpu.hi s.cpu.lo) whole (sym (reg_same s.cpu.regs q.cpu.regs.none)) in
      let b : EffectFits e = effect_fits i s.cpu q.cpu range in
      to (after_move s (performed (flat_access s.words) s.cpu (encoding i) e)) _ (acted w i k (contents s) nothing_behind e) _
      (flat_step s i at q h)
      (ap (acted w i k (contents s) nothing_behind) same_effect)
      (effects s (encoding i) i e q h (f.inside k i at) b (subst (EffectMay w i (contents s)) same_effect may))

  record After (s s' : Flat) (t : CodeState) : Type 0 where
    same : flat_configuration s' ≡ t
    fits : FlatFits s'
    holds : MemoryHolds w s'.words
    instructs : FlatInstructs w s

  steps_at : (s : Flat) (o : Option Inst) → p.code (s.cpu.pc / 4) ≡ o → FlatFits s → MemoryHolds w s.words → MayAt w o (flat_configuration s) → After s (flat_after (vstep s)) (act_at w o (flat_configuration s))
  steps_at s None at q h may = absurd may
  steps_at s (Some i) at q h may =
      let g = steps_once s i at q h may in
      let there : flat_after (vstep s) ≡ g.after = ap flat_after g.is in
      record {
        same = ap flat_configuration there ∙ g.same;
        fits = subst FlatFits (sym there) g.fits;
        holds = subst (λ z. MemoryHolds w z.words) (sym there) g.holds;
        instructs = record { inst = i; code = at; untrapped = g.is ∙ ap Goes (sym there) };
      }

  -- a run
  pub flat_follows : (n : ℕ) (s : Flat) → FlatFits s → MemoryHolds w s.words → MayRun w n (flat_configuration s) → SimulatesFlat w n s
  flat_follows zero s q h may = record {
    same = λ j le. let e : 0 ≡ j = omega arith in subst (λ j. flat_configuration (flat_run s j) ≡ code_run w (flat_configuration s) j) e refl;
    along = λ j le. let e : 0 ≡ j = omega arith in subst (FlatAlong w s) e (record { fits = q; holds = h });
    instructs = λ j lt. absurd (omega arith);
  }
  flat_follows (suc n) s q h may =
      let s' : Flat = flat_after (vstep s) in
      let a = steps_at s (p.code (s.cpu.pc / 4)) refl q h may.0 in
      let r = flat_follows n s' a.fits a.holds (subst (MayRun w n) (sym a.same) may.1) in
      record {
        same = elim [ zero ↦ λ le. refl | suc j ↦ λ le. ap flat_configuration (flat_run_first s j) ∙ r.same j (omega arith) ∙ ap (λ u. code_run w u j) a.same ];
        along = elim [ zero ↦ λ le. record { fits = q; holds = h } | suc j ↦ λ le. later s j (r.along j (omega arith)) ];
        instructs = elim [ zero ↦ λ lt. a.instructs | suc j ↦ λ lt. subst (FlatInstructs w) (sym (flat_run_first s j)) (r.instructs j (omega arith)) ];
      }
    where
      later : (s : Flat) (j : ℕ) → FlatAlong w (flat_after (vstep s)) j → FlatAlong w s (suc j)
      later s j b = record { fits = subst FlatFits (sym (flat_run_first s j)) b.fits; holds = subst (λ z. MemoryHolds w z.words) (sym (flat_run_first s j)) b.holds }
