-- Where branches and jumps lead.
use Rattle.std.proofs.Common.{◌≡◌, ℕ, ◌+◌, ◌-◌, ◌*◌, ◌/◌, ◌%◌, ◌^◌, ◌<◌, ◌≤◌, Some, Bool, true, false, nat_lt, sym, ap, ◌∙◌, subst, arith, lt-ltb, le-ltb}
use Rattle.std.proofs.lemmas.Bool.{cond-true, cond-false}
use Rattle.mips_table.specs.declared.inst.Inst.{Inst}
use Rattle.mips_table.specs.declared.effect.Effect.TheVariants.{Set}
use Rattle.mips_table.specs.Arith.{extended}
use Rattle.mips_table.specs.Effect.{next_address, branch, jump_target}
use Rattle.mips_table.specs.Code.{Contents, with_reg, Behind, World, Sound, at_with, settle, acted, EffectMay, effect_at, act, Reaches}
use Rattle.masm.specs.Laws.{JumpsLead}
use Rattle.masm.proofs.RunsCompose.{step_to}

module _ (w : World) (f : Sound w) where
  -- an instruction that sets the pc to a word's address
  pub led : (i : Inst) (k to r v : ℕ) (c : Contents) (d : Behind) → w.code k ≡ Some i → effect_at i k c ≡ Set r v (4 * to) → Reaches w 1 (at_with k c d) (settle to (with_reg c r v) d)
  unfolding act
  led i k to r v c d at e =
      let may : EffectMay w i c (Set r v (4 * to)) = omega arith in
      let there : 4 * to / 4 ≡ to = omega arith in
      step_to w (at_with k c d) _ i at (subst (λ y. EffectMay w i c y) (sym e) may)
      (ap (λ y. acted w i k c d y) e ∙ ap (λ m. settle m (with_reg c r v) d) there)

  forward : (k imm : ℕ) → k < w.words → imm < 32768 → (4 * k + 4 + 4 * extended imm) % 2 ^ 32 ≡ 4 * (k + 1 + imm)
  forward k imm lt le =
      let e : extended imm ≡ imm = cond-true _ imm _ (lt-ltb _ _ le) in
      let s = f.small in
      ap (λ v. (4 * k + 4 + 4 * v) % 2 ^ 32) e ∙ (omega arith)

  backward : (k to len : ℕ) → k < w.words → to + len ≡ k + 1 → len ≤ 32768 → 0 < len → (4 * k + 4 + 4 * extended (65536 - len)) % 2 ^ 32 ≡ 4 * to
  backward k to len lt e le pos =
      let t : nat_lt (65536 - len) (2 ^ 15) ≡ false = le-ltb _ _ (omega arith) in
      let s = f.small in
      ap (λ v. (4 * k + 4 + 4 * v) % 2 ^ 32) (cond-false _ (65536 - len) (65536 - len + (2 ^ 32 - 2 ^ 16)) t) ∙ (omega arith)

  pub taken : (i : Inst) (k imm : ℕ) (b : Bool) (c : Contents) (d : Behind) → w.code k ≡ Some i → effect_at i k c ≡ Set 0 0 (branch (4 * k) imm b) → b ≡ true → imm < 32768 → Reaches w 1 (at_with k c d) (settle (k + 1 + imm) c d)
  taken i k imm b c d at e so le =
      led i k (k + 1 + imm) 0 0 c d at (e ∙ ap (λ t. Set 0 0 (branch (4 * k) imm t)) so ∙ ap (Set 0 0) (forward k imm (f.inside k i at) le))

  pub taken_back : (i : Inst) (k to len : ℕ) (b : Bool) (c : Contents) (d : Behind) → w.code k ≡ Some i → effect_at i k c ≡ Set 0 0 (branch (4 * k) (65536 - len) b) → b ≡ true → to + len ≡ k + 1 → 0 < len → len ≤ 32768 → Reaches w 1 (at_with k c d) (settle to c d)
  taken_back i k to len b c d at e so back pos le =
      led i k to 0 0 c d at (e ∙ ap (λ t. Set 0 0 (branch (4 * k) (65536 - len) t)) so ∙ ap (Set 0 0) (backward k to len (f.inside k i at) back le pos))

  pub after : (i : Inst) (k : ℕ) → w.code k ≡ Some i → next_address (4 * k) ≡ 4 * (k + 1)
  after i k at = let lt = f.inside k i at in let s = f.small in omega arith

  pub passed : (i : Inst) (k imm : ℕ) (b : Bool) (c : Contents) (d : Behind) → w.code k ≡ Some i → effect_at i k c ≡ Set 0 0 (branch (4 * k) imm b) → b ≡ false → Reaches w 1 (at_with k c d) (settle (k + 1) c d)
  passed i k imm b c d at e passes =
      led i k (k + 1) 0 0 c d at (e ∙ ap (λ t. Set 0 0 (branch (4 * k) imm t)) passes ∙ ap (Set 0 0) (after i k at))

  pub jumped : (i : Inst) (k index r v : ℕ) (c : Contents) (d : Behind) → w.code k ≡ Some i → effect_at i k c ≡ Set r v (jump_target (4 * k) index) → Reaches w 1 (at_with k c d) (settle index (with_reg c r v) d)
  jumped i k index r v c d at e =
      let lt = f.inside k i at in let s = f.small in
      let there : jump_target (4 * k) index ≡ 4 * index = omega arith in
      led i k index r v c d at (e ∙ ap (Set r v) there)

  pub jumps : JumpsLead w
  jumps = record { taken = taken; taken_back = taken_back; passed = passed; jumped = jumped; led = led; after = after }
