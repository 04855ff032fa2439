-- The registers are saved, and it is decided whether a fault is handled.
use Rattle.std.proofs.Common.{◌≡◌, ℕ, ◌/◌, ◌^◌, ◌<◌, ◌⊎◌, true, nat_lt, [], ◌∷◌, refl, ap, ap₂, ◌∙◌, ⊎_elim, inl, inr, arith, lt-ltb, le-ltb}
use Rattle.std.proofs.lemmas.Bool.{cases_eq, cases_lt, cond-true, cond-false}
use Rattle.mips_table.specs.Arith.{sum, flag}
use Rattle.mips_table.specs.Device.{Idle}
use Rattle.mips_table.specs.declared.special.TheConstants.{ECA, EDATA, PTL}
use Rattle.mips_table.specs.Code.{Contents, Behind, World, Sound}
use Rattle.masm.specs.Says.{Gives, Asks}
use Rattle.masm.specs.Laws.{From}
use Rattle.masm.proofs.RulesForRoutines.{from_straight, from_then}
use Rattle.pcb_layer.specs.Code.{saved_at, save_registers_code}
use Rattle.pcb_layer.specs.Laws.{IsRegister, HasSaveArea, MaySave, Saved, SavesRegisters}
use Rattle.trap_entry.specs.Code.{is_page_fault_code, save_and_classify_code}
use Rattle.trap_entry.specs.Laws.{IsHandled, IsUnsaved}

-- the decision, by its three flags
abbrev by_flags : ℕ → ℕ → ℕ → ℕ
by_flags f8 f3 f9 = flag (nat_lt (flag (nat_lt (sum (sum f8 f3) f9) 2)) 1)

abbrev three : ℕ → ℕ
three c = flag (nat_lt (sum c 4294967293) 1)

abbrev eight : ℕ → ℕ
eight c = flag (nat_lt (sum c 4294967288) 1)

abbrev below : ℕ → ℕ → ℕ
below e l = flag (nat_lt (e / 4096) l)

abbrev pub decision : ℕ → ℕ → ℕ → ℕ
decision c e l = by_flags (eight c) (three c) (below e l)

pub positive : (c e l : ℕ) → IsHandled c e l → decision c e l ≡ 1
positive c e l h =
    let f : below e l ≡ 1 = cond-true (nat_lt (e / 4096) l) 1 0 (lt-ltb _ _ h.1) in
    ⊎_elim
    (λ z. ap₂ (λ c f. by_flags (eight c) (three c) f) z f)
    (λ z. ap₂ (λ c f. by_flags (eight c) (three c) f) z f)
    h.0

pub negative : (c e l : ℕ) → c < 2 ^ 32 → (IsHandled c e l → ⊥) → decision c e l ≡ 0
negative c e l lt h = ⊎_elim
    (λ z. ap₂ (λ c f. by_flags (eight c) (three c) f) z (out (inl z)))
    (λ n3. ⊎_elim
    (λ z. ap₂ (λ c f. by_flags (eight c) (three c) f) z (out (inr z)))
    (λ n8.
    let f3 : three c ≡ 0 = cond-false (nat_lt (sum c 4294967293) 1) 1 0 (le-ltb _ 1 (omega arith)) in
    let f8 : eight c ≡ 0 = cond-false (nat_lt (sum c 4294967288) 1) 1 0 (le-ltb _ 1 (omega arith)) in
    ap₂ (λ x y. by_flags x y (below e l)) f8 f3 ∙ ⊎_elim
    (λ a. ap (by_flags 0 0) (cond-true (nat_lt (e / 4096) l) 1 0 (lt-ltb _ _ a)))
    (λ a. ap (by_flags 0 0) (cond-false (nat_lt (e / 4096) l) 1 0 (le-ltb _ _ a)))
    (cases_lt (e / 4096) l))
    (cases_eq c 8))
    (cases_eq c 3)
  where
    out : (c ≡ 3) ⊎ (c ≡ 8) → below e l ≡ 0
    out o = ⊎_elim (λ a. absurd (h (o, a))) (λ a. cond-false (nat_lt (e / 4096) l) 1 0 (le-ltb _ _ a)) (cases_lt (e / 4096) l)

-- all is saved
pub record Ready (c0 : Contents) (d0 : Behind) (c : Contents) (d : Behind) : Type 0 where
  pub words : (r : ℕ) → IsRegister r → c.memory (saved_at r) ≡ c0.regs r
  pub others : (x : ℕ) → IsUnsaved x → c.memory x ≡ c0.memory x
  pub special : c.special ≡ c0.special
  pub hi : c.hi ≡ c0.hi
  pub lo : c.lo ≡ c0.lo
  pub behind : d ≡ d0

-- and register 8 tells
abbrev pub Decided : ℕ → Contents → Behind → Contents → Behind → Type 0
Decided t c0 d0 c d = Ready c0 d0 c d × (c.regs 8 ≡ t)

-- the same memory in another processor
pub ready_on : (c0 : Contents) (d0 : Behind) (c c1 : Contents) (d : Behind) → c1.memory ≡ c.memory → c1.special ≡ c.special → c1.hi ≡ c.hi → c1.lo ≡ c.lo → Ready c0 d0 c d → Ready c0 d0 c1 d
ready_on c0 d0 c c1 d m sp eh el s = record { words = λ r is. ap (λ m. m (saved_at r)) m ∙ s.words r is; others = λ x o. ap (λ m. m x) m ∙ s.others x o; special = sp ∙ s.special; hi = eh ∙ s.hi; lo = el ∙ s.lo; behind = s.behind }

module _ (w : World) (f : Sound w) (system : w.system ≡ true) (saves : SavesRegisters w) (area : HasSaveArea w) (may : MaySave w) (c0 : Contents) (d0 : Behind) (idle : d0.pending ≡ Idle) where
  pub decides : (t : ℕ) → decision (c0.special ECA) (c0.special EDATA) (c0.special PTL) ≡ t → From w save_and_classify_code 44 c0 d0 (Decided t c0 d0)
  decides t is = from_then w (save_registers_code 31) is_page_fault_code 31 13 c0 d0 (Saved c0 d0) _ (saves area may c0 d0 idle)
      (λ c d s.
      let a = c.special ECA in let e = c.special EDATA in let l = c.special PTL in
      let so : decision a e l ≡ t = ap (λ g. decision (g ECA) (g EDATA) (g PTL)) s.special ∙ is in
      from_straight w f is_page_fault_code (Asks ∷ Asks ∷ Asks ∷ Gives (e / 4096) ∷ Gives (below e l) ∷ Gives (sum a 4294967293) ∷ Gives (three a) ∷ Gives (sum a 4294967288) ∷ Gives (eight a) ∷ Gives (sum (eight a) (three a)) ∷ Gives (sum (sum (eight a) (three a)) (below e l))
      ∷ Gives (flag (nat_lt (sum (sum (eight a) (three a)) (below e l)) 2)) ∷ Gives t ∷ []) c d (Decided t c0 d0) refl (ap (λ d. d.pending) s.behind ∙ idle)
      (λ n. (
        (system, (system, (system, (refl, (refl, (refl, (refl, (refl, (refl, (refl, (refl, (refl, (so, tt))))))))))))),
        (record { words = s.words; others = s.others; special = s.special; hi = s.hi; lo = s.lo; behind = s.behind }, refl),
      )))
