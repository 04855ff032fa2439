-- Steps are counted sooner over a machine in parts: its words up to a number stay, and those from there on are a list of their own, in which what runs is near
-- the front. The code, the heap and the stack of a program's image stand behind 16,384 words, which each step would go through; so none does. A store among the
-- first words isn't followed. This file may be cited from other crates.
use Rattle.std.specs.Prelude.{◌/◌, if◌then◌else◌, option_map, slice_index, slice_set, take, drop}
use Rattle.std.proofs.Common.{◌≡◌, ℕ, zero, suc, ◌-◌, ◌≤◌, List, [], ◌∷◌, ◌++◌, length, Bool, true, false, nat_lt, Option, Some, None, refl, sym, ap, ap₂, ◌∙◌, subst, arith}
use Rattle.std.proofs.lemmas.Bool.{ltb-true, ltb-false}
use Rattle.std.proofs.lemmas.List.{get_or_append_left, get_or-append_right, set-append_right, length-set, length-take-le, take-append-drop}
use Rattle.mips_table.specs.declared.cause.Cause.{Cause}
use Rattle.mips_table.specs.declared.cause.Cause.TheVariants.{Illegal}
use Rattle.mips_table.specs.Processor.{Cpu, Access, Move, Ran, Loaded, Stored, Trapped, Privileged, with_loaded, move}
use Rattle.mips_table.specs.Flat.{Flat, VStep, Goes, Trap, flat_access, word_at, after_move, vstep}
use Rattle.kernel_theorems.specs.UserRuns.{told}
use Rattle.program_systems.specs.Counts.{step_more, counted, steps_below}
use Rattle.program_systems.proofs.CountedComes.{none_told, mapped}

-- the processor, and the words from the number on
pub record Part : Type 0 where
  pub cpu : Cpu
  pub words : List ℕ

-- what a step comes to: a part, a trap that left one, or a store that isn't followed
pub data PartStep : Type 0 where
  PartGoes : Part → PartStep
  PartTraps : Part → Cause → ℕ → PartStep
  Stops : PartStep

abbrev pub access_of : ℕ → Access
access_of size = record { may_fetch = λ a. nat_lt (a / 4) size; may_load = λ a. nat_lt (a / 4) size; may_store = λ a. nat_lt (a / 4) size }

-- with these first words, so many of them, and so many words in all
module _ (low : List ℕ) (first size : ℕ) where
  abbrev pub whole : Part → Flat
  whole p = record { cpu = p.cpu; words = low ++ p.words }

  abbrev pub word_in : Part → ℕ → ℕ
  word_in p k = if nat_lt k first then slice_index low k else slice_index p.words (k - first)

  -- A STEP, and a count of them
  abbrev pub part_answer : Part → Move → PartStep
  part_answer p (Ran c) = PartGoes (record p { cpu = c })
  part_answer p (Loaded c register address) = PartGoes (record p { cpu = with_loaded c register (word_in p (address / 4)) })
  part_answer p (Stored c address value) = if nat_lt (address / 4) first then Stops else PartGoes (record { cpu = c; words = slice_set p.words (address / 4 - first) value })
  part_answer p (Trapped cause edata epc) = PartTraps (record p { cpu = record p.cpu { pc = epc } }) cause edata
  part_answer p (Privileged word) = PartTraps p Illegal word

  abbrev pub part_step : Part → PartStep
  part_step p = part_answer p (move (access_of size) p.cpu (word_in p (p.cpu.pc / 4)))

  abbrev pub part_told : Part → ℕ → Part
  part_told p x = record p { cpu = (told (whole p) x).cpu }

  abbrev pub part_counted : PartStep → List ℕ → (Part → List ℕ → Option (List ℕ)) → Option (List ℕ)
  part_counted (PartGoes p) answers rest = option_map step_more (rest p answers)
  part_counted (PartTraps p cause edata) [] rest = Some (0 ∷ [])
  part_counted (PartTraps p cause edata) (x ∷ answers) rest = option_map (λ steps. 0 ∷ steps) (rest (part_told p x) answers)
  part_counted Stops answers rest = None

  abbrev pub part_steps : (k : ℕ) → Part → List ℕ → Option (List ℕ)
  part_steps zero p answers = None
  part_steps (suc k) p answers = part_counted (part_step p) answers (part_steps k)

  -- THE STEPS ARE THOSE OF THE WHOLE
  module _ (first_is : length low ≡ first) where
    word_is : (p : Part) (k : ℕ) → slice_index (low ++ p.words) k ≡ word_in p k
    word_is p k = by (nat_lt k first) refl
      where
        by : (b : Bool) → nat_lt k first ≡ b → slice_index (low ++ p.words) k ≡ (if b then slice_index low k else slice_index p.words (k - first))
        by true e = let lt = ltb-true k first e in get_or_append_left low p.words 0 k (omega (arith, lt, first_is))
        by false e = let ge = ltb-false k first e in get_or-append_right low p.words first k 0 first_is (omega (arith, ge))

    set_is : (p : Part) (k v : ℕ) → nat_lt k first ≡ false → slice_set (low ++ p.words) k v ≡ low ++ slice_set p.words (k - first) v
    set_is p k v e = let ge = ltb-false k first e in set-append_right low p.words first k v first_is (omega (arith, ge))

    abbrev Agrees : PartStep → VStep → Type 0
    Agrees (PartGoes q) v = (v ≡ Goes (whole q)) × (length (low ++ q.words) ≡ size)
    Agrees (PartTraps q cause edata) v = (v ≡ Trap (whole q) cause edata) × (length (low ++ q.words) ≡ size)
    Agrees Stops v = Unit {0}

    answers_agree : (p : Part) (m : Move) → length (low ++ p.words) ≡ size → Agrees (part_answer p m) (after_move (whole p) m)
    answers_agree p (Ran c) long = (refl, long)
    answers_agree p (Loaded c register address) long = (ap (λ w. Goes (record { cpu = with_loaded c register w; words = low ++ p.words })) (word_is p (address / 4)), long)
    answers_agree p (Stored c address value) long = by (nat_lt (address / 4) first) refl
      where
        by : (b : Bool) → nat_lt (address / 4) first ≡ b
            → Agrees (if b then Stops else PartGoes (record { cpu = c; words = slice_set p.words (address / 4 - first) value })) (after_move (whole p) (Stored c address value))
        by true e = tt
        by false e =
            let is = set_is p (address / 4) value e in
            (ap (λ ws. Goes (record { cpu = c; words = ws })) is, ap length (sym is) ∙ length-set (low ++ p.words) (address / 4) value ∙ long)
    answers_agree p (Trapped cause edata epc) long = (refl, long)
    answers_agree p (Privileged word) long = (refl, long)

    steps_agree : (p : Part) → length (low ++ p.words) ≡ size → Agrees (part_step p) (vstep (whole p))
    steps_agree p long =
        let same : move (flat_access (low ++ p.words)) p.cpu (word_at (low ++ p.words) p.cpu.pc) ≡ move (access_of size) p.cpu (word_in p (p.cpu.pc / 4)) =
        ap₂ (λ (n w : ℕ). move (access_of n) p.cpu w) long (word_is p (p.cpu.pc / 4)) in
        subst (λ (m : Move). Agrees (part_step p) (after_move (whole p) m)) (sym same) (answers_agree p (move (access_of size) p.cpu (word_in p (p.cpu.pc / 4))) long)

    by_part : (k : ℕ) (s : PartStep) (v : VStep) → Agrees s v → (answers steps : List ℕ) → part_counted s answers (part_steps k) ≡ Some steps
        → ((q : Part) (given made : List ℕ) → length (low ++ q.words) ≡ size → part_steps k q given ≡ Some made → steps_below k (whole q) given ≡ Some made)
        → counted v answers (steps_below k) ≡ Some steps
    by_part k (PartGoes q) v agrees answers steps e rest =
        let (found, same, made) = mapped step_more (part_steps k q answers) steps e in
        subst (λ v. counted v answers (steps_below k) ≡ Some steps) (sym agrees.0) (ap (option_map step_more) (rest q answers found agrees.1 same) ∙ ap (λ (ns : List ℕ). Some ns) made)
    by_part k (PartTraps q cause edata) v agrees [] steps e rest = subst (λ v. counted v [] (steps_below k) ≡ Some steps) (sym agrees.0) e
    by_part k (PartTraps q cause edata) v agrees (x ∷ answers) steps e rest =
        let (found, same, made) = mapped (λ ns. 0 ∷ ns) (part_steps k (part_told q x) answers) steps e in
        subst (λ v. counted v (x ∷ answers) (steps_below k) ≡ Some steps) (sym agrees.0)
        (ap (option_map (λ (ns : List ℕ). 0 ∷ ns)) (rest (part_told q x) answers found agrees.1 same) ∙ ap (λ (ns : List ℕ). Some ns) made)
    by_part k Stops v agrees answers steps e rest = absurd (none_told steps e)

    pub counts_agree : (k : ℕ) (p : Part) (answers steps : List ℕ) → length (low ++ p.words) ≡ size → part_steps k p answers ≡ Some steps → steps_below k (whole p) answers ≡ Some steps
    counts_agree zero p answers steps long e = absurd (none_told steps e)
    counts_agree (suc k) p answers steps long e =
        by_part k (part_step p) (vstep (whole p)) (steps_agree p long) answers steps e (λ q given made long same. counts_agree k q given made long same)

-- A MACHINE in parts, from a number on: where the count over the part computes, so many steps are counted of the machine
abbrev pub part_of : (first : ℕ) → Flat → Part
part_of first f = record { cpu = f.cpu; words = drop first f.words }

pub counted_apart : (first size k : ℕ) (f : Flat) (answers steps : List ℕ) → length f.words ≡ size → first ≤ size → part_steps (take first f.words) first size k (part_of first f) answers ≡ Some steps
    → steps_below k f answers ≡ Some steps
counted_apart first size k f answers steps long few e =
    let same : take first f.words ++ drop first f.words ≡ f.words = take-append-drop first f.words in
    subst (λ ws. steps_below k (record { cpu = f.cpu; words = ws }) answers ≡ Some steps) same
    (counts_agree (take first f.words) first size (length-take-le first f.words (omega (arith, long, few))) k (part_of first f) answers steps (ap length same ∙ long) e)
