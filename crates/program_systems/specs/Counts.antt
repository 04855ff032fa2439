-- How many steps a machine makes before each of its traps, where it is answered so: by counting them in one pass, which computes where the machine's words and
-- registers are known, as those of a compiled program's image are. For bounds on turns and steps that are those of a run, where the units of a program only say
-- how many they are at most.
use Rattle.std.specs.Prelude.{◌≡◌, ℕ, zero, suc, List, [], ◌∷◌, Option, Some, None, option_map}
use Rattle.mips_table.specs.declared.cause.Cause.{Cause}
use Rattle.mips_table.specs.Flat.{Flat, VStep, Goes, Trap, vstep}
use Rattle.c0_tree.specs.Tree.{CUnit}
use Rattle.c0_meaning.specs.Bare.{bare}
use Rattle.user_c0.specs.Image.{image_words}
use Rattle.kernel_theorems.specs.UserRuns.{after, TrapsAfter, told}

-- a machine traps behind so many untrapped steps
abbrev pub TrapsBehind : Flat → ℕ → Type 0
TrapsBehind f n = (cause : Cause) × TrapsAfter f n cause

-- IT TRAPS THROUGH these answers: behind so many untrapped steps each, from an answer on to the next trap
abbrev pub TrapsThrough : Flat → (answers steps : List ℕ) → Type 0
TrapsThrough f answers [] = ⊥
TrapsThrough f [] (n ∷ steps) = (steps ≡ []) × TrapsBehind f n
TrapsThrough f (x ∷ answers) (n ∷ steps) = TrapsBehind f n × TrapsThrough (told (after (suc n) f) x) answers steps

-- a step more before the first trap
abbrev pub step_more : List ℕ → List ℕ
step_more [] = []
step_more (n ∷ steps) = suc n ∷ steps

-- a step, and those behind it: at a trap the machine is answered, and the last trap ends the count
abbrev pub counted : VStep → (answers : List ℕ) → (Flat → List ℕ → Option (List ℕ)) → Option (List ℕ)
counted (Goes f) answers rest = option_map step_more (rest f answers)
counted (Trap f cause edata) [] rest = Some (0 ∷ [])
counted (Trap f cause edata) (x ∷ answers) rest = option_map (λ steps. 0 ∷ steps) (rest (told f x) answers)

-- the untrapped steps of a machine up to each of its traps, where all its steps are fewer than k
abbrev pub steps_below : (k : ℕ) → Flat → (answers : List ℕ) → Option (List ℕ)
steps_below zero f answers = None
steps_below (suc k) f answers = counted (vstep f) answers (steps_below k)

-- they are these, and a number is known below which all steps are
pub record IsCounted (f : Flat) (answers steps : List ℕ) : Type 0 where
  pub below : ℕ
  pub counts : steps_below below f answers ≡ Some steps

-- A LAW: where steps are counted, the machine traps through these answers behind just these; and a machine traps behind no other number of steps
pub record CountsTell : Type 0 where
  pub traps : (f : Flat) (answers steps : List ℕ) → IsCounted f answers steps → TrapsThrough f answers steps
  pub exactly : (f : Flat) (n m : ℕ) (by cause : Cause) → TrapsAfter f n by → TrapsAfter f m cause → m ≡ n

-- A LAW: a program's image has nothing of the spans of its parts in the source; so it is the image of the tree that its text means
abbrev pub ImagesIgnoreSpans : Type 0
ImagesIgnoreSpans = (u : CUnit) → image_words (bare u) ≡ image_words u
