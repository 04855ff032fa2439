-- How properties of C0 code are proved: work that is done within some units, where a property holds then. proofs/Rules has the rules.
use Rattle.std.specs.Prelude.{◌≡◌, ℕ, zero, suc, ◌+◌, ◌≤◌, List, [], ◌∷◌, ◌++◌, map}
use Rattle.c0_tree.specs.Tree.{CDecl}
use Rattle.c0_meaning.specs.Env.{typed_of}
use Rattle.c0_meaning.specs.Sound.{shapes}
use Rattle.c0_meaning.specs.Value.{Values, group, followed_by, zeros_of}
use Rattle.c0_meaning.specs.State.{pushed}
use Rattle.c0_meaning.specs.World.{Setting, Cost, units, total, plus, Configuration, journal_so_far, with_state}
use Rattle.c0_meaning.specs.Running.{Work, Step, Go, Stop, work_step}
use Rattle.c0_meaning.specs.Execution.{Outcome, Done, Failed, NotYet, run_within}
use Rattle.c0_meaning.specs.RunLaws.{stands_at}

-- a run is done, and a property holds of where it stands
abbrev pub DoneWith : {W E : Type 0} → Outcome W E → (Configuration W E → Type 0) → Type 0
DoneWith (Done used c) Q = Q c
DoneWith (Failed used f c) Q = ⊥
DoneWith (NotYet used c) Q = ⊥

-- WORK IS DONE from here within n units: it doesn't fail, it ends, and then the property holds. Of code without a choice that is open it
-- computes to the property itself.
abbrev pub EndsIn : {W E : Type 0} → Setting W E → (n : ℕ) → List Work → Configuration W E → (Configuration W E → Type 0) → Type 0
EndsIn p n work c Q = DoneWith (run_within p n work c) Q

-- a list begins with these
pub record IsBeginningOf {E : Type 0} (es all : List E) : Type 0 where
  pub more : List E
  pub is : all ≡ es ++ more

-- THESE ENTRIES ARE MADE within n units from here on: the journal begins with them then, with those that were made before, whether the run is over or goes
-- on. For a program that serves for ever, whose entries are the arguments of its calls. proofs/ServingRules has the rules.
abbrev pub MakesEntries : {W E : Type 0} → Setting W E → (n : ℕ) → List Work → Configuration W E → List E → Type 0
MakesEntries p n work c es = IsBeginningOf es (journal_so_far (stands_at (run_within p n work c)))

-- so many steps one after another, as one
abbrev pub with_cost : {W E : Type 0} → Cost → Step W E → Step W E
with_cost k (Go j w d) = Go (plus k j) w d
with_cost k (Stop j f d) = Stop (plus k j) f d

abbrev pub step_then : {W E : Type 0} → Step W E → (List Work → Configuration W E → Step W E) → Step W E
step_then (Go k w d) further = with_cost k (further w d)
step_then (Stop k f d) further = Stop k f d

abbrev pub steps : {W E : Type 0} → Setting W E → ℕ → List Work → Configuration W E → Step W E
steps p zero w c = Go (units 0) w c
steps p (suc m) [] c = Go (units 0) [] c
steps p (suc m) (item ∷ w) c = step_then (work_step p item w c) (steps p m)

-- they lead within j units, their number counted, to work that is done within n
abbrev pub LeadTo : {W E : Type 0} → Setting W E → (m j n : ℕ) → Step W E → (Configuration W E → Type 0) → Type 0
LeadTo p m j n (Go k w d) Q = (total k + m ≤ j) × EndsIn p n w d Q
LeadTo p m j n (Stop k f d) Q = ⊥

-- or to work that makes these entries within n
abbrev pub LeadToMade : {W E : Type 0} → Setting W E → (m j n : ℕ) → Step W E → List E → Type 0
LeadToMade p m j n (Go k w d) es = (total k + m ≤ j) × MakesEntries p n w d es
LeadToMade p m j n (Stop k f d) es = ⊥

-- where a function of this number and these locals begins, called with these arguments
abbrev pub entering : {W E : Type 0} → Setting W E → ℕ → List CDecl → Values → Configuration W E → Configuration W E
entering p n locals args c = with_state c
    (pushed (record { function = n; variables = group (followed_by args (zeros_of (shapes p.unit) (map typed_of locals))) }) c.state)
