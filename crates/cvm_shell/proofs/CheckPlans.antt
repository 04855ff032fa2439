-- What an object comes to in a check: it is read and opened, and how much stack its kernel needs is told, or the first fault is refused; and nothing
-- else is told.
use Rattle.std.proofs.Common.{◌≡◌, ◌≢◌, inl, inr, ℕ, List, refl, sym, ap, ◌∙◌, subst, Ok, Err}
use Rattle.std.specs.Prelude.{Result, ⊤}
use Rattle.c0_tree.specs.Tree.{CUnit}
use Rattle.c0_types.specs.Front.{IsFrontAnswer}
use Rattle.c0_types.specs.declared.source_fault.SourceFault.{SourceFault}
use Rattle.bound_check.specs.Chains.{AnswersAreOne}
use Rattle.bound_check.specs.Answer.{IsBoundAnswer as IsBound}
use Rattle.bound_check.specs.Text.{chain_text, loop_text, answer_text}
use Rattle.bound_check.specs.declared.answer.Answer.{Answer}
use Rattle.bound_check.specs.declared.answer.Answer.TheVariants.{Chain, Cycle}
use Rattle.object_file.specs.Parts.{ObjectParts as Object}
use Rattle.object_file.specs.Answer.{IsObjectAnswer as IsObject}
use Rattle.object_file.specs.declared.fault.ObjectFault.{ObjectFault}
use Rattle.object_file.specs.declared.fault.ObjectFault.TheVariants as object
use Rattle.kernel_linker.specs.Answers.{FrontGives}
use Rattle.kernel_linker.specs.Fault.{link_source_fault}
use Rattle.kernel_linker.specs.Open.{open_answer, OpensTo}
use Rattle.kernel_linker.specs.declared.fault.LinkFault.{LinkFault}
use Rattle.kernel_linker.specs.declared.fault.LinkFault.TheVariants as linking
use Rattle.run_scripts.specs.Check.{CheckTold, TellsUnit, has_longest, has_loop, TellsOpened, TellsObject, no_object, has_object}
use Rattle.run_scripts.specs.Refusal.{bad_object, unlinked}
use Rattle.run_scripts.specs.Plan.{refuses, prints, told_plan, AfterChecked, IsPlan}
use Rattle.cvm_shell.specs.Stages.{object_stop, link_stop}
use Rattle.cvm_shell.specs.Views.{IfRefused}
use Rattle.cvm_shell.proofs.LinkPlans.{OneObject, no_fault, one_object, object_stops, link_stops, memory_of}
use Rattle.cvm_shell.proofs.SourceFronts.{OneAnswer, answer_or_memory, one_fault, not_both}

-- a source that has no unit isn't opened
pub unopened : (o : Object) (f : SourceFault) → open_answer o (Err f) ≡ Err (link_source_fault f)
unfolding open_answer
unopened o f = refl

-- ONE THING IS TOLD

one_unit : AnswersAreOne → (stack : ℕ) (u : CUnit) (a b : List ℕ) → TellsUnit stack u a → TellsUnit stack u b → a ≡ b
one_unit ones stack u a b (has_longest m xs l) (has_longest n ys k) =
    let same = ones.chains u m n xs ys l k in
    ap (λ (i : ℕ). chain_text u stack i xs) same.0 ∙ ap (chain_text u stack n) same.1
one_unit ones stack u a b (has_longest m xs l) (has_loop ys k) = absurd (ones.not_both u m xs ys l k)
one_unit ones stack u a b (has_loop xs l) (has_longest n ys k) = absurd (ones.not_both u n ys xs k l)
one_unit ones stack u a b (has_loop xs l) (has_loop ys k) = ap (loop_text u) (ones.loops u xs ys l k)

one_opened : AnswersAreOne → (stack : ℕ) (opened : Result CUnit LinkFault) (a b : CheckTold) → TellsOpened stack opened a → TellsOpened stack opened b → a ≡ b
one_opened ones stack (Ok u) (Ok a) (Ok b) h k = ap (λ (text : List ℕ). Ok text) (one_unit ones stack u a b h k)
one_opened ones stack (Ok u) (Ok a) (Err s) h k = absurd k
one_opened ones stack (Ok u) (Err r) b h k = absurd h
one_opened ones stack (Err f) (Ok a) b h k = absurd h
one_opened ones stack (Err f) (Err r) (Ok b) h k = absurd k
one_opened ones stack (Err f) (Err r) (Err s) h k = let same : r ≡ s = h ∙ sym k in cc

module _ (ones : AnswersAreOne) (one : OneAnswer) (read : OneObject) (stack : ℕ) (bytes : List ℕ) where
  -- of one object
  same_opened : (o p : Object) (front other : Result CUnit SourceFault) (a b : CheckTold) → o ≡ p → IsFrontAnswer o.source front → IsFrontAnswer p.source other → TellsOpened stack (open_answer o front) a
      → TellsOpened stack (open_answer p other) b → a ≡ b
  same_opened o p front other a b e is also h k =
      let here : IsFrontAnswer o.source other = subst (λ (x : Object). IsFrontAnswer x.source other) (sym e) also in
      let same : open_answer p other ≡ open_answer o front = ap (λ (x : Object). open_answer x other) (sym e) ∙ ap (open_answer o) (one o.source other front here is) in
      one_opened ones stack (open_answer o front) a b h (subst (λ (x : Result CUnit LinkFault). TellsOpened stack x b) same k)

  one_told : (a b : CheckTold) → TellsObject stack bytes a → TellsObject stack bytes b → a ≡ b
  one_told a b (no_object f is) (no_object g other) = let e = read bytes (Err f) (Err g) is other in let same : f ≡ g = cc in ap (λ (x : ObjectFault). Err (bad_object x)) same
  one_told a b (no_object f is) (has_object o front told other also h) = absurd (no_fault bytes o f read other is)
  one_told a b (has_object o front told is of h) (no_object g other) = absurd (no_fault bytes o g read is other)
  one_told a b (has_object o front told is of h) (has_object p back said other also k) =
      same_opened o p front back a b (one_object o p (Ok o) refl (read bytes (Ok o) (Ok p) is other)) of also h k

  -- the bytes come to one plan
  plan_told : (told : CheckTold) → TellsObject stack bytes told → IsPlan ⊤ (AfterChecked stack bytes) (told_plan told)
  plan_told told is = record { comes = (told, is, refl); only = λ t q other. other.2 ∙ ap told_plan (one_told other.0 told other.1 is) }

  -- THE FAULT of the bytes
  pub bytes_fault : (f : ObjectFault) → (f ≢ object.Memory → IsObject bytes (Err f)) → IfRefused (IsPlan ⊤ (AfterChecked stack bytes)) (object_stop f)
  bytes_fault f is = elim (object_stops f) [
    | inl e ↦ subst (λ (x : ObjectFault). IfRefused (IsPlan ⊤ (AfterChecked stack bytes)) (object_stop x)) (sym e) tt
    | inr h ↦ subst (IfRefused (IsPlan ⊤ (AfterChecked stack bytes))) (sym h.1) (plan_told (Err (bad_object f)) (no_object f (is h.0)))
  ]

  -- THE FAULT of the object: unless memory ran out, its source has an answer
  refused_open : (o : Object) (f : LinkFault) (front : Result CUnit SourceFault) → IsObject bytes (Ok o) → f ≢ linking.Memory → FrontGives o.source front → open_answer o front ≡ Err f
      → IsPlan ⊤ (AfterChecked stack bytes) (refuses (unlinked f))
  refused_open o f front is named comes a = elim (answer_or_memory o.source front comes) [
    | inl h ↦ absurd (named (sym (one_fault (open_answer o front) (link_source_fault h.0) f (ap (open_answer o) h.1 ∙ unopened o h.0) a) ∙ memory_of h.0 h.2))
    | inr of ↦ plan_told (Err (unlinked f)) (has_object o front (Err (unlinked f)) is of (subst (λ (x : Result CUnit LinkFault). TellsOpened stack x (Err (unlinked f))) (sym a) refl))
  ]

  pub open_fault : {X : Type 0} (view : X → CUnit) (o : Object) (f : LinkFault) → IsObject bytes (Ok o) → OpensTo view o (Err f) → IfRefused (IsPlan ⊤ (AfterChecked stack bytes)) (link_stop f)
  open_fault view o f is (front, comes, inl e) = subst (λ (x : LinkFault). IfRefused (IsPlan ⊤ (AfterChecked stack bytes)) (link_stop x)) (sym e) tt
  open_fault view o f is (front, comes, inr a) = elim (link_stops f) [
    | inl e ↦ subst (λ (x : LinkFault). IfRefused (IsPlan ⊤ (AfterChecked stack bytes)) (link_stop x)) (sym e) tt
    | inr h ↦ subst (IfRefused (IsPlan ⊤ (AfterChecked stack bytes))) (sym h.1) (refused_open o f front is h.0 comes a)
  ]

  -- ITS KERNEL
  told_unit : (o : Object) (u : CUnit) (text : List ℕ) (front : Result CUnit SourceFault) → IsObject bytes (Ok o) → FrontGives o.source front → open_answer o front ≡ Ok u → TellsUnit stack u text
      → IsPlan ⊤ (AfterChecked stack bytes) (prints text)
  told_unit o u text (Err f) is comes a h = absurd (not_both (open_answer o (Err f)) u (link_source_fault f) a (unopened o f))
  told_unit o u text (Ok v) is comes a h = plan_told (Ok text) (has_object o (Ok v) (Ok text) is comes (subst (λ (x : Result CUnit LinkFault). TellsOpened stack x (Ok text)) (sym a) h))

  pub open_told : {X : Type 0} (view : X → CUnit) (o : Object) (x : X) (text : List ℕ) → IsObject bytes (Ok o) → OpensTo view o (Ok x) → TellsUnit stack (view x) text
      → IsPlan ⊤ (AfterChecked stack bytes) (prints text)
  open_told view o x text is (front, comes, a) h = told_unit o (view x) text front is comes a h

-- What is printed of a unit's answer tells of the unit.
pub told_of : (stack : ℕ) (u : CUnit) (a : Answer) (text : List ℕ) → IsBound u a → text ≡ answer_text u stack a → TellsUnit stack u text
told_of stack u (Chain words functions) text is e = subst (TellsUnit stack u) (sym e) (has_longest words functions.items is)
told_of stack u (Cycle functions) text is e = subst (TellsUnit stack u) (sym e) (has_loop functions.items is)
