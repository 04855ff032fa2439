-- What is done is done with less said of it: to be used where a law on code says more than its caller asks for. No contract can carry it, since a property
-- ranges over types: this file may be cited from other crates.
use Rattle.std.proofs.Common.{◌≡◌, ℕ, List, sym, subst}
use Rattle.c0_meaning.specs.State.{C0State}
use Rattle.c0_meaning.specs.World.{Setting, Configuration}
use Rattle.c0_meaning.specs.Running.{Work}
use Rattle.c0_meaning.specs.Execution.{Outcome, Done, Failed, NotYet}
use Rattle.c0_meaning.specs.Reasoning.{DoneWith, EndsIn}

module _ (W E : Type 0) where
  -- a property that follows: for a lemma on code that says what it comes to, where the property of runs is asked for
  pub weaker : (o : Outcome W E) (Q R : Configuration W E → Type 0) → ((d : Configuration W E) → Q d → R d) → DoneWith o Q → DoneWith o R
  weaker (Done used d) Q R f h = f d h
  weaker (Failed used x d) Q R f h = absurd h
  weaker (NotYet used d) Q R f h = absurd h

  -- a state that is known by an equation: in a loop, or behind a call, where the rule gives a configuration and a fact on its state
  pub from_state : (p : Setting W E) (n : ℕ) (w : List Work) (d : Configuration W E) (s : C0State) (Q : Configuration W E → Type 0) → d.state ≡ s → EndsIn p n w (record d { state = s }) Q → EndsIn p n w d Q
  from_state p n w d s Q is h = subst (λ (t : C0State). EndsIn p n w (record d { state = t }) Q) (sym is) h

  -- a state and a world that are: where primitives are called too
  pub from_place : (p : Setting W E) (n : ℕ) (w : List Work) (d : Configuration W E) (s : C0State) (m : W) (Q : Configuration W E → Type 0)
      → d.state ≡ s → d.world ≡ m → EndsIn p n w (record d { state = s; world = m }) Q → EndsIn p n w d Q
  from_place p n w d s m Q is at h =
      subst (λ (x : W). EndsIn p n w (record d { world = x }) Q) (sym at) (subst (λ (t : C0State). EndsIn p n w (record d { state = t; world = m }) Q) (sym is) h)
