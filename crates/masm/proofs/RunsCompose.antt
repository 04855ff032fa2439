-- Runs of code compose, and a run of part of the code is a run of all of it.
use Rattle.std.proofs.Common.{◌≡◌, ◌≢◌, ℕ, zero, suc, ◌+◌, ◌≤◌, Option, Some, None, List, [], ◌∷◌, ◌++◌, length, length-append, refl, sym, ap, ◌∙◌, subst, arith}
use Rattle.mips_table.specs.declared.inst.Inst.{Inst}
use Rattle.mips_table.specs.Device.{Idle}
use Rattle.mips_table.specs.Code.{Contents, Behind, World, Sound, CodeState, at_with, settling, settle, act, May, MayAt, act_at, Steps, Reaches, CodeAt}
use Rattle.masm.specs.Laws.{IsPartOfCode, with_code, RunsCompose}

pub code_front : (w : World) (n : ℕ) (a b : List Inst) → CodeAt w n (a ++ b) → CodeAt w n a
code_front w n [] b h = tt
code_front w n (i ∷ a) b h = (h.0, code_front w (n + 1) a b h.1)

pub code_back : (w : World) (n : ℕ) (a b : List Inst) → CodeAt w n (a ++ b) → CodeAt w (n + length a) b
code_back w n [] b h = let e : n ≡ n + 0 = omega arith in subst (λ m. CodeAt w m b) e h
code_back w n (i ∷ a) b h =
    let e : n + 1 + length a ≡ n + length (i ∷ a) = omega arith in
    subst (λ m. CodeAt w m b) e (code_back w (n + 1) a b h.1)

pub steps_on : (w : World) (n m : ℕ) (s t u : CodeState) → Steps w n s t → Steps w m t u → Steps w (n + m) s u
steps_on w zero m s t u a b = let e : m ≡ 0 + m = omega arith in subst (λ k. Steps w k s u) e (subst (λ x. Steps w m x u) (sym a.1) b)
steps_on w (suc n) m s t u a b =
    let e : suc (n + m) ≡ suc n + m = omega arith in
    let rest = steps_on w n m _ t u (a.0.1, a.1) b in
    subst (λ k. Steps w k s u) e ((a.0.0, rest.0), rest.1)

pub none : (w : World) (s : CodeState) → Reaches w 0 s s
none w s = record { steps = 0; within = omega arith; run = (tt, refl) }

-- no code takes no step, and its end is where it begins
pub empty : (w : World) (n : ℕ) (c : Contents) (d : Behind) → Reaches w 0 (at_with n c d) (at_with (n + 0) c d)
empty w n c d = let e : n ≡ n + 0 = omega arith in subst (λ m. Reaches w 0 (at_with n c d) (at_with m c d)) e (none w (at_with n c d))

pub joined : (w : World) (n m : ℕ) (s t u : CodeState) → Reaches w n s t → Reaches w m t u → Reaches w (n + m) s u
joined w n m s t u a b = record { steps = a.steps + b.steps; within = omega (arith, a.within, b.within); run = steps_on w a.steps b.steps s t u a.run b.run }

-- one block's run, and then the next one's
pub followed : (w : World) (a b : List Inst) (n p q : ℕ) (c : Contents) (d : Behind) (c' : Contents) (d' : Behind) (c'' : Contents) (d'' : Behind) → Reaches w p (at_with n c d) (at_with (n + length a) c' d') → Reaches w q (at_with (n + length a) c' d') (at_with (n + length a + length b) c'' d'') → Reaches w (p + q) (at_with n c d) (at_with (n + length (a ++ b)) c'' d'')
followed w a b n p q c d c' d' c'' d'' x y =
    let e : n + length a + length b ≡ n + length (a ++ b) = omega (arith, length-append a b) in
    subst (λ m. Reaches w (p + q) (at_with n c d) (at_with m c'' d'')) e (joined w p q _ _ _ x y)

pub later : (w : World) (n m : ℕ) (s t : CodeState) → n ≤ m → Reaches w n s t → Reaches w m s t
later w n m s t le a = record { steps = a.steps; within = omega (arith, a.within); run = a.run }

-- one step, by the instruction that stands there
pub step_to : (w : World) (s t : CodeState) (i : Inst) → w.code s.at ≡ Some i → May w i s → act w i s ≡ t → Reaches w 1 s t
step_to w s t i h may e = record { steps = 1; within = omega arith; run = ((subst (λ o. MayAt w o s) (sym h) may, tt), ap (λ o. act_at w o s) h ∙ e) }

pub one : (w : World) (s : CodeState) (i : Inst) → w.code s.at ≡ Some i → May w i s → Reaches w 1 s (act w i s)
one w s i h may = step_to w s (act w i s) i h may refl

pub idle_settle : (n : ℕ) (c : Contents) (d : Behind) → d.pending ≡ Idle → settle n c d ≡ at_with n c d
idle_settle n c d h = ap (λ p. settling p n c d) h

-- the end of a run is moved by an equation
pub to_there : (w : World) (n : ℕ) (s t u : CodeState) → t ≡ u → Reaches w n s t → Reaches w n s u
to_there w n s t u e r = subst (λ x. Reaches w n s x) e r

pub settled : (w : World) (n m : ℕ) (s : CodeState) (c : Contents) (d : Behind) → d.pending ≡ Idle → Reaches w n s (settle m c d) → Reaches w n s (at_with m c d)
settled w n m s c d idle r = to_there w n s _ _ (idle_settle m c d idle) r

module _ (w : World) (code : ℕ → Option Inst) (within : IsPartOfCode code w.code) where
  -- its code is sound too
  pub part_sound : Sound w → Sound (with_code w code)
  part_sound f = record { small = f.small; range = λ n i e. f.range n i (within n i e); inside = λ n i e. f.inside n i (within n i e); keeps = λ n i e. f.keeps n i (within n i e) }

  one_may : (o : Option Inst) (s : CodeState) → code s.at ≡ o → MayAt (with_code w code) o s → MayAt w (w.code s.at) s
  one_may None s e m = absurd m
  one_may (Some i) s e m = subst (λ o. MayAt w o s) (sym (within s.at i e)) m

  one_act : (o : Option Inst) (s : CodeState) → code s.at ≡ o → MayAt (with_code w code) o s → act_at (with_code w code) o s ≡ act_at w (w.code s.at) s
  unfolding act
  one_act None s e m = absurd m
  one_act (Some i) s e m = ap (λ o. act_at w o s) (sym (within s.at i e))

  pub wider : (n : ℕ) (s t : CodeState) → Steps (with_code w code) n s t → Steps w n s t
  wider zero s t h = h
  wider (suc n) s t h =
      let next = one_act (code s.at) s refl h.0.0 in
      let rest = subst (λ x. Steps w n x t) next (wider n _ t (h.0.1, h.1)) in
      ((one_may (code s.at) s refl h.0.0, rest.0), rest.1)

  pub reaches_wider : (n : ℕ) (s t : CodeState) → Reaches (with_code w code) n s t → Reaches w n s t
  reaches_wider n s t r = record { steps = r.steps; within = r.within; run = wider r.steps s t r.run }

elsewhere : (w : World) (n : ℕ) (s t : CodeState) → s.at ≢ t.at → (r : Reaches w n s t) → 1 ≤ r.steps
elsewhere w n s t ne r = by_steps r.steps r.run
  where
    by_steps : (k : ℕ) → Steps w k s t → 1 ≤ k
    by_steps zero run = absurd (ne (ap (λ x. x.at) run.1))
    by_steps (suc k) run = omega arith

pub runs_compose : RunsCompose
runs_compose = record { none = none; empty = empty; one = one; joined = joined; followed = followed; later = later; elsewhere = elsewhere; front = code_front; back = code_back; wider = reaches_wider; part_sound = part_sound; settled = settled; settles = idle_settle }
