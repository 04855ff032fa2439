-- The forms in which routines are proved, over conditions on states: blocks in sequence, under a condition and in loops, from each
-- state of a condition (Does) or from one state (From). They follow from the laws that this crate's contracts state, and stand here as no
-- contract can speak of every condition.
use Rattle.std.proofs.Common.{◌≡◌, ◌≢◌, ℕ, ◌+◌, ◌*◌, ◌<◌, ◌≤◌, true, List, [], ◌∷◌, ◌++◌, length, refl, sym, ap, ◌∙◌, subst, ⊎_elim, arith}
use Rattle.std.proofs.lemmas.Bool.{cases_eq}
use Rattle.mips_table.specs.declared.inst.Inst.{Inst}
use Rattle.mips_table.specs.declared.inst.Inst.TheVariants.{Jr}
use Rattle.mips_table.specs.Device.{Idle}
use Rattle.mips_table.specs.Code.{Contents, reg, Behind, World, Sound, CodeState, at_with, Reaches, CodeAt, Does, LeadsTo}
use Rattle.masm.specs.Says.{Says, straight, AllSaid, sayings, tellings}
use Rattle.masm.specs.Blocks.{when_code, loop_code}
use Rattle.masm.specs.Laws.{WhenRuns, From}
use Rattle.masm.proofs.RunsCompose.{empty, joined, followed, later, code_front, code_back}
use Rattle.masm.proofs.StraightBlocks.{straight_runs}
use Rattle.masm.proofs.LoopsAndRoutines.{when_laws, returning}
use Rattle.masm.proofs.LoopsPay.{loop_pays}

-- one block, and then another
pub follows : (w : World) (a b : List Inst) (n m : ℕ) (P Q R : Contents → Behind → Type 0) → Does w a n P Q → Does w b m Q R → Does w (a ++ b) (n + m) P R
follows w a b n m P Q R da db = record {
  by = λ k c d at p.
      let x = da.by k c d (code_front w k a b at) p in
      let y = db.by (k + length a) x.0 x.1 (code_back w k a b at) x.2 in
      (y.0, y.1, y.2, followed w a b k n m c d x.0 x.1 y.0 y.1 x.3 y.3);
}

-- more steps, a stronger condition before and a weaker one after
pub weaker : (w : World) (is : List Inst) (n m : ℕ) (P P' Q Q' : Contents → Behind → Type 0) → n ≤ m → ((c : Contents) (d : Behind) → P' c d → P c d) → ((c : Contents) (d : Behind) → Q c d → Q' c d) → Does w is n P Q → Does w is m P' Q'
weaker w is n m P P' Q Q' le before after da = record {
  by = λ k c d at p.
      let x = da.by k c d at (before c d p) in
      (x.0, x.1, after x.0 x.1 x.2, later w n m _ _ le x.3);
}

-- what a block does from each state that is asked for, with the state kept in view
pub given : (w : World) (is : List Inst) (n : ℕ) (P : Contents → Behind → Type 0) (Q : Contents → Behind → Contents → Behind → Type 0) (R : Contents → Behind → Type 0) → ((c0 : Contents) (d0 : Behind) → P c0 d0 → From w is n c0 d0 (Q c0 d0)) → ((c0 : Contents) (d0 : Behind) (c : Contents) (d : Behind) → P c0 d0 → Q c0 d0 c d → R c d) → Does w is n P R
given w is n P Q R h k = record {
  by = λ m c d at p.
      let x = (h c d p).by m c d at (refl, refl) in
      (x.0, x.1, k c d x.0 x.1 p x.2, x.3);
}

-- between the two forms
pub from_does : (w : World) (is : List Inst) (n : ℕ) (c0 : Contents) (d0 : Behind) (P Q : Contents → Behind → Type 0) → P c0 d0 → Does w is n P Q → From w is n c0 d0 Q
from_does w is n c0 d0 P Q h does = weaker w is n n P _ Q Q (omega arith) (λ c d e. subst (λ c. P c d) (sym e.0) (subst (λ d. P c0 d) (sym e.1) h)) (λ c d q. q) does

pub does_from : (w : World) (is : List Inst) (n : ℕ) (P Q : Contents → Behind → Type 0) → ((c : Contents) (d : Behind) → P c d → From w is n c d Q) → Does w is n P Q
does_from w is n P Q h = given w is n P (λ c0 d0 c d. Q c d) Q h (λ c0 d0 c d p q. q)

-- a block's law from one state is what it does there, wherever it stands
pub from_at : (w : World) (is : List Inst) (n : ℕ) (c0 : Contents) (d0 : Behind) (Q : Contents → Behind → Type 0) → ((k : ℕ) → CodeAt w k is → (c' : Contents) × (d' : Behind) × Q c' d' × Reaches w n (at_with k c0 d0) (at_with (k + length is) c' d')) → From w is n c0 d0 Q
from_at w is n c0 d0 Q h = record {
  by = λ k c d at e.
      let x = h k at in
      let s = ap (λ d. at_with k c0 d) e.1 in
      let t = ap (λ c. at_with k c d) e.0 in
      (x.0, x.1, x.2, subst (λ s. Reaches w n s (at_with (k + length is) x.0 x.1)) (sym (t ∙ s)) x.3);
}

pub from_later : (w : World) (is : List Inst) (n m : ℕ) (c0 : Contents) (d0 : Behind) (Q R : Contents → Behind → Type 0) → n ≤ m → ((c : Contents) (d : Behind) → Q c d → R c d) → From w is n c0 d0 Q → From w is m c0 d0 R
from_later w is n m c0 d0 Q R le after h = weaker w is n m _ _ Q R le (λ c d e. e) after h

-- one block, and then another from each state that the first may lead to
pub from_then : (w : World) (a b : List Inst) (n m : ℕ) (c0 : Contents) (d0 : Behind) (Q R : Contents → Behind → Type 0) → From w a n c0 d0 Q → ((c : Contents) (d : Behind) → Q c d → From w b m c d R) → From w (a ++ b) (n + m) c0 d0 R
from_then w a b n m c0 d0 Q R da db = follows w a b n m _ Q R da (does_from w b m Q R db)

module _ (w : World) (f : Sound w) where
  -- a straight block, by what is said of its instructions
  pub from_straight : (is : List Inst) (hs : List Says) (c0 : Contents) (d0 : Behind) (Q : Contents → Behind → Type 0) → straight is ≡ true → d0.pending ≡ Idle → ((n : ℕ) → AllSaid w n is hs c0 d0 × Q (sayings n is hs c0) (tellings hs d0)) → From w is (length is) c0 d0 Q
  from_straight is hs c0 d0 Q g idle h = from_at w is (length is) c0 d0 Q (λ k at. (sayings k is hs c0, tellings hs d0, (h k).1, straight_runs w f is hs k c0 d0 at g idle (h k).0))

  -- a straight block, and then another from the very state that it leads to: no record between
  pub straight_then : (is b : List Inst) (hs : List Says) (m : ℕ) (c0 : Contents) (d0 : Behind) (R : Contents → Behind → Type 0) → straight is ≡ true → d0.pending ≡ Idle → ((n : ℕ) → AllSaid w n is hs c0 d0) → ((n : ℕ) → From w b m (sayings n is hs c0) (tellings hs d0) R) → From w (is ++ b) (length is + m) c0 d0 R
  straight_then is b hs m c0 d0 R g idle h rest = from_at w (is ++ b) (length is + m) c0 d0 R (λ n at.
      let run = straight_runs w f is hs n c0 d0 (code_front w n is b at) g idle (h n) in
      let y = (rest n).by (n + length is) (sayings n is hs c0) (tellings hs d0) (code_back w n is b at) (refl, refl) in
      (y.0, y.1, y.2, followed w is b n (length is) m c0 d0 (sayings n is hs c0) (tellings hs d0) y.0 y.1 run y.3))

  pub straight_does : (is : List Inst) (P Q : Contents → Behind → Type 0) (hs : Contents → List Says) → straight is ≡ true → ((n : ℕ) (c : Contents) (d : Behind) → P c d → (d.pending ≡ Idle) × AllSaid w n is (hs c) c d × Q (sayings n is (hs c) c) (tellings (hs c) d)) → Does w is (length is) P Q
  straight_does is P Q hs g h = record { by = λ n c d at p. let a = h n c d p in (sayings n is (hs c) c, tellings (hs c) d, a.2, straight_runs w f is (hs c) n c d at g a.0 a.1) }

  -- a body under a condition
  pub from_when : (r : ℕ) (body : List Inst) (n : ℕ) (c0 : Contents) (d0 : Behind) (Q : Contents → Behind → Type 0) → length body < 32768 → d0.pending ≡ Idle → (reg c0.regs r ≢ 0 → From w body n c0 d0 Q) → (reg c0.regs r ≡ 0 → Q c0 d0) → From w (when_code r body) (n + 1) c0 d0 Q
  from_when r body n c0 d0 Q short idle does skip = from_at w (when_code r body) (n + 1) c0 d0 Q (λ k at. ⊎_elim
      (λ z. (c0, d0, skip z, later w 1 (n + 1) _ _ (omega arith) (laws.skips k c0 d0 at idle z)))
      (λ z. let x = (does z).by (k + 1) c0 d0 at.1 (refl, refl) in
      (x.0, x.1, x.2, laws.runs k n c0 d0 x.0 x.1 at idle z x.3))
      (cases_eq (reg c0.regs r) 0))
    where
      laws : WhenRuns w r body
      laws = when_laws w f r body short

  pub when_does : (r : ℕ) (body : List Inst) (n : ℕ) (P Q : Contents → Behind → Type 0) → length body < 32768 → ((c : Contents) (d : Behind) → P c d → d.pending ≡ Idle) → Does w body n (λ c d. P c d × (reg c.regs r ≢ 0)) Q → ((c : Contents) (d : Behind) → P c d → reg c.regs r ≡ 0 → Q c d) → Does w (when_code r body) (n + 1) P Q
  when_does r body n P Q short idle does skip = does_from w (when_code r body) (n + 1) P Q (λ c d p.
      from_when r body n c d Q short (idle c d p) (λ z. from_does w body n c d (λ c d. P c d × (reg c.regs r ≢ 0)) Q (p, z) does) (skip c d p))

  -- a loop without a test before its branch: S a is the invariant with the loop's own state a, Go a says that it goes on from a
  pub loop_goes : {A : Type 0} (body : List Inst) (r : ℕ) (S : A → Contents → Behind → Type 0) (Go : A → Type 0) (cost e : A → ℕ) (step : A → A) (R : Contents → Behind → Type 0)
      → length body + 2 ≤ 32768
      → ((a : A) (c : Contents) (d : Behind) → S a c d → d.pending ≡ Idle)
      → ((a : A) → Go a → e a + 2 + cost (step a) ≤ cost a)
      → ((a : A) → Go a → Does w body (e a) (S a) (S (step a)))
      → ((a : A) (c : Contents) (d : Behind) → S a c d → reg c.regs r ≢ 0 → Go a)
      → ((a : A) (c : Contents) (d : Behind) → S a c d → reg c.regs r ≡ 0 → R c d)
      → (a : A) → Does w (loop_code [] r body) (cost a + 1) (S a) R
  loop_goes {A} body r S Go cost e step R short idle pays does on out a =
      weaker w (loop_code [] r body) (cost a + 0 + 1) (cost a + 1) (S a) (S a) R R (omega arith) (λ c d s. s) (λ c d s. s)
      (loop_pays w S S (λ a. R) f [] r body (omega (arith, short)) 0 e cost step
      (record {
        idle_before = idle;
        idle_tested = idle;
        tested_so = λ a. record { by = λ k c d at s. (c, d, s, empty w k c d) };
        turned_so = λ a. record { by = λ k c d at s. (does a (on a c d s.0 s.1)).by k c d at s.0 };
        paid = λ a c d s z. let q = pays a (on a c d s z) in omega (arith, q);
        last = out;
        stays = λ a c d s. s;
      })
      a)

  -- a routine: a block, and then a jump to the address in register 31, which the block keeps
  pub returns : (body : List Inst) (m : ℕ) (c0 : Contents) (d0 : Behind) (Q : Contents → Behind → Type 0) (to n : ℕ) → CodeAt w n (body ++ Jr 31 ∷ []) → From w body m c0 d0 (λ c d. Q c d × (c.regs 31 ≡ 4 * to) × (d.pending ≡ Idle)) → (c : Contents) × (d : Behind) × Q c d × Reaches w (m + 1) (at_with n c0 d0) (at_with to c d)
  returns body m c0 d0 Q to n at does =
      let x = does.by n c0 d0 (code_front w n body (Jr 31 ∷ []) at) (refl, refl) in
      (x.0, x.1, x.2.0, returning w f body n m to c0 d0 x.0 x.1 at x.3 x.2.1 x.2.2)

-- from any configuration of one condition to one of another, and on
pub goes_on_to : (w : World) (n m : ℕ) (P Q R : CodeState → Type 0) → LeadsTo w n P Q → LeadsTo w m Q R → LeadsTo w (n + m) P R
goes_on_to w n m P Q R a b = record {
  by = λ s p.
      let x = a.by s p in
      let y = b.by x.0 x.1 in
      (y.0, y.1, joined w n m s x.0 y.0 x.2 y.2);
}

pub goes_weaker : (w : World) (n m : ℕ) (P P' Q Q' : CodeState → Type 0) → n ≤ m → ((s : CodeState) → P' s → P s) → ((s : CodeState) → Q s → Q' s) → LeadsTo w n P Q → LeadsTo w m P' Q'
goes_weaker w n m P P' Q Q' le before after a = record {
  by = λ s p.
      let x = a.by s (before s p) in
      (x.0, after x.0 x.1, later w n m s x.0 le x.2);
}

-- a block that stands somewhere goes on from its first word to its end
pub goes_through : (w : World) (is : List Inst) (n k : ℕ) (P Q : Contents → Behind → Type 0) → CodeAt w k is → Does w is n P Q → LeadsTo w n (λ s. (s.at ≡ k) × P s.contents s.behind) (λ s. (s.at ≡ k + length is) × Q s.contents s.behind)
goes_through w is n k P Q at does = record {
  by = λ s p.
      let x = does.by k s.contents s.behind at p.1 in
      let e : at_with k s.contents s.behind ≡ s = ap (λ m. at_with m s.contents s.behind) (sym p.0) in
      (at_with (k + length is) x.0 x.1, (refl, x.2), subst (λ s. Reaches w n s (at_with (k + length is) x.0 x.1)) e x.3);
}
