-- A put that fails put none of its bytes, or the first of them by the second call.
use Rattle.std.proofs.Common.{◌≡◌, ℕ, Bool, true, false, List, ◌++◌, take, append-nil, Some, sym, ap, ◌∙◌, arith}
use Rattle.std.proofs.lemmas.Grind.{common_steps}
use Rattle.std.specs.Prelude.{is_err, if◌then◌else◌}
use Rattle.cvm_outside.specs.Told.{AppendsPart}
use Rattle.shell_cases.proofs.partial.PartialSink.put.Goals as goal
use Rattle.shell_cases.proofs.partial.PartialSink.put.Goals.{then-self-gt0, else-self-gt0}

-- the first call put nothing, and the second one the first n bytes, or nothing
second_put : (failed : Bool) (old mid new bytes : List ℕ) (n : ℕ) → mid ≡ old → new ≡ (if failed then mid else mid ++ take n bytes) → AppendsPart (Some old) (Some new) bytes
second_put true old mid new bytes n kept is = (0, ap (λ (t : List ℕ). Some t) (is ∙ kept ∙ sym (append-nil old)))
second_put false old mid new bytes n kept is = (n, ap (λ (t : List ℕ). Some t) (is ∙ ap (λ (t : List ℕ). t ++ take n bytes) kept))

pub returns-clause-part : goal.returns-clause-part
returns-clause-part c =
    let old = c.args.self.now.inner.text in
    let now = c.if-self-gt0.self.inner.text in
    let kept : c.put.new.self.text ≡ old = grind (arith, common_steps) in
    elim c.if-self-gt0.branch [
      | then-self-gt0 w ↦ second_put (is_err w.put-then-self-gt0.result) old c.put.new.self.text now c.args.bytes.now w.min-count.result kept
          (ap (λ s. s.inner.text) w.self-is ∙ w.put-then-self-gt0.ensures.text)
      | else-self-gt0 w ↦ second_put true old c.put.new.self.text now c.args.bytes.now 0 kept (ap (λ s. s.inner.text) w.self-is)
    ]
