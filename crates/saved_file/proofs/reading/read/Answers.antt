-- The words are those of the bytes, and what comes of the tests is the answer.
use Rattle.std.proofs.Common.{◌≡◌, Ok, Err, List, ℕ, length, inr, refl, sym, subst, ◌∙◌, arith}
use Rattle.std.proofs.lemmas.Result.{err_from_is_err_and}
use Rattle.saved_file.specs.Resumable.{wanted}
use Rattle.saved_file.specs.Answer.{IsSavedAnswer}
use Rattle.saved_file.specs.Tests.{tests, all_tried}
use Rattle.saved_file.proofs.BytesAsWords.{words_whole, answer_of, answer_so}
use Rattle.saved_file.proofs.AllTestsPass.{resumable}
use Rattle.saved_file.proofs.reading.read.Goals as goal

pub returns-in_err-look_at-clause-is : goal.returns-in_err-look_at-clause-is
returns-in_err-look_at-clause-is c =
    let p = err_from_is_err_and c.from_residual-in_err-look_at.result c.from_residual-in_err-look_at.ensures.1 in
    rw (p.1, p.2)
    (inr (answer_of (wanted c.args.sizes.now c.args.inputs.now c.args.linked.now c.args.turns) c.args.bytes.now c.in_ok-words.words.items (Err c.in_err-look_at.field-0.0)
    (c.in_ok-words.ensures.words ∙ words_whole c.args.bytes.now _ refl)
    (subst (λ (ws : List ℕ). Err c.in_err-look_at.field-0.0 ≡ all_tried (length ws) (tests (wanted c.args.sizes.now c.args.inputs.now c.args.linked.now c.args.turns) (length c.args.bytes.now) ws)) c.deref.ensures.value (sym c.in_err-look_at.was ∙ c.look_at.ensures))))

pub returns-clause-is : goal.returns-clause-is
returns-clause-is c =
    answer_of (wanted c.args.sizes.now c.args.inputs.now c.args.linked.now c.args.turns) c.args.bytes.now c.in_ok-words.words.items (Ok c.in_ok-look_at.field-0)
    (c.in_ok-words.ensures.words ∙ words_whole c.args.bytes.now _ refl)
    (subst (λ (ws : List ℕ). Ok c.in_ok-look_at.field-0 ≡ all_tried (length ws) (tests (wanted c.args.sizes.now c.args.inputs.now c.args.linked.now c.args.turns) (length c.args.bytes.now) ws)) c.deref.ensures.value (sym c.in_ok-look_at.was ∙ c.look_at.ensures))

pub returns-clause-resumable : goal.returns-clause-resumable
returns-clause-resumable c = resumable (wanted c.args.sizes.now c.args.inputs.now c.args.linked.now c.args.turns) c.args.bytes.now c.in_ok-words.words.items (returns-clause-is c)

pub returns-clause-spelled : goal.returns-clause-spelled
returns-clause-spelled c =
    let so : IsSavedAnswer (wanted c.args.sizes.now c.args.inputs.now c.args.linked.now c.args.turns) c.args.bytes.now (Ok c.in_ok-words.words.items) =
    (subst (IsSavedAnswer (wanted c.args.sizes.now c.args.inputs.now c.args.linked.now c.args.turns) c.args.bytes.now) (returns-clause-is c)
    (answer_so (wanted c.args.sizes.now c.args.inputs.now c.args.linked.now c.args.turns) c.args.bytes.now (λ i. omega (arith, c.type_inv.bytes i)))) in
    sym so.0
