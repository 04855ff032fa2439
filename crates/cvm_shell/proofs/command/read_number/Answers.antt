use Rattle.std.proofs.Common.{◌≡◌, ℕ, length, Some, None, ◌∙◌, sym, ap}
use Rattle.cvm_text.specs.Number.{spelled_number_at}
use Rattle.cvm_shell.proofs.OneNumberSpelled.{whole_number}
use Rattle.cvm_shell.proofs.command.read_number.Goals as goal

pub returns-in_err-number : goal.returns-in_err-number
returns-in_err-number c = rw c.from_residual.ensures (λ n small e.
    let w : spelled_number_at c.args.text.now 0 ≡ Some (n, length c.args.text.now) = whole_number c.spelled_numbers_are_read.ensures c.args.text.now n small e in
    let none : spelled_number_at c.args.text.now 0 ≡ None = rw (sym c.as_bytes-bytes.ensures.value) (sym c.read_decimal.ensures.value ∙ c.in_err-number.was) in
    absurd (cc (w, none)))

pub returns-else-end-bytes : goal.returns-else-end-bytes
returns-else-end-bytes c = λ n small e.
    let w : spelled_number_at c.args.text.now 0 ≡ Some (n, length c.args.text.now) = whole_number c.spelled_numbers_are_read.ensures c.args.text.now n small e in
    let some : spelled_number_at c.args.text.now 0 ≡ Some (c.in_ok-number.number, c.in_ok-number.end) = rw (sym c.as_bytes-bytes.ensures.value) (sym c.read_decimal.ensures.value ∙ c.in_ok-number.was) in
    let pair : (n, length c.args.text.now) ≡ (c.in_ok-number.number, c.in_ok-number.end) = cc (w, some) in
    c.if-end-bytes.false (sym (ap (λ (p : ℕ × ℕ). p.1) pair) ∙ sym (ap length c.as_bytes-bytes.ensures.value))
