-- What stays given, and what isn't where a call fails.
use Rattle.std.proofs.Common.{◌≡◌, Option, None, refl, ap, ◌∙◌, rules}
use Rattle.std.specs.Prelude.{◌&&◌, is_some}
use Rattle.cvm_outside.specs.Numbering.{is_spent}
use Rattle.cvm_outside.specs.Memory.{Placed}
use Rattle.cvm_outside.specs.Shelves.{placed}
use Rattle.cvm_outside.proofs.CallsToCome.{still, not_sure}
use Rattle.cvm_outside.proofs.mem_shelf.MemShelfShelf.get.Goals as goal

pub returns-then-begin-clause-sure : goal.returns-then-begin-clause-sure
returns-then-begin-clause-sure c = λ e. not_sure (is_some (placed c.args.self.now c.args.name.now)) (is_spent c.args.self.now.calls) c.begin.result c.begin.ensures.sure c.if-begin.true

pub returns-then-begin-clause-given : goal.returns-then-begin-clause-given
returns-then-begin-clause-given c = λ n h.
    still (is_some (placed c.args.self.now n)) (is_some (placed c.args.self.now n)) (is_spent c.args.self.now.calls) (is_spent c.count_fault.new.self) refl
    (λ s. ap is_spent c.count_fault.ensures.counted ∙ c.begin.ensures.spent s) h

pub returns-in_default-clause-sure : goal.returns-in_default-clause-sure
returns-in_default-clause-sure c = λ e.
    let missing : placed c.args.self.now c.args.name.now ≡ None = search rules in
    ap (λ (o : Option Placed). is_some o && is_spent c.args.self.now.calls) missing

pub returns-in_default-clause-given : goal.returns-in_default-clause-given
returns-in_default-clause-given c = λ n h.
    still (is_some (placed c.args.self.now n)) (is_some (placed c.args.self.now n)) (is_spent c.args.self.now.calls) (is_spent c.count_fault-in_default.new.self) refl
    (λ s. ap is_spent c.count_fault-in_default.ensures.counted ∙ c.begin.ensures.spent s) h

pub returns-then-bytes-gt-LONGEST_FILE-clause-given : goal.returns-then-bytes-gt-LONGEST_FILE-clause-given
returns-then-bytes-gt-LONGEST_FILE-clause-given c = λ n h.
    still (is_some (placed c.args.self.now n)) (is_some (placed c.args.self.now n)) (is_spent c.args.self.now.calls) (is_spent c.begin.new.self) refl
    c.begin.ensures.spent h

pub returns-in_default-to_vec-clause-given : goal.returns-in_default-to_vec-clause-given
returns-in_default-to_vec-clause-given c = λ n h.
    still (is_some (placed c.args.self.now n)) (is_some (placed c.args.self.now n)) (is_spent c.args.self.now.calls) (is_spent c.begin.new.self) refl
    c.begin.ensures.spent h

pub returns-clause-given : goal.returns-clause-given
returns-clause-given c = λ n h.
    still (is_some (placed c.args.self.now n)) (is_some (placed c.args.self.now n)) (is_spent c.args.self.now.calls) (is_spent c.begin.new.self) refl
    c.begin.ensures.spent h
