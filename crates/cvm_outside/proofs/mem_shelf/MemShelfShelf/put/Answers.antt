-- What stays given.
use Rattle.std.proofs.Common.{ap, ◌∙◌}
use Rattle.std.specs.Prelude.{is_some}
use Rattle.std.specs.BTreeMap.{get_by_text}
use Rattle.cvm_outside.specs.Numbering.{is_spent}
use Rattle.cvm_outside.specs.Shelves.{placed}
use Rattle.cvm_outside.specs.declared.mem_shelf.MemShelf.{MemShelf}
use Rattle.cvm_outside.proofs.CallsToCome.{still}
use Rattle.cvm_outside.proofs.mem_shelf.MemShelfShelf.put.Goals.{then-begin-via-then-begin, then-begin-via-else-begin+then-not-put_file}
use Rattle.cvm_outside.proofs.mem_shelf.MemShelfShelf.put.Goals as goal

pub returns-clause-given : goal.returns-clause-given
returns-clause-given c = λ n h.
    still (is_some (placed c.args.self.now n)) (is_some (get_by_text c.put_file.new.files n)) (is_spent c.args.self.now.calls) (is_spent c.begin.new.self) (c.put_file.ensures.kept n)
    c.begin.ensures.spent h

pub returns-then-begin-clause-given : goal.returns-then-begin-clause-given
returns-then-begin-clause-given c = elim c.then-begin.branch [
  | then-begin-via-then-begin w ↦ λ n h.
      still (is_some (placed c.args.self.now n)) (is_some (placed c.then-begin.self n)) (is_spent c.args.self.now.calls) (is_spent c.count_fault.new.self) (ap (λ (m : MemShelf). is_some (placed m n)) w.self-is)
      (λ s. ap is_spent c.count_fault.ensures.counted ∙ (ap (λ (m : MemShelf). is_spent m.calls) w.self-is ∙ c.begin.ensures.spent s)) h
  | then-begin-via-else-begin+then-not-put_file w ↦ λ n h.
      still (is_some (placed c.args.self.now n)) (is_some (placed c.then-begin.self n)) (is_spent c.args.self.now.calls) (is_spent c.count_fault.new.self) (ap (λ (m : MemShelf). is_some (placed m n)) w.self-is ∙ w.put_file.ensures.kept n)
      (λ s. ap is_spent c.count_fault.ensures.counted ∙ (ap (λ (m : MemShelf). is_spent m.calls) w.self-is ∙ c.begin.ensures.spent s)) h
]
