-- Part by part.
use Rattle.std.proofs.Common.{length}
use Rattle.c0_stmt_code.proofs.FunctionRanges.{body_fine}
use Rattle.c0_stmt_code.proofs.sizes.functions_are_in_range.Goals as goal

pub returns : goal.returns
returns c = λ primitives u well sc x exits near n f is same.
    body_fine sc x c.codes_are_in_range.ensures.codes exits near c.bodies_are_encoded.ensures (length f.params) f.body (c.functions_are_emittable.ensures primitives u well n f is).body
