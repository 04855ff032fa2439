-- An image that isn't refused has few words.
use Rattle.std.proofs.Common.{ℕ, List, length, ap, arith}
use Rattle.user_c0.proofs.compile.compile_user.Goals as goal

pub returns-in-Ok-laid_out-clause-most : goal.returns-in-Ok-laid_out-clause-most
returns-in-Ok-laid_out-clause-most c =
    let same = ap (λ (ws : List ℕ). length ws) c.in-Ok-laid_out.ensures.words in
    let size = c.image_size-words.ensures in
    let few = c.if-words-gt-MOST.false in
    omega (arith, same, size, few)
