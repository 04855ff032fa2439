-- By what `accept` says of its result, and by the layer's laws.
use Rattle.std.proofs.Common.{refl, arith}
use Rattle.boot_image.specs.Reading.{answer}
use Rattle.kernel_linker.specs.Accept.{image_system}
use Rattle.cvm_shell.proofs.AcceptedFollow.{whole}
use Rattle.cvm_shell.proofs.accepted.accept_image.Goals as goal

pub returns-clause-follows : goal.returns-clause-follows
returns-clause-follows g c =
    let fits = whole c.spelled_images_fit.ensures g.M.LayerMaker.made (λ a. image_system a.boot) (answer c.args.bytes.now) c.in_ok-accepted.accepted c.in_ok-accepted.accepted.boot _ _ _
    (λ i e. (c.images_are_their_spellings.ensures.spelled c.args.bytes.now (λ k. omega (arith, c.type_inv.bytes k)) i e).0)
    c.in_ok-accepted.ensures.is refl c.unit-unit.ensures.checked c.in_ok-accepted.ensures.map c.in_ok-accepted.ensures.sizes c.in_ok-accepted.ensures.image in
    c.linked_boots_follow.ensures _ _ _ _ fits c.keeps_laws.ensures.linked c.keeps_laws.ensures.laws
