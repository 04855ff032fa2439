-- The unit's instructions are in range, and the addresses of heap and stack are small.
use Rattle.c0_tree.specs.declared.primitive.Program.TheVariants.{User}
use Rattle.c0_tree.specs.Primitives.{user_primitives}
use Rattle.c0_meaning.specs.Limits.{first_number}
use Rattle.user_c0.proofs.laws.images_are_words.Goals as goal
use Rattle.user_c0.proofs.ImageHolds.{fits}
use Rattle.user_c0.proofs.ImageWords.{are_words}

pub returns : goal.returns
returns c = λ u checked small.
    let addresses = c.trees_have_addresses.ensures user_primitives u checked.well_formed (first_number User u) in
    let stands = c.units_stand.ensures user_primitives u checked.well_formed (first_number User u) addresses.0 addresses.1 in
    are_words u (fits u addresses.0 stands) small stands.in_range
