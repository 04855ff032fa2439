use Rattle.c0_tree.specs.declared.primitive.Program.TheVariants.{User}
use Rattle.cvm_shell.proofs.LinkedUsers.{linked_programs}
use Rattle.cvm_shell.proofs.laws.linked_users_have_their_programs.Goals as goal

pub returns : goal.returns
returns c = linked_programs (c.units_of_sources_are_checked.ensures User) c.images_are_whole.ensures c.images_are_words.ensures c.accepted_systems_are_of_their_images.ensures
