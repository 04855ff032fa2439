use Rattle.mailing_boots.proofs.CompiledBoots.{compiled_mail_boots}
use Rattle.mailing_boots.proofs.compiled_mail_boots.Goals as goal

pub returns : goal.returns
returns c = compiled_mail_boots c.accepted_systems_are_of_their_images.ensures c.linked_users_have_their_programs.ensures
    (c.program_texts_mean_trees.ensures _ _ _ c.texts_are_mailers.ensures.sends) (c.program_texts_mean_trees.ensures _ _ _ c.texts_are_mailers.ensures.receives)
    c.mailers_call.ensures c.images_ignore_spans.ensures c.mailers_are_counted.ensures c.any_counted_programs_mail.ensures
