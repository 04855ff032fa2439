use Rattle.mailing_boots.proofs.AnyUsersMail.{any_users_mail}
use Rattle.mailing_boots.proofs.any_users_mail.Goals as goal

pub returns : goal.returns
returns c = any_users_mail c.accepted_systems_are_of_their_images.ensures c.runs_are_lawful.ensures c.turns_are_counted.ensures c.bounds_are_small.ensures
    c.lines_taken_are_few.ensures c.raised_lines_are_few.ensures (c.texts_mean_trees.ensures _ _ _ c.text_is_tree.ensures) c.mail_is_kept.ensures c.mail_ends.ensures
