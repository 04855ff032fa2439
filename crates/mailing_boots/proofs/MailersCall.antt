-- The programs are computed.
use Rattle.std.specs.Int.{int_wrap}
use Rattle.std.proofs.Common.{◌≡◌, refl}
use Rattle.c0_meaning.specs.UserProgram.{prog, done}
use Rattle.mailing_boots.specs.Through.{ints}
use Rattle.mailing_boots.specs.Mailers.{zeros, asked_for, told_for, sender, receiver, one_to_ten, MailersCall}

sends : prog sender (ints (zeros one_to_ten)) 400 ≡ record { arguments = ints one_to_ten; ending = done }
unfolding int_wrap
sends = refl

receives : prog receiver (ints (told_for one_to_ten)) 600 ≡ record { arguments = ints (asked_for one_to_ten); ending = done }
unfolding int_wrap
receives = refl

pub mailers_call : MailersCall
mailers_call = record { sends = sends; receives = receives }
