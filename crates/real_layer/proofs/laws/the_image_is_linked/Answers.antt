-- By the parts of the image, with as many zeros behind it as there are words of code.
use Rattle.std.proofs.Common.{replicate}
use Rattle.std.proofs.lemmas.List.{length-replicate}
use Rattle.real_layer.proofs.ImageIsLinked.{image_linked}
use Rattle.real_layer.proofs.laws.the_image_is_linked.Goals as goal

pub returns : goal.returns
returns c = λ m sizes range users. image_linked m sizes (replicate m.code_words 0) (record { range = range; users = users; whole = length-replicate m.code_words 0 })
