-- The law is the lemmas on one frame of a list of words; another frame lies before the one that is written, or after it.
use Rattle.std.proofs.Common.{inl, inr}
use Rattle.std.proofs.lemmas.Bool.{cases_order}
use Rattle.frame_store.proofs.FrameIsItsPart.{length-frame_of, length-with_frame, word-frame_of, word-inside, word-before, word-after, same-frame, later-frame, earlier-frame, set-word}
use Rattle.frame_store.proofs.a_frame_is_its_part.Goals as goal

pub returns-clause-whole : goal.returns-clause-whole
returns-clause-whole c = length-frame_of

pub returns-clause-word : goal.returns-clause-word
returns-clause-word c = word-frame_of

pub returns-clause-same_length : goal.returns-clause-same_length
returns-clause-same_length c = length-with_frame

pub returns-clause-inside : goal.returns-clause-inside
returns-clause-inside c = word-inside

pub returns-clause-outside : goal.returns-clause-outside
returns-clause-outside c words frame new k inside long place =
    elim place [ inl before ↦ word-before words frame new k inside before | inr after ↦ word-after words frame new k inside long after ]

pub returns-clause-same_frame : goal.returns-clause-same_frame
returns-clause-same_frame c = same-frame

pub returns-clause-other_frame : goal.returns-clause-other_frame
returns-clause-other_frame c words frame other new inside long differ =
    elim (cases_order other frame) [
      | inl same ↦ absurd (differ same)
      | inr (inl below) ↦ earlier-frame words frame other new inside below
      | inr (inr above) ↦ later-frame words frame other new inside long above
    ]

pub returns-clause-one_word : goal.returns-clause-one_word
returns-clause-one_word c = set-word
