-- What is answered is so of the bytes in the format's own words.
use Rattle.std.proofs.Common.{◌≡◌, ℕ, List, Result, Ok, Err, sym, ap, subst, ◌∙◌}
use Rattle.std.specs.Prelude.{IfOk}
use Rattle.boot_image.specs.declared.fault.ImageFault.{ImageFault}
use Rattle.boot_image.specs.declared.fault.ImageFault.TheVariants.{Memory}
use Rattle.boot_image.specs.Parts.{ImageParts}
use Rattle.boot_image.specs.Format.{spelling, IsInRange, IsOldInRange}
use Rattle.boot_image.specs.Reading.{answer, old_answer}
use Rattle.cvm_words.specs.Reading.{GivesOkUnless}
use Rattle.cvm_words.proofs.BytesOfWords.{IsBytes}
use Rattle.boot_image.proofs.SpellingIsAnswered.{read_back, old_read_back}
use Rattle.boot_image.proofs.AnsweredIsSpelling.{answer_spelled, old_answer_spelled}

pub gives_only : (bytes : List ℕ) (r : Result ImageParts ImageFault) → GivesOkUnless Memory r (answer bytes) → (i : ImageParts) → IsInRange i → bytes ≡ spelling i → GivesOkUnless Memory r (Ok i)
gives_only bytes r h i fits is = subst (λ (a : Result ImageParts ImageFault). GivesOkUnless Memory r a) (ap answer is ∙ read_back i fits) h

pub old_gives_only : (bytes : List ℕ) (r : Result ImageParts ImageFault) → GivesOkUnless Memory r (old_answer bytes) → (i : ImageParts) → IsOldInRange i → bytes ≡ spelling i → GivesOkUnless Memory r (Ok i)
old_gives_only bytes r h i fits is = subst (λ (a : Result ImageParts ImageFault). GivesOkUnless Memory r a) (ap old_answer is ∙ old_read_back i fits) h

gives_back : (i : ImageParts) (a : Result ImageParts ImageFault) → GivesOkUnless Memory (Ok i) a → a ≡ Ok i
gives_back i (Ok j) h = ap (λ (k : ImageParts). Ok k) (sym h)
gives_back i (Err f) h = absurd cc

pub gives_spelled : (bytes : List ℕ) → IsBytes bytes → (r : Result ImageParts ImageFault) → GivesOkUnless Memory r (answer bytes) → IfOk r (λ i. IsInRange i × (bytes ≡ spelling i))
gives_spelled bytes fits (Ok i) h = answer_spelled bytes fits i (gives_back i (answer bytes) h)
gives_spelled bytes fits (Err f) h = tt

pub old_gives_spelled : (bytes : List ℕ) → IsBytes bytes → (r : Result ImageParts ImageFault) → GivesOkUnless Memory r (old_answer bytes) → IfOk r (λ i. IsOldInRange i × (bytes ≡ spelling i))
old_gives_spelled bytes fits (Ok i) h = old_answer_spelled bytes fits i (gives_back i (old_answer bytes) h)
old_gives_spelled bytes fits (Err f) h = tt
