-- The buffer's frame in the store: words are themselves with that frame as it stands.
use Rattle.std.proofs.Common.{◌≡◌, ℕ, ◌*◌, List, ◌++◌, take, drop, sym, ap, ◌∙◌}
use Rattle.std.proofs.lemmas.List.{take-append-drop}
use Rattle.frame_store.specs.Words.{frame_of, with_frame}

pub with_own_frame : (words : List ℕ) (frame : ℕ) → words ≡ with_frame words frame (frame_of words frame)
with_own_frame words frame =
    sym (ap (λ l. take (1024 * frame) words ++ l) (take-append-drop 1024 (drop (1024 * frame) words)) ∙ take-append-drop (1024 * frame) words)
