-- The first fault of the lines from a line on: that of the line, or that of the lines after it.
use Rattle.std.proofs.Common.{◌≡◌, ◌+◌, ◌||◌, ℕ, Bool, true, false, cond, List, ◌∷◌, length, take, Option, Some, None, refl, ap, sym, ◌∙◌, true≢false}
use Rattle.std.specs.Prelude.{is_some}
use Rattle.std.specs.Option.{option_or}
use mathlib.Core.Path.{fun_ext}
use Rattle.mips_asm.specs.declared.fault.AsmFault.{AsmFault}
use Rattle.std.specs.List.{prefix_len}
use Rattle.mips_asm.specs.Text.{content, colon_parts, labels_in, is_good_byte}
use Rattle.mips_asm.specs.Line.{LineMeaning, line_meaning, width}
use Rattle.mips_asm.specs.Assembled.{labels, has, labels_resolved, meaning_fault, twice_fault}
use Rattle.mips_asm.specs.Passes.{repeats_in, line_fault_at, fault_from}

-- what is there after a line's labels are set
pub some_or : (old new : Option ℕ) (here : Bool) (at : ℕ) → new ≡ option_or old (cond here (Some at) None) → is_some new ≡ (is_some old || here)
some_or (Some o) new here at e = ap is_some e
some_or None new true at e = ap is_some e
some_or None new false at e = ap is_some e

-- the line has a fault
pub found : (position : List ℕ → Option ℕ) (seen : List ℕ → Bool) (start number at : ℕ) (line : List ℕ) (rest : List (List ℕ)) (o : Option AsmFault) (f : AsmFault)
    → o ≡ line_fault_at position seen start number at line → o ≡ Some f → Some f ≡ fault_from position seen start number at (line ∷ rest)
found position seen start number at line rest o f is some =
    sym (ap (λ k. option_or k (fault_from position (λ q. seen q || has (labels line) q) (start + (length line + 1)) (number + 1) (at + width (line_meaning line)) rest)) (sym is ∙ some))

-- the line has none
pub next_line : (position : List ℕ → Option ℕ) (seen after : List ℕ → Bool) (start number at next : ℕ) (line : List ℕ) (rest : List (List ℕ)) (o : Option AsmFault)
    → o ≡ line_fault_at position seen start number at line → o ≡ None → ((q : List ℕ) → after q ≡ (seen q || has (labels line) q)) → next ≡ at + width (line_meaning line)
    → fault_from position after (start + (length line + 1)) (number + 1) next rest ≡ fault_from position seen start number at (line ∷ rest)
next_line position seen after start number at next line rest o is none same far =
    ap (λ s. fault_from position s (start + (length line + 1)) (number + 1) next rest) (fun_ext same)
    ∙ ap (λ n. fault_from position (λ q. seen q || has (labels line) q) (start + (length line + 1)) (number + 1) n rest) far
    ∙ sym (ap (λ k. option_or k (fault_from position (λ q. seen q || has (labels line) q) (start + (length line + 1)) (number + 1) (at + width (line_meaning line)) rest)) (sym is ∙ none))

-- the parts of a line's fault, as the code comes by them
pub fault_is : (position : List ℕ → Option ℕ) (seen : List ℕ → Bool) (start number at good : ℕ) (line text : List ℕ) (o : Option AsmFault) (read known : LineMeaning) (twice : Bool)
    → o ≡ option_or (meaning_fault (start + good) number known) (twice_fault number twice) → good ≡ prefix_len is_good_byte line
    → known ≡ labels_resolved position at read → read ≡ line_meaning line → twice ≡ repeats_in seen (labels_in (colon_parts text)) → text ≡ content (take (prefix_len is_good_byte line) line)
    → o ≡ line_fault_at position seen start number at line
fault_is position seen start number at good line text o read known twice is front resolves reads repeated labelled =
    is ∙ ap (λ g. option_or (meaning_fault (start + g) number known) (twice_fault number twice)) front
    ∙ ap (λ m. option_or (meaning_fault (start + prefix_len is_good_byte line) number m) (twice_fault number twice)) (resolves ∙ ap (labels_resolved position at) reads)
    ∙ ap (λ t. option_or (meaning_fault (start + prefix_len is_good_byte line) number (labels_resolved position at (line_meaning line))) (twice_fault number t))
    (repeated ∙ ap (λ t. repeats_in seen (labels_in (colon_parts t))) labelled)

pub found_some : (position : List ℕ → Option ℕ) (seen : List ℕ → Bool) (start number at : ℕ) (line : List ℕ) (rest : List (List ℕ)) (o : Option AsmFault)
    → o ≡ line_fault_at position seen start number at line → is_some o ≡ true → o ≡ fault_from position seen start number at (line ∷ rest)
found_some position seen start number at line rest (Some f) is some = found position seen start number at line rest (Some f) f is refl
found_some position seen start number at line rest None is some = absurd (true≢false (sym some))

pub none_there : (o : Option AsmFault) → is_some o ≡ false → o ≡ None
none_there (Some f) none = absurd (true≢false none)
none_there None none = refl
