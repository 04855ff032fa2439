-- What is asked of a file is what the system that is booted wants; and the run of a file that was read is taken up as that is.
use Rattle.std.proofs.Common.{◌≡◌, ℕ, ◌*◌, ◌<◌, ◌≤◌, List, length, Ok, Err, sym, ap, subst, ◌∙◌}
use Rattle.std.specs.List.{flat_map}
use Rattle.std.proofs.lemmas.List.{length-map}
use Rattle.cvm_words.specs.Bytes.{word}
use Rattle.schedule_file.specs.Rows.{Rows}
use Rattle.layer_map.specs.Map.{memory_frames}
use Rattle.cvm_model.specs.Cvm.{map_of}
use Rattle.layer_contract.specs.declared.boot.Boot.{Boot as Booted}
use Rattle.layer_contract.specs.Boots.{boot_of}
use Rattle.saved_file.specs.declared.reading.Sizes.{Sizes}
use Rattle.saved_file.specs.Resumable.{Wanted, CanBeResumed, wanted}
use Rattle.saved_file.specs.Answer.{answer}
use Rattle.boot_run.specs.LoadEnds.{Kept, pages_needed}
use Rattle.boot_run.specs.Saving.{IsTakenUp}
use Rattle.boot_run.specs.SavedFiles.{wanted_of}
use Rattle.machine_save.specs.declared.resuming.ResumeFault.TheVariants.{SmallDisk}
use Rattle.machine_save.specs.Resume.{ResumesFile}

abbrev asked : (frames users pages turns : ℕ) → (inputs linked : List ℕ) → Wanted
asked frames users pages turns inputs linked = record { frames = frames; users = users; pages = pages; inputs = inputs; linked = linked; turns = turns }

pub is_wanted : (b : Booted) (rows : Rows) (turns : ℕ) (s : Sizes) (inputs linked : List ℕ) → s.frames ≡ memory_frames (map_of (boot_of b)) → s.users ≡ length b.users.items → s.pages ≡ b.params.pages → inputs ≡ rows.inputs → linked ≡ b.words.items → wanted s inputs linked turns ≡ wanted_of (boot_of b) rows.inputs turns
is_wanted b rows turns s inputs linked frames users pages given words =
    ap (λ (n : ℕ). asked n s.users s.pages turns inputs linked) frames
    ∙ ap (λ (n : ℕ). asked (memory_frames (map_of (boot_of b))) n s.pages turns inputs linked) (users ∙ sym (length-map b.users.items (λ words. words.items)))
    ∙ ap (λ (n : ℕ). asked (memory_frames (map_of (boot_of b))) (length (boot_of b).users) n turns inputs linked) pages
    ∙ ap (λ (l : List ℕ). asked (memory_frames (map_of (boot_of b))) (length (boot_of b).users) b.params.pages turns l linked) given
    ∙ ap (λ (l : List ℕ). asked (memory_frames (map_of (boot_of b))) (length (boot_of b).users) b.params.pages turns rows.inputs l) words

pub room_is : (b : Booted) (s : Sizes) (have count : ℕ) → s.users ≡ length b.users.items → s.pages ≡ b.params.pages → have ≡ count → s.users * s.pages ≤ have → pages_needed b ≤ count
room_is b s have count users pages same enough =
    subst (λ (n : ℕ). n * b.params.pages ≤ count) users (subst (λ (n : ℕ). s.users * n ≤ count) pages (subst (λ (n : ℕ). s.users * s.pages ≤ n) same enough))

-- the answer with the run, where the file was read under what is asked
pub taken : {L : Type 0} (layer : L) (b : Booted) (rows : Rows) (turns count have : ℕ) (bytes words from : List ℕ) (w : Wanted) (r : Kept L) → w ≡ wanted_of (boot_of b) rows.inputs turns → answer w bytes ≡ Ok words → flat_map word words ≡ bytes → CanBeResumed w words → pages_needed b ≤ count → have ≡ count → from ≡ words → IsTakenUp layer b rows have from r → ResumesFile layer b rows turns count bytes (Ok r)
taken layer b rows turns count have bytes words from w r asks is spelled can room same file up = (
  words,
  subst (λ (l : List ℕ). IsTakenUp layer b rows count l r) file (subst (λ (n : ℕ). IsTakenUp layer b rows n from r) same up),
  (
    subst (λ (v : Wanted). answer v bytes ≡ Ok words) asks is,
    sym spelled,
    subst (λ (v : Wanted). CanBeResumed v words) asks can,
    room,
  ),
)

-- the answer where the disk has fewer sectors than the run of a file that was read needs
pub too_small : {L : Type 0} (layer : L) (b : Booted) (rows : Rows) (turns count have : ℕ) (s : Sizes) (bytes words : List ℕ) (w : Wanted) (asked_so : w ≡ wanted_of (boot_of b) rows.inputs turns) → answer w bytes ≡ Ok words → s.users ≡ length b.users.items → s.pages ≡ b.params.pages → have ≡ count → (needs has : ℕ) →
    (needs ≡ s.users * s.pages) × (has ≡ have) × (have < s.users * s.pages) → ResumesFile {L = L} layer b rows turns count bytes (Err (SmallDisk needs has))
too_small layer b rows turns count have s bytes words w asks is users pages same needs has few = (
  words,
  subst (λ (v : Wanted). answer v bytes ≡ Ok words) asks is,
  few.0 ∙ ap (λ (n : ℕ). n * s.pages) users ∙ ap (λ (n : ℕ). length b.users.items * n) pages,
  few.1 ∙ same,
  rw (few.0, few.1) few.2,
)
