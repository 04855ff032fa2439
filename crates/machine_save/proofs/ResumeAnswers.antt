-- What a call answers that resumes, by what was taken up and how that went on.
use Rattle.std.proofs.Common.{◌≡◌, ℕ, ◌≤◌, ◌<◌, ◌^◌, List, Ok, Err, inl, inr, refl, sym, ap, subst, arith}
use Rattle.std.specs.Prelude.{slice_index, Result}
use Rattle.std.specs.List.{flat_map}
use Rattle.cvm_words.specs.Bytes.{word}
use Rattle.schedule_file.specs.Rows.{Rows}
use Rattle.mips_machine.specs.Machine.{state_of}
use Rattle.mips_machine.specs.Saved.{saved, CanBeSaved}
use Rattle.mips_machine.specs.Steps.{outside_of}
use Rattle.layer_contract.specs.declared.boot.Boot.{Boot as Booted}
use Rattle.layer_contract.specs.Follows.{loaded}
use Rattle.layer_contract.specs.Boots.{boot_of}
use Rattle.saved_file.specs.Answer.{answer}
use Rattle.saved_file.specs.declared.fault.SaveFault.TheVariants.{Memory}
use Rattle.boot_run.specs.Loading.{system_of}
use Rattle.boot_run.specs.LoadEnds.{Kept, pages_needed}
use Rattle.boot_run.specs.SavedRuns.{SavedAt, IsDisk}
use Rattle.boot_run.specs.Saving.{IsTakenUp}
use Rattle.boot_run.specs.SavedFiles.{wanted_of}
use Rattle.boot_run.specs.declared.whole.RunEnd.{RunEnd}
use Rattle.machine_save.specs.Resume.{ResumesFile}
use Rattle.machine_save.specs.ResumeRun.{Names, ResumeAnswers}
use Rattle.machine_save.specs.SavedBoots.{AreTakenUp}
use Rattle.machine_save.specs.declared.resuming.ResumeFault.{ResumeFault}
use Rattle.machine_save.specs.declared.resuming.ResumeFault.TheVariants.{Save, SmallDisk}

pub one_answer : {E : Type 0} (o : Result (List ℕ) E) (a b : List ℕ) → o ≡ Ok a → o ≡ Ok b → a ≡ b
one_answer (Ok c) a b e f = cc
one_answer (Err c) a b e f = absurd (cc)

no_answer : {E : Type 0} (o : Result (List ℕ) E) (a : List ℕ) (c : E) → o ≡ Ok a → o ≡ Err c → ⊥
no_answer (Ok b) a c e f = absurd (cc)
no_answer (Err b) a c e f = absurd (cc)

-- THE ANSWER
pub answers_so : {L : Type 0} (layer : L) (b : Booted) (rows : Rows) (turns count : ℕ) (bytes : List ℕ) (r : Kept L) (e : RunEnd) → ResumesFile layer b rows turns count bytes (Ok r) → ResumeAnswers b rows turns count bytes (Ok e)
answers_so layer b rows turns count bytes r e (words, up, told) = (words, told)

pub refused_so : {L : Type 0} (layer : L) (b : Booted) (rows : Rows) (turns count : ℕ) (bytes : List ℕ) (fault : ResumeFault) → ResumesFile layer b rows turns count bytes (Err fault) → ResumeAnswers b rows turns count bytes (Err fault)
refused_so layer b rows turns count bytes fault h = h

-- no more turns are complete than are wanted
pub done_few : {L : Type 0} (layer : L) (b : Booted) (rows : Rows) (turns count : ℕ) (bytes : List ℕ) (r : Kept L) → ResumesFile layer b rows turns count bytes (Ok r) → r.turns ≤ turns
done_few layer b rows turns count bytes r (words, up, (is, spelled, can, room)) =
    let done : r.turns ≡ slice_index words 5 = ap (λ (l : List ℕ). slice_index l 5) up.words_are in
    let few : slice_index words 5 ≤ turns = can.turns in
    omega (arith, done, few)

-- the bytes of a saved run are read back as its words
pub read_back : (b : Booted) (rows : Rows) (turns steps count : ℕ) (bytes : List ℕ) (old left : List (List ℕ)) (few spent : ℕ) (words shown : List ℕ) → AreTakenUp b rows count → turns < 2 ^ 32 → steps < 2 ^ 64 → IsDisk count old →
    pages_needed b ≤ count → SavedAt (outside_of rows count) (system_of b rows) (loaded (system_of b rows) old) few spent words left shown → bytes ≡ flat_map word words → 1 ≤ few → few ≤ turns → spent ≤ steps →
    answer (wanted_of (boot_of b) rows.inputs turns) bytes ≡ Ok words
read_back b rows turns steps count bytes old left few spent words shown up bits limit disk room at spelled some enough within =
    subst (λ (l : List ℕ). answer (wanted_of (boot_of b) rows.inputs turns) l ≡ Ok words) (sym spelled)
    (up old left few spent turns words shown room disk at some enough bits (omega (arith, within, limit))).1

pub no_memory : {L : Type 0} (layer : L) (b : Booted) (rows : Rows) (turns count : ℕ) (bytes words : List ℕ) (fault : ResumeFault) → ResumesFile layer b rows turns count bytes (Err fault) → pages_needed b ≤ count →
    answer (wanted_of (boot_of b) rows.inputs turns) bytes ≡ Ok words → fault ≡ Save Memory
no_memory layer b rows turns count bytes words (Save e) (inl memory) room is = ap Save memory
no_memory layer b rows turns count bytes words (Save e) (inr fails) room is = absurd (no_answer (answer (wanted_of (boot_of b) rows.inputs turns) bytes) words e is fails)
no_memory layer b rows turns count bytes words (SmallDisk need have) (other, back, wants, has, less) room is = absurd (omega (arith, wants, has, less, room))

-- ANY WORDS name the machine of the run that is taken up of them
pub named_so : {L : Type 0} (layer : L) (b : Booted) (rows : Rows) (count : ℕ) (words : List ℕ) (r : Kept L) (left : List (List ℕ)) → IsTakenUp layer b rows count words r → Names rows.inputs words left (state_of r.machine left) r.turns r.current
named_so layer b rows count words r left up = record {
  ready = subst (λ (q : Rows). CanBeSaved q.inputs (state_of r.machine left)) up.rows_are (up.resumed.ready left);
  words_are = subst (λ (q : Rows). saved q.inputs (state_of r.machine left) r.turns r.current ≡ words) up.rows_are up.words_are;
  sectors_are = refl;
}
