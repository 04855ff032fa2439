-- What is answered of an image that is to be booted, by the stage at which it is known.
use Rattle.std.proofs.Common.{ℕ, ◌≡◌, ◌≤◌, ◌*◌, ◌+◌, ◌/◌, min, ◌⊎◌, inl, inr, List, [], length, map, Result, Ok, Err, refl, sym, ap, ◌∙◌, subst, arith}
use Rattle.std.specs.List.{All}
use Rattle.layer_map.specs.Map.{Map, ParamsInRange}
use Rattle.layer_map.specs.declared.params.Params.{Params}
use Rattle.boot_image.specs.Format.{HasSpelling, IsBare, IsSystem, bare_params, most_user_words}
use Rattle.boot_image.specs.Parts.{ImageParts as Image}
use Rattle.boot_image.specs.declared.fault.ImageFault.{ImageFault}
use Rattle.boot_image.specs.declared.fault.ImageFault.TheVariants.{Memory as NoImageMemory}
use Rattle.c0_tree.specs.Tree.{CUnit}
use Rattle.c0_parser.specs.declared.fault.ReadFault.TheVariants.{Memory as NoMemory}
use Rattle.c0_types.specs.Front.{IsUnitOf, IsSourceFaultOf}
use Rattle.c0_types.specs.declared.source_fault.SourceFault.{SourceFault}
use Rattle.c0_types.specs.declared.source_fault.SourceFault.TheVariants.{Reading}
use Rattle.kernel_linker.specs.Linked.{linked, sizes_of}
use Rattle.kernel_linker.specs.Fault.{accept_source_fault, accept_file_fault}
use Rattle.cvm_words.specs.Reading.{◌>>=◌, GivesOkUnless}
use Rattle.kernel_linker.specs.Accept.{ImageSystem, AnswersBy, AcceptAnswers, words_match, accept_answer}
use Rattle.kernel_linker.specs.declared.fault.AcceptFault.{AcceptFault}
use Rattle.kernel_linker.specs.declared.fault.AcceptFault.TheVariants.{Memory}

-- what is due of a result, by what the bytes were read as, where that is an image
pub of_image : {X Y : Type 0} (due : Image → Result CUnit SourceFault → Result Y AcceptFault) (view : X → Y) (r : Result Image ImageFault) (i : Image) (result : Result X AcceptFault) →
    GivesOkUnless NoImageMemory (Ok i) r → AnswersBy due view (Ok i) result → AnswersBy due view r result
of_image due view (Ok j) i result h a = subst (λ (k : Image). AnswersBy due view (Ok k) result) h a
of_image due view (Err f) i result h a = cc

-- bytes that are no image, or want of memory
pub unread_file : {X Y : Type 0} (due : Image → Result CUnit SourceFault → Result Y AcceptFault) (view : X → Y) (r : Result Image ImageFault) (result : Result X AcceptFault) (e : AcceptFault) (f : ImageFault) →
    result ≡ Err e → e ≡ accept_file_fault f → GivesOkUnless NoImageMemory (Err f) r → AnswersBy due view r result
unread_file due view (Ok i) result e f h k given =
    subst (AnswersBy due view (Ok i)) (sym h) (Err (Reading NoMemory), tt, inl (k ∙ ap accept_file_fault given))
unread_file due view (Err g) result e f h k given = let same : f ≡ g = cc in h ∙ ap Err (k ∙ ap accept_file_fault same)

-- want of memory
pub wanting : {X Y : Type 0} (due : Image → Result CUnit SourceFault → Result Y AcceptFault) (view : X → Y) (r : Result Image ImageFault) (i : Image) (result : Result X AcceptFault) (e : AcceptFault) →
    GivesOkUnless NoImageMemory (Ok i) r → result ≡ Err e → e ≡ Memory → AnswersBy due view r result
wanting due view r i result e given h k = of_image due view r i result given (subst (AnswersBy due view (Ok i)) (sym h) (Err (Reading NoMemory), tt, inl k))

-- the source has no checked unit
pub unread_source : {X Y : Type 0} (due : Image → Result CUnit SourceFault → Result Y AcceptFault) (view : X → Y) (r : Result Image ImageFault) (i : Image) (result : Result X AcceptFault) (e : AcceptFault) (f : SourceFault) (source : List ℕ) →
    due i (Err f) ≡ Err (accept_source_fault f) → GivesOkUnless NoImageMemory (Ok i) r → result ≡ Err e → e ≡ accept_source_fault f → IsSourceFaultOf source f → source ≡ i.source → AnswersBy due view r result
unread_source due view r i result e f source stops given h k fault same =
    of_image due view r i result given (subst (AnswersBy due view (Ok i)) (sym (h ∙ ap Err k)) (Err f, subst (λ (s : List ℕ). IsSourceFaultOf s f) same fault, inr stops))

-- a fault of the source is what is answered
pub source_stops : (layer : Map → List ℕ → List ℕ) (i : Image) (f : SourceFault) → accept_answer layer i (Err f) ≡ Err (accept_source_fault f)
unfolding accept_answer
source_stops layer i f = refl

-- the words are others than are made
pub forged_image : {X : Type 0} (layer : Map → List ℕ → List ℕ) (view : X → ImageSystem) (r : Result Image ImageFault) (i : Image) (result : Result X AcceptFault) (e f : AcceptFault) (u : CUnit) (source words : List ℕ) →
    GivesOkUnless NoImageMemory (Ok i) r → result ≡ Err e → e ≡ f → IsUnitOf source u → source ≡ i.source → Err f ≡ words_match i words → words ≡ linked layer u i.params (sizes_of i.users) → AcceptAnswers layer view r result
unfolding accept_answer
forged_image layer view r i result e f u source words given h k found same differ made =
    let other : Err f ≡ words_match i (linked layer u i.params (sizes_of i.users)) = differ ∙ ap (words_match i) made in
    of_image (accept_answer layer) view r i result given (subst (AcceptAnswers layer view (Ok i)) (sym (h ∙ ap Err k)) (Ok u, subst (λ (s : List ℕ). IsUnitOf s u) same found, inr (rw (← other) refl)))

-- all is well
pub accepted_image : {X : Type 0} (layer : Map → List ℕ → List ℕ) (view : X → ImageSystem) (r : Result Image ImageFault) (i : Image) (a : X) (u : CUnit) (source words : List ℕ) (users : List (List ℕ)) (x : Unit {0}) →
    GivesOkUnless NoImageMemory (Ok i) r → IsUnitOf source u → source ≡ i.source → Ok x ≡ words_match i words → words ≡ linked layer u i.params (sizes_of i.users) →
    users ≡ i.users → view a ≡ record { params = i.params; unit = u; words = words; users = users } → AcceptAnswers layer view r (Ok a)
unfolding accept_answer
accepted_image layer view r i a u source words users x given found same equal made kept seen =
    let other : Ok x ≡ words_match i (linked layer u i.params (sizes_of i.users)) = equal ∙ ap (words_match i) made in
    of_image (accept_answer layer) view r i (Ok a) given (Ok u, subst (λ (s : List ℕ). IsUnitOf s u) same found, rw (seen, ← other, made, kept) refl)

-- what an image's users and parameters are
bare_in_range : ParamsInRange bare_params
bare_in_range = record { a_page = omega arith; pages = omega arith; two_frames = omega arith; frames = omega arith; heap = omega arith; least_stack = omega arith; stack = omega arith }

pub spelled_params : (i : Image) → HasSpelling i → ParamsInRange i.params
spelled_params i h = elim h.form [ inl b ↦ subst ParamsInRange (sym b.params) bare_in_range | inr s ↦ s.params ]

pub spelled_users : (i : Image) → HasSpelling i → length i.users ≤ 64
spelled_users i h = elim h.form [ inl b ↦ let none : length i.users ≡ 0 = ap length b.users in omega arith | inr s ↦ s.users ]

pub spelled_sizes : (i : Image) (p : Params) (users : List (List ℕ)) → HasSpelling i → i.params ≡ p → i.users ≡ users → All (λ u. length u ≤ most_user_words p.pages) users
spelled_sizes i p users h e k =
    subst (λ (q : Params). All (λ u. length u ≤ most_user_words q.pages) users) e
    (subst (λ (us : List (List ℕ)). All (λ u. length u ≤ most_user_words i.params.pages) us) k (elim (h.form) [
      | inl b ↦ λ n d below. let none : length i.users ≡ 0 = ap length b.users in absurd (omega arith)
      | inr s ↦ s.sizes
    ]))
