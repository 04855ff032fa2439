-- What is answered of an image of form 2, by the stage at which it is known.
use Rattle.std.proofs.Common.{ℕ, ◌≡◌, ◌≤◌, List, length, Result, Ok, Err, refl, sym, ap, ◌∙◌, inr, subst, arith}
use Rattle.std.specs.List.{All}
use Rattle.layer_map.specs.Map.{Map, ParamsInRange}
use Rattle.layer_map.specs.declared.params.Params.{Params}
use Rattle.boot_image.specs.Format.{HasSpelling, IsOldInRange, most_user_words}
use Rattle.boot_image.specs.Parts.{ImageParts as Image}
use Rattle.boot_image.specs.declared.fault.ImageFault.{ImageFault}
use Rattle.boot_image.specs.declared.fault.ImageFault.TheVariants.{Memory as NoImageMemory}
use Rattle.c0_tree.specs.Tree.{CUnit}
use Rattle.c0_types.specs.Front.{IsUnitOf}
use Rattle.c0_types.specs.declared.source_fault.SourceFault.{SourceFault}
use Rattle.kernel_linker.specs.Linked.{linked, sizes_of}
use Rattle.kernel_linker.specs.Fault.{accept_source_fault}
use Rattle.cvm_words.specs.Reading.{◌>>=◌, GivesOkUnless}
use Rattle.kernel_linker.specs.Accept.{accept_front_unit, accept_answer}
use Rattle.kernel_linker.specs.Migrate.{migrate_answer, Migrates, IsAcceptedAnew}
use Rattle.kernel_linker.specs.declared.fault.AcceptFault.{AcceptFault}
use Rattle.kernel_linker.proofs.AcceptSteps.{of_image}
use Rattle.kernel_linker.proofs.SameWords.{same_all}

-- a fault of the source is what is answered
pub source_stops : (layer : Map → List ℕ → List ℕ) (i : Image) (f : SourceFault) → migrate_answer layer i (Err f) ≡ Err (accept_source_fault f)
unfolding migrate_answer
source_stops layer i f = refl

-- the image that is made of an old one and its unit
abbrev pub anew : (layer : Map → List ℕ → List ℕ) → Image → CUnit → Image
anew layer old u = record { params = old.params; form = 3; source = old.source; words = linked layer u old.params (sizes_of old.users); users = old.users }

-- it is made of these parts
pub image_is : (layer : Map → List ℕ → List ℕ) (old : Image) (u : CUnit) (params : Params) (source words : List ℕ) (users lent : List (List ℕ)) →
    params ≡ old.params → source ≡ old.source → words ≡ linked layer u params (sizes_of lent) → users ≡ old.users → lent ≡ old.users →
    record { params = params; form = 3; source = source; words = words; users = users } ≡ anew layer old u
image_is layer old u params source words users lent e s w us l = rw (w, e, s, us, l) refl

-- all is well
pub made_anew : (layer : Map → List ℕ → List ℕ) (r : Result Image ImageFault) (old new : Image) (u : CUnit) (source : List ℕ) →
    GivesOkUnless NoImageMemory (Ok old) r → IsUnitOf source u → source ≡ old.source → new ≡ anew layer old u → Migrates layer r (Ok new)
unfolding migrate_answer
made_anew layer r old new u source given found same is =
    of_image (migrate_answer layer) (λ i. i) r old (Ok new) given (Ok u, subst (λ (s : List ℕ). IsUnitOf s u) same found, rw is refl)

-- what is made can be written
pub written_anew : (layer : Map → List ℕ → List ℕ) (old new : Image) (u : CUnit) → IsOldInRange old → new ≡ anew layer old u → 16384 ≤ length new.words → length new.words ≤ 4194304 → HasSpelling new
written_anew layer old new u h is least most =
    record {
      source = subst (λ (s : List ℕ). length s ≤ 1048576) (sym (ap (λ (i : Image). i.source) is)) h.spelled.source;
      form = inr (record {
        form = ap (λ (i : Image). i.form) is;
        params = subst ParamsInRange (sym (ap (λ (i : Image). i.params) is)) h.spelled.system.params;
        least = least;
        most = most;
        users = subst (λ (us : List (List ℕ)). length us ≤ 64) (sym (ap (λ (i : Image). i.users) is)) (let few = h.spelled.system.users in omega arith);
        sizes = subst (λ (i : Image). All (λ u. length u ≤ most_user_words i.params.pages) i.users) (sym is) h.spelled.system.sizes;
      });
    }

-- a unit that was found
found_unit : (layer : Map → List ℕ → List ℕ) (old : Image) (front : Result CUnit SourceFault) (new : Image) → migrate_answer layer old front ≡ Ok new → (u : CUnit) × (front ≡ Ok u) × (anew layer old u ≡ new)
unfolding migrate_answer
found_unit layer old (Ok u) new h = (u, refl, cc)
found_unit layer old (Err f) new h = cc

-- the image that is made is accepted
accepts_anew : (layer : Map → List ℕ → List ℕ) (old : Image) (u : CUnit) →
    accept_answer layer (anew layer old u) (Ok u) ≡ Ok (record { params = old.params; unit = u; words = linked layer u old.params (sizes_of old.users); users = old.users })
unfolding accept_answer
accepts_anew layer old u = rw (same_all (linked layer u old.params (sizes_of old.users))) refl

pub migrated_accepted : (layer : Map → List ℕ → List ℕ) (old : Image) (front : Result CUnit SourceFault) (new : Image) → migrate_answer layer old front ≡ Ok new → IsAcceptedAnew layer old front new
migrated_accepted layer old front new h =
    let s = found_unit layer old front new h in
    record {
      unit = s.0;
      read = s.1;
      source = ap (λ (j : Image). j.source) (sym s.2);
      accepted = subst (λ (j : Image). accept_answer layer j front ≡ Ok (record { params = old.params; unit = s.0; words = linked layer s.0 old.params (sizes_of old.users); users = old.users })) s.2
          (subst (λ (r : Result CUnit SourceFault). accept_answer layer (anew layer old s.0) r ≡ Ok (record { params = old.params; unit = s.0; words = linked layer s.0 old.params (sizes_of old.users); users = old.users })) (sym s.1)
          (accepts_anew layer old s.0));
    }

-- the old words are not looked at
pub words_ignored : (layer : Map → List ℕ → List ℕ) (old : Image) (words : List ℕ) (front : Result CUnit SourceFault) → migrate_answer layer (record old { words = words }) front ≡ migrate_answer layer old front
unfolding migrate_answer
words_ignored layer old words front = refl
