-- What is linked is accepted: its words are compared with themselves.
use Rattle.std.proofs.Common.{ℕ, ◌≡◌, List, Result, Ok, Err, refl, sym, ap, subst}
use Rattle.layer_map.specs.declared.params.Params.{Params}
use Rattle.layer_map.specs.Map.{Map}
use Rattle.boot_image.specs.Parts.{ImageParts as Image}
use Rattle.object_file.specs.Parts.{ObjectParts as Object}
use Rattle.c0_tree.specs.Tree.{CUnit}
use Rattle.c0_unit.specs.Code.{unit_words}
use Rattle.c0_types.specs.declared.source_fault.SourceFault.{SourceFault}
use Rattle.kernel_linker.specs.Linked.{linked, sizes_of}
use Rattle.kernel_linker.specs.Difference.{compared}
use Rattle.kernel_linker.specs.declared.difference.Difference.{Difference}
use Rattle.kernel_linker.specs.declared.fault.LinkFault.{LinkFault}
use Rattle.cvm_words.specs.Reading.{◌>>=◌}
use Rattle.kernel_linker.specs.Open.{unforged, open_answer}
use Rattle.kernel_linker.specs.Link.{fitting, link_answer}
use Rattle.kernel_linker.specs.Accept.{accept_answer}
use Rattle.kernel_linker.specs.Laws.{IsAccepted, OpenedUnitsAreTheirSources}
use Rattle.kernel_linker.proofs.SameWords.{same_all}

-- what is opened is the unit that the front came to
last : (c : Result (Unit {0}) Difference) (v u : CUnit) → (unforged c >>= λ same. Ok v) ≡ Ok u → v ≡ u
last (Ok x) v u h = cc
last (Err d) v u h = cc

pub opened_unit : OpenedUnitsAreTheirSources
unfolding open_answer
opened_unit o (Err f) u h = cc
opened_unit o (Ok v) u h = ap (λ (x : CUnit). Ok x) (last (compared o.words (unit_words v)) v u h)

-- the stages
stages : (fit : Result (Unit {0}) LinkFault) (opened : Result CUnit LinkFault) (made : CUnit → Image) (i : Image) → (fit >>= λ x. (opened >>= λ u. Ok (made u))) ≡ Ok i → (u : CUnit) × (opened ≡ Ok u) × (made u ≡ i)
stages (Err e) opened made i h = cc
stages (Ok x) (Err f) made i h = cc
stages (Ok x) (Ok u) made i h = (u, refl, cc)

-- the image of a unit
image_of : (layer : Map → List ℕ → List ℕ) → Object → Params → List (List ℕ) → CUnit → Image
image_of layer o p users u = record { params = p; form = 3; source = o.source; words = linked layer u p (sizes_of users); users = users }

-- it is accepted
accepts : (layer : Map → List ℕ → List ℕ) (o : Object) (p : Params) (users : List (List ℕ)) (u : CUnit) →
    accept_answer layer (image_of layer o p users u) (Ok u) ≡ Ok (record { params = p; unit = u; words = linked layer u p (sizes_of users); users = users })
unfolding accept_answer image_of
accepts layer o p users u = rw (same_all (linked layer u p (sizes_of users))) refl

pub linked_accepted : (layer : Map → List ℕ → List ℕ) (o : Object) (p : Params) (users : List (List ℕ)) (front : Result CUnit SourceFault) (i : Image) →
    link_answer layer o p users front ≡ Ok i → IsAccepted layer o p users front i
unfolding link_answer image_of
linked_accepted layer o p users front i h =
    let s = stages (fitting p users) (open_answer o front) (image_of layer o p users) i h in
    let unit : front ≡ Ok s.0 = opened_unit o front s.0 s.1 in
    record {
      unit = s.0;
      read = unit;
      source = ap (λ (j : Image). j.source) (sym s.2);
      accepted = subst (λ (j : Image). accept_answer layer j front ≡ Ok (record { params = p; unit = s.0; words = linked layer s.0 p (sizes_of users); users = users })) s.2
          (subst (λ (r : Result CUnit SourceFault). accept_answer layer (image_of layer o p users s.0) r ≡ Ok (record { params = p; unit = s.0; words = linked layer s.0 p (sizes_of users); users = users })) (sym unit)
          (accepts layer o p users s.0));
    }
