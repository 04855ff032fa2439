-- What a script leaves that was performed, by what it tells and stores.
use Rattle.std.specs.Prelude.{Option, Some, None, IfSome}
use Rattle.std.specs.Option.{option_map}
use Rattle.std.specs.Io.KnownBytes.{append_known}
use Rattle.std.proofs.Common.{◌≡◌, ℕ, List, [], ◌∷◌, ◌++◌, ap, ◌∙◌, subst}
use Rattle.cvm_outside.specs.Told.{retold}
use Rattle.cvm_outside.specs.Outside.{Outside, Drive, Output}
use Rattle.cvm_outside.specs.Script.{Call, Printed, Stored, Performs, done as all_done, goes_on, sectors_after}
use Rattle.cvm_outside.specs.ScriptLaws.{ScriptsTell, ScriptsStore, PrintedBy}
use Rattle.run_scripts.proofs.ScriptsTell.{Tells}

-- the text that goes on from what stood before
pub record Says (before after : List ℕ) (old new : Outside) : Type 0 where
  pub text : List ℕ
  pub is : after ≡ before ++ text
  pub printed : new.sink.text ≡ append_known old.sink.text text

pub says_text : ScriptsTell → (a : List Call) (old mid new : Outside) (before after : List ℕ) → Tells a before after → mid.sink ≡ old.sink → Performs a mid new None → Says before after old new
says_text tell a old mid new before after h k p = record {
  text = h.text;
  is = h.is;
  printed =
      subst (λ (m : Option (List ℕ)). IfSome m (PrintedBy None mid.sink.text new.sink.text)) h.told (tell a mid new None p)
      ∙ ap (λ (o : Output). append_known o.text h.text) k;
}

-- the sectors
pub leaves_sectors : ScriptsStore → (a : List Call) (old mid new : Outside) (before after : List (List ℕ)) → old.disk.sectors ≡ Some before → sectors_after a before ≡ after → mid.disk ≡ old.disk →
    Performs a mid new None → new.disk.sectors ≡ Some after
leaves_sectors store a old mid new before after e s k p =
    store a mid new p ∙ ap (λ (d : Drive). option_map (sectors_after a) d.sectors) k ∙ ap (option_map (sectors_after a)) e ∙ ap (λ (x : List (List ℕ)). Some x) s

-- a file, and a row behind it
pub file_then_row : (name bytes row : List ℕ) (old new : Outside) → Performs (Stored name bytes ∷ Printed (Some row) ∷ []) old new None →
    new.shelf.file name ≡ retold (old.shelf.file name) bytes
file_then_row name bytes row old new (goes_on _ _ _ mid _ _ d (goes_on _ _ _ two _ _ e (all_done _))) = ap (λ (o : Outside). o.shelf.file name) e.1 ∙ d.1
