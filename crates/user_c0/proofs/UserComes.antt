-- A user of a system has come to where its journal says: the replay of the journal is its machine.
use Rattle.std.specs.Prelude.{slice_get, slice_index_or, map}
use Rattle.std.proofs.Common.{◌≡◌, ℕ, zero, suc, ◌-◌, List, [], ◌∷◌, Some, sym, ap, ◌∙◌}
use Rattle.mips_table.specs.Flat.{Flat}
use Rattle.c0_tree.specs.Tree.{CUnit}
use Rattle.cvm_model.specs.Primitives.{no_flat, user_of}
use Rattle.cvm_model.specs.Cvm.{System, first_flat, first_core}
use Rattle.cvm_model.specs.Journal.{replay, Isolated}
use Rattle.user_c0.specs.Image.{image_words}
use Rattle.user_c0.specs.Events.{journal_of}
use Rattle.user_c0.specs.Systems.{RunsProgram, UsersCome}

-- a user's first machine is that of its words
started : (f : List ℕ → Flat) (users : List (List ℕ)) (i : ℕ) (d : Flat) (words : List ℕ) → slice_get users i ≡ Some words → slice_index_or (map f users) i d ≡ f words
started f [] i d words e = absurd (cc)
started f (w ∷ users) zero d words e = let same : w ≡ words = cc in ap f same
started f (w ∷ users) (suc i) d words e = started f users i d words e

first_is : (y : System) (n : ℕ) (u : CUnit) → RunsProgram y n u → user_of (first_core y).users n ≡ first_flat (image_words u)
first_is y n u runs = started first_flat y.boot.users (n - 1) no_flat (image_words u) runs

pub users_come : Isolated → UsersCome
users_come isolated = record {
  first = λ y n u runs. record { proper = tt; replayed = ap Some (sym (first_is y n u runs)) };
  come = λ y lines units turns n c u replays from to runs reached a. record {
    proper = a.proper;
    replayed =
        ap (λ f. replay f (journal_of a.events)) (sym (first_is y n u runs)) ∙ ap (replay (user_of (first_core y).users n)) (sym a.journal) ∙ isolated y lines units turns n c replays from to reached;
  };
}
