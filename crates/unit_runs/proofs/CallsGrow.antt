-- A call that made one entry, behind others.
use Rattle.std.proofs.Common.{◌≡◌, List, [], ◌∷◌, ◌++◌, refl, sym, ap, ◌∙◌, append_assoc}
use Rattle.c0_meaning.specs.World.{all_entries}

-- one entry more
pub one_entry : {E : Type 0} (calls : List (List E)) (entry : E) → all_entries (calls ++ (entry ∷ []) ∷ []) ≡ all_entries calls ++ entry ∷ []
one_entry [] entry = refl
one_entry (entries ∷ rest) entry = ap (λ es. entries ++ es) (one_entry rest entry) ∙ sym (append_assoc entries (all_entries rest) (entry ∷ []))
