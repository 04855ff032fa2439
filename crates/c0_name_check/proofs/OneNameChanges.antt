-- A name that is set in a map changes what the map says of that name alone.
use Rattle.std.proofs.Common.{◌≡◌, ℕ, Bool, true, false, cond, List, Option, Some, None, refl, sym, ap, ◌∙◌, subst, bytes_eq}
use Rattle.std.specs.Option.{option_or}
use Rattle.std.specs.Cmp.Lexicographic.{bytes_decides, nat_list_eq_equiv}
use Rattle.std.specs.Map.{lookup, IsKeyTest, AreApart, KeepsOthers}
use Rattle.std.specs.HashMap.{HashMap}
use Rattle.std.specs.HashMap as hash
use Rattle.std.specs.declared.vec.Vec.{Vec}

module _ {K : Type 0} (eq : K → K → Bool) (test : K → Bool) where
  others : {X : Type 0} (old new : List (K × X)) → KeepsOthers eq test old new → (other : K → Bool) → IsKeyTest eq other → AreApart test other → lookup other new ≡ lookup other old
  unfolding KeepsOthers
  others old new h = h

unequal : (bs cs ks : List ℕ) → bytes_eq bs cs ≡ false → bytes_eq bs ks ≡ true → bytes_eq cs ks ≡ false
unequal bs cs ks n y = nat_list_eq_equiv.symm cs ks ∙ sym (nat_list_eq_equiv.congr bs ks cs y) ∙ n

right_none : {X : Type 0} (o : Option X) → o ≡ option_or o None
right_none None = refl
right_none (Some x) = refl

-- what a map says of a name
abbrev at : {A X S : Type 0} → HashMap (Vec ℕ A) X S → List ℕ → Option X
at names q = hash.get_by (λ k. bytes_eq q k.items) names

-- a name that is new
pub look-set_name : {A X S : Type 0} (text : List ℕ) (old new : HashMap (Vec ℕ A) X S) (value : X)
    → hash.UpdatesBy (λ x y. bytes_eq x.items y.items) (λ k. bytes_eq text k.items) old new (Some value)
    → hash.get_by (λ k. bytes_eq text k.items) old ≡ None → (q : List ℕ)
    → hash.get_by (λ k. bytes_eq q k.items) new ≡ option_or (hash.get_by (λ k. bytes_eq q k.items) old) (cond (bytes_eq text q) (Some value) None)
look-set_name {A} {X} {S} text old new value h fresh q = by_test (bytes_eq text q) refl
  where
    by_test : (b : Bool) → bytes_eq text q ≡ b → at new q ≡ option_or (at old q) (cond (bytes_eq text q) (Some value) None)
    by_test true e =
        let same : text ≡ q = (bytes_decides text q).0 e in
        subst (λ l. at new l ≡ Some value) same h.1
        ∙ sym (ap (λ o. option_or o (cond (bytes_eq text q) (Some value) None)) (subst (λ l. at old l ≡ None) same fresh)
        ∙ ap (λ b. cond b (Some value) None) e)
    by_test false e =
        others _ _ _ _ h.3 _ (λ x y. nat_list_eq_equiv.congr q x.items y.items) (λ k. unequal text q k.items e)
        ∙ (right_none (at old q) ∙ sym (ap (λ b. option_or (at old q) (cond b (Some value) None)) e))

-- the same, where the key that was set holds the name's bytes
pub look-set_key : {A X S : Type 0} (key text : List ℕ) (old new : HashMap (Vec ℕ A) X S) (value : X) → key ≡ text
    → hash.UpdatesBy (λ x y. bytes_eq x.items y.items) (λ k. bytes_eq key k.items) old new (Some value)
    → hash.get_by (λ k. bytes_eq text k.items) old ≡ None → (q : List ℕ)
    → hash.get_by (λ k. bytes_eq q k.items) new ≡ option_or (hash.get_by (λ k. bytes_eq q k.items) old) (cond (bytes_eq text q) (Some value) None)
look-set_key key text old new value e h =
    look-set_name text old new value (subst (λ t. hash.UpdatesBy (λ x y. bytes_eq x.items y.items) (λ k. bytes_eq t k.items) old new (Some value)) e h)
