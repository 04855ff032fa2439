-- Names that get their numbers one after another tell the first struct of each name.
use Rattle.std.proofs.Common.{◌≡◌, ◌+◌, ◌∷◌, ℕ, suc, Bool, true, false, cond, List, map, drop, Option, None, Some, add-one, refl, sym, ap, ◌∙◌, arith}
use Rattle.std.proofs.lemmas.List.{drop_more}
use Rattle.std.specs.Option.{option_or, option_map}
use Rattle.std.specs.Str.{bytes_eq}
use Rattle.c0_tree.specs.declared.tree.StructDef.{StructDef}
use Rattle.c0_tree.specs.View.{struct_view}
use Rattle.c0_meaning.specs.Env.{Shape, shape_of, first_named}
use Rattle.c0_name_check.specs.Names.{look, number_named}
use Rattle.c0_struct_sizes.proofs.unit.struct_numbers.Goals as goal

numbers_in : (b : Bool) (o : Option ℕ) (n : ℕ) (rest here : Option ℕ) (e : here ≡ cond b (Some n) rest) → option_or (option_or o (cond b (Some n) None)) rest ≡ option_or o here
numbers_in b (Some v) n rest here e = refl
numbers_in true None n rest here e = sym e
numbers_in false None n rest here e = sym e

first_number : (b : Bool) (n : ℕ) (s : Shape) (rest : Option (ℕ × Shape)) → option_map (λ f. f.0) (cond b (Some (n, s)) rest) ≡ cond b (Some n) (option_map (λ f. f.0) rest)
first_number true n s rest = refl
first_number false n s rest = refl

-- one more struct
names_step : (old new : Option ℕ) (s : Shape) (rest : List Shape) (n : ℕ) (q : List ℕ) → new ≡ option_or old (cond (bytes_eq s.text q) (Some n) None) →
    option_or new (number_named (λ s. s.text) q (n + 1) rest) ≡ option_or old (number_named (λ s. s.text) q n (s ∷ rest))
names_step old new s rest n q e =
    ap (λ (o : Option ℕ). option_or o (number_named (λ s. s.text) q (n + 1) rest)) e
    ∙ (ap (λ (k : ℕ). option_or (option_or old (cond (bytes_eq s.text q) (Some n) None)) (number_named (λ s. s.text) q k rest)) (add-one n)
    ∙ numbers_in (bytes_eq s.text q) old n (number_named (λ s. s.text) q (suc n) rest) (number_named (λ s. s.text) q n (s ∷ rest))
    (first_number (bytes_eq s.text q) n s (first_named (λ s. s.text) q (suc n) rest)))

pub loop-def-preserved : goal.loop-def-preserved
loop-def-preserved c =
    let structs : List StructDef = c.args.structs.now in
    let i : ℕ = c.loop-def.def-index in
    let rest : List StructDef = drop (i + 1) structs in
    let left : drop i structs ≡ c.def-item.result ∷ rest = drop_more structs i c.def-item.result c.loop-def-test.true ∙ ap (λ (d : StructDef). d ∷ rest) (sym c.def-item.is) in
    let text : c.as_slice.result.now ≡ c.def-item.result.name.bytes.items = c.as_slice.ensures.value in
    record {
      at = omega (arith, c.loop-def.invariant.at);
      names = λ q.
          names_step (look c.loop-def.names q) (look c.set_name.new.names q) (shape_of (struct_view c.def-item.result)) (map shape_of (map struct_view rest)) c.loop-def.number q
          (c.in_ok-set_name.ensures.names q ∙ ap (λ (t : List ℕ). option_or (look c.loop-def.names q) (cond (bytes_eq t q) (Some c.loop-def.number) None)) text)
          ∙ (ap (λ (ds : List StructDef). option_or (look c.loop-def.names q) (number_named (λ s. s.text) q c.loop-def.number (map shape_of (map struct_view ds)))) (sym left)
          ∙ c.loop-def.invariant.names q);
    }
