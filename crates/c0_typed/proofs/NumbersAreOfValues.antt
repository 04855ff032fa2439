-- The numbers in the tree are those that values have.
use Rattle.std.proofs.Common.{◌≡◌, ℕ, ◌*◌, ◌%◌, ◌^◌, ◌<◌, List, length, Option, refl, ap, ◌∙◌, arith}
use Rattle.std.specs.Prelude.{unwrap_or}
use Rattle.std.proofs.lemmas.List.{length-map}
use Rattle.std.proofs.lemmas.Nat.{mul-mod_first}
use Rattle.c0_meaning.specs.Ty.{Ty}
use Rattle.c0_meaning.specs.Env.{Shape, Typed}
use Rattle.c0_meaning.specs.Offsets.{OffsetsAreThose}
use Rattle.c0_meaning.specs.Sizes.{words_before}
use Rattle.c0_meaning.specs.TypedState.{types_of}
use Rattle.c0_meaning.specs.Words.{words}
use Rattle.c0_typed.specs.declared.sorted.Order.TheVariants.{Less, LessOrEqual, Greater, GreaterOrEqual}
use Rattle.c0_typed.specs.declared.sorted.Plain.TheVariants.{Sum, Difference, Product, Order, Equal, Different}
use Rattle.c0_typed.specs.Laws.{VariablesAreThose, FieldsAreThose, ElementsAreThose, OperatorsAreThose}
use Rattle.c0_typed.specs.Tree.{global, local}
use Rattle.c0_typed.specs.Typed.{words_ahead, field_types}

ahead_is : OffsetsAreThose → (structs : List Shape) (ts : List Ty) (n : ℕ) → n < length ts → words_ahead structs ts n ≡ words_before structs ts n
ahead_is law structs ts n h = ap (λ (o : Option ℕ). unwrap_or o 0) (law.at structs ts n h)

of_variables : OffsetsAreThose → (structs : List Shape) (ds : List Typed) (n : ℕ) → n < length ds → words_ahead structs (types_of ds) n ≡ words_before structs (types_of ds) n
of_variables law structs ds n h = let e = length-map ds (λ (d : Typed). d.ty) in ahead_is law structs (types_of ds) n (omega (arith, e, h))

pub variables_those : OffsetsAreThose → VariablesAreThose
variables_those law = record {
  of_globals = λ env n h. ap (λ (k : ℕ). global (4 * k % 2 ^ 32)) (of_variables law env.structs env.globals n h);
  of_locals = λ env n h. ap (λ (k : ℕ). local n k) (of_variables law env.structs env.locals n h);
}

pub fields_those : OffsetsAreThose → FieldsAreThose
fields_those law structs t n h = ap (λ (k : ℕ). 4 * k % 2 ^ 32) (ahead_is law structs (field_types structs t) n h)

bytes_before : (c w : ℕ) → c * (4 * w % 2 ^ 32) % 2 ^ 32 ≡ 4 * (c * w) % 2 ^ 32
bytes_before c w =
    let e : c * (4 * w % 2 ^ 32) ≡ (4 * w % 2 ^ 32) * c = grind arith in
    let f : 4 * w * c ≡ 4 * (c * w) = grind arith in
    ap (λ (k : ℕ). k % 2 ^ 32) e ∙ mul-mod_first (4 * w) c (2 ^ 32) ∙ ap (λ (k : ℕ). k % 2 ^ 32) f

pub elements_those : ElementsAreThose
elements_those = record {
  before = λ structs t n c. bytes_before c (words structs t);
  few = λ structs t n h. omega (arith, h);
  many = λ structs t n h. omega (arith, h);
}

pub operators_those : OperatorsAreThose
operators_those Sum a b = refl
operators_those Difference a b = refl
operators_those Product a b = refl
operators_those (Order Less) a b = refl
operators_those (Order LessOrEqual) a b = refl
operators_those (Order Greater) a b = refl
operators_those (Order GreaterOrEqual) a b = refl
operators_those Equal a b = refl
operators_those Different a b = refl
