use Rattle.c0_expr_runs.proofs.AreasHold.{area}
use Rattle.c0_expr_runs.proofs.laws.areas_hold.Goals as goal

pub returns : goal.returns
returns c = λ primitives u formed f number there addresses w p room spread objects.
    area primitives u formed ((c.units_are_typed_or_faulty.ensures primitives u).1 formed.typed) c.words_are_those_of_the_parts.ensures c.declared_types_have_words.ensures c.parts_of_a_type_are_apart.ensures f number there addresses w p room spread objects
