-- A user program that is well formed is never stuck.
use Rattle.std.proofs.Common.{◌≡◌, ℕ, zero, suc, ◌^◌, Bool, true, false, nat_lt, List, [], ◌∷◌, length, map, Some, refl, sym, ap, subst, arith}
use Rattle.std.specs.Prelude.{ℤ, pos, negsuc, FitsSigned, slice_get, unwrap_or, position, ◌==◌, if◌then◌else◌}
use Rattle.std.specs.List.{list_all}
use Rattle.std.specs.Int.{w32}
use Rattle.std.proofs.lemmas.Bool.{and_parts, ltb-true, eqb-true}
use Rattle.c0_tree.specs.Primitives.{CPrimitive}
use Rattle.c0_tree.specs.Tree.{CDecl, CUnit}
use Rattle.c0_meaning.specs.Env.{Shape, typed_of}
use Rattle.c0_meaning.specs.Sound.{shapes}
use Rattle.mips_table.specs.Arith.{is_int}
use Rattle.c0_meaning.specs.Value.{Values, empty}
use Rattle.c0_meaning.specs.State.{first_state}
use Rattle.c0_meaning.specs.Operators.{faulted, stuck}
use Rattle.c0_meaning.specs.World.{Setting, journal_so_far}
use Rattle.c0_meaning.specs.Execution.{Outcome, Done, Failed, NotYet, call_first}
use Rattle.c0_meaning.specs.TypedState.{StoreTyping, types_of, AllFit, store_typing, IsScalar, AnswersFit, RunIsSafe}
use Rattle.c0_meaning.specs.UserProgram.{user_primitives, trap, is_main, Seen, up_to, outcome_seen}
use Rattle.c0_meaning.specs.RunLaws.{IsNotStuck, ProgramsAreSafe}
use Rattle.c0_meaning.proofs.RunsHaveAFirst.{position_found}
use Rattle.c0_meaning.proofs.CallsAreSafe.{first_is_typed, same_row}
use Rattle.c0_meaning.proofs.SafeRuns.{first_call_safe}

int_fits : (z : ℤ) → is_int z ≡ true → FitsSigned w32 z
int_fits (pos n) e = record { sfits = let h = ltb-true n (2 ^ 31) e in omega (arith, h) }
int_fits (negsuc n) e = record { sfits = let h = ltb-true n (2 ^ 31) e in omega (arith, h) }

first_fits : (answers : List ℤ) → list_all is_int answers ≡ true → FitsSigned w32 (unwrap_or (slice_get answers 0) (pos 0))
first_fits [] e = record { sfits = omega arith }
first_fits (z ∷ answers) e = int_fits z (and_parts (is_int z) (list_all is_int answers) e).0

trap_answers : (n : ℕ) (row : CPrimitive) (args : Values) (answers : List ℤ) → slice_get user_primitives n ≡ Some row → list_all is_int answers ≡ true → IsScalar row.answer (trap n args answers).answer
trap_answers zero row args answers e h = same_row _ row (trap 0 args answers).answer e (first_fits answers h)
trap_answers (suc n) row args answers e h = absurd (cc)

others_right : (answers : List ℤ) (n : ℕ) (args : Values) → list_all is_int answers ≡ true → list_all is_int (trap n args answers).world ≡ true
others_right [] n args e = refl
others_right (z ∷ answers) n args e = (and_parts (is_int z) (list_all is_int answers) e).1

traps_fit : AnswersFit (λ answers. list_all is_int answers) user_primitives trap
traps_fit = record { answer = λ n row args w e a r. trap_answers n row args w e r; world = λ n row args w e a r. others_right w n args r }

no_params : (structs : List Shape) (layout : StoreTyping) (ds : List CDecl) → length ds ≡ 0 → AllFit structs layout (types_of (map typed_of ds)) empty
no_params structs layout [] e = tt
no_params structs layout (d ∷ ds) e = absurd (omega (arith, e))

cut : (b : Bool) (s t : Seen) → IsNotStuck s.ending → IsNotStuck t.ending → IsNotStuck (if b then s else t).ending
cut true s t h g = h
cut false s t h g = g

seen_safe : (u : CUnit) (answers : List ℤ) (o : Outcome (List ℤ) ℤ) → RunIsSafe (λ ws. list_all is_int ws) u o → IsNotStuck (up_to answers (outcome_seen o)).ending
seen_safe u answers (Done k c) h = cut (nat_lt (length answers) (length (journal_so_far c))) _ (outcome_seen (Done k c)) tt tt
seen_safe u answers (Failed k (faulted f) c) h = cut (nat_lt (length answers) (length (journal_so_far c))) _ (outcome_seen (Failed k (faulted f) c)) tt tt
seen_safe u answers (Failed k stuck c) h = absurd h
seen_safe u answers (NotYet k c) h = cut (nat_lt (length answers) (length (journal_so_far c))) _ (outcome_seen (NotYet k c)) tt tt

pub programs_are_safe : ProgramsAreSafe
programs_are_safe u answers n well main ints =
    let p = position_found is_main u.functions main in
    let none = eqb-true (length p.0.function.params) 0 (and_parts (length p.0.function.params == 0) _ (and_parts _ _ p.0.right).1).0 in
    let setting : Setting (List ℤ) ℤ = record { unit = u; heap = 1024; stack = 1024; meaning = trap } in
    let typed = first_is_typed user_primitives u well in
    seen_safe u answers (call_first setting n (unwrap_or (position is_main u.functions) 0) empty (first_state u) answers)
    (subst (λ m. RunIsSafe (λ ws. list_all is_int ws) u (call_first setting n m empty (first_state u) answers)) (sym (ap (λ o. unwrap_or o 0) p.1))
    (first_call_safe (List ℤ) ℤ user_primitives setting (λ ws. list_all is_int ws) well traps_fit typed.0 n p.0.number p.0.function empty (first_state u) answers p.0.there typed.1 typed.2
    (no_params (shapes u) (store_typing u typed.0) p.0.function.params none) ints))
