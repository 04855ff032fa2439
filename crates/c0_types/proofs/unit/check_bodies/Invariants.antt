-- The bodies so far are checked, and the faults and nodes of the others are still to come.
use Rattle.std.proofs.Common.{◌≡◌, ◌<◌, ◌+◌, ◌-◌, ◌^◌, min, map}
use Rattle.c0_meaning.specs.Fault.{kept_all}
use Rattle.c0_name_check.specs.Met.{met_view}
use Rattle.c0_tree.specs.View.{function_view}
use Rattle.c0_body_check.proofs.InPlace.{done, rest}
use Rattle.c0_types.specs.Known.{unit_env}
use Rattle.c0_types.specs.Parts.{bodied, bodies_faults, functions_nodes}
use Rattle.c0_types.proofs.unit.check_bodies.Given as goal

abbrev pub invariant-loop-place : goal.invariant-loop-place
invariant-loop-place l = record {
  changed : map function_view l.functions ≡ done (bodied (unit_env l.declared l.initial.functions)) l.place (map function_view l.initial.functions);
  met :
      kept_all (met_view l.least) (bodies_faults (unit_env l.declared l.initial.functions) (rest l.place (map function_view l.initial.functions)))
      ≡ kept_all (met_view l.initial.least) (bodies_faults (unit_env l.declared l.initial.functions) (map function_view l.initial.functions));
  few : l.nodes < 2 ^ 32;
  nodes :
      min (l.nodes + functions_nodes (rest l.place (map function_view l.initial.functions))) (2 ^ 32 - 1)
      ≡ min (functions_nodes (map function_view l.initial.functions)) (2 ^ 32 - 1);
}
