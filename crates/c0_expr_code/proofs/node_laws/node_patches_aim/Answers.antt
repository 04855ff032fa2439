use Rattle.c0_expr_code.proofs.PatchedIsTestCode.{node_patches, node_within}
use Rattle.c0_expr_code.proofs.node_laws.node_patches_aim.Goals as goal

pub returns-clause-aims : goal.returns-clause-aims
returns-clause-aims c = node_patches

pub returns-clause-within : goal.returns-clause-within
returns-clause-within c = node_within
