-- Type by type.
use Rattle.std.proofs.Common.{arith}
use Rattle.c0_meaning.specs.Value.{zeros_of}
use Rattle.c0_meaning.specs.TypedState.{types_of}
use Rattle.c0_runs.proofs.RegionsApart.{words_by_types}
use Rattle.c0_runs.proofs.VariablesBegin.{zeros_zero, zeros_held}
use Rattle.c0_runs.proofs.laws.zeros_are_held.Goals as goal

pub returns : goal.returns
returns c = λ sc p layout m from ds opened fits zeros.
    let same = words_by_types sc.env.structs ds in
    zeros_held sc p layout opened m from (types_of ds) (zeros_of sc.env.structs ds) fits (zeros_zero sc.env.structs ds) (λ k le lt. zeros k le (omega (arith, lt, same)))
