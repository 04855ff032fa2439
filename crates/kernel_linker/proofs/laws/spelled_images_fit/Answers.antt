use Rattle.std.proofs.Common.{refl}
use Rattle.kernel_linker.proofs.AcceptSteps.{spelled_params, spelled_users, spelled_sizes}
use Rattle.kernel_linker.proofs.laws.spelled_images_fit.Goals as goal

pub returns : goal.returns
returns c = λ i h. record { params = spelled_params i h; few = spelled_users i h; short = spelled_sizes i i.params i.users h refl refl }
