-- The script of a load: the pages that it writes, in order.
use Rattle.std.specs.Prelude.{ℕ, if◌then◌else◌, List, [], ◌∷◌}
use Rattle.page_model.specs.Paging.{Pages}
use Rattle.cvm_outside.specs.Script.{Call, Wrote, scripts}
use Rattle.boot_run.specs.Loading.{words_of_page}

-- the page of a number is written to its sector, if it is one
abbrev pub page_write_script : Pages → ℕ → List Call
page_write_script p q = if p.live q then Wrote q (words_of_page p q) ∷ [] else []

-- THE SCRIPT OF A LOAD: the pages of the numbers below `most`
abbrev pub load_script : Pages → (most : ℕ) → List Call
load_script p most = scripts (page_write_script p) most
