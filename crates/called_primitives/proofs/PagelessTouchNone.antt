-- A unit that calls no primitive which touches a page touches none: each of its dispatches.
use Rattle.std.proofs.Common.{◌≡◌, ◌≤◌, ℕ, ◌+◌, List, [], ◌∷◌, Bool, true, false, refl, ap₂, arith}
use Rattle.std.specs.Prelude.{if◌then◌else◌, pos}
use Rattle.layer_map.specs.declared.params.Params.{Params}
use Rattle.mips_table.specs.Arith.{signed}
use Rattle.mips_table.specs.Machine.{Console}
use Rattle.mips_table.specs.Flat.{Flat}
use Rattle.c0_tree.specs.Tree.{CUnit}
use Rattle.c0_meaning.specs.Value.{Values}
use Rattle.c0_meaning.specs.World.{Cost}
use Rattle.c0_meaning.specs.Execution.{Outcome, Done, Failed, NotYet, dispatch}
use Rattle.cvm_model.specs.Kernel.{Core, Changes}
use Rattle.cvm_model.specs.KernelMeaning.{Machines, machines_of, kernel_primitive, outcome_of, setting_of, kernel_meaning}
use Rattle.cvm_model.specs.Primitives.{KernelCall, VmGet, VmSet, VmSize, VmResize, VmWord, VmPut, VmCopy, ConPut, ConGet, ConLeft, primitive_number, Given, is_good, prim}
use Rattle.cvm_model.specs.Cvm.{System, dispatch_of}
use Rattle.cvm_model.specs.Invariant.{Dispatch}
use Rattle.cvm_model.specs.Systems.{UsePages}
use Rattle.called_primitives.specs.Calls.{calls_only}
use Rattle.called_primitives.specs.Kernels.{needs_no_page, TouchesNoPage, PagelessTouchNone}
use Rattle.called_primitives.proofs.AllowedCallsKeep.{Here, AreKept, KeptAt, dispatches_keep, by_primitive}

either_given : (b : Bool) (g h : Given) → g.pages ≡ 0 → h.pages ≡ 0 → (if b then g else h).pages ≡ 0
either_given true g h a b = a
either_given false g h a b = b

pageless_call : (most : ℕ) (asked : KernelCall) (users : List Flat) (o : Console) → needs_no_page (primitive_number asked) ≡ true → (prim most asked users o).pages ≡ 0
pageless_call most (VmGet u r) users o e = either_given (is_good most users (VmGet u r)) _ _ refl refl
pageless_call most (VmSet u r v) users o e = either_given (is_good most users (VmSet u r v)) _ _ refl refl
pageless_call most (VmSize u) users o e = either_given (is_good most users (VmSize u)) _ _ refl refl
pageless_call most (VmResize u pages) users o e = absurd (cc)
pageless_call most (VmWord u a) users o e = absurd (cc)
pageless_call most (VmPut u a v) users o e = absurd (cc)
pageless_call most (VmCopy u a v b n) users o e = absurd (cc)
pageless_call most (ConPut w) users o e = refl
pageless_call most ConGet users o e = refl
pageless_call most ConLeft users o e = refl

pageless_primitive : (n : ℕ) (args : Values) (m : Machines) → needs_no_page n ≡ true → (kernel_primitive n args m).pages ≡ 0
pageless_primitive n args m e = by_primitive needs_no_page (λ called. called.pages ≡ 0) m refl (λ asked may. pageless_call m.most asked m.users m.console may) n args e

abbrev NoPages : Cost → Type 0
NoPages k = k.pages ≡ 0

abbrev Anywhere : Here → Type 0
Anywhere c = Unit {0}

none_kept : AreKept needs_no_page NoPages Anywhere
none_kept = record {
  own = λ n. refl;
  sum = λ a b h g. ap₂ (λ i j. i + j) h g;
  written = λ c s q. tt;
  answered = λ c v q. tt;
  costs = λ n args c e. pageless_primitive n args c.world e;
  called = λ n args c e q. tt;
}

module _ (u : CUnit) (p : Params) (only : calls_only needs_no_page u ≡ true) where
  abbrev Kept : Outcome Machines Changes → Type 0
  Kept o = KeptAt needs_no_page NoPages Anywhere none_kept u p only o

  of_pages : (c : Core) (o : Outcome Machines Changes) → Kept o → (outcome_of c o).pages ≡ 0
  of_pages c (Done k d) q = q.0
  of_pages c (Failed k f d) q = q.0
  of_pages c (NotYet k d) q = q.0

  touch_none : TouchesNoPage (kernel_meaning u p)
  touch_none n c cause edata user = of_pages c (dispatch (setting_of u p) n cause edata user c.c0 (machines_of p c)) (dispatches_keep needs_no_page NoPages Anywhere none_kept u p only n c cause edata user tt)

-- of every history
no_pages : (y : System) (n : ℕ) (past : List Dispatch) → TouchesNoPage y.boot.meaning → UsePages y n 0 past
no_pages y n [] h = tt
no_pages y n (d ∷ past) h =
    let e : (dispatch_of y n d.cause d.edata d.before).pages ≡ 0 = h n d.before (pos d.cause) (signed d.edata) (pos d.before.current) in
    let few : (dispatch_of y n d.cause d.edata d.before).pages ≤ 0 = omega (arith, e) in
    (few, no_pages y n past h)

pub pageless_touch_none : PagelessTouchNone
pageless_touch_none = record { touches = touch_none; dispatches = no_pages }
