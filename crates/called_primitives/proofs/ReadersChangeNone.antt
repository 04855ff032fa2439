-- A unit that calls no primitive which changes a machine makes no change: each of its dispatches.
use Rattle.std.proofs.Common.{◌≡◌, ℕ, ◌&&◌, List, [], ◌∷◌, ◌++◌, Bool, true, false, refl, sym, ap, ◌∙◌}
use Rattle.std.specs.Prelude.{◌==◌, if◌then◌else◌, ℤ}
use Rattle.std.specs.List.{list_all}
use Rattle.std.proofs.lemmas.Bool.{and_parts, and_from}
use Rattle.std.proofs.lemmas.List.{append-nil, append_assoc}
use Rattle.std.proofs.lemmas.List.Folds.{list_all-append}
use Rattle.layer_map.specs.declared.params.Params.{Params}
use Rattle.mips_table.specs.Machine.{Console}
use Rattle.mips_table.specs.Flat.{Flat}
use Rattle.c0_tree.specs.Tree.{CUnit}
use Rattle.c0_meaning.specs.Value.{Values}
use Rattle.c0_meaning.specs.World.{Called, Cost, all_entries, journal_so_far}
use Rattle.c0_meaning.specs.Execution.{Outcome, Done, Failed, NotYet, dispatch}
use Rattle.cvm_model.specs.Kernel.{Core, JournalEntry, Changes}
use Rattle.cvm_model.specs.KernelMeaning.{Machines, machines_of, kernel_primitive, outcome_of, setting_of}
use Rattle.cvm_model.specs.Primitives.{KernelCall, VmGet, VmSet, VmSize, VmResize, VmWord, VmPut, VmCopy, ConPut, ConGet, ConLeft, primitive_number, Given, is_good, prim}
use Rattle.cvm_model.specs.Journal.{changes_of}
use Rattle.called_primitives.specs.Calls.{calls_only}
use Rattle.called_primitives.specs.Kernels.{only_reads, ReadersChangeNone}
use Rattle.called_primitives.proofs.AllowedCallsKeep.{Here, AreKept, KeptAt, dispatches_keep, by_primitive}

-- A CALL THAT CHANGES NOTHING
abbrev is_none : List JournalEntry → Bool
is_none [] = true
is_none (e ∷ rest) = false

abbrev is_quiet : Changes → Bool
is_quiet c = is_none c.entries

-- the primitives that only read
abbrev IsQuiet : List Flat → Given → Type 0
IsQuiet users g = (g.changes.entries ≡ []) × (g.users ≡ users)

either_given : (b : Bool) (users : List Flat) (g h : Given) → IsQuiet users g → IsQuiet users h → IsQuiet users (if b then g else h)
either_given true users g h a b = a
either_given false users g h a b = b

quiet_call : (most : ℕ) (asked : KernelCall) (users : List Flat) (o : Console) → only_reads (primitive_number asked) ≡ true → IsQuiet users (prim most asked users o)
quiet_call most (VmGet u r) users o e = either_given (is_good most users (VmGet u r)) users _ _ (refl, refl) (refl, refl)
quiet_call most (VmSet u r v) users o e = absurd (cc)
quiet_call most (VmSize u) users o e = either_given (is_good most users (VmSize u)) users _ _ (refl, refl) (refl, refl)
quiet_call most (VmResize u pages) users o e = absurd (cc)
quiet_call most (VmWord u a) users o e = either_given (is_good most users (VmWord u a)) users _ _ (refl, refl) (refl, refl)
quiet_call most (VmPut u a v) users o e = absurd (cc)
quiet_call most (VmCopy u a v b n) users o e = absurd (cc)
quiet_call most (ConPut w) users o e = (refl, refl)
quiet_call most ConGet users o e = (refl, refl)
quiet_call most ConLeft users o e = (refl, refl)

-- what it comes to
record QuietCalled (m : Machines) (r : Called Machines Changes) : Type 0 where
  quiet : list_all is_quiet r.entries ≡ true
  same : r.world.users ≡ m.users

quiet_entries : (xs : List JournalEntry) → xs ≡ [] → (is_none xs && true) ≡ true
quiet_entries [] e = refl
quiet_entries (x ∷ xs) e = absurd (cc)

quiet_primitive : (n : ℕ) (args : Values) (m : Machines) → only_reads n ≡ true → QuietCalled m (kernel_primitive n args m)
quiet_primitive n args m e = by_primitive only_reads (QuietCalled m) m (record { quiet = refl; same = refl })
    (λ asked may. let q = quiet_call m.most asked m.users m.console may in record { quiet = quiet_entries _ q.0; same = q.1 }) n args e

-- the entries of calls, with one call more
entries_more : (calls : List (List Changes)) (xs : List Changes) → all_entries (calls ++ xs ∷ []) ≡ all_entries calls ++ xs
entries_more [] xs = append-nil xs
entries_more (x ∷ calls) xs = ap (λ ys. x ++ ys) (entries_more calls xs) ∙ sym (append_assoc x (all_entries calls) xs)

abbrev AnyCost : Cost → Type 0
AnyCost k = Unit {0}

-- no change so far: no entry, and the machines are these
abbrev Quiet : List Flat → Here → Type 0
Quiet us c = (list_all is_quiet (all_entries c.calls) ≡ true) × (c.world.users ≡ us)

quiet_kept : (us : List Flat) → AreKept only_reads AnyCost (Quiet us)
quiet_kept us = record {
  own = λ n. tt;
  sum = λ a b h g. tt;
  written = λ c s q. q;
  answered = λ c v q. q;
  costs = λ n args c e. tt;
  called = λ n args c e q.
      let g : Called Machines Changes = kernel_primitive n args c.world in
      let quiet : QuietCalled c.world g = quiet_primitive n args c.world e in
      (ap (list_all is_quiet) (entries_more c.calls g.entries) ∙ list_all-append is_quiet (all_entries c.calls) g.entries ∙ and_from _ _ q.0 quiet.quiet, quiet.same ∙ q.1);
}

-- what the calls changed of a user
none_changed : (u : ℕ) (xs : List Changes) → list_all is_quiet xs ≡ true → changes_of u xs ≡ []
none_changed u [] h = refl
none_changed u (c ∷ xs) h = let parts = and_parts (is_quiet c) (list_all is_quiet xs) h in by (c.user == u) c.entries parts.0 ∙ none_changed u xs parts.1
  where
    by : (b : Bool) (es : List JournalEntry) → is_none es ≡ true → (if b then es else []) ++ changes_of u xs ≡ changes_of u xs
    by true [] e = refl
    by true (x ∷ es) e = absurd (cc)
    by false es e = refl

module _ (u : CUnit) (p : Params) (only : calls_only only_reads u ≡ true) where
  abbrev Kept : List Flat → Outcome Machines Changes → Type 0
  Kept us o = KeptAt only_reads AnyCost (Quiet us) (quiet_kept us) u p only o

  quiet : (n : ℕ) (c : Core) (cause edata user : ℤ) → Kept c.users (dispatch (setting_of u p) n cause edata user c.c0 (machines_of p c))
  quiet n c cause edata user = dispatches_keep only_reads AnyCost (Quiet c.users) (quiet_kept c.users) u p only n c cause edata user (refl, refl)

  of_calls : (v : ℕ) (us : List Flat) (c : Core) (o : Outcome Machines Changes) → Kept us o → changes_of v (outcome_of c o).calls ≡ []
  of_calls v us c (Done k d) q = none_changed v (journal_so_far d) q.1.0
  of_calls v us c (Failed k f d) q = none_changed v (journal_so_far d) q.1.0
  of_calls v us c (NotYet k d) q = none_changed v (journal_so_far d) q.1.0

  of_users : (us : List Flat) (c : Core) (o : Outcome Machines Changes) → Kept us o → (outcome_of c o).after.users ≡ us
  of_users us c (Done k d) q = q.1.1
  of_users us c (Failed k f d) q = q.1.1
  of_users us c (NotYet k d) q = q.1.1

pub readers_change_none : ReadersChangeNone
readers_change_none u p only = record {
  alone = λ v n c cause edata user. of_calls u p only v c.users c (dispatch (setting_of u p) n cause edata user c.c0 (machines_of p c)) (quiet u p only n c cause edata user);
  same = λ n c cause edata user. of_users u p only c.users c (dispatch (setting_of u p) n cause edata user c.c0 (machines_of p c)) (quiet u p only n c cause edata user);
}
