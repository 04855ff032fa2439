-- What the calls of a dispatch of a unit changed, replayed, gives each user's machine: no step of C0 but a primitive changes a machine.
use Rattle.std.proofs.Common.{◌≡◌, ℕ, ◌≤◌, Bool, true, false, cond, nat_eq, List, [], ◌∷◌, ◌++◌, length, Option, Some, None, refl, sym, ap, ◌∙◌, subst, arith, length-set}
use Rattle.std.proofs.lemmas.List.{append_assoc, append-nil}
use Rattle.std.specs.Prelude.{option_and_then}
use Rattle.mips_table.specs.Machine.{Console}
use Rattle.c0_meaning.specs.World.{all_entries}
use Rattle.c0_meaning.specs.PrimitiveCalls.{PrimitiveCall, world_after, entries_made}
use Rattle.c0_meaning.specs.Execution.{run_within}
use Rattle.c0_meaning.specs.Execution as c0_run
use Rattle.c0_meaning.specs.RunLaws.{PrimitivesAlone, stands_at}
use Rattle.mips_table.specs.Flat.{Flat}
use Rattle.cvm_model.specs.Kernel.{Core, Changes}
use Rattle.cvm_model.specs.Primitives.{KernelCall, VmGet, VmSet, VmSize, VmResize, VmWord, VmPut, VmCopy, ConPut, ConGet, ConLeft, is_good, granted, refused, unchanged, prim, user_of}
use Rattle.cvm_model.specs.KernelMeaning.{Machines, ints_of, primitive_called, kernel_primitive, setting_of, machines_of, outcome_of, UnitsReplay}
use Rattle.cvm_model.specs.KernelMeaning as kernel
use Rattle.cvm_model.specs.Journal.{changes_of, replay, CallsReplay}
use Rattle.cvm_model.proofs.ReplayedInParts.{joins}
use Rattle.cvm_model.proofs.KernelLaws.{joined, work_of, start_of}
use Rattle.cvm_model.proofs.PrimitiveReplays.{unchanged_case, primitives_replay}

-- the calls so far, replayed over the users' machines at the start, give those that stand now
record Kept (users : List Flat) (m : Machines) (calls : List (List Changes)) : Type 0 where
  count : length m.users ≡ length users
  each : (u : ℕ) → 1 ≤ u → u ≤ length users → replay (user_of users u) (changes_of u (all_entries calls)) ≡ Some (user_of m.users u)

-- a call changes no number of machines
granted_count : (users : List Flat) (o : Console) (c : KernelCall) → length (granted users o c).users ≡ length users
granted_count users o (VmGet u r) = refl
granted_count users o (VmSet u r v) = length-set _ _ _
granted_count users o (VmSize u) = refl
granted_count users o (VmResize u p) = length-set _ _ _
granted_count users o (VmWord u a) = refl
granted_count users o (VmPut u a v) = length-set _ _ _
granted_count users o (VmCopy u a v b n) = length-set _ _ _
granted_count users o (ConPut w) = refl
granted_count users o ConGet = refl
granted_count users o ConLeft = refl

pub prim_count : (most : ℕ) (c : KernelCall) (users : List Flat) (o : Console) → length (prim most c users o).users ≡ length users
prim_count most c users o = by (is_good most users c)
  where
    by : (b : Bool) → length (cond b (granted users o c) (unchanged users o (refused c) 0 0)).users ≡ length users
    by true = granted_count users o c
    by false = refl

changes_join : (u : ℕ) (a b : List Changes) → changes_of u (a ++ b) ≡ changes_of u a ++ changes_of u b
changes_join u [] b = refl
changes_join u (c ∷ a) b =
    ap (λ xs. cond (nat_eq c.user u) c.entries [] ++ xs) (changes_join u a b) ∙ sym (append_assoc (cond (nat_eq c.user u) c.entries []) (changes_of u a) (changes_of u b))

-- one call more
one_more : (users : List Flat) (m after : Machines) (calls : List (List Changes)) (c : Changes) → Kept users m calls → length after.users ≡ length m.users →
    ((u : ℕ) → 1 ≤ u → u ≤ length m.users → replay (user_of m.users u) (changes_of u (c ∷ [])) ≡ Some (user_of after.users u)) → Kept users after (calls ++ (c ∷ []) ∷ [])
one_more users m after calls c k same step = record {
  count = same ∙ k.count;
  each = λ u from to.
      let all : changes_of u (all_entries (calls ++ (c ∷ []) ∷ [])) ≡ changes_of u (all_entries calls) ++ changes_of u (c ∷ []) =
      ap (changes_of u) (joined calls ((c ∷ []) ∷ [])) ∙ changes_join u (all_entries calls) (c ∷ []) in
      let n : length m.users ≡ length users = k.count in
      ap (replay (user_of users u)) all ∙ joins (user_of users u) (changes_of u (all_entries calls)) (changes_of u (c ∷ []))
      ∙ ap (option_and_then (λ g. replay g (changes_of u (c ∷ [])))) (k.each u from to) ∙ step u from (omega arith);
}

called : (users : List Flat) (m : Machines) (calls : List (List Changes)) (o : Option KernelCall) → Kept users m calls → Kept users (primitive_called m o).world (calls ++ (primitive_called m o).entries ∷ [])
called users m calls None k = one_more users m m calls _ k refl (λ u from to. unchanged_case m.users u)
called users m calls (Some c) k = one_more users m _ calls _ k (prim_count m.most c m.users m.console) (λ u from to. primitives_replay m.most c m.users m.console u from to)

-- the calls that were made
made : (users : List Flat) (calls : List PrimitiveCall) (m : Machines) (before : List (List Changes)) → Kept users m before →
    Kept users (world_after kernel_primitive calls m) (before ++ entries_made kernel_primitive calls m)
made users [] m before k = subst (Kept users m) (sym (append-nil before)) k
made users (c ∷ rest) m before k =
    let r = kernel_primitive c.number c.args m in
    subst (Kept users (world_after kernel_primitive rest r.world)) (append_assoc before (r.entries ∷ []) (entries_made kernel_primitive rest r.world))
    (made users rest r.world (before ++ r.entries ∷ []) (called users m before (option_and_then (kernel.call_numbered c.number) (ints_of c.args)) k))

outcome : (c : Core) (o : c0_run.Outcome Machines Changes) → Kept c.users (stands_at o).world (stands_at o).calls → CallsReplay (outcome_of c o) c
outcome c (c0_run.Done used d) g = record { count = g.count; each = g.each }
outcome c (c0_run.Failed used f d) g = record { count = g.count; each = g.each }
outcome c (c0_run.NotYet used d) g = record { count = g.count; each = g.each }

pub units_replay : PrimitivesAlone Machines Changes → UnitsReplay
units_replay alone u ps n c cause edata user =
    let o = run_within (setting_of u ps) n (work_of u cause edata user) (start_of ps c) in
    let a = alone (setting_of u ps) (work_of u cause edata user) (start_of ps c) n in
    outcome c o (subst (λ w. Kept c.users w (stands_at o).calls) (sym a.1.world) (subst (Kept c.users (world_after kernel_primitive a.0 (machines_of ps c))) (sym a.1.calls)
    (made c.users a.0 (machines_of ps c) [] (record { count = refl; each = λ u from to. refl }))))
