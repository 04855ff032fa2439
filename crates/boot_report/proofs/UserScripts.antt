-- Registers in a control block, and the script of a user.
use Rattle.std.proofs.Common.{◌≡◌, ℕ, zero, suc, ◌+◌, ◌-◌, ◌*◌, ◌≤◌, ◌<◌, List, [], ◌∷◌, Bool, Option, Some, None, take, drop, get_or, refl, sym, ap, ◌∙◌, arith, get_or-drop, get_or-take}
use Rattle.std.specs.Prelude.{◌≢◌}
use Rattle.mips_table.specs.Machine.{State}
use Rattle.mips_machine.specs.Machine.{Held, state_of}
use Rattle.layer_map.specs.Map.{Map}
use Rattle.cvm_outside.specs.Outside.{Outside, Files, Output, Drive}
use Rattle.cvm_outside.specs.Script.{Printed, Who, Puts, Performs, WritesNoSector}
use Rattle.cvm_outside.proofs.ScriptsFollow.{both, first}
use Rattle.cvm_outside.proofs.RowsPut.{performed, same_script, quiet_both, quiet_scripts}
use Rattle.boot_report.specs.Texts.{shown_cpu, pages_in, processor_rows}
use Rattle.boot_report.specs.Resident.{page_reads}
use Rattle.boot_report.specs.declared.fault.ReportFault.{ReportFault}
use Rattle.boot_report.specs.declared.fault.ReportFault.TheVariants.{Disk, Sink}
use Rattle.boot_report.specs.Scripts.{of_report, page_script, pages_script, user_script}
use Rattle.boot_report.proofs.PagesByLines.{reads_quiet}

pub register_in_block : (memory : List ℕ) (b r : ℕ) → 1 ≤ r → r ≤ 31 → get_or memory (b + r) 0 ≡ get_or (0 ∷ take 31 (drop (b + 1) memory)) r 0
register_in_block memory b zero some few = absurd (omega arith)
register_in_block memory b (suc k) some few =
    let lt : k < 31 = omega arith in
    let e : b + suc k ≡ b + 1 + k = omega arith in
    ap (λ i. get_or memory i 0) e ∙ sym (get_or-drop (b + 1) memory k 0) ∙ sym (get_or-take 31 (drop (b + 1) memory) k 0 lt)

-- the rows of a user's processor are put, and its pages are performed
module _ (m : Map) (held : Held) (told : Option (List (List ℕ))) (runs : Bool) (u pages most : ℕ) (pages_are : pages ≡ pages_in m held.hardware.memory u) (most_is : most ≡ m.params.pages)
    (shelf : Files) (sink mid resink : Output) (disk redisk : Drive) where
  user_is : Printed (Some (processor_rows u pages (shown_cpu held runs u))) ∷ pages_script m (state_of held []) told ((u - 1) * most) pages ≡ user_script m held told runs u
  user_is = ap (λ n. Printed (Some (processor_rows u pages (shown_cpu held runs u))) ∷ pages_script m (state_of held []) told ((u - 1) * n) pages) most_is
      ∙ ap (λ n. Printed (Some (processor_rows u n (shown_cpu held runs u))) ∷ pages_script m (state_of held []) told ((u - 1) * m.params.pages) n) pages_are

  pub user_performs : (blamed : Option Who) → Puts (processor_rows u pages (shown_cpu held runs u)) sink mid None →
      Performs (pages_script m (state_of held []) told ((u - 1) * most) pages) (record { shelf = shelf; sink = mid; disk = disk }) (record { shelf = shelf; sink = resink; disk = redisk }) blamed →
      Performs (user_script m held told runs u) (record { shelf = shelf; sink = sink; disk = disk }) (record { shelf = shelf; sink = resink; disk = redisk }) blamed
  user_performs blamed puts then = same_script _ _ _ _ blamed user_is
      (both (Printed (Some (processor_rows u pages (shown_cpu held runs u))) ∷ []) _ _ _ _ blamed (performed (Some (processor_rows u pages (shown_cpu held runs u))) _ shelf disk sink mid None refl puts) then)

  pub user_breaks : (whom : Who) → Puts (processor_rows u pages (shown_cpu held runs u)) sink mid (Some whom) →
      Performs (user_script m held told runs u) (record { shelf = shelf; sink = sink; disk = disk }) (record { shelf = shelf; sink = mid; disk = disk }) (Some whom)
  user_breaks whom puts = same_script _ _ _ _ (Some whom) user_is
      (first (Printed (Some (processor_rows u pages (shown_cpu held runs u))) ∷ []) _ _ _ whom (performed (Some (processor_rows u pages (shown_cpu held runs u))) _ shelf disk sink mid (Some whom) refl puts))

-- reports write no sector
pub page_quiet : (m : Map) (s : State) (told : Option (List (List ℕ))) (q p : ℕ) → WritesNoSector (page_script m s told q p)
page_quiet m s told q p = quiet_both (page_reads m s q) _ (reads_quiet m s q) tt

pub user_quiet : (m : Map) (held : Held) (told : Option (List (List ℕ))) (runs : Bool) (u : ℕ) → WritesNoSector (user_script m held told runs u)
user_quiet m held told runs u = quiet_scripts (λ p. page_script m (state_of held []) told ((u - 1) * m.params.pages + p) p) (λ p. page_quiet m (state_of held []) told ((u - 1) * m.params.pages + p) p) (pages_in m held.hardware.memory u)

-- the same sectors are told
pub told_here : (m : Map) (held : Held) (told retold : Option (List (List ℕ))) (runs : Bool) (u : ℕ) (old new : Outside) (blamed : Option Who) → told ≡ retold → Performs (user_script m held told runs u) old new blamed → Performs (user_script m held retold runs u) old new blamed
told_here m held told retold runs u old new blamed e p = same_script _ _ old new blamed (ap (λ t. user_script m held t runs u) e) p

-- each fault of a report is somebody's
pub somebody : (e : ReportFault) → of_report e ≢ None
somebody Disk e = absurd (cc)
somebody Sink e = absurd (cc)
