-- Jumps, calls and returns, from where jumps lead.
use Rattle.std.proofs.Common.{◌≡◌, ℕ, ◌+◌, ◌*◌, ◌/◌, Some, refl, ap, subst}
use Rattle.mips_table.specs.declared.inst.Inst.TheVariants.{J, Jal, Jr}
use Rattle.mips_table.specs.declared.effect.Effect.TheVariants.{Set}
use Rattle.mips_table.specs.Effect.{next_address}
use Rattle.mips_table.specs.Device.{Idle}
use Rattle.mips_table.specs.Code.{Contents, with_reg, Behind, World, Sound, at_with, Reaches}
use Rattle.masm.specs.CodeAddresses.{CallsLead}
use Rattle.masm.proofs.RunsCompose.{joined, settled}
use Rattle.masm.proofs.JumpsLead.{led, jumped, after}

module _ (w : World) (f : Sound w) where
  calls : (k a : ℕ) (c : Contents) (d : Behind) → w.code k ≡ Some (Jal (a / 4)) → d.pending ≡ Idle → Reaches w 1 (at_with k c d) (at_with (a / 4) (with_reg c 31 (4 * (k + 1))) d)
  calls k a c d at idle = subst (λ v. Reaches w 1 (at_with k c d) (at_with (a / 4) (with_reg c 31 v) d)) (after w f (Jal (a / 4)) k at)
      (settled w 1 (a / 4) (at_with k c d) (with_reg c 31 (next_address (4 * k))) d idle (jumped w f (Jal (a / 4)) k (a / 4) 31 (next_address (4 * k)) c d at refl))

  pub calls_lead : CallsLead w
  calls_lead = record {
    jumps = λ k a c d at idle. settled w 1 (a / 4) (at_with k c d) c d idle (jumped w f (J (a / 4)) k (a / 4) 0 0 c d at refl);
    calls = calls;
    returns = λ k to c d at back idle. settled w 1 to (at_with k c d) c d idle (led w f (Jr 31) k to 0 0 c d at (ap (Set 0 0) back));
    across = λ k a m c d c' d' at idle run. joined w 1 m (at_with k c d) (at_with (a / 4) (with_reg c 31 (4 * (k + 1))) d) (at_with (k + 1) c' d') (calls k a c d at idle) run;
  }
