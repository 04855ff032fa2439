-- Why a user's file has no words.
use Rattle.std.specs.Prelude.{◌≡◌, ◌≢◌, ◌%◌, ℕ}
use Rattle.system_files.specs.declared.fault.FileFault.{FileFault}
use Rattle.system_files.specs.declared.fault.FileFault.TheVariants.{Memory, UserTorn}

-- Why no words are answered: the length is no multiple of 4, or else want of memory.
abbrev pub IsUserFault : (user bytes : ℕ) → FileFault → Type 0
IsUserFault user bytes (UserTorn who count) = (who ≡ user) × (count ≡ bytes) × (bytes % 4 ≢ 0)
IsUserFault user bytes Memory = bytes % 4 ≡ 0
IsUserFault user bytes other = ⊥
