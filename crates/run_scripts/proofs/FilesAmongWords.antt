-- That the files which a command gets stand among its words, in order.
use Rattle.std.proofs.Common.{◌≡◌, ℕ, List, [], ◌∷◌, sym, subst}
use Rattle.run_scripts.specs.Command.{Command, boot, trace, save, resume, compile_user, compile_kernel, compile_program, link, migrate, sample, check, IsCommand}
use Rattle.run_scripts.specs.Served.{files_of}
use Rattle.run_scripts.specs.Shapes.{StandAmong, no_name, named, passed}

all_stand : (words : List (List ℕ)) → StandAmong words words
all_stand [] = no_name []
all_stand (w ∷ words) = named w words words (all_stand words)

-- as the words are spelled
spelled_so : {names words spelled : List (List ℕ)} → words ≡ spelled → StandAmong names spelled → StandAmong names words
spelled_so {names} e s = subst (λ (ws : List (List ℕ)). StandAmong names ws) (sym e) s

two : (w a b : List ℕ) (rest : List (List ℕ)) → StandAmong (a ∷ b ∷ []) (w ∷ a ∷ b ∷ rest)
two w a b rest = passed w _ _ (named a _ _ (named b _ _ (no_name rest)))

one : (w a : List ℕ) (rest : List (List ℕ)) → StandAmong (a ∷ []) (w ∷ a ∷ rest)
one w a rest = passed w _ _ (named a _ _ (no_name rest))

pub files_among : (words : List (List ℕ)) (c : Command) → IsCommand words c → StandAmong (files_of c) words
files_among words (boot b) is = spelled_so is.spelled (two _ b.image b.schedule _)
files_among words (trace t) is = spelled_so is.spelled (two _ t.boot.image t.boot.schedule _)
files_among words (save c) is = spelled_so is.spelled (two _ c.boot.image c.boot.schedule _)
files_among words (resume c) is =
    spelled_so is.spelled (passed _ _ _ (named c.boot.image _ _ (named c.boot.schedule _ _ (passed _ _ _ (passed _ _ _ (named c.file _ _ (no_name [])))))))
files_among words (compile_user c) is = spelled_so is.spelled (passed _ _ _ (one _ c.text _))
files_among words (compile_kernel c) is = spelled_so is.spelled (passed _ _ _ (one _ c.source _))
files_among words (compile_program c) is = spelled_so is.spelled (passed _ _ _ (one _ c.source _))
files_among words (link l) is = spelled_so is.spelled (passed _ _ _ (named l.object _ _ (named l.params _ _ (passed _ _ _ (all_stand l.users)))))
files_among words (migrate m) is = spelled_so is.spelled (one _ m.old _)
files_among words (sample x) is = no_name words
files_among words (check c) is = spelled_so is.spelled (one _ c.object _)
