use Rattle.std.proofs.Common.{◌≡◌, List, Global, subst}
use Rattle.std.specs.declared.string.String.{String}
use Rattle.cvm_shell.specs.declared.command.Command.{Command}
use Rattle.run_scripts.specs.Command.{IsCommand, word_texts}
use Rattle.cvm_shell.specs.Views.{command_view}
use Rattle.cvm_outside.specs.Outside.{files as told_files, drive as told_drive}
use Rattle.cvm_shell.proofs.StageEnds.{bad_words_done}
use Rattle.cvm_shell.proofs.run_command.Goals as goal

pub returns-in-None : goal.returns-in-None
returns-in-None g c = bad_words_done _ _ _ _ c.in-None.ensures.none (c.say.ensures (told_files g.S.Shelf c.args.shelf.now) (told_drive g.D.Sectors c.args.disk.now))

-- the words are those of the command that was read
read_as : (words : List (String Global)) (x y : Command) → IsCommand (word_texts words) (command_view x) → x ≡ y → IsCommand (word_texts words) (command_view y)
read_as words x y is same = subst (λ (z : Command). IsCommand (word_texts words) (command_view z)) same is

pub returns-in-Some-Boot : goal.returns-in-Some-Boot
returns-in-Some-Boot g c = c.run_boot.ensures _ (read_as _ _ _ c.in-Some-Boot.ensures.found c.in-Some-Boot.field-0-is)

pub returns-in-Some-Trace : goal.returns-in-Some-Trace
returns-in-Some-Trace g c = c.run_boot-in-Some-Trace.ensures _ (read_as _ _ _ c.in-Some-Trace.ensures.found c.in-Some-Trace.field-0-is)

pub returns-in-Some-Save : goal.returns-in-Some-Save
returns-in-Some-Save g c = c.run_save.ensures _ (read_as _ _ _ c.in-Some-Save.ensures.found c.in-Some-Save.field-0-is)

pub returns-in-Some-Resume : goal.returns-in-Some-Resume
returns-in-Some-Resume g c = c.run_resume.ensures _ (read_as _ _ _ c.in-Some-Resume.ensures.found c.in-Some-Resume.field-0-is)

pub returns-in-Some-CompileUser : goal.returns-in-Some-CompileUser
returns-in-Some-CompileUser g c = c.compile_user.ensures _ (told_drive g.D.Sectors c.args.disk.now) (read_as _ _ _ c.in-Some-CompileUser.ensures.found c.in-Some-CompileUser.field-0-is)

pub returns-in-Some-CompileKernel : goal.returns-in-Some-CompileKernel
returns-in-Some-CompileKernel g c = c.compile_kernel.ensures _ (told_drive g.D.Sectors c.args.disk.now) (read_as _ _ _ c.in-Some-CompileKernel.ensures.found c.in-Some-CompileKernel.field-0-is)

pub returns-in-Some-CompileProgram : goal.returns-in-Some-CompileProgram
returns-in-Some-CompileProgram g c = c.compile_program.ensures _ (told_drive g.D.Sectors c.args.disk.now) (read_as _ _ _ c.in-Some-CompileProgram.ensures.found c.in-Some-CompileProgram.field-0-is)

pub returns-in-Some-Link : goal.returns-in-Some-Link
returns-in-Some-Link g c = c.link_system.ensures _ (told_drive g.D.Sectors c.args.disk.now) (read_as _ _ _ c.in-Some-Link.ensures.found c.in-Some-Link.field-0-is)

pub returns-in-Some-Migrate : goal.returns-in-Some-Migrate
returns-in-Some-Migrate g c = c.migrate_image.ensures _ (told_drive g.D.Sectors c.args.disk.now) (read_as _ _ _ c.in-Some-Migrate.ensures.found c.in-Some-Migrate.field-0-is)

pub returns-in-Some-Sample : goal.returns-in-Some-Sample
returns-in-Some-Sample g c = c.run_sample.ensures _ (told_files g.S.Shelf c.args.shelf.now) (read_as _ _ _ c.in-Some-Sample.ensures.found c.in-Some-Sample.field-0-is)

pub returns-in-Some-Check : goal.returns-in-Some-Check
returns-in-Some-Check g c = c.check_object.ensures _ (told_drive g.D.Sectors c.args.disk.now) (read_as _ _ _ c.in-Some-Check.ensures.found c.in-Some-Check.field-0-is)
