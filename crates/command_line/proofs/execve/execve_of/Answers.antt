use Rattle.std.proofs.Common.{None, codes, refl}
use Rattle.clap.specs.Words.{found_of}
use Rattle.command_line.proofs.Getters.{flag_is, lacks, text_is}
use Rattle.command_line.proofs.execve.execve_of.Goals as goal

pub returns-clause-command : goal.returns-clause-command
returns-clause-command c =
    let f = found_of c.args.given.now in (
      refl,
      record {
        file = text_is f (codes "file") _ c.in_ok-file.ensures;
        root = flag_is f (codes "root") _ c.get_flag-root.ensures.none c.get_flag-root.ensures.value c.get_flag-root.ensures.other;
        file_permitted = text_is f (codes "file-permitted") _ c.get_str-file_permitted.ensures;
        file_inheritable = text_is f (codes "file-inheritable") _ c.get_str-file_inheritable.ensures;
        file_effective = flag_is f (codes "file-effective") _ c.get_flag-file_effective.ensures.none c.get_flag-file_effective.ensures.value c.get_flag-file_effective.ensures.other;
      },
    )

pub returns-in_err-file-clause-lacking : goal.returns-in_err-file-clause-lacking
returns-in_err-file-clause-lacking c = lacks _ _ (text_is (found_of c.args.given.now) (codes "file") None c.in_err-file.ensures)
