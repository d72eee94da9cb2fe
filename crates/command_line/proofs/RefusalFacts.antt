-- Words that ask for no command.
use Rattle.std.proofs.Common.{◌≡◌, ◌≢◌, inl, inr, List, Option, Some, None, true, false, sym, ◌∙◌, bytes_eq, refl}
use Rattle.std.proofs.lemmas.Slice.Eq.{bytes_eq-Decides}
use Rattle.std.specs.Prelude.{codes}
use Rattle.clap.specs.Words.{HasKind, Kinds, Row, Text, first_of, kind_of, one_of}
use Rattle.clap.specs.declared.error.Error.{Error}
use Rattle.command_line.specs.declared.command.Command.TheVariants.{Trial, Check, Execve, Init, Desk, Serve, Migrate, Compare, Verify, Rebuild, History, Evidence}
use Rattle.command_line.specs.declared.fault.WordsFault.{WordsFault}
use Rattle.command_line.specs.declared.fault.WordsFault.TheVariants.{Help, Version, Refused, NoMemory}
use Rattle.command_line.specs.declared.command.EvidenceWords.{EvidenceWords}
use Rattle.command_line.specs.declared.command.HistoryWords.{HistoryWords}
use Rattle.command_line.specs.declared.command.InitWords.{InitWords}
use Rattle.command_line.specs.declared.command.JournalWords.{JournalWords}
use Rattle.command_line.specs.declared.command.JournalWords.TheVariants.{Unnamed, Named, Without}
use Rattle.command_line.specs.declared.command.Requests.TheVariants.{Count, UntilStopped}
use Rattle.command_line.specs.declared.command.ServeWords.{ServeWords}
use Rattle.command_line.specs.declared.command.VerifyWords.{VerifyWords}
use Rattle.command_line.specs.Meaning.{HasCompareValues, HasEvidenceValues, HasHistoryValues, HasInitValues, HasRebuildValues, HasServeValues, HasVerifyValues, Gives, IsJournalGiven, is_set, is_until_stopped}
use Rattle.command_line.specs.Refusals.{IsRefused, IsTold, NoJournalGiven, NoKeptSeal, NoLineGiven, NoNumberIn, NoRequests, NoSealGiven, NoneAskedFor}

-- two texts that don't compare equal are two
apart : (a b : Text) → bytes_eq a b ≡ false → a ≢ b
apart a b different same =
    let equal : true ≡ false = sym ((bytes_eq-Decides a b).1 same) ∙ different in
    cc

none≢some : {X : Type 0} (x : X) → None ≡ Some x → ⊥
none≢some x e = cc

-- `init` asks for nothing where a value that it needs isn't there
pub no_init : (rows : List Row) → ((words : InitWords) → ¬ HasInitValues rows words) → NoneAskedFor (codes "init") rows
no_init rows lacks Trial asked = asked
no_init rows lacks (Check file) asked = apart _ _ refl asked.0
no_init rows lacks (Execve words) asked = apart _ _ refl asked.0
no_init rows lacks (Init words) asked = lacks words asked.1
no_init rows lacks (Desk database journal) asked = apart _ _ refl asked.0
no_init rows lacks (Serve words) asked = apart _ _ refl asked.0
no_init rows lacks (Migrate database without) asked = apart _ _ refl asked.0
no_init rows lacks (Compare base new) asked = apart _ _ refl asked.0
no_init rows lacks (Verify words) asked = apart _ _ refl asked.0
no_init rows lacks (Rebuild database journal) asked = apart _ _ refl asked.0
no_init rows lacks (History words) asked = apart _ _ refl asked.0
no_init rows lacks (Evidence words) asked = apart _ _ refl asked.0

-- `desk` asks for nothing where a value that it needs isn't there
pub no_desk : (rows : List Row) → ((database : Text) (journal : JournalWords) → Gives rows (codes "database") database → ¬ IsJournalGiven rows journal)
    → NoneAskedFor (codes "desk") rows
no_desk rows lacks Trial asked = asked
no_desk rows lacks (Check file) asked = apart _ _ refl asked.0
no_desk rows lacks (Execve words) asked = apart _ _ refl asked.0
no_desk rows lacks (Init words) asked = apart _ _ refl asked.0
no_desk rows lacks (Desk database journal) asked = lacks database.now journal asked.1 asked.2
no_desk rows lacks (Serve words) asked = apart _ _ refl asked.0
no_desk rows lacks (Migrate database without) asked = apart _ _ refl asked.0
no_desk rows lacks (Compare base new) asked = apart _ _ refl asked.0
no_desk rows lacks (Verify words) asked = apart _ _ refl asked.0
no_desk rows lacks (Rebuild database journal) asked = apart _ _ refl asked.0
no_desk rows lacks (History words) asked = apart _ _ refl asked.0
no_desk rows lacks (Evidence words) asked = apart _ _ refl asked.0

-- `serve` asks for nothing where a value that it needs isn't there
pub no_serve : (rows : List Row) → ((words : ServeWords) → ¬ HasServeValues rows words) → NoneAskedFor (codes "serve") rows
no_serve rows lacks Trial asked = asked
no_serve rows lacks (Check file) asked = apart _ _ refl asked.0
no_serve rows lacks (Execve words) asked = apart _ _ refl asked.0
no_serve rows lacks (Init words) asked = apart _ _ refl asked.0
no_serve rows lacks (Desk database journal) asked = apart _ _ refl asked.0
no_serve rows lacks (Serve words) asked = lacks words asked.1
no_serve rows lacks (Migrate database without) asked = apart _ _ refl asked.0
no_serve rows lacks (Compare base new) asked = apart _ _ refl asked.0
no_serve rows lacks (Verify words) asked = apart _ _ refl asked.0
no_serve rows lacks (Rebuild database journal) asked = apart _ _ refl asked.0
no_serve rows lacks (History words) asked = apart _ _ refl asked.0
no_serve rows lacks (Evidence words) asked = apart _ _ refl asked.0

-- `compare` asks for nothing where a value that it needs isn't there
pub no_compare : (rows : List Row) → ((base new : Text) → ¬ HasCompareValues rows base new) → NoneAskedFor (codes "compare") rows
no_compare rows lacks Trial asked = asked
no_compare rows lacks (Check file) asked = apart _ _ refl asked.0
no_compare rows lacks (Execve words) asked = apart _ _ refl asked.0
no_compare rows lacks (Init words) asked = apart _ _ refl asked.0
no_compare rows lacks (Desk database journal) asked = apart _ _ refl asked.0
no_compare rows lacks (Serve words) asked = apart _ _ refl asked.0
no_compare rows lacks (Migrate database without) asked = apart _ _ refl asked.0
no_compare rows lacks (Compare base new) asked = lacks base.now new.now asked.1
no_compare rows lacks (Verify words) asked = apart _ _ refl asked.0
no_compare rows lacks (Rebuild database journal) asked = apart _ _ refl asked.0
no_compare rows lacks (History words) asked = apart _ _ refl asked.0
no_compare rows lacks (Evidence words) asked = apart _ _ refl asked.0

-- `verify` asks for nothing where a value that it needs isn't there
pub no_verify : (rows : List Row) → ((words : VerifyWords) → ¬ HasVerifyValues rows words) → NoneAskedFor (codes "verify") rows
no_verify rows lacks Trial asked = asked
no_verify rows lacks (Check file) asked = apart _ _ refl asked.0
no_verify rows lacks (Execve words) asked = apart _ _ refl asked.0
no_verify rows lacks (Init words) asked = apart _ _ refl asked.0
no_verify rows lacks (Desk database journal) asked = apart _ _ refl asked.0
no_verify rows lacks (Serve words) asked = apart _ _ refl asked.0
no_verify rows lacks (Migrate database without) asked = apart _ _ refl asked.0
no_verify rows lacks (Compare base new) asked = apart _ _ refl asked.0
no_verify rows lacks (Verify words) asked = lacks words asked.1
no_verify rows lacks (Rebuild database journal) asked = apart _ _ refl asked.0
no_verify rows lacks (History words) asked = apart _ _ refl asked.0
no_verify rows lacks (Evidence words) asked = apart _ _ refl asked.0

-- `rebuild` asks for nothing where a value that it needs isn't there
pub no_rebuild : (rows : List Row) → ((database journal : Text) → ¬ HasRebuildValues rows database journal) → NoneAskedFor (codes "rebuild") rows
no_rebuild rows lacks Trial asked = asked
no_rebuild rows lacks (Check file) asked = apart _ _ refl asked.0
no_rebuild rows lacks (Execve words) asked = apart _ _ refl asked.0
no_rebuild rows lacks (Init words) asked = apart _ _ refl asked.0
no_rebuild rows lacks (Desk database journal) asked = apart _ _ refl asked.0
no_rebuild rows lacks (Serve words) asked = apart _ _ refl asked.0
no_rebuild rows lacks (Migrate database without) asked = apart _ _ refl asked.0
no_rebuild rows lacks (Compare base new) asked = apart _ _ refl asked.0
no_rebuild rows lacks (Verify words) asked = apart _ _ refl asked.0
no_rebuild rows lacks (Rebuild database journal) asked = lacks database.now journal.now asked.1
no_rebuild rows lacks (History words) asked = apart _ _ refl asked.0
no_rebuild rows lacks (Evidence words) asked = apart _ _ refl asked.0

-- `history` asks for nothing where a value that it needs isn't there
pub no_history : (rows : List Row) → ((words : HistoryWords) → ¬ HasHistoryValues rows words) → NoneAskedFor (codes "history") rows
no_history rows lacks Trial asked = asked
no_history rows lacks (Check file) asked = apart _ _ refl asked.0
no_history rows lacks (Execve words) asked = apart _ _ refl asked.0
no_history rows lacks (Init words) asked = apart _ _ refl asked.0
no_history rows lacks (Desk database journal) asked = apart _ _ refl asked.0
no_history rows lacks (Serve words) asked = apart _ _ refl asked.0
no_history rows lacks (Migrate database without) asked = apart _ _ refl asked.0
no_history rows lacks (Compare base new) asked = apart _ _ refl asked.0
no_history rows lacks (Verify words) asked = apart _ _ refl asked.0
no_history rows lacks (Rebuild database journal) asked = apart _ _ refl asked.0
no_history rows lacks (History words) asked = lacks words asked.1
no_history rows lacks (Evidence words) asked = apart _ _ refl asked.0

-- `evidence` asks for nothing where a value that it needs isn't there
pub no_evidence : (rows : List Row) → ((words : EvidenceWords) → ¬ HasEvidenceValues rows words) → NoneAskedFor (codes "evidence") rows
no_evidence rows lacks Trial asked = asked
no_evidence rows lacks (Check file) asked = apart _ _ refl asked.0
no_evidence rows lacks (Execve words) asked = apart _ _ refl asked.0
no_evidence rows lacks (Init words) asked = apart _ _ refl asked.0
no_evidence rows lacks (Desk database journal) asked = apart _ _ refl asked.0
no_evidence rows lacks (Serve words) asked = apart _ _ refl asked.0
no_evidence rows lacks (Migrate database without) asked = apart _ _ refl asked.0
no_evidence rows lacks (Compare base new) asked = apart _ _ refl asked.0
no_evidence rows lacks (Verify words) asked = apart _ _ refl asked.0
no_evidence rows lacks (Rebuild database journal) asked = apart _ _ refl asked.0
no_evidence rows lacks (History words) asked = apart _ _ refl asked.0
no_evidence rows lacks (Evidence words) asked = lacks words asked.1

-- a value that isn't there is none
pub lacks_value : (r : Option Text) (t : Text) → r ≡ None → ¬ (r ≡ Some t)
lacks_value r t none there = none≢some t (sym none ∙ there)

-- what is reported of an error of one of these kinds is as it must be
pub refused_as_told : (kinds : Kinds) (found : Option (Text × List Row)) (error : Error) (fault : WordsFault)
    → HasKind kinds error → IsTold (kind_of error) fault → IsRefused kinds found fault
refused_as_told kinds found error (Help text) (inl memory) told = cc
refused_as_told kinds found error (Help text) (inr among) told = rw told at among
refused_as_told kinds found error (Version text) (inl memory) told = cc
refused_as_told kinds found error (Version text) (inr among) told = rw told at among
refused_as_told kinds found error (Refused text) (inl memory) told = absurd (told.2 memory)
refused_as_told kinds found error (Refused text) (inr among) told = inl (kind_of error, among, told.0, told.1)
refused_as_told kinds found error (NoMemory _) has told = tt

-- a text that names no line with a seal gives none
pub no_seal_given : (text : Text) → NoKeptSeal text → NoSealGiven (Some text)
no_seal_given text none None given = given
no_seal_given text none (Some kept) given = none kept given

-- a `--line` whose value is no such number gives none
pub no_line_given : (rows : List Row) (text : Text) → first_of (codes "line") rows ≡ Some text → NoNumberIn 1 18446744073709551615 (one_of (codes "line") rows) → NoLineGiven rows
no_line_given rows text there none None h = none≢some text (sym h ∙ there)
no_line_given rows text there none (Some n) h = none n h

-- where both are given, or neither, the words ask for no exchanges
pub both_given : (rows : List Row) (text : Text) → is_until_stopped rows ≡ true → first_of (codes "requests") rows ≡ Some text → NoRequests rows
both_given rows text set given (Count n) h =
    let bad : true ≡ false = sym set ∙ h.0 in
    cc
both_given rows text set given UntilStopped h = none≢some text (sym h.1 ∙ given)

pub none_given : (rows : List Row) → is_until_stopped rows ≡ false → NoNumberIn 1 1000000 (one_of (codes "requests") rows) → NoRequests rows
none_given rows unset none (Count n) h = none n h.1
none_given rows unset none UntilStopped h =
    let bad : false ≡ true = sym unset ∙ h.0 in
    cc

-- where a journal is named and it is said that there is to be none, there is no such choice
pub both_said : (rows : List Row) (text : Text) → first_of (codes "journal") rows ≡ Some text → is_set (first_of (codes "without-journal") rows) ≡ true
    → NoJournalGiven rows
both_said rows text given set Unnamed h = none≢some text (sym h.0 ∙ given)
both_said rows text given set (Named file) h =
    let bad : true ≡ false = sym set ∙ h.1 in
    cc
both_said rows text given set Without h = none≢some text (sym h.0 ∙ given)
