use Rattle.std.proofs.Common.{◌≡◌, ◌++◌, drop}
use Rattle.std.specs.Prelude.{string_bytes}
use Rattle.review_sheet.specs.Layout.{spaced}
use Rattle.office_words.specs.WordTables.{words_among}
use Rattle.journal_reports.proofs.line.push_among.Given as goal

abbrev pub invariant-loop-role : goal.invariant-loop-role
invariant-loop-role l = string_bytes l.text ++ spaced (words_among l.roles (drop l.role-index l.among)) ≡ string_bytes l.initial.text ++ spaced (words_among l.roles l.among)
