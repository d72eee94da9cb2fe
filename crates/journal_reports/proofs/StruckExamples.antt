-- Lines for what was struck out.
use Rattle.std.proofs.Common.{◌≡◌, [], ◌∷◌, ◌++◌, true, codes, refl}
use Rattle.std.specs.Fmt.{digits}
use Rattle.hex.specs.Hex.{encode_with}
use Rattle.cap_sets.specs.Capability.{names_from}
use Rattle.journal.specs.Lines.{happened, strike}
use Rattle.journal_reports.specs.Examples.{each, enrolment, founding}
use Rattle.journal_reports.specs.Struck.{struck_lines}
use Rattle.journal_reports.specs.Whole.{lines_for}

pub two_are : struck_lines each 7 2 ≡ codes "8  didn't happen\n9  struck out line 8\n"
unfolding digits names_from
two_are = refl

pub json_are : struck_lines (record each { json = true }) 7 2 ≡ codes "{\"event\":\"struck\",\"line\":8}\n{\"event\":\"strike\",\"line\":9}\n"
unfolding digits names_from
json_are = refl

pub four_are : struck_lines (record each { since = 9 }) 7 4 ≡ codes "9  struck out line 8\n10  didn't happen\n11  struck out line 10\n"
unfolding digits names_from
four_are = refl

pub whole_are : lines_for (record each { since = 2 }) 1 [] (happened founding ∷ happened enrolment ∷ strike ∷ happened enrolment ∷ [])
    ≡ codes "2  didn't happen\n3  struck out line 2\n" ++ codes "4  root enrolled ann of blue: author reviewer (67d596..)\n"
unfolding digits names_from encode_with
whole_are = refl

pub three_are : struck_lines each 7 3 ≡ codes "9  didn't happen\n10  struck out line 9\n"
unfolding digits names_from
three_are = refl
