-- The texts of the reads of the office's row are queries, whatever the schema.
use Rattle.std.proofs.Common.{refl}
use Rattle.sqlite_tied.specs.Compute.{everything}
use Rattle.sqlite_resolve.specs.Compile.{first, returning}
use Rattle.office_rows.specs.Queries.{IsQuery}
use Rattle.office_rows.proofs.Queries.{is_query}
use Rattle.office_founding.specs.declared.form.TheConstants.{OFFICE_ROW}
use Rattle.office_founding.specs.declared.office.TheConstants.{LISTED}

pub listed : IsQuery LISTED.now
unfolding everything first returning
listed = is_query LISTED.now _ (record { is = refl; bare = λ schema base. refl })

pub office_row : IsQuery OFFICE_ROW.now
unfolding everything first returning
office_row = is_query OFFICE_ROW.now _ (record { is = refl; bare = λ schema base. refl })
