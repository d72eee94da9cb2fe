-- The schema of an office takes the texts of the reads of its row.
use Rattle.std.proofs.Common.{[], refl}
use Rattle.sqlite.specs.Listing.{understood}
use Rattle.sqlite_tied.specs.Compute.{everything}
use Rattle.office_rows.proofs.Sure.{IsSure}
use Rattle.office_store.specs.Schema.{office_schema}
use Rattle.office_founding.specs.declared.form.TheConstants.{OFFICE_ROW}
use Rattle.office_founding.specs.declared.office.TheConstants.{LISTED}

pub listed : IsSure office_schema LISTED.now []
unfolding understood everything
listed = record { text = record { whole = refl; given = refl; bare = refl; timeless = refl; query = (refl, refl, refl, refl) }; unlisted = refl }

pub office_row : IsSure office_schema OFFICE_ROW.now []
unfolding understood everything
office_row = record { text = record { whole = refl; given = refl; bare = refl; timeless = refl; query = (refl, refl, refl, refl) }; unlisted = refl }
