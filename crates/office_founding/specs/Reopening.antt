-- When two files hold an office.
use Rattle.sqlite_wal.specs.Recovery.{Image}
use Rattle.sqlite_trees.specs.Tree.{Trees}
use Rattle.sqlite.specs.Files.{HoldsDatabase}
use Rattle.office_words.specs.Tables.{Tables}
use Rattle.office_store.specs.Shown.{AreOffice}
use Rattle.office_founding.specs.Migration.{AreOldOffice}

-- a log and a database file hold the trees of these tables
pub record HoldsOffice (image : Image) (t : Tables) : Type 0 where
  pub trees : Trees
  pub office : AreOffice trees t
  pub held : ∥ HoldsDatabase image trees ∥₁

-- a log and a database file hold the trees of these tables under schema 1
pub record HoldsOldOffice (image : Image) (t : Tables) : Type 0 where
  pub trees : Trees
  pub office : AreOldOffice trees t
  pub held : ∥ HoldsDatabase image trees ∥₁
