use Rattle.std.proofs.Common.{[], refl}
use Rattle.office_words.specs.declared.fault.Fault.TheVariants.{Disk, Full}
use Rattle.office_store.specs.Refusing.{deletes_hold}
use Rattle.office_policy.specs.Examples.{web}
use Rattle.example_tests.proofs.Failing.{is_release, memory_lacks, takes_no_place}
use Rattle.example_tests.proofs.examples.stores.examples_of_refused_writes.Goals as goal

pub returns-clause-memory : goal.returns-clause-memory
returns-clause-memory g c = λ conn rest shows. record {
  write = deletes_hold web;
  makes = refl;
  over = conn;
  now = refl;
  committed = refl;
  idle = rest.idle;
  shows = shows;
  refused = (conn, memory_lacks g.S.Store conn rest _ []);
}

pub returns-clause-room : goal.returns-clause-room
returns-clause-room g c = λ conn refuses. takes_no_place g.S.Store refuses.write (is_release web refuses.write _ _ refuses.makes refl refl) refuses.over Full refuses.refused

pub returns-clause-disk : goal.returns-clause-disk
returns-clause-disk g c = λ conn refuses. takes_no_place g.S.Store refuses.write (is_release web refuses.write _ _ refuses.makes refl refl) refuses.over Disk refuses.refused

pub returns-clause-form : goal.returns-clause-form
returns-clause-form g c = λ conn h e refuses. refuses.refused
