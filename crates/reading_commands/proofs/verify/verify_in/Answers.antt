use Rattle.std.proofs.Common.{rules, ◌≡◌, ◌∙◌, Err, ap, inl, inr, subst}
use Rattle.std.specs.Io.Buffered.{reader_remaining}
use Rattle.database_files.specs.Extents.{user_version}
use Rattle.command_host.specs.Marks.{least_lines}
use Rattle.journal_verification.specs.Verified.{IsUnverified, IsVerified}
use Rattle.memory_database.specs.Copies.{over_copy}
use Rattle.memory_database.proofs.MemoryFacts.{copy_is_clean}
use Rattle.reading_commands.proofs.verify.verify_in.Goals as goal

pub returns-in-Ok-clause-verified : goal.returns-in-Ok-clause-verified
returns-in-Ok-clause-verified g c =
    let new = c.verify.new.office in
    let text = reader_remaining (λ noted. g.F.File.Read.remaining noted.file) c.args.text.now in
    record {
      log = c.in_ok-given.given.log.items;
      database = c.in_ok-given.given.database.items;
      given = c.in_ok-given.ensures.given;
      old = c.in_ok-conn.conn;
      new = new;
      office = c.in_ok-conn.ensures.office;
      looked = c.verify.ensures.looked;
      verified = subst (λ kept. IsVerified text over_copy kept (least_lines (user_version c.in_ok-given.given.database.items)) new c.in-Ok.verified) c.kept_of.ensures
          (subst (λ mark. IsVerified text over_copy c.kept_of.result mark new c.in-Ok.verified) (c.least_lines-mark.ensures ∙ ap least_lines (c.user_version.ensures ∙ ap user_version c.deref.ensures.value)) (c.in-Ok.ensures.verified (copy_is_clean new)));
    }

pub returns-clause-failed : goal.returns-clause-failed
returns-clause-failed g c =
    let new = c.verify.new.office in
    let text = reader_remaining (λ noted. g.F.File.Read.remaining noted.file) c.args.text.now in
    inr (inr (
      c.in-Err.why,
      record {
        log = c.in_ok-given.given.log.items;
        database = c.in_ok-given.given.database.items;
        given = c.in_ok-given.ensures.given;
        old = c.in_ok-conn.conn;
        new = new;
        office = c.in_ok-conn.ensures.office;
        looked = c.verify.ensures.looked;
        unverified = subst (λ kept. IsUnverified text over_copy kept (least_lines (user_version c.in_ok-given.given.database.items)) c.in_ok-conn.conn new c.in-Err.why) c.kept_of.ensures
            (subst (λ mark. IsUnverified text over_copy c.kept_of.result mark c.in_ok-conn.conn new c.in-Err.why) (c.least_lines-mark.ensures ∙ ap least_lines (c.user_version.ensures ∙ ap user_version c.deref.ensures.value)) (c.in-Err.ensures.unverified (copy_is_clean new)));
      },
      c.told_of_text.ensures.cause,
    ))

pub returns-in_err-conn-clause-failed : goal.returns-in_err-conn-clause-failed
returns-in_err-conn-clause-failed g c =
    let told : c.from_residual-in_err-conn.result ≡ Err c.in_err-conn.field-0.0 = search rules in
    rw told (inr (inl (c.in_ok-given.given.log.items, c.in_ok-given.given.database.items, c.in_ok-given.ensures.given, c.in_err-conn.ensures.none)))
