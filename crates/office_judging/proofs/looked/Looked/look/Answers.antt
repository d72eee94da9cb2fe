use Rattle.std.proofs.Common.{Some, sym, ap}
use Rattle.sqlite.specs.Held.{state}
use Rattle.office_judging.proofs.Judging.{read_as}
use Rattle.office_judging.proofs.LookedBack.{author_back, brief_back, issued_back, none_back}
use Rattle.office_judging.proofs.Unread.{found_unread}
use Rattle.office_judging.proofs.looked.Looked.look.Goals as goal

pub returns-then-has-clause-read : goal.returns-then-has-clause-read
returns-then-has-clause-read g c =
    found_unread (state g.S.Store c.args.conn.now) tt _ c.requires.idle c.requires.is_open (g.met.S.Store.settled c.args.conn.now.store)
    (λ t h lawful same told. told)

pub returns-in_ok-is_author-in-Authorship-clause-read : goal.returns-in_ok-is_author-in-Authorship-clause-read
returns-in_ok-is_author-in-Authorship-clause-read g c =
    read_as (state g.S.Store c.args.conn.now) (state g.S.Store c.is_author.new.conn) _ _ c.in_ok-is_author-in-Authorship.field-0 tt
    (λ t tells h lawful same told. record {
      summary = told.summary;
      revision = told.revision;
      is_author = ap Some (sym (author_back h lawful t same c.profile_in-name.result.now _ c.profile_in-name.ensures c.args.caller.now.name c.in_ok-is_author-in-Authorship.field-0 tells));
      issued = told.issued;
      brief = told.brief;
      no_profile = told.no_profile;
      held = told.held;
    })
    c.in_ok-is_author-in-Authorship.ensures.read

pub returns-in_ok-issued-in-Issued-clause-read : goal.returns-in_ok-issued-in-Issued-clause-read
returns-in_ok-issued-in-Issued-clause-read g c =
    read_as (state g.S.Store c.args.conn.now) (state g.S.Store c.issued.new.conn) _ _ c.in_ok-issued-in-Issued.field-0 tt
    (λ t tells h lawful same told. record {
      summary = told.summary;
      revision = told.revision;
      is_author = told.is_author;
      issued = ap Some (sym (issued_back h lawful t same c.profile_in-name.result.now _ c.profile_in-name.ensures c.in_ok-issued-in-Issued.field-0 tells));
      brief = told.brief;
      no_profile = told.no_profile;
      held = told.held;
    })
    c.in_ok-issued-in-Issued.ensures.read

pub returns-in_ok-issued_brief-in-Brief-clause-read : goal.returns-in_ok-issued_brief-in-Brief-clause-read
returns-in_ok-issued_brief-in-Brief-clause-read g c =
    read_as (state g.S.Store c.args.conn.now) (state g.S.Store c.issued_brief.new.conn) _ _ c.in_ok-issued_brief-in-Brief.field-0 tt
    (λ t tells h lawful same told. record {
      summary = told.summary;
      revision = told.revision;
      is_author = told.is_author;
      issued = told.issued;
      brief = ap Some (sym (brief_back h lawful t same c.profile_in-name.result.now _ c.profile_in-name.ensures c.in_ok-issued_brief-in-Brief.field-0 tells));
      no_profile = told.no_profile;
      held = told.held;
    })
    c.in_ok-issued_brief-in-Brief.ensures.read

pub returns-in_ok-has_revision-in-Profile-clause-read : goal.returns-in_ok-has_revision-in-Profile-clause-read
returns-in_ok-has_revision-in-Profile-clause-read g c =
    read_as (state g.S.Store c.args.conn.now) (state g.S.Store c.has_revision.new.conn) _ _ c.in_ok-has_revision-in-Profile.field-0 tt
    (λ t tells h lawful same told. record {
      summary = told.summary;
      revision = told.revision;
      is_author = told.is_author;
      issued = told.issued;
      brief = told.brief;
      no_profile = ap Some (sym (none_back h lawful t same c.profile_in-name.result.now _ c.profile_in-name.ensures c.in_ok-has_revision-in-Profile.field-0 tells));
      held = told.held;
    })
    c.in_ok-has_revision-in-Profile.ensures.read
