use Rattle.std.proofs.Common.{Err, Ok, ◌∙◌, [], ◌∷◌, ◌++◌, ap, false, inl, inr, refl, subst, sym}
use Rattle.journal.specs.Begun.{done_bodies}
use Rattle.journal.specs.Journals.{unsettled, with_office}
use Rattle.journal.specs.Writing.{IsAppended}
use Rattle.sealed_log.specs.Sealed.{IsBody}
use Rattle.journal.proofs.Offices.{none_fewer}
use Rattle.journal.proofs.Carried.{done, never_both, no_body, no_line, not_appended, taken_back}
use Rattle.journal.proofs.journaled.Journaled.do_allowed.Goals as goal

pub returns-in-Err-clause-handled : goal.returns-in-Err-clause-handled
returns-in-Err-clause-handled g c = λ before goes permitted.
    no_line g.O.Handler.meaning g.J.Journal.writing (with_office c.args.self.now before) goes c.args.request.now c.args.allowed.now c.args.self.now.office permitted

pub returns-then-not-is_body-clause-handled : goal.returns-then-not-is_body-clause-handled
returns-then-not-is_body-clause-handled g c = λ before goes permitted.
    no_body g.O.Handler.meaning g.J.Journal.writing (with_office c.args.self.now before) goes c.args.request.now c.args.allowed.now c.args.self.now.office permitted c.as_bytes.result.now
    (c.as_bytes.ensures.value ∙ c.as_str.ensures.value ∙ c.in-Ok.ensures.text) c.change_text.ensures.forms
    (λ is. never_both c.is_body.result (c.is_body.ensures.1 is) c.if-not-is_body.true)

pub returns-in-Ok-carry_out-clause-handled : goal.returns-in-Ok-carry_out-clause-handled
returns-in-Ok-carry_out-clause-handled g c = λ before goes permitted.
    let w = g.J.Journal.writing in
    let body = c.as_bytes-2.result.now in
    let appended = subst (λ last. IsAppended w c.args.self.now.journal c.write_event.new.journal (done_bodies last) body (Ok tt)) c.unsettled-last.ensures c.in-Ok-write_event.ensures in
    done g.O.Handler.meaning w (with_office c.args.self.now before) goes c.args.request.now c.args.allowed.now c.args.self.now.office permitted body
    (c.as_bytes-2.ensures.value ∙ c.as_str-2.ensures.value ∙ c.in-Ok.ensures.text) c.change_text.ensures.forms
    c.write_event.new.journal appended c.carry_out.new.self c.in-Ok-carry_out.ensures.survives.clean (c.in-Ok-carry_out.ensures.handled before c.args.request.now permitted)

pub returns-clause-handled : goal.returns-clause-handled
returns-clause-handled g c = λ before goes permitted.
    let w = g.J.Journal.writing in
    let body = c.as_bytes-2.result.now in
    let appended = subst (λ last. IsAppended w c.args.self.now.journal c.write_event.new.journal (done_bodies last) body (Ok tt)) c.unsettled-last.ensures c.in-Ok-write_event.ensures in
    taken_back g.O.Handler.meaning w (with_office c.args.self.now before) goes c.args.request.now c.args.allowed.now c.args.self.now.office permitted body
    (c.as_bytes-2.ensures.value ∙ c.as_str-2.ensures.value ∙ c.in-Ok.ensures.text) c.change_text.ensures.forms
    c.write_event.new.journal appended c.carry_out.new.self c.in-Err-carry_out.ensures.survives.clean c.in-Err-carry_out.fault (c.in-Err-carry_out.ensures.handled before c.args.request.now permitted)
    c.strike_out-told.new.self c.strike_out-told.result c.strike_out-told.ensures

pub returns-in-Err-write_event-clause-handled : goal.returns-in-Err-write_event-clause-handled
returns-in-Err-write_event-clause-handled g c = λ before goes permitted.
    let w = g.J.Journal.writing in
    let fault = c.in-Err-write_event.fault in
    let appended = subst (λ last. IsAppended w c.args.self.now.journal c.write_event.new.journal (done_bodies last) c.as_bytes-2.result.now (Err fault)) c.unsettled-last.ensures c.in-Err-write_event.ensures in
    not_appended g.O.Handler.meaning w (with_office c.args.self.now before) goes c.args.request.now c.args.allowed.now c.args.self.now.office permitted c.as_bytes-2.result.now
    (c.as_bytes-2.ensures.value ∙ c.as_str-2.ensures.value ∙ c.in-Ok.ensures.text) c.change_text.ensures.forms
    c.write_event.new.journal fault appended

pub returns-in-Ok-carry_out-clause-written : goal.returns-in-Ok-carry_out-clause-written
returns-in-Ok-carry_out-clause-written g c =
    let w = g.J.Journal.writing in
    let old = c.args.self.now in
    let said = c.as_bytes-2.ensures.value ∙ c.as_str-2.ensures.value ∙ c.in-Ok.ensures.text in
    let appended = subst (λ last. IsAppended w old.journal c.write_event.new.journal (done_bodies last) c.as_bytes-2.result.now (Ok tt)) c.unsettled-last.ensures c.in-Ok-write_event.ensures in
    record {
      bodies = λ clean. appended.written.1 clean ∙ ap (λ body. w.bodies old.journal ++ (done_bodies (unsettled w old) ++ body ∷ [])) said;
      unsaid = refl;
    }

pub carry_out-requires : goal.carry_out-requires
carry_out-requires g c = (c.requires.0, c.args.request.now, c.requires.1)

pub returns-in-Err-clause-undone : goal.returns-in-Err-clause-undone
returns-in-Err-clause-undone g c = inl (
  record {
    stray = refl;
    office = refl;
    append = λ is. record {
      clean = λ clean. clean;
      counts = none_fewer (g.J.Journal.writing.faults c.args.self.now.journal);
      closes = λ clean is_open. inl is_open;
      written = (λ clean is_open. refl, λ clean. tt);
      crash = λ clean left may. inl may;
    };
  },
  refl,
)

pub returns-then-not-is_body-clause-undone : goal.returns-then-not-is_body-clause-undone
returns-then-not-is_body-clause-undone g c =
    let said = c.as_bytes.ensures.value ∙ c.as_str.ensures.value ∙ c.in-Ok.ensures.text in
    inl (
      record {
        stray = refl;
        office = refl;
        append = λ is. absurd (never_both c.is_body.result (c.is_body.ensures.1 (subst IsBody (sym said) is)) c.if-not-is_body.true);
      },
      refl,
    )

pub returns-in-Err-write_event-clause-undone : goal.returns-in-Err-write_event-clause-undone
returns-in-Err-write_event-clause-undone g c =
    let w = g.J.Journal.writing in
    let old = c.args.self.now in
    let fault = c.in-Err-write_event.fault in
    let said = c.as_bytes-2.ensures.value ∙ c.as_str-2.ensures.value ∙ c.in-Ok.ensures.text in
    let appended = subst (λ last. IsAppended w old.journal c.write_event.new.journal (done_bodies last) c.as_bytes-2.result.now (Err fault)) c.unsettled-last.ensures c.in-Err-write_event.ensures in
    inl (
      record {
        stray = refl;
        office = refl;
        append = λ is. subst (λ body. IsAppended w old.journal c.write_event.new.journal (done_bodies (unsettled w old)) body (Err fault)) said appended;
      },
      refl,
    )

pub returns-clause-undone : goal.returns-clause-undone
returns-clause-undone g c =
    let w = g.J.Journal.writing in
    let old = c.args.self.now in
    let said = c.as_bytes-2.ensures.value ∙ c.as_str-2.ensures.value ∙ c.in-Ok.ensures.text in
    let appended = subst (λ last. IsAppended w old.journal c.write_event.new.journal (done_bodies last) c.as_bytes-2.result.now (Ok tt)) c.unsettled-last.ensures c.in-Ok-write_event.ensures in
    inr (
      record { office = c.carry_out.new.self; journal = c.write_event.new.journal; has_stray = old.has_stray; is_settled = false },
      record {
        bodies = λ clean. appended.written.1 clean ∙ ap (λ body. w.bodies old.journal ++ (done_bodies (unsettled w old) ++ body ∷ [])) said;
        unsaid = refl;
      },
      c.strike_out-told.ensures,
    )
