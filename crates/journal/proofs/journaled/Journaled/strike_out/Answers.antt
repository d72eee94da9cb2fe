use Rattle.std.proofs.Common.{◌∙◌, [], ◌∷◌, ◌++◌, Err, inl, inr, refl, sym, ap, subst}
use Rattle.journal.proofs.LineExamples.{strike_is}
use Rattle.journal.specs.Writing.{IsAppended}
use Rattle.journal.proofs.Offices.{none_fewer}
use Rattle.journal.proofs.journaled.Journaled.strike_out.Goals as goal

pub returns-in-Ok : goal.returns-in-Ok
returns-in-Ok g c = record {
  leaves = c.in-Allowed.ensures.leaves;
  clean = c.in-Ok.ensures.clean;
  counts = c.in-Ok.ensures.counts;
  journal = record {
    stands = c.in-Allowed.ensures.stands;
    no_stray = refl;
    settled = refl;
    is_open = c.in-Ok.ensures.written.0;
    bodies = λ clean. c.in-Ok.ensures.written.1 clean
        ∙ ap (λ body. g.J.Journal.writing.bodies c.args.self.now.journal ++ body ∷ []) (c.as_bytes.ensures.value ∙ sym strike_is);
  };
}

pub returns : goal.returns
returns g c = record {
  leaves = c.in-Allowed.ensures.leaves;
  clean = c.in-Err.ensures.clean;
  counts = c.in-Err.ensures.counts;
  journal = inr (
    c.in-Err.fault,
    refl,
    record {
      stands = c.in-Allowed.ensures.stands;
      stray = refl;
      append = subst (λ body. IsAppended g.J.Journal.writing c.args.self.now.journal c.append.new.self [] body (Err c.in-Err.fault)) (c.as_bytes.ensures.value ∙ sym strike_is) c.in-Err.ensures;
    },
  );
}

pub returns-in-Answered : goal.returns-in-Answered
returns-in-Answered g c = record {
  leaves = c.in-Answered.ensures.leaves;
  clean = λ clean. clean;
  counts = none_fewer (g.J.Journal.writing.faults c.args.self.now.journal);
  journal = inl (record {
    stray = refl;
    journal = refl;
    again = c.in-Answered.ensures;
  });
}
