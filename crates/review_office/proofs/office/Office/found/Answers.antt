use Rattle.review_office.proofs.office.Office.found.Goals as goal

pub returns-in-Ok-clause-stands : goal.returns-in-Ok-clause-stands
returns-in-Ok-clause-stands g c = λ clean.
    let shows = c.in-Ok.ensures.founded clean in
    record {
      is_of = record {
        idle = c.in-Ok.ensures.idle;
        lawful = (c.founding_forms.ensures.name, c.founding_forms.ensures.team, c.founding_forms.ensures.digest, c.founding_forms.ensures.listed);
        tables = λ clean is_open. c.in-Ok.ensures.founded clean;
      };
      is_open = shows.is_open;
      leaves = c.in-Ok.ensures.kept clean;
    }
