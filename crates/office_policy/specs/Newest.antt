-- The revisions of a profile, the newest first.
use Rattle.std.specs.Prelude.{ℕ, suc, List, [], ◌∷◌, Bool, true, nat_lt, if◌then◌else◌, Option}
use Rattle.std.specs.Prelude.{Some, None, filter, length, map, take}
use Rattle.profile_text.specs.Digest.{digest_of}
use Rattle.office_words.specs.declared.name.ProfileName.{ProfileName}
use Rattle.review_policy.specs.declared.answer.Reply.{Reply}
use Rattle.review_policy.specs.declared.answer.Reply.TheVariants as reply
use Rattle.office_words.specs.Limits.{max_listed}
use Rattle.office_words.specs.declared.row.RevisionRow.{RevisionRow}
use Rattle.office_words.specs.Lists.{told_revision}
use Rattle.office_words.specs.Tables.{is_profile}
use Rattle.office_policy.specs.History.{Event, submitted, History}
use Rattle.office_policy.specs.Revisions.{revision_count, state_of}

-- the submissions of a profile among these events, the newest first, each with its number among
-- them and its state in the whole history
abbrev pub revisions_among : History → List Event → ProfileName → List RevisionRow
revisions_among h [] p = []
revisions_among h (submitted c q t ∷ before) p =
    if is_profile p q
    then record {
      number = suc (revision_count before p);
      author = c;
      state = state_of h p (suc (revision_count before p));
      body = t;
      digest = digest_of t;
    } ∷ revisions_among h before p
    else revisions_among h before p
revisions_among h (_ ∷ before) p = revisions_among h before p

-- the revisions of a profile, the newest first
abbrev pub revisions_of : History → ProfileName → List RevisionRow
revisions_of h p = revisions_among h h p

-- whether a revision has a number below this one, where one is given
abbrev pub is_before : Option ℕ → RevisionRow → Bool
is_before None r = true
is_before (Some n) r = nat_lt r.number n

-- the revisions of a profile that have a number below this one, where one is given
abbrev pub revisions_before : History → ProfileName → Option ℕ → List RevisionRow
revisions_before h p before = filter (is_before before) (revisions_of h p)

-- the first of these are told, as many as one list has, and whether there are more
abbrev pub newest_told : List RevisionRow → Reply
newest_told rows =
    reply.Revisions (map told_revision (take max_listed rows)) (nat_lt max_listed (length rows))
