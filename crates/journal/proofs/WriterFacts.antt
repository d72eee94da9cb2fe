-- The tables of a lawful history show of each table the newest event that wrote to it. Each lemma up to that is of any
-- tables that agree with those of the history where its event looks, so that events of other kinds change nothing.
use Rattle.std.proofs.Common.{◌≡◌, ◌∙◌, ◌<◌, ℕ, List, [], ◌∷◌, Some, None, refl, sym, ap, subst}
use Rattle.review_policy.specs.declared.act.Effect.{Effect}
use Rattle.review_policy.specs.declared.act.Effect.TheVariants.{Issues, Withdraws, Adopts}
use Rattle.office_words.specs.declared.name.ProfileName.{ProfileName}
use Rattle.office_words.specs.declared.role.Role.TheVariants.{Security}
use Rattle.review_policy.specs.Acts.{effect_of}
use Rattle.office_words.specs.Lists.{holds_role}
use Rattle.office_words.specs.Tables.{Tables}
use Rattle.office_policy.specs.History.{founded, enrolled, submitted, voted, on_profile, on_revision, Event, History}
use Rattle.office_policy.specs.Users.{user_of}
use Rattle.office_policy.specs.Revisions.{revision_of, state_in}
use Rattle.office_policy.specs.Votes.{kept_vote_of}
use Rattle.office_policy.specs.Holds.{is_held}
use Rattle.office_policy.specs.Baseline.{adoption_of, listed_of}
use Rattle.office_policy.specs.Lawful.{IsLawfulHistory}
use Rattle.office_policy.specs.TablesOf.{tables_of}
use Rattle.office_policy.specs.ShowsEvent.{LastIsOpen, Shows, ShowsEffect}
use Rattle.office_policy.proofs.EventFacts.{tables_after}
use Rattle.office_policy.proofs.ShownFacts.{last_shown}
use Rattle.journal.specs.declared.writers.Table.{Table}
use Rattle.journal.specs.declared.writers.Table.TheVariants as tables
use Rattle.journal.specs.Writers.{ShowsOne, ShowsIf, ShowsWriters, Writers, table_of, table_of_effect, with_writer, with_writer_to, writers_of}

-- an act on a revision leaves the other writers
pub record LeavesOthers (old new : Writers) : Type 0 where
  pub users : new.users ≡ old.users
  pub votes : new.votes ≡ old.votes
  pub holds : new.holds ≡ old.holds

leaves_others : (effect : Effect) (e : Event) (w : Writers) → LeavesOthers w (with_writer_to (table_of_effect effect) e w)
leaves_others Issues e w = record { users = refl; votes = refl; holds = refl }
leaves_others Withdraws e w = record { users = refl; votes = refl; holds = refl }
leaves_others Adopts e w = record { users = refl; votes = refl; holds = refl }

-- an enrolment, or the founding with what it lists
users_shown : (h : History) → IsLawfulHistory h → (t : Tables) → t.users ≡ user_of h → t.listed ≡ listed_of h → ShowsOne t (writers_of h).users
users_shown [] lawful t users listed = absurd lawful
users_shown (founded n g d l ∷ h) lawful t users listed =
    let shown = last_shown h (founded n g d l) lawful in
    ((λ i. users i n) ∙ shown.0, listed ∙ shown.1)
users_shown (enrolled c n g r d ∷ h) lawful t users listed = (λ i. users i n) ∙ last_shown h (enrolled c n g r d) lawful
users_shown (on_revision c act p n ∷ f ∷ h) lawful t users listed =
    subst (ShowsOne t) (sym (leaves_others (effect_of act) (on_revision c act p n) (writers_of (f ∷ h))).users) (users_shown (f ∷ h) lawful.1 t users listed)
users_shown (_ ∷ []) lawful t users listed = absurd lawful
users_shown (_ ∷ f ∷ h) lawful t users listed = users_shown (f ∷ h) lawful.1 t users listed

last_open : (t u : Tables) (p : ProfileName) (c text : List ℕ) → t.revisions ≡ u.revisions → LastIsOpen u p c text → LastIsOpen t p c text
last_open t u p c text same shown = record {
  row = shown.row;
  last = subst (λ rows. (rows p shown.row.number ≡ Some shown.row) × ((n : ℕ) → shown.row.number < n → rows p n ≡ None)) (sym same) shown.last;
  still_open = shown.still_open;
  author = shown.author;
  text = shown.text;
}

-- an act on a revision becomes the newest event of the table that its effect is written to, which shows it; that of the other table stays
module _ (h : History) (p : ProfileName) (n : ℕ) (e : Event) (w : Writers) (t : Tables) where
  effect_on_revisions : (effect : Effect) → t.revisions ≡ (tables_after h effect p n).revisions → ShowsEffect (tables_after h effect p n) effect p n → (ShowsEffect t effect p n → Shows t e)
      → (t.revisions ≡ revision_of h → ShowsIf t w.revisions) → ShowsIf t (with_writer_to (table_of_effect effect) e w).revisions
  effect_on_revisions Issues same shown here before = here ((λ i. state_in (same i p n)) ∙ shown)
  effect_on_revisions Withdraws same shown here before = here ((λ i. state_in (same i p n)) ∙ shown)
  effect_on_revisions Adopts same shown here before = before same

  effect_on_baselines : (effect : Effect) → t.baselines ≡ (tables_after h effect p n).baselines → ShowsEffect (tables_after h effect p n) effect p n → (ShowsEffect t effect p n → Shows t e)
      → (t.baselines ≡ adoption_of h → ShowsIf t w.baselines) → ShowsIf t (with_writer_to (table_of_effect effect) e w).baselines
  effect_on_baselines Issues same shown here before = before same
  effect_on_baselines Withdraws same shown here before = before same
  effect_on_baselines Adopts same shown here before = here ((λ i. same i p.team) ∙ shown)

revisions_shown : (h : History) → IsLawfulHistory h → (t : Tables) → t.revisions ≡ revision_of h → ShowsIf t (writers_of h).revisions
revisions_shown [] lawful t same = absurd lawful
revisions_shown (submitted c p text ∷ h) lawful t same =
    last_open t (tables_of (submitted c p text ∷ h)) p c text same (last_shown h (submitted c p text) lawful)
revisions_shown (on_revision c act p n ∷ []) lawful t same = absurd lawful
revisions_shown (on_revision c act p n ∷ f ∷ h) lawful t same =
    effect_on_revisions (f ∷ h) p n (on_revision c act p n) (writers_of (f ∷ h)) t (effect_of act) same (last_shown (f ∷ h) (on_revision c act p n) lawful) (λ shown. shown)
    (revisions_shown (f ∷ h) lawful.1 t)
revisions_shown (_ ∷ []) lawful t same = tt
revisions_shown (_ ∷ f ∷ h) lawful t same = revisions_shown (f ∷ h) lawful.1 t same

-- a vote shows the present roles of its voter, so it is asked for with the users
votes_shown : (h : History) → IsLawfulHistory h → (t : Tables) → t.votes ≡ kept_vote_of h → t.users ≡ user_of h → ShowsIf t (writers_of h).votes
votes_shown [] lawful t votes users = absurd lawful
votes_shown (founded n g d l ∷ h) lawful t votes users = tt
votes_shown (enrolled c n g r d ∷ h) lawful t votes users = tt
votes_shown (voted c p n d a ∷ h) lawful t votes users =
    (λ i. votes i p n c)
    ∙ last_shown h (voted c p n d a) lawful
    ∙ ap (λ rows. Some (record { approves = a; security = holds_role (rows c) Security })) (sym users)
votes_shown (on_revision c act p n ∷ []) lawful t votes users = absurd lawful
votes_shown (on_revision c act p n ∷ f ∷ h) lawful t votes users =
    subst (ShowsIf t) (sym (leaves_others (effect_of act) (on_revision c act p n) (writers_of (f ∷ h))).votes) (votes_shown (f ∷ h) lawful.1 t votes users)
votes_shown (_ ∷ []) lawful t votes users = tt
votes_shown (_ ∷ f ∷ h) lawful t votes users = votes_shown (f ∷ h) lawful.1 t votes users

baselines_shown : (h : History) → IsLawfulHistory h → (t : Tables) → t.baselines ≡ adoption_of h → ShowsIf t (writers_of h).baselines
baselines_shown [] lawful t same = absurd lawful
baselines_shown (on_revision c act p n ∷ []) lawful t same = absurd lawful
baselines_shown (on_revision c act p n ∷ f ∷ h) lawful t same =
    effect_on_baselines (f ∷ h) p n (on_revision c act p n) (writers_of (f ∷ h)) t (effect_of act) same (last_shown (f ∷ h) (on_revision c act p n) lawful) (λ shown. shown)
    (baselines_shown (f ∷ h) lawful.1 t)
baselines_shown (_ ∷ []) lawful t same = tt
baselines_shown (_ ∷ f ∷ h) lawful t same = baselines_shown (f ∷ h) lawful.1 t same

holds_shown : (h : History) → IsLawfulHistory h → (t : Tables) → t.holds ≡ is_held h → ShowsIf t (writers_of h).holds
holds_shown [] lawful t same = absurd lawful
holds_shown (on_profile c act p ∷ h) lawful t same = (λ i. same i p) ∙ last_shown h (on_profile c act p) lawful
holds_shown (on_revision c act p n ∷ []) lawful t same = absurd lawful
holds_shown (on_revision c act p n ∷ f ∷ h) lawful t same =
    subst (ShowsIf t) (sym (leaves_others (effect_of act) (on_revision c act p n) (writers_of (f ∷ h))).holds) (holds_shown (f ∷ h) lawful.1 t same)
holds_shown (_ ∷ []) lawful t same = tt
holds_shown (_ ∷ f ∷ h) lawful t same = holds_shown (f ∷ h) lawful.1 t same

pub writers_shown : (h : History) → IsLawfulHistory h → ShowsWriters (tables_of h) (writers_of h)
writers_shown h lawful = record {
  users = users_shown h lawful (tables_of h) refl refl;
  revisions = revisions_shown h lawful (tables_of h) refl;
  votes = votes_shown h lawful (tables_of h) refl refl;
  baselines = baselines_shown h lawful (tables_of h) refl;
  holds = holds_shown h lawful (tables_of h) refl;
}

-- an event that is shown can be one more, by the table that it writes to
put_to : (t : Tables) (table : Table) (e : Event) (w : Writers) → ShowsWriters t w → Shows t e → ShowsWriters t (with_writer_to table e w)
put_to t tables.Users e w all shows = record { users = shows; revisions = all.revisions; votes = tt; baselines = all.baselines; holds = all.holds }
put_to t tables.Revisions e w all shows = record { users = all.users; revisions = shows; votes = all.votes; baselines = all.baselines; holds = all.holds }
put_to t tables.Votes e w all shows = record { users = all.users; revisions = all.revisions; votes = shows; baselines = all.baselines; holds = all.holds }
put_to t tables.Baselines e w all shows = record { users = all.users; revisions = all.revisions; votes = all.votes; baselines = shows; holds = all.holds }
put_to t tables.Holds e w all shows = record { users = all.users; revisions = all.revisions; votes = all.votes; baselines = all.baselines; holds = shows }

pub put_shown : (t : Tables) (e : Event) (w : Writers) → ShowsWriters t w → Shows t e → ShowsWriters t (with_writer e w)
put_shown t e w all shows = put_to t (table_of e) e w all shows

-- and where all are shown it is
shown_in : (t : Tables) (table : Table) (e : Event) (w : Writers) → ShowsWriters t (with_writer_to table e w) → Shows t e
shown_in t tables.Users e w all = all.users
shown_in t tables.Revisions e w all = all.revisions
shown_in t tables.Votes e w all = all.votes
shown_in t tables.Baselines e w all = all.baselines
shown_in t tables.Holds e w all = all.holds

pub writer_shown : (t : Tables) (e : Event) (w : Writers) → ShowsWriters t (with_writer e w) → Shows t e
writer_shown t e w all = shown_in t (table_of e) e w all
