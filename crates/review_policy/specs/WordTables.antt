-- The words by which lines and pages name rules.
use Rattle.std.specs.Prelude.{ℕ, List, codes}
use Rattle.review_policy.specs.declared.denial.Rule.{Rule}
use Rattle.review_policy.specs.declared.denial.Rule.TheVariants.{CallerUnknown, RoleMissing, OwnRow}
use Rattle.review_policy.specs.declared.denial.Rule.TheVariants.{TeamFixed, TokenTaken, OtherTeam}
use Rattle.review_policy.specs.declared.denial.Rule.TheVariants.{Document, SameAsOpen}
use Rattle.review_policy.specs.declared.denial.Rule.TheVariants.{RevisionsFull, NoRevision}
use Rattle.review_policy.specs.declared.denial.Rule.TheVariants.{AuthorVotes, NotOpen, OtherBytes}
use Rattle.review_policy.specs.declared.denial.Rule.TheVariants.{AuthorIssues, Rejected}
use Rattle.review_policy.specs.declared.denial.Rule.TheVariants.{ApprovalsShort, SecurityMissing}
use Rattle.review_policy.specs.declared.denial.Rule.TheVariants.{NotStanding, AuthorAdopts}
use Rattle.review_policy.specs.declared.denial.Rule.TheVariants.{NotIssued, NothingIssued}
use Rattle.review_policy.specs.declared.denial.Rule.TheVariants.{NoProfile, AlreadyHeld, NotHeld}
use Rattle.review_policy.specs.declared.denial.Rule.TheVariants.{Held}

-- the word of each rule
abbrev pub rule_word : Rule → List ℕ
rule_word CallerUnknown = codes "caller-unknown"
rule_word RoleMissing = codes "role-missing"
rule_word OwnRow = codes "own-row"
rule_word TeamFixed = codes "team-fixed"
rule_word TokenTaken = codes "token-taken"
rule_word OtherTeam = codes "other-team"
rule_word Document = codes "document"
rule_word SameAsOpen = codes "same-as-open"
rule_word RevisionsFull = codes "revisions-full"
rule_word NoRevision = codes "no-revision"
rule_word AuthorVotes = codes "author-votes"
rule_word NotOpen = codes "not-open"
rule_word OtherBytes = codes "other-bytes"
rule_word AuthorIssues = codes "author-issues"
rule_word Rejected = codes "rejected"
rule_word (ApprovalsShort got need) = codes "approvals-short"
rule_word SecurityMissing = codes "security-missing"
rule_word NotStanding = codes "not-standing"
rule_word AuthorAdopts = codes "author-adopts"
rule_word NotIssued = codes "not-issued"
rule_word NothingIssued = codes "nothing-issued"
rule_word NoProfile = codes "no-profile"
rule_word AlreadyHeld = codes "already-held"
rule_word NotHeld = codes "not-held"
rule_word Held = codes "held"
