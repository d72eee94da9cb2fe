use Rattle.std.proofs.Common.{◌≡◌, ◌∙◌, IsTrue, ap, subst, inl, inr, arith}
use Rattle.sqlite_wal.specs.Files.{outcomes}
use Rattle.sqlite_wal.specs.Recovery.{Image}
use Rattle.sqlite_wal.specs.Reads.{AreClean}
use Rattle.sqlite_pool.proofs.StateLemmas.{clean_is, may_leave_is}
use Rattle.sqlite_trees.proofs.Doubt.{no_doubt}
use Rattle.sqlite_trees.specs.Objects.{with_version}
use Rattle.sqlite_trees.specs.View.{IsClean, View}
use Rattle.sqlite_store.specs.FileStore.{recovers, view}
use Rattle.sqlite.specs.Closing.{HoldsAlone}
use Rattle.sqlite.specs.Held.{AreDatabases}
use Rattle.sqlite.proofs.Theorems.{copied}
use Rattle.database_files.proofs.Marked.{back_open, same_sound, set_sound, set_trees}
use Rattle.database_files.proofs.close.close_marked.Goals as goal

pub returns-in-Err-clause-left : goal.returns-in-Err-clause-left
returns-in-Err-clause-left g c clean db may =
    inl (c.into_store-store.ensures.quiet.outcomes db (c.set_version.ensures.quiet.outcomes db may))

pub returns-in-Err-commit-clause-left : goal.returns-in-Err-commit-clause-left
returns-in-Err-commit-clause-left g c clean db may =
    let back = c.into_store-store.result in
    let set = c.set_version.new.self in
    let set_clean : IsClean (view set) = omega (arith, clean, c.commit.ensures.clean) in
    let early : IsClean (view back) = omega (arith, set_clean, c.set_version.ensures.quiet.clean) in
    elim (c.commit.ensures.crash db may) [
      | inl new ↦ inr (new.1 ∙ set_trees c.args.conn.store back set c.args.mark c.into_store-store.ensures.undone early (c.in_default.ensures.ok set_clean))
      | inr old ↦ inl (c.into_store-store.ensures.quiet.outcomes db (c.set_version.ensures.quiet.outcomes db old))
    ]

pub returns-in-Err-checkpoint-clause-left : goal.returns-in-Err-checkpoint-clause-left
returns-in-Err-checkpoint-clause-left g c clean db may =
    let back = c.into_store-store.result in
    let set = c.set_version.new.self in
    let done_clean : IsClean (view c.commit.new.self) = omega (arith, clean, c.checkpoint.ensures.quiet.clean) in
    let set_clean : IsClean (view set) = omega (arith, done_clean, c.commit.ensures.clean) in
    let early : IsClean (view back) = omega (arith, set_clean, c.set_version.ensures.quiet.clean) in
    elim (c.commit.ensures.crash db (c.checkpoint.ensures.quiet.outcomes db may)) [
      | inl new ↦ inr (new.1 ∙ set_trees c.args.conn.store back set c.args.mark c.into_store-store.ensures.undone early (c.in_default.ensures.ok set_clean))
      | inr old ↦ inl (c.into_store-store.ensures.quiet.outcomes db (c.set_version.ensures.quiet.outcomes db old))
    ]

pub returns-in-Ok-clause-copied : goal.returns-in-Ok-clause-copied
returns-in-Ok-clause-copied g c honest =
    let was = c.args.conn.store in
    let back = c.into_store-store.result in
    let set = c.set_version.new.self in
    let done = c.commit.new.self in
    let last = c.checkpoint.new.self in
    let q = c.checkpoint.ensures.quiet in
    let stays = g.met.D.Disk.seen_may_stay in
    let sure_now = subst (λ p. AreClean g.D.Disk p.0 p.1) c.close.ensures honest in
    let none : IsClean (view last) = no_doubt _ (clean_is last.pool ∙ sure_now) in
    let done_clean : IsClean (view done) = omega (arith, none, q.clean) in
    let set_clean : IsClean (view set) = omega (arith, done_clean, c.commit.ensures.clean) in
    let early : IsClean (view back) = omega (arith, set_clean, c.set_version.ensures.quiet.clean) in
    let sets = c.in_default.ensures.ok set_clean in
    let commits = c.in_default-commit.ensures.ok done_clean in
    let undone = c.into_store-store.ensures.undone in
    let open_back = back_open was back set c.args.mark undone early sets in
    let kept = undone.kept early in
    let on = c.in-Ok.ensures.open none in
    let same = c.checkpoint.ensures.same on in
    let numbered : IsTrue (view last).is_numbered =
    ap (λ (v : View). v.is_numbered) same ∙ ap (λ (v : View). v.is_numbered) commits.is ∙ ap (λ (v : View). v.is_numbered) sets.is ∙ c.into_store-store.ensures.numbered early in
    let committed : (view last).committed ≡ with_version (view was).committed c.args.mark =
    ap (λ (v : View). v.committed) same ∙ ap (λ (v : View). v.committed) commits.is ∙ set_trees was back set c.args.mark undone early sets in
    let marked = set_sound was back set c.args.mark undone early sets stays (c.into_store-store.ensures.sound early) in
    let found : AreDatabases (recovers last) = λ db may. elim (c.commit.ensures.crash db (q.outcomes db may)) [
      | inl new ↦ same_sound db _ (new.1 ∙ set_trees was back set c.args.mark undone early sets) marked
      | inr old ↦ c.into_store-store.ensures.sound early db (c.set_version.ensures.quiet.outcomes db old)
    ] in
    let each = λ (image : Image) (may : outcomes g.D.Disk c.close.result.log c.close.result.db image).
    subst (HoldsAlone image) committed (copied last stays on numbered found (c.in-Ok.ensures.moved (c.in_default-commit.ensures.logged)) image
    (may_leave_is last.pool image sure_now (subst (λ p. outcomes g.D.Disk p.0 p.1 image) c.close.ensures may))) in
    record {
      was_clean = omega (arith, early, c.into_store-store.ensures.quiet.clean);
      was_open = kept.was_open open_back;
      seen = each _ (stays _, stays _);
      left = each;
    }
