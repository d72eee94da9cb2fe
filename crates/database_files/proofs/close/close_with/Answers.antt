use Rattle.std.proofs.Common.{ℕ, Option, inl, subst, sym}
use Rattle.std.specs.Prelude.{IfErr, IfOk}
use Rattle.std.proofs.lemmas.Result.{IfErr-weaker, IfOk-weaker}
use Rattle.sqlite_wal.specs.Reads.{AreClean}
use Rattle.database_files.specs.Marks.{IsCopiedAs, MayBeLeft}
use Rattle.database_files.proofs.close.close_with.Goals as goal

pub returns-in-None-clause-copied : goal.returns-in-None-clause-copied
returns-in-None-clause-copied g c =
    subst (λ (mark : Option ℕ). IfOk c.close_files.result (λ files. AreClean g.D.Disk files.log files.db → IsCopiedAs c.args.conn mark files)) (sym c.in-None.is)
    (IfOk-weaker c.close_files.result _ _ (λ files is clean. let copied = is clean in
    record { was_clean = copied.was_clean; was_open = copied.was_open; seen = copied.seen; left = copied.left }) c.close_files.ensures.copied)

pub returns-in-None-clause-left : goal.returns-in-None-clause-left
returns-in-None-clause-left g c =
    IfErr-weaker c.close_files.result _ _ (λ refusal is clean db may. inl (is.0.quiet.outcomes db may)) c.close_files.ensures.err

pub returns-in-Some-clause-left : goal.returns-in-Some-clause-left
returns-in-Some-clause-left g c =
    subst (λ (mark : Option ℕ). IfErr c.close_marked.result (λ refusal. MayBeLeft c.args.conn mark refusal.1)) (sym c.in-Some.is) c.close_marked.ensures.left
