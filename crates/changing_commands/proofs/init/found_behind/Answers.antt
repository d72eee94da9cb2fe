use Rattle.std.proofs.Common.{◌∙◌, ap, inl, inr, subst}
use Rattle.sealed_log.specs.declared.log.SealedLog.{SealedLog}
use Rattle.changing_commands.proofs.KeptFacts.{behind_open, founded_behind}
use Rattle.changing_commands.proofs.init.found_behind.Goals as goal

pub returns-in-Ok-clause-founded : goal.returns-in-Ok-clause-founded
returns-in-Ok-clause-founded g c =
    founded_behind g.S.Store g.J.File.Disk _ g.D.Databases _ _ c.in_ok-log.log c.in-Ok.kept c.close_kept.result
    c.in_ok-log.ensures.begun c.in-Ok.ensures.founded.0 c.in-Ok.ensures.founded.1 c.close_kept.ensures.closed

pub returns-in-Ok-clause-failed : goal.returns-in-Ok-clause-failed
returns-in-Ok-clause-failed g c =
    behind_open g.S.Store g.J.File.Disk _ g.D.Databases _ _ _ c.in_ok-log.log c.in-Ok.kept c.close_kept.result
    c.in_ok-log.ensures.begun c.in-Ok.ensures.founded.0 c.in-Ok.ensures.founded.1 c.close_kept.ensures.ended c.close_kept.ensures.fault

pub returns-in-Err-clause-failed : goal.returns-in-Err-clause-failed
returns-in-Err-clause-failed g c =
    let refusal = c.in-Err.ensures.refused in
    inr (record {
      log = c.in_ok-log.log;
      journal = c.in_ok-log.ensures.begun;
      office =
          inl (
            refusal.1,
            (
              c.remove.result,
              subst (λ (disk : _). g.J.Journals.removes c.args.journals.now c.args.journal.now disk c.remove.result)
                  (c.into_disk.ensures ∙ ap (λ (log : SealedLog _ g.J.File.Disk). log.disk) refusal.0) c.remove.ensures,
            ),
          );
    })
