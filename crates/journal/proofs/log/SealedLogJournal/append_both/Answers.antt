use Rattle.std.proofs.Common.{[], ◌∷◌}
use Rattle.journal.proofs.LogFacts.{put_appended}
use Rattle.journal.proofs.log.SealedLogJournal.append_both.Goals as goal

pub returns : goal.returns
returns g c =
    put_appended g.D.Disk c.args.self.now c.put_both-done.new.self (c.args.first.now ∷ []) c.args.body.now c.put_both-done.result c.told.result c.told.ensures c.put_both-done.ensures.clean c.put_both-done.ensures.counts.faults
    c.put_both-done.ensures.shut c.put_both-done.ensures.closes c.put_both-done.ensures.refused c.put_both-done.ensures.word c.put_both-done.ensures.appended c.put_both-done.ensures.crash
