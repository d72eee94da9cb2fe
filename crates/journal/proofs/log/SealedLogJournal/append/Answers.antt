use Rattle.std.proofs.Common.{[]}
use Rattle.journal.proofs.LogFacts.{put_appended}
use Rattle.journal.proofs.log.SealedLogJournal.append.Goals as goal

pub returns : goal.returns
returns g c =
    put_appended g.D.Disk c.args.self.now c.put-done.new.self [] c.args.body.now c.put-done.result c.told.result c.told.ensures c.put-done.ensures.clean c.put-done.ensures.counts.faults
    c.put-done.ensures.shut c.put-done.ensures.closes c.put-done.ensures.refused c.put-done.ensures.word c.put-done.ensures.appended c.put-done.ensures.crash
