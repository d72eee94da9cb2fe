use Rattle.std.proofs.Common.{◌∙◌, IsTrue, inr, refl, subst, sym}
use Rattle.sealed_log.specs.Faults.{IsLater}
use Rattle.sealed_log.specs.Sealed.{IsBody}
use Rattle.changing_commands.proofs.KeptFacts.{begun_by, founding_is}
use Rattle.changing_commands.proofs.begun.begin_journal.Goals as goal

pub returns-in-Ok-put_first-clause-begun : goal.returns-in-Ok-put_first-clause-begun
returns-in-Ok-put_first-clause-begun g c =
    let disk = c.new-log.ensures.disk in
    let log = c.put_first.new.log in
    begun_by g.J.File.Disk _ c.args.founding.now c.in-Ok.file log _ c.in-Ok.ensures.created c.read_forms.ensures
    (c.as_bytes.ensures.value ∙ c.requires) c.in-Ok-put_first.ensures.opened
    (subst (λ (made : _). IsTrue (g.J.File.Disk.is_clean log.disk) → IsTrue (g.J.File.Disk.is_clean made)) disk c.put_first.ensures.clean)
    (subst (λ (made : _). IsLater g.J.File.Disk made log.disk) disk c.put_first.ensures.counts) c.in-Ok-put_first.ensures.has

pub returns-in-Err-put_first-clause-unbegun : goal.returns-in-Err-put_first-clause-unbegun
returns-in-Err-put_first-clause-unbegun g c =
    let log = c.put_first.new.log in
    inr (
      refl,
      (
        c.in-Ok.file,
        log.disk,
        c.in-Ok.ensures.created,
        subst (λ (made : _). IsLater g.J.File.Disk made log.disk) c.new-log.ensures.disk c.put_first.ensures.counts,
        (
          c.remove.result,
          subst (λ (left : _). g.J.Journals.removes c.args.journals.now c.args.path.now left c.remove.result) c.into_disk.ensures c.remove.ensures,
        ),
      ),
    )

pub put_first-requires : goal.put_first-requires
put_first-requires g c =
    subst IsBody (sym (c.as_bytes.ensures.value ∙ c.requires))
    (founding_is c.args.founding.now c.read_forms.ensures).body
