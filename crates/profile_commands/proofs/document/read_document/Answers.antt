use Rattle.std.proofs.Common.{◌≡◌, Err, subst}
use Rattle.profile_text.specs.declared.fault.DocFault.{DocFault}
use Rattle.profile_text.specs.declared.fault.DocFault.TheVariants.{NotJson}
use Rattle.profile_text.specs.declared.profile.Profile.{Profile}
use Rattle.profile_text.specs.Reading.{Gives, reading_of}
use Rattle.profile_commands.proofs.ReadFacts.{no_json_as, refuses_as}
use Rattle.profile_commands.proofs.document.read_document.Goals as goal

pub returns-in-Err-NotJson-clause-document : goal.returns-in-Err-NotJson-clause-document
returns-in-Err-NotJson-clause-document c =
    let is : c.in-Err-NotJson.field-0 ≡ NotJson = cc in
    let gives = subst (λ (f : DocFault). Gives {X = Profile} (Err f) (reading_of c.args.bytes.now)) is c.in-Err-NotJson.ensures.reading in
    no_json_as _ _ gives c.no_json.ensures

pub returns-in-Err-clause-document : goal.returns-in-Err-clause-document
returns-in-Err-clause-document c = refuses_as _ c.in-Err.fault _ c.in-Err.ensures.reading c.from.ensures
