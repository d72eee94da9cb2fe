use Rattle.profile_commands.proofs.ReadFacts.{read_whole}
use Rattle.reading_commands.proofs.ReadingFacts.{read_from_start}
use Rattle.reading_commands.proofs.document_bytes.document_bytes.Goals as goal

pub returns-in-Ok-read_on-clause-bytes : goal.returns-in-Ok-read_on-clause-bytes
returns-in-Ok-read_on-clause-bytes g c =
    let came = g.F.File.Read.remaining c.in-Ok.file in
    let left = g.F.File.Read.remaining c.read_on.new.file in
    let read = c.in-Ok-read_on.ensures.read in (
      c.in-Ok.file,
      rw c.file_of.ensures at c.in-Ok.ensures,
      read_whole came left c.read_on.new.bytes.items (read_from_start came left c.new-bytes.result.items c.read_on.new.bytes.items 262145 c.new-bytes.ensures.items read) read.ended,
    )
