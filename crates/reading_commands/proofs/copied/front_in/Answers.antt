use Rattle.std.proofs.Common.{◌≡◌, ◌∙◌, ℕ, List, ap, subst}
use Rattle.std.specs.Prelude.{option_copied}
use Rattle.reading_commands.specs.Copied.{extent_of}
use Rattle.reading_commands.specs.Reading.{HasReadOn}
use Rattle.reading_commands.proofs.FrontFacts.{front_read}
use Rattle.reading_commands.proofs.copied.front_in.Goals as goal

pub returns-clause-bytes : goal.returns-clause-bytes
returns-clause-bytes g c =
    let extent = extent_of (option_copied c.args.log) in
    let came = g.F.File.Read.remaining c.args.file.now in
    let mid = g.F.File.Read.remaining c.read_part.new.file in
    let left = g.F.File.Read.remaining c.read_part-2.new.file in
    let head = c.read_part.new.bytes.items in
    let bytes = c.read_part-2.new.bytes.items in
    let is : c.extent_of-most.result ≡ extent head = c.extent_of-most.ensures.value ∙ ap extent c.deref.ensures.value in
    front_read 100 extent came mid left head bytes
    (subst (λ (b : List ℕ). HasReadOn came mid b head 100) c.new-bytes.ensures.items c.in_ok-read_part.ensures.read)
    (subst (λ (n : ℕ). HasReadOn mid left head bytes n) is c.in_ok-read_part-2.ensures.read)
