use Rattle.json.proofs.Printed.Places.{Placed-then}
use Rattle.json_tree.proofs.place.place_quoted.Goals as goal

pub returns : goal.returns
returns c = Placed-then c.place_comma-at.ensures (Placed-then c.place_byte-at.ensures (Placed-then c.place_text-at.ensures c.place_text.ensures))
