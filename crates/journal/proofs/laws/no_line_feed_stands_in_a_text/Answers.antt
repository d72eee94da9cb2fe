use Rattle.journal.proofs.NoFeeds.{no_controls}
use Rattle.journal.proofs.laws.no_line_feed_stands_in_a_text.Goals as goal

pub returns : goal.returns
returns c = no_controls
