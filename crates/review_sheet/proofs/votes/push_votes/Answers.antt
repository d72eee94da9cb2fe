use Rattle.std.proofs.Common.{◌++◌, codes, decimal, length, map}
use Rattle.std.specs.Prelude.{string_bytes}
use Rattle.review_sheet.specs.Review.{vote_line, votes_lines}
use Rattle.review_sheet.proofs.Adding.{line_then}
use Rattle.review_sheet.proofs.votes.push_votes.Goals as goal

pub returns : goal.returns
unfolding votes_lines
returns c =
    let votes = c.args.votes.now in
    line_then (string_bytes c.args.text.now) (string_bytes c.push_count.new.text) (string_bytes c.push_each.new.text)
    (codes "votes: " ++ decimal (length votes)) (map vote_line votes) c.in_ok-push_count.ensures c.in_ok-push_each.ensures
