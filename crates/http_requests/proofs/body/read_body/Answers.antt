use Rattle.std.proofs.Common.{◌≡◌, ◌∙◌, ◌++◌, List, ℕ, length, take, ap, sym}
use Rattle.http_requests.proofs.FillFacts.{begun, body_filled}
use Rattle.http_requests.proofs.body.read_body.Goals as goal

pub returns-clause-body : goal.returns-clause-body
returns-clause-body g c =
    let held = c.min-held.result in
    let front = c.args.front.now in
    let sized : length c.resize.new.self.items ≡ c.args.size = sym c.resize.new.self.ok.0 ∙ c.in_ok-resize.ensures.len in
    let extended : c.extend_from_slice.new.self.items ≡ take held front = ◌∙◌ {A = List ℕ} c.in_ok-extend_from_slice.ensures.items (ap (λ (bytes : List ℕ). bytes ++ take held front) c.in_ok-body.ensures.items) in
    let same : take held c.resize.new.self.items ≡ take held front = begun front _ _ _ held c.args.size c.min-held.ensures extended c.in_ok-resize.ensures.items in
    body_filled _ _ front held c.args.size _ c.min-held.ensures sized same _ c.in_ok-fill.ensures.filled
