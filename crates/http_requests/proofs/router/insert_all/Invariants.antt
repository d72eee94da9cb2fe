use Rattle.std.proofs.Common.{◌≡◌, drop, map, take, true, fold}
use Rattle.http_requests.specs.Table.{fits, with_route}
use Rattle.http_requests.proofs.router.insert_all.Given as goal

abbrev pub invariant-loop-text : goal.invariant-loop-text
invariant-loop-text l =
    (l.router ≡ fold with_route l.fn.router (map (λ e. (e.0.now, e.1)) (take l.text-index l.routes)))
    × (fits l.router (map (λ e. (e.0.now, e.1)) (drop l.text-index l.routes)) ≡ true)
