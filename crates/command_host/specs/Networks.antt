-- The addresses at which a program may listen.
use Rattle.std.specs.Prelude.{◌≡◌, [], ◌∷◌}
use Rattle.std.specs.declared.net.ip_addr.IpAddr.{IpAddr}
use Rattle.std.specs.declared.net.ip_addr.IpAddr.TheVariants as ip
use Rattle.std.specs.Net.Addr.{ipv4_octets}

-- the address 127.0.0.1, which no other host can reach
abbrev pub IsLoopback : IpAddr → Type 0
IsLoopback (ip.V4 address) = ipv4_octets address ≡ 127 ∷ 0 ∷ 0 ∷ 1 ∷ []
IsLoopback (ip.V6 address) = ⊥
