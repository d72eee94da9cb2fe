use Rattle.std.proofs.Common.{inl, inr, refl}
use Rattle.changing_commands.proofs.serve.bind.Goals as goal

pub returns-in-Ok-address_of-clause-at : goal.returns-in-Ok-address_of-clause-at
returns-in-Ok-address_of-clause-at g c = record {
  address = c.loopback.result;
  is_loopback = c.loopback.ensures.ip;
  has_port = c.loopback.ensures.port;
  bound = c.in-Ok.ensures;
}

pub returns-in-Err-clause-fault : goal.returns-in-Err-clause-fault
returns-in-Err-clause-fault g c = inl (refl, inl (c.loopback.result, c.loopback.ensures.ip, c.loopback.ensures.port, (c.in-Err.field-0, c.in-Err.ensures)))

pub returns-in-Err-address_of-clause-fault : goal.returns-in-Err-address_of-clause-fault
returns-in-Err-address_of-clause-fault g c = inl (refl, inr (c.in-Ok.listener, (c.in-Err-address_of.field-0, c.in-Err-address_of.ensures)))

pub returns-in-Ok-address_of-clause-told : goal.returns-in-Ok-address_of-clause-told
returns-in-Ok-address_of-clause-told g c = (c.in-Ok-address_of.bound, c.in-Ok-address_of.ensures, c.port.ensures)
