-- `lm_fields::fields` meets its contract. Each kind has its own.
-- Assumes nothing.
use Rattle.read_steps.proofs.Flow.{reads_nothing}
use Rattle.lm_items.specs.Asked.{two_octets, field_items}
use Rattle.lm_fields.proofs.fields.Goals as goal

pub returns-in-NullNetworking : goal.returns-in-NullNetworking
unfolding field_items
returns-in-NullNetworking c = rw c.in-NullNetworking.is reads_nothing

pub returns-in-Session : goal.returns-in-Session
unfolding field_items two_octets
returns-in-Session c = rw c.in-Session.is c.pair.ensures

pub returns-in-UserData : goal.returns-in-UserData
unfolding field_items
returns-in-UserData c = rw c.in-UserData.is reads_nothing
