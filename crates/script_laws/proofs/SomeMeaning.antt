-- No text is without a meaning.
use Rattle.std.proofs.Common.{[], None, refl}
use Rattle.request_model.specs.Selection.{given_values}
use Rattle.role_model.specs.declared.metadata.Metadata.{Metadata}
use Rattle.role_model.specs.declared.session.Session.{Session}
use Rattle.admission_laws.proofs.EachAnswered.{is_answered}
use Rattle.admission_laws.proofs.Selected.{answered_by_selection}
use Rattle.wire_model.specs.ClientMessages as client
use Rattle.wire_model.specs.ClientMessages.{ClientMessage, message}
use Rattle.machine.specs.Messages.{
  Message,
  Init,
  Subscribe,
  Complete,
  Ping,
  Pong,
  Bad,
  Means,
  init,
  subscribe,
  complete,
  ping,
  pong,
  bad,
}
use Rattle.script_laws.specs.Meanings.{IsMeant}

-- any metadata and any session do
abbrev no_tables : Metadata
no_tables = record {
  catalog = record { tables = [] };
  links = [];
  roles = [];
  batch_size = 1;
  refetch_ms = 1;
  secret = None;
  unauthorized_role = None;
}

abbrev no_role : Session
no_role = record { role = []; vars = [] }

has_meaning : (c : ClientMessage) → ((m : Message) → Means c m → ⊥) → ⊥
has_meaning (client.Init payload) none = none (Init payload) init
has_meaning (client.Subscribe id request) none =
    let values = given_values request.variables in
    is_answered no_tables no_role request.query request.operation values (λ answer admits.
    let read = (answered_by_selection no_tables no_role request.query request.operation values answer).0 admits in
    none (Subscribe id (record { selection = read.0; values = values }))
    (subscribe (record { values = refl; selection = read.1 })))
has_meaning (client.Complete id) none = none (Complete id) complete
has_meaning client.Ping none = none Ping ping
has_meaning client.Pong none = none Pong pong
has_meaning client.Bad none = none Bad bad

pub is_meant : IsMeant
is_meant text none = has_meaning (message text) none
