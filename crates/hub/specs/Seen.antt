-- What contracts see of a hub, and what holds of every hub.
use Rattle.std.specs.Prelude.{◌≡◌, ◌≤◌, List, []}
use Rattle.machine.specs.State.{Event}
use Rattle.hub_model.specs.Kept.{Kept}
use Rattle.hub_model.specs.Stands.{StandsFor}
use Rattle.hub.specs.declared.center.Hub.TheInside.{Inside}

abbrev pub seen : Inside → Kept
seen x =
    record {
      meta = x.meta;
      tables = x.snapshot.tables;
      version = x.version;
      connections = x.connections.connections;
      held = x.held;
      entries = x.cohorts.entries;
      jobs = x.jobs.items;
      subscribed = x.subscribed;
      jobs_made = x.jobs_made;
      events = x.events;
    }

-- It stands for some history; between two calls nothing is promised and no move is ready.
pub record IsSound (x : Inside) : Type 0 where
  pub catalog : x.snapshot.catalog ≡ x.meta.catalog
  pub promised : x.connections.promised ≡ []
  pub ready : x.cohorts.ready ≡ []
  pub version : x.version ≤ x.events
  pub subscribed : x.subscribed ≤ x.events
  pub jobs_made : x.jobs_made ≤ x.events
  pub history : List Event
  pub stands : StandsFor (seen x) history
