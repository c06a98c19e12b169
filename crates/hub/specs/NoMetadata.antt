-- Metadata that says nothing.
use Rattle.std.specs.Prelude.{[], None}
use Rattle.role_model.specs.declared.metadata.Metadata.{Metadata}

abbrev pub no_metadata : Metadata
no_metadata =
    record {
      catalog = record { tables = [] };
      links = [];
      roles = [];
      batch_size = 1;
      refetch_ms = 0;
      secret = None;
      unauthorized_role = None;
    }
