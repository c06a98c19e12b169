-- Metadata that was read may be sent to another thread. A filter holds filters, so nobody makes these by themselves.
use denote.Param.Send.{IsSend, sendable, recorded_send, struct_send}
use denote.Struct.Declared.{shape}
use Rattle.std.proofs.Crossing.{crosses}
use Rattle.name_set.proofs.set.NameSet.TheSendSync as names
use Rattle.plan_model.specs.contracts.filter.Filter as filter
use Rattle.plan_model.proofs.filter.Filter.TheLaws.TheKnot as filter_knot
use Rattle.role_model.specs.contracts.metadata.Grant as grant
use Rattle.role_model.specs.contracts.metadata.RoleDef as role
use Rattle.role_model.specs.contracts.metadata.Metadata as metadata
use Rattle.role_schema.proofs.grants.GrantIndex.TheSendSync as grants
use Rattle.role_schema.specs.contracts.meta.Meta as meta
use Rattle.role_schema.specs.contracts.meta.Meta.TheInside as inside

filter_send : IsSend filter.the_field.row
filter_send = search (filter_knot.crosses, crosses, sendable) depth 60 fits 20000

grant_send : IsSend grant.the_field.row
grant_send = search (filter_send, crosses, sendable) depth 60 fits 20000

role_send : IsSend role.the_field.row
role_send = search (grant_send, crosses, sendable) depth 60 fits 20000

metadata_send : IsSend metadata.the_field.row
metadata_send = search (role_send, crosses, sendable) depth 60 fits 20000

-- said, role_names, table_names, column_names, link_names, grants
inside_send : IsSend inside.the_row
inside_send = recorded_send inside.the_field.row _ _ inside.the_type.to_one (struct_send (shape inside.the_type) (
  metadata_send,
  (
    names.the_send,
    (
      names.the_send,
      (
        search (names.the_send, crosses, sendable) depth 60 fits 20000,
        (
          search (names.the_send, crosses, sendable) depth 60 fits 20000,
          (search (grants.the_send, crosses, sendable) depth 60 fits 20000, tt),
        ),
      ),
    ),
  ),
))

pub meta_send : IsSend meta.the_row
meta_send = search (inside_send, crosses, sendable) depth 60 fits 20000
