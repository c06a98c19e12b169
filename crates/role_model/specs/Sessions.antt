-- Who a connection acts for, by the headers that it sends. The headers are Hasura's; the rules for secrets, for the
-- unauthorized role and for repeated headers are this project's own.
use Rattle.std.specs.Prelude.{Bool, true, false, not, ◌&&◌, [], if◌then◌else◌, unwrap_or, codes, filter}
use Rattle.std.specs.Prelude.{Option, Some, None, option_and_then}
use Rattle.std.specs.Str.{bytes_eq, str_to_ascii_lowercase}
use Rattle.serde_json.specs.Data.{Data, string, Members, no_members, member}
use Rattle.serde_json.specs.Find.{get, as_object}
use Rattle.role_model.specs.declared.session.Identity.{Identity}
use Rattle.role_model.specs.declared.session.Identity.TheVariants.{Allowed, Forbidden}
use Rattle.role_model.specs.declared.metadata.Metadata.{Metadata}
use Rattle.role_model.specs.JsonFilters.{names_session}
use Rattle.role_model.specs.Texts.{Text, Texts, value_of, with_value}

-- the object `headers` of the payload
abbrev pub headers_of : Option Data → Members
headers_of payload = unwrap_or (option_and_then as_object (option_and_then (get (codes "headers")) payload)) no_members

-- The headers by their names in lower case. Members ascend by their spelling, so of several spellings of one name the
-- greatest comes last, and counts. Headers whose values aren't strings are ignored.
abbrev pub added : Text → Data → Texts → Texts
added name (string value) found = with_value (str_to_ascii_lowercase name) value found
added name _ found = found

abbrev pub lowered : Members → Texts → Texts
lowered no_members found = found
lowered (member name value more) found = lowered more (added name value found)

abbrev pub secret_header : Text
secret_header = codes "x-hasura-admin-secret"

abbrev pub role_header : Text
role_header = codes "x-hasura-role"

abbrev pub is_secret : Text → Option Text → Bool
is_secret secret (Some shown) = bytes_eq shown secret
is_secret secret None = false

-- no secret is configured, or the header shows it
abbrev pub is_trusted : Option Text → Texts → Bool
is_trusted None headers = true
is_trusted (Some secret) headers = is_secret secret (value_of secret_header headers)

abbrev pub is_session_variable : Text × Text → Bool
is_session_variable e = names_session e.0 && not (bytes_eq e.0 secret_header)

abbrev pub unauthorized : Option Text → Identity
unauthorized (Some role) = Allowed (record { role = role; vars = [] })
unauthorized None = Forbidden

-- a trusted request has the role of its header, by default `admin`, and its session variables; any other has the
-- unauthorized role, where one is configured
abbrev pub identity_by : Metadata → Texts → Identity
identity_by m headers =
    if is_trusted m.secret headers
    then Allowed (record {
      role = unwrap_or (value_of role_header headers) (codes "admin");
      vars = filter is_session_variable headers;
    })
    else unauthorized m.unauthorized_role

abbrev pub identity_of : Metadata → Option Data → Identity
identity_of m payload = identity_by m (lowered (headers_of payload) [])
