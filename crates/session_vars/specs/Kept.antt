-- What is kept of headers while they are read, beside all of them.
use Rattle.std.specs.Prelude.{Some, filter, if◌then◌else◌, nat_eq, codes}
use Rattle.std.specs.List.{starts_with}
use Rattle.std.specs.Str.{bytes_eq, str_to_ascii_lowercase}
use Rattle.serde_json.specs.Data.{Data, string}
use Rattle.role_model.specs.Sessions.{is_session_variable, secret_header}
use Rattle.role_model.specs.Texts.{Text, Texts, value_of, with_value}
use Rattle.session_vars.specs.declared.headers.Headers.{Headers}

-- the secret and the session variables of all headers
abbrev pub kept_of : Texts → Headers
kept_of found = record { secret = value_of secret_header found; vars = filter is_session_variable found }

-- one more header, whose name is in lower case
abbrev pub with_lowered : Text → Text → Headers → Headers
with_lowered name value h =
    if bytes_eq name secret_header
    then record h { secret = Some value }
    else (if starts_with nat_eq name (codes "x-hasura-") then record h { vars = with_value name value h.vars } else h)

-- one more header as it was sent
abbrev pub with_header : Text → Data → Headers → Headers
with_header name (string value) h = with_lowered (str_to_ascii_lowercase name) value h
with_header name _ h = h
