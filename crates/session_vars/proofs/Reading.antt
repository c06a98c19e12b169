-- What is kept of the headers that were read so far.
use Rattle.std.proofs.Common.{◌≡◌, [], ◌∷◌, ◌&&◌, Bool, true, false, not, Option, Some, nat_eq, codes, refl, sym, ◌∙◌, ap}
use Rattle.std.specs.List.{starts_with}
use Rattle.std.specs.Str.{bytes_eq, str_to_ascii_lowercase}
use Rattle.std.proofs.lemmas.Str.Ascii.{lowercase-lowercase}
use Rattle.std.proofs.lemmas.Slice.Eq.{bytes_eq-Decides}
use Rattle.serde_json.specs.Data.{Data, null, boolean, number, string, array, object, Members, member}
use Rattle.role_model.specs.JsonFilters.{names_session}
use Rattle.role_model.specs.Sessions.{added, lowered, secret_header, role_header}
use Rattle.role_model.specs.Texts.{Text, Texts, value_of, with_value}
use Rattle.session_vars.specs.declared.headers.Headers.{Headers}
use Rattle.session_vars.specs.Kept.{kept_of, with_lowered, with_header}
use Rattle.session_vars.proofs.Maps.{Ascends, ascends_with, passed_with, passed_without, found, unchanged, passed_value, differs}

abbrev names_variable : Text → Bool
names_variable name = names_session name && not (bytes_eq name secret_header)

lowered_twice : (name : Text) → str_to_ascii_lowercase (str_to_ascii_lowercase name) ≡ str_to_ascii_lowercase name
lowered_twice [] = refl
lowered_twice (c ∷ cs) = rw (lowercase-lowercase c, lowered_twice cs) refl

-- with the name of a header in lower case
variable_is : (name : Text) (is_secret has_prefix : Bool) → str_to_ascii_lowercase name ≡ name → bytes_eq name secret_header ≡ is_secret → starts_with nat_eq name (codes "x-hasura-") ≡ has_prefix → names_variable name ≡ (has_prefix && not is_secret)
variable_is name is_secret has_prefix low secret prefix = rw (low, secret, prefix) refl

never : (b : Bool) → (b && not true) ≡ false
never true = refl
never false = refl

abbrev headers_from : Option Text → Texts → Headers
headers_from secret vars = record { secret = secret; vars = vars }

same_headers : {s t : Option Text} {xs ys : Texts} → s ≡ t → xs ≡ ys → headers_from s xs ≡ headers_from t ys
same_headers secret vars = cc

with_lowered_by : (name value : Text) (es : Texts) (is_secret has_prefix : Bool) → str_to_ascii_lowercase name ≡ name → bytes_eq name secret_header ≡ is_secret → starts_with nat_eq name (codes "x-hasura-") ≡ has_prefix → Ascends es → with_lowered name value (kept_of es) ≡ kept_of (with_value name value es)
with_lowered_by name value es true has_prefix low secret prefix up =
    let here : value_of secret_header (with_value name value es) ≡ Some value =
    ap (λ (n : Text). value_of n (with_value name value es)) (sym ((bytes_eq-Decides name secret_header).0 secret)) ∙ found name value es in
    rw secret (same_headers (sym here) (sym (passed_without names_variable name value es (variable_is name true has_prefix low secret prefix ∙ never has_prefix))))
with_lowered_by name value es false true low secret prefix up =
    rw (secret, prefix) (same_headers (sym (unchanged secret_header name value es (differs name secret_header secret))) (sym (passed_with names_variable name value es (variable_is name false true low secret prefix) up)))
with_lowered_by name value es false false low secret prefix up =
    rw (secret, prefix) (same_headers (sym (unchanged secret_header name value es (differs name secret_header secret))) (sym (passed_without names_variable name value es (variable_is name false false low secret prefix))))

-- one more header
with_header-kept : (name : Text) (value : Data) (es : Texts) → Ascends es → with_header name value (kept_of es) ≡ kept_of (added name value es)
with_header-kept name null es up = refl
with_header-kept name (boolean b) es up = refl
with_header-kept name (number n) es up = refl
with_header-kept name (string value) es up =
    let low = str_to_ascii_lowercase name in
    with_lowered_by low value es (bytes_eq low secret_header) (starts_with nat_eq low (codes "x-hasura-")) (lowered_twice name) refl refl up
with_header-kept name (array ds) es up = refl
with_header-kept name (object ms) es up = refl

added-ascends : (name : Text) (value : Data) (es : Texts) → Ascends es → Ascends (added name value es)
added-ascends name null es up = up
added-ascends name (boolean b) es up = up
added-ascends name (number n) es up = up
added-ascends name (string value) es up = ascends_with (str_to_ascii_lowercase name) value es up
added-ascends name (array ds) es up = up
added-ascends name (object ms) es up = up

-- These are kept, these are left, of all. The fields have the headers that were read.
pub record IsReading (kept : Headers) (left all : Members) : Type 0 where
  pub seen : Texts
  pub ascends : Ascends seen
  pub kept_is : kept ≡ kept_of seen
  pub all_is : lowered left seen ≡ lowered all []

pub reads_on : (kept more : Headers) (name : Text) (value : Data) (left all : Members) → more ≡ with_header name value kept → IsReading kept (member name value left) all → IsReading more left all
reads_on kept more name value left all step r = record {
  seen = added name value r.seen;
  ascends = added-ascends name value r.seen r.ascends;
  kept_is = step ∙ ap (with_header name value) r.kept_is ∙ with_header-kept name value r.seen r.ascends;
  all_is = r.all_is;
}

-- the role's header is a session variable
pub role_kept : (es : Texts) → value_of role_header (kept_of es).vars ≡ value_of role_header es
role_kept es = passed_value names_variable role_header es refl
