use Rattle.std.proofs.Common.{IsUtf8, sym, subst}
use Rattle.std.proofs.lemmas.Str.{IsUtf8-append, IsUtf8-string_bytes}
use Rattle.json.proofs.Printed.Utf8.{IsUtf8-quoted}
use Rattle.gql_canon.proofs.values_text.put_string.Goals as goal

pub from_utf8_unchecked-requires : goal.from_utf8_unchecked-requires
from_utf8_unchecked-requires c =
    subst IsUtf8 (sym c.in_ok-write_quoted.ensures.ok)
    (IsUtf8-append _ _
    (subst (λ v. IsUtf8 v.items) (sym c.into_bytes-bytes.ensures.value) (IsUtf8-string_bytes c.replace.result))
    (IsUtf8-quoted _ c.utf8.text))
