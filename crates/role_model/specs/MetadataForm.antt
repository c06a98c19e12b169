-- The keys of metadata in TOML 1.1, the forms of their values, and the defaults of those that may be left out. This
-- project's own.
use Rattle.std.specs.Prelude.{ℕ, ℤ, pos, Bool, true, false, ◌&&◌, List, [], ◌∷◌, if◌then◌else◌, int_le, is_some}
use Rattle.std.specs.Prelude.{unwrap_or, Option, Some, None, option_map, option_and_then, codes}
use Rattle.std.specs.List.{list_any}
use Rattle.std.specs.Str.{bytes_eq}
use Rattle.toml.specs.Data.{Data, Items, no_items, item, Members, no_members, member, get_member}
use Rattle.toml.specs.Data.{as_str, as_bool, as_integer, as_array, as_table}
use Rattle.serde_json.specs.Read.{read}
use Rattle.scalar_val.specs.declared.val.Kind.{Kind}
use Rattle.scalar_val.specs.declared.val.Kind.TheVariants as kind
use Rattle.data_model.specs.declared.catalog.Column.{Column}
use Rattle.role_model.specs.declared.metadata.Document.{Document}
use Rattle.role_model.specs.declared.metadata.TableEntry.{TableEntry}
use Rattle.role_model.specs.declared.metadata.LinkEntry.{LinkEntry}
use Rattle.role_model.specs.declared.metadata.PermissionEntry.{PermissionEntry}
use Rattle.role_model.specs.Texts.{Text}

infixl 10 ◌>>=◌
abbrev pub ◌>>=◌ : {A B : Type 0} → Option A → (A → Option B) → Option B
o >>= f = option_and_then f o

-- values by themselves: none where the value is of another form

abbrev pub filled_text : Data → Option Text
filled_text d = as_str d >>= (λ text. if bytes_eq text [] then None else Some text)

abbrev pub nat_of : ℤ → ℕ
nat_of (pos n) = n
nat_of _ = 0

abbrev pub integer_from : ℕ → ℕ → Data → Option ℕ
integer_from least most d =
    as_integer d >>= (λ z. if int_le (pos least) z && int_le z (pos most) then Some (nat_of z) else None)

abbrev pub kind_named : Text → Option Kind
kind_named text =
    if bytes_eq text (codes "boolean") then Some kind.Bool
    else if bytes_eq text (codes "int") then Some kind.Int
    else if bytes_eq text (codes "bigint") then Some kind.Big
    else if bytes_eq text (codes "text") then Some kind.Text
    else if bytes_eq text (codes "uuid") then Some kind.Uuid
    else None

abbrev pub kind_of : Data → Option Kind
kind_of d = as_str d >>= kind_named

abbrev pub json_text : Data → Option Text
json_text d = as_str d >>= (λ text. if is_some (read text) then Some text else None)

abbrev pub of_items : {A : Type 0} → (Data → Option A) → Items → Option (List A)
of_items f no_items = Some []
of_items f (item d ds) = f d >>= (λ x. option_map (λ xs. x ∷ xs) (of_items f ds))

-- a list, each of its items of this form
abbrev pub list_of : {A : Type 0} → (Data → Option A) → Data → Option (List A)
list_of f d = as_array d >>= of_items f

abbrev pub filled : {A : Type 0} → List A → Option (List A)
filled [] = None
filled (x ∷ xs) = Some (x ∷ xs)

abbrev pub filled_list_of : {A : Type 0} → (Data → Option A) → Data → Option (List A)
filled_list_of f d = list_of f d >>= filled

-- the keys of a table

abbrev pub has_only : List Text → Members → Bool
has_only keys no_members = true
has_only keys (member k d ms) = list_any (bytes_eq k) keys && has_only keys ms

abbrev pub required : {A : Type 0} → (Data → Option A) → Text → Members → Option A
required f key ms = get_member key ms >>= f

abbrev pub may_be : {A : Type 0} → (Data → Option A) → Option Data → Option (Option A)
may_be f None = Some None
may_be f (Some d) = option_map Some (f d)

abbrev pub optional : {A : Type 0} → (Data → Option A) → Text → Members → Option (Option A)
optional f key ms = may_be f (get_member key ms)

abbrev pub with_default : {A : Type 0} → (Data → Option A) → A → Text → Members → Option A
with_default f default key ms = option_map (λ o. unwrap_or o default) (optional f key ms)

-- a table that has only these keys, and what is made of it
abbrev pub table_with : {A : Type 0} → List Text → (Members → Option A) → Data → Option A
table_with keys f d = as_table d >>= (λ ms. if has_only keys ms then f ms else None)

-- a column

abbrev pub column_keys : List Text
column_keys = codes "name" ∷ codes "type" ∷ codes "nullable" ∷ []

abbrev pub column_in : Members → Option Column
column_in ms =
    required as_str (codes "name") ms >>= (λ name.
    required kind_of (codes "type") ms >>= (λ kind.
    with_default as_bool false (codes "nullable") ms >>= (λ nullable.
    Some (record { name = name; kind = kind; nullable = nullable }))))

abbrev pub column_of : Data → Option Column
column_of = table_with column_keys column_in

-- a relationship

abbrev pub link_keys : List Text
link_keys = codes "name" ∷ codes "table" ∷ codes "from" ∷ codes "to" ∷ []

abbrev pub link_in : Members → Option LinkEntry
link_in ms =
    required as_str (codes "name") ms >>= (λ name.
    required as_str (codes "table") ms >>= (λ table.
    required (filled_list_of as_str) (codes "from") ms >>= (λ from.
    required (filled_list_of as_str) (codes "to") ms >>= (λ to.
    Some (record { name = name; table = table; from = from; to = to })))))

abbrev pub link_of : Data → Option LinkEntry
link_of = table_with link_keys link_in

-- a permission

abbrev pub permission_keys : List Text
permission_keys = codes "role" ∷ codes "columns" ∷ codes "filter" ∷ codes "limit" ∷ []

abbrev pub permission_in : Members → Option PermissionEntry
permission_in ms =
    required filled_text (codes "role") ms >>= (λ role.
    required (list_of as_str) (codes "columns") ms >>= (λ columns.
    required json_text (codes "filter") ms >>= (λ filter.
    optional (integer_from 0 2147483647) (codes "limit") ms >>= (λ limit.
    Some (record { role = role; columns = columns; filter = filter; limit = limit })))))

abbrev pub permission_of : Data → Option PermissionEntry
permission_of = table_with permission_keys permission_in

-- a table

abbrev pub table_keys : List Text
table_keys =
    codes "name" ∷ codes "key" ∷ codes "columns" ∷ codes "unique" ∷ codes "max_rows"
    ∷ codes "object" ∷ codes "array" ∷ codes "select" ∷ []

abbrev pub table_in : Members → Option TableEntry
table_in ms =
    required as_str (codes "name") ms >>= (λ name.
    required (filled_list_of as_str) (codes "key") ms >>= (λ key.
    required (filled_list_of column_of) (codes "columns") ms >>= (λ columns.
    with_default (list_of as_str) [] (codes "unique") ms >>= (λ unique.
    with_default (integer_from 1 1048576) 1048576 (codes "max_rows") ms >>= (λ max_rows.
    with_default (list_of link_of) [] (codes "object") ms >>= (λ object.
    with_default (list_of link_of) [] (codes "array") ms >>= (λ array.
    with_default (list_of permission_of) [] (codes "select") ms >>= (λ select.
    Some (record {
      name = name;
      key = key;
      columns = columns;
      unique = unique;
      max_rows = max_rows;
      object = object;
      array = array;
      select = select;
    })))))))))

abbrev pub table_of : Data → Option TableEntry
table_of = table_with table_keys table_in

-- the whole document

abbrev pub document_keys : List Text
document_keys =
    codes "version" ∷ codes "batch_size" ∷ codes "refetch_ms" ∷ codes "admin_secret" ∷ codes "unauthorized_role"
    ∷ codes "tables" ∷ []

abbrev pub document_in : Members → Option Document
document_in ms =
    required as_integer (codes "version") ms >>= (λ version.
    with_default (integer_from 1 1000) 100 (codes "batch_size") ms >>= (λ batch_size.
    with_default (integer_from 1 3600000) 1000 (codes "refetch_ms") ms >>= (λ refetch_ms.
    optional as_str (codes "admin_secret") ms >>= (λ admin_secret.
    optional filled_text (codes "unauthorized_role") ms >>= (λ unauthorized_role.
    required (list_of table_of) (codes "tables") ms >>= (λ tables.
    Some (record {
      version = version;
      batch_size = batch_size;
      refetch_ms = refetch_ms;
      admin_secret = admin_secret;
      unauthorized_role = unauthorized_role;
      tables = tables;
    })))))))

abbrev pub document_of : Members → Option Document
document_of ms = if has_only document_keys ms then document_in ms else None
