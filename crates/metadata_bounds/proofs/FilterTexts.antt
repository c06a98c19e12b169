-- No filter of a document is longer than its text.
use Rattle.std.proofs.Common.{◌≡◌, ℕ, ◌≤◌, Bool, true, false, List, [], ◌∷◌, length, unwrap_or, is_some, Option, Some, None, option_map, if◌then◌else◌, Ordering, Less, Equal, Greater, codes, arith}
use Rattle.std.specs.Ordering.{nat_cmp, match_ordering}
use Rattle.std.specs.Cmp.Lexicographic.{slice_cmp}
use Rattle.std.specs.List.{AllByRecursion}
use Rattle.std.specs.Str.{is_utf8}
use Rattle.serde_json.specs.Read.{read}
use Rattle.toml.specs.Data.{Data, string, integer, float, boolean, datetime, array, table, Items, no_items, item, Members, no_members, member, get_member, as_str, as_integer}
use Rattle.toml.specs.Parse.{parse_document}
use Rattle.role_model.specs.declared.metadata.TableEntry.{TableEntry}
use Rattle.role_model.specs.declared.metadata.PermissionEntry.{PermissionEntry}
use Rattle.role_model.specs.Texts.{Text}
use Rattle.role_model.specs.MetadataForm.{integer_from, of_items, list_of, filled_list_of, filled_text, json_text, required, may_be, optional, with_default, has_only, table_with, column_of, link_of, permission_keys, permission_in, permission_of, table_keys, table_in, table_of, document_keys, document_in, document_of}
use Rattle.metadata_bounds.specs.Strings.{Short, ShortItems, ShortMembers}
use Rattle.metadata_bounds.specs.Names.{FiltersAreShort}
use Rattle.metadata_bounds.proofs.Given.{Given, absent, given, given_is, given_if, given_map, given_then}
use Rattle.metadata_bounds.proofs.TomlDocuments.{strings_are_short}

-- of what nothing is asked
abbrev Anything : {A : Type 0} → A → Type 0
Anything x = Unit {0}

any : {A : Type 0} (o : Option A) → Given Anything o
any None = absent
any (Some x) = given tt

module _ (n : ℕ) where
  abbrev pub ShortFilter : PermissionEntry → Type 0
  ShortFilter p = length p.filter ≤ n

  abbrev pub ShortSelect : TableEntry → Type 0
  ShortSelect t = AllByRecursion ShortFilter t.select

  -- ---- values

  member_short : (k : Text) (ms : Members) → ShortMembers n ms → Given (Short n) (get_member k ms)
  member_short k no_members all = absent
  member_short k (member l d ms) all = go (slice_cmp nat_cmp k l) (member_short k ms all.1)
    where
      go : (o : Ordering) → Given (Short n) (get_member k ms) → Given (Short n) (match_ordering o (get_member k ms) (Some d) (get_member k ms))
      go Less more = more
      go Equal more = given all.0
      go Greater more = more

  module _ {A : Type 0} (P : A → Type 0) (f : Data → Option A) (each : (d : Data) → Short n d → Given P (f d)) where
    required_given : (k : Text) (ms : Members) → ShortMembers n ms → Given P (required f k ms)
    required_given k ms all = given_then (Short n) f (get_member k ms) (member_short k ms all) each

    default_given : (default : A) → P default → (k : Text) (ms : Members) → ShortMembers n ms → Given P (with_default f default k ms)
    default_given default h k ms all = go (get_member k ms) (member_short k ms all)
      where
        go : (o : Option Data) → Given (Short n) o → Given P (option_map (λ x. unwrap_or x default) (may_be f o))
        go o absent = given h
        go o (given {x = d} s) = given_map (λ (x : Option A). P (unwrap_or x default)) (λ x. unwrap_or x default) (option_map Some (f d)) (given_map P Some (f d) (each d s) (λ x p. p)) (λ x p. p)

    items_given : (ds : Items) → ShortItems n ds → Given (AllByRecursion P) (of_items f ds)
    items_given no_items all = given tt
    items_given (item d ds) all =
        given_then P _ (f d) (each d all.0) (λ x p. given_map (AllByRecursion P) (λ xs. x ∷ xs) (of_items f ds) (items_given ds all.1) (λ xs ps. (p, ps)))

    list_given : (d : Data) → Short n d → Given (AllByRecursion P) (list_of f d)
    list_given (array ds) h = items_given ds h
    list_given (string s) h = absent
    list_given (integer z) h = absent
    list_given (float x) h = absent
    list_given (boolean b) h = absent
    list_given (datetime t) h = absent
    list_given (table ms) h = absent

  table_given : {A : Type 0} (P : A → Type 0) (keys : List Text) (f : Members → Option A) → ((ms : Members) → ShortMembers n ms → Given P (f ms)) → (d : Data) → Short n d → Given P (table_with keys f d)
  table_given P keys f each (table ms) h = given_if (has_only keys ms) (f ms) None (λ e. each ms h) (λ e. absent)
  table_given P keys f each (string s) h = absent
  table_given P keys f each (integer z) h = absent
  table_given P keys f each (float x) h = absent
  table_given P keys f each (boolean b) h = absent
  table_given P keys f each (datetime t) h = absent
  table_given P keys f each (array ds) h = absent

  json_short : (d : Data) → Short n d → Given (λ t. length t ≤ n) (json_text d)
  json_short (string s) h = given_if (is_some (read s)) (Some s) None (λ e. given h) (λ e. absent)
  json_short (integer z) h = absent
  json_short (float x) h = absent
  json_short (boolean b) h = absent
  json_short (datetime t) h = absent
  json_short (array ds) h = absent
  json_short (table ms) h = absent

  -- ---- entries

  permission_in_short : (ms : Members) → ShortMembers n ms → Given ShortFilter (permission_in ms)
  permission_in_short ms all =
      given_then Anything _ (required filled_text (codes "role") ms) (any (required filled_text (codes "role") ms)) (λ role _.
      given_then Anything _ (required (list_of as_str) (codes "columns") ms) (any (required (list_of as_str) (codes "columns") ms)) (λ columns _.
      given_then (λ t. length t ≤ n) _ (required json_text (codes "filter") ms) (required_given (λ t. length t ≤ n) json_text json_short (codes "filter") ms all) (λ filter h.
      given_then Anything _ (optional (integer_from 0 2147483647) (codes "limit") ms) (any (optional (integer_from 0 2147483647) (codes "limit") ms)) (λ limit _.
      given h))))

  permission_short : (d : Data) → Short n d → Given ShortFilter (permission_of d)
  permission_short = table_given ShortFilter permission_keys permission_in permission_in_short

  table_in_short : (ms : Members) → ShortMembers n ms → Given ShortSelect (table_in ms)
  table_in_short ms all =
      given_then Anything _ (required as_str (codes "name") ms) (any (required as_str (codes "name") ms)) (λ name _.
      given_then Anything _ (required (filled_list_of as_str) (codes "key") ms) (any (required (filled_list_of as_str) (codes "key") ms)) (λ key _.
      given_then Anything _ (required (filled_list_of column_of) (codes "columns") ms) (any (required (filled_list_of column_of) (codes "columns") ms)) (λ columns _.
      given_then Anything _ (with_default (list_of as_str) [] (codes "unique") ms) (any (with_default (list_of as_str) [] (codes "unique") ms)) (λ unique _.
      given_then Anything _ (with_default (integer_from 1 1048576) 1048576 (codes "max_rows") ms) (any (with_default (integer_from 1 1048576) 1048576 (codes "max_rows") ms)) (λ max_rows _.
      given_then Anything _ (with_default (list_of link_of) [] (codes "object") ms) (any (with_default (list_of link_of) [] (codes "object") ms)) (λ object _.
      given_then Anything _ (with_default (list_of link_of) [] (codes "array") ms) (any (with_default (list_of link_of) [] (codes "array") ms)) (λ array _.
      given_then (AllByRecursion ShortFilter) _ (with_default (list_of permission_of) [] (codes "select") ms)
      (default_given (AllByRecursion ShortFilter) (list_of permission_of) (list_given ShortFilter permission_of permission_short) [] tt (codes "select") ms all) (λ select h.
      given h))))))))

  table_short : (d : Data) → Short n d → Given ShortSelect (table_of d)
  table_short = table_given ShortSelect table_keys table_in table_in_short

  document_in_short : (ms : Members) → ShortMembers n ms → Given (λ d. AllByRecursion ShortSelect d.tables) (document_in ms)
  document_in_short ms all =
      given_then Anything _ (required as_integer (codes "version") ms) (any (required as_integer (codes "version") ms)) (λ version _.
      given_then Anything _ (with_default (integer_from 1 1000) 100 (codes "batch_size") ms) (any (with_default (integer_from 1 1000) 100 (codes "batch_size") ms)) (λ batch_size _.
      given_then Anything _ (with_default (integer_from 1 3600000) 1000 (codes "refetch_ms") ms) (any (with_default (integer_from 1 3600000) 1000 (codes "refetch_ms") ms)) (λ refetch_ms _.
      given_then Anything _ (optional as_str (codes "admin_secret") ms) (any (optional as_str (codes "admin_secret") ms)) (λ admin_secret _.
      given_then Anything _ (optional filled_text (codes "unauthorized_role") ms) (any (optional filled_text (codes "unauthorized_role") ms)) (λ unauthorized_role _.
      given_then (AllByRecursion ShortSelect) _ (required (list_of table_of) (codes "tables") ms)
      (required_given (AllByRecursion ShortSelect) (list_of table_of) (list_given ShortSelect table_of table_short) (codes "tables") ms all) (λ tables h.
      given h))))))

  pub document_short : (ms : Members) → ShortMembers n ms → Given (λ d. AllByRecursion ShortSelect d.tables) (document_of ms)
  document_short ms all = given_if (has_only document_keys ms) (document_in ms) None (λ e. document_in_short ms all) (λ e. absent)

-- ---- the law

parsed : (text : List ℕ) (ms : Members) (b : Bool) → (if b then parse_document text else None) ≡ Some ms → parse_document text ≡ Some ms
parsed text ms true e = e
parsed text ms false e = absurd (let q : ◌≡◌ {A = Option Members} None (Some ms) = e in cc)

shorter : (n m : ℕ) → n ≤ m → (tables : List TableEntry) → AllByRecursion (ShortSelect n) tables → AllByRecursion (ShortSelect m) tables
shorter n m h [] all = tt
shorter n m h (t ∷ ts) all = (each t.select all.0, shorter n m h ts all.1)
  where
    each : (ps : List PermissionEntry) → AllByRecursion (ShortFilter n) ps → AllByRecursion (ShortFilter m) ps
    each [] all = tt
    each (p ∷ ps) all = let here = all.0 in (omega (arith, h, here), each ps all.1)

pub filters_are_short : FiltersAreShort
filters_are_short text ms d h e f =
    let strings = strings_are_short text ms (parsed text ms (is_utf8 text) e) in
    shorter (length text) 1048576 h d.tables (given_is {P = λ d. AllByRecursion (ShortSelect (length text)) d.tables} (document_of ms) d (document_short (length text) ms strings) f)
