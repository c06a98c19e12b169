-- Tables and columns by the places of their names: no two tables have one name, nor two columns of a table.
use Rattle.std.proofs.Common.{◌≡◌, ℕ, ◌<◌, zero, suc, Bool, true, false, ◌||◌, Option, Some, None, List, [], ◌∷◌, ◌++◌}
use Rattle.std.proofs.Common.{map, length, option_map, option_and_then, if◌then◌else◌, refl, sym, ap, ◌∙◌, position, codes, IfSome}
use Rattle.std.specs.List.{list_any, AllByRecursion, flat_map, slice_get}
use Rattle.std.specs.Str.{bytes_eq}
use Rattle.std.proofs.lemmas.Bool.{or_parts}
use Rattle.std.proofs.lemmas.List.Folds.{list_any-append}
use Rattle.std.proofs.lemmas.List.Quantifiers.{position-Some}
use Rattle.data_model.specs.declared.catalog.Column.{Column}
use Rattle.data_model.specs.declared.catalog.TableDef.{TableDef}
use Rattle.name_set.specs.Names.{first_at}
use Rattle.name_set.proofs.Positions.{position_here, position_past}
use Rattle.role_model.specs.declared.metadata.TableEntry.{TableEntry}
use Rattle.role_model.specs.JsonFilters.{column_number}
use Rattle.role_model.specs.MetadataFaults.{repeats_a_name}
use Rattle.role_model.specs.MetadataMeaning.{table_def}
use Rattle.role_model.specs.MetadataNames.{has_twice, root_names, field_names, links_of}
use Rattle.role_model.specs.Texts.{Text}
use Rattle.role_schema.proofs.LinkNames.{distinct_once, own_field_names}
use Rattle.role_schema.specs.ColumnNames.{names_in_table, names_of_tables}
use Rattle.role_schema.specs.Sound.{columns_in}

placed_by : {X : Type 0} (name_of : X → Text) (name : Text) (x : X) (xs : List X) (b : Bool) →
    bytes_eq name (name_of x) ≡ b →
    first_at (map name_of xs) name ≡ position (λ y. bytes_eq name (name_of y)) xs →
    first_at (map name_of (x ∷ xs)) name ≡ position (λ y. bytes_eq name (name_of y)) (x ∷ xs)
placed_by name_of name x xs true h k =
    ap (λ (b : Bool). if b then Some zero else option_map suc (first_at (map name_of xs) name)) h
    ∙ sym (position_here (λ y. bytes_eq name (name_of y)) x xs h)
placed_by name_of name x xs false h k =
    ap (λ (b : Bool). if b then Some zero else option_map suc (first_at (map name_of xs) name)) h
    ∙ ap (option_map suc) k
    ∙ sym (position_past (λ y. bytes_eq name (name_of y)) x xs h)

-- the first place of a name is that of the first item that has it
first_placed : {X : Type 0} (name_of : X → Text) (name : Text) (xs : List X) →
    first_at (map name_of xs) name ≡ position (λ x. bytes_eq name (name_of x)) xs
first_placed name_of name [] = refl
first_placed name_of name (x ∷ xs) =
    placed_by name_of name x xs (bytes_eq name (name_of x)) refl (first_placed name_of name xs)

-- no two of the tables have one name
abbrev pub HaveOwnTableNames : List TableDef → Type 0
HaveOwnTableNames tables = has_twice (map (λ (t : TableDef). t.name) tables) ≡ false

pub table_placed : (name : Text) (tables : List TableDef) (names : List Text) (at : Option ℕ) →
    HaveOwnTableNames tables → names ≡ names_of_tables tables → at ≡ first_at names name →
    at ≡ position (λ (t : TableDef). bytes_eq name t.name) tables
table_placed name tables names at own told place =
    place
    ∙ ap (λ ns. first_at ns name) (told ∙ distinct_once (map (λ (t : TableDef). t.name) tables) own)
    ∙ first_placed (λ (t : TableDef). t.name) name tables

-- the columns of each table have names of their own
abbrev pub HaveOwnColumnNames : List TableDef → Type 0
HaveOwnColumnNames tables = AllByRecursion (λ t. has_twice (map (λ (c : Column). c.name) t.columns) ≡ false) tables

placed_at : (name : Text) (tables : List TableDef) (table : ℕ) → HaveOwnColumnNames tables →
    option_and_then (λ ns. first_at ns name) (slice_get (map names_in_table tables) table)
    ≡ option_and_then (λ (t : TableDef). column_number t.columns name) (slice_get tables table)
placed_at name [] table h = refl
placed_at name (t ∷ ts) zero h =
    ap (λ ns. first_at ns name) (distinct_once (map (λ (c : Column). c.name) t.columns) h.0)
    ∙ first_placed (λ (c : Column). c.name) name t.columns
placed_at name (t ∷ ts) (suc at) h = placed_at name ts at h.1

pub column_placed : (name : Text) (tables : List TableDef) (names : List (List Text)) (table : ℕ) (at : Option ℕ) →
    HaveOwnColumnNames tables → names ≡ map names_in_table tables →
    at ≡ option_and_then (λ ns. first_at ns name) (slice_get names table) →
    at ≡ option_and_then (λ (t : TableDef). column_number t.columns name) (slice_get tables table)
column_placed name tables names table at own told place =
    place
    ∙ ap (λ ns. option_and_then (λ ms. first_at ms name) (slice_get ns table)) told
    ∙ placed_at name tables table own

-- ---- a place is within

within_by : {X : Type 0} (p : X → Bool) (xs : List X) (at : ℕ) → position p xs ≡ Some at → at < length xs
within_by p [] at e = cc
within_by p (x ∷ xs) at e = (position-Some p (x ∷ xs) at x e).0

pub within : {X : Type 0} (p : X → Bool) (xs : List X) (o : Option ℕ) → o ≡ position p xs →
    IfSome o (λ at. at < length xs)
within p xs (Some at) e = within_by p xs at (sym e)
within p xs None e = tt

pub column_within : (name : Text) (table : Option TableDef) (o : Option ℕ) →
    o ≡ option_and_then (λ (t : TableDef). column_number t.columns name) table →
    IfSome o (λ at. at < length (columns_in table))
column_within name (Some t) o e = within (λ (c : Column). bytes_eq name c.name) t.columns o e
column_within name None (Some at) e = cc
column_within name None None e = tt

-- ---- the names in a document

once_before : (xs ys : List Text) → has_twice (xs ++ ys) ≡ false → has_twice xs ≡ false
once_before [] ys h = refl
once_before (x ∷ xs) ys h =
    let parts = or_parts (list_any (bytes_eq x) (xs ++ ys)) (has_twice (xs ++ ys)) h in
    let here = or_parts (list_any (bytes_eq x) xs) (list_any (bytes_eq x) ys)
    (sym (list_any-append (bytes_eq x) xs ys) ∙ parts.0) in
    rw here.0 (once_before xs ys parts.1)

pub each_own_columns : (ts : List TableEntry) → list_any repeats_a_name ts ≡ false →
    HaveOwnColumnNames (map table_def ts)
each_own_columns [] h = tt
each_own_columns (t ∷ ts) h =
    let parts = or_parts (repeats_a_name t) (list_any repeats_a_name ts) h in (
      once_before (map (λ (c : Column). c.name) t.columns) (map (λ l. l.name) (links_of t)) (own_field_names t parts.0),
      each_own_columns ts parts.1,
    )

-- a name that no root field has is no table's
not_a_table : (name : Text) (ts : List TableEntry) → list_any (bytes_eq name) (flat_map root_names ts) ≡ false →
    list_any (bytes_eq name) (map (λ (t : TableDef). t.name) (map table_def ts)) ≡ false
not_a_table name [] h = refl
not_a_table name (t ∷ ts) h =
    let parts = or_parts (list_any (bytes_eq name) (root_names t)) (list_any (bytes_eq name) (flat_map root_names ts))
    (sym (list_any-append (bytes_eq name) (root_names t) (flat_map root_names ts)) ∙ h) in
    let here = or_parts (bytes_eq name t.name) _ parts.0 in
    rw here.0 (not_a_table name ts parts.1)

-- the names of the root fields of the other tables stand once, and this table's isn't among them
pub own_table_names : (ts : List TableEntry) → has_twice (flat_map root_names ts) ≡ false →
    HaveOwnTableNames (map table_def ts)
own_table_names [] h = refl
own_table_names (t ∷ ts) h =
    let key = t.name ++ codes "_by_pk" in
    let stream = t.name ++ codes "_stream" in
    let others = flat_map root_names ts in
    let parts = or_parts (list_any (bytes_eq t.name) (key ∷ stream ∷ others)) (has_twice (key ∷ stream ∷ others)) h in
    let past_key = or_parts (bytes_eq t.name key) (list_any (bytes_eq t.name) (stream ∷ others)) parts.0 in
    let past_stream = or_parts (bytes_eq t.name stream) (list_any (bytes_eq t.name) others) past_key.1 in
    let rest = or_parts (list_any (bytes_eq key) (stream ∷ others)) (has_twice (stream ∷ others)) parts.1 in
    let last = or_parts (list_any (bytes_eq stream) others) (has_twice others) rest.1 in
    rw (not_a_table t.name ts past_stream.1) (own_table_names ts last.1)
