-- Metadata that some text says is sound.
use Rattle.std.proofs.Common.{◌≡◌, ℕ, ◌+◌, ◌<◌, ◌≤◌, zero, suc, Bool, true, false, not, ◌&&◌, ◌||◌, Option, Some, None}
use Rattle.std.proofs.Common.{Ok, Err, Result, List, [], ◌∷◌, ◌++◌, length, map, nat_lt, is_none, unwrap_or}
use Rattle.std.proofs.Common.{option_map, if◌then◌else◌, refl, subst, sym, ap, ◌∙◌, arith}
use Rattle.std.specs.List.{list_any, list_all, AllByRecursion, slice_get, flat_map, filter_map, cons_option}
use Rattle.std.specs.List.{enumerate_from, fold}
use Rattle.std.specs.Str.{bytes_eq}
use Rattle.std.proofs.lemmas.Bool.Decides.{nat_tests}
use Rattle.std.proofs.lemmas.List.{length-map}
use Rattle.std.proofs.lemmas.List.Folds.{list_any-append}
use Rattle.std.proofs.lemmas.Option.{slice_get-map, slice_get_within}
use Rattle.std.proofs.lemmas.Slice.Eq.{bytes_eq-Decides}
use Rattle.toml.specs.Data.{Members}
use Rattle.data_model.proofs.Lists.{all_out, none_from_any, or_false, out_append, out_parts}
use Rattle.data_model.specs.declared.catalog.Column.{Column}
use Rattle.plan_model.specs.declared.filter.Filter.{Filter}
use Rattle.role_model.specs.declared.metadata.Document.{Document}
use Rattle.role_model.specs.declared.metadata.TableEntry.{TableEntry}
use Rattle.role_model.specs.declared.metadata.LinkEntry.{LinkEntry}
use Rattle.role_model.specs.declared.metadata.PermissionEntry.{PermissionEntry}
use Rattle.role_model.specs.declared.metadata.Grant.{Grant}
use Rattle.role_model.specs.declared.metadata.Metadata.{Metadata}
use Rattle.role_model.specs.declared.metadata.MetaFault.{MetaFault}
use Rattle.role_model.specs.declared.metadata.MetaFault.TheVariants.{TooLong}
use Rattle.role_model.specs.JsonFilters.{column_number, mentions, with_text, filter_of}
use Rattle.role_model.specs.MetadataForm.{document_of}
use Rattle.role_model.specs.MetadataNames.{has_twice, root_names, links_of, table_number, columns_of, has_column, kind_in, json_of}
use Rattle.role_model.specs.MetadataFaults.{wrong_version, too_many, bad_name, repeats_a_name, duplicate, no_table, lacks_a_column}
use Rattle.role_model.specs.MetadataFaults.{link_lacks_a_column, table_lacks_a_column, no_column, links_other_kinds}
use Rattle.role_model.specs.MetadataFaults.{has_a_bad_kind, bad_kind, fault_of}
use Rattle.role_model.specs.MetadataMeaning.{numbers_of, table_def, link_def, link_defs, permission_for, mentions_by}
use Rattle.role_model.specs.MetadataMeaning.{session_names, grant_of, grant_for, role_def, role_names, meaning_of}
use Rattle.role_model.specs.MetadataMeaning.{judged_by, formed_by, parsed_by, toml_of, metadata_of, IsMetadata}
use Rattle.role_model.specs.Texts.{Text}
use Rattle.role_schema.proofs.ColumnNames.{HaveOwnTableNames, HaveOwnColumnNames, own_table_names, each_own_columns}
use Rattle.role_schema.proofs.Forms.{LinkForm, TableForm, DocumentForm, document_form, same, steps_of}
use Rattle.role_schema.proofs.LinkNames.{HaveOwnNames, each_own_names}
use Rattle.role_schema.proofs.Slots.{Known, First, first, first_placed, read_fits}
use Rattle.role_schema.proofs.Uses.{found_holds}
use Rattle.metadata_bounds.specs.Names.{HasFewNames}
use Rattle.metadata_bounds.proofs.FewNames.{roles_have_few_names}
use Rattle.role_schema.specs.Sound.{Sound, SoundTable, SoundLink, SoundLinks, SoundGrant, SoundRole, columns_at}
use Rattle.role_schema.specs.Sound.{is_column, is_never_null, kind_at}

-- lists

each : {X : Type 0} (P Q : X → Type 0) → ((x : X) → P x → Q x) → (xs : List X) → AllByRecursion P xs → AllByRecursion Q xs
each P Q f [] h = tt
each P Q f (x ∷ xs) h = (f x h.0, each P Q f xs h.1)

mapped : {X Y : Type 0} (P : Y → Type 0) (f : X → Y) (xs : List X) → AllByRecursion (λ x. P (f x)) xs → AllByRecursion P (map f xs)
mapped P f [] h = tt
mapped P f (x ∷ xs) h = (h.0, mapped P f xs h.1)

both_all : {X : Type 0} (P Q : X → Type 0) (xs : List X) → AllByRecursion P xs → AllByRecursion Q xs → AllByRecursion (λ x. P x × Q x) xs
both_all P Q [] h k = tt
both_all P Q (x ∷ xs) h k = ((h.0, k.0), both_all P Q xs h.1 k.1)

-- where none passes, each fails
none : {X : Type 0} (p : X → Bool) (xs : List X) → list_any p xs ≡ false → AllByRecursion (λ x. p x ≡ false) xs
none p xs h = all_out (λ x. p x ≡ false) xs (none_from_any p xs h)

at_place : {X : Type 0} (P : X → Type 0) (xs : List X) (at : ℕ) (x : X) → AllByRecursion P xs → slice_get xs at ≡ Some x → P x
at_place P [] at x a e = cc
at_place P (y ∷ ys) zero x a e = subst P (same y x e) a.0
at_place P (y ∷ ys) (suc i) x a e = at_place P ys i x a.1 e

-- Booleans

not_true : (b : Bool) → not b ≡ false → b ≡ true
not_true true h = refl
not_true false h = cc

and_false : (a b : Bool) → (a && b) ≡ false → b ≡ true → not a ≡ true
and_false true b h k = cc
and_false false b h k = refl

and_true : (a b : Bool) → a ≡ true → b ≡ true → (a && b) ≡ true
and_true a b h k = rw (h, k) refl

is_below : (n m : ℕ) → n < m → nat_lt n m ≡ true
is_below n m h = grind (arith, nat_tests)

not_above : (n limit : ℕ) → nat_lt limit n ≡ false → n ≤ limit
not_above n limit h = grind (arith, nat_tests)

-- texts

same_text : (a b : Text) → bytes_eq a b ≡ true → a ≡ b
same_text a b h = (bytes_eq-Decides a b).0 h

own_text : (a : Text) → bytes_eq a a ≡ true
own_text a = (bytes_eq-Decides a a).1 refl

-- columns by their names

column_found : (columns : List Column) (name : Text) → not (has_column columns name) ≡ false → First (λ (c : Column). bytes_eq name c.name) columns
column_found columns name h = first (λ (c : Column). bytes_eq name c.name) columns (not_true (has_column columns name) h)

in_range : (columns : List Column) (names : List Text) → lacks_a_column columns names ≡ false → list_all (is_column columns) (numbers_of columns names) ≡ true
in_range columns [] h = refl
in_range columns (name ∷ names) h =
    let parts = or_false (not (has_column columns name)) (lacks_a_column columns names) h in
    let f = column_found columns name parts.0 in
    and_true (nat_lt (unwrap_or (column_number columns name) 0) (length columns)) (list_all (is_column columns) (numbers_of columns names))
    (rw f.placed (is_below f.place (length columns) f.within)) (in_range columns names parts.1)

kinds_same : (columns : List Column) (names : List Text) → lacks_a_column columns names ≡ false → map (kind_at columns) (numbers_of columns names) ≡ map (kind_in columns) names
kinds_same columns [] h = refl
kinds_same columns (name ∷ names) h =
    let parts = or_false (not (has_column columns name)) (lacks_a_column columns names) h in
    let f = column_found columns name parts.0 in
    let here : kind_at columns (unwrap_or (column_number columns name) 0) ≡ kind_in columns name = rw (f.placed, f.stands, f.found) refl in
    rw (here, kinds_same columns names parts.1) refl

more_known : (x : Text) (names xs : List Text) → Known names xs → Known (x ∷ names) xs
more_known x names xs h = each (λ y. list_any (bytes_eq y) names ≡ true) (λ y. list_any (bytes_eq y) (x ∷ names) ≡ true) (λ y k. rw k (or_true (bytes_eq y x))) xs h
  where
    or_true : (b : Bool) → (b || true) ≡ true
    or_true true = refl
    or_true false = refl

own_known : (xs : List Text) → Known xs xs
own_known [] = tt
own_known (x ∷ xs) = (rw (own_text x) refl, more_known x xs xs (own_known xs))

never_null_at : (columns : List Column) (all : List Text) (name : Text) → list_any (λ (c : Column). c.nullable && list_any (bytes_eq c.name) all) columns ≡ false → list_any (bytes_eq name) all ≡ true → not (has_column columns name) ≡ false → is_never_null (slice_get columns (unwrap_or (column_number columns name) 0)) ≡ true
never_null_at columns all name h k l =
    let f = column_found columns name l in
    let told = at_place (λ (c : Column). (c.nullable && list_any (bytes_eq c.name) all) ≡ false) columns f.place f.item (none (λ (c : Column). c.nullable && list_any (bytes_eq c.name) all) columns h) f.stands in
    let known : list_any (bytes_eq f.item.name) all ≡ true = subst (λ n. list_any (bytes_eq n) all ≡ true) (same_text name f.item.name f.passes) k in
    rw (f.placed, f.stands) (and_false f.item.nullable (list_any (bytes_eq f.item.name) all) told known)

never_null : (columns : List Column) (all names : List Text) → list_any (λ (c : Column). c.nullable && list_any (bytes_eq c.name) all) columns ≡ false → Known all names → lacks_a_column columns names ≡ false → list_all (λ c. is_never_null (slice_get columns c)) (numbers_of columns names) ≡ true
never_null columns all [] h k l = refl
never_null columns all (name ∷ names) h k l =
    let parts = or_false (not (has_column columns name)) (lacks_a_column columns names) l in
    and_true (is_never_null (slice_get columns (unwrap_or (column_number columns name) 0))) (list_all (λ c. is_never_null (slice_get columns c)) (numbers_of columns names))
    (never_null_at columns all name h k.0 parts.0) (never_null columns all names h k.1 parts.1)

-- Tables: each has its form and none of the faults.

record Right (tables : List TableEntry) (t : TableEntry) : Type 0 where
  form : TableForm t
  narrow : nat_lt 64 (length t.columns) ≡ false
  linked : list_any (λ (l : LinkEntry). is_none (table_number tables l.table)) (links_of t) ≡ false
  named : table_lacks_a_column tables t ≡ false
  kinds : has_a_bad_kind tables t ≡ false

rights : (tables ts : List TableEntry) → AllByRecursion TableForm ts → list_any (λ (t : TableEntry). nat_lt 64 (length t.columns)) ts ≡ false → list_any (λ (t : TableEntry). list_any (λ (l : LinkEntry). is_none (table_number tables l.table)) (links_of t)) ts ≡ false → list_any (table_lacks_a_column tables) ts ≡ false → list_any (has_a_bad_kind tables) ts ≡ false → AllByRecursion (Right tables) ts
rights tables [] form narrow linked named kinds = tt
rights tables (t ∷ ts) form narrow linked named kinds =
    let n = or_false (nat_lt 64 (length t.columns)) (list_any (λ (t : TableEntry). nat_lt 64 (length t.columns)) ts) narrow in
    let l = or_false (list_any (λ (l : LinkEntry). is_none (table_number tables l.table)) (links_of t)) (list_any (λ (t : TableEntry). list_any (λ (l : LinkEntry). is_none (table_number tables l.table)) (links_of t)) ts) linked in
    let c = or_false (table_lacks_a_column tables t) (list_any (table_lacks_a_column tables) ts) named in
    let k = or_false (has_a_bad_kind tables t) (list_any (has_a_bad_kind tables) ts) kinds in
    (record { form = form.0; narrow = n.0; linked = l.0; named = c.0; kinds = k.0 }, rights tables ts form.1 n.1 l.1 c.1 k.1)

-- the four lists of names of one table

record Named (tables : List TableEntry) (t : TableEntry) : Type 0 where
  key : lacks_a_column t.columns t.key ≡ false
  unique : lacks_a_column t.columns t.unique ≡ false
  links : list_any (link_lacks_a_column tables t) (links_of t) ≡ false
  select : list_any (λ (p : PermissionEntry). lacks_a_column t.columns p.columns) t.select ≡ false

named : (tables : List TableEntry) (t : TableEntry) → table_lacks_a_column tables t ≡ false → Named tables t
named tables t h =
    let a = lacks_a_column t.columns t.key in
    let b = lacks_a_column t.columns t.unique in
    let c = list_any (link_lacks_a_column tables t) (links_of t) in
    let d = list_any (λ (p : PermissionEntry). lacks_a_column t.columns p.columns) t.select in
    let x = or_false (a || b || c) d h in
    let y = or_false (a || b) c x.0 in
    let z = or_false a b y.0 in
    record { key = z.0; unique = z.1; links = y.1; select = x.1 }

table_sound : (tables : List TableEntry) (t : TableEntry) → Right tables t → SoundTable (table_def t)
table_sound tables t r =
    let n = named tables t r.named in
    let k = or_false (list_any (λ (c : Column). c.nullable && list_any (bytes_eq c.name) t.key) t.columns) (list_any (links_other_kinds tables t) (links_of t)) r.kinds in
    record {
      few_columns = not_above (length t.columns) 64 r.narrow;
      keyed = rw (length-map t.key (λ name. unwrap_or (column_number t.columns name) 0)) r.form.keyed;
      key = never_null t.columns t.key t.key k.0 (own_known t.key) n.key;
      unique = in_range t.columns t.unique n.unique;
      room = r.form.room;
    }

-- Relationships

-- the columns of a table, by its name and by its number
found_columns : (tables : List TableEntry) (name : Text) → is_none (table_number tables name) ≡ false → First (λ (t : TableEntry). bytes_eq name t.name) tables
found_columns tables name h = first_placed (λ (t : TableEntry). bytes_eq name t.name) tables h

columns_there : (tables : List TableEntry) (at : ℕ) (t : TableEntry) → slice_get tables at ≡ Some t → columns_at (map table_def tables) at ≡ t.columns
columns_there tables at t h = rw (slice_get-map table_def tables at, h) refl

link_sound : (tables : List TableEntry) (t : TableEntry) (many : Bool) (l : LinkEntry) → LinkForm l → is_none (table_number tables l.table) ≡ false → link_lacks_a_column tables t l ≡ false → links_other_kinds tables t l ≡ false → SoundLink (map table_def tables) t.columns (link_def tables t many l)
unfolding links_other_kinds
link_sound tables t many l form linked named kinds =
    let f = found_columns tables l.table linked in
    let at : unwrap_or (table_number tables l.table) 0 ≡ f.place = rw f.placed refl in
    let there : columns_of tables l.table ≡ f.item.columns = rw f.found refl in
    let same_columns : columns_at (map table_def tables) (unwrap_or (table_number tables l.table) 0) ≡ columns_of tables l.table =
    ap (columns_at (map table_def tables)) at ∙ columns_there tables f.place f.item f.stands ∙ sym there in
    let n = or_false (lacks_a_column t.columns l.from) (lacks_a_column (columns_of tables l.table) l.to) named in
    record {
      table = rw (at, length-map tables table_def) f.within;
      filled = rw (length-map l.from (λ name. unwrap_or (column_number t.columns name) 0)) form;
      from = in_range t.columns l.from n.0;
      to = rw same_columns (in_range (columns_of tables l.table) l.to n.1);
      kinds = rw (same_columns, kinds_same t.columns l.from n.0, kinds_same (columns_of tables l.table) l.to n.1) (not_true _ kinds);
    }

-- relationships of one list
links_each : (tables : List TableEntry) (t : TableEntry) (many : Bool) (ls : List LinkEntry) → AllByRecursion LinkForm ls → list_any (λ (l : LinkEntry). is_none (table_number tables l.table)) ls ≡ false → list_any (link_lacks_a_column tables t) ls ≡ false → list_any (links_other_kinds tables t) ls ≡ false → AllByRecursion (SoundLink (map table_def tables) t.columns) (map (link_def tables t many) ls)
links_each tables t many [] form linked named kinds = tt
links_each tables t many (l ∷ ls) form linked named kinds =
    let x = or_false (is_none (table_number tables l.table)) (list_any (λ (l : LinkEntry). is_none (table_number tables l.table)) ls) linked in
    let y = or_false (link_lacks_a_column tables t l) (list_any (link_lacks_a_column tables t) ls) named in
    let z = or_false (links_other_kinds tables t l) (list_any (links_other_kinds tables t) ls) kinds in
    (link_sound tables t many l form.0 x.0 y.0 z.0, links_each tables t many ls form.1 x.1 y.1 z.1)

none_in_parts : {X : Type 0} (p : X → Bool) (xs ys : List X) → list_any p (xs ++ ys) ≡ false → (list_any p xs ≡ false) × (list_any p ys ≡ false)
none_in_parts p xs ys h = or_false (list_any p xs) (list_any p ys) (sym (list_any-append p xs ys) ∙ h)

table_links : (tables : List TableEntry) (t : TableEntry) → Right tables t → AllByRecursion (SoundLink (map table_def tables) t.columns) (link_defs tables t)
table_links tables t r =
    let n = named tables t r.named in
    let k = or_false (list_any (λ (c : Column). c.nullable && list_any (bytes_eq c.name) t.key) t.columns) (list_any (links_other_kinds tables t) (links_of t)) r.kinds in
    let x = none_in_parts (λ (l : LinkEntry). is_none (table_number tables l.table)) t.object t.array r.linked in
    let y = none_in_parts (link_lacks_a_column tables t) t.object t.array n.links in
    let z = none_in_parts (links_other_kinds tables t) t.object t.array k.1 in
    out_append (SoundLink (map table_def tables) t.columns) (map (link_def tables t false) t.object) (map (link_def tables t true) t.array)
    (links_each tables t false t.object r.form.object x.0 y.0 z.0) (links_each tables t true t.array r.form.array x.1 y.1 z.1)

all_links : (tables ts : List TableEntry) → AllByRecursion (Right tables) ts → SoundLinks (map table_def tables) (map table_def ts) (map (link_defs tables) ts)
all_links tables [] h = tt
all_links tables (t ∷ ts) h = (table_links tables t h.0, all_links tables ts h.1)

-- Session variables: those that a filter names are among the names of its role.

kept : (x y : Text) (found : List Text) → list_any (bytes_eq x) found ≡ true → list_any (bytes_eq x) (with_text found y) ≡ true
kept x y found h = kept_by (list_any (bytes_eq y) found)
  where
    kept_by : (b : Bool) → list_any (bytes_eq x) (if b then found else found ++ y ∷ []) ≡ true
    kept_by true = h
    kept_by false = rw (list_any-append (bytes_eq x) found (y ∷ []), h) refl

put : (y : Text) (found : List Text) → list_any (bytes_eq y) (with_text found y) ≡ true
put y found = put_by (list_any (bytes_eq y) found) refl
  where
    last : (b : Bool) → (b || true) ≡ true
    last true = refl
    last false = refl

    put_by : (b : Bool) → list_any (bytes_eq y) found ≡ b → list_any (bytes_eq y) (if b then found else found ++ y ∷ []) ≡ true
    put_by true e = e
    put_by false e = rw (list_any-append (bytes_eq y) found (y ∷ []), own_text y) (last (list_any (bytes_eq y) found))

kept_all : (x : Text) (ys found : List Text) → list_any (bytes_eq x) found ≡ true → list_any (bytes_eq x) (fold with_text found ys) ≡ true
kept_all x [] found h = h
kept_all x (y ∷ ys) found h = kept_all x ys (with_text found y) (kept x y found h)

put_all : (ys found : List Text) → Known (fold with_text found ys) ys
put_all [] found = tt
put_all (y ∷ ys) found = (kept_all y ys (with_text found y) (put y found), put_all ys (with_text found y))

known_each : {X : Type 0} (names : List Text) (f : X → List Text) (xs : List X) → Known names (flat_map f xs) → AllByRecursion (λ x. Known names (f x)) xs
known_each names f [] h = tt
known_each names f (x ∷ xs) h =
    let parts = out_parts (λ z. list_any (bytes_eq z) names ≡ true) (f x) (flat_map f xs) h in
    (parts.0, known_each names f xs parts.1)

-- Permissions

grant_sound : (tables : List TableEntry) (names : List Text) (at : ℕ) (t : TableEntry) (p : PermissionEntry) (g : Grant) → slice_get tables at ≡ Some t → at < length tables → lacks_a_column t.columns p.columns ≡ false → Known names (mentions (json_of p.filter)) → grant_of names at t p ≡ Some g → SoundGrant (map table_def tables) names g
grant_sound tables names at t p g here within named known e = by (filter_of t.columns names (json_of p.filter)) refl e
  where
    made : (f : Filter) → filter_of t.columns names (json_of p.filter) ≡ Some f → SoundGrant (map table_def tables) names (record { table = at; columns = numbers_of t.columns p.columns; filter = f; limit = p.limit })
    made f h = record {
      table = rw (length-map tables table_def) within;
      columns = rw (columns_there tables at t here) (in_range t.columns p.columns named);
      filter = λ b enough. rw (columns_there tables at t here) (read_fits t.columns names b enough (json_of p.filter) f known h);
    }

    by : (o : Option Filter) → filter_of t.columns names (json_of p.filter) ≡ o → option_map (λ (f : Filter). record { table = at; columns = numbers_of t.columns p.columns; filter = f; limit = p.limit }) o ≡ Some g → SoundGrant (map table_def tables) names g
    by (Some f) h e = subst (SoundGrant (map table_def tables) names) (same _ g e) (made f h)
    by None h e = cc

consed : (P : Grant → Type 0) (o : Option Grant) (gs : List Grant) → ((g : Grant) → o ≡ Some g → P g) → AllByRecursion P gs → AllByRecursion P (cons_option o gs)
consed P (Some g) gs h k = (h g refl, k)
consed P None gs h k = k

grant_of_table : (tables : List TableEntry) (names : List Text) (role : Text) (at : ℕ) (t : TableEntry) → slice_get tables at ≡ Some t → Right tables t → Known names (mentions_by (permission_for role t)) → (g : Grant) → grant_for role names (at, t) ≡ Some g → SoundGrant (map table_def tables) names g
grant_of_table tables names role at t here r known g e =
    let s = steps_of (permission_for role t) (grant_of names at t) g e in
    let fit = found_holds (λ (p : PermissionEntry). lacks_a_column t.columns p.columns ≡ false) (λ (p : PermissionEntry). bytes_eq role p.role) t.select s.value (none (λ (p : PermissionEntry). lacks_a_column t.columns p.columns) t.select (named tables t r.named).select) s.here in
    grant_sound tables names at t s.value g here (slice_get_within tables at t here) fit (subst (λ o. Known names (mentions_by o)) s.here known) s.there

grants_each : (tables : List TableEntry) (names : List Text) (role : Text) (n : ℕ) (ts : List TableEntry) → ((i : ℕ) (t : TableEntry) → slice_get ts i ≡ Some t → slice_get tables (n + i) ≡ Some t) → AllByRecursion (Right tables) ts → AllByRecursion (λ t. Known names (mentions_by (permission_for role t))) ts → AllByRecursion (SoundGrant (map table_def tables) names) (filter_map (grant_for role names) (enumerate_from n ts))
grants_each tables names role n [] at r known = tt
grants_each tables names role n (t ∷ ts) at r known =
    let first_at : slice_get tables n ≡ Some t = subst (λ k. slice_get tables k ≡ Some t) (n_zero n) (at 0 t refl) in
    let others : (i : ℕ) (u : TableEntry) → slice_get ts i ≡ Some u → slice_get tables ((n + 1) + i) ≡ Some u = λ i u e. subst (λ k. slice_get tables k ≡ Some u) (n_suc n i) (at (suc i) u e) in
    consed (SoundGrant (map table_def tables) names) (grant_for role names (n, t)) (filter_map (grant_for role names) (enumerate_from (n + 1) ts))
    (grant_of_table tables names role n t first_at r.0 known.0) (grants_each tables names role (n + 1) ts others r.1 known.1)
  where
    n_zero : (n : ℕ) → n + 0 ≡ n
    n_zero n = omega arith

    n_suc : (n i : ℕ) → n + suc i ≡ (n + 1) + i
    n_suc n i = omega arith

role_sound : (tables : List TableEntry) (role : Text) → AllByRecursion (Right tables) tables → SoundRole (map table_def tables) (role_def tables role)
role_sound tables role r =
    let named_there = flat_map (λ (t : TableEntry). mentions_by (permission_for role t)) tables in
    let known = known_each (session_names tables role) (λ (t : TableEntry). mentions_by (permission_for role t)) tables (put_all named_there []) in
    grants_each tables (session_names tables role) role 0 tables (λ i t e. subst (λ k. slice_get tables k ≡ Some t) (zero_and i) e) r known
  where
    zero_and : (i : ℕ) → i ≡ 0 + i
    zero_and i = omega arith

roles_sound : (tables : List TableEntry) (names : List Text) → AllByRecursion (Right tables) tables → AllByRecursion (SoundRole (map table_def tables)) (map (role_def tables) names)
roles_sound tables [] r = tt
roles_sound tables (name ∷ names) r = (role_sound tables name r, roles_sound tables names r)

-- Documents without a fault

not_this : (b : Bool) (x : MetaFault) (o : Option MetaFault) → (if b then Some x else o) ≡ None → (b ≡ false) × (o ≡ None)
not_this true x o h = cc
not_this false x o h = (refl, h)

record Faultless (d : Document) : Type 0 where
  few : too_many d ≡ false
  once : duplicate d ≡ false
  tables : no_table d ≡ false
  columns : no_column d ≡ false
  kinds : bad_kind d ≡ false

faultless : (d : Document) → fault_of d ≡ None → Faultless d
faultless d h =
    let a = not_this (wrong_version d) _ _ h in
    let b = not_this (too_many d) _ _ a.1 in
    let c = not_this (bad_name d) _ _ b.1 in
    let e = not_this (duplicate d) _ _ c.1 in
    let f = not_this (no_table d) _ _ e.1 in
    let g = not_this (no_column d) _ _ f.1 in
    let i = not_this (bad_kind d) _ _ g.1 in
    record { few = b.0; once = e.0; tables = f.0; columns = g.0; kinds = i.0 }

meaning_sound : (d : Document) → AllByRecursion HasFewNames (meaning_of d).roles → DocumentForm d → fault_of d ≡ None → Sound (meaning_of d)
meaning_sound d few form h =
    let f = faultless d h in
    let size = or_false (nat_lt 256 (length d.tables)) (list_any (λ (t : TableEntry). nat_lt 64 (length t.columns)) d.tables) f.few in
    let r = rights d.tables d.tables form.tables size.1 f.tables f.columns f.kinds in
    record {
      few_tables = rw (length-map d.tables table_def) (not_above (length d.tables) 256 size.0);
      tables = mapped SoundTable table_def d.tables (each (Right d.tables) (λ t. SoundTable (table_def t)) (table_sound d.tables) d.tables r);
      links = all_links d.tables d.tables r;
      roles = roles_sound d.tables (role_names d.tables) r;
      few_names = few;
      batch_size = form.batch_size;
      refetch_ms = form.refetch_ms;
    }

abbrev said_or : Metadata → Result Metadata MetaFault → Metadata
said_or m (Ok n) = n
said_or m (Err fault) = m

same_metadata : (m n : Metadata) → ◌≡◌ {A = Result Metadata MetaFault} (Ok m) (Ok n) → m ≡ n
same_metadata m n e = ap (said_or m) e

abbrev FewIn : Metadata → Type 0
FewIn m = AllByRecursion HasFewNames m.roles

-- what holds of all that a document without a fault says holds of what a text says
module _ (P : Metadata → Type 0) (given : (d : Document) → DocumentForm d → fault_of d ≡ None → P (meaning_of d)) where
  judged : (d : Document) (m : Metadata) → DocumentForm d → (o : Option MetaFault) → fault_of d ≡ o → judged_by d o ≡ Ok m → P m
  judged d m form (Some fault) h e = cc
  judged d m form None h e = subst P (same_metadata (meaning_of d) m e) (given d form h)

  formed : (ms : Members) (m : Metadata) → (o : Option Document) → document_of ms ≡ o → formed_by o ≡ Ok m → P m
  formed ms m (Some d) h e = judged d m (document_form ms d h) (fault_of d) refl e
  formed ms m None h e = cc

  parsed : (m : Metadata) → (b : Bool) (o : Option Members) → (if b then Err TooLong else parsed_by o) ≡ Ok m → P m
  parsed m true o e = cc
  parsed m false (Some ms) e = formed ms m (document_of ms) refl e
  parsed m false None e = cc

  said_so : (m : Metadata) → IsMetadata m → P m
  said_so m said = parsed m (nat_lt 1048576 (length said.0)) (toml_of said.0) said.1

pub text_says : (text : List ℕ) (m : Metadata) → metadata_of text ≡ Ok m → IsMetadata m
text_says text m e = (text, e)

pub metadata_is_sound : (m : Metadata) → IsMetadata m → Sound m
metadata_is_sound m said =
    said_so (λ m. FewIn m → Sound m) (λ d form h few. meaning_sound d few form h) m said (roles_have_few_names m said)

-- No two tables have one name, nor two columns or two relationships of a table.
pub record OwnNames (m : Metadata) : Type 0 where
  pub tables : HaveOwnTableNames m.catalog.tables
  pub columns : HaveOwnColumnNames m.catalog.tables
  pub links : HaveOwnNames m.links

own_names_where_faultless : (d : Document) → DocumentForm d → fault_of d ≡ None → OwnNames (meaning_of d)
own_names_where_faultless d form h =
    let once = or_false (has_twice (flat_map root_names d.tables)) (list_any repeats_a_name d.tables) (faultless d h).once in
    record {
      tables = own_table_names d.tables once.0;
      columns = each_own_columns d.tables once.1;
      links = each_own_names d.tables d.tables once.1;
    }

pub names_are_own : (m : Metadata) → IsMetadata m → OwnNames m
names_are_own = said_so OwnNames own_names_where_faultless
