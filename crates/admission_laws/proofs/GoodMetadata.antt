-- Metadata that a text says has its relationships, keys and filters within its tables.
use Rattle.std.proofs.Common.{◌≡◌, ℕ, suc, ◌+◌, Bool, true, false, not, ◌||◌, ◌==◌, if◌then◌else◌, List, [], ◌∷◌, ◌++◌, map, find, nat_lt, length, slice_get, is_none, unwrap_or, Option, Some, None, option_map, option_and_then, Result, Ok, Err, refl, ap, sym, ◌∙◌, subst, arith, append_assoc}
use Rattle.std.proofs.lemmas.Bool.{eqb-true, and_parts}
use Rattle.std.proofs.lemmas.Bool.Decides.{nat_tests}
use Rattle.std.proofs.lemmas.Option.{slice_get-map}
use Rattle.std.proofs.lemmas.List.{length-map}
use Rattle.std.specs.Str.{bytes_eq}
use Rattle.std.specs.List.{list_all, list_any, enumerate_from, AllByRecursion}
use Rattle.std.specs.Cmp.Lexicographic.{pointwise}
use Rattle.toml.specs.Data.{Members}
use Rattle.data_model.specs.declared.catalog.Column.{Column}
use Rattle.data_model.specs.declared.catalog.TableDef.{TableDef}
use Rattle.data_model.specs.declared.catalog.Catalog.{Catalog}
use Rattle.plan_model.specs.declared.filter.Filter.{Filter}
use Rattle.role_model.specs.declared.metadata.Document.{Document}
use Rattle.role_model.specs.declared.metadata.TableEntry.{TableEntry}
use Rattle.role_model.specs.declared.metadata.LinkEntry.{LinkEntry}
use Rattle.role_model.specs.declared.metadata.PermissionEntry.{PermissionEntry}
use Rattle.role_model.specs.declared.metadata.LinkDef.{LinkDef}
use Rattle.role_model.specs.declared.metadata.Grant.{Grant}
use Rattle.role_model.specs.declared.metadata.RoleDef.{RoleDef}
use Rattle.role_model.specs.declared.metadata.Metadata.{Metadata}
use Rattle.role_model.specs.declared.metadata.MetaFault.{MetaFault}
use Rattle.role_model.specs.declared.metadata.MetaFault.TheVariants.{TooLong, Toml, BadForm, BadVersion, TooMany, BadName, Duplicate, NoTable, NoColumn, BadKind, BadRole, BadFilter}
use Rattle.role_model.specs.JsonFilters.{filter_of, column_number}
use Rattle.role_model.specs.MetadataForm.{document_of}
use Rattle.role_model.specs.Texts.{Text}
use Rattle.role_model.specs.Roles.{role_of, grants_by, grant_on, links_at, filter_seen, is_admin}
use Rattle.role_model.specs.MetadataNames.{are_one_kind, links_of, table_number, columns_by, columns_of, has_column, kind_in, json_of}
use Rattle.role_model.specs.MetadataFaults.{wrong_version, too_many, bad_name, duplicate, bad_role, bad_filter, no_table, lacks_a_column, link_lacks_a_column, table_lacks_a_column, no_column, links_other_kinds, has_a_bad_kind, bad_kind, first_of, fault_of}
use Rattle.role_model.specs.MetadataMeaning.{numbers_of, table_def, link_def, link_defs, permission_for, session_names, grant_of, grant_for, role_def, role_names, meaning_of, judged_by, formed_by, parsed_by, toml_of, IsMetadata}
use Rattle.plan_model.specs.PlanFits.{width}
use Rattle.query_model.proofs.Positions.{placed_at, place_within, or_parts, none_of, each_at, each_found, each_mapped, each_filtered, each_joined_all, all_from}
use Rattle.admission_laws.proofs.RoleFilters.{is_good, filter_good}

-- ---- metadata without a fault

said_by : (d : Document) (o : Option MetaFault) (m : Metadata) → judged_by d o ≡ Ok m → (o ≡ None) × (meaning_of d ≡ m)
said_by d (Some f) m h = absurd (let q : ◌≡◌ {A = Result Metadata MetaFault} (Err f) (Ok m) = h in cc)
said_by d None m h = (refl, let q : ◌≡◌ {A = Result Metadata MetaFault} (Ok (meaning_of d)) (Ok m) = h in cc)

said : (m : Metadata) → IsMetadata m → (d : Document) × (fault_of d ≡ None) × (meaning_of d ≡ m)
said m i = go (nat_lt 1048576 (length i.0)) (toml_of i.0) i.1
  where
    formed : (o : Option Document) → formed_by o ≡ Ok m → (d : Document) × (fault_of d ≡ None) × (meaning_of d ≡ m)
    formed None h = absurd (let q : ◌≡◌ {A = Result Metadata MetaFault} (Err BadForm) (Ok m) = h in cc)
    formed (Some d) h = let r = said_by d (fault_of d) m h in (d, r.0, r.1)

    go : (b : Bool) (o : Option Members) → (if b then Err TooLong else parsed_by o) ≡ Ok m → (d : Document) × (fault_of d ≡ None) × (meaning_of d ≡ m)
    go true o h = absurd (let q : ◌≡◌ {A = Result Metadata MetaFault} (Err TooLong) (Ok m) = h in cc)
    go false None h = absurd (let q : ◌≡◌ {A = Result Metadata MetaFault} (Err Toml) (Ok m) = h in cc)
    go false (Some ms) h = formed (document_of ms) h

passed : (f : Bool × MetaFault) (fs : List (Bool × MetaFault)) → first_of (f ∷ fs) ≡ None → (f.0 ≡ false) × (first_of fs ≡ None)
passed f fs h = go f.0 h
  where
    go : (b : Bool) → (if b then Some f.1 else first_of fs) ≡ None → (b ≡ false) × (first_of fs ≡ None)
    go true k = absurd (let q : ◌≡◌ {A = Option MetaFault} (Some f.1) None = k in cc)
    go false k = (refl, k)

-- ---- names of columns

not_false : (b : Bool) → not b ≡ false → b ≡ true
not_false true h = refl
not_false false h = absurd (let q : true ≡ false = h in cc)

numbers_within : (columns : List Column) (names : List Text) → lacks_a_column columns names ≡ false → list_all (λ c. nat_lt c (length columns)) (numbers_of columns names) ≡ true
numbers_within columns names h =
    all_from (λ c. nat_lt c (length columns)) (numbers_of columns names)
    (each_mapped (λ name. not (has_column columns name) ≡ false) (λ c. nat_lt c (length columns) ≡ true) (λ name. unwrap_or (column_number columns name) 0)
    (λ name k. place_within (λ (c : Column). bytes_eq name c.name) columns (not_false (has_column columns name) k)) names (none_of (λ name. not (has_column columns name)) names h))

same_length : {X Y : Type 0} (p : X → Y → Bool) (xs : List X) (ys : List Y) → pointwise p xs ys ≡ true → length xs ≡ length ys
same_length p [] [] h = refl
same_length p [] (y ∷ ys) h = absurd (let q : false ≡ true = h in cc)
same_length p (x ∷ xs) [] h = absurd (let q : false ≡ true = h in cc)
same_length p (x ∷ xs) (y ∷ ys) h = ap suc (same_length p xs ys (and_parts (p x y) (pointwise p xs ys) h).1)

eqb_same : (a b : ℕ) → a ≡ b → (a == b) ≡ true
eqb_same a b h = grind (arith, nat_tests)

-- ---- tables

-- a relationship of a table is within the catalog
pub record GoodLink (catalog : Catalog) (table : ℕ) (l : LinkDef) : Type 0 where
  pub there : nat_lt l.table (length catalog.tables) ≡ true
  pub pairs : (length l.from == length l.to) ≡ true
  pub from : list_all (λ c. nat_lt c (width catalog table)) l.from ≡ true
  pub to : list_all (λ c. nat_lt c (width catalog l.table)) l.to ≡ true

module _ (d : Document) (clean : fault_of d ≡ None) where
  abbrev catalog : Catalog
  catalog = (meaning_of d).catalog

  abbrev kinds_on : List (Bool × MetaFault)
  kinds_on = (bad_role d, BadRole) ∷ (bad_filter d, BadFilter) ∷ []

  abbrev columns_on : List (Bool × MetaFault)
  columns_on = (bad_kind d, BadKind) ∷ kinds_on

  abbrev tables_on : List (Bool × MetaFault)
  tables_on = (no_column d, NoColumn) ∷ columns_on

  abbrev names_on : List (Bool × MetaFault)
  names_on = (duplicate d, Duplicate) ∷ (no_table d, NoTable) ∷ tables_on

  rest4 : (no_table d ≡ false) × (no_column d ≡ false) × (bad_kind d ≡ false)
  rest4 =
      let a = passed (wrong_version d, BadVersion) ((too_many d, TooMany) ∷ (bad_name d, BadName) ∷ names_on) clean in
      let b = passed (too_many d, TooMany) ((bad_name d, BadName) ∷ names_on) a.1 in
      let c = passed (bad_name d, BadName) names_on b.1 in
      let e = passed (duplicate d, Duplicate) ((no_table d, NoTable) ∷ tables_on) c.1 in
      let f = passed (no_table d, NoTable) tables_on e.1 in
      let g = passed (no_column d, NoColumn) columns_on f.1 in
      let h = passed (bad_kind d, BadKind) kinds_on g.1 in
      (f.0, g.0, h.0)

  width_at : (i : ℕ) (e : TableEntry) → slice_get d.tables i ≡ Some e → width catalog i ≡ length e.columns
  width_at i e h =
      ap (λ (o : Option TableDef). unwrap_or (option_map (λ (t : TableDef). length t.columns) o) 0) (slice_get-map table_def d.tables i ∙ ap (option_map table_def) h)

  module _ (i : ℕ) (e : TableEntry) (at : slice_get d.tables i ≡ Some e) where
    lacks : table_lacks_a_column d.tables e ≡ false
    lacks = each_at (λ (t : TableEntry). table_lacks_a_column d.tables t ≡ false) d.tables i e (none_of (table_lacks_a_column d.tables) d.tables rest4.1) at

    links_there : AllByRecursion (λ (l : LinkEntry). is_none (table_number d.tables l.table) ≡ false) (links_of e)
    links_there =
        none_of (λ (l : LinkEntry). is_none (table_number d.tables l.table)) (links_of e)
        (each_at (λ (t : TableEntry). list_any (λ (l : LinkEntry). is_none (table_number d.tables l.table)) (links_of t) ≡ false) d.tables i e
        (none_of (λ (t : TableEntry). list_any (λ (l : LinkEntry). is_none (table_number d.tables l.table)) (links_of t)) d.tables rest4.0) at)

    parts1 : ((lacks_a_column e.columns e.key || lacks_a_column e.columns e.unique) || list_any (link_lacks_a_column d.tables e) (links_of e) ≡ false)
    parts1 = (or_parts ((lacks_a_column e.columns e.key || lacks_a_column e.columns e.unique) || list_any (link_lacks_a_column d.tables e) (links_of e)) _ lacks).0

    key_within : list_all (λ c. nat_lt c (width catalog i)) (numbers_of e.columns e.key) ≡ true
    key_within =
        ap (λ n. list_all (λ c. nat_lt c n) (numbers_of e.columns e.key)) (width_at i e at)
        ∙ numbers_within e.columns e.key (or_parts (lacks_a_column e.columns e.key) (lacks_a_column e.columns e.unique) (or_parts (lacks_a_column e.columns e.key || lacks_a_column e.columns e.unique) _ parts1).0).0

    links_complete : AllByRecursion (λ l. link_lacks_a_column d.tables e l ≡ false) (links_of e)
    links_complete = none_of (link_lacks_a_column d.tables e) (links_of e) (or_parts (lacks_a_column e.columns e.key || lacks_a_column e.columns e.unique) _ parts1).1

    links_alike : AllByRecursion (λ l. links_other_kinds d.tables e l ≡ false) (links_of e)
    links_alike =
        none_of (links_other_kinds d.tables e) (links_of e)
        (or_parts _ (list_any (links_other_kinds d.tables e) (links_of e)) (each_at (λ (t : TableEntry). has_a_bad_kind d.tables t ≡ false) d.tables i e (none_of (has_a_bad_kind d.tables) d.tables rest4.2) at)).1

    pairs_of_link : (l : LinkEntry) → links_other_kinds d.tables e l ≡ false → length l.from ≡ length l.to
    unfolding links_other_kinds
    pairs_of_link l h =
        sym (length-map l.from (kind_in e.columns))
        ∙ same_length are_one_kind (map (kind_in e.columns) l.from) (map (kind_in (columns_of d.tables l.table)) l.to) (not_false _ h)
        ∙ length-map l.to (kind_in (columns_of d.tables l.table))

    link_good : (many : Bool) (l : LinkEntry) → is_none (table_number d.tables l.table) ≡ false → link_lacks_a_column d.tables e l ≡ false → links_other_kinds d.tables e l ≡ false → GoodLink catalog i (link_def d.tables e many l)
    link_good many l there complete alike = go (table_number d.tables l.table) refl there
      where
        go : (o : Option ℕ) → table_number d.tables l.table ≡ o → is_none o ≡ false → GoodLink catalog i (link_def d.tables e many l)
        go None k n = absurd (let q : true ≡ false = n in cc)
        go (Some j) k n =
            let at_j = placed_at (λ (t : TableEntry). bytes_eq l.table t.name) d.tables j k in
            let is_j : unwrap_or (table_number d.tables l.table) 0 ≡ j = ap (λ o. unwrap_or o 0) k in
            let columns : columns_of d.tables l.table ≡ at_j.item.columns = ap columns_by at_j.first in
            let lacking = or_parts (lacks_a_column e.columns l.from) (lacks_a_column (columns_of d.tables l.table) l.to) complete in
            record {
              there = ap (λ n. nat_lt n (length (map table_def d.tables))) is_j ∙ ap (nat_lt j) (length-map d.tables table_def) ∙ at_j.within;
              pairs = eqb_same _ _ (length-map l.from _ ∙ pairs_of_link l alike ∙ sym (length-map l.to _));
              from = ap (λ n. list_all (λ c. nat_lt c n) (numbers_of e.columns l.from)) (width_at i e at) ∙ numbers_within e.columns l.from lacking.0;
              to =
                  ap (λ n. list_all (λ c. nat_lt c n) (numbers_of (columns_of d.tables l.table) l.to)) (ap (width catalog) is_j ∙ width_at j at_j.item at_j.there ∙ ap length (sym columns))
                  ∙ numbers_within (columns_of d.tables l.table) l.to lacking.1;
            }

    links_good : AllByRecursion (GoodLink catalog i) (link_defs d.tables e)
    links_good =
        each_joined_all (GoodLink catalog i) (map (link_def d.tables e false) e.object) (map (link_def d.tables e true) e.array)
        (some_good false e.object (front_all _ e.object e.array links_there) (front_all _ e.object e.array links_complete) (front_all _ e.object e.array links_alike))
        (some_good true e.array (back_all _ e.object e.array links_there) (back_all _ e.object e.array links_complete) (back_all _ e.object e.array links_alike))
      where
        front_all : (P : LinkEntry → Type 0) (xs ys : List LinkEntry) → AllByRecursion P (xs ++ ys) → AllByRecursion P xs
        front_all P [] ys all = tt
        front_all P (x ∷ xs) ys all = (all.0, front_all P xs ys all.1)

        back_all : (P : LinkEntry → Type 0) (xs ys : List LinkEntry) → AllByRecursion P (xs ++ ys) → AllByRecursion P ys
        back_all P [] ys all = all
        back_all P (x ∷ xs) ys all = back_all P xs ys all.1

        some_good : (many : Bool) (ls : List LinkEntry) → AllByRecursion (λ (l : LinkEntry). is_none (table_number d.tables l.table) ≡ false) ls → AllByRecursion (λ l. link_lacks_a_column d.tables e l ≡ false) ls →
            AllByRecursion (λ l. links_other_kinds d.tables e l ≡ false) ls → AllByRecursion (GoodLink catalog i) (map (link_def d.tables e many) ls)
        some_good many [] a b c = tt
        some_good many (l ∷ ls) a b c = (link_good many l a.0 b.0 c.0, some_good many ls a.1 b.1 c.1)

  -- ---- filters

  abbrev GoodGrant : Grant → Type 0
  GoodGrant g = is_good (width catalog g.table) g.filter ≡ true

  numbered : (front back : List TableEntry) → d.tables ≡ front ++ back → AllByRecursion (λ (p : ℕ × TableEntry). slice_get d.tables p.0 ≡ Some p.1) (enumerate_from (length front) back)
  numbered front [] h = tt
  numbered front (e ∷ back) h = (
    ap (λ ts. slice_get ts (length front)) h ∙ middle front e back,
    subst (λ n. AllByRecursion (λ (p : ℕ × TableEntry). slice_get d.tables p.0 ≡ Some p.1) (enumerate_from n back)) (grown front e) (numbered (front ++ e ∷ []) back (h ∙ sym (append_assoc front (e ∷ []) back))),
  )
    where
      middle : (xs : List TableEntry) (x : TableEntry) (ys : List TableEntry) → slice_get (xs ++ x ∷ ys) (length xs) ≡ Some x
      middle [] x ys = refl
      middle (y ∷ xs) x ys = middle xs x ys

      grown : (xs : List TableEntry) (x : TableEntry) → length (xs ++ x ∷ []) ≡ length xs + 1
      grown [] x = refl
      grown (y ∷ xs) x = ap suc (grown xs x) ∙ omega arith

  grant_good : (role : Text) (names : List Text) (p : ℕ × TableEntry) → slice_get d.tables p.0 ≡ Some p.1 → (g : Grant) → grant_for role names p ≡ Some g → GoodGrant g
  grant_good role names p at g h = outer (permission_for role p.1) h
    where
      inner : (q : PermissionEntry) (o : Option Filter) → filter_of p.1.columns names (json_of q.filter) ≡ o →
          option_map (λ (f : Filter). record { table = p.0; columns = numbers_of p.1.columns q.columns; filter = f; limit = q.limit }) o ≡ Some g → GoodGrant g
      inner q None e k = absurd (let z : ◌≡◌ {A = Option Grant} None (Some g) = k in cc)
      inner q (Some f) e k =
          let z : ◌≡◌ {A = Option Grant} (Some (record { table = p.0; columns = numbers_of p.1.columns q.columns; filter = f; limit = q.limit })) (Some g) = k in
          let same : record { table = p.0; columns = numbers_of p.1.columns q.columns; filter = f; limit = q.limit } ≡ g = cc in
          subst GoodGrant same (ap (λ n. is_good n f) (width_at p.0 p.1 at) ∙ filter_good p.1.columns names (json_of q.filter) f e)

      outer : (o : Option PermissionEntry) → option_and_then (grant_of names p.0 p.1) o ≡ Some g → GoodGrant g
      outer None k = absurd (let z : ◌≡◌ {A = Option Grant} None (Some g) = k in cc)
      outer (Some q) k = inner q (filter_of p.1.columns names (json_of q.filter)) refl k

  abbrev GoodRole : RoleDef → Type 0
  GoodRole r = AllByRecursion GoodGrant r.grants

  roles_good : AllByRecursion GoodRole (meaning_of d).roles
  roles_good = go (role_names d.tables)
    where
      go : (names : List Text) → AllByRecursion GoodRole (map (role_def d.tables) names)
      go [] = tt
      go (role ∷ names) = (each_filtered (λ (p : ℕ × TableEntry). slice_get d.tables p.0 ≡ Some p.1) GoodGrant (grant_for role (session_names d.tables role)) (grant_good role (session_names d.tables role)) (enumerate_from 0 d.tables) (numbered [] d.tables refl), go names)

-- ---- what a role sees

pub record GoodMetadata (m : Metadata) : Type 0 where
  pub filters : (role : Text) (table : ℕ) (f : Filter) → filter_seen (record { metadata = m; role = role }) table ≡ Some f → is_good (width m.catalog table) f ≡ true
  pub links : (table : ℕ) → AllByRecursion (GoodLink m.catalog table) (links_at (slice_get m.links table))
  pub keys : (table : ℕ) (t : TableDef) → slice_get m.catalog.tables table ≡ Some t → list_all (λ c. nat_lt c (width m.catalog table)) t.key ≡ true

module _ (d : Document) (clean : fault_of d ≡ None) where
  abbrev m : Metadata
  m = meaning_of d

  links : (table : ℕ) → AllByRecursion (GoodLink m.catalog table) (links_at (slice_get m.links table))
  links table = subst (λ o. AllByRecursion (GoodLink m.catalog table) (links_at o)) (sym (slice_get-map (link_defs d.tables) d.tables table)) (go (slice_get d.tables table) refl)
    where
      go : (o : Option TableEntry) → slice_get d.tables table ≡ o → AllByRecursion (GoodLink m.catalog table) (links_at (option_map (link_defs d.tables) o))
      go None e = tt
      go (Some t) e = links_good d clean table t e

  keys : (table : ℕ) (t : TableDef) → slice_get m.catalog.tables table ≡ Some t → list_all (λ c. nat_lt c (width m.catalog table)) t.key ≡ true
  keys table t h = go (slice_get d.tables table) refl (sym (slice_get-map table_def d.tables table) ∙ h)
    where
      go : (o : Option TableEntry) → slice_get d.tables table ≡ o → option_map table_def o ≡ Some t → list_all (λ c. nat_lt c (width m.catalog table)) t.key ≡ true
      go None e k = absurd (let z : ◌≡◌ {A = Option TableDef} None (Some t) = k in cc)
      go (Some u) e k =
          let z : ◌≡◌ {A = Option TableDef} (Some (table_def u)) (Some t) = k in
          let same : table_def u ≡ t = cc in
          subst (λ (x : TableDef). list_all (λ c. nat_lt c (width m.catalog table)) x.key ≡ true) same (key_within d clean table u e)

  granted : (role : Text) (table : ℕ) (g : Grant) → grant_on (record { metadata = m; role = role }) table ≡ Some g → is_good (width m.catalog table) g.filter ≡ true
  granted role table g h = go (role_of (record { metadata = m; role = role })) refl h
    where
      go : (o : Option RoleDef) → role_of (record { metadata = m; role = role }) ≡ o → find (λ (x : Grant). x.table == table) (grants_by o) ≡ Some g → is_good (width m.catalog table) g.filter ≡ true
      go None e k = absurd (let z : ◌≡◌ {A = Option Grant} None (Some g) = k in cc)
      go (Some r) e k =
          let good = (each_found (GoodRole d clean) (λ (x : RoleDef). bytes_eq role x.name) m.roles r (roles_good d clean) e).0 in
          let one = each_found (GoodGrant d clean) (λ (x : Grant). x.table == table) r.grants g good k in
          subst (λ n. is_good (width m.catalog n) g.filter ≡ true) (eqb-true g.table table one.1) one.0

  filters : (role : Text) (table : ℕ) (f : Filter) → filter_seen (record { metadata = m; role = role }) table ≡ Some f → is_good (width m.catalog table) f ≡ true
  filters role table f h = go (is_admin (record { metadata = m; role = role })) (grant_on (record { metadata = m; role = role }) table) refl h
    where
      go : (b : Bool) (o : Option Grant) → grant_on (record { metadata = m; role = role }) table ≡ o → (if b then None else option_map (λ (g : Grant). g.filter) o) ≡ Some f → is_good (width m.catalog table) f ≡ true
      go true o e k = absurd (let z : ◌≡◌ {A = Option Filter} None (Some f) = k in cc)
      go false None e k = absurd (let z : ◌≡◌ {A = Option Filter} None (Some f) = k in cc)
      go false (Some g) e k =
          let z : ◌≡◌ {A = Option Filter} (Some g.filter) (Some f) = k in
          let same : g.filter ≡ f = cc in
          subst (λ x. is_good (width m.catalog table) x ≡ true) same (granted role table g e)

  good_meaning : GoodMetadata (meaning_of d)
  good_meaning = record { filters = filters; links = links; keys = keys }

pub good_metadata : (m : Metadata) → IsMetadata m → GoodMetadata m
good_metadata m i = let r = said m i in subst GoodMetadata r.2 (good_meaning r.0 r.1)
