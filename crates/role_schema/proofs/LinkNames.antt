-- Relationships by the places of their names: the relationships of a table have names of their own.
use Rattle.std.proofs.Common.{◌≡◌, ℕ, zero, suc, Bool, true, false, ◌||◌, Option, Some, None, List, [], ◌∷◌, ◌++◌, map, find}
use Rattle.std.proofs.Common.{option_map, option_and_then, if◌then◌else◌, cond, refl, sym, ap, ◌∙◌}
use Rattle.std.specs.List.{list_any, AllByRecursion, fold, slice_get}
use Rattle.std.specs.Str.{bytes_eq}
use Rattle.std.proofs.lemmas.Bool.{or_parts}
use Rattle.std.proofs.lemmas.List.{append-nil, append_assoc, map-append}
use Rattle.name_set.specs.Names.{first_at}
use Rattle.name_set.proofs.NameRules.{turned}
use Rattle.role_model.specs.declared.metadata.LinkDef.{LinkDef}
use Rattle.role_model.specs.declared.metadata.LinkEntry.{LinkEntry}
use Rattle.role_model.specs.declared.metadata.TableEntry.{TableEntry}
use Rattle.role_model.specs.JsonFilters.{with_text, distinct}
use Rattle.role_model.specs.MetadataMeaning.{link_def, link_defs}
use Rattle.role_model.specs.MetadataNames.{has_twice, links_of, field_names}
use Rattle.role_model.specs.MetadataFaults.{repeats_a_name}
use Rattle.role_model.specs.Roles.{links_at}
use Rattle.role_model.specs.Texts.{Text}
use Rattle.role_schema.proofs.FirstPlaces.{first_found}
use Rattle.role_schema.specs.LinkNames.{names_of_links}

-- names of which none stands twice

abbrev names_in : List LinkDef → List Text
names_in links = map (λ (l : LinkDef). l.name) links

-- none of the names is among those that were found
abbrev NewTo : List Text → List Text → Type 0
NewTo found names = AllByRecursion (λ t. list_any (bytes_eq t) found ≡ false) names

one_more : (x y : Text) (found : List Text) → list_any (bytes_eq y) found ≡ false → bytes_eq y x ≡ false →
    list_any (bytes_eq y) (found ++ x ∷ []) ≡ false
one_more x y [] h k = rw k refl
one_more x y (f ∷ fs) h k =
    let parts = or_parts (bytes_eq y f) (list_any (bytes_eq y) fs) h in
    rw (parts.0) (one_more x y fs parts.1 k)

still_new : (x : Text) (found ys : List Text) → NewTo found ys → list_any (bytes_eq x) ys ≡ false →
    NewTo (found ++ x ∷ []) ys
still_new x found [] h k = tt
still_new x found (y ∷ ys) h k =
    let parts = or_parts (bytes_eq x y) (list_any (bytes_eq x) ys) k in
    (one_more x y found h.0 (turned y x ∙ parts.0), still_new x found ys h.1 parts.1)

all_put : (found ys : List Text) → NewTo found ys → has_twice ys ≡ false → fold with_text found ys ≡ found ++ ys
all_put found [] h k = sym (append-nil found)
all_put found (y ∷ ys) h k =
    let parts = or_parts (list_any (bytes_eq y) ys) (has_twice ys) k in
    ap (λ (b : Bool). fold with_text (if b then found else found ++ y ∷ []) ys) h.0
    ∙ all_put (found ++ y ∷ []) ys (still_new y found ys h.1 parts.0) parts.1
    ∙ append_assoc found (y ∷ []) ys

none_found : (ys : List Text) → NewTo [] ys
none_found [] = tt
none_found (y ∷ ys) = (refl, none_found ys)

pub distinct_once : (ys : List Text) → has_twice ys ≡ false → distinct ys ≡ ys
distinct_once ys k = all_put [] ys (none_found ys) k

abbrev link_by : Text → List LinkDef → Option LinkDef
link_by name links = find (λ (l : LinkDef). bytes_eq name l.name) links

-- the relationships of each table have names of their own
abbrev pub HaveOwnNames : List (List LinkDef) → Type 0
HaveOwnNames all = AllByRecursion (λ links. has_twice (map (λ (l : LinkDef). l.name) links) ≡ false) all

-- the place of a name among the names of one of the tables
abbrev place_of : Text → Option (List Text) → Option ℕ
place_of name names = option_and_then (λ ns. first_at ns name) names

found_at : (name : Text) (all : List (List LinkDef)) (table : ℕ) → HaveOwnNames all →
    option_and_then (slice_get (links_at (slice_get all table)))
    (place_of name (slice_get (map names_of_links all) table)) ≡ link_by name (links_at (slice_get all table))
found_at name [] table h = refl
found_at name (ls ∷ rest) zero h =
    ap (λ ns. option_and_then (slice_get ls) (first_at ns name)) (distinct_once (names_in ls) h.0)
    ∙ first_found (λ (l : LinkDef). l.name) name ls
found_at name (ls ∷ rest) (suc at) h = found_at name rest at h.1

-- the relationship of a name stands at the first place of the name
pub link_found : (name : Text) (all : List (List LinkDef)) (names : List (List Text)) (table : ℕ) (at : Option ℕ)
    (r : Option LinkDef) → HaveOwnNames all → names ≡ map names_of_links all →
    at ≡ option_and_then (λ ns. first_at ns name) (slice_get names table) →
    r ≡ option_and_then (slice_get (links_at (slice_get all table))) at →
    r ≡ find (λ (l : LinkDef). bytes_eq name l.name) (links_at (slice_get all table))
link_found name all names table at r own told place got =
    got
    ∙ ap (option_and_then (slice_get (links_at (slice_get all table))))
    (place ∙ ap (λ ns. place_of name (slice_get ns table)) told)
    ∙ found_at name all table own

-- the names of the relationships in a document

names_are : (f : LinkEntry → LinkDef) → ((l : LinkEntry) → (f l).name ≡ l.name) → (ls : List LinkEntry) →
    names_in (map f ls) ≡ map (λ (l : LinkEntry). l.name) ls
names_are f same [] = refl
names_are f same (l ∷ ls) = ap (λ t. t ∷ names_in (map f ls)) (same l) ∙ ap (λ ts. l.name ∷ ts) (names_are f same ls)

names_kept : (tables : List TableEntry) (t : TableEntry) →
    names_in (link_defs tables t) ≡ map (λ (l : LinkEntry). l.name) (links_of t)
names_kept tables t =
    map-append (λ (l : LinkDef). l.name) (map (link_def tables t false) t.object) (map (link_def tables t true) t.array)
    ∙ ap (λ ts. ts ++ names_in (map (link_def tables t true) t.array))
    (names_are (link_def tables t false) (λ l. refl) t.object)
    ∙ ap (λ ts. map (λ (l : LinkEntry). l.name) t.object ++ ts)
    (names_are (link_def tables t true) (λ l. refl) t.array)
    ∙ sym (map-append (λ (l : LinkEntry). l.name) t.object t.array)

once_after : (xs ys : List Text) → has_twice (xs ++ ys) ≡ false → has_twice ys ≡ false
once_after [] ys h = h
once_after (x ∷ xs) ys h = once_after xs ys (or_parts (list_any (bytes_eq x) (xs ++ ys)) (has_twice (xs ++ ys)) h).1

own_names : (tables : List TableEntry) (t : TableEntry) → has_twice (field_names t) ≡ false →
    has_twice (names_in (link_defs tables t)) ≡ false
own_names tables t h =
    ap has_twice (names_kept tables t)
    ∙ once_after (map (λ c. c.name) t.columns) (map (λ (l : LinkEntry). l.name) (links_of t)) h

one_of_five : (a b c d e : Bool) → (a || b || c || d || e) ≡ false → a ≡ false
one_of_five false b c d e h = refl
one_of_five true b c d e h = h

pub own_field_names : (t : TableEntry) → repeats_a_name t ≡ false → has_twice (field_names t) ≡ false
own_field_names t h =
    one_of_five (has_twice (field_names t)) (has_twice t.key) (has_twice t.unique)
    (list_any (λ p. has_twice p.columns) t.select) (has_twice (map (λ p. p.role) t.select)) h

pub each_own_names : (tables ts : List TableEntry) → list_any repeats_a_name ts ≡ false →
    HaveOwnNames (map (link_defs tables) ts)
each_own_names tables [] h = tt
each_own_names tables (t ∷ ts) h =
    let parts = or_parts (repeats_a_name t) (list_any repeats_a_name ts) h in
    (own_names tables t (own_field_names t parts.0), each_own_names tables ts parts.1)
