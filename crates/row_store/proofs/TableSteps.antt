-- One table among the tables of a database.
use Rattle.std.proofs.Common.{◌≡◌, ℕ, ◌<◌, Bool, true, false, if◌then◌else◌, Some, List, [], length, map, get_or, sym, ap, subst, ◌∙◌, arith}
use Rattle.std.specs.List.{slice_get, slice_set}
use Rattle.std.specs.Prelude.{Result}
use Rattle.std.proofs.lemmas.List.{length-map, get_or-map, map-set, set-get_or}
use Rattle.std.proofs.lemmas.Option.{unwrap_or-slice_get, slice_get-get_or}
use Rattle.scalar_val.specs.declared.text.NoMemory.{NoMemory}
use Rattle.data_model.specs.declared.catalog.Catalog.{Catalog}
use Rattle.data_model.specs.declared.catalog.TableDef.{TableDef}
use Rattle.data_model.specs.Rows.{Rows, Database, FitsTable, FitAll}
use Rattle.data_model.proofs.Fitting.{fits_at, fits_with, as_many, no_rows_fit}
use Rattle.row_store.specs.declared.stored.Stored.{Stored}
use Rattle.row_store.specs.Held.{Held, no_table, def_at, rows_in, table_at, rows_at, with_rows}
use Rattle.row_store.specs.Stored.{is_done, after}

pub in_range : {A : Type 0} (f : A → Rows) (defs : List TableDef) (tables : List A) (at : ℕ) → FitAll defs (map f tables) → at < length tables → at < length defs
in_range f defs tables at fits within = omega (arith, as_many defs (map f tables) fits, length-map tables f)

pub some_def : (defs : List TableDef) (at : ℕ) → at < length defs → slice_get defs at ≡ Some (def_at defs at)
some_def defs at within = slice_get-get_or defs at no_table within ∙ ap (λ (t : TableDef). Some t) (sym (unwrap_or-slice_get defs at no_table))

pub rows_are : {A : Type 0} (f : A → Rows) (tables : List A) (at : ℕ) (d : A) → at < length tables → rows_in (map f tables) at ≡ f (get_or tables at d)
rows_are f tables at d within = unwrap_or-slice_get (map f tables) at [] ∙ get_or-map f tables at d [] within

pub table_fits : {A : Type 0} (f : A → Rows) (defs : List TableDef) (tables : List A) (at : ℕ) (d : A) → FitAll defs (map f tables) → at < length tables → FitsTable (def_at defs at) (f (get_or tables at d))
table_fits f defs tables at d fits within =
    subst (λ rows. FitsTable (def_at defs at) rows) (rows_are f tables at d within)
    (fits_at defs (map f tables) at (def_at defs at) fits (some_def defs at (in_range f defs tables at fits within)))

by_done : {A : Type 0} (f : A → Rows) (tables : List A) (at : ℕ) (d y : A) (made : Rows) (done : Bool) → at < length tables → f y ≡ (if done then made else f (get_or tables at d)) → slice_set (map f tables) at (f y) ≡ (if done then slice_set (map f tables) at made else map f tables)
by_done f tables at d y made true within h = ap (λ (rows : Rows). slice_set (map f tables) at rows) h
by_done f tables at d y made false within h =
    ap (λ (rows : Rows). slice_set (map f tables) at rows) (h ∙ sym (get_or-map f tables at d [] within)) ∙ set-get_or (map f tables) at []

pub state_set : {A : Type 0} (f : A → Rows) (tables : List A) (at : ℕ) (d y : A) (result : Result Stored NoMemory) (make : Rows → Rows) → at < length tables → f y ≡ after result (f (get_or tables at d)) (make (f (get_or tables at d))) → map f (slice_set tables at y) ≡ after result (map f tables) (slice_set (map f tables) at (make (rows_in (map f tables) at)))
state_set f tables at d y result make within h =
    subst (λ rows. map f (slice_set tables at y) ≡ after result (map f tables) (slice_set (map f tables) at (make rows))) (sym (rows_are f tables at d within))
    (map-set f tables at y ∙ by_done f tables at d y (make (f (get_or tables at d))) (is_done result) within h)

pub fits_after : {A : Type 0} (f : A → Rows) (defs : List TableDef) (tables : List A) (at : ℕ) (y : A) → FitAll defs (map f tables) → at < length tables → FitsTable (def_at defs at) (f y) → FitAll defs (map f (slice_set tables at y))
fits_after f defs tables at y fits within made =
    subst (λ db. FitAll defs db) (sym (map-set f tables at y))
    (fits_with defs (map f tables) at (def_at defs at) (f y) fits (some_def defs at (in_range f defs tables at fits within)) made)

-- a snapshot by its parts
abbrev pub held_of : Catalog → Database → Held
held_of catalog db = record { catalog = catalog; tables = db }

pub seen_by : {A : Type 0} (f : A → Rows) (P : TableDef → Rows → Type 0) (catalog : Catalog) (defs : List TableDef) (items slice : List A) (held : Held) (at : ℕ) → held_of catalog (map f items) ≡ held → defs ≡ catalog.tables → slice ≡ items → P (def_at defs at) (rows_in (map f slice) at) → P (table_at held at) (rows_at held at)
seen_by f P catalog defs items slice held at view same_defs same_items p =
    subst (λ (h : Held). P (table_at h at) (rows_at h at)) view
    (subst (λ xs. P (def_at catalog.tables at) (rows_in (map f xs) at)) same_items (subst (λ ds. P (def_at ds at) (rows_in (map f slice) at)) same_defs p))

kept_by : (catalog : Catalog) (db now made : Database) (done : Bool) → now ≡ (if done then made else db) → held_of catalog now ≡ (if done then held_of catalog made else held_of catalog db)
kept_by catalog db now made true h = ap (held_of catalog) h
kept_by catalog db now made false h = ap (held_of catalog) h

pub held_by : {A : Type 0} (f : A → Rows) (make : TableDef → Rows → Rows) (catalog : Catalog) (defs : List TableDef) (items slice new whole : List A) (held : Held) (at : ℕ) (result : Result Stored NoMemory) → held_of catalog (map f items) ≡ held → defs ≡ catalog.tables → slice ≡ items → whole ≡ new → map f new ≡ after result (map f slice) (slice_set (map f slice) at (make (def_at defs at) (rows_in (map f slice) at))) → held_of catalog (map f whole) ≡ after result held (with_rows held at (make (table_at held at) (rows_at held at)))
held_by f make catalog defs items slice new whole held at result view same_defs same_items same_new h =
    let on_defs = subst (λ ds. map f new ≡ after result (map f slice) (slice_set (map f slice) at (make (def_at ds at) (rows_in (map f slice) at)))) same_defs h in
    let on_items = subst (λ xs. map f new ≡ after result (map f xs) (slice_set (map f xs) at (make (def_at catalog.tables at) (rows_in (map f xs) at)))) same_items on_defs in
    let on_whole = subst (λ xs. map f xs ≡ after result (map f items) (slice_set (map f items) at (make (def_at catalog.tables at) (rows_in (map f items) at)))) (sym same_new) on_items in
    subst (λ (h : Held). held_of catalog (map f whole) ≡ after result h (with_rows h at (make (table_at h at) (rows_at h at)))) view
    (kept_by catalog (map f items) (map f whole) (slice_set (map f items) at (make (def_at catalog.tables at) (rows_in (map f items) at))) (is_done result) on_whole)

pub empty_fits : (catalog copy : Catalog) (defs : List TableDef) (db : Database) → copy ≡ catalog → defs ≡ catalog.tables → db ≡ map (λ (t : TableDef). []) defs → FitAll copy.tables db
empty_fits catalog copy defs db same_catalog same_defs empty =
    subst (λ (d : Database). FitAll copy.tables d) (sym (empty ∙ ap (map (λ (t : TableDef). [])) same_defs))
    (subst (λ (k : Catalog). FitAll k.tables (map (λ (t : TableDef). []) catalog.tables)) (sym same_catalog) (no_rows_fit catalog.tables))
