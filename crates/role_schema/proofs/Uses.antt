-- What sound metadata gives to each look-up.
use Rattle.std.proofs.Common.{◌≡◌, ℕ, ◌≤◌, ◌==◌, zero, suc, Bool, true, false, Option, Some, None, List, [], ◌∷◌, length, IfSome, Bor, refl, subst, sym, cond, arith, find, ap, ◌∙◌, unwrap_or, option_and_then}
use Rattle.std.specs.List.{AllByRecursion, slice_get}
use Rattle.std.specs.Option.{option_copied}
use Rattle.std.specs.Str.{bytes_eq}
use Rattle.data_model.specs.declared.catalog.TableDef.{TableDef}
use Rattle.role_model.specs.declared.metadata.Grant.{Grant}
use Rattle.role_model.specs.declared.metadata.LinkDef.{LinkDef}
use Rattle.role_model.specs.declared.metadata.Metadata.{Metadata}
use Rattle.role_model.specs.declared.metadata.RoleDef.{RoleDef}
use Rattle.role_model.specs.Roles.{View, role_of, grants_by, grant_on, names_by, links_at, only_if, table_at, sees_column, column_seen}
use Rattle.role_model.specs.JsonFilters.{column_number}
use Rattle.role_model.specs.Texts.{Text}
use Rattle.role_schema.specs.Sound.{Sound, SoundTable, SoundLink, SoundLinks, SoundGrant, SoundRole, FitsRows, columns_at, columns_in}

Some-injective : {X : Type 0} {x y : X} → Some x ≡ Some y → x ≡ y
Some-injective {X} {x} {y} e = ap (λ o. unwrap_or o x) e

found_at : {X : Type 0} (P : X → Type 0) (p : X → Bool) (y : X) (ys : List X) (x : X) → (b : Bool) → P y → (find p ys ≡ Some x → P x) → cond b (Some y) (find p ys) ≡ Some x → P x
found_at P p y ys x true here rest e = subst P (Some-injective e) here
found_at P p y ys x false here rest e = rest e

-- what holds of all holds of the one that is found
pub found_holds : {X : Type 0} (P : X → Type 0) (p : X → Bool) (xs : List X) (x : X) → AllByRecursion P xs → find p xs ≡ Some x → P x
found_holds P p [] x a e = cc
found_holds P p (y ∷ ys) x a e = found_at P p y ys x (p y) a.0 (found_holds P p ys x a.1) e

passed_at : {X : Type 0} (p : X → Bool) (y : X) (ys : List X) (x : X) → (b : Bool) → p y ≡ b → (find p ys ≡ Some x → p x ≡ true) → cond b (Some y) (find p ys) ≡ Some x → p x ≡ true
passed_at p y ys x true here rest e = subst (λ z. p z ≡ true) (Some-injective e) here
passed_at p y ys x false here rest e = rest e

pub found_passes : {X : Type 0} (p : X → Bool) (xs : List X) (x : X) → find p xs ≡ Some x → p x ≡ true
found_passes p [] x e = cc
found_passes p (y ∷ ys) x e = passed_at p y ys x (p y) refl (found_passes p ys x) e

at_holds : {X : Type 0} (P : X → Type 0) (xs : List X) (at : ℕ) (x : X) → AllByRecursion P xs → slice_get xs at ≡ Some x → P x
at_holds P [] at x a e = cc
at_holds P (y ∷ ys) zero x a e = subst P (Some-injective e) a.0
at_holds P (y ∷ ys) (suc i) x a e = at_holds P ys i x a.1 e

pub few_tables : (m : Metadata) → Sound m → length m.catalog.tables ≤ 256
few_tables m h = h.few_tables

pub narrow_table : (m : Metadata) (at : ℕ) (t : TableDef) → Sound m → slice_get m.catalog.tables at ≡ Some t → length t.columns ≤ 64
narrow_table m at t h e = (at_holds SoundTable m.catalog.tables at t h.tables e).few_columns

narrow_at : (o : Option TableDef) → ((t : TableDef) → o ≡ Some t → length t.columns ≤ 64) → length (columns_in o) ≤ 64
narrow_at (Some t) h = h t refl
narrow_at None h = omega arith

pub narrow_columns : (m : Metadata) (at : ℕ) → Sound m → length (columns_at m.catalog.tables at) ≤ 64
narrow_columns m at h = narrow_at (slice_get m.catalog.tables at) (λ t e. narrow_table m at t h e)

-- the number of a column, if it is seen, by the number that the name has
pub seen_of_named : (v : View) (table : ℕ) (name : Text) (r : Option ℕ) →
    r ≡ option_and_then (λ (t : TableDef). column_number t.columns name) (slice_get v.metadata.catalog.tables table) →
    option_and_then (λ column. only_if (sees_column v table column) (Some column)) r ≡ column_seen v table name
seen_of_named v table name r e =
    ap (option_and_then (λ column. only_if (sees_column v table column) (Some column))) e
    ∙ by_table (table_at v table)
  where
    by_table : (o : Option TableDef) →
        option_and_then (λ column. only_if (sees_column v table column) (Some column))
        (option_and_then (λ (t : TableDef). column_number t.columns name) o)
        ≡ option_and_then
        (λ (t : TableDef).
        option_and_then (λ column. only_if (sees_column v table column) (Some column)) (column_number t.columns name)) o
    by_table (Some t) = refl
    by_table None = refl

-- the relationships of one table

links_sound : (tables ts : List TableDef) (links : List (List LinkDef)) (at : ℕ) → SoundLinks tables ts links → AllByRecursion (SoundLink tables (columns_at ts at)) (links_at (slice_get links at))
links_sound tables [] [] at h = tt
links_sound tables (t ∷ ts) (ls ∷ rest) zero h = h.0
links_sound tables (t ∷ ts) (ls ∷ rest) (suc at) h = links_sound tables ts rest at h.1
links_sound tables [] (ls ∷ rest) at h = absurd h
links_sound tables (t ∷ ts) [] at h = absurd h

same_link : (P : LinkDef → Type 0) (l : LinkDef) (r : Option (Bor LinkDef)) (b : Bool) → P l → option_copied r ≡ only_if b (Some l) → IfSome r (λ l. P l.now)
same_link P l (Some x) true h e = subst P (sym (Some-injective e)) h
same_link P l (Some x) false h e = cc
same_link P l None b h e = tt

pub link_sound : (v : View) (table : ℕ) (name : Text) (l : LinkDef) (r : Option (Bor LinkDef)) (b : Bool) → Sound v.metadata → find (λ l. bytes_eq name l.name) (links_at (slice_get v.metadata.links table)) ≡ Some l → option_copied r ≡ only_if b (Some l) → IfSome r (λ l. SoundLink v.metadata.catalog.tables (columns_at v.metadata.catalog.tables table) l.now)
link_sound v table name l r b h e told =
    let P : LinkDef → Type 0 = SoundLink v.metadata.catalog.tables (columns_at v.metadata.catalog.tables table) in
    same_link P l r b (found_holds P (λ l. bytes_eq name l.name) (links_at (slice_get v.metadata.links table)) l (links_sound v.metadata.catalog.tables v.metadata.catalog.tables v.metadata.links table h.links) e) told

-- the filter of one table

grants_sound : (tables : List TableDef) (o : Option RoleDef) (role : Text) (roles : List RoleDef) → AllByRecursion (SoundRole tables) roles → find (λ r. bytes_eq role r.name) roles ≡ o → AllByRecursion (SoundGrant tables (names_by o)) (grants_by o)
grants_sound tables (Some r) role roles a e = found_holds (SoundRole tables) (λ r. bytes_eq role r.name) roles r a e
grants_sound tables None role roles a e = tt

same_number : (a b : ℕ) → (a == b) ≡ true → a ≡ b
same_number a b h = grind arith

pub grant_fits : (v : View) (table : ℕ) (g : Grant) → Sound v.metadata → grant_on v table ≡ Some g → FitsRows (length (columns_at v.metadata.catalog.tables table)) (names_by (role_of v)) g.filter
grant_fits v table g h e =
    let tables = v.metadata.catalog.tables in
    let all = grants_sound tables (role_of v) v.role v.metadata.roles h.roles refl in
    let told = found_holds (SoundGrant tables (names_by (role_of v))) (λ g. g.table == table) (grants_by (role_of v)) g all e in
    let at = same_number g.table table (found_passes (λ (g : Grant). g.table == table) (grants_by (role_of v)) g e) in
    subst (λ n. FitsRows (length (columns_at tables n)) (names_by (role_of v)) g.filter) at told.filter
