-- What the table of the tests takes.
use Rattle.std.proofs.Common.{◌≡◌, ℤ, ◌<◌, ◌&&◌, ◌^◌, Bool, true, false, IsTrue, List, [], ◌∷◌, length, refl, sym, subst, arith}
use Rattle.std.specs.List.{list_all}
use Rattle.std.specs.Prelude.{nat_lt}
use Rattle.scalar_val.specs.declared.val.Val.{Val}
use Rattle.scalar_val.specs.declared.val.Val.TheVariants as val
use Rattle.data_model.specs.declared.catalog.Catalog.{Catalog}
use Rattle.data_model.specs.declared.catalog.TableDef.{TableDef}
use Rattle.data_model.specs.declared.transaction.SetCell.{SetCell}
use Rattle.data_model.specs.Rows.{Fits, FitAll, may_stand, row_fits, stands_in}
use Rattle.data_model.proofs.Fitting.{as_many}
use Rattle.row_store.specs.Example.{name_column, badge_column, users, members}
use Rattle.row_store.specs.Held.{Held, def_at, table_at, has_numbered_columns, is_numbered}

numbered_by : (catalog : Catalog) (tables : List TableDef) → catalog.tables ≡ tables → IsTrue (nat_lt (length tables) (2 ^ 32) && list_all has_numbered_columns tables) → IsTrue (is_numbered catalog)
numbered_by catalog tables same h = subst (λ ts. IsTrue (nat_lt (length ts) (2 ^ 32) && list_all has_numbered_columns ts)) (sym same) h

pub users_numbered : (catalog : Catalog) → catalog.tables ≡ users → IsTrue (is_numbered catalog)
users_numbered catalog same = numbered_by catalog users same refl

pub members_numbered : (catalog : Catalog) → catalog.tables ≡ members → IsTrue (is_numbered catalog)
members_numbered catalog same = numbered_by catalog members same refl

pub one_table : (held : Held) → held.catalog.tables ≡ users → Fits held.catalog held.tables → 0 < length held.tables
one_table held same fits =
    let many = as_many users held.tables (subst (λ (ts : List TableDef). FitAll ts held.tables) same fits) in
    omega (arith, many)

abbrev pub named : Val → SetCell
named name = record { column = 1; value = name }

both : (a b : Bool) → IsTrue a → IsTrue b → IsTrue (a && b)
both true b h k = k
both false b h k = cc

pub row_stands : (held : Held) (id : ℤ) (name : Val) → held.catalog.tables ≡ users → IsTrue (stands_in name_column name) → IsTrue (row_fits (table_at held 0).columns (val.Int id ∷ name ∷ []))
row_stands held id name same stands =
    subst (λ (ts : List TableDef). IsTrue (row_fits (def_at ts 0).columns (val.Int id ∷ name ∷ []))) (sym same) (both (stands_in name_column name) true stands refl)

pub name_stands : (held : Held) (name : Val) → held.catalog.tables ≡ users → IsTrue (stands_in name_column name) → IsTrue (list_all (may_stand (table_at held 0)) (named name ∷ []))
name_stands held name same stands =
    subst (λ (ts : List TableDef). IsTrue (list_all (may_stand (def_at ts 0)) (named name ∷ []))) (sym same) (both (may_stand (def_at users 0) (named name)) true (both (stands_in name_column name) true stands refl) refl)

pub one_table_of_members : (held : Held) → held.catalog.tables ≡ members → Fits held.catalog held.tables → 0 < length held.tables
one_table_of_members held same fits =
    let many = as_many members held.tables (subst (λ (ts : List TableDef). FitAll ts held.tables) same fits) in
    omega (arith, many)

abbrev pub badged : Val → SetCell
badged badge = record { column = 2; value = badge }

pub member_stands : (held : Held) (id : ℤ) (name badge : Val) → held.catalog.tables ≡ members → IsTrue (stands_in name_column name) → IsTrue (stands_in badge_column badge) → IsTrue (row_fits (table_at held 0).columns (val.Int id ∷ name ∷ badge ∷ []))
member_stands held id name badge same name_is badge_is =
    subst (λ (ts : List TableDef). IsTrue (row_fits (def_at ts 0).columns (val.Int id ∷ name ∷ badge ∷ []))) (sym same)
    (both (stands_in name_column name) (stands_in badge_column badge && true) name_is (both (stands_in badge_column badge) true badge_is refl))

pub member_name_stands : (held : Held) (name : Val) → held.catalog.tables ≡ members → IsTrue (stands_in name_column name) → IsTrue (list_all (may_stand (table_at held 0)) (named name ∷ []))
member_name_stands held name same stands =
    subst (λ (ts : List TableDef). IsTrue (list_all (may_stand (def_at ts 0)) (named name ∷ []))) (sym same) (both (may_stand (def_at members 0) (named name)) true (both (stands_in name_column name) true stands refl) refl)

pub member_badge_stands : (held : Held) (badge : Val) → held.catalog.tables ≡ members → IsTrue (stands_in badge_column badge) → IsTrue (list_all (may_stand (table_at held 0)) (badged badge ∷ []))
member_badge_stands held badge same stands =
    subst (λ (ts : List TableDef). IsTrue (list_all (may_stand (def_at ts 0)) (badged badge ∷ []))) (sym same) (both (may_stand (def_at members 0) (badged badge)) true (both (stands_in badge_column badge) true stands refl) refl)
