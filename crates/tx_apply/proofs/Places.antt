-- Places of columns are numbers of 32 bits.
use Rattle.std.proofs.Common.{◌≡◌, ℕ, ◌<◌, ◌^◌, ◌&&◌, zero, suc, Bool, true, false, List, [], ◌∷◌, length, IsTrue, nat_lt, refl, subst, arith}
use Rattle.std.specs.List.{list_all}
use Rattle.std.proofs.lemmas.Bool.{ltb-true}
use Rattle.data_model.specs.declared.catalog.TableDef.{TableDef}
use Rattle.row_store.specs.Held.{Held, def_at, table_at, has_numbered_columns, is_numbered}

both_true : (a b : Bool) → IsTrue (a && b) → IsTrue a × IsTrue b
both_true true b h = (refl, h)
both_true false b h = cc

columns_at : (tables : List TableDef) (at : ℕ) → IsTrue (list_all has_numbered_columns tables) → length (def_at tables at).columns < 2 ^ 32
columns_at [] at h = omega arith
columns_at (t ∷ ts) zero h = ltb-true (length t.columns) (2 ^ 32) (both_true (has_numbered_columns t) (list_all has_numbered_columns ts) h).0
columns_at (t ∷ ts) (suc at) h = columns_at ts at (both_true (has_numbered_columns t) (list_all has_numbered_columns ts) h).1

pub few_columns : (held : Held) (table : TableDef) (at : ℕ) → IsTrue (is_numbered held.catalog) → table_at held at ≡ table → length table.columns < 2 ^ 32
few_columns held table at numbered same =
    subst (λ (t : TableDef). length t.columns < 2 ^ 32) same
    (columns_at held.catalog.tables at (both_true (nat_lt (length held.catalog.tables) (2 ^ 32)) (list_all has_numbered_columns held.catalog.tables) numbered).1)
