-- The places of tables and columns in metadata are numbers of 32 bits.
use Rattle.std.proofs.Common.{
  ◌≡◌,
  ◌≤◌,
  ◌^◌,
  ◌&&◌,
  Bool,
  true,
  false,
  List,
  [],
  ◌∷◌,
  length,
  IsTrue,
  nat_lt,
  refl,
  arith,
}
use Rattle.std.specs.List.{AllByRecursion, list_all}
use Rattle.std.proofs.lemmas.Bool.{lt-ltb}
use Rattle.data_model.specs.declared.catalog.Catalog.{Catalog}
use Rattle.data_model.specs.declared.catalog.TableDef.{TableDef}
use Rattle.role_schema.specs.Sound.{SoundTable}
use Rattle.row_store.specs.Held.{has_numbered_columns, is_numbered}

both : (a b : Bool) → a ≡ true → IsTrue b → IsTrue (a && b)
both true b h k = k
both false b h k = cc

columns_numbered : (tables : List TableDef) → AllByRecursion SoundTable tables →
    IsTrue (list_all has_numbered_columns tables)
columns_numbered [] sound = refl
columns_numbered (t ∷ ts) sound =
    let few = sound.0.few_columns in
    both (has_numbered_columns t) (list_all has_numbered_columns ts)
    (lt-ltb (length t.columns) (2 ^ 32) (omega arith)) (columns_numbered ts sound.1)

pub catalog_numbered : (catalog : Catalog) → length catalog.tables ≤ 256 →
    AllByRecursion SoundTable catalog.tables → IsTrue (is_numbered catalog)
catalog_numbered catalog few sound =
    both (nat_lt (length catalog.tables) (2 ^ 32)) (list_all has_numbered_columns catalog.tables)
    (lt-ltb (length catalog.tables) (2 ^ 32) (omega arith))
    (columns_numbered catalog.tables sound)
