-- How many tables and columns there are at most where a document has no fault. This project's own.
use Rattle.std.specs.Prelude.{◌≤◌, List, length}
use Rattle.std.specs.List.{All}
use Rattle.role_model.specs.declared.metadata.TableEntry.{TableEntry}

abbrev pub IsNarrow : TableEntry → Type 0
IsNarrow t = length t.columns ≤ 64

abbrev pub AreNarrow : List TableEntry → Type 0
AreNarrow tables = All IsNarrow tables

pub record AreFew (tables : List TableEntry) : Type 0 where
  pub few : length tables ≤ 256
  pub narrow : AreNarrow tables
