-- The names of the roles that a document says.
use Rattle.std.proofs.Common.{◌≡◌, List, [], ◌∷◌, map, refl, ap}
use Rattle.role_model.specs.declared.metadata.RoleDef.{RoleDef}
use Rattle.role_model.specs.declared.metadata.TableEntry.{TableEntry}
use Rattle.role_model.specs.MetadataMeaning.{role_def}
use Rattle.role_model.specs.Texts.{Text}

pub names_of : (tables : List TableEntry) (names : List Text) →
    names ≡ map (λ (r : RoleDef). r.name) (map (role_def tables) names)
names_of tables [] = refl
names_of tables (name ∷ names) = ap (λ (rest : List Text). name ∷ rest) (names_of tables names)
