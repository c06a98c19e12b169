-- Worked rows of metadata: one table of users, and what one change of a line makes of it.
use Rattle.std.proofs.Common.{◌≡◌, ℕ, List, ◌++◌, Result, Err, codes, refl}
use Rattle.toml.proofs.OnLiterals.{toml_on_literals}
use Rattle.toml.specs.Parse.{parse_document}
use Rattle.role_model.specs.declared.metadata.MetaFault.{MetaFault}
use Rattle.role_model.specs.declared.metadata.MetaFault.TheVariants.{Toml, BadForm, BadVersion, NoColumn, BadKind}
use Rattle.role_model.specs.declared.metadata.Metadata.{Metadata}
use Rattle.role_model.specs.MetadataFaults.{links_other_kinds, lacks_a_filter}
use Rattle.role_model.specs.MetadataMeaning.{parsed_by}

-- what a text in ASCII says
abbrev said : List ℕ → Result Metadata MetaFault
said text = parsed_by (parse_document text)

abbrev columns : List ℕ
columns = codes "columns = [{ name = \"id\", type = \"int\" }, { name = \"name\", type = \"text\", nullable = true }]\n"

pub no_toml : said (codes "version = ") ≡ Err Toml
unfolding toml_on_literals links_other_kinds lacks_a_filter
no_toml = refl

pub no_key : said (codes "version = 1\n[[tables]]\nname = \"user\"\n" ++ columns) ≡ Err BadForm
unfolding toml_on_literals links_other_kinds lacks_a_filter
no_key = refl

pub other_version : said (codes "version = 3\n[[tables]]\nname = \"user\"\nkey = [\"id\"]\n" ++ columns) ≡ Err BadVersion
unfolding toml_on_literals links_other_kinds lacks_a_filter
other_version = refl

pub key_names_no_column : said (codes "version = 1\n[[tables]]\nname = \"user\"\nkey = [\"no\"]\n" ++ columns) ≡ Err NoColumn
unfolding toml_on_literals links_other_kinds lacks_a_filter
key_names_no_column = refl

pub nullable_key : said (codes "version = 1\n[[tables]]\nname = \"user\"\nkey = [\"name\"]\n" ++ columns) ≡ Err BadKind
unfolding toml_on_literals links_other_kinds lacks_a_filter
nullable_key = refl
