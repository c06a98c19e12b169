-- What the values of this crate's types say. This project's own.
use Rattle.query_model.specs.Names as names
use Rattle.query_model.specs.Names.{Root, Meant}
use Rattle.role_fields.specs.declared.fields.Root as a_root
use Rattle.role_fields.specs.declared.fields.Root.TheVariants as root
use Rattle.role_fields.specs.declared.fields.Meant as a_meant
use Rattle.role_fields.specs.declared.fields.Meant.TheVariants as meant

abbrev pub root_said : a_root.Root → Root
root_said (root.RowsOf table) = names.RowsOf table
root_said (root.RowOf table) = names.RowOf table
root_said (root.StreamOf table) = names.StreamOf table
root_said root.NoRoot = names.NoRoot

abbrev pub meant_said : a_meant.Meant → Meant
meant_said meant.Typename = names.Typename
meant_said (meant.AColumn column) = names.AColumn column
meant_said (meant.ALink link) = names.ALink link.now
meant_said meant.Unseen = names.Unseen
