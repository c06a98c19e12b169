-- Metadata, selections and answers of the worked rows.
use Rattle.std.proofs.Common.{ℕ, Bool, List, [], ◌∷◌, Option, Some, None, Result, Ok, Err, true, false, pos}
use Rattle.std.specs.Prelude.{codes}
use Rattle.scalar_val.specs.declared.val.Kind.{Kind}
use Rattle.scalar_val.specs.declared.val.Kind.TheVariants as kind
use Rattle.scalar_val.specs.declared.val.Val.{Val}
use Rattle.scalar_val.specs.declared.val.Val.TheVariants as val
use Rattle.data_model.specs.declared.catalog.Column.{Column}
use Rattle.data_model.specs.declared.catalog.TableDef.{TableDef}
use Rattle.data_model.specs.Rows.{Row}
use Rattle.plan_model.specs.declared.filter.Filter.TheVariants as filter
use Rattle.plan_model.specs.declared.filter.Op.TheVariants as compare
use Rattle.plan_model.specs.declared.filter.Operand.TheVariants as operand
use Rattle.role_model.specs.declared.metadata.LinkDef.{LinkDef}
use Rattle.role_model.specs.declared.metadata.Metadata.{Metadata}
use Rattle.role_model.specs.declared.metadata.RoleDef.{RoleDef}
use Rattle.role_model.specs.declared.session.Session.{Session}
use Rattle.role_model.specs.Texts.{Texts}
use Rattle.request_model.specs.declared.document.GValue.{GValue}
use Rattle.request_model.specs.declared.document.GValue.TheVariants as v
use Rattle.request_model.specs.declared.document.GPair.{GPair, roll-GPair}
use Rattle.request_model.specs.declared.document.VarDef.{VarDef}
use Rattle.request_model.specs.declared.flat.FlatField.{FlatField}
use Rattle.request_model.specs.declared.flat.FlatField.TheViews.{roll-FlatField}
use Rattle.request_model.specs.declared.flat.Flat.{Flat}
use Rattle.scalar_val.specs.declared.word.Word.TheVariants as word
use Rattle.request_model.specs.Strings.{Text}
use Rattle.query_model.specs.declared.fault.FaultKind.{FaultKind}
use Rattle.query_model.specs.declared.fault.QueryFault.{QueryFault}
use Rattle.query_model.specs.Refusals.{refusal}
use Rattle.query_model.specs.Admission.{Admitted}

-- ---- metadata

abbrev pub column : Text → Kind → Bool → Column
column name k nullable = record { name = name; kind = k; nullable = nullable }

abbrev pub table : Text → List Column → TableDef
table name columns = record { name = name; columns = columns; key = 0 ∷ []; unique = []; max_rows = 1048576 }

abbrev pub user_table : TableDef
user_table = table (codes "user") (column (codes "id") kind.Int false ∷ column (codes "name") kind.Text true ∷ [])

abbrev pub post_table : TableDef
post_table = table (codes "post") (column (codes "id") kind.Int false ∷ column (codes "author_id") kind.Int true ∷ column (codes "title") kind.Text false ∷ column (codes "note") kind.Text true ∷ [])

abbrev pub metadata : List TableDef → List (List LinkDef) → List RoleDef → Metadata
metadata tables links roles =
    record { catalog = record { tables = tables }; links = links; roles = roles; batch_size = 100; refetch_ms = 1000; secret = None; unauthorized_role = None }

-- users alone
abbrev pub users : Metadata
users = metadata (user_table ∷ []) ([] ∷ []) []

abbrev pub posts_link : LinkDef
posts_link = record { name = codes "posts"; many = true; table = 1; from = 0 ∷ []; to = 1 ∷ [] }

abbrev pub author_link : LinkDef
author_link = record { name = codes "author"; many = false; table = 0; from = 1 ∷ []; to = 0 ∷ [] }

-- the reader sees all users, and the posts of its own id without their notes
abbrev pub reader : RoleDef
reader = record {
  name = codes "reader";
  session_names = codes "x-hasura-user-id" ∷ [];
  grants =
      record { table = 0; columns = 0 ∷ 1 ∷ []; filter = filter.And []; limit = None }
      ∷ record { table = 1; columns = 0 ∷ 1 ∷ 2 ∷ []; filter = filter.And (filter.And (filter.Cmp 1 compare.Eq (operand.Sess 0) ∷ []) ∷ []); limit = None }
      ∷ [];
}

-- users and their posts
abbrev pub posts : Metadata
posts = metadata (user_table ∷ post_table ∷ []) ((posts_link ∷ []) ∷ (author_link ∷ []) ∷ []) (reader ∷ [])

abbrev pub session : Text → Texts → Session
session role vars = record { role = role; vars = vars }

abbrev pub admin : Session
admin = session (codes "admin") []

abbrev pub reader_with : Text → Session
reader_with id = session (codes "reader") ((codes "x-hasura-user-id", id) ∷ [])

-- ---- selections

abbrev pub pair : Text → GValue → GPair
pair name x = roll-GPair (record { name = name; value = x })

abbrev pub leaf : Text → FlatField
leaf name = roll-FlatField (record { key = name; name = name; args = []; nested = false; conditions = []; fields = [] })

abbrev pub node : Text → List GPair → List FlatField → FlatField
node name args fields = roll-FlatField (record { key = name; name = name; args = args; nested = true; conditions = []; fields = fields })

abbrev pub subscription : List VarDef → FlatField → Flat
subscription vars f = record { kind = word.Subscription; vars = vars; conditions = []; fields = f ∷ [] }

abbrev pub one : Text → GValue → GValue
one name x = v.Object (pair name x ∷ [])

abbrev pub order_by : Text → Text → GPair
order_by name order = pair (codes "order_by") (one name (v.Enum order))

-- ---- rows

abbrev pub int : ℕ → Val
int n = val.Int (pos n)

abbrev pub text : Text → Val
text t = val.Text t

abbrev pub post : ℕ → Val → Text → Row
post id author title = int id ∷ author ∷ text title ∷ val.Null ∷ []

-- ---- answers

abbrev pub id : List FlatField
id = leaf (codes "id") ∷ []

abbrev pub refused_with : Result Admitted QueryFault → Option QueryFault
refused_with (Ok a) = None
refused_with (Err e) = Some e

abbrev pub refuses : FaultKind → Text → Option QueryFault
refuses k name = Some (refusal k name)
