-- The result of a stream sends the rows that come beyond its cursor, and tells the value in the last of them.
use Rattle.std.proofs.Common.{◌≡◌, List, [], ◌∷◌, Option, Some, None, refl, sym, subst}
use Rattle.scalar_val.specs.declared.val.Val.{Val}
use Rattle.scalar_val.specs.Values.{cell}
use Rattle.data_model.specs.Rows.{Rows, Database}
use Rattle.role_model.specs.declared.metadata.Metadata.{Metadata}
use Rattle.request_model.specs.declared.flat.FlatField.{FlatField}
use Rattle.request_model.specs.declared.flat.FlatField.TheOpen.{FlatField-F}
use Rattle.request_model.specs.declared.flat.FlatField.TheViews.{out-FlatField}
use Rattle.query_model.specs.Names.{Root, RowsOf, RowOf, StreamOf, NoRoot, initial_column, descends}
use Rattle.query_model.specs.Queries.{Query, root_of, view_of}
use Rattle.plan_model.specs.Outcomes.{Outcome, last_row}
use Rattle.query_model.specs.Results.{root_wanted, result_by, root_result}
use Rattle.query_model.specs.StreamLaws.{Stream, stream_by, stream_in, next_rows, last_sent, Sends, StreamsSendNextRows}

last_is : (s : Stream) (rows : Rows) → cell (last_row rows) s.column ≡ last_sent s rows
last_is s [] = refl
last_is s (r ∷ rs) = refl

module _ (m : Metadata) (q : Query) (cursor : Val) (db : Database) where
  -- a field whose root means this outcome sends the stream's next rows
  abbrev SendsNext : Stream → FlatField-F FlatField → Outcome → Type 0
  SendsNext s f o = Sends m q s f db (next_rows m q s cursor db) o

  root_sends : (f : FlatField-F FlatField) (root : Root) (s : Stream) → stream_by (view_of m q) root f.args ≡ Some s →
      SendsNext s f (result_by m q db f (root_wanted m q cursor root f.args))
  root_sends f (StreamOf table) s h =
      let its : Stream = record {
        table = table;
        column = initial_column (view_of m q) table f.args;
        descending = descends f.args;
        args = f.args;
      } in
      let k : Some its ≡ Some s = h in
      let is : its ≡ s = cc in
      subst (λ (z : Stream). SendsNext z f (result_by m q db f (root_wanted m q cursor (StreamOf table) f.args))) is
      (record { text = refl; rows = refl; last = last_is its (next_rows m q its cursor db) })
  root_sends f (RowsOf table) s h = absurd (let k : ◌≡◌ {A = Option Stream} None (Some s) = h in cc)
  root_sends f (RowOf table) s h = absurd (let k : ◌≡◌ {A = Option Stream} None (Some s) = h in cc)
  root_sends f NoRoot s h = absurd (let k : ◌≡◌ {A = Option Stream} None (Some s) = h in cc)

  fields_send : (f : FlatField) (fields : List FlatField) → fields ≡ f ∷ [] → (s : Stream) →
      stream_in m q fields ≡ Some s → SendsNext s (out-FlatField f) (root_result m q cursor db fields)
  fields_send f fields e s h = subst
      (λ fs. stream_in m q fs ≡ Some s → SendsNext s (out-FlatField f) (root_result m q cursor db fs)) (sym e)
      (root_sends (out-FlatField f) (root_of (view_of m q) q.selection.kind f) s) h

pub streams_send_next_rows : StreamsSendNextRows
streams_send_next_rows m q f e s h cursor db = fields_send m q cursor db f q.selection.fields e s h
