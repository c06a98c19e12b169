-- Worked rows of arguments that are taken and that aren't.
use Rattle.std.proofs.Common.{◌≡◌, List, [], ◌∷◌, map, Option, None, false}
use Rattle.std.specs.Prelude.{codes}
use Rattle.serde_json.specs.Data.{no_members}
use Rattle.request_model.specs.declared.document.GValue.{GValue}
use Rattle.request_model.specs.declared.document.GValue.TheVariants as v
use Rattle.request_model.specs.declared.document.GPair.{GPair}
use Rattle.request_model.specs.declared.flat.FlatField.{FlatField}
use Rattle.request_model.specs.declared.flat.FlatField.TheViews.{roll-FlatField}
use Rattle.request_model.specs.Strings.{Text}
use Rattle.request_model.proofs.SelectionRules.{canonical_texts}
use Rattle.query_model.specs.declared.fault.FaultKind.TheVariants as fault
use Rattle.query_model.specs.declared.fault.QueryFault.{QueryFault}
use Rattle.query_model.specs.Admission.{admitted}
use Rattle.query_model.proofs.QueryRules.{queries}
use Rattle.query_model.proofs.Samples.{posts, admin, node, subscription, pair, one, refused_with, refuses, id}

abbrev answer : FlatField → Option QueryFault
answer f = refused_with (admitted posts admin no_members (subscription [] f))

abbrev number : Text → Text → GPair
number name n = pair name (v.Int n)

-- ---- columns, `__typename` and object relationships take no arguments

abbrev scalar_with : Text → GPair → FlatField
scalar_with name p =
    roll-FlatField (record { key = name; name = name; args = p ∷ []; nested = false; conditions = []; fields = [] })

-- post { id(limit: 1) }, { __typename(limit: 1) }, { author(limit: 1) { id } } and { author(where: null) { id } }, but
-- user { posts(limit: 1) { id } }
no_arguments : map answer
    (node (codes "post") [] (scalar_with (codes "id") (number (codes "limit") (codes "1")) ∷ [])
    ∷ node (codes "post") [] (scalar_with (codes "__typename") (number (codes "limit") (codes "1")) ∷ [])
    ∷ node (codes "post") [] (node (codes "author") (number (codes "limit") (codes "1") ∷ []) id ∷ [])
    ∷ node (codes "post") [] (node (codes "author") (pair (codes "where") v.Null ∷ []) id ∷ [])
    ∷ node (codes "user") [] (node (codes "posts") (number (codes "limit") (codes "1") ∷ []) id ∷ []) ∷ []) ≡
    refuses fault.NoArgument (codes "limit") ∷ refuses fault.NoArgument (codes "limit")
    ∷ refuses fault.NoArgument (codes "limit") ∷ refuses fault.NoArgument (codes "where") ∷ None ∷ []
no_arguments = simp (queries, canonical_texts)

-- ---- limits, offsets and batches

-- limit: 0, limit: -1, offset: 0, offset: -1, limit: 2147483647 and limit: 2147483648
counts : map (λ p. answer (node (codes "user") (p ∷ []) id))
    (number (codes "limit") (codes "0") ∷ number (codes "limit") (codes "-1")
    ∷ number (codes "offset") (codes "0") ∷ number (codes "offset") (codes "-1")
    ∷ number (codes "limit") (codes "2147483647") ∷ number (codes "limit") (codes "2147483648") ∷ []) ≡
    None ∷ refuses fault.WrongType (codes "limit")
    ∷ None ∷ refuses fault.WrongType (codes "offset")
    ∷ None ∷ refuses fault.WrongType (codes "limit") ∷ []
counts = simp (queries, canonical_texts)

-- ---- conditions

-- {_and: {}}, {_and: {id: {}}}, {_or: {id: {}}}, {_and: []}, {_not: {}} and {}
forms : map (λ x. answer (node (codes "user") (pair (codes "where") x ∷ []) id))
    (one (codes "_and") (v.Object []) ∷ one (codes "_and") (one (codes "id") (v.Object []))
    ∷ one (codes "_or") (one (codes "id") (v.Object [])) ∷ one (codes "_and") (v.Many [])
    ∷ one (codes "_not") (v.Object []) ∷ v.Object [] ∷ []) ≡
    None ∷ None ∷ None ∷ None ∷ None ∷ None ∷ []
forms = simp (queries, canonical_texts)

-- the one condition is judged as well: {_and: {nope: {}}} and {_or: {id: {_eq: "a"}}}
judged_alone : map (λ x. answer (node (codes "user") (pair (codes "where") x ∷ []) id))
    (one (codes "_and") (one (codes "nope") (v.Object []))
    ∷ one (codes "_or") (one (codes "id") (one (codes "_eq") (v.Text (codes "a")))) ∷ []) ≡
    refuses fault.NoArgument (codes "nope") ∷ refuses fault.WrongType (codes "id") ∷ []
judged_alone = simp (queries, canonical_texts)

-- ---- cursors of posts

abbrev stream_with : GValue → Option QueryFault
stream_with x =
    answer (node (codes "post_stream") (number (codes "batch_size") (codes "1") ∷ pair (codes "cursor") x ∷ []) id)

abbrev initial : List GPair → GValue
initial pairs = one (codes "initial_value") (v.Object pairs)

abbrev from_id : GPair
from_id = number (codes "id") (codes "0")

abbrev at_zero : GPair
at_zero = pair (codes "initial_value") (v.Object (from_id ∷ []))

abbrev ordering : GValue → GPair
ordering x = pair (codes "ordering") x

abbrev from_title : GPair
from_title = pair (codes "title") (v.Text [])

-- {initial_value: {id: 0}}, [{initial_value: {id: 0}}], {initial_value: {id: 0}, ordering: ASC}, .. DESC} and .. null}
abbrev taken_cursors : List GValue
taken_cursors =
    initial (from_id ∷ [])
    ∷ v.Many (initial (from_id ∷ []) ∷ [])
    ∷ v.Object (at_zero ∷ ordering (v.Enum (codes "ASC")) ∷ [])
    ∷ v.Object (at_zero ∷ ordering (v.Enum (codes "DESC")) ∷ [])
    ∷ v.Object (at_zero ∷ ordering v.Null ∷ []) ∷ []

cursors_taken : map stream_with taken_cursors ≡ None ∷ None ∷ None ∷ None ∷ None ∷ []
cursors_taken = simp (queries, canonical_texts)

-- {initial_value: {id: 0, title: ""}}, {initial_value: {}}, [{initial_value: {id: 0}}, {initial_value: {id: 0}}], [],
-- {}, {ordering: ASC}, {initial_value: {id: 0}, initial_value: {id: 0}}, {initial_value: {note: ""}},
-- {initial_value: null} and {initial_value: {id: 0}, nope: 1}
abbrev bad_cursors : List GValue
bad_cursors =
    initial (from_id ∷ from_title ∷ [])
    ∷ initial []
    ∷ v.Many (initial (from_id ∷ []) ∷ initial (from_id ∷ []) ∷ [])
    ∷ v.Many []
    ∷ v.Object []
    ∷ one (codes "ordering") (v.Enum (codes "ASC"))
    ∷ v.Object (at_zero ∷ at_zero ∷ [])
    ∷ initial (pair (codes "note") (v.Text []) ∷ [])
    ∷ one (codes "initial_value") v.Null
    ∷ v.Object (at_zero ∷ number (codes "nope") (codes "1") ∷ []) ∷ []

abbrev bad_cursor : Option QueryFault
bad_cursor = refuses fault.BadCursor (codes "cursor")

cursors_refused : map stream_with bad_cursors ≡
    bad_cursor ∷ bad_cursor ∷ bad_cursor ∷ bad_cursor ∷ bad_cursor ∷ bad_cursor ∷ bad_cursor ∷ bad_cursor
    ∷ bad_cursor ∷ bad_cursor ∷ []
cursors_refused = simp (queries, canonical_texts)
