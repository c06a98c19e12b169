-- Worked rows of conditions: `_in` and `_nin`, and `_and` and `_or` of a list and of one condition alone.
use Rattle.std.proofs.Common.{◌≡◌, List, [], ◌∷◌, map, true}
use Rattle.std.specs.Prelude.{codes}
use Rattle.std.specs.Fmt.{digits}
use Rattle.json.specs.Print.{escape_byte}
use Rattle.scalar_val.specs.declared.val.Val.TheVariants as val
use Rattle.data_model.specs.Rows.{Database}
use Rattle.plan_model.proofs.Truths.{truths}
use Rattle.request_model.specs.declared.document.GValue.{GValue}
use Rattle.request_model.specs.declared.document.GValue.TheVariants as v
use Rattle.request_model.specs.Strings.{Text}
use Rattle.request_model.proofs.SelectionRules.{canonical_texts}
use Rattle.query_model.specs.declared.kind.SubKind.TheVariants as sub
use Rattle.query_model.specs.Queries.{Query}
use Rattle.query_model.specs.Results.{result}
use Rattle.query_model.proofs.QueryRules.{queries}
use Rattle.query_model.proofs.Samples.{users, leaf, node, subscription, pair, one, int, text}

-- users 1 Ann, 2 without a name and 3 Cy
abbrev three_users : Database
three_users =
    ((int 1 ∷ text (codes "Ann") ∷ []) ∷ (int 2 ∷ val.Null ∷ []) ∷ (int 3 ∷ text (codes "Cy") ∷ []) ∷ []) ∷ []

-- subscription { user(where: ..) { id } }
abbrev asking : GValue → Query
asking x = record {
  kind = sub.Live;
  role = codes "admin";
  selection = subscription [] (node (codes "user") (pair (codes "where") x ∷ []) (leaf (codes "id") ∷ []));
  variables = [];
  session = [];
}

abbrev id_is : Text → GValue
id_is n = one (codes "id") (one (codes "_eq") (v.Int n))

abbrev no_name : GValue
no_name = one (codes "name") (one (codes "_is_null") (v.Bool true))

abbrev first_and_third : GValue
first_and_third = v.Many (v.Int (codes "1") ∷ v.Int (codes "3") ∷ [])

-- {id: {_in: [1, 3]}}, {id: {_nin: [1, 3]}}, {id: {_in: 3}}, {id: {_nin: 3}}, {id: {_in: []}} and {id: {_nin: []}}
in_and_not_in : map (λ x. (result users (asking (one (codes "id") x)) val.Null three_users).text)
    (one (codes "_in") first_and_third ∷ one (codes "_nin") first_and_third
    ∷ one (codes "_in") (v.Int (codes "3")) ∷ one (codes "_nin") (v.Int (codes "3"))
    ∷ one (codes "_in") (v.Many []) ∷ one (codes "_nin") (v.Many []) ∷ []) ≡
    codes "{\"data\":{\"user\":[{\"id\":1},{\"id\":3}]}}" ∷ codes "{\"data\":{\"user\":[{\"id\":2}]}}"
    ∷ codes "{\"data\":{\"user\":[{\"id\":3}]}}" ∷ codes "{\"data\":{\"user\":[{\"id\":1},{\"id\":2}]}}"
    ∷ codes "{\"data\":{\"user\":[]}}" ∷ codes "{\"data\":{\"user\":[{\"id\":1},{\"id\":2},{\"id\":3}]}}" ∷ []
unfolding digits escape_byte
in_and_not_in = simp (queries, truths, canonical_texts)

-- a null cell is neither among values nor not: {name: {_in: ["Ann"]}} and {name: {_nin: ["Ann"]}}
abbrev only_Ann : GValue
only_Ann = v.Many (v.Text (codes "Ann") ∷ [])

null_among : map (λ x. (result users (asking (one (codes "name") x)) val.Null three_users).text)
    (one (codes "_in") only_Ann ∷ one (codes "_nin") only_Ann ∷ []) ≡
    codes "{\"data\":{\"user\":[{\"id\":1}]}}" ∷ codes "{\"data\":{\"user\":[{\"id\":3}]}}" ∷ []
unfolding digits escape_byte
null_among = simp (queries, truths, canonical_texts)

-- [{id: {_eq: 1}}, {id: {_eq: 3}}] under _or and _and, and [] under both
of_lists : map (λ x. (result users (asking x) val.Null three_users).text)
    (one (codes "_or") (v.Many (id_is (codes "1") ∷ id_is (codes "3") ∷ []))
    ∷ one (codes "_and") (v.Many (id_is (codes "1") ∷ id_is (codes "3") ∷ []))
    ∷ one (codes "_or") (v.Many []) ∷ one (codes "_and") (v.Many []) ∷ []) ≡
    codes "{\"data\":{\"user\":[{\"id\":1},{\"id\":3}]}}" ∷ codes "{\"data\":{\"user\":[]}}"
    ∷ codes "{\"data\":{\"user\":[]}}" ∷ codes "{\"data\":{\"user\":[{\"id\":1},{\"id\":2},{\"id\":3}]}}" ∷ []
unfolding digits escape_byte
of_lists = simp (queries, truths, canonical_texts)

-- {id: {_eq: 2}} alone under _or and _and
of_one : map (λ key. (result users (asking (one key (id_is (codes "2")))) val.Null three_users).text)
    (codes "_or" ∷ codes "_and" ∷ []) ≡
    codes "{\"data\":{\"user\":[{\"id\":2}]}}" ∷ codes "{\"data\":{\"user\":[{\"id\":2}]}}" ∷ []
unfolding digits escape_byte
of_one = simp (queries, truths, canonical_texts)

-- the keys of an object are joined by and, also where it stands alone under _or:
-- {id: {_eq: 1}, name: {_is_null: true}} and {_or: {id: {_eq: 1}, name: {_is_null: true}}}
abbrev two_keys : GValue
two_keys = v.Object (
    pair (codes "id") (one (codes "_eq") (v.Int (codes "1"))) ∷
    pair (codes "name") (one (codes "_is_null") (v.Bool true)) ∷ [])

joined_by_and : map (λ x. (result users (asking x) val.Null three_users).text)
    (two_keys ∷ one (codes "_or") two_keys ∷ no_name ∷ []) ≡
    codes "{\"data\":{\"user\":[]}}" ∷ codes "{\"data\":{\"user\":[]}}"
    ∷ codes "{\"data\":{\"user\":[{\"id\":2}]}}" ∷ []
unfolding digits escape_byte
joined_by_and = simp (queries, truths, canonical_texts)

-- and so are the operators of a column: {id: {_gt: 1, _lt: 3}}
abbrev between : GValue
between = one (codes "id")
    (v.Object (pair (codes "_gt") (v.Int (codes "1")) ∷ pair (codes "_lt") (v.Int (codes "3")) ∷ []))

two_operators : (result users (asking between) val.Null three_users).text ≡ codes "{\"data\":{\"user\":[{\"id\":2}]}}"
unfolding digits escape_byte
two_operators = simp (queries, truths, canonical_texts)
