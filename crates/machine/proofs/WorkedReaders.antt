-- Worked runs of readers, of whom each sees the own posts.
use Rattle.std.proofs.Common.{◌≡◌, ℕ, List, [], ◌∷◌, ◌++◌, map, pos, true, false, None, Some, Ok, refl}
use Rattle.std.specs.Prelude.{codes, decimal, filter, ◌&&◌}
use Rattle.std.specs.Fmt.{digits}
use Rattle.json.specs.Print.{escape_byte}
use Rattle.serde_json.specs.Data.{string, object, no_members, member}
use Rattle.scalar_val.specs.declared.val.Kind.TheVariants as kind
use Rattle.scalar_val.specs.declared.val.Val.{Val}
use Rattle.scalar_val.specs.declared.val.Val.TheVariants as val
use Rattle.data_model.specs.declared.transaction.TxChange.{TxChange}
use Rattle.data_model.specs.declared.transaction.TxChange.TheVariants.{Insert}
use Rattle.data_model.specs.Rows.{Database}
use Rattle.plan_model.specs.declared.filter.Filter.TheVariants as condition
use Rattle.plan_model.specs.declared.filter.Op.TheVariants.{Eq}
use Rattle.plan_model.specs.declared.filter.Operand.TheVariants.{Sess}
use Rattle.plan_model.proofs.Truths.{truths}
use Rattle.role_model.specs.declared.metadata.Metadata.{Metadata}
use Rattle.role_model.specs.declared.session.Session.{Session}
use Rattle.request_model.specs.declared.flat.FlatField.{FlatField}
use Rattle.request_model.specs.declared.flat.Flat.{Flat}
use Rattle.request_model.specs.Canonical.{field_text}
use Rattle.request_model.specs.Strings.{Text}
use Rattle.request_model.proofs.SelectionRules.{canonical_texts}
use Rattle.query_model.specs.declared.kind.SubKind.TheVariants as sub
use Rattle.query_model.specs.Admission.{admitted}
use Rattle.query_model.specs.Queries.{Query, text_variables}
use Rattle.query_model.specs.Results.{result}
use Rattle.query_model.proofs.QueryRules.{queries}
use Rattle.machine.specs.Messages.{Init}
use Rattle.machine.specs.State.{
  State,
  Connection,
  Acknowledged,
  Subscription,
  Job,
  Event,
  opening,
  Connect,
  Receive,
  Commit,
  Tick,
  Take,
  Publish,
}
use Rattle.machine.specs.Batches.{is_due, are_polled_together, first_of_each, members_of}
use Rattle.machine.specs.Publication.{publish_members}
use Rattle.machine.proofs.Samples.{
  column,
  table,
  metadata,
  user_table,
  leaf,
  node,
  subscription,
  live,
  subscribes,
  cell,
  Leads,
  ◌then◌,
  leads,
  publishes,
  takes,
  connection,
  subscribed,
  at_rest,
  job,
  ack,
  to,
  next,
  says,
}

-- posts, of which a reader sees the own ones, by `{"author_id":{"_eq":"X-Hasura-User-Id"}}`
abbrev posts : Metadata
posts =
    metadata
    (user_table
    ∷ table (codes "post")
    (column (codes "id") kind.Int false ∷ column (codes "author_id") kind.Int true
    ∷ column (codes "title") kind.Text false
    ∷ column (codes "note") kind.Text true ∷ [])
    ∷ []) ([] ∷ [] ∷ [])
    (record {
      name = codes "reader";
      session_names = codes "x-hasura-user-id" ∷ [];
      grants = record {
        table = 1;
        columns = 0 ∷ 1 ∷ 2 ∷ [];
        filter = condition.And (condition.And (condition.Cmp 1 Eq (Sess 0) ∷ []) ∷ []);
        limit = None;
      } ∷ [];
    } ∷ [])

abbrev reader : Text → Session
reader id =
    record {
      role = codes "reader";
      vars = (codes "x-hasura-role", codes "reader") ∷ (codes "x-hasura-user-id", id)
          ∷ [];
    }

abbrev reads_as : ℕ → Text → Event
reads_as c id = Receive c (Init (Some (object (member (codes "headers") (object
    (member (codes "X-Hasura-User-Id") (string id)
    (member (codes "x-hasura-role") (string (codes "reader")) no_members))) no_members))))

-- post { id title }
abbrev post_field : FlatField
post_field = node (codes "post") [] (leaf (codes "id") ∷ leaf (codes "title") ∷ [])

abbrev all_posts : Flat
all_posts = subscription [] post_field

-- the posts that a reader sees
abbrev own : ℕ → Query
own id = record {
  kind = sub.Live;
  role = codes "reader";
  selection = all_posts;
  variables = [];
  session = record { slot = record { name = codes "x-hasura-user-id"; kind = kind.Int }; value = val.Int (pos id) }
      ∷ [];
}

first_admitted : admitted posts (reader (codes "1")) no_members all_posts
    ≡ Ok (record { query = own 1; cursor = val.Null })
first_admitted = simp queries

second_admitted : admitted posts (reader (codes "2")) no_members all_posts
    ≡ Ok (record { query = own 2; cursor = val.Null })
second_admitted = simp queries

posts_text : field_text post_field ≡ codes "post:post{id:id title:title}"
posts_text = simp canonical_texts

posts_variables : text_variables all_posts ≡ []
posts_variables = simp canonical_texts

ruleset posts_polled = (posts_text, posts_variables)

abbrev post : ℕ → ℕ → Text → TxChange
post id author title =
    Insert (codes "post") (cell (codes "author_id") (val.Big (pos author)) ∷ cell (codes "id") (val.Big (pos id))
    ∷ cell (codes "title") (val.Text title) ∷ [])

abbrev two_posts : List TxChange
two_posts = post 1 1 (codes "x") ∷ post 2 2 (codes "y") ∷ []

abbrev row : ℕ → ℕ → Text → List Val
row id author title = val.Int (pos id) ∷ val.Int (pos author) ∷ val.Text title ∷ val.Null ∷ []

abbrev with_posts : Database
with_posts = [] ∷ (row 1 1 (codes "x") ∷ row 2 2 (codes "y") ∷ []) ∷ []

abbrev x_alone : Text
x_alone = codes "{\"post\":[{\"id\":1,\"title\":\"x\"}]}"

abbrev y_alone : Text
y_alone = codes "{\"post\":[{\"id\":2,\"title\":\"y\"}]}"

abbrev payload : Text → Text
payload value = codes "{\"data\":" ++ value ++ codes "}"

first_result : result posts (own 1) val.Null with_posts ≡ record { text = payload x_alone; rows = 1; last = val.Null }
unfolding digits escape_byte
first_result = simp (queries, truths)

second_result : result posts (own 2) val.Null with_posts ≡ record { text = payload y_alone; rows = 1; last = val.Null }
unfolding digits escape_byte
second_result = simp (queries, truths)

-- ---- two readers subscribe

abbrev acting : ℕ → Text → List Text → Connection
acting c id queue = record { number = c; phase = Acknowledged (reader id); queue = queue }

abbrev of_reader : ℕ → ℕ → Subscription
of_reader n id = subscribed n n (codes "p") (own id) val.Null

abbrev told_of : Text → Subscription → Subscription
told_of value sub = record sub { last = Some (payload value) }

abbrev readers : ℕ → ℕ → List Text → List Text → List Subscription → State
readers a b first second subs = at_rest (two_posts ∷ [])
    (acting 1 (decimal a) first ∷ acting 2 (decimal b) second ∷ []) subs 0

opened : Leads posts opening
    (Commit two_posts ∷ Connect 1 ∷ reads_as 1 (codes "1") ∷ Connect 2 ∷ reads_as 2 (codes "2") ∷ [])
    (readers 1 2 (ack ∷ []) (ack ∷ []) [])
    (codes "commit 1\nopen 1\nrecv 1\n> 1 {\"type\":\"connection_ack\"}\nopen 2\nrecv 2\n"
    ++ codes "> 2 {\"type\":\"connection_ack\"}\n")
unfolding digits
opened = record { is = refl }

first_asks : Leads posts (readers 1 2 (ack ∷ []) (ack ∷ []) []) (subscribes 1 (codes "p") all_posts ∷ [])
    (readers 1 2 (ack ∷ []) (ack ∷ []) (of_reader 1 1 ∷ [])) (codes "recv 1\n")
unfolding digits
first_asks = record { is = simp first_admitted }

second_asks : Leads posts (readers 1 2 (ack ∷ []) (ack ∷ []) (of_reader 1 1 ∷ []))
    (subscribes 2 (codes "p") all_posts ∷ [])
    (readers 1 2 (ack ∷ []) (ack ∷ []) (of_reader 1 1 ∷ of_reader 2 2 ∷ [])) (codes "recv 2\n")
unfolding digits
second_asks = record { is = simp second_admitted }

abbrev both : List Subscription
both = of_reader 1 1 ∷ of_reader 2 2 ∷ []

abbrev two_cohorts : Job
two_cohorts = record {
  number = 1;
  version = 1;
  members = record { subscription = 1; cohort = 1 } ∷ record { subscription = 2; cohort = 2 } ∷ [];
}

abbrev in_flight : State
in_flight = record (readers 1 2 (ack ∷ []) (ack ∷ []) both) { jobs = two_cohorts ∷ []; jobs_made = 1 }

abbrev all_due : State
all_due = record (readers 1 2 (ack ∷ []) (ack ∷ []) both) { due = 1 ∷ 2 ∷ [] }

ticked : Leads posts (readers 1 2 (ack ∷ []) (ack ∷ []) both) (Tick ∷ []) all_due (codes "tick 2\n")
unfolding digits
ticked = record { is = simp posts_polled }

both_due : filter (λ s. is_due (1 ∷ 2 ∷ []) s && are_polled_together (of_reader 1 1) s) both ≡ both
both_due = simp posts_polled

both_first : first_of_each [] both ≡ both
both_first = simp posts_polled

both_members : members_of both both ≡ two_cohorts.members
both_members = simp posts_polled

taken : Leads posts all_due (Take ∷ []) in_flight (codes "job 1 version 1 cohorts 2 members 2\n")
unfolding digits
taken = leads (takes posts all_due (of_reader 1 1) both both two_cohorts.members refl both_due both_first both_members)

both_told : publish_members posts with_posts two_cohorts.members in_flight ≡ record {
  state = record in_flight {
    connections = acting 1 (codes "1") (ack ∷ next (codes "p") x_alone ∷ [])
        ∷ acting 2 (codes "2") (ack ∷ next (codes "p") y_alone ∷ []) ∷ [];
    subscriptions = told_of x_alone (of_reader 1 1) ∷ told_of y_alone (of_reader 2 2) ∷ [];
  };
  queued = to 1 (next (codes "p") x_alone) ∷ to 2 (next (codes "p") y_alone) ∷ [];
  closed = [];
}
unfolding digits escape_byte
both_told = simp (first_result, second_result)

published : Leads posts in_flight (Publish 1 ∷ [])
    (record (readers 1 2 (ack ∷ next (codes "p") x_alone ∷ []) (ack ∷ next (codes "p") y_alone ∷ [])
    (told_of x_alone (of_reader 1 1) ∷ told_of y_alone (of_reader 2 2) ∷ [])) { jobs_made = 1 })
    (codes "published 1 version 1\n" ++ says 1 (next (codes "p") x_alone) ++ says 2 (next (codes "p") y_alone))
unfolding digits
published = leads (publishes posts in_flight 1 two_cohorts with_posts _ refl refl both_told)

-- Two cohorts of one poller are one job, and each reader is told of the own posts alone.
two_readers : Leads posts opening
    (Commit two_posts ∷ Connect 1 ∷ reads_as 1 (codes "1") ∷ Connect 2 ∷ reads_as 2 (codes "2") ∷ []
    ++ (subscribes 1 (codes "p") all_posts ∷ []) ++ (subscribes 2 (codes "p") all_posts ∷ []) ++ (Tick ∷ [])
    ++ (Take ∷ []) ++ (Publish 1 ∷ []))
    (record (readers 1 2 (ack ∷ next (codes "p") x_alone ∷ []) (ack ∷ next (codes "p") y_alone ∷ [])
    (told_of x_alone (of_reader 1 1) ∷ told_of y_alone (of_reader 2 2) ∷ [])) { jobs_made = 1 })
    (codes "commit 1\nopen 1\nrecv 1\n> 1 {\"type\":\"connection_ack\"}\nopen 2\nrecv 2\n"
    ++ codes "> 2 {\"type\":\"connection_ack\"}\n"
    ++ codes "recv 1\nrecv 2\ntick 2\njob 1 version 1 cohorts 2 members 2\npublished 1 version 1\n"
    ++ codes "> 1 {\"type\":\"next\",\"id\":\"p\",\"payload\":{\"data\":{\"post\":[{\"id\":1,\"title\":\"x\"}]}}}\n"
    ++ codes "> 2 {\"type\":\"next\",\"id\":\"p\",\"payload\":{\"data\":{\"post\":[{\"id\":2,\"title\":\"y\"}]}}}\n")
unfolding digits
two_readers = opened then first_asks then second_asks then ticked then taken then published

-- ---- with equal session variables they are one cohort

abbrev equal : List Subscription
equal = of_reader 1 1 ∷ of_reader 2 1 ∷ []

abbrev equal_in_flight : State
equal_in_flight = record (readers 1 1 [] [] equal) { jobs = job 1 1 (1 ∷ 2 ∷ []) ∷ []; jobs_made = 1 }

equal_polled : Leads posts (readers 1 1 [] [] equal) (Tick ∷ Take ∷ []) equal_in_flight
    (codes "tick 2\njob 1 version 1 cohorts 1 members 2\n")
unfolding digits
equal_polled = record { is = simp posts_polled }

equal_told : publish_members posts with_posts (job 1 1 (1 ∷ 2 ∷ [])).members equal_in_flight ≡ record {
  state = record equal_in_flight {
    connections = acting 1 (codes "1") (next (codes "p") x_alone ∷ [])
        ∷ acting 2 (codes "1") (next (codes "p") x_alone ∷ []) ∷ [];
    subscriptions = map (told_of x_alone) equal;
  };
  queued = to 1 (next (codes "p") x_alone) ∷ to 2 (next (codes "p") x_alone) ∷ [];
  closed = [];
}
unfolding digits escape_byte
equal_told = simp first_result

equal_published : Leads posts equal_in_flight (Publish 1 ∷ [])
    (record (readers 1 1 (next (codes "p") x_alone ∷ []) (next (codes "p") x_alone ∷ [])
    (map (told_of x_alone) equal)) { jobs_made = 1 })
    (codes "published 1 version 1\n" ++ says 1 (next (codes "p") x_alone) ++ says 2 (next (codes "p") x_alone))
unfolding digits
equal_published = leads (publishes posts equal_in_flight 1 (job 1 1 (1 ∷ 2 ∷ [])) with_posts _ refl refl equal_told)

-- ---- another role is another poller

abbrev as_admin : Subscription
as_admin = subscribed 2 2 (codes "p") (live all_posts) val.Null

two_roles : Leads posts
    (at_rest (two_posts ∷ []) (acting 1 (codes "1") [] ∷ connection 2 [] ∷ []) (of_reader 1 1 ∷ as_admin ∷ []) 0)
    (Tick ∷ Take ∷ Take ∷ [])
    (record (at_rest (two_posts ∷ []) (acting 1 (codes "1") [] ∷ connection 2 [] ∷ [])
    (of_reader 1 1 ∷ as_admin ∷ []) 2) {
      jobs = job 1 1 (1 ∷ []) ∷ job 2 1 (2 ∷ []) ∷ [];
    })
    (codes "tick 2\njob 1 version 1 cohorts 1 members 1\njob 2 version 1 cohorts 1 members 1\n")
unfolding digits
two_roles = record { is = simp posts_polled }

-- ---- refused by what a role sees

abbrev unseen_text : Text
unseen_text =
    codes "{\"type\":\"error\",\"id\":\"h\",\"payload\":[{\"message\":\"no such field: note\","
    ++ codes "\"extensions\":{\"code\":\"NoField\"}}]}"

unseen : Leads posts (at_rest [] (acting 1 (codes "1") [] ∷ []) [] 0)
    (subscribes 1 (codes "h") (subscription [] (node (codes "post") [] (leaf (codes "note") ∷ []))) ∷ [])
    (at_rest [] (acting 1 (codes "1") (unseen_text ∷ []) ∷ []) [] 0) (codes "recv 1\n" ++ says 1 unseen_text)
unfolding digits escape_byte
unseen = record { is = simp queries }
