-- Where the walk finds no fault in the arguments of a field, each variable that stands in them is declared; a cursor's
-- initial value is left out.
use Rattle.std.proofs.Common.{◌≡◌, ℕ, Bool, true, false, ◌||◌, if◌then◌else◌, List, [], ◌∷◌, map, flat_map, Some, None, refl, ap, sym, ◌∙◌, subst}
use Rattle.std.proofs.lemmas.Slice.Eq.{bytes_eq-Decides}
use Rattle.std.specs.Prelude.{codes}
use Rattle.std.specs.Str.{bytes_eq}
use Rattle.std.specs.List.{list_any, AllByRecursion}
use Rattle.role_model.specs.declared.metadata.LinkDef.{LinkDef}
use Rattle.role_model.specs.Roles.{View}
use Rattle.request_model.specs.declared.document.GValue.{GValue}
use Rattle.request_model.specs.declared.document.GValue.TheVariants as value
use Rattle.request_model.specs.declared.document.GValue.TheOpen.{GValue-F, GPair-F}
use Rattle.request_model.specs.declared.document.GValue.TheViews.{out-GValue, out-roll-GPair}
use Rattle.request_model.specs.declared.document.GPair.{GPair}
use Rattle.request_model.specs.Strings.{Text}
use Rattle.request_model.specs.SelectionLaws.{renamed, bare_initial_by, bare_initial, bare_pair, bare_object_by, bare_object, bare_cursor_by, bare_cursor, bare_argument}
use Rattle.query_model.specs.declared.fault.FaultKind.TheVariants as fault
use Rattle.query_model.specs.Names.{pair_name, pair_value, enum_by, items_by, pairs_by, pairs_in}
use Rattle.query_model.specs.declared.variable.Variable.{Variable}
use Rattle.query_model.specs.Queries.{value_names}
use Rattle.query_model.specs.Refusals.{refusal}
use Rattle.query_model.specs.ValueFaults.{null_by, object_by, is_object, single_fault}
use Rattle.query_model.specs.CountFaults.{count_fault, batch_fault}
use Rattle.query_model.specs.ConditionFaults.{where_fault}
use Rattle.query_model.specs.OrderFaults.{orders_fault}
use Rattle.query_model.specs.CursorFaults.{bad_cursor, one_pair_fault, is_direction, is_ordering, cursor_key_fault, cursor_object_fault, only_object_fault, cursor_fault}
use Rattle.query_model.specs.ArgumentFaults.{Known, no_arguments, list_arguments, stream_arguments, key_names, key_kind, key_arguments, link_arguments, known_fault, judged_by, arguments_fault}
use Rattle.query_model.proofs.QueryRules.{names-Null, names-Many, names-Object}
use Rattle.admission_laws.proofs.BareNames.{pair_names}
use Rattle.admission_laws.proofs.BareArguments.{keyed_renews, inside}
use Rattle.admission_laws.proofs.PlansThere.{neither}
use Rattle.admission_laws.proofs.TypedValues.{clash, some_none}
use Rattle.admission_laws.proofs.PassedConditions.{each_judged}
use Rattle.query_model.proofs.Positions.{each_joined_all}
use Rattle.admission_bounds.proofs.DeclaredValues.{names_by, IsDeclared, AllDeclared, each_value, each_pair, by_form, single_declared, single_bare, count_declared, batch_declared, orders_declared}
use Rattle.admission_bounds.proofs.DeclaredConditions.{where_declared}

-- the value of a pair, which may be a cursor's
abbrev pub bare_value : GPair → GValue
bare_value p = pair_value (bare_argument p)

module _ (vars : List Variable) (v : View) where
  abbrev pub Told : List Text → Type 0
  Told = AllDeclared vars

  -- the names in an object with these pairs
  object_told : (ps : List GPair) → AllByRecursion (λ p. Told (pair_names p)) ps → Told (value_names (value.Object ps))
  object_told ps all = subst Told (sym (names-Object ps)) (each_pair vars ps all)

  -- ---- cursors

  null_told : (p : GPair) → Told (pair_names (renamed p value.Null))
  null_told p =
      let named : pair_value (renamed p value.Null) ≡ value.Null = ap (λ (z : GPair-F GValue GPair). z.value) (out-roll-GPair (record { name = pair_name p; value = value.Null })) in
      subst Told (sym (ap value_names named ∙ names-Null)) tt

  nulls_told : (ps : List GPair) → AllByRecursion (λ p. Told (pair_names p)) (map (λ p. renamed p value.Null) ps)
  nulls_told [] = tt
  nulls_told (p ∷ ps) = (null_told p, nulls_told ps)

  initial_told : (x : GValue) → is_object x ≡ true → Told (value_names (bare_initial x))
  initial_told x h = go (out-GValue x) h
    where
      go : (f : GValue-F GValue GPair) → object_by f ≡ true → Told (value_names (bare_initial_by x f))
      go (GValue-F.Object ps) e = object_told (map (λ p. renamed p value.Null) ps) (nulls_told ps)
      go (GValue-F.Var name) e = absurd (clash (sym e))
      go (GValue-F.Int t) e = absurd (clash (sym e))
      go (GValue-F.Text t) e = absurd (clash (sym e))
      go (GValue-F.Bool t) e = absurd (clash (sym e))
      go GValue-F.Null e = absurd (clash (sym e))
      go (GValue-F.Enum name) e = absurd (clash (sym e))
      go (GValue-F.Many xs) e = absurd (clash (sym e))

  ordering_told : (f : GValue-F GValue GPair) → (null_by f || is_direction vars v (enum_by f)) ≡ true → Told (names_by f)
  ordering_told (GValue-F.Var name) e = absurd (clash (sym e))
  ordering_told (GValue-F.Int t) e = tt
  ordering_told (GValue-F.Text t) e = tt
  ordering_told (GValue-F.Bool t) e = tt
  ordering_told GValue-F.Null e = tt
  ordering_told (GValue-F.Enum name) e = tt
  ordering_told (GValue-F.Many xs) e = absurd (clash (sym e))
  ordering_told (GValue-F.Object ps) e = absurd (clash (sym e))

  cursor_key_told : (table : ℕ) (p : GPair) → cursor_key_fault vars v table p ≡ None → Told (pair_names (bare_pair p))
  cursor_key_told table p h =
      subst (λ x. Told (value_names x)) (sym ((keyed_renews (codes "initial_value") bare_initial).value_is p)) (go (bytes_eq (pair_name p) (codes "initial_value")) (bytes_eq (pair_name p) (codes "ordering")) h)
    where
      initial : (c : Bool) → is_object (pair_value p) ≡ c → (if c then one_pair_fault vars v table (pairs_in (pair_value p)) else bad_cursor vars v) ≡ None → Told (value_names (bare_initial (pair_value p)))
      initial true e k = initial_told (pair_value p) e
      initial false e k = absurd (some_none (refusal fault.BadCursor (codes "cursor")) k)

      ordering : (c : Bool) → is_ordering vars v (pair_value p) ≡ c → (if c then None else bad_cursor vars v) ≡ None → Told (pair_names p)
      ordering true e k = by_form vars (pair_value p) (ordering_told (out-GValue (pair_value p)) e)
      ordering false e k = absurd (some_none (refusal fault.BadCursor (codes "cursor")) k)

      go : (c d : Bool) →
          (if c then (if is_object (pair_value p) then one_pair_fault vars v table (pairs_in (pair_value p)) else bad_cursor vars v) else if d then (if is_ordering vars v (pair_value p) then None else bad_cursor vars v) else bad_cursor vars v) ≡ None →
          Told (value_names (inside (codes "initial_value") bare_initial c (pair_value p)))
      go true d k = initial (is_object (pair_value p)) refl k
      go false true k = ordering (is_ordering vars v (pair_value p)) refl k
      go false false k = absurd (some_none (refusal fault.BadCursor (codes "cursor")) k)

  cursor_keys_told : (table : ℕ) (ps : List GPair) → AllByRecursion (λ p. cursor_key_fault vars v table p ≡ None) ps → AllByRecursion (λ p. Told (pair_names p)) (map bare_pair ps)
  cursor_keys_told table [] h = tt
  cursor_keys_told table (p ∷ ps) h = (cursor_key_told table p h.0, cursor_keys_told table ps h.1)

  cursor_object_told : (table : ℕ) (x : GValue) (c : Bool) → is_object x ≡ c → (if c then cursor_object_fault vars v table (pairs_in x) else bad_cursor vars v) ≡ None → Told (value_names (bare_object x))
  cursor_object_told table x false e h = absurd (some_none (refusal fault.BadCursor (codes "cursor")) h)
  cursor_object_told table x true e h = go (out-GValue x) e h
    where
      go : (f : GValue-F GValue GPair) → object_by f ≡ true → cursor_object_fault vars v table (pairs_by f) ≡ None → Told (value_names (bare_object_by x f))
      go (GValue-F.Object ps) e k =
          object_told (map bare_pair ps) (cursor_keys_told table ps (each_judged (λ other. refusal fault.BadCursor (codes "cursor")) (cursor_key_fault vars v table) [] ps (neither _ _ k).0))
      go (GValue-F.Var name) e k = absurd (clash (sym e))
      go (GValue-F.Int t) e k = absurd (clash (sym e))
      go (GValue-F.Text t) e k = absurd (clash (sym e))
      go (GValue-F.Bool t) e k = absurd (clash (sym e))
      go GValue-F.Null e k = absurd (clash (sym e))
      go (GValue-F.Enum name) e k = absurd (clash (sym e))
      go (GValue-F.Many xs) e k = absurd (clash (sym e))

  cursor_told : (table : ℕ) (x : GValue) → cursor_fault vars v table x ≡ None → Told (value_names (bare_cursor x))
  cursor_told table x h = go (out-GValue x) (cursor_object_told table x (is_object x) refl) h
    where
      several : (xs : List GValue) → only_object_fault vars v table xs ≡ None → AllByRecursion (λ y. Told (value_names y)) (map bare_object xs)
      several [] k = tt
      several (y ∷ []) k = (cursor_object_told table y (is_object y) refl k, tt)
      several (y ∷ z ∷ ys) k = absurd (some_none (refusal fault.BadCursor (codes "cursor")) k)

      go : (f : GValue-F GValue GPair) → (only_object_fault vars v table (x ∷ []) ≡ None → Told (value_names (bare_object x))) → only_object_fault vars v table (items_by x f) ≡ None → Told (value_names (bare_cursor_by (bare_object x) f))
      go (GValue-F.Many xs) one k = subst Told (sym (names-Many (map bare_object xs))) (each_value vars (map bare_object xs) (several xs k))
      go (GValue-F.Var name) one k = one k
      go (GValue-F.Int t) one k = one k
      go (GValue-F.Text t) one k = one k
      go (GValue-F.Bool t) one k = one k
      go GValue-F.Null one k = one k
      go (GValue-F.Enum name) one k = one k
      go (GValue-F.Object ps) one k = one k

  -- ---- arguments by what is known

  abbrev pub Judges : Known → Type 0
  Judges known = (p : GPair) → judged_by vars v known p ≡ None → Told (value_names (bare_value p))

  -- it is enough to tell the names in what stands at the name's place
  by_place : (p : GPair) → Told (value_names (inside (codes "cursor") bare_cursor (bytes_eq (pair_name p) (codes "cursor")) (pair_value p))) → Told (value_names (bare_value p))
  by_place p h = subst (λ x. Told (value_names x)) (sym ((keyed_renews (codes "cursor") bare_cursor).value_is p)) h

  -- an argument of another name
  whole : (name other : Text) (x : GValue) → bytes_eq name other ≡ true → bytes_eq other (codes "cursor") ≡ false → Told (value_names x) → Told (value_names (inside (codes "cursor") bare_cursor (bytes_eq name (codes "cursor")) x))
  whole name other x e n told =
      subst (λ c. Told (value_names (inside (codes "cursor") bare_cursor c x))) (sym (ap (λ t. bytes_eq t (codes "cursor")) ((bytes_eq-Decides name other).0 e) ∙ n)) told

  pub none_judges : Judges (no_arguments vars v)
  none_judges p h = absurd (some_none (refusal fault.NoArgument (pair_name p)) h)

  pub list_judges : (table : ℕ) → Judges (list_arguments vars v table)
  list_judges table p h =
      by_place p (go (bytes_eq (pair_name p) (codes "where")) refl (bytes_eq (pair_name p) (codes "order_by")) refl (bytes_eq (pair_name p) (codes "limit")) refl (bytes_eq (pair_name p) (codes "offset")) refl h)
    where
      go : (a : Bool) → bytes_eq (pair_name p) (codes "where") ≡ a → (b : Bool) → bytes_eq (pair_name p) (codes "order_by") ≡ b → (c : Bool) → bytes_eq (pair_name p) (codes "limit") ≡ c → (d : Bool) → bytes_eq (pair_name p) (codes "offset") ≡ d →
          known_fault vars v p (if a then Some (where_fault vars v table) else if b then Some (orders_fault vars v table) else if c || d then Some (count_fault vars (pair_name p)) else None) ≡ None →
          Told (value_names (inside (codes "cursor") bare_cursor (bytes_eq (pair_name p) (codes "cursor")) (pair_value p)))
      go true ea b eb c ec d ed k = whole (pair_name p) (codes "where") (pair_value p) ea refl (where_declared vars v table (pair_value p) k)
      go false ea true eb c ec d ed k = whole (pair_name p) (codes "order_by") (pair_value p) eb refl (orders_declared vars v table (pair_value p) k)
      go false ea false eb true ec d ed k = whole (pair_name p) (codes "limit") (pair_value p) ec refl (count_declared vars (pair_name p) (pair_value p) k)
      go false ea false eb false ec true ed k = whole (pair_name p) (codes "offset") (pair_value p) ed refl (count_declared vars (pair_name p) (pair_value p) k)
      go false ea false eb false ec false ed k = absurd (some_none (refusal fault.NoArgument (pair_name p)) k)

  pub stream_judges : (table : ℕ) → Judges (stream_arguments vars v table)
  stream_judges table p h =
      by_place p (go (bytes_eq (pair_name p) (codes "where")) refl (bytes_eq (pair_name p) (codes "batch_size")) refl (bytes_eq (pair_name p) (codes "cursor")) refl h)
    where
      go : (a : Bool) → bytes_eq (pair_name p) (codes "where") ≡ a → (b : Bool) → bytes_eq (pair_name p) (codes "batch_size") ≡ b → (c : Bool) → bytes_eq (pair_name p) (codes "cursor") ≡ c →
          known_fault vars v p (if a then Some (where_fault vars v table) else if b then Some (batch_fault vars (pair_name p)) else if c then Some (cursor_fault vars v table) else None) ≡ None →
          Told (value_names (inside (codes "cursor") bare_cursor (bytes_eq (pair_name p) (codes "cursor")) (pair_value p)))
      go true ea b eb c ec k = whole (pair_name p) (codes "where") (pair_value p) ea refl (where_declared vars v table (pair_value p) k)
      go false ea true eb c ec k = whole (pair_name p) (codes "batch_size") (pair_value p) eb refl (batch_declared vars (pair_name p) (pair_value p) k)
      go false ea false eb true ec k = subst (λ c. Told (value_names (inside (codes "cursor") bare_cursor c (pair_value p)))) (sym ec) (cursor_told table (pair_value p) k)
      go false ea false eb false ec k = absurd (some_none (refusal fault.NoArgument (pair_name p)) k)

  pub key_judges : (table : ℕ) → Judges (key_arguments vars v table)
  key_judges table p h = by_place p (go (list_any (bytes_eq (pair_name p)) (key_names vars v table)) h (bytes_eq (pair_name p) (codes "cursor")))
    where
      go : (a : Bool) → known_fault vars v p (if a then Some (single_fault vars (pair_name p) (key_kind vars v table (pair_name p))) else None) ≡ None → (c : Bool) → Told (value_names (inside (codes "cursor") bare_cursor c (pair_value p)))
      go true k true = single_bare vars (pair_name p) (key_kind vars v table (pair_name p)) (pair_value p) k
      go true k false = single_declared vars (pair_name p) (key_kind vars v table (pair_name p)) (pair_value p) k
      go false k c = absurd (some_none (refusal fault.NoArgument (pair_name p)) k)

  pub link_judges : (l : LinkDef) → Judges (link_arguments vars v l)
  link_judges l = go l.many
    where
      go : (c : Bool) → Judges (if c then list_arguments vars v l.table else no_arguments vars v)
      go true = list_judges l.table
      go false = none_judges

  pub arguments_told : (known : Known) → Judges known → (args : List GPair) → arguments_fault vars v known args ≡ None → Told (flat_map (λ p. value_names (bare_value p)) args)
  arguments_told known judges args h = go args (each_judged (refusal fault.NoArgument) (judged_by vars v known) [] args h)
    where
      go : (ps : List GPair) → AllByRecursion (λ p. judged_by vars v known p ≡ None) ps → Told (flat_map (λ p. value_names (bare_value p)) ps)
      go [] all = tt
      go (p ∷ ps) all = each_joined_all (IsDeclared vars) (value_names (bare_value p)) (flat_map (λ q. value_names (bare_value q)) ps) (judges p all.0) (go ps all.1)
