-- Tables that are visited, each once.
use Rattle.std.proofs.Common.{◌≡◌, ◌<◌, ◌+◌, ◌⊎◌, inl, inr, ℕ, true, false, List, [], ◌∷◌, ◌++◌, length, drop, get_or, map, flat_map, refl, ap, sym, ◌∙◌, Ordering, Less, Equal, Greater, nat_cmp}
use Rattle.std.proofs.lemmas.Bool.{cases_eq}
use Rattle.std.proofs.lemmas.Grind.{flat_map-append}
use Rattle.std.proofs.lemmas.List.{append-nil, drop_more}
use Rattle.std.proofs.lemmas.List.Folds.{flat_map-map}
use Rattle.std.proofs.lemmas.Map.Lookups.{exact_unsigned}
use Rattle.std.specs.Ordering.{is_eq}
use Rattle.std.specs.BTreeSet.{BTreeSet, contains}
use Rattle.role_model.specs.declared.metadata.LinkDef.{LinkDef}
use Rattle.role_model.specs.Roles.{View}
use Rattle.request_model.specs.declared.flat.FlatField.{FlatField}
use Rattle.request_model.specs.declared.flat.FlatField.TheViews.{out-FlatField}
use Rattle.request_model.specs.declared.flat.FlatField.TheFolds.{fold_out-FlatField}
use Rattle.query_model.specs.declared.session.SessionSlot.{SessionSlot}
use Rattle.query_model.specs.Names.{Root, Meant, ALink, Typename, AColumn, Unseen, meant}
use Rattle.query_model.specs.Queries.{root_tables, table_slots, tables_by, tables_step, tables_below}
use Rattle.role_fields.specs.declared.fields.Root as a_root
use Rattle.role_fields.specs.declared.fields.Root.TheVariants as root
use Rattle.role_fields.specs.Said.{root_said}
use Rattle.selection_plan.specs.Gathered.{gathered, gathered_on, HasVisited}
use Rattle.selection_plan.proofs.Gathering.{gathered_append, gathered_either, gathered_twice}

not_tied : (a b : ℕ) → (a ≡ b → ⊥) → is_eq (nat_cmp a b) ≡ false
not_tied a b ne = go (nat_cmp a b) refl
  where
    go : (o : Ordering) → nat_cmp a b ≡ o → is_eq o ≡ false
    go Less e = refl
    go Equal e = absurd (ne (exact_unsigned a b e))
    go Greater e = refl

abbrev each_below : View → FlatField → ℕ → List ℕ
each_below v g t = tables_below v t g

module _ (v : View) where
  -- a table more that is visited
  pub visited_more : (tables after : BTreeSet ℕ) (table : ℕ) (before now : List SessionSlot) → HasVisited v tables before →
      ((q : ℕ) → is_eq (nat_cmp table q) ≡ false → contains nat_cmp after q ≡ contains nat_cmp tables q) →
      now ≡ gathered (table_slots v table) before → HasVisited v after now
  visited_more tables after table before now held others e = λ t is. go t (cases_eq table t) is
    where
      go : (t : ℕ) → (table ≡ t) ⊎ (table ≡ t → ⊥) → contains nat_cmp after t ≡ true → gathered (table_slots v t) now ≡ now
      go t (inl same) is =
          ap (λ u. gathered (table_slots v u) now) (sym same) ∙ ap (gathered (table_slots v table)) e
          ∙ gathered_twice (table_slots v table) before ∙ sym e
      go t (inr ne) is =
          ap (gathered (table_slots v t)) e ∙ gathered_either (table_slots v t) (table_slots v table) before
          ∙ ap (gathered (table_slots v table)) (held t (sym (others t (not_tied table t ne)) ∙ is)) ∙ sym e

  pub on_append : (ts us : List ℕ) (there : List SessionSlot) → gathered_on v (ts ++ us) there ≡ gathered_on v us (gathered_on v ts there)
  on_append ts us there =
      ap (λ xs. gathered xs there) (flat_map-append (table_slots v) ts us)
      ∙ gathered_append (flat_map (table_slots v) ts) (flat_map (table_slots v) us) there

  pub on_one : (table : ℕ) (there : List SessionSlot) → gathered_on v (table ∷ []) there ≡ gathered (table_slots v table) there
  on_one table there = ap (λ xs. gathered xs there) (append-nil (table_slots v table))

  -- those of one more of a list
  pub on_more : {X : Type 0} (f : X → List ℕ) (xs : List X) (i : ℕ) (x : X) (before after all : List SessionSlot) → i < length xs → x ≡ get_or xs i x →
      after ≡ gathered_on v (f x) before → gathered_on v (flat_map f (drop i xs)) before ≡ all → gathered_on v (flat_map f (drop (i + 1) xs)) after ≡ all
  on_more f xs i x before after all lt is e h =
      ap (gathered_on v (flat_map f (drop (i + 1) xs))) (e ∙ ap (λ y. gathered_on v (f y) before) is)
      ∙ sym (on_append (f (get_or xs i x)) (flat_map f (drop (i + 1) xs)) before)
      ∙ sym (ap (λ ys. gathered_on v (flat_map f ys) before) (drop_more xs i x lt)) ∙ h

  -- the tables of a field
  below_is : (table : ℕ) (f : FlatField) (m : Meant) → meant v table (out-FlatField f).name ≡ m →
      tables_below v table f ≡ tables_by v (map (each_below v) (out-FlatField f).fields) m
  below_is table f m e =
      ap (λ (g : ℕ → List ℕ). g table) (fold_out-FlatField (ℕ → List ℕ) (tables_step v) f)
      ∙ ap (tables_by v (map (each_below v) (out-FlatField f).fields)) e

  pub below_link : (table : ℕ) (f : FlatField) (l : LinkDef) (first after all : List SessionSlot) → meant v table (out-FlatField f).name ≡ ALink l →
      after ≡ gathered_on v (l.table ∷ []) first → all ≡ gathered_on v (flat_map (tables_below v l.table) (out-FlatField f).fields) after →
      all ≡ gathered_on v (tables_below v table f) first
  below_link table f l first after all e one rest =
      let inner = map (each_below v) (out-FlatField f).fields in
      rest ∙ ap (gathered_on v (flat_map (tables_below v l.table) (out-FlatField f).fields)) one
      ∙ sym (on_append (l.table ∷ []) (flat_map (tables_below v l.table) (out-FlatField f).fields) first)
      ∙ sym (ap (λ ts. gathered_on v ts first)
      (below_is table f (ALink l) e ∙ ap (λ ts. l.table ∷ ts) (flat_map-map (λ (g : ℕ → List ℕ). g l.table) (each_below v) (out-FlatField f).fields)))

  -- the tables of a field of the root
  pub below_root : (table : ℕ) (fields : List FlatField) (root : Root) (first after all : List SessionSlot) → root_tables v root fields ≡ table ∷ flat_map (tables_below v table) fields →
      after ≡ gathered_on v (table ∷ []) first → all ≡ gathered_on v (flat_map (tables_below v table) fields) after → all ≡ gathered_on v (root_tables v root fields) first
  below_root table fields root first after all is one rest =
      rest ∙ ap (gathered_on v (flat_map (tables_below v table) fields)) one
      ∙ sym (on_append (table ∷ []) (flat_map (tables_below v table) fields) first) ∙ ap (λ ts. gathered_on v ts first) (sym is)

  pub root_is : (table : ℕ) (fields : List FlatField) (r : a_root.Root) → (r ≡ root.RowsOf table) ⊎ ((r ≡ root.RowOf table) ⊎ (r ≡ root.StreamOf table)) →
      root_tables v (root_said r) fields ≡ table ∷ flat_map (tables_below v table) fields
  root_is table fields r (inl e) = ap (λ r. root_tables v (root_said r) fields) e
  root_is table fields r (inr (inl e)) = ap (λ r. root_tables v (root_said r) fields) e
  root_is table fields r (inr (inr e)) = ap (λ r. root_tables v (root_said r) fields) e

  pub below_typename : (table : ℕ) (f : FlatField) → meant v table (out-FlatField f).name ≡ Typename → tables_below v table f ≡ []
  below_typename table f e = below_is table f Typename e

  pub below_column : (table column : ℕ) (f : FlatField) → meant v table (out-FlatField f).name ≡ AColumn column → tables_below v table f ≡ []
  below_column table column f e = below_is table f (AColumn column) e

  pub below_unseen : (table : ℕ) (f : FlatField) → meant v table (out-FlatField f).name ≡ Unseen → tables_below v table f ≡ []
  below_unseen table f e = below_is table f Unseen e
