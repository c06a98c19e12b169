-- Permissions that are kept one by one are those of each role, at most one of each table.
use Rattle.std.proofs.Common.{◌≡◌, ℕ, ◌+◌, ◌-◌, ◌≤◌, Bool, true, false, ◌==◌, Option, Some, None, List, [], ◌∷◌, ◌++◌, length, cond, if◌then◌else◌, option_map, unwrap_or, find, refl, subst, sym, ap, ◌∙◌, append_assoc, append-nil, option_and_then, arith}
use denote.Ref.{Bor}
use Rattle.std.specs.List.{filter_map, flat_map, enumerate_from, slice_get, cons_option}
use Rattle.std.specs.Option.{option_to_list}
use Rattle.std.specs.Str.{bytes_eq}
use Rattle.std.specs.Ordering.{nat_cmp}
use Rattle.std.specs.Cmp.Lexicographic.{slice_cmp}
use Rattle.std.specs.BTreeMap.{BTreeMap, UpdatesBy, get_by}
use Rattle.std.proofs.lemmas.Bool.Decides.{nat_tests}
use Rattle.std.proofs.lemmas.List.{length_push}
use Rattle.std.proofs.lemmas.Map.Text.{btree_map_updates_str}
use Rattle.std.proofs.lemmas.Slice.Eq.{bytes_eq-Decides}
use Rattle.role_model.specs.Texts.{Text}
use Rattle.role_model.specs.JsonFilters.{distinct, mentions}
use Rattle.role_model.specs.MetadataNames.{json_of}
use Rattle.role_model.specs.MetadataMeaning.{permission_for, mentions_by, grant_of, grant_for, session_names, role_def}
use Rattle.role_model.specs.declared.metadata.Grant.{Grant}
use Rattle.role_model.specs.declared.metadata.PermissionEntry.{PermissionEntry}
use Rattle.role_model.specs.declared.metadata.TableEntry.{TableEntry}
use Rattle.metadata_bounds.specs.Names.{ShortFilters, most_names}
use Rattle.metadata_bounds.proofs.FewNames.{names_are_few}
use Rattle.name_set.proofs.NameRules.{same_text, turned}
use Rattle.metadata_read.specs.Few.{AreFew}
use Rattle.metadata_read.specs.Held.{HeldPermission, held_at, held_for, held_of, names_held, grant_held, role_held, is_at, ends_at, with_held, is_of, with_one, with_each, with_tables, kept_by}

-- the last of a list

past_all : {X : Type 0} (xs : List X) (x : X) → slice_get (xs ++ x ∷ []) (length xs) ≡ Some x
past_all [] x = refl
past_all (y ∷ ys) x = past_all ys x

last_pushed : {X : Type 0} (xs : List X) (x : X) → slice_get (xs ++ x ∷ []) (length (xs ++ x ∷ []) - 1) ≡ Some x
last_pushed xs x = ap (slice_get (xs ++ x ∷ [])) (omega (arith, length_push xs x)) ∙ past_all xs x

same_number : (n : ℕ) → (n == n) ≡ true
same_number n = grind (arith, nat_tests)

ends_pushed : (held : List HeldPermission) (h : HeldPermission) (n : ℕ) → ends_at (held ++ h ∷ []) n ≡ (h.at == n)
ends_pushed held h n = ap (is_at n) (last_pushed held h)

-- one table

past_first : (role : Text) (at : ℕ) (t : TableEntry) (held : List HeldPermission) (ps : List PermissionEntry) → ends_at held at ≡ true → with_each role at t held ps ≡ held
past_first role at t held [] h = refl
past_first role at t held (p ∷ ps) h = ap (λ hs. with_each role at t hs ps) (stays (is_of role (held_at at t p))) ∙ past_first role at t held ps h
  where
    stays : (b : Bool) → (if b then (if ends_at held at then held else held ++ held_at at t p ∷ []) else held) ≡ held
    stays true = rw h refl
    stays false = refl

abbrev found : ℕ → TableEntry → Option PermissionEntry → List HeldPermission
found at t o = option_to_list (option_map (held_at at t) o)

first_counts : (role : Text) (at : ℕ) (t : TableEntry) (held : List HeldPermission) (ps : List PermissionEntry) → ends_at held at ≡ false → with_each role at t held ps ≡ held ++ found at t (find (λ p. bytes_eq role p.role) ps)
first_counts role at t held [] h = sym (append-nil held)
first_counts role at t held (p ∷ ps) h = by (bytes_eq role p.role) (first_counts role at t held ps h)
  where
    here : HeldPermission
    here = held_at at t p

    by : (b : Bool) → with_each role at t held ps ≡ held ++ found at t (find (λ p. bytes_eq role p.role) ps) → with_each role at t (if b then with_held held here else held) ps ≡ held ++ found at t (cond b (Some p) (find (λ p. bytes_eq role p.role) ps))
    by true rest = rw h (past_first role at t (held ++ here ∷ []) ps (ends_pushed held here at ∙ same_number at))
    by false rest = rest

-- all tables

-- the last is of a table before this one
abbrev EndsBefore : List HeldPermission → ℕ → Type 0
EndsBefore held n = (m : ℕ) → n ≤ m → ends_at held m ≡ false

other_number : (n m : ℕ) → n + 1 ≤ m → (n == m) ≡ false
other_number n m h = grind (arith, nat_tests)

ends_before_next : (held : List HeldPermission) (n : ℕ) (t : TableEntry) (o : Option PermissionEntry) → EndsBefore held n → EndsBefore (held ++ found n t o) (n + 1)
ends_before_next held n t None before m h = subst (λ hs. ends_at hs m ≡ false) (sym (append-nil held)) (before m (omega (arith, h)))
ends_before_next held n t (Some p) before m h = ends_pushed held (held_at n t p) m ∙ other_number n m h

joined : (held rest : List HeldPermission) (n : ℕ) (t : TableEntry) (o : Option PermissionEntry) → (held ++ found n t o) ++ rest ≡ held ++ cons_option (option_map (held_at n t) o) rest
joined held rest n t None = ap (λ hs. hs ++ rest) (append-nil held)
joined held rest n t (Some p) = append_assoc held (held_at n t p ∷ []) rest

each_table : (role : Text) (n : ℕ) (held : List HeldPermission) (ts : List TableEntry) → EndsBefore held n → with_tables role n held ts ≡ held ++ filter_map (held_for role) (enumerate_from n ts)
each_table role n held [] before = sym (append-nil held)
each_table role n held (t ∷ ts) before =
    let o : Option PermissionEntry = permission_for role t in
    ap (λ hs. with_tables role (n + 1) hs ts) (first_counts role n t held t.select (before n (omega arith)))
    ∙ each_table role (n + 1) (held ++ found n t o) ts (ends_before_next held n t o before)
    ∙ joined held (filter_map (held_for role) (enumerate_from (n + 1) ts)) n t o

pub all_tables : (role : Text) (ts : List TableEntry) → with_tables role 0 [] ts ≡ held_of ts role
all_tables role ts = each_table role 0 [] ts (λ m h. refl)

-- what a role is, by its permissions

names_by : (role : Text) (n : ℕ) (ts : List TableEntry) → flat_map (λ (h : HeldPermission). mentions (json_of h.permission.filter)) (filter_map (held_for role) (enumerate_from n ts)) ≡ flat_map (λ t. mentions_by (permission_for role t)) ts
names_by role n [] = refl
names_by role n (t ∷ ts) = one (permission_for role t) ∙ ap (λ xs. mentions_by (permission_for role t) ++ xs) (names_by role (n + 1) ts)
  where
    rest : List HeldPermission
    rest = filter_map (held_for role) (enumerate_from (n + 1) ts)

    told : List HeldPermission → List Text
    told hs = flat_map (λ (h : HeldPermission). mentions (json_of h.permission.filter)) hs

    one : (o : Option PermissionEntry) → told (cons_option (option_map (held_at n t) o) rest) ≡ mentions_by o ++ told rest
    one None = refl
    one (Some p) = refl

pub names_are : (role : Text) (ts : List TableEntry) → names_held (held_of ts role) ≡ session_names ts role
names_are role ts = ap distinct (names_by role 0 ts)

-- and they are few
pub kept_names_few : (ts : List TableEntry) (role : Text) (kept : BTreeMap (Bor Text) (List HeldPermission)) → AreFew ts → ShortFilters ts → ((q : Text) → kept_by kept q ≡ held_of ts q) → length (names_held (kept_by kept role)) ≤ most_names
kept_names_few ts role kept few short is = subst (λ ns. length ns ≤ most_names) (sym (ap names_held (is role) ∙ names_are role ts)) (names_are_few ts role few.few short)

grants_by : (role : Text) (names : List Text) (n : ℕ) (ts : List TableEntry) → filter_map (grant_held names) (filter_map (held_for role) (enumerate_from n ts)) ≡ filter_map (grant_for role names) (enumerate_from n ts)
grants_by role names n [] = refl
grants_by role names n (t ∷ ts) = one (permission_for role t) (grants_by role names (n + 1) ts)
  where
    rest : List HeldPermission
    rest = filter_map (held_for role) (enumerate_from (n + 1) ts)

    others : List Grant
    others = filter_map (grant_for role names) (enumerate_from (n + 1) ts)

    one : (o : Option PermissionEntry) → filter_map (grant_held names) rest ≡ others → filter_map (grant_held names) (cons_option (option_map (held_at n t) o) rest) ≡ cons_option (option_and_then (grant_of names n t) o) others
    one None same = same
    one (Some p) same = ap (λ gs. cons_option (grant_of names n t p) gs) same

-- permissions of a role give what the tables give it
pub role_is : (role : Text) (ts : List TableEntry) → role_held role (held_of ts role) ≡ role_def ts role
role_is role ts = rw (names_are role ts, grants_by role (session_names ts role) 0 ts) refl

-- one more permission in the map

chosen : (b : Bool) (own : List HeldPermission) (o : Option (List HeldPermission)) → unwrap_or (cond b (Some own) (cond b None o)) [] ≡ cond b own (unwrap_or o [])
chosen true own o = refl
chosen false own o = refl

pub kept_more : (m taken n : BTreeMap (Bor Text) (List HeldPermission)) (role : Text) (own : List HeldPermission) (h : HeldPermission) → UpdatesBy (λ x y. slice_cmp nat_cmp x.now y.now) (λ k. slice_cmp nat_cmp role k.now) m taken None → UpdatesBy (λ x y. slice_cmp nat_cmp x.now y.now) (λ k. slice_cmp nat_cmp role k.now) taken n (Some own) → role ≡ h.permission.role → own ≡ with_held (kept_by m role) h → (q : Text) → kept_by n q ≡ with_one q (kept_by m q) h
kept_more m taken n role own h takes puts named is q =
    ap (λ o. unwrap_or o []) (btree_map_updates_str role taken n (Some own) puts q ∙ ap (λ o. cond (bytes_eq role q) (Some own) o) (btree_map_updates_str role m taken None takes q))
    ∙ chosen (bytes_eq role q) own (get_by (λ k. slice_cmp nat_cmp q k.now) m)
    ∙ by (bytes_eq role q) refl
  where
    by : (b : Bool) → bytes_eq role q ≡ b → cond b own (kept_by m q) ≡ with_one q (kept_by m q) h
    by true k =
        let same : role ≡ q = same_text role q k in
        let mine : bytes_eq q h.permission.role ≡ true = (bytes_eq-Decides q h.permission.role).1 (sym same ∙ named) in
        rw mine (is ∙ ap (λ r. with_held (kept_by m r) h) same)
    by false k =
        let other : bytes_eq q h.permission.role ≡ false = ap (bytes_eq q) (sym named) ∙ turned q role ∙ k in
        rw other refl
