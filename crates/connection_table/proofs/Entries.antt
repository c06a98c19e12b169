-- What the calls of the map do to its entries, as contracts see them.
use Rattle.std.proofs.Common.{if◌then◌else◌, ◌≡◌, ◌∙◌, ℕ, ◌<◌, Bool, true, false, cond, not, eqb, ltb, Option, Some, None, is_some, List, [], ◌∷◌, map, refl, sym, ap, subst, arith}
use Rattle.std.specs.Prelude.{find}
use Rattle.std.specs.Option.{option_map}
use Rattle.std.specs.List.{AllByRecursion}
use Rattle.std.specs.List.Sorted.{IsStrictlySortedBy}
use Rattle.std.specs.Ordering.{nat_cmp}
use Rattle.std.specs.declared.cmp.Ordering.TheVariants.{Less}
use Rattle.std.specs.Map.{keys_of, lookup, set_value, remove_entry}
use Rattle.std.specs.BTreeMap.{BTreeMap, IsOrdered, get, is_at, insert_entry}
use Rattle.std.proofs.lemmas.Bool.{eqb-true}
use Rattle.std.proofs.lemmas.Bool.Decides.{nat_tests}
use Rattle.std.proofs.lemmas.Map.Keys.{sorted_head, sorted_tail}
use Rattle.connection_table.specs.declared.connection.Connection.{Connection}
use Rattle.connection_table.specs.Connected.{Connected, is_number, connected_at, at, changed, with_new, without, same}
use Rattle.connection_table.specs.Seen.{seen, seen_entry}

abbrev Entry : Type 0
Entry = ℕ × Connection

abbrev pub finds : ℕ → ℕ → Bool
finds n = is_at (nat_cmp n)

pub finds_is : (n k : ℕ) → finds n k ≡ eqb k n
finds_is n k = grind (arith, nat_tests)

above_is : (n k : ℕ) → nat_cmp n k ≡ Less → n < k
above_is n k h = grind (arith, nat_tests)

-- ---- reading

find_by : (n : ℕ) (e : Entry) (es : List Entry) (b : Bool) → eqb e.0 n ≡ b →
    find (is_number n) (map seen_entry es) ≡ option_map (seen n) (lookup (finds n) es) →
    cond b (Some (seen_entry e)) (find (is_number n) (map seen_entry es))
    ≡ option_map (seen n) (cond b (Some e.1) (lookup (finds n) es))
find_by n e es true is rest = ap (λ (k : ℕ). Some (seen k e.1)) (eqb-true e.0 n is)
find_by n e es false is rest = rest

find_seen : (n : ℕ) (es : List Entry) →
    find (is_number n) (map seen_entry es) ≡ option_map (seen n) (lookup (finds n) es)
find_seen n [] = refl
find_seen n (e ∷ es) =
    find_by n e es (eqb e.0 n) refl (find_seen n es)
    ∙ ap (λ (b : Bool). option_map (seen n) (cond b (Some e.1) (lookup (finds n) es))) (sym (finds_is n e.0))

-- ---- a change of one connection

at_other : (n : ℕ) (f : Connected → Connected) (e : Entry) → eqb e.0 n ≡ false → at n f (seen_entry e) ≡ seen_entry e
at_other n f e other = rw other refl

none_by : (n : ℕ) (f : Connected → Connected) (e : Entry) (es : List Entry) (b : Bool) → eqb e.0 n ≡ b →
    cond b (Some e.1) (lookup (finds n) es) ≡ None →
    (lookup (finds n) es ≡ None → changed n f (map seen_entry es) ≡ map seen_entry es) →
    changed n f (map seen_entry (e ∷ es)) ≡ map seen_entry (e ∷ es)
none_by n f e es true is none rest = absurd (cc)
none_by n f e es false is none rest =
    let here = at_other n f e is in
    let there = rest none in
    λ i. here i ∷ there i

none_changed : (n : ℕ) (f : Connected → Connected) (es : List Entry) → lookup (finds n) es ≡ None →
    changed n f (map seen_entry es) ≡ map seen_entry es
none_changed n f [] none = refl
none_changed n f (e ∷ es) none =
    none_by n f e es (eqb e.0 n) refl
    (ap (λ (b : Bool). cond b (Some e.1) (lookup (finds n) es)) (sym (finds_is n e.0)) ∙ none) (none_changed n f es)

above_changed : (n : ℕ) (f : Connected → Connected) (es : List Entry) →
    AllByRecursion (λ y. nat_cmp n y ≡ Less) (keys_of es) → changed n f (map seen_entry es) ≡ map seen_entry es
above_changed n f [] above = refl
above_changed n f (e ∷ es) above =
    let less = above_is n e.0 above.0 in
    let apart : eqb e.0 n ≡ false = grind (arith, nat_tests) in
    let here = at_other n f e apart in
    let there = above_changed n f es above.1 in
    λ i. here i ∷ there i

set_by : (n : ℕ) (f : Connected → Connected) (e : Entry) (es : List Entry) (v w : Connection) (b : Bool) →
    eqb e.0 n ≡ b → IsStrictlySortedBy nat_cmp (keys_of (e ∷ es)) → cond b (Some e.1) (lookup (finds n) es) ≡ Some v →
    seen n w ≡ f (seen n v) →
    (lookup (finds n) es ≡ Some v → map seen_entry (set_value (finds n) es w) ≡ changed n f (map seen_entry es)) →
    map seen_entry (cond b ((e.0, w) ∷ es) (e ∷ set_value (finds n) es w))
    ≡ cond b (f (seen_entry e)) (seen_entry e) ∷ changed n f (map seen_entry es)
set_by n f e es v w true is sorted found same rest =
    let number : e.0 ≡ n = eqb-true e.0 n is in
    let value : e.1 ≡ v = cc in
    let here : seen e.0 w ≡ f (seen e.0 e.1) = rw (number, value) same in
    let there = sym (above_changed n f es (subst (λ (k : ℕ). AllByRecursion (λ y. nat_cmp k y ≡ Less) (keys_of es))
    number (sorted_head nat_cmp e.0 (keys_of es) sorted))) in
    λ i. here i ∷ there i
set_by n f e es v w false is sorted found same rest = ap (λ (cs : List Connected). seen_entry e ∷ cs) (rest found)

set_changed : (n : ℕ) (f : Connected → Connected) (es : List Entry) (v w : Connection) →
    IsStrictlySortedBy nat_cmp (keys_of es) → lookup (finds n) es ≡ Some v → seen n w ≡ f (seen n v) →
    map seen_entry (set_value (finds n) es w) ≡ changed n f (map seen_entry es)
set_changed n f [] v w sorted found same = absurd (cc)
set_changed n f (e ∷ es) v w sorted found same =
    ap (λ (b : Bool). map seen_entry (cond b ((e.0, w) ∷ es) (e ∷ set_value (finds n) es w))) (finds_is n e.0)
    ∙ set_by n f e es v w (eqb e.0 n) refl sorted (ap (λ (b : Bool). cond b (Some e.1) (lookup (finds n) es))
    (sym (finds_is n e.0)) ∙ found) same
    (λ there. set_changed n f es v w (sorted_tail nat_cmp e.0 (keys_of es) sorted) there same)

-- ---- one less

above_kept : (n : ℕ) (es : List Entry) → AllByRecursion (λ y. nat_cmp n y ≡ Less) (keys_of es) →
    map seen_entry es ≡ without n (map seen_entry es)
above_kept n [] above = refl
above_kept n (e ∷ es) above =
    let less = above_is n e.0 above.0 in
    let apart : eqb e.0 n ≡ false = grind (arith, nat_tests) in
    rw apart (ap (λ (cs : List Connected). seen_entry e ∷ cs) (above_kept n es above.1))

remove_by : (n : ℕ) (e : Entry) (es : List Entry) (b : Bool) → eqb e.0 n ≡ b →
    IsStrictlySortedBy nat_cmp (keys_of (e ∷ es)) →
    map seen_entry (remove_entry (finds n) es) ≡ without n (map seen_entry es) →
    map seen_entry (cond b es (e ∷ remove_entry (finds n) es))
    ≡ cond (not b) (seen_entry e ∷ without n (map seen_entry es)) (without n (map seen_entry es))
remove_by n e es true is sorted rest =
    above_kept n es (subst (λ (k : ℕ). AllByRecursion (λ y. nat_cmp k y ≡ Less) (keys_of es)) (eqb-true e.0 n is)
    (sorted_head nat_cmp e.0 (keys_of es) sorted))
remove_by n e es false is sorted rest = ap (λ (cs : List Connected). seen_entry e ∷ cs) rest

pub removed : (n : ℕ) (es : List Entry) → IsStrictlySortedBy nat_cmp (keys_of es) →
    map seen_entry (remove_entry (finds n) es) ≡ without n (map seen_entry es)
removed n [] sorted = refl
removed n (e ∷ es) sorted =
    ap (λ (b : Bool). map seen_entry (cond b es (e ∷ remove_entry (finds n) es))) (finds_is n e.0)
    ∙ remove_by n e es (eqb e.0 n) refl sorted (removed n es (sorted_tail nat_cmp e.0 (keys_of es) sorted))

-- ---- one more

insert_by : (n : ℕ) (v : Connection) (e : Entry) (es : List Entry) (l b : Bool) → ltb n e.0 ≡ l → eqb n e.0 ≡ b →
    cond (eqb e.0 n) (Some e.1) (lookup (finds n) es) ≡ None →
    (lookup (finds n) es ≡ None →
    map seen_entry (insert_entry nat_cmp es n v) ≡ with_new (seen n v) (map seen_entry es)) →
    map seen_entry (insert_entry nat_cmp (e ∷ es) n v) ≡ with_new (seen n v) (map seen_entry (e ∷ es))
insert_by n v e es true b less is none rest = rw less refl
insert_by n v e es false true less is none rest =
    let turned : eqb e.0 n ≡ true = grind (arith, nat_tests) in
    let some : Some e.1 ≡ None = ap (λ (c : Bool). cond c (Some e.1) (lookup (finds n) es)) (sym turned) ∙ none in
    absurd (cc)
insert_by n v e es false false less is none rest =
    let turned : eqb e.0 n ≡ false = grind (arith, nat_tests) in
    let there = rest (ap (λ (c : Bool). cond c (Some e.1) (lookup (finds n) es)) (sym turned) ∙ none) in
    rw (less, is) (ap (λ (cs : List Connected). seen_entry e ∷ cs) there)

inserted : (n : ℕ) (v : Connection) (es : List Entry) → lookup (finds n) es ≡ None →
    map seen_entry (insert_entry nat_cmp es n v) ≡ with_new (seen n v) (map seen_entry es)
inserted n v [] none = refl
inserted n v (e ∷ es) none =
    insert_by n v e es (ltb n e.0) (eqb n e.0) refl refl (ap (λ (b : Bool). cond b (Some e.1) (lookup (finds n) es))
    (sym (finds_is n e.0)) ∙ none) (inserted n v es)

-- ---- the map after `get_mut`, where what contracts see of it is cs

pub through : (n : ℕ) (f : Connected → Connected) (m after : BTreeMap ℕ Connection) (before now : Connection)
    (cs : List Connected) → IsOrdered nat_cmp m → Some before ≡ get nat_cmp m n →
    after.entries ≡ set_value (finds n) m.entries now → seen n now ≡ f (seen n before) →
    map seen_entry m.entries ≡ cs → map seen_entry after.entries ≡ changed n f cs
through n f m after before now cs ordered found set same view =
    ap (map seen_entry) set ∙ set_changed n f m.entries before now ordered (sym found) same ∙ ap (changed n f) view

pub absent : (n : ℕ) (f : Connected → Connected) (m after : BTreeMap ℕ Connection) (cs : List Connected) →
    None ≡ get nat_cmp m n → after ≡ m → map seen_entry m.entries ≡ cs → map seen_entry after.entries ≡ changed n f cs
absent n f m after cs found same view =
    ap (λ (t : BTreeMap ℕ Connection). map seen_entry t.entries) same
    ∙ sym (none_changed n f m.entries (sym found)) ∙ ap (changed n f) view

kept_at : (n : ℕ) (e : Entry) (b : Bool) → (if b then seen_entry e else seen_entry e) ≡ seen_entry e
kept_at n e true = refl
kept_at n e false = refl

kept_all : (n : ℕ) (es : List Entry) → changed n same (map seen_entry es) ≡ map seen_entry es
kept_all n [] = refl
kept_all n (e ∷ es) =
    let here = kept_at n e (eqb e.0 n) in
    let there = kept_all n es in
    λ i. here i ∷ there i

-- the same where the connection is seen as before
pub kept : (n : ℕ) (m after : BTreeMap ℕ Connection) (before now : Connection) (cs : List Connected) →
    IsOrdered nat_cmp m → Some before ≡ get nat_cmp m n → after.entries ≡ set_value (finds n) m.entries now →
    seen n now ≡ seen n before → map seen_entry m.entries ≡ cs → map seen_entry after.entries ≡ cs
kept n m after before now cs ordered found set is view =
    ap (map seen_entry) set ∙ set_changed n same m.entries before now ordered (sym found) is
    ∙ kept_all n m.entries ∙ view

-- the connection of a number, as contracts see it
pub found_is : (n : ℕ) (m : BTreeMap ℕ Connection) (cs : List Connected) → map seen_entry m.entries ≡ cs →
    connected_at n cs ≡ option_map (seen n) (get nat_cmp m n)
found_is n m cs view = ap (connected_at n) (sym view) ∙ find_seen n m.entries

map_some : {X Y : Type 0} (h : X → Y) (o : Option X) → is_some (option_map h o) ≡ is_some o
map_some h None = refl
map_some h (Some x) = refl

pub some_seen : (n : ℕ) (m : BTreeMap ℕ Connection) (cs : List Connected) → map seen_entry m.entries ≡ cs →
    is_some (connected_at n cs) ≡ is_some (get nat_cmp m n)
some_seen n m cs view = ap is_some (found_is n m cs view) ∙ map_some (seen n) (get nat_cmp m n)

no_connection : (o : Option Connection) → is_some o ≡ false → o ≡ None
no_connection None none = refl
no_connection (Some c) none = absurd (cc)

pub none_from : (n : ℕ) (m : BTreeMap ℕ Connection) (cs : List Connected) → map seen_entry m.entries ≡ cs →
    is_some (connected_at n cs) ≡ false → get nat_cmp m n ≡ None
none_from n m cs view none = no_connection (get nat_cmp m n) (sym (some_seen n m cs view) ∙ none)

pub added : (n : ℕ) (v : Connection) (d : Connected) (m after : BTreeMap ℕ Connection) (cs : List Connected) →
    get nat_cmp m n ≡ None → after.entries ≡ insert_entry nat_cmp m.entries n v → seen n v ≡ d →
    map seen_entry m.entries ≡ cs → map seen_entry after.entries ≡ with_new d cs
added n v d m after cs none entries is view =
    ap (map seen_entry) entries ∙ inserted n v m.entries none
    ∙ ap (λ (e : Connected). with_new e (map seen_entry m.entries)) is ∙ ap (with_new d) view
