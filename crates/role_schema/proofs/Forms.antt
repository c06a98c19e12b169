-- What the forms of a document's values give: settings in their ranges, and lists that aren't empty.
use Rattle.std.proofs.Common.{◌≡◌, ℕ, suc, ◌<◌, ◌≤◌, ℤ, pos, negsuc, Bool, true, false, ◌&&◌, Option, Some, None, List, [], ◌∷◌, length, int_le, nat_le, unwrap_or, option_map, option_and_then, if◌then◌else◌, refl, subst, ap, codes, arith}
use Rattle.std.specs.List.{AllByRecursion}
use Rattle.std.proofs.lemmas.Bool.Decides.{nat_tests}
use Rattle.toml.specs.Data.{Data, Items, no_items, item, Members, get_member, as_str, as_integer, as_array, as_table}
use Rattle.role_model.specs.declared.metadata.Document.{Document}
use Rattle.role_model.specs.declared.metadata.TableEntry.{TableEntry}
use Rattle.role_model.specs.declared.metadata.LinkEntry.{LinkEntry}
use Rattle.role_model.specs.Texts.{Text}
use Rattle.role_model.specs.MetadataForm.{integer_from, nat_of, of_items, list_of, filled, filled_list_of, filled_text, required, may_be, optional, with_default, table_with, has_only, column_of, link_in, link_of, link_keys, permission_of, table_in, table_of, table_keys, document_in, document_of, document_keys}

-- both steps of a reading that gave something
pub record Steps {A B : Type 0} (o : Option A) (f : A → Option B) (y : B) : Type 0 where
  pub value : A
  pub here : o ≡ Some value
  pub there : f value ≡ Some y

pub steps_of : {A B : Type 0} (o : Option A) (f : A → Option B) (y : B) → option_and_then f o ≡ Some y → Steps o f y
steps_of (Some x) f y e = record { value = x; here = refl; there = e }
steps_of None f y e = cc

steps : {A B : Type 0} (o : Option A) {f : A → Option B} {y : B} → option_and_then f o ≡ Some y → Steps o f y
steps {A} {B} o {f} {y} e = steps_of o f y e

pub same : {A : Type 0} (x y : A) → Some x ≡ Some y → x ≡ y
same x y e = ap (λ o. unwrap_or o x) e

if_some : {A : Type 0} (b : Bool) (o : Option A) (y : A) → (if b then o else None) ≡ Some y → o ≡ Some y
if_some true o y e = e
if_some false o y e = cc

-- integers

both_true : (a b : Bool) → (a && b) ≡ true → (a ≡ true) × (b ≡ true)
both_true true b h = (refl, h)
both_true false b h = cc

at_most : (n m : ℕ) → nat_le n m ≡ true → n ≤ m
at_most n m h = grind (arith, nat_tests)

abbrev pub InRange : ℕ → ℕ → ℕ → Type 0
InRange least most n = (least ≤ n) × (n ≤ most)

in_range : (least most k n : ℕ) → (int_le (pos least) (pos k) && int_le (pos k) (pos most)) ≡ true → k ≡ n → InRange least most n
in_range least most k n h e =
    let both = both_true (int_le (pos least) (pos k)) (int_le (pos k) (pos most)) h in
    subst (InRange least most) e (at_most least k both.0, at_most k most both.1)

integer_by : (least most k n : ℕ) (b : Bool) → (int_le (pos least) (pos k) && int_le (pos k) (pos most)) ≡ b → (if b then Some k else None) ≡ Some n → InRange least most n
integer_by least most k n true h e = in_range least most k n h (same k n e)
integer_by least most k n false h e = cc

integer_of : (least most : ℕ) (z : ℤ) (n : ℕ) → (if int_le (pos least) z && int_le z (pos most) then Some (nat_of z) else None) ≡ Some n → InRange least most n
integer_of least most (pos k) n e = integer_by least most k n (int_le (pos least) (pos k) && int_le (pos k) (pos most)) refl e
integer_of least most (negsuc k) n e = cc

pub ranged : (least most : ℕ) (d : Data) (n : ℕ) → integer_from least most d ≡ Some n → InRange least most n
ranged least most d n e = let s = steps_of (as_integer d) (λ z. if int_le (pos least) z && int_le z (pos most) then Some (nat_of z) else None) n e in integer_of least most s.value n s.there

-- values that may be left out

present : {A : Type 0} (P : A → Type 0) (default : A) (o : Option A) (x : A) → ((x : A) → o ≡ Some x → P x) → option_map (λ o. unwrap_or o default) (option_map Some o) ≡ Some x → P x
present P default (Some y) x h e = h x e
present P default None x h e = cc

default_by : {A : Type 0} (P : A → Type 0) (f : Data → Option A) (default : A) (o : Option Data) (x : A) → ((d : Data) (x : A) → f d ≡ Some x → P x) → P default → option_map (λ o. unwrap_or o default) (may_be f o) ≡ Some x → P x
default_by P f default None x h k e = subst P (same default x e) k
default_by P f default (Some d) x h k e = present P default (f d) x (h d) e

with_default_holds : {A : Type 0} (P : A → Type 0) (f : Data → Option A) (default : A) (key : Text) (ms : Members) (x : A) → ((d : Data) (x : A) → f d ≡ Some x → P x) → P default → with_default f default key ms ≡ Some x → P x
with_default_holds P f default key ms x h k e = default_by P f default (get_member key ms) x h k e

required_holds : {A : Type 0} (P : A → Type 0) (f : Data → Option A) (key : Text) (ms : Members) (x : A) → ((d : Data) (x : A) → f d ≡ Some x → P x) → required f key ms ≡ Some x → P x
required_holds P f key ms x h e = let s = steps_of (get_member key ms) f x e in h s.value x s.there

-- lists

rest_hold : {A : Type 0} (P : A → Type 0) (x : A) (o : Option (List A)) (xs : List A) → P x → ((ys : List A) → o ≡ Some ys → AllByRecursion P ys) → option_map (λ xs. x ∷ xs) o ≡ Some xs → AllByRecursion P xs
rest_hold P x (Some ys) xs h k e = subst (AllByRecursion P) (same (x ∷ ys) xs e) (h, k ys refl)
rest_hold P x None xs h k e = cc

items_hold : {A : Type 0} (P : A → Type 0) (f : Data → Option A) → ((d : Data) (x : A) → f d ≡ Some x → P x) → (ds : Items) (xs : List A) → of_items f ds ≡ Some xs → AllByRecursion P xs
items_hold P f h no_items xs e = subst (AllByRecursion P) (same [] xs e) tt
items_hold P f h (item d ds) xs e = let s = steps_of (f d) (λ x. option_map (λ xs. x ∷ xs) (of_items f ds)) xs e in rest_hold P s.value (of_items f ds) xs (h d s.value s.here) (items_hold P f h ds) s.there

list_holds : {A : Type 0} (P : A → Type 0) (f : Data → Option A) → ((d : Data) (x : A) → f d ≡ Some x → P x) → (d : Data) (xs : List A) → list_of f d ≡ Some xs → AllByRecursion P xs
list_holds P f h d xs e = let s = steps_of (as_array d) (of_items f) xs e in items_hold P f h s.value xs s.there

abbrev IsFilled : {A : Type 0} → List A → Type 0
IsFilled xs = 0 < length xs

above_zero : (n : ℕ) → 0 < suc n
above_zero n = omega arith

filled_some : {A : Type 0} (xs ys : List A) → filled xs ≡ Some ys → IsFilled ys
filled_some [] ys e = cc
filled_some (x ∷ xs) ys e = subst IsFilled (same (x ∷ xs) ys e) (above_zero (length xs))

filled_list : {A : Type 0} (f : Data → Option A) (d : Data) (xs : List A) → filled_list_of f d ≡ Some xs → IsFilled xs
filled_list f d xs e = let s = steps_of (list_of f d) filled xs e in filled_some s.value xs s.there

table_with_holds : {A : Type 0} (P : A → Type 0) (keys : List Text) (f : Members → Option A) → ((ms : Members) (x : A) → f ms ≡ Some x → P x) → (d : Data) (x : A) → table_with keys f d ≡ Some x → P x
table_with_holds P keys f h d x e = let s = steps_of (as_table d) (λ ms. if has_only keys ms then f ms else None) x e in h s.value x (if_some (has_only keys s.value) (f s.value) x s.there)

-- entries

abbrev pub LinkForm : LinkEntry → Type 0
LinkForm l = 0 < length l.from

link_in_form : (ms : Members) (l : LinkEntry) → link_in ms ≡ Some l → LinkForm l
link_in_form ms l e =
    let name = steps (required as_str (codes "name") ms) e in
    let table = steps (required as_str (codes "table") ms) name.there in
    let from = steps (required (filled_list_of as_str) (codes "from") ms) table.there in
    let to = steps (required (filled_list_of as_str) (codes "to") ms) from.there in
    subst LinkForm (same _ l to.there) (required_holds IsFilled (filled_list_of as_str) (codes "from") ms from.value (filled_list as_str) from.here)

link_form : (d : Data) (l : LinkEntry) → link_of d ≡ Some l → LinkForm l
link_form = table_with_holds LinkForm link_keys link_in link_in_form

pub record TableForm (t : TableEntry) : Type 0 where
  pub keyed : 0 < length t.key
  pub room : InRange 1 1048576 t.max_rows
  pub object : AllByRecursion LinkForm t.object
  pub array : AllByRecursion LinkForm t.array

table_in_form : (ms : Members) (t : TableEntry) → table_in ms ≡ Some t → TableForm t
table_in_form ms t e =
    let name = steps (required as_str (codes "name") ms) e in
    let key = steps (required (filled_list_of as_str) (codes "key") ms) name.there in
    let columns = steps (required (filled_list_of column_of) (codes "columns") ms) key.there in
    let unique = steps (with_default (list_of as_str) [] (codes "unique") ms) columns.there in
    let max_rows = steps (with_default (integer_from 1 1048576) 1048576 (codes "max_rows") ms) unique.there in
    let object = steps (with_default (list_of link_of) [] (codes "object") ms) max_rows.there in
    let array = steps (with_default (list_of link_of) [] (codes "array") ms) object.there in
    let select = steps (with_default (list_of permission_of) [] (codes "select") ms) array.there in
    subst TableForm (same _ t select.there) (record {
      keyed = required_holds IsFilled (filled_list_of as_str) (codes "key") ms key.value (filled_list as_str) key.here;
      room = with_default_holds (InRange 1 1048576) (integer_from 1 1048576) 1048576 (codes "max_rows") ms max_rows.value (ranged 1 1048576) (at_most 1 1048576 refl, at_most 1048576 1048576 refl) max_rows.here;
      object = with_default_holds (AllByRecursion LinkForm) (list_of link_of) [] (codes "object") ms object.value (list_holds LinkForm link_of link_form) tt object.here;
      array = with_default_holds (AllByRecursion LinkForm) (list_of link_of) [] (codes "array") ms array.value (list_holds LinkForm link_of link_form) tt array.here;
    })

table_form : (d : Data) (t : TableEntry) → table_of d ≡ Some t → TableForm t
table_form = table_with_holds TableForm table_keys table_in table_in_form

pub record DocumentForm (d : Document) : Type 0 where
  pub batch_size : InRange 1 1000 d.batch_size
  pub refetch_ms : InRange 1 3600000 d.refetch_ms
  pub tables : AllByRecursion TableForm d.tables

document_in_form : (ms : Members) (d : Document) → document_in ms ≡ Some d → DocumentForm d
document_in_form ms d e =
    let version = steps (required as_integer (codes "version") ms) e in
    let batch_size = steps (with_default (integer_from 1 1000) 100 (codes "batch_size") ms) version.there in
    let refetch_ms = steps (with_default (integer_from 1 3600000) 1000 (codes "refetch_ms") ms) batch_size.there in
    let admin_secret = steps (optional as_str (codes "admin_secret") ms) refetch_ms.there in
    let unauthorized_role = steps (optional filled_text (codes "unauthorized_role") ms) admin_secret.there in
    let tables = steps (required (list_of table_of) (codes "tables") ms) unauthorized_role.there in
    subst DocumentForm (same _ d tables.there) (record {
      batch_size = with_default_holds (InRange 1 1000) (integer_from 1 1000) 100 (codes "batch_size") ms batch_size.value (ranged 1 1000) (at_most 1 100 refl, at_most 100 1000 refl) batch_size.here;
      refetch_ms = with_default_holds (InRange 1 3600000) (integer_from 1 3600000) 1000 (codes "refetch_ms") ms refetch_ms.value (ranged 1 3600000) (at_most 1 1000 refl, at_most 1000 3600000 refl) refetch_ms.here;
      tables = required_holds (AllByRecursion TableForm) (list_of table_of) (codes "tables") ms tables.value (list_holds TableForm table_of table_form) tables.here;
    })

pub document_form : (ms : Members) (d : Document) → document_of ms ≡ Some d → DocumentForm d
document_form ms d e = document_in_form ms d (if_some (has_only document_keys ms) (document_in ms) d e)
