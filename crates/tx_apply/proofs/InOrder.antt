-- The members of an object, which ascend by their keys.
use Rattle.std.proofs.Common.{◌≡◌, ℕ, Bool, true, false, ◌&&◌, IsTrue, List, [], ◌∷◌, ◌++◌, length, map, refl, sym, ◌∙◌, ap, subst, append_assoc, arith, Option, Some, None, option_map, option_and_then, String, string_bytes}
use Rattle.std.specs.Ordering.{is_lt, nat_cmp}
use Rattle.std.specs.Cmp.Lexicographic.{slice_cmp}
use Rattle.std.specs.List.{AllByRecursion, list_all}
use Rattle.std.specs.List.Sorted.{IsStrictlySortedBy}
use Rattle.std.specs.String.{string_cmp}
use Rattle.std.specs.declared.cmp.Ordering.TheVariants.{Less}
use Rattle.std.specs.declared.alloc.Global.{Global}
use Rattle.scalar_val.specs.declared.val.Val.{Val}
use Rattle.serde_json.specs.View.{view, members_view}
use Rattle.serde_json.proofs.Views.{Entry}
use Rattle.data_model.specs.declared.transaction.TxCell.{TxCell}
use Rattle.data_model.specs.Cells.{ascend}
use Rattle.data_model.specs.JsonParts.{scalar_or_null}
use Rattle.data_model.specs.Form.{cell_of, cells_from, count}

pub and_true : (b : Bool) → (b && true) ≡ b
and_true true = refl
and_true false = refl

pub counted : (es : List Entry) → count (members_view es) ≡ length es
counted [] = refl
counted (e ∷ es) = omega (arith, counted es)

below_all : (k : String Global) (es : List Entry) → AllByRecursion (λ y. string_cmp k y ≡ Less) (map (λ e. e.0) es) → list_all (λ u. is_lt (slice_cmp nat_cmp (string_bytes k) u)) (map (λ e. string_bytes e.0) es) ≡ true
below_all k [] h = refl
below_all k (e ∷ es) h = rw (h.0) (below_all k es h.1)

-- keys in order ascend
pub ordered_ascend : (es : List Entry) → IsStrictlySortedBy string_cmp (map (λ e. e.0) es) → IsTrue (ascend (map (λ e. string_bytes e.0) es))
unfolding IsStrictlySortedBy
ordered_ascend [] h = refl
ordered_ascend (e ∷ es) h = rw (below_all e.0 es h.0) (ordered_ascend es h.1)

both : (a b : Bool) → IsTrue (a && b) → IsTrue a × IsTrue b
both true b h = (refl, h)
both false b h = cc

and_both : (a b : Bool) → IsTrue a → IsTrue b → IsTrue (a && b)
and_both true b h k = k
and_both false b h k = cc

all_front : {A : Type 0} (p : A → Bool) (xs ys : List A) → IsTrue (list_all p (xs ++ ys)) → IsTrue (list_all p xs)
all_front p [] ys h = refl
all_front p (x ∷ xs) ys h =
    let parts = both (p x) (list_all p (xs ++ ys)) h in
    and_both (p x) (list_all p xs) parts.0 (all_front p xs ys parts.1)

front_ascends : (xs ys : List (List ℕ)) → IsTrue (ascend (xs ++ ys)) → IsTrue (ascend xs)
front_ascends [] ys h = refl
front_ascends (x ∷ xs) ys h =
    let parts = both (list_all (λ u. is_lt (slice_cmp nat_cmp x u)) (xs ++ ys)) (ascend (xs ++ ys)) h in
    and_both (list_all (λ u. is_lt (slice_cmp nat_cmp x u)) xs) (ascend xs) (all_front (λ u. is_lt (slice_cmp nat_cmp x u)) xs ys parts.0) (front_ascends xs ys parts.1)

-- with the next name, and with one more after it
pub next_ascends : (names : List (List ℕ)) (name : List ℕ) (rest : List (List ℕ)) → IsTrue (ascend (names ++ name ∷ rest)) → IsTrue (ascend (names ++ name ∷ []))
next_ascends names name rest h = front_ascends (names ++ name ∷ []) rest (subst (λ (xs : List (List ℕ)). IsTrue (ascend xs)) (sym (append_assoc names (name ∷ []) rest)) h)

moved : (cells : List TxCell) (c : TxCell) (rest : List (List ℕ)) → map (λ c. c.column) (cells ++ c ∷ []) ++ rest ≡ map (λ c. c.column) cells ++ c.column ∷ rest
moved [] c rest = refl
moved (d ∷ cells) c rest = ap (λ xs. d.column ∷ xs) (moved cells c rest)

pub later_ascends : (cells : List TxCell) (c : TxCell) (rest : List (List ℕ)) → IsTrue (ascend (map (λ c. c.column) cells ++ c.column ∷ rest)) → IsTrue (ascend (map (λ c. c.column) (cells ++ c ∷ []) ++ rest))
later_ascends cells c rest h = subst (λ (xs : List (List ℕ)). IsTrue (ascend xs)) (sym (moved cells c rest)) h

pub nothing_read : {A : Type 0} (o : Option (List A)) → option_map (λ rest. [] ++ rest) o ≡ o
nothing_read None = refl
nothing_read (Some xs) = refl

-- one more cell was read
longer : {A : Type 0} (found : List A) (x : A) (o : Option (List A)) → option_map (λ rest. (found ++ x ∷ []) ++ rest) o ≡ option_map (λ rest. found ++ rest) (option_map (λ rest. x ∷ rest) o)
longer found x None = refl
longer found x (Some xs) = ap Some (append_assoc found (x ∷ []) xs)

pub before_first : (cells : List TxCell) (it es : List Entry) → cells ≡ [] → it ≡ es → option_map (λ rest. cells ++ rest) (cells_from (members_view it)) ≡ cells_from (members_view es)
before_first cells it es none all =
    ap (λ (xs : List TxCell). option_map (λ rest. xs ++ rest) (cells_from (members_view it))) none ∙ nothing_read (cells_from (members_view it)) ∙ ap (λ (es : List Entry). cells_from (members_view es)) all

pub first_ascends : (cells : List TxCell) (it es : List Entry) → cells ≡ [] → it ≡ es → IsStrictlySortedBy string_cmp (map (λ e. e.0) es) → IsTrue (ascend (map (λ c. c.column) cells ++ map (λ e. string_bytes e.0) it))
first_ascends cells it es none all sorted =
    subst (λ (xs : List TxCell). IsTrue (ascend (map (λ c. c.column) xs ++ map (λ e. string_bytes e.0) it))) (sym none)
    (subst (λ (es : List Entry). IsTrue (ascend (map (λ e. string_bytes e.0) es))) (sym all) (ordered_ascend es sorted))

pub name_ascends : (cells : List TxCell) (name : List ℕ) (it rest : List Entry) (e : Entry) → it ≡ e ∷ rest → name ≡ string_bytes e.0 → IsTrue (ascend (map (λ c. c.column) cells ++ map (λ e. string_bytes e.0) it)) → IsTrue (ascend (map (λ c. c.column) cells ++ name ∷ []))
name_ascends cells name it rest e iter named rises =
    let at_e = subst (λ (es : List Entry). IsTrue (ascend (map (λ c. c.column) cells ++ map (λ e. string_bytes e.0) es))) iter rises in
    subst (λ (n : List ℕ). IsTrue (ascend (map (λ c. c.column) cells ++ n ∷ []))) (sym named) (next_ascends (map (λ c. c.column) cells) (string_bytes e.0) (map (λ e. string_bytes e.0) rest) at_e)

pub read_more : (cells more : List TxCell) (it rest : List Entry) (e : Entry) (name : List ℕ) (value : Val) (all : Option (List TxCell)) → it ≡ e ∷ rest → name ≡ string_bytes e.0 → Some value ≡ scalar_or_null (view e.1) → more ≡ cells ++ cell_of name value ∷ [] → option_map (λ r. cells ++ r) (cells_from (members_view it)) ≡ all → option_map (λ r. more ++ r) (cells_from (members_view rest)) ≡ all
read_more cells more it rest e name value all iter named some pushed told =
    let later = cells_from (members_view rest) in
    let at_e = subst (λ (es : List Entry). option_map (λ r. cells ++ r) (cells_from (members_view es)) ≡ all) iter told in
    let at_value = subst (λ (o : Option Val). option_map (λ r. cells ++ r) (option_and_then (λ v. option_map (λ r. cell_of (string_bytes e.0) v ∷ r) later) o) ≡ all) (sym some) at_e in
    let at_name = subst (λ (n : List ℕ). option_map (λ r. cells ++ r) (option_map (λ r. cell_of n value ∷ r) later) ≡ all) (sym named) at_value in
    ap (λ (xs : List TxCell). option_map (λ r. xs ++ r) later) pushed ∙ longer cells (cell_of name value) later ∙ at_name

pub more_ascends : (cells more : List TxCell) (it rest : List Entry) (e : Entry) (name : List ℕ) (value : Val) → it ≡ e ∷ rest → name ≡ string_bytes e.0 → more ≡ cells ++ cell_of name value ∷ [] → IsTrue (ascend (map (λ c. c.column) cells ++ map (λ e. string_bytes e.0) it)) → IsTrue (ascend (map (λ c. c.column) more ++ map (λ e. string_bytes e.0) rest))
more_ascends cells more it rest e name value iter named pushed rises =
    let at_e = subst (λ (es : List Entry). IsTrue (ascend (map (λ c. c.column) cells ++ map (λ e. string_bytes e.0) es))) iter rises in
    let at_name = subst (λ (n : List ℕ). IsTrue (ascend (map (λ c. c.column) cells ++ n ∷ map (λ e. string_bytes e.0) rest))) (sym named) at_e in
    subst (λ (xs : List TxCell). IsTrue (ascend (map (λ c. c.column) xs ++ map (λ e. string_bytes e.0) rest))) (sym pushed) (later_ascends cells (cell_of name value) (map (λ e. string_bytes e.0) rest) at_name)
