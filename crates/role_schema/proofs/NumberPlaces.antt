-- Numbers by their first places, and permissions by their tables.
use Rattle.std.proofs.Common.{◌≡◌, ℕ, zero, suc, Bool, true, false, ◌||◌, ◌==◌, Option, List, [], ◌∷◌, ◌++◌, Some, None, map, find}
use Rattle.std.proofs.Common.{option_map, option_and_then, if◌then◌else◌, cond, refl, sym, ap, subst, ◌∙◌, length, is_some, unwrap_or, take, slice_index, arith, ◌<◌, ◌+◌, get_or}
use Rattle.std.specs.List.{slice_get, list_any}
use Rattle.std.specs.BTreeMap.{BTreeMap}
use Rattle.std.proofs.lemmas.List.{length-take-le, take_more}
use Rattle.std.proofs.lemmas.Option.{slice_get-map}
use Rattle.role_model.specs.declared.metadata.Grant.{Grant}
use Rattle.role_model.specs.declared.metadata.RoleDef.{RoleDef}
use Rattle.role_model.specs.Roles.{grants_by, grants_column}
use Rattle.role_schema.specs.declared.grants.GrantIndex.{GrantIndex}
use Rattle.role_schema.specs.GrantNumbers.{tables_of, columns_of, index_of, index_has}
use Rattle.role_schema.specs.Numbers.{first_number, place_in, Learns, HasPlaces}
use Rattle.role_schema.proofs.FirstPlaces.{found_by}

-- ---- a number is added

same_number : (a b : ℕ) → (a == b) ≡ true → a ≡ b
same_number a b h = grind arith

own_number : (a : ℕ) → (a == a) ≡ true
own_number a = grind arith

-- the places with one more number at the end
pub first_after : (ns : List ℕ) (n q : ℕ) →
    first_number (ns ++ n ∷ []) q ≡ (if n == q then Some (unwrap_or (first_number ns n) (length ns)) else first_number ns q)
first_after [] n q = refl
first_after (m ∷ ns) n q = step (m == q) (n == q) (m == n) refl refl refl (first_after ns n q)
  where
    later : (o : Option ℕ) → option_map suc (Some (unwrap_or o (length ns))) ≡ Some (unwrap_or (option_map suc o) (suc (length ns)))
    later (Some k) = refl
    later None = refl

    step : (b c d : Bool) → (m == q) ≡ b → (n == q) ≡ c → (m == n) ≡ d →
        first_number (ns ++ n ∷ []) q ≡ (if c then Some (unwrap_or (first_number ns n) (length ns)) else first_number ns q) →
        (if b then Some zero else option_map suc (first_number (ns ++ n ∷ []) q))
        ≡ (if c then Some (unwrap_or (if d then Some zero else option_map suc (first_number ns n)) (suc (length ns)))
        else (if b then Some zero else option_map suc (first_number ns q)))
    step true true true e f g h = refl
    step true true false e f g h = absurd (apart (same_number m q e ∙ sym (same_number n q f)) g)
      where
        apart : m ≡ n → (m == n) ≡ false → ⊥
        apart e g = grind arith
    step true false d e f g h = refl
    step false true true e f g h = absurd (apart (same_number m n g ∙ same_number n q f) e)
      where
        apart : m ≡ q → (m == q) ≡ false → ⊥
        apart e g = grind arith
    step false true false e f g h = ap (option_map suc) h ∙ later (first_number ns n)
    step false false d e f g h = ap (option_map suc) h

added : (ns : List ℕ) (n : ℕ) (before after : BTreeMap ℕ ℕ) → HasPlaces before ns →
    Learns before after n (length ns) → HasPlaces after (ns ++ n ∷ [])
added ns n before after has learns q =
    learns q
    ∙ ap (λ o. if n == q then Some (unwrap_or o (length ns)) else place_in before q) (has n)
    ∙ ap (λ o. if n == q then Some (unwrap_or (first_number ns n) (length ns)) else o) (has q)
    ∙ sym (first_after ns n q)

pub one_more : (ns : List ℕ) (at n : ℕ) (before after : BTreeMap ℕ ℕ) → at < length ns → n ≡ get_or ns at 0 →
    HasPlaces before (take at ns) → Learns before after n at → HasPlaces after (take (at + 1) ns)
one_more ns at n before after within is has learns =
    let all = added (take at ns) n before after has
    (subst (Learns before after n) (sym (length-take-le at ns (omega arith))) learns) in
    subst (HasPlaces after) (ap (λ m. take at ns ++ m ∷ []) is ∙ sym (take_more ns at 0 within)) all

-- ---- permissions

-- the permission for a table stands at the first place of the table
pub grant_found : (table : ℕ) (gs : List Grant) →
    option_and_then (slice_get gs) (first_number (tables_of gs) table) ≡ find (λ (g : Grant). g.table == table) gs
grant_found table [] = refl
grant_found table (g ∷ gs) =
    found_by g gs (first_number (tables_of gs) table) (find (λ (g : Grant). g.table == table) gs) (g.table == table)
    (grant_found table gs)

columns_at_place : (gs : List Grant) (o : Option ℕ) →
    option_and_then (slice_get (columns_of gs)) o ≡ option_map (λ (g : Grant). g.columns) (option_and_then (slice_get gs) o)
columns_at_place gs (Some at) = slice_get-map (λ (g : Grant). g.columns) gs at
columns_at_place gs None = refl

among_or : (b : Bool) (o : Option ℕ) (c : Bool) → is_some o ≡ c →
    is_some (if b then Some zero else option_map suc o) ≡ (b || c)
among_or true o c h = refl
among_or false (Some k) c h = h
among_or false None c h = h

among : (ns : List ℕ) (number : ℕ) → is_some (first_number ns number) ≡ list_any (λ n. n == number) ns
among [] number = refl
among (n ∷ ns) number =
    among_or (n == number) (first_number ns number) (list_any (λ m. m == number) ns) (among ns number)

has_by : (column : ℕ) (o : Option Grant) →
    is_some (option_and_then (λ (ns : List ℕ). first_number ns column) (option_map (λ (g : Grant). g.columns) o))
    ≡ grants_column column o
has_by column (Some g) = among g.columns column
has_by column None = refl

pub has_found : (table column : ℕ) (r : RoleDef) →
    index_has (index_of r) table column ≡ grants_column column (find (λ (g : Grant). g.table == table) r.grants)
has_found table column r =
    ap (λ o. is_some (option_and_then (λ (ns : List ℕ). first_number ns column) o))
    (columns_at_place r.grants (first_number (tables_of r.grants) table)
    ∙ ap (option_map (λ (g : Grant). g.columns)) (grant_found table r.grants))
    ∙ has_by column (find (λ (g : Grant). g.table == table) r.grants)

-- the same where the role may be unknown

pub grant_of_role : (table : ℕ) (o : Option RoleDef) (r : RoleDef) (place : Option ℕ) (g : Option Grant) → o ≡ Some r →
    place ≡ option_and_then (λ (r : RoleDef). first_number (tables_of r.grants) table) o →
    g ≡ option_and_then (slice_get r.grants) place → g ≡ find (λ (g : Grant). g.table == table) (grants_by o)
grant_of_role table o r place g known at got =
    got
    ∙ ap (option_and_then (slice_get r.grants))
    (at ∙ ap (option_and_then (λ (r : RoleDef). first_number (tables_of r.grants) table)) known)
    ∙ grant_found table r.grants
    ∙ ap (λ o. find (λ (g : Grant). g.table == table) (grants_by o)) (sym known)

pub column_of_role : (table column : ℕ) (o : Option RoleDef) (i : GrantIndex) → Some i ≡ option_map index_of o →
    index_has i table column ≡ grants_column column (find (λ (g : Grant). g.table == table) (grants_by o))
column_of_role table column (Some r) i e =
    ap (λ j. index_has j table column) (same_index i (index_of r) e) ∙ has_found table column r
  where
    same_index : (i j : GrantIndex) → Some i ≡ Some j → i ≡ j
    same_index i j e = ap (λ o. unwrap_or o i) e
column_of_role table column None i e = cc
