-- JSON values as lists of tokens, by which a proof tells events apart that hold them. This project's own.
use Rattle.std.specs.Prelude.{◌≡◌, ◌⊎◌, ℕ, ℤ, Bool, Float, List, [], ◌∷◌, refl}
use Rattle.std.specs.Coded.{Coded, code_by, coded_ℕ, coded_ℤ, coded_bool, coded_list, coded⊎}
use Rattle.std.proofs.Common.{◌∙◌, ap, inl, inr}
use base.Stored.{coded_unit, coded_float}
use Rattle.serde_json.specs.Data.{Num, unsigned, negative, float, Data, null, boolean, number, string, array, object}
use Rattle.serde_json.specs.Data.{Items, no_items, item, Members, no_members, member}

-- a null, a truth value, three kinds of numbers and a string; then what takes what was read before: an array its items,
-- an object its members, no items, one more item, no members and one more member, with its key
abbrev pub Token : Type 0
Token =
    Unit {0} ⊎ (Bool ⊎ (ℕ ⊎ (ℤ ⊎ (Float ⊎ (List ℕ ⊎ (Unit {0} ⊎ (Unit {0} ⊎ (Unit {0} ⊎ (Unit {0}
    ⊎ (Unit {0} ⊎ List ℕ))))))))))

abbrev pub coded_token : Coded Token
coded_token =
    coded⊎ coded_unit (coded⊎ coded_bool (coded⊎ coded_ℕ (coded⊎ coded_ℤ (coded⊎ coded_float
    (coded⊎ (coded_list coded_ℕ) (coded⊎ coded_unit (coded⊎ coded_unit (coded⊎ coded_unit (coded⊎ coded_unit
    (coded⊎ coded_unit (coded_list coded_ℕ)))))))))))

abbrev pub token_of : Num → Token
token_of (unsigned n) = inr (inr (inl n))
token_of (negative z) = inr (inr (inr (inl z)))
token_of (float f) = inr (inr (inr (inr (inl f))))

-- the tokens of a value, and then these
abbrev mutual
  pub data_tokens : Data → List Token → List Token
  data_tokens null rest = inl tt ∷ rest
  data_tokens (boolean b) rest = inr (inl b) ∷ rest
  data_tokens (number n) rest = token_of n ∷ rest
  data_tokens (string s) rest = inr (inr (inr (inr (inr (inl s))))) ∷ rest
  data_tokens (array ds) rest = items_tokens ds (inr (inr (inr (inr (inr (inr (inl tt)))))) ∷ rest)
  data_tokens (object ms) rest = members_tokens ms (inr (inr (inr (inr (inr (inr (inr (inl tt))))))) ∷ rest)

  pub items_tokens : Items → List Token → List Token
  items_tokens no_items rest = inr (inr (inr (inr (inr (inr (inr (inr (inl tt)))))))) ∷ rest
  items_tokens (item d ds) rest =
      items_tokens ds (data_tokens d (inr (inr (inr (inr (inr (inr (inr (inr (inr (inl tt))))))))) ∷ rest))

  pub members_tokens : Members → List Token → List Token
  members_tokens no_members rest = inr (inr (inr (inr (inr (inr (inr (inr (inr (inr (inl tt)))))))))) ∷ rest
  members_tokens (member k d ms) rest =
      members_tokens ms (data_tokens d (inr (inr (inr (inr (inr (inr (inr (inr (inr (inr (inr k)))))))))) ∷ rest))

-- what was read so far and not yet taken
pub record Read : Type 0 where
  pub values : List Data
  pub items : List Items
  pub members : List Members

abbrev pub with_value : Data → Read → Read
with_value d r = record r { values = d ∷ r.values }

abbrev pub with_items : Items → Read → Read
with_items ds r = record r { items = ds ∷ r.items }

abbrev pub with_members : Members → Read → Read
with_members ms r = record r { members = ms ∷ r.members }

abbrev pub takes_items : List Items → Read → Read
takes_items [] r = r
takes_items (ds ∷ rest) r = record { values = array ds ∷ r.values; items = rest; members = r.members }

abbrev pub takes_members : List Members → Read → Read
takes_members [] r = r
takes_members (ms ∷ rest) r = record { values = object ms ∷ r.values; items = r.items; members = rest }

abbrev pub takes_item : List Data → List Items → Read → Read
takes_item [] is r = r
takes_item (d ∷ ds) [] r = r
takes_item (d ∷ ds) (xs ∷ is) r = record { values = ds; items = item d xs ∷ is; members = r.members }

abbrev pub takes_member : List ℕ → List Data → List Members → Read → Read
takes_member k [] ms r = r
takes_member k (d ∷ ds) [] r = r
takes_member k (d ∷ ds) (xs ∷ ms) r = record { values = ds; items = r.items; members = member k d xs ∷ ms }

abbrev pub reads_token : Token → Read → Read
reads_token (inl u) r = with_value null r
reads_token (inr (inl b)) r = with_value (boolean b) r
reads_token (inr (inr (inl n))) r = with_value (number (unsigned n)) r
reads_token (inr (inr (inr (inl z)))) r = with_value (number (negative z)) r
reads_token (inr (inr (inr (inr (inl f))))) r = with_value (number (float f)) r
reads_token (inr (inr (inr (inr (inr (inl s)))))) r = with_value (string s) r
reads_token (inr (inr (inr (inr (inr (inr (inl u))))))) r = takes_items r.items r
reads_token (inr (inr (inr (inr (inr (inr (inr (inl u)))))))) r = takes_members r.members r
reads_token (inr (inr (inr (inr (inr (inr (inr (inr (inl u))))))))) r = with_items no_items r
reads_token (inr (inr (inr (inr (inr (inr (inr (inr (inr (inl u)))))))))) r = takes_item r.values r.items r
reads_token (inr (inr (inr (inr (inr (inr (inr (inr (inr (inr (inl u))))))))))) r = with_members no_members r
reads_token (inr (inr (inr (inr (inr (inr (inr (inr (inr (inr (inr k))))))))))) r = takes_member k r.values r.members r

abbrev pub reads_all : List Token → Read → Read
reads_all [] r = r
reads_all (t ∷ ts) r = reads_all ts (reads_token t r)

reads_number : (n : Num) (ts : List Token) (r : Read) →
    reads_all (token_of n ∷ ts) r ≡ reads_all ts (with_value (number n) r)
reads_number (unsigned n) ts r = refl
reads_number (negative z) ts r = refl
reads_number (float f) ts r = refl

mutual
  pub reads_data : (d : Data) (ts : List Token) (r : Read) →
      reads_all (data_tokens d ts) r ≡ reads_all ts (with_value d r)
  reads_data null ts r = refl
  reads_data (boolean b) ts r = refl
  reads_data (number n) ts r = reads_number n ts r
  reads_data (string s) ts r = refl
  reads_data (array ds) ts r = reads_items ds _ r
  reads_data (object ms) ts r = reads_members ms _ r

  pub reads_items : (ds : Items) (ts : List Token) (r : Read) →
      reads_all (items_tokens ds ts) r ≡ reads_all ts (with_items ds r)
  reads_items no_items ts r = refl
  reads_items (item d ds) ts r = reads_items ds _ r ∙ reads_data d _ (with_items ds r)

  pub reads_members : (ms : Members) (ts : List Token) (r : Read) →
      reads_all (members_tokens ms ts) r ≡ reads_all ts (with_members ms r)
  reads_members no_members ts r = refl
  reads_members (member k d ms) ts r = reads_members ms _ r ∙ reads_data d _ (with_members ms r)

abbrev pub nothing_read : Read
nothing_read = record { values = []; items = []; members = [] }

abbrev pub first_value : List Data → Data
first_value [] = null
first_value (d ∷ ds) = d

abbrev pub first_members : List Members → Members
first_members [] = no_members
first_members (ms ∷ rest) = ms

abbrev pub data_read : List Token → Data
data_read ts = first_value (reads_all ts nothing_read).values

abbrev pub members_read : List Token → Members
members_read ts = first_members (reads_all ts nothing_read).members

abbrev pub coded_data : Coded Data
coded_data =
    code_by (List Token) (coded_list coded_token) (λ d. data_tokens d []) data_read
    (λ d. ap (λ (r : Read). first_value r.values) (reads_data d [] nothing_read))

abbrev pub coded_members : Coded Members
coded_members =
    code_by (List Token) (coded_list coded_token) (λ ms. members_tokens ms []) members_read
    (λ ms. ap (λ (r : Read). first_members r.members) (reads_members ms [] nothing_read))
