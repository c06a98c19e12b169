-- A code for JSON data, by which a scope is stored: the parts of a value come before it, and a stack reads them back.
use Rattle.std.specs.Prelude.{◌≡◌, ℕ, zero, suc, ℤ, Bool, Float, List, [], ◌∷◌, ◌⊎◌, refl}
use Rattle.std.specs.Coded.{Coded, code_by, coded⊎, coded_ℕ, coded_ℤ, coded_bool, coded_list}
use base.Stored.{coded_float}
use mathlib.Core.Logic.{inl, inr}
use mathlib.Core.Path.{ap, ◌∙◌}
use Rattle.serde_json.specs.Data.{
  Num,
  unsigned,
  negative,
  float,
  Data,
  null,
  boolean,
  number,
  string,
  array,
  object,
  Items,
  no_items,
  item,
  Members,
  no_members,
  member,
}

abbrev Numeral : Type 0
Numeral = ℕ ⊎ (ℤ ⊎ Float)

abbrev numeral : Num → Numeral
numeral (unsigned n) = inl n
numeral (negative n) = inr (inl n)
numeral (float x) = inr (inr x)

abbrev number_of : Numeral → Num
number_of (inl n) = unsigned n
number_of (inr (inl n)) = negative n
number_of (inr (inr x)) = float x

pub number_of-numeral : (n : Num) → number_of (numeral n) ≡ n
number_of-numeral (unsigned n) = refl
number_of-numeral (negative n) = refl
number_of-numeral (float x) = refl

-- a boolean, a number or a text; what has parts, by a number; or a member, by its name
abbrev Piece : Type 0
Piece = (Bool ⊎ (Numeral ⊎ List ℕ)) ⊎ (ℕ ⊎ List ℕ)

-- what was read
pub data Part : Type 0 where
  value : Data → Part
  items : Items → Part
  members : Members → Part

abbrev as_array : List Part → List Part
as_array (items ds ∷ stack) = value (array ds) ∷ stack
as_array stack = stack

abbrev as_object : List Part → List Part
as_object (members ms ∷ stack) = value (object ms) ∷ stack
as_object stack = stack

abbrev with_item : List Part → List Part
with_item (value d ∷ items ds ∷ stack) = items (item d ds) ∷ stack
with_item stack = stack

abbrev with_member : List ℕ → List Part → List Part
with_member k (value d ∷ members ms ∷ stack) = members (member k d ms) ∷ stack
with_member k stack = stack

abbrev by_number : ℕ → List Part → List Part
by_number zero stack = value null ∷ stack
by_number (suc zero) stack = items no_items ∷ stack
by_number (suc (suc zero)) stack = members no_members ∷ stack
by_number (suc (suc (suc zero))) stack = as_array stack
by_number (suc (suc (suc (suc zero)))) stack = as_object stack
by_number (suc (suc (suc (suc (suc n))))) stack = with_item stack

abbrev after_piece : Piece → List Part → List Part
after_piece (inl (inl b)) stack = value (boolean b) ∷ stack
after_piece (inl (inr (inl n))) stack = value (number (number_of n)) ∷ stack
after_piece (inl (inr (inr s))) stack = value (string s) ∷ stack
after_piece (inr (inl n)) stack = by_number n stack
after_piece (inr (inr k)) stack = with_member k stack

abbrev read_all : List Piece → List Part → List Part
read_all [] stack = stack
read_all (p ∷ ps) stack = read_all ps (after_piece p stack)

abbrev mutual
  pieces : Data → List Piece → List Piece
  pieces null rest = inr (inl zero) ∷ rest
  pieces (boolean b) rest = inl (inl b) ∷ rest
  pieces (number n) rest = inl (inr (inl (numeral n))) ∷ rest
  pieces (string s) rest = inl (inr (inr s)) ∷ rest
  pieces (array ds) rest = items_pieces ds (inr (inl 3) ∷ rest)
  pieces (object ms) rest = members_pieces ms (inr (inl 4) ∷ rest)

  items_pieces : Items → List Piece → List Piece
  items_pieces no_items rest = inr (inl 1) ∷ rest
  items_pieces (item d ds) rest = items_pieces ds (pieces d (inr (inl 5) ∷ rest))

  members_pieces : Members → List Piece → List Piece
  members_pieces no_members rest = inr (inl 2) ∷ rest
  members_pieces (member k d ms) rest = members_pieces ms (pieces d (inr (inr k) ∷ rest))

abbrev members_in : List Part → Members
members_in (members ms ∷ stack) = ms
members_in stack = no_members

mutual
  read_value : (d : Data) (rest : List Piece) (stack : List Part) →
      read_all (pieces d rest) stack ≡ read_all rest (value d ∷ stack)
  read_value null rest stack = refl
  read_value (boolean b) rest stack = refl
  read_value (number n) rest stack = ap (λ m. read_all rest (value (number m) ∷ stack)) (number_of-numeral n)
  read_value (string s) rest stack = refl
  read_value (array ds) rest stack = read_items ds (inr (inl 3) ∷ rest) stack
  read_value (object ms) rest stack = read_members ms (inr (inl 4) ∷ rest) stack

  read_items : (ds : Items) (rest : List Piece) (stack : List Part) →
      read_all (items_pieces ds rest) stack ≡ read_all rest (items ds ∷ stack)
  read_items no_items rest stack = refl
  read_items (item d ds) rest stack =
      read_items ds (pieces d (inr (inl 5) ∷ rest)) stack ∙ read_value d (inr (inl 5) ∷ rest) (items ds ∷ stack)

  read_members : (ms : Members) (rest : List Piece) (stack : List Part) →
      read_all (members_pieces ms rest) stack ≡ read_all rest (members ms ∷ stack)
  read_members no_members rest stack = refl
  read_members (member k d ms) rest stack =
      read_members ms (pieces d (inr (inr k) ∷ rest)) stack ∙ read_value d (inr (inr k) ∷ rest) (members ms ∷ stack)

pub read_back : (ms : Members) → members_in (read_all (members_pieces ms []) []) ≡ ms
read_back ms = ap members_in (read_members ms [] [])

abbrev pub members_code : Coded Members
members_code =
    code_by (List Piece)
    (coded_list (coded⊎ (coded⊎ coded_bool (coded⊎ (coded⊎ coded_ℕ (coded⊎ coded_ℤ coded_float)) (coded_list coded_ℕ)))
    (coded⊎ coded_ℕ (coded_list coded_ℕ))))
    (λ ms. members_pieces ms []) (λ ps. members_in (read_all ps [])) read_back
