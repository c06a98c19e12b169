-- A filter names no more session variables than its text has bytes: each stands in a string, and each string takes a
-- quote.
use Rattle.std.proofs.Common.{ℕ, zero, suc, ◌+◌, ◌≤◌, Bool, true, false, List, [], ◌∷◌, ◌++◌, length, unwrap_or, Option, Some, None, if◌then◌else◌, Ordering, Less, Equal, Greater, arith}
use Rattle.std.proofs.lemmas.List.{length-append}
use Rattle.std.specs.Str.{str_to_ascii_lowercase}
use Rattle.std.specs.Ordering.{nat_cmp, match_ordering}
use Rattle.std.specs.Cmp.Lexicographic.{slice_cmp}
use Rattle.json.specs.Token.{Token, begin_object, end_object, begin_array, end_array, key, string, number, boolean, null, bad}
use Rattle.json.specs.Lex.{Lexeme, token, comma, colon, Class, quote, backslash, operator, space, other, class, Mode, between, in_word, in_string, in_escape, lex_byte, lex, Place, fresh, after_value, after_comma, after_key, begins_colon, may_begin, may_close, if_allowed, place_token, punctuate, tokens}
use Rattle.json.specs.Json as json
use Rattle.serde_json.specs.Data as value
use Rattle.serde_json.specs.Read.{of_json, of_items, of_members, max_depth, read, number_of}
use Rattle.role_model.specs.JsonFilters.{names_session, mentions, mentions_of_items, mentions_of_members}
use Rattle.role_model.specs.Texts.{Text}
use Rattle.metadata_bounds.specs.Names.{MentionsAreFew}
use Rattle.metadata_bounds.proofs.Given.{Given, absent, given, given_map, given_then, given_more}

-- ---- lexemes: at most one for a byte

lexemes_few : (m : Mode) (xs : List ℕ) → length (lex m xs) ≤ length xs
unfolding lex
lexemes_few m [] = omega arith
lexemes_few m (x ∷ xs) = go m (class x) (λ next. lexemes_few next xs)
  where
    go : (m : Mode) (c : Class) → ((next : Mode) → length (lex next xs) ≤ length xs) → length (lex_byte m c x xs (λ next. lex next xs)) ≤ length (x ∷ xs)
    go between quote more = let here = more in_string in omega (arith, here)
    go between backslash more = let here = more in_word in omega (arith, here)
    go between operator more = let here = more between in omega (arith, here)
    go between space more = let here = more between in omega (arith, here)
    go between other more = let here = more in_word in omega (arith, here)
    go in_word quote more = let here = more in_word in omega (arith, here)
    go in_word backslash more = let here = more in_word in omega (arith, here)
    go in_word operator more = let here = more between in omega (arith, here)
    go in_word space more = let here = more between in omega (arith, here)
    go in_word other more = let here = more in_word in omega (arith, here)
    go in_string quote more = let here = more between in omega (arith, here)
    go in_string backslash more = let here = more in_escape in omega (arith, here)
    go in_string operator more = let here = more in_string in omega (arith, here)
    go in_string space more = let here = more in_string in omega (arith, here)
    go in_string other more = let here = more in_string in omega (arith, here)
    go in_escape c more = let here = more in_string in omega (arith, here)

-- ---- strings among tokens: at most one for a lexeme

abbrev one_if_string : Token → ℕ
one_if_string (string s) = 1
one_if_string _ = 0

abbrev strings : List Token → ℕ
strings [] = 0
strings (t ∷ ts) = one_if_string t + strings ts

one_most : (t : Token) → one_if_string t ≤ 1
one_most begin_object = omega arith
one_most end_object = omega arith
one_most begin_array = omega arith
one_most end_array = omega arith
one_most (key s) = omega arith
one_most (string s) = omega arith
one_most (number s) = omega arith
one_most (boolean b) = omega arith
one_most null = omega arith
one_most bad = omega arith

-- as many as there are lexemes still to come, and one more
abbrev Few : ℕ → (Place → List Token) → Type 0
Few n k = (next : Place) → strings (k next) ≤ n

allowed_few : (n : ℕ) (b : Bool) (t : Token) (k : Place → List Token) (next : Place) → Few n k → strings (if_allowed b t k next) ≤ suc n
allowed_few n true t k next more = let here = more next in let one = one_most t in omega (arith, here, one)
allowed_few n false t k next more = omega arith

placed_few : (n : ℕ) (p : Place) (t : Token) (b : Bool) (k : Place → List Token) → Few n k → strings (place_token p t b k) ≤ suc n
placed_few n p begin_object b k more = allowed_few n (may_begin p) begin_object k fresh more
placed_few n p end_object b k more = allowed_few n (may_close p) end_object k after_value more
placed_few n p begin_array b k more = allowed_few n (may_begin p) begin_array k fresh more
placed_few n p end_array b k more = allowed_few n (may_close p) end_array k after_value more
placed_few n p (key s) b k more = omega arith
placed_few n p (string s) true k more = allowed_few n (may_begin p) (key s) k after_key more
placed_few n p (string s) false k more = allowed_few n (may_begin p) (string s) k after_value more
placed_few n p (number s) b k more = allowed_few n (may_begin p) (number s) k after_value more
placed_few n p (boolean c) b k more = allowed_few n (may_begin p) (boolean c) k after_value more
placed_few n p null b k more = allowed_few n (may_begin p) null k after_value more
placed_few n p bad b k more = omega arith

tokens_few : (p : Place) (ls : List Lexeme) → strings (punctuate p ls) ≤ length ls
unfolding punctuate
tokens_few fresh [] = omega arith
tokens_few after_value [] = omega arith
tokens_few after_comma [] = omega arith
tokens_few after_key [] = omega arith
tokens_few fresh (token t ∷ ls) = placed_few (length ls) fresh t (begins_colon ls) (λ next. punctuate next ls) (λ next. tokens_few next ls)
tokens_few after_value (token t ∷ ls) = placed_few (length ls) after_value t (begins_colon ls) (λ next. punctuate next ls) (λ next. tokens_few next ls)
tokens_few after_comma (token t ∷ ls) = placed_few (length ls) after_comma t (begins_colon ls) (λ next. punctuate next ls) (λ next. tokens_few next ls)
tokens_few after_key (token t ∷ ls) = placed_few (length ls) after_key t (begins_colon ls) (λ next. punctuate next ls) (λ next. tokens_few next ls)
tokens_few fresh (comma ∷ ls) = omega arith
tokens_few after_value (comma ∷ ls) = let here = tokens_few after_comma ls in omega (arith, here)
tokens_few after_comma (comma ∷ ls) = omega arith
tokens_few after_key (comma ∷ ls) = omega arith
tokens_few fresh (colon ∷ ls) = omega arith
tokens_few after_value (colon ∷ ls) = omega arith
tokens_few after_comma (colon ∷ ls) = omega arith
tokens_few after_key (colon ∷ ls) = let here = tokens_few fresh ls in omega (arith, here)

-- ---- strings in a value, keys left out: at most those of its tokens

abbrev mutual
  texts : json.Json → ℕ
  texts json.null = 0
  texts (json.boolean b) = 0
  texts (json.number s) = 0
  texts (json.string s) = 1
  texts (json.array js) = texts_of_items js
  texts (json.object ms) = texts_of_members ms

  texts_of_items : json.Items → ℕ
  texts_of_items json.no_items = 0
  texts_of_items (json.item j js) = texts j + texts_of_items js

  texts_of_members : json.Members → ℕ
  texts_of_members json.no_members = 0
  texts_of_members (json.member k j ms) = texts j + texts_of_members ms

-- what is read has, with what is left, no more strings than there were
abbrev Counts : {A : Type 0} → (A → ℕ) → json.Parse A → Type 0
Counts count p = (ts : List Token) → Given (λ r. count r.0 + strings r.1 ≤ strings ts) (p ts)

after_end_few : (ts : List Token) → Given (λ rest. strings rest ≤ strings ts) (json.after_end_array ts)
after_end_few [] = absent
after_end_few (begin_object ∷ ts) = absent
after_end_few (end_object ∷ ts) = absent
after_end_few (begin_array ∷ ts) = absent
after_end_few (end_array ∷ ts) = given (omega arith)
after_end_few (key s ∷ ts) = absent
after_end_few (string s ∷ ts) = absent
after_end_few (number s ∷ ts) = absent
after_end_few (boolean b ∷ ts) = absent
after_end_few (null ∷ ts) = absent
after_end_few (bad ∷ ts) = absent

read_key_few : (ts : List Token) → Given (λ r. strings r.1 ≤ strings ts) (json.read_key ts)
read_key_few [] = absent
read_key_few (begin_object ∷ ts) = absent
read_key_few (end_object ∷ ts) = given (omega arith)
read_key_few (begin_array ∷ ts) = absent
read_key_few (end_array ∷ ts) = absent
read_key_few (key s ∷ ts) = given (omega arith)
read_key_few (string s ∷ ts) = absent
read_key_few (number s ∷ ts) = absent
read_key_few (boolean b ∷ ts) = absent
read_key_few (null ∷ ts) = absent
read_key_few (bad ∷ ts) = absent

module _ (inner : json.Parse json.Json) (counts : Counts texts inner) where
  items_few : (n : ℕ) → Counts texts_of_items (json.items inner n)
  unfolding json.items
  items_few zero ts = absent
  items_few (suc n) ts = go (json.after_end_array ts) (after_end_few ts) (items_few n)
    where
      go : (o : Option (List Token)) → Given (λ rest. strings rest ≤ strings ts) o → Counts texts_of_items (json.items inner n) → Given (λ r. texts_of_items r.0 + strings r.1 ≤ strings ts) (json.items_step inner (json.items inner n) ts o)
      go o (given {x = rest} h) more = given (omega (arith, h))
      go o absent more =
          given_then (λ r. texts r.0 + strings r.1 ≤ strings ts) _ (inner ts) (counts ts)
          (λ p h. given_map (λ r. texts_of_items r.0 + strings r.1 ≤ strings p.1) _ (json.items inner n p.1) (more p.1) (λ r k. omega (arith, h, k)))

  members_few : (n : ℕ) → Counts texts_of_members (json.members inner n)
  unfolding json.members
  members_few zero ts = absent
  members_few (suc n) ts =
      given_then (λ r. strings r.1 ≤ strings ts) _ (json.read_key ts) (read_key_few ts) (λ p h. go p.0 p.1 h (members_few n))
    where
      go : (o : Option (List ℕ)) (rest : List Token) → strings rest ≤ strings ts → Counts texts_of_members (json.members inner n) → Given (λ r. texts_of_members r.0 + strings r.1 ≤ strings ts) (json.members_step inner (json.members inner n) o rest)
      go None rest h more = given (omega (arith, h))
      go (Some k) rest h more =
          given_then (λ r. texts r.0 + strings r.1 ≤ strings rest) _ (inner rest) (counts rest)
          (λ p g. given_map (λ r. texts_of_members r.0 + strings r.1 ≤ strings p.1) _ (json.members inner n p.1) (more p.1) (λ r j. omega (arith, h, g, j)))

with_few : (a : json.Parse json.Items) (o : json.Parse json.Members) → Counts texts_of_items a → Counts texts_of_members o → Counts texts (json.value_with a o)
with_few a o items members [] = absent
with_few a o items members (begin_object ∷ ts) = given_map (λ r. texts_of_members r.0 + strings r.1 ≤ strings ts) _ (o ts) (members ts) (λ r h. omega (arith, h))
with_few a o items members (end_object ∷ ts) = absent
with_few a o items members (begin_array ∷ ts) = given_map (λ r. texts_of_items r.0 + strings r.1 ≤ strings ts) _ (a ts) (items ts) (λ r h. omega (arith, h))
with_few a o items members (end_array ∷ ts) = absent
with_few a o items members (key s ∷ ts) = absent
with_few a o items members (string s ∷ ts) = given (omega arith)
with_few a o items members (number s ∷ ts) = given (omega arith)
with_few a o items members (boolean b ∷ ts) = given (omega arith)
with_few a o items members (null ∷ ts) = given (omega arith)
with_few a o items members (bad ∷ ts) = absent

value_few : (depth : ℕ) → Counts texts (json.value depth)
unfolding json.value
value_few zero = with_few (λ ts. None) (λ ts. None) (λ ts. absent) (λ ts. absent)
value_few (suc depth) =
    with_few (λ ts. json.items (json.value depth) (length ts) ts) (λ ts. json.members (json.value depth) (length ts) ts)
    (λ ts. items_few (json.value depth) (value_few depth) (length ts) ts) (λ ts. members_few (json.value depth) (value_few depth) (length ts) ts)

any : {A : Type 0} (o : Option A) → Given (λ x. Unit {0}) o
any None = absent
any (Some x) = given tt

-- ---- the names in data: at most as many as there are strings in the value

put_few : (k : List ℕ) (d : value.Data) (ms : value.Members) → length (mentions_of_members (value.put k d ms)) ≤ length (mentions d) + length (mentions_of_members ms)
put_few k d value.no_members = let joined = length-append (mentions d) [] in omega (arith, joined)
put_few k d (value.member l e ms) = go (slice_cmp nat_cmp k l) (put_few k d ms)
  where
    go : (o : Ordering) → length (mentions_of_members (value.put k d ms)) ≤ length (mentions d) + length (mentions_of_members ms) →
        length (mentions_of_members (match_ordering o (value.member k d (value.member l e ms)) (value.member l d ms) (value.member l e (value.put k d ms)))) ≤ length (mentions d) + length (mentions_of_members (value.member l e ms))
    go Less more =
        let outer = length-append (mentions d) (mentions e ++ mentions_of_members ms) in
        omega (arith, outer)
    go Equal more =
        let outer = length-append (mentions d) (mentions_of_members ms) in
        let inner = length-append (mentions e) (mentions_of_members ms) in
        omega (arith, outer, inner)
    go Greater more =
        let outer = length-append (mentions e) (mentions_of_members (value.put k d ms)) in
        let inner = length-append (mentions e) (mentions_of_members ms) in
        omega (arith, more, outer, inner)

string_few : (s : Text) → length (mentions (value.string s)) ≤ 1
string_few s = go (names_session s)
  where
    go : (b : Bool) → length (if b then str_to_ascii_lowercase s ∷ [] else []) ≤ 1
    go true = omega arith
    go false = omega arith

mutual
  json_few : (j : json.Json) → Given (λ d. length (mentions d) ≤ texts j) (of_json j)
  json_few json.null = given (omega arith)
  json_few (json.boolean b) = given (omega arith)
  json_few (json.number s) = given_map (λ n. Unit {0}) value.number (number_of s) (any (number_of s)) (λ n h. omega arith)
  json_few (json.string s) = given (string_few s)
  json_few (json.array js) = given_map (λ ds. length (mentions_of_items ds) ≤ texts_of_items js) value.array (of_items js) (json_items_few js) (λ ds h. h)
  json_few (json.object ms) =
      given_map (λ ns. length (mentions_of_members ns) ≤ 0 + texts_of_members ms) value.object (of_members ms value.no_members) (json_members_few ms value.no_members) (λ ns h. omega (arith, h))

  json_items_few : (js : json.Items) → Given (λ ds. length (mentions_of_items ds) ≤ texts_of_items js) (of_items js)
  json_items_few json.no_items = given (omega arith)
  json_items_few (json.item j js) =
      given_then (λ d. length (mentions d) ≤ texts j) _ (of_json j) (json_few j)
      (λ d h. given_map (λ ds. length (mentions_of_items ds) ≤ texts_of_items js) (value.item d) (of_items js) (json_items_few js)
      (λ ds k. let joined = length-append (mentions d) (mentions_of_items ds) in omega (arith, h, k, joined)))

  json_members_few : (ms : json.Members) (found : value.Members) → Given (λ ns. length (mentions_of_members ns) ≤ length (mentions_of_members found) + texts_of_members ms) (of_members ms found)
  json_members_few json.no_members found = given (omega arith)
  json_members_few (json.member k j ms) found =
      given_then (λ d. length (mentions d) ≤ texts j) _ (of_json j) (json_few j)
      (λ d h. given_more (λ ns. length (mentions_of_members ns) ≤ length (mentions_of_members (value.put k d found)) + texts_of_members ms) (of_members ms (value.put k d found)) (json_members_few ms (value.put k d found))
      (λ ns g. let more = put_few k d found in omega (arith, h, g, more)))

-- ---- the text

last_few : (j : json.Json) (rest : List Token) (n : ℕ) → texts j + strings rest ≤ n → Given (λ k. texts k ≤ n) (json.if_last j rest)
last_few j [] n h = given (omega (arith, h))
last_few j (t ∷ ts) n h = absent

read_few : (text : Text) → Given (λ d. length (mentions d) ≤ length text) (read text)
read_few text =
    let lexed = lexemes_few between text in
    let placed = tokens_few fresh (lex between text) in
    given_then (λ j. texts j ≤ strings (tokens text)) of_json _
    (given_then (λ r. texts r.0 + strings r.1 ≤ strings (tokens text)) _ (json.value max_depth (tokens text)) (value_few max_depth (tokens text)) (λ r h. last_few r.0 r.1 (strings (tokens text)) h))
    (λ j h. given_more (λ d. length (mentions d) ≤ texts j) (of_json j) (json_few j) (λ d k. omega (arith, lexed, placed, h, k)))

pub mentions_are_few : MentionsAreFew
mentions_are_few text = go (read text) (read_few text)
  where
    go : (o : Option value.Data) → Given (λ d. length (mentions d) ≤ length text) o → length (mentions (unwrap_or o value.null)) ≤ length text
    go o absent = omega arith
    go o (given h) = h
