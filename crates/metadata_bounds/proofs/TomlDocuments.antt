-- No string of a TOML document is longer than its text.
use Rattle.std.proofs.Common.{ℕ, zero, suc, ◌+◌, ◌≤◌, ◌&&◌, ◌==◌, List, [], length, drop, arith}
use Rattle.std.proofs.lemmas.Bool.{cond_both}
use Rattle.std.specs.Prelude.{slice_index}
use Rattle.toml_parser.specs.declared.scalar.Scalar.{Scalar}
use Rattle.toml_parser.specs.declared.scalar.Scalar.TheVariants.{Boolean, Integer, Float, Datetime}
use Rattle.toml_parser.specs.Lexical.{Read, comma, right_bracket, right_brace, left_bracket, left_brace, equals, first, skip_ws, skip_blank}
use Rattle.toml_parser.specs.Strings.{key, quoted, starts_string, recursion_limit}
use Rattle.toml_parser.specs.Numbers.{unquoted}
use Rattle.toml.specs.Data.{Data, Items, no_items, push_item}
use Rattle.toml.specs.Tables.{Nodes, no_nodes, Expression, Document, put, define}
use Rattle.toml.specs.Parse.{after_byte, after_element, key_equals, keyval, items, members, scalar_data, atom, val, header_key, expression, ends_line, line, lines, skip_bom, parse_document}
use Rattle.metadata_bounds.specs.Strings.{Short, ShortItems, ShortMembers, StringsAreShort}
use Rattle.metadata_bounds.proofs.Given.{Given, absent, given, given_is, given_if, given_map, given_then}
use Rattle.metadata_bounds.proofs.TomlTexts.{Left, LeftOf, left_same, left_drop, left_on, skip_ws_left, skip_blank_left, quoted_within, key_left, unquoted_left}
use Rattle.metadata_bounds.proofs.TomlTables.{ShortNodes, push_short, close_short, put_keeps, ShortDefinition, define_short}

after_byte_left : (byte : ℕ) (text : List ℕ) → Given (Left text) (after_byte byte text)
after_byte_left byte text = given_if (first text == byte) _ _ (λ e. given (left_drop 1 text)) (λ e. absent)

after_element_left : (closing : ℕ) (text : List ℕ) → Given (Left text) (after_element closing text)
unfolding after_element
after_element_left closing text =
    let blank = skip_blank_left text in
    given_if (first (skip_blank text) == comma) _ _
    (λ e. given (left_on text (skip_blank text) (drop 1 (skip_blank text)) blank (left_drop 1 (skip_blank text))))
    (λ e. given_if (first (skip_blank text) == closing) _ _ (λ k. given blank) (λ k. absent))

key_equals_left : (text : List ℕ) → Given (LeftOf text) (key_equals text)
unfolding key_equals
key_equals_left text =
    given_then (LeftOf text) _ (key text) (key_left recursion_limit [] text)
    (λ k h. given_map (Left k.1) _ (after_byte equals k.1) (after_byte_left equals k.1)
    (λ rest g. let spaced = skip_ws_left rest in omega (arith, h, g, spaced)))

header_key_left : (text : List ℕ) → Given (LeftOf text) (header_key text)
unfolding header_key
header_key_left text =
    let spaced = skip_ws_left text in
    given_then (LeftOf (skip_ws text)) _ (key (skip_ws text)) (key_left recursion_limit [] (skip_ws text))
    (λ k h. given_map (Left k.1) _ (after_byte right_bracket k.1) (after_byte_left right_bracket k.1) (λ rest g. omega (arith, spaced, h, g)))

bom_left : (text : List ℕ) → Left text (skip_bom text)
unfolding skip_bom
bom_left text = cond_both ((first text == 0xEF && slice_index text 1 == 0xBB) && slice_index text 2 == 0xBF) _ _ (Left text) (λ e. left_drop 3 text) (λ e. left_same text)

-- ---- values, in a text of at most n bytes

module _ (n : ℕ) where
  -- what is read is of this sort, and what is left has at most n bytes
  abbrev Reads : {A : Type 0} → (A → Type 0) → (List ℕ → Read A) → Type 0
  Reads P f = (text : List ℕ) → length text ≤ n → Given (λ r. P r.0 × (length r.1 ≤ n)) (f text)

  scalar_short : (s : Scalar) → Short n (scalar_data s)
  scalar_short (Boolean b) = tt
  scalar_short (Integer z) = tt
  scalar_short (Float x) = tt
  scalar_short (Datetime d) = tt

  atom_short : Reads (Short n) atom
  unfolding atom
  atom_short text h =
      given_if (starts_string text) _ _
      (λ e. given_map (λ r. length r.0 + length r.1 ≤ length text) _ (quoted text) (quoted_within text e) (λ r k. (omega (arith, h, k), omega (arith, h, k))))
      (λ e. given_map (LeftOf text) _ (unquoted text) (unquoted_left text) (λ r k. (scalar_short r.0, omega (arith, h, k))))

  module _ (inner : List ℕ → Read Data) (short : Reads (Short n) inner) where
    keyval_short : Reads (λ e. Short n e.1) (keyval inner)
    keyval_short text h =
        given_then (LeftOf text) _ (key_equals text) (key_equals_left text)
        (λ k g. given_map (λ r. Short n r.0 × (length r.1 ≤ n)) _ (inner k.1) (short k.1 (omega (arith, h, g))) (λ r j. j))

    items_short : (turns : ℕ) (found : Items) → ShortItems n found → Reads (ShortItems n) (items inner turns found)
    unfolding items
    items_short zero found all text h = absent
    items_short (suc turns) found all text h =
        let blank = skip_blank_left text in
        let start = skip_blank text in
        given_if (first start == right_bracket) _ _
        (λ e. let left = left_drop 1 start in given (all, omega (arith, h, blank, left)))
        (λ e. given_then (λ r. Short n r.0 × (length r.1 ≤ n)) _ (inner start) (short start (omega (arith, h, blank)))
        (λ v g. let fits = g.1 in given_then (Left v.1) (items inner turns (push_item found v.0)) (after_element right_bracket v.1) (after_element_left right_bracket v.1)
        (λ rest k. items_short turns (push_item found v.0) (push_short n found v.0 all g.0) rest (omega (arith, fits, k)))))

    members_short : (turns : ℕ) (found : Nodes) → ShortNodes n found → Reads (ShortMembers n) (members inner turns found)
    unfolding members
    members_short zero found all text h = absent
    members_short (suc turns) found all text h =
        let blank = skip_blank_left text in
        let start = skip_blank text in
        given_if (first start == right_brace) _ _
        (λ e. let left = left_drop 1 start in given (close_short n found all, omega (arith, h, blank, left)))
        (λ e. given_then (λ r. Short n r.0.1 × (length r.1 ≤ n)) _ (keyval inner start) (keyval_short start (omega (arith, h, blank)))
        (λ v g. let fits = g.1 in given_then (ShortNodes n) _ (put v.0.0 v.0.1 found) (put_keeps n v.0.0 v.0.1 g.0 found all)
        (λ more m. given_then (Left v.1) (members inner turns more) (after_element right_brace v.1) (after_element_left right_brace v.1)
        (λ rest k. members_short turns more m rest (omega (arith, fits, k))))))

  val_short : (depth : ℕ) → Reads (Short n) (val depth)
  unfolding val
  val_short zero text h = atom_short text h
  val_short (suc depth) text h =
      let left = left_drop 1 text in
      given_if (first text == left_bracket) _ _
      (λ e. given_map (λ r. ShortItems n r.0 × (length r.1 ≤ n)) _ (items (val depth) (length text) no_items (drop 1 text)) (items_short (val depth) (val_short depth) (length text) no_items tt (drop 1 text) (omega (arith, h, left))) (λ r k. k))
      (λ e. given_if (first text == left_brace) _ _
      (λ b. given_map (λ r. ShortMembers n r.0 × (length r.1 ≤ n)) _ (members (val depth) (length text) no_nodes (drop 1 text)) (members_short (val depth) (val_short depth) (length text) no_nodes tt (drop 1 text) (omega (arith, h, left))) (λ r k. k))
      (λ b. atom_short text h))

  -- ---- lines

  abbrev ShortExpression : Expression → Type 0
  ShortExpression e = ShortDefinition n e.1

  expression_short : Reads ShortExpression expression
  unfolding expression
  expression_short text h =
      given_if (first text == left_bracket && slice_index text 1 == left_bracket) _ _
      (λ e. let left = left_drop 2 text in given_then (LeftOf (drop 2 text)) _ (header_key (drop 2 text)) (header_key_left (drop 2 text))
      (λ k g. given_map (Left k.1) _ (after_byte right_bracket k.1) (after_byte_left right_bracket k.1) (λ rest j. (tt, omega (arith, h, left, g, j)))))
      (λ e. given_if (first text == left_bracket) _ _
      (λ b. let left = left_drop 1 text in given_map (LeftOf (drop 1 text)) _ (header_key (drop 1 text)) (header_key_left (drop 1 text)) (λ k g. (tt, omega (arith, h, left, g))))
      (λ b. given_map (λ r. Short n r.0.1 × (length r.1 ≤ n)) _ (keyval (val recursion_limit) text) (keyval_short (val recursion_limit) (val_short recursion_limit) text h) (λ r k. k)))

  line_short : Reads ShortExpression line
  unfolding line
  line_short text h =
      given_then (λ r. ShortExpression r.0 × (length r.1 ≤ n)) _ (expression text) (expression_short text h)
      (λ e k. given_if (ends_line (skip_ws e.1)) _ _ (λ b. given k) (λ b. absent))

  lines_short : (turns : ℕ) (doc : Document) (text : List ℕ) → ShortNodes n doc.0 → length text ≤ n → Given (λ next. ShortNodes n next.0) (lines turns doc text)
  unfolding lines
  lines_short zero doc text all h = absent
  lines_short (suc turns) doc text all h =
      let blank = skip_blank_left text in
      let start = skip_blank text in
      given_if (length start == 0) _ _ (λ e. given all)
      (λ e. given_then (λ r. ShortExpression r.0 × (length r.1 ≤ n)) _ (line start) (line_short start (omega (arith, h, blank)))
      (λ x k. given_then (λ next. ShortNodes n next.0) _ (define doc x.0) (define_short n doc x.0 all k.0)
      (λ next m. lines_short turns next x.1 m k.1)))

pub strings_are_short : StringsAreShort
unfolding parse_document
strings_are_short text ms e =
    given_is {P = ShortMembers (length text)} _ ms
    (given_map (λ doc. ShortNodes (length text) doc.0) _ (lines (suc (length text)) (no_nodes, []) (skip_bom text)) (lines_short (length text) (suc (length text)) (no_nodes, []) (skip_bom text) tt (bom_left text)) (λ doc h. close_short (length text) doc.0 h)) e
