-- From one row that is found to the next.
use Rattle.std.proofs.Common.{◌≡◌, ◌≢◌, ◌∙◌, ◌<◌, ◌≤◌, ◌+◌, ◌-◌, ◌++◌, ℕ, suc, zero, Bool, true, false, true≢false, ◌&&◌, IsTrue, List, [], ◌∷◌, length, drop, get_or, filter, refl, sym, ap, subst, arith, Option, Some, None}
use Rattle.std.specs.List.{list_all}
use Rattle.std.proofs.lemmas.List.{length-drop, drop_more, drop-drop}
use Rattle.std.proofs.lemmas.Bool.{and_parts}
use Rattle.scalar_val.specs.Values.{cell}
use Rattle.scalar_val.specs.declared.val.Val.{Val}
use Rattle.data_model.specs.Rows.{Row, Rows}
use Rattle.plan_model.specs.declared.filter.Op.TheVariants.{Eq}
use Rattle.row_lookup.specs.declared.chain.Chains.{Chains}
use Rattle.row_lookup.specs.declared.comparison.Comparison.{Comparison}
use Rattle.row_lookup.specs.declared.comparison.Comparisons.{Comparisons}
use Rattle.row_lookup.specs.declared.found.Place.{Place}
use Rattle.row_lookup.specs.declared.found.Way.{Way}
use Rattle.row_lookup.specs.declared.found.Way.TheVariants.{Run, Chain}
use Rattle.row_lookup.specs.Ascending.{row_at}
use Rattle.row_lookup.specs.Chaining.{Chained, slot_of, slot_in}
use Rattle.row_lookup.specs.Comparing.{meets, meets_if, meets_both}
use Rattle.row_lookup.specs.Finding.{OnChain, OnWay, StartsChain, Stepped, kept, left}
use Rattle.row_lookup.specs.Narrowing.{Narrowed}
use Rattle.row_lookup.proofs.Ascents.{equal_values}
use Rattle.row_lookup.proofs.Links.{read_default, read_row}
use Rattle.row_lookup.proofs.Narrowings.{both, all_drop, skip_to, head_told, not_shown, narrowed_drop}

-- ---- rows one after the other

pub run_step : (c : Comparisons) (row : Row) (rest : Rows) → Stepped c (row ∷ rest) row rest
run_step c row rest = record {
  told = λ shown h. head_told shown row rest;
  fewer = omega arith;
  of = λ p h. (both (p row) (list_all p rest) h).0;
  rest = λ p h. (both (p row) (list_all p rest) h).1;
}

-- ---- along a chain

all_at : (p : Row → Bool) (rows : Rows) (a : ℕ) → a < length rows → IsTrue (list_all p (drop a rows)) → IsTrue (p (row_at rows a))
all_at p rows a within h =
    (both (p (row_at rows a)) (list_all p (drop (a + 1) rows))
    (subst (λ rs. IsTrue (list_all p rs)) (drop_more rows a [] within) h)).0

all_after : (p : Row → Bool) (rows : Rows) (a b : ℕ) → a < b → IsTrue (list_all p (drop a rows)) → IsTrue (list_all p (drop b rows))
all_after p rows a b before h =
    let far : drop (b - a) (drop a rows) ≡ drop b rows = drop-drop (b - a) a rows ∙ ap (λ n. drop n rows) (omega arith) in
    subst (λ rs. IsTrue (list_all p rs)) far (all_drop p (drop a rows) (b - a) h)

fewer_left : (rows : Rows) (a b : ℕ) → a < length rows → a < b → length (drop b rows) < length (drop a rows)
fewer_left rows a b within before = omega (arith, length-drop a rows, length-drop b rows)

module _ (c : Comparisons) (p : Place) (on : OnChain c p) (to : ℕ) (row : Row) (within : p.at < length p.rows.now)
    (read : to ≡ get_or p.chains.now.next.items p.at to) (item : row ≡ get_or p.rows.now p.at row) where
  heads : List ℕ
  heads = p.chains.now.heads.items

  led : to ≡ get_or p.chains.now.next.items p.at 0
  led = read_default p.chains.now.next.items p.at to 0 (omega (arith, on.chained.long)) read

  after : p.at < to
  after = omega (arith, led, on.chained.onward p.at within)

  is_row : row_at p.rows.now p.at ≡ row
  is_row = read_row p.rows.now p.at row within item

  none_between : (shown : Row → Bool) → ((r : Row) → shown r ≡ true → meets_both c r ≡ true)
      → (j : ℕ) → p.at < j → j < to → j < length p.rows.now → shown (row_at p.rows.now j) ≡ false
  none_between shown h j aj jt jn =
      not_shown shown (row_at p.rows.now j)
      (λ is. on.chained.skips p.at j within aj (subst (λ x. j < x) led jt)
      (on.pinned (row_at p.rows.now j) (h (row_at p.rows.now j) is) ∙ sym (on.on within)))

  pub chain_step : Stepped c (drop p.at p.rows.now) row (drop to p.rows.now)
  chain_step = record {
    told = λ shown h.
        subst (λ r. filter shown (drop p.at p.rows.now) ≡ kept (shown r) r ++ filter shown (drop to p.rows.now)) is_row
        (skip_to shown p.rows.now p.at to within after (none_between shown h));
    fewer = fewer_left p.rows.now p.at to within after;
    of = λ q h. subst (λ r. IsTrue (q r)) is_row (all_at q p.rows.now p.at within h);
    rest = λ q h. all_after q p.rows.now p.at to after h;
  }

  pub on_next : OnChain c (record { rows = p.rows; chains = p.chains; slot = p.slot; at = to })
  on_next = record {
    chained = on.chained;
    pinned = on.pinned;
    on = λ w. ap (slot_in (length p.chains.now.heads.items) p.chains.now.column p.rows.now) led
        ∙ on.chained.stays p.at within (subst (λ x. x < length p.rows.now) led w) ∙ on.on within;
  }

-- ---- the start of a chain

pub starts_chain : (rows : Rows) (chains : Chains) (value : Val) (p : Place)
    → Chained chains.column rows chains.heads.items chains.next.items → p.rows.now ≡ rows → p.chains.now ≡ chains
    → p.slot ≡ slot_of (length chains.heads.items) value → p.slot < length chains.heads.items
    → p.at ≡ get_or chains.heads.items p.slot p.at → StartsChain rows chains value p
starts_chain rows chains value p chained rows_are chains_are slot_is within read =
    let led : p.at ≡ get_or chains.heads.items p.slot 0 = read_default chains.heads.items p.slot p.at 0 within read in
    record {
      rows_are = rows_are;
      chains_are = chains_are;
      slot_is = slot_is;
      on = λ w. ap (slot_in (length chains.heads.items) chains.column rows) led
          ∙ chained.starts p.slot within (subst (λ x. x < length rows) led w);
      first = λ i ia. chained.first p.slot i within (subst (λ x. i < x) led ia);
    }

module _ (c : Comparisons) (k : Comparison) (rows : Rows) (chains : Chains) (p : Place) (is : c.by_chain ≡ Some k)
    (op : k.op ≡ Eq) (column : k.column ≡ chains.column)
    (chained : Chained chains.column rows chains.heads.items chains.next.items)
    (starts : StartsChain rows chains k.value.now p) where
  own_slot : (row : Row) → meets_both c row ≡ true
      → slot_of (length chains.heads.items) (cell row chains.column) ≡ p.slot
  own_slot row h =
      let second : meets_if c.by_chain row ≡ true = (and_parts (meets_if c.by_key row) (meets_if c.by_chain row) h).1 in
      let met : meets k row ≡ true = subst (λ o. meets_if o row ≡ true) is second in
      let same : cell row chains.column ≡ k.value.now =
      subst (λ n. cell row n ≡ k.value.now) column (equal_values k row op met) in
      ap (slot_of (length chains.heads.items)) same ∙ sym starts.slot_is

  pub chain_starts : OnChain c p
  chain_starts =
      let OnIt : Rows → Chains → Type 0 = λ rs ch. (Chained ch.column rs ch.heads.items ch.next.items)
      × ((row : Row) → meets_both c row ≡ true → slot_of (length ch.heads.items) (cell row ch.column) ≡ p.slot)
      × (p.at < length rs → slot_in (length ch.heads.items) ch.column rs p.at ≡ p.slot) in
      let here : OnIt rows chains = (chained, own_slot, starts.on) in
      let there : OnIt p.rows.now p.chains.now =
      subst (λ rs. OnIt rs p.chains.now) (sym starts.rows_are) (subst (OnIt rows) (sym starts.chains_are) here) in
      record { chained = there.0; pinned = there.1; on = there.2 }

  pub chain_narrows : Narrowed (λ row. meets_both c row ≡ true) rows (drop p.at p.rows.now)
  chain_narrows =
      subst (λ rs. Narrowed (λ row. meets_both c row ≡ true) rows (drop p.at rs)) (sym starts.rows_are)
      (narrowed_drop (λ row. meets_both c row ≡ true) rows p.at
      (λ j ja jn met. starts.first j ja (own_slot (row_at rows j) met)))
