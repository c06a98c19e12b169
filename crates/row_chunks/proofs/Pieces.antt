-- Edits of a list in pieces. This project's own.
use Rattle.std.proofs.Common.{◌≡◌, ◌∙◌, ℕ, ◌+◌, ◌-◌, ◌^◌, ◌<◌, ◌≤◌, List, [], ◌∷◌, ◌++◌, length, get_or, set, take, drop, zero, suc, refl, sym, ap, subst, append_assoc, add-one, arith, length-append}
use Rattle.std.specs.List.{insert, remove}
use Rattle.std.proofs.Math.Seq.{drop-cons}
use Rattle.std.proofs.lemmas.List.{set_split, take-append-drop, set-append_left, set-append_right, nil_from_length, drop-drop, drop_at, drop-append-le, get_or_append_left, get_or-append_right}
use Rattle.std.proofs.lemmas.List.Concat.{flat_map-append}
use Rattle.std.proofs.lemmas.List.Edits.{insert-append_left, insert-append_right, remove-append_left, remove-append_right, length-remove}
use Rattle.std.proofs.lemmas.List.Elements.{All-append, All-cons, All-head, All-tail, All-take, All-drop, All-get_or}
use Rattle.std.proofs.lemmas.List.Sums.{sum_by-cons}
use Rattle.row_chunks.specs.Edits.{HasRoom, IsPlace, edited, count_after}
use Rattle.row_chunks.specs.declared.edit.Edit.{Edit}
use Rattle.row_chunks.specs.declared.edit.Edit.TheVariants.{Insert, Replace, Remove}
use Rattle.row_chunks.specs.Pieces.{Held, IsCounted, AllCounted, rows_in, count_in, IsSpot}

module _ {T : Type 0} where
  -- the rows before a piece, its own, and those after it
  pub split_rows : (pieces : List (Held (List T))) (i : ℕ) (d : Held (List T)) → i < length pieces → rows_in pieces ≡ rows_in (take i pieces) ++ ((get_or pieces i d).node ++ rows_in (drop (suc i) pieces))
  split_rows pieces i d within =
      ap rows_in (sym (take-append-drop i pieces)) ∙ flat_map-append (λ (p : Held (List T)). p.node) (take i pieces) (drop i pieces) ∙ ap (λ (xs : List (Held (List T))). rows_in (take i pieces) ++ rows_in xs) (drop-cons pieces i d within)

  pub set_rows : (pieces : List (Held (List T))) (i : ℕ) (q : Held (List T)) → i < length pieces → rows_in (set pieces i q) ≡ rows_in (take i pieces) ++ (q.node ++ rows_in (drop (suc i) pieces))
  set_rows pieces i q within =
      ap rows_in (set_split pieces i q within) ∙ flat_map-append (λ (p : Held (List T)). p.node) (take i pieces) (q ∷ drop (suc i) pieces)

  pub remove_rows : (pieces : List (Held (List T))) (i : ℕ) → rows_in (remove pieces i) ≡ rows_in (take i pieces) ++ rows_in (drop (suc i) pieces)
  remove_rows pieces i = flat_map-append (λ (p : Held (List T)). p.node) (take i pieces) (drop (suc i) pieces)

  pub counted_rows : (pieces : List (Held (List T))) → AllCounted pieces → count_in pieces ≡ length (rows_in pieces)
  counted_rows [] h = refl
  counted_rows (p ∷ pieces) h =
      let head = All-head IsCounted p pieces h in
      let tail = counted_rows pieces (All-tail IsCounted p pieces h) in
      sum_by-cons (λ (q : Held (List T)). q.count) p pieces ∙ omega (arith, length-append p.node (rows_in pieces), head.same, tail)

  -- pieces that are there have a row
  pub some_rows : (pieces : List (Held (List T))) → AllCounted pieces → 0 < length pieces → 0 < length (rows_in pieces)
  some_rows [] h some = absurd (omega arith)
  some_rows (p ∷ pieces) h some =
      let head = All-head IsCounted p pieces h in
      omega (arith, length-append p.node (rows_in pieces), head.same, head.some)

  pub spot_place : (pieces : List (Held (List T))) (at i offset : ℕ) → AllCounted pieces → IsSpot pieces at i offset → length (rows_in (take i pieces)) + offset ≡ at
  spot_place pieces at i offset counted spot =
      omega (arith, counted_rows (take i pieces) (All-take IsCounted i pieces counted), spot.place)

  pub spot_upto : (pieces : List (Held (List T))) (at i offset : ℕ) (d : Held (List T)) → AllCounted pieces → IsSpot pieces at i offset → offset ≤ length (get_or pieces i d).node
  spot_upto pieces at i offset d counted spot =
      let c = All-get_or IsCounted pieces i d spot.within counted in
      omega (arith, c.same, spot.upto d)

  pub spot_inside : (pieces : List (Held (List T))) (at i offset : ℕ) (d : Held (List T)) → AllCounted pieces → IsSpot pieces at i offset → at < length (rows_in pieces) → offset < length (get_or pieces i d).node
  spot_inside pieces at i offset d counted spot before =
      let c = All-get_or IsCounted pieces i d spot.within counted in
      let inside : offset < (get_or pieces i d).count = spot.inside d (omega (arith, counted_rows pieces counted)) in
      omega (arith, c.same)

  -- an edit is at a place of the piece that it is in
  pub place_within : (e : Edit T) (pieces : List (Held (List T))) (at i offset : ℕ) (d : Held (List T)) → AllCounted pieces → IsSpot pieces at i offset → IsPlace e at (length (rows_in pieces)) → IsPlace e offset (length (get_or pieces i d).node)
  place_within (Insert row) pieces at i offset d counted spot place = spot_upto pieces at i offset d counted spot
  place_within (Replace row) pieces at i offset d counted spot place = spot_inside pieces at i offset d counted spot place
  place_within Remove pieces at i offset d counted spot place = spot_inside pieces at i offset d counted spot place

  -- an edit at a place of the middle one of three lists
  pub edit_middle : (e : Edit T) (a p b : List T) (at offset : ℕ) → length a + offset ≡ at → IsPlace e offset (length p) → edited e at (a ++ (p ++ b)) ≡ a ++ (edited e offset p ++ b)
  edit_middle (Insert row) a p b at offset is place =
      let k : at - length a ≡ offset = omega arith in
      insert-append_right a (p ++ b) (length a) at row refl (omega arith) ∙ ap (λ (n : ℕ). a ++ insert (p ++ b) n row) k ∙ ap (λ (xs : List T). a ++ xs) (insert-append_left p b offset row place)
  edit_middle (Replace row) a p b at offset is place =
      let k : at - length a ≡ offset = omega arith in
      set-append_right a (p ++ b) (length a) at row refl (omega arith) ∙ ap (λ (n : ℕ). a ++ set (p ++ b) n row) k ∙ ap (λ (xs : List T). a ++ xs) (set-append_left p b offset row place)
  edit_middle Remove a p b at offset is place =
      let k : at - length a ≡ offset = omega arith in
      remove-append_right a (p ++ b) (length a) at refl (omega arith) ∙ ap (λ (n : ℕ). a ++ remove (p ++ b) n) k ∙ ap (λ (xs : List T). a ++ xs) (remove-append_left p b offset place)

  -- an edit of the rows is that of the piece that it is in
  pub edited_rows : (e : Edit T) (pieces : List (Held (List T))) (at i offset : ℕ) (d : Held (List T)) → AllCounted pieces → IsSpot pieces at i offset → IsPlace e at (length (rows_in pieces)) → edited e at (rows_in pieces) ≡ rows_in (take i pieces) ++ (edited e offset (get_or pieces i d).node ++ rows_in (drop (suc i) pieces))
  edited_rows e pieces at i offset d counted spot place =
      ap (edited e at) (split_rows pieces i d spot.within) ∙ edit_middle e (rows_in (take i pieces)) (get_or pieces i d).node (rows_in (drop (suc i) pieces)) at offset (spot_place pieces at i offset counted spot) (place_within e pieces at i offset d counted spot place)

  pub changed_rows : (e : Edit T) (pieces : List (Held (List T))) (at i offset : ℕ) (d q : Held (List T)) → AllCounted pieces → IsSpot pieces at i offset → IsPlace e at (length (rows_in pieces)) → q.node ≡ edited e offset (get_or pieces i d).node → rows_in (set pieces i q) ≡ edited e at (rows_in pieces)
  changed_rows e pieces at i offset d q counted spot place is =
      set_rows pieces i q spot.within ∙ ap (λ (xs : List T). rows_in (take i pieces) ++ (xs ++ rows_in (drop (suc i) pieces))) is ∙ sym (edited_rows e pieces at i offset d counted spot place)

  nothing_left : (e : Edit T) (offset : ℕ) (rows : List T) → 0 < length rows → IsPlace e offset (length rows) → count_after e (length rows) ≡ 0 → edited e offset rows ≡ []
  nothing_left (Insert row) offset rows some place none = absurd (omega arith)
  nothing_left (Replace row) offset rows some place none = absurd (omega arith)
  nothing_left Remove offset rows some place none = nil_from_length (remove rows offset) (omega (arith, length-remove rows offset place))

  -- the piece goes out with its last row
  pub removed_rows : (e : Edit T) (pieces : List (Held (List T))) (at i offset : ℕ) (d : Held (List T)) → AllCounted pieces → IsSpot pieces at i offset → IsPlace e at (length (rows_in pieces)) → count_after e (get_or pieces i d).count ≡ 0 → rows_in (remove pieces i) ≡ edited e at (rows_in pieces)
  removed_rows e pieces at i offset d counted spot place none =
      let c = All-get_or IsCounted pieces i d spot.within counted in
      let empty = nothing_left e offset (get_or pieces i d).node (omega (arith, c.same, c.some)) (place_within e pieces at i offset d counted spot place) (subst (λ (n : ℕ). count_after e n ≡ 0) c.same none) in
      remove_rows pieces i ∙ ap (λ (xs : List T). rows_in (take i pieces) ++ (xs ++ rows_in (drop (suc i) pieces))) (sym empty) ∙ sym (edited_rows e pieces at i offset d counted spot place)

  two_pieces : (pieces : List (Held (List T))) (i : ℕ) (left right : Held (List T)) → i < length pieces → set (insert pieces (suc i) right) i left ≡ take i pieces ++ left ∷ right ∷ drop (suc i) pieces
  two_pieces [] i left right within = absurd (omega arith)
  two_pieces (p ∷ pieces) zero left right within = refl
  two_pieces (p ∷ pieces) (suc i) left right within = ap (λ (xs : List (Held (List T))). p ∷ xs) (two_pieces pieces i left right (omega arith))

  -- two pieces in place of one
  pub divided_counted : (pieces : List (Held (List T))) (i : ℕ) (left right : Held (List T)) → i < length pieces → AllCounted pieces → IsCounted left → IsCounted right → AllCounted (set (insert pieces (i + 1) right) i left)
  divided_counted pieces i left right within counted l r =
      rw add-one (rw (two_pieces pieces i left right within) (All-append IsCounted (take i pieces) (left ∷ right ∷ drop (suc i) pieces) (All-take IsCounted i pieces counted) (All-cons IsCounted left (right ∷ drop (suc i) pieces) l (All-cons IsCounted right (drop (suc i) pieces) r (All-drop IsCounted (suc i) pieces counted)))))

  pub divided_rows : (pieces : List (Held (List T))) (i : ℕ) (d left right : Held (List T)) (made : List T) → i < length pieces → left.node ++ right.node ≡ made → rows_in (set (insert pieces (i + 1) right) i left) ≡ rows_in (take i pieces) ++ (made ++ rows_in (drop (suc i) pieces))
  divided_rows pieces i d left right made within is =
      rw add-one (ap rows_in (two_pieces pieces i left right within) ∙ flat_map-append (λ (p : Held (List T)). p.node) (take i pieces) (left ∷ right ∷ drop (suc i) pieces) ∙ ap (λ (xs : List T). rows_in (take i pieces) ++ xs) (sym (append_assoc left.node right.node (rows_in (drop (suc i) pieces))) ∙ ap (λ (xs : List T). xs ++ rows_in (drop (suc i) pieces)) is))

  -- the row at a place
  pub got_row : (pieces : List (Held (List T))) (at i offset : ℕ) (d : Held (List T)) (x : T) → AllCounted pieces → IsSpot pieces at i offset → at < length (rows_in pieces) → get_or (rows_in pieces) at x ≡ get_or (get_or pieces i d).node offset x
  got_row pieces at i offset d x counted spot before =
      let a = rows_in (take i pieces) in
      let b = rows_in (drop (suc i) pieces) in
      let is = spot_place pieces at i offset counted spot in
      let inside = spot_inside pieces at i offset d counted spot before in
      let k : at - length a ≡ offset = omega arith in
      ap (λ (xs : List T). get_or xs at x) (split_rows pieces i d spot.within) ∙ get_or-append_right a ((get_or pieces i d).node ++ b) (length a) at x refl (omega arith) ∙ ap (λ (n : ℕ). get_or ((get_or pieces i d).node ++ b) n x) k ∙ get_or_append_left (get_or pieces i d).node b x offset inside

  -- the same of a piece that was read
  pub read_inside : (pieces : List (Held (List T))) (at i offset : ℕ) (q : Held (List T)) → AllCounted pieces → IsSpot pieces at i offset → at < length (rows_in pieces) → q ≡ get_or pieces i q → offset < length q.node
  read_inside pieces at i offset q counted spot before read =
      subst (λ (p : Held (List T)). offset < length p.node) (sym read) (spot_inside pieces at i offset q counted spot before)

  pub read_row : (pieces : List (Held (List T))) (at i offset : ℕ) (q : Held (List T)) (x : T) → AllCounted pieces → IsSpot pieces at i offset → at < length (rows_in pieces) → q ≡ get_or pieces i q → x ≡ get_or q.node offset x → x ≡ get_or (rows_in pieces) at x
  read_row pieces at i offset q x counted spot before read is =
      is ∙ ap (λ (p : Held (List T)). get_or p.node offset x) read ∙ sym (got_row pieces at i offset q x counted spot before)

  place_upto : (e : Edit T) (at n : ℕ) → IsPlace e at n → at ≤ n
  place_upto (Insert row) at n place = place
  place_upto (Replace row) at n place = omega arith
  place_upto Remove at n place = omega arith

  pub place_counted : (e : Edit T) (pieces read : List (Held (List T))) (at : ℕ) → read ≡ pieces → AllCounted pieces → IsPlace e at (length (rows_in pieces)) → at ≤ count_in read
  place_counted e pieces read at same counted place =
      let k : count_in read ≡ count_in pieces = ap count_in same in
      let upto = place_upto e at (length (rows_in pieces)) place in
      omega (arith, counted_rows pieces counted)

  pub place_read : (e was : Edit T) (pieces : List (Held (List T))) (at i offset : ℕ) (q : Held (List T)) → was ≡ e → AllCounted pieces → IsSpot pieces at i offset → IsPlace was at (length (rows_in pieces)) → q ≡ get_or pieces i q → IsPlace e offset q.count
  place_read e was pieces at i offset q same counted spot place read =
      let c = All-get_or IsCounted pieces i q spot.within counted in
      let here = place_within e pieces at i offset q counted spot (subst (λ (x : Edit T). IsPlace x at (length (rows_in pieces))) same place) in
      subst (λ (p : Held (List T)). IsPlace e offset p.count) (sym read) (subst (λ (n : ℕ). IsPlace e offset n) (sym c.same) here)

  pub changed_read : (e was : Edit T) (pieces : List (Held (List T))) (at i offset : ℕ) (q new : Held (List T)) → was ≡ e → AllCounted pieces → IsSpot pieces at i offset → IsPlace was at (length (rows_in pieces)) → q ≡ get_or pieces i q → new.node ≡ edited e offset q.node → rows_in (set pieces i new) ≡ edited was at (rows_in pieces)
  changed_read e was pieces at i offset q new same counted spot place read is =
      changed_rows e pieces at i offset q new counted spot (subst (λ (x : Edit T). IsPlace x at (length (rows_in pieces))) same place) (is ∙ ap (λ (p : Held (List T)). edited e offset p.node) read) ∙ ap (λ (x : Edit T). edited x at (rows_in pieces)) (sym same)

  pub removed_read : (e : Edit T) (pieces : List (Held (List T))) (at i offset n : ℕ) (q : Held (List T)) → AllCounted pieces → IsSpot pieces at i offset → IsPlace e at (length (rows_in pieces)) → q ≡ get_or pieces i q → n ≡ q.count → count_after e n ≡ 0 → rows_in (remove pieces i) ≡ edited e at (rows_in pieces)
  removed_read e pieces at i offset n q counted spot place read is none =
      removed_rows e pieces at i offset q counted spot place (subst (λ (k : ℕ). count_after e k ≡ 0) (is ∙ ap (λ (p : Held (List T)). p.count) read) none)

  -- a piece has no more rows than all
  pub read_within : (pieces : List (Held (List T))) (i : ℕ) (q : Held (List T)) → i < length pieces → AllCounted pieces → q ≡ get_or pieces i q → q.count ≤ length (rows_in pieces)
  read_within pieces i q within counted read =
      let c = All-get_or IsCounted pieces i q within counted in
      let all : length (rows_in pieces) ≡ length (rows_in (take i pieces) ++ ((get_or pieces i q).node ++ rows_in (drop (suc i) pieces))) = ap length (split_rows pieces i q within) in
      let n : q.count ≡ (get_or pieces i q).count = ap (λ (p : Held (List T)). p.count) read in
      omega (arith, c.same, length-append (rows_in (take i pieces)) ((get_or pieces i q).node ++ rows_in (drop (suc i) pieces)), length-append (get_or pieces i q).node (rows_in (drop (suc i) pieces)))

  pub divided_edit : (row : T) (pieces : List (Held (List T))) (at i offset : ℕ) (q left right : Held (List T)) → AllCounted pieces → IsSpot pieces at i offset → at ≤ length (rows_in pieces) → q ≡ get_or pieces i q → left.node ++ right.node ≡ insert q.node offset row → rows_in (set (insert pieces (i + 1) right) i left) ≡ insert (rows_in pieces) at row
  divided_edit row pieces at i offset q left right counted spot place read is =
      divided_rows pieces i q left right (insert (get_or pieces i q).node offset row) spot.within (is ∙ ap (λ (p : Held (List T)). insert p.node offset row) read) ∙ sym (edited_rows (Insert row) pieces at i offset q counted spot place)

  pub divided_same : (pieces : List (Held (List T))) (i : ℕ) (q left right : Held (List T)) → i < length pieces → q ≡ get_or pieces i q → left.node ++ right.node ≡ q.node → rows_in (set (insert pieces (i + 1) right) i left) ≡ rows_in pieces
  divided_same pieces i q left right within read is =
      divided_rows pieces i q left right (get_or pieces i q).node within (is ∙ ap (λ (p : Held (List T)). p.node) read) ∙ sym (split_rows pieces i q within)

  -- two parts of some pieces
  pub parted_rows : (pieces : List (Held (List T))) (cut : ℕ) → rows_in (take cut pieces) ++ rows_in (drop cut pieces) ≡ rows_in pieces
  parted_rows pieces cut =
      sym (flat_map-append (λ (p : Held (List T)). p.node) (take cut pieces) (drop cut pieces)) ∙ ap rows_in (take-append-drop cut pieces)

  pub room_from : (e : Edit T) (n : ℕ) → n + 1 < 2 ^ 64 → HasRoom e n
  room_from (Insert row) n h = h
  room_from (Replace row) n h = tt
  room_from Remove n h = tt

  pub room_within : (e : Edit T) (n m : ℕ) → m ≤ n → HasRoom e n → HasRoom e m
  room_within (Insert row) n m le h = omega arith
  room_within (Replace row) n m le h = tt
  room_within Remove n m le h = tt

  pub node_within : (pieces : List (Held (List T))) (i : ℕ) (q : Held (List T)) → i < length pieces → AllCounted pieces → q ≡ get_or pieces i q → length q.node ≤ length (rows_in pieces)
  node_within pieces i q within counted read =
      let c = All-get_or IsCounted pieces i q within counted in
      let n : q.count ≡ (get_or pieces i q).count = ap (λ (p : Held (List T)). p.count) read in
      let m : length q.node ≡ length (get_or pieces i q).node = ap (λ (p : Held (List T)). length p.node) read in
      omega (arith, c.same, read_within pieces i q within counted read)

  pub front_within : (pieces : List (Held (List T))) (cut : ℕ) → length (rows_in (take cut pieces)) ≤ length (rows_in pieces)
  front_within pieces cut =
      omega (arith, ap length (parted_rows pieces cut), length-append (rows_in (take cut pieces)) (rows_in (drop cut pieces)))

  pub back_within : (pieces : List (Held (List T))) (cut : ℕ) → length (rows_in (drop cut pieces)) ≤ length (rows_in pieces)
  back_within pieces cut =
      omega (arith, ap length (parted_rows pieces cut), length-append (rows_in (take cut pieces)) (rows_in (drop cut pieces)))

  drop_middle : (a p b : List T) (at offset : ℕ) → length a + offset ≡ at → offset ≤ length p → drop at (a ++ (p ++ b)) ≡ drop offset p ++ b
  drop_middle a p b at offset is within =
      ap (λ (n : ℕ). drop n (a ++ (p ++ b))) (sym is) ∙ sym (drop-drop offset (length a) (a ++ (p ++ b))) ∙ ap (drop offset) (drop_at a (p ++ b) (length a) refl) ∙ drop-append-le offset p b within

  -- the rows from a place on
  pub dropped_rows : (pieces : List (Held (List T))) (at i offset : ℕ) (q : Held (List T)) → AllCounted pieces → IsSpot pieces at i offset → q ≡ get_or pieces i q → drop at (rows_in pieces) ≡ drop offset q.node ++ rows_in (drop (i + 1) pieces)
  dropped_rows pieces at i offset q counted spot read =
      let whole = ap (drop at) (split_rows pieces i q spot.within) ∙ drop_middle (rows_in (take i pieces)) (get_or pieces i q).node (rows_in (drop (suc i) pieces)) at offset (spot_place pieces at i offset counted spot) (spot_upto pieces at i offset q counted spot) in
      rw add-one (whole ∙ ap (λ (p : Held (List T)). drop offset p.node ++ rows_in (drop (suc i) pieces)) (sym read))
