-- The promised texts, counted for each connection.
use Rattle.std.proofs.Common.{◌≡◌, ◌∙◌, ℕ, ◌<◌, ◌≤◌, ◌+◌, ◌^◌, Bool, true, false, cond, not, ◌==◌, eqb, Option, Some, None, IfSome, is_some, List, [], ◌∷◌, length, refl, sym, ap, subst, arith}
use Rattle.std.specs.List.{filter}
use Rattle.std.specs.Option.{option_map}
use Rattle.std.specs.Ordering.{nat_cmp}
use Rattle.std.specs.BTreeMap.{BTreeMap, IsOrdered, get}
use Rattle.std.proofs.lemmas.Bool.{eqb-true}
use Rattle.std.proofs.lemmas.Bool.Decides.{nat_tests}
use Rattle.connection_table.specs.declared.connection.Connection.{Connection}
use Rattle.connection_table.specs.Connected.{Connected, connected_at, others}
use Rattle.connection_table.specs.Seen.{HasRoom, IsKept, promises_of, count_of, seen}
use Rattle.connection_table.proofs.Entries.{finds, finds_is}

count_by : (b : Bool) (x : ℕ) (left xs : List ℕ) → length left ≤ length xs →
    length (cond b (x ∷ left) left) ≤ length (x ∷ xs)
count_by true x left xs few = omega arith
count_by false x left xs few = omega arith

count_within : (n : ℕ) (promised : List ℕ) → count_of n promised ≤ length promised
count_within n [] = omega arith
count_within n (x ∷ xs) = count_by (eqb x n) x (filter (λ y. y == n) xs) xs (count_within n xs)

-- how many texts are promised for a connection
pub few : (n : ℕ) (m : BTreeMap ℕ Connection) (promised : List ℕ) (c : Connection) → IsKept m promised →
    Some c ≡ get nat_cmp m n → length promised < 2 ^ 63 → c.promises < 2 ^ 63
few n m promised c keeps found short =
    let count : c.promises ≡ count_of n promised = ap promises_of found ∙ keeps.counted n in
    omega (arith, count_within n promised)

pub known : (n : ℕ) (o : Option Connection) (cs : List Connected) → connected_at n cs ≡ option_map (seen n) o →
    None ≡ o → is_some (connected_at n cs) ≡ false
known n o cs is none = ap is_some (is ∙ ap (option_map (seen n)) (sym none))

-- ---- one more connection

put : (n : ℕ) (c : Connection) (o : Option Connection) (q : ℕ) (b : Bool) (promised : List ℕ) → eqb q n ≡ b →
    (b ≡ true → o ≡ None) → c.promises ≡ 0 → promises_of o ≡ count_of q promised →
    promises_of (cond b (Some c) o) ≡ count_of q promised
put n c o q true promised is none zero counted = zero ∙ ap promises_of (sym (none refl)) ∙ counted
put n c o q false promised is none zero counted = counted

put_room : (c : Connection) (o : Option Connection) (b : Bool) → c.promises ≡ 0 → IfSome o HasRoom →
    IfSome (cond b (Some c) o) HasRoom
put_room c o true zero room = omega arith
put_room c o false zero room = room

pub one_more : (n : ℕ) (m after : BTreeMap ℕ Connection) (promised : List ℕ) (c : Connection) → IsKept m promised →
    get nat_cmp m n ≡ None → ((q : ℕ) → get nat_cmp after q ≡ cond (finds n q) (Some c) (get nat_cmp m q)) →
    c.promises ≡ 0 → IsOrdered nat_cmp after → IsKept after promised
one_more n m after promised c keeps none updates zero ordered = record {
  ordered = ordered;
  counted = λ q. ap promises_of (updates q ∙ ap (λ (b : Bool). cond b (Some c) (get nat_cmp m q)) (finds_is n q))
      ∙ put n c (get nat_cmp m q) q (eqb q n) promised refl (λ is. ap (get nat_cmp m) (eqb-true q n is) ∙ none) zero
      (keeps.counted q);
  room = λ q. subst (λ (o : Option Connection). IfSome o HasRoom) (sym (updates q))
      (put_room c (get nat_cmp m q) (finds n q) zero (keeps.room q));
}

-- ---- one less

none_by : (n x : ℕ) (xs : List ℕ) (b : Bool) → eqb x n ≡ b → count_of n (others n xs) ≡ 0 →
    count_of n (cond (not b) (x ∷ others n xs) (others n xs)) ≡ 0
none_by n x xs true is none = none
none_by n x xs false is none = rw is none

none_of : (n : ℕ) (promised : List ℕ) → count_of n (others n promised) ≡ 0
none_of n [] = refl
none_of n (x ∷ xs) = none_by n x xs (eqb x n) refl (none_of n xs)

one_longer : (b : Bool) (x : ℕ) (left right : List ℕ) → length left ≡ length right →
    length (cond b (x ∷ left) left) ≡ length (cond b (x ∷ right) right)
one_longer true x left right as_long = omega arith
one_longer false x left right as_long = as_long

others_by : (n q x : ℕ) (xs : List ℕ) (b : Bool) → eqb q n ≡ false → eqb x n ≡ b →
    count_of q (others n xs) ≡ count_of q xs →
    count_of q (cond (not b) (x ∷ others n xs) (others n xs)) ≡ count_of q (x ∷ xs)
others_by n q x xs true apart is rest =
    let other : eqb x q ≡ false = grind (arith, nat_tests) in
    rw other rest
others_by n q x xs false apart is rest = one_longer (eqb x q) x (filter (λ y. y == q) (others n xs))
    (filter (λ y. y == q) xs) rest

others_of : (n q : ℕ) (promised : List ℕ) → eqb q n ≡ false → count_of q (others n promised) ≡ count_of q promised
others_of n q [] apart = refl
others_of n q (x ∷ xs) apart = others_by n q x xs (eqb x n) apart refl (others_of n q xs apart)

take_out : (n q : ℕ) (o : Option Connection) (b : Bool) (promised : List ℕ) → eqb q n ≡ b →
    promises_of o ≡ count_of q promised → promises_of (cond b None o) ≡ count_of q (others n promised)
take_out n q o true promised is counted = sym (subst (λ (k : ℕ). count_of k (others n promised) ≡ 0)
    (sym (eqb-true q n is)) (none_of n promised))
take_out n q o false promised is counted = counted ∙ sym (others_of n q promised is)

room_without : (o : Option Connection) (b : Bool) → IfSome o HasRoom → IfSome (cond b None o) HasRoom
room_without o true room = tt
room_without o false room = room

pub one_less : (n : ℕ) (m after : BTreeMap ℕ Connection) (promised : List ℕ) → IsKept m promised →
    ((q : ℕ) → get nat_cmp after q ≡ cond (finds n q) None (get nat_cmp m q)) → IsOrdered nat_cmp after →
    IsKept after (others n promised)
one_less n m after promised keeps updates ordered = record {
  ordered = ordered;
  counted = λ q. ap promises_of (updates q ∙ ap (λ (b : Bool). cond b None (get nat_cmp m q)) (finds_is n q))
      ∙ take_out n q (get nat_cmp m q) (eqb q n) promised refl (keeps.counted q);
  room = λ q. subst (λ (o : Option Connection). IfSome o HasRoom) (sym (updates q))
      (room_without (get nat_cmp m q) (finds n q) (keeps.room q));
}

-- ---- the text that was promised first

cons_count : (x q : ℕ) (rest : List ℕ) (b : Bool) → eqb x q ≡ b → count_of q (x ∷ rest) ≡ cond b 1 0 + count_of q rest
cons_count x q rest true is = rw is (omega arith)
cons_count x q rest false is = rw is (omega arith)

first_by : (n q : ℕ) (o : Option Connection) (before now : Connection) (rest : List ℕ) (b : Bool) → eqb q n ≡ b →
    (b ≡ true → Some before ≡ o) → now.promises + 1 ≡ before.promises → promises_of o ≡ count_of q (n ∷ rest) →
    promises_of (cond b (Some now) o) ≡ count_of q rest
first_by n q o before now rest true is found less counted =
    let here = ap promises_of (found refl) in
    let turned : eqb n q ≡ true = grind (arith, nat_tests) in
    let count = cons_count n q rest true turned in
    omega arith
first_by n q o before now rest false is found less counted =
    let turned : eqb n q ≡ false = grind (arith, nat_tests) in
    let count = cons_count n q rest false turned in
    omega arith

first_room : (now : Connection) (o : Option Connection) (b : Bool) → HasRoom now → IfSome o HasRoom →
    IfSome (cond b (Some now) o) HasRoom
first_room now o true here room = here
first_room now o false here room = room

pub one_done : (n : ℕ) (m after : BTreeMap ℕ Connection) (promised rest : List ℕ) (before now : Connection) →
    IsKept m promised → promised ≡ n ∷ rest → Some before ≡ get nat_cmp m n →
    ((q : ℕ) → get nat_cmp after q ≡ cond (finds n q) (Some now) (get nat_cmp m q)) →
    now.promises + 1 ≡ before.promises → HasRoom now → IsOrdered nat_cmp after → IsKept after rest
one_done n m after promised rest before now keeps is found updates less room ordered = record {
  ordered = ordered;
  counted = λ q. ap promises_of (updates q ∙ ap (λ (b : Bool). cond b (Some now) (get nat_cmp m q)) (finds_is n q))
      ∙ first_by n q (get nat_cmp m q) before now rest (eqb q n) refl
      (λ same. found ∙ ap (get nat_cmp m) (sym (eqb-true q n same))) less (keeps.counted q ∙ ap (count_of q) is);
  room = λ q. subst (λ (o : Option Connection). IfSome o HasRoom) (sym (updates q))
      (first_room now (get nat_cmp m q) (finds n q) room (keeps.room q));
}
