-- Session variables that are gathered: in whatever order, and however often.
use Rattle.std.proofs.Common.{get_or, length, drop, ◌≡◌, ◌<◌, ◌+◌, ℕ, zero, suc, List, [], ◌∷◌, ◌++◌, map, flat_map, refl, ap, ap₂, sym, ◌∙◌, Ordering, Less, Equal, Greater, nat_cmp}
use Rattle.std.proofs.lemmas.Map.Lookups.{exact_bytes, exact_unsigned}
use Rattle.std.proofs.lemmas.List.{drop_more}
use Rattle.std.specs.Ordering.{match_ordering, ordering_then}
use Rattle.std.specs.Cmp.Lexicographic.{slice_cmp}
use Rattle.std.specs.BTreeSet.{insert_key}
use Rattle.scalar_val.specs.declared.val.Kind.{Kind}
use Rattle.scalar_val.specs.declared.val.Kind.TheVariants as kind
use Rattle.scalar_val.specs.Values.{kind_rank}
use Rattle.scalar_val.specs.Ordered.{included, distinct_in_order}
use Rattle.request_model.specs.Strings.{Text}
use Rattle.query_model.specs.declared.session.SessionSlot.{SessionSlot}
use Rattle.query_model.specs.Queries.{slot_cmp}
use Rattle.selection_plan.specs.declared.slot_ref.SlotRef.{SlotRef}
use Rattle.selection_plan.specs.SlotRefs.{slot_said, ref_cmp, slot_cmp-total}
use Rattle.selection_plan.specs.Gathered.{gathered}
use Rattle.selection_plan.proofs.Distinct.{either_first, twice}

-- ---- slots that tie are one

kind_of_rank : ℕ → Kind
kind_of_rank zero = kind.Bool
kind_of_rank (suc zero) = kind.Int
kind_of_rank (suc (suc zero)) = kind.Big
kind_of_rank (suc (suc (suc zero))) = kind.Text
kind_of_rank (suc (suc (suc (suc n)))) = kind.Uuid

known : (k : Kind) → kind_of_rank (kind_rank k) ≡ k
unfolding kind_of_rank
known kind.Bool = refl
known kind.Int = refl
known kind.Big = refl
known kind.Text = refl
known kind.Uuid = refl

same_rank : (j k : Kind) → nat_cmp (kind_rank j) (kind_rank k) ≡ Equal → j ≡ k
same_rank j k e = sym (known j) ∙ ap kind_of_rank (exact_unsigned (kind_rank j) (kind_rank k) e) ∙ known k

both_equal : (o p : Ordering) → ordering_then o p ≡ Equal → (o ≡ Equal) × (p ≡ Equal)
both_equal Less p e = cc
both_equal Equal p e = (refl, e)
both_equal Greater p e = cc

pub slot_cmp-exact : (s t : SessionSlot) → slot_cmp s t ≡ Equal → s ≡ t
slot_cmp-exact s t e =
    let parts = both_equal (slice_cmp nat_cmp s.name t.name) (nat_cmp (kind_rank s.kind) (kind_rank t.kind)) e in
    ap₂ (λ (n : Text) (k : Kind). record { name = n; kind = k }) (exact_bytes s.name t.name parts.0) (same_rank s.kind t.kind parts.1)

-- ---- one more

said_by : (x : SlotRef) (ys : List SlotRef) → map slot_said (insert_key ref_cmp ys x) ≡ included slot_cmp (slot_said x) (map slot_said ys)
said_by x [] = refl
said_by x (y ∷ ys) = go (ref_cmp x y) (said_by x ys)
  where
    go : (o : Ordering) → map slot_said (insert_key ref_cmp ys x) ≡ included slot_cmp (slot_said x) (map slot_said ys) →
        map slot_said (match_ordering o (x ∷ y ∷ ys) (y ∷ ys) (y ∷ insert_key ref_cmp ys x)) ≡
        match_ordering o (slot_said x ∷ slot_said y ∷ map slot_said ys) (slot_said y ∷ map slot_said ys) (slot_said y ∷ included slot_cmp (slot_said x) (map slot_said ys))
    go Less more = refl
    go Equal more = refl
    go Greater more = ap (λ zs. slot_said y ∷ zs) more

pub one_said : (x : SlotRef) (s : SessionSlot) (ys zs : List SlotRef) → slot_said x ≡ s → zs ≡ insert_key ref_cmp ys x → map slot_said zs ≡ included slot_cmp s (map slot_said ys)
one_said x s ys zs is e = ap (map slot_said) e ∙ said_by x ys ∙ ap (λ t. included slot_cmp t (map slot_said ys)) is

-- ---- several

first : (x y : SessionSlot) (zs : List SessionSlot) → included slot_cmp x (included slot_cmp y zs) ≡ included slot_cmp y (included slot_cmp x zs)
first = either_first slot_cmp slot_cmp-total slot_cmp-exact

pub gathered_append : (xs ys zs : List SessionSlot) → gathered (xs ++ ys) zs ≡ gathered ys (gathered xs zs)
gathered_append [] ys zs = refl
gathered_append (x ∷ xs) ys zs = gathered_append xs ys (included slot_cmp x zs)

-- those of one more of a list
pub gathered_more : {X : Type 0} (f : X → List SessionSlot) (xs : List X) (i : ℕ) (x : X) (before after all : List SessionSlot) → i < length xs → x ≡ get_or xs i x →
    after ≡ gathered (f x) before → gathered (flat_map f (drop i xs)) before ≡ all → gathered (flat_map f (drop (i + 1) xs)) after ≡ all
gathered_more f xs i x before after all lt is e h =
    ap (gathered (flat_map f (drop (i + 1) xs))) (e ∙ ap (λ y. gathered (f y) before) is)
    ∙ sym (gathered_append (f (get_or xs i x)) (flat_map f (drop (i + 1) xs)) before)
    ∙ sym (ap (λ ys. gathered (flat_map f ys) before) (drop_more xs i x lt)) ∙ h

past : (x : SessionSlot) (ys zs : List SessionSlot) → included slot_cmp x (gathered ys zs) ≡ gathered ys (included slot_cmp x zs)
past x [] zs = refl
past x (y ∷ ys) zs = past x ys (included slot_cmp y zs) ∙ ap (gathered ys) (first x y zs)

pub gathered_either : (xs ys zs : List SessionSlot) → gathered xs (gathered ys zs) ≡ gathered ys (gathered xs zs)
gathered_either [] ys zs = refl
gathered_either (x ∷ xs) ys zs = ap (gathered xs) (past x ys zs) ∙ gathered_either xs ys (included slot_cmp x zs)

pub gathered_twice : (xs zs : List SessionSlot) → gathered xs (gathered xs zs) ≡ gathered xs zs
gathered_twice [] zs = refl
gathered_twice (x ∷ xs) zs =
    ap (gathered xs) (past x xs (included slot_cmp x zs) ∙ ap (gathered xs) (twice slot_cmp slot_cmp-total slot_cmp-exact x zs))
    ∙ gathered_twice xs (included slot_cmp x zs)

pub distinct_gathered : (xs : List SessionSlot) → distinct_in_order slot_cmp xs ≡ gathered xs []
distinct_gathered [] = refl
distinct_gathered (x ∷ xs) = ap (included slot_cmp x) (distinct_gathered xs) ∙ past x xs []

pub distinct_now : (xs now : List SessionSlot) → now ≡ gathered xs [] → now ≡ distinct_in_order slot_cmp xs
distinct_now xs now e = e ∙ sym (distinct_gathered xs)
