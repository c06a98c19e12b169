-- The session slots of an admitted query, and what holds of each of a list's names.
use Rattle.std.proofs.Common.{◌≡◌, List, [], ◌∷◌, map, Option, Some, None, Result, Ok, Err, refl, ap, ap₂, sym, subst, ◌∙◌, Ordering, Less, Equal, Greater, nat_cmp}
use Rattle.std.proofs.lemmas.Map.Lookups.{exact_bytes}
use Rattle.std.specs.Ordering.{match_ordering}
use Rattle.std.specs.Cmp.Lexicographic.{slice_cmp}
use Rattle.std.specs.List.{AllByRecursion}
use Rattle.scalar_val.specs.declared.val.Val.{Val}
use Rattle.scalar_val.specs.Spellings.{spelled}
use Rattle.role_model.specs.declared.metadata.Metadata.{Metadata}
use Rattle.role_model.specs.declared.session.Session.{Session}
use Rattle.role_model.specs.Texts.{value_of}
use Rattle.request_model.specs.Strings.{Text}
use Rattle.scalar_val.specs.Ordered.{included}
use Rattle.query_model.specs.declared.fault.QueryFault.{QueryFault}
use Rattle.query_model.specs.declared.session.SessionSlot.{SessionSlot}
use Rattle.query_model.specs.declared.session.SessionValue.{SessionValue}
use Rattle.query_model.specs.Queries.{view_of, selection_slots}
use Rattle.query_model.specs.Admission.{Admitted, slot_value, spelled_value, with_slot, slots_given, role_view}
use Rattle.query_model.specs.AdmissionLaws.{IsAdmitted}
use Rattle.admission_laws.proofs.BareNames.{adding}
use Rattle.admission_laws.proofs.SharedPlans.{made_of}

included_holds : (P : Text → Type 0) (x : Text) (ys : List Text) → AllByRecursion P (included (slice_cmp nat_cmp) x ys) → P x × AllByRecursion P ys
included_holds P x [] all = (all.0, tt)
included_holds P x (y ∷ ys) all = go (slice_cmp nat_cmp x y) (exact_bytes x y) (included_holds P x ys) all
  where
    go : (o : Ordering) → (o ≡ Equal → x ≡ y) → (AllByRecursion P (included (slice_cmp nat_cmp) x ys) → P x × AllByRecursion P ys) →
        AllByRecursion P (match_ordering o (x ∷ y ∷ ys) (y ∷ ys) (y ∷ included (slice_cmp nat_cmp) x ys)) → P x × (P y × AllByRecursion P ys)
    go Less e more all = (all.0, all.1)
    go Equal e more all = (subst P (sym (e refl)) all.0, all)
    go Greater e more all = let rest = more all.1 in (rest.0, (all.0, rest.1))

pub adding_holds : (P : Text → Type 0) (xs ys : List Text) → AllByRecursion P (adding xs ys) → AllByRecursion P xs
adding_holds P [] ys all = tt
adding_holds P (x ∷ xs) ys all = let one = included_holds P x (adding xs ys) all in (one.0, adding_holds P xs ys one.1)

spelled_slot : (s : SessionSlot) (o : Option Val) (x : SessionValue) → spelled_value s o ≡ Ok x → x.slot ≡ s
spelled_slot s (Some y) x h = let q : ◌≡◌ {A = Result SessionValue QueryFault} (Ok (record { slot = s; value = y })) (Ok x) = h in ap (λ (z : SessionValue). z.slot) (let r : x ≡ record { slot = s; value = y } = cc in r)
spelled_slot s None x h = absurd (let q : ◌≡◌ {A = Result SessionValue QueryFault} (Err _) (Ok x) = h in cc)

value_slot : (s : SessionSlot) (o : Option Text) (x : SessionValue) → slot_value s o ≡ Ok x → x.slot ≡ s
value_slot s None x h = absurd (let q : ◌≡◌ {A = Result SessionValue QueryFault} (Err _) (Ok x) = h in cc)
value_slot s (Some text) x h = spelled_slot s (spelled s.kind text) x h

slots_told : (session : Session) (ss : List SessionSlot) (xs : List SessionValue) → slots_given session ss ≡ Ok xs → map (λ (x : SessionValue). x.slot) xs ≡ ss
slots_told session [] [] h = refl
slots_told session [] (x ∷ xs) h = absurd (let q : ◌≡◌ {A = Result (List SessionValue) QueryFault} (Ok []) (Ok (x ∷ xs)) = h in cc)
slots_told session (s ∷ ss) xs h = go (slot_value s (value_of s.name session.vars)) (slots_given session ss) (value_slot s (value_of s.name session.vars)) (slots_told session ss) h
  where
    go : (one : Result SessionValue QueryFault) (more : Result (List SessionValue) QueryFault) → ((x : SessionValue) → one ≡ Ok x → x.slot ≡ s) →
        ((ys : List SessionValue) → more ≡ Ok ys → map (λ (x : SessionValue). x.slot) ys ≡ ss) → with_slot one more ≡ Ok xs → map (λ (x : SessionValue). x.slot) xs ≡ s ∷ ss
    go (Ok x) (Ok ys) a b h =
        let q : ◌≡◌ {A = Result (List SessionValue) QueryFault} (Ok (x ∷ ys)) (Ok xs) = h in
        let e : xs ≡ x ∷ ys = cc in
        ap (map (λ (x : SessionValue). x.slot)) e ∙ ap₂ (λ y zs. y ∷ zs) (a x refl) (b ys refl)
    go (Ok x) (Err k) a b h = absurd (let q : ◌≡◌ {A = Result (List SessionValue) QueryFault} (Err k) (Ok xs) = h in cc)
    go (Err k) more a b h = absurd (let q : ◌≡◌ {A = Result (List SessionValue) QueryFault} (Err k) (Ok xs) = h in cc)

-- an admitted query has the values of its slots in their order
pub slots_of : (m : Metadata) (a : Admitted) → IsAdmitted m a → map (λ (x : SessionValue). x.slot) a.query.session ≡ selection_slots (view_of m a.query) a.query.selection
slots_of m a i =
    let made = made_of m i.session i.values i.selection a i.gives in
    subst (λ (b : Admitted). map (λ (x : SessionValue). x.slot) b.query.session ≡ selection_slots (view_of m b.query) b.query.selection) made.is
    (slots_told i.session (selection_slots (role_view m i.session i.values i.selection) i.selection) made.slots made.given)
