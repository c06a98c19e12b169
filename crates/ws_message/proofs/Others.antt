-- Taking one key out of an object leaves the values of all others.
use Rattle.std.proofs.Common.{◌≡◌, ℕ, List, [], ◌∷◌, cond, Bool, true, false, bytes_eq, true≢false, nat_cmp, is_eq, string_bytes, refl, sym, ap, ◌∙◌, Some}
use Rattle.std.proofs.lemmas.Map.Text.{is_eq-slice_cmp}
use Rattle.std.proofs.lemmas.Slice.Eq.{bytes_eq-Decides}
use Rattle.std.specs.Cmp.Lexicographic.{slice_cmp}
use Rattle.std.specs.Map.{remove_entry}
use Rattle.std.specs.Ordering.{match_ordering}
use Rattle.std.specs.BTreeMap.{is_at}
use Rattle.serde_json.specs.Find.{get_member}
use Rattle.serde_json.specs.View.{view, members_view}
use Rattle.serde_json.proofs.Views.{Entry, member_later}

elsewhere : (key name found : List ℕ) → is_eq (slice_cmp nat_cmp name found) ≡ true → bytes_eq key name ≡ false → key ≡ found → ⊥
elsewhere key name found at apart here =
    let same : name ≡ found = (bytes_eq-Decides name found).0 (sym (is_eq-slice_cmp name found) ∙ at) in
    let equal : bytes_eq key name ≡ true = (bytes_eq-Decides key name).1 (here ∙ sym same) in
    true≢false (sym equal ∙ apart)

kept : (b : Bool) (key name : List ℕ) (e : Entry) (es rest : List Entry) → is_eq (slice_cmp nat_cmp name (string_bytes e.0)) ≡ b → bytes_eq key name ≡ false
    → get_member key (members_view rest) ≡ get_member key (members_view es) → get_member key (members_view (cond b es (e ∷ rest))) ≡ get_member key (members_view (e ∷ es))
kept true key name e es rest at apart later = sym (member_later key e es (elsewhere key name (string_bytes e.0) at apart))
kept false key name e es rest at apart later = ap (λ r. match_ordering (slice_cmp nat_cmp key (string_bytes e.0)) r (Some (view e.1)) r) later

pub others_kept : (key name : List ℕ) (es : List Entry) → bytes_eq key name ≡ false
    → get_member key (members_view (remove_entry (is_at (λ k. slice_cmp nat_cmp name (string_bytes k))) es)) ≡ get_member key (members_view es)
others_kept key name [] apart = refl
others_kept key name (e ∷ es) apart = kept _ key name e es _ refl apart (others_kept key name es apart)
