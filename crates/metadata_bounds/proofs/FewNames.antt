-- A role names few session variables.
use Rattle.std.proofs.Common.{◌≡◌, ℕ, ◌+◌, ◌*◌, ◌≤◌, Bool, true, false, ◌||◌, List, [], ◌∷◌, ◌++◌, length, map, find, nat_lt, Option, Some, None, Result, Ok, Err, if◌then◌else◌, refl, subst, arith}
use Rattle.std.proofs.lemmas.Bool.Decides.{nat_tests}
use Rattle.std.proofs.lemmas.List.{length-append}
use Rattle.std.specs.List.{fold, flat_map, list_any, AllByRecursion}
use Rattle.std.specs.Str.{bytes_eq}
use Rattle.toml.specs.Data.{Members}
use Rattle.role_model.specs.declared.metadata.Document.{Document}
use Rattle.role_model.specs.declared.metadata.Metadata.{Metadata}
use Rattle.role_model.specs.declared.metadata.MetaFault.{MetaFault}
use Rattle.role_model.specs.declared.metadata.MetaFault.TheVariants.{TooLong}
use Rattle.role_model.specs.declared.metadata.PermissionEntry.{PermissionEntry}
use Rattle.role_model.specs.declared.metadata.TableEntry.{TableEntry}
use Rattle.role_model.specs.JsonFilters.{with_text}
use Rattle.role_model.specs.MetadataFaults.{wrong_version, too_many, fault_of}
use Rattle.role_model.specs.MetadataForm.{document_of}
use Rattle.role_model.specs.MetadataMeaning.{permission_for, mentions_by, role_def, role_names, meaning_of, judged_by, formed_by, parsed_by, toml_of}
use Rattle.role_model.specs.Texts.{Text}
use Rattle.metadata_bounds.specs.Names.{HasShortFilter, ShortFilters, NamesAreFew, HasFewNames, RolesHaveFewNames}
use Rattle.metadata_bounds.proofs.Given.{Given, absent, given, given_if}
use Rattle.metadata_bounds.proofs.JsonMentions.{mentions_are_few}
use Rattle.metadata_bounds.proofs.FilterTexts.{filters_are_short}

-- ---- the names of a role

with_few : (found : List Text) (text : Text) → length (with_text found text) ≤ 1 + length found
with_few found text = go (list_any (bytes_eq text) found)
  where
    go : (b : Bool) → length (if b then found else found ++ text ∷ []) ≤ 1 + length found
    go true = omega arith
    go false = let joined = length-append found (text ∷ []) in omega (arith, joined)

fold_few : (found texts : List Text) → length (fold with_text found texts) ≤ length found + length texts
fold_few found [] = omega arith
fold_few found (t ∷ ts) =
    let here = with_few found t in
    let more = fold_few (with_text found t) ts in
    omega (arith, here, more)

found_short : (role : Text) (ps : List PermissionEntry) → AllByRecursion HasShortFilter ps → Given HasShortFilter (find (λ (p : PermissionEntry). bytes_eq role p.role) ps)
found_short role [] all = absent
found_short role (p ∷ ps) all = given_if (bytes_eq role p.role) _ _ (λ e. given all.0) (λ e. found_short role ps all.1)

mentioned_few : (o : Option PermissionEntry) → Given HasShortFilter o → length (mentions_by o) ≤ 1048576
mentioned_few o absent = omega arith
mentioned_few o (given {x = p} h) = let few = mentions_are_few p.filter in omega (arith, few, h)

all_few : (role : Text) (tables : List TableEntry) → ShortFilters tables → length (flat_map (λ t. mentions_by (permission_for role t)) tables) ≤ length tables * 1048576
all_few role [] all = omega arith
all_few role (t ∷ ts) all =
    let here = mentioned_few (permission_for role t) (found_short role t.select all.0) in
    let more = all_few role ts all.1 in
    let joined = length-append (mentions_by (permission_for role t)) (flat_map (λ t. mentions_by (permission_for role t)) ts) in
    omega (arith, here, more, joined)

pub names_are_few : NamesAreFew
names_are_few tables role h short =
    let all = all_few role tables short in
    let each = fold_few [] (flat_map (λ t. mentions_by (permission_for role t)) tables) in
    omega (arith, h, all, each)

-- ---- the roles of metadata

not_this : (b : Bool) (x : MetaFault) (o : Option MetaFault) → (if b then Some x else o) ≡ None → (b ≡ false) × (o ≡ None)
not_this true x o h = cc
not_this false x o h = (refl, h)

no_more : (n limit : ℕ) → nat_lt limit n ≡ false → n ≤ limit
no_more n limit h = grind (arith, nat_tests)

neither : (a b : Bool) → (a || b) ≡ false → a ≡ false
neither true b h = cc
neither false b h = refl

few_tables : (d : Document) → fault_of d ≡ None → length d.tables ≤ 256
few_tables d h = no_more (length d.tables) 256 (neither (nat_lt 256 (length d.tables)) _ (not_this (too_many d) _ _ (not_this (wrong_version d) _ _ h).1).0)

each_role : (tables : List TableEntry) (names : List Text) → length tables ≤ 256 → ShortFilters tables → AllByRecursion HasFewNames (map (role_def tables) names)
each_role tables [] h short = tt
each_role tables (name ∷ names) h short = (names_are_few tables name h short, each_role tables names h short)

abbrev FewIn : Metadata → Type 0
FewIn m = AllByRecursion HasFewNames m.roles

same : (m n : Metadata) → ◌≡◌ {A = Result Metadata MetaFault} (Ok m) (Ok n) → m ≡ n
same m n e = cc

judged : (d : Document) (m : Metadata) → ShortFilters d.tables → (o : Option MetaFault) → fault_of d ≡ o → judged_by d o ≡ Ok m → FewIn m
judged d m short (Some fault) h e = cc
judged d m short None h e = subst FewIn (same (meaning_of d) m e) (each_role d.tables (role_names d.tables) (few_tables d h) short)

formed : (text : List ℕ) (ms : Members) (m : Metadata) → length text ≤ 1048576 → toml_of text ≡ Some ms → (o : Option Document) → document_of ms ≡ o → formed_by o ≡ Ok m → FewIn m
formed text ms m h t None f e = cc
formed text ms m h t (Some d) f e = judged d m (filters_are_short text ms d h t f) (fault_of d) refl e

parsed : (text : List ℕ) (m : Metadata) → length text ≤ 1048576 → (o : Option Members) → toml_of text ≡ o → parsed_by o ≡ Ok m → FewIn m
parsed text m h None t e = cc
parsed text m h (Some ms) t e = formed text ms m h t (document_of ms) refl e

pub roles_have_few_names : RolesHaveFewNames
roles_have_few_names m said = go (nat_lt 1048576 (length said.0)) refl said.1
  where
    go : (b : Bool) → nat_lt 1048576 (length said.0) ≡ b → (if b then Err TooLong else parsed_by (toml_of said.0)) ≡ Ok m → FewIn m
    go true k e = cc
    go false k e = parsed said.0 m (no_more (length said.0) 1048576 k) (toml_of said.0) refl e
