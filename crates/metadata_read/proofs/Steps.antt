-- Lists that are tested and made part by part.
use Rattle.std.proofs.Common.{◌≡◌, List, [], ◌∷◌, ◌++◌, refl, ap, ◌∙◌, sym, append_assoc, append-nil, ℕ, ◌+◌, ◌<◌, length, take, get_or, Option, Some, None, Bool, ◌||◌, map, is_none}
use Rattle.std.proofs.lemmas.List.{map-append, map_more}
use Rattle.std.proofs.lemmas.List.Folds.{list_any-append}
use Rattle.std.specs.List.{list_any, filter_map, cons_option}
use Rattle.std.specs.Option.{option_to_list}
use Rattle.data_model.specs.declared.catalog.Column.{Column}
use Rattle.role_model.specs.JsonFilters.{filter_of}
use Rattle.role_model.specs.MetadataNames.{field_names, links_of, json_of}
use Rattle.role_model.specs.MetadataFaults.{lacks_a_filter}
use Rattle.role_model.specs.Texts.{Text}
use Rattle.role_model.specs.declared.metadata.LinkEntry.{LinkEntry}
use Rattle.role_model.specs.declared.metadata.PermissionEntry.{PermissionEntry}
use Rattle.role_model.specs.declared.metadata.TableEntry.{TableEntry}

-- tests of parts of a list

pub names_apart : (t : TableEntry) (p : Text → Bool) → list_any p (field_names t) ≡ (list_any p (map (λ c. c.name) t.columns) || (list_any p (map (λ l. l.name) t.object) || list_any p (map (λ l. l.name) t.array)))
names_apart t p = simp (list_any-append, map-append)

pub links_apart : (t : TableEntry) (p : LinkEntry → Bool) → list_any p (links_of t) ≡ (list_any p t.object || list_any p t.array)
links_apart t p = list_any-append p t.object t.array

pub names_joined : (t : TableEntry) → field_names t ≡ (map (λ c. c.name) t.columns ++ map (λ l. l.name) t.object) ++ map (λ l. l.name) t.array
names_joined t = simp (map-append, append_assoc)

pub filters_lacked : (t : TableEntry) (columns : List Column) (select : List PermissionEntry) (b : Bool) → b ≡ list_any (λ (p : PermissionEntry). is_none (filter_of columns [] (json_of p.filter))) select → columns ≡ t.columns → select ≡ t.select → b ≡ lacks_a_filter t
unfolding lacks_a_filter
filters_lacked t columns select b h c s = h ∙ rw (c, s) refl

-- one more of those that are made
pub one_more_made : {A B : Type 0} (f : A → B) (found longer all : List B) (xs rest : List A) (x : A) → found ++ map f xs ≡ all → xs ≡ x ∷ rest → longer ≡ found ++ f x ∷ [] → longer ++ map f rest ≡ all
one_more_made f found longer all xs rest x told here pushed = rw pushed (append_assoc found (f x ∷ []) (map f rest)) ∙ ap (λ ys. found ++ map f ys) (sym here) ∙ told

-- one more of those that are made by number
pub one_more_mapped : {A B : Type 0} (f : A → B) (found longer : List B) (xs : List A) (i : ℕ) (x : A) (y : B) → found ≡ map f (take i xs) → i < length xs → x ≡ get_or xs i x → y ≡ f x → longer ≡ found ++ y ∷ [] → longer ≡ map f (take (i + 1) xs)
one_more_mapped f found longer xs i x y told within here is pushed = pushed ∙ ap (λ ys. ys ++ y ∷ []) told ∙ ap (λ z. map f (take i xs) ++ z ∷ []) (is ∙ ap f here) ∙ sym (map_more f xs i x within)

-- one more of those that may be made

if_made : {B : Type 0} (found more : List B) (o : Option B) → (found ++ option_to_list o) ++ more ≡ found ++ cons_option o more
if_made found more None = ap (λ ys. ys ++ more) (append-nil found)
if_made found more (Some y) = append_assoc found (y ∷ []) more

pub one_more_if_made : {A B : Type 0} (f : A → Option B) (found longer all : List B) (xs rest : List A) (x : A) → found ++ filter_map f xs ≡ all → xs ≡ x ∷ rest → longer ≡ found ++ option_to_list (f x) → longer ++ filter_map f rest ≡ all
one_more_if_made f found longer all xs rest x told here pushed = ap (λ ys. ys ++ filter_map f rest) pushed ∙ if_made found (filter_map f rest) (f x) ∙ ap (λ ys. found ++ filter_map f ys) (sym here) ∙ told
