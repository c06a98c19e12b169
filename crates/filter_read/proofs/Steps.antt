-- Lists that are read item by item, where each item is read.
use Rattle.std.proofs.Common.{◌≡◌, List, [], ◌∷◌, ◌++◌, Option, Some, None, option_map, refl, ap, ◌∙◌, append_assoc}
use Rattle.role_model.specs.JsonFilters.{with_first}

appended : {A : Type 0} (found : List A) (x : A) (o : Option (List A)) → option_map (λ rest. (found ++ x ∷ []) ++ rest) o ≡ option_map (λ rest. found ++ rest) (with_first (Some x) o)
appended found x None = refl
appended found x (Some xs) = ap Some (append_assoc found (x ∷ []) xs)

-- one more item was read
pub one_more : {A : Type 0} (found longer : List A) (x : A) (first : Option A) (others all : Option (List A)) → option_map (λ rest. found ++ rest) (with_first first others) ≡ all → Some x ≡ first → longer ≡ found ++ x ∷ [] → option_map (λ rest. longer ++ rest) others ≡ all
one_more found longer x first others all told read pushed = rw pushed (appended found x others ∙ ap (λ f. option_map (λ rest. found ++ rest) (with_first f others)) read ∙ told)
