-- Items by the first places of their names.
use Rattle.std.proofs.Common.{◌≡◌, ℕ, zero, suc, Bool, true, false, Option, List, [], ◌∷◌, Some, None, map, find}
use Rattle.std.proofs.Common.{option_map, option_and_then, if◌then◌else◌, cond, refl, ◌∙◌}
use Rattle.std.specs.List.{slice_get}
use Rattle.std.specs.Str.{bytes_eq}
use Rattle.name_set.specs.Names.{Text, first_at}

next : {X : Type 0} (x : X) (xs : List X) (o : Option ℕ) →
    option_and_then (slice_get (x ∷ xs)) (option_map suc o) ≡ option_and_then (slice_get xs) o
next x xs (Some at) = refl
next x xs None = refl

pub found_by : {X : Type 0} (x : X) (xs : List X) (o : Option ℕ) (f : Option X) (b : Bool) →
    option_and_then (slice_get xs) o ≡ f →
    option_and_then (slice_get (x ∷ xs)) (if b then Some zero else option_map suc o) ≡ cond b (Some x) f
found_by x xs o f true h = refl
found_by x xs o f false h = next x xs o ∙ h

-- the first item of a name stands at the first place of the name
pub first_found : {X : Type 0} (name_of : X → Text) (name : Text) (xs : List X) →
    option_and_then (slice_get xs) (first_at (map name_of xs) name) ≡ find (λ x. bytes_eq name (name_of x)) xs
first_found name_of name [] = refl
first_found name_of name (x ∷ xs) =
    found_by x xs (first_at (map name_of xs) name) (find (λ y. bytes_eq name (name_of y)) xs)
    (bytes_eq name (name_of x)) (first_found name_of name xs)
