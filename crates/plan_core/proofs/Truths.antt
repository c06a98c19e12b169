-- Laws of the three truth values.
use Rattle.std.proofs.Common.{◌≡◌, refl, ℕ, ◌+◌, ◌<◌, Bool, true, false, ◌&&◌, IsTrue, List, [], ◌∷◌, length, drop}
use Rattle.std.proofs.Common.{get_or}
use Rattle.std.proofs.lemmas.List.{drop_more}
use Rattle.std.specs.List.{list_all}
use Rattle.plan_model.specs.Truth.{all_of, any_of}
use Rattle.plan_model.specs.declared.filter.TruthValue.{TruthValue}
use Rattle.plan_model.specs.declared.filter.TruthValue.TheVariants.{Yes, No, Unknown}

-- two parts at the front are as one
pub all_of-two : (a b : TruthValue) (rest : List TruthValue)
    → all_of (all_of (a ∷ b ∷ []) ∷ rest) ≡ all_of (a ∷ b ∷ rest)
all_of-two No b rest = refl
all_of-two Yes No rest = refl
all_of-two Yes Yes rest = refl
all_of-two Yes Unknown rest = refl
all_of-two Unknown No rest = refl
all_of-two Unknown Yes rest = refl
all_of-two Unknown Unknown rest = refl

pub any_of-two : (a b : TruthValue) (rest : List TruthValue)
    → any_of (any_of (a ∷ b ∷ []) ∷ rest) ≡ any_of (a ∷ b ∷ rest)
any_of-two Yes b rest = refl
any_of-two No No rest = refl
any_of-two No Yes rest = refl
any_of-two No Unknown rest = refl
any_of-two Unknown No rest = refl
any_of-two Unknown Yes rest = refl
any_of-two Unknown Unknown rest = refl

pub all_of-one : (a : TruthValue) → all_of (a ∷ []) ≡ a
all_of-one No = refl
all_of-one Yes = refl
all_of-one Unknown = refl

pub any_of-one : (a : TruthValue) → any_of (a ∷ []) ≡ a
any_of-one No = refl
any_of-one Yes = refl
any_of-one Unknown = refl

-- a first part that changes nothing
pub all_of-yes : (rest : List TruthValue) → all_of (Yes ∷ rest) ≡ all_of rest
all_of-yes rest = refl

pub any_of-no : (rest : List TruthValue) → any_of (No ∷ rest) ≡ any_of rest
any_of-no rest = refl

second : (a b : Bool) → IsTrue (a && b) → IsTrue b
second true b h = h
second false b h = cc

-- where all that are left pass, all after the next one do
pub list_all-more : {X : Type 0} (p : X → Bool) (xs : List X) (i : ℕ) (d : X) → i < length xs
    → IsTrue (list_all p (drop i xs)) → IsTrue (list_all p (drop (i + 1) xs))
list_all-more p xs i d h all =
    second (p (get_or xs i d)) (list_all p (drop (i + 1) xs)) (rw (drop_more xs i d h) at all)

pub ruleset parts = (all_of-two, any_of-two, all_of-one, any_of-one, all_of-yes, any_of-no)
