-- Truth, and tests of numbers and texts.
use Rattle.std.proofs.Common.{◌≡◌, ◌<◌, nat_eq, nat_lt, arith, refl, subst, ℕ, Bool, true, Option, Some, None}
use Rattle.std.specs.Bool.{MatchBool}
use Rattle.std.specs.Option.{MatchOption}
use Rattle.std.specs.Str.{bytes_eq}
use Rattle.std.proofs.lemmas.Bool.Decides.{nat_tests}
use Rattle.std.proofs.lemmas.Slice.Eq.{bytes_eq-Decides}
use Rattle.request_model.specs.Strings.{Text}

pub same_number : (j k : ℕ) → nat_eq j k ≡ true → j ≡ k
same_number j k h = grind (arith, nat_tests)

pub itself : (k : ℕ) → nat_eq k k ≡ true
itself k = grind (arith, nat_tests)

pub below : (j k : ℕ) → nat_lt j k ≡ true → j < k
below j k h = grind (arith, nat_tests)

pub is_below : (j k : ℕ) → j < k → nat_lt j k ≡ true
is_below j k h = grind (arith, nat_tests)

pub same_text : (t u : Text) → bytes_eq t u ≡ true → t ≡ u
same_text t u h = (bytes_eq-Decides t u).0 h

pub own_text : (t : Text) → bytes_eq t t ≡ true
own_text t = (bytes_eq-Decides t t).1 refl

pub at_true : (b : Bool) (P Q : Type 0) → b ≡ true → MatchBool b P Q → P
at_true b P Q e h = subst (λ x. MatchBool x P Q) e h

pub at_some : {X : Type 0} (o : Option X) (P : Type 0) (Q : X → Type 0) (x : X) → o ≡ Some x → MatchOption o P Q → Q x
at_some o P Q x e h = subst (λ r. MatchOption r P Q) e h

pub at_none : {X : Type 0} (o : Option X) (P : Type 0) (Q : X → Type 0) → o ≡ None → MatchOption o P Q → P
at_none o P Q e h = subst (λ r. MatchOption r P Q) e h
