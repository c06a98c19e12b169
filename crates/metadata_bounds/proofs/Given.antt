-- What holds of a value that is there.
use Rattle.std.proofs.Common.{◌≡◌, Bool, true, false, Option, Some, None, option_map, option_and_then, if◌then◌else◌, refl, subst}

pub data Given {A : Type 0} (P : A → Type 0) : Option A → Type 0 where
  absent : Given P None
  given : {x : A} → P x → Given P (Some x)

pub given_is : {A : Type 0} {P : A → Type 0} (o : Option A) (x : A) → Given P o → o ≡ Some x → P x
given_is o x absent e = absurd (let q : ◌≡◌ {A = Option _} None (Some x) = e in cc)
given_is {P = P} o x (given {x = y} p) e = let same : y ≡ x = (let q : ◌≡◌ {A = Option _} (Some y) (Some x) = e in cc) in subst P same p

pub given_if : {A : Type 0} {P : A → Type 0} (c : Bool) (o p : Option A) → (c ≡ true → Given P o) → (c ≡ false → Given P p) → Given P (if c then o else p)
given_if true o p f g = f refl
given_if false o p f g = g refl

pub given_map : {A B : Type 0} (P : A → Type 0) {Q : B → Type 0} (f : A → B) (o : Option A) → Given P o → ((x : A) → P x → Q (f x)) → Given Q (option_map f o)
given_map P f o absent g = absent
given_map P f o (given {x = x} p) g = given (g x p)

pub given_then : {A B : Type 0} (P : A → Type 0) {Q : B → Type 0} (f : A → Option B) (o : Option A) → Given P o → ((x : A) → P x → Given Q (f x)) → Given Q (option_and_then f o)
given_then P f o absent g = absent
given_then P f o (given {x = x} p) g = g x p

pub given_more : {A : Type 0} (P : A → Type 0) {Q : A → Type 0} (o : Option A) → Given P o → ((x : A) → P x → Q x) → Given Q o
given_more P o absent g = absent
given_more P o (given {x = x} p) g = given (g x p)
