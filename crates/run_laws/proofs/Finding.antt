-- The subscription of a number, as the subscriptions change.
use Rattle.std.proofs.Common.{◌≡◌, ◌∙◌, ap, refl, ℕ, ◌==◌, Bool, true, false, cond, Some, Option, List, [], ◌∷◌, map}
use Rattle.std.specs.Option.{option_map, option_or}
use Rattle.std.proofs.lemmas.List.Folds.{find-append}
use Rattle.machine.specs.State.{Subscription}
use Rattle.machine.specs.Batches.{is_subscription, subscription_at}
use Rattle.run_laws.proofs.Following.{Alike, Follows, Proceeds}

found_map : {X : Type 0} (f : X → X) (b : Bool) (x : X) (o : Option X) → cond b (Some (f x)) (option_map f o) ≡ option_map f (cond b (Some x) o)
found_map f true x o = refl
found_map f false x o = refl

pub at_mapped : (f : Subscription → Subscription) → Alike f → (number : ℕ) (subs : List Subscription) → subscription_at number (map f subs) ≡ option_map f (subscription_at number subs)
at_mapped f a number [] = refl
at_mapped f a number (x ∷ xs) =
    ap (λ (n : ℕ). cond (n == number) (Some (f x)) (subscription_at number (map f xs))) (a.number x)
    ∙ ap (λ (o : Option Subscription). cond (x.number == number) (Some (f x)) o) (at_mapped f a number xs)
    ∙ found_map f (x.number == number) x (subscription_at number xs)

pub at_followed : (subs after : List Subscription) (f : Follows subs after) (number : ℕ) → subscription_at number after ≡ option_map f.change (subscription_at number subs)
at_followed subs after f number = ap (λ (l : List Subscription). subscription_at number l) f.is ∙ at_mapped f.change f.alike number subs

pub at_proceeded : (still : Type 0) (subs after : List Subscription) (p : Proceeds still subs after) (number : ℕ) →
    subscription_at number after ≡ option_or (option_map p.change (subscription_at number subs)) (subscription_at number p.more)
at_proceeded still subs after p number =
    ap (λ (l : List Subscription). subscription_at number l) p.is
    ∙ find-append (is_subscription number) (map p.change subs) p.more
    ∙ ap (λ (o : Option Subscription). option_or o (subscription_at number p.more)) (at_mapped p.change p.alike number subs)
