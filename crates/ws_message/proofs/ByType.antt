-- The form of a message goes by its type.
use Rattle.std.proofs.Common.{◌≡◌, ℕ, List, Bool, true, false, Option, Some, None, option_and_then, codes, refl}
use Rattle.std.specs.Prelude.{if◌then◌else◌}
use Rattle.serde_json.specs.Data.{Members}
use Rattle.serde_json.specs.Find.{as_str}
use Rattle.wire_model.specs.ClientMessages as client
use Rattle.data_model.specs.JsonParts.{required}
use Rattle.wire_model.specs.ClientMessages.{ClientMessage, init_form, subscribe_form, complete_form, bare_form, form_of, form_by_type}
use Rattle.ws_message.specs.declared.client.Kind.TheVariants as kind
use Rattle.ws_message.specs.Forms.{form_of_kind, kind_named, kind_found}

abbrev chosen : {A : Type 0} → Bool → Bool → Bool → Bool → Bool → A → A → A → A → A → A → A
chosen a b c d e u v w x y z = if a then u else if b then v else if c then w else if d then x else if e then y else z

either : (a b c d e : Bool) (ms : Members)
    → option_and_then (λ k. form_of_kind k ms) (chosen a b c d e (Some kind.Init) (Some kind.Subscribe) (Some kind.Complete) (Some kind.Ping) (Some kind.Pong) None)
    ≡ chosen a b c d e (init_form ms) (subscribe_form ms) (complete_form ms) (bare_form client.Ping ms) (bare_form client.Pong ms) None
either true b c d e ms = refl
either false true c d e ms = refl
either false false true d e ms = refl
either false false false true e ms = refl
either false false false false true ms = refl
either false false false false false ms = refl

named : (o : Option (List ℕ)) (ms : Members) → option_and_then (λ k. form_of_kind k ms) (option_and_then kind_named o) ≡ option_and_then (λ name. form_of name ms) o
named None ms = refl
named (Some name) ms = either _ _ _ _ _ ms

pub form_by_kind : (ms : Members) → option_and_then (λ k. form_of_kind k ms) (kind_found ms) ≡ form_by_type ms
form_by_kind ms = named (required as_str (codes "type") ms) ms
