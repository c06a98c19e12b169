-- Texts of clients have one meaning each. This project's own.
use Rattle.std.specs.Prelude.{◌≡◌, ℕ, List, Option, Result}
use Rattle.serde_json.specs.Data.{Members}
use Rattle.request_model.specs.declared.flat.Flat.{Flat}
use Rattle.request_model.specs.Strings.{Text}
use Rattle.query_model.specs.declared.fault.QueryFault.{QueryFault}
use Rattle.query_model.specs.Selecting.{Selects}
use Rattle.machine.specs.Messages.{Message, Says}

-- reading a request gives one selection, or one refusal
abbrev pub SelectsOnce : Type 0
SelectsOnce = (text : Text) (operation : Option Text) (values : Members) (x y : Result Flat QueryFault) →
    Selects text operation values x → Selects text operation values y → x ≡ y

-- a text says one message
abbrev pub SaysOnce : Type 0
SaysOnce = (text : List ℕ) (m n : Message) → Says text m → Says text n → m ≡ n

-- no text is without a message
abbrev pub IsMeant : Type 0
IsMeant = (text : List ℕ) → ((m : Message) → Says text m → ⊥) → ⊥
