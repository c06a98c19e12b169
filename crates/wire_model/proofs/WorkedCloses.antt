-- Worked rows of closes, and of what the events of a connection ask for, which compute.
use Rattle.std.specs.Prelude.{Bool, ◌≡◌, ℕ, List, [], ◌∷◌, ◌++◌, replicate, true, false, Some, None, Option, refl, codes}
use Rattle.serde_json.proofs.OnLiterals.{serde_json_on_literals}
use Rattle.role_model.specs.Sessions.{identity_of}
use Rattle.role_model.specs.declared.metadata.Metadata.{Metadata}
use Rattle.role_model.specs.declared.session.Identity.{Identity}
use Rattle.role_model.specs.declared.session.Identity.TheVariants.{Allowed, Forbidden as refused}
use Rattle.wire_model.specs.ClientMessages.{ClientMessage, Init, message}
use Rattle.wire_model.specs.CloseReasons.{code, reason, close_exists, exists_text}
use Rattle.wire_model.specs.declared.close.CloseReason.{CloseReason}
use Rattle.wire_model.specs.declared.close.CloseReason.TheVariants.{Invalid, Unauthorized, InitTimeout, TooManyInits}
use Rattle.wire_model.specs.Steps.{action, closes_with, on_timeout}
use Rattle.wire_model.specs.declared.step.Phase.{Phase}
use Rattle.wire_model.specs.declared.step.Phase.TheVariants.{Fresh, Acked, Closed}
use Rattle.wire_model.specs.declared.step.Action.TheVariants as act

-- the code and the reason of a close
abbrev told : CloseReason → ℕ × List ℕ
told r = (code r, reason r)

pub live_id : told (close_exists (codes "a")) ≡ (4409, codes "Subscriber for a already exists")
unfolding exists_text
live_id = refl

-- 107 letters, then a character of two bytes that byte 123 would cut, and one more letter
abbrev long_id : List ℕ
long_id = replicate 107 97 ++ 195 ∷ 169 ∷ 122 ∷ []

pub cut_reason : told (close_exists long_id) ≡ (4409, codes "Subscriber for " ++ replicate 107 97)
unfolding exists_text
cut_reason = refl

-- one letter less, and the character fits
pub whole_character : told (close_exists (replicate 106 97 ++ 195 ∷ 169 ∷ 122 ∷ [])) ≡ (4409, codes "Subscriber for " ++ replicate 106 97 ++ 195 ∷ 169 ∷ [])
unfolding exists_text
whole_character = refl

-- characters of three and of four bytes that byte 123 would cut
pub three_bytes : told (close_exists (replicate 106 97 ++ 226 ∷ 130 ∷ 172 ∷ [])) ≡ (4409, codes "Subscriber for " ++ replicate 106 97)
unfolding exists_text
three_bytes = refl

pub four_bytes : told (close_exists (replicate 107 97 ++ 240 ∷ 159 ∷ 152 ∷ 128 ∷ [])) ≡ (4409, codes "Subscriber for " ++ replicate 107 97)
unfolding exists_text
four_bytes = refl

pub longest_id : told (close_exists (replicate 93 97)) ≡ (4409, codes "Subscriber for " ++ replicate 93 97 ++ codes " already exists")
unfolding exists_text
longest_id = refl

-- the close that a text brings, in a phase, where its id is or isn't live
abbrev close_by : Phase → Bool → List ℕ → Option CloseReason
close_by phase live text = closes_with (codes "a") (action phase (message text) live)

abbrev init : List ℕ
init = codes "{\"type\":\"connection_init\"}"

abbrev subscribe : List ℕ
subscribe = codes "{\"type\":\"subscribe\",\"id\":\"a\",\"payload\":{\"query\":\"\"}}"

pub subscribe_before_init : close_by Fresh false subscribe ≡ Some Unauthorized
unfolding serde_json_on_literals
subscribe_before_init = refl

pub second_init : close_by Acked false init ≡ Some TooManyInits
unfolding serde_json_on_literals
second_init = refl

pub bad_message : close_by Fresh false (codes "hello") ≡ Some Invalid
unfolding serde_json_on_literals
bad_message = refl

pub same_live_id : close_by Acked true subscribe ≡ Some (close_exists (codes "a"))
unfolding serde_json_on_literals
same_live_id = refl

-- a closed connection ignores bad messages too
pub closed_connection : close_by Closed false (codes "hello") ≡ None
unfolding serde_json_on_literals
closed_connection = refl

pub late_init : on_timeout Fresh ≡ Some InitTimeout
late_init = refl

pub other_subscribe : action Acked (message subscribe) false ≡ act.Admit
unfolding serde_json_on_literals
other_subscribe = refl

pub ping : action Fresh (message (codes "{\"type\":\"ping\"}")) false ≡ act.Pong
unfolding serde_json_on_literals
ping = refl

pub completes_nothing : action Acked (message (codes "{\"type\":\"complete\",\"id\":\"b\"}")) false ≡ act.Ignore
unfolding serde_json_on_literals
completes_nothing = refl

-- the metadata of a server with a secret and no unauthorized role
abbrev guarded : Metadata
guarded = record { catalog = record { tables = [] }; links = []; roles = []; batch_size = 100; refetch_ms = 1000; secret = Some (codes "s"); unauthorized_role = None }

abbrev identified : ClientMessage → Option Identity
identified (Init payload) = Some (identity_of guarded payload)
identified _ = None

pub another_secret : identified (message (codes "{\"type\":\"connection_init\",\"payload\":{\"headers\":{\"x-hasura-admin-secret\":\"t\"}}}")) ≡ Some refused
unfolding serde_json_on_literals
another_secret = refl

pub secret : identified (message (codes "{\"type\":\"connection_init\",\"payload\":{\"headers\":{\"X-Hasura-Admin-Secret\":\"s\",\"x-hasura-role\":1}}}")) ≡ Some (Allowed (record { role = codes "admin"; vars = [] }))
unfolding serde_json_on_literals
secret = refl
