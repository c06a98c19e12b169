-- What a link answers to what a read of its WebSocket gave. The rules are this project's own.
use Rattle.std.specs.Prelude.{◌≡◌, ◌≢◌, ◌⊎◌, Result, Ok, Err}
use Rattle.std.specs.IoError.{error_kind}
use Rattle.std.specs.declared.io.ErrorKind.{ErrorKind}
use Rattle.tungstenite.specs.declared.message.Message.{Message}
use Rattle.tungstenite.specs.declared.message.Message.TheVariants as message
use Rattle.tungstenite.specs.declared.error.Error.{Error}
use Rattle.tungstenite.specs.declared.error.Error.TheVariants as error
use Rattle.outside.specs.declared.link.LinkIn.{LinkIn}
use Rattle.outside.specs.declared.link.LinkIn.TheVariants as answer

-- a text or binary message gives itself, a text only where there is memory for it; pings and pongs are the transport's
-- own, and the peer's close ends the link
abbrev pub MessageGives : Message → LinkIn → Type 0
MessageGives (message.Text t) r = (r ≡ answer.Text t) ⊎ (r ≡ answer.NoMemory)
MessageGives (message.Binary b) r = r ≡ answer.Binary
MessageGives (message.Ping b) r = r ≡ answer.Idle
MessageGives (message.Pong b) r = r ≡ answer.Idle
MessageGives (message.Close frame) r = r ≡ answer.PeerClosed

-- nothing came for now, the close is done, memory was refused, or the link failed
abbrev pub ErrorGives : Error → LinkIn → Type 0
ErrorGives (error.Io e) r =
    (error_kind e ≡ ErrorKind.WouldBlock → r ≡ answer.Idle) × (error_kind e ≢ ErrorKind.WouldBlock → r ≡ answer.Failed)
ErrorGives error.ConnectionClosed r = r ≡ answer.PeerClosed
ErrorGives error.OutOfMemory r = r ≡ answer.NoMemory
ErrorGives _ r = r ≡ answer.Failed

-- what a read gave, and the answer
abbrev pub Gives : Result Message Error → LinkIn → Type 0
Gives (Ok m) r = MessageGives m r
Gives (Err e) r = ErrorGives e r
