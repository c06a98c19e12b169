-- The codes and reasons with which a server closes a connection (the `graphql-transport-ws` protocol). A reason has at
-- most 123 bytes (RFC 6455, section 5.5). That it is cut to whole characters, and the reason `Invalid message`, are this
-- project's own.
use Rattle.std.specs.Prelude.{
  ℕ,
  zero,
  suc,
  Bool,
  ◌&&◌,
  nat_le,
  nat_lt,
  if◌then◌else◌,
  List,
  ◌++◌,
  length,
  take,
  slice_index,
  codes,
}
use Rattle.wire_model.specs.declared.close.CloseReason.{CloseReason}
use Rattle.wire_model.specs.declared.close.CloseReason.TheVariants.{
  Invalid,
  Unauthorized,
  Forbidden,
  InitTimeout,
  Exists,
  TooManyInits,
}

abbrev pub code : CloseReason → ℕ
code Invalid = 4400
code Unauthorized = 4401
code Forbidden = 4403
code InitTimeout = 4408
code (Exists text) = 4409
code TooManyInits = 4429

abbrev pub reason : CloseReason → List ℕ
reason Invalid = codes "Invalid message"
reason Unauthorized = codes "Unauthorized"
reason Forbidden = codes "Forbidden"
reason InitTimeout = codes "Connection initialisation timeout"
reason (Exists text) = text
reason TooManyInits = codes "Too many initialisation requests"

-- a byte of UTF-8 that doesn't begin a character
abbrev pub continues : ℕ → Bool
continues b = nat_le 128 b && nat_lt b 192

-- the greatest place up to n that doesn't lie within a character
abbrev pub boundary : List ℕ → ℕ → ℕ
boundary text zero = zero
boundary text (suc n) = if continues (slice_index text (suc n)) then boundary text n else suc n

-- the longest prefix of whole characters within n bytes
abbrev pub within : ℕ → List ℕ → List ℕ
within n text = if nat_le (length text) n then text else take (boundary text n) text

-- the most bytes of a reason
abbrev pub most_bytes : ℕ
most_bytes = 123

-- the reason, uncut, of the close for a second subscription whose id is live
unfoldable pub exists_text : List ℕ → List ℕ
exists_text id = codes "Subscriber for " ++ id ++ codes " already exists"

-- the close for a second subscription whose id is live, with its reason cut
abbrev pub close_exists : List ℕ → CloseReason
close_exists id = Exists (within most_bytes (exists_text id))
