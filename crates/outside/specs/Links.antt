-- What one call of a link may do, by its answer. The rules are this project's own.
use Rattle.std.specs.Prelude.{◌≡◌, ℕ, Option, Some, None, List, [], ◌∷◌, ◌++◌, drop, ◌⊎◌}
use Rattle.outside.specs.declared.link.LinkItem.{LinkItem}
use Rattle.outside.specs.declared.link.LinkItem.TheVariants as item
use Rattle.outside.specs.declared.link.LinkOut.{LinkOut}
use Rattle.outside.specs.declared.link.LinkIn.{LinkIn}
use Rattle.outside.specs.declared.link.LinkIn.TheVariants as answer
use Rattle.outside.specs.declared.link.Sent.{Sent}
use Rattle.outside.specs.declared.link.Sent.TheVariants as sent

-- the answer that gives an item
abbrev pub giving : LinkItem → LinkIn
giving (item.Text t) = answer.Text t
giving item.Binary = answer.Binary
giving item.Idle = answer.Idle
giving item.PeerClosed = answer.PeerClosed

-- the next item; past the end the peer has closed
abbrev pub next_item : List LinkItem → LinkItem
next_item [] = item.PeerClosed
next_item (i ∷ items) = i

-- what was to come and what is to come then, where the link tells it
abbrev pub Receives : Option (List LinkItem) → Option (List LinkItem) → LinkIn → Type 0
Receives None after r = Unit {0}
Receives (Some items) after answer.Failed = after ≡ Some items
Receives (Some items) after answer.NoMemory = (after ≡ Some items) ⊎ (after ≡ Some (drop 1 items))
Receives (Some items) after r = (r ≡ giving (next_item items)) × (after ≡ Some (drop 1 items))

-- what was sent before and is sent then, where the link tells it, by the answer to sending one thing
abbrev pub Sends : Option (List LinkOut) → Option (List LinkOut) → Sent → LinkOut → Type 0
Sends None after r out = Unit {0}
Sends (Some before) after sent.Done out = after ≡ Some (before ++ out ∷ [])
Sends (Some before) after sent.Failed out = after ≡ Some before
Sends (Some before) after sent.NoMemory out = after ≡ Some before
