-- What went over a link, and which times a clock gave. This project's own.
use Rattle.std.specs.Prelude.{◌≡◌, ℕ, ◌≤◌, Option, Some, List, [], ◌∷◌, ◌++◌, drop}
use Rattle.outside.specs.declared.link.LinkItem.{LinkItem}
use Rattle.outside.specs.declared.link.LinkOut.{LinkOut}
use Rattle.outside.specs.Links.{next_item}

-- what contracts see of a link: what comes and what was sent, where it tells them, and the count of its faults
pub record LinkView : Type 0 where
  pub coming : Option (List LinkItem)
  pub sent : Option (List LinkOut)
  pub faults : ℕ

abbrev pub link_view : Option (List LinkItem) → Option (List LinkOut) → ℕ → LinkView
link_view coming sent faults = record { coming = coming; sent = sent; faults = faults }

-- These items were given, in the order in which they come, and this is left. Past its end the peer has closed.
abbrev pub Gives : List LinkItem → List LinkItem → List LinkItem → Type 0
Gives items [] left = left ≡ items
Gives items (g ∷ given) left = (g ≡ next_item items) × Gives (drop 1 items) given left

-- a link that tells its items has given these
pub record Gave (items given : List LinkItem) (coming : Option (List LinkItem)) : Type 0 where
  pub left : List LinkItem
  pub told : coming ≡ Some left
  pub gives : Gives items given left

-- Between two moments a link gave these items, and these things were sent over it. What a link doesn't tell is any list.
pub record Talks (k k' : LinkView) (given : List LinkItem) (outs : List LinkOut) : Type 0 where
  pub coming : (items : List LinkItem) → k.coming ≡ Some items → Gave items given k'.coming
  pub sent : (before : List LinkOut) → k.sent ≡ Some before → k'.sent ≡ Some (before ++ outs)
  pub later : k.faults ≤ k'.faults

-- between two moments a clock gave these times, where it tells them
abbrev pub Tells : (List ℕ → Type 0) → (List ℕ → Type 0) → List ℕ → Type 0
Tells t t' times = (before : List ℕ) → t before → t' (before ++ times)
