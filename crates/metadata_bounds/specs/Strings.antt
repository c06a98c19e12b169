-- The strings in TOML values. This project's own.
use Rattle.std.specs.Prelude.{◌≡◌, ℕ, ◌≤◌, List, length, Some, ⊤}
use Rattle.toml.specs.Data.{Data, string, array, table, Items, no_items, item, Members, no_members, member}
use Rattle.toml.specs.Parse.{parse_document}

-- each string has at most so many bytes
abbrev mutual
  pub Short : ℕ → Data → Type 0
  Short n (string s) = length s ≤ n
  Short n (array ds) = ShortItems n ds
  Short n (table ms) = ShortMembers n ms
  Short n _ = ⊤

  pub ShortItems : ℕ → Items → Type 0
  ShortItems n no_items = ⊤
  ShortItems n (item d ds) = Short n d × ShortItems n ds

  pub ShortMembers : ℕ → Members → Type 0
  ShortMembers n no_members = ⊤
  ShortMembers n (member k d ms) = Short n d × ShortMembers n ms

-- no string of a document is longer than its text
abbrev pub StringsAreShort : Type 0
StringsAreShort = (text : List ℕ) (ms : Members) → parse_document text ≡ Some ms → ShortMembers (length text) ms
