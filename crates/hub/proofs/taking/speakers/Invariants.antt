use Rattle.std.proofs.Common.{◌≡◌, ◌+◌, ℕ, Some, length, slice_get, take}
use Rattle.hub.specs.Taking.{most, IsSpeaker}
use Rattle.hub.proofs.taking.speakers.Given as goal

abbrev pub invariant-loop-member : goal.invariant-loop-member
invariant-loop-member l =
    (length l.subs.items ≡ most l.members)
    × ((i number : ℕ) → slice_get l.subs.items i ≡ Some number →
    IsSpeaker (take l.member-index l.members) l.first (i + 1) number)
