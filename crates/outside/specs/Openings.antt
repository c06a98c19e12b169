-- What a connection opens as and splits into. The rules are this project's own.
use Rattle.std.specs.Prelude.{◌≡◌, Option, Some, None}
use Rattle.outside.specs.declared.opening.Opened.{Opened}
use Rattle.outside.specs.declared.opening.Opened.TheVariants as opened
use Rattle.outside.specs.declared.opening.Parts.{Parts}
use Rattle.outside.specs.declared.opening.Parts.TheVariants as parts

-- a fact of the link, where there is one
abbrev pub IfLink : {K : Type 0} → Opened K → (K → Type 0) → Type 0
IfLink (opened.Link k) P = P k
IfLink opened.Refused P = Unit {0}
IfLink opened.NoMemory P = Unit {0}

-- a fact of the two parts, where there are some
abbrev pub IfBoth : {A B : Type 0} → Parts A B → (A → B → Type 0) → Type 0
IfBoth (parts.Both a b) P = P a b
IfBoth parts.Failed P = Unit {0}
IfBoth parts.NoMemory P = Unit {0}

-- what is told before is told the same then
abbrev pub Tells : {T : Type 0} → Option T → Option T → Type 0
Tells None after = Unit {0}
Tells (Some told) after = after ≡ Some told
