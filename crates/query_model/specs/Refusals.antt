-- Refusals, the first of several, and their codes and texts. This project's own.
use Rattle.std.specs.Prelude.{ℕ, pos, Bool, if◌then◌else◌, List, [], ◌∷◌, ◌++◌, map, Option, Some, None, codes}
use Rattle.std.specs.List.{list_any}
use Rattle.std.specs.Str.{bytes_eq}
use Rattle.std.specs.Fmt.{signed_decimal}
use Rattle.request_model.specs.declared.document.GPair.{GPair}
use Rattle.request_model.specs.Strings.{Text}
use Rattle.query_model.specs.declared.fault.FaultKind.{FaultKind}
use Rattle.query_model.specs.declared.fault.FaultKind.TheVariants as fault
use Rattle.query_model.specs.declared.fault.QueryFault.{QueryFault}
use Rattle.query_model.specs.Names.{pair_name}

-- ---- refusals

abbrev pub refusal : FaultKind → Text → QueryFault
refusal k name = record { kind = k; at = 0; name = name }

abbrev pub refused : FaultKind → Text → Option QueryFault
refused k name = Some (refusal k name)

abbrev pub refused_if : Bool → FaultKind → Text → Option QueryFault
refused_if b k name = if b then refused k name else None

-- the first of two faults
abbrev pub or_then : Option QueryFault → Option QueryFault → Option QueryFault
or_then (Some x) other = Some x
or_then None other = other

-- the first fault of a list
abbrev pub first_of : List (Option QueryFault) → Option QueryFault
first_of [] = None
first_of (x ∷ xs) = or_then x (first_of xs)

-- Of names with what is wrong with each, the first fault, where a name that stands twice is at fault itself: `strange`
-- names that fault, and `before` are the names that came before.
abbrev pub distinct_fault : (Text → QueryFault) → List Text → List (Text × Option QueryFault) → Option QueryFault
distinct_fault strange before [] = None
distinct_fault strange before (x ∷ xs) =
    or_then (if list_any (bytes_eq x.0) before then Some (strange x.0) else x.1)
    (distinct_fault strange (x.0 ∷ before) xs)

-- the same of pairs, whose values are judged
abbrev pub pairs_fault : (Text → QueryFault) → (GPair → Option QueryFault) → List Text → List GPair → Option QueryFault
pairs_fault strange judge before ps = distinct_fault strange before (map (λ p. (pair_name p, judge p)) ps)

-- ---- the text and the code of a refusal

abbrev pub code_of : FaultKind → Text
code_of fault.Syntax = codes "Syntax"
code_of fault.NoOperation = codes "NoOperation"
code_of fault.AmbiguousOperation = codes "AmbiguousOperation"
code_of fault.NotServed = codes "NotServed"
code_of fault.UnknownFragment = codes "UnknownFragment"
code_of fault.FragmentCycle = codes "FragmentCycle"
code_of fault.NoDirective = codes "NoDirective"
code_of fault.NotBoolean = codes "NotBoolean"
code_of fault.TooLarge = codes "TooLarge"
code_of fault.Conflict = codes "Conflict"
code_of fault.NotOneRoot = codes "NotOneRoot"
code_of fault.MissingVariable = codes "MissingVariable"
code_of fault.WrongType = codes "WrongType"
code_of fault.NoField = codes "NoField"
code_of fault.NoArgument = codes "NoArgument"
code_of fault.NullOperand = codes "NullOperand"
code_of fault.BadCursor = codes "BadCursor"
code_of fault.MissingSession = codes "MissingSession"
code_of fault.BadSession = codes "BadSession"

abbrev pub naming : Text → Text → Text
naming words name = words ++ 58 ∷ 32 ∷ name

abbrev pub message_by : FaultKind → ℕ → Text → Text
message_by fault.Syntax at name = codes "syntax error at byte " ++ signed_decimal (pos at)
message_by fault.NoOperation at name = codes "no such operation"
message_by fault.AmbiguousOperation at name = codes "operation name needed"
message_by fault.NotServed at name = codes "operation type not served"
message_by fault.UnknownFragment at name = codes "no such fragment"
message_by fault.FragmentCycle at name = codes "fragment cycle"
message_by fault.NoDirective at name = codes "directive not served"
message_by fault.NotBoolean at name = codes "directive needs a boolean"
message_by fault.TooLarge at name = codes "selection too large"
message_by fault.Conflict at name = codes "fields conflict"
message_by fault.NotOneRoot at name = codes "one root field needed"
message_by fault.MissingVariable at name = naming (codes "missing variable") name
message_by fault.WrongType at name = naming (codes "wrong type") name
message_by fault.NoField at name = naming (codes "no such field") name
message_by fault.NoArgument at name = naming (codes "bad argument") name
message_by fault.NullOperand at name = naming (codes "null operand") name
message_by fault.BadCursor at name = naming (codes "bad cursor") name
message_by fault.MissingSession at name = naming (codes "missing session variable") name
message_by fault.BadSession at name = naming (codes "bad session variable") name

abbrev pub message_of : QueryFault → Text
message_of f = message_by f.kind f.at f.name
