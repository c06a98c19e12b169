-- What a writing call answers, and what it leaves. This project's own.
use Rattle.std.specs.Prelude.{Option, Some, None, Result, Ok, Err, Bool, true, false, if◌then◌else◌}
use Rattle.scalar_val.specs.declared.text.NoMemory.{NoMemory}
use Rattle.data_model.specs.declared.transaction.Reason.{Reason}
use Rattle.data_model.specs.declared.transaction.Reason.TheVariants as reason
use Rattle.row_store.specs.declared.stored.Stored.{Stored}
use Rattle.row_store.specs.declared.stored.Stored.TheVariants.{Done, NoRow, KeyTaken, UniqueTaken, TableFull}

-- the reason of a refusal
abbrev pub reason_of : Stored → Option Reason
reason_of Done = None
reason_of NoRow = Some reason.NoRow
reason_of KeyTaken = Some reason.KeyTaken
reason_of UniqueTaken = Some reason.UniqueTaken
reason_of TableFull = Some reason.TableFull

abbrev pub is_done : Result Stored NoMemory → Bool
is_done (Ok Done) = true
is_done (Ok NoRow) = false
is_done (Ok KeyTaken) = false
is_done (Ok UniqueTaken) = false
is_done (Ok TableFull) = false
is_done (Err e) = false

-- what is there after a call: what it makes where it is done, else what was there
abbrev pub after : {A : Type 0} → Result Stored NoMemory → A → A → A
after result old made = if is_done result then made else old
