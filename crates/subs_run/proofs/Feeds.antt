-- What pieces do to a reader.
use Rattle.std.proofs.Common.{◌≡◌, ◌≢◌, ◌∙◌, ◌<◌, ◌≤◌, ◌+◌, arith, sym, ap, subst, refl, ℕ, Option, List, [], ◌∷◌, ◌++◌, length, length-append, append_assoc, take, drop, get_or}
use Rattle.std.proofs.lemmas.List.{take_more}
use Rattle.std.proofs.lemmas.Grind.{common_steps}
use Rattle.machine.specs.Messages.{Message}
use Rattle.machine.specs.Script.{Ran, Fault}
use Rattle.machine.specs.declared.script.ScriptReason.{ScriptReason}
use Rattle.subs_run.specs.declared.reader.Reader.{Reader}
use Rattle.subs_run.specs.declared.reader.Fed.{Fed}
use Rattle.subs_run.specs.declared.reader.Fed.TheVariants as fed
use Rattle.subs_run.specs.Runs.{ran}
use Rattle.subs_run.specs.Written.{WritesOn}
use Rattle.subs_run.specs.Standing.{AreRead, HasRun, HasRoom, FedAs, FedAll}
use Rattle.subs_run.proofs.Rans.{ran-fault, ran-longer, read-front}
use Rattle.subs_run.proofs.Written.{on_then, front_then, front_longer}

-- an end that isn't the whole piece holds of a longer text too
pub fed_longer : (end : Fed) (reader : Reader) (seen more : List ℕ) → end ≢ fed.Done → FedAs end reader seen →
    FedAs end reader (seen ++ more)
fed_longer fed.Done reader seen more ne is = absurd (ne refl)
fed_longer (fed.Faulty reason) reader seen more ne is = (
  λ meant says.
      let at = is.0 meant (read-front meant seen more says) in
      ap (λ (r : Ran). r.standing) (ran-fault meant seen more (reader.lines_read + 1) reason at) ∙ at,
  omega (arith, is.1, length-append seen more),
)
fed_longer fed.SinkFailed reader seen more ne is = tt
fed_longer fed.NoMemory reader seen more ne is = tt

pub all_longer : (meant : List ℕ → Message) (end : Fed) (reader : Reader) (old new : Option (List ℕ))
    (before seen more : List ℕ) → end ≢ fed.Done → FedAs end reader seen → AreRead meant (seen ++ more) →
    FedAll end old new before (ran meant seen).text → FedAll end old new before (ran meant (seen ++ more)).text
all_longer meant fed.Done reader old new before seen more ne is says all = absurd (ne refl)
all_longer meant (fed.Faulty reason) reader old new before seen more ne is says all =
    let at = is.0 meant (read-front meant seen more says) in
    subst (λ (r : Ran). WritesOn old new before r.text)
    (sym (ran-fault meant seen more (reader.lines_read + 1) reason at)) all
all_longer meant fed.SinkFailed reader old new before seen more ne is says all =
    let l = ran-longer meant seen more in
    front_longer old new before (ran meant seen).text l.text (ran meant (seen ++ more)).text l.text_is all
all_longer meant fed.NoMemory reader old new before seen more ne is says all =
    let l = ran-longer meant seen more in
    front_longer old new before (ran meant seen).text l.text (ran meant (seen ++ more)).text l.text_is all

pub all_then : (end : Fed) (old mid new : Option (List ℕ)) (xs ys zs : List ℕ) → WritesOn old mid xs ys →
    FedAll end mid new ys zs → FedAll end old new xs zs
all_then fed.Done old mid new xs ys zs first second = on_then old mid new xs ys zs first second
all_then (fed.Faulty reason) old mid new xs ys zs first second = on_then old mid new xs ys zs first second
all_then fed.SinkFailed old mid new xs ys zs first second = front_then old mid new xs ys zs first second
all_then fed.NoMemory old mid new xs ys zs first second = front_then old mid new xs ys zs first second

-- one more byte of a piece
pub next_byte : (seen piece : List ℕ) (i : ℕ) → i < length piece →
    seen ++ take (i + 1) piece ≡ (seen ++ take i piece) ++ get_or piece i 0 ∷ []
next_byte seen piece i h =
    ap (λ (xs : List ℕ). seen ++ xs) (take_more piece i 0 h)
    ∙ sym (append_assoc seen (take i piece) (get_or piece i 0 ∷ []))

pub rest_of_piece : (seen piece : List ℕ) (i : ℕ) → i < length piece →
    seen ++ piece ≡ ((seen ++ take i piece) ++ get_or piece i 0 ∷ []) ++ drop (i + 1) piece
rest_of_piece seen piece i h = grind (arith, common_steps)

pub room_after : (reader after : Reader) (b : ℕ) (more : ℕ) → (room : HasRoom reader (more + 1)) →
    HasRun after (room.seen ++ b ∷ []) → HasRoom after more
room_after reader after b more room is =
    record {
      seen = room.seen ++ b ∷ [];
      ran = is;
      within = omega
          (arith, length-append room.seen (b ∷ []), room.within);
    }

pub room_of : (reader : Reader) (n m : ℕ) → m ≡ n → HasRoom reader n → HasRoom reader m
room_of reader n m e room = subst (HasRoom reader) (sym e) room
