-- Metadata that a text says has room for a cohort in each batch.
use Rattle.std.proofs.Common.{◌≡◌, refl, subst, ℕ, ℤ, pos, negsuc, ◌≤◌, Bool, true, false, ◌&&◌, if◌then◌else◌, nat_lt, Some, None, Option, option_map, length, Result, Ok, Err, arith}
use Rattle.std.specs.Prelude.{int_le, codes, unwrap_or}
use Rattle.std.specs.Option.{IfSome}
use Rattle.std.proofs.lemmas.Bool.{leb-true}
use Rattle.toml.specs.Data.{Data, Members, as_str, as_integer, get_member}
use Rattle.role_model.specs.declared.metadata.Document.{Document}
use Rattle.role_model.specs.declared.metadata.Metadata.{Metadata}
use Rattle.role_model.specs.declared.metadata.MetaFault.{MetaFault}
use Rattle.role_model.specs.declared.metadata.MetaFault.TheVariants.{TooLong, Toml, BadForm}
use Rattle.role_model.specs.MetadataFaults.{fault_of}
use Rattle.role_model.specs.MetadataForm.{◌>>=◌, nat_of, integer_from, filled_text, list_of, table_of, required, may_be, optional, with_default, has_only, document_keys, document_in, document_of}
use Rattle.role_model.specs.MetadataMeaning.{meaning_of, judged_by, formed_by, parsed_by, toml_of}
use Rattle.run_laws.specs.Takings.{BatchesHaveRoom}

if_then : {A B : Type 0} (P : A → Type 0) (Q : B → Type 0) (o : Option A) (f : A → Option B) → IfSome o P → ((x : A) → P x → IfSome (f x) Q) → IfSome (o >>= f) Q
if_then P Q (Some x) f h k = k x h
if_then P Q None f h k = tt

abbrev Anything : {A : Type 0} → A → Type 0
Anything x = Unit {0}

any : {A : Type 0} (o : Option A) → IfSome o Anything
any (Some x) = tt
any None = tt

abbrev HasRoom : ℕ → Type 0
HasRoom n = 1 ≤ n

one_to : (n : ℕ) → int_le (pos 1) (pos n) ≡ true → 1 ≤ n
one_to n e = leb-true 1 n e

from_one : (z : ℤ) (most : ℕ) (b : Bool) → int_le (pos 1) z ≡ b → IfSome (if b && int_le z (pos most) then Some (nat_of z) else None) HasRoom
from_one z most false e = tt
from_one (pos n) most true e = up_to n (int_le (pos n) (pos most)) (one_to n e)
  where
    up_to : (n : ℕ) (c : Bool) → 1 ≤ n → IfSome (if c then Some n else None) HasRoom
    up_to n true h = h
    up_to n false h = tt
from_one (negsuc n) most true e = absurd (let k : false ≡ true = e in cc)

integer_room : (most : ℕ) (d : Data) → IfSome (integer_from 1 most d) HasRoom
integer_room most d =
    if_then Anything HasRoom (as_integer d) (λ z. if int_le (pos 1) z && int_le z (pos most) then Some (nat_of z) else None) (any (as_integer d)) (λ z x. from_one z most (int_le (pos 1) z) refl)

default_by : (o : Option ℕ) (n : ℕ) → 1 ≤ n → IfSome o HasRoom → IfSome (option_map (λ p. unwrap_or p n) (option_map (λ x. Some x) o)) HasRoom
default_by (Some x) n h k = k
default_by None n h k = tt

given_room : (most n : ℕ) → 1 ≤ n → (o : Option Data) → IfSome (option_map (λ p. unwrap_or p n) (may_be (integer_from 1 most) o)) HasRoom
given_room most n h None = h
given_room most n h (Some d) = default_by (integer_from 1 most d) n h (integer_room most d)

document_in_room : (ms : Members) → IfSome (document_in ms) (λ d. 1 ≤ d.batch_size)
document_in_room ms =
    if_then Anything _ (required as_integer (codes "version") ms) _ (any _) (λ version _.
    if_then HasRoom _ (with_default (integer_from 1 1000) 100 (codes "batch_size") ms) _ (given_room 1000 100 (omega arith) (get_member (codes "batch_size") ms)) (λ batch_size h.
    if_then Anything _ (with_default (integer_from 1 3600000) 1000 (codes "refetch_ms") ms) _ (any _) (λ refetch_ms _.
    if_then Anything _ (optional as_str (codes "admin_secret") ms) _ (any _) (λ admin_secret _.
    if_then Anything _ (optional filled_text (codes "unauthorized_role") ms) _ (any _) (λ unauthorized_role _.
    if_then Anything _ (required (list_of table_of) (codes "tables") ms) _ (any _) (λ tables _. h))))))

document_room : (ms : Members) → IfSome (document_of ms) (λ d. 1 ≤ d.batch_size)
document_room ms = room_by (has_only document_keys ms)
  where
    room_by : (b : Bool) → IfSome (if b then document_in ms else None) (λ d. 1 ≤ d.batch_size)
    room_by true = document_in_room ms
    room_by false = tt

judged_room : (d : Document) (o : Option MetaFault) (m : Metadata) → judged_by d o ≡ Ok m → 1 ≤ d.batch_size → 1 ≤ m.batch_size
judged_room d (Some fault) m e h = absurd (let k : ◌≡◌ {A = Result Metadata MetaFault} (Err fault) (Ok m) = e in cc)
judged_room d None m e h =
    let k : ◌≡◌ {A = Result Metadata MetaFault} (Ok (meaning_of d)) (Ok m) = e in
    let is : meaning_of d ≡ m = cc in
    subst (λ (n : Metadata). 1 ≤ n.batch_size) is h

formed_room : (o : Option Document) (m : Metadata) → formed_by o ≡ Ok m → IfSome o (λ d. 1 ≤ d.batch_size) → 1 ≤ m.batch_size
formed_room None m e h = absurd (let k : ◌≡◌ {A = Result Metadata MetaFault} (Err BadForm) (Ok m) = e in cc)
formed_room (Some d) m e h = judged_room d (fault_of d) m e h

read_room : (b : Bool) (o : Option Members) (m : Metadata) → (if b then Err TooLong else parsed_by o) ≡ Ok m → 1 ≤ m.batch_size
read_room true o m e = absurd (let k : ◌≡◌ {A = Result Metadata MetaFault} (Err TooLong) (Ok m) = e in cc)
read_room false None m e = absurd (let k : ◌≡◌ {A = Result Metadata MetaFault} (Err Toml) (Ok m) = e in cc)
read_room false (Some ms) m e = formed_room (document_of ms) m e (document_room ms)

pub batches_have_room : (meta : Metadata) → BatchesHaveRoom meta
batches_have_room meta is = read_room (nat_lt 1048576 (length is.0)) (toml_of is.0) meta is.1
