-- What the calls of the tests keep.
use Rattle.std.proofs.Common.{◌≡◌, ◌∙◌, ℕ, ◌<◌, ◌+◌, Bool, true, false, ◌||◌, ◌&&◌, ◌==◌, not, nat_lt, if◌then◌else◌, Some, List, [], ◌∷◌, ◌++◌, map, refl, sym, ap, subst, arith}
use Rattle.std.specs.Prelude.{Result, Ok, Err, OnOk}
use Rattle.std.specs.List.{AllByRecursion}
use Rattle.std.proofs.lemmas.Bool.{eq-eqb, ltb-true, ltb-false}
use Rattle.std.proofs.lemmas.List.Folds.{list_any-append}
use Rattle.scalar_val.specs.Values.{is_null}
use Rattle.plan_model.specs.declared.filter.Binding.{Binding}
use Rattle.cohort_map.specs.declared.key.PollerKey.{PollerKey}
use Rattle.cohort_map.specs.declared.member.Member.{Member}
use Rattle.cohort_map.specs.Batches.{is_member, marked, opened}
use Rattle.cohort_map.specs.Entries.{Entry, Held, entered, has_stream, is_busy, is_entry, is_stream, ticked, with_due}
use Rattle.cohort_map.proofs.Alls.{all_more, all_over, all_weaker}
use Rattle.stream_cursor.specs.Example.{HasStreams}

pub empty_streams : (held : Held) → held.entries ≡ [] → held.ready ≡ [] → HasStreams 1 held
empty_streams held none unready = record {
  below = subst (AllByRecursion (λ e. e.number < 1)) (sym none) tt;
  unready = unready;
  there = λ number least most. absurd (omega arith);
}

stream_over : (f : Entry → Entry) → ((e : Entry) → (f e).number ≡ e.number) → ((e : Entry) → (f e).binding ≡ e.binding) → (number : ℕ) (entries : List Entry) → has_stream number (map f entries) ≡ has_stream number entries
stream_over f numbered bound number [] = refl
stream_over f numbered bound number (e ∷ entries) =
    let first = numbered e in
    let second = bound e in
    let rest = stream_over f numbered bound number entries in
    λ i. ((first i == number) && not (is_null (second i).cursor)) || rest i

over_streams : (f : Entry → Entry) → ((e : Entry) → (f e).number ≡ e.number) → ((e : Entry) → (f e).binding ≡ e.binding) → (next : ℕ) (held new : Held) → new.entries ≡ map f held.entries → new.ready ≡ held.ready → HasStreams next held → HasStreams next new
over_streams f numbered bound next held new is ready h = record {
  below = subst (AllByRecursion (λ e. e.number < next)) (sym is) (all_over (λ e. e.number < next) (λ e. e.number < next) f (λ e less. subst (λ (n : ℕ). n < next) (sym (numbered e)) less) held.entries h.below);
  unready = ready ∙ h.unready;
  there = λ number least most. ap (has_stream number) is ∙ stream_over f numbered bound number held.entries ∙ h.there number least most;
}

pub ticked_streams : (next : ℕ) (held new : Held) → new.entries ≡ ticked held.entries → new.ready ≡ held.ready → HasStreams next held → HasStreams next new
ticked_streams next held new is ready h =
    over_streams (λ e. with_due (e.live && not (is_busy held.entries e)) e) (λ e. refl) (λ e. refl) next held new is ready h

marked_number : (job : ℕ) (e : Entry) (b : Bool) → (if b then record e { due = false; job = Some job } else e).number ≡ e.number
marked_number job e true = refl
marked_number job e false = refl

marked_binding : (job : ℕ) (e : Entry) (b : Bool) → (if b then record e { due = false; job = Some job } else e).binding ≡ e.binding
marked_binding job e true = refl
marked_binding job e false = refl

pub opened_streams : (next job : ℕ) (members : List Member) (held new : Held) → new.entries ≡ opened job members held.entries → new.ready ≡ held.ready → HasStreams next held → HasStreams next new
opened_streams next job members held new is ready h =
    over_streams (marked job members) (λ e. marked_number job e (is_member members e.number)) (λ e. marked_binding job e (is_member members e.number)) next held new is ready h

or_first : (a b : Bool) → a ≡ true → (a || b) ≡ true
or_first true b h = refl
or_first false b h = cc

or_second : (a b : Bool) → b ≡ true → (a || b) ≡ true
or_second true b h = refl
or_second false b h = h

and_both : (a b : Bool) → a ≡ true → b ≡ true → (a && b) ≡ true
and_both true b h k = k
and_both false b h k = cc

last_stream : (number : ℕ) (e : Entry) → e.number ≡ number → is_stream e ≡ true → has_stream number (e ∷ []) ≡ true
last_stream number e named stream = or_first (is_entry number e && is_stream e) false (and_both (is_entry number e) (is_stream e) (eq-eqb e.number number named) stream)

there_or_last : (number next : ℕ) (entries : List Entry) (e : Entry) (b : Bool) → nat_lt number next ≡ b → e.number ≡ next → is_stream e ≡ true → (number < next → has_stream number entries ≡ true) → number < next + 1 → (has_stream number entries || has_stream number (e ∷ [])) ≡ true
there_or_last number next entries e true less named stream earlier most =
    or_first (has_stream number entries) (has_stream number (e ∷ [])) (earlier (ltb-true number next less))
there_or_last number next entries e false less named stream earlier most =
    let past = ltb-false number next less in
    or_second (has_stream number entries) (has_stream number (e ∷ [])) (last_stream number e (omega arith) stream)

pub joined_streams : (next : ℕ) (poller : PollerKey) (binding : Binding) (held new : Held) → is_null binding.cursor ≡ false → new.entries ≡ held.entries ++ entered next poller binding ∷ [] → new.ready ≡ held.ready → HasStreams next held → HasStreams (next + 1) new
joined_streams next poller binding held new stream is ready h =
    let e : Entry = entered next poller binding in
    let wider = all_weaker (λ (e : Entry). e.number < next) (λ (e : Entry). e.number < next + 1) (λ e less. omega arith) held.entries h.below in
    record {
      below = subst (AllByRecursion (λ e. e.number < next + 1)) (sym is) (all_more (λ e. e.number < next + 1) held.entries e wider (omega arith));
      unready = ready ∙ h.unready;
      there = λ number least most.
          ap (has_stream number) is ∙ list_any-append (λ e. is_entry number e && is_stream e) held.entries (e ∷ [])
          ∙ there_or_last number next held.entries e (nat_lt number next) refl refl (ap not stream) (λ less. h.there number least less) most;
    }

pub on_ok_more : {A E : Type 0} (r : Result A E) (P Q : Type 0) → (P → Q) → OnOk r P → OnOk r Q
on_ok_more (Ok x) P Q f h = f h
on_ok_more (Err e) P Q f h = tt
