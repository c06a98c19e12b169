-- One more move, and that the moves are those of streams.
use Rattle.std.proofs.Common.{◌≡◌, ℕ, ◌<◌, ◌≤◌, ◌+◌, Bool, true, false, ◌==◌, List, [], ◌∷◌, ◌++◌, refl, sym, subst, arith}
use Rattle.std.specs.List.{AllByRecursion}
use Rattle.std.proofs.lemmas.Bool.{eqb-true}
use Rattle.cohort_map.specs.Entries.{Held}
use Rattle.cohort_map.proofs.Alls.{all_more, all_weaker}
use Rattle.stream_cursor.specs.declared.moves.Move.{Move}
use Rattle.stream_cursor.specs.Example.{HasStreams}
use Rattle.stream_cursor.specs.Moves.{names, IsStream, AreStreams, AreApart}
use Rattle.bench_cohorts.specs.Numbered.{IsWithin, AreNumbered}

differs : (a b : ℕ) (same : Bool) → (a == b) ≡ same → a < b → (a == b) ≡ false
differs a b true is less = let equal = eqb-true a b is in absurd (omega arith)
differs a b false is less = is

apart_more : (moves : List Move) (m : Move) → AllByRecursion (λ other. names other.sub m ≡ false) moves → AreApart moves → AreApart (moves ++ m ∷ [])
apart_more [] m other apart = (tt, tt)
apart_more (x ∷ moves) m other apart = (all_more (λ other. names x.sub other ≡ false) moves m apart.0 other.0, apart_more moves m other.1 apart.1)

pub one_more : (next : ℕ) (moves : List Move) (m : Move) → 1 ≤ next → m.sub ≡ next → AreNumbered next moves → AreNumbered (next + 1) (moves ++ m ∷ [])
one_more next moves m least named before = record {
  within = all_more (IsWithin (next + 1)) moves m (all_weaker (IsWithin next) (IsWithin (next + 1)) (λ x within. record { least = within.least; most = omega arith }) moves before.within)
      (record { least = omega arith; most = omega arith });
  apart = apart_more moves m (all_weaker (IsWithin next) (λ other. names other.sub m ≡ false) (λ x within. differs x.sub m.sub (x.sub == m.sub) refl (omega arith)) moves before.within) before.apart;
}

pub are_streams : (next : ℕ) (held : Held) (moves : List Move) → HasStreams next held → AreNumbered next moves → AreStreams moves held.entries
are_streams next held moves streams numbered =
    all_weaker (IsWithin next) (IsStream held.entries) (λ m within. streams.there m.sub within.least within.most) moves numbered.within
