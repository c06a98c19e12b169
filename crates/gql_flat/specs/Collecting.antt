-- Selections that wait to be collected, what they add, and a number that falls while they are collected.
use Rattle.std.specs.Prelude.{◌≡◌, ℕ, zero, suc, ◌+◌, ◌<◌, List, [], ◌∷◌, map, Option, Some, None}
use Rattle.request_model.specs.declared.document.Directive.{Directive}
use Rattle.request_model.specs.declared.document.Selection.{Selection}
use Rattle.request_model.specs.declared.document.Selection.TheOpen.{Selection-F}
use Rattle.request_model.specs.declared.document.Selection.TheFolds.{fold-Selection}
use Rattle.request_model.specs.Strings.{Text}
use Rattle.request_model.specs.Selection.{
  Scope,
  Fragment,
  fragment_named,
  Group,
  Collected,
  Collecting,
  collecting,
  spreading,
  noted_if,
  unless_dropped,
  is_dropped,
  sum_of,
}

abbrev pub keys_of : List Group → List Text
keys_of gs = map (λ (g : Group). g.first.key) gs

-- selections that wait, in which spreads nest at most so deep
pub record Frame : Type 0 where
  pub rest : List Selection
  pub depth : ℕ

-- no frame waits for nothing
abbrev pub frames_of : ℕ → List Selection → List Frame
frames_of depth [] = []
frames_of depth (x ∷ xs) = record { rest = x ∷ xs; depth = depth } ∷ []

module _ (s : Scope) where
  abbrev pub of_frame : Frame → Collecting
  of_frame f = collecting s (spreading s f.depth) f.rest

  -- the last frame comes first
  abbrev pub of_stack : List Frame → Collecting
  of_stack [] c = c
  of_stack (f ∷ fs) c = of_frame f (of_stack fs c)

  -- what is collected and what waits after a step add together what the step adds, and then what waited before it
  abbrev pub Adds : Collecting → List Frame → Collected → List Frame → Collected → Type 0
  Adds step before c after found = of_stack after found ≡ of_stack before (step c)

  abbrev pub unless : List Directive → Collecting → Collecting
  unless ds = unless_dropped (is_dropped s ds)

  -- what an inline fragment adds
  abbrev pub entered : ℕ → Option Text → List Selection → Collecting
  entered depth on set c = collecting s (spreading s depth) set (noted_if on c)

-- ---- an upper bound of the turns that collecting takes

abbrev pub weight_step : (Text → ℕ) → Selection-F ℕ → ℕ
weight_step spread (Selection-F.Field alias name args ds inner) = 1
weight_step spread (Selection-F.Spread name ds) = spread name
weight_step spread (Selection-F.Inline on ds inner) = 2 + sum_of inner

abbrev pub weight_one : (Text → ℕ) → Selection → ℕ
weight_one spread = fold-Selection ℕ (weight_step spread)

abbrev pub weight_all : (Text → ℕ) → List Selection → ℕ
weight_all spread set = sum_of (map (weight_one spread) set)

abbrev pub weight_inside : (List Selection → ℕ) → Option Fragment → ℕ
weight_inside inner None = 1
weight_inside inner (Some f) = 2 + inner f.select

abbrev pub spread_weight : List Fragment → ℕ → Text → ℕ
spread_weight fs zero name = 1
spread_weight fs (suc depth) name = weight_inside (weight_all (spread_weight fs depth)) (fragment_named fs name)

abbrev pub frame_weight : List Fragment → Frame → ℕ
frame_weight fs f = 1 + weight_all (spread_weight fs f.depth) f.rest

abbrev pub stack_weight : List Fragment → List Frame → ℕ
stack_weight fs stack = sum_of (map (frame_weight fs) stack)

-- the stack weighs less than before with so much more
abbrev pub Falls : List Fragment → ℕ → List Frame → List Frame → Type 0
Falls fs more before after = stack_weight fs after < stack_weight fs before + more
