-- A stack weighs less with each turn.
use Rattle.std.proofs.Common.{◌≡◌, ◌∙◌, ◌<◌, ◌≤◌, ◌+◌, sym, ap, arith, subst, ℕ, suc, List, [], ◌∷◌, ◌++◌, Option, Some}
use Rattle.std.proofs.lemmas.List.{append-nil}
use Rattle.request_model.specs.declared.document.Directive.{Directive}
use Rattle.request_model.specs.declared.document.GPair.{GPair}
use Rattle.request_model.specs.declared.document.Selection.{Selection}
use Rattle.request_model.specs.declared.document.Selection.TheVariants as s
use Rattle.request_model.specs.declared.document.Selection.TheVariants.{rolls-Field, rolls-Spread, rolls-Inline}
use Rattle.request_model.specs.declared.document.Selection.TheFolds.{fold-roll-Selection}
use Rattle.request_model.specs.Strings.{Text}
use Rattle.request_model.specs.Selection.{Fragment, fragment_named}
use Rattle.gql_flat.specs.Collecting.{Frame, frames_of, weight_step, weight_one, weight_all, weight_inside, spread_weight, frame_weight, stack_weight}

pub of_field : (spread : Text → ℕ) (alias : Option Text) (name : Text) (args : List GPair) (ds : List Directive) (set : List Selection) → weight_one spread (s.Field alias name args ds set) ≡ 1
of_field spread alias name args ds set = ap (weight_one spread) (sym (rolls-Field alias name args ds set)) ∙ fold-roll-Selection ℕ (weight_step spread) _

pub of_spread : (spread : Text → ℕ) (name : Text) (ds : List Directive) → weight_one spread (s.Spread name ds) ≡ spread name
of_spread spread name ds = ap (weight_one spread) (sym (rolls-Spread name ds)) ∙ fold-roll-Selection ℕ (weight_step spread) _

pub of_inline : (spread : Text → ℕ) (on : Option Text) (ds : List Directive) (set : List Selection) → weight_one spread (s.Inline on ds set) ≡ 2 + weight_all spread set
of_inline spread on ds set = ap (weight_one spread) (sym (rolls-Inline on ds set)) ∙ fold-roll-Selection ℕ (weight_step spread) _

module _ (fs : List Fragment) where
  one_more : (stack : List Frame) (f : Frame) → stack_weight fs (stack ++ f ∷ []) ≡ stack_weight fs stack + frame_weight fs f
  one_more [] f = omega arith
  one_more (g ∷ stack) f = omega (arith, one_more stack f)

  nothing_more : (after stack : List Frame) → after ≡ stack → stack_weight fs after ≤ stack_weight fs stack + 1
  nothing_more after stack e = let same : stack_weight fs after ≡ stack_weight fs stack = ap (stack_weight fs) e in omega (arith, same)

  put_weight : (stack : List Frame) (depth : ℕ) (set : List Selection) → stack_weight fs (stack ++ frames_of depth set) ≤ stack_weight fs stack + (1 + weight_all (spread_weight fs depth) set)
  put_weight stack depth [] = nothing_more (stack ++ []) stack (append-nil stack)
  put_weight stack depth (x ∷ xs) = omega (arith, one_more stack (record { rest = x ∷ xs; depth = depth }))

  entered : (depth less : ℕ) (name : Text) (f : Fragment) → depth ≡ less + 1 → fragment_named fs name ≡ Some f → spread_weight fs depth name ≡ 2 + weight_all (spread_weight fs less) f.select
  entered depth less name f ed ef =
      let next : depth ≡ suc less = omega (arith, ed) in
      ap (λ n. spread_weight fs n name) next ∙ ap (weight_inside (weight_all (spread_weight fs less))) ef

  put_below : (stack after : List Frame) (depth : ℕ) (set : List Selection) → after ≡ stack ++ frames_of depth set → stack_weight fs after ≤ stack_weight fs stack + (1 + weight_all (spread_weight fs depth) set)
  put_below stack after depth set e = subst (λ x. stack_weight fs x ≤ stack_weight fs stack + (1 + weight_all (spread_weight fs depth) set)) (sym e) (put_weight stack depth set)

  pub inline_falls : (stack after : List Frame) (depth : ℕ) (set : List Selection) → after ≡ stack ++ frames_of depth set → stack_weight fs after < stack_weight fs stack + (2 + weight_all (spread_weight fs depth) set)
  inline_falls stack after depth set e = omega (arith, put_below stack after depth set e)

  pub spread_falls : (stack after : List Frame) (depth less : ℕ) (name : Text) (f : Fragment) (set : List Selection) → depth ≡ less + 1 → fragment_named fs name ≡ Some f → set ≡ f.select → after ≡ stack ++ frames_of less set →
      stack_weight fs after < stack_weight fs stack + spread_weight fs depth name
  spread_falls stack after depth less name f set ed ef es ea =
      let inside : spread_weight fs depth name ≡ 2 + weight_all (spread_weight fs less) set = entered depth less name f ed ef ∙ ap (λ xs. 2 + weight_all (spread_weight fs less) xs) (sym es) in
      omega (arith, put_below stack after less set ea, inside)

  pub turn_falls : (stack put after : List Frame) (frame : Frame) (depth : ℕ) (set rest : List Selection) (x : Selection) → record { rest = set; depth = depth } ≡ frame → set ≡ x ∷ rest → put ≡ stack ++ frames_of depth rest →
      stack_weight fs after < stack_weight fs put + weight_one (spread_weight fs depth) x → stack_weight fs after < stack_weight fs stack + frame_weight fs frame
  turn_falls stack put after frame depth set rest x ev es ep h =
      let whole : frame_weight fs frame ≡ 1 + (weight_one (spread_weight fs depth) x + weight_all (spread_weight fs depth) rest) =
      ap (frame_weight fs) (sym ev) ∙ ap (λ xs. 1 + weight_all (spread_weight fs depth) xs) es in
      omega (arith, h, put_below stack put depth rest ep, whole)

  pub pop_falls : (stack rest after : List Frame) (frame : Frame) → stack ≡ rest ++ frame ∷ [] → stack_weight fs after < stack_weight fs rest + frame_weight fs frame → stack_weight fs after < stack_weight fs stack
  pop_falls stack rest after frame e h =
      let whole : stack_weight fs stack ≡ stack_weight fs rest + frame_weight fs frame = ap (stack_weight fs) e ∙ one_more rest frame in
      omega (arith, h, whole)
