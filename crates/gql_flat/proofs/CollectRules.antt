-- How an object is collected.
use Rattle.std.proofs.Common.{◌≡◌, ◌∙◌, ◌<◌, ◌≤◌, ◌+◌, sym, ap, refl, arith, ℕ, suc, Bool, false, if◌then◌else◌, List, [], ◌∷◌, ◌++◌, length, map, drop, take, get_or, ◌-◌, Option, Some}
use Rattle.std.specs.List.{list_any, flat_map}
use Rattle.std.specs.Str.{bytes_eq}
use Rattle.std.proofs.lemmas.List.{map-append, take_all}
use Rattle.gql_canon.proofs.OrderRules.{from_place}
use Rattle.request_model.specs.declared.document.Directive.{Directive}
use Rattle.request_model.specs.declared.document.GPair.{GPair}
use Rattle.request_model.specs.declared.document.Selection.{Selection}
use Rattle.request_model.specs.declared.document.Selection.TheVariants as s
use Rattle.request_model.specs.Strings.{Text}
use Rattle.request_model.specs.Selection.{Scope, Fragment, fragment_named, Selected, Collected, Collecting, in_order, noted, noted_if, with_visited, with_field, response_key, unless_dropped, is_dropped, collect_one, collecting, visiting, spreading}
use Rattle.gql_flat.specs.Collecting.{Frame, frames_of, of_frame, of_stack}
use Rattle.request_model.proofs.SelectionRules.{collect-Field, collect-Spread, collect-Inline}

pub of_field : (scope : Scope) (spread : Text → Collecting) (alias : Option Text) (name : Text) (args : List GPair) (ds : List Directive) (set : List Selection) (c : Collected) →
    collect_one scope spread (s.Field alias name args ds set) c ≡ unless_dropped (is_dropped scope ds) (with_field (record { key = response_key alias name; name = name; args = args; select = set })) c
of_field scope spread alias name args ds set c = collect-Field scope spread alias name args ds set c

pub of_spread : (scope : Scope) (spread : Text → Collecting) (name : Text) (ds : List Directive) (c : Collected) → collect_one scope spread (s.Spread name ds) c ≡ unless_dropped (is_dropped scope ds) (spread name) c
of_spread scope spread name ds c = collect-Spread scope spread name ds c

pub of_inline : (scope : Scope) (spread : Text → Collecting) (on : Option Text) (ds : List Directive) (set : List Selection) (c : Collected) →
    collect_one scope spread (s.Inline on ds set) c ≡ unless_dropped (is_dropped scope ds) (λ b. collecting scope spread set (noted_if on b)) c
of_inline scope spread on ds set c = collect-Inline scope spread on ds set c

-- ---- what waits

pub put_adds : (scope : Scope) (stack : List Frame) (depth : ℕ) (set : List Selection) (c : Collected) → of_stack scope (stack ++ frames_of depth set) c ≡ of_stack scope stack (collecting scope (spreading scope depth) set c)
put_adds scope [] depth [] c = refl
put_adds scope [] depth (x ∷ xs) c = refl
put_adds scope (f ∷ stack) depth set c = ap (of_frame scope f) (put_adds scope stack depth set c)

pub top_adds : (scope : Scope) (stack : List Frame) (f : Frame) (c : Collected) → of_stack scope (stack ++ f ∷ []) c ≡ of_stack scope stack (of_frame scope f c)
top_adds scope [] f c = refl
top_adds scope (g ∷ stack) f c = ap (of_frame scope g) (top_adds scope stack f c)

-- ---- spreads

pub enters : (scope : Scope) (depth less : ℕ) (name : Text) (f : Fragment) (c mid after : Collected) → depth ≡ less + 1 → fragment_named scope.fragments name ≡ Some f → list_any (bytes_eq f.name) c.visited ≡ false →
    mid ≡ noted f.on (with_visited f.name c) → after ≡ collecting scope (spreading scope less) f.select mid → after ≡ spreading scope depth name c
enters scope depth less name f c mid after ed ef ev em ea =
    let next : depth ≡ suc less = omega (arith, ed) in
    ea ∙ ap (collecting scope (spreading scope less) f.select) em
    ∙ sym (ap (λ (b : Bool). if b then c else collecting scope (spreading scope less) f.select (noted f.on (with_visited f.name c))) ev)
    ∙ sym (ap (λ o. visiting scope (collecting scope (spreading scope less)) o c) ef)
    ∙ ap (λ n. spreading scope n name c) (sym next)

pub spread_adds : (scope : Scope) (stack after : List Frame) (depth less : ℕ) (name : Text) (f : Fragment) (set : List Selection) (c mid : Collected) → depth ≡ less + 1 → fragment_named scope.fragments name ≡ Some f →
    list_any (bytes_eq f.name) c.visited ≡ false → mid ≡ noted f.on (with_visited f.name c) → set ≡ f.select → after ≡ stack ++ frames_of less set → of_stack scope after mid ≡ of_stack scope stack (spreading scope depth name c)
spread_adds scope stack after depth less name f set c mid ed ef ev em es ea =
    ap (λ fs. of_stack scope fs mid) ea ∙ put_adds scope stack less set mid
    ∙ ap (of_stack scope stack) (ap (λ xs. collecting scope (spreading scope less) xs mid) es ∙ enters scope depth less name f c mid (collecting scope (spreading scope less) f.select mid) ed ef ev em refl)

-- ---- inline fragments

pub inline_adds : (scope : Scope) (stack after : List Frame) (depth : ℕ) (dropped : Bool) (on : Option Text) (set : List Selection) (c mid : Collected) → dropped ≡ false → mid ≡ noted_if on c → after ≡ stack ++ frames_of depth set →
    of_stack scope after mid ≡ of_stack scope stack (unless_dropped dropped (λ b. collecting scope (spreading scope depth) set (noted_if on b)) c)
inline_adds scope stack after depth dropped on set c mid ed em ea =
    ap (λ fs. of_stack scope fs mid) ea ∙ put_adds scope stack depth set mid ∙ ap (λ m. of_stack scope stack (collecting scope (spreading scope depth) set m)) em
    ∙ sym (ap (λ b. of_stack scope stack (unless_dropped b (λ m. collecting scope (spreading scope depth) set (noted_if on m)) c)) ed)

-- ---- turns

pub parts : (xs : List Selection) (x : Selection) → 1 ≤ length xs → x ≡ get_or xs 0 x → xs ≡ x ∷ take (length xs - 1) (drop 1 xs)
parts [] x le e = absurd (omega (arith, le))
parts (y ∷ ys) x le e = ap (λ z. z ∷ ys) (sym e) ∙ ap (λ zs. x ∷ zs) (sym (take_all (length (y ∷ ys) - 1) ys (omega arith)))

pub turn_adds : (scope : Scope) (stack put after : List Frame) (frame : Frame) (depth : ℕ) (set rest : List Selection) (x : Selection) (c found : Collected) → record { rest = set; depth = depth } ≡ frame → set ≡ x ∷ rest →
    put ≡ stack ++ frames_of depth rest → of_stack scope after found ≡ of_stack scope put (collect_one scope (spreading scope depth) x c) → of_stack scope after found ≡ of_stack scope stack (of_frame scope frame c)
turn_adds scope stack put after frame depth set rest x c found ev es ep h =
    h ∙ ap (λ fs. of_stack scope fs (collect_one scope (spreading scope depth) x c)) ep ∙ put_adds scope stack depth rest (collect_one scope (spreading scope depth) x c)
    ∙ ap (λ xs. of_stack scope stack (collecting scope (spreading scope depth) xs c)) (sym es) ∙ ap (λ f. of_stack scope stack (of_frame scope f c)) ev

pub pop_adds : (scope : Scope) (stack rest after : List Frame) (frame : Frame) (c found whole : Collected) → stack ≡ rest ++ frame ∷ [] → of_stack scope after found ≡ of_stack scope rest (of_frame scope frame c) →
    of_stack scope stack c ≡ whole → of_stack scope after found ≡ whole
pop_adds scope stack rest after frame c found whole es h before = h ∙ sym (top_adds scope rest frame c) ∙ sym (ap (λ fs. of_stack scope fs c) es) ∙ before

pub nothing_waits : (scope : Scope) (stack : List Frame) (c whole : Collected) → length stack ≡ 0 → of_stack scope stack c ≡ whole → c ≡ whole
nothing_waits scope [] c whole none h = h
nothing_waits scope (f ∷ stack) c whole none h = absurd (omega (arith, none))

-- ---- sets side by side

after_all : (fs gs : List Collecting) (c : Collected) → in_order (fs ++ gs) c ≡ in_order gs (in_order fs c)
after_all [] gs c = refl
after_all (f ∷ fs) gs c = after_all fs gs (f c)

pub collecting_both : (scope : Scope) (spread : Text → Collecting) (xs ys : List Selection) (c : Collected) → collecting scope spread (xs ++ ys) c ≡ collecting scope spread ys (collecting scope spread xs c)
collecting_both scope spread xs ys c = ap (λ fs. in_order fs c) (map-append (collect_one scope spread) xs ys) ∙ after_all (map (collect_one scope spread) xs) (map (collect_one scope spread) ys) c

pub field_more : (scope : Scope) (spread : Text → Collecting) (fields : List Selected) (i : ℕ) (f : Selected) (c after whole : Collected) → i < length fields → f ≡ get_or fields i f →
    after ≡ collecting scope spread f.select c → collecting scope spread (flat_map (λ (g : Selected). g.select) (drop i fields)) c ≡ whole →
    collecting scope spread (flat_map (λ (g : Selected). g.select) (drop (i + 1) fields)) after ≡ whole
field_more scope spread fields i f c after whole lt e ea h =
    let rest = flat_map (λ (g : Selected). g.select) (drop (i + 1) fields) in
    ap (collecting scope spread rest) ea ∙ sym (collecting_both scope spread f.select rest c)
    ∙ ap (λ zs. collecting scope spread (flat_map (λ (g : Selected). g.select) zs) c) (sym (from_place fields i (i + 1) f lt refl e)) ∙ h
