-- Lists of which only some items are seen, each as another.
use Rattle.std.proofs.Common.{◌≡◌, Bool, true, false, List, [], ◌∷◌, map, Option, Some, None, refl, sym, ap, cond, ◌||◌}
use Rattle.std.specs.List.{AllByRecursion, filter_map, cons_option, list_any, find, filter}

-- what f makes of a value, if there is one
abbrev pub onto : {Y Z : Type 0} → Option Y → (Y → Option Z) → Option Z
onto None f = None
onto (Some y) f = f y

abbrev pub passes : {Y : Type 0} → (Y → Bool) → Option Y → Bool
passes t None = false
passes t (Some y) = t y

pub over_cons : {Y Z : Type 0} (o : Option Y) (f : Y → Option Z) (ys : List Y) → cons_option (onto o f) (filter_map f ys) ≡ filter_map f (cons_option o ys)
over_cons None f ys = refl
over_cons (Some y) f ys = refl

-- what is seen after a change of each item is the change of what was seen
pub seen_over : {X Y : Type 0} (P : X → Type 0) (see : X → Option Y) (g : X → X) (f : Y → Option Y) → ((x : X) → P x → see (g x) ≡ onto (see x) f) → (xs : List X) → AllByRecursion P xs → filter_map see (map g xs) ≡ filter_map f (filter_map see xs)
seen_over P see g f h [] all = refl
seen_over P see g f h (x ∷ xs) all =
    rw (h x all.0, seen_over P see g f h xs all.1) (over_cons (see x) f (filter_map see xs))

pub some_map : {Y Z : Type 0} (h : Y → Z) (ys : List Y) → filter_map (λ y. Some (h y)) ys ≡ map h ys
some_map h [] = refl
some_map h (y ∷ ys) = ap (λ zs. h y ∷ zs) (some_map h ys)

any_cons : {Y : Type 0} (t : Y → Bool) (o : Option Y) (ys : List Y) → list_any t (cons_option o ys) ≡ (passes t o || list_any t ys)
any_cons t None ys = refl
any_cons t (Some y) ys = refl

pub any_seen : {X Y : Type 0} (P : X → Type 0) (see : X → Option Y) (u : X → Bool) (t : Y → Bool) → ((x : X) → P x → u x ≡ passes t (see x)) → (xs : List X) → AllByRecursion P xs → list_any u xs ≡ list_any t (filter_map see xs)
any_seen P see u t h [] all = refl
any_seen P see u t h (x ∷ xs) all =
    rw (h x all.0, any_seen P see u t h xs all.1) (sym (any_cons t (see x) (filter_map see xs)))

find_cons : {X Y : Type 0} (t : Y → Bool) (see : X → Option Y) (x : X) (xs : List X) (u : X → Bool) (o : Option Y) (b : Bool) → see x ≡ o → u x ≡ b → b ≡ passes t o → find t (filter_map see xs) ≡ onto (find u xs) see → find t (cons_option o (filter_map see xs)) ≡ onto (cond b (Some x) (find u xs)) see
find_cons t see x xs u None true is test both rest = cc
find_cons t see x xs u None false is test both rest = rest
find_cons t see x xs u (Some y) true is test both rest = rw (sym both) (sym is)
find_cons t see x xs u (Some y) false is test both rest = rw (sym both) rest

pub find_seen : {X Y : Type 0} (P : X → Type 0) (see : X → Option Y) (u : X → Bool) (t : Y → Bool) → ((x : X) → P x → u x ≡ passes t (see x)) → (xs : List X) → AllByRecursion P xs → find t (filter_map see xs) ≡ onto (find u xs) see
find_seen P see u t h [] all = refl
find_seen P see u t h (x ∷ xs) all =
    find_cons t see x xs u (see x) (u x) refl refl (h x all.0) (find_seen P see u t h xs all.1)

filter_cons : {X Y : Type 0} (t : Y → Bool) (see : X → Option Y) (x : X) (xs : List X) (u : X → Bool) (o : Option Y) (b : Bool) → see x ≡ o → b ≡ passes t o → filter t (filter_map see xs) ≡ filter_map see (filter u xs) → filter t (cons_option o (filter_map see xs)) ≡ filter_map see (cond b (x ∷ filter u xs) (filter u xs))
filter_cons t see x xs u None true is both rest = cc
filter_cons t see x xs u None false is both rest = rest
filter_cons t see x xs u (Some y) true is both rest = rw (sym both, is, rest) refl
filter_cons t see x xs u (Some y) false is both rest = rw (sym both) rest

pub filter_seen : {X Y : Type 0} (P : X → Type 0) (see : X → Option Y) (u : X → Bool) (t : Y → Bool) → ((x : X) → P x → u x ≡ passes t (see x)) → (xs : List X) → AllByRecursion P xs → filter t (filter_map see xs) ≡ filter_map see (filter u xs)
filter_seen P see u t h [] all = refl
filter_seen P see u t h (x ∷ xs) all =
    filter_cons t see x xs u (see x) (u x) refl (h x all.0) (filter_seen P see u t h xs all.1)
