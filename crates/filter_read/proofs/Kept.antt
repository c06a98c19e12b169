-- Lists of texts to which others are only added.
use Rattle.std.proofs.Common.{◌≡◌, Bool, true, false, List, [], ◌∷◌, ◌++◌, if◌then◌else◌, refl, sym, ap, ◌∙◌}
use Rattle.std.proofs.Common.{append_assoc}
use Rattle.std.specs.List.{fold, list_any}
use Rattle.std.specs.Str.{bytes_eq}
use Rattle.std.proofs.lemmas.List.{append-nil}
use Rattle.role_model.specs.JsonFilters.{with_text}
use Rattle.role_model.specs.Texts.{Text}
use Rattle.filter_read.specs.Kept.{StillBegins}

pub unchanged : (before now : List Text) → now ≡ before → StillBegins before now
unchanged before now e = ([], e ∙ sym (append-nil before))

pub further : (a b c : List Text) → StillBegins a b → StillBegins b c → StillBegins a c
further a b c x y = (x.0 ++ y.0, y.1 ∙ ap (λ z. z ++ y.0) x.1 ∙ append_assoc a x.0 y.0)

with_one : (before : List Text) (text : Text) (b : Bool)
    → StillBegins before (if b then before else before ++ text ∷ [])
with_one before text true = unchanged before before refl
with_one before text false = (text ∷ [], refl)

pub with_all : (before texts : List Text) → StillBegins before (fold with_text before texts)
with_all before [] = unchanged before before refl
with_all before (text ∷ texts) =
    further before (with_text before text) (fold with_text before (text ∷ texts))
    (with_one before text (list_any (bytes_eq text) before))
    (with_all (with_text before text) texts)
