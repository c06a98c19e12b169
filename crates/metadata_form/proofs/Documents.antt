-- The TOML document of a text.
use Rattle.std.proofs.Common.{◌≡◌, ℕ, List, Bool, true, false, Some, None, if◌then◌else◌, IsTrue, ◌↔◌, refl}
use Rattle.std.specs.Str.{IsUtf8, is_utf8}
use Rattle.std.proofs.lemmas.Str.{IsUtf8-from_is_utf8, is_utf8-from_IsUtf8}
use Rattle.toml.specs.Data.{Members}
use Rattle.toml.specs.Parse.{parse_document}
use Rattle.role_model.specs.MetadataMeaning.{toml_of}

pub toml_of-some : (text : List ℕ) (ms : Members) → IsUtf8 text → parse_document text ≡ Some ms → toml_of text ≡ Some ms
toml_of-some text ms h e = rw (is_utf8-from_IsUtf8 text h) e

none_by : (text : List ℕ) (b : Bool) → is_utf8 text ≡ b → (IsUtf8 text → parse_document text ≡ None) → (if b then parse_document text else None) ≡ None
none_by text true h e = e (IsUtf8-from_is_utf8 text h)
none_by text false h e = refl

pub toml_of-none : (text : List ℕ) → (IsUtf8 text → parse_document text ≡ None) → toml_of text ≡ None
toml_of-none text e = none_by text (is_utf8 text) refl e

not_said : (b : Bool) (M : Type 0) → b ≡ false → IsTrue b ↔ M → ¬ M
not_said true M h told m = cc
not_said false M h told m = let back = told.1 m in cc

-- no document, since the fault isn't want of memory
pub toml_of-refused : (text : List ℕ) (b : Bool) (M : Type 0) → b ≡ false → IsTrue b ↔ M → (¬ M → IsUtf8 text → parse_document text ≡ None) → toml_of text ≡ None
toml_of-refused text b M h told refused = toml_of-none text (refused (not_said b M h told))
