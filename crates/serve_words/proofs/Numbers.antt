use Rattle.std.proofs.Common.{◌≡◌, ℕ, ◌<◌, List, Some, Result, Ok, arith}
use Rattle.std.proofs.lemmas.Fmt.{parse-decimal}
use Rattle.std.specs.Fmt.{decimal}
use Rattle.std.specs.Str.Parse.{ParsesUnsigned}

pub some_is : {A : Type 0} (x y : A) → Some x ≡ Some y → x ≡ y
some_is x y h = cc

pub ok_is : {A E : Type 0} (x y : A) → ◌≡◌ {A = Result A E} (Ok x) (Ok y) → x ≡ y
ok_is x y h = cc

-- a number in decimal is parsed as that number
pub parsed : {E : Type 0} (n : ℕ) (bs : List ℕ) (r : Result ℕ E) → n < 65536 → bs ≡ decimal n →
    ParsesUnsigned 16 10 bs r → r ≡ Ok n
parsed n bs r h e p = parse-decimal 16 n bs r h (omega arith) e p
