use Rattle.std.proofs.Common.{◌≡◌, true, false, Ok, sym, ap, ◌∙◌}
use Rattle.std.proofs.lemmas.Slice.Eq.{bytes_eq-Decides}
use Rattle.std.specs.Fmt.{decimal}
use Rattle.serve_words.proofs.Numbers.{parsed, ok_is}
use Rattle.serve_words.proofs.number.read_decimal.Goals as goal

pub returns-else-eq : goal.returns-else-eq
returns-else-eq c = λ n small same.
    let p : c.parse.result ≡ Ok n = parsed n c.args.text.now c.parse.result small same c.parse.ensures.value.0 in
    let m : c.in-Ok.number ≡ n = ok_is c.in-Ok.number n (sym c.in-Ok.is ∙ p) in
    let t : c.args.text.now ≡ c.format.result.now = same ∙ sym (ap decimal m) ∙ sym c.format.ensures.text in
    let y : c.eq.result ≡ true = c.eq.ensures ∙ (bytes_eq-Decides c.args.text.now c.format.result.now).1 t in
    let bad : true ≡ false = sym y ∙ c.if-eq.false in
    cc
