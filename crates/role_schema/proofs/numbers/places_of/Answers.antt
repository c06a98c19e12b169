use Rattle.std.proofs.Common.{refl}
use Rattle.role_schema.proofs.NumberPlaces.{one_more}
use Rattle.role_schema.proofs.numbers.places_of.Goals as goal

pub loop-place-preserved : goal.loop-place-preserved
loop-place-preserved c =
    one_more c.args.numbers.now c.loop-place.place _ c.loop-place.places c.learn.new.places c.loop-place-test.true refl
    c.loop-place.invariant c.in_ok-learn.ensures
