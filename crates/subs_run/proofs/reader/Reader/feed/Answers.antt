use Rattle.std.proofs.Common.{◌+◌, ◌-◌, sym, subst, arith, ℕ, List, [], ◌∷◌, ◌++◌, get_or, take, drop, length}
use Rattle.machine.specs.Messages.{Message}
use Rattle.subs_run.specs.Runs.{ran}
use Rattle.subs_run.specs.Written.{WritesOn}
use Rattle.subs_run.specs.Standing.{AreRead, HasRun, HasRoom, FedAs, FedAll}
use Rattle.subs_run.proofs.Rans.{read-front}
use Rattle.subs_run.proofs.Feeds.{fed_longer, all_longer, all_then, next_byte, rest_of_piece, room_after, room_of}
use Rattle.subs_run.proofs.Written.{on_then}
use Rattle.subs_run.proofs.reader.Reader.feed.Goals as goal

pub loop-byte-preserved : goal.loop-byte-preserved
loop-byte-preserved g c =
    let i : ℕ = c.loop-byte.byte-index in
    let piece : List ℕ = c.args.piece.now in
    let byte : ℕ = get_or piece i 0 in
    let inv = c.loop-byte.invariant in
    let room : HasRoom c.loop-byte.self ((length piece - (i + 1)) + 1) =
    room_of c.loop-byte.self (length piece - i) ((length piece - (i + 1)) + 1) (omega arith) inv.room in
    record {
      room = room_after c.loop-byte.self c.step.new.self byte (length piece - (i + 1)) room
          (c.in-Done.ensures.fed room.seen room.ran);
      after = λ seen r. subst (HasRun c.step.new.self) (sym (next_byte seen piece i (omega arith)))
          (c.in-Done.ensures.fed (seen ++ take i piece) (inv.after seen r));
      written = λ meant seen r says.
          let front : List ℕ = seen ++ take i piece in
          let whole : AreRead meant (front ++ byte ∷ []) =
          subst (AreRead meant) (next_byte seen piece i (omega arith)) says in
          subst (λ (xs : List ℕ). WritesOn (g.K.Sink.written c.args.sink.now) (g.K.Sink.written c.step.new.sink)
          (ran meant seen).text (ran meant xs).text) (sym (next_byte seen piece i (omega arith)))
          (on_then (g.K.Sink.written c.args.sink.now) (g.K.Sink.written c.loop-byte.sink)
          (g.K.Sink.written c.step.new.sink) (ran meant seen).text (ran meant front).text
          (ran meant (front ++ byte ∷ [])).text (inv.written meant seen r (read-front meant front (byte ∷ []) whole))
          (c.in-Done.ensures.all meant front (inv.after seen r) whole));
      later = omega (arith, c.in-Done.ensures.later);
      steady = λ s. (c.in-Done.ensures.steady (inv.steady s)).0;
    }

pub returns-in_default : goal.returns-in_default
returns-in_default g c =
    let i : ℕ = c.loop-byte.byte-index in
    let piece : List ℕ = c.args.piece.now in
    let byte : ℕ = get_or piece i 0 in
    let inv = c.loop-byte.invariant in
    record {
      fed = λ seen r. subst (FedAs c.step.result c.step.new.self) (sym (rest_of_piece seen piece i (omega arith)))
          (fed_longer c.step.result c.step.new.self ((seen ++ take i piece) ++ byte ∷ [])
          (drop (i + 1) piece) c.in_default.not-Done (c.step.ensures.fed (seen ++ take i piece) (inv.after seen r)));
      all = λ meant seen r says.
          let front : List ℕ = seen ++ take i piece in
          let whole : AreRead meant ((front ++ byte ∷ []) ++ drop (i + 1) piece) =
          subst (AreRead meant) (rest_of_piece seen piece i (omega arith)) says in
          let next : AreRead meant (front ++ byte ∷ []) =
          read-front meant (front ++ byte ∷ []) (drop (i + 1) piece) whole in
          subst (λ (xs : List ℕ). FedAll c.step.result (g.K.Sink.written c.args.sink.now)
          (g.K.Sink.written c.step.new.sink) (ran meant seen).text (ran meant xs).text)
          (sym (rest_of_piece seen piece i (omega arith)))
          (all_longer meant c.step.result c.step.new.self (g.K.Sink.written c.args.sink.now)
          (g.K.Sink.written c.step.new.sink) (ran meant seen).text (front ++ byte ∷ [])
          (drop (i + 1) piece) c.in_default.not-Done (c.step.ensures.fed front (inv.after seen r)) whole
          (all_then c.step.result (g.K.Sink.written c.args.sink.now) (g.K.Sink.written c.loop-byte.sink)
          (g.K.Sink.written c.step.new.sink) (ran meant seen).text (ran meant front).text
          (ran meant (front ++ byte ∷ [])).text (inv.written meant seen r (read-front meant front (byte ∷ []) next))
          (c.step.ensures.all meant front (inv.after seen r) next)));
      later = omega (arith, c.step.ensures.later);
      failed = λ e. omega (arith, c.step.ensures.failed e, inv.later);
      steady = λ s. c.step.ensures.steady (inv.steady s);
    }
