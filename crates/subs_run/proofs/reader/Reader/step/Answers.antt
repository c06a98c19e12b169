use Rattle.std.proofs.Common.{◌≡◌, ◌∷◌, [], ◌++◌, ap, refl, subst, sym, arith, rules, ℕ, List}
use Rattle.machine.specs.Script.{Ran}
use Rattle.subs_run.specs.Runs.{ran}
use Rattle.subs_run.specs.Standing.{AreRead, HasRun, FedAs}
use Rattle.subs_run.proofs.Readers.{byte_after, byte_text, end_after, end_text, end_fault, fault_within, taken_within, front_so_far}
use Rattle.subs_run.proofs.Written.{on_same, on_all, on_front, front_all, failed_not_done, no_memory_not_done}
use Rattle.subs_run.proofs.reader.Reader.step.Goals as goal

pub returns-in-Ok-clause-fed : goal.returns-in-Ok-clause-fed
returns-in-Ok-clause-fed g c seen r =
    byte_after c.args.self.now _ seen c.args.byte c.if-byte-ne10.true r refl refl (search rules)

pub returns-in-Ok-clause-all : goal.returns-in-Ok-clause-all
returns-in-Ok-clause-all g c meant seen r says = on_same _ _ _ (byte_text meant seen c.args.byte c.if-byte-ne10.true)

pub returns-in-Err-clause-all : goal.returns-in-Err-clause-all
returns-in-Err-clause-all g c meant seen r says =
    front_all _ _ _ _ (on_same _ _ _ (byte_text meant seen c.args.byte c.if-byte-ne10.true))

pub take_line-requires-clause-stands : goal.take_line-requires-clause-stands
take_line-requires-clause-stands g c = c.requires.ran.keeps.stands

pub take_line-requires-clause-few : goal.take_line-requires-clause-few
take_line-requires-clause-few g c =
    omega (arith, taken_within c.args.self.now c.requires.seen c.requires.ran, c.requires.within)

pub returns-in-Faulty-clause-fed : goal.returns-in-Faulty-clause-fed
returns-in-Faulty-clause-fed g c seen r =
    let e : c.args.byte ≡ 10 = c.if-byte-ne10.false in
    let after = c.take_line.new.self in
    rw e (
      λ meant says. (end_fault meant c.args.self.now after seen c.in-Faulty.reason r c.in-Faulty.ensures.went
          c.in-Faulty.ensures.counts says).standing,
      fault_within c.args.self.now after seen r c.in-Faulty.ensures.counts,
    )

pub returns-in-Faulty-clause-all : goal.returns-in-Faulty-clause-all
returns-in-Faulty-clause-all g c meant seen r says =
    let e : c.args.byte ≡ 10 = c.if-byte-ne10.false in
    let own : AreRead meant (seen ++ 10 ∷ []) = subst (λ (b : ℕ). AreRead meant (seen ++ b ∷ [])) e says in
    let same = (end_fault meant c.args.self.now c.take_line.new.self seen c.in-Faulty.reason r c.in-Faulty.ensures.went
    c.in-Faulty.ensures.counts own).text in
    on_same _ _ _ (rw e same)

pub returns-in-NoMemory-clause-all : goal.returns-in-NoMemory-clause-all
returns-in-NoMemory-clause-all g c meant seen r says = front_so_far meant _ seen (c.args.byte ∷ [])

pub returns-in-Done-clause-fed : goal.returns-in-Done-clause-fed
returns-in-Done-clause-fed g c seen r =
    let e : c.args.byte ≡ 10 = c.if-byte-ne10.false in
    rw e (end_after c.args.self.now c.take_line.new.self seen r c.in-Went.ensures.went c.in-Went.ensures.counts)

pub returns-in-Done-clause-all : goal.returns-in-Done-clause-all
returns-in-Done-clause-all g c meant seen r says =
    let e : c.args.byte ≡ 10 = c.if-byte-ne10.false in
    let own : AreRead meant (seen ++ 10 ∷ []) = subst (λ (b : ℕ). AreRead meant (seen ++ b ∷ [])) e says in
    let text = end_text meant c.args.self.now c.take_line.new.self seen r c.in-Went.ensures.went own in
    on_all _ _ _ _ c.take_line.new.self.out.items (rw c.deref.ensures.value at (c.in-Done.ensures.done refl))
    (rw e text)

pub returns-in-Failed-clause-all : goal.returns-in-Failed-clause-all
returns-in-Failed-clause-all g c meant seen r says =
    let e : c.args.byte ≡ 10 = c.if-byte-ne10.false in
    let own : AreRead meant (seen ++ 10 ∷ []) = subst (λ (b : ℕ). AreRead meant (seen ++ b ∷ [])) e says in
    let text = end_text meant c.args.self.now c.take_line.new.self seen r c.in-Went.ensures.went own in
    on_front _ _ _ _ c.take_line.new.self.out.items
    (rw c.deref.ensures.value at (c.in-Failed.ensures.front failed_not_done))
    (rw e text)

pub returns-in-NoMemory-write_all-clause-all : goal.returns-in-NoMemory-write_all-clause-all
returns-in-NoMemory-write_all-clause-all g c meant seen r says =
    let e : c.args.byte ≡ 10 = c.if-byte-ne10.false in
    let own : AreRead meant (seen ++ 10 ∷ []) = subst (λ (b : ℕ). AreRead meant (seen ++ b ∷ [])) e says in
    let text = end_text meant c.args.self.now c.take_line.new.self seen r c.in-Went.ensures.went own in
    on_front _ _ _ _ c.take_line.new.self.out.items
    (rw c.deref.ensures.value at (c.in-NoMemory-write_all.ensures.front no_memory_not_done)) (rw e text)
