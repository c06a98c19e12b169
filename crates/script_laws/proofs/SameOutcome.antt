-- Runs that give the texts in them the same meanings are the same.
use Rattle.std.proofs.Common.{
  ◌≡◌,
  ◌∙◌,
  ap,
  refl,
  subst,
  ℕ,
  ◌+◌,
  Bool,
  true,
  false,
  if◌then◌else◌,
  Option,
  Some,
  None,
  List,
  [],
  ◌∷◌,
  ◌++◌,
}
use Rattle.std.specs.Prelude.{nat_lt, length, take}
use Rattle.std.specs.List.{AllByRecursion}
use Rattle.data_model.proofs.Lists.{out_parts}
use Rattle.role_model.specs.declared.metadata.Metadata.{Metadata}
use Rattle.machine.specs.declared.script.ScriptReason.TheVariants.{Unknown}
use Rattle.machine.specs.Messages.{Message, Says}
use Rattle.machine.specs.State.{State}
use Rattle.machine.specs.State as event
use Rattle.machine.specs.Lines.{Line, Lines, Receive, lines, read_line}
use Rattle.machine.specs.Script.{
  Reading,
  Heading,
  Running,
  LineOutcome,
  Went,
  Faulty,
  knows,
  serves,
  said_on,
  said_by,
  Ran,
  ran_on,
  act,
  take_line,
  run_lines,
  limit,
  outcome_of,
  AllSay,
}
use Rattle.script_laws.specs.Outcomes.{RunsAgree, OutcomesAgree}
use Rattle.script_laws.proofs.OneMeaning.{says_once}

-- what is taken first is taken in any case
said_first : (R : List ℕ → Type 0) (number : ℕ) (said : List (List ℕ)) (x : LineOutcome) (more : Reading → Ran) →
    AllByRecursion R (ran_on number said x more).said → AllByRecursion R said
said_first R number said (Went r text) more all = (out_parts R said (more r).said all).0
said_first R number said (Faulty reason) more all = all

-- Two functions give the same message for a text of which both P and Q hold. P holds of the texts that the one run
-- takes, and Q of those that the other takes.
module _ (meant other : List ℕ → Message) (P Q : List ℕ → Type 0)
    (alike : (text : List ℕ) → P text → Q text → meant text ≡ other text) where
  receives_alike : (meta : Metadata) (s : State) (c : ℕ) (text : List ℕ) (known : Bool) →
      AllByRecursion P (if known then text ∷ [] else []) → AllByRecursion Q (if known then text ∷ [] else []) →
      (if known then serves meta s (event.Receive c (meant text)) else Faulty Unknown)
      ≡ (if known then serves meta s (event.Receive c (other text)) else Faulty Unknown)
  receives_alike meta s c text true p q = ap (λ m. serves meta s (event.Receive c m)) (alike text p.0 q.0)
  receives_alike meta s c text false p q = refl

  acts_alike : (meta : Metadata) (s : State) (line : Option Line) → AllByRecursion P (said_on s line) →
      AllByRecursion Q (said_on s line) → act meant meta s line ≡ act other meta s line
  acts_alike meta s (Some (Receive c text)) p q = receives_alike meta s c text (knows s c) p q
  acts_alike meta s (Some line) p q = refl
  acts_alike meta s None p q = refl

  pub takes_alike : (reading : Reading) (l : List ℕ) → AllByRecursion P (said_by reading l) →
      AllByRecursion Q (said_by reading l) → take_line meant reading l ≡ take_line other reading l
  takes_alike (Heading metadata) l p q = refl
  takes_alike (Running meta s) l p q = acts_alike meta s (read_line l) p q

  goes_on_alike : (number : ℕ) (said : List (List ℕ)) (x : LineOutcome) (more further : Reading → Ran) →
      ((r : Reading) → AllByRecursion P (more r).said → AllByRecursion Q (further r).said → more r ≡ further r) →
      AllByRecursion P (ran_on number said x more).said → AllByRecursion Q (ran_on number said x further).said →
      ran_on number said x more ≡ ran_on number said x further
  goes_on_alike number said (Went r text) more further same p q =
      ap (λ (ran : Ran). record { text = text ++ ran.text; said = said ++ ran.said; standing = ran.standing })
      (same r (out_parts P said (more r).said p).1 (out_parts Q said (further r).said q).1)
  goes_on_alike number said (Faulty reason) more further same p q = refl

  pub runs_alike : (number : ℕ) (reading : Reading) (ls : List (List ℕ)) →
      AllByRecursion P (run_lines meant number reading ls).said →
      AllByRecursion Q (run_lines other number reading ls).said →
      run_lines meant number reading ls ≡ run_lines other number reading ls
  runs_alike number reading [] p q = refl
  runs_alike number reading (l ∷ ls) p q =
      let said = said_by reading l in
      let more = λ (r : Reading). run_lines meant (number + 1) r ls in
      let further = λ (r : Reading). run_lines other (number + 1) r ls in
      let same = takes_alike reading l (said_first P number said (take_line meant reading l) more p)
      (said_first Q number said (take_line other reading l) further q) in
      ap (λ (x : LineOutcome). ran_on number said x more) same
      ∙ goes_on_alike number said (take_line other reading l) more further (λ r. runs_alike (number + 1) r ls)
      (subst (λ (x : LineOutcome). AllByRecursion P (ran_on number said x more).said) same p) q

pub runs_agree : RunsAgree
runs_agree meant other =
    runs_alike meant other (λ t. Says t (meant t)) (λ t. Says t (other t)) (λ t. says_once t (meant t) (other t))

outcomes_by : (meant other : List ℕ → Message) (too_long : Bool) (parts : Lines) →
    AllSay meant (run_lines meant 1 (Heading []) parts.0).said →
    AllSay other (run_lines other 1 (Heading []) parts.0).said →
    outcome_of too_long parts (run_lines meant 1 (Heading []) parts.0)
    ≡ outcome_of too_long parts (run_lines other 1 (Heading []) parts.0)
outcomes_by meant other too_long parts p q =
    ap (λ (r : Ran). outcome_of too_long parts r) (runs_agree meant other 1 (Heading []) parts.0 p q)

pub outcomes_agree : OutcomesAgree
outcomes_agree meant other all p q =
    outcomes_by meant other (nat_lt limit (length all)) (lines (take limit all)) p q
