-- No script is without an outcome: along its run the texts that it takes are given their meanings, one after another.
use Rattle.std.proofs.Common.{◌≡◌, ◌∙◌, ap, sym, refl, subst, ℕ, ◌+◌, Bool, true, false, if◌then◌else◌, List, [], ◌∷◌}
use Rattle.std.specs.Prelude.{take}
use Rattle.std.specs.List.{AllByRecursion}
use Rattle.std.specs.Str.{bytes_eq}
use Rattle.std.proofs.lemmas.Slice.Eq.{bytes_eq-Decides}
use Rattle.data_model.proofs.Lists.{out_append}
use Rattle.request_model.proofs.ReadParts.{all_of}
use Rattle.machine.specs.Messages.{Message, Bad, Says}
use Rattle.machine.specs.Lines.{lines}
use Rattle.machine.specs.Script.{
  Reading,
  Heading,
  LineOutcome,
  Went,
  Faulty,
  said_by,
  Ran,
  ran_on,
  take_line,
  run_lines,
  limit,
  AllSay,
}
use Rattle.script_laws.specs.Outcomes.{HasRun, HasOutcome}
use Rattle.script_laws.proofs.OneMeaning.{says_once}
use Rattle.script_laws.proofs.SomeMeaning.{is_meant}
use Rattle.script_laws.proofs.SameOutcome.{takes_alike, runs_alike}

all_to : (P Q : List ℕ → Type 0) → ((u : List ℕ) → P u → Q u) → (us : List (List ℕ)) → AllByRecursion P us →
    AllByRecursion Q us
all_to P Q f [] all = tt
all_to P Q f (u ∷ us) all = (f u all.0, all_to P Q f us all.1)

-- One more text

abbrev with_meaning : (List ℕ → Message) → List ℕ → Message → List ℕ → Message
with_meaning meant t m u = if bytes_eq u t then m else meant u

module _ (meant : List ℕ → Message) (t : List ℕ) (m : Message) (says : Says t m) where
  abbrev wider : List ℕ → Message
  wider = with_meaning meant t m

  same_by : (u : List ℕ) (is_it : Bool) → (is_it ≡ true → u ≡ t) → Says u (meant u) →
      meant u ≡ (if is_it then m else meant u)
  same_by u true is says_it = says_once u (meant u) m says_it (subst (λ v. Says v m) (sym (is refl)) says)
  same_by u false is says_it = refl

  -- a text that had its meaning keeps it
  same : (u : List ℕ) → Says u (meant u) → meant u ≡ wider u
  same u says_it = same_by u (bytes_eq u t) (bytes_eq-Decides u t).0 says_it

  says_it_still : (u : List ℕ) → Says u (meant u) → Says u (wider u)
  says_it_still u says_it = subst (λ n. Says u n) (same u says_it) says_it

  -- the text itself has its own
  says_its_own : Says t (wider t)
  says_its_own = subst (λ n. Says t n)
      (ap (λ (is_it : Bool). if is_it then m else meant t) (sym ((bytes_eq-Decides t t).1 refl))) says

  -- a run stays what it is
  runs_still : (number : ℕ) (reading : Reading) (ls : List (List ℕ)) →
      AllSay meant (run_lines meant number reading ls).said → AllSay wider (run_lines wider number reading ls).said
  runs_still number reading ls all =
      subst (λ (r : Ran). AllSay wider r.said)
      (runs_alike meant wider (λ u. Says u (meant u)) (λ u. Unit {0}) (λ u says_it any. same u says_it) number reading
      ls all (all_of (λ u. Unit {0}) (λ u. tt) (run_lines wider number reading ls).said))
      (all_to (λ u. Says u (meant u)) (λ u. Says u (wider u)) says_it_still (run_lines meant number reading ls).said
      all)

-- Some more texts

module _ (number : ℕ) (reading : Reading) (ls : List (List ℕ)) where
  abbrev Runs : (List ℕ → Message) → Type 0
  Runs meant = AllSay meant (run_lines meant number reading ls).said

  with_texts : (meant : List ℕ → Message) → Runs meant → (texts : List (List ℕ)) →
      ((wider : List ℕ → Message) → AllSay wider texts → Runs wider → ⊥) → ⊥
  with_texts meant runs [] none = none meant tt runs
  with_texts meant runs (t ∷ ts) none =
      with_texts meant runs ts (λ more all still. is_meant t (λ m says.
      none (with_meaning more t m) (
        says_its_own more t m says,
        all_to (λ u. Says u (more u)) (λ u. Says u (with_meaning more t m u)) (says_it_still more t m says) ts all,
      )
      (runs_still more t m says number reading ls still)))

has_meanings : (texts : List (List ℕ)) → ((meant : List ℕ → Message) → AllSay meant texts → ⊥) → ⊥
has_meanings texts none =
    with_texts 1 (Heading []) [] (λ u. Bad) tt texts (λ meant all still. none meant all)

-- A line and those after it

module _ (number : ℕ) (reading : Reading) (l : List ℕ) (ls : List (List ℕ))
    (none : (meant : List ℕ → Message) → AllSay meant (run_lines meant number reading (l ∷ ls)).said → ⊥)
    (has_more : (r : Reading) →
    ((meant : List ℕ → Message) → AllSay meant (run_lines meant (number + 1) r ls).said → ⊥) → ⊥) where
  abbrev more : (List ℕ → Message) → Reading → Ran
  more meant r = run_lines meant (number + 1) r ls

  abbrev AllRun : (List ℕ → Message) → LineOutcome → Type 0
  AllRun meant x = AllSay meant (ran_on number (said_by reading l) x (more meant)).said

  by_line : (first : List ℕ → Message) → AllSay first (said_by reading l) → (x : LineOutcome) →
      take_line first reading l ≡ x → ⊥
  by_line first said (Faulty reason) is = none first (subst (AllRun first) (sym is) said)
  by_line first said (Went r text) is =
      has_more r (λ meant all. with_texts (number + 1) r ls meant all (said_by reading l) (λ wider again still.
      let same = takes_alike wider first (λ u. Says u (wider u)) (λ u. Says u (first u))
      (λ u. says_once u (wider u) (first u)) reading l again said in
      none wider (subst (AllRun wider) (sym (same ∙ is))
      (out_append (λ u. Says u (wider u)) (said_by reading l) (more wider r).said again still))))

  line_runs : ⊥
  line_runs = has_meanings (said_by reading l) (λ first said. by_line first said (take_line first reading l) refl)

lines_run : (ls : List (List ℕ)) (number : ℕ) (reading : Reading) →
    ((meant : List ℕ → Message) → AllSay meant (run_lines meant number reading ls).said → ⊥) → ⊥
lines_run [] number reading none = none (λ u. Bad) tt
lines_run (l ∷ ls) number reading none = line_runs number reading l ls none (λ r. lines_run ls (number + 1) r)

pub has_run : HasRun
has_run number reading ls = lines_run ls number reading

pub has_outcome : HasOutcome
has_outcome all none = has_run 1 (Heading []) (lines (take limit all)).0 none
