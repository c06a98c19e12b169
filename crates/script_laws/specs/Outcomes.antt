-- Scripts have one outcome each: it depends on no more than what the texts in them mean. This project's own.
use Rattle.std.specs.Prelude.{◌≡◌, ℕ, List}
use Rattle.machine.specs.Messages.{Message}
use Rattle.machine.specs.Script.{Reading, run_lines, outcome, AllSay}

-- two runs of lines are the same where each gives the texts that it takes their meanings
abbrev pub RunsAgree : Type 0
RunsAgree = (meant other : List ℕ → Message) (number : ℕ) (reading : Reading) (ls : List (List ℕ)) →
    AllSay meant (run_lines meant number reading ls).said → AllSay other (run_lines other number reading ls).said →
    run_lines meant number reading ls ≡ run_lines other number reading ls

-- and so are two outcomes of a script
abbrev pub OutcomesAgree : Type 0
OutcomesAgree = (meant other : List ℕ → Message) (all : List ℕ) →
    AllSay meant (outcome meant all).said → AllSay other (outcome other all).said →
    outcome meant all ≡ outcome other all

-- no lines are without such a run
abbrev pub HasRun : Type 0
HasRun = (number : ℕ) (reading : Reading) (ls : List (List ℕ)) →
    ((meant : List ℕ → Message) → AllSay meant (run_lines meant number reading ls).said → ⊥) → ⊥

-- and no script is without such an outcome
abbrev pub HasOutcome : Type 0
HasOutcome = (all : List ℕ) → ((meant : List ℕ → Message) → AllSay meant (outcome meant all).said → ⊥) → ⊥
